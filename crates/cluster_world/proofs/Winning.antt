-- What the numbers of a process become event by event, while a `set_lock` of it waits.
use Rattle.std.proofs.Common.{ℕ, zero, suc, Bool, true, false, ◌==◌, ◌≡◌, ◌≤◌, ◌+◌, ◌-◌, Option, Some, None, List, [], ◌∷◌, ◌++◌, length, map, refl, sym, ap, subst, ◌∙◌, arith}
use Rattle.std.specs.Prelude.{◌&&◌, is_none, is_some, find, flat_map, if◌then◌else◌}
use Rattle.std.specs.List.{list_all}
use Rattle.std.proofs.lemmas.Bool.{and_parts}
use Rattle.std.proofs.lemmas.List.{append-nil, length-append}
use Rattle.std.proofs.lemmas.List.Elements.{filter-append}
use Rattle.std.proofs.lemmas.List.Folds.{list_all-append}
use Rattle.registry_model.specs.Process.{Process, nodes_of}
use Rattle.protocol_model.specs.Letter.{Id, is_id}
use Rattle.protocol_model.specs.Event.{Call, Event, Answer, Refusal}
use Rattle.protocol_model.specs.ClientLocks.{Try, Tally, try_of, tried_again, waits_for_retry, last_try, is_won, gives, is_no_more, tallied, tally_after, tally_from}
use Rattle.protocol_model.specs.World.{Opening, World, WorldEvent, At, Deliver, place, refusal, happens, accepted, answers, run, all_answers}
use Rattle.getting_through.specs.NodeNames.{NamedOpening, opening_of as all_creations}
use Rattle.getting_through.specs.NamedWorld.{NamedWorld, NamedEvent, NamedRefusal, present_node, sender_to, plain_events, named_refusal, named_answers, happens_named}
use Rattle.getting_through.specs.NamedScript.{named_deliveries, next_named}
use Rattle.getting_through.proofs.Walk.{OrderedWalk, walked_in_order}
use Rattle.getting_through.proofs.Answering.{any_true}
use Rattle.getting_through.proofs.Chains.{up_before}
use Rattle.getting_through.proofs.Clients.{Numbers}
use Rattle.getting_through.proofs.RoundNumbers.{round_count_after}
use Rattle.getting_through.proofs.Told.{chain_of}
use Rattle.getting_through.proofs.Walking.{Grounds, State, event_keeps}
use Rattle.getting_through.proofs.Together.{All, all_opens, all_keeps, widens}
use Rattle.cluster_world.specs.Counting.{is_granted, has_to_ask, unless_gone}
use Rattle.cluster_world.specs.Seats.{verdict_in, next_for, awaiting}
use Rattle.cluster_world.proofs.OneEvent.{IsOne, one_at, one_delivered, one_then}
use Rattle.cluster_world.proofs.Verdicts.{verdict_in-append, under, is_under, true_granted}

-- a delivery, a retry, or a `del_lock`: none of them begins a try of its own
abbrev pub is_plain : WorldEvent → Bool
is_plain (Deliver f t) = true
is_plain (At a Event.Retry) = true
is_plain (At a (Event.Calling (Call.DelLock p r q target))) = true
is_plain _ = false

-- a delivery or a retry
abbrev pub is_waited : WorldEvent → Bool
is_waited (Deliver f t) = true
is_waited (At a Event.Retry) = true
is_waited _ = false

-- the same of events by names
abbrev pub is_named_waited : NamedEvent → Bool
is_named_waited (NamedEvent.Deliver f t) = true
is_named_waited (NamedEvent.AtNode n Event.Retry) = true
is_named_waited _ = false

found_passes : (p q : NamedEvent → Bool) (es : List NamedEvent) → list_all q es ≡ true → (e : NamedEvent)
    → find p es ≡ Some e → q e ≡ true
found_passes p q [] all e is = cc
found_passes p q (x ∷ xs) all e is = go (p x) is (λ h. found_passes p q xs parts.1 e h)
  where
    parts : (q x ≡ true) × (list_all q xs ≡ true)
    parts = and_parts (q x) (list_all q xs) all

    go : (b : Bool) → (if b then Some x else find p xs) ≡ Some e → (find p xs ≡ Some e → q e ≡ true) → q e ≡ true
    go true h rest = let same : x ≡ e = cc h in subst (λ (y : NamedEvent). q y ≡ true) same parts.0
    go false h rest = rest h

-- what a call waits for is a delivery or a retry
pub waits_for : (o : NamedOpening) (a : ℕ) (w : NamedWorld) → is_named_waited (next_for o a w) ≡ true
waits_for o a w = go (next_named o w) refl
  where
    row : (f : ℕ) (ns : List ℕ) → list_all is_named_waited (map (λ t. NamedEvent.Deliver f t) ns) ≡ true
    row f [] = refl
    row f (n ∷ ns) = row f ns

    rows : (ms ns : List ℕ) → list_all is_named_waited (flat_map (λ f. map (λ t. NamedEvent.Deliver f t) ns) ms) ≡ true
    rows [] ns = refl
    rows (m ∷ ms) ns = list_all-append is_named_waited (map (λ t. NamedEvent.Deliver m t) ns)
        (flat_map (λ f. map (λ t. NamedEvent.Deliver f t) ns) ms) ∙ rw (row m ns, rows ms ns) refl

    go : (r : Option NamedEvent) → next_named o w ≡ r
        → is_named_waited (elim r [ None ↦ NamedEvent.AtNode a Event.Retry | Some e ↦ e ]) ≡ true
    go None h = refl
    go (Some e) h = found_passes (λ d. is_none (named_refusal o w d)) is_named_waited (named_deliveries o)
        (rows (nodes_of o.bound o.names) (nodes_of o.bound o.names)) e h

-- which is one event of the world
pub one_waited : (o : NamedOpening) (w : NamedWorld) (e : NamedEvent) → is_named_waited e ≡ true
    → named_refusal o w e ≡ None → (x : WorldEvent) × (IsOne o w e x × (is_waited x ≡ true))
one_waited o w (NamedEvent.Deliver f t) h free =
    (Deliver (sender_to o w f t) (present_node o w t), (one_delivered o w f t free, refl))
one_waited o w (NamedEvent.AtNode n Event.Retry) h free = (At n Event.Retry, (one_at o w n Event.Retry free, refl))
one_waited o w (NamedEvent.AtNode n (Event.Calling c)) h free = absurd (cc h)
one_waited o w (NamedEvent.AtNode n (Event.Exiting q)) h free = absurd (cc h)
one_waited o w (NamedEvent.AtNode n Event.Leave) h free = absurd (cc h)
one_waited o w (NamedEvent.At x e) h free = absurd (cc h)
one_waited o w (NamedEvent.Restart x) h free = absurd (cc h)

pub waited_plain : (e : WorldEvent) → is_waited e ≡ true → is_plain e ≡ true
waited_plain (Deliver f t) h = refl
waited_plain (At a Event.Retry) h = refl
waited_plain (At a (Event.Calling c)) h = cc
waited_plain (At a (Event.Exiting q)) h = cc
waited_plain (At a Event.Leave) h = cc

-- no deletion is among what a call waits for
pub waited_gives : (w : World) (e : WorldEvent) (p : Process) (i : Id) (c : ℕ) → is_waited e ≡ true
    → gives w e p i c ≡ false
waited_gives w (Deliver f t) p i c h = refl
waited_gives w (At a Event.Retry) p i c h = refl
waited_gives w (At a (Event.Calling d)) p i c h = cc
waited_gives w (At a (Event.Exiting q)) p i c h = cc
waited_gives w (At a Event.Leave) p i c h = cc

-- the last try is one of this call
abbrev pub IsOf : ℕ → Id → Option Try → Type 0
IsOf k id t = (s : Try) × ((t ≡ Some s) × ((s.number ≡ k) × (s.id ≡ id)))

-- and it stays so while the call waits
pub stays_of : (w : World) (e : WorldEvent) (p : Process) (k : ℕ) (id : Id) (t : Option Try) → is_waited e ≡ true
    → IsOf k id t → IsOf k id (last_try w e p t)
stays_of w (Deliver f b) p k id t h is = is
stays_of w (At a Event.Retry) p k id t h is = go ((a == p.node) && waits_for_retry w p)
  where
    again : tried_again (w.node a).replica.members t
        ≡ Some (try_of (w.node a).replica.members is.0.number is.0.id is.0.target)
    again = ap (tried_again (w.node a).replica.members) is.1.0

    go : (b : Bool) → IsOf k id (if b then tried_again (w.node a).replica.members t else t)
    go true = (_, (again, is.1.1))
    go false = is
stays_of w (At a (Event.Calling c)) p k id t h is = cc
stays_of w (At a (Event.Exiting q)) p k id t h is = cc
stays_of w (At a Event.Leave) p k id t h is = cc

module _ (o : Opening) where
  pub grounds : Grounds o (All o)
  grounds = record {
    opens = all_opens o;
    keeps = λ a w r I sorted m. all_keeps o a w r I sorted m;
    proper = λ w I. I.proper;
    wide = λ w I once. widens o w I once;
  }

  -- what holds behind every list of events
  abbrev pub Behind : World → Numbers → Type 0
  Behind w num = State o (All o) grounds w num

  pub happened : (w : World) (e : WorldEvent) → refusal o w e ≡ None → happens o w e ≡ accepted o w e
  happened w e h = ap (λ (r : Option Refusal). if is_none r then accepted o w e else w) h

  -- who isn't gone wasn't gone
  pub gone_before : (w : World) (num : Numbers) → Behind w num → (e : WorldEvent) → refusal o w e ≡ None
      → (p : Process) → is_no_more (happens o w e) p ≡ false → is_no_more w p ≡ false
  gone_before w num S e h p up = up_before o (place e) (chain_of o w e walked.walk.rest) w p
      (ap (λ (v : World). is_no_more v p) (walked.walk.world ∙ sym (happened w e h)) ∙ up)
    where
      walked : OrderedWalk o w e
      walked = walked_in_order o w e S.ordered (grounds.wide w S.family S.once) h

  module _ (p : Process) (i : Id) (c : ℕ) where
    -- what an accepted event makes of a number n
    pub counted_so : (w : World) (e : WorldEvent) (k : Tally) (n : ℕ) (won given : Bool) → refusal o w e ≡ None
        → (is_no_more (happens o w e) p ≡ false → (k.number ≡ n)
        × (is_won p i c (answers o w e) (last_try w e p k.last) ≡ won))
        → gives w e p i c ≡ given
        → (tally_after o w e p i c k).number ≡ unless_gone (happens o w e) p
        (if won then n + 1 else (if given then n - 1 else n))
    counted_so w e k n won given free same goes =
        ap (λ (r : Option Refusal). (if is_none r then tallied o w e p i c k else k).number) free
        ∙ go (is_no_more (happens o w e) p) (gives w e p i c) same goes
      where
        go : (gone d : Bool) → (gone ≡ false → (k.number ≡ n)
            × (is_won p i c (answers o w e) (last_try w e p k.last) ≡ won)) → d ≡ given
            → (if gone then 0 else (if is_won p i c (answers o w e) (last_try w e p k.last) then k.number + 1 else
            (if d then k.number - 1 else k.number))) ≡ (if gone then 0 else
            (if won then n + 1 else (if given then n - 1 else n)))
        go true d f g = refl
        go false d f g =
            ap (λ (b : Bool). if b then k.number + 1 else (if d then k.number - 1 else k.number)) (f refl).1
            ∙ ap (λ (m : ℕ). if won then m + 1 else (if d then m - 1 else m)) (f refl).0
            ∙ ap (λ (b : Bool). if won then n + 1 else (if b then n - 1 else n)) g

    pub last_so : (w : World) (e : WorldEvent) (k : Tally) → refusal o w e ≡ None
        → (tally_after o w e p i c k).last ≡ last_try w e p k.last
    last_so w e k free = ap (λ (r : Option Refusal). (if is_none r then tallied o w e p i c k else k).last) free

    -- a number that is n unless p is gone
    abbrev pub IsNow : World → Tally → ℕ → Type 0
    IsNow w k n = k.number ≡ unless_gone w p n

    pub now_up : (w : World) (k : Tally) (n : ℕ) → IsNow w k n → is_no_more w p ≡ false → k.number ≡ n
    now_up w k n is up = is ∙ ap (λ (b : Bool). if b then 0 else n) up

    module _ (k : ℕ) (id : Id) where
      -- what a try of this call wins by these answers
      won_so : (ss : List Answer) (t : Option Try) → IsOf k id t → (g : Bool) → any_true p.node k ss ≡ g
          → is_won p i c ss t ≡ (is_id id i && has_to_ask c t && g)
      won_so ss t is g said =
          ap (is_won p i c ss) is.1.0
          ∙ ap (λ (m : ℕ). is_id is.0.id i && is.0.asks c && any_true p.node m ss) is.1.1.0
          ∙ ap (λ (b : Bool). is_id is.0.id i && is.0.asks c && b) said
          ∙ ap (λ (j : Id). is_id j i && is.0.asks c && g) is.1.1.1
          ∙ ap (λ (u : Option Try). is_id id i && has_to_ask c u && g) (sym is.1.0)

      -- these events are answered so: one more where the last try had to ask c and the call is granted
      abbrev pub CountsSo : World → List WorldEvent → Tally → ℕ → Type 0
      CountsSo w es j n = IsNow (run o w es) (tally_from o w es p i c j)
          (if is_id id i && has_to_ask c (tally_from o w es p i c j).last
          && is_granted (verdict_in p.node k (all_answers o w es)) then n + 1 else n)

      abbrev pub Once : World → List WorldEvent → Type 0
      Once w es = length (under p.node k (all_answers o w es)) ≤ 1

      off : (b : Bool) (n : ℕ) → n ≡ (if b && false then n + 1 else n)
      off true n = refl
      off false n = refl

      pub nothing : (w : World) (j : Tally) (n : ℕ) → IsNow w j n → CountsSo w [] j n
      nothing w j n is = is ∙ ap (unless_gone w p) (off (is_id id i && has_to_ask c j.last) n)

      -- an event, and then others where it leaves the call unanswered
      pub answered_so : (w : World) (num : Numbers) → Behind w num → (e : WorldEvent) (es : List WorldEvent) (j : Tally)
          (n : ℕ) → refusal o w e ≡ None → IsOf k id (last_try w e p j.last) → gives w e p i c ≡ false
          → (is_no_more (happens o w e) p ≡ false → j.number ≡ n)
          → (IsOf k id (tally_after o w e p i c j).last
          → IsNow (happens o w e) (tally_after o w e p i c j) n → Once (happens o w e) es
          → CountsSo (happens o w e) es (tally_after o w e p i c j) n)
          → Once w (e ∷ (if is_some (verdict_in p.node k (answers o w e)) then [] else es))
          → CountsSo w (e ∷ (if is_some (verdict_in p.node k (answers o w e)) then [] else es)) j n
      answered_so w num S e es j n free is none same later once =
          go (verdict_in p.node k (answers o w e)) refl once
        where
          after : Tally
          after = tally_after o w e p i c j

          counted : (g : Bool) → any_true p.node k (answers o w e) ≡ g
              → IsNow (happens o w e) after
              (if is_id id i && has_to_ask c (last_try w e p j.last) && g then n + 1 else n)
          counted g said = counted_so w e j n (is_id id i && has_to_ask c (last_try w e p j.last) && g) false free
              (λ up. (same up, won_so (answers o w e) (last_try w e p j.last) is g said)) none

          go : (v : Option Bool) → verdict_in p.node k (answers o w e) ≡ v
              → Once w (e ∷ (if is_some v then [] else es)) → CountsSo w (e ∷ (if is_some v then [] else es)) j n
          go (Some g) said h =
              let all : answers o w e ++ [] ≡ answers o w e = append-nil (answers o w e) in
              counted (is_granted (verdict_in p.node k (answers o w e ++ [])))
              (ap (any_true p.node k) (sym all) ∙ true_granted p.node k (answers o w e ++ []) h)
              ∙ ap (λ (t : Option Try). unless_gone (happens o w e) p (if is_id id i && has_to_ask c t
              && is_granted (verdict_in p.node k (answers o w e ++ [])) then n + 1 else n)) (sym (last_so w e j free))
          go None said h =
              let sum : length (under p.node k (answers o w e ++ all_answers o (happens o w e) es))
              ≡ length (under p.node k (answers o w e)) + length (under p.node k (all_answers o (happens o w e) es)) =
              ap length (filter-append (is_under p.node k) (answers o w e) (all_answers o (happens o w e) es))
              ∙ length-append (under p.node k (answers o w e)) (under p.node k (all_answers o (happens o w e) es)) in
              later (subst (IsOf k id) (sym (last_so w e j free)) is)
              (counted false (true_granted p.node k (answers o w e) (omega (arith, h, sum)) ∙ ap is_granted said)
              ∙ ap (unless_gone (happens o w e) p) (sym (off (is_id id i && has_to_ask c (last_try w e p j.last)) n)))
              (omega (arith, h, sum))
              ∙ ap (λ (v : Option Bool). unless_gone (run o (happens o w e) es) p (if is_id id i
              && has_to_ask c (tally_from o (happens o w e) es p i c after).last && is_granted v then n + 1 else n))
              (sym (verdict_in-append p.node k (answers o w e) (all_answers o (happens o w e) es) said))

module _ (o : NamedOpening) (p : Process) (i : Id) (c k : ℕ) (id : Id) where
  abbrev O : Opening
  O = all_creations o

  -- at most so many events behind this world count so
  abbrev Waits : ℕ → NamedWorld → ℕ → Type 0
  Waits most w n = (num : Numbers) → Behind O w.world num → (j : Tally) → IsOf k id j.last → IsNow O p i c w.world j n
      → Once O p i c k id w.world (plain_events o w (awaiting o p.node k most w))
      → CountsSo O p i c k id w.world (plain_events o w (awaiting o p.node k most w)) j n

  -- and so do one more before them
  waited_more : (most : ℕ) (w : NamedWorld) (n : ℕ) → Waits most (happens_named o w (next_for o p.node w)) n
      → Waits (suc most) w n
  waited_more most w n rest num S j is now once = go (named_refusal o w e) refl once
    where
      e : NamedEvent
      e = next_for o p.node w

      v : NamedWorld
      v = happens_named o w e

      more : List WorldEvent
      more = plain_events o v (awaiting o p.node k most v)

      on : List NamedEvent
      on = e ∷ (if is_some (verdict_in p.node k (named_answers o w e)) then [] else awaiting o p.node k most v)

      accepted_so : named_refusal o w e ≡ None → Once O p i c k id w.world (plain_events o w on)
          → CountsSo O p i c k id w.world (plain_events o w on) j n
      accepted_so free h = subst (λ (es : List WorldEvent). CountsSo O p i c k id w.world es j n) (sym events)
          (answered_so O p i c k id w.world num S x more j n I.free (stays_of w.world x p k id j.last waited is)
          (waited_gives w.world x p i c waited)
          (λ up. now_up O p i c w.world j n now (gone_before O w.world num S x I.free p up)) later
          (subst (λ (es : List WorldEvent). Once O p i c k id w.world es) events h))
        where
          found : (x : WorldEvent) × (IsOne o w e x × (is_waited x ≡ true))
          found = one_waited o w e (waits_for o p.node w) free

          x : WorldEvent
          x = found.0

          I : IsOne o w e x
          I = found.1.0

          waited : is_waited x ≡ true
          waited = found.1.1

          events : plain_events o w on
              ≡ x ∷ (if is_some (verdict_in p.node k (answers O w.world x)) then [] else more)
          events = one_then o w p.node k e x (awaiting o p.node k most v) I

          after : Tally
          after = tally_after O w.world x p i c j

          counted : Numbers
          counted = λ q y z. round_count_after O w.world x q y z (num q y z)

          later : IsOf k id after.last → IsNow O p i c (happens O w.world x) after n
              → Once O p i c k id (happens O w.world x) more → CountsSo O p i c k id (happens O w.world x) more after n
          later of then_now h2 = subst (λ (u : World). CountsSo O p i c k id u more after n) I.world
              (rest counted
              (subst (λ (u : World). Behind O u counted) (sym I.world)
              (event_keeps O (All O) (grounds O) w.world x num S)) after of
              (subst (λ (u : World). IsNow O p i c u after n) (sym I.world) then_now)
              (subst (λ (u : World). Once O p i c k id u more) (sym I.world) h2))

      go : (r : Option NamedRefusal) → named_refusal o w e ≡ r
          → Once O p i c k id w.world (plain_events o w (if is_some r then [] else on))
          → CountsSo O p i c k id w.world (plain_events o w (if is_some r then [] else on)) j n
      go (Some r) refused h = nothing O p i c k id w.world j n now
      go None free h = accepted_so free h

  -- so it is while the call waits
  pub waited_so : (most : ℕ) (w : NamedWorld) (n : ℕ) → Waits most w n
  waited_so zero w n = λ num S j is now once. nothing O p i c k id w.world j n now
  waited_so (suc most) w n = waited_more most w n (waited_so most (happens_named o w (next_for o p.node w)) n)
