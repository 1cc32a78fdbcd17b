-- What `settle` delivers by names, and what it prints.
use mathlib.Core.Logic.{inl, inr}
use Rattle.std.proofs.Common.{ℕ, zero, suc, Bool, true, false, ◌≡◌, ◌<◌, ◌≤◌, ◌+◌, Option, Some, None, List, [], ◌∷◌, ◌++◌, length, map, refl, sym, ap, subst, ◌∙◌, arith}
use Rattle.std.specs.Prelude.{◌↔◌, ◌||◌, not, Contains, is_none, option_map, nat_lt, if◌then◌else◌}
use Rattle.std.proofs.lemmas.Bool.{and_parts, ltb-true, cases_order}
use Rattle.std.proofs.lemmas.List.{append_assoc, map-append}
use Rattle.registry_model.specs.Process.{nodes_of}
use Rattle.registry_model.proofs.NodeLists.{are_nodes_below}
use Rattle.protocol_model.specs.Links.{is_nil}
use Rattle.protocol_model.specs.Letter.{Letter}
use Rattle.protocol_model.specs.Event.{Answer, Refusal, NoSuchNode, NodeLeft, EmptyLink}
use Rattle.protocol_model.specs.World.{World, in_world, left, WorldEvent, refusal, all_answers}
use Rattle.protocol_model.proofs.Courses.{answers-append}
use Rattle.creations.specs.NodeNames.{NamedOpening, is_name, node_of, name_of, creation_of, opening_of}
use Rattle.creations.specs.NamedWorld.{NamedWorld, NamedEvent, Deliver, Plain, present_node, has_started, sender_to, named_refusal, plain_accepted, named_answers, happens_named, run_named, plain_events, after_events}
use Rattle.creations.specs.NamedScript.{NamedLine, NamedOutput, Said, Settled, SettleLimit, settled, next_named, named_deliveries_left, printed}
use Rattle.creations.proofs.Numbers.{name-node, node-number, inside-name, is_creation}
use Rattle.creations.proofs.Lists.{nodes_rise}
use Rattle.creations.proofs.Standing.{Sound, started_to, present_started, up_present}
use Rattle.creations.proofs.NamedRuns.{happens-plain}
use Rattle.creations.proofs.Always.{always, happens_keeps}
use Rattle.named_events.specs.Events.{IsOldestSender}
use Rattle.named_events.specs.Settling.{LetterWaitsByName, NoLetterWaits, IsFirstByName, SettlesByName, SettlingByName}
use Rattle.named_events.proofs.OfNodes.{sender, delivery}
use Rattle.named_events.proofs.Rows.{FromAll, from_all}
use Rattle.creations.specs.Worlds.{IsQuiet}
use Rattle.creations.specs.WorldsOfNames.{of_names}

-- what a world refuses of a delivery, by what is tested
abbrev by_tests : Bool → Bool → Bool → List Letter → Option Refusal
by_tests i j l ls =
    if not i || not j then Some NoSuchNode else (if l then Some NodeLeft else (if is_nil ls then Some EmptyLink else None))

record Passes (i j l : Bool) (ls : List Letter) : Type 0 where
  pub receiver : i ≡ true
  pub sender : j ≡ true
  pub runs : l ≡ false
  pub waits : ls ≡ [] → ⊥

passes : (i j l : Bool) (ls : List Letter) → is_none (by_tests i j l ls) ≡ true → Passes i j l ls
passes true true false (l ∷ ls) e = record { receiver = refl; sender = refl; runs = refl; waits = λ q. absurd (cc q) }
passes true true false [] e = absurd (cc e)
passes true true true ls e = absurd (cc e)
passes true false l ls e = absurd (cc e)
passes false j l ls e = absurd (cc e)

passing : (i j l : Bool) (ls : List Letter) → Passes i j l ls → is_none (by_tests i j l ls) ≡ true
passing true true false (l ∷ ls) P = refl
passing true true false [] P = absurd (P.waits refl)
passing true true true ls P = absurd (cc (P.runs))
passing true false l ls P = absurd (cc (P.sender))
passing false j l ls P = absurd (cc (P.receiver))

-- a refusal by names is one where there is one in the world
none_plain : (x : Option Refusal) → is_none (option_map Plain x) ≡ is_none x
none_plain None = refl
none_plain (Some y) = refl

module _ (o : NamedOpening) (w : NamedWorld) (s : Sound o w) where
  abbrev accepts : NamedEvent → Bool
  accepts e = is_none (named_refusal o w e)

  -- the node of a name is of the world where the name is
  inside : (f c : ℕ) → 1 ≤ c → c ≤ w.present f → in_world (opening_of o) (node_of o f c) ≡ is_name o f
  inside f c i l =
      let top : c ≤ o.last + 1 = (let k : w.present f ≤ o.last + 1 = (s.present f).last in omega arith) in
      inside-name o (node_of o f c) ∙ ap (is_name o) (name-node o f c (record { first = i; last = top }))

  present_inside : (t : ℕ) → in_world (opening_of o) (present_node o w t) ≡ is_name o t
  present_inside t = inside t (w.present t) (s.present t).first (omega arith)

  -- what a delivery by names is tested for
  tests : (f t : ℕ) → accepts (Deliver f t) ≡ is_none (by_tests (in_world (opening_of o) (present_node o w t))
      (in_world (opening_of o) (sender_to o w f t)) (left w.world (present_node o w t))
      (w.world.links.queue (sender_to o w f t) (present_node o w t)))
  tests f t = ap is_none (delivery o w s f t).refused
      ∙ none_plain (refusal (opening_of o) w.world (WorldEvent.Deliver (sender_to o w f t) (present_node o w t)))

  waits_by : (f t : ℕ) → accepts (Deliver f t) ≡ true → LetterWaitsByName o w f t
  waits_by f t h =
      let from : IsOldestSender o w f (present_node o w t) (sender_to o w f t) = sender o w s f (present_node o w t) in
      let P : Passes (in_world (opening_of o) (present_node o w t)) (in_world (opening_of o) (sender_to o w f t))
      (left w.world (present_node o w t)) (w.world.links.queue (sender_to o w f t) (present_node o w t)) =
      passes (in_world (opening_of o) (present_node o w t)) (in_world (opening_of o) (sender_to o w f t))
      (left w.world (present_node o w t)) (w.world.links.queue (sender_to o w f t) (present_node o w t)) (sym (tests f t) ∙ h) in
      record {
        sender = sym (ap (in_world (opening_of o)) from.node ∙ inside f from.creation from.first from.last) ∙ P.sender;
        receiver = sym (present_inside t) ∙ P.receiver;
        runs = P.runs;
        creation = from.creation;
        first = from.first;
        last = from.last;
        waits = λ e. P.waits (ap (λ (n : ℕ). w.world.links.queue n (present_node o w t)) from.node ∙ e);
      }

  -- where a letter of the name waits, one of its first sender does
  first_waits : (f n m : ℕ) → IsOldestSender o w f n m → (c : ℕ) → 1 ≤ c → c ≤ w.present f
      → (w.world.links.queue (node_of o f c) n ≡ [] → ⊥) → w.world.links.queue m n ≡ [] → ⊥
  first_waits f n m from c i l some none = elim (cases_order c from.creation) [
    | inl same ↦ some (ap (λ (d : ℕ). w.world.links.queue (node_of o f d) n) same
        ∙ ap (λ (x : ℕ). w.world.links.queue x n) (sym from.node) ∙ none)
    | inr (inl less) ↦ some (from.older c i less)
    | inr (inr more) ↦ elim (from.waits) [
      | inl waits ↦ waits none
      | inr last ↦ omega (arith, last, more, l)
    ]
  ]

  accepted_by : (f t : ℕ) → LetterWaitsByName o w f t → accepts (Deliver f t) ≡ true
  accepted_by f t L =
      let from : IsOldestSender o w f (present_node o w t) (sender_to o w f t) = sender o w s f (present_node o w t) in
      tests f t ∙ passing (in_world (opening_of o) (present_node o w t)) (in_world (opening_of o) (sender_to o w f t))
      (left w.world (present_node o w t)) (w.world.links.queue (sender_to o w f t) (present_node o w t)) (record {
        receiver = present_inside t ∙ L.receiver;
        sender = ap (in_world (opening_of o)) from.node ∙ inside f from.creation from.first from.last ∙ L.sender;
        runs = L.runs;
        waits = first_waits f (present_node o w t) (sender_to o w f t) from L.creation L.first L.last L.waits;
      })

  abbrev names : List ℕ
  names = nodes_of o.bound o.names

  listed : (x : ℕ) → is_name o x ≡ true → Contains names x
  listed x e =
      let parts : (nat_lt x o.bound ≡ true) × (o.names x ≡ true) = and_parts (nat_lt x o.bound) (o.names x) e in
      ((are_nodes_below o.bound o.names).below x).1 (ltb-true x o.bound parts.0, parts.1)

  -- what the next delivery says of the letters that wait
  abbrev Says : Option NamedEvent → Type 0
  Says None = NoLetterWaits o w
  Says (Some e) = IsFirstByName o w e

  pub next_says : Says (next_named o w)
  next_says = by (next_named o w) (from_all accepts names names (nodes_rise o.bound o.names) (nodes_rise o.bound o.names))
    where
      by : (x : Option NamedEvent) → FromAll accepts names names x → Says x
      by None F = λ f t L. cc (F f t (listed f L.sender) (listed t L.receiver), accepted_by f t L)
      by (Some e) F = record {
        sender = F.0;
        receiver = F.1;
        delivery = F.2;
        waits = waits_by F.0 F.1 F.5;
        first = λ g u L. F.6 g u (listed g L.sender) (listed u L.receiver) (accepted_by g u L);
      }

  -- where no letter waits by names, none waits for a node that has started and runs
  module _ (es : List NamedEvent) where
    quiet_by : NoLetterWaits o w → IsQuiet (of_names o) w
    quiet_by none f c i up = go (has_started o w f) refl (w.world.links.queue f c) refl
      where
        here : c ≡ present_node o w (name_of o c)
        here = up_present o w s c up

        go : (b : Bool) → has_started o w f ≡ b → (ls : List Letter) → w.world.links.queue f c ≡ ls → ls ≡ []
        go b q [] e = refl
        go false q (l ∷ ls) e = absurd (cc (s.apart.silent f c q, e))
        go true q (l ∷ ls) e = absurd (none (name_of o f) (name_of o c) (record {
          sender = sym (inside-name o f) ∙ i;
          receiver = sym (inside-name o c) ∙ up.inside;
          runs = ap (left w.world) (sym here) ∙ up.stays;
          creation = creation_of o f;
          first = (is_creation o f).first;
          last = started_to o w f q;
          waits = λ z. absurd (cc (
            e,
            ap (λ (n : ℕ). w.world.links.queue n c) (sym (node-number o f))
                ∙ ap (λ (n : ℕ). w.world.links.queue (node_of o (name_of o f) (creation_of o f)) n) here ∙ z,
          ));
        }))

    none_by : IsQuiet (of_names o) w → NoLetterWaits o w
    none_by quiet f t L = L.waits (quiet (node_of o f L.creation) (present_node o w t)
        (inside f L.creation L.first L.last ∙ L.sender) (record {
          inside = present_inside t ∙ L.receiver;
          started = present_started o w s t;
          stays = L.runs;
        }))

  next_none : (next_named o w ≡ None) ↔ NoLetterWaits o w
  next_none = (λ h. subst Says h next_says, λ none. go none (next_named o w) next_says)
    where
      go : NoLetterWaits o w → (x : Option NamedEvent) → Says x → x ≡ None
      go none None S = refl
      go none (Some e) S = absurd (none S.sender S.receiver S.waits)

  next_first : (e : NamedEvent) → next_named o w ≡ Some e → IsFirstByName o w e
  next_first e h = subst Says h next_says

module _ (o : NamedOpening) where
  -- the deliveries of `settle`, where the next is this
  abbrev settle_by : ℕ → NamedWorld → Option NamedEvent → List NamedEvent
  settle_by most w None = []
  settle_by most w (Some e) = e ∷ named_deliveries_left o most (happens_named o w e)

  settle_is : (most : ℕ) (w : NamedWorld) → named_deliveries_left o (suc most) w ≡ settle_by most w (next_named o w)
  settle_is most w = go (next_named o w)
    where
      go : (x : Option NamedEvent) → elim x as (λ _. List NamedEvent)
          [ None ↦ [] | Some e ↦ e ∷ named_deliveries_left o most (happens_named o w e) ] ≡ settle_by most w x
      go None = refl
      go (Some e) = refl

  each_first : (most : ℕ) (w : NamedWorld) → Sound o w → (before after : List NamedEvent) (e : NamedEvent)
      → named_deliveries_left o most w ≡ before ++ e ∷ after → IsFirstByName o (run_named o w before) e
  each_first zero w s [] after e h = absurd (cc h)
  each_first zero w s (d ∷ before) after e h = absurd (cc h)
  each_first (suc most) w s before after e h =
      go (λ v k b i. each_first most v k b after e i) (next_named o w) refl before (sym (settle_is most w) ∙ h)
    where
      go : ((v : NamedWorld) → Sound o v → (before : List NamedEvent) → named_deliveries_left o most v ≡ before ++ e ∷ after
          → IsFirstByName o (run_named o v before) e)
          → (x : Option NamedEvent) → next_named o w ≡ x → (before : List NamedEvent) → settle_by most w x ≡ before ++ e ∷ after
          → IsFirstByName o (run_named o w before) e
      go by None i [] h = absurd (cc h)
      go by None i (d ∷ before) h = absurd (cc h)
      go by (Some d) i [] h = let same : d ≡ e = cc h in next_first o w s e (i ∙ ap Some same)
      go by (Some d) i (c ∷ before) h =
          let same : d ≡ c = cc h in
          let more : named_deliveries_left o most (happens_named o w d) ≡ before ++ e ∷ after = cc h in
          subst (λ (v : NamedEvent). IsFirstByName o (run_named o (happens_named o w v) before) e) same
          (by (happens_named o w d) (happens_keeps o w d s) before more)

  in_limit : (most : ℕ) (w : NamedWorld) → length (named_deliveries_left o most w) ≤ most
  in_limit zero w = omega arith
  in_limit (suc most) w = subst (λ (es : List NamedEvent). length es ≤ suc most) (sym (settle_is most w))
      (go (in_limit most) (next_named o w))
    where
      go : ((v : NamedWorld) → length (named_deliveries_left o most v) ≤ most) → (x : Option NamedEvent)
          → length (settle_by most w x) ≤ suc most
      go by None = omega arith
      go by (Some e) = omega (arith, by (happens_named o w e))

  stops_there : (most : ℕ) (w : NamedWorld) → Sound o w → length (named_deliveries_left o most w) < most
      → NoLetterWaits o (run_named o w (named_deliveries_left o most w))
  stops_there zero w s h = absurd (omega (arith, h))
  stops_there (suc most) w s h = subst (λ (es : List NamedEvent). NoLetterWaits o (run_named o w es)) (sym (settle_is most w))
      (go (stops_there most) (next_named o w) refl
      (subst (λ (es : List NamedEvent). length es < suc most) (settle_is most w) h))
    where
      go : ((v : NamedWorld) → Sound o v → length (named_deliveries_left o most v) < most
          → NoLetterWaits o (run_named o v (named_deliveries_left o most v)))
          → (x : Option NamedEvent) → next_named o w ≡ x → length (settle_by most w x) < suc most
          → NoLetterWaits o (run_named o w (settle_by most w x))
      go by None i l = (next_none o w s).0 i
      go by (Some e) i l = by (happens_named o w e) (happens_keeps o w e s) (omega (arith, l))

  -- the answers to an event and those to more of them
  answers_first : (w : NamedWorld) (e : NamedEvent) (ds : List NamedEvent)
      → all_answers (opening_of o) w.world (plain_events o w (e ∷ ds))
      ≡ named_answers o w e ++ all_answers (opening_of o) (happens_named o w e).world (plain_events o (happens_named o w e) ds)
  answers_first w e ds =
      answers-append (opening_of o) w.world (plain_accepted o w e) (plain_events o (happens_named o w e) ds)
      ∙ ap (λ (v : World). named_answers o w e ++ all_answers (opening_of o) v (plain_events o (happens_named o w e) ds))
      (sym (happens-plain o w e))

  prints_first : (w : NamedWorld) (e : NamedEvent) (ds : List NamedEvent) → printed o w NamedLine.Settle (e ∷ ds)
      ≡ map Said (named_answers o w e) ++ printed o (happens_named o w e) NamedLine.Settle ds
  prints_first w e ds =
      ap (λ (l : List Answer). map Said l ++ last) (answers_first w e ds)
      ∙ ap (λ (l : List NamedOutput). l ++ last) (map-append Said (named_answers o w e) more)
      ∙ append_assoc (map Said (named_answers o w e)) (map Said more) last
    where
      more : List Answer
      more = all_answers (opening_of o) (happens_named o w e).world (plain_events o (happens_named o w e) ds)

      last : List NamedOutput
      last = settled o (next_named o (run_named o w (e ∷ ds))) ∷ []

  prints_settled : (w : NamedWorld) → Sound o w → NoLetterWaits o w → printed o w NamedLine.Settle [] ≡ Settled ∷ []
  prints_settled w s none =
      ap (λ (x : Option NamedEvent). settled o x ∷ []) ((next_none o w s).1 none)

  prints_unsettled : (w : NamedWorld) → Sound o w → (NoLetterWaits o w → ⊥)
      → printed o w NamedLine.Settle [] ≡ SettleLimit ∷ []
  prints_unsettled w s waits = go (next_named o w) refl
    where
      go : (x : Option NamedEvent) → next_named o w ≡ x → settled o x ∷ [] ≡ SettleLimit ∷ []
      go None e = absurd (waits ((next_none o w s).0 e))
      go (Some d) e = refl

  settles : (es : List NamedEvent) (w : NamedWorld) → Sound o w → SettlesByName o es w
  settles es w s = record {
    none = next_none o w s;
    some = next_first o w s;
    each = λ most before after e h. each_first most w s before after e h;
    limit = λ most. in_limit most w;
    stops = λ most h. stops_there most w s h;
    answers = prints_first w;
    settled = prints_settled w s;
    unsettled = prints_unsettled w s;
    plays = λ most. refl;
    quiet = (quiet_by o w s es, none_by o w s es);
  }

pub settling_delivers_the_first : SettlingByName
settling_delivers_the_first o es = settles o es (after_events o es) (always o es)
