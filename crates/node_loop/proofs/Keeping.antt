-- A turn keeps a loop sound.
use Rattle.std.proofs.Common.{◌≡◌, ◌==◌, ◌<◌, ◌+◌, ◌-◌, max, ℕ, Bool, true, false, Option, None, List, [], drop, map, refl, sym, ap, subst, ◌∙◌, inl, inr, arith, true≢false}
use Rattle.std.specs.Prelude.{if◌then◌else◌, ◌⊎◌, ◌&&◌, not, MatchBool, MatchResult, Ok, Err}
use Rattle.std.specs.List.Sorted.{IsStrictlyIncreasing}
use Rattle.std.proofs.Math.Path.{fun_ext}
use Rattle.std.proofs.lemmas.Bool.{eq-eqb}
use Rattle.registry_model.proofs.Updates.{by_test}
use Rattle.protocol_model.specs.World.{Opening, in_world, place, other}
use Rattle.protocol_model.specs.Event.{can_retry}
use Rattle.closings.specs.Alone.{Stamped as StampedLetter, unread_after, is_leave}
use Rattle.closings.specs.Guarded.{DoesIfFit}
use Rattle.link.specs.declared.faults.LinkFault.{LinkFault}
use Rattle.node_log.specs.declared.Answer.{Answer}
use Rattle.node_log.specs.declared.LocalEvent.{LocalEvent}
use Rattle.node_log.specs.declared.LocalEvent.TheVariants.{Call, Retry, Exit, Leave}
use Rattle.node_log.specs.declared.WorldEvent.TheVariants.{At, Deliver}
use Rattle.node_log.specs.Events.{event_of, knows_contact, is_leave as leaves_by}
use Rattle.node_log.specs.NodeEventsSeen.{answer_of}
use Rattle.node_core.specs.CoreState.{CoreState}
use Rattle.node_core.specs.Made.{Made as Turn}
use Rattle.node_core.specs.Seen.{node_of}
use Rattle.node_core.specs.Steps.{Steps, IsAsBefore}
use Rattle.node_log.specs.Seen.{seen_entry}
use Rattle.node_loop.specs.declared.item.Item.{Item}
use Rattle.node_loop.specs.declared.item.Item.TheVariants as item
use Rattle.node_loop.specs.declared.item.Stamped.{Stamped}
use Rattle.node_loop.specs.declared.item.Ticket.{Ticket}
use Rattle.node_loop.specs.declared.replies.TaskFault.{TaskFault}
use Rattle.node_loop.specs.declared.fault.TurnFault.{TurnFault}
use Rattle.node_loop.specs.declared.fault.TurnFault.TheVariants.{StampsSpent, Memory}
use Rattle.node_loop.specs.Desks.{Kept, left_by}
use Rattle.node_loop.specs.Held.{Looping, has_retry, has_leave, is_due, is_free_to_leave, can_step}
use Rattle.node_loop.specs.Steps.{Cause, Outcome, by_event, by_letter, stamp_of, entry_of, desk_of, Makes, Ends, Goes}
use Rattle.node_loop.specs.Items.{with_leave, Refuses, WaitsToLeave, Asks, Accepts, Handles, by_leave, leaver, Departs, Leaves, Then, Waits, behind_item, Hears, Works, Idles}
use Rattle.node_loop.specs.Turned.{Took, Missed, Turned}
use Rattle.node_loop.specs.Said.{IsSaid}
use Rattle.node_loop.specs.Dealings.{Dealt, letter_in, letters_in}
use Rattle.node_loop.specs.Sound.{Stands, IsSound, EndsSound, KeepsSound}
use Rattle.node_loop.proofs.Dealing.{letters_from, Drains, drained, letters_same, took_more, put_still}
use Rattle.node_loop.proofs.Doing.{made, other_inside, own_does, letter_does}
use Rattle.node_loop.proofs.Standing.{besides, ends_still, ends_more, stands_more, sent_off, taken}

-- the node is as it was
as_it_is : (h : CoreState) → IsAsBefore h h
as_it_is h = record { name = refl; world = refl; node = refl }

left_both : (x y : Bool) → (x && y) ≡ true → x ≡ true
left_both true y e = refl
left_both false y e = cc

not_false : (x : Bool) → not x ≡ true → x ≡ false
not_false true e = cc
not_false false e = refl

-- what is tried runs: the node hasn't left
due_runs : (a : Looping) → is_due a ≡ true → a.left ≡ false
due_runs a e = not_false a.left (left_both (not a.left) (can_retry (node_of a.core)) (left_both (has_retry a) (a.wait == 0) e))

free_runs : (a : Looping) → is_free_to_leave a ≡ true → a.left ≡ false
free_runs a e = not_false a.left (left_both (not a.left) _ (left_both (has_leave a) _ e))

stays_by : (n : ℕ) (e : LocalEvent) → leaves_by e ≡ false → is_leave (event_of (At n e)) ≡ false
stays_by n (Call c) h = refl
stays_by n Retry h = refl
stays_by n (Exit p) h = refl
stays_by n Leave h = cc

module _ (o : Opening) (d : Dealt) where
  -- what becomes of a sound loop
  abbrev Comes : Outcome → Looping → Type 0
  Comes r b = MatchResult r (λ _. IsSound o b d) (λ _. EndsSound o b d)

  -- a step for this cause is one of the node, which has these letters to read, and reads them
  record Fits (unread : ℕ → List StampedLetter) (a : Looping) (k : Cause) : Type 0 where
    own : place (event_of k.logged) ≡ a.core.name
    known : in_world o (other (event_of k.logged)) ≡ true
    does : (core : CoreState) (turn : Turn) → Steps k.event a.core core turn
        → DoesIfFit (IsSaid (in_world o)) o unread (node_of a.core) (made core turn (seen_entry (entry_of k a turn.answers))) (event_of k.logged)
    read : unread_after (event_of k.logged) unread ≡ (λ f. [])

  -- an event of its own
  by_own : (a : Looping) (S : IsSound o a d) (own : Option Ticket) (e : LocalEvent) → knows_contact a.core.world e ≡ true
      → Fits (λ f. []) a (by_event own e a)
  by_own a S own e known = record {
    own = refl;
    known = other_inside o a.core S.of e known;
    does = λ core turn step. own_does o a.core S.of core turn (seen_entry (entry_of (by_event own e a) a turn.answers)) refl (λ f. []) e step known;
    read = refl;
  }

  -- a letter
  by_oldest : (a : Looping) (from : ℕ) (l : Stamped) (S : Stands o (letters_from from (item.Letter l)) a d) → in_world o from ≡ true
      → Fits (letters_from from (item.Letter l)) a (by_letter from l a)
  by_oldest a from l S known = record {
    own = S.named;
    known = known;
    does = λ core turn step. subst
        (λ (n : ℕ). DoesIfFit (IsSaid (in_world o)) o (letters_from from (item.Letter l)) (node_of a.core)
        (made core turn (record { stamp = stamp_of (by_letter from l a) a; event = event_of (Deliver from n); answers = map answer_of turn.answers })) (event_of (Deliver from n)))
        (sym S.named)
        (letter_does o a.core S.of core turn _ refl (letters_from from (item.Letter l)) from l.stamp l.letter [] step known
        (rw (eq-eqb from from refl) refl) (later a.stamp l.stamp));
    read = fun_ext (by_test from
        (λ g b. (if b then drop 1 (if b then letter_in (item.Letter l) else []) else (if b then letter_in (item.Letter l) else [])) ≡ []) refl
        (λ g ne. refl));
  }
    where
      later : (x y : ℕ) → y < max x y + 1
      later x y = omega arith

  module _ (unread : ℕ → List StampedLetter) (a b : Looping) (S : Stands o unread a d) (run : a.left ≡ false) where
    -- a step is made
    makes : (k : Cause) → Fits unread a k → Makes k a b → (c : Looping) → c ≡ record b { left = c.left; desk = c.desk; owed = c.owed }
        → (c.left ≡ false → is_leave (event_of k.logged) ≡ false) → IsSound o c d
    makes k F M c is stays =
        subst (λ (u : ℕ → List StampedLetter). Stands o u c d) F.read
        (stands_more o unread a d S run k b.core M.turn M.step F.own F.known (F.does b.core M.turn M.step) c
        (ap (λ (l : Looping). l.core) is) (ap (λ (l : Looping). l.log) is ∙ M.log) (ap (λ (l : Looping). l.stamp) is ∙ M.stamp)
        (ap (λ (l : Looping). l.tray) is ∙ M.tray) (ap (λ (l : Looping). l.world) is ∙ M.world) stays)

    -- or the thread ends within it
    ends : (why : TurnFault) (k : Cause) (due : CoreState → List Answer → Kept) → Fits unread a k → Ends why k due a b → EndsSound o b d
    ends StampsSpent k due F h = ends_still o unread a d S b (ap (λ (l : Looping). l.log) h.1)
        (subst (λ (x : Looping). IsAsBefore a.core x.core) (sym h.1) (as_it_is a.core))
    ends Memory k due F h = elim h.1 [
      | inl rests ↦ ends_still o unread a d S b (ap (λ (l : Looping). l.log) rests.others) rests.core
      | inr begun ↦ ends_more o unread a d S run k b.core begun.turn begun.step F.own F.known (F.does b.core begun.turn begun.step) b refl begun.log
    ]

    goes : (k : Cause) → Fits unread a k → is_leave (event_of k.logged) ≡ false → (r : Outcome) → Goes k a r b → Comes r b
    goes k F stays (Ok u) M = makes k F M b refl (λ _. stays)
    goes k F stays (Err why) E = ends why k (desk_of k a) F E

  -- where nothing changed
  unchanged : (a b : Looping) → IsSound o a d → b ≡ a → EndsSound o b d
  unchanged a b S e = ends_still o (λ f. []) a d S b (ap (λ (l : Looping). l.log) e)
      (subst (λ (x : Looping). IsAsBefore a.core x.core) (sym e) (as_it_is a.core))

  -- what changes the desk alone
  refuses : (a b : Looping) → IsSound o a d → (ticket : Option Ticket) (fault : TaskFault) (r : Outcome) → Refuses ticket fault a r b → Comes r b
  refuses a b S ticket fault (Ok u) e = subst (λ (x : Looping). IsSound o x d) (sym e) (besides o (λ f. []) a d S _ a.wait a.worked a.owed)
  refuses a b S ticket fault (Err why) e = unchanged a b S e.1

  waits : (a b : Looping) → IsSound o a d → (ticket : Option Ticket) (r : Outcome) → WaitsToLeave ticket a r b → Comes r b
  waits a b S ticket (Ok u) e = subst (λ (x : Looping). IsSound o x d) (sym e) (besides o (λ f. []) a d S _ a.wait a.worked a.owed)
  waits a b S ticket (Err why) e = unchanged a b S e.1

  one_outcome : (r : Outcome) (why : TurnFault) → r ≡ Err why → r ≡ Ok tt → ⊥
  one_outcome r why e f = cc

  still : (a b : Looping) (r : Outcome) → IsSound o a d → (r ≡ Ok tt) × (b ≡ a) → Comes r b
  still a b (Ok u) S h = subst (λ (x : Looping). IsSound o x d) (sym h.1) S
  still a b (Err why) S h = absurd (one_outcome (Err why) why refl h.0)

  asks : (a b : Looping) → IsSound o a d → a.left ≡ false → (ticket : Option Ticket) (e : LocalEvent) → knows_contact a.world e ≡ true
      → leaves_by e ≡ false → (r : Outcome) → Asks ticket e a r b → Comes r b
  asks a b S run ticket e known stays r (inl g) =
      goes (λ f. []) a b S run (by_event ticket e a)
      (by_own a S ticket e (ap (λ (w : List ℕ). knows_contact w e) (sym S.world) ∙ known)) (stays_by a.core.name e stays) r g
  asks a b S run ticket e known stays r (inr x) = refuses a b S ticket _ r x.3

  accepts : (a b : Looping) → IsSound o a d → (ticket : Option Ticket) (e : LocalEvent) (r : Outcome) → Accepts ticket e a r b → Comes r b
  accepts a b S ticket e r h = at_contact (knows_contact a.world e) refl h
    where
      at_leave : (leaves : Bool) → leaves_by e ≡ leaves → knows_contact a.world e ≡ true → a.left ≡ false
          → MatchBool leaves (WaitsToLeave ticket a r b) (Asks ticket e a r b) → Comes r b
      at_leave true q known run h = waits a b S ticket r h
      at_leave false q known run h = asks a b S run ticket e known q r h

      at_left : (left : Bool) → a.left ≡ left → knows_contact a.world e ≡ true
          → MatchBool left (Refuses ticket TaskFault.NodeLeft a r b)
          (MatchBool (leaves_by e) (WaitsToLeave ticket a r b) (Asks ticket e a r b)) → Comes r b
      at_left true q known h = refuses a b S ticket _ r h
      at_left false q known h = at_leave (leaves_by e) refl known q h

      at_contact : (knows : Bool) → knows_contact a.world e ≡ knows
          → MatchBool knows
          (MatchBool a.left (Refuses ticket TaskFault.NodeLeft a r b)
          (MatchBool (leaves_by e) (WaitsToLeave ticket a r b) (Asks ticket e a r b)))
          (Refuses ticket TaskFault.NoSuchNode a r b) → Comes r b
      at_contact true q h = at_left a.left refl q h
      at_contact false q h = refuses a b S ticket _ r h

  -- a node that has left has nothing to read
  gone : (unread : ℕ → List StampedLetter) (a : Looping) → Stands o unread a d → a.left ≡ true → IsSound o a d
  gone unread a S left = record {
    of = S.of;
    named = S.named;
    world = S.world;
    rising = S.rising;
    course = S.course;
    logged = S.logged;
    plays = S.plays;
    node = S.node;
    below = S.below;
    running = λ run. absurd (true≢false (sym left ∙ run));
    known = S.known;
    tray = S.tray;
    sends = S.sends;
  }

  handles : (a b : Looping) (from : ℕ) (i : Item) → in_world o from ≡ true → Stands o (letters_from from i) a d → (r : Outcome)
      → Handles from i a r b → Comes r b
  handles a b from (item.Letter l) known S r h = at_left a.left refl h
    where
      at_left : (left : Bool) → a.left ≡ left → MatchBool left ((r ≡ Ok tt) × (b ≡ a)) (Goes (by_letter from l a) a r b) → Comes r b
      at_left true q h = still a b r (gone (letters_from from (item.Letter l)) a S q) h
      at_left false q h = goes (letters_from from (item.Letter l)) a b S q (by_letter from l a) (by_oldest a from l S known) refl r h
  handles a b from (item.Task t) known S r h =
      accepts a b (subst (λ (u : ℕ → List StampedLetter). Stands o u a d) (fun_ext (λ f. none (f == from))) S) t.ticket t.event r h
    where
      none : (x : Bool) → (if x then letter_in (item.Task t) else []) ≡ []
      none true = refl
      none false = refl

  leaves : (a b : Looping) → IsSound o a d → (r : Outcome) → Leaves a r b → Comes r b
  leaves a b S r h = at_free (is_free_to_leave a) refl r h
    where
      fits : Fits (λ f. []) a (by_leave a)
      fits = by_own a S (leaver a.desk.leaves) Leave refl

      at_free : (free : Bool) → is_free_to_leave a ≡ free → (r : Outcome)
          → MatchBool free
          (MatchResult r (λ _. Departs a b)
          (λ why. Ends why (by_leave a) (λ core answers. left_by (desk_of (by_leave a) a core answers)) a b))
          ((r ≡ Ok tt) × (b ≡ a)) → Comes r b
      at_free true q (Ok u) h =
          makes (λ f. []) a h.stepped S (free_runs a q) (by_leave a) fits h.step b (h.behind ∙ λ j. record h.stepped { left = sym left j; desk = sym desk j; owed = sym owed j })
          (λ run. absurd (true≢false (sym left ∙ run)))
        where
          left : b.left ≡ true
          left = ap (λ (l : Looping). l.left) h.behind

          desk : b.desk ≡ left_by h.stepped.desk
          desk = ap (λ (l : Looping). l.desk) h.behind

          owed : b.owed ≡ with_leave h.stepped
          owed = ap (λ (l : Looping). l.owed) h.behind
      at_free true q (Err why) h = ends (λ f. []) a b S (free_runs a q) why (by_leave a) _ fits h
      at_free false q r h = still a b r S h

  -- one thing comes first, and the other behind it
  behind : (first second : Looping → Outcome → Looping → Type 0) (a : Looping) (r : Outcome) (b : Looping)
      → ((went : Outcome) (m : Looping) → first a went m → Comes went m) → ((m : Looping) → IsSound o m d → second m r b → Comes r b)
      → Then first second a r b → Comes r b
  behind first second a r b is next h = at_went h.went (is h.went h.between h.comes) h.behind
    where
      at_went : (went : Outcome) → Comes went h.between
          → MatchResult went (λ _. second h.between r b) (λ why. (r ≡ Err why) × (b ≡ h.between)) → Comes r b
      at_went (Ok u) S l = next h.between S l
      at_went (Err why) E l =
          subst (λ (x : Outcome). Comes x b) (sym l.0) (subst (λ (x : Looping). EndsSound o x d) (sym l.1) E)

  passes : (a b : Looping) → IsSound o a d → (r : Outcome) → Waits a r b → Comes r b
  passes a b S r h = at_retry (is_due a) refl h
    where
      now : Looping
      now = record a { wait = a.wait - 1 }

      S_now : IsSound o now d
      S_now = besides o (λ f. []) a d S a.desk (a.wait - 1) a.worked a.owed

      at_retry : (due : Bool) → is_due a ≡ due
          → MatchBool due (Then (Goes (by_event None Retry a)) Leaves now r b) (Leaves now r b) → Comes r b
      at_retry true q h =
          behind (Goes (by_event None Retry a)) Leaves now r b
          (λ went m g. goes (λ f. []) now m S_now (due_runs a q) (by_event None Retry now) (by_own now S_now None Retry refl) refl went g)
          (λ m k l. leaves m b k r l) h
      at_retry false q h = leaves now b S_now r h

  idles : (a b : Looping) → IsSound o a d → (r : Outcome) → Idles a r b → Comes r b
  idles a b S r h =
      passes (record a { worked = can_step a }) b (besides o (λ f. []) a d S a.desk a.wait (can_step a) a.owed) r h

  behind_it : (i : Item) (a b : Looping) → IsSound o a d → (r : Outcome) → behind_item i a r b → Comes r b
  behind_it (item.Letter l) a b S r h = leaves a b S r h
  behind_it (item.Task t) a b S r h = passes a b S r h

  hears : (i : Item) (u : ℕ → List StampedLetter) (a b : Looping) → Stands o u a d → Hears i a b → Stands o u b d
  hears (item.Letter l) u a b S h = subst (λ (x : Looping). Stands o u x d) (sym h.0) (besides o u a d S a.desk b.wait a.worked a.owed)
  hears (item.Task t) u a b S h = subst (λ (x : Looping). Stands o u x d) (sym h) S

  works : (a b : Looping) (from : ℕ) (i : Item) → in_world o from ≡ true → Stands o (letters_from from i) a d → (r : Outcome)
      → Works from i a r b → Comes r b
  works a b from i known S r h =
      let heard : Stands o (letters_from from i) h.hearing d =
      hears i (letters_from from i) (record a { worked = true }) h.hearing
      (besides o (letters_from from i) a d S a.desk a.wait true a.owed) h.hears in
      behind (Handles from i) (behind_item i) h.hearing r b (λ went m k. handles h.hearing m from i known heard went k)
      (λ m k l. behind_it i m b k r l) h.handles

module _ {S : Type 0} (posts : S → ℕ → Item → S → Type 0) (refused : S → ℕ → Item → LinkFault → Type 0) (takes : S → ℕ → Item → S → Type 0) (misses : S → Type 0) (held : ℕ → Type 0) where
  pub keeps : (a : Looping) (s : S) (r : Outcome) (b : Looping) (t : S) → Turned posts refused takes misses held a s r b t
      → KeepsSound posts takes a s r b t
  keeps a s r b t h o inside dealt D here sound = at_end h.turned
    where
      mid : Looping
      mid = record a { tray = h.tray }

      E : (inside h.between ≡ true) × Drains posts refused takes o inside dealt D a.tray h.tray (dealt s) (dealt h.between)
      E = drained posts refused takes o inside dealt D a.tray h.tray s h.between
          (subst IsStrictlyIncreasing (sym sound.tray) sound.rising) here h.drained

      S_mid : IsSound o mid (dealt h.between)
      S_mid = sent_off o (λ f. []) a (dealt s) sound h.tray (dealt h.between) E.1.slots (λ j f. letters_in (E.1.taken j f))
          (letters_same posts refused takes o inside dealt D a.tray h.tray (dealt s) (dealt h.between) E.1)

      at_end : Took posts refused takes misses mid h.between r b t ⊎ Missed posts refused takes misses mid h.between r b t
          → (inside t ≡ true) × MatchResult r (λ _. IsSound o b (dealt t)) (λ _. EndsSound o b (dealt t))
      at_end (inl k) =
          let known : in_world o k.from ≡ true = (D.gives h.between k.from k.item t E.0 k.taken).1 in (
            (D.gives h.between k.from k.item t E.0 k.taken).0,
            works o (dealt t) mid b k.from k.item known
                (taken o mid (dealt h.between) (dealt t) S_mid k.from k.item known
                (took_more posts refused takes o inside dealt D h.between k.from k.item t E.0 k.taken)
                (put_still posts refused takes o inside dealt D h.between k.from k.item t E.0 k.taken)) r k.works,
          )
      at_end (inr k) = (
        ap inside k.still ∙ E.0,
        idles o (dealt t) mid b (subst (λ (x : S). IsSound o mid (dealt x)) (sym k.still) S_mid) r k.idles,
      )
