-- Along every run the numbers by the last tries are those by the rounds, so at a running node no resource is held under
-- two requesters.
use Rattle.std.proofs.Common.{ℕ, Bool, ◌==◌, ◌≡◌, ◌<◌, ◌+◌, ◌-◌, Option, Some, None, List, [], ◌∷◌, refl, sym, ap, ◌∙◌, subst}
use Rattle.std.specs.Prelude.{is_none, if◌then◌else◌}
use Rattle.std.proofs.lemmas.Bool.{eqb-true, eq-eqb}
use Rattle.registry_model.specs.Process.{Process}
use Rattle.protocol_model.specs.Letter.{Id, Client}
use Rattle.protocol_model.specs.Event.{Answer, Refusal}
use Rattle.protocol_model.specs.ClientLocks.{Try, gives, is_no_more, Tally, tallied, tally_after, tally_from, holds_count, ExclusionAfter}
use Rattle.protocol_model.specs.World.{Opening, World, WorldEvent, place, opening_world, refusal, happens, accepted, answers, turn_of, run}
use Rattle.moves.proofs.Rules.{answers_by}
use Rattle.moves.proofs.Indices.{both}
use Rattle.walk.proofs.Walk.{OrderedWalk, walked_in_order}
use Rattle.walk.proofs.Orders.{ordered_keeps}
use Rattle.client_locks.proofs.RoundNumbers
use Rattle.client_locks.proofs.RoundNumbers.{round_count_after, round_count_from}
use Rattle.client_locks.proofs.Clients.{Numbers}
use Rattle.client_locks.proofs.Opening.{no_numbers}
use Rattle.client_locks.proofs.Told.{chain_of}
use Rattle.client_locks.proofs.Tries.{Fits}
use Rattle.client_locks.proofs.TriedEvents.{Tried, tried}
use Rattle.client_locks.proofs.Walking.{Grounds, State, event_keeps, opening_state, excluded}

-- at first nothing was tried, and no call is open
pub fits_opens : (o : Opening) (p : Process) → Fits (opening_world o) p None
fits_opens o p = record { own = λ c e d. cc; alone = λ s e q c h k n. cc; below = λ s e. cc }

module _ (o : Opening) (F : World → Type 0) (G : Grounds o F) where
  -- what an accepted event gives and keeps, where the last try of p fits
  pub accepted_tried : (w : World) (e : WorldEvent) (num : Numbers) (S : State o F G w num) (p : Process) (t : Option Try)
      (fit : Fits w p t) → refusal o w e ≡ None
      → Tried o (ordered_keeps o) w num S.ordered S.replying S.numbered p t fit e (answers o w e) (accepted o w e)
  accepted_tried w e num S p t fit h = subst
      (λ (ss : List Answer). Tried o (ordered_keeps o) w num S.ordered S.replying S.numbered p t fit e ss
      (accepted o w e))
      (sym answered)
      (tried o (ordered_keeps o) w num S.ordered S.replying S.numbered p t fit e walked.walk.rest walked.walk.may
      walked.in_order walked.walk.world)
    where
      walked : OrderedWalk o w e
      walked = walked_in_order o w e S.ordered (G.wide w S.family S.once) h

      answered : answers o w e ≡ answers_by o (place e) (chain_of o w e walked.walk.rest) w
      answered = ap (λ (r : Option Refusal). if is_none r then (turn_of o w e).answers else []) h
          ∙ sym walked.walk.answers

  -- behind an event the last try fits
  fits_keeps : (w : World) (e : WorldEvent) (num : Numbers) → State o F G w num → (k : Tally) (p : Process) (id : Id)
      (x : ℕ) → Fits w p k.last → Fits (happens o w e) p (tally_after o w e p id x k).last
  fits_keeps w e num S k p id x fit = go (refusal o w e) refl
    where
      go : (r : Option Refusal) → refusal o w e ≡ r
          → Fits (if is_none r then accepted o w e else w) p (if is_none r then tallied o w e p id x k else k).last
      go (Some r) h = fit
      go None h = (accepted_tried w e num S p k.last fit h).fits

  -- and behind each list of events
  pub fits_behind : (es : List WorldEvent) (w : World) (num : Numbers) → State o F G w num → (k : Tally) (p : Process)
      (id : Id) (x : ℕ) → Fits w p k.last → Fits (run o w es) p (tally_from o w es p id x k).last
  fits_behind [] w num S k p id x fit = fit
  fits_behind (e ∷ es) w num S k p id x fit =
      fits_behind es (happens o w e) (λ q i y. round_count_after o w e q i y (num q i y)) (event_keeps o F G w e num S)
      (tally_after o w e p id x k) p id x (fits_keeps w e num S k p id x fit)

  -- after an event the tally has the number by the rounds
  tally_keeps : (w : World) (e : WorldEvent) (num : Numbers) → State o F G w num → (k : Tally) (p : Process) (id : Id)
      (x : ℕ) → Fits w p k.last → k.number ≡ num p id x
      → (tally_after o w e p id x k).number ≡ round_count_after o w e p id x (num p id x)
  tally_keeps w e num S k p id x fit same = go (refusal o w e) refl
    where
      go : (r : Option Refusal) → refusal o w e ≡ r → (if is_none r then tallied o w e p id x k else k).number
          ≡ (if is_none r then RoundNumbers.next_round_count o w e p id x (num p id x) else num p id x)
      go (Some r) h = same
      go None h = ap (λ (b : Bool). if is_no_more (happens o w e) p then 0 else (if b then k.number + 1 else
          (if gives w e p id x then k.number - 1 else k.number)))
          ((accepted_tried w e num S p k.last fit h).won id x)
          ∙ ap (λ (n : ℕ). RoundNumbers.next_round_count o w e p id x n) same

  -- so the numbers are one
  same_numbers : (es : List WorldEvent) (w : World) (num : Numbers) → State o F G w num → (k : Tally) (p : Process)
      (id : Id) (x : ℕ) → Fits w p k.last → k.number ≡ num p id x
      → (tally_from o w es p id x k).number ≡ round_count_from o w es p id x (num p id x)
  same_numbers [] w num S k p id x fit same = same
  same_numbers (e ∷ es) w num S k p id x fit same =
      same_numbers es (happens o w e) (λ q i y. round_count_after o w e q i y (num q i y)) (event_keeps o F G w e num S)
      (tally_after o w e p id x k) p id x (fits_keeps w e num S k p id x fit)
      (tally_keeps w e num S k p id x fit same)

  -- after every list of events
  pub numbers_agree : (es : List WorldEvent) (p : Process) (id : Id) (x : ℕ)
      → holds_count o es p id x ≡ RoundNumbers.round_count o es p id x
  numbers_agree es p id x = same_numbers es (opening_world o) no_numbers (opening_state o F G)
      (record { number = 0; last = None }) p id x (fits_opens o p) refl

-- no resource is held under two requesters at a node that runs
pub exclusion_from : (F : Opening → World → Type 0) → ((o : Opening) → Grounds o (F o))
    → (o : Opening) (es : List WorldEvent) → ExclusionAfter o es (run o (opening_world o) es)
exclusion_from F grounds o es c inside up p q r x y hp hq = eqb-true x y ((both (r == r) (x == y) (excluded o (F o)
    (grounds o) es c inside up p q (Client r x) (Client r y)
    (subst (λ (n : ℕ). 0 < n) (numbers_agree o (F o) (grounds o) es p (Client r x) c) hp)
    (subst (λ (n : ℕ). 0 < n) (numbers_agree o (F o) (grounds o) es q (Client r y) c) hq) (eq-eqb r r refl))).1)
