-- Where a `del_lock` is answered, each running node that it went to has the lock for its process as often as that holds
-- it there.
use Rattle.std.proofs.Common.{ℕ, Bool, true, false, ◌≡◌, Option, Some, None, List, [], ◌∷◌, ◌++◌, refl, sym, ap, ◌∙◌, subst, inl, inr}
use Rattle.std.specs.Prelude.{is_none, if◌then◌else◌, Contains}
use Rattle.std.proofs.lemmas.List.Elements.{Contains-append_right}
use Rattle.std.proofs.lemmas.Grind.{flat_map-append}
use Rattle.std.proofs.lemmas.List.{append-nil}
use Rattle.std.proofs.lemmas.Bool.{eq-eqb}
use Rattle.registry_model.specs.Process.{Process}
use Rattle.registry_model.specs.Call.{True}
use Rattle.registry_model.proofs.Lists.{Contains-front, by_push}
use Rattle.protocol_model.specs.LockTable.{count}
use Rattle.protocol_model.specs.Node.{LockCall}
use Rattle.protocol_model.specs.Event.{Answer, Refusal}
use Rattle.protocol_model.specs.ClientLocks.{holds_count}
use Rattle.protocol_model.specs.LockAnswers.{Deletion, deletion_by, deletion_of, Answers, IsGivenBack, AtEachStep}
use Rattle.protocol_model.specs.Answers.{AnswersCalls}
use Rattle.protocol_model.specs.Course.{Played, played, course, answers_of}
use Rattle.protocol_model.specs.World.{Opening, in_world, World, left, WorldEvent, place, opening_world, refusal, accepted, happens, answers, turn_of, run}
use Rattle.moves.proofs.Rules.{effects}
use Rattle.walk.proofs.Events.{accepted_of}
use Rattle.walk.proofs.Runs.{happens-accepted}
use Rattle.walk.proofs.Walk.{OrderedWalk, walked_in_order}
use Rattle.leftovers.proofs.RoundNumbers
use Rattle.leftovers.proofs.Sessions.{view}
use Rattle.leftovers.proofs.Clients.{Numbers, lives, Clients}
use Rattle.leftovers.proofs.Answering.{is_true, any_true}
use Rattle.leftovers.proofs.Tallies.{numbers_agree}
use Rattle.leftovers.proofs.Told.{chain_of}
use Rattle.leftovers.proofs.Walking.{State}
use Rattle.leftovers.proofs.Answered.{calls_answered}
use Rattle.leftovers.proofs.HeadlineClients.{grounds}
use Rattle.leftovers.proofs.HeadlineSteps.{item_fails}
use Rattle.leftovers.proofs.Tied.{course-push, run-push}
use Rattle.leftovers.proofs.Together.{All, widens}
use Rattle.leftovers.proofs.Grounds.{lock_state}
use Rattle.lock_answers.proofs.Settled.{stands_counts}
use Rattle.lock_answers.proofs.OpenDeletions.{Known}
use Rattle.lock_answers.proofs.DeletionChains.{IsDeleted}
use Rattle.lock_answers.proofs.DeletionEvents.{Told}
use Rattle.lock_answers.proofs.LastDeletions.{told_on}
use Rattle.lock_answers.proofs.DeletionAnswers.{HasEnded, ends_on}
use Rattle.lock_answers.proofs.DeletionNumbers.{deletion-push, numbered, answered_true}

module _ (o : Opening) (es : List WorldEvent) where
  -- what is known of the world that they made
  abbrev num : Numbers
  num p id x = RoundNumbers.round_count o es p id x

  S : State o (All o) (grounds o) (run o (opening_world o) es) (λ p id x. RoundNumbers.round_count o es p id x)
  S = lock_state o es

  known : Known o (run o (opening_world o) es) (λ p id x. RoundNumbers.round_count o es p id x)
  known = record { all = S.family; ordered = S.ordered; replying = S.replying; clients = S.clients }

  -- an accepted event is a chain of rules
  walks : (e : WorldEvent) → refusal o (run o (opening_world o) es) e ≡ None
      → OrderedWalk o (run o (opening_world o) es) e
  walks e h = walked_in_order o (run o (opening_world o) es) e S.ordered
      (widens o (run o (opening_world o) es) S.family S.once) h

-- what is known of a process's last deletion behind every list of events
told : (o : Opening) (p : Process) (es : List WorldEvent) → Told o p (run o (opening_world o) es) (deletion_of o es p)
told o p = by_push (λ es. Told o p (run o (opening_world o) es) (deletion_of o es p)) (λ d i. cc) step
  where
    step : (es : List WorldEvent) (e : WorldEvent) → Told o p (run o (opening_world o) es) (deletion_of o es p)
        → Told o p (run o (opening_world o) (es ++ e ∷ [])) (deletion_of o (es ++ e ∷ []) p)
    step es e T = subst (λ (v : World). Told o p v (deletion_of o (es ++ e ∷ []) p))
        (sym (run-push o (opening_world o) es e))
        (subst (Told o p (happens o (run o (opening_world o) es) e))
        (sym (deletion-push o p es (opening_world o) e None))
        (go (refusal o (run o (opening_world o) es) e) refl))
      where
        before : World
        before = run o (opening_world o) es

        go : (x : Option Refusal) → refusal o before e ≡ x
            → Told o p (if is_none x then accepted o before e else before)
            (if is_none x then deletion_by before e p (deletion_of o es p) else deletion_of o es p)
        go (Some x) h = T
        go None h =
            let W : OrderedWalk o before e = walks o es e h in
            subst (λ (v : World). Told o p v (deletion_by before e p (deletion_of o es p))) W.walk.world
            (told_on o before (num o es) (known o es) (S o es).numbered p (deletion_of o es p) T e W.walk.rest
            W.walk.may W.in_order)

module _ (o : Opening) (es : List WorldEvent) (e : WorldEvent)
    (free : refusal o (run o (opening_world o) es) e ≡ None) where
  abbrev before : World
  before = run o (opening_world o) es

  -- the world behind the event
  behind : run o (opening_world o) (es ++ e ∷ []) ≡ accepted o before e
  behind = run-push o (opening_world o) es e ∙ happens-accepted o before e free

  abbrev step : Played
  step = played o before e

  steps : course o (opening_world o) (es ++ e ∷ []) ≡ course o (opening_world o) es ++ step ∷ []
  steps = course-push o (opening_world o) es e
      ∙ ap (λ (x : Option Refusal). course o (opening_world o) es ++ (if is_none x then step ∷ [] else [])) free

  taken : answers o before e ≡ (turn_of o before e).answers
  taken = ap (λ (x : Option Refusal). if is_none x then (turn_of o before e).answers else []) free

  -- its answers are among all answers, and are of its node
  among : (s : Answer) → Contains (answers o before e) s
      → Contains (answers_of (course o (opening_world o) (es ++ e ∷ []))) s
  among s c = subst (λ (ps : List Played). Contains (answers_of ps) s) (sym steps)
      (subst (λ (ss : List Answer). Contains ss s)
      (sym (flat_map-append (λ (q : Played). q.answers) (course o (opening_world o) es) (step ∷ [])
      ∙ ap (λ (ss : List Answer). answers_of (course o (opening_world o) es) ++ ss) (append-nil step.answers)))
      (Contains-append_right (answers_of (course o (opening_world o) es)) step.answers s c))

  calls : AnswersCalls (course o (opening_world o) (es ++ e ∷ []))
  calls = calls_answered o (es ++ e ∷ [])

  here : (s : Answer) → Contains (answers o before e) s → s.node ≡ place e
  here s c = calls.place step s (subst (λ (ps : List Played). Contains ps step) (sym steps)
      (Contains-append_right (course o (opening_world o) es) (step ∷ []) step (Contains-front step []))) c

  -- the last deletion behind the event
  last : (p : Process) (d : Deletion) → deletion_of o (es ++ e ∷ []) p ≡ Some d
      → deletion_by before e p (deletion_of o es p) ≡ Some d
  last p d i = sym (deletion-push o p es (opening_world o) e None
      ∙ ap (λ (x : Option Refusal). if is_none x then deletion_by before e p (deletion_of o es p) else
      deletion_of o es p) free) ∙ i

  module _ (p : Process) (d : Deletion) (is : deletion_of o (es ++ e ∷ []) p ≡ Some d) (s : Answer)
      (A : Answers o (run o (opening_world o) es) e p d.number s) where
    yes : s.reply ≡ True
    yes = answered_true (course o (opening_world o) (es ++ e ∷ [])) p.node d.number s
        (numbered o p (es ++ e ∷ []) d is)
        (calls.once p.node d.number (numbered o p (es ++ e ∷ []) d is).positive) (among s A.given) A.node A.number

    any : any_true p.node d.number (turn_of o before e).answers ≡ true
    any = go (any_true p.node d.number (turn_of o before e).answers) refl
      where
        go : (b : Bool) → any_true p.node d.number (turn_of o before e).answers ≡ b
            → any_true p.node d.number (turn_of o before e).answers ≡ true
        go true h = h
        go false h =
            let none : is_true p.node d.number s ≡ false = item_fails (is_true p.node d.number)
            (turn_of o before e).answers s h (subst (λ (ss : List Answer). Contains ss s) taken A.given) in
            let one : is_true p.node d.number s ≡ true = rw (
              eq-eqb s.node p.node A.node,
              eq-eqb s.number d.number A.number,
              yes,
            ) refl in
            cc (none, one)

    W : OrderedWalk o (run o (opening_world o) es) e
    W = walks o es e free

    ended : HasEnded o before (num o es) (known o es) (S o es).numbered p (deletion_of o es p) (told o p es) d
        (effects o (place e) (chain_of o before e W.walk.rest) before)
    ended = ends_on o before (num o es) (known o es) (S o es).numbered p (deletion_of o es p) (told o p es) e
        W.walk.rest W.walk.may W.in_order (sym A.node ∙ here s A.given) (accepted_of o before e free).running
        W.walk.world W.walk.answers d (last p d is) (ap (any_true p.node d.number) W.walk.answers ∙ any)

    -- then a node that runs has the lock as often as p holds it
    counts : (c : ℕ) → d.nodes c ≡ true → in_world o c ≡ true → left (accepted o before e) c ≡ false
        → count d.id p ((accepted o before e).node c).locks ≡ holds_count o (es ++ e ∷ []) p d.id c
    counts c there inside up = elim ended [
      | inl E ↦ by_end (subst (λ (v : World). IsDeleted o p d.number d.nodes v) W.walk.world E.0)
          (subst (λ (v : World). lives o v p ≡ true) W.walk.world E.1)
      | inr none ↦ cc (none c inside, there)
    ]
      where
        C : Clients o (accepted o before e) (num o (es ++ e ∷ []))
        C = subst (λ (v : World). Clients o v (num o (es ++ e ∷ []))) behind (S o (es ++ e ∷ [])).clients

        by_end : IsDeleted o p d.number d.nodes (accepted o before e) → lives o (accepted o before e) p ≡ true
            → count d.id p ((accepted o before e).node c).locks ≡ holds_count o (es ++ e ∷ []) p d.id c
        by_end E living = stands_counts o c (accepted o before e) (num o (es ++ e ∷ [])) C p living c (inside, up) false
            (ap (λ (j : Option LockCall). view j c) E.ended) (E.stands c (inside, up) there) d.id
            ∙ sym (numbers_agree o (All o) (grounds o) (es ++ e ∷ []) p d.id c)

-- where a `del_lock` is answered, who has to give the lock back has done so
pub given_back : AtEachStep IsGivenBack
given_back o es e free p d s c is A there inside up = subst
    (λ (v : World). left v c ≡ false → count d.id p (v.node c).locks ≡ holds_count o (es ++ e ∷ []) p d.id c)
    (sym (happens-accepted o (run o (opening_world o) es) e free))
    (counts o es e free p d is s A c there inside) up
