-- What a step answers stands under its own node; a look-up and a `spawn` are answered once, and nothing else under
-- number 0.
use Rattle.std.proofs.Common.{ℕ, Bool, true, false, ◌≡◌, ◌==◌, ◌<◌, None, inl, inr, List, [], ◌∷◌, ◌++◌, refl, sym, ap, ◌∙◌, subst, arith}
use Rattle.std.specs.Prelude.{◌&&◌, if◌then◌else◌, filter, flat_map, map, Contains}
use Rattle.std.specs.List.{AllByRecursion}
use Rattle.std.proofs.lemmas.List.Elements.{Contains-append_cases, All-contains, All-from_recursion}
use Rattle.std.proofs.lemmas.List.{append-nil}
use Rattle.std.proofs.lemmas.Grind.{flat_map-append}
use Rattle.std.proofs.lemmas.Bool.{eq-eqb, ne_eqb, eqb-true}
use Rattle.registry_model.specs.Process.{Process}
use Rattle.registry_model.specs.Call.{Reply, Pid, seen_in}
use Rattle.registry_model.specs.History.{Entry}
use Rattle.registry_model.proofs.Lists.{Contains-cases, Contains-nil}
use Rattle.protocol_model.specs.Watch.{next_serial}
use Rattle.protocol_model.specs.Event.{Call, Event, Answer}
use Rattle.protocol_model.specs.Turn.{Turn}
use Rattle.protocol_model.specs.Fit.{exit_of, left_of, notice_of, accepted_at, calls_in}
use Rattle.protocol_model.specs.Answers.{answer_to, is_unnumbered, IsNoLookUp, LooksUpOnce}
use Rattle.protocol_model.specs.World.{Opening, World, WorldEvent, At, Deliver, place, turn_of, refusal, accepted}
use Rattle.protocol_model.specs.Course.{Played, played, answers_of}
use Rattle.join_gates.proofs.Rules
use Rattle.join_gates.proofs.Invariants.{Replicas}
use Rattle.fitting.proofs.Accounts.{is_word, is_word_at}
use Rattle.fitting.proofs.Rests.{Rested, looked-answers, spawned-answers, place_runs}
use Rattle.fitting.proofs.Events.{Own, event_enters, read_of}
use Rattle.fitting.proofs.Within.{Within}
use Rattle.fitting.proofs.Admissions.{all_map}
use Rattle.fitting.proofs.Chains.{Book}
use Rattle.fitting.proofs.Replies.{Spares, is_used, is_answered, answer_found, all_two, unused_before, word_used, IsOfCall, IsOfAnswer, of_call, takes_none, numbers_within, answers_given}

-- what is said of each step by itself
pub record IsOwnStep (p : Played) : Type 0 where
  pub looks : LooksUpOnce p
  pub place : (s : Answer) → Contains p.answers s → s.node ≡ place p.event

-- nothing passes a test that fails for each
pub filter_none : {X : Type 0} (test : X → Bool) (xs : List X) → AllByRecursion (λ x. test x ≡ false) xs
    → filter test xs ≡ []
filter_none test [] h = refl
filter_none {X} test (x ∷ xs) h =
    ap (λ (b : Bool). if b then x ∷ filter test xs else filter test xs) h.0 ∙ filter_none test xs h.1

module _ (o : Opening) (w : World) (e : WorldEvent) (ps : List Played) (R : Replicas o w) (B : Book o w ps)
    (C : Book o (accepted o w e) (ps ++ played o w e ∷ [])) (X : Spares w ps) (rested : Rested w)
    (is : refusal o w e ≡ None) (W : Rules.Walked o w e) where
  -- where the event happens, what it brings, the events with it, and its turn
  abbrev pub a : ℕ
  a = place e

  abbrev pub p : Played
  p = played o w e

  abbrev pub qs : List Played
  qs = ps ++ p ∷ []

  abbrev pub u : Turn
  u = turn_of o w e

  -- the numbers of its answers that are no words
  within : Within (IsOfCall qs a) (IsOfAnswer e qs a) (of_call e qs a) a u
  within = numbers_within o w e ps R B X

  -- the words of this step are among all words
  words : AllByRecursion (λ s. is_word_at a s ≡ true → is_used (accepted_at a qs) s.number ≡ true) u.answers
  words = all_two (λ (s : Answer). is_word_at a s ≡ true
      → is_answered (filter (is_word_at a) (answers_of ps ++ u.answers)) s.number ≡ true) (λ (s : Answer). Unit {0})
      (λ (s : Answer). is_word_at a s ≡ true → is_used (accepted_at a qs) s.number ≡ true)
      (λ s h t k. word_used o (accepted o w e) qs a s.number C
      (subst (λ (l : List Answer). is_answered (filter (is_word_at a) l) s.number ≡ true) behind (h k)))
      u.answers (answer_found (is_word_at a) (answers_of ps) u.answers) (units u.answers)
    where
      units : (xs : List Answer) → AllByRecursion (λ (s : Answer). Unit {0}) xs
      units [] = tt
      units (x ∷ xs) = (tt, units xs)

      behind : answers_of ps ++ u.answers ≡ answers_of qs
      behind = ap (λ (l : List Answer). answers_of ps ++ l) (sym (append-nil p.answers ∙ answers_given o w e is))
          ∙ sym (flat_map-append (λ (q : Played). q.answers) ps (p ∷ []))

  -- a number that isn't 0
  above : (k : ℕ) → 0 < k → (k == 0) ≡ false
  above k l = ne_eqb k 0 (λ q. absurd (omega (arith, l, q)))

  -- where the event is no call without a number, nothing is answered under number 0
  none : takes_none e ≡ false → filter is_unnumbered p.answers ≡ []
  none h = ap (filter is_unnumbered) (answers_given o w e is)
      ∙ filter_none is_unnumbered u.answers (all_two
      (λ (s : Answer). (s.node ≡ a) × (is_word s.reply ≡ false → IsOfAnswer e qs a s.number))
      (λ (s : Answer). is_word_at a s ≡ true → is_used (accepted_at a qs) s.number ≡ true)
      (λ (s : Answer). is_unnumbered s ≡ false) one u.answers within.answers words)
    where
      one : (s : Answer) → (s.node ≡ a) × (is_word s.reply ≡ false → IsOfAnswer e qs a s.number)
          → (is_word_at a s ≡ true → is_used (accepted_at a qs) s.number ≡ true) → is_unnumbered s ≡ false
      one s x y = go (is_word s.reply) refl
        where
          go : (b : Bool) → is_word s.reply ≡ b → is_unnumbered s ≡ false
          go false k = above s.number ((x.1 k).1 h)
          go true k = zero (s.number == 0) refl
            where
              zero : (t : Bool) → (s.number == 0) ≡ t → t ≡ false
              zero false q = refl
              zero true q = absurd (cc (
                  sym (y (ap (λ (t : Bool). t && is_word s.reply) (eq-eqb s.node a x.0) ∙ k))
                  ∙ ap (is_used (accepted_at a qs)) (eqb-true s.number 0 q)
                  ∙ unused_before 1 0 (flat_map (calls_in a) qs) (omega arith)
                  ))

  -- each answer of the step stands under its node
  pub own_answers : AllByRecursion (λ s. s.node ≡ a) u.answers
  own_answers = all_map (λ (s : Answer). (s.node ≡ a) × (is_word s.reply ≡ false → IsOfAnswer e qs a s.number))
      (λ (s : Answer). s.node ≡ a) (λ s x. x.0) u.answers within.answers

  -- the same of each that is found
  pub own_place : (s : Answer) → Contains p.answers s → s.node ≡ a
  own_place s c = All-contains (λ (s : Answer). s.node ≡ a) u.answers s
      (All-from_recursion (λ (s : Answer). s.node ≡ a) u.answers own_answers)
      (subst (λ (l : List Answer). Contains l s) (answers_given o w e is) c)

  -- the look-ups among its entries are those of the event
  own : Own u.entries (exit_of p) (left_of p) (notice_of p) (read_of p)
  own = event_enters o w e rested is W

  -- no look-up and no `spawn`
  no_look_up : takes_none e ≡ false → read_of p ≡ [] → IsNoLookUp p
  no_look_up h r = record { entered = own.reads ∙ r; answered = none h }

-- what an accepted event enters of look-ups, and answers under number 0
pub looks_once : (o : Opening) (w : World) (e : WorldEvent) (ps : List Played) → Replicas o w → Book o w ps
    → Book o (accepted o w e) (ps ++ played o w e ∷ []) → Spares w ps → Rested w → refusal o w e ≡ None
    → Rules.Walked o w e → LooksUpOnce (played o w e)
looks_once o w (At a (Event.Calling (Call.LookUp look))) ps R B C X rested is W = record {
  reply = reply;
  entered = (own o w e ps R B C X rested is W).reads ∙ ap (map (λ (s : Answer). Entry.Read a look s.reply)) given;
  answered = ap (filter is_unnumbered) given;
}
  where
    e : WorldEvent
    e = At a (Event.Calling (Call.LookUp look))

    reply : Reply
    reply = seen_in (w.node a).replica look

    given : (played o w e).answers ≡ answer_to a 0 reply ∷ []
    given = answers_given o w e is
        ∙ looked-answers o.bound a look reply (w.node a) (rested a (place_runs o w e is))
looks_once o w (At a (Event.Calling Call.Spawn)) ps R B C X rested is W = record {
  process = process;
  home = refl;
  entered = (own o w e ps R B C X rested is W).reads;
  answered = ap (filter is_unnumbered) given;
}
  where
    e : WorldEvent
    e = At a (Event.Calling Call.Spawn)

    process : Process
    process = record { node = a; serial = next_serial (w.node a).watch }

    given : (played o w e).answers ≡ answer_to a 0 (Pid process) ∷ []
    given = answers_given o w e is
        ∙ spawned-answers o.bound a process.serial (w.node a) (rested a (place_runs o w e is))
looks_once o w (At a (Event.Calling (Call.OnName c))) ps R B C X rested is W =
    no_look_up o w (At a (Event.Calling (Call.OnName c))) ps R B C X rested is W refl refl
looks_once o w (At a (Event.Calling (Call.SetLock p r q target retries))) ps R B C X rested is W =
    no_look_up o w (At a (Event.Calling (Call.SetLock p r q target retries))) ps R B C X rested is W refl refl
looks_once o w (At a (Event.Calling (Call.DelLock p r q target))) ps R B C X rested is W =
    no_look_up o w (At a (Event.Calling (Call.DelLock p r q target))) ps R B C X rested is W refl refl
looks_once o w (At a (Event.Calling (Call.JoinBy m))) ps R B C X rested is W =
    no_look_up o w (At a (Event.Calling (Call.JoinBy m))) ps R B C X rested is W refl refl
looks_once o w (At a Event.Retry) ps R B C X rested is W =
    no_look_up o w (At a Event.Retry) ps R B C X rested is W refl refl
looks_once o w (At a (Event.Exiting q)) ps R B C X rested is W =
    no_look_up o w (At a (Event.Exiting q)) ps R B C X rested is W refl refl
looks_once o w (At a Event.Leave) ps R B C X rested is W =
    no_look_up o w (At a Event.Leave) ps R B C X rested is W refl refl
looks_once o w (Deliver f t) ps R B C X rested is W = no_look_up o w (Deliver f t) ps R B C X rested is W refl refl

-- each step of a course
abbrev pub AreOwnSteps : List Played → Type 0
AreOwnSteps ps = (p : Played) → Contains ps p → IsOwnStep p

-- at first there is none
pub own_steps_open : AreOwnSteps []
own_steps_open p c = absurd (Contains-nil p c)

-- and with each accepted event one more
pub own_steps_keep : (o : Opening) (w : World) (e : WorldEvent) (ps : List Played) → Replicas o w → Book o w ps
    → Book o (accepted o w e) (ps ++ played o w e ∷ []) → Spares w ps → Rested w → refusal o w e ≡ None
    → Rules.Walked o w e → AreOwnSteps ps → AreOwnSteps (ps ++ played o w e ∷ [])
own_steps_keep o w e ps R B C X rested is W before p c = elim (Contains-append_cases ps (played o w e ∷ []) p c) [
  | inl h ↦ before p h
  | inr h ↦ elim (Contains-cases (played o w e) [] p h) [
    | inl q ↦ subst IsOwnStep q (record {
      looks = looks_once o w e ps R B C X rested is W;
      place = own_place o w e ps R B C X rested is W;
    })
    | inr none ↦ absurd (Contains-nil p none)
  ]
]
