-- Answers come in time, in each step of a course.
use Rattle.std.proofs.Common.{ℕ, true, ◌≡◌, Option, Some, None, List, [], ◌∷◌, ◌++◌, refl, sym, ap, ◌∙◌, subst}
use Rattle.std.specs.Prelude.{if◌then◌else◌, fold, filter, is_none, Contains}
use Rattle.std.proofs.lemmas.List.{append-nil, append_assoc}
use Rattle.std.proofs.lemmas.List.Elements.{All-from_recursion, All-contains}
use Rattle.registry_model.specs.Call.{Joined}
use Rattle.registry_model.specs.History.{Standing, hold_at, after, standing_of}
use Rattle.protocol_model.specs.Event.{Answer, Refusal}
use Rattle.protocol_model.specs.Answers.{answer_to, is_prompt, due, is_admission_of, AnswersInTime}
use Rattle.protocol_model.specs.World.{Opening, World, WorldEvent, in_cluster, place, opening_world, turn_of, refusal, accepted}
use Rattle.protocol_model.specs.Course.{Played, played, course}
use Rattle.protocol_model.specs.Headline.{standing, EachStep}
use Rattle.join_gates.proofs.Rules
use Rattle.join_gates.proofs.Invariants.{standing_at}
use Rattle.join_gates.proofs.Pasts.{Admitted, standing_of-append}
use Rattle.fitting.proofs.Calls.{chain}
use Rattle.fitting.proofs.Chains.{Ground, Book, good_behind, history_along, book_keeps, book_opens}
use Rattle.fitting.proofs.Prompt.{prompt_along}
use Rattle.fitting.proofs.Admissions.{TellsJoin, joined_along, admission_of}

module _ (o : Opening) (Good : World → Type 0) (K : Ground o Good) where
  -- the answers of an accepted event come in time
  pub event_in_time : (w : World) (e : WorldEvent) → Good w → refusal o w e ≡ None
      → AnswersInTime (standing_at o w) (played o w e) (fold after (standing_at o w) (played o w e).entries)
  event_in_time w e G is = record {
    prompt = ap (filter is_prompt) given ∙ prompt_along o Good K a rs w G W.may ∙ ap (due (standing_at o w)) W.entries;
    joined = λ s in_answers e. told s
        (All-contains (TellsJoin a (standing_at o w) (standing_at o (Rules.effects o a rs w)))
        (Rules.answers_by o a rs w) s
        (All-from_recursion (TellsJoin a (standing_at o w) (standing_at o (Rules.effects o a rs w)))
        (Rules.answers_by o a rs w) (joined_along o Good K a rs w G W.may))
        (subst (λ (l : List Answer). Contains l s) given in_answers) e);
  }
    where
      W : Rules.Walked o w e
      W = K.walks w e G is

      a : ℕ
      a = place e

      rs : List Rules.Rule
      rs = chain o w e W

      p : Played
      p = played o w e

      given : p.answers ≡ Rules.answers_by o a rs w
      given = ap (λ (r : Option Refusal). if is_none r then (turn_of o w e).answers else []) is ∙ sym W.answers

      behind : standing_at o (Rules.effects o a rs w) ≡ fold after (standing_at o w) p.entries
      behind = ap (standing_of (in_cluster o)) (history_along o a rs w)
          ∙ standing_of-append (in_cluster o) w.history (Rules.entries_by o a rs w)
          ∙ ap (fold after (standing_at o w)) W.entries

      told : (s : Answer) → (k : ℕ) × (f : ℕ) × (s ≡ answer_to a k Joined) × (f ≡ a → ⊥)
          × Admitted (standing_at o w) a k f × Admitted (standing_at o (Rules.effects o a rs w)) a k f
          → (is_admission_of s (hold_at (standing_at o w) s.node) ≡ true)
          × (is_admission_of s (hold_at (fold after (standing_at o w) p.entries) s.node) ≡ true)
      told s x = (
        ap (λ (t : Answer). is_admission_of t (hold_at (standing_at o w) t.node)) x.2
            ∙ admission_of (standing_at o w) a x.0 x.1 x.4,
        ap (λ (t : Answer). is_admission_of t (hold_at (fold after (standing_at o w) p.entries) t.node)) x.2
            ∙ admission_of (fold after (standing_at o w) p.entries) a x.0 x.1
            (subst (λ (t : Standing). Admitted t a x.0 x.1) behind x.5),
      )

  -- each event of a course that follows the events qs
  pub course_in_time : (es : List WorldEvent) (w : World) (qs : List Played) → Good w → Book o w qs
      → (before : List Played) (p : Played) (later : List Played) → course o w es ≡ before ++ p ∷ later
      → AnswersInTime (standing o (qs ++ before)) p (fold after (standing o (qs ++ before)) p.entries)
  course_in_time [] w qs G B [] p later is = cc
  course_in_time [] w qs G B (q ∷ before) p later is = cc
  course_in_time (e ∷ es) w qs G B before p later is =
      go (refusal o w e) refl (λ v rs H C b i. course_in_time es v rs H C b p later i) is
    where
      In : List Played → Type 0
      In ps = AnswersInTime (standing o ps) p (fold after (standing o ps) p.entries)

      first : Played → List Played → Played
      first d [] = d
      first d (x ∷ xs) = x

      others : List Played → List Played
      others [] = []
      others (x ∷ xs) = xs

      here : refusal o w e ≡ None → p ≡ played o w e → In qs
      here none same =
          subst (λ (x : Played). AnswersInTime (standing o qs) x (fold after (standing o qs) x.entries)) (sym same)
          (subst (λ (t : Standing). AnswersInTime t (played o w e) (fold after t (played o w e).entries))
          (ap (standing_of (in_cluster o)) B.history) (event_in_time w e G none))

      go : (r : Option Refusal) → refusal o w e ≡ r
          → ((v : World) (rs : List Played) → Good v → Book o v rs → (b : List Played)
          → course o v es ≡ b ++ p ∷ later → AnswersInTime (standing o (rs ++ b)) p
          (fold after (standing o (rs ++ b)) p.entries))
          → (if is_none r then played o w e ∷ [] else []) ++ course o (if is_none r then accepted o w e else w) es
          ≡ before ++ p ∷ later
          → In (qs ++ before)
      go (Some r) refused more i = more w qs G B before i
      go None none more i = split before i
        where
          split : (b : List Played) → played o w e ∷ course o (accepted o w e) es ≡ b ++ p ∷ later → In (qs ++ b)
          split [] j = subst In (sym (append-nil qs)) (here none (sym (ap (first p) j)))
          split (q ∷ b) j = subst In (append_assoc qs (played o w e ∷ []) b
              ∙ ap (λ (x : Played). qs ++ x ∷ b) (ap (first q) j))
              (more (accepted o w e) (qs ++ played o w e ∷ []) (good_behind o Good K w e G none)
              (book_keeps o Good K w e qs G none B) b (ap others j))

  -- each event of a whole course
  pub in_time : Good (opening_world o) → (es : List WorldEvent)
      → EachStep (course o (opening_world o) es) (λ before p. AnswersInTime (standing o before) p
      (fold after (standing o before) p.entries))
  in_time G es before p later is = course_in_time es (opening_world o) [] G (book_opens o) before p later is
