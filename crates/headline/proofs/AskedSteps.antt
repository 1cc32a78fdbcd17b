-- What the headline says of a step passes its test.
use mathlib.Core.Logic.{◌⊎◌}
use Rattle.std.proofs.Common.{ℕ, Bool, true, ◌==◌, ◌≡◌, Option, Some, None, List, [], ◌∷◌, ◌++◌, filter, refl, subst, ap, ◌∙◌, inl, inr, arith}
use Rattle.std.specs.Prelude.{not, ◌||◌, fold, Contains}
use Rattle.std.specs.List.{list_any}
use Rattle.std.proofs.lemmas.Bool.{cases_eq, eq-eqb, eqb-true, and_from}
use Rattle.registry_model.specs.Call.{Yes, Joined, Pid, is_reply}
use Rattle.registry_model.specs.Registry.{Registry}
use Rattle.registry_model.specs.History.{Entry, Standing, Hold, nothing_yet, standing_of, hold_at, after}
use Rattle.registry_model.specs.HistoryLaws.{decided_by}
use Rattle.registry_model.specs.Legal.{all_legal}
use Rattle.registry_model.proofs.HistoryParts.{all_legal-append, standing_of-append}
use Rattle.registry_model.proofs.Legality.{is_reply-true}
use Rattle.protocol_model.specs.Event.{Call, Event, Answer}
use Rattle.protocol_model.specs.World.{Opening, in_cluster, World, WorldEvent, At, Deliver, place}
use Rattle.protocol_model.specs.Course.{Played, seen, entries_of, answers_of}
use Rattle.protocol_model.specs.Fit.{maker_of, is_by_letter, is_delivery, IsMadeIn}
use Rattle.protocol_model.specs.Answers.{answer_to, is_prompt, due, is_admission_of, calls_at, answers_under, LooksUpOnce, AtMostOne, AnswersCalls, AnswersInTime}
use Rattle.protocol_model.specs.Answers.AtMostOne.{NotYet, Once}
use Rattle.protocol_model.specs.Headline.{standing, Headline}
use Rattle.protocol_model.specs.Tests.{is_answer}
use Rattle.protocol_model.specs.Check.{is_made_in, looks_up_once, is_at_most_one, answers_call, is_joined_in_time, answers_in_time, is_joiner_answered, joiner_is_answered, all_entries, group_shows, decider_has_the_lock, decided_under_lock, keeps_written, stands, step_stands}
use Rattle.headline.proofs.Courses.{entries_of-push}
use Rattle.headline.proofs.Same
use Rattle.headline.proofs.Asked.{where_so, or_left, or_right, Contains-last, all_from, any_from, entries_from, group_shown, lock_had, between}

-- an entry that is made in its step
made : (p : Played) (e : Entry) → IsMadeIn p e → is_made_in p e ≡ true
made p e m = and_from _ _ (eq-eqb (maker_of e) (place p.event) m.place)
    (where_so (is_by_letter e) (is_delivery p.event) m.letter)

-- what a step enters of look-ups, and answers
looking : (e : WorldEvent) (given : List Answer) (es : List Entry) (down : Bool) →
    LooksUpOnce (record { event = e; answers = given; entries = es; down = down }) →
    looks_up_once (record { event = e; answers = given; entries = es; down = down }) ≡ true
looking (At a (Event.Calling (Call.LookUp look))) given es down l =
    rw (l.entered, l.answered) (and_from _ _ (and_from _ _ (Same.number a) (Same.look look))
    (Same.answer (answer_to a 0 l.reply)))
looking (At a (Event.Calling Call.Spawn)) given es down l =
    rw (l.entered, l.answered)
    (and_from _ _ (eq-eqb l.process.node a l.home) (Same.answer (answer_to a 0 (Pid l.process))))
looking (At a (Event.Calling (Call.OnName c))) given es down l = rw (l.entered, l.answered) refl
looking (At a (Event.Calling (Call.SetLock p r q target retries))) given es down l = rw (l.entered, l.answered) refl
looking (At a (Event.Calling (Call.DelLock p r q target))) given es down l = rw (l.entered, l.answered) refl
looking (At a (Event.Calling (Call.JoinBy m))) given es down l = rw (l.entered, l.answered) refl
looking (At a Event.Retry) given es down l = rw (l.entered, l.answered) refl
looking (At a (Event.Exiting p)) given es down l = rw (l.entered, l.answered) refl
looking (At a Event.Leave) given es down l = rw (l.entered, l.answered) refl
looking (Deliver f t) given es down l = rw (l.entered, l.answered) refl

-- answers under one number
at_most_one : (calls : List Call) (a k : ℕ) (ss : List Answer) → AtMostOne calls a k ss →
    is_at_most_one calls k ss ≡ true
at_most_one calls a k ss NotYet = refl
at_most_one calls a k ss (Once call reply e m) = rw e m

-- each answer of a step
answering : (ps : List Played) (p : Played) (s : Answer) → AnswersCalls ps → Contains ps p → Contains p.answers s →
    answers_call ps p s ≡ true
answering ps p s A c d = and_from _ _ (eq-eqb s.node (place p.event) (A.place p s c d)) (elim (cases_eq s.number 0) [
  | inl z ↦ or_left _ _ (eq-eqb s.number 0 z)
  | inr ne ↦ or_right (s.number == 0) _
      (at_most_one (calls_at s.node ps) s.node s.number (answers_under s.node s.number ps)
      (A.once s.node s.number (omega (arith, ne))))
])

-- answers in time
in_time : (t : Standing) (p : Played) (u : Standing) → AnswersInTime t p u → answers_in_time t p u ≡ true
in_time t p u A = and_from _ _
    (Same.list_of is_answer Same.answer (filter is_prompt p.answers) (due t p.entries) A.prompt)
    (all_from (is_joined_in_time t u) p.answers (λ s c. where_so (is_reply s.reply Joined) _
    (λ e. let at_hand : (is_admission_of s (hold_at t s.node) ≡ true) × (is_admission_of s (hold_at u s.node) ≡ true) =
    A.joined s c (is_reply-true s.reply Joined e) in
    and_from _ _ at_hand.0 at_hand.1)))

-- the joiner of an admission that ends
joiner : (given : List Answer) (r : Registry) (m : ℕ) (x : Option Hold) →
    ((hold : Hold) (j k : ℕ) → x ≡ Some hold → hold.node ≡ m → hold.entry ≡ Entry.Join j k m Joined →
    (r.left j ≡ true) ⊎ Contains given (answer_to j k Joined)) →
    is_joiner_answered given r m x ≡ true
joiner given r m None h = refl
joiner given r m (Some hold) h =
    where_so (hold.node == m) _ (λ own. of_entry (eqb-true hold.node m own) hold.entry refl)
  where
    answered : (j k : ℕ) → (r.left j ≡ true) ⊎ Contains given (answer_to j k Joined) →
        (r.left j || list_any (is_answer (answer_to j k Joined)) given) ≡ true
    answered j k (inl l) = or_left _ _ l
    answered j k (inr c) = or_right (r.left j) _
        (any_from (is_answer (answer_to j k Joined)) given (answer_to j k Joined) c
        (Same.answer (answer_to j k Joined)))

    of_entry : hold.node ≡ m → (e : Entry) → hold.entry ≡ e → (elim e [
      | Entry.Join j k n Joined ↦ not (n == m) || (r.left j || list_any (is_answer (answer_to j k Joined)) given)
      | _ ↦ true
    ]) ≡ true
    of_entry own (Entry.Join j k n Joined) i = where_so (n == m) _
        (λ here. answered j k (h hold j k refl own
        (i ∙ ap (λ (c : ℕ). Entry.Join j k c Joined) (eqb-true n m here))))
    of_entry own _ i = refl

module _ (o : Opening) (before : List Played) (p : Played) (w : World)
    (H : Headline o (before ++ p ∷ []) (seen o w)) where
  -- how things stand before the step, and behind it
  abbrev t : Standing
  t = standing o before

  abbrev u : Standing
  u = fold after t p.entries

  -- the step is one of those so far
  last : Contains (before ++ p ∷ []) p
  last = Contains-last before p

  -- its entries are legal
  legal : all_legal t p.entries ≡ true
  legal = (all_legal-append (nothing_yet (in_cluster o)) (entries_of before) p.entries
      (subst (λ (h : List Entry). all_legal (nothing_yet (in_cluster o)) h ≡ true)
      (H.history ∙ entries_of-push before p) H.legal)).1

  -- how things stand behind it
  pub behind : standing o (before ++ p ∷ []) ≡ u
  behind = ap (standing_of (in_cluster o)) (entries_of-push before p)
      ∙ standing_of-append (in_cluster o) (entries_of before) p.entries

  -- its deciders have the lock
  deciding : all_entries (decided_under_lock o w) t p.entries ≡ true
  deciding = entries_from (decided_under_lock o w) t p.entries
      (λ earlier later e i. by earlier later e i (decided_by e) refl)
    where
      by : (earlier later : List Entry) (e : Entry) → p.entries ≡ earlier ++ e ∷ later → (x : Option ℕ) →
          decided_by e ≡ x →
          decider_has_the_lock o w (fold after t earlier) x ≡ true
      by earlier later e i None k = refl
      by earlier later e i (Some a) k =
          lock_had o (fold after t earlier) a w (H.decided before p earlier later e a refl i k)

  -- its joiners were answered
  joining : all_entries (joiner_is_answered (answers_of before)) t p.entries ≡ true
  joining = entries_from (joiner_is_answered (answers_of before)) t p.entries by
    where
      by : (earlier later : List Entry) (e : Entry) → p.entries ≡ earlier ++ e ∷ later →
          joiner_is_answered (answers_of before) (fold after t earlier) e ≡ true
      by earlier later (Entry.Done m) i =
          joiner (answers_of before) (fold after t earlier).registry m (hold_at (fold after t earlier) m)
          (λ hold j k x own e. H.joiner before p [] refl earlier later hold j k m i x own e)
      by earlier later _ i = refl

  -- where it answers `yes`, all is written
  writing : keeps_written o u p w ≡ true
  writing = all_from (λ s. not (is_reply s.reply Yes) || group_shows o u s.node w) p.answers
      (λ s c. where_so (is_reply s.reply Yes) (group_shows o u s.node w)
      (λ e. subst (λ (v : Standing). group_shows o v s.node w ≡ true) behind
      (group_shown o (standing o (before ++ p ∷ [])) s.node w
      (H.written before p s refl c (is_reply-true s.reply Yes e)))))

  -- all that stands of a step
  pub step : step_stands o before (before ++ p ∷ []) t p u w ≡ true
  step = and_from _ _ (and_from _ _ (and_from _ _ (and_from _ _ (and_from _ _ (and_from _ _ (and_from _ _
      legal
      (all_from (is_made_in p) p.entries (λ e c. made p e (H.made p e last c))))
      deciding)
      (looking p.event p.answers p.entries p.down (H.looks p last)))
      (in_time t p u (H.in_time before p [] refl)))
      (all_from (answers_call (before ++ p ∷ []) p) p.answers
      (λ s c. answering (before ++ p ∷ []) p s H.answered last c)))
      joining)
      writing

  -- all that stands between events, behind it
  pub stands_behind : stands o (before ++ p ∷ []) u w ≡ true
  stands_behind = subst (λ (v : Standing). stands o (before ++ p ∷ []) v w ≡ true) behind
      (between o (before ++ p ∷ []) w H)
