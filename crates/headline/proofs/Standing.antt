-- The headline as far as the nodes below the bound tell, of events that pass the test.
use mathlib.Core.Logic.{◌⊎◌}
use Rattle.std.proofs.Common.{ℕ, Bool, true, false, ◌==◌, ◌≡◌, ◌<◌, Option, Some, List, [], ◌∷◌, ◌++◌, filter, refl, sym, subst, ap, ◌∙◌, inl, inr}
use Rattle.std.specs.Prelude.{not, ◌&&◌, ◌||◌, fold, flat_map, Contains}
use Rattle.std.proofs.lemmas.Bool.{eqb-true, and_parts}
use Rattle.registry_model.specs.Call.{Reply, Yes, is_reply}
use Rattle.registry_model.specs.Registry.{in_group}
use Rattle.registry_model.specs.History.{Entry, Standing, is_free, is_holding, old, hold_at, after}
use Rattle.registry_model.specs.HistoryLaws.{decided_by}
use Rattle.registry_model.specs.Legal.{IsLegal}
use Rattle.protocol_model.specs.Event.{Event, Answer}
use Rattle.protocol_model.specs.World.{Opening, in_cluster, World, At, place, opening_world, refusal, run}
use Rattle.protocol_model.specs.Course.{Played, entries_of, answers_of, course, seen, global_given}
use Rattle.protocol_model.specs.Fit.{IsPrefix, IsMadeIn, accepted_at, decided_at, is_exit, is_left, is_told, exit_of, left_of, notice_of}
use Rattle.protocol_model.specs.Answers.{answers_at, entered_at, LooksUpOnce, JoinerIsAnswered}
use Rattle.protocol_model.specs.Headline.{standing, EachStep, IsRunning}
use Rattle.protocol_model.specs.Tests.{is_numbered_call, is_answer, are_entries, are_nodes}
use Rattle.protocol_model.specs.Check.{fits, keeps_history, keeps_replies, keeps_free_and_held, keeps_leave, keeps_holder, is_made_in, answers_call, is_running, shows, shows_with_or_without, group_shows, has_the_lock, decider_has_the_lock, decided_under_lock, joiner_is_answered}
use Rattle.moves.proofs.Indices.{empty_at, not_false}
use Rattle.headline.specs.Tie.{ShowsBelow, HeadlineBelow, HeadlineWhereTestPasses}
use Rattle.headline.proofs.Told
use Rattle.headline.proofs.Meant
use Rattle.headline.proofs.Passing.{each_among, Passes, Along, Parts, parts_of, behind, reached}

module _ (o : Opening) (ps : List Played) (w : World) (A : Along o ps w) where
  -- the clauses between events, one by one
  record Between : Type 0 where
    history : keeps_history o ps w ≡ true
    fits : fits o ps ≡ true
    replies : keeps_replies o ps ≡ true
    free_and_held : keeps_free_and_held o (standing o ps) w ≡ true
    leave : keeps_leave o (standing o ps) w ≡ true
    holder : keeps_holder o (standing o ps) w ≡ true

  between : Between
  between =
      let u : Standing = standing o ps in
      let a : Bool = keeps_history o ps w in
      let b : Bool = fits o ps in
      let c : Bool = keeps_replies o ps in
      let d : Bool = keeps_free_and_held o u w in
      let e : Bool = keeps_leave o u w in
      let one : (a && b && c && d && e ≡ true) × (keeps_holder o u w ≡ true) = and_parts _ _ A.between in
      let two : (a && b && c && d ≡ true) × (e ≡ true) = and_parts _ _ one.0 in
      let three : (a && b && c ≡ true) × (d ≡ true) = and_parts _ _ two.0 in
      let four : (a && b ≡ true) × (c ≡ true) = and_parts _ _ three.0 in
      let five : (a ≡ true) × (b ≡ true) = and_parts _ _ four.0 in
      record {
        history = five.0;
        fits = five.1;
        replies = four.1;
        free_and_held = three.1;
        leave = two.1;
        holder = one.1;
      }

  -- the history
  history : w.history ≡ entries_of ps
  history = Told.entries w.history (entries_of ps) between.history

  -- how it fits the events
  record Fitting : Type 0 where
    calls : (a : ℕ) → a < o.bound → IsPrefix (flat_map (decided_at a) (entries_of ps)) (accepted_at a ps)
    exits : filter is_exit (entries_of ps) ≡ flat_map exit_of ps
    departures : filter is_left (entries_of ps) ≡ flat_map left_of ps
    notices : filter is_told (entries_of ps) ≡ flat_map notice_of ps

  fitting : Fitting
  fitting =
      let h : List Entry = entries_of ps in
      let one : (_ ≡ true) × (are_entries (filter is_told h) (flat_map notice_of ps) ≡ true) = and_parts _ _ between.fits
      in
      let two : (_ ≡ true) × (are_entries (filter is_left h) (flat_map left_of ps) ≡ true) = and_parts _ _ one.0 in
      let three : (_ ≡ true) × (are_entries (filter is_exit h) (flat_map exit_of ps) ≡ true) = and_parts _ _ two.0 in
      record {
        calls = λ a l. Told.prefix is_numbered_call Told.numbered_call (flat_map (decided_at a) h) (accepted_at a ps)
            (not_false _ (empty_at o.bound _ three.0 a l));
        exits = Told.entries _ _ three.1;
        departures = Told.entries _ _ two.1;
        notices = Told.entries _ _ one.1;
      }

  -- what a running node shows
  shown_at : (a : ℕ) → IsRunning o (standing o ps) a → shows_with_or_without o (standing o ps) a w ≡ true
  shown_at a r = Meant.so (is_running o (standing o ps) a) _
      (empty_at o.bound _ between.free_and_held a (Meant.bounded o (standing o ps) a r))
      (Meant.running o (standing o ps) a r)

  -- while nothing holds in its group
  free : (a : ℕ) → IsRunning o (standing o ps) a → is_free (standing o ps) a ≡ true →
      ShowsBelow o (standing o ps).registry a (seen o w)
  free a r f = Meant.shown o (standing o ps).registry a w
      (only (shows o (standing o ps).registry a w) (shows o (old (standing o ps) a) a w)
      (subst (λ (b : Bool). (shows o (standing o ps).registry a w || not b && shows o (old (standing o ps) a) a w)
      ≡ true) f
      (shown_at a r)))
    where
      only : (a b : Bool) → (a || not true && b) ≡ true → a ≡ true
      only true b e = refl
      only false b e = e

  -- with what holds, or without
  held : (a : ℕ) → IsRunning o (standing o ps) a →
      ShowsBelow o (standing o ps).registry a (seen o w) ⊎ ShowsBelow o (old (standing o ps) a) a (seen o w)
  held a r = elim (Meant.either (shows o (standing o ps).registry a w) _ (shown_at a r)) [
    | inl h ↦ inl (Meant.shown o (standing o ps).registry a w h)
    | inr h ↦ inr (Meant.shown o (old (standing o ps) a) a w (and_parts _ _ h).1)
  ]

  -- the parts of each step, and of the last
  part : (before : List Played) (p : Played) (later : List Played) → ps ≡ before ++ p ∷ later →
      (v : World) × Parts o before p v
  part before p later i = let (v, h) : (v : World) × Passes o before p v = A.each before p later i in
      (v, parts_of o before p v h)

  last_part : (before : List Played) (p : Played) → ps ≡ before ++ p ∷ [] → Parts o before p w
  last_part before p i = parts_of o before p w (A.last before p i)

  -- where a step answers `yes`
  written : (before : List Played) (p : Played) (s : Answer) → ps ≡ before ++ p ∷ [] → Contains p.answers s → s.reply
      ≡ Yes →
      (c : ℕ) → in_group (standing o ps).registry s.node c ≡ true → IsRunning o (standing o ps) c →
      ShowsBelow o (standing o ps).registry c (seen o w)
  written before p s i c y a g r = Meant.shown o (standing o ps).registry a w
      (Meant.group_at o (standing o ps) s.node (λ b. shows o (standing o ps).registry b w) group a g r)
    where
      now : standing o ps ≡ fold after (standing o before) p.entries
      now = ap (standing o) i ∙ behind o before p

      group : group_shows o (standing o ps) s.node w ≡ true
      group = subst (λ (u : Standing). group_shows o u s.node w ≡ true) (sym now)
          (Meant.so_or (is_reply s.reply Yes) _
          (Meant.all_at (λ t. not (is_reply t.reply Yes) || group_shows o (fold after (standing o before) p.entries)
          t.node w)
          p.answers (last_part before p i).written s c)
          (subst (λ (r : Reply). is_reply r Yes ≡ true) (sym y) refl))

  -- who decides has the lock
  decided : (before : List Played) (p : Played) (earlier later : List Entry) (e : Entry) (a : ℕ) →
      ps ≡ before ++ p ∷ [] → p.entries ≡ earlier ++ e ∷ later → decided_by e ≡ Some a →
      (let t = fold after (standing o before) earlier in
      (c b : ℕ) → b < o.bound → in_group t.registry a c ≡ true → IsRunning o t c → global_given (w.node c).locks b
      ≡ (b == a))
  decided before p earlier later e a i j k c b l g r =
      Told.nodes o.bound (global_given (w.node c).locks) (λ b. b == a)
      (Meant.group_at o t a (λ c. are_nodes o.bound (global_given (w.node c).locks) (λ b. b == a)) lock c g r) b l
    where
      t : Standing
      t = fold after (standing o before) earlier

      lock : has_the_lock o t a w ≡ true
      lock = subst (λ (x : Option ℕ). decider_has_the_lock o w t x ≡ true) k
          (Meant.entries_at (decided_under_lock o w) (standing o before) p.entries earlier later e
          (last_part before p i).decided j)

  -- answers stand at their own node
  placed : (p : Played) (s : Answer) → Contains ps p → Contains p.answers s → s.node ≡ place p.event
  placed p s c = each_among (λ p. Contains p.answers s → s.node ≡ place p.event) ps
      (λ before p later i d. let (v, h) : (v : World) × Parts o before p v = part before p later i in
      eqb-true s.node (place p.event)
      (and_parts (s.node == place p.event) _ (Meant.all_at (answers_call (before ++ p ∷ []) p) p.answers h.answered s
      d)).0)
      p c

  -- joiners are answered before their admissions end
  joined : EachStep ps (λ before p. JoinerIsAnswered before (standing o before) p)
  joined before p rest i earlier later hold j k m e there own entry =
      let (v, h) : (v : World) × Parts o before p v = part before p rest i in
      Meant.joiner (answers_of before) (fold after (standing o before) earlier).registry m
      (hold_at (fold after (standing o before) earlier) m) hold j k
      (Meant.entries_at (joiner_is_answered (answers_of before)) (standing o before) p.entries earlier later
      (Entry.Done m)
      h.joiner e) there own entry

  -- all clauses
  pub below : HeadlineBelow o ps (seen o w)
  below = record {
    history = history;
    legal = subst (IsLegal (in_cluster o)) (sym history) A.legal;
    calls = fitting.calls;
    exits = fitting.exits;
    departures = fitting.departures;
    notices = fitting.notices;
    replies = λ a l. Told.prefix is_answer Told.answer (answers_at a ps) (flat_map (entered_at a) (entries_of ps))
        (not_false _ (empty_at o.bound _ between.replies a l));
    in_time = λ before p later i. let (v, h) : (v : World) × Parts o before p v = part before p later i in
        Meant.in_time (standing o before) p (fold after (standing o before) p.entries) h.in_time;
    free = free;
    held = held;
    written = written;
    leave = λ a r. Meant.leave (is_holding (standing o ps) a) (refusal o w (At a Event.Leave))
        (Meant.so (is_running o (standing o ps) a) _
        (empty_at o.bound _ between.leave a (Meant.bounded o (standing o ps) a r))
        (Meant.running o (standing o ps) a r));
    holder = Meant.holding _ _ between.holder;
    made = λ p e c d. each_among (λ p. Contains p.entries e → IsMadeIn p e) ps
        (λ before p later i d. let (v, h) : (v : World) × Parts o before p v = part before p later i in
        Meant.made p e (Meant.all_at (is_made_in p) p.entries h.made e d)) p c d;
    decided = decided;
    looks = each_among LooksUpOnce ps
        (λ before p later i. let (v, h) : (v : World) × Parts o before p v = part before p later i in
        Meant.looking p.event p.answers p.entries p.down h.looks);
    answered = record { place = placed; once = A.once };
    joiner = joined;
  }

-- where the test passes, the headline stands as far as the nodes below the bound tell
pub passes_law : HeadlineWhereTestPasses
passes_law o es h = below o (course o (opening_world o) es) (run o (opening_world o) es) (reached o es h).1
