-- Where the test of the headline passes, the headline stands as far as the nodes below the bound tell.
use Rattle.std.proofs.Math.Path.{ap₂}
use Rattle.std.proofs.Common.{ℕ, zero, suc, Bool, true, false, ◌==◌, ◌-◌, ◌≡◌, ◌<◌, Option, Some, None, List, [], ◌∷◌, ◌++◌, filter, refl, sym, subst, ap, ◌∙◌, inl, inr, arith}
use Rattle.std.specs.Prelude.{◌&&◌, ◌||◌, if◌then◌else◌, is_none, fold, Contains}
use Rattle.std.specs.List.{list_all, slice_get}
use Rattle.std.proofs.lemmas.List.{append-nil}
use Rattle.std.proofs.lemmas.List.Sums.{fold-append}
use Rattle.std.proofs.lemmas.List.Elements.{filter-append}
use Rattle.std.proofs.lemmas.Grind.{flat_map-append}
use Rattle.std.proofs.lemmas.Option.{slice_get_within}
use Rattle.std.proofs.lemmas.Bool.{eqb-true, and_parts}
use Rattle.registry_model.specs.History.{Standing, nothing_yet, standing_of, after}
use Rattle.registry_model.specs.Legal.{all_legal, IsLegal}
use Rattle.registry_model.proofs.Lists.{by_push, Contains-front, Contains-behind, Contains-cases, Contains-nil, Contains-split}
use Rattle.registry_model.proofs.HistoryParts.{standing_of-append}
use Rattle.replicas.proofs.Histories.{IsLegal-more}
use Rattle.protocol_model.specs.Event.{Call, Answer, Refusal}
use Rattle.protocol_model.specs.World.{Opening, in_cluster, World, WorldEvent, place, opening_world, refusal, accepted, happens, run}
use Rattle.protocol_model.specs.Course.{Played, played, entries_of, answers_of, course}
use Rattle.protocol_model.specs.Fit.{calls_in}
use Rattle.protocol_model.specs.Answers.{answer_to, calls_at, answers_under, AtMostOne}
use Rattle.protocol_model.specs.Answers.AtMostOne.{NotYet, Once}
use Rattle.protocol_model.specs.Headline.{standing, EachStep}
use Rattle.protocol_model.specs.Check.{Checked, checked, check_event, opening_check, stands, step_stands, is_at_most_one, answers_call, is_made_in, all_entries, decided_under_lock, looks_up_once, answers_in_time, joiner_is_answered, keeps_written}
use Rattle.headline.proofs.Courses.{entries_of-push, last_step}
use Rattle.headline.proofs.Tied.{passed, course-push, run-push}
use Rattle.headline.proofs.Told
use Rattle.headline.proofs.Meant

-- each step of some, and one more
pub each_push : (P : List Played → Played → Type 0) (ps : List Played) (p : Played) → EachStep ps P → P ps p →
    EachStep (ps ++ p ∷ []) P
each_push P [] p each one [] q later i = let e : p ≡ q = cc in subst (λ (r : Played). P [] r) e one
each_push P [] p each one (b ∷ []) q later i = absurd cc
each_push P [] p each one (b ∷ c ∷ before) q later i = absurd cc
each_push P (x ∷ ps) p each one [] q later i = let e : x ≡ q = cc in
    subst (λ (r : Played). P [] r) e (each [] x ps refl)
each_push P (x ∷ ps) p each one (b ∷ before) q later i =
    let e : x ≡ b = cc in
    let more : ps ++ p ∷ [] ≡ before ++ q ∷ later = cc in
    subst (λ (y : Played). P (y ∷ before) q) e
    (each_push (λ c r. P (x ∷ c) r) ps p
    (λ c r l j. each (x ∷ c) r l (ap (λ (ds : List Played). x ∷ ds) j)) one before q later more)

-- what stands of each step holds of each that is among them
pub each_among : (Q : Played → Type 0) (ps : List Played) → EachStep ps (λ before p. Q p) → (p : Played) →
    Contains ps p →
    Q p
each_among Q ps each p c =
    let (before, later, e) : (before : List Played) × (later : List Played) × (ps ≡ before ++ p ∷ later) =
    Contains-split ps p c in
    each before p later e

-- a call that stands in a list stands in one that begins with it
pub slice_get-front : {A : Type 0} (xs ys : List A) (k : ℕ) (x : A) → slice_get xs k ≡ Some x →
    slice_get (xs ++ ys) k ≡ Some x
slice_get-front [] ys k x e = let l : k < 0 = slice_get_within [] k x e in absurd (omega arith)
slice_get-front (y ∷ xs) ys zero x e = e
slice_get-front (y ∷ xs) ys (suc k) x e = slice_get-front xs ys k x e

-- what passes a filter passes its test, and is of the list
pub item_filtered : {A : Type 0} (test : A → Bool) (xs : List A) (x : A) → Contains (filter test xs) x →
    Contains xs x × (test x ≡ true)
item_filtered test [] x c = absurd (Contains-nil x c)
item_filtered {A} test (y ∷ xs) x c = go (test y) refl c (item_filtered test xs x)
  where
    go : (b : Bool) → test y ≡ b → Contains (if b then y ∷ filter test xs else filter test xs) x →
        (Contains (filter test xs) x → Contains xs x × (test x ≡ true)) → Contains (y ∷ xs) x × (test x ≡ true)
    go true k d more = elim (Contains-cases y (filter test xs) x d) [
      | inl i ↦ (
        subst (λ (z : A). Contains (z ∷ xs) x) (sym i) (Contains-front x xs),
        subst (λ (z : A). test z ≡ true) i k,
      )
      | inr h ↦ (Contains-behind y xs x (more h).0, (more h).1)
    ]
    go false k d more = (Contains-behind y xs x (more d).0, (more d).1)

-- the answers under one number, with one step more
under-push : (a k : ℕ) (ps : List Played) (p : Played) →
    answers_under a k (ps ++ p ∷ [])
    ≡ answers_under a k ps ++ filter (λ s. (s.node == a) && (s.number == k)) p.answers
under-push a k ps p =
    ap (filter (λ s. (s.node == a) && (s.number == k))) (flat_map-append (λ (q : Played). q.answers) ps (p ∷ [])
    ∙ ap (λ (ss : List Answer). answers_of ps ++ ss) (append-nil p.answers))
    ∙ filter-append (λ s. (s.node == a) && (s.number == k)) (answers_of ps) p.answers

-- an answer under a number of a node
under_own : (a k : ℕ) (ps : List Played) (s : Answer) → Contains (answers_under a k ps) s →
    (s.node ≡ a) × (s.number ≡ k)
under_own a k ps s c =
    let passes : Contains (answers_of ps) s × ((s.node == a) && (s.number == k) ≡ true) =
    item_filtered _ (answers_of ps) s c in
    let parts : ((s.node == a) ≡ true) × ((s.number == k) ≡ true) = and_parts _ _ passes.1 in
    (eqb-true s.node a parts.0, eqb-true s.number k parts.1)

-- more calls leave the answers under a number as they are
more_calls : (calls more : List Call) (a k : ℕ) (ss : List Answer) → AtMostOne calls a k ss →
    AtMostOne (calls ++ more) a k ss
more_calls calls more a k ss NotYet = NotYet
more_calls calls more a k ss (Once call reply e m) = Once call reply (slice_get-front calls more (k - 1) call e) m

-- at most one answer under each number, with one step more whose answers pass
once_more : (ps : List Played) (p : Played) → list_all (answers_call (ps ++ p ∷ []) p) p.answers ≡ true → (a k : ℕ) →
    0 < k → AtMostOne (calls_at a ps) a k (answers_under a k ps) →
    AtMostOne (calls_at a (ps ++ p ∷ [])) a k (answers_under a k (ps ++ p ∷ []))
once_more ps p passes a k l before = go (filter (λ s. (s.node == a) && (s.number == k)) p.answers) refl
  where
    calls : calls_at a (ps ++ p ∷ []) ≡ calls_at a ps ++ calls_in a p
    calls = flat_map-append (calls_in a) ps (p ∷ [])
        ∙ ap (λ (cs : List Call). calls_at a ps ++ cs) (append-nil (calls_in a p))

    go : (new : List Answer) → filter (λ s. (s.node == a) && (s.number == k)) p.answers ≡ new →
        AtMostOne (calls_at a (ps ++ p ∷ [])) a k (answers_under a k (ps ++ p ∷ []))
    go [] e = subst (λ (ss : List Answer). AtMostOne (calls_at a (ps ++ p ∷ [])) a k ss)
        (sym (under-push a k ps p ∙ ap (λ (ss : List Answer). answers_under a k ps ++ ss) e
        ∙ append-nil (answers_under a k ps)))
        (subst (λ (cs : List Call). AtMostOne cs a k (answers_under a k ps)) (sym calls)
        (more_calls (calls_at a ps) (calls_in a p) a k (answers_under a k ps) before))
    go (s ∷ new) e = Meant.at_most_one (calls_at a (ps ++ p ∷ [])) a k (answers_under a k (ps ++ p ∷ [])) asked
        (λ u c. let own : (u.node ≡ a) × (u.number ≡ k) = under_own a k (ps ++ p ∷ []) u c in
        Told.answer_by u (answer_to a k u.reply) own.0 own.1 refl)
      where
        there : Contains p.answers s × ((s.node == a) && (s.number == k) ≡ true)
        there = item_filtered _ p.answers s (subst (λ (ss : List Answer). Contains ss s) (sym e) (Contains-front s new))

        own : ((s.node == a) ≡ true) × ((s.number == k) ≡ true)
        own = and_parts _ _ there.1

        asked : is_at_most_one (calls_at a (ps ++ p ∷ [])) k (answers_under a k (ps ++ p ∷ [])) ≡ true
        asked = elim (Meant.either (s.number == 0)
            (is_at_most_one (calls_at s.node (ps ++ p ∷ [])) s.number (answers_under s.node s.number (ps ++ p ∷ [])))
            (and_parts (s.node == place p.event) ((s.number == 0)
            || is_at_most_one (calls_at s.node (ps ++ p ∷ [])) s.number (answers_under s.node s.number (ps ++ p ∷ [])))
            (Meant.all_at (answers_call (ps ++ p ∷ []) p) p.answers passes s there.0)).1) [
              | inl z ↦ let zero_is : s.number ≡ 0 = eqb-true s.number 0 z in
                  let k_is : s.number ≡ k = eqb-true s.number k own.1 in
                  absurd (omega arith)
              | inr h ↦ subst (λ (b : ℕ). is_at_most_one (calls_at b (ps ++ p ∷ [])) k
                  (answers_under b k (ps ++ p ∷ [])) ≡ true)
                  (eqb-true s.node a own.0)
                  (subst (λ (m : ℕ). is_at_most_one (calls_at s.node (ps ++ p ∷ [])) m
                  (answers_under s.node m (ps ++ p ∷ [])) ≡ true) (eqb-true s.number k own.1) h)
            ]

module _ (o : Opening) where
  -- a step and the world behind it pass
  abbrev pub Passes : List Played → Played → World → Type 0
  Passes before p w =
      step_stands o before (before ++ p ∷ []) (standing o before) p (fold after (standing o before) p.entries) w ≡ true

  -- what stands of each step of a course, and of the world behind all
  pub record Along (ps : List Played) (w : World) : Type 0 where
    pub between : stands o ps (standing o ps) w ≡ true
    pub legal : IsLegal (in_cluster o) (entries_of ps)
    pub once : (a k : ℕ) → 0 < k → AtMostOne (calls_at a ps) a k (answers_under a k ps)
    pub each : EachStep ps (λ before p. (v : World) × Passes before p v)
    pub last : (before : List Played) (p : Played) → ps ≡ before ++ p ∷ [] → Passes before p w

  -- the parts of a step that passes
  pub record Parts (before : List Played) (p : Played) (w : World) : Type 0 where
    pub legal : all_legal (standing o before) p.entries ≡ true
    pub made : list_all (is_made_in p) p.entries ≡ true
    pub decided : all_entries (decided_under_lock o w) (standing o before) p.entries ≡ true
    pub looks : looks_up_once p ≡ true
    pub in_time : answers_in_time (standing o before) p (fold after (standing o before) p.entries) ≡ true
    pub answered : list_all (answers_call (before ++ p ∷ []) p) p.answers ≡ true
    pub joiner : all_entries (joiner_is_answered (answers_of before)) (standing o before) p.entries ≡ true
    pub written : keeps_written o (fold after (standing o before) p.entries) p w ≡ true

  -- one by one
  pub parts_of : (before : List Played) (p : Played) (w : World) → Passes before p w → Parts before p w
  parts_of before p w e =
      let t : Standing = standing o before in
      let u : Standing = fold after t p.entries in
      let a : Bool = all_legal t p.entries in
      let b : Bool = list_all (is_made_in p) p.entries in
      let c : Bool = all_entries (decided_under_lock o w) t p.entries in
      let d : Bool = looks_up_once p in
      let f : Bool = answers_in_time t p u in
      let g : Bool = list_all (answers_call (before ++ p ∷ []) p) p.answers in
      let h : Bool = all_entries (joiner_is_answered (answers_of before)) t p.entries in
      let one : (a && b && c && d && f && g && h ≡ true) × (keeps_written o u p w ≡ true) = and_parts _ _ e in
      let two : (a && b && c && d && f && g ≡ true) × (h ≡ true) = and_parts _ _ one.0 in
      let three : (a && b && c && d && f ≡ true) × (g ≡ true) = and_parts _ _ two.0 in
      let four : (a && b && c && d ≡ true) × (f ≡ true) = and_parts _ _ three.0 in
      let five : (a && b && c ≡ true) × (d ≡ true) = and_parts _ _ four.0 in
      let six : (a && b ≡ true) × (c ≡ true) = and_parts _ _ five.0 in
      let seven : (a ≡ true) × (b ≡ true) = and_parts _ _ six.0 in
      record {
        legal = seven.0;
        made = seven.1;
        decided = six.1;
        looks = five.1;
        in_time = four.1;
        answered = three.1;
        joiner = two.1;
        written = one.1;
      }

  -- how things stand behind one step more
  pub behind : (ps : List Played) (p : Played) → standing o (ps ++ p ∷ []) ≡ fold after (standing o ps) p.entries
  behind ps p = ap (standing_of (in_cluster o)) (entries_of-push ps p)
      ∙ standing_of-append (in_cluster o) (entries_of ps) p.entries

  -- nothing was played yet
  along_none : stands o [] (nothing_yet (in_cluster o)) (opening_world o) ≡ true → Along [] (opening_world o)
  along_none e = record {
    between = e;
    legal = refl;
    once = λ a k l. NotYet;
    each = λ before p later i. nothing before p later i;
    last = λ before p i. nothing before p [] i;
  }
    where
      nothing : {X : Type 0} (before : List Played) (p : Played) (later : List Played) → [] ≡ before ++ p ∷ later → X
      nothing [] p later i = cc
      nothing (q ∷ before) p later i = cc

  -- one step more
  along_more : (ps : List Played) (p : Played) (v w : World) → Along ps v → Passes ps p w →
      stands o (ps ++ p ∷ []) (fold after (standing o ps) p.entries) w ≡ true → Along (ps ++ p ∷ []) w
  along_more ps p v w A step here = record {
    between = subst (λ (u : Standing). stands o (ps ++ p ∷ []) u w ≡ true) (sym (behind ps p)) here;
    legal = subst (IsLegal (in_cluster o)) (sym (entries_of-push ps p))
        (IsLegal-more (in_cluster o) (entries_of ps) p.entries A.legal parts.legal);
    once = λ a k l. once_more ps p parts.answered a k l (A.once a k l);
    each = each_push (λ before q. (x : World) × Passes before q x) ps p A.each (w, step);
    last = last_step (λ before q. Passes before q w) ps p step;
  }
    where
      parts : Parts ps p w
      parts = parts_of ps p w step

  -- what passes with one event more passes without it
  front : (k : Checked) (e : WorldEvent) (x : Option Refusal) → (check_event o k e x).keeps ≡ true → k.keeps ≡ true
  front k e (Some cause) h = h
  front k e None h = (and_parts _ _ (and_parts _ _ h).0).0

  -- how far events that pass are checked
  abbrev pub Reached : List Played → World → Checked → Type 0
  Reached ps w k = (k ≡ passed o ps w) × Along ps w

  -- one event more
  reach : (ps : List Played) (w : World) (e : WorldEvent) (x : Option Refusal) → refusal o w e ≡ x → Along ps w →
      (check_event o (passed o ps w) e x).keeps ≡ true →
      Reached (ps ++ (if is_none x then played o w e ∷ [] else [])) (happens o w e) (check_event o (passed o ps w) e x)
  reach ps w e (Some cause) r A h =
      let same : happens o w e ≡ w = ap (λ (x : Option Refusal). if is_none x then accepted o w e else w) r in (
        ap₂ (passed o) (sym (append-nil ps)) (sym same),
        subst (λ (v : World). Along (ps ++ []) v) (sym same)
            (subst (λ (qs : List Played). Along qs w) (sym (append-nil ps)) A),
      )
  reach ps w e None r A h =
      let parts : (step_stands o ps (ps ++ played o w e ∷ []) (standing o ps) (played o w e)
      (fold after (standing o ps) (played o w e).entries) (happens o w e) ≡ true)
      × (stands o (ps ++ played o w e ∷ []) (fold after (standing o ps) (played o w e).entries) (happens o w e)
      ≡ true) =
      and_parts _ _ h in (
        ap₂ (λ (u : Standing) (b : Bool). let k : Checked = record {
          plays = ps ++ played o w e ∷ [];
          standing = u;
          world = happens o w e;
          keeps = b;
        } in k) (sym (behind ps (played o w e))) h,
        along_more ps (played o w e) w (happens o w e) A parts.0 parts.1,
      )

  -- all events
  pub reached : (es : List WorldEvent) → (fold (checked o) (opening_check o) es).keeps ≡ true →
      Reached (course o (opening_world o) es) (run o (opening_world o) es) (fold (checked o) (opening_check o) es)
  reached es = by_push (λ es. (fold (checked o) (opening_check o) es).keeps ≡ true →
      Reached (course o (opening_world o) es) (run o (opening_world o) es) (fold (checked o) (opening_check o) es))
      (λ h. (
        ap (λ (b : Bool). let k : Checked = record {
          plays = [];
          standing = nothing_yet (in_cluster o);
          world = opening_world o;
          keeps = b;
        } in k) h,
        along_none h,
      ))
      more es
    where
      more : (es : List WorldEvent) (e : WorldEvent) →
          ((fold (checked o) (opening_check o) es).keeps ≡ true →
          Reached (course o (opening_world o) es) (run o (opening_world o) es)
          (fold (checked o) (opening_check o) es)) →
          (fold (checked o) (opening_check o) (es ++ e ∷ [])).keeps ≡ true →
          Reached (course o (opening_world o) (es ++ e ∷ [])) (run o (opening_world o) (es ++ e ∷ []))
          (fold (checked o) (opening_check o) (es ++ e ∷ []))
      more es e before h =
          subst (Reached (course o (opening_world o) (es ++ e ∷ [])) (run o (opening_world o) (es ++ e ∷ []))) (sym one)
          (subst (λ (v : World). Reached (course o (opening_world o) (es ++ e ∷ [])) v (checked o k e))
          (sym (run-push o (opening_world o) es e))
          (subst (λ (qs : List Played). Reached qs (happens o w e) (checked o k e))
          (sym (course-push o (opening_world o) es e))
          (subst (λ (c : Checked). Reached (ps ++ (if is_none (refusal o w e) then played o w e ∷ [] else []))
          (happens o w e) (checked o c e)) (sym here.0)
          (reach ps w e (refusal o w e) refl here.1
          (subst (λ (c : Checked). (checked o c e).keeps ≡ true) here.0 passes)))))
        where
          k : Checked
          k = fold (checked o) (opening_check o) es

          ps : List Played
          ps = course o (opening_world o) es

          w : World
          w = run o (opening_world o) es

          one : fold (checked o) (opening_check o) (es ++ e ∷ []) ≡ checked o k e
          one = fold-append (checked o) (opening_check o) es (e ∷ [])

          passes : (checked o k e).keeps ≡ true
          passes = subst (λ (c : Checked). c.keeps ≡ true) one h

          here : Reached ps w k
          here = before (front k e (refusal o k.world e) passes)
