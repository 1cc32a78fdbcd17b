-- When a call is answered `yes`, every running node of the group finds the process that it gave the name to.
use mathlib.Core.Logic.{◌⊎◌}
use Rattle.std.proofs.Common.{ℕ, Bool, true, false, ◌≡◌, ◌+◌, ◌≤◌, Option, Some, None, List, [], ◌∷◌, ◌++◌, refl, sym, ap, ◌∙◌, subst, arith, inl, inr}
use Rattle.std.specs.Prelude.{Contains, flat_map, fold, is_some, if◌then◌else◌}
use Rattle.std.specs.List.{list_any}
use Rattle.std.proofs.lemmas.Bool.{eq-eqb}
use Rattle.std.proofs.lemmas.List.{append_assoc}
use Rattle.std.proofs.lemmas.List.Folds.{list_any-append}
use Rattle.std.proofs.lemmas.List.Elements.{Contains-append_cases, Contains-append_left, Contains-append_right}
use Rattle.std.proofs.lemmas.Grind.{flat_map-append}
use Rattle.registry_model.specs.Process.{Text, Process, Nodes}
use Rattle.registry_model.specs.Table.{Change, Put, StrikeOwner, changed, get}
use Rattle.registry_model.specs.Call.{NameCall, Reply, Yes, Joined, ContactLeft, is_grant, change_of}
use Rattle.registry_model.specs.Registry.{Registry, Replica, in_group, table_of, with_table, replica_of}
use Rattle.registry_model.specs.History.{Entry, Name, Strike, Join, Done, Exit, Left, Told, Read, effect, granted_to, Hold, Standing, hold_at, after, standing_of, nothing_yet}
use Rattle.registry_model.specs.Legal.{is_legal, all_legal, IsLegal}
use Rattle.registry_model.specs.HistoryLaws.{LeavesAlone, IsLeftOut}
use Rattle.registry_model.proofs.Lists.{Contains-cases, Contains-nil, Contains-front, Contains-behind}
use Rattle.registry_model.proofs.Tables.{get-put}
use Rattle.registry_model.proofs.HistoryParts.{standing_of-append, registry-after, registry-standing_of, all_legal-append, IsLegal-front}
use Rattle.registry_model.proofs.Legality.{JoinIsLegal, join_is_legal}
use Rattle.registry_model.proofs.Groups.{in_group-itself, table_of-group, table_of-with_table, table_of-with_table_other, seen-get}
use Rattle.registry_model.proofs.Rising.{Rises, Rises-registry_of, is_rising-table_of}
use Rattle.registry_model.proofs.Holding.{IsHeld, Holds-standing_of, left_out-hold_at, alone_while_held, IsHeld-begun, IsHeld-after}
use Rattle.protocol_model.specs.Event.{Call, Answer}
use Rattle.protocol_model.specs.World.{in_cluster}
use Rattle.protocol_model.specs.Course.{entries_of}
use Rattle.protocol_model.specs.Fit.{Numbered, NameAs, JoinAs, numbered, calls_in, number_from, accepted_at, decided_at}
use Rattle.protocol_model.specs.Answers.{answer_to, is_prompt, due_when_done, due_of, due, AnswersInTime}
use Rattle.protocol_model.specs.Headline.{standing}
use Rattle.registry_model.proofs.Updates.{at_other}
use Rattle.moves.proofs.Indices.{both, neither}
pub use Rattle.fitting.proofs.Unanswered.{kept_in}
use Rattle.headline.specs.Clauses.{world, events, so_far}
use Rattle.headline.specs.Laws.{YesIsFound}
use Rattle.headline.proofs.Turns.{begins}
use Rattle.headline.proofs.Together.{replicas}
use Rattle.headline.proofs.Courses.{entries_of-push}
use Rattle.headline.proofs.Story.{Written}
use Rattle.headline.proofs.Fields.{past_now}
use Rattle.headline.proofs.Theorem.{whole, told, history_grows, history_is_legal, history_fits, answers_come_in_time, yes_is_written}

-- an entry that answered at once stands among these, with those before and behind it
pub record Due (t : Standing) (es : List Entry) (s : Answer) : Type 0 where
  pub front : List Entry
  pub entry : Entry
  pub rest : List Entry
  pub split : es ≡ front ++ entry ∷ rest
  pub answers : Contains (due_of (fold after t front) entry) s

due_by : (t : Standing) (es : List Entry) (s : Answer) → Contains (due t es) s → Due t es s
due_by t [] s c = absurd (Contains-nil s c)
due_by t (e ∷ es) s c = go (due_by (after t e) es s)
  where
    go : (Contains (due (after t e) es) s → Due (after t e) es s) → Due t (e ∷ es) s
    go more = elim (Contains-append_cases (due_of t e) (due (after t e) es) s c) [
      | inl d ↦ record { front = []; entry = e; rest = es; split = refl; answers = d }
      | inr d ↦
          let D : Due (after t e) es s = more d in
          record {
            front = e ∷ D.front;
            entry = D.entry;
            rest = D.rest;
            split = ap
                (λ (l : List Entry). e ∷ l) D.split;
            answers = D.answers;
          }
    ]

one_of : {A : Type 0} (x y : A) → Contains (x ∷ []) y → x ≡ y
one_of {A} x y c = elim (Contains-cases x [] y c) [ inl e ↦ e | inr d ↦ absurd (Contains-nil y d) ]

-- a `yes` is due when the operation of its call is done
pub record YesDue (t : Standing) (f : Entry) (s : Answer) : Type 0 where
  pub node : ℕ
  pub done : f ≡ Done node
  pub hold : Hold
  pub held : hold_at t node ≡ Some hold
  pub call : NameCall
  pub entry : hold.entry ≡ Name s.node s.number call Yes

yes_due : (t : Standing) (f : Entry) (s : Answer) → s.reply ≡ Yes → Contains (due_of t f) s → YesDue t f s
yes_due t (Done a) s y c = go (hold_at t a) refl c
  where
    by_entry : (h : Hold) → hold_at t a ≡ Some h → (e : Entry) → h.entry ≡ e
        → Contains (elim e [ Entry.Name b k call reply ↦ answer_to b k reply ∷ [] | _ ↦ [] ]) s → YesDue t (Done a) s
    by_entry h i (Name b k call reply) q d =
        let same : answer_to b k reply ≡ s = one_of (answer_to b k reply) s d in
        let replied : reply ≡ Yes = ap (λ (z : Answer). z.reply) same ∙ y in
        record {
          node = a;
          done = refl;
          hold = h;
          held = i;
          call = call;
          entry = q ∙ ap (λ (r : Reply). Name b k call r) replied
              ∙ ap (λ (z : Answer). Name z.node z.number call Yes) same;
        }
    by_entry h i (Strike p) q d = absurd (Contains-nil s d)
    by_entry h i (Join j k m reply) q d = absurd (Contains-nil s d)
    by_entry h i (Done n) q d = absurd (Contains-nil s d)
    by_entry h i (Exit p) q d = absurd (Contains-nil s d)
    by_entry h i (Left n) q d = absurd (Contains-nil s d)
    by_entry h i (Told n m) q d = absurd (Contains-nil s d)
    by_entry h i (Read n look reply) q d = absurd (Contains-nil s d)

    go : (h : Option Hold) → hold_at t a ≡ h → Contains (due_when_done h) s → YesDue t (Done a) s
    go None i d = absurd (Contains-nil s d)
    go (Some h) i d = by_entry h i h.entry refl d
yes_due t (Name n k call reply) s y c = go (is_grant reply) refl c
  where
    go : (b : Bool) → is_grant reply ≡ b → Contains (if b then [] else answer_to n k reply ∷ []) s
        → YesDue t (Name n k call reply) s
    go true g d = absurd (Contains-nil s d)
    go false g d =
        let replied : reply ≡ Yes = ap (λ (z : Answer). z.reply) (one_of (answer_to n k reply) s d) ∙ y in
        absurd (cc (g, ap is_grant replied))
yes_due t (Join j k m ContactLeft) s y c = absurd
    (cc (ap (λ (z : Answer). z.reply) (one_of (answer_to j k ContactLeft) s c), y))
yes_due t (Join j k m _) s y c = absurd (Contains-nil s c)
yes_due t (Strike p) s y c = absurd (Contains-nil s c)
yes_due t (Exit p) s y c = absurd (Contains-nil s c)
yes_due t (Left n) s y c = absurd (Contains-nil s c)
yes_due t (Told n m) s y c = absurd (Contains-nil s c)
yes_due t (Read n look reply) s y c = absurd (Contains-nil s c)

-- while an operation holds, no legal entry changes the table of its group
table_held : (s : Standing) (f : Entry) (a : ℕ) (k : Hold) → hold_at s a ≡ Some k → is_legal s f ≡ true
    → table_of (effect f s.registry) a ≡ table_of s.registry a
table_held s f a k h l = go f l (alone_while_held s f a k h l)
  where
    r : Registry
    r = s.registry

    go : (f : Entry) → is_legal s f ≡ true → LeavesAlone r a f → table_of (effect f r) a ≡ table_of r a
    go (Name n j call reply) l alone = by_grant (is_grant reply)
      where
        by_grant : (b : Bool) → table_of (if b then with_table n (changed (change_of call)) r else r) a ≡ table_of r a
        by_grant true = table_of-with_table_other n (changed (change_of call)) r a (alone.decided n refl)
        by_grant false = refl
    go (Strike p) l alone = table_of-with_table_other p.node (changed (StrikeOwner p)) r a (alone.decided p.node refl)
    go (Join j i m Joined) l alone = by_join (r.joined a) refl
      where
        J : JoinIsLegal s j m
        J = join_is_legal s j m l

        other : a ≡ j → ⊥
        other e = absurd (cc (alone.joined j i m refl, ap (in_group r a) (sym e), in_group-itself r a))

        by_join : (b : Bool) → r.joined a ≡ b → table_of (effect (Join j i m Joined) r) a ≡ table_of r a
        by_join true e = absurd (cc (alone.decided m refl, e, J.contact))
        by_join false e = ap (λ (b : Bool). if b then (effect (Join j i m Joined) r).table else
            (effect (Join j i m Joined) r).lone a) (at_other r.joined j true a other ∙ e)
            ∙ at_other r.lone j [] a other ∙ ap (λ (b : Bool). if b then r.table else r.lone a) (sym e)
    go (Join j i m _) l alone = refl
    go (Done n) l alone = refl
    go (Exit p) l alone = refl
    go (Left d) l alone = refl
    go (Told n d) l alone = refl
    go (Read n look reply) l alone = refl

-- nor do entries with which nothing begins to hold
table_calm : (r : Registry) (f : Entry) (a : ℕ) → begins f ≡ false → table_of (effect f r) a ≡ table_of r a
table_calm r (Name n j call reply) a b = go (is_grant reply) b
  where
    go : (g : Bool) → is_some (if g then Some n else None) ≡ false
        → table_of (if g then with_table n (changed (change_of call)) r else r) a ≡ table_of r a
    go true i = cc
    go false i = refl
table_calm r (Strike p) a b = cc
table_calm r (Join j i m Joined) a b = cc
table_calm r (Join j i m _) a b = refl
table_calm r (Done n) a b = refl
table_calm r (Exit p) a b = refl
table_calm r (Left d) a b = refl
table_calm r (Told n d) a b = refl
table_calm r (Read n look reply) a b = refl

-- a name in the table of a group stays there while an operation of the group holds
name_held : (l : List Entry) (s : Standing) (e : Entry) (a : ℕ) (x : Text) (o : Option Process) → IsHeld s a e
    → all_legal s l ≡ true → (Contains l (Done a) → ⊥)
    → get x (table_of s.registry a) ≡ o → get x (table_of (fold after s l).registry a) ≡ o
name_held [] s e a x o held legal none g = g
name_held (f ∷ l) s e a x o held legal none g =
    let parts : (is_legal s f ≡ true) × (all_legal (after s f) l ≡ true) = both (is_legal s f)
    (all_legal (after s f) l) legal in
    name_held l (after s f) e a x o
    (IsHeld-after s e f a held parts.0 (λ i. none (subst (λ (h : Entry). Contains (f ∷ l) h) i (Contains-front f l))))
    parts.1 (λ c. none (Contains-behind f l (Done a) c))
    (ap (λ (q : Registry). get x (table_of q a)) (registry-after s f)
    ∙ ap (get x) (table_held s f a held.0 held.1 parts.0) ∙ g)

-- and while nothing begins to hold
name_calm : (l : List Entry) (s : Standing) (a : ℕ) (x : Text) (o : Option Process) → list_any begins l ≡ false
    → get x (table_of s.registry a) ≡ o → get x (table_of (fold after s l).registry a) ≡ o
name_calm [] s a x o none g = g
name_calm (f ∷ l) s a x o none g =
    let parts : (begins f ≡ false) × (list_any begins l ≡ false) = neither (begins f) (list_any begins l) none in
    name_calm l (after s f) a x o parts.1
    (ap (λ (q : Registry). get x (table_of q a)) (registry-after s f) ∙ ap (get x) (table_calm s.registry f a parts.0)
    ∙ g)

-- numbers are given once
numbers_from : (k : ℕ) (cs : List Call) (i : ℕ) (call : NameCall) → Contains (number_from k cs) (NameAs i call) → k ≤ i
numbers_from k [] i call c = absurd (Contains-nil (NameAs i call) c)
numbers_from k (d ∷ cs) i call c = go (numbers_from (k + 1) cs i call)
  where
    own : (d : Call) → Contains (numbered k d) (NameAs i call) → k ≡ i
    own (Call.OnName e) h = let same : NameAs k e ≡ NameAs i call = one_of (NameAs k e) (NameAs i call) h in cc
    own (Call.JoinBy m) h = let same : JoinAs k m ≡ NameAs i call = one_of (JoinAs k m) (NameAs i call) h in cc
    own _ h = absurd (Contains-nil (NameAs i call) h)

    go : (Contains (number_from (k + 1) cs) (NameAs i call) → k + 1 ≤ i) → k ≤ i
    go more = elim (Contains-append_cases (numbered k d) (number_from (k + 1) cs) (NameAs i call) c) [
      | inl h ↦ let e : k ≡ i = own d h in omega (arith, e)
      | inr h ↦ let m : k + 1 ≤ i = more h in omega (arith, m)
    ]

one_call : (k : ℕ) (cs : List Call) (i : ℕ) (c e : NameCall) → Contains (number_from k cs) (NameAs i c)
    → Contains (number_from k cs) (NameAs i e) → c ≡ e
one_call k [] i c e hc he = absurd (Contains-nil (NameAs i c) hc)
one_call k (d ∷ cs) i c e hc he = go d (one_call (k + 1) cs i c e) (split c hc) (split e he)
  where
    split : (f : NameCall) → Contains (number_from k (d ∷ cs)) (NameAs i f) → Contains (numbered k d) (NameAs i f)
        ⊎ Contains (number_from (k + 1) cs) (NameAs i f)
    split f h = Contains-append_cases (numbered k d) (number_from (k + 1) cs) (NameAs i f) h

    later : (f : NameCall) → k ≡ i → Contains (number_from (k + 1) cs) (NameAs i f) → ⊥
    later f q h = let m : k + 1 ≤ i = numbers_from (k + 1) cs i f h in absurd (omega (arith, m, q))

    go : (d : Call) → (Contains (number_from (k + 1) cs) (NameAs i c) → Contains (number_from (k + 1) cs) (NameAs i e)
        → c ≡ e)
        → Contains (numbered k d) (NameAs i c) ⊎ Contains (number_from (k + 1) cs) (NameAs i c)
        → Contains (numbered k d) (NameAs i e) ⊎ Contains (number_from (k + 1) cs) (NameAs i e) → c ≡ e
    go d more (inr x) (inr y) = more x y
    go (Call.OnName f) more (inl x) (inl y) =
        let p : NameAs k f ≡ NameAs i c = one_of (NameAs k f) (NameAs i c) x in
        let q : NameAs k f ≡ NameAs i e = one_of (NameAs k f) (NameAs i e) y in
        cc
    go (Call.OnName f) more (inl x) (inr y) = let p : NameAs k f ≡ NameAs i c = one_of (NameAs k f)
        (NameAs i c) x in let r : k ≡ i = cc p in absurd (later e r y)
    go (Call.OnName f) more (inr x) (inl y) = let q : NameAs k f ≡ NameAs i e = one_of (NameAs k f)
        (NameAs i e) y in let r : k ≡ i = cc q in absurd (later c r x)
    go (Call.JoinBy m) more (inl x) y = let p : JoinAs k m ≡ NameAs i c = one_of (JoinAs k m) (NameAs i c) x in cc
    go (Call.JoinBy m) more (inr x) (inl y) = let q : JoinAs k m ≡ NameAs i e = one_of (JoinAs k m) (NameAs i e) y in cc
    go _ more (inl x) y = absurd (Contains-nil (NameAs i c) x)
    go _ more (inr x) (inl y) = absurd (Contains-nil (NameAs i e) y)

-- an item of a list of lists
pub in_flat : {A B : Type 0} (f : A → List B) (front rest : List A) (x : A) (y : B) → Contains (f x) y
    → Contains (flat_map f (front ++ x ∷ rest)) y
in_flat {A} {B} f front rest x y c = subst (λ (l : List B). Contains l y) (sym (flat_map-append f front (x ∷ rest)))
    (Contains-append_right (flat_map f front) (f x ++ flat_map f rest) y
    (Contains-append_left (f x) (flat_map f rest) y c))

-- right behind a `yes` its group finds the process
pub yes_is_found : YesIsFound
yes_is_found o es before p s call new split c y calls gives n runs group untold =
    ap (λ (v : Replica). get new.name v.table) shown
    ∙ seen-get (now.registry.told n) (table_of now.registry n) (is_rising-table_of now.registry rises n) new.name new.owner
    (ap (get new.name) (table_of-group now.registry s.node n group) ∙ given)
    (ap (λ (v : Replica). v.told new.owner.node) (sym shown) ∙ untold)
  where
    cluster : Nodes
    cluster = in_cluster o

    now : Standing
    now = so_far o es

    t : Standing
    t = standing o before

    S : Written o (events o es) (world o es)
    S = told o es

    h : List Entry
    h = entries_of before

    -- the answer is due in its step
    in_time : AnswersInTime t p (fold after t p.entries)
    in_time = answers_come_in_time o es before p [] split

    D : Due t p.entries s
    D = due_by t p.entries s (subst (λ (l : List Answer). Contains l s) in_time.prompt
        (kept_in is_prompt p.answers s c (ap (λ (r : Reply). is_prompt (answer_to s.node s.number r)) y)))

    -- what was carried out
    u : Standing
    u = fold after t D.front

    Y : YesDue u D.entry s
    Y = yes_due u D.entry s y D.answers

    -- the history as far as its entry, and behind it
    same : standing_of cluster (h ++ D.front) ≡ u
    same = standing_of-append cluster h D.front

    L : IsLeftOut cluster (h ++ D.front) Y.hold
    L = left_out-hold_at cluster (h ++ D.front) (standing_of cluster (h ++ D.front))
        (Holds-standing_of cluster (h ++ D.front)) Y.node Y.hold
        (ap (λ (v : Standing). hold_at v Y.node) same ∙ Y.held)

    e : Entry
    e = Name s.node s.number Y.call Yes

    holder : Y.hold.node ≡ s.node
    holder = let x : ◌≡◌ {A = Option ℕ} (Some s.node) (Some Y.hold.node) = ap granted_to (sym Y.entry)
        ∙ L.holder in sym (cc x)

    parts : h ++ D.front ≡ L.before ++ e ∷ L.later
    parts = L.split ∙ ap (λ (f : Entry). L.before ++ f ∷ L.later) Y.entry

    whole_history : entries_of (events o es) ≡ (L.before ++ e ∷ L.later) ++ D.entry ∷ D.rest
    whole_history = ap entries_of split ∙ entries_of-push before p ∙ ap (λ (l : List Entry). h ++ l) D.split
        ∙ sym (append_assoc h D.front (D.entry ∷ D.rest)) ∙ ap (λ (l : List Entry). l ++ D.entry ∷ D.rest) parts

    legal : IsLegal cluster (L.before ++ e ∷ L.later)
    legal = IsLegal-front cluster (L.before ++ e ∷ L.later) (D.entry ∷ D.rest)
        (subst (λ (l : List Entry). IsLegal cluster l) (history_grows o es ∙ whole_history) (history_is_legal o es))

    -- it is this call's
    asked : Contains (accepted_at s.node (events o es)) (NameAs s.number Y.call)
    asked =
        let prefix : (zs : List Numbered)
        × (accepted_at s.node (events o es) ≡ flat_map (decided_at s.node) (entries_of (events o es)) ++ zs) =
        (history_fits o es).calls s.node in
        subst (λ (l : List Numbered). Contains l (NameAs s.number Y.call)) (sym prefix.1)
        (Contains-append_left (flat_map (decided_at s.node) (entries_of (events o es))) prefix.0
        (NameAs s.number Y.call)
        (subst (λ (l : List Entry). Contains (flat_map (decided_at s.node) l) (NameAs s.number Y.call))
        (sym (whole_history ∙ append_assoc L.before (e ∷ L.later) (D.entry ∷ D.rest)))
        (in_flat (decided_at s.node) L.before (L.later ++ D.entry ∷ D.rest) e (NameAs s.number Y.call) own)))
      where
        own : Contains (decided_at s.node e) (NameAs s.number Y.call)
        own = subst (λ (b : Bool). Contains (if b then NameAs s.number Y.call ∷ [] else []) (NameAs s.number Y.call))
            (sym (eq-eqb s.node s.node refl))
            (Contains-front (NameAs s.number Y.call) [])

    puts : change_of Y.call ≡ Put new
    puts = ap change_of (one_call 1 (flat_map (calls_in s.node) (events o es)) s.number Y.call call asked calls) ∙ gives

    -- its entry puts the name
    begun : Standing
    begun = standing_of cluster (L.before ++ e ∷ [])

    put_then : get new.name (table_of (after (standing_of cluster L.before) e).registry s.node) ≡ Some new.owner
    put_then =
        let r : Registry = (standing_of cluster L.before).registry in
        ap (λ (g : Registry). get new.name (table_of g s.node)) (registry-after (standing_of cluster L.before) e)
        ∙ ap (get new.name) (table_of-with_table s.node (changed (change_of Y.call)) r s.node (in_group-itself r s.node))
        ∙ ap (λ (d : Change). get new.name (changed d (table_of r s.node))) puts
        ∙ get-put new (table_of r s.node) new.name ∙ ap (λ (b : Bool). if b then Some new.owner else get new.name (table_of r s.node))
        (eq-eqb new.name new.name refl)

    -- it stays while it holds
    held_then : get new.name (table_of (fold after (after (standing_of cluster L.before) e) L.later).registry s.node) ≡ Some new.owner
    held_then = name_held L.later (after (standing_of cluster L.before) e) e s.node new.name (Some new.owner)
        (IsHeld-begun (standing_of cluster L.before) e s.node refl)
        (both (is_legal (standing_of cluster L.before) e) (all_legal (after (standing_of cluster L.before) e) L.later)
        (all_legal-append (nothing_yet cluster) L.before (e ∷ L.later) legal).1).1
        (λ d. L.not_done (subst (λ (a : ℕ). Contains L.later (Done a)) (sym holder) d)) put_then

    at_done : get new.name (table_of u.registry s.node) ≡ Some new.owner
    at_done = ap (λ (v : Standing). get new.name (table_of v.registry s.node))
        (sym same ∙ ap (standing_of cluster) parts ∙ standing_of-append cluster L.before (e ∷ L.later))
        ∙ held_then

    -- and to the end of the step
    given : get new.name (table_of now.registry s.node) ≡ Some new.owner
    given = ap (λ (v : Standing). get new.name (table_of v.registry s.node)) last
        ∙ name_calm (D.entry ∷ D.rest) u s.node new.name (Some new.owner) calm at_done
      where
        last : now ≡ fold after u (D.entry ∷ D.rest)
        last = ap (standing o) split ∙ ap (standing_of cluster)
            (entries_of-push before p ∙ ap (λ (l : List Entry). h ++ l) D.split
            ∙ sym (append_assoc h D.front (D.entry ∷ D.rest)))
            ∙ standing_of-append cluster (h ++ D.front) (D.entry ∷ D.rest)
            ∙ ap (λ (v : Standing). fold after v (D.entry ∷ D.rest)) same

        calm : list_any begins (D.entry ∷ D.rest) ≡ false
        calm = (neither (list_any begins D.front) (list_any begins (D.entry ∷ D.rest))
            (sym (list_any-append begins D.front (D.entry ∷ D.rest)) ∙ ap (list_any begins) (sym D.split)
            ∙ S.calm before p split s c y)).1

    rises : Rises now.registry
    rises = subst Rises (sym (registry-standing_of cluster (entries_of (events o es))))
        (Rises-registry_of cluster (entries_of (events o es)))

    shown : ((world o es).node n).replica ≡ replica_of now.registry n
    shown = yes_is_written o es before p s split c y n group (
      runs.inside,
      subst (λ (v : Standing). v.registry.left n ≡ false) (past_now o (events o es) (world o es) (whole o es) S)
          ((replicas o (world o es) (whole o es).kept).departed n ∙ runs.stays),
    )
