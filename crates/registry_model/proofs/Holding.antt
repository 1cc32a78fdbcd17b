-- Operations that hold: what is kept of each, how long it holds, and that nothing else is decided in its group.
use Rattle.std.proofs.Common.{ℕ, Bool, true, false, ◌==◌, ◌≡◌, Option, Some, None, List, [], ◌∷◌, ◌++◌, refl, sym, subst, ap, ◌∙◌, inl, inr}
use Rattle.std.specs.Prelude.{◌⊎◌, if◌then◌else◌, is_none, Contains, fold}
use Rattle.std.proofs.lemmas.List.{append_assoc, append-nil}
use Rattle.std.proofs.lemmas.List.Elements.{Contains-push_cases}
use Rattle.std.proofs.lemmas.Bool.{eqb-true, eqb-false, eq-eqb, and_parts, both_ways}
use Rattle.registry_model.specs.Process.{Nodes, at}
use Rattle.registry_model.specs.Call.{Joined, is_grant}
use Rattle.registry_model.specs.Registry.{Registry, in_group}
use Rattle.registry_model.specs.History.{Entry, Name, Strike, Join, Done, Exit, Left, Told, Read, effect, registry_of, granted_to, Hold, Standing, hold_at, is_free, is_hold_of, is_holding, set_hold, with_effect_on, begin_hold, with_effect, after, nothing_yet, standing_of}
use Rattle.registry_model.specs.Legal.{is_legal, all_legal, IsLegal}
use Rattle.registry_model.specs.HistoryLaws.{IsLeftOut, OldLeavesOut, HoldsUntilDone, LeavesAlone, NeverOverlap, decided_by}
use Rattle.registry_model.proofs.Lists.{by_push, Contains-nil, Contains-front, Contains-behind}
use Rattle.registry_model.proofs.Updates.{at_same, at_other, by_test}
use Rattle.registry_model.proofs.HistoryParts.{registry_of-push, standing_of-push, standing_of-append, registry-standing_of, all_legal-append, is_legal-at, IsLegal-front}
use Rattle.registry_model.proofs.Groups.{in_group-itself}
use Rattle.registry_model.proofs.Legality.{decider_is_free, JoinIsLegal, join_is_legal}
use Rattle.registry_model.proofs.Deaths.{joined_stays, joined-effect}

-- an entry that ends no operation
pub record IsNoDone (e : Entry) : Type 0 where
  pub other : (a : ℕ) → e ≡ Done a → ⊥
  pub after : (s : Standing) → after s e ≡ begin_hold e s.registry (granted_to e) (with_effect e s)

-- a `Done`, or any other entry
pub cases_done : (e : Entry) → ((a : ℕ) × (e ≡ Done a)) ⊎ IsNoDone e
cases_done (Done a) = inl (a, refl)
cases_done (Name n k call reply) = inr (record { other = λ a k. cc; after = λ s. refl })
cases_done (Strike p) = inr (record { other = λ a k. cc; after = λ s. refl })
cases_done (Join j k m reply) = inr (record { other = λ a k. cc; after = λ s. refl })
cases_done (Exit p) = inr (record { other = λ a k. cc; after = λ s. refl })
cases_done (Left d) = inr (record { other = λ a k. cc; after = λ s. refl })
cases_done (Told n d) = inr (record { other = λ a k. cc; after = λ s. refl })
cases_done (Read n look reply) = inr (record { other = λ a k. cc; after = λ s. refl })

-- what began just now is left out
pub IsLeftOut-now : (cluster : Nodes) (h : List Entry) (e : Entry) (n : ℕ) → granted_to e ≡ Some n →
    IsLeftOut cluster (h ++ e ∷ []) (record { node = n; entry = e; old = registry_of cluster h })
IsLeftOut-now cluster h e n i = record {
  before = h;
  later = [];
  split = refl;
  holder = i;
  not_done = λ c. Contains-nil (Done n) c;
  old = ap (registry_of cluster) (sym (append-nil h));
}

-- what is left out stays so until it is done
pub IsLeftOut-push : (cluster : Nodes) (h : List Entry) (e : Entry) (k : Hold) → (e ≡ Done k.node → ⊥) →
    IsLeftOut cluster h k →
    IsLeftOut cluster (h ++ e ∷ []) (record k { old = effect e k.old })
IsLeftOut-push cluster h e k ne l = record {
  before = l.before;
  later = l.later ++ e ∷ [];
  split = ap (λ (xs : List Entry). xs ++ e ∷ []) l.split ∙ append_assoc l.before (k.entry ∷ l.later) (e ∷ []);
  holder = l.holder;
  not_done = λ c. elim (Contains-push_cases l.later e (Done k.node) c) [ inl d ↦ l.not_done d | inr i ↦ ne i ];
  old = ap (effect e) l.old ∙ sym (registry_of-push cluster (l.before ++ l.later) e)
      ∙ ap (registry_of cluster) (append_assoc l.before l.later (e ∷ []));
}

-- what is known of the operations that hold: of the cluster's, and of each lone node's
pub record Holds (cluster : Nodes) (h : List Entry) (s : Standing) : Type 0 where
  pub registry : s.registry ≡ registry_of cluster h
  pub joined : (k : Hold) → s.held ≡ Some k → s.registry.joined k.node ≡ true
  pub cluster_out : (k : Hold) → s.held ≡ Some k → IsLeftOut cluster h k
  pub lone : (n : ℕ) (k : Hold) → s.lone_held n ≡ Some k → k.node ≡ n
  pub lone_out : (n : ℕ) (k : Hold) → s.registry.joined n ≡ false → s.lone_held n ≡ Some k → IsLeftOut cluster h k

-- an operation begins or ends to hold in n's group
pub Holds-set_hold : (cluster : Nodes) (h : List Entry) (n : ℕ) (o : Option Hold) (s : Standing) →
    ((k : Hold) → o ≡ Some k → (k.node ≡ n) × IsLeftOut cluster h k) → Holds cluster h s →
    Holds cluster h (set_hold n o s)
Holds-set_hold cluster h n o s new g = go (s.registry.joined n) refl
  where
    go : (b : Bool) → s.registry.joined n ≡ b →
        Holds cluster h (if b then record s { held = o } else record s { lone_held = at s.lone_held n o })
    go true i = record {
      registry = g.registry;
      joined = λ k e. subst (λ (x : ℕ). s.registry.joined x ≡ true) (sym (new k e).0) i;
      cluster_out = λ k e. (new k e).1;
      lone = g.lone;
      lone_out = g.lone_out;
    }
    go false i = record {
      registry = g.registry;
      joined = g.joined;
      cluster_out = g.cluster_out;
      lone = by_test n (λ x t. (k : Hold) → (if t then o else s.lone_held x) ≡ Some k →
          k.node ≡ x) (λ k e. (new k e).0) (λ x ne. g.lone x);
      lone_out = by_test n (λ x t. (k : Hold) → s.registry.joined x ≡ false →
          (if t then o else s.lone_held x) ≡ Some k → IsLeftOut cluster h k)
          (λ k l e. (new k e).1) (λ x ne. g.lone_out x);
    }

-- an entry comes after what holds
pub with_effect_on-some : (e : Entry) (o : Option Hold) (k : Hold) → with_effect_on e o ≡ Some k →
    (l : Hold) × (o ≡ Some l) × (record l { old = effect e l.old } ≡ k)
with_effect_on-some e None k i = absurd cc
with_effect_on-some e (Some l) k i = (l, refl, cc)

-- an entry that isn't a `Done` of the holder comes after what holds
pub Holds-with_effect : (cluster : Nodes) (h : List Entry) (e : Entry) (s : Standing) → ((a : ℕ) → e ≡ Done a → ⊥) →
    Holds cluster h s → Holds cluster (h ++ e ∷ []) (with_effect e s)
Holds-with_effect cluster h e s ne g = record {
  registry = ap (effect e) g.registry ∙ sym (registry_of-push cluster h e);
  joined = λ k i. let (l, a, b) : (l : Hold) × (s.held ≡ Some l) × (record l { old = effect e l.old } ≡ k) =
      with_effect_on-some e s.held k i in
      subst (λ (k : Hold). (effect e s.registry).joined k.node ≡ true) b
      (joined_stays s.registry e l.node (g.joined l a));
  cluster_out = λ k i. let (l, a, b) : (l : Hold) × (s.held ≡ Some l) × (record l { old = effect e l.old } ≡ k) =
      with_effect_on-some e s.held k i in
      subst (λ (k : Hold). IsLeftOut cluster (h ++ e ∷ []) k) b
      (IsLeftOut-push cluster h e l (ne l.node) (g.cluster_out l a));
  lone = λ n k i. let (l, a, b) : (l : Hold) × (s.lone_held n ≡ Some l) × (record l { old = effect e l.old } ≡ k) =
      with_effect_on-some e (s.lone_held n) k i in
      subst (λ (k : Hold). k.node ≡ n) b (g.lone n l a);
  lone_out = λ n k j i. let (l, a, b) : (l : Hold) × (s.lone_held n ≡ Some l)
      × (record l { old = effect e l.old } ≡ k) = with_effect_on-some e (s.lone_held n) k i in
      subst (λ (k : Hold). IsLeftOut cluster (h ++ e ∷ []) k) b
      (IsLeftOut-push cluster h e l (ne l.node) (g.lone_out n l (was_lone n j) a));
}
  where
    was_lone : (n : ℕ) → (effect e s.registry).joined n ≡ false → s.registry.joined n ≡ false
    was_lone n j = go (s.registry.joined n) refl
      where
        go : (b : Bool) → s.registry.joined n ≡ b → b ≡ false
        go true i = let w : (effect e s.registry).joined n ≡ true = joined_stays s.registry e n i in cc
        go false i = refl

-- a `Done` of a node whose operation doesn't hold any more
pub Holds-past_done : (cluster : Nodes) (h : List Entry) (a : ℕ) (s : Standing) →
    ((k : Hold) → s.held ≡ Some k → k.node ≡ a → ⊥) →
    ((n : ℕ) (k : Hold) → s.registry.joined n ≡ false → s.lone_held n ≡ Some k → k.node ≡ a → ⊥) → Holds cluster h s →
    Holds cluster (h ++ Done a ∷ []) s
Holds-past_done cluster h a s not_held not_lone g = record {
  registry = g.registry ∙ sym (registry_of-push cluster h (Done a));
  joined = g.joined;
  cluster_out = λ k i. IsLeftOut-push cluster h (Done a) k (λ e. not_held k i cc) (g.cluster_out k i);
  lone = g.lone;
  lone_out = λ n k j i. IsLeftOut-push cluster h (Done a) k (λ e. not_lone n k j i cc) (g.lone_out n k j i);
}

-- each `Done`
pub Holds-done : (cluster : Nodes) (h : List Entry) (a : ℕ) (s : Standing) → Holds cluster h s →
    Holds cluster (h ++ Done a ∷ []) (after s (Done a))
Holds-done cluster h a s g = go (is_holding s a) refl
  where
    -- an operation of the cluster is none of a lone node's
    apart : s.registry.joined a ≡ false → (k : Hold) → s.held ≡ Some k → k.node ≡ a → ⊥
    apart l k i e = let j : s.registry.joined a ≡ true =
        subst (λ (x : ℕ). s.registry.joined x ≡ true) e (g.joined k i) in cc

    -- an operation of a lone node is none of a joined node's
    lone_apart : s.registry.joined a ≡ true → (n : ℕ) (k : Hold) → s.registry.joined n ≡ false →
        s.lone_held n ≡ Some k → k.node ≡ a → ⊥
    lone_apart l n k j i e =
        let w : s.registry.joined a ≡ false =
        subst (λ (x : ℕ). s.registry.joined x ≡ false) (sym (g.lone n k i) ∙ e) j in
        cc

    ends : Holds cluster (h ++ Done a ∷ []) (set_hold a None s)
    ends = by (s.registry.joined a) refl (Holds-set_hold cluster h a None s (λ k e. absurd cc) g)
      where
        by : (b : Bool) → s.registry.joined a ≡ b →
            Holds cluster h (if b then record s { held = None } else record s { lone_held = at s.lone_held a None }) →
            Holds cluster (h ++ Done a ∷ [])
            (if b then record s { held = None } else record s { lone_held = at s.lone_held a None })
        by true j f = Holds-past_done cluster h a (record s { held = None }) (λ k i e. absurd cc)
            (λ n k l i e. lone_apart j n k l i e) f
        by false j f = Holds-past_done cluster h a (record s { lone_held = at s.lone_held a None })
            (λ k i e. apart j k i e)
            (by_test a (λ x t. (k : Hold) → s.registry.joined x ≡ false → (if t then None else s.lone_held x) ≡ Some k →
            k.node ≡ a → ⊥)
            (λ k l i e. absurd cc) (λ x ne k l i e. ne (sym (g.lone x k i) ∙ e))) f

    stays : is_holding s a ≡ false → Holds cluster (h ++ Done a ∷ []) s
    stays i = Holds-past_done cluster h a s
        (λ k j e.
        let l : s.registry.joined a ≡ true = subst (λ (x : ℕ). s.registry.joined x ≡ true) e (g.joined k j) in
        let w : is_holding s a ≡ true = rw (l, j) (eq-eqb k.node a e) in
        cc)
        (λ n k l j e.
        let f : n ≡ a = sym (g.lone n k j) ∙ e in
        let m : s.registry.joined a ≡ false = subst (λ (x : ℕ). s.registry.joined x ≡ false) f l in
        let o : s.lone_held a ≡ Some k = subst (λ (x : ℕ). s.lone_held x ≡ Some k) f j in
        let w : is_holding s a ≡ true = rw (m, o) (eq-eqb k.node a e) in
        cc)
        g

    go : (b : Bool) → is_holding s a ≡ b → Holds cluster (h ++ Done a ∷ []) (if b then set_hold a None s else s)
    go true i = ends
    go false i = stays i

-- each entry
pub Holds-after : (cluster : Nodes) (h : List Entry) (e : Entry) (s : Standing) → Holds cluster h s →
    Holds cluster (h ++ e ∷ []) (after s e)
Holds-after cluster h e s g = go (cases_done e)
  where
    begun : (o : Option ℕ) → granted_to e ≡ o → Holds cluster (h ++ e ∷ []) (with_effect e s) →
        Holds cluster (h ++ e ∷ []) (begin_hold e s.registry o (with_effect e s))
    begun None i f = f
    begun (Some n) i f = Holds-set_hold cluster (h ++ e ∷ []) n
        (Some (record { node = n; entry = e; old = s.registry })) (with_effect e s) new f
      where
        hold : Registry → Hold
        hold r = record { node = n; entry = e; old = r }

        new : (k : Hold) → Some (hold s.registry) ≡ Some k → (k.node ≡ n) × IsLeftOut cluster (h ++ e ∷ []) k
        new k j =
            let f : hold s.registry ≡ k = cc in (
              ap (λ (k : Hold). k.node) (sym f),
              subst (λ (k : Hold). IsLeftOut cluster (h ++ e ∷ []) k) (ap hold (sym g.registry)
                  ∙ f) (IsLeftOut-now cluster h e n i),
            )

    go : ((a : ℕ) × (e ≡ Done a)) ⊎ IsNoDone e → Holds cluster (h ++ e ∷ []) (after s e)
    go (inl (a, i)) = subst (λ (e : Entry). Holds cluster (h ++ e ∷ []) (after s e)) (sym i)
        (Holds-done cluster h a s g)
    go (inr o) = subst (λ (s : Standing). Holds cluster (h ++ e ∷ []) s) (sym (o.after s))
        (begun (granted_to e) refl (Holds-with_effect cluster h e s o.other g))

-- what each history comes to
pub Holds-standing_of : (cluster : Nodes) (h : List Entry) → Holds cluster h (standing_of cluster h)
Holds-standing_of cluster h =
    by_push (λ h. Holds cluster h (standing_of cluster h)) first
    (λ h e g. subst (λ (s : Standing). Holds cluster (h ++ e ∷ []) s) (sym (standing_of-push cluster h e))
    (Holds-after cluster h e (standing_of cluster h) g)) h
  where
    first : Holds cluster [] (nothing_yet cluster)
    first = record {
      registry = refl;
      joined = λ k i. absurd cc;
      cluster_out = λ k i. absurd cc;
      lone = λ n k i. absurd cc;
      lone_out = λ n k j i. absurd cc;
    }

-- what holds in a group is left out
pub left_out-hold_at : (cluster : Nodes) (h : List Entry) (s : Standing) → Holds cluster h s → (n : ℕ) (k : Hold) →
    hold_at s n ≡ Some k → IsLeftOut cluster h k
left_out-hold_at cluster h s g n k = go (s.registry.joined n) refl
  where
    go : (b : Bool) → s.registry.joined n ≡ b → (if b then s.held else s.lone_held n) ≡ Some k → IsLeftOut cluster h k
    go true j i = g.cluster_out k i
    go false j i = g.lone_out n k j i

-- the registry kept beside an operation is that of the history without its entry
pub old_law : (cluster : Nodes) (h : List Entry) → OldLeavesOut cluster h
old_law cluster h = record {
  registry = registry-standing_of cluster h;
  left_out = λ n k i. left_out-hold_at cluster h (standing_of cluster h) (Holds-standing_of cluster h) n k i;
}

-- an operation of a holds, which began with this entry
abbrev pub IsHeld : Standing → ℕ → Entry → Type 0
IsHeld s a e = (k : Hold) × (hold_at s a ≡ Some k) × (k.node ≡ a) × (k.entry ≡ e)

-- what begins to hold at n holds there
pub hold_at-set_hold : (n : ℕ) (o : Option Hold) (s : Standing) → hold_at (set_hold n o s) n ≡ o
hold_at-set_hold n o s = go (s.registry.joined n) refl
  where
    go : (b : Bool) → s.registry.joined n ≡ b →
        hold_at (if b then record s { held = o } else record s { lone_held = at s.lone_held n o }) n ≡ o
    go true j = rw j refl
    go false j = rw j (at_same s.lone_held n o)

-- and leaves what holds in other groups
pub hold_at-with_hold_other : (a b : ℕ) (o : Option Hold) (s : Standing) → in_group s.registry a b ≡ false →
    hold_at (set_hold b o s) a ≡ hold_at s a
hold_at-with_hold_other a b o s i = go (s.registry.joined b) refl (s.registry.joined a) refl i
  where
    go : (c : Bool) → s.registry.joined b ≡ c → (d : Bool) → s.registry.joined a ≡ d →
        (if d then s.registry.joined b else b == a) ≡ false →
        hold_at (if c then record s { held = o } else record s { lone_held = at s.lone_held b o }) a ≡ hold_at s a
    go true j true k i = cc
    go true j false k i = rw k refl
    go false j true k i = rw k refl
    go false j false k i = rw k (at_other s.lone_held b o a (λ e. eqb-false b a i (sym e)))

-- what holds in one group holds at each of its nodes
pub hold_at-group : (s : Standing) (a b : ℕ) → in_group s.registry a b ≡ true → hold_at s b ≡ hold_at s a
hold_at-group s a b i = go (s.registry.joined a) refl i
  where
    go : (d : Bool) → s.registry.joined a ≡ d → (if d then s.registry.joined b else b == a) ≡ true →
        hold_at s b ≡ hold_at s a
    go true k i = rw i (rw k refl)
    go false k i = ap (hold_at s) (eqb-true b a i)

-- where nothing holds, nothing holds in a's group, so it is another
pub other_group : (s : Standing) (a b : ℕ) (k : Hold) → hold_at s a ≡ Some k → is_free s b ≡ true →
    in_group s.registry a b ≡ false
other_group s a b k i f = go (in_group s.registry a b) refl
  where
    go : (c : Bool) → in_group s.registry a b ≡ c → c ≡ false
    go true g =
        let w : hold_at s b ≡ Some k = hold_at-group s a b g ∙ i in
        let v : is_none (Some k) ≡ true = ap is_none (sym w) ∙ f in
        cc
    go false g = refl

-- while an operation of a holds, a legal entry decides nothing in a's group
pub alone_while_held : (s : Standing) (f : Entry) (a : ℕ) (k : Hold) → hold_at s a ≡ Some k → is_legal s f ≡ true →
    LeavesAlone s.registry a f
alone_while_held s f a k i l = record {
  decided = λ b d. other_group s a b k i (decider_is_free s f b l d);
  joined = λ j o m e. other_group s a j k i (join_is_legal s j m (ap (is_legal s) (sym e) ∙ l)).free;
}

-- an entry that decides nothing in a's group leaves whether a is joined
pub joined-alone : (s : Standing) (f : Entry) (a : ℕ) → LeavesAlone s.registry a f →
    (effect f s.registry).joined a ≡ s.registry.joined a
joined-alone s f a alone = elim (joined-effect s.registry f a) [
  | inl (k, m, i) ↦ absurd (both_ways (in_group s.registry a a) (alone.joined a k m i) (in_group-itself s.registry a))
  | inr i ↦ i
]

-- whoever holds has decided
pub decider-holder : (f : Entry) (b : ℕ) → granted_to f ≡ Some b → decided_by f ≡ Some b
decider-holder (Name n k call reply) b i = go (is_grant reply) i
  where
    go : (g : Bool) → (if g then Some n else None) ≡ Some b → ◌≡◌ {A = Option ℕ} (Some n) (Some b)
    go true i = i
    go false i = absurd cc
decider-holder (Strike p) b i = i
decider-holder (Join j k m Joined) b i = i
decider-holder (Join j k m _) b i = absurd cc
decider-holder (Done n) b i = absurd cc
decider-holder (Exit p) b i = absurd cc
decider-holder (Left c) b i = absurd cc
decider-holder (Told n c) b i = absurd cc
decider-holder (Read n look reply) b i = absurd cc

-- whoever decides was joined before, or is no joiner
pub joined-decider : (s : Standing) (f : Entry) (b : ℕ) → is_legal s f ≡ true → decided_by f ≡ Some b →
    (effect f s.registry).joined b ≡ s.registry.joined b
joined-decider s f b l d = elim (joined-effect s.registry f b) [
  | inl (k, m, i) ↦
      let g : JoinIsLegal s b m = join_is_legal s b m (ap (is_legal s) (sym i) ∙ l) in
      let e : ◌≡◌ {A = Option ℕ} (Some m) (Some b) = ap decided_by (sym i) ∙ d in
      let c : m ≡ b = cc in
      let j : s.registry.joined b ≡ true = subst (λ (x : ℕ). s.registry.joined x ≡ true) c g.contact in
      absurd (both_ways (s.registry.joined b) g.lone j)
  | inr i ↦ i
]

-- an operation holds as long as its node isn't done
pub IsHeld-after : (s : Standing) (e f : Entry) (a : ℕ) → IsHeld s a e → is_legal s f ≡ true → (f ≡ Done a → ⊥) →
    IsHeld (after s f) a e
IsHeld-after s e f a (k, i, n, w) l ne = go (cases_done f)
  where
    alone : LeavesAlone s.registry a f
    alone = alone_while_held s f a k i l

    -- a `Done` of another node
    other : (b : ℕ) → f ≡ Done b → in_group s.registry a b ≡ false
    other b j = by (in_group s.registry a b) refl
      where
        by : (c : Bool) → in_group s.registry a b ≡ c → c ≡ false
        by true g =
            let h : is_hold_of b (Some k) ≡ true = ap (is_hold_of b) (sym (hold_at-group s a b g ∙ i))
            ∙ ap (is_legal s) (sym j)
            ∙ l in
            let m : b ≡ a = sym (eqb-true k.node b h) ∙ n in
            absurd (ne (j ∙ ap (λ (x : ℕ). Done x) m))
        by false g = refl

    next : Hold
    next = record k { old = effect f k.old }

    pushed_at : hold_at (with_effect f s) a ≡ Some next
    pushed_at = ap (λ (b : Bool). if b then with_effect_on f s.held else with_effect_on f (s.lone_held a))
        (joined-alone s f a alone)
        ∙ by (s.registry.joined a) refl i
      where
        by : (b : Bool) → s.registry.joined a ≡ b → (if b then s.held else s.lone_held a) ≡ Some k →
            (if b then with_effect_on f s.held else with_effect_on f (s.lone_held a)) ≡ Some next
        by true j i = ap (with_effect_on f) i
        by false j i = ap (with_effect_on f) i

    begun : (o : Option ℕ) → granted_to f ≡ o → hold_at (begin_hold f s.registry o (with_effect f s)) a ≡ Some next
    begun None j = pushed_at
    begun (Some b) j = hold_at-with_hold_other a b (Some (record { node = b; entry = f; old = s.registry }))
        (with_effect f s) apart ∙ pushed_at
      where
        apart : in_group (effect f s.registry) a b ≡ false
        apart =
            ap (λ (c : Bool). if c then (effect f s.registry).joined b else b == a) (joined-alone s f a alone)
            ∙ ap (λ (c : Bool). if s.registry.joined a then c else b == a)
            (joined-decider s f b l (decider-holder f b j))
            ∙ alone.decided b (decider-holder f b j)

    go : ((b : ℕ) × (f ≡ Done b)) ⊎ IsNoDone f → IsHeld (after s f) a e
    go (inl (b, j)) = (k, ap (λ (f : Entry). hold_at (after s f) a) j ∙ ends ∙ i, n, w)
      where
        ends : hold_at (after s (Done b)) a ≡ hold_at s a
        ends = ap (λ (c : Bool). hold_at (if c then set_hold b None s else s) a) (ap (is_legal s) (sym j) ∙ l)
            ∙ hold_at-with_hold_other a b None s (other b j)
    go (inr o) = (next, ap (λ (t : Standing). hold_at t a) (o.after s) ∙ begun (granted_to f) refl, n, w)

-- an operation begins to hold
pub IsHeld-begun : (s : Standing) (e : Entry) (a : ℕ) → granted_to e ≡ Some a → IsHeld (after s e) a e
IsHeld-begun s e a i = go (cases_done e)
  where
    hold : Hold
    hold = record { node = a; entry = e; old = s.registry }

    go : ((a : ℕ) × (e ≡ Done a)) ⊎ IsNoDone e → IsHeld (after s e) a e
    go (inl (b, j)) = let w : ◌≡◌ {A = Option ℕ} None (Some a) = ap granted_to (sym j) ∙ i in absurd cc
    go (inr o) = (
      hold,
      ap (λ (t : Standing). hold_at t a) (o.after s
          ∙ ap (λ (m : Option ℕ). begin_hold e s.registry m (with_effect e s)) i)
          ∙ hold_at-set_hold a (Some hold) (with_effect e s),
      refl,
      refl,
    )

-- through these entries too
pub IsHeld-later : (s : Standing) (e : Entry) (a : ℕ) (later : List Entry) → IsHeld s a e → all_legal s later ≡ true →
    (Contains later (Done a) → ⊥) → IsHeld (fold after s later) a e
IsHeld-later s e a [] held l nd = held
IsHeld-later s e a (f ∷ later) held l nd =
    let parts : (is_legal s f ≡ true) × (all_legal (after s f) later ≡ true) =
    and_parts (is_legal s f) (all_legal (after s f) later) l in
    IsHeld-later (after s f) e a later
    (IsHeld-after s e f a held parts.0
    (λ i. nd (subst (λ (g : Entry). Contains (f ∷ later) g) i (Contains-front f later)))) parts.1
    (λ c. nd (Contains-behind f later (Done a) c))

-- the end of these entries, behind an operation that began to hold
pub IsHeld-standing_of : (cluster : Nodes) (before later : List Entry) (e : Entry) (a : ℕ) →
    IsLegal cluster (before ++ e ∷ later) → granted_to e ≡ Some a → (Contains later (Done a) → ⊥) →
    IsHeld (standing_of cluster (before ++ e ∷ later)) a e
IsHeld-standing_of cluster before later e a l i nd =
    let rest : (all_legal (nothing_yet cluster) before ≡ true)
    × (all_legal (standing_of cluster before) (e ∷ later) ≡ true) =
    all_legal-append (nothing_yet cluster) before (e ∷ later) l in
    let behind : (is_legal (standing_of cluster before) e ≡ true)
    × (all_legal (after (standing_of cluster before) e) later ≡ true) =
    and_parts (is_legal (standing_of cluster before) e) (all_legal (after (standing_of cluster before) e) later) rest.1
    in
    subst (λ (s : Standing). IsHeld s a e) (sym (standing_of-append cluster before (e ∷ later)))
    (IsHeld-later (after (standing_of cluster before) e) e a later
    (IsHeld-begun (standing_of cluster before) e a i) behind.1 nd)

-- an operation holds from its entry until its node is done
pub holds_law : (cluster : Nodes) (h : List Entry) → IsLegal cluster h → HoldsUntilDone cluster h
holds_law cluster h l before later e a s i nd =
    subst (λ (h : List Entry). IsHeld (standing_of cluster h) a e) (sym s)
    (IsHeld-standing_of cluster before later e a (subst (λ (h : List Entry). IsLegal cluster h) s l) i nd)

-- while an operation holds, nothing else is decided in its group
pub overlap_law : (cluster : Nodes) (h : List Entry) → IsLegal cluster h → NeverOverlap cluster h
overlap_law cluster h l before middle later e f a s i nd =
    let legal : IsLegal cluster (before ++ e ∷ middle ++ f ∷ later) =
    subst (λ (h : List Entry). IsLegal cluster h) s l in
    let (k, j, n, w) : IsHeld (standing_of cluster (before ++ e ∷ middle)) a e =
    IsHeld-standing_of cluster before middle e a (IsLegal-front cluster (before ++ e ∷ middle) (f ∷ later) legal) i nd
    in
    subst (λ (r : Registry). LeavesAlone r a f) (registry-standing_of cluster (before ++ e ∷ middle))
    (alone_while_held (standing_of cluster (before ++ e ∷ middle)) f a k j
    (is_legal-at cluster (before ++ e ∷ middle) later f legal))
