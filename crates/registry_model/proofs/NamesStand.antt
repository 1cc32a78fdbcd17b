-- A name that a node sees stands until an entry takes it.
use Rattle.std.proofs.Common.{ℕ, Bool, true, false, ◌==◌, ◌≡◌, ◌<◌, ◌≤◌, Option, Some, None, List, [], ◌∷◌, ◌++◌, refl, sym, subst, ap, ◌∙◌, inl, inr, arith}
use Rattle.std.specs.Prelude.{◌⊎◌, if◌then◌else◌, not, ◌||◌, nat_lt}
use Rattle.std.proofs.Math.Path.{ap₂}
use Rattle.std.proofs.lemmas.Bool.{cases_eq, cases_lt, eq-eqb, ne_eqb, lt-ltb, le-ltb, or_from, or_left, or_right}
use Rattle.registry_model.specs.Process.{Text, Process, is_process, Nodes, at}
use Rattle.registry_model.specs.Table.{Rule, Exit, Notify, NotifyAll, Pair, Table, Change, get, entry, without, changed, Put, Remove, StrikeOwner}
use Rattle.registry_model.specs.Call.{NameCall, Register, ReRegister, Unregister, Reply, Yes, Joined, is_grant, change_of}
use Rattle.registry_model.specs.Settlement.{with_settled, settle}
use Rattle.registry_model.specs.Registry.{Registry, in_group, table_of, with_table, view, members}
use Rattle.registry_model.specs.History.{Entry, Name, Strike, Join, Done, Left, Told, Read, effect, registry_of, Standing, standing_of}
use Rattle.registry_model.specs.Legal.{is_legal, IsLegal}
use Rattle.registry_model.specs.HistoryLaws.{Takes, NamesStand, IsFreeFor, YesToTheFree}
use Rattle.registry_model.specs.HistoryLaws.Takes.{GivenUp, Replaced, Struck, Departed, Retaken, LostToJoiner, RetakenByJoiner, LostToCluster, LostToBoth}
use Rattle.registry_model.proofs.Lists.{cases_process, is_process-eq, is_process-other}
use Rattle.registry_model.proofs.Updates.{at_same, at_other}
use Rattle.registry_model.proofs.Tables.{if_kept, owner_in, get-entry, get_from_entry, get_from_none, entry_from_get, get-put, get-remove, get-strike, is_rising-changed, is_rising-with_settled}
use Rattle.registry_model.proofs.Changes.{cases_option}
use Rattle.registry_model.proofs.Settling.{wins_under, goes_under, behind, entry-settled}
use Rattle.registry_model.proofs.HistoryParts.{registry_of-push, registry-standing_of, is_legal-at, IsLegal-front}
use Rattle.registry_model.proofs.Rising.{Rises, is_rising-table_of}
use Rattle.registry_model.proofs.Groups.{told-with_table, table_of-group, table_of-with_table, table_of-with_table_other, get-seen, seen-get, get-unseen}
use Rattle.registry_model.proofs.Legality.{NameIsLegal, name_is_legal, JoinIsLegal, join_is_legal, YesToRegister, yes_to_register, granted_register, granted_re_register}
use Rattle.registry_model.proofs.OwnerNodes.{IsGood, IsGood-standing_of}

-- n sees p under the name still, or the entry takes it
abbrev pub Stands : Registry → ℕ → Text → Process → Entry → Type 0
Stands r n x p e = (get x (view (effect e r) n) ≡ Some p) ⊎ Takes r n x p e

-- a change of m's table, as a node of another group sees it
pub view-with_table_other : (m : ℕ) (f : Table → Table) (r : Registry) (n : ℕ) → in_group r n m ≡ false →
    view (with_table m f r) n ≡ view r n
view-with_table_other m f r n i =
    ap₂ (λ (told : ℕ → Nodes) (t : Table). without (told n) t) (told-with_table m f r)
    (table_of-with_table_other m f r n i)

-- as a node of the group sees it
pub view-with_table : (m : ℕ) (f : Table → Table) (r : Registry) (n : ℕ) → in_group r n m ≡ true →
    view (with_table m f r) n ≡ without (r.told n) (f (table_of r n))
view-with_table m f r n i =
    ap₂ (λ (told : ℕ → Nodes) (t : Table). without (told n) t) (told-with_table m f r) (table_of-with_table m f r n i)

-- a change of m's table by which x stays with p
pub stays-with_table : (m : ℕ) (c : Change) (r : Registry) (n : ℕ) (x : Text) (p : Process) → Rises r →
    get x (view r n) ≡ Some p → in_group r n m ≡ true →
    (get x (table_of r n) ≡ Some p → get x (changed c (table_of r n)) ≡ Some p) →
    get x (view (with_table m (changed c) r) n) ≡ Some p
stays-with_table m c r n x p g h i keeps =
    let seen : (get x (table_of r n) ≡ Some p) × (r.told n p.node ≡ false) =
    get-seen (r.told n) (table_of r n) (is_rising-table_of r g n) x p h in
    ap (get x) (view-with_table m (changed c) r n i)
    ∙ seen-get (r.told n) (changed c (table_of r n)) (is_rising-changed c (table_of r n) (is_rising-table_of r g n)) x p
    (keeps seen.0) seen.1

-- a granted name call by a node of n's group
pub stands-granted : (s : Standing) (m k : ℕ) (call : NameCall) (reply : Reply) (n : ℕ) (x : Text) (p : Process) →
    NameIsLegal s m call reply → is_grant reply ≡ true →
    Rises s.registry → get x (view s.registry n) ≡ Some p → in_group s.registry n m ≡ true →
    (get x (view (with_table m (changed (change_of call)) s.registry) n) ≡ Some p)
    ⊎ Takes s.registry n x p (Name m k call reply)
stands-granted s m k (Register new) reply n x p l gr g h i = elim (cases_eq new.name x) [
  | inl e ↦ inr (subst (λ (reply : Reply). Takes s.registry n x p (Name m k (Register new) reply)) (sym is_yes)
      (Retaken m k new e i (told e)))
  | inr ne ↦ inl (stays-with_table m (Put new) s.registry n x p g h i (λ w. get-put new (table_of s.registry n) x
      ∙ rw (ne_eqb new.name x ne) w))
]
  where
    is_yes : reply ≡ Yes
    is_yes = granted_register (members s.registry m) (view s.registry m) new reply l.answer gr

    unseen : YesToRegister (members s.registry m) (view s.registry m) new
    unseen = yes_to_register (members s.registry m) (view s.registry m) new (sym is_yes ∙ l.answer)

    told : new.name ≡ x → s.registry.told m p.node ≡ true
    told e = get-unseen (s.registry.told m) (table_of s.registry m) (is_rising-table_of s.registry g m) x p
        (subst (λ (z : Text). get z (view s.registry m) ≡ None) e unseen.name)
        (ap (get x) (table_of-group s.registry n m i)
        ∙ (get-seen (s.registry.told n) (table_of s.registry n) (is_rising-table_of s.registry g n) x p h).0)
stands-granted s m k (ReRegister new) reply n x p l gr g h i = elim (cases_eq new.name x) [
  | inl e ↦ inr (subst (λ (reply : Reply). Takes s.registry n x p (Name m k (ReRegister new) reply)) (sym is_yes)
      (Replaced m k new e i))
  | inr ne ↦ inl (stays-with_table m (Put new) s.registry n x p g h i (λ w. get-put new (table_of s.registry n) x
      ∙ rw (ne_eqb new.name x ne) w))
]
  where
    is_yes : reply ≡ Yes
    is_yes = (granted_re_register (members s.registry m) (view s.registry m) new reply l.answer gr).0
stands-granted s m k (Unregister y) reply n x p l gr g h i = elim (cases_eq y x) [
  | inl e ↦ inr (subst (λ (f : Entry). Takes s.registry n x p f)
      (sym (ap₂ (λ (y : Text) (reply : Reply). Name m k (Unregister y) reply) e l.answer)) (GivenUp m k i))
  | inr ne ↦ inl (stays-with_table m (Remove y) s.registry n x p g h i (λ w. get-remove y (table_of s.registry n) x
      ∙ rw (ne_eqb y x ne) w))
]

-- a strike
pub stands-strike : (r : Registry) (q : Process) (n : ℕ) (x : Text) (p : Process) → Rises r →
    get x (view r n) ≡ Some p → Stands r n x p (Strike q)
stands-strike r q n x p g h = go (in_group r n q.node) refl
  where
    go : (b : Bool) → in_group r n q.node ≡ b → Stands r n x p (Strike q)
    go false i = inl (ap (get x) (view-with_table_other q.node (changed (StrikeOwner q)) r n i) ∙ h)
    go true i = elim (cases_process p q) [
      | inl e ↦ inr (subst (λ (f : Process). Takes r n x p (Strike f)) e
          (Struck (subst (λ (f : Process). in_group r n f.node ≡ true) (sym e) i)))
      | inr ne ↦ inl (stays-with_table q.node (StrikeOwner q) r n x p g h i
          (λ w. get-strike q (table_of r n) (is_rising-table_of r g n) x ∙ ap (if_kept (λ a. not (is_process a q))) w
          ∙ rw (is_process-other p q ne)))
    ]

-- a notice
pub stands-told : (r : Registry) (m d n : ℕ) (x : Text) (p : Process) → Rises r → get x (view r n) ≡ Some p →
    Stands r n x p (Told m d)
stands-told r m d n x p g h = elim (cases_eq n m) [
  | inl i ↦ elim (cases_eq p.node d) [
    | inl e ↦ inr (subst (λ (f : Entry). Takes r n x p f) (ap₂ (λ (a b : ℕ). Told a b) i e) Departed)
    | inr ne ↦ inl (seen-get (at r.told m now n) (table_of r n) (is_rising-table_of r g n) x p seen.0 (untold i ne))
  ]
  | inr ne ↦ inl (ap (λ (gone : Nodes). get x (without gone (table_of r n))) (at_other r.told m now n ne) ∙ h)
]
  where
    now : Nodes
    now = at (r.told m) d true

    seen : (get x (table_of r n) ≡ Some p) × (r.told n p.node ≡ false)
    seen = get-seen (r.told n) (table_of r n) (is_rising-table_of r g n) x p h

    untold : n ≡ m → (p.node ≡ d → ⊥) → at r.told m now n p.node ≡ false
    untold i ne =
        ap (λ (c : ℕ). at r.told m now c p.node) i
        ∙ ap (λ (gone : Nodes). gone p.node) (at_same r.told m now)
        ∙ at_other (r.told m) d true p.node ne
        ∙ ap (λ (c : ℕ). r.told c p.node) (sym i)
        ∙ seen.1

-- who has a name in the cluster's table once j has joined
pub get-joined : (r : Registry) (j m : ℕ) → Rises r → (x : Text) →
    get x (with_settled (settle (view r m) (r.lone j)) r.table)
    ≡ owner_in (behind (entry x (r.lone j)) (entry x (view r m)) (entry x r.table))
get-joined r j m g x =
    get-entry x (with_settled (settle (view r m) (r.lone j)) r.table)
    ∙ ap owner_in (entry-settled r.table (view r m) (r.lone j) (g.lone j) x)

-- how a name of both goes on: to one of both whose process is the other's, or on the lesser node, or to nobody under `notify_all`
pub data Clash (e own : Pair) (over : Option Pair) : Type 0 where
  JoinerHas : behind (Some e) (Some own) over ≡ Some e → e.owner.node < own.owner.node → Clash e own over
  ClusterHas : behind (Some e) (Some own) over ≡ over → own.owner.node ≤ e.owner.node → Clash e own over
  NobodyHas : own.rule ≡ NotifyAll → Clash e own over

-- one of these
pub cases_clash : (e own : Pair) (over : Option Pair) → Clash e own over
cases_clash e own over = go (cases_process e.owner own.owner)
  where
    go : (e.owner ≡ own.owner) ⊎ (e.owner ≡ own.owner → ⊥) → Clash e own over
    go (inl i) = ClusterHas (rw (is_process-eq e.owner own.owner i) refl)
        (let n : e.owner.node ≡ own.owner.node = ap (λ (p : Process). p.node) i in omega (arith, n))
    go (inr ne) = by own.rule refl (cases_lt e.owner.node own.owner.node)
      where
        under : (rule : Rule) → own.rule ≡ rule → (b : Bool) → nat_lt e.owner.node own.owner.node ≡ b →
            behind (Some e) (Some own) over
            ≡ (if goes_under rule then None else (if wins_under rule b then Some e else over))
        under rule k b l = rw (is_process-other e.owner own.owner ne) (rw (k, l) refl)

        by : (rule : Rule) → own.rule ≡ rule → (e.owner.node < own.owner.node) ⊎ (own.owner.node ≤ e.owner.node) →
            Clash e own over
        by NotifyAll k l = NobodyHas k
        by Exit k (inl l) = JoinerHas (under Exit k true (lt-ltb e.owner.node own.owner.node l)) l
        by Exit k (inr l) = ClusterHas (under Exit k false (le-ltb e.owner.node own.owner.node l)) l
        by Notify k (inl l) = JoinerHas (under Notify k true (lt-ltb e.owner.node own.owner.node l)) l
        by Notify k (inr l) = ClusterHas (under Notify k false (le-ltb e.owner.node own.owner.node l)) l

-- a join, as the joiner sees it
pub stands-own_join : (s : Standing) (j k m : ℕ) (x : Text) (p : Process) → JoinIsLegal s j m → IsGood s.registry →
    get x (view s.registry j) ≡ Some p →
    Stands s.registry j x p (Join j k m Joined)
stands-own_join s j k m x p l g h = go (cases_option (entry x (view r m)))
  where
    r : Registry
    r = s.registry

    seen : (get x (table_of r j) ≡ Some p) × (r.told j p.node ≡ false)
    seen = get-seen (r.told j) (table_of r j) (is_rising-table_of r g.rises j) x p h

    had : get x (r.lone j) ≡ Some p
    had = ap (λ (b : Bool). get x (if b then r.table else r.lone j)) (sym l.lone) ∙ seen.0

    own : p.node ≡ j
    own = (g.owners.own j l.lone).owner x p had

    written : Table
    written = with_settled (settle (view r m) (r.lone j)) r.table

    told : Nodes
    told d = r.told j d || r.told m d

    untold : told p.node ≡ false
    untold = or_from (r.told j p.node) (r.told m p.node) seen.1 (ap (r.told m) own ∙ l.untold)

    keeps : get x written ≡ Some p → get x (view (effect (Join j k m Joined) r) j) ≡ Some p
    keeps w =
        ap₂ (λ (b : Bool) (gone : Nodes). get x (without gone (if b then written else at r.lone j [] j)))
        (at_same r.joined j true) (at_same r.told j told)
        ∙ seen-get told written
        (is_rising-with_settled (settle (view r m) (r.lone j)) r.table g.rises.table) x p w untold

    mine : (e : Pair) × (entry x (r.lone j) ≡ Some e) × (e.owner ≡ p) × (e.name ≡ x)
    mine = entry_from_get x (r.lone j) p had

    node : mine.0.owner.node ≡ p.node
    node = ap (λ (p : Process). p.node) mine.2

    behind_is : (o : Option Pair) → entry x (view r m) ≡ o →
        get x written ≡ owner_in (behind (Some mine.0) o (entry x r.table))
    behind_is o h = get-joined r j m g.rises x ∙ rw (mine.1, h) refl

    go : ((theirs : Pair) × (entry x (view r m) ≡ Some theirs)) ⊎ (entry x (view r m) ≡ None) → Stands r j x p (Join j k m Joined)
    go (inl (theirs, e)) = elim (cases_clash mine.0 theirs (entry x r.table)) [
      | JoinerHas b less ↦ inl (keeps (behind_is (Some theirs) e ∙ ap owner_in b
          ∙ ap (λ (q : Process). let o : Option Process = Some q in o) mine.2))
      | ClusterHas b more ↦ inr (LostToCluster k m theirs.owner (get_from_entry x (view r m) theirs e) (omega (arith, node, more)))
      | NobodyHas i ↦ inr (LostToBoth j k m p theirs (or_right (r.joined j) (j == j) (eq-eqb j j refl)) had e i)
    ]
    go (inr e) = inl (keeps (behind_is None e ∙ ap (λ (q : Process). let o : Option Process = Some q in o) mine.2))

-- a join, as another node sees it
pub stands-other_join : (s : Standing) (j k m n : ℕ) (x : Text) (p : Process) → (n ≡ j → ⊥) → JoinIsLegal s j m →
    IsGood s.registry → get x (view s.registry n) ≡ Some p →
    Stands s.registry n x p (Join j k m Joined)
stands-other_join s j k m n x p ne l g h = go (r.joined n) refl
  where
    r : Registry
    r = s.registry

    written : Table
    written = with_settled (settle (view r m) (r.lone j)) r.table

    told : Nodes
    told d = r.told j d || r.told m d

    same : get x (view (effect (Join j k m Joined) r) n)
        ≡ get x (without (r.told n) (if r.joined n then written else r.lone n))
    same =
        ap₂ (λ (b : Bool) (gone : Nodes). get x (without gone (if b then written else at r.lone j [] n)))
        (at_other r.joined j true n ne) (at_other r.told j told n ne)
        ∙ ap (λ (t : Table). get x (without (r.told n) (if r.joined n then written else t))) (at_other r.lone j [] n ne)

    go : (b : Bool) → r.joined n ≡ b → Stands r n x p (Join j k m Joined)
    go false i = inl (same ∙ rw i (rw i at h))
    go true i = by (cases_option (entry x (r.lone j))) (cases_option (entry x (view r m)))
      where
        seen : (get x r.table ≡ Some p) × (r.told n p.node ≡ false)
        seen = get-seen (r.told n) r.table g.rises.table x p (rw i at h)

        keeps : get x written ≡ Some p → get x (view (effect (Join j k m Joined) r) n) ≡ Some p
        keeps w = same ∙ rw i
            (seen-get (r.told n) written
            (is_rising-with_settled (settle (view r m) (r.lone j)) r.table g.rises.table) x p w seen.1)

        stays : owner_in (entry x r.table) ≡ Some p
        stays = sym (get-entry x r.table) ∙ seen.0

        contact_sees : (o : Option Process) → get x (view r m) ≡ o → get x (without (r.told m) r.table) ≡ o
        contact_sees o f = ap (λ (b : Bool). get x (without (r.told m) (if b then r.table else r.lone m))) (sym l.contact) ∙ f

        by : ((e : Pair) × (entry x (r.lone j) ≡ Some e)) ⊎ (entry x (r.lone j) ≡ None) →
            ((own : Pair) × (entry x (view r m) ≡ Some own)) ⊎ (entry x (view r m) ≡ None) →
            Stands r n x p (Join j k m Joined)
        by (inr e) o = inl (keeps (get-joined r j m g.rises x ∙ rw e stays))
        by (inl (e, h)) (inr f) = inr (RetakenByJoiner j k m e.owner i (get_from_entry x (r.lone j) e h)
            (get-unseen (r.told m) r.table g.rises.table x p
            (contact_sees None (get_from_none x (view r m) f)) seen.0))
        by (inl (e, h)) (inl (own, f)) = elim (cases_clash e own (entry x r.table)) [
          | JoinerHas b less ↦ inr (LostToJoiner j k m e.owner i (get_from_entry x (r.lone j) e h)
              (omega (arith, less, node)))
          | ClusterHas b more ↦ inl (keeps (get-joined r j m g.rises x ∙ rw (h, f) (ap owner_in b ∙ stays)))
          | NobodyHas a ↦ inr (LostToBoth j k m e.owner own (or_left (r.joined n) (n == j) i) (get_from_entry x (r.lone j) e h) f a)
        ]
          where
            at_contact : (get x r.table ≡ Some own.owner) × (r.told m own.owner.node ≡ false)
            at_contact = get-seen (r.told m) r.table g.rises.table x own.owner
                (contact_sees (Some own.owner) (get_from_entry x (view r m) own f))

            node : own.owner.node ≡ p.node
            node = let k : ◌≡◌ {A = Option Process} (Some own.owner) (Some p) = sym at_contact.0 ∙ seen.0 in
                let o : own.owner ≡ p = cc in ap (λ (q : Process). q.node) o

-- a join
pub stands-join : (s : Standing) (j k m n : ℕ) (x : Text) (p : Process) → JoinIsLegal s j m → IsGood s.registry →
    get x (view s.registry n) ≡ Some p → Stands s.registry n x p (Join j k m Joined)
stands-join s j k m n x p l g h = elim (cases_eq n j) [
  | inl i ↦ subst (λ (c : ℕ). Stands s.registry c x p (Join j k m Joined)) (sym i)
      (stands-own_join s j k m x p l g (ap (λ (c : ℕ). get x (view s.registry c)) (sym i) ∙ h))
  | inr ne ↦ stands-other_join s j k m n x p ne l g h
]

-- each legal entry
pub stands : (s : Standing) (e : Entry) (n : ℕ) (x : Text) (p : Process) → is_legal s e ≡ true → IsGood s.registry →
    get x (view s.registry n) ≡ Some p → Stands s.registry n x p e
stands s (Name m k call reply) n x p l g h = go (is_grant reply) refl
  where
    r : Registry
    r = s.registry

    group : (b : Bool) → in_group r n m ≡ b → is_grant reply ≡ true →
        (get x (view (with_table m (changed (change_of call)) r) n) ≡ Some p) ⊎ Takes r n x p (Name m k call reply)
    group true i gr = stands-granted s m k call reply n x p (name_is_legal s m call reply l) gr g.rises h i
    group false i gr = inl (ap (get x) (view-with_table_other m (changed (change_of call)) r n i) ∙ h)

    go : (b : Bool) → is_grant reply ≡ b →
        (get x (view (if b then with_table m (changed (change_of call)) r else r) n) ≡ Some p)
        ⊎ Takes r n x p (Name m k call reply)
    go true gr = group (in_group r n m) refl gr
    go false gr = inl h
stands s (Strike q) n x p l g h = stands-strike s.registry q n x p g.rises h
stands s (Join j k m Joined) n x p l g h = stands-join s j k m n x p (join_is_legal s j m l) g h
stands s (Join j k m _) n x p l g h = inl h
stands s (Done m) n x p l g h = inl h
stands s (Entry.Exit q) n x p l g h = inl h
stands s (Left d) n x p l g h = inl h
stands s (Told m d) n x p l g h = stands-told s.registry m d n x p g.rises h
stands s (Read m look reply) n x p l g h = inl h

-- a name that a node sees stands until an entry takes it
pub stand_law : (cluster : Nodes) (h : List Entry) → IsLegal cluster h → NamesStand cluster h
stand_law cluster h l before later e n x p s seen =
    let legal : IsLegal cluster (before ++ e ∷ later) = subst (λ (h : List Entry). IsLegal cluster h) s l in
    let t : Standing = standing_of cluster before in
    let held : Stands t.registry n x p e =
    stands t e n x p (is_legal-at cluster before later e legal)
    (IsGood-standing_of cluster before (IsLegal-front cluster before (e ∷ later) legal))
    (ap (λ (r : Registry). get x (view r n)) (registry-standing_of cluster before) ∙ seen) in
    let here : Stands (registry_of cluster before) n x p e =
    subst (λ (r : Registry). Stands r n x p e) (registry-standing_of cluster before) held in
    elim here [
      | inl k ↦ inl (ap (λ (r : Registry). get x (view r n)) (registry_of-push cluster before e) ∙ k)
      | inr k ↦ inr k
    ]

-- who is answered `yes` registered a free name
pub yes_law : (cluster : Nodes) (h : List Entry) → IsLegal cluster h → YesToTheFree cluster h
yes_law cluster h l before later n k new s =
    let legal : IsLegal cluster (before ++ Name n k (Register new) Yes ∷ later) =
    subst (λ (h : List Entry). IsLegal cluster h) s l in
    let t : Standing = standing_of cluster before in
    let a : NameIsLegal t n (Register new) Yes =
    name_is_legal t n (Register new) Yes (is_legal-at cluster before later (Name n k (Register new) Yes) legal) in
    let y : YesToRegister (members t.registry n) (view t.registry n) new =
    yes_to_register (members t.registry n) (view t.registry n) new a.answer in
    subst (λ (r : Registry). IsFreeFor r n new) (registry-standing_of cluster before)
    (record { name = y.name; owner = y.owner; member = y.member })
