-- Who holds the global lock, by what the cores say.
use Rattle.std.proofs.Common.{ℕ, zero, suc, Bool, true, false, ◌≡◌, ◌<◌, ◌≤◌, ◌+◌, Option, Some, None, List, [], ◌∷◌, length, get_or, map, refl, sym, ap, subst, ◌∙◌, arith, inl, inr}
use Rattle.std.specs.Prelude.{if◌then◌else◌, not, nat_lt, ◌&&◌, find, option_map, Contains}
use Rattle.std.specs.List.{All}
use Rattle.std.specs.List.Sorted.{IsStrictlyIncreasing}
use Rattle.std.proofs.lemmas.Bool.{cases_lt, ltb-true, and_parts}
use Rattle.std.proofs.lemmas.List.{get_or_default}
use Rattle.registry_model.specs.Process.{nodes_of as all_below}
use Rattle.registry_model.proofs.NodeLists.{are_nodes_below}
use Rattle.protocol_model.specs.Node.{Node, holds_global}
use Rattle.protocol_model.specs.World.{in_world, holder, left}
use Rattle.getting_through.proofs.Lists.{Rise, find_none, find_least, nodes_rise}
use Rattle.term.specs.NodeSets.{set_of, with_older}
use Rattle.term.proofs.NodeLists.{rising-tail}
use Rattle.term.proofs.NodeSets.{rises}
use Rattle.term.proofs.Older.{held}
use Rattle.node_core.specs.CoreState.{CoreState, HaveLeft}
use Rattle.cluster_world.specs.Cores.{core_of}
use Rattle.cluster_world.specs.WorldState.{WorldState, nodes_of}
use Rattle.cluster_world.specs.Seen.{opening_of, or_else, node_with, seen, is_holding}
use Rattle.cluster_world.specs.Whole.{IsWhole}
use Rattle.cluster_world.proofs.Cores.{no_core, not_among}
use Rattle.cluster_world.proofs.Naming.{started_inside}
use Rattle.cluster_world.proofs.Succeeding.{contains_set}
use Rattle.cluster_world.proofs.Untold.{core_seen}
use Rattle.cluster_world.proofs.Steps.{core_name}

-- none of the first i cores passes
abbrev pub NonePasses : (CoreState → Bool) → ℕ → List CoreState → Type 0
NonePasses q i cs = (k : ℕ) (d : CoreState) → k < i → q (get_or cs k d) ≡ false

-- nobody holds among them
abbrev pub NobodyBefore : List ℕ → ℕ → List CoreState → Type 0
NobodyBefore w i cs = NonePasses (is_holding w) i cs

module _ (q : CoreState → Bool) where
  -- a search for a name is a search for its core
  pub found_by_name : (p : ℕ → Bool) (cs : List CoreState) → ((k : ℕ) (d : CoreState) → k < length cs
      → p (get_or cs k d).name ≡ q (get_or cs k d))
      → find p (map core_name cs) ≡ option_map core_name (find q cs)
  found_by_name p [] same = refl
  found_by_name p (c ∷ cs) same = ap (λ (b : Bool). if b then Some c.name else find p (map core_name cs))
      (same 0 c (omega arith))
      ∙ go (q c) (found_by_name p cs (λ k d l. same (suc k) d (omega arith)))
    where
      go : (b : Bool) → find p (map core_name cs) ≡ option_map core_name (find q cs)
          → (if b then Some c.name else find p (map core_name cs))
          ≡ option_map core_name (if b then Some c else find q cs)
      go true e = refl
      go false e = e

  found_none : (cs : List CoreState) → NonePasses q (length cs) cs → find q cs ≡ None
  found_none [] none = refl
  found_none (c ∷ cs) none =
      ap (λ (b : Bool). if b then Some c else find q cs) (none 0 c (omega arith))
      ∙ found_none cs (λ k d l. none (suc k) d (omega arith))

  found_some : (cs : List CoreState) (i : ℕ) (c : CoreState) → i < length cs → NonePasses q i cs
      → q (get_or cs i c) ≡ true → find q cs ≡ Some (get_or cs i c)
  found_some [] i c l none here = absurd (omega arith)
  found_some (d ∷ cs) zero c l none here = ap (λ (b : Bool). if b then Some d else find q cs) here
  found_some (d ∷ cs) (suc i) c l none here = ap (λ (b : Bool). if b then Some d else find q cs)
      (none 0 c (omega arith))
      ∙ found_some cs i c (omega arith) (λ k e m. none (suc k) e (omega arith)) here

  -- one core more was looked at
  pub none_more : (cs : List CoreState) (i : ℕ) (c : CoreState) → i < length cs → c ≡ get_or cs i c
      → NonePasses q i cs → q c ≡ false → NonePasses q (i + 1) cs
  none_more cs i c l is before here k d m = elim (cases_lt k i) [
    | inl less ↦ before k d less
    | inr more ↦ ap (λ (j : ℕ). q (get_or cs j d)) (same_place k i m more)
        ∙ ap q (get_or_default cs i d c l ∙ sym is) ∙ here
  ]
    where
      same_place : (k i : ℕ) → k < i + 1 → i ≤ k → k ≡ i
      same_place k i m n = omega arith

  -- this core passes, and none before it; or none does
  pub this_first : (cores cs : List CoreState) (i : ℕ) (c : CoreState) (x : ℕ) → cs ≡ cores → i < length cs → c ≡ get_or cs i c
      → NonePasses q i cs → q c ≡ true → x ≡ c.name → Some x ≡ option_map core_name (find q cores)
  this_first cores cs i c x are l is before here named =
      subst (λ (ds : List CoreState). Some x ≡ option_map core_name (find q ds)) are
      (ap Some (named ∙ ap core_name is)
      ∙ sym (ap (option_map core_name) (found_some cs i c l before (ap q (sym is) ∙ here))))

  pub none_first : (cores cs : List CoreState) (i : ℕ) → cs ≡ cores → length cs ≤ i → NonePasses q i cs
      → None ≡ option_map core_name (find q cores)
  none_first cores cs i are le before = subst (λ (ds : List CoreState). None ≡ option_map core_name (find q ds)) are
      (sym (ap (option_map core_name) (found_none cs (λ k d l. before k d (omega (arith, l, le))))))

-- what is found is the same in rising lists that have the same of what passes
pub rise_of : (xs : List ℕ) → IsStrictlyIncreasing xs → Rise xs
rise_of [] up = tt
rise_of (x ∷ xs) up = (
  λ c i. omega (arith, rises (x ∷ xs) 0 (suc i.0) up (omega arith) (omega (arith, i.1)), get_or_default xs i.0 0 c i.1, i.2),
  rise_of xs (rising-tail x xs up),
)

pub found_same : (p : ℕ → Bool) (xs ys : List ℕ) → Rise xs → Rise ys → ((c : ℕ) → p c ≡ true → Contains xs c → Contains ys c)
    → ((c : ℕ) → p c ≡ true → Contains ys c → Contains xs c) → find p xs ≡ find p ys
found_same p xs ys R T there back = go (find p xs) (find p ys) refl refl
  where
    go : (u v : Option ℕ) → find p xs ≡ u → find p ys ≡ v → u ≡ v
    go None None e f = refl
    go None (Some m) e f =
        let l : Contains ys m × (p m ≡ true) × ((c : ℕ) → Contains ys c → c < m → p c ≡ false) = find_least p ys m T f in
        absurd (cc (l.1, find_none p xs e m (back m l.1 l.0)))
    go (Some n) None e f =
        let l : Contains xs n × (p n ≡ true) × ((c : ℕ) → Contains xs c → c < n → p c ≡ false) = find_least p xs n R e in
        absurd (cc (l.1, find_none p ys f n (there n l.1 l.0)))
    go (Some n) (Some m) e f =
        let l : Contains xs n × (p n ≡ true) × ((c : ℕ) → Contains xs c → c < n → p c ≡ false) = find_least p xs n R e in
        let k : Contains ys m × (p m ≡ true) × ((c : ℕ) → Contains ys c → c < m → p c ≡ false) = find_least p ys m T f in
        elim (cases_lt n m) [
          | inl less ↦ absurd (cc (l.1, k.2 n (there n l.1 l.0) less))
          | inr not_less ↦ elim (cases_lt m n) [
            | inl more ↦ absurd (cc (k.1, l.2 m (back m k.1 k.0) more))
            | inr not_more ↦
                let same : n ≡ m = omega (arith, not_less, not_more) in ap (λ (y : ℕ). let r : Option ℕ = Some y in r) same
          ]
        ]

-- no core was kept of a node that hasn't started
none_kept : (nodes : List ℕ) (y : ℕ) (ps : List CoreState) → with_older nodes y ≡ false
    → All (λ c. (with_older nodes c.name ≡ true) × (set_of nodes c.name ≡ false)) ps → core_of y ps ≡ None
none_kept nodes y ps e all = not_among core_name y ps (λ k d l f. cc (e, (all k d l).0, ap (with_older nodes) f))

module _ (h : WorldState) (whole : IsWhole h) (went : HaveLeft (nodes_of h) h.links.departed) where
  -- whether a node with this state holds, and has it left
  abbrev holding : Node → Bool → Bool
  holding v gone = v.replica.joined && holds_global v && not gone

  abbrev holds : ℕ → Bool
  holds c = holding ((seen h).node c) (left (seen h) c)

  same : (k : ℕ) (d : CoreState) → k < length h.cores → holds (get_or h.cores k d).name
      ≡ is_holding h.links.departed (get_or h.cores k d)
  same k d l = ap (λ (v : Node). holding v (left (seen h) (get_or h.cores k d).name)) (core_seen h whole k d l)

  -- who has left doesn't hold, and who hasn't started doesn't
  not_gone : (v : Node) → holding v true ≡ true → ⊥
  not_gone v = never v.replica.joined (holds_global v)
    where
      never : (a b : Bool) → (a && b && not true) ≡ true → ⊥
      never true true e = cc e
      never true false e = cc e
      never false b e = cc e

  not_free : (v : Node) (gone : Bool) → holds_global v ≡ false → holding v gone ≡ true → ⊥
  not_free v gone free e = never v.replica.joined (holds_global v) (not gone) free e
    where
      never : (a b c : Bool) → b ≡ false → (a && b && c) ≡ true → ⊥
      never true true c f e = cc f
      never true false c f e = cc e
      never false b c f e = cc e

  only_present : (c : ℕ) → holds c ≡ true → set_of (nodes_of h) c ≡ true
  only_present c e = go (set_of (nodes_of h) c) (with_older (nodes_of h) c) refl refl
    where
      go : (s o : Bool) → set_of (nodes_of h) c ≡ s → with_older (nodes_of h) c ≡ o → s ≡ true
      go true o f g = refl
      go false true f g = absurd (not_gone ((seen h).node c)
          (subst (λ (t : Bool). holding ((seen h).node c) t ≡ true) (went.older c g f) e))
      go false false f g = absurd (not_free ((seen h).node c) (left (seen h) c)
          (ap (λ (r : Option CoreState). holds_global (node_with (opening_of h) c (or_else r (core_of c h.past))))
          (no_core core_name h.cores c (ap (λ (ns : List ℕ). set_of ns c) whole.names ∙ f))
          ∙ ap (λ (r : Option CoreState). holds_global (node_with (opening_of h) c r)) (none_kept (nodes_of h) c h.past g whole.older)) e)

  -- so it is searched for among the nodes at present
  searched : find holds (all_below (opening_of h).bound (in_world (opening_of h))) ≡ find holds (nodes_of h)
  searched = found_same holds (all_below (opening_of h).bound (in_world (opening_of h))) (nodes_of h)
      (nodes_rise (opening_of h).bound (in_world (opening_of h))) (rise_of (nodes_of h) whole.set.rising)
      (λ c e i. contains_set (nodes_of h) c (only_present c e))
      (λ c e i. listed c (started_inside (nodes_of h) h.cluster c (held (nodes_of h) c (only_present c e))))
    where
      listed : (c : ℕ) → in_world (opening_of h) c ≡ true → Contains (all_below (opening_of h).bound (in_world (opening_of h))) c
      listed c e = ((are_nodes_below (opening_of h).bound (in_world (opening_of h))).below c).1
          (ltb-true c (opening_of h).bound (and_parts (nat_lt c (opening_of h).bound) ((opening_of h).nodes c) e).0, e)

  holder_is : holder (opening_of h) (seen h) ≡ option_map core_name (find (is_holding h.links.departed) h.cores)
  holder_is = searched ∙ ap (find holds) (sym whole.names) ∙ found_by_name (is_holding h.links.departed) holds h.cores same

-- one core more was looked at
pub nobody_more : (w : List ℕ) (cs : List CoreState) (i : ℕ) (c : CoreState) → i < length cs → c ≡ get_or cs i c
    → NobodyBefore w i cs → is_holding w c ≡ false → NobodyBefore w (i + 1) cs
nobody_more w cs i c l is before here = none_more (is_holding w) cs i c l is before here

-- this core holds, and none before it
pub this_core : (h : WorldState) (cs : List CoreState) (i : ℕ) (c : CoreState) (x : ℕ) → IsWhole h → HaveLeft (nodes_of h) h.links.departed
    → cs ≡ h.cores → i < length cs → c
    ≡ get_or cs i c → NobodyBefore h.links.departed i cs
    → is_holding h.links.departed c ≡ true → x ≡ c.name → Some x ≡ holder (opening_of h) (seen h)
this_core h cs i c x whole went are l is before here named =
    this_first (is_holding h.links.departed) h.cores cs i c x are l is before here named ∙ sym (holder_is h whole went)

-- no core holds
pub no_core_holds : (h : WorldState) (cs : List CoreState) (i : ℕ) → IsWhole h → HaveLeft (nodes_of h) h.links.departed
    → cs ≡ h.cores → length cs ≤ i
    → NobodyBefore h.links.departed i cs → None ≡ holder (opening_of h) (seen h)
no_core_holds h cs i whole went are le before =
    none_first (is_holding h.links.departed) h.cores cs i are le before ∙ sym (holder_is h whole went)
