-- The places of nodes, and what stands on the links between them.
use Rattle.std.proofs.Common.{ℕ, Bool, true, false, ◌==◌, ◌≡◌, ◌<◌, ◌≤◌, ◌+◌, ◌*◌, Option, Some, None, List, [], ◌∷◌, length, get_or, set, refl, sym, ap, ◌∙◌, subst, get_or-set_same, get_or-set_other, arith, inl, inr}
use Rattle.std.specs.Prelude.{is_some, ◌&&◌, if◌then◌else◌}
use Rattle.std.specs.List.{position, position_or_len, slice_get}
use Rattle.std.specs.List.Sorted.{IsStrictlyIncreasing}
use Rattle.std.proofs.lemmas.Bool.{cases_order, eq-eqb}
use Rattle.std.proofs.lemmas.Grind.{common_steps}
use Rattle.std.proofs.lemmas.List.{get_or_default}
use Rattle.std.proofs.lemmas.List.Kept.{AllPairs-from_increasing}
use Rattle.std.proofs.lemmas.List.Sums.{fails_before_first}
use Rattle.registry_model.proofs.Updates.{by_test}
use Rattle.term.proofs.NodePlaces.{place-Some, one_place}
use Rattle.term.specs.declared.limits.TheConstants.{MOST_NODES}
use Rattle.link.specs.Faults.{joins, IsLinkOf}
use Rattle.link.specs.declared.link_place.LinkPlace.{LinkPlace}
use Rattle.link.specs.MeshState.{MeshState, IsWhole, place, has, link_at, closed_at, seen, node_at, from_of, to_of, IsWithin}

-- a test that passes nowhere has its first place behind the list
none : (p : ℕ → Bool) (nodes : List ℕ) → position p nodes ≡ None → length nodes ≤ position_or_len p nodes
none p nodes e = grind (arith, common_steps)

-- what is on the link between two places
pub link_at-Some : {L : Type 0} (p q : Option ℕ) (i j : ℕ) (links : List (List L)) → p ≡ Some i → q ≡ Some j
    → link_at p q links ≡ get_or links (i * MOST_NODES + j) []
link_at-Some p q i j links e f = ap (λ (r : Option ℕ). link_at r q links) e
    ∙ ap (λ (r : Option ℕ). link_at (Some i) r links) f

-- what is noted of the node at a place
pub closed_at-Some : (p : Option ℕ) (i : ℕ) (flags : List Bool) → p ≡ Some i → closed_at p flags ≡ get_or flags i false
closed_at-Some p i flags e = ap (λ (r : Option ℕ). closed_at r flags) e

-- two pairs of places have two links
pub one_link : (i j k l : ℕ) → j < MOST_NODES → l < MOST_NODES → k * MOST_NODES + l ≡ i * MOST_NODES + j → (k ≡ i)
    × (l ≡ j)
one_link i j k l below within e = (omega arith, omega arith)

-- a write to another link isn't seen
pub link_at-set_other : {L : Type 0} (p q : Option ℕ) (links : List (List L)) (at : ℕ) (v : List L)
    → ((k l : ℕ) → p ≡ Some k → q ≡ Some l → k * MOST_NODES + l ≡ at → ⊥) → link_at p q (set links at v)
    ≡ link_at p q links
link_at-set_other None q links at v ne = refl
link_at-set_other (Some k) None links at v ne = refl
link_at-set_other (Some k) (Some l) links at v ne = get_or-set_other links at (k * MOST_NODES + l) v []
    (ne k l refl refl)

-- on the link from f to t is what was written there, and on all others what was there
pub link_at-set : {L : Type 0} (nodes : List ℕ) (links : List (List L)) (f t i j : ℕ) (v : List L)
    → length nodes ≤ MOST_NODES → length links ≡ MOST_NODES * MOST_NODES
    → place f nodes ≡ Some i → place t nodes ≡ Some j → (x y : ℕ)
    → link_at (place x nodes) (place y nodes) (set links (i * MOST_NODES + j) v)
    ≡ (if (x == f) && (y == t) then v else link_at (place x nodes) (place y nodes) links)
link_at-set {L} nodes links f t i j v few whole e g x y =
    by_test f (λ x b. link_at (place x nodes) (place y nodes) (set links (i * MOST_NODES + j) v)
    ≡ (if b && (y == t) then v else link_at (place x nodes) (place y nodes) links)) from_f from_other x
  where
    sender : (i < length nodes) × (get_or nodes i 0 ≡ f)
    sender = place-Some f nodes i e

    receiver : (j < length nodes) × (get_or nodes j 0 ≡ t)
    receiver = place-Some t nodes j g

    here : link_at (place f nodes) (place t nodes) (set links (i * MOST_NODES + j) v) ≡ v
    here = link_at-Some (place f nodes) (place t nodes) i j (set links (i * MOST_NODES + j) v) e g
        ∙ get_or-set_same links (i * MOST_NODES + j) v [] (omega (arith, whole, few, sender.0, receiver.0))

    apart : (x y : ℕ) → (x ≡ f → y ≡ t → ⊥) → (k l : ℕ) → place x nodes ≡ Some k → place y nodes ≡ Some l
        → k * MOST_NODES + l ≡ i * MOST_NODES + j → ⊥
    apart x y ne k l px py same =
        let ends : (k ≡ i) × (l ≡ j) = one_link i j k l (omega (arith, few, receiver.0))
        (omega (arith, few, (place-Some y nodes l py).0)) same in
        ne (one_place x f nodes i (px ∙ ap Some ends.0) e) (one_place y t nodes j (py ∙ ap Some ends.1) g)

    from_f : link_at (place f nodes) (place y nodes) (set links (i * MOST_NODES + j) v)
        ≡ (if y == t then v else link_at (place f nodes) (place y nodes) links)
    from_f = by_test t (λ y b. link_at (place f nodes) (place y nodes) (set links (i * MOST_NODES + j) v)
        ≡ (if b then v else link_at (place f nodes) (place y nodes) links)) here
        (λ y ne. link_at-set_other (place f nodes) (place y nodes) links (i * MOST_NODES + j) v (apart f y (λ _. ne))) y

    from_other : (x : ℕ) → (x ≡ f → ⊥) → link_at (place x nodes) (place y nodes) (set links (i * MOST_NODES + j) v)
        ≡ link_at (place x nodes) (place y nodes) links
    from_other x ne = link_at-set_other (place x nodes) (place y nodes) links (i * MOST_NODES + j) v
        (apart x y (λ is _. ne is))

-- what is noted of a node is noted of no other
pub closed_at-set : (nodes : List ℕ) (flags : List Bool) (d j : ℕ) (v : Bool) → length nodes ≤ MOST_NODES → length flags
    ≡ MOST_NODES
    → place d nodes ≡ Some j → (x : ℕ)
    → closed_at (place x nodes) (set flags j v) ≡ (if x == d then v else closed_at (place x nodes) flags)
closed_at-set nodes flags d j v few whole e = by_test d (λ x b. closed_at (place x nodes) (set flags j v)
    ≡ (if b then v else closed_at (place x nodes) flags)) here
    (λ x ne. other (place x nodes) (λ q. ne (one_place x d nodes j q e)))
  where
    here : closed_at (place d nodes) (set flags j v) ≡ v
    here = closed_at-Some (place d nodes) j (set flags j v) e
        ∙ get_or-set_same flags j v false (omega (arith, whole, few, (place-Some d nodes j e).0))

    other : (p : Option ℕ) → (p ≡ Some j → ⊥) → closed_at p (set flags j v) ≡ closed_at p flags
    other None ne = refl
    other (Some k) ne = get_or-set_other flags j k v false (λ q. ne (ap Some q))

-- rising nodes stand each at its place
pub place-get_or : (nodes : List ℕ) (i : ℕ) → IsStrictlyIncreasing nodes → i < length nodes
    → place (get_or nodes i 0) nodes ≡ Some i
place-get_or nodes i rising l = go (place a nodes) refl
  where
    a : ℕ
    a = get_or nodes i 0

    go : (p : Option ℕ) → place a nodes ≡ p → p ≡ Some i
    go None e = absurd (cc (found, eq-eqb a a refl))
      where
        found : (a == a) ≡ false
        found = fails_before_first (λ x. x == a) nodes i 0 (omega (arith, none (λ x. x == a) nodes e))
    go (Some k) e = elim (cases_order k i) [
      | inl same ↦ ap Some same
      | inr (inl less) ↦ absurd (omega (
        arith,
        AllPairs-from_increasing nodes rising k i 0 less l,
        (place-Some a nodes k e).1,
      ))
      | inr (inr more) ↦ absurd (omega (
        arith,
        AllPairs-from_increasing nodes rising i k 0 more
            (place-Some a nodes k e).0,
        (place-Some a nodes k e).1,
      ))
    ]

-- nothing is on a link of which an end is no node of the mesh
pub queue-stranger : {L : Type 0} (h : MeshState L) (f t : ℕ) → joins f t h ≡ false → (seen h).queue f t ≡ []
queue-stranger {L} h f t e = go (place f h.nodes) (place t h.nodes) e
  where
    go : (p q : Option ℕ) → (is_some p && is_some q) ≡ false → link_at p q h.links ≡ []
    go None q e = refl
    go (Some i) None e = refl
    go (Some i) (Some j) e = cc

-- what was read at a place stands there
pub read_there : {X : Type 0} (d : X) (xs : List X) (i : ℕ) (old : X) → i < length xs → old ≡ get_or xs i old → old
    ≡ get_or xs i d
read_there d xs i old l e = e ∙ get_or_default xs i old d l

-- what was read at the place of a link is on it
pub read_link : {L : Type 0} (h m : MeshState L) (k : LinkPlace) (i : ℕ) (old : List L) → h ≡ m → IsWhole h → IsWithin k m
    → i ≡ k.sender * MOST_NODES + k.receiver → old ≡ get_or h.links i old → old ≡ (seen m).queue (from_of k m) (to_of k m)
read_link {L} h m k i old same whole within is was = subst (λ (m : MeshState L). IsWithin k m
    → old ≡ (seen m).queue (from_of k m) (to_of k m)) same here within
  where
    here : IsWithin k h → old ≡ (seen h).queue (from_of k h) (to_of k h)
    here w = read_there [] h.links i old (omega (arith, whole.few, whole.links, is, w.0, w.1)) was
        ∙ ap (λ (n : ℕ). get_or h.links n []) is
        ∙ sym (link_at-Some (place (from_of k h) h.nodes) (place (to_of k h) h.nodes) k.sender k.receiver h.links
        (place-get_or h.nodes k.sender whole.rising w.0) (place-get_or h.nodes k.receiver whole.rising w.1))

-- where a node was found stands this node
pub found_at : {L : Type 0} (h : MeshState L) (a i : ℕ) (o : Option ℕ) → o ≡ place a h.nodes → o ≡ Some i
    → (i < length h.nodes) × (node_at i h ≡ a)
found_at h a i o is found = place-Some a h.nodes i (sym is ∙ found)

-- two nodes that are found have a link
pub joined : {L : Type 0} (h : MeshState L) (f t i j : ℕ) → place f h.nodes ≡ Some i → place t h.nodes ≡ Some j
    → joins f t h ≡ true
joined h f t i j e g = ap (λ (o : Option ℕ). is_some o && has t h) e ∙ ap is_some g

pub found_link : {L : Type 0} (h : MeshState L) (f t i j : ℕ) (o p : Option ℕ) → o ≡ place f h.nodes → p ≡ place t h.nodes
    → o ≡ Some i → p ≡ Some j → IsLinkOf (Some (record { sender = i; receiver = j })) f t h
found_link h f t i j o p e g found there =
    let sender = found_at h f i o e found in
    let receiver = found_at h t j p g there in
    (joined h f t i j (sym e ∙ found) (sym g ∙ there), (sender.0, receiver.0), sender.1, receiver.1)

-- no oldest letter is on a link, and so none
pub nothing_on : {L : Type 0} (h : MeshState L) (k : LinkPlace) (f t : ℕ) → from_of k h ≡ f → to_of k h ≡ t
    → None ≡ slice_get ((seen h).queue (from_of k h) (to_of k h)) 0 → (seen h).queue f t ≡ []
nothing_on {L} h k f t e g none = sym (ap (λ (x : ℕ). (seen h).queue x (to_of k h)) e
    ∙ ap (λ (y : ℕ). (seen h).queue f y) g) ∙ go ((seen h).queue (from_of k h) (to_of k h)) none
  where
    go : (ls : List L) → None ≡ slice_get ls 0 → ls ≡ []
    go [] e = refl
    go (l ∷ ls) e = cc
