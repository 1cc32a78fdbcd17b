-- The first link on which a letter waits.
use Rattle.std.proofs.Common.{ℕ, true, false, ◌≡◌, ◌≤◌, ◌<◌, ◌+◌, ◌*◌, Option, Some, None, List, [], ◌∷◌, length, get_or, refl, sym, ap, ◌∙◌, inl, inr, arith}
use Rattle.std.specs.Prelude.{◌⊎◌}
use Rattle.std.proofs.lemmas.Bool.{cases_eq, cases_order}
use Rattle.std.proofs.lemmas.Grind.{get_or_default_zero}
use Rattle.std.proofs.lemmas.List.Kept.{AllPairs-from_increasing}
use Rattle.protocol_model.specs.Links.{is_nil}
use Rattle.term.specs.declared.limits.TheConstants.{MOST_NODES}
use Rattle.link.specs.MeshState.{MeshState, IsWhole, place, link_at, seen, WaitsFrom, IsFirst, WaitsFirst, WaitsTowards}
use Rattle.term.proofs.NodePlaces.{place-Some}
use Rattle.link.proofs.Places.{place-get_or, link_at-Some}

-- what has no letter is empty
pub is_nil-true : {L : Type 0} (ls : List L) → is_nil ls ≡ true → ls ≡ []
is_nil-true [] e = refl
is_nil-true (l ∷ ls) e = cc

-- a copy of what stands at this place
pub copy_at : {xs ys : List ℕ} {x y : ℕ} (i : ℕ) → xs ≡ ys → x ≡ y → y ≡ get_or xs i y → x ≡ get_or ys i x
copy_at {xs} {ys} {x} {y} i e c r = c ∙ r ∙ ap (λ (zs : List ℕ). get_or zs i y) e
    ∙ ap (λ (z : ℕ). get_or ys i z) (sym c)

-- no link between two places has a letter
pub waits_nowhere : {L : Type 0} (h : MeshState L)
    → ((i k : ℕ) → i < length h.nodes → k < length h.nodes → get_or h.links (i * MOST_NODES + k) [] ≡ [])
    → WaitsFirst None h
waits_nowhere h nothing x y = go (place x h.nodes) (place y h.nodes) refl refl
  where
    go : (p q : Option ℕ) → place x h.nodes ≡ p → place y h.nodes ≡ q → link_at p q h.links ≡ []
    go None q e f = refl
    go (Some i) None e f = refl
    go (Some i) (Some k) e f = nothing i k (place-Some x h.nodes i e).0 (place-Some y h.nodes k f).0

-- of rising nodes the lesser stands before
stands_before : {L : Type 0} (h : MeshState L) → IsWhole h → (x y i k : ℕ) → place x h.nodes ≡ Some i → place y h.nodes
    ≡ Some k → x < y → i < k
stands_before h whole x y i k e f less = elim (cases_order i k) [
  | inl same ↦ absurd (omega (
    arith,
    (place-Some x h.nodes i e).1,
    (place-Some y h.nodes k f).1,
    ap
        (λ (j : ℕ). get_or h.nodes j 0) same,
  ))
  | inr (inl l) ↦ l
  | inr (inr more) ↦ absurd (omega (
    arith,
    (place-Some x h.nodes i e).1,
    (place-Some y h.nodes k f).1,
    AllPairs-from_increasing h.nodes whole.rising k i 0 more (place-Some x h.nodes i e).0,
  ))
]

-- no link from an earlier sender has a letter, and this is the first receiver of this sender
pub waits_here : {L : Type 0} (h : MeshState L) (i j : ℕ) → IsWhole h → i < length h.nodes
    → ((x k : ℕ) → x < i → k < length h.nodes → get_or h.links (x * MOST_NODES + k) [] ≡ []) → WaitsFrom i (Some j) h
    → WaitsFirst (Some (get_or h.nodes i 0, get_or h.nodes j 0)) h
waits_here h i j whole within before here = (
  ap is_nil
      (link_at-Some (place f h.nodes) (place t h.nodes) i j h.links e g) ∙ here.1,
  first,
)
  where
    f : ℕ
    f = get_or h.nodes i 0

    t : ℕ
    t = get_or h.nodes j 0

    e : place f h.nodes ≡ Some i
    e = place-get_or h.nodes i whole.rising within

    g : place t h.nodes ≡ Some j
    g = place-get_or h.nodes j whole.rising here.0

    go : (x y : ℕ) → (x < f) ⊎ ((x ≡ f) × (y < t)) → (p q : Option ℕ) → place x h.nodes ≡ p → place y h.nodes ≡ q
        → link_at p q h.links ≡ []
    go x y less None q a b = refl
    go x y less (Some k) None a b = refl
    go x y (inl less) (Some k) (Some l) a b = before k l (stands_before h whole x f k i a e less)
        (place-Some y h.nodes l b).0
    go x y (inr both) (Some k) (Some l) a b =
        ap (λ (n : ℕ). get_or h.links (n * MOST_NODES + l) []) same_place
        ∙ here.2 l (stands_before h whole y t l j b g both.1)
      where
        some_same : (m n : ℕ) → Some m ≡ Some n → m ≡ n
        some_same m n s = cc

        same_place : k ≡ i
        same_place = some_same k i (sym a ∙ ap (λ (n : ℕ). place n h.nodes) both.0 ∙ e)

    first : IsFirst f t h
    first x y less = go x y less (place x h.nodes) (place y h.nodes) refl refl

-- no letter waits for this node from the first i nodes
abbrev pub NoneFrom : {L : Type 0} → ℕ → ℕ → MeshState L → Type 0
NoneFrom i t h = (k : ℕ) → k < i → (seen h).queue (get_or h.nodes k 0) t ≡ []

-- nor from the next
pub none_more : {L : Type 0} (h : MeshState L) (t i f : ℕ) → NoneFrom i t h → i < length h.nodes → f ≡ get_or h.nodes i f
    → is_nil ((seen h).queue f t) ≡ true → NoneFrom (i + 1) t h
none_more h t i f none within is empty k less = elim (cases_eq k i) [
  | inl same ↦ ap (λ (j : ℕ). (seen h).queue (get_or h.nodes j 0) t) same
      ∙ ap (λ (x : ℕ). (seen h).queue x t) (sym (is ∙ get_or_default_zero h.nodes i f within))
      ∙ is_nil-true ((seen h).queue f t) empty
  | inr other ↦ none k (omega arith)
]

-- a stranger has sent none, and what no node of these has sent waits from none of them
none_of : {L : Type 0} (h : MeshState L) (t i x : ℕ) → NoneFrom i t h → ((k : ℕ) → place x h.nodes ≡ Some k → k < i)
    → (seen h).queue x t ≡ []
none_of h t i x none below = go (place x h.nodes) refl
  where
    go : (p : Option ℕ) → place x h.nodes ≡ p → link_at (place x h.nodes) (place t h.nodes) h.links ≡ []
    go None e = ap (λ (r : Option ℕ). link_at r (place t h.nodes) h.links) e
    go (Some k) e = ap (λ (y : ℕ). (seen h).queue y t) (sym (place-Some x h.nodes k e).1) ∙ none k (below k e)

-- no node has sent one
pub none_towards : {L : Type 0} (h : MeshState L) (t i : ℕ) → NoneFrom i t h → length h.nodes ≤ i → WaitsTowards t None h
none_towards h t i none all x = none_of h t i x none (λ k e. omega (arith, (place-Some x h.nodes k e).0))

-- the node at this place is the least that has
pub least_towards : {L : Type 0} (h : MeshState L) (t i f : ℕ) → IsWhole h → NoneFrom i t h → i < length h.nodes
    → f ≡ get_or h.nodes i f → is_nil ((seen h).queue f t) ≡ false → WaitsTowards t (Some f) h
least_towards h t i f whole none within is waits = (
  waits,
  λ x less. none_of h t i x none (λ k e. stands_before h whole x f k i e here less),
)
  where
    here : place f h.nodes ≡ Some i
    here = ap (λ (x : ℕ). place x h.nodes) (is ∙ get_or_default_zero h.nodes i f within)
        ∙ place-get_or h.nodes i whole.rising within
