-- Sums over the numbers below a bound.
use Rattle.std.proofs.Common.{ℕ, zero, suc, Bool, true, false, ◌==◌, ◌≡◌, ◌<◌, ◌≤◌, ◌+◌, ◌*◌, [], ◌∷◌, ◌++◌, refl, sym, ap, ◌∙◌, inl, inr, arith}
use Rattle.std.specs.Prelude.{length, if◌then◌else◌}
use Rattle.std.proofs.lemmas.Bool.{cases_eq, eq-eqb, ne_eqb}
use Rattle.std.proofs.lemmas.List.{length-append}
use Rattle.registry_model.specs.Process.{Nodes, nodes_of}
use Rattle.no_dead_end.specs.Weights.{sum_below, when}

pub sum-same : (b : ℕ) (f g : ℕ → ℕ) → ((c : ℕ) → c < b → f c ≡ g c) → sum_below b f ≡ sum_below b g
sum-same zero f g e = refl
sum-same (suc b) f g e =
    let below : sum_below b f ≡ sum_below b g = sum-same b f g (λ c l. e c (omega (arith, l))) in
    let here : f b ≡ g b = e b (omega arith) in omega (arith, below, here)

pub sum-le : (b : ℕ) (f g : ℕ → ℕ) → ((c : ℕ) → c < b → f c ≤ g c) → sum_below b f ≤ sum_below b g
sum-le zero f g e = omega arith
sum-le (suc b) f g e =
    let below : sum_below b f ≤ sum_below b g = sum-le b f g (λ c l. e c (omega (arith, l))) in
    let here : f b ≤ g b = e b (omega arith) in omega (arith, below, here)

pub sum-add : (b : ℕ) (f g : ℕ → ℕ) → sum_below b (λ c. f c + g c) ≡ sum_below b f + sum_below b g
sum-add zero f g = refl
sum-add (suc b) f g = let below : sum_below b (λ c. f c + g c) ≡ sum_below b f + sum_below b g = sum-add b f g in
    omega (arith, below)

pub sum-times : (b : ℕ) (f : ℕ → ℕ) (k : ℕ) → sum_below b (λ c. f c * k) ≡ sum_below b f * k
sum-times zero f k = omega arith
sum-times (suc b) f k = let below : sum_below b (λ c. f c * k) ≡ sum_below b f * k = sum-times b f k in omega (arith, below)

pub sum-zero : (b : ℕ) → sum_below b (λ c. 0) ≡ 0
sum-zero zero = refl
sum-zero (suc b) = let below : sum_below b (λ c. 0) ≡ 0 = sum-zero b in omega (arith, below)

-- where f and g are the same but at a
pub sum-but : (b : ℕ) (f g : ℕ → ℕ) (a : ℕ) → a < b → ((c : ℕ) → (c ≡ a → ⊥) → f c ≡ g c)
    → sum_below b f + g a ≡ sum_below b g + f a
sum-but zero f g a l e = absurd (omega (arith, l))
sum-but (suc b) f g a l e = elim (cases_eq a b) [
  | inl i ↦ last i
  | inr ne ↦ let below : sum_below b f + g a ≡ sum_below b g + f a = sum-but b f g a (omega (arith, l, ne)) e in
      let here : f b ≡ g b = e b (λ k. ne (sym k)) in omega (arith, below, here)
]
  where
    last : a ≡ b → sum_below (suc b) f + g a ≡ sum_below (suc b) g + f a
    last i = let below : sum_below b f ≡ sum_below b g = sum-same b f g (λ c k. e c (λ z. absurd (omega (arith, k, z, i)))) in
        let x : f a ≡ f b = ap f i in let y : g a ≡ g b = ap g i in omega (arith, below, x, y)

-- one term of a sum
pub sum-term : (b : ℕ) (f : ℕ → ℕ) (a : ℕ) → a < b → f a ≤ sum_below b f
sum-term zero f a l = absurd (omega (arith, l))
sum-term (suc b) f a l = elim (cases_eq a b) [
  | inl i ↦ let x : f a ≡ f b = ap f i in omega (arith, x)
  | inr ne ↦ let below : f a ≤ sum_below b f = sum-term b f a (omega (arith, l, ne)) in omega (arith, below)
]

-- the same for each of a set: as often as there are nodes in it
pub sum-each : (b : ℕ) (s : Nodes) (k : ℕ) → sum_below b (λ c. when (s c) k) ≡ length (nodes_of b s) * k
sum-each zero s k = omega arith
sum-each (suc b) s k = go (s b) (sum-each b s k)
  where
    go : (t : Bool) → sum_below b (λ c. when (s c) k) ≡ length (nodes_of b s) * k
        → sum_below b (λ c. when (s c) k) + when t k ≡ length (nodes_of b s ++ (if t then b ∷ [] else [])) * k
    go true e = let n : length (nodes_of b s ++ b ∷ []) ≡ length (nodes_of b s) + 1 = length-append (nodes_of b s) (b ∷ []) in
        ap (λ (x : ℕ). x + k) e ∙ omega (arith) ∙ ap (λ (x : ℕ). x * k) (sym n)
    go false e = let n : length (nodes_of b s ++ []) ≡ length (nodes_of b s) + 0 = length-append (nodes_of b s) [] in
        ap (λ (x : ℕ). x + 0) e ∙ omega arith ∙ ap (λ (x : ℕ). x * k) (sym n)

-- a number at one place
pub sum-one : (b a k : ℕ) → a < b → sum_below b (λ c. when (c == a) k) ≡ k
sum-one b a k l =
    let e : sum_below b (λ c. when (c == a) k) + 0 ≡ sum_below b (λ c. 0) + when (a == a) k =
    sum-but b (λ c. when (c == a) k) (λ c. 0) a l (λ c ne. rw (ne_eqb c a ne) refl) in
    let z : sum_below b (λ c. 0) ≡ 0 = sum-zero b in
    let h : when (a == a) k ≡ k = rw (eq-eqb a a refl) refl in omega (arith, e, z, h)

-- and at most that number
pub sum-most : (b a k : ℕ) → sum_below b (λ c. when (c == a) k) ≤ k
sum-most b a k = go b
  where
    rest : (m : ℕ) → m ≤ a → sum_below m (λ c. when (c == a) k) ≡ 0
    rest zero l = refl
    rest (suc m) l = let z : sum_below m (λ c. when (c == a) k) ≡ 0 = rest m (omega (arith, l)) in
        let h : when (m == a) k ≡ 0 = rw (ne_eqb m a (λ e. absurd (omega (arith, l, e)))) refl in omega (arith, z, h)

    go : (m : ℕ) → sum_below m (λ c. when (c == a) k) ≤ k
    go zero = omega arith
    go (suc m) = elim (cases_eq m a) [
      | inl e ↦ let z : sum_below m (λ c. when (c == a) k) ≡ 0 = rest m (omega (arith, e)) in
          let h : when (m == a) k ≡ k = rw (eq-eqb m a e) refl in omega (arith, z, h)
      | inr ne ↦ let z : sum_below m (λ c. when (c == a) k) ≤ k = go m in
          let h : when (m == a) k ≡ 0 = rw (ne_eqb m a ne) refl in omega (arith, z, h)
    ]

-- a number that counts somewhere counts no more than it is
pub when-le : (t : Bool) (k : ℕ) → when t k ≤ k
when-le true k = omega arith
when-le false k = omega arith

pub when-swap : (x y k : ℕ) → when (x == y) k ≡ when (y == x) k
when-swap x y k = elim (cases_eq x y) [
  | inl e ↦ rw (eq-eqb x y e, eq-eqb y x (sym e)) refl
  | inr ne ↦ rw (ne_eqb x y ne, ne_eqb y x (λ i. ne (sym i))) refl
]

-- sums over two bounds can be taken in either order
sum-swap : (b d : ℕ) (g : ℕ → ℕ → ℕ) → sum_below b (λ c. sum_below d (λ x. g c x)) ≡ sum_below d (λ x. sum_below b (λ c. g c x))
sum-swap zero d g = sym (sum-zero d)
sum-swap (suc b) d g =
    let more : sum_below b (λ c. sum_below d (λ x. g c x)) ≡ sum_below d (λ x. sum_below b (λ c. g c x)) = sum-swap b d g in
    let split : sum_below d (λ x. sum_below b (λ c. g c x) + g b x) ≡ sum_below d (λ x. sum_below b (λ c. g c x))
    + sum_below d (λ x. g b x) =
    sum-add d (λ x. sum_below b (λ c. g c x)) (λ x. g b x) in omega (arith, more, split)

-- a set of which each has a name in another, and no two the same one, is no larger
pub no_more : (b d : ℕ) (s t : Nodes) (name : ℕ → ℕ) (of : ℕ → ℕ)
    → ((c : ℕ) → s c ≡ true → (name c < d) × (t (name c) ≡ true) × (c ≡ of (name c)))
    → length (nodes_of b s) ≤ length (nodes_of d t)
no_more b d s t name of h =
    let each : sum_below b (λ c. when (s c) 1) ≤ sum_below b (λ c. sum_below d (λ x. when (x == name c) (when (s c) 1))) =
    sum-le b (λ c. when (s c) 1) (λ c. sum_below d (λ x. when (x == name c) (when (s c) 1))) (λ c l. spread c (s c) refl) in
    let swap : sum_below b (λ c. sum_below d (λ x. when (x == name c) (when (s c) 1)))
    ≡ sum_below d (λ x. sum_below b (λ c. when (x == name c) (when (s c) 1))) =
    sum-swap b d (λ c x. when (x == name c) (when (s c) 1)) in
    let one : sum_below d (λ x. sum_below b (λ c. when (x == name c) (when (s c) 1))) ≤ sum_below d (λ x. when (t x) 1) =
    sum-le d (λ x. sum_below b (λ c. when (x == name c) (when (s c) 1))) (λ x. when (t x) 1) (λ x l. once x) in
    let a : sum_below b (λ c. when (s c) 1) ≡ length (nodes_of b s) * 1 = sum-each b s 1 in
    let e : sum_below d (λ x. when (t x) 1) ≡ length (nodes_of d t) * 1 = sum-each d t 1 in
    omega (arith, each, swap, one, a, e)
  where
    spread : (c : ℕ) (k : Bool) → s c ≡ k → when (s c) 1 ≤ sum_below d (λ x. when (x == name c) (when (s c) 1))
    spread c true e = let f : sum_below d (λ x. when (x == name c) (when (s c) 1)) ≡ when (s c) 1 =
        sum-one d (name c) (when (s c) 1) (h c e).0 in
        omega (arith, f)
    spread c false e = let f : when (s c) 1 ≡ 0 = ap (λ (k : Bool). when k 1) e in omega (arith, f)

    at_one : (x c : ℕ) (k : Bool) → s c ≡ k → when (x == name c) (when (s c) 1) ≤ when (c == of x) (when (t x) 1)
    at_one x c false e = let f : when (s c) 1 ≡ 0 = ap (λ (k : Bool). when k 1) e in
        let g : when (x == name c) (when (s c) 1) ≡ when (x == name c) 0 = ap (when (x == name c)) f in
        let z : when (x == name c) 0 ≡ 0 = none (x == name c) in omega (arith, g, z)
      where
        none : (k : Bool) → when k 0 ≡ 0
        none true = refl
        none false = refl
    at_one x c true e = elim (cases_eq x (name c)) [
      | inl same ↦ here same
      | inr ne ↦ rw (ne_eqb x (name c) ne) (omega arith)
    ]
      where
        here : x ≡ name c → when (x == name c) (when (s c) 1) ≤ when (c == of x) (when (t x) 1)
        here same = rw (eq-eqb x (name c) same, eq-eqb c (of x) ((h c e).2 ∙ ap of (sym same)), ap t same ∙ (h c e).1, e)
            (omega arith)

    once : (x : ℕ) → sum_below b (λ c. when (x == name c) (when (s c) 1)) ≤ when (t x) 1
    once x =
        let le : sum_below b (λ c. when (x == name c) (when (s c) 1)) ≤ sum_below b (λ c. when (c == of x) (when (t x) 1)) =
        sum-le b (λ c. when (x == name c) (when (s c) 1)) (λ c. when (c == of x) (when (t x) 1)) (λ c l. at_one x c (s c) refl) in
        let m : sum_below b (λ c. when (c == of x) (when (t x) 1)) ≤ when (t x) 1 = sum-most b (of x) (when (t x) 1) in
        omega (arith, le, m)
