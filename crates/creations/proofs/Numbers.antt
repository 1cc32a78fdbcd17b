-- A name and a creation are one number.
use mathlib.Core.Logic.{inl, inr}
use Rattle.std.proofs.Common.{ℕ, Bool, ◌==◌, ◌≡◌, ◌<◌, ◌≤◌, ◌+◌, ◌-◌, ◌*◌, ◌/◌, ◌%◌, sym, ap, ◌∙◌, arith}
use Rattle.std.specs.Prelude.{◌⊎◌, ◌&&◌, nat_lt}
use Rattle.std.proofs.Math.Nat.{mul-le-mul_right, lt-div-mul-add, mod-lt}
use Rattle.std.proofs.lemmas.Nat.{div-mul-add, mod-mul-add, div-add-mod', div_below}
use Rattle.std.proofs.lemmas.Bool.{cases_lt, cases_order, lt-ltb, le-ltb}
use Rattle.creations.specs.NodeNames.{NamedOpening, is_name, span, node_of, name_of, creation_of, HasNumber, AreNumbers, NumbersAreExact}

module _ (o : NamedOpening) where
  pub span_some : 0 < span o
  span_some = omega arith

  -- a creation is one more than what is left of its number
  rest_below : (c : ℕ) → HasNumber o c → c - 1 < span o
  rest_below c i = let a : 1 ≤ c = i.first in let b : c ≤ span o = i.last in omega arith

  pub name-node : (x c : ℕ) → HasNumber o c → name_of o (node_of o x c) ≡ x
  name-node x c i = div-mul-add x (span o) (c - 1) (rest_below c i)

  pub creation-node : (x c : ℕ) → HasNumber o c → creation_of o (node_of o x c) ≡ c
  creation-node x c i =
      let e : (x * span o + (c - 1)) % span o ≡ c - 1 = mod-mul-add x (span o) (c - 1) (rest_below c i) in
      let a : 1 ≤ c = i.first in
      omega (arith, e)

  pub node-number : (n : ℕ) → node_of o (name_of o n) (creation_of o n) ≡ n
  node-number n =
      let e : n / span o * span o + n % span o ≡ n = div-add-mod' n (span o) in
      let f : n % span o + 1 - 1 ≡ n % span o = omega arith in
      ap (λ (k : ℕ). n / span o * span o + k) f ∙ e

  pub is_creation : (n : ℕ) → HasNumber o (creation_of o n)
  is_creation n = let l : n % span o < span o = mod-lt n span_some in record { first = omega arith; last = omega arith }

  -- a lesser name has the lesser numbers
  pub lesser_name : (x y c d : ℕ) → HasNumber o c → x < y → node_of o x c < node_of o y d
  lesser_name x y c d i l =
      let m : (x + 1) * span o ≤ y * span o = mul-le-mul_right (span o) (omega arith) in
      let r : c - 1 < span o = rest_below c i in
      omega arith

  rises : (x y c d : ℕ) → HasNumber o c → HasNumber o d → node_of o x c < node_of o y d → (x < y) ⊎ ((x ≡ y) × (c < d))
  rises x y c d i j l = elim (cases_order x y) [
    | inl same ↦
        let e : x * span o ≡ y * span o = ap (λ (z : ℕ). z * span o) same in
        let a : 1 ≤ c = i.first in let b : 1 ≤ d = j.first in
        let k : c < d = omega arith in inr (same, k)
    | inr (inl less) ↦ inl less
    | inr (inr more) ↦ let m : node_of o y d < node_of o x c = lesser_name y x d c j more in absurd (omega arith)
  ]

  risen : (x y c d : ℕ) → HasNumber o c → HasNumber o d → (x < y) ⊎ ((x ≡ y) × (c < d)) → node_of o x c < node_of o y d
  risen x y c d i j (inl less) = lesser_name x y c d i less
  risen x y c d i j (inr both) =
      let e : x * span o ≡ y * span o = ap (λ (z : ℕ). z * span o) both.0 in
      let a : 1 ≤ c = i.first in let b : c < d = both.1 in
      omega arith

  -- the numbers below a bound are those of the names below it
  below : (n : ℕ) → nat_lt n (o.bound * span o) ≡ nat_lt (name_of o n) o.bound
  below n = elim (cases_lt n (o.bound * span o)) [
    | inl less ↦ lt-ltb n (o.bound * span o) less ∙ sym (lt-ltb (name_of o n) o.bound (div_below n (span o) o.bound span_some less))
    | inr more ↦ le-ltb n (o.bound * span o) more ∙ sym (le-ltb (name_of o n) o.bound (elim (cases_lt (name_of o n) o.bound) [
      | inl less ↦
          let m : (n / span o + 1) * span o ≤ o.bound * span o = mul-le-mul_right (span o) (omega arith) in
          let r : n < n / span o * span o + span o = lt-div-mul-add span_some in
          absurd (omega arith)
      | inr high ↦ high
    ]))
  ]

  pub inside-name : (n : ℕ) → (nat_lt n (o.bound * span o) && o.names (name_of o n)) ≡ is_name o (name_of o n)
  inside-name n = ap (λ (b : Bool). b && o.names (name_of o n)) (below n)

  numbers : AreNumbers o
  numbers = record {
    name = name-node;
    creation = creation-node;
    node = node-number;
    some = is_creation;
    rise = λ x y c d i j. (rises x y c d i j, risen x y c d i j);
    inside = inside-name;
    joined = λ n. ap (λ (b : Bool). b && (o.cluster (name_of o n) && (creation_of o n == 1))) (inside-name n);
  }

pub numbers_are_exact : NumbersAreExact
numbers_are_exact o = numbers o
