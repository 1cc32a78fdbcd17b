-- The next serial is the least above all given ones that isn't dead.
use mathlib.Core.Logic.{◌⊎◌}
use Rattle.std.proofs.Common.{ℕ, zero, suc, Bool, true, false, ◌==◌, ◌≡◌, ◌<◌, ◌≤◌, ◌+◌, ◌-◌, List, [], ◌∷◌, length, filter, refl, ap, ◌∙◌, inl, inr, arith}
use Rattle.std.specs.Prelude.{if◌then◌else◌, not, ◌||◌}
use Rattle.std.specs.List.{list_any}
use Rattle.std.proofs.lemmas.Bool.{cases_eq, eqb-true, ne_eqb}
use Rattle.std.proofs.lemmas.Map.Views.{any-filter_same}
use Rattle.protocol_model.specs.Watch.{Watch, is_dead, first_live, next_serial}

-- the elements that aren't k are no more than all
at_most : (k : ℕ) (ds : List ℕ) → length (filter (λ d. not (d == k)) ds) ≤ length ds
at_most k [] = omega arith
at_most k (d ∷ ds) = go (d == k) (at_most k ds)
  where
    go : (b : Bool) → length (filter (λ d. not (d == k)) ds) ≤ length ds →
        length (if not b then d ∷ filter (λ d. not (d == k)) ds else filter (λ d. not (d == k)) ds) ≤ suc (length ds)
    go true h = omega arith
    go false h = omega arith

-- and less, where k is one of them
fewer : (k : ℕ) (ds : List ℕ) → list_any (λ d. d == k) ds ≡ true → length (filter (λ d. not (d == k)) ds) < length ds
fewer k [] h = absurd cc
fewer k (d ∷ ds) h = go (d == k) h (at_most k ds) (fewer k ds)
  where
    go : (b : Bool) → (b || list_any (λ d. d == k) ds) ≡ true → length (filter (λ d. not (d == k)) ds) ≤ length ds →
        (list_any (λ d. d == k) ds ≡ true → length (filter (λ d. not (d == k)) ds) < length ds) →
        length (if not b then d ∷ filter (λ d. not (d == k)) ds else filter (λ d. not (d == k)) ds) < suc (length ds)
    go true h l f = omega arith
    go false h l f = omega (arith, f h)

-- a list that has n numbers from k on has as many elements
pub as_many : (n k : ℕ) (ds : List ℕ) → ((j : ℕ) → k ≤ j → j < k + n → list_any (λ d. d == j) ds ≡ true) →
    n ≤ length ds
as_many zero k ds h = omega arith
as_many (suc n) k ds h =
    let others : n ≤ length (filter (λ d. not (d == k)) ds) =
    as_many n (k + 1) (filter (λ d. not (d == k)) ds)
    (λ j l u. kept j (omega arith) ∙ h j (omega arith) (omega arith)) in
    omega (arith, others, fewer k ds (h k (omega arith) (omega arith)))
  where
    kept : (j : ℕ) → k < j → list_any (λ d. d == j) (filter (λ d. not (d == k)) ds) ≡ list_any (λ d. d == j) ds
    kept j l =
        any-filter_same (λ d. d == j) (λ d. not (d == k)) true
        (λ d e. ap not (ne_eqb d k (λ i. absurd (omega (arith, eqb-true d j e))))) ds

module _ (w : Watch) where
  -- all serials from k up to s are dead
  abbrev pub AreDeadTo : ℕ → ℕ → Type 0
  AreDeadTo k s = (j : ℕ) → k ≤ j → j < s → is_dead w j ≡ true

  -- the first that lives is found, where it isn't too far off
  pub first_live-is : (most k s : ℕ) → k ≤ s → s ≤ k + most → AreDeadTo k s → is_dead w s ≡ false →
      first_live most w k ≡ s
  first_live-is zero k s l u dead live = omega arith
  first_live-is (suc most) k s l u dead live = elim (cases_eq k s) [
    | inl i ↦ rw (ap (is_dead w) i ∙ live) i
    | inr ne ↦ rw (dead k (omega arith) (omega arith))
        (first_live-is most (k + 1) s (omega arith) (omega arith) (λ j m v. dead j (omega arith) v) live)
  ]

  -- no dead one is found before
  pub first_live-above : (most k s : ℕ) → k ≤ s → s ≤ k + most → AreDeadTo k s → s ≤ first_live most w k
  first_live-above zero k s l u dead = omega arith
  first_live-above (suc most) k s l u dead = go (is_dead w k) refl (first_live-above most (k + 1))
    where
      go : (b : Bool) → is_dead w k ≡ b →
          ((m : ℕ) → k + 1 ≤ m → m ≤ k + 1 + most → AreDeadTo (k + 1) m → m ≤ first_live most w (k + 1)) →
          s ≤ (if b then first_live most w (k + 1) else k)
      go true e h = elim (cases_eq k s) [
        | inl i ↦ omega (arith, h (k + 1) (omega arith) (omega arith) (λ j m v. absurd (omega arith)))
        | inr ne ↦ h s (omega arith) (omega arith) (λ j m v. dead j (omega arith) v)
      ]
      go false e h = elim (cases_eq k s) [
        | inl i ↦ omega arith
        | inr ne ↦ absurd (let d : is_dead w k ≡ true = dead k (omega arith) (omega arith) in cc)
      ]

  -- where the serials above the given ones are dead up to s, s is at most as far off as there are dead ones
  near : (s : ℕ) → w.last_serial + 1 ≤ s → AreDeadTo (w.last_serial + 1) s → s ≤ w.last_serial + 1 + length w.dead
  near s l dead =
      let far : s - (w.last_serial + 1) ≤ length w.dead =
      as_many (s - (w.last_serial + 1)) (w.last_serial + 1) w.dead (λ j m v. dead j m (omega arith)) in
      omega (arith, far)

  pub next_serial-is : (s : ℕ) → w.last_serial + 1 ≤ s → AreDeadTo (w.last_serial + 1) s → is_dead w s ≡ false →
      next_serial w ≡ s
  next_serial-is s l dead live = first_live-is (length w.dead) (w.last_serial + 1) s l (near s l dead) dead live

  pub next_serial-above : (s : ℕ) → w.last_serial + 1 ≤ s → AreDeadTo (w.last_serial + 1) s → s ≤ next_serial w
  next_serial-above s l dead = first_live-above (length w.dead) (w.last_serial + 1) s l (near s l dead) dead

  -- the first that lives is none before the one that is looked at first
  first_live_least : (most k : ℕ) → k ≤ first_live most w k
  first_live_least zero k = omega arith
  first_live_least (suc most) k = go (is_dead w k) (first_live_least most (k + 1))
    where
      go : (b : Bool) → k + 1 ≤ first_live most w (k + 1) → k ≤ (if b then first_live most w (k + 1) else k)
      go true l = omega (arith, l)
      go false l = omega arith

  -- all that it passes are dead
  first_live-passed : (most k : ℕ) → AreDeadTo k (first_live most w k)
  first_live-passed zero k j = λ l u. absurd (omega arith)
  first_live-passed (suc most) k j = go (is_dead w k) refl (first_live-passed most (k + 1) j)
    where
      go : (b : Bool) → is_dead w k ≡ b → (k + 1 ≤ j → j < first_live most w (k + 1) → is_dead w j ≡ true) →
          k ≤ j → j < (if b then first_live most w (k + 1) else k) → is_dead w j ≡ true
      go true e more l u = elim (cases_eq j k) [
        | inl i ↦ ap (is_dead w) i ∙ e
        | inr ne ↦ more (omega arith) u
      ]
      go false e more l u = absurd (omega arith)

  -- and it lives, or it is as far off as was looked
  first_live-lives : (most k : ℕ) → (is_dead w (first_live most w k) ≡ false) ⊎ (first_live most w k ≡ k + most)
  first_live-lives zero k = inr (omega arith)
  first_live-lives (suc most) k = go (is_dead w k) refl (first_live-lives most (k + 1))
    where
      go : (b : Bool) → is_dead w k ≡ b →
          (is_dead w (first_live most w (k + 1)) ≡ false) ⊎ (first_live most w (k + 1) ≡ k + 1 + most) →
          (is_dead w (if b then first_live most w (k + 1) else k) ≡ false)
          ⊎ ((if b then first_live most w (k + 1) else k) ≡ k + suc most)
      go true e (inl lives) = inl lives
      go true e (inr far) = inr (omega arith)
      go false e more = inl e

  -- the next serial is above all that were given
  pub next_serial-new : w.last_serial + 1 ≤ next_serial w
  next_serial-new = first_live_least (length w.dead) (w.last_serial + 1)

  -- it is that of no dead process
  pub next_serial-lives : is_dead w (next_serial w) ≡ false
  next_serial-lives = elim (first_live-lives (length w.dead) (w.last_serial + 1)) [
    | inl lives ↦ lives
    | inr far ↦ go (is_dead w (next_serial w)) refl far
  ]
    where
      go : (b : Bool) → is_dead w (next_serial w) ≡ b → next_serial w ≡ w.last_serial + 1 + length w.dead → b ≡ false
      go false e far = refl
      go true e far = absurd (
          let many : suc (length w.dead) ≤ length w.dead =
          as_many (suc (length w.dead)) (w.last_serial + 1) w.dead (λ j l u. elim (cases_eq j (next_serial w)) [
            | inl i ↦ ap (is_dead w) i ∙ e
            | inr ne ↦ first_live-passed (length w.dead) (w.last_serial + 1) j l (omega arith)
          ]) in
          omega (arith, many))

  -- but all between it and those that were given are
  pub next_serial-passed : AreDeadTo (w.last_serial + 1) (next_serial w)
  next_serial-passed = first_live-passed (length w.dead) (w.last_serial + 1)
