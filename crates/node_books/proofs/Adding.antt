-- The exchange that writes a moment down keeps the rule of the book.
use Rattle.std.proofs.Common.{◌≡◌, ℕ, ◌+◌, ◌==◌, Bool, true, false, List, [], ◌∷◌, ◌++◌, length, refl, ap, sym, subst, arith, inl, length-append, None}
use Rattle.std.specs.Prelude.{◌<◌}
use Rattle.std.proofs.lemmas.List.{append-nil}
use Rattle.std.proofs.lemmas.Bool.Decides.{nat_tests}
use mathlib.Core.List.{IsPrefix}
use prog.Atomic.{either}
use Rattle.logbook.specs.Pages.{Cell, cell, keeps, no_nib, step, Moves, Goes}
use Rattle.node_loop.specs.Held.{Looping}
use Rattle.node_books.specs.declared.moment.Moment.{Moment}
use Rattle.node_books.specs.Moments.{moment, AreMoments, IsOpen, Follows}
use Rattle.node_books.specs.Books.{IsKept, IsAdded}
use Rattle.node_books.proofs.Beginnings.{prefix_whole}
use Rattle.node_books.proofs.Rising.{moments_snoc}

abbrev shown : List Moment → List Moment
shown log = []

abbrev moved : List Moment → List Moment → ℕ → Type 0
moved xs ys n = Unit {0}

-- where a moment of this loop is to be written behind these, which are so many
module _ (ended : Bool) (v : List Moment) (a : Looping) (old : ℕ) (len : length v ≡ old) (on : IsOpen v) (may : Follows v a) where
  abbrev next : ℕ → ℕ
  next n = either (n == old) (old + 1) n

  abbrev Written : List Cell → List Moment → Type 0
  Written cs log = Goes IsKept shown moved 0 (v, (no_nib, None)) next (IsAdded (step 0 old (old + 1) (moment ended a)) (v, (no_nib, None))) cs log

  goes : (log : List Moment) → AreMoments log → IsPrefix v log → (b : Bool) → (length log == old) ≡ b
      → Written ((length log, true) ∷ (0, true) ∷ []) log
  goes log are pre true is =
      let e = moment ended a in
      let here : length log ≡ old = grind (arith, nat_tests) in
      let same : v ≡ log = prefix_whole v log pre (omega arith) in
      let are' : AreMoments (log ++ e ∷ []) = moments_snoc ended log a are (subst IsOpen same on) (subst (λ (w : List Moment). Follows w a) same may) in
      let n : next (length log) ≡ length (log ++ e ∷ []) = rw is (omega (arith, length-append log (e ∷ []))) in (
        keeps,
        e ∷ [],
        None,
        tt,
        record { words = ap (λ (k : ℕ). (k, true) ∷ (0, true) ∷ []) n; moments = are' },
        inl (refl, refl),
        rw is (ap (λ w. w ++ e ∷ []) (sym same)),
      )
  goes log are pre false is =
      let all : log ++ [] ≡ log = append-nil log in
      let n : next (length log) ≡ length (log ++ []) = rw is (ap length (sym all)) in (
        keeps,
        [],
        None,
        tt,
        record { words = ap (λ (k : ℕ). (k, true) ∷ (0, true) ∷ []) n; moments = subst AreMoments (sym all) are },
        inl (refl, refl),
        rw is (ap length all),
      )

  -- whatever the book is, the exchange adds the moment to all that was seen, or finds that the book is longer
  pub writes : Moves IsKept shown moved 0 (v, (no_nib, None)) next (IsAdded (step 0 old (old + 1) (moment ended a)) (v, (no_nib, None)))
  writes cs log kept pre away =
      let P : List Cell → Type 0 = λ c. (0 < length c) × ((cell c 0).1 ≡ true) × Written c log in
      subst P (sym kept.words) (omega arith, refl, goes log kept.moments pre (length log == old) refl)
