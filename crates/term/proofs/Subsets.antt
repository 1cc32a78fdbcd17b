-- The set of the nodes that pass a test, of two lists, and of the first of a list.
use Rattle.std.proofs.Common.{ℕ, Bool, true, false, ◌==◌, ◌≡◌, ◌<◌, ◌+◌, List, [], ◌∷◌, ◌++◌, length, get_or, take, refl, ap, sym, ◌∙◌}
use Rattle.std.specs.Prelude.{◌&&◌, ◌||◌, if◌then◌else◌}
use Rattle.std.specs.List.{filter}
use Rattle.std.proofs.Math.Bool.{and-false, or-false}
use Rattle.std.proofs.lemmas.Bool.{eq-eqb, ne_eqb}
use Rattle.std.proofs.lemmas.Grind.{take_at_read}
use Rattle.std.proofs.lemmas.List.Folds.{list_any-append}
use Rattle.registry_model.proofs.Updates.{by_test}
use Rattle.term.specs.NodeSets.{set_of}

-- a node that is kept where it passes
set_of-kept : (p : ℕ → Bool) (c x : ℕ) (ys : List ℕ) (t : Bool) → set_of ys c ≡ (t && p c)
    → set_of (if p x then x ∷ ys else ys) c ≡ (((x == c) || t) && p c)
set_of-kept p c x ys t e =
    by_test c (λ y b. set_of (if p y then y ∷ ys else ys) c ≡ ((b || t) && p c)) (here (p c) refl)
    (λ y ne. there y ne (p y)) x
  where
    here : (b : Bool) → p c ≡ b → set_of (if b then c ∷ ys else ys) c ≡ b
    here true q = rw (eq-eqb c c refl) refl
    here false q = e ∙ ap (λ (b : Bool). t && b) q ∙ and-false t

    there : (y : ℕ) → (y ≡ c → ⊥) → (b : Bool) → set_of (if b then y ∷ ys else ys) c ≡ (t && p c)
    there y ne true = rw (ne_eqb y c ne) e
    there y ne false = e

-- the set of those that pass a test
pub set_of-filter : (p : ℕ → Bool) (xs : List ℕ) (c : ℕ) → set_of (filter p xs) c ≡ (set_of xs c && p c)
set_of-filter p [] c = refl
set_of-filter p (x ∷ xs) c = set_of-kept p c x (filter p xs) (set_of xs c) (set_of-filter p xs c)

-- the set of two lists
pub set_of-append : (xs ys : List ℕ) (c : ℕ) → set_of (xs ++ ys) c ≡ (set_of xs c || set_of ys c)
set_of-append xs ys c = list_any-append (λ m. m == c) xs ys

-- the set of the first nodes, with the one behind them
pub set_of-take : (xs : List ℕ) (i : ℕ) (x : ℕ) → i < length xs → x ≡ get_or xs i x → (c : ℕ)
    → set_of (take (i + 1) xs) c ≡ (set_of (take i xs) c || (x == c))
set_of-take xs i x l e c =
    ap (λ (ys : List ℕ). set_of ys c) (take_at_read xs i x l).1
    ∙ ap (λ (y : ℕ). set_of (take i xs ++ y ∷ []) c) (sym e)
    ∙ set_of-append (take i xs) (x ∷ []) c ∙ ap (λ (b : Bool). set_of (take i xs) c || b) (or-false (x == c))
