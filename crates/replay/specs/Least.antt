-- The least of a list that isn't as the others are.
use Rattle.std.specs.Prelude.{ℕ, Bool, false, ◌<◌, ◌≡◌, Option, Some, None, List, MatchOption, if◌then◌else◌}
use Rattle.std.specs.List.{slice_get}

-- the first n of the list are such
abbrev pub AllSuch : {X : Type 0} → (X → Type 0) → List X → ℕ → Type 0
AllSuch {X} Q xs n = (k : ℕ) (x : X) → k < n → slice_get xs k ≡ Some x → Q x

-- of the first n, the one at k isn't such, and none that isn't is before it
pub record IsLeastOther {X : Type 0} (Q : X → Type 0) (before : X → X → Bool) (xs : List X) (n k : ℕ) : Type 0 where
  pub within : k < n
  pub item : X
  pub here : slice_get xs k ≡ Some item
  pub other : Q item → ⊥
  pub least : (j : ℕ) (y : X) → j < n → slice_get xs j ≡ Some y → (Q y → ⊥) → before y item ≡ false

-- the place of the least of the first n that isn't such, if there is one
abbrev pub LeastOther : {X : Type 0} → (X → Type 0) → (X → X → Bool) → List X → ℕ → Option ℕ → Type 0
LeastOther Q before xs n place = MatchOption place (AllSuch Q xs n) (IsLeastOther Q before xs n)

-- of the one at n and the least so far, the place of that which is before the other
abbrev pub IsChosen : {X : Type 0} → (X → X → Bool) → List X → ℕ → Option ℕ → Option ℕ → Type 0
IsChosen before xs n None place = place ≡ Some n
IsChosen {X} before xs n (Some k) place =
    (x y : X) → slice_get xs n ≡ Some x → slice_get xs k ≡ Some y → place ≡ (if before x y then Some n else Some k)
