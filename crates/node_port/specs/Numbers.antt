-- Numbers of lines.
use Rattle.std.specs.Prelude.{ℕ, ◌≡◌, ◌<◌, ◌^◌, List}
use Rattle.std.specs.Fmt.{decimal}

-- the digits spell a number: they are its decimal digits, with no needless zero, and it is 0 to 18,446,744,073,709,551,615
pub record SpellsNumber (digits : List ℕ) (n : ℕ) : Type 0 where
  pub written : digits ≡ decimal n
  pub high : n < 2 ^ 64

-- they spell none
abbrev pub SpellsNoNumber : List ℕ → Type 0
SpellsNoNumber digits = (n : ℕ) → SpellsNumber digits n → ⊥
