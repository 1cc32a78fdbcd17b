-- Spans of serials, each filed under the last of them.
use Rattle.std.specs.Prelude.{ℕ, ◌≡◌, ◌==◌, ◌+◌, ◌<◌, ◌≤◌, ◌⊎◌, true, not, List, Some}
use Rattle.std.specs.BTreeMap.{is_at}
use Rattle.std.specs.List.{filter, list_any}
use Rattle.std.specs.Map.{lookup}
use Rattle.std.specs.Ordering.{nat_cmp}

-- where each span ends, and where it begins
abbrev pub Spans : Type 0
Spans = List (ℕ × ℕ)

-- one span is from the first serial to the last
abbrev pub IsSpan : Spans → ℕ → ℕ → Type 0
IsSpan spans first last = lookup (is_at (nat_cmp last)) spans ≡ Some first

-- a span has this serial
pub record Covers (spans : Spans) (x : ℕ) : Type 0 where
  pub first : ℕ
  pub last : ℕ
  pub span : IsSpan spans first last
  pub low : first ≤ x
  pub high : x ≤ last

-- no span is empty, and between any two is a serial that neither has
pub record AreApart (spans : Spans) : Type 0 where
  pub ordered : (first last : ℕ) → IsSpan spans first last → first ≤ last
  pub apart : (f l g m : ℕ) → IsSpan spans f l → IsSpan spans g m → l < m → l + 1 < g

-- this is the first span that ends with s or behind it
pub record IsFirstFrom (spans : Spans) (s first last : ℕ) : Type 0 where
  pub span : IsSpan spans first last
  pub from : s ≤ last
  pub least : (f l : ℕ) → IsSpan spans f l → s ≤ l → last ≤ l

-- no span ends with s or behind it
abbrev pub IsNoneFrom : Spans → ℕ → Type 0
IsNoneFrom spans s = (f l : ℕ) → IsSpan spans f l → s ≤ l → ⊥

-- the later spans have s, what the earlier ones have, and nothing else
pub record Gains (s : ℕ) (earlier later : Spans) : Type 0 where
  pub gained : Covers later s
  pub kept : (x : ℕ) → Covers earlier x → Covers later x
  pub only : (x : ℕ) → Covers later x → Covers earlier x ⊎ (x ≡ s)

-- the spans have these serials and no others
pub record AreSpanned (spans : Spans) (dead : List ℕ) : Type 0 where
  pub died : (x : ℕ) → Covers spans x → list_any (λ d. d == x) dead ≡ true
  pub covered : (x : ℕ) → list_any (λ d. d == x) dead ≡ true → Covers spans x

-- the dead behind whom the next serial isn't dead
abbrev pub ends : List ℕ → List ℕ
ends dead = filter (λ s. not (list_any (λ d. d == s + 1) dead)) dead
