-- The words of a line.
use Rattle.std.specs.Prelude.{ℕ, Bool, ◌==◌, nat_lt, List, length, filter}
use Rattle.std.specs.List.{slice_split}

-- a byte is a space
abbrev pub is_space : ℕ → Bool
is_space b = b == 32

-- a word has a byte
abbrev pub is_word : List ℕ → Bool
is_word part = nat_lt 0 (length part)

-- the words of a line, which are parted by one or more spaces
abbrev pub words : List ℕ → List (List ℕ)
words line = filter is_word (slice_split is_space line)
