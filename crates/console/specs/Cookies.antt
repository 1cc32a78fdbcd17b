-- What a client must show before it is attached.
use Rattle.std.specs.Prelude.{ℕ, Bool, ◌≤◌, ◌&&◌, nat_lt, List, length}
use Rattle.std.specs.List.{AllPass}
use Rattle.term.specs.declared.limits.TheConstants.{SHORTEST_COOKIE, LONGEST_COOKIE}

-- a byte is printable ASCII, and no space
abbrev pub is_printable : ℕ → Bool
is_printable b = nat_lt 32 b && nat_lt b 127

-- the bytes are a cookie: not too few of them, nor too many, each printable
pub record IsCookie (bytes : List ℕ) : Type 0 where
  pub long : SHORTEST_COOKIE ≤ length bytes
  pub fits : length bytes ≤ LONGEST_COOKIE
  pub printable : AllPass is_printable bytes
