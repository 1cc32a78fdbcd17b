-- Room that was made for entries.
use Rattle.std.proofs.Common.{ℕ, ◌≡◌, ◌<◌, ◌≤◌, ◌^◌, ◌-◌, min, arith}

-- so many entries fit into the room that was made
pub fits_room : (n len cap room : ℕ) → len ≡ n → cap < 2 ^ 63 → len ≤ cap → min (2 ^ 64 - 1) n ≤ room → n ≤ room
fits_room n len cap room same small under made = omega arith

-- so it is of fewer than there is room for
pub less_fits : (n most room : ℕ) → n ≤ most → min (2 ^ 64 - 1) most ≤ room → min (2 ^ 64 - 1) n ≤ room
less_fits n most room few made = omega arith
