-- Which seats a cluster has.
use Rattle.std.specs.Prelude.{ℕ, Bool, true, false, not, nat_lt, ◌||◌, ◌+◌, replicate, set}
use Rattle.std.specs.List.{position_or_len}
use Rattle.term.specs.declared.limits.TheConstants.{SEAT_NUMBERS, MOST_SEATS}
use Rattle.node_seats.specs.declared.place.Place.{Place}
use Rattle.node_threads.specs.declared.seating.Seating.{Seating}

abbrev pub no_seats : Seating
no_seats = record { taken = replicate MOST_SEATS false; made = 0 }

-- the first slot that no seat has, or how many slots there are for seats
abbrev pub free_slot : Seating → ℕ
free_slot s = position_or_len not s.taken

-- no slot is free, or no number is left
abbrev pub are_spent : Seating → Bool
are_spent s = not (nat_lt (free_slot s) MOST_SEATS) || not (nat_lt s.made SEAT_NUMBERS)

-- where the next seat is
abbrev pub next_place : Seating → Place
next_place s = record { seat = s.made; slot = free_slot s }

-- it is made
abbrev pub with_seat : Seating → Seating
with_seat s = record { taken = set s.taken (free_slot s) true; made = s.made + 1 }

-- the slot is free again
abbrev pub without_slot : ℕ → Seating → Seating
without_slot slot s = record s { taken = set s.taken slot false }
