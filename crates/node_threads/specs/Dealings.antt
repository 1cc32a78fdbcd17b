-- What a node's end has dealt in.
use Rattle.std.specs.Prelude.{ℕ, ◌==◌, List, [], ◌∷◌, map, if◌then◌else◌}
use Rattle.std.specs.List.{flat_map}
use Rattle.node_loop.specs.declared.item.Item.{Item}
use Rattle.node_loop.specs.Dealings.{Dealt}
use Rattle.node_seats.specs.declared.parcel.Parcel.{Parcel}
use Rattle.node_seats.specs.Lines.{Sent}
use Rattle.node_threads.specs.declared.ruled_end.Traffic.{Traffic}
use Rattle.node_threads.specs.Givers.{receivers, letters_of}

-- what was put on a line
abbrev pub put_on : Sent Item → List Item
put_on line = map (λ p. p.item) line.parcels

-- what these lines carry to a node: what was put on the first that leads to it
abbrev pub sent_to : ℕ → List (Sent Item) → List Item
sent_to to [] = []
sent_to to (line ∷ lines) = if line.receiver == to then put_on line else sent_to to lines

-- what was taken from a node
abbrev pub taken_from : ℕ → List (ℕ × Item) → List Item
taken_from from pairs = flat_map (λ x. if from == x.0 then x.1 ∷ [] else []) pairs

abbrev pub dealt_of : Traffic → Dealt
dealt_of s = record { sent = λ t. sent_to t s.lines; taken = λ f. taken_from f s.letters }

-- the same with these lines, and an inbox off which these parcels came
abbrev pub dealt_by : List (Sent Item) → List (Parcel Item) → Dealt
dealt_by lines parcels = record {
  sent = λ t. sent_to t lines;
  taken = λ f. taken_from f (letters_of (receivers lines) parcels);
}
