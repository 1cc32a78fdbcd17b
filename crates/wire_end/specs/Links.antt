-- One link between a node and another.
use Rattle.std.specs.Prelude.{ℕ, Bool, true, false, ◌≡◌, ◌==◌, ◌&&◌, ◌||◌, ◌+◌, not, Option, Some, Result, Ok, Err}
use Rattle.letter_lines.specs.declared.Letter.{Letter}
use Rattle.letter_lines.specs.declared.Letter.TheVariants.{Down}
use Rattle.letter_lines.specs.declared.part.Part.{Part as APart}
use Rattle.letter_lines.specs.Gathered.{Takes}
use Rattle.wire_end.specs.declared.faults.HearFault.{HearFault}
use Rattle.wire_end.specs.declared.faults.HearFault.TheVariants.{NoSuchNode, Gap, Stray, Part}
use Rattle.wire_end.specs.declared.wire.Wire.{Wire}

-- a line with this number is the next of the link: there is none behind the last letter of a node
abbrev pub is_next : Wire → ℕ → Bool
is_next w number = not w.is_down && (number == w.read + 1)

-- a letter by which a node says that it has left
abbrev pub is_down_letter : Option Letter → Bool
is_down_letter (Some Down) = true
is_down_letter _ = false

-- behind a line with this number, by which the letter comes, if one does
abbrev pub read_on : ℕ → Option Letter → Wire → Wire → Wire
read_on number letter v w = record w { read = number; parts = v.parts; is_down = w.is_down || is_down_letter letter }

-- what comes of a line with this number and this part: it is the next, and its part is taken or refused, as the parts before it say; or it
-- isn't the next, and nothing changed
abbrev pub HearsPart : ℕ → APart → Wire → Wire → Result (Option Letter) HearFault → Type 0
HearsPart number p w v (Ok letter) = (is_next w number ≡ true) × Takes p w.parts v.parts (Ok letter) × (v ≡ read_on number letter v w)
HearsPart number p w v (Err Gap) = (is_next w number ≡ false) × (v ≡ w)
HearsPart number p w v (Err (Part f)) = (is_next w number ≡ true) × Takes p w.parts w.parts (Err f) × (v ≡ w)
HearsPart number p w v (Err NoSuchNode) = ⊥
HearsPart number p w v (Err Stray) = ⊥
