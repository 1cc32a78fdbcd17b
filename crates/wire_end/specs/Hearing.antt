-- What an end does with a line that is read.
use Rattle.std.specs.Prelude.{ℕ, Bool, true, false, ◌≡◌, ◌⊎◌, Option, Some, None, Result, Ok, Err, [], ◌∷◌, ◌++◌, slice_set}
use Rattle.letter_lines.specs.declared.Letter.{Letter}
use Rattle.letter_lines.specs.declared.Letter.TheVariants.{Down}
use Rattle.letter_lines.specs.declared.faults.LetterFault.TheVariants.{Memory}
use Rattle.letter_lines.specs.declared.part.Part.{Part as APart}
use Rattle.letter_lines.specs.Gathered.{nothing}
use Rattle.node_loop.specs.declared.item.Stamped.{Stamped}
use Rattle.wire_end.specs.declared.faults.HearFault.{HearFault}
use Rattle.wire_end.specs.declared.faults.HearFault.TheVariants.{NoSuchNode, Stray, Part}
use Rattle.wire_end.specs.declared.line.LinkLine.{LinkLine}
use Rattle.wire_end.specs.declared.wire.Wire.{Wire}
use Rattle.wire_end.specs.declared.wire_end.Wiring.{Wiring}
use Rattle.wire_end.specs.Links.{HearsPart}
use Rattle.wire_end.specs.Orders.{orders_of}
use Rattle.wire_end.specs.Saying.{present, is_said_by}
use Rattle.wire_end.specs.Wirings.{place, wire_at}

-- a letter of this node waits behind the others
abbrev pub laid : ℕ → Stamped → Wiring → Wiring
laid from l s = record s { heard = s.heard ++ (from, l) ∷ []; orders = s.orders ++ orders_of s.node l.letter }

-- where a letter is whole now, it waits with the stamp of the line
abbrev pub laid_if : ℕ → ℕ → Option Letter → Wiring → Wiring
laid_if from stamp None s = s
laid_if from stamp (Some letter) s = laid from (record { stamp = stamp; letter = letter }) s

-- this line was read on the link at this place, behind the others, which made the link this
abbrev pub read_at : ℕ → Wire → ℕ → LinkLine → Wiring → Wiring
read_at k wire from line s = record s { wires = slice_set s.wires k wire; read = s.read ++ (from, line) ∷ [] }

-- the letter that a part ends on the link at this place, if it ends one, is one that the end's node relies on
abbrev pub fits_at : ℕ → APart → Wiring → Bool
fits_at k p s = is_said_by (present s) s.node p (wire_at k s.wires).parts

-- the line is the next of the link at this place: it is read, and the letter waits that is whole now, if one is
pub record IsHeard (from : ℕ) (line : LinkLine) (k : ℕ) (s t : Wiring) : Type 0 where
  pub fits : fits_at k line.part s ≡ true
  pub letter : Option Letter
  pub wire : Wire
  pub hears : HearsPart line.number line.part (wire_at k s.wires) wire (Ok letter)
  pub rest : t ≡ laid_if from line.stamp letter (read_at k wire from line s)

-- it is the next, and is read, but its letter, which is whole now, is lost
pub record IsLost (from : ℕ) (line : LinkLine) (k : ℕ) (s t : Wiring) : Type 0 where
  pub letter : Letter
  pub wire : Wire
  pub hears : HearsPart line.number line.part (wire_at k s.wires) wire (Ok (Some letter))
  pub rest : t ≡ read_at k wire from line s

-- what comes of a line that is taken
abbrev pub HearsAt : Option ℕ → ℕ → LinkLine → Wiring → Wiring → Type 0
HearsAt None from line s t = ⊥
HearsAt (Some k) from line s t = IsHeard from line k s t

-- why a line isn't taken: there is no such link; or it isn't the next of it, or its part isn't taken, or it ends a letter that no node says
-- which the end knows of. Nothing changed then; or memory was refused for the letter that it ends
abbrev pub RefusesAt : Option ℕ → ℕ → LinkLine → HearFault → Wiring → Wiring → Type 0
RefusesAt None from line fault s t = (fault ≡ NoSuchNode) × (t ≡ s)
RefusesAt (Some k) from line fault s t =
    (HearsPart line.number line.part (wire_at k s.wires) (wire_at k s.wires) (Err fault) × (t ≡ s))
    ⊎ ((fault ≡ Part Memory) × IsLost from line k s t)
    ⊎ ((fault ≡ Stray) × (fits_at k line.part s ≡ false) × (t ≡ s))

-- what comes of a line of this node
abbrev pub Hears : ℕ → LinkLine → Result (Unit {0}) HearFault → Wiring → Wiring → Type 0
Hears from line (Ok _) s t = HearsAt (place from s.wires) from line s t
Hears from line (Err fault) s t = RefusesAt (place from s.wires) from line fault s t

-- the link has ended without a word: what came of a letter is forgotten
abbrev pub closed : Wire → Wire
closed w = record w { parts = nothing; is_down = true }

-- that a node is gone without a word is read as this letter of it
abbrev pub gone : Stamped
gone = record { stamp = 0; letter = Down }

-- that waits behind all that came of it, unless it was told before
abbrev pub lost_where : Bool → ℕ → ℕ → Wiring → Wiring
lost_where true n k s = s
lost_where false n k s = laid n gone (record s { wires = slice_set s.wires k (closed (wire_at k s.wires)) })

-- what comes of the word that a node is gone: nothing where it has left already, and where memory is refused for the letter
abbrev pub LosesAt : Option ℕ → ℕ → Result (Unit {0}) HearFault → Wiring → Wiring → Type 0
LosesAt None n r s t = (r ≡ Err NoSuchNode) × (t ≡ s)
LosesAt (Some k) n (Ok _) s t = t ≡ lost_where (wire_at k s.wires).is_down n k s
LosesAt (Some k) n (Err fault) s t = (fault ≡ Part Memory) × ((wire_at k s.wires).is_down ≡ false) × (t ≡ s)

abbrev pub Loses : ℕ → Result (Unit {0}) HearFault → Wiring → Wiring → Type 0
Loses n r s t = LosesAt (place n s.wires) n r s t
