-- What it comes to that a text is written.
use Rattle.std.specs.Prelude.{ℕ, ◌≡◌, List, ◌++◌, Option, Result, MatchResult}
use Rattle.std.specs.Io.KnownBytes.{Appends}
use Rattle.text_lines.specs.declared.faults.StreamFault.{StreamFault}
use Rattle.text_lines.specs.declared.faults.StreamFault.TheVariants.{Write, Memory}
use Rattle.text_lines.specs.declared.faults.WriteFault.{WriteFault}
use Rattle.text_lines.specs.declared.faults.WriteFault.TheVariants as write

-- how known bytes grow by a text: by all of it, or by a part
abbrev pub Growth : Type 1
Growth = Option (List ℕ) → Option (List ℕ) → List ℕ → Type 0

-- known bytes grow by a part of these
abbrev pub AppendsPart : Option (List ℕ) → Option (List ℕ) → List ℕ → Type 0
AppendsPart old new text = (part : List ℕ) × (rest : List ℕ) × (text ≡ part ++ rest) × Appends old new part

-- the text was written, or after a fault a part of it
abbrev pub Writes : {A E : Type 0} → Option (List ℕ) → Option (List ℕ) → Result A E → List ℕ → Type 0
Writes old new r text = MatchResult r (λ _. Appends old new text) (λ _. AppendsPart old new text)

-- the fault of lines of whose answers one wasn't written
abbrev pub stop_of : WriteFault → StreamFault
stop_of write.Writer = Write
stop_of write.Memory = Memory
