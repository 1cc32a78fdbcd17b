-- The words of refusals.
use Rattle.std.specs.Prelude.{ℕ, codes, List}
use Rattle.term.specs.declared.faults.TextFault.TheVariants as text
use Rattle.letter_lines.specs.declared.faults.LetterFault.{LetterFault}
use Rattle.letter_lines.specs.declared.faults.LetterFault.TheVariants.{BadLine, Text, Memory}

-- the word for a fault
abbrev pub word_of : LetterFault → List ℕ
word_of BadLine = codes "bad_line"
word_of (Text text.Empty) = codes "empty"
word_of (Text text.TooLong) = codes "too_long"
word_of (Text (text.BadByte place)) = codes "bad_byte"
word_of (Text text.BadCreation) = codes "bad_creation"
word_of (Text text.BadSerial) = codes "bad_serial"
word_of (Text text.BadRule) = codes "bad_rule"
word_of (Text text.TooManyNodes) = codes "too_many_nodes"
word_of Memory = codes "memory"
