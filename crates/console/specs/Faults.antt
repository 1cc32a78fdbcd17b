-- Why the first line of a console is refused.
use Rattle.std.specs.Prelude.{ℕ, List, codes}
use Rattle.command_lines.specs.Printing.{word_of}
use Rattle.console.specs.declared.faults.GreetFault.{GreetFault}
use Rattle.console.specs.declared.faults.GreetFault.TheVariants.{Line, NotAllowed, NotAttached, NoSuchNode, TooManyConsoles}

-- the word for which a first line is refused
abbrev pub greet_word : GreetFault → List ℕ
greet_word (Line f) = word_of f
greet_word NotAllowed = codes "not_allowed"
greet_word NotAttached = codes "not_attached"
greet_word NoSuchNode = codes "no_such_node"
greet_word TooManyConsoles = codes "too_many_consoles"
