-- The words that are printed for faults of nodes, and the texts for options that don't go together.
use Rattle.std.specs.Prelude.{codes, ℕ, List, Option, Some, None}
use Rattle.term.specs.declared.faults.TextFault.{TextFault}
use Rattle.term.specs.declared.faults.TextFault.TheVariants.{Empty, TooLong, BadByte, BadCreation, BadSerial, BadRule}
use Rattle.term.specs.declared.faults.TextFault.TheVariants as text
use Rattle.arguments.specs.declared.faults.ArgFault.{ArgFault}
use Rattle.arguments.specs.declared.faults.ArgFault.TheVariants.{Options, Words, Text, SameNode, TooManyNodes, NoSuchNode}
use Rattle.arguments.specs.declared.faults.OptionFault.{OptionFault}
use Rattle.arguments.specs.declared.faults.OptionFault.TheVariants.{CookieFile, Idle, Socket, Consoles, NoCookieFile}

-- the word that is printed for a text that is refused
abbrev pub text_word : TextFault → List ℕ
text_word Empty = codes "empty"
text_word TooLong = codes "too_long"
text_word (BadByte place) = codes "bad_byte"
text_word BadCreation = codes "bad_creation"
text_word BadSerial = codes "bad_serial"
text_word BadRule = codes "bad_rule"
text_word text.TooManyNodes = codes "too_many_nodes"

-- the text that is printed for an option that doesn't go with the others
abbrev pub option_text : OptionFault → List ℕ
option_text CookieFile = codes "--cookie-file: goes with --stay alone"
option_text Idle = codes "--idle: goes with --stay alone"
option_text Socket = codes "--listen unix:PATH: goes with --stay alone"
option_text Consoles = codes "--consoles: more than 64 go with --stay alone"
option_text NoCookieFile = codes "--cookie-file: wanted with --stay over TCP; a socket is --listen unix:PATH"

-- the word that is printed for a fault of the nodes; other texts are shown for the others
abbrev pub word_of : ArgFault → Option (List ℕ)
word_of (Words e) = None
word_of (Options f) = None
word_of (Text f) = Some (text_word f)
word_of SameNode = Some (codes "same_node")
word_of TooManyNodes = Some (codes "too_many_nodes")
word_of NoSuchNode = Some (codes "no_such_node")
