-- What the words ask for, and why others are not taken.
use Rattle.std.specs.Prelude.{◌≡◌, ◌⊎◌, ◌≤◌, ℕ, Bool, true, false, bytes_eq, if◌then◌else◌, List, [], codes, Option, Some, None, IfSome, is_some, option_map, pos, string_bytes}
use Rattle.std.specs.Str.Parse.{digits_value, without_leading_plus}
use Rattle.clap.specs.Words.{HasKind, IsSignedIn, Row, first_of, one_of, subcommand_of, without_minus, Text as Bytes}
use Rattle.clap.specs.Values.{kind_of}
use Rattle.clap.specs.declared.error.kind.ErrorKind.TheVariants.{OutOfMemory}
use Rattle.term.specs.declared.limits.TheConstants.{CONSOLES, CONSOLES_AT_ONCE, MOST_CONSOLES_AT_ONCE, LONGEST_SILENCE}
use Rattle.arguments.specs.CommandLine.{Entered, name_in, program, refusals, value_in}
use Rattle.arguments.specs.Nodes.{PlacesNode, PlacesNodes, RefusesOwn, RefusesPlacing}
use Rattle.arguments.specs.Together.{Clashes}
use Rattle.arguments.specs.declared.faults.ArgFault.{ArgFault}
use Rattle.arguments.specs.declared.faults.ArgFault.TheVariants.{Options, Words}
use Rattle.arguments.specs.declared.faults.OptionFault.{OptionFault}
use Rattle.arguments.specs.declared.mode.NodeOptions.{NodeOptions}
use Rattle.arguments.specs.declared.mode.ServeOptions.{ServeOptions}
use Rattle.arguments.specs.declared.mode.Mode.{Mode}
use Rattle.arguments.specs.declared.mode.Mode.TheVariants.{Script, Serve, Node}

-- the value of each option, by its name
abbrev pub Values : Type 0
Values = Bytes → Option Bytes

-- the value of a flag that was given, and not that of one that wasn't
abbrev pub is_set : Option Bytes → Bool
is_set None = false
is_set (Some text) = bytes_eq text (codes "true")

-- digits tell this number, which is from 1 to the most
abbrev pub Counts : ℕ → Bytes → ℕ → Type 0
Counts most digits n = (1 ≤ n) × (n ≤ most) × (n ≡ digits_value 10 (without_leading_plus digits))

-- how many consoles are taken, or served at once where it stays: the number that is given, from 1 to the most at once; and where none is, so
-- many, or so many at once
abbrev pub CountsConsoles : Bool → Option Bytes → ℕ → Type 0
CountsConsoles stay None n = n ≡ (if stay then CONSOLES_AT_ONCE else CONSOLES)
CountsConsoles stay (Some digits) n = Counts MOST_CONSOLES_AT_ONCE digits n

-- for how many seconds a console may be silent: the number that is given, from 1 to the most; and where none is, for ever
abbrev pub CountsSeconds : Option Bytes → Option ℕ → Type 0
CountsSeconds None limit = limit ≡ None
CountsSeconds (Some digits) limit = (seconds : ℕ) × (limit ≡ Some seconds) × Counts LONGEST_SILENCE digits seconds

-- these values tell `serve` so
pub record Tells (value : Values) (o : ServeOptions) : Type 0 where
  pub address : value (codes "listen") ≡ Some (string_bytes o.listen)
  pub list : Bytes
  pub nodes : value (codes "nodes") ≡ Some list
  pub placed : PlacesNodes list (value (codes "lone")) o.cluster o.lone
  pub count : CountsConsoles o.stay (value (codes "consoles")) o.consoles
  pub stays : o.stay ≡ is_set (value (codes "stay"))
  pub cookie : option_map string_bytes o.cookie_file ≡ value (codes "cookie-file")
  pub limit : CountsSeconds (value (codes "idle")) o.idle

-- these values tell `serve` so, and their options go together
abbrev pub TellsFine : Values → ServeOptions → Type 0
TellsFine value o = Tells value o × Clashes o None

-- the lists that these values give are refused for the fault
pub record RefusesLists (value : Values) (fault : ArgFault) : Type 0 where
  pub list : Bytes
  pub nodes : value (codes "nodes") ≡ Some list
  pub refused : RefusesPlacing list (value (codes "lone")) fault

-- the lists that these values give are fine, and their options don't go together
abbrev pub RefusesTogether : Values → OptionFault → Type 0
RefusesTogether value fault = (o : ServeOptions) × Tells value o × Clashes o (Some fault)

-- the lists that these values give are refused for the fault, or memory was
abbrev pub RefusesTold : Values → ArgFault → Type 0
RefusesTold value (Words e) = kind_of e ≡ OutOfMemory
RefusesTold value fault = RefusesLists value fault

-- these values are refused for the fault: their lists are, or else their options, or memory was
abbrev pub RefusesValues : Values → ArgFault → Type 0
RefusesValues value (Words e) = kind_of e ≡ OutOfMemory
RefusesValues value (Options fault) = RefusesTogether value fault
RefusesValues value fault = RefusesLists value fault

-- what a flag is read as
abbrev pub IsFlagText : Bytes → Type 0
IsFlagText text = (text ≡ codes "true") ⊎ (text ≡ codes "false")

-- what clap has seen to: the wanted options are there, the numbers are in their ranges where they are given, and the flag is set or not
pub record HasOptions (rows : List Row) : Type 0 where
  pub listen : is_some (first_of (codes "listen") rows) ≡ true
  pub nodes : is_some (first_of (codes "nodes") rows) ≡ true
  pub consoles : IfSome (first_of (codes "consoles") rows) (IsSignedIn (pos 1) (pos MOST_CONSOLES_AT_ONCE))
  pub digits : one_of (codes "consoles") rows ≡ option_map without_minus (first_of (codes "consoles") rows)
  pub idle : IfSome (first_of (codes "idle") rows) (IsSignedIn (pos 1) (pos LONGEST_SILENCE))
  pub seconds : one_of (codes "idle") rows ≡ option_map without_minus (first_of (codes "idle") rows)
  pub flag : IfSome (first_of (codes "stay") rows) IsFlagText
  pub written : one_of (codes "stay") rows ≡ first_of (codes "stay") rows

-- these values tell `node` so
pub record TellsNode (value : Values) (o : NodeOptions) : Type 0 where
  pub text : Bytes
  pub list : Bytes
  pub node : value (codes "node") ≡ Some text
  pub nodes : value (codes "nodes") ≡ Some list
  pub placed : PlacesNode text list o.node o.world

-- the node and the list that these values give are refused for the fault
pub record RefusesNode (value : Values) (fault : ArgFault) : Type 0 where
  pub text : Bytes
  pub list : Bytes
  pub node : value (codes "node") ≡ Some text
  pub nodes : value (codes "nodes") ≡ Some list
  pub refused : RefusesOwn text list fault

-- what clap has seen to: the arguments of `node` are there
pub record HasArguments (rows : List Row) : Type 0 where
  pub node : is_some (first_of (codes "node") rows) ≡ true
  pub nodes : is_some (first_of (codes "nodes") rows) ≡ true

-- what clap has seen to: a subcommand is named, which is `script`, or `serve` with its options, or `node` with its arguments
abbrev pub IsLooked : Entered → Type 0
IsLooked entered = (name_in entered ≡ Some (codes "script"))
    ⊎ ((rows : List Row) × (entered ≡ Some (codes "serve", rows)) × HasOptions rows)
    ⊎ ((rows : List Row) × (entered ≡ Some (codes "node", rows)) × HasArguments rows)

-- the subcommand and its options ask for this
abbrev pub AsksIn : Entered → Mode → Type 0
AsksIn entered Script = name_in entered ≡ Some (codes "script")
AsksIn entered (Serve o) = (name_in entered ≡ Some (codes "serve")) × TellsFine (value_in entered) o
AsksIn entered (Node o) = (name_in entered ≡ Some (codes "node")) × TellsNode (value_in entered) o

-- the options of `serve` are refused for the fault, or the arguments of `node`
abbrev pub RefusesIn : Entered → ArgFault → Type 0
RefusesIn entered fault = ((name_in entered ≡ Some (codes "serve")) × RefusesValues (value_in entered) fault)
    ⊎ ((name_in entered ≡ Some (codes "node")) × RefusesNode (value_in entered) fault)

-- the words, the program's name first, ask for this
pub record Asks (words : List Bytes) (mode : Mode) : Type 0 where
  pub taken : refusals words ≡ []
  pub asked : AsksIn (subcommand_of program words) mode

-- the words are taken, and what stands behind the subcommand is refused for the fault
pub record RefusesOptionsOf (words : List Bytes) (fault : ArgFault) : Type 0 where
  pub taken : refusals words ≡ []
  pub refused : RefusesIn (subcommand_of program words) fault

-- why the words are not taken: clap refuses them or memory was refused, or else what stands behind the subcommand is refused
abbrev pub Refuses : List Bytes → ArgFault → Type 0
Refuses words (Words e) = HasKind (refusals words) e
Refuses words fault = RefusesOptionsOf words fault
