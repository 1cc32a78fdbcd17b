-- The command line of the program, and what its words ask for.
use Rattle.std.specs.Prelude.{◌≡◌, ℕ, true, codes, List, [], ◌∷◌, ◌++◌, Option, Some, None, pos, option_map, option_and_then}
use Rattle.term.specs.declared.limits.TheConstants.{MOST_CONSOLES_AT_ONCE, LONGEST_SILENCE}
use Rattle.clap.specs.Words.{App, Kinds, Row, Rule, Shape, Text, fault_of, first_of, new_app, new_rule, subcommand_of, with_subcommand}
use Rattle.clap.specs.Simple.{new_shape}
use Rattle.clap.specs.declared.builder.action.ArgAction.TheVariants.{Set, SetTrue}
use Rattle.clap.specs.declared.builder.value_parser.ValueParser.TheVariants as parser
use Rattle.clap.specs.declared.error.kind.ErrorKind.TheVariants as kind

-- an option that takes one value
abbrev pub one_valued : Text → Rule
one_valued id = record (new_rule id) { long = Some id; action = Some Set; value_names = 1 }

-- an option that takes one value, and can't be left out
abbrev pub wanted : Text → Rule
wanted id = record (one_valued id) { required = true }

-- the option for the number of consoles, which takes a number from 1 to the most at once
abbrev pub consoles_rule : Rule
consoles_rule = record (one_valued (codes "consoles")) { parser = Some (parser.Signed (pos 1) (pos MOST_CONSOLES_AT_ONCE)) }

-- the flag of a server that stays
abbrev pub stay_rule : Rule
stay_rule = record (new_rule (codes "stay")) { long = Some (codes "stay"); action = Some SetTrue }

-- the option for the seconds that a console may be silent, which takes a number from 1 to the most
abbrev pub idle_rule : Rule
idle_rule = record (one_valued (codes "idle")) { parser = Some (parser.Signed (pos 1) (pos LONGEST_SILENCE)) }

-- the options of `serve` that are for each server
abbrev pub valued_rules : List Rule
valued_rules = wanted (codes "listen") ∷ wanted (codes "nodes") ∷ one_valued (codes "lone") ∷ consoles_rule ∷ []

-- the subcommand `serve` with those options
abbrev pub valued_serve_shape : Shape
valued_serve_shape = record (new_shape (codes "serve")) { rules = valued_rules }

-- the options of `serve` that are for a server that stays
abbrev pub staying_rules : List Rule
staying_rules = stay_rule ∷ one_valued (codes "cookie-file") ∷ idle_rule ∷ []

-- the subcommand `serve` with its options
abbrev pub serve_shape : Shape
serve_shape = record valued_serve_shape { rules = valued_rules ++ staying_rules }

-- an argument that stands at this place, and can't be left out
abbrev pub placed : ℕ → Text → Rule
placed place id = record (new_rule id) { index = Some place; action = Some Set; required = true; value_names = 1 }

-- the subcommand `node` with its arguments
abbrev pub node_shape : Shape
node_shape = record (new_shape (codes "node")) { rules = placed 1 (codes "node") ∷ placed 2 (codes "nodes") ∷ [] }

-- a command with a version and the subcommands of whole worlds, `script`, which takes no arguments, and `serve`: one is wanted
abbrev pub worlds_program : App
worlds_program =
    let app = with_subcommand (with_subcommand (new_app (codes "cluster_main")) (new_app (codes "script")).top) serve_shape in
    record app { top = record app.top { has_version = true; subcommand_required = true } }

-- the same with the subcommand `node`
abbrev pub program : App
program = with_subcommand worlds_program node_shape

-- the kinds of error that a parse of words, the program's name first, may give: none where they ask for something
abbrev pub refusals : List Text → Kinds
refusals words = fault_of program words

-- the subcommand that a parse entered, by its name, and what was found for its options
abbrev pub Entered : Type 0
Entered = Option (Text × List Row)

-- the name of the subcommand
abbrev pub name_in : Entered → Option Text
name_in = option_map (λ p. p.0)

-- the value of an option of the subcommand
abbrev pub value_in : Entered → Text → Option Text
value_in entered id = option_and_then (λ p. first_of id p.1) entered

-- a line that serves the nodes a and b, with more options behind
abbrev pub serving : Text → List Text → List Text
serving name more =
    name ∷ codes "serve" ∷ codes "--listen" ∷ codes "x:1" ∷ codes "--nodes" ∷ codes "a,b" ∷ more

-- a line that runs the node a of a and b, with more words behind
abbrev pub running : Text → List Text → List Text
running name more = name ∷ codes "node" ∷ codes "a" ∷ codes "a,b" ∷ more

-- what some words ask for, behind any name of the program
pub record KnownWords : Type 0 where
  pub script : (name : Text) → refusals (name ∷ codes "script" ∷ []) ≡ []
  pub help : (name : Text) → refusals (name ∷ codes "--help" ∷ []) ≡ kind.DisplayHelp ∷ []
  pub short_help : (name : Text) → refusals (name ∷ codes "-h" ∷ []) ≡ kind.DisplayHelp ∷ []
  pub version : (name : Text) → refusals (name ∷ codes "--version" ∷ []) ≡ kind.DisplayVersion ∷ []
  pub nothing : (name : Text) → refusals (name ∷ []) ≡ kind.MissingSubcommand ∷ []
  pub nonsense : (name : Text) → refusals (name ∷ codes "nonsense" ∷ [])
      ≡ kind.UnknownArgument ∷ kind.InvalidSubcommand ∷ []
  pub more : (name : Text) → refusals (name ∷ codes "script" ∷ codes "more" ∷ []) ≡ kind.UnknownArgument ∷ []
  pub serve_help : (name : Text) → refusals (name ∷ codes "serve" ∷ codes "--help" ∷ []) ≡ kind.DisplayHelp ∷ []
  pub serve_alone : (name : Text) → refusals (name ∷ codes "serve" ∷ []) ≡ kind.MissingRequiredArgument ∷ []
  pub serve_without_nodes : (name : Text) → refusals (name ∷ codes "serve" ∷ codes "--listen" ∷ codes "x:1" ∷ [])
      ≡ kind.MissingRequiredArgument ∷ []
  pub serve_with_nodes : (name : Text) → refusals (serving name []) ≡ []
  pub serve_with_consoles : (name : Text) → refusals (serving name (codes "--consoles" ∷ codes "1024" ∷ [])) ≡ []
  pub too_many_consoles : (name : Text) → refusals (serving name (codes "--consoles" ∷ codes "1025" ∷ []))
      ≡ kind.ValueValidation ∷ []
  pub no_consoles : (name : Text) → refusals (serving name (codes "--consoles=0" ∷ [])) ≡ kind.ValueValidation ∷ []
  pub lone_twice : (name : Text) → refusals (serving name (codes "--lone=d" ∷ codes "--lone=e" ∷ []))
      ≡ kind.ArgumentConflict ∷ []
  pub serve_staying : (name : Text) → refusals (serving name (codes "--stay" ∷ [])) ≡ []
  pub stay_twice : (name : Text) → refusals (serving name (codes "--stay" ∷ codes "--stay" ∷ []))
      ≡ kind.ArgumentConflict ∷ []
  pub stay_with_a_value : (name : Text) → refusals (serving name (codes "--stay=yes" ∷ [])) ≡ kind.TooManyValues ∷ []
  pub serve_with_a_cookie : (name : Text) → refusals (serving name (codes "--cookie-file" ∷ codes "x" ∷ [])) ≡ []
  pub longest_silence : (name : Text) → refusals (serving name (codes "--idle" ∷ codes "31536000" ∷ [])) ≡ []
  pub too_long_silence : (name : Text) → refusals (serving name (codes "--idle=31536001" ∷ []))
      ≡ kind.ValueValidation ∷ []
  pub no_silence : (name : Text) → refusals (serving name (codes "--idle=0" ∷ [])) ≡ kind.ValueValidation ∷ []
  pub address : (name : Text) → value_in (subcommand_of program (serving name [])) (codes "listen") ≡ Some (codes "x:1")
  pub nodes : (name : Text) → value_in (subcommand_of program (serving name [])) (codes "nodes") ≡ Some (codes "a,b")
  pub no_lone : (name : Text) → value_in (subcommand_of program (serving name [])) (codes "lone") ≡ None
  pub lone : (name : Text) → value_in (subcommand_of program (serving name (codes "--lone=d" ∷ []))) (codes "lone")
      ≡ Some (codes "d")
  pub stays : (name : Text) → value_in (subcommand_of program (serving name (codes "--stay" ∷ []))) (codes "stay")
      ≡ Some (codes "true")
  pub cookie_file : (name : Text) → value_in (subcommand_of program (serving name (codes "--cookie-file=x" ∷ [])))
      (codes "cookie-file") ≡ Some (codes "x")
  pub idle : (name : Text) → value_in (subcommand_of program (serving name (codes "--idle=9" ∷ []))) (codes "idle")
      ≡ Some (codes "9")
  pub ends : (name : Text) → value_in (subcommand_of program (serving name [])) (codes "stay") ≡ Some (codes "false")
  pub node_help : (name : Text) → refusals (name ∷ codes "node" ∷ codes "--help" ∷ []) ≡ kind.DisplayHelp ∷ []
  pub node_alone : (name : Text) → refusals (name ∷ codes "node" ∷ []) ≡ kind.MissingRequiredArgument ∷ []
  pub node_without_list : (name : Text) → refusals (name ∷ codes "node" ∷ codes "a" ∷ []) ≡ kind.MissingRequiredArgument ∷ []
  pub node_of_a_list : (name : Text) → refusals (running name []) ≡ []
  pub node_with_more : (name : Text) → refusals (running name (codes "c" ∷ [])) ≡ kind.UnknownArgument ∷ []
  pub node_with_an_option : (name : Text) → refusals (running name (codes "--stay" ∷ [])) ≡ kind.UnknownArgument ∷ []
  pub own_node : (name : Text) → value_in (subcommand_of program (running name [])) (codes "node") ≡ Some (codes "a")
  pub all_nodes : (name : Text) → value_in (subcommand_of program (running name [])) (codes "nodes") ≡ Some (codes "a,b")
