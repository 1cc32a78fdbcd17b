-- What the program does, and its status.
use Rattle.std.specs.Prelude.{ℕ, ◌≡◌, ◌≢◌, ◌⊎◌, Bool, codes, List, [], ◌∷◌, Option, Some, None, Result, Ok, Err, MatchResult, if◌then◌else◌}
use Rattle.std.specs.Io.KnownBytes.{Keeps}
use Rattle.clap.specs.Words.{IsAmong, Kinds, Text, subcommand_of}
use Rattle.clap.specs.declared.error.kind.ErrorKind.{ErrorKind}
use Rattle.cluster_script.specs.Script.{Ran, Stopped}
use Rattle.text_lines.specs.declared.faults.StreamFault.{StreamFault}
use Rattle.node_port.specs.Ran.{NodeRan, NodeStopped}
use Rattle.arguments.specs.CommandLine.{Entered, name_in, program, refusals, value_in}
use Rattle.arguments.specs.Reading.{RefusesIn, TellsFine, TellsNode, Values}
use Rattle.arguments.specs.declared.faults.ArgFault.{ArgFault}
use Rattle.arguments.specs.declared.mode.NodeOptions.{NodeOptions}
use Rattle.arguments.specs.declared.mode.ServeOptions.{ServeOptions}
use Rattle.cluster_main.specs.Refusing.{IsTold, status_for}
use Rattle.cluster_main.specs.Serving.{Serves, TellsWhy, served_status}
use Rattle.cluster_main.specs.declared.serving.Served.{Served}

-- the status for lines that were done: 0 where they ended with no fault and, of a script, no refusal was printed, or, at a node, each line
-- of a link was the next of it and each step had a stamp; and else 1
abbrev pub status_of : Result Bool StreamFault → ℕ
status_of (Ok fine) = if fine then 0 else 1
status_of (Err f) = 1

-- What the program reads, and what it prints, each where it is known: before and behind
pub record Streams : Type 0 where
  pub input : Option (List ℕ)
  pub rest : Option (List ℕ)
  pub old : Option (List ℕ)
  pub new : Option (List ℕ)

-- What it tells on standard error, where that is known: before and behind
pub record Told : Type 0 where
  pub old : Option (List ℕ)
  pub new : Option (List ℕ)

-- a script was played, with the status for it, or 1 where what it printed couldn't be handed on
pub record PlaysScript (s : Streams) (status : ℕ) : Type 0 where
  pub played : Result Bool StreamFault
  pub printed : Option (List ℕ)
  pub runs : MatchResult played (Ran s.input s.rest s.old printed) (Stopped s.input s.rest s.old printed)
  pub flushed : Keeps printed s.new
  pub status_is : (status ≡ status_of played) ⊎ (status ≡ 1)

-- a node was run by lines, with the status for it, or 1 where what it printed couldn't be handed on
pub record RunsNode (o : NodeOptions) (s : Streams) (status : ℕ) : Type 0 where
  pub ran : Result Bool StreamFault
  pub printed : Option (List ℕ)
  pub runs : MatchResult ran (NodeRan o.node o.world s.input s.rest s.old printed) (NodeStopped o.node o.world s.input s.rest s.old printed)
  pub flushed : Keeps printed s.new
  pub status_is : (status ≡ status_of ran) ⊎ (status ≡ 1)

-- words of these kinds were answered with help, the version or an error: nothing is read, and for an error
-- nothing is printed; the status is 1 also where help or the version can't be written
pub record ShowsText (kinds : Kinds) (s : Streams) (status : ℕ) : Type 0 where
  pub shown : ErrorKind
  pub among : IsAmong shown kinds
  pub unread : Keeps s.input s.rest
  pub status_is : (status ≡ status_for shown) ⊎ ((status_for shown ≡ 0) × (status ≡ 1))
  pub unprinted : status_for shown ≢ 0 → Keeps s.old s.new

-- nothing was read or printed
pub record DoesNothing (s : Streams) : Type 0 where
  pub unread : Keeps s.input s.rest
  pub unprinted : Keeps s.old s.new

-- consoles were served as these values say, or it was told on standard error why they aren't; nothing is read
pub record ServesConsoles (value : Values) (s : Streams) (told : Told) (status : ℕ) : Type 0 where
  pub options : ServeOptions
  pub served : Served
  pub given : TellsFine value options
  pub unread : Keeps s.input s.rest
  pub serves : Serves options s.old s.new served
  pub why : TellsWhy options told.old told.new served
  pub status_is : status ≡ served_status served

-- what stands behind the subcommand was refused, and the line for it was told
pub record TellsFault (entered : Entered) (s : Streams) (told : Told) (status : ℕ) : Type 0 where
  pub fault : ArgFault
  pub refused : RefusesIn entered fault
  pub unread : Keeps s.input s.rest
  pub answered : IsTold fault s.old s.new told.old told.new status

-- a node was run as these values say, and nothing told on standard error
pub record RunsTold (value : Values) (s : Streams) (told : Told) (status : ℕ) : Type 0 where
  pub options : NodeOptions
  pub given : TellsNode value options
  pub runs : RunsNode options s status
  pub untold : Keeps told.old told.new

-- what is done for a subcommand: a script is played, and nothing told on standard error; or consoles are served, or a node is run, unless
-- what stands behind the subcommand is refused
abbrev pub DoesTask : Entered → Streams → Told → ℕ → Type 0
DoesTask entered s told status =
    ((name_in entered ≡ Some (codes "script")) × PlaysScript s status × Keeps told.old told.new)
    ⊎ ((name_in entered ≡ Some (codes "serve")) × ServesConsoles (value_in entered) s told status)
    ⊎ ((name_in entered ≡ Some (codes "node")) × RunsTold (value_in entered) s told status)
    ⊎ TellsFault entered s told status

-- what is done for words whose parse may give these kinds
abbrev pub DoesFor : List Text → Kinds → Streams → Told → ℕ → Type 0
DoesFor words [] s told status = DoesTask (subcommand_of program words) s told status
DoesFor words (k ∷ ks) s told status = ShowsText (k ∷ ks) s status

-- what the program does for its words, or for none where one is no text; or memory was refused for reading them
abbrev pub Does : Option (List Text) → Streams → Told → ℕ → Type 0
Does None s told status = DoesNothing s × (status ≡ 2)
Does (Some words) s told status = DoesFor words (refusals words) s told status ⊎ (DoesNothing s × (status ≡ 1))
