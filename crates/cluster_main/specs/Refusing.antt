-- What the program does for words that it doesn't take.
use Rattle.std.specs.Prelude.{ℕ, ◌≡◌, ◌≢◌, ◌⊎◌, codes, List, ◌++◌, Option, Some, IfSome, option_map}
use Rattle.std.specs.Io.KnownBytes.{Keeps}
use Rattle.clap.specs.Values.{kind_of}
use Rattle.clap.specs.declared.error.Error.{Error}
use Rattle.clap.specs.declared.error.kind.ErrorKind.{ErrorKind}
use Rattle.clap.specs.declared.error.kind.ErrorKind.TheVariants as kind
use Rattle.arguments.specs.Faults.{option_text, word_of}
use Rattle.arguments.specs.declared.faults.ArgFault.{ArgFault}
use Rattle.arguments.specs.declared.faults.ArgFault.TheVariants.{Options, Words}
use Rattle.server.specs.Printing.{ended, error_line}
use Rattle.text_lines.specs.Writing.{AppendsPart}

-- the status for words that clap answers itself: 0 for help or the version, 2 for wrong ones, 1 for want of memory
abbrev pub status_for : ErrorKind → ℕ
status_for kind.DisplayHelp = 0
status_for kind.DisplayVersion = 0
status_for kind.OutOfMemory = 1
status_for _ = 2

-- an error of the words was shown, and for a wrong word nothing is printed; the status is 1 also where help or the version
-- can't be written
pub record IsShown (e : Error) (old new : Option (List ℕ)) (status : ℕ) : Type 0 where
  pub status_is : (status ≡ status_for (kind_of e)) ⊎ ((status_for (kind_of e) ≡ 0) × (status ≡ 1))
  pub unprinted : status_for (kind_of e) ≢ 0 → Keeps old new

-- the line that tells of a fault of the nodes, or of options that don't go together
abbrev pub fault_line : ArgFault → Option (List ℕ)
fault_line (Options f) = Some (ended (codes "error: " ++ option_text f))
fault_line fault = option_map error_line (word_of fault)

-- the nodes or the options were refused: nothing is printed, and the line for it was told, or a part of it where it can't be
pub record IsTold (fault : ArgFault) (old new told_old told_new : Option (List ℕ)) (status : ℕ) : Type 0 where
  pub line : List ℕ
  pub line_is : fault_line fault ≡ Some line
  pub unprinted : Keeps old new
  pub told : AppendsPart told_old told_new line
  pub status_is : status ≡ 2

-- what is done for words that have this fault
abbrev pub IsRefused : ArgFault → Option (List ℕ) → Option (List ℕ) → Option (List ℕ) → Option (List ℕ) → ℕ → Type 0
IsRefused (Words e) old new told_old told_new status = IsShown e old new status
IsRefused fault old new told_old told_new status = IsTold fault old new told_old told_new status

-- the line that tells why the value of an option is refused
abbrev pub refusal : List ℕ → List ℕ → List ℕ → List ℕ
refusal option value words =
    codes "error: " ++ (option ++ (codes " " ++ (value ++ (codes ": " ++ (words ++ codes "\n")))))

-- such a line was told, or a part of it: with these words, where they aren't the system's
abbrev pub RefusesValue : List ℕ → List ℕ → Option (List ℕ) → Option (List ℕ) → Option (List ℕ) → Type 0
RefusesValue option value known old new =
    (words : List ℕ) × IfSome known (λ text. words ≡ text) × AppendsPart old new (refusal option value words)
