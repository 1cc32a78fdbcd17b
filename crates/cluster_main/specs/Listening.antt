-- The line that tells where the program listens, and why it doesn't.
use Rattle.std.specs.Prelude.{ℕ, Bool, true, false, ◌≡◌, ◌≢◌, ◌⊎◌, ⊤, codes, nat_lt, List, ◌∷◌, ◌++◌, length, Option, Some, None}
use Rattle.std.specs.Fmt.{decimal}
use Rattle.term.specs.declared.limits.TheConstants.{LONGEST_PATH}
use Rattle.arguments.specs.Together.{NamesSocket}
use Rattle.server.specs.Printing.{ended}
use Rattle.server.specs.declared.listener.Listener.{Listener}
use Rattle.server.specs.declared.listener.Listener.TheVariants.{Tcp, Unix}
use Rattle.cluster_main.specs.declared.sockets.ListenFault.{ListenFault}
use Rattle.cluster_main.specs.declared.sockets.ListenFault.TheVariants.{InUse, NotASocket, TooLong, InTheWay, System}

-- this is where consoles come in that are sent to an address: a socket where it names one, and else the network
abbrev pub EntersAt : List ℕ → Listener → Type 0
EntersAt address (Unix listener) = (path : List ℕ) × NamesSocket address (Some path)
EntersAt address (Tcp listener) = NamesSocket address None

-- the port at an entry: which one, and whether it is known, is for the system; a socket has none
abbrev pub IsPortOf : Listener → Option ℕ → Type 0
IsPortOf (Unix listener) port = port ≡ None
IsPortOf (Tcp listener) port = ⊤

-- an address was written as `HOST:0` and is told with this port, or it is told as it was written
abbrev pub HasPort : List ℕ → ℕ → List ℕ → Type 0
HasPort written port told =
    ((host : List ℕ) × (written ≡ host ++ codes ":0") × (told ≡ host ++ 58 ∷ decimal port))
    ⊎ (((host : List ℕ) → written ≢ host ++ codes ":0") × (told ≡ written))

-- the same, where a port is known; else it is told as it was written
abbrev pub TellsAddress : List ℕ → Option ℕ → List ℕ → Type 0
TellsAddress written (Some port) told = HasPort written port told
TellsAddress written None told = told ≡ written

-- the line that tells this address
abbrev pub listening_line : List ℕ → List ℕ
listening_line address = ended (codes "listening " ++ address)

-- a line that tells of the address that was written, of a socket just so: whether another's port is known, and which it is, is for
-- the system
pub record IsListeningLine (written line : List ℕ) : Type 0 where
  pub port : Option ℕ
  pub told : List ℕ
  pub tells : TellsAddress written port told
  pub socket : (path : List ℕ) → NamesSocket written (Some path) → told ≡ written
  pub is : line ≡ listening_line told

-- the fault is that a path is longer
abbrev pub is_too_long : ListenFault → Bool
is_too_long TooLong = true
is_too_long _ = false

-- nothing can listen at an address for this fault: the path of a socket is too long just where that is said
abbrev pub RefusesAddress : List ℕ → ListenFault → Type 0
RefusesAddress address fault =
    (path : List ℕ) → NamesSocket address (Some path) → is_too_long fault ≡ nat_lt LONGEST_PATH (length path)

-- what is told of the fault, where the system doesn't say it
abbrev pub listen_words : ListenFault → Option (List ℕ)
listen_words InUse = Some (codes "in use")
listen_words NotASocket = Some (codes "not a socket")
listen_words TooLong = Some (codes "too long")
listen_words InTheWay = Some (codes "PATH.new is in the way")
listen_words (System e) = None
