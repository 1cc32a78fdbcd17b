-- What the program does where it is to serve consoles.
use Rattle.std.specs.Prelude.{ℕ, ◌≡◌, Bool, true, false, ⊤, codes, string_bytes, option_map, List, Option, Some, None, Result, Ok}
use Rattle.std.specs.Io.KnownBytes.{Appends, Keeps}
use Rattle.arguments.specs.Together.{Clashes}
use Rattle.arguments.specs.declared.mode.ServeOptions.{ServeOptions}
use Rattle.server.specs.Openings.{start_refused}
use Rattle.text_lines.specs.Writing.{AppendsPart}
use Rattle.server.specs.Serving.{ServesCluster}
use Rattle.server.specs.Staying.{StaysCluster}
use Rattle.server.specs.declared.faults.ServeFault.{ServeFault}
use Rattle.server.specs.declared.staying.options.StayOptions.{StayOptions}
use Rattle.cluster_main.specs.Cookies.{cookie_words}
use Rattle.cluster_main.specs.Listening.{IsListeningLine, RefusesAddress, listen_words}
use Rattle.cluster_main.specs.Refusing.{RefusesValue}
use Rattle.cluster_main.specs.declared.serving.Served.{Served}
use Rattle.cluster_main.specs.declared.serving.Served.TheVariants.{NoCookie, NotListening, NotAnnounced, Ran, Stayed}

-- a cluster can be started with these nodes, and the options go together
pub record IsReady (o : ServeOptions) : Type 0 where
  pub starts : start_refused o.cluster o.lone ≡ None
  pub together : Clashes o None

-- a server that stays is told what these options say, and this cookie
pub record StaysSo (o : ServeOptions) (cookie : Option (List ℕ)) (told : StayOptions) : Type 0 where
  pub consoles : told.consoles ≡ o.consoles
  pub idle : told.idle ≡ o.idle
  pub cookie_is : told.cookie ≡ cookie

-- what is printed: nothing where there is no cookie or nothing listens, a part of the line that tells of it where that can't be
-- printed, and else that line and then what serving so many consoles prints; a server that stays prints that line once all is there to
-- serve with
abbrev pub Serves : ServeOptions → Option (List ℕ) → Option (List ℕ) → Served → Type 0
Serves o old new (NoCookie f) = Keeps old new
Serves o old new (NotListening f) = Keeps old new
Serves o old new NotAnnounced =
    (line : List ℕ) × IsListeningLine (string_bytes o.listen) line × AppendsPart old new line
Serves o old new (Ran r) = (o.stay ≡ false) × (line : List ℕ) × IsListeningLine (string_bytes o.listen) line
    × (between : Option (List ℕ)) × Appends old between line × ServesCluster o.cluster o.lone o.consoles between new r
Serves o old new (Stayed r) = (o.stay ≡ true) × (line : List ℕ) × IsListeningLine (string_bytes o.listen) line
    × StaysCluster o.cluster o.lone line old new r

-- what is told on standard error: why there is no cookie in the file that is named for it, or why nothing listens, and nothing else but
-- what a server that stays tells while it runs
abbrev pub TellsWhy : ServeOptions → Option (List ℕ) → Option (List ℕ) → Served → Type 0
TellsWhy o old new (NoCookie f) = (file : List ℕ) × (option_map string_bytes o.cookie_file ≡ Some file)
    × RefusesValue (codes "--cookie-file") file (cookie_words f) old new
TellsWhy o old new (NotListening f) = RefusesAddress (string_bytes o.listen) f
    × RefusesValue (codes "--listen") (string_bytes o.listen) (listen_words f) old new
TellsWhy o old new NotAnnounced = Keeps old new
TellsWhy o old new (Ran r) = Keeps old new
TellsWhy o old new (Stayed r) = ⊤

-- it listened
abbrev pub Listened : Served → Type 0
Listened (NoCookie f) = ⊥
Listened (NotListening f) = ⊥
Listened _ = ⊤

-- the status: 0 where the cluster was served to its end and its run was one of the world's, and else 1
abbrev pub served_status : Served → ℕ
served_status (Ran (Ok true)) = 0
served_status (Stayed (Ok true)) = 0
served_status _ = 1
