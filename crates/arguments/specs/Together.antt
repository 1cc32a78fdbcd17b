-- Which options of `serve` go together.
use Rattle.std.specs.Prelude.{◌≡◌, ◌≢◌, ℕ, Bool, true, false, List, ◌++◌, codes, Option, Some, None, is_some, nat_lt, string_bytes}
use Rattle.term.specs.declared.limits.TheConstants.{MOST_CONSOLES}
use Rattle.arguments.specs.declared.faults.OptionFault.{OptionFault}
use Rattle.arguments.specs.declared.faults.OptionFault.TheVariants.{CookieFile, Idle, Socket, Consoles, NoCookieFile}
use Rattle.arguments.specs.declared.mode.ServeOptions.{ServeOptions}

-- an address names the socket at this path, or is one of the network
abbrev pub NamesSocket : List ℕ → Option (List ℕ) → Type 0
NamesSocket address (Some path) = address ≡ codes "unix:" ++ path
NamesSocket address None = (path : List ℕ) → address ≢ codes "unix:" ++ path

-- the first fault of options, by whether the server stays, has a cookie file, has a limit of silence, listens at a socket and has more
-- consoles than one has that doesn't stay
abbrev pub clash : (stay file limit socket many : Bool) → Option OptionFault
clash false true limit socket many = Some CookieFile
clash false false true socket many = Some Idle
clash false false false true many = Some Socket
clash false false false false true = Some Consoles
clash true false limit false many = Some NoCookieFile
clash stay file limit socket many = None

-- the first of the options that doesn't go with the others has this fault, or all go together
abbrev pub Clashes : ServeOptions → Option OptionFault → Type 0
Clashes o fault = (socket : Option (List ℕ)) × NamesSocket (string_bytes o.listen) socket
    × (fault ≡ clash o.stay (is_some o.cookie_file) (is_some o.idle) (is_some socket) (nat_lt MOST_CONSOLES o.consoles))
