-- The order in which lock calls go that wait at a server.
use Rattle.std.specs.Prelude.{ℕ, Bool, true, not, nat_lt, ◌==◌, ◌&&◌, ◌||◌, List, unwrap_or, if◌then◌else◌}
use Rattle.std.specs.List.{list_any, find}
use Rattle.std.specs.Option.{option_map}
use Rattle.registry_model.specs.Process.{Process, is_process}
use Rattle.lock_lines.specs.declared.request.Request.{Request}
use Rattle.lock_lines.specs.declared.waiting_calls.LineCall.{LineCall}
use Rattle.lock_lines.specs.Requests.{are_rivals, is_for_more}

-- it came before one that it keeps waiting
abbrev pub goes_before : LineCall → LineCall → Bool
goes_before c d = nat_lt c.number d.number && are_rivals c.request d.request

-- it passes all others, or none of these came before it and keeps it waiting
abbrev pub has_turn : List LineCall → LineCall → Bool
has_turn calls d = d.passes || (not (list_any (λ c. goes_before c d) calls))

-- the call with this number has its turn, or isn't in the line any more
abbrev pub may_go : List LineCall → ℕ → Bool
may_go calls number = unwrap_or (option_map (has_turn calls) (find (λ c. c.number == number) calls)) true

-- it passes all others
abbrev pub passing : LineCall → LineCall
passing c = record c { passes = true }

-- it does where it is for more of what is asked for
abbrev pub let_pass_with : Request → LineCall → LineCall
let_pass_with request c = if is_for_more c.request request then passing c else c

-- it does where it is the process's
abbrev pub holder_passes : Process → LineCall → LineCall
holder_passes holder c = if is_process c.request.holder holder then passing c else c
