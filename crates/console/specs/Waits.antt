-- What is waited for.
use Rattle.std.specs.Prelude.{ℕ, Option, Some, None, if◌then◌else◌}
use Rattle.registry_model.specs.Process.{Process, is_process}
use Rattle.command_lines.specs.declared.Reply.{Reply}
use Rattle.command_lines.specs.declared.Reply.TheVariants as reply
use Rattle.console.specs.declared.orders.Awaited.{Awaited}
use Rattle.console.specs.declared.orders.Awaited.TheVariants.{Taken, Lost}

-- the name that is looked up
abbrev pub awaited_name : Awaited → ℕ
awaited_name (Taken x) = x
awaited_name (Lost x p) = x

-- what is answered where a look-up found this owner, if that is what is waited for: the process that has the name; or `ok`, where it isn't this
-- process any more
abbrev pub met_by : Awaited → Option Process → Option Reply
met_by (Taken x) (Some p) = Some (reply.Pid p)
met_by (Taken x) None = None
met_by (Lost x p) (Some q) = if is_process q p then None else Some reply.Ok
met_by (Lost x p) None = Some reply.Ok
