use Rattle.std.proofs.Common.{take}
use Rattle.console.specs.Consoles.{Exits}
use Rattle.console.proofs.answering.exit_all.Given as goal

-- those before have been asked to exit
abbrev pub invariant-loop-process : goal.invariant-loop-process
invariant-loop-process g l = Exits g.A.Attendant.answers (take l.process-index l.process-items) (g.A.Attendant.state l.fn.attendant) (g.A.Attendant.state l.attendant)
