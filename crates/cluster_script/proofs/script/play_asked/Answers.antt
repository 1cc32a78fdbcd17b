use Rattle.std.proofs.Common.{sym, subst, Ok}
use Rattle.command_lines.specs.declared.grammar.LineCommand.{LineCommand}
use Rattle.command_lines.specs.Commands.{line_in}
use Rattle.cluster_script.specs.Played.{PlaysAsked}
use Rattle.cluster_script.proofs.script.play_asked.Goals as goal

pub returns-in-Settle : goal.returns-in-Settle
returns-in-Settle g c =
    subst (λ (t : LineCommand). PlaysAsked (Ok (line_in t)) c.args.world.now c.settle.new.world
    (g.W.Write.contents c.args.writer.now) (g.W.Write.contents c.settle.new.writer) c.settle.result)
    (sym c.in-Settle.is) c.settle.ensures
