use Rattle.std.proofs.Common.{refl}
use Rattle.protocol_model.specs.NamedEvents.{TableAt}
use Rattle.term.specs.Nodes.{text_in}
use Rattle.cluster_script.specs.Played.{table_of}
use Rattle.cluster_script.proofs.Shown.{PlaysAsked-node}
use Rattle.cluster_script.proofs.looking.show_table.Goals as goal

pub returns : goal.returns
returns g c =
    PlaysAsked-node c.args.world.now c.args.name.now (table_of c.args.world.now c.args.name.now)
    (TableAt (text_in c.args.name.now)) c.line_of_table.result refl refl (g.W.Write.contents c.args.writer.now)
    (g.W.Write.contents c.write_shown.new.writer) c.write_shown.result c.line_of_table.ensures c.write_shown.ensures.text
    c.write_shown.ensures.fine
