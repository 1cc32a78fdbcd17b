use Rattle.std.proofs.Common.{ap, sym, ◌∙◌, string_bytes}
use Rattle.registry_model.specs.Table.{Table}
use Rattle.protocol_model.specs.NamedEvents.{TableIs}
use Rattle.std.proofs.lemmas.Bool.{false≢true}
use Rattle.command_lines.specs.Printing.{output_line}
use Rattle.cluster_script.specs.Played.{table_of}
use Rattle.cluster_script.proofs.Shown.{IsShown-none, IsShown-left, IsShown-table, left_at}
use Rattle.cluster_script.proofs.looking.line_of_table.Goals as goal

pub returns-in_default : goal.returns-in_default
returns-in_default c =
    IsShown-none c.args.world.now c.args.name.now (table_of c.args.world.now c.args.name.now) (sym c.in_default.ensures.here)

pub returns-then-has_left : goal.returns-then-has_left
returns-then-has_left c =
    IsShown-left c.args.world.now c.args.name.now (table_of c.args.world.now c.args.name.now) (sym c.in-Some.ensures.here)
    (left_at c.args.world.now c.args.name.now c.in-Some.node.now _ c.in-Some.ensures.node.1
    (sym c.has_left.ensures ∙ c.if-has_left.true))

pub returns-in_default-table : goal.returns-in_default-table
returns-in_default-table c = absurd (false≢true (c.in_default-table.ensures.here ∙ c.in-Some.ensures.node.0))

pub returns : goal.returns
returns c =
    IsShown-table c.args.world.now c.args.name.now c.in-Some.node.now c.in_ok-pairs.pairs.items (string_bytes c.in_ok-table_line.field-0)
    (sym c.in-Some.ensures.here) c.in-Some.ensures.node.1 (sym c.has_left.ensures ∙ c.if-has_left.false)
    (c.in_ok-pairs.ensures.all ∙ c.in-Some-table.ensures.table)
    (c.in_ok-table_line.ensures ∙ ap (λ (t : Table). output_line (TableIs t)) c.deref.ensures.value)
