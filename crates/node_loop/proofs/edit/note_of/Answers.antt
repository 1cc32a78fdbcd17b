use Rattle.std.proofs.Common.{◌==◌, ℕ, List, sym, ap, subst, ◌∙◌}
use Rattle.protocol_model.specs.Node.{unless_told}
use Rattle.name_table.specs.Changes.{change_of}
use Rattle.term.specs.NodeSets.{set_of, with_older}
use Rattle.node_log.specs.declared.Letter.{Letter}
use Rattle.node_log.specs.declared.Letter.TheVariants.{Down}
use Rattle.node_loop.specs.Editions.{NotedBy}
use Rattle.node_loop.specs.declared.edit.Note.TheVariants.{Nothing, One}
use Rattle.node_loop.specs.declared.edit.Edit.TheVariants.{Write, Departure}
use Rattle.node_loop.proofs.Owing.{dropped, written, gone, asked, quiet}
use Rattle.node_loop.proofs.edit.note_of.Goals as goal

pub returns-in-Apply : goal.returns-in-Apply
returns-in-Apply g c =
    subst (λ (l : Letter). NotedBy Nothing c.args.from.now l c.args.core.now) (sym c.in-Apply.is)
    (dropped c.args.from.now c.args.core.now c.in-Apply.field-0
    (ap (λ (s : List ℕ). with_older s c.args.from.now) (sym c.told.ensures.told) ∙ (sym c.reaches.ensures ∙ c.if-reaches.true)))

pub returns-in-Apply-2 : goal.returns-in-Apply-2
returns-in-Apply-2 g c =
    subst (λ (l : Letter). NotedBy (One (Write c.written_for.result)) c.args.from.now l c.args.core.now) (sym c.in-Apply-2.is)
    (written c.args.from.now c.args.core.now c.in-Apply-2.change c.written_for.result
    (ap (λ (s : List ℕ). with_older s c.args.from.now) (sym c.told.ensures.told) ∙ (sym c.reaches.ensures ∙ c.if-reaches.false))
    (c.written_for.ensures ∙ ap (λ (s : List ℕ). unless_told (with_older s) (change_of c.in-Apply-2.change)) c.told-in-Apply-2.ensures.told))

pub returns-in-Down : goal.returns-in-Down
returns-in-Down g c =
    subst (λ (l : Letter). NotedBy (One (Departure c.copy.result)) c.args.from.now l c.args.core.now) (sym c.in-Down.is)
    (subst (λ (n : ℕ). NotedBy (One (Departure n)) c.args.from.now Down c.args.core.now) (sym c.copy.ensures)
    (gone c.args.from.now c.args.core.now
    (ap (λ (s : List ℕ). set_of s c.args.from.now) (sym c.world.ensures.world) ∙ (sym c.contains-is_known.ensures ∙ c.if-is_known.true))
    (ap (λ (n : ℕ). c.args.from.now == n) (sym c.node.ensures.name) ∙ (sym c.eq-is_own.ensures ∙ c.if-not-is_own.true))))

pub returns-in-JoinAsk : goal.returns-in-JoinAsk
returns-in-JoinAsk g c =
    subst (λ (l : Letter). NotedBy Nothing c.args.from.now l c.args.core.now) (sym c.in-JoinAsk.is)
    (asked c.args.from.now c.args.core.now c.in-JoinAsk.field-0
    (ap (λ (s : List ℕ). set_of s c.args.from.now) (sym c.world.ensures.world) ∙ (sym c.contains-is_known.ensures ∙ c.if-is_known-2.true)))

pub returns-in_default : goal.returns-in_default
returns-in_default g c = quiet c.args.from.now c.args.core.now c.args.letter.now c.in_default.not-Apply c.in_default.not-JoinAsk
    c.in_default.not-Admit c.in_default.not-Welcome c.in_default.not-Down
