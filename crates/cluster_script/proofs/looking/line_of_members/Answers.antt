use Rattle.std.proofs.Common.{ℕ, List, ap, sym, ◌∙◌, string_bytes}
use Rattle.protocol_model.specs.NamedEvents.{MembersAre}
use Rattle.std.proofs.lemmas.Bool.{false≢true}
use Rattle.command_lines.specs.Printing.{output_line}
use Rattle.cluster_script.specs.Played.{members_of}
use Rattle.cluster_script.proofs.Shown.{IsShown-none, IsShown-left, IsShown-members, left_at}
use Rattle.cluster_script.proofs.looking.line_of_members.Goals as goal

pub returns-in_default : goal.returns-in_default
returns-in_default c =
    IsShown-none c.args.world.now c.args.name.now (members_of c.args.world.now c.args.name.now) (sym c.in_default.ensures.here)

pub returns-then-has_left : goal.returns-then-has_left
returns-then-has_left c =
    IsShown-left c.args.world.now c.args.name.now (members_of c.args.world.now c.args.name.now) (sym c.in-Some.ensures.here)
    (left_at c.args.world.now c.args.name.now c.in-Some.node.now _ c.in-Some.ensures.node.1
    (sym c.has_left.ensures ∙ c.if-has_left.true))

pub returns-in_default-members : goal.returns-in_default-members
returns-in_default-members c = absurd (false≢true (c.in_default-members.ensures.here ∙ c.in-Some.ensures.node.0))

pub returns : goal.returns
returns c =
    IsShown-members c.args.world.now c.args.name.now c.in-Some.node.now c.in-Some-members.members.now
    (string_bytes c.in_ok-members_line.field-0)
    (sym c.in-Some.ensures.here) c.in-Some.ensures.node.1 (sym c.has_left.ensures ∙ c.if-has_left.false)
    c.as_slice.ensures.set (c.in-Some-members.ensures.within (sym c.has_left.ensures ∙ c.if-has_left.false))
    c.in-Some-members.ensures.members
    (c.in_ok-members_line.ensures ∙ ap (λ (xs : List ℕ). output_line (MembersAre xs)) c.as_slice.ensures.nodes)
