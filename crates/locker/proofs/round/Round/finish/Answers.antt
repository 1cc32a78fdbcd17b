use Rattle.std.proofs.Common.{Bool, sym, ap, ◌∙◌, subst}
use Rattle.std.specs.Prelude.{if◌then◌else◌}
use Rattle.protocol_model.specs.Round as protocol
use Rattle.term.specs.NodeSets.{set_of}
use Rattle.locker.specs.RoundState.{seen}
use Rattle.locker.specs.Ends.{granted_by, EndsAs}
use Rattle.locker.specs.declared.ending.Ending.{Ending}
use Rattle.locker.specs.declared.ending.Ending.TheVariants.{Held, GiveBack}
use Rattle.locker.proofs.Endings.{EndsAs-end_of}
use Rattle.locker.proofs.round.Round.finish.Goals as goal

pub returns-then-is_won-clause-protocol : goal.returns-then-is_won-clause-protocol
returns-then-is_won-clause-protocol c = λ n below members_below. subst
    (λ (e : Ending). EndsAs e (protocol.ending n (set_of c.args.members.now) (seen c.args.self.now)))
    (ap (λ (b : Bool). if b then Held else GiveBack (granted_by c.args.self.now)) (sym c.if-is_won.ensures.value))
    (EndsAs-end_of c.args.self.now c.args.members.now n c.is_won.ensures.round c.is_won.ensures.members below
    members_below)

pub returns-else-is_won-clause-protocol : goal.returns-else-is_won-clause-protocol
returns-else-is_won-clause-protocol c = λ n below members_below. subst
    (λ (e : Ending). EndsAs e (protocol.ending n (set_of c.args.members.now) (seen c.args.self.now)))
    (ap (λ (b : Bool). if b then Held else GiveBack (granted_by c.args.self.now)) (sym c.if-is_won.ensures.value)
    ∙ ap GiveBack (sym c.granted.ensures))
    (EndsAs-end_of c.args.self.now c.args.members.now n c.is_won.ensures.round c.is_won.ensures.members below
    members_below)
