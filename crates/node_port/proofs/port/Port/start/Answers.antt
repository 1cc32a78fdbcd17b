use Rattle.std.proofs.Common.{refl, sym, ◌∙◌}
use Rattle.node_port.specs.Commands.{Follows, Strange, Untold}
use Rattle.node_port.specs.Shown.{Misses, Untells}
use Rattle.node_port.specs.declared.commands.Command.TheVariants.{Started}
use Rattle.node_port.proofs.Growing.{grows_answer}
use Rattle.node_port.proofs.Starting.{strange_start, untold_start, starts_so}
use Rattle.node_port.proofs.port.Port.start.Goals as goal

pub replace-requires-clause-may : goal.replace-requires-clause-may
replace-requires-clause-may c =
    let at = c.in-Some.ensures in record {
      next_is = at.0;
      another = c.was_told.ensures.another c.if-not-was_told.false;
      running = at.4;
      new = at.3;
      known = at.2;
      told = sym c.was_told.ensures.told ∙ c.if-not-was_told.false;
    }

pub returns-in_default : goal.returns-in_default
returns-in_default c =
    let a = c.args.self.now in
    let b = record a { output = record a.output { answers = c.push_no_such_node.new.text } } in (
      Strange (Started c.args.next.now),
      refl,
      strange_start c.args.next.now a b (rw c.in_default.is at c.place_for.ensures) refl
          (grows_answer Misses a.output b.output refl c.in_ok-push_no_such_node.ensures),
    )

pub returns-then-not-was_told : goal.returns-then-not-was_told
returns-then-not-was_told c =
    let a = c.args.self.now in
    let b = record a { output = record a.output { answers = c.push_untold.new.text } } in
    let at = c.in-Some.ensures in (
      Untold c.args.next.now,
      refl,
      untold_start c.args.next.now a b (record {
        older = c.in-Some.older;
        next_is = at.0;
        alone = at.1;
        known = at.2;
        untold = sym c.was_told.ensures.told ∙ c.if-not-was_told.true;
      }) refl (grows_answer Untells a.output b.output refl c.in_ok-push_untold.ensures),
    )

pub returns : goal.returns
returns c = (
  Follows (Started c.args.next.now),
  refl,
  starts_so c.args.next.now c.args.self.now c.replace.new.self c.replace.ensures.start c.replace.ensures.output,
)
