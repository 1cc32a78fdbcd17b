use Rattle.std.proofs.Common.{ℕ, ◌≡◌, ◌∙◌, None, List, map, ap, sym, subst, arith}
use Rattle.node_core.specs.declared.Answer.{Answer}
use Rattle.node_core.specs.NodeEventsSeen.{answer_of}
use Rattle.cluster_world.specs.Seats.{verdict_in, Waited}
use Rattle.term.specs.declared.limits.TheConstants.{MOST_EVENTS}
use Rattle.cluster_world.proofs.Seats.{begins, ends, refused_end, is_answered, waits_on}
use Rattle.cluster_world.proofs.world.World.wait.Goals as goal

pub loop-init : goal.loop-init
loop-init g c = begins c.args.node.now c.args.number c.args.self.now

pub returns-in-Some-clause-waited : goal.returns-in-Some-clause-waited
returns-in-Some-clause-waited g c =
    is_answered c.args.node.now c.args.number c.args.self.now c.loop.self c.play_next.new.self c.loop.counter
    c.in-Ok.ensures.ok.event c.loop-test.true c.loop.invariant c.in-Ok.ensures.ok.next c.in-Ok.answers.items
    c.in-Ok.ensures.ok.played
    c.in-Some.granted
    (ap (λ (l : List Answer). verdict_in c.args.node.now c.args.number (map answer_of l)) (sym c.as_slice.ensures.value)
    ∙ sym c.verdict_in.ensures ∙ c.in-Some.is)

pub returns-in-Err-clause-waited : goal.returns-in-Err-clause-waited
returns-in-Err-clause-waited g c =
    refused_end c.args.node.now c.args.number c.args.self.now c.loop.self c.play_next.new.self c.loop.counter
    c.in-Err.ensures.refused.event c.loop-test.true c.loop.invariant c.in-Err.ensures.refused.next c.in-Err.refusal
    c.no_answer.result c.in-Err.ensures.refused.refused c.in-Err.ensures.as_before c.no_answer.ensures

pub loop-preserved : goal.loop-preserved
loop-preserved g c =
    waits_on c.args.node.now c.args.number c.args.self.now c.loop.self c.play_next.new.self c.loop.counter
    c.in-Ok.ensures.ok.event c.loop-test.true c.loop.invariant c.in-Ok.ensures.ok.next c.in-Ok.answers.items
    c.in-Ok.ensures.ok.played
    c.play_next.ensures.kept
    (ap (λ (l : List Answer). verdict_in c.args.node.now c.args.number (map answer_of l)) (sym c.as_slice.ensures.value)
    ∙ sym c.verdict_in.ensures ∙ c.in_default.is)

pub returns-clause-waited : goal.returns-clause-waited
returns-clause-waited g c =
    subst (λ (most : ℕ). Waited c.args.node.now c.args.number most c.args.self.now c.loop.self None) over
    (ends c.args.node.now c.args.number c.loop.counter c.args.self.now c.loop.self c.loop.invariant)
  where
    over : c.loop.counter ≡ MOST_EVENTS
    over = omega (arith, c.loop-test.false)
