use Rattle.std.proofs.Common.{ℕ, List, subst, arith}
use Rattle.server.specs.Staying.{Starts}
use Rattle.server.proofs.Posting.{none_started, both_started}
use Rattle.server.proofs.staying.staff.start_workers.Goals as goal

pub loop-place-init : goal.loop-place-init
loop-place-init g c = record { started = none_started _ _; within = omega arith }

pub loop-place-preserved : goal.loop-place-preserved
loop-place-preserved g c = record {
  started = both_started c.args.office.now.nodes c.args.threads.now.items c.loop-place.place 1 c.loop-place.threads.items
      c.post.new.threads.items c.loop-place.invariant.started
      (subst (λ (nodes : List ℕ). Starts nodes 1 c.loop-place.threads.items c.post.new.threads.items) c.in_ok-copy.ensures.0 c.in_ok-post.ensures);
  within = omega (arith, c.loop-place-test.true);
}
