use Rattle.std.proofs.Common.{ℕ, subst}
use Rattle.tray.proofs.Draining.{goes_on}
use Rattle.tray.proofs.slot.Slot.send_all.Goals as goal

pub loop-preserved : goal.loop-preserved
loop-preserved g c = record {
  receiver = c.loop.invariant.receiver;
  going = goes_on g.E.Post.posts g.E.Post.refuses _ _ _ c.in-Some.letter _ _ _ _ _ c.in-Some.ensures.items c.loop.invariant.going
      (subst (λ (a : ℕ). g.E.Post.posts (g.E.Station.state c.loop.post) a c.in-Some.letter (g.E.Station.state c.send.new.self)) c.loop.invariant.receiver c.in_default-send.ensures);
  ends = c.loop.invariant.ends;
}
