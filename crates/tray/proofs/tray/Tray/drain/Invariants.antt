use Rattle.std.proofs.Common.{◌≡◌, length}
use Rattle.tray.proofs.Slots.{Going}
use Rattle.tray.proofs.tray.Tray.drain.Given as goal

abbrev pub invariant-loop-place : goal.invariant-loop-place
invariant-loop-place g l = record {
  going : Going g.E.Post.posts g.E.Post.refuses l.fn.self (g.E.Station.state l.fn.post) l.self-inside.slots.items (g.E.Station.state l.post) l.place;
  ends : l.place-end ≡ length l.fn.self;
}
