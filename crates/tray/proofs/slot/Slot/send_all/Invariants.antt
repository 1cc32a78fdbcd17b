use Rattle.std.proofs.Common.{◌≡◌, length}
use Rattle.tray.proofs.Draining.{Going}
use Rattle.tray.proofs.slot.Slot.send_all.Given as goal

abbrev pub invariant-loop : goal.invariant-loop
invariant-loop g l = record {
  receiver : l.self-inside.receiver ≡ l.fn.self.receiver;
  going : Going g.E.Post.posts g.E.Post.refuses l.fn.self.receiver l.fn.self.letters (g.E.Station.state l.fn.post) l.self-inside.letters.items (g.E.Station.state l.post) l.counter;
  ends : l.end ≡ length l.fn.self.letters;
}
