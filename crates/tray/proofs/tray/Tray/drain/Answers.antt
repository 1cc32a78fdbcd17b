use Rattle.std.proofs.Common.{◌≡◌, ◌<◌, ◌∙◌, List, ap, subst, length, slice_index_or, arith}
use Rattle.std.proofs.lemmas.Grind.{common_steps}
use Rattle.tray.specs.Held.{Waiting}
use Rattle.tray.specs.Draining.{Drained}
use Rattle.tray.proofs.Slots.{Going, begins, goes_on}
use Rattle.tray.proofs.tray.Tray.drain.Goals as goal

pub loop-place-init : goal.loop-place-init
loop-place-init g c = record {
  going = subst (λ (old : List (Waiting g.row.L.Denot)). Going g.E.Post.posts g.E.Post.refuses old (g.E.Station.state c.args.post.now) c.self.inside.slots.items (g.E.Station.state c.args.post.now) 0)
      c.self.view_is (begins g.E.Post.posts g.E.Post.refuses c.self.inside.slots.items (g.E.Station.state c.args.post.now));
  ends = grind (arith, common_steps, c.len-place-end.ensures, ap length c.self.view_is);
}

pub loop-place-preserved : goal.loop-place-preserved
loop-place-preserved g c =
    let now : List (Waiting g.row.L.Denot) = c.loop-place.self-inside.slots.items in
    let at : c.index_mut.result.now ≡ slice_index_or now c.loop-place.place c.index_mut.result.now = c.index_mut.ensures.value in
    let less : c.loop-place.place < length c.args.self.now = grind (arith, c.loop-place-test.true, c.loop-place.invariant.ends) in
    record {
      going = goes_on g.E.Post.posts g.E.Post.refuses _ now _ _ _ c.loop-place.place c.index_mut.result.now c.drain.new.self c.loop-place.invariant.going less
          (c.drain.ensures.receiver ∙ ap (λ (w : Waiting g.row.L.Denot). w.receiver) at)
          (subst (λ (w : Waiting g.row.L.Denot). Drained g.E.Post.posts g.E.Post.refuses w.receiver w.letters (g.E.Station.state c.loop-place.post) c.drain.new.self.letters (g.E.Station.state c.drain.new.post)) at c.drain.ensures.drained);
      ends = c.loop-place.invariant.ends;
    }
