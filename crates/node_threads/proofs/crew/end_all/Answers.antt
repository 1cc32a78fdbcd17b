use Rattle.std.proofs.Common.{◌≡◌, ◌++◌, ◌∷◌, [], Vec, List, map, ap, ◌∙◌}
use Rattle.std.specs.declared.alloc.Global.{Global}
use Rattle.std.proofs.lemmas.List.{map_push}
use Rattle.node_loop.specs.declared.item.Item.{Item}
use Rattle.node_seats.specs.Lines.{Sent}
use Rattle.replay.specs.Ends.{End, end_by}
use Rattle.node_threads.proofs.Gathering.{one_more_returned, one_more_past}
use Rattle.node_threads.proofs.crew.end_all.Goals as goal

pub loop-one-2-preserved : goal.loop-one-2-preserved
loop-one-2-preserved g c =
    let ends : List End = map (end_by g.N.Names.contents g.L.Record.logged) c.loop-one-2.gathered.ends.items in
    let end : End = end_by g.N.Names.contents g.L.Record.logged c.join-returned.result.end in
    let more : List End = map (end_by g.N.Names.contents g.L.Record.logged) c.add.new.self.ends.items in
    let ends_more : more ≡ ends ++ end ∷ [] = ap (map (end_by g.N.Names.contents g.L.Record.logged)) (c.add.ensures.ends c.if-not-add.false)
    ∙ map_push (end_by g.N.Names.contents g.L.Record.logged) c.loop-one-2.gathered.ends.items c.join-returned.result.end in
    record {
      back = λ whole. one_more_returned c.loop-one-2.yielded ends (map (λ row. row.items) c.loop-one-2.gathered.rows.items) c.loop-one-2.gathered.intakes.items
          (c.loop-one-2.invariant.back whole) c.in-Some.one end c.join-returned.result.lines.items c.join-returned.result.intake c.join-returned.ensures.end more
          (map (λ row. row.items) c.add.new.self.rows.items) c.add.new.self.intakes.items ends_more
          (ap (map (λ (v : Vec (Sent Item) Global). v.items)) (c.add.ensures.rows c.if-not-add.false)
          ∙ map_push (λ (v : Vec (Sent Item) Global). v.items) c.loop-one-2.gathered.rows.items c.join-returned.result.lines)
          (c.add.ensures.intakes c.if-not-add.false);
      pasts = λ whole. one_more_past c.loop-one-2.yielded ends c.loop-one-2.gathered.pasts.items (c.loop-one-2.invariant.pasts whole)
          (c.loop-one-2.invariant.back whole).as_many_ends c.in-Some.one end c.join-returned.result.past c.join-returned.ensures.past
          more c.add.new.self.pasts.items ends_more (c.add.ensures.pasts c.if-not-add.false);
    }
