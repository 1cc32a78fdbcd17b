use Rattle.std.proofs.Common.{◌++◌, ◌∷◌, [], List, map, take, get_or, set, sym, ap, ◌∙◌, arith, append-nil}
use Rattle.std.proofs.lemmas.List.{drop_all, get_or_default, map_more, take_all}
use Rattle.std.proofs.lemmas.List.Edits.{map_over_more}
use Rattle.node_loop.specs.declared.item.Item.{Item}
use Rattle.node_seats.specs.Lines.{Sent}
use Rattle.node_threads.specs.Berths.{Berthed, next_line, one_more}
use Rattle.node_threads.proofs.Connecting.{read_next}
use Rattle.node_threads.proofs.berths.lines_to.Goals as goal

pub loop-berth-preserved : goal.loop-berth-preserved
loop-berth-preserved g c =
    let berth : Berthed = get_or c.loop-berth.berths c.loop-berth.berth-index c.berth-item.result in
    record {
      more = ap (set c.loop-berth.berths c.loop-berth.berth-index) c.in_ok-line.ensures.more
          ∙ map_over_more one_more c.args.berths.now c.loop-berth.berths c.loop-berth.berth-index berth c.loop-berth-test.true
          c.loop-berth.invariant.more
          (get_or_default c.loop-berth.berths c.loop-berth.berth-index c.berth-item.result berth
          (omega (arith, c.loop-berth-test.true, c.loop-berth.auto.berths)));
      lines = c.in_ok-push.ensures.items
          ∙ ap (λ (ls : List (Sent Item)). ls ++ c.in_ok-line.field-0 ∷ []) c.loop-berth.invariant.lines
          ∙ ap (λ (l : Sent Item). map next_line (take c.loop-berth.berth-index c.args.berths.now) ++ l ∷ [])
          (c.in_ok-line.ensures.line
          ∙ ap next_line (read_next one_more c.args.berths.now c.loop-berth.berths c.loop-berth.berth-index c.berth-item.result
          c.loop-berth-test.true c.loop-berth.invariant.more))
          ∙ sym (map_more next_line c.args.berths.now c.loop-berth.berth-index c.berth-item.result c.loop-berth-test.true);
    }

pub returns-clause-more : goal.returns-clause-more
returns-clause-more g c =
    c.loop-berth.invariant.more
    ∙ (λ j. map one_more (take_all c.loop-berth.berth-index c.args.berths.now c.loop-berth-test.false j)
    ++ drop_all c.loop-berth.berth-index c.args.berths.now c.loop-berth-test.false j)
    ∙ append-nil (map one_more c.args.berths.now)
