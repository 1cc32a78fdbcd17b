use Rattle.std.proofs.Common.{◌≡◌, ◌++◌, ◌∷◌, [], List, Vec, map, sym, ap, subst, ◌∙◌, arith, append-nil, append_assoc}
use Rattle.std.specs.declared.alloc.Global.{Global}
use Rattle.std.proofs.lemmas.List.{map_push, nil_from_length}
use Rattle.node_loop.specs.declared.item.Item.{Item}
use Rattle.node_seats.specs.Lines.{Sent}
use Rattle.node_threads.specs.Drawing.{CompareAll, AllCompared}
use Rattle.node_threads.proofs.Comparing.{all_compared_more}
use Rattle.node_threads.proofs.intake.compare_all.Goals as goal

pub loop-row-preserved : goal.loop-row-preserved
loop-row-preserved c = record {
  same = c.compare_row.ensures.same ∙ c.loop-row.invariant.same;
  parts = append_assoc c.loop-row.yielded (c.in-Some.row ∷ []) c.next.new.self.rest.items
      ∙ ap (λ (l : List (Vec (Sent Item) Global)). c.loop-row.yielded ++ l) (sym c.in-Some.ensures.steps.0) ∙ c.loop-row.invariant.parts;
  compared = subst (λ (rs : List (List (Sent Item))). AllCompared rs c.args.intakes.now)
      (sym (map_push (λ (v : Vec (Sent Item) Global). v.items) c.loop-row.yielded c.in-Some.row))
      (all_compared_more (map (λ (v : Vec (Sent Item) Global). v.items) c.loop-row.yielded) c.in-Some.row.items c.args.intakes.now
      c.loop-row.invariant.compared (subst (CompareAll c.in-Some.row.items) c.loop-row.invariant.same c.compare_row.ensures.compared));
}

pub returns-clause-compared : goal.returns-clause-compared
returns-clause-compared c =
    let over : c.loop-row.row-iterator.rest.items ≡ [] =
    nil_from_length c.loop-row.row-iterator.rest.items
    (omega (arith, c.loop-row.row-iterator.rest.ok.0, c.in-None.ensures.steps.0)) in
    subst (λ (rs : List (Vec (Sent Item) Global)). AllCompared (map (λ (v : Vec (Sent Item) Global). v.items) rs) c.args.intakes.now)
    (sym (append-nil c.loop-row.yielded) ∙ ap (λ (l : List (Vec (Sent Item) Global)). c.loop-row.yielded ++ l) (sym over)
    ∙ c.loop-row.invariant.parts) c.loop-row.invariant.compared
