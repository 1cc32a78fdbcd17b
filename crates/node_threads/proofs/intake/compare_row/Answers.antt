use Rattle.std.proofs.Common.{ℕ, ◌+◌, ◌≡◌, ◌<◌, ◌++◌, ◌∷◌, [], List, length, map, get_or, set, sym, ap, subst, ◌∙◌, arith, append-nil, append_assoc}
use Rattle.std.proofs.lemmas.List.{get_or_default, length_push, nil_from_length, set-get_or}
use Rattle.node_loop.specs.declared.item.Item.{Item}
use Rattle.node_seats.specs.Lines.{Sent}
use Rattle.node_threads.specs.Drawing.{Drawn, CompareAll}
use Rattle.node_threads.proofs.Comparing.{has_inbox, room_at, compared_more}
use Rattle.node_threads.proofs.intake.compare_row.Goals as goal

pub compare-requires : goal.compare-requires
compare-requires c = room_at c.args.row.items c.loop-line.yielded c.next.new.self.rest.items c.in-Some.line c.loop-line.intakes
    (c.requires ∙ ap (map (λ (x : Drawn). x.inbox.room)) (sym c.loop-line.invariant.same))
    (ap (λ (l : List (Sent Item)). c.loop-line.yielded ++ l) (sym c.in-Some.ensures.steps.0) ∙ c.loop-line.invariant.parts)
    c.index-intakes-place.result
    ∙ ap (λ (n : ℕ). (get_or c.loop-line.intakes n c.index-intakes-place.result).inbox.room) (sym c.loop-line.invariant.at)

pub loop-line-preserved : goal.loop-line-preserved
loop-line-preserved c =
    let parts : c.loop-line.yielded ++ c.in-Some.line ∷ c.next.new.self.rest.items ≡ c.args.row.items =
    ap (λ (l : List (Sent Item)). c.loop-line.yielded ++ l) (sym c.in-Some.ensures.steps.0) ∙ c.loop-line.invariant.parts in
    let within : length c.loop-line.yielded < length c.args.intakes.now =
    has_inbox c.args.row.items c.loop-line.yielded c.next.new.self.rest.items c.in-Some.line c.args.intakes.now c.requires parts in
    record {
      same = ap (set c.loop-line.intakes c.loop-line.place) c.compare.ensures.same
          ∙ set-get_or c.loop-line.intakes c.loop-line.place c.index-intakes-place.result ∙ c.loop-line.invariant.same;
      parts = append_assoc c.loop-line.yielded (c.in-Some.line ∷ []) c.next.new.self.rest.items ∙ parts;
      at = ap (λ (n : ℕ). n + 1) c.loop-line.invariant.at ∙ sym (length_push c.loop-line.yielded c.in-Some.line);
      compared = compared_more c.loop-line.yielded c.in-Some.line c.args.intakes.now
          (get_or c.loop-line.intakes c.loop-line.place c.index-intakes-place.result) c.loop-line.invariant.compared c.compare.ensures.compared
          (λ e. ap (λ (ds : List Drawn). get_or ds (length c.loop-line.yielded) e) (sym c.loop-line.invariant.same)
          ∙ ap (λ (n : ℕ). get_or c.loop-line.intakes n e) (sym c.loop-line.invariant.at)
          ∙ get_or_default c.loop-line.intakes c.loop-line.place e c.index-intakes-place.result
          (omega (arith, within, c.loop-line.invariant.at, c.loop-line.auto.intakes)));
    }

pub returns-clause-compared : goal.returns-clause-compared
returns-clause-compared c =
    let over : c.loop-line.line-iterator.rest.items ≡ [] =
    nil_from_length c.loop-line.line-iterator.rest.items
    (omega (arith, c.loop-line.line-iterator.rest.ok.0, c.in-None.ensures.steps.0)) in
    subst (λ (ls : List (Sent Item)). CompareAll ls c.args.intakes.now)
    (sym (append-nil c.loop-line.yielded) ∙ ap (λ (l : List (Sent Item)). c.loop-line.yielded ++ l) (sym over)
    ∙ c.loop-line.invariant.parts) c.loop-line.invariant.compared
