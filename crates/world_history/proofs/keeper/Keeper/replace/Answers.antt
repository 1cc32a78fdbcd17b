use Rattle.std.proofs.Common.{◌≡◌, ◌<◌, length, arith, below_more, sym, ap, ◌∙◌}
use Rattle.std.proofs.lemmas.Bool.{eqb-true}
use Rattle.std.proofs.lemmas.Bool.Decides.{nat_tests}
use Rattle.std.proofs.lemmas.List.{map-set, get_or-map, length-map}
use Rattle.world_history.proofs.Replaced.{replaced-at, replaced-none}
use Rattle.world_history.proofs.keeper.Keeper.replace.Goals as goal

pub returns : goal.returns
returns c =
    rw (← c.loop-place.invariant.same)
    (replaced-none _ _ c.args.next.value (λ k inside.
    let n : k < length c.loop-place.self.nodes.items = simp length-map at inside in
    let s : length c.loop-place.self.nodes.items ≡ length c.args.self.now.nodes.items = ap length c.loop-place.invariant.same in
    c.loop-place.invariant.before k (omega (arith, c.args.self.now.nodes.ok.0))))

pub returns-then-eq : goal.returns-then-eq
returns-then-eq c =
    let s : length c.loop-place.self.nodes.items ≡ length c.args.self.now.nodes.items = ap length c.loop-place.invariant.same in
    let inside : c.loop-place.place < length c.loop-place.self.nodes.items = omega (arith, c.args.self.now.nodes.ok.0) in
    rw (← c.loop-place.invariant.same, map-set)
    (replaced-at _ c.loop-place.place _ _ (simp length-map inside) c.loop-place.invariant.before
    (get_or-map (λ n. n.value) c.loop-place.self.nodes.items c.loop-place.place c.index.result.now 0 inside
    ∙ (sym (ap (λ n. n.value) c.index.ensures)
    ∙ (sym c.as_ref.ensures ∙ eqb-true _ _ (sym c.eq.ensures ∙ c.if-eq.true)))))

pub loop-place-preserved : goal.loop-place-preserved
loop-place-preserved c =
    let s : length c.loop-place.self.nodes.items ≡ length c.args.self.now.nodes.items = ap length c.loop-place.invariant.same in
    let inside : c.loop-place.place < length c.loop-place.self.nodes.items = omega (arith, c.args.self.now.nodes.ok.0) in
    record {
      same = c.loop-place.invariant.same;
      before = below_more _ _ c.loop-place.invariant.before (λ here.
          let e = get_or-map (λ n. n.value) c.loop-place.self.nodes.items c.loop-place.place c.index.result.now 0 inside in
          let i = ap (λ n. n.value) c.index.ensures in
          let a : c.as_ref.result.now ≡ c.args.older.now = c.as_ref.ensures ∙ (i ∙ (sym e ∙ here)) in
          grind (arith, nat_tests));
    }
