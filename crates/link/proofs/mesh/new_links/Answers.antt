use Rattle.std.proofs.Common.{◌≡◌, ◌∷◌, [], arith, ap, length, length-append}
use Rattle.std.proofs.lemmas.List.Elements.{All-push}
use Rattle.std.specs.Prelude.{List}
use Rattle.link.proofs.mesh.new_links.Goals as goal

pub loop-preserved : goal.loop-preserved
loop-preserved g c = record {
  count = omega (arith, ap length c.in_ok-push.ensures.items, length-append c.loop.links.items (c.new.result ∷ []));
  empty = rw c.in_ok-push.ensures.items
      (All-push (λ (link : List g.row.L.Denot). link ≡ []) c.loop.links.items c.new.result c.loop.invariant.empty
      c.new.ensures);
}
