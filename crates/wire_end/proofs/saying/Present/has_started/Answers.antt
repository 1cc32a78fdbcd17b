use Rattle.std.proofs.Common.{ℕ, Bool, ◌==◌, ◌∙◌, map, ap, sym, rules, tests}
use Rattle.std.specs.Prelude.{◌&&◌, ◌||◌, nat_le}
use Rattle.std.specs.List.{list_any}
use Rattle.std.proofs.lemmas.Iterator.{YieldsList-from_slice}
use Rattle.std.proofs.lemmas.Iterator.Search.{any_from_yields_List}
use Rattle.term.specs.Nodes.{name_of}
use Rattle.wire_end.specs.declared.wire.Wire.{Wire}
use Rattle.wire_end.proofs.Places.{any_linked}
use Rattle.wire_end.proofs.saying.Present.has_started.Goals as goal

pub returns-else-is_reached_by : goal.returns-else-is_reached_by
returns-else-is_reached_by c =
    any_from_yields_List (λ (w : Wire). (name_of w.node == name_of c.args.node.now) && nat_le c.args.node.now w.node) _ _ _ c.any.ensures.ran
    (YieldsList-from_slice _ c.iter.ensures.rest) (λ x b q k. search (rules, tests))
    ∙ sym (any_linked (λ (m : ℕ). (name_of m == name_of c.args.node.now) && nat_le c.args.node.now m) c.args.self.wires.now)
    ∙ ap (λ (b : Bool).
    b || list_any (λ (m : ℕ). (name_of m == name_of c.args.node.now) && nat_le c.args.node.now m) (map (λ (w : Wire). w.node) c.args.self.wires.now))
    (sym c.if-is_reached_by.false ∙ c.is_reached_by.ensures)
