-- The nodes that run, listed: all of them, rising.
use Rattle.std.proofs.Common.{ℕ, true, ◌≡◌, ◌<◌, List, map, sym, ap, subst, ◌∙◌}
use Rattle.std.specs.Prelude.{Contains, not, nat_lt}
use Rattle.std.proofs.lemmas.Bool.{and_parts, and_from, ltb-true, lt-ltb, not_from_false, not-true}
use Rattle.registry_model.specs.Process.{nodes_of}
use Rattle.registry_model.proofs.NodeLists.{are_nodes_below}
use Rattle.protocol_model.specs.World.{left}
use Rattle.creations.specs.NodeNames.{NamedOpening, is_name, name_of}
use Rattle.creations.specs.NamedWorld.{NamedWorld, present_node, running_nodes}
use Rattle.creations.specs.Restarts.{IsUp}
use Rattle.creations.proofs.Numbers.{name-node, inside-name, lesser_name}
use Rattle.creations.proofs.Lists.{Contains-filter, filter-Contains, map-Contains, from_map, Rise, rise-filter, rise-map, nodes_rise}
use Rattle.creations.proofs.Standing.{Sound, present_started, up_present}

module _ (o : NamedOpening) (w : NamedWorld) (s : Sound o w) where
  abbrev names : List ℕ
  names = nodes_of o.bound o.names

  -- who runs is listed
  pub runs_listed : (c : ℕ) → IsUp o w c → Contains (running_nodes o w) c
  runs_listed c up = filter-Contains (λ y. not (left w.world y)) (map (present_node o w) names) c
      (subst (λ (y : ℕ). Contains (map (present_node o w) names) y) (sym (up_present o w s c up))
      (map-Contains (present_node o w) names (name_of o c)
      (((are_nodes_below o.bound o.names).below (name_of o c)).1 (ltb-true (name_of o c) o.bound known.0, known.1))))
      (not_from_false (left w.world c) up.stays)
    where
      known : (nat_lt (name_of o c) o.bound ≡ true) × (o.names (name_of o c) ≡ true)
      known = and_parts (nat_lt (name_of o c) o.bound) (o.names (name_of o c)) (sym (inside-name o c) ∙ up.inside)

  -- and nobody else is
  pub listed_runs : (c : ℕ) → Contains (running_nodes o w) c → IsUp o w c
  listed_runs c i = subst (IsUp o w) from.2 (record {
    inside = inside-name o (present_node o w from.0) ∙ ap (is_name o) (name-node o from.0 (w.present from.0) (s.present from.0))
        ∙ and_from (nat_lt from.0 o.bound) (o.names from.0) (lt-ltb from.0 o.bound known.0) known.1;
    started = present_started o w s from.0;
    stays = ap (left w.world) from.2 ∙ not-true (left w.world c) kept.1;
  })
    where
      kept : Contains (map (present_node o w) names) c × (not (left w.world c) ≡ true)
      kept = Contains-filter (λ y. not (left w.world y)) (map (present_node o w) names) c i

      from : (y : ℕ) × Contains names y × (present_node o w y ≡ c)
      from = from_map (present_node o w) names c kept.0

      known : (from.0 < o.bound) × (o.names from.0 ≡ true)
      known = ((are_nodes_below o.bound o.names).below from.0).0 from.1

  pub running_rise : Rise (running_nodes o w)
  running_rise = rise-filter (λ y. not (left w.world y)) (map (present_node o w) names)
      (rise-map (present_node o w) names (λ a b l. lesser_name o a b (w.present a) (w.present b) (s.present a) l)
      (nodes_rise o.bound o.names))
