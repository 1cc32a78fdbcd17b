-- The next node of another one's name has started.
use Rattle.std.specs.Prelude.{ℕ, Bool, true, ◌≡◌, ◌==◌, ◌&&◌, ◌||◌, not, is_some, map, if◌then◌else◌}
use Rattle.std.specs.List.{list_all}
use Rattle.term.specs.Nodes.{name_of}
use Rattle.node_loop.specs.NodeCoreState.{IsNext}
use Rattle.wire_end.specs.declared.wire.Wire.{Wire}
use Rattle.wire_end.specs.declared.wire_end.Wiring.{Wiring}
use Rattle.wire_end.specs.Wirings.{place, new_wire}

-- the link with the one before it is one with that node, on which nothing came or went
abbrev pub opened_anew : ℕ → ℕ → Wire → Wire
opened_anew older next w = if w.node == older then new_wire next else w

abbrev pub with_started : ℕ → ℕ → Wiring → Wiring
with_started older next s = record s { wires = map (opened_anew older next) s.wires }

-- this node has the only link of its name, which isn't that of the end's own node
abbrev pub is_alone : ℕ → Wiring → Bool
is_alone older s = is_some (place older s.wires)
    && (list_all (λ w. not (name_of w.node == name_of older) || (w.node == older)) s.wires && not (name_of s.node == name_of older))

-- and the next one of its name takes its place
pub record Starts (older next : ℕ) (s t : Wiring) : Type 0 where
  pub next_is : IsNext older next
  pub alone : is_alone older s ≡ true
  pub begins : t ≡ with_started older next s
