-- What a node's end of lines has dealt in.
use Rattle.std.specs.Prelude.{ℕ, Bool, true, not, ◌≡◌, ◌==◌, ◌&&◌, Result, List, [], ◌∷◌, map, flat_map, if◌then◌else◌}
use Rattle.std.specs.List.{list_all}
use Rattle.protocol_model.specs.World.{Opening, in_world}
use Rattle.node_loop.specs.declared.item.Item.TheVariants.{Letter}
use Rattle.node_loop.specs.Dealings.{Dealt}
use Rattle.term.specs.NodeSets.{set_of, with_older, succeeded}
use Rattle.wire_end.specs.declared.faults.HearFault.{HearFault}
use Rattle.wire_end.specs.declared.line.LinkLine.{LinkLine}
use Rattle.wire_end.specs.declared.wire_end.Wiring.{Wiring}
use Rattle.wire_end.specs.Hearing.{Hears, Loses}
use Rattle.wire_end.specs.Saying.{present, is_said}
use Rattle.wire_end.specs.Starting.{Starts}
use Rattle.wire_end.specs.Wirings.{begun}

-- what there is of this node
abbrev pub of_node : {A : Type 0} → ℕ → List (ℕ × A) → List A
of_node n pairs = flat_map (λ x. if n == x.0 then x.1 ∷ [] else []) pairs

abbrev pub dealt_of : Wiring → Dealt
dealt_of s = record { sent = λ t. map Letter (of_node t s.sent); taken = λ f. map Letter (of_node f s.taken) }

-- it is the end of a node of the world, its links are with such, and the letters that wait are from such
abbrev pub leads_inside : Opening → Wiring → Bool
leads_inside o s = in_world o s.node && (list_all (λ w. in_world o w.node) s.wires && list_all (λ x. in_world o x.0) s.heard)

-- its node has this name, its links are with other nodes of this world, and the letters that wait, of others and of its node to itself, are from
-- such as have started, and say what these may say
abbrev pub leads_among : List ℕ → ℕ → Wiring → Bool
leads_among world name s = (s.node == name) && (list_all (set_of world) (present s)
    && (list_all (λ w. not (w.node == s.node)) s.wires
    && (list_all (λ x. with_older world x.0 && is_said world s.node x.0 x.1.letter) s.heard
    && list_all (λ l. is_said world s.node s.node l.letter) s.own)))

-- An end of a node of a world leads among its nodes as it begins, and stays so whatever it hears, and whoever is gone without a word. Where the next
-- node of another one's name starts, it leads among those that are at present then
pub record StayAmong : Type 0 where
  pub begins : (world : List ℕ) (node : ℕ) → set_of world node ≡ true → leads_among world node (begun node world) ≡ true
  pub hears : (world : List ℕ) (name : ℕ) (s : Wiring) (from : ℕ) (line : LinkLine) (r : Result (Unit {0}) HearFault) (t : Wiring)
      → Hears from line r s t → leads_among world name s ≡ true → leads_among world name t ≡ true
  pub loses : (world : List ℕ) (name : ℕ) (s : Wiring) (n : ℕ) (r : Result (Unit {0}) HearFault) (t : Wiring)
      → Loses n r s t → leads_among world name s ≡ true → leads_among world name t ≡ true
  pub starts : (world : List ℕ) (name older next : ℕ) (s t : Wiring)
      → Starts older next s t → leads_among world name s ≡ true → leads_among (succeeded older next world) name t ≡ true
