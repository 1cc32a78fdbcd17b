-- What an end takes of the letters that come, and of those of its node to itself: such as the nodes may say that it knows of. So no letter names
-- a node that hasn't started, as far as the node was told.
use Rattle.std.specs.Prelude.{ℕ, Bool, true, ◌==◌, ◌&&◌, not, List, ◌∷◌, map}
use Rattle.std.specs.List.{list_all}
use Rattle.registry_model.specs.Table.{Table, is_rising}
use Rattle.term.specs.NodeSets.{set_of, with_older}
use Rattle.letter_lines.specs.declared.Letter.{Letter}
use Rattle.letter_lines.specs.declared.Letter.TheVariants as letter
use Rattle.letter_lines.specs.declared.part.Part.{Part}
use Rattle.letter_lines.specs.declared.part.Part.TheVariants as part
use Rattle.letter_lines.specs.Gathered.{Gathered}
use Rattle.wire_end.specs.declared.wire.Wire.{Wire}
use Rattle.wire_end.specs.declared.wire_end.Wiring.{Wiring}

-- the nodes at present, as far as an end knows: its own, and those that it has links with
abbrev pub at_present : ℕ → List Wire → List ℕ
at_present node wires = node ∷ map (λ w. w.node) wires

abbrev pub present : Wiring → List ℕ
present s = at_present s.node s.wires

-- these have started: each is at present, or older than the one of its name that is
abbrev pub all_started : List ℕ → List ℕ → Bool
all_started world nodes = list_all (with_older world) nodes

-- a welcome with these members, names and told nodes is one to this node
abbrev pub greets : List ℕ → ℕ → List ℕ → Table → List ℕ → Bool
greets world node members pairs told =
    all_started world members && (all_started world told && (set_of members node && (not (with_older told node) && is_rising pairs)))

-- a letter of a node that has started is one that this node relies on
abbrev pub is_said : List ℕ → ℕ → ℕ → Letter → Bool
is_said world node from (letter.Admit a) = with_older world a.joiner
is_said world node from (letter.Welcome w) = greets world node w.value.members w.value.pairs.items w.value.told
is_said world node from letter.Down = not (from == node)
is_said world node from l = true

-- so is the letter that ends with this part, behind these items, if one does
abbrev pub is_said_by : List ℕ → ℕ → Part → Gathered → Bool
is_said_by world node (part.Admit n) g = with_older world n
is_said_by world node part.Welcome g = greets world node g.members g.pairs g.told
is_said_by world node p g = true
