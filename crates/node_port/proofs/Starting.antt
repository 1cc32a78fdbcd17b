-- That a node has started: whether this node takes it, and what comes of it.
use Rattle.std.proofs.Common.{ℕ, Bool, true, false, ◌≡◌, ◌+◌, List, [], ◌∷◌, arith, refl, sym, ap, subst, ◌∙◌}
use Rattle.std.specs.Prelude.{not, ◌&&◌}
use Rattle.std.proofs.lemmas.Bool.{and_from, and_parts, false≢true, not-true}
use Rattle.term.specs.NodeSets.{set_of}
use Rattle.term.specs.Nodes.{name_of, creation_of}
use Rattle.node_loop.specs.NodeCoreState.{IsNext}
use Rattle.wire_end.specs.Starting.{is_alone}
use Rattle.node_port.specs.Commands.{Follows, Strange, Untold}
use Rattle.node_port.specs.Deeds.{Stand, IsAllTold}
use Rattle.node_port.specs.Playing.{GivesStart, HasNoPlace, IsUntold}
use Rattle.node_port.specs.Shown.{Misses, Untells}
use Rattle.node_port.specs.Working.{stand_of, Grows, PlaysAt}
use Rattle.node_port.specs.declared.commands.Command.TheVariants.{Started}
use Rattle.node_port.specs.declared.output.Output.{Output}
use Rattle.node_port.specs.declared.port.Port.{Port}
use Rattle.node_port.specs.declared.port.Standing.TheVariants.{Runs}
use Rattle.node_port.proofs.Growing.{grows_none}
use Rattle.node_port.proofs.Working.{answers}

-- a node is the next one of the one before it
pub next_is : (older next : ℕ) → next ≡ older + 1 → name_of older ≡ name_of next → IsNext older next
next_is older next is named = record { is = is; named = sym named }

-- a first node has none before it
pub first_alone : (next : ℕ) (a : Stand) → creation_of next ≡ 1 → HasNoPlace next a
first_alone next a first older is alone known runs =
    let one = is.is in let named = is.named in absurd (omega (arith, first, one, named))

-- this node runs, and that one is another node of the world at present, alone of its name
abbrev pub may_follow : ℕ → Stand → Bool
may_follow older a = not a.loop.left && (is_alone older a.end && set_of a.loop.core.world older)

pub no_place : (older next : ℕ) (a : Stand) → next ≡ older + 1 → may_follow older a ≡ false → HasNoPlace next a
no_place older next a is none other next_of alone known runs =
    false≢true (sym none ∙ subst (λ (n : ℕ). may_follow n a ≡ true) same follows)
  where
    same : other ≡ older
    same = let one = next_of.is in omega (arith, is, one)

    follows : may_follow other a ≡ true
    follows = and_from (not a.loop.left) (is_alone other a.end && set_of a.loop.core.world other) (ap not runs)
        (and_from (is_alone other a.end) (set_of a.loop.core.world other) alone known)

pub place_is : (older : ℕ) (a : Stand) → may_follow older a ≡ true
    → (is_alone older a.end ≡ true) × (set_of a.loop.core.world older ≡ true) × (a.loop.left ≡ false)
place_is older a e =
    let parts = and_parts (not a.loop.left) (is_alone older a.end && set_of a.loop.core.world older) e in
    let both = and_parts (is_alone older a.end) (set_of a.loop.core.world older) parts.1 in
    (both.0, both.1, not-true a.loop.left parts.0)

-- what comes of the line
pub strange_start : (next : ℕ) (a b : Port) → HasNoPlace next (stand_of a) → stand_of b ≡ stand_of a → Grows [] (Misses ∷ []) a.output b.output
    → PlaysAt (Strange (Started next)) Runs [] a b
strange_start next a b none same G = answers (Strange (Started next)) Runs [] a b (refl, none) same refl G

pub untold_start : (next : ℕ) (a b : Port) → IsUntold next (stand_of a) → stand_of b ≡ stand_of a → Grows [] (Untells ∷ []) a.output b.output
    → PlaysAt (Untold next) Runs [] a b
untold_start next a b untold same G = answers (Untold next) Runs [] a b (refl, untold) same refl G

pub starts_so : (next : ℕ) (a b : Port) → GivesStart next (stand_of a) (stand_of b) → b.output ≡ a.output
    → PlaysAt (Follows (Started next)) Runs [] a b
starts_so next a b G same = record {
  first = stand_of b;
  gives = G;
  deeds = [];
  does = refl;
  done = λ e. refl;
  ends = refl;
  told = λ e. subst IsAllTold (sym G.loop) (e.0, e.1);
  grows = subst (λ (o : Output). Grows [] [] a.output o) (sym same) (grows_none a.output);
}
