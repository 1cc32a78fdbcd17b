-- How a node's loop comes to be as it is: by turns, from the core that it opened with.
use Rattle.std.proofs.Common.{ℕ, ◌≡◌, ◌⊎◌, inl, inr, suc, List, refl, ap, ◌∙◌}
use Rattle.link.specs.declared.faults.LinkFault.{LinkFault}
use Rattle.node_loop.specs.declared.item.Item.{Item}
use Rattle.node_loop.specs.Held.{Looping}
use Rattle.node_loop.specs.Items.{Works, Idles}
use Rattle.node_loop.specs.Turned.{Took, Missed, Turned}
use Rattle.node_loop.proofs.Moving.{turn_of}
use Rattle.node_loop.specs.Steps.{Outcome}
use Rattle.node_loop.specs.Coming.{begun, IsLoopOf}
use Rattle.node_loop.specs.NodeCoreState.{CoreState, opening_core}
use Rattle.node_threads.specs.Stops.{CameTo}

-- a turn more
module _ {S : Type 0} (posts : S → ℕ → Item → S → Type 0) (refused : S → ℕ → Item → LinkFault → Type 0) (takes : S → ℕ → Item → S → Type 0) (misses : S → Type 0) (held : ℕ → Type 0) where
  pub comes_by_turn : (name : ℕ) (a : Looping) (s : S) (r : Outcome) (b : Looping) (t : S)
      → Turned posts refused takes misses held a s r b t → IsLoopOf name a → IsLoopOf name b
  comes_by_turn name a s r b t h came = record {
    nodes = came.nodes;
    cluster = came.cluster;
    stamp = came.stamp;
    moves = suc came.moves;
    comes = (a, came.comes, inl (turn_of posts refused takes misses held a s r b t h));
  }

  -- it came to what it gave
  pub came_to : (a : Looping) (s : S) (r : Outcome) (b : Looping) (t : S) → Turned posts refused takes misses held a s r b t → CameTo r a b
  came_to a s r b t h = record {
    turn = record { tray = h.tray; outcome = r; turned = at_end h.turned };
    outcome = refl;
  }
    where
      mid : Looping
      mid = record a { tray = h.tray }

      at_end : Took posts refused takes misses mid h.between r b t ⊎ Missed posts refused takes misses mid h.between r b t
          → ((from : ℕ) × (i : Item) × Works from i mid r b) ⊎ Idles mid r b
      at_end (inl took) = inl (took.from, took.item, took.works)
      at_end (inr missed) = inr missed.idles

-- it begins with the core that its node opens with
pub comes_first : (nodes cluster : List ℕ) (name stamp : ℕ) (core : CoreState) (b : Looping) → b ≡ begun stamp core
    → core ≡ opening_core nodes cluster name → IsLoopOf name b
comes_first nodes cluster name stamp core b is opens = record {
  nodes = nodes;
  cluster = cluster;
  stamp = stamp;
  moves = 0;
  comes = is ∙ ap (begun stamp) opens;
}
