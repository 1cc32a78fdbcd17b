-- What one turn does, in the words of the node's links.
use Rattle.std.specs.Prelude.{ℕ, ◌≡◌, ◌⊎◌, List}
use Rattle.link.specs.declared.faults.LinkFault.{LinkFault}
use Rattle.tray.specs.Held.{Waiting}
use Rattle.tray.specs.Draining.{DrainedAll}
use Rattle.node_loop.specs.declared.item.Item.{Item}
use Rattle.node_loop.specs.Held.{Looping}
use Rattle.node_loop.specs.Steps.{Outcome}
use Rattle.node_loop.specs.Items.{Works, Idles}

module _ {S : Type 0} (posts : S → ℕ → Item → S → Type 0) (refuses : S → ℕ → Item → LinkFault → Type 0) (takes : S → ℕ → Item → S → Type 0) (misses : S → Type 0) where
  -- an item is taken and handled
  pub record Took (m : Looping) (u : S) (r : Outcome) (b : Looping) (t : S) : Type 0 where
    pub from : ℕ
    pub item : Item
    pub taken : takes u from item t
    pub works : Works from item m r b

  -- none is found
  pub record Missed (m : Looping) (u : S) (r : Outcome) (b : Looping) (t : S) : Type 0 where
    pub missed : misses u
    pub still : t ≡ u
    pub idles : Idles m r b

  -- the gate held it until it might go on; the tray is sent as far as it goes, and then an item is taken or none is found
  pub record Turned (held : ℕ → Type 0) (a : Looping) (s : S) (r : Outcome) (b : Looping) (t : S) : Type 0 where
    pub asked : held a.core.name
    pub tray : List (Waiting Item)
    pub between : S
    pub drained : DrainedAll posts refuses a.tray s tray between
    pub turned : Took (record a { tray = tray }) between r b t ⊎ Missed (record a { tray = tray }) between r b t
