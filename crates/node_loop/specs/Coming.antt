-- How the loop of a node comes to be as it is.
use Rattle.std.specs.Prelude.{ℕ, false, zero, suc, ◌≡◌, ◌⊎◌, List, [], ◌∷◌, map}
use Rattle.node_core.specs.CoreState.{CoreState, opening_core}
use Rattle.tray.specs.Held.{Waiting, none_for}
use Rattle.node_loop.specs.declared.item.Item.{Item}
use Rattle.node_loop.specs.Told.{Told}
use Rattle.node_loop.specs.Desks.{empty_desk}
use Rattle.node_loop.specs.Held.{Looping, with_next}
use Rattle.node_loop.specs.Owing.{nothing_owed}
use Rattle.node_loop.specs.Steps.{Outcome}
use Rattle.node_loop.specs.Items.{Works, Idles}

-- the loop of a node that begins with this core, before its first turn: its steps have stamps above this one
abbrev pub begun : ℕ → CoreState → Looping
begun stamp core = record {
  core = core;
  world = core.world;
  log = record { node = core.name; entries = [] };
  tray = map none_for core.world;
  desk = empty_desk;
  wait = 0;
  stamp = stamp;
  owed = nothing_owed;
  left = false;
  worked = false;
}

-- a turn, whatever the links took of the letters that wait, and whatever came
pub record Turns (a b : Looping) : Type 0 where
  pub tray : List (Waiting Item)
  pub outcome : Outcome
  pub turned : ((from : ℕ) × (i : Item) × Works from i (record a { tray = tray }) outcome b)
      ⊎ Idles (record a { tray = tray }) outcome b

-- the oldest reply is handed out
pub record HandsOut (a b : Looping) : Type 0 where
  pub told : Told
  pub oldest : a.desk.replies ≡ told ∷ b.desk.replies
  pub rest : b ≡ record a { desk = record a.desk { replies = b.desk.replies } }

-- what is owed to readers is handed over, or noted otherwise: behind the same step
abbrev pub HandsOver : Looping → Looping → Type 0
HandsOver a b = b ≡ record a { owed = record a.owed { note = b.owed.note } }

-- so many turns, replies handed out, and what is owed handed over lead from the beginning to b
abbrev pub ComesBy : ℕ → ℕ → CoreState → Looping → Type 0
ComesBy zero stamp core b = b ≡ begun stamp core
ComesBy (suc n) stamp core b = (a : Looping) × ComesBy n stamp core a × (Turns a b ⊎ HandsOut a b ⊎ HandsOver a b)

-- it is the loop of this node: it came by turns, and by what it handed out, from the core that such a node opens with in some cluster
pub record IsLoopOf (name : ℕ) (b : Looping) : Type 0 where
  pub nodes : List ℕ
  pub cluster : List ℕ
  pub stamp : ℕ  -- at its beginning
  pub moves : ℕ
  pub comes : ComesBy moves stamp (opening_core nodes cluster name) b

-- the next node of a name took the place of the one before it
abbrev pub Replaces : Looping → Looping → Type 0
Replaces a b = (older : ℕ) × (next : ℕ) × (b ≡ with_next older next a)

-- the same where nodes come back
abbrev pub ComesFrom : ℕ → ℕ → CoreState → Looping → Type 0
ComesFrom zero stamp core b = b ≡ begun stamp core
ComesFrom (suc n) stamp core b = (a : Looping) × ComesFrom n stamp core a × (Turns a b ⊎ HandsOut a b ⊎ HandsOver a b ⊎ Replaces a b)

-- it is the loop of the node that began with this core, behind this stamp
pub record IsLoopFrom (stamp : ℕ) (core : CoreState) (b : Looping) : Type 0 where
  pub moves : ℕ
  pub comes : ComesFrom moves stamp core b
