-- What a node's loop holds.
use Rattle.std.specs.Prelude.{ℕ, Bool, ◌≡◌, ◌==◌, ◌&&◌, ◌||◌, not, is_some, List, [], ◌∷◌, ◌++◌}
use Rattle.std.specs.List.{list_all}
use Rattle.protocol_model.specs.Links.{is_nil}
use Rattle.protocol_model.specs.Node.{holds_global}
use Rattle.protocol_model.specs.Event.{can_retry}
use Rattle.node_log.specs.declared.Letter.{Letter}
use Rattle.node_core.specs.CoreState.{CoreState}
use Rattle.node_core.specs.Seen.{node_of}
use Rattle.tray.specs.Held.{Waiting, with_letter, renewed}
use Rattle.term.specs.NodeSets.{succeeded}
use Rattle.node_log.specs.Entries.{SeatedEntry, Logged}
use Rattle.node_loop.specs.declared.item.Item.{Item}
use Rattle.node_loop.specs.declared.item.Item.TheVariants.{Letter as LetterItem}
use Rattle.node_loop.specs.declared.edit.Owed.{Owed}
use Rattle.node_loop.specs.Desks.{Kept, first_leave}

-- what the log of a node says, whatever room it has
pub record Written : Type 0 where
  pub node : ℕ
  pub entries : List SeatedEntry  -- the oldest first

abbrev pub written : Logged → Written
written l = record { node = l.node; entries = l.entries }

pub record Looping : Type 0 where
  pub core : CoreState
  pub world : List ℕ  -- all nodes, rising
  pub log : Written
  pub tray : List (Waiting Item)
  pub desk : Kept
  pub wait : ℕ  -- for how many turns that read no letter a refused round gives way to rivals
  pub stamp : ℕ  -- of the last step
  pub owed : Owed  -- what readers are still to be shown
  pub left : Bool
  pub worked : Bool  -- the last turn took an item or tried a step

-- the next node of a name takes the place of the one before it, in the world and in the tray: no letter waits for it
abbrev pub with_next : ℕ → ℕ → Looping → Looping
with_next older next a = record a {
  core = record a.core { world = succeeded older next a.core.world };
  world = succeeded older next a.core.world;
  tray = renewed older next a.tray;
}

-- a refused round waits to be tried again
abbrev pub has_retry : Looping → Bool
has_retry l = not l.left && can_retry (node_of l.core)

-- and gives way to rivals no longer
abbrev pub is_due : Looping → Bool
is_due l = has_retry l && (l.wait == 0)

-- a leave waits
abbrev pub has_leave : Looping → Bool
has_leave l = not l.left && is_some (first_leave l.desk.leaves)

-- one waits that can be accepted now
abbrev pub is_free_to_leave : Looping → Bool
is_free_to_leave l = has_leave l && not (holds_global (node_of l.core))

-- it has a step to make, if it takes none
abbrev pub can_step : Looping → Bool
can_step l = is_due l || is_free_to_leave l

-- something waits to be sent or to be tried
abbrev pub owes : Looping → Bool
owes l = not (list_all (λ w. is_nil w.letters) l.tray) || has_retry l || has_leave l

-- the letters of a step with this stamp, each behind those that wait for its receiver
abbrev pub with_letters : ℕ → List (ℕ × Letter) → List (Waiting Item) → List (Waiting Item)
with_letters stamp [] tray = tray
with_letters stamp (s ∷ ss) tray =
    with_letters stamp ss (with_letter s.0 (LetterItem (record { stamp = stamp; letter = s.1 })) tray)

-- the first of the letters of a step with this stamp are put there so, if not all
pub record PutsSome (stamp : ℕ) (letters : List (ℕ × Letter)) (old new : List (Waiting Item)) : Type 0 where
  pub put : List (ℕ × Letter)
  pub rest : List (ℕ × Letter)
  pub split : letters ≡ put ++ rest
  pub tray : new ≡ with_letters stamp put old
