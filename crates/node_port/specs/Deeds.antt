-- What a node does between a line that it reads and what it prints for it.
use Rattle.std.specs.Prelude.{Bool, true, false, ◌≡◌, Some, Err, List, [], ◌∷◌, ◌++◌, flat_map}
use Rattle.std.specs.List.{list_all}
use Rattle.node_loop.specs.declared.edit.Note.TheVariants.{Nothing}
use Rattle.node_loop.specs.declared.fault.TurnFault.TheVariants.{StampsSpent}
use Rattle.node_loop.specs.Told.{Told}
use Rattle.node_loop.specs.Held.{Looping}
use Rattle.node_loop.specs.Owing.{TakesUpdate}
use Rattle.node_loop.specs.Steps.{Outcome}
use Rattle.node_loop.specs.Turned.{Turned}
use Rattle.wire_end.specs.declared.wire_end.Wiring.{Wiring}
use Rattle.wire_end.specs.Wirings.{Posts, Refuses, Takes, Misses}
use Rattle.node_port.specs.Edits.{Changed, Edited, Stood}

-- a node's loop, and its end of lines
pub record Stand : Type 0 where
  pub loop : Looping
  pub end : Wiring

pub data Deed : Type 0 where
  Turn : (outcome : Outcome) → Deed  -- a turn of the loop over its end, and what came of it
  Show : (change : Changed) → Deed  -- what changed is shown
  Hand : (told : Told) → Deed  -- the oldest reply is handed out

-- it is what changed: all that is owed to readers of the table, or how the node stands
abbrev pub IsShown : Changed → Looping → Looping → Type 0
IsShown (Edited update) a b = TakesUpdate (Some update) a b
IsShown (Stood joined members) a b = (joined ≡ a.core.joined) × (members ≡ a.core.members) × (b ≡ a)

-- it is the oldest reply, which waits no more
pub record IsHanded (told : Told) (a b : Looping) : Type 0 where
  pub oldest : a.desk.replies ≡ told ∷ b.desk.replies
  pub rest : b ≡ record a { desk = record a.desk { replies = b.desk.replies } }

abbrev pub Does : Deed → Stand → Stand → Type 0
Does (Turn outcome) a b = Turned Posts Refuses Takes Misses (λ n. Unit {0}) a.loop a.end outcome b.loop b.end
Does (Show change) a b = IsShown change a.loop b.loop × (b.end ≡ a.end)
Does (Hand told) a b = IsHanded told a.loop b.loop × (b.end ≡ a.end)

-- these, one behind the other
abbrev pub DoesAll : List Deed → Stand → Stand → Type 0
DoesAll [] a b = b ≡ a
DoesAll (d ∷ ds) a c = (b : Stand) × Does d a b × DoesAll ds b c

-- nothing is owed to readers of the table, and no reply waits
abbrev pub IsAllTold : Looping → Type 0
IsAllTold a = (a.owed.note ≡ Nothing) × (a.desk.replies ≡ [])

-- what is shown
abbrev pub change_by : Deed → List Changed
change_by (Show change) = change ∷ []
change_by _ = []

abbrev pub changes_by : List Deed → List Changed
changes_by deeds = flat_map change_by deeds

-- and handed out
abbrev pub reply_by : Deed → List Told
reply_by (Hand told) = told ∷ []
reply_by _ = []

abbrev pub replies_by : List Deed → List Told
replies_by deeds = flat_map reply_by deeds

-- it is no turn, or one that was made
abbrev pub goes_on : Deed → Bool
goes_on (Turn (Err why)) = false
goes_on _ = true

abbrev pub all_go_on : List Deed → Bool
all_go_on deeds = list_all goes_on deeds

-- it is no turn
abbrev pub is_still : Deed → Bool
is_still (Turn outcome) = false
is_still _ = true

-- the last turn found no stamp that is left for its step
pub record BreaksOff (deeds : List Deed) : Type 0 where
  pub before : List Deed
  pub after : List Deed
  pub split : deeds ≡ before ++ Turn (Err StampsSpent) ∷ after
  pub made : all_go_on before ≡ true
  pub still : list_all is_still after ≡ true
