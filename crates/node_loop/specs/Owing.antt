-- What a node owes its readers.
use Rattle.std.specs.Prelude.{ℕ, ◌≡◌, ◌<◌, ◌≤◌, Option, Some, None, length}
use Rattle.node_loop.specs.declared.edit.Edit.{Edit}
use Rattle.node_loop.specs.declared.edit.Update.{Update}
use Rattle.node_loop.specs.declared.edit.Edition.{Edition}
use Rattle.node_loop.specs.declared.edit.Note.{Note}
use Rattle.node_loop.specs.declared.edit.Note.TheVariants.{Nothing, One, Whole}
use Rattle.node_loop.specs.declared.edit.Owed.{Owed}
use Rattle.node_loop.specs.Editions.{edited, updated}
use Rattle.node_loop.specs.Held.{Looping}

-- this one edit is owed, if nothing was
abbrev pub first_note : Note → Edit → Note
first_note Nothing edit = One edit
first_note _ edit = Whole

-- behind a step that does this, the last of so many
abbrev pub with_note : Note → ℕ → Owed → Owed
with_note Nothing n o = o
with_note (One edit) n o = record { note = first_note o.note edit; length = n }
with_note Whole n o = record { note = Whole; length = n }

-- nothing is owed
abbrev pub nothing_owed : Owed
nothing_owed = record { note = Nothing; length = 0 }

-- what a node shows: its table now, which none of its steps changed behind that length of its log
abbrev pub shown_by : Looping → Edition
shown_by a = record { node = a.log.node; table = a.core.table; length = a.owed.length; left = a.left }

-- a note leads from one edition to another, which is of a longer log if it isn't the same
abbrev pub LeadsTo : Note → Edition → Edition → Type 0
LeadsTo Nothing e f = e ≡ f
LeadsTo (One edit) e f = (record (edited edit e) { length = f.length } ≡ f) × (e.length < f.length)
LeadsTo Whole e f = (e.node ≡ f.node) × (e.length < f.length)

-- what is owed to readers who are shown e is what leads to what the node shows
pub record Owes (a : Looping) (e : Edition) : Type 0 where
  pub world : a.world ≡ a.core.world
  pub length : a.owed.length ≤ length a.log.entries
  pub leads : LeadsTo a.owed.note e (shown_by a)

-- whatever was owed, it is so still
abbrev pub KeepsOwing : Looping → Looping → Type 0
KeepsOwing a b = (e : Edition) → Owes a e → Owes b e

-- an update is taken, by which all is shown that is owed; or nothing is owed
abbrev pub TakesUpdate : Option Update → Looping → Looping → Type 0
TakesUpdate None a b = (b ≡ a) × (a.owed.note ≡ Nothing)
TakesUpdate (Some u) a b =
    (b ≡ record a { owed = record a.owed { note = Nothing } })
    × (u.length ≡ a.owed.length)
    × ((e : Edition) → Owes a e → (updated e u ≡ shown_by b) × (e.length < u.length))
