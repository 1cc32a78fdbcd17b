-- What a node shows its readers, and how its steps edit that.
use Rattle.std.specs.Prelude.{ℕ, Bool, true, false, not, ◌==◌, ◌&&◌, ◌≡◌, ◌⊎◌, []}
use Rattle.registry_model.specs.Table.{Table, changed, without, put_all}
use Rattle.name_table.specs.Changes.{change_of}
use Rattle.term.specs.NodeSets.{set_of}
use Rattle.node_log.specs.NodeEvents.{Event as NodeEvent}
use Rattle.node_log.specs.NodeEvents.TheVariants as event
use Rattle.node_log.specs.declared.Letter.{Letter}
use Rattle.node_log.specs.declared.Letter.TheVariants.{Apply, JoinAsk, Admit, Welcome, Down}
use Rattle.node_core.specs.CoreState.{CoreState}
use Rattle.node_core.specs.Made.{Made as Turn}
use Rattle.node_core.specs.Steps.{Steps}
use Rattle.node_loop.specs.declared.edit.Edit.{Edit}
use Rattle.node_loop.specs.declared.edit.Edit.TheVariants.{Write, Departure, Whole, Leave}
use Rattle.node_loop.specs.declared.edit.Update.{Update}
use Rattle.node_loop.specs.declared.edit.Edition.{Edition}
use Rattle.node_loop.specs.declared.edit.Note.{Note}
use Rattle.node_loop.specs.declared.edit.Note.TheVariants as note

-- before a node's first step
abbrev pub opening : ℕ → Edition
opening node = record { node = node; table = []; length = 0; left = false }

-- the table behind an edit
abbrev pub rewritten : Edit → Table → Table
rewritten (Write change) t = changed (change_of change) t
rewritten (Departure node) t = without (λ d. d == node) t
rewritten (Whole pairs left) t = put_all pairs.items []
rewritten Leave t = t

-- whether the node has left behind an edit
abbrev pub departed : Edit → Bool → Bool
departed (Whole pairs left) was = left
departed Leave was = true
departed _ was = was

abbrev pub edited : Edit → Edition → Edition
edited edit e = record e { table = rewritten edit e.table; left = departed edit e.left }

abbrev pub updated : Edition → Update → Edition
updated e u = record (edited u.edit e) { length = u.length }

-- what a note says of the edition behind a step: the same, or edited so; or only that it is of the same node
abbrev pub Does : Note → Edition → Edition → Type 0
Does note.Nothing e f = f ≡ e
Does (note.One edit) e f = f ≡ edited edit e
Does note.Whole e f = f.node ≡ e.node

-- with this table
abbrev pub showing : Table → Edition → Edition
showing t e = record e { table = t }

-- How a letter may be noted: a change as one write, that another node of the world has left as its departure, and as the whole table what
-- a join hands over, or a stranger tells; or, like any other, as nothing
abbrev pub suits : Note → Letter → Bool → Bool
suits note.Nothing letter known = true
suits (note.One (Write c)) (Apply change) known = true
suits (note.One (Departure node)) Down known = true
suits note.Whole (JoinAsk pairs) known = not known
suits note.Whole (Admit admission) known = true
suits note.Whole (Welcome welcome) known = true
suits note.Whole Down known = not known
suits n letter known = false

-- whatever the node comes to behind this letter, the note says what that does to its table
pub record NotedBy (note : Note) (from : ℕ) (letter : Letter) (h : CoreState) : Type 0 where
  pub fits : suits note letter (set_of h.world from && not (from == h.name)) ≡ true
  pub does : (e : Edition) (k : CoreState) (made : Turn) → Steps (event.FromPeer from letter) h k made → Does note (showing h.table e) (showing k.table e)

-- a step is noted so: a letter by what it does to the table, and as nothing what the node does of its own, which leaves the table; but a
-- leave may be noted as that
abbrev pub Notes : NodeEvent → Note → CoreState → Type 0
Notes (event.FromPeer from letter) n h = NotedBy n from letter h
Notes event.Leave n h = (n ≡ note.Nothing) ⊎ (n ≡ note.One Leave)
Notes _ n h = n ≡ note.Nothing
