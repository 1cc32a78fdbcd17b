-- The rules of joins: what a node needs to know of whom it hears.
use Rattle.std.specs.Prelude.{ℕ, fold, ◌==◌, ◌≡◌, true, false, Option, Some, None, List, if◌then◌else◌}
use Rattle.std.specs.Option.{option_map}
use Rattle.registry_model.specs.Table.{Table, Put, Remove, is_rising}
use Rattle.registry_model.specs.Process.{Text, Process, with_node}
use Rattle.registry_model.specs.Registry.{Replica}
use Rattle.registry_model.specs.Settlement.{Settled, with_settled}
use Rattle.protocol_model.specs.Letter.{Letter as AnyLetter}
use Rattle.protocol_model.specs.Node.{Op, Current, wrote}
use Rattle.protocol_model.specs.Turn.{Turn}
use Rattle.protocol_model.specs.Watch.{is_live}
use Rattle.protocol_model.specs.Calling.{die}
use Rattle.term.specs.NodeSets.{set_of, with_older}
use Rattle.transaction.specs.Ops.{op_of}
use Rattle.exchange.specs.declared.bodies.Welcome.{Welcome}
use Rattle.node_events.specs.declared.events.Letter.{Letter}
use Rattle.node_events.specs.Letters.{letter_of}
use Rattle.node_events.specs.Made.{Made, sent, SendsAll}
use Rattle.node_core.specs.CoreState.{CoreState, HaveStarted, IsWithin}

-- the number of the join that waits for its contact, if one does
abbrev pub join_number_of : Current → Option ℕ
join_number_of (Current.Joining k m) = Some k
join_number_of _ = None

-- the number of the join that waits for c, if one does
abbrev pub join_by : ℕ → Current → Option ℕ
join_by c (Current.Joining k m) = if m == c then Some k else None
join_by c _ = None

-- The welcome is one to node a: its nodes have started, a is a member and hasn't left, and the names rise
pub record IsWelcomeTo (world : List ℕ) (a : ℕ) (w : Welcome) : Type 0 where
  pub members : IsWithin world w.members
  pub told : HaveStarted world (with_older w.told)
  pub self : set_of w.members a ≡ true
  pub here : with_older w.told a ≡ false
  pub rising : is_rising w.pairs.items ≡ true

-- the current operation is the admission of j, which has these names
abbrev pub IsAdmitting : CoreState → ℕ → Table → Type 0
IsAdmitting h j pairs = option_map op_of h.registrar.current ≡ Some (Op.Admission j pairs)

-- the members are told to admit j
abbrev pub TellsToAdmit : CoreState → ℕ → Settled → Made → Made → Type 0
TellsToAdmit h j s t u = (l : Letter) × (letter_of l ≡ AnyLetter.Admit j s) × SendsAll h.members l t u

-- j is sent all that the node has, and what is settled
abbrev pub Welcomes : CoreState → ℕ → Settled → Made → Made → Type 0
Welcomes h j s t u = (m : Letter)
    × (letter_of m ≡ AnyLetter.Welcome (with_node j (set_of h.members)) (with_settled s h.table) (with_older h.told) s.fate)
    × (u ≡ sent j m t)

-- p dies, if it lives here
abbrev pub kill_one : ℕ → ℕ → Process → Turn → Turn
kill_one n a p u = if is_live a u.node.watch p then die n a p u else u

-- these names are put, in order
abbrev pub put_names : Table → Replica → Replica
put_names puts v = fold (λ replica pair. wrote (Put pair) replica) v puts

-- nobody has these names
abbrev pub remove_names : List Text → Replica → Replica
remove_names xs v = fold (λ replica x. wrote (Remove x) replica) v xs
