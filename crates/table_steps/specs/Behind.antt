-- What a node has behind a step: its table, its members, who it was told has left, and the notices to its processes.
use Rattle.std.specs.Prelude.{ℕ, not, ◌&&◌, ◌==◌, ◌≡◌, if◌then◌else◌}
use Rattle.registry_model.specs.Process.{Nodes}
use Rattle.registry_model.specs.Table.{Table}
use Rattle.registry_model.specs.Settlement.{Fate}
use Rattle.registry_model.specs.Registry.{Replica}
use Rattle.protocol_model.specs.Letter.{Letter, is_down}
use Rattle.protocol_model.specs.Node.{Node, Current, wrote}
use Rattle.protocol_model.specs.Event.{Event}
use Rattle.protocol_model.specs.Turn.{begun}
use Rattle.protocol_model.specs.Calling.{event}
use Rattle.protocol_model.specs.Reading.{admitted, welcomed, bereft, receive}

-- behind a welcome from f to node a: what its sponsor has, where the node joins by f, and else what it had
abbrev pub behind_welcome : ℕ → ℕ → Nodes → Table → Nodes → Fate → Current → Replica → Replica
behind_welcome a f members pairs told fate (Current.Joining k m) v = if m == f then welcomed a members pairs told fate v else v
behind_welcome a f members pairs told fate _ v = v

-- behind a letter from f that node a reads
abbrev pub behind_letter : ℕ → ℕ → Letter → Current → Replica → Replica
behind_letter a f (Letter.Apply change) now v = wrote change v
behind_letter a f (Letter.Admit j settled) now v = admitted a j settled v
behind_letter a f (Letter.Welcome members pairs told fate) now v = behind_welcome a f members pairs told fate now v
behind_letter a f Letter.Down now v = bereft f v
behind_letter a f _ now v = v

-- behind any letter from f to node a, which is v: one from a node that is told to have left is dropped unread, but for `Down`
abbrev pub behind : ℕ → ℕ → Letter → Node → Replica
behind a f l v = if v.replica.told f && not (is_down l) then v.replica else behind_letter a f l v.current v.replica

-- whichever node reads it, in whatever world
abbrev pub LettersWrite : Type 0
LettersWrite = (n a : ℕ) (number : ℕ → ℕ) (f : ℕ) (l : Letter) (v : Node)
    → (receive n a number f l (begun v)).node.replica ≡ behind a f l v

-- what it is told to do beside that leaves it as it was
abbrev pub EventsKeep : Type 0
EventsKeep = (n a : ℕ) (world : Nodes) (e : Event) (v : Node) → (event n a world e (begun v)).node.replica ≡ v.replica
