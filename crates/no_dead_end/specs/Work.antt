-- The work of a world: about as many letters as are still sent in it if nobody calls or retries. Each delivery lowers it.
-- n: as many nodes as count, or more. f and c: nodes, f the sender and c the receiver of a letter. alive: who may still be killed.
use Rattle.std.specs.Prelude.{ℕ, Bool, true, false, not, ◌&&◌, ◌==◌, ◌+◌, ◌*◌, filter, length, List, if◌then◌else◌}
use Rattle.registry_model.specs.Process.{Process, nodes_of}
use Rattle.registry_model.specs.Table.{Table, Change, Put}
use Rattle.registry_model.specs.Call.{NameCall, Unregister}
use Rattle.protocol_model.specs.Round.{Mark, Out, Later}
use Rattle.protocol_model.specs.Letter.{Letter}
use Rattle.protocol_model.specs.Node.{Op}
use Rattle.protocol_model.specs.World.{Opening, in_world, World}
use Rattle.protocol_model.specs.ClientLocks.{is_no_more}
use Rattle.named_events.specs.Worlds.{running}
use Rattle.no_dead_end.specs.Weights.{when, Weights, total}

-- whether the call gives a name to a process
abbrev pub is_put : NameCall → Bool
is_put (Unregister x) = false
is_put _ = true

-- how many of these pairs are owned on c
abbrev pub owned_on : ℕ → Table → ℕ
owned_on c t = length (filter (λ pair. pair.owner.node == c) t)

-- how many of these processes are c's, and live
abbrev pub live_on : (Process → Bool) → ℕ → List Process → ℕ
live_on alive c ps = length (filter (λ p. (p.node == c) && alive p) ps)

-- an answer that is owed, or a grant that is to be given back; whom nobody has asked yet is asked, answers and gets it back
abbrev pub mark_work : Mark → ℕ
mark_work Out = 0
mark_work Later = 3
mark_work _ = 1

-- What follows of an operation, in letters
module _ (n : ℕ) where
  abbrev pub round_work : ℕ
  round_work = 3 * n

  abbrev pub strike_work : ℕ
  strike_work = 5 * n

  -- a name that goes along in a join
  abbrev pub pair_work : ℕ
  pair_work = 6 * n

  abbrev pub admission_work : Table → ℕ
  admission_work pairs = 2 * n + length pairs * pair_work

  abbrev pub put_work : ℕ
  put_work = strike_work + pair_work

  abbrev pub undecided_work : Op → ℕ
  undecided_work (Op.Name k call) = 2 * n + when (is_put call) put_work
  undecided_work (Op.Strike p) = 2 * n
  undecided_work (Op.Admission j pairs) = admission_work pairs
  undecided_work (Op.Join k m) = 0

  -- a join goes with the table that its node has then
  abbrev pub queued_work : Table → Op → ℕ
  queued_work t (Op.Join k m) = 1 + round_work + admission_work t
  queued_work t op = round_work + undecided_work op

  -- the owner of a name that is put may have to be struck; a lone node writes by itself, and joins with what it wrote
  abbrev pub change_work : ℕ → ℕ → Change → ℕ
  change_work f c (Put pair) = when (pair.owner.node == c) strike_work + when (f == c) pair_work
  change_work f c change = 0

-- Each letter, and what follows where it is read
module _ (n : ℕ) (alive : Process → Bool) where
  abbrev pub letter_work : ℕ → ℕ → Letter → ℕ
  letter_work f c (Letter.SetLock id p) = 2
  letter_work f c (Letter.GiveBack id p ack) = if ack then 2 else 1
  letter_work f c (Letter.Apply change) = 2 + change_work n f c change
  letter_work f c (Letter.JoinAsk pairs) = 1 + round_work n + admission_work n pairs
  letter_work f c (Letter.Admit j s) = 2 + owned_on c s.puts * strike_work n + live_on alive c s.fate.kills * n
  letter_work f c (Letter.Welcome members pairs told fate) =
      2 + owned_on c pairs * strike_work n + live_on alive c fate.kills * n
  letter_work f c l = 1

  abbrev pub work_weights : Weights
  work_weights = record {
    mark = mark_work;
    undecided = undecided_work n;
    back = 1;
    queued = queued_work n;
    owned = strike_work n;
    letter = letter_work;
  }

-- how many nodes a world has
abbrev pub size : Opening → ℕ
size o = length (nodes_of o.bound (in_world o))

-- a process that may still be killed
abbrev pub may_die : World → Process → Bool
may_die w p = not (is_no_more w p)

abbrev pub work : Opening → World → ℕ
work o w = total o.bound (work_weights (size o) (may_die w)) (running o w) w
