-- How the registrar's round ends, and what is decided then.
-- n: above all nodes of the world. a: this node. number j: the number of j's current join, for the history alone.
use Rattle.std.specs.Prelude.{ℕ, Bool, None, if◌then◌else◌}
use Rattle.registry_model.specs.Process.{Nodes, with_node}
use Rattle.registry_model.specs.Table.{Table, StrikeOwner}
use Rattle.registry_model.specs.Call.{Joined, reply_to}
use Rattle.registry_model.specs.Settlement.{Settled, with_settled, settle}
use Rattle.registry_model.specs.History.{Entry}
use Rattle.protocol_model.specs.Round.{Round, owes, asked, answer, down, is_over, Ending, ending}
use Rattle.protocol_model.specs.Letter.{Global, Letter}
use Rattle.protocol_model.specs.Node.{Op, Current}
use Rattle.protocol_model.specs.Turn.{Turn, at_work, send, send_all, enter}
use Rattle.protocol_model.specs.Registrar.{registrar, finish, write, decide, give_up, ask_rest, await_less}

module _ (n a : ℕ) (number : ℕ → ℕ) where
  -- j is let in: the members are told to admit it, and it is welcomed with all that this node has
  abbrev pub admit : ℕ → Table → Nodes → Settled → Turn → Turn
  admit j pairs asked s u =
      send j
      (Letter.Welcome (with_node j u.node.replica.members)
      (with_settled s u.node.replica.table) u.node.replica.told s.fate)
      (send_all n u.node.replica.members (Letter.Admit j s)
      (at_work (Current.Writing (Op.Admission j pairs) asked (with_node j u.node.replica.members) None)
      (enter (Entry.Join j (number j) a Joined) u)))

  -- the round is held: the operation is decided, and enters the history
  abbrev pub held : Op → Nodes → Turn → Turn
  held (Op.Name k call) asked u =
      decide n a k call asked (reply_to u.node.replica.members u.node.replica.table call) u
  held (Op.Strike p) asked u = write n a (Op.Strike p) asked None (StrikeOwner p) (enter (Entry.Strike p) u)
  held (Op.Admission j pairs) asked u =
      if u.node.replica.told j
      then finish n a (Op.Admission j pairs) asked None u
      else admit j pairs asked (settle u.node.replica.table pairs) u
  held (Op.Join k m) asked u = u  -- a join has no round

  -- the ending of a round
  abbrev pub end_by : Ending → Op → Nodes → Turn → Turn
  end_by Ending.Held op asked u = held op asked u
  end_by (Ending.GiveBack granted) op asked u = give_up n a op granted u

  -- Ending, where the round is over; the growth check reads the members as they are now
  abbrev pub end_round : Op → Round → Turn → Turn
  end_round op r u = if is_over n r then end_by (ending n u.node.replica.members r) op (asked r) u else u

  -- the round stands so now, and may be over
  abbrev pub go_on : Op → Round → Turn → Turn
  go_on op r u = end_round op r (at_work (Current.Asking op r) u)

  -- c answers the registrar's round: the rest are asked where it is the boss's grant
  abbrev pub hear_answer : ℕ → Bool → Current → Turn → Turn
  hear_answer c granted (Current.Asking op r) u =
      if owes r c
      then go_on op (answer c granted r) (ask_rest n a c granted (Letter.SetLock (Global a) (registrar a)) r u)
      else u
  hear_answer c granted _ u = u

  -- c has gone down: the registrar's round or its wait is told
  abbrev pub lose : ℕ → Current → Turn → Turn
  lose c (Current.Asking op r) u = go_on op (down c r) u
  lose c current u = await_less n a c current u
