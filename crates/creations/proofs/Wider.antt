-- Who knows of nodes of a set alone knows of nodes of each wider set alone.
use Rattle.std.proofs.Common.{ℕ, true, ◌≡◌, List, [], ◌∷◌}
use Rattle.std.proofs.lemmas.List.Elements.{All-weaker}
use Rattle.registry_model.specs.Process.{Nodes}
use Rattle.registry_model.specs.Table.{Table, Change}
use Rattle.registry_model.specs.Call.{change_of}
use Rattle.registry_model.specs.Registry.{Replica}
use Rattle.registry_model.specs.History.{Entry}
use Rattle.protocol_model.specs.Letter.{Letter}
use Rattle.protocol_model.specs.LockTable.{Locks}
use Rattle.protocol_model.specs.Node.{Op, Current, LockPhase, LockCall}
use Rattle.protocol_model.specs.Turn.{Send}
use Rattle.creations.proofs.Inside.{AreIn, IsOwnedIn, OwnersIn, IsGrantIn, IsChangeIn, IsOpIn, AreOpsIn, IsCurrentIn, IsPhaseIn, IsCallIn, IsLetterIn, IsSentIn, IsEntryIn, Knows}

module _ (S T : Nodes) (wider : (c : ℕ) → S c ≡ true → T c ≡ true) where
  nodes : (s : Nodes) → AreIn S s → AreIn T s
  nodes s of c e = wider c (of c e)

  owners : (t : Table) → OwnersIn S t → OwnersIn T t
  owners t of = All-weaker (IsOwnedIn S) (IsOwnedIn T) (λ pair e. wider pair.owner.node e) t of

  an_op : (op : Op) → IsOpIn S op → IsOpIn T op
  an_op (Op.Name k c) of = tt
  an_op (Op.Strike p) of = tt
  an_op (Op.Join k m) of = wider m of
  an_op (Op.Admission j pairs) of = (wider j of.0, owners pairs of.1)

  ops : (xs : List Op) → AreOpsIn S xs → AreOpsIn T xs
  ops [] of = tt
  ops (op ∷ xs) of = (an_op op of.0, ops xs of.1)

  current : (c : Current) → IsCurrentIn S c → IsCurrentIn T c
  current Current.Free of = tt
  current (Current.Asking op r) of = (an_op op of.0, λ c e. wider c (of.1 c e))
  current (Current.Waiting op) of = an_op op of
  current (Current.Writing op s awaited reply) of = nodes s of
  current (Current.Joining k m) of = tt

  phase : (p : LockPhase) → IsPhaseIn S p → IsPhaseIn T p
  phase (LockPhase.Asking r) of = λ c e. wider c (of c e)
  phase LockPhase.Waiting of = tt
  phase (LockPhase.Deleting owing) of = nodes owing of

  a_call : (c : LockCall) → IsCallIn S c → IsCallIn T c
  a_call c of = record { phase = phase c.phase of.phase; holder = wider c.holder.node of.holder }

  change : (c : Change) → IsChangeIn S c → IsChangeIn T c
  change (Change.Put pair) of = wider pair.owner.node of
  change (Change.Remove x) of = tt
  change (Change.StrikeOwner p) of = tt

  pub letter : (l : Letter) → IsLetterIn S l → IsLetterIn T l
  letter (Letter.SetLock id p) of = wider p.node of
  letter (Letter.LockAnswer id p granted) of = tt
  letter (Letter.GiveBack id p ack) of = tt
  letter (Letter.GivenBack p) of = tt
  letter (Letter.ReleaseOf p) of = tt
  letter (Letter.Apply c) of = change c of
  letter Letter.Applied of = tt
  letter (Letter.JoinAsk pairs) of = owners pairs of
  letter Letter.JoinRefused of = tt
  letter (Letter.Admit j settled) of = (wider j of.0, owners settled.puts of.1)
  letter (Letter.Welcome members pairs told fate) of = (nodes members of.0, owners pairs of.1, nodes told of.2)
  letter Letter.Down of = tt

  an_entry : (e : Entry) → IsEntryIn S e → IsEntryIn T e
  an_entry (Entry.Name n k call reply) of = λ g. change (change_of call) (of g)
  an_entry (Entry.Strike p) of = tt
  an_entry (Entry.Join j k m reply) of = wider j of
  an_entry (Entry.Done n) of = tt
  an_entry (Entry.Exit p) of = wider p.node of
  an_entry (Entry.Left d) of = of
  an_entry (Entry.Told n d) of = wider n of
  an_entry (Entry.Read n look reply) of = tt

  sent : (s : Send) → IsSentIn S s → IsSentIn T s
  sent s of = (wider s.to of.0, letter s.letter of.1)

  pub knows : (known : Replica) (locks : Locks) (xs : List Op) (cur : Current) (calls : List LockCall) (ss : List Send) (es : List Entry)
      → Knows S known locks xs cur calls ss es → Knows T known locks xs cur calls ss es
  knows known locks xs cur calls ss es W = record {
    members = nodes known.members W.members;
    told = nodes known.told W.told;
    disjoint = W.disjoint;
    table = owners known.table W.table;
    grants = All-weaker (IsGrantIn S) (IsGrantIn T) (λ g e. wider g.holder.node e) locks W.grants;
    queue = ops xs W.queue;
    current = current cur W.current;
    called = All-weaker (IsCallIn S) (IsCallIn T) a_call calls W.called;
    sent = All-weaker (IsSentIn S) (IsSentIn T) sent ss W.sent;
    entered = All-weaker (IsEntryIn S) (IsEntryIn T) an_entry es W.entered;
  }
