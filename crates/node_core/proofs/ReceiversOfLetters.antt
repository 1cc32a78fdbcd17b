-- What a node does with a letter sends to nodes that have started.
use Rattle.std.proofs.Common.{ℕ, Bool, true, false, ◌==◌, ◌≡◌, Option, Some, None, List, [], ◌∷◌, ◌++◌, refl, ◌∙◌}
use Rattle.std.specs.Prelude.{◌&&◌, ◌||◌, not, if◌then◌else◌, fold}
use Rattle.std.proofs.lemmas.List.Elements.{All-filter}
use Rattle.registry_model.specs.Process.{Process, is_process, Nodes, with_node, without_node}
use Rattle.registry_model.specs.Table.{Table, Change as AnyChange, Put as AnyPut, Remove as AnyRemove, is_rising}
use Rattle.registry_model.specs.Registry.{Replica}
use Rattle.registry_model.specs.Call.{Joined, NotMember}
use Rattle.registry_model.specs.History.{Entry as AnyEntry}
use Rattle.registry_model.specs.Settlement.{Fate, Settled}
use Rattle.registry_model.proofs.Tables.{is_rising-without}
use Rattle.protocol_model.specs.Letter.{Letter as AnyLetter, Id, is_down}
use Rattle.protocol_model.specs.LockTable.{is_free_for}
use Rattle.protocol_model.specs.Node.{Op as AnyOp, Current, LockCall, call_of as call_of_holder, drop_call, wrote}
use Rattle.protocol_model.specs.Round.{greatest}
use Rattle.protocol_model.specs.Turn.{Turn, Send, at_work, with_replica, send, enter, reply_with}
use Rattle.protocol_model.specs.Registrar.{registrar}
use Rattle.protocol_model.specs.Watch.{is_live}
use Rattle.protocol_model.specs.Client.{hear_lock, owe_less}
use Rattle.protocol_model.specs.Deciding.{hear_answer}
use Rattle.protocol_model.specs.Reading.{with_member, noted, admitted, welcomed, bereft, asked_to_admit, refused_join, welcome, judge, hear, take_back, told_of, lose_join, lose_current, bereave, read, receive}
use Rattle.protocol_model.specs.Calling.{die, kill, queued}
use Rattle.term.specs.NodeSets.{set_of, with_older}
use Rattle.lock_table.specs.Ids.{id_of}
use Rattle.exchange.specs.Bodies.{settled_in, fate_in}
use Rattle.node_events.specs.declared.events.Letter.{Letter}
use Rattle.node_events.specs.declared.events.Letter.TheVariants.{SetLock, LockAnswer, GiveBack, GivenBack, ReleaseOf, Apply, Applied, JoinAsk, JoinRefused, Admit, Welcome, Down}
use Rattle.name_table.specs.Changes.{change_of}
use Rattle.node_events.specs.Letters.{letter_of}
use Rattle.node_core.proofs.Locking.{found_of}
use Rattle.node_core.proofs.Receivers.{AreOf, IsCallOf, Knows, IsWithin, ops-push, first, and_one_of, one_less_of, works, queues, keeps, shows, writes_one, sends, sends_all}
use Rattle.node_core.proofs.ReceiversOfLocks.{hears_lock, owes_less, loses_calls}
use Rattle.node_core.proofs.ReceiversOfOperations.{awaits, starts, hears, loses_contact, loses}

-- changes are written
writes_all : {n a : ℕ} {world : Nodes} {ops : List AnyOp} {cur : Current} {locks : List LockCall} {ss : List Send}
    {A : Type 0} (to : A → AnyChange) (items : List A) (v : Replica) → Knows n a world v ops cur locks ss
    → Knows n a world (fold (λ replica b. wrote (to b) replica) v items) ops cur locks ss
writes_all to [] v W = W
writes_all to (b ∷ items) v W = writes_all to items (wrote (to b) v) (writes_one W (to b))

-- notices are added
adds_notices : {n a : ℕ} {world : Nodes} {ops : List AnyOp} {cur : Current} {locks : List LockCall} {ss : List Send}
    (c : ℕ) (fate : Fate) (v : Replica) → Knows n a world v ops cur locks ss
    → Knows n a world (noted c fate v) ops cur locks ss
adds_notices c fate v W = shows W (noted c fate v) W.members W.told W.rising W.boss

-- the members of a welcome that haven't left
abbrev pub staying : Nodes → Nodes → Turn → Nodes
staying members gone u c = members c && not (u.node.replica.told c || gone c)

-- where the letter changes the members, those that are left have a boss
abbrev pub HasBoss : ℕ → Nodes → ℕ → Letter → Turn → Type 0
HasBoss n world f (Admit body) u =
    (world body.joiner ≡ true) × (world (greatest n (with_node body.joiner u.node.replica.members)) ≡ true)
HasBoss n world f (Welcome body) u =
    AreOf world (set_of body.value.members) × AreOf world (with_older body.value.told) × (is_rising body.value.pairs.items ≡ true)
    × (world (greatest n (staying (set_of body.value.members) (with_older body.value.told) u)) ≡ true)
HasBoss n world f Down u = world (greatest n (without_node f u.node.replica.members)) ≡ true
HasBoss n world f _ u = Unit {0}

module _ {n a : ℕ} {world : Nodes} where
  -- a process dies
  pub dies : (p : Process) (u : Turn) → IsWithin n a world u → IsWithin n a world (die n a p u)
  dies p u W = sends_all (keeps W (drop_call p u.node.calls)
      (All-filter (λ d. not (is_process d.holder p)) (IsCallOf world) u.node.calls W.calls)) u.node.replica.members
      (AnyLetter.ReleaseOf p) (λ c e. (W.members c e, tt))

  -- those of these that live here die
  kills : (ps : List Process) (u : Turn) → IsWithin n a world u → IsWithin n a world (kill n a ps u)
  kills [] u W = W
  kills (p ∷ ps) u W = kills ps (v live) (go live)
    where
      live : Bool
      live = is_live a u.node.watch p

      v : Bool → Turn
      v b = if b then die n a p u else u

      go : (b : Bool) → IsWithin n a world (v b)
      go true = dies p u W
      go false = W

  gives_up : (f : ℕ) (p : Process) (u : Turn) (o : Option LockCall) → call_of_holder p u.node.calls ≡ o
      → IsWithin n a world u → IsWithin n a world (owe_less n a f o u)
  gives_up f p u None is W = W
  gives_up f p u (Some c) is W =
      owes_less f c.phase c u (found_of (IsCallOf world) p u.node.calls c is W.calls) W

  -- j is admitted, where the members with it have a boss
  admits : (f j : ℕ) (settled : Settled) (u : Turn) → world f ≡ true → world j ≡ true
      → world (greatest n (with_node j u.node.replica.members)) ≡ true → IsWithin n a world u
      → IsWithin n a world (send f AnyLetter.Applied (kill n a settled.fate.kills (with_replica (admitted a j settled) u)))
  admits f j settled u e here boss W = sends (kills settled.fate.kills (with_replica (admitted a j settled) u)
      (adds_notices a settled.fate _ (writes_all AnyRemove settled.removes _
      (writes_all AnyPut settled.puts (with_member j u.node.replica) (go (u.node.replica.told j)))))) f AnyLetter.Applied e tt
    where
      go : (b : Bool) → Knows n a world
          (if b then u.node.replica else record u.node.replica { members = with_node j u.node.replica.members })
          u.node.queue u.node.current u.node.calls u.sends
      go true = W
      go false = shows W (record u.node.replica { members = with_node j u.node.replica.members })
          (and_one_of world u.node.replica.members j W.members here) W.told W.rising boss

  module _ (number : ℕ → ℕ) where
    judges : (f : ℕ) (id : Id) (p : Process) (b : Bool) (u : Turn) → world f ≡ true → IsWithin n a world u
        → IsWithin n a world (judge n a number f id p b u)
    judges f id p true u e W = sends W f (AnyLetter.LockAnswer id p true) e tt
    judges f id p false u e W = sends W f (AnyLetter.LockAnswer id p false) e tt

    hears_for : (f : ℕ) (p : Process) (g : Bool) (u : Turn) → IsWithin n a world u
        → IsWithin n a world (hear n a number f p g u)
    hears_for f p g u W = go (is_process p (registrar a))
      where
        found : (o : Option LockCall) → call_of_holder p u.node.calls ≡ o → IsWithin n a world (hear_lock n a f g o u)
        found None is = W
        found (Some c) is =
            hears_lock f g c.phase c u (found_of (IsCallOf world) p u.node.calls c is W.calls) W

        go : (b : Bool) → IsWithin n a world (if b
            then hear_answer n a number f g u.node.current u else hear_lock n a f g (call_of_holder p u.node.calls) u)
        go true = hears number f g u.node.current u W.current W
        go false = found (call_of_holder p u.node.calls) refl

    takes_back : (f : ℕ) (id : Id) (p : Process) (ack : Bool) (u : Turn) → world f ≡ true → IsWithin n a world u
        → IsWithin n a world (take_back n a number f id p ack u)
    takes_back f id p true u e W = sends W f (AnyLetter.GivenBack p) e tt
    takes_back f id p false u e W = W

    -- d has gone down: the node, its registrar and its lock calls are told, where the other members have a boss
    bereaves : (d : ℕ) (u : Turn) → world d ≡ true → world (greatest n (without_node d u.node.replica.members)) ≡ true
        → IsWithin n a world u → IsWithin n a world (bereave n a number d u)
    bereaves d u here boss W = loses_calls d w.node.calls w X.calls X
      where
        V : IsWithin n a world (told_of n a number d u)
        V = shows W (bereft d u.node.replica) (one_less_of world u.node.replica.members d W.members)
            (and_one_of world u.node.replica.told d W.told here)
            (is_rising-without (λ c. c == d) u.node.replica.table W.rising) boss

        v : Turn
        v = lose_join n a number d (told_of n a number d u)

        U : IsWithin n a world v
        U = loses_contact d u.node.current (told_of n a number d u) V

        w : Turn
        w = lose_current n a number d v

        X : IsWithin n a world w
        X = loses number d v.node.current v U.current U

    -- f asks to join
    lets_ask : (f : ℕ) (ps : Table) (u : Turn) → world f ≡ true → IsWithin n a world u
        → IsWithin n a world (asked_to_admit n a number f ps u)
    lets_ask f ps u e W = go u.node.replica.joined
      where
        go : (b : Bool) → IsWithin n a world (if b
            then queued n a (AnyOp.Admission f ps) u
            else send f AnyLetter.JoinRefused (enter (AnyEntry.Join f (number f) a NotMember) u))
        go true = queues W (u.node.queue ++ AnyOp.Admission f ps ∷ [])
            (ops-push world u.node.queue (AnyOp.Admission f ps) W.queue e)
        go false = sends W f AnyLetter.JoinRefused e tt

    -- a join by f is refused
    is_refused : (f : ℕ) (cur : Current) (u : Turn) → IsWithin n a world u
        → IsWithin n a world (refused_join n a number f cur u)
    is_refused f (Current.Joining k m) u W = go (m == f)
      where
        go : (b : Bool) → IsWithin n a world (if b then reply_with a k NotMember (at_work Current.Free u) else u)
        go true = works W Current.Free tt
        go false = W
    is_refused f _ u W = W

    -- a join by f is granted, where those members have a boss
    is_welcome : (f : ℕ) (members : Nodes) (pairs : Table) (gone : Nodes) (fate : Fate) (cur : Current) (u : Turn)
        → world f ≡ true → AreOf world members → AreOf world gone → is_rising pairs ≡ true
        → world (greatest n (staying members gone u)) ≡ true
        → IsWithin n a world u → IsWithin n a world (welcome n a number f members pairs gone fate cur u)
    is_welcome f members pairs gone fate (Current.Joining k m) u e of left rising boss W = go (m == f)
      where
        v : Turn
        v = with_replica (welcomed a members pairs gone fate) u

        either_of : (c : ℕ) (b d : Bool) → u.node.replica.told c ≡ b → gone c ≡ d → (b || d) ≡ true → world c ≡ true
        either_of c true d told away q = W.told c told
        either_of c false d told away q = left c (away ∙ q)

        V : IsWithin n a world v
        V = shows W (welcomed a members pairs gone fate u.node.replica)
            (λ c q. of c (first (members c) (not (u.node.replica.told c || gone c)) q))
            (λ c q. either_of c (u.node.replica.told c) (gone c) refl refl q)
            (is_rising-without (λ c. u.node.replica.told c || gone c) pairs rising) boss

        go : (b : Bool) → IsWithin n a world (if b
            then send f AnyLetter.Applied (reply_with a k Joined (at_work Current.Free (kill n a fate.kills v))) else u)
        go true = sends (works (kills fate.kills v V) Current.Free tt) f AnyLetter.Applied e tt
        go false = W
    is_welcome f members pairs gone fate _ u e of left rising boss W = W

    -- what is done with a letter
    reads_letter : (f : ℕ) (l : Letter) (u : Turn) → world f ≡ true → HasBoss n world f l u → IsWithin n a world u
        → IsWithin n a world (read n a number f (letter_of l) u)
    reads_letter f (SetLock id p) u e boss W = judges f (id_of id) p (is_free_for (id_of id) p u.node.locks) u e W
    reads_letter f (LockAnswer id p g) u e boss W = hears_for f p g u W
    reads_letter f (GiveBack id p ack) u e boss W = takes_back f (id_of id) p ack u e W
    reads_letter f (GivenBack p) u e boss W = gives_up f p u (call_of_holder p u.node.calls) refl W
    reads_letter f (ReleaseOf p) u e boss W = W
    reads_letter f (Apply change) u e boss W = sends (writes_one W (change_of change)) f AnyLetter.Applied e tt
    reads_letter f Applied u e boss W = awaits f u.node.current u W.current W
    reads_letter f (JoinAsk pairs) u e boss W = lets_ask f pairs.items u e W
    reads_letter f JoinRefused u e boss W = is_refused f u.node.current u W
    reads_letter f (Admit body) u e boss W =
        admits f body.joiner (settled_in body) u e boss.0 boss.1 W
    reads_letter f (Welcome body) u e boss W = is_welcome f (set_of body.value.members) body.value.pairs.items
        (with_older body.value.told) (fate_in body.value) u.node.current u e boss.0 boss.1 boss.2 boss.3 W
    reads_letter f Down u e boss W = bereaves f u e boss W

    pub receives : (f : ℕ) (l : Letter) (u : Turn) → world f ≡ true → HasBoss n world f l u → IsWithin n a world u
        → IsWithin n a world (receive n a number f (letter_of l) u)
    receives f l u e boss W = starts (v test) (go test)
      where
        test : Bool
        test = u.node.replica.told f && not (is_down (letter_of l))

        v : Bool → Turn
        v b = if b then u else read n a number f (letter_of l) u

        go : (b : Bool) → IsWithin n a world (v b)
        go true = W
        go false = reads_letter f l u e boss W
