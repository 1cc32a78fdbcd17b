-- What a node of a set does with a letter that speaks of the set, and with an event, knows of nodes of this set alone.
use Rattle.std.proofs.Common.{ℕ, Bool, true, false, ◌==◌, ◌≡◌, ◌+◌, Option, Some, None, List, [], ◌∷◌, ◌++◌, refl}
use Rattle.std.specs.Prelude.{◌&&◌, ◌||◌, not, if◌then◌else◌, fold}
use Rattle.std.proofs.lemmas.Bool.{and_parts, not-true}
use Rattle.std.proofs.lemmas.List.Elements.{All-filter, All-head, All-tail}
use Rattle.registry_model.specs.Process.{Text, Process, is_process, Nodes, with_node}
use Rattle.registry_model.specs.Table.{Table, Put, Remove}
use Rattle.registry_model.specs.Registry.{Replica}
use Rattle.registry_model.specs.Call.{Joined, NotMember, seen_in}
use Rattle.registry_model.specs.History.{Entry}
use Rattle.registry_model.proofs.Updates.{by_test}
use Rattle.registry_model.specs.Settlement.{Fate, Settled}
use Rattle.protocol_model.specs.Letter.{Letter, Id, is_down}
use Rattle.protocol_model.specs.LockTable.{Locks, is_free_for, grant, give_back, drop_holder, drop_node}
use Rattle.protocol_model.specs.Watch.{is_live}
use Rattle.protocol_model.specs.Node.{Op, Current, LockCall, Times, call_of, drop_call, wrote}
use Rattle.protocol_model.specs.Event.{Call, Event}
use Rattle.protocol_model.specs.Turn.{Turn, Send, at_work, with_replica, with_locks, send, enter, reply_with, count_call}
use Rattle.protocol_model.specs.Registrar.{registrar, retry_global}
use Rattle.protocol_model.specs.Client.{hear_lock, owe_less, new_call, retry_locks}
use Rattle.protocol_model.specs.Deciding.{hear_answer}
use Rattle.protocol_model.specs.Reading.{with_member, noted, wrote_all, admitted, welcomed, bereft, asked_to_admit, refused_join, welcome, judge, hear, take_back, told_of, lose_join, lose_current, bereave, read, receive}
use Rattle.protocol_model.specs.Calling.{die, kill, queued, call, event}
use Rattle.creations.proofs.Inside.{AreIn, IsOwnedIn, OwnersIn, IsGrantIn, IsCurrentIn, IsCallIn, IsLetterIn, Knows, IsInside, ops-push, first_of, one_more, one_less_in, grant_holders, give_back_holders, call_of_in, works, queues, calls_are, grants_are, shows, writes_one, sends, sends_all, enters}
use Rattle.creations.proofs.LocksInside.{Ground, tries, hears_lock, deletes, owes_less, retries_calls, loses_calls}
use Rattle.creations.proofs.WorkInside.{asks, awaits, starts, hears, loses_contact, loses}

-- what was settled is written
module _ {S : Nodes} {locks : Locks} {ops : List Op} {cur : Current} {calls : List LockCall} {ss : List Send}
    {es : List Entry} where
  puts_written : (pairs : Table) (v : Replica) → OwnersIn S pairs → Knows S v locks ops cur calls ss es
      → Knows S (fold (λ replica pair. wrote (Put pair) replica) v pairs) locks ops cur calls ss es
  puts_written [] v i W = W
  puts_written (pair ∷ pairs) v i W = puts_written pairs (wrote (Put pair) v) (All-tail (IsOwnedIn S) pair pairs i)
      (writes_one W (Put pair) (All-head (IsOwnedIn S) pair pairs i))

  removes_written : (xs : List Text) (v : Replica) → Knows S v locks ops cur calls ss es
      → Knows S (fold (λ replica x. wrote (Remove x) replica) v xs) locks ops cur calls ss es
  removes_written [] v W = W
  removes_written (x ∷ xs) v W = removes_written xs (wrote (Remove x) v) (writes_one W (Remove x) tt)

  -- notices are added
  notes : (c : ℕ) (fate : Fate) (v : Replica) → Knows S v locks ops cur calls ss es → Knows S (noted c fate v) locks ops cur calls ss es
  notes c fate v W = shows W (noted c fate v) W.members W.told W.disjoint W.table

-- what a call names is of the set
abbrev pub IsAskedIn : Nodes → Call → Type 0
IsAskedIn S (Call.JoinBy m) = S m ≡ true
IsAskedIn S (Call.SetLock p r q target retries) = S p.node ≡ true
IsAskedIn S (Call.DelLock p r q target) = S p.node ≡ true
IsAskedIn S _ = Unit {0}

-- what an event names, which is no leave
abbrev pub IsToldIn : Nodes → Event → Type 0
IsToldIn S (Event.Calling c) = IsAskedIn S c
IsToldIn S (Event.Exiting p) = S p.node ≡ true
IsToldIn S Event.Leave = ⊥
IsToldIn S _ = Unit {0}

module _ (n : ℕ) {a : ℕ} {S : Nodes} (G : Ground S a) where
  -- a process dies
  dies : (p : Process) (u : Turn) → IsInside S u → IsInside S (die n a p u)
  dies p u W = sends_all (calls_are W (drop_call p u.node.calls)
      (All-filter (λ d. not (is_process d.holder p)) (IsCallIn S) u.node.calls W.called)) n u.node.replica.members
      (Letter.ReleaseOf p) W.members tt

  -- those of these that live here die
  kills : (ps : List Process) (u : Turn) → IsInside S u → IsInside S (kill n a ps u)
  kills [] u W = W
  kills (p ∷ ps) u W = kills ps (v live) (go live)
    where
      live : Bool
      live = is_live a u.node.watch p

      v : Bool → Turn
      v b = if b then die n a p u else u

      go : (b : Bool) → IsInside S (v b)
      go true = dies p u W
      go false = W

  gives_up : (f : ℕ) (p : Process) (u : Turn) (o : Option LockCall) → call_of p u.node.calls ≡ o → IsInside S u
      → IsInside S (owe_less n a f o u)
  gives_up f p u None is W = W
  gives_up f p u (Some c) is W =
      let d : IsCallIn S c = call_of_in S p u.node.calls c is W.called in
      owes_less n G f c.phase c u d.holder d.phase W

  -- j is admitted
  admits : (f j : ℕ) (settled : Settled) (u : Turn) → S f ≡ true → S j ≡ true → OwnersIn S settled.puts → IsInside S u
      → IsInside S (send f Letter.Applied (kill n a settled.fate.kills (with_replica (admitted a j settled) u)))
  admits f j settled u e here owned W = sends (kills settled.fate.kills (with_replica (admitted a j settled) u)
      (notes a settled.fate (wrote_all settled (with_member j u.node.replica))
      (removes_written settled.removes (fold (λ replica pair. wrote (Put pair) replica) (with_member j u.node.replica) settled.puts)
      (puts_written settled.puts (with_member j u.node.replica) owned (go (u.node.replica.told j) refl))))) f Letter.Applied e tt
    where
      go : (b : Bool) → u.node.replica.told j ≡ b → Knows S
          (if b then u.node.replica else record u.node.replica { members = with_node j u.node.replica.members })
          u.node.locks u.node.queue u.node.current u.node.calls u.sends u.entries
      go true t = W
      go false t = shows W (record u.node.replica { members = with_node j u.node.replica.members })
          (one_more S u.node.replica.members j W.members here) W.told
          (by_test j (λ x b. (if b then true else u.node.replica.members x) ≡ true → u.node.replica.told x ≡ false)
          (λ q. t) (λ x ne q. W.disjoint x q)) W.table

  module _ (number : ℕ → ℕ) where
    judges : (f : ℕ) (id : Id) (p : Process) (b : Bool) (u : Turn) → S f ≡ true → S p.node ≡ true → IsInside S u
        → IsInside S (judge n a number f id p b u)
    judges f id p true u e home W =
        sends (grants_are W (grant id p u.node.locks) (grant_holders S id p u.node.locks home W.grants)) f
        (Letter.LockAnswer id p true) e tt
    judges f id p false u e home W = sends W f (Letter.LockAnswer id p false) e tt

    hears_for : (f : ℕ) (p : Process) (g : Bool) (u : Turn) → IsInside S u → IsInside S (hear n a number f p g u)
    hears_for f p g u W = go (is_process p (registrar a))
      where
        found : (o : Option LockCall) → call_of p u.node.calls ≡ o → IsInside S (hear_lock n a f g o u)
        found None is = W
        found (Some c) is =
            let d : IsCallIn S c = call_of_in S p u.node.calls c is W.called in
            hears_lock n G f g c.phase c u d.holder d.phase W

        go : (b : Bool) → IsInside S (if b
            then hear_answer n a number f g u.node.current u else hear_lock n a f g (call_of p u.node.calls) u)
        go true = hears n G number f g u.node.current u W.current W
        go false = found (call_of p u.node.calls) refl

    takes_back : (f : ℕ) (id : Id) (p : Process) (ack : Bool) (u : Turn) → S f ≡ true → IsInside S u
        → IsInside S (take_back n a number f id p ack u)
    takes_back f id p true u e W = sends (less_given u W) f (Letter.GivenBack p) e tt
      where
        less_given : (u : Turn) → IsInside S u → IsInside S (with_locks (give_back id p) u)
        less_given u W = grants_are W (give_back id p u.node.locks) (give_back_holders S id p u.node.locks W.grants)
    takes_back f id p false u e W =
        grants_are W (give_back id p u.node.locks) (give_back_holders S id p u.node.locks W.grants)

    -- d has gone down: the node, its registrar and its lock calls are told
    bereaves : (d : ℕ) (u : Turn) → S d ≡ true → IsInside S u → IsInside S (bereave n a number d u)
    bereaves d u here W = loses_calls n G d w.node.calls w X.called X
      where
        V : IsInside S (told_of n a number d u)
        V = grants_are (shows (enters W (Entry.Told a d) G.here) (bereft d u.node.replica)
            (one_less_in S u.node.replica.members d W.members)
            (one_more S u.node.replica.told d W.told here)
            (by_test d (λ x b. (if b then false else u.node.replica.members x) ≡ true
            → (if b then true else u.node.replica.told x) ≡ false) (λ q. cc) (λ x ne q. W.disjoint x q))
            (All-filter (λ pair. not (pair.owner.node == d)) (IsOwnedIn S) u.node.replica.table W.table))
            (drop_node d u.node.locks) (All-filter (λ g. not (g.holder.node == d)) (IsGrantIn S) u.node.locks W.grants)

        v : Turn
        v = lose_join n a number d (told_of n a number d u)

        U : IsInside S v
        U = loses_contact n G d u.node.current (told_of n a number d u) V

        w : Turn
        w = lose_current n a number d v

        X : IsInside S w
        X = loses n G number d v.node.current v U.current U

    -- f asks to join
    lets_ask : (f : ℕ) (ps : Table) (u : Turn) → S f ≡ true → OwnersIn S ps → IsInside S u
        → IsInside S (asked_to_admit n a number f ps u)
    lets_ask f ps u e owned W = go u.node.replica.joined
      where
        go : (b : Bool) → IsInside S (if b
            then queued n a (Op.Admission f ps) u
            else send f Letter.JoinRefused (enter (Entry.Join f (number f) a NotMember) u))
        go true = queues W (u.node.queue ++ Op.Admission f ps ∷ [])
            (ops-push S u.node.queue (Op.Admission f ps) W.queue (e, owned))
        go false = sends (enters W (Entry.Join f (number f) a NotMember) e) f Letter.JoinRefused e tt

    -- a join by f is refused
    is_refused : (f : ℕ) (cur : Current) (u : Turn) → IsInside S u → IsInside S (refused_join n a number f cur u)
    is_refused f (Current.Joining k m) u W = go (m == f)
      where
        go : (b : Bool) → IsInside S (if b then reply_with a k NotMember (at_work Current.Free u) else u)
        go true = works W Current.Free tt
        go false = W
    is_refused f _ u W = W

    -- a join by f is granted
    is_welcome : (f : ℕ) (members : Nodes) (pairs : Table) (gone : Nodes) (fate : Fate) (cur : Current) (u : Turn)
        → S f ≡ true → AreIn S members → OwnersIn S pairs → AreIn S gone → IsInside S u
        → IsInside S (welcome n a number f members pairs gone fate cur u)
    is_welcome f members pairs gone fate (Current.Joining k m) u e of owned left W = go (m == f)
      where
        v : Turn
        v = with_replica (welcomed a members pairs gone fate) u

        either : (c : ℕ) (b : Bool) → u.node.replica.told c ≡ b → (b || gone c) ≡ true → S c ≡ true
        either c true told q = W.told c told
        either c false told q = left c q

        V : IsInside S v
        V = shows W (welcomed a members pairs gone fate u.node.replica)
            (λ c q. of c (first_of (members c) (not (u.node.replica.told c || gone c)) q))
            (λ c q. either c (u.node.replica.told c) refl q)
            (λ c q. not-true (u.node.replica.told c || gone c)
            (and_parts (members c) (not (u.node.replica.told c || gone c)) q).1)
            (All-filter (λ pair. not (u.node.replica.told pair.owner.node || gone pair.owner.node)) (IsOwnedIn S) pairs owned)

        go : (b : Bool) → IsInside S (if b
            then send f Letter.Applied (reply_with a k Joined (at_work Current.Free (kill n a fate.kills v))) else u)
        go true = sends (works (kills fate.kills v V) Current.Free tt) f Letter.Applied e tt
        go false = W
    is_welcome f members pairs gone fate _ u e of owned left W = W

    -- what is done with a letter
    reads : (f : ℕ) (l : Letter) (u : Turn) → S f ≡ true → IsLetterIn S l → IsInside S u
        → IsInside S (read n a number f l u)
    reads f (Letter.SetLock id p) u e i W = judges f id p (is_free_for id p u.node.locks) u e i W
    reads f (Letter.LockAnswer id p g) u e i W = hears_for f p g u W
    reads f (Letter.GiveBack id p ack) u e i W = takes_back f id p ack u e W
    reads f (Letter.GivenBack p) u e i W = gives_up f p u (call_of p u.node.calls) refl W
    reads f (Letter.ReleaseOf p) u e i W = grants_are W (drop_holder p u.node.locks)
        (All-filter (λ g. not (is_process g.holder p)) (IsGrantIn S) u.node.locks W.grants)
    reads f (Letter.Apply change) u e i W = sends (writes_one W change i) f Letter.Applied e tt
    reads f Letter.Applied u e i W = awaits n G f u.node.current u W.current W
    reads f (Letter.JoinAsk pairs) u e i W = lets_ask f pairs u e i W
    reads f Letter.JoinRefused u e i W = is_refused f u.node.current u W
    reads f (Letter.Admit j settled) u e i W = admits f j settled u e i.0 i.1 W
    reads f (Letter.Welcome members pairs told fate) u e i W =
        is_welcome f members pairs told fate u.node.current u e i.0 i.1 i.2 W
    reads f Letter.Down u e i W = bereaves f u e W

    pub receives : (f : ℕ) (l : Letter) (u : Turn) → S f ≡ true → IsLetterIn S l → IsInside S u
        → IsInside S (receive n a number f l u)
    receives f l u e i W = starts n G (v test) (go test)
      where
        test : Bool
        test = u.node.replica.told f && not (is_down l)

        v : Bool → Turn
        v b = if b then u else read n a number f l u

        go : (b : Bool) → IsInside S (v b)
        go true = W
        go false = reads f l u e i W

  calls : (k : ℕ) (c : Call) (u : Turn) → IsAskedIn S c → IsInside S u → IsInside S (call n a k c u)
  calls k Call.Spawn u i W = W
  calls k (Call.LookUp look) u i W = enters W (Entry.Read a look (seen_in u.node.replica look)) tt
  calls k (Call.OnName c) u i W =
      queues W (u.node.queue ++ Op.Name k c ∷ []) (ops-push S u.node.queue (Op.Name k c) W.queue tt)
  calls k (Call.SetLock p r q target retries) u i W = tries n G (new_call n a k p r q target retries) (count_call u) i W
  calls k (Call.DelLock p r q target) u i W = deletes n G (new_call n a k p r q target (Times 0)) (count_call u) i W
  calls k (Call.JoinBy m) u i W =
      queues W (u.node.queue ++ Op.Join k m ∷ []) (ops-push S u.node.queue (Op.Join k m) W.queue i)

  retries : (cur : Current) (u : Turn) → IsCurrentIn S cur → IsInside S u → IsInside S (retry_global n a cur u)
  retries (Current.Waiting op) u of W = asks n G op u of W
  retries _ u of W = W

  pub happens_inside : (world : Nodes) (e : Event) (u : Turn) → IsToldIn S e → IsInside S u
      → IsInside S (event n a world e u)
  happens_inside world (Event.Calling c) u i W =
      starts n G (call n a (u.node.last_call + 1) c u) (calls (u.node.last_call + 1) c u i W)
  happens_inside world Event.Retry u i W =
      let v : Turn = retry_global n a u.node.current u in
      let V : IsInside S v = retries u.node.current u W.current W in
      starts n G (retry_locks n a v) (retries_calls n G v.node.calls v V.called V)
  happens_inside world (Event.Exiting p) u i W =
      starts n G (die n a p (enter (Entry.Exit p) u)) (dies p (enter (Entry.Exit p) u) (enters W (Entry.Exit p) i))
  happens_inside world Event.Leave u i W = absurd i
