-- A quiet world waits for nothing that doesn't come.
use mathlib.Core.Logic.{◌⊎◌}
use Rattle.std.proofs.Common.{ℕ, suc, Bool, true, false, ◌==◌, ◌≡◌, ◌+◌, Some, None, List, [], ◌∷◌, ◌++◌, refl, sym, ap, subst, ◌∙◌, inl, inr, arith}
use Rattle.std.specs.Prelude.{length, filter, Contains, if◌then◌else◌}
use Rattle.registry_model.specs.Process.{Process, is_process}
use Rattle.registry_model.specs.Table.{Table}
use Rattle.registry_model.proofs.Lists.{Contains-cases, Contains-front, Contains-behind, Contains-nil}
use Rattle.protocol_model.specs.Node.{Op, Current, LockPhase, LockCall, call_of, is_writing}
use Rattle.protocol_model.specs.Event.{Event, is_joining, is_waiting}
use Rattle.protocol_model.specs.World.{Opening, in_world, World, left, At, refusal, opening_world, run}
use Rattle.protocol_model.specs.Quiet.{Runs}
use Rattle.named_events.proofs.Invariants.{IsUp, IsProperCurrent}
use Rattle.walk.proofs.Calls.{AllOpen, all_open}
use Rattle.named_events.proofs.Tokens.{Gate, Away, Knock, Wait, Turned, Entering, is_away}
use Rattle.named_events.proofs.Tokens
use Rattle.named_events.proofs.Calls.{home_of_call}
use Rattle.named_events.proofs.Families.{Whole, whole}
use Rattle.named_events.proofs.Quiet.{registrars, calls_wait, rid, at_ease}
use Rattle.named_events.proofs.Rest.{WorkRests}
use Rattle.no_dead_end.specs.QuietWorlds.{admits, admissions, AtRest, Idle, Refused, Knocks, QuietWorldsRest}
use Rattle.named_events.specs.Worlds.{of_nodes, OfNodes, IsQuiet}

-- a call of a list of open calls stands for its process
pub found_call : (xs cs : List LockCall) (c : LockCall) → AllOpen xs cs → Contains cs c → call_of c.holder xs ≡ Some c
found_call xs [] c A i = absurd (Contains-nil c i)
found_call xs (d ∷ cs) c A i = go (Contains-cases d cs c i) (λ k. found_call xs cs c A.1 k)
  where
    go : (d ≡ c) ⊎ (Contains cs c) → (Contains cs c → call_of c.holder xs ≡ Some c) → call_of c.holder xs ≡ Some c
    go (inl same) more = subst (λ (x : LockCall). call_of x.holder xs ≡ Some x) same A.0
    go (inr k) more = more k

-- where the registrar rests the node may leave
pub leave_accepted : (Up : ℕ → Type 0) (o : Opening) (w : World) (c : ℕ) → in_world o c ≡ true → left w c ≡ false
    → AtRest Up w c (w.node c).current → refusal o w (At c Event.Leave) ≡ None
leave_accepted Up o w c inside stays R = rw (inside, stays, idle (w.node c).current R) refl
  where
    idle : (x : Current) → AtRest Up w c x → is_writing x ≡ false
    idle x (Idle q s) = refl
    idle x (Refused op) = refl
    idle x (Knocks k m up j i n) = refl

-- a call that is found is in the list
pub call_listed : (p : Process) (cs : List LockCall) (c : LockCall) → call_of p cs ≡ Some c → Contains cs c
call_listed p [] c e = cc e
call_listed p (d ∷ cs) c e = go (is_process d.holder p) e (λ k. call_listed p cs c k)
  where
    go : (t : Bool) → (if t then Some d else call_of p cs) ≡ Some c → (call_of p cs ≡ Some c → Contains cs c) → Contains (d ∷ cs) c
    go true k more = let same : d ≡ c = cc k in subst (λ (x : LockCall). Contains (x ∷ cs) c) (sym same) (Contains-front c cs)
    go false k more = Contains-behind d cs c (more k)

module _ (o : Opening) (w : World) (W : Whole o w) (Q : IsQuiet (of_nodes o) w) (c : ℕ) (up : IsUp o w c) where
  pub calls : (call : LockCall) → Contains (w.node c).calls call → call.phase ≡ LockPhase.Waiting
  calls call i =
      let found : call_of call.holder (w.node c).calls ≡ Some call =
      found_call (w.node c).calls (w.node c).calls call (all_open c (w.node c).calls (W.base.ordered c)) i in
      let home : call.holder.node ≡ c = home_of_call c call.holder (w.node c).calls call (W.base.ordered c) found in
      calls_wait o w W Q call.holder call (subst (IsUp o w) (sym home) up)
      (subst (λ (x : ℕ). call_of call.holder (w.node x).calls ≡ Some call) (sym home) found)

  -- so many admissions of a joiner are counted as are listed
  counted : (j : ℕ) (ops : List Op) → length (filter (admits j) ops) ≡ length (Tokens.admissions j ops)
  counted j [] = refl
  counted j (Op.Name k call ∷ ops) = counted j ops
  counted j (Op.Strike p ∷ ops) = counted j ops
  counted j (Op.Join k m ∷ ops) = counted j ops
  counted j (Op.Admission i pairs ∷ ops) = go (i == j) (counted j ops)
    where
      go : (t : Bool) → length (filter (admits j) ops) ≡ length (Tokens.admissions j ops)
          → length (if t then Op.Admission i pairs ∷ filter (admits j) ops else filter (admits j) ops)
          ≡ length ((if t then pairs ∷ [] else []) ++ Tokens.admissions j ops)
      go true h = ap suc h
      go false h = h

  -- a node that waits for a contact
  module _ (k m : ℕ) (e : (w.node c).current ≡ Current.Joining k m) where
    untold : (w.node c).replica.told m ≡ false
    untold = subst (WorkRests o (w.node c).replica.told) e (W.rest c up.0).work

    contact : IsUp o w m
    contact = (subst (IsProperCurrent o w) e (W.base.all.proper.currents c), go (left w m) refl)
      where
        go : (t : Bool) → left w m ≡ t → t ≡ false
        go true h = cc ((rid o w W Q c m up h).0, untold)
        go false h = refl

    -- the gate of its join
    abbrev gate : ℕ → ℕ → Gate
    gate = W.families.knocked.gate

    waits : (g : Gate) → gate c m ≡ g → is_away g ≡ false → (p : Table) × (g ≡ Wait p)
    waits Away i h = cc h
    waits (Wait p) i h = (p, refl)
    waits (Knock p) i h = absurd (cc (sym (ap Tokens.knocks (Q c m up.0 contact)) ∙ W.families.knocked.gates.knock c m contact.1
        ∙ ap Tokens.knocks_of i))
    waits Turned i h = absurd (cc (sym (ap Tokens.returns (Q m c contact.0 up)) ∙ W.families.knocked.gates.back c m up.1
        ∙ ap Tokens.returns_of i))
    waits Entering i h = absurd (cc (sym (ap Tokens.returns (Q m c contact.0 up)) ∙ W.families.knocked.gates.back c m up.1
        ∙ ap Tokens.returns_of i))

    waiting : (p : Table) × (gate c m ≡ Wait p)
    waiting = waits (gate c m) refl (W.families.knocked.open_gates c m k up contact e)

    host : (w.node m).replica.joined ≡ true
    host = (W.families.knocked.gates.facts c m).host (ap Tokens.is_wait waiting.1)

    listed : Tokens.admissions c (Tokens.jobs (w.node m)) ≡ waiting.0 ∷ []
    listed = W.families.knocked.gates.queued c m contact.1 ∙ ap Tokens.queued_of waiting.1

    -- the contact's registrar was refused
    refused : (x : Current) → (w.node m).current ≡ x → (is_waiting x ≡ true) × (admissions c (w.node m) ≡ 1)
    refused (Current.Waiting op) i = (refl, count)
      where
        count : admissions c (w.node m) ≡ 1
        count = ap (λ (x : Current). length (filter (admits c) (w.node m).queue)
            + (elim x [ Current.Waiting y ↦ (if admits c y then 1 else 0) | _ ↦ 0 ])) i
            ∙ by op
            ∙ sym (ap (λ (x : Current). length (Tokens.admissions c (Tokens.asked_for x ++ (w.node m).queue))) i)
            ∙ ap length listed
          where
            by : (y : Op) → length (filter (admits c) (w.node m).queue) + (if admits c y then 1 else 0)
                ≡ length (Tokens.admissions c (y ∷ (w.node m).queue))
            by (Op.Name n call) = let h : _ = counted c (w.node m).queue in omega (arith, h)
            by (Op.Strike p) = let h : _ = counted c (w.node m).queue in omega (arith, h)
            by (Op.Join n x) = let h : _ = counted c (w.node m).queue in omega (arith, h)
            by (Op.Admission j pairs) = go (j == c) (counted c (w.node m).queue)
              where
                go : (t : Bool) → length (filter (admits c) (w.node m).queue) ≡ length (Tokens.admissions c (w.node m).queue)
                    → length (filter (admits c) (w.node m).queue) + (if t then 1 else 0)
                    ≡ length ((if t then pairs ∷ [] else []) ++ Tokens.admissions c (w.node m).queue)
                go true h = omega (arith, h)
                go false h = omega (arith, h)
    refused Current.Free i = absurd (cc (sym (ap (λ (ops : List Op). Tokens.admissions c ops) (W.started m i).queue)
        ∙ sym (ap (λ (x : Current). Tokens.admissions c (Tokens.asked_for x ++ (w.node m).queue)) i) ∙ listed))
    refused (Current.Joining n x) i = absurd (cc (ap is_joining i, ((W.base.all.joins.once m).joined host).0))
    refused (Current.Asking op r) i = absurd (cc (ap (at_ease o w W Q) i, registrars o w W Q m contact))
    refused (Current.Writing op s awaited reply) i = absurd (cc (ap (at_ease o w W Q) i, registrars o w W Q m contact))

  pub rests : AtRest (Runs o w) w c (w.node c).current
  rests = go (w.node c).current refl
    where
      go : (x : Current) → (w.node c).current ≡ x → AtRest (Runs o w) w c x
      go Current.Free e = Idle (W.started c e).queue (W.started c e).strikes
      go (Current.Waiting op) e = Refused op
      go (Current.Joining k m) e = Knocks k m (contact k m e) (host k m e) (refused k m e (w.node m).current refl).0
          (refused k m e (w.node m).current refl).1
      go (Current.Asking op r) e = absurd (cc (ap (at_ease o w W Q) e, registrars o w W Q c up))
      go (Current.Writing op s awaited reply) e = absurd (cc (ap (at_ease o w W Q) e, registrars o w W Q c up))

-- so it is of every world that events can reach
pub quiet_worlds_rest : OfNodes QuietWorldsRest
quiet_worlds_rest o es Q = record {
  registrars = rests o (run o (opening_world o) es) (whole o es) Q;
  calls = λ c call up i. calls o (run o (opening_world o) es) (whole o es) Q c up call i;
  leaves = λ c up. leave_accepted (Runs o (run o (opening_world o) es)) o (run o (opening_world o) es) c up.0 up.1
      (rests o (run o (opening_world o) es) (whole o es) Q c up);
}
