-- The numbers of joins: a node's rules enter joins of others without them, and the world finds them.
use mathlib.Core.List.{map-map}
use Rattle.std.proofs.Common.{ℕ, Bool, true, false, ◌≡◌, ◌==◌, ◌+◌, Option, Some, None, List, [], ◌∷◌, map, refl, sym, ap, ◌∙◌}
use Rattle.std.specs.Prelude.{◌&&◌, not, fold, if◌then◌else◌}
use Rattle.std.proofs.Math.Path.{fun_ext}
use Rattle.std.proofs.lemmas.List.{map-append}
use Rattle.registry_model.specs.Process.{Process, is_process, Nodes, with_node, without_node}
use Rattle.registry_model.specs.Table.{Table, StrikeOwner}
use Rattle.registry_model.specs.Call.{NameCall, Look, Reply as AnyReply, Joined, NotMember, ContactLeft, is_grant, change_of, reply_to, seen_in}
use Rattle.registry_model.specs.History.{Entry as AnyEntry}
use Rattle.registry_model.specs.Settlement.{with_settled, Fate, Settled, settle}
use Rattle.protocol_model.specs.Letter.{Letter as AnyLetter, Id, Global, is_down}
use Rattle.protocol_model.specs.LockTable.{is_free_for, drop_node}
use Rattle.protocol_model.specs.Event.{Call as AnyCall, Event as AnyEvent}
use Rattle.protocol_model.specs.Watch.{owed, is_live}
use Rattle.protocol_model.specs.Node.{Op as AnyOp, Current, LockCall, LockPhase, Times, call_of, targets}
use Rattle.protocol_model.specs.Round.{Round, is_empty, rest, opens, owes, asked, answer, down, is_over, Ending, ending}
use Rattle.protocol_model.specs.Turn.{Turn, with_replica, with_locks, with_queue, at_work, count_call, keep_call, send, send_all, enter, reply_with}
use Rattle.protocol_model.specs.Registrar.{registrar, give_global, answer_op, finish, done, write, decide, ask_rest, await_less, contact_left, lose_contact, ask_join, start, start_next, start_queue, start_free, retry_global}
use Rattle.protocol_model.specs.Client.{is_spent, one_less, in_phase, new_call, close_call, ask_lock, try_lock, give_lock, refuse_lock, end_lock, end_lock_by, go_on_lock, hear_lock, hear_lock_in, ask_back, delete_lock, owe_less, owe_less_in, lose_node, lose_node_in, retry_in, retry_locks}
use Rattle.protocol_model.specs.Deciding.{admit, held, end_by, end_round, go_on, hear_answer, lose}
use Rattle.protocol_model.specs.Reading.{admitted, welcomed, bereft, judge, hear, take_back, asked_to_admit, refused_join, welcome, told_of, lose_join, lose_current, bereave, read, receive}
use Rattle.protocol_model.specs.Calling.{die, kill, queued, looked, call, event}
use Rattle.node_events.specs.declared.events.Entry.{Entry}
use Rattle.node_events.specs.declared.events.Entry.TheVariants.{Name, Strike, Exit, Done, Read, Left, Told, Joined as HasJoined, NotMember as IsRefused, ContactLeft as LostContact}
use Rattle.node_events.specs.Made.{Made}
use Rattle.node_core.specs.CoreState.{CoreState}
use Rattle.node_core.specs.Seen.{turn_of, turn_by}
use Rattle.node_events.specs.Seen.{entry_of, entry_by, unnumbered}

-- the join of another node gets its number
abbrev pub with_number : (ℕ → ℕ) → AnyEntry → AnyEntry
with_number number (AnyEntry.Join j k m Joined) = AnyEntry.Join j (number j) m Joined
with_number number (AnyEntry.Join j k m NotMember) = AnyEntry.Join j (number j) m NotMember
with_number number e = e

-- so do all that a turn enters
abbrev pub numbered : (ℕ → ℕ) → Turn → Turn
numbered number u = record u { entries = map (with_number number) u.entries }

entry_numbered : (number : ℕ → ℕ) (e : Entry) → entry_by number e ≡ with_number number (entry_of e)
entry_numbered number (Name a k c r) = refl
entry_numbered number (Strike p) = refl
entry_numbered number (Exit p) = refl
entry_numbered number (Done a) = refl
entry_numbered number (Read a l r) = refl
entry_numbered number (Left a) = refl
entry_numbered number (Told a d) = refl
entry_numbered number (HasJoined j m) = refl
entry_numbered number (IsRefused j m) = refl
entry_numbered number (LostContact j k m) = refl

-- a node's turn with the numbers is its turn without them, once they are given
pub turn_numbered : (number : ℕ → ℕ) (h : CoreState) (t : Made) → turn_by number h t ≡ numbered number (turn_of h t)
turn_numbered number h t = ap (λ (es : List AnyEntry). record (turn_of h t) { entries = es })
    (ap (λ (f : Entry → AnyEntry). map f t.entries) (fun_ext (entry_numbered number))
    ∙ sym (map-map (with_number number) entry_of t.entries))

module _ (n a : ℕ) (number : ℕ → ℕ) where
  -- what f makes is what g makes of the turn so far, once the numbers are given
  abbrev AreNumbered : (Turn → Turn) → (Turn → Turn) → Type 0
  AreNumbered f g = (u : Turn) → numbered number (f u) ≡ g (numbered number u)

  -- the rule needs no number
  abbrev Passes : (Turn → Turn) → Type 0
  Passes f = AreNumbered f f

  -- one of two rules
  either : (b : Bool) (f g fn gn : Turn → Turn) → AreNumbered f fn → AreNumbered g gn
      → AreNumbered (λ u. if b then f u else g u) (λ u. if b then fn u else gn u)
  either true f g fn gn p q u = p u
  either false f g fn gn p q u = q u

  -- one of two that need no number
  one_of : (b : Bool) (f g : Turn → Turn) → Passes f → Passes g → Passes (λ u. if b then f u else g u)
  one_of b f g p q = either b f g f g p q

  -- a rule where the test holds
  where_so : (b : Bool) (f : Turn → Turn) → Passes f → Passes (λ u. if b then f u else u)
  where_so b f p = one_of b f (λ u. u) p (λ u. refl)

  -- a rule for each item
  for_each : {A : Type 0} (f : Turn → A → Turn) → ((x : A) → Passes (λ u. f u x)) → (xs : List A)
      → Passes (λ u. fold f u xs)
  for_each f each [] u = refl
  for_each f each (x ∷ xs) u =
      for_each f each xs (f u x) ∙ ap (λ (v : Turn). fold f v xs) (each x u)

  -- an entry gets its number
  enters : (e : AnyEntry) → AreNumbered (enter e) (enter (with_number number e))
  enters e u = ap (λ (es : List AnyEntry). record (numbered number u) { entries = es })
      (map-append (with_number number) u.entries (e ∷ []))

  -- the registrar
  answers : (op : AnyOp) (reply : Option AnyReply) → Passes (answer_op n a op reply)
  answers (AnyOp.Name k c) (Some reply) u = refl
  answers _ reply u = refl

  finishes : (op : AnyOp) (s : Nodes) (reply : Option AnyReply) → Passes (finish n a op s reply)
  finishes op s reply u = ap (λ (v : Turn).
      at_work Current.Free (give_global n a (λ c. s c && not (u.node.replica.told c)) v)) (answers op reply u)

  is_done : (op : AnyOp) (s : Nodes) (reply : Option AnyReply) → Passes (done n a op s reply)
  is_done op s reply u =
      finishes op s reply (enter (AnyEntry.Done a) u) ∙ ap (finish n a op s reply) (enters (AnyEntry.Done a) u)

  decides : (k : ℕ) (c : NameCall) (s : Nodes) (reply : AnyReply) → Passes (decide n a k c s reply)
  decides k c s reply = one_of (is_grant reply)
      (λ v. write n a op s (Some reply) (change_of c) (enter e v)) (λ v. finish n a op s (Some reply) (enter e v))
      (λ v. ap (write n a op s (Some reply) (change_of c)) (enters e v))
      (λ v. finishes op s (Some reply) (enter e v) ∙ ap (finish n a op s (Some reply)) (enters e v))
    where
      op : AnyOp
      op = AnyOp.Name k c

      e : AnyEntry
      e = AnyEntry.Name a k c reply

  asks_rest : (c : ℕ) (g : Bool) (l : AnyLetter) (r : Round) → Passes (ask_rest n a c g l r)
  asks_rest c g l r u =
      where_so (opens c g r) (send_all n (λ x. rest r x && not (u.node.replica.told x)) l) (λ v. refl) u

  awaits : (c : ℕ) (cur : Current) → Passes (await_less n a c cur)
  awaits c (Current.Writing op s awaited reply) u = where_so (awaited c)
      (λ v. if is_empty n (without_node c awaited) then done n a op s reply v else at_work less v)
      (one_of (is_empty n (without_node c awaited)) (done n a op s reply) (at_work less) (is_done op s reply)
      (λ v. refl)) u
    where
      less : Current
      less = Current.Writing op s (without_node c awaited) reply
  awaits c _ u = refl

  loses_join : (k m : ℕ) → Passes (contact_left n a k m)
  loses_join k m u = ap (reply_with a k ContactLeft) (enters (AnyEntry.Join a k m ContactLeft) u)

  loses_contact : (c : ℕ) (cur : Current) → Passes (lose_contact n a c cur)
  loses_contact c (Current.Joining k m) u = where_so (m == c) (λ v. contact_left n a k m (at_work Current.Free v))
      (λ v. loses_join k m (at_work Current.Free v)) u
  loses_contact c _ u = refl

  starts_queue : (ops : List AnyOp) → Passes (start_queue n a ops)
  starts_queue [] u = refl
  starts_queue (AnyOp.Name k c ∷ ops) u = refl
  starts_queue (AnyOp.Strike p ∷ ops) u = refl
  starts_queue (AnyOp.Admission j ps ∷ ops) u = refl
  starts_queue (AnyOp.Join k m ∷ ops) u = one_of (u.node.replica.told m)
      (λ v. start_queue n a ops (contact_left n a k m v)) (λ v. ask_join n a k m (with_queue ops v))
      (λ v. starts_queue ops (contact_left n a k m v) ∙ ap (start_queue n a ops) (loses_join k m v)) (λ v. refl) u

  starts_next : (owed : Option ℕ) → Passes (start_next n a owed)
  starts_next (Some s) u = refl
  starts_next None u = starts_queue u.node.queue u

  starts_free : (cur : Current) → Passes (start_free n a cur)
  starts_free Current.Free u = starts_next (owed a u.node.replica.table u.node.watch) u
  starts_free _ u = refl

  starts : Passes (start n a)
  starts u = starts_free u.node.current u

  retries_global : (cur : Current) → Passes (retry_global n a cur)
  retries_global (Current.Waiting op) u = refl
  retries_global _ u = refl

  -- clients' lock calls
  tries : (c : LockCall) → Passes (try_lock n a c)
  tries c u = one_of (is_empty n (targets u.node.replica.members c.target)) (close_call n a c false)
      (ask_lock n a c (targets u.node.replica.members c.target)) (λ v. refl) (λ v. refl) u

  refuses_lock : (c : LockCall) → Passes (refuse_lock n a c)
  refuses_lock c = one_of (is_spent c.retries) (close_call n a c false) (keep_call (in_phase LockPhase.Waiting c))
      (λ v. refl) (λ v. refl)

  ends_lock_by : (e : Ending) (c : LockCall) → Passes (end_lock_by n a e c)
  ends_lock_by Ending.Held c u = refl
  ends_lock_by (Ending.GiveBack granted) c u = refuses_lock c (give_lock n a c granted u)

  ends_lock : (c : LockCall) (r : Round) → Passes (end_lock n a c r)
  ends_lock c r = where_so (is_over n r) (end_lock_by n a (ending n (asked r) r) c)
      (ends_lock_by (ending n (asked r) r) c)

  goes_on_lock : (c : LockCall) (r : Round) → Passes (go_on_lock n a c r)
  goes_on_lock c r u =
      ends_lock (in_phase (LockPhase.Asking r) c) r (keep_call (in_phase (LockPhase.Asking r) c) u)

  hears_lock_in : (f : ℕ) (g : Bool) (phase : LockPhase) (c : LockCall) → Passes (hear_lock_in n a f g phase c)
  hears_lock_in f g (LockPhase.Asking r) c u = where_so (owes r f)
      (λ v. go_on_lock n a c (answer f g r) (ask_rest n a f g l r v))
      (λ v. goes_on_lock c (answer f g r) (ask_rest n a f g l r v)
      ∙ ap (go_on_lock n a c (answer f g r)) (asks_rest f g l r v)) u
    where
      l : AnyLetter
      l = AnyLetter.SetLock c.id c.holder
  hears_lock_in f g _ c u = refl

  hears_lock : (f : ℕ) (g : Bool) (o : Option LockCall) → Passes (hear_lock n a f g o)
  hears_lock f g None u = refl
  hears_lock f g (Some c) u = hears_lock_in f g c.phase c u

  owes_less_in : (f : ℕ) (phase : LockPhase) (c : LockCall) → Passes (owe_less_in n a f phase c)
  owes_less_in f (LockPhase.Deleting owing) c u = where_so (owing f)
      (λ v. if is_empty n (without_node f owing) then close_call n a c true v else keep_call less v)
      (one_of (is_empty n (without_node f owing)) (close_call n a c true) (keep_call less) (λ v. refl) (λ v. refl)) u
    where
      less : LockCall
      less = in_phase (LockPhase.Deleting (without_node f owing)) c
  owes_less_in f _ c u = refl

  owes_less : (f : ℕ) (o : Option LockCall) → Passes (owe_less n a f o)
  owes_less f None u = refl
  owes_less f (Some c) u = owes_less_in f c.phase c u

  loses_node_in : (d : ℕ) (phase : LockPhase) (c : LockCall) → Passes (lose_node_in n a d phase c)
  loses_node_in d (LockPhase.Asking r) c u = goes_on_lock c (down d r) u
  loses_node_in d LockPhase.Waiting c u = refl
  loses_node_in d (LockPhase.Deleting owing) c u = owes_less_in d (LockPhase.Deleting owing) c u

  loses_node : (d : ℕ) → Passes (lose_node n a d)
  loses_node d u = for_each (λ v c. lose_node_in n a d c.phase c v) (λ c. loses_node_in d c.phase c) u.node.calls u

  retries_in : (phase : LockPhase) (c : LockCall) → Passes (retry_in n a phase c)
  retries_in LockPhase.Waiting c u = tries (record c { retries = one_less c.retries }) u
  retries_in _ c u = refl

  retries_locks : Passes (retry_locks n a)
  retries_locks u = for_each (λ v c. retry_in n a c.phase c v) (λ c. retries_in c.phase c) u.node.calls u

  deletes : (c : LockCall) → Passes (delete_lock n a c)
  deletes c u = one_of (is_empty n (targets u.node.replica.members c.target)) (close_call n a c true)
      (ask_back n a c (targets u.node.replica.members c.target)) (λ v. refl) (λ v. refl) u

  -- how the registrar's round ends: an admission needs the number of the joiner's call
  lets_in : (j : ℕ) (ps : Table) (s : Nodes) (w : Settled)
      → AreNumbered (admit n a unnumbered j ps s w) (admit n a number j ps s w)
  lets_in j ps s w u = ap (λ (v : Turn). send j
      (AnyLetter.Welcome (with_node j u.node.replica.members) (with_settled w u.node.replica.table)
      u.node.replica.told w.fate)
      (send_all n u.node.replica.members (AnyLetter.Admit j w)
      (at_work (Current.Writing (AnyOp.Admission j ps) s (with_node j u.node.replica.members) None) v)))
      (enters (AnyEntry.Join j 0 a Joined) u)

  holds : (op : AnyOp) (s : Nodes) → AreNumbered (held n a unnumbered op s) (held n a number op s)
  holds (AnyOp.Name k c) s u = decides k c s (reply_to u.node.replica.members u.node.replica.table c) u
  holds (AnyOp.Strike p) s u = ap (write n a (AnyOp.Strike p) s None (StrikeOwner p)) (enters (AnyEntry.Strike p) u)
  holds (AnyOp.Admission j ps) s u = either (u.node.replica.told j)
      (finish n a (AnyOp.Admission j ps) s None) (admit n a unnumbered j ps s (settle u.node.replica.table ps))
      (finish n a (AnyOp.Admission j ps) s None) (admit n a number j ps s (settle u.node.replica.table ps))
      (finishes (AnyOp.Admission j ps) s None) (lets_in j ps s (settle u.node.replica.table ps)) u
  holds (AnyOp.Join k m) s u = refl

  ends_by : (e : Ending) (op : AnyOp) (s : Nodes)
      → AreNumbered (end_by n a unnumbered e op s) (end_by n a number e op s)
  ends_by Ending.Held op s u = holds op s u
  ends_by (Ending.GiveBack granted) op s u = refl

  ends_round : (op : AnyOp) (r : Round) → AreNumbered (end_round n a unnumbered op r) (end_round n a number op r)
  ends_round op r u = either (is_over n r)
      (end_by n a unnumbered (ending n u.node.replica.members r) op (asked r)) (λ v. v)
      (end_by n a number (ending n u.node.replica.members r) op (asked r)) (λ v. v)
      (ends_by (ending n u.node.replica.members r) op (asked r)) (λ v. refl) u

  goes_on : (op : AnyOp) (r : Round) → AreNumbered (go_on n a unnumbered op r) (go_on n a number op r)
  goes_on op r u = ends_round op r (at_work (Current.Asking op r) u)

  hears : (c : ℕ) (g : Bool) (cur : Current)
      → AreNumbered (hear_answer n a unnumbered c g cur) (hear_answer n a number c g cur)
  hears c g (Current.Asking op r) u = either (owes r c)
      (λ v. go_on n a unnumbered op (answer c g r) (ask_rest n a c g l r v)) (λ v. v)
      (λ v. go_on n a number op (answer c g r) (ask_rest n a c g l r v)) (λ v. v)
      (λ v. goes_on op (answer c g r) (ask_rest n a c g l r v)
      ∙ ap (go_on n a number op (answer c g r)) (asks_rest c g l r v)) (λ v. refl) u
    where
      l : AnyLetter
      l = AnyLetter.SetLock (Global a) (registrar a)
  hears c g _ u = refl

  loses : (d : ℕ) (cur : Current) → AreNumbered (lose n a unnumbered d cur) (lose n a number d cur)
  loses d (Current.Asking op r) u = goes_on op (down d r) u
  loses d (Current.Writing op s awaited reply) u = awaits d (Current.Writing op s awaited reply) u
  loses d _ u = refl

  -- what is done with a letter: who asks a lone node to join is refused under its number
  kills : (ps : List Process) → Passes (kill n a ps)
  kills ps u = for_each (λ v p. if is_live a v.node.watch p then die n a p v else v)
      (λ p v. where_so (is_live a v.node.watch p) (die n a p) (λ w. refl) v) ps u

  judges : (f : ℕ) (id : Id) (p : Process) (b : Bool)
      → AreNumbered (judge n a unnumbered f id p b) (judge n a number f id p b)
  judges f id p true u = refl
  judges f id p false u = refl

  hears_for : (f : ℕ) (p : Process) (g : Bool) → AreNumbered (hear n a unnumbered f p g) (hear n a number f p g)
  hears_for f p g u = either (is_process p (registrar a))
      (hear_answer n a unnumbered f g u.node.current) (hear_lock n a f g (call_of p u.node.calls))
      (hear_answer n a number f g u.node.current) (hear_lock n a f g (call_of p u.node.calls))
      (hears f g u.node.current) (hears_lock f g (call_of p u.node.calls)) u

  takes_back : (f : ℕ) (id : Id) (p : Process) (ack : Bool)
      → AreNumbered (take_back n a unnumbered f id p ack) (take_back n a number f id p ack)
  takes_back f id p true u = refl
  takes_back f id p false u = refl

  asks_to_join : (f : ℕ) (ps : Table)
      → AreNumbered (asked_to_admit n a unnumbered f ps) (asked_to_admit n a number f ps)
  asks_to_join f ps u = either u.node.replica.joined
      (queued n a (AnyOp.Admission f ps)) (λ v. send f AnyLetter.JoinRefused (enter (AnyEntry.Join f 0 a NotMember) v))
      (queued n a (AnyOp.Admission f ps))
      (λ v. send f AnyLetter.JoinRefused (enter (AnyEntry.Join f (number f) a NotMember) v))
      (λ v. refl) (λ v. ap (send f AnyLetter.JoinRefused) (enters (AnyEntry.Join f 0 a NotMember) v)) u

  refuses_join : (f : ℕ) (cur : Current)
      → AreNumbered (refused_join n a unnumbered f cur) (refused_join n a number f cur)
  refuses_join f (Current.Joining k m) u =
      where_so (m == f) (λ v. reply_with a k NotMember (at_work Current.Free v)) (λ v. refl) u
  refuses_join f _ u = refl

  welcomes : (f : ℕ) (members : Nodes) (pairs : Table) (gone : Nodes) (fate : Fate) (cur : Current)
      → AreNumbered (welcome n a unnumbered f members pairs gone fate cur)
      (welcome n a number f members pairs gone fate cur)
  welcomes f members pairs gone fate (Current.Joining k m) u = where_so (m == f)
      (λ v. joined (kill n a fate.kills (with_replica (welcomed a members pairs gone fate) v)))
      (λ v. ap joined (kills fate.kills (with_replica (welcomed a members pairs gone fate) v))) u
    where
      joined : Turn → Turn
      joined v = send f AnyLetter.Applied (reply_with a k Joined (at_work Current.Free v))
  welcomes f members pairs gone fate _ u = refl

  is_told : (d : ℕ) → AreNumbered (told_of n a unnumbered d) (told_of n a number d)
  is_told d u = ap (λ (v : Turn). with_locks (drop_node d) (with_replica (bereft d) v)) (enters (AnyEntry.Told a d) u)

  bereaves : (d : ℕ) → AreNumbered (bereave n a unnumbered d) (bereave n a number d)
  bereaves d u = loses_node d (lose_current n a unnumbered d w)
      ∙ ap (lose_node n a d) (loses d w.node.current w
      ∙ ap (lose_current n a number d) (loses_contact d v.node.current v
      ∙ ap (lose_join n a number d) (is_told d u)))
    where
      v : Turn
      v = told_of n a unnumbered d u

      w : Turn
      w = lose_join n a unnumbered d v

  reads : (f : ℕ) (l : AnyLetter) → AreNumbered (read n a unnumbered f l) (read n a number f l)
  reads f (AnyLetter.SetLock id p) u = judges f id p (is_free_for id p u.node.locks) u
  reads f (AnyLetter.LockAnswer id p g) u = hears_for f p g u
  reads f (AnyLetter.GiveBack id p ack) u = takes_back f id p ack u
  reads f (AnyLetter.GivenBack p) u = owes_less f (call_of p u.node.calls) u
  reads f (AnyLetter.ReleaseOf p) u = refl
  reads f (AnyLetter.Apply change) u = refl
  reads f AnyLetter.Applied u = awaits f u.node.current u
  reads f (AnyLetter.JoinAsk ps) u = asks_to_join f ps u
  reads f AnyLetter.JoinRefused u = refuses_join f u.node.current u
  reads f (AnyLetter.Admit j settled) u =
      ap (send f AnyLetter.Applied) (kills settled.fate.kills (with_replica (admitted a j settled) u))
  reads f (AnyLetter.Welcome members pairs gone fate) u = welcomes f members pairs gone fate u.node.current u
  reads f AnyLetter.Down u = bereaves f u

  pub receive_numbered : (f : ℕ) (l : AnyLetter) → AreNumbered (receive n a unnumbered f l) (receive n a number f l)
  receive_numbered f l u = starts (if dropped then u else read n a unnumbered f l u)
      ∙ ap (start n a) (either dropped (λ v. v) (read n a unnumbered f l) (λ v. v) (read n a number f l)
      (λ v. refl) (reads f l) u)
    where
      dropped : Bool
      dropped = u.node.replica.told f && not (is_down l)

  -- calls, exits, retries and leaves enter no join of another node
  looks : (look : Look) (reply : AnyReply) → Passes (looked n a look reply)
  looks look reply u = ap (reply_with a 0 reply) (enters (AnyEntry.Read a look reply) u)

  calls : (k : ℕ) (c : AnyCall) → Passes (call n a k c)
  calls k AnyCall.Spawn u = refl
  calls k (AnyCall.LookUp look) u = looks look (seen_in u.node.replica look) u
  calls k (AnyCall.OnName c) u = refl
  calls k (AnyCall.SetLock p r q target retries) u = tries (new_call n a k p r q target retries) (count_call u)
  calls k (AnyCall.DelLock p r q target) u = deletes (new_call n a k p r q target (Times 0)) (count_call u)
  calls k (AnyCall.JoinBy m) u = refl

  pub event_numbered : (world : Nodes) (e : AnyEvent) → Passes (event n a world e)
  event_numbered world (AnyEvent.Calling c) u =
      starts (call n a (u.node.last_call + 1) c u) ∙ ap (start n a) (calls (u.node.last_call + 1) c u)
  event_numbered world AnyEvent.Retry u = starts (retry_locks n a v)
      ∙ ap (start n a) (retries_locks v ∙ ap (retry_locks n a) (retries_global u.node.current u))
    where
      v : Turn
      v = retry_global n a u.node.current u
  event_numbered world (AnyEvent.Exiting p) u = starts (die n a p (enter (AnyEntry.Exit p) u))
      ∙ ap (λ (v : Turn). start n a (die n a p v)) (enters (AnyEntry.Exit p) u)
  event_numbered world AnyEvent.Leave u =
      ap (send_all n (λ c. world c && not (c == a)) AnyLetter.Down) (enters (AnyEntry.Left a) u)
