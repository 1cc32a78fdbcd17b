-- Answers to lock calls, to `spawn` and to look-ups have numbers that a step is allowed to use for them: those of the
-- lock calls that are open, and zero.
use Rattle.std.proofs.Common.{ℕ, Bool, true, false, ◌≡◌, ◌==◌, ◌+◌, Option, Some, None, List, [], ◌∷◌, refl, sym, ap, ◌∙◌, subst}
use Rattle.std.specs.Prelude.{◌&&◌, not, if◌then◌else◌, fold, filter, nat_lt}
use Rattle.std.specs.List.{AllByRecursion}
use Rattle.registry_model.specs.Process.{Process, is_process, Nodes, at}
use Rattle.registry_model.specs.Table.{Table, Change, StrikeOwner}
use Rattle.registry_model.specs.Call.{NameCall, Reply, True, False, Joined, NotMember, ContactLeft, is_grant, change_of}
use Rattle.registry_model.specs.Settlement.{Fate, settle}
use Rattle.registry_model.specs.History.{Entry}
use Rattle.protocol_model.specs.Round.{Round, owes, asked, answer, down, is_empty, is_over, Ending, ending, opens}
use Rattle.protocol_model.specs.Letter.{Id, Global, Letter, is_down}
use Rattle.protocol_model.specs.LockTable.{is_free_for}
use Rattle.protocol_model.specs.Watch.{is_live, owed}
use Rattle.protocol_model.specs.Node.{Node, Op, Current, LockPhase, LockCall, Times, targets, call_of, put_call}
use Rattle.protocol_model.specs.Event.{Call, Event, Answer}
use Rattle.protocol_model.specs.Turn.{Turn, Send, begun, enter, count_call, with_queue, at_work, keep_call, end_call, reply_with}
use Rattle.protocol_model.specs.Registrar
use Rattle.protocol_model.specs.Deciding
use Rattle.protocol_model.specs.Client
use Rattle.protocol_model.specs.Calling
use Rattle.protocol_model.specs.Reading
use Rattle.protocol_model.specs.World.{Opening, World, WorldEvent, At, Deliver, place, join_number, heard, turn_of}
use Rattle.protocol_model.specs.Fit.{is_numbered}
use Rattle.fitting.proofs.Accounts.{is_word}
use Rattle.fitting.proofs.Settling.{reply_to-word}
use Rattle.fitting.proofs.Admissions.{all_append}

-- the reply that the registrar keeps is one to a name call
abbrev pub keeps_word : Current → Bool
keeps_word (Current.Writing (Op.Name k call) asked awaited (Some reply)) = is_word reply
keeps_word _ = true

all_filter : {X : Type 0} (P : X → Type 0) (test : X → Bool) (xs : List X) → AllByRecursion P xs
    → AllByRecursion P (filter test xs)
all_filter P test [] h = tt
all_filter P test (x ∷ xs) h = go (test x) (all_filter P test xs h.1)
  where
    go : (b : Bool) → AllByRecursion P (filter test xs)
        → AllByRecursion P (if b then x ∷ filter test xs else filter test xs)
    go true more = (h.0, more)
    go false more = more

-- a `set_lock` or a `del_lock`
abbrev pub is_lock_call : Call → Bool
is_lock_call (Call.SetLock p r q target retries) = true
is_lock_call (Call.DelLock p r q target) = true
is_lock_call _ = false

-- S: what is known of the numbers of open lock calls; T: of those of answers that are no words
module _ (S T : ℕ → Type 0) (weaken : (k : ℕ) → S k → T k) (a : ℕ) where
  abbrev Numbered : List LockCall → Type 0
  Numbered cs = AllByRecursion (λ c. S c.number) cs

  abbrev Answered : List Answer → Type 0
  Answered xs = AllByRecursion (λ s. (s.node ≡ a) × (is_word s.reply ≡ false → T s.number)) xs

  -- the open lock calls and the answers that are no words have such numbers
  pub record Within (u : Turn) : Type 0 where
    pub calls : Numbered u.node.calls
    pub answers : Answered u.answers
    pub word : keeps_word u.node.current ≡ true

  put-numbered : (c : LockCall) (cs : List LockCall) → S c.number → Numbered cs → Numbered (put_call c cs)
  put-numbered c [] s h = (s, tt)
  put-numbered c (d ∷ cs) s h = go (nat_lt c.holder.serial d.holder.serial) (c.holder.serial == d.holder.serial)
      (put-numbered c cs s h.1)
    where
      go : (x y : Bool) → Numbered (put_call c cs) → Numbered
          (if x then c ∷ d ∷ cs else (if y then c ∷ cs else d ∷ put_call c cs))
      go true y more = (s, (h.0, h.1))
      go false true more = (s, h.1)
      go false false more = (h.0, more)

  found-numbered : (p : Process) (cs : List LockCall) (c : LockCall) → Numbered cs → call_of p cs ≡ Some c
      → S c.number
  found-numbered p [] c h e = cc
  found-numbered p (d ∷ cs) c h e = go (is_process d.holder p) e (λ q. found-numbered p cs c h.1 q)
    where
      number_or : Option LockCall → ℕ
      number_or None = d.number
      number_or (Some x) = x.number

      go : (b : Bool) → (if b then Some d else call_of p cs) ≡ Some c → (call_of p cs ≡ Some c → S c.number)
          → S c.number
      go true q more = subst S (ap number_or q) h.0
      go false q more = more q

  module _ (n : ℕ) where
    keeps : (c : LockCall) (u : Turn) → S c.number → Within u → Within (keep_call c u)
    keeps c u s W = record { calls = put-numbered c u.node.calls s W.calls; answers = W.answers; word = W.word }

    ends : (c : LockCall) (u : Turn) → Within u → Within (end_call c u)
    ends c u W = record {
      calls = all_filter (λ (d : LockCall). S d.number)
          (λ d. not (is_process d.holder c.holder)) u.node.calls W.calls;
      answers = W.answers;
      word = W.word;
    }

    replies : (k : ℕ) (r : Reply) (u : Turn) → (is_word r ≡ false → T k) → Within u → Within (reply_with a k r u)
    replies k r u s W = record {
      calls = W.calls;
      answers =
          all_append (λ (t : Answer). (t.node ≡ a) × (is_word t.reply ≡ false → T t.number)) u.answers _ W.answers
          ((refl, s), tt);
      word = W.word;
    }

    sends : (xs : List Send) (u : Turn) → Within u → Within (record u { sends = xs })
    sends xs u W = record { calls = W.calls; answers = W.answers; word = W.word }

    enters : (e : Entry) (u : Turn) → Within u → Within (enter e u)
    enters e u W = record { calls = W.calls; answers = W.answers; word = W.word }

    -- a node that changes in nothing of this
    becomes : (v : Node) (u : Turn) → v.calls ≡ u.node.calls → keeps_word v.current ≡ true → Within u
        → Within (record u { node = v })
    becomes v u same word W = record { calls = subst Numbered (sym same) W.calls; answers = W.answers; word = word }

    either : (b : Bool) (u v : Turn) → Within u → Within v → Within (if b then u else v)
    either true u v x y = x
    either false u v x y = y

    closes : (c : LockCall) (granted : Bool) (u : Turn) → S c.number → Within u
        → Within (Client.close_call n a c granted u)
    closes c granted u s W = replies c.number (if granted then True else False) (end_call c u) (λ e. weaken c.number s)
        (ends c u W)

    asks_lock : (c : LockCall) (t : Nodes) (u : Turn) → S c.number → Within u → Within (Client.ask_lock n a c t u)
    asks_lock c t u s W = sends _ _ (keeps (Client.in_phase _ c) u s W)

    tries : (c : LockCall) (u : Turn) → S c.number → Within u → Within (Client.try_lock n a c u)
    tries c u s W = either _ _ _ (closes c false u s W) (asks_lock c (targets u.node.replica.members c.target) u s W)

    refuses : (c : LockCall) (u : Turn) → S c.number → Within u → Within (Client.refuse_lock n a c u)
    refuses c u s W = either (Client.is_spent c.retries) _ _ (closes c false u s W)
        (keeps (Client.in_phase LockPhase.Waiting c) u s W)

    ends_by : (e : Ending) (c : LockCall) (u : Turn) → S c.number → Within u → Within (Client.end_lock_by n a e c u)
    ends_by Ending.Held c u s W = closes c true u s W
    ends_by (Ending.GiveBack granted) c u s W = refuses c (Client.give_lock n a c granted u) s (sends _ u W)

    ends_lock : (c : LockCall) (r : Round) (u : Turn) → S c.number → Within u → Within (Client.end_lock n a c r u)
    ends_lock c r u s W = either (is_over n r) _ _ (ends_by (ending n (asked r) r) c u s W) W

    goes_on_lock : (c : LockCall) (r : Round) (u : Turn) → S c.number → Within u
        → Within (Client.go_on_lock n a c r u)
    goes_on_lock c r u s W = ends_lock (Client.in_phase (LockPhase.Asking r) c) r
        (keep_call (Client.in_phase (LockPhase.Asking r) c) u) s
        (keeps (Client.in_phase (LockPhase.Asking r) c) u s W)

    asks_rest : (f : ℕ) (granted : Bool) (l : Letter) (r : Round) (u : Turn) → Within u
        → Within (Registrar.ask_rest n a f granted l r u)
    asks_rest f granted l r u W = either (opens f granted r) _ _ (sends _ u W) W

    hears_lock_in : (f : ℕ) (granted : Bool) (phase : LockPhase) (c : LockCall) (u : Turn) → S c.number → Within u
        → Within (Client.hear_lock_in n a f granted phase c u)
    hears_lock_in f granted (LockPhase.Asking r) c u s W = either (owes r f) _ _
        (goes_on_lock c (answer f granted r) (Registrar.ask_rest n a f granted (Letter.SetLock c.id c.holder) r u) s
        (asks_rest f granted (Letter.SetLock c.id c.holder) r u W)) W
    hears_lock_in f granted LockPhase.Waiting c u s W = W
    hears_lock_in f granted (LockPhase.Deleting owing) c u s W = W

    hears_lock : (f : ℕ) (granted : Bool) (k : Option LockCall) (u : Turn)
        → ((c : LockCall) → k ≡ Some c → S c.number) → Within u → Within (Client.hear_lock n a f granted k u)
    hears_lock f granted None u s W = W
    hears_lock f granted (Some c) u s W = hears_lock_in f granted c.phase c u (s c refl) W

    owes_less_in : (f : ℕ) (phase : LockPhase) (c : LockCall) (u : Turn) → S c.number → Within u
        → Within (Client.owe_less_in n a f phase c u)
    owes_less_in f (LockPhase.Deleting owing) c u s W = either (owing f) _ _
        (either (is_empty n (at owing f false)) _ _ (closes c true u s W)
        (keeps (Client.in_phase (LockPhase.Deleting (at owing f false)) c) u s W)) W
    owes_less_in f LockPhase.Waiting c u s W = W
    owes_less_in f (LockPhase.Asking r) c u s W = W

    owes_less : (f : ℕ) (k : Option LockCall) (u : Turn) → ((c : LockCall) → k ≡ Some c → S c.number) → Within u
        → Within (Client.owe_less n a f k u)
    owes_less f None u s W = W
    owes_less f (Some c) u s W = owes_less_in f c.phase c u (s c refl) W

    loses_node_in : (d : ℕ) (phase : LockPhase) (c : LockCall) (u : Turn) → S c.number → Within u
        → Within (Client.lose_node_in n a d phase c u)
    loses_node_in d (LockPhase.Asking r) c u s W = goes_on_lock c (down d r) u s W
    loses_node_in d LockPhase.Waiting c u s W = W
    loses_node_in d (LockPhase.Deleting owing) c u s W = owes_less_in d (LockPhase.Deleting owing) c u s W

    -- the same step for each of some calls
    each_call : (f : Turn → LockCall → Turn) → ((c : LockCall) (u : Turn) → S c.number → Within u → Within (f u c))
        → (cs : List LockCall) (u : Turn) → Numbered cs → Within u → Within (fold f u cs)
    each_call f step [] u h W = W
    each_call f step (c ∷ cs) u h W = each_call f step cs (f u c) h.1 (step c u h.0 W)

    loses_node : (d : ℕ) (u : Turn) → Within u → Within (Client.lose_node n a d u)
    loses_node d u W = each_call (λ w c. Client.lose_node_in n a d c.phase c w)
        (λ c u s W. loses_node_in d c.phase c u s W) u.node.calls u W.calls W

    retries_in : (phase : LockPhase) (c : LockCall) (u : Turn) → S c.number → Within u
        → Within (Client.retry_in n a phase c u)
    retries_in LockPhase.Waiting c u s W = tries (record c { retries = Client.one_less c.retries }) u s W
    retries_in (LockPhase.Asking r) c u s W = W
    retries_in (LockPhase.Deleting owing) c u s W = W

    retries_locks : (u : Turn) → Within u → Within (Client.retry_locks n a u)
    retries_locks u W = each_call (λ w c. Client.retry_in n a c.phase c w)
        (λ c u s W. retries_in c.phase c u s W) u.node.calls u W.calls W

    deletes : (c : LockCall) (u : Turn) → S c.number → Within u → Within (Client.delete_lock n a c u)
    deletes c u s W = either _ _ _ (closes c true u s W)
        (sends _ _ (keeps (Client.in_phase (LockPhase.Deleting (targets u.node.replica.members c.target)) c) u s W))

    works : (c : Current) (u : Turn) → keeps_word c ≡ true → Within u → Within (at_work c u)
    works c u e W = becomes _ u refl e W

    asks_global : (op : Op) (u : Turn) → Within u → Within (Registrar.ask_global n a op u)
    asks_global op u W = sends _ _ (works (Current.Asking op _) u refl W)

    answers_op : (op : Op) (reply : Option Reply) (them : Nodes) (u : Turn)
        → keeps_word (Current.Writing op them them reply) ≡ true → Within u
        → Within (Registrar.answer_op n a op reply u)
    answers_op (Op.Name k call) (Some reply) them u e W = replies k reply u (λ h. absurd (cc (e, h))) W
    answers_op (Op.Name k call) None them u e W = W
    answers_op _ reply them u e W = W

    finishes : (op : Op) (them : Nodes) (reply : Option Reply) (u : Turn)
        → keeps_word (Current.Writing op them them reply) ≡ true → Within u
        → Within (Registrar.finish n a op them reply u)
    finishes op them reply u e W = works Current.Free _ refl (sends _ _ (answers_op op reply them u e W))

    writes : (op : Op) (them : Nodes) (reply : Option Reply) (change : Change) (u : Turn)
        → keeps_word (Current.Writing op them u.node.replica.members reply) ≡ true → Within u
        → Within (Registrar.write n a op them reply change u)
    writes op them reply change u e W = sends _ _ (works (Current.Writing op them u.node.replica.members reply) u e W)

    decides : (k : ℕ) (call : NameCall) (them : Nodes) (reply : Reply) (u : Turn) → is_word reply ≡ true → Within u
        → Within (Registrar.decide n a k call them reply u)
    decides k call them reply u e W = either (is_grant reply) _ _
        (writes (Op.Name k call) them (Some reply) (change_of call) _ e (enters (Entry.Name a k call reply) u W))
        (finishes (Op.Name k call) them (Some reply) _ e (enters (Entry.Name a k call reply) u W))

    word_same : (op : Op) (them others awaited left : Nodes) (reply : Option Reply)
        → keeps_word (Current.Writing op them awaited reply) ≡ keeps_word (Current.Writing op others left reply)
    word_same (Op.Name k call) them others awaited left (Some reply) = refl
    word_same (Op.Name k call) them others awaited left None = refl
    word_same _ them others awaited left reply = refl

    awaits_less : (c : ℕ) (current : Current) (u : Turn) → keeps_word current ≡ true → Within u
        → Within (Registrar.await_less n a c current u)
    awaits_less c (Current.Writing op them awaited reply) u e W = either (awaited c) _ _
        (either (is_empty n (at awaited c false)) _ _
        (finishes op them reply _ (word_same op them them them awaited reply ∙ e) (enters (Entry.Done a) u W))
        (works (Current.Writing op them (at awaited c false) reply) u
        (word_same op them them (at awaited c false) awaited reply ∙ e) W))
        W
    awaits_less c _ u e W = W

    contact_leaves : (k m : ℕ) (u : Turn) → Within u → Within (Registrar.contact_left n a k m u)
    contact_leaves k m u W = replies k ContactLeft _ (λ e. cc) (enters (Entry.Join a k m ContactLeft) u W)

    loses_contact : (c : ℕ) (current : Current) (u : Turn) → Within u
        → Within (Registrar.lose_contact n a c current u)
    loses_contact c (Current.Joining k m) u W = either (m == c) _ _
        (contact_leaves k m _ (works Current.Free u refl W)) W
    loses_contact c _ u W = W

    queues : (ops : List Op) (u : Turn) → Within u → Within (with_queue ops u)
    queues ops u W = becomes _ u refl W.word W

    starts_queue : (ops : List Op) (u : Turn) → Within u → Within (Registrar.start_queue n a ops u)
    starts_queue [] u W = queues [] u W
    starts_queue (Op.Join k m ∷ ops) u W = either (u.node.replica.told m) _ _
        (starts_queue ops (Registrar.contact_left n a k m u) (contact_leaves k m u W))
        (sends _ _ (works (Current.Joining k m) _ refl (queues ops u W)))
    starts_queue (Op.Name k call ∷ ops) u W = asks_global (Op.Name k call) _ (queues ops u W)
    starts_queue (Op.Strike p ∷ ops) u W = asks_global (Op.Strike p) _ (queues ops u W)
    starts_queue (Op.Admission j pairs ∷ ops) u W = asks_global (Op.Admission j pairs) _ (queues ops u W)

    starts_next : (s : Option ℕ) (u : Turn) → Within u → Within (Registrar.start_next n a s u)
    starts_next (Some serial) u W = asks_global (Op.Strike _) u W
    starts_next None u W = starts_queue u.node.queue u W

    starts_free : (c : Current) (u : Turn) → Within u → Within (Registrar.start_free n a c u)
    starts_free Current.Free u W = starts_next (owed a u.node.replica.table u.node.watch) u W
    starts_free _ u W = W

    starts : (u : Turn) → Within u → Within (Registrar.start n a u)
    starts u W = starts_free u.node.current u W

    retries_global : (c : Current) (u : Turn) → Within u → Within (Registrar.retry_global n a c u)
    retries_global (Current.Waiting op) u W = asks_global op u W
    retries_global _ u W = W

    dies : (p : Process) (u : Turn) → Within u → Within (Calling.die n a p u)
    dies p u W = record {
      calls = all_filter (λ (d : LockCall). S d.number)
          (λ d. not (is_process d.holder p)) u.node.calls W.calls;
      answers = W.answers;
      word = W.word;
    }

    kills : (ps : List Process) (u : Turn) → Within u → Within (Calling.kill n a ps u)
    kills [] u W = W
    kills (p ∷ ps) u W = kills ps (if is_live a u.node.watch p then Calling.die n a p u else u)
        (either (is_live a u.node.watch p) _ u (dies p u W) W)

    module _ (number : ℕ → ℕ) where
      admits : (j : ℕ) (pairs : Table) (them : Nodes) (u : Turn) → Within u
          → Within (Deciding.admit n a number j pairs them (settle u.node.replica.table pairs) u)
      admits j pairs them u W = sends _ _ (works (Current.Writing (Op.Admission j pairs) them _ None) _ refl
          (enters (Entry.Join j (number j) a Joined) u W))

      holds : (op : Op) (them : Nodes) (u : Turn) → Within u → Within (Deciding.held n a number op them u)
      holds (Op.Name k call) them u W = decides k call them _ u
          (reply_to-word u.node.replica.members u.node.replica.table call) W
      holds (Op.Strike p) them u W = writes (Op.Strike p) them None (StrikeOwner p) _ refl
          (enters (Entry.Strike p) u W)
      holds (Op.Admission j pairs) them u W = either (u.node.replica.told j) _ _
          (finishes (Op.Admission j pairs) them None u refl W) (admits j pairs them u W)
      holds (Op.Join k m) them u W = W

      ends_round_by : (e : Ending) (op : Op) (them : Nodes) (u : Turn) → Within u
          → Within (Deciding.end_by n a number e op them u)
      ends_round_by Ending.Held op them u W = holds op them u W
      ends_round_by (Ending.GiveBack granted) op them u W = sends _ _ (works (Current.Waiting op) u refl W)

      ends_round : (op : Op) (r : Round) (u : Turn) → Within u → Within (Deciding.end_round n a number op r u)
      ends_round op r u W = either (is_over n r) _ _
          (ends_round_by (ending n u.node.replica.members r) op (asked r) u W) W

      goes_on : (op : Op) (r : Round) (u : Turn) → Within u → Within (Deciding.go_on n a number op r u)
      goes_on op r u W = ends_round op r _ (works (Current.Asking op r) u refl W)

      hears_answer : (c : ℕ) (granted : Bool) (current : Current) (u : Turn) → Within u
          → Within (Deciding.hear_answer n a number c granted current u)
      hears_answer c granted (Current.Asking op r) u W = either (owes r c) _ _
          (goes_on op (answer c granted r) _ (asks_rest c granted
          (Letter.SetLock (Global a) (Registrar.registrar a)) r u W)) W
      hears_answer c granted _ u W = W

      loses : (c : ℕ) (current : Current) (u : Turn) → keeps_word current ≡ true → Within u
          → Within (Deciding.lose n a number c current u)
      loses c (Current.Asking op r) u e W = goes_on op (down c r) u W
      loses c (Current.Writing op them awaited reply) u e W =
          awaits_less c (Current.Writing op them awaited reply) u e W
      loses c _ u e W = W

      judges : (f : ℕ) (id : Id) (p : Process) (free : Bool) (u : Turn) → Within u
          → Within (Reading.judge n a number f id p free u)
      judges f id p free u W = sends _ _ (either free _ u (becomes _ u refl W.word W) W)

      hears : (f : ℕ) (p : Process) (granted : Bool) (u : Turn) → Within u
          → Within (Reading.hear n a number f p granted u)
      hears f p granted u W = either (is_process p (Registrar.registrar a)) _ _
          (hears_answer f granted u.node.current u W)
          (hears_lock f granted (call_of p u.node.calls) u (λ c e. found-numbered p u.node.calls c W.calls e) W)

      takes_back : (f : ℕ) (id : Id) (p : Process) (ack : Bool) (u : Turn) → Within u
          → Within (Reading.take_back n a number f id p ack u)
      takes_back f id p ack u W = either ack _ _ (sends _ _ (becomes _ u refl W.word W)) (becomes _ u refl W.word W)

      asked_to_admit : (f : ℕ) (pairs : Table) (u : Turn) → Within u
          → Within (Reading.asked_to_admit n a number f pairs u)
      asked_to_admit f pairs u W = either u.node.replica.joined _ _ (queues _ u W)
          (sends _ _ (enters (Entry.Join f (number f) a NotMember) u W))

      refused_join : (f : ℕ) (c : Current) (u : Turn) → Within u → Within (Reading.refused_join n a number f c u)
      refused_join f (Current.Joining k m) u W = either (m == f) _ _
          (replies k NotMember _ (λ e. cc) (works Current.Free u refl W)) W
      refused_join f _ u W = W

      welcomes : (f : ℕ) (members : Nodes) (pairs : Table) (told : Nodes) (fate : Fate) (c : Current) (u : Turn)
          → Within u → Within (Reading.welcome n a number f members pairs told fate c u)
      welcomes f members pairs told fate (Current.Joining k m) u W = either (m == f) _ _
          (sends _ _ (replies k Joined _ (λ e. cc) (works Current.Free _ refl
          (kills fate.kills _ (becomes _ u refl W.word W))))) W
      welcomes f members pairs told fate _ u W = W

      told_of : (d : ℕ) (u : Turn) → Within u → Within (Reading.told_of n a number d u)
      told_of d u W = record { calls = W.calls; answers = W.answers; word = W.word }

      bereaves : (d : ℕ) (u : Turn) → Within u → Within (Reading.bereave n a number d u)
      bereaves d u W = loses_node d _ (current (loses_contact d u1.node.current u1 (told_of d u W)))
        where
          u1 : Turn
          u1 = Reading.told_of n a number d u

          u2 : Turn
          u2 = Reading.lose_join n a number d u1

          current : Within u2 → Within (Reading.lose_current n a number d u2)
          current V = loses d u2.node.current u2 V.word V

      reads : (f : ℕ) (l : Letter) (u : Turn) → Within u → Within (Reading.read n a number f l u)
      reads f (Letter.SetLock id p) u W = judges f id p (is_free_for id p u.node.locks) u W
      reads f (Letter.LockAnswer id p granted) u W = hears f p granted u W
      reads f (Letter.GiveBack id p ack) u W = takes_back f id p ack u W
      reads f (Letter.GivenBack p) u W = owes_less f (call_of p u.node.calls) u
          (λ c e. found-numbered p u.node.calls c W.calls e) W
      reads f (Letter.ReleaseOf p) u W = becomes _ u refl W.word W
      reads f (Letter.Apply change) u W = sends _ _ (becomes _ u refl W.word W)
      reads f Letter.Applied u W = awaits_less f u.node.current u W.word W
      reads f (Letter.JoinAsk pairs) u W = asked_to_admit f pairs u W
      reads f Letter.JoinRefused u W = refused_join f u.node.current u W
      reads f (Letter.Admit j settled) u W = sends _ _ (kills settled.fate.kills _ (becomes _ u refl W.word W))
      reads f (Letter.Welcome members pairs told fate) u W = welcomes f members pairs told fate u.node.current u W
      reads f Letter.Down u W = bereaves f u W

      pub receives : (f : ℕ) (l : Letter) (u : Turn) → Within u → Within (Reading.receive n a number f l u)
      receives f l u W = starts _ (either (u.node.replica.told f && not (is_down l)) u _ W (reads f l u W))

    -- a call, whose own number it may use where it is a lock call
    pub makes_call : (k : ℕ) (c : Call) (u : Turn) → (is_numbered c ≡ false → T 0) → (is_lock_call c ≡ true → S k)
        → Within u → Within (Calling.call n a k c u)
    makes_call k Call.Spawn u zero_is s W = replies 0 _ _ (λ e. zero_is refl) (becomes _ u refl W.word W)
    makes_call k (Call.LookUp look) u zero_is s W = replies 0 _ _ (λ e. zero_is refl) (enters (Entry.Read a look _) u W)
    makes_call k (Call.OnName c) u zero_is s W = queues _ (count_call u) (becomes _ u refl W.word W)
    makes_call k (Call.SetLock p r q target retries) u zero_is s W =
        tries (Client.new_call n a k p r q target retries) _ (s refl) (becomes _ u refl W.word W)
    makes_call k (Call.DelLock p r q target) u zero_is s W =
        deletes (Client.new_call n a k p r q target (Times 0)) _ (s refl) (becomes _ u refl W.word W)
    makes_call k (Call.JoinBy m) u zero_is s W = queues _ (count_call u) (becomes _ u refl W.word W)

-- what a node makes of an event has only such numbers
pub event_within : (S T : ℕ → Type 0) (weaken : (k : ℕ) → S k → T k) (o : Opening) (w : World) (e : WorldEvent)
    → ((c : Call) → e ≡ At (place e) (Event.Calling c) → is_numbered c ≡ false → T 0)
    → ((c : Call) → e ≡ At (place e) (Event.Calling c) → is_lock_call c ≡ true → S ((w.node (place e)).last_call + 1))
    → Within S T weaken (place e) (begun (w.node (place e))) → Within S T weaken (place e) (turn_of o w e)
event_within S T weaken o w (At a (Event.Calling c)) z s W =
    starts S T weaken a o.bound _ (makes_call S T weaken a o.bound ((w.node a).last_call + 1) c (begun (w.node a))
    (z c refl) (s c refl) W)
event_within S T weaken o w (At a Event.Retry) z s W =
    starts S T weaken a o.bound _ (retries_locks S T weaken a o.bound
    (Registrar.retry_global o.bound a (w.node a).current (begun (w.node a)))
    (retries_global S T weaken a o.bound (w.node a).current (begun (w.node a)) W))
event_within S T weaken o w (At a (Event.Exiting p)) z s W =
    starts S T weaken a o.bound _ (dies S T weaken a o.bound p (enter (Entry.Exit p) (begun (w.node a)))
    (enters S T weaken a o.bound (Entry.Exit p) (begun (w.node a)) W))
event_within S T weaken o w (At a Event.Leave) z s W =
    sends S T weaken a o.bound _ _ (enters S T weaken a o.bound (Entry.Left a) (begun (w.node a)) W)
event_within S T weaken o w (Deliver f t) z s W = go (w.links.queue f t)
  where
    go : (ls : List Letter) → Within S T weaken t (heard o.bound t w f ls)
    go [] = W
    go (l ∷ ls) = receives S T weaken t o.bound (join_number w) f l (begun (w.node t)) W
