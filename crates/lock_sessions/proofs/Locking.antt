-- What is known of the global lock: letters name their sender's or receiver's registrar, rounds ask their boss first, a
-- lock table has one requester, and any two nodes that run stand at one of eight stages.
use Rattle.std.proofs.Common.{ℕ, Bool, true, false, ◌==◌, ◌≡◌, Option, Some, List, [], ◌∷◌, refl, sym, ap, ◌∙◌, subst}
use Rattle.std.specs.Prelude.{not, nat_lt, if◌then◌else◌}
use Rattle.registry_model.specs.Process.{Process, is_process}
use Rattle.protocol_model.specs.Round.{Round, Mark, has_granted}
use Rattle.protocol_model.specs.Letter.{Global, Client, Letter}
use Rattle.protocol_model.specs.Node.{Current, LockCall, call_of, put_call, drop_call}
use Rattle.protocol_model.specs.Turn.{Turn, sent_to}
use Rattle.protocol_model.specs.Registrar.{registrar}
use Rattle.protocol_model.specs.World.{Opening, World, left}
use Rattle.moves.proofs.Rules.{Taken}
use Rattle.registry_model.proofs.Updates.{by_test}
use Rattle.moves.proofs.Invariants.{Each, IsUp}
use Rattle.lock_sessions.proofs.Base.{popped, after_turn, each-popped, each-posted}
use Rattle.lock_sessions.proofs.LockTables.{Row, grants_of, globals, is_global}
use Rattle.lock_sessions.proofs.Sessions.{Stage, Session}

-- the process is a client's, and no registrar
abbrev pub is_client : Process → Bool
is_client p = not (p.serial == 0)

-- a letter on the link from f to n names a registrar exactly where it is of the global lock: f's, or in an answer n's
abbrev pub IsNamed : ℕ → ℕ → Letter → Type 0
IsNamed f n (Letter.SetLock (Global b) p) = (b ≡ f) × (p ≡ registrar f)
IsNamed f n (Letter.SetLock (Client s q) p) = is_client p ≡ true
IsNamed f n (Letter.LockAnswer (Global b) p granted) = (b ≡ n) × (p ≡ registrar n)
IsNamed f n (Letter.LockAnswer (Client s q) p granted) = is_client p ≡ true
IsNamed f n (Letter.GiveBack (Global b) p ack) = (b ≡ f) × (p ≡ registrar f) × (ack ≡ false)
IsNamed f n (Letter.ReleaseOf p) = is_client p ≡ true
IsNamed f n _ = Unit {0}

-- an open lock call is a client's
abbrev pub IsClients : LockCall → Type 0
IsClients c = (is_global c.id ≡ false) × (is_client c.holder ≡ true)

-- all open lock calls are clients'
abbrev pub AllClients : List LockCall → Type 0
AllClients [] = Unit {0}
AllClients (c ∷ cs) = IsClients c × AllClients cs

-- not asked so far, or gone down before
abbrev pub is_unasked : Mark → Bool
is_unasked Mark.Out = true
is_unasked Mark.Later = true
is_unasked Mark.Gone = true
is_unasked _ = false

-- asked once the boss has granted
abbrev pub is_later : Mark → Bool
is_later Mark.Later = true
is_later _ = false

-- before the boss has granted nobody else is asked, and from then on nobody is still to be asked
pub record BossFirst (r : Round) : Type 0 where
  pub early : has_granted (r.mark r.boss) ≡ false → (x : ℕ) → (x ≡ r.boss → ⊥) → is_unasked (r.mark x) ≡ true
  pub late : has_granted (r.mark r.boss) ≡ true → (x : ℕ) → is_later (r.mark x) ≡ false

-- a round asks its boss first
abbrev pub IsRound : Current → Type 0
IsRound (Current.Asking op r) = BossFirst r
IsRound _ = Unit {0}

-- who writes has asked itself
abbrev pub asks_itself : ℕ → Current → Bool
asks_itself a (Current.Writing op asked awaited reply) = asked a
asks_itself a _ = true

-- what is known of the global lock
pub record Locks (o : Opening) (w : World) : Type 0 where
  pub named : (f n : ℕ) → left w n ≡ false → Each (IsNamed f n) (w.links.queue f n)
  pub calls : (n : ℕ) → AllClients (w.node n).calls
  pub rounds : (n : ℕ) → IsRound (w.node n).current
  pub writers : (n : ℕ) → IsUp o w n → asks_itself n (w.node n).current ≡ true
  pub rows : (n : ℕ) → IsUp o w n → (row : Row) × (globals (w.node n).locks ≡ grants_of row)
  pub pairs : (r x : ℕ) → IsUp o w r → IsUp o w x → (s : Stage) × Session w r x s

-- the call of a process is a client's
pub call_of-client : (p : Process) (cs : List LockCall) (c : LockCall) → AllClients cs → call_of p cs ≡ Some c
    → IsClients c
call_of-client p [] c all e = cc
call_of-client p (d ∷ cs) c all e = go (is_process d.holder p) refl (call_of-client p cs c all.1)
  where
    same : Some d ≡ Some c → d ≡ c
    same e = cc

    go : (b : Bool) → is_process d.holder p ≡ b → (call_of p cs ≡ Some c → IsClients c) → IsClients c
    go true q more = subst (λ (x : LockCall). IsClients x)
        (same (sym (ap (λ (b : Bool). if b then Some d else call_of p cs) q) ∙ e)) all.0
    go false q more = more (sym (ap (λ (b : Bool). if b then Some d else call_of p cs) q) ∙ e)

-- one call of a client more
pub put_call-clients : (c : LockCall) (cs : List LockCall) → IsClients c → AllClients cs → AllClients (put_call c cs)
put_call-clients c [] is all = (is, tt)
put_call-clients c (d ∷ cs) is all = go (nat_lt c.holder.serial d.holder.serial) (c.holder.serial == d.holder.serial)
    (put_call-clients c cs is all.1)
  where
    go : (b e : Bool) → AllClients (put_call c cs) → AllClients
        (if b then c ∷ d ∷ cs else (if e then c ∷ cs else d ∷ put_call c cs))
    go true e more = (is, all)
    go false true more = (is, all.1)
    go false false more = (all.0, more)

-- the call of a process goes
pub drop_call-clients : (p : Process) (cs : List LockCall) → AllClients cs → AllClients (drop_call p cs)
drop_call-clients p [] all = tt
drop_call-clients p (d ∷ cs) all = go (not (is_process d.holder p)) (drop_call-clients p cs all.1)
  where
    go : (b : Bool) → AllClients (drop_call p cs) → AllClients (if b then d ∷ drop_call p cs else drop_call p cs)
    go true more = (all.0, more)
    go false more = more

module _ (o : Opening) (a : ℕ) (w : World) where
  -- a turn of node a that keeps what is known of one node, and of letters by themselves
  pub record LocalTurn (u : Turn) : Type 0 where
    pub sends : (n : ℕ) → left w n ≡ false → Each (IsNamed a n) (sent_to n u.sends)
    pub calls : AllClients u.node.calls
    pub round : IsRound u.node.current
    pub writer : asks_itself a u.node.current ≡ true
    pub row : (row : Row) × (globals u.node.locks ≡ grants_of row)

  -- with its pairs a turn keeps all that is known of the lock
  pub lock_turn : (L : Locks o w) (u : Turn) (t : Option Taken) → LocalTurn u
      → ((r x : ℕ) → IsUp o w r → IsUp o w x → (s : Stage) → Session w r x s
      → (e : Stage) × Session (after_turn a w u t) r x e)
      → Locks o (after_turn a w u t)
  lock_turn L u t T moves = record {
    named = λ f n run. each-posted (IsNamed f n) a (λ c. sent_to c u.sends) (popped a t w.links) f n
        (each-popped (IsNamed f n) a t w.links.queue f n (L.named f n run))
        (λ e. subst (λ (y : ℕ). Each (IsNamed y n) (sent_to n u.sends)) (sym e) (T.sends n run));
    calls = by_test a (λ n b. AllClients (if b then u.node else w.node n).calls) T.calls (λ n ne. L.calls n);
    rounds = by_test a (λ n b. IsRound (if b then u.node else w.node n).current) T.round (λ n ne. L.rounds n);
    writers = by_test a (λ n b. IsUp o w n → asks_itself n (if b then u.node else w.node n).current ≡ true)
        (λ run. T.writer) (λ n ne run. L.writers n run);
    rows = by_test a (λ n b. IsUp o w n
        → (row : Row) × (globals (if b then u.node else w.node n).locks ≡ grants_of row)) (λ run. T.row)
        (λ n ne run. L.rows n run);
    pairs = λ r x ur ux. moves r x ur ux (L.pairs r x ur ux).0 (L.pairs r x ur ux).1;
  }
