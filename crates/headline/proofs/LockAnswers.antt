-- The lock calls of one node and their answers: an open call isn't answered yet, and each is answered at most once.
use Rattle.std.proofs.Common.{ℕ, zero, suc, Bool, true, false, ◌==◌, ◌≡◌, ◌+◌, ◌-◌, ◌<◌, Some, None, List, [], ◌∷◌, ◌++◌, length, refl, sym, ap, ◌∙◌, subst, arith}
use Rattle.std.specs.Prelude.{◌&&◌, not, if◌then◌else◌, filter}
use Rattle.std.specs.List.{slice_get}
use Rattle.std.proofs.lemmas.List.{append-nil}
use Rattle.std.proofs.lemmas.List.Elements.{filter-append}
use Rattle.std.proofs.lemmas.Option.{slice_get_within}
use Rattle.std.proofs.lemmas.Bool.{eq-eqb, ne_eqb, eqb-true}
use Rattle.registry_model.specs.Process.{Process, is_process}
use Rattle.registry_model.specs.Call.{Reply, True, False}
use Rattle.protocol_model.specs.Node.{LockPhase, LockCall, call_of, put_call, drop_call}
use Rattle.protocol_model.specs.Event.{Call, Answer}
use Rattle.protocol_model.specs.Answers.{answer_to, may_have, holder_in, AtMostOne, NotYet, Once}
use Rattle.moves.proofs.Rules.{is_ordered}
use Rattle.fitting.proofs.Accounts.{is_word}
use Rattle.fitting.proofs.Once.{is_lock_under}
use Rattle.client_locks.proofs.Calls.{call_of-put, call_of-drop}
use Rattle.client_locks.proofs.Ids.{is_process_same}

-- a lock call stands in a phase of its kind
abbrev pub is_for : Call → LockPhase → Bool
is_for (Call.SetLock p r q target retries) (LockPhase.Deleting owing) = false
is_for (Call.SetLock p r q target retries) _ = true
is_for (Call.DelLock p r q target) (LockPhase.Deleting owing) = true
is_for _ _ = false

-- no deletion
abbrev pub is_try : LockPhase → Bool
is_try (LockPhase.Deleting owing) = false
is_try _ = true

-- a lock call may be answered `true`
pub true_fits : (call : Call) (phase : LockPhase) → is_for call phase ≡ true → may_have call True ≡ true
true_fits (Call.SetLock p r q target retries) phase h = refl
true_fits (Call.DelLock p r q target) phase h = refl
true_fits Call.Spawn phase h = cc
true_fits (Call.LookUp look) phase h = cc
true_fits (Call.OnName c) phase h = cc
true_fits (Call.JoinBy m) phase h = cc

-- a try may be answered `false`
pub false_fits : (call : Call) (phase : LockPhase) → is_for call phase ≡ true → is_try phase ≡ true
    → may_have call False ≡ true
false_fits (Call.SetLock p r q target retries) phase h t = refl
false_fits (Call.DelLock p r q target) (LockPhase.Deleting owing) h t = cc
false_fits (Call.DelLock p r q target) (LockPhase.Asking r1) h t = cc
false_fits (Call.DelLock p r q target) LockPhase.Waiting h t = cc
false_fits Call.Spawn phase h t = cc
false_fits (Call.LookUp look) phase h t = cc
false_fits (Call.OnName c) phase h t = cc
false_fits (Call.JoinBy m) phase h t = cc

-- a try stays one
pub try_for : (call : Call) (phase now : LockPhase) → is_for call phase ≡ true → is_try phase ≡ true → is_try now ≡ true
    → is_for call now ≡ true
try_for (Call.SetLock p r q target retries) phase (LockPhase.Deleting owing) h t n = cc
try_for (Call.SetLock p r q target retries) phase (LockPhase.Asking r1) h t n = refl
try_for (Call.SetLock p r q target retries) phase LockPhase.Waiting h t n = refl
try_for (Call.DelLock p r q target) (LockPhase.Deleting owing) now h t n = cc
try_for (Call.DelLock p r q target) (LockPhase.Asking r1) now h t n = cc
try_for (Call.DelLock p r q target) LockPhase.Waiting now h t n = cc
try_for Call.Spawn phase now h t n = cc
try_for (Call.LookUp look) phase now h t n = cc
try_for (Call.OnName c) phase now h t n = cc
try_for (Call.JoinBy m) phase now h t n = cc

-- and so does a deletion
pub deletion_for : (call : Call) (phase now : LockPhase) → is_for call phase ≡ true → is_try phase ≡ false
    → is_try now ≡ false → is_for call now ≡ true
deletion_for (Call.DelLock p r q target) phase (LockPhase.Deleting owing) h t n = refl
deletion_for (Call.DelLock p r q target) phase (LockPhase.Asking r1) h t n = cc
deletion_for (Call.DelLock p r q target) phase LockPhase.Waiting h t n = cc
deletion_for (Call.SetLock p r q target retries) (LockPhase.Deleting owing) now h t n = cc
deletion_for (Call.SetLock p r q target retries) (LockPhase.Asking r1) now h t n = cc
deletion_for (Call.SetLock p r q target retries) LockPhase.Waiting now h t n = cc
deletion_for Call.Spawn phase now h t n = cc
deletion_for (Call.LookUp look) phase now h t n = cc
deletion_for (Call.OnName c) phase now h t n = cc
deletion_for (Call.JoinBy m) phase now h t n = cc

-- the call of this number, among those that were accepted, which is one of p
pub record IsCalled (calls : List Call) (p : Process) (k : ℕ) (phase : LockPhase) : Type 0 where
  pub call : Call
  pub found : slice_get calls (k - 1) ≡ Some call
  pub positive : 0 < k
  pub holder : holder_in call ≡ Some p
  pub suits : is_for call phase ≡ true

-- what is found is found still where more comes behind
slice_get-more : {X : Type 0} (xs ys : List X) (i : ℕ) (x : X) → slice_get xs i ≡ Some x → slice_get (xs ++ ys) i
    ≡ Some x
slice_get-more [] ys i x e = cc
slice_get-more (y ∷ xs) ys zero x e = e
slice_get-more (y ∷ xs) ys (suc i) x e = slice_get-more xs ys i x e

-- and the first of more is found behind all
pub slice_get-behind : {X : Type 0} (xs : List X) (x : X) → slice_get (xs ++ x ∷ []) (length xs) ≡ Some x
slice_get-behind [] x = refl
slice_get-behind (y ∷ xs) x = slice_get-behind xs x

-- a call stays among the accepted ones
called_more : (calls more : List Call) (p : Process) (k : ℕ) (phase : LockPhase) → IsCalled calls p k phase
    → IsCalled (calls ++ more) p k phase
called_more calls more p k phase I = record {
  call = I.call;
  found = slice_get-more calls more (k - 1) I.call I.found;
  positive = I.positive;
  holder = I.holder;
  suits = I.suits;
}

module _ (a : ℕ) where
  -- the answers of lock calls under this number
  abbrev pub given : ℕ → List Answer → List Answer
  given k xs = filter (is_lock_under a k) xs

  -- what was answered once was so among more calls
  once_more : (calls more : List Call) (k : ℕ) (xs : List Answer) → AtMostOne calls a k xs
      → AtMostOne (calls ++ more) a k xs
  once_more calls more k xs NotYet = NotYet
  once_more calls more k xs (Once call reply is may) =
      Once call reply (slice_get-more calls more (k - 1) call is) may

  -- cs: the open lock calls of node a, which accepted these calls; xs: the answers so far
  pub record Ledger (calls : List Call) (cs : List LockCall) (xs : List Answer) : Type 0 where
    pub called : (p : Process) (c : LockCall) → call_of p cs ≡ Some c → IsCalled calls p c.number c.phase
    pub waits : (p : Process) (c : LockCall) → call_of p cs ≡ Some c → given c.number xs ≡ []
    pub distinct : (p q : Process) (c d : LockCall) → call_of p cs ≡ Some c → call_of q cs ≡ Some d
        → c.number ≡ d.number → is_process p q ≡ true
    pub once : (k : ℕ) → 0 < k → AtMostOne calls a k (given k xs)

  -- at first there is nothing
  pub ledger_none : Ledger [] [] []
  ledger_none = record {
    called = λ p c e. cc;
    waits = λ p c e. cc;
    distinct = λ p q c d e f n. cc;
    once = λ k pos. NotYet;
  }

  -- more calls are accepted
  pub ledger_wider : (calls more : List Call) (cs : List LockCall) (xs : List Answer) → Ledger calls cs xs
      → Ledger (calls ++ more) cs xs
  ledger_wider calls more cs xs L = record {
    called = λ p c e. called_more calls more p c.number c.phase (L.called p c e);
    waits = L.waits;
    distinct = L.distinct;
    once = λ k pos. once_more calls more k (given k xs) (L.once k pos);
  }

  -- some calls are open no more
  pub ledger_less : (calls : List Call) (cs ds : List LockCall) (xs : List Answer)
      → ((p : Process) (c : LockCall) → call_of p ds ≡ Some c → call_of p cs ≡ Some c) → Ledger calls cs xs
      → Ledger calls ds xs
  ledger_less calls cs ds xs from L = record {
    called = λ p c e. L.called p c (from p c e);
    waits = λ p c e. L.waits p c (from p c e);
    distinct = λ p q c d e f n. L.distinct p q c d (from p c e) (from q d f) n;
    once = L.once;
  }

  -- the call of a process is dropped
  pub ledger_dropped : (calls : List Call) (cs : List LockCall) (xs : List Answer) (q : Process) → Ledger calls cs xs
      → Ledger calls (drop_call q cs) xs
  ledger_dropped calls cs xs q L = ledger_less calls cs (drop_call q cs) xs
      (λ p c e. kept p c (is_process q p) (sym (call_of-drop p q cs) ∙ e)) L
    where
      kept : (p : Process) (c : LockCall) (b : Bool) → (if b then None else call_of p cs) ≡ Some c
          → call_of p cs ≡ Some c
      kept p c true e = cc
      kept p c false e = e

  -- answers that are of no lock call
  abbrev pub Aside : List Answer → Type 0
  Aside ys = (k : ℕ) → 0 < k → given k ys ≡ []

  -- they leave the answers under a number
  given-more : (k : ℕ) (xs ys : List Answer) → given k ys ≡ [] → given k (xs ++ ys) ≡ given k xs
  given-more k xs ys none = filter-append (is_lock_under a k) xs ys
      ∙ ap (λ (l : List Answer). given k xs ++ l) none ∙ append-nil (given k xs)

  -- and so the open calls
  pub ledger_aside : (calls : List Call) (cs : List LockCall) (xs ys : List Answer) → Aside ys → Ledger calls cs xs
      → Ledger calls cs (xs ++ ys)
  ledger_aside calls cs xs ys none L = record {
    called = L.called;
    waits = λ p c e. given-more c.number xs ys (none c.number (L.called p c e).positive) ∙ L.waits p c e;
    distinct = L.distinct;
    once = λ k pos. subst (AtMostOne calls a k) (sym (given-more k xs ys (none k pos))) (L.once k pos);
  }

  -- no answer is one
  pub aside_none : Aside []
  aside_none k pos = refl

  -- a word is the answer of no lock call
  pub aside_word : (i : ℕ) (reply : Reply) → is_word reply ≡ true → Aside (answer_to a i reply ∷ [])
  aside_word i reply word k pos = go ((a == a) && (i == k)) (is_word reply) word
    where
      go : (b c : Bool) → c ≡ true → (if b && not c then answer_to a i reply ∷ [] else []) ≡ []
      go true true h = refl
      go false true h = refl
      go b false h = cc

  -- nor is one under number 0
  pub aside_zero : (reply : Reply) → Aside (answer_to a 0 reply ∷ [])
  aside_zero reply k pos = go (a == a) (0 == k) (ne_eqb 0 k (λ e. absurd (omega (arith, e, pos)))) (is_word reply)
    where
      go : (b c : Bool) → c ≡ false → (d : Bool)
          → (if (b && c) && not d then answer_to a 0 reply ∷ [] else []) ≡ []
      go true false h d = refl
      go false false h d = refl
      go b true h d = cc

  -- the number of this call is answered by none, and no other open call has it
  pub record IsSingle (cs : List LockCall) (xs : List Answer) (q : Process) (k : ℕ) : Type 0 where
    pub waits : given k xs ≡ []
    pub alone : (p : Process) (d : LockCall) → call_of p cs ≡ Some d → is_process q p ≡ false → d.number ≡ k → ⊥

  -- an open call is such
  pub single_open : (calls : List Call) (cs : List LockCall) (xs : List Answer) (q : Process) (c : LockCall)
      → Ledger calls cs xs → call_of q cs ≡ Some c → IsSingle cs xs q c.number
  single_open calls cs xs q c L e = record {
    waits = L.waits q c e;
    alone = λ p d f ne n. absurd (cc (L.distinct q p c d e f (sym n), ne));
  }

  -- a call that has its number of the end is such
  pub single_new : (calls : List Call) (cs : List LockCall) (xs : List Answer) (q : Process) → Ledger calls cs xs
      → IsSingle cs xs q (length calls + 1)
  single_new calls cs xs q L = record {
    waits = go (given (length calls + 1) xs) (L.once (length calls + 1) (omega arith));
    alone = λ p d e ne n.
        let I : IsCalled calls p d.number d.phase = L.called p d e in
        absurd (omega (arith, slice_get_within calls (d.number - 1) I.call I.found, n));
  }
    where
      go : (ys : List Answer) → AtMostOne calls a (length calls + 1) ys → ys ≡ []
      go ys NotYet = refl
      go ys (Once call reply is may) =
          absurd (omega (arith, slice_get_within calls ((length calls + 1) - 1) call is))

  -- a call is put, which begins or goes on
  pub ledger_put : (calls : List Call) (cs : List LockCall) (xs : List Answer) (c : LockCall) → c.holder.node ≡ a
      → is_ordered a cs ≡ true → IsSingle cs xs c.holder c.number → IsCalled calls c.holder c.number c.phase
      → Ledger calls cs xs → Ledger calls (put_call c cs) xs
  ledger_put calls cs xs c home sorted S I L = record {
    called = λ p d e. by_holder p (λ p d. IsCalled calls p d.number d.phase) I (L.called p) d
        (is_process c.holder p) refl (sym (find p) ∙ e);
    waits = λ p d e. by_holder p (λ p d. given d.number xs ≡ []) S.waits (L.waits p) d
        (is_process c.holder p) refl (sym (find p) ∙ e);
    distinct = λ p q d1 d2 e f n. apart p q d1 d2 (is_process c.holder p) refl (is_process c.holder q) refl
        (sym (find p) ∙ e) (sym (find q) ∙ f) n;
    once = L.once;
  }
    where
      find : (p : Process) → call_of p (put_call c cs) ≡ (if is_process c.holder p then Some c else call_of p cs)
      find p = call_of-put a p c cs home sorted

      by_holder : (p : Process) (P : Process → LockCall → Type 0) → P c.holder c
          → ((d : LockCall) → call_of p cs ≡ Some d → P p d) → (d : LockCall) (b : Bool) → is_process c.holder p ≡ b
          → (if b then Some c else call_of p cs) ≡ Some d → P p d
      by_holder p P here there d true x e =
          let same : c ≡ d = cc e in
          subst (P p) same (subst (λ (q : Process). P q c) (is_process_same c.holder p x) here)
      by_holder p P here there d false x e = there d e

      apart : (p q : Process) (d1 d2 : LockCall) (b : Bool) → is_process c.holder p ≡ b → (t : Bool)
          → is_process c.holder q ≡ t → (if b then Some c else call_of p cs) ≡ Some d1
          → (if t then Some c else call_of q cs) ≡ Some d2 → d1.number ≡ d2.number → is_process p q ≡ true
      apart p q d1 d2 true x true y e f n =
          subst (λ (r : Process). is_process r q ≡ true) (is_process_same c.holder p x) y
      apart p q d1 d2 true x false y e f n =
          let same : c ≡ d1 = cc e in
          absurd (S.alone q d2 f y (sym n ∙ sym (ap (λ (k : LockCall). k.number) same)))
      apart p q d1 d2 false x true y e f n =
          let same : c ≡ d2 = cc f in
          absurd (S.alone p d1 e x (n ∙ sym (ap (λ (k : LockCall). k.number) same)))
      apart p q d1 d2 false x false y e f n = L.distinct p q d1 d2 e f n

  -- an answer is found under its number
  given-one : (k : ℕ) (reply : Reply) → is_word reply ≡ false
      → given k (answer_to a k reply ∷ []) ≡ answer_to a k reply ∷ []
  given-one k reply word = ap (λ (b : Bool). if (b && (k == k)) && not
      (is_word reply) then answer_to a k reply ∷ [] else [])
      (eq-eqb a a refl)
      ∙ ap (λ (b : Bool). if b && not (is_word reply) then answer_to a k reply ∷ [] else []) (eq-eqb k k refl)
      ∙ ap (λ (b : Bool). if not b then answer_to a k reply ∷ [] else []) word

  -- and under no other
  given-other : (k i : ℕ) (reply : Reply) → (i ≡ k → ⊥) → given k (answer_to a i reply ∷ []) ≡ []
  given-other k i reply ne = go (a == a) (i == k) (ne_eqb i k ne) (is_word reply)
    where
      go : (b c : Bool) → c ≡ false → (d : Bool)
          → (if (b && c) && not d then answer_to a i reply ∷ [] else []) ≡ []
      go true false h d = refl
      go false false h d = refl
      go b true h d = cc

  -- a call is answered, and is open no more
  pub ledger_closed : (calls : List Call) (cs : List LockCall) (xs : List Answer) (c : LockCall) (reply : Reply)
      → is_word reply ≡ false → (phase : LockPhase)
      → IsSingle cs xs c.holder c.number → (I : IsCalled calls c.holder c.number phase) → may_have I.call reply ≡ true
      → Ledger calls cs xs → Ledger calls (drop_call c.holder cs) (xs ++ answer_to a c.number reply ∷ [])
  ledger_closed calls cs xs c reply word phase S I may L = record {
    called = λ p d e. L.called p d (left p d e).0;
    waits = λ p d e. given-more d.number xs (answer_to a c.number reply ∷ [])
        (given-other d.number c.number reply (λ n. S.alone p d (left p d e).0 (left p d e).1 (sym n)))
        ∙ L.waits p d (left p d e).0;
    distinct = λ p q d1 d2 e f n. L.distinct p q d1 d2 (left p d1 e).0 (left q d2 f).0 n;
    once = λ k pos. once k pos (k == c.number) refl;
  }
    where
      left : (p : Process) (d : LockCall) → call_of p (drop_call c.holder cs) ≡ Some d
          → (call_of p cs ≡ Some d) × (is_process c.holder p ≡ false)
      left p d e = go (is_process c.holder p) refl (sym (call_of-drop p c.holder cs) ∙ e)
        where
          go : (b : Bool) → is_process c.holder p ≡ b → (if b then None else call_of p cs) ≡ Some d
              → (call_of p cs ≡ Some d) × (is_process c.holder p ≡ false)
          go true x f = cc
          go false x f = (f, x)

      here : AtMostOne calls a c.number (given c.number (xs ++ answer_to a c.number reply ∷ []))
      here = subst (AtMostOne calls a c.number)
          (sym (filter-append (is_lock_under a c.number) xs (answer_to a c.number reply ∷ [])
          ∙ ap (λ (l : List Answer). l ++ given c.number (answer_to a c.number reply ∷ [])) S.waits
          ∙ given-one c.number reply word)) (Once I.call reply I.found may)

      once : (k : ℕ) → 0 < k → (b : Bool) → (k == c.number) ≡ b
          → AtMostOne calls a k (given k (xs ++ answer_to a c.number reply ∷ []))
      once k pos true e = subst (λ (n : ℕ). AtMostOne calls a n (given n (xs ++ answer_to a c.number reply ∷ [])))
          (sym (eqb-true k c.number e)) here
      once k pos false e = subst (AtMostOne calls a k)
          (sym (given-more k xs (answer_to a c.number reply ∷ []) (given-other k c.number reply other))) (L.once k pos)
        where
          other : c.number ≡ k → ⊥
          other q = absurd (cc (eq-eqb k c.number (sym q), e))
