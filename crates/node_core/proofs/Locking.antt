-- The rules of clients' lock calls, one by one.
use Rattle.std.proofs.Common.{ℕ, Bool, true, false, ◌==◌, ◌≡◌, ◌<◌, Option, Some, None, List, [], ◌∷◌, arith, length, Result, Ok, Err, refl, sym, ap, ◌∙◌, subst}
use Rattle.std.specs.Prelude.{not, nat_lt, if◌then◌else◌, All, IfSome, OnOk, OnErr}
use Rattle.std.specs.Option.{option_map}
use Rattle.std.proofs.Math.Path.{fun_ext}
use Rattle.std.proofs.lemmas.Bool.{ne_eqb}
use Rattle.std.proofs.lemmas.List.Elements.{All-nil, All-cons, All-head, All-tail, All-same, All-filter}
use Rattle.registry_model.specs.Process.{Process, is_process, Nodes}
use Rattle.protocol_model.specs.Letter.{Letter as AnyLetter}
use Rattle.protocol_model.specs.Node.{LockPhase, LockCall as AnyCall, call_of, put_call, drop_call, targets}
use Rattle.protocol_model.specs.Round.{Round, begin, greatest, is_empty}
use Rattle.protocol_model.specs.Turn.{Turn, send, send_all, keep_call, become}
use Rattle.protocol_model.specs.Client.{in_phase, close_call, ask_lock, try_lock, give_lock, ask_back, delete_lock}
use Rattle.term.specs.NodeSets.{IsNodeSet, set_of, without_node}
use Rattle.lock_table.specs.Ids.{id_of}
use Rattle.locker.specs.RoundState.{RoundState, seen}
use Rattle.locker.proofs.Marks.{asked-seen}
use Rattle.transaction.specs.Calls.{target_of}
use Rattle.lock_calls.specs.declared.call.CallPhase.{CallPhase}
use Rattle.lock_calls.specs.declared.call.CallPhase.TheVariants.{Asking, Deleting}
use Rattle.lock_calls.specs.declared.call.LockCall.{LockCall}
use Rattle.lock_calls.specs.Calls.{phase_of, as_call}
use Rattle.lock_calls.specs.LockCallsState.{LockCallsState, seen as calls_seen, AreOrdered}
use Rattle.node_events.specs.declared.events.Letter.{Letter}
use Rattle.node_events.specs.Made.{Made, sent, SendsAll}
use Rattle.node_core.specs.CoreState.{CoreState, bound_of, IsWithin, IsCallWithin, IsOwnCall, IsWhole}
use Rattle.node_events.specs.Letters.{letter_of}
use Rattle.node_core.specs.Seen.{turn_of}
use Rattle.node_core.specs.Steps.{Makes}
use Rattle.node_core.proofs.Bounds.{all_below}
use Rattle.node_core.proofs.Sends.{sent_is, sent_all_is}
use Rattle.node_core.proofs.Whole.{whole_with}
use Rattle.node_core.proofs.Rules.{nobody_is, less_within}
use Rattle.transaction.specs.Work.{is_nobody}

-- what is so of all calls, and of one more, is so once that is put
pub All-put_call : (P : AnyCall → Type 0) (c : AnyCall) (xs : List AnyCall) → P c → All P xs → All P (put_call c xs)
All-put_call P c [] p h = All-cons P c [] p (All-nil P)
All-put_call P c (d ∷ xs) p h =
    go (nat_lt c.holder.serial d.holder.serial) (c.holder.serial == d.holder.serial)
    (All-put_call P c xs p (All-tail P d xs h))
  where
    go : (t e : Bool) → All P (put_call c xs)
        → All P (if t then c ∷ d ∷ xs else (if e then c ∷ xs else d ∷ put_call c xs))
    go true e r = All-cons P c (d ∷ xs) p h
    go false true r = All-cons P c xs p (All-tail P d xs h)
    go false false r = All-cons P d (put_call c xs) (All-head P d xs h) r

-- what is so of all calls is so of the one that is found
pub found_of : (P : AnyCall → Type 0) (p : Process) (xs : List AnyCall) (c : AnyCall) → call_of p xs ≡ Some c
    → All P xs → P c
found_of P p [] c e h = cc
found_of P p (d ∷ xs) c e h =
    go (is_process d.holder p) e (λ f. found_of P p xs c f (All-tail P d xs h))
  where
    same : Some d ≡ Some c → d ≡ c
    same f = cc

    go : (t : Bool) → (if t then Some d else call_of p xs) ≡ Some c → (call_of p xs ≡ Some c → P c) → P c
    go true f r = subst P (same f) (All-head P d xs h)
    go false f r = r f

-- the call that is found is of a process of the node
pub found_own : (h0 h : CoreState) (p : Process) (o : Option LockCall) → h0 ≡ h → IsWhole h0
    → AreOrdered h0.calls.node (calls_seen h0.calls) → option_map as_call o ≡ call_of p (calls_seen h.calls)
    → IfSome o (IsOwnCall h)
found_own h0 h p o same whole ordered =
    subst (λ (x : CoreState). option_map as_call o ≡ call_of p (calls_seen x.calls) → IfSome o (IsOwnCall x)) same (go o)
  where
    go : (o : Option LockCall) → option_map as_call o ≡ call_of p (calls_seen h0.calls) → IfSome o (IsOwnCall h0)
    go None e = tt
    go (Some c) e = (
      found_of (λ d. d.holder.node ≡ h0.calls.node) p (calls_seen h0.calls) (as_call c) (sym e) ordered.own
          ∙ whole.calls,
      found_of (λ d. 0 < d.holder.serial) p (calls_seen h0.calls) (as_call c) (sym e) ordered.live,
    )

-- and its nodes have started
pub found_within : (h0 h : CoreState) (p : Process) (o : Option LockCall) → h0 ≡ h → IsWhole h0
    → option_map as_call o ≡ call_of p (calls_seen h.calls) → IfSome o (λ c. IsCallWithin h.world (phase_of c.phase))
found_within h0 h p o same whole =
    subst (λ (x : CoreState). option_map as_call o ≡ call_of p (calls_seen x.calls)
    → IfSome o (λ c. IsCallWithin x.world (phase_of c.phase))) same (go o)
  where
    go : (o : Option LockCall) → option_map as_call o ≡ call_of p (calls_seen h0.calls)
        → IfSome o (λ c. IsCallWithin h0.world (phase_of c.phase))
    go None e = tt
    go (Some c) e =
        found_of (λ d. IsCallWithin h0.world d.phase) p (calls_seen h0.calls) (as_call c) (sym e) whole.called

-- a call is taken out
pub whole_taken : (h : CoreState) (k : LockCallsState) (p : Process) → IsWhole h → k.node ≡ h.calls.node
    → calls_seen k ≡ drop_call p (calls_seen h.calls) → IsWhole (record h { calls = k })
whole_taken h k p whole node is =
    whole_with h k whole node (All-same (λ c. IsCallWithin h.world c.phase) (calls_seen k)
    (drop_call p (calls_seen h.calls)) is
    (All-filter (λ c. not (is_process c.holder p)) (λ c. IsCallWithin h.world c.phase) (calls_seen h.calls)
    whole.called))

-- a call whose nodes have started is put, where there is memory
pub whole_put : {E : Type 0} (h : CoreState) (k : LockCallsState) (c : LockCall) (r : Result (Unit {0}) E) → IsWhole h
    → IsCallWithin h.world (phase_of c.phase) → k.node ≡ h.calls.node
    → OnOk r (calls_seen k ≡ put_call (as_call c) (calls_seen h.calls)) → OnErr r (k ≡ h.calls)
    → IsWhole (record h { calls = k })
whole_put h k c (Ok x) whole within node ok err =
    whole_with h k whole node (All-same (λ c. IsCallWithin h.world c.phase) (calls_seen k)
    (put_call (as_call c) (calls_seen h.calls)) ok
    (All-put_call (λ c. IsCallWithin h.world c.phase) (as_call c) (calls_seen h.calls) within whole.called))
whole_put h k c (Err e) whole within node ok err =
    subst (λ (x : LockCallsState). IsWhole (record h { calls = x })) (sym err) whole

-- whom a round asks has started
pub asked_within : (world : List ℕ) (r : RoundState) → IsWithin world r.nodes
    → IsCallWithin world (LockPhase.Asking (seen r))
asked_within world r within = λ c e. within c (ap (λ (s : Nodes). s c) (asked-seen r) ∙ e)

-- the nodes of a call's round are, and so are those of the round as it stands after an answer
pub round_within : (world : List ℕ) (c : LockCall) (r s : RoundState) → c.phase ≡ Asking r → s.nodes ≡ r.nodes
    → IsCallWithin world (phase_of c.phase) → IsWithin world s.nodes
round_within world c r s asking same within = λ d e.
    subst (λ (x : CallPhase). IsCallWithin world (phase_of x)) asking within d
    (sym (ap (λ (x : Nodes). x d) (asked-seen r)) ∙ subst (λ (xs : List ℕ). set_of xs d ≡ true) same e)

-- the nodes that owe a call's deletion are, and so are they without f
pub owing_within : (world : List ℕ) (c : LockCall) (owing less : List ℕ) (f : ℕ) → c.phase ≡ Deleting owing
    → less ≡ without_node owing f → IsCallWithin world (phase_of c.phase) → IsWithin world less
owing_within world c owing less f deleting is within =
    subst (λ (xs : List ℕ). IsWithin world xs) (sym is)
    (less_within world owing f (subst (λ (x : CallPhase). IsCallWithin world (phase_of x)) deleting within))

-- the new round over these nodes asks nobody else
pub begun_within : (world xs : List ℕ) (r : RoundState) → r.nodes ≡ xs → IsWithin world xs
    → IsCallWithin world (LockPhase.Asking (seen r))
begun_within world xs r is within =
    asked_within world r (subst (λ (ys : List ℕ). IsWithin world ys) (sym is) within)

-- a rule that makes the same
pub made_as : {f g : ℕ → ℕ → Turn → Turn} {h k : CoreState} {t u : Made} → Makes f h t k u
    → f (bound_of h.world) h.name (turn_of h t) ≡ g (bound_of h.world) h.name (turn_of h t) → Makes g h t k u
made_as p e = record { name = p.name; world = p.world; turn = p.turn ∙ e }

-- the turn with other calls of the node
abbrev calls_now : List AnyCall → Turn → Turn
calls_now cs u = become (record u.node { calls = cs }) u

-- the call is put
pub keeps : (h0 h : CoreState) (t : Made) (k : LockCallsState) (c : AnyCall) → h0 ≡ h
    → calls_seen k ≡ put_call c (calls_seen h0.calls)
    → Makes (λ n a. keep_call c) h t (record h0 { calls = k }) t
keeps h0 h t k c same put = subst (λ (x : CoreState). Makes (λ n a. keep_call c) x t (record h0 { calls = k }) t) same
    (record { name = refl; world = refl; turn = ap (λ (cs : List AnyCall). calls_now cs (turn_of h0 t)) put })

-- the boss of a call's round is asked
pub asks_lock : (h0 h : CoreState) (t u : Made) (c : LockCall) (k : LockCallsState) (b : ℕ) (l : Letter) (r : RoundState)
    (xs : List ℕ) → h0 ≡ h → IsWithin h.world xs
    → ((n : ℕ) → All (λ d. d < n) xs → b ≡ greatest n (set_of xs))
    → letter_of l ≡ AnyLetter.SetLock (id_of c.id) c.holder
    → ((n : ℕ) → All (λ d. d < n) xs → seen r ≡ begin n (set_of xs)) → u ≡ sent b l t
    → calls_seen k ≡ put_call (as_call (record c { phase = Asking r })) (calls_seen h0.calls)
    → Makes (λ n a. ask_lock n a (as_call c) (set_of xs)) h t (record h0 { calls = k }) u
asks_lock h0 h t u c k b l r xs same within boss is begun made put =
    subst (λ (x : CoreState). Makes (λ n a. ask_lock n a (as_call c) (set_of xs)) x t (record h0 { calls = k }) u) same
    (record {
      name = refl;
      world = refl;
      turn = ap (turn_of h2) made ∙ sent_is h2 t b l
          ∙ ap (λ (d : ℕ). send d (letter_of l) (turn_of h2 t)) (boss n below)
          ∙ ap (λ (x : AnyLetter). send (greatest n (set_of xs)) x (turn_of h2 t)) is
          ∙ ap (λ (cs : List AnyCall). send (greatest n (set_of xs)) (AnyLetter.SetLock (id_of c.id) c.holder)
          (calls_now cs (turn_of h0 t)))
          (put ∙ ap (λ (x : Round). put_call (in_phase (LockPhase.Asking x) (as_call c)) (calls_seen h0.calls))
          (begun n below));
    })
  where
    h2 : CoreState
    h2 = record h0 { calls = k }

    n : ℕ
    n = bound_of h0.world

    below : All (λ d. d < n) xs
    below = all_below h0.world xs (subst (λ (x : CoreState). IsWithin x.world xs) (sym same) within)

-- no nodes are an empty set
pub none_left : (world xs : List ℕ) → IsWithin world xs → (length xs == 0) ≡ is_empty (bound_of world) (set_of xs)
none_left world xs within = go xs ∙ sym (nobody_is (bound_of world) xs (all_below world xs within))
  where
    go : (ys : List ℕ) → (length ys == 0) ≡ is_nobody ys
    go [] = refl
    go (y ∷ ys) = ne_eqb (length (y ∷ ys)) 0 (λ e. absurd (omega arith))

-- xs are the nodes that the call asks; b: there are none
module _ (h : CoreState) (t : Made) (c : LockCall) (xs : List ℕ) (b : Bool) (within : IsWithin h.world xs)
    (asked : (d : ℕ) → set_of xs d ≡ targets (set_of h.members) (target_of c.nodes) d) (is : b ≡ (length xs == 0)) where
  abbrev asked_now : Nodes
  asked_now = targets (set_of h.members) (target_of c.nodes)

  targets_are : set_of xs ≡ asked_now
  targets_are = fun_ext asked

  none_are : b ≡ is_empty (bound_of h.world) asked_now
  none_are = is ∙ none_left h.world xs within ∙ ap (is_empty (bound_of h.world)) targets_are

  -- nobody is asked
  pub tries_none : (k : CoreState) (u : Made) → b ≡ true → Makes (λ n a. close_call n a (as_call c) false) h t k u
      → Makes (λ n a. try_lock n a (as_call c)) h t k u
  tries_none k u none M = made_as M (ap (λ (e : Bool). if e
      then close_call (bound_of h.world) h.name (as_call c) false (turn_of h t)
      else ask_lock (bound_of h.world) h.name (as_call c) asked_now (turn_of h t)) (sym none ∙ none_are))

  -- somebody is
  pub tries_some : (k : CoreState) (u : Made) → b ≡ false → Makes (λ n a. ask_lock n a (as_call c) (set_of xs)) h t k u
      → Makes (λ n a. try_lock n a (as_call c)) h t k u
  tries_some k u some M = made_as M (
      ap (λ (s : Nodes). ask_lock (bound_of h.world) h.name (as_call c) s (turn_of h t)) targets_are
      ∙ ap (λ (e : Bool). if e
      then close_call (bound_of h.world) h.name (as_call c) false (turn_of h t)
      else ask_lock (bound_of h.world) h.name (as_call c) asked_now (turn_of h t)) (sym some ∙ none_are))

  -- nobody has the lock to give up
  pub deletes_none : (k : CoreState) (u : Made) → b ≡ true → Makes (λ n a. close_call n a (as_call c) true) h t k u
      → Makes (λ n a. delete_lock n a (as_call c)) h t k u
  deletes_none k u none M = made_as M (ap (λ (e : Bool). if e
      then close_call (bound_of h.world) h.name (as_call c) true (turn_of h t)
      else ask_back (bound_of h.world) h.name (as_call c) asked_now (turn_of h t)) (sym none ∙ none_are))

  -- somebody is to give it up
  pub deletes_some : (h0 : CoreState) (u : Made) (k : LockCallsState) (l : Letter) → h0 ≡ h → b ≡ false → IsNodeSet xs
      → letter_of l ≡ AnyLetter.GiveBack (id_of c.id) c.holder true → SendsAll xs l t u
      → calls_seen k ≡ put_call (as_call (record c { phase = Deleting xs })) (calls_seen h0.calls)
      → Makes (λ n a. delete_lock n a (as_call c)) h t (record h0 { calls = k }) u
  deletes_some h0 u k l same some set is_letter made =
      subst (λ (x : CoreState). calls_seen k ≡ put_call (as_call (record c { phase = Deleting xs })) (calls_seen x.calls)
      → Makes (λ n a. delete_lock n a (as_call c)) h t (record x { calls = k }) u) (sym same) (λ put. record {
        name = refl;
        world = refl;
        turn = sent_all_is h2 t u xs l made set within
            ∙ ap (λ (x : AnyLetter). send_all n (set_of xs) x (turn_of h2 t)) is_letter
            ∙ ap (λ (cs : List AnyCall). send_all n (set_of xs) (AnyLetter.GiveBack (id_of c.id) c.holder true)
            (calls_now cs (turn_of h t))) put
            ∙ ap (λ (s : Nodes). ask_back n h.name (as_call c) s (turn_of h t)) targets_are
            ∙ ap (λ (e : Bool). if e
            then close_call n h.name (as_call c) true (turn_of h t)
            else ask_back n h.name (as_call c) asked_now (turn_of h t)) (sym some ∙ none_are);
      })
    where
      h2 : CoreState
      h2 = record h { calls = k }

      n : ℕ
      n = bound_of h.world

-- these get their grant of a call back
pub gives_lock : (h : CoreState) (t u : Made) (c : LockCall) (cs : List ℕ) (l : Letter) → IsNodeSet cs → IsWithin h.world cs
    → letter_of l ≡ AnyLetter.GiveBack (id_of c.id) c.holder false → SendsAll cs l t u
    → Makes (λ n a. give_lock n a (as_call c) (set_of cs)) h t h u
gives_lock h t u c cs l set within is made = record {
  name = refl;
  world = refl;
  turn = sent_all_is h t u cs l made set within
      ∙ ap (λ (x : AnyLetter). send_all (bound_of h.world) (set_of cs) x (turn_of h t)) is;
}
