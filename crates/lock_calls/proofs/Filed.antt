-- Calls that stand under the serials of their processes: what is found, put and removed there is what the protocol
-- finds, puts and drops.
use Rattle.std.proofs.Common.{ℕ, Bool, true, false, ◌==◌, ◌≡◌, ◌<◌, Some, None, List, [], ◌∷◌, refl, sym, ap, subst, ◌∙◌, inl, inr, arith, is_eq, nat_cmp}
use Rattle.std.specs.Prelude.{not, ◌||◌, cond, map, All}
use Rattle.std.specs.BTreeMap.{insert_entry, is_at}
use Rattle.std.specs.List.{AllByRecursion, list_any}
use Rattle.std.specs.List.Sorted.{IsStrictlySortedBy}
use Rattle.std.specs.Map.{keys_of, values_of, lookup, remove_entry, set_value}
use Rattle.std.specs.Option.{option_map}
use Rattle.std.specs.declared.cmp.Ordering.TheVariants.{Less}
use Rattle.std.proofs.lemmas.Bool.{cases_eq, cases_order, eq-eqb, eqb-true, ne_eqb, lt-ltb, le-ltb}
use Rattle.std.proofs.lemmas.List.Elements.{All-cons, All-head, All-tail, All-nil}
use Rattle.std.proofs.lemmas.Map.Keys.{sorted_head, sorted_tail}
use Rattle.registry_model.specs.Process.{Process, is_process}
use Rattle.protocol_model.specs.Node.{LockCall as AnyCall, call_of, put_call, drop_call}
use Rattle.lock_calls.specs.declared.call.LockCall.{LockCall}
use Rattle.protocol_model.specs.Event.{is_waiting_call}
use Rattle.lock_calls.specs.Calls.{as_call, phase_of}
use Rattle.lock_calls.specs.LockCallsState.{LockCallsState, seen, IsOf}
use Rattle.lock_calls.proofs.Ordered.{Entries, calls_in, less_than}

-- the process of node a that has this serial
abbrev process_at : ℕ → ℕ → Process
process_at a s = record { node = a; serial = s }

pub at_is : (s k : ℕ) → is_at (nat_cmp s) k ≡ (k == s)
at_is s k = elim (cases_order s k) [
  | inl i ↦ rw (le-ltb s k (omega arith), eq-eqb s k i, eq-eqb k s (sym i)) refl
  | inr (inl l) ↦ rw (lt-ltb s k l, ne_eqb k s (λ i. absurd (omega arith))) refl
  | inr (inr g) ↦ rw (le-ltb s k (omega arith))
      (rw (ne_eqb s k (λ i. absurd (omega arith)), ne_eqb k s (λ i. absurd (omega arith))) refl)
]

-- a call is of the process whose serial it stands under
is_process-at : (a s : ℕ) (e : ℕ × LockCall) → IsOf a e
    → is_process e.1.holder (process_at a s) ≡ is_at (nat_cmp s) e.0
is_process-at a s e h =
    ap (λ (p : Process). is_process p (process_at a s)) h.0 ∙ rw (eq-eqb a a refl) (sym (at_is s e.0))

-- and of no process of another node
is_process-elsewhere : (a : ℕ) (p : Process) (e : ℕ × LockCall) → IsOf a e → (a == p.node) ≡ false
    → is_process e.1.holder p ≡ false
is_process-elsewhere a p e h other = ap (λ (q : Process). is_process q p) h.0 ∙ rw other refl

pub call_of-filed : (a s : ℕ) (es : Entries) → All (IsOf a) es
    → option_map as_call (lookup (is_at (nat_cmp s)) es) ≡ call_of (process_at a s) (calls_in es)
call_of-filed a s [] h = refl
call_of-filed a s (e ∷ es) h =
    go (is_at (nat_cmp s) e.0) (is_process-at a s e (All-head (IsOf a) e es h))
    (call_of-filed a s es (All-tail (IsOf a) e es h))
  where
    go : (b : Bool) → is_process e.1.holder (process_at a s) ≡ b
        → option_map as_call (lookup (is_at (nat_cmp s)) es) ≡ call_of (process_at a s) (calls_in es)
        → option_map as_call (cond b (Some e.1) (lookup (is_at (nat_cmp s)) es))
        ≡ call_of (process_at a s) (as_call e.1 ∷ calls_in es)
    go true q r = rw q refl
    go false q r = rw q r

pub call_of-elsewhere : (a : ℕ) (p : Process) (es : Entries) → All (IsOf a) es → (a == p.node) ≡ false
    → call_of p (calls_in es) ≡ None
call_of-elsewhere a p [] h other = refl
call_of-elsewhere a p (e ∷ es) h other =
    rw (is_process-elsewhere a p e (All-head (IsOf a) e es h) other)
    (call_of-elsewhere a p es (All-tail (IsOf a) e es h) other)

pub put_call-filed : (a : ℕ) (c : LockCall) (es : Entries) → All (IsOf a) es
    → calls_in (insert_entry nat_cmp es c.holder.serial c) ≡ put_call (as_call c) (calls_in es)
put_call-filed a c [] h = refl
put_call-filed a c (e ∷ es) h =
    let under : t ≡ e.0 = ap (λ (p : Process). p.serial) (All-head (IsOf a) e es h).0 in
    elim (cases_order s e.0) [
      | inl i ↦ rw (le-ltb s e.0 (omega arith), eq-eqb s e.0 i, le-ltb s t (omega arith), eq-eqb s t (i ∙ sym under))
          refl
      | inr (inl l) ↦ rw (lt-ltb s e.0 l, lt-ltb s t (omega arith)) refl
      | inr (inr g) ↦ rw (
        le-ltb s e.0 (omega arith),
        ne_eqb s e.0 (λ i. absurd (omega arith)),
        le-ltb s t (omega arith),
        ne_eqb s t (λ i. absurd (omega arith)),
      )
          (ap (λ (cs : List AnyCall). as_call e.1 ∷ cs) (put_call-filed a c es (All-tail (IsOf a) e es h)))
    ]
  where
    s : ℕ
    s = c.holder.serial

    t : ℕ
    t = e.1.holder.serial

-- nothing is dropped where all stand under greater serials
none_dropped : (a s : ℕ) (es : Entries) → All (IsOf a) es → AllByRecursion (λ k. nat_cmp s k ≡ Less) (keys_of es)
    → drop_call (process_at a s) (calls_in es) ≡ calls_in es
none_dropped a s [] h greater = refl
none_dropped a s (e ∷ es) h greater =
    rw (is_process-at a s e (All-head (IsOf a) e es h) ∙ ap is_eq greater.0)
    (ap (λ (cs : List AnyCall). as_call e.1 ∷ cs) (none_dropped a s es (All-tail (IsOf a) e es h) greater.1))

pub drop_call-filed : (a s : ℕ) (es : Entries) → All (IsOf a) es → IsStrictlySortedBy nat_cmp (keys_of es)
    → calls_in (remove_entry (is_at (nat_cmp s)) es) ≡ drop_call (process_at a s) (calls_in es)
drop_call-filed a s [] h rising = refl
drop_call-filed a s (e ∷ es) h rising =
    go (is_at (nat_cmp s) e.0) refl (is_process-at a s e (All-head (IsOf a) e es h))
    (drop_call-filed a s es rest (sorted_tail nat_cmp e.0 (keys_of es) rising))
  where
    rest : All (IsOf a) es
    rest = All-tail (IsOf a) e es h

    go : (b : Bool) → is_at (nat_cmp s) e.0 ≡ b → is_process e.1.holder (process_at a s) ≡ b
        → calls_in (remove_entry (is_at (nat_cmp s)) es) ≡ drop_call (process_at a s) (calls_in es)
        → calls_in (cond b es (e ∷ remove_entry (is_at (nat_cmp s)) es))
        ≡ drop_call (process_at a s) (as_call e.1 ∷ calls_in es)
    go true i q r = rw q (sym (none_dropped a s es rest (subst (λ (k : ℕ). AllByRecursion (λ j. nat_cmp k j ≡ Less)
        (keys_of es)) (eqb-true e.0 s (sym (at_is s e.0) ∙ i)) (sorted_head nat_cmp e.0 (keys_of es) rising))))
    go false i q r = rw q (ap (λ (cs : List AnyCall). as_call e.1 ∷ cs) r)

pub drop_call-elsewhere : (a : ℕ) (p : Process) (es : Entries) → All (IsOf a) es → (a == p.node) ≡ false
    → drop_call p (calls_in es) ≡ calls_in es
drop_call-elsewhere a p [] h other = refl
drop_call-elsewhere a p (e ∷ es) h other =
    rw (is_process-elsewhere a p e (All-head (IsOf a) e es h) other)
    (ap (λ (cs : List AnyCall). as_call e.1 ∷ cs)
    (drop_call-elsewhere a p es (All-tail (IsOf a) e es h) other))

-- no call stands under a serial where all stand under greater ones
unfound : (s n : ℕ) (es : Entries) → s < n → AllByRecursion (λ k. nat_cmp n k ≡ Less) (keys_of es)
    → lookup (is_at (nat_cmp s)) es ≡ None
unfound s n [] less above = refl
unfound s n (e ∷ es) less above =
    let beyond : n < e.0 = less_than n e.0 above.0 in
    rw (at_is s e.0, ne_eqb e.0 s (λ i. absurd (omega arith))) (unfound s n es less above.1)

-- a call that is written over another stands as if it had been put
pub written-put : (s : ℕ) (c d : LockCall) (es : Entries) → IsStrictlySortedBy nat_cmp (keys_of es)
    → Some d ≡ lookup (is_at (nat_cmp s)) es
    → set_value (is_at (nat_cmp s)) es c ≡ insert_entry nat_cmp es s c
written-put s c d [] rising found = absurd (cc found)
written-put s c d (e ∷ es) rising found = elim (cases_order s e.0) [
  | inl i ↦ rw (le-ltb s e.0 (omega arith), eq-eqb s e.0 i) refl
  | inr (inl l) ↦ absurd (none_and_some (beside (ne_eqb e.0 s (λ i. absurd (omega arith)))
      ∙ unfound s e.0 es l (sorted_head nat_cmp e.0 (keys_of es) rising)))
  | inr (inr g) ↦
      let later : (e.0 == s) ≡ false = ne_eqb e.0 s (λ i. absurd (omega arith)) in
      rw (le-ltb s e.0 (omega arith), ne_eqb s e.0 (λ i. absurd (omega arith)))
      (ap (λ (rest : Entries). e ∷ rest)
      (written-put s c d es (sorted_tail nat_cmp e.0 (keys_of es) rising) (beside later)))
]
  where
    beside : (e.0 == s) ≡ false → Some d ≡ lookup (is_at (nat_cmp s)) es
    beside other = found ∙ ap (λ (b : Bool). cond b (Some e.1) (lookup (is_at (nat_cmp s)) es)) (at_is s e.0 ∙ other)

    none_and_some : Some d ≡ None → ⊥
    none_and_some i = cc i

-- calls stay filed where one is put or removed
pub filed-insert_entry : (a s : ℕ) (c : LockCall) (es : Entries) → IsOf a (s, c) → All (IsOf a) es
    → All (IsOf a) (insert_entry nat_cmp es s c)
filed-insert_entry a s c [] new h = All-cons (IsOf a) (s, c) [] new (All-nil (IsOf a))
filed-insert_entry a s c (e ∷ es) new h = elim (cases_order s e.0) [
  | inl i ↦ rw (le-ltb s e.0 (omega arith), eq-eqb s e.0 i)
      (subst (λ (k : ℕ). All (IsOf a) ((k, c) ∷ es)) i (All-cons (IsOf a) (s, c) es new rest))
  | inr (inl l) ↦ rw (lt-ltb s e.0 l) (All-cons (IsOf a) (s, c) (e ∷ es) new h)
  | inr (inr g) ↦ rw (le-ltb s e.0 (omega arith), ne_eqb s e.0 (λ i. absurd (omega arith)))
      (All-cons (IsOf a) e (insert_entry nat_cmp es s c) (All-head (IsOf a) e es h)
      (filed-insert_entry a s c es new rest))
]
  where
    rest : All (IsOf a) es
    rest = All-tail (IsOf a) e es h

pub filed-remove_entry : (a : ℕ) (test : ℕ → Bool) (es : Entries) → All (IsOf a) es
    → All (IsOf a) (remove_entry test es)
filed-remove_entry a test [] h = h
filed-remove_entry a test (e ∷ es) h = go (test e.0) (filed-remove_entry a test es rest)
  where
    rest : All (IsOf a) es
    rest = All-tail (IsOf a) e es h

    go : (b : Bool) → All (IsOf a) (remove_entry test es) → All (IsOf a) (cond b es (e ∷ remove_entry test es))
    go true r = rest
    go false r = All-cons (IsOf a) e (remove_entry test es) (All-head (IsOf a) e es h) r

-- a number that isn't another, said the other way round
other_node : (a b : ℕ) → true ≡ not (b == a) → (a == b) ≡ false
other_node a b h = elim (cases_eq a b) [
  | inl i ↦ absurd (cc (eq-eqb b a (sym i), h))
  | inr ne ↦ ne_eqb a b ne
]

same_node : (a b : ℕ) → false ≡ not (b == a) → b ≡ a
same_node a b h = elim (cases_eq b a) [
  | inl i ↦ i
  | inr ne ↦ absurd (cc (ne_eqb b a ne, h))
]

-- What the filed calls are seen as, and what is asked of a process that is seen as p
module _ (a : ℕ) (es : Entries) (h : LockCallsState) (q p : Process)
    (view : record { node = a; calls = values_of es } ≡ h) (process : q ≡ p) (of : All (IsOf a) es) where
  -- the calls of another node's processes
  pub call_of-other : true ≡ not (q.node == a) → call_of p (seen h) ≡ None
  call_of-other other =
      subst (λ (k : LockCallsState). call_of p (seen k) ≡ None) view
      (subst (λ (r : Process). call_of r (calls_in es) ≡ None) process
      (call_of-elsewhere a q es of (other_node a q.node other)))

  pub drop_call-other : true ≡ not (q.node == a) → drop_call p (seen h) ≡ seen h
  drop_call-other other =
      subst (λ (k : LockCallsState). drop_call p (seen k) ≡ seen k) view
      (subst (λ (r : Process). drop_call r (calls_in es) ≡ calls_in es) process
      (drop_call-elsewhere a q es of (other_node a q.node other)))

  -- the process is that of its serial
  own : false ≡ not (q.node == a) → process_at a q.serial ≡ p
  own same = ap (λ (n : ℕ). record q { node = n }) (sym (same_node a q.node same)) ∙ process

  pub call_of-own : false ≡ not (q.node == a)
      → option_map as_call (lookup (is_at (nat_cmp q.serial)) es) ≡ call_of p (seen h)
  call_of-own same =
      subst (λ (k : LockCallsState). option_map as_call (lookup (is_at (nat_cmp q.serial)) es) ≡ call_of p (seen k)) view
      (call_of-filed a q.serial es of ∙ ap (λ (r : Process). call_of r (calls_in es)) (own same))

  pub drop_call-own : IsStrictlySortedBy nat_cmp (keys_of es) → false ≡ not (q.node == a)
      → calls_in (remove_entry (is_at (nat_cmp q.serial)) es) ≡ drop_call p (seen h)
  drop_call-own rising same =
      subst (λ (k : LockCallsState). calls_in (remove_entry (is_at (nat_cmp q.serial)) es) ≡ drop_call p (seen k)) view
      (drop_call-filed a q.serial es of rising ∙ ap (λ (r : Process). drop_call r (calls_in es)) (own same))

-- some call waits, as the protocol has it
pub any_seen : (cs : List LockCall)
    → list_any (λ c. is_waiting_call (phase_of c.phase)) cs ≡ list_any (λ c. is_waiting_call c.phase) (map as_call cs)
any_seen [] = refl
any_seen (c ∷ cs) = ap (λ (b : Bool). is_waiting_call (phase_of c.phase) || b) (any_seen cs)

-- What the filed calls are seen as, and a call of a process of the same node that is put under its serial
module _ (a s : ℕ) (es : Entries) (h : LockCallsState) (c : LockCall)
    (view : record { node = a; calls = values_of es } ≡ h) (under : s ≡ c.holder.serial) (of : All (IsOf a) es)
    (own : c.holder.node ≡ h.node) where
  holder_is : process_at a s ≡ c.holder
  holder_is =
      ap (λ (n : ℕ). process_at n s) (ap (λ (k : LockCallsState). k.node) view ∙ sym own)
      ∙ ap (λ (k : ℕ). record c.holder { serial = k }) under

  pub filed-put : 0 < c.holder.serial → All (IsOf a) (insert_entry nat_cmp es s c)
  filed-put live = filed-insert_entry a s c es (sym holder_is, omega (arith, under)) of

  pub put_call-own : calls_in (insert_entry nat_cmp es s c) ≡ put_call (as_call c) (seen h)
  put_call-own =
      subst (λ (k : ℕ). calls_in (insert_entry nat_cmp es k c) ≡ put_call (as_call c) (seen h)) (sym under)
      (put_call-filed a c es of ∙ ap (λ (k : LockCallsState). put_call (as_call c) (seen k)) view)

  pub call_of-absent : lookup (is_at (nat_cmp s)) es ≡ None → call_of c.holder (seen h) ≡ None
  call_of-absent absent =
      subst (λ (k : LockCallsState). call_of c.holder (seen k) ≡ None) view
      (subst (λ (p : Process). call_of p (calls_in es) ≡ None) holder_is
      (sym (call_of-filed a s es of) ∙ ap (option_map as_call) absent))
