-- Calls that stand elsewhere: what is written over a call is what the protocol puts in its place.
use Rattle.std.proofs.Common.{ℕ, Bool, true, false, ◌==◌, ◌≡◌, Option, Some, None, List, [], ◌∷◌, refl, sym, ap, subst, ◌∙◌, arith, nat_cmp}
use Rattle.std.specs.Prelude.{not, ◌&&◌, if◌then◌else◌, cond, All}
use Rattle.std.specs.BTreeMap.{BTreeMap, insert_entry, is_at}
use Rattle.std.specs.List.Sorted.{IsStrictlySortedBy}
use Rattle.std.specs.Map.{keys_of, values_of, lookup, set_value}
use Rattle.std.specs.Option.{option_map}
use Rattle.std.proofs.Math.Path.{fun_ext}
use Rattle.std.proofs.lemmas.Bool.{eqb-true}
use Rattle.std.proofs.lemmas.List.Elements.{All-head, All-tail}
use Rattle.std.proofs.lemmas.Map.{keys-set_value}
use Rattle.registry_model.specs.Process.{Process, at}
use Rattle.protocol_model.specs.Node.{LockPhase, LockCall as AnyCall, call_of, put_call}
use Rattle.protocol_model.specs.Client.{in_phase}
use Rattle.term.specs.NodeSets.{set_of, without_node}
use Rattle.term.proofs.Subsets.{set_of-filter}
use Rattle.lock_calls.specs.declared.call.LockCall.{LockCall}
use Rattle.lock_calls.specs.declared.call.CallPhase.{CallPhase}
use Rattle.lock_calls.specs.declared.call.CallPhase.TheVariants.{Asking, Waiting, Deleting}
use Rattle.lock_calls.specs.Calls.{as_call, phase_of}
use Rattle.lock_calls.specs.LockCallsState.{LockCallsState, seen, IsOf, IsFiled}
use Rattle.lock_calls.specs.Standing.{becomes, given_up, with_one_less}
use Rattle.lock_calls.proofs.Ordered.{Entries, calls_in}
use Rattle.lock_calls.proofs.Filed.{at_is, call_of-other, call_of-own, filed-put, put_call-own, written-put}

-- whether one of many nodes is another
pub without_is : (xs : List ℕ) (f : ℕ) → set_of (without_node xs f) ≡ at (set_of xs) f false
without_is xs f = fun_ext (λ c. set_of-filter (λ m. not (m == f)) xs c ∙ go (c == f) (set_of xs c))
  where
    go : (b s : Bool) → (s && not b) ≡ (if b then false else s)
    go true true = refl
    go true false = refl
    go false true = refl
    go false false = refl

-- a deletion as it is kept is told the same
less_is : (f : ℕ) (phase : CallPhase) → phase_of (with_one_less f phase) ≡ given_up f (phase_of phase)
less_is f (Asking r) = refl
less_is f Waiting = refl
less_is f (Deleting owing) = ap LockPhase.Deleting (without_is owing f)

pub less_stands : (f : ℕ) (c d : LockCall) → c ≡ record d { phase = with_one_less f d.phase }
    → as_call c ≡ in_phase (given_up f (as_call d).phase) (as_call d)
less_stands f c d is = ap as_call is ∙ ap (λ (x : LockPhase). in_phase x (as_call d)) (less_is f d.phase)

-- the call that is found under a serial is of the process that has it
found_of : (a s : ℕ) (d : LockCall) (es : Entries) → All (IsOf a) es → Some d ≡ lookup (is_at (nat_cmp s)) es
    → IsOf a (s, d)
found_of a s d [] of found = absurd (cc found)
found_of a s d (e ∷ es) of found =
    go (is_at (nat_cmp s) e.0) refl found (found_of a s d es (All-tail (IsOf a) e es of))
  where
    go : (b : Bool) → is_at (nat_cmp s) e.0 ≡ b → Some d ≡ cond b (Some e.1) (lookup (is_at (nat_cmp s)) es)
        → (Some d ≡ lookup (is_at (nat_cmp s)) es → IsOf a (s, d)) → IsOf a (s, d)
    go true here is rest =
        let same : d ≡ e.1 = cc is in
        let under : e.0 ≡ s = eqb-true e.0 s (sym (at_is s e.0) ∙ here) in
        subst (λ (x : LockCall). IsOf a (s, x)) (sym same)
        (subst (λ (k : ℕ). IsOf a (k, e.1)) under (All-head (IsOf a) e es of))
    go false here is rest = rest is

-- What the calls es of node a are seen as, and what is asked of a process that is seen as p, whose call changes so
module _ (a : ℕ) (es : Entries) (h : LockCallsState) (q p : Process) (change : AnyCall → AnyCall)
    (view : record { node = a; calls = values_of es } ≡ h) (process : q ≡ p) (of : All (IsOf a) es) where
  -- a process of another node has no call
  pub becomes-other : true ≡ not (q.node == a) → seen h ≡ becomes change (call_of p (seen h)) (seen h)
  becomes-other other =
      ap (λ (o : Option AnyCall). becomes change o (seen h)) (sym (call_of-other a es h q p view process of other))

  -- nor has one under whose serial none is found
  pub becomes-absent : false ≡ not (q.node == a) → None ≡ lookup (is_at (nat_cmp q.serial)) es → (new : Entries)
      → new ≡ es → calls_in new ≡ becomes change (call_of p (seen h)) (seen h)
  becomes-absent same absent new is =
      ap calls_in is ∙ ap seen view
      ∙ ap (λ (o : Option AnyCall). becomes change o (seen h))
      (ap (option_map as_call) absent ∙ call_of-own a es h q p view process of same)

  -- c is written over d, which is found, and is of the same process
  module _ (rising : IsStrictlySortedBy nat_cmp (keys_of es)) (same : false ≡ not (q.node == a))
      (keeps : (x : AnyCall) → (change x).holder ≡ x.holder) (c d : LockCall)
      (found : Some d ≡ lookup (is_at (nat_cmp q.serial)) es) (changed : as_call c ≡ change (as_call d))
      (new : Entries) (set : new ≡ set_value (is_at (nat_cmp q.serial)) es c) where
    written : new ≡ insert_entry nat_cmp es q.serial c
    written = set ∙ written-put q.serial c d es rising found

    owner : c.holder ≡ record { node = a; serial = q.serial }
    owner = ap (λ (x : AnyCall). x.holder) changed ∙ keeps (as_call d) ∙ (found_of a q.serial d es of found).0

    under : q.serial ≡ c.holder.serial
    under = ap (λ (x : Process). x.serial) (sym owner)

    own : c.holder.node ≡ h.node
    own = ap (λ (x : Process). x.node) owner ∙ ap (λ (k : LockCallsState). k.node) view

    pub becomes-filed : (m : BTreeMap ℕ LockCall) → m.entries ≡ new → IsFiled a m
    becomes-filed m is = record {
      of = subst (All (IsOf a)) (sym (is ∙ written))
          (filed-put a q.serial es h c view under of own
          (omega (arith, under, (found_of a q.serial d es of found).1)));
      rising = subst (IsStrictlySortedBy nat_cmp)
          (sym (ap keys_of (is ∙ set) ∙ keys-set_value (is_at (nat_cmp q.serial)) es c)) rising;
    }

    pub becomes-seen : calls_in new ≡ becomes change (call_of p (seen h)) (seen h)
    becomes-seen = ap calls_in written ∙ put_call-own a q.serial es h c view under of own
        ∙ ap (λ (x : AnyCall). put_call x (seen h)) changed
        ∙ ap (λ (o : Option AnyCall). becomes change o (seen h))
        (ap (option_map as_call) found ∙ call_of-own a es h q p view process of same)
