-- Filed calls rise by serial.
use Rattle.std.proofs.Common.{ℕ, ◌≡◌, ◌<◌, List, [], ◌∷◌, ap, subst, arith, nat_cmp}
use Rattle.std.specs.Prelude.{map, All, AllPairs}
use Rattle.std.specs.List.{AllByRecursion}
use Rattle.std.specs.List.Sorted.{IsStrictlySortedBy}
use Rattle.std.specs.Map.{keys_of, values_of}
use Rattle.std.specs.declared.cmp.Ordering.TheVariants.{Less}
use Rattle.std.proofs.lemmas.Bool.Decides.{nat_tests}
use Rattle.std.proofs.lemmas.List.Elements.{All-cons, All-head, All-tail, All-nil, All-map, All-weaker}
use Rattle.std.proofs.lemmas.List.Kept.{AllPairs-cons}
use Rattle.std.proofs.lemmas.Map.Keys.{sorted_head, sorted_tail}
use Rattle.registry_model.specs.Process.{Process}
use Rattle.protocol_model.specs.Node.{LockCall as AnyCall}
use Rattle.lock_calls.specs.declared.call.LockCall.{LockCall}
use Rattle.lock_calls.specs.Calls.{as_call}
use Rattle.lock_calls.specs.LockCallsState.{LockCallsState, seen, IsOf, AreOrdered}

-- calls under serials
abbrev pub Entries : Type 0
Entries = List (ℕ × LockCall)

-- the calls as the protocol has them
abbrev pub calls_in : Entries → List AnyCall
calls_in es = map as_call (values_of es)

pub less_than : (s k : ℕ) → nat_cmp s k ≡ Less → s < k
less_than s k h = grind (arith, nat_tests)

-- what is so of each filed call is so of it as the protocol has it
All-calls_in : (P : AnyCall → Type 0) (a : ℕ) (es : Entries) → ((e : ℕ × LockCall) → IsOf a e → P (as_call e.1))
    → All (IsOf a) es → All P (calls_in es)
All-calls_in P a es f of =
    All-map P as_call (values_of es)
    (All-map (λ c. P (as_call c)) (λ e. e.1) es (All-weaker (IsOf a) (λ e. P (as_call e.1)) f es of))

-- calls that stand under greater serials are of greater ones
greater : (a s : ℕ) (es : Entries) → All (IsOf a) es → AllByRecursion (λ k. nat_cmp s k ≡ Less) (keys_of es)
    → All (λ c. s < c.holder.serial) (calls_in es)
greater a s [] of above = All-nil (λ c. s < c.holder.serial)
greater a s (e ∷ es) of above =
    All-cons (λ c. s < c.holder.serial) (as_call e.1) (calls_in es)
    (omega (
      arith,
      less_than s e.0 above.0,
      ap (λ (p : Process). p.serial) (All-head (IsOf a) e es of).0,
    )) (greater a s es (All-tail (IsOf a) e es of) above.1)

rising_in : (a : ℕ) (es : Entries) → All (IsOf a) es → IsStrictlySortedBy nat_cmp (keys_of es)
    → AllPairs (λ c d. c.holder.serial < d.holder.serial) (calls_in es)
rising_in a [] of rising = λ i j d l m. absurd (omega arith)
rising_in a (e ∷ es) of rising =
    let under : e.1.holder.serial ≡ e.0 = ap (λ (p : Process). p.serial) (All-head (IsOf a) e es of).0 in
    AllPairs-cons (λ c d. c.holder.serial < d.holder.serial) (as_call e.1) (calls_in es)
    (All-weaker (λ c. e.0 < c.holder.serial) (λ c. e.1.holder.serial < c.holder.serial) (λ c l. omega arith)
    (calls_in es) (greater a e.0 es (All-tail (IsOf a) e es of) (sorted_head nat_cmp e.0 (keys_of es) rising)))
    (rising_in a es (All-tail (IsOf a) e es of) (sorted_tail nat_cmp e.0 (keys_of es) rising))

pub ordered_in : (a : ℕ) (es : Entries) (h : LockCallsState) → record { node = a; calls = values_of es } ≡ h
    → All (IsOf a) es → IsStrictlySortedBy nat_cmp (keys_of es) → AreOrdered h.node (seen h)
ordered_in a es h view of rising = subst (λ (k : LockCallsState). AreOrdered k.node (seen k)) view (record {
  own = All-calls_in (λ c. c.holder.node ≡ a) a es (λ e i. ap (λ (p : Process). p.node) i.0) of;
  live = All-calls_in (λ c. 0 < c.holder.serial) a es
      (λ e i. omega (arith, i.1, ap (λ (p : Process). p.serial) i.0)) of;
  rising = rising_in a es of rising;
})
