-- Copied calls are filed as the calls are, and seen as they are.
use Rattle.std.proofs.Common.{ℕ, ◌≡◌, sym, subst, ◌∙◌, nat_cmp}
use Rattle.std.specs.Prelude.{All}
use Rattle.std.specs.BTreeMap.{BTreeMap, IsClone}
use Rattle.std.specs.List.Sorted.{IsStrictlySortedBy}
use Rattle.std.specs.Map.{keys_of, values_of}
use Rattle.std.proofs.Math.Path.{ap₂}
use Rattle.std.proofs.lemmas.Map.Entries.{entries_from_clone}
use Rattle.lock_calls.specs.declared.call.LockCall.{LockCall}
use Rattle.lock_calls.specs.LockCallsState.{LockCallsState, IsOf, IsFiled}
use Rattle.lock_calls.proofs.Ordered.{Entries}

-- Calls m of node a that are cloned one by one to n, and the node, which is copied to b
module _ (b a : ℕ) (same : b ≡ a) (n m : BTreeMap ℕ LockCall) (cloned : IsClone (λ s t. t ≡ s) (λ c d. d ≡ c) m n) where
  entries : n.entries ≡ m.entries
  entries =
      entries_from_clone (λ s t. t ≡ s) (λ c d. d ≡ c) (λ s t i. i) (λ c d i. i) m.entries n.entries cloned

  pub copied_filed : IsFiled a m → IsFiled b n
  copied_filed filed = record {
    of = subst (λ (k : ℕ). All (IsOf k) n.entries) (sym same) (subst (All (IsOf a)) (sym entries) filed.of);
    rising = subst (λ (es : Entries). IsStrictlySortedBy nat_cmp (keys_of es)) (sym entries) filed.rising;
  }

  pub copied_view : (h : LockCallsState) → record { node = a; calls = values_of m.entries } ≡ h
      → record { node = b; calls = values_of n.entries } ≡ h
  copied_view h view =
      ap₂ (λ (k : ℕ) (es : Entries). let kept : LockCallsState = record { node = k; calls = values_of es } in kept) same entries
      ∙ view
