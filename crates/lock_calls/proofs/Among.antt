-- Which calls stand among the filed ones once one is put or removed.
use Rattle.std.proofs.Common.{ℕ, Bool, ◌≡◌, Option, List, refl, sym, subst, inl, inr, nat_cmp}
use Rattle.std.specs.Prelude.{◌⊎◌, All, Contains, IfSome}
use Rattle.std.specs.BTreeMap.{insert_entry}
use Rattle.std.specs.List.{IsAmong}
use Rattle.std.specs.Map.{values_of, lookup, remove_entry}
use Rattle.std.proofs.lemmas.List.Elements.{All-weaker, All-contains_itself}
use Rattle.std.proofs.lemmas.Map.Views.{All-values-insert_entry, All-map-remove_entry, IfSome-lookup_from_All}
use Rattle.lock_calls.specs.declared.call.LockCall.{LockCall}
use Rattle.lock_calls.specs.LockCallsState.{LockCallsState}

-- each call is among its list
pub among_itself : (cs : List LockCall) → All (IsAmong cs) cs
among_itself cs =
    All-weaker (Contains cs) (IsAmong cs) (λ c m. (m.0, (m.1, sym m.2))) cs (All-contains_itself cs)

module _ (a : ℕ) (es : List (ℕ × LockCall)) (h : LockCallsState) (view : record { node = a; calls = values_of es } ≡ h) where
  -- filed calls are among those that they are seen as
  among_seen : All (IsAmong h.calls) (values_of es)
  among_seen = subst (λ (k : LockCallsState). All (IsAmong k.calls) (values_of es)) view (among_itself (values_of es))

  pub put_among : (s : ℕ) (c : LockCall) (new : List (ℕ × LockCall)) → new ≡ insert_entry nat_cmp es s c
      → All (λ d. (d ≡ c) ⊎ IsAmong h.calls d) (values_of new)
  put_among s c new is =
      let P : LockCall → Type 0 = λ d. (d ≡ c) ⊎ IsAmong h.calls d in
      subst (λ (k : List (ℕ × LockCall)). All P (values_of k)) (sym is)
      (All-values-insert_entry nat_cmp s c P es
      (All-weaker (IsAmong h.calls) P (λ d m. inr m) (values_of es) among_seen) (inl refl))

  pub removed_among : (test : ℕ → Bool) (new : List (ℕ × LockCall)) → new ≡ remove_entry test es
      → All (IsAmong h.calls) (values_of new)
  removed_among test new is =
      subst (λ (k : List (ℕ × LockCall)). All (IsAmong h.calls) (values_of k)) (sym is)
      (All-map-remove_entry test (λ e. e.1) (IsAmong h.calls) es among_seen)

  pub found_among : (test : ℕ → Bool) (o : Option LockCall) → o ≡ lookup test es → IfSome o (IsAmong h.calls)
  found_among test o is =
      subst (λ (k : Option LockCall). IfSome k (IsAmong h.calls)) (sym is)
      (IfSome-lookup_from_All (IsAmong h.calls) test es among_seen)
