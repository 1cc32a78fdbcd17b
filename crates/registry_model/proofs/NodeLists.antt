-- The nodes of a set below a bound, listed.
use Rattle.std.proofs.Common.{ℕ, zero, suc, Bool, true, false, ◌≡◌, ◌<◌, List, [], ◌∷◌, ◌++◌, refl, sym, ap, subst, inl, inr, arith}
use Rattle.std.specs.Prelude.{Contains, if◌then◌else◌}
use Rattle.std.proofs.lemmas.Bool.{cases_eq}
use Rattle.std.proofs.lemmas.List.{append-nil}
use Rattle.std.proofs.lemmas.List.Elements.{Contains-get_or, Contains-push, Contains-push_cases, Contains-append_left}
use Rattle.std.proofs.lemmas.List.Quantifiers.{all_pairs_push}
use Rattle.registry_model.specs.Process.{Nodes, nodes_of}
use Rattle.registry_model.specs.SharedLaws.{AreNodesBelow}
use Rattle.registry_model.proofs.Lists.{Contains-nil}

none_below : (s : Nodes) → AreNodesBelow 0 s []
none_below s = record {
  below = λ c. (λ h. absurd (Contains-nil c h), λ h. absurd (omega (arith, h.0)));
  rising = λ i j d lt inside. absurd (omega (arith, inside));
}

-- n is one of them
with_last : (n : ℕ) (s : Nodes) (nodes : List ℕ) → s n ≡ true → AreNodesBelow n s nodes
    → AreNodesBelow (suc n) s (nodes ++ n ∷ [])
with_last n s nodes e are = record {
  below = λ c. (there c, back c);
  rising = all_pairs_push (λ c d. c < d) nodes n are.rising
      (λ k d inside. ((are.below _).0 (Contains-get_or nodes k d inside)).0);
}
  where
    there : (c : ℕ) → Contains (nodes ++ n ∷ []) c → (c < suc n) × (s c ≡ true)
    there c h = elim (Contains-push_cases nodes n c h) [
      | inl before ↦ let old : (c < n) × (s c ≡ true) = (are.below c).0 before in (omega (arith, old.0), old.1)
      | inr same ↦ subst (λ (x : ℕ). (x < suc n) × (s x ≡ true)) same (omega arith, e)
    ]

    back : (c : ℕ) → (c < suc n) × (s c ≡ true) → Contains (nodes ++ n ∷ []) c
    back c h = elim (cases_eq c n) [
      | inl same ↦ subst (λ (x : ℕ). Contains (nodes ++ n ∷ []) x) (sym same) (Contains-push nodes n)
      | inr other ↦
          let less : c < n = omega (arith, h.0, other) in
          Contains-append_left nodes (n ∷ []) c ((are.below c).1 (less, h.1))
    ]

-- n is none of them
without_last : (n : ℕ) (s : Nodes) (nodes : List ℕ) → s n ≡ false → AreNodesBelow n s nodes
    → AreNodesBelow (suc n) s nodes
without_last n s nodes e are = record { below = λ c. (there c, back c); rising = are.rising }
  where
    there : (c : ℕ) → Contains nodes c → (c < suc n) × (s c ≡ true)
    there c h = let old : (c < n) × (s c ≡ true) = (are.below c).0 h in (omega (arith, old.0), old.1)

    back : (c : ℕ) → (c < suc n) × (s c ≡ true) → Contains nodes c
    back c h = elim (cases_eq c n) [
      | inl same ↦ cc (ap s same, e, h.1)
      | inr other ↦ let less : c < n = omega (arith, h.0, other) in (are.below c).1 (less, h.1)
    ]

pub are_nodes_below : (n : ℕ) (s : Nodes) → AreNodesBelow n s (nodes_of n s)
are_nodes_below zero s = none_below s
are_nodes_below (suc n) s = go (s n) refl (are_nodes_below n s)
  where
    go : (b : Bool) → s n ≡ b → AreNodesBelow n s (nodes_of n s)
        → AreNodesBelow (suc n) s (nodes_of n s ++ (if b then n ∷ [] else []))
    go true e are = with_last n s (nodes_of n s) e are
    go false e are = subst (AreNodesBelow (suc n) s) (sym (append-nil (nodes_of n s)))
        (without_last n s (nodes_of n s) e are)
