-- The tests of std's sets, as those of the protocol's watch.
use Rattle.std.proofs.Common.{ℕ, Bool, true, false, ◌==◌, ◌≡◌, List, [], ◌∷◌, refl, sym, ap, ◌∙◌, inl, inr, arith, length, ◌<◌, ◌≤◌, is_gt, nat_cmp, BTreeSet, Ordering}
use Rattle.std.specs.Prelude.{◌||◌, cond, nat_lt}
use Rattle.std.specs.List.{list_any, AllZip}
use Rattle.std.specs.BTreeMap.{is_at}
use Rattle.std.specs.BTreeSet.{contains, insert_key}
use Rattle.std.specs.Ordering.{is_eq, match_ordering}
use Rattle.std.specs.Set.{remove_key}
use Rattle.std.specs.declared.cmp.Ordering.TheVariants.{Less, Equal, Greater}
use Rattle.std.proofs.lemmas.Bool.{cases_lt, ne_eqb, le-ltb}
use Rattle.std.proofs.lemmas.List.{map-id}
use Rattle.std.proofs.lemmas.Slice.Zip.{AllZip-map}
use Rattle.exit_watch.proofs.Keys.{any-at, at_is, at_self}

-- who isn't greater is less, or the same
pub not_greater : (s r : ℕ) → is_gt (nat_cmp s r) ≡ false → s ≤ r
not_greater s r h = elim (cases_lt r s) [
  | inl l ↦ absurd (go (le-ltb s r (omega arith)) (ne_eqb s r (λ i. absurd (omega arith))))
  | inr l ↦ l
]
  where
    go : nat_lt s r ≡ false → (s == r) ≡ false → ⊥
    go a b = let k = rw (a, b) at h in cc

-- what an insertion leaves in a set
pub any-inserted : (old new : BTreeSet ℕ) (k : ℕ) →
    ((q : ℕ) → contains nat_cmp new q ≡ cond (is_at (nat_cmp k) q) true (contains nat_cmp old q)) →
    (q : ℕ) → list_any (λ d. d == q) new.keys ≡ ((q == k) || list_any (λ d. d == q) old.keys)
any-inserted old new k h q =
    sym (any-at new.keys q) ∙ h q ∙ ap (λ (b : Bool). cond b true (contains nat_cmp old q)) (at_is k q) ∙ go (q == k)
  where
    go : (b : Bool) → cond b true (contains nat_cmp old q) ≡ (b || list_any (λ d. d == q) old.keys)
    go true = refl
    go false = any-at old.keys q

-- a number that wasn't in a set is put there and taken again
pub taken_again : (ks : List ℕ) (q : ℕ) → list_any (is_at (nat_cmp q)) ks ≡ false →
    remove_key (is_at (nat_cmp q)) (insert_key nat_cmp ks q) ≡ ks
taken_again [] q h = ap (λ (b : Bool). cond b [] (q ∷ [])) (at_self q)
taken_again (k ∷ ks) q h = go (nat_cmp q k) refl (taken_again ks q)
  where
    absent : (o : Ordering) → nat_cmp q k ≡ o → (is_eq o || list_any (is_at (nat_cmp q)) ks) ≡ false
    absent o e = sym (ap (λ (p : Ordering). is_eq p || list_any (is_at (nat_cmp q)) ks) e) ∙ h

    go : (o : Ordering) → nat_cmp q k ≡ o →
        (list_any (is_at (nat_cmp q)) ks ≡ false → remove_key (is_at (nat_cmp q)) (insert_key nat_cmp ks q) ≡ ks) →
        remove_key (is_at (nat_cmp q)) (match_ordering o (q ∷ k ∷ ks) (k ∷ ks) (k ∷ insert_key nat_cmp ks q)) ≡ k ∷ ks
    go Less e again = ap (λ (b : Bool). cond b (k ∷ ks) (q ∷ remove_key (is_at (nat_cmp q)) (k ∷ ks))) (at_self q)
    go Equal e again = absurd (cc (absent Equal e))
    go Greater e again =
        ap (λ (o : Ordering). cond (is_eq o) (insert_key nat_cmp ks q)
        (k ∷ remove_key (is_at (nat_cmp q)) (insert_key nat_cmp ks q))) e
        ∙ ap (λ (xs : List ℕ). k ∷ xs) (again (absent Greater e))

-- in an empty list is no number
pub any-empty : (ks : List ℕ) (q : ℕ) → (0 < length ks → ⊥) → list_any (λ d. d == q) ks ≡ true → ⊥
any-empty [] q e h = cc
any-empty (k ∷ ks) q e h = e (omega arith)

-- a list of the same numbers
pub same_numbers : (xs ys : List ℕ) → AllZip (λ x y. y ≡ x) xs ys → ys ≡ xs
same_numbers xs ys h = AllZip-map (λ x. x) xs ys h ∙ map-id xs
