-- How many spans there are.
use Rattle.std.proofs.Common.{ℕ, Bool, true, false, ◌==◌, ◌≡◌, ◌+◌, Option, Some, None, List, [], ◌∷◌, length, refl, sym, ap, ◌∙◌, subst, inl, inr, arith, nat_cmp}
use Rattle.std.specs.Prelude.{◌&&◌, not, is_some, nat_eq}
use Rattle.std.specs.BTreeMap.{is_at}
use Rattle.std.specs.List.{IsDistinct, list_any}
use Rattle.std.specs.List.Sorted.{IsStrictlySortedBy}
use Rattle.std.specs.Map.{keys_of, lookup}
use Rattle.std.specs.Set.{distinct_count, is_member}
use Rattle.std.proofs.lemmas.Bool.{cases_eq, eq-eqb, eqb-true, ne_eqb}
use Rattle.std.proofs.lemmas.Cmp.{nat_eq_equiv}
use Rattle.std.proofs.lemmas.Map.Entries.{length-keys_of}
use Rattle.std.proofs.lemmas.Map.Keys.{IsDistinct-from_apart, below_from_sorted}
use Rattle.std.proofs.lemmas.Map.Made.{is_member-filter, is_some-lookup, length-from_keys}
use Rattle.exit_watch.specs.Spans.{AreApart, AreSpanned, IsSpan, Spans, ends}
use Rattle.exit_watch.proofs.Keys.{any-at}

-- a number equals another as the other equals it
turned : (q k : ℕ) → nat_eq q k ≡ (k == q)
turned q k = elim (cases_eq q k) [
  | inl i ↦ eq-eqb q k i ∙ sym (eq-eqb k q (sym i))
  | inr ne ↦ ne_eqb q k ne ∙ sym (ne_eqb k q (λ i. ne (sym i)))
]

any-turned : (ks : List ℕ) (q : ℕ) → list_any (nat_eq q) ks ≡ list_any (λ d. d == q) ks
any-turned [] q = refl
any-turned (k ∷ ks) q = rw (turned q k, any-turned ks q) refl

distinct : (ks : List ℕ) → IsStrictlySortedBy nat_cmp ks → IsDistinct nat_eq ks
distinct ks rising = IsDistinct-from_apart nat_eq ks (λ i j d less within.
    let below = below_from_sorted ks i j d rising less within in
    ne_eqb _ _ (λ e. absurd (omega (arith, below, e))))

module _ (m : Spans) (dead : List ℕ) (apart : AreApart m) (spanned : AreSpanned m dead) where
  abbrev is_dead : ℕ → Bool
  is_dead x = list_any (λ d. d == x) dead

  -- the next serial behind a span isn't dead
  alive_behind : (f q : ℕ) → IsSpan m f q → (b : Bool) → is_dead (q + 1) ≡ b → b ≡ false
  alive_behind f q span true e =
      let c = spanned.covered (q + 1) e in
      let high = c.high in
      let far = apart.apart f q c.first c.last span c.span (omega (arith, high)) in
      absurd (omega (arith, far, c.low))
  alive_behind f q span false e = refl

  ends_at : (f q : ℕ) → IsSpan m f q → (is_dead q && not (is_dead (q + 1))) ≡ true
  ends_at f q span =
      let low = apart.ordered f q span in
      let died = spanned.died q (record { first = f; last = q; span = span; low = low; high = omega arith }) in
      rw (died, alive_behind f q span (is_dead (q + 1)) refl) refl

  ends_not : (q : ℕ) → lookup (is_at (nat_cmp q)) m ≡ None → (a b : Bool) → is_dead q ≡ a → is_dead (q + 1) ≡ b
      → (a && not b) ≡ false
  ends_not q none false b e f = refl
  ends_not q none true true e f = refl
  ends_not q none true false e f =
      let c = spanned.covered q e in
      absurd (elim (cases_eq c.last q) [
        | inl same ↦ cc (subst (λ (l : ℕ). IsSpan m c.first l) same c.span, none)
        | inr ne ↦
            let low = c.low in
            let high = c.high in
            cc (
              f,
              spanned.died (q + 1)
                  (record { first = c.first; last = c.last; span = c.span; low = omega arith; high = omega arith }),
            )
      ])

  ends_where : (q : ℕ) (o : Option ℕ) → lookup (is_at (nat_cmp q)) m ≡ o
      → is_some o ≡ (is_dead q && not (is_dead (q + 1)))
  ends_where q None e = sym (ends_not q e (is_dead q) (is_dead (q + 1)) refl refl)
  ends_where q (Some f) e = sym (ends_at f q e)

  -- spans end with the dead behind whom the next serial isn't dead
  same_ends : (q : ℕ) → is_member nat_eq (keys_of m) q ≡ is_member nat_eq (ends dead) q
  same_ends q =
      let alive : ℕ → Bool = λ s. not (is_dead (s + 1)) in
      any-turned (keys_of m) q ∙ sym (any-at (keys_of m) q) ∙ sym (is_some-lookup (is_at (nat_cmp q)) m)
      ∙ ends_where q (lookup (is_at (nat_cmp q)) m) refl
      ∙ ap (λ (b : Bool). b && alive q) (sym (any-turned dead q))
      ∙ sym (is_member-filter nat_eq_equiv alive q (λ x e. ap alive (eqb-true q x e)) dead)

  pub counted : IsStrictlySortedBy nat_cmp (keys_of m) → length m ≡ distinct_count nat_eq (ends dead)
  counted rising =
      sym (length-keys_of m)
      ∙ length-from_keys nat_eq_equiv (keys_of m) (ends dead) (distinct (keys_of m) rising) same_ends
