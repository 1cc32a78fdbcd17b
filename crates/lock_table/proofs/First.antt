-- A first grant is filed and listed.
use Rattle.std.proofs.Common.{ℕ, suc, Bool, true, false, ◌==◌, ◌≡◌, ◌<◌, ◌≤◌, ◌+◌, Option, Some, None, List, [], ◌∷◌, ◌++◌, length, get_or, refl, sym, ap, subst, ◌∙◌, arith}
use Rattle.std.specs.Prelude.{◌||◌, All, Contains}
use Rattle.std.specs.List.{IsDistinct, list_any}
use Rattle.std.specs.Map.{keys_of}
use Rattle.std.proofs.lemmas.Bool.{eqb-true}
use Rattle.std.proofs.lemmas.Cmp.{nat_eq_equiv}
use Rattle.std.proofs.lemmas.List.{map-append, length-map}
use Rattle.std.proofs.lemmas.List.Elements.{All-contains, All-head, All-push, All-tail, All-weaker}
use Rattle.std.proofs.lemmas.List.Sorted.{All-permutation, IsPermutation-map}
use Rattle.std.proofs.lemmas.Map.{NonePasses, none_passes_from_lookup}
use Rattle.std.proofs.lemmas.Map.Keys.{IsDistinct-push, IsDistinct-IsPermutation}
use Rattle.std.proofs.lemmas.Map.Steps.{length-le_from_distinct_below}
use Rattle.std.proofs.lemmas.Map.Views.{Contains-from_lookup}
use Rattle.registry_model.specs.Process.{Text}
use Rattle.protocol_model.specs.LockTable.{Grant, is_in_the_way}
use Rattle.term.specs.declared.lock_id.LockId.{LockId}
use Rattle.lock_table.specs.declared.grant.Key.{Key}
use Rattle.lock_table.specs.declared.grant.Held.{Held}
use Rattle.lock_table.specs.Filed.{Entry, IsFiled, first_grant, grant_of, held_at, is_key, listed, numbers_of}
use Rattle.lock_table.specs.Grants.{Gains, IsFreeFor}
use Rattle.lock_table.specs.Index.{is_under}
use Rattle.lock_table.specs.Sound.{IsSound}
use Rattle.lock_table.proofs.Filing.{is_in_the_way-entry, never-absent}
use Rattle.lock_table.proofs.Keys.{exact, is_key_self, key_laws}
use Rattle.lock_table.proofs.Listed.{listed-all, listed-permuted, listed-push, once-permuted}
use Rattle.lock_table.proofs.Removal.{is_under-entry}
use Rattle.lock_table.proofs.Soundness.{sound-push}

-- a number that is there is below n
below_any : (n : ℕ) (es : List Entry) → All (λ (e : Entry). e.1.number < n) es → (j : ℕ)
    → list_any (λ b. j == b) (numbers_of es) ≡ true → j < n
below_any n [] below j h = absurd (cc h)
below_any n (e ∷ es) below j h =
    go (j == e.1.number) refl h (below_any n es (All-tail (λ (x : Entry). x.1.number < n) e es below) j)
  where
    go : (b : Bool) → (j == e.1.number) ≡ b → (b || list_any (λ c. j == c) (numbers_of es)) ≡ true
        → (list_any (λ c. j == c) (numbers_of es) ≡ true → j < n) → j < n
    go true i f rest =
        subst (λ (a : ℕ). a < n) (sym (eqb-true j e.1.number i))
        (All-head (λ (x : Entry). x.1.number < n) e es below)
    go false i f rest = rest f

-- where nothing passes, none is found
none_any : (k : Key) (es : List Entry) → NonePasses (is_key k) es → list_any (is_key k) (keys_of es) ≡ false
none_any k [] h = refl
none_any k (e ∷ es) h = rw (h.0) (none_any k es h.1)

module _ (n : ℕ) (m : List Entry) (filed : IsFiled n m) where
  -- there are no more grants than numbers below the next
  pub few : length m ≤ n
  few =
      let numbers = length-le_from_distinct_below (numbers_of m) n filed.numbered_once
      (below_any n m filed.below) in
      omega (arith, numbers, length-map m (λ (e : Entry). e.1.number))

  module _ (k : Key) (q : Text) (absent : All (λ (g : Grant). is_under k g ≡ false) (listed n m))
      (free : All (λ (g : Grant). is_in_the_way (first_grant k q).id g ≡ false) (listed n m)) where
    abbrev First : Held
    First = record { requester = q; count = 1; number = n }

    abbrev Lock : LockId
    Lock = record { resource = k.resource; requester = q }

    abbrev More : List Entry
    More = m ++ (k, First) ∷ []

    pub held-none : held_at m k ≡ None
    held-none = go (held_at m k) refl
      where
        go : (o : Option Held) → held_at m k ≡ o → held_at m k ≡ None
        go None e = e
        go (Some v) e =
            let at : Contains (listed n m) (grant_of (k, v)) =
            All-contains (λ (x : Entry). Contains (listed n m) (grant_of x)) m (k, v) (listed-all n m filed.below)
            (Contains-from_lookup exact k v m e) in
            let no = All-contains (λ (g : Grant). is_under k g ≡ false) (listed n m) (grant_of (k, v)) absent at in
            absurd (cc (no, is_under-entry k (k, v), is_key_self k))

    pub entries_free : IsFreeFor k.resource q m
    entries_free i d l =
        sym (is_in_the_way-entry Lock (get_or m i d))
        ∙ All-contains (λ (g : Grant). is_in_the_way (first_grant k q).id g ≡ false) (listed n m)
        (grant_of (get_or m i d)) free (listed-all n m filed.below i d l)

    listed-first : listed (n + 1) More ≡ listed n m ++ first_grant k q ∷ []
    listed-first =
        let next : n + 1 ≡ suc n = omega arith in
        ap (λ (j : ℕ). listed j More) next ∙ listed-push k First m filed.below

    number_new : list_any (λ b. n == b) (numbers_of m) ≡ false
    number_new = go (list_any (λ b. n == b) (numbers_of m)) refl
      where
        go : (b : Bool) → list_any (λ c. n == c) (numbers_of m) ≡ b → list_any (λ c. n == c) (numbers_of m) ≡ false
        go true i = let l = below_any n m filed.below n i in absurd (omega (arith, l))
        go false i = i

    filed-first : IsFiled (n + 1) More
    filed-first = record {
      once = subst (IsDistinct is_key) (sym (map-append (λ (e : Entry). e.0) m ((k, First) ∷ [])))
          (IsDistinct-push key_laws (keys_of m) k filed.once
          (none_any k m (none_passes_from_lookup (is_key k) m held-none)));
      numbered_once = subst (IsDistinct (λ a b. a == b))
          (sym (map-append (λ (e : Entry). e.1.number) m ((k, First) ∷ [])))
          (IsDistinct-push nat_eq_equiv (numbers_of m) n filed.numbered_once number_new);
      below = All-push (λ (x : Entry). x.1.number < n + 1) m (k, First)
          (All-weaker (λ (x : Entry). x.1.number < n) (λ (x : Entry). x.1.number < n + 1)
          (λ x l. omega (arith, l)) m filed.below) (omega arith);
      sound = subst IsSound (sym listed-first)
          (sound-push (first_grant k q).id k.holder (listed n m) filed.sound free
          (never-absent n m filed Lock k.holder held-none));
    }

    -- in whatever order
    module _ (es : List Entry) (gains : Gains (k, First) m es) where
      pub listed-gained : listed (n + 1) es ≡ listed n m ++ first_grant k q ∷ []
      listed-gained = sym (listed-permuted (n + 1) More es gains filed-first.numbered_once) ∙ listed-first

      pub filed-gained : IsFiled (n + 1) es
      filed-gained = record {
        once = IsDistinct-IsPermutation is_key key_laws.symm (keys_of More) (keys_of es)
            (IsPermutation-map (λ (e : Entry). e.0) More es gains) filed-first.once;
        numbered_once = once-permuted More es gains filed-first.numbered_once;
        below = All-permutation (λ (x : Entry). x.1.number < n + 1) More es gains filed-first.below;
        sound = subst IsSound (listed-permuted (n + 1) More es gains filed-first.numbered_once) filed-first.sound;
      }
