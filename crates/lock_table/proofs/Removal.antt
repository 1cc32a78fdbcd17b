-- What is filed under a key is taken away.
use Rattle.std.proofs.Common.{ℕ, suc, Bool, true, false, ◌==◌, ◌≡◌, ◌<◌, ◌+◌, ◌-◌, Option, Some, None, List, [], ◌∷◌, length, get_or, position, refl, sym, ap, subst, ◌∙◌, is_some, true≢false, arith, IsPermutation}
use Rattle.std.specs.Prelude.{if◌then◌else◌, not, filter, take, slice_set, All, Contains}
use Rattle.std.specs.List.{IsDistinct, position_or_len, swap_remove}
use Rattle.std.specs.Map.{keys_of}
use Rattle.std.specs.Option.{option_map_or}
use Rattle.std.proofs.lemmas.List.{get_or_default}
use Rattle.std.proofs.lemmas.List.Elements.{All-contains, All-tail}
use Rattle.std.proofs.lemmas.List.Sorted.{All-permutation, IsPermutation-map, IsPermutation-swap_remove}
use Rattle.std.proofs.lemmas.Map.{NonePasses, none_passes_from_lookup}
use Rattle.std.proofs.lemmas.Map.Entries.{none_past_head}
use Rattle.std.proofs.lemmas.Map.Keys.{IsDistinct-tail, IsDistinct-IsPermutation}
use Rattle.std.proofs.lemmas.Map.Views.{Contains-from_lookup}
use Rattle.indexmap.specs.IndexMap.{swap_remove_entry}
use Rattle.indexmap.proofs.MapLemmas.{Found-position, some_index}
use Rattle.lock_table.specs.declared.grant.Key.{Key}
use Rattle.lock_table.specs.declared.grant.Held.{Held}
use Rattle.lock_table.specs.Filed.{Entry, IsFiled, grant_of, held_at, is_key, listed, numbers_of}
use Rattle.lock_table.specs.Grants.{Gone, IsHeld, Loses}
use Rattle.lock_table.specs.Index.{IsListedUnder, is_under}
use Rattle.lock_table.specs.Sound.{IsSound}
use Rattle.lock_table.proofs.Ids.{resource_of-id_of}
use Rattle.lock_table.proofs.Keys.{exact, is_key_self, key_laws}
use Rattle.lock_table.proofs.Listed.{listed-all, listed-filter, listed-permuted, once-permuted}
use Rattle.lock_table.proofs.Soundness.{sound-filter}

-- a grant is of a key where it is filed under it
pub is_under-entry : (k : Key) (e : Entry) → is_under k (grant_of e) ≡ is_key k e.0
is_under-entry k e =
    rw (resource_of-id_of (record { resource = e.0.resource; requester = e.1.requester }), key_laws.symm k e.0) refl

-- The last entry comes in the place of the one that goes
module _ (k : Key) where
  passes : (es : List Entry) (i : ℕ) (d : Entry) → position_or_len (is_key k) (keys_of es) ≡ i → i < length es
      → is_key k (get_or es i d).0 ≡ true
  passes [] i d e l = absurd (omega (arith, l))
  passes (e ∷ es) i d at l = go (is_key k e.0) refl at (passes es (position_or_len (is_key k) (keys_of es)) d refl)
    where
      go : (b : Bool) → is_key k e.0 ≡ b
          → (if not b then 1 + position_or_len (is_key k) (keys_of es) else 0) ≡ i
          → (position_or_len (is_key k) (keys_of es) < length es
          → is_key k (get_or es (position_or_len (is_key k) (keys_of es)) d).0 ≡ true)
          → is_key k (get_or (e ∷ es) i d).0 ≡ true
      go true t j rest = subst (λ (h : ℕ). is_key k (get_or (e ∷ es) h d).0 ≡ true) j t
      go false t j rest =
          let next : suc (position_or_len (is_key k) (keys_of es)) ≡ i = omega (arith, j) in
          subst (λ (h : ℕ). is_key k (get_or (e ∷ es) h d).0 ≡ true) next (rest (omega (arith, j, l)))

  pub gone-swapped : (es : List Entry) (v : Held) → held_at es k ≡ Some v
      → Gone k es (swap_remove_entry (is_key k) es)
  gone-swapped [] v found = absurd (cc found)
  gone-swapped (e ∷ es) v found = go (position (is_key k) (keys_of (e ∷ es))) refl
    where
      go : (o : Option ℕ) → position (is_key k) (keys_of (e ∷ es)) ≡ o
          → Gone k (e ∷ es) (swap_remove_entry (is_key k) (e ∷ es))
      go None at =
          absurd (true≢false (sym (ap is_some found) ∙ sym (some_index (is_key k) (e ∷ es)) ∙ ap is_some at))
      go (Some i) at =
          let place = Found-position (is_key k) (e ∷ es) i at in
          let x : Entry = get_or (e ∷ es) i e in
          let swap : swap_remove (e ∷ es) i x ≡ swap_remove (e ∷ es) i e =
          ap (λ (y : Entry). take (length (e ∷ es) - 1) (slice_set (e ∷ es) i y))
          (get_or_default (e ∷ es) (length (e ∷ es) - 1) x e (omega arith)) in (
            x,
            passes (e ∷ es) i e place.or_len place.within,
            subst (λ (fs : List Entry). IsPermutation (e ∷ es) (x ∷ fs))
                (swap
                ∙ sym (ap (λ (o : Option ℕ). option_map_or (λ j. swap_remove (e ∷ es) j e) o (e ∷ es)) at))
                (IsPermutation-swap_remove (e ∷ es) i x place.within
                (get_or_default (e ∷ es) i e x place.within)),
          )

  filter-none : (es : List Entry) → NonePasses (is_key k) es → filter (λ e. not (is_key k e.0)) es ≡ es
  filter-none [] h = refl
  filter-none (e ∷ es) h = rw (h.0) (ap (λ (fs : List Entry). e ∷ fs) (filter-none es h.1))

  -- what is left of the list is what is of other keys
  pub listed-kept : (n : ℕ) (es : List Entry)
      → listed n (filter (λ e. not (is_key k e.0)) es) ≡ filter (λ g. not (is_under k g)) (listed n es)
  listed-kept n es =
      listed-filter (λ e. not (is_key k e.0)) (λ g. not (is_under k g)) n es
      (λ i d l. ap not (sym (is_under-entry k (get_or es i d))))

  module _ (n : ℕ) (es fs : List Entry) (filed : IsFiled n es) (gone : Gone k es fs) where
    once-moved : IsDistinct is_key (keys_of (gone.0 ∷ fs))
    once-moved =
        IsDistinct-IsPermutation is_key key_laws.symm (keys_of es) (keys_of (gone.0 ∷ fs))
        (IsPermutation-map (λ (e : Entry). e.0) es (gone.0 ∷ fs) gone.2) filed.once

    rest : filter (λ e. not (is_key k e.0)) (gone.0 ∷ fs) ≡ fs
    rest = rw gone.1 (filter-none fs (none_past_head key_laws k gone.0 fs once-moved gone.1))

    pub listed-removed : listed n fs ≡ filter (λ g. not (is_under k g)) (listed n es)
    listed-removed =
        sym (ap (listed n) rest) ∙ listed-kept n (gone.0 ∷ fs)
        ∙ ap (filter (λ g. not (is_under k g))) (sym (listed-permuted n es (gone.0 ∷ fs) gone.2 filed.numbered_once))

    pub filed-removed : IsFiled n fs
    filed-removed = record {
      once = IsDistinct-tail is_key gone.0.0 (keys_of fs) once-moved;
      numbered_once = IsDistinct-tail (λ a b. a == b) gone.0.1.number (numbers_of fs)
          (once-permuted es (gone.0 ∷ fs) gone.2 filed.numbered_once);
      below = All-tail (λ (e : Entry). e.1.number < n) gone.0 fs
          (All-permutation (λ (e : Entry). e.1.number < n) es (gone.0 ∷ fs) gone.2 filed.below);
      sound = subst IsSound (sym listed-removed) (sound-filter (λ g. not (is_under k g)) (listed n es) filed.sound);
    }

  -- nothing is there
  pub listed-kept_all : (n : ℕ) (es : List Entry) → held_at es k ≡ None
      → listed n es ≡ filter (λ g. not (is_under k g)) (listed n es)
  listed-kept_all n es absent =
      sym (ap (listed n) (filter-none es (none_passes_from_lookup (is_key k) es absent))) ∙ listed-kept n es

  -- what losing the key's grant, or none, leaves
  pub removed : (n : ℕ) (es fs : List Entry) → IsFiled n es → Loses k es fs
      → IsFiled n fs × (listed n fs ≡ filter (λ g. not (is_under k g)) (listed n es))
  removed n es fs filed loses = go (held_at es k) refl
    where
      go : (o : Option Held) → held_at es k ≡ o
          → IsFiled n fs × (listed n fs ≡ filter (λ g. not (is_under k g)) (listed n es))
      go None e =
          let same = loses.0 e in (
            subst (IsFiled n) (sym same) filed,
            ap (listed n) same ∙ listed-kept_all n es e,
          )
      go (Some v) e =
          let gone = loses.1 v e in (filed-removed n es fs filed gone, listed-removed n es fs filed gone)

-- what is filed under a key is listed under it
pub listed_under : (n : ℕ) (es : List Entry) → All (λ (e : Entry). e.1.number < n) es → (k : Key) → IsHeld k es
    → IsListedUnder k (listed n es)
listed_under n es below k h = (
  grant_of (k, h.0),
  All-contains (λ (y : Entry). Contains (listed n es) (grant_of y)) es (k, h.0)
      (listed-all n es below) (Contains-from_lookup exact k h.0 es h.1),
  is_under-entry k (k, h.0) ∙ is_key_self k,
)
