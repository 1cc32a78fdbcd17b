-- The first grant from a slot on, and the grants of a holder or of a node.
use Rattle.std.proofs.Common.{ℕ, Bool, true, false, ◌==◌, ◌≡◌, ◌<◌, ◌≤◌, List, Option, Some, None, refl, sym, ap, ◌∙◌, subst, inl, inr, arith, nat_cmp, Ordering}
use Rattle.std.specs.Prelude.{All, IsSome}
use Rattle.std.specs.List.{IsDistinct}
use Rattle.std.specs.Map.{keys_of}
use Rattle.std.specs.Ordering.{is_gt, ordering_then}
use Rattle.std.specs.declared.cmp.Ordering.TheVariants.{Less, Equal, Greater}
use Rattle.std.proofs.lemmas.Bool.{cases_order, eqb-true, eq-eqb, lt-ltb, le-ltb}
use Rattle.std.proofs.lemmas.Cmp.{ranked}
use Rattle.std.proofs.lemmas.List.Elements.{All-weaker}
use Rattle.registry_model.specs.Process.{Process, Text, is_process}
use Rattle.lock_table.specs.declared.grant.Key.{Key}
use Rattle.lock_table.specs.declared.slots.Slot.{Slot}
use Rattle.lock_table.specs.Filed.{Entry, held_at, is_key}
use Rattle.lock_table.specs.Grants.{IsHeld}
use Rattle.lock_table.specs.Index.{IsFirstFrom, IsFrom, IsIndexed, IsNoneFrom, Place, Places, at_slot, place_at, resource_at, slot_at, slots_of}
use Rattle.lock_table.proofs.Changes.{same_process}
use Rattle.lock_table.proofs.Keys.{All-held}

nat_equal : (a b : ℕ) → a ≡ b → nat_cmp a b ≡ Equal
nat_equal a b same = rw (le-ltb a b (omega (arith, same)), eq-eqb a b same) refl

nat_less : (a b : ℕ) → a < b → nat_cmp a b ≡ Less
nat_less a b l = rw (lt-ltb a b l) refl

from_serial : (a b : Slot) → IsFrom a b → a.serial ≤ b.serial
from_serial a b h = go (nat_cmp a.serial b.serial) refl h
  where
    go : (o : Ordering) → nat_cmp a.serial b.serial ≡ o → is_gt (ordering_then o (nat_cmp a.number b.number)) ≡ false
        → a.serial ≤ b.serial
    go Less e g = let l : a.serial < b.serial = ranked a.serial b.serial Less (sym e) in omega (arith, l)
    go Equal e g = let l : a.serial ≡ b.serial = ranked a.serial b.serial Equal (sym e) in omega (arith, l)
    go Greater e g = cc

zero_first : (n : ℕ) → is_gt (nat_cmp 0 n) ≡ false
zero_first n = elim (cases_order 0 n) [
  | inl i ↦ ap is_gt (nat_equal 0 n i)
  | inr (inl l) ↦ ap is_gt (nat_less 0 n l)
  | inr (inr g) ↦ absurd (omega (arith, g))
]

-- all that stands from the serial on comes from the first slot of that serial on
begins : (serial : ℕ) (q : Slot) → serial ≤ q.serial → IsFrom (slot_at serial 0) q
begins serial q most = elim (cases_order serial q.serial) [
  | inl same ↦
      ap (λ (o : Ordering). is_gt (ordering_then o (nat_cmp 0 q.number))) (nat_equal serial q.serial same)
      ∙ zero_first q.number
  | inr (inl l) ↦
      ap (λ (o : Ordering). is_gt (ordering_then o (nat_cmp 0 q.number))) (nat_less serial q.serial l)
  | inr (inr g) ↦ absurd (omega (arith, g, most))
]

-- What is filed, and where it stands
module _ (m : List Entry) (x : Places) (once : IsDistinct is_key (keys_of m)) (placed : IsIndexed m x) where
  -- what stands somewhere is filed
  pub held_from : (d : ℕ) (a : Slot) (k : Key) → IsFirstFrom x d a k → IsHeld k m
  held_from d a k first =
      let h = placed.filed (place_at k.holder first.1) k.resource
      (ap (λ (e : ℕ). at_slot (slots_of e x) (slot_at k.holder.serial first.1)) first.0 ∙ first.2) in (h.0, h.1)

  -- where nothing stands of some holders, they have no grants
  module _ (test : Process → Bool) where
    abbrev NoneHolds : Type 0
    NoneHolds = All (λ (e : Entry). test e.0.holder ≡ false) m

    unheld : ((q : Place) → test q.holder ≡ true → resource_at x q ≡ None) → NoneHolds
    unheld none =
        All-weaker (λ (e : Entry). held_at m e.0 ≡ Some e.1) (λ (e : Entry). test e.0.holder ≡ false)
        one m (All-held m once)
      where
        one : (e : Entry) → held_at m e.0 ≡ Some e.1 → test e.0.holder ≡ false
        one e f = go (test e.0.holder) refl
          where
            go : (b : Bool) → test e.0.holder ≡ b → test e.0.holder ≡ false
            go true i = absurd (cc (none (place_at e.0.holder e.1.number) i, placed.placed e.0 e.1 f))
            go false i = i

  -- of one holder
  module _ (h : Process) where
    unheld_of : ((n : ℕ) → at_slot (slots_of h.node x) (slot_at h.serial n) ≡ None)
        → All (λ (e : Entry). is_process e.0.holder h ≡ false) m
    unheld_of none =
        unheld (λ p. is_process p h)
        (λ q i.
        ap (λ (p : Process). at_slot (slots_of p.node x) (slot_at p.serial q.number)) (same_process q.holder h i)
        ∙ none q.number)

    pub none_of : IsNoneFrom x h.node (slot_at h.serial 0) → All (λ (e : Entry). is_process e.0.holder h ≡ false) m
    none_of none = unheld_of (λ n. none (slot_at h.serial n) (begins h.serial (slot_at h.serial n) (omega arith)))

    -- of the first grant from the holder's serial on, whose serial is a; the holder's is b
    module _ (k : Key) (first : IsFirstFrom x h.node (slot_at h.serial 0) k) (a b : ℕ) (its : a ≡ k.holder.serial)
        (own : b ≡ h.serial) where
      pub held_of-first : a ≡ b → IsHeld k m × (k.holder ≡ h)
      held_of-first same = (
        held_from h.node (slot_at h.serial 0) k first,
        same_process k.holder h
            (rw (
              eq-eqb k.holder.node h.node first.0,
              eq-eqb k.holder.serial h.serial (sym its ∙ same ∙ own),
            ) refl),
      )

      pub none_of-first : (a ≡ b → ⊥) → All (λ (e : Entry). is_process e.0.holder h ≡ false) m
      none_of-first other = unheld_of (λ n. go n (at_slot (slots_of h.node x) (slot_at h.serial n)) refl)
        where
          go : (n : ℕ) (o : Option Text) → at_slot (slots_of h.node x) (slot_at h.serial n) ≡ o
              → at_slot (slots_of h.node x) (slot_at h.serial n) ≡ None
          go n None e = e
          go n (Some r) e =
              let some : IsSome (at_slot (slots_of h.node x) (slot_at h.serial n)) =
              subst (λ (o : Option Text). IsSome o) (sym e) refl in
              let least : h.serial ≤ k.holder.serial =
              from_serial (slot_at h.serial 0) (slot_at k.holder.serial first.1) first.3 in
              let most : k.holder.serial ≤ h.serial =
              from_serial (slot_at k.holder.serial first.1) (slot_at h.serial n)
              (first.4 (slot_at h.serial n) (begins h.serial (slot_at h.serial n) (omega arith)) some) in
              absurd (other (omega (arith, least, most, its, own)))

  -- of one node
  pub none_on : (d : ℕ) → IsNoneFrom x d (slot_at 0 0) → All (λ (e : Entry). (e.0.holder.node == d) ≡ false) m
  none_on d none =
      unheld (λ p. p.node == d)
      (λ q i.
      let s = slot_at q.holder.serial q.number in
      ap (λ (e : ℕ). at_slot (slots_of e x) s) (eqb-true q.holder.node d i) ∙ none s (begins 0 s (omega arith)))
