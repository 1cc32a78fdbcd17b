-- What is filed, where it stands and who shares it, where all three were copied.
use Rattle.std.proofs.Common.{Bool, true, false, ◌==◌, ◌≡◌, Some, List, [], ◌∷◌, cond, refl, sym, ap, subst}
use Rattle.std.specs.BTreeMap.{is_at}
use Rattle.std.specs.List.{AllZip}
use Rattle.std.specs.Map.{lookup}
use Rattle.lock_table.specs.declared.slots.Slot.{Slot}
use Rattle.lock_table.specs.Filed.{Entry}
use Rattle.lock_table.specs.Index.{Places, Slots, StandsAs, at_slot, resource_at, slot_at, slot_cmp, slots_of}
use Rattle.lock_table.specs.Kept.{IsKept}
use Rattle.lock_table.specs.Sharers.{Shared}
use Rattle.lock_table.proofs.Keeping.{kept-same}

-- copies of the slots of each node have the same in each place
module _ (D : Slots → Slots → Type 0) (same : (t u : Slots) → D t u → u.entries ≡ t.entries) where
  pub copied_stands : (x y : Places) → AllZip (λ p q. (q.0 ≡ p.0) × D p.1 q.1) x y → StandsAs x y
  copied_stands [] [] a q = refl
  copied_stands [] (f ∷ y) a q = absurd a
  copied_stands (e ∷ x) [] a q = absurd a
  copied_stands (e ∷ x) (f ∷ y) a q = rw (a.0.0) (go (q.holder.node == e.0) (copied_stands x y a.1 q))
    where
      s : Slot
      s = slot_at q.holder.serial q.number

      go : (b : Bool) → resource_at y q ≡ resource_at x q
          → at_slot (cond b (Some f.1) (slots_of q.holder.node y)) s
          ≡ at_slot (cond b (Some e.1) (slots_of q.holder.node x)) s
      go true rest = ap (lookup (is_at (slot_cmp s))) (same e.1 f.1 a.0.1)
      go false rest = rest

-- the entries es, where they stand and who shares them, and their copies
pub copied_kept : (es fs : List Entry) (x y : Places) (s t : Shared) → fs ≡ es → StandsAs x y → t ≡ s → IsKept es x s
    → IsKept fs y t
copied_kept es fs x y s t filed placed shared kept =
    subst (λ (gs : List Entry). IsKept gs y t) (sym filed) (kept-same es x s kept y t placed shared)
