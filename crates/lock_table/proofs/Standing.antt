-- What stands at each place after the slots of one node have changed.
use Rattle.std.proofs.Common.{ℕ, Bool, true, false, ◌==◌, ◌≡◌, Option, Some, None, [], cond, refl, sym, ap, ◌∙◌, nat_cmp}
use Rattle.std.specs.Prelude.{◌&&◌}
use Rattle.std.specs.BTreeMap.{get, is_at}
use Rattle.std.specs.Map.{lookup}
use Rattle.std.proofs.lemmas.Bool.{eqb-true, eq-eqb}
use Rattle.registry_model.specs.Process.{Process, Text}
use Rattle.lock_table.specs.declared.slots.Slot.{Slot}
use Rattle.lock_table.specs.Index.{Places, SetsAt, Slots, StandsAs, at_slot, is_place, place_at, resource_at, slot_at, slot_cmp, slots_of}
use Rattle.lock_table.proofs.Keys.{is_eq-nat, is_eq-then}

-- a slot is found where it has this serial and this number
is_at-slot : (s t : Slot) → is_at (slot_cmp s) t ≡ ((t.serial == s.serial) && (t.number == s.number))
is_at-slot s t =
    is_eq-then (nat_cmp s.serial t.serial) (nat_cmp s.number t.number)
    ∙ rw (is_eq-nat s.serial t.serial, is_eq-nat s.number t.number) refl

-- nothing stands where no slot is taken
at_empty : (t : Slots) (s : Slot) → t.entries ≡ [] → get slot_cmp t s ≡ None
at_empty t s empty = ap (lookup (is_at (slot_cmp s))) empty

-- u has w at the slot s, and at the other slots what o has
abbrev pub SetsSlot : Slot → Option Text → Option Slots → Option Slots → Type 0
SetsSlot s w o u = (t : Slot) → at_slot u t ≡ cond (is_at (slot_cmp s) t) w (at_slot o t)

-- the node d has the slots u in y, and each other node has what it has in x
abbrev pub SetsSlots : ℕ → Option Slots → Places → Places → Type 0
SetsSlots d u x y = (e : ℕ) → slots_of e y ≡ cond (d == e) u (slots_of e x)

module _ (x y : Places) (h : Process) (n : ℕ) (w : Option Text) (o u : Option Slots) where
  -- a slot of the node has changed
  pub sets_at : slots_of h.node x ≡ o → SetsSlot (slot_at h.serial n) w o u → SetsSlots h.node u x y
      → SetsAt (place_at h n) w x y
  sets_at was slot slots q = go (h.node == q.holder.node) refl (slots q.holder.node)
    where
      s : Slot
      s = slot_at q.holder.serial q.number

      go : (b : Bool) → (h.node == q.holder.node) ≡ b
          → slots_of q.holder.node y ≡ cond b u (slots_of q.holder.node x)
          → resource_at y q ≡ cond (is_place (place_at h n) q) w (resource_at x q)
      go true i f =
          let same : h.node ≡ q.holder.node = eqb-true h.node q.holder.node i in
          let before : at_slot o s ≡ resource_at x q =
          ap (λ (p : Option Slots). at_slot p s) (sym was ∙ ap (λ (e : ℕ). slots_of e x) same) in
          ap (λ (p : Option Slots). at_slot p s) f
          ∙ slot s
          ∙ rw (is_at-slot (slot_at h.serial n) s, eq-eqb q.holder.node h.node (sym same), before) refl
      go false i f = ap (λ (p : Option Slots). at_slot p s) f ∙ rw (other (q.holder.node == h.node) refl) refl
        where
          other : (b : Bool) → (q.holder.node == h.node) ≡ b → (q.holder.node == h.node) ≡ false
          other true j = absurd (cc (i, eq-eqb h.node q.holder.node (sym (eqb-true q.holder.node h.node j))))
          other false j = j

-- the slots of a node are there in another value
pub stands_as : (x y : Places) (d : ℕ) (t u : Slots) → slots_of d x ≡ Some t → u.entries ≡ t.entries
    → SetsSlots d (Some u) x y → StandsAs x y
stands_as x y d t u was same slots q = go (d == q.holder.node) refl (slots q.holder.node)
  where
    s : Slot
    s = slot_at q.holder.serial q.number

    go : (b : Bool) → (d == q.holder.node) ≡ b → slots_of q.holder.node y ≡ cond b (Some u) (slots_of q.holder.node x)
        → resource_at y q ≡ resource_at x q
    go true i f =
        ap (λ (p : Option Slots). at_slot p s) f
        ∙ ap (lookup (is_at (slot_cmp s))) same
        ∙ ap (λ (p : Option Slots). at_slot p s)
        (sym was ∙ ap (λ (e : ℕ). slots_of e x) (eqb-true d q.holder.node i))
    go false i f = ap (λ (p : Option Slots). at_slot p s) f

-- the first slot of a node is taken
pub slot_first : (s : Slot) (w : Option Text) (t u : Slots) → t.entries ≡ [] → SetsSlot s w (Some t) (Some u)
    → SetsSlot s w None (Some u)
slot_first s w t u empty slot q = slot q ∙ ap (cond (is_at (slot_cmp s) q) w) (at_empty t q empty)

pub slots_first : (d e : ℕ) (u : Slots) (x b y : Places) → e ≡ d → b ≡ x → SetsSlots e (Some u) b y
    → SetsSlots d (Some u) x y
slots_first d e u x b y same kept slots n = slots n ∙ rw (same, kept) refl

-- the last slot of a node is left, and the node is forgotten
pub slot_last : (s : Slot) (w : Option Text) (o : Option Slots) (u : Slots) → u.entries ≡ [] → SetsSlot s w o (Some u)
    → SetsSlot s w o None
slot_last s w o u empty slot q = sym (at_empty u q empty) ∙ slot q

pub slots_last : (d : ℕ) (u : Slots) (x b y : Places) → SetsSlots d (Some u) x b → SetsSlots d None b y
    → SetsSlots d None x y
slots_last d u x b y first second e = go (d == e) (first e) (second e)
  where
    go : (i : Bool) → slots_of e b ≡ cond i (Some u) (slots_of e x) → slots_of e y ≡ cond i None (slots_of e b)
        → slots_of e y ≡ cond i None (slots_of e x)
    go true f g = g
    go false f g = g ∙ f
