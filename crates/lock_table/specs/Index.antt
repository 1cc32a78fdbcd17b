-- Where the grants of each holder stand.
use Rattle.std.specs.Prelude.{ℕ, Bool, Option, List, cond, ◌≡◌, ◌==◌, ◌&&◌, true, false, Contains, Some, None, IsSome}
use Rattle.std.specs.BTreeMap.{BTreeMap, get}
use Rattle.std.specs.Map.{lookup}
use Rattle.std.specs.Ordering.{nat_cmp, ordering_then, is_gt}
use Rattle.std.specs.declared.cmp.Ordering.{Ordering}
use Rattle.registry_model.specs.Process.{Text, Process, is_process}
use Rattle.protocol_model.specs.LockTable.{Grant, Locks}
use Rattle.lock_table.specs.Filed.{Entry, held_at}
use Rattle.lock_table.specs.Ids.{resource_of}
use Rattle.lock_table.specs.declared.grant.Key.{Key}
use Rattle.lock_table.specs.declared.grant.Held.{Held}
use Rattle.lock_table.specs.declared.slots.Slot.{Slot}

-- a holder's grant of this number stands there
pub record Place : Type 0 where
  pub holder : Process
  pub number : ℕ

abbrev pub place_at : Process → ℕ → Place
place_at p n = record { holder = p; number = n }

-- of the same holder and number
abbrev pub is_place : Place → Place → Bool
is_place p q = is_process q.holder p.holder && (q.number == p.number)

abbrev pub slot_at : ℕ → ℕ → Slot
slot_at serial n = record { serial = serial; number = n }

-- by serial, then by number
abbrev pub slot_cmp : Slot → Slot → Ordering
slot_cmp a b = ordering_then (nat_cmp a.serial b.serial) (nat_cmp a.number b.number)

-- the resources of the grants of one node's processes
abbrev pub Slots : Type 0
Slots = BTreeMap Slot Text

-- the same of each node
abbrev pub Places : Type 0
Places = List (ℕ × Slots)

abbrev pub slots_of : ℕ → Places → Option Slots
slots_of d x = lookup (λ n. d == n) x

-- no grant stands at a node of which nothing is kept
abbrev pub at_slot : Option Slots → Slot → Option Text
at_slot None s = None
at_slot (Some t) s = get slot_cmp t s

abbrev pub resource_at : Places → Place → Option Text
resource_at x q = at_slot (slots_of q.holder.node x) (slot_at q.holder.serial q.number)

-- y has r at the place p, and at the other places what x has
abbrev pub SetsAt : Place → Option Text → Places → Places → Type 0
SetsAt p r x y = (q : Place) → resource_at y q ≡ cond (is_place p q) r (resource_at x q)

-- y has at each place what x has
abbrev pub StandsAs : Places → Places → Type 0
StandsAs x y = (q : Place) → resource_at y q ≡ resource_at x q

-- each grant stands once, at its holder and its number, and nothing else does
pub record IsIndexed (grants : List Entry) (places : Places) : Type 0 where
  pub placed : (k : Key) (v : Held) → held_at grants k ≡ Some v
      → resource_at places (place_at k.holder v.number) ≡ Some k.resource
  pub filed : (q : Place) (r : Text) → resource_at places q ≡ Some r
      → (v : Held) × (held_at grants (record { resource = r; holder = q.holder }) ≡ Some v) × (v.number ≡ q.number)

-- slot b is a or behind it
abbrev pub IsFrom : Slot → Slot → Type 0
IsFrom a b = is_gt (slot_cmp a b) ≡ false

-- the grant of this key stands there at the node, and none between
abbrev pub IsFirstFrom : Places → ℕ → Slot → Key → Type 0
IsFirstFrom x d a k =
    (k.holder.node ≡ d)
    × (n : ℕ) × (at_slot (slots_of d x) (slot_at k.holder.serial n) ≡ Some k.resource)
    × IsFrom a (slot_at k.holder.serial n)
    × ((q : Slot) → IsFrom a q → IsSome (at_slot (slots_of d x) q) → IsFrom (slot_at k.holder.serial n) q)

abbrev pub IsNoneFrom : Places → ℕ → Slot → Type 0
IsNoneFrom x d a = (q : Slot) → IsFrom a q → at_slot (slots_of d x) q ≡ None

-- the grant is of the key's resource and holder
abbrev pub is_under : Key → Grant → Bool
is_under k g = (resource_of g.id == k.resource) && is_process g.holder k.holder

abbrev pub IsListedUnder : Key → Locks → Type 0
IsListedUnder k t = (g : Grant) × Contains t g × (is_under k g ≡ true)
