-- What is said of whom.
use Rattle.std.specs.Prelude.{ℕ, Bool, true, false, not, nat_lt, ◌≡◌, ◌&&◌, List, is_some}
use Rattle.std.specs.BTreeMap.{BTreeMap, btree_map_len, get}
use Rattle.std.specs.Ordering.{nat_cmp, ordering_then}
use Rattle.std.specs.declared.cmp.Ordering.{Ordering}
use Rattle.registry_model.specs.Process.{Process}
use Rattle.term.specs.declared.limits.TheConstants.{MOST_DESCRIPTIONS}
use Rattle.descriptions.specs.declared.descriptions.DescriptionFault.{DescriptionFault}
use Rattle.descriptions.specs.declared.descriptions.DescriptionFault.TheVariants.{TooMany, Memory}

-- by node, then by serial
abbrev pub process_cmp : Process → Process → Ordering
process_cmp p q = ordering_then (nat_cmp p.node q.node) (nat_cmp p.serial q.serial)

-- the description of each process that has one
abbrev pub Texts : Type 0
Texts = BTreeMap Process (List ℕ)

-- there is no place for one of this process: it has none, and as many others have one as may
abbrev pub lacks_place : Process → Texts → Bool
lacks_place p texts = not (nat_lt (btree_map_len texts) MOST_DESCRIPTIONS) && not (is_some (get process_cmp texts p))

-- why none is taken up, by whether there is no place
abbrev pub RefusesMore : DescriptionFault → Bool → Type 0
RefusesMore TooMany full = full ≡ true
RefusesMore Memory full = full ≡ false
