-- What the loop of a node comes to from one moment to a later one.
use Rattle.std.specs.Prelude.{◌≡◌, ◌⊎◌, ◌<◌, ℕ, zero, suc, Option}
use mathlib.Core.List.{IsPrefix}
use Rattle.node_loop.specs.Held.{Looping, Written}
use Rattle.node_loop.specs.Coming.{Turns, HandsOut, HandsOver}
use Rattle.node_loop.specs.declared.edit.Update.{Update}
use Rattle.node_loop.specs.Owing.{shown_by, Owes, TakesUpdate}

-- so many turns, replies handed out, and what is owed handed over lead from a to b
abbrev pub Leads : ℕ → Looping → Looping → Type 0
Leads zero a b = b ≡ a
Leads (suc n) a b = (c : Looping) × Leads n a c × (Turns c b ⊎ HandsOut c b ⊎ HandsOver c b)

-- b is what the loop a comes to
pub record ComesFrom (a b : Looping) : Type 0 where
  pub moves : ℕ
  pub leads : Leads moves a b

-- it is the log of the same node, and begins with all that this one has
pub record Extends (a b : Written) : Type 0 where
  pub node : b.node ≡ a.node
  pub entries : IsPrefix a.entries b.entries

-- whatever a loop comes to, its log begins with the loop's
abbrev pub LogsOnlyGrow : Type 0
LogsOnlyGrow = (a b : Looping) → ComesFrom a b → Extends a.log b.log

-- readers are shown the same, or more
abbrev pub ShowsMore : Looping → Looping → Type 0
ShowsMore a b = (shown_by b ≡ shown_by a) ⊎ (a.owed.length < b.owed.length)

-- where what a loop owes its readers is what leads from what another showed to what it shows, it shows the same, or more
abbrev pub OwedIsMore : Type 0
OwedIsMore = (a b : Looping) → Owes b (shown_by a) → ShowsMore a b

-- so it does once what was owed is taken
abbrev pub TakenIsMore : Type 0
TakenIsMore = (a b c : Looping) (update : Option Update) → Owes b (shown_by a) → TakesUpdate update b c → ShowsMore a c
