-- Groups: what one node changes, all nodes of its group see, and no other.
use Rattle.std.proofs.Common.{ℕ, Bool, true, false, ◌==◌, ◌≡◌, Option, Some, None, refl, sym, subst, ap, ◌∙◌}
use Rattle.std.specs.Prelude.{if◌then◌else◌, not}
use Rattle.std.proofs.lemmas.Bool.{eqb-true, eqb-false, eq-eqb}
use Rattle.registry_model.specs.Process.{Text, Process, Nodes, at}
use Rattle.registry_model.specs.Table.{Table, is_rising, get, without}
use Rattle.registry_model.specs.Registry.{Registry, in_group, table_of, with_table}
use Rattle.registry_model.proofs.Updates.{at_same, at_other}
use Rattle.registry_model.proofs.Tables.{if_kept, get-without}

-- what a change of a table leaves alone, whichever table it is
keeps-with_table : {A : Type 0} (part : Registry → A) (m : ℕ) (f : Table → Table) (r : Registry)
    → part (record r { table = f r.table }) ≡ part r → part (record r { lone = at r.lone m (f (r.lone m)) }) ≡ part r
    → part (with_table m f r) ≡ part r
keeps-with_table part m f r joined lone = go (r.joined m)
  where
    go : (b : Bool) →
        part (if b then record r { table = f r.table } else record r { lone = at r.lone m (f (r.lone m)) }) ≡ part r
    go true = joined
    go false = lone

-- who is joined
pub joined-with_table : (m : ℕ) (f : Table → Table) (r : Registry) → (with_table m f r).joined ≡ r.joined
joined-with_table m f r = keeps-with_table (λ (s : Registry). s.joined) m f r refl refl

-- who was told what
pub told-with_table : (m : ℕ) (f : Table → Table) (r : Registry) → (with_table m f r).told ≡ r.told
told-with_table m f r = keeps-with_table (λ (s : Registry). s.told) m f r refl refl

-- who has left
pub left-with_table : (m : ℕ) (f : Table → Table) (r : Registry) → (with_table m f r).left ≡ r.left
left-with_table m f r = keeps-with_table (λ (s : Registry). s.left) m f r refl refl

-- who was sent what
pub notices-with_table : (m : ℕ) (f : Table → Table) (r : Registry) → (with_table m f r).notices ≡ r.notices
notices-with_table m f r = keeps-with_table (λ (s : Registry). s.notices) m f r refl refl

-- a node is of its group
pub in_group-itself : (r : Registry) (n : ℕ) → in_group r n n ≡ true
in_group-itself r n = go (r.joined n) refl
  where
    go : (b : Bool) → r.joined n ≡ b → (if b then r.joined n else n == n) ≡ true
    go true k = k
    go false k = eq-eqb n n refl

-- nodes of one group have one table
pub table_of-group : (r : Registry) (n m : ℕ) → in_group r n m ≡ true → table_of r m ≡ table_of r n
table_of-group r n m i = go (r.joined n) refl i
  where
    go : (b : Bool) → r.joined n ≡ b → (if b then r.joined m else m == n) ≡ true →
        table_of r m ≡ (if b then r.table else r.lone n)
    go true k i = rw i refl
    go false k i = ap (table_of r) (eqb-true m n i) ∙ rw k refl

-- a change of m's table is one of the table of each node of the group
pub table_of-with_table : (m : ℕ) (f : Table → Table) (r : Registry) (n : ℕ) → in_group r n m ≡ true →
    table_of (with_table m f r) n ≡ f (table_of r n)
table_of-with_table m f r n i = go (r.joined n) refl i
  where
    go : (b : Bool) → r.joined n ≡ b → (if b then r.joined m else m == n) ≡ true →
        table_of (with_table m f r) n ≡ f (if b then r.table else r.lone n)
    go true k i = rw i (rw k refl)
    go false k i = subst (λ (x : ℕ). table_of (with_table x f r) n ≡ f (r.lone n)) (sym (eqb-true m n i))
        (rw k (rw k (at_same r.lone n (f (r.lone n)))))

-- and of no other's
pub table_of-with_table_other : (m : ℕ) (f : Table → Table) (r : Registry) (n : ℕ) → in_group r n m ≡ false →
    table_of (with_table m f r) n ≡ table_of r n
table_of-with_table_other m f r n i = go (r.joined n) refl i (r.joined m) refl
  where
    go : (b : Bool) → r.joined n ≡ b → (if b then r.joined m else m == n) ≡ false → (c : Bool) → r.joined m ≡ c →
        table_of (with_table m f r) n ≡ (if b then r.table else r.lone n)
    go true k i true j = absurd cc
    go true k i false j = rw j (rw k refl)
    go false k i true j = rw j (rw k refl)
    go false k i false j = rw j (rw k (at_other r.lone m (f (r.lone m)) n (λ e. eqb-false m n i (sym e))))

-- whoever has a name as n sees it has it in the table, and n wasn't told that his node left
pub get-seen : (gone : Nodes) (t : Table) → is_rising t ≡ true → (x : Text) (p : Process) →
    get x (without gone t) ≡ Some p → (get x t ≡ Some p) × (gone p.node ≡ false)
get-seen gone t r x p h = go (get x t) (sym (get-without gone t r x) ∙ h)
  where
    go : (o : Option Process) → if_kept (λ q. not (gone q.node)) o ≡ Some p → (o ≡ Some p) × (gone p.node ≡ false)
    go None h = absurd cc
    go (Some q) h = by (gone q.node) refl h
      where
        by : (b : Bool) → gone q.node ≡ b → (if not b then Some q else None) ≡ Some p →
            (Some q ≡ Some p) × (gone p.node ≡ false)
        by true k h = absurd cc
        by false k h = let e : q ≡ p = cc in (h, subst (λ (a : Process). gone a.node ≡ false) e k)

-- the other way round
pub seen-get : (gone : Nodes) (t : Table) → is_rising t ≡ true → (x : Text) (p : Process) → get x t ≡ Some p →
    gone p.node ≡ false → get x (without gone t) ≡ Some p
seen-get gone t r x p h g = get-without gone t r x ∙ ap (if_kept (λ q. not (gone q.node))) h ∙ rw g

-- a name that n doesn't see has nobody, or somebody whose node n was told has left
pub get-unseen : (gone : Nodes) (t : Table) → is_rising t ≡ true → (x : Text) (p : Process) →
    get x (without gone t) ≡ None → get x t ≡ Some p → gone p.node ≡ true
get-unseen gone t r x p h g = go (gone p.node) refl
  where
    go : (b : Bool) → gone p.node ≡ b → b ≡ true
    go true k = refl
    go false k = let w : get x (without gone t) ≡ Some p = seen-get gone t r x p g k in absurd cc
