-- A write: what the rule Write makes of a replica is what the entry makes of the registry.
use Rattle.std.proofs.Common.{ℕ, Bool, true, false, ◌==◌, ◌≡◌, refl, sym, ap, ◌∙◌}
use Rattle.std.specs.Prelude.{if◌then◌else◌}
use Rattle.std.proofs.lemmas.Bool.{eqb-true}
use Rattle.registry_model.specs.Process.{Nodes, at}
use Rattle.registry_model.specs.Table.{Table, is_rising, put, remove, without, Change, Put, Remove, StrikeOwner, changed}
use Rattle.registry_model.specs.Registry.{Registry, in_group, with_table, Replica, replica_of}
use Rattle.registry_model.proofs.Rising.{Rises}
use Rattle.registry_model.proofs.Tables.{without-put, without-remove, without-strike}
use Rattle.protocol_model.specs.Node.{unless_told, wrote}

-- a changed table, less those that are told to have left, is written by the rule Write
pub without-changed : (gone : Nodes) (c : Change) (t : Table) → is_rising t ≡ true
    → without gone (changed c t) ≡ changed (unless_told gone c) (without gone t)
without-changed gone (Put e) t r = without-put gone e t r ∙ go (gone e.owner.node)
  where
    go : (b : Bool) → (if b then remove e.name (without gone t) else put e (without gone t))
        ≡ changed (if b then Remove e.name else Put e) (without gone t)
    go true = refl
    go false = refl
without-changed gone (Remove x) t r = without-remove gone x t
without-changed gone (StrikeOwner p) t r = without-strike gone p t

-- a replica with another table
abbrev pub with_rows : Replica → Table → Replica
with_rows v t = record v { table = t }

-- a node of the group shows the write
pub replica_of-written : (r : Registry) (n : ℕ) (ch : Change) (c : ℕ) → Rises r → in_group r n c ≡ true
    → replica_of (with_table n (changed ch) r) c ≡ wrote ch (replica_of r c)
replica_of-written r n ch c R g = go (r.joined n) refl g
  where
    go : (b : Bool) → r.joined n ≡ b → (if b then r.joined c else c == n) ≡ true
        → replica_of (if b then record r { table = changed ch r.table } else record r
        { lone = at r.lone n (changed ch (r.lone n)) }) c ≡ wrote ch (replica_of r c)
    go true j g = ap (with_rows (replica_of r c))
        (ap (λ (b : Bool). without (r.told c) (if b then changed ch r.table else r.lone c)) g
        ∙ without-changed (r.told c) ch r.table R.table
        ∙ sym (ap (λ (b : Bool). changed (unless_told (r.told c) ch)
        (without (r.told c) (if b then r.table else r.lone c))) g))
    go false j g = ap (with_rows (replica_of r c))
        (ap (λ (b : Bool). without (r.told c) (if b then r.table else at r.lone n (changed ch (r.lone n)) c)) lone
        ∙ ap (λ (b : Bool). without (r.told c) (if b then changed ch (r.lone n) else r.lone c)) g
        ∙ ap (λ (x : ℕ). without (r.told c) (changed ch (r.lone x))) (sym same)
        ∙ without-changed (r.told c) ch (r.lone c) (R.lone c)
        ∙ sym (ap (λ (b : Bool). changed (unless_told (r.told c) ch)
        (without (r.told c) (if b then r.table else r.lone c))) lone))
      where
        same : c ≡ n
        same = eqb-true c n g

        lone : r.joined c ≡ false
        lone = ap r.joined same ∙ j

-- a node of another group shows nothing of it
pub replica_of-unwritten : (r : Registry) (n : ℕ) (f : Table → Table) (c : ℕ) → in_group r n c ≡ false
    → replica_of (with_table n f r) c ≡ replica_of r c
replica_of-unwritten r n f c g = go (r.joined n) g
  where
    go : (b : Bool) → (if b then r.joined c else c == n) ≡ false
        → replica_of (if b then record r { table = f r.table } else record r { lone = at r.lone n (f (r.lone n)) }) c
        ≡ replica_of r c
    go true g = ap (with_rows (replica_of r c))
        (ap (λ (b : Bool). without (r.told c) (if b then f r.table else r.lone c)) g
        ∙ sym (ap (λ (b : Bool). without (r.told c) (if b then r.table else r.lone c)) g))
    go false g = ap (λ (t : Table). with_rows (replica_of r c)
        (without (r.told c) (if r.joined c then r.table else t)))
        (ap (λ (b : Bool). if b then f (r.lone n) else r.lone c) g)

-- a write leaves who has left
pub with_table-left : (r : Registry) (n : ℕ) (f : Table → Table) → (with_table n f r).left ≡ r.left
with_table-left r n f = go (r.joined n)
  where
    go : (b : Bool) → (if b then record r { table = f r.table } else record r
        { lone = at r.lone n (f (r.lone n)) }).left ≡ r.left
    go true = refl
    go false = refl
