-- In the tables of each registry the names rise, so no name has two owners.
use Rattle.std.proofs.Common.{ℕ, Bool, true, false, ◌≡◌, Option, Some, List, [], refl, sym, ap, ◌∙◌}
use Rattle.std.specs.Prelude.{if◌then◌else◌}
use Rattle.registry_model.specs.Process.{Text, Nodes, at}
use Rattle.registry_model.specs.Table.{Pair, Table, is_rising, entry, StrikeOwner, changed}
use Rattle.registry_model.specs.Call.{Joined, is_grant, change_of}
use Rattle.registry_model.specs.Settlement.{Settled, settle}
use Rattle.registry_model.specs.Registry.{Registry, table_of, with_table, view, with_joiner}
use Rattle.registry_model.specs.History.{Entry, Name, Strike, Join, Done, Exit, Left, Told, Read, effect, registry_of}
use Rattle.registry_model.specs.HistoryLaws.{HasOneOwner, OneOwner}
use Rattle.registry_model.proofs.Updates.{by_test}
use Rattle.registry_model.proofs.Tables.{is_rising-changed, is_rising-with_settled, is_rising-without}
use Rattle.registry_model.proofs.Owners.{entry-Contains}
use Rattle.registry_model.proofs.HistoryParts.{registry_keeps}

-- the names of all tables rise
pub record Rises (r : Registry) : Type 0 where
  pub table : is_rising r.table ≡ true
  pub lone : (n : ℕ) → is_rising (r.lone n) ≡ true

-- a table of one group changes
pub Rises-with_table : (n : ℕ) (f : Table → Table) (r : Registry) →
    ((t : Table) → is_rising t ≡ true → is_rising (f t) ≡ true) → Rises r → Rises (with_table n f r)
Rises-with_table n f r keeps g = go (r.joined n)
  where
    go : (b : Bool) → Rises
        (if b then record r { table = f r.table } else record r { lone = at r.lone n (f (r.lone n)) })
    go true = record { table = keeps r.table g.table; lone = g.lone }
    go false = record {
      table = g.table;
      lone = by_test n (λ x t. is_rising (if t then f (r.lone n) else r.lone x) ≡ true) (keeps (r.lone n) (g.lone n))
          (λ x ne. g.lone x);
    }

-- a node joins
pub Rises-with_joiner : (j m : ℕ) (s : Settled) (r : Registry) → Rises r → Rises (with_joiner j m s r)
Rises-with_joiner j m s r g = record {
  table = is_rising-with_settled s r.table g.table;
  lone = by_test j (λ x t. is_rising (if t then [] else r.lone x) ≡ true) refl (λ x ne. g.lone x);
}

-- each entry
pub Rises-effect : (r : Registry) (e : Entry) → Rises r → Rises (effect e r)
Rises-effect r (Name n k call reply) g = go (is_grant reply)
  where
    go : (b : Bool) → Rises (if b then with_table n (changed (change_of call)) r else r)
    go true = Rises-with_table n (changed (change_of call)) r (λ t. is_rising-changed (change_of call) t) g
    go false = g
Rises-effect r (Strike p) g =
    Rises-with_table p.node (changed (StrikeOwner p)) r (λ t. is_rising-changed (StrikeOwner p) t) g
Rises-effect r (Join j k m Joined) g = Rises-with_joiner j m (settle (view r m) (r.lone j)) r g
Rises-effect r (Join j k m _) g = record { table = g.table; lone = g.lone }
Rises-effect r (Done n) g = g
Rises-effect r (Exit p) g = record { table = g.table; lone = g.lone }
Rises-effect r (Left d) g = record { table = g.table; lone = g.lone }
Rises-effect r (Told n d) g = record { table = g.table; lone = g.lone }
Rises-effect r (Read n look reply) g = g

-- the registry of each history
pub Rises-registry_of : (cluster : Nodes) (h : List Entry) → Rises (registry_of cluster h)
Rises-registry_of cluster h = registry_keeps cluster Rises (record { table = refl; lone = λ n. refl }) Rises-effect h

-- the table of each group
pub is_rising-table_of : (r : Registry) → Rises r → (n : ℕ) → is_rising (table_of r n) ≡ true
is_rising-table_of r g n = go (r.joined n)
  where
    go : (b : Bool) → is_rising (if b then r.table else r.lone n) ≡ true
    go true = g.table
    go false = g.lone n

-- what each node sees
pub is_rising-view : (r : Registry) → Rises r → (n : ℕ) → is_rising (view r n) ≡ true
is_rising-view r g n = is_rising-without (r.told n) (table_of r n) (is_rising-table_of r g n)

-- no name of a rising table has two owners
pub one_owner_of : (t : Table) → is_rising t ≡ true → HasOneOwner t
one_owner_of t r = record {
  owner = λ e d c k i.
      let a : entry e.name t ≡ Some e = entry-Contains t r e c in
      let b : entry d.name t ≡ Some d = entry-Contains t r d k in
      let s : ◌≡◌ {A = Option Pair} (Some e) (Some d) = sym a ∙ ap (λ (x : Text). entry x t) i ∙ b in
      cc;
  rises = r;
}

-- in no group a name has two owners
pub one_owner_law : (cluster : Nodes) (h : List Entry) → OneOwner cluster h
one_owner_law cluster h n =
    one_owner_of (table_of (registry_of cluster h) n)
    (is_rising-table_of (registry_of cluster h) (Rises-registry_of cluster h) n)
