-- Registries that are alike but for the names of one lone node, as a registry is with and without what holds there: each later
-- entry keeps them alike.
use Rattle.std.proofs.Common.{ℕ, Bool, true, false, ◌≡◌, [], refl, sym, ap, ◌∙◌}
use Rattle.std.specs.Prelude.{if◌then◌else◌, ◌||◌}
use Rattle.std.proofs.Math.Path.{ap₂}
use Rattle.registry_model.specs.Process.{Nodes, at, with_node}
use Rattle.registry_model.specs.Table.{Table, StrikeOwner, changed, without}
use Rattle.registry_model.specs.Call.{Joined, is_grant, change_of}
use Rattle.registry_model.specs.Settlement.{with_settled, settle}
use Rattle.registry_model.specs.Registry.{Registry, with_table, view}
use Rattle.registry_model.specs.History.{Entry, Name, Strike, Join, effect}
use Rattle.registry_model.proofs.Updates.{by_test, at_other}

-- registries that are alike but for the names of node n
pub record IsAlikeBut (n : ℕ) (q r : Registry) : Type 0 where
  pub table : q.table ≡ r.table
  pub joined : q.joined ≡ r.joined
  pub told : q.told ≡ r.told
  pub lone : (x : ℕ) → (x ≡ n → ⊥) → q.lone x ≡ r.lone x

-- a lone node's names change
pub alike-lone : (n : ℕ) (f : Table → Table) (r : Registry) → r.joined n ≡ false → IsAlikeBut n r (with_table n f r)
alike-lone n f r k = go (r.joined n) k
  where
    go : (b : Bool) → b ≡ false → IsAlikeBut n r
        (if b then record r { table = f r.table } else record r { lone = at r.lone n (f (r.lone n)) })
    go true k = absurd cc
    go false k = record {
      table = refl;
      joined = refl;
      told = refl;
      lone = λ x ne. sym (at_other r.lone n (f (r.lone n)) x ne);
    }

module _ (n : ℕ) (q r : Registry) (A : IsAlikeBut n q r) where
  -- a table changes in both
  alike-with_table : (m : ℕ) (f : Table → Table) → IsAlikeBut n (with_table m f q) (with_table m f r)
  alike-with_table m f = go (q.joined m) (r.joined m) (ap (λ (s : Nodes). s m) A.joined)
    where
      go : (b c : Bool) → b ≡ c → IsAlikeBut n
          (if b then record q { table = f q.table } else record q { lone = at q.lone m (f (q.lone m)) })
          (if c then record r { table = f r.table } else record r { lone = at r.lone m (f (r.lone m)) })
      go true true e = record { table = ap f A.table; joined = A.joined; told = A.told; lone = A.lone }
      go false false e = record {
        table = A.table;
        joined = A.joined;
        told = A.told;
        lone = by_test m (λ x t. (x ≡ n → ⊥) → (if t then f (q.lone m) else q.lone x) ≡ (if t then f (r.lone m) else r.lone x))
            (λ ne. ap f (A.lone m ne)) (λ x d ne. A.lone x ne);
      }
      go true false e = absurd cc
      go false true e = absurd cc

  -- the settlement of another lone node's join by a joined one
  pub same_settlement : (j m : ℕ) → (j ≡ n → ⊥) → r.joined m ≡ true
      → settle (view q m) (q.lone j) ≡ settle (view r m) (r.lone j)
  same_settlement j m ne k = ap₂ settle
      (ap (λ (f : ℕ → Nodes). without (f m) (if q.joined m then q.table else q.lone m)) A.told
      ∙ ap (without (r.told m)) (ap (λ (b : Bool). if b then q.table else q.lone m)
      (ap (λ (s : Nodes). s m) A.joined ∙ k) ∙ A.table
      ∙ sym (ap (λ (b : Bool). if b then r.table else r.lone m) k)))
      (A.lone j ne)

  -- an entry that has n join by nobody, and has another node join by a joined one alone
  pub alike-effect : (e : Entry) → ((j k m : ℕ) → e ≡ Join j k m Joined → (j ≡ n → ⊥) × (r.joined m ≡ true))
      → IsAlikeBut n (effect e q) (effect e r)
  alike-effect (Name m k call reply) by = go (is_grant reply)
    where
      go : (b : Bool) → IsAlikeBut n
          (if b then with_table m (changed (change_of call)) q else q)
          (if b then with_table m (changed (change_of call)) r else r)
      go true = alike-with_table m (changed (change_of call))
      go false = A
  alike-effect (Strike p) by = alike-with_table p.node (changed (StrikeOwner p))
  alike-effect (Join j k m Joined) by = let x : (j ≡ n → ⊥) × (r.joined m ≡ true) = by j k m refl in
      record {
        table = ap₂ with_settled (same_settlement j m x.0 x.1) A.table;
        joined = ap (with_node j) A.joined;
        told = ap (λ (f : ℕ → Nodes). at f j (λ d. f j d || f m d)) A.told;
        lone = by_test j (λ x t. (x ≡ n → ⊥) → (if t then [] else q.lone x) ≡ (if t then [] else r.lone x)) (λ ne. refl)
            (λ x d ne. A.lone x ne);
      }
  alike-effect (Entry.Told c d) by = record {
    table = A.table;
    joined = A.joined;
    told = ap (λ (f : ℕ → Nodes). at f c (with_node d (f c))) A.told;
    lone = A.lone;
  }
  alike-effect _ by = record { table = A.table; joined = A.joined; told = A.told; lone = A.lone }
