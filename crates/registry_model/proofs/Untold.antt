-- Whom a settlement concerns: who dies by it or is sent something has a name, in the cluster or at the joiner. So where no owner is
-- on a node, its processes are sent nothing.
use Rattle.std.proofs.Common.{ℕ, Bool, true, false, ◌≡◌, Some, List, [], ◌∷◌, refl, sym, subst, ap, ◌∙◌, inl, inr}
use Rattle.std.specs.Prelude.{◌⊎◌, if◌then◌else◌, Contains, map, filter}
use Rattle.registry_model.specs.Process.{Text, Process, is_process, Nodes}
use Rattle.registry_model.specs.Table.{Rule, Table, is_rising, get, without}
use Rattle.registry_model.specs.Settlement.{Notice, Noted, notices_to, settle}
use Rattle.registry_model.specs.Registry.{Registry, process_of, table_of, view}
use Rattle.registry_model.specs.SharedLaws.{Loses, IsSent}
use Rattle.registry_model.specs.SharedLaws.Loses.{OfJoiner, OfCluster}
use Rattle.registry_model.proofs.Lists.{Contains-front, Contains-behind, is_process-true}
use Rattle.registry_model.proofs.Tables.{get_from_entry}
use Rattle.registry_model.proofs.Groups.{get-seen}
use Rattle.registry_model.proofs.Settlements.{settle_law}
use Rattle.registry_model.proofs.Rising.{is_rising-table_of, is_rising-view}
use Rattle.registry_model.proofs.OwnerNodes.{OwnersAre, IsGood}

-- the process has a name in either table
abbrev pub HasName : Table → Table → Process → Type 0
HasName table pairs p = (x : Text) × ((get x table ≡ Some p) ⊎ (get x pairs ≡ Some p))

-- who loses a name has it
name_of_loser : (table pairs : Table) (rule : Rule) (p : Process) (y : Text) → Loses table pairs rule p y →
    HasName table pairs p
name_of_loser table pairs rule p y (OfJoiner e own c k l) = (e.name, inr (get_from_entry e.name pairs e c.joiner))
name_of_loser table pairs rule p y (OfCluster e own c k l) = (e.name, inl (get_from_entry e.name table own c.cluster))

-- who is sent a notice has a name
name_of_sent : (table pairs : Table) (p : Process) (notice : Notice) → IsSent table pairs p notice → HasName table pairs p
name_of_sent table pairs p notice (IsSent.OfLoss q y l) = name_of_loser table pairs Rule.Notify q y l
name_of_sent table pairs p notice (IsSent.OfJoiners e own c k) =
    (e.name, inl (get_from_entry e.name table own c.cluster))
name_of_sent table pairs p notice (IsSent.OfClusters e own c k) =
    (e.name, inr (get_from_entry e.name pairs e c.joiner))

-- who dies has a name
pub name_of_killed : (table pairs : Table) → is_rising table ≡ true → is_rising pairs ≡ true → (p : Process) →
    Contains (settle table pairs).fate.kills p → HasName table pairs p
name_of_killed table pairs rt rp p c =
    let (y, l) : (y : Text) × Loses table pairs Rule.Exit p y = ((settle_law table pairs rt rp).killed p).0 c in
    name_of_loser table pairs Rule.Exit p y l

-- whom no notice is for is sent none
no_notices : (p : Process) (ns : List Noted) → ((n : Noted) → Contains ns n → n.process ≡ p → ⊥) → notices_to p ns ≡ []
no_notices p [] none = refl
no_notices p (n ∷ ns) none =
    go (is_process n.process p) refl (no_notices p ns (λ m c i. none m (Contains-behind n ns m c) i))
  where
    go : (b : Bool) → is_process n.process p ≡ b → notices_to p ns ≡ [] →
        map (λ m. m.notice) (if b then n ∷ filter (λ m. is_process m.process p) ns else filter (λ m. is_process m.process p) ns)
        ≡ []
    go true e h = absurd (none n (Contains-front n ns) (is_process-true n.process p e))
    go false e h = h

-- no owner is on node n
abbrev pub IsOff : ℕ → Table → Type 0
IsOff n t = OwnersAre (λ p. p.node ≡ n → ⊥) t

-- so it is where the owners are on nodes of a set that n isn't of
pub IsOff-of : (n : ℕ) (s : Nodes) (t : Table) → OwnersAre (λ p. s p.node ≡ true) t → s n ≡ false → IsOff n t
IsOff-of n s t o k = record {
  owner = λ x p h i. let a : s p.node ≡ true = o.owner x p h in
      let b : s p.node ≡ false = ap s i ∙ k in
      absurd cc;
}

-- and where they are all on another node
pub IsOff-other : (n m : ℕ) (t : Table) → OwnersAre (λ p. p.node ≡ m) t → (n ≡ m → ⊥) → IsOff n t
IsOff-other n m t o ne = record { owner = λ x p h i. ne (sym i ∙ o.owner x p h) }

-- fewer names have no other owners
pub IsOff-without : (n : ℕ) (gone : Nodes) (t : Table) → is_rising t ≡ true → IsOff n t → IsOff n (without gone t)
IsOff-without n gone t r o = record { owner = λ x p h. o.owner x p (get-seen gone t r x p h).0 }

-- where no owner is on a node, its processes are sent nothing
pub untold-settle : (table pairs : Table) (n serial : ℕ) → is_rising table ≡ true → is_rising pairs ≡ true →
    IsOff n table → IsOff n pairs → notices_to (process_of n serial) (settle table pairs).fate.notices ≡ []
untold-settle table pairs n serial rt rp ot op =
    no_notices (process_of n serial) (settle table pairs).fate.notices
    (λ m c i. none m.process (name_of_sent table pairs m.process m.notice
    (((settle_law table pairs rt rp).told m).0 c)) (ap (λ (p : Process). p.node) i))
  where
    none : (p : Process) → HasName table pairs p → p.node ≡ n → ⊥
    none p (x, inl h) i = ot.owner x p h i
    none p (x, inr h) i = op.owner x p h i

-- a lone node that doesn't join is told of no clash
pub untold-join : (r : Registry) → IsGood r → (j m c : ℕ) → r.joined m ≡ true → r.joined j ≡ false → r.joined c ≡ false →
    (c ≡ j → ⊥) → (serial : ℕ) → notices_to (process_of c serial) (settle (view r m) (r.lone j)).fate.notices ≡ []
untold-join r g j m c member lone apart ne serial =
    untold-settle (view r m) (r.lone j) c serial (is_rising-view r g.rises m) (g.rises.lone j)
    (IsOff-without c (r.told m) (table_of r m) (is_rising-table_of r g.rises m)
    (subst (IsOff c) (sym (ap (λ (b : Bool). if b then r.table else r.lone m) member))
    (IsOff-of c r.joined r.table g.joined_owners apart)))
    (IsOff-other c j (r.lone j) (g.owners.own j lone) ne)
