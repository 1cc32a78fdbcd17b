-- The names of a node's processes are taken out on both sides of the index.
use Rattle.std.proofs.Common.{ℕ, Bool, true, false, ◌==◌, ◌≡◌, ◌<◌, Option, Some, None, [], ◌∷◌, length, filter, refl, sym, ap, ◌∙◌, BTreeSet}
use Rattle.std.specs.Prelude.{if◌then◌else◌, not}
use Rattle.std.specs.List.{IsDistinct}
use Rattle.std.specs.Map.{keys_of}
use Rattle.registry_model.specs.Process.{Text, Process, is_process}
use Rattle.registry_model.proofs.Lists.{is_process-true}
use Rattle.registry_model.proofs.Tables.{if_kept}
use Rattle.name_table.specs.Index.{Owners, Owned, owner_of, names_of, is_owner, is_among, is_listed, Agrees}
use Rattle.name_table.proofs.Index.{owner_of-filter}

-- what is listed of the processes of other nodes
names_of-filter : (d : ℕ) (owned : Owned) (q : Process) →
    names_of q (filter (λ e. not (e.0.node == d)) owned) ≡ (if q.node == d then None else names_of q owned)
names_of-filter d [] q = go (q.node == d)
  where
    go : (b : Bool) → names_of q [] ≡ (if b then None else names_of q [])
    go true = refl
    go false = refl
names_of-filter d (e ∷ es) q = go (is_process q e.0) (e.0.node == d) refl refl (names_of-filter d es q)
  where
    left : Owned
    left = filter (λ f. not (f.0.node == d)) es

    node_is : (b : Bool) → is_process q e.0 ≡ true → (e.0.node == d) ≡ b → (q.node == d) ≡ b
    node_is b i j = ap (λ (r : Process). r.node == d) (is_process-true q e.0 i) ∙ j

    go : (b c : Bool) → is_process q e.0 ≡ b → (e.0.node == d) ≡ c →
        names_of q left ≡ (if q.node == d then None else names_of q es) →
        names_of q (if not c then e ∷ left else left)
        ≡ (if q.node == d then None else (if b then Some e.1 else names_of q es))
    go true true i j h = rw (node_is true i j) (h ∙ rw (node_is true i j) refl)
    go true false i j h = rw (i, node_is false i j) refl
    go false true i j h = h
    go false false i j h = rw i h

-- the names of a process of another node stay, and others go
owner_kept : (d : ℕ) (q : Process) (o : Option Process) →
    (if q.node == d then false else is_owner q o) ≡ is_owner q (if_kept (λ r. not (r.node == d)) o)
owner_kept d q None = at (q.node == d)
  where
    at : (b : Bool) → (if b then false else false) ≡ false
    at true = refl
    at false = refl
owner_kept d q (Some r) = go (is_process r q) (r.node == d) refl refl
  where
    none : (b : Bool) → (if b then false else false) ≡ false
    none true = refl
    none false = refl

    go : (b c : Bool) → is_process r q ≡ b → (r.node == d) ≡ c →
        (if q.node == d then false else b) ≡ is_owner q (if not c then Some r else None)
    go true c i j = rw (sym (ap (λ (s : Process). s.node == d) (is_process-true r q i)) ∙ j) (at c)
      where
        at : (c : Bool) → (if c then false else true) ≡ is_owner q (if not c then Some r else None)
        at true = refl
        at false = sym i
    go false true i j = none (q.node == d)
    go false false i j = rw i (none (q.node == d))

-- both sides agree when the node is gone
pub agrees-without : (owners after : Owners) (owned later : Owned) (d : ℕ) → IsDistinct (λ x y. x == y) (keys_of owners) →
    after ≡ filter (λ e. not (e.1.owner.node == d)) owners → later ≡ filter (λ e. not (e.0.node == d)) owned →
    Agrees owners owned → Agrees after later
agrees-without owners after owned later d u f l a = record {
  same = λ y q. ap (is_among y) (left q) ∙ listed y q (q.node == d)
      ∙ ap (λ (b : Bool). if q.node == d then false else b) (a.same y q) ∙ owner_kept d q (owner_of y owners)
      ∙ ap (is_owner q) (sym (ap (owner_of y) f ∙ owner_of-filter (λ r. not (r.node == d)) owners u y));
  named = λ q kept k. named q kept (q.node == d) (sym (left q) ∙ k);
}
  where
    left : (q : Process) → names_of q later ≡ (if q.node == d then None else names_of q owned)
    left q = ap (names_of q) l ∙ names_of-filter d owned q

    listed : (y : Text) (q : Process) (b : Bool) → is_among y (if b then None else names_of q owned)
        ≡ (if b then false else is_listed y q owned)
    listed y q true = refl
    listed y q false = refl

    named : (q : Process) (kept : BTreeSet Text) (b : Bool) → (if b then None else names_of q owned) ≡ Some kept →
        0 < length kept.keys
    named q kept true k = cc
    named q kept false k = a.named q kept k
