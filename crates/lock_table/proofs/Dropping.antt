-- Grants that are taken away one after the other.
use Rattle.std.proofs.Common.{ℕ, zero, suc, Bool, true, false, ◌==◌, ◌≡◌, ◌<◌, ◌≤◌, [], ◌∷◌, length, get_or, refl, sym, ap, subst, arith}
use Rattle.std.specs.Prelude.{if◌then◌else◌, not, filter, All}
use Rattle.std.proofs.lemmas.List.Elements.{All-head, All-tail}
use Rattle.registry_model.specs.Process.{Process, is_process}
use Rattle.protocol_model.specs.LockTable.{Grant, Locks, drop_holder, drop_node}
use Rattle.lock_table.specs.declared.grant.Key.{Key}
use Rattle.lock_table.specs.Ids.{resource_of}
use Rattle.lock_table.specs.Index.{IsListedUnder, is_under}
use Rattle.lock_table.proofs.Facts.{both}

-- all that some test passes go, one key's first
module _ (test : Grant → Bool) where
  -- none passes
  pub all_kept : (t : Locks) → All (λ g. test g ≡ false) t → filter (λ g. not (test g)) t ≡ t
  all_kept [] none = refl
  all_kept (g ∷ t) none =
      rw (All-head (λ (x : Grant). test x ≡ false) g t none)
      (ap (λ (u : Locks). g ∷ u) (all_kept t (All-tail (λ (x : Grant). test x ≡ false) g t none)))

  pub gone_first : (k : Key) → ((g : Grant) → is_under k g ≡ true → test g ≡ true) → (t : Locks)
      → filter (λ g. not (test g)) (filter (λ g. not (is_under k g)) t) ≡ filter (λ g. not (test g)) t
  gone_first k one [] = refl
  gone_first k one (g ∷ t) = go (is_under k g) refl (gone_first k one t)
    where
      go : (b : Bool) → is_under k g ≡ b
          → filter (λ x. not (test x)) (filter (λ x. not (is_under k x)) t) ≡ filter (λ x. not (test x)) t
          → filter (λ x. not (test x))
          (if not b then g ∷ filter (λ x. not (is_under k x)) t else filter (λ x. not (is_under k x)) t)
          ≡ (if not (test g) then g ∷ filter (λ x. not (test x)) t else filter (λ x. not (test x)) t)
      go true i r = rw (one g i) r
      go false i r = kept (test g) r
        where
          kept : (b : Bool)
              → filter (λ x. not (test x)) (filter (λ x. not (is_under k x)) t) ≡ filter (λ x. not (test x)) t
              → (if not b then g ∷ filter (λ x. not (test x)) (filter (λ x. not (is_under k x)) t)
              else filter (λ x. not (test x)) (filter (λ x. not (is_under k x)) t))
              ≡ (if not b then g ∷ filter (λ x. not (test x)) t else filter (λ x. not (test x)) t)
          kept true s = s
          kept false s = ap (λ (u : Locks). g ∷ u) s

-- what is listed under a key is one more than what is left
module _ (test : Grant → Bool) where
  no_longer : (t : Locks) → length (filter (λ g. not (test g)) t) ≤ length t
  no_longer [] = omega arith
  no_longer (g ∷ t) = go (test g) (no_longer t)
    where
      go : (b : Bool) → length (filter (λ x. not (test x)) t) ≤ length t
          → length (if not b then g ∷ filter (λ x. not (test x)) t else filter (λ x. not (test x)) t)
          ≤ length (g ∷ t)
      go true r = omega (arith, r)
      go false r = omega (arith, r)

  shorter_at : (t : Locks) (i : ℕ) (d : Grant) → i < length t → test (get_or t i d) ≡ true
      → length (filter (λ g. not (test g)) t) < length t
  shorter_at [] i d l e = absurd (omega (arith, l))
  shorter_at (g ∷ t) zero d l e = rw e (let r = no_longer t in omega (arith, r))
  shorter_at (g ∷ t) (suc i) d l e = go (test g) (shorter_at t i d (omega (arith, l)) e)
    where
      go : (b : Bool) → length (filter (λ x. not (test x)) t) < length t
          → length (if not b then g ∷ filter (λ x. not (test x)) t else filter (λ x. not (test x)) t)
          < length (g ∷ t)
      go true r = omega (arith, r)
      go false r = omega (arith, r)

pub shorter : (k : Key) (t : Locks) → IsListedUnder k t → length (filter (λ g. not (is_under k g)) t) < length t
shorter k t h =
    shorter_at (is_under k) t h.1.0 h.0 h.1.1
    (subst (λ (g : Grant). is_under k g ≡ true) (sym h.1.2) h.2)

pub drop_first : (h : Process) (k : Key) → k.holder ≡ h → (t : Locks)
    → drop_holder h (filter (λ g. not (is_under k g)) t) ≡ drop_holder h t
drop_first h k same =
    gone_first (λ g. is_process g.holder h) k
    (λ g e. subst (λ (p : Process). is_process g.holder p ≡ true) same
    (both (resource_of g.id == k.resource) (is_process g.holder k.holder) e).1)

pub drop_first_on : (d : ℕ) (k : Key) → k.holder.node ≡ d → (t : Locks)
    → drop_node d (filter (λ g. not (is_under k g)) t) ≡ drop_node d t
drop_first_on d k same =
    gone_first (λ g. g.holder.node == d) k
    (λ g e. subst (λ (n : ℕ). (g.holder.node == n) ≡ true) same
    (both (g.holder.node == k.holder.node) (g.holder.serial == k.holder.serial)
    (both (resource_of g.id == k.resource) (is_process g.holder k.holder) e).1).0)
