-- What a change makes of grants that are filed, of where they stand, and of who shares them.
use Rattle.std.proofs.Common.{ℕ, ◌≡◌, ◌<◌, Some, None, List, [], ◌∷◌, ◌++◌, refl, sym, ap, subst, ◌∙◌}
use Rattle.std.specs.Prelude.{All}
use Rattle.std.specs.List.{IsDistinct}
use Rattle.std.specs.Map.{keys_of, set_value}
use Rattle.std.proofs.lemmas.Map.{keys-set_value}
use Rattle.lock_table.specs.declared.grant.Key.{Key}
use Rattle.lock_table.specs.declared.grant.Held.{Held}
use Rattle.lock_table.specs.Filed.{Entry, held_at, is_key}
use Rattle.lock_table.specs.Grants.{Gone, IsFreeFor}
use Rattle.lock_table.specs.Index.{Places, SetsAt, StandsAs, place_at}
use Rattle.lock_table.specs.Kept.{IsKept}
use Rattle.lock_table.specs.Sharers.{IsShared, Joins, Leaves, Shared}
use Rattle.lock_table.proofs.Index.{Sets, indexed-first, indexed-gone, indexed-recount, indexed-same, number_below}
use Rattle.lock_table.proofs.Sharing.{shared-first, shared-gone, shared-recount}

module _ (m : List Entry) (x : Places) (shared : Shared) (kept : IsKept m x shared) where
  -- the same grants, in the same places
  pub kept-same : (y : Places) (after : Shared) → StandsAs x y → after ≡ shared → IsKept m y after
  kept-same y after same shares = record {
    once = kept.once;
    placed = indexed-same m x y same kept.placed;
    counted = subst (IsShared m) (sym shares) kept.counted;
  }

module _ (m : List Entry) (x : Places) (shared : Shared) (kept : IsKept m x shared) (k : Key) where
  -- another count
  pub kept-recount : (v : Held) (c : ℕ) → held_at m k ≡ Some v → (es : List Entry)
      → es ≡ set_value (is_key k) m (record v { count = c }) → Sets k (Some (record v { count = c })) m es
      → IsKept es x shared
  kept-recount v c found es e set = record {
    once = subst (IsDistinct is_key) (sym (ap keys_of e ∙ keys-set_value (is_key k) m (record v { count = c }))) kept.once;
    placed = indexed-recount m es x x kept.placed k v (record v { count = c }) found refl set;
    counted = shared-recount m shared kept.counted k v (record v { count = c }) found refl es e set;
  }

  -- a first grant
  pub kept-first : (v : Held) (y : Places) (after : Shared) → held_at m k ≡ None
      → IsFreeFor k.resource v.requester m → All (λ (e : Entry). e.1.number < v.number) m
      → SetsAt (place_at k.holder v.number) (Some k.resource) x y → Joins k.resource v.requester shared after
      → (new : List Entry) → new ≡ m ++ (k, v) ∷ [] → IsDistinct is_key (keys_of new) → Sets k (Some v) m new
      → IsKept new y after
  kept-first v y after absent free below fills joins new pushed once sets = record {
    once = once;
    placed = indexed-first m new x y kept.placed k v absent (number_below v.number m below) sets fills;
    counted = subst (λ (l : List Entry). IsShared l after) (sym pushed)
        (shared-first m shared kept.counted k v after free kept.once joins
        (subst (Sets k (Some v) m) pushed sets));
  }

  -- a grant is gone
  pub kept-gone : (v : Held) (y : Places) (after : Shared) → held_at m k ≡ Some v → (new : List Entry)
      → Gone k m new → IsDistinct is_key (keys_of new) → Sets k None m new → SetsAt (place_at k.holder v.number) None x y
      → Leaves k.resource shared after → IsKept new y after
  kept-gone v y after found new gone once sets places leaves = record {
    once = once;
    placed = indexed-gone m new x y kept.placed k v found sets places;
    counted = shared-gone m shared kept.counted k new after gone leaves sets;
  }
