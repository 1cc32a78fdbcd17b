-- Changes that keep a lock table sound.
use Rattle.std.proofs.Common.{Bool, true, false, ◌≡◌, [], ◌∷◌, ◌++◌, refl, arith}
use Rattle.std.specs.Prelude.{◌&&◌, ◌≤◌, not, filter, All}
use Rattle.std.proofs.lemmas.List.Elements.{All-push, All-filter}
use Rattle.std.proofs.lemmas.List.Kept.{AllPairs-filter}
use Rattle.std.proofs.lemmas.List.Quantifiers.{all_pairs_push}
use Rattle.registry_model.specs.Process.{Process}
use Rattle.protocol_model.specs.Letter.{Id, is_id, is_resource}
use Rattle.protocol_model.specs.LockTable.{Grant, Locks, is_grant_of, is_in_the_way, last_count}
use Rattle.lock_table.specs.Sound.{IsSound}

in_no_way : (a b : Bool) → (a && not b) ≡ false → a ≡ true → b ≡ true
in_no_way true true e h = refl
in_no_way true false e h = cc
in_no_way false b e h = cc

-- a first grant, where none is in the way
pub sound-push : (id : Id) (p : Process) (t : Locks) → IsSound t → All (λ g. is_in_the_way id g ≡ false) t
    → All (λ g. is_grant_of id p g ≡ false) t → IsSound (t ++ record { id = id; holder = p; count = 1 } ∷ [])
sound-push id p t s clear none = record {
  one_requester = all_pairs_push (λ (g h : Grant). is_resource g.id h.id ≡ true → is_id g.id h.id ≡ true) t
      (record { id = id; holder = p; count = 1 }) s.one_requester (λ k d l. in_no_way _ _ (clear k d l));
  listed_once = all_pairs_push (λ (g h : Grant). is_grant_of h.id h.holder g ≡ false) t
      (record { id = id; holder = p; count = 1 }) s.listed_once none;
  counted = All-push (λ (g : Grant). (1 ≤ g.count) × (g.count ≤ last_count)) t
      (record { id = id; holder = p; count = 1 }) s.counted (omega arith, omega arith);
}

-- some grants are gone
pub sound-filter : (test : Grant → Bool) (t : Locks) → IsSound t → IsSound (filter test t)
sound-filter test t s = record {
  one_requester = AllPairs-filter (λ (g h : Grant). is_resource g.id h.id ≡ true
      → is_id g.id h.id ≡ true) test t s.one_requester;
  listed_once = AllPairs-filter (λ (g h : Grant). is_grant_of h.id h.holder g ≡ false) test t s.listed_once;
  counted = All-filter test (λ (g : Grant). (1 ≤ g.count) × (g.count ≤ last_count)) t s.counted;
}
