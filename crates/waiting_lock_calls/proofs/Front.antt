-- A request that no letter in its way precedes: on the link to the boss of a call no other requester's request for its resource stands
-- in front of the call's own.
-- c: the call.
use Rattle.std.proofs.Common.{Bool, true, false, ◌==◌, ◌≡◌, List, [], ◌∷◌, ◌++◌, drop, refl, sym, ap, ◌∙◌}
use Rattle.std.specs.Prelude.{not, ◌&&◌, ◌||◌}
use Rattle.std.specs.List.{list_all}
use Rattle.std.proofs.Math.Bool.{or-true}
use Rattle.std.proofs.lemmas.List.Folds.{list_all-append}
use Rattle.registry_model.specs.Process.{is_process}
use Rattle.protocol_model.specs.Letter.{Letter}
use Rattle.protocol_model.specs.Node.{LockCall}
use Rattle.getting_through.proofs.Indices.{both}
use Rattle.getting_through.proofs.Requests.{is_apart}
use Rattle.waiting_lock_calls.proofs.Unrivalled.{is_clear}

module _ (c : LockCall) where
  -- a client's request that would be in the call's way
  abbrev pub is_bad : Letter → Bool
  is_bad (Letter.SetLock id q) = not (q.serial == 0) && not (is_clear c id q)
  is_bad _ = false

  -- the call's own
  abbrev pub is_own : Letter → Bool
  is_own (Letter.SetLock id q) = not (q.serial == 0) && is_process q c.holder
  is_own _ = false

  abbrev pub none_own : List Letter → Bool
  none_own ls = list_all (λ l. not (is_own l)) ls

  abbrev pub none_bad : List Letter → Bool
  none_bad ls = list_all (λ l. not (is_bad l)) ls

  -- behind none in its way there is the call's own
  abbrev pub is_in_front : List Letter → Bool
  is_in_front [] = true
  is_in_front (l ∷ ls) = (not (is_bad l) || none_own ls) && is_in_front ls

  pub front_drop : (ls : List Letter) → is_in_front ls ≡ true → is_in_front (drop 1 ls) ≡ true
  front_drop [] h = refl
  front_drop (l ∷ ls) h = (both (not (is_bad l) || none_own ls) (is_in_front ls) h).1

  pub front_none_bad : (ls : List Letter) → none_bad ls ≡ true → is_in_front ls ≡ true
  front_none_bad [] h = refl
  front_none_bad (l ∷ ls) h = let parts : (not (is_bad l) ≡ true) × (none_bad ls ≡ true) = both (not (is_bad l)) (none_bad ls) h in
      rw (parts.0, front_none_bad ls parts.1) refl

  front_none_own : (ls : List Letter) → none_own ls ≡ true → is_in_front ls ≡ true
  front_none_own [] h = refl
  front_none_own (l ∷ ls) h = let parts : (not (is_own l) ≡ true) × (none_own ls ≡ true) = both (not (is_own l)) (none_own ls) h in
      rw (parts.1, or-true (not (is_bad l)), front_none_own ls parts.1) refl

  -- letters more at the back, of which none is its own
  pub front_append : (xs ys : List Letter) → is_in_front xs ≡ true → none_own ys ≡ true → is_in_front (xs ++ ys) ≡ true
  front_append [] ys h k = front_none_own ys k
  front_append (l ∷ xs) ys h k =
      let parts : ((not (is_bad l) || none_own xs) ≡ true) × (is_in_front xs ≡ true) =
      both (not (is_bad l) || none_own xs) (is_in_front xs) h in
      ap (λ (b : Bool). b && is_in_front (xs ++ ys)) (go (not (is_bad l)) parts.0) ∙ front_append xs ys parts.1 k
    where
      go : (b : Bool) → (b || none_own xs) ≡ true → (b || none_own (xs ++ ys)) ≡ true
      go true i = refl
      go false i = list_all-append (λ (x : Letter). not (is_own x)) xs ys ∙ ap (λ (t : Bool). t && none_own ys) i ∙ k

  -- letters apart from clients' locks aren't its own, and in nobody's way
  pub apart_other : (l : Letter) → is_apart l ≡ true → not (is_own l) ≡ true
  apart_other (Letter.SetLock id q) h = ap (λ (b : Bool). not (not b && is_process q c.holder)) h
  apart_other l h = refl

  -- where one in its way comes first, the call's own isn't there
  pub none_behind : (l : Letter) (ls : List Letter) → is_in_front (l ∷ ls) ≡ true → is_bad l ≡ true → none_own ls ≡ true
  none_behind l ls h k = ap (λ (b : Bool). not b || none_own ls) (sym k)
      ∙ (both (not (is_bad l) || none_own ls) (is_in_front ls) h).0
