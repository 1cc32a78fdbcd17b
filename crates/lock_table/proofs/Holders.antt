-- What a sound table tells of those that are listed in it.
use Rattle.std.proofs.Common.{ℕ, true, false, ◌==◌, ◌≡◌, ◌<◌, get_or, refl, sym, ap, ◌∙◌, subst, inl, inr, arith}
use Rattle.std.specs.Prelude.{◌≤◌, Contains}
use Rattle.std.proofs.lemmas.Bool.{cases_order, eqb-true, eq-eqb}
use Rattle.std.proofs.lemmas.List.{get_or_default}
use Rattle.protocol_model.specs.Letter.{Id, Global, Client, is_id, is_resource}
use Rattle.protocol_model.proofs.Ids.{is_id_self, is_resource_swap}
use Rattle.protocol_model.specs.LockTable.{Grant, Locks, is_grant_of, count, last_count}
use Rattle.lock_table.specs.Ids.{requester_of}
use Rattle.lock_table.specs.Sound.{IsSound}
use Rattle.lock_table.proofs.Facts.{both}
use Rattle.lock_table.proofs.Places.{count_there}

-- one id is in one requester's name
same_requester : (i j : Id) → is_id i j ≡ true → requester_of i ≡ requester_of j
same_requester (Global a) (Global b) e = eqb-true a b e
same_requester (Client r q) (Client s z) e = eqb-true q z (both (r == s) (q == z) e).1
same_requester (Global a) (Client s z) e = cc
same_requester (Client r q) (Global b) e = cc

-- a grant is of its own id and holder
of_its_own : (g : Grant) → is_grant_of g.id g.holder g ≡ true
of_its_own g = rw
    (is_id_self g.id, eq-eqb g.holder.node g.holder.node refl, eq-eqb g.holder.serial g.holder.serial refl) refl

-- two grants of one resource are one requester's
pub one_requester : (t : Locks) (g h : Grant) → IsSound t → Contains t g → Contains t h → is_resource g.id h.id ≡ true
    → requester_of g.id ≡ requester_of h.id
one_requester t g h s at_g at_h e = elim (cases_order at_g.0 at_h.0) [
  | inl same ↦
      ap (λ (x : Grant). requester_of x.id)
      (sym at_g.2 ∙ ap (λ (k : ℕ). get_or t k g) same ∙ get_or_default t at_h.0 g h at_h.1 ∙ at_h.2)
  | inr (inl less) ↦ same_requester g.id h.id (before g h at_g at_h less e)
  | inr (inr more) ↦ sym (same_requester h.id g.id (before h g at_h at_g more (is_resource_swap g.id h.id e)))
]
  where
    before : (x y : Grant) (at_x : Contains t x) (at_y : Contains t y) → at_x.0 < at_y.0
        → is_resource x.id y.id ≡ true → is_id x.id y.id ≡ true
    before x y at_x at_y less =
        subst (λ (z : Grant). is_resource x.id z.id ≡ true
        → is_id x.id z.id ≡ true) (get_or_default t at_y.0 x y at_y.1 ∙ at_y.2)
        (subst (λ (z : Grant). is_resource z.id (get_or t at_y.0 x).id ≡ true
        → is_id z.id (get_or t at_y.0 x).id ≡ true) at_x.2
        (s.one_requester at_x.0 at_y.0 x less at_y.1))

-- a grant that is listed is counted
pub counted : (t : Locks) (g : Grant) → IsSound t → Contains t g → count g.id g.holder t ≡ g.count
counted t g s at_g = count_there g.id g.holder t at_g.0 g (record {
  within = at_g.1;
  here = subst (λ (x : Grant). is_grant_of g.id g.holder x ≡ true) (sym at_g.2) (of_its_own g);
  before = λ k l. subst (λ (x : Grant). is_grant_of x.id x.holder (get_or t k g) ≡ false) at_g.2
      (s.listed_once k at_g.0 g l at_g.1);
}) ∙ ap (λ (x : Grant). x.count) at_g.2

-- so whoever is listed has a count
pub positive : (t : Locks) (g : Grant) → IsSound t → Contains t g → 0 < count g.id g.holder t
positive t g s at_g =
    let range : (1 ≤ g.count) × (g.count ≤ last_count) =
    subst (λ (x : Grant). (1 ≤ x.count) × (x.count ≤ last_count)) at_g.2 (s.counted at_g.0 g at_g.1) in
    omega (arith, range.0, counted t g s at_g)
