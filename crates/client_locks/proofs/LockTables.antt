-- The lock table of a node: what grants, give-backs and drops make of each count, and that a resource has one
-- requester.
use Rattle.std.proofs.Common.{ℕ, Bool, true, false, ◌==◌, ◌≡◌, ◌<◌, ◌+◌, ◌-◌, Option, Some, None, [], ◌∷◌, refl, sym, ap, ◌∙◌, subst, arith}
use Rattle.std.specs.Prelude.{not, ◌&&◌, nat_lt, if◌then◌else◌, is_none, find, filter}
use Rattle.std.proofs.lemmas.Bool.Decides.{nat_tests}
use Rattle.std.proofs.Math.Bool.{and-false}
use Rattle.registry_model.specs.Process.{Process, is_process}
use Rattle.protocol_model.specs.Letter.{Id, is_id, is_resource}
use Rattle.protocol_model.specs.LockTable.{Grant, Locks, is_grant_of, count, is_in_the_way, refused_by, is_free_for, grant, give_back, drop_holder, drop_node}
use Rattle.moves.proofs.Indices.{both}
use Rattle.protocol_model.proofs.Ids.{is_id_self, is_resource_swap}
use Rattle.client_locks.proofs.Ids.{is_process_same, is_process_self, is_id_same}

-- no later grant is another requester's of the same resource
abbrev pub Clear : Grant → Locks → Type 0
Clear g [] = Unit {0}
Clear g (h ∷ t) = (is_in_the_way h.id g ≡ false) × Clear g t

-- each holder stands once under an id, and each resource has one requester
abbrev pub Sound : Locks → Type 0
Sound [] = Unit {0}
Sound (g ∷ t) = Clear g t × (count g.id g.holder t ≡ 0) × Sound t

-- this holder and this id are those
abbrev pub is_pair : Id → Process → Id → Process → Bool
is_pair id p j q = is_id id j && is_process p q

pub pair_same : (id : Id) (p : Process) (j : Id) (q : Process) → is_pair id p j q ≡ true → (id ≡ j) × (p ≡ q)
pair_same id p j q e =
    let parts : (is_id id j ≡ true) × (is_process p q ≡ true) = both (is_id id j) (is_process p q) e in
    (is_id_same id j parts.0, is_process_same p q parts.1)

pub pair_self : (id : Id) (p : Process) → is_pair id p id p ≡ true
pair_self id p = rw (is_id_self id, is_process_self p) refl

pub pair_swap : (id : Id) (p : Process) (j : Id) (q : Process) → is_pair id p j q ≡ false → is_pair j q id p ≡ false
pair_swap id p j q e = go (is_pair j q id p) refl
  where
    go : (b : Bool) → is_pair j q id p ≡ b → b ≡ false
    go false h = refl
    go true h =
        let same : (j ≡ id) × (q ≡ p) = pair_same j q id p h in
        let back : is_pair id p j q ≡ true = subst (λ (i : Id). is_pair id p i q ≡ true) (sym same.0)
        (subst (λ (x : Process). is_pair id p id x ≡ true) (sym same.1) (pair_self id p)) in
        cc (back, e)

-- where the grant is of one pair, it isn't of another
grant_of_other : (g : Grant) (id : Id) (p : Process) (j : Id) (q : Process) → is_grant_of id p g ≡ true
    → is_pair id p j q ≡ false → is_grant_of j q g ≡ false
grant_of_other g id p j q here ne =
    let same : (g.id ≡ id) × (g.holder ≡ p) = pair_same g.id g.holder id p here in
    subst (λ (i : Id). is_pair i g.holder j q ≡ false) (sym same.0)
    (subst (λ (x : Process). is_pair id x j q ≡ false) (sym same.1) ne)

pub count-grant_same : (id : Id) (p : Process) (t : Locks) → count id p (grant id p t) ≡ count id p t + 1
count-grant_same id p [] = rw (pair_self id p) refl
count-grant_same id p (g ∷ t) = go (is_grant_of id p g) refl (count-grant_same id p t)
  where
    go : (b : Bool) → is_grant_of id p g ≡ b → count id p (grant id p t) ≡ count id p t + 1
        → count id p (if b then record g { count = g.count + 1 } ∷ t else g ∷ grant id p t) ≡
        (if b then g.count else count id p t) + 1
    go true e h = rw e refl
    go false e h = rw e h

pub count-grant_other : (id : Id) (p : Process) (j : Id) (q : Process) (t : Locks) → is_pair id p j q ≡ false
    → count j q (grant id p t) ≡ count j q t
count-grant_other id p j q [] ne = rw ne refl
count-grant_other id p j q (g ∷ t) ne = go (is_grant_of id p g) refl (count-grant_other id p j q t ne)
  where
    go : (b : Bool) → is_grant_of id p g ≡ b → count j q (grant id p t) ≡ count j q t
        → count j q (if b then record g { count = g.count + 1 } ∷ t else g ∷ grant id p t) ≡
        (if is_grant_of j q g then g.count else count j q t)
    go true e h = rw (grant_of_other g id p j q e ne) refl
    go false e h = ap (λ (k : ℕ). if is_grant_of j q g then g.count else k) h

pub count-give_back_same : (id : Id) (p : Process) (t : Locks) → Sound t
    → count id p (give_back id p t) ≡ count id p t - 1
count-give_back_same id p [] s = refl
count-give_back_same id p (g ∷ t) s = go (is_grant_of id p g) refl (count-give_back_same id p t s.2)
  where
    gone : is_grant_of id p g ≡ true → (c : Bool) → nat_lt 1 g.count ≡ c
        → count id p (if c then record g { count = g.count - 1 } ∷ t else t) ≡ g.count - 1
    gone e true c = rw e refl
    gone e false c =
        let same : (g.id ≡ id) × (g.holder ≡ p) = pair_same g.id g.holder id p e in
        let none : count id p t ≡ 0 = subst (λ (i : Id). count i p t ≡ 0) same.0
        (subst (λ (x : Process). count g.id x t ≡ 0) same.1 s.1) in
        none ∙ few c
      where
        few : nat_lt 1 g.count ≡ false → 0 ≡ g.count - 1
        few c = grind (arith, nat_tests)

    go : (b : Bool) → is_grant_of id p g ≡ b → count id p (give_back id p t) ≡ count id p t - 1
        → count id p (if b then (if nat_lt 1 g.count then record g { count = g.count - 1 } ∷ t else t) else g ∷
        give_back id p t) ≡ (if b then g.count else count id p t) - 1
    go true e h = gone e (nat_lt 1 g.count) refl
    go false e h = rw e h

pub count-give_back_other : (id : Id) (p : Process) (j : Id) (q : Process) (t : Locks) → is_pair id p j q ≡ false
    → count j q (give_back id p t) ≡ count j q t
count-give_back_other id p j q [] ne = refl
count-give_back_other id p j q (g ∷ t) ne = go (is_grant_of id p g) refl (count-give_back_other id p j q t ne)
  where
    gone : is_grant_of j q g ≡ false → (c : Bool) → count j q (if c then record g { count = g.count - 1 } ∷ t else t) ≡
        (if is_grant_of j q g then g.count else count j q t)
    gone e true = rw e refl
    gone e false = rw e refl

    go : (b : Bool) → is_grant_of id p g ≡ b → count j q (give_back id p t) ≡ count j q t
        → count j q (if b then (if nat_lt 1 g.count then record g { count = g.count - 1 } ∷ t else t) else g ∷
        give_back id p t) ≡ (if is_grant_of j q g then g.count else count j q t)
    go true e h = gone (grant_of_other g id p j q e ne) (nat_lt 1 g.count)
    go false e h = ap (λ (k : ℕ). if is_grant_of j q g then g.count else k) h

-- another holder's, under whatever id
pub pair_off : (id : Id) (p : Process) (j : Id) (q : Process) → is_process p q ≡ false → is_pair id p j q ≡ false
pair_off id p j q e = rw e (and-false (is_id id j))

-- the counts of the holder itself, by id
pub count-grant : (id : Id) (p : Process) (t : Locks) (j : Id)
    → count j p (grant id p t) ≡ (if is_id id j then count j p t + 1 else count j p t)
count-grant id p t j = go (is_id id j) refl
  where
    go : (b : Bool) → is_id id j ≡ b → count j p (grant id p t) ≡ (if b then count j p t + 1 else count j p t)
    go true e = subst (λ (i : Id). count i p (grant id p t) ≡ count i p t + 1) (is_id_same id j e)
        (count-grant_same id p t)
    go false e = count-grant_other id p j p t (rw e refl)

pub count-give_back : (id : Id) (p : Process) (t : Locks) → Sound t → (j : Id)
    → count j p (give_back id p t) ≡ (if is_id id j then count j p t - 1 else count j p t)
count-give_back id p t s j = go (is_id id j) refl
  where
    go : (b : Bool) → is_id id j ≡ b → count j p (give_back id p t) ≡ (if b then count j p t - 1 else count j p t)
    go true e = subst (λ (i : Id). count i p (give_back id p t) ≡ count i p t - 1) (is_id_same id j e)
        (count-give_back_same id p t s)
    go false e = count-give_back_other id p j p t (rw e refl)

-- grants that a test of the holder drops; who passes it keeps all counts
count-filter : (f : Process → Bool) (j : Id) (q : Process) (t : Locks) → f q ≡ true
    → count j q (filter (λ g. f g.holder) t) ≡ count j q t
count-filter f j q [] h = refl
count-filter f j q (g ∷ t) h = go (f g.holder) refl (count-filter f j q t h)
  where
    lost : f g.holder ≡ false → is_grant_of j q g ≡ false
    lost e = case (is_grant_of j q g) refl
      where
        case : (c : Bool) → is_grant_of j q g ≡ c → c ≡ false
        case false k = refl
        case true k =
            let same : (g.id ≡ j) × (g.holder ≡ q) = pair_same g.id g.holder j q k in
            let kept : f g.holder ≡ true = ap f same.1 ∙ h in
            cc (kept, e)

    go : (b : Bool) → f g.holder ≡ b → count j q (filter (λ g. f g.holder) t) ≡ count j q t
        → count j q (if b then g ∷ filter (λ g. f g.holder) t else filter (λ g. f g.holder) t) ≡
        (if is_grant_of j q g then g.count else count j q t)
    go true e k = ap (λ (n : ℕ). if is_grant_of j q g then g.count else n) k
    go false e k = rw (lost e) k

pub count-drop_holder : (p : Process) (j : Id) (q : Process) (t : Locks) → is_process q p ≡ false
    → count j q (drop_holder p t) ≡ count j q t
count-drop_holder p j q t ne = count-filter (λ x. not (is_process x p)) j q t (rw ne refl)

pub count-drop_node : (d : ℕ) (j : Id) (q : Process) (t : Locks) → (q.node == d) ≡ false
    → count j q (drop_node d t) ≡ count j q t
count-drop_node d j q t ne = count-filter (λ x. not (x.node == d)) j q t (rw ne refl)

-- a soundness that each change keeps
nothing_in_the_way : (id : Id) (p : Process) (t : Locks) → is_free_for id p t ≡ true → find (is_in_the_way id) t ≡ None
nothing_in_the_way id p t e = go (find (is_in_the_way id) t) e
  where
    go : (f : Option Grant) → is_none (refused_by id p t f) ≡ true → f ≡ None
    go None h = refl
    go (Some g) h = cc

clear-grant : (g : Grant) (id : Id) (p : Process) (t : Locks) → is_in_the_way id g ≡ false → Clear g t
    → Clear g (grant id p t)
clear-grant g id p [] h c = (h, tt)
clear-grant g id p (d ∷ t) h c = go (is_grant_of id p d) (clear-grant g id p t h c.1)
  where
    go : (b : Bool) → Clear g (grant id p t) → Clear g (if b then record d { count = d.count + 1 } ∷ t else d ∷ grant
        id p t)
    go true k = c
    go false k = (c.0, k)

find_none : (f : Grant → Bool) (g : Grant) (t : Locks) → find f (g ∷ t) ≡ None → (f g ≡ false) × (find f t ≡ None)
find_none f g t e = go (f g) refl e
  where
    go : (b : Bool) → f g ≡ b → (if b then Some g else find f t) ≡ None → (f g ≡ false) × (find f t ≡ None)
    go true k h = cc
    go false k h = (k, h)

sound_grant_by : (id : Id) (p : Process) (t : Locks) → find (is_in_the_way id) t ≡ None → Sound t → Sound (grant id p t)
sound_grant_by id p [] e s = (tt, refl, tt)
sound_grant_by id p (g ∷ t) e s =
    let parts : (is_in_the_way id g ≡ false) × (find (is_in_the_way id) t ≡ None) = find_none
    (is_in_the_way id) g t e in
    go (is_grant_of id p g) refl parts.0 (sound_grant_by id p t parts.1 s.2)
  where
    go : (b : Bool) → is_grant_of id p g ≡ b → is_in_the_way id g ≡ false → Sound (grant id p t)
        → Sound (if b then record g { count = g.count + 1 } ∷ t else g ∷ grant id p t)
    go true k h r = s
    go false k h r =
        (clear-grant g id p t h s.0, count-grant_other id p g.id g.holder t (pair_swap g.id g.holder id p k) ∙ s.1, r)

pub sound-grant : (id : Id) (p : Process) (t : Locks) → is_free_for id p t ≡ true → Sound t → Sound (grant id p t)
sound-grant id p t free s = sound_grant_by id p t (nothing_in_the_way id p t free) s

clear-give_back : (g : Grant) (id : Id) (p : Process) (t : Locks) → Clear g t → Clear g (give_back id p t)
clear-give_back g id p [] c = tt
clear-give_back g id p (d ∷ t) c = go (is_grant_of id p d) (nat_lt 1 d.count) (clear-give_back g id p t c.1)
  where
    go : (b more : Bool) → Clear g (give_back id p t)
        → Clear g (if b then (if more then record d { count = d.count - 1 } ∷ t else t) else d ∷ give_back id p t)
    go true true k = c
    go true false k = c.1
    go false more k = (c.0, k)

pub sound-give_back : (id : Id) (p : Process) (t : Locks) → Sound t → Sound (give_back id p t)
sound-give_back id p [] s = tt
sound-give_back id p (g ∷ t) s = go (is_grant_of id p g) (nat_lt 1 g.count) refl (sound-give_back id p t s.2)
  where
    go : (b more : Bool) → is_grant_of id p g ≡ b → Sound (give_back id p t)
        → Sound (if b then (if more then record g { count = g.count - 1 } ∷ t else t) else g ∷ give_back id p t)
    go true true k r = s
    go true false k r = s.2
    go false more k r = (
      clear-give_back g id p t s.0,
      count-give_back_other id p g.id g.holder t (pair_swap g.id g.holder id p k)
          ∙ s.1,
      r,
    )

sound-filter : (f : Process → Bool) (t : Locks) → Sound t → Sound (filter (λ g. f g.holder) t)
sound-filter f [] s = tt
sound-filter f (g ∷ t) s = go (f g.holder) refl (sound-filter f t s.2)
  where
    clear : (u : Locks) → Clear g u → Clear g (filter (λ h. f h.holder) u)
    clear [] c = tt
    clear (d ∷ u) c = keep (f d.holder) (clear u c.1)
      where
        keep : (b : Bool) → Clear g (filter (λ h. f h.holder) u) → Clear g
            (if b then d ∷ filter (λ h. f h.holder) u else filter (λ h. f h.holder) u)
        keep true k = (c.0, k)
        keep false k = k

    go : (b : Bool) → f g.holder ≡ b → Sound (filter (λ h. f h.holder) t)
        → Sound (if b then g ∷ filter (λ h. f h.holder) t else filter (λ h. f h.holder) t)
    go true e r = (clear t s.0, count-filter f g.id g.holder t e ∙ s.1, r)
    go false e r = r

pub sound-drop_holder : (p : Process) (t : Locks) → Sound t → Sound (drop_holder p t)
sound-drop_holder p t s = sound-filter (λ x. not (is_process x p)) t s

pub sound-drop_node : (d : ℕ) (t : Locks) → Sound t → Sound (drop_node d t)
sound-drop_node d t s = sound-filter (λ x. not (x.node == d)) t s

-- a grant that counts stands clear of those before it
clear_at : (g : Grant) (j : Id) (q : Process) (t : Locks) → Clear g t → 0 < count j q t → is_in_the_way j g ≡ false
clear_at g j q [] c h = absurd (omega (arith, h))
clear_at g j q (d ∷ t) c h = go (is_grant_of j q d) refl h (clear_at g j q t c.1)
  where
    go : (b : Bool) → is_grant_of j q d ≡ b → 0 < (if b then d.count else count j q t)
        → (0 < count j q t → is_in_the_way j g ≡ false)
        → is_in_the_way j g ≡ false
    go true e k r = subst (λ (i : Id). is_in_the_way i g ≡ false) (pair_same d.id d.holder j q e).0 c.0
    go false e k r = r k

in_no_way : (i j : Id) → (is_resource i j && not (is_id i j)) ≡ false → is_resource i j ≡ true → is_id i j ≡ true
in_no_way i j e r = go (is_id i j) (ap (λ (b : Bool). b && not (is_id i j)) (sym r) ∙ e)
  where
    go : (b : Bool) → not b ≡ false → b ≡ true
    go true h = refl
    go false h = cc

-- two holders of one resource have it under one id
pub one_requester : (t : Locks) → Sound t → (i : Id) (p : Process) (j : Id) (q : Process) → 0 < count i p t
    → 0 < count j q t → is_resource i j ≡ true → is_id i j ≡ true
one_requester [] s i p j q hi hj r = absurd (omega (arith, hi))
one_requester (g ∷ t) s i p j q hi hj r =
    go (is_grant_of i p g) (is_grant_of j q g) refl refl hi hj (λ x y. one_requester t s.2 i p j q x y r)
  where
    go : (b c : Bool) → is_grant_of i p g ≡ b → is_grant_of j q g ≡ c
        → 0 < (if b then g.count else count i p t) → 0 < (if c then g.count else count j q t)
        → (0 < count i p t → 0 < count j q t → is_id i j ≡ true) → is_id i j ≡ true
    go true true e f hi hj more =
        let one : i ≡ j = sym (pair_same g.id g.holder i p e).0 ∙ (pair_same g.id g.holder j q f).0 in
        subst (λ (x : Id). is_id i x ≡ true) one (is_id_self i)
    go true false e f hi hj more =
        let one : g.id ≡ i = (pair_same g.id g.holder i p e).0 in
        in_no_way i j (subst (λ (x : Id). (is_resource x j && not (is_id x j)) ≡ false) one (clear_at g j q t s.0 hj)) r
    go false true e f hi hj more =
        let one : g.id ≡ j = (pair_same g.id g.holder j q f).0 in
        let back : is_id j i ≡ true = in_no_way j i (subst (λ (x : Id). (is_resource x i && not (is_id x i)) ≡ false)
        one (clear_at g i p t s.0 hi)) (is_resource_swap i j r) in
        subst (λ (x : Id). is_id i x ≡ true) (sym (is_id_same j i back)) (is_id_self i)
    go false false e f hi hj more = more hi hj
