-- What one grant more or less makes of a lock table where the id and the holder are listed once.
use Rattle.std.proofs.Common.{ℕ, suc, Bool, true, false, ◌==◌, ◌≡◌, ◌<◌, ◌≤◌, ◌+◌, ◌-◌, [], ◌∷◌, length, get_or, refl, ap, ◌∙◌, arith}
use Rattle.std.specs.Prelude.{if◌then◌else◌, not, nat_lt, filter, map, All, AllPairs}
use Rattle.std.proofs.lemmas.Bool.{eqb-true, lt-ltb, le-ltb}
use Rattle.std.proofs.lemmas.List.{get_or-map, length-map}
use Rattle.std.proofs.lemmas.List.Elements.{All-head, All-tail, All-map, All-weaker}
use Rattle.registry_model.specs.Process.{Process, is_process}
use Rattle.protocol_model.specs.Letter.{Id, Global, Client, is_id, is_resource}
use Rattle.protocol_model.specs.LockTable.{Grant, Locks, is_grant_of, count, grant, give_back, last_count}
use Rattle.lock_table.specs.Sound.{IsSound}
use Rattle.lock_table.proofs.Facts.{both}

same_id : (i j : Id) → is_id i j ≡ true → i ≡ j
same_id (Global a) (Global b) e = ap Global (eqb-true a b e)
same_id (Client r q) (Client s z) e =
    let h = both (r == s) (q == z) e in
    cc (eqb-true r s h.0, eqb-true q z h.1)
same_id (Global a) (Client s z) e = cc
same_id (Client r q) (Global b) e = cc

pub same_process : (p q : Process) → is_process p q ≡ true → p ≡ q
same_process p q e =
    let h = both (p.node == q.node) (p.serial == q.serial) e in
    ap (λ (n : ℕ). record p { node = n }) (eqb-true p.node q.node h.0)
    ∙ ap (λ (n : ℕ). record q { serial = n }) (eqb-true p.serial q.serial h.1)

module _ (id : Id) (p : Process) where
  -- the grant with this count, where it is of this id and holder
  abbrev pub recount : ℕ → Grant → Grant
  recount c g = if is_grant_of id p g then record g { count = c } else g

  abbrev Passes : Grant → Type 0
  Passes g = is_grant_of id p g ≡ true

  abbrev Fails : Grant → Type 0
  Fails g = is_grant_of id p g ≡ false

  -- where one grant is of this id and holder, no later one is
  abbrev AreOnce : Locks → Type 0
  AreOnce t = AllPairs (λ g h. is_grant_of id p g ≡ true → is_grant_of id p h ≡ false) t

  once : (t : Locks) → IsSound t → AreOnce t
  once t s i j d l w first = go (is_grant_of id p (get_or t j d)) refl
    where
      go : (b : Bool) → is_grant_of id p (get_or t j d) ≡ b → is_grant_of id p (get_or t j d) ≡ false
      go false e = e
      go true e =
          let h = both (is_id (get_or t j d).id id) (is_process (get_or t j d).holder p) e in
          absurd (cc (
            first,
            s.listed_once i j d l w,
            same_id (get_or t j d).id id h.0,
            same_process (get_or t j d).holder p h.1,
          ))

  behind : (g : Grant) (t : Locks) → AreOnce (g ∷ t) → AreOnce t
  behind g t s i j d l w = s (suc i) (suc j) d (omega (arith, l)) (omega (arith, w))

  others : (g : Grant) (t : Locks) → AreOnce (g ∷ t) → Passes g → All Fails t
  others g t s e k d l = s 0 (suc k) d (omega arith) (omega (arith, l)) e

  recount-none : (c : ℕ) (t : Locks) → All Fails t → map (recount c) t ≡ t
  recount-none c [] h = refl
  recount-none c (g ∷ t) h =
      rw (All-head Fails g t h) (ap (λ (u : Locks). g ∷ u) (recount-none c t (All-tail Fails g t h)))

  filter-none : (t : Locks) → All Fails t → filter (λ g. not (is_grant_of id p g)) t ≡ t
  filter-none [] h = refl
  filter-none (g ∷ t) h =
      rw (All-head Fails g t h) (ap (λ (u : Locks). g ∷ u) (filter-none t (All-tail Fails g t h)))

  grant_once : (c : ℕ) (t : Locks) → AreOnce t → count id p t ≡ c → 0 < c → grant id p t ≡ map (recount (c + 1)) t
  grant_once c [] s e more = absurd (omega (arith, e, more))
  grant_once c (g ∷ t) s e more =
      go (is_grant_of id p g) refl e (λ f. grant_once c t (behind g t s) f more)
    where
      go : (b : Bool) → is_grant_of id p g ≡ b → (if b then g.count else count id p t) ≡ c
          → (count id p t ≡ c → grant id p t ≡ map (recount (c + 1)) t)
          → (if b then record g { count = g.count + 1 } ∷ t else g ∷ grant id p t)
          ≡ (if b then record g { count = c + 1 } else g) ∷ map (recount (c + 1)) t
      go true i f r = rw (recount-none (c + 1) t (others g t s i), f) refl
      go false i f r = ap (λ (u : Locks). g ∷ u) (r f)

  pub grant-recount : (c : ℕ) (t : Locks) → IsSound t → count id p t ≡ c → 0 < c
      → grant id p t ≡ map (recount (c + 1)) t
  grant-recount c t s = grant_once c t (once t s)

  less_once : (c : ℕ) (t : Locks) → AreOnce t → count id p t ≡ c → 1 < c → give_back id p t ≡ map (recount (c - 1)) t
  less_once c [] s e more = absurd (omega (arith, e, more))
  less_once c (g ∷ t) s e more =
      go (is_grant_of id p g) refl e (λ f. less_once c t (behind g t s) f more)
    where
      go : (b : Bool) → is_grant_of id p g ≡ b → (if b then g.count else count id p t) ≡ c
          → (count id p t ≡ c → give_back id p t ≡ map (recount (c - 1)) t)
          → (if b then (if nat_lt 1 g.count then record g { count = g.count - 1 } ∷ t else t) else g ∷ give_back id p t)
          ≡ (if b then record g { count = c - 1 } else g) ∷ map (recount (c - 1)) t
      go true i f r = rw (recount-none (c - 1) t (others g t s i), f, lt-ltb 1 c more) refl
      go false i f r = ap (λ (u : Locks). g ∷ u) (r f)

  pub give_back-recount : (c : ℕ) (t : Locks) → IsSound t → count id p t ≡ c → 1 < c
      → give_back id p t ≡ map (recount (c - 1)) t
  give_back-recount c t s = less_once c t (once t s)

  gone_once : (c : ℕ) (t : Locks) → AreOnce t → count id p t ≡ c → c ≤ 1
      → give_back id p t ≡ filter (λ g. not (is_grant_of id p g)) t
  gone_once c [] s e last = refl
  gone_once c (g ∷ t) s e last =
      go (is_grant_of id p g) refl e (λ f. gone_once c t (behind g t s) f last)
    where
      go : (b : Bool) → is_grant_of id p g ≡ b → (if b then g.count else count id p t) ≡ c
          → (count id p t ≡ c → give_back id p t ≡ filter (λ h. not (is_grant_of id p h)) t)
          → (if b then (if nat_lt 1 g.count then record g { count = g.count - 1 } ∷ t else t) else g ∷ give_back id p t)
          ≡ (if not b then g ∷ filter (λ h. not (is_grant_of id p h)) t else filter (λ h. not (is_grant_of id p h)) t)
      go true i f r = rw (filter-none t (others g t s i), f, le-ltb 1 c last) refl
      go false i f r = ap (λ (u : Locks). g ∷ u) (r f)

  pub give_back-filter : (c : ℕ) (t : Locks) → IsSound t → count id p t ≡ c → c ≤ 1
      → give_back id p t ≡ filter (λ g. not (is_grant_of id p g)) t
  give_back-filter c t s = gone_once c t (once t s)

  -- a table stays sound
  recount-id : (c : ℕ) (g : Grant) → (recount c g).id ≡ g.id
  recount-id c g = go (is_grant_of id p g)
    where
      go : (b : Bool) → (if b then record g { count = c } else g).id ≡ g.id
      go true = refl
      go false = refl

  recount-holder : (c : ℕ) (g : Grant) → (recount c g).holder ≡ g.holder
  recount-holder c g = go (is_grant_of id p g)
    where
      go : (b : Bool) → (if b then record g { count = c } else g).holder ≡ g.holder
      go true = refl
      go false = refl

  recount-counted : (c : ℕ) (g : Grant) → (1 ≤ c) × (c ≤ last_count) → (1 ≤ g.count) × (g.count ≤ last_count)
      → (1 ≤ (recount c g).count) × ((recount c g).count ≤ last_count)
  recount-counted c g new old = go (is_grant_of id p g)
    where
      go : (b : Bool) → (1 ≤ (if b then record g { count = c } else g).count)
          × ((if b then record g { count = c } else g).count ≤ last_count)
      go true = new
      go false = old

  pairs : (R : Grant → Grant → Type 0) (c : ℕ) (t : Locks) → AllPairs (λ g h. R (recount c g) (recount c h)) t
      → AllPairs R (map (recount c) t)
  pairs R c t h i j d l w =
      let v : j < length t = omega (arith, w, length-map t (recount c)) in
      rw (get_or-map (recount c) t i d d (omega (arith, l, v)), get_or-map (recount c) t j d d v) (h i j d l v)

  pub sound-recount : (c : ℕ) (t : Locks) → (1 ≤ c) × (c ≤ last_count) → IsSound t → IsSound (map (recount c) t)
  sound-recount c t range s = record {
    one_requester = pairs (λ (g h : Grant). is_resource g.id h.id ≡ true → is_id g.id h.id ≡ true) c t
        (λ i j d l w. rw (recount-id c (get_or t i d), recount-id c (get_or t j d)) (s.one_requester i j d l w));
    listed_once = pairs (λ (g h : Grant). is_grant_of h.id h.holder g ≡ false) c t
        (λ i j d l w. rw (
          recount-id c (get_or t i d),
          recount-id c (get_or t j d),
          recount-holder c (get_or t i d),
          recount-holder c (get_or t j d),
        ) (s.listed_once i j d l w));
    counted = All-map (λ (g : Grant). (1 ≤ g.count) × (g.count ≤ last_count)) (recount c) t
        (All-weaker (λ (g : Grant). (1 ≤ g.count) × (g.count ≤ last_count))
        (λ (g : Grant). (1 ≤ (recount c g).count) × ((recount c g).count ≤ last_count))
        (λ g h. recount-counted c g range h) t s.counted);
  }
