-- Where the grants of each holder stand, after a change of what is filed.
use Rattle.std.proofs.Common.{ℕ, Bool, true, false, ◌==◌, ◌≡◌, ◌<◌, Option, Some, None, List, refl, sym, ap, ◌∙◌, subst, arith}
use Rattle.std.specs.Prelude.{cond, All}
use Rattle.std.proofs.lemmas.Bool.{eqb-true, eq-eqb}
use Rattle.std.proofs.lemmas.List.Elements.{All-contains}
use Rattle.std.proofs.lemmas.Map.Views.{Contains-from_lookup}
use Rattle.registry_model.specs.Process.{Process, Text, is_process}
use Rattle.lock_table.specs.declared.grant.Key.{Key}
use Rattle.lock_table.specs.declared.grant.Held.{Held}
use Rattle.lock_table.specs.Filed.{Entry, held_at, is_key}
use Rattle.lock_table.specs.Index.{IsIndexed, Place, Places, SetsAt, StandsAs, is_place, place_at, resource_at}
use Rattle.lock_table.proofs.Changes.{same_process}
use Rattle.lock_table.proofs.Facts.{both}
use Rattle.lock_table.proofs.Keys.{exact, is_key_self}

place_exact : (p q : Place) → is_place p q ≡ true → p ≡ q
place_exact p q h =
    let e = both (is_process q.holder p.holder) (q.number == p.number) h in
    ap (λ (n : ℕ). record p { number = n }) (sym (eqb-true q.number p.number e.1))
    ∙ ap (λ (o : Process). record q { holder = o }) (sym (same_process q.holder p.holder e.0))

is_place_self : (p : Place) → is_place p p ≡ true
is_place_self p = rw (
  eq-eqb p.holder.node p.holder.node refl,
  eq-eqb p.holder.serial p.holder.serial refl,
  eq-eqb p.number p.number refl,
) refl

-- what stands at a place that is this one
at_same : (p q : Place) (x : Places) (r : Text) → p ≡ q → resource_at x q ≡ Some r
    → resource_at x p ≡ Some r
at_same p q x r same e = ap (resource_at x) same ∙ e

same_value : {X : Type 0} (o : Option X) (a b : X) → o ≡ Some a → o ≡ Some b → a ≡ b
same_value o a b e f = cc (e, f)

-- n has w at the key k, and at the other keys what m has
abbrev pub Sets : Key → Option Held → List Entry → List Entry → Type 0
Sets k w m n = (q : Key) → held_at n q ≡ cond (is_key k q) w (held_at m q)

-- the same grants, where each place has what it had
pub indexed-same : (m : List Entry) (x y : Places) → StandsAs x y → IsIndexed m x → IsIndexed m y
indexed-same m x y same ix = record {
  placed = λ k v held. same (place_at k.holder v.number) ∙ ix.placed k v held;
  filed = λ q r found. ix.filed q r (sym (same q) ∙ found);
}

module _ (m n : List Entry) (x y : Places) (ix : IsIndexed m x) where
  module _ (k : Key) (v : Held) where
    -- another count
    module _ (w : Held) (found : held_at m k ≡ Some v) (same : w.number ≡ v.number)
        (sets : Sets k (Some w) m n) where
      placed_recount : (q : Key) (u : Held) → held_at n q ≡ Some u
          → resource_at x (place_at q.holder u.number) ≡ Some q.resource
      placed_recount q u e = go (is_key k q) refl (sets q)
        where
          go : (b : Bool) → is_key k q ≡ b → held_at n q ≡ cond b (Some w) (held_at m q)
              → resource_at x (place_at q.holder u.number) ≡ Some q.resource
          go true i f =
              let here = same_value (held_at n q) w u f e in
              let numbers : v.number ≡ u.number = sym same ∙ ap (λ (h : Held). h.number) here in
              subst (λ (z : Key). resource_at x (place_at z.holder u.number) ≡ Some z.resource) (exact k q i)
              (subst (λ (j : ℕ). resource_at x (place_at k.holder j) ≡ Some k.resource) numbers
              (ix.placed k v found))
          go false i f = ix.placed q u (sym f ∙ e)

      filed_recount : (q : Place) (r : Text) → resource_at x q ≡ Some r
          → (u : Held) × (held_at n (record { resource = r; holder = q.holder }) ≡ Some u) × (u.number ≡ q.number)
      filed_recount q r e = go (is_key k z) refl (sets z)
        where
          z : Key
          z = record { resource = r; holder = q.holder }

          h : (u : Held) × (held_at m z ≡ Some u) × (u.number ≡ q.number)
          h = ix.filed q r e

          go : (b : Bool) → is_key k z ≡ b → held_at n z ≡ cond b (Some w) (held_at m z)
              → (u : Held) × (held_at n z ≡ Some u) × (u.number ≡ q.number)
          go true i f =
              let here = same_value (held_at m z) v h.0 (ap (held_at m) (sym (exact k z i)) ∙ found) h.1 in
              (w, f, same ∙ ap (λ (u : Held). u.number) here ∙ h.2)
          go false i f = (h.0, f ∙ h.1, h.2)

      pub indexed-recount : IsIndexed n x
      indexed-recount = record { placed = placed_recount; filed = filed_recount }

    -- a first grant
    module _ (absent : held_at m k ≡ None)
        (below : (q : Key) (u : Held) → held_at m q ≡ Some u → u.number < v.number)
        (sets : Sets k (Some v) m n)
        (places : SetsAt (place_at k.holder v.number) (Some k.resource) x y) where
      abbrev NewPlace : Place
      NewPlace = place_at k.holder v.number

      placed_first : (q : Key) (u : Held) → held_at n q ≡ Some u
          → resource_at y (place_at q.holder u.number) ≡ Some q.resource
      placed_first q u e = go (is_key k q) refl (sets q)
        where
          go : (b : Bool) → is_key k q ≡ b → held_at n q ≡ cond b (Some v) (held_at m q)
              → resource_at y (place_at q.holder u.number) ≡ Some q.resource
          go true i f =
              let here = same_value (held_at n q) v u f e in
              subst (λ (z : Key). resource_at y (place_at z.holder u.number) ≡ Some z.resource) (exact k q i)
              (subst (λ (h : Held). resource_at y (place_at k.holder h.number) ≡ Some k.resource) here
              (places NewPlace ∙ rw (is_place_self NewPlace) refl))
          go false i f =
              new (is_place NewPlace (place_at q.holder u.number)) refl (places (place_at q.holder u.number))
            where
              new : (b : Bool) → is_place NewPlace (place_at q.holder u.number) ≡ b
                  → resource_at y (place_at q.holder u.number)
                  ≡ cond b (Some k.resource) (resource_at x (place_at q.holder u.number))
                  → resource_at y (place_at q.holder u.number) ≡ Some q.resource
              new true j g =
                  let l : u.number < v.number = below q u (sym f ∙ e) in
                  let s : v.number ≡ u.number =
                  ap (λ (z : Place). z.number) (place_exact NewPlace (place_at q.holder u.number) j) in
                  absurd (omega (arith, l, s))
              new false j g = g ∙ ix.placed q u (sym f ∙ e)

      filed_first : (q : Place) (r : Text) → resource_at y q ≡ Some r
          → (u : Held) × (held_at n (record { resource = r; holder = q.holder }) ≡ Some u) × (u.number ≡ q.number)
      filed_first q r e = go (is_place NewPlace q) refl (places q)
        where
          z : Key
          z = record { resource = r; holder = q.holder }

          go : (b : Bool) → is_place NewPlace q ≡ b → resource_at y q ≡ cond b (Some k.resource) (resource_at x q)
              → (u : Held) × (held_at n z ≡ Some u) × (u.number ≡ q.number)
          go true i f =
              let s : NewPlace ≡ q = place_exact NewPlace q i in
              let same : k ≡ z =
              ap (λ (t : Text). record k { resource = t }) (same_value (resource_at y q) k.resource r f e)
              ∙ ap (λ (o : Process). record z { holder = o }) (ap (λ (t : Place). t.holder) s) in
              (v, ap (held_at n) (sym same) ∙ sets k ∙ rw (is_key_self k) refl, ap (λ (t : Place). t.number) s)
          go false i f = old (ix.filed q r (sym f ∙ e))
            where
              old : (u : Held) × (held_at m z ≡ Some u) × (u.number ≡ q.number)
                  → (u : Held) × (held_at n z ≡ Some u) × (u.number ≡ q.number)
              old h = new (is_key k z) refl (sets z)
                where
                  new : (b : Bool) → is_key k z ≡ b → held_at n z ≡ cond b (Some v) (held_at m z)
                      → (u : Held) × (held_at n z ≡ Some u) × (u.number ≡ q.number)
                  new true j g = absurd (cc (absent, ap (held_at m) (exact k z j), h.1))
                  new false j g = (h.0, g ∙ h.1, h.2)

      pub indexed-first : IsIndexed n y
      indexed-first = record { placed = placed_first; filed = filed_first }

    -- a grant is gone
    module _ (found : held_at m k ≡ Some v) (sets : Sets k None m n)
        (places : SetsAt (place_at k.holder v.number) None x y) where
      abbrev OldPlace : Place
      OldPlace = place_at k.holder v.number

      placed_gone : (q : Key) (u : Held) → held_at n q ≡ Some u
          → resource_at y (place_at q.holder u.number) ≡ Some q.resource
      placed_gone q u e = go (is_key k q) refl (sets q)
        where
          t : Place
          t = place_at q.holder u.number

          go : (b : Bool) → is_key k q ≡ b → held_at n q ≡ cond b None (held_at m q)
              → resource_at y t ≡ Some q.resource
          go true i f = absurd (cc (f, e))
          go false i f = new (is_place OldPlace t) refl (places t)
            where
              was : resource_at x t ≡ Some q.resource
              was = ix.placed q u (sym f ∙ e)

              new : (b : Bool) → is_place OldPlace t ≡ b
                  → resource_at y t ≡ cond b None (resource_at x t)
                  → resource_at y t ≡ Some q.resource
              new true j g =
                  let s : OldPlace ≡ t = place_exact OldPlace t j in
                  let on : k.resource ≡ q.resource =
                  same_value (resource_at x OldPlace) k.resource q.resource (ix.placed k v found)
                  (at_same OldPlace t x q.resource s was) in
                  let same : k ≡ q =
                  ap (λ (r : Text). record k { resource = r }) on
                  ∙ ap (λ (o : Process). record q { holder = o }) (ap (λ (z : Place). z.holder) s) in
                  let self : is_key k q ≡ true =
                  subst (λ (z : Key). is_key k z ≡ true) same (is_key_self k) in
                  absurd (cc (i, self))
              new false j g = g ∙ was

      filed_gone : (q : Place) (r : Text) → resource_at y q ≡ Some r
          → (u : Held) × (held_at n (record { resource = r; holder = q.holder }) ≡ Some u) × (u.number ≡ q.number)
      filed_gone q r e = go (is_place OldPlace q) refl (places q)
        where
          z : Key
          z = record { resource = r; holder = q.holder }

          go : (b : Bool) → is_place OldPlace q ≡ b → resource_at y q ≡ cond b None (resource_at x q)
              → (u : Held) × (held_at n z ≡ Some u) × (u.number ≡ q.number)
          go true i f = absurd (cc (f, e))
          go false i f = old (ix.filed q r (sym f ∙ e))
            where
              old : (u : Held) × (held_at m z ≡ Some u) × (u.number ≡ q.number)
                  → (u : Held) × (held_at n z ≡ Some u) × (u.number ≡ q.number)
              old h = new (is_key k z) refl (sets z)
                where
                  new : (b : Bool) → is_key k z ≡ b → held_at n z ≡ cond b None (held_at m z)
                      → (u : Held) × (held_at n z ≡ Some u) × (u.number ≡ q.number)
                  new true j g =
                      let same : k ≡ z = exact k z j in
                      let here : v ≡ h.0 =
                      same_value (held_at m z) v h.0 (ap (held_at m) (sym same) ∙ found) h.1 in
                      let s : OldPlace ≡ q =
                      ap (λ (o : Process). place_at o v.number) (ap (λ (t : Key). t.holder) same)
                      ∙ ap (λ (j : ℕ). place_at q.holder j) (ap (λ (u : Held). u.number) here ∙ h.2) in
                      let self : is_place OldPlace q ≡ true =
                      subst (λ (t : Place). is_place OldPlace t ≡ true) s (is_place_self OldPlace) in
                      absurd (cc (i, self))
                  new false j g = (h.0, g ∙ h.1, h.2)

      pub indexed-gone : IsIndexed n y
      indexed-gone = record { placed = placed_gone; filed = filed_gone }

-- all numbers are below n
pub number_below : (n : ℕ) (m : List Entry) → All (λ (e : Entry). e.1.number < n) m
    → (q : Key) (u : Held) → held_at m q ≡ Some u → u.number < n
number_below n m below q u e =
    All-contains (λ (x : Entry). x.1.number < n) m (q, u) below (Contains-from_lookup exact q u m e)
