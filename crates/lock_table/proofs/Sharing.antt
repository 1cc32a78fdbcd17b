-- Who shares each resource, as grants come, change and go.
use Rattle.std.proofs.Common.{ℕ, Bool, true, false, ◌==◌, ◌≡◌, ◌<◌, ◌≤◌, ◌+◌, ◌-◌, Option, Some, None, List, [], ◌∷◌, ◌++◌, length, cond, is_some, refl, sym, ap, subst, ◌∙◌, inl, inr, arith}
use Rattle.std.specs.Prelude.{if◌then◌else◌, ◌&&◌, nat_lt, not, All, MatchBool}
use Rattle.std.specs.List.{IsDistinct}
use Rattle.std.specs.Map.{keys_of, set_value}
use Rattle.std.proofs.lemmas.Bool.{eqb-true, eq-eqb, ltb-true, ltb-false}
use Rattle.std.proofs.lemmas.List.{map-append}
use Rattle.std.proofs.lemmas.List.Elements.{All-contains, All-nil, All-cons, Contains-append_right}
use Rattle.std.proofs.lemmas.List.Sorted.{IsPermutation-map, sum_by_popped}
use Rattle.std.proofs.lemmas.List.Sums.{sum_by-cons, sum_by_push, count_by-le-length}
use Rattle.std.proofs.lemmas.Map.{keys-set_value}
use Rattle.std.proofs.lemmas.Map.Views.{Contains-from_lookup, lookup-from_Contains}
use Rattle.std.proofs.lemmas.Option.{same_Some}
use Rattle.registry_model.specs.Process.{Text}
use Rattle.lock_table.specs.declared.grant.Key.{Key}
use Rattle.lock_table.specs.declared.grant.Held.{Held}
use Rattle.lock_table.specs.declared.sharers.Sharers.{Sharers}
use Rattle.lock_table.specs.Filed.{Entry, held_at, is_key}
use Rattle.lock_table.specs.Grants.{Gone, HasUnder, IsNoneOn, IsOpenTo, IsSomeOn}
use Rattle.lock_table.specs.Sharers.{IsOpen, IsShared, IsUnder, Joins, Leaves, Shared, grants_in, grants_on, less, more, sharers_of}
use Rattle.lock_table.proofs.Index.{Sets}
use Rattle.lock_table.proofs.Keys.{exact, key_laws}

-- What the number of grants on a resource tells
module _ (r : Text) where
  none_on : (es : List Entry) → grants_on r (keys_of es) ≡ 0 → IsNoneOn r es
  none_on [] zero = All-nil (λ (e : Entry). (e.0.resource == r) ≡ false)
  none_on (e ∷ es) zero =
      go (e.0.resource == r) refl (sum_by-cons (λ (k : Key). cond (k.resource == r) 1 0) e.0 (keys_of es))
      (none_on es)
    where
      P : Entry → Type 0
      P x = (x.0.resource == r) ≡ false

      go : (b : Bool) → (e.0.resource == r) ≡ b
          → grants_on r (keys_of (e ∷ es)) ≡ cond b 1 0 + grants_on r (keys_of es)
          → (grants_on r (keys_of es) ≡ 0 → All P es) → All P (e ∷ es)
      go true i sum rest = absurd (omega (arith, sum, zero))
      go false i sum rest = All-cons P e es i (rest (omega (arith, sum, zero)))

  some_on : (es : List Entry) → 0 < grants_on r (keys_of es) → IsSomeOn r es
  some_on [] more = absurd (omega (arith, more))
  some_on (e ∷ es) more =
      go (e.0.resource == r) refl (sum_by-cons (λ (k : Key). cond (k.resource == r) 1 0) e.0 (keys_of es))
      (some_on es)
    where
      go : (b : Bool) → (e.0.resource == r) ≡ b
          → grants_on r (keys_of (e ∷ es)) ≡ cond b 1 0 + grants_on r (keys_of es)
          → (0 < grants_on r (keys_of es) → IsSomeOn r es) → IsSomeOn r (e ∷ es)
      go true i sum rest = (e, (0, omega arith, refl), eqb-true e.0.resource r i)
      go false i sum rest =
          let h = rest (omega (arith, sum, more)) in (h.0, Contains-append_right (e ∷ []) es h.0 h.1, h.2)

-- what counting the first grant on a resource makes
pub joined-first : (old between new : Shared) (r q z y : Text) → sharers_of r old ≡ None → between ≡ old → z ≡ r
    → y ≡ q
    → ((x : Text) → sharers_of x new
    ≡ (if z == x then Some (record { requester = y; grants = 1 }) else sharers_of x between))
    → Joins r q old new
joined-first old between new r q z y none same i j h x = h x ∙ rw (same, i, j, none) refl

module _ (es : List Entry) (shared : Shared) (good : IsShared es shared) where
  -- what a look-up of a resource tells of what is filed
  some-filed : (r : Text) (s : Sharers) → sharers_of r shared ≡ Some s → IsSomeOn r es
  some-filed r s at =
      some_on r es (subst (λ (n : ℕ). 0 < n) (sym (ap grants_in at) ∙ good.counted r) (good.some r s at))

  none-filed : (r : Text) → sharers_of r shared ≡ None → IsNoneOn r es
  none-filed r none = none_on r es (sym (good.counted r) ∙ ap grants_in none)

  pub locked-filed : (r : Text) (b : Bool) → b ≡ is_some (sharers_of r shared)
      → MatchBool b (IsSomeOn r es) (IsNoneOn r es)
  locked-filed r b = go (sharers_of r shared) refl
    where
      go : (o : Option Sharers) → sharers_of r shared ≡ o → b ≡ is_some o → MatchBool b (IsSomeOn r es) (IsNoneOn r es)
      go None e same = subst (λ (x : Bool). MatchBool x (IsSomeOn r es) (IsNoneOn r es)) (sym same) (none-filed r e)
      go (Some s) e same =
          subst (λ (x : Bool). MatchBool x (IsSomeOn r es) (IsNoneOn r es)) (sym same) (some-filed r s e)

  pub under-filed : (r q : Text) → IsDistinct is_key (keys_of es) → IsUnder r q shared → HasUnder r es q
  under-filed r q once h =
      let e = some-filed r h.0 h.1 in
      let held : held_at es e.0.0 ≡ Some e.0.1 = lookup-from_Contains key_laws e.0.0 e.0.1 es once e.1 in (
        e.0,
        e.1,
        e.2,
        good.named e.0.0 e.0.1 h.0 held (ap (λ (s : Text). sharers_of s shared) e.2 ∙ h.1) ∙ h.2,
      )

  pub open-filed : (r q : Text) → IsDistinct is_key (keys_of es) → IsOpen r q shared → IsOpenTo r es q
  open-filed r q once (inl none) = inl (none-filed r none)
  open-filed r q once (inr h) = inr (under-filed r q once h)

  pub countable : (r : Text) → grants_in (sharers_of r shared) ≤ length (keys_of es)
  countable r =
      subst (λ (n : ℕ). n ≤ length (keys_of es)) (sym (good.counted r))
      (count_by-le-length (λ (k : Key). k.resource == r) (keys_of es))

  -- another count
  pub shared-recount : (k : Key) (v w : Held) → held_at es k ≡ Some v → w.requester ≡ v.requester
      → (fs : List Entry) → fs ≡ set_value (is_key k) es w → Sets k (Some w) es fs → IsShared fs shared
  shared-recount k v w found same fs set sets = record {
    counted = λ r. good.counted r
        ∙ ap (grants_on r) (sym (ap keys_of set ∙ keys-set_value (is_key k) es w));
    some = good.some;
    named = λ q u s at of. go q u s (is_key k q) refl (sym (sets q) ∙ at) of;
  }
    where
      go : (q : Key) (u : Held) (s : Sharers) (b : Bool) → is_key k q ≡ b → cond b (Some w) (held_at es q) ≡ Some u
          → sharers_of q.resource shared ≡ Some s → u.requester ≡ s.requester
      go q u s true i at of =
          let here : w ≡ u = same_Some w u at in
          sym (ap (λ (h : Held). h.requester) here) ∙ same
          ∙ good.named k v s found (ap (λ (z : Key). sharers_of z.resource shared) (exact k q i) ∙ of)
      go q u s false i at of = good.named q u s at of

  -- a first grant
  module _ (k : Key) (v : Held) (after : Shared)
      (free : All (λ (x : Entry). ((x.0.resource == k.resource) && not (x.1.requester == v.requester)) ≡ false) es)
      (once : IsDistinct is_key (keys_of es)) (joins : Joins k.resource v.requester shared after)
      (sets : Sets k (Some v) es (es ++ (k, v) ∷ [])) where
    abbrev Old : Option Sharers
    Old = sharers_of k.resource shared

    grants-more : (o : Option Sharers) → grants_in (Some (more v.requester o)) ≡ grants_in o + 1
    grants-more None = refl
    grants-more (Some s) = refl

    counted_first : (r : Text) → grants_in (sharers_of r after) ≡ grants_on r (keys_of (es ++ (k, v) ∷ []))
    counted_first r =
        go (k.resource == r) refl (joins r)
        ∙ sym (ap (grants_on r) (map-append (λ (e : Entry). e.0) es ((k, v) ∷ []))
        ∙ sum_by_push (λ (q : Key). cond (q.resource == r) 1 0) (keys_of es) k)
      where
        go : (b : Bool) → (k.resource == r) ≡ b
            → sharers_of r after ≡ (if b then Some (more v.requester Old) else sharers_of r shared)
            → grants_in (sharers_of r after) ≡ grants_on r (keys_of es) + cond b 1 0
        go true i e =
            ap grants_in e ∙ grants-more Old
            ∙ ap (λ (n : ℕ). n + 1)
            (good.counted k.resource ∙ ap (λ (s : Text). grants_on s (keys_of es)) (eqb-true k.resource r i))
        go false i e =
            let n = ap grants_in e ∙ good.counted r in omega (arith, n)

    some_first : (r : Text) (s : Sharers) → sharers_of r after ≡ Some s → 0 < s.grants
    some_first r s e = go (k.resource == r) (sym (joins r) ∙ e)
      where
        go : (b : Bool) → (if b then Some (more v.requester Old) else sharers_of r shared) ≡ Some s → 0 < s.grants
        go true f =
            let n : s.grants ≡ grants_in Old + 1 = sym (ap grants_in f) ∙ grants-more Old in omega (arith, n)
        go false f = good.some r s f

    -- the sharers stay under the requester
    kept_name : (o : Option Sharers) → Old ≡ o → (s : Sharers) → Some (more v.requester o) ≡ Some s
        → v.requester ≡ s.requester
    kept_name None e s f = ap (λ (z : Sharers). z.requester) (same_Some (more v.requester None) s f)
    kept_name (Some t) e s f =
        let h = under-filed k.resource t.requester once (t, e, refl) in
        let clear = All-contains (λ (x : Entry). ((x.0.resource == k.resource) && not (x.1.requester == v.requester)) ≡ false)
        es h.0 free h.1 in
        sym (own (h.0.0.resource == k.resource) (h.0.1.requester == v.requester)
        (eq-eqb h.0.0.resource k.resource h.2) clear (eqb-true h.0.1.requester v.requester))
        ∙ h.3 ∙ ap (λ (z : Sharers). z.requester) (same_Some (more v.requester (Some t)) s f)
      where
        own : {P : Type 0} (a b : Bool) → a ≡ true → (a && not b) ≡ false → (b ≡ true → P) → P
        own true true i h rest = rest refl
        own true false i h rest = absurd (cc h)
        own false b i h rest = absurd (cc i)

    named_first : (q : Key) (u : Held) (s : Sharers) → held_at (es ++ (k, v) ∷ []) q ≡ Some u
        → sharers_of q.resource after ≡ Some s → u.requester ≡ s.requester
    named_first q u s at of = go (is_key k q) refl (sym (sets q) ∙ at)
      where
        named : (b : Bool) → (k.resource == q.resource) ≡ b
            → (if b then Some (more v.requester Old) else sharers_of q.resource shared) ≡ Some s
            → held_at es q ≡ Some u → u.requester ≡ s.requester
        named true i f old = by Old refl f
          where
            on : q.resource ≡ k.resource
            on = sym (eqb-true k.resource q.resource i)

            by : (o : Option Sharers) → Old ≡ o → Some (more v.requester o) ≡ Some s → u.requester ≡ s.requester
            by None e g =
                let other = All-contains (λ (x : Entry). (x.0.resource == k.resource) ≡ false) es (q, u)
                (none-filed k.resource e) (Contains-from_lookup exact q u es old) in
                absurd (cc (other, eq-eqb q.resource k.resource on))
            by (Some t) e g =
                good.named q u t old (ap (λ (z : Text). sharers_of z shared) on ∙ e)
                ∙ ap (λ (z : Sharers). z.requester) (same_Some (more v.requester (Some t)) s g)
        named false i f old = good.named q u s old f

        go : (b : Bool) → is_key k q ≡ b → cond b (Some v) (held_at es q) ≡ Some u → u.requester ≡ s.requester
        go true i f =
            let on : k.resource ≡ q.resource = ap (λ (z : Key). z.resource) (exact k q i) in
            let here : v ≡ u = same_Some v u f in
            sym (ap (λ (h : Held). h.requester) here)
            ∙ kept_name Old refl s
            (sym (joins k.resource ∙ ap (λ (b : Bool). if b then Some (more v.requester Old) else Old)
            (eq-eqb k.resource k.resource refl))
            ∙ ap (λ (z : Text). sharers_of z after) on ∙ of)
        go false i f = named (k.resource == q.resource) refl (sym (joins q.resource) ∙ of) f

    pub shared-first : IsShared (es ++ (k, v) ∷ []) after
    shared-first = record { counted = counted_first; some = some_first; named = named_first }

  -- a grant is gone
  module _ (k : Key) (fs : List Entry) (after : Shared) (gone : Gone k es fs)
      (leaves : Leaves k.resource shared after) (sets : Sets k None es fs) where
    abbrev Was : Option Sharers
    Was = sharers_of k.resource shared

    counted_gone : (r : Text) → grants_in (sharers_of r after) ≡ grants_on r (keys_of fs)
    counted_gone r = go (k.resource == r) refl (leaves r) (subst (λ (x : Key).
        grants_on r (keys_of fs) + cond (x.resource == r) 1 0 ≡ grants_on r (keys_of es)) (sym (exact k gone.0.0 gone.1))
        (sum_by_popped (λ (q : Key). cond (q.resource == r) 1 0) gone.0.0 (keys_of es) (keys_of fs)
        (IsPermutation-map (λ (e : Entry). e.0) es (gone.0 ∷ fs) gone.2)))
      where
        by : (o : Option Sharers) (n : ℕ) → grants_in o ≡ n + 1 → grants_in (less o) ≡ n
        by None n e = absurd (omega (arith, e))
        by (Some s) n e = last (nat_lt 1 s.grants) refl
          where
            last : (b : Bool) → nat_lt 1 s.grants ≡ b
                → grants_in (if b then Some (record s { grants = s.grants - 1 }) else None) ≡ n
            last true i = omega (arith, e)
            last false i = let l = ltb-false 1 s.grants i in omega (arith, e, l)

        go : (b : Bool) → (k.resource == r) ≡ b → sharers_of r after ≡ (if b then less Was else sharers_of r shared)
            → grants_on r (keys_of fs) + cond b 1 0 ≡ grants_on r (keys_of es)
            → grants_in (sharers_of r after) ≡ grants_on r (keys_of fs)
        go true i e sum =
            ap grants_in e
            ∙ by Was (grants_on r (keys_of fs))
            (good.counted k.resource ∙ ap (λ (s : Text). grants_on s (keys_of es)) (eqb-true k.resource r i) ∙ sym sum)
        go false i e sum =
            let n = ap grants_in e ∙ good.counted r in omega (arith, n, sum)

    -- who still has the resource
    left : (o : Option Sharers) (s : Sharers) → less o ≡ Some s
        → (t : Sharers) × (o ≡ Some t) × (t.requester ≡ s.requester) × (0 < s.grants)
    left None s e = absurd (cc e)
    left (Some t) s e = go (nat_lt 1 t.grants) refl e
      where
        go : (b : Bool) → nat_lt 1 t.grants ≡ b
            → (if b then Some (record t { grants = t.grants - 1 }) else None) ≡ Some s
            → (u : Sharers) × (Some t ≡ Some u) × (u.requester ≡ s.requester) × (0 < s.grants)
        go true i f =
            let same = same_Some (record t { grants = t.grants - 1 }) s f in
            let l = ltb-true 1 t.grants i in
            (t, refl, ap (λ (z : Sharers). z.requester) same, omega (arith, l, ap (λ (z : Sharers). z.grants) same))
        go false i f = absurd (cc f)

    some_gone : (r : Text) (s : Sharers) → sharers_of r after ≡ Some s → 0 < s.grants
    some_gone r s e = go (k.resource == r) (sym (leaves r) ∙ e)
      where
        go : (b : Bool) → (if b then less Was else sharers_of r shared) ≡ Some s → 0 < s.grants
        go true f = (left Was s f).3
        go false f = good.some r s f

    named_gone : (q : Key) (u : Held) (s : Sharers) → held_at fs q ≡ Some u → sharers_of q.resource after ≡ Some s
        → u.requester ≡ s.requester
    named_gone q u s at of = go (is_key k q) (sym (sets q) ∙ at)
      where
        named : (b : Bool) → (k.resource == q.resource) ≡ b
            → (if b then less Was else sharers_of q.resource shared) ≡ Some s → held_at es q ≡ Some u
            → u.requester ≡ s.requester
        named true i f old =
            let t = left Was s f in
            good.named q u t.0 old
            (ap (λ (r : Text). sharers_of r shared) (sym (eqb-true k.resource q.resource i)) ∙ t.1) ∙ t.2
        named false i f old = good.named q u s old f

        go : (b : Bool) → cond b None (held_at es q) ≡ Some u → u.requester ≡ s.requester
        go true f = absurd (cc f)
        go false f = named (k.resource == q.resource) refl (sym (leaves q.resource) ∙ of) f

    pub shared-gone : IsShared fs after
    shared-gone = record { counted = counted_gone; some = some_gone; named = named_gone }
