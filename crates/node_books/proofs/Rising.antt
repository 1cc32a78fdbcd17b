-- The moments of a node, one behind the other.
use Rattle.std.proofs.Common.{◌≡◌, ℕ, zero, suc, ◌<◌, Bool, true, false, List, [], ◌∷◌, ◌++◌, length, slice_index_or, refl, ap, sym, ◌∙◌, subst, arith, length-append}
use Rattle.std.specs.Prelude.{Contains}
use Rattle.std.proofs.lemmas.List.{get_or_append_left}
use mathlib.Core.List.{IsPrefix}
use Rattle.node_loop.specs.Held.{Looping}
use Rattle.node_loop.specs.Coming.{IsLoopOf}
use Rattle.node_books.specs.declared.moment.Moment.{Moment}
use Rattle.node_books.specs.Onward.{ComesFrom}
use Rattle.node_books.specs.Moments.{moment, IsLater, Rises, AreMoments, last_from, IsOpen, HasEnded, Follows, EndsAt, ArePast}
use Rattle.node_books.proofs.Onward.{comes_from_itself, comes_on, loop_on, logs_only_grow}

-- one more behind the last
pub last_snoc : (m : Moment) (ms : List Moment) (n : Moment) → last_from m (ms ++ n ∷ []) ≡ n
last_snoc m [] n = refl
last_snoc m (k ∷ ms) n = last_snoc k ms n

rises_snoc : (m : Moment) (ms : List Moment) (n : Moment) → Rises m ms → IsLater (last_from m ms) n → Rises m (ms ++ n ∷ [])
rises_snoc m [] n h up = (up, tt)
rises_snoc m (k ∷ ms) n h up = (h.0, rises_snoc k ms n h.1 up)

pub moments_snoc : (ended : Bool) (ms : List Moment) (a : Looping) → AreMoments ms → IsOpen ms → Follows ms a → AreMoments (ms ++ moment ended a ∷ [])
moments_snoc ended [] a h on f = (f, tt)
moments_snoc ended (m ∷ ms) a h on f = (h.0, rises_snoc m ms (moment ended a) h.1 (on, f.0, f.1))

pub open_snoc : (ms : List Moment) (a : Looping) → IsOpen (ms ++ moment false a ∷ [])
open_snoc [] a = refl
open_snoc (m ∷ ms) a = ap (λ (k : Moment). k.ended) (last_snoc m ms (moment false a))

pub ended_snoc : (ms : List Moment) (a : Looping) → HasEnded (ms ++ moment true a ∷ [])
ended_snoc [] a = refl
ended_snoc (m ∷ ms) a = ap (λ (k : Moment). k.ended) (last_snoc m ms (moment true a))

-- nothing comes behind an end
pub sealed : (xs ys : List Moment) → IsPrefix xs ys → AreMoments ys → HasEnded xs → xs ≡ ys
sealed [] ys p h e = absurd e
sealed (x ∷ xs) [] p h e = absurd (cc (p.1))
sealed (x ∷ xs) (y ∷ ys) p h e =
    let one : x ≡ y = cc (p.1) in
    let rest : xs ≡ ys = go y xs ys (p.0, cc (p.1)) h.1 (subst (λ (k : Moment). (last_from k xs).ended ≡ true) one e) in
    cc (one, rest)
  where
    go : (m : Moment) (us vs : List Moment) → IsPrefix us vs → Rises m vs → (last_from m us).ended ≡ true → us ≡ vs
    go m [] [] p h e = refl
    go m [] (v ∷ vs) p h e = absurd (cc (h.0.0, e))
    go m (u ∷ us) [] p h e = absurd (cc (p.1))
    go m (u ∷ us) (v ∷ vs) p h e =
        let one : u ≡ v = cc (p.1) in
        let rest : us ≡ vs = go v us vs (p.0, cc (p.1)) h.1 (subst (λ (k : Moment). (last_from k us).ended ≡ true) one e) in
        cc (one, rest)

-- the loop comes from each of these moments to the last
comes_to_last : (x : Moment) (xs : List Moment) → Rises x xs → ComesFrom x.node (last_from x xs).node
comes_to_last x [] h = comes_from_itself x.node
comes_to_last x (y ∷ ys) h = comes_on x.node y.node (last_from y ys).node h.0.1 (comes_to_last y ys h.1)

-- the moment at some place of these, which are of this node's loop: it is so too, and the loop came from there to the last
module _ (name : ℕ) (m : Moment) where
  at_place : (x : Moment) (xs : List Moment) (k : ℕ) → IsLoopOf name x.node → Rises x xs → k < length (x ∷ xs)
      → slice_index_or (x ∷ xs) k m ≡ m → IsLoopOf name m.node × ComesFrom m.node (last_from x xs).node
  at_place x xs zero is h lt e =
      subst (λ (y : Moment). IsLoopOf name y.node × ComesFrom y.node (last_from x xs).node) e (is, comes_to_last x xs h)
  at_place x [] (suc k) is h lt e = absurd (omega (arith, lt))
  at_place x (y ∷ ys) (suc k) is h lt e = at_place y ys k (loop_on name x.node y.node is h.0.1) h.1 (omega (arith, lt)) e

-- the last of these moments is this end
ends_at : (x : Moment) (xs : List Moment) (end : Looping) → EndsAt (x ∷ xs) end → last_from x xs ≡ moment true end
ends_at x xs end ([], e) = cc e
ends_at x xs end (y ∷ before, e) =
    let rest : xs ≡ before ++ moment true end ∷ [] = cc e in
    ap (λ (zs : List Moment). last_from x zs) rest ∙ last_snoc x before (moment true end)

-- each of these moments is past
pub are_past : (xs : List Moment) (end : Looping) → AreMoments xs → EndsAt xs end → ArePast xs end
are_past [] end h e m c = absurd (omega (arith, c.1))
are_past (x ∷ xs) end h e m c =
    let last : (last_from x xs).node ≡ end = ap (λ (k : Moment). k.node) (ends_at x xs end e) in
    let found = at_place x.node.log.node m x xs c.0 h.0 h.1 c.1 c.2 in
    let comes : ComesFrom m.node end = subst (ComesFrom m.node) last found.1 in
    let whole : ComesFrom x.node end = subst (ComesFrom x.node) last (comes_to_last x xs h.1) in record {
      loop = subst (λ (n : ℕ). IsLoopOf n m.node) (sym (logs_only_grow x.node end whole).node) found.0;
      comes = comes;
      log = logs_only_grow m.node end comes;
    }

-- what stands in a beginning stands in the whole
contains_on : (xs ys : List Moment) (m : Moment) → IsPrefix xs ys → Contains xs m → Contains ys m
contains_on xs ys m p c = subst (λ (zs : List Moment). Contains zs m) p.1 (
  c.0,
  omega (arith, c.1, length-append xs p.0),
  get_or_append_left xs p.0 m c.0 c.1 ∙ c.2,
)

-- so is each of a beginning of these
pub begins_past : (xs ys : List Moment) (end : Looping) → IsPrefix xs ys → AreMoments ys → EndsAt ys end → ArePast xs end
begins_past xs ys end p h e m c = are_past ys end h e m (contains_on xs ys m p c)
