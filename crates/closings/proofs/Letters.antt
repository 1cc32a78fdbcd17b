-- Letters that were sent and not read.
use Rattle.std.proofs.Common.{ℕ, ◌==◌, ◌≡◌, ◌<◌, ◌≤◌, ◌⊎◌, inl, inr, List, [], ◌∷◌, ◌++◌, map, drop, refl, sym, ap, subst, ◌∙◌, arith, append_assoc, append-nil}
use Rattle.std.specs.Prelude.{if◌then◌else◌}
use Rattle.registry_model.specs.Process.{at}
use Rattle.registry_model.proofs.Updates.{by_test}
use Rattle.protocol_model.specs.Letter.{Letter}
use Rattle.protocol_model.specs.Node.{Node}
use Rattle.protocol_model.specs.Turn.{sent_to}
use Rattle.protocol_model.specs.World.{Opening, WorldEvent, At, Deliver, place}
use Rattle.closings.specs.Alone.{Stamped, Made, stamped, letters_to, sent, Does, unread_after, StartsAbove, Plays}

-- a letter without its stamp
abbrev pub letter_of : Stamped → Letter
letter_of s = s.letter

-- the empty list has no front
pub no_cons : {X : Type 0} (x : X) (xs : List X) → [] ≡ x ∷ xs → ⊥
no_cons x xs e = cc

-- none of these steps has a stamp below n
abbrev pub AllFrom : ℕ → List Made → Type 0
AllFrom n [] = Unit {0}
AllFrom n (d ∷ ds) = (n ≤ d.entry.stamp) × AllFrom n ds

-- the first of these steps, if there is one, hasn't
abbrev pub StartsFrom : ℕ → List Made → Type 0
StartsFrom n [] = Unit {0}
StartsFrom n (d ∷ ds) = n ≤ d.entry.stamp

weaken : (n m : ℕ) (ds : List Made) → n ≤ m → AllFrom m ds → AllFrom n ds
weaken n m [] l h = tt
weaken n m (d ∷ ds) l h = (omega (arith, l, h.0), weaken n m ds l h.1)

starts_above : (n : ℕ) (ds : List Made) → StartsAbove n ds → StartsFrom n ds
starts_above n [] h = tt
starts_above n (d ∷ ds) h = omega (arith, h)

-- the stamps of a log that is played alone rise
pub rising : (o : Opening) (a : ℕ) (ds : List Made) (letters : ℕ → List Stamped) (v : Node) (n : ℕ)
    → Plays Does o a letters v ds → StartsFrom n ds → AllFrom n ds
rising o a [] letters v n P b = tt
rising o a (d ∷ ds) letters v n P b = (
  b,
  weaken n d.entry.stamp ds b
      (rising o a ds (unread_after d.entry.event letters) d.after d.entry.stamp P.1 (starts_above d.entry.stamp ds P.0.rises)),
)

-- the first letter has the stamp of the first step, or that step sends none
stamp_of_first : (n : ℕ) (ls : List Letter) (x : Stamped) (xs rest : List Stamped)
    → stamped n ls ++ rest ≡ x ∷ xs → (x.stamp ≡ n) ⊎ (rest ≡ x ∷ xs)
stamp_of_first n [] x xs rest e = inr e
stamp_of_first n (l ∷ ls) x xs rest e = inl (first e)
  where
    first : {y : Stamped} {ys : List Stamped} → y ∷ ys ≡ x ∷ xs → x.stamp ≡ y.stamp
    first e = cc

-- the first letter that these steps send has no stamp below n
pub sent_later : (n c : ℕ) (ds : List Made) (x : Stamped) (xs : List Stamped) → AllFrom n ds → sent c ds ≡ x ∷ xs
    → n ≤ x.stamp
sent_later n c [] x xs h e = absurd (no_cons x xs e)
sent_later n c (d ∷ ds) x xs h e =
    elim (stamp_of_first d.entry.stamp (sent_to c d.sends) x xs (sent c ds) e) [
      | inl s ↦ subst (λ (m : ℕ). n ≤ m) (sym s) h.0
      | inr r ↦ sent_later n c ds x xs h.1 r
    ]

-- a letter that was sent before all steps that are left is the oldest on its link
pub front : (n c : ℕ) (ds : List Made) (q : List Stamped) (x : Stamped) (xs : List Stamped) → AllFrom n ds
    → q ++ sent c ds ≡ x ∷ xs → x.stamp < n → q ≡ x ∷ drop 1 q
front n c ds [] x xs h e l = absurd (later (sent_later n c ds x xs h e))
  where
    later : n ≤ x.stamp → ⊥
    later k = omega (arith, k, l)
front n c ds (y ∷ q) x xs h e l = same e
  where
    same : {ys : List Stamped} → y ∷ ys ≡ x ∷ xs → y ∷ q ≡ x ∷ q
    same e = cc

-- where the oldest letter waits, it is taken of what waits
pub drop_append : (q : List Stamped) (x : Stamped) (rest : List Stamped) → q ≡ x ∷ drop 1 q
    → drop 1 (q ++ rest) ≡ drop 1 q ++ rest
drop_append [] x rest e = absurd (no_cons x [] e)
drop_append (y ∷ q) x rest e = refl

pub letters_are : (n : ℕ) (ls : List Letter) → map letter_of (stamped n ls) ≡ ls
letters_are n [] = refl
letters_are n (l ∷ ls) = ap (λ (ks : List Letter). l ∷ ks) (letters_are n ls)

-- what waits on links, once an event has taken its letter
abbrev pub taken_by : WorldEvent → (ℕ → ℕ → List Stamped) → ℕ → ℕ → List Stamped
taken_by (At a e) q f t = q f t
taken_by (Deliver x y) q f t = if f == x then (if t == y then drop 1 (q f t) else q f t) else q f t

-- and what waits on them behind the step
abbrev pub waiting_after : Made → (ℕ → ℕ → List Stamped) → ℕ → ℕ → List Stamped
waiting_after d q f t =
    taken_by d.entry.event q f t ++ (if f == place d.entry.event then letters_to t d else [])

module _ (a c : ℕ) (d : Made) (ds : List Made) (left : ℕ → List Made) (is : left a ≡ d ∷ ds) (q : ℕ → List Stamped) where
  -- what a step sends was still to be sent before it, and waits behind it
  pub same_letters : (f : ℕ) → (q f ++ (if f == a then letters_to c d else [])) ++ sent c (at left a ds f) ≡ q f ++ sent c (left f)
  same_letters = by_test a
      (λ f t. (q f ++ (if t then letters_to c d else [])) ++ sent c (if t then ds else left f) ≡ q f ++ sent c (left f))
      (append_assoc (q a) (letters_to c d) (sent c ds) ∙ ap (λ (es : List Made). q a ++ sent c es) (sym is))
      (λ f ne. ap (λ (ls : List Stamped). ls ++ sent c (left f)) (append-nil (q f)))
