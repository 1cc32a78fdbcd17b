-- Guarded steps are consistent: all their letters are such as a node relies on, by induction on stamps.
use Rattle.std.proofs.Common.{ℕ, zero, suc, Bool, true, false, ◌==◌, ◌<◌, List, [], ◌∷◌, ◌++◌, drop, length, All, subst, arith}
use Rattle.std.specs.Prelude.{if◌then◌else◌}
use Rattle.protocol_model.specs.Letter.{Letter}
use Rattle.protocol_model.specs.Node.{Node, opening_node}
use Rattle.protocol_model.specs.Turn.{sent_to}
use Rattle.protocol_model.specs.World.{Opening, in_cluster, WorldEvent, At, Deliver, place}
use Rattle.closings.specs.Alone.{Stamped, Made, stamped, letters_to, sent, Does, unread_after, Plays}
use Rattle.closings.specs.Guarded.{SaysFit, ReadsIfFit, DoesIfFit, AreGuarded, GuardedEndsAreConsistent}

module _ (fits : ℕ → ℕ → Letter → Type 0) where
  -- of these letters from f to t those with stamps below n are such
  abbrev FitBelow : ℕ → ℕ → ℕ → List Stamped → Type 0
  FitBelow n f t [] = Unit {0}
  FitBelow n f t (x ∷ xs) = (x.stamp < n → fits f t x.letter) × FitBelow n f t xs

  -- so are two lists of them, what is behind the first letter, and all letters below 0
  both : (n f t : ℕ) (xs ys : List Stamped) → FitBelow n f t xs → FitBelow n f t ys → FitBelow n f t (xs ++ ys)
  both n f t [] ys h k = k
  both n f t (x ∷ xs) ys h k = (h.0, both n f t xs ys h.1 k)

  rest : (n f t : ℕ) (xs : List Stamped) → FitBelow n f t xs → FitBelow n f t (drop 1 xs)
  rest n f t [] h = tt
  rest n f t (x ∷ xs) h = h.1

  none : (f t : ℕ) (xs : List Stamped) → FitBelow 0 f t xs
  none f t [] = tt
  none f t (x ∷ xs) = (λ l. absurd (never x.stamp l), none f t xs)
    where
      never : (k : ℕ) → k < 0 → ⊥
      never k l = omega (arith, l)

  -- so are letters of stamp m, where all of them are such if m is below n
  said : (n f t m : ℕ) (ls : List Letter) → (m < n → All (fits f t) ls) → FitBelow n f t (stamped m ls)
  said n f t m [] h = tt
  said n f t m (l ∷ ls) h =
      (λ k. h k 0 l (first (length ls)), said n f t m ls (λ k j d i. h k (suc j) d (next j (length ls) i)))
    where
      first : (x : ℕ) → 0 < suc x
      first x = omega arith

      next : (x y : ℕ) → x < y → suc x < suc y
      next x y h = omega (arith, h)

  -- what is left to be read is such, where all that was to be read is
  left_fit : (n t : ℕ) (e : WorldEvent) (letters : ℕ → List Stamped) → ((g : ℕ) → FitBelow n g t (letters g))
      → (g : ℕ) → FitBelow n g t (unread_after e letters g)
  left_fit n t (At a ev) letters h g = h g
  left_fit n t (Deliver x y) letters h g = go (g == x)
    where
      go : (b : Bool) → FitBelow n g t (if b then drop 1 (letters g) else letters g)
      go true = rest n g t (letters g) (h g)
      go false = h g

  -- what a step with a stamp of at most n sends is such, where what is to be read is such below n
  step_fit : (n : ℕ) (o : Opening) (letters : ℕ → List Stamped) (v : Node) (d : Made) (e : WorldEvent)
      → ((g : ℕ) → FitBelow n g (place e) (letters g)) → DoesIfFit fits o letters v d e → d.entry.stamp < suc n
      → SaysFit fits (place e) d
  step_fit n o letters v d (At a ev) h D l = D.1
  step_fit n o letters v d (Deliver f t) h D l = go (letters f) (h f) D
    where
      go : (ls : List Stamped) → FitBelow n f t ls → ReadsIfFit fits o t f ls v d → SaysFit fits t d
      go [] h R = absurd R
      go (x ∷ xs) h R = (R.1 (h.0 (below x.stamp d.entry.stamp R.0 l))).1
        where
          below : (x y : ℕ) → x < y → y < suc n → x < n
          below x y h k = omega (arith, h, k)

  -- so is all that a node's steps send, below n + 1
  log_fit : (n : ℕ) (o : Opening) (a : ℕ) (ds : List Made) (letters : ℕ → List Stamped) (v : Node)
      → ((g : ℕ) → FitBelow n g a (letters g)) → Plays (DoesIfFit fits) o a letters v ds → (t : ℕ) → FitBelow (suc n) a t (sent t ds)
  log_fit n o a [] letters v h P t = tt
  log_fit n o a (d ∷ ds) letters v h P t = both (suc n) a t (letters_to t d) (sent t ds)
      (said (suc n) a t d.entry.stamp (sent_to t d.sends)
      (λ l. subst (λ (x : ℕ). ((g : ℕ) → FitBelow n g x (letters g)) → SaysFit fits x d) P.0.own
      (λ k. step_fit n o letters v d d.entry.event k P.0.does l) h t))
      (log_fit n o a ds (unread_after d.entry.event letters) d.after (left_fit n a d.entry.event letters h) P.1 t)

  -- so, by induction, is all that anybody sends
  all_fit : (o : Opening) (course : ℕ → List Made) → AreGuarded fits o course
      → (n f t : ℕ) → FitBelow n f t (sent t (course f))
  all_fit o course G zero f t = none f t (sent t (course f))
  all_fit o course G (suc n) f t = log_fit n o f (course f) (λ g. sent f (course g)) (opening_node (in_cluster o) f)
      (λ g. all_fit o course G n g f) (G f) t

  -- then a node does what its step says
  does_it : (o : Opening) (letters : ℕ → List Stamped) (v : Node) (d : Made) (e : WorldEvent)
      → ((n g : ℕ) → FitBelow n g (place e) (letters g)) → DoesIfFit fits o letters v d e → Does o letters v d e
  does_it o letters v d (At a ev) h D = D.0
  does_it o letters v d (Deliver f t) h D = go (letters f) (λ n. h n f) D
    where
      go : (ls : List Stamped) → ((n : ℕ) → FitBelow n f t ls) → ReadsIfFit fits o t f ls v d → Does o (λ g. ls) v d (Deliver f t)
      go [] h R = R
      go (x ∷ xs) h R = (R.0, (R.1 ((h d.entry.stamp).0 R.0)).0)

  -- and so it does all its steps
  plays : (o : Opening) (a : ℕ) (ds : List Made) (letters : ℕ → List Stamped) (v : Node)
      → ((n g : ℕ) → FitBelow n g a (letters g)) → Plays (DoesIfFit fits) o a letters v ds → Plays Does o a letters v ds
  plays o a [] letters v h P = tt
  plays o a (d ∷ ds) letters v h P = (
    record {
      own = P.0.own;
      here = P.0.here;
      known = P.0.known;
      does = subst (λ (x : ℕ). ((n g : ℕ) → FitBelow n g x (letters g)) → Does o letters v d d.entry.event) P.0.own
          (λ k. does_it o letters v d d.entry.event k P.0.does) h;
      rises = P.0.rises;
      last = P.0.last;
    },
    plays o a ds (unread_after d.entry.event letters) d.after (λ n. left_fit n a d.entry.event letters (h n)) P.1,
  )

  pub guarded_ends_are_consistent : GuardedEndsAreConsistent fits
  guarded_ends_are_consistent o course G a = plays o a (course a) (λ f. sent a (course f)) (opening_node (in_cluster o) a)
      (λ n g. all_fit o course G n g a) (G a)
