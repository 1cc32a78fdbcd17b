-- A node that is played alone, as its letters and its steps become more.
use Rattle.std.proofs.Common.{ℕ, false, ◌≡◌, ◌<◌, ◌≤◌, List, [], ◌∷◌, ◌++◌, drop, refl, sym, ap, subst, ◌∙◌, append_assoc, append-nil, true≢false, arith}
use Rattle.std.proofs.Math.Path.{fun_ext}
use Rattle.std.specs.Prelude.{if◌then◌else◌}
use Rattle.registry_model.proofs.Updates.{by_test}
use Rattle.protocol_model.specs.Letter.{Letter}
use Rattle.protocol_model.specs.Node.{Node}
use Rattle.protocol_model.specs.World.{Opening, WorldEvent, At, Deliver}
use Rattle.closings.specs.Alone.{Stamped, Made, letters_to, sent, unread_after, unread_behind, AreBelow, AreStaying, StartsAbove, is_leave, IsStep, Plays, node_behind}
use Rattle.closings.specs.Guarded.{ReadsIfFit, DoesIfFit}

module _ (fits : ℕ → ℕ → Letter → Type 0) (o : Opening) (more : ℕ → List Stamped) where
  -- what a node does it does too where it has more letters to read
  does_longer : (letters : ℕ → List Stamped) (v : Node) (d : Made) (e : WorldEvent) → DoesIfFit fits o letters v d e
      → DoesIfFit fits o (λ f. letters f ++ more f) v d e
  does_longer letters v d (At a ev) D = D
  does_longer letters v d (Deliver f t) D = go (letters f) D
    where
      go : (ls : List Stamped) → ReadsIfFit fits o t f ls v d → ReadsIfFit fits o t f (ls ++ more f) v d
      go [] R = absurd R
      go (l ∷ ls) R = R

  -- and leaves those unread
  unread_longer : (letters : ℕ → List Stamped) (v : Node) (d : Made) (e : WorldEvent) → DoesIfFit fits o letters v d e
      → unread_after e (λ f. letters f ++ more f) ≡ (λ f. unread_after e letters f ++ more f)
  unread_longer letters v d (At a ev) D = refl
  unread_longer letters v d (Deliver x t) D = fun_ext (by_test x
      (λ g b. (if b then drop 1 (letters g ++ more g) else letters g ++ more g) ≡ (if b then drop 1 (letters g) else letters g) ++ more g)
      (go (letters x) D) (λ g ne. refl))
    where
      go : (ls : List Stamped) → ReadsIfFit fits o t x ls v d → drop 1 (ls ++ more x) ≡ drop 1 ls ++ more x
      go [] R = absurd R
      go (l ∷ ls) R = refl

  -- so with all its steps
  pub plays_longer : (a : ℕ) (letters : ℕ → List Stamped) (v : Node) (ds : List Made) → Plays (DoesIfFit fits) o a letters v ds
      → Plays (DoesIfFit fits) o a (λ f. letters f ++ more f) v ds
  plays_longer a letters v [] P = tt
  plays_longer a letters v (d ∷ ds) P = (
    record {
      own = P.0.own;
      here = P.0.here;
      known = P.0.known;
      does = does_longer letters v d d.entry.event P.0.does;
      rises = P.0.rises;
      last = P.0.last;
    },
    subst (λ (ls : ℕ → List Stamped). Plays (DoesIfFit fits) o a ls d.after ds)
        (sym (unread_longer letters v d d.entry.event P.0.does))
        (plays_longer a (unread_after d.entry.event letters) d.after ds P.1),
  )

  pub unread_behind_longer : (a : ℕ) (letters : ℕ → List Stamped) (v : Node) (ds : List Made)
      → Plays (DoesIfFit fits) o a letters v ds
      → unread_behind (λ f. letters f ++ more f) ds ≡ (λ f. unread_behind letters ds f ++ more f)
  unread_behind_longer a letters v [] P = refl
  unread_behind_longer a letters v (d ∷ ds) P =
      ap (λ (ls : ℕ → List Stamped). unread_behind ls ds) (unread_longer letters v d d.entry.event P.0.does)
      ∙ unread_behind_longer a (unread_after d.entry.event letters) d.after ds P.1

-- one step more
module _ (Doing : Opening → (ℕ → List Stamped) → Node → Made → WorldEvent → Type 0) (o : Opening) (a : ℕ) (d : Made) where
  rises_on : (n : ℕ) (ds : List Made) → n < d.entry.stamp → StartsAbove n ds → StartsAbove n (ds ++ d ∷ [])
  rises_on n [] l h = l
  rises_on n (x ∷ ds) l h = h

  pub plays_more : (letters : ℕ → List Stamped) (v : Node) (ds : List Made) → Plays Doing o a letters v ds
      → AreBelow d.entry.stamp ds → AreStaying ds → IsStep Doing o a (unread_behind letters ds) (node_behind v ds) d []
      → Plays Doing o a letters v (ds ++ d ∷ [])
  plays_more letters v [] P below stay step = (step, tt)
  plays_more letters v (x ∷ ds) P below stay step = (
    record {
      own = P.0.own;
      here = P.0.here;
      known = P.0.known;
      does = P.0.does;
      rises = rises_on x.entry.stamp ds below.0 P.0.rises;
      last = λ leaves. absurd (true≢false (sym leaves ∙ stay.0));
    },
    plays_more (unread_after x.entry.event letters) x.after ds P.1 below.1 stay.1 step,
  )

-- steps with stamps below one have stamps below each greater one
pub below_from : (n m : ℕ) (ds : List Made) → n ≤ m → AreBelow n ds → AreBelow m ds
below_from n m [] l h = tt
below_from n m (x ∷ ds) l h = (below x.entry.stamp h.0, below_from n m ds l h.1)
  where
    below : (s : ℕ) → s < n → s < m
    below s i = omega (arith, i, l)

-- what stands behind one step more
module _ (d : Made) where
  pub node_on : (v : Node) (ds : List Made) → node_behind v (ds ++ d ∷ []) ≡ d.after
  node_on v [] = refl
  node_on v (x ∷ ds) = node_on x.after ds

  pub unread_on : (letters : ℕ → List Stamped) (ds : List Made)
      → unread_behind letters (ds ++ d ∷ []) ≡ unread_after d.entry.event (unread_behind letters ds)
  unread_on letters [] = refl
  unread_on letters (x ∷ ds) = unread_on (unread_after x.entry.event letters) ds

  pub sent_on : (t : ℕ) (ds : List Made) → sent t (ds ++ d ∷ []) ≡ sent t ds ++ letters_to t d
  sent_on t [] = append-nil (letters_to t d)
  sent_on t (x ∷ ds) = ap (λ (ls : List Stamped). letters_to t x ++ ls) (sent_on t ds)
      ∙ sym (append_assoc (letters_to t x) (sent t ds) (letters_to t d))

  pub below_on : (n : ℕ) (ds : List Made) → AreBelow n ds → d.entry.stamp < n → AreBelow n (ds ++ d ∷ [])
  below_on n [] h l = (l, tt)
  below_on n (x ∷ ds) h l = (h.0, below_on n ds h.1 l)

  pub staying_on : (ds : List Made) → AreStaying ds → is_leave d.entry.event ≡ false → AreStaying (ds ++ d ∷ [])
  staying_on [] h e = (e, tt)
  staying_on (x ∷ ds) h e = (h.0, staying_on ds h.1 e)
