-- A node that is played alone, whatever it relies on, as its letters and its steps become more.
use Rattle.std.proofs.Common.{ℕ, ◌≡◌, ◌<◌, List, [], ◌∷◌, ◌++◌, drop, refl, sym, ap, subst, ◌∙◌}
use Rattle.std.proofs.Math.Path.{fun_ext}
use Rattle.std.specs.Prelude.{if◌then◌else◌}
use Rattle.registry_model.proofs.Updates.{by_test}
use Rattle.protocol_model.specs.Node.{Node}
use Rattle.protocol_model.specs.World.{Opening, WorldEvent, At, Deliver}
use Rattle.closings.specs.Alone.{Stamped, Made, Reads, Does, unread_after, unread_behind, StartsAbove, Plays}

module _ (o : Opening) (more : ℕ → List Stamped) where
  -- what a node does it does too where it has more letters to read
  does_longer : (letters : ℕ → List Stamped) (v : Node) (d : Made) (e : WorldEvent) → Does o letters v d e
      → Does o (λ f. letters f ++ more f) v d e
  does_longer letters v d (At a ev) D = D
  does_longer letters v d (Deliver f t) D = go (letters f) D
    where
      go : (ls : List Stamped) → Reads o t f ls v d → Reads o t f (ls ++ more f) v d
      go [] R = absurd R
      go (l ∷ ls) R = R

  -- and leaves those unread
  unread_longer : (letters : ℕ → List Stamped) (v : Node) (d : Made) (e : WorldEvent) → Does o letters v d e
      → unread_after e (λ f. letters f ++ more f) ≡ (λ f. unread_after e letters f ++ more f)
  unread_longer letters v d (At a ev) D = refl
  unread_longer letters v d (Deliver x t) D = fun_ext (by_test x
      (λ g b. (if b then drop 1 (letters g ++ more g) else letters g ++ more g) ≡ (if b then drop 1 (letters g) else letters g) ++ more g)
      (go (letters x) D) (λ g ne. refl))
    where
      go : (ls : List Stamped) → Reads o t x ls v d → drop 1 (ls ++ more x) ≡ drop 1 ls ++ more x
      go [] R = absurd R
      go (l ∷ ls) R = refl

  -- so with all its steps
  pub plays_longer : (a : ℕ) (letters : ℕ → List Stamped) (v : Node) (ds : List Made) → Plays Does o a letters v ds
      → Plays Does o a (λ f. letters f ++ more f) v ds
  plays_longer a letters v [] P = tt
  plays_longer a letters v (d ∷ ds) P = (
    record {
      own = P.0.own;
      here = P.0.here;
      known = P.0.known;
      does = does_longer letters v d d.entry.event P.0.does;
      rises = P.0.rises;
      last = P.0.last;
    },
    subst (λ (ls : ℕ → List Stamped). Plays Does o a ls d.after ds) (sym (unread_longer letters v d d.entry.event P.0.does))
        (plays_longer a (unread_after d.entry.event letters) d.after ds P.1),
  )

  pub unread_behind_longer : (a : ℕ) (letters : ℕ → List Stamped) (v : Node) (ds : List Made) → Plays Does o a letters v ds
      → unread_behind (λ f. letters f ++ more f) ds ≡ (λ f. unread_behind letters ds f ++ more f)
  unread_behind_longer a letters v [] P = refl
  unread_behind_longer a letters v (d ∷ ds) P =
      ap (λ (ls : ℕ → List Stamped). unread_behind ls ds) (unread_longer letters v d d.entry.event P.0.does)
      ∙ unread_behind_longer a (unread_after d.entry.event letters) d.after ds P.1

-- steps begin above a stamp still, with one behind them
pub starts_on : (n : ℕ) (d : Made) (ds : List Made) → n < d.entry.stamp → StartsAbove n ds → StartsAbove n (ds ++ d ∷ [])
starts_on n d [] l h = l
starts_on n d (x ∷ ds) l h = h
