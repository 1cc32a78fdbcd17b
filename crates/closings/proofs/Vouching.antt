-- What nodes say at their ends makes their steps consistent.
use Rattle.std.proofs.Common.{ℕ, Bool, true, false, ◌≡◌, List, [], ◌++◌, refl, sym, ap, subst, ◌∙◌, append_assoc}
use Rattle.std.proofs.Math.Path.{fun_ext}
use Rattle.protocol_model.specs.Letter.{Letter}
use Rattle.protocol_model.specs.Node.{opening_node}
use Rattle.protocol_model.specs.World.{Opening, in_world, in_cluster}
use Rattle.closings.specs.Alone.{Stamped, Made, sent, Plays}
use Rattle.closings.specs.Guarded.{Begins, DoesIfFit, Vouches, AreGuarded, VouchedEndsAreConsistent}
use Rattle.closings.proofs.Growing.{plays_longer}
use Rattle.closings.proofs.Fitting.{guarded_ends_are_consistent}

begins_on : (xs ys zs : List Stamped) → Begins xs ys → Begins ys zs → Begins xs zs
begins_on xs ys zs h k = (h.0 ++ k.0, k.1 ∙ ap (λ (l : List Stamped). l ++ k.0) h.1 ∙ append_assoc xs h.0 k.0)

module _ (fits : ℕ → ℕ → Letter → Type 0) (o : Opening) (course : ℕ → List Made) (took put : ℕ → ℕ → List Stamped)
    (vouches : (a : ℕ) → in_world o a ≡ true → Vouches fits o a (took a) (put a) (course a))
    (strange : (a : ℕ) → in_world o a ≡ false → course a ≡ [])
    (pairs : (f t : ℕ) → in_world o f ≡ true → in_world o t ≡ true → Begins (took t f) (put f t)) where
  -- what a node took of another begins what that one's steps send it
  begins : (f t : ℕ) → in_world o t ≡ true → Begins (took t f) (sent t (course f))
  begins f t here = go (in_world o f) refl
    where
      go : (b : Bool) → in_world o f ≡ b → Begins (took t f) (sent t (course f))
      go true known = begins_on (took t f) (put f t) (sent t (course f)) (pairs f t known here) ((vouches f known).puts t here)
      go false known = (sent t (course f), ap (λ (l : List Stamped). l ++ sent t (course f)) (sym ((vouches t here).known f known)))

  plays : (a : ℕ) → in_world o a ≡ true
      → Plays (DoesIfFit fits) o a (λ f. sent a (course f)) (opening_node (in_cluster o) a) (course a)
  plays a here =
      subst (λ (ls : ℕ → List Stamped). Plays (DoesIfFit fits) o a ls (opening_node (in_cluster o) a) (course a))
      (sym (fun_ext (λ f. (begins f a here).1)))
      (plays_longer fits o (λ f. (begins f a here).0) a (took a) (opening_node (in_cluster o) a) (course a) (vouches a here).plays)

  pub guarded : AreGuarded fits o course
  guarded a = go (in_world o a) refl
    where
      go : (b : Bool) → in_world o a ≡ b
          → Plays (DoesIfFit fits) o a (λ f. sent a (course f)) (opening_node (in_cluster o) a) (course a)
      go true here = plays a here
      go false here =
          subst (λ (ds : List Made). Plays (DoesIfFit fits) o a (λ f. sent a (course f)) (opening_node (in_cluster o) a) ds)
          (sym (strange a here)) tt

pub vouched_ends_are_consistent : (fits : ℕ → ℕ → Letter → Type 0) → VouchedEndsAreConsistent fits
vouched_ends_are_consistent fits o course took put vouches strange pairs =
    guarded_ends_are_consistent fits o course (guarded fits o course took put vouches strange pairs)
