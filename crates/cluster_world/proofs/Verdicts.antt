-- The answers to a lock call, among others.
use Rattle.std.proofs.Common.{ℕ, Bool, true, false, ◌==◌, ◌≡◌, ◌≤◌, Option, Some, None, List, [], ◌∷◌, ◌++◌, length, refl, arith}
use Rattle.std.specs.Prelude.{◌&&◌, ◌||◌, filter, if◌then◌else◌}
use Rattle.registry_model.specs.Call.{Reply, True, is_reply}
use Rattle.protocol_model.specs.Event.{Answer}
use Rattle.getting_through.proofs.Answering.{any_true}
use Rattle.cluster_world.specs.Counting.{is_granted}
use Rattle.cluster_world.specs.Seats.{verdict_of, verdict_to, verdict_in}

-- answers behind others, of which none is a verdict
pub verdict_in-append : (a k : ℕ) (xs ys : List Answer) → verdict_in a k xs ≡ None
    → verdict_in a k (xs ++ ys) ≡ verdict_in a k ys
verdict_in-append a k [] ys e = refl
verdict_in-append a k (x ∷ xs) ys e = go (verdict_to a k x) e (verdict_in-append a k xs ys)
  where
    go : (v : Option Bool)
        → ◌≡◌ {A = Option Bool} (elim v [ None ↦ verdict_in a k xs | Some granted ↦ Some granted ]) None
        → (verdict_in a k xs ≡ None → verdict_in a k (xs ++ ys) ≡ verdict_in a k ys)
        → ◌≡◌ {A = Option Bool} (elim v [ None ↦ verdict_in a k (xs ++ ys) | Some granted ↦ Some granted ])
        (verdict_in a k ys)
    go None q more = more q
    go (Some granted) q more = cc

module _ (a k : ℕ) where
  -- the answer is to call k of node a
  abbrev pub is_under : Answer → Bool
  is_under s = (s.node == a) && (s.number == k)

  -- those that are
  abbrev pub under : List Answer → List Answer
  under ss = filter is_under ss

  none_true : (ss : List Answer) → length (under ss) ≤ 0 → any_true a k ss ≡ false
  none_true [] few = refl
  none_true (s ∷ ss) few = go (is_under s) few (λ h. none_true ss h)
    where
      go : (b : Bool) → length (if b then s ∷ under ss else under ss) ≤ 0
          → (length (under ss) ≤ 0 → any_true a k ss ≡ false)
          → ((b && is_reply s.reply True) || any_true a k ss) ≡ false
      go true h rest = absurd (omega (arith, h))
      go false h rest = rest h

  -- where the call is answered at most once, it is answered `true` just where it is granted
  pub true_granted : (ss : List Answer) → length (under ss) ≤ 1 → any_true a k ss ≡ is_granted (verdict_in a k ss)
  true_granted [] few = refl
  true_granted (s ∷ ss) few = go (is_under s) s.reply few (λ h. true_granted ss h)
    where
      go : (b : Bool) (reply : Reply) → length (if b then s ∷ under ss else under ss) ≤ 1
          → (length (under ss) ≤ 1 → any_true a k ss ≡ is_granted (verdict_in a k ss))
          → ((b && is_reply reply True) || any_true a k ss)
          ≡ is_granted (elim (if b then verdict_of reply else None)
          [ None ↦ verdict_in a k ss | Some granted ↦ Some granted ])
      go false reply h rest = rest h
      go true Reply.True h rest = refl
      go true Reply.False h rest = none_true ss (omega (arith, h))
      go true Reply.Yes h rest = rest (omega (arith, h))
      go true Reply.No h rest = rest (omega (arith, h))
      go true Reply.Ok h rest = rest (omega (arith, h))
      go true Reply.UnknownNode h rest = rest (omega (arith, h))
      go true Reply.Joined h rest = rest (omega (arith, h))
      go true Reply.NotMember h rest = rest (omega (arith, h))
      go true Reply.ContactLeft h rest = rest (omega (arith, h))
      go true (Reply.Pid p) h rest = rest (omega (arith, h))
      go true Reply.Undefined h rest = rest (omega (arith, h))
      go true (Reply.Names xs) h rest = rest (omega (arith, h))
      go true (Reply.Notices fs) h rest = rest (omega (arith, h))
