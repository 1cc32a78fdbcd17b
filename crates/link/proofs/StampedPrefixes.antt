-- What is taken in the order of stamps is the oldest.
use Rattle.std.proofs.Common.{ℕ, Bool, true, false, ◌==◌, ◌≡◌, ◌≤◌, ◌<◌, List, [], ◌∷◌, sym, subst, ◌∙◌, arith}
use Rattle.std.specs.Prelude.{if◌then◌else◌, ◌&&◌}
use Rattle.protocol_model.specs.Links.{Links, no_letters}
use Rattle.link.specs.Moves.{Move, Puts, Takes, Closes, Reopens, moved, put_on, stay, AreDelivered, StampedMove, moves_of, IsTimely, AreByStamp, StampedPrefixesAreDelivered}
use Rattle.link.proofs.Meeting.{Meets, meets_at_first, Front, first_is, meets_put, oldest, meets_taken, meets_closed, meets_reopened}

module _ {L : Type 0} (sent_at : L → ℕ) where
  same_time : (l k : L) (ls ks : List L) → l ∷ ls ≡ k ∷ ks → sent_at l ≡ sent_at k
  same_time l k ls ks e = cc

  -- what is still to be put in a stay has no stamp below n, where no move has
  put_later : (n f t : ℕ) (out : Bool) (ss : List (StampedMove L)) (l : L) (ls : List L) → AreByStamp sent_at n ss
      → put_on f t (stay t out (moves_of ss)) ≡ l ∷ ls → n ≤ sent_at l
  put_later n f t out [] l ls h e = cc
  put_later n f t out (s ∷ ss) l ls h e =
      go s.move h.1 (λ out k. reach n s.stamp (sent_at l) h.0 (put_later s.stamp f t out ss l ls h.2 k)) e
    where
      reach : (a b c : ℕ) → a ≤ b → b ≤ c → a ≤ c
      reach a b c h k = omega (arith, h, k)

      go : (m : Move L) → IsTimely sent_at s.stamp m
          → ((out : Bool) → put_on f t (stay t out (moves_of ss)) ≡ l ∷ ls → n ≤ sent_at l)
          → put_on f t (stay t out (m ∷ moves_of ss)) ≡ l ∷ ls → n ≤ sent_at l
      go (Puts y z k) is rec e = at_pair (f == y && (t == z)) e
        where
          rest : List L
          rest = put_on f t (stay t out (moves_of ss))

          at_pair : (b : Bool) → (if b then k ∷ rest else rest) ≡ l ∷ ls → n ≤ sent_at l
          at_pair true e = subst (λ (y : ℕ). n ≤ y) (sym is ∙ same_time k l rest ls e) h.0
          at_pair false e = rec out e
      go (Takes y z k) is rec e = rec out e
      go (Closes d) is rec e = rec (if t == d then true else out) e
      go (Reopens d) is rec e = again (out && (t == d)) e
        where
          again : (b : Bool) → put_on f t (if b then [] else Reopens d ∷ stay t out (moves_of ss)) ≡ l ∷ ls → n ≤ sent_at l
          again true e = cc
          again false e = rec out e

  -- a move of stamp n, behind which nothing with a lesser one is put, takes the oldest letter, if any
  step : (links : Links L) (m : Move L) (ms : List (Move L)) (n : ℕ) → Meets links (m ∷ ms) → IsTimely sent_at n m
      → ((f t : ℕ) (l : L) (ls : List L) → put_on f t (stay t false ms) ≡ l ∷ ls → n ≤ sent_at l)
      → ((to : Links L) → Meets to ms → AreDelivered to ms) → AreDelivered links (m ∷ ms)
  step links (Puts x y l) ms n M is later rec = (tt, rec (moved links (Puts x y l)) (meets_put links x y l ms M))
  step links (Takes x y l) ms n M lesser later rec =
      let F : Front (links.queue x y) l = oldest links x y l ms M (λ ls _ e. late (sent_at l) lesser (later x y l ls e)) in
      (first_is (links.queue x y) l F, rec (moved links (Takes x y l)) (meets_taken links x y l ms F M))
    where
      late : (k : ℕ) → k < n → n ≤ k → ⊥
      late k h i = omega (arith, h, i)
  step links (Closes d) ms n M is later rec = (tt, rec (moved links (Closes d)) (meets_closed links d ms M))
  step links (Reopens d) ms n M is later rec = (tt, rec (moved links (Reopens d)) (meets_reopened links d ms M))

  all_delivered : (ss : List (StampedMove L)) (n : ℕ) (links : Links L) → AreByStamp sent_at n ss → Meets links (moves_of ss)
      → AreDelivered links (moves_of ss)
  all_delivered [] n links h M = tt
  all_delivered (s ∷ ss) n links h M =
      step links s.move (moves_of ss) s.stamp M h.1 (λ f t l ls. put_later s.stamp f t false ss l ls h.2)
      (λ to. all_delivered ss s.stamp to h.2)

  pub stamped_prefixes_are_delivered : StampedPrefixesAreDelivered sent_at
  stamped_prefixes_are_delivered ss P = all_delivered ss 0 no_letters P.stamps (meets_at_first (moves_of ss) P.begins P.gone)
