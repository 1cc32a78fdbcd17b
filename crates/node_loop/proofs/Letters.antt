-- The letters of a step in the tray. One to a node that the tray doesn't know leaves it as it is.
use Rattle.std.proofs.Common.{◌≡◌, ℕ, false, Option, Some, None, is_some, List, [], ◌∷◌, ◌++◌, refl, sym, ap, subst, ◌∙◌, append_assoc}
use Rattle.node_log.specs.declared.Letter.{Letter}
use Rattle.tray.specs.Held.{Waiting, place, has, with_letter, longer_at}
use Rattle.node_loop.specs.declared.item.Item.{Item}
use Rattle.node_loop.specs.Held.{with_letters, PutsSome}

module _ {L : Type 0} where
  none_longer : (p : Option ℕ) (l : L) (slots : List (Waiting L)) → is_some p ≡ false → longer_at p l slots ≡ slots
  none_longer None l slots e = refl
  none_longer (Some k) l slots e = cc

  pub to_stranger : (a : ℕ) (l : L) (slots : List (Waiting L)) → has a slots ≡ false → with_letter a l slots ≡ slots
  to_stranger a l slots e = none_longer (place a slots) l slots e

-- one letter more, behind those
with_one_more : (stamp : ℕ) (put : List (ℕ × Letter)) (s : ℕ × Letter) (tray : List (Waiting Item))
    → with_letters stamp (put ++ s ∷ []) tray ≡ with_letters stamp (s ∷ []) (with_letters stamp put tray)
with_one_more stamp [] s tray = refl
with_one_more stamp (p ∷ put) s tray = with_one_more stamp put s _

-- these are left of the letters, and the others are put
pub record Puts (stamp : ℕ) (letters left : List (ℕ × Letter)) (old new : List (Waiting Item)) : Type 0 where
  pub put : List (ℕ × Letter)
  pub split : letters ≡ put ++ left
  pub tray : new ≡ with_letters stamp put old

module _ (stamp : ℕ) (letters : List (ℕ × Letter)) (old : List (Waiting Item)) where
  pub puts_one_more : (s : ℕ × Letter) (left : List (ℕ × Letter)) (mid new : List (Waiting Item))
      → Puts stamp letters (s ∷ left) old mid → new ≡ with_letters stamp (s ∷ []) mid → Puts stamp letters left old new
  puts_one_more s left mid new h e = record {
    put = h.put ++ s ∷ [];
    split = h.split ∙ sym (append_assoc h.put (s ∷ []) left);
    tray = e ∙ (ap (λ (t : List (Waiting Item)). with_letters stamp (s ∷ []) t) h.tray ∙ sym (with_one_more stamp h.put s old));
  }

-- by another name of the stamp
pub puts_at : (s t : ℕ) (letters : List (ℕ × Letter)) (old new : List (Waiting Item)) → s ≡ t → PutsSome s letters old new
    → PutsSome t letters old new
puts_at s t letters old new e h = subst (λ (n : ℕ). PutsSome n letters old new) e h
