-- A slot sends one letter after another.
use Rattle.std.proofs.Common.{◌≡◌, ◌+◌, ◌≤◌, ℕ, List, [], ◌∷◌, ◌++◌, length, refl, sym, ap, ◌∙◌, append_assoc, length-append, subst, arith}
use Rattle.link.specs.declared.faults.LinkFault.{LinkFault}
use Rattle.tray.specs.Draining.{Sends, Drained}

module _ {L S : Type 0} (posts : S → ℕ → L → S → Type 0) (refuses : S → ℕ → L → LinkFault → Type 0) (to : ℕ) where
  -- one letter more is sent
  sends_more : (s t r : S) (sent : List L) (l : L) → Sends posts to s sent t → posts t to l r → Sends posts to s (sent ++ l ∷ []) r
  sends_more s t r [] l same goes = (r, subst (λ (x : S). posts x to l r) (sym same) goes, refl)
  sends_more s t r (x ∷ xs) l h goes = (h.0, h.1, sends_more h.0 t r xs l h.2 goes)

  -- so many letters of these were sent, and these are left
  pub record Going (old : List L) (s : S) (left : List L) (t : S) (i : ℕ) : Type 0 where
    pub sent : List L
    pub split : old ≡ sent ++ left
    pub sends : Sends posts to s sent t
    pub count : length sent ≡ i

  pub begins : (old : List L) (s : S) → Going old s old s 0
  begins old s = record { sent = []; split = refl; sends = refl; count = refl }

  pub goes_on : (old : List L) (s : S) (l : L) (before left : List L) (t r : S) (i : ℕ) → before ≡ l ∷ left
      → Going old s before t i → posts t to l r → Going old s left r (i + 1)
  goes_on old s l before left t r i are h goes = record {
    sent = h.sent ++ l ∷ [];
    split = h.split ∙ ap (λ (x : List L). h.sent ++ x) are ∙ sym (append_assoc h.sent (l ∷ []) left);
    sends = sends_more s t r h.sent l h.sends goes;
    count = length-append h.sent (l ∷ []) ∙ ap (λ (n : ℕ). n + 1) h.count;
  }

  pub hands_back : (old : List L) (s : S) (l : L) (left : List L) (t : S) (i : ℕ) → Going old s (l ∷ left) t i
      → ((fault : LinkFault) × refuses t to l fault) → Drained posts refuses to old s (l ∷ left) t
  hands_back old s l left t i h back = record { sent = h.sent; split = h.split; sends = h.sends; stops = back }

  pub ends : (old : List L) (s : S) (left : List L) (t : S) (i : ℕ) → Going old s left t i → length old ≤ i
      → Drained posts refuses to old s left t
  ends old s [] t i h over = record { sent = h.sent; split = h.split; sends = h.sends; stops = tt }
  ends old s (l ∷ left) t i h over =
      absurd (omega (arith, over, h.count, ap length h.split ∙ length-append h.sent (l ∷ left)))
