-- Entries that are put at the end of a history one by one, out of a slice whose places behind them stay.
use Rattle.std.proofs.Common.{ℕ, ◌≡◌, ◌<◌, ◌+◌, List, [], ◌∷◌, ◌++◌, length, get_or, set, take, drop, map, sym, ap, ◌∙◌, append_assoc, arith}
use Rattle.std.proofs.lemmas.Grind.{take_at_read}
use Rattle.std.proofs.lemmas.List.{get_or-drop, drop-set-lt, drop-drop, map-append}

module _ {A : Type 0} (xs ys : List A) (i : ℕ) (rest : drop i xs ≡ drop i ys) where
  -- the next one is as it was
  pub same_next : (d : A) → get_or xs i d ≡ get_or ys i d
  same_next d =
      let z : i + 0 ≡ i = omega arith in
      ap (λ (k : ℕ). get_or xs k d) (sym z) ∙ sym (get_or-drop i xs 0 d) ∙ ap (λ (zs : List A). get_or zs 0 d) rest
      ∙ get_or-drop i ys 0 d ∙ ap (λ (k : ℕ). get_or ys k d) z

  -- and those behind it are, whatever is left in its place
  pub same_behind : (new : A) → drop (i + 1) (set xs i new) ≡ drop (i + 1) ys
  same_behind new = drop-set-lt (i + 1) xs i new (omega arith) ∙ next xs ∙ ap (drop 1) rest ∙ sym (next ys)
    where
      next : (zs : List A) → drop (i + 1) zs ≡ drop 1 (drop i zs)
      next zs = sym (drop-drop 1 i zs)

  -- what it was entered as stands behind what those before it were
  pub entered_more : {B : Type 0} (f : A → B) (d : A) (v : B) (first before after : List B) → i < length ys
      → before ≡ first ++ map f (take i ys) → after ≡ before ++ v ∷ [] → v ≡ f (get_or xs i d)
      → after ≡ first ++ map f (take (i + 1) ys)
  entered_more {B = B} f d v first before after within so_far more is =
      more ∙ ap (λ (zs : List B). zs ++ v ∷ []) so_far ∙ append_assoc first (map f (take i ys)) (v ∷ [])
      ∙ ap (λ (zs : List B). first ++ zs)
      (ap (λ (w : B). map f (take i ys) ++ w ∷ []) (is ∙ ap f (same_next d))
      ∙ sym (map-append f (take i ys) (get_or ys i d ∷ []))
      ∙ ap (map f) (sym (take_at_read ys i d within).1))
