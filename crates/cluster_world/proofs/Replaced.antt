-- Cores that take the next node of a name, one by one.
use Rattle.std.proofs.Common.{ℕ, ◌≡◌, ◌<◌, ◌+◌, List, [], ◌∷◌, ◌++◌, length, get_or, set, take, drop, map, sym, ap, ◌∙◌, arith}
use Rattle.std.proofs.lemmas.Grind.{take_at_read}
use Rattle.std.proofs.lemmas.List.{length-set, get_or-drop, get_or-set_same, take-set-le, drop-set-lt, drop-drop, map-append}
use Rattle.node_core.specs.CoreState.{CoreState}

pub at_drop : (xs ys : List CoreState) (i : ℕ) (d : CoreState) → drop i xs ≡ drop i ys → get_or xs i d ≡ get_or ys i d
at_drop xs ys i d e =
    let z : i + 0 ≡ i = omega arith in
    ap (λ (k : ℕ). get_or xs k d) (sym z) ∙ sym (get_or-drop i xs 0 d) ∙ ap (λ (zs : List CoreState). get_or zs 0 d) e
    ∙ get_or-drop i ys 0 d ∙ ap (λ (k : ℕ). get_or ys k d) z

module _ (f : CoreState → CoreState) (xs ys : List CoreState) (i : ℕ) (d new : CoreState) (inside : i < length xs) (within : i < length ys)
    (so_far : take i xs ≡ map f (take i ys)) (rest : drop i xs ≡ drop i ys) (is : new ≡ f (get_or xs i d)) where
  pub done_more : take (i + 1) (set xs i new) ≡ map f (take (i + 1) ys)
  done_more = (take_at_read (set xs i new) i d (omega (arith, inside, length-set xs i new))).1
      ∙ ap (λ (zs : List CoreState). zs ++ get_or (set xs i new) i d ∷ []) (take-set-le i xs i new (omega arith) ∙ so_far)
      ∙ ap (λ (c : CoreState). map f (take i ys) ++ c ∷ []) (get_or-set_same xs i new d inside ∙ is ∙ ap f (at_drop xs ys i d rest))
      ∙ sym (map-append f (take i ys) (get_or ys i d ∷ []))
      ∙ ap (map f) (sym (take_at_read ys i d within).1)

  pub left_more : drop (i + 1) (set xs i new) ≡ drop (i + 1) ys
  left_more = drop-set-lt (i + 1) xs i new (omega arith) ∙ next xs ∙ ap (drop 1) rest ∙ sym (next ys)
    where
      next : (zs : List CoreState) → drop (i + 1) zs ≡ drop 1 (drop i zs)
      next zs = sym (drop-drop 1 i zs)
