-- Lists of notices as notices come, one by one.
use Rattle.std.proofs.Common.{ℕ, Bool, true, false, ◌==◌, ◌≡◌, Some, None, List, [], ◌∷◌, ◌++◌, refl, sym, ap, subst, ◌∙◌}
use Rattle.std.specs.Prelude.{if◌then◌else◌}
use Rattle.std.specs.Map.{lookup}
use Rattle.std.proofs.lemmas.Bool.{eqb-true}
use Rattle.registry_model.specs.Settlement.{Notice}
use Rattle.exchange.specs.Lists.{or_none, list_under, with_notice}

-- this list stands under one serial, and under each other what stood there
abbrev pub Writes : ℕ → List Notice → List (ℕ × List Notice) → List (ℕ × List Notice) → Type 0
Writes to list old new =
    (s : ℕ) → lookup (λ k. s == k) new ≡ (if to == s then Some list else lookup (λ k. s == k) old)

-- a first notice to a process that has no list
sent_first : (old new : List (ℕ × List Notice)) (to : ℕ) (n : Notice) (first : List Notice) →
    lookup (λ k. to == k) old ≡ None → first ≡ n ∷ [] → Writes to first old new →
    (s : ℕ) → list_under s new ≡ with_notice to n s (list_under s old)
sent_first old new to n first none e w s = ap or_none (w s) ∙ go (to == s) refl
  where
    go : (b : Bool) → (to == s) ≡ b → or_none (if b then Some first else lookup (λ k. s == k) old)
        ≡ (if b then list_under s old ++ n ∷ [] else list_under s old)
    go true i = e ∙ ap (λ (list : List Notice). list ++ n ∷ [])
        (sym (ap (λ (t : ℕ). or_none (lookup (λ k. t == k) old)) (sym (eqb-true to s i)) ∙ ap or_none none))
    go false i = refl

-- so it is where the lists have several names; seen: what the caller sees, lent: what was lent and came back as it was
pub sent_first-seen : (seen old lent new : List (ℕ × List Notice)) (to : ℕ) (n : Notice) (first : List Notice) →
    old ≡ seen → lent ≡ old → None ≡ lookup (λ k. to == k) old → first ≡ n ∷ [] → Writes to first lent new →
    (s : ℕ) → list_under s new ≡ with_notice to n s (list_under s seen)
sent_first-seen seen old lent new to n first v l none e w s =
    sent_first old new to n first (sym none) e (subst (λ (es : List (ℕ × List Notice)). Writes to first es new) l w) s
    ∙ ap (λ (es : List (ℕ × List Notice)). with_notice to n s (list_under s es)) v
