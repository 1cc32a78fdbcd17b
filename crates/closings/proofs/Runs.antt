-- The steps of nodes in a run, and what their logs have behind it.
use Rattle.std.proofs.Common.{ℕ, zero, suc, Bool, true, false, ◌==◌, ◌≡◌, ◌≤◌, ◌+◌, Some, List, [], ◌∷◌, ◌++◌, map, filter, length, length-append, drop, refl, ap, ◌∙◌, arith}
use Rattle.std.proofs.lemmas.Bool.{eq-eqb, ne_eqb}
use Rattle.std.proofs.lemmas.Bool.Decides.{nat_tests}
use Rattle.std.proofs.lemmas.List.{map-append}
use Rattle.std.proofs.lemmas.List.Elements.{filter-append}
use Rattle.std.specs.List.{slice_get}
use Rattle.std.specs.Prelude.{if◌then◌else◌, ◌||◌, ◌&&◌, nat_lt}
use Rattle.closings.specs.Alone.{LogEntry}
use Rattle.closings.specs.Merging.{Step, steps_of}

-- what is before another has no greater stamp
pub before_is : (x y m n : ℕ) → (nat_lt x y || ((x == y) && nat_lt m n)) ≡ true → x ≤ y
before_is x y m n h = grind (arith, nat_tests)

-- what isn't before another has no lesser one
pub not_before : (x y m n : ℕ) → (nat_lt x y || ((x == y) && nat_lt m n)) ≡ false → y ≤ x
not_before x y m n h = grind (arith, nat_tests)

-- the first step is its node's first, and no other's
pub own_step : (s : Step) (ss : List Step) → steps_of s.node (s ∷ ss) ≡ s.entry ∷ steps_of s.node ss
own_step s ss =
    ap (λ (b : Bool). map (λ (t : Step). t.entry) (if b then s ∷ filter (λ (t : Step). t.node == s.node) ss else filter (λ (t : Step). t.node == s.node) ss))
    (eq-eqb s.node s.node refl)

pub other_step : (c : ℕ) (s : Step) (ss : List Step) → (s.node ≡ c → ⊥) → steps_of c (s ∷ ss) ≡ steps_of c ss
other_step c s ss ne =
    ap (λ (b : Bool). map (λ (t : Step). t.entry) (if b then s ∷ filter (λ (t : Step). t.node == c) ss else filter (λ (t : Step). t.node == c) ss))
    (ne_eqb s.node c ne)

-- a node's entries among steps and one more
more_of : (c : ℕ) (ss : List Step) (s : Step) → steps_of c (ss ++ s ∷ []) ≡ steps_of c ss ++ steps_of c (s ∷ [])
more_of c ss s = ap (map (λ (t : Step). t.entry)) (filter-append (λ (t : Step). t.node == c) ss (s ∷ []))
    ∙ map-append (λ (t : Step). t.entry) (filter (λ (t : Step). t.node == c) ss) (filter (λ (t : Step). t.node == c) (s ∷ []))

more_count : (c : ℕ) (ss : List Step) (s : Step) (es : List LogEntry) → steps_of c (s ∷ []) ≡ es
    → length (steps_of c (ss ++ s ∷ [])) ≡ length (steps_of c ss) + length es
more_count c ss s es e = ap length (more_of c ss s) ∙ length-append (steps_of c ss) (steps_of c (s ∷ []))
    ∙ ap (λ (fs : List LogEntry). length (steps_of c ss) + length fs) e

-- its own node has one more, and no other has
pub count_own : (ss : List Step) (s : Step) → length (steps_of s.node (ss ++ s ∷ [])) ≡ suc (length (steps_of s.node ss))
count_own ss s = more_count s.node ss s (s.entry ∷ []) (own_step s []) ∙ one (length (steps_of s.node ss))
  where
    one : (n : ℕ) → n + 1 ≡ suc n
    one n = omega arith

pub count_other : (c : ℕ) (ss : List Step) (s : Step) → (s.node ≡ c → ⊥) → length (steps_of c (ss ++ s ∷ [])) ≡ length (steps_of c ss)
count_other c ss s ne = more_count c ss s [] (other_step c s [] ne) ∙ none (length (steps_of c ss))
  where
    none : (n : ℕ) → n + 0 ≡ n
    none n = omega arith

-- what a log has at k is the front of what it has from k on
pub left_is : (es : List LogEntry) (k : ℕ) (e : LogEntry) → slice_get es k ≡ Some e → drop k es ≡ e ∷ drop (suc k) es
left_is [] k e h = cc
left_is (x ∷ es) zero e h = ap (λ (y : LogEntry). y ∷ es) (one x e h)
  where
    one : (x y : LogEntry) → Some x ≡ Some y → x ≡ y
    one x y e = cc
left_is (x ∷ es) (suc k) e h = left_is es k e h

-- and the other way round
pub head_is : (es : List LogEntry) (k : ℕ) (e : LogEntry) (xs : List LogEntry) → drop k es ≡ e ∷ xs → slice_get es k ≡ Some e
head_is [] zero e xs h = cc
head_is [] (suc k) e xs h = cc
head_is (x ∷ es) zero e xs h = one h
  where
    one : {ys zs : List LogEntry} → x ∷ ys ≡ e ∷ zs → Some x ≡ Some e
    one h = cc
head_is (x ∷ es) (suc k) e xs h = head_is es k e xs h
