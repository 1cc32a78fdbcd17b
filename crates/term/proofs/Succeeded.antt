-- Rising nodes, where the next node of a name stands for the one before it: they rise too, if it isn't one of them.
use Rattle.std.proofs.Common.{◌≡◌, ℕ, Bool, false, ◌==◌, ◌+◌, ◌<◌, ◌⊎◌, List, [], ◌∷◌, ◌++◌, length, get_or, take, sym, ap, ◌∙◌, inl, inr, arith, Result, Ok, Err, MatchResult}
use Rattle.std.specs.Prelude.{not, map, if◌then◌else◌}
use Rattle.std.specs.List.{insert}
use Rattle.std.proofs.lemmas.Bool.{cases_eq, eq-eqb, ne_eqb, both_ways}
use Rattle.std.proofs.lemmas.Grind.{take_at_read}
use Rattle.std.proofs.lemmas.List.{get_or-map, get_or-take, get_or_default, length-map, length-take-le, map-append, take_all, drop_all}
use Rattle.std.proofs.lemmas.List.Folds.{list_any_at}
use Rattle.term.specs.declared.faults.TextFault.{TextFault}
use Rattle.term.specs.NodeSets.{IsNodeSet, HasNoRoom, set_of, with_node, succeeded}
use Rattle.term.proofs.NodeSets.{rises, with_node-fits}

-- the node, or the next one where that stands for it
abbrev pub next_of : ℕ → ℕ → ℕ → ℕ
next_of a b c = if c == a then b else c

-- two nodes stay in order, unless the upper one is the next already
pub keeps_order : (a b x y : ℕ) → b ≡ a + 1 → x < y → (y ≡ b → ⊥) → next_of a b x < next_of a b y
keeps_order a b x y next l ne = by (cases_eq x a) (cases_eq y a)
  where
    by : (x ≡ a) ⊎ (x ≡ a → ⊥) → (y ≡ a) ⊎ (y ≡ a → ⊥) → next_of a b x < next_of a b y
    by (inl here) (inl there) = omega (arith, here, there, l)
    by (inl here) (inr other) = rw (eq-eqb x a here, ne_eqb y a other) (omega (arith, here, l, ne, next))
    by (inr other) (inl there) = rw (ne_eqb x a other, eq-eqb y a there) (omega (arith, there, l, next))
    by (inr other) (inr another) = rw (ne_eqb x a other, ne_eqb y a another) l

-- a node above all is put behind them
pub with_node-behind : (xs : List ℕ) (c : ℕ) → ((k : ℕ) → k < length xs → get_or xs k 0 < c) → with_node xs c ≡ xs ++ c ∷ []
with_node-behind xs c below =
    sym (with_node-fits xs (length xs) c (record {
      inside = omega arith;
      before = below;
      behind = λ k low high. absurd (omega arith);
    }))
    ∙ whole
  where
    whole : insert xs (length xs) c ≡ xs ++ c ∷ []
    whole = grind (arith, take_all, drop_all)

-- the next of the nodes, or what stands for it, is put behind those before it
pub put_behind : (xs nodes after : List ℕ) (a b i x y : ℕ) (r : Result Bool TextFault) → IsNodeSet xs → i < length xs
    → x ≡ get_or xs i x → b ≡ a + 1 → set_of xs b ≡ false → y ≡ next_of a b x → nodes ≡ succeeded a b (take i xs)
    → MatchResult r (λ is_new. (after ≡ with_node nodes y) × (is_new ≡ not (set_of nodes y))) (HasNoRoom nodes y)
    → after ≡ succeeded a b (take (i + 1) xs)
put_behind xs nodes after a b i x y (Err fault) set l e next new is so_far h =
    let full = h.full in
    let long : length nodes ≡ i = ap length so_far ∙ length-map (take i xs) (next_of a b)
    ∙ length-take-le i xs (omega (arith, l)) in
    let most = set.fits in
    absurd (omega (arith, full, long, most, l))
put_behind xs nodes after a b i x y (Ok is_new) set l e next new is so_far h =
    h.0 ∙ with_node-behind nodes y below
    ∙ ap (λ (ys : List ℕ). ys ++ y ∷ []) so_far
    ∙ ap (λ (z : ℕ). succeeded a b (take i xs) ++ z ∷ []) (is ∙ ap (next_of a b) e)
    ∙ sym (map-append (next_of a b) (take i xs) (get_or xs i x ∷ []))
    ∙ ap (map (next_of a b)) (sym (take_at_read xs i x l).1)
  where
    here : get_or xs i 0 ≡ x
    here = get_or_default xs i 0 x l ∙ sym e

    not_next : x ≡ b → ⊥
    not_next same = both_ways (set_of xs b) new (list_any_at (λ m. m == b) xs i 0 l (eq-eqb _ _ (here ∙ same)))

    long : length (take i xs) ≡ i
    long = length-take-le i xs (omega (arith, l))

    below : (k : ℕ) → k < length nodes → get_or nodes k 0 < y
    below k within =
        let before : k < i = omega (arith, within, ap length so_far, length-map (take i xs) (next_of a b), long) in
        let at : get_or nodes k 0 ≡ next_of a b (get_or xs k 0) =
        ap (λ (ys : List ℕ). get_or ys k 0) so_far
        ∙ (get_or-map (next_of a b) (take i xs) k 0 0 (omega (arith, before, long))
        ∙ ap (next_of a b) (get_or-take i xs k 0 before)) in
        let order : get_or xs k 0 < x = omega (arith, rises xs k i set.rising before l, here) in
        rw (at, is) (keeps_order a b (get_or xs k 0) x next order not_next)
