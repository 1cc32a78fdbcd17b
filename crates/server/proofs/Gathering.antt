-- Nodes are put into a set one after another.
use Rattle.std.proofs.Common.{ℕ, suc, Bool, true, false, ◌==◌, ◌≡◌, ◌<◌, ◌≤◌, ◌+◌, List, [], ◌∷◌, ◌++◌, length, length-append, get_or, take, filter, refl, sym, ap, ◌∙◌, arith}
use Rattle.std.specs.Prelude.{if◌then◌else◌, ◌||◌, not, nat_lt, Result, Ok, Err, MatchResult, OnOk, OnErr}
use Rattle.std.proofs.Math.Bool.{or_assoc, or-false}
use Rattle.std.proofs.lemmas.Bool.Decides.{nat_tests}
use Rattle.std.proofs.lemmas.Grind.{take_at_read}
use Rattle.std.proofs.lemmas.List.Folds.{list_any-append}
use Rattle.term.specs.NodeSets.{set_of, with_node, HasNoRoom}
use Rattle.term.specs.declared.limits.TheConstants.{MOST_NODES}
use Rattle.term.specs.declared.faults.TextFault.{TextFault}

-- of a list no more nodes are less and greater than one than there are
apart : (xs : List ℕ) (c : ℕ) → length (filter (λ m. nat_lt m c) xs) + length (filter (λ m. nat_lt c m) xs) ≤ length xs
apart [] c = omega arith
apart (x ∷ xs) c = go (nat_lt x c) (nat_lt c x) (never x c) (apart xs c)
  where
    never : (x c : ℕ) → nat_lt x c ≡ true → nat_lt c x ≡ true → ⊥
    never x c e f = grind (arith, nat_tests)

    go : (a b : Bool) → (a ≡ true → b ≡ true → ⊥)
        → length (filter (λ m. nat_lt m c) xs) + length (filter (λ m. nat_lt c m) xs) ≤ length xs
        → length (if a then x ∷ filter (λ m. nat_lt m c) xs else filter (λ m. nat_lt m c) xs)
        + length (if b then x ∷ filter (λ m. nat_lt c m) xs else filter (λ m. nat_lt c m) xs) ≤ suc (length xs)
    go true true both h = absurd (both refl refl)
    go true false both h = omega arith
    go false true both h = omega arith
    go false false both h = omega arith

-- a set grows by one node at most
one_more : (xs : List ℕ) (c : ℕ) → length (with_node xs c) ≤ length xs + 1
one_more xs c = omega (
  arith,
  apart xs c,
  length-append (filter (λ m. nat_lt m c) xs) (c ∷ filter (λ m. nat_lt c m) xs),
)

-- the set of the first nodes, with the one behind them
next : (xs : List ℕ) (i x : ℕ) → i < length xs → x ≡ get_or xs i x → (c : ℕ)
    → set_of (take (i + 1) xs) c ≡ (set_of (take i xs) c || (x == c))
next xs i x below item c =
    ap (λ (ys : List ℕ). set_of ys c) (take_at_read xs i x below).1
    ∙ ap (λ (y : ℕ). set_of (take i xs ++ y ∷ []) c) (sym item)
    ∙ list_any-append (λ m. m == c) (take i xs) (x ∷ [])
    ∙ ap (λ (b : Bool). set_of (take i xs) c || b) (or-false (x == c))

-- so many of these nodes were put into a set, which may have had no room for all of them
pub record Gathers (start nodes : List ℕ) (i : ℕ) (now : List ℕ) : Type 0 where
  pub all : length start + length nodes ≤ MOST_NODES → (c : ℕ)
      → set_of now c ≡ (set_of start c || set_of (take i nodes) c)
  pub room : length now ≤ length start + i

-- one node more was put in, or there was no room for it
pub gathers_next : (start nodes old new : List ℕ) (i c : ℕ) (r : Result Bool TextFault)
    → i < length nodes → c ≡ get_or nodes i c
    → MatchResult r (λ is_new. (new ≡ with_node old c) × (is_new ≡ not (set_of old c))) (HasNoRoom old c)
    → OnOk r ((d : ℕ) → set_of new d ≡ (set_of old d || (c == d))) → OnErr r (new ≡ old)
    → Gathers start nodes i old → Gathers start nodes (i + 1) new
gathers_next start nodes old new i c (Ok is_new) below item put holds same g = record {
  all = λ fits d. holds d ∙ ap (λ (b : Bool). b || (c == d)) (g.all fits d)
      ∙ or_assoc (set_of start d) (set_of (take i nodes) d) (c == d)
      ∙ ap (λ (b : Bool). set_of start d || b) (sym (next nodes i c below item d));
  room = omega (arith, ap (λ (ns : List ℕ). length ns) put.0, one_more old c, g.room);
}
gathers_next start nodes old new i c (Err fault) below item full holds same g = record {
  all = λ fits d. absurd (omega (arith, full.full, g.room, fits, below));
  room = omega (arith, ap (λ (ns : List ℕ). length ns) same, g.room);
}
