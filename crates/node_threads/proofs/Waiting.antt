-- That nobody starves at an inbox: a task that waits goes up with each item that is taken.
use Rattle.std.proofs.Common.{ℕ, Bool, true, false, ◌≡◌, ◌<◌, ◌≤◌, ◌+◌, ◌-◌, ◌*◌, ◌⊎◌, inl, inr, Some, List, [], ◌∷◌, ◌++◌, map, length, zero, suc, refl, sym, ap, subst, ◌∙◌, arith, length-append}
use Rattle.std.specs.Prelude.{slice_get, slice_index_or, nat_lt, nat_le, ◌&&◌, if◌then◌else◌}
use Rattle.std.specs.List.{AllPass, Contains, remove, position}
use Rattle.std.proofs.lemmas.Bool.{cases_order, lt-ltb}
use Rattle.std.proofs.lemmas.Bool.Decides.{nat_tests}
use Rattle.std.proofs.lemmas.Option.{get_or_from_slice_get}
use Rattle.term.specs.declared.limits.TheConstants.{MOST_LETTERS}
use Rattle.node_loop.specs.declared.item.Item.{Item}
use Rattle.node_loop.specs.declared.item.Item.TheVariants.{Letter, Task as TaskItem}
use Rattle.node_loop.specs.declared.item.Task.{Task}
use Rattle.node_threads.specs.declared.ruled_end.Traffic.{Traffic}
use Rattle.node_threads.specs.Traffics.{with_tasks, asks_nodes, or_first, next_place}
use Rattle.node_threads.specs.Fairness.{Takings, is_letter, LettersGiveWay, TasksComeUp}

-- what stands at a place of a list stays, or comes up by one
module _ {A : Type 0} where
  get_appended : (xs ys : List A) (p : ℕ) (k : A) → slice_get xs p ≡ Some k → slice_get (xs ++ ys) p ≡ Some k
  get_appended [] ys p k e = absurd (cc e)
  get_appended (x ∷ xs) ys zero k e = e
  get_appended (x ∷ xs) ys (suc p) k e = get_appended xs ys p k e

  get_behind : (xs : List A) (q p : ℕ) (k : A) → q ≤ p → slice_get xs (suc p) ≡ Some k → slice_get (remove xs q) p ≡ Some k
  get_behind [] q p k le e = absurd (cc e)
  get_behind (x ∷ xs) zero p k le e = e
  get_behind (x ∷ xs) (suc q) zero k le e = absurd (omega (arith, le))
  get_behind (x ∷ xs) (suc q) (suc p) k le e = get_behind xs q p k (omega (arith, le)) e

  get_before : (xs : List A) (q p : ℕ) (k : A) → p < q → slice_get xs p ≡ Some k → slice_get (remove xs q) p ≡ Some k
  get_before [] q p k lt e = absurd (cc e)
  get_before (x ∷ xs) zero p k lt e = absurd (omega (arith, lt))
  get_before (x ∷ xs) (suc q) zero k lt e = e
  get_before (x ∷ xs) (suc q) (suc p) k lt e = get_before xs q p k (omega (arith, lt)) e

  later : (x y : A) (xs : List A) → Contains xs y → Contains (x ∷ xs) y
  later x y xs h = (suc h.0, omega (arith, h.1), h.2)

-- so many items may be taken before the task that waits longest is: a letter for each that is missing, the task, and the same again where
-- another task may pass it
abbrev left : Bool → ℕ → ℕ
left passed row = if passed then (MOST_LETTERS - row) + 1 else (MOST_LETTERS - row) + MOST_LETTERS + 2

-- so many are for each task that waits longer: that task, another that may pass it, and the letters before both
abbrev both : ℕ
both = 2 * (MOST_LETTERS + 1)

none_left : (b : Bool) (n p : ℕ) → left b n + both * p ≤ 0 → ⊥
none_left true n p h = omega (arith, h)
none_left false n p h = omega (arith, h)

letter_counts : (b : Bool) (n p m : ℕ) → n < MOST_LETTERS → left b n + both * p ≤ suc m → left b (n + 1) + both * p ≤ m
letter_counts true n p m lt h = omega (arith, lt, h)
letter_counts false n p m lt h = omega (arith, lt, h)

comes_up : (b c : Bool) (n p m : ℕ) → left b n + both * suc p ≤ suc m → left c 0 + both * p ≤ m
comes_up true true n p m h = omega (arith, h)
comes_up true false n p m h = omega (arith, h)
comes_up false true n p m h = omega (arith, h)
comes_up false false n p m h = omega (arith, h)

is_passed : (n p m : ℕ) → left false n + both * p ≤ suc m → left true 0 + both * p ≤ m
is_passed n p m h = omega (arith, h)

all_left : (b : Bool) (n p m : ℕ) → both * (p + 1) ≤ m → left b n + both * p ≤ m
all_left true n p m h = omega (arith, h)
all_left false n p m h = omega (arith, h)

-- a letter is taken before a task that waits
below : (n : ℕ) (b : Bool) → b ≡ true → (b && nat_le MOST_LETTERS n) ≡ false → n < MOST_LETTERS
below n true e h = grind (arith, nat_tests)
below n false e h = absurd (cc e)

waits : (ws : List Task) (p : ℕ) (k : Task) → slice_get ws p ≡ Some k → nat_lt 0 (length ws) ≡ true
waits [] p k e = absurd (cc e)
waits (w ∷ ws) p k e = lt-ltb 0 (suc (length ws)) (omega arith)

one_more : (n : ℕ) → n < MOST_LETTERS → (if nat_lt n MOST_LETTERS then n + 1 else n) ≡ n + 1
one_more n lt = go (nat_lt n MOST_LETTERS) refl
  where
    go : (b : Bool) → nat_lt n MOST_LETTERS ≡ b → (if b then n + 1 else n) ≡ n + 1
    go true e = refl
    go false e = absurd (grind (arith, nat_tests))

-- the task at a place behind the first is only taken where none was passed before
not_passed : (b : Bool) (q n : ℕ) → n < (if b then 0 else q) → b ≡ false
not_passed true q n lt = absurd (omega (arith, lt))
not_passed false q n lt = refl

comes : (items : List (ℕ × Item)) (s : Traffic) (p : ℕ) (k : Task) → Takings s items → slice_get s.waiting p ≡ Some k
    → left s.has_passed s.in_a_row + both * p ≤ length items → Contains (map (λ x. x.1) items) (TaskItem k)
comes [] s p k run at enough = absurd (none_left s.has_passed s.in_a_row p enough)
comes ((from, Letter l) ∷ items) s p k (u, same, v, takes, run) at enough =
    let here : slice_get u.waiting p ≡ Some k = ap (λ (x : Traffic). slice_get x.waiting p) same ∙ at in
    let few : u.in_a_row < MOST_LETTERS = below u.in_a_row (nat_lt 0 (length u.waiting)) (waits u.waiting p k here) takes.0 in
    let left_u : left u.has_passed u.in_a_row + both * p ≤ suc (length items) =
    subst (λ (x : Traffic). left x.has_passed x.in_a_row + both * p ≤ suc (length items)) (sym same) enough in
    let row : v.in_a_row ≡ u.in_a_row + 1 = ap (λ (x : Traffic). x.in_a_row) takes.2.2 ∙ one_more u.in_a_row few in
    let passed : v.has_passed ≡ u.has_passed = ap (λ (x : Traffic). x.has_passed) takes.2.2 in
    later (Letter l) (TaskItem k) (map (λ x. x.1) items) (comes items v p k run
    (ap (λ (x : Traffic). slice_get x.waiting p) takes.2.2 ∙ get_appended u.waiting takes.1 p k here)
    (subst (λ (x : Bool × ℕ). left x.0 x.1 + both * p ≤ length items) (λ j. (sym passed j, sym row j))
    (letter_counts u.has_passed u.in_a_row p (length items) few left_u)))
comes ((from, TaskItem j) ∷ items) s p k (u, same, v, takes, run) at enough =
    let here : slice_get (u.waiting ++ takes.1) p ≡ Some k =
    get_appended u.waiting takes.1 p k (ap (λ (x : Traffic). slice_get x.waiting p) same ∙ at) in
    let left_u : left u.has_passed u.in_a_row + both * p ≤ suc (length items) =
    subst (λ (x : Traffic). left x.has_passed x.in_a_row + both * p ≤ suc (length items)) (sym same) enough in
    at_place (λ x. comes items v x k run) (cases_order q p) p refl here left_u
  where
    q : ℕ
    q = next_place (with_tasks takes.1 u)

    row : 0 ≡ v.in_a_row
    row = sym (ap (λ (x : Traffic). x.in_a_row) takes.2.2)

    at_place : ((x : ℕ) → slice_get v.waiting x ≡ Some k → left v.has_passed v.in_a_row + both * x ≤ length items
        → Contains (map (λ y. y.1) items) (TaskItem k))
        → (q ≡ p) ⊎ ((q < p) ⊎ (p < q)) → (x : ℕ) → x ≡ p → slice_get (u.waiting ++ takes.1) x ≡ Some k
        → left u.has_passed u.in_a_row + both * x ≤ suc (length items) → Contains (map (λ x. x.1) ((from, TaskItem j) ∷ items)) (TaskItem k)
    at_place next (inl e) x is here left_u = (
      0,
      omega arith,
      ap TaskItem (takes.2.1 ∙ ap (λ (n : ℕ). slice_index_or (u.waiting ++ takes.1) n j) (e ∙ sym is)
          ∙ get_or_from_slice_get (u.waiting ++ takes.1) x k j here),
    )
    at_place next (inr (inl lt)) zero is here left_u = absurd (omega (arith, lt, is))
    at_place next (inr (inl lt)) (suc x) is here left_u = later (TaskItem j) (TaskItem k) (map (λ x. x.1) items) (next x
        (ap (λ (y : Traffic). slice_get y.waiting x) takes.2.2 ∙ get_behind (u.waiting ++ takes.1) q x k (omega (arith, lt, is)) here)
        (subst (λ (n : ℕ). left v.has_passed n + both * x ≤ length items) row
        (comes_up u.has_passed v.has_passed u.in_a_row x (length items) left_u)))
    at_place next (inr (inr lt)) x is here left_u =
        let unpassed : u.has_passed ≡ false = not_passed u.has_passed (or_first (position asks_nodes (u.waiting ++ takes.1))) p lt in
        let passed : v.has_passed ≡ true = ap (λ (y : Traffic). y.has_passed) takes.2.2 ∙ lt-ltb 0 q (omega (arith, lt)) in
        later (TaskItem j) (TaskItem k) (map (λ x. x.1) items) (next x
        (ap (λ (y : Traffic). slice_get y.waiting x) takes.2.2 ∙ get_before (u.waiting ++ takes.1) q x k (omega (arith, lt, is)) here)
        (subst (λ (y : Bool × ℕ). left y.0 y.1 + both * x ≤ length items) (λ i. (sym passed i, row i))
        (is_passed u.in_a_row x (length items) (subst (λ (b : Bool). left b u.in_a_row + both * x ≤ suc (length items)) unpassed left_u))))

-- while a task waits, each letter takes one off those that may be taken before it
letters : (items : List (ℕ × Item)) (s : Traffic) → Takings s items → 0 < length s.waiting → AllPass is_letter items
    → length items ≤ MOST_LETTERS - s.in_a_row
letters [] s run some all = omega arith
letters ((from, TaskItem j) ∷ items) s run some all = absurd (cc (all 0 (from, TaskItem j) (omega arith)))
letters ((from, Letter l) ∷ items) s (u, same, v, takes, run) some all =
    let some_u : 0 < length u.waiting = subst (λ (x : Traffic). 0 < length x.waiting) (sym same) some in
    let few : u.in_a_row < MOST_LETTERS = below u.in_a_row (nat_lt 0 (length u.waiting)) (lt-ltb 0 (length u.waiting) some_u) takes.0 in
    let row : v.in_a_row ≡ u.in_a_row + 1 = ap (λ (x : Traffic). x.in_a_row) takes.2.2 ∙ one_more u.in_a_row few in
    let row_u : u.in_a_row ≡ s.in_a_row = ap (λ (x : Traffic). x.in_a_row) same in
    let many : length v.waiting ≡ length u.waiting + length takes.1 =
    ap (λ (x : Traffic). length x.waiting) takes.2.2 ∙ length-append u.waiting takes.1 in
    let rest : length items ≤ MOST_LETTERS - v.in_a_row = letters items v run (omega (arith, some_u, many)) (λ i d lt. all (suc i) d (omega (arith, lt))) in
    omega (arith, few, row, row_u, rest)

pub letters_give_way : LettersGiveWay
letters_give_way s items run some all = omega (arith, letters items s run some all)

pub tasks_come_up : TasksComeUp
tasks_come_up s items p k run at enough = comes items s p k run at (all_left s.has_passed s.in_a_row p (length items) enough)
