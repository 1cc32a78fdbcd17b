-- An admission that is decided: what its letters count is what it counted itself, by the names that it brings.
use Rattle.std.proofs.Common.{ℕ, Bool, true, false, ◌==◌, ◌≡◌, ◌<◌, ◌≤◌, ◌+◌, ◌*◌, Option, Some, None, List, [], ◌∷◌, ◌++◌, refl, sym, ap, subst, ◌∙◌, arith}
use Rattle.std.specs.Prelude.{length, nat_lt, ◌&&◌, filter, fold, map, if◌then◌else◌}
use Rattle.std.specs.List.{list_any}
use Rattle.std.proofs.Math.Nat.{mul-le-mul_right}
use Rattle.std.proofs.lemmas.List.{length-append}
use Rattle.registry_model.specs.Process.{Process, is_process, with_node, nodes_of}
use Rattle.registry_model.specs.Table.{Rule, Exit, Notify, NotifyAll, Pair, Table, entry}
use Rattle.registry_model.specs.Settlement.{Fate, Settled, note, with_put, doomed, with_kill, with_notices, clash, settle_one, settle, with_settled, unsettled}
use Rattle.registry_model.proofs.Updates.{by_test}
use Rattle.protocol_model.specs.Round.{Round, asked}
use Rattle.protocol_model.specs.Letter.{Letter}
use Rattle.protocol_model.specs.Node.{Node, Op, Current}
use Rattle.protocol_model.specs.Turn.{begun}
use Rattle.protocol_model.specs.Deciding.{admit}
use Rattle.no_dead_end.specs.Weights.{sum_below, when}
use Rattle.no_dead_end.specs.Work.{owned_on, live_on}
use Rattle.no_dead_end.proofs.Counting.{Counting, weights, marks, at_current}
use Rattle.no_dead_end.proofs.Sums.{sum-same, sum-le, sum-add, sum-each, sum-zero, sum-one, sum-most, when-swap}
use Rattle.no_dead_end.proofs.RoundWork.{asked_work}
use Rattle.no_dead_end.proofs.Totals.{sent_work-append, sent_each}
use Rattle.no_dead_end.proofs.RegistrarWork.{own, sent, Spends, fewer}

-- a settlement that came of so many pairs: it puts no more, and kills no more
pub record Small (k : ℕ) (s : Settled) : Type 0 where
  pub puts : length s.puts ≤ k
  pub kills : length s.fate.kills ≤ k

doomed_more : (p : Process) (fate : Fate) → length (doomed p fate).kills ≤ length fate.kills + 1
doomed_more p fate = go (list_any (is_process p) fate.kills)
  where
    go : (t : Bool) → length (if t then fate else record fate { kills = fate.kills ++ p ∷ [] }).kills ≤ length fate.kills + 1
    go true = omega arith
    go false = let h : length (fate.kills ++ p ∷ []) ≡ length fate.kills + 1 = length-append fate.kills (p ∷ []) in omega (arith, h)

clash_small : (k : ℕ) (rule : Rule) (pair : Pair) (q : Process) (s : Settled) → Small k s → Small (k + 1) (clash rule pair q s)
clash_small k Exit pair q s S = go (nat_lt pair.owner.node q.node)
  where
    go : (t : Bool) → Small (k + 1) (if t then with_kill q (with_put pair s) else with_kill pair.owner s)
    go true = record {
      puts = let h : length (s.puts ++ pair ∷ []) ≡ length s.puts + 1 = length-append s.puts (pair ∷ []) in
          let i : length s.puts ≤ k = S.puts in omega (arith, h, i);
      kills = let h : length (doomed q s.fate).kills ≤ length s.fate.kills + 1 = doomed_more q s.fate in
          let i : length s.fate.kills ≤ k = S.kills in omega (arith, h, i);
    }
    go false = record {
      puts = let i : length s.puts ≤ k = S.puts in omega (arith, i);
      kills = let h : length (doomed pair.owner s.fate).kills ≤ length s.fate.kills + 1 = doomed_more pair.owner s.fate in
          let i : length s.fate.kills ≤ k = S.kills in omega (arith, h, i);
    }
clash_small k Notify pair q s S = go (nat_lt pair.owner.node q.node)
  where
    go : (t : Bool) → Small (k + 1) (if t then with_notices (note q pair.name None ∷ []) (with_put pair s)
        else with_notices (note pair.owner pair.name None ∷ []) s)
    go true = record {
      puts = let h : length (s.puts ++ pair ∷ []) ≡ length s.puts + 1 = length-append s.puts (pair ∷ []) in
          let i : length s.puts ≤ k = S.puts in omega (arith, h, i);
      kills = let i : length s.fate.kills ≤ k = S.kills in omega (arith, i);
    }
    go false = record {
      puts = let i : length s.puts ≤ k = S.puts in omega (arith, i);
      kills = let i : length s.fate.kills ≤ k = S.kills in omega (arith, i);
    }
clash_small k NotifyAll pair q s S = record {
  puts = let i : length s.puts ≤ k = S.puts in omega (arith, i);
  kills = let i : length s.fate.kills ≤ k = S.kills in omega (arith, i);
}

one_small : (k : ℕ) (pair : Pair) (e : Option Pair) (s : Settled) → Small k s → Small (k + 1) (settle_one pair e s)
one_small k pair None s S = record {
  puts = let h : length (s.puts ++ pair ∷ []) ≡ length s.puts + 1 = length-append s.puts (pair ∷ []) in
      let i : length s.puts ≤ k = S.puts in omega (arith, h, i);
  kills = let i : length s.fate.kills ≤ k = S.kills in omega (arith, i);
}
one_small k pair (Some it) s S = go (is_process pair.owner it.owner) (clash_small k it.rule pair it.owner s S)
  where
    go : (t : Bool) → Small (k + 1) (clash it.rule pair it.owner s) → Small (k + 1) (if t then s else clash it.rule pair it.owner s)
    go true h = record {
      puts = let i : length s.puts ≤ k = S.puts in omega (arith, i);
      kills = let i : length s.fate.kills ≤ k = S.kills in omega (arith, i);
    }
    go false h = h

all_small : (table pairs : Table) (k : ℕ) (s : Settled) → Small k s
    → Small (k + length pairs) (fold (λ settled pair. settle_one pair (entry pair.name table) settled) s pairs)
all_small table [] k s S = subst (λ (j : ℕ). Small j s) (omega arith) S
all_small table (pair ∷ pairs) k s S = subst (λ (j : ℕ). Small j (fold (λ settled p. settle_one p (entry p.name table) settled)
    (settle_one pair (entry pair.name table) s) pairs)) (omega arith)
    (all_small table pairs (k + 1) (settle_one pair (entry pair.name table) s) (one_small k pair (entry pair.name table) s S))

pub settle_small : (table pairs : Table) → Small (0 + length pairs) (settle table pairs)
settle_small table pairs = all_small table pairs 0 unsettled (record { puts = omega arith; kills = omega arith })

-- processes are counted at one node each
kills_count : (alive : Process → Bool) (b n : ℕ) (ks : List Process) → sum_below b (λ c. live_on alive c ks * n) ≤ length ks * n
kills_count alive b n [] = subst (λ (k : ℕ). k ≤ 0 * n) (sym (sum-same b (λ c. 0 * n) (λ c. 0) (λ c l. omega arith) ∙ sum-zero b))
    (omega arith)
kills_count alive b n (p ∷ ks) =
    let rest : sum_below b (λ c. live_on alive c ks * n) ≤ length ks * n = kills_count alive b n ks in
    let le : sum_below b (λ c. live_on alive c (p ∷ ks) * n) ≤ sum_below b (λ c. when (c == p.node) n + live_on alive c ks * n) =
    sum-le b (λ c. live_on alive c (p ∷ ks) * n) (λ c. when (c == p.node) n + live_on alive c ks * n) (λ c l. each c) in
    let split : sum_below b (λ c. when (c == p.node) n + live_on alive c ks * n)
    ≡ sum_below b (λ c. when (c == p.node) n) + sum_below b (λ c. live_on alive c ks * n) =
    sum-add b (λ c. when (c == p.node) n) (λ c. live_on alive c ks * n) in
    let one : sum_below b (λ c. when (c == p.node) n) ≤ n = sum-most b p.node n in
    omega (arith, rest, le, split, one)
  where
    by : (c : ℕ) (t u : Bool) → length (if t && u then p ∷ filter (λ q. (q.node == c) && alive q) ks
        else filter (λ q. (q.node == c) && alive q) ks) * n
        ≤ when t n + live_on alive c ks * n
    by c true true = omega arith
    by c true false = omega arith
    by c false u = omega arith

    each : (c : ℕ) → live_on alive c (p ∷ ks) * n ≤ when (c == p.node) n + live_on alive c ks * n
    each c = let h : length (if (p.node == c) && alive p
        then p ∷ filter (λ q. (q.node == c) && alive q) ks else filter (λ q. (q.node == c) && alive q) ks) * n
        ≤ when (p.node == c) n + live_on alive c ks * n = by c (p.node == c) (alive p) in
        let i : when (p.node == c) n ≡ when (c == p.node) n = when-swap p.node c n in omega (arith, h, i)

module _ (C : Counting) where
  open C use {opening.{bound as b}, size as n, alive, up, few as most, node as a}

  -- the joiner is no member, no name that is put is on a member, and on it are no more than it brought
  pub admits_work : (j : ℕ) (pairs : Table) (r : Round) (number : ℕ → ℕ) (v : Node)
      → v.current ≡ Current.Asking (Op.Admission j pairs) r
      → j < b → v.replica.members j ≡ false
      → ((c : ℕ) → v.replica.members c ≡ true → owned_on c (settle v.replica.table pairs).puts ≡ 0)
      → owned_on j (with_settled (settle v.replica.table pairs) v.replica.table) ≤ length pairs
      → Spends C v (admit b a number j pairs (asked r) (settle v.replica.table pairs) (begun v)) 0
  admits_work j pairs r number v e low apart foreign brought =
      let was : at_current C v.current ≡ marks C r + (2 * n + length pairs * (6 * n)) =
      ap (at_current C) e in
      let same : own C v.current v.replica.table ≡ own C (Current.Asking (Op.Admission j pairs) r) v.replica.table =
      ap (λ (c : Current). own C c v.replica.table) e in
      let less : own C (Current.Writing (Op.Admission j pairs) (asked r) (with_node j v.replica.members) None) v.replica.table
      ≤ own C (Current.Asking (Op.Admission j pairs) r) v.replica.table =
      fewer C (Current.Asking (Op.Admission j pairs) r)
      (Current.Writing (Op.Admission j pairs) (asked r) (with_node j v.replica.members) None) v.replica.table (λ p k. cc k) in
      let paid : sum_below b (λ c. when (up c && asked r c) 1) ≤ marks C r = asked_work C r in
      let small : Small (0 + length pairs) s = settle_small v.replica.table pairs in
      let both : sent C (map (λ c. record { to = c; letter = Letter.Admit j s }) (nodes_of b v.replica.members)
      ++ record { to = j; letter = welcome } ∷ [])
      ≡ sent C (map (λ c. record { to = c; letter = Letter.Admit j s }) (nodes_of b v.replica.members))
      + (when (up j) (of welcome) + 0) =
      sent_work-append b (weights C) up a (map (λ c. record { to = c; letter = Letter.Admit j s }) (nodes_of b v.replica.members))
      (record { to = j; letter = welcome } ∷ []) in
      let admits : sent C (map (λ c. record { to = c; letter = Letter.Admit j s }) (nodes_of b v.replica.members))
      ≡ sum_below b (λ c. when (up c && v.replica.members c) ((weights C).letter a c (Letter.Admit j s))) =
      sent_each b (weights C) up a b v.replica.members (Letter.Admit j s) in
      let all : sum_below b (λ c. when (up c && v.replica.members c) ((weights C).letter a c (Letter.Admit j s))
      + when (c == j) (when (up j) (2 + live_on alive j s.fate.kills * n)))
      ≤ sum_below b (λ c. when (up c) 2 + live_on alive c s.fate.kills * n) =
      sum-le b (λ c. when (up c && v.replica.members c) ((weights C).letter a c (Letter.Admit j s))
      + when (c == j) (when (up j) (2 + live_on alive j s.fate.kills * n))) (λ c. when (up c) 2 + live_on alive c s.fate.kills * n)
      (λ c l. each c) in
      let split : sum_below b (λ c. when (up c && v.replica.members c) ((weights C).letter a c (Letter.Admit j s))
      + when (c == j) (when (up j) (2 + live_on alive j s.fate.kills * n)))
      ≡ sum_below b (λ c. when (up c && v.replica.members c) ((weights C).letter a c (Letter.Admit j s)))
      + sum_below b (λ c. when (c == j) (when (up j) (2 + live_on alive j s.fate.kills * n))) =
      sum-add b (λ c. when (up c && v.replica.members c) ((weights C).letter a c (Letter.Admit j s)))
      (λ c. when (c == j) (when (up j) (2 + live_on alive j s.fate.kills * n))) in
      let one : sum_below b (λ c. when (c == j) (when (up j) (2 + live_on alive j s.fate.kills * n)))
      ≡ when (up j) (2 + live_on alive j s.fate.kills * n) =
      sum-one b j (when (up j) (2 + live_on alive j s.fate.kills * n)) low in
      let split2 : sum_below b (λ c. when (up c) 2 + live_on alive c s.fate.kills * n)
      ≡ sum_below b (λ c. when (up c) 2) + sum_below b (λ c. live_on alive c s.fate.kills * n) =
      sum-add b (λ c. when (up c) 2) (λ c. live_on alive c s.fate.kills * n) in
      let count : sum_below b (λ c. when (up c) 2) ≡ length (nodes_of b up) * 2 = sum-each b up 2 in
      let deaths : sum_below b (λ c. live_on alive c s.fate.kills * n) ≤ length s.fate.kills * n =
      kills_count alive b n s.fate.kills in
      let few : length s.fate.kills * n ≤ (0 + length pairs) * n = mul-le-mul_right n small.kills in
      let names : owned_on j (with_settled s v.replica.table) * (5 * n) ≤ length pairs * (5 * n) =
      mul-le-mul_right (5 * n) brought in
      let entered : when (up j) (of welcome) ≤ when (up j) (2 + live_on alive j s.fate.kills * n)
      + owned_on j (with_settled s v.replica.table) * (5 * n) =
      split_letter (up j) (owned_on j (with_settled s v.replica.table) * (5 * n)) (live_on alive j s.fate.kills * n) in
      omega (arith, was, same, less, paid, both, admits, all, split, one, split2, count, deaths, few, names, entered, most)
    where
      s : Settled
      s = settle v.replica.table pairs

      welcome : Letter
      welcome = Letter.Welcome (with_node j v.replica.members) (with_settled s v.replica.table) v.replica.told s.fate

      of : Letter → ℕ
      of l = (weights C).letter a j l

      split_letter : (t : Bool) (x y : ℕ) → when t (2 + x + y) ≤ when t (2 + y) + x
      split_letter true x y = omega arith
      split_letter false x y = omega arith

      plain : (u m : Bool) (x y : ℕ) → (m ≡ true → x ≡ 0) → when (u && m) (2 + x + y) + 0 ≤ when u 2 + y
      plain true true x y h = let z : x ≡ 0 = h refl in omega (arith, z)
      plain true false x y h = omega arith
      plain false m x y h = omega arith

      joiner : (u : Bool) (x y : ℕ) → when (u && false) (2 + x + y) + when u (2 + y) ≤ when u 2 + y
      joiner true x y = omega arith
      joiner false x y = omega arith

      each : (c : ℕ) → when (up c && v.replica.members c) (2 + owned_on c s.puts * (5 * n) + live_on alive c s.fate.kills * n)
          + when (c == j) (when (up j) (2 + live_on alive j s.fate.kills * n)) ≤ when (up c) 2 + live_on alive c s.fate.kills * n
      each = by_test j (λ c t. when (up c && v.replica.members c)
          (2 + owned_on c s.puts * (5 * n) + live_on alive c s.fate.kills * n)
          + when t (when (up j) (2 + live_on alive j s.fate.kills * n)) ≤ when (up c) 2 + live_on alive c s.fate.kills * n)
          (rw apart (joiner (up j) (owned_on j s.puts * (5 * n)) (live_on alive j s.fate.kills * n)))
          (λ c ne. plain (up c) (v.replica.members c) (owned_on c s.puts * (5 * n)) (live_on alive c s.fate.kills * n)
          (λ m. ap (λ (k : ℕ). k * (5 * n)) (foreign c m) ∙ omega arith))
