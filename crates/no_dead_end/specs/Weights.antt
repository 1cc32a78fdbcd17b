-- Measures of a world, as sums of weights over its nodes and their letters.
-- b: above all nodes of the world. up: the nodes that count. f and c: nodes, f the sender and c the receiver of a letter. A pair
-- counts at the node of its owner.
use Rattle.std.specs.Prelude.{ℕ, Bool, false, zero, suc, not, ◌&&◌, ◌==◌, ◌+◌, List, if◌then◌else◌}
use Rattle.std.specs.List.{sum_by}
use Rattle.registry_model.specs.Process.{Process, is_process, Nodes}
use Rattle.registry_model.specs.Table.{Pair, Table}
use Rattle.protocol_model.specs.Round.{Mark, Round}
use Rattle.protocol_model.specs.Letter.{Letter}
use Rattle.protocol_model.specs.Node.{Node, Op, Current, LockPhase}
use Rattle.protocol_model.specs.World.{World}

-- the sum of f over all numbers below b
abbrev pub sum_below : ℕ → (ℕ → ℕ) → ℕ
sum_below zero f = 0
sum_below (suc b) f = sum_below b f + f b

-- the number, where this is so
abbrev pub when : Bool → ℕ → ℕ
when so k = if so then k else 0

-- what a measure counts
pub record Weights : Type 0 where
  pub mark : Mark → ℕ  -- a node of a round
  pub undecided : Op → ℕ  -- an operation whose round isn't over, or was refused
  pub back : ℕ  -- a node that is to get the global lock back
  pub queued : Table → Op → ℕ  -- an operation of a queue, by the table of its node
  pub owned : ℕ  -- a pair whose owner is on its node
  pub letter : ℕ → ℕ → Letter → ℕ

-- the operation is the strike of this process
abbrev pub strikes : Op → Process → Bool
strikes (Op.Strike p) q = is_process p q
strikes _ q = false

-- and the registrar is at it
abbrev pub is_struck : Current → Process → Bool
is_struck (Current.Asking op r) q = strikes op q
is_struck (Current.Waiting op) q = strikes op q
is_struck (Current.Writing op asked awaited reply) q = strikes op q
is_struck _ q = false

-- c's registrar may still strike the owner of a pair of its table
abbrev pub may_strike : ℕ → Current → Pair → Bool
may_strike c current pair = (pair.owner.node == c) && not (is_struck current pair.owner)

-- the letters of a link
abbrev pub of_link : Weights → ℕ → ℕ → List Letter → ℕ
of_link W f c ls = sum_by (W.letter f c) ls

module _ (b : ℕ) (W : Weights) (up : Nodes) where
  abbrev pub of_round : Round → ℕ
  of_round r = sum_below b (λ c. when (up c) (W.mark (r.mark c)))

  -- what the registrar is at
  abbrev pub of_current : Current → ℕ
  of_current (Current.Asking op r) = of_round r + W.undecided op
  of_current (Current.Waiting op) = W.undecided op
  of_current (Current.Writing op asked awaited reply) = sum_below b (λ c. when (up c && asked c) W.back)
  of_current _ = 0

  -- a lock call
  abbrev pub of_phase : LockPhase → ℕ
  of_phase (LockPhase.Asking r) = of_round r
  of_phase _ = 0

  abbrev pub of_node : ℕ → Node → ℕ
  of_node c v =
      of_current v.current + sum_by (W.queued v.replica.table) v.queue
      + sum_by (λ pair. when (may_strike c v.current pair) W.owned) v.replica.table + sum_by (λ call. of_phase call.phase) v.calls

  -- a node, with the letters that wait for it
  abbrev pub of_place : World → ℕ → ℕ
  of_place w c = of_node c (w.node c) + sum_below b (λ f. of_link W f c (w.links.queue f c))

  -- all nodes that count
  abbrev pub total : World → ℕ
  total w = sum_below b (λ c. when (up c) (of_place w c))
