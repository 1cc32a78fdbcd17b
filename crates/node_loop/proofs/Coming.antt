-- What holds of a loop that begins, and what each of its moves keeps, holds of the loop of a node.
use Rattle.std.proofs.Common.{ℕ, zero, suc, sym, subst, inl, inr}
use Rattle.node_core.specs.CoreState.{CoreState, opening_core}
use Rattle.node_loop.specs.Held.{Looping, with_next}
use Rattle.node_loop.specs.Coming.{begun, HandsOut, HandsOver, ComesBy, ComesFrom, IsLoopOf, IsLoopFrom}
use Rattle.node_loop.proofs.Moving.{IsKept, turns}

-- a loop begins so, and each move keeps it: a turn, a reply handed out, what is owed handed over, and that the next node of a name has started
pub record IsOfLoops (P : Looping → Type 0) : Type 0 where
  pub begins : (stamp : ℕ) (core : CoreState) → P (begun stamp core)
  pub kept : IsKept P
  pub hands_out : (a b : Looping) → P a → HandsOut a b → P b
  pub hands_over : (a b : Looping) → P a → HandsOver a b → P b
  pub replaces : (older next : ℕ) (a : Looping) → P a → P (with_next older next a)

module _ (P : Looping → Type 0) (K : IsOfLoops P) where
  comes : (n stamp : ℕ) (core : CoreState) (b : Looping) → ComesBy n stamp core b → P b
  comes zero stamp core b e = subst P (sym e) (K.begins stamp core)
  comes (suc n) stamp core b x = elim x.2 [
    | inl T ↦ turns P K.kept x.0 b (comes n stamp core x.0 x.1) T
    | inr (inl H) ↦ K.hands_out x.0 b (comes n stamp core x.0 x.1) H
    | inr (inr O) ↦ K.hands_over x.0 b (comes n stamp core x.0 x.1) O
  ]

  pub of_loop : (name : ℕ) (b : Looping) → IsLoopOf name b → P b
  of_loop name b is = comes is.moves is.stamp (opening_core is.nodes is.cluster name) b is.comes

  comes_from : (n stamp : ℕ) (core : CoreState) (b : Looping) → ComesFrom n stamp core b → P b
  comes_from zero stamp core b e = subst P (sym e) (K.begins stamp core)
  comes_from (suc n) stamp core b x = elim x.2 [
    | inl T ↦ turns P K.kept x.0 b (comes_from n stamp core x.0 x.1) T
    | inr (inl H) ↦ K.hands_out x.0 b (comes_from n stamp core x.0 x.1) H
    | inr (inr (inl O)) ↦ K.hands_over x.0 b (comes_from n stamp core x.0 x.1) O
    | inr (inr (inr R)) ↦ subst P (sym R.2) (K.replaces R.0 R.1 x.0 (comes_from n stamp core x.0 x.1))
  ]

  -- and of one whose world's nodes come back
  pub of_loop_from : (stamp : ℕ) (core : CoreState) (b : Looping) → IsLoopFrom stamp core b → P b
  of_loop_from stamp core b is = comes_from is.moves stamp core b is.comes
