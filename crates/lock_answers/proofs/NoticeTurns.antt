-- The turn of a node that reads a notice: no lock call counts its sender as granted behind it, and who is answered
-- `true` asked somebody who isn't told of as departed.
use mathlib.Core.Logic.{◌⊎◌}
use Rattle.std.proofs.Common.{ℕ, true, false, ◌==◌, ◌≡◌, Some, List, [], ◌∷◌, refl, sym, ap, ◌∙◌, subst, inl, inr}
use Rattle.std.specs.Prelude.{◌&&◌, Contains, if◌then◌else◌}
use Rattle.std.proofs.lemmas.Bool.{eqb-true}
use Rattle.std.proofs.Math.Bool.{and-false}
use Rattle.registry_model.specs.Process.{with_node}
use Rattle.registry_model.specs.Registry.{Replica}
use Rattle.registry_model.specs.Call.{True, is_reply}
use Rattle.registry_model.proofs.Legality.{is_reply-true}
use Rattle.registry_model.proofs.Updates.{by_test}
use Rattle.protocol_model.specs.Node.{Node, LockCall, call_of}
use Rattle.protocol_model.specs.Event.{Answer}
use Rattle.protocol_model.specs.Turn.{Turn, begun}
use Rattle.protocol_model.specs.Registrar.{start, lose_contact}
use Rattle.protocol_model.specs.Deciding.{lose}
use Rattle.protocol_model.specs.Reading.{told_of, bereave}
use Rattle.protocol_model.specs.World.{Opening, World, join_number}
use Rattle.moves.proofs.Rules.{is_ordered}
use Rattle.moves.proofs.Indices.{both}
use Rattle.walk.proofs.Calls.{AllOpen, all_open, ordered_found}
use Rattle.leftovers.proofs.Answering
use Rattle.leftovers.proofs.Answering.{any_true}
use Rattle.leftovers.proofs.Growing.{is_fine}
use Rattle.leftovers.proofs.Ongoing.{is_deleting}
use Rattle.leftovers.proofs.Grounds.{Base}
use Rattle.leftovers.proofs.Rest.{Among, ToldMore}
use Rattle.leftovers.proofs.RestCalls.{among_found}
use Rattle.leftovers.proofs.RestWork
use Rattle.leftovers.proofs.RestWork.{lose-same}
use Rattle.lock_answers.proofs.Clear.{ClearIn, ClearAt}
use Rattle.protocol_model.proofs.Finding.{found_any, any_found}
use Rattle.lock_answers.proofs.Besides.{is_true, start_adds, start_part, plain_lose}
use Rattle.lock_answers.proofs.Notices.{asks_in, LostAll, ClearAll, all_lost}

-- a call among ordered ones is open
pub among_open : (xs cs : List LockCall) (c : LockCall) → AllOpen xs cs → Among cs c → call_of c.holder xs ≡ Some c
among_open xs [] c h i = absurd i
among_open xs (d ∷ cs) c h (inl e) = subst (λ (y : LockCall). call_of y.holder xs ≡ Some y) (sym e) h.0
among_open xs (d ∷ cs) c h (inr i) = among_open xs cs c h.1 i

-- a notice of f is read at t
module _ (o : Opening) (w : World) (B : Base o w) (t f : ℕ) where
  abbrev v : Node
  v = w.node t

  abbrev num : ℕ → ℕ
  num = join_number w

  abbrev told : Turn
  told = told_of o.bound t num f (begun v)

  abbrev lost : Turn
  lost = lose o.bound t num f (lose_contact o.bound t f told.node.current told).node.current
      (lose_contact o.bound t f told.node.current told)

  abbrev pub behind : Turn
  behind = start o.bound t (bereave o.bound t num f (begun v))

  same : RestWork.Same told lost
  same = lose-same o t num f v.current told refl

  -- the calls before
  clear_all : ClearAt v → ClearAll o t v.replica.told f v.calls
  clear_all C = from v.calls (all_open t v.calls (B.ordered t))
    where
      from : (cs : List LockCall) → AllOpen v.calls cs → ClearAll o t v.replica.told f cs
      from [] h = tt
      from (c ∷ cs) h = ((C c.holder c h.0, ordered_found t c.holder v.calls c (B.ordered t) h.0), from cs h.1)

  more : ToldMore f v.replica.told (with_node f v.replica.told)
  more x h = by_test f (λ y b. (if b then true else v.replica.told y) ≡ true → (y ≡ f) ⊎ (v.replica.told y ≡ true))
      (λ k. inl refl) (λ y ne k. inr k) x h

  lost_all : ClearAt v → LostAll t lost.node.calls lost (bereave o.bound t num f (begun v))
  lost_all C = all_lost o t v.replica.told f lost.node.calls lost
      (subst (ClearAll o t v.replica.told f) (sym same.calls) (clear_all C))
      (subst (λ (x : Replica). ToldMore f v.replica.told x.told) (sym same.replica) more)
      (record {
        sorted = ap (is_ordered t) same.calls ∙ B.ordered t;
        calls = λ p c e. inr (among_found o t p lost.node.calls c e);
      })

  -- the node behind is clear
  pub behind_clear : ClearAt v → ClearAt behind.node
  behind_clear C p c e = subst (λ (x : Replica). ClearIn x.told c.phase)
      (sym L.replica ∙ sym (start_part (λ x. x.replica) (λ x k q. refl) o.bound t
      (bereave o.bound t num f (begun v))))
      (elim (L.clear.calls p c (sym (ap (call_of p) (start_part (λ x. x.calls) (λ x k q. refl) o.bound t
      (bereave o.bound t num f (begun v)))) ∙ e)) [
        | inl h ↦ h
        | inr i ↦ absurd i
      ])
    where
      L : LostAll t lost.node.calls lost (bereave o.bound t num f (begun v))
      L = lost_all C

  -- who is answered `true` deletes, or asks somebody who isn't told to have left behind the step
  pub behind_wins : is_fine v.current ≡ true → ClearAt v → (b m : ℕ) → any_true b m behind.answers ≡ true
      → (c : LockCall) × (call_of c.holder v.calls ≡ Some c) × (c.number ≡ m)
      × ((is_deleting c.phase ≡ true) ⊎ ((x : ℕ) × (asks_in x c.phase ≡ true)
      × (behind.node.replica.told x ≡ false)))
  behind_wins fine C b m h = by (any_found (Answering.is_true b m) (bereave o.bound t num f (begun v)).answers
      (sym (start_adds (Answering.is_true b m) (λ d k. and-false ((d == b) && (k == m))) o.bound t
      (bereave o.bound t num f (begun v))) ∙ h))
    where
      L : LostAll t lost.node.calls lost (bereave o.bound t num f (begun v))
      L = lost_all C

      silent : (s : Answer) → Contains lost.answers s → s.reply ≡ True → ⊥
      silent s k e = cc (sym (plain_lose o.bound t num f told fine)
          ∙ found_any (λ x. is_true x.reply) lost.answers s k (ap is_true e))

      by : (s : Answer) × Contains (bereave o.bound t num f (begun v)).answers s
          × (Answering.is_true b m s ≡ true)
          → (c : LockCall) × (call_of c.holder v.calls ≡ Some c) × (c.number ≡ m)
          × ((is_deleting c.phase ≡ true) ⊎ ((x : ℕ) × (asks_in x c.phase ≡ true)
          × (behind.node.replica.told x ≡ false)))
      by one =
          let test : (((one.0.node == b) && (one.0.number == m)) ≡ true) × (is_reply one.0.reply True ≡ true) =
          both ((one.0.node == b) && (one.0.number == m)) (is_reply one.0.reply True) one.2 in
          let yes : one.0.reply ≡ True = is_reply-true one.0.reply True test.1 in
          elim (L.given one.0 one.1 yes) [
            | inl k ↦ absurd (silent one.0 k yes)
            | inr k ↦ (
              k.0,
              among_open v.calls v.calls k.0 (all_open t v.calls (B.ordered t))
                  (subst (λ (cs : List LockCall). Among cs k.0) same.calls k.1),
              ap (λ (x : Answer). x.number) k.2.0
                  ∙ eqb-true one.0.number m (both (one.0.node == b) (one.0.number == m) test.0).1,
              subst (λ (x : Replica). (is_deleting k.0.phase ≡ true) ⊎ ((y : ℕ) × (asks_in y k.0.phase ≡ true)
                  × (x.told y ≡ false)))
                  (sym L.replica ∙ sym (start_part (λ x. x.replica) (λ x k q. refl) o.bound t
                  (bereave o.bound t num f (begun v)))) k.2.1,
            )
          ]
