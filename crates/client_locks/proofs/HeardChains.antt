-- A chain that begins no lock call counts for each process what its call is answered.
use Rattle.std.proofs.Common.{ℕ, Bool, true, false, ◌==◌, ◌≡◌, Option, Some, None, List, [], ◌∷◌, ◌++◌, refl, sym, ap, ◌∙◌, subst, inl, inr}
use Rattle.std.specs.Prelude.{◌&&◌, ◌||◌, if◌then◌else◌}
use Rattle.std.specs.List.{list_all}
use Rattle.std.proofs.lemmas.List.Folds.{list_any-append}
use Rattle.std.proofs.lemmas.Bool.{eqb-true, eq-eqb}
use Rattle.std.proofs.Math.Bool.{and-false, and-true}
use Rattle.registry_model.specs.Process.{Process, is_process}
use Rattle.protocol_model.specs.Letter.{Id}
use Rattle.protocol_model.specs.Node.{LockCall}
use Rattle.protocol_model.specs.Event.{Answer, is_waiting_call}
use Rattle.protocol_model.specs.ClientLocks.{is_no_more}
use Rattle.protocol_model.specs.World.{Opening, World}
use Rattle.moves.proofs.Rules.{Rule, MayAll, Ordered, effect, effects, turn_by, answers_by}
use Rattle.moves.proofs.Indices.{both}
use Rattle.walk.proofs.ChainKinds.{Aside, Hearing, suits}
use Rattle.client_locks.proofs.RoundNumbers.{is_tried, is_won_by_round}
use Rattle.client_locks.proofs.Ids.{is_process_same, is_process_self}
use Rattle.client_locks.proofs.Calls.{holder_of_call}
use Rattle.client_locks.proofs.Clients.{Numbers, call_at}
use Rattle.client_locks.proofs.Numbers.{num_by, nums_by, plus_if}
use Rattle.client_locks.proofs.Growing.{Replying, replying_keeps}
use Rattle.client_locks.proofs.Answering.{is_true, any_true, not_true_answers}
use Rattle.client_locks.proofs.Steps.{is_step, nums_same, calls_aside, calls_from}
use Rattle.client_locks.proofs.Ongoing.{GoesOnFrom, Step, call_tries, call_rests, call_stepped}
use Rattle.client_locks.proofs.Chains.{OrderedKept, aside_or_step, aside_gives_none, aside_counts_none, won_later, won_untried, rest_tries, up_before, Distinct, distinct_from, from_heard}

and_and_false : (b c : Bool) → (b && (c && false)) ≡ false
and_and_false true c = and-false c
and_and_false false c = refl

module _ (o : Opening) (a : ℕ) (kept : OrderedKept o) where
  -- a call of this number waits for a retry, if there is one
  abbrev pub Waits : ℕ → World → Type 0
  Waits m w = (p : Process) (c : LockCall) → p.node ≡ a → call_at w p ≡ Some c → c.number ≡ m
      → is_waiting_call c.phase ≡ true

  -- the number isn't that of a busy call
  not_number : (w : World) (m : ℕ) → Waits m w → (p : Process) (c : LockCall) → p.node ≡ a → call_at w p ≡ Some c
      → is_waiting_call c.phase ≡ false → (c.number == m) ≡ false
  not_number w m W p c home e busy = go (c.number == m) refl
    where
      go : (b : Bool) → (c.number == m) ≡ b → b ≡ false
      go false k = refl
      go true k = absurd (cc (W p c home e (eqb-true c.number m k), busy))

  waits_step : (w : World) (num : Numbers) (r : Rule) (m : ℕ) → Step o a r w num → Waits m w → Waits m (effect o a r w)
  waits_step w num r m S W p d home e n = go (is_process S.call.holder p) refl (sym (S.calls p) ∙ e)
    where
      go : (b : Bool) → is_process S.call.holder p ≡ b → (if b then S.next else call_at w p) ≡ Some d
          → is_waiting_call d.phase ≡ true
      go true k h = absurd (cc (W S.call.holder S.call S.home S.found (sym (S.same d h).0 ∙ n), S.busy))
      go false k h = W p d home h n

  -- then no call of this number is answered `true`
  pub answered_none : (rs : List Rule) (w : World) (num : Numbers) (m : ℕ) → list_all (suits Hearing) rs ≡ true
      → MayAll o a rs w → Ordered w → Replying w → Waits m w → (b : ℕ) → any_true b m (answers_by o a rs w) ≡ false
  answered_none [] w num m h k order R W b = refl
  answered_none (r ∷ rs) w num m h k order R W b =
      let parts : (suits Hearing r ≡ true) × (list_all (suits Hearing) rs ≡ true) = both (suits Hearing r)
      (list_all (suits Hearing) rs) h in
      go parts.0 (is_step r) refl (λ W1. answered_none rs (effect o a r w) num m parts.1 k.1 (kept a w r order k.0)
      (replying_keeps o a w r k.0 R) W1 b)
    where
      join : any_true b m (turn_by o a w r).answers ≡ false → any_true b m (answers_by o a rs (effect o a r w)) ≡ false
          → any_true b m (answers_by o a (r ∷ rs) w) ≡ false
      join x y = list_any-append (is_true b m) (turn_by o a w r).answers (answers_by o a rs (effect o a r w))
          ∙ ap (λ (t : Bool). t || any_true b m (answers_by o a rs (effect o a r w))) x ∙ y

      go : suits Hearing r ≡ true → (t : Bool) → is_step r ≡ t → (Waits m (effect o a r w)
          → any_true b m (answers_by o a rs (effect o a r w)) ≡ false)
          → any_true b m (answers_by o a (r ∷ rs) w) ≡ false
      go heard true e later =
          let S : Step o a r w num = call_stepped o a w num order R r e k.0 in
          join (S.answers b m ∙ ap (λ (t : Bool). S.ended && ((a == b) && t))
          (not_number w m W S.call.holder S.call S.home S.found S.busy) ∙ and_and_false S.ended (a == b))
          (later (waits_step w num r m S W))
      go heard false e later =
          let plain : suits Aside r ≡ true = aside_or_step r heard e in
          join (not_true_answers o a w b m r (aside_gives_none r plain) k.0 R)
          (later (λ p d home x n. W p d home (calls_from o a w num r plain k.0 p d x) n))

  -- the number after the chain
  pub heard_nums : (rs : List Rule) (w : World) (num : Numbers) → list_all (suits Hearing) rs ≡ true → MayAll o a rs w
      → Ordered w → Replying w → Distinct o a w
      → (p : Process) → is_no_more (effects o a rs w) p ≡ false → (id : Id) (x : ℕ)
      → nums_by o a rs w num p id x ≡ plus_if (is_won_by_round id x (answers_by o a rs w) (call_at w p)) (num p id x)
  heard_nums [] w num h k order R D p up id x = go (call_at w p)
    where
      nothing : (b : Bool) (i : ℕ) → i ≡ plus_if (b && false) i
      nothing true i = refl
      nothing false i = refl

      go : (c : Option LockCall) → num p id x ≡ plus_if (is_won_by_round id x [] c) (num p id x)
      go None = refl
      go (Some c) = nothing (is_tried id x c) (num p id x)
  heard_nums (r ∷ rs) w num h k order R D p up id x =
      let parts : (suits Hearing r ≡ true) × (list_all (suits Hearing) rs ≡ true) = both (suits Hearing r)
      (list_all (suits Hearing) rs) h in
      heard_nums rs w1 (num_by a r w num) parts.1 k.1 (kept a w r order k.0) (replying_keeps o a w r k.0 R)
      (distinct_from o a w w1 (from_heard o a w num r parts.0 k.0 order R) D) p up id x
      ∙ go parts.0 (is_step r) refl
    where
      w1 : World
      w1 = effect o a r w

      first : List Answer
      first = (turn_by o a w r).answers

      later : List Answer
      later = answers_by o a rs w1

      -- no rule of this call
      apart : call_at w1 p ≡ call_at w p → num_by a r w num p id x ≡ num p id x
          → ((c : LockCall) → call_at w p ≡ Some c → any_true c.holder.node c.number first ≡ false)
          → plus_if (is_won_by_round id x later (call_at w1 p)) (num_by a r w num p id x) ≡ plus_if
          (is_won_by_round id x (first ++ later) (call_at w p)) (num p id x)
      apart ec en none = ap (λ (i : ℕ). plus_if (is_won_by_round id x later (call_at w1 p)) i) en
          ∙ ap (λ (c : Option LockCall). plus_if (is_won_by_round id x later c) (num p id x)) ec
          ∙ ap (λ (b : Bool). plus_if b (num p id x)) (sym (won_later id x first later (call_at w p) none))

      -- a step of this call
      own : suits Hearing r ≡ true → list_all (suits Hearing) rs ≡ true → (S : Step o a r w num)
          → is_process S.call.holder p ≡ true
          → plus_if (is_won_by_round id x later (call_at w1 p)) (num_by a r w num p id x) ≡ plus_if
          (is_won_by_round id x (first ++ later) (call_at w p)) (num p id x)
      own heard all S e =
          ap (λ (c : Option LockCall). plus_if (is_won_by_round id x later c) (num_by a r w num p id x))
          (S.calls p ∙ ap (λ (b : Bool). if b then S.next else call_at w p) e)
          ∙ ap (λ (i : ℕ). plus_if (is_won_by_round id x later S.next) i) (S.nums p id x
          ∙ ap (λ (b : Bool). plus_if (b && (S.ended && is_tried id x S.call)) (num p id x)) e)
          ∙ by_end S.ended refl
          ∙ ap (λ (c : Option LockCall). plus_if (is_won_by_round id x (first ++ later) c) (num p id x)) (sym was)
        where
          was : call_at w p ≡ Some S.call
          was = subst (λ (q : Process). call_at w q ≡ Some S.call) (is_process_same S.call.holder p e) S.found

          true_first : any_true S.call.holder.node S.call.number first ≡ S.ended
          true_first = S.answers S.call.holder.node S.call.number ∙ rw
              (eq-eqb a S.call.holder.node (sym S.home), eq-eqb S.call.number S.call.number refl) (and-true S.ended)

          true_all : any_true S.call.holder.node S.call.number (first ++ later) ≡
              (S.ended || any_true S.call.holder.node S.call.number later)
          true_all = list_any-append (is_true S.call.holder.node S.call.number) first later
              ∙ ap (λ (b : Bool). b || any_true S.call.holder.node S.call.number later) true_first

          untried : call_rests S.next ≡ true → is_won_by_round id x later S.next ≡ false
          untried rest = won_untried id x later S.next (rest_tries id x S.next rest)

          -- the call has ended well: nothing else is won
          ended_well : call_rests S.next ≡ true → S.ended ≡ true → plus_if (is_won_by_round id x later S.next)
              (plus_if (true && (S.ended && is_tried id x S.call)) (num p id x)) ≡ plus_if
              (is_tried id x S.call && any_true S.call.holder.node S.call.number (first ++ later)) (num p id x)
          ended_well rest end = ap (λ (b : Bool). plus_if b (plus_if (true && (S.ended && is_tried id x S.call))
              (num p id x))) (untried rest)
              ∙ ap (λ (b : Bool). plus_if (b && is_tried id x S.call) (num p id x)) end
              ∙ sym (ap (λ (b : Bool). plus_if (is_tried id x S.call && b) (num p id x))
              (true_all ∙ ap (λ (b : Bool). b || any_true S.call.holder.node S.call.number later) end)
              ∙ ap (λ (b : Bool). plus_if b (num p id x)) (and-true (is_tried id x S.call)))

          -- it has ended otherwise: it isn't answered `true` any more
          number_waits : call_rests S.next ≡ true → Waits S.call.number w1
          number_waits rest q d home eq n = split (is_process S.call.holder q) refl (sym (S.calls q) ∙ eq)
            where
              phase_of : (next : Option LockCall) → call_rests next ≡ true → next ≡ Some d → is_waiting_call d.phase ≡ true
              phase_of None h i = cc
              phase_of (Some c) h i = let same : c ≡ d = cc i in subst (λ (j : LockCall). is_waiting_call j.phase
                  ≡ true) same h

              split : (b : Bool) → is_process S.call.holder q ≡ b → (if b then S.next else call_at w q) ≡ Some d
                  → is_waiting_call d.phase ≡ true
              split true i j = phase_of S.next rest j
              split false i j =
                  let one : S.call.holder ≡ q = D S.call.holder q S.call d S.home home S.found j (sym n) in
                  absurd (cc (
                    subst (λ (k : Process). is_process S.call.holder k ≡ true) one
                        (is_process_self S.call.holder),
                    i,
                  ))

          failed : call_rests S.next ≡ true → S.ended ≡ false → plus_if (is_won_by_round id x later S.next)
              (plus_if (true && (S.ended && is_tried id x S.call)) (num p id x)) ≡ plus_if
              (is_tried id x S.call && any_true S.call.holder.node S.call.number (first ++ later)) (num p id x)
          failed rest end = ap (λ (b : Bool). plus_if b (plus_if (true && (S.ended && is_tried id x S.call))
              (num p id x))) (untried rest)
              ∙ ap (λ (b : Bool). plus_if (b && is_tried id x S.call) (num p id x)) end
              ∙ sym (ap (λ (b : Bool). plus_if (is_tried id x S.call && b) (num p id x))
              (true_all ∙ ap (λ (b : Bool). b || any_true S.call.holder.node S.call.number later) end
              ∙ answered_none rs w1 num S.call.number all k.1 (kept a w r order k.0)
              (replying_keeps o a w r k.0 R) (number_waits rest) S.call.holder.node)
              ∙ ap (λ (b : Bool). plus_if b (num p id x)) (and-false (is_tried id x S.call)))

          -- it goes on as the same try
          on : (next : Option LockCall) → ((d : LockCall) → next ≡ Some d → GoesOnFrom S.call d) →
              ((i : Id) (y : ℕ) → call_tries i y next ≡ is_tried i y S.call) → S.ended ≡ false
              → plus_if (is_won_by_round id x later next) (plus_if (true && (S.ended && is_tried id x S.call)) (num p id x))
              ≡ plus_if (is_tried id x S.call && any_true S.call.holder.node S.call.number (first ++ later))
              (num p id x)
          on None same tried end = ap (λ (b : Bool). plus_if (b && is_tried id x S.call) (num p id x)) end
              ∙ ap (λ (b : Bool). plus_if (b && any_true S.call.holder.node S.call.number (first ++ later))
              (num p id x)) (tried id x)
          on (Some d) same tried end =
              ap (λ (b : Bool). plus_if (is_tried id x d && any_true d.holder.node d.number later)
              (plus_if (b && is_tried id x S.call) (num p id x))) end
              ∙ ap (λ (b : Bool). plus_if (b && any_true d.holder.node d.number later) (num p id x)) (tried id x)
              ∙ ap (λ (q : Process). plus_if (is_tried id x S.call && any_true q.node d.number later) (num p id x))
              (same d refl).1
              ∙ ap (λ (i : ℕ). plus_if (is_tried id x S.call && any_true S.call.holder.node i later) (num p id x))
              (same d refl).0
              ∙ sym (ap (λ (b : Bool). plus_if (is_tried id x S.call && b) (num p id x))
              (true_all ∙ ap (λ (b : Bool). b || any_true S.call.holder.node S.call.number later) end))

          by_end : (b : Bool) → S.ended ≡ b → plus_if (is_won_by_round id x later S.next)
              (plus_if (true && (S.ended && is_tried id x S.call)) (num p id x)) ≡ plus_if
              (is_tried id x S.call && any_true S.call.holder.node S.call.number (first ++ later)) (num p id x)
          by_end b end = elim S.goes [
            | inl g ↦ on S.next S.same g.0 g.1
            | inr rest ↦ by_rest rest b end
          ]
            where
              by_rest : call_rests S.next ≡ true → (b : Bool) → S.ended ≡ b → plus_if (is_won_by_round id x later S.next)
                  (plus_if (true && (S.ended && is_tried id x S.call)) (num p id x)) ≡ plus_if
                  (is_tried id x S.call && any_true S.call.holder.node S.call.number (first ++ later)) (num p id x)
              by_rest rest true end = ended_well rest end
              by_rest rest false end = failed rest end

      go : suits Hearing r ≡ true → (t : Bool) → is_step r ≡ t
          → plus_if (is_won_by_round id x later (call_at w1 p)) (num_by a r w num p id x) ≡ plus_if
          (is_won_by_round id x (first ++ later) (call_at w p)) (num p id x)
      go heard true e = by_holder (call_stepped o a w num order R r e k.0)
          (is_process (call_stepped o a w num order R r e k.0).call.holder p) refl
        where
          by_holder : (S : Step o a r w num) (b : Bool) → is_process S.call.holder p ≡ b
              → plus_if (is_won_by_round id x later (call_at w1 p)) (num_by a r w num p id x) ≡ plus_if
              (is_won_by_round id x (first ++ later) (call_at w p)) (num p id x)
          by_holder S true i = own heard (both (suits Hearing r) (list_all (suits Hearing) rs) h).1 S i
          by_holder S false i = apart (S.calls p ∙ ap (λ (b : Bool). if b then S.next else call_at w p) i)
              (S.nums p id x ∙ ap (λ (b : Bool). plus_if (b && (S.ended && is_tried id x S.call)) (num p id x)) i)
              (λ c e. S.answers c.holder.node c.number ∙ other c e (a == c.holder.node)
              (S.call.number == c.number) refl refl)
            where
              other : (c : LockCall) → call_at w p ≡ Some c → (t u : Bool) → (a == c.holder.node) ≡ t
                  → (S.call.number == c.number) ≡ u → (S.ended && (t && u)) ≡ false
              other c e false u et eu = and-false S.ended
              other c e true false et eu = and-false S.ended
              other c e true true et eu =
                  let home_p : p.node ≡ a = ap (λ (q : Process). q.node)
                  (sym (holder_of_call p (w.node p.node).calls c e)) ∙ sym (eqb-true a c.holder.node et) in
                  let one : S.call.holder ≡ p = D S.call.holder p S.call c S.home home_p S.found e
                  (eqb-true S.call.number c.number eu) in
                  absurd (cc (
                    subst (λ (q : Process). is_process S.call.holder q ≡ true) one
                        (is_process_self S.call.holder),
                    i,
                  ))
      go heard false e =
          let plain : suits Aside r ≡ true = aside_or_step r heard e in
          apart (calls_aside o a w num r plain k.0 p (up_before o a rs w1 p up))
          (nums_same o a w num r (aside_counts_none r plain) k.0 p id x (up_before o a rs w1 p up))
          (λ c e. not_true_answers o a w c.holder.node c.number r (aside_gives_none r plain) k.0 R)
