-- What is kept of each open lock call by a rule, where it holds of the call that the rule puts.
use Rattle.std.proofs.Common.{ℕ, Bool, true, false, ◌≡◌, Some, None, List, refl, sym, ap, ◌∙◌, subst}
use Rattle.std.specs.Prelude.{if◌then◌else◌}
use Rattle.registry_model.specs.Process.{Process, is_process}
use Rattle.protocol_model.specs.Node.{Node, LockPhase, LockCall, call_of}
use Rattle.protocol_model.specs.World.{Opening, World}
use Rattle.registry_model.proofs.Updates.{by_test}
use Rattle.moves.proofs.Rules.{Rule, May, Ordered, IsOpen, effect, turn_by, is_ordered}
use Rattle.walk.proofs.Orders.{effect-node}
use Rattle.leftovers.proofs.Calls.{call_of-put, call_of-drop, holder_of_call, home_of_call}
use Rattle.leftovers.proofs.Clients.{call_at}
use Rattle.leftovers.proofs.Ids.{is_process_same}
use Rattle.leftovers.proofs.Phases.{CallStep, Same, Puts, Drops, after_call_step, step_of, StepOk, calls_turn, put_home}

-- so it is of each open call
abbrev pub AllCalls : (Process → LockCall → Type 0) → World → Type 0
AllCalls P w = (q : Process) (c : LockCall) → call_at w q ≡ Some c → P q c

-- an open call is found at home
pub found_at : (w : World) (a : ℕ) → Ordered w → (c : LockCall) (now : LockPhase) → IsOpen (w.node a) c now
    → call_at w c.holder ≡ Some c
found_at w a sorted c now e = ap (λ (i : ℕ). call_of c.holder (w.node i).calls)
    (home_of_call a c.holder (w.node a).calls c (sorted a) e.call) ∙ e.call

-- a call that is found among those of a node is one of its process there
home_of : (a : ℕ) (q : Process) (cs : List LockCall) (c : LockCall) → is_ordered a cs ≡ true → call_of q cs ≡ Some c
    → q.node ≡ a
home_of a q cs c sorted e = sym (ap (λ (k : Process). k.node) (holder_of_call q cs c e))
    ∙ home_of_call a q cs c sorted e

calls_stepped : (P : Process → LockCall → Type 0) (a : ℕ) (cs : List LockCall) → is_ordered a cs ≡ true → (s : CallStep)
    → StepOk (λ c. c.holder.node ≡ a) s → StepOk (λ c. P c.holder c) s
    → ((q : Process) (c : LockCall) → call_of q cs ≡ Some c → P q c)
    → (q : Process) (c : LockCall) → call_of q (after_call_step s cs) ≡ Some c → P q c
calls_stepped P a cs sorted Same home ok all = all
calls_stepped P a cs sorted (Puts d) home ok all = λ q c e. go q c (is_process d.holder q) refl
    (sym (call_of-put a q d cs home sorted) ∙ e)
  where
    go : (q : Process) (c : LockCall) (b : Bool) → is_process d.holder q ≡ b
        → (if b then Some d else call_of q cs) ≡ Some c → P q c
    go q c true i k =
        let same : d ≡ c = cc k in
        subst (P q) same (subst (λ (x : Process). P x d) (is_process_same d.holder q i) ok)
    go q c false i k = all q c k
calls_stepped P a cs sorted (Drops r) home ok all = λ q c e. go q c (is_process r q)
    (sym (call_of-drop q r cs) ∙ e)
  where
    go : (q : Process) (c : LockCall) (b : Bool) → (if b then None else call_of q cs) ≡ Some c → P q c
    go q c true k = cc
    go q c false k = all q c k

-- behind a rule
pub calls_kept : (o : Opening) (a : ℕ) (w : World) (r : Rule) → Ordered w → May o a w r
    → (P : Process → LockCall → Type 0) → StepOk (λ c. P c.holder c) (step_of o.bound (w.node a) r) → AllCalls P w
    → AllCalls P (effect o a r w)
calls_kept o a w r sorted m P ok all q c e = by_test a
    (λ x t. x ≡ q.node → call_of q (if t then (turn_by o a w r).node else w.node x).calls ≡ Some c → P q c)
    (λ i k. here (sym (ap (call_of q) (calls_turn o a w r)) ∙ k))
    (λ x ne i k. all q c (subst (λ (y : ℕ). call_of q (w.node y).calls ≡ Some c) i k)) q.node refl
    (sym (ap (λ (f : ℕ → Node). call_of q (f q.node).calls) (effect-node o a r w)) ∙ e)
  where
    here : call_of q (after_call_step (step_of o.bound (w.node a) r) (w.node a).calls) ≡ Some c → P q c
    here = calls_stepped P a (w.node a).calls (sorted a) (step_of o.bound (w.node a) r)
        (put_home o a w (sorted a) r m.tested) ok
        (λ p d k. all p d (subst (λ (y : ℕ). call_of p (w.node y).calls ≡ Some d)
        (sym (home_of a p (w.node a).calls d (sorted a) k)) k)) q c
