-- Answers come in the step of their entry, or of its end.
use Rattle.std.proofs.Common.{ℕ, Bool, true, false, ◌≡◌, Option, Some, None, List, [], ◌∷◌, ◌++◌, refl, sym, ap, ◌∙◌, subst}
use Rattle.std.specs.Prelude.{not, if◌then◌else◌, filter, fold}
use Rattle.std.proofs.lemmas.List.{append-nil, append_assoc}
use Rattle.std.proofs.lemmas.List.Elements.{filter-append}
use Rattle.registry_model.specs.Process.{Process, Nodes}
use Rattle.registry_model.specs.Table.{Table, get}
use Rattle.registry_model.specs.Call.{NameCall, Register, ReRegister, Unregister, Look, Whereis, RegisteredNames, NoticesOf, Reply, Yes, No, Ok, UnknownNode, False, pid_or_undefined, is_grant, reply_to, seen_in}
use Rattle.registry_model.specs.History.{Entry, Standing, hold_at, after}
use Rattle.registry_model.specs.Registry.{Replica}
use Rattle.protocol_model.specs.Node.{Op, Current}
use Rattle.protocol_model.specs.Event.{Answer}
use Rattle.protocol_model.specs.Client.{is_spent}
use Rattle.protocol_model.specs.Answers.{answer_to, is_prompt, due_when_done, due_of, due}
use Rattle.protocol_model.specs.World.{Opening, World, join_number}
use Rattle.join_gates.proofs.Rules
use Rattle.join_gates.proofs.Invariants.{standing_at, Replicas, IsWritten}
use Rattle.join_gates.proofs.Made.{entered, answered, answer_of, entries_made, answers_made}
use Rattle.join_gates.proofs.Still.{effect-standing}
use Rattle.fitting.proofs.Chains.{Ground}

-- a name call's reply is prompt
reply_to-prompt : (a k : ℕ) (members : Nodes) (table : Table) (call : NameCall)
    → is_prompt (answer_to a k (reply_to members table call)) ≡ true
reply_to-prompt a k members table (Register e) = go (not (members e.owner.node)) (_)
  where
    go : (b c : Bool) → is_prompt (answer_to a k (if b then UnknownNode else (if c then No else Yes))) ≡ true
    go true c = refl
    go false true = refl
    go false false = refl
reply_to-prompt a k members table (ReRegister e) = go (not (members e.owner.node))
  where
    go : (b : Bool) → is_prompt (answer_to a k (if b then UnknownNode else Yes)) ≡ true
    go true = refl
    go false = refl
reply_to-prompt a k members table (Unregister x) = refl

seen_in-prompt : (a k : ℕ) (v : Replica) (look : Look) → is_prompt (answer_to a k (seen_in v look)) ≡ false
seen_in-prompt a k v (Whereis x) = go (get x v.table)
  where
    go : (p : Option Process) → is_prompt (answer_to a k (pid_or_undefined p)) ≡ false
    go None = refl
    go (Some p) = refl
seen_in-prompt a k v RegisteredNames = refl
seen_in-prompt a k v (NoticesOf p) = refl

grant-prompt : (a k : ℕ) (r : Reply) → is_grant r ≡ true → is_prompt (answer_to a k r) ≡ true
grant-prompt a k Yes e = refl
grant-prompt a k Ok e = refl
grant-prompt a k _ e = cc

prompt_one : (s : Answer) (b : Bool) → is_prompt s ≡ b → filter is_prompt (s ∷ []) ≡ (if b then s ∷ [] else [])
prompt_one s b e = ap (λ (t : Bool). if t then s ∷ [] else []) e

-- the prompt answers of a rule are those that its entries have answered
pub prompt_rule : (o : Opening) (a : ℕ) (w : World) (r : Rules.Rule) → Replicas o w → Rules.May o a w r
    → filter is_prompt (answered a r (w.node a)) ≡ due (standing_at o w) (entered a (join_number w) r (w.node a))
prompt_rule o a w (Rules.LooksUp look) R M =
    prompt_one (answer_to a 0 (seen_in (w.node a).replica look)) false
    (seen_in-prompt a 0 (w.node a).replica look)
prompt_rule o a w (Rules.Grants k call r) R M =
    sym (ap (λ (b : Bool). (if b then [] else answer_to a k reply ∷ []) ++ []) M.tested.1)
  where
    reply : Reply
    reply = reply_to (w.node a).replica.members (w.node a).replica.table call
prompt_rule o a w (Rules.Denies k call r) R M =
    prompt_one (answer_to a k reply) true (reply_to-prompt a k (w.node a).replica.members
    (w.node a).replica.table call)
    ∙ sym (ap (λ (b : Bool). (if b then [] else answer_to a k reply ∷ []) ++ []) M.tested.1)
  where
    reply : Reply
    reply = reply_to (w.node a).replica.members (w.node a).replica.table call
prompt_rule o a w (Rules.Finishes op asked awaited reply) R M =
    done op reply (subst (IsWritten o w a) M.tested.0 (R.written a))
    ∙ sym (append-nil (due_when_done (hold_at (standing_at o w) a)))
  where
    done : (op : Op) (reply : Option Reply) → IsWritten o w a (Current.Writing op asked awaited reply)
        → filter is_prompt (answer_of a op reply) ≡ due_when_done (hold_at (standing_at o w) a)
    done (Op.Name k call) (Some x) W = prompt_one (answer_to a k x) true (grant-prompt a k x W.3.1)
        ∙ sym (ap due_when_done W.1 ∙ ap (λ (e : Entry). due_when_done (Some (record W.0 { entry = e }))) W.3.0)
    done (Op.Strike p) None W = sym (ap due_when_done W.1
        ∙ ap (λ (e : Entry). due_when_done (Some (record W.0 { entry = e }))) W.3.0)
    done (Op.Admission j pairs) None W = sym (ap due_when_done W.1
        ∙ ap (λ (e : Entry). due_when_done (Some (record W.0 { entry = e }))) W.3.1)
    done (Op.Name k call) None W = absurd W.3
    done (Op.Strike p) (Some x) W = absurd W.3
    done (Op.Admission j pairs) (Some x) W = absurd W.3
    done (Op.Join k m) reply W = absurd W.3
prompt_rule o a w (Rules.GivesUpLock c r granted) R M = go (is_spent c.retries)
  where
    empty : List Answer
    empty = []

    go : (t : Bool) → filter is_prompt (if t then answer_to a c.number False ∷ [] else []) ≡ empty
    go true = refl
    go false = refl
prompt_rule o a w r R M = refl

due-append : (t : Standing) (es fs : List Entry) → due t (es ++ fs) ≡ due t es ++ due (fold after t es) fs
due-append t [] fs = refl
due-append t (e ∷ es) fs = ap (λ (l : List Answer). due_of t e ++ l) (due-append (after t e) es fs)
    ∙ sym (append_assoc (due_of t e) (due (after t e) es) (due (fold after (after t e) es) fs))

-- and so are those of a chain
pub prompt_along : (o : Opening) (Good : World → Type 0) → Ground o Good → (a : ℕ) (rs : List Rules.Rule) (w : World)
    → Good w → Rules.MayAll o a rs w
    → filter is_prompt (Rules.answers_by o a rs w) ≡ due (standing_at o w) (Rules.entries_by o a rs w)
prompt_along o Good K a [] w G M = refl
prompt_along o Good K a (r ∷ rs) w G M =
    filter-append is_prompt (Rules.turn_by o a w r).answers (Rules.answers_by o a rs (Rules.effect o a r w))
    ∙ ap (λ (l : List Answer). l ++ filter is_prompt (Rules.answers_by o a rs (Rules.effect o a r w)))
    (ap (filter is_prompt) (answers_made o a (join_number w) r (w.node a)) ∙ prompt_rule o a w r (K.replicas w G) M.0
    ∙ ap (due (standing_at o w)) (sym (entries_made o a (join_number w) r (w.node a))))
    ∙ ap (λ (l : List Answer). due (standing_at o w) (Rules.turn_by o a w r).entries ++ l)
    (prompt_along o Good K a rs (Rules.effect o a r w) (K.keeps a w r G M.0) M.1
    ∙ ap (λ (t : Standing). due t (Rules.entries_by o a rs (Rules.effect o a r w))) (effect-standing o a w r))
    ∙ sym (due-append (standing_at o w) (Rules.turn_by o a w r).entries
    (Rules.entries_by o a rs (Rules.effect o a r w)))
