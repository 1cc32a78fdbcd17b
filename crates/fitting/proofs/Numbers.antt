-- Numbers of calls: each name, lock and join call of a node takes the next one.
use Rattle.std.proofs.Common.{ℕ, Bool, true, false, ◌≡◌, ◌==◌, ◌+◌, List, [], ◌∷◌, ◌++◌, length, refl, sym, ap, ◌∙◌, arith, length-append}
use Rattle.std.specs.Prelude.{if◌then◌else◌, flat_map}
use Rattle.std.specs.List.{list_all}
use Rattle.std.proofs.lemmas.List.{append-nil, append_assoc}
use Rattle.std.proofs.lemmas.Grind.{flat_map-append}
use Rattle.registry_model.specs.History.{Entry}
use Rattle.protocol_model.specs.Letter.{Letter, Global}
use Rattle.protocol_model.specs.LockTable.{is_free_for}
use Rattle.protocol_model.specs.Node.{Node}
use Rattle.protocol_model.specs.Event.{Call}
use Rattle.protocol_model.specs.Client.{is_spent}
use Rattle.protocol_model.specs.Registrar.{registrar}
use Rattle.protocol_model.specs.Turn.{Turn, begun, enter}
use Rattle.protocol_model.specs.Fit.{Numbered, numbered, calls_in, number_from, accepted_at}
use Rattle.protocol_model.specs.World.{Opening, World, join_number}
use Rattle.protocol_model.specs.Course.{Played}
use Rattle.join_gates.proofs.Rules
use Rattle.registry_model.proofs.Updates.{by_test}
use Rattle.join_gates.proofs.Indices.{both}
use Rattle.join_gates.proofs.Calm.{node-answer_op, node-ask_rest}
use Rattle.join_gates.proofs.Still.{effect-node}
use Rattle.fitting.proofs.Working.{accepted_by}

-- the rule takes a number
abbrev pub takes_number : Rules.Rule → Bool
takes_number (Rules.CallsName call) = true
takes_number (Rules.CallsJoin m) = true
takes_number Rules.CallsLock = true
takes_number _ = false

last_call-if : (b : Bool) (u v : Turn) (k : ℕ) → u.node.last_call ≡ k → v.node.last_call ≡ k
    → (if b then u else v).node.last_call ≡ k
last_call-if true u v k x y = x
last_call-if false u v k x y = y

pub last_call_made : (o : Opening) (a : ℕ) (number : ℕ → ℕ) (r : Rules.Rule) (v : Node)
    → (Rules.made o a number r (begun v)).node.last_call ≡ (if takes_number r then v.last_call + 1 else v.last_call)
last_call_made o a number (Rules.HearsAnswer f id granted op r) v =
    ap (λ (n : Node). n.last_call) (node-ask_rest o.bound a f granted (Letter.SetLock (Global a) (registrar a)) r
    (begun v))
last_call_made o a number (Rules.Finishes op asked awaited reply) v =
    ap (λ (n : Node). n.last_call) (node-answer_op o.bound a op reply (enter (Entry.Done a) (begun v)))
last_call_made o a number (Rules.Judges f id p) v =
    last_call-if (is_free_for id p v.locks) _ (begun v) v.last_call refl refl
last_call_made o a number (Rules.TakesBack f id p ack) v = last_call-if ack _ _ v.last_call refl refl
last_call_made o a number (Rules.HearsLock f id granted c r) v =
    ap (λ (n : Node). n.last_call) (node-ask_rest o.bound a f granted (Letter.SetLock c.id c.holder) r (begun v))
last_call_made o a number (Rules.GivesUpLock c r granted) v =
    last_call-if (is_spent c.retries) _ _ v.last_call refl refl
last_call_made o a number _ v = refl

-- quiet rules accept no call and take no number
pub quiet_number : (r : Rules.Rule) → Rules.is_quiet r ≡ true → takes_number r ≡ false
quiet_number (Rules.CallsName call) e = cc
quiet_number (Rules.CallsJoin m) e = cc
quiet_number Rules.CallsLock e = cc
quiet_number _ e = refl

pub quiet_accepted : (r : Rules.Rule) (v : Node) → Rules.is_quiet r ≡ true → accepted_by r v ≡ []
quiet_accepted (Rules.CallsName call) v e = cc
quiet_accepted (Rules.CallsJoin m) v e = cc
quiet_accepted _ v e = refl

-- the calls that a chain accepts
abbrev pub accepted_along : Opening → ℕ → List Rules.Rule → World → List Numbered
accepted_along o a [] w = []
accepted_along o a (r ∷ rs) w = accepted_by r (w.node a) ++ accepted_along o a rs (Rules.effect o a r w)

pub quiet_along : (o : Opening) (a : ℕ) (rs : List Rules.Rule) (w : World) → list_all Rules.is_quiet rs ≡ true
    → accepted_along o a rs w ≡ []
quiet_along o a [] w e = refl
quiet_along o a (r ∷ rs) w e =
    let parts : (Rules.is_quiet r ≡ true) × (list_all Rules.is_quiet rs ≡ true) =
    both (Rules.is_quiet r) (list_all Rules.is_quiet rs) e in
    ap (λ (l : List Numbered). l ++ accepted_along o a rs (Rules.effect o a r w))
    (quiet_accepted r (w.node a) parts.0) ∙ quiet_along o a rs (Rules.effect o a r w) parts.1

-- the last numbers after a rule
pub last_call_by : (o : Opening) (a : ℕ) (w : World) (r : Rules.Rule) (b : ℕ)
    → ((Rules.effect o a r w).node b).last_call ≡
    (if b == a then (if takes_number r then (w.node b).last_call + 1 else (w.node b).last_call) else
    (w.node b).last_call)
last_call_by o a w r b = ap (λ (f : ℕ → Node). (f b).last_call) (effect-node o a w r)
    ∙ by_test a (λ x t. (if t then (Rules.turn_by o a w r).node else w.node x).last_call
    ≡ (if t then (if takes_number r then (w.node x).last_call + 1 else (w.node x).last_call) else
    (w.node x).last_call))
    (last_call_made o a (join_number w) r (w.node a)) (λ x ne. refl) b

pub quiet_last : (o : Opening) (a : ℕ) (rs : List Rules.Rule) (w : World) → list_all Rules.is_quiet rs ≡ true
    → (b : ℕ)
    → ((Rules.effects o a rs w).node b).last_call ≡ (w.node b).last_call
quiet_last o a [] w e b = refl
quiet_last o a (r ∷ rs) w e b =
    let parts : (Rules.is_quiet r ≡ true) × (list_all Rules.is_quiet rs ≡ true) =
    both (Rules.is_quiet r) (list_all Rules.is_quiet rs) e in
    quiet_last o a rs (Rules.effect o a r w) parts.1 b ∙ last_call_by o a w r b
    ∙ ap (λ (t : Bool). if b == a then (if t then (w.node b).last_call + 1 else (w.node b).last_call) else
    (w.node b).last_call) (quiet_number r parts.0)
    ∙ go (b == a)
  where
    go : (t : Bool) → (if t then (w.node b).last_call else (w.node b).last_call) ≡ (w.node b).last_call
    go true = refl
    go false = refl

number_from-append : (k : ℕ) (xs ys : List Call)
    → number_from k (xs ++ ys) ≡ number_from k xs ++ number_from (k + length xs) ys
number_from-append k [] ys = ap (λ (n : ℕ). number_from n ys) (omega arith)
number_from-append k (c ∷ xs) ys = ap (λ (l : List Numbered). numbered k c ++ l)
    (number_from-append (k + 1) xs ys ∙ ap (λ (n : ℕ). number_from (k + 1) xs ++ number_from n ys) (omega arith))
    ∙ sym (append_assoc (numbered k c) (number_from (k + 1) xs) (number_from (k + length (c ∷ xs)) ys))

-- a call of node a more
pub accepted_at-push : (a : ℕ) (ps : List Played) (p : Played)
    → accepted_at a (ps ++ p ∷ []) ≡ accepted_at a ps ++ number_from (1 + length (flat_map (calls_in a) ps))
    (calls_in a p)
accepted_at-push a ps p =
    ap (number_from 1) (flat_map-append (calls_in a) ps (p ∷ [])
    ∙ ap (λ (l : List Call). flat_map (calls_in a) ps ++ l) (append-nil (calls_in a p)))
    ∙ number_from-append 1 (flat_map (calls_in a) ps) (calls_in a p)

pub length_push : (a : ℕ) (ps : List Played) (p : Played)
    → length (flat_map (calls_in a) (ps ++ p ∷ [])) ≡ length (flat_map (calls_in a) ps) + length (calls_in a p)
length_push a ps p = ap length (flat_map-append (calls_in a) ps (p ∷ [])
    ∙ ap (λ (l : List Call). flat_map (calls_in a) ps ++ l) (append-nil (calls_in a p)))
    ∙ length-append (flat_map (calls_in a) ps) (calls_in a p)
