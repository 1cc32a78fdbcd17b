-- The rules that move no gate: what they send and take, and what they make of their node.
use Rattle.std.proofs.Common.{ℕ, Bool, true, false, ◌≡◌, ◌==◌, ◌+◌, Option, Some, None, List, [], ◌∷◌, ◌++◌, refl, sym, ap, ◌∙◌, subst}
use Rattle.std.specs.Prelude.{◌&&◌, ◌||◌, not, if◌then◌else◌}
use Rattle.std.proofs.lemmas.List.{append-nil}
use Rattle.registry_model.specs.Process.{nodes_of, at}
use Rattle.registry_model.specs.Table.{Table, StrikeOwner}
use Rattle.registry_model.specs.Call.{Reply, change_of}
use Rattle.registry_model.specs.Registry.{Replica}
use Rattle.registry_model.specs.History.{Entry}
use Rattle.registry_model.specs.Settlement.{Settled}
use Rattle.protocol_model.specs.Round.{Round, opens, rest, asked, answer}
use Rattle.protocol_model.specs.Letter.{Letter, Global}
use Rattle.protocol_model.specs.LockTable.{is_free_for}
use Rattle.protocol_model.specs.Node.{Node, Op, Current, targets}
use Rattle.protocol_model.specs.Event.{is_join, is_joining}
use Rattle.protocol_model.specs.Client.{is_spent}
use Rattle.protocol_model.specs.Reading.{with_member, admitted}
use Rattle.protocol_model.specs.Registrar.{registrar, answer_op, ask_rest}
use Rattle.protocol_model.specs.Turn.{Turn, begun, enter, send_all}
use Rattle.protocol_model.specs.World.{Opening, World, in_world}
use Rattle.moves.proofs.Rules
use Rattle.moves.proofs.Indices.{neither, not_true}
use Rattle.moves.proofs.Writes.{wrote_all-keeps}
use Rattle.join_gates.proofs.Tokens.{are_plain, are_plain-append, are_plain-each, admissions, admissions-append, asked_for}
use Rattle.join_gates.proofs.Gates.{OnceIn, has_join, has_one}
use Rattle.join_gates.proofs.Turns.{Quietly, quiet_same, quiet_work, is_plain_taken}

-- the rule sends what is part of a join
abbrev pub sends_token : Rules.Rule → Bool
sends_token (Rules.AsksJoin k m ops) = true
sends_token (Rules.RefusesJoin f pairs) = true
sends_token (Rules.Admits j pairs r) = true
sends_token _ = false

-- it takes what is part of a join, or may
abbrev pub takes_token : Rules.Rule → Bool
takes_token (Rules.QueuesJoin f pairs) = true
takes_token (Rules.RefusesJoin f pairs) = true
takes_token (Rules.EndsJoin f k) = true
takes_token (Rules.IsWelcomed f k members pairs told fate) = true
takes_token (Rules.Ignores f l) = true
takes_token (Rules.Drops f l) = true
takes_token _ = false

-- it changes what joins ask of its node
abbrev pub turns_node : Rules.Rule → Bool
turns_node (Rules.AsksJoin k m ops) = true
turns_node (Rules.QueuesJoin f pairs) = true
turns_node (Rules.Admits j pairs r) = true
turns_node (Rules.Passes j pairs r) = true
turns_node (Rules.EndsJoin f k) = true
turns_node (Rules.IsWelcomed f k members pairs told fate) = true
turns_node (Rules.IsTold f) = true
turns_node (Rules.LosesContact k m) = true
turns_node _ = false

plain-if : (b : Bool) (u v : Turn) → are_plain u.sends ≡ true → are_plain v.sends ≡ true
    → are_plain (if b then u else v).sends ≡ true
plain-if true u v x y = x
plain-if false u v x y = y

sends-answer_op : (n a : ℕ) (op : Op) (reply : Option Reply) (u : Turn) → (answer_op n a op reply u).sends ≡ u.sends
sends-answer_op n a (Op.Name k call) (Some reply) u = refl
sends-answer_op n a (Op.Name k call) None u = refl
sends-answer_op n a _ reply u = refl

pub node-answer_op : (n a : ℕ) (op : Op) (reply : Option Reply) (u : Turn) → (answer_op n a op reply u).node ≡ u.node
node-answer_op n a (Op.Name k call) (Some reply) u = refl
node-answer_op n a (Op.Name k call) None u = refl
node-answer_op n a _ reply u = refl

-- the other rules send no part of a join
pub sends_plain : (o : Opening) (a : ℕ) (number : ℕ → ℕ) (r : Rules.Rule) (v : Node) → sends_token r ≡ false
    → are_plain (Rules.made o a number r (begun v)).sends ≡ true
sends_plain o a number (Rules.AsksJoin k m ops) v e = cc
sends_plain o a number (Rules.RefusesJoin f pairs) v e = cc
sends_plain o a number (Rules.Admits j pairs r) v e = cc
sends_plain o a number (Rules.Exits p) v e = are_plain-each (nodes_of o.bound v.replica.members)
    (Letter.ReleaseOf p) refl
sends_plain o a number (Rules.HearsAnswer f id granted op r) v e = plain-if (opens f granted r) _ _
    (are_plain-each (nodes_of o.bound (λ x. rest r x && not (v.replica.told x)))
    (Letter.SetLock (Global a) (registrar a)) refl) refl
sends_plain o a number (Rules.GivesUp op r granted) v e =
    are_plain-each (nodes_of o.bound granted) (Letter.GiveBack (Global a) (registrar a) false) refl
sends_plain o a number (Rules.Grants k call r) v e =
    are_plain-each (nodes_of o.bound v.replica.members) (Letter.Apply (change_of call)) refl
sends_plain o a number (Rules.Denies k call r) v e =
    are_plain-each (nodes_of o.bound (λ c. asked r c && not (v.replica.told c)))
    (Letter.GiveBack (Global a) (registrar a) false) refl
sends_plain o a number (Rules.Strikes p r) v e =
    are_plain-each (nodes_of o.bound v.replica.members) (Letter.Apply (StrikeOwner p)) refl
sends_plain o a number (Rules.Passes j pairs r) v e =
    are_plain-each (nodes_of o.bound (λ c. asked r c && not (v.replica.told c)))
    (Letter.GiveBack (Global a) (registrar a) false) refl
sends_plain o a number (Rules.Finishes op them awaited reply) v e =
    are_plain-append (answer_op o.bound a op reply (enter (Entry.Done a) (begun v))).sends _
    (ap are_plain (sends-answer_op o.bound a op reply (enter (Entry.Done a) (begun v))))
    (are_plain-each (nodes_of o.bound (λ c. them c && not (v.replica.told c)))
    (Letter.GiveBack (Global a) (registrar a) false) refl)
sends_plain o a number (Rules.Judges f id p) v e =
    are_plain-append (if is_free_for id p v.locks then _ else begun v).sends _
    (plain-if (is_free_for id p v.locks) _ (begun v) refl refl) refl
sends_plain o a number (Rules.TakesBack f id p ack) v e = plain-if ack _ _ refl refl
sends_plain o a number (Rules.Kills f l p receivers) v e =
    are_plain-each (nodes_of o.bound receivers) (Letter.ReleaseOf p) refl
sends_plain o a number (Rules.HearsLock f id granted c r) v e = plain-if (opens f granted r) _ _
    (are_plain-each (nodes_of o.bound (λ x. rest r x && not (v.replica.told x)))
    (Letter.SetLock c.id c.holder) refl) refl
sends_plain o a number (Rules.GivesUpLock c r granted) v e = plain-if (is_spent c.retries) _ _
    (are_plain-each (nodes_of o.bound granted) (Letter.GiveBack c.id c.holder false) refl)
    (are_plain-each (nodes_of o.bound granted) (Letter.GiveBack c.id c.holder false) refl)
sends_plain o a number (Rules.DeletesLock c) v e =
    are_plain-each (nodes_of o.bound (targets v.replica.members c.target)) (Letter.GiveBack c.id c.holder true) refl
sends_plain o a number Rules.Leaves v e = are_plain-each
    (nodes_of o.bound (λ c. in_world o c && not (c == a))) Letter.Down refl
sends_plain o a number _ v e = refl

-- nor take any
pub takes_plain : (o : Opening) (a : ℕ) (r : Rules.Rule) → takes_token r ≡ false
    → is_plain_taken (Rules.takes o a r) ≡ true
takes_plain o a (Rules.QueuesJoin f pairs) e = cc
takes_plain o a (Rules.RefusesJoin f pairs) e = cc
takes_plain o a (Rules.EndsJoin f k) e = cc
takes_plain o a (Rules.IsWelcomed f k members pairs told fate) e = cc
takes_plain o a (Rules.Ignores f l) e = cc
takes_plain o a (Rules.Drops f l) e = cc
takes_plain o a _ e = refl

pub node-ask_rest : (n a f : ℕ) (granted : Bool) (l : Letter) (r : Round) (u : Turn)
    → (ask_rest n a f granted l r u).node ≡ u.node
node-ask_rest n a f granted l r u = go (opens f granted r)
  where
    more : Turn
    more = send_all n (λ x. rest r x && not (u.node.replica.told x)) l u

    go : (b : Bool) → (if b then more else u).node ≡ u.node
    go true = refl
    go false = refl

has_join-push : (ops : List Op) (op : Op) → is_join op ≡ false → has_join (ops ++ op ∷ []) ≡ has_join ops
has_join-push [] op e = ap (λ (b : Bool). b || false) e
has_join-push (x ∷ ops) op e = ap (λ (b : Bool). is_join x || b) (has_join-push ops op e)

has_one-push : (ops : List Op) (op : Op) → is_join op ≡ false → has_one (ops ++ op ∷ []) ≡ has_one ops
has_one-push [] (Op.Join k m) e = cc
has_one-push [] _ e = refl
has_one-push (Op.Join k m ∷ ops) op e = ap not (has_join-push ops op e)
has_one-push (_ ∷ ops) op e = has_one-push ops op e

first_join : (ops : List Op) (k m : ℕ) → has_join ops ≡ false → has_one (ops ++ Op.Join k m ∷ []) ≡ true
first_join [] k m e = refl
first_join (Op.Join i c ∷ ops) k m e = cc
first_join (Op.Name i c ∷ ops) k m e = first_join ops k m e
first_join (Op.Strike p ∷ ops) k m e = first_join ops k m e
first_join (Op.Admission j p ∷ ops) k m e = first_join ops k m e

none_one : (ops : List Op) → has_join ops ≡ false → has_one ops ≡ true
none_one [] e = refl
none_one (Op.Join i c ∷ ops) e = cc
none_one (Op.Name i c ∷ ops) e = none_one ops e
none_one (Op.Strike p ∷ ops) e = none_one ops e
none_one (Op.Admission j p ∷ ops) e = none_one ops e

-- behind the front of a queue there is no more than in it
pub tail_one : (op : Op) (ops : List Op) → has_one (op ∷ ops) ≡ true → has_one ops ≡ true
tail_one (Op.Join k m) ops e = none_one ops (not_true (has_join ops) e)
tail_one _ ops e = e

pub tail_none : (op : Op) (ops : List Op) → has_join (op ∷ ops) ≡ false → has_join ops ≡ false
tail_none op ops e = (neither (is_join op) (has_join ops) e).1

-- an operation that is no join goes to the back of the queue
pub once_push : (b : Bool) (c : Current) (ops : List Op) (op : Op) → is_join op ≡ false → OnceIn b c ops
    → OnceIn b c (ops ++ op ∷ [])
once_push b c ops op e O = record {
  joined = λ h. ((O.joined h).0, has_join-push ops op e ∙ (O.joined h).1);
  waits = λ h. has_join-push ops op e ∙ O.waits h;
  queue = has_one-push ops op e ∙ O.queue;
}

-- the front of the queue leaves it, and is worked on where it is no join
once_tail : (b : Bool) (c d : Current) (op : Op) (ops : List Op) → is_joining d ≡ false → OnceIn b c (op ∷ ops)
    → OnceIn b d ops
once_tail b c d op ops e O = record {
  joined = λ h. (e, tail_none op ops (O.joined h).1);
  waits = λ h. absurd (cc (e, h));
  queue = tail_one op ops O.queue;
}

-- an admission leaves who is joined and who was told
pub admitted-same : (a j : ℕ) (settled : Settled) (v : Replica)
    → ((admitted a j settled v).joined ≡ v.joined) × ((admitted a j settled v).told ≡ v.told)
admitted-same a j settled v = (
  (wrote_all-keeps settled (with_member j v)).joined ∙ (member (v.told j)).0,
  (wrote_all-keeps settled (with_member j v)).told ∙ (member (v.told j)).1,
)
  where
    member : (b : Bool) → ((if b then v else record v { members = at v.members j true }).joined ≡ v.joined)
        × ((if b then v else record v { members = at v.members j true }).told ≡ v.told)
    member true = (refl, refl)
    member false = (refl, refl)

quiet-if : (b : Bool) (n : Node) (u v : Turn) → Quietly n u.node → Quietly n v.node
    → Quietly n (if b then u else v).node
quiet-if true n u v x y = x
quiet-if false n u v x y = y

-- the other rules leave what joins ask of their node
pub quietly : (o : Opening) (a : ℕ) (w : World) (r : Rules.Rule) → turns_node r ≡ false → Rules.May o a w r
    → Quietly (w.node a) (Rules.turn_by o a w r).node
quietly o a w (Rules.AsksJoin k m ops) e M = cc
quietly o a w (Rules.QueuesJoin f pairs) e M = cc
quietly o a w (Rules.Admits j pairs r) e M = cc
quietly o a w (Rules.Passes j pairs r) e M = cc
quietly o a w (Rules.EndsJoin f k) e M = cc
quietly o a w (Rules.IsWelcomed f k members pairs told fate) e M = cc
quietly o a w (Rules.IsTold f) e M = cc
quietly o a w (Rules.LosesContact k m) e M = cc
quietly o a w (Rules.CallsName call) e M = record {
  jobs = λ j. admissions-append j (asked_for v.current) (v.queue ++ op ∷ [])
      ∙ ap (λ (l : List Table). admissions j (asked_for v.current) ++ l)
      (admissions-append j v.queue (op ∷ []) ∙ append-nil (admissions j v.queue))
      ∙ sym (admissions-append j (asked_for v.current) v.queue);
  contact = λ k m h. h;
  joined = refl;
  told = refl;
  once = once_push v.replica.joined v.current v.queue op refl;
}
  where
    v : Node
    v = w.node a

    op : Op
    op = Op.Name (v.last_call + 1) call
quietly o a w (Rules.CallsJoin m) e M = record {
  jobs = λ j. admissions-append j (asked_for v.current) (v.queue ++ op ∷ [])
      ∙ ap (λ (l : List Table). admissions j (asked_for v.current) ++ l)
      (admissions-append j v.queue (op ∷ []) ∙ append-nil (admissions j v.queue))
      ∙ sym (admissions-append j (asked_for v.current) v.queue);
  contact = λ k m h. h;
  joined = refl;
  told = refl;
  once = λ O. record {
    joined = λ h. absurd (cc (h, parts.0));
    waits = λ h. absurd (cc (h, parts.1.0));
    queue = first_join v.queue (v.last_call + 1) m parts.1.1;
  };
}
  where
    v : Node
    v = w.node a

    op : Op
    op = Op.Join (v.last_call + 1) m

    parts : (v.replica.joined ≡ false) × ((is_joining v.current ≡ false) × (has_join v.queue ≡ false))
    parts =
        let one : (v.replica.joined || is_joining v.current ≡ false) × (has_join v.queue ≡ false)
        = neither (v.replica.joined || is_joining v.current) (has_join v.queue) M.tested.0 in
        let two : (v.replica.joined ≡ false) × (is_joining v.current ≡ false) =
        neither v.replica.joined (is_joining v.current) one.0 in
        (two.0, (two.1, one.1))
quietly o a w (Rules.Begins op ops) e M = record {
  jobs = λ j. sym (ap (λ (c : Current). admissions j (asked_for c ++ v.queue)) M.tested.0
      ∙ ap (admissions j) M.tested.1);
  contact = λ k m h. absurd (cc (sym M.tested.0 ∙ h));
  joined = refl;
  told = refl;
  once = λ O. once_tail v.replica.joined v.current _ op ops refl
      (subst (λ (q : List Op). OnceIn v.replica.joined v.current q) M.tested.1 O);
}
  where
    v : Node
    v = w.node a
quietly o a w (Rules.SkipsJoin k m ops) e M = record {
  jobs = λ j. ap (λ (c : Current). admissions j (asked_for c ++ ops)) M.tested.0
      ∙ sym (ap (λ (c : Current). admissions j (asked_for c ++ v.queue)) M.tested.0 ∙ ap (admissions j) M.tested.1);
  contact = λ k m h. h;
  joined = refl;
  told = refl;
  once = λ O. once_tail v.replica.joined v.current v.current (Op.Join k m) ops (ap is_joining M.tested.0)
      (subst (λ (q : List Op). OnceIn v.replica.joined v.current q) M.tested.1 O);
}
  where
    v : Node
    v = w.node a
quietly o a w (Rules.BeginsStrike serial) e M =
    quiet_work (w.node a) _ Current.Free _ M.tested.0 refl refl refl (λ j. refl) refl refl refl
quietly o a w (Rules.Retries op) e M = quiet_work (w.node a) _ (Current.Waiting op) _ M.tested refl refl refl
    (λ j. refl) refl refl refl
quietly o a w (Rules.HearsAnswer f id granted op r) e M =
    quiet_work v _ (Current.Asking op r) (Current.Asking op (answer f granted r)) M.tested.1 refl refl refl
    (λ j. refl)
    (ap (λ (n : Node). n.queue) same) (ap (λ (n : Node). n.replica.joined) same)
    (ap (λ (n : Node). n.replica.told) same)
  where
    v : Node
    v = w.node a

    same : (ask_rest o.bound a f granted (Letter.SetLock (Global a) (registrar a)) r (begun v)).node ≡ v
    same = node-ask_rest o.bound a f granted (Letter.SetLock (Global a) (registrar a)) r (begun v)
quietly o a w (Rules.MarksDown d op r) e M = quiet_work (w.node a) _
    (Current.Asking op r) _ M.tested.1 refl refl refl (λ j. refl) refl refl refl
quietly o a w (Rules.GivesUp op r granted) e M =
    quiet_work (w.node a) _ (Current.Asking op r) _ M.tested.0 refl refl refl (λ j. refl) refl refl refl
quietly o a w (Rules.Grants k call r) e M = quiet_work (w.node a) _
    (Current.Asking (Op.Name k call) r) _ M.tested.0.current refl refl refl (λ j. refl) refl refl refl
quietly o a w (Rules.Denies k call r) e M = quiet_work (w.node a) _
    (Current.Asking (Op.Name k call) r) _ M.tested.0.current refl refl refl (λ j. refl) refl refl refl
quietly o a w (Rules.Strikes p r) e M = quiet_work (w.node a) _
    (Current.Asking (Op.Strike p) r) _ M.tested.current refl refl refl (λ j. refl) refl refl refl
quietly o a w (Rules.CountsApplied f op them awaited reply) e M =
    quiet_work (w.node a) _ (Current.Writing op them awaited reply) _ M.tested.1 refl refl refl
    (λ j. refl) refl refl refl
quietly o a w (Rules.CountsDown d op them awaited reply) e M =
    quiet_work (w.node a) _ (Current.Writing op them awaited reply) _ M.tested.1 refl refl refl
    (λ j. refl) refl refl refl
quietly o a w (Rules.Finishes op them awaited reply) e M =
    quiet_work v _ (Current.Writing op them awaited reply) Current.Free M.tested.0 refl refl refl (λ j. refl)
    (ap (λ (n : Node). n.queue) same) (ap (λ (n : Node). n.replica.joined) same)
    (ap (λ (n : Node). n.replica.told) same)
  where
    v : Node
    v = w.node a

    same : (answer_op o.bound a op reply (enter (Entry.Done a) (begun v))).node ≡ v
    same = node-answer_op o.bound a op reply (enter (Entry.Done a) (begun v))
quietly o a w (Rules.IsAdmitted f j settled) e M =
    quiet_same (w.node a) _ refl refl (admitted-same a j settled (w.node a).replica).0
    (admitted-same a j settled (w.node a).replica).1
quietly o a w (Rules.Judges f id p) e M = quiet-if (is_free_for id p (w.node a).locks) (w.node a) _ (begun (w.node a))
    (quiet_same (w.node a) _ refl refl refl refl) (quiet_same (w.node a) _ refl refl refl refl)
quietly o a w (Rules.TakesBack f id p ack) e M = quiet-if ack (w.node a) _ _
    (quiet_same (w.node a) _ refl refl refl refl) (quiet_same (w.node a) _ refl refl refl refl)
quietly o a w (Rules.HearsLock f id granted c r) e M =
    quiet_same (w.node a) _ (ap (λ (n : Node). n.current) same) (ap (λ (n : Node). n.queue) same)
    (ap (λ (n : Node). n.replica.joined) same) (ap (λ (n : Node). n.replica.told) same)
  where
    same : (ask_rest o.bound a f granted (Letter.SetLock c.id c.holder) r (begun (w.node a))).node ≡ w.node a
    same = node-ask_rest o.bound a f granted (Letter.SetLock c.id c.holder) r (begun (w.node a))
quietly o a w (Rules.GivesUpLock c r granted) e M = quiet-if (is_spent c.retries) (w.node a) _ _
    (quiet_same (w.node a) _ refl refl refl refl) (quiet_same (w.node a) _ refl refl refl refl)
quietly o a w _ e M = quiet_same (w.node a) _ refl refl refl refl
