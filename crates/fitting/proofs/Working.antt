-- What each rule does to the account of its own node.
use Rattle.std.proofs.Common.{ℕ, Bool, true, false, ◌≡◌, ◌+◌, Option, Some, None, List, [], ◌∷◌, ◌++◌, refl, sym, ap, ◌∙◌, subst}
use Rattle.std.specs.Prelude.{if◌then◌else◌, filter, flat_map, is_some}
use Rattle.std.proofs.lemmas.List.{append-nil, append_assoc}
use Rattle.std.proofs.lemmas.Grind.{flat_map-append}
use Rattle.std.proofs.lemmas.Bool.{eq-eqb}
use Rattle.registry_model.specs.Call.{NameCall, Reply, Pid, True, False, Joined, NotMember, ContactLeft, reply_to, seen_in}
use Rattle.registry_model.specs.History.{Entry}
use Rattle.protocol_model.specs.Letter.{Letter, Global}
use Rattle.protocol_model.specs.LockTable.{is_free_for}
use Rattle.protocol_model.specs.Round.{asked}
use Rattle.protocol_model.specs.Watch.{next_serial}
use Rattle.protocol_model.specs.Node.{Node, Op, Current}
use Rattle.protocol_model.specs.Event.{Answer}
use Rattle.protocol_model.specs.Client.{is_spent}
use Rattle.protocol_model.specs.Registrar.{registrar}
use Rattle.protocol_model.specs.Fit.{Numbered, NameAs, JoinAs, decided_at}
use Rattle.protocol_model.specs.Answers.{answer_to, entered_at}
use Rattle.protocol_model.specs.Turn.{Turn, begun, enter}
use Rattle.protocol_model.specs.World.{Opening, World, left, join_number}
use Rattle.join_gates.proofs.Rules
use Rattle.join_gates.proofs.Indices.{pair_here}
use Rattle.join_gates.proofs.Invariants.{replica, Proper, Replicas, IsWritten}
use Rattle.join_gates.proofs.Made.{entered, answered, answer_of}
use Rattle.join_gates.proofs.Calm.{node-answer_op, node-ask_rest}
use Rattle.join_gates.proofs.Tokens.{Gate, Knock, Turned, Entering, returns_of, returns}
use Rattle.join_gates.proofs.Gates.{Gates}
use Rattle.join_gates.proofs.Pairs.{at_refusal, at_welcome}
use Rattle.join_gates.proofs.Moves.{no_answer}
use Rattle.join_gates.proofs.Joins.{gate_by}
use Rattle.fitting.proofs.Accounts.{numbered_op, reply_by, undecided, answer_with, owed_by, is_word, is_word_at, replies_to, Settles, SettlesNode, by_state, undecided-same, owed-same, settles_none, settles_still}
use Rattle.fitting.proofs.Settling.{reply_to-word, seen_in-word, grant_word, word_kept, word_left, decides_other, replies_same}

-- the name or join call that a rule accepts
abbrev pub accepted_by : Rules.Rule → Node → List Numbered
accepted_by (Rules.CallsName call) v = NameAs (v.last_call + 1) call ∷ []
accepted_by (Rules.CallsJoin m) v = JoinAs (v.last_call + 1) m ∷ []
accepted_by _ v = []

-- an operation comes to the back of the queue
with_effect : (a : ℕ) (f : ℕ → Option Reply) (c : Current) (q : List Op) (op : Op)
    → Settles a (numbered_op op) [] [] f f c q c (q ++ op ∷ [])
with_effect a f c q op = record {
  calls = append_assoc (undecided f c) (flat_map numbered_op q) (numbered_op op)
      ∙ ap (λ (l : List Numbered). undecided f c ++ l)
      (ap (λ (l : List Numbered). flat_map numbered_op q ++ l) (sym (append-nil (numbered_op op)))
      ∙ sym (flat_map-append numbered_op q (op ∷ [])));
  answers = append-nil (owed_by a f c);
}

-- the registrar goes on with the same calls before it
pub goes_on : (a : ℕ) (es : List Entry) (f g : ℕ → Option Reply) (v u : Node) (c d : Current)
    → v.current ≡ c → u.current ≡ d → u.queue ≡ v.queue
    → flat_map (decided_at a) es ≡ [] → flat_map (entered_at a) es ≡ []
    → undecided f c ≡ undecided g d → owed_by a f c ≡ owed_by a g d → SettlesNode a [] es [] f g v u
goes_on a es f g v u c d before behind queue decided entered calls answers =
    by_state a [] es [] f g v u c v.queue d v.queue before refl behind queue
    (settles_none a es [] f g c v.queue d v.queue decided entered refl
    (ap (λ (l : List Numbered). l ++ flat_map numbered_op v.queue) calls) answers)

-- a join ends, whose reply was on its way
answered_join : (a m k : ℕ) (reply : Reply) (f g : ℕ → Option Reply) (v u : Node) → is_word reply ≡ true
    → f m ≡ Some reply
    → v.current ≡ Current.Joining k m → u.current ≡ Current.Free → u.queue ≡ v.queue
    → SettlesNode a [] [] (answer_to a k reply ∷ []) f g v u
answered_join a m k reply f g v u word row before behind queue =
    by_state a [] [] (answer_to a k reply ∷ []) f g v u
    (Current.Joining k m) v.queue Current.Free v.queue before refl behind queue
    (record {
      calls = append-nil _ ∙ ap (λ (x : Option Reply).
          (if is_some x then [] else JoinAs k m ∷ []) ++ flat_map numbered_op v.queue) row;
      answers = append-nil _ ∙ ap (answer_with a k) row ∙ sym (append-nil _ ∙ word_kept a k reply word);
    })

decided_join : (a k m : ℕ) (r : Reply) → flat_map (decided_at a) (Entry.Join a k m r ∷ []) ≡ JoinAs k m ∷ []
decided_join a k m r = ap (λ (t : Bool). (if t then JoinAs k m ∷ [] else []) ++ []) (eq-eqb a a refl)

entered_join : (a k m : ℕ) (r : Reply) → flat_map (entered_at a) (Entry.Join a k m r ∷ []) ≡ answer_to a k r ∷ []
entered_join a k m r = ap (λ (t : Bool). (if t then answer_to a k r ∷ [] else []) ++ []) (eq-eqb a a refl)

decided_name : (a k : ℕ) (call : NameCall) (r : Reply)
    → flat_map (decided_at a) (Entry.Name a k call r ∷ []) ≡ NameAs k call ∷ []
decided_name a k call r = ap (λ (t : Bool). (if t then NameAs k call ∷ [] else []) ++ []) (eq-eqb a a refl)

entered_name : (a k : ℕ) (call : NameCall) (r : Reply)
    → flat_map (entered_at a) (Entry.Name a k call r ∷ []) ≡ answer_to a k r ∷ []
entered_name a k call r = ap (λ (t : Bool). (if t then answer_to a k r ∷ [] else []) ++ []) (eq-eqb a a refl)

-- a join is decided and answered at once
ended_join : (a k m : ℕ) (f g : ℕ → Option Reply) (v u : Node) (c d : Current) (q p : List Op)
    → v.current ≡ c → v.queue ≡ q → u.current ≡ d → u.queue ≡ p
    → undecided f c ++ flat_map numbered_op q ≡ JoinAs k m ∷ (undecided g d ++ flat_map numbered_op p)
    → owed_by a f c ≡ [] → owed_by a g d ≡ []
    → SettlesNode a [] (Entry.Join a k m ContactLeft ∷ []) (answer_to a k ContactLeft ∷ []) f g v u
ended_join a k m f g v u c d q p e1 e2 e3 e4 calls before behind =
    by_state a [] (Entry.Join a k m ContactLeft ∷ []) (answer_to a k ContactLeft ∷ []) f g v u c q d p e1 e2 e3 e4
    (record {
      calls = append-nil _ ∙ calls ∙ ap (λ (l : List Numbered). l ++ (undecided g d ++ flat_map numbered_op p))
          (sym (decided_join a k m ContactLeft));
      answers = ap (λ (l : List Answer). l ++ flat_map (entered_at a) (Entry.Join a k m ContactLeft ∷ [])) before
          ∙ entered_join a k m ContactLeft
          ∙ sym (ap (λ (l : List Answer). l ++ owed_by a g d) (word_kept a k ContactLeft refl)
          ∙ ap (λ (l : List Answer). answer_to a k ContactLeft ∷ l) behind);
    })

-- no answer to a join is on its way
no_reply : (g : Gate) → returns_of g ≡ [] → reply_by g ≡ None
no_reply Turned e = cc
no_reply Entering e = cc
no_reply _ e = refl

-- the rules with a registrar that is at work as before
abbrev pub is_idle : Rules.Rule → Bool
is_idle (Rules.CallsName call) = false
is_idle (Rules.CallsJoin m) = false
is_idle (Rules.Begins op ops) = false
is_idle (Rules.BeginsStrike serial) = false
is_idle (Rules.Retries op) = false
is_idle (Rules.AsksJoin k m ops) = false
is_idle (Rules.SkipsJoin k m ops) = false
is_idle (Rules.HearsAnswer f id granted op r) = false
is_idle (Rules.MarksDown d op r) = false
is_idle (Rules.GivesUp op r granted) = false
is_idle (Rules.Grants k call r) = false
is_idle (Rules.Denies k call r) = false
is_idle (Rules.Strikes p r) = false
is_idle (Rules.Admits j pairs r) = false
is_idle (Rules.Passes j pairs r) = false
is_idle (Rules.CountsApplied f op asked awaited reply) = false
is_idle (Rules.CountsDown d op asked awaited reply) = false
is_idle (Rules.Finishes op asked awaited reply) = false
is_idle (Rules.QueuesJoin f pairs) = false
is_idle (Rules.RefusesJoin f pairs) = false
is_idle (Rules.EndsJoin f k) = false
is_idle (Rules.IsWelcomed f k members pairs told fate) = false
is_idle (Rules.LosesContact k m) = false
is_idle _ = true

node-if : (b : Bool) (n : Node) (u v : Turn) → (u.node.current ≡ n.current) × (u.node.queue ≡ n.queue)
    → (v.node.current ≡ n.current) × (v.node.queue ≡ n.queue)
    → ((if b then u else v).node.current ≡ n.current) × ((if b then u else v).node.queue ≡ n.queue)
node-if true n u v x y = x
node-if false n u v x y = y

idle_node : (o : Opening) (a : ℕ) (number : ℕ → ℕ) (r : Rules.Rule) (v : Node) → is_idle r ≡ true
    → ((Rules.made o a number r (begun v)).node.current ≡ v.current)
    × ((Rules.made o a number r (begun v)).node.queue ≡ v.queue)
idle_node o a number (Rules.CallsName call) v e = cc
idle_node o a number (Rules.CallsJoin m) v e = cc
idle_node o a number (Rules.Begins op ops) v e = cc
idle_node o a number (Rules.BeginsStrike serial) v e = cc
idle_node o a number (Rules.Retries op) v e = cc
idle_node o a number (Rules.AsksJoin k m ops) v e = cc
idle_node o a number (Rules.SkipsJoin k m ops) v e = cc
idle_node o a number (Rules.HearsAnswer f id granted op r) v e = cc
idle_node o a number (Rules.MarksDown d op r) v e = cc
idle_node o a number (Rules.GivesUp op r granted) v e = cc
idle_node o a number (Rules.Grants k call r) v e = cc
idle_node o a number (Rules.Denies k call r) v e = cc
idle_node o a number (Rules.Strikes p r) v e = cc
idle_node o a number (Rules.Admits j pairs r) v e = cc
idle_node o a number (Rules.Passes j pairs r) v e = cc
idle_node o a number (Rules.CountsApplied f op asked awaited reply) v e = cc
idle_node o a number (Rules.CountsDown d op asked awaited reply) v e = cc
idle_node o a number (Rules.Finishes op asked awaited reply) v e = cc
idle_node o a number (Rules.QueuesJoin f pairs) v e = cc
idle_node o a number (Rules.RefusesJoin f pairs) v e = cc
idle_node o a number (Rules.EndsJoin f k) v e = cc
idle_node o a number (Rules.IsWelcomed f k members pairs told fate) v e = cc
idle_node o a number (Rules.LosesContact k m) v e = cc
idle_node o a number (Rules.Judges f id p) v e =
    node-if (is_free_for id p v.locks) v _ (begun v) (refl, refl) (refl, refl)
idle_node o a number (Rules.TakesBack f id p ack) v e = node-if ack v _ _ (refl, refl) (refl, refl)
idle_node o a number (Rules.HearsLock f id granted c r) v e = (
  ap (λ (n : Node). n.current) (node-ask_rest o.bound a f granted (Letter.SetLock c.id c.holder) r (begun v)),
  ap (λ (n : Node). n.queue) (node-ask_rest o.bound a f granted (Letter.SetLock c.id c.holder) r (begun v)),
)
idle_node o a number (Rules.GivesUpLock c r granted) v e =
    node-if (is_spent c.retries) v _ _ (refl, refl) (refl, refl)
idle_node o a number _ v e = (refl, refl)

-- they answer no name or join call, and enter none
idle_words : (a : ℕ) (r : Rules.Rule) (v : Node) → is_idle r ≡ true → filter (is_word_at a) (answered a r v) ≡ []
idle_words a Rules.Spawns v e = word_left a a 0 (Pid (record { node = a; serial = next_serial v.watch })) refl
idle_words a (Rules.LooksUp look) v e = word_left a a 0 (seen_in v.replica look)
    (seen_in-word v.replica look)
idle_words a (Rules.FailsLock c) v e = word_left a a c.number False refl
idle_words a (Rules.WinsLock c r) v e = word_left a a c.number True refl
idle_words a (Rules.GivesUpLock c r granted) v e = go (is_spent c.retries)
  where
    go : (t : Bool) → filter (is_word_at a) (if t then answer_to a c.number False ∷ [] else []) ≡ []
    go true = word_left a a c.number False refl
    go false = refl
idle_words a (Rules.DeletesNothing c) v e = word_left a a c.number True refl
idle_words a (Rules.EndsDeletion f c owing) v e = word_left a a c.number True refl
idle_words a (Rules.EndsDeletionDown d c owing) v e = word_left a a c.number True refl
idle_words a (Rules.SkipsJoin k m ops) v e = cc
idle_words a (Rules.Denies k call r) v e = cc
idle_words a (Rules.Finishes op asked awaited reply) v e = cc
idle_words a (Rules.EndsJoin f k) v e = cc
idle_words a (Rules.IsWelcomed f k members pairs told fate) v e = cc
idle_words a (Rules.LosesContact k m) v e = cc
idle_words a _ v e = refl

idle_entries : (a : ℕ) (number : ℕ → ℕ) (r : Rules.Rule) (v : Node) → is_idle r ≡ true
    → (flat_map (decided_at a) (entered a number r v) ≡ []) × (flat_map (entered_at a) (entered a number r v) ≡ [])
idle_entries a number (Rules.SkipsJoin k m ops) v e = cc
idle_entries a number (Rules.Grants k call r) v e = cc
idle_entries a number (Rules.Denies k call r) v e = cc
idle_entries a number (Rules.Admits j pairs r) v e = cc
idle_entries a number (Rules.RefusesJoin f pairs) v e = cc
idle_entries a number (Rules.LosesContact k m) v e = cc
idle_entries a number _ v e = (refl, refl)

write_owed : (a : ℕ) (f : ℕ → Option Reply) (op : Op) (them others awaited left : _) (reply : Option Reply)
    → owed_by a f (Current.Writing op them awaited reply) ≡ owed_by a f (Current.Writing op others left reply)
write_owed a f (Op.Name k call) them others awaited left reply = refl
write_owed a f _ them others awaited left reply = refl

-- every rule but a refusal or an admission
pub settles_self : (o : Opening) (a : ℕ) (w : World) (r : Rules.Rule) (gate : ℕ → ℕ → Gate)
    → Proper o w → Replicas o w → Gates o w gate → Rules.May o a w r → decides_other r ≡ false
    → SettlesNode a (accepted_by r (w.node a)) (entered a (join_number w) r (w.node a)) (answered a r (w.node a))
    (replies_to gate a) (replies_to (gate_by o a w r gate) a) (w.node a) (Rules.turn_by o a w r).node
settles_self o a w (Rules.RefusesJoin f pairs) gate P R G M e = cc
settles_self o a w (Rules.Admits j pairs r) gate P R G M e = cc
settles_self o a w (Rules.CallsName call) gate P R G M e =
    with_effect a (replies_to gate a) (w.node a).current (w.node a).queue (Op.Name ((w.node a).last_call + 1) call)
settles_self o a w (Rules.CallsJoin m) gate P R G M e =
    with_effect a (replies_to gate a) (w.node a).current (w.node a).queue (Op.Join ((w.node a).last_call + 1) m)
settles_self o a w (Rules.Begins op ops) gate P R G M e =
    by_state a [] [] [] _ _ (w.node a) (Rules.turn_by o a w (Rules.Begins op ops)).node Current.Free (op ∷ ops)
    (Current.Asking op _) ops M.tested.0 M.tested.1 refl refl
    (settles_none a [] [] (replies_to gate a) (replies_to gate a) Current.Free (op ∷ ops)
    (Current.Asking op _) ops refl refl refl refl refl)
settles_self o a w (Rules.BeginsStrike serial) gate P R G M e =
    goes_on a [] _ _ (w.node a) (Rules.turn_by o a w
    (Rules.BeginsStrike serial)).node Current.Free _ M.tested.0 refl refl refl refl refl refl
settles_self o a w (Rules.Retries op) gate P R G M e =
    goes_on a [] _ _ (w.node a) (Rules.turn_by o a w (Rules.Retries op)).node
    (Current.Waiting op) _ M.tested refl refl refl refl refl refl
settles_self o a w (Rules.AsksJoin k m ops) gate P R G M e =
    by_state a [] [] [] _ _ (w.node a) (Rules.turn_by o a w (Rules.AsksJoin k m ops)).node Current.Free
    (Op.Join k m ∷ ops) (Current.Joining k m) ops M.tested.0 M.tested.1 refl refl
    (settles_none a [] [] (replies_to gate a) (replies_to
    (gate_by o a w (Rules.AsksJoin k m ops) gate) a) Current.Free (Op.Join k m ∷ ops)
    (Current.Joining k m) ops refl refl refl
    (sym (ap (λ (x : Option Reply).
    (if is_some x then [] else JoinAs k m ∷ []) ++ flat_map numbered_op ops) asked_now))
    (sym (ap (answer_with a k) asked_now)))
  where
    asked_now : replies_to (gate_by o a w (Rules.AsksJoin k m ops) gate) a m ≡ None
    asked_now = ap reply_by (pair_here gate a m (Knock (replica o w a).table))
settles_self o a w (Rules.SkipsJoin k m ops) gate P R G M e =
    ended_join a k m (replies_to gate a) (replies_to gate a) (w.node a)
    (Rules.turn_by o a w (Rules.SkipsJoin k m ops)).node Current.Free Current.Free
    (Op.Join k m ∷ ops) ops M.tested.0 M.tested.1 M.tested.0 refl refl refl refl
settles_self o a w (Rules.HearsAnswer f id granted op r) gate P R G M e =
    goes_on a [] _ _ (w.node a) (Rules.turn_by o a w (Rules.HearsAnswer f id granted op r)).node
    (Current.Asking op r) _ M.tested.1 refl
    (ap (λ (n : Node). n.queue) (node-ask_rest o.bound a f granted (Letter.SetLock (Global a) (registrar a)) r
    (begun (w.node a)))) refl refl refl refl
settles_self o a w (Rules.MarksDown d op r) gate P R G M e =
    goes_on a [] _ _ (w.node a) (Rules.turn_by o a w (Rules.MarksDown d op r)).node
    (Current.Asking op r) _ M.tested.1 refl refl refl refl refl refl
settles_self o a w (Rules.GivesUp op r granted) gate P R G M e =
    goes_on a [] _ _ (w.node a) (Rules.turn_by o a w (Rules.GivesUp op r granted)).node
    (Current.Asking op r) _ M.tested.0 refl refl refl refl refl refl
settles_self o a w (Rules.Grants k call r) gate P R G M e =
    by_state a [] _ [] _ _ (w.node a) (Rules.turn_by o a w (Rules.Grants k call r)).node
    (Current.Asking (Op.Name k call) r) (w.node a).queue _ (w.node a).queue M.tested.0.current refl refl refl
    (record {
      calls = append-nil _ ∙ ap (λ (l : List Numbered). l ++ flat_map numbered_op (w.node a).queue)
          (sym (decided_name a k call reply));
      answers = entered_name a k call reply;
    })
  where
    reply : Reply
    reply = reply_to (w.node a).replica.members (w.node a).replica.table call
settles_self o a w (Rules.Denies k call r) gate P R G M e =
    by_state a [] _ _ _ _ (w.node a) (Rules.turn_by o a w (Rules.Denies k call r)).node
    (Current.Asking (Op.Name k call) r) (w.node a).queue _ (w.node a).queue M.tested.0.current refl refl refl
    (record {
      calls = append-nil _ ∙ ap (λ (l : List Numbered). l ++ flat_map numbered_op (w.node a).queue)
          (sym (decided_name a k call reply));
      answers = entered_name a k call reply ∙ sym (append-nil _
          ∙ word_kept a k reply (reply_to-word (w.node a).replica.members (w.node a).replica.table call));
    })
  where
    reply : Reply
    reply = reply_to (w.node a).replica.members (w.node a).replica.table call
settles_self o a w (Rules.Strikes p r) gate P R G M e =
    goes_on a _ _ _ (w.node a) (Rules.turn_by o a w (Rules.Strikes p r)).node
    (Current.Asking (Op.Strike p) r) _ M.tested.current refl refl refl refl refl refl
settles_self o a w (Rules.Passes j pairs r) gate P R G M e =
    goes_on a [] _ _ (w.node a) (Rules.turn_by o a w (Rules.Passes j pairs r)).node
    (Current.Asking (Op.Admission j pairs) r) _ M.tested.0.current refl refl refl refl refl refl
settles_self o a w (Rules.CountsApplied f op them awaited reply) gate P R G M e =
    goes_on a [] _ _ (w.node a) (Rules.turn_by o a w (Rules.CountsApplied f op them awaited reply)).node
    (Current.Writing op them awaited reply) _ M.tested.1 refl refl refl refl refl
    (write_owed a (replies_to gate a) op them them awaited _ reply)
settles_self o a w (Rules.CountsDown d op them awaited reply) gate P R G M e =
    goes_on a [] _ _ (w.node a) (Rules.turn_by o a w (Rules.CountsDown d op them awaited reply)).node
    (Current.Writing op them awaited reply) _ M.tested.1 refl refl refl refl refl
    (write_owed a (replies_to gate a) op them them awaited _ reply)
settles_self o a w (Rules.Finishes op them awaited reply) gate P R G M e =
    by_state a [] _ _ _ _ (w.node a) (Rules.turn_by o a w (Rules.Finishes op them awaited reply)).node
    (Current.Writing op them awaited reply) (w.node a).queue Current.Free (w.node a).queue M.tested.0 refl refl
    (ap (λ (n : Node). n.queue) (node-answer_op o.bound a op reply (enter (Entry.Done a) (begun (w.node a)))))
    (record {
      calls = append-nil _;
      answers = append-nil _
          ∙ paid op reply (subst (IsWritten o w a) M.tested.0 (R.written a)) ∙ sym (append-nil _);
    })
  where
    paid : (op : Op) (reply : Option Reply) → IsWritten o w a (Current.Writing op them awaited reply)
        → owed_by a (replies_to gate a) (Current.Writing op them awaited reply)
        ≡ filter (is_word_at a) (answer_of a op reply)
    paid (Op.Name k call) (Some x) W = sym (word_kept a k x (grant_word x W.3.1))
    paid (Op.Name k call) None W = refl
    paid _ reply W = refl
settles_self o a w (Rules.QueuesJoin f pairs) gate P R G M e =
    by_state a [] [] [] _ _ (w.node a) (Rules.turn_by o a w (Rules.QueuesJoin f pairs)).node (w.node a).current
    (w.node a).queue (w.node a).current ((w.node a).queue ++ Op.Admission f pairs ∷ []) refl refl refl refl
    (settles_none a [] [] (replies_to gate a) (replies_to (gate_by o a w (Rules.QueuesJoin f pairs) gate) a)
    (w.node a).current (w.node a).queue (w.node a).current
    ((w.node a).queue ++ Op.Admission f pairs ∷ []) refl refl refl
    (ap (λ (l : List Numbered). l ++ flat_map numbered_op (w.node a).queue)
    (undecided-same _ _ same (w.node a).current)
    ∙ ap (λ (l : List Numbered). undecided (replies_to (gate_by o a w (Rules.QueuesJoin f pairs) gate) a)
    (w.node a).current ++ l)
    (sym (flat_map-append numbered_op (w.node a).queue (Op.Admission f pairs ∷ [])
    ∙ append-nil (flat_map numbered_op (w.node a).queue))))
    (owed-same a _ _ same (w.node a).current))
  where
    same : (m : ℕ) → replies_to gate a m ≡ replies_to (gate_by o a w (Rules.QueuesJoin f pairs) gate) a m
    same = replies_same o a w (Rules.QueuesJoin f pairs) gate G M refl refl a
settles_self o a w (Rules.EndsJoin f k) gate P R G M e =
    answered_join a f k NotMember _ _ (w.node a) (Rules.turn_by o a w (Rules.EndsJoin f k)).node refl
    (ap reply_by (at_refusal (returns M.front.1.0) (gate a f)
    (sym (ap returns M.front.1.1) ∙ G.back a f M.running)).0) M.tested.1 refl refl
settles_self o a w (Rules.IsWelcomed f k members pairs told fate) gate P R G M e =
    answered_join a f k Joined _ _ (w.node a) (Rules.turn_by o a w
    (Rules.IsWelcomed f k members pairs told fate)).node refl
    (ap reply_by (at_welcome (returns M.front.1.0) (gate a f)
    (sym (ap returns M.front.1.1) ∙ G.back a f M.running)).0) M.tested.1 refl refl
settles_self o a w (Rules.LosesContact k m) gate P R G M e =
    ended_join a k m (replies_to gate a) _ (w.node a) (Rules.turn_by o a w (Rules.LosesContact k m)).node
    (Current.Joining k m) Current.Free (w.node a).queue (w.node a).queue M.tested.1 refl refl refl
    (ap (λ (x : Option Reply). (if is_some x then [] else JoinAs k m ∷ []) ++ flat_map numbered_op
    (w.node a).queue) none)
    (ap (answer_with a k) none) refl
  where
    none : replies_to gate a m ≡ None
    none = no_reply (gate a m) (no_answer o w gate a m P R M.running M.tested.0 G)
settles_self o a w r gate P R G M e = settles_still a _ _ _ _ (w.node a) (Rules.turn_by o a w r).node
    (idle_entries a (join_number w) r (w.node a) refl).0 (idle_entries a (join_number w) r (w.node a) refl).1
    (idle_words a r (w.node a) refl)
    (replies_same o a w r gate G M refl refl a)
    (idle_node o a (join_number w) r (w.node a) refl).0 (idle_node o a (join_number w) r (w.node a) refl).1
