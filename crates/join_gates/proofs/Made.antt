-- What each rule enters into the history, and what it answers.
use Rattle.std.proofs.Common.{ℕ, Bool, true, false, ◌≡◌, Option, Some, None, List, [], ◌∷◌, ◌++◌, refl, sym}
use Rattle.std.specs.Prelude.{if◌then◌else◌}
use Rattle.std.proofs.lemmas.List.{append-nil}
use Rattle.registry_model.specs.Call.{Reply, Pid, True, False, Joined, NotMember, ContactLeft, reply_to, seen_in}
use Rattle.registry_model.specs.History.{Entry}
use Rattle.protocol_model.specs.Round.{opens}
use Rattle.protocol_model.specs.LockTable.{is_free_for}
use Rattle.protocol_model.specs.Watch.{next_serial}
use Rattle.protocol_model.specs.Node.{Node, Op}
use Rattle.protocol_model.specs.Event.{Answer}
use Rattle.protocol_model.specs.Turn.{Turn, begun}
use Rattle.protocol_model.specs.Registrar.{answer_op}
use Rattle.protocol_model.specs.Client.{is_spent}
use Rattle.protocol_model.specs.Answers.{answer_to}
use Rattle.protocol_model.specs.World.{Opening}
use Rattle.moves.proofs.Rules

-- what a rule enters, at node a, which is v before it
abbrev pub entered : ℕ → (ℕ → ℕ) → Rules.Rule → Node → List Entry
entered a number (Rules.LooksUp look) v = Entry.Read a look (seen_in v.replica look) ∷ []
entered a number (Rules.Exits p) v = Entry.Exit p ∷ []
entered a number (Rules.SkipsJoin k m ops) v = Entry.Join a k m ContactLeft ∷ []
entered a number (Rules.Grants k call r) v = Entry.Name a k call
    (reply_to v.replica.members v.replica.table call) ∷ []
entered a number (Rules.Denies k call r) v = Entry.Name a k call
    (reply_to v.replica.members v.replica.table call) ∷ []
entered a number (Rules.Strikes p r) v = Entry.Strike p ∷ []
entered a number (Rules.Admits j pairs r) v = Entry.Join j (number j) a Joined ∷ []
entered a number (Rules.Finishes op asked awaited reply) v = Entry.Done a ∷ []
entered a number (Rules.RefusesJoin f pairs) v = Entry.Join f (number f) a NotMember ∷ []
entered a number (Rules.IsTold f) v = Entry.Told a f ∷ []
entered a number (Rules.LosesContact k m) v = Entry.Join a k m ContactLeft ∷ []
entered a number Rules.Leaves v = Entry.Left a ∷ []
entered a number _ v = []

-- the answer to a name call that is done; no other operation has one
abbrev pub answer_of : ℕ → Op → Option Reply → List Answer
answer_of a (Op.Name k call) (Some reply) = answer_to a k reply ∷ []
answer_of a _ _ = []

-- what a rule answers
abbrev pub answered : ℕ → Rules.Rule → Node → List Answer
answered a Rules.Spawns v = answer_to a 0 (Pid (record { node = a; serial = next_serial v.watch })) ∷ []
answered a (Rules.LooksUp look) v = answer_to a 0 (seen_in v.replica look) ∷ []
answered a (Rules.SkipsJoin k m ops) v = answer_to a k ContactLeft ∷ []
answered a (Rules.Denies k call r) v = answer_to a k (reply_to v.replica.members v.replica.table call) ∷ []
answered a (Rules.Finishes op asked awaited reply) v = answer_of a op reply
answered a (Rules.EndsJoin f k) v = answer_to a k NotMember ∷ []
answered a (Rules.IsWelcomed f k members pairs told fate) v = answer_to a k Joined ∷ []
answered a (Rules.LosesContact k m) v = answer_to a k ContactLeft ∷ []
answered a (Rules.FailsLock c) v = answer_to a c.number False ∷ []
answered a (Rules.WinsLock c r) v = answer_to a c.number True ∷ []
answered a (Rules.GivesUpLock c r granted) v = if is_spent c.retries then answer_to a c.number False ∷ [] else []
answered a (Rules.DeletesNothing c) v = answer_to a c.number True ∷ []
answered a (Rules.EndsDeletion f c owing) v = answer_to a c.number True ∷ []
answered a (Rules.EndsDeletionDown d c owing) v = answer_to a c.number True ∷ []
answered a _ v = []

-- a test between two turns with the same entries, or answers
entries-if : (b : Bool) (u v : Turn) (es : List Entry) → u.entries ≡ es → v.entries ≡ es
    → (if b then u else v).entries ≡ es
entries-if true u v es x y = x
entries-if false u v es x y = y

answers-if : (b : Bool) (u v : Turn) (xs ys : List Answer) → u.answers ≡ xs → v.answers ≡ ys
    → (if b then u else v).answers ≡ (if b then xs else ys)
answers-if true u v xs ys x y = x
answers-if false u v xs ys x y = y

answers-same : (b : Bool) (u v : Turn) (xs : List Answer) → u.answers ≡ xs → v.answers ≡ xs
    → (if b then u else v).answers ≡ xs
answers-same true u v xs x y = x
answers-same false u v xs x y = y

entries-answer_op : (n a : ℕ) (op : Op) (reply : Option Reply) (u : Turn)
    → (answer_op n a op reply u).entries ≡ u.entries
entries-answer_op n a (Op.Name k call) (Some reply) u = refl
entries-answer_op n a (Op.Name k call) None u = refl
entries-answer_op n a _ reply u = refl

answers-answer_op : (n a : ℕ) (op : Op) (reply : Option Reply) (u : Turn)
    → (answer_op n a op reply u).answers ≡ u.answers ++ answer_of a op reply
answers-answer_op n a (Op.Name k call) (Some reply) u = refl
answers-answer_op n a (Op.Name k call) None u = sym (append-nil u.answers)
answers-answer_op n a _ reply u = sym (append-nil u.answers)

pub entries_made : (o : Opening) (a : ℕ) (number : ℕ → ℕ) (r : Rules.Rule) (v : Node)
    → (Rules.made o a number r (begun v)).entries ≡ entered a number r v
entries_made o a number (Rules.HearsAnswer f id granted op r) v = entries-if (opens f granted r) _ _ [] refl refl
entries_made o a number (Rules.Finishes op asked awaited reply) v = entries-answer_op o.bound a op reply _
entries_made o a number (Rules.Judges f id p) v = entries-if (is_free_for id p v.locks) _ _ [] refl refl
entries_made o a number (Rules.TakesBack f id p ack) v = entries-if ack _ _ [] refl refl
entries_made o a number (Rules.HearsLock f id granted c r) v = entries-if (opens f granted r) _ _ [] refl refl
entries_made o a number (Rules.GivesUpLock c r granted) v = entries-if (is_spent c.retries) _ _ [] refl refl
entries_made o a number _ v = refl

pub answers_made : (o : Opening) (a : ℕ) (number : ℕ → ℕ) (r : Rules.Rule) (v : Node)
    → (Rules.made o a number r (begun v)).answers ≡ answered a r v
answers_made o a number (Rules.HearsAnswer f id granted op r) v = answers-same (opens f granted r) _ _ [] refl refl
answers_made o a number (Rules.Finishes op asked awaited reply) v = answers-answer_op o.bound a op reply _
answers_made o a number (Rules.Judges f id p) v = answers-same (is_free_for id p v.locks) _ _ [] refl refl
answers_made o a number (Rules.TakesBack f id p ack) v = answers-same ack _ _ [] refl refl
answers_made o a number (Rules.HearsLock f id granted c r) v = answers-same (opens f granted r) _ _ [] refl refl
answers_made o a number (Rules.GivesUpLock c r granted) v = answers-if (is_spent c.retries) _ _ _ _ refl refl
answers_made o a number _ v = refl
