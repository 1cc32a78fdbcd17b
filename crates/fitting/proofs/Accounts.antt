-- Calls that aren't decided yet, and answers that are owed: by a node's state and the gates of its joins.
use Rattle.std.proofs.Common.{ℕ, Bool, true, false, ◌≡◌, ◌==◌, Option, Some, None, List, [], ◌∷◌, ◌++◌, refl, sym, ap, ◌∙◌, subst}
use Rattle.std.specs.Prelude.{◌&&◌, if◌then◌else◌, filter, flat_map, is_some}
use Rattle.std.proofs.lemmas.List.{append-nil, append_assoc}
use Rattle.std.proofs.lemmas.List.Elements.{filter-append}
use Rattle.std.proofs.lemmas.Grind.{flat_map-append}
use Rattle.registry_model.specs.Call.{Reply, Yes, No, Ok, UnknownNode, Joined, NotMember, ContactLeft}
use Rattle.registry_model.specs.History.{Entry}
use Rattle.protocol_model.specs.Node.{Node, Op, Current}
use Rattle.protocol_model.specs.Event.{Answer}
use Rattle.protocol_model.specs.Fit.{Numbered, NameAs, JoinAs, decided_at}
use Rattle.protocol_model.specs.Answers.{answer_to, entered_at}
use Rattle.protocol_model.specs.World.{Opening, World}
use Rattle.join_gates.proofs.Tokens.{Gate}
use Rattle.join_gates.proofs.Gates.{Gates}

-- a name or join call among operations
abbrev pub numbered_op : Op → List Numbered
numbered_op (Op.Name k call) = NameAs k call ∷ []
numbered_op (Op.Join k m) = JoinAs k m ∷ []
numbered_op _ = []

-- the reply that is on its way to a joiner
abbrev pub reply_by : Gate → Option Reply
reply_by Gate.Turned = Some NotMember
reply_by Gate.Entering = Some Joined
reply_by _ = None

-- the call that the registrar is at, where no entry has decided it; replies m: the reply that is on its way from m
abbrev pub undecided : (ℕ → Option Reply) → Current → List Numbered
undecided replies (Current.Asking op r) = numbered_op op
undecided replies (Current.Waiting op) = numbered_op op
undecided replies (Current.Joining k m) = if is_some (replies m) then [] else JoinAs k m ∷ []
undecided replies _ = []

-- all calls of a node that no entry has decided, in order
abbrev pub own : (ℕ → Option Reply) → Node → List Numbered
own replies v = undecided replies v.current ++ flat_map numbered_op v.queue

-- an answer with the reply that is there
abbrev pub answer_with : ℕ → ℕ → Option Reply → List Answer
answer_with a k None = []
answer_with a k (Some reply) = answer_to a k reply ∷ []

-- the answer of a call that an entry has decided, where it isn't given yet
abbrev pub owed_by : ℕ → (ℕ → Option Reply) → Current → List Answer
owed_by a replies (Current.Writing (Op.Name k call) asked awaited reply) = answer_with a k reply
owed_by a replies (Current.Joining k m) = answer_with a k (replies m)
owed_by a replies _ = []

-- a reply to a name or join call
abbrev pub is_word : Reply → Bool
is_word Yes = true
is_word No = true
is_word Ok = true
is_word UnknownNode = true
is_word Joined = true
is_word NotMember = true
is_word ContactLeft = true
is_word _ = false

-- node a answers a name or join call
abbrev pub is_word_at : ℕ → Answer → Bool
is_word_at a s = (s.node == a) && is_word s.reply

-- the replies on their way to a node
abbrev pub replies_to : (ℕ → ℕ → Gate) → ℕ → ℕ → Option Reply
replies_to gate a m = reply_by (gate a m)

-- the name and join calls that each node accepted are those that entries decided, then those still to be decided; and
-- all that the entries say was answered, but for the answer that is owed
pub record Accounts (o : Opening) (w : World) (accepted : ℕ → List Numbered) (given : List Answer) : Type 0 where
  pub gate : ℕ → ℕ → Gate
  pub gates : Gates o w gate
  pub calls : (a : ℕ) → accepted a ≡ flat_map (decided_at a) w.history ++ own (replies_to gate a) (w.node a)
  pub answers : (a : ℕ) → flat_map (entered_at a) w.history
      ≡ filter (is_word_at a) given ++ owed_by a (replies_to gate a) (w.node a).current

-- what is read off replies is so by each of them
pub undecided-same : (f g : ℕ → Option Reply) → ((m : ℕ) → f m ≡ g m) → (c : Current) → undecided f c ≡ undecided g c
undecided-same f g same (Current.Joining k m) =
    ap (λ (r : Option Reply). if is_some r then [] else JoinAs k m ∷ []) (same m)
undecided-same f g same (Current.Asking op r) = refl
undecided-same f g same (Current.Waiting op) = refl
undecided-same f g same _ = refl

pub owed-same : (a : ℕ) (f g : ℕ → Option Reply) → ((m : ℕ) → f m ≡ g m) → (c : Current)
    → owed_by a f c ≡ owed_by a g c
owed-same a f g same (Current.Joining k m) = ap (answer_with a k) (same m)
owed-same a f g same (Current.Writing (Op.Name k call) asked awaited reply) = refl
owed-same a f g same _ = refl

-- what one turn does to the account of node b, whose registrar goes from c and the queue q to d and p: calls that come,
-- entries, answers, and what is left
pub record Settles (b : ℕ) (new : List Numbered) (es : List Entry) (given : List Answer) (f g : ℕ → Option Reply)
    (c : Current) (q : List Op) (d : Current) (p : List Op) : Type 0 where
  pub calls : (undecided f c ++ flat_map numbered_op q) ++ new
      ≡ flat_map (decided_at b) es ++ (undecided g d ++ flat_map numbered_op p)
  pub answers : owed_by b f c ++ flat_map (entered_at b) es ≡ filter (is_word_at b) given ++ owed_by b g d

-- the same for a node that goes from v to u
abbrev pub SettlesNode : ℕ → List Numbered → List Entry → List Answer → (ℕ → Option Reply) → (ℕ → Option Reply)
    → Node → Node → Type 0
SettlesNode b new es given f g v u = Settles b new es given f g v.current v.queue u.current u.queue

pub by_state : (b : ℕ) (new : List Numbered) (es : List Entry) (given : List Answer) (f g : ℕ → Option Reply)
    (v u : Node) (c : Current) (q : List Op) (d : Current) (p : List Op)
    → v.current ≡ c → v.queue ≡ q → u.current ≡ d → u.queue ≡ p → Settles b new es given f g c q d p
    → SettlesNode b new es given f g v u
by_state b new es given f g v u c q d p e1 e2 e3 e4 S =
    subst (λ (x : Current). Settles b new es given f g x v.queue u.current u.queue) (sym e1)
    (subst (λ (x : List Op). Settles b new es given f g c x u.current u.queue) (sym e2)
    (subst (λ (x : Current). Settles b new es given f g c q x u.queue) (sym e3)
    (subst (λ (x : List Op). Settles b new es given f g c q d x) (sym e4) S)))

-- nothing comes, is entered or is answered
pub settles_none : (b : ℕ) (es : List Entry) (given : List Answer) (f g : ℕ → Option Reply) (c : Current)
    (q : List Op) (d : Current) (p : List Op)
    → flat_map (decided_at b) es ≡ [] → flat_map (entered_at b) es ≡ [] → filter (is_word_at b) given ≡ []
    → undecided f c ++ flat_map numbered_op q ≡ undecided g d ++ flat_map numbered_op p
    → owed_by b f c ≡ owed_by b g d → Settles b [] es given f g c q d p
settles_none b es given f g c q d p decided entered words calls answers = record {
  calls = append-nil (undecided f c ++ flat_map numbered_op q) ∙ calls
      ∙ ap (λ (l : List Numbered). l ++ (undecided g d ++ flat_map numbered_op p)) (sym decided);
  answers = ap (λ (l : List Answer). owed_by b f c ++ l) entered ∙ append-nil (owed_by b f c) ∙ answers
      ∙ ap (λ (l : List Answer). l ++ owed_by b g d) (sym words);
}

-- nor does the registrar go on, and the replies on their way are the same
pub settles_still : (b : ℕ) (es : List Entry) (given : List Answer) (f g : ℕ → Option Reply) (v u : Node)
    → flat_map (decided_at b) es ≡ [] → flat_map (entered_at b) es ≡ [] → filter (is_word_at b) given ≡ []
    → ((m : ℕ) → f m ≡ g m) → u.current ≡ v.current → u.queue ≡ v.queue → SettlesNode b [] es given f g v u
settles_still b es given f g v u decided entered words same current queue =
    by_state b [] es given f g v u v.current v.queue v.current v.queue refl refl current queue
    (settles_none b es given f g v.current v.queue v.current v.queue decided entered words
    (ap (λ (l : List Numbered). l ++ flat_map numbered_op v.queue) (undecided-same f g same v.current))
    (owed-same b f g same v.current))

-- accounts over a turn
pub account_settled : (b : ℕ) (new : List Numbered) (es history : List Entry) (given before : List Answer)
    (f g : ℕ → Option Reply) (v u : Node) (accepted : List Numbered)
    → SettlesNode b new es given f g v u
    → accepted ≡ flat_map (decided_at b) history ++ own f v
    → flat_map (entered_at b) history ≡ filter (is_word_at b) before ++ owed_by b f v.current
    → (accepted ++ new ≡ flat_map (decided_at b) (history ++ es) ++ own g u)
    × (flat_map (entered_at b) (history ++ es) ≡ filter (is_word_at b) (before ++ given) ++ owed_by b g u.current)
account_settled b new es history given before f g v u accepted S calls answers = (
  ap (λ (l : List Numbered). l ++ new) calls
      ∙ append_assoc (flat_map (decided_at b) history) (own f v) new
      ∙ ap (λ (l : List Numbered). flat_map (decided_at b) history ++ l) S.calls
      ∙ sym (append_assoc (flat_map (decided_at b) history) (flat_map (decided_at b) es) (own g u))
      ∙ ap (λ (l : List Numbered). l ++ own g u) (sym (flat_map-append (decided_at b) history es)),
  flat_map-append (entered_at b) history es
      ∙ ap (λ (l : List Answer). l ++ flat_map (entered_at b) es) answers
      ∙ append_assoc (filter (is_word_at b) before) (owed_by b f v.current) (flat_map (entered_at b) es)
      ∙ ap (λ (l : List Answer). filter (is_word_at b) before ++ l) S.answers
      ∙ sym (append_assoc (filter (is_word_at b) before) (filter (is_word_at b) given) (owed_by b g u.current))
      ∙ ap (λ (l : List Answer). l ++ owed_by b g u.current) (sym (filter-append (is_word_at b) before given)),
)
