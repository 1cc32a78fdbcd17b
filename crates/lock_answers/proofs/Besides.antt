-- Parts of a step that are of no lock call: none answers `true`.
use Rattle.std.proofs.Common.{ℕ, Bool, true, false, ◌==◌, ◌≡◌, Option, Some, None, List, [], ◌∷◌, refl, sym, ◌∙◌, subst}
use Rattle.std.specs.Prelude.{if◌then◌else◌}
use Rattle.std.specs.List.{list_any}
use Rattle.registry_model.specs.Process.{Nodes, at}
use Rattle.registry_model.specs.Call.{Reply, True, ContactLeft, is_reply, is_grant, reply_to, change_of}
use Rattle.registry_model.specs.Settlement.{settle}
use Rattle.registry_model.specs.History.{Entry}
use Rattle.protocol_model.specs.Round.{Round, is_empty, asked, down, is_over, Ending, Held, GiveBack, ending}
use Rattle.protocol_model.specs.Watch.{owed}
use Rattle.protocol_model.specs.Node.{Node, Op, Current}
use Rattle.protocol_model.specs.Event.{Answer}
use Rattle.protocol_model.specs.Turn.{Turn, at_work, with_queue, enter}
use Rattle.protocol_model.specs.Registrar.{finish, done, write, await_less, contact_left, lose_contact, ask_join, start_queue, start_next, start_free, start}
use Rattle.protocol_model.specs.Deciding.{admit, held, end_by, go_on, lose}
use Rattle.protocol_model.specs.Answers.{answer_to}
use Rattle.moves.proofs.Indices.{not_true}
use Rattle.leftovers.proofs.Growing.{is_fine, is_fine_reply, not_true_reply}
use Rattle.leftovers.proofs.Turns.{push_none}

-- some answer has such a reply
abbrev pub has_reply : (Reply → Bool) → List Answer → Bool
has_reply test ss = list_any (λ s. test s.reply) ss

abbrev pub is_true : Reply → Bool
is_true r = is_reply r True

-- the start of the next operation answers `contact_left` alone
pub start_adds : (test : Answer → Bool) → ((b k : ℕ) → test (answer_to b k ContactLeft) ≡ false) → (n a : ℕ) (u : Turn)
    → list_any test (start n a u).answers ≡ list_any test u.answers
start_adds test none n a u = go u.node.current
  where
    queue : (ops : List Op) (z : Turn) → list_any test (start_queue n a ops z).answers ≡ list_any test z.answers
    queue [] z = refl
    queue (Op.Join k m ∷ ops) z = by (z.node.replica.told m) (queue ops (contact_left n a k m z))
      where
        by : (t : Bool) → list_any test (start_queue n a ops (contact_left n a k m z)).answers
            ≡ list_any test (contact_left n a k m z).answers
            → list_any test (if t then start_queue n a ops (contact_left n a k m z)
            else ask_join n a k m (with_queue ops z)).answers ≡ list_any test z.answers
        by true more = more ∙ push_none test z.answers (answer_to a k ContactLeft) (none a k)
        by false more = refl
    queue (Op.Name k c ∷ ops) z = refl
    queue (Op.Strike p ∷ ops) z = refl
    queue (Op.Admission j pairs ∷ ops) z = refl

    next : (s : Option ℕ) → list_any test (start_next n a s u).answers ≡ list_any test u.answers
    next (Some serial) = refl
    next None = queue u.node.queue u

    go : (c : Current) → list_any test (start_free n a c u).answers ≡ list_any test u.answers
    go Current.Free = next (owed a u.node.replica.table u.node.watch)
    go _ = refl

-- it leaves what isn't the registrar's
pub start_part : {X : Type 0} (P : Node → X) → ((v : Node) (c : Current) (q : List Op)
    → P (record v { current = c; queue = q }) ≡ P v) → (n a : ℕ) (u : Turn) → P (start n a u).node ≡ P u.node
start_part {X} P same n a u = go u.node.current
  where
    queue : (ops : List Op) (z : Turn) → P (start_queue n a ops z).node ≡ P z.node
    queue [] z = same z.node z.node.current []
    queue (Op.Join k m ∷ ops) z = by (z.node.replica.told m) (queue ops (contact_left n a k m z))
      where
        by : (t : Bool) → P (start_queue n a ops (contact_left n a k m z)).node ≡ P z.node
            → P (if t then start_queue n a ops (contact_left n a k m z)
            else ask_join n a k m (with_queue ops z)).node ≡ P z.node
        by true more = more
        by false more = same z.node (Current.Joining k m) ops
    queue (Op.Name k c ∷ ops) z = same z.node _ ops
    queue (Op.Strike p ∷ ops) z = same z.node _ ops
    queue (Op.Admission j pairs ∷ ops) z = same z.node _ ops

    next : (s : Option ℕ) → P (start_next n a s u).node ≡ P u.node
    next (Some serial) = same u.node _ u.node.queue
    next None = queue u.node.queue u

    go : (c : Current) → P (start_free n a c u).node ≡ P u.node
    go Current.Free = next (owed a u.node.replica.table u.node.watch)
    go _ = refl

-- a turn by which nothing more is answered `true`
abbrev Plain : Turn → Turn → Type 0
Plain u v = has_reply is_true v.answers ≡ has_reply is_true u.answers

module _ (n a : ℕ) where
  plain_finish : (op : Op) (s : Nodes) (reply : Option Reply) (u : Turn) → is_fine_reply reply ≡ true
      → Plain u (finish n a op s reply u)
  plain_finish (Op.Name k call) s (Some r) u f =
      push_none (λ x. is_true x.reply) u.answers (answer_to a k r) (not_true (is_reply r True) f)
  plain_finish (Op.Name k call) s None u f = refl
  plain_finish (Op.Strike p) s reply u f = refl
  plain_finish (Op.Join k m) s reply u f = refl
  plain_finish (Op.Admission j pairs) s reply u f = refl

  module _ (number : ℕ → ℕ) where
    plain_held : (op : Op) (s : Nodes) (u : Turn) → Plain u (held n a number op s u)
    plain_held (Op.Name k call) s u =
        by (reply_to u.node.replica.members u.node.replica.table call)
        (is_grant (reply_to u.node.replica.members u.node.replica.table call))
        (not_true_reply u.node.replica.members u.node.replica.table call)
      where
        by : (reply : Reply) (b : Bool) → is_reply reply True ≡ false → Plain u
            (if b then write n a (Op.Name k call) s (Some reply) (change_of call)
            (enter (Entry.Name a k call reply) u)
            else finish n a (Op.Name k call) s (Some reply) (enter (Entry.Name a k call reply) u))
        by reply true e = refl
        by reply false e = push_none (λ x. is_true x.reply) u.answers (answer_to a k reply) e
    plain_held (Op.Strike p) s u = refl
    plain_held (Op.Admission j pairs) s u = go (u.node.replica.told j)
      where
        go : (t : Bool) → Plain u (if t then finish n a (Op.Admission j pairs) s None u
            else admit n a number j pairs s (settle u.node.replica.table pairs) u)
        go true = refl
        go false = refl
    plain_held (Op.Join k m) s u = refl

    plain_go_on : (op : Op) (r : Round) (u : Turn) → Plain u (go_on n a number op r u)
    plain_go_on op r u = go (is_over n r)
      where
        ends : (x : Ending) → Plain u (end_by n a number x op (asked r) (at_work (Current.Asking op r) u))
        ends Held = plain_held op (asked r) (at_work (Current.Asking op r) u)
        ends (GiveBack granted) = refl

        go : (b : Bool) → Plain u (if b then end_by n a number (ending n u.node.replica.members r) op (asked r)
            (at_work (Current.Asking op r) u) else at_work (Current.Asking op r) u)
        go true = ends (ending n u.node.replica.members r)
        go false = refl

  plain_await : (d : ℕ) (c : Current) (u : Turn) → is_fine c ≡ true → Plain u (await_less n a d c u)
  plain_await d (Current.Writing op s awaited reply) u fine = go (awaited d) (is_empty n (at awaited d false))
    where
      go : (b c : Bool) → Plain u (if b then (if c then done n a op s reply u
          else at_work (Current.Writing op s (at awaited d false) reply) u) else u)
      go true true = plain_finish op s reply (enter (Entry.Done a) u) fine
      go true false = refl
      go false c = refl
  plain_await d _ u fine = refl

  -- d has gone down: a join by d ends, and the registrar is told
  pub plain_lose : (number : ℕ → ℕ) (d : ℕ) (u : Turn) → is_fine u.node.current ≡ true
      → Plain u (lose n a number d (lose_contact n a d u.node.current u).node.current
      (lose_contact n a d u.node.current u))
  plain_lose number d u fine = go u.node.current refl fine
    where
      later : (x : Current) → u.node.current ≡ x → Plain u (lose n a number d x u)
          → Plain u (lose n a number d u.node.current u)
      later x i k = subst (λ (y : Current). Plain u (lose n a number d y u)) (sym i) k

      go : (x : Current) → u.node.current ≡ x → is_fine x ≡ true
          → Plain u (lose n a number d (lose_contact n a d x u).node.current (lose_contact n a d x u))
      go Current.Free i f = later Current.Free i refl
      go (Current.Waiting op) i f = later (Current.Waiting op) i refl
      go (Current.Asking op r) i f = later (Current.Asking op r) i (plain_go_on number op (down d r) u)
      go (Current.Writing op s awaited reply) i f = later (Current.Writing op s awaited reply) i
          (plain_await d (Current.Writing op s awaited reply) u f)
      go (Current.Joining k m) i f = contact (m == d)
        where
          contact : (b : Bool) → Plain u (lose n a number d
              (if b then contact_left n a k m (at_work Current.Free u) else u).node.current
              (if b then contact_left n a k m (at_work Current.Free u) else u))
          contact true = push_none (λ x. is_true x.reply) u.answers (answer_to a k ContactLeft) refl
          contact false = later (Current.Joining k m) i refl
