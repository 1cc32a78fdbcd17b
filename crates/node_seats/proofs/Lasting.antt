-- What was told stands in the log that is left, since logs only grow.
use Rattle.std.proofs.Common.{ℕ, ◌≡◌, ◌∙◌, true, Bool, List, sym, subst}
use Rattle.std.specs.List.{list_any}
use Rattle.std.proofs.lemmas.Bool.{or_left}
use Rattle.std.proofs.lemmas.List.Folds.{list_any-append}
use mathlib.Core.List.{IsPrefix}
use Rattle.protocol_model.specs.Event.{Answer as AnyAnswer}
use Rattle.shared_table.specs.declared.Moment.{Moment}
use Rattle.shared_table.specs.NodeEventsSeen.{answer_of}
use Rattle.shared_table.specs.Answers.{LogsAnswer}
use Rattle.shared_table.specs.Left.{logs_leave}
use Rattle.shared_table.specs.Held.{Looping, Written}
use Rattle.shared_table.specs.Moments.{ArePast, IsPast}
use Rattle.shared_table.specs.Onward.{Extends}
use Rattle.shared_table.specs.Readers.{Seen}
use Rattle.shared_table.specs.Told.{Told}
use Rattle.shared_table.proofs.Answers.{told_answers_are_logged}
use Rattle.shared_table.proofs.Left.{told_leaves_are_logged}
use Rattle.node_seats.specs.Replies.{Tells}
use Rattle.node_seats.specs.Lasting.{AnswersLast, LeavesLast}
use Rattle.node_seats.proofs.Telling.{contains_on}

-- a step stays in a log that goes on
answer_on : (a b : Written) (stamp : ℕ) (answer : AnyAnswer) → Extends a b → LogsAnswer a stamp answer → LogsAnswer b stamp answer
answer_on a b stamp answer E L = record {
  entry = L.entry;
  logged = contains_on a.entries b.entries L.entry E.entries L.logged;
  stamped = L.stamped;
  given = L.given;
}

-- what holds of one of a beginning holds of one of the whole
any_on : {A : Type 0} (p : A → Bool) (xs ys : List A) → IsPrefix xs ys → list_any p xs ≡ true → list_any p ys ≡ true
any_on {A} p xs ys pre t = subst (λ (zs : List A). list_any p zs ≡ true) pre.1 (list_any-append p xs pre.0 ∙ or_left (list_any p xs) (list_any p pre.0) t)

-- so a leave stays, too
leave_on : (a b : Written) → Extends a b → logs_leave a ≡ true → logs_leave b ≡ true
leave_on a b E t = subst (λ (n : ℕ). logs_leave (record b { node = n }) ≡ true) (sym E.node) (any_on _ a.entries b.entries E.entries t)

-- the moment of what was told is past
past_moment : (name : ℕ) (told : Told) (s : Seen) (more : List Moment) (end : Looping) (t : Tells name told s) → IsPrefix s.known.log more
    → ArePast more end → IsPast t.moment end
past_moment name told s more end t later past = past t.moment (contains_on s.known.log more t.moment later t.among)

pub answers_last : AnswersLast
answers_last name ticket stamp answer s more end told later past =
    answer_on told.moment.node.log end.log stamp (answer_of answer) (past_moment name _ s more end told later past).log
    (told_answers_are_logged name told.moment.node told.came ticket stamp (answer_of answer) told.held)

pub leaves_last : LeavesLast
leaves_last name ticket s more end told later past =
    leave_on told.moment.node.log end.log (past_moment name _ s more end told later past).log
    (told_leaves_are_logged name told.moment.node told.came ticket told.held)
