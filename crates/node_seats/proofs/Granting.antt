-- Where a loop of a node tells an answer, its log has it; and what a seat is granted.
use Rattle.std.proofs.Common.{ℕ, ◌≡◌, Bool, true, false, Option, Some, Ok, refl, sym, subst}
use Rattle.std.specs.Prelude.{◌&&◌, if◌then◌else◌}
use Rattle.std.specs.Option.{ForSome}
use Rattle.std.proofs.Math.Logic.{∥∥₁_map}
use Rattle.shared_table.specs.declared.Answer.{Answer}
use Rattle.shared_table.specs.declared.Ticket.{Ticket}
use Rattle.shared_table.specs.declared.Effect.TheVariants.{Answered}
use Rattle.shared_table.specs.NodeEventsSeen.{answer_of, reply_of}
use Rattle.shared_table.specs.Readers.{Seen}
use Rattle.shared_table.proofs.Answers.{told_answers_are_logged}
use Rattle.node_seats.specs.Fences.{HasLogged, HasGranted, grants}
use Rattle.node_seats.specs.Replies.{IsToldTo}

pub logged_where_told : (name : ℕ) (ticket : Ticket) (stamp : ℕ) (answer : Answer) (s : Seen)
    → IsToldTo name ticket (Ok (Answered stamp answer)) s → HasLogged name stamp (answer_of answer)
logged_where_told name ticket stamp answer s told = ∣ record {
  node = told.moment.node;
  came = told.came;
  logged = told_answers_are_logged name told.moment.node told.came ticket stamp (answer_of answer) told.held;
} ∣₁

-- what was granted last is logged, behind an answer that is
pub granted_so : (name stamp : ℕ) (answer : Answer) (sets : Bool) (last : Option ℕ) → HasLogged name stamp (answer_of answer)
    → ForSome last (λ n. HasGranted name n)
    → ForSome (if sets && grants (reply_of answer.reply) then Some stamp else last) (λ n. HasGranted name n)
granted_so name stamp answer sets last logged before = go sets (grants (reply_of answer.reply)) (λ e. e)
  where
    same : {n : ℕ} → Some stamp ≡ Some n → stamp ≡ n
    same e = cc

    go : (b g : Bool) → (g ≡ true → grants (reply_of answer.reply) ≡ true)
        → ForSome (if b && g then Some stamp else last) (λ n. HasGranted name n)
    go true true is = λ n e. subst (HasGranted name) (same e) (∥∥₁_map logged
        (λ l. record { node = l.node; came = l.came; answer = answer_of answer; logged = l.logged; granted = is refl }))
    go true false is = before
    go false g is = before

-- by other names of the same
pub granted_at : (name other : ℕ) (last now : Option ℕ) → other ≡ name → now ≡ last → ForSome last (λ n. HasGranted name n)
    → ForSome now (λ n. HasGranted other n)
granted_at name other last now p q =
    subst (λ (x : ℕ × Option ℕ). ForSome x.1 (λ n. HasGranted x.0 n)) (λ j. (sym p j, sym q j))
