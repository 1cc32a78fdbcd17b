-- Events behind others, and what is answered in their course.
use Rattle.std.proofs.Common.{Bool, true, false, ◌≡◌, List, [], ◌∷◌, ◌++◌, refl, sym, ap, ◌∙◌}
use Rattle.std.specs.Prelude.{is_none, if◌then◌else◌}
use Rattle.std.proofs.lemmas.List.{append_assoc}
use Rattle.std.proofs.lemmas.List.Sums.{fold-append}
use Rattle.protocol_model.specs.Event.{Answer}
use Rattle.protocol_model.specs.World.{Opening, World, WorldEvent, refusal, turn_of, happens, answers, run, all_answers}
use Rattle.protocol_model.specs.Course.{Played, answers_of, delivers_down, course}

-- one list of events after another
pub run-append : (o : Opening) (w : World) (xs ys : List WorldEvent) → run o w (xs ++ ys) ≡ run o (run o w xs) ys
run-append o w xs ys = fold-append (happens o) w xs ys

-- what is answered over two lists
pub answers-append : (o : Opening) (w : World) (xs ys : List WorldEvent)
    → all_answers o w (xs ++ ys) ≡ all_answers o w xs ++ all_answers o (run o w xs) ys
answers-append o w [] ys = refl
answers-append o w (x ∷ xs) ys = ap (λ (l : List Answer). answers o w x ++ l) (answers-append o (happens o w x) xs ys)
    ∙ sym (append_assoc (answers o w x) (all_answers o (happens o w x) xs) (all_answers o (run o w (x ∷ xs)) ys))

-- what is answered in a course is what its events answer
pub course_answers : (o : Opening) (w : World) (es : List WorldEvent) → answers_of (course o w es) ≡ all_answers o w es
course_answers o w [] = refl
course_answers o w (e ∷ es) = go (is_none (refusal o w e)) (course_answers o (happens o w e) es)
  where
    by : Bool → Played
    by b = record {
      event = e;
      answers = if b then (turn_of o w e).answers else [];
      entries = (turn_of o w e).entries;
      down = delivers_down w e;
    }

    go : (b : Bool) → answers_of (course o (happens o w e) es) ≡ all_answers o (happens o w e) es
        → answers_of ((if b then by b ∷ [] else []) ++ course o (happens o w e) es)
        ≡ (if b then (turn_of o w e).answers else []) ++ all_answers o (happens o w e) es
    go true rest = ap (λ (l : List Answer). (turn_of o w e).answers ++ l) rest
    go false rest = rest
