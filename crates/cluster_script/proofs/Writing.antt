-- Texts that are written in parts.
use Rattle.std.proofs.Common.{ℕ, List, [], ◌∷◌, ◌++◌, ◌≡◌, Option, refl, sym, ap, subst, ◌∙◌, append_assoc, Result, Err, Bool, ◌<◌, ◌+◌, length, get_or, take, drop, map}
use Rattle.std.specs.Io.KnownBytes.{Appends}
use Rattle.text_lines.proofs.Written.{AppendsPart-behind, AppendsPart-more}
use Rattle.std.proofs.lemmas.List.{take-append-drop}
use Rattle.std.proofs.lemmas.Grind.{take_at_read}
use Rattle.protocol_model.specs.NamedEvents.{Said}
use Rattle.cluster_world.specs.WorldState.{WorldState}
use Rattle.command_lines.specs.NodeEventsSeen.{answer_of}
use Rattle.command_lines.specs.declared.Answer.{Answer}
use Rattle.command_lines.specs.declared.faults.LineFault.{LineFault}
use Rattle.text_lines.specs.declared.faults.WriteFault.{WriteFault}
use Rattle.command_lines.specs.Grammar.{ScriptLine}
use Rattle.command_lines.specs.Printing.{answers_text, output_line}
use Rattle.cluster_script.specs.Script.{Outcome}
use Rattle.cluster_script.specs.Played.{PlaysAsked, ComesOf, shown_on}
use Rattle.text_lines.specs.Writing.{AppendsPart}

-- what the exit of a `?` says of a line that is played
pub PlaysAsked-err : (old new : WorldState) (asked : Result ScriptLine LineFault) (outcome : Outcome) (a b : Option (List ℕ))
    (r : Result Bool WriteFault) (y : WriteFault)
    → r ≡ Err y → ComesOf asked outcome → AppendsPart a b (shown_on old outcome) → PlaysAsked asked old new a b r
PlaysAsked-err old new asked outcome a b r y e q p = (outcome, q, rw e p)

-- the lines of answers, in three parts
pub answers_text-parts : (front : List Answer) (x : Answer) (rest : List Answer)
    → answers_text (map answer_of ((front ++ x ∷ []) ++ rest))
    ≡ answers_text (map answer_of front) ++ (output_line (Said (answer_of x)) ++ answers_text (map answer_of rest))
answers_text-parts [] x rest = refl
answers_text-parts (y ∷ front) x rest =
    ap (λ (t : List ℕ). output_line (Said (answer_of y)) ++ t) (answers_text-parts front x rest)
    ∙ sym (append_assoc (output_line (Said (answer_of y))) (answers_text (map answer_of front))
    (output_line (Said (answer_of x)) ++ answers_text (map answer_of rest)))

-- the first i, the next, and the others
pub answers_text-at : (xs : List Answer) (i : ℕ) (x : Answer) → i < length xs → x ≡ get_or xs i x
    → answers_text (map answer_of xs)
    ≡ answers_text (map answer_of (take i xs)) ++ (output_line (Said (answer_of x))
    ++ answers_text (map answer_of (drop (i + 1) xs)))
answers_text-at xs i x l e =
    let t : take (i + 1) xs ≡ take i xs ++ x ∷ [] = (take_at_read xs i x l).1
    ∙ ap (λ (y : Answer). take i xs ++ y ∷ []) (sym e) in
    let w : (take i xs ++ x ∷ []) ++ drop (i + 1) xs ≡ xs = ap (λ (ys : List Answer). ys ++ drop (i + 1) xs) (sym t)
    ∙ take-append-drop (i + 1) xs in
    ap (λ (ys : List Answer). answers_text (map answer_of ys)) (sym w)
    ∙ answers_text-parts (take i xs) x (drop (i + 1) xs)

-- the first answers were written, and a part of the line of the next
pub answers-part : (a b c : Option (List ℕ)) (xs : List Answer) (i : ℕ) (x : Answer) → i < length xs → x ≡ get_or xs i x
    → Appends a b (answers_text (map answer_of (take i xs))) → AppendsPart b c (output_line (Said (answer_of x)))
    → AppendsPart a c (answers_text (map answer_of xs))
answers-part a b c xs i x l e h p =
    subst (λ (t : List ℕ). AppendsPart a c t) (sym (answers_text-at xs i x l e))
    (AppendsPart-behind a b c (answers_text (map answer_of (take i xs)))
    (output_line (Said (answer_of x)) ++ answers_text (map answer_of (drop (i + 1) xs))) h
    (AppendsPart-more b c (output_line (Said (answer_of x))) (answers_text (map answer_of (drop (i + 1) xs))) p))
