use Rattle.std.proofs.Common.{rules, tests, arith, ◌≡◌, ◌∙◌, ℕ, List, Bor, ◌++◌, true, false, Result, Ok, Err, OnErr, OnOk, IsOk, is_err, sym, ap, map, take, length}
use Rattle.std.proofs.lemmas.List.{take-append-le, take_all, map-append, length-map}
use Rattle.term.specs.declared.limits.TheConstants.{MOST_WORDS}
use Rattle.text_lines.specs.Words.{words}
use Rattle.text_lines.proofs.Cuts.{taken_with, taken_without}
use Rattle.text_lines.proofs.words.first_words.Goals.{else-not-is_empty-via-then-not-is_empty+else-is_err, else-not-is_empty-via-else-not-is_empty}
use Rattle.text_lines.proofs.words.first_words.Goals as goal

-- where there is an error, this holds
on_err : {T E P : Type 0} (r : Result T E) → is_err r ≡ true → OnErr r P → P
on_err (Ok x) e p = cc
on_err (Err x) e p = p

-- where there is none, this does
on_ok : {T E P : Type 0} (r : Result T E) → is_err r ≡ false → OnOk r P → P
on_ok (Ok x) e p = p
on_ok (Err x) e p = cc

is_ok : {T E : Type 0} (r : Result T E) → is_err r ≡ false → IsOk r
is_ok (Ok x) e = search rules
is_ok (Err x) e = cc

-- the texts that are referred to
abbrev texts : List (Bor (List ℕ)) → List (List ℕ)
texts = map (λ word. word.now)

pub loop-rest-preserved : goal.loop-rest-preserved
loop-rest-preserved c = elim c.else-not-is_empty.branch [
  | else-not-is_empty-via-then-not-is_empty+else-is_err w ↦
      let pushed = ap (λ first. first.items) w.first-is ∙ on_ok _ (sym w.if-is_err.ensures.value) w.try_push.ensures.ok in
      record {
        text = search rules;
        room =
            omega (
              arith,
              ap length (ap (λ first. first.items) w.first-is),
              on_ok _ (sym w.if-is_err.ensures.value) w.try_push.ensures.len,
              w.try_push.ensures.variant.0 (is_ok _ (sym w.if-is_err.ensures.value)),
            );
        taken =
            ap (λ items. texts items ++ words c.cut.result.1.now) pushed
            ∙ (ap (λ taken. taken ++ words c.cut.result.1.now) (map-append (λ word. word.now) c.loop-rest.first.items _)
            ∙ taken_with (texts c.loop-rest.first.items) _ c.loop-rest.rest.now c.cut.result.0.now c.cut.result.1.now
            c.loop-rest.invariant.taken c.cut.ensures.before c.cut.ensures.behind (grind (arith, tests, w.if-not-is_empty.ensures)));
      }
  | else-not-is_empty-via-else-not-is_empty w ↦
      let kept = ap (λ first. first.items) w.first-is in
      record {
        text = search rules;
        room = omega (arith, ap length kept, c.loop-rest.invariant.room);
        taken =
            ap (λ items. texts items ++ words c.cut.result.1.now) kept
            ∙ taken_without (texts c.loop-rest.first.items) _ c.loop-rest.rest.now c.cut.result.0.now c.cut.result.1.now
            c.loop-rest.invariant.taken c.cut.ensures.before c.cut.ensures.behind (grind (arith, tests, w.if-not-is_empty.ensures));
      }
]

pub returns-then-is_err : goal.returns-then-is_err
returns-then-is_err c =
    let kept : c.try_push.new.self ≡ c.loop-rest.first = on_err _ (sym c.if-is_err.ensures.value) c.try_push.ensures.err in
    let full : length c.loop-rest.first.items ≡ MOST_WORDS = on_err _ (sym c.if-is_err.ensures.value) c.try_push.ensures.full in
    let count : length (texts c.loop-rest.first.items) ≡ MOST_WORDS = length-map c.loop-rest.first.items (λ word. word.now) ∙ full in
    rw kept
    (sym (take_all MOST_WORDS (texts c.loop-rest.first.items) (omega (arith, count)))
    ∙ (sym (take-append-le MOST_WORDS (texts c.loop-rest.first.items) (words c.loop-rest.rest.now) (omega (arith, count)))
    ∙ ap (take MOST_WORDS) c.loop-rest.invariant.taken))
