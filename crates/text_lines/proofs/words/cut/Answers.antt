use Rattle.std.proofs.Common.{◌∙◌, sym, ap, position}
use Rattle.text_lines.specs.Words.{is_space}
use Rattle.text_lines.proofs.Cuts.{cut_before, cut_behind}
use Rattle.text_lines.proofs.words.cut.Goals as goal

pub range-requires-clause-end_boundary : goal.range-requires-clause-end_boundary
range-requires-clause-end_boundary c =
    cut_before c.args.text.now c.in-Some.place
    (ap (position is_space) (sym c.as_bytes.ensures.value) ∙ (sym c.first_space.ensures ∙ c.in-Some.is))

pub range_from-requires : goal.range_from-requires
range_from-requires c = λ _.
    cut_behind c.args.text.now c.in-Some.place c.utf8.text
    (ap (position is_space) (sym c.as_bytes.ensures.value) ∙ (sym c.first_space.ensures ∙ c.in-Some.is))
