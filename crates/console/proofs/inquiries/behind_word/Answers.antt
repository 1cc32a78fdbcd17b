use Rattle.console.proofs.Behind.{cut_behind}
use Rattle.console.proofs.inquiries.behind_word.Goals as goal

pub range_from-requires : goal.range_from-requires
range_from-requires c = λ _.
    cut_behind c.args.line.now c.as_bytes-bytes.result.now c.spaces_before-start.result c.in-Some.place c.first_space.result c.utf8.line
    c.as_bytes-bytes.ensures.value c.spaces_before-start.ensures.within c.first_space.ensures c.in-Some.is
