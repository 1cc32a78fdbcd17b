use Rattle.std.proofs.Common.{◌∙◌, codes}
use Rattle.std.specs.Str.Parse.{ParsesUnsigned, ExplainsUnsignedError, HasUnsignedDigitsIfOk}
use Rattle.clap.specs.Words.{first_of, found_of, rows_of}
use Rattle.clap.proofs.WalkLemmas.{one_text-rows}
use Rattle.arguments.proofs.Counted.{counted}
use Rattle.arguments.proofs.reading.read_consoles.Goals as goal

pub returns : goal.returns
returns c =
    let f = found_of c.args.matches.now in
    let one = one_text-rows f (codes "consoles") in
    counted _ (λ bs r. ParsesUnsigned 16 10 bs r × ExplainsUnsignedError 10 bs r × HasUnsignedDigitsIfOk bs r)
    (first_of (codes "consoles") (rows_of f)) _ c.get_one.result c.unwrap_or.result (λ u x g. g.0)
    c.requires.consoles c.requires.digits (λ e. c.get_one.ensures.none (one ∙ e)) (λ t e. c.get_one.ensures.value t (one ∙ e))
    c.args.stay c.untold_consoles.result c.untold_consoles.ensures c.unwrap_or.ensures
