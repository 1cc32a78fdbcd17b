use Rattle.std.proofs.Common.{◌∙◌, codes}
use Rattle.std.specs.Str.Parse.{ParsesUnsigned, ExplainsUnsignedError, HasUnsignedDigitsIfOk}
use Rattle.clap.specs.Words.{first_of, found_of, rows_of}
use Rattle.clap.proofs.WalkLemmas.{one_text-rows}
use Rattle.arguments.proofs.Counted.{seconds_counted}
use Rattle.arguments.proofs.reading.read_idle.Goals as goal

pub returns : goal.returns
returns c =
    let f = found_of c.args.matches.now in
    let one = one_text-rows f (codes "idle") in
    seconds_counted _ (λ bs r. ParsesUnsigned 32 10 bs r × ExplainsUnsignedError 10 bs r × HasUnsignedDigitsIfOk bs r)
    (first_of (codes "idle") (rows_of f)) _ c.get_one.result (λ u x g. g.0)
    c.requires.idle c.requires.seconds (λ e. c.get_one.ensures.none (one ∙ e)) (λ t e. c.get_one.ensures.value t (one ∙ e))
