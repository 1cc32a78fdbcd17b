use Rattle.std.proofs.Common.{◌≡◌, Some, codes, rules}
use Rattle.clap.specs.Words.{found_of, rows_of, subcommand_rows_of}
use Rattle.arguments.specs.CommandLine.{Entered}
use Rattle.arguments.specs.Reading.{AsksIn, RefusesIn}
use Rattle.arguments.proofs.Counted.{handed_on}
use Rattle.arguments.proofs.Looked.{refused_options}
use Rattle.arguments.proofs.reading.read_matches.Goals as goal

pub returns-in_err-read_options-in-Some-serve-default :
    goal.returns-in_err-read_options-in-Some-serve-default
returns-in_err-read_options-in-Some-serve-default c =
    let rows = rows_of (found_of c.in-Some-serve-default.options.now) in
    let entered : Entered = subcommand_rows_of c.args.matches.now in
    let same : entered ≡ Some (codes "serve", rows) = search rules in
    let fault = c.in_err-read_options-in-Some-serve-default.field-0.0 in
    handed_on (AsksIn entered) (RefusesIn entered) c.from_residual.result fault c.from_residual.ensures.1
    (refused_options entered rows fault same c.in_err-read_options-in-Some-serve-default.ensures)
