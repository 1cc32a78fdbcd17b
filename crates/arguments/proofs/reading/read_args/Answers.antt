use Rattle.std.proofs.Common.{◌≡◌, ◌∙◌, ap, sym, map, string_bytes, [], subst}
use Rattle.clap.specs.Words.{App, HasKind, fault_of, is_simple, is_simple_and_free, subcommand_of, subcommand_rows_of}
use Rattle.arguments.specs.CommandLine.{program, refusals}
use Rattle.arguments.specs.Reading.{Asks, IsLooked, Refuses}
use Rattle.arguments.specs.declared.faults.ArgFault.TheVariants.{Words}
use Rattle.arguments.proofs.Words.{is_free, is_plain}
use Rattle.arguments.proofs.Counted.{handed_on}
use Rattle.arguments.proofs.Looked.{asked_by, looked}
use Rattle.arguments.proofs.reading.read_args.Goals as goal

pub read_matches-requires : goal.read_matches-requires
read_matches-requires c =
    let words = map string_bytes c.args.words.now in
    let e = c.in_ok-command.ensures in
    let none : refusals words ≡ [] = subst (λ (a : App). fault_of a words ≡ []) e (c.in_ok-matches.ensures.kinds (ap is_simple_and_free e ∙ is_free)) in
    let is : subcommand_rows_of c.in_ok-matches.matches ≡ subcommand_of program words =
    (c.in_ok-matches.ensures.matches (ap is_simple e ∙ is_plain)).1 ∙ ap (λ (a : App). subcommand_of a words) e in
    subst IsLooked (sym is) (looked words none)

pub returns-in_err-matches-clause-mode : goal.returns-in_err-matches-clause-mode
returns-in_err-matches-clause-mode c =
    let words = map string_bytes c.args.words.now in
    let e = c.in_ok-command.ensures in
    let error = c.in_err-matches.field-0.0 in
    handed_on (Asks words) (Refuses words) c.from_residual-in_err-matches.result (Words error) c.from_residual-in_err-matches.ensures.1
    (subst (λ (a : App). HasKind (fault_of a words) error) e (c.in_err-matches.ensures.kinds (ap is_simple_and_free e ∙ is_free)))

pub returns-clause-mode : goal.returns-clause-mode
returns-clause-mode c =
    let words = map string_bytes c.args.words.now in
    let e = c.in_ok-command.ensures in
    let none : refusals words ≡ [] = subst (λ (a : App). fault_of a words ≡ []) e (c.in_ok-matches.ensures.kinds (ap is_simple_and_free e ∙ is_free)) in
    let is : subcommand_rows_of c.in_ok-matches.matches ≡ subcommand_of program words =
    (c.in_ok-matches.ensures.matches (ap is_simple e ∙ is_plain)).1 ∙ ap (λ (a : App). subcommand_of a words) e in
    asked_by words (subcommand_rows_of c.in_ok-matches.matches) c.read_matches.result is none c.read_matches.ensures
