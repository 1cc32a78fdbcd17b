use Rattle.std.proofs.Common.{◌≡◌, ◌∙◌, sym, true}
use Rattle.command_lines.specs.Commands.{is_ascii}
use Rattle.command_lines.proofs.Texts.{is_ascii-utf8}
use Rattle.command_lines.proofs.commands.ascii_text.Goals as goal

pub returns-in-Err : goal.returns-in-Err
returns-in-Err c =
    let a : is_ascii c.args.bytes.now ≡ true = sym c.all_ascii.ensures ∙ c.if-not-all_ascii.false in
    absurd (c.in-Err.ensures.cases.0 (is_ascii-utf8 c.args.bytes.now a))
