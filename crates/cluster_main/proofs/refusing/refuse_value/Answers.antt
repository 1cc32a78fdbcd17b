use Rattle.std.proofs.Common.{ℕ, ◌≡◌, List, rules, string_bytes, subst}
use Rattle.text_lines.specs.Writing.{AppendsPart}
use Rattle.text_lines.proofs.Written.{Writes-partly}
use Rattle.cluster_main.specs.Refusing.{refusal}
use Rattle.cluster_main.proofs.Refused.{value_untold}
use Rattle.cluster_main.proofs.refusing.refuse_value.Goals as goal

pub returns-in-Ok-format : goal.returns-in-Ok-format
returns-in-Ok-format g c =
    let a = g.E.Write.contents c.args.errors.now in
    let b = g.E.Write.contents c.write_text.new.writer in
    let line : c.as_bytes.result.now ≡ refusal c.args.option.now c.args.value.now (string_bytes c.in-Ok.words) = search rules in
    let told = subst (λ (t : List ℕ). AppendsPart a b t) line (Writes-partly a b c.write_text.result c.as_bytes.result.now c.write_text.ensures) in
    rw c.in-Ok.is told

pub returns : goal.returns
returns g c = value_untold c.args.option.now c.args.value.now string_bytes c.args.words (g.E.Write.contents c.args.errors.now)
