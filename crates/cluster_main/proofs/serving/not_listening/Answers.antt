use Rattle.std.proofs.Common.{codes, string_bytes, ◌≡◌, List, ℕ, subst}
use Rattle.std.specs.Prelude.{MatchResult}
use Rattle.cluster_main.specs.Listening.{listen_words}
use Rattle.cluster_main.specs.Refusing.{RefusesValue}
use Rattle.cluster_main.proofs.Refused.{value_refused}
use Rattle.cluster_main.proofs.serving.not_listening.Goals as goal

pub returns-clause-why : goal.returns-clause-why
returns-clause-why g c =
    let a = g.E.Write.contents c.args.errors.now in
    let b = g.E.Write.contents c.refuse_value.new.errors in
    let told = value_refused (codes "--listen") c.as_str.result.now (listen_words c.args.fault) string_bytes c.words-words.result
    a b c.words-words.ensures c.refuse_value.ensures in
    (c.requires, subst (λ (t : List ℕ). RefusesValue (codes "--listen") t (listen_words c.args.fault) a b) c.as_str.ensures.value told)
