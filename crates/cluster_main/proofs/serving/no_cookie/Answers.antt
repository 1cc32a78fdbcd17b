use Rattle.std.proofs.Common.{codes, string_bytes}
use Rattle.cluster_main.specs.Cookies.{cookie_words}
use Rattle.cluster_main.proofs.Refused.{value_refused}
use Rattle.cluster_main.proofs.serving.no_cookie.Goals as goal

pub returns-clause-why : goal.returns-clause-why
returns-clause-why g c =
    value_refused (codes "--cookie-file") c.args.file.now (cookie_words c.args.fault) string_bytes c.words-words.result
    (g.E.Write.contents c.args.errors.now) (g.E.Write.contents c.refuse_value.new.errors) c.words-words.ensures c.refuse_value.ensures
