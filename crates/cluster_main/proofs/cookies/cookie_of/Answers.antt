use Rattle.cluster_main.proofs.CookieText.{no_text}
use Rattle.cluster_main.proofs.cookies.cookie_of.Goals as goal

pub returns-in-Err : goal.returns-in-Err
returns-in-Err c = no_text c.args.bytes.now c.in-Err.ensures.cases.0
