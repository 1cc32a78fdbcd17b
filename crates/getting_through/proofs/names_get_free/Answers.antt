use Rattle.getting_through.proofs.NamedFinishing.{names_get_free as law}
use Rattle.getting_through.proofs.names_get_free.Goals as goal

pub returns : goal.returns
returns c = law
