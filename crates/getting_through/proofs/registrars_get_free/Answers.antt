use Rattle.getting_through.proofs.Freeing.{registrars_get_free as law}
use Rattle.getting_through.proofs.registrars_get_free.Goals as goal

pub returns : goal.returns
returns c = law
