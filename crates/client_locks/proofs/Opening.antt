-- The invariant stands when the world opens.
use Rattle.std.proofs.Common.{refl}
use Rattle.protocol_model.specs.World.{Opening, opening_world}
use Rattle.client_locks.proofs.Clients.{Numbers, Clients}

-- nobody holds a lock
abbrev pub no_numbers : Numbers
no_numbers p id x = 0

pub clients_opens : (o : Opening) → Clients o (opening_world o) no_numbers
clients_opens o = record {
  tables = λ c. tt;
  named = λ f n. refl;
  rounds = λ p c e. cc;
  callers = λ p h up. refl;
  strangers = λ p id x h. refl;
  sessions = λ p x h up. record { fit = refl; sum = λ id. refl };
}
