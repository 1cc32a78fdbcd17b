use Rattle.std.proofs.Common.{refl, rules}
use Rattle.term.specs.LockIds.{global_text}
use Rattle.term.proofs.lock_laws.global_is_spelled_so.Goals as goal

pub returns : goal.returns
unfolding global_text
returns c = record { text = search rules; number = refl }
