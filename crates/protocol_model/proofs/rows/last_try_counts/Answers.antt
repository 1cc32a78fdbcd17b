use Rattle.std.specs.Prelude.{refl}
use Rattle.protocol_model.proofs.rows.last_try_counts.Goals as goal

pub returns-clause-refused_before : goal.returns-clause-refused_before
returns-clause-refused_before start = refl

pub returns-clause-joined_since : goal.returns-clause-joined_since
returns-clause-joined_since start = refl

pub returns-clause-joined_too_late : goal.returns-clause-joined_too_late
returns-clause-joined_too_late start = refl
