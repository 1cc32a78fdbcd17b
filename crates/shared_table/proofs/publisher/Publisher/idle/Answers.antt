use Rattle.shared_table.proofs.Keeping.{admits, forks, merges}
use Rattle.shared_table.proofs.publisher.Publisher.idle.Goals as goal

pub reader-requires : goal.reader-requires
reader-requires c = admits

pub tell-note-requires : goal.tell-note-requires
tell-note-requires c = forks _ _

pub learn-requires-clause-rule : goal.learn-requires-clause-rule
learn-requires-clause-rule c = merges _ _ _ _
