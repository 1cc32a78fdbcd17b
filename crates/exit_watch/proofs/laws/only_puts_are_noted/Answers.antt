use Rattle.std.specs.Prelude.{not}
use Rattle.exit_watch.specs.WatchState.{process_of}
use Rattle.exit_watch.proofs.Owners.{owns-changed, owns-filter}
use Rattle.exit_watch.proofs.laws.only_puts_are_noted.Goals as goal

pub returns-clause-changed : goal.returns-clause-changed
returns-clause-changed c h t change no_put sus s dead o = sus s dead (owns-changed (process_of h s) change t no_put o)

pub returns-clause-without : goal.returns-clause-without
returns-clause-without c h t gone sus s dead o =
    sus s dead (owns-filter (process_of h s) (λ pair. not (gone pair.owner.node)) t o)
