use Rattle.std.proofs.Common.{ℕ, ◌≡◌, ◌++◌, take}
use Rattle.registry_model.specs.Registry.{process_of}
use Rattle.registry_model.specs.Settlement.{notices_to}
use Rattle.exchange.specs.Lists.{list_under}
use Rattle.exchange.proofs.lists.NoticeLists.add.Given as goal

abbrev pub invariant-loop-noted : goal.invariant-loop-noted
invariant-loop-noted l = (serial : ℕ) → list_under serial l.self
    ≡ list_under serial l.initial.self ++ notices_to (process_of l.node serial) (take l.noted-index l.notices)
