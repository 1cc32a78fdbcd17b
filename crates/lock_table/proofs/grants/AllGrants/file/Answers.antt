use Rattle.std.proofs.Common.{false, ◌==◌, ◌≡◌, ◌<◌, ◌∙◌, ap}
use Rattle.std.specs.Prelude.{◌&&◌, not}
use Rattle.lock_table.specs.Filed.{Entry}
use Rattle.lock_table.proofs.Facts.{unlike}
use Rattle.lock_table.proofs.Beside.{All-others, gains_in_place, gains_others, none_gained}
use Rattle.lock_table.proofs.grants.AllGrants.file.Goals as goal
use Rattle.lock_table.proofs.grants.AllGrants.file.Goals.{then-self, else-self}

pub returns-then-is_none-clause-ok : goal.returns-then-is_none-clause-ok
returns-then-is_none-clause-ok c =
    rw (← c.self.view_is)
    (gains_in_place c.self.inside.kept c.self.inside.others
    (c.args.key, record { requester = c.args.requester; count = 1; number = c.args.number })
    (c.is_none.ensures ∙ ap not c.if-is_none.true))

pub file-requires-clause-free : goal.file-requires-clause-free
file-requires-clause-free c =
    All-others c.self.inside.kept c.self.inside.others
    (λ (e : Entry). ((e.0.resource == c.args.key.resource) && not (e.1.requester == c.args.requester)) ≡ false)
    (rw (← c.self.view_is) at c.requires.free)

pub file-requires-clause-last : goal.file-requires-clause-last
file-requires-clause-last c =
    All-others c.self.inside.kept c.self.inside.others (λ (e : Entry). e.1.number < c.args.number)
    (rw (← c.self.view_is) at c.requires.last)

pub invariant_of-self-2 : goal.invariant_of-self-2
invariant_of-self-2 c = λ apart. elim c.if-self.branch [
  | then-self w ↦
      none_gained c.self.inside.global c.args.key
      (record { requester = c.args.requester; count = 1; number = c.args.number }) c.self.inside.others c.file.new.self
      c.in_ok-file.ensures.ok (unlike _ _ _ (w.self-is ∙ ap not c.eq-is_global.ensures) apart) (c.self.invariant w.if-self.true)
  | else-self w ↦ absurd (cc (w.self-is, apart))
]

pub returns-clause-ok : goal.returns-clause-ok
returns-clause-ok c =
    rw (← c.self.view_is)
    (gains_others c.self.inside.kept c.self.inside.others
    (c.args.key, record { requester = c.args.requester; count = 1; number = c.args.number }) c.file.new.self
    c.in_ok-file.ensures.ok)
