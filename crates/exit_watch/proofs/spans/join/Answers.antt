use Rattle.std.proofs.lemmas.Result.{err_from_is_err_and}
use Rattle.exit_watch.proofs.Joining.{next_alive, put, removed}
use Rattle.exit_watch.proofs.spans.join.Goals as goal

pub returns-in_err-insert-clause-refused : goal.returns-in_err-insert-clause-refused
returns-in_err-insert-clause-refused c =
    rw (err_from_is_err_and c.from_residual.result c.from_residual.ensures.1).1
    (next_alive c.args.spans.now.entries c.args.serial c.requires.apart c.requires.absent
    c.before-below.result c.behind-above.result c.before-below.ensures.some c.before-below.ensures.none
    c.behind-above.ensures.some c.behind-above.ensures.none c.unwrap_or-first.result c.unwrap_or-last.result
    c.unwrap_or-first.ensures c.unwrap_or-last.ensures
    c.in_err-insert.ensures.absent)

pub returns-in-Some-clause-apart : goal.returns-in-Some-clause-apart
returns-in-Some-clause-apart c =
    (removed c.args.spans.now.entries c.args.serial c.requires.apart c.requires.absent
    c.before-below.result c.behind-above.result c.before-below.ensures.some c.before-below.ensures.none
    c.behind-above.ensures.some c.behind-above.ensures.none c.unwrap_or-first.result c.unwrap_or-last.result
    c.unwrap_or-first.ensures c.unwrap_or-last.ensures
    c.insert.new.self.entries c.in_ok-insert.ensures.updates.0 c.in-Some.span.last c.in-Some.ensures.some.1
    c.remove.new.self.entries c.remove.ensures.updates.0).0

pub returns-in-Some-clause-gains : goal.returns-in-Some-clause-gains
returns-in-Some-clause-gains c =
    (removed c.args.spans.now.entries c.args.serial c.requires.apart c.requires.absent
    c.before-below.result c.behind-above.result c.before-below.ensures.some c.before-below.ensures.none
    c.behind-above.ensures.some c.behind-above.ensures.none c.unwrap_or-first.result c.unwrap_or-last.result
    c.unwrap_or-first.ensures c.unwrap_or-last.ensures
    c.insert.new.self.entries c.in_ok-insert.ensures.updates.0 c.in-Some.span.last c.in-Some.ensures.some.1
    c.remove.new.self.entries c.remove.ensures.updates.0).1

pub returns-in_default-clause-apart : goal.returns-in_default-clause-apart
returns-in_default-clause-apart c =
    (put c.args.spans.now.entries c.args.serial c.requires.apart c.requires.absent
    c.before-below.result c.behind-above.result c.before-below.ensures.some c.before-below.ensures.none
    c.behind-above.ensures.some c.behind-above.ensures.none c.unwrap_or-first.result c.unwrap_or-last.result
    c.unwrap_or-first.ensures c.unwrap_or-last.ensures
    c.insert.new.self.entries c.in_ok-insert.ensures.updates.0 c.in_default.ensures.none).0

pub returns-in_default-clause-gains : goal.returns-in_default-clause-gains
returns-in_default-clause-gains c =
    (put c.args.spans.now.entries c.args.serial c.requires.apart c.requires.absent
    c.before-below.result c.behind-above.result c.before-below.ensures.some c.before-below.ensures.none
    c.behind-above.ensures.some c.behind-above.ensures.none c.unwrap_or-first.result c.unwrap_or-last.result
    c.unwrap_or-first.ensures c.unwrap_or-last.ensures
    c.insert.new.self.entries c.in_ok-insert.ensures.updates.0 c.in_default.ensures.none).1
