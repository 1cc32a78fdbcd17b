use Rattle.std.proofs.Common.{Bool, List, [], ◌∷◌, ◌++◌, ap, subst, sym, ◌∙◌}
use Rattle.std.specs.Prelude.{if◌then◌else◌, not}
use Rattle.std.proofs.lemmas.List.{map_push}
use Rattle.server.specs.declared.served.Start.{Start}
use Rattle.server.specs.declared.served.Left.{Left}
use Rattle.server.specs.Served.{AllLeave}
use Rattle.server.specs.Taking.{starts_of}
use Rattle.server.proofs.Joining.{all_leave_more}
use Rattle.server.proofs.taking.join_all.Goals as goal

pub loop-thread-preserved : goal.loop-thread-preserved
loop-thread-preserved g c = λ whole. subst (λ (x : List Start × List Left). AllLeave x.0 x.1)
    (λ j. (
      sym (map_push (λ t. t.promise.0.value) c.loop-thread.yielded c.in-Some.thread) j,
      sym (c.push.ensures.items
          ∙ ap (λ (b : Bool). if b then c.loop-thread.lefts.items ++ c.join-left.result ∷ [] else c.loop-thread.lefts.items)
          (c.is_err.ensures.negation ∙ ap not c.if-is_err.false)) j,
    ))
    (all_leave_more (starts_of c.loop-thread.yielded) c.loop-thread.lefts.items c.in-Some.thread.promise.0.value c.join-left.result
    (c.loop-thread.invariant whole) c.join-left.ensures)
