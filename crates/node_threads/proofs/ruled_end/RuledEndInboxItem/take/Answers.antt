use Rattle.std.proofs.Common.{Option, None, Result, ℕ, sym, ap, subst, ◌∙◌}
use Rattle.node_loop.specs.declared.item.Item.{Item}
use Rattle.node_loop.specs.declared.item.Stamped.{Stamped}
use Rattle.link.specs.declared.faults.LinkFault.{LinkFault}
use Rattle.node_threads.specs.declared.ruled_end.Traffic.{Traffic}
use Rattle.node_threads.specs.Traffics.{lasting, Gives, FindsNext}
use Rattle.node_threads.proofs.Taking.{takes_task, takes_none}
use Rattle.node_threads.proofs.ruled_end.RuledEndInboxItem.take.Goals.{in-Some-next_task, in-None}
use Rattle.node_threads.proofs.ruled_end.RuledEndInboxItem.take.Goals as goal

pub returns-clause-taking : goal.returns-clause-taking
returns-clause-taking g c =
    let none : FindsNext None c.args.self.now c.next_letter.new.self =
    subst (λ (r : Option (ℕ × Stamped)). FindsNext r c.args.self.now c.next_letter.new.self) c.in_default.is c.next_letter.ensures in
    elim c.match-next_task.branch [
      | in-Some-next_task w ↦ subst (λ (r : Result (Option (ℕ × Item)) LinkFault). Gives r c.args.self.now c.next_task.new.self) (sym w.result-is)
          (takes_task c.args.self.now c.next_letter.new.self w.in-Some-next_task.task c.next_task.new.self w.copy.result
          (w.copy.ensures ∙ ap (λ (x : Traffic). x.node) c.self.view_is) none w.in-Some-next_task.ensures)
      | in-None w ↦ subst (λ (r : Result (Option (ℕ × Item)) LinkFault). Gives r c.args.self.now c.next_task.new.self) (sym w.result-is) (
        ap lasting w.in-None.ensures.0 ∙ (takes_none c.args.self.now c.next_letter.new.self none w.in-None.ensures.1).0,
        (takes_none c.args.self.now c.next_letter.new.self none w.in-None.ensures.1).1,
      )
    ]
