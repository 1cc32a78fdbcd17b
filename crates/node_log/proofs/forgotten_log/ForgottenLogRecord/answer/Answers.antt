use Rattle.std.proofs.Common.{◌≡◌, Option, ap, sym, ◌∙◌, map}
use Rattle.node_log.specs.declared.forgotten_log.LastStep.{LastStep}
use Rattle.node_log.specs.declared.forgotten_log.ForgottenLog.TheInside.{Inside}
use Rattle.node_log.specs.Entries.{Logged}
use Rattle.node_log.specs.Logs.{answered}
use Rattle.node_log.specs.Forgotten.{step_of, steps_of}
use Rattle.node_log.proofs.Answers.{answered_behind}
use Rattle.node_log.proofs.forgotten_log.ForgottenLogRecord.answer.Goals.{in-Some, in_default}
use Rattle.node_log.proofs.forgotten_log.ForgottenLogRecord.answer.Goals as goal

pub returns-clause-answered : goal.returns-clause-answered
returns-clause-answered c = elim c.match-self.branch [
  | in-Some w ↦ ap (λ (l : Inside). steps_of l.node l.before.items l.last) w.self-inside-is
      ∙ answered_behind c.args.answers.items (map (λ p. step_of c.self.inside.node p.0) c.self.inside.before.items) (step_of c.self.inside.node w.in-Some.last)
      ∙ was w.in-Some.is
  | in_default w ↦ ap (λ (l : Inside). steps_of l.node l.before.items l.last) w.self-inside-is
      ∙ ap (steps_of c.self.inside.node c.self.inside.before.items) w.in_default.is
      ∙ was w.in_default.is
]
  where
    -- what was answered is the last of the steps
    was : {last : Option LastStep} → c.self.inside.last ≡ last
        → answered c.args.answers.items (steps_of c.self.inside.node c.self.inside.before.items last) ≡ answered c.args.answers.items c.args.self.now.entries
    was is = ap (λ (l : Option LastStep). answered c.args.answers.items (steps_of c.self.inside.node c.self.inside.before.items l)) (sym is)
        ∙ ap (λ (l : Logged). answered c.args.answers.items l.entries) c.self.view_is
