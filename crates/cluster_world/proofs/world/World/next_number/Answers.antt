use Rattle.std.proofs.Common.{ℕ, ◌≡◌, ◌∙◌, ◌+◌, true, false, Option, ap, sym}
use Rattle.std.specs.Prelude.{is_some}
use Rattle.std.specs.Option.{option_copied}
use Rattle.cluster_world.proofs.Seats.{next_of}
use Rattle.cluster_world.proofs.world.World.next_number.Goals.{in-Some, in-None}
use Rattle.cluster_world.proofs.world.World.next_number.Goals as goal

pub returns : goal.returns
returns g c = λ here. elim c.match-core.branch [
  | in-Some w ↦ ap (λ (n : ℕ). n + 1) (c.from.ensures ∙ w.last-is ∙ w.last_call-last.ensures)
      ∙ next_of c.args.node.now c.args.self.now w.in-Some.core.now
      (ap (λ (o : Option _). option_copied o) (sym w.in-Some.is) ∙ c.core.ensures.core)
  | in-None w ↦
      let no : false ≡ true = ap (λ (o : Option _). is_some o) (sym w.in-None.is) ∙ c.core.ensures.here ∙ here in
      absurd (cc no)
]
