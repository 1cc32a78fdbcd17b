use Rattle.std.proofs.Common.{◌≡◌, map, take, drop}
use Rattle.protocol_model.specs.Round.{asked_too}
use Rattle.locker.specs.RoundState.{as_mark}
use Rattle.locker.proofs.round.ask_the_rest.Given as goal

abbrev pub invariant-loop-mark : goal.invariant-loop-mark
invariant-loop-mark l = record {
  done : map as_mark (take l.mark-index l.marks) ≡ map (λ m. asked_too (as_mark m)) (take l.mark-index l.initial.marks);
  left : drop l.mark-index l.marks ≡ drop l.mark-index l.initial.marks;
}
