use Rattle.std.proofs.Common.{◌≡◌, drop}
use Rattle.protocol_model.specs.Links.{is_nil}
use Rattle.cluster_world.specs.Links.{letters_to}
use Rattle.cluster_world.proofs.mail.Outbox.has_for.Given as goal

-- none of the letters before goes to it
abbrev pub invariant-loop-to : goal.invariant-loop-to
invariant-loop-to l = is_nil (letters_to l.receiver l.to-items)
    ≡ is_nil (letters_to l.receiver (drop l.to-index l.to-items))
