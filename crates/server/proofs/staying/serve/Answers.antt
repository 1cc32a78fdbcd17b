use Rattle.std.proofs.Common.{ℕ, List, subst}
use Rattle.std.specs.Io.KnownBytes.{Appends}
use Rattle.server.proofs.GivingOut.{tells_behind}
use Rattle.server.proofs.staying.serve.Goals as goal

pub returns-in-Ok : goal.returns-in-Ok
returns-in-Ok g c = tells_behind c.args.cluster c.args.listening.now _ _ _
    (subst (λ (t : List ℕ). Appends (g.W.Write.contents c.args.writer.now) (g.W.Write.contents c.tell.new.writer) t) c.as_bytes.ensures.value
    c.in-Ok.ensures)
    c.end.result c.end.ensures
