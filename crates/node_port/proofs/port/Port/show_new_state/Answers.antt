use Rattle.std.proofs.lemmas.Result.{on_ok_weaker}
use Rattle.node_port.proofs.Showing.{shows_stood}
use Rattle.node_port.proofs.port.Port.show_new_state.Goals as goal

pub returns-then-self-is_joined-clause-still : goal.returns-then-self-is_joined-clause-still
returns-then-self-is_joined-clause-still c =
    on_ok_weaker c.show_state.result (λ e. shows_stood c.args.self.now c.show_state.new.self c.show_state.ensures.stand e)
    c.show_state.ensures.shown
