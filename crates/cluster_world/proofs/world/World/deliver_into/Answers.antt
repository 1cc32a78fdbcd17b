use Rattle.std.proofs.Common.{◌≤◌, ◌∙◌, ◌++◌, List, get_or, length, ap, sym, subst, arith}
use Rattle.std.proofs.lemmas.Result.{err_from_is_err_and}
use Rattle.term.specs.Nodes.{name_of}
use Rattle.link.specs.MeshState.{place}
use Rattle.node_core.specs.declared.Answer.{Answer}
use Rattle.node_core.specs.CoreState.{CoreState}
use Rattle.node_core.specs.Rare.{most_answers}
use Rattle.world_events.specs.declared.events.WorldEvent.TheVariants.{Deliver}
use Rattle.cluster_world.specs.WorldState.{WorldState, nodes_of}
use Rattle.cluster_world.specs.Playing.{Played}
use Rattle.cluster_world.specs.Whole.{IsWhole}
use Rattle.cluster_world.proofs.Running.{played_behind, appended, fits_behind}
use Rattle.cluster_world.proofs.Settling.{has_core, has_next, delivery_lowers}
use Rattle.cluster_world.proofs.world.World.deliver_into.Goals as goal

pub index-requires : goal.index-requires
index-requires g c =
    let l = has_core _ c.self.invariant c.in-Some.delivery.receiver c.in-Some.delivery.link.receiver
    (ap (λ (k : WorldState). place c.in-Some.delivery.receiver (nodes_of k)) c.self.view_is ∙ c.in-Some.ensures.ready.link.receiver) in
    omega (arith, l, c.self.inside.cores.ok.0)

pub returns-in_err-reserve-clause-waits : goal.returns-in_err-reserve-clause-waits
returns-in_err-reserve-clause-waits g c =
    let p = err_from_is_err_and c.from_residual.result c.from_residual.ensures.1 in
    rw p.1 (has_next c.in-Some.delivery c.args.self.now c.in-Some.ensures)

pub returns-in_err-given-clause-waits : goal.returns-in_err-given-clause-waits
returns-in_err-given-clause-waits g c =
    let p = err_from_is_err_and c.from_residual-in_err-given.result c.from_residual-in_err-given.ensures.1 in
    rw p.1 (has_next c.in-Some.delivery c.args.self.now c.in-Some.ensures)

pub returns-clause-delivered : goal.returns-clause-delivered
returns-clause-delivered g c = record {
  sender = name_of c.in-Some.delivery.sender;
  receiver = name_of c.in-Some.delivery.receiver;
  next = c.in-Some.ensures.next;
  played = played;
  less = delivery_lowers (name_of c.in-Some.delivery.sender) (name_of c.in-Some.delivery.receiver) c.args.self.now c.read.new.self
      c.args.answers.now.items c.append.new.self.items (subst IsWhole c.self.view_is c.self.invariant) played;
}
  where
    few : length c.in_ok-given.given.items ≤ most_answers c.index.result.now
    few = subst (λ (k : CoreState). length c.in_ok-given.given.items ≤ most_answers k)
        (ap (λ (k : WorldState). get_or k.cores c.in-Some.delivery.link.receiver c.index.result.now) (sym c.self.view_is)
        ∙ sym c.index.ensures)
        (c.in_ok-given.ensures.few c.index.result.now)

    played : Played (Deliver (name_of c.in-Some.delivery.sender) (name_of c.in-Some.delivery.receiver)) c.args.self.now c.read.new.self
        c.args.answers.now.items c.append.new.self.items
    played = subst (Played (Deliver (name_of c.in-Some.delivery.sender) (name_of c.in-Some.delivery.receiver)) c.args.self.now c.read.new.self
        c.args.answers.now.items)
        (ap (λ (l : List Answer). l ++ c.in_ok-given.given.items) (sym c.reserve.ensures.items)
        ∙ sym (appended c.append.result c.reserve.new.self.items c.in_ok-given.given.items (c.append.ensures.succeeds
        (fits_behind c.reserve.new.self.len c.reserve.new.self.cap c.most_answers.result c.in_ok-given.given.len
        c.in_ok-given.given.cap (most_answers c.index.result.now) (length c.in_ok-given.given.items)
        c.in_ok-given.given.ok.0 c.in_ok-given.given.ok.1 c.in_ok-given.given.small few c.most_answers.ensures
        c.in_ok-reserve.ensures.ok)))
        ∙ sym c.append.ensures.items)
        (played_behind (Deliver (name_of c.in-Some.delivery.sender) (name_of c.in-Some.delivery.receiver)) c.args.self.now c.read.new.self
        c.args.answers.now.items c.in_ok-given.given.items c.in_ok-given.ensures.ok)
