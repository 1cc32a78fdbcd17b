use Rattle.std.proofs.Common.{ℕ, ◌≡◌, ◌<◌, List, length, map, ◌∙◌, sym, ap, subst, arith}
use Rattle.node_loop.specs.declared.item.Item.{Item}
use Rattle.node_loop.specs.Held.{Looping}
use Rattle.node_loop.specs.Coming.{IsLoopOf}
use Rattle.node_loop.specs.NodeCoreState.{CoreState}
use Rattle.node_loop.specs.Sound.{BeginsSound}
use Rattle.node_seats.specs.declared.Moment.{Moment}
use Rattle.node_seats.specs.Moments.{shown_at}
use Rattle.node_seats.specs.Books.{Known}
use Rattle.node_seats.specs.Addresses.{Reached}
use Rattle.node_seats.specs.Hosts.{Hosting}
use Rattle.node_threads.specs.Wires.{unused}
use Rattle.node_threads.proofs.Coming.{comes_first}
use Rattle.node_threads.proofs.Starting.{opens_so, publishes_first}
use Rattle.node_threads.proofs.berth.Berth.open.Goals as goal

pub publish-requires-clause-came : goal.publish-requires-clause-came
publish-requires-clause-came g c =
    let at : c.in_ok-own.own.log.node ≡ c.args.node.now = ap (λ (l : Looping). l.log.node) c.in_ok-own.ensures.new ∙ c.open.ensures.name in
    subst (λ (n : ℕ). IsLoopOf n c.in_ok-own.own) (sym at)
    (comes_first c.args.opening.now.nodes c.args.opening.now.cluster c.args.node.now c.args.shared.now.stamp c.open.result c.in_ok-own.own
    c.in_ok-own.ensures.new c.open.ensures.opens)

pub publish-requires-clause-opens : goal.publish-requires-clause-opens
publish-requires-clause-opens g c =
    opens_so c.args.opening.now.nodes c.args.opening.now.cluster c.in_ok-own.own c.args.node.now c.args.shared.now.stamp c.open.result
    c.in_ok-own.ensures.new c.open.ensures.opens

pub open_node-requires-clause-known : goal.open_node-requires-clause-known
open_node-requires-clause-known g c = subst (λ (ms : List Moment). 0 < length ms)
    (sym (ap (λ (k : Known). k.log) c.in_ok-publisher.ensures.readers ∙ c.in_ok-publisher.ensures.log)) (omega arith)

pub open_node-requires-clause-own : goal.open_node-requires-clause-own
open_node-requires-clause-own g c =
    ap (λ (ms : List Moment). (shown_at ms).node) (ap (λ (k : Known). k.log) c.in_ok-publisher.ensures.readers ∙ c.in_ok-publisher.ensures.log)
    ∙ (ap (λ (l : Looping). l.log.node) c.in_ok-own.ensures.new ∙ c.open.ensures.name) ∙ sym c.copy.ensures

pub invariant_of-result : goal.invariant_of-result
invariant_of-result g c =
    let at : c.in_ok-own.own.log.node ≡ c.args.node.now =
    ap (λ (l : Looping). l.log.node) c.in_ok-own.ensures.new ∙ c.open.ensures.name in
    let named =
    ap (λ (a : Reached Item). a.node) c.in_ok-address.ensures.address ∙ c.copy.ensures in (
      record {
        node = at ∙ sym named;
        room = sym (ap (λ (a : Reached Item). a.room) c.in_ok-address.ensures.address);
        came = subst (λ (n : ℕ). IsLoopOf n c.in_ok-own.own) (sym at)
            (comes_first c.args.opening.now.nodes c.args.opening.now.cluster c.args.node.now c.args.shared.now.stamp c.open.result c.in_ok-own.own
            c.in_ok-own.ensures.new c.open.ensures.opens);
        sound = subst (λ (h : CoreState). BeginsSound h c.in_ok-own.own) (sym (ap (λ (l : Looping). l.core) c.in_ok-own.ensures.new))
            c.in_ok-own.ensures.sound;
        empty = c.in_ok-address.ensures.empty;
        fresh = ap (map unused) c.new-2.ensures.items ∙ sym c.new-2.ensures.items;
      },
      c.in_ok-address.ensures.inbox,
      publishes_first c.in_ok-own.own c.in_ok-publisher.publisher.publisher c.args.shared.now.stamp c.open.result c.in_ok-own.ensures.new
          c.in_ok-publisher.ensures.log,
      sym (ap (λ (a : Reached Item). a.book) c.in_ok-address.ensures.address ∙ ap (λ (k : Known). k.book) c.in_ok-publisher.ensures.readers),
      sym (ap (λ (h : Hosting). h.book) c.in_ok-address.ensures.host ∙ ap (λ (k : Known). k.book) c.in_ok-publisher.ensures.readers),
    )
