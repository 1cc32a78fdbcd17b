use Rattle.std.proofs.Common.{ℕ, ◌≤◌, ◌<◌, ◌∙◌, ◌++◌, ◌^◌, ◌-◌, min, [], List, length, map, ap, sym, subst, refl}
use Rattle.std.proofs.lemmas.Result.{err_from_is_err_and}
use Rattle.term.specs.NodeSets.{set_of}
use Rattle.node_core.specs.declared.Answer.{Answer}
use Rattle.node_core.specs.declared.Event.{Event as NodeEvent}
use Rattle.node_core.specs.CoreState.{CoreState}
use Rattle.node_core.specs.NodeEventsSeen.{entry_by}
use Rattle.node_core.specs.Rare.{most_entries, most_answers}
use Rattle.node_core.specs.Steps.{Steps, refusal_of}
use Rattle.protocol_model.specs.Links.{Links, posted}
use Rattle.link.specs.MeshState.{place}
use Rattle.node_core.specs.declared.Letter.{Letter}
use Rattle.world_events.specs.declared.events.WorldEvent.TheVariants.{At}
use Rattle.world_history.specs.declared.entry.HistoryEntry.{HistoryEntry}
use Rattle.world_history.specs.Histories.{entries_of}
use Rattle.cluster_world.specs.WorldState.{WorldState}
use Rattle.cluster_world.specs.Histories.{number_at}
use Rattle.cluster_world.specs.Links.{letters_to}
use Rattle.cluster_world.specs.Playing.{Played}
use Rattle.cluster_world.specs.Seen.{named}
use Rattle.cluster_world.proofs.Listed.{known_place}
use Rattle.cluster_world.proofs.Rooms.{less_fits}
use Rattle.cluster_world.proofs.Steps.{within, rested, rested_whole, as_before, whole_before}
use Rattle.cluster_world.proofs.Taking.{answers_are, admitted, played, kept_by, same_core, few_answers, own_place, accepts_own, own_goes, own_whole, own_played, left_whole, left_played}
use Rattle.cluster_world.proofs.world.World.happen.Goals as goal
use Rattle.cluster_world.proofs.world.World.happen.Goals.{then-is_leave, else-is_leave}

pub accept-requires : goal.accept-requires
accept-requires g c =
    ap (λ (e : NodeEvent). refusal_of e c.index_mut-core.result.now) c.cause.ensures
    ∙ accepts_own _ c.self.invariant c.make_room.ensures.left c.args.place c.args.node.now c.args.event.now
    (admitted c.args.self.now _ c.self.view_is c.args.place (At c.args.node.now c.args.event.now) c.requires)
    c.index_mut-core.result.now c.index_mut-core.ensures.value

pub invariant_of-self-in_err-turn : goal.invariant_of-self-in_err-turn
invariant_of-self-in_err-turn g c =
    whole_before _ c.self.invariant c.args.node.now c.args.place c.index_mut-core.result.now
    (own_place _ c.self.invariant c.make_room.ensures.left c.args.place c.args.node.now c.args.event.now
    (admitted c.args.self.now _ c.self.view_is c.args.place (At c.args.node.now c.args.event.now) c.requires)
    c.index_mut-core.result.now c.index_mut-core.ensures.value)
    c.index_mut-core.ensures.value c.accept.new.self c.make_room.new.links c.make_room.new.history.entries c.accept.ensures.world
    c.in_err-turn.ensures.unchanged c.make_room.ensures.nodes c.make_room.ensures.links c.make_room.ensures.entries

pub returns-in_err-turn-clause-kept : goal.returns-in_err-turn-clause-kept
returns-in_err-turn-clause-kept g c =
    kept_by c.args.self.now _ c.self.view_is _ _ c.make_room.new.links c.make_room.new.history.entries refl
    c.make_room.ensures.nodes

pub returns-in_err-turn-clause-as_before : goal.returns-in_err-turn-clause-as_before
returns-in_err-turn-clause-as_before g c =
    let p = err_from_is_err_and c.from_residual-in_err-turn.result c.from_residual-in_err-turn.ensures.1 in
    rw p.1 (as_before _ c.self.invariant c.args.node.now c.args.place c.index_mut-core.result.now
    (own_place _ c.self.invariant c.make_room.ensures.left c.args.place c.args.node.now c.args.event.now
    (admitted c.args.self.now _ c.self.view_is c.args.place (At c.args.node.now c.args.event.now) c.requires)
    c.index_mut-core.result.now c.index_mut-core.ensures.value)
    c.index_mut-core.ensures.value c.accept.new.self c.make_room.new.links c.make_room.new.history.entries
    c.in_err-turn.ensures.unchanged c.make_room.ensures.nodes c.make_room.ensures.links c.make_room.ensures.entries
    ∙ ap named c.self.view_is)

pub take_in-answers-requires-clause-node : goal.take_in-answers-requires-clause-node
take_in-answers-requires-clause-node g c =
    ap (place c.args.node.now) c.make_room.ensures.nodes
    ∙ own_place _ c.self.invariant c.make_room.ensures.left
    c.args.place c.args.node.now c.args.event.now (admitted c.args.self.now _ c.self.view_is c.args.place
    (At c.args.node.now c.args.event.now) c.requires) c.index_mut-core.result.now c.index_mut-core.ensures.value

pub take_in-answers-requires-clause-within : goal.take_in-answers-requires-clause-within
take_in-answers-requires-clause-within g c =
    own_goes _ c.self.invariant c.make_room.ensures.left c.args.place c.args.node.now c.args.event.now
    (admitted c.args.self.now _ c.self.view_is c.args.place (At c.args.node.now c.args.event.now) c.requires)
    c.index_mut-core.result.now c.index_mut-core.ensures.value
    c.accept.new.self c.in_ok-turn.turn (subst (λ (e : NodeEvent). Steps e c.index_mut-core.result.now c.accept.new.self
    c.in_ok-turn.turn) c.cause.ensures c.in_ok-turn.ensures.ok) c.make_room.new.links.nodes c.make_room.ensures.nodes

pub take_in-answers-requires-clause-room : goal.take_in-answers-requires-clause-room
take_in-answers-requires-clause-room g c =
    less_fits _ (most_entries c.index_mut-core.result.now) _ c.in_ok-turn.ensures.few.entries
    (subst (λ (k : CoreState). min (2 ^ 64 - 1) (most_entries k) ≤ c.make_room.new.history.room)
    (same_core c.args.self.now _ c.self.view_is c.args.place c.index_mut-core.result.now c.index_mut-core.ensures.value
    (within _ c.self.invariant c.args.node.now c.args.place c.index_mut-core.result.now
    (own_place _ c.self.invariant c.make_room.ensures.left c.args.place c.args.node.now c.args.event.now
    (admitted c.args.self.now _ c.self.view_is c.args.place (At c.args.node.now c.args.event.now) c.requires)
    c.index_mut-core.result.now c.index_mut-core.ensures.value) c.index_mut-core.ensures.value)
    c.index.result.now c.index.ensures)
    c.in_ok-make_room.ensures.room)

pub close_out-requires : goal.close_out-requires
close_out-requires g c = record {
  present =
      ap (λ (ns : List ℕ). set_of ns c.args.node.now) (c.take_in-answers.ensures.nodes ∙ c.make_room.ensures.nodes)
      ∙ known_place c.self.inside.links.nodes c.args.node.now c.args.place
      (own_place _ c.self.invariant c.make_room.ensures.left c.args.place c.args.node.now c.args.event.now
      (admitted c.args.self.now _ c.self.view_is c.args.place (At c.args.node.now c.args.event.now) c.requires)
      c.index_mut-core.result.now c.index_mut-core.ensures.value);
}

pub invariant_of-self-then-is_leave : goal.invariant_of-self-then-is_leave
invariant_of-self-then-is_leave g c =
    left_whole _ c.self.invariant c.make_room.ensures.left c.args.place c.args.node.now c.args.event.now
    (admitted c.args.self.now _ c.self.view_is c.args.place (At c.args.node.now c.args.event.now) c.requires)
    c.index_mut-core.result.now c.index_mut-core.ensures.value
    c.accept.new.self c.in_ok-turn.turn (subst (λ (e : NodeEvent). Steps e c.index_mut-core.result.now c.accept.new.self
    c.in_ok-turn.turn) c.cause.ensures c.in_ok-turn.ensures.ok)
    c.take_in-answers.new.links (c.take_in-answers.ensures.nodes ∙ c.make_room.ensures.nodes)
    (c.take_in-answers.ensures.links ∙ ap (λ (w : Links Letter). posted c.args.node.now
    (λ t. letters_to t c.in_ok-turn.turn.letters) w) c.make_room.ensures.links)
    c.take_in-answers.new.history.entries c.join_of-own.result (c.take_in-answers.ensures.entries
    ∙ ap (λ (es : List HistoryEntry). entries_of es
    ++ map (entry_by (number_at c.deref.result.now c.args.node.now c.join_of-own.result)) c.in_ok-turn.turn.entries)
    c.make_room.ensures.entries
    ∙ ap (λ (cs : List CoreState). entries_of c.self.inside.history.entries
    ++ map (entry_by (number_at cs c.args.node.now c.join_of-own.result)) c.in_ok-turn.turn.entries)
    c.deref.ensures.value)
    (sym c.is_leave.ensures ∙ c.if-is_leave.true) c.close_out.new.self c.close_out.ensures.nodes c.close_out.ensures.links

pub invariant_of-self-else-is_leave : goal.invariant_of-self-else-is_leave
invariant_of-self-else-is_leave g c =
    own_whole _ c.self.invariant c.make_room.ensures.left c.args.place c.args.node.now c.args.event.now
    (admitted c.args.self.now _ c.self.view_is c.args.place (At c.args.node.now c.args.event.now) c.requires)
    c.index_mut-core.result.now c.index_mut-core.ensures.value
    c.accept.new.self c.in_ok-turn.turn (subst (λ (e : NodeEvent). Steps e c.index_mut-core.result.now c.accept.new.self
    c.in_ok-turn.turn) c.cause.ensures c.in_ok-turn.ensures.ok)
    c.take_in-answers.new.links (c.take_in-answers.ensures.nodes ∙ c.make_room.ensures.nodes)
    (c.take_in-answers.ensures.links ∙ ap (λ (w : Links Letter). posted c.args.node.now
    (λ t. letters_to t c.in_ok-turn.turn.letters) w) c.make_room.ensures.links)
    c.take_in-answers.new.history.entries c.join_of-own.result (c.take_in-answers.ensures.entries
    ∙ ap (λ (es : List HistoryEntry). entries_of es
    ++ map (entry_by (number_at c.deref.result.now c.args.node.now c.join_of-own.result)) c.in_ok-turn.turn.entries)
    c.make_room.ensures.entries
    ∙ ap (λ (cs : List CoreState). entries_of c.self.inside.history.entries
    ++ map (entry_by (number_at cs c.args.node.now c.join_of-own.result)) c.in_ok-turn.turn.entries)
    c.deref.ensures.value)
    (sym c.is_leave.ensures ∙ c.if-is_leave.false)

pub returns-clause-kept : goal.returns-clause-kept
returns-clause-kept g c = elim c.if-is_leave.branch [
  | then-is_leave w ↦ kept_by c.args.self.now _ c.self.view_is _ _ w.close_out.new.self c.take_in-answers.new.history.entries
      w.self-is
      (w.close_out.ensures.nodes ∙ (c.take_in-answers.ensures.nodes ∙ c.make_room.ensures.nodes))
  | else-is_leave w ↦ kept_by c.args.self.now _ c.self.view_is _ _ c.take_in-answers.new.links c.take_in-answers.new.history.entries
      w.self-is
      (c.take_in-answers.ensures.nodes ∙ c.make_room.ensures.nodes)
]

pub returns-clause-ok : goal.returns-clause-ok
returns-clause-ok g c = elim c.if-is_leave.branch [
  | then-is_leave w ↦ subst (λ (k : WorldState). Played (At c.args.node.now c.args.event.now) c.args.self.now k []
      c.take_in-answers.result.0.items) (sym w.self-is)
      (answers_are c.take_in-answers.ensures.answers
      (played c.args.self.now _ c.self.view_is (At c.args.node.now c.args.event.now) _ _
      (left_played _ c.self.invariant c.make_room.ensures.left c.args.place c.args.node.now c.args.event.now
      (admitted c.args.self.now _ c.self.view_is c.args.place (At c.args.node.now c.args.event.now) c.requires)
      c.index_mut-core.result.now c.index_mut-core.ensures.value
      c.accept.new.self c.in_ok-turn.turn (subst (λ (e : NodeEvent). Steps e c.index_mut-core.result.now c.accept.new.self
      c.in_ok-turn.turn) c.cause.ensures c.in_ok-turn.ensures.ok)
      c.take_in-answers.new.links (c.take_in-answers.ensures.nodes ∙ c.make_room.ensures.nodes)
      (c.take_in-answers.ensures.links ∙ ap (λ (w : Links Letter). posted c.args.node.now
      (λ t. letters_to t c.in_ok-turn.turn.letters) w) c.make_room.ensures.links)
      c.take_in-answers.new.history.entries c.join_of-own.result (c.take_in-answers.ensures.entries
      ∙ ap (λ (es : List HistoryEntry). entries_of es
      ++ map (entry_by (number_at c.deref.result.now c.args.node.now c.join_of-own.result)) c.in_ok-turn.turn.entries)
      c.make_room.ensures.entries
      ∙ ap (λ (cs : List CoreState). entries_of c.self.inside.history.entries
      ++ map (entry_by (number_at cs c.args.node.now c.join_of-own.result)) c.in_ok-turn.turn.entries)
      c.deref.ensures.value)
      (sym c.is_leave.ensures ∙ w.if-is_leave.true) w.close_out.new.self w.close_out.ensures.nodes w.close_out.ensures.links)))
  | else-is_leave w ↦ subst (λ (k : WorldState). Played (At c.args.node.now c.args.event.now) c.args.self.now k []
      c.take_in-answers.result.0.items) (sym w.self-is)
      (answers_are c.take_in-answers.ensures.answers
      (played c.args.self.now _ c.self.view_is (At c.args.node.now c.args.event.now) _ _
      (own_played _ c.self.invariant c.make_room.ensures.left c.args.place c.args.node.now c.args.event.now
      (admitted c.args.self.now _ c.self.view_is c.args.place (At c.args.node.now c.args.event.now) c.requires)
      c.index_mut-core.result.now c.index_mut-core.ensures.value
      c.accept.new.self c.in_ok-turn.turn (subst (λ (e : NodeEvent). Steps e c.index_mut-core.result.now c.accept.new.self
      c.in_ok-turn.turn) c.cause.ensures c.in_ok-turn.ensures.ok)
      c.take_in-answers.new.links (c.take_in-answers.ensures.nodes ∙ c.make_room.ensures.nodes)
      (c.take_in-answers.ensures.links ∙ ap (λ (w : Links Letter). posted c.args.node.now
      (λ t. letters_to t c.in_ok-turn.turn.letters) w) c.make_room.ensures.links)
      c.take_in-answers.new.history.entries c.join_of-own.result (c.take_in-answers.ensures.entries
      ∙ ap (λ (es : List HistoryEntry). entries_of es
      ++ map (entry_by (number_at c.deref.result.now c.args.node.now c.join_of-own.result)) c.in_ok-turn.turn.entries)
      c.make_room.ensures.entries
      ∙ ap (λ (cs : List CoreState). entries_of c.self.inside.history.entries
      ++ map (entry_by (number_at cs c.args.node.now c.join_of-own.result)) c.in_ok-turn.turn.entries)
      c.deref.ensures.value)
      (sym c.is_leave.ensures ∙ w.if-is_leave.false))))
]

pub returns-clause-few : goal.returns-clause-few
returns-clause-few g c =
    few_answers c.args.self.now _ c.self.view_is c.args.place c.index_mut-core.result.now c.index_mut-core.ensures.value
    (within _ c.self.invariant c.args.node.now c.args.place c.index_mut-core.result.now
    (own_place _ c.self.invariant c.make_room.ensures.left c.args.place c.args.node.now c.args.event.now
    (admitted c.args.self.now _ c.self.view_is c.args.place (At c.args.node.now c.args.event.now) c.requires)
    c.index_mut-core.result.now c.index_mut-core.ensures.value) c.index_mut-core.ensures.value)
    c.take_in-answers.result.0.items
    (subst (λ (given : List Answer). length given ≤ most_answers c.index_mut-core.result.now)
    (sym c.take_in-answers.ensures.answers)
    c.in_ok-turn.ensures.few.answers)

pub index_mut-core-requires : goal.index_mut-core-requires
index_mut-core-requires g c =
    subst (λ (n : ℕ). c.args.place < n) (sym c.self.inside.cores.ok.0)
    (within _ c.self.invariant c.args.node.now c.args.place c.index.result.now
    (own_place _ c.self.invariant c.make_room.ensures.left c.args.place c.args.node.now c.args.event.now
    (admitted c.args.self.now _ c.self.view_is c.args.place (At c.args.node.now c.args.event.now) c.requires) c.index.result.now
    c.index.ensures) c.index.ensures)

pub invariant_of-self : goal.invariant_of-self
invariant_of-self g c =
    rested_whole _ c.self.invariant c.make_room.new.links c.make_room.new.history.entries c.make_room.ensures.nodes
    c.make_room.ensures.links
    c.make_room.ensures.entries

pub returns-in_err-make_room-clause-as_before : goal.returns-in_err-make_room-clause-as_before
returns-in_err-make_room-clause-as_before g c =
    let p = err_from_is_err_and c.from_residual.result c.from_residual.ensures.1 in
    rw p.1 (rested _ c.self.invariant c.make_room.new.links c.make_room.new.history.entries c.make_room.ensures.nodes
    c.make_room.ensures.links c.make_room.ensures.entries ∙ ap named c.self.view_is)
