use Rattle.std.proofs.Common.{ℕ, ◌≤◌, ◌<◌, ◌∙◌, ◌++◌, ◌^◌, ◌-◌, min, List, Option, Some, length, map, ap, sym, subst, refl}
use Rattle.std.specs.List.{slice_get}
use Rattle.std.specs.Option.{option_copied}
use Rattle.std.proofs.lemmas.Result.{err_from_is_err_and}
use Rattle.term.specs.Nodes.{name_of}
use Rattle.node_core.specs.declared.Answer.{Answer}
use Rattle.node_core.specs.CoreState.{CoreState}
use Rattle.node_core.specs.NodeEventsSeen.{entry_by}
use Rattle.node_core.specs.Rare.{most_entries, most_answers}
use Rattle.protocol_model.specs.Links.{Links, posted, taken}
use Rattle.node_core.specs.declared.Letter.{Letter}
use Rattle.link.specs.MeshState.{place}
use Rattle.world_events.specs.declared.events.WorldEvent.TheVariants.{Deliver}
use Rattle.world_history.specs.declared.entry.HistoryEntry.{HistoryEntry}
use Rattle.world_history.specs.Histories.{entries_of}
use Rattle.cluster_world.specs.WorldState.{WorldState}
use Rattle.cluster_world.specs.Histories.{number_at}
use Rattle.cluster_world.specs.Links.{letters_to, IsBetween, IsFirstSender}
use Rattle.cluster_world.specs.Mail.{links_of}
use Rattle.cluster_world.specs.Seen.{named}
use Rattle.cluster_world.proofs.Deliveries.{has_front}
use Rattle.cluster_world.proofs.Rooms.{less_fits}
use Rattle.cluster_world.proofs.Steps.{within, rested, rested_whole, as_before, whole_before}
use Rattle.cluster_world.proofs.Taking.{answers_are, admitted, played, kept_by, same_core, few_answers, read_goes, read_whole, read_played}
use Rattle.cluster_world.proofs.world.World.read.Goals as goal

pub front-requires-clause-link : goal.front-requires-clause-link
front-requires-clause-link g c =
    subst (λ (ns : List ℕ). IsBetween c.args.delivery.now.link (name_of c.args.delivery.now.sender) c.args.delivery.now.receiver ns)
    (sym (c.make_room.ensures.nodes ∙ ap (λ (k : WorldState). k.links.nodes) c.self.view_is)) c.requires.link

pub front-requires-clause-first : goal.front-requires-clause-first
front-requires-clause-first g c =
    subst (λ (w : Links Letter). IsFirstSender (name_of c.args.delivery.now.sender) c.args.delivery.now.receiver (Some c.args.delivery.now.sender) w)
    (sym c.make_room.ensures.links)
    (subst (λ (k : WorldState). IsFirstSender (name_of c.args.delivery.now.sender) c.args.delivery.now.receiver (Some c.args.delivery.now.sender) (links_of k.links))
    (sym c.self.view_is) c.requires.first)

pub take-requires-clause-link : goal.take-requires-clause-link
take-requires-clause-link g c =
    subst (λ (ns : List ℕ). IsBetween c.args.delivery.now.link (name_of c.args.delivery.now.sender) c.args.delivery.now.receiver ns)
    (sym (c.make_room.ensures.nodes ∙ ap (λ (k : WorldState). k.links.nodes) c.self.view_is)) c.requires.link

pub take-requires-clause-first : goal.take-requires-clause-first
take-requires-clause-first g c =
    subst (λ (w : Links Letter). IsFirstSender (name_of c.args.delivery.now.sender) c.args.delivery.now.receiver (Some c.args.delivery.now.sender) w)
    (sym c.make_room.ensures.links)
    (subst (λ (k : WorldState). IsFirstSender (name_of c.args.delivery.now.sender) c.args.delivery.now.receiver (Some c.args.delivery.now.sender) (links_of k.links))
    (sym c.self.view_is) c.requires.first)

pub unreachable-requires : goal.unreachable-requires
unreachable-requires g c =
    has_front ((links_of c.make_room.new.links).queue c.args.delivery.now.sender c.args.delivery.now.receiver)
    ((subst (λ (w : Links Letter). IsFirstSender (name_of c.args.delivery.now.sender) c.args.delivery.now.receiver (Some c.args.delivery.now.sender) w)
    (sym c.make_room.ensures.links)
    (subst (λ (k : WorldState). IsFirstSender (name_of c.args.delivery.now.sender) c.args.delivery.now.receiver (Some c.args.delivery.now.sender) (links_of k.links))
    (sym c.self.view_is) c.requires.first)).1)
    (ap (λ (o : Option _). option_copied o) (sym c.in_default.is) ∙ c.front.ensures)

pub invariant_of-self-in_err-turn : goal.invariant_of-self-in_err-turn
invariant_of-self-in_err-turn g c =
    whole_before _ c.self.invariant c.args.delivery.now.receiver c.args.delivery.now.link.receiver c.index_mut-core.result.now
    (ap (λ (k : WorldState). place c.args.delivery.now.receiver k.links.nodes) c.self.view_is ∙ c.requires.link.receiver)
    c.index_mut-core.ensures.value c.accept.new.self c.make_room.new.links c.make_room.new.history.entries c.accept.ensures.world
    c.in_err-turn.ensures.unchanged c.make_room.ensures.nodes c.make_room.ensures.links c.make_room.ensures.entries

pub returns-in_err-turn-clause-kept : goal.returns-in_err-turn-clause-kept
returns-in_err-turn-clause-kept g c =
    kept_by c.args.self.now _ c.self.view_is _ _ c.make_room.new.links c.make_room.new.history.entries refl
    c.make_room.ensures.nodes

pub returns-in_err-turn-clause-as_before : goal.returns-in_err-turn-clause-as_before
returns-in_err-turn-clause-as_before g c =
    let p = err_from_is_err_and c.from_residual-in_err-turn.result c.from_residual-in_err-turn.ensures.1 in
    rw p.1 (as_before _ c.self.invariant c.args.delivery.now.receiver c.args.delivery.now.link.receiver c.index_mut-core.result.now
    (ap (λ (k : WorldState). place c.args.delivery.now.receiver k.links.nodes) c.self.view_is ∙ c.requires.link.receiver)
    c.index_mut-core.ensures.value c.accept.new.self c.make_room.new.links c.make_room.new.history.entries
    c.in_err-turn.ensures.unchanged c.make_room.ensures.nodes c.make_room.ensures.links c.make_room.ensures.entries
    ∙ ap named c.self.view_is)

pub take_in-answers-requires-clause-node : goal.take_in-answers-requires-clause-node
take_in-answers-requires-clause-node g c =
    ap (place c.args.delivery.now.receiver) (c.take.ensures.nodes ∙ c.make_room.ensures.nodes)
    ∙ ap (λ (k : WorldState). place c.args.delivery.now.receiver k.links.nodes) c.self.view_is ∙ c.requires.link.receiver

pub take_in-answers-requires-clause-within : goal.take_in-answers-requires-clause-within
take_in-answers-requires-clause-within g c =
    read_goes _ c.self.invariant c.make_room.ensures.left c.args.delivery.now.link.receiver c.args.delivery.now.sender c.args.delivery.now.receiver
    (ap (λ (k : WorldState). place c.args.delivery.now.receiver k.links.nodes) c.self.view_is ∙ c.requires.link.receiver)
    (subst (λ (k : WorldState). IsFirstSender (name_of c.args.delivery.now.sender) c.args.delivery.now.receiver (Some c.args.delivery.now.sender) (links_of k.links))
    (sym c.self.view_is) c.requires.first)
    (admitted c.args.self.now _ c.self.view_is c.args.delivery.now.link.receiver (Deliver (name_of c.args.delivery.now.sender) (name_of c.args.delivery.now.receiver))
    c.requires.admitted) c.index_mut-core.result.now c.index_mut-core.ensures.value
    c.in-Some.letter.now (ap (λ (w : Links Letter). slice_get (w.queue c.args.delivery.now.sender c.args.delivery.now.receiver) 0)
    (sym c.make_room.ensures.links)
    ∙ sym c.front.ensures ∙ ap (λ (o : Option _). option_copied o) c.in-Some.is)
    c.accept.new.self c.in_ok-turn.turn c.in_ok-turn.ensures.ok c.take.new.self.nodes
    (c.take.ensures.nodes ∙ c.make_room.ensures.nodes)

pub take_in-answers-requires-clause-room : goal.take_in-answers-requires-clause-room
take_in-answers-requires-clause-room g c =
    less_fits _ (most_entries c.index_mut-core.result.now) _ c.in_ok-turn.ensures.few.entries
    (subst (λ (k : CoreState). min (2 ^ 64 - 1) (most_entries k) ≤ c.make_room.new.history.room)
    (same_core c.args.self.now _ c.self.view_is c.args.delivery.now.link.receiver c.index_mut-core.result.now c.index_mut-core.ensures.value
    (within _ c.self.invariant c.args.delivery.now.receiver c.args.delivery.now.link.receiver c.index_mut-core.result.now
    (ap (λ (k : WorldState). place c.args.delivery.now.receiver k.links.nodes) c.self.view_is ∙ c.requires.link.receiver)
    c.index_mut-core.ensures.value)
    c.index.result.now c.index.ensures)
    c.in_ok-make_room.ensures.room)

pub invariant_of-self-2 : goal.invariant_of-self-2
invariant_of-self-2 g c =
    read_whole _ c.self.invariant c.make_room.ensures.left c.args.delivery.now.link.receiver c.args.delivery.now.sender c.args.delivery.now.receiver
    (ap (λ (k : WorldState). place c.args.delivery.now.receiver k.links.nodes) c.self.view_is ∙ c.requires.link.receiver)
    (subst (λ (k : WorldState). IsFirstSender (name_of c.args.delivery.now.sender) c.args.delivery.now.receiver (Some c.args.delivery.now.sender) (links_of k.links))
    (sym c.self.view_is) c.requires.first)
    (admitted c.args.self.now _ c.self.view_is c.args.delivery.now.link.receiver (Deliver (name_of c.args.delivery.now.sender) (name_of c.args.delivery.now.receiver))
    c.requires.admitted) c.index_mut-core.result.now c.index_mut-core.ensures.value
    c.in-Some.letter.now (ap (λ (w : Links Letter). slice_get (w.queue c.args.delivery.now.sender c.args.delivery.now.receiver) 0)
    (sym c.make_room.ensures.links)
    ∙ sym c.front.ensures ∙ ap (λ (o : Option _). option_copied o) c.in-Some.is)
    c.accept.new.self c.in_ok-turn.turn c.in_ok-turn.ensures.ok
    c.take_in-answers.new.links (c.take_in-answers.ensures.nodes ∙ c.take.ensures.nodes ∙ c.make_room.ensures.nodes)
    (c.take_in-answers.ensures.links ∙ ap (λ (w : Links Letter). posted c.args.delivery.now.receiver
    (λ t. letters_to t c.in_ok-turn.turn.letters) w)
    (c.take.ensures.links ∙ ap (λ (w : Links Letter). taken c.args.delivery.now.sender c.args.delivery.now.receiver w) c.make_room.ensures.links))
    c.take_in-answers.new.history.entries c.join_of-own.result c.join_of-own.ensures (c.take_in-answers.ensures.entries
    ∙ ap (λ (es : List HistoryEntry). entries_of es
    ++ map (entry_by (number_at c.deref.result.now c.args.delivery.now.receiver c.join_of-own.result)) c.in_ok-turn.turn.entries)
    c.make_room.ensures.entries
    ∙ ap (λ (cs : List CoreState). entries_of c.self.inside.history.entries
    ++ map (entry_by (number_at cs c.args.delivery.now.receiver c.join_of-own.result)) c.in_ok-turn.turn.entries)
    c.deref.ensures.value)

pub returns-clause-kept : goal.returns-clause-kept
returns-clause-kept g c =
    kept_by c.args.self.now _ c.self.view_is _ _ c.take_in-answers.new.links c.take_in-answers.new.history.entries refl
    (c.take_in-answers.ensures.nodes ∙ c.take.ensures.nodes ∙ c.make_room.ensures.nodes)

pub returns-clause-ok : goal.returns-clause-ok
returns-clause-ok g c =
    answers_are c.take_in-answers.ensures.answers
    (played c.args.self.now _ c.self.view_is (Deliver (name_of c.args.delivery.now.sender) (name_of c.args.delivery.now.receiver)) _ _
    (read_played _ c.self.invariant c.make_room.ensures.left c.args.delivery.now.link.receiver c.args.delivery.now.sender c.args.delivery.now.receiver
    (ap (λ (k : WorldState). place c.args.delivery.now.receiver k.links.nodes) c.self.view_is ∙ c.requires.link.receiver)
    (subst (λ (k : WorldState). IsFirstSender (name_of c.args.delivery.now.sender) c.args.delivery.now.receiver (Some c.args.delivery.now.sender) (links_of k.links))
    (sym c.self.view_is) c.requires.first)
    (admitted c.args.self.now _ c.self.view_is c.args.delivery.now.link.receiver (Deliver (name_of c.args.delivery.now.sender) (name_of c.args.delivery.now.receiver))
    c.requires.admitted) c.index_mut-core.result.now c.index_mut-core.ensures.value
    c.in-Some.letter.now (ap (λ (w : Links Letter). slice_get (w.queue c.args.delivery.now.sender c.args.delivery.now.receiver) 0)
    (sym c.make_room.ensures.links)
    ∙ sym c.front.ensures ∙ ap (λ (o : Option _). option_copied o) c.in-Some.is)
    c.accept.new.self c.in_ok-turn.turn c.in_ok-turn.ensures.ok
    c.take_in-answers.new.links (c.take_in-answers.ensures.nodes ∙ c.take.ensures.nodes ∙ c.make_room.ensures.nodes)
    (c.take_in-answers.ensures.links ∙ ap (λ (w : Links Letter). posted c.args.delivery.now.receiver
    (λ t. letters_to t c.in_ok-turn.turn.letters) w)
    (c.take.ensures.links ∙ ap (λ (w : Links Letter). taken c.args.delivery.now.sender c.args.delivery.now.receiver w) c.make_room.ensures.links))
    c.take_in-answers.new.history.entries c.join_of-own.result c.join_of-own.ensures (c.take_in-answers.ensures.entries
    ∙ ap (λ (es : List HistoryEntry). entries_of es
    ++ map (entry_by (number_at c.deref.result.now c.args.delivery.now.receiver c.join_of-own.result)) c.in_ok-turn.turn.entries)
    c.make_room.ensures.entries
    ∙ ap (λ (cs : List CoreState). entries_of c.self.inside.history.entries
    ++ map (entry_by (number_at cs c.args.delivery.now.receiver c.join_of-own.result)) c.in_ok-turn.turn.entries)
    c.deref.ensures.value)))

pub returns-clause-few : goal.returns-clause-few
returns-clause-few g c =
    few_answers c.args.self.now _ c.self.view_is c.args.delivery.now.link.receiver c.index_mut-core.result.now c.index_mut-core.ensures.value
    (within _ c.self.invariant c.args.delivery.now.receiver c.args.delivery.now.link.receiver c.index_mut-core.result.now
    (ap (λ (k : WorldState). place c.args.delivery.now.receiver k.links.nodes) c.self.view_is ∙ c.requires.link.receiver)
    c.index_mut-core.ensures.value)
    c.take_in-answers.result.0.items
    (subst (λ (given : List Answer). length given ≤ most_answers c.index_mut-core.result.now)
    (sym c.take_in-answers.ensures.answers)
    c.in_ok-turn.ensures.few.answers)

pub index_mut-core-requires : goal.index_mut-core-requires
index_mut-core-requires g c =
    subst (λ (n : ℕ). c.args.delivery.now.link.receiver < n) (sym c.self.inside.cores.ok.0)
    (within _ c.self.invariant c.args.delivery.now.receiver c.args.delivery.now.link.receiver c.index.result.now
    (ap (λ (k : WorldState). place c.args.delivery.now.receiver k.links.nodes) c.self.view_is ∙ c.requires.link.receiver) c.index.ensures)

pub invariant_of-self : goal.invariant_of-self
invariant_of-self g c =
    rested_whole _ c.self.invariant c.make_room.new.links c.make_room.new.history.entries c.make_room.ensures.nodes
    c.make_room.ensures.links
    c.make_room.ensures.entries

pub returns-in_err-make_room-clause-as_before : goal.returns-in_err-make_room-clause-as_before
returns-in_err-make_room-clause-as_before g c =
    let p = err_from_is_err_and c.from_residual.result c.from_residual.ensures.1 in
    rw p.1 (rested _ c.self.invariant c.make_room.new.links c.make_room.new.history.entries c.make_room.ensures.nodes
    c.make_room.ensures.links c.make_room.ensures.entries ∙ ap named c.self.view_is)
