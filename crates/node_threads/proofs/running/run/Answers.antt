use Rattle.std.proofs.Common.{ℕ, ap, ◌∙◌}
use Rattle.replay.specs.Ends.{end_by}
use Rattle.node_threads.specs.Traffics.{begun}
use Rattle.node_threads.proofs.Soundness.{gives_back}
use Rattle.node_threads.proofs.running.run.Goals as goal

pub returns : goal.returns
returns g c = gives_back c.args.work.node c.args.work.lines.items c.args.work.mailbox c.new-end.result c.turns-publisher.new.node
    c.turns-publisher.new.end (end_by g.N.Names.contents g.L.Record.logged c.end-end.result) c.into_parts-lines.result.0.items c.into_parts-lines.result.1
    (c.new-end.ensures
    ∙ ap (λ (n : ℕ). begun n c.args.work.lines.items c.args.work.mailbox) (c.copy.ensures ∙ c.node.ensures))
    c.requires.came c.turns-publisher.ensures.came c.turns-publisher.ensures.node c.turns-publisher.ensures.sound c.turns-publisher.ensures.same c.end-end.ensures.log c.end-end.ensures.table
    c.turns-publisher.result.1 c.turns-publisher.ensures.stops c.end-end.ensures.ended_alone c.end-end.ensures.sound c.into_parts-lines.ensures.lines c.into_parts-lines.ensures.letters
    c.into_parts-lines.ensures.room
    c.turns-publisher.result.0.publisher.known c.args.work.publisher.publisher.known.book c.turns-publisher.ensures.book
    c.seal-table.result.1 c.seal-table.ensures c.ok.result c.ok.ensures.value
