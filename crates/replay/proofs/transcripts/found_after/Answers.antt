use Rattle.std.proofs.Common.{ℕ, ◌∙◌, ap, map, refl, sym, arith}
use Rattle.std.proofs.lemmas.Option.{slice_get-map}
use Rattle.std.specs.Option.{option_map}
use Rattle.node_log.specs.Logs.{entry_of, event_of}
use Rattle.replay.specs.Transcripts.{answering, given_by}
use Rattle.replay.proofs.Parts.{passed_by, found_next, not_next, given_same}
use Rattle.replay.proofs.Sameness.{item_at, not_false}
use Rattle.replay.proofs.transcripts.found_after.Goals as goal

pub returns-then-not-is_of-clause-left : goal.returns-then-not-is_of-clause-left
returns-then-not-is_of-clause-left c = λ L.
    passed_by c.args.log.now.node c.args.transcript.now.seat (map given_by c.args.transcript.now.entries.items)
    c.args.log.now.entries c.args.found c.args.before c.args.at (entry_of c.args.log.now.node c.args.entry.now)
    c.requires.here L (sym c.if-not-is_of.ensures)

pub returns-then-gives-clause-left : goal.returns-then-gives-clause-left
returns-then-gives-clause-left c = λ L.
    found_next c.args.log.now.node c.args.transcript.now.seat (map given_by c.args.transcript.now.entries.items)
    c.args.log.now.entries c.args.found c.args.before c.args.at (entry_of c.args.log.now.node c.args.entry.now)
    c.requires.here L (sym c.if-not-is_of.ensures) (given_by c.index.result.now)
    (slice_get-map given_by c.args.transcript.now.entries.items c.args.found
    ∙ ap (option_map given_by)
    (item_at c.args.transcript.now.entries.items c.args.found c.index.result.now
    (omega (arith, c.if-found-len.false, c.len.ensures)) c.index.ensures))
    (given_same c.args.log.now.node c.args.before c.args.at c.args.log.now.entries
    (entry_of c.args.log.now.node c.args.entry.now) c.requires.here c.number_after-number.result
    c.how_logged-kind.result
    (c.how_logged-kind.ensures
    ∙ ap (λ (n : ℕ). answering (event_of n c.args.entry.now.event)) c.node.ensures) c.number_after-number.ensures
    ∙ c.if-gives.ensures.0 refl)

pub returns-clause-left : goal.returns-clause-left
returns-clause-left c = λ L.
    not_next c.args.log.now.node c.args.transcript.now.seat (map given_by c.args.transcript.now.entries.items)
    c.args.log.now.entries c.args.found c.args.before c.args.at (entry_of c.args.log.now.node c.args.entry.now)
    c.requires.here L (sym c.if-not-is_of.ensures) (given_by c.index.result.now)
    (slice_get-map given_by c.args.transcript.now.entries.items c.args.found
    ∙ ap (option_map given_by)
    (item_at c.args.transcript.now.entries.items c.args.found c.index.result.now
    (omega (arith, c.if-found-len.false, c.len.ensures)) c.index.ensures))
    (λ e. not_false c.if-gives.ensures (sym (given_same c.args.log.now.node c.args.before c.args.at c.args.log.now.entries
    (entry_of c.args.log.now.node c.args.entry.now) c.requires.here c.number_after-number.result
    c.how_logged-kind.result
    (c.how_logged-kind.ensures
    ∙ ap (λ (n : ℕ). answering (event_of n c.args.entry.now.event)) c.node.ensures) c.number_after-number.ensures) ∙ e))
