use Rattle.std.proofs.Common.{◌≡◌, ◌+◌, ◌<◌, ℕ, List, Option, subst, sym, arith}
use Rattle.std.proofs.lemmas.Result.{err_from_is_err_and}
use Rattle.std.specs.Io.Buffered.{reader_remaining}
use Rattle.std.specs.Prelude.{min}
use Rattle.text_lines.specs.Lines.{TakesLine, StopsAtLine, count_of}
use Rattle.term.specs.declared.limits.TheConstants.{MOST_LINES}
use Rattle.text_lines.specs.declared.faults.StreamFault.{StreamFault}
use Rattle.text_lines.specs.declared.lines.Line.{Line}
use Rattle.text_lines.proofs.Known.{MatchResult-err}
use Rattle.console.specs.Consoles.{TalkStops, TalksUntil, TellStops, talk}
use Rattle.console.specs.Links.{linked_in}
use Rattle.console.proofs.Talking.{ServesSoFar-start, ServesSoFar-kept, ServesSoFar-next, TalksUntil-input, TalksUntil-line, TalkStops-reading, TalkStops-telling}
use Rattle.console.proofs.answering.answer_each.Goals as goal

-- a line counts
less : (most left : ℕ) (line : List ℕ) → most ≡ left + count_of line → left < most
less most left line e = omega (arith, e)

pub loop-line-init : goal.loop-line-init
loop-line-init g c = ServesSoFar-start _ _ _ _ _ _ _

pub returns-in_err-line : goal.returns-in_err-line
returns-in_err-line g c =
    let answers = g.A.Attendant.answers in
    let stands = g.A.Attendant.stands in
    let stays = c.args.stays in
    let most = c.args.most in
    let input = reader_remaining g.R.Read.remaining c.args.reader.now in
    let mid = reader_remaining g.R.Read.remaining c.loop-line.reader in
    let rest = reader_remaining g.R.Read.remaining c.next_line.new.reader in
    let old = g.W.Write.contents c.args.writer.now in
    let same = g.W.Write.contents c.next_line.new.writer in
    let s = talk (g.A.Attendant.state c.args.attendant.now) (linked_in c.args.links.now) in
    let t = talk (g.A.Attendant.state c.loop-line.attendant) (linked_in c.loop-line.links) in
    let P = ServesSoFar-kept _ _ _ _ _ _ _ _ _ _ _ _ c.loop-line.invariant c.in_err-line.ensures.kept in
    let r = c.from_residual.result in
    let p = err_from_is_err_and r c.from_residual.ensures.1 in
    MatchResult-err (TalksUntil answers stands stays most input rest old same s t) (TalkStops answers stands stays most input rest old same s t) r p.0 p.1
    (TalkStops-reading _ _ _ _ _ _ _ _ _ _ _ P rest p.0 (subst (λ (f : StreamFault). StopsAtLine mid rest (min c.loop-line.left MOST_LINES) f) (sym p.2) c.in_err-line.ensures.read))

pub returns-in_err-ended : goal.returns-in_err-ended
returns-in_err-ended g c =
    let answers = g.A.Attendant.answers in
    let stands = g.A.Attendant.stands in
    let stays = c.args.stays in
    let most = c.args.most in
    let input = reader_remaining g.R.Read.remaining c.args.reader.now in
    let mid = reader_remaining g.R.Read.remaining c.loop-line.reader in
    let rest = reader_remaining g.R.Read.remaining c.next_line.new.reader in
    let old = g.W.Write.contents c.args.writer.now in
    let same = g.W.Write.contents c.next_line.new.writer in
    let s = talk (g.A.Attendant.state c.args.attendant.now) (linked_in c.args.links.now) in
    let t = talk (g.A.Attendant.state c.loop-line.attendant) (linked_in c.loop-line.links) in
    let P = ServesSoFar-kept _ _ _ _ _ _ _ _ _ _ _ _ c.loop-line.invariant c.in_ok-line.ensures.kept in
    let l = subst (λ (o : Option Line). TakesLine mid rest c.loop-line.left c.next_line.new.left o) c.in-Some.is
    c.in_ok-line.ensures.read in
    let new = g.W.Write.contents c.answer.new.writer in
    let u = talk (g.A.Attendant.state c.answer.new.attendant) (linked_in c.answer.new.links) in
    let r = c.from_residual-in_err-ended.result in
    let p = err_from_is_err_and r c.from_residual-in_err-ended.ensures.1 in
    MatchResult-err (TalksUntil answers stands stays most input _ old new s u) (TalkStops answers stands stays most input _ old new s u) r p.0 p.1
    (TalkStops-telling _ _ _ _ _ _ _ _ _ _ _ P rest l.0 l.2 new u p.0 l.3
    (subst (λ (f : StreamFault). TellStops answers stands stays l.0 same new t u f) (sym p.2) (c.in_err-ended.ensures l.0 l.1)))

pub returns-in-Some-2 : goal.returns-in-Some-2
returns-in-Some-2 g c =
    let mid = reader_remaining g.R.Read.remaining c.loop-line.reader in
    let rest = reader_remaining g.R.Read.remaining c.next_line.new.reader in
    let P = ServesSoFar-kept _ _ _ _ _ _ _ _ _ _ _ _ c.loop-line.invariant c.in_ok-line.ensures.kept in
    let l = subst (λ (o : Option Line). TakesLine mid rest c.loop-line.left c.next_line.new.left o) c.in-Some.is
    c.in_ok-line.ensures.read in
    TalksUntil-line _ _ _ _ _ _ _ _ _ _ _ P rest l.0 l.2 _ _ c.next_line.new.left l.4 c.in_ok-ended.field-0 c.in-Some-2.ended
    c.in-Some-2.is (c.in_ok-ended.ensures l.0 l.1)

pub returns : goal.returns
returns g c =
    let mid = reader_remaining g.R.Read.remaining c.loop-line.reader in
    let rest = reader_remaining g.R.Read.remaining c.next_line.new.reader in
    let P = ServesSoFar-kept _ _ _ _ _ _ _ _ _ _ _ _ c.loop-line.invariant c.in_ok-line.ensures.kept in
    let l = subst (λ (o : Option Line). TakesLine mid rest c.loop-line.left c.next_line.new.left o) c.in_default.is
    c.in_ok-line.ensures.read in
    TalksUntil-input _ _ _ _ _ _ _ _ _ _ _ P rest l.0 l.1

pub loop-line-preserved : goal.loop-line-preserved
loop-line-preserved g c =
    let mid = reader_remaining g.R.Read.remaining c.loop-line.reader in
    let rest = reader_remaining g.R.Read.remaining c.next_line.new.reader in
    let P = ServesSoFar-kept _ _ _ _ _ _ _ _ _ _ _ _ c.loop-line.invariant c.in_ok-line.ensures.kept in
    let l = subst (λ (o : Option Line). TakesLine mid rest c.loop-line.left c.next_line.new.left o) c.in-Some.is
    c.in_ok-line.ensures.read in
    ServesSoFar-next _ _ _ _ _ _ _ _ _ _ _ P rest l.0 l.2 _ _ c.next_line.new.left l.4
    c.in_ok-ended.field-0 c.in_default-2.is (c.in_ok-ended.ensures l.0 l.1)
