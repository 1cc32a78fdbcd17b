use Rattle.std.proofs.Common.{ℕ, ◌∷◌, ◌++◌, [], ap, ◌∙◌, arith, Some, length-append, subst, sym}
use Rattle.std.proofs.lemmas.Bool.{ne_eqb}
use Rattle.std.proofs.KnownBytes.{Keeps-trans, Consumes-kept}
use Rattle.std.proofs.lemmas.Result.{err_from_is_err_and}
use Rattle.std.specs.Io.Buffered.{reader_remaining}
use Rattle.text_lines.specs.declared.faults.StreamFault.{StreamFault}
use Rattle.text_lines.specs.Lines.{IsPart, StopsAtByte, StopsAtLine}
use Rattle.text_lines.proofs.Known.{MatchResult-err, StopsAtLine-byte, IsWithinLine-part, Consumes-end, Consumes-more, reads-on, reads-end, HasNoFeed-push, GoesPast-begun}
use Rattle.text_lines.proofs.lines.read_part.Goals as goal

pub returns-in_err-take_at_hand-clause-read : goal.returns-in_err-take_at_hand-clause-read
returns-in_err-take_at_hand-clause-read g c =
    let input = reader_remaining g.R.Read.remaining c.args.reader.now in
    let mid = reader_remaining g.R.Read.remaining c.loop-part.reader in
    let rest = reader_remaining g.R.Read.remaining c.take_at_hand.new.reader in
    let p = err_from_is_err_and c.from_residual.result c.from_residual.ensures.1 in
    let r = c.loop-part.invariant.read in
    MatchResult-err _ (StopsAtLine input rest c.args.most) c.from_residual.result p.0 p.1
    (subst (λ (x : StreamFault). StopsAtLine input rest c.args.most x) (sym p.2)
    (r.0, Consumes-kept input mid rest r.0 r.3 c.in_err-take_at_hand.ensures, IsWithinLine-part r.0 r.2, tt))

pub returns-then-branch-clause-read : goal.returns-then-branch-clause-read
returns-then-branch-clause-read g c =
    reads-end _ _ _ _ _ _ c.loop-part.invariant.read c.in_ok-take_at_hand.ensures c.if-branch.true

pub extend-requires : goal.extend-requires
extend-requires g c =
    let r = reads-on _ _ _ _ _ _ c.loop-part.invariant.read c.in_ok-take_at_hand.ensures c.if-branch.false in
    omega (arith, r.1.len, c.exceeds.ensures.short c.if-exceeds.false r.0 r.1)

pub loop-part-smaller : goal.loop-part-smaller
loop-part-smaller g c =
    let r = reads-on _ _ _ _ _ _ c.loop-part.invariant.read c.in_ok-take_at_hand.ensures c.if-branch.false in
    let p = c.in_ok-extend-in-Some.ensures r.0 r.1 in
    let t = c.in_ok-take_at_hand.ensures in
    let q = c.loop-part.invariant.read in
    let more = t.2 q.0 q.1 in
    omega (
      arith,
      p.len,
      r.1.len,
      q.1.len,
      more.len,
      length-append q.0 t.0,
      length-append r.0 (c.in-Some.byte ∷ []),
      c.loop-part.invariant.short,
    )

pub loop-part-preserved : goal.loop-part-preserved
loop-part-preserved g c =
    let old = g.W.Write.contents c.args.writer.now in
    let written = g.W.Write.contents c.loop-part.writer in
    let same = g.W.Write.contents c.next_byte.new.writer in
    let r = reads-on _ _ _ _ _ _ c.loop-part.invariant.read c.in_ok-take_at_hand.ensures c.if-branch.false in
    let b : ℕ = c.in-Some.byte in
    let p : IsPart (r.0 ++ b ∷ []) c.extend.new.self = c.in_ok-extend-in-Some.ensures r.0 r.1 in
    record {
      read = (
        r.0 ++ b ∷ [],
        p,
        HasNoFeed-push r.0 b r.2 (ne_eqb b 10 c.in-Some.byte-test.1),
        Consumes-more _ _ _ r.0 b _ r.3 c.in_ok-next_byte.ensures.read c.in-Some.is,
      );
      kept = Keeps-trans old written same c.loop-part.invariant.kept c.in_ok-next_byte.ensures.kept;
      short = omega (
        arith,
        c.exceeds.ensures.short c.if-exceeds.false r.0 r.1,
        p.len,
        length-append r.0 (b ∷ []),
      );
    }

pub returns-in_err-extend-in-Some-clause-read : goal.returns-in_err-extend-in-Some-clause-read
returns-in_err-extend-in-Some-clause-read g c =
    let input = reader_remaining g.R.Read.remaining c.args.reader.now in
    let rest = reader_remaining g.R.Read.remaining c.next_byte.new.reader in
    let p = err_from_is_err_and c.from_residual-in_err-extend-in-Some.result
    c.from_residual-in_err-extend-in-Some.ensures.1 in
    let r = reads-on _ _ _ _ _ _ c.loop-part.invariant.read c.in_ok-take_at_hand.ensures c.if-branch.false in
    let b : ℕ = c.in-Some.byte in
    let f = HasNoFeed-push r.0 b r.2 (ne_eqb b 10 c.in-Some.byte-test.1) in
    let t = Consumes-more _ _ _ r.0 b _ r.3 c.in_ok-next_byte.ensures.read c.in-Some.is in
    MatchResult-err _ (StopsAtLine input rest c.args.most)
    c.from_residual-in_err-extend-in-Some.result p.0 p.1
    (subst (λ (x : StreamFault). StopsAtLine input rest c.args.most x)
    (sym p.2) (r.0 ++ b ∷ [], t, IsWithinLine-part (r.0 ++ b ∷ []) f, tt))

pub returns-in-None-clause-read : goal.returns-in-None-clause-read
returns-in-None-clause-read g c =
    let r = reads-on _ _ _ _ _ _ c.loop-part.invariant.read c.in_ok-take_at_hand.ensures c.if-branch.false in
    (r.0, r.1, r.2, Consumes-end _ _ _ r.0 _ r.3 c.in_ok-next_byte.ensures.read c.in-None.is)

pub returns-in-Some-eq10-clause-read : goal.returns-in-Some-eq10-clause-read
returns-in-Some-eq10-clause-read g c =
    let r = reads-on _ _ _ _ _ _ c.loop-part.invariant.read c.in_ok-take_at_hand.ensures c.if-branch.false in (
      r.0,
      r.1,
      r.2,
      Consumes-more _ _ _ r.0 10 _ r.3 c.in_ok-next_byte.ensures.read
          (c.in-Some-eq10.is ∙ ap (λ (b : ℕ). Some b) c.in-Some-eq10.field-0-test),
    )

pub returns-then-exceeds-clause-read : goal.returns-then-exceeds-clause-read
returns-then-exceeds-clause-read g c =
    let input = reader_remaining g.R.Read.remaining c.args.reader.now in
    let rest = reader_remaining g.R.Read.remaining c.take_at_hand.new.reader in
    let r = reads-on _ _ _ _ _ _ c.loop-part.invariant.read c.in_ok-take_at_hand.ensures c.if-branch.false in
    let past = c.exceeds.ensures.past c.if-exceeds.true r.0 r.1 in
    (r.0, r.3, IsWithinLine-part r.0 r.2, GoesPast-begun input rest r.0 c.args.most r.2 past.0 r.3 past.1)

pub returns-in_err-next_byte-clause-read : goal.returns-in_err-next_byte-clause-read
returns-in_err-next_byte-clause-read g c =
    let input = reader_remaining g.R.Read.remaining c.args.reader.now in
    let mid = reader_remaining g.R.Read.remaining c.take_at_hand.new.reader in
    let rest = reader_remaining g.R.Read.remaining c.next_byte.new.reader in
    let p = err_from_is_err_and c.from_residual-in_err-next_byte.result c.from_residual-in_err-next_byte.ensures.1 in
    let r = reads-on _ _ _ _ _ _ c.loop-part.invariant.read c.in_ok-take_at_hand.ensures c.if-branch.false in
    MatchResult-err _ (StopsAtLine input rest c.args.most)
    c.from_residual-in_err-next_byte.result p.0 p.1
    (StopsAtLine-byte input mid
    rest r.0 c.args.most p.0 r.2 r.3
    (subst (λ (x : StreamFault). StopsAtByte mid rest x)
    (sym p.2) c.in_err-next_byte.ensures.read))
