use Rattle.std.proofs.Common.{true, false, ◌≡◌, ◌<◌, Bool, length, ap, sym, ◌∙◌, arith, inl, inr}
use Rattle.text_lines.specs.Lines.{line_of, count_for, count_of}
use Rattle.text_lines.proofs.Known.{LosesWithinLine-taken, TakesPart-line, GoesPast-line}
use Rattle.text_lines.proofs.lines.read_line.Goals as goal

true_false : true ≡ false → ⊥
true_false h = cc

pub returns-clause-read : goal.returns-clause-read
returns-clause-read g c =
    let e : Bool = c.in_ok-is_ended.is_ended in
    let r = c.in_ok-is_ended.ensures.read in
    let k = c.end.ensures r.0 r.1 in
    let n = c.line_len.ensures r.0 r.1 in
    let m : c.count-count.result ≡ count_of (line_of e r.0) = c.count-count.ensures ∙ ap count_for n in
    let some : e ≡ false → 0 < length r.0 = λ f. elim c.else-not-is_ended.either [
      | inl p ↦ omega (arith, r.1.len, p.1)
      | inr t ↦ absurd (true_false (sym t ∙ f))
    ] in (
      line_of e r.0,
      k,
      TakesPart-line _ _ e r.0 r.2 r.3 some,
      LosesWithinLine-taken _ _ e r.0 r.2 r.3,
      omega (
        arith,
        m,
        c.if-count-left.false,
      ),
    )

pub returns-then-count-left-clause-read : goal.returns-then-count-left-clause-read
returns-then-count-left-clause-read g c =
    let e : Bool = c.in_ok-is_ended.is_ended in
    let r = c.in_ok-is_ended.ensures.read in
    let n = c.line_len.ensures r.0 r.1 in
    let m : c.count-count.result ≡ count_of (line_of e r.0) = c.count-count.ensures ∙ ap count_for n in
    let some : e ≡ false → 0 < length r.0 = λ f. elim c.else-not-is_ended.either [
      | inl p ↦ omega (arith, r.1.len, p.1)
      | inr t ↦ absurd (true_false (sym t ∙ f))
    ] in
    let w = LosesWithinLine-taken _ _ e r.0 r.2 r.3 in (
      w.0,
      w.1,
      w.2,
      GoesPast-line _ _ (line_of e r.0) c.args.left.now (TakesPart-line _ _ e r.0 r.2 r.3 some) (omega (
        arith,
        m,
        c.if-count-left.true,
      )),
    )
