use Rattle.std.proofs.Common.{◌≡◌, ◌++◌, ◌∷◌, ◌+◌, ◌<◌, ℕ, List, [], Option, ◌∙◌, subst, ap, sym, append-nil, arith}
use Rattle.text_lines.specs.Lines.{TakesLine, LosesLines, count_of, spoken}
use Rattle.std.proofs.KnownBytes.{Keeps-trans}
use Rattle.std.proofs.lemmas.Result.{err_from_is_err_and}
use Rattle.text_lines.specs.declared.lines.Line.{Line}
use Rattle.text_lines.specs.declared.faults.StreamFault.{StreamFault}
use Rattle.cluster_script.specs.Played.{StopsReading}
use Rattle.text_lines.proofs.Known.{LosesLines-trans, spoken-append, spoken-blank, spoken-said, count_of_all-append, MatchResult-err}
use Rattle.cluster_script.proofs.Known.{StopsReading-behind}
use Rattle.std.specs.Io.Buffered.{reader_remaining}
use Rattle.cluster_script.proofs.reading.next_line.Goals as goal

-- a line counts for at least one
less : (most left : ℕ) (line : List ℕ) → most ≡ left + count_of line → left < most
less most left line e = omega arith

pub returns-in_default-clause-read : goal.returns-in_default-clause-read
returns-in_default-clause-read g c =
    let input = reader_remaining g.R.Read.remaining c.args.reader.now in
    let mid = reader_remaining g.R.Read.remaining c.loop-line.reader in
    let rest = reader_remaining g.R.Read.remaining c.read_line.new.reader in
    let i = c.loop-line.invariant.read in
    let t = subst (λ (o : Option Line). TakesLine mid rest c.loop-line.left c.read_line.new.left o) c.in_default.is
    c.in_ok-line.ensures.read in (
      i.0,
      i.1,
      subst (λ (ls : List (List ℕ)). LosesLines input rest ls) (append-nil i.0)
          (LosesLines-trans input mid rest i.0 [] i.2 t.0),
      t.1,
      omega (arith, i.3, t.2),
    )

pub returns-then-not-is_blank-clause-read : goal.returns-then-not-is_blank-clause-read
returns-then-not-is_blank-clause-read g c =
    let input = reader_remaining g.R.Read.remaining c.args.reader.now in
    let mid = reader_remaining g.R.Read.remaining c.loop-line.reader in
    let rest = reader_remaining g.R.Read.remaining c.read_line.new.reader in
    let i = c.loop-line.invariant.read in
    let t = subst (λ (o : Option Line). TakesLine mid rest c.loop-line.left c.read_line.new.left o) c.in-Some.is
    c.in_ok-line.ensures.read in
    let b = sym (c.is_blank.ensures t.0 t.1) ∙ c.if-not-is_blank.true in (
      i.0 ++ t.0 ∷ [],
      t.0,
      t.1,
      spoken-append i.0 (t.0 ∷ []) ∙ ap (λ (ls : List (List ℕ)). ls ++ spoken (t.0 ∷ [])) i.1 ∙ spoken-said t.0 b,
      LosesLines-trans input mid rest i.0 (t.0 ∷ []) i.2 t.2,
      omega (arith, i.3, t.4, count_of_all-append i.0 (t.0 ∷ [])),
    )

pub loop-line-preserved : goal.loop-line-preserved
loop-line-preserved g c =
    let input = reader_remaining g.R.Read.remaining c.args.reader.now in
    let mid = reader_remaining g.R.Read.remaining c.loop-line.reader in
    let rest = reader_remaining g.R.Read.remaining c.read_line.new.reader in
    let old = g.W.Write.contents c.args.writer.now in
    let written = g.W.Write.contents c.loop-line.writer in
    let same = g.W.Write.contents c.read_line.new.writer in
    let i = c.loop-line.invariant.read in
    let t = subst (λ (o : Option Line). TakesLine mid rest c.loop-line.left c.read_line.new.left o) c.in-Some.is
    c.in_ok-line.ensures.read in
    let b = sym (c.is_blank.ensures t.0 t.1) ∙ c.if-not-is_blank.false in record {
      read = (
        i.0 ++ t.0 ∷ [],
        spoken-append i.0 (t.0 ∷ []) ∙ ap (λ (ls : List (List ℕ)). ls ++ spoken (t.0 ∷ [])) i.1 ∙ spoken-blank t.0 b,
        LosesLines-trans input mid rest i.0 (t.0 ∷ []) i.2 t.2,
        omega (arith, i.3, t.4, count_of_all-append i.0 (t.0 ∷ [])),
      );
      kept = Keeps-trans old written same
          c.loop-line.invariant.kept c.in_ok-line.ensures.kept;
    }

pub loop-line-smaller : goal.loop-line-smaller
loop-line-smaller g c =
    let mid = reader_remaining g.R.Read.remaining c.loop-line.reader in
    let rest = reader_remaining g.R.Read.remaining c.read_line.new.reader in
    let t = subst (λ (o : Option Line). TakesLine mid rest c.loop-line.left c.read_line.new.left o) c.in-Some.is
    c.in_ok-line.ensures.read in
    less c.loop-line.left c.read_line.new.left t.0 t.4

pub returns-in_err-line-clause-read : goal.returns-in_err-line-clause-read
returns-in_err-line-clause-read g c =
    let input = reader_remaining g.R.Read.remaining c.args.reader.now in
    let mid = reader_remaining g.R.Read.remaining c.loop-line.reader in
    let rest = reader_remaining g.R.Read.remaining c.read_line.new.reader in
    let p = err_from_is_err_and c.from_residual.result c.from_residual.ensures.1 in
    let i = c.loop-line.invariant.read in
    let s = StopsReading-behind input mid
    rest i.0 c.args.left.now c.loop-line.left i.1 i.2 i.3 c.in_err-line.field-0.0 c.in_err-line.ensures.read in
    MatchResult-err _ (StopsReading input rest c.args.left.now) c.from_residual.result p.0 p.1
    (subst (λ (f : StreamFault). StopsReading input rest c.args.left.now f) (sym p.2) s)
