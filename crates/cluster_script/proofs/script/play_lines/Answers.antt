use Rattle.std.proofs.Common.{◌≡◌, ◌+◌, ◌<◌, ℕ, Bool, List, [], ◌∷◌, Option, ◌∙◌, subst, sym, arith, refl}
use Rattle.std.proofs.lemmas.Result.{err_from_is_err_and}
use Rattle.text_lines.specs.declared.lines.Line.{Line}
use Rattle.text_lines.specs.declared.faults.StreamFault.{StreamFault}
use Rattle.text_lines.specs.Lines.{spoken, count_of_all}
use Rattle.cluster_script.specs.Played.{ReadsOn, PlaysLines, StopsPlaying}
use Rattle.text_lines.proofs.Known.{count_of_all-some}
use Rattle.cluster_script.proofs.Scripts.{PlaysLines-start, PlaysLines-next, PlaysSome-next, PlaysLines-blank, PlaysLines-kept, PlaysAll-err, StopsPlaying-reading, StopsPlaying-writing}
use Rattle.std.specs.Io.Buffered.{reader_remaining}
use Rattle.cluster_script.proofs.script.play_lines.Goals as goal

-- a line that isn't empty counts
less : (most left : ℕ) (ls : List (List ℕ)) (line : List ℕ) → spoken ls ≡ line ∷ [] → most ≡ left + count_of_all ls
    → left < most
less most left ls line s e =
    let n = count_of_all-some ls (λ z. cons_nil line (sym s ∙ z)) in
    omega (arith, n, e)
  where
    cons_nil : (l : List ℕ) → l ∷ [] ≡ [] → ⊥
    cons_nil l h = cc

pub loop-line-init : goal.loop-line-init
loop-line-init g c = PlaysLines-start _ _ _ _

pub returns-in_err-fine : goal.returns-in_err-fine
returns-in_err-fine g c =
    let input = reader_remaining g.R.Read.remaining c.args.reader.now in
    let old = g.W.Write.contents c.args.writer.now in
    let new = g.W.Write.contents c.play_line.new.writer in
    let mid = reader_remaining g.R.Read.remaining c.loop-line.reader in
    let rest = reader_remaining g.R.Read.remaining c.next_line.new.reader in
    let P = PlaysLines-kept _ _ _ _ _ _ _ _ _ _ c.loop-line.invariant c.in_ok-line.ensures.kept in
    let p = err_from_is_err_and c.from_residual-in_err-fine.result c.from_residual-in_err-fine.ensures.1 in
    let t = subst (λ (o : Option Line). ReadsOn mid rest c.loop-line.left c.next_line.new.left o)
    c.in-Some.is c.in_ok-line.ensures.read in
    let q = c.in_err-fine.ensures t.1 t.2 in
    PlaysAll-err [] _ _ _ _ _ _ _ _ c.from_residual-in_err-fine.result p.0 p.1
    (StopsPlaying-writing [] _ rest _ _ _ _ c.in_err-fine.field-0.0 p.0 p.2
    (PlaysSome-next _ _ _ _ _ _ _ _ _ P rest t.0 t.1 q.0 t.3 t.4 q.1 _ q.2) refl)

pub loop-line-smaller : goal.loop-line-smaller
loop-line-smaller g c =
    let mid = reader_remaining g.R.Read.remaining c.loop-line.reader in
    let rest = reader_remaining g.R.Read.remaining c.next_line.new.reader in
    let t = subst (λ (o : Option Line). ReadsOn mid rest c.loop-line.left c.next_line.new.left o)
    c.in-Some.is c.in_ok-line.ensures.read in
    less c.loop-line.left c.next_line.new.left t.0 t.1 t.3 t.5

pub loop-line-preserved : goal.loop-line-preserved
loop-line-preserved g c =
    let input = reader_remaining g.R.Read.remaining c.args.reader.now in
    let old = g.W.Write.contents c.args.writer.now in
    let new = g.W.Write.contents c.play_line.new.writer in
    let mid = reader_remaining g.R.Read.remaining c.loop-line.reader in
    let rest = reader_remaining g.R.Read.remaining c.next_line.new.reader in
    let P = PlaysLines-kept _ _ _ _ _ _ _ _ _ _ c.loop-line.invariant c.in_ok-line.ensures.kept in
    let t = subst (λ (o : Option Line). ReadsOn mid rest c.loop-line.left c.next_line.new.left o)
    c.in-Some.is c.in_ok-line.ensures.read in
    let q = c.in_ok-fine.ensures t.1 t.2 in
    subst (λ (b : Bool). PlaysLines [] input rest c.args.left.now c.next_line.new.left c.args.world.now
    c.play_line.new.world old new b) (sym c.both-is_fine.ensures)
    (PlaysLines-next _ _ _ _ _ _ _ _ _ P rest t.0 t.1 q.0 t.3 t.4 q.1 _ _ _ c.in_ok-fine.fine t.5 q.2)

pub returns : goal.returns
returns g c =
    let mid = reader_remaining g.R.Read.remaining c.loop-line.reader in
    let rest = reader_remaining g.R.Read.remaining c.next_line.new.reader in
    let P = PlaysLines-kept _ _ _ _ _ _ _ _ _ _ c.loop-line.invariant c.in_ok-line.ensures.kept in
    let t = subst (λ (o : Option Line). ReadsOn mid rest c.loop-line.left c.next_line.new.left o)
    c.in_default.is c.in_ok-line.ensures.read in
    (PlaysLines-blank _ _ rest _ _ _ _ _ _ _ _ P t.0 t.1 t.2 t.4, t.3)

pub returns-in_err-line : goal.returns-in_err-line
returns-in_err-line g c =
    let input = reader_remaining g.R.Read.remaining c.args.reader.now in
    let old = g.W.Write.contents c.args.writer.now in
    let same = g.W.Write.contents c.next_line.new.writer in
    let rest = reader_remaining g.R.Read.remaining c.next_line.new.reader in
    let P = PlaysLines-kept _ _ _ _ _ _ _ _ _ _ c.loop-line.invariant c.in_err-line.ensures.kept in
    let p = err_from_is_err_and c.from_residual.result c.from_residual.ensures.1 in
    PlaysAll-err [] _ _ _ _ _ _ _ _ c.from_residual.result p.0 p.1
    (subst (λ (f : StreamFault). StopsPlaying [] input rest c.args.left.now c.args.world.now old same f) (sym p.2)
    (StopsPlaying-reading _ _ _ _ _ _ _ _ _ P rest c.in_err-line.field-0.0 c.in_err-line.ensures.read))
