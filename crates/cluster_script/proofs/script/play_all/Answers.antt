use Rattle.std.proofs.Common.{Bool, [], ◌∷◌, Option, Result, Ok, subst, sym, refl}
use Rattle.std.proofs.lemmas.Result.{err_from_is_err_and}
use Rattle.std.specs.Io.Buffered.{reader_remaining}
use Rattle.command_lines.specs.declared.faults.LineFault.{LineFault}
use Rattle.text_lines.specs.declared.faults.StreamFault.{StreamFault}
use Rattle.command_lines.specs.declared.grammar.LineCommand.{LineCommand}
use Rattle.cluster_script.specs.Headers.{asked_first}
use Rattle.cluster_script.specs.Played.{PlaysBehind, PlaysLines, StopsPlaying}
use Rattle.cluster_script.proofs.Scripts.{PlaysAll-err, PlaysSome-first, StopsPlaying-writing, StopsPlaying-behind, PlaysLines-behind}
use Rattle.cluster_script.proofs.script.play_all.Goals as goal

pub returns-in_default : goal.returns-in_default
returns-in_default g c =
    subst (λ (o : Option (Result LineCommand LineFault)). PlaysBehind (asked_first o)
    (reader_remaining g.R.Read.remaining c.args.reader.now) (reader_remaining g.R.Read.remaining c.play_lines.new.reader)
    c.args.left.now c.play_lines.new.left c.args.world.now c.play_lines.new.world
    (g.W.Write.contents c.args.writer.now) (g.W.Write.contents c.play_lines.new.writer) c.play_lines.result)
    (sym c.in_default.is) ([], tt, c.play_lines.ensures)

pub returns-in_err-is_fine : goal.returns-in_err-is_fine
returns-in_err-is_fine g c =
    let input = reader_remaining g.R.Read.remaining c.args.reader.now in
    let old = g.W.Write.contents c.args.writer.now in
    let new = g.W.Write.contents c.play_command.new.writer in
    let q = c.in_err-is_fine.ensures in
    let p = err_from_is_err_and c.from_residual.result c.from_residual.ensures.1 in
    subst (λ (o : Option (Result LineCommand LineFault)). PlaysBehind (asked_first o) input input c.args.left.now
    c.args.left.now c.args.world.now c.play_command.new.world old new c.from_residual.result) (sym c.in-Some.is) (
      q.0 ∷ [],
      (q.1, tt),
      PlaysAll-err (q.0 ∷ []) input input c.args.left.now c.args.left.now c.args.world.now c.play_command.new.world old
          new c.from_residual.result p.0 p.1
          (StopsPlaying-writing (q.0 ∷ []) input input c.args.left.now c.args.world.now old new
          c.in_err-is_fine.field-0.0 p.0 p.2 (PlaysSome-first input c.args.world.now q.0 old new q.2) refl),
    )

pub returns-in_err-others : goal.returns-in_err-others
returns-in_err-others g c =
    let input = reader_remaining g.R.Read.remaining c.args.reader.now in
    let rest = reader_remaining g.R.Read.remaining c.play_lines-2.new.reader in
    let old = g.W.Write.contents c.args.writer.now in
    let mid = g.W.Write.contents c.play_command.new.writer in
    let new = g.W.Write.contents c.play_lines-2.new.writer in
    let q = c.in_ok-is_fine.ensures in
    let p = err_from_is_err_and c.from_residual-in_err-others.result c.from_residual-in_err-others.ensures.1 in
    subst (λ (o : Option (Result LineCommand LineFault)). PlaysBehind (asked_first o) input rest c.args.left.now
    c.play_lines-2.new.left c.args.world.now c.play_lines-2.new.world old new c.from_residual-in_err-others.result)
    (sym c.in-Some.is) (
      q.0 ∷ [],
      (q.1, tt),
      PlaysAll-err (q.0 ∷ []) input rest c.args.left.now c.play_lines-2.new.left c.args.world.now
          c.play_lines-2.new.world old new c.from_residual-in_err-others.result p.0 p.1
          (subst (λ (f : StreamFault). StopsPlaying (q.0 ∷ []) input rest c.args.left.now c.args.world.now old new f)
          (sym p.2)
          (StopsPlaying-behind input rest c.args.world.now c.play_command.new.world q.0 old mid new c.in_ok-is_fine.is_fine
          q.2 c.args.left.now c.in_err-others.field-0.0 c.in_err-others.ensures)),
    )

pub returns : goal.returns
returns g c =
    let input = reader_remaining g.R.Read.remaining c.args.reader.now in
    let rest = reader_remaining g.R.Read.remaining c.play_lines-2.new.reader in
    let old = g.W.Write.contents c.args.writer.now in
    let mid = g.W.Write.contents c.play_command.new.writer in
    let new = g.W.Write.contents c.play_lines-2.new.writer in
    let q = c.in_ok-is_fine.ensures in
    subst (λ (o : Option (Result LineCommand LineFault)). PlaysBehind (asked_first o) input rest c.args.left.now
    c.play_lines-2.new.left c.args.world.now c.play_lines-2.new.world old new (Ok c.both.result)) (sym c.in-Some.is) (
      q.0 ∷ [],
      (q.1, tt),
      (
        subst (λ (b : Bool). PlaysLines (q.0 ∷ []) input rest c.args.left.now c.play_lines-2.new.left
            c.args.world.now c.play_lines-2.new.world old new b) (sym c.both.ensures)
            (PlaysLines-behind input rest c.args.world.now c.play_command.new.world q.0 old mid new
            c.in_ok-is_fine.is_fine q.2 c.args.left.now c.play_lines-2.new.left
            c.play_lines-2.new.world c.in_ok-others.others c.in_ok-others.ensures.0),
        c.in_ok-others.ensures.1,
      ),
    )
