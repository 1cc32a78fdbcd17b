use Rattle.std.proofs.Common.{◌++◌, ℕ, take}
use Rattle.std.proofs.KnownBytes.{Appends-trans}
use Rattle.text_lines.proofs.Written.{written-more}
use Rattle.text_lines.proofs.writing.write_text.Goals as goal

pub loop-preserved : goal.loop-preserved
loop-preserved g c =
    let i = c.loop.invariant in
    let e = c.in_ok-count.ensures in
    let n : ℕ = c.in_ok-count.count in (
      i.0 ++ take n c.loop.rest.now,
      written-more c.args.text.now i.0 c.loop.rest.now n e.0 i.1,
      Appends-trans _ _ _ i.0
          _ i.2 e.1,
    )
