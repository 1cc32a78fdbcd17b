use Rattle.std.proofs.Common.{refl, arith}
use Rattle.replay.proofs.Sameness.{neither, not_false}
use Rattle.replay.proofs.transcripts.fits.Goals as goal

pub returns-then-not-is_followed : goal.returns-then-not-is_followed
returns-then-not-is_followed g c = neither (λ F. not_false c.if-not-is_followed.ensures F.followed)

pub returns-then-count-gt1 : goal.returns-then-count-gt1
returns-then-count-gt1 g c = neither (λ F. omega (arith, F.once, c.number_of-count.ensures, c.if-count-gt1.true))

pub returns : goal.returns
returns g c = (
  λ t. record {
    followed = c.if-not-is_followed.ensures.0 refl;
    once = omega (arith, c.number_of-count.ensures, c.if-count-gt1.false);
  },
  λ F. refl,
)
