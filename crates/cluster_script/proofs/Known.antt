-- Reading on past empty lines.
use Rattle.std.proofs.Common.{ℕ, List, [], ◌≡◌, ◌+◌, Option, subst, append-nil}
use Rattle.text_lines.specs.Lines.{spoken, count_of_all, LosesLines, StopsAtLine, GoesPastFor}
use Rattle.text_lines.specs.declared.faults.StreamFault.{StreamFault}
use Rattle.cluster_script.specs.Played.{StopsReading}
use Rattle.text_lines.proofs.Known.{GoesPastFor-behind}

-- the line behind empty ones isn't read
pub StopsReading-behind : (a b c : Option (List ℕ)) (ls : List (List ℕ)) (most left : ℕ) → spoken ls ≡ []
    → LosesLines a b ls → most ≡ left + count_of_all ls
    → (f : StreamFault) → StopsAtLine b c left f → StopsReading a c most f
StopsReading-behind a b c ls most left s t e f g = (
  ls,
  g.0,
  s,
  (b, t, g.1),
  g.2,
  subst (λ (xs : List (List ℕ)). GoesPastFor f a most xs) (append-nil ls)
      (GoesPastFor-behind f a b ls [] most left t e g.3),
)
