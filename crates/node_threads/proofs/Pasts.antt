-- The book of a node, as its thread seals it.
use Rattle.std.proofs.Common.{ℕ, ◌≡◌, true, [], ◌∷◌, ◌++◌, Option, Ok, Err, ap, sym, subst, ◌∙◌}
use Rattle.std.specs.Prelude.{Result, IfOk, IfSome}
use Rattle.std.specs.Result.{result_ok}
use Rattle.node_seats.specs.Pages.{Book}
use Rattle.node_seats.specs.Books.{Known}
use Rattle.node_seats.specs.Moments.{moment}
use Rattle.replay.specs.Ends.{End}
use Rattle.node_threads.specs.Ended.{IsLeftBy, IsPastOf}

-- where it was sealed with the loop that left this end behind
pub past_of : {F : Type 0} (name : ℕ) (e : End) (left : IsLeftBy name e) (known : Known) (book : Book) → known.book ≡ book → (sealed : Result Known F)
    → IfOk sealed (λ p. p ≡ record known { log = known.log ++ moment true left.loop ∷ [] }) → (o : Option Known) → o ≡ result_ok sealed
    → IfSome o (IsPastOf name book e)
past_of name e left known book same (Ok past) h o is = subst (λ (x : Option Known). IfSome x (IsPastOf name book e)) (sym is) (record {
  book_is = ap (λ (k : Known). k.book) h ∙ same;
  left = left;
  ends = (known.log, ap (λ (k : Known). k.log) h);
})
past_of name e left known book same (Err fault) h o is = subst (λ (x : Option Known). IfSome x (IsPastOf name book e)) (sym is) tt
