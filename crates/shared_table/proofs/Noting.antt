-- What a loop owes its readers is taken, and written down with the moment at which it stands then.
use Rattle.std.proofs.Common.{◌≡◌, ◌∙◌, false, List, [], ◌∷◌, ◌++◌, Some, ap, sym, subst}
use Rattle.node_books.specs.declared.Update.{Update}
use Rattle.node_books.specs.declared.Edition.{Edition}
use Rattle.node_books.specs.Held.{Looping}
use Rattle.node_books.specs.Owing.{shown_by, Owes, TakesUpdate}
use Rattle.node_books.specs.declared.moment.Moment.{Moment}
use Rattle.node_books.specs.Books.{Known}
use Rattle.node_books.specs.Moments.{moment, Follows, shown_at}
use Rattle.node_books.proofs.Taking.{owes_nothing, shown_behind, follows_behind}

-- by another name of what is known
pub follows_as : (a : Looping) (known more : Known) → more ≡ known → Follows known.log a × Owes a (shown_at known.log)
    → Follows more.log a × Owes a (shown_at more.log)
follows_as a known more is h = subst (λ (k : Known). Follows k.log a × Owes a (shown_at k.log)) (sym is) h

-- an update was taken, and its moment is the last one
pub follows_noted : (a b : Looping) (u : Update) → TakesUpdate (Some u) a b → (known more : Known) → Owes a (shown_at known.log)
    → more ≡ record known { log = known.log ++ moment false b ∷ [] } → Follows more.log b × Owes b (shown_at more.log)
follows_noted a b u taken known more owes added =
    let is : more.log ≡ known.log ++ moment false b ∷ [] = ap (λ (k : Known). k.log) added in
    let last : Owes b (shown_at (known.log ++ moment false b ∷ [])) =
    subst (λ (e : Edition). Owes b e) (sym (shown_behind known.log b)) (owes_nothing a b u taken (shown_at known.log) owes) in
    subst (λ (ms : List Moment). Follows ms b × Owes b (shown_at ms)) (sym is) (follows_behind known.log b, last)

-- nothing was owed, and its moment is the last one
pub follows_again : (b : Looping) (known more : Known) → Owes b (shown_at known.log) → shown_at known.log ≡ shown_by b
    → more ≡ record known { log = known.log ++ moment false b ∷ [] } → Follows more.log b × Owes b (shown_at more.log)
follows_again b known more owes same added =
    let is : more.log ≡ known.log ++ moment false b ∷ [] = ap (λ (k : Known). k.log) added in
    let last : Owes b (shown_at (known.log ++ moment false b ∷ [])) =
    subst (λ (e : Edition). Owes b e) (same ∙ sym (shown_behind known.log b)) owes in
    subst (λ (ms : List Moment). Follows ms b × Owes b (shown_at ms)) (sym is) (follows_behind known.log b, last)
