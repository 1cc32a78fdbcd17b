-- What a loop owes its readers makes it show the same, or more.
use Rattle.std.proofs.Common.{inl, inr, Some, None, sym, ap, subst, arith}
use Rattle.node_loop.specs.declared.edit.Note.{Note}
use Rattle.node_loop.specs.declared.edit.Note.TheVariants.{Nothing, One, Whole}
use Rattle.node_loop.specs.Held.{Looping}
use Rattle.node_loop.specs.Owing.{shown_by, LeadsTo}
use Rattle.node_books.specs.Onward.{ShowsMore, OwedIsMore, TakenIsMore}

leads_more : (a b : Looping) (n : Note) → LeadsTo n (shown_by a) (shown_by b) → ShowsMore a b
leads_more a b Nothing h = inl (sym h)
leads_more a b (One edit) h = inr h.1
leads_more a b Whole h = inr h.1

pub owed_is_more : OwedIsMore
owed_is_more a b h = leads_more a b b.owed.note h.leads

pub taken_is_more : TakenIsMore
taken_is_more a b c None h t = subst (ShowsMore a) (sym t.0) (owed_is_more a b h)
taken_is_more a b c (Some u) h t =
    let up = (t.2 (shown_by a) h).1 in
    let long = t.1 in
    let same = ap (λ (l : Looping). l.owed.length) t.0 in
    inr (omega (arith, up, long, same))
