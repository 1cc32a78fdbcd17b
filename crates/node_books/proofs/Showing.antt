-- What the moments of one node show.
use Rattle.std.proofs.Common.{◌≡◌, inl, inr, ◌<◌, List, [], ◌∷◌, ◌++◌, refl, ap, sym, ◌∙◌, subst, ⊎_elim, arith}
use Rattle.node_loop.specs.declared.edit.Edition.{Edition}
use Rattle.node_loop.specs.Held.{Looping}
use Rattle.node_loop.specs.Owing.{shown_by}
use Rattle.node_books.specs.declared.moment.Moment.{Moment}
use Rattle.node_books.specs.Onward.{ShowsMore}
use Rattle.node_books.specs.Moments.{Rises, last_from, LengthsTell}

same_length : (a b : Looping) → shown_by b ≡ shown_by a → b.owed.length ≡ a.owed.length
same_length a b e = ap (λ (f : Edition). f.length) e

shows_trans : (a b c : Looping) → ShowsMore a b → ShowsMore b c → ShowsMore a c
shows_trans a b c (inl e) (inl f) = inl (f ∙ e)
shows_trans a b c (inl e) (inr f) = let h = same_length a b e in inr (omega (arith, h, f))
shows_trans a b c (inr e) (inl f) = let h = same_length b c f in inr (omega (arith, h, e))
shows_trans a b c (inr e) (inr f) = inr (omega (arith, e, f))

shows_on : (m : Moment) (ms : List Moment) → Rises m ms → ShowsMore m.node (last_from m ms).node
shows_on m [] h = inl refl
shows_on m (n ∷ ms) h = shows_trans m.node n.node (last_from n ms).node h.0.2 (shows_on n ms h.1)

rises_behind : (m : Moment) (xs rest : List Moment) → Rises m (xs ++ rest) → Rises (last_from m xs) rest
rises_behind m [] rest h = h
rises_behind m (x ∷ xs) rest h = rises_behind x xs rest h.1

last_append : (m : Moment) (xs rest : List Moment) → last_from m (xs ++ rest) ≡ last_from (last_from m xs) rest
last_append m [] rest = refl
last_append m (x ∷ xs) rest = last_append x xs rest

pub lengths_tell : LengthsTell
lengths_tell [] many p h some le = absurd (omega (arith, some))
lengths_tell (x ∷ few) [] p h some le = absurd (cc (p.1))
lengths_tell (x ∷ few) (y ∷ many) p h some le =
    let one : x ≡ y = cc (p.1) in
    let rest : few ++ p.0 ≡ many = cc (p.1) in
    let all : Rises x (few ++ p.0) = subst (λ (l : List Moment). Rises x l) (sym rest) (subst (λ (k : Moment). Rises k many) (sym one) h.1) in
    let behind : ShowsMore (last_from x few).node (last_from (last_from x few) p.0).node = shows_on (last_from x few) p.0 (rises_behind x few p.0 all) in
    let end : last_from (last_from x few) p.0 ≡ last_from y many =
    sym (last_append x few p.0) ∙ (ap (last_from x) rest ∙ ap (λ (k : Moment). last_from k many) one) in
    let more : ShowsMore (last_from x few).node (last_from y many).node = subst (λ (k : Moment). ShowsMore (last_from x few).node k.node) end behind in
    ⊎_elim (λ (s : shown_by (last_from y many).node ≡ shown_by (last_from x few).node). sym s)
    (λ (s : (last_from x few).node.owed.length < (last_from y many).node.owed.length). absurd (omega (arith, le, s))) more
