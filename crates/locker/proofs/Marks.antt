-- The marks of nodes by their places.
use Rattle.std.proofs.Common.{ℕ, Bool, false, suc, ◌==◌, ◌≡◌, ◌<◌, ◌≤◌, ◌-◌, Option, Some, None, List, [], ◌∷◌, length, take, get_or, set, map, refl, sym, ap, ◌∙◌, get_or-set_same, get_or-set_other, arith}
use Rattle.std.specs.Prelude.{not, is_some, ◌&&◌, ◌||◌, if◌then◌else◌}
use Rattle.std.specs.List.{list_any}
use Rattle.std.proofs.Math.Path.{fun_ext}
use Rattle.std.proofs.Math.ListN.{get_or-map}
use Rattle.registry_model.specs.Process.{at}
use Rattle.registry_model.proofs.Updates.{by_test}
use Rattle.protocol_model.specs.Round as protocol
use Rattle.protocol_model.specs.Round.{is_out, asked_too, mark_down, is_owes, has_granted, marked}
use Rattle.term.specs.NodeSets.{set_of}
use Rattle.boss_order.specs.Boss.{boss_of, others_of}
use Rattle.boss_order.proofs.Others.{set_of-others}
use Rattle.locker.specs.declared.mark.Mark.{Mark}
use Rattle.locker.specs.declared.mark.Mark.TheVariants.{Later, Owes, Granted, Refused, Lost, Gone}
use Rattle.locker.specs.RoundState.{RoundState, IsRound, as_mark, place, mark_at, seen}
use Rattle.term.proofs.NodeSets.{position-there}
use Rattle.term.proofs.NodePlaces.{place-Some, one_place}
use Rattle.locker.proofs.Places.{set_of-place, place-boss}

-- a node with a mark is asked
is_out-as_mark : (m : Mark) → is_out (as_mark m) ≡ false
is_out-as_mark Later = refl
is_out-as_mark Owes = refl
is_out-as_mark Granted = refl
is_out-as_mark Refused = refl
is_out-as_mark Lost = refl
is_out-as_mark Gone = refl

-- the nodes that are asked are those of the list
pub asked-seen : (h : RoundState) → set_of h.nodes ≡ protocol.asked (seen h)
asked-seen h = fun_ext (λ c. set_of-place c h.nodes ∙ go (place c h.nodes))
  where
    go : (p : Option ℕ) → is_some p ≡ not (is_out (mark_at p h.marks))
    go None = refl
    go (Some i) = sym (ap not (is_out-as_mark (get_or h.marks i Gone)))

-- all but the last are the rest
pub rest-seen : (h : RoundState) → IsRound h → set_of (others_of h.nodes) ≡ protocol.rest (seen h)
rest-seen h whole =
    fun_ext (λ c. set_of-others h.nodes whole.set whole.some c
    ∙ ap (λ (s : ℕ → Bool). s c && not (c == boss_of h.nodes)) (asked-seen h))

-- at a place that is known
pub mark_at-Some : (p : Option ℕ) (i : ℕ) (marks : List Mark) → p ≡ Some i
    → mark_at p marks ≡ as_mark (get_or marks i Gone)
mark_at-Some p i marks e = ap (λ (q : Option ℕ). mark_at q marks) e

-- the boss's mark is the last
pub mark_at-boss : (h : RoundState) → IsRound h
    → (seen h).mark (boss_of h.nodes) ≡ as_mark (get_or h.marks (length h.nodes - 1) Gone)
mark_at-boss h whole = mark_at-Some (place (boss_of h.nodes) h.nodes) (length h.nodes - 1) h.marks
    (place-boss h.nodes whole.set whole.some)

-- a mark that is written at a node's place is that node's
pub mark_at-set : (nodes : List ℕ) (marks : List Mark) (a j : ℕ) (m : Mark) → length nodes ≤ length marks
    → place a nodes ≡ Some j
    → (λ c. mark_at (place c nodes) (set marks j m)) ≡ at (λ c. mark_at (place c nodes) marks) a (as_mark m)
mark_at-set nodes marks a j m room e = fun_ext (by_test a
    (λ x b. mark_at (place x nodes) (set marks j m) ≡ (if b then as_mark m else mark_at (place x nodes) marks))
    (mark_at-Some (place a nodes) j (set marks j m) e
    ∙ ap as_mark (get_or-set_same marks j m Gone (omega (arith, (place-Some a nodes j e).0))))
    (λ x ne. other x ne (place x nodes) refl))
  where
    other : (x : ℕ) → (x ≡ a → ⊥) → (p : Option ℕ) → place x nodes ≡ p → mark_at p (set marks j m) ≡ mark_at p marks
    other x ne None q = refl
    other x ne (Some k) q =
        ap as_mark (get_or-set_other marks j k m Gone (λ same. ne (one_place x a nodes j (q ∙ ap Some same) e)))

-- the rest are asked
pub mark_at-asked_too : (old new : List Mark) → map as_mark new ≡ map (λ m. asked_too (as_mark m)) old
    → (p : Option ℕ) → mark_at p new ≡ asked_too (mark_at p old)
mark_at-asked_too old new e None = refl
mark_at-asked_too old new e (Some i) =
    sym (get_or-map as_mark new i Gone) ∙ ap (λ (ms : List protocol.Mark). get_or ms i protocol.Gone) e
    ∙ get_or-map (λ m. asked_too (as_mark m)) old i Gone

-- each node's mark stands at its place
mark_at-place : (h : RoundState) → IsRound h → (i : ℕ) → i < length h.nodes
    → (seen h).mark (get_or h.nodes i 0) ≡ as_mark (get_or h.marks i Gone)
mark_at-place h whole i inside = mark_at-Some (place (get_or h.nodes i 0) h.nodes) i h.marks
    (position-there h.nodes i (get_or h.nodes i 0) whole.set.rising (record { inside = inside; is = refl }))

-- marks that stand in the order of their nodes are asked as the nodes are
any_marked : (q : protocol.Mark → Bool) (f : ℕ → protocol.Mark) (xs : List ℕ) (ms : List Mark)
    → length xs ≤ length ms
    → ((i : ℕ) → i < length xs → f (get_or xs i 0) ≡ as_mark (get_or ms i Gone))
    → list_any (λ m. q (as_mark m)) (take (length xs) ms) ≡ list_any (λ c. q (f c)) xs
any_marked q f [] ms long is = refl
any_marked q f (x ∷ xs) [] long is = absurd (omega (arith, long))
any_marked q f (x ∷ xs) (m ∷ ms) long is =
    ap (λ (k : protocol.Mark). q k || list_any (λ m. q (as_mark m)) (take (length xs) ms)) (sym (is 0 (omega arith)))
    ∙ ap (λ (b : Bool). q (f x) || b)
    (any_marked q f xs ms (omega (arith, long)) (λ i inside. is (suc i) (omega (arith, inside))))

-- the same of a round's
pub any_mark : (h : RoundState) → IsRound h → (q : protocol.Mark → Bool)
    → list_any (λ m. q (as_mark m)) (take (length h.nodes) h.marks) ≡ list_any (λ c. q ((seen h).mark c)) h.nodes
any_mark h whole q = any_marked q (seen h).mark h.nodes h.marks (omega (arith, whole.set.fits, whole.room))
    (mark_at-place h whole)
