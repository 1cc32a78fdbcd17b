-- Who left by the entries of a history.
use Rattle.std.proofs.Common.{◌≡◌, ℕ, ◌==◌, ◌||◌, List, [], ◌∷◌, ◌++◌, Bool, false, arith, sym, ◌∙◌, ap}
use Rattle.std.proofs.Math.Bool.{or-false, or_assoc}
use Rattle.std.proofs.lemmas.List.Sums.{fold-append}
use Rattle.std.specs.Prelude.{fold}
use Rattle.std.specs.List.{list_any}
use Rattle.std.specs.List.Sorted.{IsStrictlyIncreasing}
use Rattle.registry_model.specs.History.{Entry as AnyEntry}
use Rattle.term.specs.NodeSets.{set_of}
use Rattle.term.proofs.NodeLists.{rising-with_node}
use Rattle.term.proofs.NodeSets.{set_of-with_node}
use Rattle.world_history.specs.Histories.{left_with, left_in}

-- the node left by this entry
abbrev pub is_left_of : ℕ → AnyEntry → Bool
is_left_of d (AnyEntry.Left a) = a == d
is_left_of d _ = false

-- who left by one entry more
pub left_in-more : (es : List AnyEntry) (e : AnyEntry) → left_in (es ++ e ∷ []) ≡ left_with (left_in es) e
left_in-more es e = fold-append left_with [] es (e ∷ [])

-- they rise, as those before did
rising-left_with : (left : List ℕ) (e : AnyEntry) → IsStrictlyIncreasing left → IsStrictlyIncreasing (left_with left e)
rising-left_with left (AnyEntry.Left a) up = rising-with_node left a up
rising-left_with left _ up = up

rising-fold : (left : List ℕ) (es : List AnyEntry) → IsStrictlyIncreasing left → IsStrictlyIncreasing (fold left_with left es)
rising-fold left [] up = up
rising-fold left (e ∷ es) up = rising-fold (left_with left e) es (rising-left_with left e up)

-- those who left rise
pub left_rises : (es : List AnyEntry) → IsStrictlyIncreasing (left_in es)
left_rises es = rising-fold [] es (λ k inside. absurd (omega arith))

-- a node has left behind one entry more where it had left before, or leaves by it
pub holds-left_with : (left : List ℕ) (e : AnyEntry) (d : ℕ) → set_of (left_with left e) d ≡ (set_of left d || is_left_of d e)
holds-left_with left (AnyEntry.Left a) d = set_of-with_node left a d
holds-left_with left _ d = sym (or-false (set_of left d))

-- so it is in a history
pub left_holds : (es : List AnyEntry) (e : AnyEntry) (d : ℕ)
    → set_of (left_in (es ++ e ∷ [])) d ≡ (set_of (left_in es) d || is_left_of d e)
left_holds es e d = ap (λ (left : List ℕ). set_of left d) (left_in-more es e) ∙ holds-left_with (left_in es) e d

-- behind several these
holds-fold : (left : List ℕ) (es : List AnyEntry) (d : ℕ)
    → set_of (fold left_with left es) d ≡ (set_of left d || list_any (is_left_of d) es)
holds-fold left [] d = sym (or-false (set_of left d))
holds-fold left (e ∷ es) d =
    holds-fold (left_with left e) es d
    ∙ (ap (λ (b : Bool). b || list_any (is_left_of d) es) (holds-left_with left e d)
    ∙ or_assoc (set_of left d) (is_left_of d e) (list_any (is_left_of d) es))

-- a node has left by these entries where one of them says so
pub left_by_one : (es : List AnyEntry) (d : ℕ) → set_of (left_in es) d ≡ list_any (is_left_of d) es
left_by_one es d = holds-fold [] es d
