-- Texts of sets of nodes, of whatever creations: what has been read of one, and why one spells no set.
use Rattle.std.proofs.Common.{◌≡◌, ℕ, ◌<◌, ◌≤◌, ◌==◌, ◌||◌, inl, inr, List, [], ◌∷◌, ◌++◌, length, Bool, true, false, not, arith, subst, sym, ◌∙◌, ap, refl, Option, Some, None, Result, Ok, Err, MatchResult, append_assoc}
use Rattle.std.proofs.lemmas.Bool.{cases_eq, ne_eqb}
use Rattle.std.proofs.lemmas.Slice.Zip.{all_zipped_more}
use Rattle.std.specs.List.{AllZip}
use Rattle.std.specs.List.Sorted.{IsStrictlyIncreasing}
use Rattle.std.specs.Result.{result_ok}
use Rattle.term.specs.declared.faults.TextFault.{TextFault}
use Rattle.term.specs.NodeLists.{SpellsNodeSet, parts_of}
use Rattle.term.specs.NodeSets.{IsNodeSet, HasNoRoom, set_of, with_node}
use Rattle.term.specs.Spelling.{SpellsNode, RefusesNode}
use Rattle.term.proofs.ExactNodes.{above_first, first_least, holds_first}
use Rattle.term.proofs.NodeLists.{HasRead, all_spelled, longer-with_node, next_part, read_more, rising-tail, rising-with_node, set_of-more}
use Rattle.term.proofs.OneNode.{exact_nodes}

-- rising nodes that are all among others are not more than these
not_more : (xs ys : List ℕ) → IsStrictlyIncreasing xs → IsStrictlyIncreasing ys
    → ((c : ℕ) → set_of xs c ≡ true → set_of ys c ≡ true) → length xs ≤ length ys
not_more [] ys up rise among = omega arith
not_more (x ∷ xs) [] up rise among = absurd (cc (among x (holds_first x xs)))
not_more (x ∷ xs) (y ∷ ys) up rise among =
    elim (cases_eq x y) [
      | inl same ↦
          let fewer : length xs ≤ length ys = not_more xs ys (rising-tail x xs up) (rising-tail y ys rise) (λ c h. from_rest same c h) in
          omega (arith, fewer)
      | inr other ↦
          let fewer : length (x ∷ xs) ≤ length ys = not_more (x ∷ xs) ys up (rising-tail y ys rise) (λ c h. from_all other c h) in
          omega (arith, fewer)
    ]
  where
    -- what is above the first is among those behind it
    past : (c : ℕ) → y < c → set_of (y ∷ ys) c ≡ true → set_of ys c ≡ true
    past c above h = rw (ne_eqb y c (λ e. omega (arith, e, above))) at h

    from_rest : x ≡ y → (c : ℕ) → set_of xs c ≡ true → set_of ys c ≡ true
    from_rest same c h =
        let above : x < c = above_first x xs c up h in
        past c (omega (arith, same, above)) (among c (rw (ne_eqb x c (λ e. omega (arith, e, above))) h))

    from_all : (x ≡ y → ⊥) → (c : ℕ) → set_of (x ∷ xs) c ≡ true → set_of ys c ≡ true
    from_all other c h =
        let low : x ≤ c = first_least x xs c up h in
        let least : y ≤ x = first_least y ys x rise (among x (holds_first x xs)) in
        past c (omega (arith, other, low, least)) (among c h)

-- what the parts in front spell is among what all spell
in_front : (parts more : List (List ℕ)) (named all : List ℕ) (c : ℕ) → AllZip SpellsNode parts named
    → AllZip SpellsNode (parts ++ more) all → set_of named c ≡ true → set_of all c ≡ true
in_front [] more [] all c s u h = absurd (cc h)
in_front [] more (x ∷ xs) all c s u h = absurd s
in_front (p ∷ ps) more [] all c s u h = absurd s
in_front (p ∷ ps) more (x ∷ xs) [] c s u h = absurd u
in_front (p ∷ ps) more (x ∷ xs) (y ∷ ys) c s u h =
    let same : x ≡ y = exact_nodes.one_value p x y s.0 u.0 in
    rw (← same) (either (x == c) (set_of xs c) (set_of ys c) h (λ i. in_front ps more xs ys c s.1 u.1 i))
  where
    either : (here xs_have ys_have : Bool) → (here || xs_have) ≡ true → (xs_have ≡ true → ys_have ≡ true) → (here || ys_have) ≡ true
    either true xs_have ys_have h f = refl
    either false xs_have ys_have h f = f h

-- where all parts spell nodes, one does
one_spells : (front behind : List (List ℕ)) (p : List ℕ) (named : List ℕ) → AllZip SpellsNode (front ++ p ∷ behind) named
    → (n : ℕ) × SpellsNode p n
one_spells [] behind p [] s = absurd s
one_spells [] behind p (n ∷ ns) s = (n, s.0)
one_spells (q ∷ qs) behind p [] s = absurd s
one_spells (q ∷ qs) behind p (n ∷ ns) s = one_spells qs behind p ns s.1

-- what is read of a part
pub spells : (part : List ℕ) (c : ℕ) (r : Result ℕ TextFault) → MatchResult r (SpellsNode part) (RefusesNode part) → result_ok r ≡ Some c
    → SpellsNode part c
spells part c (Ok n) parsed e = let same : n ≡ c = cc in subst (SpellsNode part) same parsed
spells part c (Err f) parsed e = absurd (cc e)

module _ {S A : Type 0} (steps : S → Option A → S → Type 0) (v : A → List ℕ) (bytes : List ℕ) (s t : S) (nodes : List ℕ)
    (read : HasRead SpellsNode steps v bytes s nodes false) where
  -- where no part is left, the set is spelled
  pub read_node_set : steps s None t → SpellsNodeSet bytes nodes
  read_node_set step = record {
    named = read.names;
    spelled = all_spelled SpellsNode steps v bytes s t nodes false read step;
    rising = read.set.rising;
    has = λ c. ap (λ (xs : List ℕ). set_of xs c) read.kept ∙ read.named c;
    fits = read.set.fits;
  }

  -- one more node is read
  pub one_more : (x : A) (c : ℕ) (after : List ℕ) (r : Result Bool TextFault) (is_new : Bool) → steps s (Some x) t
      → SpellsNode (v x) c
      → MatchResult r (λ is_new. (after ≡ with_node nodes c) × (is_new ≡ not (set_of nodes c))) (HasNoRoom nodes c)
      → result_ok r ≡ Some is_new → IsNodeSet after → HasRead SpellsNode steps v bytes t after false
  one_more x c after (Ok b) is_new step spelled inserted had set =
      read_more SpellsNode steps v bytes s t x c nodes after false (Ok b) read step spelled inserted set
  one_more x c after (Err f) is_new step spelled inserted had set = absurd (cc had)

  -- where a part is refused as a node, no set is spelled
  pub no_node : (x : A) (r : Result ℕ TextFault) → steps s (Some x) t → MatchResult r (SpellsNode (v x)) (RefusesNode (v x))
      → result_ok r ≡ None → (others : List ℕ) → SpellsNodeSet bytes others → ⊥
  no_node x (Ok n) step parsed none others set = absurd (cc none)
  no_node x (Err f) step parsed none others set =
      let next = next_part steps v s t x read.left read.yields step in
      let parts : parts_of bytes ≡ read.done ++ v x ∷ next.0 = read.parts ∙ ap (λ (ps : List (List ℕ)). read.done ++ ps) next.1 in
      let node : (n : ℕ) × SpellsNode (v x) n = one_spells read.done next.0 (v x) set.named
      (subst (λ (ps : List (List ℕ)). AllZip SpellsNode ps set.named) parts set.spelled) in
      exact_nodes.never_both (v x) node.0 f node.1 parsed

  -- and where a node has no room, none is
  pub no_room : (x : A) (c : ℕ) (after : List ℕ) (r : Result Bool TextFault) → steps s (Some x) t → SpellsNode (v x) c
      → MatchResult r (λ is_new. (after ≡ with_node nodes c) × (is_new ≡ not (set_of nodes c))) (HasNoRoom nodes c)
      → result_ok r ≡ None → (others : List ℕ) → SpellsNodeSet bytes others → ⊥
  no_room x c after (Ok b) step spelled full none others set = absurd (cc none)
  no_room x c after (Err f) step spelled full none others set =
      let next = next_part steps v s t x read.left read.yields step in
      let parts : parts_of bytes ≡ (read.done ++ v x ∷ []) ++ next.0 =
      read.parts ∙ (ap (λ (ps : List (List ℕ)). read.done ++ ps) next.1 ∙ sym (append_assoc read.done (v x ∷ []) next.0)) in
      let front : AllZip SpellsNode (read.done ++ v x ∷ []) (read.names ++ c ∷ []) =
      all_zipped_more SpellsNode read.done read.names (v x) c read.spelled spelled in
      let whole : AllZip SpellsNode ((read.done ++ v x ∷ []) ++ next.0) set.named =
      subst (λ (ps : List (List ℕ)). AllZip SpellsNode ps set.named) parts set.spelled in
      let among : (d : ℕ) → set_of (with_node nodes c) d ≡ true → set_of others d ≡ true =
      (λ (d : ℕ) (h : set_of (with_node nodes c) d ≡ true). set.has d
      ∙ in_front (read.done ++ v x ∷ []) next.0 (read.names ++ c ∷ []) set.named d front whole
      (sym (set_of-more nodes read.names c held d) ∙ h)) in
      let fewer : length (with_node nodes c) ≤ length others =
      not_more (with_node nodes c) others (rising-with_node nodes c read.set.rising) set.rising among in
      omega (arith, fewer, longer-with_node nodes c read.set.rising full.other, full.full, set.fits)
    where
      held : (d : ℕ) → set_of nodes d ≡ set_of read.names d
      held d = ap (λ (xs : List ℕ). set_of xs d) read.kept ∙ read.named d
