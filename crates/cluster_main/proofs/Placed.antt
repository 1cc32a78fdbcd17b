-- The nodes that two lists name can be started as a cluster.
use Rattle.std.proofs.Common.{ℕ, suc, ◌≡◌, ◌==◌, ◌||◌, ◌+◌, ◌<◌, ◌≤◌, Bool, true, false, List, [], ◌∷◌, ◌++◌, length, Option, Some, None, refl, sym, ap, ◌∙◌, subst, arith, length-append}
use Rattle.std.specs.Prelude.{nat_lt, codes}
use Rattle.std.specs.List.{AllZip}
use Rattle.std.specs.List.Sorted.{IsStrictlyIncreasing}
use Rattle.std.proofs.lemmas.Bool.{eq-eqb, le-ltb, or_parts, false≢true}
use Rattle.std.proofs.lemmas.List.Folds.{list_any-append}
use Rattle.std.proofs.lemmas.List.Splits.{length-slice_split}
use Rattle.term.specs.NodeLists.{SpellsNodes, parts_of, comma}
use Rattle.term.specs.NodeSets.{set_of}
use Rattle.term.specs.declared.limits.TheConstants.{MOST_NODES}
use Rattle.term.specs.Spelling.{SpellsNodeName}
use Rattle.term.proofs.NodeLists.{rising-tail}
use Rattle.term.proofs.NodeSets.{rises, set_of-fits}
use Rattle.arguments.specs.Nodes.{SpellsLone, shares}
use Rattle.arguments.specs.Reading.{TellsFine, Values}
use Rattle.arguments.specs.declared.mode.ServeOptions.{ServeOptions}
use Rattle.server.specs.Openings.{repeats, start_refused}
use Rattle.cluster_main.specs.Serving.{IsReady}

-- the first of rising nodes isn't among the others
head-misses : (c : ℕ) (cs : List ℕ) → IsStrictlyIncreasing (c ∷ cs) → set_of cs c ≡ false
head-misses c cs up = set_of-fits cs 0 c (record {
  inside = omega arith;
  before = λ k h. absurd (omega (arith, h));
  behind = λ k h inside. rises (c ∷ cs) 0 (suc k) up (omega arith) (omega (arith, inside));
})

-- rising nodes don't repeat
rising-once : (cs : List ℕ) → IsStrictlyIncreasing cs → repeats cs ≡ false
rising-once [] up = refl
rising-once (c ∷ cs) up = rw (head-misses c cs up) (rising-once cs (rising-tail c cs up))

-- rising nodes and others that share none with them don't repeat
apart-once : (cs lone : List ℕ) → IsStrictlyIncreasing cs → IsStrictlyIncreasing lone → shares cs lone ≡ false
    → repeats (cs ++ lone) ≡ false
apart-once [] lone up ups apart = rising-once lone ups
apart-once (c ∷ cs) lone up ups apart =
    let misses : set_of (cs ++ lone) c ≡ false =
    list_any-append (λ m. m == c) cs lone
    ∙ ap (λ (b : Bool). b || set_of lone c) (head-misses c cs up)
    ∙ (or_parts (set_of lone c) (shares cs lone) apart).0 in
    let rest = apart-once cs lone (rising-tail c cs up) ups (or_parts (set_of lone c) (shares cs lone) apart).1 in
    rw misses rest

-- nodes that don't repeat, and aren't too many, start a cluster where there is one that is joined
starts : (cs lone : List ℕ) → 0 < length cs → repeats (cs ++ lone) ≡ false → length cs + length lone ≤ MOST_NODES
    → start_refused cs lone ≡ None
starts [] lone some once fits = absurd (omega (arith, some))
starts (c ∷ cs) lone some once fits =
    let few : nat_lt MOST_NODES (length ((c ∷ cs) ++ lone)) ≡ false =
    le-ltb _ _ (omega (arith, length-append (c ∷ cs) lone, fits)) in
    rw once (rw few refl)

-- a list spells one node at least
spelled-some : (parts : List (List ℕ)) (names nodes : List ℕ) → 0 < length parts → AllZip SpellsNodeName parts names
    → ((c : ℕ) → set_of nodes c ≡ set_of names c) → 0 < length nodes
spelled-some [] names nodes some spelled named = absurd (omega (arith, some))
spelled-some (p ∷ parts) [] nodes some spelled named = absurd spelled
spelled-some (p ∷ parts) (n ∷ names) [] some spelled named = let here : set_of (n ∷ names) n ≡ true = rw (eq-eqb n n refl) refl in absurd (false≢true (named n ∙ here))
spelled-some (p ∷ parts) (n ∷ names) (m ∷ nodes) some spelled named = omega arith

some-node : (list nodes : List ℕ) → SpellsNodes list nodes → 0 < length nodes
some-node list nodes s =
    spelled-some (parts_of list) s.listed.names nodes
    (omega (arith, length-slice_split (λ (b : ℕ). b == comma) list)) s.listed.spelled s.listed.named

-- the lone nodes rise
lone-rises : (list : Option (List ℕ)) (lone : List ℕ) → SpellsLone list lone → IsStrictlyIncreasing lone
lone-rises None lone alone = subst IsStrictlyIncreasing (sym alone) (λ k inside. absurd (omega (arith, inside)))
lone-rises (Some list) lone alone = alone.listed.rising

-- the nodes of options that are told can be started as a cluster
pub ready : (value : Values) (o : ServeOptions) → TellsFine value o → IsReady o
ready value o t =
    let p = t.0.placed in
    record {
      starts = starts o.cluster o.lone (some-node t.0.list o.cluster p.joined)
          (apart-once o.cluster o.lone p.joined.listed.rising (lone-rises (value (codes "lone")) o.lone p.alone) p.apart) p.fits;
      together = t.1;
    }
