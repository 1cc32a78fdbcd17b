-- What the lists of a cluster that was started say.
use Rattle.std.proofs.Common.{ℕ, Bool, true, false, ◌==◌, ◌≡◌, ◌<◌, ◌≤◌, Some, None, List, [], ◌∷◌, ◌++◌, length, map, get_or, refl, sym, ap, subst, ◌∙◌, inl, inr, arith}
use Rattle.std.specs.Prelude.{if◌then◌else◌, ◌||◌, ◌&&◌, nat_lt, All}
use Rattle.std.proofs.lemmas.Bool.{cases_eq, eq-eqb, ne_eqb}
use Rattle.std.proofs.lemmas.Bool.Decides.{nat_tests}
use Rattle.std.proofs.lemmas.List.{length-map, get_or-map}
use Rattle.std.proofs.lemmas.List.Elements.{All-map, All-same}
use Rattle.std.proofs.lemmas.List.Folds.{list_any_at}
use Rattle.std.proofs.Math.Bool.{and-false, and-true, or-true}
use Rattle.std.proofs.Math.Path.{fun_ext}
use Rattle.registry_model.specs.Process.{Nodes, nobody}
use Rattle.registry_model.specs.Table.{without}
use Rattle.protocol_model.specs.Node.{opening_node}
use Rattle.protocol_model.specs.World.{Opening as AnyOpening, in_world, in_cluster}
use Rattle.replay.proofs.Opened.{opening_same, world_is}
use Rattle.term.specs.Nodes.{IsFirst}
use Rattle.term.specs.NodeSets.{set_of}
use Rattle.term.specs.declared.limits.TheConstants.{MOST_NODES}
use Rattle.term.proofs.Subsets.{set_of-append}
use Rattle.node_loop.specs.declared.StartFault.TheVariants.{SameNode, TooManyNodes}
use Rattle.node_loop.specs.NodeCoreState.{CoreState, bound_of, fresh, opening_core}
use Rattle.node_loop.specs.NodeCoreSeen.{node_of}
use Rattle.node_loop.specs.Openings.{Opened, repeats, start_refused, opening_with, IsOpening}
use Rattle.node_loop.specs.Sound.{IsNodeOf, opened}
use Rattle.node_threads.specs.Wires.{Wired, name_of, Opens}
use Rattle.node_threads.specs.Berths.{Berthed, wired_of, opened_of, IsOpened}

taken : (b d : Bool) → (if b then Some SameNode else (if d then Some TooManyNodes else None)) ≡ None → (b ≡ false) × (d ≡ false)
taken true d e = absurd (cc e)
taken false true e = absurd (cc e)
taken false false e = (refl, refl)

not_more : (n : ℕ) → nat_lt MOST_NODES n ≡ false → n ≤ MOST_NODES
not_more n e = grind (arith, nat_tests)

-- no node stands twice in lists that a world is started with, and there are not too many
pub once : (cluster lone : List ℕ) → start_refused cluster lone ≡ None → repeats (cluster ++ lone) ≡ false
once [] lone e = absurd (cc e)
once (c ∷ cs) lone e = (taken (repeats ((c ∷ cs) ++ lone)) (nat_lt MOST_NODES (length ((c ∷ cs) ++ lone))) e).0

pub few : (cluster lone : List ℕ) → start_refused cluster lone ≡ None → length (cluster ++ lone) ≤ MOST_NODES
few [] lone e = absurd (cc e)
few (c ∷ cs) lone e =
    not_more _ (taken (repeats ((c ∷ cs) ++ lone)) (nat_lt MOST_NODES (length ((c ∷ cs) ++ lone))) e).1

-- the nodes of both lists are those of the world
module _ (cluster lone : List ℕ) (o : Opened) (opens : IsOpening cluster lone o) where
  pub joined_known : All (λ c. set_of o.nodes c ≡ true) cluster
  joined_known k d l = let c = get_or cluster k d in
      opens.nodes c ∙ set_of-append cluster lone c
      ∙ ap (λ (b : Bool). b || set_of lone c) (list_any_at (λ m. m == c) cluster k d l (eq-eqb c c refl))

  pub lone_known : All (λ c. set_of o.nodes c ≡ true) lone
  lone_known k d l = let c = get_or lone k d in
      opens.nodes c ∙ set_of-append cluster lone c
      ∙ ap (λ (b : Bool). set_of cluster c || b) (list_any_at (λ m. m == c) lone k d l (eq-eqb c c refl))
      ∙ or-true (set_of cluster c)

-- the core that a node opens with
module _ (nodes cluster : List ℕ) where
  opens_name : (a : ℕ) → (opening_core nodes cluster a).name ≡ a
  opens_name a = go (set_of cluster a)
    where
      go : (b : Bool) → (if b then fresh a nodes cluster true else fresh a nodes (a ∷ []) false).name ≡ a
      go true = refl
      go false = refl

  opens_world : (a : ℕ) → (opening_core nodes cluster a).world ≡ nodes
  opens_world a = go (set_of cluster a)
    where
      go : (b : Bool) → (if b then fresh a nodes cluster true else fresh a nodes (a ∷ []) false).world ≡ nodes
      go true = refl
      go false = refl

  -- itself alone, or with the others of the cluster, as the protocol has it
  alone : (a c : ℕ) → ((a == c) || false) ≡ ((c == a) && true)
  alone a c = elim (cases_eq a c) [
    | inl e ↦ rw (eq-eqb a c e, eq-eqb c a (sym e)) refl
    | inr ne ↦ rw (ne_eqb a c ne, ne_eqb c a (λ e. ne (sym e))) refl
  ]

  node_is : (a : ℕ) → node_of (opening_core nodes cluster a) ≡ opening_node (set_of cluster) a
  node_is a = go (set_of cluster a)
    where
      go : (b : Bool) → node_of (if b then fresh a nodes cluster true else fresh a nodes (a ∷ []) false)
          ≡ record (opening_node (set_of cluster) a) {
            replica = record {
              table = without nobody (if b then [] else []);
              members = λ c. (if b then set_of cluster c else c == a) && true;
              told = nobody;
              joined = b;
              notices = λ serial. [];
            };
          }
      go true = ap (λ (s : Nodes). record (node_of (fresh a nodes cluster true))
          { replica = record { table = []; members = s; told = nobody; joined = true; notices = λ serial. [] } })
          (fun_ext (λ c. sym (and-true (set_of cluster c))))
      go false = ap (λ (s : Nodes). record (node_of (fresh a nodes (a ∷ []) false))
          { replica = record { table = []; members = s; told = nobody; joined = false; notices = λ serial. [] } })
          (fun_ext (alone a))

  within_is : ((c : ℕ) → set_of cluster c ≡ true → set_of nodes c ≡ true) → in_cluster (opening_with nodes cluster) ≡ set_of cluster
  within_is within = fun_ext (λ c. go c (set_of cluster c) refl)
    where
      go : (c : ℕ) (b : Bool) → set_of cluster c ≡ b → (in_world (opening_with nodes cluster) c && b) ≡ b
      go c true e = ap (λ (s : Nodes). s c && true) (world_is nodes cluster) ∙ ap (λ (b : Bool). b && true) (within c e)
      go c false e = and-false (in_world (opening_with nodes cluster) c)

  -- it is one of the world that opens so, as it opens
  of_world : All IsFirst nodes → (a : ℕ) → set_of nodes a ≡ true → IsNodeOf (opening_with nodes cluster) (opening_core nodes cluster a)
  of_world first a known = record {
    bound = ap bound_of (sym (opens_world a));
    inside = world_is nodes cluster ∙ ap set_of (sym (opens_world a));
    here = ap (λ (ns : List ℕ). set_of ns (opening_core nodes cluster a).name) (opens_world a)
        ∙ ap (set_of nodes) (opens_name a) ∙ known;
    first = subst (All IsFirst) (sym (opens_world a)) first;
  }

  as_opened : ((c : ℕ) → set_of cluster c ≡ true → set_of nodes c ≡ true) → (a : ℕ)
      → node_of (opening_core nodes cluster a) ≡ opened (opening_with nodes cluster) (opening_core nodes cluster a)
  as_opened within a = node_is a ∙ ap (λ (s : Nodes). opening_node s a) (sym (within_is within))
      ∙ ap (opening_node (in_cluster (opening_with nodes cluster))) (sym (opens_name a))

-- a node that was opened so opens as one of a world of these lists
module _ (cluster lone : List ℕ) (o : Opened) (is : IsOpening cluster lone o) where
  joined_within : (c : ℕ) → set_of o.cluster c ≡ true → set_of o.nodes c ≡ true
  joined_within c e = is.nodes c ∙ set_of-append cluster lone c ∙ ap (λ (b : Bool). b || set_of lone c) (sym (is.joined c) ∙ e)

  abbrev core_at : ℕ → CoreState
  core_at a = opening_core o.nodes o.cluster a

  opens_one : All IsFirst o.nodes → (w : Wired) → set_of (cluster ++ lone) (name_of w) ≡ true → w.core ≡ core_at (name_of w)
      → Opens cluster lone w
  opens_one first w known core = record {
    name = ap (λ (h : CoreState). h.name) core ∙ opens_name o.nodes o.cluster (name_of w);
    of = subst (IsNodeOf (opening_with (cluster ++ lone) cluster)) (sym core)
        (subst (λ (p : AnyOpening). IsNodeOf p (core_at (name_of w))) (opening_same cluster lone o is)
        (of_world o.nodes o.cluster first (name_of w) (is.nodes (name_of w) ∙ known)));
    node = subst (λ (h : CoreState). node_of h ≡ opened (opening_with (cluster ++ lone) cluster) h) (sym core)
        (subst (λ (p : AnyOpening). node_of (core_at (name_of w)) ≡ opened p (core_at (name_of w))) (opening_same cluster lone o is)
        (as_opened o.nodes o.cluster joined_within (name_of w)));
  }

  -- so do all of these, however they were connected since
  pub opens_all : All IsFirst o.nodes → (before bs : List Berthed) → map name_of (wired_of before) ≡ cluster ++ lone → All (IsOpened o) before
      → map opened_of bs ≡ map opened_of before → All (Opens cluster lone) (wired_of bs)
  opens_all first before bs names all same = All-map (Opens cluster lone) (λ b. b.wired) bs (λ k d lt.
      let h = All-same (Opens cluster lone) (map opened_of bs) (map opened_of before) same
      (All-map (Opens cluster lone) opened_of before (λ i b l. opens_one first (opened_of (get_or before i b)) (known i b l) (all i b l).core)) k
      (opened_of d) (omega (arith, lt, length-map bs opened_of)) in
      as_wired (get_or bs k d) (subst (Opens cluster lone) (get_or-map opened_of bs k d (opened_of d) lt) h))
    where
      as_wired : (b : Berthed) → Opens cluster lone (opened_of b) → Opens cluster lone b.wired
      as_wired b O = record { name = O.name; of = O.of; node = O.node }

      known : (i : ℕ) (b : Berthed) → i < length before → set_of (cluster ++ lone) (name_of (get_or before i b).wired) ≡ true
      known i b l = ap (λ (ns : List ℕ). set_of ns (name_of (get_or before i b).wired)) (sym names)
          ∙ list_any_at (λ m. m == name_of (get_or before i b).wired) (map name_of (wired_of before)) i (name_of b.wired)
          (omega (arith, l, length-map (wired_of before) name_of, length-map before (λ (x : Berthed). x.wired)))
          (eq-eqb _ _ (get_or-map name_of (wired_of before) i b.wired (name_of b.wired) (omega (arith, l, length-map before (λ (x : Berthed). x.wired)))
          ∙ ap name_of (get_or-map (λ (x : Berthed). x.wired) before i b b.wired l)))

  -- and the names of them are those of the lists still
  pub names_all : (before bs : List Berthed) → map name_of (wired_of before) ≡ cluster ++ lone
      → map opened_of bs ≡ map opened_of before → map name_of (wired_of bs) ≡ cluster ++ lone
  names_all before bs names same = sym (by_opened bs) ∙ ap (map name_of) same ∙ by_opened before ∙ names
    where
      by_opened : (xs : List Berthed) → map name_of (map opened_of xs) ≡ map name_of (wired_of xs)
      by_opened [] = refl
      by_opened (x ∷ xs) = ap (λ (ns : List ℕ). name_of x.wired ∷ ns) (by_opened xs)
