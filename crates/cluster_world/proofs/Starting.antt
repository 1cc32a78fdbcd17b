-- What a world is started with.
use Rattle.std.proofs.Common.{ℕ, Bool, true, false, ◌==◌, ◌≡◌, Option, Some, None, List, [], ◌∷◌, get_or, map, refl, sym, ap, subst, ◌∙◌, inl, inr, arith}
use Rattle.std.specs.Prelude.{if◌then◌else◌, ◌&&◌, ◌||◌, find}
use Rattle.std.specs.List.{All}
use Rattle.std.proofs.Math.Path.{fun_ext}
use Rattle.std.proofs.Math.Bool.{and-true}
use Rattle.std.proofs.lemmas.Bool.{cases_eq, eq-eqb, eqb-true, ne_eqb, and_parts, and_from, or_cases, false_from_ne_true}
use Rattle.std.proofs.lemmas.List.Elements.{All-nil, All-map, All-head, All-tail}
use Rattle.registry_model.specs.Process.{Nodes, nobody}
use Rattle.registry_model.specs.Table.{without}
use Rattle.protocol_model.specs.Letter.{Letter as AnyLetter}
use Rattle.protocol_model.specs.Links.{Links, no_letters}
use Rattle.protocol_model.specs.Node.{Node, opening_node}
use Rattle.protocol_model.specs.World.{Opening, in_world, in_cluster}
use Rattle.getting_through.specs.NodeNames.{opening_of as all_creations}
use Rattle.getting_through.specs.NamedWorld.{NamedWorld, opening_named}
use Rattle.term.specs.Nodes.{IsFirst, text_in, name_of, creation_of}
use Rattle.term.specs.NodeSets.{set_of, with_older, IsNodeSet}
use Rattle.term.proofs.Older.{held}
use Rattle.boss_order.proofs.Sets.{set_of-item}
use Rattle.node_core.specs.declared.Letter.{Letter}
use Rattle.node_core.specs.CoreState.{CoreState, AreOf, fresh, opening_core}
use Rattle.node_core.specs.Seen.{node_of}
use Rattle.node_core.specs.Steps.{IsSaidBy}
use Rattle.cluster_world.specs.Links.{AreFit}
use Rattle.cluster_world.specs.Mail.{Mailed, links_of}
use Rattle.cluster_world.specs.WorldState.{WorldState}
use Rattle.cluster_world.specs.Whole.{IsWhole}
use Rattle.world_history.specs.declared.entry.HistoryEntry.{HistoryEntry}
use Rattle.world_history.specs.Histories.{entries_of}
use Rattle.cluster_world.specs.Cores.{core_of}
use Rattle.cluster_world.specs.Openings.{is_named_in, named_opening, creation_in, present_in}
use Rattle.cluster_world.specs.Seen.{names_of, or_else, core_at, node_with, named}
use Rattle.cluster_world.proofs.Naming.{text_or_name, names_in-of, node_named, started_inside}
use Rattle.cluster_world.proofs.Posting.{over}
use Rattle.cluster_world.proofs.Steps.{core_name, named_by, named-is}

-- the nodes of a list of first nodes are first
first_of : (xs : List ℕ) → All IsFirst xs → (c : ℕ) → set_of xs c ≡ true → IsFirst c
first_of [] all c e = absurd (cc e)
first_of (x ∷ xs) all c e = elim (or_cases (x == c) (set_of xs c) e) [
  | inl here ↦ subst IsFirst (eqb-true x c here) (All-head IsFirst x xs all)
  | inr behind ↦ first_of xs (All-tail IsFirst x xs all) c behind
]

-- the first nodes have the first creation
present_one : (xs : List ℕ) → All IsFirst xs → (x : ℕ) → present_in xs x ≡ 1
present_one [] all x = refl
present_one (c ∷ cs) all x = go (text_in c == x) (present_one cs (All-tail IsFirst c cs all) x)
  where
    go : (b : Bool) → creation_in (find (λ m. text_in m == x) cs) ≡ 1
        → creation_in (if b then Some c else find (λ m. text_in m == x) cs) ≡ 1
    go true e = let z : IsFirst c = All-head IsFirst c cs all in omega (arith, z)
    go false e = e

-- no letters are none between all creations
over_none : (O : Opening) (ns : List ℕ) → over O ns no_letters ≡ no_letters
over_none O ns = ap (λ (q : ℕ → ℕ → List AnyLetter). let w : Links AnyLetter = record { queue = q; closed = nobody } in w)
    (fun_ext (λ f. fun_ext (λ t. none (with_older ns t) (in_world O t))))
  where
    none : (b w : Bool) → (if b then [] else (if w && false then AnyLetter.Down ∷ [] else [])) ≡ []
    none true w = refl
    none false true = refl
    none false false = refl

module _ (nodes cluster : List ℕ) where
  opens_name : (a : ℕ) → (opening_core nodes cluster a).name ≡ a
  opens_name a = go (set_of cluster a)
    where
      go : (b : Bool) → (if b then fresh a nodes cluster true else fresh a nodes (a ∷ []) false).name ≡ a
      go true = refl
      go false = refl

  opens_world : (a : ℕ) → (opening_core nodes cluster a).world ≡ nodes
  opens_world a = go (set_of cluster a)
    where
      go : (b : Bool) → (if b then fresh a nodes cluster true else fresh a nodes (a ∷ []) false).world ≡ nodes
      go true = refl
      go false = refl

  names_are : (xs : List ℕ) → map core_name (map (opening_core nodes cluster) xs) ≡ xs
  names_are [] = refl
  names_are (x ∷ xs) = ap (λ (y : ℕ). y ∷ map core_name (map (opening_core nodes cluster) xs)) (opens_name x)
      ∙ ap (λ (ys : List ℕ). x ∷ ys) (names_are xs)

  found : (a : ℕ) (xs : List ℕ) → core_of a (map (opening_core nodes cluster) xs)
      ≡ (if set_of xs a then Some (opening_core nodes cluster a) else None)
  found a [] = refl
  found a (x ∷ xs) = ap (λ (y : ℕ). if y == a then Some (opening_core nodes cluster x) else core_of a
      (map (opening_core nodes cluster) xs)) (opens_name x)
      ∙ go (x == a) refl (found a xs)
    where
      go : (b : Bool) → (x == a) ≡ b → core_of a (map (opening_core nodes cluster) xs)
          ≡ (if set_of xs a then Some (opening_core nodes cluster a) else None)
          → (if b then Some (opening_core nodes cluster x) else core_of a (map (opening_core nodes cluster) xs))
          ≡ (if b || set_of xs a then Some (opening_core nodes cluster a) else None)
      go true e later = ap (λ (y : ℕ). Some (opening_core nodes cluster y)) (eqb-true x a e)
      go false e later = later

  turned : (a c : ℕ) → ((a == c) || false) ≡ ((c == a) && true)
  turned a c = elim (cases_eq a c) [
    | inl e ↦ rw (eq-eqb a c e, eq-eqb c a (sym e)) refl
    | inr ne ↦ rw (ne_eqb a c ne, ne_eqb c a (λ e. ne (sym e))) refl
  ]

  core_is : (a : ℕ) → node_of (opening_core nodes cluster a) ≡ opening_node (set_of cluster) a
  core_is a = go (set_of cluster a)
    where
      go : (b : Bool) → node_of (if b then fresh a nodes cluster true else fresh a nodes (a ∷ []) false)
          ≡ record (opening_node (set_of cluster) a) {
            replica = record {
              table = without nobody (if b then [] else []);
              members = λ c. (if b then set_of cluster c else c == a) && true;
              told = nobody;
              joined = b;
              notices = λ _. [];
            };
          }
      go true = ap (λ (s : Nodes). record (node_of (fresh a nodes cluster true))
          { replica = record { table = []; members = s; told = nobody; joined = true; notices = λ _. [] } })
          (fun_ext (λ c. sym (and-true (set_of cluster c))))
      go false = ap (λ (s : Nodes). record (node_of (fresh a nodes (a ∷ []) false))
          { replica = record { table = []; members = s; told = nobody; joined = false; notices = λ _. [] } })
          (fun_ext (turned a))

  -- the world of all creations of these nodes' names
  abbrev whole_of : Opening
  whole_of = all_creations (named_opening nodes cluster)

  module _ (first : All IsFirst nodes) (within : AreOf nodes cluster) where
    pub cluster_first : (c : ℕ) → set_of cluster c ≡ true → IsFirst c
    cluster_first c e = first_of nodes first c (within c e)

    -- those that are joined at first are the cluster
    cluster_is : in_cluster whole_of ≡ set_of cluster
    cluster_is = fun_ext (λ c. go c (set_of cluster c) refl)
      where
        go : (c : ℕ) (b : Bool) → set_of cluster c ≡ b → in_cluster whole_of c ≡ b
        go c true e =
            let z : IsFirst c = cluster_first c e in
            and_from (in_world whole_of c) (is_named_in cluster (text_in c) && (creation_of c == 1))
            (started_inside nodes cluster c (held nodes c (within c e)))
            (and_from (is_named_in cluster (text_in c)) (creation_of c == 1)
            (text_or_name cluster c ∙ names_in-of cluster c c e refl) (eq-eqb (creation_of c) 1 (omega (arith, z))))
        go c false e = false_from_ne_true (in_cluster whole_of c) (λ h.
            let parts : (is_named_in cluster (text_in c) ≡ true) × ((creation_of c == 1) ≡ true) =
            and_parts (is_named_in cluster (text_in c)) (creation_of c == 1)
            (and_parts (in_world whole_of c) (is_named_in cluster (text_in c) && (creation_of c == 1)) h).1 in
            let m : (m : ℕ) × (set_of cluster m ≡ true) × (name_of m ≡ name_of c) =
            node_named cluster (name_of c) (sym (text_or_name cluster c) ∙ parts.0) in
            let z : IsFirst m.0 = cluster_first m.0 m.1 in
            let n : name_of m.0 ≡ name_of c = m.2 in
            let k : creation_of c ≡ 1 = eqb-true (creation_of c) 1 parts.1 in
            let same : m.0 ≡ c = omega (arith, z, n, k) in
            cc (m.1, e, ap (set_of cluster) same))

    node_is : (a : ℕ) → node_with whole_of a (or_else (core_of a (map (opening_core nodes cluster) nodes)) None)
        ≡ opening_node (in_cluster whole_of) a
    node_is a = ap (λ (c : Option CoreState). node_with whole_of a (or_else c None)) (found a nodes) ∙ go (set_of nodes a)
      where
        go : (b : Bool) → node_with whole_of a (or_else (if b then Some (opening_core nodes cluster a) else None) None)
            ≡ opening_node (in_cluster whole_of) a
        go true = core_is a ∙ ap (λ (s : Nodes). opening_node s a) (sym cluster_is)
        go false = refl

    module _ (cores past : List CoreState) (links : Mailed) (history : List HistoryEntry)
        (made : cores ≡ map (opening_core nodes cluster) nodes) (nobody_yet : past ≡ [])
        (same : links.nodes ≡ nodes) (empty : links_of links ≡ no_letters) (none : history ≡ []) where
      -- what is held at the opening
      abbrev opened : WorldState
      opened = record { cluster = cluster; cores = cores; past = past; links = links; history = history }

      pub opens_named : named opened ≡ opening_named (names_of opened)
      opens_named =
          named-is opened
          ∙ ap (λ (ns : List ℕ). named_by ns cluster (λ x. core_at x opened) (links_of links) (entries_of history)) same
          ∙ ap (λ (w : Links Letter). named_by nodes cluster (λ x. core_at x opened) w (entries_of history)) empty
          ∙ ap (λ (es : List HistoryEntry). named_by nodes cluster (λ x. core_at x opened) no_letters (entries_of es)) none
          ∙ ap (λ (ps : List CoreState). named_by nodes cluster (λ x. or_else (core_of x cores) (core_of x ps)) no_letters []) nobody_yet
          ∙ ap (λ (cs : List CoreState). named_by nodes cluster (λ x. or_else (core_of x cs) None) no_letters []) made
          ∙ ap (λ (f : ℕ → Node). world_of f (over whole_of nodes no_letters) (present_in nodes)) (fun_ext node_is)
          ∙ ap (λ (l : Links AnyLetter). world_of (opening_node (in_cluster whole_of)) l (present_in nodes)) (over_none whole_of nodes)
          ∙ ap (λ (p : ℕ → ℕ). world_of (opening_node (in_cluster whole_of)) no_letters p) (fun_ext (present_one nodes first))
          ∙ ap (λ (ns : List ℕ). opening_named (named_opening ns cluster)) (sym same)
        where
          world_of : (ℕ → Node) → Links AnyLetter → (ℕ → ℕ) → NamedWorld
          world_of f l p = record { world = record { node = f; links = l; history = [] }; present = p }

      pub opens_whole : IsNodeSet nodes → IsWhole opened
      opens_whole set = record {
        set = subst IsNodeSet (sym same) set;
        cluster = λ k d l. cluster_first (get_or cluster k d) (set_of-item cluster k d l);
        names = ap (map core_name) made ∙ names_are nodes ∙ sym same;
        worlds = subst (λ (cs : List CoreState). All (λ c. with_older links.departed c.name ≡ false → c.world ≡ links.nodes) cs) (sym made)
            (All-map (λ (c : CoreState). with_older links.departed c.name ≡ false → c.world ≡ links.nodes) (opening_core nodes cluster) nodes
            (λ k d l stays. opens_world (get_or nodes k d) ∙ sym same));
        older = subst (λ (cs : List CoreState). All (λ c. (with_older links.nodes c.name ≡ true) × (set_of links.nodes c.name ≡ false)) cs)
            (sym nobody_yet) (All-nil (λ (c : CoreState). (with_older links.nodes c.name ≡ true) × (set_of links.nodes c.name ≡ false)));
        fit = subst (λ (w : Links Letter). AreFit links.nodes w) (sym empty)
            (record { known = λ f t e. refl; quiet = λ f t e. refl; said = λ f t. All-nil (IsSaidBy links.nodes t f) });
        events = [];
        reached = opens_named;
      }
