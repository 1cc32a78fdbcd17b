-- Worlds in which no name has come back: their nodes are the first ones of their names.
use Rattle.std.proofs.Common.{ℕ, Bool, true, false, ◌==◌, ◌≡◌, ◌<◌, ◌≤◌, inl, inr, Option, Some, None, List, [], ◌∷◌, ◌++◌, refl, sym, ap, subst, ◌∙◌, arith, get_or}
use Rattle.std.specs.Prelude.{◌&&◌, ◌||◌, All, find, if◌then◌else◌}
use Rattle.std.specs.List.{list_any}
use Rattle.std.proofs.Math.Path.{fun_ext}
use Rattle.std.proofs.Math.Bool.{and-false, and-true, or-true}
use Rattle.std.proofs.lemmas.Bool.{eq-eqb, eqb-true, ne_eqb, cases_eq}
use Rattle.std.proofs.lemmas.List.Elements.{All-head, All-tail}
use Rattle.std.proofs.lemmas.Option.{slice_get-get_or}
use Rattle.registry_model.specs.Process.{Nodes}
use Rattle.cluster_world.specs.NodeNames.{NamedOpening}
use Rattle.cluster_world.specs.NamedWorld.{NamedWorld, named_refusal, happens_named, run_named}
use Rattle.cluster_world.specs.NobodyBack.{first_opening}
use Rattle.term.specs.Nodes.{IsFirst, name_of, text_in, creation_of}
use Rattle.term.specs.NodeSets.{set_of, names_in}
use Rattle.replay.proofs.Merging.{set_of-at}
use Rattle.term.proofs.Numbers.{name_of-first}
use Rattle.cluster_world.specs.NodeCoreState.{bound_of}
use Rattle.cluster_world.specs.WorldState.{WorldState, nodes_of}
use Rattle.cluster_world.specs.Openings.{named_opening, name_bound, is_named_in, present_in, creation_in}
use Rattle.cluster_world.specs.Seen.{names_of, named}
use Rattle.cluster_world.specs.Starting.{Opens}
use Rattle.cluster_world.proofs.Naming.{bound_is, text_or_name}
use Rattle.node_log.specs.Openings.{opening_with}
use Rattle.node_log.specs.declared.WorldEvent.{WorldEvent}
use Rattle.node_log.specs.declared.WorldEvent.TheVariants.{At, Deliver, Restart}
use Rattle.node_log.specs.Events.{named_event}
use Rattle.replay.specs.Playing.{TakesAll}
use Rattle.replay.specs.Steps.{Step, events_in, is_restart}

-- a test that some node of a list passes depends on its nodes alone
pub some_passes : (p : ℕ → Bool) (xs : List ℕ) (n : ℕ) → set_of xs n ≡ true → p n ≡ true → list_any p xs ≡ true
some_passes p [] n e t = cc
some_passes p (x ∷ xs) n e t = go (x == n) refl e (λ h. some_passes p xs n h t)
  where
    go : (b : Bool) → (x == n) ≡ b → (b || set_of xs n) ≡ true → (set_of xs n ≡ true → list_any p xs ≡ true)
        → (p x || list_any p xs) ≡ true
    go true same h rest = ap (λ (b : Bool). b || list_any p xs) (ap p (eqb-true x n same) ∙ t)
    go false other h rest = ap (λ (b : Bool). p x || b) (rest h) ∙ or-true (p x)

passes_in : (p : ℕ → Bool) (xs ys : List ℕ) → ((c : ℕ) → set_of xs c ≡ true → set_of ys c ≡ true) → list_any p xs ≡ true
    → list_any p ys ≡ true
passes_in p [] ys within e = cc
passes_in p (x ∷ xs) ys within e =
    go (p x) refl e (passes_in p xs ys (λ c i. within c (ap (λ (b : Bool). (x == c) || b) i ∙ or-true (x == c))))
  where
    go : (b : Bool) → p x ≡ b → (b || list_any p xs) ≡ true → (list_any p xs ≡ true → list_any p ys ≡ true) → list_any p ys ≡ true
    go true t h rest = some_passes p ys x (within x (ap (λ (b : Bool). b || set_of xs x) (eq-eqb x x refl))) t
    go false t h rest = rest h

both_ways : (a b : Bool) → (a ≡ true → b ≡ true) → (b ≡ true → a ≡ true) → a ≡ b
both_ways true b f g = sym (f refl)
both_ways false true f g = g refl
both_ways false false f g = refl

any_same : (p : ℕ → Bool) (xs ys : List ℕ) → ((c : ℕ) → set_of xs c ≡ set_of ys c) → list_any p xs ≡ list_any p ys
any_same p xs ys same = both_ways (list_any p xs) (list_any p ys)
    (passes_in p xs ys (λ c i. sym (same c) ∙ i)) (passes_in p ys xs (λ c i. same c ∙ i))

-- so does the bound of its names
bound_within : (xs : List ℕ) (n : ℕ) → ((c : ℕ) → set_of xs c ≡ true → text_in c < n) → name_bound xs ≤ n
bound_within [] n below = omega arith
bound_within (x ∷ xs) n below = omega (
  arith,
  below x (ap (λ (b : Bool). b || set_of xs x) (eq-eqb x x refl)),
  bound_within xs n (λ c inside. below c (ap (λ (b : Bool). (x == c) || b) inside ∙ or-true (x == c))),
)

below_bound : (xs : List ℕ) (c : ℕ) → set_of xs c ≡ true → text_in c < name_bound xs
below_bound [] c e = cc
below_bound (x ∷ xs) c e = elim (cases_eq x c) [
  | inl same ↦ omega (arith, ap text_in same)
  | inr ne ↦ omega (arith, below_bound xs c (rw (ne_eqb x c ne) at e))
]

-- what a list names depends on its nodes alone
pub names_same : (xs ys cluster joined : List ℕ) → ((c : ℕ) → set_of xs c ≡ set_of ys c)
    → ((c : ℕ) → set_of cluster c ≡ set_of joined c) → named_opening xs cluster ≡ named_opening ys joined
names_same xs ys cluster joined same joins =
    ap (λ (n : ℕ). record (named_opening xs cluster) { bound = n }) bounds
    ∙ ap (λ (s : Nodes). record (named_opening ys cluster) { names = s }) (fun_ext (λ x. any_same (λ m. text_in m == x) xs ys same))
    ∙ ap (λ (s : Nodes). record (named_opening ys joined) { cluster = s }) (fun_ext (λ x. any_same (λ m. text_in m == x) cluster joined joins))
  where
    bounds : name_bound xs ≡ name_bound ys
    bounds = omega (
      arith,
      bound_within xs (name_bound ys) (λ c i. below_bound ys c (sym (same c) ∙ i)),
      bound_within ys (name_bound xs) (λ c i. below_bound xs c (same c ∙ i)),
    )

pub opens_names : (cluster lone : List ℕ) (h : WorldState) → Opens cluster lone h → names_of h ≡ named_opening (cluster ++ lone) cluster
opens_names cluster lone h O = names_same (nodes_of h) (cluster ++ lone) h.cluster cluster O.nodes O.joined

-- a node of first nodes is one
pub first_of : (xs : List ℕ) → All IsFirst xs → (c : ℕ) → set_of xs c ≡ true → IsFirst c
first_of [] all c e = cc
first_of (x ∷ xs) all c e = elim (cases_eq x c) [
  | inl same ↦ subst IsFirst same (All-head IsFirst x xs all)
  | inr ne ↦ first_of xs (All-tail IsFirst x xs all) c (rw (ne_eqb x c ne) at e)
]

-- a world of first nodes was started with lists of first nodes
pub firsts : (cluster lone : List ℕ) (h : WorldState) → Opens cluster lone h → All IsFirst (nodes_of h) → All IsFirst (cluster ++ lone)
firsts cluster lone h O all = λ k d l. first_of (nodes_of h) all (get_or (cluster ++ lone) k d)
    (O.nodes (get_or (cluster ++ lone) k d) ∙ set_of-at (cluster ++ lone) k (get_or (cluster ++ lone) k d) (slice_get-get_or (cluster ++ lone) k d l))

-- the names of first nodes are these
named_first : (xs : List ℕ) → All IsFirst xs → (x : ℕ) → names_in xs x ≡ set_of xs x
named_first [] all x = refl
named_first (m ∷ ms) all x = ap (λ (k : ℕ). (k == x) || names_in ms x) (name_of-first m (All-head IsFirst m ms all))
    ∙ ap (λ (b : Bool). (m == x) || b) (named_first ms (All-tail IsFirst m ms all) x)

-- the first nodes of the names of first nodes are these
first_nodes : (xs : List ℕ) → All IsFirst xs → (n : ℕ) → (is_named_in xs (text_in n) && (creation_of n == 1)) ≡ set_of xs n
first_nodes xs all n = ap (λ (b : Bool). b && (creation_of n == 1)) (text_or_name xs n ∙ named_first xs all (name_of n))
    ∙ go (creation_of n == 1) refl
  where
    go : (b : Bool) → (creation_of n == 1) ≡ b → (set_of xs (name_of n) && b) ≡ set_of xs n
    go true e = and-true (set_of xs (name_of n))
        ∙ ap (set_of xs) (name_of-first n (let one = eqb-true (creation_of n) 1 e in omega (arith, one)))
    go false e = and-false (set_of xs (name_of n)) ∙ sym (none (set_of xs n) refl)
      where
        none : (b : Bool) → set_of xs n ≡ b → set_of xs n ≡ false
        none true i = absurd (cc (eq-eqb (creation_of n) 1 (let at = first_of xs all n i in omega (arith, at)), e))
        none false i = i

-- the world of the first nodes of these is that which opens with them
pub first_is : (nodes cluster : List ℕ) → All IsFirst nodes → All IsFirst cluster
    → first_opening (named_opening nodes cluster) ≡ opening_with nodes cluster
first_is nodes cluster all joined =
    ap (λ (n : ℕ). record (first_opening (named_opening nodes cluster)) { bound = n }) (bound_is nodes cluster)
    ∙ ap (λ (s : Nodes). record (first_opening (named_opening nodes cluster)) { bound = bound_of nodes; nodes = s }) (fun_ext (first_nodes nodes all))
    ∙ ap (λ (s : Nodes). record (opening_with nodes cluster) { cluster = s }) (fun_ext (first_nodes cluster joined))

-- an event that is no restart leaves each name its node
stays_at : (o : NamedOpening) (w : NamedWorld) (e : WorldEvent) → is_restart e ≡ false
    → (happens_named o w (named_event e)).present ≡ w.present
stays_at o w (At a e) stays = go (named_refusal o w (named_event (At a e))) refl
  where
    go : (r : Option _) → named_refusal o w (named_event (At a e)) ≡ r → (happens_named o w (named_event (At a e))).present ≡ w.present
    go None i = rw i refl
    go (Some r) i = rw i refl
stays_at o w (Deliver f t) stays = go (named_refusal o w (named_event (Deliver f t))) refl
  where
    go : (r : Option _) → named_refusal o w (named_event (Deliver f t)) ≡ r
        → (happens_named o w (named_event (Deliver f t))).present ≡ w.present
    go None i = rw i refl
    go (Some r) i = rw i refl
stays_at o w (Restart x) stays = cc

-- nor do steps that a world takes
pub present_stays : (o : NamedOpening) (w : NamedWorld) (ss : List Step) → TakesAll o w ss
    → (run_named o w (events_in ss)).present ≡ w.present
present_stays o w [] T = refl
present_stays o w (s ∷ ss) T = present_stays o (happens_named o w (named_event s.entry.event)) ss T.1
    ∙ stays_at o w s.entry.event T.0.stays

-- the node that is found by a text has it
found_here : (xs : List ℕ) (t m : ℕ) → find (λ k. text_in k == t) xs ≡ Some m → (set_of xs m ≡ true) × (text_in m ≡ t)
found_here [] t m e = absurd cc
found_here (x ∷ xs) t m e = go (text_in x == t) refl e (found_here xs t m)
  where
    go : (b : Bool) → (text_in x == t) ≡ b → (if b then Some x else find (λ k. text_in k == t) xs) ≡ Some m
        → (find (λ k. text_in k == t) xs ≡ Some m → (set_of xs m ≡ true) × (text_in m ≡ t))
        → (set_of (x ∷ xs) m ≡ true) × (text_in m ≡ t)
    go true is h rest = let same : x ≡ m = cc in (
      ap (λ (b : Bool). b || set_of xs m) (eq-eqb x m same),
      ap text_in (sym same) ∙ eqb-true (text_in x) t is,
    )
    go false is h rest = let r = rest h in (ap (λ (b : Bool). (x == m) || b) r.0 ∙ or-true (x == m), r.1)

-- where none is found none has it
none_found : (xs : List ℕ) (t : ℕ) → find (λ k. text_in k == t) xs ≡ None → is_named_in xs t ≡ true → ⊥
none_found [] t e i = cc
none_found (x ∷ xs) t e i = go (text_in x == t) refl e i (none_found xs t)
  where
    go : (b : Bool) → (text_in x == t) ≡ b → (if b then Some x else find (λ k. text_in k == t) xs) ≡ None
        → (b || is_named_in xs t) ≡ true → (find (λ k. text_in k == t) xs ≡ None → is_named_in xs t ≡ true → ⊥) → ⊥
    go true is h j rest = cc
    go false is h j rest = rest h j

-- where each name has its first node, a first node of a name is at present
pub present_first : (nodes : List ℕ) (c : ℕ) → ((x : ℕ) → present_in nodes x ≡ 1) → IsFirst c → is_named_in nodes (text_in c) ≡ true
    → set_of nodes c ≡ true
present_first nodes c one first named = go (find (λ m. text_in m == text_in c) nodes) refl
  where
    go : (r : Option ℕ) → find (λ m. text_in m == text_in c) nodes ≡ r → set_of nodes c ≡ true
    go None e = absurd (none_found nodes (text_in c) e named)
    go (Some m) e =
        let at = found_here nodes (text_in c) m e in
        let age : creation_of m ≡ 1 = ap creation_in (sym e) ∙ one (text_in c) in
        let same : m ≡ c = omega (arith, at.1, age, first) in
        ap (set_of nodes) (sym same) ∙ at.0
