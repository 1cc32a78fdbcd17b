-- A node that carries an operation out counts an answer, or a departure; and the operation is done.
use Rattle.std.proofs.Common.{ℕ, Bool, true, false, ◌==◌, ◌≡◌, ◌+◌, Option, Some, None, List, ◌∷◌, refl, sym, ap, ◌∙◌, subst, inl, inr, arith}
use Rattle.std.specs.Prelude.{if◌then◌else◌}
use Rattle.std.specs.List.{list_any}
use Rattle.std.proofs.lemmas.Bool.{cases_eq, ne_eqb, eqb-true}
use Rattle.registry_model.specs.Process.{Process, Nodes, at}
use Rattle.registry_model.specs.Call.{Reply}
use Rattle.registry_model.specs.Registry.{in_group, Replica, replica_of}
use Rattle.registry_model.specs.History.{Hold, is_hold_of, old_or}
use Rattle.protocol_model.specs.Letter.{Letter}
use Rattle.protocol_model.specs.Node.{Op}
use Rattle.protocol_model.specs.World.{Opening, in_world}
use Rattle.registry_model.proofs.Updates.{by_test, at_same, at_other}
use Rattle.moves.proofs.Rules.{kills_in}
use Rattle.moves.proofs.Invariants.{Each}
use Rattle.replicas.proofs.Mail.{carries, is_applied, carried}
use Rattle.registry_model.proofs.Groups.{in_group-itself}
use Rattle.replicas.proofs.Soundness.{the_hold}
use Rattle.replicas.proofs.Groups.{Groups}
use Rattle.replicas.proofs.Scenes.{Doing, Nothing, Carries, is_busy, awaits_node, Scene, one_if, count_of, AllDead, Runs, is_late, before, IsHeldBy, Leads, AreStruck, Kept}
use Rattle.replicas.proofs.BaseLetters.{Each-map, Each-none, list_any-none}
use Rattle.replicas.proofs.Steps.{took}
use Rattle.replicas.proofs.Sending.{took-same, took-from, took-to, Each-took}
use Rattle.replicas.proofs.Carrying.{behind_front, took_same, took_any}

module _ (o : Opening) (S : Scene) (K : Kept o S) (G : Groups S.registry S.hold) (a : ℕ) (op : Op) (awaited : Nodes)
    (reply : Option Reply) (at_it : S.doing a ≡ Carries op awaited reply) where
  -- node a is still at it, and awaits these
  abbrev pub awaiting : Nodes → ℕ → Doing
  awaiting ns = at S.doing a (Carries op ns reply)

  busy_still : (ns : Nodes) (x : ℕ) → is_busy (awaiting ns x) ≡ is_busy (S.doing x)
  busy_still ns x = by_test a (λ x t. is_busy (if t then Carries op ns reply else S.doing x) ≡ is_busy (S.doing x))
      (sym (ap is_busy at_it)) (λ x ne. refl) x

  held_still : (ns : Nodes) (x : ℕ) → IsHeldBy o S x (awaiting ns x)
  held_still ns x = by_test a (λ x t. IsHeldBy o S x (if t then Carries op ns reply else S.doing x))
      (subst (IsHeldBy o S a) at_it (K.written a)) (λ x ne. K.written x) x

  runs : Runs o S a
  runs = K.writers a (ap is_busy at_it)

  -- one that has left is awaited no more
  abbrev pub less_scene : ℕ → Scene
  less_scene d = record S { doing = awaiting (at awaited d false) }

  -- the replicas are still those of the registry
  pub Kept-less : (d : ℕ) → S.gone d ≡ true → Kept o (less_scene d)
  Kept-less d left = record {
    departed = K.departed;
    joined_inside = K.joined_inside;
    holds = λ x. K.holds x ∙ sym (busy_still (at awaited d false) x);
    writers = λ x k. K.writers x (sym (busy_still (at awaited d false) x) ∙ k);
    written = held_still (at awaited d false);
    facts = K.facts;
    notes = K.notes;
    kills = K.kills;
    dead = K.dead;
    struck = K.struck;
    sessions = λ h c uh uc. K.sessions h c uh uc
        ∙ by_test a (λ h t. one_if (awaits_node (S.doing h) c)
        ≡ one_if (awaits_node (if t then Carries op (at awaited d false) reply else S.doing h) c))
        (ap (λ (d : Doing). one_if (awaits_node d c)) at_it
        ∙ ap one_if (sym (at_other awaited d false c (λ e. absurd (cc (uc.1, left))))))
        (λ h ne. refl) h;
  }

  module _ (f : ℕ) (rest : List Letter) (front : S.mail f a ≡ Letter.Applied ∷ rest) (due : awaited f ≡ true) where
    -- an answer is counted
    abbrev pub counted_scene : Scene
    counted_scene = record S { doing = awaiting (at awaited f false); mail = took f a rest S.mail }

    abbrev T : Scene
    T = counted_scene

    late_same : (c : ℕ) (h : Option Hold) → is_late o S c h ≡ is_late o T c h
    late_same c None = refl
    late_same c (Some h) = sym (took_any o S K G f a Letter.Applied rest front carries refl h.node c)

    abbrev IsSession : ℕ → ℕ → Type 0
    IsSession h c = count_of carries (T.mail h c) + count_of is_applied (T.mail c h)
        ≡ one_if (awaits_node (T.doing h) c)

    carriers : (h c : ℕ) → count_of carries (T.mail h c) ≡ count_of carries (S.mail h c)
    carriers h c = took_same o S K G f a Letter.Applied rest front carries refl h c

    here : Runs o S f → IsSession a f
    here uf =
        let c1 : count_of carries (T.mail a f) ≡ count_of carries (S.mail a f) = carriers a f in
        let c2 : count_of is_applied (T.mail f a) ≡ count_of is_applied rest =
        ap (count_of is_applied) (took-same f a rest S.mail) in
        let s : count_of carries (S.mail a f) + (1 + count_of is_applied rest) ≡ 1 =
        sym (ap (λ (ls : List Letter). count_of carries (S.mail a f) + count_of is_applied ls) front)
        ∙ K.sessions a f runs uf
        ∙ ap (λ (d : Doing). one_if (awaits_node d f)) at_it ∙ ap one_if due in
        let z : one_if (awaits_node (T.doing a) f) ≡ 0 =
        ap (λ (d : Doing). one_if (awaits_node d f)) (at_same S.doing a (Carries op (at awaited f false) reply))
        ∙ ap one_if (at_same awaited f false) in
        omega arith

    sessions : (h c : ℕ) → Runs o S h → Runs o S c → IsSession h c
    sessions h c uh uc = elim (cases_eq h a) [
      | inl e ↦ subst (λ (x : ℕ). IsSession x c) (sym e) (elim (cases_eq c f) [
        | inl k ↦ subst (IsSession a) (sym k) (here (subst (Runs o S) k uc))
        | inr ne ↦ beside ne
      ])
      | inr ne ↦ ap (λ (k : ℕ). k + count_of is_applied (T.mail c h)) (carriers h c)
          ∙ ap (λ (ls : List Letter). count_of carries (S.mail h c) + count_of is_applied ls)
          (took-to f a rest S.mail c h ne)
          ∙ K.sessions h c uh uc ∙ ap (λ (d : Doing). one_if (awaits_node d c))
          (sym (at_other S.doing a (Carries op (at awaited f false) reply) h ne))
    ]
      where
        beside : (c ≡ f → ⊥) → IsSession a c
        beside ne = ap (λ (k : ℕ). k + count_of is_applied (T.mail c a)) (carriers a c)
            ∙ ap (λ (ls : List Letter). count_of carries (S.mail a c) + count_of is_applied ls)
            (took-from f a rest S.mail c a ne)
            ∙ K.sessions a c runs uc
            ∙ ap (λ (d : Doing). one_if (awaits_node d c)) at_it
            ∙ ap one_if (sym (at_other awaited f false c ne))
            ∙ ap (λ (d : Doing). one_if (awaits_node d c))
            (sym (at_same S.doing a (Carries op (at awaited f false) reply)))

    -- the replicas are still those of the registry
    pub Kept-counted : Kept o counted_scene
    Kept-counted = record {
      departed = K.departed;
      joined_inside = K.joined_inside;
      holds = λ x. K.holds x ∙ sym (busy_still (at awaited f false) x);
      writers = λ x k. K.writers x (sym (busy_still (at awaited f false) x) ∙ k);
      written = held_still (at awaited f false);
      facts = λ c up. K.facts c up ∙ ap (λ (b : Bool). replica_of (if b then before o S c else S.registry) c)
          (late_same c (S.hold c));
      notes = λ x y g. Each-took f a rest S.mail (Leads o S)
          (behind_front o S K G f a Letter.Applied rest front (Leads o S f a)) x y (K.notes x y g);
      kills = λ x y g. Each-took f a rest S.mail (λ x y l. AllDead S.registry (kills_in l))
          (behind_front o S K G f a Letter.Applied rest front (λ l. AllDead S.registry (kills_in l))) x y
          (K.kills x y g);
      dead = K.dead;
      struck = K.struck;
      sessions = sessions;
    }

  module _ (everywhere : (c : ℕ) → in_world o c ≡ true → awaited c ≡ false) (left_over : List Process)
      (less : AreStruck o S a left_over) where
    -- the operation is done in its group
    abbrev pub done_scene : Scene
    done_scene = record S {
      hold = λ c. if in_group S.registry a c then None else S.hold c;
      doing = at S.doing a Nothing;
      struck = at S.struck a left_over;
    }

    abbrev D : Scene
    D = done_scene

    -- what holds
    abbrev group : Nodes
    group = in_group S.registry a

    own : (h : Hold) × (S.hold a ≡ Some h) × (h.node ≡ a)
    own = let x : IsHeldBy o S a (Carries op awaited reply) = subst (IsHeldBy o S a) at_it (K.written a) in
        (x.0, x.1, x.2)

    held_in : (c : ℕ) → group c ≡ true → S.hold c ≡ Some own.0
    held_in c g = G.alike a c g ∙ own.1

    none_in : (c : ℕ) → group c ≡ true → D.hold c ≡ None
    none_in c g = ap (λ (b : Bool). if b then None else S.hold c) g

    same_out : (c : ℕ) → group c ≡ false → D.hold c ≡ S.hold c
    same_out c g = ap (λ (b : Bool). if b then None else S.hold c) g

    -- nobody of the group is awaited any more, and so none has a letter on its way
    no_letter : (c : ℕ) → Runs o S c → count_of carries (S.mail a c) ≡ 0
    no_letter c uc =
        let s : count_of carries (S.mail a c) + count_of is_applied (S.mail c a) ≡ 0 =
        K.sessions a c runs uc ∙ ap (λ (d : Doing). one_if (awaits_node d c)) at_it
        ∙ ap one_if (everywhere c uc.0) in
        omega arith

    of_world : (c : ℕ) → group c ≡ true → in_world o c ≡ true
    of_world c = go (S.registry.joined a)
      where
        go : (b : Bool) → (if b then S.registry.joined c else c == a) ≡ true → in_world o c ≡ true
        go true g = K.joined_inside c g
        go false g = ap (in_world o) (eqb-true c a g) ∙ runs.0

    done_holds : (x : ℕ) → is_hold_of x (D.hold x) ≡ is_busy (D.doing x)
    done_holds x = by_test a (λ x t. is_hold_of x (D.hold x) ≡ is_busy (if t then Nothing else S.doing x))
        (ap (is_hold_of a) (none_in a (in_group-itself S.registry a)))
        (λ x ne. go x ne (group x) refl) x
      where
        go : (x : ℕ) → (x ≡ a → ⊥) → (b : Bool) → group x ≡ b → is_hold_of x (D.hold x) ≡ is_busy (S.doing x)
        go x ne true g = ap (is_hold_of x) (none_in x g) ∙ sym (ne_eqb own.0.node x (λ i. ne (sym i ∙ own.2)))
            ∙ ap (is_hold_of x) (sym (held_in x g)) ∙ K.holds x
        go x ne false g = ap (is_hold_of x) (same_out x g) ∙ K.holds x

    done_writers : (x : ℕ) → is_busy (D.doing x) ≡ true → Runs o S x
    done_writers x = by_test a (λ x t. is_busy (if t then Nothing else S.doing x) ≡ true → Runs o S x) (λ k. cc)
        (λ x ne k. K.writers x k) x

    still_held : (x : ℕ) → (x ≡ a → ⊥) → (d : Doing) → IsHeldBy o S x d → IsHeldBy o D x d
    still_held x ne Nothing h = tt
    still_held x ne (Carries op awaited reply) h = go (group x) refl
      where
        go : (b : Bool) → group x ≡ b → IsHeldBy o D x (Carries op awaited reply)
        go true g = absurd (ne (sym h.2 ∙ ap (λ (p : Option Hold). (the_hold h.0 p).node) (sym h.1 ∙ held_in x g)
            ∙ own.2))
        go false g = (h.0, same_out x g ∙ h.1, h.2, h.3)

    done_facts : (c : ℕ) → Runs o S c → S.replica c
        ≡ replica_of (if is_late o D c (D.hold c) then before o D c else S.registry) c
    done_facts c uc = go (group c) refl
      where
        to : Option Hold → Replica
        to h = replica_of (if is_late o S c h then old_or S.registry h else S.registry) c

        go : (b : Bool) → group c ≡ b → S.replica c ≡ to (D.hold c)
        go true g = K.facts c uc ∙ ap to (held_in c g)
            ∙ ap (λ (b : Bool). replica_of (if b then own.0.old else S.registry) c)
            (ap (λ (x : ℕ). list_any carries (S.mail x c)) own.2
            ∙ list_any-none carries (S.mail a c) (no_letter c uc))
            ∙ ap to (sym (none_in c g))
        go false g = K.facts c uc ∙ ap to (sym (same_out c g))

    done_notes : (x y : ℕ) → S.gone y ≡ false → Each (Leads o D x y) (S.mail x y)
    done_notes x y g = go (group y) refl
      where
        go : (b : Bool) → group y ≡ b → Each (Leads o D x y) (S.mail x y)
        go true m = elim (cases_eq x a) [
          | inl e ↦ Each-map (λ l. carries l ≡ true → ⊥) (Leads o D x y) (S.mail x y) (λ l n k. absurd (n k))
              (Each-none carries (λ l. ⊥) (S.mail x y)
              (ap (λ (z : ℕ). count_of carries (S.mail z y)) e ∙ no_letter y (of_world y m, g)))
          | inr ne ↦ Each-map (Leads o S x y) (Leads o D x y) (S.mail x y)
              (λ l n k. absurd (ne (sym (n k).2 ∙ ap (λ (p : Option Hold). (the_hold own.0 p).node)
              (sym (n k).1 ∙ held_in y m) ∙ own.2))) (K.notes x y g)
        ]
        go false m = Each-map (Leads o S x y) (Leads o D x y) (S.mail x y)
            (λ l n k. let z : (h : Hold) × (S.hold y ≡ Some h) × (h.node ≡ x) × Runs o S x
            × (carried y l (replica_of (before o S y) y) ≡ replica_of S.registry y) = n k in (
              z.0,
              same_out y m ∙ z.1,
              z.2,
              z.3,
              ap (λ (h : Option Hold). carried y l
                  (replica_of (old_or S.registry h) y)) (same_out y m) ∙ z.4,
            )) (K.notes x y g)

    done_sessions : (h c : ℕ) → Runs o S h → Runs o S c
        → count_of carries (S.mail h c) + count_of is_applied (S.mail c h) ≡ one_if (awaits_node (D.doing h) c)
    done_sessions h c uh uc = K.sessions h c uh uc
        ∙ by_test a (λ h t. one_if (awaits_node (S.doing h) c)
        ≡ one_if (awaits_node (if t then Nothing else S.doing h) c))
        (ap (λ (d : Doing). one_if (awaits_node d c)) at_it ∙ ap one_if (everywhere c uc.0)) (λ h ne. refl) h

    -- the replicas are still those of the registry
    pub Kept-done : Kept o done_scene
    Kept-done = record {
      departed = K.departed;
      joined_inside = K.joined_inside;
      holds = done_holds;
      writers = done_writers;
      written = λ x. by_test a (λ x t. IsHeldBy o D x (if t then Nothing else S.doing x)) tt
          (λ x ne. still_held x ne (S.doing x) (K.written x)) x;
      facts = done_facts;
      notes = done_notes;
      kills = K.kills;
      dead = K.dead;
      struck = λ x. by_test a (λ x t. AreStruck o S x (if t then left_over else S.struck x)) less
          (λ x ne. K.struck x) x;
      sessions = done_sessions;
    }
