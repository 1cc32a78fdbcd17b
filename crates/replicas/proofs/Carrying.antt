-- A letter that carries an operation out is read, an answer to it is counted, or a letter is dropped.
use Rattle.std.proofs.Common.{ℕ, Bool, true, false, ◌==◌, ◌≡◌, ◌+◌, Option, Some, None, List, [], ◌∷◌, refl, sym, ap, ◌∙◌, subst, inl, inr, arith}
use Rattle.std.specs.Prelude.{if◌then◌else◌, ◌||◌}
use Rattle.std.specs.List.{list_any}
use Rattle.std.proofs.lemmas.Bool.{cases_eq, eq-eqb, ne_eqb}
use Rattle.registry_model.specs.Process.{at}
use Rattle.registry_model.specs.Registry.{replica_of}
use Rattle.registry_model.specs.History.{Hold, is_hold_of}
use Rattle.protocol_model.specs.Letter.{Letter}
use Rattle.protocol_model.specs.World.{Opening}
use Rattle.registry_model.proofs.Updates.{by_test}
use Rattle.moves.proofs.Rules.{kills_in}
use Rattle.moves.proofs.Invariants.{Each}
use Rattle.replicas.proofs.Mail.{carries, is_applied, carried}
use Rattle.replicas.proofs.Groups.{Groups, hold-holder}
use Rattle.replicas.proofs.Scenes.{is_busy, awaits_node, Scene, one_if, count_of, AllDead, Runs, is_late, before, Leads, Kept}
use Rattle.replicas.proofs.BaseLetters.{count_of-append, list_any-none}
use Rattle.replicas.proofs.Steps.{sent, took, by_link}
use Rattle.replicas.proofs.Sending.{sent-same, sent-other, Each-sent, count_of-sent, list_any-sent, took-same, took-from, took-to, Each-took, carries_no_answer}

module _ (o : Opening) (S : Scene) (K : Kept o S) (G : Groups S.registry S.hold) where
  -- whoever holds in a group is at it, and runs
  pub holder_busy : (c : ℕ) (h : Hold) → S.hold c ≡ Some h → is_busy (S.doing h.node) ≡ true
  holder_busy c h e = sym (K.holds h.node) ∙ ap (is_hold_of h.node) (hold-holder S.registry S.hold G c h e)
      ∙ eq-eqb h.node h.node refl

  -- so it runs
  pub holder_runs : (c : ℕ) (h : Hold) → S.hold c ≡ Some h → Runs o S h.node
  holder_runs c h e = K.writers h.node (holder_busy c h e)

  module _ (f a : ℕ) (rest : List Letter) where
    -- what comes from a node that doesn't run may be dropped
    abbrev pub dropped_scene : Scene
    dropped_scene = record S { mail = took f a rest S.mail }

    -- the replicas are still those of the registry
    pub Kept-dropped : (Runs o S f → ⊥) → ((P : Letter → Type 0) → Each P (S.mail f a) → Each P rest)
        → Kept o dropped_scene
    Kept-dropped stopped less = record {
      departed = K.departed;
      joined_inside = K.joined_inside;
      holds = K.holds;
      writers = K.writers;
      written = K.written;
      facts = λ c up. K.facts c up ∙ ap (λ (b : Bool). replica_of (if b then before o S c else S.registry) c)
          (late c (S.hold c) refl);
      notes = λ x y g. Each-took f a rest S.mail (Leads o S) (less (Leads o S f a)) x y (K.notes x y g);
      kills = λ x y g. Each-took f a rest S.mail (λ x y l. AllDead S.registry (kills_in l))
          (less (λ l. AllDead S.registry (kills_in l))) x y (K.kills x y g);
      dead = K.dead;
      struck = K.struck;
      sessions = λ h c uh uc. ap (λ (ls : List Letter). count_of carries ls + count_of is_applied
          (took f a rest S.mail c h)) (took-from f a rest S.mail h c (λ e. stopped (subst (Runs o S) e uh)))
          ∙ ap (λ (ls : List Letter). count_of carries (S.mail h c) + count_of is_applied ls)
          (took-from f a rest S.mail c h (λ e. stopped (subst (Runs o S) e uc)))
          ∙ K.sessions h c uh uc;
    }
      where
        late : (c : ℕ) (h : Option Hold) → S.hold c ≡ h → is_late o S c h ≡ is_late o dropped_scene c h
        late c None e = refl
        late c (Some h) e = ap (list_any carries)
            (sym (took-from f a rest S.mail h.node c (λ i. stopped (subst (Runs o S) i (holder_runs c h e)))))

  module _ (f a : ℕ) (l : Letter) (rest : List Letter) (front : S.mail f a ≡ l ∷ rest) where
    -- what stands of each letter of the link stands of those that are left
    pub behind_front : (P : Letter → Type 0) → Each P (S.mail f a) → Each P rest
    behind_front P e = (subst (Each P) front e).1

    -- a letter that fails a test changes no count of those that pass
    pub took_same : (test : Letter → Bool) → test l ≡ false → (x y : ℕ)
        → count_of test (took f a rest S.mail x y) ≡ count_of test (S.mail x y)
    took_same test none x y = by_link f a (λ x y t. count_of test (if t then rest else S.mail x y)
        ≡ count_of test (S.mail x y))
        (sym (ap (count_of test) front ∙ ap (λ (b : Bool). one_if b + count_of test rest) none ∙ omega arith))
        (λ x y. refl) x y

    -- nor whether one passes
    pub took_any : (test : Letter → Bool) → test l ≡ false → (x y : ℕ)
        → list_any test (took f a rest S.mail x y) ≡ list_any test (S.mail x y)
    took_any test none x y = by_link f a (λ x y t. list_any test (if t then rest else S.mail x y)
        ≡ list_any test (S.mail x y))
        (sym (ap (list_any test) front ∙ ap (λ (b : Bool). b || list_any test rest) none)) (λ x y. refl) x y

    -- the operation is carried out at a, which answers
    abbrev pub answer_to : ℕ → List Letter
    answer_to y = if f == y then Letter.Applied ∷ [] else []

    -- the scene after it
    abbrev pub carried_scene : Scene
    carried_scene = record S {
      replica = at S.replica a (carried a l (S.replica a));
      mail = sent a S.gone answer_to (took f a rest S.mail);
    }

    module _ (up : Runs o S a) (is : carries l ≡ true) where
      abbrev T : Scene
      T = carried_scene

      no_carrier : (y : ℕ) → list_any carries (answer_to y) ≡ false
      no_carrier y = go (f == y)
        where
          go : (b : Bool) → list_any carries (if b then Letter.Applied ∷ [] else []) ≡ false
          go true = refl
          go false = refl

      no_carriers : (y : ℕ) → count_of carries (answer_to y) ≡ 0
      no_carriers y = go (f == y)
        where
          go : (b : Bool) → count_of carries (if b then Letter.Applied ∷ [] else []) ≡ 0
          go true = refl
          go false = refl

      note : Leads o S f a l
      note = (subst (Each (Leads o S f a)) front (K.notes f a up.1)).0

      -- the letter of an operation, with what holds
      led : (h : Hold) × (S.hold a ≡ Some h) × (h.node ≡ f) × Runs o S f
          × (carried a l (replica_of (before o S a) a) ≡ replica_of S.registry a)
      led = note is

      session : 1 + count_of carries rest + count_of is_applied (S.mail a f) ≡ one_if (awaits_node (S.doing f) a)
      session = sym (ap (λ (ls : List Letter). count_of carries ls + count_of is_applied (S.mail a f)) front
          ∙ ap (λ (b : Bool). one_if b + count_of carries rest + count_of is_applied (S.mail a f)) is)
          ∙ K.sessions f a led.3 up

      last : count_of carries rest ≡ 0
      last = go (awaits_node (S.doing f) a) session
        where
          go : (b : Bool) → 1 + count_of carries rest + count_of is_applied (S.mail a f) ≡ one_if b
              → count_of carries rest ≡ 0
          go true e = omega arith
          go false e = absurd (omega arith)

      was_late : is_late o S a (S.hold a) ≡ true
      was_late = ap (is_late o S a) led.1 ∙ ap (λ (x : ℕ). list_any carries (S.mail x a)) led.2
          ∙ ap (list_any carries) front ∙ ap (λ (b : Bool). b || list_any carries rest) is

      not_late : is_late o T a (S.hold a) ≡ false
      not_late = ap (is_late o T a) led.1 ∙ ap (λ (x : ℕ). list_any carries (T.mail x a)) led.2
          ∙ list_any-sent a S.gone answer_to (took f a rest S.mail) carries f a (no_carrier a)
          ∙ ap (list_any carries) (took-same f a rest S.mail) ∙ list_any-none carries rest last

      late_there : (c : ℕ) → (c ≡ a → ⊥) → (h : Option Hold) → is_late o S c h ≡ is_late o T c h
      late_there c ne None = refl
      late_there c ne (Some h) = sym (list_any-sent a S.gone answer_to (took f a rest S.mail) carries h.node c
          (no_carrier c)
          ∙ ap (list_any carries) (took-to f a rest S.mail h.node c ne))

      facts : (c : ℕ) → Runs o S c → at S.replica a (carried a l (S.replica a)) c
          ≡ replica_of (if is_late o T c (S.hold c) then before o S c else S.registry) c
      facts c = by_test a (λ c t. Runs o S c → (if t then carried a l (S.replica a) else S.replica c)
          ≡ replica_of (if is_late o T c (S.hold c) then before o S c else S.registry) c)
          (λ u. ap (carried a l)
          (K.facts a u ∙ ap (λ (b : Bool). replica_of (if b then before o S a else S.registry) a) was_late)
          ∙ led.4 ∙ ap (λ (b : Bool). replica_of (if b then before o S a else S.registry) a) (sym not_late))
          (λ c ne u. K.facts c u ∙ ap (λ (b : Bool). replica_of (if b then before o S c else S.registry) c)
          (late_there c ne (S.hold c))) c

      notes : (x y : ℕ) → S.gone y ≡ false → Each (Leads o S x y) (T.mail x y)
      notes x y g = Each-sent a S.gone answer_to (took f a rest S.mail) (Leads o S x y) x y
          (Each-took f a rest S.mail (Leads o S) (behind_front (Leads o S f a)) x y (K.notes x y g))
          (λ i. go (f == y))
        where
          go : (b : Bool) → Each (Leads o S x y) (if b then Letter.Applied ∷ [] else [])
          go true = (λ k. cc, tt)
          go false = tt

      kills : (x y : ℕ) → S.gone y ≡ false → Each (λ l. AllDead S.registry (kills_in l)) (T.mail x y)
      kills x y g = Each-sent a S.gone answer_to (took f a rest S.mail) (λ l. AllDead S.registry (kills_in l)) x y
          (Each-took f a rest S.mail (λ x y l. AllDead S.registry (kills_in l))
          (behind_front (λ l. AllDead S.registry (kills_in l))) x y (K.kills x y g))
          (λ i. go (f == y))
        where
          go : (b : Bool) → Each (λ l. AllDead S.registry (kills_in l)) (if b then Letter.Applied ∷ [] else [])
          go true = (tt, tt)
          go false = tt

      abbrev IsSession : ℕ → ℕ → Type 0
      IsSession h c = count_of carries (T.mail h c) + count_of is_applied (T.mail c h)
          ≡ one_if (awaits_node (S.doing h) c)

      -- letters that carry operations out come from others alone
      carriers : (h c : ℕ) → count_of carries (T.mail h c) ≡ count_of carries (took f a rest S.mail h c)
      carriers h c = count_of-sent a S.gone answer_to (took f a rest S.mail) carries h c (no_carriers c)

      answers : (x y : ℕ) → count_of is_applied (took f a rest S.mail x y) ≡ count_of is_applied (S.mail x y)
      answers = took_same is_applied (carries_no_answer l is)

      here : Runs o S f → IsSession f a
      here uf =
          let c1 : count_of carries (T.mail f a) ≡ count_of carries rest =
          carriers f a ∙ ap (count_of carries) (took-same f a rest S.mail) in
          let c2 : count_of is_applied (T.mail a f) ≡ count_of is_applied (S.mail a f) + 1 =
          ap (count_of is_applied) (sent-same a S.gone answer_to (took f a rest S.mail) f uf.1)
          ∙ count_of-append is_applied (took f a rest S.mail a f) (answer_to f)
          ∙ ap (λ (k : ℕ). k + count_of is_applied (answer_to f)) (answers a f)
          ∙ ap (λ (b : Bool). count_of is_applied (S.mail a f) + count_of is_applied
          (if b then Letter.Applied ∷ [] else [])) (eq-eqb f f refl) in
          let s : 1 + count_of carries rest + count_of is_applied (S.mail a f) ≡ one_if (awaits_node (S.doing f) a) =
          session in
          omega arith

      beside : (h : ℕ) → (h ≡ f → ⊥) → Runs o S h → IsSession h a
      beside h ne uh = ap (λ (k : ℕ). k + count_of is_applied (T.mail a h))
          (carriers h a ∙ ap (count_of carries) (took-from f a rest S.mail h a ne))
          ∙ ap (λ (k : ℕ). count_of carries (S.mail h a) + k)
          (count_of-sent a S.gone answer_to (took f a rest S.mail) is_applied a h
          (ap (λ (b : Bool). count_of is_applied (if b then Letter.Applied ∷ [] else []))
          (ne_eqb f h (λ i. ne (sym i)))) ∙ answers a h)
          ∙ K.sessions h a uh up

      there : (h c : ℕ) → (c ≡ a → ⊥) → Runs o S h → Runs o S c → IsSession h c
      there h c ne uh uc = ap (λ (k : ℕ). k + count_of is_applied (T.mail c h))
          (carriers h c ∙ ap (count_of carries) (took-to f a rest S.mail h c ne))
          ∙ ap (λ (k : ℕ). count_of carries (S.mail h c) + k)
          (ap (count_of is_applied) (sent-other a S.gone answer_to (took f a rest S.mail) c h ne) ∙ answers c h)
          ∙ K.sessions h c uh uc

      sessions : (h c : ℕ) → Runs o S h → Runs o S c → IsSession h c
      sessions h c uh uc = elim (cases_eq c a) [
        | inl e ↦ subst (IsSession h) (sym e) (elim (cases_eq h f) [
          | inl k ↦ subst (λ (x : ℕ). IsSession x a) (sym k) (here led.3)
          | inr ne ↦ beside h ne uh
        ])
        | inr ne ↦ there h c ne uh uc
      ]

      -- the replicas are still those of the registry
      pub Kept-carried : Kept o carried_scene
      Kept-carried = record {
        departed = K.departed;
        joined_inside = K.joined_inside;
        holds = K.holds;
        writers = K.writers;
        written = K.written;
        facts = facts;
        notes = notes;
        kills = kills;
        dead = K.dead;
        struck = K.struck;
        sessions = sessions;
      }
