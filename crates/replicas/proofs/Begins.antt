-- A hold begins: an operation enters the history, and its letters go to each node of its group.
use Rattle.std.proofs.Common.{ℕ, Bool, true, false, ◌==◌, ◌≡◌, ◌+◌, Option, Some, None, List, [], ◌∷◌, ◌++◌, refl, sym, ap, ◌∙◌, subst, arith}
use Rattle.std.specs.Prelude.{if◌then◌else◌, not, ◌&&◌}
use Rattle.std.specs.List.{list_any}
use Rattle.std.proofs.lemmas.Bool.{eq-eqb, ne_eqb}
use Rattle.registry_model.specs.Process.{Process, Nodes, at}
use Rattle.registry_model.specs.Call.{Reply}
use Rattle.registry_model.specs.Registry.{Registry, replica_of}
use Rattle.registry_model.specs.History.{Entry, effect, Hold, is_hold_of, old_or, with_effect_on}
use Rattle.protocol_model.specs.Letter.{Letter}
use Rattle.protocol_model.specs.Node.{Op}
use Rattle.protocol_model.specs.World.{Opening, in_world}
use Rattle.registry_model.proofs.Updates.{by_test, at_other}
use Rattle.moves.proofs.Rules.{kills_in}
use Rattle.moves.proofs.Invariants.{Each}
use Rattle.replicas.proofs.Mail.{carries, is_applied, carried}
use Rattle.replicas.proofs.Histories.{is_hold_of-with_effect_on}
use Rattle.replicas.proofs.Scenes.{Doing, Nothing, Carries, is_busy, awaits_node, Scene, one_if, count_of, AllDead, IsEntryOf, Runs, is_late, before, IsHeldBy, Leads, Kept}
use Rattle.replicas.proofs.BaseLetters.{Each-map, count_of-append, list_any-last}
use Rattle.replicas.proofs.Steps.{sent}
use Rattle.replicas.proofs.Sending.{sent-same, Each-sent, count_of-sent, list_any-sent, carries_no_answer, AllDead-more, AreStruck-more}

-- the letter by which the registry r comes to be q at c
pub record IsWrittenTo (r q : Registry) (c : ℕ) (new : List Letter) : Type 0 where
  pub letter : Letter
  pub alone : new ≡ letter ∷ []
  pub carries : carries letter ≡ true
  pub kills : AllDead q (kills_in letter)
  pub leads : carried c letter (replica_of r c) ≡ replica_of q c

module _ (o : Opening) (S : Scene) (a : ℕ) (q : Registry) (group : Nodes) (e : Entry) (new : ℕ → List Letter)
    (op : Op) (awaited : Nodes) (reply : Option Reply) where
  -- what is known of an entry by which an operation of node a begins to hold in a group, of its letters, and of the
  -- registry q after it
  pub record Beginning : Type 0 where
    pub runs : Runs o S a
    pub idle : S.doing a ≡ Nothing
    pub left : (d : ℕ) → q.left d ≡ S.registry.left d
    pub joined : (c : ℕ) → q.joined c ≡ true → in_world o c ≡ true
    pub dead : (p : Process) → S.registry.dead p ≡ true → q.dead p ≡ true
    pub entry : IsEntryOf a op reply e
    pub own : group a ≡ true
    pub free : (c : ℕ) → group c ≡ true → S.hold c ≡ None
    pub written : (c : ℕ) → S.gone c ≡ false → group c ≡ true
        → IsWrittenTo S.registry q c (new c) × (awaited c ≡ true)
    pub spared : (c : ℕ) → S.gone c ≡ false → group c ≡ false → (new c ≡ []) × (awaited c ≡ false)
    pub apart : (c : ℕ) → group c ≡ false → replica_of q c ≡ replica_of S.registry c
    pub apart_before : (c : ℕ) (h : Hold) → group c ≡ false → S.hold c ≡ Some h
        → replica_of (effect e h.old) c ≡ replica_of h.old c

  -- the hold
  abbrev pub begun_hold : Hold
  begun_hold = record { node = a; entry = e; old = S.registry }

  -- the scene after it
  abbrev pub begun_scene : Scene
  begun_scene = record S {
    registry = q;
    hold = λ c. if group c then Some begun_hold else with_effect_on e (S.hold c);
    doing = at S.doing a (Carries op awaited reply);
    mail = sent a S.gone new S.mail;
  }

  module _ (K : Kept o S) (B : Beginning) where
    abbrev T : Scene
    T = begun_scene

    abbrev now : Doing
    now = Carries op awaited reply

    hold_here : (c : ℕ) → group c ≡ true → T.hold c ≡ Some begun_hold
    hold_here c g = ap (λ (b : Bool). if b then Some begun_hold else with_effect_on e (S.hold c)) g

    hold_there : (c : ℕ) → group c ≡ false → T.hold c ≡ with_effect_on e (S.hold c)
    hold_there c g = ap (λ (b : Bool). if b then Some begun_hold else with_effect_on e (S.hold c)) g

    holds : (x : ℕ) → is_hold_of x (T.hold x) ≡ is_busy (T.doing x)
    holds x = go (group x) refl
      where
        go : (b : Bool) → group x ≡ b → is_hold_of x (if b then Some begun_hold else with_effect_on e (S.hold x))
            ≡ is_busy (T.doing x)
        go true g = by_test a (λ x t. S.hold x ≡ None → (a == x) ≡ is_busy (if t then now else S.doing x))
            (λ f. eq-eqb a a refl)
            (λ x ne f. ne_eqb a x (λ i. ne (sym i)) ∙ ap (is_hold_of x) (sym f) ∙ K.holds x) x (B.free x g)
        go false g = is_hold_of-with_effect_on x e (S.hold x) ∙ K.holds x
            ∙ ap is_busy (sym (at_other S.doing a now x (λ i. absurd (cc (B.own, ap group (sym i), g)))))

    writers : (x : ℕ) → is_busy (T.doing x) ≡ true → Runs o S x
    writers x = by_test a (λ x t. is_busy (if t then now else S.doing x) ≡ true → Runs o S x) (λ k. B.runs)
        (λ x ne k. K.writers x k) x

    still_held : (x : ℕ) (d : Doing) → IsHeldBy o S x d → IsHeldBy o T x d
    still_held x Nothing h = tt
    still_held x (Carries op awaited reply) h = go (group x) refl
      where
        go : (b : Bool) → group x ≡ b → IsHeldBy o T x (Carries op awaited reply)
        go true g = absurd (cc (B.free x g, h.1))
        go false g = (record h.0 { old = effect e h.0.old }, hold_there x g ∙ ap (with_effect_on e) h.1, h.2, h.3)

    written : (x : ℕ) → IsHeldBy o T x (T.doing x)
    written x = by_test a (λ x t. IsHeldBy o T x (if t then now else S.doing x))
        (begun_hold, hold_here a B.own, refl, B.entry)
        (λ x ne. still_held x (S.doing x) (K.written x)) x

    late : (c : ℕ) → S.gone c ≡ false → group c ≡ true → list_any carries (T.mail a c) ≡ true
    late c g m = let W : IsWrittenTo S.registry q c (new c) = (B.written c g m).0 in
        ap (list_any carries) (sent-same a S.gone new S.mail c g)
        ∙ ap (λ (ls : List Letter). list_any carries (S.mail a c ++ ls)) W.alone
        ∙ list_any-last carries (S.mail a c) W.letter W.carries

    facts : (c : ℕ) → Runs o S c → S.replica c ≡ replica_of (if is_late o T c (T.hold c) then before o T c else q) c
    facts c up = go (group c) refl
      where
        still : (h : Option Hold) → group c ≡ false → S.hold c ≡ h
            → S.replica c ≡ replica_of (if is_late o S c h then old_or S.registry h else S.registry) c
            → S.replica c ≡ replica_of (if is_late o T c (with_effect_on e h) then old_or q (with_effect_on e h) else q)
            c
        still None g k f = f ∙ sym (B.apart c g)
        still (Some h) g k f = each (list_any carries (S.mail h.node c)) f
            ∙ ap (λ (b : Bool). replica_of (if b then effect e h.old else q) c)
            (sym (list_any-sent a S.gone new S.mail carries h.node c (ap (list_any carries) (B.spared c up.1 g).0)))
          where
            each : (b : Bool) → S.replica c ≡ replica_of (if b then h.old else S.registry) c
                → S.replica c ≡ replica_of (if b then effect e h.old else q) c
            each true f = f ∙ sym (B.apart_before c h g k)
            each false f = f ∙ sym (B.apart c g)

        go : (b : Bool) → group c ≡ b → S.replica c
            ≡ replica_of (if is_late o T c (if b then Some begun_hold else with_effect_on e (S.hold c)) then old_or q
            (if b then Some begun_hold else with_effect_on e (S.hold c)) else q) c
        go true g = K.facts c up ∙ ap (λ (h : Option Hold). replica_of
            (if is_late o S c h then old_or S.registry h else S.registry) c) (B.free c g)
            ∙ ap (λ (b : Bool). replica_of (if b then S.registry else q) c) (sym (late c up.1 g))
        go false g = still (S.hold c) g refl (K.facts c up)

    notes : (f c : ℕ) → S.gone c ≡ false → Each (Leads o T f c) (T.mail f c)
    notes f c g = go (group c) refl
      where
        go : (b : Bool) → group c ≡ b → Each (Leads o T f c) (T.mail f c)
        go true m = Each-sent a S.gone new S.mail (Leads o T f c) f c
            (Each-map (Leads o S f c) (Leads o T f c) (S.mail f c) (λ l n k. absurd (cc (B.free c m, (n k).1)))
            (K.notes f c g))
            (λ i. let W : IsWrittenTo S.registry q c (new c) = (B.written c g m).0 in
            subst (Each (Leads o T f c)) (sym W.alone) (
              (λ k. (
                begun_hold,
                hold_here c m,
                sym i,
                subst (Runs o T) (sym i) B.runs,
                ap (λ (h : Option Hold). carried c W.letter (replica_of (old_or q h) c)) (hold_here c m) ∙ W.leads,
              )),
              tt,
            ))
        go false m = Each-sent a S.gone new S.mail (Leads o T f c) f c
            (Each-map (Leads o S f c) (Leads o T f c) (S.mail f c)
            (λ l n k. let x : (h : Hold) × (S.hold c ≡ Some h) × (h.node ≡ f) × Runs o S f
            × (carried c l (replica_of (before o S c) c) ≡ replica_of S.registry c) = n k in
            let held : T.hold c ≡ Some (record x.0 { old = effect e x.0.old }) =
            hold_there c m ∙ ap (with_effect_on e) x.1 in (
              record x.0 { old = effect e x.0.old },
              held,
              x.2,
              x.3,
              ap (λ (h : Option Hold). carried c l (replica_of (old_or q h) c)) held
                  ∙ ap (carried c l) (B.apart_before c x.0 m x.1)
                  ∙ ap (λ (h : Option Hold). carried c l (replica_of (old_or S.registry h) c)) (sym x.1)
                  ∙ x.4 ∙ sym (B.apart c m),
            )) (K.notes f c g))
            (λ i. subst (Each (Leads o T f c)) (sym (B.spared c g m).0) tt)

    kills : (f c : ℕ) → S.gone c ≡ false → Each (λ l. AllDead q (kills_in l)) (T.mail f c)
    kills f c g = Each-sent a S.gone new S.mail (λ l. AllDead q (kills_in l)) f c
        (Each-map (λ l. AllDead S.registry (kills_in l)) (λ l. AllDead q (kills_in l)) (S.mail f c)
        (λ l h. AllDead-more S.registry q B.dead (kills_in l) h) (K.kills f c g))
        (λ i. go (group c) refl)
      where
        go : (b : Bool) → group c ≡ b → Each (λ l. AllDead q (kills_in l)) (new c)
        go true m = let W : IsWrittenTo S.registry q c (new c) = (B.written c g m).0 in
            subst (Each (λ l. AllDead q (kills_in l))) (sym W.alone) (W.kills, tt)
        go false m = subst (Each (λ l. AllDead q (kills_in l))) (sym (B.spared c g m).0) tt

    -- the new letters are no answers, and there is one for each node that is awaited
    no_answers : (c : ℕ) → S.gone c ≡ false → count_of is_applied (new c) ≡ 0
    no_answers c g = go (group c) refl
      where
        go : (b : Bool) → group c ≡ b → count_of is_applied (new c) ≡ 0
        go true m = let W : IsWrittenTo S.registry q c (new c) = (B.written c g m).0 in
            ap (count_of is_applied) W.alone ∙ ap (λ (b : Bool). one_if b + 0) (carries_no_answer W.letter W.carries)
        go false m = ap (count_of is_applied) (B.spared c g m).0

    one_each : (c : ℕ) → S.gone c ≡ false → count_of carries (new c) ≡ one_if (awaited c)
    one_each c g = go (group c) refl
      where
        go : (b : Bool) → group c ≡ b → count_of carries (new c) ≡ one_if (awaited c)
        go true m = let W : IsWrittenTo S.registry q c (new c) = (B.written c g m).0 in
            ap (count_of carries) W.alone ∙ ap (λ (b : Bool). one_if b + 0) W.carries
            ∙ ap one_if (sym (B.written c g m).1)
        go false m = ap (count_of carries) (B.spared c g m).0 ∙ ap one_if (sym (B.spared c g m).1)

    sessions : (h c : ℕ) → Runs o S h → Runs o S c
        → count_of carries (T.mail h c) + count_of is_applied (T.mail c h) ≡ one_if (awaits_node (T.doing h) c)
    sessions h c uh uc = ap (λ (k : ℕ). count_of carries (T.mail h c) + k)
        (count_of-sent a S.gone new S.mail is_applied c h (no_answers h uh.1))
        ∙ by_test a (λ h t. count_of carries (S.mail h c) + count_of is_applied (S.mail c h)
        ≡ one_if (awaits_node (S.doing h) c)
        → count_of carries (if t && not (S.gone c) then S.mail h c ++ new c else S.mail h c) + count_of is_applied
        (S.mail c h) ≡ one_if (awaits_node (if t then now else S.doing h) c))
        (λ k.
        let old : count_of carries (S.mail a c) + count_of is_applied (S.mail c a) ≡ 0 =
        k ∙ ap (λ (d : Doing). one_if (awaits_node d c)) B.idle in
        let more : count_of carries (S.mail a c ++ new c) ≡ count_of carries (S.mail a c) + count_of carries (new c) =
        count_of-append carries (S.mail a c) (new c) in
        let one : count_of carries (new c) ≡ one_if (awaited c) = one_each c uc.1 in
        ap (λ (b : Bool). count_of carries (if true && not b then S.mail a c ++ new c else S.mail a c) + count_of
        is_applied (S.mail c a)) uc.1 ∙ omega arith)
        (λ h ne k. k) h (K.sessions h c uh uc)

    -- the replicas are still those of the registry
    pub Kept-begun : Kept o begun_scene
    Kept-begun = record {
      departed = λ d. B.left d ∙ K.departed d;
      joined_inside = B.joined;
      holds = holds;
      writers = writers;
      written = written;
      facts = facts;
      notes = notes;
      kills = kills;
      dead = λ x s h. B.dead _ (K.dead x s h);
      struck = λ x. AreStruck-more o S T B.dead x (S.struck x) (K.struck x);
      sessions = sessions;
    }
