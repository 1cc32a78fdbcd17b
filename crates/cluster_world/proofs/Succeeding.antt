-- Lists of nodes, of cores and of letters where the next node of a name stands for its last.
use Rattle.std.proofs.Common.{ℕ, zero, suc, Bool, true, false, ◌==◌, ◌≡◌, ◌<◌, ◌≤◌, ◌+◌, Option, Some, None, List, [], ◌∷◌, ◌++◌, length, get_or, set, map, refl, sym, ap, subst, ◌∙◌, arith, inl, inr}
use Rattle.std.specs.Prelude.{if◌then◌else◌, not, ◌&&◌, ◌||◌, Contains, option_map}
use Rattle.std.specs.List.{All}
use Rattle.std.specs.List.Sorted.{IsStrictlyIncreasing}
use Rattle.std.proofs.lemmas.Bool.{cases_eq, cases_lt, eq-eqb, ne_eqb, eqb-true, and_parts, and_from, or_cases, or_right, false_from_ne_true}
use Rattle.std.proofs.lemmas.List.{length-map, get_or-map}
use Rattle.std.proofs.lemmas.List.Folds.{list_any_at}
use Rattle.registry_model.specs.Process.{Nodes}
use Rattle.registry_model.proofs.Lists.{Contains-front, Contains-behind}
use Rattle.protocol_model.specs.Links.{Links}
use Rattle.protocol_model.specs.World.{Opening}
use Rattle.term.specs.Nodes.{name_of}
use Rattle.term.specs.NodeSets.{set_of, with_older, succeeded}
use Rattle.term.proofs.NodePlaces.{place-Some}
use Rattle.term.proofs.NodeSets.{rises}
use Rattle.term.proofs.Older.{reached, reaching, succeeded_is, succeeded_keeps}
use Rattle.term.proofs.Succeeded.{next_of, keeps_order}
use Rattle.boss_order.proofs.Sets.{set_of-item}
use Rattle.link.specs.MeshState.{place}
use Rattle.node_core.specs.declared.Letter.{Letter}
use Rattle.node_core.specs.declared.Letter.TheVariants.{SetLock, LockAnswer, GiveBack, GivenBack, ReleaseOf, Apply, Applied, JoinAsk, JoinRefused, Admit, Welcome, Down}
use Rattle.node_core.specs.CoreState.{CoreState, HaveLeft}
use Rattle.node_core.specs.Seen.{node_of}
use Rattle.node_core.specs.Steps.{IsSaidBy}
use Rattle.cluster_world.specs.Cores.{core_of}
use Rattle.cluster_world.specs.Links.{AreFit}
use Rattle.cluster_world.specs.Restarting.{replaced_in}
use Rattle.cluster_world.specs.Seen.{or_else, node_with}
use Rattle.cluster_world.proofs.Cores.{not_among}
use Rattle.cluster_world.proofs.Steps.{core_name}

-- a node is of a set that contains it
pub set_contains : (xs : List ℕ) (c : ℕ) → Contains xs c → set_of xs c ≡ true
set_contains xs c i = list_any_at (λ m. m == c) xs i.0 c i.1 (eq-eqb (get_or xs i.0 c) c i.2)

pub contains_set : (xs : List ℕ) (c : ℕ) → set_of xs c ≡ true → Contains xs c
contains_set [] c e = absurd (cc e)
contains_set (x ∷ xs) c e = elim (or_cases (x == c) (set_of xs c) e) [
  | inl here ↦ subst (Contains (x ∷ xs)) (eqb-true x c here) (Contains-front x xs)
  | inr more ↦ Contains-behind x xs c (contains_set xs c more)
]

-- A list where one node stands for another, at its place
unchanged : (a b : ℕ) (xs : List ℕ) → ((k : ℕ) → k < length xs → get_or xs k 0 ≡ a → ⊥) → succeeded a b xs ≡ xs
unchanged a b [] none = refl
unchanged a b (x ∷ xs) none = rw (ne_eqb x a (none 0 (omega arith)))
    (ap (λ (ys : List ℕ). x ∷ ys) (unchanged a b xs (λ k l. none (suc k) (omega arith))))

set_there : (a b : ℕ) (xs : List ℕ) (i : ℕ) → i < length xs → get_or xs i 0 ≡ a
    → ((k : ℕ) → k < length xs → get_or xs k 0 ≡ a → k ≡ i) → set xs i b ≡ succeeded a b xs
set_there a b [] i l here others = absurd (omega arith)
set_there a b (x ∷ xs) zero l here others = rw (eq-eqb x a here)
    (ap (λ (ys : List ℕ). b ∷ ys) (sym (unchanged a b xs (λ k m e.
    let z : suc k ≡ 0 = others (suc k) (omega arith) e in omega (arith, z)))))
set_there a b (x ∷ xs) (suc i) l here others = rw (ne_eqb x a (λ e. let z : 0 ≡ suc i = others 0 (omega arith) e in omega (arith, z)))
    (ap (λ (ys : List ℕ). x ∷ ys) (set_there a b xs i (omega arith) here
    (λ k m e. let z : suc k ≡ suc i = others (suc k) (omega arith) e in omega (arith, z))))

pub set_placed : (a b : ℕ) (xs : List ℕ) (i : ℕ) → IsStrictlyIncreasing xs → place a xs ≡ Some i → set xs i b ≡ succeeded a b xs
set_placed a b xs i up e = set_there a b xs i at_place.0 at_place.1 others
  where
    at_place : (i < length xs) × (get_or xs i 0 ≡ a)
    at_place = place-Some a xs i e

    others : (k : ℕ) → k < length xs → get_or xs k 0 ≡ a → k ≡ i
    others k l f = elim (cases_lt k i) [
      | inl below ↦ absurd (omega (arith, rises xs k i up below at_place.0, f, at_place.1))
      | inr not_below ↦ elim (cases_lt i k) [
        | inl above ↦ absurd (omega (arith, rises xs i k up above l, f, at_place.1))
        | inr not_above ↦ omega (arith, not_below, not_above)
      ]
    ]

-- it rises, where the next node isn't in it
pub rising_still : (a b : ℕ) (xs : List ℕ) → b ≡ a + 1 → set_of xs b ≡ false → IsStrictlyIncreasing xs
    → IsStrictlyIncreasing (succeeded a b xs)
rising_still a b xs next new up k l =
    let long : length (succeeded a b xs) ≡ length xs = length-map xs (next_of a b) in
    let m : k + 1 < length xs = omega (arith, l, long) in
    rw (get_or-map (next_of a b) xs k 0 0 (omega (arith, m)), get_or-map (next_of a b) xs (k + 1) 0 0 m)
    (keeps_order a b (get_or xs k 0) (get_or xs (k + 1) 0) next (up k m)
    (λ e. cc (new, ap (set_of xs) (sym e), set_of-item xs (k + 1) 0 m)))

-- A list of cores that take the next node of a name
module _ (departed : List ℕ) (a b : ℕ) where
  abbrev then_core : CoreState → CoreState
  then_core = replaced_in departed a b

  -- its node is the same, and is seen the same
  pub name_kept : (c : CoreState) → (then_core c).name ≡ c.name
  name_kept c = go (with_older departed c.name)
    where
      go : (t : Bool) → (if t then c else record c { world = succeeded a b c.world }).name ≡ c.name
      go true = refl
      go false = refl

  pub node_kept : (c : CoreState) → node_of (then_core c) ≡ node_of c
  node_kept c = go (with_older departed c.name)
    where
      go : (t : Bool) → node_of (if t then c else record c { world = succeeded a b c.world }) ≡ node_of c
      go true = refl
      go false = refl

  -- it knows the next node where it runs
  pub world_kept : (nodes : List ℕ) (c : CoreState) → (with_older departed c.name ≡ false → c.world ≡ nodes)
      → with_older departed (then_core c).name ≡ false → (then_core c).world ≡ succeeded a b nodes
  world_kept nodes c knows up = go (with_older departed c.name) refl (ap (with_older departed) (sym (name_kept c)) ∙ up)
    where
      go : (t : Bool) → with_older departed c.name ≡ t → with_older departed c.name ≡ false
          → (if t then c else record c { world = succeeded a b c.world }).world ≡ succeeded a b nodes
      go true e f = absurd (cc (e, f))
      go false e f = ap (succeeded a b) (knows e)

  pub names_kept : (cs : List CoreState) → map core_name (map then_core cs) ≡ map core_name cs
  names_kept [] = refl
  names_kept (c ∷ cs) = ap (λ (n : ℕ). n ∷ map core_name (map then_core cs)) (name_kept c)
      ∙ ap (λ (ns : List ℕ). c.name ∷ ns) (names_kept cs)

  pub found_kept : (y : ℕ) (cs : List CoreState) → core_of y (map then_core cs) ≡ option_map then_core (core_of y cs)
  found_kept y [] = refl
  found_kept y (c ∷ cs) = ap (λ (n : ℕ). if n == y then Some (then_core c) else core_of y (map then_core cs)) (name_kept c)
      ∙ go (c.name == y) (found_kept y cs)
    where
      go : (t : Bool) → core_of y (map then_core cs) ≡ option_map then_core (core_of y cs)
          → (if t then Some (then_core c) else core_of y (map then_core cs))
          ≡ option_map then_core (if t then Some c else core_of y cs)
      go true e = refl
      go false e = e

  pub seen_kept : (O : Opening) (y : ℕ) (c more : Option CoreState)
      → node_with O y (or_else (option_map then_core c) more) ≡ node_with O y (or_else c more)
  seen_kept O y None more = refl
  seen_kept O y (Some c) more = node_kept c

-- what was kept of replaced nodes, and one core more
pub found_past : (y : ℕ) (ps : List CoreState) (g : CoreState) → (g.name ≡ y → ⊥) → core_of y (ps ++ g ∷ []) ≡ core_of y ps
found_past y [] g ne = ap (λ (t : Bool). let r : Option CoreState = if t then Some g else None in r) (ne_eqb g.name y ne)
found_past y (p ∷ ps) g ne = ap (λ (r : Option CoreState). if p.name == y then Some p else r) (found_past y ps g ne)

pub found_last : (y : ℕ) (ps : List CoreState) (g : CoreState) → core_of y ps ≡ None → g.name ≡ y → core_of y (ps ++ g ∷ []) ≡ Some g
found_last y [] g none e = ap (λ (t : Bool). let r : Option CoreState = if t then Some g else None in r) (eq-eqb g.name y e)
found_last y (p ∷ ps) g none e = go (p.name == y) none (λ n. found_last y ps g n e)
  where
    go : (t : Bool) → (if t then Some p else core_of y ps) ≡ None → (core_of y ps ≡ None → core_of y (ps ++ g ∷ []) ≡ Some g)
        → (if t then Some p else core_of y (ps ++ g ∷ [])) ≡ Some g
    go true n more = absurd (cc n)
    go false n more = more n

pub none_past : (nodes : List ℕ) (y : ℕ) (ps : List CoreState) → set_of nodes y ≡ true
    → All (λ c. (with_older nodes c.name ≡ true) × (set_of nodes c.name ≡ false)) ps → core_of y ps ≡ None
none_past nodes y ps e all = not_among core_name y ps (λ k d l f. cc (e, (all k d l).1, ap (set_of nodes) f))

-- What a letter's reader relies on it relies on where more nodes have started
said_still : (ns ms : List ℕ) → ((c : ℕ) → with_older ns c ≡ true → with_older ms c ≡ true) → (t f : ℕ) (l : Letter)
    → IsSaidBy ns t f l → IsSaidBy ms t f l
said_still ns ms wider t f (JoinAsk pairs) s = wider f s
said_still ns ms wider t f (Admit body) s = wider body.joiner s
said_still ns ms wider t f (Welcome body) s = record {
  members = λ c e. wider c (s.members c e);
  told = λ c e. wider c (s.told c e);
  self = s.self;
  here = s.here;
  rising = s.rising;
}
said_still ns ms wider t f Down s = (wider f s.0, s.1)
said_still ns ms wider t f (SetLock i p) s = tt
said_still ns ms wider t f (LockAnswer i p b) s = tt
said_still ns ms wider t f (GiveBack i p b) s = tt
said_still ns ms wider t f (GivenBack p) s = tt
said_still ns ms wider t f (ReleaseOf p) s = tt
said_still ns ms wider t f (Apply c) s = tt
said_still ns ms wider t f Applied s = tt
said_still ns ms wider t f JoinRefused s = tt

module _ (nodes departed : List ℕ) (went : HaveLeft nodes departed) (a : ℕ) (known : set_of nodes a ≡ true)
    (gone : with_older departed a ≡ true) (named : name_of (a + 1) ≡ name_of a) where
  abbrev b : ℕ
  b = a + 1

  abbrev now : List ℕ
  now = succeeded a b nodes

  -- the next node isn't there yet
  pub not_yet : set_of nodes b ≡ false
  not_yet = false_from_ne_true (set_of nodes b) (λ e. let same : b ≡ a = went.one b a e known named in omega (arith, same))

  pub not_started : with_older nodes b ≡ false
  not_started = false_from_ne_true (with_older nodes b) (λ e.
      let m : (m : ℕ) × (set_of nodes m ≡ true) × (name_of m ≡ name_of b) × (b ≤ m) = reached nodes b e in
      let same : m.0 ≡ a = went.one m.0 a m.1 known (m.2 ∙ named) in
      let l : b ≤ m.0 = m.3 in
      omega (arith, same, l))

  pub not_left : with_older departed b ≡ false
  not_left = false_from_ne_true (with_older departed b) (λ e. cc (went.started b e, not_started))

  -- and then it is, and the one before it isn't
  pub there_now : set_of now b ≡ true
  there_now = succeeded_is nodes a b b ∙ or_right (set_of nodes b && not (b == a)) (set_of nodes a && (b == b))
      (and_from (set_of nodes a) (b == b) known (eq-eqb b b refl))

  pub away_now : set_of now a ≡ false
  away_now = succeeded_is nodes a b a ∙ rw (eq-eqb a a refl, ne_eqb b a (λ e. omega (arith, e))) (none (set_of nodes a))
    where
      none : (t : Bool) → ((t && false) || (t && false)) ≡ false
      none true = refl
      none false = refl

  pub others_now : (t : ℕ) → (t ≡ a → ⊥) → (t ≡ b → ⊥) → set_of now t ≡ set_of nodes t
  others_now t ne other = succeeded_is nodes a b t ∙ rw (ne_eqb t a ne, ne_eqb b t (λ e. other (sym e))) (same (set_of nodes t) (set_of nodes a))
    where
      same : (s u : Bool) → ((s && true) || (u && false)) ≡ s
      same true u = refl
      same false true = refl
      same false false = refl

  pub started_still : (t : ℕ) → with_older nodes t ≡ true → with_older now t ≡ true
  started_still t e = succeeded_keeps nodes a b t named (omega arith) e

  -- nobody else has started
  pub older_same : (t : ℕ) → (t ≡ b → ⊥) → with_older now t ≡ with_older nodes t
  older_same t ne = go (with_older nodes t) refl
    where
      go : (s : Bool) → with_older nodes t ≡ s → with_older now t ≡ s
      go true e = started_still t e
      go false e = false_from_ne_true (with_older now t) (λ h.
          let m : (m : ℕ) × (set_of now m ≡ true) × (name_of m ≡ name_of t) × (t ≤ m) = reached now t h in
          elim (or_cases (set_of nodes m.0 && not (m.0 == a)) (set_of nodes a && (b == m.0)) (sym (succeeded_is nodes a b m.0) ∙ m.1)) [
            | inl old ↦ cc (e, reaching nodes m.0 t (and_parts (set_of nodes m.0) (not (m.0 == a)) old).0 m.2 m.3)
            | inr new ↦
                let same : b ≡ m.0 = eqb-true b m.0 (and_parts (set_of nodes a) (b == m.0) new).1 in
                let l : t ≤ m.0 = m.3 in
                cc (e, reaching nodes a t known (sym named ∙ ap name_of same ∙ m.2) (omega (arith, l, same, ne)))
          ])

  -- the letters that wait are fit to, still
  pub fit_still : (w : Links Letter) → w.closed ≡ with_older departed → AreFit nodes w → AreFit now w
  fit_still w shut fit = record {
    known = λ f t strange. go f t (set_of nodes t) (with_older nodes f) refl refl strange;
    quiet = fit.quiet;
    said = λ f t k d l. said_still nodes now started_still t f (get_or (w.queue f t) k d) (fit.said f t k d l);
  }
    where
      closed_a : w.closed a ≡ true
      closed_a = ap (λ (s : Nodes). s a) shut ∙ gone

      nobody_known : (f t : ℕ) (s o : Bool) → with_older nodes f ≡ o → set_of nodes t ≡ s → (o && s) ≡ false → w.queue f t ≡ []
      nobody_known f t s o p q r = fit.known f t (ap (λ (x : Bool). x && set_of nodes t) p ∙ ap (λ (x : Bool). o && x) q ∙ r)

      go : (f t : ℕ) (s o : Bool) → set_of nodes t ≡ s → with_older nodes f ≡ o → (with_older now f && set_of now t) ≡ false
          → w.queue f t ≡ []
      go f t false true q p strange = nobody_known f t false true p q refl
      go f t false false q p strange = nobody_known f t false false p q refl
      go f t true false q p strange = nobody_known f t true false p q refl
      go f t true true q p strange = elim (cases_eq t a) [
        | inl same ↦ fit.quiet f t (ap w.closed same ∙ closed_a)
        | inr ne ↦ absurd (cc (
          strange,
          and_from (with_older now f) (set_of now t) (started_still f p)
              (others_now t ne (λ e. cc (q, not_yet, ap (set_of nodes) e)) ∙ q),
        ))
      ]
