-- Where the next node of a name takes the place of the one before it, a sound loop stays sound.
use Rattle.std.proofs.Common.{ℕ, Bool, true, false, ◌≡◌, ◌==◌, ◌<◌, ◌≤◌, ◌+◌, ◌^◌, List, [], ◌∷◌, ◌++◌, length, get_or, inl, inr, refl, sym, ap, subst, ◌∙◌, arith}
use Rattle.std.specs.Prelude.{if◌then◌else◌, not, max, ◌⊎◌, ◌&&◌, ◌||◌}
use Rattle.std.specs.List.Sorted.{IsStrictlyIncreasing}
use Rattle.std.proofs.lemmas.Bool.{cases_eq, both_ways, eq-eqb, eqb-true, ne_eqb, and_from, and_parts, or_cases, or_left, or_right, true≢false}
use Rattle.std.proofs.lemmas.List.{get_or-map, length-map}
use Rattle.std.proofs.lemmas.List.Folds.{list_any_at}
use Rattle.protocol_model.specs.World.{Opening, in_world}
use Rattle.closings.specs.Alone.{Stamped as StampedLetter, sent}
use Rattle.closings.specs.Guarded.{Begins}
use Rattle.term.specs.Nodes.{name_of}
use Rattle.term.specs.NodeSets.{set_of, with_older, succeeded}
use Rattle.term.proofs.Older.{held, reached, reaching, succeeded_is, succeeded_keeps}
use Rattle.term.proofs.Succeeded.{next_of, keeps_order}
use Rattle.node_core.specs.CoreState.{bound_of}
use Rattle.tray.specs.Held.{Waiting, none_for, renewed}
use Rattle.node_loop.specs.declared.item.Item.{Item}
use Rattle.node_loop.specs.Held.{Looping, with_next}
use Rattle.node_loop.specs.Dealings.{Dealt, letters_in, put, receivers, waiting_for}
use Rattle.node_loop.specs.Returning.{IsByName, IsNodeAmong, Start, IsSoundFrom, MayStart, StartsKeepSound}

-- rising nodes rise still, where none of them is the next one
rising_succeeded : (xs : List ℕ) (a b : ℕ) → b ≡ a + 1 → set_of xs b ≡ false → IsStrictlyIncreasing xs → IsStrictlyIncreasing (succeeded a b xs)
rising_succeeded xs a b next new rise k l =
    let inside : k + 1 < length xs = omega (arith, l, length-map xs (next_of a b)) in
    let first = get_or-map (next_of a b) xs k 0 0 (omega (arith, inside)) in
    let second = get_or-map (next_of a b) xs (k + 1) 0 0 inside in
    rw (first, second) (keeps_order a b (get_or xs k 0) (get_or xs (k + 1) 0) next (rise k inside)
    (λ same. both_ways (set_of xs b) new (list_any_at (λ m. m == b) xs (k + 1) 0 inside (eq-eqb _ _ same))))

-- the world is as great as it was
bound_succeeded : (xs : List ℕ) (a b : ℕ) → name_of b ≡ name_of a → bound_of (succeeded a b xs) ≡ bound_of xs
bound_succeeded [] a b named = refl
bound_succeeded (x ∷ xs) a b named = go (x == a) refl (bound_succeeded xs a b named)
  where
    go : (t : Bool) → (x == a) ≡ t → bound_of (succeeded a b xs) ≡ bound_of xs
        → max (name_of (if t then b else x) + 2 ^ 32) (bound_of (succeeded a b xs)) ≡ max (name_of x + 2 ^ 32) (bound_of xs)
    go true e rest = ap (λ (n : ℕ). max (n + 2 ^ 32) (bound_of (succeeded a b xs))) (named ∙ ap name_of (sym (eqb-true x a e)))
        ∙ ap (λ (n : ℕ). max (name_of x + 2 ^ 32) n) rest
    go false e rest = ap (λ (n : ℕ). max (name_of x + 2 ^ 32) n) rest

-- the tray
receivers_renewed : (a b : ℕ) (ws : List (Waiting Item)) → receivers (renewed a b ws) ≡ succeeded a b (receivers ws)
receivers_renewed a b [] = refl
receivers_renewed a b (w ∷ ws) = go (w.receiver == a) (receivers_renewed a b ws)
  where
    go : (t : Bool) → receivers (renewed a b ws) ≡ succeeded a b (receivers ws)
        → (if t then none_for b else w).receiver ∷ receivers (renewed a b ws) ≡ (if t then b else w.receiver) ∷ succeeded a b (receivers ws)
    go true rest = ap (λ (xs : List ℕ). b ∷ xs) rest
    go false rest = ap (λ (xs : List ℕ). w.receiver ∷ xs) rest

-- what waits for others is what waited, and nothing waits for the next one
waits_apart : (a b t : ℕ) → (t ≡ a → ⊥) → (t ≡ b → ⊥) → (ws : List (Waiting Item)) → waiting_for t (renewed a b ws) ≡ waiting_for t ws
waits_apart a b t not_a not_b [] = refl
waits_apart a b t not_a not_b (w ∷ ws) = go (w.receiver == a) refl (waits_apart a b t not_a not_b ws)
  where
    go : (c : Bool) → (w.receiver == a) ≡ c → waiting_for t (renewed a b ws) ≡ waiting_for t ws
        → (if (if c then none_for b else w).receiver == t then (if c then none_for b else w).letters else waiting_for t (renewed a b ws))
        ≡ (if w.receiver == t then w.letters else waiting_for t ws)
    go true e rest = rw (
      ne_eqb b t (λ same. not_b (sym same)),
      ne_eqb w.receiver t (λ same. not_a (sym same ∙ eqb-true w.receiver a e)),
    ) rest
    go false e rest = ap (λ (xs : List Item). if w.receiver == t then w.letters else xs) rest

none_waits : (a b : ℕ) (ws : List (Waiting Item)) → set_of (receivers ws) b ≡ false → waiting_for b (renewed a b ws) ≡ []
none_waits a b [] new = refl
none_waits a b (w ∷ ws) new = go (w.receiver == a) (cases_eq w.receiver b) new (λ rest. none_waits a b ws rest)
  where
    go : (c : Bool) → (w.receiver ≡ b) ⊎ (w.receiver ≡ b → ⊥) → ((w.receiver == b) || set_of (receivers ws) b) ≡ false
        → (set_of (receivers ws) b ≡ false → waiting_for b (renewed a b ws) ≡ [])
        → (if (if c then none_for b else w).receiver == b then (if c then none_for b else w).letters else waiting_for b (renewed a b ws)) ≡ []
    go true here h waits = rw (eq-eqb b b refl) refl
    go false (inl same) h waits = absurd (true≢false (sym (ap (λ (x : Bool). x || set_of (receivers ws) b) (eq-eqb w.receiver b same)) ∙ h))
    go false (inr other) h waits = rw (ne_eqb w.receiver b other)
        (waits (ap (λ (x : Bool). x || set_of (receivers ws) b) (sym (ne_eqb w.receiver b other)) ∙ h))

module _ (o : Opening) (start : Start) (older next : ℕ) (a : Looping) (d : Dealt) (by_name : IsByName o) (M : MayStart older next a)
    (S : IsSoundFrom o start a d) where
  abbrev world : List ℕ
  world = a.core.world

  abbrev later : List ℕ
  later = succeeded older next world

  is_above : older ≤ next
  is_above = omega (arith, M.next_is.is)

  -- the next one isn't of the world yet
  not_there : set_of world next ≡ false
  not_there = go (set_of world next) refl
    where
      go : (b : Bool) → set_of world next ≡ b → b ≡ false
      go false e = refl
      go true e = absurd (true≢false (sym (held world next e) ∙ M.new))

  stays : (c : ℕ) → with_older world c ≡ true → with_older later c ≡ true
  stays c = succeeded_keeps world older next c M.next_is.named is_above

  -- who has started then had started, or is the next one
  started : (c : ℕ) → with_older later c ≡ true → (with_older world c ≡ true) ⊎ (c ≡ next)
  started c e =
      let r = reached later c e in
      elim (or_cases (set_of world r.0 && not (r.0 == older)) (set_of world older && (next == r.0)) (sym (succeeded_is world older next r.0) ∙ r.1)) [
        | inl other ↦ inl (reaching world r.0 c (and_parts (set_of world r.0) (not (r.0 == older)) other).0 r.2 r.3)
        | inr this ↦
            let same : next ≡ r.0 = eqb-true next r.0 (and_parts (set_of world older) (next == r.0) this).1 in
            elim (cases_eq c next) [
              | inl now ↦ inr now
              | inr other ↦ inl (reaching world older c M.known (sym M.next_is.named ∙ (ap name_of same ∙ r.2))
                  (omega (arith, r.3, same, other, M.next_is.is)))
            ]
      ]

  among : IsNodeAmong o (record a.core { world = later })
  among = record {
    bound = S.of.bound ∙ sym (bound_succeeded world older next M.next_is.named);
    inside = λ c e. elim (started c e) [
      | inl was ↦ S.of.inside c was
      | inr now ↦ ap (in_world o) now ∙ (by_name next older M.next_is.named ∙ S.of.inside older (held world older M.known))
    ];
    here = succeeded_is world older next a.core.name
        ∙ or_left (set_of world a.core.name && not (a.core.name == older)) (set_of world older && (next == a.core.name))
        (and_from (set_of world a.core.name) (not (a.core.name == older)) S.of.here
        (ap not (ne_eqb a.core.name older (λ same. M.another (sym same)))));
  }

  -- who stands there and isn't the next one stood there, and isn't the one before it
  stood : (t : ℕ) → set_of later t ≡ true → (t ≡ next → ⊥) → (set_of world t ≡ true) × (t ≡ older → ⊥)
  stood t e other =
      elim (or_cases (set_of world t && not (t == older)) (set_of world older && (next == t)) (sym (succeeded_is world older next t) ∙ e)) [
        | inl was ↦
            let parts = and_parts (set_of world t) (not (t == older)) was in
            (parts.0, λ same. both_ways (not (t == older)) (ap not (eq-eqb t older same)) parts.1)
        | inr this ↦ absurd (other (sym (eqb-true next t (and_parts (set_of world older) (next == t) this).1)))
      ]

  -- and who doesn't, but isn't the one before it, didn't
  absent : (t : ℕ) → set_of later t ≡ false → (t ≡ older → ⊥) → set_of world t ≡ false
  absent t e other = go (set_of world t) refl
    where
      go : (b : Bool) → set_of world t ≡ b → b ≡ false
      go false f = refl
      go true f = absurd (true≢false (sym (succeeded_is world older next t
          ∙ or_left (set_of world t && not (t == older)) (set_of world older && (next == t))
          (and_from (set_of world t) (not (t == older)) f (ap not (ne_eqb t older other)))) ∙ e))

  -- the tray has no list for the next one
  no_list : set_of (receivers a.tray) next ≡ false
  no_list = ap (λ (xs : List ℕ). set_of xs next) S.tray ∙ not_there

  sound : IsSoundFrom o start (with_next older next a) d
  sound = record {
    of = among;
    named = S.named;
    world = refl;
    rising = rising_succeeded world older next M.next_is.is not_there S.rising;
    course = S.course;
    logged = S.logged;
    plays = S.plays;
    node = S.node;
    starts = S.starts;
    above = S.above;
    below = S.below;
    running = S.running;
    known = S.known;
    tray = receivers_renewed older next a.tray ∙ ap (succeeded older next) S.tray;
    sends = λ t e. elim (cases_eq t next) [
      | inl now ↦ subst (λ (n : ℕ). sent n S.course ≡ put d n ++ letters_in (waiting_for n (renewed older next a.tray))) (sym now)
          ((S.later next M.new).1 M.running
          ∙ sym (ap (λ (ls : List StampedLetter). ls ++ letters_in (waiting_for next (renewed older next a.tray))) (S.later next M.new).0
          ∙ ap letters_in (none_waits older next a.tray no_list)))
      | inr other ↦
          let was = stood t e other in
          S.sends t was.0
          ∙ ap (λ (xs : List Item). put d t ++ letters_in xs) (sym (waits_apart older next t was.1 other a.tray))
    ];
    older = λ t out e. elim (cases_eq t older) [
      | inl same ↦ subst (λ (n : ℕ). Begins (put d n) (sent n S.course)) (sym same)
          (letters_in (waiting_for older a.tray), S.sends older M.known)
      | inr other ↦ elim (started t e) [
        | inl was ↦ S.older t (absent t out other) was
        | inr now ↦ absurd (true≢false (sym (ap (set_of later) now ∙ (succeeded_is world older next next
            ∙ or_right (set_of world next && not (next == older)) (set_of world older && (next == next))
            (and_from (set_of world older) (next == next) M.known (eq-eqb next next refl)))) ∙ out))
      ]
    ];
    later = λ t out. S.later t (not_before t out (with_older world t) refl);
  }
    where
      not_before : (t : ℕ) → with_older later t ≡ false → (b : Bool) → with_older world t ≡ b → b ≡ false
      not_before t out true e = absurd (true≢false (sym (stays t e) ∙ out))
      not_before t out false e = refl

pub starts_keep_sound : StartsKeepSound
starts_keep_sound o start older next a d by_name M S = sound o start older next a d by_name M S
