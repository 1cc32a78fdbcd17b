-- Rounds that ask exactly the members, and that only the boss may refuse.
use Rattle.std.proofs.Common.{ℕ, Bool, true, false, ◌==◌, ◌≡◌, ◌<◌, Option, List, [], ◌∷◌, ◌++◌, zero, suc, refl, sym, ap, subst, ◌∙◌, inl, inr}
use Rattle.std.specs.Prelude.{◌&&◌, ◌||◌, if◌then◌else◌}
use Rattle.std.proofs.lemmas.Bool.{cases_eq}
use Rattle.registry_model.specs.Process.{Nodes, nodes_of}
use Rattle.registry_model.proofs.Updates.{by_test}
use Rattle.protocol_model.specs.Round.{Mark, Out, Later, Owes, Granted, Refused, Lost, Gone, Round, Ending, GiveBack, is_empty, is_out, is_owes, is_refused, is_gone, is_granted, has_granted, asked_too, mark_down, greatest, begin, owes, opens, answer, down, is_over, granted, is_held, ending}
use Rattle.protocol_model.specs.Node.{Op}
use Rattle.protocol_model.specs.World.{Opening, World}
use Rattle.no_dead_end.proofs.Indices.{empty_at, is_empty_from}
use Rattle.no_dead_end.proofs.Rounds.{mark_by, answer_opens, answer_owed}
use Rattle.no_dead_end.proofs.Locking.{BossFirst, is_unasked}
use Rattle.getting_through.proofs.Storm.{members, boss, IsMark}

module _ (o : Opening) (w : World) (ops : ℕ → Option Op) (c : ℕ) (below : (x : ℕ) → members o w ops c x ≡ true → x < o.bound) where
  abbrev Marks : Round → Type 0
  Marks r = (x : ℕ) → IsMark o w ops c x (r.mark x)

  pub marks_begin : Marks (begin o.bound (members o w ops c))
  marks_begin x = go (members o w ops c x) (x == greatest o.bound (members o w ops c)) refl
    where
      go : (b d : Bool) → members o w ops c x ≡ b → IsMark o w ops c x (if b then (if d then Owes else Later) else Out)
      go true true e = e
      go true false e = e
      go false d e = e

  pub asked_mark : (x : ℕ) (m : Mark) → IsMark o w ops c x m → is_owes m ≡ true → members o w ops c x ≡ true
  asked_mark x Owes i h = i
  asked_mark x Out i h = cc h
  asked_mark x Later i h = cc h
  asked_mark x Granted i h = cc h
  asked_mark x Refused i h = cc h
  asked_mark x Lost i h = absurd i
  asked_mark x Gone i h = absurd i

  asked_later : (x : ℕ) (m : Mark) → IsMark o w ops c x m → IsMark o w ops c x (asked_too m)
  asked_later x Out i = i
  asked_later x Later i = i
  asked_later x Owes i = i
  asked_later x Granted i = i
  asked_later x Refused i = i
  asked_later x Lost i = i
  asked_later x Gone i = i

  -- an answer that is owed; the boss alone may refuse
  pub marks_answer : (f : ℕ) (g : Bool) (r : Round) → owes r f ≡ true → (g ≡ false → f ≡ boss o w ops c) → Marks r
      → Marks (answer f g r)
  marks_answer f g r owe refuses M x = go (opens f g r) refl
    where
      its : members o w ops c f ≡ true
      its = asked_mark f (r.mark f) (M f) owe

      by : (b : Bool) → (b ≡ false → f ≡ boss o w ops c) → IsMark o w ops c f (mark_by b)
      by true h = its
      by false h = h refl

      go : (b : Bool) → opens f g r ≡ b → IsMark o w ops c x ((answer f g r).mark x)
      go true e = subst (IsMark o w ops c x) (sym (answer_opens f g r e x))
          (by_test f (λ y t. IsMark o w ops c y (if t then Granted else asked_too (r.mark y))) its
          (λ y ne. asked_later y (r.mark y) (M y)) x)
      go false e = subst (IsMark o w ops c x) (sym (answer_owed f g r e owe x))
          (by_test f (λ y t. IsMark o w ops c y (if t then mark_by g else r.mark y)) (by g refuses) (λ y ne. M y) x)

  -- a departure of who is no member
  pub marks_down : (d : ℕ) (r : Round) → members o w ops c d ≡ false → (d ≡ boss o w ops c → ⊥) → Marks r → Marks (down d r)
  marks_down d r out other M x = by_test d (λ y t. IsMark o w ops c y (if t then mark_down (r.mark d) else r.mark y))
      (unasked (r.mark d) (M d)) (λ y ne. M y) x
    where
      unasked : (m : Mark) → IsMark o w ops c d m → IsMark o w ops c d (mark_down m)
      unasked Out i = i
      unasked Later i = cc (i, out)
      unasked Owes i = cc (i, out)
      unasked Granted i = cc (i, out)
      unasked Refused i = i
      unasked Lost i = absurd i
      unasked Gone i = absurd i

  -- a round that is over without being held was refused by its boss, and has no grant
  pub refused_by_boss : (r : Round) → Marks r → r.boss ≡ boss o w ops c → BossFirst r → is_over o.bound r ≡ true → (s : Nodes)
      → ending o.bound (members o w ops c) r ≡ GiveBack s → (x : ℕ) → granted r x ≡ false
  refused_by_boss r M its F over s e = by (r.mark r.boss) refl
    where
      not_held : is_held o.bound (members o w ops c) r ≡ false
      not_held = go (is_held o.bound (members o w ops c) r) e
        where
          go : (b : Bool) → (if b then Ending.Held else GiveBack (granted r)) ≡ GiveBack s → b ≡ false
          go true h = cc h
          go false h = refl

      ungranted : (m : Mark) → is_unasked m ≡ true → is_granted m ≡ false
      ungranted Out h = refl
      ungranted Later h = refl
      ungranted Gone h = refl
      ungranted Owes h = refl
      ungranted Granted h = cc h
      ungranted Refused h = refl
      ungranted Lost h = refl

      by : (m : Mark) → r.mark r.boss ≡ m → (x : ℕ) → granted r x ≡ false
      by Refused i x = elim (cases_eq x r.boss) [
        | inl same ↦ ap (λ (y : ℕ). is_granted (r.mark y)) same ∙ ap is_granted i
        | inr ne ↦ ungranted (r.mark x) (F.early (ap has_granted i) x ne)
      ]
      by Granted i x = absurd (let yes : is_held o.bound (members o w ops c) r ≡ true =
          rw (ap has_granted i, none, all, some) refl in
          cc (yes, not_held))
        where
          has_marks : (y : ℕ) (m : Mark) → r.mark y ≡ m → is_refused m ≡ true → y ≡ r.boss
          has_marks y Refused k h = subst (IsMark o w ops c y) k (M y) ∙ sym its
          has_marks y Out k h = cc h
          has_marks y Later k h = cc h
          has_marks y Owes k h = cc h
          has_marks y Granted k h = cc h
          has_marks y Lost k h = cc h
          has_marks y Gone k h = cc h

          unrefused : (y : ℕ) → is_refused (r.mark y) ≡ false
          unrefused y = go (is_refused (r.mark y)) refl
            where
              go : (b : Bool) → is_refused (r.mark y) ≡ b → b ≡ false
              go false h = refl
              go true h = cc (ap is_refused i, ap (λ (z : ℕ). is_refused (r.mark z)) (has_marks y (r.mark y) refl h), h)

          none : is_empty o.bound (λ y. is_refused (r.mark y)) ≡ true
          none = is_empty_from o.bound (λ y. is_refused (r.mark y)) (λ y l. unrefused y)

          was_asked : (y : ℕ) (m : Mark) → IsMark o w ops c y m → (members o w ops c y && is_out m) ≡ false
          was_asked y Out k = ap (λ (t : Bool). t && true) k
          was_asked y Later k = ap (λ (t : Bool). t && false) k
          was_asked y Owes k = ap (λ (t : Bool). t && false) k
          was_asked y Granted k = ap (λ (t : Bool). t && false) k
          was_asked y Refused k = never (members o w ops c y)
            where
              never : (b : Bool) → (b && false) ≡ false
              never true = refl
              never false = refl
          was_asked y Lost k = absurd k
          was_asked y Gone k = absurd k

          all : is_empty o.bound (λ y. members o w ops c y && is_out (r.mark y)) ≡ true
          all = is_empty_from o.bound (λ y. members o w ops c y && is_out (r.mark y)) (λ y l. was_asked y (r.mark y) (M y))

          member : members o w ops c r.boss ≡ true
          member = subst (IsMark o w ops c r.boss) i (M r.boss)

          some : is_empty o.bound (granted r) ≡ false
          some = go (is_empty o.bound (granted r)) refl
            where
              go : (t : Bool) → is_empty o.bound (granted r) ≡ t → t ≡ false
              go false h = refl
              go true h = cc (empty_at o.bound (granted r) h r.boss (below r.boss member), ap is_granted i)
      by Out i x = absurd (cc (ap (λ (m : Mark). is_refused m || is_gone m || has_granted m && is_empty o.bound (owes r)) i, over))
      by Later i x = absurd (cc (
        ap (λ (m : Mark). is_refused m || is_gone m || has_granted m && is_empty o.bound (owes r)) i,
        over,
      ))
      by Owes i x = absurd (cc (ap (λ (m : Mark). is_refused m || is_gone m || has_granted m && is_empty o.bound (owes r)) i, over))
      by Lost i x = absurd (subst (IsMark o w ops c r.boss) i (M r.boss))
      by Gone i x = absurd (subst (IsMark o w ops c r.boss) i (M r.boss))

-- a set without anybody has no nodes
pub nobody_of : (n : ℕ) (s : Nodes) → ((x : ℕ) → s x ≡ false) → nodes_of n s ≡ []
nobody_of zero s none = refl
nobody_of (suc n) s none = ap (λ (b : Bool). nodes_of n s ++ (if b then n ∷ [] else [])) (none n)
    ∙ ap (λ (xs : List ℕ). xs ++ []) (nobody_of n s none)
