-- What answers and departures make of a round: whom it asks, who is still to answer, and its boss.
use Rattle.std.proofs.Common.{ℕ, Bool, true, false, ◌≡◌, ◌<◌, refl, sym, subst}
use Rattle.std.specs.Prelude.{not, ◌&&◌, ◌||◌, if◌then◌else◌}
use Rattle.std.proofs.lemmas.Bool.{eq-eqb}
use Rattle.registry_model.specs.Process.{Nodes}
use Rattle.protocol_model.specs.Round.{Mark, Out, Later, Owes, Round, is_out, is_empty, greatest, begin, asked, owes, asked_too, answer, mark_down, down, is_over, is_refused, is_gone, has_granted, is_owes}
use Rattle.registry_model.proofs.Updates.{by_test}
use Rattle.headline.proofs.Indices.{greatest_in}
use Rattle.headline.proofs.Rounds.{mark_by, Answered, Own, Stays, Opened, mark_answered, answer_boss}

-- is to answer, now or later
abbrev pub is_to_come : Mark → Bool
is_to_come Later = true
is_to_come Owes = true
is_to_come _ = false

-- isn't asked, or not yet
abbrev pub is_before : Mark → Bool
is_before Out = true
is_before Later = true
is_before _ = false

pub asked_of_owes : (r : Round) (f : ℕ) → owes r f ≡ true → asked r f ≡ true
asked_of_owes r f h = go (r.mark f) h
  where
    go : (m : Mark) → is_owes m ≡ true → not (is_out m) ≡ true
    go Owes e = refl
    go _ e = cc

-- who isn't to answer before isn't then
pub to_come_answer : (f : ℕ) (g : Bool) (r : Round) → owes r f ≡ true → (x : ℕ) → is_to_come (r.mark x) ≡ false
    → is_to_come ((answer f g r).mark x) ≡ false
to_come_answer f g r owe x h = go ((answer f g r).mark x) (mark_answered f g r owe x)
  where
    by : (k : Bool) → is_to_come (mark_by k) ≡ false
    by true = refl
    by false = refl

    too : (m : Mark) → is_to_come m ≡ false → is_to_come (asked_too m) ≡ false
    too Later e = cc
    too _ e = e

    go : (m : Mark) → Answered f g x (r.mark x) m → is_to_come m ≡ false
    go m (Own e) = by g
    go m Stays = h
    go m Opened = too (r.mark x) h

pub to_come_down : (d : ℕ) (r : Round) (x : ℕ) → (x ≡ d → ⊥) → is_to_come (r.mark x) ≡ false
    → is_to_come ((down d r).mark x) ≡ false
to_come_down d r x ne h = by_test d
    (λ y t. is_to_come (r.mark y) ≡ false → is_to_come (if t then mark_down (r.mark d) else r.mark y) ≡ false)
    (λ k. down_over (r.mark d)) (λ y nq k. k) x h
  where
    down_over : (m : Mark) → is_to_come (mark_down m) ≡ false
    down_over Later = refl
    down_over _ = refl

-- who has gone down isn't to answer
pub to_come_gone : (d : ℕ) (r : Round) → is_to_come ((down d r).mark d) ≡ false
to_come_gone d r = rw (eq-eqb d d refl) (over (r.mark d))
  where
    over : (m : Mark) → is_to_come (mark_down m) ≡ false
    over Later = refl
    over _ = refl

pub to_come_begin : (n : ℕ) (s : Nodes) (x : ℕ) → s x ≡ false → is_to_come ((begin n s).mark x) ≡ false
to_come_begin n s x h = rw h refl

-- the boss was asked
pub boss_answer : (f : ℕ) (g : Bool) (r : Round) → owes r f ≡ true → is_before (r.mark r.boss) ≡ false
    → is_before ((answer f g r).mark (answer f g r).boss) ≡ false
boss_answer f g r owe h = subst (λ (y : ℕ). is_before ((answer f g r).mark y) ≡ false) (sym (answer_boss f g r))
    (go ((answer f g r).mark r.boss) (mark_answered f g r owe r.boss))
  where
    by : (k : Bool) → is_before (mark_by k) ≡ false
    by true = refl
    by false = refl

    too : (m : Mark) → is_before m ≡ false → is_before (asked_too m) ≡ false
    too Out e = e
    too _ e = refl

    go : (m : Mark) → Answered f g r.boss (r.mark r.boss) m → is_before m ≡ false
    go m (Own e) = by g
    go m Stays = h
    go m Opened = too (r.mark r.boss) h

pub boss_down : (d : ℕ) (r : Round) → is_before (r.mark r.boss) ≡ false
    → is_before ((down d r).mark (down d r).boss) ≡ false
boss_down d r h = by_test d
    (λ y t. is_before (r.mark y) ≡ false → is_before (if t then mark_down (r.mark d) else r.mark y) ≡ false)
    (same (r.mark d)) (λ y ne k. k) r.boss h
  where
    same : (m : Mark) → is_before m ≡ false → is_before (mark_down m) ≡ false
    same Out e = e
    same _ e = refl

pub boss_begin : (n : ℕ) (s : Nodes) (c : ℕ) → c < n → s c ≡ true
    → is_before ((begin n s).mark (begin n s).boss) ≡ false
boss_begin n s c l h = rw (greatest_in n s c l h, eq-eqb (greatest n s) (greatest n s) refl) refl

-- a round that begins isn't over
pub over_begin : (n : ℕ) (s : Nodes) → is_over n (begin n s) ≡ false
over_begin n s = rw (eq-eqb (greatest n s) (greatest n s) refl) (go (s (greatest n s)))
  where
    go : (b : Bool) → (is_refused (if b then Owes else Out) || is_gone (if b then Owes else Out) ||
        has_granted (if b then Owes else Out) && is_empty n (owes (begin n s))) ≡ false
    go true = refl
    go false = refl
