-- A round that fails has a mark for it: some node refused, or has gone down.
use Rattle.std.proofs.Common.{ℕ, Bool, true, false, ◌==◌, ◌≡◌, ◌<◌, refl, ap}
use Rattle.std.specs.Prelude.{not, ◌&&◌, ◌||◌, if◌then◌else◌}
use Rattle.registry_model.specs.Process.{Nodes}
use Rattle.registry_model.proofs.Updates.{by_test}
use Rattle.protocol_model.specs.Round.{Mark, Out, Later, Owes, Granted, Refused, Lost, Gone, Round, is_out, is_refused, is_gone, is_granted, has_granted, is_empty, greatest, begin, asked, owes, asked_too, answer, mark_down, down, granted, is_over, is_held, asked_all, Ending, Held, GiveBack, ending}
use Rattle.moves.proofs.Indices.{both, some_of, empty_at, is_empty_from}
use Rattle.leftovers.proofs.Rounds.{mark_by, Answered, Own, Stays, Opened, mark_answered}

-- has refused, or has gone down
abbrev pub is_bad : Mark → Bool
is_bad Refused = true
is_bad Lost = true
is_bad Gone = true
is_bad _ = false

refused_bad : (m : Mark) → is_refused m ≡ true → is_bad m ≡ true
refused_bad Refused h = refl
refused_bad _ h = cc

gone_bad : (m : Mark) → is_gone m ≡ true → is_bad m ≡ true
gone_bad Gone h = refl
gone_bad _ h = cc

-- a round that begins has none
pub begin_good : (n : ℕ) (s : Nodes) (x : ℕ) → is_bad ((begin n s).mark x) ≡ true → ⊥
begin_good n s x h = go (s x) (x == greatest n s) h
  where
    go : (b e : Bool) → is_bad (if b then (if e then Owes else Later) else Out) ≡ true → ⊥
    go true true k = cc k
    go true false k = cc k
    go false e k = cc k

-- where an answer makes a bad mark, it is that of a node that refuses now, or it was there
pub bad_answer : (f : ℕ) (g : Bool) (r : Round) → owes r f ≡ true → (so : Bool) → (g ≡ false → so ≡ true) → (x : ℕ)
    → (is_bad (r.mark x) ≡ true → so ≡ true) → is_bad ((answer f g r).mark x) ≡ true → so ≡ true
bad_answer f g r owe so denied x before h = go ((answer f g r).mark x) (mark_answered f g r owe x) h
  where
    too : (m : Mark) → is_bad (asked_too m) ≡ true → is_bad m ≡ true
    too Later k = cc
    too _ k = k

    by : (b : Bool) → g ≡ b → is_bad (mark_by b) ≡ true → so ≡ true
    by true e k = cc
    by false e k = denied e

    go : (m : Mark) → Answered f g x (r.mark x) m → is_bad m ≡ true → so ≡ true
    go m (Own e) k = by g refl k
    go m Stays k = before k
    go m Opened k = before (too (r.mark x) k)

-- and where a node goes down that was asked
pub bad_down : (d : ℕ) (r : Round) (so : Bool) → (asked r d ≡ true → so ≡ true) → (x : ℕ)
    → (is_bad (r.mark x) ≡ true → so ≡ true) → is_bad ((down d r).mark x) ≡ true → so ≡ true
bad_down d r so was x before h = by_test d
    (λ y t. (is_bad (r.mark y) ≡ true → so ≡ true) → is_bad (if t then mark_down (r.mark d) else r.mark y) ≡ true
    → so ≡ true)
    (λ b k. here (r.mark d) was k) (λ y ne b k. b k) x before h
  where
    here : (m : Mark) → (not (is_out m) ≡ true → so ≡ true) → is_bad (mark_down m) ≡ true → so ≡ true
    here Out k e = cc
    here _ k e = k refl

-- a round that is over and isn't held has a bad mark
pub failed_bad : (n : ℕ) (r : Round) (s : Nodes) → is_over n r ≡ true → ending n (asked r) r ≡ GiveBack s
    → (asked r r.boss ≡ true → r.boss < n) → (x : ℕ) × (is_bad (r.mark x) ≡ true)
failed_bad n r s over failed below = first (is_refused (r.mark r.boss)) (is_gone (r.mark r.boss)) refl refl over
  where
    unheld : is_held n (asked r) r ≡ false
    unheld = go (is_held n (asked r) r) failed
      where
        is_held_end : Ending → Bool
        is_held_end Held = true
        is_held_end (GiveBack granted) = false

        go : (b : Bool) → (if b then Held else GiveBack (granted r)) ≡ GiveBack s → b ≡ false
        go true e = cc (ap is_held_end e)
        go false e = refl

    no_out : asked_all n (asked r) r ≡ true
    no_out = is_empty_from n (λ c. asked r c && is_out (r.mark c)) (λ c l. neither_of (is_out (r.mark c)))
      where
        neither_of : (b : Bool) → (not b && b) ≡ false
        neither_of true = refl
        neither_of false = refl

    -- the boss granted, and nobody refused: so all that granted are down
    boss : (m : Mark) → r.mark r.boss ≡ m → has_granted m ≡ true → is_empty n (granted r) ≡ true
        → (x : ℕ) × (is_bad (r.mark x) ≡ true)
    boss Granted e h k = absurd (cc (
      ap is_granted e,
      empty_at n (granted r) k r.boss (below (ap (λ (m : Mark). not (is_out m)) e)),
    ))
    boss Lost e h k = (r.boss, ap is_bad e)
    boss _ e h k = cc

    rest : has_granted (r.mark r.boss) ≡ true → (b c : Bool) → is_empty n (λ c. is_refused (r.mark c)) ≡ b
        → is_empty n (granted r) ≡ c → (x : ℕ) × (is_bad (r.mark x) ≡ true)
    rest h false c e k =
        let one : (x : ℕ) × (x < n) × (is_refused (r.mark x) ≡ true) = some_of n (λ c. is_refused (r.mark c)) e in
        (one.0, refused_bad (r.mark one.0) one.2)
    rest h true true e k = boss (r.mark r.boss) refl h k
    rest h true false e k = absurd (cc (unheld, held))
      where
        held : is_held n (asked r) r ≡ true
        held = rw (h, e, no_out, k) refl

    first : (b c : Bool) → is_refused (r.mark r.boss) ≡ b → is_gone (r.mark r.boss) ≡ c
        → (b || c || (has_granted (r.mark r.boss) && is_empty n (owes r))) ≡ true
        → (x : ℕ) × (is_bad (r.mark x) ≡ true)
    first true c e f k = (r.boss, refused_bad (r.mark r.boss) e)
    first false true e f k = (r.boss, gone_bad (r.mark r.boss) f)
    first false false e f k = rest (both (has_granted (r.mark r.boss)) (is_empty n (owes r)) k).0
        (is_empty n (λ c. is_refused (r.mark c))) (is_empty n (granted r)) refl refl
