-- What lies behind a round that ends held.
use Rattle.std.proofs.Common.{ℕ, Bool, true, false, ◌==◌, ◌≡◌, ◌<◌, List, [], ◌∷◌, refl, sym, ap, ◌∙◌}
use Rattle.std.specs.Prelude.{not, ◌&&◌, ◌||◌, if◌then◌else◌}
use Rattle.std.proofs.lemmas.Bool.{eq-eqb, eqb-true, and_parts, not-true}
use Rattle.registry_model.specs.Process.{Nodes}
use Rattle.registry_model.proofs.Updates.{by_test}
use Rattle.protocol_model.proofs.Sets.{empty_at}
use Rattle.protocol_model.specs.Round as protocol
use Rattle.protocol_model.specs.Round.{Mark, Round, is_out, is_owes, is_granted, is_refused, is_gone, has_granted, granted, owes, opens, is_empty, is_over, is_held, greatest, asked_too, mark_down}
use Rattle.locker.specs.Laws.{Move, Answers, GoesDown, after, IsGranted, HeldIsGranted}

-- is asked once the boss has granted
abbrev is_later : Mark → Bool
is_later protocol.Later = true
is_later _ = false

-- once the boss has granted, nobody is to be asked later
abbrev IsOpened : Round → Type 0
IsOpened r = has_granted (r.mark r.boss) ≡ true → (c : ℕ) → is_later (r.mark c) ≡ false

-- at first the boss has not granted
opened-begin : (n : ℕ) (s : Nodes) → IsOpened (protocol.begin n s)
opened-begin n s e = go (s (greatest n s)) (greatest n s == greatest n s) e
  where
    go : (a b : Bool) → has_granted (if a then (if b then protocol.Owes else protocol.Later) else protocol.Out) ≡ true
        → (c : ℕ) → is_later ((protocol.begin n s).mark c) ≡ false
    go true true e = cc
    go true false e = cc
    go false b e = cc

later-asked_too : (m : Mark) → is_later (asked_too m) ≡ false
later-asked_too protocol.Later = refl
later-asked_too protocol.Out = refl
later-asked_too protocol.Owes = refl
later-asked_too protocol.Granted = refl
later-asked_too protocol.Refused = refl
later-asked_too protocol.Lost = refl
later-asked_too protocol.Gone = refl

later-mark_down : (m : Mark) → is_later (mark_down m) ≡ false
later-mark_down protocol.Later = refl
later-mark_down protocol.Out = refl
later-mark_down protocol.Owes = refl
later-mark_down protocol.Granted = refl
later-mark_down protocol.Refused = refl
later-mark_down protocol.Lost = refl
later-mark_down protocol.Gone = refl

granted-mark_down : (m : Mark) → has_granted (mark_down m) ≡ true → has_granted m ≡ true
granted-mark_down protocol.Granted e = refl
granted-mark_down protocol.Lost e = refl
granted-mark_down _ e = cc

-- a mark is written that is not later, and the boss hadn't granted before only where it hasn't now
opened-marked : (c : ℕ) (m : Mark) (r : Round) → is_later m ≡ false
    → (c ≡ r.boss → has_granted m ≡ true → (x : ℕ) → is_later (r.mark x) ≡ false) → IsOpened r
    → IsOpened (protocol.marked c m r)
opened-marked c m r here boss old e = by_test c (λ x b. is_later (if b then m else r.mark x) ≡ false) here
    (λ x ne. before x)
  where
    go : (b : Bool) → (r.boss == c) ≡ b → has_granted (if b then m else r.mark r.boss) ≡ true → (x : ℕ)
        → is_later (r.mark x) ≡ false
    go true q g = boss (sym (eqb-true r.boss c q)) g
    go false q g = old g

    before : (x : ℕ) → is_later (r.mark x) ≡ false
    before = go (r.boss == c) refl e

-- a node goes down
opened-down : (c : ℕ) (r : Round) → IsOpened r → IsOpened (protocol.down c r)
opened-down c r old = opened-marked c (mark_down (r.mark c)) r (later-mark_down (r.mark c))
    (λ same g. old (ap (λ (x : ℕ). has_granted (r.mark x)) (sym same) ∙ granted-mark_down (r.mark c) g)) old

-- a node answers
opened-answer : (c : ℕ) (granted : Bool) (r : Round) → IsOpened r → IsOpened (protocol.answer c granted r)
opened-answer c granted r old = go (opens c granted r) refl (owes r c) refl
  where
    all_asked : IsOpened (protocol.marked c protocol.Granted (record r { mark = λ x. asked_too (r.mark x) }))
    all_asked e = by_test c (λ x b. is_later (if b then protocol.Granted else asked_too (r.mark x)) ≡ false) refl
        (λ x ne. later-asked_too (r.mark x))

    answered : (g : Bool) → opens c g r ≡ false → owes r c ≡ true
        → IsOpened (protocol.marked c (if g then protocol.Granted else protocol.Refused) r)
    answered true o w = opened-marked c protocol.Granted r refl (λ same g.
        let opened : opens c true r ≡ true = rw (eq-eqb c r.boss same) w in
        cc (opened, o)) old
    answered false o w = opened-marked c protocol.Refused r refl (λ same g. cc) old

    go : (o : Bool) → opens c granted r ≡ o → (w : Bool) → owes r c ≡ w
        → IsOpened (if o then protocol.marked c protocol.Granted (record r { mark = λ x. asked_too (r.mark x) })
        else (if w then protocol.marked c (if granted then protocol.Granted else protocol.Refused) r else r))
    go true e w d = all_asked
    go false e true d = answered granted e d
    go false e false d = old

-- behind all moves
opened-after : (moves : List Move) (r : Round) → IsOpened r → IsOpened (after moves r)
opened-after [] r old = old
opened-after (Answers c granted ∷ moves) r old = opened-after moves (protocol.answer c granted r)
    (opened-answer c granted r old)
opened-after (GoesDown c ∷ moves) r old = opened-after moves (protocol.down c r) (opened-down c r old)

-- what is left of a mark
granted_or_gone : (m : Mark) → is_out m ≡ false → is_refused m ≡ false → is_owes m ≡ false → is_later m ≡ false
    → (has_granted m || is_gone m) ≡ true
granted_or_gone protocol.Out a b d e = cc
granted_or_gone protocol.Later a b d e = cc
granted_or_gone protocol.Owes a b d e = cc
granted_or_gone protocol.Granted a b d e = refl
granted_or_gone protocol.Refused a b d e = cc
granted_or_gone protocol.Lost a b d e = refl
granted_or_gone protocol.Gone a b d e = refl

-- a round that is over and was opened, and ends held
granted_by_all : (n : ℕ) (members : Nodes) (r : Round) → IsOpened r → is_over n r ≡ true → is_held n members r ≡ true
    → IsGranted n members r
granted_by_all n members r opened over held = record {
  each = λ c l m. granted_or_gone (r.mark c)
      (asked_too_of c m (empty_at n (λ c. members c && is_out (r.mark c)) third.1 c l))
      (empty_at n (λ c. is_refused (r.mark c)) second.1 c l)
      (empty_at n (owes r) (nobody_owes (r.mark r.boss) second.0 over) c l)
      (opened second.0 c);
  nobody_refused = λ c l. empty_at n (λ c. is_refused (r.mark c)) second.1 c l;
  somebody = not-true (is_empty n (granted r)) first.1;
}
  where
    refused : Bool
    refused = is_empty n (λ c. is_refused (r.mark c))

    first : ((has_granted (r.mark r.boss) && refused && protocol.asked_all n members r) ≡ true) ×
        (not (is_empty n (granted r)) ≡ true)
    first = and_parts (has_granted (r.mark r.boss) && refused && protocol.asked_all n members r)
        (not (is_empty n (granted r))) held

    third : ((has_granted (r.mark r.boss) && refused) ≡ true) × (protocol.asked_all n members r ≡ true)
    third = and_parts (has_granted (r.mark r.boss) && refused) (protocol.asked_all n members r) first.0

    second : (has_granted (r.mark r.boss) ≡ true) × (refused ≡ true)
    second = and_parts (has_granted (r.mark r.boss)) refused third.0

    nobody_owes : (m : Mark) → has_granted m ≡ true
        → (is_refused m || is_gone m || has_granted m && is_empty n (owes r)) ≡ true → is_empty n (owes r) ≡ true
    nobody_owes protocol.Granted g e = e
    nobody_owes protocol.Lost g e = e
    nobody_owes _ g e = cc

    asked_too_of : (c : ℕ) → members c ≡ true → (members c && is_out (r.mark c)) ≡ false → is_out (r.mark c) ≡ false
    asked_too_of c m e = rw m at e

pub held_is_granted : (n : ℕ) (asked members : Nodes) (moves : List Move) → HeldIsGranted n asked members moves
held_is_granted n asked members moves over held = granted_by_all n members r
    (opened-after moves (protocol.begin n asked) (opened-begin n asked)) over (go (is_held n members r) held)
  where
    r : Round
    r = after moves (protocol.begin n asked)

    go : (b : Bool) → (if b then protocol.Held else protocol.GiveBack (granted r)) ≡ protocol.Held → b ≡ true
    go true e = refl
    go false e = cc
