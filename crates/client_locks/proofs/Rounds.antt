-- The rounds of clients' lock calls: nobody but the boss is asked before the boss has granted, and nobody is left to be
-- asked after that.
use Rattle.std.proofs.Common.{ℕ, Bool, true, false, ◌==◌, ◌≡◌, ◌<◌, refl, sym, ap, ◌∙◌, subst, inl, inr}
use Rattle.std.specs.Prelude.{not, ◌&&◌, ◌||◌, if◌then◌else◌}
use Rattle.std.proofs.lemmas.Bool.{cases_eq, eqb-true, eq-eqb, ne_eqb}
use Rattle.registry_model.specs.Process.{Nodes, at}
use Rattle.protocol_model.specs.Round.{Mark, Out, Later, Owes, Granted, Refused, Lost, Gone, Round, is_empty, greatest, is_owes, is_refused, has_granted, is_gone, begin, owes, asked_too, opens, answer, mark_down, down, is_over, Held, GiveBack, ending, is_held, granted, asked_all}
use Rattle.registry_model.proofs.Updates.{by_test}
use Rattle.moves.proofs.Indices.{both, empty_at}

-- before the boss has granted: isn't asked, is asked later, or has gone down
abbrev pub is_unasked : Mark → Bool
is_unasked Out = true
is_unasked Later = true
is_unasked Gone = true
is_unasked _ = false

-- after that: isn't still to be asked
abbrev pub is_past : Mark → Bool
is_past Later = false
is_past _ = true

-- a node's mark fits the boss's, m; own: the node is the boss
abbrev pub fits_boss : (own : Bool) → Mark → Mark → Bool
fits_boss true m k = true
fits_boss false m k = if has_granted m then is_past k else is_unasked k

-- all marks of a round fit
abbrev pub Rounded : Round → Type 0
Rounded r = (x : ℕ) → fits_boss (x == r.boss) (r.mark r.boss) (r.mark x) ≡ true

pub rounded_begin : (n : ℕ) (s : Nodes) → Rounded (begin n s)
rounded_begin n s = by_test (greatest n s) (λ x t. fits_boss t ((begin n s).mark (greatest n s))
    (if s x then (if t then Owes else Later) else Out) ≡ true)
    refl
    (λ x ne. boss (s x) (s (greatest n s)))
  where
    boss : (t u : Bool) → fits_boss false (if u then (if greatest n s == greatest n s then Owes else Later) else Out)
        (if t then Later else Out) ≡ true
    boss true true = rw (eq-eqb (greatest n s) (greatest n s) refl) refl
    boss false true = rw (eq-eqb (greatest n s) (greatest n s) refl) refl
    boss true false = refl
    boss false false = refl

-- a mark of a node other than the boss, which owes its answer
boss_granted : (m k : Mark) → is_owes k ≡ true → fits_boss false m k ≡ true → has_granted m ≡ true
boss_granted Granted Owes h e = refl
boss_granted Lost Owes h e = refl
boss_granted _ Owes h e = cc
boss_granted m _ h e = cc

-- what is asked from now on isn't still to be asked
past_asked_too : (k : Mark) → is_past (asked_too k) ≡ true
past_asked_too Later = refl
past_asked_too _ = refl

fits_granted : (m k : Mark) → has_granted m ≡ true → is_past k ≡ true → fits_boss false m k ≡ true
fits_granted m k h e = rw h e

past_of_fits : (m k : Mark) → has_granted m ≡ true → fits_boss false m k ≡ true → is_past k ≡ true
past_of_fits m k h e = ap (λ (b : Bool). if b then is_past k else is_unasked k) (sym h) ∙ e

unasked_of_fits : (m k : Mark) → has_granted m ≡ false → fits_boss false m k ≡ true → is_unasked k ≡ true
unasked_of_fits m k h e = ap (λ (b : Bool). if b then is_past k else is_unasked k) (sym h) ∙ e

-- the mark of an answer
abbrev pub mark_by : Bool → Mark
mark_by g = if g then Granted else Refused

past_mark_by : (g : Bool) → is_past (mark_by g) ≡ true
past_mark_by true = refl
past_mark_by false = refl

owes_not_granted : (m : Mark) → is_owes m ≡ true → has_granted m ≡ false
owes_not_granted Owes h = refl
owes_not_granted _ h = cc

-- the boss's grant
pub answer_opens : (f : ℕ) (g : Bool) (r : Round) → opens f g r ≡ true → (x : ℕ)
    → (answer f g r).mark x ≡ (if x == f then Granted else asked_too (r.mark x))
answer_opens f g r e x = rw e refl

-- any other answer that is owed
pub answer_owed : (f : ℕ) (g : Bool) (r : Round) → opens f g r ≡ false → owes r f ≡ true → (x : ℕ)
    → (answer f g r).mark x ≡ (if x == f then mark_by g else r.mark x)
answer_owed f g r e h x = rw (e, h) refl

pub answer_boss : (f : ℕ) (g : Bool) (r : Round) → (answer f g r).boss ≡ r.boss
answer_boss f g r = go (opens f g r) (owes r f)
  where
    go : (b c : Bool) → (if b then record r { mark = at (λ x. asked_too (r.mark x)) f Granted } else
        (if c then record r { mark = at r.mark f (mark_by g) } else r)).boss ≡ r.boss
    go true c = refl
    go false true = refl
    go false false = refl

-- who answers has the mark of its answer, and each other mark stays, or owes where it was to be asked later
pub data Answered (f : ℕ) (g : Bool) (x : ℕ) (old : Mark) : Mark → Type 0 where
  Own : x ≡ f → Answered f g x old (mark_by g)
  Stays : Answered f g x old old
  Opened : Answered f g x old (asked_too old)

pub mark_answered : (f : ℕ) (g : Bool) (r : Round) → owes r f ≡ true → (x : ℕ)
    → Answered f g x (r.mark x) ((answer f g r).mark x)
mark_answered f g r owe x = go (opens f g r) refl
  where
    grants : (b : Bool) → opens f b r ≡ true → mark_by b ≡ Granted
    grants true e = refl
    grants false e = cc

    opening : mark_by g ≡ Granted → Answered f g x (r.mark x) (if x == f then Granted else asked_too (r.mark x))
    opening e = by_test f (λ y t. Answered f g y (r.mark y) (if t then Granted else asked_too (r.mark y)))
        (subst (Answered f g f (r.mark f)) e (Own refl)) (λ y ne. Opened) x

    owing : Answered f g x (r.mark x) (if x == f then mark_by g else r.mark x)
    owing = by_test f (λ y t. Answered f g y (r.mark y) (if t then mark_by g else r.mark y)) (Own refl) (λ y ne. Stays) x

    go : (b : Bool) → opens f g r ≡ b → Answered f g x (r.mark x) ((answer f g r).mark x)
    go true e = subst (Answered f g x (r.mark x)) (sym (answer_opens f g r e x)) (opening (grants g e))
    go false e = subst (Answered f g x (r.mark x)) (sym (answer_owed f g r e owe x)) owing

pub rounded_answer : (f : ℕ) (g : Bool) (r : Round) → owes r f ≡ true → Rounded r → Rounded (answer f g r)
rounded_answer f g r owe fit x = go (opens f g r) refl
  where
    at_boss : (y : ℕ) → (y ≡ r.boss → ⊥) → fits_boss false (r.mark r.boss) (r.mark y) ≡ true
    at_boss y ne = ap (λ (t : Bool). fits_boss t (r.mark r.boss) (r.mark y)) (sym (ne_eqb y r.boss ne)) ∙ fit y

    -- the same for a node at x
    here : Mark → Mark → Type 0
    here m k = fits_boss (x == r.boss) m k ≡ true

    opened : opens f g r ≡ true → here (if r.boss == f then Granted else asked_too (r.mark r.boss))
        (if x == f then Granted else asked_too (r.mark x))
    opened e =
        let parts : ((g && (f == r.boss)) ≡ true) × (owes r f ≡ true) = both (g && (f == r.boss)) (owes r f) e in
        let is : (g ≡ true) × ((f == r.boss) ≡ true) = both g (f == r.boss) parts.0 in
        let one : f ≡ r.boss = eqb-true f r.boss is.1 in
        rw (eq-eqb r.boss f (sym one)) (split (x == r.boss) (x == f))
      where
        split : (b c : Bool) → fits_boss b Granted (if c then Granted else asked_too (r.mark x)) ≡ true
        split true c = refl
        split false true = refl
        split false false = past_asked_too (r.mark x)

    -- f isn't the boss: then the boss has granted
    later : (r.boss ≡ f → ⊥) → here (r.mark r.boss) (if x == f then mark_by g else r.mark x)
    later ne =
        let granted' : has_granted (r.mark r.boss) ≡ true = boss_granted (r.mark r.boss) (r.mark f) owe
        (at_boss f (λ e. ne (sym e))) in
        elim (cases_eq x r.boss) [
          | inl e ↦ rw (eq-eqb x r.boss e) refl
          | inr no_boss ↦ rw (ne_eqb x r.boss no_boss) (fits_granted (r.mark r.boss)
              (if x == f then mark_by g else r.mark x) granted' (split granted' no_boss (x == f)))
        ]
      where
        split : has_granted (r.mark r.boss) ≡ true → (x ≡ r.boss → ⊥) → (c : Bool)
            → is_past (if c then mark_by g else r.mark x) ≡ true
        split h no_boss true = past_mark_by g
        split h no_boss false = past_of_fits (r.mark r.boss) (r.mark x) h (at_boss x no_boss)

    -- the boss refuses
    refused : opens f g r ≡ false → r.boss ≡ f → here (mark_by g) (if x == f then mark_by g else r.mark x)
    refused e one =
        let no : g ≡ false = case g refl in
        elim (cases_eq x r.boss) [
          | inl k ↦ rw (eq-eqb x r.boss k) refl
          | inr ne ↦ rw (ne_eqb x r.boss ne, ne_eqb x f (λ k. ne (k ∙ sym one)), no)
              (unasked_of_fits (r.mark r.boss) (r.mark x) (owes_not_granted (r.mark r.boss)
              (subst (λ (y : ℕ). is_owes (r.mark y) ≡ true) (sym one) owe)) (at_boss x ne))
        ]
      where
        case : (b : Bool) → g ≡ b → b ≡ false
        case false h = refl
        case true h =
            let yes_opens : opens f g r ≡ true = rw (h, eq-eqb f r.boss (sym one)) owe in
            cc (yes_opens, e)

    closed : opens f g r ≡ false → here (if r.boss == f then mark_by g else r.mark r.boss)
        (if x == f then mark_by g else r.mark x)
    closed e = elim (cases_eq r.boss f) [
      | inl k ↦ rw (eq-eqb r.boss f k) (refused e k)
      | inr ne ↦ rw (ne_eqb r.boss f ne) (later ne)
    ]

    go : (b : Bool) → opens f g r ≡ b → fits_boss (x == (answer f g r).boss) ((answer f g r).mark (answer f g r).boss)
        ((answer f g r).mark x) ≡ true
    go true e = rw (answer_boss f g r, answer_opens f g r e r.boss, answer_opens f g r e x) (opened e)
    go false e = rw (answer_boss f g r, answer_owed f g r e owe r.boss, answer_owed f g r e owe x) (closed e)

fits_down : (own : Bool) (m k : Mark) → fits_boss own m k ≡ true → fits_boss own m (mark_down k) ≡ true
fits_down true m k h = refl
fits_down false m k h = go (has_granted m) h
  where
    past : (j : Mark) → is_past j ≡ true → is_past (mark_down j) ≡ true
    past Out e = refl
    past _ e = refl

    unasked : (j : Mark) → is_unasked j ≡ true → is_unasked (mark_down j) ≡ true
    unasked Out e = refl
    unasked Later e = refl
    unasked Gone e = refl
    unasked Owes e = cc
    unasked Granted e = cc
    unasked Refused e = cc
    unasked Lost e = cc

    go : (b : Bool) → (if b then is_past k else is_unasked k) ≡ true
        → (if b then is_past (mark_down k) else is_unasked (mark_down k)) ≡ true
    go true e = past k e
    go false e = unasked k e

has_granted_down : (m : Mark) → has_granted (mark_down m) ≡ has_granted m
has_granted_down Out = refl
has_granted_down Later = refl
has_granted_down Owes = refl
has_granted_down Granted = refl
has_granted_down Refused = refl
has_granted_down Lost = refl
has_granted_down Gone = refl

boss_down : (own : Bool) (m k : Mark) → fits_boss own m k ≡ true → fits_boss own (mark_down m) k ≡ true
boss_down true m k h = refl
boss_down false m k h = rw (has_granted_down m) h

pub rounded_down : (d : ℕ) (r : Round) → Rounded r → Rounded (down d r)
rounded_down d r fit x = boss (r.boss == d)
  where
    node : (t : Bool) → fits_boss (x == r.boss) (r.mark r.boss) (if t then mark_down (r.mark x) else r.mark x) ≡ true
    node true = fits_down (x == r.boss) (r.mark r.boss) (r.mark x) (fit x)
    node false = fit x

    same : (t : Bool) → (x == d) ≡ t → (if t then mark_down (r.mark d) else r.mark x) ≡
        (if t then mark_down (r.mark x) else r.mark x)
    same true e = ap (λ (y : ℕ). mark_down (r.mark y)) (sym (eqb-true x d e))
    same false e = refl

    here : fits_boss (x == r.boss) (r.mark r.boss) (if x == d then mark_down (r.mark d) else r.mark x) ≡ true
    here = subst (λ (k : Mark). fits_boss (x == r.boss) (r.mark r.boss) k ≡ true) (sym (same (x == d) refl))
        (node (x == d))

    boss_at : (t : Bool) → (r.boss == d) ≡ t → (if t then mark_down (r.mark d) else r.mark r.boss) ≡
        (if t then mark_down (r.mark r.boss) else r.mark r.boss)
    boss_at true e = ap (λ (y : ℕ). mark_down (r.mark y)) (sym (eqb-true r.boss d e))
    boss_at false e = refl

    by_boss : (t : Bool) → fits_boss (x == r.boss) (if t then mark_down (r.mark r.boss) else r.mark r.boss)
        (if x == d then mark_down (r.mark d) else r.mark x) ≡ true
    by_boss true = boss_down (x == r.boss) (r.mark r.boss) (if x == d then mark_down (r.mark d) else r.mark x) here
    by_boss false = here

    boss : (t : Bool) → fits_boss (x == r.boss) (if r.boss == d then mark_down (r.mark d) else r.mark r.boss)
        (if x == d then mark_down (r.mark d) else r.mark x) ≡ true
    boss t = subst (λ (m : Mark). fits_boss (x == r.boss) m (if x == d then mark_down (r.mark d) else r.mark x) ≡ true)
        (sym (boss_at (r.boss == d) refl)) (by_boss (r.boss == d))

-- while the boss owes its answer, nobody else is asked
pub only_boss_asked : (f : ℕ) (g : Bool) (r : Round) → opens f g r ≡ true → Rounded r → (x : ℕ) → (x ≡ f → ⊥)
    → is_unasked (r.mark x) ≡ true
only_boss_asked f g r e fit x ne =
    let parts : ((g && (f == r.boss)) ≡ true) × (owes r f ≡ true) = both (g && (f == r.boss)) (owes r f) e in
    let is : (g ≡ true) × ((f == r.boss) ≡ true) = both g (f == r.boss) parts.0 in
    let one : f ≡ r.boss = eqb-true f r.boss is.1 in
    unasked_of_fits (r.mark r.boss) (r.mark x) (owes_not_granted (r.mark r.boss)
    (subst (λ (y : ℕ). is_owes (r.mark y) ≡ true) one parts.1))
    (ap (λ (t : Bool). fits_boss t (r.mark r.boss) (r.mark x)) (sym (ne_eqb x r.boss (λ k. ne (k ∙ sym one)))) ∙ fit x)

-- after the boss's grant nobody is still to be asked
pub no_later : (r : Round) → Rounded r → has_granted (r.mark r.boss) ≡ true → (x : ℕ) → is_past (r.mark x) ≡ true
no_later r fit h x = elim (cases_eq x r.boss) [
  | inl e ↦ subst (λ (y : ℕ). is_past (r.mark y) ≡ true) (sym e) (of_granted (r.mark r.boss) h)
  | inr ne ↦ past_of_fits (r.mark r.boss) (r.mark x) h (ap (λ (t : Bool). fits_boss t (r.mark r.boss) (r.mark x))
      (sym (ne_eqb x r.boss ne)) ∙ fit x)
]
  where
    of_granted : (m : Mark) → has_granted m ≡ true → is_past m ≡ true
    of_granted Granted k = refl
    of_granted Lost k = refl
    of_granted Out k = cc
    of_granted Later k = cc
    of_granted Owes k = cc
    of_granted Refused k = cc
    of_granted Gone k = cc

over_by : (m : Mark) (e : Bool) → has_granted m ≡ true → (is_refused m || is_gone m || has_granted m && e) ≡ true
    → e ≡ true
over_by Granted e h k = k
over_by Lost e h k = k
over_by Out e h k = cc
over_by Later e h k = cc
over_by Owes e h k = cc
over_by Refused e h k = cc
over_by Gone e h k = cc

over_not_owes : (m : Mark) (e : Bool) → has_granted m ≡ false
    → (is_refused m || is_gone m || has_granted m && e) ≡ true → is_owes m ≡ false
over_not_owes Granted e h k = refl
over_not_owes Lost e h k = refl
over_not_owes Out e h k = refl
over_not_owes Later e h k = refl
over_not_owes Owes e h k = cc
over_not_owes Refused e h k = refl
over_not_owes Gone e h k = refl

unasked_not_owes : (m : Mark) → is_unasked m ≡ true → is_owes m ≡ false
unasked_not_owes Out h = refl
unasked_not_owes Later h = refl
unasked_not_owes Gone h = refl
unasked_not_owes Owes h = cc
unasked_not_owes Granted h = cc
unasked_not_owes Refused h = cc
unasked_not_owes Lost h = cc

-- in a round that is over nobody owes an answer
pub over_owes : (n : ℕ) (r : Round) → Rounded r → is_over n r ≡ true → (x : ℕ) → x < n → is_owes (r.mark x) ≡ false
over_owes n r fit over x l = go (has_granted (r.mark r.boss)) refl
  where
    go : (b : Bool) → has_granted (r.mark r.boss) ≡ b → is_owes (r.mark x) ≡ false
    go true h = empty_at n (owes r) (over_by (r.mark r.boss) (is_empty n (owes r)) h over) x l
    go false h = elim (cases_eq x r.boss) [
      | inl e ↦ subst (λ (y : ℕ). is_owes (r.mark y) ≡ false) (sym e)
          (over_not_owes (r.mark r.boss) (is_empty n (owes r)) h over)
      | inr ne ↦ unasked_not_owes (r.mark x) (unasked_of_fits (r.mark r.boss) (r.mark x) h
          (ap (λ (t : Bool). fits_boss t (r.mark r.boss) (r.mark x)) (sym (ne_eqb x r.boss ne)) ∙ fit x))
    ]

held_by : (n : ℕ) (members : Nodes) (r : Round) → ending n members r ≡ Held → is_held n members r ≡ true
held_by n members r e = go (is_held n members r) e
  where
    go : (b : Bool) → (if b then Held else GiveBack (granted r)) ≡ Held → b ≡ true
    go true h = refl
    go false h = cc

-- who gets the grant back has granted
pub given_back : (n : ℕ) (members : Nodes) (r : Round) (s : Nodes) → ending n members r ≡ GiveBack s → s ≡ granted r
given_back n members r s e = go (is_held n members r) e
  where
    go : (b : Bool) → (if b then Held else GiveBack (granted r)) ≡ GiveBack s → s ≡ granted r
    go true h = cc
    go false h = cc h

-- in a round that is held nobody refused, and nobody is still to be asked
pub held_marks : (n : ℕ) (members : Nodes) (r : Round) → Rounded r → ending n members r ≡ Held → (x : ℕ) → x < n
    → (is_refused (r.mark x) ≡ false) × (is_past (r.mark x) ≡ true)
held_marks n members r fit e x l =
    let one : ((has_granted (r.mark r.boss) && is_empty n (λ c. is_refused (r.mark c)) && asked_all n members r)
    ≡ true) × (not (is_empty n (granted r)) ≡ true) = both (has_granted (r.mark r.boss) && is_empty n
    (λ c. is_refused (r.mark c)) && asked_all n members r) (not (is_empty n (granted r)))
    (held_by n members r e) in
    let two : ((has_granted (r.mark r.boss) && is_empty n (λ c. is_refused (r.mark c))) ≡ true) ×
    (asked_all n members r ≡ true) = both (has_granted (r.mark r.boss) && is_empty n (λ c. is_refused (r.mark c)))
    (asked_all n members r) one.0 in
    let three : (has_granted (r.mark r.boss) ≡ true) × (is_empty n (λ c. is_refused (r.mark c)) ≡ true) = both
    (has_granted (r.mark r.boss)) (is_empty n (λ c. is_refused (r.mark c))) two.0 in
    (empty_at n (λ c. is_refused (r.mark c)) three.1 x l, no_later r fit three.0 x)
