-- Transcripts that are looked for in what a log gives.
use Rattle.std.proofs.Common.{ℕ, zero, suc, Bool, true, false, ◌≡◌, ◌≤◌, ◌+◌, Some, None, List, [], ◌∷◌, ◌++◌, length, drop, map, refl, sym, ap, subst, ◌∙◌, arith}
use Rattle.std.specs.List.{slice_get}
use Rattle.std.proofs.lemmas.Bool.{eqb-true, eq-eqb}
use Rattle.std.specs.Prelude.{Option, IsTrue, nat_eq, ◌==◌, find, ◌↔◌, if◌then◌else◌}
use Rattle.protocol_model.specs.Event.{Answer as AnyAnswer}
use Rattle.node_log.specs.Entries.{SeatedEntry}
use Rattle.replay.specs.Transcripts.{Given, IsPartOf, given, given_at, numbered, answering, is_of, answers_call, said_in, first_answer, answer_in, IsLeft}
use Rattle.replay.specs.declared.transcripts.Answering.{Answering}
use Rattle.replay.specs.declared.transcripts.Answering.TheVariants.{AtOnce}

one_head : {X : Type 0} (x y : X) (xs ys : List X) → x ∷ xs ≡ y ∷ ys → x ≡ y
one_head x y xs ys e = cc

one_tail : {X : Type 0} (x y : X) (xs ys : List X) → x ∷ xs ≡ y ∷ ys → xs ≡ ys
one_tail x y xs ys e = cc

-- what is among some is among more
pub among_more : (y : Given) (xs ys : List Given) → IsPartOf xs ys → IsPartOf xs (y ∷ ys)
among_more y [] ys h = tt
among_more y (x ∷ xs) ys h = (y ∷ h.0, h.1, ap (λ (zs : List Given). y ∷ zs) h.2, h.3)

among_behind : (b xs ys : List Given) → IsPartOf xs ys → IsPartOf xs (b ++ ys)
among_behind [] xs ys h = h
among_behind (y ∷ b) xs ys h = among_more y xs (b ++ ys) (among_behind b xs ys h)

-- the first is found where it stands first
pub take_first : (x : Given) (xs ys : List Given) → IsPartOf xs ys → IsPartOf (x ∷ xs) (x ∷ ys)
take_first x xs ys h = ([], ys, refl, h)

pub first_taken : (x : Given) (xs ys : List Given) → IsPartOf (x ∷ xs) (x ∷ ys) → IsPartOf xs ys
first_taken x xs ys h = go h.0 h.1 h.2 h.3
  where
    go : (b a : List Given) → x ∷ ys ≡ b ++ x ∷ a → IsPartOf xs a → IsPartOf xs ys
    go [] a e h = subst (IsPartOf xs) (sym (one_tail x x ys a e)) h
    go (z ∷ b) a e h =
        subst (IsPartOf xs) (sym (one_tail x z ys (b ++ x ∷ a) e)) (among_behind b xs (x ∷ a) (among_more x xs a h))

-- and isn't, where another stands there
pub other_passed : (x y : Given) (xs ys : List Given) → (y ≡ x → ⊥) → IsPartOf (x ∷ xs) (y ∷ ys) → IsPartOf (x ∷ xs) ys
other_passed x y xs ys ne h = go h.0 h.1 h.2 h.3
  where
    go : (b a : List Given) → y ∷ ys ≡ b ++ x ∷ a → IsPartOf xs a → IsPartOf (x ∷ xs) ys
    go [] a e h = absurd (ne (one_head y x ys a e))
    go (z ∷ b) a e h = (b, a, one_tail y z ys (b ++ x ∷ a) e, h)

cons_nil : {X : Type 0} (xs ys : List X) (x : X) → [] ≡ xs ++ x ∷ ys → ⊥
cons_nil [] ys x e = cc
cons_nil (y ∷ xs) ys x e = cc

-- nothing more is among none
pub among_none : (xs : List Given) → IsPartOf xs [] → xs ≡ []
among_none [] h = refl
among_none (x ∷ xs) h = absurd (cons_nil h.0 h.1 x h.2)

pub drop_at : {X : Type 0} (xs : List X) (k : ℕ) (x : X) → slice_get xs k ≡ Some x → drop k xs ≡ x ∷ drop (suc k) xs
drop_at [] k x h = cc
drop_at {X} (y ∷ ys) zero x h = ap (λ (z : X). z ∷ ys) (some_one y x h)
  where
    some_one : (x y : X) → Some x ≡ Some y → x ≡ y
    some_one x y e = cc
drop_at (y ∷ ys) (suc k) x h = drop_at ys k x h

-- the steps of the search
module _ (a seat : ℕ) (told : List Given) (es : List SeatedEntry) (found n at : ℕ) (e : SeatedEntry) (here : slice_get es at ≡ Some e) where
  gives_now : is_of seat e.seat ≡ true → given a seat n (drop at es) ≡ given_at a n e (drop (suc at) es) ∷ given a seat (numbered n (answering e.event)) (drop (suc at) es)
  gives_now own = ap (given a seat n) (drop_at es at e here)
      ∙ ap (λ (b : Bool). if b
      then given_at a n e (drop (suc at) es) ∷ given a seat (numbered n (answering e.event)) (drop (suc at) es)
      else given a seat (numbered n (answering e.event)) (drop (suc at) es)) own

  gives_none : is_of seat e.seat ≡ false → given a seat n (drop at es) ≡ given a seat (numbered n (answering e.event)) (drop (suc at) es)
  gives_none other = ap (given a seat n) (drop_at es at e here)
      ∙ ap (λ (b : Bool). if b
      then given_at a n e (drop (suc at) es) ∷ given a seat (numbered n (answering e.event)) (drop (suc at) es)
      else given a seat (numbered n (answering e.event)) (drop (suc at) es)) other

  suc-is : at + 1 ≡ suc at
  suc-is = omega arith

  -- an equal case of either side
  moved : (m : ℕ) (f : ℕ) → IsLeft a seat told es found n at
      → (IsPartOf (drop f told) (given a seat m (drop (suc at) es)) → IsPartOf (drop found told) (given a seat n (drop at es)))
      → (IsPartOf (drop found told) (given a seat n (drop at es)) → IsPartOf (drop f told) (given a seat m (drop (suc at) es)))
      → IsLeft a seat told es f m (at + 1)
  moved m f L on back = subst (IsLeft a seat told es f m) (sym suc-is) (record {
    on = λ h. L.on (on h);
    back = λ h. back (L.back h);
  })

  -- the step is another seat's
  pub passed_by : IsLeft a seat told es found n at → is_of seat e.seat ≡ false
      → IsLeft a seat told es found (numbered n (answering e.event)) (at + 1)
  passed_by L other =
      moved (numbered n (answering e.event)) found L
      (λ h. subst (IsPartOf (drop found told)) (sym (gives_none other)) h)
      (λ h. subst (IsPartOf (drop found told)) (gives_none other) h)

  -- all of the transcript was found already
  pub all_found : IsLeft a seat told es found n at → drop found told ≡ []
      → IsLeft a seat told es found (numbered n (answering e.event)) (at + 1)
  all_found L none =
      moved (numbered n (answering e.event)) found L
      (λ h. subst (λ (xs : List Given). IsPartOf xs (given a seat n (drop at es))) (sym none) tt)
      (λ h. subst (λ (xs : List Given). IsPartOf xs (given a seat (numbered n (answering e.event)) (drop (suc at) es))) (sym none) tt)

  -- the step gives what the transcript has next
  pub found_next : IsLeft a seat told es found n at → is_of seat e.seat ≡ true → (x : Given)
      → slice_get told found ≡ Some x → given_at a n e (drop (suc at) es) ≡ x
      → IsLeft a seat told es (found + 1) (numbered n (answering e.event)) (at + 1)
  found_next L own x is same =
      let more : found + 1 ≡ suc found = omega arith in
      subst (λ (f : ℕ). IsLeft a seat told es f (numbered n (answering e.event)) (at + 1)) (sym more)
      (moved (numbered n (answering e.event)) (suc found) L
      (λ h. subst (IsPartOf (drop found told)) (sym now)
      (subst (λ (xs : List Given). IsPartOf xs (x ∷ given a seat (numbered n (answering e.event)) (drop (suc at) es)))
      (sym (drop_at told found x is))
      (take_first x (drop (suc found) told) (given a seat (numbered n (answering e.event)) (drop (suc at) es)) h)))
      (λ h. first_taken x (drop (suc found) told) (given a seat (numbered n (answering e.event)) (drop (suc at) es))
      (subst (λ (xs : List Given). IsPartOf xs (x ∷ given a seat (numbered n (answering e.event)) (drop (suc at) es)))
      (drop_at told found x is)
      (subst (IsPartOf (drop found told)) now h))))
    where
      now : given a seat n (drop at es) ≡ x ∷ given a seat (numbered n (answering e.event)) (drop (suc at) es)
      now = gives_now own
          ∙ ap (λ (g : Given). g ∷ given a seat (numbered n (answering e.event)) (drop (suc at) es)) same

  -- or it doesn't
  pub not_next : IsLeft a seat told es found n at → is_of seat e.seat ≡ true → (x : Given)
      → slice_get told found ≡ Some x → (given_at a n e (drop (suc at) es) ≡ x → ⊥)
      → IsLeft a seat told es found (numbered n (answering e.event)) (at + 1)
  not_next L own x is apart =
      moved (numbered n (answering e.event)) found L
      (λ h. subst (IsPartOf (drop found told)) (sym (gives_now own))
      (among_more (given_at a n e (drop (suc at) es)) (drop found told) (given a seat (numbered n (answering e.event)) (drop (suc at) es)) h))
      (λ h. subst (λ (xs : List Given). IsPartOf xs (given a seat (numbered n (answering e.event)) (drop (suc at) es)))
      (sym (drop_at told found x is))
      (other_passed x (given_at a n e (drop (suc at) es)) (drop (suc found) told)
      (given a seat (numbered n (answering e.event)) (drop (suc at) es)) apart
      (subst (λ (xs : List Given). IsPartOf xs (given_at a n e (drop (suc at) es) ∷ given a seat (numbered n (answering e.event)) (drop (suc at) es)))
      (drop_at told found x is) (subst (IsPartOf (drop found told)) (gives_now own) h))))

pub drop_past : {X : Type 0} (xs : List X) (k : ℕ) → slice_get xs k ≡ None → drop k xs ≡ []
drop_past [] zero h = refl
drop_past [] (suc k) h = refl
drop_past (x ∷ xs) zero h = cc
drop_past (x ∷ xs) (suc k) h = drop_past xs k h

module _ (a b n : ℕ) (es : List SeatedEntry) (k : ℕ) (e : SeatedEntry) (at : slice_get es k ≡ Some e) (same : b ≡ a) where
  here : first_answer a n (drop k es) ≡ elim (find (answers_call a n) (said_in e)) [ None ↦ first_answer a n (drop (suc k) es) | Some s ↦ Some s ]
  here = ap (first_answer a n) (drop_at es k e at)

  moved_on : find (answers_call b n) (said_in e) ≡ find (answers_call a n) (said_in e)
  moved_on = ap (λ (c : ℕ). find (answers_call c n) (said_in e)) same

  -- the answer stands in this entry
  pub answered_here : (s : AnyAnswer) → Some s ≡ find (answers_call b n) (said_in e) → Some s ≡ first_answer a n (drop k es)
  answered_here s h =
      sym (here ∙ ap (λ (o : Option AnyAnswer). elim o [ None ↦ first_answer a n (drop (suc k) es) | Some t ↦ Some t ])
      (sym moved_on ∙ sym h))

  one_more : (j : ℕ) → suc j ≡ j + 1
  one_more j = omega arith

  -- or later
  pub answered_later : None ≡ find (answers_call b n) (said_in e)
      → first_answer a n (drop k es) ≡ first_answer a n (drop (k + 1) es)
  answered_later h =
      here ∙ ap (λ (o : Option AnyAnswer). elim o [ None ↦ first_answer a n (drop (suc k) es) | Some t ↦ Some t ])
      (sym moved_on ∙ sym h)
      ∙ ap (λ (j : ℕ). first_answer a n (drop j es)) (one_more k)

-- at the beginning nothing was looked at
pub left_first : (a seat : ℕ) (told : List Given) (es : List SeatedEntry) → IsLeft a seat told es 0 0 0
left_first a seat told es = record { on = λ h. h; back = λ h. h }

drop_full : {X : Type 0} (xs : List X) (k : ℕ) → length xs ≤ k → drop k xs ≡ []
drop_full [] zero l = refl
drop_full [] (suc k) l = refl
drop_full (x ∷ xs) zero l = absurd (omega (arith, l))
drop_full (x ∷ xs) (suc k) l = drop_full xs k (omega (arith, l))

pub found_all : {X : Type 0} (xs : List X) (k : ℕ) → length xs ≤ k → drop k xs ≡ []
found_all xs k l = drop_full xs k l

full_drop : {X : Type 0} (xs : List X) (k : ℕ) → drop k xs ≡ [] → length xs ≤ k
full_drop [] k e = omega arith
full_drop (x ∷ xs) zero e = cc
full_drop (x ∷ xs) (suc k) e = omega (arith, full_drop xs k e)

-- at the end the transcript is part of what the log gives where all of it was found
pub left_last : (a seat : ℕ) (told : List Given) (es : List SeatedEntry) (found n at : ℕ) → IsLeft a seat told es found n at
    → length es ≤ at → (length told ≤ found → IsPartOf told (given a seat 0 es))
    × (IsPartOf told (given a seat 0 es) → length told ≤ found)
left_last a seat told es found n at L past = (
  λ l. L.on (subst (λ (xs : List Given). IsPartOf xs (given a seat n (drop at es))) (sym (drop_full told found l)) tt),
  λ h. full_drop told found (among_none (drop found told)
      (subst (λ (xs : List SeatedEntry). IsPartOf (drop found told) (given a seat n xs)) (drop_full es at past) (L.back h))),
)

-- an answer at once
pub answered_at_once : (a b n : ℕ) (kind : Answering) (es : List SeatedEntry) (k : ℕ) (e : SeatedEntry) → kind ≡ AtOnce
    → slice_get es k ≡ Some e → b ≡ a → (o : Option AnyAnswer) → o ≡ find (answers_call b 0) (said_in e)
    → o ≡ answer_in a n kind (drop k es)
answered_at_once a b n kind es k e is at same o h =
    h ∙ ap (λ (c : ℕ). find (answers_call c 0) (said_in e)) same
    ∙ sym (ap (answer_in a n AtOnce) (drop_at es k e at))
    ∙ ap (λ (j : Answering). answer_in a n j (drop k es)) (sym is)

pub unanswered_at_once : (a n : ℕ) (kind : Answering) (es : List SeatedEntry) (k : ℕ) → kind ≡ AtOnce → slice_get es k ≡ None
    → None ≡ answer_in a n kind (drop k es)
unanswered_at_once a n kind es k is at =
    sym (ap (answer_in a n AtOnce) (drop_past es k at)) ∙ ap (λ (j : Answering). answer_in a n j (drop k es)) (sym is)

-- what a step gives, where its number and how it is answered are these
pub given_same : (a n at : ℕ) (es : List SeatedEntry) (e : SeatedEntry) → slice_get es at ≡ Some e → (m : ℕ) (kind : Answering)
    → kind ≡ answering e.event → m ≡ numbered n kind → given_at a n e (drop (suc at) es)
    ≡ record { event = e.event; answer = answer_in a m kind (drop at es) }
given_same a n at es e here m kind how is =
    ap (λ (o : Option AnyAnswer). with_answer o)
    (ap (answer_in a (numbered n (answering e.event)) (answering e.event)) (sym (drop_at es at e here))
    ∙ ap (λ (j : Answering). answer_in a (numbered n j) j (drop at es)) (sym how)
    ∙ ap (λ (i : ℕ). answer_in a i kind (drop at es)) (sym is))
  where
    with_answer : Option AnyAnswer → Given
    with_answer o = record { event = e.event; answer = o }

number_is : (found len : ℕ) → (nat_eq found len) ≡ true → len ≤ found
number_is found len e = omega (arith, eqb-true found len e)

-- whether the transcript is part of what the log gives, by how much of it was found
pub follows_iff : (a seat : ℕ) (told : List Given) (es : List SeatedEntry) (found n at len end : ℕ) → IsLeft a seat told es found n at
    → length es ≡ end → end ≤ at → found ≤ len → len ≡ length told → IsTrue (nat_eq found len) ↔ IsPartOf told (given a seat 0 es)
follows_iff a seat told es found n at len end L is past within long =
    let last = left_last a seat told es found n at L (omega (arith, is, past)) in (
      λ t. last.0 (omega (arith, number_is found len t, long)),
      λ h. eq-eqb found len (omega (arith, last.1 h, within, long)),
    )

no_items : {X : Type 0} (xs : List X) → length xs ≡ 0 → xs ≡ []
no_items [] e = refl
no_items (x ∷ xs) e = absurd (omega (arith, e))

no_image : {X : Type 0} (f : X → Given) (xs : List X) → map f xs ≡ [] → length xs ≡ 0
no_image f [] e = refl
no_image f (x ∷ xs) e = cc

-- nothing but nothing is part of an empty log
pub none_iff : {X : Type 0} (f : X → Given) (a seat : ℕ) (xs : List X) (es : List SeatedEntry) (r : Bool) (len : ℕ) → es ≡ [] → len ≡ length xs → r ≡ (len == 0)
    → IsTrue r ↔ IsPartOf (map f xs) (given a seat 0 es)
none_iff f a seat xs es r len none long is = (
  λ t. subst (λ (gs : List Given). IsPartOf gs (given a seat 0 es))
      (sym (ap (map f) (no_items xs (sym long ∙ eqb-true len 0 (sym is ∙ t))))) tt,
  λ h. is ∙ eq-eqb len 0 (long ∙ no_image f xs (among_none (map f xs)
      (subst (λ (l : List SeatedEntry). IsPartOf (map f xs) (given a seat 0 l)) none h))),
)
