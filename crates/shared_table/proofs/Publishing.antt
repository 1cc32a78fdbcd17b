-- What a publisher holds, from one call to the next.
use Rattle.std.proofs.Common.{◌≡◌, ◌+◌, ◌<◌, ℕ, true, false, List, [], ◌∷◌, ◌++◌, length, Option, Some, None, Ok, Err, sym, refl, ap, ◌∙◌, subst, arith, append-nil, length-append}
use Rattle.std.specs.Prelude.{Bool, Result, MatchResult, OnOk, OnErr, ◌↔◌, IsTrue, is_ok, is_err, is_some}
use Rattle.std.specs.List.{fold}
use Rattle.left_right.specs.Register.{TurnsAt}
use Rattle.node_books.specs.declared.Edition.{Edition}
use Rattle.node_books.specs.Editions.{opening, updated}
use Rattle.node_books.specs.Held.{Looping}
use Rattle.node_books.specs.Owing.{shown_by}
use Rattle.node_books.specs.declared.moment.Moment.{Moment}
use Rattle.node_books.specs.Books.{Known}
use Rattle.node_books.specs.Moments.{moment, shown_at}
use Rattle.node_books.proofs.Taking.{shown_behind}
use Rattle.shared_table.specs.declared.shown.Shown.{Shown}
use Rattle.shared_table.specs.declared.shown.Front.{Front}
use Rattle.shared_table.specs.declared.shown.Stamp.{Stamp}
use Rattle.shared_table.specs.Editions.{edition_of, front_of, stamped, IsSo}
use Rattle.shared_table.specs.Rule.{Token, Keeps, Marks}
use Rattle.shared_table.specs.Publishing.{AreSo, IsSound, held_back}
use Rattle.shared_table.proofs.Keeping.{marks, so_behind, so_first, so_front, so_rest, so_snoc, fold_snoc, fold_append}

abbrev Mark : Type 0
Mark = Option Token

-- what waits is published
module _ (known : Known) (x : Shown) (us held : List Stamp) (so : AreSo known.book (front_of x) (us ++ held)) where
  behind : IsSo (fold stamped (front_of x) us) × ((fold stamped (front_of x) us).seen.book ≡ known.book)
  behind = so_behind known.book (front_of x) us (so_front known.book (front_of x) us held so)

  -- it may be
  pub publishes_all : (seat : ℕ) (mark : Mark) (next : Shown) → front_of next ≡ fold stamped (front_of x) us → TurnsAt Keeps seat mark x next Marks
  publishes_all seat mark next is = marks seat mark x next (subst IsSo (sym is) behind.0)
      (ap (λ (f : Front). f.seen.book) is ∙ behind.1 ∙ sym (so_first known.book (front_of x) (us ++ held) so).1)

  -- what is held then
  pub sound_published : (fold stamped (front_of x) (us ++ held)).edition ≡ shown_at known.log → (next : Shown) (vs : List Stamp) (w : Mark)
      → front_of next ≡ fold stamped (front_of x) us → vs ≡ [] → w ≡ Some next.seen → IsSound known next (vs ++ held) w
  sound_published last next vs w is none marked = subst (λ (l : List Stamp). IsSound known next (l ++ held) w) (sym none) (record {
    so = subst (λ (f : Front). AreSo known.book f held) (sym is) (so_rest known.book (front_of x) us held so);
    last = ap (λ (f : Front). (fold stamped f held).edition) is ∙ ap (λ (f : Front). f.edition) (sym (fold_append (front_of x) us held)) ∙ last;
    knows = (next.seen, marked, ap (λ (f : Front). f.seen.book) is ∙ behind.1);
  })

-- where it was refused
pub sound_same : (known : Known) (x same : Shown) (us vs held : List Stamp) (mark w : Mark) → IsSound known x (us ++ held) mark → same ≡ x → vs ≡ us
    → w ≡ mark → IsSound known same (vs ++ held) w
sound_same known x same us vs held mark w sound is none marked =
    subst (λ (s : Shown). IsSound known s (vs ++ held) w) (sym is)
    (subst (λ (l : List Stamp). IsSound known x (l ++ held) w) (sym none) (subst (λ (m : Mark). IsSound known x (us ++ held) m) (sym marked) sound))

-- what is shown at first is so
pub first_so : (x : Shown) (a : Looping) (name : ℕ) (s : Token) → front_of x ≡ record { edition = opening name; seen = s; count = 1 }
    → name ≡ a.log.node → shown_by a ≡ opening a.log.node → s.log ≡ moment false a ∷ [] → IsSo (front_of x)
first_so x a name s is named opens log = subst IsSo (sym is)
    (ap opening named ∙ sym opens ∙ ap shown_at (sym log), ap (λ (l : List Moment). length l) (sym log), omega arith)

-- nothing waits then
pub opens_so : (known : Known) (x first : Shown) (us : List Stamp) → x ≡ first → us ≡ [] → IsSo (front_of first) → first.seen.book ≡ known.book
    → first.seen.log ≡ known.log → AreSo known.book (front_of x) (us ++ []) × ((fold stamped (front_of x) (us ++ [])).edition ≡ shown_at known.log)
opens_so known x first us is none so book log = subst
    (λ (p : Shown × List Stamp). AreSo known.book (front_of p.0) (p.1 ++ []) × ((fold stamped (front_of p.0) (p.1 ++ [])).edition ≡ shown_at known.log))
    (λ j. (sym is j, sym none j)) ((so, book), so.0 ∙ ap shown_at log)

-- one moment more is written down, and what was owed until then waits
pub sound_more : (known : Known) (x : Shown) (us : List Stamp) (mark : Mark) (sound : IsSound known x us mark) (n : Moment) (s : Stamp)
    → s.seen.book ≡ known.book → s.seen.log ≡ known.log ++ n ∷ [] → s.count ≡ length known.log + 1
    → updated (shown_at known.log) s.update ≡ shown_at (known.log ++ n ∷ [])
    → IsSound (record known { log = known.log ++ n ∷ [] }) x (us ++ s ∷ []) mark
sound_more known x us mark sound n s book log count up =
    let is : updated (fold stamped (front_of x) us).edition s.update ≡ shown_at (known.log ++ n ∷ []) =
    ap (λ (e : Edition). updated e s.update) sound.last ∙ up in
    let so : IsSo (stamped (fold stamped (front_of x) us) s) = (
      is ∙ ap shown_at (sym log),
      count ∙ omega (arith, length-append known.log (n ∷ []), ap (λ (l : List Moment). length l) log),
      omega (arith, count),
    ) in record {
      so = so_snoc known.book (front_of x) us s sound.so so book;
      last = ap (λ (f : Front). f.edition) (fold_snoc (front_of x) us s) ∙ is;
      knows = sound.knows;
    }

-- one moment more is written down, which shows what the last one does
pub sound_again : (known more : Known) (x : Shown) (us : List Stamp) (mark : Mark) (b : Looping) → IsSound known x us mark
    → more ≡ record known { log = known.log ++ moment false b ∷ [] } → shown_at known.log ≡ shown_by b → IsSound more x us mark
sound_again known more x us mark b sound added same = subst (λ (k : Known). IsSound k x us mark) (sym added) (record {
  so = sound.so;
  last = sound.last ∙ (same ∙ sym (shown_behind known.log b));
  knows = sound.knows;
})

-- none is held back
pub none_held : (held : Option Stamp) → is_some held ≡ false → held_back held ≡ []
none_held None e = refl
none_held (Some s) e = cc

-- by other names of the same
pub sound_as : (known : Known) (x y : Shown) (us vs : List Stamp) (mark w : Mark) → IsSound known x us mark → y ≡ x → vs ≡ us → w ≡ mark
    → IsSound known y vs w
sound_as known x y us vs mark w sound is waits marked =
    subst (λ (p : Shown × List Stamp × Mark). IsSound known p.0 p.1 p.2) (λ j. (sym is j, sym waits j, sym marked j)) sound

-- where none was held back, one moment more is written down, and its stamp waits, or is held back
pub sound_noted : (known more : Known) (x y : Shown) (us vs : List Stamp) (held : Option Stamp) (mark w : Mark) (n : Moment) (s : Stamp)
    → IsSound known x (us ++ held_back held) mark → is_some held ≡ false → more ≡ record known { log = known.log ++ n ∷ [] }
    → s.seen.book ≡ more.book → s.seen.log ≡ more.log → s.count ≡ length known.log + 1
    → updated (shown_at known.log) s.update ≡ shown_at (known.log ++ n ∷ []) → y ≡ x → vs ≡ us ++ s ∷ [] → w ≡ mark → IsSound more y vs w
sound_noted known more x y us vs held mark w n s sound none added book log count up is waits marked =
    let before : IsSound known x us mark =
    subst (λ (l : List Stamp). IsSound known x l mark) (ap (λ (l : List Stamp). us ++ l) (none_held held none) ∙ append-nil us) sound in
    subst (λ (p : Known × Shown × List Stamp × Mark). IsSound p.0 p.1 p.2 p.3) (λ j. (sym added j, sym is j, sym waits j, sym marked j))
    (sound_more known x us mark before n s (book ∙ ap (λ (k : Known). k.book) added) (log ∙ ap (λ (k : Known). k.log) added) count up)

-- so where what was held back was put in before
pub sound_written : (known more : Known) (x y z : Shown) (us vs ws : List Stamp) (first held back : Option Stamp) (mark next last : Mark) (b : Looping)
    (s : Stamp) → IsSound known x (us ++ held_back first) mark → y ≡ x → vs ++ held_back held ≡ us ++ held_back first → next ≡ mark
    → is_some held ≡ false → more ≡ record known { log = known.log ++ moment false b ∷ [] } → s.seen.book ≡ more.book → s.seen.log ≡ more.log
    → s.count ≡ length known.log + 1 → updated (shown_at known.log) s.update ≡ shown_by b → z ≡ y → ws ++ held_back back ≡ vs ++ s ∷ [] → last ≡ next
    → IsSound more z (ws ++ held_back back) last
sound_written known more x y z us vs ws first held back mark next last b s sound same before marked none added book log count up is waits ends =
    sound_noted known more y z vs (ws ++ held_back back) held next last (moment false b) s
    (sound_as known x y (us ++ held_back first) (vs ++ held_back held) mark next sound same before marked) none added book log count
    (up ∙ sym (shown_behind known.log b)) is waits ends

-- where nothing waits, all that was written down is shown
pub all_shown : (known : Known) (x : Shown) (us : List Stamp) (mark : Mark) → IsSound known x us mark → us ≡ [] → edition_of x ≡ shown_at known.log
all_shown known x us mark sound none = ap (λ (l : List Stamp). (fold stamped (front_of x) l).edition) (sym none) ∙ sound.last

pub either_way : {T E C : Type 0} {P P' : T → Type 0} {Q Q' : E → Type 0} (r : Result T E) → MatchResult r P Q → MatchResult r P' Q'
    → ((x : T) → P x → P' x → C) → ((e : E) → Q e → Q' e → C) → C
either_way (Ok x) a b f g = f x a b
either_way (Err e) a b f g = g e a b

-- where it succeeded
pub only_ok : {T E C : Type 0} {P P' : T → Type 0} (Q Q' : E → Type 0) (r : Result T E) → is_ok r ≡ true → MatchResult r P Q → MatchResult r P' Q'
    → ((x : T) → P x → P' x → C) → C
only_ok Q Q' (Ok x) e a b f = f x a b
only_ok Q Q' (Err y) e a b f = cc

pub on_ok : {T E : Type 0} {P : T → Type 0} (Q : E → Type 0) (C : Type 0) (r : Result T E) → MatchResult r P Q → ((x : T) → P x → C) → OnOk r C
on_ok Q C (Ok x) a f = f x a
on_ok Q C (Err e) a f = tt

pub on_err : {T E : Type 0} (P : T → Type 0) {Q : E → Type 0} (C : Type 0) (r : Result T E) → MatchResult r P Q → ((e : E) → Q e → C) → OnErr r C
on_err P C (Ok x) a f = tt
on_err P C (Err e) a f = f e a

pub when_ok : {T E : Type 0} (r : Result T E) (P : Type 0) → OnOk r P → is_ok r ≡ true → P
when_ok (Ok x) P h e = h
when_ok (Err y) P h e = cc

-- where it didn't
pub when_err : {T E : Type 0} (r : Result T E) (P : Type 0) → OnErr r P → is_err r ≡ true → P
when_err (Ok x) P h e = cc
when_err (Err y) P h e = h

-- nothing waits
pub none_waits : (us : List Stamp) (b : Bool) → (IsTrue b ↔ (0 < length us)) → b ≡ false → us ≡ []
none_waits [] b h e = refl
none_waits (u ∷ us) b h e = let t : b ≡ true = h.1 (omega arith) in absurd (cc (t, e))
