-- Each step on a chute keeps its rule.
use Rattle.std.proofs.Common.{◌≡◌, ◌≢◌, ℕ, zero, suc, ◌<◌, Option, Some, None, All, List, [], ◌∷◌, ◌++◌, length, set, sym, refl, ap, ◌∙◌, subst, ⊎_elim, arith}
use Rattle.std.proofs.lemmas.List.Elements.{All-append, All-cons, All-nil, All-head, All-tail}
use mathlib.Core.Option.{some, some-injective, some-ne-none}
use lib.ListN.{get_elem?}
use Rattle.crossbeam_queue.specs.Fifo.{Pushes, Pops, Forks}
use Rattle.crossbeam_queue.proofs.Lists.{at_set, at_snoc}
use Rattle.logbook.specs.Pages.{Book}
use Rattle.shared_table.specs.Rule.{Token}
use Rattle.shared_table.specs.Chutes.{Lies, Stays, Gives}

abbrev Mark : Type 0
Mark = Option Token

below : {A : Type 0} (l : List A) (i : ℕ) (a : A) → get_elem? l i ≡ some a → i < length l
below [] i a e = absurd (some-ne-none a (sym e))
below (x ∷ xs) zero a e = omega arith
below (x ∷ xs) (suc i) a e = let h = below xs i a e in omega arith

set_long : {A : Type 0} (l : List A) (i : ℕ) (a : A) → length (set l i a) ≡ length l
set_long [] i a = refl
set_long (x ∷ xs) zero a = refl
set_long (x ∷ xs) (suc i) a = ap suc (set_long xs i a)

-- a lone pass has the one place
lone : {A : Type 0} (l : List A) (i j : ℕ) (a b : A) → length l ≡ 1 → get_elem? l i ≡ some a → get_elem? l j ≡ some b → j ≡ i
lone l i j a b one e f = let p = below l i a e in let q = below l j b f in omega (arith, one, p, q)

module _ {T : Type 0} (token : T → Token) where
  abbrev Of : Token → T → Type 0
  Of s x = (token x).book ≡ s.book

  none_here : (seat : ℕ) (s : Token) → get_elem? {A = Mark} (None ∷ []) seat ≡ some (Some s) → ⊥
  none_here zero s e = let f : None ≡ Some s = some-injective None (Some s) e in absurd (cc f)
  none_here (suc k) s e = some-ne-none (Some s) (sym e)

  pub begins : Lies token [] (None ∷ [])
  begins = record {
    alone = λ seat e. (refl, refl);
    one = λ seat other s t e f. absurd (none_here seat s e);
    stamped = λ seat s e. All-nil (Of s);
  }

  -- among marks that are all of this book, items of it
  settled : (s : Token) (items : List T) (views : List Mark) → ((seat : ℕ) (m : Mark) → get_elem? views seat ≡ some m → (t : Token) × (m ≡ Some t) × (t.book ≡ s.book))
      → All (λ x. (token x).book ≡ s.book) items → Lies token items views
  settled s items views all are = record {
    alone = λ seat e. let h = all seat None e in absurd (cc (h.1));
    one = λ seat other t u e f.
        let h = all seat (Some t) e in let k = all other (Some u) f in
        let a : t.book ≡ s.book = cc (h.1, h.2) in let b : u.book ≡ s.book = cc (k.1, k.2) in a ∙ sym b;
    stamped = λ seat t e. let h = all seat (Some t) e in let a : t.book ≡ s.book = cc (h.1, h.2) in subst (λ b. All (λ x. (token x).book ≡ b) items) (sym a) are;
  }

  -- all others know of the book of one who does
  known : (items : List T) (views : List Mark) (pass : ℕ) (s : Token) → Lies token items views → get_elem? views pass ≡ some (Some s)
      → (seat : ℕ) (m : Mark) → get_elem? views seat ≡ some m → (t : Token) × (m ≡ Some t) × (t.book ≡ s.book)
  known items views pass s h at seat None e =
      let j = lone views seat pass None (Some s) (h.alone seat e).1 e at in
      absurd (cc (some-injective None (Some s) (sym e ∙ (ap (get_elem? views) (sym j) ∙ at))))
  known items views pass s h at seat (Some t) e = (t, refl, h.one seat pass t s e at)

  set_known : (views : List Mark) (pass : ℕ) (s : Token) → ((seat : ℕ) (m : Mark) → get_elem? views seat ≡ some m → (t : Token) × (m ≡ Some t) × (t.book ≡ s.book))
      → (seat : ℕ) (m : Mark) → get_elem? (set views pass (Some s)) seat ≡ some m → (t : Token) × (m ≡ Some t) × (t.book ≡ s.book)
  set_known views pass s all seat m e = ⊎_elim (λ (x : (seat ≡ pass) × (Some s ≡ m)). (s, sym x.1, refl))
      (λ (x : (seat ≢ pass) × (get_elem? views seat ≡ some m)). all seat m x.1) (at_set views pass seat (Some s) m e)

  pub puts : (n pass : ℕ) (v : Mark) (x : T) → ((s : Token) → v ≡ Some s → (token x).book ≡ s.book) → Pushes (Lies token) n pass v x (Stays token v x)
  puts n pass None x may items views short h at =
      let mine = h.alone pass at in
      let s : Token = token x in
      let all : (seat : ℕ) (m : Mark) → get_elem? (set views pass (Some s)) seat ≡ some m → (t : Token) × (m ≡ Some t) × (t.book ≡ s.book) =
      λ seat m e. ⊎_elim (λ (y : (seat ≡ pass) × (Some s ≡ m)). (s, sym y.1, refl))
      (λ (y : (seat ≢ pass) × (get_elem? views seat ≡ some m)). absurd (y.0 (lone views pass seat None m mine.1 at y.1))) (at_set views pass seat (Some s) m e) in
      let are : All (λ y. (token y).book ≡ s.book) (items ++ x ∷ []) =
      subst (λ (l : List T). All (λ y. (token y).book ≡ s.book) (l ++ x ∷ [])) (sym mine.0) (All-cons (Of s) x [] refl (All-nil (Of s))) in
      (Some s, settled s (items ++ x ∷ []) (set views pass (Some s)) all are, refl)
  puts n pass (Some s) x may items views short h at = (
    Some s,
    settled s (items ++ x ∷ []) (set views pass (Some s)) (set_known views pass s (known items views pass s h at))
        (All-append (Of s) items (x ∷ []) (h.stamped pass s at) (All-cons (Of s) x [] (may s refl) (All-nil (Of s)))),
    refl,
  )

  pub takes : (pass : ℕ) (v : Mark) (s : Token) → v ≡ Some s → Pops (Lies token) pass v (Gives token v)
  takes pass v s is = subst (λ (m : Mark). Pops (Lies token) pass m (Gives token m)) (sym is) (λ x items views h at.
      let are = h.stamped pass s at in (
        Some s,
        settled s items (set views pass (Some s)) (set_known views pass s (known (x ∷ items) views pass s h at)) (All-tail (Of s) x items are),
        (refl, λ t e. let a : s ≡ t = cc e in All-head (Of s) x items are ∙ ap (λ (u : Token). u.book) a),
      ))

  pub forks : (pass : ℕ) (v : Mark) (s : Token) → v ≡ Some s → Forks (Lies token) pass v v v
  forks pass v s is = subst (λ (m : Mark). Forks (Lies token) pass m m m) (sym is) (λ items views h at.
      let all = set_known views pass s (known items views pass s h at) in
      settled s items (set views pass (Some s) ++ Some s ∷ [])
      (λ seat m e. ⊎_elim (all seat m) (λ (y : Some s ≡ m). (s, sym y, refl)) (at_snoc (set views pass (Some s)) (Some s) m seat e))
      (h.stamped pass s at))

  pub of_one : (b : Book) (v : Mark) (s t : Token) → v ≡ Some s → s.book ≡ b → v ≡ Some t → b ≡ t.book
  of_one b v s t e f g = let a : s ≡ t = cc (e, g) in sym f ∙ ap (λ (u : Token). u.book) a
