-- An end of lines stays in order.
use Rattle.std.proofs.Common.{ℕ, Bool, true, false, ◌≡◌, ◌==◌, ◌≤◌, ◌+◌, inl, inr, Option, Some, None, Ok, List, [], ◌∷◌, ◌++◌, map, length, set, refl, sym, ap, subst, ◌∙◌, append-nil, append_assoc, length-append, arith, option_map}
use Rattle.std.specs.Prelude.{if◌then◌else◌, ◌&&◌, ◌||◌, ◌⊎◌, nat_lt, not, is_some, filter}
use Rattle.std.specs.List.{sum_by, list_all, AllByRecursion}
use Rattle.std.proofs.lemmas.Bool.{and_parts, cases_eq, le-ltb, lt-ltb, ltb-false, ltb-true, not-true, eqb-true, ne_eqb, eq-eqb}
use Rattle.std.proofs.lemmas.Grind.{flat_map-append}
use Rattle.std.proofs.lemmas.List.{map-append}
use Rattle.std.proofs.lemmas.List.Sums.{sum_by-append}
use Rattle.registry_model.proofs.Updates.{by_test}
use Rattle.letter_lines.specs.declared.Letter.{Letter as ALetter}
use Rattle.protocol_model.specs.Letter.{Letter as AnyLetter}
use Rattle.letter_lines.specs.Gathered.{Gathered, Taken, taken, nothing}
use Rattle.letter_lines.specs.Letters.{letter_of}
use Rattle.letter_lines.specs.Laws.{IsLetter}
use Rattle.letter_lines.specs.Parts.{parts_of}
use Rattle.node_loop.specs.Alone.{Stamped as StampedLetter}
use Rattle.node_loop.specs.declared.item.Item.{Item}
use Rattle.node_loop.specs.declared.item.Item.TheVariants.{Letter, Task}
use Rattle.node_loop.specs.declared.item.Stamped.{Stamped}
use Rattle.wire_end.specs.declared.line.LinkLine.{LinkLine}
use Rattle.wire_end.specs.declared.wire.Wire.{Wire}
use Rattle.wire_end.specs.declared.wire_end.Wiring.{Wiring}
use Rattle.wire_end.specs.Dealings.{of_node}
use Rattle.wire_end.specs.Hearing.{HearsAt, LosesAt, laid_if, lost_where, closed, gone}
use Rattle.wire_end.specs.Links.{HearsPart, read_on}
use Rattle.wire_end.specs.Order.{AreNumbered, seen, ended_by, onward, spelled_on, Spells, SpellsBefore, has_younger, is_replaced, lines_to, text_behind, texts_behind, came_of, InOrder, StayInOrder}
use Rattle.wire_end.specs.Sending.{letter_text}
use Rattle.wire_end.specs.Wirings.{place, new_wire, wire_at, wire_if, link_with, with_lines_at, kept, printed, IsReadAgain, Posts, Takes, begun}
use Rattle.wire_end.specs.Saying.{present, is_said}
use Rattle.wire_end.specs.Starting.{Starts, is_alone, with_started, opened_anew}
use Rattle.node_loop.specs.NodeCoreState.{IsNext}
use Rattle.term.specs.Nodes.{name_of}
use Rattle.wire_end.proofs.Places.{at-place, link-set_same, link-set_other, new-unused, replaced-set, linked_stays, link_apart, link_next, link_none, link_gone, next_linked, replaced_apart, replaced_before, replaced_behind}

-- what there is of a node behind one more
pub more-of : {A : Type 0} (n : ℕ) (x : A) (pairs : List (ℕ × A)) (m : ℕ)
    → of_node m (pairs ++ (n, x) ∷ []) ≡ (if m == n then of_node n pairs ++ x ∷ [] else of_node m pairs)
more-of {A = A} n x pairs m =
    flat_map-append (λ (y : ℕ × A). if m == y.0 then y.1 ∷ [] else []) pairs ((n, x) ∷ [])
    ∙ by_test n
    (λ y b. of_node y pairs ++ ((if b then x ∷ [] else []) ++ []) ≡ (if b then of_node n pairs ++ x ∷ [] else of_node y pairs))
    refl (λ y ne. append-nil (of_node y pairs)) m

pub more-same : {A : Type 0} (n : ℕ) (x : A) (pairs : List (ℕ × A)) → of_node n (pairs ++ (n, x) ∷ []) ≡ of_node n pairs ++ x ∷ []
more-same {A = A} n x pairs =
    more-of n x pairs n ∙ ap (λ (b : Bool). if b then of_node n pairs ++ x ∷ [] else of_node n pairs) (eq-eqb n n refl)

pub more-other : {A : Type 0} (n m : ℕ) (x : A) (pairs : List (ℕ × A)) → (m ≡ n → ⊥) → of_node m (pairs ++ (n, x) ∷ []) ≡ of_node m pairs
more-other {A = A} n m x pairs ne =
    more-of n x pairs m ∙ ap (λ (b : Bool). if b then of_node n pairs ++ x ∷ [] else of_node m pairs) (ne_eqb m n ne)

-- the first of them
pub first-same : {A : Type 0} (n : ℕ) (x : A) (pairs : List (ℕ × A)) → of_node n ((n, x) ∷ pairs) ≡ x ∷ of_node n pairs
first-same {A = A} n x pairs = ap (λ (b : Bool). (if b then x ∷ [] else []) ++ of_node n pairs) (eq-eqb n n refl)

pub first-other : {A : Type 0} (n m : ℕ) (x : A) (pairs : List (ℕ × A)) → (m ≡ n → ⊥) → of_node m ((n, x) ∷ pairs) ≡ of_node m pairs
first-other {A = A} n m x pairs ne = ap (λ (b : Bool). (if b then x ∷ [] else []) ++ of_node m pairs) (ne_eqb m n ne)

-- a line more
numbered-more : (n : ℕ) (ls : List LinkLine) (l : LinkLine) → AreNumbered n ls → l.number ≡ n + length ls → AreNumbered n (ls ++ l ∷ [])
numbered-more n [] l h e = (omega (arith, e), tt)
numbered-more n (x ∷ ls) l h e = (h.0, numbered-more (n + 1) ls l h.1 (omega (arith, e)))

-- with what comes of the others
spelled-behind : (z : Taken) (stamp : ℕ) (ls : List LinkLine) (l : LinkLine) (h k : Gathered) (xs ys : List StampedLetter) (o : Option AnyLetter)
    → ((g : Gathered) (zs : List StampedLetter) → spelled_on ls g zs ≡ Some (h, ys)
    → spelled_on (ls ++ l ∷ []) g zs ≡ Some (k, ys ++ ended_by l.stamp o))
    → onward z stamp xs (spelled_on ls) ≡ Some (h, ys)
    → onward z stamp xs (spelled_on (ls ++ l ∷ [])) ≡ Some (k, ys ++ ended_by l.stamp o)
spelled-behind None stamp ls l h k xs ys o more e = absurd (cc e)
spelled-behind (Some z) stamp ls l h k xs ys o more e = more z.0 (xs ++ ended_by stamp z.1) e

spelled-more : (ls : List LinkLine) (l : LinkLine) (g h k : Gathered) (xs ys : List StampedLetter) (o : Option AnyLetter)
    → spelled_on ls g xs ≡ Some (h, ys) → taken l.part h ≡ Some (k, o)
    → spelled_on (ls ++ l ∷ []) g xs ≡ Some (k, ys ++ ended_by l.stamp o)
spelled-more [] l g h k xs ys o e t =
    let pair : (g, xs) ≡ (h, ys) = cc e in
    let same : g ≡ h = ap (λ (p : Gathered × List StampedLetter). p.0) pair in
    let list : xs ≡ ys = ap (λ (p : Gathered × List StampedLetter). p.1) pair in
    ap (λ (z : Gathered). onward (taken l.part z) l.stamp xs (spelled_on [])) same
    ∙ (ap (λ (z : Taken). onward z l.stamp xs (spelled_on [])) t
    ∙ ap (λ (zs : List StampedLetter). Some (k, zs ++ ended_by l.stamp o)) list)
spelled-more (x ∷ ls) l g h k xs ys o e t =
    spelled-behind (taken x.part g) x.stamp ls l h k xs ys o (λ f zs d. spelled-more ls l f h k zs ys o d t) e

-- a line that is heard is spelled behind the others
spells-more : (line : LinkLine) (w v : Wire) (lines : List LinkLine) (came : List Stamped) (letter : Option ALetter)
    → Spells w lines came → HearsPart line.number line.part w v (Ok letter)
    → (rest : List Stamped) → map seen rest ≡ ended_by line.stamp (option_map letter_of letter)
    → Spells v (lines ++ line ∷ []) (came ++ rest)
spells-more line w v lines came letter s h rest is =
    let next = and_parts (not w.is_down) (line.number == w.read + 1) h.0 in
    let up : w.is_down ≡ false = not-true w.is_down next.0 in
    let number : line.number ≡ w.read + 1 = eqb-true _ _ next.1 in
    let on = s.goes_on up in
    let part : taken line.part s.items ≡ Some (v.parts, option_map letter_of letter) =
    ap (λ (g : Gathered). taken line.part g) on.1 ∙ h.1 in
    let came_now : map seen came ≡ s.letters =
    s.came_is ∙ (ap (λ (xs : List StampedLetter). s.letters ++ xs) on.0 ∙ append-nil s.letters) in
    record {
      numbered = numbered-more 1 lines line s.numbered (omega (arith, number, s.count));
      count = ap (λ (x : Wire). x.read) h.2 ∙ omega (arith, number, s.count, length-append lines (line ∷ []));
      items = v.parts;
      letters = s.letters ++ ended_by line.stamp (option_map letter_of letter);
      spelled = spelled-more lines line nothing s.items v.parts [] s.letters (option_map letter_of letter) s.spelled part;
      last = [];
      word = inl refl;
      came_is = map-append seen came rest
          ∙ (ap (λ (xs : List StampedLetter). xs ++ map seen rest) came_now
          ∙ (ap (λ (xs : List StampedLetter). s.letters ++ xs) is
          ∙ sym (append-nil (s.letters ++ ended_by line.stamp (option_map letter_of letter)))));
      goes_on = λ _. (refl, refl);
    }

-- where all is as it was but for what isn't of the node
spells-as : (w v : Wire) (lines more : List LinkLine) (came rest : List Stamped) → v ≡ w → more ≡ lines → rest ≡ came
    → Spells w lines came → Spells v more rest
spells-as w v lines more came rest e f g s =
    subst (λ x. Spells x more rest) (sym e) (subst (λ x. Spells w x rest) (sym f) (subst (λ x. Spells w lines x) (sym g) s))

-- what a link spells is spelled once it isn't there any more
pub spells-before : (w : Wire) (lines : List LinkLine) (came : List Stamped) → Spells w lines came → SpellsBefore lines came
spells-before w lines came s = record {
  numbered = s.numbered;
  items = s.items;
  letters = s.letters;
  spelled = s.spelled;
  last = s.last;
  word = s.word;
  came_is = s.came_is;
}

before-as : (lines more : List LinkLine) (came rest : List Stamped) → more ≡ lines → rest ≡ came → SpellsBefore lines came → SpellsBefore more rest
before-as lines more came rest f g s = subst (λ x. SpellsBefore x rest) (sym f) (subst (λ x. SpellsBefore lines x) (sym g) s)

-- a link on which nothing came spells as a new one does
spells-new : (w v : Wire) (lines : List LinkLine) (came : List Stamped) → w ≡ new_wire 0 → v.read ≡ 0 → v.parts ≡ nothing → Spells w lines came
    → Spells v lines came
spells-new w v lines came new read parts s = record {
  numbered = s.numbered;
  count = read ∙ (sym (ap (λ (x : Wire). x.read) new) ∙ s.count);
  items = s.items;
  letters = s.letters;
  spelled = s.spelled;
  last = s.last;
  word = s.word;
  came_is = s.came_is;
  goes_on = λ _.
      let on = s.goes_on (ap (λ (x : Wire). x.is_down) new) in
      (on.0, on.1 ∙ (ap (λ (x : Wire). x.parts) new ∙ sym parts));
}

-- a letter that comes is behind all that came
came-more : (f : ℕ) (l : Stamped) (s : Wiring)
    → of_node f s.taken ++ of_node f (s.heard ++ (f, l) ∷ []) ≡ came_of f s ++ l ∷ []
came-more f l s =
    ap (λ (xs : List Stamped). of_node f s.taken ++ xs) (more-same f l s.heard)
    ∙ sym (append_assoc (of_node f s.taken) (of_node f s.heard) (l ∷ []))

came-other : (f m : ℕ) (l : Stamped) (s : Wiring) → (m ≡ f → ⊥)
    → of_node m s.taken ++ of_node m (s.heard ++ (f, l) ∷ []) ≡ came_of m s
came-other f m l s ne = ap (λ (xs : List Stamped). of_node m s.taken ++ xs) (more-other f m l s.heard ne)

-- each node, or another
pub each : (a : ℕ) (P : ℕ → Type 0) → P a → ((x : ℕ) → (x ≡ a → ⊥) → P x) → (x : ℕ) → P x
each a P here there x = by_test a (λ y b. P y) here there x

-- the line is heard at the place of its link
heard : (out : List ℕ) (s : Wiring) (from : ℕ) (line : LinkLine) (k : ℕ) (v : Wire) (letter : Option ALetter)
    → place from s.wires ≡ Some k → HearsPart line.number line.part (wire_at k s.wires) v (Ok letter) → InOrder out s
    → InOrder out (laid_if from line.stamp letter (record s { wires = set s.wires k v; read = s.read ++ (from, line) ∷ [] }))
heard out s from line k v letter e hears h = by_letter letter refl
  where
    own : v.node ≡ from
    own = ap (λ (x : Wire). x.node) hears.2 ∙ (at-place from k s.wires e).1

    before : link_with from s.wires ≡ wire_at k s.wires
    before = ap (λ (at : Option ℕ). wire_if at s.wires) e

    at_node : v.node ≡ (wire_at k s.wires).node
    at_node = ap (λ (x : Wire). x.node) hears.2

    -- with what rests of what came of this node
    read : (rest : List Stamped) → map seen rest ≡ ended_by line.stamp (option_map letter_of letter)
        → (came : ℕ → List Stamped) → came from ≡ came_of from s ++ rest
        → ((f : ℕ) → (f ≡ from → ⊥) → came f ≡ came_of f s)
        → (f : ℕ) → (f ≡ s.node → ⊥) → is_replaced f (set s.wires k v) ≡ false
        → Spells (link_with f (set s.wires k v)) (of_node f (s.read ++ (from, line) ∷ [])) (came f)
    read rest is came here there =
        each from
        (λ f. (f ≡ s.node → ⊥) → is_replaced f (set s.wires k v) ≡ false
        → Spells (link_with f (set s.wires k v)) (of_node f (s.read ++ (from, line) ∷ [])) (came f))
        (λ other stays.
        spells-as v (link_with from (set s.wires k v)) (of_node from s.read ++ line ∷ []) (of_node from (s.read ++ (from, line) ∷ []))
        (came_of from s ++ rest) (came from) (link-set_same from k v s.wires e own) (more-same from line s.read) here
        (spells-more line (wire_at k s.wires) v (of_node from s.read) (came_of from s) letter
        (subst (λ w. Spells w (of_node from s.read) (came_of from s)) before (h.read from other (linked_stays from k s.wires e))) hears rest is))
        (λ f ne other stays.
        spells-as (link_with f s.wires) (link_with f (set s.wires k v)) (of_node f s.read) (of_node f (s.read ++ (from, line) ∷ []))
        (came_of f s) (came f) (link-set_other from f k v s.wires e own ne) (more-other from f line s.read ne) (there f ne)
        (h.read f other (sym (replaced-set f k v s.wires at_node) ∙ stays)))

    older : (came : ℕ → List Stamped) → ((f : ℕ) → (f ≡ from → ⊥) → came f ≡ came_of f s)
        → (f : ℕ) → (f ≡ s.node → ⊥) → is_replaced f (set s.wires k v) ≡ true
        → SpellsBefore (of_node f (s.read ++ (from, line) ∷ [])) (came f)
    older came there =
        each from
        (λ f. (f ≡ s.node → ⊥) → is_replaced f (set s.wires k v) ≡ true → SpellsBefore (of_node f (s.read ++ (from, line) ∷ [])) (came f))
        (λ other gone. absurd (cc (linked_stays from k s.wires e, sym (replaced-set from k v s.wires at_node) ∙ gone)))
        (λ f ne other gone.
        before-as (of_node f s.read) (of_node f (s.read ++ (from, line) ∷ [])) (came_of f s) (came f) (more-other from f line s.read ne)
        (there f ne) (h.before f other (sym (replaced-set f k v s.wires at_node) ∙ gone)))

    counted : (t : ℕ) → (t ≡ s.node → ⊥) → is_replaced t (set s.wires k v) ≡ false → (link_with t (set s.wires k v)).written ≡ lines_to t s.sent
    counted =
        each from
        (λ t. (t ≡ s.node → ⊥) → is_replaced t (set s.wires k v) ≡ false → (link_with t (set s.wires k v)).written ≡ lines_to t s.sent)
        (λ other stays.
        ap (λ (w : Wire). w.written)
        (link-set_same from k v s.wires e own ∙ (hears.2 ∙ ap (λ (w : Wire). read_on line.number letter v w) (sym before)))
        ∙ h.counted from other (linked_stays from k s.wires e))
        (λ t ne other stays.
        ap (λ (w : Wire). w.written) (link-set_other from t k v s.wires e own ne)
        ∙ h.counted t other (sym (replaced-set t k v s.wires at_node) ∙ stays))

    by_letter : (l : Option ALetter) → letter ≡ l
        → InOrder out (laid_if from line.stamp l (record s { wires = set s.wires k v; read = s.read ++ (from, line) ∷ [] }))
    by_letter None same = record {
      read = read [] (ap (λ (x : Option ALetter). ended_by line.stamp (option_map letter_of x)) (sym same)) (λ f. came_of f s)
          (sym (append-nil (came_of from s))) (λ f ne. refl);
      before = older (λ f. came_of f s) (λ f ne. refl);
      counted = counted;
      sent = h.sent;
      letters = h.letters;
    }
    by_letter (Some l) same = record {
      read = read (record { stamp = line.stamp; letter = l } ∷ [])
          (ap (λ (x : Option ALetter). ended_by line.stamp (option_map letter_of x)) (sym same))
          (λ f. of_node f s.taken ++ of_node f (s.heard ++ (from, record { stamp = line.stamp; letter = l }) ∷ []))
          (came-more from (record { stamp = line.stamp; letter = l }) s)
          (λ f ne. came-other from f (record { stamp = line.stamp; letter = l }) s ne);
      before = older (λ f. of_node f s.taken ++ of_node f (s.heard ++ (from, record { stamp = line.stamp; letter = l }) ∷ []))
          (λ f ne. came-other from f (record { stamp = line.stamp; letter = l }) s ne);
      counted = counted;
      sent = h.sent;
      letters = h.letters;
    }

hears : (out : List ℕ) (s : Wiring) (from : ℕ) (line : LinkLine) (t : Wiring) → InOrder out s
    → HearsAt (place from s.wires) from line s t → InOrder out t
hears out s from line t h step = go (place from s.wires) refl step
  where
    go : (at : Option ℕ) → place from s.wires ≡ at → HearsAt at from line s t → InOrder out t
    go None e st = absurd st
    go (Some k) e st = subst (InOrder out) (sym st.rest) (heard out s from line k st.wire st.letter e st.hears h)

-- a node is gone without a word
spells-gone : (w : Wire) (lines : List LinkLine) (came : List Stamped) → w.is_down ≡ false → Spells w lines came
    → Spells (closed w) lines (came ++ gone ∷ [])
spells-gone w lines came up s = record {
  numbered = s.numbered;
  count = s.count;
  items = s.items;
  letters = s.letters;
  spelled = s.spelled;
  last = seen gone ∷ [];
  word = inr refl;
  came_is = map-append seen came (gone ∷ [])
      ∙ ap (λ (xs : List StampedLetter). xs ++ seen gone ∷ [])
      (s.came_is ∙ (ap (λ (xs : List StampedLetter). s.letters ++ xs) (s.goes_on up).0 ∙ append-nil s.letters));
  goes_on = λ down. absurd (cc down);
}

lost : (out : List ℕ) (s : Wiring) (n k : ℕ) → place n s.wires ≡ Some k → InOrder out s
    → InOrder out (lost_where (wire_at k s.wires).is_down n k s)
lost out s n k e h = go (wire_at k s.wires).is_down refl
  where
    shut : Wire
    shut = closed (wire_at k s.wires)

    own : (closed (wire_at k s.wires)).node ≡ n
    own = (at-place n k s.wires e).1

    before : link_with n s.wires ≡ wire_at k s.wires
    before = ap (λ (at : Option ℕ). wire_if at s.wires) e

    go : (down : Bool) → (wire_at k s.wires).is_down ≡ down → InOrder out (lost_where down n k s)
    go true f = h
    go false f = record {
      read = each n
          (λ x. (x ≡ s.node → ⊥) → is_replaced x (set s.wires k (closed (wire_at k s.wires))) ≡ false
          → Spells (link_with x (set s.wires k (closed (wire_at k s.wires)))) (of_node x s.read)
          (of_node x s.taken ++ of_node x (s.heard ++ (n, gone) ∷ [])))
          (λ other stays.
          spells-as (closed (wire_at k s.wires)) (link_with n (set s.wires k (closed (wire_at k s.wires)))) (of_node n s.read)
          (of_node n s.read) (came_of n s ++ gone ∷ []) (of_node n s.taken ++ of_node n (s.heard ++ (n, gone) ∷ []))
          (link-set_same n k (closed (wire_at k s.wires)) s.wires e own) refl (came-more n gone s)
          (spells-gone (wire_at k s.wires) (of_node n s.read) (came_of n s) f
          (subst (λ w. Spells w (of_node n s.read) (came_of n s)) before (h.read n other (linked_stays n k s.wires e)))))
          (λ x ne other stays.
          spells-as (link_with x s.wires) (link_with x (set s.wires k (closed (wire_at k s.wires)))) (of_node x s.read)
          (of_node x s.read) (came_of x s) (of_node x s.taken ++ of_node x (s.heard ++ (n, gone) ∷ []))
          (link-set_other n x k (closed (wire_at k s.wires)) s.wires e own ne) refl (came-other n x gone s ne)
          (h.read x other (sym (replaced-set x k (closed (wire_at k s.wires)) s.wires refl) ∙ stays)));
      before = each n
          (λ x. (x ≡ s.node → ⊥) → is_replaced x (set s.wires k (closed (wire_at k s.wires))) ≡ true
          → SpellsBefore (of_node x s.read) (of_node x s.taken ++ of_node x (s.heard ++ (n, gone) ∷ [])))
          (λ other left.
          absurd (cc (linked_stays n k s.wires e, sym (replaced-set n k (closed (wire_at k s.wires)) s.wires refl) ∙ left)))
          (λ x ne other left.
          before-as (of_node x s.read) (of_node x s.read) (came_of x s) (of_node x s.taken ++ of_node x (s.heard ++ (n, gone) ∷ [])) refl
          (came-other n x gone s ne) (h.before x other (sym (replaced-set x k (closed (wire_at k s.wires)) s.wires refl) ∙ left)));
      counted = each n
          (λ x. (x ≡ s.node → ⊥) → is_replaced x (set s.wires k (closed (wire_at k s.wires))) ≡ false
          → (link_with x (set s.wires k (closed (wire_at k s.wires)))).written ≡ lines_to x s.sent)
          (λ other stays.
          ap (λ (w : Wire). w.written) (link-set_same n k (closed (wire_at k s.wires)) s.wires e own)
          ∙ (ap (λ (w : Wire). w.written) (sym before) ∙ h.counted n other (linked_stays n k s.wires e)))
          (λ x ne other stays.
          ap (λ (w : Wire). w.written) (link-set_other n x k (closed (wire_at k s.wires)) s.wires e own ne)
          ∙ h.counted x other (sym (replaced-set x k (closed (wire_at k s.wires)) s.wires refl) ∙ stays));
      sent = h.sent;
      letters = h.letters;
    }

loses : (out : List ℕ) (s : Wiring) (n : ℕ) (t : Wiring) → InOrder out s → LosesAt (place n s.wires) n (Ok tt) s t → InOrder out t
loses out s n t h step = go (place n s.wires) refl step
  where
    go : (at : Option ℕ) → place n s.wires ≡ at → LosesAt at n (Ok tt) s t → InOrder out t
    go None e st = absurd (cc (st.0))
    go (Some k) e st = subst (InOrder out) (sym st) (lost out s n k e h)

-- the lines of one letter more
texts-more : (node : ℕ) (before xs : List (ℕ × Stamped)) (x : ℕ × Stamped)
    → texts_behind node before (xs ++ x ∷ []) ≡ texts_behind node before xs ++ text_behind node (before ++ xs) x
texts-more node before [] x =
    append-nil (text_behind node before x)
    ∙ ap (λ (b : List (ℕ × Stamped)). text_behind node b x) (sym (append-nil before))
texts-more node before (y ∷ xs) x =
    ap (λ (t : List ℕ). text_behind node before y ++ t)
    (texts-more node (before ++ y ∷ []) xs x
    ∙ ap (λ (b : List (ℕ × Stamped)). texts_behind node (before ++ y ∷ []) xs ++ text_behind node b x) (append_assoc before (y ∷ []) xs))
    ∙ sym (append_assoc (text_behind node before y) (texts_behind node (before ++ y ∷ []) xs) (text_behind node (before ++ y ∷ xs) x))

-- the lines to a node behind one letter more to it, and to another
lines-same : (n : ℕ) (l : Stamped) (sent : List (ℕ × Stamped)) → lines_to n (sent ++ (n, l) ∷ []) ≡ lines_to n sent + length (parts_of l.letter)
lines-same n l sent =
    ap (λ (xs : List Stamped). sum_by (λ (x : Stamped). length (parts_of x.letter)) xs) (more-same n l sent)
    ∙ (sum_by-append (λ (x : Stamped). length (parts_of x.letter)) (of_node n sent) (l ∷ []) ∙ omega arith)

lines-other : (n m : ℕ) (l : Stamped) (sent : List (ℕ × Stamped)) → (m ≡ n → ⊥) → lines_to m (sent ++ (n, l) ∷ []) ≡ lines_to m sent
lines-other n m l sent ne = ap (λ (xs : List Stamped). sum_by (λ (x : Stamped). length (parts_of x.letter)) xs) (more-other n m l sent ne)

-- a letter to itself
keeps : (out : List ℕ) (s : Wiring) (l : Stamped) → InOrder out s → InOrder out (kept l s)
keeps out s l h = record {
  read = h.read;
  before = h.before;
  counted = λ t other stays. h.counted t other stays ∙ sym (lines-other s.node t l s.sent other);
  sent = h.sent ∙ (sym (append-nil (texts_behind s.node [] s.sent))
      ∙ (ap (λ (b : Bool). texts_behind s.node [] s.sent ++ (if b then [] else letter_text s.node (lines_to s.node s.sent) l))
      (sym (eq-eqb s.node s.node refl))
      ∙ sym (texts-more s.node [] s.sent (s.node, l))));
  letters = λ t other. subst (AllByRecursion (λ (x : Stamped). IsLetter x.letter)) (sym (more-other s.node t l s.sent other)) (h.letters t other);
}

letters-more : (ls : List Stamped) (l : Stamped) → AllByRecursion (λ (x : Stamped). IsLetter x.letter) ls → IsLetter l.letter
    → AllByRecursion (λ (x : Stamped). IsLetter x.letter) (ls ++ l ∷ [])
letters-more [] l h is = (is, tt)
letters-more (x ∷ ls) l h is = (h.0, letters-more ls l h.1 is)

-- one to another
prints : (out : List ℕ) (s : Wiring) (to k : ℕ) (l : Stamped) → (to ≡ s.node → ⊥) → place to s.wires ≡ Some k → IsLetter l.letter
    → InOrder out s → InOrder out (record s {
      wires = set s.wires k (record (wire_at k s.wires) { written = (wire_at k s.wires).written + length (parts_of l.letter) });
      lines = s.lines ++ letter_text to (link_with to s.wires).written l;
      sent = s.sent ++ (to, l) ∷ [];
    })
prints out s to k l other e is h = record {
  read = each to
      (λ f. (f ≡ s.node → ⊥) → is_replaced f (set s.wires k grown) ≡ false
      → Spells (link_with f (set s.wires k grown)) (of_node f s.read) (came_of f s))
      (λ ne stays. subst (λ w. Spells w (of_node to s.read) (came_of to s)) (sym (link-set_same to k grown s.wires e own))
      (record {
        numbered = (here ne).numbered;
        count = (here ne).count;
        items = (here ne).items;
        letters = (here ne).letters;
        spelled = (here ne).spelled;
        last = (here ne).last;
        word = (here ne).word;
        came_is = (here ne).came_is;
        goes_on = (here ne).goes_on;
      }))
      (λ f ne there stays.
      subst (λ w. Spells w (of_node f s.read) (came_of f s)) (sym (link-set_other to f k grown s.wires e own ne))
      (h.read f there (sym (replaced-set f k grown s.wires refl) ∙ stays)));
  before = λ f there gone. h.before f there (sym (replaced-set f k grown s.wires refl) ∙ gone);
  counted = each to
      (λ t. (t ≡ s.node → ⊥) → is_replaced t (set s.wires k grown) ≡ false
      → (link_with t (set s.wires k grown)).written ≡ lines_to t (s.sent ++ (to, l) ∷ []))
      (λ ne stays.
      ap (λ (w : Wire). w.written) (link-set_same to k grown s.wires e own)
      ∙ (ap (λ (w : Wire). w.written + length (parts_of l.letter)) (sym now)
      ∙ (ap (λ (n : ℕ). n + length (parts_of l.letter)) (h.counted to ne (linked_stays to k s.wires e)) ∙ sym (lines-same to l s.sent))))
      (λ t ne there stays.
      ap (λ (w : Wire). w.written) (link-set_other to t k grown s.wires e own ne)
      ∙ (h.counted t there (sym (replaced-set t k grown s.wires refl) ∙ stays) ∙ sym (lines-other to t l s.sent ne)));
  sent = sym (append_assoc out s.lines (letter_text to (link_with to s.wires).written l))
      ∙ (ap (λ (x : List ℕ). x ++ letter_text to (link_with to s.wires).written l) h.sent
      ∙ (ap (λ (n : ℕ). texts_behind s.node [] s.sent ++ letter_text to n l) (h.counted to other (linked_stays to k s.wires e))
      ∙ (ap (λ (b : Bool). texts_behind s.node [] s.sent ++ (if b then [] else letter_text to (lines_to to s.sent) l)) (sym (ne_eqb to s.node other))
      ∙ sym (texts-more s.node [] s.sent (to, l)))));
  letters = each to (λ t. (t ≡ s.node → ⊥) → AllByRecursion (λ (x : Stamped). IsLetter x.letter) (of_node t (s.sent ++ (to, l) ∷ [])))
      (λ ne.
      subst (AllByRecursion (λ (x : Stamped). IsLetter x.letter)) (sym (more-same to l s.sent))
      (letters-more (of_node to s.sent) l (h.letters to ne) is))
      (λ t ne there. subst (AllByRecursion (λ (x : Stamped). IsLetter x.letter)) (sym (more-other to t l s.sent ne)) (h.letters t there));
}
  where
    grown : Wire
    grown = record (wire_at k s.wires) { written = (wire_at k s.wires).written + length (parts_of l.letter) }

    own : grown.node ≡ to
    own = (at-place to k s.wires e).1

    now : link_with to s.wires ≡ wire_at k s.wires
    now = ap (λ (at : Option ℕ). wire_if at s.wires) e

    here : (to ≡ s.node → ⊥) → Spells (wire_at k s.wires) (of_node to s.read) (came_of to s)
    here ne = subst (λ w. Spells w (of_node to s.read) (came_of to s)) now (h.read to ne (linked_stays to k s.wires e))

sends : (out : List ℕ) (s : Wiring) (to : ℕ) (i : Item) (t : Wiring) → InOrder out s → Posts s to i t → InOrder out t
sends out s to (Letter l) t h step = subst (InOrder out) (sym step.1) (go (to == s.node) refl step.0 step.2)
  where
    at : (b : Option ℕ) → place to s.wires ≡ b → is_some b ≡ true → (to ≡ s.node → ⊥) → IsLetter l.letter
        → InOrder out (record s {
          wires = with_lines_at b (length (parts_of l.letter)) s.wires;
          lines = s.lines ++ letter_text to (link_with to s.wires).written l;
          sent = s.sent ++ (to, l) ∷ [];
        })
    at None e some ne is = absurd (cc some)
    at (Some k) e some ne is = prints out s to k l ne e is h

    go : (b : Bool) → (to == s.node) ≡ b
        → (if b then is_said (present s) s.node s.node l.letter else is_some (place to s.wires)) ≡ true → IsReadAgain b l.letter
        → InOrder out (if b then kept l s else printed to l s)
    go true e said is = keeps out s l h
    go false e some is = at (place to s.wires) refl some (λ same. cc (e, eq-eqb to s.node same)) is
sends out s to (Task k) t h step = absurd step

-- a letter that waited is taken
takes-own : (out : List ℕ) (s : Wiring) (from : ℕ) (l : Stamped) (own : List Stamped) → from ≡ s.node → InOrder out s
    → InOrder out (record s { own = own; taken = s.taken ++ (from, l) ∷ [] })
takes-own out s from l own same h = record {
  read = λ f other stays.
      subst (λ xs. Spells (link_with f s.wires) (of_node f s.read) xs)
      (ap (λ (xs : List Stamped). xs ++ of_node f s.heard) (sym (more-other from f l s.taken (λ e. other (e ∙ same))))) (h.read f other stays);
  before = λ f other gone.
      subst (λ xs. SpellsBefore (of_node f s.read) xs)
      (ap (λ (xs : List Stamped). xs ++ of_node f s.heard) (sym (more-other from f l s.taken (λ e. other (e ∙ same))))) (h.before f other gone);
  counted = h.counted;
  sent = h.sent;
  letters = h.letters;
}

taken-now : (from : ℕ) (l : Stamped) (s : Wiring) (rest : List (ℕ × Stamped)) → s.heard ≡ (from, l) ∷ rest → (f : ℕ)
    → of_node f (s.taken ++ (from, l) ∷ []) ++ of_node f rest ≡ came_of f s
taken-now from l s rest e =
    each from (λ f. of_node f (s.taken ++ (from, l) ∷ []) ++ of_node f rest ≡ came_of f s)
    (ap (λ (xs : List Stamped). xs ++ of_node from rest) (more-same from l s.taken)
    ∙ (append_assoc (of_node from s.taken) (l ∷ []) (of_node from rest)
    ∙ ap (λ (xs : List Stamped). of_node from s.taken ++ xs)
    (sym (first-same from l rest) ∙ ap (λ (xs : List (ℕ × Stamped)). of_node from xs) (sym e))))
    (λ f ne.
    ap (λ (xs : List Stamped). xs ++ of_node f rest) (more-other from f l s.taken ne)
    ∙ ap (λ (xs : List Stamped). of_node f s.taken ++ xs)
    (sym (first-other from f l rest ne) ∙ ap (λ (xs : List (ℕ × Stamped)). of_node f xs) (sym e)))

takes-others : (out : List ℕ) (s : Wiring) (from : ℕ) (l : Stamped) (rest : List (ℕ × Stamped)) → s.heard ≡ (from, l) ∷ rest
    → InOrder out s → InOrder out (record s { heard = rest; taken = s.taken ++ (from, l) ∷ [] })
takes-others out s from l rest e h = record {
  read = λ f other stays.
      subst (λ xs. Spells (link_with f s.wires) (of_node f s.read) xs) (sym (taken-now from l s rest e f)) (h.read f other stays);
  before = λ f other gone.
      subst (λ xs. SpellsBefore (of_node f s.read) xs) (sym (taken-now from l s rest e f)) (h.before f other gone);
  counted = h.counted;
  sent = h.sent;
  letters = h.letters;
}

gives : (out : List ℕ) (s : Wiring) (from : ℕ) (i : Item) (t : Wiring) → InOrder out s → Takes s from i t → InOrder out t
gives out s from (Letter l) t h (inl st) = subst (InOrder out) (sym st.rest) (takes-own out s from l t.own st.own h)
gives out s from (Letter l) t h (inr st) = subst (InOrder out) (sym st.rest) (takes-others out s from l t.heard st.oldest h)
gives out s from (Task k) t h st =
    subst (InOrder out) (sym st.rest)
    (record { read = h.read; before = h.before; counted = h.counted; sent = h.sent; letters = h.letters })

begins : (node : ℕ) (world : List ℕ) → InOrder [] (begun node world)
begins node world = record {
  read = λ f other stays.
      let new = new-unused f (filter (λ n. not (n == node)) world) in
      record {
        numbered = tt;
        count = new.read;
        items = nothing;
        letters = [];
        spelled = refl;
        last = [];
        word = inl refl;
        came_is = refl;
        goes_on = λ up. (refl, sym new.parts);
      };
  before = λ f other gone. record {
    numbered = tt;
    items = nothing;
    letters = [];
    spelled = refl;
    last = [];
    word = inl refl;
    came_is = refl;
  };
  counted = λ t other stays. (new-unused t (filter (λ n. not (n == node)) world)).written;
  sent = refl;
  letters = λ t other. tt;
}

-- the next node of a name takes the place of the one before it
module _ (out : List ℕ) (s : Wiring) (older next : ℕ) (h : InOrder out s) (is : IsNext older next) (alone : is_alone older s ≡ true) where
  abbrev only : Bool
  only = list_all (λ w. not (name_of w.node == name_of older) || (w.node == older)) s.wires

  parts_alone : (is_some (place older s.wires) ≡ true) × ((only && not (name_of s.node == name_of older)) ≡ true)
  parts_alone = and_parts (is_some (place older s.wires)) (only && not (name_of s.node == name_of older)) alone

  one : (only ≡ true) × (not (name_of s.node == name_of older) ≡ true)
  one = and_parts only (not (name_of s.node == name_of older)) parts_alone.1

  -- who is of that name, and is replaced by none behind the change, is the next one, or younger
  not_older : (f : ℕ) → name_of f ≡ name_of older → (f ≡ next → ⊥) → is_replaced f (map (opened_anew older next) s.wires) ≡ false
      → (f ≡ older → ⊥) × (nat_lt f older ≡ false)
  not_older f named ne stays =
      let no : nat_lt f next ≡ false = sym (replaced_behind older next is f named ne s.wires one.0 parts_alone.0) ∙ stays in
      let least : next ≤ f = ltb-false f next no in
      ((λ (same : f ≡ older). omega (arith, least, same, is.is)), le-ltb f older (omega (arith, least, is.is)))

  -- and who is replaced then is the one before it, or was
  was_older : (f : ℕ) → name_of f ≡ name_of older → is_replaced f (map (opened_anew older next) s.wires) ≡ true
      → (f ≡ older) ⊎ (is_replaced f s.wires ≡ true)
  was_older f named gone = elim (cases_eq f older) [
    | inl same ↦ inl same
    | inr other ↦ elim (cases_eq f next) [
      | inl now ↦ absurd (cc (
        gone,
        ap (λ (b : Bool). not b && has_younger f (map (opened_anew older next) s.wires))
            (ap (λ (m : ℕ). is_some (place m (map (opened_anew older next) s.wires))) now ∙ next_linked older next is s.wires parts_alone.0),
      ))
      | inr ne ↦ inr (replaced_before older next is f named other s.wires one.0 parts_alone.0
          ∙ lt-ltb f older (omega (
            arith,
            is.is,
            other,
            ltb-true f next (sym (replaced_behind older next is f named ne s.wires one.0 parts_alone.0) ∙ gone),
          )))
    ]
  ]

  started : InOrder out (with_started older next s)
  started = record {
    read = λ f other stays. elim (cases_eq (name_of f) (name_of older)) [
      | inr apart ↦ subst (λ w. Spells w (of_node f s.read) (came_of f s)) (sym (link_apart older next is f apart s.wires))
          (h.read f other (sym (replaced_apart older next is f apart s.wires) ∙ stays))
      | inl named ↦ elim (cases_eq f next) [
        | inl now ↦ spells-new (link_with f s.wires) (link_with f (map (opened_anew older next) s.wires)) (of_node f s.read) (came_of f s)
            (link_none older next is f named (younger_than now) s.wires one.0)
            (ap (λ (w : Wire). w.read) (next_is now)) (ap (λ (w : Wire). w.parts) (next_is now))
            (h.read f other (replaced_before older next is f named (younger_than now) s.wires one.0 parts_alone.0 ∙ not_before now))
        | inr ne ↦
            let no = not_older f named ne stays in
            subst (λ w. Spells w (of_node f s.read) (came_of f s))
            (link_none older next is f named no.0 s.wires one.0 ∙ sym (link_gone older next is f named ne s.wires one.0))
            (h.read f other (replaced_before older next is f named no.0 s.wires one.0 parts_alone.0 ∙ no.1))
      ]
    ];
    before = λ f other gone. elim (cases_eq (name_of f) (name_of older)) [
      | inr apart ↦ h.before f other (sym (replaced_apart older next is f apart s.wires) ∙ gone)
      | inl named ↦ elim (was_older f named gone) [
        | inl same ↦ spells-before (link_with f s.wires) (of_node f s.read) (came_of f s) (h.read f other (linked f same))
        | inr was ↦ h.before f other was
      ]
    ];
    counted = λ t other stays. elim (cases_eq (name_of t) (name_of older)) [
      | inr apart ↦ ap (λ (w : Wire). w.written) (link_apart older next is t apart s.wires)
          ∙ h.counted t other (sym (replaced_apart older next is t apart s.wires) ∙ stays)
      | inl named ↦ elim (cases_eq t next) [
        | inl now ↦ ap (λ (w : Wire). w.written) (next_is now)
            ∙ (sym (ap (λ (w : Wire). w.written) (link_none older next is t named (younger_than now) s.wires one.0))
            ∙ h.counted t other (replaced_before older next is t named (younger_than now) s.wires one.0 parts_alone.0 ∙ not_before now))
        | inr ne ↦
            let no = not_older t named ne stays in
            ap (λ (w : Wire). w.written)
            (link_gone older next is t named ne s.wires one.0 ∙ sym (link_none older next is t named no.0 s.wires one.0))
            ∙ h.counted t other (replaced_before older next is t named no.0 s.wires one.0 parts_alone.0 ∙ no.1)
      ]
    ];
    sent = h.sent;
    letters = h.letters;
  }
    where
      younger_than : {f : ℕ} → f ≡ next → f ≡ older → ⊥
      younger_than now same = omega (arith, is.is, now, same)

      not_before : {f : ℕ} → f ≡ next → nat_lt f older ≡ false
      not_before {f} now = le-ltb f older (omega (arith, is.is, now))

      next_is : {f : ℕ} → f ≡ next → link_with f (map (opened_anew older next) s.wires) ≡ new_wire next
      next_is now = ap (λ (n : ℕ). link_with n (map (opened_anew older next) s.wires)) now ∙ link_next older next is s.wires one.0 parts_alone.0

      linked : (f : ℕ) → f ≡ older → is_replaced f s.wires ≡ false
      linked f same = ap (λ (n : ℕ). is_replaced n s.wires) same
          ∙ ap (λ (b : Bool). not b && has_younger older s.wires) parts_alone.0

starts : (out : List ℕ) (s : Wiring) (older next : ℕ) (t : Wiring) → InOrder out s → Starts older next s t → InOrder out t
starts out s older next t h st = subst (InOrder out) (sym st.begins) (started out s older next h st.next_is st.alone)

pub stay_in_order : StayInOrder
stay_in_order = record {
  begins = begins;
  sends = sends;
  gives = gives;
  hears = hears;
  loses = loses;
  starts = starts;
  asks = λ out s task h. record { read = h.read; before = h.before; counted = h.counted; sent = h.sent; letters = h.letters };
  prints = λ out s h. record {
    read = h.read;
    before = h.before;
    counted = h.counted;
    sent = append-nil (out ++ s.lines) ∙ h.sent;
    letters = h.letters;
  };
  tells = λ out s h. record { read = h.read; before = h.before; counted = h.counted; sent = h.sent; letters = h.letters };
}
