-- What one node took from another begins what that put on its line to it.
use Rattle.std.proofs.Common.{ℕ, zero, suc, Bool, true, false, ◌==◌, ◌≡◌, ◌+◌, ◌-◌, Option, Some, None, List, [], ◌∷◌, ◌++◌, map, refl, sym, ap, ◌∙◌, arith}
use Rattle.std.specs.Prelude.{if◌then◌else◌}
use Rattle.std.specs.List.{slice_get}
use Rattle.std.specs.Option.{option_map}
use Rattle.std.proofs.lemmas.Bool.{eq-eqb, eqb-true, eqb-false, ne_eqb, or_parts}
use Rattle.std.proofs.lemmas.Grind.{flat_map-append}
use Rattle.std.proofs.lemmas.List.{map-append}
use Rattle.std.proofs.lemmas.Option.{slice_get-map, same_Some}
use Rattle.term.specs.NodeSets.{set_of}
use Rattle.link.specs.Rule.{Begins, of}
use Rattle.node_loop.specs.Alone.{Stamped as StampedLetter}
use Rattle.node_loop.specs.Openings.{repeats}
use Rattle.node_loop.specs.declared.item.Item.{Item}
use Rattle.node_loop.specs.declared.item.Item.TheVariants.{Letter, Task}
use Rattle.node_loop.specs.Dealings.{letter_in, letters_in}
use Rattle.node_seats.specs.declared.parcel.Parcel.{Parcel}
use Rattle.node_seats.specs.Lines.{Sent}
use Rattle.replay.proofs.Merging.{alone}
use Rattle.node_threads.specs.Givers.{receivers, node_under, letter_by, letters_of}
use Rattle.node_threads.specs.Dealings.{put_on, sent_to, taken_from}

-- what a map has at a place
pub mapped_at : {X Y : Type 0} (f : X → Y) (xs : List X) (k : ℕ) (x : X) → slice_get xs k ≡ Some x → slice_get (map f xs) k ≡ Some (f x)
mapped_at f xs k x here = slice_get-map f xs k ∙ ap (option_map f) here

-- and what that is made of
pub made_of : {X Y : Type 0} (f : X → Y) (xs : List X) (k : ℕ) (y : Y) → slice_get (map f xs) k ≡ Some y
    → (x : X) × (slice_get xs k ≡ Some x) × (f x ≡ y)
made_of f [] k y here = cc
made_of f (x ∷ xs) zero y here = (x, refl, same_Some (f x) y here)
made_of f (x ∷ xs) (suc k) y here = made_of f xs k y here

-- the items of parcels
abbrev items : List (Parcel Item) → List Item
items ps = map (λ p. p.item) ps

-- the parcels that came under a number
abbrev under : ℕ → List (Parcel Item) → List (Parcel Item)
under n ps = of (λ p. p.number) n ps

-- node f has one place in the row
module _ (row : List ℕ) (once : repeats row ≡ false) (f i : ℕ) (here : slice_get row i ≡ Some f) where
  -- the number above its place is its own
  own_number : (n : ℕ) → n ≡ i + 1 → node_under n row ≡ Some f
  own_number n e = ap (λ (b : Bool). if b then None else slice_get row (n - 1)) (ne_eqb n 0 (λ z. omega arith))
      ∙ (ap (slice_get row) before ∙ here)
    where
      before : n - 1 ≡ i
      before = omega arith

  -- and it has no other
  only_number : (n g : ℕ) → node_under n row ≡ Some g → f ≡ g → n ≡ i + 1
  only_number n g is same = at (n == 0) refl is
    where
      at : (b : Bool) → (n == 0) ≡ b → (if b then None else slice_get row (n - 1)) ≡ Some g → n ≡ i + 1
      at true e found = cc
      at false e found =
          omega (arith, eqb-false n 0 e, alone row (n - 1) i f once (found ∙ ap (λ (c : ℕ). Some c) (sym same)) here)

  -- the letter that an item is was taken from the node, where it came under the node's number; a task has none
  item_taken : (n : ℕ) (x : Item) → letters_in (taken_from f (letter_by x (node_under n row))) ≡ (if n == i + 1 then letter_in x else [])
  item_taken n (Task k) = none (n == i + 1)
    where
      none : (c : Bool) → letters_in [] ≡ (if c then letter_in (Task k) else [])
      none true = refl
      none false = refl
  item_taken n (Letter l) = letter (n == i + 1) refl
    where
      other : (g : Option ℕ) → node_under n row ≡ g → (n ≡ i + 1 → ⊥) → letters_in (taken_from f (letter_by (Letter l) g)) ≡ []
      other None is ne = refl
      other (Some g) is ne = ap (λ (b : Bool). letters_in ((if b then Letter l ∷ [] else []) ++ []))
          (ne_eqb f g (λ same. ne (only_number n g is same)))

      letter : (c : Bool) → (n == i + 1) ≡ c
          → letters_in (taken_from f (letter_by (Letter l) (node_under n row))) ≡ (if c then letter_in (Letter l) else [])
      letter true e = ap (λ (g : Option ℕ). letters_in (taken_from f (letter_by (Letter l) g))) (own_number n (eqb-true n (i + 1) e))
          ∙ ap (λ (b : Bool). letters_in ((if b then Letter l ∷ [] else []) ++ [])) (eq-eqb f f refl)
      letter false e = other (node_under n row) refl (eqb-false n (i + 1) e)

  -- so the letters that were taken from the node are those of the parcels under its number
  letters_taken : (ps : List (Parcel Item)) → letters_in (taken_from f (letters_of row ps)) ≡ letters_in (items (under (i + 1) ps))
  letters_taken [] = refl
  letters_taken (p ∷ ps) =
      ap letters_in (flat_map-append (λ (x : ℕ × Item). if f == x.0 then x.1 ∷ [] else []) first (letters_of row ps))
      ∙ flat_map-append letter_in (taken_from f first) (taken_from f (letters_of row ps))
      ∙ ap (λ (ls : List StampedLetter). ls ++ letters_in (taken_from f (letters_of row ps))) (item_taken p.number p.item)
      ∙ ap (λ (ls : List StampedLetter). (if p.number == i + 1 then letter_in p.item else []) ++ ls) (letters_taken ps)
      ∙ chosen (p.number == i + 1)
    where
      first : List (ℕ × Item)
      first = letter_by p.item (node_under p.number row)

      chosen : (b : Bool) → (if b then letter_in p.item else []) ++ letters_in (items (under (i + 1) ps))
          ≡ letters_in (items (if b then p ∷ under (i + 1) ps else under (i + 1) ps))
      chosen true = refl
      chosen false = refl

-- what lines carry to a node is what was put on its own, where no two lead to one node
sent_at : (t : ℕ) (lines : List (Sent Item)) (j : ℕ) (line : Sent Item) → repeats (receivers lines) ≡ false
    → slice_get lines j ≡ Some line → line.receiver ≡ t → sent_to t lines ≡ put_on line
sent_at t [] j line once here to = cc
sent_at t (l ∷ ls) zero line once here to =
    ap (λ (b : Bool). if b then put_on l else sent_to t ls) (eq-eqb l.receiver t (ap (λ (k : Sent Item). k.receiver) is ∙ to))
    ∙ ap put_on is
  where
    is : l ≡ line
    is = same_Some l line here
sent_at t (l ∷ ls) (suc j) line once here to =
    ap (λ (b : Bool). if b then put_on l else sent_to t ls) (ne_eqb l.receiver t apart)
    ∙ sent_at t ls j line (or_parts (set_of (receivers ls) l.receiver) (repeats (receivers ls)) once).1 here to
  where
    later : slice_get (receivers ls) j ≡ Some t
    later = mapped_at (λ (k : Sent Item). k.receiver) ls j line here ∙ ap (λ (c : ℕ). Some c) to

    apart : l.receiver ≡ t → ⊥
    apart e = omega (arith, alone (receivers (l ∷ ls)) 0 (suc j) t once (ap (λ (c : ℕ). Some c) e) later)

-- Nodes f and t have their places in the row, and each has lines to all of it. Where t took under the number of f's line to it a beginning
-- of what was put there, its letters from f begin those that f put for it
module _ (row : List ℕ) (once : repeats row ≡ false) (f t i j : ℕ) (f_here : slice_get row i ≡ Some f) (t_here : slice_get row j ≡ Some t) (lines own : List (Sent Item)) (leads : receivers lines ≡ row) (others : receivers own ≡ row) (line : Sent Item) (here : slice_get lines j ≡ Some line) (number : line.number ≡ i + 1) (ps : List (Parcel Item)) where
  sent : sent_to t lines ≡ put_on line
  sent = sent_at t lines j line (ap repeats leads ∙ once) here (same_Some line.receiver t to)
    where
      to : Some line.receiver ≡ Some t
      to = sym (mapped_at (λ (l : Sent Item). l.receiver) lines j line here)
          ∙ (ap (λ (ns : List ℕ). slice_get ns j) leads ∙ t_here)

  taken : letters_in (taken_from f (letters_of (receivers own) ps)) ≡ letters_in (items (under line.number ps))
  taken = ap (λ (ns : List ℕ). letters_in (taken_from f (letters_of ns ps))) others
      ∙ letters_taken row once f i f_here ps
      ∙ ap (λ (n : ℕ). letters_in (items (under n ps))) (sym number)

  pub begins : Begins (under line.number ps) line.parcels
      → Begins (letters_in (taken_from f (letters_of (receivers own) ps))) (letters_in (sent_to t lines))
  begins b = (
    letters_in (items b.0),
    ap letters_in sent
        ∙ ap (λ (qs : List (Parcel Item)). letters_in (items qs)) b.1
        ∙ ap letters_in (map-append (λ (p : Parcel Item). p.item) (under line.number ps) b.0)
        ∙ flat_map-append letter_in (items (under line.number ps)) (items b.0)
        ∙ ap (λ (ls : List StampedLetter). ls ++ letters_in (items b.0)) (sym taken),
  )
