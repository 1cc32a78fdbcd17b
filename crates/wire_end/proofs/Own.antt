-- An end's letters to its own node stay with it.
use Rattle.std.proofs.Common.{ℕ, Bool, true, false, zero, suc, ◌≡◌, ◌==◌, ◌<◌, inl, inr, Option, Some, None, Ok, List, [], ◌∷◌, ◌++◌, map, length, get_or, set, refl, sym, ap, subst, ◌∙◌, cond, append_assoc, arith}
use Rattle.std.specs.Prelude.{if◌then◌else◌, is_some, not, filter, ◌&&◌, ◌||◌}
use Rattle.std.specs.List.{list_all}
use Rattle.std.proofs.lemmas.Bool.{and_from, and_parts, not-true, eq-eqb}
use Rattle.letter_lines.specs.declared.Letter.{Letter as ALetter}
use Rattle.letter_lines.specs.Parts.{parts_of}
use Rattle.node_loop.specs.declared.item.Item.{Item}
use Rattle.node_loop.specs.declared.item.Item.TheVariants.{Letter, Task}
use Rattle.node_loop.specs.declared.item.Stamped.{Stamped}
use Rattle.wire_end.specs.declared.line.LinkLine.{LinkLine}
use Rattle.wire_end.specs.declared.wire.Wire.{Wire}
use Rattle.wire_end.specs.declared.wire_end.Wiring.{Wiring}
use Rattle.wire_end.specs.Dealings.{of_node}
use Rattle.wire_end.specs.Hearing.{HearsAt, LosesAt, laid_if, read_at, lost_where, closed, gone}
use Rattle.wire_end.specs.Links.{HearsPart}
use Rattle.wire_end.specs.Order.{KeepsOwn, KeepTheirOwn}
use Rattle.term.specs.Nodes.{name_of}
use Rattle.wire_end.specs.Starting.{Starts}
use Rattle.wire_end.specs.Wirings.{place, wire_at, new_wire, kept, printed, Posts, Takes}
use Rattle.wire_end.proofs.Dealing.{led_at, led}
use Rattle.wire_end.proofs.Ordering.{more-same, more-other, first-same, first-other}
use Rattle.wire_end.proofs.Places.{at-place, alone_stays}

-- none of the links that an end begins with leads to its node
pub apart-new : (node : ℕ) (world : List ℕ) → list_all (λ w. not (w.node == node)) (map new_wire (filter (λ n. not (n == node)) world)) ≡ true
apart-new node [] = refl
apart-new node (n ∷ world) = go (n == node) refl (apart-new node world)
  where
    go : (b : Bool) → (n == node) ≡ b → list_all (λ w. not (w.node == node)) (map new_wire (filter (λ n. not (n == node)) world)) ≡ true
        → list_all (λ w. not (w.node == node))
        (map new_wire (cond (not b) (n ∷ filter (λ n. not (n == node)) world) (filter (λ n. not (n == node)) world)))
        ≡ true
    go true e rest = rest
    go false e rest =
        and_from (not (n == node)) (list_all (λ w. not (w.node == node)) (map new_wire (filter (λ n. not (n == node)) world))) (ap not e) rest

-- where none leads to the node, the one at a place doesn't
apart-at : (node : ℕ) (wires : List Wire) (k : ℕ) → k < length wires → list_all (λ w. not (w.node == node)) wires ≡ true
    → (get_or wires k (new_wire 0)).node ≡ node → ⊥
apart-at node [] k inside e same = omega (arith, inside)
apart-at node (w ∷ ws) zero inside e same =
    let parts = and_parts (not (w.node == node)) (list_all (λ w. not (w.node == node)) ws) e in
    cc (not-true (w.node == node) parts.0, eq-eqb w.node node same)
apart-at node (w ∷ ws) (suc k) inside e same =
    apart-at node ws k (omega (arith, inside)) (and_parts (not (w.node == node)) (list_all (λ w. not (w.node == node)) ws) e).1 same

-- so no link at a place is with the node itself
module _ (s : Wiring) (n k : ℕ) (h : KeepsOwn s) (e : place n s.wires ≡ Some k) where
  not_own : s.node ≡ n → ⊥
  not_own same = let at = at-place n k s.wires e in apart-at s.node s.wires k at.0 h.wires (at.1 ∙ sym same)

  stay_apart : (w : Wire) → w.node ≡ (wire_at k s.wires).node → list_all (λ v. not (v.node == s.node)) (set s.wires k w) ≡ true
  stay_apart w same = led_at (λ m. not (m == s.node)) s.wires k w same ∙ h.wires

-- a letter to itself
keeps : (s : Wiring) (l : Stamped) → KeepsOwn s → KeepsOwn (kept l s)
keeps s l h = record {
  sent = sym (append_assoc (of_node s.node s.taken) s.own (l ∷ []))
      ∙ (ap (λ (xs : List Stamped). xs ++ l ∷ []) h.sent ∙ sym (more-same s.node l s.sent));
  heard = h.heard;
  wires = h.wires;
}

-- one to another
prints : (s : Wiring) (to : ℕ) (l : Stamped) → (s.node ≡ to → ⊥) → KeepsOwn s → KeepsOwn (printed to l s)
prints s to l other h = record {
  sent = h.sent ∙ sym (more-other to s.node l s.sent other);
  heard = h.heard;
  wires = led (λ n. not (n == s.node)) (place to s.wires) (length (parts_of l.letter)) s.wires ∙ h.wires;
}

sends : (out : List ℕ) (s : Wiring) (to : ℕ) (i : Item) (t : Wiring) → KeepsOwn s → Posts s to i t → KeepsOwn t
sends out s to (Letter l) t h step = subst KeepsOwn (sym step.1) (go (to == s.node) refl)
  where
    go : (b : Bool) → (to == s.node) ≡ b → KeepsOwn (if b then kept l s else printed to l s)
    go true e = keeps s l h
    go false e = prints s to l (λ same. cc (e, eq-eqb to s.node (sym same))) h
sends out s to (Task k) t h step = absurd step

-- the node takes a letter of its own
takes_own : (s : Wiring) (from : ℕ) (l : Stamped) (own : List Stamped) → from ≡ s.node → s.own ≡ l ∷ own → KeepsOwn s
    → KeepsOwn (record s { own = own; taken = s.taken ++ (from, l) ∷ [] })
takes_own s from l own same oldest h = record {
  sent = ap (λ (xs : List Stamped). xs ++ own)
      (ap (λ (f : ℕ). of_node s.node (s.taken ++ (f, l) ∷ [])) same ∙ more-same s.node l s.taken)
      ∙ (append_assoc (of_node s.node s.taken) (l ∷ []) own
      ∙ (ap (λ (xs : List Stamped). of_node s.node s.taken ++ xs) (sym oldest) ∙ h.sent));
  heard = h.heard;
  wires = h.wires;
}

-- where no letter of the node itself came over a link, the first isn't one
first_apart : (node from : ℕ) (l : Stamped) (rest : List (ℕ × Stamped)) → of_node node ((from, l) ∷ rest) ≡ [] → node ≡ from → ⊥
first_apart node from l rest none same =
    let empty : l ∷ of_node from rest ≡ [] =
    sym (first-same from l rest) ∙ (ap (λ (n : ℕ). of_node n ((from, l) ∷ rest)) (sym same) ∙ none) in
    cc empty

-- it takes one of another
takes_others : (s : Wiring) (from : ℕ) (l : Stamped) (rest : List (ℕ × Stamped)) → s.heard ≡ (from, l) ∷ rest → KeepsOwn s
    → KeepsOwn (record s { heard = rest; taken = s.taken ++ (from, l) ∷ [] })
takes_others s from l rest oldest h =
    let none : of_node s.node ((from, l) ∷ rest) ≡ [] = ap (λ (xs : List (ℕ × Stamped)). of_node s.node xs) (sym oldest) ∙ h.heard in
    let other : (s.node ≡ from → ⊥) = first_apart s.node from l rest none in
    record {
      sent = ap (λ (xs : List Stamped). xs ++ s.own) (more-other from s.node l s.taken other) ∙ h.sent;
      heard = sym (first-other from s.node l rest other) ∙ none;
      wires = h.wires;
    }

gives : (out : List ℕ) (s : Wiring) (from : ℕ) (i : Item) (t : Wiring) → KeepsOwn s → Takes s from i t → KeepsOwn t
gives out s from (Letter l) t h (inl st) = subst KeepsOwn (sym st.rest) (takes_own s from l t.own st.own st.oldest h)
gives out s from (Letter l) t h (inr st) = subst KeepsOwn (sym st.rest) (takes_others s from l t.heard st.oldest h)
gives out s from (Task k) t h st = subst KeepsOwn (sym st.rest) (record { sent = h.sent; heard = h.heard; wires = h.wires })

-- a line is heard
heard : (s : Wiring) (from : ℕ) (line : LinkLine) (k : ℕ) (w : Wire) (letter : Option ALetter) → place from s.wires ≡ Some k
    → HearsPart line.number line.part (wire_at k s.wires) w (Ok letter) → KeepsOwn s
    → (l : Option ALetter) → KeepsOwn (laid_if from line.stamp l (read_at k w from line s))
heard s from line k w letter e hears h None = record {
  sent = h.sent;
  heard = h.heard;
  wires = stay_apart s from k h e w (ap (λ (x : Wire). x.node) hears.2);
}
heard s from line k w letter e hears h (Some l) = record {
  sent = h.sent;
  heard = more-other from s.node (record { stamp = line.stamp; letter = l }) s.heard (not_own s from k h e) ∙ h.heard;
  wires = stay_apart s from k h e w (ap (λ (x : Wire). x.node) hears.2);
}

hears : (out : List ℕ) (s : Wiring) (from : ℕ) (line : LinkLine) (t : Wiring) → KeepsOwn s → HearsAt (place from s.wires) from line s t
    → KeepsOwn t
hears out s from line t h step = go (place from s.wires) refl step
  where
    go : (at : Option ℕ) → place from s.wires ≡ at → HearsAt at from line s t → KeepsOwn t
    go None e st = absurd st
    go (Some k) e st = subst KeepsOwn (sym st.rest) (heard s from line k st.wire st.letter e st.hears h st.letter)

-- a node is gone without a word
lost : (s : Wiring) (n k : ℕ) → place n s.wires ≡ Some k → KeepsOwn s → (down : Bool) → KeepsOwn (lost_where down n k s)
lost s n k e h true = h
lost s n k e h false = record {
  sent = h.sent;
  heard = more-other n s.node gone s.heard (not_own s n k h e) ∙ h.heard;
  wires = stay_apart s n k h e (closed (wire_at k s.wires)) refl;
}

loses : (out : List ℕ) (s : Wiring) (n : ℕ) (t : Wiring) → KeepsOwn s → LosesAt (place n s.wires) n (Ok tt) s t → KeepsOwn t
loses out s n t h step = go (place n s.wires) refl step
  where
    go : (at : Option ℕ) → place n s.wires ≡ at → LosesAt at n (Ok tt) s t → KeepsOwn t
    go None e st = absurd (cc (st.0))
    go (Some k) e st = subst KeepsOwn (sym st) (lost s n k e h (wire_at k s.wires).is_down)

-- another node starts
starts : (out : List ℕ) (s : Wiring) (older next : ℕ) (t : Wiring) → KeepsOwn s → Starts older next s t → KeepsOwn t
starts out s older next t h st =
    let others = and_parts (is_some (place older s.wires))
    (list_all (λ w. not (name_of w.node == name_of older) || (w.node == older)) s.wires && not (name_of s.node == name_of older)) st.alone in
    let apart = and_parts (list_all (λ w. not (name_of w.node == name_of older) || (w.node == older)) s.wires)
    (not (name_of s.node == name_of older)) others.1 in
    subst KeepsOwn (sym st.begins) (record {
      sent = h.sent;
      heard = h.heard;
      wires = alone_stays older next st.next_is s.node
          (λ (same : name_of s.node ≡ name_of older).
          cc (not-true (name_of s.node == name_of older) apart.1, eq-eqb (name_of s.node) (name_of older) same))
          s.wires h.wires;
    })

pub keep_their_own : KeepTheirOwn
keep_their_own = record {
  begins = λ node world. record { sent = refl; heard = refl; wires = apart-new node world };
  sends = sends;
  gives = gives;
  hears = hears;
  loses = loses;
  starts = starts;
  asks = λ out s task h. record { sent = h.sent; heard = h.heard; wires = h.wires };
  prints = λ out s h. record { sent = h.sent; heard = h.heard; wires = h.wires };
  tells = λ out s h. record { sent = h.sent; heard = h.heard; wires = h.wires };
}
