-- An end of lines that leads among the nodes of a world does so still where it hears, where a node is gone, and where the next one of a name starts.
use Rattle.std.proofs.Common.{ℕ, zero, suc, Bool, true, false, ◌≡◌, ◌==◌, ◌<◌, inl, inr, Option, Some, None, Result, Ok, Err, List, [], ◌∷◌, ◌++◌, map, length, set, filter, refl, sym, ap, subst, ◌∙◌, cond, arith}
use Rattle.std.specs.Prelude.{◌+◌, if◌then◌else◌, not, ◌&&◌, ◌||◌, is_some}
use Rattle.std.specs.List.{list_all}
use Rattle.std.proofs.lemmas.Bool.{and_from, and_parts, eq-eqb, eqb-true, ne_eqb, not-true, or_left, or_right}
use Rattle.std.proofs.lemmas.List.Folds.{list_all-append}
use Rattle.letter_lines.specs.declared.Letter.{Letter as ALetter}
use Rattle.letter_lines.specs.Gathered.{Takes}
use Rattle.node_loop.specs.declared.item.Stamped.{Stamped}
use Rattle.term.specs.Nodes.{name_of}
use Rattle.term.specs.NodeSets.{set_of, with_older, succeeded}
use Rattle.term.proofs.Older.{held, succeeded_is, succeeded_keeps}
use Rattle.wire_end.specs.declared.faults.HearFault.{HearFault}
use Rattle.wire_end.specs.declared.line.LinkLine.{LinkLine}
use Rattle.wire_end.specs.declared.wire.Wire.{Wire}
use Rattle.wire_end.specs.declared.wire_end.Wiring.{Wiring}
use Rattle.wire_end.specs.Dealings.{leads_among, StayAmong}
use Rattle.wire_end.specs.Hearing.{Hears, HearsAt, RefusesAt, Loses, LosesAt, IsHeard, laid, laid_if, read_at, closed, gone, lost_where}
use Rattle.wire_end.specs.Saying.{present, is_said}
use Rattle.wire_end.specs.Starting.{Starts, opened_anew, with_started}
use Rattle.wire_end.specs.Wirings.{place, wire_at, new_wire, begun}
use Rattle.wire_end.proofs.Among.{Leads, leads, leading, here, same_nodes, all_heard}
use Rattle.wire_end.proofs.Dealing.{led_at}
use Rattle.wire_end.proofs.Own.{apart-new}
use Rattle.wire_end.proofs.Places.{at-place, alone_stays}
use Rattle.wire_end.proofs.Said.{fits_said, said_among, said_more}

-- what holds of all links holds of the one at a place
at_each : (p : ℕ → Bool) (wires : List Wire) (k : ℕ) → list_all (λ v. p v.node) wires ≡ true → k < length wires → p (wire_at k wires).node ≡ true
at_each p [] k e inside = let no : ⊥ = omega (arith, inside) in absurd no
at_each p (v ∷ vs) zero e inside = (and_parts (p v.node) (list_all (λ w. p w.node) vs) e).0
at_each p (v ∷ vs) (suc k) e inside = at_each p vs k (and_parts (p v.node) (list_all (λ w. p w.node) vs) e).1 (omega (arith, inside))

-- and where one test says so wherever another does, of all of which that does
all_more : {X : Type 0} (p q : X → Bool) (xs : List X) → ((x : X) → p x ≡ true → q x ≡ true) → list_all p xs ≡ true → list_all q xs ≡ true
all_more {X} p q [] more e = refl
all_more {X} p q (x ∷ xs) more e =
    let parts = and_parts (p x) (list_all p xs) e in
    and_from (q x) (list_all q xs) (more x parts.0) (all_more p q xs more parts.1)

module _ (world : List ℕ) (name : ℕ) where
  -- of each link the other node is of the world, and isn't the end's own
  linked : (s : Wiring) (n k : ℕ) → place n s.wires ≡ Some k → Leads world name s → (set_of world n ≡ true) × ((n == s.node) ≡ false)
  linked s n k e L =
      let at = at-place n k s.wires e in
      let all = and_parts (set_of world s.node) (list_all (set_of world) (map (λ (w : Wire). w.node) s.wires)) L.there in (
        subst (λ (m : ℕ). set_of world m ≡ true) at.1
            (at_each (set_of world) s.wires k (sym (same_nodes world name (set_of world) s.wires) ∙ all.1) at.0),
        not-true (n == s.node)
            (subst (λ (m : ℕ). not (m == s.node) ≡ true) at.1 (at_each (λ m. not (m == s.node)) s.wires k L.others at.0)),
      )

  -- with another link to the same node at a place it leads there still
  relinked : (s : Wiring) (k : ℕ) (w : Wire) (read : List (ℕ × LinkLine)) → w.node ≡ (wire_at k s.wires).node → Leads world name s
      → Leads world name (record s { wires = set s.wires k w; read = read })
  relinked s k w read same L = record {
    node = L.node;
    there = ap (λ (b : Bool). set_of world s.node && b)
        (same_nodes world name (set_of world) (set s.wires k w)
        ∙ (led_at (set_of world) s.wires k w same ∙ sym (same_nodes world name (set_of world) s.wires)))
        ∙ L.there;
    others = led_at (λ m. not (m == s.node)) s.wires k w same ∙ L.others;
    heard = L.heard;
    own = L.own;
  }

  -- and with a letter more of a node that has started, which that may say
  laid_more : (s : Wiring) (from : ℕ) (l : Stamped) → with_older world from ≡ true → is_said world s.node from l.letter ≡ true
      → Leads world name s → Leads world name (laid from l s)
  laid_more s from l started said L = record {
    node = L.node;
    there = L.there;
    others = L.others;
    heard = list_all-append (λ (x : ℕ × Stamped). with_older world x.0 && is_said world s.node x.0 x.1.letter) s.heard ((from, l) ∷ [])
        ∙ and_from (all_heard world name s.node s.heard) (all_heard world name s.node ((from, l) ∷ [])) L.heard
        (and_from (with_older world from && is_said world s.node from l.letter) true
        (and_from (with_older world from) (is_said world s.node from l.letter) started said) refl);
    own = L.own;
  }

  -- so it does where a line is heard
  heard_leads : (s : Wiring) (from : ℕ) (line : LinkLine) (k : ℕ) (t : Wiring) → place from s.wires ≡ Some k → IsHeard from line k s t
      → Leads world name s → Leads world name t
  heard_leads s from line k t e h L = subst (Leads world name) (sym h.rest) (by h.letter refl)
    where
      read : Leads world name (read_at k h.wire from line s)
      read = relinked s k h.wire (s.read ++ (from, line) ∷ []) (ap (λ (w : Wire). w.node) h.hears.2) L

      at : (set_of world from ≡ true) × ((from == s.node) ≡ false)
      at = linked s from k e L

      by : (letter : Option ALetter) → h.letter ≡ letter → Leads world name (laid_if from line.stamp letter (read_at k h.wire from line s))
      by None is = read
      by (Some l) is =
          laid_more (read_at k h.wire from line s) from (record { stamp = line.stamp; letter = l }) (held world from at.0)
          (said_among (present s) world L.there s.node from l
          (fits_said (present s) s.node from line.part (wire_at k s.wires).parts h.wire.parts l at.1 h.fits
          (subst (λ (o : Option ALetter). Takes line.part (wire_at k s.wires).parts h.wire.parts (Ok o)) is h.hears.1)))
          read

  pub led_heard : (s : Wiring) (from : ℕ) (line : LinkLine) (r : Result (Unit {0}) HearFault) (t : Wiring) → Hears from line r s t
      → leads_among world name s ≡ true → leads_among world name t ≡ true
  led_heard s from line (Ok u) t H h = go (place from s.wires) refl H
    where
      go : (at : Option ℕ) → place from s.wires ≡ at → HearsAt at from line s t → leads_among world name t ≡ true
      go None e st = absurd st
      go (Some k) e st = leading world name t (heard_leads s from line k t e st (leads world name s h))
  led_heard s from line (Err fault) t H h = go (place from s.wires) refl H
    where
      same : t ≡ s → leads_among world name t ≡ true
      same is = ap (leads_among world name) is ∙ h

      go : (at : Option ℕ) → place from s.wires ≡ at → RefusesAt at from line fault s t → leads_among world name t ≡ true
      go None e st = same st.1
      go (Some k) e (inl st) = same st.1
      go (Some k) e (inr (inl st)) =
          leading world name t (subst (Leads world name) (sym st.1.rest)
          (relinked s k st.1.wire (s.read ++ (from, line) ∷ []) (ap (λ (w : Wire). w.node) st.1.hears.2) (leads world name s h)))
      go (Some k) e (inr (inr st)) = same st.2

  -- where a node is gone without a word
  pub led_lost : (s : Wiring) (n : ℕ) (r : Result (Unit {0}) HearFault) (t : Wiring) → Loses n r s t
      → leads_among world name s ≡ true → leads_among world name t ≡ true
  led_lost s n r t H h = go (place n s.wires) refl r H
    where
      lost : (k : ℕ) → place n s.wires ≡ Some k → (down : Bool) → leads_among world name (lost_where down n k s) ≡ true
      lost k e true = h
      lost k e false =
          let L = leads world name s h in
          let at = linked s n k e L in
          leading world name (lost_where false n k s)
          (laid_more (record s { wires = set s.wires k (closed (wire_at k s.wires)) }) n gone (held world n at.0) (ap not at.1)
          (relinked s k (closed (wire_at k s.wires)) s.read refl L))

      go : (at : Option ℕ) → place n s.wires ≡ at → (r : Result (Unit {0}) HearFault) → LosesAt at n r s t → leads_among world name t ≡ true
      go None e r st = ap (leads_among world name) st.1 ∙ h
      go (Some k) e (Ok u) st = ap (leads_among world name) st ∙ lost k e (wire_at k s.wires).is_down
      go (Some k) e (Err fault) st = ap (leads_among world name) st.2 ∙ h

  -- where the next node of a name takes the place of the one before it, the end leads among those that are at present then
  pub led_started : (older next : ℕ) (s t : Wiring) → Starts older next s t → leads_among world name s ≡ true
      → leads_among (succeeded older next world) name t ≡ true
  led_started older next s t st h = ap (leads_among now name) st.begins ∙ leading now name (with_started older next s) (record {
    node = L.node;
    there = and_from (set_of now s.node) (list_all (set_of now) (map (λ (w : Wire). w.node) (map (opened_anew older next) s.wires)))
        (stays s.node (here world name s L) (λ same. apart (ap name_of same))) (all_there s.wires others_there);
    others = alone_stays older next st.next_is s.node apart s.wires L.others;
    heard = all_more (λ (x : ℕ × Stamped). with_older world x.0 && is_said world s.node x.0 x.1.letter)
        (λ x. with_older now x.0 && is_said now s.node x.0 x.1.letter) s.heard
        (λ x e.
        let parts = and_parts (with_older world x.0) (is_said world s.node x.0 x.1.letter) e in
        and_from (with_older now x.0) (is_said now s.node x.0 x.1.letter) (more x.0 parts.0)
        (said_more world now more s.node x.0 x.1.letter parts.1)) L.heard;
    own = all_more (λ (l : Stamped). is_said world s.node s.node l.letter) (λ l. is_said now s.node s.node l.letter) s.own
        (λ l e. said_more world now more s.node s.node l.letter e) L.own;
  })
    where
      now : List ℕ
      now = succeeded older next world

      L : Leads world name s
      L = leads world name s h

      alone : (list_all (λ w. not (name_of w.node == name_of older) || (w.node == older)) s.wires ≡ true)
          × (not (name_of s.node == name_of older) ≡ true)
      alone = and_parts (list_all (λ w. not (name_of w.node == name_of older) || (w.node == older)) s.wires)
          (not (name_of s.node == name_of older))
          (and_parts (is_some (place older s.wires))
          (list_all (λ w. not (name_of w.node == name_of older) || (w.node == older)) s.wires && not (name_of s.node == name_of older)) st.alone).1

      apart : name_of s.node ≡ name_of older → ⊥
      apart same = cc (not-true (name_of s.node == name_of older) alone.1, eq-eqb (name_of s.node) (name_of older) same)

      more : (c : ℕ) → with_older world c ≡ true → with_older now c ≡ true
      more c e =
          let is : next ≡ older + 1 = st.next_is.is in
          succeeded_keeps world older next c st.next_is.named (omega (arith, is)) e

      -- who isn't the one before is there still, and where that was there the next one is
      stays : (c : ℕ) → set_of world c ≡ true → (c ≡ older → ⊥) → set_of now c ≡ true
      stays c e other = succeeded_is world older next c
          ∙ or_left (set_of world c && not (c == older)) (set_of world older && (next == c))
          (and_from (set_of world c) (not (c == older)) e (ap not (ne_eqb c older other)))

      comes : set_of world older ≡ true → set_of now next ≡ true
      comes e = succeeded_is world older next next
          ∙ or_right (set_of world next && not (next == older)) (set_of world older && (next == next))
          (and_from (set_of world older) (next == next) e (eq-eqb next next refl))

      others_there : list_all (set_of world) (map (λ (w : Wire). w.node) s.wires) ≡ true
      others_there = (and_parts (set_of world s.node) (list_all (set_of world) (map (λ (w : Wire). w.node) s.wires)) L.there).1

      one_there : (w : Wire) → set_of world w.node ≡ true → set_of now (opened_anew older next w).node ≡ true
      one_there w e = go (w.node == older) refl
        where
          go : (b : Bool) → (w.node == older) ≡ b → set_of now (if b then new_wire next else w).node ≡ true
          go true is = comes (ap (set_of world) (sym (eqb-true w.node older is)) ∙ e)
          go false is = stays w.node e (λ same. cc (is, eq-eqb w.node older same))

      all_there : (ws : List Wire) → list_all (set_of world) (map (λ (w : Wire). w.node) ws) ≡ true
          → list_all (set_of now) (map (λ (w : Wire). w.node) (map (opened_anew older next) ws)) ≡ true
      all_there [] e = refl
      all_there (w ∷ ws) e =
          let parts = and_parts (set_of world w.node) (list_all (set_of world) (map (λ (v : Wire). v.node) ws)) e in
          and_from (set_of now (opened_anew older next w).node)
          (list_all (set_of now) (map (λ (v : Wire). v.node) (map (opened_anew older next) ws))) (one_there w parts.0) (all_there ws parts.1)

-- an end of a node of a world begins so
pub led_begun : (world : List ℕ) (node : ℕ) → set_of world node ≡ true → leads_among world node (begun node world) ≡ true
led_begun world node here = leading world node (begun node world) (record {
  node = refl;
  there = and_from (set_of world node) (list_all (set_of world) (map (λ (w : Wire). w.node) (map new_wire (filter (λ n. not (n == node)) world))))
      here (all_there world (λ c e. e));
  others = apart-new node world;
  heard = refl;
  own = refl;
})
  where
    all_there : (ns : List ℕ) → ((c : ℕ) → set_of ns c ≡ true → set_of world c ≡ true)
        → list_all (set_of world) (map (λ (w : Wire). w.node) (map new_wire (filter (λ n. not (n == node)) ns))) ≡ true
    all_there [] of = refl
    all_there (n ∷ ns) of =
        go (not (n == node)) (all_there ns (λ c e. of c (or_right (n == c) (set_of ns c) e)))
      where
        go : (b : Bool) → list_all (set_of world) (map (λ (w : Wire). w.node) (map new_wire (filter (λ m. not (m == node)) ns))) ≡ true
            → list_all (set_of world)
            (map (λ (w : Wire). w.node) (map new_wire (cond b (n ∷ filter (λ m. not (m == node)) ns) (filter (λ m. not (m == node)) ns))))
            ≡ true
        go true rest = and_from (set_of world n)
            (list_all (set_of world) (map (λ (w : Wire). w.node) (map new_wire (filter (λ m. not (m == node)) ns))))
            (of n (or_left (n == n) (set_of ns n) (eq-eqb n n refl))) rest
        go false rest = rest

pub stay_among : StayAmong
stay_among = record { begins = led_begun; hears = led_heard; loses = led_lost; starts = led_started }
