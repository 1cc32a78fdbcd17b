-- An end of lines that leads among the nodes of a world deals in what these may say.
use Rattle.std.proofs.Common.{ℕ, Bool, true, false, ◌≡◌, ◌==◌, inl, inr, List, [], ◌∷◌, ◌++◌, map, length, refl, sym, ap, subst, ◌∙◌}
use Rattle.std.specs.Prelude.{if◌then◌else◌, not, ◌&&◌, is_some}
use Rattle.std.specs.List.{list_all}
use Rattle.std.proofs.lemmas.Bool.{and_from, and_parts, eqb-true, eq-eqb}
use Rattle.std.proofs.lemmas.List.Folds.{list_all-append}
use Rattle.letter_lines.specs.Parts.{parts_of}
use Rattle.term.specs.NodeSets.{set_of, with_older}
use Rattle.term.proofs.Older.{held}
use Rattle.node_loop.specs.declared.item.Item.{Item}
use Rattle.node_loop.specs.declared.item.Item.TheVariants.{Letter, Task}
use Rattle.node_loop.specs.declared.item.Stamped.{Stamped}
use Rattle.node_loop.specs.Dealings.{with_sent, with_taken}
use Rattle.node_loop.specs.Returning.{IsHeardOf, DealsAmong}
use Rattle.wire_end.specs.declared.wire.Wire.{Wire}
use Rattle.wire_end.specs.declared.wire_end.Wiring.{Wiring}
use Rattle.wire_end.specs.Dealings.{dealt_of, leads_among}
use Rattle.wire_end.specs.Saying.{present, is_said}
use Rattle.wire_end.specs.Wirings.{place, with_lines_at, kept, printed, posted, Posts, Takes}
use Rattle.wire_end.proofs.Dealing.{led, takes_more, sent_dealt}
use Rattle.wire_end.proofs.Said.{said_among, said_by}

-- the parts of leading among
module _ (world : List ℕ) (name : ℕ) where
  abbrev pub all_present : Wiring → Bool
  all_present s = list_all (set_of world) (present s)

  abbrev pub all_others : ℕ → List Wire → Bool
  all_others node wires = list_all (λ w. not (w.node == node)) wires

  abbrev pub all_heard : ℕ → List (ℕ × Stamped) → Bool
  all_heard node heard = list_all (λ x. with_older world x.0 && is_said world node x.0 x.1.letter) heard

  abbrev pub all_own : ℕ → List Stamped → Bool
  all_own node own = list_all (λ l. is_said world node node l.letter) own

  pub record Leads (s : Wiring) : Type 0 where
    pub node : s.node ≡ name
    pub there : all_present s ≡ true
    pub others : all_others s.node s.wires ≡ true
    pub heard : all_heard s.node s.heard ≡ true
    pub own : all_own s.node s.own ≡ true

  pub leads : (s : Wiring) → leads_among world name s ≡ true → Leads s
  leads s h =
      let waiting : Bool = all_heard s.node s.heard && all_own s.node s.own in
      let one = and_parts (s.node == name) (all_present s && (all_others s.node s.wires && waiting)) h in
      let two = and_parts (all_present s) (all_others s.node s.wires && waiting) one.1 in
      let three = and_parts (all_others s.node s.wires) waiting two.1 in
      let four = and_parts (all_heard s.node s.heard) (all_own s.node s.own) three.1 in
      record { node = eqb-true s.node name one.0; there = two.0; others = three.0; heard = four.0; own = four.1 }

  pub leading : (s : Wiring) → Leads s → leads_among world name s ≡ true
  leading s l =
      let waiting : Bool = all_heard s.node s.heard && all_own s.node s.own in
      and_from (s.node == name) (all_present s && (all_others s.node s.wires && waiting)) (eq-eqb s.node name l.node)
      (and_from (all_present s) (all_others s.node s.wires && waiting) l.there
      (and_from (all_others s.node s.wires) waiting l.others
      (and_from (all_heard s.node s.heard) (all_own s.node s.own) l.heard l.own)))

  -- the end's own node is of the world
  pub here : (s : Wiring) → Leads s → set_of world s.node ≡ true
  here s l = (and_parts (set_of world s.node) (list_all (set_of world) (map (λ w. w.node) s.wires)) l.there).0

  -- links of which more lines were written are with whom they were
  pub same_nodes : (p : ℕ → Bool) (wires : List Wire) → list_all p (map (λ (w : Wire). w.node) wires) ≡ list_all (λ (w : Wire). p w.node) wires
  same_nodes p [] = refl
  same_nodes p (w ∷ ws) = ap (λ (b : Bool). p w.node && b) (same_nodes p ws)

  posts_leading : (s : Wiring) (to : ℕ) (l : Stamped) → Leads s
      → (if to == s.node then is_said (present s) s.node s.node l.letter else is_some (place to s.wires)) ≡ true → Leads (posted to l s)
  posts_leading s to l L = go (to == s.node)
    where
      go : (b : Bool) → (if b then is_said (present s) s.node s.node l.letter else is_some (place to s.wires)) ≡ true
          → Leads (if b then kept l s else printed to l s)
      go true said = record {
        node = L.node;
        there = L.there;
        others = L.others;
        heard = L.heard;
        own = list_all-append (λ (x : Stamped). is_said world s.node s.node x.letter) s.own (l ∷ [])
            ∙ and_from (all_own s.node s.own) (all_own s.node (l ∷ [])) L.own
            (and_from (is_said world s.node s.node l.letter) true (said_among (present s) world L.there s.node s.node l.letter said) refl);
      }
      go false some = record {
        node = L.node;
        there = ap (λ (b : Bool). set_of world s.node && b)
            (same_nodes (set_of world) (with_lines_at (place to s.wires) (length (parts_of l.letter)) s.wires)
            ∙ (led (set_of world) (place to s.wires) (length (parts_of l.letter)) s.wires ∙ sym (same_nodes (set_of world) s.wires)))
            ∙ L.there;
        others = led (λ n. not (n == s.node)) (place to s.wires) (length (parts_of l.letter)) s.wires ∙ L.others;
        heard = L.heard;
        own = L.own;
      }

  sends : (s : Wiring) (to : ℕ) (i : Item) (t : Wiring) → leads_among world name s ≡ true → Posts s to i t
      → (leads_among world name t ≡ true) × (dealt_of t ≡ with_sent to i (dealt_of s))
  sends s to (Letter l) t inside h = (
    ap (leads_among world name) h.1 ∙ leading (posted to l s) (posts_leading s to l (leads s inside) h.0),
    sent_dealt s to l t h.1,
  )
  sends s to (Task k) t inside h = absurd h

  gives : (s : Wiring) (from : ℕ) (i : Item) (t : Wiring) → leads_among world name s ≡ true → Takes s from i t
      → (leads_among world name t ≡ true) × (with_older world from ≡ true) × IsHeardOf world name from i
      × (dealt_of t ≡ with_taken from i (dealt_of s))
  gives s from (Letter l) t inside (inl h) =
      let L = leads s inside in
      let own = and_parts (is_said world s.node s.node l.letter) (all_own s.node t.own)
      (ap (all_own s.node) (sym h.oldest) ∙ L.own) in
      let mine : with_older world s.node ≡ true = held world s.node (here s L) in (
        ap (leads_among world name) h.rest
            ∙ leading (record s { own = t.own; taken = s.taken ++ (from, l) ∷ [] })
            (record { node = L.node; there = L.there; others = L.others; heard = L.heard; own = own.1 }),
        ap (with_older world) h.own ∙ mine,
        subst (λ (n : ℕ). IsHeardOf world n from (Letter l)) L.node
            (subst (λ (f : ℕ). IsHeardOf world s.node f (Letter l)) (sym h.own) (said_by world s.node s.node l.letter mine own.0)),
        ap dealt_of h.rest ∙ takes_more s from l,
      )
  gives s from (Letter l) t inside (inr h) =
      let L = leads s inside in
      let heard = and_parts (with_older world from && is_said world s.node from l.letter) (all_heard s.node t.heard)
      (ap (all_heard s.node) (sym h.oldest) ∙ L.heard) in
      let first = and_parts (with_older world from) (is_said world s.node from l.letter) heard.0 in (
        ap (leads_among world name) h.rest
            ∙ leading (record s { heard = t.heard; taken = s.taken ++ (from, l) ∷ [] })
            (record { node = L.node; there = L.there; others = L.others; heard = heard.1; own = L.own }),
        first.0,
        subst (λ (n : ℕ). IsHeardOf world n from (Letter l)) L.node (said_by world s.node from l.letter first.0 first.1),
        ap dealt_of h.rest ∙ takes_more s from l,
      )
  gives s from (Task k) t inside h =
      let L = leads s inside in (
        ap (leads_among world name) h.rest ∙ inside,
        ap (with_older world) h.own ∙ held world s.node (here s L),
        tt,
        ap dealt_of h.rest,
      )

pub deals_among : (world : List ℕ) (name : ℕ) → DealsAmong Posts Takes world name (leads_among world name) dealt_of
deals_among world name = record { sends = sends world name; gives = gives world name }
