-- An end of lines deals as the letters say that it sent and took.
use Rattle.std.proofs.Common.{ℕ, Bool, true, false, zero, suc, ◌≡◌, ◌==◌, inl, inr, Option, Some, None, List, [], ◌∷◌, ◌++◌, map, length, set, refl, sym, ap, ◌∙◌}
use Rattle.std.specs.Prelude.{if◌then◌else◌, ◌&&◌, ◌+◌}
use Rattle.std.specs.List.{list_all}
use Rattle.std.proofs.lemmas.Bool.{and_from, and_parts, eqb-true}
use Rattle.std.proofs.lemmas.List.{map-append}
use Rattle.std.proofs.Math.Path.{fun_ext}
use Rattle.registry_model.specs.Process.{at}
use Rattle.registry_model.proofs.Updates.{by_test}
use Rattle.protocol_model.specs.World.{Opening, in_world}
use Rattle.letter_lines.specs.Parts.{parts_of}
use Rattle.node_loop.specs.declared.item.Item.{Item}
use Rattle.node_loop.specs.declared.item.Item.TheVariants.{Letter, Task}
use Rattle.node_loop.specs.declared.item.Stamped.{Stamped}
use Rattle.node_loop.specs.Dealings.{with_sent, with_taken, Deals}
use Rattle.wire_end.specs.declared.wire.Wire.{Wire}
use Rattle.wire_end.specs.declared.wire_end.Wiring.{Wiring}
use Rattle.wire_end.specs.Wirings.{place, wire_at, with_lines_at, kept, printed, posted, Posts, Takes}
use Rattle.wire_end.specs.Dealings.{of_node, dealt_of, leads_inside}
use Rattle.wire_end.proofs.Ordering.{more-of}

-- what was dealt of each node, behind one letter more
items_more : (n : ℕ) (l : Stamped) (pairs : List (ℕ × Stamped)) (x : ℕ)
    → map Letter (of_node x (pairs ++ (n, l) ∷ [])) ≡ at (λ m. map Letter (of_node m pairs)) n (map Letter (of_node n pairs) ++ Letter l ∷ []) x
items_more n l pairs x =
    ap (λ (ls : List Stamped). map Letter ls) (more-of n l pairs x)
    ∙ by_test n
    (λ y b. map Letter (if b then of_node n pairs ++ l ∷ [] else of_node y pairs)
    ≡ (if b then map Letter (of_node n pairs) ++ Letter l ∷ [] else map Letter (of_node y pairs)))
    (map-append Letter (of_node n pairs) (l ∷ [])) (λ y ne. refl) x

-- what a sending changes
sent_by : (s : Wiring) (to : ℕ) (l : Stamped) → (posted to l s).sent ≡ s.sent ++ (to, l) ∷ []
sent_by s to l = go (to == s.node) refl
  where
    go : (b : Bool) → (to == s.node) ≡ b → (if b then kept l s else printed to l s).sent ≡ s.sent ++ (to, l) ∷ []
    go true e = ap (λ (n : ℕ). s.sent ++ (n, l) ∷ []) (sym (eqb-true to s.node e))
    go false e = refl

taken_by : (s : Wiring) (to : ℕ) (l : Stamped) → (posted to l s).taken ≡ s.taken
taken_by s to l = go (to == s.node)
  where
    go : (b : Bool) → (if b then kept l s else printed to l s).taken ≡ s.taken
    go true = refl
    go false = refl

-- the links lead where they led
module _ (p : ℕ → Bool) where
  pub led_at : (wires : List Wire) (k : ℕ) (w : Wire) → w.node ≡ (wire_at k wires).node
      → list_all (λ v. p v.node) (set wires k w) ≡ list_all (λ v. p v.node) wires
  led_at [] k w same = refl
  led_at (v ∷ vs) zero w same = ap (λ (n : ℕ). p n && list_all (λ v. p v.node) vs) same
  led_at (v ∷ vs) (suc k) w same = ap (λ (b : Bool). p v.node && b) (led_at vs k w same)

  pub led : (at : Option ℕ) (count : ℕ) (wires : List Wire)
      → list_all (λ w. p w.node) (with_lines_at at count wires) ≡ list_all (λ w. p w.node) wires
  led None count wires = refl
  led (Some k) count wires =
      led_at wires k (record (wire_at k wires) { written = (wire_at k wires).written + count }) refl

inside_by : (o : Opening) (s : Wiring) (to : ℕ) (l : Stamped) → leads_inside o (posted to l s) ≡ leads_inside o s
inside_by o s to l = go (to == s.node)
  where
    go : (b : Bool) → leads_inside o (if b then kept l s else printed to l s) ≡ leads_inside o s
    go true = refl
    go false =
        ap (λ (b : Bool). in_world o s.node && (b && list_all (λ x. in_world o x.0) s.heard))
        (led (in_world o) (place to s.wires) (length (parts_of l.letter)) s.wires)

-- so a letter is dealt behind the others to its node
pub sent_dealt : (s : Wiring) (to : ℕ) (l : Stamped) (t : Wiring) → t ≡ posted to l s → dealt_of t ≡ with_sent to (Letter l) (dealt_of s)
sent_dealt s to l t is =
    ap dealt_of is
    ∙ (ap (λ (ps : List (ℕ × Stamped)). record { sent = λ x. map Letter (of_node x (posted to l s).sent); taken = λ f. map Letter (of_node f ps) })
    (taken_by s to l)
    ∙ (ap (λ (ps : List (ℕ × Stamped)). record { sent = λ x. map Letter (of_node x ps); taken = λ f. map Letter (of_node f s.taken) })
    (sent_by s to l)
    ∙ ap (λ (f : ℕ → List Item). record { sent = f; taken = λ x. map Letter (of_node x s.taken) }) (fun_ext (items_more to l s.sent))))

sends : (o : Opening) (s : Wiring) (to : ℕ) (i : Item) (t : Wiring) → leads_inside o s ≡ true → Posts s to i t
    → (leads_inside o t ≡ true) × (dealt_of t ≡ with_sent to i (dealt_of s))
sends o s to (Letter l) t here h = (
  ap (leads_inside o) h.1 ∙ (inside_by o s to l ∙ here),
  sent_dealt s to l t h.1,
)
sends o s to (Task k) t here h = absurd h

-- a letter that is taken is behind the others from its node, which is of the world
pub takes_more : (s : Wiring) (from : ℕ) (l : Stamped)
    → dealt_of (record s { taken = s.taken ++ (from, l) ∷ [] }) ≡ with_taken from (Letter l) (dealt_of s)
takes_more s from l =
    ap (λ (f : ℕ → List Item). record { sent = λ x. map Letter (of_node x s.sent); taken = f }) (fun_ext (items_more from l s.taken))

-- the parts of what leads inside
module _ (o : Opening) (s : Wiring) (here : leads_inside o s ≡ true) where
  own : in_world o s.node ≡ true
  own = (and_parts (in_world o s.node) (list_all (λ w. in_world o w.node) s.wires && list_all (λ x. in_world o x.0) s.heard) here).0

  others : (list_all (λ w. in_world o w.node) s.wires ≡ true) × (list_all (λ x. in_world o x.0) s.heard ≡ true)
  others =
      and_parts (list_all (λ w. in_world o w.node) s.wires) (list_all (λ x. in_world o x.0) s.heard)
      (and_parts (in_world o s.node) (list_all (λ w. in_world o w.node) s.wires && list_all (λ x. in_world o x.0) s.heard) here).1

gives : (o : Opening) (s : Wiring) (from : ℕ) (i : Item) (t : Wiring) → leads_inside o s ≡ true → Takes s from i t
    → (leads_inside o t ≡ true) × (in_world o from ≡ true) × (dealt_of t ≡ with_taken from i (dealt_of s))
gives o s from (Letter l) t here (inl h) = (
  ap (leads_inside o) h.rest ∙ here,
  ap (in_world o) h.own ∙ own o s here,
  ap dealt_of h.rest ∙ takes_more s from l,
)
gives o s from (Letter l) t here (inr h) =
    let heard : (in_world o from && list_all (λ x. in_world o x.0) t.heard) ≡ true =
    sym (ap (λ (xs : List (ℕ × Stamped)). list_all (λ x. in_world o x.0) xs) h.oldest) ∙ (others o s here).1 in
    let parts = and_parts (in_world o from) (list_all (λ x. in_world o x.0) t.heard) heard in (
      ap (leads_inside o) h.rest
          ∙ and_from (in_world o s.node) (list_all (λ w. in_world o w.node) s.wires && list_all (λ x. in_world o x.0) t.heard) (own o s here)
          (and_from (list_all (λ w. in_world o w.node) s.wires) (list_all (λ x. in_world o x.0) t.heard) (others o s here).0 parts.1),
      parts.0,
      ap dealt_of h.rest ∙ takes_more s from l,
    )
gives o s from (Task k) t here h = (ap (leads_inside o) h.rest ∙ here, ap (in_world o) h.own ∙ own o s here, ap dealt_of h.rest)

pub deals : (o : Opening) → Deals Posts Takes o (leads_inside o) dealt_of
deals o = record { sends = sends o; gives = gives o }
