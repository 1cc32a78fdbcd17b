-- What an end of a node deals in.
use Rattle.std.proofs.Common.{ℕ, Bool, true, false, ◌-◌, ◌==◌, ◌≡◌, ◌⊎◌, inl, inr, Some, None, is_some, List, [], ◌∷◌, ◌++◌, map, get_or, refl, sym, ap, ◌∙◌, append-nil}
use Rattle.std.specs.Prelude.{if◌then◌else◌, ◌&&◌, ◌||◌}
use Rattle.std.specs.List.{list_all, slice_get}
use Rattle.std.proofs.lemmas.Bool.{cases_eq, eq-eqb, eqb-true, ne_eqb}
use Rattle.std.proofs.lemmas.Grind.{flat_map-append}
use Rattle.std.proofs.lemmas.List.{map-append}
use Rattle.std.proofs.lemmas.List.Folds.{list_any_at}
use Rattle.std.proofs.lemmas.Option.{slice_get_within, get_or_from_slice_get}
use Rattle.std.proofs.Math.Path.{fun_ext}
use Rattle.registry_model.proofs.Updates.{by_test}
use Rattle.protocol_model.specs.World.{Opening, in_world}
use Rattle.term.specs.NodeSets.{set_of}
use Rattle.node_loop.specs.declared.item.Item.{Item}
use Rattle.node_loop.specs.declared.item.Item.TheVariants.{Letter, Task}
use Rattle.node_loop.specs.Dealings.{with_sent, with_taken, nothing_dealt, Deals}
use Rattle.node_seats.specs.Lines.{Sent, with_parcel, with_parcel_to}
use Rattle.node_threads.specs.declared.ruled_end.Traffic.{Traffic}
use Rattle.node_threads.specs.Givers.{receivers, node_under}
use Rattle.node_threads.specs.Traffics.{Posts, Takes}
use Rattle.node_threads.specs.Wires.{unused}
use Rattle.node_threads.specs.Ends.{are_inside, leads_inside, fixed}
use Rattle.node_threads.specs.Dealings.{put_on, sent_to, taken_from, dealt_of, dealt_by}
use Rattle.node_threads.proofs.Lines.{receivers_kept, unused_kept}
use Rattle.node_threads.proofs.Places.{place_mapped, is_some-place}

both : (x y : Bool) → (x && y) ≡ true → (x ≡ true) × (y ≡ true)
both true y e = (refl, e)
both false y e = cc

-- the line to this node has an item more
module _ (to : ℕ) (i : Item) where
  own : (lines : List (Sent Item)) → set_of (receivers lines) to ≡ true
      → sent_to to (with_parcel_to to i lines) ≡ sent_to to lines ++ i ∷ []
  own [] known = absurd (cc known)
  own (line ∷ lines) known = go (line.receiver == to) refl (λ k. own lines k)
    where
      go : (b : Bool) → (line.receiver == to) ≡ b
          → (set_of (receivers lines) to ≡ true → sent_to to (with_parcel_to to i lines) ≡ sent_to to lines ++ i ∷ [])
          → sent_to to (if b then with_parcel i line ∷ lines else line ∷ with_parcel_to to i lines)
          ≡ (if b then put_on line else sent_to to lines) ++ i ∷ []
      go true e rest = ap (λ (b : Bool). if b then put_on (with_parcel i line) else sent_to to lines) e
          ∙ map-append (λ p. p.item) line.parcels (record { number = line.number; item = i } ∷ [])
      go false e rest = ap (λ (b : Bool). if b then put_on line else sent_to to (with_parcel_to to i lines)) e
          ∙ rest (ap (λ (b : Bool). b || set_of (receivers lines) to) (sym e) ∙ known)

  others : (x : ℕ) → (x ≡ to → ⊥) → (lines : List (Sent Item)) → sent_to x (with_parcel_to to i lines) ≡ sent_to x lines
  others x ne [] = refl
  others x ne (line ∷ lines) = go (line.receiver == to) refl (others x ne lines)
    where
      go : (b : Bool) → (line.receiver == to) ≡ b → sent_to x (with_parcel_to to i lines) ≡ sent_to x lines
          → sent_to x (if b then with_parcel i line ∷ lines else line ∷ with_parcel_to to i lines) ≡ sent_to x (line ∷ lines)
      go true e rest =
          let apart : (line.receiver == x) ≡ false = ne_eqb line.receiver x (λ k. ne (sym k ∙ eqb-true line.receiver to e)) in
          ap (λ (b : Bool). if b then put_on (with_parcel i line) else sent_to x lines) apart
          ∙ sym (ap (λ (b : Bool). if b then put_on line else sent_to x lines) apart)
      go false e rest = ap (λ (items : List Item). if line.receiver == x then put_on line else items) rest

  sent_more : (lines : List (Sent Item)) → set_of (receivers lines) to ≡ true → (x : ℕ)
      → sent_to x (with_parcel_to to i lines) ≡ (if x == to then sent_to to lines ++ i ∷ [] else sent_to x lines)
  sent_more lines known x = by_test to
      (λ y b. sent_to y (with_parcel_to to i lines) ≡ (if b then sent_to to lines ++ i ∷ [] else sent_to y lines))
      (own lines known) (λ y ne. others y ne lines) x

-- a sending is behind the others to its node
sends_one : (s : Traffic) (to : ℕ) (i : Item) (t : Traffic) → Posts s to i t → dealt_of t ≡ with_sent to i (dealt_of s)
sends_one s to i t h = ap dealt_of h.1
    ∙ ap (λ (f : ℕ → List Item). record { sent = f; taken = λ x. taken_from x s.letters }) (fun_ext (sent_more to i s.lines known))
  where
    known : set_of (receivers s.lines) to ≡ true
    known = sym (ap is_some (place_mapped (λ (l : Sent Item). l.receiver) to s.lines) ∙ is_some-place (receivers s.lines) to) ∙ h.0

-- a taking is behind the others from its node
taken_more : (from : ℕ) (i : Item) (pairs : List (ℕ × Item)) (x : ℕ)
    → taken_from x (pairs ++ (from, i) ∷ []) ≡ (if x == from then taken_from from pairs ++ i ∷ [] else taken_from x pairs)
taken_more from i pairs x = flat_map-append (λ y. if x == y.0 then y.1 ∷ [] else []) pairs ((from, i) ∷ []) ∙ by_test from
    (λ y b. taken_from y pairs ++ ((if b then i ∷ [] else []) ++ []) ≡ (if b then taken_from from pairs ++ i ∷ [] else taken_from y pairs))
    refl (λ y ne. append-nil (taken_from y pairs)) x

takes_one : (s : Traffic) (from : ℕ) (i : Item) (t : Traffic) → Takes s from i t → dealt_of t ≡ with_taken from i (dealt_of s)
takes_one s from (Letter l) t h = ap dealt_of h.2.2
    ∙ ap (λ (f : ℕ → List Item). record { sent = λ x. sent_to x s.lines; taken = f }) (fun_ext (taken_more from (Letter l) s.letters))
takes_one s from (Task k) t h = ap dealt_of h.2.2

-- who has a number is one of the nodes
under_known : (number : ℕ) (nodes : List ℕ) (from : ℕ) → node_under number nodes ≡ Some from → set_of nodes from ≡ true
under_known number nodes from e = at (number == 0) e
  where
    at : (none : Bool) → (if none then None else slice_get nodes (number - 1)) ≡ Some from → set_of nodes from ≡ true
    at true h = absurd (cc h)
    at false h = list_any_at (λ m. m == from) nodes (number - 1) 0 (slice_get_within nodes (number - 1) from h)
        (eq-eqb (get_or nodes (number - 1) 0) from (get_or_from_slice_get nodes (number - 1) from 0 h))

-- where all of these are such, each of them is
each_of : (p : ℕ → Bool) (nodes : List ℕ) → list_all p nodes ≡ true → (c : ℕ) → set_of nodes c ≡ true → p c ≡ true
each_of p [] all c known = absurd (cc known)
each_of p (n ∷ ns) all c known = at (cases_eq n c) (λ k. each_of p ns (both (p n) (list_all p ns) all).1 c k)
  where
    at : (n ≡ c) ⊎ (n ≡ c → ⊥) → (set_of ns c ≡ true → p c ≡ true) → p c ≡ true
    at (inl e) rest = ap p (sym e) ∙ (both (p n) (list_all p ns) all).0
    at (inr ne) rest = rest (ap (λ (b : Bool). b || set_of ns c) (sym (ne_eqb n c ne)) ∙ known)

module _ (o : Opening) where
  -- a letter is from one of the nodes, and a task from the node itself; the lines lead where they led
  gives : (s : Traffic) (from : ℕ) (i : Item) (t : Traffic) → leads_inside o s ≡ true → Takes s from i t
      → (leads_inside o t ≡ true) × (in_world o from ≡ true)
  gives s from (Letter l) t here h = (
    ap (leads_inside o) h.2.2 ∙ here,
    each_of (in_world o) (receivers s.lines) (both (in_world o s.node) (list_all (in_world o) (receivers s.lines)) here).1 from
        (under_known h.2.0 (receivers s.lines) from h.2.1),
  )
  gives s from (Task k) t here h = (
    ap (leads_inside o) h.2.2 ∙ here,
    ap (in_world o) h.0 ∙ (both (in_world o s.node) (list_all (in_world o) (receivers s.lines)) here).0,
  )

  -- the end of a node deals as its lines and its inbox say
  pub deals : Deals Posts Takes o (leads_inside o) dealt_of
  deals = record {
    sends = λ s to i t here h. (
      ap (leads_inside o) h.1 ∙ (ap (are_inside o s.node) (receivers_kept to i s.lines) ∙ here),
      sends_one s to i t h,
    );
    gives = λ s from i t here h. (
      (gives s from i t here h).0,
      (gives s from i t here h).1,
      takes_one s from i t h,
    );
  }

-- what is fixed stays so
pub fixed_by_post : (s : Traffic) (to : ℕ) (i : Item) (t : Traffic) → Posts s to i t → fixed t ≡ fixed s
fixed_by_post s to i t h = ap fixed h.1
    ∙ ap (λ (ls : List (Sent Item)). record (fixed s) { lines = ls }) (unused_kept to i s.lines)

pub fixed_by_taking : (s : Traffic) (from : ℕ) (i : Item) (t : Traffic) → Takes s from i t → fixed t ≡ fixed s
fixed_by_taking s from (Letter l) t h = ap fixed h.2.2
fixed_by_taking s from (Task k) t h = ap fixed h.2.2

-- on lines on which nothing was put nothing was sent
nothing_sent : (to : ℕ) (lines : List (Sent Item)) → sent_to to (map unused lines) ≡ []
nothing_sent to [] = refl
nothing_sent to (line ∷ lines) = go (line.receiver == to) (nothing_sent to lines)
  where
    go : (b : Bool) → sent_to to (map unused lines) ≡ [] → (if b then put_on (unused line) else sent_to to (map unused lines)) ≡ []
    go true rest = refl
    go false rest = rest

pub deals_nothing : (lines : List (Sent Item)) → map unused lines ≡ lines → dealt_by lines [] ≡ nothing_dealt
deals_nothing lines new = ap (λ (f : ℕ → List Item). record { sent = f; taken = λ x. [] })
    (fun_ext (λ to. ap (sent_to to) (sym new) ∙ nothing_sent to lines))
