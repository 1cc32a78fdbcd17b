-- A world beside its nodes played alone, one step after the other.
use Rattle.std.proofs.Common.{ℕ, Bool, true, false, ◌==◌, ◌≡◌, inl, inr, None, List, [], ◌∷◌, ◌++◌, map, drop, refl, sym, ap, subst, ◌∙◌, append-nil}
use Rattle.std.proofs.lemmas.Bool.{cases_eq, eq-eqb, ne_eqb}
use Rattle.std.proofs.lemmas.List.{map-append, drop-map}
use Rattle.std.specs.Prelude.{if◌then◌else◌, not, ◌&&◌}
use Rattle.registry_model.specs.Process.{at}
use Rattle.registry_model.proofs.Updates.{by_test, at_same, at_other}
use Rattle.protocol_model.specs.Letter.{Letter}
use Rattle.protocol_model.specs.Links.{Links, is_nil, posted, closed_out}
use Rattle.protocol_model.specs.Node.{Node}
use Rattle.protocol_model.specs.Event.{EmptyLink, cause, first_cause}
use Rattle.protocol_model.specs.Turn.{Send, Turn, sent_to}
use Rattle.protocol_model.specs.World.{Opening, World, WorldEvent, At, Deliver, place, local_causes, refusal, join_number, heard, turn_of, apply, letter_taken, accepted, happens}
use Rattle.closings.specs.Alone.{Stamped, Made, letters_to, sent, IsTurnOf, Reads, Does, unread_after, is_leave, Plays}
use Rattle.closings.specs.Merging.{Takes}
use Rattle.closings.proofs.Letters.{letter_of, no_cons, AllFrom, StartsFrom, rising, front, drop_append, letters_are, taken_by, waiting_after, same_letters}
use Rattle.closings.proofs.Worlds.{leaver_node, leaver_links, taken_node, taken_closed, accepted_by, answers_by, happens_by}

-- a world behind some steps, where q waits on its links and these steps are left: each node goes on alone from where it stands, and
-- has to read what waits for it and then what is still to be sent; who has left has nothing left to do
pub record Stands (o : Opening) (w : World) (q : ℕ → ℕ → List Stamped) (left : ℕ → List Made) : Type 0 where
  pub alone : (a : ℕ) → Plays Does o a (λ f. q f a ++ sent a (left f)) (w.node a) (left a)
  pub waits : (f t : ℕ) → w.links.closed t ≡ false → w.links.queue f t ≡ map letter_of (q f t)
  pub gone : (a : ℕ) → w.links.closed a ≡ true → left a ≡ []

-- a node is played alone, whichever way its letters, its state and its steps are written
moved : (o : Opening) (a : ℕ) (l m : ℕ → List Stamped) (v x : Node) (ds es : List Made) → l ≡ m → v ≡ x → ds ≡ es
    → Plays Does o a l v ds → Plays Does o a m x es
moved o a l m v x ds es p r s =
    subst (λ (t : (ℕ → List Stamped) × Node × List Made). Plays Does o a t.0 t.1 t.2) (λ k. (p k, r k, s k))

-- a letter that is delivered is the oldest on its link
abbrev Oldest : (ℕ → ℕ → List Stamped) → WorldEvent → Type 0
Oldest q (At a e) = Unit {0}
Oldest q (Deliver f t) = (x : Stamped) × (q f t ≡ x ∷ drop 1 (q f t))

-- a world beside a step that its node makes alone: nothing local stands against the event, and its turn is that of the step
record Local (o : Opening) (w : World) (q : ℕ → ℕ → List Stamped) (d : Made) (e : WorldEvent) : Type 0 where
  accepted : first_cause (local_causes w e) ≡ None
  turn : IsTurnOf d (turn_of o w e)
  oldest : Oldest q e

-- an event takes no letter that is for another node
other_letters : (q : ℕ → ℕ → List Stamped) (e : WorldEvent) (c f : ℕ) → (c ≡ place e → ⊥) → taken_by e q f c ≡ q f c
other_letters q (At a e) c f ne = refl
other_letters q (Deliver x y) c f ne =
    subst (λ (b : Bool). (if f == x then (if b then drop 1 (q f c) else q f c) else q f c) ≡ q f c) (sym (ne_eqb c y ne))
    (either (f == x))
  where
    either : (b : Bool) → (if b then q f c else q f c) ≡ q f c
    either true = refl
    either false = refl

-- what is to be read at its own node is what is unread behind it
own_letters : (q : ℕ → ℕ → List Stamped) (e : WorldEvent) (rest : ℕ → List Stamped) (f : ℕ) → Oldest q e
    → taken_by e q f (place e) ++ rest f ≡ unread_after e (λ x. q x (place e) ++ rest x) f
own_letters q (At a e) rest f h = refl
own_letters q (Deliver x y) rest f h =
    subst (λ (b : Bool). (if f == x then (if b then drop 1 (q f y) else q f y) else q f y) ++ rest f
    ≡ (if f == x then drop 1 (q f y ++ rest f) else q f y ++ rest f)) (sym (eq-eqb y y refl))
    (by_test x (λ g b. (if b then drop 1 (q g y) else q g y) ++ rest g
    ≡ (if b then drop 1 (q g y ++ rest g) else q g y ++ rest g)) (sym (drop_append (q x y) h.0 (rest x) h.1))
    (λ _ _. refl) f)

module _ (o : Opening) (w : World) (q : ℕ → ℕ → List Stamped) (left : ℕ → List Made) (S : Stands o w q left) (d : Made) (ds : List Made) (is : left (place d.entry.event) ≡ d ∷ ds) (least : (c : ℕ) → StartsFrom d.entry.stamp (left c)) where
  abbrev e : WorldEvent
  e = d.entry.event

  abbrev u : Turn
  u = turn_of o w d.entry.event

  -- its node does the step next
  plays : Plays Does o (place e) (λ f. q f (place e) ++ sent (place e) (left f)) (w.node (place e)) (d ∷ ds)
  plays = subst (Plays Does o (place e) (λ f. q f (place e) ++ sent (place e) (left f)) (w.node (place e))) is (S.alone (place e))

  -- and runs
  runs : w.links.closed (place e) ≡ false
  runs = go (w.links.closed (place e)) (S.gone (place e))
    where
      go : (b : Bool) → (b ≡ true → left (place d.entry.event) ≡ []) → b ≡ false
      go true h = absurd (no_cons d ds (sym (h refl) ∙ is))
      go false h = refl

  -- all steps that are left come later
  later : (f : ℕ) → AllFrom d.entry.stamp (left f)
  later f = rising o f (left f) (λ x. q x f ++ sent f (left x)) (w.node f) d.entry.stamp (S.alone f) (least f)

  -- so what the node does alone it does in the world: a letter that it reads waits there as the oldest
  locally : (x : WorldEvent) → w.links.closed (place x) ≡ false
      → Does o (λ f. q f (place x) ++ sent (place x) (left f)) (w.node (place x)) d x → Local o w q d x
  locally (At a ev) up D = record { accepted = D.0; turn = D.1; oldest = tt }
  locally (Deliver f t) up D = go (q f t ++ sent t (left f)) refl D
    where
      go : (ls : List Stamped) → q f t ++ sent t (left f) ≡ ls → Reads o t f ls (w.node t) d → Local o w q d (Deliver f t)
      go [] same R = absurd R
      go (x ∷ xs) same R =
          let first : q f t ≡ x ∷ drop 1 (q f t) = front d.entry.stamp t (left f) (q f t) x xs (later f) same R.0 in
          let link : w.links.queue f t ≡ x.letter ∷ map letter_of (drop 1 (q f t)) =
          S.waits f t up ∙ ap (map letter_of) first in
          record {
            accepted = ap (λ (ls : List Letter). first_cause (cause (is_nil ls) EmptyLink ∷ [])) link;
            turn = subst (λ (ls : List Letter). IsTurnOf d (heard o.bound t w f ls)) (sym link) (R.1 (join_number w));
            oldest = (x, first);
          }

  local : Local o w q d e
  local = locally e runs plays.0.does

  takes_it : refusal o w e ≡ None
  takes_it = accepted_by o w e plays.0.here plays.0.known runs local.accepted

  -- the world takes the step
  pub takes : Takes o w (record { node = place d.entry.event; entry = d.entry })
  takes = record {
    own = refl;
    accepted = takes_it;
    answers = sym (answers_by o w e takes_it ∙ local.turn.answers);
  }

  -- and is then this one
  abbrev new : World
  new = accepted o w d.entry.event

  -- what its links are, before a leave closes them out
  abbrev posted_links : Links Letter
  posted_links = posted (place d.entry.event) (λ t. sent_to t (turn_of o w d.entry.event).sends) (letter_taken d.entry.event w).links

  -- its nodes stand as the step says
  nodes : new.node ≡ at w.node (place e) d.after
  nodes = leaver_node e (apply (place e) u (letter_taken e w)) ∙ ap (λ (f : ℕ → Node). at f (place e) u.node) (taken_node e w)
      ∙ ap (λ (v : Node). at w.node (place e) v) local.turn.node

  links : new.links ≡ (if is_leave e then closed_out (place e) posted_links else posted_links)
  links = leaver_links e (apply (place e) u (letter_taken e w))

  -- what waits on links towards running nodes: once the letter is taken, once the step's letters are put, and behind a leave
  taken_queue : (x : WorldEvent) (f t : ℕ) → w.links.closed t ≡ false → (letter_taken x w).links.queue f t ≡ map letter_of (taken_by x q f t)
  taken_queue (At a ev) f t up = S.waits f t up
  taken_queue (Deliver x y) f t up = go (f == x) (t == y)
    where
      go : (b c : Bool) → (if b && c then drop 1 (w.links.queue f t) else w.links.queue f t)
          ≡ map letter_of (if b then (if c then drop 1 (q f t) else q f t) else q f t)
      go true true = ap (drop 1) (S.waits f t up) ∙ drop-map letter_of 1 (q f t)
      go true false = S.waits f t up
      go false c = S.waits f t up

  still_open : (t : ℕ) → w.links.closed t ≡ false → (letter_taken e w).links.closed t ≡ false
  still_open t up = ap (λ (s : ℕ → Bool). s t) (taken_closed e w) ∙ up

  posted_queue : (f t : ℕ) → w.links.closed t ≡ false → posted_links.queue f t ≡ map letter_of (waiting_after d q f t)
  posted_queue f t up = go (f == place e) ((letter_taken e w).links.closed t) (still_open t up)
    where
      go : (b c : Bool) → c ≡ false
          → (if b && not c then (letter_taken d.entry.event w).links.queue f t ++ sent_to t (turn_of o w d.entry.event).sends else (letter_taken d.entry.event w).links.queue f t)
          ≡ map letter_of (taken_by d.entry.event q f t ++ (if b then letters_to t d else []))
      go true true h = cc
      go true false h = ap (λ (ls : List Letter). ls ++ sent_to t u.sends) (taken_queue e f t up)
          ∙ ap (λ (ss : List Send). map letter_of (taken_by e q f t) ++ sent_to t ss) local.turn.sends
          ∙ ap (λ (ls : List Letter). map letter_of (taken_by e q f t) ++ ls) (sym (letters_are d.entry.stamp (sent_to t d.sends)))
          ∙ sym (map-append letter_of (taken_by e q f t) (letters_to t d))
      go false c h = taken_queue e f t up ∙ ap (map letter_of) (sym (append-nil (taken_by e q f t)))

  new_waits : (f t : ℕ) → new.links.closed t ≡ false → new.links.queue f t ≡ map letter_of (waiting_after d q f t)
  new_waits f t = subst (λ (l : Links Letter). l.closed t ≡ false → l.queue f t ≡ map letter_of (waiting_after d q f t)) (sym links)
      (go (is_leave e))
    where
      back : (letter_taken d.entry.event w).links.closed t ≡ false → w.links.closed t ≡ false
      back h = sym (ap (λ (s : ℕ → Bool). s t) (taken_closed e w)) ∙ h

      at_leave : (c : Bool) → (if c then true else (letter_taken d.entry.event w).links.closed t) ≡ false
          → (if c then [] else posted_links.queue f t) ≡ map letter_of (waiting_after d q f t)
      at_leave true h = cc
      at_leave false h = posted_queue f t (back h)

      go : (b : Bool) → (if b then closed_out (place d.entry.event) posted_links else posted_links).closed t ≡ false
          → (if b then closed_out (place d.entry.event) posted_links else posted_links).queue f t ≡ map letter_of (waiting_after d q f t)
      go true h = at_leave (t == place e) h
      go false h = posted_queue f t (back h)

  -- who has left has nothing left to do
  new_gone : (c : ℕ) → new.links.closed c ≡ true → at left (place e) ds c ≡ []
  new_gone c = subst (λ (l : Links Letter). l.closed c ≡ true → at left (place e) ds c ≡ []) (sym links)
      (go (is_leave e) plays.0.last)
    where
      back : (x : ℕ) → (letter_taken d.entry.event w).links.closed x ≡ true → left x ≡ []
      back x h = S.gone x (sym (ap (λ (s : ℕ → Bool). s x) (taken_closed e w)) ∙ h)

      go : (b : Bool) → (b ≡ true → ds ≡ [])
          → (if b then closed_out (place d.entry.event) posted_links else posted_links).closed c ≡ true
          → at left (place d.entry.event) ds c ≡ []
      go true last = by_test (place e)
          (λ x b. (if b then true else (letter_taken d.entry.event w).links.closed x) ≡ true → (if b then ds else left x) ≡ [])
          (λ _. last refl) (λ x ne. back x) c
      go false last = by_test (place e)
          (λ x b. (letter_taken d.entry.event w).links.closed x ≡ true → (if b then ds else left x) ≡ [])
          (λ h. absurd (no_cons d ds (sym (back (place e) h) ∙ is))) (λ x ne. back x) c

  -- each node has the same letters to read as before, but for the one that was read
  letters : (c : ℕ) → ◌≡◌ {A = ℕ → List Stamped} (λ f. taken_by e q f c ++ sent c (left f)) (λ f. waiting_after d q f c ++ sent c (at left (place e) ds f))
  letters c = λ k f. sym (same_letters (place e) c d ds left is (λ g. taken_by e q g c) f) k

  -- and goes on alone
  new_alone : (c : ℕ)
      → Plays Does o c (λ f. waiting_after d q f c ++ sent c (at left (place e) ds f)) (new.node c) (at left (place e) ds c)
  new_alone c = elim (cases_eq c (place e)) [ inl p ↦ here p | inr ne ↦ there ne ]
    where
      here : c ≡ place d.entry.event
          → Plays Does o c (λ f. waiting_after d q f c ++ sent c (at left (place d.entry.event) ds f)) (new.node c) (at left (place d.entry.event) ds c)
      here p = subst (λ (x : ℕ). Plays Does o x (λ f. waiting_after d q f x ++ sent x (at left (place e) ds f)) (new.node x) (at left (place e) ds x))
          (sym p)
          (moved o (place e) (unread_after e (λ f. q f (place e) ++ sent (place e) (left f)))
          (λ f. waiting_after d q f (place e) ++ sent (place e) (at left (place e) ds f)) d.after (new.node (place e)) ds
          (at left (place e) ds (place e))
          (sym (λ k f. own_letters q e (λ x. sent (place e) (left x)) f local.oldest k) ∙ letters (place e))
          (sym (ap (λ (f : ℕ → Node). f (place e)) nodes ∙ at_same w.node (place e) d.after))
          (sym (at_same left (place e) ds)) plays.1)

      there : (c ≡ place d.entry.event → ⊥)
          → Plays Does o c (λ f. waiting_after d q f c ++ sent c (at left (place d.entry.event) ds f)) (new.node c) (at left (place d.entry.event) ds c)
      there ne = moved o c (λ f. q f c ++ sent c (left f)) (λ f. waiting_after d q f c ++ sent c (at left (place e) ds f))
          (w.node c) (new.node c) (left c) (at left (place e) ds c)
          ((λ k f. sym (other_letters q e c f ne) k ++ sent c (left f)) ∙ letters c)
          (sym (ap (λ (f : ℕ → Node). f c) nodes ∙ at_other w.node (place e) d.after c ne))
          (sym (at_other left (place e) ds c ne)) (S.alone c)

  pub happened : happens o w d.entry.event ≡ new
  happened = happens_by o w e takes_it

  -- behind the step the world stands so again
  pub stands_on : Stands o (happens o w d.entry.event) (waiting_after d q) (at left (place d.entry.event) ds)
  stands_on = subst (λ (x : World). Stands o x (waiting_after d q) (at left (place e) ds)) (sym happened)
      (record { alone = new_alone; waits = new_waits; gone = new_gone })

  -- its nodes
  pub nodes_on : (happens o w d.entry.event).node ≡ at w.node (place d.entry.event) d.after
  nodes_on = ap (λ (x : World). x.node) happened ∙ nodes
