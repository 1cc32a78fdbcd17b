-- Links by name.
use mathlib.Core.Logic.{inl, inr}
use Rattle.std.proofs.Common.{ℕ, zero, suc, Bool, true, false, ◌==◌, ◌≡◌, ◌<◌, ◌≤◌, List, [], ◌∷◌, ◌++◌, refl, sym, ap, subst, ◌∙◌, arith}
use Rattle.std.specs.Prelude.{◌⊎◌, Contains, Option, Some, None, is_none, option_map, not, ◌&&◌, ◌||◌, if◌then◌else◌, find, flat_map, drop}
use Rattle.std.proofs.lemmas.Bool.{eq-eqb, ne_eqb, cases_eq, not-false}
use Rattle.std.proofs.lemmas.Grind.{flat_map-append}
use Rattle.std.proofs.lemmas.List.{append-nil, append_assoc, map-append}
use Rattle.std.proofs.lemmas.List.Elements.{Contains-push}
use Rattle.registry_model.proofs.Lists.{Contains-cases, Contains-front, Contains-behind, Contains-nil}
use Rattle.protocol_model.specs.Letter.{Letter}
use Rattle.protocol_model.specs.Links.{is_nil}
use Rattle.protocol_model.specs.Event.{Event, Refusal, NoSuchNode, NodeLeft, EmptyLink}
use Rattle.protocol_model.specs.Turn.{sent_to}
use Rattle.protocol_model.specs.World.{Opening, in_world, World, left, WorldEvent, place, other, refusal, turn_of, accepted, happens, all_answers}
use Rattle.creations.specs.NodeNames.{NamedOpening, is_name, node_of, name_of, first_nodes, creation_of, opening_of}
use Rattle.creations.specs.NamedWorld.{NamedWorld, NamedEvent, NamedRefusal, Plain, present_node, has_started, sender_to, or_present, next_node, plain_refusal, named_refusal, plain, accepted_named, happens_named, after_events}
use Rattle.creations.specs.Restarts.{IsReplaced, StartsAnew}
use Rattle.creations.specs.NamedLinks.{Sent, sent_by, named_queue, LinksAreByName, LinksAreAlwaysByName}
use Rattle.creations.proofs.Numbers.{name-node, creation-node, inside-name}
use Rattle.creations.proofs.Telling.{AreDistinct}
use Rattle.creations.proofs.Lists.{find_none, Rise, distinct_of}
use Rattle.creations.proofs.StartedLists.{in_first, first_has, first_rises}
use Rattle.creations.proofs.Apart.{unrefused_by}
use Rattle.creations.proofs.Standing.{Sound, present_started, unrefused}
use Rattle.creations.proofs.Restarting.{may_restart, starts_anew}
use Rattle.creations.proofs.Always.{always}

-- what links of these nodes have, the first that isn't empty being found
module _ (q : ℕ → List Letter) where
  abbrev letters_of : List ℕ → List Sent
  letters_of xs = flat_map (λ n. sent_by n (q n)) xs

  -- nothing is on any
  none_waits : (xs : List ℕ) → find (λ n. not (is_nil (q n))) xs ≡ None → letters_of xs ≡ []
  none_waits [] e = refl
  none_waits (x ∷ xs) e = go (q x) refl e (none_waits xs)
    where
      go : (ls : List Letter) → q x ≡ ls → (if not (is_nil ls) then Some x else find (λ n. not (is_nil (q n))) xs) ≡ None
          → (find (λ n. not (is_nil (q n))) xs ≡ None → letters_of xs ≡ []) → sent_by x ls ++ letters_of xs ≡ []
      go [] i f more = more f
      go (l ∷ ls) i f more = absurd (cc f)

  -- the front of the list is that of the first
  first_waits : (xs : List ℕ) (n : ℕ) (l : Letter) (ls : List Letter) → find (λ m. not (is_nil (q m))) xs ≡ Some n → q n ≡ l ∷ ls
      → (rest : List Sent) × (letters_of xs ≡ record { sender = n; letter = l } ∷ rest)
  first_waits [] n l ls e f = absurd (cc e)
  first_waits (x ∷ xs) n l ls e f = go (q x) refl e (first_waits xs n l ls)
    where
      same : Some x ≡ Some n → x ≡ n
      same k = cc

      go : (ks : List Letter) → q x ≡ ks → (if not (is_nil ks) then Some x else find (λ m. not (is_nil (q m))) xs) ≡ Some n
          → (find (λ m. not (is_nil (q m))) xs ≡ Some n → q n ≡ l ∷ ls
          → (rest : List Sent) × (letters_of xs ≡ record { sender = n; letter = l } ∷ rest))
          → (rest : List Sent) × (sent_by x ks ++ letters_of xs ≡ record { sender = n; letter = l } ∷ rest)
      go [] i g more = more g f
      go (k ∷ ks) i g more = (
        sent_by x ks ++ letters_of xs,
        ap (λ (m : ℕ). let s : Sent = record { sender = m; letter = k } in s ∷ (sent_by x ks ++ letters_of xs)) (same g)
            ∙ ap (λ (m : Letter). let s : Sent = record { sender = n; letter = m } in s ∷ (sent_by x ks ++ letters_of xs)) front,
      )
        where
          front : k ≡ l
          front = let e : k ∷ ks ≡ l ∷ ls = sym i ∙ ap q (same g) ∙ f in cc

  -- where one is found it isn't empty
  found_waits : (xs : List ℕ) (n : ℕ) → find (λ m. not (is_nil (q m))) xs ≡ Some n → is_nil (q n) ≡ false
  found_waits [] n e = absurd (cc e)
  found_waits (x ∷ xs) n e = go (is_nil (q x)) refl e (found_waits xs n)
    where
      same : Some x ≡ Some n → x ≡ n
      same k = cc

      go : (b : Bool) → is_nil (q x) ≡ b → (if not b then Some x else find (λ m. not (is_nil (q m))) xs) ≡ Some n
          → (find (λ m. not (is_nil (q m))) xs ≡ Some n → is_nil (q n) ≡ false) → is_nil (q n) ≡ false
      go false i g more = ap (λ (m : ℕ). is_nil (q m)) (sym (same g)) ∙ i
      go true i g more = more g

-- lists that are the same at these nodes
letters_same : (q r : ℕ → List Letter) (xs : List ℕ) → ((c : ℕ) → Contains xs c → r c ≡ q c) → letters_of r xs ≡ letters_of q xs
letters_same q r [] same = refl
letters_same q r (x ∷ xs) same = ap (λ (ls : List Letter). sent_by x ls ++ letters_of r xs) (same x (Contains-front x xs))
    ∙ ap (λ (ss : List Sent). sent_by x (q x) ++ ss) (letters_same q r xs (λ c i. same c (Contains-behind x xs c i)))

-- where the first that isn't empty loses its front, so does the whole
taken_front : (q r : ℕ → List Letter) (s : ℕ) → r s ≡ drop 1 (q s) → ((c : ℕ) → (c ≡ s → ⊥) → r c ≡ q c) → (xs : List ℕ)
    → AreDistinct xs → find (λ n. not (is_nil (q n))) xs ≡ Some s → letters_of r xs ≡ drop 1 (letters_of q xs)
taken_front q r s here there [] D e = absurd (cc e)
taken_front q r s here there (x ∷ xs) D e = go (q x) refl e (taken_front q r s here there xs D.1)
  where
    same : Some x ≡ Some s → x ≡ s
    same k = cc

    nothing : q x ≡ [] → r x ≡ []
    nothing i = elim (cases_eq x s) [
      | inl k ↦ ap r k ∙ here ∙ ap (λ (n : ℕ). drop 1 (q n)) (sym k) ∙ ap (drop 1) i
      | inr ne ↦ there x ne ∙ i
    ]

    go : (ls : List Letter) → q x ≡ ls → (if not (is_nil ls) then Some x else find (λ n. not (is_nil (q n))) xs) ≡ Some s
        → (find (λ n. not (is_nil (q n))) xs ≡ Some s → letters_of r xs ≡ drop 1 (letters_of q xs))
        → sent_by x (r x) ++ letters_of r xs ≡ drop 1 (sent_by x ls ++ letters_of q xs)
    go [] i k more = ap (λ (ls : List Letter). sent_by x ls ++ letters_of r xs) (nothing i) ∙ more k
    go (l ∷ ls) i k more =
        ap (λ (ks : List Letter). sent_by x ks ++ letters_of r xs)
        (ap r (same k) ∙ here ∙ ap (λ (n : ℕ). drop 1 (q n)) (sym (same k)) ∙ ap (drop 1) i)
        ∙ ap (λ (ss : List Sent). sent_by x ls ++ ss) (letters_same q r xs
        (λ c j. there c (λ at. D.0 (subst (λ (n : ℕ). Contains xs n) (at ∙ sym (same k)) j))))

-- where the last gets more, so does the whole
posted_last : (q r : ℕ → List Letter) (a : ℕ) (ms : List Letter) → r a ≡ q a ++ ms → ((c : ℕ) → (c ≡ a → ⊥) → r c ≡ q c)
    → (ys : List ℕ) → (Contains ys a → ⊥) → letters_of r (ys ++ a ∷ []) ≡ letters_of q (ys ++ a ∷ []) ++ sent_by a ms
posted_last q r a ms here there ys out =
    flat_map-append (λ n. sent_by n (r n)) ys (a ∷ [])
    ∙ ap (λ (ss : List Sent). ss ++ letters_of r (a ∷ [])) (letters_same q r ys
    (λ c i. there c (λ at. out (subst (λ (n : ℕ). Contains ys n) at i))))
    ∙ ap (λ (ss : List Sent). letters_of q ys ++ ss) one
    ∙ sym (append_assoc (letters_of q ys) (letters_of q (a ∷ [])) (sent_by a ms))
    ∙ ap (λ (ss : List Sent). ss ++ sent_by a ms) (sym (flat_map-append (λ n. sent_by n (q n)) ys (a ∷ [])))
  where
    sent : Letter → Sent
    sent l = record { sender = a; letter = l }

    one : letters_of r (a ∷ []) ≡ letters_of q (a ∷ []) ++ sent_by a ms
    one = append-nil (sent_by a (r a)) ∙ ap (λ (ls : List Letter). sent_by a ls) here ∙ map-append sent (q a) ms
        ∙ ap (λ (ss : List Sent). ss ++ sent_by a ms) (sym (append-nil (sent_by a (q a))))

-- the last of a rising list stands there once
last_once : (ys : List ℕ) (a : ℕ) → Rise (ys ++ a ∷ []) → Contains ys a → ⊥
last_once [] a R i = Contains-nil a i
last_once (y ∷ ys) a R i = elim (Contains-cases y ys a i) [
  | inl same ↦ let l : y < a = R.0 a (Contains-push ys a) in absurd (omega (arith, same, l))
  | inr more ↦ last_once ys a R.1 more
]

-- the first nodes of a name end with the last of them
with_last : (o : NamedOpening) (x k : ℕ) → 1 ≤ k → (ys : List ℕ) × (first_nodes o x k ≡ ys ++ node_of o x k ∷ [])
with_last o x zero l = absurd (omega (arith, l))
with_last o x (suc k) l = (first_nodes o x k, refl)

-- a world's refusal of a delivery
module _ (o : Opening) (w : World) (f t : ℕ) where
  abbrev delivered : Bool → Bool → Bool → Option Refusal
  delivered b c d = if b then Some NoSuchNode else (if c then Some NodeLeft else (if d then Some EmptyLink else None))

  accepted_waits : refusal o w (WorldEvent.Deliver f t) ≡ None → is_nil (w.links.queue f t) ≡ false
  accepted_waits r = go (not (in_world o t) || not (in_world o f)) (left w t) (is_nil (w.links.queue f t)) r
    where
      go : (b c d : Bool) → delivered b c d ≡ None → d ≡ false
      go false false false q = refl
      go false false true q = absurd (cc q)
      go false true d q = absurd (cc q)
      go true c d q = absurd (cc q)

  refused_empty : refusal o w (WorldEvent.Deliver f t) ≡ Some EmptyLink → is_nil (w.links.queue f t) ≡ true
  refused_empty r = go (not (in_world o t) || not (in_world o f)) (left w t) (is_nil (w.links.queue f t)) r
    where
      go : (b c d : Bool) → delivered b c d ≡ Some EmptyLink → d ≡ true
      go false false true q = refl
      go false false false q = absurd (cc q)
      go false true d q = absurd (cc q)
      go true c d q = absurd (cc q)

-- what an event leaves of the letters of a node that makes no turn
module _ (o : Opening) (w : World) (d t : ℕ) where
  abbrev Less : List Letter → Type 0
  Less later = (later ≡ w.links.queue d t) ⊎ (later ≡ drop 1 (w.links.queue d t)) ⊎ (later ≡ [])

  unposted : (a : ℕ) (b : Bool) (ls now : List Letter) → (d ≡ a → ⊥) → (if (d == a) && b then ls else now) ≡ now
  unposted a b ls now ne = ap (λ (x : Bool). if x && b then ls else now) (ne_eqb d a ne)

  pub accepted_less : (e : WorldEvent) → (d ≡ place e → ⊥) → Less ((accepted o w e).links.queue d t)
  accepted_less (WorldEvent.At a (Event.Calling c)) ne =
      inl (unposted a (not (w.links.closed t)) _ (w.links.queue d t) ne)
  accepted_less (WorldEvent.At a Event.Retry) ne = inl (unposted a (not (w.links.closed t)) _ (w.links.queue d t) ne)
  accepted_less (WorldEvent.At a (Event.Exiting p)) ne = inl (unposted a (not (w.links.closed t)) _ (w.links.queue d t) ne)
  accepted_less (WorldEvent.At a Event.Leave) ne = go (t == a)
    where
      go : (b : Bool) → Less (if b then [] else (if (d == a) && not (w.links.closed t)
          then w.links.queue d t ++ sent_to t (turn_of o w (WorldEvent.At a Event.Leave)).sends else w.links.queue d t))
      go true = inr (inr refl)
      go false = inl (unposted a (not (w.links.closed t)) _ (w.links.queue d t) ne)
  accepted_less (WorldEvent.Deliver f x) ne = go (d == f && (t == x))
    where
      u : List Letter → List Letter
      u ls = ls ++ sent_to t (turn_of o w (WorldEvent.Deliver f x)).sends

      go : (b : Bool) → Less (if (d == x) && not (w.links.closed t)
          then u (if b then drop 1 (w.links.queue d t) else w.links.queue d t)
          else (if b then drop 1 (w.links.queue d t) else w.links.queue d t))
      go true = inr (inl (unposted x (not (w.links.closed t)) (u (drop 1 (w.links.queue d t))) (drop 1 (w.links.queue d t)) ne))
      go false = inl (unposted x (not (w.links.closed t)) (u (w.links.queue d t)) (w.links.queue d t) ne)

  -- a node that has left makes no turn
  pub happens_less : (e : WorldEvent) → left w d ≡ true → Less ((happens o w e).links.queue d t)
  happens_less e gone = go (refusal o w e) refl
    where
      go : (r : Option Refusal) → refusal o w e ≡ r → Less ((if is_none r then accepted o w e else w).links.queue d t)
      go None q = accepted_less e (λ same. cc (gone, ap (left w) same, (unrefused_by o w e q).1))
      go (Some r) q = inl refl

module _ (o : NamedOpening) (w : NamedWorld) (s : Sound o w) where
  -- what each node has sent to the present node of t
  abbrev queue_from : ℕ → ℕ → List Letter
  queue_from t n = w.world.links.queue n (present_node o w t)

  abbrev nodes : ℕ → List ℕ
  nodes f = first_nodes o f (w.present f)

  abbrev oldest : ℕ → ℕ → Option ℕ
  oldest f t = find (λ n. not (is_nil (queue_from t n))) (nodes f)

  has_present : (f : ℕ) → Contains (nodes f) (present_node o w f)
  has_present f = first_has o f (w.present f) (present_node o w f) (name-node o f (w.present f) (s.present f))
      (let c : creation_of o (present_node o w f) ≡ w.present f = creation-node o f (w.present f) (s.present f) in omega (arith, c))

  front : (f t : ℕ) (u : Option ℕ) → oldest f t ≡ u → is_nil (queue_from t (or_present o w f u)) ≡ false
      → (l : Letter) × (ls : List Letter) × (rest : List Sent) × (queue_from t (or_present o w f u) ≡ l ∷ ls)
      × (named_queue o w f t ≡ record { sender = or_present o w f u; letter = l } ∷ rest)
  front f t None e i = absurd (cc (
    i,
    not-false (is_nil (queue_from t (present_node o w f)))
        (find_none (λ n. not (is_nil (queue_from t n))) (nodes f) e (present_node o w f) (has_present f)),
  ))
  front f t (Some n) e i = go (queue_from t n) refl i
    where
      go : (ks : List Letter) → queue_from t n ≡ ks → is_nil ks ≡ false
          → (l : Letter) × (ls : List Letter) × (rest : List Sent) × (queue_from t n ≡ l ∷ ls)
          × (named_queue o w f t ≡ record { sender = n; letter = l } ∷ rest)
      go [] q k = cc
      go (l ∷ ls) q k =
          let more : (rest : List Sent) × (letters_of (queue_from t) (nodes f) ≡ record { sender = n; letter = l } ∷ rest) =
          first_waits (queue_from t) (nodes f) n l ls e q in
          (l, ls, more.0, q, more.1)

  empty : (f t : ℕ) (u : Option ℕ) → oldest f t ≡ u → is_nil (queue_from t (or_present o w f u)) ≡ true → named_queue o w f t ≡ []
  empty f t None e i = none_waits (queue_from t) (nodes f) e
  empty f t (Some n) e i = absurd (cc (i, found_waits (queue_from t) (nodes f) n e))

  -- a delivery that is refused so finds its link empty
  refused_as : (e : WorldEvent) → plain_refusal o w e ≡ Some (Plain EmptyLink) → refusal (opening_of o) w.world e ≡ Some EmptyLink
  refused_as e r = go (has_started o w (other e)) (refusal (opening_of o) w.world e) r
    where
      same : (y : Refusal) → Some (Plain y) ≡ Some (Plain EmptyLink) → y ≡ EmptyLink
      same y q = cc

      go : (b : Bool) (x : Option Refusal) → (if b then option_map Plain x else Some (Plain NoSuchNode)) ≡ Some (Plain EmptyLink)
          → x ≡ Some EmptyLink
      go true (Some y) q = ap (λ (z : Refusal). let r : Option Refusal = Some z in r) (same y q)
      go true None q = absurd (cc q)
      go false x q = absurd (cc q)

  -- an empty list is refused so
  refused : (f t : ℕ) → is_name o f ≡ true → is_name o t ≡ true → left w.world (present_node o w t) ≡ false → named_queue o w f t ≡ []
      → plain_refusal o w (WorldEvent.Deliver (sender_to o w f t) (present_node o w t)) ≡ Some (Plain EmptyLink)
  refused f t known to runs none = go (oldest f t) refl
    where
      inside : (x : ℕ) → is_name o x ≡ true → in_world (opening_of o) (present_node o w x) ≡ true
      inside x e = inside-name o (present_node o w x) ∙ ap (is_name o) (name-node o x (w.present x) (s.present x)) ∙ e

      by : (b c d e i : Bool) → b ≡ true → c ≡ true → d ≡ true → e ≡ false → i ≡ true
          → (if b then option_map Plain (delivered (opening_of o) w.world f t (not c || not d) e i) else Some (Plain NoSuchNode))
          ≡ Some (Plain EmptyLink)
      by b c d e i p q r k l = rw (p, q, r, k, l) refl

      go : (u : Option ℕ) → oldest f t ≡ u
          → plain_refusal o w (WorldEvent.Deliver (or_present o w f u) (present_node o w t)) ≡ Some (Plain EmptyLink)
      go None e = by (has_started o w (present_node o w f)) (in_world (opening_of o) (present_node o w t))
          (in_world (opening_of o) (present_node o w f)) (left w.world (present_node o w t))
          (is_nil (queue_from t (present_node o w f))) (present_started o w s f) (inside t to) (inside f known) runs
          (not-false (is_nil (queue_from t (present_node o w f)))
          (find_none (λ n. not (is_nil (queue_from t n))) (nodes f) e (present_node o w f) (has_present f)))
      go (Some n) e =
          let x : (l : Letter) × (ls : List Letter) × (rest : List Sent) × (queue_from t n ≡ l ∷ ls)
          × (named_queue o w f t ≡ record { sender = n; letter = l } ∷ rest) =
          front f t (Some n) e (found_waits (queue_from t) (nodes f) n e) in
          let y : named_queue o w f t ≡ record { sender = n; letter = x.0 } ∷ x.2 = x.4 in absurd (cc (none, y))

  -- the world behind a delivery
  module _ (f t : ℕ) (r : named_refusal o w (NamedEvent.Deliver f t) ≡ None) where
    abbrev sender : ℕ
    sender = sender_to o w f t

    abbrev reader : ℕ
    reader = present_node o w t

    abbrev delivery : WorldEvent
    delivery = WorldEvent.Deliver sender reader

    accepts : refusal (opening_of o) w.world delivery ≡ None
    accepts = (unrefused o w s delivery r).1

    abbrev later : NamedWorld
    later = record { world = accepted (opening_of o) w.world delivery; present = w.present }

    happened : happens_named o w (NamedEvent.Deliver f t) ≡ later
    happened = ap (λ (x : Option NamedRefusal). if is_none x then accepted_named o w (NamedEvent.Deliver f t) else w) r
        ∙ ap (λ (x : Option Refusal). let v : NamedWorld = record {
          world = if is_none x then accepted (opening_of o) w.world delivery else w.world;
          present = w.present;
        } in v) accepts

    abbrev posts : List Letter
    posts = sent_to reader (turn_of (opening_of o) w.world delivery).sends

    -- the links to the reader, the letter being taken, and behind its turn
    abbrev shorter : ℕ → List Letter
    shorter c = if c == sender && (reader == reader) then drop 1 (queue_from t c) else queue_from t c

    abbrev after : ℕ → List Letter
    after c = if c == reader && not (w.world.links.closed reader) then shorter c ++ posts else shorter c

    shorter_here : shorter sender ≡ drop 1 (queue_from t sender)
    shorter_here = ap (λ (b : Bool). if b && (reader == reader) then drop 1 (queue_from t sender) else queue_from t sender)
        (eq-eqb sender sender refl)
        ∙ ap (λ (b : Bool). if b then drop 1 (queue_from t sender) else queue_from t sender) (eq-eqb reader reader refl)

    shorter_there : (c : ℕ) → (c ≡ sender → ⊥) → shorter c ≡ queue_from t c
    shorter_there c ne = ap (λ (b : Bool). if b && (reader == reader) then drop 1 (queue_from t c) else queue_from t c)
        (ne_eqb c sender ne)

    after_here : after reader ≡ shorter reader ++ posts
    after_here = ap (λ (b : Bool). if b && not (w.world.links.closed reader) then shorter reader ++ posts else shorter reader)
        (eq-eqb reader reader refl)
        ∙ ap (λ (b : Bool). if not b then shorter reader ++ posts else shorter reader)
        (unrefused_by (opening_of o) w.world delivery accepts).1

    after_there : (c : ℕ) → (c ≡ reader → ⊥) → after c ≡ shorter c
    after_there c ne = ap (λ (b : Bool). if b && not (w.world.links.closed reader) then shorter c ++ posts else shorter c)
        (ne_eqb c reader ne)

    found : oldest f t ≡ Some sender
    found = go (oldest f t) refl (accepted_waits (opening_of o) w.world sender reader accepts)
      where
        go : (u : Option ℕ) → oldest f t ≡ u → is_nil (queue_from t (or_present o w f u)) ≡ false
            → oldest f t ≡ Some (or_present o w f u)
        go None e i = absurd (cc (
          i,
          not-false (is_nil (queue_from t (present_node o w f)))
              (find_none (λ n. not (is_nil (queue_from t n))) (nodes f) e (present_node o w f) (has_present f)),
        ))
        go (Some n) e i = e

    rising : Rise (nodes f)
    rising = first_rises o f (w.present f) (s.present f).last

    takes_front : letters_of shorter (nodes f) ≡ drop 1 (letters_of (queue_from t) (nodes f))
    takes_front = taken_front (queue_from t) shorter sender shorter_here shorter_there (nodes f) (distinct_of (nodes f) rising) found

    behind_other : (f ≡ t → ⊥) → named_queue o (happens_named o w (NamedEvent.Deliver f t)) f t ≡ drop 1 (named_queue o w f t)
    behind_other ne = ap (λ (v : NamedWorld). named_queue o v f t) happened
        ∙ letters_same shorter after (nodes f) (λ c i. after_there c (λ same. ne (sym (in_first o f (w.present f) c (s.present f).last i).0
        ∙ ap (name_of o) same ∙ name-node o t (w.present t) (s.present t)))) ∙ takes_front

  behind_own : (t : ℕ) (r : named_refusal o w (NamedEvent.Deliver t t) ≡ None)
      → named_queue o (happens_named o w (NamedEvent.Deliver t t)) t t ≡ drop 1 (named_queue o w t t)
      ++ sent_by (present_node o w t) (posts t t r)
  behind_own t r = ap (λ (v : NamedWorld). named_queue o v t t) (happened t t r)
      ∙ subst (λ (xs : List ℕ). letters_of (after t t r) xs ≡ letters_of (shorter t t r) xs ++ sent_by (present_node o w t) (posts t t r))
      (sym parts.1) (posted_last (shorter t t r) (after t t r) (present_node o w t) (posts t t r) (after_here t t r) (after_there t t r)
      parts.0 (last_once parts.0 (present_node o w t) (subst (λ (xs : List ℕ). Rise xs) parts.1 (rising t t r))))
      ∙ ap (λ (ss : List Sent). ss ++ sent_by (present_node o w t) (posts t t r)) (takes_front t t r)
    where
      parts : (ys : List ℕ) × (nodes t ≡ ys ++ present_node o w t ∷ [])
      parts = with_last o t (w.present t) (s.present t).first

  older : (e : NamedEvent) (d t : ℕ) → IsReplaced o w d
      → Less (opening_of o) w.world d t ((happens_named o w e).world.links.queue d t)
  older e d t l = go (named_refusal o w e) refl
    where
      gone : left w.world d ≡ true
      gone = s.older_left d l

      by : (e : NamedEvent) → named_refusal o w e ≡ None
          → Less (opening_of o) w.world d t ((accepted_named o w e).world.links.queue d t)
      by (NamedEvent.At x k) r = happens_less (opening_of o) w.world d t (WorldEvent.At (present_node o w x) k) gone
      by (NamedEvent.AtNode n k) r = happens_less (opening_of o) w.world d t (WorldEvent.At n k) gone
      by (NamedEvent.Deliver f y) r =
          happens_less (opening_of o) w.world d t (WorldEvent.Deliver (sender_to o w f y) (present_node o w y)) gone
      by (NamedEvent.Restart x) r =
          let new : StartsAnew o w x (accepted_named o w (NamedEvent.Restart x))
          (all_answers (opening_of o) w.world (plain o w (NamedEvent.Restart x))) = starts_anew o w s x (may_restart o w x r) in
          elim (cases_eq t (next_node o w x)) [
            | inl same ↦ inr (inr (ap (λ (y : ℕ). (accepted_named o w (NamedEvent.Restart x)).world.links.queue d y) same ∙ new.here d))
            | inr ne ↦ inl (new.elsewhere d t ne)
          ]

      go : (r : Option NamedRefusal) → named_refusal o w e ≡ r
          → Less (opening_of o) w.world d t ((if is_none r then accepted_named o w e else w).world.links.queue d t)
      go None q = by e q
      go (Some r) q = inl refl

  by_name : LinksAreByName o w
  by_name = record {
    front = λ f t r. front f t (oldest f t) refl (accepted_waits (opening_of o) w.world (sender_to o w f t) (present_node o w t)
        (unrefused o w s (WorldEvent.Deliver (sender_to o w f t) (present_node o w t)) r).1);
    behind = λ f t ne r. behind_other f t r ne;
    behind_own = behind_own;
    refused = refused;
    empty = λ f t r. empty f t (oldest f t) refl (refused_empty (opening_of o) w.world (sender_to o w f t) (present_node o w t)
        (refused_as (WorldEvent.Deliver (sender_to o w f t) (present_node o w t)) r));
    older = older;
  }

pub links_are_always_by_name : LinksAreAlwaysByName
links_are_always_by_name o es = by_name o (after_events o es) (always o es)
