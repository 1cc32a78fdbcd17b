-- What a mail is behind each of its steps.
use Rattle.std.proofs.Common.{ℕ, true, false, ◌≡◌, ◌<◌, Option, Some, None, List, [], ◌∷◌, length, map, refl, sym, ap, subst, ◌∙◌, inl, inr}
use Rattle.std.specs.Prelude.{◌&&◌, ◌||◌, is_none, slice_get, Result, OnOk, IfErr, IfSome, if◌then◌else◌, ◌==◌}
use Rattle.std.specs.Option.{option_map}
use Rattle.std.specs.List.{All}
use Rattle.std.proofs.lemmas.List.Elements.{All-head, All-tail}
use Rattle.std.proofs.lemmas.Bool.{cases_eq, eq-eqb, ne_eqb, false≢true}
use Rattle.registry_model.specs.Process.{Nodes, with_node}
use Rattle.protocol_model.specs.Links.{Links, is_nil, posted, taken, closed_out}
use Rattle.term.specs.Nodes.{name_of}
use Rattle.term.specs.NodeSets.{set_of, with_older, succeeded}
use Rattle.term.proofs.Older.{held}
use Rattle.link.specs.declared.faults.LinkFault.{LinkFault}
use Rattle.link.specs.Faults.{IsStranger}
use Rattle.link.specs.declared.link_place.LinkPlace.{LinkPlace}
use Rattle.link.specs.MeshState.{MeshState, IsWithin, only_to, place, node_at, from_of, to_of, seen as on_mesh}
use Rattle.link.specs.Reopening.{reopened}
use Rattle.node_core.specs.declared.Letter.{Letter}
use Rattle.node_core.specs.CoreState.{IsNext}
use Rattle.node_core.proofs.Gone.{stands, told_is, left_too}
use Rattle.node_core.proofs.Replacing.{left_then}
use Rattle.cluster_world.specs.declared.admission.Delivery.{Delivery}
use Rattle.cluster_world.specs.Links.{SentLetter, Unsent, letters_to, rest_as, earlier, with_unsent, IsBetween, IsFirstSender, IsLeastOpen, WaitsFirst}
use Rattle.cluster_world.specs.Mail.{Mailed, IsSound, AreOwn, on_links, links_of}
use Rattle.cluster_world.proofs.Mailing.{Fits, IsOf, by_nodes, nothing_at, oldest_first, sender_started, fits_of, sound_of, fits_posted, posted_by, fits_taken, taken_by, fits_closed, closed_by, fits_reopened, reopened_by, name_stands, link_stands, known_so, front_of}
use Rattle.cluster_world.proofs.Listed.{known_place}
use Rattle.cluster_world.proofs.Outboxes.{closed_as, closed_behind, first_still, first_unsent, none_unsent, waits_with, rest_posts, shut_posts}
use Rattle.cluster_world.proofs.Posting.{posted-cons}

-- a link between nodes is on the mesh of a mail that contracts see as w
pub link_there : (h : Mailed) → IsSound h → (w : Mailed) → h ≡ w → (k : LinkPlace) (x t : ℕ) → IsBetween k x t w.nodes
    → IsWithin k h.mesh × (from_of k h.mesh ≡ x) × (to_of k h.mesh ≡ name_of t)
link_there h sound w is k x t link =
    link_stands h sound k x t (subst (λ (m : Mailed). IsBetween k x t m.nodes) (sym is) link)

module _ (h : Mailed) (sound : IsSound h) where
  module _ (a r : ℕ) (l : Letter) (k : MeshState SentLetter) (here : set_of h.nodes a ≡ true) (started : with_older h.nodes r ≡ true)
      (stays : with_older h.departed r ≡ false) (same : k.nodes ≡ h.mesh.nodes)
      (put : on_mesh k ≡ posted (name_of a) (only_to (name_of r) (record { sender = a; letter = l })) (on_mesh h.mesh)) where
    -- a letter of a node at present was put on its link
    pub sound_posted : IsSound (record h { mesh = k })
    sound_posted = sound_of h.nodes h.departed k h.unsent sound.left (same ∙ sound.names)
        (subst (λ (w : Links SentLetter). Fits h.nodes h.departed w) (sym put)
        (fits_posted h.nodes h.departed (on_mesh h.mesh) sound.left (fits_of h sound) a r l here)) sound.own

    pub links_posted : on_links (record h { mesh = k }) ≡ posted a (only_to r l) (on_links h)
    links_posted = ap (λ (w : Links SentLetter). by_nodes h.nodes h.departed w) put
        ∙ posted_by h.nodes h.departed (on_mesh h.mesh) sound.left (fits_of h sound) a r l here
        (stands h.nodes h.departed r sound.left started stays)

  module _ (w : Mailed) (is : h ≡ w) (d : Delivery) (k : MeshState SentLetter) (all_sent : w.unsent ≡ None)
      (link : IsBetween d.link (name_of d.sender) d.receiver w.nodes)
      (first : IsFirstSender (name_of d.sender) d.receiver (Some d.sender) (links_of w)) (same : k.nodes ≡ h.mesh.nodes)
      (took : on_mesh k ≡ taken (from_of d.link h.mesh) (to_of d.link h.mesh) (on_mesh h.mesh)) where
    reader_here : set_of h.nodes d.receiver ≡ true
    reader_here = subst (λ (m : Mailed). set_of m.nodes d.receiver ≡ true) (sym is) (known_place w.nodes d.receiver d.link.receiver link.receiver)

    all_there : h.unsent ≡ None
    all_there = ap (λ (m : Mailed). m.unsent) is ∙ all_sent

    was_taken : on_mesh k ≡ taken (name_of d.sender) (name_of d.receiver) (on_mesh h.mesh)
    was_taken =
        let l = link_there h sound w is d.link (name_of d.sender) d.receiver link in
        took ∙ ap (λ (x : ℕ). taken x (to_of d.link h.mesh) (on_mesh h.mesh)) l.1
        ∙ ap (λ (y : ℕ). taken (name_of d.sender) y (on_mesh h.mesh)) l.2

    on_its_link : IsFirstSender (name_of d.sender) d.receiver (Some d.sender) (on_links h)
    on_its_link = subst (λ (u : Option Unsent). IsFirstSender (name_of d.sender) d.receiver (Some d.sender) (with_unsent u (on_links h))) all_there
        (subst (λ (m : Mailed). IsFirstSender (name_of d.sender) d.receiver (Some d.sender) (links_of m)) (sym is) first)

    -- the oldest letter was taken
    pub sound_taken : IsSound (record h { mesh = k })
    sound_taken = sound_of h.nodes h.departed k h.unsent sound.left (same ∙ sound.names)
        (subst (λ (w : Links SentLetter). Fits h.nodes h.departed w) (sym was_taken)
        (fits_taken h.nodes h.departed (on_mesh h.mesh) sound.left (fits_of h sound) (name_of d.sender) (name_of d.receiver))) sound.own

    pub links_taken : links_of (record h { mesh = k }) ≡ taken d.sender d.receiver (links_of w)
    links_taken = ap (λ (u : Option Unsent). with_unsent u (on_links (record h { mesh = k }))) all_there
        ∙ ap (λ (w : Links SentLetter). by_nodes h.nodes h.departed w) was_taken
        ∙ taken_by h.nodes h.departed (on_mesh h.mesh) sound.left (fits_of h sound) d.sender d.receiver reader_here on_its_link
        ∙ ap (λ (u : Option Unsent). taken d.sender d.receiver (with_unsent u (on_links h))) (sym all_there)
        ∙ ap (λ (m : Mailed). taken d.sender d.receiver (links_of m)) is

  module _ (d : ℕ) (more : List ℕ) (k : MeshState SentLetter) (result : Result Unit LinkFault) (here : set_of h.nodes d ≡ true)
      (same : k.nodes ≡ h.mesh.nodes) (ok : OnOk result (on_mesh k ≡ closed_out (name_of d) (on_mesh h.mesh)))
      (err : IfErr result (λ fault. IsStranger fault (name_of d) h.mesh))
      (are : (c : ℕ) → with_older more c ≡ (with_older h.nodes c && (with_older h.departed c || with_older (d ∷ []) c))) where
    was_closed : on_mesh k ≡ closed_out (name_of d) (on_mesh h.mesh)
    was_closed = known_so h sound d here result ok err

    with_it : with_older more ≡ with_node d (with_older h.departed)
    with_it = told_is h.nodes h.departed more d sound.left (held h.nodes d here) are

    -- a node at present was closed out
    pub sound_closed : IsSound (record { nodes = h.nodes; departed = more; mesh = k; unsent = h.unsent })
    sound_closed = sound_of h.nodes more k h.unsent (left_too h.nodes h.departed more d sound.left (held h.nodes d here) are)
        (same ∙ sound.names)
        (subst (λ (w : Links SentLetter). Fits h.nodes more w) (sym was_closed)
        (fits_closed h.nodes h.departed (on_mesh h.mesh) sound.left (fits_of h sound) d more here with_it)) sound.own

    pub links_closed : links_of (record { nodes = h.nodes; departed = more; mesh = k; unsent = h.unsent }) ≡ closed_out d (links_of h)
    links_closed = ap (λ (w : Links Letter). with_unsent h.unsent w)
        (ap (λ (w : Links SentLetter). by_nodes h.nodes more w) was_closed
        ∙ closed_by h.nodes h.departed (on_mesh h.mesh) sound.left (fits_of h sound) d more here with_it)
        ∙ closed_behind h.unsent d (on_links h)

  module _ (older next : ℕ) (now : List ℕ) (k : MeshState SentLetter) (result : Result Unit LinkFault) (is : IsNext older next)
      (known : set_of h.nodes older ≡ true) (away : with_older h.departed older ≡ true) (all : h.unsent ≡ None)
      (same : k.nodes ≡ h.mesh.nodes) (ok : OnOk result (on_mesh k ≡ reopened (name_of older) (on_mesh h.mesh)))
      (err : IfErr result (λ fault. IsStranger fault (name_of older) h.mesh)) (are : now ≡ succeeded older next h.nodes) where
    was_reopened : on_mesh k ≡ reopened (name_of older) (on_mesh h.mesh)
    was_reopened = known_so h sound older known result ok err

    names_stay : (ns : List ℕ) → map name_of ns ≡ map name_of (succeeded older next ns)
    names_stay [] = refl
    names_stay (n ∷ ns) = ap (λ (x : ℕ). x ∷ map name_of ns) (one n)
        ∙ ap (λ (xs : List ℕ). name_of (if n == older then next else n) ∷ xs) (names_stay ns)
      where
        one : (n : ℕ) → name_of n ≡ name_of (if n == older then next else n)
        one n = elim (cases_eq n older) [
          | inl e ↦ rw (eq-eqb n older e) (ap name_of e ∙ sym is.named)
          | inr ne ↦ rw (ne_eqb n older ne) refl
        ]

    -- the next node of a name is at present
    pub sound_reopened : IsSound (record { nodes = now; departed = h.departed; mesh = k; unsent = h.unsent })
    sound_reopened = subst (λ (ns : List ℕ). IsSound (record { nodes = ns; departed = h.departed; mesh = k; unsent = h.unsent })) (sym are)
        (sound_of (succeeded older next h.nodes) h.departed k h.unsent
        (left_then h.nodes h.departed older next sound.left is known away)
        (same ∙ sound.names ∙ names_stay h.nodes)
        (subst (λ (w : Links SentLetter). Fits (succeeded older next h.nodes) h.departed w) (sym was_reopened)
        (fits_reopened h.nodes h.departed (on_mesh h.mesh) sound.left (fits_of h sound) older next is known away))
        (subst (λ (u : Option Unsent). IfSome u (AreOwn (succeeded older next h.nodes))) (sym all) tt))

    pub links_reopened : links_of (record { nodes = now; departed = h.departed; mesh = k; unsent = h.unsent }) ≡ links_of h
    links_reopened = ap (λ (u : Option Unsent). with_unsent u (by_nodes now h.departed (on_mesh k))) all
        ∙ ap (λ (ns : List ℕ). by_nodes ns h.departed (on_mesh k)) are
        ∙ ap (λ (w : Links SentLetter). by_nodes (succeeded older next h.nodes) h.departed w) was_reopened
        ∙ reopened_by h.nodes h.departed (on_mesh h.mesh) sound.left (fits_of h sound) older next is known away
        ∙ ap (λ (u : Option Unsent). with_unsent u (on_links h)) (sym all)

module _ (h : Mailed) (sound : IsSound h) where
  -- the front of a link by name is of the first sender
  pub found_first : (x t y z a : ℕ) (s : SentLetter) → y ≡ x → z ≡ name_of t → a ≡ s.sender → set_of h.nodes t ≡ true
      → Some s ≡ slice_get ((on_mesh h.mesh).queue y z) 0 → IsFirstSender x t (Some a) (links_of h)
  found_first x t y z a s from to is here front = go ((on_mesh h.mesh).queue x (name_of t)) refl
      (front ∙ ap (λ (v : ℕ). slice_get ((on_mesh h.mesh).queue v z) 0) from
      ∙ ap (λ (v : ℕ). slice_get ((on_mesh h.mesh).queue x v) 0) to)
    where
      some_is : (s r : SentLetter) → Some s ≡ Some r → s ≡ r
      some_is s r e = cc

      go : (q : List SentLetter) → (on_mesh h.mesh).queue x (name_of t) ≡ q → Some s ≡ slice_get q 0
          → IsFirstSender x t (Some a) (links_of h)
      go [] are f = cc
      go (r ∷ q) are f = subst (λ (b : ℕ). IsFirstSender x t (Some b) (links_of h))
          (sym (is ∙ ap (λ (r : SentLetter). r.sender) (some_is s r f)))
          (first_still h.nodes h.departed sound.left x t r.sender (on_links h) h.unsent sound.own
          (All-head (IsOf h.nodes x) r q (subst (λ (ss : List SentLetter). All (IsOf h.nodes x) ss) are (sound.named x (name_of t)))).1
          (oldest_first h.nodes h.departed (on_mesh h.mesh) sound.left (fits_of h sound) x t r q here are))

  -- without one no letter of the name is on its link
  pub none_found : (x t y z : ℕ) → y ≡ x → z ≡ name_of t → None ≡ slice_get ((on_mesh h.mesh).queue y z) 0
      → (f : ℕ) → name_of f ≡ x → (on_links h).queue f t ≡ []
  none_found x t y z from to none f named = nothing_at h.nodes h.departed (on_mesh h.mesh) f t
      (ap (λ (v : ℕ). (on_mesh h.mesh).queue v (name_of t)) named ∙ nil ((on_mesh h.mesh).queue x (name_of t))
      (none ∙ ap (λ (v : ℕ). slice_get ((on_mesh h.mesh).queue v z) 0) from
      ∙ ap (λ (v : ℕ). slice_get ((on_mesh h.mesh).queue x v) 0) to))
    where
      nil : (q : List SentLetter) → None ≡ slice_get q 0 → q ≡ []
      nil [] e = refl
      nil (r ∷ q) e = cc

  -- nor is one elsewhere
  pub none_at_all : (x t : ℕ) → ((f : ℕ) → name_of f ≡ x → (on_links h).queue f t ≡ []) → h.unsent ≡ None
      → (f : ℕ) → name_of f ≡ x → (links_of h).queue f t ≡ []
  none_at_all x t none all = subst (λ (u : Option Unsent). IsFirstSender x t None (with_unsent u (on_links h))) (sym all) none

  -- an outbox has the first one, or it has none
  pub outbox_first : (x t a : ℕ) (u : Unsent) → ((f : ℕ) → name_of f ≡ x → (on_links h).queue f t ≡ []) → h.unsent ≡ Some u
      → a ≡ u.sender → name_of u.sender ≡ x → (links_of h).closed t ≡ false → is_nil (letters_to t u.letters) ≡ false
      → IsFirstSender x t (Some a) (links_of h)
  outbox_first x t a u none all is named up some = subst (λ (b : ℕ). IsFirstSender x t (Some b) (links_of h)) (sym is)
      (subst (λ (o : Option Unsent). IsFirstSender x t (Some u.sender) (with_unsent o (on_links h))) (sym all)
      (first_unsent x t (on_links h) u (λ f name less. none f name) named (sym (ap (λ (n : Nodes). n t) (closed_as h.unsent (on_links h))) ∙ up) some))

  pub outbox_none : (x t : ℕ) (u : Unsent) → ((f : ℕ) → name_of f ≡ x → (on_links h).queue f t ≡ []) → h.unsent ≡ Some u
      → (name_of u.sender ≡ x → (links_of h).closed t ≡ false → is_nil (letters_to t u.letters) ≡ true)
      → (f : ℕ) → name_of f ≡ x → (links_of h).queue f t ≡ []
  outbox_none x t u none all gone = subst (λ (o : Option Unsent). IsFirstSender x t None (with_unsent o (on_links h))) (sym all)
      (none_unsent x t (on_links h) u none (λ named up. nil (letters_to t u.letters)
      (gone named (ap (λ (n : Nodes). n t) (closed_as h.unsent (on_links h)) ∙ up))))
    where
      nil : (ls : List Letter) → is_nil ls ≡ true → ls ≡ []
      nil [] e = refl
      nil (l ∷ ls) e = cc

  -- the first link of all, by those that are on the mesh and the outbox
  pub waits_of_all : (u : Unsent) (first : Option (ℕ × ℕ)) (r : Option ℕ) → h.unsent ≡ Some u → WaitsFirst first (on_links h)
      → IsLeastOpen (with_older h.departed) u.letters r → WaitsFirst (earlier first u.sender r) (links_of h)
  waits_of_all u first r all on least =
      subst (λ (o : Option Unsent). WaitsFirst (earlier first u.sender r) (with_unsent o (on_links h))) (sym all)
      (waits_with h.nodes h.departed sound.left (on_links h)
      (sender_started h.nodes h.departed (on_mesh h.mesh) sound.left (fits_of h sound)) u
      (subst (λ (o : Option Unsent). IfSome o (AreOwn h.nodes)) all sound.own) first r on least)

-- the letter that a delivery finds at the front of its link
pub letter_found : (h : Mailed) → IsSound h → (w : Mailed) → h ≡ w → (d : Delivery) → w.unsent ≡ None
    → IsBetween d.link (name_of d.sender) d.receiver w.nodes
    → IsFirstSender (name_of d.sender) d.receiver (Some d.sender) (links_of w) → (r : Option SentLetter)
    → r ≡ slice_get ((on_mesh h.mesh).queue (from_of d.link h.mesh) (to_of d.link h.mesh)) 0
    → option_map (λ (s : SentLetter). s.letter) r ≡ slice_get ((links_of w).queue d.sender d.receiver) 0
letter_found h sound w is d none link first r e =
    let l = link_there h sound w is d.link (name_of d.sender) d.receiver link in
    let all : h.unsent ≡ None = ap (λ (m : Mailed). m.unsent) is ∙ none in
    front_of h sound d.sender d.receiver
    (subst (λ (m : Mailed). set_of m.nodes d.receiver ≡ true) (sym is) (known_place w.nodes d.receiver d.link.receiver link.receiver))
    (subst (λ (u : Option Unsent). IsFirstSender (name_of d.sender) d.receiver (Some d.sender) (with_unsent u (on_links h))) all
    (subst (λ (m : Mailed). IsFirstSender (name_of d.sender) d.receiver (Some d.sender) (links_of m)) (sym is) first)) r
    (e ∙ ap (λ (v : ℕ). slice_get ((on_mesh h.mesh).queue v (to_of d.link h.mesh)) 0) l.1
    ∙ ap (λ (v : ℕ). slice_get ((on_mesh h.mesh).queue (name_of d.sender) v) 0) l.2)
    ∙ ap (λ (u : Option Unsent). slice_get ((with_unsent u (on_links h)).queue d.sender d.receiver) 0) (sym all)
    ∙ ap (λ (m : Mailed). slice_get ((links_of m).queue d.sender d.receiver) 0) is

-- Amid the sending of a node's letters: what is left, behind what is on the links by now, makes of them what all the letters would
-- have made of the links at first
pub record IsSending (a : ℕ) (w : Mailed) (ws : List (ℕ × Letter)) (m : Mailed) (ls : List (ℕ × Letter)) : Type 0 where
  pub nodes : m.nodes ≡ w.nodes
  pub departed : m.departed ≡ w.departed
  pub unsent : m.unsent ≡ w.unsent
  pub names : m.mesh.nodes ≡ w.mesh.nodes
  pub sound : IsSound m
  pub within : All (λ (s : ℕ × Letter). with_older w.nodes s.0 ≡ true) ls
  pub links : posted a (λ t. letters_to t ls) (on_links m) ≡ posted a (λ t. letters_to t ws) (on_links w)

module _ (a : ℕ) (w : Mailed) (ws : List (ℕ × Letter)) where
  abbrev Started : ℕ × Letter → Type 0
  Started s = with_older w.nodes s.0 ≡ true

  -- none is sent yet
  pub sending_first : (m : Mailed) → m ≡ w → IsSound m → All Started ws → IsSending a w ws m ws
  sending_first m is sound within = record {
    nodes = ap (λ (h : Mailed). h.nodes) is;
    departed = ap (λ (h : Mailed). h.departed) is;
    unsent = ap (λ (h : Mailed). h.unsent) is;
    names = ap (λ (h : Mailed). h.mesh.nodes) is;
    sound = sound;
    within = within;
    links = ap (λ (h : Mailed). posted a (λ t. letters_to t ws) (on_links h)) is;
  }

  -- the sender's name stays at its place
  pub sending_place : (m : Mailed) (ls : List (ℕ × Letter)) → IsSending a w ws m ls → (i : ℕ) → place a w.nodes ≡ Some i
      → (i < length m.mesh.nodes) × (node_at i m.mesh ≡ name_of a)
  sending_place m ls S i at = name_stands m S.sound a i (ap (place a) S.nodes ∙ at)

  module _ (m : Mailed) (ls rest : List (ℕ × Letter)) (r : ℕ) (l : Letter) (S : IsSending a w ws m ls)
      (are : ls ≡ (r, l) ∷ rest) where
    each : All Started ((r, l) ∷ rest)
    each = subst (λ (ss : List (ℕ × Letter)). All Started ss) are S.within

    posts : posted a (λ t. letters_to t ((r, l) ∷ rest)) (on_links m) ≡ posted a (λ t. letters_to t ws) (on_links w)
    posts = ap (λ (ss : List (ℕ × Letter)). posted a (λ t. letters_to t ss) (on_links m)) (sym are) ∙ S.links

    -- the first was for one that has left
    pub sending_past : with_older m.departed r ≡ true → IsSending a w ws m rest
    sending_past shut = record {
      nodes = S.nodes;
      departed = S.departed;
      unsent = S.unsent;
      names = S.names;
      sound = S.sound;
      within = All-tail Started (r, l) rest each;
      links = shut_posts a (r, l) rest (on_links m) shut ∙ posts;
    }

    -- it is on its link
    pub sending_one : (k : MeshState SentLetter) (n y : ℕ) (s : SentLetter) → set_of w.nodes a ≡ true → with_older m.departed r ≡ false
        → n ≡ name_of a → y ≡ name_of r → s ≡ record { sender = a; letter = l } → k.nodes ≡ m.mesh.nodes
        → on_mesh k ≡ posted n (only_to y s) (on_mesh m.mesh) → IsSending a w ws (record m { mesh = k }) rest
    sending_one k n y s here stays from to is same put = record {
      nodes = S.nodes;
      departed = S.departed;
      unsent = S.unsent;
      names = same ∙ S.names;
      sound = sound_posted m S.sound a r l k at started stays same on;
      within = All-tail Started (r, l) rest each;
      links = ap (λ (v : Links Letter). posted a (λ t. letters_to t rest) v)
          (links_posted m S.sound a r l k at started stays same on)
          ∙ posted-cons a (r, l) rest (on_links m) ∙ posts;
    }
      where
        at : set_of m.nodes a ≡ true
        at = ap (λ (ns : List ℕ). set_of ns a) S.nodes ∙ here

        started : with_older m.nodes r ≡ true
        started = ap (λ (ns : List ℕ). with_older ns r) S.nodes ∙ All-head Started (r, l) rest each

        on : on_mesh k ≡ posted (name_of a) (only_to (name_of r) (record { sender = a; letter = l })) (on_mesh m.mesh)
        on = put ∙ ap (λ (x : ℕ). posted x (only_to y s) (on_mesh m.mesh)) from
            ∙ ap (λ (x : ℕ). posted (name_of a) (only_to x s) (on_mesh m.mesh)) to
            ∙ ap (λ (x : SentLetter). posted (name_of a) (only_to (name_of r) x) (on_mesh m.mesh)) is

    -- memory was refused, and it is put back in front of the others
    pub sending_back : (k : MeshState SentLetter) (qs : List (ℕ × Letter)) (j : Letter) → k ≡ m.mesh → qs ≡ (r, j) ∷ rest → j ≡ l
        → IsSending a w ws (record m { mesh = k }) qs
    sending_back k qs j same put is =
        subst (λ (e : MeshState SentLetter). IsSending a w ws (record m { mesh = e }) qs) (sym same)
        (subst (λ (ss : List (ℕ × Letter)). IsSending a w ws m ss)
        (are ∙ ap (λ (x : Letter). (r, x) ∷ rest) (sym is) ∙ sym put) S)

-- what was sent, and what is left of it in an outbox
pub links_left : (h w : Mailed) (p a : ℕ) (ls ws : List (ℕ × Letter)) (u : Option Unsent) → u ≡ rest_as p a ls → w.unsent ≡ None
    → posted a (λ t. letters_to t ls) (on_links h) ≡ posted a (λ t. letters_to t ws) (on_links w)
    → links_of (record h { unsent = u }) ≡ posted a (λ t. letters_to t ws) (links_of w)
links_left h w p a ls ws u is all posts =
    ap (λ (o : Option Unsent). with_unsent o (on_links h)) is ∙ rest_posts p a ls (on_links h) ∙ posts
    ∙ ap (λ (o : Option Unsent). posted a (λ t. letters_to t ws) (with_unsent o (on_links w))) (sym all)

-- an outbox that is taken out, and posted
pub links_drained : (h : Mailed) (u : Option Unsent) (x : Unsent) → u ≡ None → h.unsent ≡ Some x
    → posted x.sender (λ t. letters_to t x.letters) (links_of (record h { unsent = u })) ≡ links_of h
links_drained h u x none some =
    ap (λ (o : Option Unsent). posted x.sender (λ t. letters_to t x.letters) (with_unsent o (on_links h))) none
    ∙ ap (λ (o : Option Unsent). with_unsent o (on_links h)) (sym some)

-- its letters are of a node at present
pub outbox_own : (h : Mailed) → IsSound h → (x : Unsent) → h.unsent ≡ Some x → AreOwn h.nodes x
outbox_own h sound x some = subst (λ (o : Option Unsent). IfSome o (AreOwn h.nodes)) some sound.own

-- where nothing waits to be put there, what is on the links is all there is
pub all_on_links : (h : Mailed) → is_none h.unsent ≡ true → on_links h ≡ links_of h
all_on_links h e = go h.unsent e
  where
    go : (u : Option Unsent) → is_none u ≡ true → on_links h ≡ with_unsent u (on_links h)
    go None e = refl
    go (Some u) e = absurd (false≢true e)
