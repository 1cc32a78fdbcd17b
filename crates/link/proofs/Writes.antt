-- What is written to a mesh, seen as the protocol's links.
use Rattle.std.proofs.Common.{ℕ, Bool, true, false, ◌==◌, ◌≡◌, ◌<◌, ◌+◌, ◌*◌, Option, Some, None, List, [], ◌∷◌, ◌++◌, get_or, set, drop, refl, sym, ap, ◌∙◌, arith}
use Rattle.std.specs.Prelude.{not, ◌&&◌, if◌then◌else◌}
use Rattle.std.proofs.Math.Path.{fun_ext}
use Rattle.std.proofs.lemmas.Bool.{eq-eqb, ne_eqb}
use Rattle.std.proofs.lemmas.List.{append-nil}
use Rattle.registry_model.proofs.Updates.{by_test}
use Rattle.protocol_model.specs.Links.{Links, posted, taken, closed_out}
use Rattle.term.specs.declared.limits.TheConstants.{MOST_NODES}
use Rattle.link.specs.MeshState.{MeshState, IsWhole, place, link_at, seen, only_to}
use Rattle.link.specs.Reopening.{reopened}
use Rattle.term.proofs.NodePlaces.{place-Some, one_place}
use Rattle.link.proofs.Places.{link_at-Some, closed_at-Some, link_at-set, closed_at-set, read_there}

-- other lists on the links
abbrev pub with_queue : {L : Type 0} → Links L → (ℕ → ℕ → List L) → Links L
with_queue w q = record w { queue = q }

-- two ways to say what is on each link
pub queues_agree : {L : Type 0} (w : Links L) (p q : ℕ → ℕ → List L) → ((x y : ℕ) → p x y ≡ q x y) → with_queue w p
    ≡ with_queue w q
queues_agree w p q same = ap (with_queue w) (fun_ext (λ x. fun_ext (λ y. same x y)))

-- a letter at the back of its link
pub seen-push : {L : Type 0} (h : MeshState L) (f t i j : ℕ) (letter : L) (old new : List L) → IsWhole h
    → place f h.nodes ≡ Some i → place t h.nodes ≡ Some j
    → get_or h.closed j false ≡ false → old ≡ get_or h.links (i * MOST_NODES + j) old → new ≡ old ++ letter ∷ []
    → seen (record h { links = set h.links (i * MOST_NODES + j) new }) ≡ posted f (only_to t letter) (seen h)
seen-push {L} h f t i j letter old new whole e g running was is =
    queues_agree (seen h) _ (posted f (only_to t letter) (seen h)).queue
    (λ x y. link_at-set h.nodes h.links f t i j new whole.few whole.links e g x y ∙ each x y)
  where
    before : new ≡ (seen h).queue f t ++ letter ∷ []
    before = is ∙ ap (λ (ls : List L). ls ++ letter ∷ [])
        (read_there [] h.links (i * MOST_NODES + j) old
        (omega (arith, whole.few, whole.links, (place-Some f h.nodes i e).0, (place-Some t h.nodes j g).0)) was
        ∙ sym (link_at-Some (place f h.nodes) (place t h.nodes) i j h.links e g))

    nothing_more : (b : Bool) (ls : List L) → ls ≡ (if not b then ls ++ [] else ls)
    nothing_more true ls = refl
    nothing_more false ls = sym (append-nil ls)

    from_f : (y : ℕ) → (if y == t then new else (seen h).queue f y)
        ≡ (if not ((seen h).closed y) then (seen h).queue f y
        ++ (if y == t then letter ∷ [] else []) else (seen h).queue f y)
    from_f = by_test t (λ y b. (if b then new else (seen h).queue f y)
        ≡ (if not ((seen h).closed y) then (seen h).queue f y
        ++ (if b then letter ∷ [] else []) else (seen h).queue f y))
        (before ∙ ap (λ (b : Bool). if not b then (seen h).queue f t ++ letter ∷ [] else (seen h).queue f t)
        (sym (closed_at-Some (place t h.nodes) j h.closed g ∙ running)))
        (λ y ne. nothing_more ((seen h).closed y) ((seen h).queue f y))

    each : (x y : ℕ) → (if (x == f) && (y == t) then new else (seen h).queue x y)
        ≡ (posted f (only_to t letter) (seen h)).queue x y
    each x y = by_test f (λ x b. (if b && (y == t) then new else (seen h).queue x y)
        ≡ (if b && not ((seen h).closed y) then (seen h).queue x y
        ++ (if y == t then letter ∷ [] else []) else (seen h).queue x y))
        (from_f y) (λ x ne. refl) x

-- the oldest letter of a link is taken
pub seen-pop : {L : Type 0} (h : MeshState L) (f t i j : ℕ) (old new : List L) → IsWhole h
    → place f h.nodes ≡ Some i → place t h.nodes ≡ Some j
    → old ≡ get_or h.links (i * MOST_NODES + j) old → new ≡ drop 1 old
    → seen (record h { links = set h.links (i * MOST_NODES + j) new }) ≡ taken f t (seen h)
seen-pop {L} h f t i j old new whole e g was is =
    queues_agree (seen h) _ (taken f t (seen h)).queue
    (λ x y. link_at-set h.nodes h.links f t i j new whole.few whole.links e g x y ∙ each x y)
  where
    before : new ≡ drop 1 ((seen h).queue f t)
    before = is ∙ ap (λ (ls : List L). drop 1 ls) (
        read_there [] h.links (i * MOST_NODES + j) old
        (omega (arith, whole.few, whole.links, (place-Some f h.nodes i e).0, (place-Some t h.nodes j g).0)) was
        ∙ sym (link_at-Some (place f h.nodes) (place t h.nodes) i j h.links e g))

    each : (x y : ℕ) → (if (x == f) && (y == t) then new else (seen h).queue x y) ≡ (taken f t (seen h)).queue x y
    each x y = by_test f (λ x b. (if b && (y == t) then new else (seen h).queue x y)
        ≡ (if b && (y == t) then drop 1 ((seen h).queue x y) else (seen h).queue x y))
        (by_test t (λ y b. (if b then new else (seen h).queue f y)
        ≡ (if b then drop 1 ((seen h).queue f y) else (seen h).queue f y)) before (λ y ne. refl) y)
        (λ x ne. refl) x

-- a node was closed out: the links to it are empty, and all others as they were
pub seen-cleared : {L : Type 0} (h : MeshState L) (d j : ℕ) (links : List (List L)) → IsWhole h → place d h.nodes ≡ Some j
    → ((i k : ℕ) → i < MOST_NODES → k < MOST_NODES
    → get_or links (i * MOST_NODES + k) [] ≡ (if k == j then [] else get_or h.links (i * MOST_NODES + k) []))
    → seen (record h { links = links; closed = set h.closed j true }) ≡ closed_out d (seen h)
seen-cleared {L} h d j links whole e cleared =
    ap (λ (q : ℕ → ℕ → List L). record {
      queue = q;
      closed = (seen (record h { closed = set h.closed j true })).closed;
    })
    (fun_ext (λ x. fun_ext (λ y. each x y)))
    ∙ ap (λ (c : ℕ → Bool). record { queue = (closed_out d (seen h)).queue; closed = c })
    (fun_ext (λ x. closed_at-set h.nodes h.closed d j true whole.few whole.closed e x))
  where
    within : (a i : ℕ) → place a h.nodes ≡ Some i → i < MOST_NODES
    within a i q = omega (arith, whole.few, (place-Some a h.nodes i q).0)

    towards : (x : ℕ) (p : Option ℕ) → place x h.nodes ≡ p → link_at p (Some j) links ≡ []
    towards x None q = refl
    towards x (Some i) q = cleared i j (within x i q) (within d j e)
        ∙ ap (λ (b : Bool). if b then [] else get_or h.links (i * MOST_NODES + j) []) (eq-eqb j j refl)

    past : (x y : ℕ) → (y ≡ d → ⊥) → (p r : Option ℕ) → place x h.nodes ≡ p → place y h.nodes ≡ r → link_at p r links
        ≡ link_at p r h.links
    past x y ne None r q s = refl
    past x y ne (Some i) None q s = refl
    past x y ne (Some i) (Some k) q s = cleared i k (within x i q) (within y k s)
        ∙ ap (λ (b : Bool). if b then [] else get_or h.links (i * MOST_NODES + k) [])
        (ne_eqb k j (λ same. ne (one_place y d h.nodes j (s ∙ ap Some same) e)))

    each : (x y : ℕ) → link_at (place x h.nodes) (place y h.nodes) links ≡ (if y == d then [] else (seen h).queue x y)
    each x y = by_test d (λ y b. link_at (place x h.nodes) (place y h.nodes) links
        ≡ (if b then [] else (seen h).queue x y))
        (ap (λ (r : Option ℕ). link_at (place x h.nodes) r links) e ∙ towards x (place x h.nodes) refl)
        (λ y ne. past x y ne (place x h.nodes) (place y h.nodes) refl refl) y

-- a node was reopened: all links are as they were
pub seen-reopened : {L : Type 0} (h : MeshState L) (d j : ℕ) → IsWhole h → place d h.nodes ≡ Some j
    → seen (record h { closed = set h.closed j false }) ≡ reopened d (seen h)
seen-reopened h d j whole e = ap (λ (c : ℕ → Bool). record { queue = (seen h).queue; closed = c })
    (fun_ext (λ x. closed_at-set h.nodes h.closed d j false whole.few whole.closed e x))
