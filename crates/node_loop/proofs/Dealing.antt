-- What a node deals in over its links in a turn: its tray is sent, and an item is taken.
use Rattle.std.proofs.Common.{◌≡◌, ◌==◌, ◌<◌, ℕ, suc, Bool, true, false, List, [], ◌∷◌, ◌++◌, refl, sym, ap, subst, ◌∙◌, inl, inr, arith, append_assoc, append-nil, true≢false}
use Rattle.std.specs.Prelude.{if◌then◌else◌, ◌⊎◌, ◌||◌}
use Rattle.std.specs.List.{All, AllPairs}
use Rattle.std.specs.List.Sorted.{IsStrictlyIncreasing}
use Rattle.std.proofs.lemmas.Bool.{cases_eq, eq-eqb, ne_eqb}
use Rattle.std.proofs.lemmas.Grind.{flat_map-append}
use Rattle.std.proofs.lemmas.List.Kept.{AllPairs-from_increasing}
use Rattle.std.proofs.Math.Path.{fun_ext}
use Rattle.registry_model.proofs.Updates.{by_test, at_same, at_other}
use Rattle.protocol_model.specs.World.{Opening}
use Rattle.closings.specs.Alone.{Stamped as StampedLetter}
use Rattle.link.specs.declared.faults.LinkFault.{LinkFault}
use Rattle.term.specs.NodeSets.{set_of}
use Rattle.tray.specs.Held.{Waiting}
use Rattle.tray.specs.Draining.{Sends, DrainedAll}
use Rattle.node_loop.specs.declared.item.Item.{Item}
use Rattle.node_loop.specs.declared.item.Item.TheVariants.{Letter, Task}
use Rattle.node_loop.specs.Dealings.{Dealt, with_sent, with_taken, letter_in, letters_in, took, put, receivers, waiting_for, Deals}

-- each of these nodes stands there once
abbrev AreOnce : List ℕ → Type 0
AreOnce [] = Unit {0}
AreOnce (x ∷ xs) = (set_of xs x ≡ false) × AreOnce xs

-- so it is where they rise
none_above : (x : ℕ) (ys : List ℕ) → All (λ y. x < y) ys → set_of ys x ≡ false
none_above x [] h = refl
none_above x (y ∷ ys) h = rw (ne_eqb y x (apart (h 0 0 (omega arith)))) (none_above x ys (λ k d l. h (suc k) d (omega (arith, l))))
  where
    apart : x < y → y ≡ x → ⊥
    apart l e = omega (arith, l, e)

once_pairs : (xs : List ℕ) → AllPairs (λ x y. x < y) xs → AreOnce xs
once_pairs [] h = tt
once_pairs (x ∷ xs) h = (
  none_above x xs (λ k d l. h 0 (suc k) d (omega arith) (omega (arith, l))),
  once_pairs xs (λ i j d l m. h (suc i) (suc j) d (omega (arith, l)) (omega (arith, m))),
)

pub once : (xs : List ℕ) → IsStrictlyIncreasing xs → AreOnce xs
once xs h = once_pairs xs (AllPairs-from_increasing xs h)

-- of each node, the letter of an item that was taken from this one
abbrev pub letters_from : ℕ → Item → ℕ → List StampedLetter
letters_from from i f = if f == from then letter_in i else []

module _ {S : Type 0} (posts : S → ℕ → Item → S → Type 0) (refuses : S → ℕ → Item → LinkFault → Type 0) (takes : S → ℕ → Item → S → Type 0) (o : Opening) (inside : S → Bool) (dealt : S → Dealt) (D : Deals posts takes o inside dealt) where
  -- these items were sent to this node, and nothing else was dealt in
  pub record Sent (to : ℕ) (items : List Item) (d e : Dealt) : Type 0 where
    pub own : e.sent to ≡ d.sent to ++ items
    pub others : (t : ℕ) → (t ≡ to → ⊥) → e.sent t ≡ d.sent t
    pub taken : e.taken ≡ d.taken

  sends_all : (to : ℕ) (s : S) (items : List Item) (t : S) → inside s ≡ true → Sends posts to s items t
      → (inside t ≡ true) × Sent to items (dealt s) (dealt t)
  sends_all to s [] t here h = (
    ap inside (sym h) ∙ here,
    record {
      own = ap (λ (x : S). (dealt x).sent to) (sym h) ∙ sym (append-nil ((dealt s).sent to));
      others = λ x ne. ap (λ (y : S). (dealt y).sent x) (sym h);
      taken = ap (λ (x : S). (dealt x).taken) (sym h);
    },
  )
  sends_all to s (i ∷ items) t here h =
      let first : (inside h.0 ≡ true) × (dealt h.0 ≡ with_sent to i (dealt s)) = D.sends s to i h.0 here h.1 in
      let rest : (inside t ≡ true) × Sent to items (dealt h.0) (dealt t) = sends_all to h.0 items t first.0 h.2 in (
        rest.0,
        record {
          own = rest.1.own
              ∙ (ap (λ (l : List Item). l ++ items)
              (ap (λ (x : Dealt). x.sent to) first.1 ∙ at_same (dealt s).sent to ((dealt s).sent to ++ i ∷ []))
              ∙ append_assoc ((dealt s).sent to) (i ∷ []) items);
          others = λ x ne. rest.1.others x ne
              ∙ (ap (λ (y : Dealt). y.sent x) first.1 ∙ at_other (dealt s).sent to ((dealt s).sent to ++ i ∷ []) x ne);
          taken = rest.1.taken ∙ ap (λ (x : Dealt). x.taken) first.1;
        },
      )

  -- What was sent to each node and then what waits for it is what it was, and nothing was taken. To a node that isn't among these nothing was sent
  pub record Drains (vs ws : List (Waiting Item)) (d e : Dealt) : Type 0 where
    pub slots : receivers ws ≡ receivers vs
    pub same : (t : ℕ) → e.sent t ++ waiting_for t ws ≡ d.sent t ++ waiting_for t vs
    pub apart : (t : ℕ) → set_of (receivers vs) t ≡ false → e.sent t ≡ d.sent t
    pub taken : e.taken ≡ d.taken

  drains : (vs ws : List (Waiting Item)) (s t : S) → AreOnce (receivers vs) → inside s ≡ true → DrainedAll posts refuses vs s ws t
      → (inside t ≡ true) × Drains vs ws (dealt s) (dealt t)
  drains [] [] s t u here h = (
    ap inside (sym h) ∙ here,
    record {
      slots = refl;
      same = λ x. ap (λ (y : S). (dealt y).sent x ++ []) (sym h);
      apart = λ x e. ap (λ (y : S). (dealt y).sent x) (sym h);
      taken = ap (λ (y : S). (dealt y).taken) (sym h);
    },
  )
  drains [] (w ∷ ws) s t u here h = absurd h
  drains (v ∷ vs) [] s t u here h = absurd h
  drains (v ∷ vs) (w ∷ ws) s t u here h =
      let first : (inside h.0 ≡ true) × Sent v.receiver h.2.sent (dealt s) (dealt h.0) =
      sends_all v.receiver s h.2.sent h.0 here h.2.sends in
      let rest : (inside t ≡ true) × Drains vs ws (dealt h.0) (dealt t) = drains vs ws h.0 t u.1 first.0 h.3 in
      (rest.0, joined first.1 rest.1)
    where
      joined : Sent v.receiver h.2.sent (dealt s) (dealt h.0) → Drains vs ws (dealt h.0) (dealt t)
          → Drains (v ∷ vs) (w ∷ ws) (dealt s) (dealt t)
      joined first rest = record {
        slots = λ j. h.1 j ∷ rest.slots j;
        same = λ x. same_at x (cases_eq v.receiver x);
        apart = λ x e. apart_at x (cases_eq v.receiver x) e;
        taken = rest.taken ∙ first.taken;
      }
        where
          same_at : (x : ℕ) → (v.receiver ≡ x) ⊎ (v.receiver ≡ x → ⊥)
              → (dealt t).sent x ++ (if w.receiver == x then w.letters else waiting_for x ws)
              ≡ (dealt s).sent x ++ (if v.receiver == x then v.letters else waiting_for x vs)
          same_at x (inl e) = rw (eq-eqb v.receiver x e, eq-eqb w.receiver x (h.1 ∙ e))
              (subst (λ (y : ℕ). (dealt t).sent y ++ w.letters ≡ (dealt s).sent y ++ v.letters) e
              (ap (λ (l : List Item). l ++ w.letters) (rest.apart v.receiver u.0 ∙ first.own)
              ∙ (append_assoc ((dealt s).sent v.receiver) h.2.sent w.letters
              ∙ ap (λ (l : List Item). (dealt s).sent v.receiver ++ l) (sym h.2.split))))
          same_at x (inr ne) = rw (ne_eqb v.receiver x ne, ne_eqb w.receiver x (λ k. ne (sym h.1 ∙ k)))
              (rest.same x ∙ ap (λ (l : List Item). l ++ waiting_for x vs) (first.others x (λ k. ne (sym k))))

          apart_at : (x : ℕ) → (v.receiver ≡ x) ⊎ (v.receiver ≡ x → ⊥) → set_of (receivers (v ∷ vs)) x ≡ false
              → (dealt t).sent x ≡ (dealt s).sent x
          apart_at x (inl e) k = absurd (true≢false (ap (λ (b : Bool). b || set_of (receivers vs) x) (sym (eq-eqb v.receiver x e)) ∙ k))
          apart_at x (inr ne) k =
              rest.apart x (ap (λ (b : Bool). b || set_of (receivers vs) x) (sym (ne_eqb v.receiver x ne)) ∙ k)
              ∙ first.others x (λ m. ne (sym m))

  -- so with the letters
  pub letters_same : (vs ws : List (Waiting Item)) (d e : Dealt) → Drains vs ws d e → (t : ℕ)
      → letters_in (e.sent t) ++ letters_in (waiting_for t ws) ≡ letters_in (d.sent t) ++ letters_in (waiting_for t vs)
  letters_same vs ws d e h t = sym (flat_map-append letter_in (e.sent t) (waiting_for t ws))
      ∙ (ap letters_in (h.same t) ∙ flat_map-append letter_in (d.sent t) (waiting_for t vs))

  pub drained : (vs ws : List (Waiting Item)) (s t : S) → IsStrictlyIncreasing (receivers vs) → inside s ≡ true
      → DrainedAll posts refuses vs s ws t → (inside t ≡ true) × Drains vs ws (dealt s) (dealt t)
  drained vs ws s t rising here h = drains vs ws s t (once (receivers vs) rising) here h

  -- an item was taken: its letter, if it is one, is behind those from its sender
  pub took_more : (s : S) (from : ℕ) (i : Item) (t : S) → inside s ≡ true → takes s from i t
      → took (dealt t) ≡ (λ f. took (dealt s) f ++ letters_from from i f)
  took_more s from i t here h = fun_ext (λ f. ap (λ (x : Dealt). took x f) (D.gives s from i t here h).2 ∙ of_item i f)
    where
      of_item : (i : Item) (f : ℕ) → took (with_taken from i (dealt s)) f ≡ took (dealt s) f ++ letters_from from i f
      of_item (Letter l) f = by_test from
          (λ g b. letters_in (if b then (dealt s).taken from ++ Letter l ∷ [] else (dealt s).taken g)
          ≡ took (dealt s) g ++ (if b then letter_in (Letter l) else []))
          (flat_map-append letter_in ((dealt s).taken from) (Letter l ∷ []))
          (λ g ne. sym (append-nil (took (dealt s) g))) f
      of_item (Task k) f = at_node (f == from)
        where
          at_node : (b : Bool) → took (dealt s) f ≡ took (dealt s) f ++ (if b then [] else [])
          at_node true = sym (append-nil (took (dealt s) f))
          at_node false = sym (append-nil (took (dealt s) f))

  pub put_still : (s : S) (from : ℕ) (i : Item) (t : S) → inside s ≡ true → takes s from i t → put (dealt t) ≡ put (dealt s)
  put_still s from i t here h = ap (λ (x : Dealt). put x) (D.gives s from i t here h).2 ∙ of_item i
    where
      of_item : (i : Item) → put (with_taken from i (dealt s)) ≡ put (dealt s)
      of_item (Letter l) = refl
      of_item (Task k) = refl
