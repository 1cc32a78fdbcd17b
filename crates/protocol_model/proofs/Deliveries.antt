-- The first delivery that a world accepts is that of the first link on which a letter waits.
use Rattle.std.proofs.Common.{ℕ, zero, suc, Bool, true, false, ◌≡◌, ◌<◌, ◌≤◌, Option, Some, None, List, [], ◌∷◌, ◌++◌, length, map, refl, sym, ap, subst, ◌∙◌, arith, inl, inr}
use Rattle.std.specs.Prelude.{◌↔◌, ◌||◌, not, Contains, find, flat_map, is_none, is_some, nat_lt, option_map, if◌then◌else◌}
use Rattle.std.specs.Option.{option_or}
use Rattle.std.proofs.lemmas.Bool.{and_parts, ltb-true, cases_eq}
use Rattle.std.proofs.lemmas.List.Folds.{find-append}
use Rattle.registry_model.specs.Process.{Nodes, nodes_of}
use Rattle.registry_model.proofs.Lists.{Contains-cases, Contains-front, Contains-behind, Contains-nil}
use Rattle.protocol_model.specs.Links.{is_nil}
use Rattle.protocol_model.specs.Letter.{Letter}
use Rattle.protocol_model.specs.Event.{Answer, Refusal}
use Rattle.protocol_model.specs.World.{Opening, in_world, World, left, WorldEvent, Deliver, refusal, happens, run, all_answers, next_delivery, deliveries_left}
use Rattle.protocol_model.specs.Quiet.{IsQuiet}
use Rattle.protocol_model.specs.Script.{Line, Output, Said, Settled, settled, printed}
use Rattle.protocol_model.specs.Delivering.{LetterWaits, IsFirstDelivery, DeliversTheFirst}

-- the least node of a set that passes a test
record IsLeast (n : ℕ) (s q : Nodes) (c : ℕ) : Type 0 where
  pub passes : q c ≡ true
  pub least : (d : ℕ) → d < n → s d ≡ true → q d ≡ true → c ≤ d

-- what is found among the nodes of a set below n
abbrev Finds : ℕ → Nodes → Nodes → Option ℕ → Type 0
Finds n s q None = (d : ℕ) → d < n → s d ≡ true → q d ≡ false
Finds n s q (Some c) = (c < n) × IsLeast n s q c

finds : (n : ℕ) (s q : Nodes) → Finds n s q (find q (nodes_of n s))
finds zero s q = λ d l i. absurd (omega (arith, l))
finds (suc n) s q = subst (Finds (suc n) s q) (sym (find-append q (nodes_of n s) (if s n then n ∷ [] else [])))
    (by (find q (nodes_of n s)) (finds n s q))
  where
    by : (x : Option ℕ) → Finds n s q x → Finds (suc n) s q (option_or x (find q (if s n then n ∷ [] else [])))
    by (Some c) F = (
      omega (arith, F.0),
      record {
        passes = F.1.passes;
        least = λ d l i p. elim (cases_eq d n) [
          | inl same ↦ omega (arith, F.0, same)
          | inr other ↦ F.1.least d (omega (arith, l, other)) i p
        ];
      },
    )
    by None F = go (s n) refl (q n) refl
      where
        none : (s n ≡ true → q n ≡ false) → Finds (suc n) s q None
        none h d l i = elim (cases_eq d n) [
          | inl same ↦ ap q same ∙ h (ap s (sym same) ∙ i)
          | inr other ↦ F d (omega (arith, l, other)) i
        ]

        go : (b : Bool) → s n ≡ b → (t : Bool) → q n ≡ t → Finds (suc n) s q (find q (if b then n ∷ [] else []))
        go false e t h = none (λ i. cc (i, e))
        go true e false h = subst (λ (z : Bool). Finds (suc n) s q (if z then Some n else None)) (sym h) (none (λ i. h))
        go true e true h = subst (λ (z : Bool). Finds (suc n) s q (if z then Some n else None)) (sym h) (
          omega arith,
          record {
            passes = h;
            least = λ d l i p. elim (cases_eq d n) [
              | inl same ↦ omega (arith, same)
              | inr other ↦ cc (F d (omega (arith, l, other)) i, p)
            ];
          },
        )

-- what passes in a row stands at the first place that passes
in_row : {E : Type 0} (p : E → Bool) (f : ℕ → E) (ts : List ℕ) → find p (map f ts) ≡ option_map f (find (λ t. p (f t)) ts)
in_row p f [] = refl
in_row {E} p f (t ∷ ts) = go (p (f t)) (in_row p f ts)
  where
    go : (b : Bool) → find p (map f ts) ≡ option_map f (find (λ x. p (f x)) ts)
        → (if b then Some (f t) else find p (map f ts)) ≡ option_map f (if b then Some t else find (λ x. p (f x)) ts)
    go true e = refl
    go false e = e

-- what passes in rows is found in the first row that has it
abbrev in_found : {E : Type 0} → (ℕ → Option E) → Option ℕ → Option E
in_found row None = None
in_found row (Some x) = row x

in_rows : {E : Type 0} (p : E → Bool) (rows : ℕ → List E) (xs : List ℕ)
    → find p (flat_map rows xs) ≡ in_found (λ x. find p (rows x)) (find (λ x. is_some (find p (rows x))) xs)
in_rows p rows [] = refl
in_rows {E} p rows (x ∷ xs) = find-append p (rows x) (flat_map rows xs) ∙ go (find p (rows x)) refl (in_rows p rows xs)
  where
    later : Option ℕ
    later = find (λ y. is_some (find p (rows y))) xs

    go : (r : Option E) → find p (rows x) ≡ r → find p (flat_map rows xs) ≡ in_found (λ y. find p (rows y)) later
        → option_or r (find p (flat_map rows xs)) ≡ in_found (λ y. find p (rows y)) (if is_some r then Some x else later)
    go None e h = h
    go (Some y) e h = sym e

module _ (o : Opening) (w : World) where
  abbrev accepts : WorldEvent → Bool
  accepts e = is_none (refusal o w e)

  -- a delivery is accepted exactly where a letter waits
  waits_by : (f t : ℕ) → accepts (Deliver f t) ≡ true → LetterWaits o w f t
  waits_by f t h = go (in_world o t) (in_world o f) (left w t) (w.links.queue f t) refl refl refl refl h
    where
      go : (i j l : Bool) (ls : List Letter) → in_world o t ≡ i → in_world o f ≡ j → left w t ≡ l → w.links.queue f t ≡ ls
          → is_none (if not i || not j then Some Refusal.NoSuchNode else
          (if l then Some Refusal.NodeLeft else (if is_nil ls then Some Refusal.EmptyLink else None))) ≡ true
          → LetterWaits o w f t
      go true true false (l ∷ ls) a b c d h = record { sender = b; receiver = (a, c); waits = λ e. cc (sym d ∙ e) }
      go true true false [] a b c d h = cc
      go true true true ls a b c d h = cc
      go true false l ls a b c d h = cc
      go false j l ls a b c d h = cc

  accepted_by : (f t : ℕ) → LetterWaits o w f t → accepts (Deliver f t) ≡ true
  accepted_by f t L = rw (L.sender, L.receiver.0, L.receiver.1) (go (w.links.queue f t) refl)
    where
      go : (ls : List Letter) → w.links.queue f t ≡ ls
          → is_none (if is_nil ls then Some Refusal.EmptyLink else None) ≡ true
      go [] e = absurd (L.waits e)
      go (l ∷ ls) e = refl

  below : (c : ℕ) → in_world o c ≡ true → c < o.bound
  below c e = ltb-true c o.bound (and_parts (nat_lt c o.bound) (o.nodes c) e).0

  -- what the next delivery says of the letters that wait
  abbrev Says : Option WorldEvent → Type 0
  Says None = (f t : ℕ) → LetterWaits o w f t → ⊥
  Says (Some e) = IsFirstDelivery o w e

  abbrev nodes : List ℕ
  nodes = nodes_of o.bound (in_world o)

  abbrev row : ℕ → Option WorldEvent
  row f = find accepts (map (λ t. Deliver f t) nodes)

  -- the place in a row, and where there is none no letter waits from that sender
  abbrev RowSays : ℕ → Option WorldEvent → Type 0
  RowSays f None = (t : ℕ) → LetterWaits o w f t → ⊥
  RowSays f (Some e) =
      (t : ℕ) × (e ≡ Deliver f t) × LetterWaits o w f t × ((u : ℕ) → LetterWaits o w f u → t ≤ u)

  row_says : (f : ℕ) → RowSays f (row f)
  row_says f = subst (RowSays f) (sym (in_row accepts (λ t. Deliver f t) nodes))
      (by (find (λ t. accepts (Deliver f t)) nodes) (finds o.bound (in_world o) (λ t. accepts (Deliver f t))))
    where
      by : (x : Option ℕ) → Finds o.bound (in_world o) (λ t. accepts (Deliver f t)) x
          → RowSays f (option_map (λ t. Deliver f t) x)
      by None F = λ t L. cc (F t (below t L.receiver.0) L.receiver.0, accepted_by f t L)
      by (Some t) F = (
        t,
        refl,
        waits_by f t F.1.passes,
        λ u L. F.1.least u (below u L.receiver.0) L.receiver.0 (accepted_by f u L),
      )

  has_row : (f t : ℕ) → LetterWaits o w f t → is_some (row f) ≡ true
  has_row f t L = go (row f) (row_says f)
    where
      go : (r : Option WorldEvent) → RowSays f r → is_some r ≡ true
      go None S = absurd (S t L)
      go (Some e) S = refl

  pub next_says : Says (next_delivery o w)
  next_says = subst Says (sym (in_rows accepts (λ f. map (λ t. Deliver f t) nodes) nodes))
      (by (find (λ f. is_some (row f)) nodes) (finds o.bound (in_world o) (λ f. is_some (row f))))
    where
      by : (x : Option ℕ) → Finds o.bound (in_world o) (λ f. is_some (row f)) x → Says (in_found row x)
      by None F = λ f t L. cc (F f (below f L.sender) L.sender, has_row f t L)
      by (Some f) F = go (row f) (row_says f) F.1.passes
        where
          go : (r : Option WorldEvent) → RowSays f r → is_some r ≡ true → Says r
          go None S h = cc
          go (Some e) S h = record {
            sender = f;
            receiver = S.0;
            delivery = S.1;
            waits = S.2;
            first = λ g u L. elim (cases_eq f g) [
              | inl same ↦ inr (same, S.3 u (subst (λ (x : ℕ). LetterWaits o w x u) (sym same) L))
              | inr other ↦ inl (omega (arith, other, F.1.least g (below g L.sender) L.sender (has_row g u L)))
            ];
          }

  next_none : next_delivery o w ≡ None → IsQuiet o w
  next_none h f c inside runs = go (w.links.queue f c) refl
    where
      go : (ls : List Letter) → w.links.queue f c ≡ ls → ls ≡ []
      go [] e = refl
      go (l ∷ ls) e = absurd (subst Says h next_says f c
          (record { sender = inside; receiver = runs; waits = λ z. cc (sym e ∙ z) }))

  none_next : IsQuiet o w → next_delivery o w ≡ None
  none_next quiet = go (next_delivery o w) next_says
    where
      go : (x : Option WorldEvent) → Says x → x ≡ None
      go None S = refl
      go (Some e) S = absurd (S.waits.waits (quiet S.sender S.receiver S.waits.sender S.waits.receiver))

  pub next_quiet : (next_delivery o w ≡ None) ↔ IsQuiet o w
  next_quiet = (next_none, none_next)

  pub next_first : (e : WorldEvent) → next_delivery o w ≡ Some e → IsFirstDelivery o w e
  next_first e h = subst Says h next_says

module _ (o : Opening) where
  -- the deliveries of `settle`, where the next is this
  abbrev settle_by : ℕ → World → Option WorldEvent → List WorldEvent
  settle_by most w None = []
  settle_by most w (Some e) = e ∷ deliveries_left o most (happens o w e)

  settle_is : (most : ℕ) (w : World) → deliveries_left o (suc most) w ≡ settle_by most w (next_delivery o w)
  settle_is most w = go (next_delivery o w)
    where
      go : (x : Option WorldEvent) → elim x as (λ _. List WorldEvent)
          [ None ↦ [] | Some e ↦ e ∷ deliveries_left o most (happens o w e) ] ≡ settle_by most w x
      go None = refl
      go (Some e) = refl

  each_first : (most : ℕ) (w : World) (before after : List WorldEvent) (e : WorldEvent)
      → deliveries_left o most w ≡ before ++ e ∷ after → IsFirstDelivery o (run o w before) e
  each_first zero w [] after e h = cc
  each_first zero w (d ∷ before) after e h = cc
  each_first (suc most) w before after e h = go (λ v b i. each_first most v b after e i) (next_delivery o w) refl before
      (sym (settle_is most w) ∙ h)
    where
      go : ((v : World) (before : List WorldEvent) → deliveries_left o most v ≡ before ++ e ∷ after
          → IsFirstDelivery o (run o v before) e)
          → (x : Option WorldEvent) → next_delivery o w ≡ x → (before : List WorldEvent) → settle_by most w x ≡ before ++ e ∷ after → IsFirstDelivery o (run o w before) e
      go by None i [] h = cc
      go by None i (d ∷ before) h = cc
      go by (Some d) i [] h = let same : d ≡ e = cc h in next_first o w e (i ∙ ap Some same)
      go by (Some d) i (c ∷ before) h =
          let same : d ≡ c = cc h in
          let more : deliveries_left o most (happens o w d) ≡ before ++ e ∷ after = cc h in
          subst (λ (v : WorldEvent). IsFirstDelivery o (run o (happens o w v) before) e) same
          (by (happens o w d) before more)

  in_limit : (most : ℕ) (w : World) → length (deliveries_left o most w) ≤ most
  in_limit zero w = omega arith
  in_limit (suc most) w = subst (λ (es : List WorldEvent). length es ≤ suc most) (sym (settle_is most w))
      (go (in_limit most) (next_delivery o w))
    where
      go : ((v : World) → length (deliveries_left o most v) ≤ most) → (x : Option WorldEvent) → length (settle_by most w x) ≤ suc most
      go by None = omega arith
      go by (Some e) = omega (arith, by (happens o w e))

  stops_quiet : (most : ℕ) (w : World) → length (deliveries_left o most w) < most → IsQuiet o (run o w (deliveries_left o most w))
  stops_quiet zero w h = absurd (omega (arith, h))
  stops_quiet (suc most) w h = subst (λ (es : List WorldEvent). IsQuiet o (run o w es)) (sym (settle_is most w))
      (go (stops_quiet most) (next_delivery o w) refl
      (subst (λ (es : List WorldEvent). length es < suc most) (settle_is most w) h))
    where
      go : ((v : World) → length (deliveries_left o most v) < most → IsQuiet o (run o v (deliveries_left o most v)))
          → (x : Option WorldEvent) → next_delivery o w ≡ x → length (settle_by most w x) < suc most
          → IsQuiet o (run o w (settle_by most w x))
      go by None i l = (next_quiet o w).0 i
      go by (Some e) i l = by (happens o w e) (omega (arith, l))

-- an element behind answers that are told, which is none of these, is the last
settled_last : (answers : List Answer) (x : Output) → Contains (map Said answers ++ x ∷ []) Settled → x ≡ Settled
settled_last [] x c = elim (Contains-cases x [] Settled c) [ inl same ↦ same | inr h ↦ absurd (Contains-nil Settled h) ]
settled_last (s ∷ answers) x c = elim (Contains-cases (Said s) (map Said answers ++ x ∷ []) Settled c) [
  | inl same ↦ cc same
  | inr h ↦ settled_last answers x h
]

last_settled : (answers : List Answer) → Contains (map Said answers ++ Settled ∷ []) Settled
last_settled [] = Contains-front Settled []
last_settled (s ∷ answers) = Contains-behind (Said s) (map Said answers ++ Settled ∷ []) Settled (last_settled answers)

prints_settled : (o : Opening) (w : World) (most : ℕ) (es : List WorldEvent)
    → Contains (printed o most w Line.Settle es) Settled ↔ IsQuiet o (run o w es)
prints_settled o w most es = (
  λ c. (next_quiet o (run o w es)).0 (by (next_delivery o (run o w es))
      (settled_last (all_answers o w es) (settled o most (next_delivery o (run o w es))) c)),
  λ quiet. subst (λ (x : Option WorldEvent). Contains (map Said (all_answers o w es) ++ settled o most x ∷ []) Settled)
      (sym ((next_quiet o (run o w es)).1 quiet)) (last_settled (all_answers o w es)),
)
  where
    by : (x : Option WorldEvent) → settled o most x ≡ Settled → x ≡ None
    by None e = refl
    by (Some d) e = cc

pub delivers_the_first : (o : Opening) (w : World) → DeliversTheFirst o w
delivers_the_first o w = record {
  none = next_quiet o w;
  some = next_first o w;
  each = λ most before after e h. each_first o most w before after e h;
  limit = λ most. in_limit o most w;
  stops = λ most h. stops_quiet o most w h;
  prints = prints_settled o w;
}
