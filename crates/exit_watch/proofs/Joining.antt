-- A serial that no span has joins those that it touches.
use Rattle.std.proofs.Common.{ℕ, ◌≡◌, ◌<◌, ◌≤◌, ◌+◌, Option, Some, None, refl, sym, ap, ◌∙◌, subst, inl, inr, arith, nat_cmp}
use Rattle.std.specs.Prelude.{◌⊎◌, cond, IfSome, IfNone, unwrap_or}
use Rattle.std.specs.BTreeMap.{is_at}
use Rattle.std.specs.Map.{lookup}
use Rattle.std.proofs.lemmas.Bool.{cases_eq, cases_lt}
use Rattle.exit_watch.specs.Spans.{AreApart, Covers, Gains, IsSpan, Spans}
use Rattle.exit_watch.specs.declared.spans.Span.{Span}
use Rattle.exit_watch.proofs.Keys.{set-here, set-other}

-- the span of s begins at f, with the one that ends right before s, if one does
abbrev pub Starts : Spans → ℕ → ℕ → Type 0
Starts m s f =
    ((f ≡ s) × ((g k : ℕ) → IsSpan m g k → k + 1 ≡ s → ⊥)) ⊎ ((b : ℕ) × IsSpan m f b × (b + 1 ≡ s))

-- it ends at l, with the one that begins right behind s, if one does
abbrev pub Ends : Spans → ℕ → ℕ → Type 0
Ends m s l = ((l ≡ s) × ((g k : ℕ) → IsSpan m g k → g ≡ s + 1 → ⊥)) ⊎ IsSpan m (s + 1) l

-- the spans of n are the one from f to l, and those of m that end neither there nor right before s
pub record Joins (m n : Spans) (s f l : ℕ) : Type 0 where
  pub joined : IsSpan n f l
  pub stays : (g k : ℕ) → IsSpan m g k → (k ≡ l → ⊥) → (k + 1 ≡ s → ⊥) → IsSpan n g k
  pub only : (g k : ℕ) → IsSpan n g k
      → ((g ≡ f) × (k ≡ l)) ⊎ (IsSpan m g k × (k ≡ l → ⊥) × (k + 1 ≡ s → ⊥))

-- the span of a serial that touches none
abbrev alone : ℕ → Span
alone s = record { first = s; last = s }

starts : (m : Spans) (s : ℕ) (o : Option Span)
    → IfSome o (λ span. IsSpan m span.first span.last × (span.last + 1 ≡ s))
    → IfNone o ((g k : ℕ) → IsSpan m g k → k + 1 ≡ s → ⊥) → Starts m s (unwrap_or o (alone s)).first
starts m s None some none = inl (refl, none)
starts m s (Some span) some none = inr (span.last, some.0, some.1)

ends : (m : Spans) (s : ℕ) (o : Option Span)
    → IfSome o (λ span. IsSpan m span.first span.last × (span.first ≡ s + 1))
    → IfNone o ((g k : ℕ) → IsSpan m g k → g ≡ s + 1 → ⊥) → Ends m s (unwrap_or o (alone s)).last
ends m s None some none = inl (refl, none)
ends m s (Some span) some none = inr (subst (λ (g : ℕ). IsSpan m g span.last) some.1 some.0)

one_start : (m : Spans) (f g l : ℕ) → IsSpan m f l → IsSpan m g l → f ≡ g
one_start m f g l a b = cc (a, b)

module _ (m : Spans) (s f l : ℕ) (apart : AreApart m) (absent : Covers m s → ⊥)
    (start : Starts m s f) (end : Ends m s l) where
  -- a span lies before the serial or behind it
  beside : (g k : ℕ) → IsSpan m g k → (k < s) ⊎ (s < g)
  beside g k span = elim (cases_lt k s) [
    | inl before ↦ inl before
    | inr from ↦ elim (cases_lt s g) [
      | inl behind ↦ inr behind
      | inr low ↦ absurd (absent (record { first = g; last = k; span = span; low = low; high = from }))
    ]
  ]

  low : f ≤ s
  low = elim start [
    | inl (e, none) ↦ omega arith
    | inr (b, span, e) ↦ let o = apart.ordered f b span in omega arith
  ]

  high : s ≤ l
  high = elim end [
    | inl (e, none) ↦ omega arith
    | inr span ↦ let o = apart.ordered (s + 1) l span in omega arith
  ]

  module _ (n : Spans) (j : Joins m n s f l) where
    joins-new : (x : ℕ) → f ≤ x → x ≤ l → Covers n x
    joins-new x a b = record { first = f; last = l; span = j.joined; low = a; high = b }

    -- what the earlier spans have
    keeps : (x : ℕ) → Covers m x → Covers n x
    keeps x c = elim (cases_eq c.last l) [
      | inl top ↦ elim end [
        | inl (e, none) ↦ absurd (elim (beside c.first c.last c.span) [
          | inl before ↦ omega arith
          | inr behind ↦ let o = apart.ordered c.first c.last c.span in omega (arith, c.low, c.high)
        ])
        | inr span ↦
            let same = one_start m c.first (s + 1) l (subst (λ (k : ℕ). IsSpan m c.first k) top c.span) span in
            joins-new x (omega (arith, low, c.low)) (omega (arith, c.high))
      ]
      | inr other ↦ elim (cases_eq (c.last + 1) s) [
        | inl next ↦ elim start [
          | inl (e, none) ↦ absurd (none c.first c.last c.span next)
          | inr (b, span, e) ↦
              let last : c.last ≡ b = omega arith in
              let same = one_start m c.first f b (subst (λ (k : ℕ). IsSpan m c.first k) last c.span) span in
              joins-new x (omega (arith, c.low)) (omega (arith, high, c.high))
        ]
        | inr far ↦ record {
          first = c.first;
          last = c.last;
          span = j.stays c.first c.last c.span other far;
          low = c.low;
          high = c.high;
        }
      ]
    ]

    -- what is in the joined span
    between : (x : ℕ) → f ≤ x → x ≤ l → Covers m x ⊎ (x ≡ s)
    between x a b = elim (cases_lt x s) [
      | inl before ↦ elim start [
        | inl (e, none) ↦ absurd (omega arith)
        | inr (k, span, e) ↦ inl (record { first = f; last = k; span = span; low = a; high = omega arith })
      ]
      | inr from ↦ elim (cases_eq x s) [
        | inl same ↦ inr same
        | inr other ↦ elim end [
          | inl (e, none) ↦ inr (omega arith)
          | inr span ↦
              let behind : s < x = omega arith in
              inl (record { first = s + 1; last = l; span = span; low = omega arith; high = b })
        ]
      ]
    ]

    no_more : (x : ℕ) → Covers n x → Covers m x ⊎ (x ≡ s)
    no_more x c = elim (j.only c.first c.last c.span) [
      | inl (a, b) ↦ between x (omega (arith, c.low)) (omega (arith, c.high))
      | inr (span, _, _) ↦
          inl (record { first = c.first; last = c.last; span = span; low = c.low; high = c.high })
    ]

    pub joined-gains : Gains s m n
    joined-gains = record { gained = joins-new s low high; kept = keeps; only = no_more }

    ordered : (g k : ℕ) → IsSpan n g k → g ≤ k
    ordered g k span = elim (j.only g k span) [
      | inl (a, b) ↦ omega (arith, low, high)
      | inr (was, _, _) ↦ apart.ordered g k was
    ]

    -- a span that ends above the joined one
    above : (h i : ℕ) → IsSpan m h i → l < i → l + 1 < h
    above h i span more = elim end [
      | inl (e, none) ↦ elim (beside h i span) [
        | inl before ↦ absurd (omega arith)
        | inr behind ↦ elim (cases_eq h (s + 1)) [
          | inl touches ↦ absurd (none h i span touches)
          | inr far ↦ omega arith
        ]
      ]
      | inr top ↦ apart.apart (s + 1) l h i top span more
    ]

    -- one that ends below it
    below : (g k : ℕ) → IsSpan m g k → k < l → (k + 1 ≡ s → ⊥) → k + 1 < f
    below g k span less far =
        let before : k < s = elim (beside g k span) [
          | inl b ↦ b
          | inr behind ↦ elim end [
            | inl (e, none) ↦ let o = apart.ordered g k span in absurd (omega arith)
            | inr top ↦ let o = apart.ordered g k span in let q = apart.apart g k (s + 1) l span top less in omega arith
          ]
        ] in
        elim start [
          | inl (e, none) ↦ omega arith
          | inr (b, bottom, e) ↦ apart.apart g k f b span bottom (omega arith)
        ]

    spaced : (g k h i : ℕ) → IsSpan n g k → IsSpan n h i → k < i → k + 1 < h
    spaced g k h i a b less = elim (j.only g k a) [
      | inl (e, top) ↦ elim (j.only h i b) [
        | inl (e₂, top₂) ↦ absurd (omega arith)
        | inr (was, _, _) ↦ let q = above h i was (omega arith) in omega arith
      ]
      | inr (was, _, far) ↦ elim (j.only h i b) [
        | inl (e₂, top₂) ↦ let q = below g k was (omega arith) far in omega arith
        | inr (was₂, _, _) ↦ apart.apart g k h i was was₂ less
      ]
    ]

    pub joined-apart : AreApart n
    joined-apart = record { ordered = ordered; apart = spaced }

  -- the spans do so where none ended right before s
  module _ (n : Spans)
      (set : (q : ℕ) → lookup (is_at (nat_cmp q)) n
      ≡ cond (is_at (nat_cmp l) q) (Some f) (lookup (is_at (nat_cmp q)) m)) where
    sets-top : IsSpan n f l
    sets-top = set-here m n l (Some f) set

    sets-other : (k : ℕ) → (k ≡ l → ⊥) → lookup (is_at (nat_cmp k)) n ≡ lookup (is_at (nat_cmp k)) m
    sets-other = set-other m n l (Some f) set

    is_top : (g k : ℕ) → k ≡ l → IsSpan n g k → g ≡ f
    is_top g k top span = one_start n g f l (subst (λ (i : ℕ). IsSpan n g i) top span) sets-top

    pub joins-put : ((g k : ℕ) → IsSpan m g k → k + 1 ≡ s → ⊥) → Joins m n s f l
    joins-put none = record {
      joined = sets-top;
      stays = λ g k span other far. sets-other k other ∙ span;
      only = λ g k span. elim (cases_eq k l) [
        | inl top ↦ inl (is_top g k top span, top)
        | inr other ↦
            let was : IsSpan m g k = sym (sets-other k other) ∙ span in
            inr (was, other, none g k was)
      ];
    }

    -- and where the one that did was removed
    pub joins-removed : (b : ℕ) → b + 1 ≡ s → (o : Spans)
        → ((q : ℕ) → lookup (is_at (nat_cmp q)) o ≡ cond (is_at (nat_cmp b) q) None (lookup (is_at (nat_cmp q)) n))
        → Joins m o s f l
    joins-removed b next o gone = record {
      joined = set-other n o b None gone l (λ e. absurd (omega (arith, high))) ∙ sets-top;
      stays = λ g k span other far.
          set-other n o b None gone k (λ e. far (omega arith)) ∙ sets-other k other ∙ span;
      only = λ g k span. elim (cases_eq k b) [
        | inl e ↦ absurd (cc (set-here n o b None gone, ap (λ (i : ℕ). lookup (is_at (nat_cmp i)) o) e, span))
        | inr ne ↦
            let kept : IsSpan n g k = sym (set-other n o b None gone k ne) ∙ span in
            elim (cases_eq k l) [
              | inl top ↦ inl (is_top g k top kept, top)
              | inr other ↦ inr (sym (sets-other k other) ∙ kept, other, λ e. ne (omega arith))
            ]
      ];
    }

-- what was found before the serial and behind it
module _ (m : Spans) (s : ℕ) (apart : AreApart m) (absent : Covers m s → ⊥) (below above : Option Span)
    (lower : IfSome below (λ span. IsSpan m span.first span.last × (span.last + 1 ≡ s)))
    (no_lower : IfNone below ((g k : ℕ) → IsSpan m g k → k + 1 ≡ s → ⊥))
    (upper : IfSome above (λ span. IsSpan m span.first span.last × (span.first ≡ s + 1)))
    (no_upper : IfNone above ((g k : ℕ) → IsSpan m g k → g ≡ s + 1 → ⊥))
    (low high : Span) (low_is : low ≡ unwrap_or below (alone s)) (high_is : high ≡ unwrap_or above (alone s)) where
  begins : Starts m s low.first
  begins = subst (λ (span : Span). Starts m s span.first) (sym low_is) (starts m s below lower no_lower)

  stops : Ends m s high.last
  stops = subst (λ (span : Span). Ends m s span.last) (sym high_is) (ends m s above upper no_upper)

  -- where no span ends yet where the joined one would, none has the next serial
  pub next_alive : lookup (is_at (nat_cmp high.last)) m ≡ None → Covers m (s + 1) → ⊥
  next_alive vacant c = elim stops [
    | inl (e, none) ↦ elim (beside m s low.first high.last apart absent begins stops c.first c.last c.span) [
      | inl before ↦ let top = c.high in absurd (omega arith)
      | inr behind ↦ let bottom = c.low in none c.first c.last c.span (omega arith)
    ]
    | inr span ↦ absurd (cc (span, vacant))
  ]

  whole : (o : Spans) → Joins m o s low.first high.last → AreApart o × Gains s m o
  whole o j = (
    joined-apart m s low.first high.last apart absent begins stops o j,
    joined-gains m s low.first high.last apart absent begins stops o j,
  )

  -- the joined span is put in, and the lower one taken out
  module _ (n : Spans)
      (set : (q : ℕ) → lookup (is_at (nat_cmp q)) n
      ≡ cond (is_at (nat_cmp high.last) q) (Some low.first) (lookup (is_at (nat_cmp q)) m)) where
    pub put : ((g k : ℕ) → IsSpan m g k → k + 1 ≡ s → ⊥) → AreApart n × Gains s m n
    put none = whole n (joins-put m s low.first high.last apart absent begins stops n set none)

    pub removed : (b : ℕ) → b + 1 ≡ s → (o : Spans)
        → ((q : ℕ) → lookup (is_at (nat_cmp q)) o ≡ cond (is_at (nat_cmp b) q) None (lookup (is_at (nat_cmp q)) n))
        → AreApart o × Gains s m o
    removed b next o gone =
        whole o (joins-removed m s low.first high.last apart absent begins stops n set b next o gone)
