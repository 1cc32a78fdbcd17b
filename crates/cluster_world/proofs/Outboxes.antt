-- Letters that aren't on their links yet, beside those that are.
use Rattle.std.proofs.Common.{ℕ, Bool, true, false, ◌==◌, ◌≡◌, ◌<◌, ◌≤◌, Option, Some, None, List, [], ◌∷◌, ◌++◌, map, refl, sym, ap, subst, ◌∙◌, inl, inr, arith}
use Rattle.std.specs.Prelude.{if◌then◌else◌, not, nat_lt, nat_le, filter, ◌&&◌, ◌||◌, ◌⊎◌, IfSome}
use Rattle.std.proofs.Math.Path.{fun_ext}
use Rattle.std.proofs.lemmas.Bool.{cases_eq, eq-eqb, eqb-true, eqb-false, ne_eqb, ltb-true, ltb-false, leb-true, leb-false, or_cases, and_parts, false≢true}
use Rattle.std.proofs.lemmas.List.{append-nil}
use Rattle.registry_model.specs.Process.{Nodes}
use Rattle.protocol_model.specs.Links.{Links, is_nil, posted, closed_out}
use Rattle.term.specs.Nodes.{name_of}
use Rattle.term.specs.NodeSets.{with_older}
use Rattle.link.specs.MeshState.{only_to}
use Rattle.node_core.specs.declared.Letter.{Letter}
use Rattle.node_core.specs.CoreState.{HaveLeft}
use Rattle.cluster_world.specs.Links.{letters_to, Unsent, with_unsent, rest_as, IsFirstSender, WaitsFirst, IsLeastOpen, lesser, earlier}
use Rattle.cluster_world.specs.Mail.{AreOwn}
use Rattle.cluster_world.proofs.Listed.{known_place}
use Rattle.cluster_world.proofs.Posting.{posted-nothing}
use Rattle.cluster_world.proofs.Mailing.{at_most}

-- who was closed out is so by the mesh
pub closed_as : (u : Option Unsent) (w : Links Letter) → (with_unsent u w).closed ≡ w.closed
closed_as None w = refl
closed_as (Some u) w = refl

-- a node is closed out, of the mesh and so of all
pub closed_behind : (u : Option Unsent) (d : ℕ) (w : Links Letter)
    → with_unsent u (closed_out d w) ≡ closed_out d (with_unsent u w)
closed_behind None d w = refl
closed_behind (Some u) d w = ap (λ (q : ℕ → ℕ → List Letter). record (closed_out d w) { queue = q })
    (fun_ext (λ x. fun_ext (λ y. go x y (y == d) (x == u.sender))))
  where
    go : (x y : ℕ) (b a : Bool) → (if a && not (if b then true else w.closed y)
        then (if b then [] else w.queue x y) ++ letters_to y u.letters else (if b then [] else w.queue x y))
        ≡ (if b then [] else (if a && not (w.closed y) then w.queue x y ++ letters_to y u.letters else w.queue x y))
    go x y true true = refl
    go x y true false = refl
    go x y false a = refl

-- the letters of one more behind
letters_to-push : (t : ℕ) (ss : List (ℕ × Letter)) (s : ℕ × Letter) → letters_to t (ss ++ s ∷ [])
    ≡ letters_to t ss ++ only_to s.0 s.1 t
letters_to-push t [] s = elim (cases_eq s.0 t) [
  | inl e ↦ rw (eq-eqb s.0 t e, eq-eqb t s.0 (sym e)) refl
  | inr ne ↦ rw (ne_eqb s.0 t ne, ne_eqb t s.0 (λ e. ne (sym e))) refl
]
letters_to-push t (r ∷ ss) s = go (r.0 == t) (letters_to-push t ss s)
  where
    go : (b : Bool) → letters_to t (ss ++ s ∷ []) ≡ letters_to t ss ++ only_to s.0 s.1 t
        → map (λ s. s.1) (if b then r ∷ filter (λ s. s.0 == t) (ss ++ s ∷ []) else filter (λ s. s.0 == t)
        (ss ++ s ∷ []))
        ≡ map (λ s. s.1) (if b then r ∷ filter (λ s. s.0 == t) ss else filter (λ s. s.0 == t) ss) ++ only_to s.0 s.1 t
    go true e = ap (λ (ls : List Letter). r.1 ∷ ls) e
    go false e = e

module _ (closed : Nodes) (ss : List (ℕ × Letter)) (s : ℕ × Letter) where
  -- a node that the letter doesn't go to
  not_for : (x : ℕ) → (x ≡ s.0 → ⊥) → letters_to x ss ≡ [] → letters_to x (ss ++ s ∷ []) ≡ []
  not_for x ne none = letters_to-push x ss s ∙ ap (λ (ls : List Letter). ls ++ only_to s.0 s.1 x) none
      ∙ ap (λ (b : Bool). if b then s.1 ∷ [] else []) (ne_eqb x s.0 ne)

  -- what it finds there stays
  still_some : (x : ℕ) → is_nil (letters_to x ss) ≡ false → is_nil (letters_to x (ss ++ s ∷ [])) ≡ false
  still_some x some = ap (λ (ls : List Letter). is_nil ls) (letters_to-push x ss s) ∙ go (letters_to x ss) some
    where
      go : (ls : List Letter) → is_nil ls ≡ false → is_nil (ls ++ only_to s.0 s.1 x) ≡ false
      go [] e = cc
      go (l ∷ ls) e = refl

  some_for : is_nil (letters_to s.0 (ss ++ s ∷ [])) ≡ false
  some_for = ap (λ (ls : List Letter). is_nil ls) (letters_to-push s.0 ss s
      ∙ ap (λ (b : Bool). letters_to s.0 ss ++ (if b then s.1 ∷ [] else [])) (eq-eqb s.0 s.0 refl))
      ∙ go (letters_to s.0 ss)
    where
      go : (ls : List Letter) → is_nil (ls ++ s.1 ∷ []) ≡ false
      go [] = refl
      go (l ∷ ls) = refl

  differs : (x : ℕ) → closed s.0 ≡ true → closed x ≡ false → x ≡ s.0 → ⊥
  differs x shut up same = let e : closed x ≡ closed s.0 = ap closed same in cc

  -- a letter for who was closed out counts nothing
  pub least_shut : (first : Option ℕ) → closed s.0 ≡ true → IsLeastOpen closed ss first
      → IsLeastOpen closed (ss ++ s ∷ []) first
  least_shut None shut none = λ x up. not_for x (differs x shut up) (none x up)
  least_shut (Some t) shut least = (
    least.0,
    still_some t least.1,
    λ x less up. not_for x (differs x shut up) (least.2 x less up),
  )

  -- another one's receiver may be the least
  pub least_open : (first : Option ℕ) → closed s.0 ≡ false → IsLeastOpen closed ss first
      → IsLeastOpen closed (ss ++ s ∷ []) (Some (lesser first s.0))
  least_open None up none = (up, some_for, λ x less running. not_for x (λ e. omega arith) (none x running))
  least_open (Some t) up least = go (nat_le t s.0) refl
    where
      go : (b : Bool) → nat_le t s.0 ≡ b → IsLeastOpen closed (ss ++ s ∷ []) (Some (if b then t else s.0))
      go true e = (
        least.0,
        still_some t least.1,
        λ x less running. not_for x (λ same. omega (arith, leb-true t s.0 e)) (least.2 x less running),
      )
      go false e = (
        up,
        some_for,
        λ x less running. not_for x (λ same. omega arith)
            (least.2 x (omega (arith, leb-false t s.0 e)) running),
      )

module _ (s : ℕ) (ss : List (ℕ × Letter)) (w : Links Letter) where
  abbrev behind : Links Letter
  behind = posted s (λ t. letters_to t ss) w

  -- a link on which nothing is and for which nothing waits
  pub still_nothing : (x y : ℕ) → w.queue x y ≡ [] → (x ≡ s → w.closed y ≡ false → letters_to y ss ≡ [])
      → behind.queue x y ≡ []
  still_nothing x y empty none = go (x == s) refl (w.closed y) refl
    where
      go : (b : Bool) → (x == s) ≡ b → (d : Bool) → w.closed y ≡ d
          → (if b && not d then w.queue x y ++ letters_to y ss else w.queue x y) ≡ []
      go true e false up = ap (λ (ls : List Letter). ls ++ letters_to y ss) empty ∙ none (eqb-true x s e) up
      go true e true shut = empty
      go false e d c = empty

  -- what waits on a link waits on
  pub still_waits : (x y : ℕ) → is_nil (w.queue x y) ≡ false → is_nil (behind.queue x y) ≡ false
  still_waits x y some = go ((x == s) && not (w.closed y)) (w.queue x y) some
    where
      go : (b : Bool) (ls : List Letter) → is_nil ls ≡ false
          → is_nil (if b then ls ++ letters_to y ss else ls) ≡ false
      go b [] e = cc
      go true (l ∷ ls) e = refl
      go false (l ∷ ls) e = refl

  -- and so does what waits for its link
  pub waits_too : (t : ℕ) → w.closed t ≡ false → is_nil (letters_to t ss) ≡ false → is_nil (behind.queue s t) ≡ false
  waits_too t up some = rw (eq-eqb s s refl, up) (go (w.queue s t) (letters_to t ss) some)
    where
      go : (ls ms : List Letter) → is_nil ms ≡ false → is_nil (ls ++ ms) ≡ false
      go [] ms e = e
      go (l ∷ ls) ms e = refl

-- letters that are left are those of an outbox
pub rest_posts : (p a : ℕ) (ls : List (ℕ × Letter)) (w : Links Letter)
    → with_unsent (rest_as p a ls) w ≡ posted a (λ t. letters_to t ls) w
rest_posts p a [] w = sym (posted-nothing a w)
rest_posts p a (l ∷ ls) w = refl

-- a letter for one that has left posts nothing
pub shut_posts : (a : ℕ) (s : ℕ × Letter) (ss : List (ℕ × Letter)) (w : Links Letter) → w.closed s.0 ≡ true
    → posted a (λ t. letters_to t ss) w ≡ posted a (λ t. letters_to t (s ∷ ss)) w
shut_posts a s ss w shut = ap (λ (q : ℕ → ℕ → List Letter). record w { queue = q })
    (fun_ext (λ x. fun_ext (λ y. point x y (w.closed y) refl)))
  where
    go : (x y : ℕ) (b c : Bool) → c ≡ false → (if b && true then w.queue x y ++ letters_to y ss else w.queue x y)
        ≡ (if b && true then w.queue x y ++ map (λ (r : ℕ × Letter). r.1)
        (if c then s ∷ filter (λ (r : ℕ × Letter). r.0 == y) ss else filter (λ (r : ℕ × Letter). r.0 == y) ss) else w.queue x y)
    go x y b true e = absurd (false≢true (sym e))
    go x y true false e = refl
    go x y false false e = refl

    none : (x y : ℕ) (b : Bool) → (if b && false then w.queue x y ++ letters_to y ss else w.queue x y)
        ≡ (if b && false then w.queue x y ++ letters_to y (s ∷ ss) else w.queue x y)
    none x y true = refl
    none x y false = refl

    point : (x y : ℕ) (d : Bool) → w.closed y ≡ d
        → (posted a (λ t. letters_to t ss) w).queue x y ≡ (posted a (λ t. letters_to t (s ∷ ss)) w).queue x y
    point x y true e = rw e (none x y (x == a))
    point x y false e = rw e (go x y (x == a) (s.0 == y) (ne_eqb s.0 y
        (λ same. false≢true (sym e ∙ ap w.closed (sym same) ∙ shut))))

-- where no letter goes to one that hasn't left, none is posted
pub none_posted : (u : Unsent) (w : Links Letter) → IsLeastOpen w.closed u.letters None → with_unsent (Some u) w ≡ w
none_posted u w none = ap (λ (q : ℕ → ℕ → List Letter). record w { queue = q })
    (fun_ext (λ x. fun_ext (λ y. go x y (x == u.sender) (w.closed y) refl)))
  where
    go : (x y : ℕ) (b d : Bool) → w.closed y ≡ d
        → (if b && not d then w.queue x y ++ letters_to y u.letters else w.queue x y) ≡ w.queue x y
    go x y false d e = refl
    go x y true true e = refl
    go x y true false e = ap (λ (ls : List Letter). w.queue x y ++ ls) (none y e) ∙ append-nil (w.queue x y)

-- of two pairs of numbers, the first is no later
no_later : (a b c d : ℕ) → (nat_lt a b || ((a == b) && nat_le c d)) ≡ true → (a < b) ⊎ ((a ≡ b) × (c ≤ d))
no_later a b c d e = elim (or_cases (nat_lt a b) ((a == b) && nat_le c d) e) [
  | inl less ↦ inl (ltb-true a b less)
  | inr same ↦ let p = and_parts (a == b) (nat_le c d) same in inr (eqb-true a b p.0, leb-true c d p.1)
]

-- or it is later
later : (a b c d : ℕ) → (nat_lt a b || ((a == b) && nat_le c d)) ≡ false → (b < a) ⊎ ((a ≡ b) × (d < c))
later a b c d e = go (nat_lt a b) refl (a == b) refl (nat_le c d) refl e
  where
    go : (p : Bool) → nat_lt a b ≡ p → (q : Bool) → (a == b) ≡ q → (r : Bool) → nat_le c d ≡ r → (p || (q && r)) ≡ false
        → (b < a) ⊎ ((a ≡ b) × (d < c))
    go true l q s r t e = absurd (false≢true (sym e))
    go false l true s true t e = absurd (false≢true (sym e))
    go false l true s false t e = inr (eqb-true a b s, leb-false c d t)
    go false l false s r t e = inl (let ne = eqb-false a b s in let le = ltb-false a b l in omega (arith, ne, le))

module _ (nodes departed : List ℕ) (left : HaveLeft nodes departed) where
  -- what isn't on its link yet leaves the first sender what it is: it is of the node at present
  pub first_still : (x t f : ℕ) (w : Links Letter) (u : Option Unsent) → IfSome u (AreOwn nodes) → with_older nodes f ≡ true
      → IsFirstSender x t (Some f) w → IsFirstSender x t (Some f) (with_unsent u w)
  first_still x t f w None own started first = first
  first_still x t f w (Some u) own started first = (
    first.0,
    still_waits u.sender u.letters w f t first.1,
    λ g named less. still_nothing u.sender u.letters w g t (first.2 g named less)
        (λ at up. absurd (let le = at_most nodes departed f u.sender left started (known_place nodes u.sender u.place own.sender)
        (first.0 ∙ sym named ∙ ap name_of at) in omega (arith, le, less, at))),
  )

-- where no letter of a name is on its link, that of an outbox is the first
pub first_unsent : (x t : ℕ) (w : Links Letter) (u : Unsent) → ((f : ℕ) → name_of f ≡ x → f < u.sender → w.queue f t ≡ [])
    → name_of u.sender ≡ x → w.closed t ≡ false → is_nil (letters_to t u.letters) ≡ false
    → IsFirstSender x t (Some u.sender) (with_unsent (Some u) w)
first_unsent x t w u none named up some = (
  named,
  waits_too u.sender u.letters w t up some,
  λ g name less. still_nothing u.sender u.letters w g t (none g name less) (λ at up. absurd (omega (arith, at, less))),
)

-- or there is none
pub none_unsent : (x t : ℕ) (w : Links Letter) (u : Unsent) → ((f : ℕ) → name_of f ≡ x → w.queue f t ≡ [])
    → (name_of u.sender ≡ x → w.closed t ≡ false → letters_to t u.letters ≡ []) → IsFirstSender x t None (with_unsent (Some u) w)
none_unsent x t w u none gone = λ f named. still_nothing u.sender u.letters w f t (none f named)
    (λ at up. gone (ap name_of (sym at) ∙ named) up)

module _ (nodes departed : List ℕ) (left : HaveLeft nodes departed) (w : Links Letter)
    (started : (f t : ℕ) → is_nil (w.queue f t) ≡ false → with_older nodes f ≡ true) (u : Unsent) (own : AreOwn nodes u) where
  -- a link is before another, by name
  abbrev IsBefore : ℕ → ℕ → ℕ → ℕ → Type 0
  IsBefore x y f t = (name_of x < name_of f) ⊎ ((name_of x ≡ name_of f) × (name_of y < name_of t))

  -- before the first receiver's link none waits
  before_least : (t : ℕ) → IsLeastOpen w.closed u.letters (Some t) → (x y : ℕ) → w.queue x y ≡ []
      → (x ≡ u.sender → name_of y < name_of t) → (with_unsent (Some u) w).queue x y ≡ []
  before_least t least x y empty below = still_nothing u.sender u.letters w x y empty
      (λ at up. least.2 y (let l = below at in omega (arith, l)) up)

  -- of the letters that wait for their links the first goes to t: links before that have none
  pub waits_with : (first : Option (ℕ × ℕ)) (r : Option ℕ) → WaitsFirst first w → IsLeastOpen w.closed u.letters r
      → WaitsFirst (earlier first u.sender r) (with_unsent (Some u) w)
  waits_with first None on none = subst (λ (l : Links Letter). WaitsFirst first l) (sym (none_posted u w none)) on
  waits_with None (Some t) on least = (
    first_unsent (name_of u.sender) t w u (λ f named less. on f t) refl least.0 least.1,
    λ x y before. before_least t least x y (on x y) (λ at. below x y at before),
  )
    where
      below : (x y : ℕ) → x ≡ u.sender → IsBefore x y u.sender t → name_of y < name_of t
      below x y at (inl less) = let same = ap name_of at in absurd (omega (arith, same, less))
      below x y at (inr p) = p.1
  waits_with (Some (f, v)) (Some t) on least = go (nat_lt (name_of f) (name_of u.sender)
      || ((name_of f == name_of u.sender) && nat_le (name_of v) (name_of t))) refl
    where
      kept : (name_of f < name_of u.sender) ⊎ ((name_of f ≡ name_of u.sender) × (name_of v ≤ name_of t)) → (x y : ℕ)
          → x ≡ u.sender → IsBefore x y f v → name_of y < name_of t
      kept (inl sooner) x y at (inl less) = let same = ap name_of at in absurd (omega (arith, same, less, sooner))
      kept (inl sooner) x y at (inr p) = let same = ap name_of at in let e = p.0 in absurd (omega (arith, same, e, sooner))
      kept (inr q) x y at (inl less) = let same = ap name_of at in let e = q.0 in absurd (omega (arith, same, less, e))
      kept (inr q) x y at (inr p) = let le = q.1 in let less = p.1 in omega (arith, le, less)

      lift : (name_of u.sender < name_of f) ⊎ ((name_of f ≡ name_of u.sender) × (name_of t < name_of v)) → (x y : ℕ)
          → IsBefore x y u.sender t → IsBefore x y f v
      lift (inl late) x y (inl less) = inl (omega (arith, late, less))
      lift (inl late) x y (inr p) = let e = p.0 in inl (omega (arith, late, e))
      lift (inr q) x y (inl less) = let e = q.0 in inl (omega (arith, less, e))
      lift (inr q) x y (inr p) = let less = p.1 in let more = q.1 in inr (p.0 ∙ sym q.0, omega (arith, less, more))

      own_name : (name_of u.sender < name_of f) ⊎ ((name_of f ≡ name_of u.sender) × (name_of t < name_of v)) → (g : ℕ)
          → name_of g ≡ name_of u.sender → IsBefore g t f v
      own_name (inl late) g named = inl (omega (arith, late, named))
      own_name (inr q) g named = inr (named ∙ sym q.0, q.1)

      below : (x y : ℕ) → x ≡ u.sender → IsBefore x y u.sender t → name_of y < name_of t
      below x y at (inl less) = let same = ap name_of at in absurd (omega (arith, same, less))
      below x y at (inr p) = p.1

      go : (b : Bool) → (nat_lt (name_of f) (name_of u.sender)
          || ((name_of f == name_of u.sender) && nat_le (name_of v) (name_of t))) ≡ b
          → WaitsFirst (if b then Some (f, v) else Some (u.sender, t)) (with_unsent (Some u) w)
      go true e = let soon = no_later (name_of f) (name_of u.sender) (name_of v) (name_of t) e in (
        first_still nodes departed left (name_of f) v f w (Some u) own (started f v on.0.1) on.0,
        λ x y before. before_least t least x y (on.1 x y before) (λ at. kept soon x y at before),
      )
      go false e = let late = later (name_of f) (name_of u.sender) (name_of v) (name_of t) e in (
        first_unsent (name_of u.sender) t w u (λ g named less. on.1 g t (own_name late g named)) refl least.0 least.1,
        λ x y before. before_least t least x y (on.1 x y (lift late x y before)) (λ at. below x y at before),
      )
