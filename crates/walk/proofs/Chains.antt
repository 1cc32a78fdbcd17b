-- Chains of rules: one behind another, and one rule more.
use mathlib.Core.Logic.{◌⊎◌, inl, inr}
use Rattle.std.proofs.Common.{ℕ, suc, Bool, true, false, ◌≡◌, Option, Some, None, List, [], ◌∷◌, ◌++◌, drop, length, refl, sym, subst, ap, ◌∙◌, arith}
use Rattle.std.specs.Prelude.{◌&&◌, ◌||◌, nat_lt, is_some}
use Rattle.std.specs.List.{list_all, list_any}
use Rattle.std.proofs.lemmas.List.{append-nil, append_assoc}
use Rattle.std.proofs.lemmas.List.Folds.{list_all-append, list_any-append}
use Rattle.std.proofs.lemmas.Bool.{eq-eqb, lt-ltb, le-ltb}
use Rattle.registry_model.specs.History.{Entry}
use Rattle.protocol_model.specs.Letter.{Letter}
use Rattle.protocol_model.specs.Event.{Answer}
use Rattle.protocol_model.specs.Node.{Node}
use Rattle.protocol_model.specs.Turn.{Turn, begun}
use Rattle.protocol_model.specs.World.{Opening, in_world, World, left, Deliver, join_number, apply, letter_taken}
use Rattle.registry_model.proofs.Updates.{at_same}
use Rattle.moves.proofs.Indices.{both}
use Rattle.moves.proofs.Rules
use Rattle.moves.proofs.Rules.{Rule, Taken, taking, is_quiet}
use Rattle.walk.proofs.Worlds.{onto, apply-onto, apply-begun, opened-apply, stays_front}
use Rattle.walk.proofs.Extends.{turn_extended}
use Rattle.walk.proofs.ChainKinds.{Kind, suits, may_go_on, is_allowed, leaves_locks, may_begin, is_fit, begin_quiet, begin_allowed, begin_suits, fit_begins, fit_quiet, fit_leaves}

-- a rule that isn't a leave closes nobody out
pub closed_by-quiet : (o : Opening) (a : ℕ) (r : Rule) (w : World) → is_quiet r ≡ true → Rules.closed_by o a r w ≡ w
closed_by-quiet o a Rules.Leaves w q = cc
closed_by-quiet o a _ w q = refl

-- behind the first of them no rule changes the lock table
abbrev pub LeaveLocks : List Rule → Type 0
LeaveLocks rs = list_all leaves_locks (drop 1 rs) ≡ true

-- one rule more that leaves it as it is
leave_more : (rs : List Rule) (r : Rule) → LeaveLocks rs → leaves_locks r ≡ true → LeaveLocks (rs ++ r ∷ [])
leave_more [] r h k = refl
leave_more (x ∷ xs) r h k = list_all-append leaves_locks xs (r ∷ [])
    ∙ ap (λ (t : Bool). t && (leaves_locks r && true)) h ∙ ap (λ (t : Bool). t && true) k

-- a rule that takes no letter leaves it as it is, unless it is an event's own
untaken_leaves : (o : Opening) (a : ℕ) (r : Rule) → Rules.takes o a r ≡ None → leaves_locks r ≡ true
untaken_leaves o a (Rules.Judges f id p) e = cc
untaken_leaves o a (Rules.TakesBack f id p ack) e = cc
untaken_leaves o a (Rules.Releases f p) e = cc
untaken_leaves o a (Rules.IsTold f) e = cc
untaken_leaves o a _ e = refl

module _ (o : Opening) (a : ℕ) where
  -- the effect of a chain and of another behind it
  pub effects-append : (rs ss : List Rule) (w : World)
      → Rules.effects o a (rs ++ ss) w ≡ Rules.effects o a ss (Rules.effects o a rs w)
  effects-append [] ss w = refl
  effects-append (r ∷ rs) ss w = effects-append rs ss (Rules.effect o a r w)

  -- their entries
  pub entries_by-append : (rs ss : List Rule) (w : World)
      → Rules.entries_by o a (rs ++ ss) w ≡ Rules.entries_by o a rs w ++ Rules.entries_by o a ss
      (Rules.effects o a rs w)
  entries_by-append [] ss w = refl
  entries_by-append (r ∷ rs) ss w =
      ap (λ (es : List Entry). (Rules.turn_by o a w r).entries ++ es) (entries_by-append rs ss (Rules.effect o a r w))
      ∙ sym (append_assoc (Rules.turn_by o a w r).entries (Rules.entries_by o a rs (Rules.effect o a r w))
      (Rules.entries_by o a ss (Rules.effects o a (r ∷ rs) w)))

  -- their answers
  pub answers_by-append : (rs ss : List Rule) (w : World)
      → Rules.answers_by o a (rs ++ ss) w ≡ Rules.answers_by o a rs w ++ Rules.answers_by o a ss
      (Rules.effects o a rs w)
  answers_by-append [] ss w = refl
  answers_by-append (r ∷ rs) ss w =
      ap (λ (es : List Answer). (Rules.turn_by o a w r).answers ++ es) (answers_by-append rs ss (Rules.effect o a r w))
      ∙ sym (append_assoc (Rules.turn_by o a w r).answers (Rules.answers_by o a rs (Rules.effect o a r w))
      (Rules.answers_by o a ss (Rules.effects o a (r ∷ rs) w)))

  -- each rule of both may be applied in its turn
  pub may_all-append : (rs ss : List Rule) (w : World)
      → Rules.MayAll o a rs w → Rules.MayAll o a ss (Rules.effects o a rs w) → Rules.MayAll o a (rs ++ ss) w
  may_all-append [] ss w m k = k
  may_all-append (r ∷ rs) ss w m k = (m.0, may_all-append rs ss (Rules.effect o a r w) m.1 k)

  -- and back
  pub may_all-parts : (rs ss : List Rule) (w : World) → Rules.MayAll o a (rs ++ ss) w
      → Rules.MayAll o a rs w × Rules.MayAll o a ss (Rules.effects o a rs w)
  may_all-parts [] ss w m = (tt, m)
  may_all-parts (r ∷ rs) ss w m =
      let more : Rules.MayAll o a rs (Rules.effect o a r w) × Rules.MayAll o a ss (Rules.effects o a (r ∷ rs) w) =
      may_all-parts rs ss (Rules.effect o a r w) m.1 in
      ((m.0, more.0), more.1)

-- the letter was on a link to node a that is shorter in world b than in w: there is one at most
abbrev pub is_gone_by : World → World → ℕ → Option Taken → Bool
is_gone_by w b a None = true
is_gone_by w b a (Some t) = nat_lt (length (b.links.queue t.sender a)) (length (w.links.queue t.sender a))

-- none is gone from a world itself
gone_by-itself : (w b : World) (a : ℕ) (t : Option Taken) → is_gone_by w w a t ≡ true → is_gone_by w b a t ≡ true
gone_by-itself w b a None h = refl
gone_by-itself w b a (Some t) h =
    cc (le-ltb (length (w.links.queue t.sender a)) (length (w.links.queue t.sender a)) (omega arith), h)

-- the one that is delivered is
pub gone_by-delivery : (w : World) (f a : ℕ) (l : Letter) (rest : List Letter) → w.links.queue f a ≡ l ∷ rest
    → is_gone_by w (letter_taken (Deliver f a) w) a (taking f l) ≡ true
gone_by-delivery w f a l rest front =
    rw (eq-eqb f f refl, eq-eqb a a refl, front) (lt-ltb (length rest) (suc (length rest)) (omega arith))

-- the letters that these rules take are gone
abbrev pub TakeGone : Opening → ℕ → World → World → List Rule → Type 0
TakeGone o a w b rs = list_all (λ r. is_gone_by w b a (Rules.takes o a r)) rs ≡ true

-- The world is the same, or one of these rules took the letter
abbrev pub Came : Opening → ℕ → World → World → List Rule → Type 0
Came o a w b rs = (b ≡ w) ⊎ (list_any (λ r. is_some (Rules.takes o a r)) rs ≡ true)

-- so it is for one rule more, which leaves the world or takes it
came_more : (o : Opening) (a : ℕ) (w b c : World) (rs : List Rule) (r : Rule) → Came o a w b rs
    → ((c ≡ b) ⊎ (is_some (Rules.takes o a r) ≡ true)) → Came o a w c (rs ++ r ∷ [])
came_more o a w b c rs r (inl e) (inl k) = inl (k ∙ e)
came_more o a w b c rs r (inr t) (inl k) = inr (list_any-append (λ s. is_some (Rules.takes o a s)) rs (r ∷ [])
    ∙ ap (λ (x : Bool). x || (is_some (Rules.takes o a r) || false)) t)
came_more o a w b c rs r came (inr k) = inr (list_any-append (λ s. is_some (Rules.takes o a s)) rs (r ∷ [])
    ∙ ap (λ (x : Bool). list_any (λ s. is_some (Rules.takes o a s)) rs || (x || false)) k
    ∙ last (list_any (λ s. is_some (Rules.takes o a s)) rs))
  where
    last : (x : Bool) → (x || true) ≡ true
    last true = refl
    last false = refl

module _ (o : Opening) (a : ℕ) (K : Kind) where
  -- From world w a chain that begins with these rules has come as far as turn u, which stands behind world b: w, or w
  -- without the letter that was taken
  pub record Chain (w : World) (first : List Rule) (b : World) (u : Turn) : Type 0 where
    pub rest : List Rule
    pub quiet : list_all is_quiet rest ≡ true
    pub fit : list_all (suits K) rest ≡ true
    pub allowed : list_all (is_allowed (may_go_on K)) rest ≡ true
    pub locks : LeaveLocks (first ++ rest)
    pub letters : TakeGone o a w b (first ++ rest)
    pub came : Came o a w b (first ++ rest)
    pub may : Rules.MayAll o a (first ++ rest) w
    pub world : Rules.effects o a (first ++ rest) w ≡ apply a u b
    pub entries : Rules.entries_by o a (first ++ rest) w ≡ u.entries
    pub answers : Rules.answers_by o a (first ++ rest) w ≡ u.answers

  -- nothing is done yet
  pub chain_none : (w : World) → Chain w [] w (begun (w.node a))
  chain_none w =
      record {
        rest = [];
        quiet = refl;
        fit = refl;
        allowed = refl;
        locks = refl;
        letters = refl;
        came = inl refl;
        may = tt;
        world = sym
            (apply-begun a w);
        entries = refl;
        answers = refl;
      }

  -- a first rule
  pub chain_one : (w b : World) (r : Rule) → Rules.May o a w r → is_gone_by w b a (Rules.takes o a r) ≡ true
      → ((b ≡ w) ⊎ (is_some (Rules.takes o a r) ≡ true))
      → Rules.effect o a r w ≡ apply a (Rules.turn_by o a w r) b
      → Chain w (r ∷ []) b (Rules.turn_by o a w r)
  chain_one w b r m gone came e = record {
    came = came_more o a w w b [] r (inl refl) came;
    rest = [];
    quiet = refl;
    fit = refl;
    allowed = refl;
    locks = refl;
    letters = ap (λ (t : Bool). t && true) gone;
    may = (m, tt);
    world = e;
    entries = append-nil (Rules.turn_by o a w r).entries;
    answers = append-nil (Rules.turn_by o a w r).answers;
  }

  -- a first rule that counts among the rest
  pub chain_quiet : (w b : World) (r : Rule) → Rules.May o a w r → is_gone_by w b a (Rules.takes o a r) ≡ true
      → ((b ≡ w) ⊎ (is_some (Rules.takes o a r) ≡ true))
      → may_begin K r ≡ true → Rules.effect o a r w ≡ apply a (Rules.turn_by o a w r) b
      → Chain w [] b (Rules.turn_by o a w r)
  chain_quiet w b r m gone came q e = record {
    came = came_more o a w w b [] r (inl refl) came;
    rest = r ∷ [];
    quiet = ap (λ (t : Bool). t && true) (begin_quiet K r q);
    fit = ap (λ (t : Bool). t && true) (begin_suits K r q);
    allowed = ap (λ (t : Bool). t && true) (begin_allowed K r q);
    locks = refl;
    letters = ap (λ (t : Bool). t && true) gone;
    may = (m, tt);
    world = e;
    entries = append-nil (Rules.turn_by o a w r).entries;
    answers = append-nil (Rules.turn_by o a w r).answers;
  }

  -- the letters of a chain stay gone
  take_more : (w b c : World) → ((t : Option Taken) → is_gone_by w b a t ≡ true → is_gone_by w c a t ≡ true)
      → (rs : List Rule) → TakeGone o a w b rs → TakeGone o a w c rs
  take_more w b c on [] h = refl
  take_more w b c on (r ∷ rs) h =
      let parts : (is_gone_by w b a (Rules.takes o a r) ≡ true) × TakeGone o a w b rs =
      both (is_gone_by w b a (Rules.takes o a r)) (list_all (λ s. is_gone_by w b a (Rules.takes o a s)) rs) h in
      rw (on (Rules.takes o a r) parts.0, take_more w b c on rs parts.1) refl

  -- one rule more, by its effect on the world so far
  chain_on : (w : World) (first : List Rule) (b c : World) (u v : Turn) (r : Rule)
      → Chain w first b u → ((t : Option Taken) → is_gone_by w b a t ≡ true → is_gone_by w c a t ≡ true)
      → is_gone_by w c a (Rules.takes o a r) ≡ true → ((c ≡ b) ⊎ (is_some (Rules.takes o a r) ≡ true))
      → is_fit K r ≡ true → Rules.May o a (apply a u b) r
      → Rules.turn_by o a (apply a u b) r ≡ v
      → Rules.effect o a r (apply a u b) ≡ apply a (onto u v) c
      → Chain w first c (onto u v)
  chain_on w first b c u v r h on gone came q m same e = record {
    came = subst (Came o a w c) (append_assoc first h.rest (r ∷ [])) (came_more o a w b c (first ++ h.rest) r h.came came);
    rest = h.rest ++ r ∷ [];
    quiet = list_all-append is_quiet h.rest (r ∷ []) ∙ ap (λ (t : Bool). t && (is_quiet r && true)) h.quiet
        ∙ ap (λ (t : Bool). t && true) (fit_quiet K r q);
    fit = list_all-append (suits K) h.rest (r ∷ []) ∙ ap (λ (t : Bool). t && (suits K r && true)) h.fit
        ∙ ap (λ (t : Bool). t && true) (begin_suits K r (fit_begins K r q));
    allowed = list_all-append (is_allowed (may_go_on K)) h.rest (r ∷ [])
        ∙ ap (λ (t : Bool). t && (is_allowed (may_go_on K) r && true)) h.allowed
        ∙ ap (λ (t : Bool). t && true) (begin_allowed K r (fit_begins K r q));
    locks = subst LeaveLocks (append_assoc first h.rest (r ∷ []))
        (leave_more (first ++ h.rest) r h.locks (fit_leaves K r q));
    letters = subst (TakeGone o a w c) (append_assoc first h.rest (r ∷ []))
        (list_all-append (λ s. is_gone_by w c a (Rules.takes o a s)) (first ++ h.rest) (r ∷ [])
        ∙ ap (λ (t : Bool). t && (is_gone_by w c a (Rules.takes o a r) && true))
        (take_more w b c on (first ++ h.rest) h.letters)
        ∙ ap (λ (t : Bool). t && true) gone);
    may = subst (λ (rs : List Rule). Rules.MayAll o a rs w) (append_assoc first h.rest (r ∷ []))
        (may_all-append o a (first ++ h.rest) (r ∷ []) w h.may
        (subst (λ (x : World). Rules.MayAll o a (r ∷ []) x) (sym h.world) (m, tt)));
    world = ap (λ (rs : List Rule). Rules.effects o a rs w) (sym (append_assoc first h.rest (r ∷ [])))
        ∙ effects-append o a (first ++ h.rest) (r ∷ []) w ∙ ap (λ (x : World). Rules.effect o a r x) h.world ∙ e;
    entries = ap (λ (rs : List Rule). Rules.entries_by o a rs w) (sym (append_assoc first h.rest (r ∷ [])))
        ∙ entries_by-append o a (first ++ h.rest) (r ∷ []) w
        ∙ ap (λ (es : List Entry). es ++ Rules.entries_by o a (r ∷ []) (Rules.effects o a (first ++ h.rest) w))
        h.entries
        ∙ ap (λ (x : World). u.entries ++ Rules.entries_by o a (r ∷ []) x) h.world
        ∙ ap (λ (es : List Entry). u.entries ++ es) (append-nil (Rules.turn_by o a (apply a u b) r).entries)
        ∙ ap (λ (x : Turn). u.entries ++ x.entries) same;
    answers = ap (λ (rs : List Rule). Rules.answers_by o a rs w) (sym (append_assoc first h.rest (r ∷ [])))
        ∙ answers_by-append o a (first ++ h.rest) (r ∷ []) w
        ∙ ap (λ (es : List Answer). es ++ Rules.answers_by o a (r ∷ []) (Rules.effects o a (first ++ h.rest) w))
        h.answers
        ∙ ap (λ (x : World). u.answers ++ Rules.answers_by o a (r ∷ []) x) h.world
        ∙ ap (λ (es : List Answer). u.answers ++ es) (append-nil (Rules.turn_by o a (apply a u b) r).answers)
        ∙ ap (λ (x : Turn). u.answers ++ x.answers) same;
  }

  -- what a rule makes behind a turn, of the node alone
  turn_behind : (b : World) (u : Turn) (r : Rule)
      → Rules.turn_by o a (apply a u b) r ≡ Rules.made o a (join_number (apply a u b)) r (begun u.node)
  turn_behind b u r =
      ap (λ (v : Node). Rules.made o a (join_number (apply a u b)) r (begun v)) (at_same b.node a u.node)

  module _ (inside : in_world o a ≡ true) where
    -- a rule that takes no letter may come next
    may_more : (b : World) (u : Turn) (r : Rule) → left b a ≡ false → Rules.takes o a r ≡ None
        → Rules.Tested o a (apply a u b) u.node r → Rules.May o a (apply a u b) r
    may_more b u r running none tested = record {
      inside = inside;
      running = running;
      front = subst (Rules.FrontTaken o a (apply a u b)) (sym none) tt;
      tested = subst (λ (v : Node). Rules.Tested o a (apply a u b) v r) (sym (at_same b.node a u.node)) tested;
    }

    -- and this is its effect
    effect_more : (b : World) (u : Turn) (r : Rule) → is_quiet r ≡ true → Rules.takes o a r ≡ None
        → Rules.effect o a r (apply a u b) ≡ apply a
        (onto u (Rules.made o a (join_number (apply a u b)) r (begun u.node))) b
    effect_more b u r q none =
        closed_by-quiet o a r
        (apply a (Rules.turn_by o a (apply a u b) r) (Rules.without_letter o a (Rules.takes o a r) (apply a u b))) q
        ∙ ap (λ (t : Option Taken). apply a (Rules.turn_by o a (apply a u b) r)
        (Rules.without_letter o a t (apply a u b))) none
        ∙ ap (λ (t : Turn). apply a t (apply a u b)) (turn_behind b u r)
        ∙ apply-onto a u (Rules.made o a (join_number (apply a u b)) r (begun u.node)) b

    -- one rule more, which takes no letter
    pub chain_more : (w : World) (first : List Rule) (b : World) (u : Turn) (r : Rule)
        → left b a ≡ false → Chain w first b u → is_fit K r ≡ true → Rules.takes o a r ≡ None
        → Rules.Tested o a (apply a u b) u.node r
        → Chain w first b (Rules.made o a (join_number (apply a u b)) r u)
    chain_more w first b u r running h q none tested =
        subst (Chain w first b) (sym (turn_extended o a (join_number (apply a u b)) r u))
        (chain_on w first b b u (Rules.made o a (join_number (apply a u b)) r (begun u.node)) r h
        (λ t k. k) (ap (is_gone_by w b a) none) (inl refl) q (may_more b u r running none tested) (turn_behind b u r)
        (effect_more b u r (fit_quiet K r q) none))

    -- two first rules, of which the second takes no letter
    pub chain_two : (w : World) (r s : Rule) → left w a ≡ false → Rules.May o a w r → Rules.takes o a r ≡ None
        → Rules.effect o a r w ≡ apply a (Rules.turn_by o a w r) w
        → is_quiet s ≡ true → Rules.takes o a s ≡ None
        → Rules.Tested o a (apply a (Rules.turn_by o a w r) w) (Rules.turn_by o a w r).node s
        → Chain w (r ∷ s ∷ []) w
        (Rules.made o a (join_number (apply a (Rules.turn_by o a w r) w)) s (Rules.turn_by o a w r))
    chain_two w r s running m untaken e q none tested =
        subst (Chain w (r ∷ s ∷ []) w) (sym (turn_extended o a (join_number (apply a u w)) s u)) (record {
          rest = [];
          quiet = refl;
          fit = refl;
          allowed = refl;
          locks = ap (λ (t : Bool). t && true) (untaken_leaves o a s none);
          letters = rw (untaken, none) refl;
          came = inl refl;
          may = (m, (subst (λ (x : World). Rules.May o a x s) (sym e) (may_more w u s running none tested), tt));
          world = ap (λ (x : World). Rules.effect o a s x) e ∙ effect_more w u s q none;
          entries = ap (λ (x : World). u.entries ++ ((Rules.turn_by o a x s).entries ++ [])) e
              ∙ ap (λ (es : List Entry). u.entries ++ es) (append-nil (Rules.turn_by o a (apply a u w) s).entries)
              ∙ ap (λ (x : Turn). u.entries ++ x.entries) (turn_behind w u s);
          answers = ap (λ (x : World). u.answers ++ ((Rules.turn_by o a x s).answers ++ [])) e
              ∙ ap (λ (es : List Answer). u.answers ++ es) (append-nil (Rules.turn_by o a (apply a u w) s).answers)
              ∙ ap (λ (x : Turn). u.answers ++ x.answers) (turn_behind w u s);
        })
      where
        u : Turn
        u = Rules.turn_by o a w r

    -- one rule more, which takes the letter
    pub chain_letter : (w : World) (first : List Rule) (u : Turn) (r : Rule) (f : ℕ) (l : Letter) (rest : List Letter)
        → left w a ≡ false → Chain w first w u → is_fit K r ≡ true → Rules.takes o a r ≡ taking f l
        → in_world o f ≡ true → w.links.queue f a ≡ l ∷ rest
        → Rules.Tested o a (apply a u w) u.node r
        → Chain w first (letter_taken (Deliver f a) w) (Rules.made o a (join_number (apply a u w)) r u)
    chain_letter w first u r f l rest running h q some known front tested =
        subst (Chain w first (letter_taken (Deliver f a) w)) (sym (turn_extended o a (join_number (apply a u w)) r u))
        (chain_on w first w (letter_taken (Deliver f a) w) u
        (Rules.made o a (join_number (apply a u w)) r (begun u.node)) r h
        (gone_by-itself w (letter_taken (Deliver f a) w) a)
        (ap (is_gone_by w (letter_taken (Deliver f a) w) a) some ∙ gone_by-delivery w f a l rest front) (inr (ap is_some some)) q may
        (turn_behind w u r) effect)
      where
        may : Rules.May o a (apply a u w) r
        may = record {
          inside = inside;
          running = running;
          front = subst (Rules.FrontTaken o a (apply a u w)) (sym some) (known, stays_front a f u w l rest front);
          tested = subst (λ (v : Node). Rules.Tested o a (apply a u w) v r) (sym (at_same w.node a u.node)) tested;
        }

        effect : Rules.effect o a r (apply a u w) ≡ apply a
            (onto u (Rules.made o a (join_number (apply a u w)) r (begun u.node))) (letter_taken (Deliver f a) w)
        effect = closed_by-quiet o a r
            (apply a (Rules.turn_by o a (apply a u w) r) (Rules.without_letter o a (Rules.takes o a r) (apply a u w)))
            (fit_quiet K r q)
            ∙ ap (λ (t : Option Taken). apply a (Rules.turn_by o a (apply a u w) r)
            (Rules.without_letter o a t (apply a u w))) some
            ∙ ap (λ (t : Turn). apply a t (letter_taken (Deliver f a) (apply a u w))) (turn_behind w u r)
            ∙ ap (λ (x : World). apply a (Rules.made o a (join_number (apply a u w)) r (begun u.node)) x)
            (opened-apply a f u w l rest front)
            ∙ apply-onto a u (Rules.made o a (join_number (apply a u w)) r (begun u.node)) (letter_taken (Deliver f a) w)
