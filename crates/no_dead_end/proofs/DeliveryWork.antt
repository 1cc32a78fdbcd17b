-- A chain of rules that reads a letter lowers the work.
use Rattle.std.proofs.Common.{ℕ, suc, Bool, true, false, ◌==◌, ◌≡◌, ◌<◌, ◌≤◌, ◌+◌, ◌*◌, Option, Some, None, List, [], ◌∷◌, ◌++◌, refl, sym, ap, subst, ◌∙◌, inl, inr, arith}
use Rattle.std.specs.Prelude.{length, drop, not, ◌&&◌, ◌||◌, filter, Contains, is_some, if◌then◌else◌}
use Rattle.std.specs.List.{list_any, list_all}
use Rattle.std.proofs.Math.Nat.{mul-le-mul_right}
use Rattle.std.proofs.lemmas.Bool.{and_parts, ltb-true, eq-eqb, eqb-true}
use Rattle.std.proofs.lemmas.List.Sums.{sum_by-le-sum_by}
use Rattle.std.proofs.lemmas.List.Folds.{list_any-append, list_all-append}
use Rattle.registry_model.specs.Process.{Process, Nodes, nodes_of}
use Rattle.registry_model.proofs.Lists.{Contains-cases, Contains-nil}
use Rattle.registry_model.proofs.Updates.{at_same}
use Rattle.protocol_model.specs.Letter.{Letter}
use Rattle.protocol_model.specs.Watch.{is_dead, with_dead}
use Rattle.protocol_model.specs.Node.{Node}
use Rattle.protocol_model.specs.World.{Opening, in_world, World, left, Deliver, letter_taken, refusal, accepted}
use Rattle.protocol_model.specs.Event.{EmptyLink}
use Rattle.protocol_model.specs.Links.{is_nil}
use Rattle.walk.proofs.Events.{no_cause, accepted_of}
use Rattle.walk.proofs.Walk.{OrderedWalk}
use Rattle.protocol_model.specs.ClientLocks.{is_no_more}
use Rattle.named_events.proofs.Growing.{gone_keeps}
use Rattle.named_events.proofs.Rules
use Rattle.named_events.proofs.Rules.{Rule, Taken, kills_in, is_quiet}
use Rattle.named_events.proofs.Indices.{both}
use Rattle.walk.proofs.Worlds.{stays_front}
use Rattle.walk.proofs.ChainKinds.{Hearing, suits, is_allowed}
use Rattle.named_events.proofs.Base.{is_leave}
use Rattle.no_dead_end.specs.Weights.{sum_below, when, of_link, of_node, of_place, total}
use Rattle.no_dead_end.specs.Work.{live_on, letter_work, work_weights, may_die}
use Rattle.no_dead_end.proofs.Sums.{sum-le}
use Rattle.no_dead_end.proofs.Totals.{taken_total}
use Rattle.no_dead_end.proofs.Counting.{Counting}
use Rattle.no_dead_end.proofs.RuleWork.{Ready, price, taken_one, kills_due, rule_work}

-- where fewer live, fewer are counted
fewer_on : (alive later : Process → Bool) → ((p : Process) → later p ≡ true → alive p ≡ true) → (c : ℕ) (ps : List Process)
    → live_on later c ps ≤ live_on alive c ps
fewer_on alive later h c [] = omega arith
fewer_on alive later h c (p ∷ ps) = go (p.node == c) (later p) (alive p) (h p) (fewer_on alive later h c ps)
  where
    go : (t u x : Bool) → (u ≡ true → x ≡ true) → live_on later c ps ≤ live_on alive c ps
        → length (if t && u then p ∷ filter (λ q. (q.node == c) && later q) ps else filter (λ q. (q.node == c) && later q) ps)
        ≤ length (if t && x then p ∷ filter (λ q. (q.node == c) && alive q) ps else filter (λ q. (q.node == c) && alive q) ps)
    go true true true k i = omega (arith, i)
    go true true false k i = cc (k refl)
    go true false true k i = omega (arith, i)
    go true false false k i = i
    go false u x k i = i

-- and one fewer where one of them has died
one_fewer : (alive later : Process → Bool) → ((p : Process) → later p ≡ true → alive p ≡ true)
    → (c : ℕ) (ps : List Process) (p : Process)
    → Contains ps p → p.node ≡ c → alive p ≡ true → later p ≡ false → live_on later c ps + 1 ≤ live_on alive c ps
one_fewer alive later h c [] p i home a l = absurd (Contains-nil p i)
one_fewer alive later h c (x ∷ ps) p i home a l = elim (Contains-cases x ps p i) [
  | inl same ↦ here same
  | inr more ↦ go (x.node == c) (later x) (alive x) (h x) (one_fewer alive later h c ps p more home a l)
]
  where
    rest : live_on later c ps ≤ live_on alive c ps
    rest = fewer_on alive later h c ps

    here : x ≡ p → live_on later c (x ∷ ps) + 1 ≤ live_on alive c (x ∷ ps)
    here same = rw (eq-eqb x.node c (ap (λ (q : Process). q.node) same ∙ home), ap later same ∙ l, ap alive same ∙ a)
        (let r : live_on later c ps ≤ live_on alive c ps = rest in omega (arith, r))

    go : (t u y : Bool) → (u ≡ true → y ≡ true) → live_on later c ps + 1 ≤ live_on alive c ps
        → length (if t && u then x ∷ filter (λ q. (q.node == c) && later q) ps else filter (λ q. (q.node == c) && later q) ps) + 1
        ≤ length (if t && y then x ∷ filter (λ q. (q.node == c) && alive q) ps else filter (λ q. (q.node == c) && alive q) ps)
    go true true true k i = omega (arith, i)
    go true true false k i = cc (k refl)
    go true false true k i = omega (arith, i)
    go true false false k i = i
    go false u y k i = i

-- a letter counts no more then
letter_less : (n : ℕ) (alive later : Process → Bool) → ((p : Process) → later p ≡ true → alive p ≡ true) → (f c : ℕ) (l : Letter)
    → letter_work n later f c l ≤ letter_work n alive f c l
letter_less n alive later h f c (Letter.Admit j s) =
    let k : live_on later c s.fate.kills * n ≤ live_on alive c s.fate.kills * n =
    mul-le-mul_right n (fewer_on alive later h c s.fate.kills) in
    omega (arith, k)
letter_less n alive later h f c (Letter.Welcome members pairs told fate) =
    let k : live_on later c fate.kills * n ≤ live_on alive c fate.kills * n =
    mul-le-mul_right n (fewer_on alive later h c fate.kills) in
    omega (arith, k)
letter_less n alive later h f c (Letter.SetLock id p) = omega arith
letter_less n alive later h f c (Letter.LockAnswer id p g) = omega arith
letter_less n alive later h f c (Letter.GiveBack id p ack) = omega arith
letter_less n alive later h f c (Letter.GivenBack p) = omega arith
letter_less n alive later h f c (Letter.ReleaseOf p) = omega arith
letter_less n alive later h f c (Letter.Apply change) = omega arith
letter_less n alive later h f c Letter.Applied = omega arith
letter_less n alive later h f c (Letter.JoinAsk pairs) = omega arith
letter_less n alive later h f c Letter.JoinRefused = omega arith
letter_less n alive later h f c Letter.Down = omega arith

-- and one that kills who has died counts n less
killed_less : (n : ℕ) (alive later : Process → Bool) → ((p : Process) → later p ≡ true → alive p ≡ true)
    → (f c : ℕ) (l : Letter) (p : Process)
    → Contains (kills_in l) p → p.node ≡ c → alive p ≡ true → later p ≡ false
    → letter_work n later f c l + n ≤ letter_work n alive f c l
killed_less n alive later h f c (Letter.Admit j s) p i home a l =
    let k : (live_on later c s.fate.kills + 1) * n ≤ live_on alive c s.fate.kills * n =
    mul-le-mul_right n (one_fewer alive later h c s.fate.kills p i home a l) in omega (arith, k)
killed_less n alive later h f c (Letter.Welcome members pairs told fate) p i home a l =
    let k : (live_on later c fate.kills + 1) * n ≤ live_on alive c fate.kills * n =
    mul-le-mul_right n (one_fewer alive later h c fate.kills p i home a l) in omega (arith, k)
killed_less n alive later h f c (Letter.SetLock id q) p i home a l = absurd (Contains-nil p i)
killed_less n alive later h f c (Letter.LockAnswer id q g) p i home a l = absurd (Contains-nil p i)
killed_less n alive later h f c (Letter.GiveBack id q ack) p i home a l = absurd (Contains-nil p i)
killed_less n alive later h f c (Letter.GivenBack q) p i home a l = absurd (Contains-nil p i)
killed_less n alive later h f c (Letter.ReleaseOf q) p i home a l = absurd (Contains-nil p i)
killed_less n alive later h f c (Letter.Apply change) p i home a l = absurd (Contains-nil p i)
killed_less n alive later h f c Letter.Applied p i home a l = absurd (Contains-nil p i)
killed_less n alive later h f c (Letter.JoinAsk pairs) p i home a l = absurd (Contains-nil p i)
killed_less n alive later h f c Letter.JoinRefused p i home a l = absurd (Contains-nil p i)
killed_less n alive later h f c Letter.Down p i home a l = absurd (Contains-nil p i)

module _ (b n : ℕ) (up : Nodes) where
  pub total_less : (alive later : Process → Bool) → ((p : Process) → later p ≡ true → alive p ≡ true) → (w : World)
      → total b (work_weights n later) up w ≤ total b (work_weights n alive) up w
  total_less alive later h w = sum-le b (λ c. when (up c) (of_place b (work_weights n later) up w c))
      (λ c. when (up c) (of_place b (work_weights n alive) up w c)) (λ c l. by (up c) c)
    where
      links : (c : ℕ) → sum_below b (λ f. of_link (work_weights n later) f c (w.links.queue f c))
          ≤ sum_below b (λ f. of_link (work_weights n alive) f c (w.links.queue f c))
      links c = sum-le b (λ f. of_link (work_weights n later) f c (w.links.queue f c))
          (λ f. of_link (work_weights n alive) f c (w.links.queue f c))
          (λ f l. sum_by-le-sum_by (letter_work n later f c) (letter_work n alive f c) (w.links.queue f c)
          (letter_less n alive later h f c))

      by : (t : Bool) (c : ℕ) → when t (of_place b (work_weights n later) up w c)
          ≤ when t (of_place b (work_weights n alive) up w c)
      by true c = let k : sum_below b (λ f. of_link (work_weights n later) f c (w.links.queue f c))
          ≤ sum_below b (λ f. of_link (work_weights n alive) f c (w.links.queue f c)) = links c in
          let same : of_node b (work_weights n later) up c (w.node c) ≡ of_node b (work_weights n alive) up c (w.node c) = refl in
          omega (arith, k, same)
      by false c = omega arith

module _ (o : Opening) (a : ℕ) (w : World) (r : Rule) where
  abbrev x : World
  x = Rules.effect o a r w

  -- who may die behind a rule might before
  mortal : (p : Process) → may_die x p ≡ true → may_die w p ≡ true
  mortal p h = go (is_no_more w p) refl
    where
      go : (t : Bool) → is_no_more w p ≡ t → not t ≡ true
      go true e = cc (gone_keeps o a w r p e, h)
      go false e = refl

module _ (o : Opening) (n : ℕ) (up : Nodes) (most : length (nodes_of o.bound up) ≤ n) (a : ℕ) where
  -- how it is counted in a world
  abbrev counting : World → Counting
  counting w = record { opening = o; size = n; alive = may_die w; up = up; few = most; node = a }

  -- the work of a world, as these count
  abbrev pub counted : World → ℕ
  counted w = total o.bound (work_weights n (may_die w)) up w

  -- rules that add nothing
  abbrev pub is_cheap : Rule → Bool
  is_cheap (Rules.CallsName call) = false
  is_cheap (Rules.CallsJoin m) = false
  is_cheap (Rules.Exits p) = false
  is_cheap (Rules.Retries op) = false
  is_cheap (Rules.AsksLock c) = false
  is_cheap (Rules.DeletesLock c) = false
  is_cheap Rules.Leaves = false
  is_cheap r = true

  -- a kill is paid for by the letter that is read next
  kills_less : (w : World) (f : ℕ) (l : Letter) (p : Process) (receivers : Nodes) → Rules.May o a w (Rules.Kills f l p receivers)
      → up a ≡ true → counted (Rules.effect o a (Rules.Kills f l p receivers) w) + n
      ≤ total o.bound (work_weights n (may_die w)) up (Rules.effect o a (Rules.Kills f l p receivers) w)
  kills_less w f l p receivers m here =
      let front : (more : List Letter) × (x.links.queue f a ≡ l ∷ more) =
      stays_front a f (Rules.turn_by o a w r) w l m.tested.2.0 m.tested.2.1 in
      let low : f < o.bound = ltb-true f o.bound (and_parts _ (o.nodes f) m.tested.1).0 in
      let mine : a < o.bound = ltb-true a o.bound (and_parts _ (o.nodes a) m.inside).0 in
      let after : _ = taken_total o.bound (work_weights n (may_die x)) up f a x l front.0 low mine here front.1 in
      let before : _ = taken_total o.bound (work_weights n (may_die w)) up f a x l front.0 low mine here front.1 in
      let rest : _ = total_less o.bound n up (may_die w) (may_die x) (mortal o a w r)
      (letter_taken (Deliver f a) x) in
      let letter : letter_work n (may_die x) f a l + n ≤ letter_work n (may_die w) f a l =
      killed_less n (may_die w) (may_die x) (mortal o a w r) f a l p m.tested.3 home alive gone in
      omega (arith, after, before, rest, letter)
    where
      r : Rule
      r = Rules.Kills f l p receivers

      x : World
      x = Rules.effect o a r w

      live : (((p.node == a) && not (p.serial == 0)) ≡ true) × (not (is_dead (w.node a).watch p.serial) ≡ true)
      live = both ((p.node == a) && not (p.serial == 0)) (not (is_dead (w.node a).watch p.serial)) m.tested.4

      home : p.node ≡ a
      home = eqb-true p.node a (both (p.node == a) (not (p.serial == 0)) live.0).0

      alive : may_die w p ≡ true
      alive = subst (λ (c : ℕ). not (left w c || is_dead (w.node c).watch p.serial) ≡ true) (sym home)
          (rw (m.running) live.1)

      gone : may_die x p ≡ false
      gone = subst (λ (c : ℕ). not (left x c || is_dead (x.node c).watch p.serial) ≡ false) (sym home)
          (ap (λ (y : Node). not (left x a || is_dead y.watch p.serial)) (at_same w.node a (Rules.turn_by o a w r).node)
          ∙ ap (λ (t : Bool). not (left x a || t)) dead ∙ either (left x a))
        where
          dead : is_dead (with_dead p.serial (w.node a).watch) p.serial ≡ true
          dead = list_any-append (λ d. d == p.serial) (w.node a).watch.dead (p.serial ∷ [])
              ∙ ap (λ (t : Bool). list_any (λ d. d == p.serial) (w.node a).watch.dead || (t || false))
              (eq-eqb p.serial p.serial refl)
              ∙ last (list_any (λ d. d == p.serial) (w.node a).watch.dead)
            where
              last : (t : Bool) → (t || true) ≡ true
              last true = refl
              last false = refl

          either : (t : Bool) → not (t || true) ≡ false
          either true = refl
          either false = refl

  -- a rule that adds nothing lowers the work where it takes a letter
  cheap_work : (w : World) (r : Rule) → Ready o up w a → Rules.May o a w r → is_cheap r ≡ true
      → counted (Rules.effect o a r w) + taken_one (Rules.takes o a r) ≤ counted w
  cheap_work w r R m c = go r m c (rule_work (counting w) w R r m)
      (total_less o.bound n up (may_die w) (may_die (Rules.effect o a r w)) (mortal o a w r) (Rules.effect o a r w))
    where
      go : (s : Rule) → Rules.May o a w s → is_cheap s ≡ true
          → (is_leave s ≡ false → total o.bound (work_weights n (may_die w)) up (Rules.effect o a s w)
          + (taken_one (Rules.takes o a s) + kills_due (counting w) s) ≤ counted w + price (counting w) (w.node a) s)
          → counted (Rules.effect o a s w) ≤ total o.bound (work_weights n (may_die w)) up (Rules.effect o a s w)
          → counted (Rules.effect o a s w) + taken_one (Rules.takes o a s) ≤ counted w
      go (Rules.Kills f l p receivers) k e work less =
          let h : _ = work refl in let i : _ = kills_less w f l p receivers k R.counts in omega (arith, h, i)
      go (Rules.CallsName call) k e work less = cc e
      go (Rules.CallsJoin j) k e work less = cc e
      go (Rules.Exits p) k e work less = cc e
      go (Rules.Retries op) k e work less = cc e
      go (Rules.AsksLock d) k e work less = cc e
      go (Rules.DeletesLock d) k e work less = cc e
      go Rules.Leaves k e work less = cc e
      go s k e work less = let h : _ = work refl in omega (arith, h, less)

  -- F: what each rule keeps, and by which node a is ready for the next
  module _ (F : World → Type 0) (ready : (w : World) → F w → in_world o a ≡ true → left w a ≡ false → Ready o up w a)
      (keeps : (w : World) (r : Rule) → F w → Rules.May o a w r → is_leave r ≡ false → F (Rules.effect o a r w)) where
    abbrev pub takes_any : List Rule → Bool
    takes_any rs = list_any (λ r. is_some (Rules.takes o a r)) rs

    stays_cheap : (r : Rule) → is_cheap r ≡ true → is_leave r ≡ false
    stays_cheap Rules.Leaves e = cc e
    stays_cheap r e = refl

    one_taken : (t : Option Taken) → taken_one t ≡ when (is_some t) 1
    one_taken None = refl
    one_taken (Some t) = refl

    -- a chain of such rules
    pub chain_work : (rs : List Rule) (w : World) → F w → Rules.MayAll o a rs w → list_all is_cheap rs ≡ true
        → counted (Rules.effects o a rs w) + when (takes_any rs) 1 ≤ counted w
    chain_work [] w k m c = omega arith
    chain_work (r ∷ rs) w k m c =
        let cheap : (is_cheap r ≡ true) × (list_all is_cheap rs ≡ true) = both (is_cheap r) (list_all is_cheap rs) c in
        let first : counted (Rules.effect o a r w) + taken_one (Rules.takes o a r) ≤ counted w =
        cheap_work w r (ready w k m.0.inside m.0.running) m.0 cheap.0 in
        let rest : counted (Rules.effects o a rs (Rules.effect o a r w)) + when (takes_any rs) 1 ≤ counted (Rules.effect o a r w) =
        chain_work rs (Rules.effect o a r w) (keeps w r k m.0 (stays_cheap r cheap.0)) m.1 cheap.1 in
        let one : taken_one (Rules.takes o a r) ≡ when (is_some (Rules.takes o a r)) 1 = one_taken (Rules.takes o a r) in
        let either : when (is_some (Rules.takes o a r) || takes_any rs) 1 ≤ when (is_some (Rules.takes o a r)) 1
        + when (takes_any rs) 1 =
        by (is_some (Rules.takes o a r)) (takes_any rs) in
        omega (arith, first, rest, one, either)
      where
        by : (s t : Bool) → when (s || t) 1 ≤ when s 1 + when t 1
        by true t = omega arith
        by false t = omega arith

    cheap_rule : (r : Rule) → is_quiet r ≡ true → suits Hearing r ≡ true → is_allowed true r ≡ true → is_cheap r ≡ true
    cheap_rule (Rules.CallsName call) q s l = cc q
    cheap_rule (Rules.CallsJoin m) q s l = cc q
    cheap_rule (Rules.Exits p) q s l = cc q
    cheap_rule (Rules.Retries op) q s l = cc l
    cheap_rule (Rules.AsksLock c) q s l = cc s
    cheap_rule (Rules.DeletesLock c) q s l = cc s
    cheap_rule Rules.Leaves q s l = cc q
    cheap_rule r q s l = refl

    cheap_rules : (rs : List Rule) → list_all is_quiet rs ≡ true → list_all (suits Hearing) rs ≡ true
        → list_all (is_allowed true) rs ≡ true
        → list_all is_cheap rs ≡ true
    cheap_rules [] q s l = refl
    cheap_rules (r ∷ rs) q s l =
        let p : (is_quiet r ≡ true) × (list_all is_quiet rs ≡ true) = both (is_quiet r) (list_all is_quiet rs) q in
        let t : (suits Hearing r ≡ true) × (list_all (suits Hearing) rs ≡ true) =
        both (suits Hearing r) (list_all (suits Hearing) rs) s in
        let u : (is_allowed true r ≡ true) × (list_all (is_allowed true) rs ≡ true) =
        both (is_allowed true r) (list_all (is_allowed true) rs) l in
        rw (cheap_rule r p.0 t.0 u.0, cheap_rules rs p.1 t.1 u.1) refl

    first_cheap : (f : ℕ) (ls : List Letter) → list_all is_cheap (Rules.first_by_letter o a f ls) ≡ true
    first_cheap f (Letter.Down ∷ ls) = refl
    first_cheap f [] = refl
    first_cheap f (Letter.SetLock id p ∷ ls) = refl
    first_cheap f (Letter.LockAnswer id p g ∷ ls) = refl
    first_cheap f (Letter.GiveBack id p ack ∷ ls) = refl
    first_cheap f (Letter.GivenBack p ∷ ls) = refl
    first_cheap f (Letter.ReleaseOf p ∷ ls) = refl
    first_cheap f (Letter.Apply change ∷ ls) = refl
    first_cheap f (Letter.Applied ∷ ls) = refl
    first_cheap f (Letter.JoinAsk pairs ∷ ls) = refl
    first_cheap f (Letter.JoinRefused ∷ ls) = refl
    first_cheap f (Letter.Admit j s ∷ ls) = refl
    first_cheap f (Letter.Welcome members pairs told fate ∷ ls) = refl

    -- the delivery of a letter lowers the work
    pub delivery_work : (f : ℕ) (w : World) → F w → OrderedWalk o w (Deliver f a) → refusal o w (Deliver f a) ≡ None
        → counted (accepted o w (Deliver f a)) < counted w
    delivery_work f w k h r =
        let all : list_all is_cheap (Rules.first_by_letter o a f (w.links.queue f a) ++ h.walk.rest) ≡ true =
        list_all-append is_cheap (Rules.first_by_letter o a f (w.links.queue f a)) h.walk.rest
        ∙ ap (λ (t : Bool). t && list_all is_cheap h.walk.rest) (first_cheap f (w.links.queue f a))
        ∙ cheap_rules h.walk.rest h.walk.quiet h.in_order h.allowed in
        let work : counted (Rules.effects o a (Rules.first_by_letter o a f (w.links.queue f a) ++ h.walk.rest) w)
        + when (takes_any (Rules.first_by_letter o a f (w.links.queue f a) ++ h.walk.rest)) 1 ≤ counted w =
        chain_work (Rules.first_by_letter o a f (w.links.queue f a) ++ h.walk.rest) w k h.walk.may all in
        let same : counted (Rules.effects o a (Rules.first_by_letter o a f (w.links.queue f a) ++ h.walk.rest) w)
        ≡ counted (accepted o w (Deliver f a)) =
        ap counted h.walk.world in
        let took : when (takes_any (Rules.first_by_letter o a f (w.links.queue f a) ++ h.walk.rest)) 1 ≡ 1 =
        ap (λ (t : Bool). when t 1) any in
        omega (arith, work, same, took)
      where
        some : (ls : List Letter) → w.links.queue f a ≡ ls → letter_taken (Deliver f a) w ≡ w → (ls ≡ [] → ⊥) → ⊥
        some [] e k full = full refl
        some (l ∷ ls) e k full =
            let here : (letter_taken (Deliver f a) w).links.queue f a ≡ drop 1 (w.links.queue f a) =
            rw (eq-eqb f f refl, eq-eqb a a refl) refl in
            let shorter : drop 1 (w.links.queue f a) ≡ w.links.queue f a = sym here ∙ ap (λ (x : World). x.links.queue f a) k in
            let size : length ls ≡ suc (length ls) =
            ap (λ (x : List Letter). length (drop 1 x)) (sym e) ∙ ap length shorter ∙ ap length e in
            absurd (omega (arith, size))

        still : letter_taken (Deliver f a) w ≡ w → ⊥
        still e = some (w.links.queue f a) refl e (λ empty. full empty)
          where
            full : w.links.queue f a ≡ [] → ⊥
            full empty = cc (
              ap is_nil empty,
              (no_cause (is_nil (w.links.queue f a)) EmptyLink []
                  (accepted_of o w (Deliver f a) r).local).0,
            )

        any : takes_any (Rules.first_by_letter o a f (w.links.queue f a) ++ h.walk.rest) ≡ true
        any = elim h.came [
          | inl e ↦ absurd (still e)
          | inr t ↦ t
        ]
