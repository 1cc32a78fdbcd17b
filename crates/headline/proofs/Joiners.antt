-- Where a step ends an admission, its joiner was answered `joined` in an earlier one, or has left.
use mathlib.Core.Logic.{◌⊎◌}
use Rattle.std.proofs.Common.{ℕ, Bool, true, false, ◌==◌, ◌≡◌, Option, Some, None, List, [], ◌∷◌, ◌++◌, refl, sym, ap, ◌∙◌, subst, arith, inl, inr}
use Rattle.std.specs.Prelude.{nat_lt, if◌then◌else◌, filter, flat_map, fold, Contains}
use Rattle.std.proofs.lemmas.List.{append-nil, append_assoc}
use Rattle.std.proofs.lemmas.List.Elements.{Contains-append_cases, Contains-append_left, Contains-append_right}
use Rattle.std.proofs.lemmas.Grind.{flat_map-append}
use Rattle.std.proofs.lemmas.Bool.{eq-eqb, ltb-true}
use Rattle.registry_model.specs.Process.{Nodes}
use Rattle.registry_model.specs.Registry.{Registry}
use Rattle.registry_model.specs.Call.{Reply, Joined, is_grant}
use Rattle.registry_model.specs.History.{Entry, Hold, Standing, standing_of, hold_at, after}
use Rattle.registry_model.specs.HistoryLaws.{IsLeftOut}
use Rattle.registry_model.specs.Legal.{IsLegal}
use Rattle.registry_model.proofs.Lists.{Contains-cases, Contains-front, Contains-behind, Contains-nil}
use Rattle.registry_model.proofs.HistoryParts.{is_legal-at, standing_of-append, registry-after}
use Rattle.registry_model.proofs.Legality.{JoinIsLegal, join_is_legal}
use Rattle.registry_model.proofs.Holding.{old_law}
use Rattle.protocol_model.specs.Letter.{Letter}
use Rattle.protocol_model.specs.Node.{Op, Current}
use Rattle.protocol_model.specs.Event.{Answer}
use Rattle.protocol_model.specs.Fit.{Numbered, accepted_at}
use Rattle.protocol_model.specs.Answers.{answer_to, entered_at, JoinerIsAnswered}
use Rattle.protocol_model.specs.World.{Opening, World, WorldEvent, in_world, in_cluster, left, place, refusal, accepted, join_number, opening_world}
use Rattle.protocol_model.specs.Course.{Played, played, answers_of}
use Rattle.protocol_model.specs.Headline.{standing, EachStep}
use Rattle.moves.proofs.Rules
use Rattle.moves.proofs.Rules.{Rule}
use Rattle.moves.proofs.Indices.{both, empty_at}
use Rattle.moves.proofs.Invariants.{current, standing_at, Replicas, IsWritten}
use Rattle.walk.proofs.Runs.{rules_of}
use Rattle.fitting.proofs.Made.{entered, entries_made}
use Rattle.fitting.proofs.Tokens.{Gate, Away, Knock, Wait, Turned, Entering, is_entering, returns, returns_of}
use Rattle.fitting.proofs.Pasts.{Admitted, joined_grows}
use Rattle.fitting.proofs.Still.{effect-standing}
use Rattle.replicas.proofs.Mail.{carries}
use Rattle.replicas.proofs.Scenes.{mine, count_of, awaits_node, doing_of, one_if}
use Rattle.fitting.proofs.Accounts.{Accounts, answer_with, owed_by, replies_to, reply_by, is_word_at}
use Rattle.fitting.proofs.Chains
use Rattle.fitting.proofs.Keeping.{accepted_after, accounts_keep}
use Rattle.fitting.proofs.LookUps.{own_place}
use Rattle.fitting.proofs.Replies.{answers_given}
use Rattle.fitting.proofs.Theorem
use Rattle.headline.specs.Clauses.{events, world}
use Rattle.headline.proofs.Together.{Whole, whole_opens, replicas, owners, rule_whole, event_walks}
use Rattle.headline.proofs.Story.{ground}

-- what passes a test stands in the list
Contains-filter : {X : Type 0} (test : X → Bool) (xs : List X) (x : X) → Contains (filter test xs) x → Contains xs x
Contains-filter test [] x c = c
Contains-filter {X} test (y ∷ xs) x c = go (test y) c (Contains-filter test xs x)
  where
    go : (b : Bool) → Contains (if b then y ∷ filter test xs else filter test xs) x
        → (Contains (filter test xs) x → Contains xs x) → Contains (y ∷ xs) x
    go true c more = elim (Contains-cases y (filter test xs) x c) [
      | inl e ↦ subst (λ (z : X). Contains (z ∷ xs) x) (sym e) (Contains-front x xs)
      | inr d ↦ Contains-behind y xs x (more d)
    ]
    go false c more = Contains-behind y xs x (more c)

-- a welcome is a letter that carries an operation out
welcome_carried : (ls : List Letter) → returns ls ≡ true ∷ [] → count_of carries (mine ls) ≡ 0 → ⊥
welcome_carried [] e z = cc
welcome_carried (Letter.Welcome members pairs told fate ∷ ls) e z = absurd (omega (arith, z))
welcome_carried (Letter.Apply change ∷ ls) e z = absurd (omega (arith, z))
welcome_carried (Letter.Admit j settled ∷ ls) e z = absurd (omega (arith, z))
welcome_carried (Letter.JoinRefused ∷ ls) e z = cc
welcome_carried (Letter.Applied ∷ ls) e z = welcome_carried ls e (omega (arith, z))
welcome_carried (Letter.SetLock id p ∷ ls) e z = welcome_carried ls e z
welcome_carried (Letter.LockAnswer id p granted ∷ ls) e z = welcome_carried ls e z
welcome_carried (Letter.GiveBack id p ack ∷ ls) e z = welcome_carried ls e z
welcome_carried (Letter.GivenBack p ∷ ls) e z = welcome_carried ls e z
welcome_carried (Letter.ReleaseOf p ∷ ls) e z = welcome_carried ls e z
welcome_carried (Letter.JoinAsk pairs ∷ ls) e z = welcome_carried ls e z
welcome_carried (Letter.Down ∷ ls) e z = welcome_carried ls e z

-- who is joined stays joined
joined_along : (es : List Entry) (s : Standing) (x : ℕ) → s.registry.joined x ≡ true
    → (fold after s es).registry.joined x ≡ true
joined_along [] s x h = h
joined_along (e ∷ es) s x h = joined_along es (after s e) x
    (ap (λ (r : Registry). r.joined x) (registry-after s e) ∙ joined_grows e s.registry x h)

-- an answer with the reply of a gate, if it is `joined`, is that of a joiner who enters
entering_of : (j i k : ℕ) (g : Gate) (s : Answer) → s ≡ answer_to j k Joined
    → Contains (answer_with j i (reply_by g)) s → is_entering g ≡ true
entering_of j i k Away s e c = absurd (Contains-nil s c)
entering_of j i k (Knock p) s e c = absurd (Contains-nil s c)
entering_of j i k (Wait p) s e c = absurd (Contains-nil s c)
entering_of j i k Turned s e c = elim (Contains-cases _ [] s c) [
  | inl q ↦ absurd (other (ap (λ (t : Answer). t.reply) (q ∙ e)))
  | inr d ↦ absurd (Contains-nil s d)
]
  where
    other : Reply.NotMember ≡ Joined → ⊥
    other x = cc
entering_of j i k Entering s e c = refl

-- the joiner of an operation that is done was answered among these, or has left
abbrev JoinerTold : List Answer → Standing → Entry → Type 0
JoinerTold given t (Entry.Done m) = (hold : Hold) (j k : ℕ) → hold_at t m ≡ Some hold → hold.node ≡ m
    → hold.entry ≡ Entry.Join j k m Joined → (t.registry.left j ≡ true) ⊎ Contains given (answer_to j k Joined)
JoinerTold given t _ = Unit {0}

-- and so the joiner of each of these entries
abbrev AllTold : List Answer → Standing → List Entry → Type 0
AllTold given t [] = Unit {0}
AllTold given t (e ∷ es) = JoinerTold given t e × AllTold given (after t e) es

-- of entries one behind the other
all_told_append : (given : List Answer) (t : Standing) (es fs : List Entry) → AllTold given t es
    → AllTold given (fold after t es) fs → AllTold given t (es ++ fs)
all_told_append given t [] fs p q = q
all_told_append given t (e ∷ es) fs p q = (p.0, all_told_append given (after t e) es fs p.1 q)

-- of one of them
told_at : (given : List Answer) (t : Standing) (earlier later : List Entry) (e : Entry)
    → AllTold given t (earlier ++ e ∷ later) → JoinerTold given (fold after t earlier) e
told_at given t [] later e p = p.0
told_at given t (d ∷ earlier) later e p = told_at given (after t d) earlier later e p.1

module _ (o : Opening) (a : ℕ) (before : List Answer) where
  -- an admission that is done: each node has carried it out
  module _ (w : World) (ss : List Answer) (calls : ℕ → List Numbered) (op : Op) (asked awaited : Nodes)
      (reply : Option Reply) (W : Whole o w) (M : Rules.May o a w (Rules.Finishes op asked awaited reply))
      (A : Accounts o w calls (before ++ ss)) (own : (s : Answer) → Contains ss s → s.node ≡ a) where
    -- how things stand before the rule
    abbrev s : Standing
    s = standing_at o w

    -- and that the replicas are those of it
    R : Replicas o w
    R = replicas o w W.kept

    module _ (hold : Hold) (j k : ℕ) (holds : hold_at s a ≡ Some hold) (here : hold.node ≡ a)
        (is : hold.entry ≡ Entry.Join j k a Joined) where
      abbrev answer : Answer
      answer = answer_to j k Joined

      -- what holds was entered
      out : IsLeftOut (in_cluster o) w.history hold
      out = (old_law (in_cluster o) w.history).left_out a hold holds

      split : w.history ≡ out.before ++ Entry.Join j k a Joined ∷ out.later
      split = out.split ∙ ap (λ (e : Entry). out.before ++ e ∷ out.later) is

      -- legally, so its joiner is another node than its contact
      legal : JoinIsLegal (standing_of (in_cluster o) out.before) j a
      legal = join_is_legal (standing_of (in_cluster o) out.before) j a
          (is_legal-at (in_cluster o) out.before out.later (Entry.Join j k a Joined)
          (subst (IsLegal (in_cluster o)) split R.legal))

      apart : j ≡ a → ⊥
      apart e = absurd (cc (
        sym legal.lone ∙ ap (λ (x : ℕ). (standing_of (in_cluster o) out.before).registry.joined x) e,
        legal.contact,
      ))

      -- the contact is joined, so this holds in the cluster
      joined : s.registry.joined a ≡ true
      joined = ap (λ (t : Standing). t.registry.joined a)
          (ap (standing_of (in_cluster o)) split
          ∙ standing_of-append (in_cluster o) out.before (Entry.Join j k a Joined ∷ out.later))
          ∙ joined_along (Entry.Join j k a Joined ∷ out.later) (standing_of (in_cluster o) out.before) a legal.contact

      in_cluster_held : s.held ≡ Some hold
      in_cluster_held = sym (ap (λ (b : Bool). if b then s.held else s.lone_held a) joined) ∙ holds

      -- the answer is that of an entry
      entered_here : Contains (flat_map (entered_at j) w.history) answer
      entered_here = subst (λ (h : List Entry). Contains (flat_map (entered_at j) h) answer) (sym split)
          (subst (λ (xs : List Answer). Contains xs answer)
          (sym (flat_map-append (entered_at j) out.before (Entry.Join j k a Joined ∷ out.later)))
          (Contains-append_right (flat_map (entered_at j) out.before) _ answer
          (Contains-append_left (if j == j then answer ∷ [] else []) (flat_map (entered_at j) out.later) answer
          (subst (λ (b : Bool). Contains (if b then answer ∷ [] else []) answer) (sym (eq-eqb j j refl))
          (Contains-front answer [])))))

      -- nobody is awaited, so no welcome is on its way to a joiner that runs
      no_welcome : left w j ≡ false → (m : ℕ) → is_entering (A.gate j m) ≡ true → ⊥
      no_welcome up m e =
          let F : (i : ℕ) × (current o w j ≡ Current.Joining i m) × Admitted s j i m =
          (A.gates.facts j m).entering e up in
          let same : m ≡ a = sym F.2.node ∙ ap node_of (sym F.2.held ∙ in_cluster_held) ∙ here in
          let back : returns (w.links.queue m j) ≡ true ∷ [] = A.gates.back j m up ∙ only (A.gate j m) e in
          let inside : in_world o j ≡ true = R.joined_inside j F.2.inside in
          let none : awaited j ≡ false = empty_at o.bound awaited M.tested.1 j
          (ltb-true j o.bound (both (nat_lt j o.bound) (o.nodes j) inside).0) in
          let count : _ ≡ one_if (awaits_node (doing_of (current o w a)) j) =
          W.kept.known.kept.sessions a j (M.inside, M.running) (inside, up) in
          let zero : one_if (awaits_node (doing_of (current o w a)) j) ≡ 0 =
          ap (λ (c : Current). one_if (awaits_node (doing_of c) j)) M.tested.0 ∙ ap one_if none in
          welcome_carried (w.links.queue a j)
          (subst (λ (x : ℕ). returns (w.links.queue x j) ≡ true ∷ []) same back)
          (omega (arith, count, zero))
        where
          node_of : Option Hold → ℕ
          node_of None = a
          node_of (Some h) = h.node

          only : (g : Gate) → is_entering g ≡ true → returns_of g ≡ true ∷ []
          only Entering e = refl
          only Away e = cc
          only (Knock p) e = cc
          only (Wait p) e = cc
          only Turned e = cc

      -- so the answer isn't owed
      not_owed : left w j ≡ false → (c : Current) → IsWritten o w j c
          → Contains (owed_by j (replies_to A.gate j) c) answer → ⊥
      not_owed up (Current.Joining i m) V c = no_welcome up m (entering_of j i k (A.gate j m) answer refl c)
      not_owed up (Current.Writing (Op.Name i call) them waits (Some r)) V c =
          elim (Contains-cases _ [] answer c) [
            | inl e ↦ absurd (other r (ap (λ (t : Answer). t.reply) e) V.3.1)
            | inr d ↦ Contains-nil answer d
          ]
        where
          other : (r : Reply) → r ≡ Joined → is_grant r ≡ true → ⊥
          other r x y = cc (sym (ap is_grant x) ∙ y)
      not_owed up (Current.Writing (Op.Name i call) them waits None) V c = Contains-nil answer c
      not_owed up (Current.Writing (Op.Strike p) them waits r) V c = Contains-nil answer c
      not_owed up (Current.Writing (Op.Join i m) them waits r) V c = Contains-nil answer c
      not_owed up (Current.Writing (Op.Admission i pairs) them waits r) V c = Contains-nil answer c
      not_owed up Current.Free V c = Contains-nil answer c
      not_owed up (Current.Asking p r) V c = Contains-nil answer c
      not_owed up (Current.Waiting p) V c = Contains-nil answer c

      -- it was given in an earlier step
      joiner_told : (s.registry.left j ≡ true) ⊎ Contains before answer
      joiner_told = go (left w j) refl
        where
          go : (b : Bool) → left w j ≡ b → (s.registry.left j ≡ true) ⊎ Contains before answer
          go true e = inl (R.departed j ∙ e)
          go false e = elim (Contains-append_cases (filter (is_word_at j) (before ++ ss)) _ answer
              (subst (λ (xs : List Answer). Contains xs answer) (A.answers j) entered_here)) [
                | inl c ↦ elim (Contains-append_cases before ss answer (Contains-filter (is_word_at j)
                    (before ++ ss) answer c)) [
                      | inl d ↦ inr d
                      | inr d ↦ absurd (apart (own answer d))
                    ]
                | inr c ↦ absurd (not_owed e (current o w j) (R.written j) c)
              ]

  -- what is entered by a rule
  rule_told : (w : World) (r : Rule) (ss : List Answer) (calls : ℕ → List Numbered) → Whole o w → Rules.May o a w r
      → Accounts o w calls (before ++ ss) → ((s : Answer) → Contains ss s → s.node ≡ a)
      → AllTold before (standing_at o w) (entered a (join_number w) r (w.node a))
  rule_told w (Rules.Finishes op asked awaited reply) ss calls W M A own = (
    λ hold j k e1 e2 e3. joiner_told w ss calls op asked awaited reply W M A own hold j k e1 e2 e3,
    tt,
  )
  rule_told w (Rules.LooksUp look) ss calls W M A own = (tt, tt)
  rule_told w (Rules.Exits p) ss calls W M A own = (tt, tt)
  rule_told w (Rules.SkipsJoin k m ops) ss calls W M A own = (tt, tt)
  rule_told w (Rules.Grants k call r) ss calls W M A own = (tt, tt)
  rule_told w (Rules.Denies k call r) ss calls W M A own = (tt, tt)
  rule_told w (Rules.Strikes p r) ss calls W M A own = (tt, tt)
  rule_told w (Rules.Admits j pairs r) ss calls W M A own = (tt, tt)
  rule_told w (Rules.RefusesJoin f pairs) ss calls W M A own = (tt, tt)
  rule_told w (Rules.IsTold f) ss calls W M A own = (tt, tt)
  rule_told w (Rules.LosesContact k m) ss calls W M A own = (tt, tt)
  rule_told w Rules.Leaves ss calls W M A own = (tt, tt)
  rule_told w r ss calls W M A own = tt

  -- and by a chain
  along_told : (rs : List Rule) (w : World) (ss : List Answer) (calls : ℕ → List Numbered) → Whole o w
      → Rules.MayAll o a rs w → Accounts o w calls (before ++ ss)
      → ((s : Answer) → Contains (ss ++ Rules.answers_by o a rs w) s → s.node ≡ a)
      → AllTold before (standing_at o w) (Rules.entries_by o a rs w)
  along_told [] w ss calls W M A own = tt
  along_told (r ∷ rs) w ss calls W M A own = all_told_append before (standing_at o w) (Rules.turn_by o a w r).entries
      (Rules.entries_by o a rs v)
      (subst (AllTold before (standing_at o w)) (sym (entries_made o a (join_number w) r (w.node a)))
      (rule_told w r ss calls W M.0 A
      (λ t c. own t (Contains-append_left ss (Rules.answers_by o a (r ∷ rs) w) t c))))
      (subst (λ (t : Standing). AllTold before t (Rules.entries_by o a rs v)) (effect-standing o a w r)
      (along_told rs v (ss ++ (Rules.turn_by o a w r).answers) (accepted_after a r w calls) V M.1
      (subst (Accounts o v (accepted_after a r w calls)) (append_assoc before ss (Rules.turn_by o a w r).answers)
      (accounts_keep o a w r calls (before ++ ss) W.kept.proper (replicas o w W.kept) (replicas o v V.kept)
      (owners o w W.kept) (W.kept.joins.once a) M.0 A))
      (λ t c. own t (subst (λ (xs : List Answer). Contains xs t)
      (append_assoc ss (Rules.turn_by o a w r).answers (Rules.answers_by o a rs v)) c))))
    where
      v : World
      v = Rules.effect o a r w

      V : Whole o v
      V = rule_whole o a w r W M.0

-- a list with one item more at its end, of which one item is chosen: the last one, or one of the list
split_push : (ps before later : List Played) (p q : Played) → ps ++ p ∷ [] ≡ before ++ q ∷ later
    → ((ps ≡ before) × (p ≡ q)) ⊎ ((rest : List Played) × (ps ≡ before ++ q ∷ rest))
split_push [] [] later p q e = inl (refl, cc)
split_push [] (x ∷ []) later p q e = cc
split_push [] (x ∷ y ∷ before) later p q e = cc
split_push (x ∷ ps) [] later p q e = let head : x ≡ q = cc in inr (ps, ap (λ (z : Played). z ∷ ps) head)
split_push (x ∷ ps) (y ∷ before) later p q e =
    let head : x ≡ y = cc in
    let tail : ps ++ p ∷ [] ≡ before ++ q ∷ later = cc in
    elim (split_push ps before later p q tail) [
      | inl h ↦ inl (ap (λ (z : Played). z ∷ ps) head ∙ ap (λ (zs : List Played). y ∷ zs) h.0, h.1)
      | inr h ↦ inr (h.0, ap (λ (z : Played). z ∷ ps) head ∙ ap (λ (zs : List Played). y ∷ zs) h.1)
    ]

-- what holds of each step, and of one more
pub each_step_push : (P : List Played → Played → Type 0) (ps : List Played) (p : Played) → EachStep ps P → P ps p
    → EachStep (ps ++ p ∷ []) P
each_step_push P ps p all last before q later e = elim (split_push ps before later p q e) [
  | inl h ↦ subst (λ (xs : List Played). P xs q) h.0 (subst (P ps) h.1 last)
  | inr h ↦ all before q h.0 h.1
]

module _ (o : Opening) where
  -- the joiner of each admission that a step ends
  abbrev IsAnswered : List Played → Played → Type 0
  IsAnswered before p = JoinerIsAnswered before (standing o before) p

  -- an accepted event
  event_answered : (w : World) (e : WorldEvent) (ps : List Played) → Whole o w → refusal o w e ≡ None
      → Theorem.Kept o w ps → IsAnswered ps (played o w e)
  event_answered w e ps W is X earlier later hold j k m entries =
      told_at (answers_of ps) (standing o ps) earlier later (Entry.Done m)
      (subst (AllTold (answers_of ps) (standing o ps)) (H.entries ∙ entries)
      (subst (λ (t : Standing). AllTold (answers_of ps) t (Rules.entries_by o (place e) (rules_of o w e H) w))
      (ap (standing_of (in_cluster o)) X.book.history)
      (along_told o (place e) (answers_of ps) (rules_of o w e H) w [] (λ b. accepted_at b ps) W H.may
      (subst (Accounts o w (λ b. accepted_at b ps)) (sym (append-nil (answers_of ps))) X.book.accounts) own))) hold j k
    where
      H : Rules.Walked o w e
      H = event_walks o w e W is

      behind : Theorem.Kept o (accepted o w e) (ps ++ played o w e ∷ [])
      behind = Theorem.kept_on o (Whole o) (ground o) (whole_opens o) [] w e ps W is X

      own : (s : Answer) → Contains (Rules.answers_by o (place e) (rules_of o w e H) w) s → s.node ≡ place e
      own s c = own_place o w e ps (replicas o w W.kept) X.book behind.book X.spares X.apart.rested is H s
          (subst (λ (xs : List Answer). Contains xs s) (H.answers ∙ sym (answers_given o w e is)) c)

  -- what is kept of them
  record Heard (w : World) (ps : List Played) : Type 0 where
    kept : Theorem.Kept o w ps
    answered : EachStep ps IsAnswered

  -- at first there is no step
  nothing_yet : EachStep [] IsAnswered
  nothing_yet [] p later e = cc
  nothing_yet (q ∷ before) p later e = cc

  -- where a step ends an admission, its joiner was answered `joined` before, or has left
  pub joiner : (es : List WorldEvent) → EachStep (events o es) (λ before p. JoinerIsAnswered before
      (standing o before) p)
  joiner es = heard.answered
    where
      heard : Heard (world o es) (events o es)
      heard = Chains.course_keeps o (Whole o) (ground o) Heard
          (λ w e ps W is T. record {
            kept = Theorem.kept_on o (Whole o) (ground o) (whole_opens o) [] w e ps W is T.kept;
            answered = each_step_push IsAnswered ps (played o w e) T.answered (event_answered w e ps W is T.kept);
          })
          es (opening_world o) [] (whole_opens o)
          (record { kept = Theorem.kept_run o (Whole o) (ground o) (whole_opens o) []; answered = nothing_yet })
