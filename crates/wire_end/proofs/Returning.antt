-- Programs whose nodes come back have one run: the notices of each start, and then the steps of its program, are steps of a node that was there
-- from the beginning, and read nothing before.
use Rattle.std.proofs.Common.{ℕ, suc, Bool, true, false, ◌≡◌, ◌==◌, ◌+◌, ◌-◌, inl, inr, Some, List, [], ◌∷◌, ◌++◌, drop, map, refl, sym, ap, subst, ◌∙◌, append-nil, arith, All}
use Rattle.std.specs.Prelude.{Contains, if◌then◌else◌, filter, length}
use Rattle.std.proofs.Math.Path.{fun_ext}
use Rattle.std.proofs.lemmas.Bool.{cases_eq, eq-eqb, eqb-true, ne_eqb, or_cases, true≢false}
use Rattle.std.proofs.lemmas.List.{map-append}
use Rattle.std.proofs.lemmas.List.Elements.{All-nil, All-cons, All-head, All-tail, All-append, All-weaker}
use Rattle.std.proofs.lemmas.Grind.{flat_map-append}
use Rattle.registry_model.specs.Process.{Nodes, nobody, with_node}
use Rattle.registry_model.specs.Table.{without}
use Rattle.registry_model.proofs.Lists.{Contains-front, Contains-behind}
use Rattle.protocol_model.specs.Node.{Node, opening_node}
use Rattle.protocol_model.specs.Turn.{Turn}
use Rattle.protocol_model.specs.World.{Opening, World, WorldEvent, in_world, in_cluster, other, happens, opening_world, run}
use Rattle.closings.proofs.Plainly.{plays_longer}
use Rattle.closings.proofs.Playing.{consistent_ends_have_a_run}
use Rattle.closings.specs.Laws.{HasARun}
use Rattle.closings.specs.Merging.{Step, TakesAll, events_in, happening, steps_of}
use Rattle.creations.specs.NodeNames.{NamedOpening, opening_of}
use Rattle.creations.specs.Restarts.{fresh_node}
use Rattle.creations.specs.SomeStarted.{is_of_started, of_started, MayStart}
use Rattle.creations.proofs.SomeStarted.{agreement, client_locks, nothing_is_left}
use Rattle.creations.proofs.Standing.{opening_fresh}
use Rattle.creations.proofs.Telling.{AreDistinct, receive_down, told_all, told_of, told_only}
use Rattle.letter_lines.specs.Gathered.{Gathered, nothing}
use Rattle.lock_answers.specs.Worlds.{Agrees}
use Rattle.lock_answers.specs.ClientLocks.{ClientLocks}
use Rattle.lock_answers.specs.Leftovers.{NothingIsLeft}
use Rattle.term.specs.NodeSets.{set_of, with_older}
use Rattle.node_loop.specs.Seen.{seen_entry}
use Rattle.node_loop.specs.Alone.{LogEntry, Stamped as StampedLetter, Made, Reads, Does, Plays, StartsAbove, AreConsistent, letters_to, sent, unread_after, node_behind}
use Rattle.node_loop.specs.Guarded.{Begins}
use Rattle.node_loop.specs.Dealings.{took, put}
use Rattle.node_loop.specs.declared.item.Stamped.{Stamped}
use Rattle.wire_end.specs.declared.wire_end.Wiring.{Wiring}
use Rattle.wire_end.specs.Dealings.{of_node, dealt_of}
use Rattle.wire_end.specs.Order.{seen, spelled_by}
use Rattle.wire_end.specs.Returning.{Program, ArePrograms, NamedEndsHaveARun, IsGone, started_node, count_left, all_left, notices_from, notices_of, log_of, table_of}
use Rattle.wire_end.proofs.Listing.{left_listed, left_distinct, left_counted}
use Rattle.wire_end.proofs.Ordering.{each}
use Rattle.wire_end.proofs.Running.{as_seen, stamps_seen, before_last, begins_then, own_begins, all_spelled}
use Rattle.wire_end.proofs.Spelling.{link_spelled, begins_spelled}

-- the notices of a start, as steps: each with the node behind it, which has nothing still, and was told of one more
abbrev notices_made : ℕ → ℕ → Nodes → List ℕ → List Made
notices_made n stamp T [] = []
notices_made n stamp T (d ∷ ds) = record {
  entry = record { stamp = stamp + 1; event = WorldEvent.Deliver d n; answers = [] };
  after = fresh_node (with_node d T) n;
  sends = [];
} ∷ notices_made n (stamp + 1) (with_node d T) ds

notices_entries : (n stamp : ℕ) (T : Nodes) (ds : List ℕ) → map (λ (m : Made). m.entry) (notices_made n stamp T ds) ≡ notices_from n stamp ds
notices_entries n stamp T [] = refl
notices_entries n stamp T (d ∷ ds) =
    ap (λ (es : List LogEntry). record { stamp = stamp + 1; event = WorldEvent.Deliver d n; answers = [] } ∷ es)
    (notices_entries n (stamp + 1) (with_node d T) ds)

notices_send : (n stamp t : ℕ) (T : Nodes) (ds : List ℕ) → sent t (notices_made n stamp T ds) ≡ []
notices_send n stamp t T [] = refl
notices_send n stamp t T (d ∷ ds) = notices_send n (stamp + 1) t (with_node d T) ds

notices_behind : (n stamp : ℕ) (T : Nodes) (ds : List ℕ) (v : Node) (more : List Made)
    → node_behind v (notices_made n stamp T ds ++ more) ≡ node_behind (node_behind v (notices_made n stamp T ds)) more
notices_behind n stamp T [] v more = refl
notices_behind n stamp T (d ∷ ds) v more = notices_behind n (stamp + 1) (with_node d T) ds (fresh_node (with_node d T) n) more

notices_node : (n stamp : ℕ) (T : Nodes) (ds : List ℕ)
    → node_behind (fresh_node T n) (notices_made n stamp T ds) ≡ fresh_node (told_all T ds) n
notices_node n stamp T [] = refl
notices_node n stamp T (d ∷ ds) = notices_node n (stamp + 1) (with_node d T) ds

-- the notice of each of these waits, and nothing else of theirs
abbrev AreWaiting : ℕ → (ℕ → List StampedLetter) → List ℕ → Type 0
AreWaiting stamp letters ds = (d : ℕ) → Contains ds d → IsGone (letters d) stamp

-- what is left to be read behind them
abbrev left_over : List ℕ → (ℕ → List StampedLetter) → ℕ → List StampedLetter
left_over ds letters f = if set_of ds f then [] else letters f

-- who is listed is of the set
in_set : (ds : List ℕ) (c : ℕ) → set_of ds c ≡ true → Contains ds c
in_set [] c e = cc e
in_set (d ∷ ds) c e = elim (or_cases (d == c) (set_of ds c) e) [
  | inl same ↦ subst (λ (x : ℕ). Contains (d ∷ ds) x) (eqb-true d c same) (Contains-front d ds)
  | inr more ↦ Contains-behind d ds c (in_set ds c more)
]

not_in_set : (ds : List ℕ) (c : ℕ) → (Contains ds c → ⊥) → set_of ds c ≡ false
not_in_set ds c out = go (set_of ds c) refl
  where
    go : (b : Bool) → set_of ds c ≡ b → b ≡ false
    go true e = absurd (out (in_set ds c e))
    go false e = refl

-- a node that has nothing reads them, and then does what it does with what is left to read
module _ (o : Opening) (n : ℕ) (inside : in_world o n ≡ true) where
  -- one of them
  one_read : (stamp : ℕ) (T : Nodes) (d : ℕ) (letters : ℕ → List StampedLetter) → (d ≡ n → ⊥) → IsGone (letters d) stamp
      → Does o letters (fresh_node T n) (record {
        entry = record { stamp = stamp + 1; event = WorldEvent.Deliver d n; answers = [] };
        after = fresh_node (with_node d T) n;
        sends = [];
      }) (WorldEvent.Deliver d n)
  one_read stamp T d letters other gone =
      subst (λ (ls : List StampedLetter). Reads o n d ls (fresh_node T n) (record {
        entry = record { stamp = stamp + 1; event = WorldEvent.Deliver d n; answers = [] };
        after = fresh_node (with_node d T) n;
        sends = [];
      })) (sym gone.only) (
        omega (arith, gone.before),
        λ number. let turn = receive_down o.bound n d number T other in record {
          node = ap (λ (u : Turn). u.node) turn;
          sends = ap (λ (u : Turn). u.sends) turn;
          answers = ap (λ (u : Turn). u.answers) turn;
        },
      )

  -- behind it that one is read, and the others wait still
  read_one : (d : ℕ) (ds : List ℕ) (stamp : ℕ) (letters : ℕ → List StampedLetter) → (Contains ds d → ⊥) → IsGone (letters d) stamp
      → left_over ds (unread_after (WorldEvent.Deliver d n) letters) ≡ left_over (d ∷ ds) letters
  read_one d ds stamp letters apart gone = fun_ext (λ f. elim (cases_eq f d) [
    | inl same ↦ subst (λ (x : ℕ). left_over ds (unread_after (WorldEvent.Deliver d n) letters) x ≡ left_over (d ∷ ds) letters x) (sym same)
        (rw (not_in_set ds d apart, eq-eqb d d refl) (ap (λ (ls : List StampedLetter). drop 1 ls) gone.only))
    | inr other ↦ rw (ne_eqb f d other, ne_eqb d f (λ e. other (sym e))) refl
  ])

  reads_notices : (stamp : ℕ) (T : Nodes) (ds : List ℕ) (letters : ℕ → List StampedLetter) (more : List Made) → AreDistinct ds
      → ((d : ℕ) → Contains ds d → (in_world o d ≡ true) × (d ≡ n → ⊥)) → AreWaiting stamp letters ds → StartsAbove (stamp + length ds) more
      → Plays Does o n (left_over ds letters) (fresh_node (told_all T ds) n) more
      → Plays Does o n letters (fresh_node T n) (notices_made n stamp T ds ++ more)
  reads_notices stamp T [] letters more distinct others waiting above plays = plays
  reads_notices stamp T (d ∷ ds) letters more distinct others waiting above plays = (
    record {
      own = refl;
      here = inside;
      known = (others d (Contains-front d ds)).0;
      does = one_read stamp T d letters (others d (Contains-front d ds)).1 (waiting d (Contains-front d ds));
      rises = rises ds above;
      last = λ e. cc e;
    },
    reads_notices (stamp + 1) (with_node d T) ds (unread_after (WorldEvent.Deliver d n) letters) more distinct.1
        (λ x i. others x (Contains-behind d ds x i)) still
        (subst (λ (k : ℕ). StartsAbove k more) (same_sum stamp (length ds)) above)
        (subst (λ (ls : ℕ → List StampedLetter). Plays Does o n ls (fresh_node (told_all (with_node d T) ds) n) more)
        (sym (read_one d ds stamp letters distinct.0 (waiting d (Contains-front d ds)))) plays),
  )
    where
      same_sum : (k m : ℕ) → k + suc m ≡ (k + 1) + m
      same_sum k m = omega arith

      rises : (xs : List ℕ) → StartsAbove (stamp + suc (length xs)) more
          → StartsAbove (stamp + 1) (notices_made n (stamp + 1) (with_node d T) xs ++ more)
      rises [] h = h
      rises (x ∷ xs) h = omega arith

      still : AreWaiting (stamp + 1) (unread_after (WorldEvent.Deliver d n) letters) ds
      still x i =
          let gone = waiting x (Contains-behind d ds x i) in record {
            by = gone.by;
            only = rw (ne_eqb x d (λ same. distinct.0 (subst (λ (y : ℕ). Contains ds y) same i))) gone.only;
            before = omega (arith, gone.before);
          }

module _ (o : NamedOpening) (ran : Nodes) (programs : ℕ → Program) (A : ArePrograms o ran programs) where
  abbrev O : Opening
  O = opening_of o

  abbrev E : ℕ → Wiring
  E n = (programs n).end

  -- who had left when a node began, and the stamp behind which the notices of that come
  abbrev gone_before : ℕ → List ℕ
  gone_before n = all_left o (programs n).left

  abbrev first_stamp : ℕ → ℕ
  first_stamp n = (programs n).stamp - count_left (programs n).left

  -- the steps of a node: the notices of its start, and then those of its program
  abbrev at : (n : ℕ) (b : Bool) → ran n ≡ b → List Made
  at n true r = notices_made n (first_stamp n) nobody (gone_before n) ++ (A.tell n r).course
  at n false r = []

  abbrev course : ℕ → List Made
  course n = at n (ran n) refl

  -- what a node took of another that ran begins what that sent it
  other_begins : (f t : ℕ) → ran f ≡ true → ran t ≡ true → (f ≡ t → ⊥)
      → Begins (map seen (of_node f (E t).taken)) (map seen (of_node t (E f).sent))
  other_begins f t here there ne =
      let began = A.read f t here there ne in
      let spells = all_spelled (programs t).printed (E t) (A.order t there) f (λ same. ne (same ∙ A.nodes t there)) in
      let apart : (t ≡ (E f).node → ⊥) = λ same. ne (sym (same ∙ A.nodes f here)) in
      let whole = link_spelled (E f).node t [] (E f).sent [] apart ((A.order f here).letters t apart) in
      begins_then (map seen (of_node f (E t).taken)) spells.letters (map seen (of_node t (E f).sent))
      (before_last (map seen (of_node f (E t).taken)) (map seen (of_node f (E t).heard)) spells.letters spells.last spells.word
      (stamps_seen (of_node f (E t).taken) (A.stamped f t there ne))
      (sym (map-append seen (of_node f (E t).taken) (of_node f (E t).heard)) ∙ spells.came_is))
      (begins_spelled (of_node f (E t).read) began.0 spells.items _ spells.letters (map seen (of_node t (E f).sent)) spells.spelled
      (ap spelled_by (sym began.1) ∙ whole))

  took_begins : (f t : ℕ) → ran f ≡ true → ran t ≡ true → Begins (took (dealt_of (E t)) f) (put (dealt_of (E f)) t)
  took_begins f t here there =
      let began = each t (λ x. ran x ≡ true → Begins (map seen (of_node x (E t).taken)) (map seen (of_node t (E x).sent)))
      (λ r. subst (λ (m : ℕ). Begins (map seen (of_node m (E t).taken)) (map seen (of_node m (E t).sent))) (A.nodes t there)
      (own_begins (E t) (A.own t there)))
      (λ x ne r. other_begins x t r there ne) f here in (
        began.0,
        as_seen (of_node t (E f).sent)
            ∙ (began.1 ∙ ap (λ (ls : List StampedLetter). ls ++ began.0) (sym (as_seen (of_node f (E t).taken)))),
      )

  -- and so what its steps send: the notices send nothing
  sent_at : (f t : ℕ) (e : ran f ≡ true) → sent t (at f true e) ≡ sent t (A.tell f e).course
  sent_at f t e = flat_map-append (letters_to t) (notices_made f (first_stamp f) nobody (gone_before f)) (A.tell f e).course
      ∙ ap (λ (ls : List StampedLetter). ls ++ sent t (A.tell f e).course) (notices_send f (first_stamp f) t nobody (gone_before f))

  begins_sent : (f t : ℕ) (b : Bool) (e : ran f ≡ b) → b ≡ true → ran t ≡ true → Begins (took (dealt_of (E t)) f) (sent t (at f b e))
  begins_sent f t true e is there =
      subst (λ (ls : List StampedLetter). Begins (took (dealt_of (E t)) f) ls) (sym (sent_at f t e))
      (begins_then (took (dealt_of (E t)) f) (put (dealt_of (E f)) t) (sent t (A.tell f e).course) (took_begins f t e there)
      ((A.tell f e).vouches.puts t (A.inside t there)))
  begins_sent f t false e is there = cc is

  -- of one that didn't run it took nothing
  none_taken : (f t : ℕ) → ran f ≡ false → ran t ≡ true → took (dealt_of (E t)) f ≡ []
  none_taken f t strange there =
      let other : (f ≡ t → ⊥) = λ same. true≢false (sym there ∙ (ap ran (sym same) ∙ strange)) in
      let spells = all_spelled (programs t).printed (E t) (A.order t there) f (λ same. other (same ∙ A.nodes t there)) in
      let none : spells.letters ≡ [] = no_letters spells.letters spells.items (ap spelled_by (sym (A.strange f t strange there)) ∙ spells.spelled) in
      as_seen (of_node f (E t).taken)
      ∙ nothing_begins (map seen (of_node f (E t).taken))
      (subst (λ (ls : List StampedLetter). Begins (map seen (of_node f (E t).taken)) ls) none
      (before_last (map seen (of_node f (E t).taken)) (map seen (of_node f (E t).heard)) spells.letters spells.last spells.word
      (stamps_seen (of_node f (E t).taken) (A.stamped f t there other))
      (sym (map-append seen (of_node f (E t).taken) (of_node f (E t).heard)) ∙ spells.came_is)))
    where
      no_letters : (ls : List StampedLetter) (g : Gathered) → spelled_by [] ≡ Some (g, ls) → ls ≡ []
      no_letters ls g e =
          let pair : (nothing, []) ≡ (g, ls) = cc e in
          sym (ap (λ (p : Gathered × List StampedLetter). p.1) pair)

      nothing_begins : (some : List StampedLetter) → Begins some [] → some ≡ []
      nothing_begins [] b = refl
      nothing_begins (l ∷ some) b = cc (b.1)

  -- so what it took of each begins what that sends it
  all_begin : (f t : ℕ) → ran t ≡ true → Begins (took (dealt_of (E t)) f) (sent t (course f))
  all_begin f t there = go (ran f) refl
    where
      go : (b : Bool) (e : ran f ≡ b) → Begins (took (dealt_of (E t)) f) (sent t (at f b e))
      go true e = begins_sent f t true e refl there
      go false e = ([], sym (append-nil (took (dealt_of (E t)) f) ∙ none_taken f t e there))

  -- where what it took of each begins these letters, a program plays its steps with them
  plays_with : (n : ℕ) (e : ran n ≡ true) (letters : ℕ → List StampedLetter) → ((f : ℕ) → Begins (took (dealt_of (E n)) f) (letters f))
      → Plays Does O n letters (started_node O n (programs n).left) (A.tell n e).course
  plays_with n e letters begins =
      subst (λ (ls : ℕ → List StampedLetter). Plays Does O n ls (started_node O n (programs n).left) (A.tell n e).course)
      (fun_ext (λ f. sym (begins f).1))
      (plays_longer O (λ f. (begins f).0) n (took (dealt_of (E n))) (started_node O n (programs n).left) (A.tell n e).course
      (subst (λ (m : ℕ). Plays Does O m (took (dealt_of (E n))) (started_node O n (programs n).left) (A.tell n e).course) (A.logs n e)
      (A.tell n e).vouches.plays))

  -- who had left before it ran, and is another node of the world
  others_before : (n : ℕ) → ran n ≡ true → (d : ℕ) → Contains (gone_before n) d → (in_world O d ≡ true) × (d ≡ n → ⊥)
  others_before n e d i =
      let older = (left_listed o A.numbers (programs n).left (A.lefts n e) d).0 i in (
        A.inside d (A.gone_ran d n e older),
        λ same. true≢false (sym older ∙ (ap (with_older (programs n).left) same ∙ A.apart n e)),
      )

  -- the notice of each waits
  waits_before : (n : ℕ) → ran n ≡ true → AreWaiting (first_stamp n) (λ f. sent n (course f)) (gone_before n)
  waits_before n e d i = go (ran d) refl (A.gone_ran d n e older)
    where
      older : with_older (programs n).left d ≡ true
      older = (left_listed o A.numbers (programs n).left (A.lefts n e) d).0 i

      go : (b : Bool) (r : ran d ≡ b) → ran d ≡ true → IsGone (sent n (at d b r)) (first_stamp n)
      go true r is = subst (λ (ls : List StampedLetter). IsGone ls (first_stamp n)) (sym (sent_at d n r)) (A.gone d n r e older)
      go false r is = absurd (true≢false (sym is ∙ r))

  -- behind the notices it was told of all that had left
  told_then : (n : ℕ) → ran n ≡ true → told_all nobody (gone_before n) ≡ with_older (programs n).left
  told_then n e = fun_ext (λ c. same_bool (told_all nobody (gone_before n) c) (with_older (programs n).left c)
      (λ t. elim (told_only nobody (gone_before n) c t) [
        | inl never ↦ absurd (true≢false (sym never))
        | inr listed ↦ (left_listed o A.numbers (programs n).left (A.lefts n e) c).0 listed
      ])
      (λ t. told_of nobody (gone_before n) c ((left_listed o A.numbers (programs n).left (A.lefts n e) c).1 t)))
    where
      same_bool : (x y : Bool) → (x ≡ true → y ≡ true) → (y ≡ true → x ≡ true) → x ≡ y
      same_bool true y f g = sym (f refl)
      same_bool false true f g = g refl
      same_bool false false f g = refl

  -- what it took begins what is left over then
  left_begins : (n : ℕ) → ran n ≡ true → (f : ℕ) → Begins (took (dealt_of (E n)) f) (left_over (gone_before n) (λ x. sent n (course x)) f)
  left_begins n e f = go (set_of (gone_before n) f) refl
    where
      none : set_of (gone_before n) f ≡ true → took (dealt_of (E n)) f ≡ []
      none h =
          let older = (left_listed o A.numbers (programs n).left (A.lefts n e) f).0 (in_set (gone_before n) f h) in
          as_seen (of_node f (E n).taken) ∙ ap (λ (ls : List Stamped). map seen ls) (A.once f n e older)

      go : (b : Bool) → set_of (gone_before n) f ≡ b → Begins (took (dealt_of (E n)) f) (if b then [] else sent n (course f))
      go true h = ([], sym (append-nil (took (dealt_of (E n)) f) ∙ none h))
      go false h = all_begin f n e

  -- a node plays the notices, which are all that those sent it, and then the steps of its program
  plays_at : (n : ℕ) (e : ran n ≡ true) → Plays Does O n (λ f. sent n (course f)) (opening_node (in_cluster O) n) (at n true e)
  plays_at n e = go (programs n).left refl
    where
      lone : (d : ℕ) (ds : List ℕ) → (programs n).left ≡ d ∷ ds → in_cluster O n ≡ false
      lone d ds is = by_bool (in_cluster O n) refl
        where
          by_bool : (b : Bool) → in_cluster O n ≡ b → b ≡ false
          by_bool true h = cc ((A.founder n h).1, is)
          by_bool false h = refl

      go : (left : List ℕ) → (programs n).left ≡ left
          → Plays Does O n (λ f. sent n (course f)) (opening_node (in_cluster O) n) (at n true e)
      go [] is =
          subst (λ (ds : List ℕ). Plays Does O n (λ f. sent n (course f)) (opening_node (in_cluster O) n)
          (notices_made n (first_stamp n) nobody (all_left o ds) ++ (A.tell n e).course)) (sym is)
          (subst (λ (ds : List ℕ). Plays Does O n (λ f. sent n (course f)) (started_node O n ds) (A.tell n e).course) is
          (plays_with n e (λ f. sent n (course f)) (λ f. all_begin f n e)))
      go (d ∷ ds) is =
          subst (λ (v : Node). Plays Does O n (λ f. sent n (course f)) v (at n true e)) (sym (opening_fresh (in_cluster O) n (lone d ds is)))
          (reads_notices O n (A.inside n e) (first_stamp n) nobody (gone_before n) (λ f. sent n (course f)) (A.tell n e).course
          (left_distinct o A.numbers (programs n).left (A.lefts n e)) (others_before n e) (waits_before n e)
          (subst (λ (k : ℕ). StartsAbove k (A.tell n e).course) (sym stamps) (A.tell n e).vouches.starts)
          (subst (λ (v : Node). Plays Does O n (left_over (gone_before n) (λ f. sent n (course f))) v (A.tell n e).course) fresh_then
          (plays_with n e (left_over (gone_before n) (λ f. sent n (course f))) (left_begins n e))))
        where
          fresh_then : started_node O n (programs n).left ≡ fresh_node (told_all nobody (gone_before n)) n
          fresh_then = ap (started_node O n) is
              ∙ (ap (λ (T : Nodes). fresh_node T n) (ap (λ (xs : List ℕ). with_older xs) (sym is) ∙ sym (told_then n e)))

          stamps : first_stamp n + length (gone_before n) ≡ (programs n).stamp
          stamps = omega (arith, A.room n e, left_counted o A.numbers (programs n).left (A.lefts n e))

  consistent : AreConsistent O course
  consistent n = go (ran n) refl
    where
      go : (b : Bool) (e : ran n ≡ b) → Plays Does O n (λ f. sent n (course f)) (opening_node (in_cluster O) n) (at n b e)
      go true e = plays_at n e
      go false e = tt

  logged : (n : ℕ) → map (λ (m : Made). m.entry) (course n) ≡ log_of o n (ran n) (programs n)
  logged n = go (ran n) refl
    where
      go : (b : Bool) (e : ran n ≡ b) → map (λ (m : Made). m.entry) (at n b e) ≡ log_of o n b (programs n)
      go true e = map-append (λ (m : Made). m.entry) (notices_made n (first_stamp n) nobody (gone_before n)) (A.tell n e).course
          ∙ (λ j. notices_entries n (first_stamp n) nobody (gone_before n) j ++ (A.tell n e).logged j)
      go false e = refl

  -- behind the notices a node stands as it started
  started_then : (n : ℕ) → ran n ≡ true
      → node_behind (opening_node (in_cluster O) n) (notices_made n (first_stamp n) nobody (gone_before n)) ≡ started_node O n (programs n).left
  started_then n e = go (programs n).left refl
    where
      go : (left : List ℕ) → (programs n).left ≡ left
          → node_behind (opening_node (in_cluster O) n) (notices_made n (first_stamp n) nobody (gone_before n)) ≡ started_node O n (programs n).left
      go [] is = ap (λ (ds : List ℕ). node_behind (opening_node (in_cluster O) n) (notices_made n (first_stamp n) nobody (all_left o ds))) is
          ∙ ap (started_node O n) (sym is)
      go (d ∷ ds) is = ap (λ (v : Node). node_behind v (notices_made n (first_stamp n) nobody (gone_before n)))
          (opening_fresh (in_cluster O) n (lone is))
          ∙ (notices_node n (first_stamp n) nobody (gone_before n)
          ∙ (ap (λ (T : Nodes). fresh_node T n) (told_then n e ∙ ap (λ (xs : List ℕ). with_older xs) is) ∙ ap (started_node O n) (sym is)))
        where
          lone : (programs n).left ≡ d ∷ ds → in_cluster O n ≡ false
          lone is = by_bool (in_cluster O n) refl
            where
              by_bool : (b : Bool) → in_cluster O n ≡ b → b ≡ false
              by_bool true h = cc ((A.founder n h).1, is)
              by_bool false h = refl

  last : (n : ℕ) → (node_behind (opening_node (in_cluster O) n) (course n)).replica.table ≡ table_of (ran n) (programs n)
  last n = go (ran n) refl
    where
      none_yet : (b : Bool) → without nobody (if b then [] else []) ≡ []
      none_yet true = refl
      none_yet false = refl

      go : (b : Bool) (e : ran n ≡ b) → (node_behind (opening_node (in_cluster O) n) (at n b e)).replica.table ≡ table_of b (programs n)
      go true e =
          ap (λ (v : Node). v.replica.table)
          (notices_behind n (first_stamp n) nobody (gone_before n) (opening_node (in_cluster O) n) (A.tell n e).course
          ∙ ap (λ (v : Node). node_behind v (A.tell n e).course) (started_then n e))
          ∙ (A.tell n e).last
      go false e = none_yet (in_cluster O n)

  -- each entry of a log is one of a node that ran, and names no other
  abbrev IsOfStarted : ℕ → LogEntry → Type 0
  IsOfStarted n e = (ran n ≡ true) × (ran (other e.event) ≡ true)

  notices_started : (n stamp : ℕ) → ran n ≡ true → (ds : List ℕ) → ((d : ℕ) → Contains ds d → ran d ≡ true)
      → All (IsOfStarted n) (notices_from n stamp ds)
  notices_started n stamp r [] are = All-nil (IsOfStarted n)
  notices_started n stamp r (d ∷ ds) are =
      All-cons (IsOfStarted n) (record { stamp = stamp + 1; event = WorldEvent.Deliver d n; answers = [] }) (notices_from n (stamp + 1) ds)
      (r, are d (Contains-front d ds)) (notices_started n (stamp + 1) r ds (λ x i. are x (Contains-behind d ds x i)))

  logs_started : (n : ℕ) (b : Bool) → ran n ≡ b → All (IsOfStarted n) (log_of o n b (programs n))
  logs_started n true r = All-append (IsOfStarted n) (notices_of o n (programs n)) (map seen_entry (programs n).log.entries)
      (notices_started n (first_stamp n) r (gone_before n)
      (λ d i. A.gone_ran d n r ((left_listed o A.numbers (programs n).left (A.lefts n r) d).0 i)))
      (All-weaker (λ (e : LogEntry). ran (other e.event) ≡ true) (IsOfStarted n) (λ e h. (r, h)) (map seen_entry (programs n).log.entries)
      (A.contacts n r))
  logs_started n false r = All-nil (IsOfStarted n)

  -- so is each step of steps that make up these logs
  each_step : (ss : List Step) → ((n : ℕ) → All (IsOfStarted n) (steps_of n ss)) → All (λ (s : Step). IsOfStarted s.node s.entry) ss
  each_step [] h = All-nil (λ (s : Step). IsOfStarted s.node s.entry)
  each_step (s ∷ ss) h =
      All-cons (λ (x : Step). IsOfStarted x.node x.entry) s ss (first (s.node == s.node) (eq-eqb s.node s.node refl) (h s.node))
      (each_step ss (λ n. rest n (s.node == n) (h n)))
    where
      first : (b : Bool) → b ≡ true → All (IsOfStarted s.node)
          (map (λ (x : Step). x.entry) (if b then s ∷ filter (λ x. x.node == s.node) ss else filter (λ x. x.node == s.node) ss))
          → IsOfStarted s.node s.entry
      first true e all = All-head (IsOfStarted s.node) s.entry (steps_of s.node ss) all
      first false e all = cc e

      rest : (n : ℕ) (b : Bool) → All (IsOfStarted n)
          (map (λ (x : Step). x.entry) (if b then s ∷ filter (λ x. x.node == n) ss else filter (λ x. x.node == n) ss))
          → All (IsOfStarted n) (steps_of n ss)
      rest n true all = All-tail (IsOfStarted n) s.entry (steps_of n ss) all
      rest n false all = all

  -- and its event is one of its own node
  all_kept : (ss : List Step) (w : World) → TakesAll O w ss → All (λ (s : Step). IsOfStarted s.node s.entry) ss
      → filter (is_of_started O ran) (events_in ss) ≡ events_in ss
  all_kept [] w takes are = refl
  all_kept (s ∷ ss) w takes are =
      let one = All-head (λ (x : Step). IsOfStarted x.node x.entry) s ss are in
      rw (ap ran takes.0.own ∙ one.0, one.1)
      (ap (λ (es : List WorldEvent). happening s ∷ es)
      (all_kept ss (happens O w (happening s)) takes.1 (All-tail (λ (x : Step). IsOfStarted x.node x.entry) s ss are)))

  all_started : (ss : List Step) → TakesAll O (opening_world O) ss → ((n : ℕ) → steps_of n ss ≡ log_of o n (ran n) (programs n))
      → filter (is_of_started O ran) (events_in ss) ≡ events_in ss
  all_started ss takes whole = all_kept ss (opening_world O) takes
      (each_step ss (λ n. subst (All (IsOfStarted n)) (sym (whole n)) (logs_started n (ran n) refl)))

pub named_ends_have_a_run : NamedEndsHaveARun
named_ends_have_a_run o ran programs A = record {
  run = merged;
  agrees = subst (λ (es : List WorldEvent). Agrees (of_started (opening_of o) ran) (events_in merged.steps) (world_of es)) all
      (agreement (opening_of o) ran (events_in merged.steps) may_start);
  locks = subst (λ (es : List WorldEvent). ClientLocks (of_started (opening_of o) ran) (events_in merged.steps) (world_of es)) all
      (client_locks (opening_of o) ran (events_in merged.steps) may_start);
  nothing_is_left = subst (λ (es : List WorldEvent). NothingIsLeft (of_started (opening_of o) ran) (events_in merged.steps) (world_of es)) all
      (nothing_is_left (opening_of o) ran (events_in merged.steps) may_start);
}
  where
    merged : HasARun (opening_of o) (λ n. log_of o n (ran n) (programs n)) (λ n. table_of (ran n) (programs n))
    merged = consistent_ends_have_a_run (opening_of o) (λ n. log_of o n (ran n) (programs n)) (λ n. table_of (ran n) (programs n)) (record {
      course = course o ran programs A;
      logged = logged o ran programs A;
      alone = consistent o ran programs A;
      last = last o ran programs A;
    })

    all : filter (is_of_started (opening_of o) ran) (events_in merged.steps) ≡ events_in merged.steps
    all = all_started o ran programs A merged.steps merged.plays.takes merged.merged.whole

    may_start : MayStart (opening_of o) ran
    may_start = record { joined = λ n i. (A.founder n i).0; least = λ i. cc (A.nameless, i) }

    world_of : List WorldEvent → World
    world_of es = run (opening_of o) (opening_world (opening_of o)) es
