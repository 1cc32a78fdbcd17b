-- A node stays sound over its end of lines, whatever it reads, does and prints.
use Rattle.std.proofs.Common.{ℕ, Bool, true, false, zero, suc, ◌≡◌, ◌<◌, ◌==◌, Ok, Err, Option, Some, None, List, [], ◌∷◌, ◌++◌, map, set, length, cond, refl, sym, ap, subst, ◌∙◌, arith, eq-eqb}
use Rattle.std.specs.Prelude.{◌&&◌, not, filter}
use Rattle.std.specs.List.{list_all}
use Rattle.std.specs.List.Sorted.{IsStrictlyIncreasing}
use Rattle.std.proofs.lemmas.Bool.{and_from, and_parts, or_left, or_right, false≢true}
use Rattle.std.proofs.lemmas.List.Elements.{All-head, All-tail}
use Rattle.std.proofs.lemmas.List.Folds.{list_all-append}
use Rattle.term.specs.NodeSets.{set_of}
use Rattle.protocol_model.specs.World.{Opening, in_world}
use Rattle.wire_end.specs.declared.Letter.{Letter as ALetter}
use Rattle.node_loop.specs.declared.fault.TurnFault.TheVariants.{StampsSpent}
use Rattle.node_loop.specs.declared.item.Stamped.{Stamped}
use Rattle.node_loop.specs.Coming.{begun}
use Rattle.node_loop.specs.declared.edit.Note.TheVariants.{Nothing}
use Rattle.node_loop.specs.Alone.{node_behind}
use Rattle.node_loop.specs.Guarded.{Vouches}
use Rattle.node_loop.specs.Dealings.{Dealt, took, put}
use Rattle.node_loop.specs.Held.{Looping, Written}
use Rattle.node_loop.specs.NodeCoreState.{CoreState}
use Rattle.node_loop.specs.NodeCoreSeen.{node_of}
use Rattle.node_loop.specs.Said.{IsSaid}
use Rattle.node_loop.specs.Sound.{IsNodeOf, opened, EndsSound}
use Rattle.node_loop.specs.Seen.{seen_entry}
use Rattle.node_loop.proofs.Beginning.{begins_sound}
use Rattle.node_loop.proofs.Keeping.{keeps}
use Rattle.node_loop.proofs.Standing.{besides}
use Rattle.wire_end.specs.declared.line.LinkLine.{LinkLine}
use Rattle.wire_end.specs.declared.wire.Wire.{Wire}
use Rattle.wire_end.specs.declared.wire_end.Wiring.{Wiring}
use Rattle.wire_end.specs.Dealings.{dealt_of, leads_inside}
use Rattle.wire_end.specs.Hearing.{HearsAt, LosesAt, laid, laid_if, lost_where, closed, gone}
use Rattle.wire_end.specs.Wirings.{place, wire_at, new_wire, begun as begun_end, Posts, Refuses, Takes, Misses}
use Rattle.wire_end.proofs.Dealing.{deals}
use Rattle.wire_end.proofs.Places.{at-place}
use Rattle.node_port.specs.Asking.{Reader, reader_of}
use Rattle.node_port.specs.Commands.{Taken, Follows, Refused, Strange, Misplaced, Unfit, Astray, Untold, IsTaken, IsStartedLine}
use Rattle.node_port.specs.Deeds.{Stand, Deed, Turn, Show, Hand, Does, DoesAll, BreaksOff, goes_on, all_go_on, is_still}
use Rattle.node_port.specs.Edits.{Edited, Stood}
use Rattle.node_port.specs.Playing.{Printed, Gives, EndsFor, PlaysLine, MoreOnly, PlaysAll}
use Rattle.node_port.specs.Ran.{Opens, Founds, Behind, Plainly, NobodyStarts, beginning_of, core_of, opened_so}
use Rattle.node_port.specs.Soundness.{IsSoundAt, EndsSoundAt, IsSoundIn}
use Rattle.node_port.specs.declared.commands.Command.TheVariants.{Ask, Steps, Letter, Down, Started, Tick}
use Rattle.node_port.specs.declared.port.Standing.{Standing}
use Rattle.node_port.specs.declared.port.Standing.TheVariants.{Runs, HasLeft, Broken, Spent}
use Rattle.node_port.proofs.Stands.{stand_is}

-- what is done one behind the other has a moment between
pub split_at : (ds es : List Deed) (a c : Stand) → DoesAll (ds ++ es) a c → (b : Stand) × DoesAll ds a b × DoesAll es b c
split_at [] es a c D = (a, refl, D)
split_at (d ∷ ds) es a c D =
    let rest = split_at ds es D.0 c D.2 in (rest.0, (D.0, D.1, rest.1), rest.2)

-- what is shown and handed out the protocol doesn't see
module _ (o : Opening) where
  ended_as : (a b : Looping) (d : Dealt) → b.core ≡ a.core → b.log ≡ a.log → EndsSound o a d → EndsSound o b d
  ended_as a b d core log E = record {
    of = subst (IsNodeOf o) (sym core) E.of;
    named = ap (λ (w : Written). w.node) log ∙ (E.named ∙ sym (ap (λ (h : CoreState). h.name) core));
    course = E.course;
    logged = E.logged ∙ ap (λ (w : Written). map seen_entry w.entries) (sym log);
    node = subst (λ (h : CoreState). node_behind (opened o h) E.course ≡ node_of h) (sym core) E.node;
    vouches = subst (λ (h : CoreState). Vouches (IsSaid (in_world o)) o h.name (took d) (put d) E.course) (sym core) E.vouches;
  }

  still_sound : (d : Deed) (a b : Stand) → is_still d ≡ true → Does d a b → IsSoundAt o a → IsSoundAt o b
  still_sound (Turn r) a b e D S = absurd (false≢true e)
  still_sound (Show (Edited u)) a b e D S = subst (IsSoundAt o) (sym (stand_is b _ _ D.0.0 D.1)) (
    S.0,
    besides o (λ f. []) a.loop (dealt_of a.end) S.1 a.loop.desk a.loop.wait a.loop.worked (record a.loop.owed { note = Nothing }),
  )
  still_sound (Show (Stood j m)) a b e D S = subst (IsSoundAt o) (sym (stand_is b _ _ D.0.2 D.1)) S
  still_sound (Hand t) a b e D S = subst (IsSoundAt o) (sym (stand_is b _ _ D.0.rest D.1)) (
    S.0,
    besides o (λ f. []) a.loop (dealt_of a.end) S.1 (record a.loop.desk { replies = b.loop.desk.replies }) a.loop.wait a.loop.worked a.loop.owed,
  )

  still_ended : (d : Deed) (a b : Stand) → is_still d ≡ true → Does d a b → EndsSoundAt o a → EndsSoundAt o b
  still_ended (Turn r) a b e D E = absurd (false≢true e)
  still_ended (Show (Edited u)) a b e D E =
      subst (λ (w : Wiring). EndsSound o b.loop (dealt_of w)) (sym D.1)
      (ended_as a.loop b.loop (dealt_of a.end) (ap (λ (l : Looping). l.core) D.0.0) (ap (λ (l : Looping). l.log) D.0.0) E)
  still_ended (Show (Stood j m)) a b e D E =
      subst (λ (w : Wiring). EndsSound o b.loop (dealt_of w)) (sym D.1)
      (ended_as a.loop b.loop (dealt_of a.end) (ap (λ (l : Looping). l.core) D.0.2) (ap (λ (l : Looping). l.log) D.0.2) E)
  still_ended (Hand t) a b e D E =
      subst (λ (w : Wiring). EndsSound o b.loop (dealt_of w)) (sym D.1)
      (ended_as a.loop b.loop (dealt_of a.end) (ap (λ (l : Looping). l.core) D.0.rest) (ap (λ (l : Looping). l.log) D.0.rest) E)

  all_still : (ds : List Deed) (a b : Stand) → list_all is_still ds ≡ true → DoesAll ds a b → EndsSoundAt o a → EndsSoundAt o b
  all_still [] a b e D E = subst (EndsSoundAt o) (sym D) E
  all_still (d ∷ ds) a b e D E =
      let both = and_parts (is_still d) (list_all is_still ds) e in
      all_still ds D.0 b both.1 D.2 (still_ended d a D.0 both.0 D.1 E)

  deed_sound : (d : Deed) (a b : Stand) → goes_on d ≡ true → Does d a b → IsSoundAt o a → IsSoundAt o b
  deed_sound (Turn (Ok u)) a b e D S =
      keeps Posts Refuses Takes Misses (λ n. Unit {0}) a.loop a.end (Ok u) b.loop b.end D o (leads_inside o) dealt_of (deals o) S.0 S.1
  deed_sound (Turn (Err why)) a b e D S = absurd (false≢true e)
  deed_sound (Show c) a b e D S = still_sound (Show c) a b refl D S
  deed_sound (Hand t) a b e D S = still_sound (Hand t) a b refl D S

  deeds_sound : (ds : List Deed) (a b : Stand) → all_go_on ds ≡ true → DoesAll ds a b → IsSoundAt o a → IsSoundAt o b
  deeds_sound [] a b e D S = subst (IsSoundAt o) (sym D) S
  deeds_sound (d ∷ ds) a b e D S =
      let both = and_parts (goes_on d) (all_go_on ds) e in
      deeds_sound ds D.0 b both.1 D.2 (deed_sound d a D.0 both.0 D.1 S)

  deeds_end : (ds : List Deed) (a b : Stand) → BreaksOff ds → DoesAll ds a b → IsSoundAt o a → EndsSoundAt o b
  deeds_end ds a b B D S =
      let parts = split_at B.before (Turn (Err StampsSpent) ∷ B.after) a b (subst (λ (x : List Deed). DoesAll x a b) B.split D) in
      let at = deeds_sound B.before a parts.0 B.made parts.1 S in
      all_still B.after parts.2.0 b B.still parts.2.2
      (keeps Posts Refuses Takes Misses (λ n. Unit {0}) parts.0.loop parts.0.end (Err StampsSpent) parts.2.0.loop parts.2.0.end parts.2.1 o
      (leads_inside o) dealt_of (deals o) at.0 at.1).1

-- a link that is another with the same node
module _ (p : ℕ → Bool) where
  led_at : (wires : List Wire) (k : ℕ) (w : Wire) → w.node ≡ (wire_at k wires).node
      → list_all (λ v. p v.node) (set wires k w) ≡ list_all (λ v. p v.node) wires
  led_at [] k w same = refl
  led_at (v ∷ vs) zero w same = ap (λ (n : ℕ). p n && list_all (λ v. p v.node) vs) same
  led_at (v ∷ vs) (suc k) w same = ap (λ (b : Bool). p v.node && b) (led_at vs k w same)

  each_at : (wires : List Wire) (k : ℕ) → list_all (λ v. p v.node) wires ≡ true → k < length wires → p (wire_at k wires).node ≡ true
  each_at [] k e lt = let no : ⊥ = omega (arith, lt) in absurd no
  each_at (v ∷ vs) zero e lt = (and_parts (p v.node) (list_all (λ v. p v.node) vs) e).0
  each_at (v ∷ vs) (suc k) e lt = each_at vs k (and_parts (p v.node) (list_all (λ v. p v.node) vs) e).1 (omega (arith, lt))

  -- the links with all others of a world
  all_inside : (keep : ℕ → Bool) (ns : List ℕ) → ((n : ℕ) → set_of ns n ≡ true → p n ≡ true)
      → list_all (λ v. p v.node) (map new_wire (filter keep ns)) ≡ true
  all_inside keep [] each = refl
  all_inside keep (n ∷ ns) each = go (keep n) (all_inside keep ns (λ m h. each m (or_right (n == m) (set_of ns m) h)))
    where
      go : (b : Bool) → list_all (λ v. p v.node) (map new_wire (filter keep ns)) ≡ true
          → list_all (λ v. p v.node) (map new_wire (cond b (n ∷ filter keep ns) (filter keep ns))) ≡ true
      go true rest = and_from (p n) _ (each n (or_left (n == n) (set_of ns n) (eq-eqb n n refl))) rest
      go false rest = rest

-- a line doesn't say that a node has started
abbrev pub SaysNoStart : List ℕ → Type 0
SaysNoStart bytes = (next : ℕ) → IsStartedLine bytes next → ⊥

-- by a line that is taken so no other node starts
abbrev pub StartsNobody : Taken → Type 0
StartsNobody (Follows (Started next)) = ⊥
StartsNobody _ = Unit {0}

-- so it is where the line doesn't say that one has started
pub starts_nobody : (reader : Reader) (bytes : List ℕ) (taken : Taken) → IsTaken reader bytes taken → SaysNoStart bytes
    → StartsNobody taken
starts_nobody reader bytes (Follows (Ask tag event)) says none = tt
starts_nobody reader bytes (Follows (Steps tag)) says none = tt
starts_nobody reader bytes (Follows (Letter from line)) says none = tt
starts_nobody reader bytes (Follows (Down n)) says none = tt
starts_nobody reader bytes (Follows (Started next)) says none = none next says
starts_nobody reader bytes (Follows Tick) says none = tt
starts_nobody reader bytes (Refused tag fault) says none = tt
starts_nobody reader bytes (Strange command) says none = tt
starts_nobody reader bytes (Misplaced from line) says none = tt
starts_nobody reader bytes (Unfit from line fault) says none = tt
starts_nobody reader bytes (Astray from line) says none = tt
starts_nobody reader bytes (Untold next) says none = tt

-- a line that gives something to the end leaves it sound
module _ (o : Opening) where
  -- the parts of what leads inside
  own : (s : Wiring) → leads_inside o s ≡ true → in_world o s.node ≡ true
  own s h = (and_parts (in_world o s.node) (list_all (λ w. in_world o w.node) s.wires && list_all (λ x. in_world o x.0) s.heard) h).0

  others : (s : Wiring) → leads_inside o s ≡ true
      → (list_all (λ w. in_world o w.node) s.wires ≡ true) × (list_all (λ x. in_world o x.0) s.heard ≡ true)
  others s h =
      and_parts (list_all (λ w. in_world o w.node) s.wires) (list_all (λ x. in_world o x.0) s.heard)
      (and_parts (in_world o s.node) (list_all (λ w. in_world o w.node) s.wires && list_all (λ x. in_world o x.0) s.heard) h).1

  -- where another link stands at a place, and letters more of its node wait
  inside_at : (s : Wiring) (n k : ℕ) (w : Wire) → leads_inside o s ≡ true → place n s.wires ≡ Some k → w.node ≡ (wire_at k s.wires).node
      → (in_world o n ≡ true) × (leads_inside o (record s { wires = set s.wires k w }) ≡ true)
  inside_at s n k w h e same =
      let at = at-place n k s.wires e in (
        subst (λ (m : ℕ). in_world o m ≡ true) at.1 (each_at (in_world o) s.wires k (others s h).0 at.0),
        and_from (in_world o s.node) _ (own s h)
            (and_from (list_all (λ v. in_world o v.node) (set s.wires k w)) (list_all (λ x. in_world o x.0) s.heard)
            (led_at (in_world o) s.wires k w same ∙ (others s h).0) (others s h).1),
      )

  inside_laid : (s : Wiring) (n : ℕ) (l : Stamped) → in_world o n ≡ true → leads_inside o s ≡ true → leads_inside o (laid n l s) ≡ true
  inside_laid s n l known h =
      and_from (in_world o s.node) _ (own s h)
      (and_from (list_all (λ w. in_world o w.node) s.wires) (list_all (λ x. in_world o x.0) (s.heard ++ (n, l) ∷ [])) (others s h).0
      (list_all-append (λ (x : ℕ × Stamped). in_world o x.0) s.heard ((n, l) ∷ [])
      ∙ and_from (list_all (λ x. in_world o x.0) s.heard) _ (others s h).1 (and_from (in_world o n) true known refl)))

  heard_sound : (from : ℕ) (line : LinkLine) (a b : Stand) → b.loop ≡ a.loop → HearsAt (place from a.end.wires) from line a.end b.end
      → IsSoundAt o a → IsSoundAt o b
  heard_sound from line a b loop H S = go (place from a.end.wires) refl H
    where
      go : (at : Option ℕ) → place from a.end.wires ≡ at → HearsAt at from line a.end b.end → IsSoundAt o b
      go None e h = absurd h
      go (Some k) e h = subst (IsSoundAt o) (sym (stand_is b _ _ loop h.rest)) (by_letter h.letter)
        where
          s : Wiring
          s = record a.end { wires = set a.end.wires k h.wire; read = a.end.read ++ (from, line) ∷ [] }

          here : (in_world o from ≡ true) × (leads_inside o s ≡ true)
          here = inside_at a.end from k h.wire S.0 e (ap (λ (w : Wire). w.node) h.hears.2)

          by_letter : (x : Option ALetter) → IsSoundAt o (record { loop = a.loop; end = laid_if from line.stamp x s })
          by_letter None = (here.1, S.1)
          by_letter (Some l) = (inside_laid s from (record { stamp = line.stamp; letter = l }) here.0 here.1, S.1)

  lost_sound : (n : ℕ) (a b : Stand) → b.loop ≡ a.loop → LosesAt (place n a.end.wires) n (Ok tt) a.end b.end → IsSoundAt o a → IsSoundAt o b
  lost_sound n a b loop H S = go (place n a.end.wires) refl H
    where
      go : (at : Option ℕ) → place n a.end.wires ≡ at → LosesAt at n (Ok tt) a.end b.end → IsSoundAt o b
      go None e h = absurd (cc (h.0))
      go (Some k) e h = subst (IsSoundAt o) (sym (stand_is b _ _ loop h)) (by_word (wire_at k a.end.wires).is_down)
        where
          s : Wiring
          s = record a.end { wires = set a.end.wires k (closed (wire_at k a.end.wires)) }

          here : (in_world o n ≡ true) × (leads_inside o s ≡ true)
          here = inside_at a.end n k (closed (wire_at k a.end.wires)) S.0 e refl

          by_word : (b : Bool) → IsSoundAt o (record { loop = a.loop; end = lost_where b n k a.end })
          by_word true = S
          by_word false = (inside_laid s n gone here.0 here.1, S.1)

  gives_sound : (taken : Taken) (a b : Stand) → StartsNobody taken → Gives taken a b → IsSoundAt o a → IsSoundAt o b
  gives_sound (Follows (Ask tag event)) a b none G S = subst (IsSoundAt o) (sym (stand_is b _ _ G.0 G.1)) S
  gives_sound (Follows (Letter from line)) a b none G S = heard_sound from line a b G.0 G.1 S
  gives_sound (Follows (Down n)) a b none G S = lost_sound n a b G.0 G.1 S
  gives_sound (Follows (Started next)) a b none G S = absurd none
  gives_sound (Follows (Steps tag)) a b none G S = subst (IsSoundAt o) (sym G) S
  gives_sound (Follows Tick) a b none G S = subst (IsSoundAt o) (sym G) S
  gives_sound (Refused tag fault) a b none G S = subst (IsSoundAt o) (sym G) S
  gives_sound (Strange (Letter from line)) a b none G S = subst (IsSoundAt o) (sym G.0) S
  gives_sound (Strange (Down n)) a b none G S = subst (IsSoundAt o) (sym G.0) S
  gives_sound (Strange (Started next)) a b none G S = subst (IsSoundAt o) (sym G.0) S
  gives_sound (Strange (Ask tag event)) a b none G S = absurd G
  gives_sound (Strange (Steps tag)) a b none G S = absurd G
  gives_sound (Strange Tick) a b none G S = absurd G
  gives_sound (Misplaced from line) a b none G S = subst (IsSoundAt o) (sym G.0) S
  gives_sound (Unfit from line fault) a b none G S = subst (IsSoundAt o) (sym G.0) S
  gives_sound (Astray from line) a b none G S = subst (IsSoundAt o) (sym G.0) S
  gives_sound (Untold next) a b none G S = subst (IsSoundAt o) (sym G.0) S

  -- a line that is played
  line_sound : (bytes : List ℕ) (s : Standing) (a : Stand) (p : Printed) (b : Stand) → SaysNoStart bytes → PlaysLine bytes s a p b → IsSoundAt o a → IsSoundIn s o b
  line_sound bytes s a p b none L S = go s L.ends
    where
      first : IsSoundAt o L.first
      first = gives_sound L.taken a L.first (starts_nobody (reader_of a.loop) bytes L.taken L.says none) L.gives S

      on : all_go_on L.deeds ≡ true → IsSoundAt o b
      on e = subst (IsSoundAt o) (sym L.behind) (deeds_sound o L.deeds L.first L.last e L.does first)

      go : (x : Standing) → EndsFor x L.taken L.deeds L.last.loop → IsSoundIn x o b
      go Runs e = on e
      go HasLeft e = on e.0
      go Broken e = on e.0
      go Spent e = subst (EndsSoundAt o) (sym L.behind) (deeds_end o L.deeds L.first L.last e L.does first)

  pub lines_sound : (ls : List (List ℕ)) (s : Standing) (a : Stand) (out : List Printed) (c : Stand) → NobodyStarts ls → PlaysAll ls s a out c
      → IsSoundAt o a → IsSoundIn s o c
  lines_sound [] s a out c none h S = subst (λ (x : Standing). IsSoundIn x o c) (sym h.0) (subst (IsSoundAt o) (sym h.2) S)
  lines_sound (l ∷ ls) s a out c none h S =
      go h.3 (λ m T. lines_sound ls s h.4 h.1 c (All-tail SaysNoStart l ls none) m T)
      (line_sound l h.3 a h.0 h.4 (All-head SaysNoStart l ls none) h.5 S) h.6
    where
      go : (x : Standing) → (PlaysAll ls s h.4 h.1 c → IsSoundAt o h.4 → IsSoundIn s o c) → IsSoundIn x o h.4
          → MoreOnly x s ls h.1 h.4 c (PlaysAll ls s h.4 h.1 c) → IsSoundIn s o c
      go Runs on S m = on m S
      go HasLeft on S m = subst (λ (x : Standing). IsSoundIn x o c) (sym m.0) (subst (IsSoundAt o) (sym m.3) S)
      go Broken on S m = subst (λ (x : Standing). IsSoundIn x o c) (sym m.0) (subst (IsSoundAt o) (sym m.3) S)
      go Spent on S m = subst (λ (x : Standing). IsSoundIn x o c) (sym m.0) (subst (EndsSoundAt o) (sym m.3) S)

-- a node as it opens
opens_at : (o : Opening) (core : CoreState) (stamp : ℕ) → IsStrictlyIncreasing core.world → IsNodeOf o core → node_of core ≡ opened o core
    → IsSoundAt o (record { loop = begun stamp core; end = begun_end core.name core.world })
opens_at o core stamp rising I opens = (
  and_from (in_world o core.name) _ (ap (λ (f : ℕ → Bool). f core.name) I.inside ∙ I.here)
      (and_from (list_all (λ w. in_world o w.node) (begun_end core.name core.world).wires) true
      (all_inside (in_world o) (λ n. not (n == core.name)) core.world (λ n h. ap (λ (f : ℕ → Bool). f n) I.inside ∙ h)) refl),
  begins_sound core (begun stamp core) rising refl refl refl refl o I opens,
)

pub opens_sound : (o : Opening) (node : ℕ) (names : List ℕ) (how : Opens) → IsStrictlyIncreasing (core_of node names how).world
    → IsNodeOf o (core_of node names how) → node_of (core_of node names how) ≡ opened o (core_of node names how)
    → IsSoundAt o (opened_so node names how)
opens_sound o node names Founds rising I opens = opens_at o (core_of node names Founds) 0 rising I opens
opens_sound o node names (Behind b) rising I opens = opens_at o (core_of node names (Behind b)) b.stamp rising I opens
opens_sound o node names Plainly rising I opens = opens_at o (core_of node names Plainly) 0 rising I opens
