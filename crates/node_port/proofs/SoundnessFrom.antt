-- A node whose world's nodes come back stays sound over its end of lines, whatever it reads, does and prints.
use Rattle.std.proofs.Common.{ℕ, Bool, true, false, ◌≡◌, map, Ok, Err, Option, Some, None, List, [], ◌∷◌, ◌++◌, refl, sym, ap, subst, ◌∙◌}
use Rattle.std.specs.Prelude.{MatchResult}
use Rattle.std.specs.List.{list_all}
use Rattle.std.specs.List.Sorted.{IsStrictlyIncreasing}
use Rattle.std.proofs.lemmas.Bool.{and_parts, false≢true}
use Rattle.protocol_model.specs.World.{Opening}
use Rattle.letter_lines.specs.declared.Letter.{Letter as ALetter}
use Rattle.node_loop.specs.declared.fault.TurnFault.TheVariants.{StampsSpent}
use Rattle.node_loop.specs.declared.edit.Note.TheVariants.{Nothing}
use Rattle.node_loop.specs.Alone.{node_behind}
use Rattle.node_loop.specs.Coming.{begun}
use Rattle.node_loop.specs.Dealings.{Dealt, took, put}
use Rattle.node_loop.specs.Held.{Looping, Written}
use Rattle.node_loop.specs.NodeCoreState.{CoreState}
use Rattle.node_loop.specs.NodeCoreSeen.{node_of}
use Rattle.node_loop.specs.Returning.{Start, IsByName, IsNodeAmong, IsSoundFrom, EndsSoundFrom, VouchesFrom}
use Rattle.node_loop.specs.Seen.{seen_entry}
use Rattle.node_loop.specs.Steps.{Outcome}
use Rattle.node_loop.proofs.BeginningFrom.{begins_sound_from}
use Rattle.node_loop.proofs.KeepingFrom.{keeps}
use Rattle.node_loop.proofs.Moving.{turn_of}
use Rattle.node_loop.proofs.StandingFrom.{besides}
use Rattle.node_loop.proofs.Staying.{turns_stay}
use Rattle.node_loop.proofs.Starting.{starts_keep_sound}
use Rattle.wire_end.specs.declared.line.LinkLine.{LinkLine}
use Rattle.wire_end.specs.declared.wire_end.Wiring.{Wiring}
use Rattle.wire_end.specs.Dealings.{dealt_of, leads_among}
use Rattle.wire_end.specs.Hearing.{HearsAt, LosesAt, laid_if, read_at, lost_where}
use Rattle.wire_end.specs.Starting.{with_started}
use Rattle.wire_end.specs.Wirings.{place, wire_at, begun as begun_end, Posts, Refuses, Takes, Misses}
use Rattle.wire_end.proofs.Among.{deals_among}
use Rattle.wire_end.proofs.Leading.{stay_among}
use Rattle.node_port.specs.Commands.{Taken, Follows, Refused, Strange, Misplaced, Unfit, Astray, Untold}
use Rattle.node_port.specs.Deeds.{Stand, Deed, Turn, Show, Hand, Does, DoesAll, BreaksOff, goes_on, all_go_on, is_still}
use Rattle.node_port.specs.Edits.{Edited, Stood}
use Rattle.node_port.specs.Playing.{Printed, Gives, GivesStart, EndsFor, PlaysLine, MoreOnly, PlaysAll}
use Rattle.node_port.specs.Ran.{Opens, Founds, Behind, Plainly, beginning_of, core_of, opened_so}
use Rattle.node_port.specs.Soundness.{IsSoundFromAt, EndsSoundFromAt, IsSoundFromIn}
use Rattle.node_port.specs.declared.commands.Command.TheVariants.{Ask, Steps, Letter, Down, Started, Tick}
use Rattle.node_port.specs.declared.port.Standing.{Standing}
use Rattle.node_port.specs.declared.port.Standing.TheVariants.{Runs, HasLeft, Broken, Spent}
use Rattle.node_port.proofs.Soundness.{split_at}
use Rattle.node_port.proofs.Stands.{stand_is}

-- an end leads among the nodes that another loop knows, where these are the same
led_as : (a b : Looping) (s : Wiring) → b.core.world ≡ a.core.world → b.core.name ≡ a.core.name
    → leads_among a.core.world a.core.name s ≡ true → leads_among b.core.world b.core.name s ≡ true
led_as a b s world name h =
    ap (λ (w : List ℕ). leads_among w b.core.name s) world ∙ (ap (λ (n : ℕ). leads_among a.core.world n s) name ∙ h)

-- what an end hears it hasn't dealt in yet
heard_dealt : (at : Option ℕ) (from : ℕ) (line : LinkLine) (s t : Wiring) → HearsAt at from line s t → dealt_of t ≡ dealt_of s
heard_dealt None from line s t h = absurd h
heard_dealt (Some k) from line s t h = ap dealt_of h.rest ∙ by_letter h.letter
  where
    by_letter : (x : Option ALetter) → dealt_of (laid_if from line.stamp x (read_at k h.wire from line s)) ≡ dealt_of s
    by_letter None = refl
    by_letter (Some l) = refl

lost_dealt : (at : Option ℕ) (n : ℕ) (s t : Wiring) → LosesAt at n (Ok tt) s t → dealt_of t ≡ dealt_of s
lost_dealt None n s t h = absurd (cc (h.0))
lost_dealt (Some k) n s t h = ap dealt_of h ∙ by_word (wire_at k s.wires).is_down
  where
    by_word : (b : Bool) → dealt_of (lost_where b n k s) ≡ dealt_of s
    by_word true = refl
    by_word false = refl

module _ (o : Opening) (start : Start) where
  -- a loop that is the same over an end that leads among the same nodes, and dealt in the same
  sound_over : (a b : Stand) → b.loop ≡ a.loop → dealt_of b.end ≡ dealt_of a.end
      → leads_among a.loop.core.world a.loop.core.name b.end ≡ true → IsSoundFromAt o start a → IsSoundFromAt o start b
  sound_over a b loop dealt led S =
      subst (λ (l : Looping). (leads_among l.core.world l.core.name b.end ≡ true) × IsSoundFrom o start l (dealt_of b.end)) (sym loop)
      (led, subst (IsSoundFrom o start a.loop) (sym dealt) S.1)

  -- what is shown and handed out the protocol doesn't see
  ended_as : (a b : Looping) (d : Dealt) → b.core ≡ a.core → b.log ≡ a.log → EndsSoundFrom o start a d → EndsSoundFrom o start b d
  ended_as a b d core log E = record {
    of = subst (IsNodeAmong o) (sym core) E.of;
    named = ap (λ (w : Written). w.node) log ∙ (E.named ∙ sym (ap (λ (h : CoreState). h.name) core));
    course = E.course;
    logged = E.logged ∙ ap (λ (w : Written). map seen_entry w.entries) (sym log);
    node = subst (λ (h : CoreState). node_behind start.node E.course ≡ node_of h) (sym core) E.node;
    vouches = subst (λ (h : CoreState). VouchesFrom o start h.name (took d) (put d) E.course) (sym core) E.vouches;
  }

  still_sound : (d : Deed) (a b : Stand) → is_still d ≡ true → Does d a b → IsSoundFromAt o start a → IsSoundFromAt o start b
  still_sound (Turn r) a b e D S = absurd (false≢true e)
  still_sound (Show (Edited u)) a b e D S = subst (IsSoundFromAt o start) (sym (stand_is b _ _ D.0.0 D.1)) (
    S.0,
    besides o start (λ f. []) a.loop (dealt_of a.end) S.1 a.loop.desk a.loop.wait a.loop.worked (record a.loop.owed { note = Nothing }),
  )
  still_sound (Show (Stood j m)) a b e D S = subst (IsSoundFromAt o start) (sym (stand_is b _ _ D.0.2 D.1)) S
  still_sound (Hand t) a b e D S = subst (IsSoundFromAt o start) (sym (stand_is b _ _ D.0.rest D.1)) (
    S.0,
    besides o start (λ f. []) a.loop (dealt_of a.end) S.1 (record a.loop.desk { replies = b.loop.desk.replies }) a.loop.wait a.loop.worked
        a.loop.owed,
  )

  still_ended : (d : Deed) (a b : Stand) → is_still d ≡ true → Does d a b → EndsSoundFromAt o start a → EndsSoundFromAt o start b
  still_ended (Turn r) a b e D E = absurd (false≢true e)
  still_ended (Show (Edited u)) a b e D E =
      subst (λ (w : Wiring). EndsSoundFrom o start b.loop (dealt_of w)) (sym D.1)
      (ended_as a.loop b.loop (dealt_of a.end) (ap (λ (l : Looping). l.core) D.0.0) (ap (λ (l : Looping). l.log) D.0.0) E)
  still_ended (Show (Stood j m)) a b e D E =
      subst (λ (w : Wiring). EndsSoundFrom o start b.loop (dealt_of w)) (sym D.1)
      (ended_as a.loop b.loop (dealt_of a.end) (ap (λ (l : Looping). l.core) D.0.2) (ap (λ (l : Looping). l.log) D.0.2) E)
  still_ended (Hand t) a b e D E =
      subst (λ (w : Wiring). EndsSoundFrom o start b.loop (dealt_of w)) (sym D.1)
      (ended_as a.loop b.loop (dealt_of a.end) (ap (λ (l : Looping). l.core) D.0.rest) (ap (λ (l : Looping). l.log) D.0.rest) E)

  all_still : (ds : List Deed) (a b : Stand) → list_all is_still ds ≡ true → DoesAll ds a b → EndsSoundFromAt o start a
      → EndsSoundFromAt o start b
  all_still [] a b e D E = subst (EndsSoundFromAt o start) (sym D) E
  all_still (d ∷ ds) a b e D E =
      let both = and_parts (is_still d) (list_all is_still ds) e in
      all_still ds D.0 b both.1 D.2 (still_ended d a D.0 both.0 D.1 E)

  -- a turn
  turned_from : (r : Outcome) (a b : Stand) → Does (Turn r) a b → IsSoundFromAt o start a
      → (leads_among a.loop.core.world a.loop.core.name b.end ≡ true)
      × MatchResult r (λ _. IsSoundFrom o start b.loop (dealt_of b.end)) (λ _. EndsSoundFrom o start b.loop (dealt_of b.end))
  turned_from r a b D S =
      keeps Posts Refuses Takes Misses (λ n. Unit {0}) a.loop a.end r b.loop b.end D o start
      (leads_among a.loop.core.world a.loop.core.name) dealt_of (deals_among a.loop.core.world a.loop.core.name) S.0 S.1

  deed_sound : (d : Deed) (a b : Stand) → goes_on d ≡ true → Does d a b → IsSoundFromAt o start a → IsSoundFromAt o start b
  deed_sound (Turn (Ok u)) a b e D S =
      let T = turned_from (Ok u) a b D S in
      let still = turns_stay a.loop b.loop (turn_of Posts Refuses Takes Misses (λ n. Unit {0}) a.loop a.end (Ok u) b.loop b.end D) in
      (led_as a.loop b.loop b.end still.knows still.named T.0, T.1)
  deed_sound (Turn (Err why)) a b e D S = absurd (false≢true e)
  deed_sound (Show c) a b e D S = still_sound (Show c) a b refl D S
  deed_sound (Hand t) a b e D S = still_sound (Hand t) a b refl D S

  deeds_sound : (ds : List Deed) (a b : Stand) → all_go_on ds ≡ true → DoesAll ds a b → IsSoundFromAt o start a → IsSoundFromAt o start b
  deeds_sound [] a b e D S = subst (IsSoundFromAt o start) (sym D) S
  deeds_sound (d ∷ ds) a b e D S =
      let both = and_parts (goes_on d) (all_go_on ds) e in
      deeds_sound ds D.0 b both.1 D.2 (deed_sound d a D.0 both.0 D.1 S)

  deeds_end : (ds : List Deed) (a b : Stand) → BreaksOff ds → DoesAll ds a b → IsSoundFromAt o start a → EndsSoundFromAt o start b
  deeds_end ds a b B D S =
      let parts = split_at B.before (Turn (Err StampsSpent) ∷ B.after) a b (subst (λ (x : List Deed). DoesAll x a b) B.split D) in
      let at = deeds_sound B.before a parts.0 B.made parts.1 S in
      all_still B.after parts.2.0 b B.still parts.2.2 (turned_from (Err StampsSpent) parts.0 parts.2.0 parts.2.1 at).1

  -- what a line gives to the end, or who starts by it, leaves it sound
  module _ (by_name : IsByName o) where
    started_sound : (next : ℕ) (a b : Stand) → GivesStart next a b → IsSoundFromAt o start a → IsSoundFromAt o start b
    started_sound next a b G S = subst (IsSoundFromAt o start) (sym (stand_is b _ _ G.loop G.starts.begins)) (
      stay_among.starts a.loop.core.world a.loop.core.name G.older next a.end (with_started G.older next a.end)
          (record { next_is = G.starts.next_is; alone = G.starts.alone; begins = refl }) S.0,
      starts_keep_sound o start G.older next a.loop (dealt_of a.end) by_name G.may S.1,
    )

    gives_sound : (taken : Taken) (a b : Stand) → Gives taken a b → IsSoundFromAt o start a → IsSoundFromAt o start b
    gives_sound (Follows (Ask tag event)) a b G S = subst (IsSoundFromAt o start) (sym (stand_is b _ _ G.0 G.1)) S
    gives_sound (Follows (Letter from line)) a b G S =
        sound_over a b G.0 (heard_dealt (place from a.end.wires) from line a.end b.end G.1)
        (stay_among.hears a.loop.core.world a.loop.core.name a.end from line (Ok tt) b.end G.1 S.0) S
    gives_sound (Follows (Down n)) a b G S =
        sound_over a b G.0 (lost_dealt (place n a.end.wires) n a.end b.end G.1)
        (stay_among.loses a.loop.core.world a.loop.core.name a.end n (Ok tt) b.end G.1 S.0) S
    gives_sound (Follows (Started next)) a b G S = started_sound next a b G S
    gives_sound (Follows (Steps tag)) a b G S = subst (IsSoundFromAt o start) (sym G) S
    gives_sound (Follows Tick) a b G S = subst (IsSoundFromAt o start) (sym G) S
    gives_sound (Refused tag fault) a b G S = subst (IsSoundFromAt o start) (sym G) S
    gives_sound (Strange (Letter from line)) a b G S = subst (IsSoundFromAt o start) (sym G.0) S
    gives_sound (Strange (Down n)) a b G S = subst (IsSoundFromAt o start) (sym G.0) S
    gives_sound (Strange (Started next)) a b G S = subst (IsSoundFromAt o start) (sym G.0) S
    gives_sound (Strange (Ask tag event)) a b G S = absurd G
    gives_sound (Strange (Steps tag)) a b G S = absurd G
    gives_sound (Strange Tick) a b G S = absurd G
    gives_sound (Misplaced from line) a b G S = subst (IsSoundFromAt o start) (sym G.0) S
    gives_sound (Unfit from line fault) a b G S = subst (IsSoundFromAt o start) (sym G.0) S
    gives_sound (Astray from line) a b G S = subst (IsSoundFromAt o start) (sym G.0) S
    gives_sound (Untold next) a b G S = subst (IsSoundFromAt o start) (sym G.0) S

    -- a line that is played
    line_sound : (bytes : List ℕ) (s : Standing) (a : Stand) (p : Printed) (b : Stand) → PlaysLine bytes s a p b → IsSoundFromAt o start a
        → IsSoundFromIn s o start b
    line_sound bytes s a p b L S = go s L.ends
      where
        first : IsSoundFromAt o start L.first
        first = gives_sound L.taken a L.first L.gives S

        on : all_go_on L.deeds ≡ true → IsSoundFromAt o start b
        on e = subst (IsSoundFromAt o start) (sym L.behind) (deeds_sound L.deeds L.first L.last e L.does first)

        go : (x : Standing) → EndsFor x L.taken L.deeds L.last.loop → IsSoundFromIn x o start b
        go Runs e = on e
        go HasLeft e = on e.0
        go Broken e = on e.0
        go Spent e = subst (EndsSoundFromAt o start) (sym L.behind) (deeds_end L.deeds L.first L.last e L.does first)

    pub lines_sound_from : (ls : List (List ℕ)) (s : Standing) (a : Stand) (out : List Printed) (c : Stand) → PlaysAll ls s a out c
        → IsSoundFromAt o start a → IsSoundFromIn s o start c
    lines_sound_from [] s a out c h S =
        subst (λ (x : Standing). IsSoundFromIn x o start c) (sym h.0) (subst (IsSoundFromAt o start) (sym h.2) S)
    lines_sound_from (l ∷ ls) s a out c h S =
        go h.3 (λ m T. lines_sound_from ls s h.4 h.1 c m T) (line_sound l h.3 a h.0 h.4 h.5 S) h.6
      where
        go : (x : Standing) → (PlaysAll ls s h.4 h.1 c → IsSoundFromAt o start h.4 → IsSoundFromIn s o start c) → IsSoundFromIn x o start h.4
            → MoreOnly x s ls h.1 h.4 c (PlaysAll ls s h.4 h.1 c) → IsSoundFromIn s o start c
        go Runs on S m = on m S
        go HasLeft on S m = subst (λ (x : Standing). IsSoundFromIn x o start c) (sym m.0) (subst (IsSoundFromAt o start) (sym m.3) S)
        go Broken on S m = subst (λ (x : Standing). IsSoundFromIn x o start c) (sym m.0) (subst (IsSoundFromAt o start) (sym m.3) S)
        go Spent on S m = subst (λ (x : Standing). IsSoundFromIn x o start c) (sym m.0) (subst (EndsSoundFromAt o start) (sym m.3) S)

-- a node as it opens
opens_at : (o : Opening) (core : CoreState) (stamp : ℕ) → IsStrictlyIncreasing core.world → IsNodeAmong o core
    → IsSoundFromAt o (record { node = node_of core; stamp = stamp })
    (record { loop = begun stamp core; end = begun_end core.name core.world })
opens_at o core stamp rising I = (
  stay_among.begins core.world core.name I.here,
  begins_sound_from core (begun stamp core) stamp rising refl refl refl refl refl o I,
)

pub opens_sound_from : (o : Opening) (node : ℕ) (names : List ℕ) (how : Opens) → IsStrictlyIncreasing (core_of node names how).world
    → IsNodeAmong o (core_of node names how)
    → IsSoundFromAt o (record { node = node_of (core_of node names how); stamp = (beginning_of node how).stamp }) (opened_so node names how)
opens_sound_from o node names Founds rising I = opens_at o (core_of node names Founds) 0 rising I
opens_sound_from o node names (Behind b) rising I = opens_at o (core_of node names (Behind b)) b.stamp rising I
opens_sound_from o node names Plainly rising I = opens_at o (core_of node names Plainly) 0 rising I
