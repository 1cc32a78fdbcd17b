-- A loop that tells of the steps of its node from its start on, where nodes come back, as these become more.
use Rattle.std.proofs.Common.{◌≡◌, ◌≤◌, ◌+◌, ℕ, Bool, true, false, List, [], ◌∷◌, ◌++◌, map, refl, sym, ap, subst, ◌∙◌, inl, inr, arith, append_assoc, true≢false}
use Rattle.std.specs.Prelude.{◌⊎◌}
use Rattle.std.specs.List.Sorted.{IsStrictlyIncreasing}
use Rattle.std.proofs.lemmas.Bool.{cases_eq, ne_eqb}
use Rattle.protocol_model.specs.Node.{Node}
use Rattle.protocol_model.specs.Turn.{sent_to}
use Rattle.protocol_model.specs.World.{Opening, in_world, place, other}
use Rattle.closings.specs.Alone.{Stamped as StampedLetter, Made, Does, stamped, letters_to, sent, unread_after, unread_behind, StartsAbove, AreBelow, is_leave, IsStep, Plays, node_behind}
use Rattle.closings.specs.Guarded.{Begins}
use Rattle.closings.proofs.Growing.{plays_more, node_on, unread_on, sent_on, below_from, below_on, staying_on}
use Rattle.closings.proofs.Plainly.{plays_longer, unread_behind_longer, starts_on}
use Rattle.term.specs.NodeSets.{set_of, with_older}
use Rattle.term.proofs.Older.{held}
use Rattle.node_log.specs.NodeEventsLetters.{send_of}
use Rattle.node_core.specs.CoreState.{CoreState, bound_of}
use Rattle.node_core.specs.Made.{Made as Turn}
use Rattle.node_core.specs.Seen.{node_of}
use Rattle.node_core.specs.Steps.{Steps, IsAsBefore}
use Rattle.node_log.specs.Events.{event_of}
use Rattle.node_log.specs.Seen.{seen_entry}
use Rattle.tray.specs.Held.{Waiting}
use Rattle.node_loop.specs.declared.item.Item.{Item}
use Rattle.node_loop.specs.declared.edit.Owed.{Owed}
use Rattle.node_loop.specs.Desks.{Kept}
use Rattle.node_loop.specs.Held.{Looping, Written, with_letters}
use Rattle.node_loop.specs.Steps.{Cause, stamp_of, entry_of}
use Rattle.node_loop.specs.Dealings.{Dealt, letters_in, took, put, receivers, waiting_for}
use Rattle.node_loop.specs.Returning.{IsNodeAmong, Start, StandsFrom, EndsSoundFrom}
use Rattle.node_loop.proofs.Dealing.{letters_from}
use Rattle.node_loop.proofs.DoingFrom.{made_from, sends_of, here_among}
use Rattle.node_loop.proofs.Standing.{logged_more}
use Rattle.node_loop.proofs.Trays.{receivers_with, letters_with}

-- it is a node of the world still, where it has the same name and the same world
among_same : (o : Opening) (h k : CoreState) → IsNodeAmong o h → k.name ≡ h.name → k.world ≡ h.world → IsNodeAmong o k
among_same o h k I n w = record {
  bound = I.bound ∙ ap bound_of (sym w);
  inside = λ c e. I.inside c (ap (λ (x : List ℕ). with_older x c) (sym w) ∙ e);
  here = ap (λ (x : List ℕ). set_of x k.name) w ∙ (ap (set_of h.world) n ∙ I.here);
}

-- its steps are those of a node of its name
played_as : (o : Opening) (m n : ℕ) (letters : ℕ → List StampedLetter) (v : Node) (ds : List Made) → n ≡ m → Plays Does o m letters v ds
    → Plays Does o n letters v ds
played_as o m n letters v ds e h = subst (λ (x : ℕ). Plays Does o x letters v ds) (sym e) h

begins_longer : (some whole more : List StampedLetter) → Begins some whole → Begins some (whole ++ more)
begins_longer some whole more b =
    (b.0 ++ more, ap (λ (ls : List StampedLetter). ls ++ more) b.1 ∙ append_assoc some b.0 more)

-- a node has started, at present or before, or it hasn't
which : (world : List ℕ) (t : ℕ) (P : Type 0) → (set_of world t ≡ true → P) → (set_of world t ≡ false → with_older world t ≡ true → P)
    → (with_older world t ≡ false → P) → P
which world t P there before later = go (set_of world t) (with_older world t) refl refl
  where
    go : (b c : Bool) → set_of world t ≡ b → with_older world t ≡ c → P
    go true c e f = there e
    go false true e f = before e f
    go false false e f = later f

module _ (o : Opening) (start : Start) (unread : ℕ → List StampedLetter) (a : Looping) (d : Dealt) (S : StandsFrom o start unread a d) where
  -- what the protocol doesn't see of it may be otherwise
  pub besides : (desk : Kept) (wait : ℕ) (worked : Bool) (owed : Owed)
      → StandsFrom o start unread (record a { desk = desk; wait = wait; worked = worked; owed = owed }) d
  besides desk wait worked owed = record {
    of = S.of;
    named = S.named;
    world = S.world;
    rising = S.rising;
    course = S.course;
    logged = S.logged;
    plays = S.plays;
    node = S.node;
    starts = S.starts;
    above = S.above;
    below = S.below;
    running = S.running;
    known = S.known;
    tray = S.tray;
    sends = S.sends;
    older = S.older;
    later = S.later;
  }

  -- what it put for each node begins what its steps send there
  puts_so_far : (t : ℕ) → Begins (put d t) (sent t S.course)
  puts_so_far t = which a.core.world t (Begins (put d t) (sent t S.course))
      (λ e. (letters_in (waiting_for t a.tray), S.sends t e)) (λ e f. S.older t e f)
      (λ e. (sent t S.course, ap (λ (ls : List StampedLetter). ls ++ sent t S.course) (sym (S.later t e).0)))

  -- no step more is made
  pub ends_still : (b : Looping) → b.log ≡ a.log → IsAsBefore a.core b.core → EndsSoundFrom o start b d
  ends_still b log B = record {
    of = among_same o a.core b.core S.of B.name B.world;
    named = ap (λ (l : Written). l.node) log ∙ (S.named ∙ sym B.name);
    course = S.course;
    logged = S.logged ∙ ap (λ (l : Written). map seen_entry l.entries) (sym log);
    node = S.node ∙ sym B.node;
    vouches = record {
      plays = played_as o a.core.name b.core.name (took d) start.node S.course B.name S.plays;
      starts = S.starts;
      known = S.known;
      puts = λ t known. puts_so_far t;
    };
  }

  -- its tray is sent as far as it goes
  pub sent_off : (ws : List (Waiting Item)) (e : Dealt) → receivers ws ≡ receivers a.tray → took e ≡ took d
      → ((t : ℕ) → put e t ++ letters_in (waiting_for t ws) ≡ put d t ++ letters_in (waiting_for t a.tray))
      → ((t : ℕ) → set_of (receivers a.tray) t ≡ false → put e t ≡ put d t)
      → StandsFrom o start unread (record a { tray = ws }) e
  sent_off ws e slots same goes apart = record {
    of = S.of;
    named = S.named;
    world = S.world;
    rising = S.rising;
    course = S.course;
    logged = S.logged;
    plays = subst (λ (ls : ℕ → List StampedLetter). Plays Does o a.core.name ls start.node S.course) (sym same) S.plays;
    node = S.node;
    starts = S.starts;
    above = S.above;
    below = S.below;
    running = λ l. ((S.running l).0, ap (λ (ls : ℕ → List StampedLetter). unread_behind ls S.course) same ∙ (S.running l).1);
    known = λ f strange. (λ j. same j f) ∙ S.known f strange;
    tray = slots ∙ S.tray;
    sends = λ t there. S.sends t there ∙ sym (goes t);
    older = λ t out before. subst (λ (ls : List StampedLetter). Begins ls (sent t S.course)) (sym (apart t (no_list t out))) (S.older t out before);
    later = λ t out. (apart t (no_list t (not_held t out)) ∙ (S.later t out).0, (S.later t out).1);
  }
    where
      no_list : (t : ℕ) → set_of a.core.world t ≡ false → set_of (receivers a.tray) t ≡ false
      no_list t out = ap (λ (xs : List ℕ). set_of xs t) S.tray ∙ out

      not_held : (t : ℕ) → with_older a.core.world t ≡ false → set_of a.core.world t ≡ false
      not_held t out = which a.core.world t (set_of a.core.world t ≡ false)
          (λ e. absurd (true≢false (sym (held a.core.world t e) ∙ out))) (λ e f. e) (λ f. not_in t out (set_of a.core.world t) refl)
        where
          not_in : (t : ℕ) → with_older a.core.world t ≡ false → (b : Bool) → set_of a.core.world t ≡ b → b ≡ false
          not_in t out true e = absurd (true≢false (sym (held a.core.world t e) ∙ out))
          not_in t out false e = refl

  -- a step more, that sends to whom the node knows to be at present what its core does, and to whom it doesn't know nothing, unless it leaves
  module _ (run : a.left ≡ false) (k : Cause) (core : CoreState) (turn : Turn) (step : Steps k.event a.core core turn)
      (own : place (event_of k.logged) ≡ a.core.name) (known : in_world o (other (event_of k.logged)) ≡ true)
      (does : Does o unread (node_of a.core) (made_from o a.core k.event core turn (seen_entry (entry_of k a turn.answers))) (event_of k.logged))
      (same : (t : ℕ) → set_of a.core.world t ≡ true → sent_to t (sends_of o a.core k.event turn) ≡ sent_to t (map send_of turn.letters))
      (none : is_leave (event_of k.logged) ≡ false → (t : ℕ) → with_older a.core.world t ≡ false → sent_to t (sends_of o a.core k.event turn) ≡ []) where
    abbrev m : Made
    m = made_from o a.core k.event core turn (seen_entry (entry_of k a turn.answers))

    is_step : IsStep Does o a.core.name (unread_behind (took d) S.course) (node_behind start.node S.course) m []
    is_step = record {
      own = own;
      here = here_among o a.core S.of;
      known = known;
      does = subst (λ (p : (ℕ → List StampedLetter) × Node). Does o p.0 p.1 m (event_of k.logged))
          (λ j. (sym (S.running run).1 j, sym S.node j)) does;
      rises = tt;
      last = λ _. refl;
    }

    later_ : a.stamp + 1 ≤ stamp_of k a
    later_ = omega arith

    plays : Plays Does o a.core.name (took d) start.node (S.course ++ m ∷ [])
    plays = plays_more Does o a.core.name m (took d) start.node S.course S.plays
        (below_from (a.stamp + 1) (stamp_of k a) S.course later_ S.below) (S.running run).0 is_step

    above_start : StartsAbove start.stamp (S.course ++ m ∷ [])
    above_start = starts_on start.stamp m S.course (omega (arith, later_, S.above)) S.starts

    -- it is logged, and the thread ends
    pub ends_more : (b : Looping) → b.core ≡ core → b.log ≡ record a.log { entries = a.log.entries ++ entry_of k a turn.answers ∷ [] }
        → EndsSoundFrom o start b d
    ends_more b is log =
        let name : b.core.name ≡ a.core.name = ap (λ (h : CoreState). h.name) is ∙ step.name in
        record {
          of = among_same o a.core b.core S.of name (ap (λ (h : CoreState). h.world) is ∙ step.world);
          named = ap (λ (l : Written). l.node) log ∙ (S.named ∙ sym name);
          course = S.course ++ m ∷ [];
          logged = logged_more S.course a.log.entries b.log.entries m (entry_of k a turn.answers) S.logged refl
              (ap (λ (l : Written). l.entries) log);
          node = node_on m start.node S.course ∙ ap node_of (sym is);
          vouches = record {
            plays = played_as o a.core.name b.core.name (took d) start.node (S.course ++ m ∷ []) name plays;
            starts = above_start;
            known = S.known;
            puts = λ t inside. subst (λ (ls : List StampedLetter). Begins (put d t) ls) (sym (sent_on m t S.course))
                (begins_longer (put d t) (sent t S.course) (letters_to t m) (puts_so_far t));
          };
        }

    -- it is made, and the thread goes on
    pub stands_more : (b : Looping) → b.core ≡ core → b.log ≡ record a.log { entries = a.log.entries ++ entry_of k a turn.answers ∷ [] }
        → b.stamp ≡ stamp_of k a → b.tray ≡ with_letters (stamp_of k a) turn.letters a.tray → b.world ≡ a.world
        → (b.left ≡ false → is_leave (event_of k.logged) ≡ false) → StandsFrom o start (unread_after (event_of k.logged) unread) b d
    stands_more b is log stamp tray world stays =
        let name : b.core.name ≡ a.core.name = ap (λ (h : CoreState). h.name) is ∙ step.name in
        let where_ : b.core.world ≡ a.core.world = ap (λ (h : CoreState). h.world) is ∙ step.world in
        record {
          of = among_same o a.core b.core S.of name where_;
          named = ap (λ (l : Written). l.node) log ∙ (S.named ∙ sym name);
          world = world ∙ (S.world ∙ sym where_);
          rising = subst IsStrictlyIncreasing (sym where_) S.rising;
          course = S.course ++ m ∷ [];
          logged = logged_more S.course a.log.entries b.log.entries m (entry_of k a turn.answers) S.logged refl
              (ap (λ (l : Written). l.entries) log);
          plays = played_as o a.core.name b.core.name (took d) start.node (S.course ++ m ∷ []) name plays;
          node = node_on m start.node S.course ∙ ap node_of (sym is);
          starts = above_start;
          above = omega (arith, stamp, later_, S.above);
          below = subst (λ (n : ℕ). AreBelow (n + 1) (S.course ++ m ∷ [])) (sym stamp)
              (below_on m (stamp_of k a + 1) S.course (below_from (a.stamp + 1) (stamp_of k a + 1) S.course (on (stamp_of k a) later_) S.below)
              (omega arith));
          running = λ l. (
            staying_on m S.course (S.running run).0 (stays l),
            unread_on m (took d) S.course ∙ ap (unread_after (event_of k.logged)) (S.running run).1,
          );
          known = S.known;
          tray = ap receivers tray ∙ (receivers_with (stamp_of k a) turn.letters a.tray ∙ (S.tray ∙ sym where_));
          sends = λ t there. sent_on m t S.course
              ∙ (ap (λ (l : List StampedLetter). l ++ letters_to t m) (S.sends t (there_before where_ t there))
              ∙ (append_assoc (put d t) (letters_in (waiting_for t a.tray)) (letters_to t m)
              ∙ ap (λ (l : List StampedLetter). put d t ++ l)
              (waits t (there_before where_ t there) ∙ ap (λ (ws : List (Waiting Item)). letters_in (waiting_for t ws)) (sym tray))));
          older = λ t out before. subst (λ (ls : List StampedLetter). Begins (put d t) ls) (sym (sent_on m t S.course))
              (begins_longer (put d t) (sent t S.course) (letters_to t m)
              (S.older t (ap (λ (xs : List ℕ). set_of xs t) (sym where_) ∙ out) (ap (λ (xs : List ℕ). with_older xs t) (sym where_) ∙ before)));
          later = λ t out.
              let before : with_older a.core.world t ≡ false = ap (λ (xs : List ℕ). with_older xs t) (sym where_) ∙ out in (
                (S.later t before).0,
                λ l. sent_on m t S.course
                    ∙ (ap (λ (ls : List StampedLetter). ls ++ letters_to t m) ((S.later t before).1 run)
                    ∙ ap (stamped (stamp_of k a)) (none (stays l) t before)),
              );
        }
      where
        on : (n : ℕ) → a.stamp + 1 ≤ n → a.stamp + 1 ≤ n + 1
        on n l = omega (arith, l)

        there_before : b.core.world ≡ a.core.world → (t : ℕ) → set_of b.core.world t ≡ true → set_of a.core.world t ≡ true
        there_before where_ t there = ap (λ (xs : List ℕ). set_of xs t) (sym where_) ∙ there

        waits : (t : ℕ) → set_of a.core.world t ≡ true
            → letters_in (waiting_for t a.tray) ++ letters_to t m
            ≡ letters_in (waiting_for t (with_letters (stamp_of k a) turn.letters a.tray))
        waits t there =
            ap (λ (ls : List _). letters_in (waiting_for t a.tray) ++ stamped (stamp_of k a) ls) (same t there)
            ∙ sym (letters_with (stamp_of k a) t turn.letters a.tray (ap (λ (x : List ℕ). set_of x t) S.tray ∙ there))

-- a letter that is taken is unread
module _ (o : Opening) (start : Start) (a : Looping) (d e : Dealt) (S : StandsFrom o start (λ f. []) a d) where
  pub taken : (from : ℕ) (i : Item) → in_world o from ≡ true → took e ≡ (λ f. took d f ++ letters_from from i f) → put e ≡ put d
      → StandsFrom o start (letters_from from i) a e
  taken from i known more same = record {
    of = S.of;
    named = S.named;
    world = S.world;
    rising = S.rising;
    course = S.course;
    logged = S.logged;
    plays = subst (λ (ls : ℕ → List StampedLetter). Plays Does o a.core.name ls start.node S.course) (sym more)
        (plays_longer o (letters_from from i) a.core.name (took d) start.node S.course S.plays);
    node = S.node;
    starts = S.starts;
    above = S.above;
    below = S.below;
    running = λ l. (
      (S.running l).0,
      ap (λ (ls : ℕ → List StampedLetter). unread_behind ls S.course) more
          ∙ (unread_behind_longer o (letters_from from i) a.core.name (took d) start.node S.course S.plays
          ∙ λ j f. (S.running l).1 j f ++ letters_from from i f),
    );
    known = λ f strange. (λ j. more j f)
        ∙ ((λ j. S.known f strange j ++ letters_from from i f) ∙ none f strange (cases_eq f from));
    tray = S.tray;
    sends = λ t there. S.sends t there ∙ λ j. sym same j t ++ letters_in (waiting_for t a.tray);
    older = λ t out before. subst (λ (p : ℕ → List StampedLetter). Begins (p t) (sent t S.course)) (sym same) (S.older t out before);
    later = λ t out. ((λ j. same j t) ∙ (S.later t out).0, (S.later t out).1);
  }
    where
      none : (f : ℕ) → in_world o f ≡ false → (f ≡ from) ⊎ (f ≡ from → ⊥) → letters_from from i f ≡ []
      none f strange (inl e) = absurd (true≢false (sym known ∙ (ap (in_world o) (sym e) ∙ strange)))
      none f strange (inr ne) = rw (ne_eqb f from ne) refl
