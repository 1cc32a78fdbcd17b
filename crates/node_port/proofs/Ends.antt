-- How the program of a node ran from its first line to its end.
use Rattle.std.proofs.Common.{ℕ, Bool, true, false, ◌≡◌, inl, inr, Ok, Err, List, [], ◌∷◌, ◌++◌, Option, refl, sym, subst, append-nil, All}
use Rattle.std.specs.Prelude.{flat_map, Result, MatchResult}
use Rattle.std.specs.Io.KnownBytes.{Appends, Keeps}
use Rattle.std.specs.List.Sorted.{IsStrictlyIncreasing}
use Rattle.std.proofs.KnownBytes.{Appends-nil, Appends-trans, Appends-kept}
use Rattle.text_lines.specs.Lines.{LosesLines, LosesWithinLine, HasNoLine}
use Rattle.text_lines.specs.Writing.{AppendsPart}
use Rattle.text_lines.specs.declared.faults.StreamFault.{StreamFault}
use Rattle.text_lines.proofs.Known.{LosesLines-nil, LosesLines-trans, LosesInto-whole, LosesInto-behind}
use Rattle.text_lines.proofs.Written.{AppendsPart-behind, AppendsPart-whole}
use Rattle.node_port.specs.Deeds.{Stand}
use Rattle.node_port.specs.Playing.{Printed, printed_text, PlaysAll}
use Rattle.node_port.specs.Ran.{Opens, Founds, Behind, Plainly, OpensBy, beginning_of, core_of, opened_so, first_text, Done, Ends, NodeRan, NodeStopped}
use Rattle.node_port.specs.Working.{PlaysOn, StopsOn, OpenedBy, StoppedBy, GoesBehind, StopsBehind, RunsFrom, StopsFrom, StopsNext}
use Rattle.node_port.specs.declared.port.Standing.{Standing}
use Rattle.node_port.specs.declared.port.Standing.TheVariants.{Runs, HasLeft, Broken, Spent}
use Rattle.term.specs.Nodes.{IsFirst}
use Rattle.node_port.specs.Beginnings.{before}
use Rattle.node_port.proofs.Beginnings.{world_rises}
use Rattle.node_port.proofs.Playing.{plays_more}
use Rattle.node_port.proofs.Runs.{is_run}

-- what was written is that behind what was kept
pub kept_first : (a b c : Option (List ℕ)) (text : List ℕ) → Keeps a b → Appends b c text → Appends a c text
kept_first a b c text k w = Appends-trans a b c [] text (Appends-kept a a b [] (Appends-nil a) k) w

kept_part : (a b c : Option (List ℕ)) (text : List ℕ) → Keeps a b → AppendsPart b c text → AppendsPart a c text
kept_part a b c text k w = AppendsPart-behind a b c [] text (Appends-kept a a b [] (Appends-nil a) k) w

all_as_part : (a b : Option (List ℕ)) (text : List ℕ) → Appends a b text → AppendsPart a b text
all_as_part a b text w = subst (λ (t : List ℕ). AppendsPart a b t) (append-nil text) (AppendsPart-whole a b text [] w)

-- nothing of a text
kept_as_part : (a b : Option (List ℕ)) → Keeps a b → AppendsPart a b []
kept_as_part a b k = all_as_part a b [] (Appends-kept a a b [] (Appends-nil a) k)

-- the world of a node as it opens rises, however it does
abbrev pub EachRises : ℕ → List ℕ → Type 0
EachRises node names = (how : Opens) → IsStrictlyIncreasing (core_of node names how).world

pub each_rises : (node : ℕ) (names : List ℕ) → All IsFirst names → IsStrictlyIncreasing names → EachRises node names
each_rises node names first up Founds = up
each_rises node names first up (Behind b) = world_rises node names b.left first up
each_rises node names first up Plainly = world_rises node names (before node) first up

module _ (node : ℕ) (names : List ℕ) (rising : EachRises node names) where
  -- the lines were played, where the first of them opened the node so
  record DoneAs (lines : List (List ℕ)) (s : Standing) (text : List ℕ) : Type 0 where
    how : Opens
    played : List (List ℕ)
    opens : OpensBy node names lines how played
    out : List Printed
    stand : Stand
    plays : PlaysAll played s (opened_so node names how) out stand
    text_is : text ≡ first_text how node ++ flat_map printed_text out

  done : (lines : List (List ℕ)) (s : Standing) (text : List ℕ) → DoneAs lines s text → Done node names lines s text
  done lines s text D = record {
    how = D.how;
    played = D.played;
    opens = D.opens;
    out = D.out;
    stand = D.stand;
    plays = D.plays;
    run = is_run node names D.how (rising D.how) D.played s D.out D.stand D.plays;
    text_is = D.text_is;
  }

  nothing_done : Done node names [] Runs []
  nothing_done = done [] Runs [] (record {
    how = Plainly;
    played = [];
    opens = refl;
    out = [];
    stand = opened_so node names Plainly;
    plays = (refl, refl, refl);
    text_is = refl;
  })

  -- there was no line
  pub no_line : (input rest old new : Option (List ℕ)) → LosesLines input rest [] → HasNoLine rest → Keeps old new
      → NodeRan node names input rest old new true
  no_line input rest old new lost none kept = record {
    lines = [];
    lost = lost;
    standing = Runs;
    text = [];
    done = nothing_done;
    wrote = Appends-kept old old new [] (Appends-nil old) kept;
    ended = none;
  }

  -- none could be read
  pub stopped_first : (input rest old new : Option (List ℕ)) (fault : StreamFault) → StopsNext input rest → Keeps old new
      → NodeStopped node names input rest old new fault
  stopped_first input rest old new fault t kept = record {
    lines = [];
    part = t.0;
    read = (input, LosesLines-nil input, t.1);
    standing = Runs;
    text = [];
    done = nothing_done;
    wrote = kept_as_part old new kept;
  }

  module _ (bytes : List ℕ) where
    -- behind the first line
    first_done : (how : Opens) (s : Standing) (p : Stand) (a b : Option (List ℕ)) → OpenedBy how node names bytes s p a b
        → (text : List ℕ) × DoneAs (bytes ∷ []) s text × Appends a b text
    first_done Founds s p a b O = (
      first_text Founds node ++ [],
      record {
        how = Founds;
        played = [];
        opens = (O.1, O.0, refl);
        out = [];
        stand = p;
        plays = (O.2, refl, O.3);
        text_is = refl;
      },
      subst (λ (t : List ℕ). Appends a b t) (sym (append-nil (first_text Founds node))) O.4,
    )
    first_done (Behind d) s p a b O = (
      [],
      record {
        how = Behind d;
        played = [];
        opens = (O.0, refl);
        out = [];
        stand = p;
        plays = (O.1, refl, O.2);
        text_is = refl;
      },
      Appends-kept a a b [] (Appends-nil a) O.3,
    )
    first_done Plainly s p a b O = (
      printed_text O.1.p ++ [],
      record {
        how = Plainly;
        played = bytes ∷ [];
        opens = (O.0, refl);
        out = O.1.p ∷ [];
        stand = p;
        plays = plays_more [] (opened_so node names Plainly) (opened_so node names Plainly) p [] s bytes O.1.p (refl, refl, refl) O.1.plays;
        text_is = refl;
      },
      subst (λ (t : List ℕ). Appends a b t) (sym (append-nil (printed_text O.1.p))) O.1.wrote,
    )

    -- and behind others
    module _ (ls : List (List ℕ)) (t : Standing) (p : Stand) (out : List Printed) (c : Stand) (P : PlaysAll ls t p out c) where
      text_behind : (how : Opens) (a b : Option (List ℕ)) → OpenedBy how node names bytes Runs p a b
          → (front : List ℕ) × Appends a b front × DoneAs (bytes ∷ ls) t (front ++ flat_map printed_text out)
      text_behind Founds a b O = (
        first_text Founds node,
        O.4,
        record {
          how = Founds;
          played = ls;
          opens = (O.1, O.0, refl);
          out = out;
          stand = c;
          plays = subst (λ (x : Stand). PlaysAll ls t x out c) O.3 P;
          text_is = refl;
        },
      )
      text_behind (Behind d) a b O = (
        [],
        Appends-kept a a b [] (Appends-nil a) O.3,
        record {
          how = Behind d;
          played = ls;
          opens = (O.0, refl);
          out = out;
          stand = c;
          plays = subst (λ (x : Stand). PlaysAll ls t x out c) O.2 P;
          text_is = refl;
        },
      )
      text_behind Plainly a b O = (
        printed_text O.1.p,
        O.1.wrote,
        record {
          how = Plainly;
          played = bytes ∷ ls;
          opens = (O.0, refl);
          out = O.1.p ∷ out;
          stand = c;
          plays = (O.1.p, out, refl, Runs, p, O.1.plays, P);
          text_is = refl;
        },
      )

  -- the first line was read, and opened the node
  module _ (bytes : List ℕ) (input mid old w0 w1 : Option (List ℕ)) (lost : LosesLines input mid (bytes ∷ [])) (kept : Keeps old w0) where
    -- or it stopped there
    stopped_open : (fault : StreamFault) → LosesWithinLine input mid → (how : Opens) → StoppedBy how node names bytes w0 w1
        → NodeStopped node names input mid old w1 fault
    stopped_open fault within how S = go how S
      where
        with_first : (text : List ℕ) (s : Standing) → DoneAs (bytes ∷ []) s text → AppendsPart w0 w1 text
            → NodeStopped node names input mid old w1 fault
        with_first text s D w = record {
          lines = bytes ∷ [];
          part = [];
          read = LosesInto-whole input mid (bytes ∷ []) lost;
          standing = s;
          text = text;
          done = done (bytes ∷ []) s text D;
          wrote = kept_part old w0 w1 text kept w;
        }

        unopened : Keeps w0 w1 → NodeStopped node names input mid old w1 fault
        unopened same = record {
          lines = [];
          part = within.0;
          read = (input, LosesLines-nil input, within.1);
          standing = Runs;
          text = [];
          done = nothing_done;
          wrote = kept_part old w0 w1 [] kept (kept_as_part w0 w1 same);
        }

        go : (h : Opens) → StoppedBy h node names bytes w0 w1 → NodeStopped node names input mid old w1 fault
        go Founds S = with_first (first_text Founds node ++ []) Runs
            (record {
              how = Founds;
              played = [];
              opens = (S.1, S.0, refl);
              out = [];
              stand = opened_so node names Founds;
              plays = (refl, refl, refl);
              text_is = refl;
            })
            (subst (λ (t : List ℕ). AppendsPart w0 w1 t) (sym (append-nil (first_text Founds node))) S.2)
        go (Behind d) same = unopened same
        go Plainly (inl L) = with_first (printed_text L.1.p ++ []) L.1.standing
            (record {
              how = Plainly;
              played = bytes ∷ [];
              opens = (L.0, refl);
              out = L.1.p ∷ [];
              stand = L.1.stand;
              plays = plays_more [] (opened_so node names Plainly) (opened_so node names Plainly) L.1.stand [] L.1.standing bytes L.1.p
                  (refl, refl, refl) L.1.plays;
              text_is = refl;
            })
            (subst (λ (t : List ℕ). AppendsPart w0 w1 t) (sym (append-nil (printed_text L.1.p))) L.1.wrote)
        go Plainly (inr same) = unopened same

    module _ (how : Opens) (s : Standing) (p : Stand) (opened : OpenedBy how node names bytes s p w0 w1) where
      -- the node ended behind its first line
      ran_first : (in_order : Bool) (rest w2 : Option (List ℕ)) → LosesLines mid rest [] → Keeps w1 w2 → Ends in_order rest s
          → NodeRan node names input rest old w2 in_order
      ran_first in_order rest w2 none same ends =
          let D = first_done bytes how s p w0 w1 opened in record {
            lines = bytes ∷ [];
            lost = LosesLines-trans input mid rest (bytes ∷ []) [] lost none;
            standing = s;
            text = D.0;
            done = done (bytes ∷ []) s D.0 D.1;
            wrote = Appends-kept old w1 w2 D.0 (kept_first old w0 w1 D.0 kept D.2) same;
            ended = ends;
          }

      -- or stopped there
      stopped_behind : (fault : StreamFault) (rest w2 : Option (List ℕ)) → LosesLines mid rest [] → Keeps w1 w2
          → NodeStopped node names input rest old w2 fault
      stopped_behind fault rest w2 none same =
          let D = first_done bytes how s p w0 w1 opened in record {
            lines = bytes ∷ [];
            part = [];
            read = LosesInto-whole input rest (bytes ∷ []) (LosesLines-trans input mid rest (bytes ∷ []) [] lost none);
            standing = s;
            text = D.0;
            done = done (bytes ∷ []) s D.0 D.1;
            wrote = all_as_part old w2 D.0 (Appends-kept old w1 w2 D.0 (kept_first old w0 w1 D.0 kept D.2) same);
          }

      module _ (runs : s ≡ Runs) where
        opens_on : OpenedBy how node names bytes Runs p w0 w1
        opens_on = subst (λ (x : Standing). OpenedBy how node names bytes x p w0 w1) runs opened

        -- or behind others
        ran_on : (in_order : Bool) (rest w2 : Option (List ℕ)) (t : Standing) (c : Stand) → PlaysOn p mid rest w1 w2 t c → Ends in_order rest t
            → NodeRan node names input rest old w2 in_order
        ran_on in_order rest w2 t c P ends =
            let D = text_behind bytes P.lines t p P.out c P.plays how w0 w1 opens_on in
            let text = D.0 ++ flat_map printed_text P.out in record {
              lines = bytes ∷ P.lines;
              lost = LosesLines-trans input mid rest (bytes ∷ []) P.lines lost P.lost;
              standing = t;
              text = text;
              done = done (bytes ∷ P.lines) t text D.2;
              wrote = Appends-trans old w1 w2 D.0 (flat_map printed_text P.out) (kept_first old w0 w1 D.0 kept D.1) P.wrote;
              ended = ends;
            }

        stopped_on : (fault : StreamFault) (rest w2 : Option (List ℕ)) → StopsOn p mid rest w1 w2
            → NodeStopped node names input rest old w2 fault
        stopped_on fault rest w2 P =
            let D = text_behind bytes P.lines P.standing p P.out P.stand P.plays how w0 w1 opens_on in
            let text = D.0 ++ flat_map printed_text P.out in record {
              lines = bytes ∷ P.lines;
              part = P.part;
              read = LosesInto-behind input mid rest (bytes ∷ []) P.lines P.part lost P.read;
              standing = P.standing;
              text = text;
              done = done (bytes ∷ P.lines) P.standing text D.2;
              wrote = AppendsPart-behind old w1 w2 D.0 (flat_map printed_text P.out) (kept_first old w0 w1 D.0 kept D.1) P.wrote;
            }

    ran : (how : Opens) (s : Standing) (p : Stand) (in_order : Bool) (rest w2 : Option (List ℕ)) (c : Stand)
        → OpenedBy how node names bytes s p w0 w1 → GoesBehind s in_order p mid rest w1 w2 c → NodeRan node names input rest old w2 in_order
    ran how Runs p in_order rest w2 c O G = ran_on how Runs p O refl in_order rest w2 G.0 c G.1 G.2
    ran how HasLeft p in_order rest w2 c O G = ran_first how HasLeft p O in_order rest w2 G.0 G.1 G.3
    ran how Broken p in_order rest w2 c O G = ran_first how Broken p O in_order rest w2 G.0 G.1 G.3
    ran how Spent p in_order rest w2 c O G = ran_first how Spent p O in_order rest w2 G.0 G.1 G.3

    stopped : (how : Opens) (s : Standing) (p : Stand) (fault : StreamFault) (rest w2 : Option (List ℕ))
        → OpenedBy how node names bytes s p w0 w1 → StopsBehind s p mid rest w1 w2 → NodeStopped node names input rest old w2 fault
    stopped how Runs p fault rest w2 O S = stopped_on how Runs p O refl fault rest w2 S
    stopped how HasLeft p fault rest w2 O S = stopped_behind how HasLeft p O fault rest w2 S.0 S.1
    stopped how Broken p fault rest w2 O S = stopped_behind how Broken p O fault rest w2 S.0 S.1
    stopped how Spent p fault rest w2 O S = stopped_behind how Spent p O fault rest w2 S.0 S.1

  -- what comes of the first line and of those behind it is what comes of all
  module _ (bytes : List ℕ) (input mid rest old w0 new : Option (List ℕ)) where
    module _ (lost : LosesLines input mid (bytes ∷ [])) (within : LosesWithinLine input mid) (kept : Keeps old w0) where
      stopped_from : (fault : StreamFault) → StopsFrom node names bytes mid rest w0 new → NodeStopped node names input rest old new fault
      stopped_from fault (inl S) =
          subst (λ (x : Option (List ℕ)). NodeStopped node names input x old new fault) (sym S.0)
          (stopped_open bytes input mid old w0 new lost kept fault within S.1 S.2)
      stopped_from fault (inr S) =
          stopped bytes input mid old w0 S.mid lost kept S.how S.standing S.first fault rest new S.opens S.stops

      pub from_first : (r : Result Bool StreamFault)
          → MatchResult r (RunsFrom node names bytes mid rest w0 new) (λ f. StopsFrom node names bytes mid rest w0 new)
          → MatchResult r (NodeRan node names input rest old new) (NodeStopped node names input rest old new)
      from_first (Ok in_order) R =
          ran bytes input mid old w0 R.mid lost kept R.how R.standing R.first in_order rest new R.last R.opens R.goes
      from_first (Err f) S = stopped_from f S

-- where a run stops, that is what it says
pub node_stops : (node : ℕ) (world : List ℕ) (input rest old new : Option (List ℕ)) (r : Result Bool StreamFault) (fault : StreamFault)
    → r ≡ Err fault → NodeStopped node world input rest old new fault
    → MatchResult r (NodeRan node world input rest old new) (NodeStopped node world input rest old new)
node_stops node world input rest old new r fault e S =
    subst (λ (x : Result Bool StreamFault). MatchResult x (NodeRan node world input rest old new) (NodeStopped node world input rest old new))
    (sym e) S
