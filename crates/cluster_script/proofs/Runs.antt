-- Whole scripts.
use Rattle.std.proofs.Common.{ℕ, Bool, true, false, List, [], ◌∷◌, ◌++◌, ◌≡◌, ◌+◌, Option, Some, None, refl, sym, ap, subst, ◌∙◌, append-nil, Result, Ok, Err, ◌≤◌, inl, inr, arith}
use Rattle.std.specs.Prelude.{MatchResult, is_some, if◌then◌else◌, ◌⊎◌}
use Rattle.std.specs.Str.Lines.{lines}
use Rattle.std.specs.Io.KnownBytes.{Appends, Keeps}
use Rattle.term.specs.declared.limits.TheConstants.{MOST_LINES}
use Rattle.cluster_world.specs.NodeNames.{NamedOpening}
use Rattle.cluster_world.specs.NamedWorld.{NamedWorld}
use Rattle.protocol_model.specs.NamedEvents.{Settle}
use Rattle.command_lines.specs.Grammar.{ScriptLine, Scripted, Finish}
use Rattle.cluster_world.specs.WorldState.{WorldState}
use Rattle.cluster_world.specs.Seen.{names_of, named}
use Rattle.command_lines.specs.declared.faults.LineFault.{LineFault}
use Rattle.command_lines.specs.declared.faults.LineFault.TheVariants.{Memory}
use Rattle.command_lines.specs.Commands.{LineAsks}
use Rattle.text_lines.specs.declared.faults.StreamFault.{StreamFault}
use Rattle.text_lines.specs.declared.faults.StreamFault.TheVariants as fault
use Rattle.text_lines.specs.declared.faults.WriteFault.{WriteFault}
use Rattle.text_lines.specs.declared.faults.WriteFault.TheVariants as write
use Rattle.text_lines.specs.Lines.{spoken, LosesLines, LosesInto, count_of_all, HasNoLine, GoesPast, MayEndIn}
use Rattle.command_lines.specs.Printing.{Shown, Refuses, error_line, word_of}
use Rattle.text_lines.specs.Lines.{HasLines}
use Rattle.text_lines.specs.Writing.{AppendsPart, stop_of}
use Rattle.cluster_script.proofs.Agreeing.{lines_agree, lines_leave_nothing}
use Rattle.cluster_script.specs.Script.{Outcome, Plays, Fails, Breaks, Finishes, ComesTo, AllComeTo, shown_all, Prints, PrintsOn, PrintsSpoken, OpensNone, EndsRefused, Ran, Stopped, StoppedBetween, StoppedWithin, LineOpens, lone_line, played, opening_for}
use Rattle.cluster_script.specs.Headers.{AllReadAs, OpensHeaders, OpensLone, StopsOpening, asked_first}
use Rattle.cluster_script.specs.declared.header.Headers.TheVariants.{Open, Ended}
use Rattle.command_lines.specs.declared.grammar.LineCommand.{LineCommand}
use Rattle.cluster_script.specs.Played.{ComesOf, AllComeOf, StopsPlaying, PlaysSome, PlaysAll}
use Rattle.std.proofs.KnownBytes.{Appends-nil, Appends-trans, Appends-kept}
use Rattle.text_lines.proofs.Known.{GoesPast-behind, LosesInto-whole, LosesInto-behind, LosesLines-trans, LosesLines-all, MayEndIn-none, spoken-append, count_of_all-append}

-- the lines of known bytes
abbrev left_in : Option (List ℕ) → List (List ℕ)
left_in None = []
left_in (Some ys) = lines ys

-- some lines, and those that are left
pub LosesLines-left : (a b : Option (List ℕ)) (ls : List (List ℕ)) → LosesLines a b ls → HasLines a (ls ++ left_in b)
LosesLines-left None b ls h = tt
LosesLines-left (Some xs) None ls h = absurd h
LosesLines-left (Some xs) (Some ys) ls h = h

-- a text behind what was kept
pub Appends-behind : (a x b : Option (List ℕ)) (text : List ℕ) → Keeps a x → Appends x b text → Appends a b text
Appends-behind a x b text k h = Appends-trans a x b [] text (Appends-kept a a x [] (Appends-nil a) k) h

-- and a part of one
pub AppendsPart-kept : (a x b : Option (List ℕ)) (text : List ℕ) → Keeps a x → AppendsPart x b text
    → AppendsPart a b text
AppendsPart-kept a x b text k p = (p.0, p.1, p.2, Appends-behind a x b p.0 k p.3)

-- no line is left
left_none : (rest : Option (List ℕ)) → HasNoLine rest → left_in rest ≡ []
left_none None n = refl
left_none (Some ys) n = n

-- a fault before anything was written
module _ (input rest a b : Option (List ℕ)) (kept : Keeps a b) (ls : List (List ℕ)) (part : List ℕ)
    (s : PrintsOn (spoken ls) []) (t : LosesInto input rest ls part) where
  abbrev between : StoppedBetween input rest a b
  between = record {
    first = ls;
    part = part;
    out = [];
    read = t;
    prints = s;
    wrote = Appends-kept
        a a b [] (Appends-nil a) kept;
  }

  abbrev within : StoppedWithin input rest a b
  within = record {
    first = ls;
    part = part;
    out = [];
    read = t;
    prints = inl s;
    wrote = ([], [], refl, Appends-kept a a b [] (Appends-nil a) kept);
  }

-- no world is opened
pub Stopped-opening : (input rest a b : Option (List ℕ)) → Keeps a b → (f : StreamFault)
    → StopsOpening input rest MOST_LINES f → Stopped input rest a b f
Stopped-opening input rest a b k fault.TooManyLines g = (between input rest a b k g.0 g.1 g.2 g.3, g.4, g.5)
Stopped-opening input rest a b k fault.Read g = (between input rest a b k g.0 g.1 g.2 g.3, g.4)
Stopped-opening input rest a b k fault.Write g = (within input rest a b k g.0 g.1 g.2 g.3, g.4)
Stopped-opening input rest a b k fault.Memory g = (within input rest a b k g.0 g.1 g.2 g.3, g.4)

-- a text wasn't written
pub Stopped-writing : (input rest a b : Option (List ℕ)) (f : WriteFault) (y : StreamFault) → y ≡ stop_of f
    → (s : StoppedWithin input rest a b) → s.part ≡ [] → Stopped input rest a b y
Stopped-writing input rest a b write.Writer y e s n =
    subst (λ (g : StreamFault). Stopped input rest a b g) (sym e) (
      s,
      subst (λ (xs : List ℕ). MayEndIn fault.Write
          xs) (sym n) (MayEndIn-none fault.Write),
    )
Stopped-writing input rest a b write.Memory y e s n =
    subst (λ (g : StreamFault). Stopped input rest a b g) (sym e) (
      s,
      subst (λ (xs : List ℕ). MayEndIn fault.Memory
          xs) (sym n) (MayEndIn-none fault.Memory),
    )

-- a header that is missing or refused is all that is printed, whatever stands behind it
refused_prints : (ls more : List (List ℕ)) (rest : Option (List ℕ)) (f : LineFault) → OpensNone ls rest f
    → (HasNoLine rest → more ≡ []) → PrintsSpoken (ls ++ more) (Refuses f ∷ [])
refused_prints [] more rest f o n =
    subst (λ (xs : List (List ℕ)). PrintsSpoken xs (Refuses f ∷ [])) (sym (n o.0))
    (ap (λ (g : LineFault). Refuses g ∷ []) o.1)
refused_prints (l ∷ []) more rest f o n = (Err f, (Err f, o, refl), refl)
refused_prints (l ∷ m ∷ []) more rest f o n = (Err f, (Ok o.0, o.1, (Err f, o.2, refl)), refl)
refused_prints (l ∷ m ∷ k ∷ ls) more rest f o n = absurd o

-- nothing is left behind it, or it is the last that was read
refused_ends : (ls : List (List ℕ)) (rest : Option (List ℕ)) (f : LineFault) → OpensNone ls rest f
    → (left_in rest ≡ []) ⊎ ((g : LineFault) × EndsRefused ls g)
refused_ends [] rest f o = inl (left_none rest o.0)
refused_ends (l ∷ ls) rest f o = inr (f, o)

-- what comes of a line by what it was read as
pub ComesTo-read : (line : List ℕ) (asked : Result ScriptLine LineFault) (x : Outcome)
    → LineAsks line asked ⊎ (asked ≡ Err Memory) → ComesOf asked x → ComesTo line x
ComesTo-read line asked (Plays l) h k = elim h [
  | inl a ↦ subst (λ (r : Result ScriptLine LineFault). LineAsks line r) k a
  | inr m ↦ absurd (ok_err (sym k ∙ m))
]
  where
    ok_err : ◌≡◌ {A = Result ScriptLine LineFault} (Ok (Scripted l)) (Err Memory) → ⊥
    ok_err z = cc
ComesTo-read line asked (Fails f) h k = elim k [
  | inl q ↦
      elim h [
        | inl a ↦ inl (subst (λ (r : Result ScriptLine LineFault). LineAsks line r) q a)
        | inr m ↦ inr (same (sym q ∙ m))
      ]
  | inr m ↦ inr m
]
  where
    same : ◌≡◌ {A = Result ScriptLine LineFault} (Err f) (Err Memory) → f ≡ Memory
    same z = cc
ComesTo-read line asked (Breaks made) h k = elim h [
  | inl a ↦ (subst (λ (r : Result ScriptLine LineFault). LineAsks line r) k.0 a, k.1)
  | inr m ↦ absurd (ok_err (sym k.0 ∙ m))
]
  where
    ok_err : ◌≡◌ {A = Result ScriptLine LineFault} (Ok (Scripted Settle)) (Err Memory) → ⊥
    ok_err z = cc
ComesTo-read line asked (Finishes made) h k = elim h [
  | inl a ↦ subst (λ (r : Result ScriptLine LineFault). LineAsks line r) k a
  | inr m ↦ absurd (ok_err (sym k ∙ m))
]
  where
    ok_err : ◌≡◌ {A = Result ScriptLine LineFault} (Ok Finish) (Err Memory) → ⊥
    ok_err z = cc

-- a line that was read already is the first that is played, or was a `lone` line
AllComeTo-played : (m : List ℕ) (ls : List (List ℕ)) (asked : List (Result ScriptLine LineFault))
    (first outcomes : List Outcome)
    → AllReadAs (played (m ∷ [])) asked → AllComeOf asked first → AllComeTo ls outcomes
    → AllComeTo (played (m ∷ ls)) (first ++ outcomes)
AllComeTo-played m ls asked first outcomes h c k = go (is_some (lone_line m)) asked first h c
  where
    go : (b : Bool) (asked : List (Result ScriptLine LineFault)) (first : List Outcome)
        → AllReadAs (if b then [] else m ∷ []) asked → AllComeOf asked first
        → AllComeTo (if b then ls else m ∷ ls) (first ++ outcomes)
    go true [] [] h c = k
    go true [] (x ∷ xs) h c = absurd c
    go true (a ∷ others) first h c = absurd h
    go false [] first h c = absurd h
    go false (a ∷ []) [] h c = absurd c
    go false (a ∷ []) (x ∷ []) h c = (ComesTo-read m a x h.0 c.0, k)
    go false (a ∷ []) (x ∷ y ∷ xs) h c = absurd c.1
    go false (a ∷ b ∷ others) first h c = absurd h.1

module _ (input rest : Option (List ℕ)) (most left : ℕ) (bound : most ≤ MOST_LINES) (a b : Option (List ℕ))
    (ls : List (List ℕ)) (l : LosesLines input rest ls) (e : most ≡ left + count_of_all ls) where
  -- there are headers alone
  pub Ran-ended : OpensHeaders (spoken ls) rest Ended → Keeps a b → Ran input rest a b true
  Ran-ended o k = record {
    all = ls;
    out = [];
    read = LosesLines-all input rest ls l o.0;
    prints = o.1;
    taken = ls;
    untaken = [];
    parts = sym (append-nil ls);
    lost = l;
    counted = omega (arith, e);
    ended = inl refl;
    wrote = Appends-kept a a b [] (Appends-nil a) k;
    fine_is = refl;
  }

  -- a header is missing or refused
  module _ (f : LineFault) (o : OpensNone (spoken ls) rest f) where
    pub Ran-refused : Appends a b (error_line (word_of f)) → Ran input rest a b false
    Ran-refused w = record {
      all = ls ++ left_in rest;
      out = Refuses f ∷ [];
      read = LosesLines-left input rest ls l;
      prints = subst (λ (xs : List (List ℕ)). PrintsSpoken xs (Refuses f ∷ [])) (sym (spoken-append ls (left_in rest)))
          (refused_prints (spoken ls) (spoken (left_in rest)) rest f o (λ n. ap spoken (left_none rest n)));
      taken = ls;
      untaken = left_in rest;
      parts = refl;
      lost = l;
      counted = omega (arith, e);
      ended = refused_ends (spoken ls) rest f o;
      wrote = subst (λ (t : List ℕ). Appends a b t) (sym (append-nil (error_line (word_of f)))) w;
      fine_is = refl;
    }

    abbrev pub Stopped-refused : AppendsPart a b (error_line (word_of f)) → StoppedWithin input rest a b
    Stopped-refused w = record {
      first = ls;
      part = [];
      out = Refuses f ∷ [];
      read = LosesInto-whole input rest ls l;
      prints = inr (f, o, refl, refl);
      wrote = subst (λ (t : List ℕ). AppendsPart a b t) (sym (append-nil (error_line (word_of f)))) w;
    }

  -- the headers open a world, on which the other lines are played
  module _ (line m cluster : List ℕ) (s : spoken ls ≡ line ∷ m ∷ []) (o : LineOpens line (Ok cluster)) (world : WorldState)
      (command : Option (Result LineCommand LineFault)) (q : OpensLone cluster m (Open world command)) (first : List Outcome)
      (came : AllComeOf (asked_first command) first) where
    -- what the lines print
    abbrev text : List Outcome → List Shown
    text outcomes = shown_all (names_of world) (named world) (first ++ outcomes)

    played-on : (ms : List (List ℕ)) (outcomes : List Outcome) → AllComeTo (spoken ms) outcomes
        → PrintsOn (line ∷ m ∷ spoken ms) (text outcomes)
    played-on ms outcomes h = (
      opening_for cluster q.0,
      (Ok cluster, o, (Ok q.0, q.1, refl)),
      (
        first ++ outcomes,
        AllComeTo-played m (spoken ms) (asked_first command) first outcomes q.3 came h,
        ap (λ (p : NamedOpening). shown_all p (named world) (first ++ outcomes)) q.2.0
            ∙ ap (λ (w : NamedWorld). shown_all (opening_for cluster q.0) w (first ++ outcomes)) q.2.1,
        lines_agree (opening_for cluster q.0) (first ++ outcomes),
        lines_leave_nothing (opening_for cluster q.0) (first ++ outcomes),
      ),
    )

    these : (ms : List (List ℕ)) → spoken (ls ++ ms) ≡ line ∷ m ∷ spoken ms
    these ms = spoken-append ls ms ∙ ap (λ (xs : List (List ℕ)). xs ++ spoken ms) s

    prints-all : (ms : List (List ℕ)) (outcomes : List Outcome) → AllComeTo (spoken ms) outcomes
        → Prints (ls ++ ms) (text outcomes)
    prints-all ms outcomes h =
        let p = played-on ms outcomes h in
        subst (λ (xs : List (List ℕ)). PrintsSpoken xs (text outcomes)) (sym (these ms)) (Ok p.0, p.1, p.2)

    -- the lines so far
    prints-first : (ms : List (List ℕ)) (outcomes : List Outcome) → AllComeTo (spoken ms) outcomes
        → PrintsOn (spoken (ls ++ ms)) (text outcomes)
    prints-first ms outcomes h =
        subst (λ (xs : List (List ℕ)). PrintsOn xs (text outcomes)) (sym (these ms)) (played-on ms outcomes h)

    module _ (last x : Option (List ℕ)) (kept : Keeps a x) where
      -- some lines were played, and all is written that they print
      abbrev StoppedBetween-played : PlaysSome Appends first rest last world x b
          → StoppedBetween input last a b
      StoppedBetween-played p = record {
        first = ls ++ p.taken;
        part = p.part;
        out = text p.outcomes;
        read = LosesInto-behind input rest last ls p.taken p.part l p.read;
        prints = prints-first p.taken p.outcomes p.each;
        wrote = Appends-behind a x b _ kept p.wrote;
      }

      -- a part is written of what they print
      abbrev StoppedWithin-played : PlaysSome AppendsPart first rest last world x b
          → StoppedWithin input last a b
      StoppedWithin-played p = record {
        first = ls ++ p.taken;
        part = p.part;
        out = text p.outcomes;
        read = LosesInto-behind input rest last ls p.taken p.part l p.read;
        prints = inl (prints-first p.taken p.outcomes p.each);
        wrote = (p.wrote.0, p.wrote.1, p.wrote.2, Appends-behind a x b p.wrote.0 kept p.wrote.3);
      }

      Stopped-played : (f : StreamFault) → StopsPlaying first rest last left world x b f → most ≡ MOST_LINES
          → Stopped input last a b f
      Stopped-played fault.TooManyLines p n =
          let past : GoesPast input most (ls ++ p.0.taken) = GoesPast-behind input rest ls p.0.taken most left l e
          p.2 in
          (StoppedBetween-played p.0, p.1, subst (λ (k : ℕ). GoesPast input k (ls ++ p.0.taken)) n past)
      Stopped-played fault.Read p n = (StoppedBetween-played p.0, p.1)
      Stopped-played fault.Write p n = (StoppedWithin-played p.0, p.1)
      Stopped-played fault.Memory p n = (StoppedWithin-played p.0, p.1)

      pub Ran-played : (new : WorldState) (left2 : ℕ) (r : Result Bool StreamFault) → most ≡ MOST_LINES
          → PlaysAll first rest last left left2 world new x b r
          → MatchResult r (Ran input last a b) (Stopped input last a b)
      Ran-played new left2 (Ok fine) n p = record {
        all = ls ++ p.0.taken;
        out = text p.0.outcomes;
        read = LosesLines-all input last (ls ++ p.0.taken) (LosesLines-trans input rest last ls p.0.taken l
            p.0.read) p.1;
        prints = prints-all p.0.taken p.0.outcomes p.0.each;
        taken = ls ++ p.0.taken;
        untaken = [];
        parts = sym (append-nil (ls ++ p.0.taken));
        lost = LosesLines-trans input rest last ls p.0.taken l p.0.read;
        counted = omega (arith, e, p.0.counted, count_of_all-append ls p.0.taken);
        ended = inl refl;
        wrote = Appends-behind a x b _ kept p.0.wrote;
        fine_is = p.0.fine_is;
      }
      Ran-played new left2 (Err f) n p = Stopped-played f p n

-- headers that open a world are a `cluster` line and the line behind it
pub opened_by : (ls : List (List ℕ)) (rest : Option (List ℕ)) (world : WorldState) (command : Option (Result LineCommand LineFault))
    → OpensHeaders ls rest (Open world command)
    → (line : List ℕ) × (m : List ℕ) × (cluster : List ℕ) × (ls ≡ line ∷ m ∷ []) × LineOpens line (Ok cluster)
    × OpensLone cluster m (Open world command)
opened_by [] rest world command o = absurd o
opened_by (l ∷ []) rest world command o = absurd o
opened_by (l ∷ m ∷ []) rest world command o = (l, m, o.0, refl, o.1, o.2)
opened_by (l ∷ m ∷ k ∷ ls) rest world command o = absurd o

-- what the exit of a `?` says of a script
pub Stopped-err : (input rest a b : Option (List ℕ)) (r : Result Bool StreamFault) (y : StreamFault) → r ≡ Err y
    → Stopped input rest a b y
    → MatchResult r (Ran input rest a b) (Stopped input rest a b)
Stopped-err input rest a b r y e p = rw e p
