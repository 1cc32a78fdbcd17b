-- Lines that are played one after the other.
use Rattle.std.proofs.Common.{ℕ, Bool, true, List, [], ◌∷◌, ◌++◌, ◌≡◌, ◌+◌, Option, refl, sym, ap, subst, ◌∙◌, append-nil, append_assoc, Result, Err, arith}
use Rattle.std.specs.Prelude.{◌&&◌}
use Rattle.std.specs.List.{list_all}
use Rattle.std.proofs.lemmas.List.Folds.{list_all-append}
use Rattle.std.specs.Io.KnownBytes.{Appends, Keeps}
use Rattle.std.proofs.KnownBytes.{Appends-trans, Appends-nil, Appends-kept}
use Rattle.cluster_world.specs.NodeNames.{NamedOpening}
use Rattle.cluster_world.specs.NamedWorld.{NamedWorld}
use Rattle.cluster_world.specs.WorldState.{WorldState}
use Rattle.cluster_world.specs.Seen.{names_of, named}
use Rattle.text_lines.specs.declared.faults.StreamFault.{StreamFault}
use Rattle.text_lines.specs.declared.faults.StreamFault.TheVariants as fault
use Rattle.text_lines.specs.declared.faults.WriteFault.{WriteFault}
use Rattle.text_lines.specs.declared.faults.WriteFault.TheVariants as write
use Rattle.text_lines.specs.Lines.{spoken, count_of_all, LosesLines, LosesInto, MayEndIn}
use Rattle.command_lines.specs.Printing.{shown_text, shown_line, is_fine, Shown}
use Rattle.text_lines.specs.Writing.{AppendsPart, stop_of}
use Rattle.cluster_script.specs.Script.{Outcome, ComesTo, AllComeTo, behind, behind_all, shown, shown_all}
use Rattle.cluster_script.specs.Played.{PlaysLine, PlaysLines, PlaysSome, StopsReading, StopsPlaying, PlaysAll, shown_on}
use Rattle.text_lines.proofs.Written.{AppendsPart-behind, AppendsPart-whole}
use Rattle.text_lines.proofs.Known.{GoesPast-behind, LosesLines-trans, LosesLines-nil, LosesInto-whole, LosesInto-behind, MayEndIn-none, spoken-append, count_of_all-append}

-- two lists that are printed
pub shown_text-append : (xs ys : List Shown) → shown_text (xs ++ ys) ≡ shown_text xs ++ shown_text ys
shown_text-append [] ys = refl
shown_text-append (x ∷ xs) ys =
    ap (λ (t : List ℕ). shown_line x ++ t) (shown_text-append xs ys)
    ∙ sym (append_assoc (shown_line x) (shown_text xs) (shown_text ys))

-- one line more
pub AllComeTo-push : (ls : List (List ℕ)) (outcomes : List Outcome) (l : List ℕ) (x : Outcome)
    → AllComeTo ls outcomes → ComesTo l x → AllComeTo (ls ++ l ∷ []) (outcomes ++ x ∷ [])
AllComeTo-push [] [] l x h k = (k, tt)
AllComeTo-push [] (y ∷ ys) l x h k = absurd h
AllComeTo-push (m ∷ ms) [] l x h k = absurd h
AllComeTo-push (m ∷ ms) (y ∷ ys) l x h k = (h.0, AllComeTo-push ms ys l x h.1 k)

module _ (o : NamedOpening) where
  pub behind_all-push : (w : NamedWorld) (outcomes : List Outcome) (x : Outcome)
      → behind_all o w (outcomes ++ x ∷ []) ≡ behind o (behind_all o w outcomes) x
  behind_all-push w [] x = refl
  behind_all-push w (y ∷ outcomes) x = behind_all-push (behind o w y) outcomes x

  pub shown_all-push : (w : NamedWorld) (outcomes : List Outcome) (x : Outcome)
      → shown_all o w (outcomes ++ x ∷ []) ≡ shown_all o w outcomes ++ shown o (behind_all o w outcomes) x
  shown_all-push w [] x = append-nil (shown o w x)
  shown_all-push w (y ∷ outcomes) x =
      ap (λ (t : List Shown). shown o w y ++ t) (shown_all-push (behind o w y) outcomes x)
      ∙ sym (append_assoc (shown o w y) (shown_all o (behind o w y) outcomes)
      (shown o (behind_all o (behind o w y) outcomes) x))

-- no line was played yet
pub PlaysLines-start : (input : Option (List ℕ)) (most : ℕ) (old : WorldState) (a : Option (List ℕ))
    → PlaysLines [] input input most most old old a a true
PlaysLines-start input most old a = record {
  taken = [];
  outcomes = [];
  read = LosesLines-nil input;
  counted = omega arith;
  each = tt;
  opening = refl;
  world = refl;
  wrote = Appends-nil a;
  fine_is = refl;
}

module _ (input mid : Option (List ℕ)) (most l1 : ℕ) (old h1 : WorldState) (a b : Option (List ℕ)) (fine : Bool)
    (P : PlaysLines [] input mid most l1 old h1 a b fine) where
  -- what one more line prints
  pub text-push : (outcome : Outcome)
      → shown_text (shown_all (names_of old) (named old) (P.outcomes ++ outcome ∷ []))
      ≡ shown_text (shown_all (names_of old) (named old) P.outcomes) ++ shown_on h1 outcome
  text-push outcome =
      ap shown_text (shown_all-push (names_of old) (named old) P.outcomes outcome)
      ∙ shown_text-append (shown_all (names_of old) (named old) P.outcomes)
      (shown (names_of old) (behind_all (names_of old) (named old) P.outcomes) outcome)
      ∙ ap (λ (w : NamedWorld). shown_text (shown_all (names_of old) (named old) P.outcomes)
      ++ shown_text (shown (names_of old) w outcome)) (sym P.world)
      ∙ ap (λ (o : NamedOpening). shown_text (shown_all (names_of old) (named old) P.outcomes)
      ++ shown_text (shown o (named h1) outcome)) (sym P.opening)

  -- what was played so far, where a fault comes behind empty lines
  module _ (rest : Option (List ℕ)) (ls : List (List ℕ)) (part : List ℕ) (s : spoken ls ≡ []) (t : LosesInto mid rest
      ls part) where
    pub each-blank : AllComeTo (spoken (P.taken ++ ls)) P.outcomes
    each-blank = subst (λ (xs : List (List ℕ)). AllComeTo xs P.outcomes)
        (sym (spoken-append P.taken ls ∙ ap (λ (xs : List (List ℕ)). spoken P.taken ++ xs) s ∙ append-nil (spoken
        P.taken))) P.each

    abbrev pub PlaysSome-so_far : PlaysSome Appends [] input rest old a b
    PlaysSome-so_far = record {
      taken = P.taken ++ ls;
      part = part;
      outcomes = P.outcomes;
      read = LosesInto-behind input mid rest P.taken ls part P.read t;
      each = each-blank;
      wrote = P.wrote;
    }

    abbrev pub PlaysSome-part : PlaysSome AppendsPart [] input rest old a b
    PlaysSome-part = record {
      taken = P.taken ++ ls;
      part = part;
      outcomes = P.outcomes;
      read = LosesInto-behind input mid rest P.taken ls part P.read t;
      each = each-blank;
      wrote = subst (λ (t : List ℕ). AppendsPart a b t) (append-nil _) (AppendsPart-whole a b _ [] P.wrote);
    }

  -- the next line isn't read
  pub StopsPlaying-reading : (rest : Option (List ℕ)) (f : StreamFault) → StopsReading mid rest l1 f
      → StopsPlaying [] input rest most old a b f
  StopsPlaying-reading rest fault.TooManyLines g =
      (PlaysSome-so_far rest g.0 g.1 g.2 g.3, g.4, GoesPast-behind input mid P.taken g.0 most l1 P.read P.counted g.5)
  StopsPlaying-reading rest fault.Read g = (PlaysSome-so_far rest g.0 g.1 g.2 g.3, g.4)
  StopsPlaying-reading rest fault.Write g = (PlaysSome-part rest g.0 g.1 g.2 g.3, g.4)
  StopsPlaying-reading rest fault.Memory g = (PlaysSome-part rest g.0 g.1 g.2 g.3, g.4)

  module _ (rest : Option (List ℕ)) (ls : List (List ℕ)) (line : List ℕ) (outcome : Outcome)
      (s : spoken ls ≡ line ∷ []) (t : LosesLines mid rest ls)
      (q : ComesTo line outcome) where
    pub each-push : AllComeTo (spoken (P.taken ++ ls)) (P.outcomes ++ outcome ∷ [])
    each-push = subst (λ (xs : List (List ℕ)). AllComeTo xs (P.outcomes ++ outcome ∷ []))
        (sym (spoken-append P.taken ls ∙ ap (λ (xs : List (List ℕ)). spoken P.taken ++ xs) s))
        (AllComeTo-push (spoken P.taken) P.outcomes line outcome P.each q)

    -- a fault comes while a line is played
    abbrev pub PlaysSome-next : (c : Option (List ℕ)) → AppendsPart b c (shown_on h1 outcome)
        → PlaysSome AppendsPart [] input rest old a c
    PlaysSome-next c p = record {
      taken = P.taken ++ ls;
      part = [];
      outcomes = P.outcomes ++ outcome ∷ [];
      read = LosesInto-whole input rest (P.taken ++ ls) (LosesLines-trans input mid rest P.taken ls P.read t);
      each = each-push;
      wrote = subst (λ (x : List ℕ). AppendsPart a c x) (sym (text-push outcome))
          (AppendsPart-behind a b c _ (shown_on h1 outcome) P.wrote p);
    }

    -- a line is played
    pub PlaysLines-next : (l2 : ℕ) (h2 : WorldState) (c : Option (List ℕ)) (fine2 : Bool) → l1 ≡ l2 + count_of_all ls
        → PlaysLine h1 h2 outcome b c fine2
        → PlaysLines [] input rest most l2 old h2 a c (fine && fine2)
    PlaysLines-next l2 h2 c fine2 e p = record {
      taken = P.taken ++ ls;
      outcomes = P.outcomes ++ outcome ∷ [];
      read = LosesLines-trans input mid rest P.taken ls P.read t;
      counted = omega (arith, P.counted, e, count_of_all-append P.taken ls);
      each = each-push;
      opening = p.opening ∙ P.opening;
      world = p.world ∙ ap (λ (o : NamedOpening). behind o (named h1) outcome) P.opening
          ∙ ap (λ (w : NamedWorld). behind (names_of old) w outcome) P.world
          ∙ sym (behind_all-push (names_of old) (named old) P.outcomes outcome);
      wrote = subst (λ (x : List ℕ). Appends a c x) (sym (text-push outcome))
          (Appends-trans a b c _ (shown_on h1 outcome) P.wrote p.wrote);
      fine_is = ap (λ (x : Bool). x && fine2) P.fine_is
          ∙ ap (λ (x : Bool). list_all is_fine (shown_all (names_of old) (named old) P.outcomes) && x)
          (p.fine_is ∙ ap (λ (o : NamedOpening). list_all is_fine (shown o (named h1) outcome)) P.opening
          ∙ ap (λ (w : NamedWorld). list_all is_fine (shown (names_of old) w outcome)) P.world)
          ∙ sym (list_all-append is_fine (shown_all (names_of old) (named old) P.outcomes)
          (shown (names_of old) (behind_all (names_of old) (named old) P.outcomes) outcome))
          ∙ ap (λ (xs : List Shown). list_all is_fine xs)
          (sym (shown_all-push (names_of old) (named old) P.outcomes outcome));
    }

-- what the exit of a `?` says of lines
pub PlaysAll-err : (first : List Outcome) (input rest : Option (List ℕ)) (most left : ℕ) (old new
    : WorldState) (a b : Option (List ℕ)) (r : Result Bool StreamFault) (y : StreamFault)
    → r ≡ Err y → StopsPlaying first input rest most old a b y → PlaysAll first input rest most left old new a b r
PlaysAll-err first input rest most left old new a b r y e p = rw e p

-- what was written stays
pub PlaysLines-kept : (input rest : Option (List ℕ)) (most left : ℕ) (old new : WorldState) (a b c : Option (List ℕ)) (fine
    : Bool) → PlaysLines [] input rest most left old new a b fine → Keeps b c
    → PlaysLines [] input rest most left old new a c fine
PlaysLines-kept input rest most left old new a b c fine p k = record {
  taken = p.taken;
  outcomes = p.outcomes;
  read = p.read;
  counted = p.counted;
  each = p.each;
  opening = p.opening;
  world = p.world;
  wrote = Appends-kept a b c (shown_text (shown_all (names_of old) (named old) p.outcomes)) p.wrote k;
  fine_is = p.fine_is;
}

-- empty lines are read
pub PlaysLines-blank : (input mid rest : Option (List ℕ)) (most l1 l2 : ℕ) (old h1 : WorldState) (a b : Option (List ℕ))
    (fine : Bool) (P : PlaysLines [] input mid most l1 old h1 a b fine)
    (ls : List (List ℕ)) → spoken ls ≡ [] → LosesLines mid rest ls → l1 ≡ l2 + count_of_all ls
    → PlaysLines [] input rest most l2 old h1 a b fine
PlaysLines-blank input mid rest most l1 l2 old h1 a b fine P ls s t e = record {
  taken = P.taken ++ ls;
  outcomes = P.outcomes;
  read = LosesLines-trans input mid rest P.taken ls P.read t;
  counted = omega (arith, P.counted, e, count_of_all-append P.taken ls);
  each = each-blank input mid most l1 old h1 a b fine P rest ls [] s (LosesInto-whole mid rest ls t);
  opening = P.opening;
  world = P.world;
  wrote = P.wrote;
  fine_is = P.fine_is;
}

-- a text wasn't written, or memory was refused
pub StopsPlaying-writing : (first : List Outcome) (input rest : Option (List ℕ)) (most : ℕ) (old :
    WorldState) (a b : Option (List ℕ)) (f : WriteFault) (y : StreamFault) → y ≡ stop_of f
    → (p : PlaysSome AppendsPart first input rest old a b) → p.part ≡ [] → StopsPlaying first input rest most old a b y
StopsPlaying-writing first input rest most old a b write.Writer y e p n =
    subst (λ (g : StreamFault). StopsPlaying first input rest most old a b g) (sym e) (
      p,
      subst (λ (xs : List ℕ). MayEndIn
          fault.Write xs) (sym n) (MayEndIn-none fault.Write),
    )
StopsPlaying-writing first input rest most old a b write.Memory y e p n =
    subst (λ (g : StreamFault). StopsPlaying first input rest most old a b g) (sym e) (
      p,
      subst (λ (xs : List ℕ). MayEndIn
          fault.Memory xs) (sym n) (MayEndIn-none fault.Memory),
    )

-- a fault comes while the line is played that was read already
abbrev pub PlaysSome-first : (input : Option (List ℕ)) (old : WorldState) (outcome : Outcome)
    (a b : Option (List ℕ)) → AppendsPart a b (shown_on old outcome)
    → PlaysSome AppendsPart (outcome ∷ []) input input old a b
PlaysSome-first input old outcome a b p = record {
  taken = [];
  part = [];
  outcomes = [];
  read = LosesInto-whole input input [] (LosesLines-nil input);
  each = tt;
  wrote = subst (λ (t : List ℕ). AppendsPart a b t)
      (ap shown_text (sym (append-nil (shown (names_of old) (named old) outcome)))) p;
}

-- the line that was read already is played, and others behind it
module _ (input rest : Option (List ℕ)) (old mid : WorldState) (outcome : Outcome) (a b c : Option (List ℕ))
    (fine : Bool) (L : PlaysLine old mid outcome a b fine) where
  -- what they print
  text-behind : (others : List Outcome)
      → shown_on old outcome ++ shown_text (shown_all (names_of mid) (named mid) others)
      ≡ shown_text (shown_all (names_of old) (named old) (outcome ∷ others))
  text-behind others =
      ap (λ (o : NamedOpening). shown_on old outcome ++ shown_text (shown_all o (named mid) others)) L.opening
      ∙ ap (λ (w : NamedWorld). shown_on old outcome ++ shown_text (shown_all (names_of old) w others)) L.world
      ∙ sym (shown_text-append (shown (names_of old) (named old) outcome)
      (shown_all (names_of old) (behind (names_of old) (named old) outcome) others))

  -- all is written that they print
  abbrev PlaysSome-all : PlaysSome Appends [] input rest mid b c → PlaysSome Appends (outcome ∷ []) input rest old a c
  PlaysSome-all p = record {
    taken = p.taken;
    part = p.part;
    outcomes = p.outcomes;
    read = p.read;
    each = p.each;
    wrote = subst (λ (t : List ℕ). Appends a c t) (text-behind p.outcomes)
        (Appends-trans a b c (shown_on old outcome) (shown_text (shown_all (names_of mid) (named mid) p.outcomes))
        L.wrote p.wrote);
  }

  -- a part is written
  abbrev PlaysSome-less : PlaysSome AppendsPart [] input rest mid b c
      → PlaysSome AppendsPart (outcome ∷ []) input rest old a c
  PlaysSome-less p = record {
    taken = p.taken;
    part = p.part;
    outcomes = p.outcomes;
    read = p.read;
    each = p.each;
    wrote = subst (λ (t : List ℕ). AppendsPart a c t) (text-behind p.outcomes)
        (AppendsPart-behind a b c (shown_on old outcome)
        (shown_text (shown_all (names_of mid) (named mid) p.outcomes)) L.wrote p.wrote);
  }

  -- the others end with a fault
  pub StopsPlaying-behind : (most : ℕ) (f : StreamFault) → StopsPlaying [] input rest most mid b c f
      → StopsPlaying (outcome ∷ []) input rest most old a c f
  StopsPlaying-behind most fault.TooManyLines p = (PlaysSome-all p.0, p.1, p.2)
  StopsPlaying-behind most fault.Read p = (PlaysSome-all p.0, p.1)
  StopsPlaying-behind most fault.Write p = (PlaysSome-less p.0, p.1)
  StopsPlaying-behind most fault.Memory p = (PlaysSome-less p.0, p.1)

  -- the others are played
  pub PlaysLines-behind : (most left : ℕ) (new : WorldState) (fine2 : Bool)
      → PlaysLines [] input rest most left mid new b c fine2
      → PlaysLines (outcome ∷ []) input rest most left old new a c (fine && fine2)
  PlaysLines-behind most left new fine2 p = record {
    taken = p.taken;
    outcomes = p.outcomes;
    read = p.read;
    counted = p.counted;
    each = p.each;
    opening = p.opening ∙ L.opening;
    world = p.world ∙ ap (λ (o : NamedOpening). behind_all o (named mid) p.outcomes) L.opening
        ∙ ap (λ (w : NamedWorld). behind_all (names_of old) w p.outcomes) L.world;
    wrote = subst (λ (t : List ℕ). Appends a c t) (text-behind p.outcomes)
        (Appends-trans a b c (shown_on old outcome) (shown_text (shown_all (names_of mid) (named mid) p.outcomes))
        L.wrote p.wrote);
    fine_is = ap (λ (x : Bool). x && fine2) L.fine_is
        ∙ ap (λ (x : Bool). list_all is_fine (shown (names_of old) (named old) outcome) && x)
        (p.fine_is ∙ ap (λ (o : NamedOpening). list_all is_fine (shown_all o (named mid) p.outcomes)) L.opening
        ∙ ap (λ (w : NamedWorld). list_all is_fine (shown_all (names_of old) w p.outcomes)) L.world)
        ∙ sym (list_all-append is_fine (shown (names_of old) (named old) outcome)
        (shown_all (names_of old) (behind (names_of old) (named old) outcome) p.outcomes));
  }
