-- Lines that are played, one behind the other, and what is printed for them.
use Rattle.std.proofs.Common.{ℕ, Bool, true, false, ◌≡◌, inl, inr, Ok, Err, Some, None, List, [], ◌∷◌, ◌++◌, map, Option, refl, sym, ap, subst, ◌∙◌, append-nil, string_bytes}
use Rattle.std.specs.Prelude.{flat_map, ◌⊎◌, Result, MatchResult, IfOk}
use Rattle.std.specs.Io.KnownBytes.{Appends, Keeps}
use Rattle.std.proofs.KnownBytes.{Appends-nil, Appends-trans, Appends-kept}
use Rattle.std.proofs.lemmas.Grind.{flat_map-append}
use Rattle.text_lines.specs.Lines.{LosesLines, LosesWithinLine, TakesLine, StopsAtLine}
use Rattle.text_lines.specs.Writing.{AppendsPart}
use Rattle.text_lines.specs.declared.faults.StreamFault.{StreamFault}
use Rattle.text_lines.specs.declared.lines.Line.{Line}
use Rattle.text_lines.proofs.Known.{LosesLines-nil, LosesLines-trans, LosesInto-whole}
use Rattle.text_lines.proofs.Written.{AppendsPart-behind, AppendsPart-whole}
use Rattle.node_port.specs.Asking.{Reader, reader_of}
use Rattle.node_port.specs.Commands.{Taken, Follows, Refused, Strange, Misplaced, Unfit, Astray, Untold, IsTaken, Says, TakenAs}
use Rattle.node_port.specs.Deeds.{Stand, changes_by, replies_by}
use Rattle.node_port.specs.Edits.{changed_lines}
use Rattle.node_port.specs.Playing.{Printed, printed_text, printed_by, said, spent, waiting, PlaysLine, MoreOnly, PlaysAll}
use Rattle.node_port.specs.Ran.{Ends}
use Rattle.node_port.specs.Shown.{Shown, Tells, shown_lines}
use Rattle.node_port.specs.Working.{stand_of, Grows, IsEmpty, PlaysAt, PlaysOn, PlaysTo, StopsOn, PrintsLine, PrintsPart, TakesNext, StopsNext}
use Rattle.node_port.specs.declared.commands.Command.{Command}
use Rattle.node_port.specs.declared.port.Port.{Port}
use Rattle.node_port.specs.declared.port.Standing.{Standing}
use Rattle.node_port.specs.declared.port.Standing.TheVariants.{Runs, HasLeft, Broken, Spent}
use Rattle.node_port.proofs.Growing.{changes_now, answers_now}
use Rattle.node_port.proofs.Working.{waits}

-- a line that was done at a node is printed
module _ (bytes : List ℕ) (taken : Taken) (s : Standing) (a b c : Port) (says : IsTaken (reader_of a.node) bytes taken) (empty : IsEmpty a.output)
    (P : PlaysAt taken s (spent s ++ waiting s b.node) a b) where
  abbrev pub printed : Printed
  printed = printed_by s taken (stand_of a) P.deeds (stand_of b)

  -- so its text is that
  pub text_is : string_bytes b.output.changes ++ (b.end.orders ++ (b.end.lines ++ string_bytes b.output.answers)) ≡ printed_text printed
  text_is =
      ap (λ (t : List ℕ). t ++ (b.end.orders ++ (b.end.lines ++ string_bytes b.output.answers)))
      (changes_now (changes_by P.deeds) answered a.output b.output empty P.grows)
      ∙ ap (λ (t : List ℕ). shown_lines (changed_lines (changes_by P.deeds)) ++ (b.end.orders ++ (b.end.lines ++ t)))
      (answers_now (changes_by P.deeds) answered a.output b.output empty P.grows)
    where
      answered : List Shown
      answered = map Tells (replies_by P.deeds) ++ (said taken a.node ++ (spent s ++ waiting s b.node))

  line_played : c.node ≡ b.node → c.end ≡ record b.end { lines = []; orders = [] } → PlaysLine bytes s (stand_of a) printed (stand_of c)
  line_played loop end = record {
    taken = taken;
    says = says;
    first = P.first;
    gives = P.gives;
    deeds = P.deeds;
    last = stand_of b;
    does = P.does;
    done = P.done;
    ends = P.ends;
    told = P.told;
    prints = refl;
    behind = λ j. record { loop = loop j; end = end j };
  }

  pub prints : (old new : Option (List ℕ)) → c.node ≡ b.node → c.end ≡ record b.end { lines = []; orders = [] }
      → Appends old new (string_bytes b.output.changes ++ (b.end.orders ++ (b.end.lines ++ string_bytes b.output.answers)))
      → PrintsLine bytes s (stand_of a) (stand_of c) old new
  prints old new loop end w =
      record { p = printed; plays = line_played loop end; wrote = subst (λ (t : List ℕ). Appends old new t) text_is w }

  pub prints_part : (old new : Option (List ℕ)) → c.node ≡ b.node → c.end ≡ record b.end { lines = []; orders = [] }
      → AppendsPart old new (string_bytes b.output.changes ++ (b.end.orders ++ (b.end.lines ++ string_bytes b.output.answers)))
      → PrintsPart bytes (stand_of a) old new
  prints_part old new loop end w = record {
    standing = s;
    stand = stand_of c;
    p = printed;
    plays = line_played loop end;
    wrote = subst (λ (t : List ℕ). AppendsPart old new t) text_is w;
  }

-- a line behind others
last_of : (s : Standing) (c : Stand) → MoreOnly s s [] [] c c (PlaysAll [] s c [] c)
last_of Runs c = (refl, refl, refl)
last_of HasLeft c = (refl, refl, refl, refl)
last_of Broken c = (refl, refl, refl, refl)
last_of Spent c = (refl, refl, refl, refl)

pub plays_more : (ls : List (List ℕ)) (a b c : Stand) (out : List Printed) (s : Standing) (l : List ℕ) (p : Printed)
    → PlaysAll ls Runs a out b → PlaysLine l s b p c → PlaysAll (ls ++ l ∷ []) s a (out ++ p ∷ []) c
plays_more [] a b c out s l p h L = (
  p,
  [],
  ap (λ (xs : List Printed). xs ++ p ∷ []) h.1,
  s,
  c,
  subst (λ (x : Stand). PlaysLine l s x p c) h.2 L,
  last_of s c,
)
plays_more (m ∷ ls) a b c out s l p h L =
    (h.0, h.1 ++ p ∷ [], ap (λ (xs : List Printed). xs ++ p ∷ []) h.2, h.3, h.4, h.5, go h.3 (λ more. plays_more ls h.4 b c h.1 s l p more L) h.6)
  where
    go : (stands : Standing) → (PlaysAll ls Runs h.4 h.1 b → PlaysAll (ls ++ l ∷ []) s h.4 (h.1 ++ p ∷ []) c)
        → MoreOnly stands Runs ls h.1 h.4 b (PlaysAll ls Runs h.4 h.1 b)
        → MoreOnly stands s (ls ++ l ∷ []) (h.1 ++ p ∷ []) h.4 c (PlaysAll (ls ++ l ∷ []) s h.4 (h.1 ++ p ∷ []) c)
    go Runs on more = on more
    go HasLeft on more = absurd (cc (more.0))
    go Broken on more = absurd (cc (more.0))
    go Spent on more = absurd (cc (more.0))

pub text_more : (out : List Printed) (p : Printed) → flat_map printed_text (out ++ p ∷ []) ≡ flat_map printed_text out ++ printed_text p
text_more out p =
    flat_map-append printed_text out (p ∷ []) ∙ ap (λ (t : List ℕ). flat_map printed_text out ++ t) (append-nil (printed_text p))

-- the lines of an input
pub plays_none : (a : Stand) (input old : Option (List ℕ)) → PlaysOn a input input old old Runs a
plays_none a input old = record {
  lines = [];
  lost = LosesLines-nil input;
  out = [];
  plays = (refl, refl, refl);
  wrote = Appends-nil old;
}

module _ (a b : Stand) (input mid rest old w1 w2 : Option (List ℕ)) (P : PlaysOn a input mid old w1 Runs b) (kept : Keeps w1 w2) where
  -- no line is left
  pub plays_end : LosesLines mid rest [] → PlaysOn a input rest old w2 Runs b
  plays_end lost = record {
    lines = P.lines;
    lost = subst (λ (ls : List (List ℕ)). LosesLines input rest ls) (append-nil P.lines) (LosesLines-trans input mid rest P.lines [] P.lost lost);
    out = P.out;
    plays = P.plays;
    wrote = Appends-kept old w1 w2 _ P.wrote kept;
  }

  part_of_all : AppendsPart old w2 (flat_map printed_text P.out)
  part_of_all =
      subst (λ (t : List ℕ). AppendsPart old w2 t) (append-nil (flat_map printed_text P.out))
      (AppendsPart-whole old w2 (flat_map printed_text P.out) [] (Appends-kept old w1 w2 _ P.wrote kept))

  -- the next can't be read
  pub stops_read : StopsNext mid rest → StopsOn a input rest old w2
  stops_read t = record {
    lines = P.lines;
    part = t.0;
    read = (mid, P.lost, t.1);
    out = P.out;
    standing = Runs;
    stand = b;
    plays = P.plays;
    wrote = part_of_all;
  }

  -- there are too many
  pub stops_here : LosesLines mid rest [] → StopsOn a input rest old w2
  stops_here lost = record {
    lines = P.lines;
    part = [];
    read = LosesInto-whole input rest P.lines
        (subst (λ (ls : List (List ℕ)). LosesLines input rest ls) (append-nil P.lines) (LosesLines-trans input mid rest P.lines [] P.lost lost));
    out = P.out;
    standing = Runs;
    stand = b;
    plays = P.plays;
    wrote = part_of_all;
  }

  module _ (line : List ℕ) (lost : LosesLines mid rest (line ∷ [])) where
    pub plays_line : (s : Standing) (c : Stand) (w3 : Option (List ℕ)) → PrintsLine line s b c w2 w3 → PlaysOn a input rest old w3 s c
    plays_line s c w3 L = record {
      lines = P.lines ++ line ∷ [];
      lost = LosesLines-trans input mid rest P.lines (line ∷ []) P.lost lost;
      out = P.out ++ L.p ∷ [];
      plays = plays_more P.lines a b c P.out s line L.p P.plays L.plays;
      wrote = subst (λ (t : List ℕ). Appends old w3 t) (sym (text_more P.out L.p))
          (Appends-trans old w2 w3 (flat_map printed_text P.out) (printed_text L.p) (Appends-kept old w1 w2 _ P.wrote kept) L.wrote);
    }

    pub stops_line : (w3 : Option (List ℕ)) → LosesWithinLine mid rest → PrintsPart line b w2 w3 ⊎ Keeps w2 w3 → StopsOn a input rest old w3
    stops_line w3 within (inl L) = record {
      lines = P.lines ++ line ∷ [];
      part = [];
      read = LosesInto-whole input rest (P.lines ++ line ∷ []) (LosesLines-trans input mid rest P.lines (line ∷ []) P.lost lost);
      out = P.out ++ L.p ∷ [];
      standing = L.standing;
      stand = L.stand;
      plays = plays_more P.lines a b L.stand P.out L.standing line L.p P.plays L.plays;
      wrote = subst (λ (t : List ℕ). AppendsPart old w3 t) (sym (text_more P.out L.p))
          (AppendsPart-behind old w2 w3 (flat_map printed_text P.out) (printed_text L.p) (Appends-kept old w1 w2 _ P.wrote kept) L.wrote);
    }
    stops_line w3 within (inr same) = record {
      lines = P.lines;
      part = within.0;
      read = (mid, P.lost, within.1);
      out = P.out;
      standing = Runs;
      stand = b;
      plays = P.plays;
      wrote = subst (λ (t : List ℕ). AppendsPart old w3 t) (append-nil (flat_map printed_text P.out))
          (AppendsPart-whole old w3 (flat_map printed_text P.out) [] (Appends-kept old w2 w3 _ (Appends-kept old w1 w2 _ P.wrote kept) same));
    }

-- a line is taken as the command is that it says
pub taken_by : (reader : Reader) (bytes : List ℕ) (c : Command) (taken : Taken) → Says reader bytes c → TakenAs c taken → IsTaken reader bytes taken
taken_by reader bytes c (Follows d) says so = subst (Says reader bytes) (sym so) says
taken_by reader bytes c (Refused tag fault) says so = absurd so
taken_by reader bytes c (Strange d) says so = subst (Says reader bytes) (sym so) says
taken_by reader bytes c (Misplaced from line) says so = subst (Says reader bytes) so says
taken_by reader bytes c (Unfit from line fault) says so = subst (Says reader bytes) so says
taken_by reader bytes c (Astray from line) says so = subst (Says reader bytes) so says
taken_by reader bytes c (Untold next) says so = subst (Says reader bytes) so says

module _ (bytes : List ℕ) (a b : Port) where
  -- a line is done as its command is
  pub line_done : {E : Type 0} (c : Command) (r : Result Standing E) → Says (reader_of a.node) bytes c
      → IfOk r (λ s. (taken : Taken) × TakenAs c taken × PlaysAt taken s (spent s) a b)
      → IfOk r (λ s. (taken : Taken) × IsTaken (reader_of a.node) bytes taken × PlaysAt taken s (spent s) a b)
  line_done c (Ok s) says P = (P.0, taken_by (reader_of a.node) bytes c P.0 says P.1, P.2)
  line_done c (Err e) says P = tt

  -- and then it is said where something waits
  pub line_waits : (s : Standing) (c : Port) → stand_of c ≡ stand_of b → Grows [] (waiting s b.node) b.output c.output
      → (taken : Taken) × IsTaken (reader_of a.node) bytes taken × PlaysAt taken s (spent s) a b
      → (taken : Taken) × IsTaken (reader_of a.node) bytes taken × PlaysAt taken s (spent s ++ waiting s c.node) a c
  line_waits s c same G P = (
    P.0,
    P.1,
    subst (λ (x : Stand). PlaysAt P.0 s (spent s ++ waiting s x.loop) a c) (sym same)
        (waits P.0 s (spent s) (waiting s b.node) a b c P.2 same G),
  )

-- the next line is read, or a part of it is lost
pub next_of : (old new : Option (List ℕ)) (most left : ℕ) (r : Result (Option Line) StreamFault)
    → MatchResult r (TakesLine old new most left) (StopsAtLine old new most) → MatchResult r (TakesNext old new) (λ fault. StopsNext old new)
next_of old new most left (Ok None) h = (h.0, h.1)
next_of old new most left (Ok (Some kept)) h = (h.0, h.1, h.2, h.3)
next_of old new most left (Err fault) h = (h.0, h.1)

-- a line stops, and a part is printed of what it comes to, or nothing
pub line_stops : (bytes : List ℕ) (a b : Stand) (old new : Option (List ℕ)) (r : Result Standing StreamFault) (fault : StreamFault) → r ≡ Err fault
    → PrintsPart bytes a old new ⊎ Keeps old new
    → MatchResult r (λ s. PrintsLine bytes s a b old new) (λ f. PrintsPart bytes a old new ⊎ Keeps old new)
line_stops bytes a b old new r fault e h =
    subst (λ (x : Result Standing StreamFault). MatchResult x (λ s. PrintsLine bytes s a b old new) (λ f. PrintsPart bytes a old new ⊎ Keeps old new))
    (sym e) h

-- lines stop
pub lines_stop : (a b : Stand) (input rest old new : Option (List ℕ)) (r : Result Bool StreamFault) (fault : StreamFault) → r ≡ Err fault
    → StopsOn a input rest old new → MatchResult r (PlaysTo a input rest old new b) (λ f. StopsOn a input rest old new)
lines_stop a b input rest old new r fault e h =
    subst (λ (x : Result Bool StreamFault). MatchResult x (PlaysTo a input rest old new b) (λ f. StopsOn a input rest old new)) (sym e) h

-- why lines end behind one at which the node has
pub left_ends : (s : Standing) (rest : Option (List ℕ)) → s ≡ HasLeft → Ends true rest s
left_ends s rest e = subst (λ (x : Standing). Ends true rest x) (sym e) tt

pub broken_ends : (s : Standing) (rest : Option (List ℕ)) → (s ≡ Broken) ⊎ (s ≡ Spent) → Ends false rest s
broken_ends s rest (inl e) = subst (λ (x : Standing). Ends false rest x) (sym e) tt
broken_ends s rest (inr e) = subst (λ (x : Standing). Ends false rest x) (sym e) tt
