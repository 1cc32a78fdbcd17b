-- What the lines of a node come to, all together.
use Rattle.std.proofs.Common.{ℕ, Bool, true, false, ◌≡◌, Ok, Option, Some, None, List, [], ◌∷◌, ◌++◌, map, inr, refl, sym, ap, subst, ◌∙◌, append-nil, arith, eq-eqb, All}
use Rattle.std.specs.Prelude.{if◌then◌else◌, ◌==◌}
use Rattle.std.specs.List.Sorted.{IsStrictlyIncreasing}
use Rattle.std.proofs.lemmas.Bool.{or_left}
use Rattle.std.proofs.lemmas.List.Elements.{All-nil, All-cons, All-append, All-head, All-tail}
use Rattle.registry_model.specs.Table.{Table}
use Rattle.term.specs.NodeSets.{set_of}
use Rattle.wire_end.specs.declared.Letter.{Letter as ALetter}
use Rattle.node_loop.specs.declared.edit.Edition.{Edition}
use Rattle.node_loop.specs.declared.edit.Note.{Note}
use Rattle.node_loop.specs.declared.edit.Note.TheVariants.{Nothing}
use Rattle.node_loop.specs.declared.edit.Update.{Update}
use Rattle.node_loop.specs.Answers.{LogsAnswer}
use Rattle.node_loop.specs.Coming.{begun, IsLoopOf, IsLoopFrom}
use Rattle.node_loop.specs.Editions.{opening}
use Rattle.node_loop.specs.Held.{Looping, Written}
use Rattle.node_loop.specs.NodeCoreState.{CoreState, fresh, fresh_behind, opening_core}
use Rattle.node_loop.specs.NodeCoreSeen.{node_of}
use Rattle.node_loop.specs.Owing.{LeadsTo, Owes, shown_by}
use Rattle.node_loop.proofs.Owing.{owes_next}
use Rattle.wire_end.specs.declared.line.LinkLine.{LinkLine}
use Rattle.wire_end.specs.declared.wire_end.Wiring.{Wiring}
use Rattle.wire_end.specs.Hearing.{HearsAt, LosesAt, laid_if, lost_where}
use Rattle.wire_end.specs.Wirings.{place, wire_at}
use Rattle.node_port.specs.Asking.{Reader, reader_of}
use Rattle.node_port.specs.Beginnings.{before, world_of}
use Rattle.node_port.specs.Commands.{Taken, Follows, Refused, Strange, Misplaced, Unfit, Astray, Untold, IsTaken}
use Rattle.node_port.specs.Deeds.{Stand, IsAllTold, changes_by, replies_by}
use Rattle.node_port.specs.Edits.{updates_of}
use Rattle.node_port.specs.Playing.{Printed, asked, Gives, GivesStart, printed_out, said, spent, is_waiting, waiting, PlaysLine, MoreOnly, PlaysAll}
use Rattle.node_port.specs.Ran.{ReadsOne, Reads, all_updates, all_letters, all_answers, IsGiven, NobodyStarts, IsRun, Opens, Founds, Behind, Plainly, beginning_of, core_of, opened_so, shown_behind}
use Rattle.node_port.specs.Shown.{Shown, Tells, Waits, Spends}
use Rattle.node_port.specs.declared.commands.Command.TheVariants.{Ask, Steps, Letter, Down, Started, Tick}
use Rattle.node_port.specs.declared.port.Standing.{Standing}
use Rattle.node_port.specs.declared.port.Standing.TheVariants.{Runs, HasLeft, Broken, Spent}
use Rattle.node_port.proofs.Leading.{Leads, leads_none, leads_on, leads_as, deeds_lead, as_before, moves_from}
use Rattle.node_port.proofs.Soundness.{SaysNoStart, StartsNobody, starts_nobody, lines_sound, opens_sound}
use Rattle.node_port.proofs.SoundnessFrom.{lines_sound_from, opens_sound_from}
use Rattle.node_port.proofs.Ordering.{IsOrdered, stay_ordered}

-- the line of a link that is read
abbrev reads_by : Taken → List (ℕ × LinkLine)
reads_by (Follows (Letter from line)) = (from, line) ∷ []
reads_by _ = []

one_read : (reader : Reader) (bytes : List ℕ) (taken : Taken) → IsTaken reader bytes taken → ReadsOne bytes (reads_by taken)
one_read reader bytes (Follows (Letter from line)) h = h
one_read reader bytes (Follows (Ask tag event)) h = tt
one_read reader bytes (Follows (Steps tag)) h = tt
one_read reader bytes (Follows (Down n)) h = tt
one_read reader bytes (Follows (Started next)) h = tt
one_read reader bytes (Follows Tick) h = tt
one_read reader bytes (Refused tag fault) h = tt
one_read reader bytes (Strange command) h = tt
one_read reader bytes (Misplaced from line) h = tt
one_read reader bytes (Unfit from line fault) h = tt
one_read reader bytes (Astray from line) h = tt
one_read reader bytes (Untold next) h = tt

-- where `nobody` says that no other node starts
module _ (nobody : Type 0) where
  -- what a line gives to the node's end
  module _ (a b : Stand) (reads : List (ℕ × LinkLine)) (loop : b.loop ≡ a.loop) (node : b.end.node ≡ a.end.node) where
    module _ (read : b.end.read ≡ a.end.read ++ reads) (order : (out : List ℕ) → IsOrdered out a.end → IsOrdered out b.end) where
      by_end : Leads nobody reads [] [] [] a b
      by_end = record {
        node = node;
        read = read;
        order = λ out h. subst (λ (t : List ℕ). IsOrdered t b.end) (sym (append-nil out)) (order out h);
        owes = λ e h. subst (λ (l : Looping). Owes l e) (sym loop) h;
        came = λ still name h. subst (IsLoopOf name) (sym loop) h;
        came_from = λ stamp core h. subst (IsLoopFrom stamp core) (sym loop) h;
        stays = λ stamp answer h. subst (λ (l : Looping). LogsAnswer l.log stamp answer) (sym loop) h;
        given = λ stamp core h. All-nil (IsGiven b.loop.log);
      }

  laid_node : (from stamp : ℕ) (x : Option ALetter) (s : Wiring) → (laid_if from stamp x s).node ≡ s.node
  laid_node from stamp None s = refl
  laid_node from stamp (Some l) s = refl

  laid_read : (from stamp : ℕ) (x : Option ALetter) (s : Wiring) → (laid_if from stamp x s).read ≡ s.read
  laid_read from stamp None s = refl
  laid_read from stamp (Some l) s = refl

  heard_leads : (from : ℕ) (line : LinkLine) (a b : Stand) → b.loop ≡ a.loop → HearsAt (place from a.end.wires) from line a.end b.end
      → Leads nobody ((from, line) ∷ []) [] [] [] a b
  heard_leads from line a b loop H =
      by_end a b ((from, line) ∷ []) loop (go (place from a.end.wires) H).0 (go (place from a.end.wires) H).1
      (λ out h. stay_ordered.hears out a.end from line b.end h H)
    where
      go : (at : Option ℕ) → HearsAt at from line a.end b.end → (b.end.node ≡ a.end.node) × (b.end.read ≡ a.end.read ++ (from, line) ∷ [])
      go None h = absurd h
      go (Some k) h = (
        ap (λ (w : Wiring). w.node) h.rest ∙ laid_node from line.stamp h.letter _,
        ap (λ (w : Wiring). w.read) h.rest ∙ laid_read from line.stamp h.letter _,
      )

  lost_node : (b : Bool) (n k : ℕ) (s : Wiring) → (lost_where b n k s).node ≡ s.node
  lost_node true n k s = refl
  lost_node false n k s = refl

  lost_read : (b : Bool) (n k : ℕ) (s : Wiring) → (lost_where b n k s).read ≡ s.read
  lost_read true n k s = refl
  lost_read false n k s = refl

  lost_leads : (n : ℕ) (a b : Stand) → b.loop ≡ a.loop → LosesAt (place n a.end.wires) n (Ok tt) a.end b.end → Leads nobody [] [] [] [] a b
  lost_leads n a b loop H =
      by_end a b [] loop (go (place n a.end.wires) H).0 ((go (place n a.end.wires) H).1 ∙ sym (append-nil a.end.read))
      (λ out h. stay_ordered.loses out a.end n b.end h H)
    where
      go : (at : Option ℕ) → LosesAt at n (Ok tt) a.end b.end → (b.end.node ≡ a.end.node) × (b.end.read ≡ a.end.read)
      go None h = absurd (cc (h.0))
      go (Some k) h = (
        ap (λ (w : Wiring). w.node) h ∙ lost_node (wire_at k a.end.wires).is_down n k a.end,
        ap (λ (w : Wiring). w.read) h ∙ lost_read (wire_at k a.end.wires).is_down n k a.end,
      )

  nothing_given : (a b : Stand) → b ≡ a → Leads nobody [] [] [] [] a b
  nothing_given a b e = subst (λ (x : Stand). Leads nobody [] [] [] [] a x) (sym e) (leads_none nobody a)

  -- the next node of another one's name has started
  start_leads : (next : ℕ) (a b : Stand) → (nobody → ⊥) → GivesStart next a b → Leads nobody [] [] [] [] a b
  start_leads next a b none G = record {
    node = ap (λ (w : Wiring). w.node) G.starts.begins;
    read = ap (λ (w : Wiring). w.read) G.starts.begins ∙ sym (append-nil a.end.read);
    order = λ out h. subst (λ (t : List ℕ). IsOrdered t b.end) (sym (append-nil out))
        (stay_ordered.starts out a.end G.older next b.end h G.starts);
    owes = λ e h. subst (λ (l : Looping). Owes l e) (sym G.loop) (owes_next G.older next a.loop e h);
    came = λ still name h. absurd (none still);
    came_from = λ stamp core h. moves_from stamp core a.loop b.loop (inr (inr (inr (G.older, next, G.loop)))) h;
    stays = λ stamp answer h. as_before stamp answer a.loop b.loop (ap (λ (l : Looping). l.log) G.loop) h;
    given = λ stamp core h. All-nil (IsGiven b.loop.log);
  }

  gives_lead : (taken : Taken) (a b : Stand) → (nobody → StartsNobody taken) → Gives taken a b → Leads nobody (reads_by taken) [] [] [] a b
  gives_lead (Follows (Ask tag event)) a b none G =
      by_end a b [] G.0 (ap (λ (w : Wiring). w.node) G.1) (ap (λ (w : Wiring). w.read) G.1 ∙ sym (append-nil a.end.read))
      (λ out h. subst (IsOrdered out) (sym G.1) (stay_ordered.asks out a.end (asked tag event) h))
  gives_lead (Follows (Letter from line)) a b none G = heard_leads from line a b G.0 G.1
  gives_lead (Follows (Down n)) a b none G = lost_leads n a b G.0 G.1
  gives_lead (Follows (Started next)) a b none G = start_leads next a b none G
  gives_lead (Follows (Steps tag)) a b none G = nothing_given a b G
  gives_lead (Follows Tick) a b none G = nothing_given a b G
  gives_lead (Refused tag fault) a b none G = nothing_given a b G
  gives_lead (Strange (Letter from line)) a b none G = nothing_given a b G.0
  gives_lead (Strange (Down n)) a b none G = nothing_given a b G.0
  gives_lead (Strange (Started next)) a b none G = nothing_given a b G.0
  gives_lead (Strange (Ask tag event)) a b none G = absurd G
  gives_lead (Strange (Steps tag)) a b none G = absurd G
  gives_lead (Strange Tick) a b none G = absurd G
  gives_lead (Misplaced from line) a b none G = nothing_given a b G.0
  gives_lead (Unfit from line fault) a b none G = nothing_given a b G.0
  gives_lead (Astray from line) a b none G = nothing_given a b G.0
  gives_lead (Untold next) a b none G = nothing_given a b G.0

  -- what is printed goes out
  out_leads : (a : Stand) → Leads nobody [] a.end.lines [] [] a (printed_out a)
  out_leads a = record {
    node = refl;
    read = sym (append-nil a.end.read);
    order = λ out h. stay_ordered.tells (out ++ a.end.lines) (record a.end { lines = [] }) (stay_ordered.prints out a.end h);
    owes = λ e h. h;
    came = λ still name h. h;
    came_from = λ stamp core h. h;
    stays = λ stamp answer h. h;
    given = λ stamp core h. All-nil (IsGiven a.loop.log);
  }

-- the other answers tell of no call
module _ (log : Written) where
  said_given : (taken : Taken) (loop : Looping) → All (IsGiven log) (said taken loop)
  said_given (Follows (Ask tag event)) loop = All-nil (IsGiven log)
  said_given (Follows (Letter from line)) loop = All-nil (IsGiven log)
  said_given (Follows (Down n)) loop = All-nil (IsGiven log)
  said_given (Follows (Started next)) loop = All-nil (IsGiven log)
  said_given (Follows (Steps tag)) loop = All-cons (IsGiven log) _ [] tt (All-nil (IsGiven log))
  said_given (Follows Tick) loop = All-nil (IsGiven log)
  said_given (Refused tag fault) loop = All-cons (IsGiven log) _ [] tt (All-nil (IsGiven log))
  said_given (Strange command) loop = All-cons (IsGiven log) _ [] tt (All-nil (IsGiven log))
  said_given (Misplaced from line) loop = All-cons (IsGiven log) _ [] tt (All-nil (IsGiven log))
  said_given (Unfit from line fault) loop = All-cons (IsGiven log) _ [] tt (All-nil (IsGiven log))
  said_given (Astray from line) loop = All-cons (IsGiven log) _ [] tt (All-nil (IsGiven log))
  said_given (Untold next) loop = All-cons (IsGiven log) _ [] tt (All-nil (IsGiven log))

  spent_given : (s : Standing) → All (IsGiven log) (spent s)
  spent_given Runs = All-nil (IsGiven log)
  spent_given HasLeft = All-nil (IsGiven log)
  spent_given Broken = All-nil (IsGiven log)
  spent_given Spent = All-cons (IsGiven log) Spends [] tt (All-nil (IsGiven log))

  waiting_given : (s : Standing) (loop : Looping) → All (IsGiven log) (waiting s loop)
  waiting_given s loop = go (is_waiting s loop)
    where
      go : (b : Bool) → All (IsGiven log) (if b then Waits ∷ [] else [])
      go true = All-cons (IsGiven log) Waits [] tt (All-nil (IsGiven log))
      go false = All-nil (IsGiven log)

  others_given : (s : Standing) (taken : Taken) (first last : Looping) → All (IsGiven log) (said taken first ++ (spent s ++ waiting s last))
  others_given s taken first last =
      All-append (IsGiven log) (said taken first) (spent s ++ waiting s last) (said_given taken first)
      (All-append (IsGiven log) (spent s) (waiting s last) (spent_given s) (waiting_given s last))

module _ (nobody : Type 0) where
  -- answers more
  leads_also : (r : List (ℕ × LinkLine)) (l : List ℕ) (us : List Update) (xs ys : List Shown) (a b : Stand) → Leads nobody r l us xs a b
      → All (IsGiven b.loop.log) ys → Leads nobody r l us (xs ++ ys) a b
  leads_also r l us xs ys a b A h = record {
    node = A.node;
    read = A.read;
    order = A.order;
    owes = A.owes;
    came = A.came;
    came_from = A.came_from;
    stays = A.stays;
    given = λ stamp core is. All-append (IsGiven b.loop.log) xs ys (A.given stamp core is) h;
  }

  -- a line
  line_leads : (bytes : List ℕ) (s : Standing) (a : Stand) (p : Printed) (b : Stand) (none : nobody → SaysNoStart bytes) (L : PlaysLine bytes s a p b)
      → Leads nobody (reads_by L.taken) p.letters (updates_of p.changes) p.answers a b
  line_leads bytes s a p b none L =
      subst (λ (q : Printed). Leads nobody (reads_by L.taken) q.letters (updates_of q.changes) q.answers a b) (sym L.prints)
      (leads_also (reads_by L.taken) L.last.end.lines (updates_of (changes_by L.deeds)) (map Tells (replies_by L.deeds)) others a b all
      (others_given b.loop.log s L.taken a.loop L.last.loop))
    where
      others : List Shown
      others = said L.taken a.loop ++ (spent s ++ waiting s L.last.loop)

      out : Leads nobody [] L.last.end.lines [] [] L.last b
      out = subst (λ (x : Stand). Leads nobody [] L.last.end.lines [] [] L.last x) (sym L.behind) (out_leads nobody L.last)

      done : Leads nobody [] L.last.end.lines (updates_of (changes_by L.deeds)) (map Tells (replies_by L.deeds)) L.first b
      done = leads_as nobody [] L.last.end.lines L.last.end.lines (updates_of (changes_by L.deeds) ++ []) (updates_of (changes_by L.deeds))
          (map Tells (replies_by L.deeds) ++ []) (map Tells (replies_by L.deeds)) L.first b refl (append-nil (updates_of (changes_by L.deeds)))
          (append-nil (map Tells (replies_by L.deeds)))
          (leads_on nobody [] [] [] L.last.end.lines (updates_of (changes_by L.deeds)) [] (map Tells (replies_by L.deeds)) [] L.first L.last b
          (deeds_lead nobody L.deeds L.first L.last L.does) out)

      all : Leads nobody (reads_by L.taken) L.last.end.lines (updates_of (changes_by L.deeds)) (map Tells (replies_by L.deeds)) a b
      all = subst (λ (r : List (ℕ × LinkLine)). Leads nobody r L.last.end.lines (updates_of (changes_by L.deeds)) (map Tells (replies_by L.deeds)) a b)
          (append-nil (reads_by L.taken))
          (leads_on nobody (reads_by L.taken) [] [] L.last.end.lines [] (updates_of (changes_by L.deeds)) [] (map Tells (replies_by L.deeds)) a L.first b
          (gives_lead nobody L.taken a L.first (λ still. starts_nobody (reader_of a.loop) bytes L.taken L.says (none still)) L.gives) done)

  line_told : (bytes : List ℕ) (s : Standing) (a : Stand) (p : Printed) (b : Stand) → PlaysLine bytes s a p b → IsAllTold a.loop → IsAllTold b.loop
  line_told bytes s a p b L e = subst (λ (x : Stand). IsAllTold x.loop) (sym L.behind) (L.told e)

  -- lines, one behind the other
  pub record Comes (ls : List (List ℕ)) (out : List Printed) (a c : Stand) : Type 0 where
    pub reads : List (ℕ × LinkLine)
    pub read : Reads ls reads
    pub leads : Leads nobody reads (all_letters out) (all_updates out) (all_answers out) a c
    pub told : IsAllTold a.loop → IsAllTold c.loop

  comes_more : (l : List ℕ) (ls : List (List ℕ)) (s : Standing) (p : Printed) (rest : List Printed) (a b c : Stand) → (nobody → SaysNoStart l)
      → PlaysLine l s a p b → Comes ls rest b c → Comes (l ∷ ls) (p ∷ rest) a c
  comes_more l ls s p rest a b c none L C = record {
    reads = reads_by L.taken ++ C.reads;
    read = (reads_by L.taken, C.reads, refl, one_read (reader_of a.loop) l L.taken L.says, C.read);
    leads = leads_on nobody (reads_by L.taken) C.reads p.letters (all_letters rest) (updates_of p.changes) (all_updates rest) p.answers (all_answers rest)
        a b c (line_leads l s a p b none L) C.leads;
    told = λ e. C.told (line_told l s a p b L e);
  }

  comes_none : (a : Stand) → Comes [] [] a a
  comes_none a = record { reads = []; read = refl; leads = leads_none nobody a; told = λ e. e }

  pub lines_come : (ls : List (List ℕ)) (s : Standing) (a : Stand) (out : List Printed) (c : Stand) → (nobody → NobodyStarts ls)
      → PlaysAll ls s a out c → Comes ls out a c
  lines_come [] s a out c none h =
      subst (λ (o : List Printed). Comes [] o a c) (sym h.1) (subst (λ (x : Stand). Comes [] [] a x) (sym h.2) (comes_none a))
  lines_come (l ∷ ls) s a out c none h =
      subst (λ (o : List Printed). Comes (l ∷ ls) o a c) (sym h.2)
      (comes_more l ls h.3 h.0 h.1 a h.4 c (λ still. All-head SaysNoStart l ls (none still)) h.5
      (go h.3 (λ m. lines_come ls s h.4 h.1 c (λ still. All-tail SaysNoStart l ls (none still)) m) h.6))
    where
      at_end : (x : Standing) → (s ≡ x) × (ls ≡ []) × (h.1 ≡ []) × (c ≡ h.4) → Comes ls h.1 h.4 c
      at_end x m =
          subst (λ (y : List (List ℕ)). Comes y h.1 h.4 c) (sym m.1)
          (subst (λ (o : List Printed). Comes [] o h.4 c) (sym m.2) (subst (λ (y : Stand). Comes [] [] h.4 y) (sym m.3) (comes_none h.4)))

      go : (x : Standing) → (PlaysAll ls s h.4 h.1 c → Comes ls h.1 h.4 c) → MoreOnly x s ls h.1 h.4 c (PlaysAll ls s h.4 h.1 c)
          → Comes ls h.1 h.4 c
      go Runs on m = on m
      go HasLeft on m = at_end HasLeft m
      go Broken on m = at_end Broken m
      go Spent on m = at_end Spent m

-- a node that opens and was told of nobody is the loop of its name
module _ (node : ℕ) (world : List ℕ) (stamp : ℕ) where
  joins : fresh node world (node ∷ []) true ≡ opening_core world (node ∷ []) node
  joins = go (set_of (node ∷ []) node) (or_left (node == node) false (eq-eqb node node refl))
    where
      go : (b : Bool) → b ≡ true
          → fresh node world (node ∷ []) true ≡ (if b then fresh node world (node ∷ []) true else fresh node world (node ∷ []) false)
      go true e = refl
      go false e = cc

  founds_loop : IsLoopOf node (begun stamp (fresh node world (node ∷ []) true))
  founds_loop = record { nodes = world; cluster = node ∷ []; stamp = stamp; moves = 0; comes = ap (begun stamp) joins }

  alone_loop : (left : List ℕ) → left ≡ [] → IsLoopOf node (begun stamp (fresh_behind node world (node ∷ []) left false))
  alone_loop left none = record {
    nodes = world;
    cluster = [];
    stamp = stamp;
    moves = 0;
    comes = ap (λ (ds : List ℕ). begun stamp (fresh_behind node world (node ∷ []) ds false)) none;
  }

opens_loop : (node : ℕ) (names : List ℕ) (how : Opens) → (core_of node names how).told ≡ []
    → IsLoopOf (core_of node names how).name (begun (beginning_of node how).stamp (core_of node names how))
opens_loop node names Founds none = founds_loop node names 0
opens_loop node names (Behind b) none = alone_loop node (world_of node names b.left) b.stamp b.left none
opens_loop node names Plainly none = alone_loop node (world_of node names (before node)) 0 (before node) none

opens_from : (stamp : ℕ) (core : CoreState) → IsLoopFrom stamp core (begun stamp core)
opens_from stamp core = record { moves = 0; comes = refl }

opens_named : (node : ℕ) (names : List ℕ) (how : Opens) → node ≡ (core_of node names how).name
opens_named node names Founds = refl
opens_named node names (Behind b) = refl
opens_named node names Plainly = refl

opens_owing : (stamp : ℕ) (core : CoreState) → core.table ≡ [] → Owes (begun stamp core) (opening core.name)
opens_owing stamp core none = record {
  world = refl;
  length = omega arith;
  leads = ap (λ (t : Table). record (opening core.name) { table = t }) (sym none);
}

opens_empty : (node : ℕ) (names : List ℕ) (how : Opens) → (core_of node names how).table ≡ []
opens_empty node names Founds = refl
opens_empty node names (Behind b) = refl
opens_empty node names Plainly = refl

all_shown : (a : Looping) (e : Edition) → Owes a e → a.owed.note ≡ Nothing → e ≡ shown_by a
all_shown a e O n = subst (λ (x : Note). LeadsTo x e (shown_by a)) n O.leads

-- what lines come to at a node that opens so
pub is_run : (node : ℕ) (names : List ℕ) (how : Opens) → IsStrictlyIncreasing (core_of node names how).world
    → (ls : List (List ℕ)) (s : Standing) (out : List Printed) (b : Stand) → PlaysAll ls s (opened_so node names how) out b
    → IsRun (beginning_of node how).stamp (core_of node names how) ls s out b
is_run node names how rising ls s out b P =
    let core = core_of node names how in
    let stamp = (beginning_of node how).stamp in
    let C = lines_come (NobodyStarts ls) ls s (opened_so node names how) out b (λ still. still) P in
    let ordered = C.leads.order [] (stay_ordered.begins node core.world) in record {
      node = C.leads.node ∙ opens_named node names how;
      sound = λ o I opens nobody. lines_sound o ls s (opened_so node names how) out b nobody P (opens_sound o node names how rising I opens);
      sound_from = λ o by_name I.
          lines_sound_from o (record { node = node_of core; stamp = stamp }) by_name ls s (opened_so node names how) out b P
          (opens_sound_from o node names how rising I);
      read = subst (Reads ls) (sym C.leads.read) C.read;
      order = ordered.0;
      own = ordered.1;
      shown = all_shown b.loop (shown_behind (opening core.name) (all_updates out))
          (C.leads.owes (opening core.name) (opens_owing stamp core (opens_empty node names how))) (C.told (refl, refl)).0;
      came = λ none nobody. C.leads.came nobody core.name (opens_loop node names how none);
      came_from = C.leads.came_from stamp core (opens_from stamp core);
      told = (C.told (refl, refl)).1;
      answered = C.leads.given stamp core (opens_from stamp core);
    }
