-- The ends of a crew's threads are consistent.
use Rattle.std.proofs.Common.{ℕ, zero, suc, true, false, ◌≡◌, ◌<◌, ◌+◌, Option, Some, None, List, [], ◌∷◌, ◌++◌, length, map, get_or, refl, sym, ap, subst, ◌∙◌, inl, inr, arith, true≢false, ext_get_or}
use Rattle.std.specs.List.{slice_get, list_all}
use Rattle.std.proofs.lemmas.Bool.{and_from}
use Rattle.std.proofs.lemmas.List.{length-map}
use Rattle.std.proofs.lemmas.List.Sums.{list_all-from_AllPass}
use Rattle.std.proofs.lemmas.Option.{slice_get-get_or, slice_get_within, get_or_from_slice_get}
use mathlib.Core.List.{map-map}
use Rattle.registry_model.specs.Process.{Nodes}
use Rattle.registry_model.specs.Table.{Table}
use Rattle.protocol_model.specs.Node.{opening_node}
use Rattle.protocol_model.specs.World.{Opening, in_world, in_cluster}
use Rattle.term.specs.NodeSets.{set_of}
use Rattle.term.proofs.NodePlaces.{place-Some}
use Rattle.link.specs.MeshState.{place}
use Rattle.link.specs.Rule.{Begins}
use Rattle.node_loop.specs.Openings.{repeats, opening_with}
use Rattle.node_loop.specs.declared.item.Item.{Item}
use Rattle.node_loop.specs.Held.{Written, written}
use Rattle.node_loop.specs.Dealings.{Dealt, nothing_dealt, took, put}
use Rattle.node_loop.specs.Sound.{Tells}
use Rattle.node_loop.specs.Telling.{AllTell}
use Rattle.node_loop.proofs.Consistency.{threads_are_consistent}
use Rattle.node_seats.specs.Lines.{Sent}
use Rattle.replay.specs.Ends.{End, logs_of}
use Rattle.replay.specs.Steps.{log_of}
use Rattle.replay.specs.Replaying.{AreAll}
use Rattle.replay.specs.Consistent.{AreConsistent}
use Rattle.replay.proofs.Listed.{known_place, no_place}
use Rattle.replay.proofs.Opened.{world_is}
use Rattle.replay.proofs.Merging.{alone, found, log_is, set_of-at}
use Rattle.node_threads.specs.Givers.{receivers}
use Rattle.node_seats.specs.Addresses.{Inbox}
use Rattle.node_threads.specs.Wires.{Wired, name_of, inboxes, line_to, unused, Opens, IsCrew}
use Rattle.node_threads.specs.Ends.{are_inside}
use Rattle.node_threads.specs.Dealings.{dealt_by}
use Rattle.node_threads.specs.Drawing.{Drawn, Compares, AllCompared}
use Rattle.node_threads.specs.Ended.{owner, Returns, AllReturn}
use Rattle.node_threads.proofs.Pairs.{mapped_at, made_of, begins}

-- a list has something at each of its places
standing : {X : Type 0} (xs : List X) (i : ℕ) → i < length xs → (x : X) × (slice_get xs i ≡ Some x)
standing [] i l = absurd (omega arith)
standing (x ∷ xs) zero l = (x, refl)
standing (x ∷ xs) (suc i) l = standing xs i (omega arith)

-- at the place of a node stands this node
place_here : (row : List ℕ) (a i : ℕ) → place a row ≡ Some i → slice_get row i ≡ Some a
place_here row a i e =
    let at = place-Some a row i e in
    slice_get-get_or row i 0 at.0 ∙ ap (λ (c : ℕ). Some c) at.1

-- and where it stands is its place, if none stands twice
place_is : (row : List ℕ) (a i : ℕ) → repeats row ≡ false → slice_get row i ≡ Some a → place a row ≡ Some i
place_is row a i once here = at (place a row) refl
  where
    at : (p : Option ℕ) → place a row ≡ p → p ≡ Some i
    at None e = absurd (true≢false (sym (set_of-at row i a here) ∙ no_place row a e))
    at (Some k) e = ap (λ (n : ℕ). Some n) (alone row k i a once (place_here row a k e) here)

-- what a node that has this place dealt in; a stranger, which has none, dealt in nothing
abbrev dealt_at : List (List (Sent Item)) → List Drawn → Option ℕ → Dealt
dealt_at rows drawn None = nothing_dealt
dealt_at rows drawn (Some i) = dealt_by (get_or rows i []) (get_or (map (λ d. d.taken) drawn) i [])

-- the table that a node opens with
abbrev opening_table : Opening → ℕ → Table
opening_table o a = (opening_node (in_cluster o) a).replica.table

-- the table that a node that has this place left behind; a stranger has that of its opening
abbrev table_at : Opening → List End → ℕ → Option ℕ → Table
table_at o es a None = opening_table o a
table_at o es a (Some i) = get_or (map (λ e. e.table) es) i (opening_table o a)

-- what tells of a node tells of it under equal names
told : {p : Opening} {l m : Written} {t u : Table} {d e : Dealt} → l ≡ m → t ≡ u → d ≡ e → Tells p l t d → Tells p m u e
told {p} {l} {m} {t} {u} {d} {e} log table dealt h =
    subst (λ (x : Written). Tells p x u e) log (subst (λ (x : Table). Tells p l x e) table (subst (λ (x : Dealt). Tells p l t x) dealt h))

module _ (cluster lone : List ℕ) (ws : List Wired) (ends : List End) (rows : List (List (Sent Item))) (drawn : List Drawn) (crew : IsCrew cluster lone ws) (returned : AllReturn ws ends rows drawn) (compared : AllCompared rows drawn) (once : repeats (cluster ++ lone) ≡ false) where
  abbrev row : List ℕ
  row = cluster ++ lone

  abbrev o : Opening
  o = opening_with (cluster ++ lone) cluster

  abbrev logs : ℕ → Written
  logs a = record { node = a; entries = log_of a (logs_of ends) }

  abbrev tables : ℕ → Table
  tables a = table_at o ends a (place a row)

  abbrev dealt : ℕ → Dealt
  dealt a = dealt_at rows drawn (place a row)

  -- the thread of node a, which has place i: how it was started, and what it gave back
  record Thread (i a : ℕ) : Type 0 where
    wired : Wired
    end : End
    lines : List (Sent Item)
    box : Drawn
    here : slice_get row i ≡ Some a
    name : name_of wired ≡ a
    wired_at : slice_get ws i ≡ Some wired
    end_at : slice_get ends i ≡ Some end
    lines_at : slice_get rows i ≡ Some lines
    box_at : slice_get drawn i ≡ Some box
    opens : Opens cluster lone wired
    returns : Returns wired end lines box

  returns_at : (i : ℕ) (w : Wired) (e : End) (ls : List (Sent Item)) (d : Drawn) → slice_get ws i ≡ Some w
      → slice_get ends i ≡ Some e → slice_get rows i ≡ Some ls → slice_get drawn i ≡ Some d → Returns w e ls d
  returns_at i w e ls d w_at e_at ls_at d_at =
      subst (λ (x : Wired). Returns x e ls d) (get_or_from_slice_get ws i w w w_at)
      (subst (λ (x : End). Returns (get_or ws i w) x ls d) (get_or_from_slice_get ends i e e e_at)
      (subst (λ (x : List (Sent Item)). Returns (get_or ws i w) (get_or ends i e) x d) (get_or_from_slice_get rows i ls ls ls_at)
      (subst (λ (x : Drawn). Returns (get_or ws i w) (get_or ends i e) (get_or rows i ls) x) (get_or_from_slice_get drawn i d d d_at)
      (returned.each i w e ls d (slice_get_within ws i w w_at)))))

  thread : (i a : ℕ) → slice_get row i ≡ Some a → Thread i a
  thread i a here =
      let w : (x : Wired) × (slice_get ws i ≡ Some x) × (name_of x ≡ a) =
      made_of name_of ws i a (ap (λ (ns : List ℕ). slice_get ns i) crew.names ∙ here) in
      let l : i < length ws = slice_get_within ws i w.0 w.1 in
      let e : (x : End) × (slice_get ends i ≡ Some x) =
      standing ends i (subst (λ (n : ℕ). i < n) (sym returned.as_many_ends) l) in
      let ls : (x : List (Sent Item)) × (slice_get rows i ≡ Some x) =
      standing rows i (subst (λ (n : ℕ). i < n) (sym returned.as_many_rows) l) in
      let d : (x : Drawn) × (slice_get drawn i ≡ Some x) =
      standing drawn i (subst (λ (n : ℕ). i < n) (sym returned.as_many_drawn) l) in
      record {
        wired = w.0;
        end = e.0;
        lines = ls.0;
        box = d.0;
        here = here;
        name = w.2;
        wired_at = w.1;
        end_at = e.1;
        lines_at = ls.1;
        box_at = d.1;
        opens = subst (Opens cluster lone) (get_or_from_slice_get ws i w.0 w.0 w.1) (crew.opens i w.0 l);
        returns = returns_at i w.0 e.0 ls.0 d.0 w.1 e.1 ls.1 d.1;
      }

  -- its end has its log
  whose : (i a : ℕ) (T : Thread i a) → owner T.end ≡ a
  whose i a T = T.returns.left.node ∙ T.name

  -- so the ends are those of the row, in its order
  pub ends_names : map owner ends ≡ row
  ends_names = ext_get_or 0 (map owner ends) row as_many (λ k l. each k (subst (λ (n : ℕ). k < n) as_many l))
    where
      as_many : length (map owner ends) ≡ length row
      as_many = length-map ends owner ∙ returned.as_many_ends ∙ sym (length-map ws name_of) ∙ ap length crew.names

      each : (k : ℕ) → k < length row → get_or (map owner ends) k 0 ≡ get_or row k 0
      each k l =
          let T : Thread k (get_or row k 0) = thread k (get_or row k 0) (slice_get-get_or row k 0 l) in
          get_or_from_slice_get (map owner ends) k (owner T.end) 0 (mapped_at owner ends k T.end T.end_at) ∙ whose k (get_or row k 0) T

  names : map (λ l. l.node) (logs_of ends) ≡ row
  names = map-map (λ l. l.node) (λ (e : End). e.log) ends ∙ ends_names

  -- a stranger has no log
  silent : (a : ℕ) → in_world o a ≡ false → log_of a (logs_of ends) ≡ []
  silent a strange = elim (found a (logs_of ends)) [
    | inl none ↦ none
    | inr S ↦ absurd (true≢false (sym (set_of-at row S.place a (ap (λ (ns : List ℕ). slice_get ns S.place) (sym names)
        ∙ mapped_at (λ l. l.node) (logs_of ends) S.place S.log S.here ∙ ap (λ (c : ℕ). Some c) S.whose))
        ∙ sym (ap (λ (s : Nodes). s a) (world_is row cluster)) ∙ strange))
  ]

  -- the nodes of the world have their places, and a stranger has none
  placed : (a : ℕ) → in_world o a ≡ true → (i : ℕ) × (place a row ≡ Some i)
  placed a known = at (place a row) refl
    where
      at : (p : Option ℕ) → place a row ≡ p → (i : ℕ) × (place a row ≡ Some i)
      at None e = absurd (true≢false (sym known ∙ ap (λ (s : Nodes). s a) (world_is row cluster) ∙ no_place row a e))
      at (Some i) e = (i, e)

  unplaced : (a : ℕ) → in_world o a ≡ false → place a row ≡ None
  unplaced a strange = at (place a row) refl
    where
      at : (p : Option ℕ) → place a row ≡ p → p ≡ None
      at None e = refl
      at (Some i) e =
          absurd (true≢false (sym (known_place row a i e) ∙ sym (ap (λ (s : Nodes). s a) (world_is row cluster)) ∙ strange))

  -- the lines of a node lead to all of the row, under the number above its place
  fresh : (i a : ℕ) (T : Thread i a) → T.wired.lines ≡ map (line_to (i + 1)) (inboxes ws)
  fresh i a T = ap (λ (w : Wired). w.lines) (sym (get_or_from_slice_get ws i T.wired T.wired T.wired_at))
      ∙ crew.wired i T.wired (slice_get_within ws i T.wired T.wired_at)

  to_all : (n : ℕ) → receivers (map (line_to n) (inboxes ws)) ≡ row
  to_all n = map-map (λ (l : Sent Item). l.receiver) (line_to n) (inboxes ws)
      ∙ map-map (λ (b : Inbox). b.node) (λ (w : Wired). w.inbox) ws
      ∙ crew.names

  leads : (i a : ℕ) (T : Thread i a) → receivers T.lines ≡ row
  leads i a T = sym (map-map (λ (l : Sent Item). l.receiver) unused T.lines)
      ∙ ap receivers (T.returns.kept ∙ fresh i a T)
      ∙ to_all (i + 1)

  -- so they lead inside the world
  inside : (i a : ℕ) (T : Thread i a) → are_inside o (name_of T.wired) (receivers T.wired.lines) ≡ true
  inside i a T = and_from (in_world o (name_of T.wired)) (list_all (in_world o) (receivers T.wired.lines)) own all
    where
      own : in_world o (name_of T.wired) ≡ true
      own = ap (λ (s : Nodes). s (name_of T.wired)) (world_is row cluster) ∙ ap (set_of row) T.name ∙ set_of-at row i a T.here

      all : list_all (in_world o) (receivers T.wired.lines) ≡ true
      all = ap (list_all (in_world o)) (ap receivers (fresh i a T) ∙ to_all (i + 1))
          ∙ ap (λ (s : Nodes). list_all s row) (world_is row cluster)
          ∙ list_all-from_AllPass (set_of row) row (λ k d l. set_of-at row k (get_or row k d) (slice_get-get_or row k d l))

  -- what its place says that it dealt in is what its lines and its inbox say
  deals : (i a : ℕ) (T : Thread i a) → dealt_by T.lines T.box.taken ≡ dealt_at rows drawn (Some i)
  deals i a T = ap (λ (ls : List (Sent Item)). dealt_by ls T.box.taken) (sym (get_or_from_slice_get rows i T.lines [] T.lines_at))
      ∙ ap (dealt_by (get_or rows i []))
      (sym (get_or_from_slice_get (map (λ (d : Drawn). d.taken) drawn) i T.box.taken []
      (mapped_at (λ (d : Drawn). d.taken) drawn i T.box T.box_at)))

  -- its log and its table tell of it
  tells : (i a : ℕ) (T : Thread i a) → Tells o (logs a) (table_at o ends a (Some i)) (dealt_at rows drawn (Some i))
  tells i a T = told log table (deals i a T)
      (T.returns.tells o T.opens.of T.opens.node (inside i a T))
    where
      entries : log_of a (logs_of ends) ≡ T.end.log.entries
      entries = ap (λ (n : ℕ). log_of n (logs_of ends)) (sym (whose i a T))
          ∙ log_is (logs_of ends) (ap repeats names ∙ once) i T.end.log
          (mapped_at (λ (e : End). e.log) ends i T.end T.end_at)

      log : written T.end.log ≡ logs a
      log = λ j. record { node = whose i a T j; entries = sym entries j }

      table : T.end.table ≡ table_at o ends a (Some i)
      table = sym (get_or_from_slice_get (map (λ (e : End). e.table) ends) i T.end.table (opening_table o a)
          (mapped_at (λ (e : End). e.table) ends i T.end T.end_at))

  tell : (a : ℕ) → in_world o a ≡ true → Tells o (logs a) (tables a) (dealt a)
  tell a known =
      let p : (i : ℕ) × (place a row ≡ Some i) = placed a known in
      subst (λ (q : Option ℕ). Tells o (logs a) (table_at o ends a q) (dealt_at rows drawn q)) (sym p.1)
      (tells p.0 a (thread p.0 a (place_here row a p.0 p.1)))

  all_tell : AllTell o logs tables dealt
  all_tell = record {
    nodes = λ a. refl;
    tell = tell;
    silent = silent;
    bare = λ a strange. ap (table_at o ends a) (unplaced a strange);
  }

  -- what one took from another begins what that put on its way
  pair : (i f j t : ℕ) (F : Thread i f) (T : Thread j t)
      → Begins (took (dealt_at rows drawn (Some j)) f) (put (dealt_at rows drawn (Some i)) t)
  pair i f j t F T =
      subst (λ (d : Dealt). Begins (took d f) (put (dealt_at rows drawn (Some i)) t)) (deals j t T)
      (subst (λ (d : Dealt). Begins (took (dealt_by T.lines T.box.taken) f) (put d t)) (deals i f F)
      (begins row once f t i j F.here T.here F.lines T.lines (leads i f F) (leads j t T) line.0 line.1
      (ap (λ (l : Sent Item). l.number) line.2) T.box.taken both))
    where
      line : (l : Sent Item) × (slice_get F.lines j ≡ Some l) × (unused l ≡ line_to (i + 1) T.wired.inbox)
      line = made_of unused F.lines j (line_to (i + 1) T.wired.inbox)
          (ap (λ (ls : List (Sent Item)). slice_get ls j) (F.returns.kept ∙ fresh i f F)
          ∙ mapped_at (line_to (i + 1)) (inboxes ws) j T.wired.inbox
          (mapped_at (λ (w : Wired). w.inbox) ws j T.wired T.wired_at))

      on_line : get_or (get_or rows i F.lines) j line.0 ≡ line.0
      on_line = ap (λ (ls : List (Sent Item)). get_or ls j line.0) (get_or_from_slice_get rows i F.lines F.lines F.lines_at)
          ∙ get_or_from_slice_get F.lines j line.0 line.0 line.1

      both : Compares line.0 T.box
      both = subst (λ (l : Sent Item). Compares l T.box) on_line
          (subst (λ (d : Drawn). Compares (get_or (get_or rows i F.lines) j line.0) d)
          (get_or_from_slice_get drawn j T.box T.box T.box_at)
          (compared i F.lines (slice_get_within rows i F.lines F.lines_at) j line.0 T.box
          (subst (λ (ls : List (Sent Item)). j < length ls) (sym (get_or_from_slice_get rows i F.lines F.lines F.lines_at))
          (slice_get_within F.lines j line.0 line.1))))

  pairs : (f t : ℕ) → in_world o f ≡ true → in_world o t ≡ true → Begins (took (dealt t) f) (put (dealt f) t)
  pairs f t f_known t_known =
      let p : (i : ℕ) × (place f row ≡ Some i) = placed f f_known in
      let q : (j : ℕ) × (place t row ≡ Some j) = placed t t_known in
      subst (λ (x : Option ℕ). Begins (took (dealt t) f) (put (dealt_at rows drawn x) t)) (sym p.1)
      (subst (λ (y : Option ℕ). Begins (took (dealt_at rows drawn y) f) (put (dealt_at rows drawn (Some p.0)) t)) (sym q.1)
      (pair p.0 f q.0 t (thread p.0 f (place_here row f p.0 p.1)) (thread q.0 t (place_here row t q.0 q.1))))

  -- the table of each end is that of its node
  theirs : AreAll (λ e. e.table ≡ tables e.log.node) ends
  theirs k x l here = sym (ap (table_at o ends x.log.node) (place_is row x.log.node k once stands)
      ∙ get_or_from_slice_get (map (λ (e : End). e.table) ends) k x.table (opening_table o x.log.node)
      (mapped_at (λ (e : End). e.table) ends k x here))
    where
      stands : slice_get row k ≡ Some x.log.node
      stands = ap (λ (ns : List ℕ). slice_get ns k) (sym names)
          ∙ mapped_at (λ l. l.node) (logs_of ends) k x.log (mapped_at (λ (e : End). e.log) ends k x here)

  pub consistent : AreConsistent cluster lone ends
  consistent = record {
    tables = tables;
    theirs = theirs;
    consistent = threads_are_consistent o logs tables dealt all_tell pairs;
  }
