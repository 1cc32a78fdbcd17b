-- What a node does, piece by piece.
use Rattle.std.proofs.Common.{ℕ, Bool, true, false, ◌≡◌, inl, inr, Ok, Err, Option, Some, None, List, [], ◌∷◌, ◌++◌, map, refl, sym, ap, subst, ◌∙◌, append-nil, append_assoc}
use Rattle.std.specs.Prelude.{◌≢◌}
use Rattle.std.specs.List.{list_all}
use Rattle.std.proofs.lemmas.Bool.{and_from, true≢false, false≢true}
use Rattle.std.proofs.lemmas.Grind.{flat_map-append}
use Rattle.std.proofs.lemmas.List.{map-append}
use Rattle.std.proofs.lemmas.List.Folds.{list_all-append}
use Rattle.letter_lines.specs.declared.faults.LetterFault.{LetterFault}
use Rattle.letter_lines.specs.declared.faults.LetterFault.TheVariants as letter
use Rattle.node_loop.specs.declared.fault.TurnFault.{TurnFault}
use Rattle.node_loop.specs.declared.fault.TurnFault.TheVariants.{StampsSpent, Memory}
use Rattle.node_loop.specs.Held.{Looping}
use Rattle.node_loop.specs.Steps.{Outcome}
use Rattle.node_loop.specs.Told.{Told}
use Rattle.wire_end.specs.declared.faults.HearFault.{HearFault}
use Rattle.wire_end.specs.declared.faults.HearFault.TheVariants.{NoSuchNode, Gap, Stray, Part}
use Rattle.wire_end.specs.declared.line.LinkLine.{LinkLine}
use Rattle.wire_end.specs.declared.wire_end.Wiring.{Wiring}
use Rattle.wire_end.specs.Hearing.{Hears, RefusesAt, Loses, LosesAt}
use Rattle.wire_end.specs.Wirings.{place}
use Rattle.node_port.specs.Commands.{Taken, Strange, Misplaced, Unfit, Astray, TakenAs, is_done}
use Rattle.node_port.specs.Deeds.{Stand, Deed, Turn, Show, Hand, Does, DoesAll, BreaksOff, IsAllTold, change_by, changes_by, reply_by, replies_by, goes_on, all_go_on, is_still}
use Rattle.node_port.specs.Playing.{Gives, EndsFor, said, spent}
use Rattle.node_port.specs.Shown.{Shown, Tells, Spends}
use Rattle.node_port.specs.Working.{stand_of, Grows, Works, ShowsAll, ShowsStill, GoesOn, ComesTo, stands_behind, Concludes, EndsIn, Settles, RefusesFor, PlaysAt}
use Rattle.node_port.specs.declared.commands.Command.TheVariants.{Letter, Down}
use Rattle.node_port.specs.declared.port.Port.{Port}
use Rattle.node_port.specs.declared.port.Standing.{Standing}
use Rattle.node_port.specs.declared.port.Standing.TheVariants.{Runs, HasLeft, Broken, Spent}
use Rattle.node_port.proofs.Stands.{stand_is}
use Rattle.node_port.proofs.Growing.{grows_none, grows_on, grows_as, grows_from}

-- one thing behind the other
pub does_on : (ds es : List Deed) (a b c : Stand) → DoesAll ds a b → DoesAll es b c → DoesAll (ds ++ es) a c
does_on [] es a b c h k = subst (λ (x : Stand). DoesAll es x c) h k
does_on (d ∷ ds) es a b c h k = (h.0, h.1, does_on ds es h.0 b c h.2 k)

pub replies_more : (ds es : List Deed) → map Tells (replies_by (ds ++ es)) ≡ map Tells (replies_by ds) ++ map Tells (replies_by es)
replies_more ds es = ap (λ (ts : List Told). map Tells ts) (flat_map-append reply_by ds es) ∙ map-append Tells (replies_by ds) (replies_by es)

pub works_none : (a : Port) → Works [] a a
works_none a = record { does = refl; grows = grows_none a.output; told = λ e. e }

pub works_on : (ds es : List Deed) (a b c : Port) → Works ds a b → Works es b c → Works (ds ++ es) a c
works_on ds es a b c W V = record {
  does = does_on ds es (stand_of a) (stand_of b) (stand_of c) W.does V.does;
  grows = grows_as (changes_by ds ++ changes_by es) (changes_by (ds ++ es)) (map Tells (replies_by ds) ++ map Tells (replies_by es)) (map Tells (replies_by (ds ++ es)))
      a.output c.output (sym (flat_map-append change_by ds es)) (sym (replies_more ds es))
      (grows_on (changes_by ds) (changes_by es) (map Tells (replies_by ds)) (map Tells (replies_by es)) a.output b.output c.output W.grows V.grows);
  told = λ e. V.told (W.told e);
}

pub go_on_more : (ds es : List Deed) → all_go_on ds ≡ true → all_go_on es ≡ true → all_go_on (ds ++ es) ≡ true
go_on_more ds es e f = list_all-append goes_on ds es ∙ and_from (all_go_on ds) (all_go_on es) e f

pub still_more : (ds es : List Deed) → list_all is_still ds ≡ true → list_all is_still es ≡ true → list_all is_still (ds ++ es) ≡ true
still_more ds es e f = list_all-append is_still ds es ∙ and_from (list_all is_still ds) (list_all is_still es) e f

-- what is no turn goes on
pub still_goes : (ds : List Deed) → list_all is_still ds ≡ true → all_go_on ds ≡ true
still_goes [] e = refl
still_goes (Turn r ∷ ds) e = absurd (false≢true e)
still_goes (Show c ∷ ds) e = still_goes ds e
still_goes (Hand t ∷ ds) e = still_goes ds e

breaks_behind : (ds es : List Deed) → all_go_on ds ≡ true → BreaksOff es → BreaksOff (ds ++ es)
breaks_behind ds es e B = record {
  before = ds ++ B.before;
  after = B.after;
  split = ap (λ (x : List Deed). ds ++ x) B.split ∙ sym (append_assoc ds B.before (Turn (Err StampsSpent) ∷ B.after));
  made = go_on_more ds B.before e B.made;
  still = B.still;
}

-- shown, and more shown
pub shows_on : (a b c : Port) → ShowsStill a b → ShowsStill b c → ShowsStill a c
shows_on a b c S T = (S.0 ++ T.0, works_on S.0 T.0 a b c S.1 T.1, still_more S.0 T.0 S.2 T.2)

pub shows_all : (a b : Port) → ShowsStill a b → IsAllTold b.node → ShowsAll a b
shows_all a b S all = record { deeds = S.0; works = S.1; still = S.2; all = all }

-- turns
pub goes_nowhere : (a : Port) → GoesOn a a
goes_nowhere a = ([], works_none a, refl)

pub goes_further : (a b c : Port) → GoesOn a b → GoesOn b c → GoesOn a c
goes_further a b c G H = (G.0 ++ H.0, works_on G.0 H.0 a b c G.1 H.1, go_on_more G.0 H.0 G.2 H.2)

pub comes_behind : (r : Outcome) (a b c : Port) → GoesOn a b → ComesTo r b c → ComesTo r a c
comes_behind (Ok u) a b c G C = goes_further a b c G C
comes_behind (Err StampsSpent) a b c G C = (G.0 ++ C.0, works_on G.0 C.0 a b c G.1 C.1, breaks_behind G.0 C.0 G.2 C.2)
comes_behind (Err Memory) a b c G C = tt

-- one turn, behind which all is shown
pub turned : (r : Outcome) (a m b : Port) → Does (Turn r) (stand_of a) (stand_of m) → m.output ≡ a.output → ShowsAll m b → ComesTo r a b
turned r a m b T same S = go r T
  where
    works : (q : Outcome) → Does (Turn q) (stand_of a) (stand_of m) → Works (Turn q ∷ S.deeds) a b
    works q T = record {
      does = (stand_of m, T, S.works.does);
      grows = grows_from (changes_by S.deeds) (map Tells (replies_by S.deeds)) a.output m.output b.output same S.works.grows;
      told = λ e. S.all;
    }

    go : (q : Outcome) → Does (Turn q) (stand_of a) (stand_of m) → ComesTo q a b
    go (Ok u) T = (Turn (Ok u) ∷ S.deeds, works (Ok u) T, still_goes S.deeds S.still)
    go (Err StampsSpent) T = (
      Turn (Err StampsSpent) ∷ S.deeds,
      works (Err StampsSpent) T,
      record { before = []; after = S.deeds; split = refl; made = refl; still = S.still },
    )
    go (Err Memory) T = tt

-- how the node stands behind turns
pub settles : (r : Outcome) (s : Standing) (a m b : Port) → ComesTo r a m → Concludes r s m b → Settles s a b
settles (Ok u) s a m b C K =
    subst (λ (x : Port). Settles s a x) (sym K.1) (subst (λ (x : Standing). Settles x a m) (sym K.0) (go m.node.left refl))
  where
    grown : Grows (changes_by C.0) (map Tells (replies_by C.0) ++ []) a.output m.output
    grown = grows_as (changes_by C.0) (changes_by C.0) (map Tells (replies_by C.0)) (map Tells (replies_by C.0) ++ []) a.output m.output refl
        (sym (append-nil (map Tells (replies_by C.0)))) C.1.grows

    go : (l : Bool) → m.node.left ≡ l → Settles (stands_behind l) a m
    go true e = record { deeds = C.0; does = C.1.does; ends = (C.2, e); told = C.1.told; grows = grown }
    go false e = record { deeds = C.0; does = C.1.does; ends = C.2; told = C.1.told; grows = grown }
settles (Err StampsSpent) s a m b C K = subst (λ (x : Standing). Settles x a b) (sym K.0) (record {
  deeds = C.0;
  does = subst (λ (x : Stand). DoesAll C.0 (stand_of a) x) (sym K.1) C.1.does;
  ends = C.2;
  told = λ e. subst (λ (x : Stand). IsAllTold x.loop) (sym K.1) (C.1.told e);
  grows = grows_as (changes_by C.0 ++ []) (changes_by C.0) (map Tells (replies_by C.0) ++ Spends ∷ []) (map Tells (replies_by C.0) ++ Spends ∷ []) a.output b.output
      (append-nil (changes_by C.0)) refl
      (grows_on (changes_by C.0) [] (map Tells (replies_by C.0)) (Spends ∷ []) a.output m.output b.output C.1.grows K.2);
})
settles (Err Memory) s a m b C K = absurd K

ends_for : (s : Standing) (taken : Taken) (deeds : List Deed) (loop : Looping) → EndsIn s deeds loop → EndsFor s taken deeds loop
ends_for Runs taken deeds loop h = h
ends_for HasLeft taken deeds loop h = h
ends_for Broken taken deeds loop h = absurd h
ends_for Spent taken deeds loop h = h

-- something is given to the node's end, and the node turns
pub plays : (taken : Taken) (s : Standing) (a first b : Port) → Gives taken (stand_of a) (stand_of first) → first.node ≡ a.node
    → first.output ≡ a.output → said taken a.node ≡ [] → is_done taken ≡ true → Settles s first b → PlaysAt taken s (spent s) a b
plays taken s a first b given loop output silent done S = record {
  first = stand_of first;
  gives = given;
  deeds = S.deeds;
  does = S.does;
  done = λ e. absurd (true≢false (sym done ∙ e));
  ends = ends_for s taken S.deeds b.node S.ends;
  told = λ e. S.told (subst (λ (l : Looping). IsAllTold l) (sym loop) e);
  grows = grows_from (changes_by S.deeds) (map Tells (replies_by S.deeds) ++ (said taken a.node ++ spent s)) a.output first.output b.output output
      (grows_as (changes_by S.deeds) (changes_by S.deeds) (map Tells (replies_by S.deeds) ++ spent s) (map Tells (replies_by S.deeds) ++ (said taken a.node ++ spent s))
      first.output b.output refl
      (ap (λ (xs : List Shown). map Tells (replies_by S.deeds) ++ (xs ++ spent s)) (sym silent)) S.grows);
}

-- a line changes nothing, and is answered
pub answers : (taken : Taken) (s : Standing) (more : List Shown) (a b : Port) → Gives taken (stand_of a) (stand_of a) → stand_of b ≡ stand_of a
    → EndsFor s taken [] a.node → Grows [] (said taken a.node ++ more) a.output b.output → PlaysAt taken s more a b
answers taken s more a b given same ends G = record {
  first = stand_of a;
  gives = given;
  deeds = [];
  does = same;
  done = λ e. refl;
  ends = subst (λ (x : Stand). EndsFor s taken [] x.loop) (sym same) ends;
  told = λ e. subst (λ (x : Stand). IsAllTold x.loop) (sym same) e;
  grows = G;
}

-- a line that isn't taken changed nothing, unless memory was refused
unchanged : (fault : HearFault) (from : ℕ) (line : LinkLine) (s t : Wiring) → Hears from line (Err fault) s t → (fault ≡ Part letter.Memory → ⊥) → t ≡ s
unchanged fault from line s t h ne = go (place from s.wires) h
  where
    go : (at : Option ℕ) → RefusesAt at from line fault s t → t ≡ s
    go None h = h.1
    go (Some k) (inl x) = x.1
    go (Some k) (inr (inl e)) = absurd (ne e.0)
    go (Some k) (inr (inr x)) = x.2

-- what is behind a refusal
module _ (a m b : Port) (loop : m.node ≡ a.node) (output : m.output ≡ a.output) (still : stand_of b ≡ stand_of m) where
  same : m.end ≡ a.end → stand_of b ≡ stand_of a
  same e = still ∙ stand_is (stand_of m) a.node a.end loop e

  shown_so : (xs : List Shown) → Grows [] xs m.output b.output → Grows [] (xs ++ []) a.output b.output
  shown_so xs G = grows_from [] (xs ++ []) a.output m.output b.output output
      (grows_as [] [] xs (xs ++ []) m.output b.output refl (sym (append-nil xs)) G)

  heard_gap : (from : ℕ) (line : LinkLine) (s : Standing) → Hears from line (Err Gap) a.end m.end → RefusesFor Gap from line.number s m b
      → PlaysAt (Misplaced from line) s (spent s) a b
  heard_gap from line s h R =
      let e : m.end ≡ a.end = unchanged Gap from line a.end m.end h (λ x. cc x) in
      subst (λ (x : Standing). PlaysAt (Misplaced from line) x (spent x) a b) (sym R.0)
      (answers (Misplaced from line) Broken [] a b (refl, subst (λ (x : Wiring). Hears from line (Err Gap) a.end x) e h) (same e) (refl, tt) (shown_so _ R.1))

  heard_stray : (from : ℕ) (line : LinkLine) (s : Standing) → Hears from line (Err Stray) a.end m.end → RefusesFor Stray from line.number s m b
      → PlaysAt (Astray from line) s (spent s) a b
  heard_stray from line s h R =
      let e : m.end ≡ a.end = unchanged Stray from line a.end m.end h (λ x. cc x) in
      subst (λ (x : Standing). PlaysAt (Astray from line) x (spent x) a b) (sym R.0)
      (answers (Astray from line) Runs [] a b (refl, subst (λ (x : Wiring). Hears from line (Err Stray) a.end x) e h) (same e) refl (shown_so _ R.1))

  heard_strange : (from : ℕ) (line : LinkLine) (s : Standing) → Hears from line (Err NoSuchNode) a.end m.end
      → RefusesFor NoSuchNode from line.number s m b → PlaysAt (Strange (Letter from line)) s (spent s) a b
  heard_strange from line s h R =
      let e : m.end ≡ a.end = unchanged NoSuchNode from line a.end m.end h (λ x. cc x) in
      subst (λ (x : Standing). PlaysAt (Strange (Letter from line)) x (spent x) a b) (sym R.0)
      (answers (Strange (Letter from line)) Runs [] a b (refl, subst (λ (x : Wiring). Hears from line (Err NoSuchNode) a.end x) e h) (same e) refl
      (shown_so _ R.1))

  heard_part : (f : LetterFault) (from : ℕ) (line : LinkLine) (s : Standing) → Hears from line (Err (Part f)) a.end m.end
      → RefusesFor (Part f) from line.number s m b → PlaysAt (Unfit from line f) s (spent s) a b
  heard_part f from line s h R =
      let e : m.end ≡ a.end = unchanged (Part f) from line a.end m.end h (λ x. R.1 (cc x)) in
      subst (λ (x : Standing). PlaysAt (Unfit from line f) x (spent x) a b) (sym R.0)
      (answers (Unfit from line f) Runs [] a b (refl, R.1, subst (λ (x : Wiring). Hears from line (Err (Part f)) a.end x) e h) (same e) refl
      (shown_so _ R.2))

  -- a line of a link isn't taken
  pub not_heard : (fault : HearFault) (from : ℕ) (line : LinkLine) (s : Standing) → Hears from line (Err fault) a.end m.end
      → RefusesFor fault from line.number s m b → (taken : Taken) × TakenAs (Letter from line) taken × PlaysAt taken s (spent s) a b
  not_heard Gap from line s h R = (Misplaced from line, refl, heard_gap from line s h R)
  not_heard Stray from line s h R = (Astray from line, refl, heard_stray from line s h R)
  not_heard NoSuchNode from line s h R = (Strange (Letter from line), refl, heard_strange from line s h R)
  not_heard (Part f) from line s h R = (Unfit from line f, refl, heard_part f from line s h R)

  -- the word that a node is gone isn't taken: there is no such node
  pub not_lost : (fault : HearFault) (node : ℕ) (s : Standing) → Loses node (Err fault) a.end m.end → RefusesFor fault node 0 s m b
      → (taken : Taken) × TakenAs (Down node) taken × PlaysAt taken s (spent s) a b
  not_lost fault node s h R = go (place node a.end.wires) h
    where
      strange : fault ≡ NoSuchNode → m.end ≡ a.end → PlaysAt (Strange (Down node)) s (spent s) a b
      strange is e =
          let Q : RefusesFor NoSuchNode node 0 s m b = subst (λ (x : HearFault). RefusesFor x node 0 s m b) is R in
          let L : Loses node (Err NoSuchNode) a.end m.end = subst (λ (x : HearFault). Loses node (Err x) a.end m.end) is h in
          subst (λ (x : Standing). PlaysAt (Strange (Down node)) x (spent x) a b) (sym Q.0)
          (answers (Strange (Down node)) Runs [] a b (refl, subst (λ (x : Wiring). Loses node (Err NoSuchNode) a.end x) e L) (same e) refl
          (shown_so _ Q.1))

      go : (at : Option ℕ) → LosesAt at node (Err fault) a.end m.end
          → (taken : Taken) × TakenAs (Down node) taken × PlaysAt taken s (spent s) a b
      go None l = (Strange (Down node), refl, strange (cc (l.0)) l.1)
      go (Some k) l = absurd ((subst (λ (x : HearFault). RefusesFor x node 0 s m b) l.0 R).1 refl)

-- and the last word of a line
pub waits : (taken : Taken) (s : Standing) (more w : List Shown) (a b c : Port) → PlaysAt taken s more a b → stand_of c ≡ stand_of b
    → Grows [] w b.output c.output → PlaysAt taken s (more ++ w) a c
waits taken s more w a b c P same G = record {
  first = P.first;
  gives = P.gives;
  deeds = P.deeds;
  does = subst (λ (x : Stand). DoesAll P.deeds P.first x) (sym same) P.does;
  done = P.done;
  ends = subst (λ (x : Stand). EndsFor s taken P.deeds x.loop) (sym same) P.ends;
  told = λ e. subst (λ (x : Stand). IsAllTold x.loop) (sym same) (P.told e);
  grows = grows_as (changes_by P.deeds ++ []) (changes_by P.deeds) (said_so ++ w) (map Tells (replies_by P.deeds) ++ (said taken a.node ++ (more ++ w)))
      a.output c.output (append-nil (changes_by P.deeds)) together
      (grows_on (changes_by P.deeds) [] said_so w a.output b.output c.output P.grows G);
}
  where
    told : List Shown
    told = map Tells (replies_by P.deeds)

    said_so : List Shown
    said_so = map Tells (replies_by P.deeds) ++ (said taken a.node ++ more)

    together : said_so ++ w ≡ map Tells (replies_by P.deeds) ++ (said taken a.node ++ (more ++ w))
    together = append_assoc told (said taken a.node ++ more) w ∙ ap (λ (xs : List Shown). told ++ xs) (append_assoc (said taken a.node) more w)

-- what ended a turn is handed on
pub hands_on : (r : Outcome) (x y : TurnFault) (a b : Port) → r ≡ Err y → y ≡ x → ComesTo (Err x) a b → ComesTo r a b
hands_on r x y a b e f C =
    subst (λ (q : Outcome). ComesTo q a b) (sym e) (subst (λ (z : TurnFault). ComesTo (Err z) a b) (sym f) C)

-- turns that were made conclude so
pub concludes_made : (r : Outcome) (u : Unit {0}) (s : Standing) (a : Port) → r ≡ Ok u → s ≡ stands_behind a.node.left → Concludes r s a a
concludes_made r u s a e f = subst (λ (q : Outcome). Concludes q s a a) (sym e) (f, refl)

-- and so do turns of which one found no stamp
pub concludes_spent : (r : Outcome) (x : TurnFault) (a b : Port) → r ≡ Err x → x ≡ StampsSpent → stand_of b ≡ stand_of a
    → Grows [] (Spends ∷ []) a.output b.output → Concludes r Spent a b
concludes_spent r x a b e f same G = subst (λ (q : Outcome). Concludes q Spent a b) (sym (e ∙ ap Err f)) (refl, same, G)
