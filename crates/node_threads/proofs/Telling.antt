-- What ends are told of, one after the other, and the run that they have.
use Rattle.std.proofs.Common.{ℕ, zero, suc, Bool, true, false, ◌≡◌, ◌==◌, ◌+◌, ◌<◌, ◌≤◌, inl, inr, List, [], ◌∷◌, ◌++◌, map, length, Vec, refl, sym, ap, subst, ◌∙◌, arith}
use Rattle.std.specs.Prelude.{if◌then◌else◌, ◌||◌, Result, Ok, Err, IfOk, IfErr, MatchResult}
use Rattle.std.specs.declared.alloc.Global.{Global}
use Rattle.std.proofs.Math.Bool.{or-true}
use Rattle.std.proofs.lemmas.Bool.{cases_eq, eq-eqb, eqb-true, ne_eqb}
use Rattle.std.proofs.lemmas.List.{map-append, length-map}
use Rattle.registry_model.specs.Table.{Table}
use Rattle.protocol_model.specs.World.{Opening}
use Rattle.term.specs.Nodes.{name_of}
use Rattle.term.specs.NodeSets.{set_of}
use Rattle.term.proofs.Older.{below_name}
use Rattle.closings.specs.Laws.{steps_below, HasARun}
use Rattle.closings.specs.Merging.{events_in}
use Rattle.closings.proofs.Playing.{consistent_ends_have_a_run}
use Rattle.replay.proofs.Theorem.{agreement}
use Rattle.replay.proofs.ClientLocks.{client_locks}
use Rattle.replay.proofs.Nothing.{nothing_is_left}
use Rattle.node_loop.specs.NodeCoreState.{bound_of}
use Rattle.node_loop.specs.Openings.{opening_with, repeats}
use Rattle.replay.specs.Entries.{SeatedEntry, Logged}
use Rattle.replay.specs.Seen.{seen_entry}
use Rattle.replay.specs.Ends.{End, logs_of}
use Rattle.replay.specs.Consistent.{AreConsistent, seen_logs}
use Rattle.replay.specs.Steps.{log_of}
use Rattle.node_threads.specs.declared.ending.EndedCluster.{EndedCluster}
use Rattle.node_threads.specs.declared.ending.EndFault.{EndFault}
use Rattle.node_threads.specs.declared.ending.EndFault.TheVariants.{LeftInHold, Memory}
use Rattle.node_seats.specs.Books.{Known}
use Rattle.node_threads.specs.Wires.{Wired}
use Rattle.node_threads.specs.Ended.{owner, AllPast}
use Rattle.node_threads.specs.Closing.{GivesBack}
use Rattle.node_threads.specs.Ending.{steps_in, AreWell, last_table, table_told, TellsOf, Adds, IsUntold, IsWhy, RanOut, Ends, EndIs, EndTells}
use Rattle.node_threads.proofs.Stopping.{first_fails, well_in_order}

-- one end more has its steps more
steps_more : (ends : List End) (e : End) → steps_in (ends ++ e ∷ []) ≡ steps_in ends + length e.log.entries
steps_more [] e = none (length e.log.entries)
  where
    none : (n : ℕ) → n + 0 ≡ 0 + n
    none n = omega arith
steps_more (x ∷ ends) e = ap (λ (n : ℕ). length x.log.entries + n) (steps_more ends e)
    ∙ more (length x.log.entries) (steps_in ends) (length e.log.entries)
  where
    more : (k m n : ℕ) → k + (m + n) ≡ (k + m) + n
    more k m n = omega arith

well_more : (ends : List End) (e : End) → AreWell ends → e.ended_alone ≡ false → AreWell (ends ++ e ∷ [])
well_more [] e w own = (own, tt)
well_more (x ∷ ends) e w own = (w.0, well_more ends e w.1 own)

module _ {N M : Type 0} (contents : N → Table) where
  -- so they are told of with one more
  pub told_more : (ends : List End) (e : End) (old new : EndedCluster N M) → TellsOf contents ends old → Adds contents e old new
      → TellsOf contents (ends ++ e ∷ []) new
  told_more ends e old new T A = record {
    count = A.count ∙ ap (λ (n : ℕ). n + length e.log.entries) T.count ∙ sym (steps_more ends e);
    tables = ap (map (table_told contents)) A.tables
        ∙ map-append (table_told contents) old.tables.items ((owner e, A.table) ∷ [])
        ∙ (λ j. T.tables j ++ (owner e, A.contents_are j) ∷ [])
        ∙ sym (map-append last_table ends (e ∷ []));
    well = well_more ends e T.well A.well;
  }

-- where one of them isn't told of, that is why they aren't
pub why : (fault : EndFault) (before rest : List End) (e : End) → AreWell before → IsUntold fault e → IsWhy fault (before ++ e ∷ rest)
why (LeftInHold a) before rest e well U = record {
  before = before;
  end = e;
  rest = rest;
  parts = refl;
  well = well;
  whose = U.0;
  alone = U.1;
}
why Memory before rest e well U = tt

-- the log of a node at the head of a list of logs, and of the others
own_log : (l : Logged) (ls : List Logged) (a : ℕ) → l.node ≡ a → log_of a (l ∷ ls) ≡ l.entries
own_log l ls a e = ap (λ (b : Bool). if b then l.entries else log_of a ls) (eq-eqb l.node a e)

other_log : (l : Logged) (ls : List Logged) (a : ℕ) → (l.node ≡ a → ⊥) → log_of a (l ∷ ls) ≡ log_of a ls
other_log l ls a ne = ap (λ (b : Bool). if b then l.entries else log_of a ls) (ne_eqb l.node a ne)

-- how many steps node a has in its log
abbrev steps_at : List Logged → ℕ → ℕ
steps_at ls a = length (seen_logs ls a)

at_own : (l : Logged) (ls : List Logged) (a : ℕ) → l.node ≡ a → steps_at (l ∷ ls) a ≡ length l.entries
at_own l ls a e = ap (λ (es : List SeatedEntry). length (map seen_entry es)) (own_log l ls a e) ∙ length-map l.entries seen_entry

at_other : (l : Logged) (ls : List Logged) (a : ℕ) → (l.node ≡ a → ⊥) → steps_at (l ∷ ls) a ≡ steps_at ls a
at_other l ls a ne = ap (λ (es : List SeatedEntry). length (map seen_entry es)) (other_log l ls a ne)

-- where nobody has a log there are none
none_below : (n : ℕ) → steps_below (seen_logs []) n ≡ 0
none_below zero = refl
none_below (suc n) = ap (λ (k : ℕ). k + 0) (none_below n)

-- one log more changes nothing below its node
others_below : (l : Logged) (ls : List Logged) (n : ℕ) → n ≤ l.node → steps_below (seen_logs (l ∷ ls)) n ≡ steps_below (seen_logs ls) n
others_below l ls zero le = refl
others_below l ls (suc n) le =
    ap (λ (k : ℕ). k + steps_at (l ∷ ls) n) (others_below l ls n (omega (arith, le)))
    ∙ ap (λ (k : ℕ). steps_below (seen_logs ls) n + k) (at_other l ls n (λ e. omega (arith, le, e)))

-- and above it there are its steps more, where the node had none
own_below : (l : Logged) (ls : List Logged) (n : ℕ) → l.node < n → steps_at ls l.node ≡ 0
    → steps_below (seen_logs (l ∷ ls)) n ≡ length l.entries + steps_below (seen_logs ls) n
own_below l ls zero lt none = absurd (omega (arith, lt))
own_below l ls (suc n) lt none = elim (cases_eq l.node n) [
  | inl e ↦ sum _ _ _ _ _ (others_below l ls n (omega (arith, e))) (at_own l ls n e) (ap (steps_at ls) (sym e) ∙ none)
  | inr ne ↦ further _ _ _ _ _ (own_below l ls n (omega (arith, lt, ne)) none) (at_other l ls n ne)
]
  where
    sum : (x y k b c : ℕ) → x ≡ y → b ≡ k → c ≡ 0 → x + b ≡ k + (y + c)
    sum x y k b c p q r = omega (arith, p, q, r)

    further : (x y k b c : ℕ) → x ≡ k + y → b ≡ c → x + b ≡ k + (y + c)
    further x y k b c p q = omega (arith, p, q)

-- a node that isn't among these has no log
absent : (ends : List End) (a : ℕ) → set_of (map owner ends) a ≡ false → steps_at (logs_of ends) a ≡ 0
absent [] a out = refl
absent (e ∷ ends) a out = go (owner e == a) refl out (λ k. absent ends a k)
  where
    go : (b : Bool) → (owner e == a) ≡ b → (b || set_of (map owner ends) a) ≡ false
        → (set_of (map owner ends) a ≡ false → steps_at (logs_of ends) a ≡ 0) → steps_at (logs_of (e ∷ ends)) a ≡ 0
    go true is out rest = absurd (cc out)
    go false is out rest =
        ap (λ (b : Bool). length (map seen_entry (if b then e.log.entries else log_of a (logs_of ends)))) is ∙ rest out

neither : (x y : Bool) → (x || y) ≡ false → (x ≡ false) × (y ≡ false)
neither true y e = absurd (cc e)
neither false y e = (refl, e)

-- all in all there are those that the ends tell of, where no two are of one node and all nodes are below n
all_below : (ends : List End) (n : ℕ) → repeats (map owner ends) ≡ false → ((a : ℕ) → set_of (map owner ends) a ≡ true → a < n)
    → steps_below (seen_logs (logs_of ends)) n ≡ steps_in ends
all_below [] n once below = none_below n
all_below (e ∷ ends) n once below =
    let apart = neither (set_of (map owner ends) (owner e)) (repeats (map owner ends)) once in
    own_below e.log (logs_of ends) n (below (owner e) (ap (λ (b : Bool). b || set_of (map owner ends) (owner e)) (eq-eqb (owner e) (owner e) refl)))
    (absent ends (owner e) apart.0)
    ∙ ap (λ (k : ℕ). length e.log.entries + k) (all_below ends n apart.1 (λ a here. below a (ap (λ (b : Bool). (owner e == a) || b) here ∙ or-true (owner e == a))))

-- a node is below the bound of a list that it is in
below_bound : (nodes : List ℕ) (a : ℕ) → set_of nodes a ≡ true → a < bound_of nodes
below_bound [] a here = absurd (cc here)
below_bound (c ∷ cs) a here = go (c == a) refl here (λ k. below_bound cs a k)
  where
    go : (b : Bool) → (c == a) ≡ b → (b || set_of cs a) ≡ true → (set_of cs a ≡ true → a < bound_of cs) → a < bound_of (c ∷ cs)
    go true is here rest =
        let own = below_name a in let named : name_of c ≡ name_of a = ap name_of (eqb-true c a is) in omega (arith, own, named)
    go false is here rest = omega (arith, rest here)

-- consistent ends that are told of ran out
pub ran_out : {N M : Type 0} (contents : N → Table) (cluster lone : List ℕ) (ends : List End) (ended : EndedCluster N M)
    → AreConsistent cluster lone ends → map owner ends ≡ cluster ++ lone → repeats (cluster ++ lone) ≡ false
    → TellsOf contents ends ended → RanOut cluster lone ends ended.events
ran_out contents cluster lone ends ended C names once T =
    let o : Opening = opening_with (cluster ++ lone) cluster in
    let run : HasARun o (seen_logs (logs_of ends)) C.tables =
    consistent_ends_have_a_run o (seen_logs (logs_of ends)) C.tables C.consistent in
    record {
      tables = C.tables;
      theirs = C.theirs;
      run = run;
      count = T.count
          ∙ sym (all_below ends (bound_of (cluster ++ lone)) (ap repeats names ∙ once)
          (λ a here. below_bound (cluster ++ lone) a (sym (ap (λ (nodes : List ℕ). set_of nodes a) names) ∙ here)))
          ∙ sym run.count;
      holds = record {
        headline = agreement o (events_in run.steps);
        locks = client_locks o (events_in run.steps);
        leaves_nothing = nothing_is_left o (events_in run.steps);
      };
    }

-- what ending comes to, where the threads gave back these ends
module _ {N M : Type 0} (contents : N → Table) (cluster lone : List ℕ) (crew : List Wired) (ends : List End)
    (back : GivesBack cluster lone crew ends) (once : repeats (cluster ++ lone) ≡ false) where
  abbrev told_so : (ended : EndedCluster N M) → TellsOf contents ends ended → Ends contents cluster lone crew ended
  told_so ended told = record {
    ends = ends;
    back = back;
    told = told;
    order = well_in_order ends back.left told.well;
    run = ran_out contents cluster lone ends ended back.consistent back.names once told;
  }

  ends_so : (r : Result (EndedCluster N M) EndFault) → IfOk r (TellsOf contents ends) → IfErr r (λ fault. IsWhy fault ends)
      → EndIs contents cluster lone crew r
  ends_so (Ok ended) told why = told_so ended told
  ends_so (Err (LeftInHold a)) told why = (ends, back, why, first_fails ends back.left a why)
  ends_so (Err Memory) told why = tt

  -- and with the pasts of their books
  pub ends_telling : (told : Result (EndedCluster N M) EndFault) → IfOk told (TellsOf contents ends) → IfErr told (λ fault. IsWhy fault ends)
      → (pasts : Vec Known Global) → AllPast crew ends pasts.items → (r : Result (EndedCluster N M × Vec Known Global) EndFault)
      → MatchResult r (λ both. (told ≡ Ok both.0) × (both.1 ≡ pasts)) (λ fault. told ≡ Err fault) → EndTells contents cluster lone crew r
  ends_telling told ok why pasts are (Ok both) m = (
    told_so both.0 (subst (λ (t : Result (EndedCluster N M) EndFault). IfOk t (TellsOf contents ends)) m.0 ok),
    subst (λ (v : Vec Known Global). AllPast crew ends v.items) (sym m.1) are,
  )
  ends_telling told ok why pasts are (Err fault) m = subst (EndIs contents cluster lone crew) m (ends_so told ok why)

-- and without them
pub ends_without : {N M : Type 0} (contents : N → Table) (cluster lone : List ℕ) (crew : List Wired)
    (told : Result (EndedCluster N M × Vec Known Global) EndFault) → EndTells contents cluster lone crew told → (r : Result (EndedCluster N M) EndFault)
    → MatchResult told (λ both. r ≡ Ok both.0) (λ fault. r ≡ Err fault) → EndIs contents cluster lone crew r
ends_without contents cluster lone crew (Ok both) tells r m = subst (EndIs contents cluster lone crew) (sym m) tells.0
ends_without contents cluster lone crew (Err fault) tells r m = subst (EndIs contents cluster lone crew) (sym m) tells
