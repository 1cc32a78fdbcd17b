-- Events without joins and departures: the cluster stays that of the opening, and its nodes show one table and one
-- group.
use Rattle.std.proofs.Common.{ℕ, Bool, true, false, ◌==◌, ◌≡◌, ◌+◌, List, [], ◌∷◌, ◌++◌, refl, sym, ap, ◌∙◌, subst}
use Rattle.std.specs.Prelude.{not, ◌&&◌, filter, flat_map, fold, is_none, if◌then◌else◌}
use Rattle.std.specs.List.{list_all}
use Rattle.std.proofs.Math.Path.{fun_ext}
use Rattle.std.proofs.lemmas.Bool.{eq-eqb, and_from}
use Rattle.std.proofs.lemmas.List.Folds.{list_all-append}
use Rattle.std.proofs.Math.Bool.{and-true}
use Rattle.registry_model.specs.Process.{Process, Nodes, nobody, at}
use Rattle.registry_model.specs.Table.{Table, without, changed, StrikeOwner}
use Rattle.registry_model.specs.Call.{is_grant, change_of}
use Rattle.registry_model.specs.Settlement.{Notice}
use Rattle.registry_model.specs.Registry.{Registry, Replica, with_table, process_of, replica_of}
use Rattle.registry_model.specs.History.{Entry, Name, Strike, Join, Done, Exit, Left, Told, Read, Standing, effect, after, nothing_yet}
use Rattle.registry_model.specs.Legal.{is_legal, all_legal, IsLegal}
use Rattle.registry_model.proofs.HistoryParts.{registry-after}
use Rattle.protocol_model.specs.Event.{Call, Event}
use Rattle.protocol_model.specs.World.{Opening, in_world, in_cluster, World, WorldEvent, At, Deliver, opening_world, refusal, happens}
use Rattle.protocol_model.specs.Course.{Played, played, course, entries_of}
use Rattle.protocol_model.specs.Fit.{Numbered, NameAs, JoinAs, numbered, is_numbered, calls_in, number_from, accepted_at, decided_at, is_left, left_of, Fits}
use Rattle.moves.proofs.Indices.{both}
use Rattle.replicas.proofs.Legality.{hold_at-joined}
use Rattle.headline.specs.Clauses.{events, so_far}
use Rattle.headline.specs.Laws.{is_fixed, FixedAgreement}
use Rattle.headline.proofs.Theorem.{agreement, history_grows, history_is_legal, history_fits, shows_when_free}

-- accepted events are among those that were tried
fixed_course : (o : Opening) (w : World) (es : List WorldEvent) → list_all is_fixed es ≡ true
    → list_all (λ p. is_fixed p.event) (course o w es) ≡ true
fixed_course o w [] h = refl
fixed_course o w (e ∷ es) h = go (is_none (refusal o w e)) (fixed_course o (happens o w e) es parts.1)
  where
    parts : (is_fixed e ≡ true) × (list_all is_fixed es ≡ true)
    parts = both (is_fixed e) (list_all is_fixed es) h

    go : (b : Bool) → list_all (λ p. is_fixed p.event) (course o (happens o w e) es) ≡ true
        → list_all (λ p. is_fixed p.event) ((if b then played o w e ∷ [] else []) ++ course o (happens o w e) es) ≡ true
    go true more = and_from _ _ parts.0 more
    go false more = more

-- none of them is a leave
no_leave : (ps : List Played) → list_all (λ p. is_fixed p.event) ps ≡ true → flat_map left_of ps ≡ []
no_leave [] h = refl
no_leave (p ∷ ps) h = ap (λ (es : List Entry). es ++ flat_map left_of ps) (none p.event parts.0) ∙ no_leave ps parts.1
  where
    parts : (is_fixed p.event ≡ true) × (list_all (λ q. is_fixed q.event) ps ≡ true)
    parts = both (is_fixed p.event) (list_all (λ q. is_fixed q.event) ps) h

    none : (e : WorldEvent) → is_fixed e ≡ true
        → ◌≡◌ {A = List Entry} (elim e [ At a Event.Leave ↦ Left a ∷ [] | _ ↦ [] ]) []
    none (At a Event.Leave) f = cc
    none (At a (Event.Calling c)) f = refl
    none (At a Event.Retry) f = refl
    none (At a (Event.Exiting q)) f = refl
    none (Deliver f t) i = refl

-- and none a join
abbrev pub is_name : Numbered → Bool
is_name (NameAs k call) = true
is_name (JoinAs k m) = false

abbrev pub is_no_join : Call → Bool
is_no_join (Call.JoinBy m) = false
is_no_join _ = true

no_joins : (a : ℕ) (ps : List Played) → list_all (λ p. is_fixed p.event) ps ≡ true
    → list_all is_no_join (flat_map (calls_in a) ps) ≡ true
no_joins a [] h = refl
no_joins a (p ∷ ps) h = list_all-append is_no_join (calls_in a p) (flat_map (calls_in a) ps)
    ∙ and_from _ _ (none p.event parts.0) (no_joins a ps parts.1)
  where
    parts : (is_fixed p.event ≡ true) × (list_all (λ q. is_fixed q.event) ps ≡ true)
    parts = both (is_fixed p.event) (list_all (λ q. is_fixed q.event) ps) h

    kept : (c : Call) (b : Bool) → is_no_join c ≡ true → list_all is_no_join (if b then c ∷ [] else []) ≡ true
    kept c true i = and_from _ _ i refl
    kept c false i = refl

    none : (e : WorldEvent) → is_fixed e ≡ true
        → list_all is_no_join (elim e [
          | At b (Event.Calling c) ↦ if b == a && is_numbered c then c ∷ [] else []
          | _ ↦
              []
        ]) ≡ true
    none (At b (Event.Calling (Call.JoinBy m))) i = cc
    none (At b (Event.Calling Call.Spawn)) i = kept Call.Spawn (b == a && false) refl
    none (At b (Event.Calling (Call.LookUp look))) i = kept (Call.LookUp look) (b == a && false) refl
    none (At b (Event.Calling (Call.OnName c))) i = kept (Call.OnName c) (b == a && true) refl
    none (At b (Event.Calling (Call.SetLock q r s target retries))) i = kept (Call.SetLock q r s target retries)
        (b == a && true) refl
    none (At b (Event.Calling (Call.DelLock q r s target))) i = kept (Call.DelLock q r s target) (b == a && true) refl
    none (At b Event.Leave) i = refl
    none (At b Event.Retry) i = refl
    none (At b (Event.Exiting q)) i = refl
    none (Deliver f t) i = refl

names_only : (k : ℕ) (cs : List Call) → list_all is_no_join cs ≡ true → list_all is_name (number_from k cs) ≡ true
names_only k [] h = refl
names_only k (c ∷ cs) h = list_all-append is_name (numbered k c) (number_from (k + 1) cs)
    ∙ and_from _ _ (one c parts.0) (names_only (k + 1) cs parts.1)
  where
    parts : (is_no_join c ≡ true) × (list_all is_no_join cs ≡ true)
    parts = both (is_no_join c) (list_all is_no_join cs) h

    one : (c : Call) → is_no_join c ≡ true → list_all is_name (numbered k c) ≡ true
    one (Call.JoinBy m) i = cc
    one (Call.OnName call) i = refl
    one _ i = refl

-- an entry that lets nobody join or leave
abbrev pub is_settled : Entry → Bool
is_settled (Join j k m reply) = false
is_settled (Left d) = false
is_settled _ = true

all_settled : (es : List Entry) → filter is_left es ≡ []
    → ((a : ℕ) → list_all is_name (flat_map (decided_at a) es) ≡ true) → list_all is_settled es ≡ true
all_settled [] l h = refl
all_settled (Left d ∷ es) l h = cc
all_settled (Join j k m reply ∷ es) l h =
    absurd
    (cc
    (sym (ap (λ (b : Bool). list_all is_name ((if b then JoinAs k m ∷ [] else []) ++ flat_map (decided_at j) es))
    (eq-eqb j j refl)) ∙ h j))
all_settled (Name b k call reply ∷ es) l h =
    all_settled es l (λ a. (both _ _
    (sym (list_all-append is_name (decided_at a (Name b k call reply)) (flat_map (decided_at a) es)) ∙ h a)).1)
all_settled (Strike p ∷ es) l h = all_settled es l h
all_settled (Done n ∷ es) l h = all_settled es l h
all_settled (Exit p ∷ es) l h = all_settled es l h
all_settled (Told n d ∷ es) l h = all_settled es l h
all_settled (Read n look reply ∷ es) l h = all_settled es l h

-- the cluster is that of the opening, nobody has left, nobody is told of a departure, and nobody was sent anything
pub record IsFixed (cluster : Nodes) (r : Registry) : Type 0 where
  pub joined : (c : ℕ) → r.joined c ≡ cluster c
  pub left : (c : ℕ) → r.left c ≡ false
  pub told : (n d : ℕ) → r.told n d ≡ false
  pub notices : (p : Process) → r.notices p ≡ []

fixed_table : (cluster : Nodes) (n : ℕ) (f : Table → Table) (r : Registry) → IsFixed cluster r
    → IsFixed cluster (with_table n f r)
fixed_table cluster n f r F = go (r.joined n)
  where
    go : (b : Bool) → IsFixed cluster
        (if b then record r { table = f r.table } else record r { lone = at r.lone n (f (r.lone n)) })
    go true = record { joined = F.joined; left = F.left; told = F.told; notices = F.notices }
    go false = record { joined = F.joined; left = F.left; told = F.told; notices = F.notices }

fixed_after : (cluster : Nodes) (s : Standing) (e : Entry) → IsFixed cluster s.registry → is_legal s e ≡ true
    → is_settled e ≡ true → IsFixed cluster (effect e s.registry)
fixed_after cluster s (Name n k call reply) F l i = go (is_grant reply)
  where
    go : (b : Bool) → IsFixed cluster (if b then with_table n (changed (change_of call)) s.registry else s.registry)
    go true = fixed_table cluster n (changed (change_of call)) s.registry F
    go false = F
fixed_after cluster s (Strike p) F l i = fixed_table cluster p.node (changed (StrikeOwner p)) s.registry F
fixed_after cluster s (Join j k m reply) F l i = cc
fixed_after cluster s (Done n) F l i = F
fixed_after cluster s (Exit p) F l i = record { joined = F.joined; left = F.left; told = F.told; notices = F.notices }
fixed_after cluster s (Left d) F l i = cc
fixed_after cluster s (Told n d) F l i = cc (F.left d, l)
fixed_after cluster s (Read n look reply) F l i = F

fixed_along : (cluster : Nodes) (es : List Entry) (s : Standing) → IsFixed cluster s.registry → all_legal s es ≡ true
    → list_all is_settled es ≡ true
    → IsFixed cluster (fold after s es).registry
fixed_along cluster [] s F l i = F
fixed_along cluster (e ∷ es) s F l i =
    let legals : (is_legal s e ≡ true) × (all_legal (after s e) es ≡ true) = both (is_legal s e)
    (all_legal (after s e) es) l in
    let parts : (is_settled e ≡ true) × (list_all is_settled es ≡ true) = both (is_settled e)
    (list_all is_settled es) i in
    fixed_along cluster es (after s e)
    (subst (IsFixed cluster) (sym (registry-after s e)) (fixed_after cluster s e F legals.0 parts.0)) legals.1
    parts.1

without_none : (gone : Nodes) (t : Table) → ((c : ℕ) → gone c ≡ false) → without gone t ≡ t
without_none gone [] none = refl
without_none gone (e ∷ t) none = ap (λ (b : Bool). if not b then e ∷ without gone t else without gone t)
    (none e.owner.node)
    ∙ ap (λ (u : Table). e ∷ u) (without_none gone t none)

-- what a node of a fixed cluster shows
fixed_replica : (cluster : Nodes) (r : Registry) → IsFixed cluster r → (a : ℕ) → cluster a ≡ true
    → replica_of r a ≡ record { table = r.table; members = cluster; told = nobody; joined = true; notices = λ serial. [] }
fixed_replica cluster r F a inside = go (without (r.told a) (if r.joined a then r.table else r.lone a))
    (ap (λ (b : Bool). without (r.told a) (if b then r.table else r.lone a)) joined
    ∙ without_none (r.told a) r.table (F.told a))
    (λ c. (if r.joined a then r.joined c else c == a) && not (r.told a c))
    (fun_ext (λ c. ap (λ (b : Bool). (if b then r.joined c else c == a) && not (r.told a c)) joined
    ∙ ap (λ (b : Bool). r.joined c && not b) (F.told a c) ∙ and-true (r.joined c) ∙ F.joined c))
    (r.told a) (fun_ext (F.told a)) (r.joined a) joined
    (λ serial. r.notices (process_of a serial)) (fun_ext (λ serial. F.notices (process_of a serial)))
  where
    joined : r.joined a ≡ true
    joined = F.joined a ∙ inside

    go : (t : Table) → t ≡ r.table → (m : Nodes) → m ≡ cluster → (g : Nodes) → g ≡ nobody → (j : Bool) → j ≡ true
        → (ns : ℕ → List Notice) → ns ≡ (λ serial. [])
        → ◌≡◌ {A = Replica} (record { table = t; members = m; told = g; joined = j; notices = ns })
        (record { table = r.table; members = cluster; told = nobody; joined = true; notices = λ serial. [] })
    go t te m me g ge j je ns ne =
        ap (λ (x : Table). record { table = x; members = m; told = g; joined = j; notices = ns }) te
        ∙ ap (λ (x : Nodes). record { table = r.table; members = x; told = g; joined = j; notices = ns }) me
        ∙ ap (λ (x : Nodes). record { table = r.table; members = cluster; told = x; joined = j; notices = ns }) ge
        ∙ ap (λ (x : Bool). record { table = r.table; members = cluster; told = nobody; joined = x; notices = ns }) je
        ∙ ap (λ (x : ℕ → List Notice). record {
          table = r.table;
          members = cluster;
          told = nobody;
          joined = true;
          notices = x;
        }) ne

-- the headline without joins and departures
pub fixed_membership : FixedAgreement
fixed_membership o es h = record {
  headline = agreement o es;
  cluster = fixed.joined;
  stays = fixed.left;
  shows = λ a inside none.
      shows_when_free o es a ((both (in_world o a) (o.cluster a) inside).0, fixed.left a)
      (ap is_none (hold_at-joined (so_far o es) a (fixed.joined a ∙ inside) ∙ none))
      ∙ fixed_replica (in_cluster o) (so_far o es).registry fixed a inside;
}
  where
    ps : List Played
    ps = events o es

    held : list_all (λ p. is_fixed p.event) ps ≡ true
    held = fixed_course o (opening_world o) es h

    fits : Fits ps
    fits = history_fits o es

    names : (a : ℕ) → list_all is_name (flat_map (decided_at a) (entries_of ps)) ≡ true
    names a =
        let prefix : (zs : List Numbered)
        × (accepted_at a ps ≡ flat_map (decided_at a) (entries_of ps) ++ zs) = fits.calls a in
        (both _ _ (sym (ap (list_all is_name) prefix.1
        ∙ list_all-append is_name (flat_map (decided_at a) (entries_of ps)) prefix.0)
        ∙ names_only 1 (flat_map (calls_in a) ps) (no_joins a ps held))).0

    fixed : IsFixed (in_cluster o) (so_far o es).registry
    fixed = fixed_along (in_cluster o) (entries_of ps) (nothing_yet (in_cluster o))
        (record { joined = λ c. refl; left = λ c. refl; told = λ n d. refl; notices = λ p. refl })
        (subst (λ (es : List Entry). IsLegal (in_cluster o) es) (history_grows o es) (history_is_legal o es))
        (all_settled (entries_of ps) (fits.departures ∙ no_leave ps held) names)
