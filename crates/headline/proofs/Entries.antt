-- What the entries of name calls say: `yes` to the free, `no` to the taken, and a name that was given stands until it
-- is taken.
use mathlib.Core.Logic.{◌⊎◌}
use Rattle.std.proofs.Common.{ℕ, Bool, true, false, ◌==◌, ◌≡◌, Some, None, List, [], ◌∷◌, ◌++◌, refl, sym, ap, ◌∙◌, subst, inl, inr}
use Rattle.std.specs.Prelude.{not, if◌then◌else◌}
use Rattle.std.proofs.lemmas.Bool.{eq-eqb, eqb-true}
use Rattle.std.proofs.lemmas.List.{append-nil, append_assoc}
use Rattle.registry_model.specs.Process.{Text, Process, Nodes}
use Rattle.registry_model.specs.Table.{Pair, Table, Put, changed, get, owns, put}
use Rattle.registry_model.specs.Call.{Register, Yes, No, reply_to}
use Rattle.registry_model.specs.Registry.{Registry, Replica, in_group, table_of, view, members, replica_of}
use Rattle.registry_model.specs.History.{Entry, Name, Standing, standing_of, registry_of}
use Rattle.registry_model.specs.Legal.{IsLegal}
use Rattle.registry_model.specs.HistoryLaws.{Takes, NamesStand}
use Rattle.registry_model.proofs.Tables.{if_kept, get-put, get-without, is_rising-changed}
use Rattle.registry_model.proofs.HistoryParts.{registry_of-push, registry-standing_of, is_legal-at}
use Rattle.registry_model.proofs.Legality.{NameIsLegal, name_is_legal}
use Rattle.registry_model.proofs.Rising.{Rises, Rises-registry_of, is_rising-table_of}
use Rattle.registry_model.proofs.NamesStand.{yes_law, stand_law, view-with_table}
use Rattle.protocol_model.specs.World.{in_cluster}
use Rattle.protocol_model.specs.Headline.{IsRunning}
use Rattle.moves.proofs.Invariants.{standing_at}
use Rattle.headline.specs.Clauses.{world, events, so_far}
use Rattle.headline.specs.Laws.{NoToTheTaken, YesToTheFreeOnly, IsTaken, YesStands}
use Rattle.headline.proofs.Together.{replicas}
use Rattle.headline.proofs.Theorem.{whole, told, history_is_legal, shows_when_free}
use Rattle.headline.proofs.Fields.{past_now}

-- a `no` is never given to a free name and a free process
pub no_to_the_taken : NoToTheTaken
no_to_the_taken o es before later n k new e free = go (members t.registry n) (view t.registry n) N.answer
    (ap (λ (r : Registry). members r n new.owner.node) same ∙ free.member)
    (ap (λ (r : Registry). get new.name (view r n)) same ∙ free.name)
    (ap (λ (r : Registry). owns new.owner (view r n)) same ∙ free.owner)
  where
    t : Standing
    t = standing_of (in_cluster o) before

    same : t.registry ≡ registry_of (in_cluster o) before
    same = registry-standing_of (in_cluster o) before

    N : NameIsLegal t n (Register new) No
    N = name_is_legal t n (Register new) No (is_legal-at (in_cluster o) before later (Name n k (Register new) No)
        (subst (λ (h : List Entry). IsLegal (in_cluster o) h) e (history_is_legal o es)))

    go : (m : Nodes) (v : Table) → No ≡ reply_to m v (Register new) → m new.owner.node ≡ true
        → get new.name v ≡ None → owns new.owner v ≡ false → ⊥
    go m v a i j q =
        let yes_then : reply_to m v (Register new) ≡ Yes = rw (i, j, q) refl in
        cc (a, yes_then)

-- a `yes` is given to the free only
pub yes_to_the_free_only : YesToTheFreeOnly
yes_to_the_free_only o es before later n k new e = yes_law (in_cluster o) (world o es).history
    (history_is_legal o es) before later n k new e

-- a name that is seen stands over these entries, or one of them takes it
stands_along : (cluster : Nodes) (h : List Entry) → NamesStand cluster h
    → (c : ℕ) (x : Text) (p : Process) (rest front : List Entry)
    → h ≡ front ++ rest → get x (view (registry_of cluster front) c) ≡ Some p
    → (get x (view (registry_of cluster h) c) ≡ Some p) ⊎ IsTaken cluster front rest c x p
stands_along cluster h stand c x p [] front e seen =
    inl (ap (λ (es : List Entry). get x (view (registry_of cluster es) c)) (e ∙ append-nil front) ∙ seen)
stands_along cluster h stand c x p (f ∷ rest) front e seen = go (stand front rest f c x p e seen)
    (stands_along cluster h stand c x p rest (front ++ f ∷ []) (e ∙ sym (append_assoc front (f ∷ []) rest)))
  where
    go : (get x (view (registry_of cluster (front ++ f ∷ [])) c) ≡ Some p) ⊎ Takes (registry_of cluster front) c x p f
        → (get x (view (registry_of cluster (front ++ f ∷ [])) c) ≡ Some p
        → (get x (view (registry_of cluster h) c) ≡ Some p) ⊎ IsTaken cluster (front ++ f ∷ []) rest c x p)
        → (get x (view (registry_of cluster h) c) ≡ Some p) ⊎ IsTaken cluster front (f ∷ rest) c x p
    go (inl s) more = elim (more s) [
      | inl d ↦ inl d
      | inr T ↦ inr (record {
        middle = f ∷ T.middle;
        entry = T.entry;
        rest = T.rest;
        split = ap (λ (es : List Entry). f ∷ es) T.split;
        takes = subst (λ (es : List Entry). Takes (registry_of cluster es) c x p T.entry)
            (append_assoc front (f ∷ []) T.middle) T.takes;
      })
    ]
    go (inr T) more = inr (record {
      middle = [];
      entry = f;
      rest = rest;
      split = refl;
      takes = subst (λ (es : List Entry). Takes (registry_of cluster es) c x p f) (sym (append-nil front)) T;
    })

-- who is of a's group has a in its own
group_back : (r : Registry) (a c : ℕ) → in_group r a c ≡ true → in_group r c a ≡ true
group_back r a c g = go (r.joined a) (r.joined c) refl refl g
  where
    go : (b d : Bool) → r.joined a ≡ b → r.joined c ≡ d → (if b then r.joined c else c == a) ≡ true
        → (if d then r.joined a else a == c) ≡ true
    go true true i j g = i
    go true false i j g = cc (j, g)
    go false true i j g = cc (j, ap r.joined (eqb-true c a g))
    go false false i j g = eq-eqb a c (sym (eqb-true c a g))

-- right behind the entry of a `yes` its group sees the name, but for those who were told that the owner's node left
given_seen : (cluster : Nodes) (before : List Entry) (n k c : ℕ) (new : Pair)
    → in_group (registry_of cluster before) n c ≡ true → (registry_of cluster before).told c new.owner.node ≡ false
    → get new.name (view (registry_of cluster (before ++ Name n k (Register new) Yes ∷ [])) c) ≡ Some new.owner
given_seen cluster before n k c new g untold =
    ap (λ (q : Registry). get new.name (view q c)) (registry_of-push cluster before (Name n k (Register new) Yes))
    ∙ ap (get new.name) (view-with_table n (changed (Put new)) r c (group_back r n c g))
    ∙ get-without (r.told c) (put new (table_of r c))
    (is_rising-changed (Put new) (table_of r c) (is_rising-table_of r rises c)) new.name
    ∙ ap (if_kept (λ q. not (r.told c q.node)))
    (get-put new (table_of r c) new.name ∙ ap (λ (b : Bool). if b then Some new.owner else get new.name (table_of r c)) (eq-eqb new.name new.name refl))
    ∙ ap (λ (b : Bool). if not b then Some new.owner else None) untold
  where
    r : Registry
    r = registry_of cluster before

    rises : Rises r
    rises = Rises-registry_of cluster before

-- the name stands, and running nodes find it, until it is taken
pub yes_stands : YesStands
yes_stands o es before later n k c new e g untold r free =
    go (stands_along (in_cluster o) (world o es).history
    (stand_law (in_cluster o) (world o es).history (history_is_legal o es)) c new.name new.owner later
    (before ++ Name n k (Register new) Yes ∷ [])
    (e ∙ sym (append_assoc before (Name n k (Register new) Yes ∷ []) later))
    (given_seen (in_cluster o) before n k c new g untold))
  where
    same : standing_at o (world o es) ≡ so_far o es
    same = past_now o (events o es) (world o es) (whole o es) (told o es)

    running : IsRunning o (so_far o es) c
    running = (
      r.inside,
      subst (λ (t : Standing). t.registry.left c ≡ false) same
          ((replicas o (world o es) (whole o es).kept).departed c ∙ r.stays),
    )

    shown : ((world o es).node c).replica ≡ replica_of (registry_of (in_cluster o) (world o es).history) c
    shown = shows_when_free o es c running free ∙ ap (λ (t : Standing). replica_of t.registry c) (sym same)
        ∙ ap (λ (q : Registry). replica_of q c) (registry-standing_of (in_cluster o) (world o es).history)

    go : (get new.name (view (registry_of (in_cluster o) (world o es).history) c) ≡ Some new.owner)
        ⊎ IsTaken (in_cluster o) (before ++ Name n k (Register new) Yes ∷ []) later c new.name new.owner
        → (get new.name ((world o es).node c).replica.table ≡ Some new.owner)
        ⊎ IsTaken (in_cluster o) (before ++ Name n k (Register new) Yes ∷ []) later c new.name new.owner
    go (inl s) = inl (ap (λ (v : Replica). get new.name v.table) shown ∙ s)
    go (inr T) = inr T
