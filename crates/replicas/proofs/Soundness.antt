-- What stands of every legal history by itself: tables rise, a lone node's names are its own, and an operation that
-- holds is one of its group, now and before its entry.
use Rattle.std.proofs.Common.{ℕ, Bool, true, false, ◌==◌, ◌≡◌, Option, Some, None, [], ◌∷◌, refl, sym, ap, ◌∙◌, inl, inr}
use Rattle.std.specs.Prelude.{if◌then◌else◌, ◌||◌}
use Rattle.std.specs.List.{list_all}
use Rattle.std.proofs.lemmas.Bool.{eq-eqb, and_from, or_left}
use Rattle.registry_model.specs.Process.{Nodes, at}
use Rattle.registry_model.specs.Table.{Table, is_below, is_rising, get, StrikeOwner, changed}
use Rattle.registry_model.specs.Call.{Joined, is_grant, change_of}
use Rattle.registry_model.specs.Registry.{Registry, with_table}
use Rattle.registry_model.specs.History.{Entry, Name, Strike, Join, Told, effect, Hold, Standing}
use Rattle.registry_model.proofs.Tables.{is_rising-parts, get-below, get-front, get-behind}
use Rattle.registry_model.proofs.Groups.{told-with_table}
use Rattle.registry_model.proofs.Rising.{Rises, Rises-effect}
use Rattle.registry_model.proofs.Deaths.{joined-effect, joined_stays}
use Rattle.registry_model.proofs.OwnerNodes.{IsOwn}
use Rattle.registry_model.proofs.Updates.{by_test, at_same}
use Rattle.replicas.proofs.Beside.{IsAlikeBut}

-- all owners are of node n
abbrev pub are_on : ℕ → Table → Bool
are_on n t = list_all (λ e. e.owner.node == n) t

-- where each name's owner is of n, all are
pub are_on-own : (n : ℕ) (t : Table) → is_rising t ≡ true → IsOwn n t → are_on n t ≡ true
are_on-own n [] r o = refl
are_on-own n (e ∷ t) r o = and_from _ _ (eq-eqb e.owner.node n (o.owner e.name e.owner (get-front e t)))
    (are_on-own n t parts.1
    (record {
      owner = λ x p h. o.owner x p (get-behind e t x
          (λ i. absurd (cc (ap (λ (y : ℕ). get y t) i, get-below e.name t parts.1 parts.0, h))) ∙ h);
    }))
  where
    parts : (is_below e.name t ≡ true) × (is_rising t ≡ true)
    parts = is_rising-parts e t r

-- an operation h that holds in a group, with a registry r: its node is of the group, now and before, and nodes only
-- join and are only told more
pub record Within (r : Registry) (h : Hold) : Type 0 where
  pub rises : Rises h.old
  pub grows : (c : ℕ) → h.old.joined c ≡ true → r.joined c ≡ true
  pub told : (n d : ℕ) → h.old.told n d ≡ true → r.told n d ≡ true

-- in the cluster
pub record WithinCluster (r : Registry) (h : Hold) : Type 0 where
  pub within : Within r h
  pub node : r.joined h.node ≡ true
  pub before : h.old.joined h.node ≡ true

-- at a lone node
pub record WithinLone (r : Registry) (n : ℕ) (h : Hold) : Type 0 where
  pub within : Within r h
  pub node : h.node ≡ n
  pub lone : r.joined n ≡ false
  pub before : h.old.joined n ≡ false
  pub alike : IsAlikeBut n h.old r

-- what holds is within its group
pub record Grouped (s : Standing) : Type 0 where
  pub cluster : (h : Hold) → s.held ≡ Some h → WithinCluster s.registry h
  pub alone : (n : ℕ) (h : Hold) → s.lone_held n ≡ Some h → WithinLone s.registry n h

pub record Sound (s : Standing) : Type 0 where
  pub rises : Rises s.registry
  pub own : (n : ℕ) → s.registry.joined n ≡ false → are_on n (s.registry.lone n) ≡ true
  pub cluster : (h : Hold) → s.held ≡ Some h → WithinCluster s.registry h
  pub alone : (n : ℕ) (h : Hold) → s.lone_held n ≡ Some h → WithinLone s.registry n h

-- the hold that is there, else d
abbrev pub the_hold : Hold → Option Hold → Hold
the_hold d None = d
the_hold d (Some h) = h

-- what held before an entry
abbrev pub behind : Entry → Hold → Hold
behind e h = record h { old = effect e h.old }

-- who is told stays told
pub told_stays : (r : Registry) (e : Entry) (n d : ℕ) → r.told n d ≡ true → (effect e r).told n d ≡ true
told_stays r (Name m k call reply) n d t = go (is_grant reply)
  where
    go : (b : Bool) → (if b then with_table m (changed (change_of call)) r else r).told n d ≡ true
    go true = ap (λ (f : ℕ → Nodes). f n d) (told-with_table m (changed (change_of call)) r) ∙ t
    go false = t
told_stays r (Strike p) n d t = ap (λ (f : ℕ → Nodes). f n d) (told-with_table p.node (changed (StrikeOwner p)) r) ∙ t
told_stays r (Join j k m Joined) n d t =
    by_test j (λ n b. r.told n d ≡ true → (if b then (λ d. r.told j d || r.told m d) else r.told n) d ≡ true)
    (or_left (r.told j d) (r.told m d)) (λ n ne e. e) n t
told_stays r (Told m c) n d t = by_test m
    (λ n b. r.told n d ≡ true → (if b then at (r.told m) c true else r.told n) d ≡ true)
    (by_test c (λ d b. r.told m d ≡ true → (if b then true else r.told m d) ≡ true) (λ e. refl) (λ d ne e. e) d)
    (λ n ne e. e) n t
told_stays r _ n d t = t

-- an entry tells in a registry no more than in one where more were told
told_alike : (e : Entry) (q r : Registry) → ((n d : ℕ) → q.told n d ≡ true → r.told n d ≡ true) → (n d : ℕ)
    → (effect e q).told n d ≡ true → (effect e r).told n d ≡ true
told_alike (Name m k call reply) q r more n d t = go (is_grant reply) t
  where
    go : (b : Bool) → (if b then with_table m (changed (change_of call)) q else q).told n d ≡ true
        → (if b then with_table m (changed (change_of call)) r else r).told n d ≡ true
    go true t = ap (λ (f : ℕ → Nodes). f n d) (told-with_table m (changed (change_of call)) r)
        ∙ more n d (sym (ap (λ (f : ℕ → Nodes). f n d) (told-with_table m (changed (change_of call)) q)) ∙ t)
    go false t = more n d t
told_alike (Strike p) q r more n d t = ap (λ (f : ℕ → Nodes). f n d)
    (told-with_table p.node (changed (StrikeOwner p)) r)
    ∙ more n d (sym (ap (λ (f : ℕ → Nodes). f n d) (told-with_table p.node (changed (StrikeOwner p)) q)) ∙ t)
told_alike (Join j k m Joined) q r more n d t =
    by_test j (λ n b. (if b then (λ d. q.told j d || q.told m d) else q.told n) d ≡ true
    → (if b then (λ d. r.told j d || r.told m d) else r.told n) d ≡ true)
    (either (q.told j d) (q.told m d) (r.told j d) (r.told m d) (more j d) (more m d)) (λ n ne e. more n d e) n t
  where
    either : (a b c d : Bool) → (a ≡ true → c ≡ true) → (b ≡ true → d ≡ true) → (a || b) ≡ true → (c || d) ≡ true
    either true b c d f g e = rw (f refl) refl
    either false b true d f g e = refl
    either false b false d f g e = g e
told_alike (Told m c) q r more n d t = by_test m
    (λ n b. (if b then at (q.told m) c true else q.told n) d ≡ true
    → (if b then at (r.told m) c true else r.told n) d ≡ true)
    (by_test c (λ d b. (if b then true else q.told m d) ≡ true → (if b then true else r.told m d) ≡ true) (λ e. refl)
    (λ d ne e. more m d e) d) (λ n ne e. more n d e) n t
told_alike _ q r more n d t = more n d t

-- each entry that comes keeps it
pub Within-behind : (r : Registry) (e : Entry) (h : Hold) → Within r h → Within (effect e r) (behind e h)
Within-behind r e h W = record {
  rises = Rises-effect h.old e W.rises;
  grows = λ c k. elim (joined-effect h.old e c) [
    | inl (x, m, i) ↦ ap (λ (e : Entry). (effect e r).joined c) i ∙ at_same r.joined c true
    | inr same ↦ joined_stays r e c (W.grows c (sym same ∙ k))
  ];
  told = told_alike e h.old r W.told;
}

-- and it stands of an operation that begins to hold
pub Within-begun : (r : Registry) (e : Entry) (a : ℕ) → Rises r
    → Within (effect e r) (record { node = a; entry = e; old = r })
Within-begun r e a R = record { rises = R; grows = joined_stays r e; told = told_stays r e }
