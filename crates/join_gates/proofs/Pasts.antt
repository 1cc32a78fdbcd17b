-- What one entry more makes of a history's standing, as far as joins ask.
use Rattle.std.proofs.Common.{ℕ, Bool, true, false, ◌≡◌, ◌==◌, Option, Some, None, List, [], ◌∷◌, ◌++◌, refl, sym, ap, ◌∙◌, subst}
use Rattle.std.specs.Prelude.{◌&&◌, ◌||◌, not, if◌then◌else◌, fold, is_none}
use Rattle.std.proofs.lemmas.Grind.{fold-append}
use Rattle.std.proofs.lemmas.Bool.{eq-eqb}
use Rattle.registry_model.specs.Process.{Nodes, at}
use Rattle.registry_model.specs.Table.{Table, changed, StrikeOwner}
use Rattle.registry_model.specs.Call.{Joined, is_grant, change_of}
use Rattle.registry_model.specs.Registry.{Registry, with_table}
use Rattle.registry_model.specs.History.{Entry, Hold, Standing, effect, granted_to, hold_at, is_free, is_hold_of, is_holding, set_hold, with_effect_on, with_effect, begin_hold, after, nothing_yet, standing_of}
use Rattle.registry_model.specs.Legal.{may_decide, is_legal, all_legal, IsLegal}
use Rattle.registry_model.proofs.Updates.{by_test, at_same}
use Rattle.moves.proofs.Indices.{both, neither}

-- what a history comes to with these entries more
pub standing_of-append : (c : Nodes) (h es : List Entry) → standing_of c (h ++ es) ≡ fold after (standing_of c h) es
standing_of-append c h es = fold-append after (nothing_yet c) h es

-- the last entries of a legal history are legal behind the others
all_legal-append : (s : Standing) (h es : List Entry) → all_legal s (h ++ es) ≡ true
    → all_legal (fold after s h) es ≡ true
all_legal-append s [] es l = l
all_legal-append s (d ∷ h) es l = all_legal-append (after s d) h es
    (both (is_legal s d) (all_legal (after s d) (h ++ es)) l).1

pub legal_rest : (c : Nodes) (h es : List Entry) → IsLegal c (h ++ es) → all_legal (standing_of c h) es ≡ true
legal_rest c h es l = all_legal-append (nothing_yet c) h es l

set_hold-registry : (n : ℕ) (h : Option Hold) (s : Standing) → (set_hold n h s).registry ≡ s.registry
set_hold-registry n h s = go (s.registry.joined n)
  where
    go : (b : Bool) → (if b then record s { held = h } else record s { lone_held = at s.lone_held n h }).registry
        ≡ s.registry
    go true = refl
    go false = refl

begin_hold-registry : (e : Entry) (r : Registry) (n : Option ℕ) (s : Standing)
    → (begin_hold e r n s).registry ≡ s.registry
begin_hold-registry e r None s = refl
begin_hold-registry e r (Some n) s = set_hold-registry n (Some (record { node = n; entry = e; old = r })) s

-- the registry after an entry is that before it with the entry's effect
pub registry-after : (s : Standing) (e : Entry) → (after s e).registry ≡ effect e s.registry
registry-after s (Entry.Done n) = go (is_holding s n)
  where
    go : (b : Bool) → (if b then set_hold n None s else s).registry ≡ s.registry
    go true = set_hold-registry n None s
    go false = refl
registry-after s e = begin_hold-registry e s.registry (granted_to e) (with_effect e s)

-- the entry may change what a lone node j has
abbrev pub touches : Entry → ℕ → Bool
touches (Entry.Name n k call reply) j = j == n
touches (Entry.Strike p) j = j == p.node
touches (Entry.Join i k m Joined) j = j == i
touches _ j = false

with_table-joined : (n : ℕ) (f : Table → Table) (r : Registry) (x : ℕ) → (with_table n f r).joined x ≡ r.joined x
with_table-joined n f r x = go (r.joined n)
  where
    go : (b : Bool) → (if b then record r { table = f r.table } else record r {
      lone =
          at r.lone n (f (r.lone n));
    }).joined x ≡ r.joined x
    go true = refl
    go false = refl

with_table-lone : (n : ℕ) (f : Table → Table) (r : Registry) (x : ℕ) → (x == n) ≡ false
    → (with_table n f r).lone x ≡ r.lone x
with_table-lone n f r x ne = go (r.joined n)
  where
    go : (b : Bool) → (if b then record r { table = f r.table } else record r {
      lone =
          at r.lone n (f (r.lone n));
    }).lone x ≡ r.lone x
    go true = refl
    go false = ap (λ (t : Bool). if t then f (r.lone n) else r.lone x) ne

-- an entry that doesn't touch a lone node leaves it lone, with its names
pub lone_stays : (e : Entry) (r : Registry) (j : ℕ) → touches e j ≡ false → r.joined j ≡ false
    → ((effect e r).joined j ≡ false) × ((effect e r).lone j ≡ r.lone j)
lone_stays (Entry.Name n k call reply) r j ne lone = go (is_grant reply)
  where
    go : (b : Bool) → ((if b then with_table n (changed (change_of call)) r else r).joined j ≡ false)
        × ((if b then with_table n (changed (change_of call)) r else r).lone j ≡ r.lone j)
    go true = (
      with_table-joined n (changed (change_of call)) r j ∙ lone,
      with_table-lone n (changed (change_of call)) r j ne,
    )
    go false = (lone, refl)
lone_stays (Entry.Strike p) r j ne lone = (
  with_table-joined p.node (changed (StrikeOwner p)) r j ∙ lone,
  with_table-lone p.node (changed (StrikeOwner p)) r j ne,
)
lone_stays (Entry.Join i k m Joined) r j ne lone =
    (ap (λ (t : Bool). if t then true else r.joined j) ne ∙ lone, ap (λ (t : Bool). if t then [] else r.lone j) ne)
lone_stays (Entry.Join i k m _) r j ne lone = (lone, refl)
lone_stays _ r j ne lone = (lone, refl)

-- who is joined stays joined
pub joined_grows : (e : Entry) (r : Registry) (x : ℕ) → r.joined x ≡ true → (effect e r).joined x ≡ true
joined_grows (Entry.Name n k call reply) r x h = go (is_grant reply)
  where
    go : (b : Bool) → (if b then with_table n (changed (change_of call)) r else r).joined x ≡ true
    go true = with_table-joined n (changed (change_of call)) r x ∙ h
    go false = h
joined_grows (Entry.Strike p) r x h = with_table-joined p.node (changed (StrikeOwner p)) r x ∙ h
joined_grows (Entry.Join i k m Joined) r x h = go (x == i)
  where
    go : (b : Bool) → (if b then true else r.joined x) ≡ true
    go true = refl
    go false = h
joined_grows (Entry.Join i k m _) r x h = h
joined_grows _ r x h = h

-- what holds at a lone node is its own
abbrev pub LoneHolds : Standing → Type 0
LoneHolds s = (n : ℕ) (h : Hold) → s.lone_held n ≡ Some h → h.node ≡ n

with_effect_on-node : (e : Entry) (k : Option Hold) (n : ℕ) → ((h : Hold) → k ≡ Some h → h.node ≡ n) → (h : Hold)
    → with_effect_on e k ≡ Some h → h.node ≡ n
with_effect_on-node e None n old h q = cc
with_effect_on-node e (Some k) n old h q = go (old k refl)
  where
    node_of : Option Hold → ℕ
    node_of None = n
    node_of (Some x) = x.node

    go : k.node ≡ n → h.node ≡ n
    go z = sym (ap node_of q) ∙ z

set_hold-lone : (n : ℕ) (k : Option Hold) (s : Standing) → ((h : Hold) → k ≡ Some h → h.node ≡ n) → LoneHolds s
    → LoneHolds (set_hold n k s)
set_hold-lone n k s new L = go (s.registry.joined n)
  where
    go : (b : Bool) → LoneHolds (if b then record s { held = k } else record s { lone_held = at s.lone_held n k })
    go true = L
    go false = λ x. by_test n (λ x t. (h : Hold) → (if t then k else s.lone_held x) ≡ Some h → h.node ≡ x) new
        (λ x ne. L x) x

begin_hold-lone : (e : Entry) (r : Registry) (n : Option ℕ) (s : Standing) → LoneHolds s
    → LoneHolds (begin_hold e r n s)
begin_hold-lone e r None s L = L
begin_hold-lone e r (Some n) s L = set_hold-lone n (Some (record { node = n; entry = e; old = r })) s
    (λ h q. sym (ap node_of q)) L
  where
    node_of : Option Hold → ℕ
    node_of None = n
    node_of (Some x) = x.node

lone_holds_after : (s : Standing) (e : Entry) → LoneHolds s → LoneHolds (after s e)
lone_holds_after s (Entry.Done n) L = go (is_holding s n)
  where
    go : (b : Bool) → LoneHolds (if b then set_hold n None s else s)
    go true = set_hold-lone n None s (λ h q. cc) L
    go false = L
lone_holds_after s e L = begin_hold-lone e s.registry (granted_to e) (with_effect e s)
    (λ n. with_effect_on-node e (s.lone_held n) n (L n))

lone_holds_fold : (s : Standing) (h : List Entry) → LoneHolds s → LoneHolds (fold after s h)
lone_holds_fold s [] L = L
lone_holds_fold s (e ∷ h) L = lone_holds_fold (after s e) h (lone_holds_after s e L)

pub lone_holds : (c : Nodes) (h : List Entry) → LoneHolds (standing_of c h)
lone_holds c h = lone_holds_fold (nothing_yet c) h (λ n k q. cc)

-- the admission of j by m holds, under the number k of j's join
pub record Admitted (s : Standing) (j k m : ℕ) : Type 0 where
  pub hold : Hold
  pub held : s.held ≡ Some hold
  pub node : hold.node ≡ m
  pub entry : hold.entry ≡ Entry.Join j k m Joined
  pub inside : s.registry.joined j ≡ true
  pub host : s.registry.joined m ≡ true

-- the entry is that of m's operation being done
abbrev pub is_done_of : ℕ → Entry → Bool
is_done_of m (Entry.Done n) = m == n
is_done_of m _ = false

admitted_pushed : (s : Standing) (e : Entry) (j k m : ℕ) → Admitted s j k m → Admitted (with_effect e s) j k m
admitted_pushed s e j k m A = record {
  hold = record A.hold { old = effect e A.hold.old };
  held = ap (with_effect_on e) A.held;
  node = A.node;
  entry = A.entry;
  inside = joined_grows e s.registry j A.inside;
  host = joined_grows e s.registry m A.host;
}

-- another operation begins to hold, which can only be at a lone node
admitted_beside : (s : Standing) (e : Entry) (n j k m : ℕ) → Admitted s j k m → is_free s n ≡ true
    → (effect e s.registry).joined n ≡ s.registry.joined n
    → Admitted (begin_hold e s.registry (Some n) (with_effect e s)) j k m
admitted_beside s e n j k m A free same = go (s.registry.joined n) refl
  where
    P : Admitted (with_effect e s) j k m
    P = admitted_pushed s e j k m A

    new : Hold
    new = record { node = n; entry = e; old = s.registry }

    apart : Standing → Standing
    apart t = record t { lone_held = at t.lone_held n (Some new) }

    beside : Admitted (apart (with_effect e s)) j k m
    beside = record { hold = P.hold; held = P.held; node = P.node; entry = P.entry; inside = P.inside; host = P.host }

    go : (b : Bool) → s.registry.joined n ≡ b → Admitted (begin_hold e s.registry (Some n) (with_effect e s)) j k m
    go true is = absurd (cc (
      sym (ap (λ (t : Bool). is_none (if t then s.held else s.lone_held n)) is) ∙ free,
      ap is_none A.held,
    ))
    go false is = subst (λ (t : Bool). Admitted (if t then record (with_effect e s) { held = Some new } else apart
        (with_effect e s)) j k m) (sym (same ∙ is)) beside

-- a legal entry leaves it so, but for that of its end
pub admitted_stays : (s : Standing) (e : Entry) (j k m : ℕ) → Admitted s j k m → is_legal s e ≡ true
    → is_done_of m e ≡ false → Admitted (after s e) j k m
admitted_stays s (Entry.Done n) j k m A legal ne = go (is_holding s n) refl (s.registry.joined n) refl
  where
    go : (b : Bool) → is_holding s n ≡ b → (c : Bool) → s.registry.joined n ≡ c
        → Admitted (if b then set_hold n None s else s) j k m
    go false holding c is = A
    go true holding true is = absurd (cc (
        sym (ap (λ (t : Bool). is_hold_of n (if t then s.held else s.lone_held n)) is ∙ ap (is_hold_of n) A.held
        ∙ ap (λ (x : ℕ). x == n) A.node ∙ ne) ∙ holding
        ))
    go true holding false is = subst (λ (t : Bool). Admitted
        (if t then record s { held = None } else record s { lone_held = at s.lone_held n None }) j k m) (sym is)
        (record { hold = A.hold; held = A.held; node = A.node; entry = A.entry; inside = A.inside; host = A.host })
admitted_stays s (Entry.Name n i call reply) j k m A legal ne = go (is_grant reply) refl
  where
    e : Entry
    e = Entry.Name n i call reply

    go : (b : Bool) → is_grant reply ≡ b → Admitted
        (begin_hold e s.registry (if b then Some n else None) (with_effect e s)) j k m
    go false is = admitted_pushed s e j k m A
    go true is = admitted_beside s e n j k m A (both (is_free s n) _
        (both (is_free s n && not (s.registry.left n)) _ legal).0).0
        (ap (λ (t : Bool). (if t then with_table n (changed (change_of call)) s.registry else s.registry).joined n) is
        ∙ with_table-joined n (changed (change_of call)) s.registry n)
admitted_stays s (Entry.Strike p) j k m A legal ne = admitted_beside s (Entry.Strike p) p.node j k m A
    (both (is_free s p.node) _ (both (is_free s p.node && not (s.registry.left p.node)) _ legal).0).0
    (with_table-joined p.node (changed (StrikeOwner p)) s.registry p.node)
admitted_stays s (Entry.Join i l n Joined) j k m A legal ne =
    let lone : Bool = not (s.registry.joined i) && is_free s i in
    let told : (lone && s.registry.joined n && may_decide s n ≡ true) × (_ ≡ true) =
    both (lone && s.registry.joined n && may_decide s n) _ legal in
    let free : (lone && s.registry.joined n ≡ true) × (may_decide s n ≡ true) =
    both (lone && s.registry.joined n) (may_decide s n) told.0 in
    let host : (lone ≡ true) × (s.registry.joined n ≡ true) = both lone (s.registry.joined n) free.0 in
    let now : (is_free s n ≡ true) × (_ ≡ true) = both (is_free s n) _ free.1 in
    absurd (cc (
      sym (ap (λ (t : Bool). is_none (if t then s.held else s.lone_held n)) host.1) ∙ now.0,
      ap is_none A.held,
    ))
admitted_stays s (Entry.Join i l n reply) j k m A legal ne = admitted_pushed s (Entry.Join i l n reply) j k m A
admitted_stays s e j k m A legal ne = admitted_pushed s e j k m A

-- some of these entries touches j, or is that of m's operation being done
abbrev pub touch : List Entry → ℕ → Bool
touch [] j = false
touch (e ∷ es) j = touches e j || touch es j

abbrev pub have_done : ℕ → List Entry → Bool
have_done m [] = false
have_done m (e ∷ es) = is_done_of m e || have_done m es

pub lone_along : (es : List Entry) (s : Standing) (j : ℕ) → touch es j ≡ false → s.registry.joined j ≡ false
    → ((fold after s es).registry.joined j ≡ false) × ((fold after s es).registry.lone j ≡ s.registry.lone j)
lone_along [] s j none lone = (lone, refl)
lone_along (e ∷ es) s j none lone =
    let parts : (touches e j ≡ false) × (touch es j ≡ false) = neither (touches e j) (touch es j) none in
    let now : ((effect e s.registry).joined j ≡ false) × ((effect e s.registry).lone j ≡ s.registry.lone j) =
    lone_stays e s.registry j parts.0 lone in
    let more : ((fold after (after s e) es).registry.joined j ≡ false)
    × ((fold after (after s e) es).registry.lone j ≡ (after s e).registry.lone j)
    = lone_along es (after s e) j parts.1 (ap (λ (r : Registry). r.joined j) (registry-after s e) ∙ now.0) in
    (more.0, more.1 ∙ ap (λ (r : Registry). r.lone j) (registry-after s e) ∙ now.1)

pub admitted_along : (es : List Entry) (s : Standing) (j k m : ℕ) → Admitted s j k m → all_legal s es ≡ true
    → have_done m es ≡ false
    → Admitted (fold after s es) j k m
admitted_along [] s j k m A legal none = A
admitted_along (e ∷ es) s j k m A legal none =
    let parts : (is_done_of m e ≡ false) × (have_done m es ≡ false) =
    neither (is_done_of m e) (have_done m es) none in
    let legals : (is_legal s e ≡ true) × (all_legal (after s e) es ≡ true) =
    both (is_legal s e) (all_legal (after s e) es) legal in
    admitted_along es (after s e) j k m (admitted_stays s e j k m A legals.0 parts.0) legals.1 parts.1

-- the contact of an admission holds
pub admitted_holds : (s : Standing) (j k m : ℕ) → Admitted s j k m → is_holding s m ≡ true
admitted_holds s j k m A =
    ap (λ (b : Bool). is_hold_of m (if b then s.held else s.lone_held m)) A.host ∙ ap (is_hold_of m) A.held
    ∙ ap (λ (x : ℕ). x == m) A.node ∙ eq-eqb m m refl

-- when the operation of an admission is done, nothing holds in the cluster
pub done_frees : (s : Standing) (j k m : ℕ) → Admitted s j k m → hold_at (after s (Entry.Done m)) j ≡ None
done_frees s j k m A =
    ap (λ (b : Bool). hold_at (if b then set_hold m None s else s) j) (admitted_holds s j k m A)
    ∙ ap (λ (b : Bool). hold_at (if b then record s { held = None } else record s {
      lone_held =
          at s.lone_held m None;
    }) j) A.host
    ∙ ap (λ (b : Bool). if b then None else s.lone_held j) A.inside

-- a granted join holds from its entry on
pub admitted_now : (s : Standing) (j k m : ℕ) → is_legal s (Entry.Join j k m Joined) ≡ true
    → Admitted (after s (Entry.Join j k m Joined)) j k m
admitted_now s j k m legal = subst (λ (b : Bool). Admitted
    (if b then record (with_effect e s) { held = Some new } else record
    (with_effect e s) { lone_held = at (with_effect e s).lone_held m (Some new) }) j k m) (sym now_host)
    (record { hold = new; held = refl; node = refl; entry = refl; inside = now_inside; host = now_host })
  where
    e : Entry
    e = Entry.Join j k m Joined

    new : Hold
    new = record { node = m; entry = e; old = s.registry }

    now_inside : (effect e s.registry).joined j ≡ true
    now_inside = at_same s.registry.joined j true

    now_host : (effect e s.registry).joined m ≡ true
    now_host =
        let lone : Bool = not (s.registry.joined j) && is_free s j in
        let told : (lone && s.registry.joined m && may_decide s m ≡ true) × (_ ≡ true) =
        both (lone && s.registry.joined m && may_decide s m) _ legal in
        let free : (lone && s.registry.joined m ≡ true) × (may_decide s m ≡ true) =
        both (lone && s.registry.joined m) (may_decide s m) told.0 in
        let host : (lone ≡ true) × (s.registry.joined m ≡ true) = both lone (s.registry.joined m) free.0 in
        joined_grows e s.registry m host.1

-- the entry is that of an admission by m
abbrev pub admits_by : ℕ → Entry → Bool
admits_by m (Entry.Join i k n Joined) = m == n
admits_by m _ = false

-- the entry lets a node in
abbrev pub lets_in : Entry → Bool
lets_in (Entry.Join i k n Joined) = true
lets_in _ = false

-- the others leave who is joined
joined_same : (e : Entry) (r : Registry) (x : ℕ) → lets_in e ≡ false → (effect e r).joined x ≡ r.joined x
joined_same (Entry.Name n k call reply) r x none = go (is_grant reply)
  where
    go : (b : Bool) → (if b then with_table n (changed (change_of call)) r else r).joined x ≡ r.joined x
    go true = with_table-joined n (changed (change_of call)) r x
    go false = refl
joined_same (Entry.Strike p) r x none = with_table-joined p.node (changed (StrikeOwner p)) r x
joined_same (Entry.Join i k m Joined) r x none = cc
joined_same (Entry.Join i k m _) r x none = refl
joined_same _ r x none = refl

back_pushed : (s : Standing) (e : Entry) (j k m : ℕ) → lets_in e ≡ false → Admitted (with_effect e s) j k m
    → Admitted s j k m
back_pushed s e j k m none A = go s.held refl
  where
    hold_of : Option Hold → Hold
    hold_of None = A.hold
    hold_of (Some h) = h

    go : (h : Option Hold) → s.held ≡ h → Admitted s j k m
    go None is = absurd (cc (sym (ap (with_effect_on e) is) ∙ A.held))
    go (Some h) is =
        let same : record h { old = effect e h.old } ≡ A.hold = ap hold_of (sym (ap (with_effect_on e) is) ∙ A.held) in
        record {
          hold = h;
          held = is;
          node = ap (λ (x : Hold). x.node) same ∙ A.node;
          entry = ap (λ (x : Hold). x.entry) same ∙ A.entry;
          inside = sym (joined_same e s.registry j none) ∙ A.inside;
          host = sym (joined_same e s.registry m none) ∙ A.host;
        }

-- an operation that began to hold is no admission by m, so one by m held before
back_beside : (s : Standing) (e : Entry) (n j k m : ℕ) → lets_in e ≡ false
    → Admitted (begin_hold e s.registry (Some n) (with_effect e s)) j k m → Admitted s j k m
back_beside s e n j k m none A = go ((effect e s.registry).joined n) refl
  where
    new : Hold
    new = record { node = n; entry = e; old = s.registry }

    at_last : Bool → Standing
    at_last b = if b then record (with_effect e s) { held = Some new } else record
        (with_effect e s) { lone_held = at (with_effect e s).lone_held n (Some new) }

    entry_of : Option Hold → Entry
    entry_of None = e
    entry_of (Some h) = h.entry

    clash : (e : Entry) → lets_in e ≡ false → e ≡ Entry.Join j k m Joined → ⊥
    clash e h q = cc (sym h ∙ ap lets_in q)

    go : (b : Bool) → (effect e s.registry).joined n ≡ b → Admitted s j k m
    go true is =
        let B : Admitted (at_last true) j k m = subst (λ (t : Bool). Admitted (at_last t) j k m) is A in
        absurd (clash e none (ap entry_of B.held ∙ B.entry))
    go false is =
        let B : Admitted (at_last false) j k m = subst (λ (t : Bool). Admitted (at_last t) j k m) is A in
        back_pushed s e j k m none (record {
          hold = B.hold;
          held = B.held;
          node = B.node;
          entry = B.entry;
          inside =
              B.inside;
          host = B.host;
        })

-- what holds behind a legal entry, which is no admission by m, held before it
pub admitted_back : (s : Standing) (e : Entry) (j k m : ℕ) → is_legal s e ≡ true → admits_by m e ≡ false
    → Admitted (after s e) j k m → Admitted s j k m
admitted_back s (Entry.Done n) j k m legal other A = go (is_holding s n) A
  where
    last : Bool → Standing
    last b = if b then record s { held = None } else record s { lone_held = at s.lone_held n None }

    freed : (b : Bool) → Admitted (last b) j k m → Admitted s j k m
    freed true B = absurd (cc B.held)
    freed false B = record {
      hold = B.hold;
      held = B.held;
      node = B.node;
      entry = B.entry;
      inside = B.inside;
      host =
          B.host;
    }

    go : (b : Bool) → Admitted (if b then set_hold n None s else s) j k m → Admitted s j k m
    go true B = freed (s.registry.joined n) B
    go false B = B
admitted_back s (Entry.Name n i call reply) j k m legal other A = go (is_grant reply) A
  where
    e : Entry
    e = Entry.Name n i call reply

    go : (b : Bool) → Admitted (begin_hold e s.registry (if b then Some n else None) (with_effect e s)) j k m
        → Admitted s j k m
    go true B = back_beside s e n j k m refl B
    go false B = back_pushed s e j k m refl B
admitted_back s (Entry.Strike p) j k m legal other A = back_beside s (Entry.Strike p) p.node j k m refl A
admitted_back s (Entry.Join i l n Joined) j k m legal other A =
    absurd (cc (sym other ∙ eq-eqb m n (sym (ap contact_of same))))
  where
    entry_of : Option Hold → Entry
    entry_of None = Entry.Join i l n Joined
    entry_of (Some h) = h.entry

    contact_of : Entry → ℕ
    contact_of (Entry.Join x y z reply) = z
    contact_of _ = n

    B : Admitted (after s (Entry.Join i l n Joined)) i l n
    B = admitted_now s i l n legal

    same : Entry.Join i l n Joined ≡ Entry.Join j k m Joined
    same = sym B.entry ∙ ap entry_of (sym B.held ∙ A.held) ∙ A.entry
admitted_back s (Entry.Join i l n reply) j k m legal other A = back_pushed s (Entry.Join i l n reply) j k m refl A
admitted_back s e j k m legal other A = back_pushed s e j k m refl A

-- some of these entries is that of an admission by m
abbrev pub have_admitted : ℕ → List Entry → Bool
have_admitted m [] = false
have_admitted m (e ∷ es) = admits_by m e || have_admitted m es

pub admitted_back_along : (es : List Entry) (s : Standing) (j k m : ℕ) → all_legal s es ≡ true
    → have_admitted m es ≡ false
    → Admitted (fold after s es) j k m → Admitted s j k m
admitted_back_along [] s j k m legal none A = A
admitted_back_along (e ∷ es) s j k m legal none A =
    let parts : (admits_by m e ≡ false) × (have_admitted m es ≡ false) =
    neither (admits_by m e) (have_admitted m es) none in
    let legals : (is_legal s e ≡ true) × (all_legal (after s e) es ≡ true) =
    both (is_legal s e) (all_legal (after s e) es) legal in
    admitted_back s e j k m legals.0 parts.0 (admitted_back_along es (after s e) j k m legals.1 parts.1 A)
