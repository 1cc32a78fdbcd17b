-- The settlement of a join, name by name: what each name of the joiner adds to what is settled, and what then stands under a name.
use Rattle.std.proofs.Common.{Bool, true, false, ◌≡◌, Option, Some, None, List, [], ◌∷◌, ◌++◌, filter, map, is_some, refl, sym, subst, ap, ◌∙◌, inl, inr}
use Rattle.std.specs.Prelude.{◌⊎◌, ◌↔◌, if◌then◌else◌, not, ◌&&◌, ◌==◌, ◌||◌, nat_lt, fold, flat_map, Contains}
use Rattle.std.specs.List.{list_any}
use Rattle.std.proofs.Math.Path.{ap₂}
use Rattle.std.proofs.lemmas.List.{append_assoc, append-nil}
use Rattle.std.proofs.lemmas.List.Elements.{Contains-push_cases, Contains-append_left, Contains-append_right, Contains-push}
use Rattle.std.proofs.lemmas.Bool.{and_parts, and_from, false_from_ne_true, not-true, not_from_false, or_parts, both_ways}
use Rattle.registry_model.specs.Process.{Text, Process, is_process}
use Rattle.registry_model.specs.Table.{Rule, Exit, Notify, NotifyAll, Pair, Table, is_rising, entry, names, put_all}
use Rattle.registry_model.specs.Settlement.{Noted, note, Fate, Settled, with_settled, unsettled, with_put, with_notices, doomed, with_kill, clash, settle_one, settle}
use Rattle.registry_model.proofs.Lists.{Contains-cases, Contains-front, Contains-behind, Contains-nil, list_any-Contains, Contains-list_any, is_process-eq}
use Rattle.registry_model.proofs.Tables.{or_else, if_passes, entry-filter, entry-put_all, entry-remove_all, is_rising-filter, name-entry}

-- whether the joiner's process has the name after a clash under this rule; lesser: whether it is on the lesser node
abbrev pub wins_under : Rule → Bool → Bool
wins_under Exit lesser = lesser
wins_under Notify lesser = lesser
wins_under NotifyAll lesser = false

-- whether nobody has the name after a clash under this rule
abbrev pub goes_under : Rule → Bool
goes_under NotifyAll = true
goes_under _ = false

-- who dies of a clash under this rule: the joiner's process p, or the cluster's q
abbrev pub victim_under : Rule → Bool → Process → Process → Option Process
victim_under Exit lesser p q = if lesser then Some q else Some p
victim_under _ lesser p q = None

-- what is sent for a clash over x under this rule
abbrev pub sent_under : Rule → Bool → Text → Process → Process → List Noted
sent_under Exit lesser x p q = []
sent_under Notify lesser x p q = if lesser then note q x None ∷ [] else note p x None ∷ []
sent_under NotifyAll lesser x p q = note q x (Some p) ∷ note p x (Some q) ∷ []

-- whether the pair of the joiner is written
abbrev pub wins : Pair → Option Pair → Bool
wins e None = true
wins e (Some own) =
    if is_process e.owner own.owner then false else wins_under own.rule (nat_lt e.owner.node own.owner.node)

-- whether its name is removed
abbrev pub goes : Pair → Option Pair → Bool
goes e None = false
goes e (Some own) = if is_process e.owner own.owner then false else goes_under own.rule

-- who dies of its name
abbrev pub victim : Pair → Option Pair → Option Process
victim e None = None
victim e (Some own) =
    if is_process e.owner own.owner
    then None
    else victim_under own.rule (nat_lt e.owner.node own.owner.node) e.owner own.owner

-- what is sent of its name
abbrev pub sent : Pair → Option Pair → List Noted
sent e None = []
sent e (Some own) =
    if is_process e.owner own.owner
    then []
    else sent_under own.rule (nat_lt e.owner.node own.owner.node) e.name e.owner own.owner

-- a settlement that goes on
abbrev pub settle_from : Table → Settled → Table → Settled
settle_from table s pairs = fold (λ s e. settle_one e (entry e.name table) s) s pairs

-- each is killed once
abbrev pub is_once : List Process → Bool
is_once [] = true
is_once (p ∷ ps) = not (list_any (is_process p) ps) && is_once ps

-- one more who wasn't among them
pub is_once-push : (ps : List Process) (p : Process) → is_once ps ≡ true → list_any (is_process p) ps ≡ false →
    is_once (ps ++ p ∷ []) ≡ true
is_once-push [] p h n = refl
is_once-push (q ∷ ps) p h n =
    and_from _ _ (not_from_false (list_any (is_process q) (ps ++ p ∷ [])) absent) (is_once-push ps p parts.1 others.1)
  where
    parts : (not (list_any (is_process q) ps) ≡ true) × (is_once ps ≡ true)
    parts = and_parts (not (list_any (is_process q) ps)) (is_once ps) h

    others : (is_process p q ≡ false) × (list_any (is_process p) ps ≡ false)
    others = or_parts (is_process p q) (list_any (is_process p) ps) n

    apart : (p ≡ q) → ⊥
    apart i = let w : is_process p q ≡ true = is_process-eq p q i in let o : is_process p q ≡ false = others.0 in cc

    before : Contains ps q → ⊥
    before c = both_ways (list_any (is_process q) ps) (not-true (list_any (is_process q) ps) parts.0)
        (list_any-Contains q ps c)

    absent : list_any (is_process q) (ps ++ p ∷ []) ≡ false
    absent = false_from_ne_true (list_any (is_process q) (ps ++ p ∷ []))
        (λ w. elim (Contains-push_cases ps p q (Contains-list_any q (ps ++ p ∷ []) w)) [
          | inl c ↦ before c
          | inr i ↦
              apart i
        ])

-- a kill keeps it so
pub is_once-doomed : (p : Process) (s : Fate) → is_once s.kills ≡ true → is_once (doomed p s).kills ≡ true
is_once-doomed p s h = go (list_any (is_process p) s.kills) refl
  where
    go : (b : Bool) → list_any (is_process p) s.kills ≡ b →
        is_once (if b then s else record s { kills = s.kills ++ p ∷ [] }).kills ≡ true
    go true k = h
    go false k = is_once-push s.kills p h k

-- in words
pub once-is_once : (before later : List Process) (p : Process) → is_once (before ++ p ∷ later) ≡ true →
    Contains before p → ⊥
once-is_once [] later p h c = Contains-nil p c
once-is_once (q ∷ before) later p h c = elim (Contains-cases q before p c) [
  | inl i ↦ both_ways (list_any (is_process q) (before ++ p ∷ later)) (not-true _ parts.0)
      (list_any-Contains q (before ++ p ∷ later) (found i))
  | inr d ↦ once-is_once before later p parts.1 d
]
  where
    parts : (not (list_any (is_process q) (before ++ p ∷ later)) ≡ true) × (is_once (before ++ p ∷ later) ≡ true)
    parts = and_parts (not (list_any (is_process q) (before ++ p ∷ later))) (is_once (before ++ p ∷ later)) h

    found : q ≡ p → Contains (before ++ p ∷ later) q
    found i = subst (λ (r : Process). Contains (before ++ p ∷ later) r) (sym i)
        (Contains-append_right before (p ∷ later) p (Contains-front p later))

-- who is killed by a kill
pub kills-doomed : (p : Process) (s : Fate) (q : Process) →
    Contains (doomed p s).kills q ↔ (Contains s.kills q ⊎ (Some p ≡ Some q))
kills-doomed p s q = go (list_any (is_process p) s.kills) refl
  where
    go : (b : Bool) → list_any (is_process p) s.kills ≡ b →
        Contains (if b then s else record s { kills = s.kills ++ p ∷ [] }).kills q ↔ (Contains s.kills q ⊎ (Some p ≡ Some q))
    go true h = (
      λ c. inl c,
      λ c. elim c [
        | inl d ↦ d
        | inr k ↦ let e : p ≡ q = cc in subst (λ (r : Process). Contains s.kills r) e (Contains-list_any p s.kills h)
      ],
    )
    go false h = (
      λ c. elim (Contains-push_cases s.kills p q c) [ inl d ↦ inl d | inr e ↦ inr cc ],
      λ c. elim c [
        | inl d ↦ Contains-append_left s.kills (p ∷ []) q d
        | inr k ↦ let e : p ≡ q = cc in
            subst (λ (r : Process). Contains (s.kills ++ p ∷ []) r) e (Contains-push s.kills p)
      ],
    )

-- what was settled, and what is with one name more: what that name writes, removes and sends comes behind, and it kills this one
pub record Adds (s t : Settled) (put : Table) (removed : List Text) (killed : Option Process) (noted : List Noted) : Type 0 where
  pub puts : t.puts ≡ s.puts ++ put
  pub removes : t.removes ≡ s.removes ++ removed
  pub kills : (q : Process) → Contains t.fate.kills q ↔ (Contains s.fate.kills q ⊎ (killed ≡ Some q))
  pub once : is_once s.fate.kills ≡ true → is_once t.fate.kills ≡ true
  pub notices : t.fate.notices ≡ s.fate.notices ++ noted

-- nobody is killed
nobody_more : (ps : List Process) (q : Process) → Contains ps q ↔ (Contains ps q ⊎ (None ≡ Some q))
nobody_more ps q = (λ c. inl c, λ c. elim c [ inl d ↦ d | inr k ↦ absurd cc ])

-- a kill sends nothing
notices_kept : (p : Process) (f : Fate) → (doomed p f).notices ≡ f.notices ++ []
notices_kept p f = go (list_any (is_process p) f.kills)
  where
    go : (b : Bool) → (if b then f else record f { kills = f.kills ++ p ∷ [] }).notices ≡ f.notices ++ []
    go true = sym (append-nil f.notices)
    go false = sym (append-nil f.notices)

-- the item, where this is so
abbrev pub one_if : {A : Type 0} → Bool → A → List A
one_if b x = if b then x ∷ [] else []

-- a clash under each rule
adds_clash : (rule : Rule) (e : Pair) (q : Process) (s : Settled) → Adds s (clash rule e q s)
    (one_if (wins_under rule (nat_lt e.owner.node q.node)) e) (one_if (goes_under rule) e.name)
    (victim_under rule (nat_lt e.owner.node q.node) e.owner q)
    (sent_under rule (nat_lt e.owner.node q.node) e.name e.owner q)
adds_clash Exit e q s = go (nat_lt e.owner.node q.node)
  where
    go : (b : Bool) → Adds s (if b then with_kill q (with_put e s) else with_kill e.owner s) (one_if b e) []
        (if b then Some q else Some e.owner) []
    go true = record {
      puts = refl;
      removes = sym (append-nil s.removes);
      kills = λ r. kills-doomed q s.fate r;
      once = is_once-doomed q s.fate;
      notices = notices_kept q s.fate;
    }
    go false = record {
      puts = sym (append-nil s.puts);
      removes = sym (append-nil s.removes);
      kills = λ r. kills-doomed e.owner s.fate r;
      once = is_once-doomed e.owner s.fate;
      notices = notices_kept e.owner s.fate;
    }
adds_clash Notify e q s = go (nat_lt e.owner.node q.node)
  where
    go : (b : Bool) → Adds s
        (if b then with_notices (note q e.name None ∷ []) (with_put e s) else with_notices (note e.owner e.name None ∷ []) s)
        (one_if b e) [] None (if b then note q e.name None ∷ [] else note e.owner e.name None ∷ [])
    go true = record {
      puts = refl;
      removes = sym (append-nil s.removes);
      kills = λ r. nobody_more s.fate.kills r;
      once = λ h. h;
      notices = refl;
    }
    go false = record {
      puts = sym (append-nil s.puts);
      removes = sym (append-nil s.removes);
      kills = λ r. nobody_more s.fate.kills r;
      once = λ h. h;
      notices = refl;
    }
adds_clash NotifyAll e q s = record {
  puts = sym (append-nil s.puts);
  removes = refl;
  kills = λ r. nobody_more s.fate.kills r;
  once = λ h. h;
  notices = refl;
}

-- one name of the joiner
pub adds_one : (e : Pair) (o : Option Pair) (s : Settled) →
    Adds s (settle_one e o s) (one_if (wins e o) e) (one_if (goes e o) e.name) (victim e o) (sent e o)
adds_one e None s = record {
  puts = refl;
  removes = sym (append-nil s.removes);
  kills = λ r. nobody_more s.fate.kills r;
  once = λ h. h;
  notices = sym (append-nil s.fate.notices);
}
adds_one e (Some own) s = go (is_process e.owner own.owner)
  where
    lesser : Bool
    lesser = nat_lt e.owner.node own.owner.node

    go : (b : Bool) → Adds s (if b then s else clash own.rule e own.owner s)
        (one_if (if b then false else wins_under own.rule lesser) e) (one_if (if b then false else goes_under own.rule) e.name)
        (if b then None else victim_under own.rule lesser e.owner own.owner)
        (if b then [] else sent_under own.rule lesser e.name e.owner own.owner)
    go true = record {
      puts = sym (append-nil s.puts);
      removes = sym (append-nil s.removes);
      kills = λ r. nobody_more s.fate.kills r;
      once = λ h. h;
      notices = sym (append-nil s.fate.notices);
    }
    go false = adds_clash own.rule e own.owner s

-- a list to which each name adds has what all of them add, in order
gathered : {A : Type 0} (of : Settled → List A) (more : Pair → List A) (table : Table) →
    ((e : Pair) (s : Settled) → of (settle_one e (entry e.name table) s) ≡ of s ++ more e) →
    (pairs : Table) (s : Settled) → of (settle_from table s pairs) ≡ of s ++ flat_map more pairs
gathered of more table one [] s = sym (append-nil (of s))
gathered {A} of more table one (e ∷ pairs) s =
    gathered of more table one pairs (settle_one e (entry e.name table) s)
    ∙ ap (λ (xs : List A). xs ++ flat_map more pairs) (one e s)
    ∙ append_assoc (of s) (more e) (flat_map more pairs)

-- the items that pass, each made into one
picked : {A : Type 0} (ok : Pair → Bool) (f : Pair → A) (pairs : Table) →
    flat_map (λ e. one_if (ok e) (f e)) pairs ≡ map f (filter ok pairs)
picked ok f [] = refl
picked {A} ok f (e ∷ pairs) = go (ok e) (picked ok f pairs)
  where
    go : (b : Bool) → flat_map (λ e. one_if (ok e) (f e)) pairs ≡ map f (filter ok pairs) →
        one_if b (f e) ++ flat_map (λ e. one_if (ok e) (f e)) pairs ≡ map f (if b then e ∷ filter ok pairs else filter ok pairs)
    go true h = ap (λ (xs : List A). f e ∷ xs) h
    go false h = h

-- the same pairs
map-same : (pairs : Table) → map (λ e. e) pairs ≡ pairs
map-same [] = refl
map-same (e ∷ pairs) = ap (λ (t : Table). e ∷ t) (map-same pairs)

-- what a settlement writes: the pairs that win
pub puts-settle : (table pairs : Table) → (settle table pairs).puts ≡ filter (λ e. wins e (entry e.name table)) pairs
puts-settle table pairs =
    gathered (λ s. s.puts) (λ e. one_if (wins e (entry e.name table)) e) table
    (λ e s. (adds_one e (entry e.name table) s).puts) pairs unsettled
    ∙ picked (λ e. wins e (entry e.name table)) (λ e. e) pairs
    ∙ map-same (filter (λ e. wins e (entry e.name table)) pairs)

-- what it removes: the names that go
pub removes-settle : (table pairs : Table) →
    (settle table pairs).removes ≡ names (filter (λ e. goes e (entry e.name table)) pairs)
removes-settle table pairs =
    gathered (λ s. s.removes) (λ e. one_if (goes e (entry e.name table)) e.name) table
    (λ e s. (adds_one e (entry e.name table) s).removes) pairs unsettled
    ∙ picked (λ e. goes e (entry e.name table)) (λ e. e.name) pairs

-- what it sends
pub notices-settle : (table pairs : Table) →
    (settle table pairs).fate.notices ≡ flat_map (λ e. sent e (entry e.name table)) pairs
notices-settle table pairs =
    gathered (λ s. s.fate.notices) (λ e. sent e (entry e.name table)) table
    (λ e s. (adds_one e (entry e.name table) s).notices) pairs unsettled

-- q dies of the name of one of these pairs
abbrev pub DiesOfOne : Table → Table → Process → Type 0
DiesOfOne table pairs q = (e : Pair) × Contains pairs e × (victim e (entry e.name table) ≡ Some q)

-- who is killed in a settlement
pub kills-settle_from : (table pairs : Table) (s : Settled) (q : Process) →
    Contains (settle_from table s pairs).fate.kills q ↔ (Contains s.fate.kills q ⊎ DiesOfOne table pairs q)
kills-settle_from table [] s q = (λ c. inl c, λ c. elim c [ inl d ↦ d | inr (e, c, k) ↦ absurd (Contains-nil e c) ])
kills-settle_from table (e ∷ pairs) s q =
    go (kills-settle_from table pairs next q) ((adds_one e (entry e.name table) s).kills q)
  where
    next : Settled
    next = settle_one e (entry e.name table) s

    go : Contains (settle_from table next pairs).fate.kills q ↔ (Contains next.fate.kills q ⊎ DiesOfOne table pairs q) →
        Contains next.fate.kills q ↔ (Contains s.fate.kills q ⊎ (victim e (entry e.name table) ≡ Some q)) →
        Contains (settle_from table next pairs).fate.kills q ↔ (Contains s.fate.kills q ⊎ DiesOfOne table (e ∷ pairs) q)
    go rest one = (to, from)
      where
        behind : DiesOfOne table pairs q → DiesOfOne table (e ∷ pairs) q
        behind (d, c, k) = (d, Contains-behind e pairs d c, k)

        to : Contains (settle_from table next pairs).fate.kills q → Contains s.fate.kills q ⊎ DiesOfOne table (e ∷ pairs) q
        to c = elim (rest.0 c) [
          | inl d ↦ elim (one.0 d) [ inl f ↦ inl f | inr k ↦ inr (e, Contains-front e pairs, k) ]
          | inr l ↦ inr (behind l)
        ]

        from : Contains s.fate.kills q ⊎ DiesOfOne table (e ∷ pairs) q → Contains (settle_from table next pairs).fate.kills q
        from (inl c) = rest.1 (inl (one.1 (inl c)))
        from (inr (d, c, k)) = elim (Contains-cases e pairs d c) [
          | inl i ↦ rest.1 (inl (one.1 (inr (subst (λ (f : Pair). victim f (entry f.name table) ≡ Some q) (sym i) k))))
          | inr c ↦ rest.1 (inr (d, c, k))
        ]

-- each of them once
pub is_once-settle_from : (table pairs : Table) (s : Settled) → is_once s.fate.kills ≡ true →
    is_once (settle_from table s pairs).fate.kills ≡ true
is_once-settle_from table [] s h = h
is_once-settle_from table (e ∷ pairs) s h =
    is_once-settle_from table pairs (settle_one e (entry e.name table) s) ((adds_one e (entry e.name table) s).once h)

-- what is written rises
pub is_rising-puts : (table pairs : Table) → is_rising pairs ≡ true → is_rising (settle table pairs).puts ≡ true
is_rising-puts table pairs r = ap is_rising (puts-settle table pairs)
    ∙ is_rising-filter (λ e. wins e (entry e.name table)) pairs r

-- what stands under a name in what is written
pub entry-puts : (table pairs : Table) → is_rising pairs ≡ true → (y : Text) →
    entry y (settle table pairs).puts ≡ if_passes (λ e. wins e (entry e.name table)) (entry y pairs)
entry-puts table pairs r y =
    ap (entry y) (puts-settle table pairs) ∙ entry-filter (λ e. wins e (entry e.name table)) pairs r y

-- a name is listed where something stands under it
listed : (t : Table) (y : Text) → list_any (λ x. x == y) (names t) ≡ is_some (entry y t)
listed [] y = refl
listed (e ∷ t) y = go (e.name == y) (listed t y)
  where
    go : (b : Bool) → list_any (λ x. x == y) (names t) ≡ is_some (entry y t) →
        (b || list_any (λ x. x == y) (names t)) ≡ is_some (if b then Some e else entry y t)
    go true h = refl
    go false h = h

-- whether a name is removed
pub is_removed : (table pairs : Table) → is_rising pairs ≡ true → (y : Text) →
    list_any (λ x. x == y) (settle table pairs).removes
    ≡ is_some (if_passes (λ e. goes e (entry e.name table)) (entry y pairs))
is_removed table pairs r y =
    ap (list_any (λ x. x == y)) (removes-settle table pairs)
    ∙ listed (filter (λ e. goes e (entry e.name table)) pairs) y
    ∙ ap (λ (o : Option Pair). is_some o) (entry-filter (λ e. goes e (entry e.name table)) pairs r y)

-- what stands under a name behind a settlement of what the joiner and the cluster have under it, where it is written over something
abbrev pub behind : Option Pair → Option Pair → Option Pair → Option Pair
behind None own over = over
behind (Some e) own over = if goes e own then None else (if wins e own then Some e else over)

-- what stands under a name once a settlement is written over a table
pub entry-settled : (over table pairs : Table) → is_rising pairs ≡ true → (y : Text) →
    entry y (with_settled (settle table pairs) over) ≡ behind (entry y pairs) (entry y table) (entry y over)
entry-settled over table pairs r y =
    entry-remove_all s.removes (put_all s.puts over) y
    ∙ ap₂ (λ (b : Bool) (o : Option Pair). if b then None else o) (is_removed table pairs r y)
    (entry-put_all s.puts over (is_rising-puts table pairs r) y
    ∙ ap (λ (o : Option Pair). or_else o (entry y over)) (entry-puts table pairs r y))
    ∙ go (entry y pairs) refl
  where
    s : Settled
    s = settle table pairs

    go : (o : Option Pair) → entry y pairs ≡ o →
        (if is_some (if_passes (λ e. goes e (entry e.name table)) o)
        then None
        else or_else (if_passes (λ e. wins e (entry e.name table)) o) (entry y over)) ≡ behind o (entry y table) (entry y over)
    go None h = refl
    go (Some e) h =
        ap (λ (x : Text).
        if is_some (if goes e (entry x table) then Some e else None)
        then None
        else or_else (if wins e (entry x table) then Some e else None) (entry y over)) (name-entry y pairs e h)
        ∙ by (goes e (entry y table)) (wins e (entry y table))
      where
        by : (g w : Bool) →
            (if is_some (if g then Some e else None) then None else or_else (if w then Some e else None) (entry y over))
            ≡ (if g then None else (if w then Some e else entry y over))
        by true w = refl
        by false true = refl
        by false false = refl
