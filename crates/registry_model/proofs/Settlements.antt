-- The settlement of a join, in words.
use Rattle.std.proofs.Common.{suc, Bool, true, false, ◌≡◌, ◌<◌, Option, Some, None, List, [], ◌∷◌, ◌++◌, filter, get_or, refl, sym, subst, ap, ◌∙◌, inl, inr, arith}
use Rattle.std.specs.Prelude.{◌⊎◌, if◌then◌else◌, nat_lt, flat_map, Contains, AllPairs}
use Rattle.std.proofs.lemmas.Bool.{ltb-true, ltb-false, lt-ltb, le-ltb}
use Rattle.std.proofs.lemmas.List.Kept.{AllPairs-cons}
use Rattle.std.proofs.lemmas.List.Elements.{Contains-get_or, Contains-append_cases, Contains-append_left, Contains-append_right}
use Rattle.registry_model.specs.Process.{Text, Process, is_process}
use Rattle.registry_model.specs.Table.{Rule, Exit, Notify, NotifyAll, Pair, Table, is_below, is_rising, get, entry, names}
use Rattle.registry_model.specs.Settlement.{Notice, Noted, note, with_settled, unsettled, settle}
use Rattle.registry_model.specs.SharedLaws.{Clashes, Loses, IsSent, IsSentBefore, GoesToNobody, Settles}
use Rattle.registry_model.specs.SharedLaws.Loses.{OfJoiner, OfCluster}
use Rattle.registry_model.proofs.Lists.{Contains-cases, Contains-front, Contains-behind, Contains-nil, is_process-eq, is_process-other}
use Rattle.registry_model.proofs.Owners.{Contains-entry, entry-Contains}
use Rattle.registry_model.proofs.Tables.{is_rising-parts, get_from_entry, entry_from_get, name-entry, if_passes, entry-filter, is_rising-filter}
use Rattle.registry_model.proofs.LookUps.{below-names, rising-names, owner-names, names-owner}
use Rattle.registry_model.proofs.Settling.{wins_under, goes_under, victim_under, sent_under, wins, goes, victim, sent, DiesOfOne, removes-settle, notices-settle, kills-settle_from, is_once, is_once-settle_from, once-is_once, is_rising-puts, entry-puts, entry-settled}

-- what stands under a name of both behind the settlement, under this rule
settled_under : (rule : Rule) (table pairs : Table) (e own : Pair) → is_rising pairs ≡ true → Clashes table pairs e own →
    own.rule ≡ rule → (b : Bool) → nat_lt e.owner.node own.owner.node ≡ b →
    entry e.name (with_settled (settle table pairs) table)
    ≡ (if goes_under rule then None else (if wins_under rule b then Some e else Some own))
settled_under rule table pairs e own r c k b l =
    entry-settled table table pairs r e.name
    ∙ rw (c.joiner, c.cluster) (rw (is_process-other e.owner own.owner c.apart) (rw (k, l) refl))

-- a rule but the last one
cases_rule : (rule : Rule) → (rule ≡ NotifyAll → ⊥) → (rule ≡ Exit) ⊎ (rule ≡ Notify)
cases_rule Exit ne = inl refl
cases_rule Notify ne = inr refl
cases_rule NotifyAll ne = absurd (ne refl)

-- where a name of both has gone, unless it went to nobody
has_gone : (table pairs : Table) (e own : Pair) → is_rising pairs ≡ true → Clashes table pairs e own →
    (own.rule ≡ NotifyAll → ⊥) → (b : Bool) → nat_lt e.owner.node own.owner.node ≡ b →
    entry e.name (with_settled (settle table pairs) table) ≡ (if b then Some e else Some own)
has_gone table pairs e own r c ne b l = elim (cases_rule own.rule ne) [
  | inl k ↦ settled_under Exit table pairs e own r c k b l
  | inr k ↦ settled_under Notify table pairs e own r c k b l
]

-- who dies under a rule does so under `exit`
dies_under : (rule : Rule) (lesser : Bool) (p q victim : Process) → victim_under rule lesser p q ≡ Some victim →
    (rule ≡ Exit) × ((if lesser then q else p) ≡ victim)
dies_under Exit true p q victim h = (refl, cc)
dies_under Exit false p q victim h = (refl, cc)
dies_under Notify lesser p q victim h = absurd cc
dies_under NotifyAll lesser p q victim h = absurd cc

-- who loses a name under a rule that gives it to one: the cluster's process where the joiner's is on the lesser node
loses_as : (table pairs : Table) (rule : Rule) (e own : Pair) → Clashes table pairs e own → own.rule ≡ rule →
    (b : Bool) → nat_lt e.owner.node own.owner.node ≡ b → Loses table pairs rule (if b then own.owner else e.owner) e.name
loses_as table pairs rule e own c k true l = OfCluster e own c k (ltb-true e.owner.node own.owner.node l)
loses_as table pairs rule e own c k false l = OfJoiner e own c k (ltb-false e.owner.node own.owner.node l)

-- the pair of the joiner and that of the cluster clash, unless they have one owner
clash_of : (table pairs : Table) (e own : Pair) → is_rising pairs ≡ true → Contains pairs e → entry e.name table ≡ Some own →
    is_process e.owner own.owner ≡ false → Clashes table pairs e own
clash_of table pairs e own r c h ne = record {
  joiner = entry-Contains pairs r e c;
  cluster = h;
  apart = λ i. let w : is_process e.owner own.owner ≡ true = is_process-eq e.owner own.owner i in cc;
}

-- who dies of the name of a pair, in words
dies-Loses : (table pairs : Table) (e : Pair) (p : Process) (o : Option Pair) → is_rising pairs ≡ true → Contains pairs e →
    entry e.name table ≡ o → victim e o ≡ Some p → (y : Text) × Loses table pairs Exit p y
dies-Loses table pairs e p None r c h k = absurd cc
dies-Loses table pairs e p (Some own) r c h k = go (is_process e.owner own.owner) refl k
  where
    lesser : Bool
    lesser = nat_lt e.owner.node own.owner.node

    go : (b : Bool) → is_process e.owner own.owner ≡ b →
        (if b then None else victim_under own.rule lesser e.owner own.owner) ≡ Some p → (y : Text) × Loses table pairs Exit p y
    go true ne k = absurd cc
    go false ne k =
        let (rule, who) : (own.rule ≡ Exit) × ((if lesser then own.owner else e.owner) ≡ p) =
        dies_under own.rule lesser e.owner own.owner p k in (
          e.name,
          subst (λ (q : Process). Loses table pairs Exit q e.name) who
              (loses_as table pairs Exit e own (clash_of table pairs e own r c h ne) rule lesser refl),
        )

-- the other way round
Loses-dies : (table pairs : Table) (y : Text) (p : Process) → Loses table pairs Exit p y → DiesOfOne table pairs p
Loses-dies table pairs y p (OfJoiner e own c k l) = (
  e,
  Contains-entry pairs e.name e c.joiner,
  rw c.cluster (rw (is_process-other e.owner own.owner c.apart) (rw (k, le-ltb e.owner.node own.owner.node l) refl)),
)
Loses-dies table pairs y p (OfCluster e own c k l) = (
  e,
  Contains-entry pairs e.name e c.joiner,
  rw c.cluster (rw (is_process-other e.owner own.owner c.apart) (rw (k, lt-ltb e.owner.node own.owner.node l) refl)),
)

-- what a list of lists contains
in_flat_map : {X A : Type 0} (f : X → List A) (xs : List X) (a : A) → Contains (flat_map f xs) a →
    (x : X) × Contains xs x × Contains (f x) a
in_flat_map f [] a c = absurd (Contains-nil a c)
in_flat_map {X} {A} f (x ∷ xs) a c = go (Contains-append_cases (f x) (flat_map f xs) a c) (in_flat_map f xs a)
  where
    go : Contains (f x) a ⊎ Contains (flat_map f xs) a →
        (Contains (flat_map f xs) a → (y : X) × Contains xs y × Contains (f y) a) →
        (y : X) × Contains (x ∷ xs) y × Contains (f y) a
    go (inl d) later = (x, Contains-front x xs, d)
    go (inr d) later = let (y, i, k) : (y : X) × Contains xs y × Contains (f y) a = later d in
        (y, Contains-behind x xs y i, k)

-- the other way round
flat_map_has : {X A : Type 0} (f : X → List A) (xs : List X) (x : X) (a : A) → Contains xs x → Contains (f x) a →
    Contains (flat_map f xs) a
flat_map_has f [] x a c d = absurd (Contains-nil x c)
flat_map_has {X} {A} f (y ∷ xs) x a c d = go (Contains-cases y xs x c) (flat_map_has f xs x a)
  where
    go : (y ≡ x) ⊎ Contains xs x → (Contains xs x → Contains (f x) a → Contains (flat_map f xs) a) →
        Contains (f y ++ flat_map f xs) a
    go (inl i) later = Contains-append_left (f y) (flat_map f xs) a (subst (λ (z : X). Contains (f z) a) (sym i) d)
    go (inr k) later = Contains-append_right (f y) (flat_map f xs) a (later k d)

-- what a clash sends is of its name
name_of_sent : (rule : Rule) (lesser : Bool) (x : Text) (p q : Process) (n : Noted) →
    Contains (sent_under rule lesser x p q) n → n.notice.name ≡ x
name_of_sent Exit lesser x p q n c = absurd (Contains-nil n c)
name_of_sent Notify true x p q n c = elim (Contains-cases (note q x None) [] n c) [
  | inl i ↦ ap (λ (m : Noted). m.notice.name) (sym i)
  | inr d ↦ absurd (Contains-nil n d)
]
name_of_sent Notify false x p q n c = elim (Contains-cases (note p x None) [] n c) [
  | inl i ↦ ap (λ (m : Noted). m.notice.name) (sym i)
  | inr d ↦ absurd (Contains-nil n d)
]
name_of_sent NotifyAll lesser x p q n c = elim (Contains-cases (note q x (Some p)) (note p x (Some q) ∷ []) n c) [
  | inl i ↦ ap (λ (m : Noted). m.notice.name) (sym i)
  | inr d ↦ elim (Contains-cases (note p x (Some q)) [] n d) [
    | inl i ↦ ap (λ (m : Noted). m.notice.name) (sym i)
    | inr f ↦ absurd (Contains-nil n f)
  ]
]

-- so is what a name sends
name_sent : (e : Pair) (o : Option Pair) (n : Noted) → Contains (sent e o) n → n.notice.name ≡ e.name
name_sent e None n c = absurd (Contains-nil n c)
name_sent e (Some own) n c = go (is_process e.owner own.owner) c
  where
    go : (b : Bool) → Contains
        (if b then [] else sent_under own.rule (nat_lt e.owner.node own.owner.node) e.name e.owner own.owner) n →
        n.notice.name ≡ e.name
    go true c = absurd (Contains-nil n c)
    go false c = name_of_sent own.rule (nat_lt e.owner.node own.owner.node) e.name e.owner own.owner n c

-- what is sent for a clash, in words
IsSent-clash : (table pairs : Table) (e own : Pair) (n : Noted) → Clashes table pairs e own →
    Contains (sent_under own.rule (nat_lt e.owner.node own.owner.node) e.name e.owner own.owner) n →
    IsSent table pairs n.process n.notice
IsSent-clash table pairs e own n c d = go own.rule refl (nat_lt e.owner.node own.owner.node) refl d
  where
    is : (m : Noted) → IsSent table pairs m.process m.notice → m ≡ n → IsSent table pairs n.process n.notice
    is m s i = subst (λ (m : Noted). IsSent table pairs m.process m.notice) i s

    loss : (b : Bool) → nat_lt e.owner.node own.owner.node ≡ b → own.rule ≡ Notify →
        IsSent table pairs (if b then own.owner else e.owner) (record { name = e.name; other = None })
    loss b l k = IsSent.OfLoss (if b then own.owner else e.owner) e.name (loses_as table pairs Notify e own c k b l)

    go : (rule : Rule) → own.rule ≡ rule → (b : Bool) → nat_lt e.owner.node own.owner.node ≡ b →
        Contains (sent_under rule b e.name e.owner own.owner) n → IsSent table pairs n.process n.notice
    go Exit k b l d = absurd (Contains-nil n d)
    go Notify k true l d = elim (Contains-cases (note own.owner e.name None) [] n d) [
      | inl i ↦ is (note own.owner e.name None) (loss true l k) i
      | inr f ↦ absurd (Contains-nil n f)
    ]
    go Notify k false l d = elim (Contains-cases (note e.owner e.name None) [] n d) [
      | inl i ↦ is (note e.owner e.name None) (loss false l k) i
      | inr f ↦ absurd (Contains-nil n f)
    ]
    go NotifyAll k b l d =
        elim (Contains-cases (note own.owner e.name (Some e.owner)) (note e.owner e.name (Some own.owner) ∷ []) n d) [
          | inl i ↦ is (note own.owner e.name (Some e.owner)) (IsSent.OfJoiners e own c k) i
          | inr f ↦ elim (Contains-cases (note e.owner e.name (Some own.owner)) [] n f) [
            | inl i ↦ is (note e.owner e.name (Some own.owner)) (IsSent.OfClusters e own c k) i
            | inr g ↦ absurd (Contains-nil n g)
          ]
        ]

-- what is sent in a settlement, in words
sent-IsSent : (table pairs : Table) (n : Noted) → is_rising pairs ≡ true →
    Contains (flat_map (λ e. sent e (entry e.name table)) pairs) n → IsSent table pairs n.process n.notice
sent-IsSent table pairs n r c =
    let (e, i, d) : (e : Pair) × Contains pairs e × Contains (sent e (entry e.name table)) n =
    in_flat_map (λ e. sent e (entry e.name table)) pairs n c in
    go e i (entry e.name table) refl d
  where
    go : (e : Pair) → Contains pairs e → (o : Option Pair) → entry e.name table ≡ o → Contains (sent e o) n →
        IsSent table pairs n.process n.notice
    go e i None h d = absurd (Contains-nil n d)
    go e i (Some own) h d = by (is_process e.owner own.owner) refl d
      where
        by : (b : Bool) → is_process e.owner own.owner ≡ b → Contains
            (if b then [] else sent_under own.rule (nat_lt e.owner.node own.owner.node) e.name e.owner own.owner) n →
            IsSent table pairs n.process n.notice
        by true ne d = absurd (Contains-nil n d)
        by false ne d = IsSent-clash table pairs e own n (clash_of table pairs e own r i h ne) d

-- what a clash sends is sent
clash_sends : (table pairs : Table) (e own : Pair) (n : Noted) → Clashes table pairs e own →
    Contains (sent_under own.rule (nat_lt e.owner.node own.owner.node) e.name e.owner own.owner) n →
    Contains (flat_map (λ e. sent e (entry e.name table)) pairs) n
clash_sends table pairs e own n c d =
    flat_map_has (λ e. sent e (entry e.name table)) pairs e n (Contains-entry pairs e.name e c.joiner)
    (rw c.cluster (rw (is_process-other e.owner own.owner c.apart) d))

-- a loss under `notify` is sent
loss_sent : (table pairs : Table) (p : Process) (y : Text) → Loses table pairs Notify p y →
    Contains (flat_map (λ e. sent e (entry e.name table)) pairs) (note p y None)
loss_sent table pairs p y (OfJoiner e own c k l) =
    clash_sends table pairs e own (note e.owner e.name None) c
    (rw (k, le-ltb e.owner.node own.owner.node l) (Contains-front (note e.owner e.name None) []))
loss_sent table pairs p y (OfCluster e own c k l) =
    clash_sends table pairs e own (note own.owner e.name None) c
    (rw (k, lt-ltb e.owner.node own.owner.node l) (Contains-front (note own.owner e.name None) []))

-- all that is sent in words is
IsSent-sent : (table pairs : Table) (p : Process) (notice : Notice) → IsSent table pairs p notice →
    Contains (flat_map (λ e. sent e (entry e.name table)) pairs) (record { process = p; notice = notice })
IsSent-sent table pairs p notice (IsSent.OfLoss q y l) = loss_sent table pairs q y l
IsSent-sent table pairs p notice (IsSent.OfJoiners e own c k) =
    clash_sends table pairs e own (note own.owner e.name (Some e.owner)) c
    (rw k (Contains-front (note own.owner e.name (Some e.owner)) (note e.owner e.name (Some own.owner) ∷ [])))
IsSent-sent table pairs p notice (IsSent.OfClusters e own c k) =
    clash_sends table pairs e own (note e.owner e.name (Some own.owner)) c
    (rw k (Contains-behind (note own.owner e.name (Some e.owner)) (note e.owner e.name (Some own.owner) ∷ [])
    (note e.owner e.name (Some own.owner)) (Contains-front (note e.owner e.name (Some own.owner)) [])))

-- each of a list comes before each of another, and so within each: so it is of both
AllPairs-append : {X : Type 0} (R : X → X → Type 0) (xs ys : List X) → AllPairs R xs → AllPairs R ys →
    ((x y : X) → Contains xs x → Contains ys y → R x y) → AllPairs R (xs ++ ys)
AllPairs-append R [] ys h k both = k
AllPairs-append {X} R (x ∷ xs) ys h k both =
    AllPairs-cons R x (xs ++ ys)
    (λ i d l. go (Contains-append_cases xs ys (get_or (xs ++ ys) i d) (Contains-get_or (xs ++ ys) i d l)))
    (AllPairs-append R xs ys (λ i j d l b. h (suc i) (suc j) d (omega arith) (omega arith)) k
    (λ y z c d. both y z (Contains-behind x xs y c) d))
  where
    front : (y : X) → Contains xs y → R x y
    front y (i, l, e) = subst (λ (z : X). R x z) e (h 0 (suc i) y (omega arith) (omega arith))

    go : {z : X} → Contains xs z ⊎ Contains ys z → R x z
    go {z} (inl c) = front z c
    go {z} (inr c) = both x z (Contains-front x xs) c

-- what is sent for one name is in order
ordered_one : (table pairs : Table) (e own : Pair) → Clashes table pairs e own →
    AllPairs (IsSentBefore table pairs) (sent_under own.rule (nat_lt e.owner.node own.owner.node) e.name e.owner own.owner)
ordered_one table pairs e own c = go own.rule (nat_lt e.owner.node own.owner.node)
  where
    alone : (n : Noted) → AllPairs (IsSentBefore table pairs) (n ∷ [])
    alone n = λ i j d l b. absurd (omega arith)

    go : (rule : Rule) (b : Bool) → AllPairs (IsSentBefore table pairs) (sent_under rule b e.name e.owner own.owner)
    go Exit b = λ i j d l b. absurd (omega arith)
    go Notify true = alone (note own.owner e.name None)
    go Notify false = alone (note e.owner e.name None)
    go NotifyAll b = AllPairs-append (IsSentBefore table pairs) (note own.owner e.name (Some e.owner) ∷ [])
        (note e.owner e.name (Some own.owner) ∷ []) (alone (note own.owner e.name (Some e.owner)))
        (alone (note e.owner e.name (Some own.owner))) (λ x y i k. both x y
        (Contains-cases (note own.owner e.name (Some e.owner)) [] x i)
        (Contains-cases (note e.owner e.name (Some own.owner)) [] y k))
      where
        first : IsSentBefore table pairs (note own.owner e.name (Some e.owner)) (note e.owner e.name (Some own.owner))
        first = IsSentBefore.OfCluster refl (get_from_entry e.name table own c.cluster)
            (get_from_entry e.name pairs e c.joiner)

        both : (x y : Noted) → (note own.owner e.name (Some e.owner) ≡ x) ⊎ Contains [] x →
            (note e.owner e.name (Some own.owner) ≡ y) ⊎ Contains [] y → IsSentBefore table pairs x y
        both x y (inr f) k = absurd (Contains-nil x f)
        both x y (inl i) (inr f) = absurd (Contains-nil y f)
        both x y (inl i) (inl k) = subst (λ (x : Noted). IsSentBefore table pairs x y) i
            (subst (λ (y : Noted). IsSentBefore table pairs (note own.owner e.name (Some e.owner)) y) k first)

-- what is sent for the names of these pairs, all of them pairs of the joiner, is in order
ordered : (table pairs rest : Table) → is_rising pairs ≡ true → is_rising rest ≡ true →
    ((e : Pair) → Contains rest e → Contains pairs e) →
    AllPairs (IsSentBefore table pairs) (flat_map (λ e. sent e (entry e.name table)) rest)
ordered table pairs [] r s within = λ i j d l b. absurd (omega arith)
ordered table pairs (e ∷ rest) r s within =
    AllPairs-append (IsSentBefore table pairs) (sent e (entry e.name table)) (flat_map (λ e. sent e (entry e.name table)) rest)
    (front (entry e.name table) refl)
    (ordered table pairs rest r tail.1 (λ d c. within d (Contains-behind e rest d c)))
    later
  where
    tail : (is_below e.name rest ≡ true) × (is_rising rest ≡ true)
    tail = is_rising-parts e rest s

    front : (o : Option Pair) → entry e.name table ≡ o → AllPairs (IsSentBefore table pairs) (sent e o)
    front None h = λ i j d l b. absurd (omega arith)
    front (Some own) h = by (is_process e.owner own.owner) refl
      where
        by : (b : Bool) → is_process e.owner own.owner ≡ b → AllPairs (IsSentBefore table pairs)
            (if b then [] else sent_under own.rule (nat_lt e.owner.node own.owner.node) e.name e.owner own.owner)
        by true ne = λ i j d l b. absurd (omega arith)
        by false ne =
            ordered_one table pairs e own (clash_of table pairs e own r (within e (Contains-front e rest)) h ne)

    later : (x y : Noted) → Contains (sent e (entry e.name table)) x →
        Contains (flat_map (λ e. sent e (entry e.name table)) rest) y → IsSentBefore table pairs x y
    later x y c d =
        let (f, i, k) : (f : Pair) × Contains rest f × Contains (sent f (entry f.name table)) y =
        in_flat_map (λ e. sent e (entry e.name table)) rest y d in
        let l : e.name < f.name = below e.name rest f tail.1 tail.0 i in
        let a : x.notice.name ≡ e.name = name_sent e (entry e.name table) x c in
        let b : y.notice.name ≡ f.name = name_sent f (entry f.name table) y k in
        IsSentBefore.OfLesser (omega (arith, l, a, b))
      where
        below : (x : Text) (t : Table) (f : Pair) → is_rising t ≡ true → is_below x t ≡ true → Contains t f → x < f.name
        below x t f r b c = below-names t x f.name r b (named t f c)
          where
            named : (t : Table) (f : Pair) → Contains t f → Contains (names t) f.name
            named [] f c = absurd (Contains-nil f c)
            named (g ∷ t) f c = go (Contains-cases g t f c) (named t f)
              where
                go : (g ≡ f) ⊎ Contains t f → (Contains t f → Contains (names t) f.name) → Contains (g.name ∷ names t) f.name
                go (inl i) h = subst (λ (z : Text). Contains (g.name ∷ names t) z) (ap (λ (p : Pair). p.name) i)
                    (Contains-front g.name (names t))
                go (inr k) h = Contains-behind g.name (names t) f.name (h k)

-- a rule by which nobody has the name
goes_as : (rule : Rule) → goes_under rule ≡ true → rule ≡ NotifyAll
goes_as Exit h = cc
goes_as Notify h = cc
goes_as NotifyAll h = refl

-- a pair of the joiner whose name goes, in words
goes-words : (table pairs : Table) (e : Pair) (o : Option Pair) → is_rising pairs ≡ true → Contains pairs e →
    entry e.name table ≡ o → goes e o ≡ true → GoesToNobody table pairs e.name
goes-words table pairs e None r c h k = cc
goes-words table pairs e (Some own) r c h k = go (is_process e.owner own.owner) refl k
  where
    go : (b : Bool) → is_process e.owner own.owner ≡ b → (if b then false else goes_under own.rule) ≡ true →
        GoesToNobody table pairs e.name
    go true ne k = cc
    go false ne k = (e, own, clash_of table pairs e own r c h ne, goes_as own.rule k, refl)

-- the pairs of the joiner whose names go
abbrev gone_pairs : Table → Table → Table
gone_pairs table pairs = filter (λ e. goes e (entry e.name table)) pairs

-- a name that is removed goes to nobody
removed_goes : (table pairs : Table) (y : Text) → is_rising pairs ≡ true → Contains (settle table pairs).removes y →
    GoesToNobody table pairs y
removed_goes table pairs y r c =
    let (p, g) : (p : Process) × (get y (gone_pairs table pairs) ≡ Some p) =
    owner-names (gone_pairs table pairs) y (subst (λ (xs : List Text). Contains xs y) (removes-settle table pairs) c) in
    let (e, h, o, n) : (e : Pair) × (entry y (gone_pairs table pairs) ≡ Some e) × (e.owner ≡ p) × (e.name ≡ y) =
    entry_from_get y (gone_pairs table pairs) p g in
    go (entry y pairs) refl (sym (entry-filter (λ e. goes e (entry e.name table)) pairs r y) ∙ h)
  where
    go : {e : Pair} → (o : Option Pair) → entry y pairs ≡ o → if_passes (λ e. goes e (entry e.name table)) o ≡ Some e →
        GoesToNobody table pairs y
    go None i h = cc
    go {e} (Some d) i h = by (goes d (entry d.name table)) refl h
      where
        by : (b : Bool) → goes d (entry d.name table) ≡ b → (if b then Some d else None) ≡ Some e → GoesToNobody table pairs y
        by true k h = subst (GoesToNobody table pairs) (name-entry y pairs d i)
            (goes-words table pairs d (entry d.name table) r (Contains-entry pairs y d i) refl k)
        by false k h = cc

-- and the other way round
goes_removed : (table pairs : Table) (y : Text) → is_rising pairs ≡ true → GoesToNobody table pairs y →
    Contains (settle table pairs).removes y
goes_removed table pairs y r (e, own, c, k, n) =
    subst (λ (xs : List Text). Contains xs y) (sym (removes-settle table pairs))
    (subst (λ (x : Text). Contains (names (gone_pairs table pairs)) x) n
    (names-owner (gone_pairs table pairs) e.name e.owner (get_from_entry e.name (gone_pairs table pairs) e stands)))
  where
    passes : goes e (entry e.name table) ≡ true
    passes = rw c.cluster (rw (is_process-other e.owner own.owner c.apart) (rw k refl))

    stands : entry e.name (gone_pairs table pairs) ≡ Some e
    stands = entry-filter (λ e. goes e (entry e.name table)) pairs r e.name
        ∙ ap (if_passes (λ e. goes e (entry e.name table))) c.joiner ∙ ap (λ (b : Bool). if b then Some e else None) passes

-- the settlement of rising pairs
pub settle_law : (table pairs : Table) → is_rising table ≡ true → is_rising pairs ≡ true →
    Settles table pairs (settle table pairs)
settle_law table pairs rt rp = record {
  of_cluster = λ y h. entry-settled table table pairs rp y ∙ rw h refl;
  of_joiner = λ e h f. entry-settled table table pairs rp e.name ∙ rw (h, f) refl;
  of_both = λ e own h f i. entry-settled table table pairs rp e.name ∙ rw (h, f) (rw (is_process-eq e.owner own.owner i) refl);
  to_joiner = λ e own c ne l. has_gone table pairs e own rp c ne true (lt-ltb e.owner.node own.owner.node l);
  to_cluster = λ e own c ne l. has_gone table pairs e own rp c ne false (le-ltb e.owner.node own.owner.node l);
  to_nobody = λ e own c k. settled_under NotifyAll table pairs e own rp c k (nat_lt e.owner.node own.owner.node) refl;
  rises = is_rising-puts table pairs rp;
  written = λ y e h. passed y e (entry y pairs) (sym (entry-puts table pairs rp y) ∙ h);
  removed = λ y. (removed_goes table pairs y rp, goes_removed table pairs y rp);
  removes_rise = subst (AllPairs (λ x y. x < y)) (sym (removes-settle table pairs))
      (rising-names (gone_pairs table pairs) (is_rising-filter (λ e. goes e (entry e.name table)) pairs rp));
  killed = λ p. (
    λ c. to p ((kills-settle_from table pairs unsettled p).0 c),
    λ (y, l). (kills-settle_from table pairs unsettled p).1 (inr (Loses-dies table pairs y p l)),
  );
  once = λ before later p e c. once-is_once before later p
      (ap is_once (sym e) ∙ is_once-settle_from table pairs unsettled refl) c;
  told = λ n. (
    λ c. sent-IsSent table pairs n rp (subst (λ (ns : List Noted). Contains ns n) (notices-settle table pairs) c),
    λ s. subst (λ (ns : List Noted). Contains ns n) (sym (notices-settle table pairs))
        (IsSent-sent table pairs n.process n.notice s),
  );
  in_order = subst (AllPairs (IsSentBefore table pairs)) (sym (notices-settle table pairs))
      (ordered table pairs pairs rp rp (λ e c. c));
}
  where
    passed : (y : Text) (e : Pair) (o : Option Pair) →
        if_passes (λ e. wins e (entry e.name table)) o ≡ Some e → o ≡ Some e
    passed y e None h = absurd cc
    passed y e (Some d) h = go (wins d (entry d.name table)) h
      where
        go : (b : Bool) → (if b then Some d else None) ≡ Some e → Some d ≡ Some e
        go true h = h
        go false h = absurd cc

    to : (p : Process) → Contains [] p ⊎ DiesOfOne table pairs p → (y : Text) × Loses table pairs Exit p y
    to p (inl c) = absurd (Contains-nil p c)
    to p (inr (e, c, k)) = dies-Loses table pairs e p (entry e.name table) rp c refl k
