-- In a quiet world each lock call of a node is held up, or there is one that is ready: it has nobody to ask, or its lock is free where it
-- asks and no rival comes before it.
use mathlib.Core.Logic.{◌⊎◌}
use Rattle.std.proofs.Common.{ℕ, zero, suc, Bool, true, false, ◌==◌, ◌≡◌, ◌<◌, ◌≤◌, Option, Some, None, List, [], ◌∷◌, refl, sym, ap, subst, ◌∙◌, inl, inr, arith}
use Rattle.std.specs.Prelude.{not, ◌&&◌, ◌||◌, Contains, nat_lt, is_none, find, if◌then◌else◌}
use Rattle.std.proofs.lemmas.Bool.{cases_eq, eq-eqb, eqb-true, ltb-true}
use Rattle.std.proofs.lemmas.Bool.Decides.{nat_tests}
use Rattle.registry_model.specs.Process.{Text, Process}
use Rattle.registry_model.proofs.Lists.{Contains-cases, Contains-front, Contains-behind, Contains-nil}
use Rattle.protocol_model.specs.Letter.{Id, Client, is_id, is_resource}
use Rattle.protocol_model.specs.LockTable.{Grant, count, last_count, is_in_the_way, refused_by, is_free_for}
use Rattle.protocol_model.specs.Round.{is_empty}
use Rattle.protocol_model.specs.Node.{LockCall}
use Rattle.protocol_model.specs.ClientLocks.{holds_count, Holds}
use Rattle.protocol_model.specs.World.{Opening, World, WorldEvent}
use Rattle.protocol_model.proofs.Meanings.{grants_the_free}
use Rattle.getting_through.proofs.Indices.{both, not_true, some_of, empty_at}
use Rattle.getting_through.proofs.Invariants.{IsUp}
use Rattle.walk.proofs.Calls.{all_open}
use Rattle.getting_through.proofs.LockTables.{is_global}
use Rattle.getting_through.proofs.Locking.{IsClients, call_of-client}
use Rattle.getting_through.proofs.Families.{whole}
use Rattle.getting_through.proofs.Ids.{is_id_same}
use Rattle.getting_through.proofs.LocksTold.{locks_are_as_told, no_empty_grants}
use Rattle.getting_through.proofs.Near.{target_member}
use Rattle.getting_through.proofs.QuietWorlds.{found_call}
use Rattle.getting_through.proofs.Groups.{below as member_below, member_runs}
use Rattle.waiting_lock_calls.specs.Retried.{asks, IsRival}
use Rattle.waiting_lock_calls.specs.HeldUp.{boss_of, comes_before, HeldUp, Taken, Full, Behind}
use Rattle.waiting_lock_calls.proofs.Standing.{counted}
use Rattle.getting_through.specs.Worlds.{of_nodes, IsQuiet}
use Rattle.getting_through.specs.Clauses.{world}
use Rattle.getting_through.specs.QuietCalls.{IsFree}

-- what is found is in the list, and passes
pub found_in : {A : Type 0} (test : A → Bool) (xs : List A) (x : A) → find test xs ≡ Some x → Contains xs x × (test x ≡ true)
found_in test [] x e = cc e
found_in {A} test (y ∷ xs) x e = go (test y) refl e (found_in test xs x)
  where
    go : (b : Bool) → test y ≡ b → (if b then Some y else find test xs) ≡ Some x
        → (find test xs ≡ Some x → Contains xs x × (test x ≡ true)) → Contains (y ∷ xs) x × (test x ≡ true)
    go true i k more = let same : y ≡ x = cc k in
        (subst (λ (z : A). Contains (z ∷ xs) x) (sym same) (Contains-front x xs), subst (λ (z : A). test z ≡ true) same i)
    go false i k more = let m : Contains xs x × (test x ≡ true) = more k in (Contains-behind y xs x m.0, m.1)

module _ (o : Opening) (es : List WorldEvent) (Q : IsQuiet (of_nodes o) (world o es)) (a : ℕ) (up : IsUp o (world o es) a) where
  abbrev w : World
  w = world o es

  abbrev calls : List LockCall
  calls = (w.node a).calls

  abbrev Held : LockCall → Type 0
  Held c = HeldUp o es w a c

  -- its lock is free where it asks, and no rival comes before it
  pub record IsClearOf (c : LockCall) : Type 0 where
    pub resource : Text
    pub requester : Text
    pub id : c.id ≡ Client resource requester
    pub free : IsFree o es c.holder resource requester (asks w a c)
    pub first : (d : LockCall) → IsRival w a c d → comes_before o w a d c ≡ true → ⊥

  pub record IsReady : Type 0 where
    pub call : LockCall
    pub listed : Contains (w.node a).calls call
    pub why : (is_empty o.bound (asks w a call) ≡ true) ⊎ IsClearOf call

  below : (d : LockCall) (x : ℕ) → asks w a d x ≡ true → x < o.bound
  below d x k = member_below o w (whole o es) Q a up x (target_member (w.node a).replica.members d.target x k)

  runs : (d : LockCall) (x : ℕ) → asks w a d x ≡ true → IsUp o w x
  runs d x k = member_runs o w (whole o es) Q a up x (target_member (w.node a).replica.members d.target x k)

  client_id : (c : LockCall) → Contains (w.node a).calls c → (r : Text) × (z : Text) × (c.id ≡ Client r z)
  client_id c listed = go c.id refl
    where
      is_one : IsClients c
      is_one = call_of-client c.holder (w.node a).calls c ((whole o es).base.all.locks.calls a)
          (found_call (w.node a).calls (w.node a).calls c (all_open a (w.node a).calls ((whole o es).base.ordered a)) listed)

      go : (i : Id) → c.id ≡ i → (r : Text) × (z : Text) × (c.id ≡ Client r z)
      go (Client r z) e = (r, z, e)
      go (Id.Global b) e = cc (ap is_global e, is_one.0)

  -- a node that refuses it
  abbrev Refuses : LockCall → Type 0
  Refuses c = (x : ℕ) × (asks w a c x ≡ true) × (is_free_for c.id c.holder (w.node x).locks ≡ false)

  refuses : (c : LockCall) (n : ℕ)
      → Refuses c ⊎ ((x : ℕ) → x < n → asks w a c x ≡ true → is_free_for c.id c.holder (w.node x).locks ≡ true)
  refuses c zero = inr (λ x l k. absurd (omega (arith, l)))
  refuses c (suc n) = elim (refuses c n) [
    | inl r ↦ inl r
    | inr none ↦ here none (asks w a c n) refl (is_free_for c.id c.holder (w.node n).locks) refl
  ]
    where
      here : ((x : ℕ) → x < n → asks w a c x ≡ true → is_free_for c.id c.holder (w.node x).locks ≡ true)
          → (b : Bool) → asks w a c n ≡ b → (f : Bool) → is_free_for c.id c.holder (w.node n).locks ≡ f
          → Refuses c ⊎ ((x : ℕ) → x < suc n → asks w a c x ≡ true → is_free_for c.id c.holder (w.node x).locks ≡ true)
      here none true e false i = inl (n, e, i)
      here none true e true i = inr (λ x l k. elim (cases_eq x n) [
        | inl same ↦ ap (λ (y : ℕ). is_free_for c.id c.holder (w.node y).locks) same ∙ i
        | inr ne ↦ none x (omega (arith, l, ne)) k
      ])
      here none false e f i = inr (λ x l k. elim (cases_eq x n) [
        | inl same ↦ cc (ap (asks w a c) same, e, k)
        | inr ne ↦ none x (omega (arith, l, ne)) k
      ])

  -- so it is held up by a lock
  held_by_lock : (c : LockCall) → Refuses c → Held c
  held_by_lock c (x, mine, refused) = go (find (is_in_the_way c.id) (w.node x).locks) refl
    where
      go : (g : Option Grant) → find (is_in_the_way c.id) (w.node x).locks ≡ g → Held c
      go (Some g) e =
          let F : Contains (w.node x).locks g × (is_in_the_way c.id g ≡ true) = found_in (is_in_the_way c.id) (w.node x).locks g e in
          let parts : (is_resource g.id c.id ≡ true) × (not (is_id g.id c.id) ≡ true) =
          both (is_resource g.id c.id) (not (is_id g.id c.id)) F.1 in
          Taken c x g.holder g.id mine (no_empty_grants o es x Q (runs c x mine) g F.0) parts.0 (not_true (is_id g.id c.id) parts.1)
      go None e = by (nat_lt (count c.id c.holder (w.node x).locks) last_count) refl
          (sym (ap (λ (g : Option Grant). is_none (refused_by c.id c.holder (w.node x).locks g)) e) ∙ refused)
        where
          by : (b : Bool) → nat_lt (count c.id c.holder (w.node x).locks) last_count ≡ b
              → is_none (if b then None else Some c.id) ≡ false → Held c
          by true i k = cc k
          by false i k = Full c x mine (subst (λ (n : ℕ). last_count ≤ n) (locks_are_as_told o es x Q (runs c x mine) c.id c.holder)
              (grind (arith, nat_tests, i)))

  -- and where none refuses it its lock is free
  free_where : (c : LockCall) → (r z : Text) → c.id ≡ Client r z → is_empty o.bound (asks w a c) ≡ false
      → ((x : ℕ) → x < o.bound → asks w a c x ≡ true → is_free_for c.id c.holder (w.node x).locks ≡ true)
      → IsFree o es c.holder r z (asks w a c)
  free_where c r z id some free = record {
    somebody = some;
    others = λ x q y k held. others x q y k held;
    room = λ x k. subst (λ (i : Id). holds_count o es c.holder i x < last_count) id
        (subst (λ (n : ℕ). n < last_count) (locks_are_as_told o es x Q (runs c x k) c.id c.holder)
        ((grants_the_free c.id c.holder (w.node x).locks).0 (free x (below c x k) k)).1);
  }
    where
      others : (x : ℕ) (q : Process) (y : Text) → asks w a c x ≡ true → Holds o es q (Client r y) x → y ≡ z
      others x q y k held =
          let g : (g : Grant) × Contains (w.node x).locks g × (is_id g.id (Client r y) ≡ true) =
          counted (Client r y) q (w.node x).locks
          (subst (λ (n : ℕ). 0 < n) (sym (locks_are_as_told o es x Q (runs c x k) (Client r y) q)) held) in
          let its : g.0.id ≡ Client r y = is_id_same g.0.id (Client r y) g.2 in
          let same : g.0.id ≡ c.id = ((grants_the_free c.id c.holder (w.node x).locks).0 (free x (below c x k) k)).0 g.0 g.1
          (ap (λ (i : Id). is_resource i c.id) its ∙ ap (is_resource (Client r y)) id ∙ eq-eqb r r refl) in
          requester (sym its ∙ same ∙ id)
        where
          requester : Client r y ≡ Client r z → y ≡ z
          requester e = cc e

  -- a rival before it
  abbrev InFront : LockCall → Type 0
  InFront c = (d : LockCall) × IsRival w a c d × (comes_before o w a d c ≡ true)

  one_in_front : (c d : LockCall) → Contains (w.node a).calls d
      → (IsRival w a c d × (comes_before o w a d c ≡ true)) ⊎ (IsRival w a c d → comes_before o w a d c ≡ true → ⊥)
  one_in_front c d listed = go (is_resource d.id c.id) refl (is_id d.id c.id) refl
      (is_empty o.bound (λ x. asks w a c x && asks w a d x)) refl (comes_before o w a d c) refl
    where
      go : (b : Bool) → is_resource d.id c.id ≡ b → (i : Bool) → is_id d.id c.id ≡ i
          → (n : Bool) → is_empty o.bound (λ x. asks w a c x && asks w a d x) ≡ n → (k : Bool) → comes_before o w a d c ≡ k
          → (IsRival w a c d × (comes_before o w a d c ≡ true)) ⊎ (IsRival w a c d → comes_before o w a d c ≡ true → ⊥)
      go true eb false ei false en true ek =
          let one : (x : ℕ) × (x < o.bound) × ((asks w a c x && asks w a d x) ≡ true) =
          some_of o.bound (λ x. asks w a c x && asks w a d x) en in
          let two : (asks w a c one.0 ≡ true) × (asks w a d one.0 ≡ true) = both (asks w a c one.0) (asks w a d one.0) one.2 in
          inl (record { listed = listed; resource = eb; requester = ei; node = one.0; asked = two.0; asked_too = two.1 }, ek)
      go false eb i ei n en k ek = inr (λ R t. cc (R.resource, eb))
      go true eb true ei n en k ek = inr (λ R t. cc (R.requester, ei))
      go true eb false ei true en k ek = inr (λ R t. cc (
        empty_at o.bound (λ x. asks w a c x && asks w a d x) en R.node (below c R.node R.asked),
        ap (λ (b : Bool). b && asks w a d R.node) R.asked,
        R.asked_too,
      ))
      go true eb false ei false en false ek = inr (λ R t. cc (t, ek))

  in_front : (c : LockCall) (ds : List LockCall) → ((d : LockCall) → Contains ds d → Contains (w.node a).calls d)
      → InFront c ⊎ ((d : LockCall) → Contains ds d → IsRival w a c d → comes_before o w a d c ≡ true → ⊥)
  in_front c [] sub = inr (λ d i R t. absurd (Contains-nil d i))
  in_front c (d ∷ ds) sub = elim (in_front c ds (λ e i. sub e (Contains-behind d ds e i))) [
    | inl f ↦ inl f
    | inr none ↦ elim (one_in_front c d (sub d (Contains-front d ds))) [
      | inl f ↦ inl (d, f.0, f.1)
      | inr not ↦ inr (λ e i R t. elim (Contains-cases d ds e i) [
        | inl same ↦ not (subst (IsRival w a c) (sym same) R) (subst (λ (x : LockCall). comes_before o w a x c ≡ true) (sym same) t)
        | inr k ↦ none e k R t
      ])
    ]
  ]

  abbrev Why : LockCall → Type 0
  Why c = Held c ⊎ IsReady

  -- a call, where those before it are known
  one_call : (c : LockCall) → Contains (w.node a).calls c
      → ((d : LockCall) → Contains (w.node a).calls d → comes_before o w a d c ≡ true → Why d) → Why c
  one_call c listed more = elim (refuses c o.bound) [
    | inl r ↦ inl (held_by_lock c r)
    | inr free ↦ elim (in_front c (w.node a).calls (λ d i. i)) [
      | inl f ↦ elim (more f.0 f.1.listed f.2) [ inl held ↦ inl (Behind c f.0 f.1 f.2 held) | inr ready ↦ inr ready ]
      | inr first ↦ inr (by free first (is_empty o.bound (asks w a c)) refl)
    ]
  ]
    where
      by : ((x : ℕ) → x < o.bound → asks w a c x ≡ true → is_free_for c.id c.holder (w.node x).locks ≡ true)
          → ((d : LockCall) → Contains (w.node a).calls d → IsRival w a c d → comes_before o w a d c ≡ true → ⊥)
          → (b : Bool) → is_empty o.bound (asks w a c) ≡ b → IsReady
      by free first true e = record { call = c; listed = listed; why = inl e }
      by free first false e = let I : (r : Text) × (z : Text) × (c.id ≡ Client r z) = client_id c listed in
          record {
            call = c;
            listed = listed;
            why = inr (record {
              resource = I.0;
              requester = I.1;
              id = I.2;
              free = free_where c I.0 I.1 I.2 e free;
              first = λ d R t. first d R.listed R t;
            });
          }

  order : (d c : LockCall) → comes_before o w a d c ≡ true
      → (boss_of o w a d < boss_of o w a c) ⊎ ((boss_of o w a d ≡ boss_of o w a c) × (d.holder.serial < c.holder.serial))
  order d c e = go (nat_lt (boss_of o w a d) (boss_of o w a c)) refl e
    where
      go : (b : Bool) → nat_lt (boss_of o w a d) (boss_of o w a c) ≡ b
          → (b || (boss_of o w a d == boss_of o w a c) && nat_lt d.holder.serial c.holder.serial) ≡ true
          → (boss_of o w a d < boss_of o w a c) ⊎ ((boss_of o w a d ≡ boss_of o w a c) × (d.holder.serial < c.holder.serial))
      go true i k = inl (ltb-true (boss_of o w a d) (boss_of o w a c) i)
      go false i k = let two : ((boss_of o w a d == boss_of o w a c) ≡ true) × (nat_lt d.holder.serial c.holder.serial ≡ true) =
          both (boss_of o w a d == boss_of o w a c) (nat_lt d.holder.serial c.holder.serial) k in
          inr (eqb-true (boss_of o w a d) (boss_of o w a c) two.0, ltb-true d.holder.serial c.holder.serial two.1)

  by_serial : (b : ℕ) → ((c : LockCall) → Contains (w.node a).calls c → boss_of o w a c < b → Why c) → (s : ℕ) (c : LockCall)
      → Contains (w.node a).calls c → boss_of o w a c ≤ b → c.holder.serial < s → Why c
  by_serial b lower zero c listed l k = absurd (omega (arith, k))
  by_serial b lower (suc s) c listed l k = one_call c listed (λ d i e. elim (order d c e) [
    | inl less ↦ lower d i (omega (arith, less, l))
    | inr same ↦ by_serial b lower s d i (let one : boss_of o w a d ≡ boss_of o w a c = same.0 in omega (arith, one, l))
        (let two : d.holder.serial < c.holder.serial = same.1 in omega (arith, two, k))
  ])

  by_boss : (b : ℕ) (c : LockCall) → Contains (w.node a).calls c → boss_of o w a c < b → Why c
  by_boss zero c listed l = absurd (omega (arith, l))
  by_boss (suc b) c listed l = by_serial b (by_boss b) (suc c.holder.serial) c listed (omega (arith, l)) (omega arith)

  pub why : (c : LockCall) → Contains (w.node a).calls c → Why c
  why c listed = by_boss (suc (boss_of o w a c)) c listed (omega arith)

  -- all of them are held up, or one is ready
  pub all_held : (cs : List LockCall) → ((c : LockCall) → Contains cs c → Contains (w.node a).calls c)
      → IsReady ⊎ ((c : LockCall) → Contains cs c → Held c)
  all_held [] sub = inr (λ c i. absurd (Contains-nil c i))
  all_held (d ∷ cs) sub = elim (all_held cs (λ e i. sub e (Contains-behind d cs e i))) [
    | inl r ↦ inl r
    | inr held ↦ elim (why d (sub d (Contains-front d cs))) [
      | inl k ↦ inr (λ c i. elim (Contains-cases d cs c i) [ inl same ↦ subst Held same k | inr n ↦ held c n ])
      | inr r ↦ inl r
    ]
  ]
