-- What a process gets of a list of notices, and what histories send.
use mathlib.Core.Logic.{inl, inr}
use Rattle.std.proofs.Common.{suc, Bool, true, false, ◌≡◌, ◌<◌, arith, Option, Some, get_or, List, [], ◌∷◌, ◌++◌, map, refl, sym, ap, ◌∙◌, subst}
use Rattle.std.specs.Prelude.{Contains, AllPairs, filter, if◌then◌else◌}
use Rattle.std.proofs.lemmas.List.{map-append}
use Rattle.std.proofs.lemmas.List.Elements.{Contains-get_or, filter-append}
use Rattle.std.proofs.lemmas.List.Kept.{AllPairs-cons}
use Rattle.registry_model.specs.Process.{Text, Process, is_process, Nodes}
use Rattle.registry_model.specs.Settlement.{Notice, Noted, notices_to, settle}
use Rattle.registry_model.specs.Table.{Rule, Notify, Pair, Table, is_rising, get}
use Rattle.registry_model.specs.SharedLaws
use Rattle.registry_model.specs.SharedLaws.{Clashes, Loses, OfJoiner, OfCluster, IsSent, OfLoss, OfJoiners, OfClusters, IsSentBefore, OfLesser, Settles}
use Rattle.registry_model.specs.Registry.{Registry, view}
use Rattle.registry_model.specs.History.{Entry, registry_of}
use Rattle.registry_model.specs.HistoryLaws as Known
use Rattle.registry_model.proofs.Lists.{Contains-cases, Contains-front, Contains-behind, Contains-nil, is_process-eq, is_process-other, is_process-true}
use Rattle.registry_model.proofs.NoticesStay.{notices_law}
use Rattle.registry_model.proofs.Rising.{Rises, Rises-registry_of, is_rising-view}
use Rattle.registry_model.proofs.Settlements.{settle_law}
use Rattle.registry_model.proofs.Tables.{get_from_entry}
use Rattle.history_words.specs.Notices.{GetsItsOwn, GetsWhatIsSent, SendsNotices, SendsInOrder}

-- what p gets of a list, notice by notice
data Gets (p : Process) : List Noted → List Notice → Type 0 where
  Nothing : Gets p [] []
  Its : (n : Noted) (ns : List Noted) (gs : List Notice) → n.process ≡ p → Gets p ns gs → Gets p (n ∷ ns) (n.notice ∷ gs)
  Anothers : (n : Noted) (ns : List Noted) (gs : List Notice) → (n.process ≡ p → ⊥) → Gets p ns gs → Gets p (n ∷ ns) gs

-- what is kept of a list whose first notice is for p, or not
abbrev kept : Process → Noted → List Noted → Bool → List Notice
kept p n ns b =
    let rest : List Noted = filter (λ m. is_process m.process p) ns in map (λ m. m.notice) (if b then n ∷ rest else rest)

own : (p : Process) (ns : List Noted) → Gets p ns (notices_to p ns)
own p [] = Nothing
own p (n ∷ ns) = go (own p ns) (is_process n.process p) refl
  where
    go : Gets p ns (notices_to p ns) → (b : Bool) → is_process n.process p ≡ b → Gets p (n ∷ ns) (kept p n ns b)
    go more true e = Its n ns (notices_to p ns) (is_process-true n.process p e) more
    go more false e = Anothers n ns (notices_to p ns) (λ i. cc (e, is_process-eq n.process p i)) more

pub gets_its_own : (p : Process) → GetsItsOwn p
gets_its_own p = record {
  none = refl;
  own = λ n e. ap (kept p n []) (is_process-eq n.process p e);
  others = λ n ne. ap (kept p n []) (is_process-other n.process p ne);
  in_order = λ ns ms. ap (map (λ (n : Noted). n.notice)) (filter-append (λ (n : Noted). is_process n.process p) ns ms)
      ∙ map-append (λ (n : Noted). n.notice) (filter (λ n. is_process n.process p) ns) (filter (λ n. is_process n.process p) ms);
}

-- one of these is before each that stands behind it
first_before : {A : Type 0} (R : A → A → Type 0) (x : A) (xs : List A) (y : A) → AllPairs R (x ∷ xs) → Contains xs y → R x y
first_before R x xs y r (k, l, e) = subst (R x) e (r 0 (suc k) y (omega arith) (omega arith))

rest_pairs : {A : Type 0} (R : A → A → Type 0) (x : A) (xs : List A) → AllPairs R (x ∷ xs) → AllPairs R xs
rest_pairs R x xs r = λ i j d l b. r (suc i) (suc j) d (omega arith) (omega arith)

module _ (p : Process) where
  abbrev for_it : Notice → Noted
  for_it x = record { process = p; notice = x }

  is_for_it : (n : Noted) (x : Notice) → n.process ≡ p → n.notice ≡ x → n ≡ for_it x
  is_for_it n x e f = ap (λ (q : Process). let m : Noted = record { process = q; notice = n.notice } in m) e ∙ ap for_it f

  -- what is got is what is there for p
  got_there : (ns : List Noted) (gs : List Notice) → Gets p ns gs → (x : Notice) → Contains gs x → Contains ns (for_it x)
  got_there _ _ Nothing x c = absurd (Contains-nil x c)
  got_there _ _ (Its n ns gs e G) x c = elim (Contains-cases n.notice gs x c) [
    | inl same ↦ subst (λ (m : Noted). Contains (n ∷ ns) m) (is_for_it n x e same) (Contains-front n ns)
    | inr more ↦ Contains-behind n ns (for_it x) (got_there ns gs G x more)
  ]
  got_there _ _ (Anothers n ns gs ne G) x c = Contains-behind n ns (for_it x) (got_there ns gs G x c)

  there_got : (ns : List Noted) (gs : List Notice) → Gets p ns gs → (x : Notice) → Contains ns (for_it x) → Contains gs x
  there_got _ _ Nothing x c = absurd (Contains-nil (for_it x) c)
  there_got _ _ (Its n ns gs e G) x c = elim (Contains-cases n ns (for_it x) c) [
    | inl same ↦ subst (λ (y : Notice). Contains (n.notice ∷ gs) y) (ap (λ (m : Noted). m.notice) same) (Contains-front n.notice gs)
    | inr more ↦ Contains-behind n.notice gs x (there_got ns gs G x more)
  ]
  there_got _ _ (Anothers n ns gs ne G) x c = elim (Contains-cases n ns (for_it x) c) [
    | inl same ↦ absurd (ne (ap (λ (m : Noted). m.process) same))
    | inr more ↦ there_got ns gs G x more
  ]

module _ (table pairs : Table) where
  -- a notice is of a name that both have, for two processes
  abbrev OfClash : Text → Type 0
  OfClash y = (e : Pair) × (own : Pair) × Clashes table pairs e own × (e.name ≡ y)

  loss_clash : (rule : Rule) (q : Process) (y : Text) → Loses table pairs rule q y → OfClash y
  loss_clash rule _ _ (OfJoiner e own c r l) = (e, own, c, refl)
  loss_clash rule _ _ (OfCluster e own c r l) = (e, own, c, refl)

  sent_clash : (q : Process) (x : Notice) → IsSent table pairs q x → OfClash x.name
  sent_clash _ _ (OfLoss q y l) = loss_clash Notify q y l
  sent_clash _ _ (OfJoiners e own c r) = (e, own, c, refl)
  sent_clash _ _ (OfClusters e own c r) = (e, own, c, refl)

  -- so it isn't the owner on both sides
  not_both : (q : Process) (x : Notice) → IsSent table pairs q x → get x.name table ≡ Some q → get x.name pairs ≡ Some q → ⊥
  not_both q x s here there =
      let c : OfClash x.name = sent_clash q x s in
      let e : Pair = c.0 in
      let own : Pair = c.1 in
      let a : get e.name pairs ≡ Some e.owner = get_from_entry e.name pairs e c.2.joiner in
      let b : get e.name table ≡ Some own.owner = get_from_entry e.name table own c.2.cluster in
      let f : Some e.owner ≡ Some q = sym a ∙ ap (λ (y : Text). get y pairs) c.3 ∙ there in
      let g : Some own.owner ≡ Some q = sym b ∙ ap (λ (y : Text). get y table) c.3 ∙ here in
      c.2.apart (cc (f, g))

  -- what p gets of notices in order rises
  gets_rise : (p : Process) (ns : List Noted) (gs : List Notice) → Gets p ns gs → AllPairs (IsSentBefore table pairs) ns
      → ((n : Noted) → Contains ns n → IsSent table pairs n.process n.notice) → AllPairs (λ x y. x.name < y.name) gs
  gets_rise p _ _ Nothing R S = λ i j d l b. absurd (omega (arith, b))
  gets_rise p _ _ (Anothers n ns gs ne G) R S =
      gets_rise p ns gs G (rest_pairs (IsSentBefore table pairs) n ns R) (λ m c. S m (Contains-behind n ns m c))
  gets_rise p _ _ (Its n ns gs e G) R S = AllPairs-cons (λ x y. x.name < y.name) n.notice gs
      (λ k d l. less (get_or gs k d) (Contains-get_or gs k d l))
      (gets_rise p ns gs G (rest_pairs (IsSentBefore table pairs) n ns R) (λ m c. S m (Contains-behind n ns m c)))
    where
      by : (y : Notice) → IsSentBefore table pairs n (for_it p y) → n.notice.name < y.name
      by y (OfLesser l) = l
      by y (SharedLaws.IsSentBefore.OfCluster same first second) = absurd (not_both p n.notice
          (subst (λ (q : Process). IsSent table pairs q n.notice) e (S n (Contains-front n ns)))
          (first ∙ ap (λ (q : Process). let x : Option Process = Some q in x) e)
          (ap (λ (z : Text). get z pairs) same ∙ second))

      less : (y : Notice) → Contains gs y → n.notice.name < y.name
      less y c = by y (first_before (IsSentBefore table pairs) n ns (for_it p y) R (got_there p ns gs G y c))

  gets_what_is_sent : is_rising table ≡ true → is_rising pairs ≡ true → (p : Process) (gs : List Notice)
      → Gets p (settle table pairs).fate.notices gs → GetsWhatIsSent table pairs p gs
  gets_what_is_sent rt rp p gs G =
      let S : Settles table pairs (settle table pairs) = settle_law table pairs rt rp in
      record {
        sent = λ x. (
          λ c. (S.told (for_it p x)).0 (got_there p (settle table pairs).fate.notices gs G x c),
          λ s. there_got p (settle table pairs).fate.notices gs G x ((S.told (for_it p x)).1 s),
        );
        rise = gets_rise p (settle table pairs).fate.notices gs G S.in_order (λ n c. (S.told n).0 c);
      }

-- what an entry sends, in words
in_words : (r : Registry) → Rises r → (p : Process) (e : Entry) (gs : List Notice) → Known.Sends r p e gs → SendsNotices r p e gs
in_words r R p _ _ (Known.Sends.ByJoin j k m) = SendsNotices.ByJoin j k m (notices_to p (settle (view r m) (r.lone j)).fate.notices)
    (gets_what_is_sent (view r m) (r.lone j) (is_rising-view r R m) (R.lone j) p
    (notices_to p (settle (view r m) (r.lone j)).fate.notices) (own p (settle (view r m) (r.lone j)).fate.notices))
in_words r R p _ _ (Known.Sends.ByNone e none) = SendsNotices.ByNone e none

pub sends_in_order : (cluster : Nodes) (h : List Entry) → SendsInOrder cluster h
sends_in_order cluster h = record {
  opens = λ p. refl;
  grow = λ before later e p s.
      let stay : Known.NoticesStay cluster h = notices_law cluster h in
      let one : (gs : List Notice) × Known.Sends (registry_of cluster before) p e gs
      × ((registry_of cluster (before ++ e ∷ [])).notices p ≡ (registry_of cluster before).notices p ++ gs) =
      stay.grow before later e p s in
      (one.0, in_words (registry_of cluster before) (Rises-registry_of cluster before) p e one.0 one.1, one.2);
}
