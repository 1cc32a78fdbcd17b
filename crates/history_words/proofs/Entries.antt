-- Who has left, was told and has joined by a registry, and by the entries of its history.
use mathlib.Core.Logic.{◌⊎◌, inl, inr}
use Rattle.std.proofs.Common.{ℕ, Bool, true, false, ◌≡◌, List, [], ◌∷◌, ◌++◌, refl, sym, ap, ◌∙◌, subst}
use Rattle.std.specs.Prelude.{◌||◌, Contains, fold, if◌then◌else◌}
use Rattle.std.proofs.lemmas.Bool.{cases_eq, or_cases, or_left, or_right}
use Rattle.std.proofs.lemmas.List.{append_assoc}
use Rattle.std.proofs.lemmas.List.Elements.{Contains-append_left, Contains-push, Contains-push_cases}
use Rattle.registry_model.specs.Process.{Nodes, at, with_node}
use Rattle.registry_model.specs.Table.{StrikeOwner, changed}
use Rattle.registry_model.specs.Call.{Joined, is_grant, change_of}
use Rattle.registry_model.specs.Registry.{Registry, opening, with_table}
use Rattle.registry_model.specs.History.{Entry, Name, Strike, Join, Done, Exit, Left, Told, Read, effect, registry_of}
use Rattle.registry_model.proofs.Lists.{by_push, Contains-split, Contains-nil}
use Rattle.registry_model.proofs.Updates.{at_same, at_other}
use Rattle.registry_model.proofs.Groups.{left-with_table, told-with_table}
use Rattle.registry_model.proofs.HistoryParts.{registry_of-append, registry_of-push}
use Rattle.registry_model.proofs.Deaths.{IsJoinOf, joined-effect, joined_stays_after, joined_after}
use Rattle.history_words.specs.Entries.{WasTold, ByNotice, ByContact, HasJoined, ByJoin, TellsItsEntries}

-- what an entry does to who has left
left-effect : (r : Registry) (e : Entry) (d : ℕ) → (e ≡ Left d) ⊎ ((effect e r).left d ≡ r.left d)
left-effect r (Name n k call reply) d = inr (go (is_grant reply))
  where
    go : (b : Bool) → (if b then with_table n (changed (change_of call)) r else r).left d ≡ r.left d
    go true = ap (λ (f : Nodes). f d) (left-with_table n (changed (change_of call)) r)
    go false = refl
left-effect r (Strike p) d = inr (ap (λ (f : Nodes). f d) (left-with_table p.node (changed (StrikeOwner p)) r))
left-effect r (Left c) d = elim (cases_eq d c) [
  | inl i ↦ inl (ap (λ (x : ℕ). Left x) (sym i))
  | inr ne ↦ inr (at_other r.left c true d ne)
]
left-effect r (Join j k m Joined) d = inr refl
left-effect r (Join j k m _) d = inr refl
left-effect r (Done n) d = inr refl
left-effect r (Exit p) d = inr refl
left-effect r (Told n c) d = inr refl
left-effect r (Read n look reply) d = inr refl

left_stays : (r : Registry) (e : Entry) (d : ℕ) → r.left d ≡ true → (effect e r).left d ≡ true
left_stays r e d l = elim (left-effect r e d) [
  | inl i ↦ ap (λ (f : Entry). (effect f r).left d) i ∙ at_same r.left d true
  | inr i ↦ i ∙ l
]

-- an entry that tells n of d
data Tells (r : Registry) (n d : ℕ) : Entry → Type 0 where
  OfIt : Tells r n d (Told n d)
  ByIts : (k m : ℕ) → r.told m d ≡ true → Tells r n d (Join n k m Joined)

-- what an entry does to who was told
told-effect : (r : Registry) (e : Entry) (n d : ℕ) → (effect e r).told n d ≡ true → (r.told n d ≡ true) ⊎ Tells r n d e
told-effect r (Name a k call reply) n d t = inl (go (is_grant reply) t)
  where
    go : (b : Bool) → (if b then with_table a (changed (change_of call)) r else r).told n d ≡ true → r.told n d ≡ true
    go true q = ap (λ (f : ℕ → Nodes). f n d) (sym (told-with_table a (changed (change_of call)) r)) ∙ q
    go false q = q
told-effect r (Strike p) n d t = inl (ap (λ (f : ℕ → Nodes). f n d) (sym (told-with_table p.node (changed (StrikeOwner p)) r)) ∙ t)
told-effect r (Told a c) n d t = elim (cases_eq n a) [
  | inl here ↦ elim (cases_eq d c) [
    | inl same ↦ inr (subst (λ (x : ℕ). Tells r n d (Told x c)) here (subst (λ (y : ℕ). Tells r n d (Told n y)) same OfIt))
    | inr ne ↦ inl (
        ap (λ (x : ℕ). r.told x d) here ∙ sym (at_other (r.told a) c true d ne)
        ∙ ap (λ (f : Nodes). f d) (sym (at_same r.told a (with_node c (r.told a))))
        ∙ ap (λ (x : ℕ). at r.told a (with_node c (r.told a)) x d) (sym here) ∙ t
        )
  ]
  | inr ne ↦ inl (ap (λ (f : Nodes). f d) (sym (at_other r.told a (with_node c (r.told a)) n ne)) ∙ t)
]
told-effect r (Join j k m Joined) n d t = elim (cases_eq n j) [
  | inl here ↦ elim (or_cases (r.told j d) (r.told m d)
      (ap (λ (f : Nodes). f d) (sym (at_same r.told j (λ c. r.told j c || r.told m c)))
      ∙ ap (λ (x : ℕ). at r.told j (λ c. r.told j c || r.told m c) x d) (sym here) ∙ t)) [
        | inl old ↦ inl (ap (λ (x : ℕ). r.told x d) here ∙ old)
        | inr new ↦ inr (subst (λ (x : ℕ). Tells r n d (Join x k m Joined)) here (ByIts k m new))
      ]
  | inr ne ↦ inl (ap (λ (f : Nodes). f d) (sym (at_other r.told j (λ c. r.told j c || r.told m c) n ne)) ∙ t)
]
told-effect r (Join j k m _) n d t = inl t
told-effect r (Done a) n d t = inl t
told-effect r (Exit p) n d t = inl t
told-effect r (Left c) n d t = inl t
told-effect r (Read a look reply) n d t = inl t

told_by : (r : Registry) (e : Entry) (n d : ℕ) → Tells r n d e → (effect e r).told n d ≡ true
told_by r _ n d OfIt = ap (λ (f : Nodes). f d) (at_same r.told n (with_node d (r.told n))) ∙ at_same (r.told n) d true
told_by r _ n d (ByIts k m q) = ap (λ (f : Nodes). f d) (at_same r.told n (λ c. r.told n c || r.told m c))
    ∙ or_right (r.told n d) (r.told m d) q

told_stays : (r : Registry) (e : Entry) (n d : ℕ) → r.told n d ≡ true → (effect e r).told n d ≡ true
told_stays r (Name a k call reply) n d t = go (is_grant reply)
  where
    go : (b : Bool) → (if b then with_table a (changed (change_of call)) r else r).told n d ≡ true
    go true = ap (λ (f : ℕ → Nodes). f n d) (told-with_table a (changed (change_of call)) r) ∙ t
    go false = t
told_stays r (Strike p) n d t = ap (λ (f : ℕ → Nodes). f n d) (told-with_table p.node (changed (StrikeOwner p)) r) ∙ t
told_stays r (Told a c) n d t = elim (cases_eq n a) [
  | inl here ↦ ap (λ (x : ℕ). at r.told a (with_node c (r.told a)) x d) here
      ∙ ap (λ (f : Nodes). f d) (at_same r.told a (with_node c (r.told a)))
      ∙ elim (cases_eq d c) as (λ _. with_node c (r.told a) d ≡ true) [
        | inl same ↦ ap (with_node c (r.told a)) same ∙ at_same (r.told a) c true
        | inr ne ↦ at_other (r.told a) c true d ne ∙ ap (λ (x : ℕ). r.told x d) (sym here) ∙ t
      ]
  | inr ne ↦ ap (λ (f : Nodes). f d) (at_other r.told a (with_node c (r.told a)) n ne) ∙ t
]
told_stays r (Join j k m Joined) n d t = elim (cases_eq n j) [
  | inl here ↦ ap (λ (x : ℕ). at r.told j (λ c. r.told j c || r.told m c) x d) here
      ∙ ap (λ (f : Nodes). f d) (at_same r.told j (λ c. r.told j c || r.told m c))
      ∙ or_left (r.told j d) (r.told m d) (ap (λ (x : ℕ). r.told x d) (sym here) ∙ t)
  | inr ne ↦ ap (λ (f : Nodes). f d) (at_other r.told j (λ c. r.told j c || r.told m c) n ne) ∙ t
]
told_stays r (Join j k m _) n d t = t
told_stays r (Done a) n d t = t
told_stays r (Exit p) n d t = t
told_stays r (Left c) n d t = t
told_stays r (Read a look reply) n d t = t

told_stays_after : (r : Registry) (h : List Entry) (n d : ℕ) → r.told n d ≡ true → (fold (λ r e. effect e r) r h).told n d ≡ true
told_stays_after r [] n d t = t
told_stays_after r (e ∷ h) n d t = told_stays_after (effect e r) h n d (told_stays r e n d t)

-- who was told stays told
WasTold-push : (h : List Entry) (e : Entry) (n d : ℕ) → WasTold h n d → WasTold (h ++ e ∷ []) n d
WasTold-push _ e _ _ (ByNotice h n d c) = ByNotice (h ++ e ∷ []) n d (Contains-append_left h (e ∷ []) (Told n d) c)
WasTold-push _ e _ _ (ByContact h before later n k m d s w) = ByContact (h ++ e ∷ []) before (later ++ e ∷ []) n k m d
    (ap (λ (xs : List Entry). xs ++ e ∷ []) s ∙ append_assoc before (Join n k m Joined ∷ later) (e ∷ [])) w

module _ (cluster : Nodes) where
  abbrev after : List Entry → Registry
  after h = registry_of cluster h

  pub left_entered : (d : ℕ) (h : List Entry) → (after h).left d ≡ true → Contains h (Left d)
  left_entered d h = by_push (λ h. (after h).left d ≡ true → Contains h (Left d)) (λ q. absurd (cc q)) more h
    where
      more : (h : List Entry) (e : Entry) → ((after h).left d ≡ true → Contains h (Left d))
          → (after (h ++ e ∷ [])).left d ≡ true → Contains (h ++ e ∷ []) (Left d)
      more h e old q = elim (left-effect (after h) e d) [
        | inl same ↦ subst (λ (f : Entry). Contains (h ++ f ∷ []) (Left d)) (sym same) (Contains-push h (Left d))
        | inr keeps ↦ Contains-append_left h (e ∷ []) (Left d)
            (old (sym keeps ∙ ap (λ (r : Registry). r.left d) (sym (registry_of-push cluster h e)) ∙ q))
      ]

  pub entered_left : (d : ℕ) (h : List Entry) → Contains h (Left d) → (after h).left d ≡ true
  entered_left d h = by_push (λ h. Contains h (Left d) → (after h).left d ≡ true) (λ c. absurd (Contains-nil (Left d) c)) more h
    where
      more : (h : List Entry) (e : Entry) → (Contains h (Left d) → (after h).left d ≡ true)
          → Contains (h ++ e ∷ []) (Left d) → (after (h ++ e ∷ [])).left d ≡ true
      more h e old c = ap (λ (r : Registry). r.left d) (registry_of-push cluster h e) ∙ elim (Contains-push_cases h e (Left d) c) [
        | inl before ↦ left_stays (after h) e d (old before)
        | inr same ↦ ap (λ (f : Entry). (effect f (after h)).left d) same ∙ at_same (after h).left d true
      ]

  pub told_entered : (h : List Entry) (n d : ℕ) → (after h).told n d ≡ true → WasTold h n d
  told_entered h = by_push (λ h. (n d : ℕ) → (after h).told n d ≡ true → WasTold h n d) (λ n d q. absurd (cc q)) more h
    where
      more : (h : List Entry) (e : Entry) → ((n d : ℕ) → (after h).told n d ≡ true → WasTold h n d)
          → (n d : ℕ) → (after (h ++ e ∷ [])).told n d ≡ true → WasTold (h ++ e ∷ []) n d
      more h e old n d q =
          elim (told-effect (after h) e n d (ap (λ (r : Registry). r.told n d) (sym (registry_of-push cluster h e)) ∙ q)) [
            | inl before ↦ WasTold-push h e n d (old n d before)
            | inr tells ↦ by e tells
          ]
        where
          by : (e : Entry) → Tells (after h) n d e → WasTold (h ++ e ∷ []) n d
          by _ OfIt = ByNotice (h ++ Told n d ∷ []) n d (Contains-push h (Told n d))
          by _ (ByIts k m t) = ByContact (h ++ Join n k m Joined ∷ []) h [] n k m d refl (old m d t)

  -- what an entry tells is told behind all later ones
  tells_later : (before later : List Entry) (e : Entry) (n d : ℕ) → Tells (after before) n d e
      → (after (before ++ e ∷ later)).told n d ≡ true
  tells_later before later e n d tells = ap (λ (r : Registry). r.told n d) (registry_of-append cluster before (e ∷ later))
      ∙ told_stays_after (effect e (after before)) later n d (told_by (after before) e n d tells)

  pub entered_told : (h : List Entry) (n d : ℕ) → WasTold h n d → (after h).told n d ≡ true
  entered_told _ _ _ (ByNotice h n d c) =
      let split : (before : List Entry) × (later : List Entry) × (h ≡ before ++ Told n d ∷ later) = Contains-split h (Told n d) c in
      ap (λ (g : List Entry). (after g).told n d) split.2 ∙ tells_later split.0 split.1 (Told n d) n d OfIt
  entered_told _ _ _ (ByContact h before later n k m d s w) =
      ap (λ (g : List Entry). (after g).told n d) s
      ∙ tells_later before later (Join n k m Joined) n d (ByIts k m (entered_told before m d w))

  pub joined_entered : (n : ℕ) (h : List Entry) → (after h).joined n ≡ true → HasJoined cluster h n
  joined_entered n h = by_push (λ h. (after h).joined n ≡ true → HasJoined cluster h n) HasJoined.AtFirst more h
    where
      longer : (h : List Entry) (e : Entry) → HasJoined cluster h n → HasJoined cluster (h ++ e ∷ []) n
      longer h e (HasJoined.AtFirst q) = HasJoined.AtFirst q
      longer h e (ByJoin k m c) = ByJoin k m (Contains-append_left h (e ∷ []) (Join n k m Joined) c)

      more : (h : List Entry) (e : Entry) → ((after h).joined n ≡ true → HasJoined cluster h n)
          → (after (h ++ e ∷ [])).joined n ≡ true → HasJoined cluster (h ++ e ∷ []) n
      more h e old q = go (joined-effect (after h) e n)
        where
          go : IsJoinOf n e ⊎ ((effect e (after h)).joined n ≡ (after h).joined n) → HasJoined cluster (h ++ e ∷ []) n
          go (inl (k, m, i)) = ByJoin k m
              (subst (λ (f : Entry). Contains (h ++ f ∷ []) (Join n k m Joined)) (sym i) (Contains-push h (Join n k m Joined)))
          go (inr keeps) = longer h e
              (old (sym keeps ∙ ap (λ (r : Registry). r.joined n) (sym (registry_of-push cluster h e)) ∙ q))

  pub entered_joined : (n : ℕ) (h : List Entry) → HasJoined cluster h n → (after h).joined n ≡ true
  entered_joined n h (HasJoined.AtFirst q) = joined_stays_after (opening cluster) h n q
  entered_joined n h (ByJoin k m c) =
      let split : (before : List Entry) × (later : List Entry) × (h ≡ before ++ Join n k m Joined ∷ later) =
      Contains-split h (Join n k m Joined) c in
      ap (λ (g : List Entry). (after g).joined n) split.2 ∙ joined_after cluster split.0 split.1 n k m

pub tells_its_entries : (cluster : Nodes) (h : List Entry) → TellsItsEntries cluster h
tells_its_entries cluster h = record {
  left = λ d. (left_entered cluster d h, entered_left cluster d h);
  told = λ n d. (told_entered cluster h n d, entered_told cluster h n d);
  joined = λ n. (joined_entered cluster n h, entered_joined cluster n h);
}
