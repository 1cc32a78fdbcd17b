-- The table that a node has with its welcome.
use Rattle.std.proofs.Common.{ℕ, zero, suc, Bool, true, false, ◌≡◌, ◌<◌, ◌+◌, [], ◌∷◌, ◌++◌, length, get_or, take, arith, refl, sym, ap, ◌∙◌, subst}
use Rattle.std.specs.Prelude.{not, if◌then◌else◌, filter}
use Rattle.std.proofs.lemmas.Bool.{and_from, ne_eqb, le-ltb, ltb-true}
use Rattle.std.proofs.lemmas.Grind.{take_at_read}
use Rattle.std.proofs.lemmas.List.{append-nil}
use Rattle.std.proofs.lemmas.List.Elements.{filter-append}
use Rattle.registry_model.specs.Process.{Text, Nodes}
use Rattle.registry_model.specs.Table.{Pair, Table, put, without, is_below, is_rising}
use Rattle.registry_model.proofs.Tables.{is_rising-parts}
use Rattle.exit_watch.specs.WatchState.{WatchState, AreSuspected, KeepsSuspects}

-- the first i of these pairs have been gone through: the table has those whose owners' nodes haven't gone, and the
-- watch, which was w at first, was told of each owner
pub record HasFirst (w v : WatchState) (pairs : Table) (gone : Nodes) (i : ℕ) (t : Table) : Type 0 where
  pub node : v.node ≡ w.node
  pub watch : v.watch ≡ w.watch
  pub suspected : AreSuspected v t
  pub kept : KeepsSuspects w v
  pub table : is_rising pairs ≡ true → t ≡ without gone (take i pairs)

-- who stands below all names stands below the first i of them
is_below-take : (x : Text) (i : ℕ) (t : Table) → is_below x t ≡ true → is_below x (take i t) ≡ true
is_below-take x zero t b = refl
is_below-take x (suc i) [] b = refl
is_below-take x (suc i) (e ∷ t) b = b

-- the first i of rising names rise
is_rising-take : (i : ℕ) (t : Table) → is_rising t ≡ true → is_rising (take i t) ≡ true
is_rising-take zero t r = refl
is_rising-take (suc i) [] r = refl
is_rising-take (suc i) (e ∷ t) r =
    let parts : (is_below e.name t ≡ true) × (is_rising t ≡ true) = is_rising-parts e t r in
    and_from _ _ (is_below-take e.name i t parts.0) (is_rising-take i t parts.1)

-- who stands below all names is less than the last of them
below_last : (x : Text) (t : Table) (e : Pair) → is_below x (t ++ e ∷ []) ≡ true → is_rising (t ++ e ∷ []) ≡ true
    → x < e.name
below_last x [] e b r = ltb-true x e.name b
below_last x (d ∷ t) e b r =
    let parts : (is_below d.name (t ++ e ∷ []) ≡ true) × (is_rising (t ++ e ∷ []) ≡ true) =
    is_rising-parts d (t ++ e ∷ []) r in
    omega (arith, ltb-true x d.name b, below_last d.name t e parts.0 parts.1)

-- the last of rising names comes last where it is put to those before it that pass
put_last : (ok : Pair → Bool) (t : Table) (e : Pair) → is_rising (t ++ e ∷ []) ≡ true
    → put e (filter ok t) ≡ filter ok t ++ e ∷ []
put_last ok [] e r = refl
put_last ok (d ∷ t) e r =
    let parts : (is_below d.name (t ++ e ∷ []) ≡ true) × (is_rising (t ++ e ∷ []) ≡ true) =
    is_rising-parts d (t ++ e ∷ []) r in
    go (ok d) (below_last d.name t e parts.0 parts.1) (put_last ok t e parts.1)
  where
    go : (b : Bool) → d.name < e.name → put e (filter ok t) ≡ filter ok t ++ e ∷ []
        → put e (if b then d ∷ filter ok t else filter ok t)
        ≡ (if b then d ∷ filter ok t else filter ok t) ++ e ∷ []
    go true l h = rw (ne_eqb d.name e.name (λ i. absurd (omega arith)), le-ltb e.name d.name (omega arith))
        (ap (λ (u : Table). d ∷ u) h)
    go false l h = h

-- of the first i + 1 pairs and of the first i, the same have owners whose nodes haven't gone, but for the last
module _ (gone : Nodes) (pairs : Table) (i : ℕ) (e : Pair) (l : i < length pairs) (is : e ≡ get_or pairs i e) where
  -- the first i + 1 are the first i and e
  first_are : take (i + 1) pairs ≡ take i pairs ++ e ∷ []
  first_are = (take_at_read pairs i e l).1 ∙ ap (λ (d : Pair). take i pairs ++ d ∷ []) (sym is)

  parted : without gone (take (i + 1) pairs) ≡ without gone (take i pairs) ++ without gone (e ∷ [])
  parted = ap (without gone) first_are ∙ filter-append (λ d. not (gone d.owner.node)) (take i pairs) (e ∷ [])

  -- e's owner's node has gone
  left_out : gone e.owner.node ≡ true → without gone (take i pairs) ≡ without gone (take (i + 1) pairs)
  left_out left = sym (parted ∙ ap (λ (b : Bool). without gone (take i pairs) ++ (if not b then e ∷ [] else [])) left
      ∙ append-nil (without gone (take i pairs)))

  -- it hasn't
  put_in : gone e.owner.node ≡ false → is_rising pairs ≡ true
      → put e (without gone (take i pairs)) ≡ without gone (take (i + 1) pairs)
  put_in here r =
      put_last (λ d. not (gone d.owner.node)) (take i pairs) e
      (ap is_rising (sym first_are) ∙ is_rising-take (i + 1) pairs r)
      ∙ sym (parted ∙ ap (λ (b : Bool). without gone (take i pairs) ++ (if not b then e ∷ [] else [])) here)

-- the next pair is gone through, where its owner's node has gone
pub passes_over : (w v v2 : WatchState) (pairs : Table) (gone : Nodes) (i : ℕ) (t t2 : Table) (e d : Pair)
    → HasFirst w v pairs gone i t → i < length pairs → e ≡ get_or pairs i e → d ≡ e → v2 ≡ v → t2 ≡ t
    → gone d.owner.node ≡ true → HasFirst w v2 pairs gone (i + 1) t2
passes_over w v v2 pairs gone i t t2 e d has l is same same_watch same_table left =
    subst (λ (x : WatchState). HasFirst w x pairs gone (i + 1) t2) (sym same_watch)
    (subst (λ (x : Table). HasFirst w v pairs gone (i + 1) x) (sym same_table) (record {
      node = has.node;
      watch = has.watch;
      suspected = has.suspected;
      kept = has.kept;
      table = λ r. has.table r
          ∙ left_out gone pairs i e l is (ap (λ (f : Pair). gone f.owner.node) (sym same) ∙ left);
    }))

-- and where it hasn't: the watch is told of the owner, and the pair is put
pub takes_pair : (w v v1 v2 : WatchState) (pairs : Table) (gone : Nodes) (i : ℕ) (t t1 t2 : Table) (e d f : Pair)
    → HasFirst w v pairs gone i t → i < length pairs → e ≡ get_or pairs i e → d ≡ e → v2 ≡ v1 → t2 ≡ t1
    → gone d.owner.node ≡ false → v1.node ≡ v.node → v1.watch ≡ v.watch
    → ((y : Pair) (u : Table) → y.owner ≡ d.owner → AreSuspected v u → AreSuspected v1 (put y u)) → KeepsSuspects v v1
    → f ≡ d → t1 ≡ put f t → HasFirst w v2 pairs gone (i + 1) t2
takes_pair w v v1 v2 pairs gone i t t1 t2 e d f has l is same same_watch same_table here node watch told kept copied
    written =
    subst (λ (y : WatchState). HasFirst w y pairs gone (i + 1) t2) (sym same_watch)
    (subst (λ (y : Table). HasFirst w v1 pairs gone (i + 1) y) (sym (same_table ∙ put_is)) (record {
      node = node ∙ has.node;
      watch = watch ∙ has.watch;
      suspected = told d t refl has.suspected;
      kept = λ u sus. kept u (has.kept u sus);
      table = λ r. ap (put d) (has.table r)
          ∙ ap (λ (f : Pair). put f (without gone (take i pairs))) same
          ∙ put_in gone pairs i e l is (ap (λ (f : Pair). gone f.owner.node) (sym same) ∙ here) r;
    }))
  where
    put_is : t1 ≡ put d t
    put_is = written ∙ ap (λ (y : Pair). put y t) copied
