-- What the changes of a table do, each in words.
use Rattle.std.proofs.Common.{Bool, true, false, ◌≡◌, Option, Some, None, refl, sym, subst, ap, ◌∙◌, inl, inr}
use Rattle.std.specs.Prelude.{◌⊎◌, not}
use Rattle.std.proofs.lemmas.Bool.{cases_eq, eq-eqb, ne_eqb}
use Rattle.registry_model.specs.Process.{Text, Process, is_process, Nodes}
use Rattle.registry_model.specs.Table.{Pair, Table, is_rising, get, entry, put, put_all, remove, strike, without, Change, Put, Remove, StrikeOwner, changed}
use Rattle.registry_model.specs.SharedLaws.{IsGiven, IsStruck, IsChanged, IsWithout, IsWrittenOver, IsTheTable}
use Rattle.registry_model.proofs.Lists.{is_process-same, is_process-other, cases_process}
use Rattle.registry_model.proofs.Tables.{if_passes, or_else, same_table, get-entry, owner_in, entry-put, entry-remove, entry-strike, entry-without, entry-put_all, is_rising-changed, is_rising-without, is_rising-put_all}

-- two tables in which the same stands under x, and under each other name what stands there in a third, are alike
pub given_alike : (x : Text) (o : Option Pair) (t u v : Table) → IsGiven x o t u → IsGiven x o t v → (y : Text) →
    entry y u ≡ entry y v
given_alike x o t u v g h y = elim (cases_eq y x) [
  | inl i ↦ subst (λ (z : Text). entry z u ≡ entry z v) (sym i) (g.here ∙ sym h.here)
  | inr ne ↦ g.elsewhere y ne ∙ sym (h.elsewhere y ne)
]

-- what is there, if there is anything
pub cases_option : {A : Type 0} → (o : Option A) → ((p : A) × (o ≡ Some p)) ⊎ (o ≡ None)
cases_option None = inr refl
cases_option (Some p) = inl (p, refl)

-- two tables of which p was struck are alike
pub struck_alike : (p : Process) (t u v : Table) → IsStruck p t u → IsStruck p t v → (y : Text) → entry y u ≡ entry y v
struck_alike p t u v g h y = go (cases_option (get y t))
  where
    other : (get y t ≡ Some p → ⊥) → entry y u ≡ entry y v
    other ne = g.kept y ne ∙ sym (h.kept y ne)

    go : ((q : Process) × (get y t ≡ Some q)) ⊎ (get y t ≡ None) → entry y u ≡ entry y v
    go (inl (q, e)) = elim (cases_process q p) [
      | inl i ↦ let k : get y t ≡ Some p = e ∙ ap (λ (r : Process). let o : Option Process = Some r in o) i in
          g.lost y k ∙ sym (h.lost y k)
      | inr ne ↦ other (λ k. ne cc)
    ]
    go (inr e) = other (λ k. cc)

-- a put gives the name to its owner
pub is_given-put : (new : Pair) (t : Table) → IsGiven new.name (Some new) t (put new t)
is_given-put new t = record {
  here = entry-put new t new.name ∙ rw (eq-eqb new.name new.name refl);
  elsewhere = λ y ne. entry-put new t y ∙ rw (ne_eqb new.name y (λ e. ne (sym e)));
}

-- a removal gives it to nobody
pub is_given-remove : (x : Text) (t : Table) → IsGiven x None t (remove x t)
is_given-remove x t = record {
  here = entry-remove x t x ∙ rw (eq-eqb x x refl);
  elsewhere = λ y ne. entry-remove x t y ∙ rw (ne_eqb x y (λ e. ne (sym e)));
}

-- a strike strikes
pub is_struck-strike : (p : Process) (t : Table) → is_rising t ≡ true → IsStruck p t (strike p t)
is_struck-strike p t r = record {
  lost = λ y h. entry-strike p t r y ∙ gone (entry y t) (sym (get-entry y t) ∙ h);
  kept = λ y ne. entry-strike p t r y ∙ stays (entry y t) (λ h. ne (get-entry y t ∙ h));
}
  where
    is_other_owner : Pair → Bool
    is_other_owner e = not (is_process e.owner p)

    gone : (o : Option Pair) → owner_in o ≡ Some p → if_passes is_other_owner o ≡ None
    gone None h = absurd cc
    gone (Some e) h = let i : e.owner ≡ p = cc in rw (i, is_process-same p)

    stays : (o : Option Pair) → (owner_in o ≡ Some p → ⊥) → if_passes is_other_owner o ≡ o
    stays None ne = refl
    stays (Some e) ne =
        rw (is_process-other e.owner p (λ i. ne (ap (λ (r : Process). let o : Option Process = Some r in o) i)))

-- each change of a rising table
pub change_law : (c : Change) (t : Table) → is_rising t ≡ true → IsTheTable (IsChanged c t) (changed c t)
change_law (Put new) t r = record {
  rises = is_rising-changed (Put new) t r;
  so = is_given-put new t;
  alone = λ u s g. same_table u (put new t) s (is_rising-changed (Put new) t r)
      (given_alike new.name (Some new) t u (put new t) g (is_given-put new t));
}
change_law (Remove x) t r = record {
  rises = is_rising-changed (Remove x) t r;
  so = is_given-remove x t;
  alone = λ u s g. same_table u (remove x t) s (is_rising-changed (Remove x) t r)
      (given_alike x None t u (remove x t) g (is_given-remove x t));
}
change_law (StrikeOwner p) t r = record {
  rises = is_rising-changed (StrikeOwner p) t r;
  so = is_struck-strike p t r;
  alone = λ u s g. same_table u (strike p t) s (is_rising-changed (StrikeOwner p) t r)
      (struck_alike p t u (strike p t) g (is_struck-strike p t r));
}

-- a table without the names on some nodes is so
pub is_without-without : (gone : Nodes) (t : Table) → is_rising t ≡ true → IsWithout gone t (without gone t)
is_without-without gone t r = record {
  lost = λ y e h g. entry-without gone t r y ∙ ap (if_passes (λ e. not (gone e.owner.node))) h ∙ rw g;
  kept = λ y e h g. entry-without gone t r y ∙ ap (if_passes (λ e. not (gone e.owner.node))) h ∙ rw g;
  free = λ y h. entry-without gone t r y ∙ ap (if_passes (λ e. not (gone e.owner.node))) h;
}

-- two tables that are a third without the names on some nodes are alike
pub without_alike : (gone : Nodes) (t u v : Table) → IsWithout gone t u → IsWithout gone t v → (y : Text) →
    entry y u ≡ entry y v
without_alike gone t u v g h y = go (cases_option (entry y t))
  where
    go : ((e : Pair) × (entry y t ≡ Some e)) ⊎ (entry y t ≡ None) → entry y u ≡ entry y v
    go (inl (e, i)) = by (gone e.owner.node) refl
      where
        by : (b : Bool) → gone e.owner.node ≡ b → entry y u ≡ entry y v
        by true k = g.lost y e i k ∙ sym (h.lost y e i k)
        by false k = g.kept y e i k ∙ sym (h.kept y e i k)
    go (inr i) = g.free y i ∙ sym (h.free y i)

-- a rising table without the names on some nodes
pub without_law : (gone : Nodes) (t : Table) → is_rising t ≡ true → IsTheTable (IsWithout gone t) (without gone t)
without_law gone t r = record {
  rises = is_rising-without gone t r;
  so = is_without-without gone t r;
  alone = λ u s g. same_table u (without gone t) s (is_rising-without gone t r)
      (without_alike gone t u (without gone t) g (is_without-without gone t r));
}

-- pairs that are put are written over the table
pub is_written_over-put_all : (pairs t : Table) → is_rising pairs ≡ true → IsWrittenOver pairs t (put_all pairs t)
is_written_over-put_all pairs t r = record {
  written = λ y e h. entry-put_all pairs t r y ∙ ap (λ (o : Option Pair). or_else o (entry y t)) h;
  kept = λ y h. entry-put_all pairs t r y ∙ ap (λ (o : Option Pair). or_else o (entry y t)) h;
}

-- two tables that are a third with the same pairs written over it are alike
pub written_alike : (pairs t u v : Table) → IsWrittenOver pairs t u → IsWrittenOver pairs t v → (y : Text) →
    entry y u ≡ entry y v
written_alike pairs t u v g h y = go (cases_option (entry y pairs))
  where
    go : ((e : Pair) × (entry y pairs ≡ Some e)) ⊎ (entry y pairs ≡ None) → entry y u ≡ entry y v
    go (inl (e, i)) = g.written y e i ∙ sym (h.written y e i)
    go (inr i) = g.kept y i ∙ sym (h.kept y i)

-- rising pairs over a rising table
pub put_all_law : (pairs t : Table) → is_rising pairs ≡ true → is_rising t ≡ true →
    IsTheTable (IsWrittenOver pairs t) (put_all pairs t)
put_all_law pairs t rp rt = record {
  rises = is_rising-put_all pairs t rt;
  so = is_written_over-put_all pairs t rp;
  alone = λ u s g. same_table u (put_all pairs t) s (is_rising-put_all pairs t rt)
      (written_alike pairs t u (put_all pairs t) g (is_written_over-put_all pairs t rp));
}
