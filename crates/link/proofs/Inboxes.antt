-- Each move keeps the rule of the inbox.
use Rattle.std.proofs.Common.{◌≡◌, ◌≢◌, ◌<◌, ◌+◌, ◌==◌, ℕ, zero, suc, true, false, true≢false, if◌then◌else◌, List, [], ◌∷◌, ◌++◌, length, set, sym, refl, ap, ◌∙◌, subst, ◌⊎◌, inl, inr, ⊎_elim, append_assoc, append-nil, arith}
use Rattle.std.proofs.lemmas.List.Elements.{filter-append}
use mathlib.Core.Option.{some, some-ne-none, some-injective}
use lib.ListN.{get_elem?}
use Rattle.crossbeam_channel.specs.Fifo.{Pushes, Pops, Forks, Merges, Learns}
use Rattle.atomic_table.proofs.Lists.{at_set}
use Rattle.link.specs.declared.mailbox.rule.Hand.{Hand}
use Rattle.link.specs.Rule.{opening, newcomer, receiver, idle, of, Fits, Kept, Hears}

module _ {X : Type 0} where
  -- what stands in a longer list
  at_longer : (xs : List X) (a b : X) (j : ℕ) → get_elem? (xs ++ a ∷ []) j ≡ some b
      → (get_elem? xs j ≡ some b) ⊎ ((j ≡ length xs) × (a ≡ b))
  at_longer [] a b zero e = inr (refl, some-injective a b e)
  at_longer [] a b (suc j) e = absurd (some-ne-none b (sym e))
  at_longer (x ∷ xs) a b zero e = inl e
  at_longer (x ∷ xs) a b (suc j) e = ⊎_elim (λ h. inl h) (λ t. inr (ap suc t.0, t.1)) (at_longer xs a b j e)

  -- a fact of each view and its place
  abbrev Each : (ℕ → X → Type 0) → List X → Type 0
  Each F views = (pass : ℕ) (v : X) → get_elem? views pass ≡ some v → F pass v

  -- a fact of what stands here is one of what is the same
  moved : (F : ℕ → X → Type 0) (i j : ℕ) (v w : X) → j ≡ i → v ≡ w → F i v → F j w
  moved F i j v w place same = subst (λ (y : ℕ × X). F y.0 y.1) (λ k. (sym place k, same k))

  -- it holds where one view was changed
  each_set : (F : ℕ → X → Type 0) (views : List X) (pass : ℕ) (w : X) → F pass w
      → ((j : ℕ) (u : X) → j ≢ pass → get_elem? views j ≡ some u → F j u) → Each F (set views pass w)
  each_set F views pass w mine others j u e =
      ⊎_elim (λ (here : (j ≡ pass) × (w ≡ u)). moved F pass j w u here.0 here.1 mine)
      (λ (there : (j ≢ pass) × (get_elem? views j ≡ some u)). others j u there.0 there.1) (at_set views pass j w u e)

  -- it holds where one view was added
  each_longer : (F : ℕ → X → Type 0) (views : List X) (b : X) → Each F views → F (length views) b
      → Each F (views ++ b ∷ [])
  each_longer F views b old new j u e =
      ⊎_elim (old j u) (λ (last : (j ≡ length views) × (b ≡ u)). moved F (length views) j b u last.0 last.1 new)
      (at_longer views b u j e)

-- one more seat leaves the others
seat_of_another : (seat : ℕ → ℕ) (p n q : ℕ) → q ≢ p → (if q == p then n else seat q) ≡ seat q
seat_of_another seat p n q other = grind arith

seat_of_this : (seat : ℕ → ℕ) (p n : ℕ) → (if p == p then n else seat p) ≡ n
seat_of_this seat p n = grind arith

module _ {T : Type 0} (source : T → ℕ) where
  of_append : (p : ℕ) (xs ys : List T) → of source p (xs ++ ys) ≡ of source p xs ++ of source p ys
  of_append p = filter-append (λ (x : T). source x == p)

  of_its_sender : (p : ℕ) (x : T) → source x ≡ p → of source p (x ∷ []) ≡ x ∷ []
  of_its_sender p x e = grind arith

  of_another : (p : ℕ) (x : T) → source x ≢ p → of source p (x ∷ []) ≡ []
  of_another p x ne = grind arith

  -- a pass with no role knows nothing
  no_role : (maker reader made : ℕ) (seat : ℕ → ℕ) (got all : List T) (pass : ℕ)
      → Fits source maker reader made seat got all pass idle
  no_role maker reader made seat got all pass = record {
    sends = λ role. absurd (true≢false (sym role));
    gets = λ role. absurd (true≢false (sym role));
    makes = λ role. absurd (true≢false (sym role));
  }

  pub opens : Kept source [] (opening ∷ [])
  opens = record {
    maker = 0;
    reader = 0;
    made = 0;
    seat = λ _. 0;
    got = [];
    strangers = λ _ _. refl;
    fits = λ pass v at. ⊎_elim (λ (past : get_elem? [] pass ≡ some v). absurd (some-ne-none v (sym past)))
        (λ (here : (pass ≡ 0) × (opening ≡ v)). moved (Fits source 0 0 0 (λ _. 0) [] []) 0 pass opening v here.0 here.1
        first) (at_longer [] opening v pass at);
  }
    where
      first : Fits source 0 0 0 (λ _. 0) [] [] 0 opening
      first = record {
        sends = λ role. absurd (true≢false (sym role));
        gets = λ _. (refl, refl);
        makes = λ _. (refl, refl);
      }

  pub puts : (n pass : ℕ) (v : Hand T) (x : T) → v.sends ≡ true → source x ≡ v.from
      → Pushes (Kept source) n pass v x (λ w. w ≡ record v { put = v.put ++ x ∷ [] })
  puts n pass v x may is items views _ kept at = (
    w,
    record {
      maker = kept.maker;
      reader = kept.reader;
      made = kept.made;
      seat = kept.seat;
      got = kept.got;
      strangers = λ p past. others p (λ e. omega (arith, e, is, mine.1, past)) ∙ kept.strangers p past;
      fits = each_set (Fits source kept.maker kept.reader kept.made kept.seat kept.got after) views pass w own
          (λ j u apart e. let f = kept.fits j u e in record {
            sends = λ role. let s = f.sends role in (
              s.0,
              s.1,
              s.2 ∙ sym (others u.from
                  (λ same. apart (sym s.0 ∙ ap kept.seat (sym same ∙ is) ∙ mine.0))),
            );
            gets = f.gets;
            makes = f.makes;
          });
    },
    refl,
  )
    where
      w : Hand T
      w = record v { put = v.put ++ x ∷ [] }

      before : List T
      before = kept.got ++ items

      after : List T
      after = kept.got ++ (items ++ x ∷ [])

      longer : (p : ℕ) → of source p after ≡ of source p before ++ of source p (x ∷ [])
      longer p = ap (of source p) (sym (append_assoc kept.got items (x ∷ []))) ∙ of_append p before (x ∷ [])

      others : (p : ℕ) → source x ≢ p → of source p after ≡ of source p before
      others p ne = longer p ∙ ap (λ (l : List T). of source p before ++ l) (of_another p x ne)
          ∙ append-nil (of source p before)

      mine : (kept.seat v.from ≡ pass) × (v.from < kept.made) × (v.put ≡ of source v.from before)
      mine = (kept.fits pass v at).sends may

      own : Fits source kept.maker kept.reader kept.made kept.seat kept.got after pass w
      own = record {
        sends = λ _. (
          mine.0,
          mine.1,
          ap (λ (l : List T). l ++ x ∷ []) mine.2
              ∙ sym (longer v.from ∙ ap (λ (l : List T). of source v.from before ++ l) (of_its_sender v.from x is)),
        );
        gets = (kept.fits pass v at).gets;
        makes = (kept.fits pass v at).makes;
      }

  pub gets : (pass : ℕ) (v : Hand T) → v.gets ≡ true
      → Pops (Kept source) pass v (λ x w. w ≡ record v { taken = v.taken ++ x ∷ [] })
  gets pass v may x items views kept at = (
    w,
    record {
      maker = kept.maker;
      reader = kept.reader;
      made = kept.made;
      seat = kept.seat;
      got = got;
      strangers = λ p past. ap (of source p) same ∙ kept.strangers p past;
      fits = each_set (Fits source kept.maker kept.reader kept.made kept.seat got (got ++ items)) views pass w
          (record {
            sends = still v (kept.fits pass v at);
            gets = λ _. (mine.0, ap (λ (l : List T). l ++ x ∷ []) mine.1);
            makes = (kept.fits pass v at).makes;
          })
          (λ j u apart e. let f = kept.fits j u e in record {
            sends = still u f;
            gets = λ role. absurd (apart ((f.gets role).0 ∙ sym mine.0));
            makes = f.makes;
          });
    },
    refl,
  )
    where
      w : Hand T
      w = record v { taken = v.taken ++ x ∷ [] }

      got : List T
      got = kept.got ++ x ∷ []

      same : got ++ items ≡ kept.got ++ (x ∷ items)
      same = append_assoc kept.got (x ∷ []) items

      mine : (pass ≡ kept.reader) × (v.taken ≡ kept.got)
      mine = (kept.fits pass v at).gets may

      still : {j : ℕ} (u : Hand T)
          → Fits source kept.maker kept.reader kept.made kept.seat kept.got (kept.got ++ (x ∷ items)) j u
          → u.sends ≡ true → (kept.seat u.from ≡ j) × (u.from < kept.made) × (u.put ≡ of source u.from (got ++ items))
      still u f role = let s = f.sends role in (s.0, s.1, s.2 ∙ sym (ap (of source u.from) same))

  pub makes : (pass : ℕ) (v : Hand T) → v.makes ≡ true
      → Forks (Kept source) pass v (record v { made = v.made + 1 }) (newcomer v.made)
  makes pass v may items views kept at = record {
    maker = kept.maker;
    reader = kept.reader;
    made = kept.made + 1;
    seat = seat;
    got = kept.got;
    strangers = λ p past. kept.strangers p (omega (arith, past));
    fits = each_longer Now changed (newcomer v.made) (each_set Now views pass maker
        (record {
          sends = λ role. keep pass v ((kept.fits pass v at).sends role);
          gets = (kept.fits pass v at).gets;
          makes = λ _. (mine.0, ap (λ (k : ℕ). k + 1) mine.1);
        })
        (λ j u apart e. let f = kept.fits j u e in record {
          sends = λ role. keep j u (f.sends role);
          gets = f.gets;
          makes = λ role. absurd (apart ((f.makes role).0 ∙ sym mine.0));
        })) new;
  }
    where
      maker : Hand T
      maker = record v { made = v.made + 1 }

      changed : List (Hand T)
      changed = set views pass maker

      all : List T
      all = kept.got ++ items

      seat : ℕ → ℕ
      seat = λ p. if p == kept.made then length changed else kept.seat p

      Now : ℕ → Hand T → Type 0
      Now = Fits source kept.maker kept.reader (kept.made + 1) seat kept.got all

      mine : (pass ≡ kept.maker) × (v.made ≡ kept.made)
      mine = (kept.fits pass v at).makes may

      keep : (j : ℕ) (u : Hand T) → (kept.seat u.from ≡ j) × (u.from < kept.made) × (u.put ≡ of source u.from all)
          → (seat u.from ≡ j) × (u.from < kept.made + 1) × (u.put ≡ of source u.from all)
      keep j u s = (
        seat_of_another kept.seat kept.made (length changed) u.from (λ e. omega (arith, e, s.1)) ∙ s.0,
        omega (arith, s.1),
        s.2,
      )

      new : Now (length changed) (newcomer v.made)
      new = record {
        sends = λ _. (
          ap seat mine.1 ∙ seat_of_this kept.seat kept.made (length changed),
          omega (arith, mine.1),
          sym (ap (λ (k : ℕ). of source k all) mine.1 ∙ kept.strangers kept.made (omega arith)),
        );
        gets = λ role. absurd (true≢false (sym role));
        makes = λ role. absurd (true≢false (sym role));
      }

  pub parts : (pass : ℕ) (v : Hand T) → v.gets ≡ true
      → Forks (Kept source) pass v (record v { gets = false; taken = [] }) (receiver v.taken)
  parts pass v may items views kept at = record {
    maker = kept.maker;
    reader = length changed;
    made = kept.made;
    seat = kept.seat;
    got = kept.got;
    strangers = kept.strangers;
    fits = each_longer Now changed (receiver v.taken) (each_set Now views pass other
        (record {
          sends = (kept.fits pass v at).sends;
          gets = λ role. absurd (true≢false (sym role));
          makes = (kept.fits pass v at).makes;
        })
        (λ j u apart e. let f = kept.fits j u e in record {
          sends = f.sends;
          gets = λ role. absurd (apart ((f.gets role).0 ∙ sym mine.0));
          makes = f.makes;
        })) new;
  }
    where
      other : Hand T
      other = record v { gets = false; taken = [] }

      changed : List (Hand T)
      changed = set views pass other

      Now : ℕ → Hand T → Type 0
      Now = Fits source kept.maker (length changed) kept.made kept.seat kept.got (kept.got ++ items)

      mine : (pass ≡ kept.reader) × (v.taken ≡ kept.got)
      mine = (kept.fits pass v at).gets may

      new : Now (length changed) (receiver v.taken)
      new = record {
        sends = λ role. absurd (true≢false (sym role));
        gets = λ _. (refl, mine.1);
        makes = λ role. absurd (true≢false (sym role));
      }

  pub beside : (pass : ℕ) (v : Hand T) (other : ℕ) (u : Hand T) → u.sends ≡ true
      → Merges (Kept source) pass v other u (record v { sends = u.sends; from = u.from; put = u.put }) idle
  beside pass v other u may items views kept at two at' = record {
    maker = kept.maker;
    reader = kept.reader;
    made = kept.made;
    seat = seat;
    got = kept.got;
    strangers = kept.strangers;
    fits = each_set Now changed other idle
        (no_role kept.maker kept.reader kept.made seat kept.got all other)
        (λ j y apart e. each_set Others views pass both (λ _. own)
        (λ i z _ here different. let f = kept.fits i z here in record {
          sends = λ role. let s = f.sends role in (keep i z different s.0, s.1, s.2);
          gets = f.gets;
          makes = f.makes;
        }) j y e apart);
  }
    where
      both : Hand T
      both = record v { sends = u.sends; from = u.from; put = u.put }

      changed : List (Hand T)
      changed = set views pass both

      all : List T
      all = kept.got ++ items

      theirs : (kept.seat u.from ≡ other) × (u.from < kept.made) × (u.put ≡ of source u.from all)
      theirs = (kept.fits other u (⊎_elim (λ same. absurd (two same.0)) (λ past. past.1)
          (at_set views pass other both u at'))).sends may

      seat : ℕ → ℕ
      seat = λ p. if p == u.from then pass else kept.seat p

      Now : ℕ → Hand T → Type 0
      Now = Fits source kept.maker kept.reader kept.made seat kept.got all

      Others : ℕ → Hand T → Type 0
      Others = λ j y. j ≢ other → Now j y

      keep : (j : ℕ) (y : Hand T) → j ≢ other → kept.seat y.from ≡ j → seat y.from ≡ j
      keep j y apart e = seat_of_another kept.seat u.from pass y.from
          (λ same. apart (sym e ∙ ap kept.seat same ∙ theirs.0)) ∙ e

      own : Now pass both
      own = record {
        sends = λ _. (seat_of_this kept.seat u.from pass, theirs.1, theirs.2);
        gets = (kept.fits pass v at).gets;
        makes = (kept.fits pass v at).makes;
      }

  pub compares : (pass : ℕ) (v : Hand T) → v.sends ≡ true → v.gets ≡ true
      → Learns (Kept source) pass v (Hears source v)
  compares pass v sends gets items views kept at = (
    of source v.from items,
    ((kept.fits pass v at).sends sends).2 ∙ of_append v.from kept.got items
        ∙ ap (λ (l : List T). of source v.from l ++ of source v.from items) (sym ((kept.fits pass v at).gets gets).1),
  )
