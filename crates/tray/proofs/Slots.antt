-- The slots of a tray are drained one after another.
use Rattle.std.proofs.Common.{◌≡◌, ◌+◌, ◌≤◌, ◌<◌, ℕ, List, [], ◌∷◌, ◌++◌, length, slice_set, slice_index_or, refl, sym, ap, subst, ◌∙◌, append_assoc, append-nil, length-append, arith}
use Rattle.link.specs.declared.faults.LinkFault.{LinkFault}
use Rattle.tray.specs.Held.{Waiting}
use Rattle.tray.specs.Draining.{Drained, DrainedAll}

module _ {X : Type 0} where
  here : (done : List X) (x d : X) (rest : List X) → slice_index_or (done ++ x ∷ rest) (length done) d ≡ x
  here [] x d rest = refl
  here (y ∷ done) x d rest = here done x d rest

  set_here : (done : List X) (x w : X) (rest : List X) → slice_set (done ++ x ∷ rest) (length done) w ≡ (done ++ w ∷ []) ++ rest
  set_here [] x w rest = refl
  set_here (y ∷ done) x w rest = ap (λ (l : List X). y ∷ l) (set_here done x w rest)

module _ {L S : Type 0} (posts : S → ℕ → L → S → Type 0) (refuses : S → ℕ → L → LinkFault → Type 0) where
  -- one slot more is drained
  drained_more : (vs ws : List (Waiting L)) (v w : Waiting L) (s t r : S) → DrainedAll posts refuses vs s ws t
      → w.receiver ≡ v.receiver → Drained posts refuses v.receiver v.letters t w.letters r
      → DrainedAll posts refuses (vs ++ v ∷ []) s (ws ++ w ∷ []) r
  drained_more [] [] v w s t r same is goes =
      (r, is, subst (λ (x : S). Drained posts refuses v.receiver v.letters x w.letters r) (sym same) goes, refl)
  drained_more (x ∷ vs) (y ∷ ws) v w s t r h is goes = (h.0, h.1, h.2, drained_more vs ws v w h.0 t r h.3 is goes)
  drained_more [] (y ∷ ws) v w s t r h is goes = absurd h
  drained_more (x ∷ vs) [] v w s t r h is goes = absurd h

  -- so many slots of these were drained, and the others are as they were
  pub record Going (old : List (Waiting L)) (s : S) (now : List (Waiting L)) (t : S) (i : ℕ) : Type 0 where
    pub before : List (Waiting L)
    pub after : List (Waiting L)
    pub rest : List (Waiting L)
    pub was : old ≡ before ++ rest
    pub is : now ≡ after ++ rest
    pub many : length before ≡ i
    pub as_many : length after ≡ i
    pub drained : DrainedAll posts refuses before s after t

  pub begins : (old : List (Waiting L)) (s : S) → Going old s old s 0
  begins old s = record { before = []; after = []; rest = old; was = refl; is = refl; many = refl; as_many = refl; drained = refl }

  pub goes_on : (old now : List (Waiting L)) (s t r : S) (i : ℕ) (d w : Waiting L) → Going old s now t i → i < length old
      → w.receiver ≡ (slice_index_or now i d).receiver
      → Drained posts refuses (slice_index_or now i d).receiver (slice_index_or now i d).letters t w.letters r
      → Going old s (slice_set now i w) r (i + 1)
  goes_on old now s t r i d w h less same goes = go h.rest h.was h.is
    where
      go : (rest : List (Waiting L)) → old ≡ h.before ++ rest → now ≡ h.after ++ rest → Going old s (slice_set now i w) r (i + 1)
      go [] was is = absurd (omega (arith, less, h.many, ap length was ∙ ap length (append-nil h.before)))
      go (x ∷ xs) was is =
          let at : slice_index_or now i d ≡ x =
          ap (λ (l : List (Waiting L)). slice_index_or l i d) is
          ∙ (ap (λ (k : ℕ). slice_index_or (h.after ++ x ∷ xs) k d) (sym h.as_many) ∙ here h.after x d xs) in
          record {
            before = h.before ++ x ∷ [];
            after = h.after ++ w ∷ [];
            rest = xs;
            was = was ∙ sym (append_assoc h.before (x ∷ []) xs);
            is = ap (λ (l : List (Waiting L)). slice_set l i w) is
                ∙ (ap (λ (k : ℕ). slice_set (h.after ++ x ∷ xs) k w) (sym h.as_many) ∙ set_here h.after x w xs);
            many = length-append h.before (x ∷ []) ∙ ap (λ (n : ℕ). n + 1) h.many;
            as_many = length-append h.after (w ∷ []) ∙ ap (λ (n : ℕ). n + 1) h.as_many;
            drained = drained_more h.before h.after x w s t r h.drained (same ∙ ap (λ (v : Waiting L). v.receiver) at)
                (subst (λ (v : Waiting L). Drained posts refuses v.receiver v.letters t w.letters r) at goes);
          }

  pub ends : (old now : List (Waiting L)) (s t : S) (i : ℕ) → Going old s now t i → length old ≤ i
      → DrainedAll posts refuses old s now t
  ends old now s t i h over = go h.rest h.was h.is
    where
      go : (rest : List (Waiting L)) → old ≡ h.before ++ rest → now ≡ h.after ++ rest → DrainedAll posts refuses old s now t
      go [] was is = subst (λ (x : List (Waiting L) × List (Waiting L)). DrainedAll posts refuses x.0 s x.1 t)
          (λ j. (sym (was ∙ append-nil h.before) j, sym (is ∙ append-nil h.after) j)) h.drained
      go (x ∷ xs) was is = absurd (omega (arith, over, h.many, ap length was ∙ length-append h.before (x ∷ xs)))
