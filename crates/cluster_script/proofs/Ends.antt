-- A script of known bytes isn't both played to its end and stopped for too many lines, unless memory was refused for a header.
use Rattle.std.proofs.Common.{ℕ, Bool, List, [], ◌∷◌, ◌++◌, ◌≡◌, ◌<◌, Option, Some, None, refl, sym, ap, subst, ◌∙◌, append-nil, append_assoc, Result, Ok, Err, inl, inr, arith}
use Rattle.term.specs.declared.faults.TextFault.{TextFault}
use Rattle.term.specs.Laws.{IsExact}
use Rattle.term.specs.Spelling.{SpellsNodeName, RefusesText}
use Rattle.command_lines.specs.declared.faults.LineFault.{LineFault}
use Rattle.text_lines.specs.declared.faults.StreamFault.TheVariants.{TooManyLines}
use Rattle.text_lines.specs.Lines.{count_of, count_of_all, spoken}
use Rattle.text_lines.specs.Words.{words}
use Rattle.command_lines.specs.Commands.{unread}
use Rattle.std.specs.Prelude.{codes}
use Rattle.command_lines.specs.Openings.{start_refused}
use Rattle.command_lines.specs.declared.StartFault.{StartFault}
use Rattle.command_lines.specs.declared.faults.LineFault.TheVariants.{BadLine, Text, Start, Memory}
use Rattle.command_lines.specs.Printing.{Shown}
use Rattle.cluster_script.specs.Script.{AllSpell, ReadsTexts, Names, judged, unless_refused, made_of, texts_behind, lone_texts, OpensIn, OpensUnless, LineOpens, LoneOpens, OpensBehind, EndsRefused, PrintsOn, Ran, Stopped, opening_for}
use Rattle.text_lines.proofs.Known.{spoken-append, count_of_all-append}

-- lines that count for less than the first ones and the next are some of the first ones
some_first : (xs ys zs ws : List (List ℕ)) (line : List ℕ) → xs ++ ys ≡ zs ++ line ∷ ws
    → count_of_all xs < count_of_all (zs ++ line ∷ [])
    → (us : List (List ℕ)) × (zs ≡ xs ++ us)
some_first [] ys zs ws line e l = (zs, refl)
some_first (x ∷ xs) ys [] ws line e l =
    let h : x ≡ line = cc in
    absurd (omega (arith, l, ap count_of h))
some_first (x ∷ xs) ys (z ∷ zs) ws line e l =
    let h : x ≡ z = cc in
    let t : xs ++ ys ≡ zs ++ line ∷ ws = cc in
    let r = some_first xs ys zs ws line t (omega (arith, l, ap count_of h)) in
    (r.0, ap (λ (y : List ℕ). y ∷ zs) (sym h) ∙ ap (λ (ls : List (List ℕ)). x ∷ ls) r.1)

module _ (exact : IsExact SpellsNodeName RefusesText) where
  -- texts spell one list of nodes
  AllSpell-one : (ts : List (List ℕ)) (ns ms : List ℕ) → AllSpell ts ns → AllSpell ts ms → ns ≡ ms
  AllSpell-one [] [] [] h k = refl
  AllSpell-one [] [] (m ∷ ms) h k = absurd k
  AllSpell-one [] (n ∷ ns) ms h k = absurd h
  AllSpell-one (t ∷ ts) [] ms h k = absurd h
  AllSpell-one (t ∷ ts) (n ∷ ns) [] h k = absurd k
  AllSpell-one (t ∷ ts) (n ∷ ns) (m ∷ ms) h k =
      ap (λ (x : ℕ). x ∷ ns) (exact.one_value t n m h.0 k.0)
      ∙ ap (λ (xs : List ℕ). m ∷ xs) (AllSpell-one ts ns ms h.1 k.1)

  -- where one spells nothing, they spell no nodes
  AllSpell-none : (before : List (List ℕ)) (bad : List ℕ) (behind : List (List ℕ)) (ns : List ℕ) (f : TextFault)
      → AllSpell (before ++ bad ∷ behind) ns → RefusesText bad f → ⊥
  AllSpell-none [] bad behind [] f h r = absurd h
  AllSpell-none [] bad behind (n ∷ ns) f h r = exact.never_both bad n f h.0 r
  AllSpell-none (b ∷ before) bad behind [] f h r = absurd h
  AllSpell-none (b ∷ before) bad behind (n ∷ ns) f h r = AllSpell-none before bad behind ns f h.1 r

  ok_err : {A : Type 0} (a : A) (f : LineFault) → Ok a ≡ Err f → ⊥
  ok_err a f h = cc

  -- nodes that aren't refused are those that were read
  judged_Ok : (refused : List ℕ → Option StartFault) (ns nodes : List ℕ) → Ok nodes ≡ judged refused (Ok ns)
      → nodes ≡ ns
  judged_Ok refused ns nodes h = go (refused ns) h
    where
      go : (o : Option StartFault) → Ok nodes ≡ unless_refused ns o → nodes ≡ ns
      go None h = cc
      go (Some g) h = absurd (ok_err nodes (Start g) h)

  module _ (refused : List ℕ → Option StartFault) (texts : List (List ℕ)) where
    -- texts name one list of nodes
    Names-one : (ns ms : List ℕ) → Names refused texts (Ok ns) → Names refused texts (Ok ms) → ns ≡ ms
    Names-one ns ms h k = go h.0 k.0 h.1 k.1 h.2 k.2
      where
        go : (a b : Result (List ℕ) TextFault) → ReadsTexts texts a → ReadsTexts texts b → Ok ns ≡ judged refused a
            → Ok ms ≡ judged refused b → ns ≡ ms
        go (Err f) b r s h k = absurd (ok_err ns (Text f) h)
        go (Ok xs) (Err f) r s h k = absurd (ok_err ms (Text f) k)
        go (Ok xs) (Ok ys) r s h k =
            judged_Ok refused xs ns h ∙ AllSpell-one texts xs ys r s ∙ sym (judged_Ok refused ys ms k)

    -- they don't both name nodes and name none
    Names-never : (nodes : List ℕ) (f : LineFault) → Names refused texts (Ok nodes) → Names refused texts (Err f) → ⊥
    Names-never nodes f h k = go h.0 k.0 h.1 k.1 h.2 k.2
      where
        go : (a b : Result (List ℕ) TextFault) → ReadsTexts texts a → ReadsTexts texts b → Ok nodes ≡ judged refused a
            → Err f ≡ judged refused b → ⊥
        go (Err g) b r s h k = ok_err nodes (Text g) h
        go (Ok ns) (Ok ms) r s h k = ok_err nodes f
            (h ∙ ap (λ (xs : List ℕ). judged refused (Ok xs)) (AllSpell-one texts ns ms r s) ∙ sym k)
        go (Ok ns) (Err g) r s h k =
            AllSpell-none s.0 s.2 s.3 ns g (subst (λ (ts : List (List ℕ)). AllSpell ts ns) s.4 r) s.6

  -- a line opens one cluster
  LineOpens-one : (line : List ℕ) (ns ms : List ℕ) → LineOpens line (Ok ns) → LineOpens line (Ok ms) → ns ≡ ms
  LineOpens-one line ns ms h k = go (unread line) h k
    where
      words_one : (texts : Option (List (List ℕ))) → OpensIn texts (Ok ns) → OpensIn texts (Ok ms) → ns ≡ ms
      words_one None h k = absurd (ok_err ns BadLine h)
      words_one (Some texts) h k = Names-one (λ cluster. start_refused cluster []) texts ns ms h k

      go : (u : Option LineFault) → OpensUnless u line (Ok ns) → OpensUnless u line (Ok ms) → ns ≡ ms
      go (Some g) h k = absurd (ok_err ns g h)
      go None h k = words_one (texts_behind (codes "cluster") (words line)) h k

  -- and doesn't both open one and name none
  LineOpens-never : (line : List ℕ) (nodes : List ℕ) (f : LineFault) → LineOpens line (Ok nodes)
      → OpensUnless (unread line) line (Err f) → ⊥
  LineOpens-never line nodes f h k = go (unread line) h k
    where
      words_one : (texts : Option (List (List ℕ))) → OpensIn texts (Ok nodes) → OpensIn texts (Err f) → ⊥
      words_one None h k = ok_err nodes BadLine h
      words_one (Some texts) h k = Names-never (λ cluster. start_refused cluster []) texts nodes f h k

      go : (u : Option LineFault) → OpensUnless u line (Ok nodes) → OpensUnless u line (Err f) → ⊥
      go (Some g) h k = ok_err nodes g h
      go None h k = words_one (texts_behind (codes "cluster") (words line)) h k

  -- a header that is refused doesn't open a world, whatever stands behind it, unless memory was refused for it
  refused_memory : (ls more : List (List ℕ)) (f : LineFault) (out : List Shown) → EndsRefused ls f
      → PrintsOn (ls ++ more) out → f ≡ Memory
  refused_memory [] more f out e p = absurd e
  refused_memory (l ∷ []) more f out e p = go p.1.0 p.1.1 p.1.2
    where
      go : (c : Result (List ℕ) LineFault) → LineOpens l c → OpensBehind c more (Ok p.0) → f ≡ Memory
      go (Ok nodes) o b = elim e [ inl u ↦ absurd (LineOpens-never l nodes f o u) | inr m ↦ m ]
      go (Err g) o b = absurd (ok_err p.0 g b)
  refused_memory (l ∷ m ∷ []) more f out e p = go p.1.0 p.1.1 p.1.2
    where
      behind : (c : List ℕ) (r : Result (List ℕ) LineFault) → e.0 ≡ c → LoneOpens c (m ∷ []) r
          → Ok p.0 ≡ made_of (opening_for c) r → f ≡ Memory
      behind c (Err g) same o h = absurd (ok_err p.0 g h)
      behind c (Ok nodes) same o h = elim (subst (λ (xs : List ℕ). LoneOpens xs (m ∷ []) (Err f)) same e.2) [
        | inl u ↦ absurd (Names-never (λ lone. start_refused c lone) (lone_texts (m ∷ [])) nodes f o u)
        | inr k ↦ k.1
      ]

      go : (c : Result (List ℕ) LineFault) → LineOpens l c → OpensBehind c (m ∷ more) (Ok p.0) → f ≡ Memory
      go (Ok nodes) o b = behind nodes b.0 (LineOpens-one l e.0 nodes e.1 o) b.1 b.2
      go (Err g) o b = absurd (ok_err p.0 g b)
  refused_memory (l ∷ m ∷ k ∷ ls) more f out e p = absurd e

  -- so of two scripts with one input, one that was played to its end and one with too many lines, memory was refused for a header
  -- of the first
  pub ends_one_way : (input : List ℕ) (x y a b c d : Option (List ℕ)) (fine : Bool) → (r : Ran (Some input) x a b fine)
      → Stopped (Some input) y c d TooManyLines → EndsRefused (spoken r.taken) Memory
  ends_one_way input x y a b c d fine r s =
      let first = s.0.first in
      let line = s.2.0 in
      let more = s.2.1.0 in
      let all : r.taken ++ r.untaken ≡ first ++ line ∷ more = sym r.parts ∙ sym r.read ∙ s.2.1.1 ∙ append_assoc first
      (line ∷ []) more in
      elim r.ended [
        | inl none ↦
            let they : r.taken ≡ first ++ line ∷ more = sym (append-nil r.taken)
            ∙ ap (λ (ls : List (List ℕ)). r.taken ++ ls) (sym none) ∙ all in
            absurd (omega (
              arith,
              r.counted,
              s.2.3,
              count_of_all-append first (line ∷ more),
              count_of_all-append first (line
                  ∷ []),
              ap count_of_all they,
            ))
        | inr h ↦
            let u = some_first r.taken r.untaken first more line all (omega (arith, r.counted, s.2.3)) in
            let p : PrintsOn (spoken r.taken ++ spoken u.0) s.0.out =
            subst (λ (ls : List (List ℕ)). PrintsOn ls s.0.out) (ap spoken u.1 ∙ spoken-append r.taken u.0)
            s.0.prints in
            subst (λ (f : LineFault). EndsRefused (spoken r.taken) f)
            (refused_memory (spoken r.taken) (spoken u.0) h.0 s.0.out h.1 p) h.1
      ]
