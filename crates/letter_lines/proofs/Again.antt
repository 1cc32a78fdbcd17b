-- The parts of letters are read as these letters.
use Rattle.std.proofs.Common.{◌≡◌, ℕ, true, ◌+◌, ◌<◌, List, [], ◌∷◌, ◌++◌, map, length, get_or, Some, subst, sym, ◌∙◌, ap, refl, arith, append_assoc, append-nil, length-append, lt-ltb, flat_map, insert}
use Rattle.std.proofs.Math.ListN.{get_or-append}
use Rattle.std.proofs.Math.Seq.{get_or-append_seam}
use Rattle.std.proofs.lemmas.List.{take_all, drop_all}
use Rattle.std.specs.List.{AllByRecursion}
use Rattle.registry_model.specs.Process.{Process}
use Rattle.registry_model.specs.Settlement.{Noted}
use Rattle.protocol_model.specs.Letter.{Letter as AnyLetter}
use Rattle.exchange.specs.declared.bodies.Admission.{Admission}
use Rattle.exchange.specs.declared.bodies.Welcome.{Welcome as AWelcome}
use Rattle.node_events.specs.declared.events.Letter.{Letter}
use Rattle.node_events.specs.declared.events.Letter.TheVariants as letter
use Rattle.node_events.specs.Letters.{letter_of}
use Rattle.term.specs.NodeSets.{IsNodeSet, with_node}
use Rattle.term.specs.declared.limits.TheConstants.{MOST_NODES}
use Rattle.term.proofs.NodeSets.{rises, with_node-fits}
use Rattle.letter_lines.specs.declared.part.Part.{Part}
use Rattle.letter_lines.specs.declared.part.Part.TheVariants.{Pair, Put, Remove, Kill, Notice, Member, Told, JoinAsk, Admit, Welcome}
use Rattle.letter_lines.specs.Gathered.{Gathered, Taken, nothing, taken, kept, kept_where, has_room, behind, read_on}
use Rattle.letter_lines.specs.Laws.{IsLetter, HasSets, LettersAreReadAgain}
use Rattle.letter_lines.specs.Parts.{parts_of, admit_items, welcome_items, fate_items}

-- items of one kind are kept one behind the other
list_kept : {A : Type 0} (make : A → Part) (keeps : List A → Gathered)
    → ((x : A) (xs : List A) → taken (make x) (keeps xs) ≡ kept (keeps (xs ++ x ∷ [])))
    → (items front : List A) (rest : List Part) (ls : List AnyLetter)
    → read_on (map make items ++ rest) (keeps front) ls ≡ read_on rest (keeps (front ++ items)) ls
list_kept {A = A} make keeps one [] front rest ls =
    ap (λ (xs : List A). read_on rest (keeps xs) ls) (sym (append-nil front))
list_kept {A = A} make keeps one (x ∷ items) front rest ls =
    ap (λ (t : Taken). behind t ls (read_on (map make items ++ rest))) (one x front)
    ∙ (list_kept make keeps one items (front ++ x ∷ []) rest ls
    ∙ ap (λ (xs : List A). read_on rest (keeps xs) ls) (append_assoc front (x ∷ []) items))

-- a node above all others is put behind them
put_behind : (xs : List ℕ) (c : ℕ) → ((k : ℕ) → k < length xs → get_or xs k 0 < c) → with_node xs c ≡ xs ++ c ∷ []
put_behind xs c below =
    sym (with_node-fits xs (length xs) c (record {
      inside = omega arith;
      before = below;
      behind = λ k low high. absurd (omega arith);
    }))
    ∙ whole
  where
    whole : insert xs (length xs) c ≡ xs ++ c ∷ []
    whole = grind (arith, take_all, drop_all)

-- the next node of a set is above those before it, and there is room for it
next_above : (front nodes : List ℕ) (n k : ℕ) → IsNodeSet (front ++ n ∷ nodes) → k < length front → get_or front k 0 < n
next_above front nodes n k set inside =
    let long : length (front ++ n ∷ nodes) ≡ length front + length (n ∷ nodes) = length-append front (n ∷ nodes) in
    let up = rises (front ++ n ∷ nodes) k (length front) set.rising inside (omega (arith, long)) in
    let here : get_or (front ++ n ∷ nodes) k 0 ≡ get_or front k 0 = get_or-append front (n ∷ nodes) 0 k inside in
    let there : get_or (front ++ n ∷ nodes) (length front) 0 ≡ n = get_or-append_seam front n nodes 0 in
    omega (arith, up, here, there)

room_for : (front nodes : List ℕ) (n : ℕ) → IsNodeSet (front ++ n ∷ nodes) → has_room front n ≡ true
room_for front nodes n set =
    let long : length (front ++ n ∷ nodes) ≡ length front + length (n ∷ nodes) = length-append front (n ∷ nodes) in
    rw (lt-ltb (length front) MOST_NODES (omega (arith, long, set.fits))) refl

-- nodes of a set are kept one behind the other
set_kept : (make : ℕ → Part) (keeps : List ℕ → Gathered)
    → ((n : ℕ) (xs : List ℕ) → taken (make n) (keeps xs) ≡ kept_where (has_room xs n) (keeps (with_node xs n)))
    → (nodes front : List ℕ) (rest : List Part) (ls : List AnyLetter) → IsNodeSet (front ++ nodes)
    → read_on (map make nodes ++ rest) (keeps front) ls ≡ read_on rest (keeps (front ++ nodes)) ls
set_kept make keeps one [] front rest ls set =
    ap (λ (xs : List ℕ). read_on rest (keeps xs) ls) (sym (append-nil front))
set_kept make keeps one (n ∷ nodes) front rest ls set =
    let more = read_on (map make nodes ++ rest) in
    let fits : has_room front n ≡ true = room_for front nodes n set in
    let grown : with_node front n ≡ front ++ n ∷ [] = put_behind front n (λ k inside. next_above front nodes n k set inside) in
    let together : (front ++ n ∷ []) ++ nodes ≡ front ++ n ∷ nodes = append_assoc front (n ∷ []) nodes in
    ap (λ (t : Taken). behind t ls more) (one n front)
    ∙ (ap (λ b. behind (kept_where b (keeps (with_node front n))) ls more) fits
    ∙ (ap (λ (xs : List ℕ). more (keeps xs) ls) grown
    ∙ (set_kept make keeps one nodes (front ++ n ∷ []) rest ls (subst IsNodeSet (sym together) set)
    ∙ ap (λ (xs : List ℕ). read_on rest (keeps xs) ls) together)))

-- what becomes of processes is kept
fate_kept : (g : Gathered) (kills : List Process) (notices : List Noted) (rest : List Part) (ls : List AnyLetter)
    → g.kills ≡ [] → g.notices ≡ []
    → read_on (fate_items kills notices ++ rest) g ls ≡ read_on rest (record g { kills = kills; notices = notices }) ls
fate_kept g kills notices rest ls no_kills no_notices =
    ap (λ (ps : List Part). read_on ps g ls) (append_assoc (map Kill kills) (map Notice notices) rest)
    ∙ (ap (λ (xs : List Process). read_on (map Kill kills ++ (map Notice notices ++ rest)) (record g { kills = xs }) ls) no_kills
    ∙ (list_kept Kill (λ xs. record g { kills = xs }) (λ x xs. refl) kills [] (map Notice notices ++ rest) ls
    ∙ (ap (λ (xs : List Noted). read_on (map Notice notices ++ rest) (record g { kills = kills; notices = xs }) ls) no_notices
    ∙ list_kept Notice (λ xs. record g { kills = kills; notices = xs }) (λ x xs. refl) notices [] rest ls)))

-- what a member is told is kept
admit_kept : (a : Admission) (rest : List Part) (ls : List AnyLetter)
    → read_on (admit_items a ++ rest) nothing ls
    ≡ read_on rest (record nothing {
      puts = a.puts.items;
      removes = a.removes.items;
      kills = a.kills.items;
      notices = a.notices.items;
    }) ls
admit_kept a rest ls =
    let removes = map Remove a.removes.items in
    let fate = fate_items a.kills.items a.notices.items in
    ap (λ (ps : List Part). read_on ps nothing ls)
    (append_assoc (map Put a.puts.items) (removes ++ fate) rest
    ∙ ap (λ (ps : List Part). map Put a.puts.items ++ ps) (append_assoc removes fate rest))
    ∙ (list_kept Put (λ xs. record nothing { puts = xs }) (λ x xs. refl) a.puts.items [] (removes ++ (fate ++ rest)) ls
    ∙ (list_kept Remove (λ xs. record nothing { puts = a.puts.items; removes = xs }) (λ x xs. refl) a.removes.items []
    (fate ++ rest) ls
    ∙ fate_kept (record nothing { puts = a.puts.items; removes = a.removes.items }) a.kills.items a.notices.items rest
    ls refl refl))

-- what a joiner is told is kept
welcome_kept : (w : AWelcome) (rest : List Part) (ls : List AnyLetter) → HasSets w
    → read_on (welcome_items w ++ rest) nothing ls
    ≡ read_on rest (record nothing {
      members = w.members;
      pairs = w.pairs.items;
      told = w.told;
      kills = w.kills.items;
      notices = w.notices.items;
    }) ls
welcome_kept w rest ls sets =
    let pairs = map Pair w.pairs.items in
    let told = map Told w.told in
    let fate = fate_items w.kills.items w.notices.items in
    ap (λ (ps : List Part). read_on ps nothing ls)
    (append_assoc (map Member w.members) (pairs ++ (told ++ fate)) rest
    ∙ ap (λ (ps : List Part). map Member w.members ++ ps)
    (append_assoc pairs (told ++ fate) rest ∙ ap (λ (ps : List Part). pairs ++ ps) (append_assoc told fate rest)))
    ∙ (set_kept Member (λ xs. record nothing { members = xs }) (λ x xs. refl) w.members []
    (pairs ++ (told ++ (fate ++ rest))) ls sets.members
    ∙ (list_kept Pair (λ xs. record nothing { members = w.members; pairs = xs }) (λ x xs. refl) w.pairs.items []
    (told ++ (fate ++ rest)) ls
    ∙ (set_kept Told (λ xs. record nothing { members = w.members; pairs = w.pairs.items; told = xs }) (λ x xs. refl) w.told []
    (fate ++ rest) ls sets.told
    ∙ fate_kept (record nothing { members = w.members; pairs = w.pairs.items; told = w.told }) w.kills.items w.notices.items
    rest ls refl refl)))

-- the parts of a letter, and others behind them, are read as the letter, and then the others
letter_again : (l : Letter) (rest : List Part) (ls : List AnyLetter) → IsLetter l
    → read_on (parts_of l ++ rest) nothing ls ≡ read_on rest nothing (ls ++ letter_of l ∷ [])
letter_again (letter.SetLock id p) rest ls h = refl
letter_again (letter.LockAnswer id p granted) rest ls h = refl
letter_again (letter.GiveBack id p ack) rest ls h = refl
letter_again (letter.GivenBack p) rest ls h = refl
letter_again (letter.ReleaseOf p) rest ls h = refl
letter_again (letter.Apply change) rest ls h = refl
letter_again letter.Applied rest ls h = refl
letter_again (letter.JoinAsk pairs) rest ls h =
    ap (λ (ps : List Part). read_on ps nothing ls) (append_assoc (map Pair pairs.items) (JoinAsk ∷ []) rest)
    ∙ list_kept Pair (λ xs. record nothing { pairs = xs }) (λ x xs. refl) pairs.items [] (JoinAsk ∷ rest) ls
letter_again letter.JoinRefused rest ls h = refl
letter_again (letter.Admit body) rest ls h =
    ap (λ (ps : List Part). read_on ps nothing ls) (append_assoc (admit_items body) (Admit body.joiner ∷ []) rest)
    ∙ admit_kept body (Admit body.joiner ∷ rest) ls
letter_again (letter.Welcome body) rest ls h =
    ap (λ (ps : List Part). read_on ps nothing ls) (append_assoc (welcome_items body.value) (Welcome ∷ []) rest)
    ∙ welcome_kept body.value (Welcome ∷ rest) ls h
letter_again letter.Down rest ls h = refl

-- the parts of letters are read as these letters
letters_again : (letters : List Letter) (ls : List AnyLetter) → AllByRecursion IsLetter letters
    → read_on (flat_map parts_of letters) nothing ls ≡ Some (nothing, ls ++ map letter_of letters)
letters_again [] ls h = ap (λ (xs : List AnyLetter). Some (nothing, xs)) (sym (append-nil ls))
letters_again (l ∷ letters) ls h =
    letter_again l (flat_map parts_of letters) ls h.0
    ∙ (letters_again letters (ls ++ letter_of l ∷ []) h.1
    ∙ ap (λ (xs : List AnyLetter). Some (nothing, xs)) (append_assoc ls (letter_of l ∷ []) (map letter_of letters)))

pub read_again : LettersAreReadAgain
read_again letters h = letters_again letters [] h
