-- Deliveries until no letter waits.
use Rattle.std.proofs.Common.{ℕ, zero, suc, Bool, true, false, List, [], ◌∷◌, ◌++◌, ◌≡◌, ◌<◌, ◌≤◌, ◌+◌, Option, Some, None, refl, sym, ap, subst, ◌∙◌, append-nil, append_assoc, Result, Ok, Err, map, arith}
use Rattle.std.specs.Prelude.{not, is_none, is_some, IfOk}
use Rattle.std.specs.List.{list_all}
use Rattle.std.specs.Io.KnownBytes.{Appends}
use Rattle.std.proofs.KnownBytes.{Appends-trans, Appends-nil}
use Rattle.std.proofs.Math.Bool.{and-true}
use Rattle.term.specs.declared.limits.TheConstants.{SETTLE_LIMIT}
use Rattle.protocol_model.specs.Event.{Answer as AnyAnswer}
use Rattle.protocol_model.specs.NamedEvents.{NamedOutput, Settle, Said}
use Rattle.cluster_world.specs.NodeNames.{NamedOpening}
use Rattle.cluster_world.specs.NamedWorld.{NamedWorld, NamedEvent, happens_named, named_answers, run_named}
use Rattle.cluster_world.specs.NamedScript.{named_deliveries_left, next_named, settled}
use Rattle.cluster_world.specs.WorldState.{WorldState}
use Rattle.cluster_world.specs.Seen.{names_of, named}
use Rattle.command_lines.specs.Events.{named_event}
use Rattle.command_lines.specs.NodeEventsSeen.{answer_of}
use Rattle.cluster_world.specs.Playing.{Played, WaitsOn}
use Rattle.command_lines.specs.declared.Answer.{Answer}
use Rattle.command_lines.specs.declared.WorldEvent.{WorldEvent}
use Rattle.text_lines.specs.declared.faults.WriteFault.{WriteFault}
use Rattle.command_lines.specs.declared.faults.LineFault.TheVariants.{Memory}
use Rattle.command_lines.specs.Grammar.{Scripted}
use Rattle.command_lines.specs.Printing.{answers_text, output_line, error_line, word_of, shown_line, shown_text, is_fine, is_fine_output, Shown, Shows, Refuses}
use Rattle.text_lines.specs.Writing.{AppendsPart, Writes}
use Rattle.std.proofs.lemmas.List.Sums.{fold-append}
use Rattle.cluster_world.proofs.Settling.{settle-next, settle-none}
use Rattle.cluster_script.proofs.Given.{given-next, given-push}
use Rattle.cluster_script.specs.Script.{Plays, Breaks, settle_limit, given_in, broken, shown}
use Rattle.cluster_script.specs.Played.{PlaysOrStops, PlaysAsked, shown_on, settle_end}
use Rattle.text_lines.proofs.Written.{AppendsPart-behind, AppendsPart-more}

-- how the deliveries end in a world that opened so and stands as w
abbrev pub ends_at : NamedOpening → NamedWorld → NamedOutput
ends_at o w = settled o (next_named o w)

-- the limit, as the program has it
pub settle_limit-is : settle_limit ≡ SETTLE_LIMIT
unfolding settle_limit
settle_limit-is = refl

-- the deliveries of `settle` from a world on
module _ (o : NamedOpening) where
  -- one delivery more
  pub deliveries-push : (k : ℕ) (w : NamedWorld) (e : NamedEvent)
      → next_named o (run_named o w (named_deliveries_left o k w)) ≡ Some e
      → named_deliveries_left o (suc k) w ≡ named_deliveries_left o k w ++ e ∷ []
  deliveries-push zero w e h = settle-next o zero w e h
  deliveries-push (suc k) w e h = go (next_named o w) refl (λ v next. deliveries-push k v e next)
    where
      go : (r : Option NamedEvent) → next_named o w ≡ r
          → ((v : NamedWorld) → next_named o (run_named o v (named_deliveries_left o k v)) ≡ Some e
          → named_deliveries_left o (suc k) v ≡ named_deliveries_left o k v ++ e ∷ [])
          → named_deliveries_left o (suc (suc k)) w ≡ named_deliveries_left o (suc k) w ++ e ∷ []
      go None q behind =
          let none : next_named o w ≡ Some e =
          subst (λ (es : List NamedEvent). next_named o (run_named o w es) ≡ Some e) (settle-none o (suc k) w q) h in
          absurd (some_none e (sym none ∙ q))
        where
          some_none : (d : NamedEvent) → Some d ≡ None → ⊥
          some_none d z = cc
      go (Some d) q behind =
          let v = happens_named o w d in
          let first = settle-next o k w d q in
          let next : next_named o (run_named o v (named_deliveries_left o k v)) ≡ Some e =
          subst (λ (es : List NamedEvent). next_named o (run_named o w es) ≡ Some e) first h in
          settle-next o (suc k) w d q
          ∙ ap (λ (es : List NamedEvent). d ∷ es) (behind v next)
          ∙ ap (λ (es : List NamedEvent). es ++ e ∷ []) (sym first)

-- k deliveries were made and their answers written; the others are those that the world makes as it stands
pub record Settles (k : ℕ) (old now : WorldState) (a b : Option (List ℕ)) : Type 0 where
  pub most : ℕ
  pub given : List AnyAnswer
  pub counted : most + k ≡ SETTLE_LIMIT
  pub opening : names_of now ≡ names_of old
  pub world : run_named (names_of old) (named old) (named_deliveries_left (names_of old) settle_limit (named old))
      ≡ run_named (names_of old) (named now) (named_deliveries_left (names_of old) most (named now))
  pub answered : given_in (names_of old) (named old) (named_deliveries_left (names_of old) settle_limit (named old))
      ≡ given ++ given_in (names_of old) (named now) (named_deliveries_left (names_of old) most (named now))
  pub made : named now ≡ run_named (names_of old) (named old) (named_deliveries_left (names_of old) k (named old))
  pub said : given ≡ given_in (names_of old) (named old) (named_deliveries_left (names_of old) k (named old))
  pub wrote : Appends a b (answers_text given)

module _ (o : NamedOpening) where
  pub run-next : (m : ℕ) (w v : NamedWorld) (e : NamedEvent) → next_named o w ≡ Some e → v ≡ happens_named o w e
      → run_named o w (named_deliveries_left o (suc m) w) ≡ run_named o v (named_deliveries_left o m v)
  run-next m w v e h q = ap (λ (es : List NamedEvent). run_named o w es) (settle-next o m w e h)
      ∙ ap (λ (x : NamedWorld). run_named o x (named_deliveries_left o m x)) (sym q)

  pub given_in-next : (m : ℕ) (w v : NamedWorld) (e : NamedEvent) → next_named o w ≡ Some e → v ≡ happens_named o w e
      → given_in o w (named_deliveries_left o (suc m) w) ≡ named_answers o w e ++ given_in o v (named_deliveries_left o m v)
  given_in-next m w v e h q =
      ap (λ (es : List NamedEvent). given_in o w es) (settle-next o m w e h)
      ∙ given-next o w e (named_deliveries_left o m (happens_named o w e))
      ∙ ap (λ (x : NamedWorld). named_answers o w e ++ given_in o x (named_deliveries_left o m x)) (sym q)

-- the lines of two lists of answers
pub answers_text-append : (xs ys : List AnyAnswer) → answers_text (xs ++ ys) ≡ answers_text xs ++ answers_text ys
answers_text-append [] ys = refl
answers_text-append (x ∷ xs) ys =
    ap (λ (t : List ℕ). output_line (Said x) ++ t) (answers_text-append xs ys)
    ∙ sym (append_assoc (output_line (Said x)) (answers_text xs) (answers_text ys))

-- no delivery was made yet
pub Settles-start : (old : WorldState) (a : Option (List ℕ)) → Settles 0 old old a a
Settles-start old a = record {
  most = SETTLE_LIMIT;
  given = [];
  counted = omega arith;
  opening = refl;
  world = ap (λ (n : ℕ). run_named (names_of old) (named old) (named_deliveries_left (names_of old) n (named old))) settle_limit-is;
  answered = ap (λ (n : ℕ). given_in (names_of old) (named old) (named_deliveries_left (names_of old) n (named old)))
      settle_limit-is;
  made = refl;
  said = refl;
  wrote = Appends-nil a;
}

module _ (k : ℕ) (old now : WorldState) (a b : Option (List ℕ)) (S : Settles k old now a b) where
  -- there is one more to make
  pub most-next : k < SETTLE_LIMIT → (m : ℕ) × (S.most ≡ suc m)
  most-next l = go S.most refl
    where
      go : (n : ℕ) → S.most ≡ n → (m : ℕ) × (S.most ≡ suc m)
      go zero e = absurd (omega (arith, S.counted, e))
      go (suc m) e = (m, e)

  module _ (e : NamedEvent) (h : next_named (names_of now) (named now) ≡ Some e) (l : k < SETTLE_LIMIT) where
    pub at_opening : next_named (names_of old) (named now) ≡ Some e
    at_opening = subst (λ (o : NamedOpening). next_named o (named now) ≡ Some e) S.opening h

    -- the deliveries so far, and this one
    pub made-next : named_deliveries_left (names_of old) (suc k) (named old)
        ≡ named_deliveries_left (names_of old) k (named old) ++ e ∷ []
    made-next = deliveries-push (names_of old) k (named old) e
        (subst (λ (w : NamedWorld). next_named (names_of old) w ≡ Some e) S.made at_opening)

    -- all answers, where the next delivery leads to v
    pub answered-next : (v : NamedWorld) → v ≡ happens_named (names_of old) (named now) e
        → given_in (names_of old) (named old) (named_deliveries_left (names_of old) settle_limit (named old))
        ≡ (S.given ++ named_answers (names_of old) (named now) e)
        ++ given_in (names_of old) v (named_deliveries_left (names_of old) (most-next l).0 v)
    answered-next v q =
        S.answered
        ∙ ap (λ (n : ℕ). S.given ++ given_in (names_of old) (named now) (named_deliveries_left (names_of old) n (named now)))
        (most-next l).1
        ∙ ap (λ (ss : List AnyAnswer). S.given ++ ss)
        (given_in-next (names_of old) (most-next l).0 (named now) v e at_opening q)
        ∙ sym (append_assoc S.given (named_answers (names_of old) (named now) e)
        (given_in (names_of old) v (named_deliveries_left (names_of old) (most-next l).0 v)))

    one_more : (n : ℕ) → n + 1 ≡ suc n
    one_more n = omega arith

    -- the next delivery was made
    pub Settles-next : (new : WorldState) (c : Option (List ℕ)) → names_of new ≡ names_of now → named new
        ≡ happens_named (names_of now) (named now) e
        → Appends b c (answers_text (named_answers (names_of now) (named now) e)) → Settles (k + 1) old new a c
    Settles-next new c n q w =
        let q2 : named new ≡ happens_named (names_of old) (named now) e = subst
        (λ (o : NamedOpening). named new ≡ happens_named o (named now) e) S.opening q in
        let w2 : Appends b c (answers_text (named_answers (names_of old) (named now) e)) =
        subst (λ (o : NamedOpening). Appends b c (answers_text (named_answers o (named now) e))) S.opening w in
        let es = named_deliveries_left (names_of old) k (named old) in
        let more : named_deliveries_left (names_of old) (k + 1) (named old) ≡ es ++ e ∷ [] =
        ap (λ (n : ℕ). named_deliveries_left (names_of old) n (named old)) (one_more k) ∙ made-next in
        record {
          most = (most-next l).0;
          given = S.given ++ named_answers (names_of old) (named now) e;
          counted = omega (arith, S.counted, (most-next l).1);
          opening = n ∙ S.opening;
          world = S.world
              ∙ ap (λ (x : ℕ). run_named (names_of old) (named now) (named_deliveries_left (names_of old) x (named now))) (most-next l).1
              ∙ run-next (names_of old) (most-next l).0 (named now) (named new) e at_opening q2;
          answered = answered-next (named new) q2;
          made = q2 ∙ ap (λ (w : NamedWorld). happens_named (names_of old) w e) S.made
              ∙ sym (ap (λ (ds : List NamedEvent). run_named (names_of old) (named old) ds) more
              ∙ fold-append (happens_named (names_of old)) (named old) es (e ∷ []));
          said = ap (λ (w : NamedWorld). S.given ++ named_answers (names_of old) w e) S.made
              ∙ ap (λ (ss : List AnyAnswer). ss ++ named_answers (names_of old) (run_named (names_of old) (named old) es) e) S.said
              ∙ sym (ap (λ (ds : List NamedEvent). given_in (names_of old) (named old) ds) more
              ∙ given-push (names_of old) (named old) es e);
          wrote = subst (λ (t : List ℕ). Appends a c t)
              (sym (answers_text-append S.given (named_answers (names_of old) (named now) e)))
              (Appends-trans a b c (answers_text S.given) (answers_text (named_answers (names_of old) (named now) e)) S.wrote
              w2);
        }

-- answers, and one more line
pub Said-text-last : (given : List AnyAnswer) (x : NamedOutput) → shown_text (map Shows (map Said given ++ x ∷ []))
    ≡ answers_text given ++ output_line x
Said-text-last [] x = append-nil (output_line x)
Said-text-last (s ∷ given) x =
    ap (λ (t : List ℕ). output_line (Said s) ++ t) (Said-text-last given x)
    ∙ sym (append_assoc (output_line (Said s)) (answers_text given) (output_line x))

pub Said-fine-last : (given : List AnyAnswer) (x : NamedOutput) → list_all is_fine (map Shows (map Said given ++ x ∷ []))
    ≡ is_fine_output x
Said-fine-last [] x = and-true (is_fine_output x)
Said-fine-last (s ∷ given) x = Said-fine-last given x

-- answers, and what ends them
pub Ended-text : (given : List AnyAnswer) (x : Shown) → shown_text (map Shows (map Said given) ++ x ∷ [])
    ≡ answers_text given ++ shown_line x
Ended-text [] x = append-nil (shown_line x)
Ended-text (s ∷ given) x =
    ap (λ (t : List ℕ). output_line (Said s) ++ t) (Ended-text given x)
    ∙ sym (append_assoc (output_line (Said s)) (answers_text given) (shown_line x))

pub Ended-fine : (given : List AnyAnswer) (x : Shown) → list_all is_fine (map Shows (map Said given) ++ x ∷ []) ≡ is_fine x
Ended-fine [] x = and-true (is_fine x)
Ended-fine (s ∷ given) x = Ended-fine given x

-- what `settle` prints
pub settle-text : (h : WorldState) → shown_on h (Plays Settle)
    ≡ answers_text (given_in (names_of h) (named h) (named_deliveries_left (names_of h) settle_limit (named h)))
    ++ output_line (ends_at (names_of h) (run_named (names_of h) (named h) (named_deliveries_left (names_of h) settle_limit (named h))))
settle-text h = Said-text-last (given_in (names_of h) (named h) (named_deliveries_left (names_of h) settle_limit (named h)))
    (ends_at (names_of h) (run_named (names_of h) (named h) (named_deliveries_left (names_of h) settle_limit (named h))))

-- how it ends, by the link on which a letter waits
pub settled-waits : (r : Option (ℕ × ℕ)) (h : WorldState) → WaitsOn r h → ends_at (names_of h) (named h)
    ≡ settle_end (is_none r)
settled-waits None h w = ap (settled (names_of h)) w
settled-waits (Some p) h w = ap (settled (names_of h)) w

module _ (k : ℕ) (old now : WorldState) (a b : Option (List ℕ)) (S : Settles k old now a b) where
  -- a fault while the answers of the next delivery were written
  pub settle-stopped : (e : NamedEvent) → next_named (names_of now) (named now) ≡ Some e → k < SETTLE_LIMIT
      → (c : Option (List ℕ))
      → AppendsPart b c (answers_text (named_answers (names_of now) (named now) e))
      → AppendsPart a c (shown_on old (Plays Settle))
  settle-stopped e h l c p =
      let p2 : AppendsPart b c (answers_text (named_answers (names_of old) (named now) e)) =
      subst (λ (o : NamedOpening). AppendsPart b c (answers_text (named_answers o (named now) e))) S.opening p in
      let v = happens_named (names_of old) (named now) e in
      let more = given_in (names_of old) v (named_deliveries_left (names_of old) (most-next k old now a b S l).0 v) in
      let given = named_answers (names_of old) (named now) e in
      let q : AppendsPart a c (answers_text (S.given ++ given)) =
      subst (λ (t : List ℕ). AppendsPart a c t) (sym (answers_text-append S.given given))
      (AppendsPart-behind a b c (answers_text S.given) (answers_text given) S.wrote p2) in
      let all : AppendsPart a c (answers_text ((S.given ++ given) ++ more)) =
      subst (λ (t : List ℕ). AppendsPart a c t) (sym (answers_text-append (S.given ++ given) more))
      (AppendsPart-more a c (answers_text (S.given ++ given)) (answers_text more) q) in
      subst (λ (t : List ℕ). AppendsPart a c t) (sym (settle-text old))
      (AppendsPart-more a c _ _ (subst (λ (ss : List AnyAnswer). AppendsPart a c (answers_text ss))
      (sym (answered-next k old now a b S e h l v refl)) all))

  module _ (none : named_deliveries_left (names_of old) S.most (named now) ≡ []) (s : Bool)
      (ends : ends_at (names_of now) (named now) ≡ settle_end s) where
    pub world-end : run_named (names_of old) (named old) (named_deliveries_left (names_of old) settle_limit (named old)) ≡ named now
    world-end = S.world ∙ ap (λ (es : List NamedEvent). run_named (names_of old) (named now) es) none

    pub answers-end : given_in (names_of old) (named old) (named_deliveries_left (names_of old) settle_limit (named old))
        ≡ S.given
    answers-end = S.answered ∙ ap (λ (es : List NamedEvent). S.given ++ given_in (names_of old) (named now) es) none
        ∙ append-nil S.given

    pub output-end : ends_at (names_of old) (run_named (names_of old) (named old)
        (named_deliveries_left (names_of old) settle_limit (named old))) ≡ settle_end s
    output-end = ap (λ (w : NamedWorld). ends_at (names_of old) w) world-end
        ∙ ap (λ (o : NamedOpening). ends_at o (named now)) (sym S.opening) ∙ ends

    pub text-end : shown_on old (Plays Settle) ≡ answers_text S.given ++ output_line (settle_end s)
    text-end = settle-text old ∙ ap (λ (x : NamedOutput). answers_text
        (given_in (names_of old) (named old) (named_deliveries_left (names_of old) settle_limit (named old))) ++ output_line x)
        output-end
        ∙ ap (λ (ss : List AnyAnswer). answers_text ss ++ output_line (settle_end s)) answers-end

    -- no more deliveries are made: how it ended is written
    pub settle-ended : (c : Option (List ℕ)) (r : Result Bool WriteFault) → Writes b c r (output_line (settle_end s))
        → IfOk r (λ fine. fine ≡ s)
        → PlaysOrStops old now (Plays Settle) a c r
    settle-ended c (Err f) w q =
        subst (λ (t : List ℕ). AppendsPart a c t) (sym text-end)
        (AppendsPart-behind a b c (answers_text S.given) (output_line (settle_end s)) S.wrote w)
    settle-ended c (Ok fine) w q = record {
      opening = S.opening;
      world = sym world-end;
      wrote = subst (λ (t : List ℕ). Appends a c t) (sym text-end)
          (Appends-trans a b c (answers_text S.given) (output_line (settle_end s)) S.wrote w);
      fine_is = q ∙ fine-end s ∙ ap is_fine_output (sym output-end)
          ∙ sym (Said-fine-last (given_in (names_of old) (named old)
          (named_deliveries_left (names_of old) settle_limit (named old)))
          (ends_at (names_of old) (run_named (names_of old) (named old)
          (named_deliveries_left (names_of old) settle_limit (named old)))));
    }
      where
        fine-end : (t : Bool) → t ≡ is_fine_output (settle_end t)
        fine-end true = refl
        fine-end false = refl

  -- memory is refused for the next delivery
  module _ (e : NamedEvent) (h : next_named (names_of now) (named now) ≡ Some e) (l : k < SETTLE_LIMIT) where
    -- what was made and said so far
    shown-broken : shown (names_of old) (named old) (Breaks k) ≡ map Shows (map Said S.given) ++ Refuses Memory ∷ []
    shown-broken =
        let o = names_of old in
        let es = named_deliveries_left o k (named old) in
        let waits : next_named o (run_named o (named old) es) ≡ Some e =
        subst (λ (w : NamedWorld). next_named o w ≡ Some e) S.made (at_opening k old now a b S e h l) in
        ap (λ (r : Option NamedEvent). map Shows (map Said (given_in o (named old) es)) ++ broken r ∷ []) waits
        ∙ ap (λ (ss : List AnyAnswer). map Shows (map Said ss) ++ Refuses Memory ∷ []) (sym S.said)

    text-broken : shown_on old (Breaks k) ≡ answers_text S.given ++ error_line (word_of Memory)
    text-broken = ap shown_text shown-broken ∙ Ended-text S.given (Refuses Memory)

    within : k < settle_limit
    within = subst (λ (n : ℕ). k < n) (sym settle_limit-is) l

    pub settle-broken : (new : WorldState) (c d : Option (List ℕ)) → names_of new ≡ names_of now → named new ≡ named now
        → c ≡ b → (r : Result Bool WriteFault) → Writes c d r (error_line (word_of Memory))
        → IfOk r (λ fine. fine ≡ false) → PlaysAsked (Ok (Scripted Settle)) old new a d r
    settle-broken new c d o n same (Err f) w q = (
      Breaks k,
      (refl, within),
      subst (λ (t : List ℕ). AppendsPart a d t) (sym text-broken)
          (AppendsPart-behind a b d (answers_text S.given) (error_line (word_of Memory)) S.wrote
          (subst (λ (x : Option (List ℕ)). AppendsPart x d (error_line (word_of Memory))) same w)),
    )
    settle-broken new c d o n same (Ok fine) w q = (
      Breaks k,
      (refl, within),
      record {
        opening = o ∙ S.opening;
        world = n ∙ S.made;
        wrote = subst (λ (t : List ℕ). Appends a d t) (sym text-broken)
            (Appends-trans a b d (answers_text S.given) (error_line (word_of Memory)) S.wrote
            (subst (λ (x : Option (List ℕ)). Appends x d (error_line (word_of Memory))) same w));
        fine_is = q ∙ sym (ap (λ (ss : List Shown). list_all is_fine ss) shown-broken ∙ Ended-fine S.given (Refuses Memory));
      },
    )

-- the answers of an event that was played were written, or a part of them
module _ (old new : WorldState) (e : WorldEvent) (given : List Answer) (a b : Option (List ℕ)) (p : Played e old new [] given) where
  pub answers-written : Appends a b (answers_text (map answer_of given))
      → Appends a b (answers_text (named_answers (names_of old) (named old) (named_event e)))
  answers-written w = subst (λ (ss : List AnyAnswer). Appends a b (answers_text ss)) p.answers w

  pub answers-part : AppendsPart a b (answers_text (map answer_of given))
      → AppendsPart a b (answers_text (named_answers (names_of old) (named old) (named_event e)))
  answers-part w = subst (λ (ss : List AnyAnswer). AppendsPart a b (answers_text ss)) p.answers w

-- a test for none, by the test for some
pub is_none-by : {A : Type 0} (r : Option A) (x : Bool) → is_some r ≡ not x → is_none r ≡ x
is_none-by None true e = refl
is_none-by None false e = sym e
is_none-by (Some v) true e = sym e
is_none-by (Some v) false e = refl

module _ (k : ℕ) (old now : WorldState) (a b : Option (List ℕ)) (S : Settles k old now a b) where
  -- no letter waits
  pub none_waits : next_named (names_of now) (named now) ≡ None → named_deliveries_left (names_of old) S.most (named now) ≡ []
  none_waits h = settle-none (names_of old) S.most (named now)
      (subst (λ (o : NamedOpening). next_named o (named now) ≡ None) S.opening h)

  -- all deliveries were made
  pub none_left : SETTLE_LIMIT ≤ k → named_deliveries_left (names_of old) S.most (named now) ≡ []
  none_left l =
      let z : S.most ≡ 0 = omega (arith, S.counted) in
      ap (λ (n : ℕ). named_deliveries_left (names_of old) n (named now)) z
