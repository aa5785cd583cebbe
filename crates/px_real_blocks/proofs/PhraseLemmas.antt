-- What stands up to a semicolon or a colon, token by token and bracket by bracket.
use Rattle.std.proofs.Common.{◌≡◌, ℕ, zero, suc, ◌-◌, ◌+◌, ◌<◌, ◌≤◌, Bool, true, false, if◌then◌else◌, List, [], ◌∷◌, ◌++◌, length, take, drop, Option, Some, None, Ok, Err, refl, sym, ap, ◌∙◌, append_assoc, length-append, ◌⊎◌, inl, inr, arith}
use Rattle.std.proofs.lemmas.List.{append-nil, append_cancel_right, take-append-drop, drop-drop, length-drop}
use Rattle.px_real_expressions.specs.declared.terminal.Terminal.{Terminal}
use Rattle.px_real_expressions.specs.declared.terminal.Terminal.TheVariants as T
use Rattle.px_real_expressions.specs.Lexemes.{Lexeme, same}
use Rattle.px_real_expressions.specs.Stops.{Stop, wrong, Read, ◌>>=◌, expect}
use Rattle.px_real_expressions.specs.Held.{closing, closes_something, with_one, close_at, held_by, held_at}
use Rattle.px_real_expressions.specs.Reading.{closed_at, held_up_to}
use Rattle.px_real_expressions.proofs.Tools.{done, both_are, bind_ok, same_is, front_here, front_bind}
use Rattle.px_real_expressions.proofs.HeldExact.{with_all, with_none, with_more, with_both, one_is, held_exact}
use Rattle.px_real_statements.proofs.Balance.{held_same}
use Rattle.px_real_statements.specs.PhraseReading.{goes_on, ends, mismatches, ending, colon, turn_outside, turn_within, Outside, after_turn, read_by}
use Rattle.px_real_symbols.specs.declared.fault.Fault.{Fault}
use Rattle.px_real_symbols.specs.Answers.{IsFaultOf}
use Rattle.px_real_blocks.specs.Turns.{answered, outside_of}
use Rattle.px_real_symbols.proofs.AnswerLemmas.{passes_on}

-- ---- brackets

-- where a token does this outside of brackets
module _ (outside : Outside) where
  -- what follows a bracket that was closed, where n choices are open
  abbrev behind : ℕ → List Lexeme × List Lexeme → Read (List Lexeme)
  behind n (a, []) = Err (wrong [])
  behind n (a, (c ∷ us)) = with_all (a ++ c ∷ []) (read_by outside n [] us)

  one_behind : (n : ℕ) (t : Lexeme) (r : Read (List Lexeme)) → with_one t (r >>= behind n) ≡ (with_one t r >>= behind n)
  one_behind n t (Ok (a, [])) = refl
  one_behind n t (Ok (a, (c ∷ us))) = with_more t (a ++ c ∷ []) (read_by outside n [] us)
  one_behind n t (Err s) = refl

  last_one : (n : ℕ) (t : Lexeme) (ts : List Lexeme) → with_one t (read_by outside n [] ts) ≡ behind n ([], t ∷ ts)
  last_one n t ts = refl

  pub group_is : (n : ℕ) (k : Terminal) (ks : List Terminal) (ts : List Lexeme) → read_by outside n (k ∷ ks) ts ≡ (held_at k ks ts >>= behind n)
  group_is zero k ks [] = refl
  group_is (suc n) k ks [] = refl
  group_is n k ks (t ∷ ts) = by (closing t.terminal) (λ k1 ks1. group_is n k1 ks1 ts)
    where
      closes : (ks : List Terminal) → ((k1 : Terminal) (ks1 : List Terminal) → read_by outside n (k1 ∷ ks1) ts ≡ (held_at k1 ks1 ts >>= behind n)) → with_one t (read_by outside n ks ts) ≡ (close_at ks t ts (λ k1 ks1. held_at k1 ks1 ts) >>= behind n)
      closes [] next = last_one n t ts
      closes (k1 ∷ ks1) next = ap (with_one t) (next k1 ks1) ∙ one_behind n t (held_at k1 ks1 ts)

      plain : (b s : Bool) → ((k1 : Terminal) (ks1 : List Terminal) → read_by outside n (k1 ∷ ks1) ts ≡ (held_at k1 ks1 ts >>= behind n)) → after_turn (if b then (if s then goes_on n ks else mismatches) else goes_on n (k ∷ ks)) t ts (λ m js. read_by outside m js ts)
          ≡ ((if b then (if s then close_at ks t ts (λ k1 ks1. held_at k1 ks1 ts) else Err (wrong (t ∷ ts))) else with_one t (held_at k ks ts)) >>= behind n)
      plain true true next = closes ks next
      plain true false next = refl
      plain false s next = ap (with_one t) (next k ks) ∙ one_behind n t (held_at k ks ts)

      by : (o : Option Terminal) → ((k1 : Terminal) (ks1 : List Terminal) → read_by outside n (k1 ∷ ks1) ts ≡ (held_at k1 ks1 ts >>= behind n)) → after_turn (turn_within o n k ks t.terminal) t ts (λ m js. read_by outside m js ts) ≡ (held_by o k ks t ts (λ k1 ks1. held_at k1 ks1 ts) >>= behind n)
      by (Some c) next = ap (with_one t) (next c (k ∷ ks)) ∙ one_behind n t (held_at c (k ∷ ks) ts)
      by None next = plain (closes_something t.terminal) (same t.terminal k) next

  pub group_stops : (n : ℕ) (k : Terminal) (ts : List Lexeme) (s : Stop) → held_at k [] ts ≡ Err s → read_by outside n (k ∷ []) ts ≡ Err s
  group_stops n k ts s h = group_is n k [] ts ∙ rw h refl

  pub group_read : (n : ℕ) (k : Terminal) (ts a : List Lexeme) (c : Lexeme) (us : List Lexeme) → held_at k [] ts ≡ Ok (a, c ∷ us) → read_by outside n (k ∷ []) ts ≡ with_all (a ++ c ∷ []) (read_by outside n [] us)
  group_read n k ts a c us h = group_is n k [] ts ∙ rw h refl

-- what closes the first bracket that is open
abbrev bottom : Terminal → List Terminal → Terminal
bottom k [] = k
bottom k (j ∷ ks) = bottom j ks

-- it follows what is held
held_stops : (k : Terminal) (ks : List Terminal) (ts a rest : List Lexeme) → held_at k ks ts ≡ Ok (a, rest) → (c : Lexeme) × (us : List Lexeme) × (rest ≡ c ∷ us) × (c.terminal ≡ bottom k ks)
held_stops k ks [] a rest h = absurd cc
held_stops k ks (t ∷ ts) a rest h = by (closing t.terminal) (λ k1 ks1 a1 g. held_stops k1 ks1 ts a1 rest g) h
  where
    further : (k1 : Terminal) (ks1 : List Terminal) → ((a1 : List Lexeme) → held_at k1 ks1 ts ≡ Ok (a1, rest) → (c : Lexeme) × (us : List Lexeme) × (rest ≡ c ∷ us) × (c.terminal ≡ bottom k1 ks1)) →
        with_one t (held_at k1 ks1 ts) ≡ Ok (a, rest) → (c : Lexeme) × (us : List Lexeme) × (rest ≡ c ∷ us) × (c.terminal ≡ bottom k1 ks1)
    further k1 ks1 next g = let one = one_is t (held_at k1 ks1 ts) a rest g in next one.0 one.1

    closes : (js : List Terminal) → t.terminal ≡ k → ((k1 : Terminal) (ks1 : List Terminal) (a1 : List Lexeme) → held_at k1 ks1 ts ≡ Ok (a1, rest) → (c : Lexeme) × (us : List Lexeme) × (rest ≡ c ∷ us) × (c.terminal ≡ bottom k1 ks1)) →
        close_at js t ts (λ k1 ks1. held_at k1 ks1 ts) ≡ Ok (a, rest) → (c : Lexeme) × (us : List Lexeme) × (rest ≡ c ∷ us) × (c.terminal ≡ bottom k js)
    closes [] e next g = let q = both_are [] a (t ∷ ts) rest g in (t, ts, sym q.1, e)
    closes (k1 ∷ js) e next g = further k1 js (next k1 js) g

    plain : (b s : Bool) → same t.terminal k ≡ s → ((k1 : Terminal) (ks1 : List Terminal) (a1 : List Lexeme) → held_at k1 ks1 ts ≡ Ok (a1, rest) → (c : Lexeme) × (us : List Lexeme) × (rest ≡ c ∷ us) × (c.terminal ≡ bottom k1 ks1)) →
        (if b then (if s then close_at ks t ts (λ k1 ks1. held_at k1 ks1 ts) else Err (wrong (t ∷ ts))) else with_one t (held_at k ks ts)) ≡ Ok (a, rest) → (c : Lexeme) × (us : List Lexeme) × (rest ≡ c ∷ us) × (c.terminal ≡ bottom k ks)
    plain true true e next g = closes ks (same_is t.terminal k e) next g
    plain true false e next g = absurd cc
    plain false s e next g = further k ks (next k ks) g

    by : (o : Option Terminal) → ((k1 : Terminal) (ks1 : List Terminal) (a1 : List Lexeme) → held_at k1 ks1 ts ≡ Ok (a1, rest) → (c : Lexeme) × (us : List Lexeme) × (rest ≡ c ∷ us) × (c.terminal ≡ bottom k1 ks1)) →
        held_by o k ks t ts (λ k1 ks1. held_at k1 ks1 ts) ≡ Ok (a, rest) → (c : Lexeme) × (us : List Lexeme) × (rest ≡ c ∷ us) × (c.terminal ≡ bottom k ks)
    by (Some c1) next g = further c1 (k ∷ ks) (next c1 (k ∷ ks)) g
    by None next g = plain (closes_something t.terminal) (same t.terminal k) refl next g

-- a group, read
pub closed_is : (k : Terminal) (ts a rest : List Lexeme) → closing k ≡ None → closes_something k ≡ true → closed_at k (held_up_to k) ts ≡ Ok (a, rest) →
    (c : Lexeme) × (held_at k [] ts ≡ Ok (a, c ∷ rest)) × (ts ≡ a ++ c ∷ rest)
unfolding closed_at held_up_to
closed_is k ts a rest o s h =
    let b = bind_ok (held_at k [] ts) _ (a, rest) h in
    let f = front_bind k b.0.1 _ (a, rest) b.2 in
    let q = both_are b.0.0 a f.0.1 rest f.3 in
    let r = (held_exact k o s).sound ts b.0.0 b.0.1 b.1 in
    let tail : b.0.1 ≡ f.0.0 ∷ rest = f.2 ∙ ap (λ z. f.0.0 ∷ z) q.1 in
    (f.0.0, b.1 ∙ ap (λ z. Ok (z, b.0.1)) q.0 ∙ ap (λ z. Ok (a, z)) tail, r.parts ∙ ap (λ z. z ++ b.0.1) (held_same r.is ∙ q.0) ∙ ap (λ z. a ++ z) tail)

closing_read : (k : Terminal) (a us : List Lexeme) (c : Lexeme) (rest : List Lexeme) → us ≡ c ∷ rest → c.terminal ≡ k → (expect k us >>= λ d. done a d.1) ≡ done a rest
closing_read k a us c rest h kc = rw (h, front_here k c rest kc) refl

-- or reading it stops
pub closed_stops : (k : Terminal) (ts : List Lexeme) (s : Stop) → closed_at k (held_up_to k) ts ≡ Err s → held_at k [] ts ≡ Err s
unfolding closed_at held_up_to
closed_stops k ts s h = by (held_at k [] ts) refl h
  where
    by : (r : Read (List Lexeme)) → held_at k [] ts ≡ r → (r >>= λ x. expect k x.1 >>= λ c. done x.0 c.1) ≡ Err s → r ≡ Err s
    by (Err s1) e g = let z : s1 ≡ s = cc in ap (λ y. Err y) z
    by (Ok x) e g =
        let f = held_stops k [] ts x.0 x.1 e in
        let z : (expect k x.1 >>= λ c. done x.0 c.1) ≡ done x.0 f.1 = closing_read k x.0 x.1 f.0 f.1 f.2 f.3 in
        let y : done x.0 f.1 ≡ Err s = sym z ∙ g in
        absurd cc

-- the number behind a group
pub behind_group : {A : Type 0} (all a : List A) (c : A) (at after : ℕ) → at < length all → drop (at + 1) all ≡ a ++ c ∷ drop after all → at < after
behind_group all a c at after lt h =
    omega (arith, ap length h, length-append a (c ∷ drop after all), length-drop (at + 1) all, length-drop after all)

-- ---- tokens by their numbers

-- what was taken up to a number, and what follows up to another
pub taken_part : (all : List Lexeme) (start at after : ℕ) (us : List Lexeme) → start ≤ at → at ≤ after → drop at all ≡ us ++ drop after all → take (after - start) (drop start all) ≡ take (at - start) (drop start all) ++ us
taken_part all start at after us le1 le2 h =
    let here : drop (at - start) (drop start all) ≡ drop at all = drop-drop (at - start) start all ∙ ap (λ n. drop n all) (let e : start + (at - start) ≡ at = omega arith in e) in
    let there : drop (after - start) (drop start all) ≡ drop after all = drop-drop (after - start) start all ∙ ap (λ n. drop n all) (let e : start + (after - start) ≡ after = omega arith in e) in
    let one : take (after - start) (drop start all) ++ drop after all ≡ drop start all = ap (λ z. take (after - start) (drop start all) ++ z) (sym there) ∙ take-append-drop (after - start) (drop start all) in
    let two : (take (at - start) (drop start all) ++ us) ++ drop after all ≡ drop start all =
    append_assoc (take (at - start) (drop start all)) us (drop after all) ∙ ap (λ z. take (at - start) (drop start all) ++ z) (sym h ∙ sym here) ∙ take-append-drop (at - start) (drop start all) in
    append_cancel_right _ _ (drop after all) (one ∙ sym two)

-- where a token does this outside of brackets
module _ (outside : Outside) where
  -- so far what stands before `at` is of the phrase, and so many choices are open
  abbrev pub PhraseSoFar : List Lexeme → ℕ → ℕ → ℕ → Type 0
  PhraseSoFar all start at n = with_all (take (at - start) (drop start all)) (read_by outside n [] (drop at all)) ≡ read_by outside 0 [] (drop start all)

  pub phrase_start : (all : List Lexeme) (start : ℕ) → PhraseSoFar all start start 0
  phrase_start all start = let e : start - start ≡ 0 = omega arith in rw e (with_none (read_by outside 0 [] (drop start all)))

  -- these tokens are of it too
  goes_further : (all : List Lexeme) (start at after n m : ℕ) (us : List Lexeme) → start ≤ at → at ≤ after → drop at all ≡ us ++ drop after all → read_by outside n [] (drop at all) ≡ with_all us (read_by outside m [] (drop after all)) →
      PhraseSoFar all start at n → PhraseSoFar all start after m
  goes_further all start at after n m us le1 le2 h g so_far =
      rw (taken_part all start at after us le1 le2 h)
      (sym (with_both (take (at - start) (drop start all)) us (read_by outside m [] (drop after all))) ∙ ap (with_all (take (at - start) (drop start all))) (sym g) ∙ so_far)

  one_with : (t : Lexeme) (r : Read (List Lexeme)) → with_one t r ≡ with_all (t ∷ []) r
  one_with t (Ok x) = refl
  one_with t (Err s) = refl

  -- one token
  pub token_of : (all : List Lexeme) (start at n m : ℕ) (t : Lexeme) → start ≤ at → drop at all ≡ t ∷ drop (at + 1) all → outside n t.terminal ≡ goes_on m [] → PhraseSoFar all start at n → PhraseSoFar all start (at + 1) m
  token_of all start at n m t le h g so_far =
      let step : read_by outside n [] (drop at all) ≡ with_all (t ∷ []) (read_by outside m [] (drop (at + 1) all)) = rw (h, g) (one_with t (read_by outside m [] (drop (at + 1) all))) in
      goes_further all start at (at + 1) n m (t ∷ []) le (omega arith) h step so_far

  -- a group
  pub group_of : (all : List Lexeme) (start at after n : ℕ) (t c : Lexeme) (k : Terminal) (a : List Lexeme) → start ≤ at → at ≤ after → drop at all ≡ t ∷ drop (at + 1) all → outside n t.terminal ≡ goes_on n (k ∷ []) →
      held_at k [] (drop (at + 1) all) ≡ Ok (a, c ∷ drop after all) → drop (at + 1) all ≡ a ++ c ∷ drop after all → PhraseSoFar all start at n → PhraseSoFar all start after n
  group_of all start at after n t c k a le1 le2 h g r parts so_far =
      let rest : Read (List Lexeme) = read_by outside n [] (drop after all) in
      let step : read_by outside n [] (drop at all) ≡ with_all (t ∷ a ++ c ∷ []) rest = rw (h, g) (ap (with_one t) (group_read outside n k (drop (at + 1) all) a c (drop after all) r) ∙ with_more t (a ++ c ∷ []) rest) in
      let whole : drop at all ≡ (t ∷ a ++ c ∷ []) ++ drop after all = h ∙ ap (λ z. t ∷ z) (parts ∙ sym (append_assoc a (c ∷ []) (drop after all))) in
      goes_further all start at after n n (t ∷ a ++ c ∷ []) le1 le2 whole step so_far

  pub group_fails : (all : List Lexeme) (start at n : ℕ) (t : Lexeme) (k : Terminal) (s : Stop) → drop at all ≡ t ∷ drop (at + 1) all → outside n t.terminal ≡ goes_on n (k ∷ []) →
      held_at k [] (drop (at + 1) all) ≡ Err s → PhraseSoFar all start at n → read_by outside 0 [] (drop start all) ≡ Err s
  group_fails all start at n t k s h g r so_far =
      let last : read_by outside n [] (drop at all) ≡ Err s = rw (h, g) (ap (with_one t) (group_stops outside n k (drop (at + 1) all) s r)) in
      sym so_far ∙ ap (with_all (take (at - start) (drop start all))) last

  -- the phrase ends
  pub phrase_ends : (all : List Lexeme) (start at n : ℕ) (t : Lexeme) → drop at all ≡ t ∷ drop (at + 1) all → outside n t.terminal ≡ ends → PhraseSoFar all start at n → read_by outside 0 [] (drop start all) ≡ Ok (take (at - start) (drop start all), drop at all)
  phrase_ends all start at n t h g so_far =
      let last : read_by outside n [] (drop at all) ≡ Ok ([], drop at all) = rw h (rw g refl) in
      sym so_far ∙ ap (with_all (take (at - start) (drop start all))) last ∙ ap (λ z. Ok (z, drop at all)) (append-nil (take (at - start) (drop start all)))

  pub phrase_mismatches : (all : List Lexeme) (start at n : ℕ) (t : Lexeme) → drop at all ≡ t ∷ drop (at + 1) all → outside n t.terminal ≡ mismatches → PhraseSoFar all start at n → read_by outside 0 [] (drop start all) ≡ Err (wrong (drop at all))
  phrase_mismatches all start at n t h g so_far =
      let last : read_by outside n [] (drop at all) ≡ Err (wrong (drop at all)) = rw h (rw g refl) in
      sym so_far ∙ ap (with_all (take (at - start) (drop start all))) last

-- where a token opens a bracket, it is closed by a terminal that closes something
no_colon_opens : (n m : ℕ) (k : Terminal) → goes_on m (k ∷ []) ≡ colon n → ⊥
no_colon_opens zero m k h = absurd cc
no_colon_opens (suc n) m k h = absurd cc

no_ending_opens : (n m : ℕ) (k : Terminal) → goes_on m (k ∷ []) ≡ ending n → ⊥
no_ending_opens zero m k h = absurd cc
no_ending_opens (suc n) m k h = absurd cc

opens_is : (n : ℕ) (j k : Terminal) → goes_on n (k ∷ []) ≡ turn_outside n j → (closing k ≡ None) × (closes_something k ≡ true)
opens_is n T.OpenParenthesis k h = let e : k ≡ T.CloseParenthesis = cc in rw e (refl, refl)
opens_is n T.OpenBracket k h = let e : k ≡ T.CloseBracket = cc in rw e (refl, refl)
opens_is n T.OpenBrace k h = let e : k ≡ T.CloseBrace = cc in rw e (refl, refl)
opens_is n T.Colon k h = absurd (no_colon_opens n n k h)
opens_is n T.Semicolon k h = absurd (no_ending_opens n n k h)
opens_is n T.CloseParenthesis k h = absurd (no_ending_opens n n k h)
opens_is n T.CloseBracket k h = absurd (no_ending_opens n n k h)
opens_is n T.CloseBrace k h = absurd (no_ending_opens n n k h)
opens_is n _ k h = absurd cc

-- a choice is closed only where one is open
answers_open : (n : ℕ) (j : Terminal) → answered n ≡ turn_outside n j → 0 < n
answers_open zero T.Colon h = absurd cc
answers_open zero T.Semicolon h = absurd cc
answers_open zero T.CloseParenthesis h = absurd cc
answers_open zero T.CloseBracket h = absurd cc
answers_open zero T.CloseBrace h = absurd cc
answers_open zero _ h = absurd cc
answers_open (suc n) j h = omega arith

pub answered_is : (n : ℕ) → 0 < n → answered n ≡ goes_on (n - 1) []
answered_is zero lt = absurd (omega arith)
answered_is (suc n) lt = let e : suc n - 1 ≡ n = omega arith in rw e refl

pub colon_answered : (n : ℕ) → 0 < n → answered n ≡ colon n
colon_answered zero lt = absurd (omega arith)
colon_answered (suc n) lt = refl

-- a comma makes no other difference than that it may end what is read
outside_is : (commas : Bool) (n : ℕ) (j : Terminal) → (outside_of commas n j ≡ turn_outside n j) ⊎ (outside_of commas n j ≡ ends)
outside_is false n j = inl refl
outside_is true zero T.Comma = inr refl
outside_is true zero _ = inl refl
outside_is true (suc n) j = inl refl

opens_so : (commas : Bool) (n : ℕ) (j k : Terminal) → goes_on n (k ∷ []) ≡ outside_of commas n j → (closing k ≡ None) × (closes_something k ≡ true)
opens_so commas n j k h = by (outside_is commas n j)
  where
    by : (outside_of commas n j ≡ turn_outside n j) ⊎ (outside_of commas n j ≡ ends) → (closing k ≡ None) × (closes_something k ≡ true)
    by (inl e) = opens_is n j k (h ∙ e)
    by (inr e) = let z : goes_on n (k ∷ []) ≡ ends = h ∙ e in absurd cc

pub answers_so : (commas : Bool) (n : ℕ) (j : Terminal) → answered n ≡ outside_of commas n j → 0 < n
answers_so commas n j h = by (outside_is commas n j)
  where
    never : (n : ℕ) → answered n ≡ ends → ⊥
    never zero g = absurd cc
    never (suc n) g = absurd cc

    by : (outside_of commas n j ≡ turn_outside n j) ⊎ (outside_of commas n j ≡ ends) → 0 < n
    by (inl e) = answers_open n j (h ∙ e)
    by (inr e) = absurd (never n (h ∙ e))

-- where a comma ends it or not
module _ (commas : Bool) where
  -- a bracket that isn't closed as it should be
  pub group_err : (e : Fault) (all : List Lexeme) (start at n : ℕ) (t : Lexeme) (k : Terminal) → drop at all ≡ t ∷ drop (at + 1) all → goes_on n (k ∷ []) ≡ outside_of commas n t.terminal →
      IsFaultOf all e (closed_at k (held_up_to k) (drop (at + 1) all)) → PhraseSoFar (outside_of commas) all start at n → IsFaultOf all e (read_by (outside_of commas) 0 [] (drop start all))
  group_err e all start at n t k h g f so_far =
      passes_on e all (closed_at k (held_up_to k) (drop (at + 1) all)) (read_by (outside_of commas) 0 [] (drop start all)) (λ st q. group_fails (outside_of commas) all start at n t k st h (sym g) (closed_stops k (drop (at + 1) all) st q) so_far) f

  -- one that is
  pub record Grouped (all : List Lexeme) (start at after n : ℕ) : Type 0 where
    pub further : at < after
    pub so_far : PhraseSoFar (outside_of commas) all start after n

  pub group_read_of : (all : List Lexeme) (start at after n : ℕ) (t : Lexeme) (k : Terminal) (a : List Lexeme) → start ≤ at → at < length all → drop at all ≡ t ∷ drop (at + 1) all → goes_on n (k ∷ []) ≡ outside_of commas n t.terminal →
      closed_at k (held_up_to k) (drop (at + 1) all) ≡ Ok (a, drop after all) → PhraseSoFar (outside_of commas) all start at n → Grouped all start at after n
  group_read_of all start at after n t k a le lt h g r so_far =
      let o = opens_so commas n t.terminal k g in
      let w = closed_is k (drop (at + 1) all) a (drop after all) o.0 o.1 r in
      let more : at < after = behind_group all a w.0 at after lt w.2 in
      record { further = more; so_far = group_of (outside_of commas) all start at after n t w.0 k a le (omega arith) h (sym g) w.1 w.2 so_far }

  -- where the tokens end
  pub phrase_over : (all : List Lexeme) (start at : ℕ) → drop at all ≡ [] → PhraseSoFar (outside_of commas) all start at 0 → read_by (outside_of commas) 0 [] (drop start all) ≡ Ok (take (at - start) (drop start all), drop at all)
  phrase_over all start at h so_far =
      let last : read_by (outside_of commas) 0 [] (drop at all) ≡ Ok ([], drop at all) = rw h refl in
      sym so_far ∙ ap (with_all (take (at - start) (drop start all))) last ∙ ap (λ z. Ok (z, drop at all)) (append-nil (take (at - start) (drop start all)))

  pub phrase_open : (all : List Lexeme) (start at n : ℕ) → 0 < n → drop at all ≡ [] → PhraseSoFar (outside_of commas) all start at n → read_by (outside_of commas) 0 [] (drop start all) ≡ Err (wrong (drop at all))
  phrase_open all start at zero lt h so_far = absurd (omega arith)
  phrase_open all start at (suc n) lt h so_far =
      let last : read_by (outside_of commas) (suc n) [] (drop at all) ≡ Err (wrong (drop at all)) = rw h refl in
      sym so_far ∙ ap (with_all (take (at - start) (drop start all))) last
