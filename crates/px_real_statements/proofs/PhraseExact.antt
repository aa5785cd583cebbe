-- What is read of a phrase is one, and all of it.
use Rattle.std.proofs.Common.{◌≡◌, ℕ, zero, suc, true, false, Bool, if◌then◌else◌, List, [], ◌∷◌, ◌++◌, Option, Some, None, Ok, refl, ap, sym, subst, ◌∙◌, append_assoc}
use Rattle.std.proofs.lemmas.List.{append-nil}
use Rattle.px_real_expressions.specs.declared.terminal.Terminal.{Terminal}
use Rattle.px_real_expressions.specs.declared.terminal.Terminal.TheVariants as T
use Rattle.px_real_expressions.specs.Lexemes.{Lexeme, same}
use Rattle.px_real_expressions.specs.Held.{closing, closes_something, Balanced, no_token as no_held, a_plain as a_held, a_group as a_held_group, with_one}
use Rattle.px_real_expressions.proofs.Tools.{done, both_are, same_is, same_self, Exact}
use Rattle.px_real_expressions.proofs.HeldExact.{ClosedBy, with_all, with_none, with_more, with_both, closes_is, one_is}
use Rattle.px_real_statements.specs.Phrases.{is_loose, Phrase, no_token, a_plain, a_group, a_choice}
use Rattle.px_real_statements.specs.PhraseReading.{goes_on, ends, mismatches, ending, colon, turn_outside, turn_within, after_turn, phrase_end, phrase_from, phrase_at}

-- ---- all of a phrase is read

-- a token that closes the bracket that was opened last
closes_step : (n : ℕ) (k : Terminal) (ks : List Terminal) (c : Lexeme) (ts : List Lexeme) → c.terminal ≡ k → closing k ≡ None → closes_something k ≡ true →
    phrase_from n (k ∷ ks) (c ∷ ts) ≡ with_one c (phrase_from n ks ts)
closes_step n k ks c ts h o s = rw (h, o, s, same_self k) refl

-- what stands within brackets is passed over
passes_within : {us : List Lexeme} (n : ℕ) (k : Terminal) (ks : List Terminal) (ts : List Lexeme) → Balanced us → phrase_from n (k ∷ ks) (us ++ ts) ≡ with_all us (phrase_from n (k ∷ ks) ts)
passes_within n k ks ts (no_held h) = rw h (sym (with_none (phrase_from n (k ∷ ks) ts)))
passes_within n k ks ts (a_held {t = t} {ts1 = ts1} o s m parts) =
    rw (parts, o, s) (ap (with_one t) (passes_within n k ks ts m) ∙ with_more t ts1 (phrase_from n (k ∷ ks) ts))
passes_within n k ks ts (a_held_group {o = o} c {k = c1} {ts1 = ts1} {ts2 = ts2} h m kc m2 parts) =
    let e = closes_is o.terminal c1 h in
    let one : phrase_from n (c1 ∷ k ∷ ks) (ts1 ++ (c ∷ ts2 ++ ts)) ≡ with_all ts1 (phrase_from n (c1 ∷ k ∷ ks) (c ∷ ts2 ++ ts)) = passes_within n c1 (k ∷ ks) (c ∷ ts2 ++ ts) m in
    let two : phrase_from n (c1 ∷ k ∷ ks) (c ∷ ts2 ++ ts) ≡ with_one c (phrase_from n (k ∷ ks) (ts2 ++ ts)) = closes_step n c1 (k ∷ ks) c (ts2 ++ ts) kc e.0 e.1 in
    let three : phrase_from n (k ∷ ks) (ts2 ++ ts) ≡ with_all ts2 (phrase_from n (k ∷ ks) ts) = passes_within n k ks ts m2 in
    rw (parts, append_assoc ts1 (c ∷ ts2) ts, h)
    (ap (with_one o) (one ∙ ap (with_all ts1) (two ∙ ap (with_one c) three ∙ with_more c ts2 (phrase_from n (k ∷ ks) ts)) ∙ with_both ts1 (c ∷ ts2) (phrase_from n (k ∷ ks) ts))
    ∙ with_more o (ts1 ++ c ∷ ts2) (phrase_from n (k ∷ ks) ts))

-- what a token does outside of brackets
loose_turn : (n : ℕ) (k : Terminal) → is_loose k ≡ true → turn_outside n k ≡ goes_on n []
loose_turn n T.OpenParenthesis h = absurd cc
loose_turn n T.CloseParenthesis h = absurd cc
loose_turn n T.OpenBracket h = absurd cc
loose_turn n T.CloseBracket h = absurd cc
loose_turn n T.OpenBrace h = absurd cc
loose_turn n T.CloseBrace h = absurd cc
loose_turn n T.Question h = absurd cc
loose_turn n T.Colon h = absurd cc
loose_turn n T.Semicolon h = absurd cc
loose_turn n _ h = refl

opening_turn : (n : ℕ) (k c : Terminal) → closing k ≡ Some c → turn_outside n k ≡ goes_on n (c ∷ [])
opening_turn n T.OpenParenthesis c h = let e : T.CloseParenthesis ≡ c = cc in rw (← e) refl
opening_turn n T.OpenBracket c h = let e : T.CloseBracket ≡ c = cc in rw (← e) refl
opening_turn n T.OpenBrace c h = let e : T.CloseBrace ≡ c = cc in rw (← e) refl
opening_turn n _ c h = absurd cc

question_step : (n : ℕ) (q : Lexeme) (ts : List Lexeme) → q.terminal ≡ T.Question → phrase_from n [] (q ∷ ts) ≡ with_one q (phrase_from (suc n) [] ts)
question_step n q ts h = rw h refl

colon_step : (n : ℕ) (c : Lexeme) (ts : List Lexeme) → c.terminal ≡ T.Colon → phrase_from (suc n) [] (c ∷ ts) ≡ with_one c (phrase_from n [] ts)
colon_step n c ts h = rw h refl

-- a phrase is passed over, however many choices are open
pub passes : {us : List Lexeme} (n : ℕ) (ts : List Lexeme) → Phrase us → phrase_from n [] (us ++ ts) ≡ with_all us (phrase_from n [] ts)
passes n ts (no_token h) = rw h (sym (with_none (phrase_from n [] ts)))
passes n ts (a_plain {t = t} {ts1 = ts1} s m parts) =
    rw (parts, loose_turn n t.terminal s) (ap (with_one t) (passes n ts m) ∙ with_more t ts1 (phrase_from n [] ts))
passes n ts (a_group {o = o} c {k = k} {ts1 = ts1} {ts2 = ts2} h m kc m2 parts) =
    let e = closes_is o.terminal k h in
    let one : phrase_from n (k ∷ []) (ts1 ++ (c ∷ ts2 ++ ts)) ≡ with_all ts1 (phrase_from n (k ∷ []) (c ∷ ts2 ++ ts)) = passes_within n k [] (c ∷ ts2 ++ ts) m in
    let two : phrase_from n (k ∷ []) (c ∷ ts2 ++ ts) ≡ with_one c (phrase_from n [] (ts2 ++ ts)) = closes_step n k [] c (ts2 ++ ts) kc e.0 e.1 in
    let three : phrase_from n [] (ts2 ++ ts) ≡ with_all ts2 (phrase_from n [] ts) = passes n ts m2 in
    rw (parts, append_assoc ts1 (c ∷ ts2) ts, opening_turn n o.terminal k h)
    (ap (with_one o) (one ∙ ap (with_all ts1) (two ∙ ap (with_one c) three ∙ with_more c ts2 (phrase_from n [] ts)) ∙ with_both ts1 (c ∷ ts2) (phrase_from n [] ts))
    ∙ with_more o (ts1 ++ c ∷ ts2) (phrase_from n [] ts))
passes n ts (a_choice {q = q} c {ts1 = ts1} {ts2 = ts2} h m kc m2 parts) =
    let one : phrase_from (suc n) [] (ts1 ++ (c ∷ ts2 ++ ts)) ≡ with_all ts1 (phrase_from (suc n) [] (c ∷ ts2 ++ ts)) = passes (suc n) (c ∷ ts2 ++ ts) m in
    let two : phrase_from (suc n) [] (c ∷ ts2 ++ ts) ≡ with_one c (phrase_from n [] (ts2 ++ ts)) = colon_step n c (ts2 ++ ts) kc in
    let three : phrase_from n [] (ts2 ++ ts) ≡ with_all ts2 (phrase_from n [] ts) = passes n ts m2 in
    rw (parts, append_assoc ts1 (c ∷ ts2) ts)
    (question_step n q (ts1 ++ (c ∷ ts2 ++ ts)) h
    ∙ ap (with_one q) (one ∙ ap (with_all ts1) (two ∙ ap (with_one c) three ∙ with_more c ts2 (phrase_from n [] ts)) ∙ with_both ts1 (c ∷ ts2) (phrase_from n [] ts))
    ∙ with_more q (ts1 ++ c ∷ ts2) (phrase_from n [] ts))

-- ---- what is read is a phrase

-- what is still to be read, where so many choices and these brackets are open
data Left : ℕ → List Terminal → List Lexeme → Type 0 where
  all_closed : {n : ℕ} {ks : List Terminal} {ts : List Lexeme} → n ≡ 0 → ks ≡ [] → Phrase ts → Left n ks ts
  choice_closes : {n m : ℕ} {ks : List Terminal} {ts1 ts2 ts : List Lexeme} (c : Lexeme) → n ≡ suc m → ks ≡ [] → Phrase ts1 → c.terminal ≡ T.Colon → Left m [] ts2 → ts ≡ ts1 ++ c ∷ ts2 → Left n ks ts
  bracket_closes : {n : ℕ} {k : Terminal} {ks ks1 : List Terminal} {ts1 ts2 ts : List Lexeme} (c : Lexeme) → ks ≡ k ∷ ks1 → Balanced ts1 → c.terminal ≡ k → Left n ks1 ts2 → ts ≡ ts1 ++ c ∷ ts2 → Left n ks ts

-- these tokens, and then a phrase
record Before (us : List Lexeme) : Type 0 where
  pub phrase : (vs : List Lexeme) → Phrase vs → Phrase (us ++ vs)

-- such tokens before what is still to be read outside of brackets
before_left : {n : ℕ} {ks : List Terminal} {us vs : List Lexeme} → Before us → ks ≡ [] → Left n ks vs → Left n ks (us ++ vs)
before_left {vs = vs} b e (all_closed z n p) = all_closed z n (b.phrase vs p)
before_left {us = us} b e (choice_closes {ts1 = ts1} {ts2 = ts2} c z n p kc l parts) =
    choice_closes {ts1 = us ++ ts1} {ts2 = ts2} c z n (b.phrase ts1 p) kc l (ap (λ x. us ++ x) parts ∙ sym (append_assoc us ts1 (c ∷ ts2)))
before_left b e (bracket_closes c n m kc l parts) = absurd (let x = sym e ∙ n in cc)

-- a bracket that is closed, and what is still to be read behind it
group_left : {n : ℕ} {js ks : List Terminal} {us : List Lexeme} (o : Lexeme) (c1 : Terminal) → closing o.terminal ≡ Some c1 → js ≡ c1 ∷ [] → ks ≡ [] → Left n js us → Left n ks (o ∷ us)
group_left o c1 h j e (all_closed z n p) = absurd (let x = sym j ∙ n in cc)
group_left o c1 h j e (choice_closes c z n p kc l parts) = absurd (let x = sym j ∙ n in cc)
group_left {n = n} {ks = ks} {us = us} o c1 h j e (bracket_closes {k = k} {ks1 = ks1} {ts1 = ts1} {ts2 = ts2} c n1 m kc l parts) =
    let heads : k ≡ c1 = cc in
    let tails : ks1 ≡ [] = cc in
    let b : Before (o ∷ ts1 ++ c ∷ []) = record { phrase = λ vs p. a_group c h m (kc ∙ heads) p (ap (λ z. o ∷ z) (append_assoc ts1 (c ∷ []) vs)) } in
    let all : Left n [] ((o ∷ ts1 ++ c ∷ []) ++ ts2) = before_left b refl (subst (λ z. Left n z ts2) tails l) in
    subst (λ z. Left n z (o ∷ us)) (sym e) (subst (Left n []) (ap (λ z. o ∷ z) (append_assoc ts1 (c ∷ []) ts2 ∙ sym parts)) all)

-- a choice that is closed, and what is still to be read behind it
choice_left : {n m : ℕ} {js : List Terminal} {us : List Lexeme} (q : Lexeme) → q.terminal ≡ T.Question → m ≡ suc n → js ≡ [] → Left m js us → Left n [] (q ∷ us)
choice_left q h j e (all_closed z n p) = absurd (let x = sym j ∙ z in cc)
choice_left {n = n} q h j e (choice_closes {m = m1} {ts1 = ts1} {ts2 = ts2} c z n1 p kc l parts) =
    let less : m1 ≡ n = cc in
    let b : Before (q ∷ ts1 ++ c ∷ []) = record { phrase = λ vs p2. a_choice c h p kc p2 (ap (λ z. q ∷ z) (append_assoc ts1 (c ∷ []) vs)) } in
    let all : Left n [] ((q ∷ ts1 ++ c ∷ []) ++ ts2) = before_left b refl (subst (λ z. Left z [] ts2) less l) in
    subst (Left n []) (ap (λ z. q ∷ z) (append_assoc ts1 (c ∷ []) ts2 ∙ sym parts)) all
choice_left q h j e (bracket_closes c n m kc l parts) = absurd (let x = sym e ∙ n in cc)

-- the same within brackets
plain_within : {n : ℕ} {ks : List Terminal} {us : List Lexeme} (t : Lexeme) (k : Terminal) (ks1 : List Terminal) → closing t.terminal ≡ None → closes_something t.terminal ≡ false → ks ≡ k ∷ ks1 → Left n ks us → Left n ks (t ∷ us)
plain_within t k ks1 o s e (all_closed z n p) = absurd (let x = sym e ∙ n in cc)
plain_within t k ks1 o s e (choice_closes c z n p kc l parts) = absurd (let x = sym e ∙ n in cc)
plain_within t k ks1 o s e (bracket_closes {ts1 = ts1} c n m kc l parts) = bracket_closes {ts1 = t ∷ ts1} c n (a_held o s m refl) kc l (ap (λ z. t ∷ z) parts)

group_within : {n : ℕ} {js : List Terminal} {us : List Lexeme} (o : Lexeme) (c1 k : Terminal) (ks : List Terminal) → closing o.terminal ≡ Some c1 → js ≡ c1 ∷ k ∷ ks → Left n js us → Left n (k ∷ ks) (o ∷ us)
group_within o c1 k ks h j (all_closed z n p) = absurd (let x = sym j ∙ n in cc)
group_within o c1 k ks h j (choice_closes c z n p kc l parts) = absurd (let x = sym j ∙ n in cc)
group_within {n = n} {us = us} o c1 k ks h j (bracket_closes {k = k1} {ks1 = ks1} {ts1 = ts1} {ts2 = ts2} c n1 m kc l parts) =
    let heads : k1 ≡ c1 = cc in
    let tails : ks1 ≡ k ∷ ks = cc in
    behind (subst (λ z. Left n z ts2) tails l) refl (kc ∙ heads)
  where
    behind : {js : List Terminal} → Left n js ts2 → js ≡ k ∷ ks → c.terminal ≡ c1 → Left n (k ∷ ks) (o ∷ us)
    behind (all_closed z n2 p) e kd = absurd (let x = sym e ∙ n2 in cc)
    behind (choice_closes d z n2 p kd1 l1 parts1) e kd = absurd (let x = sym e ∙ n2 in cc)
    behind (bracket_closes {ts1 = us1} {ts2 = us2} d n2 m2 kd1 l1 parts1) e kd =
        bracket_closes {ts1 = o ∷ ts1 ++ c ∷ us1} d (sym e ∙ n2) (a_held_group c h m kd m2 refl) kd1 l1
        (ap (λ z. o ∷ z) (parts ∙ ap (λ z. ts1 ++ c ∷ z) parts1 ∙ sym (append_assoc ts1 (c ∷ us1) (d ∷ us2))))

-- what was read, and what follows it
record IsLeft (n : ℕ) (ks : List Terminal) (ts a rest : List Lexeme) : Type 0 where
  pub left : Left n ks a
  pub parts : ts ≡ a ++ rest

-- what is read of the tokens behind the first
abbrev Behind : List Lexeme → List Lexeme → Type 0
Behind ts rest = (n : ℕ) (ks : List Terminal) (a : List Lexeme) → phrase_from n ks ts ≡ Ok (a, rest) → IsLeft n ks ts a rest

-- it goes on
goes_is : (n m : ℕ) (ks js : List Terminal) (t : Lexeme) (ts a rest : List Lexeme) → Behind ts rest → ((us : List Lexeme) → Left m js us → Left n ks (t ∷ us)) → with_one t (phrase_from m js ts) ≡ Ok (a, rest) → IsLeft n ks (t ∷ ts) a rest
goes_is n m ks js t ts a rest next more h =
    let one = one_is t (phrase_from m js ts) a rest h in
    let w = next m js one.0 one.1 in
    record { left = subst (Left n ks) (sym one.2) (more one.0 w.left); parts = ap (λ z. t ∷ z) w.parts ∙ ap (λ z. z ++ rest) (sym one.2) }

ends_is : (t : Lexeme) (ts a rest : List Lexeme) → done [] (t ∷ ts) ≡ done a rest → IsLeft 0 [] (t ∷ ts) a rest
ends_is t ts a rest h =
    let q = both_are [] a (t ∷ ts) rest h in
    record { left = subst (Left 0 []) q.0 (all_closed refl refl (no_token refl)); parts = q.1 ∙ ap (λ z. z ++ rest) q.0 }

ending_is : (n : ℕ) (t : Lexeme) (ts a rest : List Lexeme) → after_turn (ending n) t ts (λ m js. phrase_from m js ts) ≡ Ok (a, rest) → IsLeft n [] (t ∷ ts) a rest
ending_is zero t ts a rest h = ends_is t ts a rest h
ending_is (suc n) t ts a rest h = absurd cc

colon_is : (n : ℕ) (t : Lexeme) (ts a rest : List Lexeme) → t.terminal ≡ T.Colon → Behind ts rest → after_turn (colon n) t ts (λ m js. phrase_from m js ts) ≡ Ok (a, rest) → IsLeft n [] (t ∷ ts) a rest
colon_is zero t ts a rest k next h = ends_is t ts a rest h
colon_is (suc n) t ts a rest k next h = goes_is (suc n) n [] [] t ts a rest next (λ us l. choice_closes {ts1 = []} {ts2 = us} t refl refl (no_token refl) k l refl) h

plain_before : (t : Lexeme) → is_loose t.terminal ≡ true → Before (t ∷ [])
plain_before t h = record { phrase = λ vs p. a_plain h p refl }

outside_is : (k : Terminal) (n : ℕ) (t : Lexeme) (ts a rest : List Lexeme) → t.terminal ≡ k → Behind ts rest → after_turn (turn_outside n k) t ts (λ m js. phrase_from m js ts) ≡ Ok (a, rest) → IsLeft n [] (t ∷ ts) a rest
outside_is T.OpenParenthesis n t ts a rest k next h = goes_is n n [] (T.CloseParenthesis ∷ []) t ts a rest next (λ us l. group_left t T.CloseParenthesis (ap closing k) refl refl l) h
outside_is T.OpenBracket n t ts a rest k next h = goes_is n n [] (T.CloseBracket ∷ []) t ts a rest next (λ us l. group_left t T.CloseBracket (ap closing k) refl refl l) h
outside_is T.OpenBrace n t ts a rest k next h = goes_is n n [] (T.CloseBrace ∷ []) t ts a rest next (λ us l. group_left t T.CloseBrace (ap closing k) refl refl l) h
outside_is T.Question n t ts a rest k next h = goes_is n (suc n) [] [] t ts a rest next (λ us l. choice_left t k refl refl l) h
outside_is T.Colon n t ts a rest k next h = colon_is n t ts a rest k next h
outside_is T.Semicolon n t ts a rest k next h = ending_is n t ts a rest h
outside_is T.CloseParenthesis n t ts a rest k next h = ending_is n t ts a rest h
outside_is T.CloseBracket n t ts a rest k next h = ending_is n t ts a rest h
outside_is T.CloseBrace n t ts a rest k next h = ending_is n t ts a rest h
outside_is _ n t ts a rest k next h = goes_is n n [] [] t ts a rest next (λ us l. before_left (plain_before t (ap is_loose k)) refl l) h

within_is : (o : Option Terminal) (n : ℕ) (k : Terminal) (ks : List Terminal) (t : Lexeme) (ts a rest : List Lexeme) → closing t.terminal ≡ o → Behind ts rest →
    after_turn (turn_within o n k ks t.terminal) t ts (λ m js. phrase_from m js ts) ≡ Ok (a, rest) → IsLeft n (k ∷ ks) (t ∷ ts) a rest
within_is (Some c) n k ks t ts a rest e next h = goes_is n n (k ∷ ks) (c ∷ k ∷ ks) t ts a rest next (λ us l. group_within t c k ks e refl l) h
within_is None n k ks t ts a rest e next h = by (closes_something t.terminal) (same t.terminal k) refl refl h
  where
    by : (b s : Bool) → closes_something t.terminal ≡ b → same t.terminal k ≡ s →
        after_turn (if b then (if s then goes_on n ks else mismatches) else goes_on n (k ∷ ks)) t ts (λ m js. phrase_from m js ts) ≡ Ok (a, rest) → IsLeft n (k ∷ ks) (t ∷ ts) a rest
    by true true f g h = goes_is n n (k ∷ ks) ks t ts a rest next (λ us l. bracket_closes {ts1 = []} {ts2 = us} t refl (no_held refl) (same_is t.terminal k g) l refl) h
    by true false f g h = absurd cc
    by false s f g h = goes_is n n (k ∷ ks) (k ∷ ks) t ts a rest next (λ us l. plain_within t k ks e f refl l) h

end_is : (n : ℕ) (ks : List Terminal) (a rest : List Lexeme) → phrase_end n ks ≡ Ok (a, rest) → IsLeft n ks [] a rest
end_is zero [] a rest h =
    let q = both_are [] a [] rest h in
    record { left = subst (Left 0 []) q.0 (all_closed refl refl (no_token refl)); parts = q.1 ∙ ap (λ z. z ++ rest) q.0 }
end_is zero (k ∷ ks) a rest h = absurd cc
end_is (suc n) ks a rest h = absurd cc

left_is : (n : ℕ) (ks : List Terminal) (ts a rest : List Lexeme) → phrase_from n ks ts ≡ Ok (a, rest) → IsLeft n ks ts a rest
left_is n ks [] a rest h = end_is n ks a rest h
left_is n [] (t ∷ ts) a rest h = outside_is t.terminal n t ts a rest refl (λ m js a1 g. left_is m js ts a1 rest g) h
left_is n (k ∷ ks) (t ∷ ts) a rest h = within_is (closing t.terminal) n k ks t ts a rest refl (λ m js a1 g. left_is m js ts a1 rest g) h

phrase_is : {n : ℕ} {ks : List Terminal} {a : List Lexeme} → Left n ks a → n ≡ 0 → ks ≡ [] → Phrase a
phrase_is (all_closed z n p) e f = p
phrase_is (choice_closes c z n p kc l parts) e f = absurd (let x = sym e ∙ z in cc)
phrase_is (bracket_closes c n m kc l parts) e f = absurd (let x = sym f ∙ n in cc)

-- a phrase, held
pub data IsPhrase : List Lexeme → List Lexeme → Type 0 where
  is_phrase : {ts a : List Lexeme} → Phrase ts → a ≡ ts → IsPhrase ts a

phrase_there : (k : Terminal) → turn_outside 0 k ≡ ends → (ts a rest : List Lexeme) → IsPhrase ts a → ClosedBy k rest → phrase_at (ts ++ rest) ≡ Ok (a, rest)
unfolding phrase_at
phrase_there k e ts a rest (is_phrase p g) (c, us, f, kc) =
    let last : phrase_from 0 [] (c ∷ us) ≡ done [] (c ∷ us) = rw (kc, e) refl in
    rw (g, f) (passes 0 (c ∷ us) p ∙ ap (with_all ts) last ∙ ap (λ z. done z (c ∷ us)) (append-nil ts))

pub phrase_exact : (k : Terminal) → turn_outside 0 k ≡ ends → Exact IsPhrase phrase_at (ClosedBy k)
unfolding phrase_at
phrase_exact k e = record {
  sound = λ ts a rest h. let w = left_is 0 [] ts a rest h in record { front = a; is = is_phrase (phrase_is w.left refl refl) refl; parts = w.parts };
  complete = phrase_there k e;
}
