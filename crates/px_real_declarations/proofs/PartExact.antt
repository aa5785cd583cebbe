-- What is read up to a comma is a part, and all of it.
use Rattle.std.proofs.Common.{◌≡◌, ℕ, zero, suc, Bool, true, false, if◌then◌else◌, List, [], ◌∷◌, ◌++◌, Option, Some, None, Ok, Err, refl, ap, sym, ◌∙◌, append_assoc}
use Rattle.std.proofs.lemmas.List.{append-nil, append_cancel_left}
use Rattle.px_real_expressions.specs.declared.terminal.Terminal.{Terminal}
use Rattle.px_real_expressions.specs.declared.terminal.Terminal.TheVariants as T
use Rattle.px_real_expressions.specs.Lexemes.{Lexeme, same}
use Rattle.px_real_expressions.specs.Held.{closing, closes_something, Balanced, no_token as no_held, a_plain as a_held, a_group as a_held_group, with_one}
use Rattle.px_real_expressions.proofs.Tools.{done, both_are, same_self, Exact}
use Rattle.px_real_expressions.proofs.HeldExact.{Held, with_all, with_none, with_more, with_both, closes_is, one_is}
use Rattle.px_real_statements.specs.Phrases.{is_loose, Phrase}
use Rattle.px_real_statements.specs.Phrases as P
use Rattle.px_real_statements.specs.PhraseReading.{Turn, goes_on, ends, mismatches, turn_outside, turn_within, turn_bare, turn_by, turn, after_turn, phrase_end, phrase_from, phrase_at, part_from, part_at}
use Rattle.px_real_statements.proofs.PhraseExact.{IsPhrase, is_phrase, phrase_exact}
use Rattle.px_real_declarations.specs.Parts.{is_part, Part, no_token, a_plain, a_group, a_choice}

-- ---- all of a part is read

-- a token that closes the bracket that was opened last
closes_step : (n : ℕ) (k : Terminal) (ks : List Terminal) (c : Lexeme) (ts : List Lexeme) → c.terminal ≡ k → closing k ≡ None → closes_something k ≡ true →
    part_from n (k ∷ ks) (c ∷ ts) ≡ with_one c (part_from n ks ts)
closes_step n k ks c ts h o s = rw (h, o, s, same_self k) refl

-- what stands within brackets is passed over
passes_within : {us : List Lexeme} (n : ℕ) (k : Terminal) (ks : List Terminal) (ts : List Lexeme) → Balanced us → part_from n (k ∷ ks) (us ++ ts) ≡ with_all us (part_from n (k ∷ ks) ts)
passes_within n k ks ts (no_held h) = rw h (sym (with_none (part_from n (k ∷ ks) ts)))
passes_within n k ks ts (a_held {t = t} {ts1 = ts1} o s m parts) =
    rw (parts, o, s) (ap (with_one t) (passes_within n k ks ts m) ∙ with_more t ts1 (part_from n (k ∷ ks) ts))
passes_within n k ks ts (a_held_group {o = o} c {k = c1} {ts1 = ts1} {ts2 = ts2} h m kc m2 parts) =
    let e = closes_is o.terminal c1 h in
    let one : part_from n (c1 ∷ k ∷ ks) (ts1 ++ (c ∷ ts2 ++ ts)) ≡ with_all ts1 (part_from n (c1 ∷ k ∷ ks) (c ∷ ts2 ++ ts)) = passes_within n c1 (k ∷ ks) (c ∷ ts2 ++ ts) m in
    let two : part_from n (c1 ∷ k ∷ ks) (c ∷ ts2 ++ ts) ≡ with_one c (part_from n (k ∷ ks) (ts2 ++ ts)) = closes_step n c1 (k ∷ ks) c (ts2 ++ ts) kc e.0 e.1 in
    let three : part_from n (k ∷ ks) (ts2 ++ ts) ≡ with_all ts2 (part_from n (k ∷ ks) ts) = passes_within n k ks ts m2 in
    rw (parts, append_assoc ts1 (c ∷ ts2) ts, h)
    (ap (with_one o) (one ∙ ap (with_all ts1) (two ∙ ap (with_one c) three ∙ with_more c ts2 (part_from n (k ∷ ks) ts)) ∙ with_both ts1 (c ∷ ts2) (part_from n (k ∷ ks) ts))
    ∙ with_more o (ts1 ++ c ∷ ts2) (part_from n (k ∷ ks) ts))

-- what a token does outside of brackets where a choice is open
choice_turn : (n : ℕ) (k : Terminal) → is_loose k ≡ true → turn_bare (suc n) k ≡ goes_on (suc n) []
choice_turn n T.OpenParenthesis h = absurd cc
choice_turn n T.CloseParenthesis h = absurd cc
choice_turn n T.OpenBracket h = absurd cc
choice_turn n T.CloseBracket h = absurd cc
choice_turn n T.OpenBrace h = absurd cc
choice_turn n T.CloseBrace h = absurd cc
choice_turn n T.Question h = absurd cc
choice_turn n T.Colon h = absurd cc
choice_turn n T.Semicolon h = absurd cc
choice_turn n _ h = refl

-- the same where no choice is open
part_turn : (k : Terminal) → is_part k ≡ true → turn_bare 0 k ≡ goes_on 0 []
part_turn T.OpenParenthesis h = absurd cc
part_turn T.CloseParenthesis h = absurd cc
part_turn T.OpenBracket h = absurd cc
part_turn T.CloseBracket h = absurd cc
part_turn T.OpenBrace h = absurd cc
part_turn T.CloseBrace h = absurd cc
part_turn T.Question h = absurd cc
part_turn T.Colon h = absurd cc
part_turn T.Semicolon h = absurd cc
part_turn T.Comma h = absurd cc
part_turn _ h = refl

opening_turn : (n : ℕ) (k c : Terminal) → closing k ≡ Some c → turn_bare n k ≡ goes_on n (c ∷ [])
opening_turn zero T.OpenParenthesis c h = let e : T.CloseParenthesis ≡ c = cc in rw (← e) refl
opening_turn zero T.OpenBracket c h = let e : T.CloseBracket ≡ c = cc in rw (← e) refl
opening_turn zero T.OpenBrace c h = let e : T.CloseBrace ≡ c = cc in rw (← e) refl
opening_turn zero _ c h = absurd cc
opening_turn (suc n) T.OpenParenthesis c h = let e : T.CloseParenthesis ≡ c = cc in rw (← e) refl
opening_turn (suc n) T.OpenBracket c h = let e : T.CloseBracket ≡ c = cc in rw (← e) refl
opening_turn (suc n) T.OpenBrace c h = let e : T.CloseBrace ≡ c = cc in rw (← e) refl
opening_turn (suc n) _ c h = absurd cc

-- a bracket and what closes it
group_step : (n : ℕ) (o c : Lexeme) (k : Terminal) (us ts : List Lexeme) → closing o.terminal ≡ Some k → Balanced us → c.terminal ≡ k → part_from n [] (o ∷ us ++ c ∷ ts) ≡ with_all (o ∷ us ++ c ∷ []) (part_from n [] ts)
group_step n o c k us ts h m kc =
    let e = closes_is o.terminal k h in
    let r : Held = part_from n [] ts in
    let one : part_from n (k ∷ []) (us ++ c ∷ ts) ≡ with_all us (part_from n (k ∷ []) (c ∷ ts)) = passes_within n k [] (c ∷ ts) m in
    let two : part_from n (k ∷ []) (c ∷ ts) ≡ with_all (c ∷ []) r = closes_step n k [] c ts kc e.0 e.1 in
    rw (opening_turn n o.terminal k h) (ap (with_one o) (one ∙ ap (with_all us) two ∙ with_both us (c ∷ []) r) ∙ with_more o (us ++ c ∷ []) r)

question_step : (n : ℕ) (q : Lexeme) (ts : List Lexeme) → q.terminal ≡ T.Question → part_from n [] (q ∷ ts) ≡ with_one q (part_from (suc n) [] ts)
question_step zero q ts h = rw h refl
question_step (suc n) q ts h = rw h refl

colon_step : (n : ℕ) (c : Lexeme) (ts : List Lexeme) → c.terminal ≡ T.Colon → part_from (suc n) [] (c ∷ ts) ≡ with_all (c ∷ []) (part_from n [] ts)
colon_step n c ts h = rw h refl

-- a choice up to its colon, where what stands between is passed over
choice_step : (n : ℕ) (q c : Lexeme) (us ts : List Lexeme) → q.terminal ≡ T.Question → part_from (suc n) [] (us ++ c ∷ ts) ≡ with_all us (part_from (suc n) [] (c ∷ ts)) → c.terminal ≡ T.Colon →
    part_from n [] (q ∷ us ++ c ∷ ts) ≡ with_all (q ∷ us ++ c ∷ []) (part_from n [] ts)
choice_step n q c us ts h one kc =
    let r : Held = part_from n [] ts in
    question_step n q (us ++ c ∷ ts) h ∙ ap (with_one q) (one ∙ ap (with_all us) (colon_step n c ts kc) ∙ with_both us (c ∷ []) r) ∙ with_more q (us ++ c ∷ []) r

-- a phrase is passed over where a choice is open
passes_choice : {us : List Lexeme} (n : ℕ) (ts : List Lexeme) → Phrase us → part_from (suc n) [] (us ++ ts) ≡ with_all us (part_from (suc n) [] ts)
passes_choice n ts (P.no_token h) = rw h (sym (with_none (part_from (suc n) [] ts)))
passes_choice n ts (P.a_plain {t = t} {ts1 = ts1} s m parts) =
    rw (parts, choice_turn n t.terminal s) (ap (with_one t) (passes_choice n ts m) ∙ with_more t ts1 (part_from (suc n) [] ts))
passes_choice n ts (P.a_group {o = o} c {k = k} {ts1 = ts1} {ts2 = ts2} h m kc m2 parts) =
    let r : Held = part_from (suc n) [] ts in
    rw (parts, append_assoc ts1 (c ∷ ts2) ts)
    (group_step (suc n) o c k ts1 (ts2 ++ ts) h m kc ∙ ap (with_all (o ∷ ts1 ++ c ∷ [])) (passes_choice n ts m2) ∙ with_both (o ∷ ts1 ++ c ∷ []) ts2 r ∙ ap (λ z. with_all (o ∷ z) r) (append_assoc ts1 (c ∷ []) ts2))
passes_choice n ts (P.a_choice {q = q} c {ts1 = ts1} {ts2 = ts2} h m kc m2 parts) =
    let r : Held = part_from (suc n) [] ts in
    rw (parts, append_assoc ts1 (c ∷ ts2) ts)
    (choice_step (suc n) q c ts1 (ts2 ++ ts) h (passes_choice (suc n) (c ∷ (ts2 ++ ts)) m) kc ∙ ap (with_all (q ∷ ts1 ++ c ∷ [])) (passes_choice n ts m2) ∙ with_both (q ∷ ts1 ++ c ∷ []) ts2 r ∙ ap (λ z. with_all (q ∷ z) r) (append_assoc ts1 (c ∷ []) ts2))

-- a part is passed over
pub passes : {us : List Lexeme} (ts : List Lexeme) → Part us → part_from 0 [] (us ++ ts) ≡ with_all us (part_from 0 [] ts)
passes ts (no_token h) = rw h (sym (with_none (part_from 0 [] ts)))
passes ts (a_plain {t = t} {ts1 = ts1} s m parts) = rw (parts, part_turn t.terminal s) (ap (with_one t) (passes ts m) ∙ with_more t ts1 (part_from 0 [] ts))
passes ts (a_group {o = o} c {k = k} {ts1 = ts1} {ts2 = ts2} h m kc m2 parts) =
    let r : Held = part_from 0 [] ts in
    rw (parts, append_assoc ts1 (c ∷ ts2) ts)
    (group_step 0 o c k ts1 (ts2 ++ ts) h m kc ∙ ap (with_all (o ∷ ts1 ++ c ∷ [])) (passes ts m2) ∙ with_both (o ∷ ts1 ++ c ∷ []) ts2 r ∙ ap (λ z. with_all (o ∷ z) r) (append_assoc ts1 (c ∷ []) ts2))
passes ts (a_choice {q = q} c {ts1 = ts1} {ts2 = ts2} h m kc m2 parts) =
    let r : Held = part_from 0 [] ts in
    rw (parts, append_assoc ts1 (c ∷ ts2) ts)
    (choice_step 0 q c ts1 (ts2 ++ ts) h (passes_choice 0 (c ∷ (ts2 ++ ts)) m) kc ∙ ap (with_all (q ∷ ts1 ++ c ∷ [])) (passes ts m2) ∙ with_both (q ∷ ts1 ++ c ∷ []) ts2 r ∙ ap (λ z. with_all (q ∷ z) r) (append_assoc ts1 (c ∷ []) ts2))

-- ---- what is read is a part

-- a token that goes on does the same in a phrase
goes_same : (n : ℕ) (ks : List Terminal) (k : Terminal) (m : ℕ) (js : List Terminal) → turn_by turn_bare n ks k ≡ goes_on m js → turn n ks k ≡ goes_on m js
goes_same zero [] T.Comma m js h = absurd cc
goes_same zero [] _ m js h = h
goes_same (suc n) [] k m js h = h
goes_same n (k1 ∷ ks) k m js h = h

never_ends : (n : ℕ) (k : Terminal) → turn_outside (suc n) k ≡ ends → ⊥
never_ends n T.OpenParenthesis h = absurd cc
never_ends n T.OpenBracket h = absurd cc
never_ends n T.OpenBrace h = absurd cc
never_ends n T.Question h = absurd cc
never_ends n T.Colon h = absurd cc
never_ends n T.Semicolon h = absurd cc
never_ends n T.CloseParenthesis h = absurd cc
never_ends n T.CloseBracket h = absurd cc
never_ends n T.CloseBrace h = absurd cc
never_ends n _ h = absurd cc

within_never : (o : Option Terminal) (n : ℕ) (k : Terminal) (ks : List Terminal) (t : Terminal) → turn_within o n k ks t ≡ ends → ⊥
within_never (Some c) n k ks t h = absurd cc
within_never None n k ks t h = by (closes_something t) (same t k) h
  where
    by : (b s : Bool) → (if b then (if s then goes_on n ks else mismatches) else goes_on n (k ∷ ks)) ≡ ends → ⊥
    by true true h = absurd cc
    by true false h = absurd cc
    by false s h = absurd cc

-- it ends where nothing is open
ends_bare : (n : ℕ) (ks : List Terminal) (k : Terminal) → turn_by turn_bare n ks k ≡ ends → phrase_end n ks ≡ done [] []
ends_bare zero [] k h = refl
ends_bare (suc n) [] k h = absurd (never_ends n k h)
ends_bare n (k1 ∷ ks) k h = absurd (within_never (closing k) n k1 ks k h)

-- what was read is read as a whole, by the reader of phrases too
record Whole (n : ℕ) (ks : List Terminal) (ts a rest : List Lexeme) : Type 0 where
  pub as_phrase : phrase_from n ks a ≡ done a []
  pub as_part : part_from n ks a ≡ done a []
  pub parts : ts ≡ a ++ rest

whole_end : (n : ℕ) (ks : List Terminal) (a rest : List Lexeme) → phrase_end n ks ≡ done a rest → Whole n ks [] a rest
whole_end zero [] a rest h = let q = both_are [] a [] rest h in rw (← q.0, ← q.1) (record { as_phrase = refl; as_part = refl; parts = refl })
whole_end zero (k ∷ ks) a rest h = absurd cc
whole_end (suc n) ks a rest h = absurd cc

whole : (n : ℕ) (ks : List Terminal) (ts a rest : List Lexeme) → part_from n ks ts ≡ done a rest → Whole n ks ts a rest
whole n ks [] a rest h = whole_end n ks a rest h
whole n ks (t ∷ ts) a rest h = by (turn_by turn_bare n ks t.terminal) refl (λ m js a1 g. whole m js ts a1 rest g) h
  where
    by : (x : Turn) → turn_by turn_bare n ks t.terminal ≡ x → ((m : ℕ) (js : List Terminal) (a1 : List Lexeme) → part_from m js ts ≡ done a1 rest → Whole m js ts a1 rest) →
        after_turn x t ts (λ m js. part_from m js ts) ≡ done a rest → Whole n ks (t ∷ ts) a rest
    by (goes_on m js) e next g =
        let one = one_is t (part_from m js ts) a rest g in
        let w = next m js one.0 one.1 in
        let same_turn : turn n ks t.terminal ≡ goes_on m js = goes_same n ks t.terminal m js e in
        rw one.2 (record { as_phrase = rw (same_turn, w.as_phrase) refl; as_part = rw (e, w.as_part) refl; parts = ap (λ z. t ∷ z) w.parts })
    by ends e next g =
        let q = both_are [] a (t ∷ ts) rest g in
        let none : phrase_end n ks ≡ done [] [] = ends_bare n ks t.terminal e in
        rw (← q.0, ← q.1) (record { as_phrase = none; as_part = none; parts = refl })
    by mismatches e next g = absurd cc

all_is : (us : List Lexeme) (r : Held) (a rest : List Lexeme) → with_all us r ≡ done a rest → (v : List Lexeme) × (r ≡ done v rest) × (a ≡ us ++ v)
all_is us (Ok x) a rest e = let q = both_are (us ++ x.0) a x.1 rest e in (x.0, ap (λ z. done x.0 z) q.1, sym q.0)
all_is us (Err s) a rest e = absurd cc

comma_is : (k : Terminal) → is_loose k ≡ true → is_part k ≡ false → k ≡ T.Comma
comma_is T.Comma h g = refl
comma_is _ h g = absurd cc

-- these at the front, and the others as a whole
behind_all : (us vs : List Lexeme) → with_all us (part_from 0 [] vs) ≡ done (us ++ vs) [] → part_from 0 [] vs ≡ done vs []
behind_all us vs h =
    let w = all_is us (part_from 0 [] vs) (us ++ vs) [] h in
    w.1 ∙ ap (λ z. done z []) (sym (append_cancel_left us vs w.0 w.2))

not_empty : (t : Lexeme) (ts : List Lexeme) → [] ≡ t ∷ ts → ⊥
not_empty t ts h = absurd cc

part_of : {ts : List Lexeme} → Phrase ts → part_from 0 [] ts ≡ done ts [] → Part ts
part_of (P.no_token h) g = no_token h
part_of {ts = ts} (P.a_plain {t = t} {ts1 = ts1} s m parts) g = by (is_part t.terminal) refl (λ f. part_of m f)
  where
    here : part_from 0 [] (t ∷ ts1) ≡ done (t ∷ ts1) []
    here = sym (ap (part_from 0 []) parts) ∙ g ∙ ap (λ z. done z []) parts

    by : (b : Bool) → is_part t.terminal ≡ b → (part_from 0 [] ts1 ≡ done ts1 [] → Part ts1) → Part ts
    by true e next =
        let step : part_from 0 [] (t ∷ ts1) ≡ with_one t (part_from 0 [] ts1) = rw (part_turn t.terminal e) refl in
        a_plain e (next (behind_all (t ∷ []) ts1 (sym step ∙ here))) parts
    by false e next =
        let k : t.terminal ≡ T.Comma = comma_is t.terminal s e in
        let step : part_from 0 [] (t ∷ ts1) ≡ done [] (t ∷ ts1) = rw k refl in
        absurd (not_empty t ts1 ((both_are [] (t ∷ ts1) (t ∷ ts1) [] (sym step ∙ here)).0))
part_of (P.a_group {o = o} c {k = k} {ts1 = ts1} {ts2 = ts2} h m kc m2 parts) g =
    let here : part_from 0 [] (o ∷ ts1 ++ c ∷ ts2) ≡ done (o ∷ ts1 ++ c ∷ ts2) [] = sym (ap (part_from 0 []) parts) ∙ g ∙ ap (λ z. done z []) parts in
    let rest : with_all (o ∷ ts1 ++ c ∷ []) (part_from 0 [] ts2) ≡ done ((o ∷ ts1 ++ c ∷ []) ++ ts2) [] = sym (group_step 0 o c k ts1 ts2 h m kc) ∙ here ∙ ap (λ z. done (o ∷ z) []) (sym (append_assoc ts1 (c ∷ []) ts2)) in
    a_group c h m kc (part_of m2 (behind_all (o ∷ ts1 ++ c ∷ []) ts2 rest)) parts
part_of (P.a_choice {q = q} c {ts1 = ts1} {ts2 = ts2} h m kc m2 parts) g =
    let here : part_from 0 [] (q ∷ ts1 ++ c ∷ ts2) ≡ done (q ∷ ts1 ++ c ∷ ts2) [] = sym (ap (part_from 0 []) parts) ∙ g ∙ ap (λ z. done z []) parts in
    let rest : with_all (q ∷ ts1 ++ c ∷ []) (part_from 0 [] ts2) ≡ done ((q ∷ ts1 ++ c ∷ []) ++ ts2) [] = sym (choice_step 0 q c ts1 ts2 h (passes_choice 0 (c ∷ ts2) m) kc) ∙ here ∙ ap (λ z. done (q ∷ z) []) (sym (append_assoc ts1 (c ∷ []) ts2)) in
    a_choice c h m kc (part_of m2 (behind_all (q ∷ ts1 ++ c ∷ []) ts2 rest)) parts

-- what is read as a whole is a phrase
phrase_of : (a : List Lexeme) → phrase_from 0 [] a ≡ done a [] → Phrase a
unfolding phrase_at
phrase_of a h = by ((phrase_exact T.Semicolon refl).sound a a [] h).is
  where
    by : {us : List Lexeme} → IsPhrase us a → Phrase a
    by (is_phrase p e) = rw e p

-- a part, held
pub data IsPart : List Lexeme → List Lexeme → Type 0 where
  is_part_of : {ts a : List Lexeme} → Part ts → a ≡ ts → IsPart ts a

-- nothing follows, or a semicolon
pub data Over : List Lexeme → Type 0 where
  at_end : {ts : List Lexeme} → ts ≡ [] → Over ts
  at_semicolon : {c : Lexeme} {us ts : List Lexeme} → c.terminal ≡ T.Semicolon → ts ≡ c ∷ us → Over ts

-- or a comma
pub data Ended : List Lexeme → Type 0 where
  at_over : {ts : List Lexeme} → Over ts → Ended ts
  at_comma : {c : Lexeme} {us ts : List Lexeme} → c.terminal ≡ T.Comma → ts ≡ c ∷ us → Ended ts

part_ends : {rest : List Lexeme} → Ended rest → part_from 0 [] rest ≡ done [] rest
part_ends (at_over (at_end e)) = rw e refl
part_ends (at_over (at_semicolon kc e)) = rw (e, kc) refl
part_ends (at_comma kc e) = rw (e, kc) refl

part_there : (ts a rest : List Lexeme) → IsPart ts a → Ended rest → part_at (ts ++ rest) ≡ Ok (a, rest)
unfolding part_at
part_there ts a rest (is_part_of p g) f = rw g (passes rest p ∙ ap (with_all ts) (part_ends f) ∙ ap (λ z. done z rest) (append-nil ts))

pub part_exact : Exact IsPart part_at Ended
unfolding part_at
part_exact = record {
  sound = λ ts a rest h. let w = whole 0 [] ts a rest h in record { front = a; is = is_part_of (part_of (phrase_of a w.as_phrase) w.as_part) refl; parts = w.parts };
  complete = part_there;
}
