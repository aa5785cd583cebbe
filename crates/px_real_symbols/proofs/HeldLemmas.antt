-- What is held, token by token.
use Rattle.std.proofs.Common.{◌≡◌, ℕ, zero, suc, ◌-◌, ◌+◌, ◌<◌, ◌≤◌, true, false, List, [], ◌∷◌, ◌++◌, length, take, drop, map, Ok, Err, refl, sym, ap, ◌∙◌, append_assoc, arith}
use Rattle.std.proofs.lemmas.List.{append-nil}
use Rattle.px_real_expressions.specs.declared.terminal.Terminal.{Terminal}
use Rattle.px_real_expressions.specs.declared.terminal.Terminal.TheVariants as T
use Rattle.px_real_expressions.specs.Lexemes.{Lexeme, same}
use Rattle.px_real_expressions.specs.Stops.{wrong, Read}
use Rattle.px_real_expressions.specs.Held.{with_one, held_at}
use Rattle.px_real_expressions.specs.Reading.{held_up_to, after_strings}
use Rattle.px_real_expressions.proofs.HeldExact.{with_all, with_none}
use Rattle.px_real_symbols.specs.declared.held.Turn.TheVariants.{GoesOn, Closes, Mismatches}
use Rattle.px_real_symbols.specs.declared.symbol.Symbol.{Symbol}
use Rattle.px_real_symbols.specs.Turns.{after_turn}
use Rattle.px_real_symbols.proofs.FrontLemmas.{drop_past}

-- ---- held tokens

with_last : (us : List Lexeme) (t : Lexeme) (r : Read (List Lexeme)) → with_all us (with_one t r) ≡ with_all (us ++ t ∷ []) r
with_last us t (Ok x) = ap (λ z. Ok (z, x.1)) (sym (append_assoc us (t ∷ []) x.0))
with_last us t (Err s) = refl

-- so far what stands before `at` is held, and these brackets are open
abbrev pub HeldSoFar : List Lexeme → Terminal → ℕ → ℕ → Terminal → List Terminal → Type 0
HeldSoFar all close start at k ks = with_all (take (at - start) (drop start all)) (held_at k ks (drop at all)) ≡ held_up_to close (drop start all)

pub held_start : (all : List Lexeme) (close : Terminal) (start : ℕ) → HeldSoFar all close start start close []
unfolding held_up_to
held_start all close start =
    let e : start - start ≡ 0 = omega arith in
    rw e (with_none (held_at close [] (drop start all)))

-- one token more
taken_more : (all : List Lexeme) (start at : ℕ) (t : Lexeme) → start ≤ at → at < length all → drop at all ≡ t ∷ drop (at + 1) all → take (at + 1 - start) (drop start all) ≡ take (at - start) (drop start all) ++ t ∷ []
taken_more [] start at t le lt h = absurd (omega arith)
taken_more (x ∷ xs) zero zero t le lt h = ap (λ z. z ∷ []) (head_is x t xs h)
  where
    head_is : (x t : Lexeme) (xs : List Lexeme) → x ∷ xs ≡ t ∷ xs → x ≡ t
    head_is x t xs e = cc
taken_more (x ∷ xs) zero (suc at) t le lt h =
    let fits : at < length xs = omega arith in
    let e : suc at + 1 ≡ suc (at + 1) = omega arith in
    let below : drop at xs ≡ t ∷ drop (at + 1) xs = h ∙ ap (λ z. t ∷ drop z (x ∷ xs)) e in
    let s : suc at + 1 - zero ≡ suc (at + 1 - 0) = omega arith in
    let r : suc at - zero ≡ suc (at - 0) = omega arith in
    rw (s, r) (ap (λ z. x ∷ z) (taken_more xs 0 at t (omega arith) fits below))
taken_more (x ∷ xs) (suc start) zero t le lt h = absurd (omega arith)
taken_more (x ∷ xs) (suc start) (suc at) t le lt h =
    let fits : at < length xs = omega arith in
    let e : suc at + 1 ≡ suc (at + 1) = omega arith in
    let below : drop at xs ≡ t ∷ drop (at + 1) xs = h ∙ ap (λ z. t ∷ drop z (x ∷ xs)) e in
    let s : suc at + 1 - suc start ≡ at + 1 - start = omega arith in
    let r : suc at - suc start ≡ at - start = omega arith in
    rw (s, r) (taken_more xs start at t (omega arith) fits below)

pub held_goes_on : (all : List Lexeme) (close : Terminal) (start at : ℕ) (t : Lexeme) (k k1 : Terminal) (ks ks1 : List Terminal) → start ≤ at → at < length all → drop at all ≡ t ∷ drop (at + 1) all →
    held_at k ks (t ∷ drop (at + 1) all) ≡ after_turn GoesOn t k1 ks1 (drop (at + 1) all) → HeldSoFar all close start at k ks → HeldSoFar all close start (at + 1) k1 ks1
held_goes_on all close start at t k k1 ks ks1 le lt h g so_far =
    let us : List Lexeme = take (at - start) (drop start all) in
    let rest : List Lexeme = drop (at + 1) all in
    let before : with_all us (with_one t (held_at k1 ks1 rest)) ≡ held_up_to close (drop start all) = ap (with_all us) (sym g ∙ ap (held_at k ks) (sym h)) ∙ so_far in
    rw (taken_more all start at t le lt h) (sym (with_last us t (held_at k1 ks1 rest)) ∙ before)

pub held_closes : (all : List Lexeme) (close : Terminal) (start at : ℕ) (t : Lexeme) (k k1 : Terminal) (ks ks1 : List Terminal) → drop at all ≡ t ∷ drop (at + 1) all →
    held_at k ks (t ∷ drop (at + 1) all) ≡ after_turn Closes t k1 ks1 (drop (at + 1) all) → HeldSoFar all close start at k ks →
    held_up_to close (drop start all) ≡ Ok (take (at - start) (drop start all), drop at all)
held_closes all close start at t k k1 ks ks1 h g so_far =
    let us : List Lexeme = take (at - start) (drop start all) in
    let last : held_at k ks (drop at all) ≡ Ok ([], drop at all) = ap (held_at k ks) h ∙ g ∙ ap (λ z. Ok ([], z)) (sym h) in
    sym so_far ∙ ap (with_all us) last ∙ ap (λ z. Ok (z, drop at all)) (append-nil us)

pub held_mismatches : (all : List Lexeme) (close : Terminal) (start at : ℕ) (t : Lexeme) (k k1 : Terminal) (ks ks1 : List Terminal) → drop at all ≡ t ∷ drop (at + 1) all →
    held_at k ks (t ∷ drop (at + 1) all) ≡ after_turn Mismatches t k1 ks1 (drop (at + 1) all) → HeldSoFar all close start at k ks → held_up_to close (drop start all) ≡ Err (wrong (drop at all))
held_mismatches all close start at t k k1 ks ks1 h g so_far =
    let last : held_at k ks (drop at all) ≡ Err (wrong (drop at all)) = ap (held_at k ks) h ∙ g ∙ ap (λ z. Err (wrong z)) (sym h) in
    sym so_far ∙ ap (with_all (take (at - start) (drop start all))) last

pub held_ends : (all : List Lexeme) (close : Terminal) (start at : ℕ) (k : Terminal) (ks : List Terminal) → drop at all ≡ [] → HeldSoFar all close start at k ks → held_up_to close (drop start all) ≡ Err (wrong [])
held_ends all close start at k ks h so_far =
    let last : held_at k ks (drop at all) ≡ Err (wrong []) = ap (held_at k ks) h in
    sym so_far ∙ ap (with_all (take (at - start) (drop start all))) last

-- ---- strings

pub strings_go_on : (ts us : List Lexeme) (t : Lexeme) → ts ≡ t ∷ us → same t.terminal T.String ≡ true → after_strings ts ≡ after_strings us
unfolding after_strings
strings_go_on ts us t h s = rw (h, s) refl

pub strings_end : (ts us : List Lexeme) (t : Lexeme) → ts ≡ t ∷ us → same t.terminal T.String ≡ false → after_strings ts ≡ ts
unfolding after_strings
strings_end ts us t h s = rw (h, s) refl

pub strings_none : (ts : List Lexeme) → ts ≡ [] → after_strings ts ≡ []
unfolding after_strings
strings_none ts h = rw h refl

pub strings_past : (f : Symbol → Lexeme) (xs : List Symbol) (i start : ℕ) → length xs ≤ i → after_strings (drop i (map f xs)) ≡ after_strings (drop start (map f xs)) → drop (length xs) (map f xs) ≡ after_strings (drop start (map f xs))
strings_past f xs i start le h = drop_past f xs (length xs) (omega arith) ∙ sym (strings_none (drop i (map f xs)) (drop_past f xs i le)) ∙ h
