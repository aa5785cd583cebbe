-- What loops over what stands between commas keep, turn by turn.
use Rattle.std.proofs.Common.{◌≡◌, ℕ, suc, ◌-◌, ◌+◌, ◌<◌, Bool, true, false, if◌then◌else◌, List, [], ◌∷◌, ◌++◌, length, Some, None, Ok, Err, refl, sym, ap, ◌∙◌, append_assoc, arith}
use Rattle.px_real_expressions.specs.declared.terminal.Terminal.TheVariants as T
use Rattle.px_real_expressions.specs.Lexemes.{Lexeme, same, front}
use Rattle.px_real_expressions.specs.Stops.{Read, wrong, ◌>>=◌}
use Rattle.px_real_expressions.specs.Reading.{Reader}
use Rattle.px_real_symbols.specs.declared.fault.Fault.{Fault}
use Rattle.px_real_symbols.specs.Answers.{IsFaultOf}
use Rattle.px_real_symbols.proofs.AnswerLemmas.{passes_on}
use Rattle.px_real_declarations.specs.declared.trailing.Trailing.{Trailing}
use Rattle.px_real_declarations.specs.HeldReading.{last, dots, another, behind_comma, next_of, separated_from}

-- these before what is read
abbrev pub with_before : {A : Type 0} → List A → Read (List A × Bool) → Read (List A × Bool)
with_before before (Ok x) = Ok ((before ++ x.0.0, x.0.1), x.1)
with_before before (Err s) = Err s

pub before_none : {A : Type 0} (r : Read (List A × Bool)) → with_before [] r ≡ r
before_none (Ok x) = refl
before_none (Err s) = refl

before_one : {A : Type 0} (before : List A) (a : A) (r : Read (List A × Bool)) → with_before (before ++ a ∷ []) r ≡ with_before before (r >>= λ y. Ok ((a ∷ y.0.0, y.0.1), y.1))
before_one before a (Ok x) = ap (λ z. Ok ((z, x.0.1), x.1)) (append_assoc before (a ∷ []) x.0.0)
before_one before a (Err s) = refl

module _ {A : Type 0} (e : Trailing) (r : Reader A) where
  pub last_one : (limit i : ℕ) (before : List A) (rest us vs : List Lexeme) (a : A) (total : Read (List A × Bool)) → i < limit → r rest ≡ Ok (a, us) → next_of e us ≡ Ok (last vs) →
      with_before before (separated_from e (limit - i) r rest) ≡ total → total ≡ Ok ((before ++ a ∷ [], false), vs)
  unfolding separated_from
  last_one limit i before rest us vs a total lt h g so_far =
      let s : limit - i ≡ suc (limit - (i + 1)) = omega arith in
      sym so_far ∙ rw (s, h, g) refl

  pub dots_behind : (limit i : ℕ) (before : List A) (rest us vs : List Lexeme) (a : A) (total : Read (List A × Bool)) → i < limit → r rest ≡ Ok (a, us) → next_of e us ≡ Ok (dots vs) →
      with_before before (separated_from e (limit - i) r rest) ≡ total → total ≡ Ok ((before ++ a ∷ [], true), vs)
  unfolding separated_from
  dots_behind limit i before rest us vs a total lt h g so_far =
      let s : limit - i ≡ suc (limit - (i + 1)) = omega arith in
      sym so_far ∙ rw (s, h, g) refl

  pub another_one : (limit i : ℕ) (before : List A) (rest us vs : List Lexeme) (a : A) (total : Read (List A × Bool)) → i < limit → r rest ≡ Ok (a, us) → next_of e us ≡ Ok (another vs) →
      with_before before (separated_from e (limit - i) r rest) ≡ total → with_before (before ++ a ∷ []) (separated_from e (limit - (i + 1)) r vs) ≡ total
  unfolding separated_from
  another_one limit i before rest us vs a total lt h g so_far =
      let s : limit - i ≡ suc (limit - (i + 1)) = omega arith in
      before_one before a (separated_from e (limit - (i + 1)) r vs) ∙ sym (rw (s, h, g) refl) ∙ so_far

  pub item_err : (f : Fault) (all : List Lexeme) (limit i : ℕ) (before : List A) (rest : List Lexeme) (total : Read (List A × Bool)) → i < limit → IsFaultOf all f (r rest) →
      with_before before (separated_from e (limit - i) r rest) ≡ total → IsFaultOf all f total
  unfolding separated_from
  item_err f all limit i before rest total lt h so_far =
      let s : limit - i ≡ suc (limit - (i + 1)) = omega arith in
      passes_on f all (r rest) total (λ st g. sym so_far ∙ rw (s, g) refl) h

  pub next_err : (f : Fault) (all : List Lexeme) (limit i : ℕ) (before : List A) (rest us : List Lexeme) (a : A) (total : Read (List A × Bool)) → i < limit → r rest ≡ Ok (a, us) → IsFaultOf all f (next_of e us) →
      with_before before (separated_from e (limit - i) r rest) ≡ total → IsFaultOf all f total
  unfolding separated_from
  next_err f all limit i before rest us a total lt h g so_far =
      let s : limit - i ≡ suc (limit - (i + 1)) = omega arith in
      passes_on f all (next_of e us) total (λ st k. sym so_far ∙ rw (s, h, k) refl) g

  pub none_there : (n : ℕ) (before : List A) (rest : List Lexeme) (total : Read (List A × Bool)) → n ≡ 0 → with_before before (separated_from e n r rest) ≡ total → total ≡ Err (wrong rest)
  unfolding separated_from
  none_there n before rest total h so_far = sym so_far ∙ rw h refl

-- ---- what follows one of several

pub no_comma : (e : Trailing) (ts : List Lexeme) → 0 < length ts → None ≡ front T.Comma ts → next_of e ts ≡ Err (wrong ts)
no_comma e [] lt h = absurd (omega arith)
no_comma e (t ∷ ts) lt h = by (same t.terminal T.Comma) h
  where
    found : Lexeme × List Lexeme
    found = (t, ts)

    by : (b : Bool) → None ≡ (if b then Some found else None) → (if b then Ok (behind_comma e ts) else Err (wrong (t ∷ ts))) ≡ Err (wrong (t ∷ ts))
    by true g = absurd cc
    by false g = refl

pub a_comma : (e : Trailing) (ts : List Lexeme) (c : Lexeme × List Lexeme) → Some c ≡ front T.Comma ts → next_of e ts ≡ Ok (behind_comma e c.1)
a_comma e [] c h = absurd cc
a_comma e (t ∷ ts) c h = by (same t.terminal T.Comma) h
  where
    found : Lexeme × List Lexeme
    found = (t, ts)

    by : (b : Bool) → Some c ≡ (if b then Some found else None) → (if b then Ok (behind_comma e ts) else Err (wrong (t ∷ ts))) ≡ Ok (behind_comma e c.1)
    by true g = let same_one : c ≡ found = cc in ap (λ z. Ok (behind_comma e z.1)) (sym same_one)
    by false g = absurd cc
