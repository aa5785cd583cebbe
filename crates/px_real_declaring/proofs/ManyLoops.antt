-- What loops that read as many of one kind as there are keep, turn by turn.
use Rattle.std.proofs.Common.{◌≡◌, ℕ, suc, ◌-◌, ◌+◌, ◌<◌, List, [], ◌∷◌, ◌++◌, Option, Some, None, Ok, refl, sym, ap, subst, ◌∙◌, arith}
use Rattle.px_real_expressions.specs.Lexemes.{Lexeme}
use Rattle.px_real_expressions.specs.Stops.{Read, ◌>>=◌}
use Rattle.px_real_expressions.specs.Reading.{Reader}
use Rattle.px_real_expressions.specs.Grammar.{Gram}
use Rattle.px_real_symbols.specs.declared.fault.Fault.{Fault}
use Rattle.px_real_symbols.specs.Answers.{IsFaultOf}
use Rattle.px_real_symbols.proofs.AnswerLemmas.{passes_on}
use Rattle.px_real_blocks.proofs.Loops.{after_all, after_one, after_last}
use Rattle.px_real_declarations.specs.Reading.{many_at}
use Rattle.px_real_declarations.proofs.GroupExact.{ReadOne, ExactOne}

module _ {A : Type 0} {G : Gram A} {r : Reader (Option A)} (p : ExactOne G r) where
  -- where none was read, nothing was
  nothing_read : (ts us : List Lexeme) (o : Option A) → o ≡ None → r ts ≡ Ok (o, us) → ts ≡ us
  nothing_read ts us o n h = subst (λ z. ReadOne G ts z us) n (p.sound ts o us h)

  pub many_left : (limit i : ℕ) (before : List A) (rest us : List Lexeme) (o : Option A) (total : Read (List A)) → i < limit → o ≡ None → r rest ≡ Ok (o, us) →
      after_all before (many_at (limit - i) r rest) ≡ total → total ≡ Ok (before, rest)
  unfolding many_at
  many_left limit i before rest us o total lt n h so_far =
      let s : limit - i ≡ suc (limit - (i + 1)) = omega arith in
      let e : us ≡ rest = sym (nothing_read rest us o n h) in
      sym so_far ∙ rw (s, h, n, e) (after_last before rest)

  pub many_next : (limit i : ℕ) (before : List A) (rest us : List Lexeme) (o : Option A) (a : A) (total : Read (List A)) → i < limit → o ≡ Some a → r rest ≡ Ok (o, us) →
      after_all before (many_at (limit - i) r rest) ≡ total → after_all (before ++ a ∷ []) (many_at (limit - (i + 1)) r us) ≡ total
  unfolding many_at
  many_next limit i before rest us o a total lt n h so_far =
      let s : limit - i ≡ suc (limit - (i + 1)) = omega arith in
      let one : many_at (limit - i) r rest ≡ (many_at (limit - (i + 1)) r us >>= λ y. Ok (a ∷ y.0, y.1)) = rw (s, h, n) refl in
      after_one before a (many_at (limit - (i + 1)) r us) ∙ ap (after_all before) (sym one) ∙ so_far

pub many_err : {A : Type 0} (r : Reader (Option A)) (e : Fault) (all : List Lexeme) (limit i : ℕ) (before : List A) (rest : List Lexeme) (total : Read (List A)) → i < limit → IsFaultOf all e (r rest) →
    after_all before (many_at (limit - i) r rest) ≡ total → IsFaultOf all e total
unfolding many_at
many_err r e all limit i before rest total lt f so_far =
    let s : limit - i ≡ suc (limit - (i + 1)) = omega arith in
    passes_on e all (r rest) total (λ st g. sym so_far ∙ rw (s, g) refl) f

pub many_full : {A : Type 0} (r : Reader (Option A)) (n : ℕ) (before : List A) (rest : List Lexeme) (total : Read (List A)) → n ≡ 0 → after_all before (many_at n r rest) ≡ total → total ≡ Ok (before, rest)
unfolding many_at
many_full r n before rest total h so_far = sym so_far ∙ rw h (after_last before rest)
