-- What the answer of the reader says of all tokens.
use Rattle.std.proofs.Common.{◌≡◌, ℕ, ◌<◌, List, [], ◌∷◌, length, drop, min, Result, Ok, Err, refl, sym, ap, ◌∙◌, arith}
use Rattle.std.proofs.lemmas.List.{drop_min}
use Rattle.px_real_expressions.specs.Lexemes.{Lexeme}
use Rattle.px_real_expressions.specs.ExpressionTree.{ExpressionTree}
use Rattle.px_real_expressions.specs.Stops.{Stop, wrong, deep}
use Rattle.px_real_expressions.specs.Reading.{readers, expression_by}
use Rattle.px_real_reading.specs.Faults.{nesting_limit, whole_at, GoesWrong, NestsTooDeep}
use Rattle.px_real_reading.proofs.Deeper.{whole_is_by, whole_is_read, never}

pub goes_wrong : (n at : ℕ) (ts : List Lexeme) → at ≡ min n (length ts) → whole_at nesting_limit ts ≡ Err (wrong (drop n ts)) → GoesWrong at ts
goes_wrong n at ts e h = record {
  never = λ d tree g. never nesting_limit d ts (drop n ts) tree h g;
  within = omega arith;
  stops = h ∙ ap (λ z. Err (wrong z)) (sym (ap (λ z. drop z ts) e ∙ drop_min n ts));
}

pub nests_too_deep : (n at : ℕ) (ts : List Lexeme) → at ≡ min n (length ts) → whole_at nesting_limit ts ≡ Err (deep (drop n ts)) → NestsTooDeep at ts
nests_too_deep n at ts e h = record {
  none = λ tree g. differ _ h (whole_is_read nesting_limit ts tree g);
  within = omega arith;
  stops = h ∙ ap (λ z. Err (deep z)) (sym (ap (λ z. drop z ts) e ∙ drop_min n ts));
}
  where
    differ : {us : List Lexeme} {e : ExpressionTree} (x : Result ExpressionTree Stop) → x ≡ Err (deep us) → x ≡ Ok e → ⊥
    differ x h g = absurd cc

-- a faulty reading of the front is one of all
pub whole_stops : (d : ℕ) (ts : List Lexeme) (s : Stop) → expression_by (readers d) ts ≡ Err s → whole_at d ts ≡ Err s
whole_stops d ts s h = whole_is_by d ts ∙ rw h refl

pub whole_left : (d : ℕ) (ts us : List Lexeme) (e : ExpressionTree) → 0 < length us → expression_by (readers d) ts ≡ Ok (e, us) → whole_at d ts ≡ Err (wrong us)
whole_left d ts [] e le h = absurd (omega arith)
whole_left d ts (u ∷ us) e le h = whole_is_by d ts ∙ rw h refl

pub whole_done : (d : ℕ) (ts us : List Lexeme) (e : ExpressionTree) → us ≡ [] → expression_by (readers d) ts ≡ Ok (e, us) → whole_at d ts ≡ Ok e
whole_done d ts us e none h = whole_is_by d ts ∙ rw (h, none) refl
