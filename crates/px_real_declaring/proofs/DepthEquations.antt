-- The reader of a declarator, by its depth.
use Rattle.std.proofs.Common.{◌≡◌, ℕ, zero, suc, ◌-◌, ◌<◌, List, Bool, Err, refl, arith}
use Rattle.px_real_expressions.specs.Lexemes.{Lexeme}
use Rattle.px_real_expressions.specs.Stops.{deep}
use Rattle.px_real_declarations.specs.Grammar.{Types}
use Rattle.px_real_declarations.specs.Reading.{declarator_of, declarator_at}

pub declarator_is : (types : Types) (may_miss : Bool) (d : ℕ) (ts : List Lexeme) → 0 < d → declarator_at types may_miss d ts ≡ declarator_of types may_miss (declarator_at types may_miss (d - 1)) ts
unfolding declarator_at
declarator_is types may_miss zero ts lt = absurd (omega arith)
declarator_is types may_miss (suc d) ts lt = let e : suc d - 1 ≡ d = omega arith in rw e refl

pub no_declarator_at : (types : Types) (may_miss : Bool) (d : ℕ) (ts : List Lexeme) → d ≡ 0 → declarator_at types may_miss d ts ≡ Err (deep ts)
unfolding declarator_at
no_declarator_at types may_miss d ts h = rw h refl
