use Rattle.std.proofs.Common.{◌≡◌, ℕ, suc, ◌+◌, List, ◌∷◌, Option, take, refl, sym, arith}
use Rattle.px_real_tokens.specs.declared.token.TokenKind.TheVariants as K
use Rattle.px_real_tokens.specs.declared.piece.Piece.TheVariants as P
use Rattle.px_real_tokens.specs.Bytes.{number_goes_on, run_of}
use Rattle.px_real_tokens.specs.Values.{number_value}
use Rattle.px_real_tokens.specs.Scanning.{number_at}
use Rattle.px_real_tokens.proofs.numbers.number_at.Goals as goal

-- the number whose value was found
number_is : (b n : ℕ) (bs bytes : List ℕ) (v : Option ℕ) → n ≡ run_of number_goes_on b bs → bytes ≡ b ∷ bs → v ≡ number_value (take (n + 1) bytes) → number_at b bs ≡ (P.Token (K.Number v), n + 1)
number_is b n bs bytes v e f g =
    let next : n + 1 ≡ suc n = omega arith in
    rw (g, f, next, e) refl

pub returns-clause-exact : goal.returns-clause-exact
returns-clause-exact c = sym (number_is c.args.first c.number_run-count.result c.args.rest.now c.args.bytes.now c.number_value.result c.number_run-count.ensures.exact c.requires c.number_value.ensures)
