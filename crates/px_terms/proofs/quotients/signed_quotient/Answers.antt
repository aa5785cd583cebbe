use Rattle.std.proofs.Common.{ap, ap₂, ◌∙◌, int_div}
use Rattle.std.specs.Int.{w32, cast_signed, cast_unsigned, int_wrapping_div}
use Rattle.std.proofs.lemmas.Int.{to_z-of_z, SFits-int_wrap}
use Rattle.px_terms.proofs.QuotientLemmas.{wrapping_div_is}
use Rattle.px_terms.proofs.quotients.signed_quotient.Goals as goal

pub returns : goal.returns
returns c =
    let a = c.args.a in
    let b = c.args.b in
    let same = ap₂ (int_wrapping_div w32) (to_z-of_z w32 a c.ranges.a) (to_z-of_z w32 b c.ranges.b) in
    ap (λ z. cast_signed w32 (cast_unsigned w32 z)) (c.wrapping_div.ensures ∙ same ∙ wrapping_div_is a b c.ranges.a) ∙ to_z-of_z w32 _ (SFits-int_wrap w32 (int_div a b))
