use Rattle.std.proofs.Common.{ap, ap₂, ◌∙◌, int_div}
use Rattle.std.specs.Int.{w32, cast_signed, cast_unsigned, int_wrapping_div}
use Rattle.std.proofs.lemmas.Int.{to_z-of_z, SFits-int_wrap}
use Rattle.px_terms.proofs.QuotientLemmas.{wrapping_div_is}
use Rattle.px_replay.proofs.operators.quotient.Goals as goal

pub returns : goal.returns
returns c =
    let x = c.args.x in
    let y = c.args.y in
    let same = ap₂ (int_wrapping_div w32) (to_z-of_z w32 x c.ranges.x) (to_z-of_z w32 y c.ranges.y) in
    ap (λ z. cast_signed w32 (cast_unsigned w32 z)) (c.wrapping_div.ensures ∙ same ∙ wrapping_div_is x y c.ranges.x) ∙ to_z-of_z w32 _ (SFits-int_wrap w32 (int_div x y))
