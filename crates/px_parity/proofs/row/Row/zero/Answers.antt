use Rattle.std.proofs.Common.{◌*◌, ◌+◌, ◌/◌, ◌≡◌, length, ap, ◌∙◌, arith}
use Rattle.px_parity.proofs.BitLemmas.{length_bits, zero_bits}
use Rattle.px_parity.proofs.row.Row.zero.Goals as goal

pub returns-clause-size : goal.returns-clause-size
returns-clause-size c =
    let e = length_bits c.in_ok-vec.field-0.items in
    let f : length c.in_ok-vec.field-0.items ≡ c.args.last / 64 + 1 = omega (arith, c.in_ok-vec.ensures.len, c.in_ok-vec.field-0.ok) in
    e ∙ ap (λ n. 64 * n) f

pub returns-clause-none : goal.returns-clause-none
returns-clause-none c = zero_bits c.in_ok-vec.field-0.items (c.args.last / 64 + 1) (c.in_ok-vec.ensures.items_if_clones_equal (λ y e. e))
