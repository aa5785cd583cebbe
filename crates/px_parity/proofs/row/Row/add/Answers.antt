use Rattle.std.proofs.Common.{◌≡◌, ◌≤◌, ℕ, length, get_or, refl, ap, ◌∙◌, arith}
use Rattle.std.specs.Int.RustNames.{bit_xor}
use Rattle.px_parity.specs.Bits.{bits_of, bit_of, plus}
use Rattle.px_parity.proofs.BitLemmas.{words_summed, summed}
use Rattle.px_parity.proofs.row.Row.add.Goals as goal

pub loop-i-init : goal.loop-i-init
loop-i-init c =
    let s = c.in_ok-lengthen.ensures.size in
    record { size = refl; enough = omega (arith, c.other.inside.words.ok); done = λ k l. absurd (omega arith); left = λ k l. refl }

pub returns : goal.returns
returns c =
    let xs = c.self.inside.words.items in
    let ys = c.other.inside.words.items in
    let zs = c.loop-i.self-inside.words.items in
    let i = c.loop-i.invariant in
    let l : length ys ≤ c.loop-i.i = omega (arith, c.other.inside.words.ok) in
    let h : (k : ℕ) → get_or zs k 0 ≡ bit_xor (get_or xs k 0) (get_or ys k 0) =
    λ k. words_summed c.lengthen.new.words.items ys zs c.loop-i.i l i.done i.left k ∙ ap (λ n. bit_xor n (get_or ys k 0)) (c.in_ok-lengthen.ensures.same k) in
    λ k. summed xs ys zs h k ∙ ap (λ z. plus (bit_of z k) (bit_of (bits_of ys) k)) c.self.view_is ∙ ap (λ z. plus (bit_of c.args.self.now k) (bit_of z k)) c.other.view_is
