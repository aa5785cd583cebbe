use Rattle.std.proofs.Common.{◌≡◌, ◌*◌, ◌<◌, ◌≤◌, length, get_or, inl, inr, sym, ◌∙◌, arith}
use Rattle.std.proofs.lemmas.Bool.{cases_lt}
use Rattle.std.proofs.lemmas.List.{get_or_default}
use Rattle.px_parity.proofs.BitLemmas.{bits_size, no_bit, empty_word}
use Rattle.px_parity.proofs.row.Row.first_variable.Goals as goal

pub loop-at-preserved-then-index-eq0 : goal.loop-at-preserved-then-index-eq0
loop-at-preserved-then-index-eq0 c =
    let ws = c.self.inside.words.items in
    let inside : c.loop-at.at < length ws = omega (arith, c.self.inside.words.ok) in
    let z : get_or ws c.loop-at.at 0 ≡ 0 = sym (get_or_default ws c.loop-at.at c.index.result.now 0 inside) ∙ sym c.index.ensures ∙ c.if-index-eq0.true in
    λ k h m. elim (cases_lt k (64 * c.loop-at.at)) [
      | inl l ↦ c.loop-at.invariant k h l
      | inr l ↦ empty_word ws c.args.self.now c.loop-at.at k c.self.view_is z l (omega arith)
    ]

pub loop-at-preserved : goal.loop-at-preserved
loop-at-preserved c = λ k h m. elim (cases_lt k (64 * c.loop-at.at)) [
  | inl l ↦ c.loop-at.invariant k h l
  | inr l ↦ c.in_default.ensures k h l (omega arith)
]

pub returns : goal.returns
returns c =
    let s = bits_size c.self.inside.words.items c.args.self.now c.self.view_is in
    let l : length c.args.self.now ≤ 64 * c.loop-at.at = omega (arith, c.self.inside.words.ok) in
    λ k h. elim (cases_lt k (64 * c.loop-at.at)) [
      | inl m ↦ c.loop-at.invariant k h m
      | inr m ↦ no_bit c.args.self.now k (omega arith)
    ]
