use Rattle.std.proofs.Common.{◌≡◌, ℕ, suc, ◌+◌, ◌<◌, Bool, true, false, List, ◌∷◌, length, get_or, drop, drop-cons, Option, Some, None, option_map, refl, ap, ◌∙◌, arith}
use Rattle.px_lexer.specs.Scanning.{one_more}
use Rattle.px_real_tokens.specs.Scanning.{quote_end}
use Rattle.px_real_tokens.proofs.ends.quote_end.Goals as goal

after_one : (i : ℕ) (o : Option ℕ) → option_map (λ n. i + n) (one_more o) ≡ option_map (λ n. i + 1 + n) o
after_one i (Some n) = let e : i + suc n ≡ i + 1 + n = omega arith in rw e refl
after_one i None = refl

-- the byte after a backslash is passed over
escaped_step : (q i : ℕ) (bytes : List ℕ) (escaped : Bool) (o : Option ℕ) → i < length bytes → escaped ≡ true → o ≡ option_map (λ n. i + n) (quote_end q escaped (drop i bytes)) →
    o ≡ option_map (λ n. i + 1 + n) (quote_end q false (drop (i + 1) bytes))
unfolding quote_end
escaped_step q i bytes escaped o lt h e =
    let next : suc i ≡ i + 1 = omega arith in
    let here : drop i bytes ≡ get_or bytes i 0 ∷ drop (i + 1) bytes = drop-cons bytes i 0 lt ∙ ap (λ k. get_or bytes i 0 ∷ drop k bytes) next in
    let step : quote_end q escaped (drop i bytes) ≡ one_more (quote_end q false (drop (i + 1) bytes)) = rw (h, here) refl in
    e ∙ ap (option_map (λ n. i + n)) step ∙ after_one i (quote_end q false (drop (i + 1) bytes))

pub loop-index-preserved-then-escaped : goal.loop-index-preserved-then-escaped
loop-index-preserved-then-escaped c = escaped_step c.args.quote c.loop-index.index c.args.bytes.now c.loop-index.escaped _ c.loop-index-test.true c.if-escaped.true c.loop-index.invariant
