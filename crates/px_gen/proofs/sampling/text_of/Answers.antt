use Rattle.std.proofs.Common.{◌≡◌, ℕ, ◌+◌, List, ◌++◌, ◌∙◌, ap, sym, codes, arith, append_assoc, add-one}
use Rattle.px_gen.specs.Procedures.{state_after_procedure, state_before}
use Rattle.px_gen.specs.Samples.{line, procedure, first_procedures, sample_text}
use Rattle.px_gen.proofs.sampling.text_of.Goals as goal

-- the next procedure's text after that of the first ones
one_more : (start i s : ℕ) (old new : List ℕ) → old ≡ sample_text start i → s ≡ state_before start i → new ≡ old ++ procedure i s → new ≡ sample_text start (i + 1)
one_more start i s old new written state added =
    added ∙ ap (λ z. z ++ procedure i s) written ∙ ap (λ z. sample_text start i ++ procedure i z) state
    ∙ append_assoc (line (codes "#include <stdlib.h>")) (first_procedures start i) (procedure i (state_before start i))
    ∙ ap (sample_text start) (sym (add-one i))

pub loop-number-preserved : goal.loop-number-preserved
loop-number-preserved c =
    let start = c.args.start in
    let i = c.loop-number.number in
    let before = c.loop-number.invariant in
    record {
      written = one_more start i _ _ _ before.written before.state c.in_ok-put_drawn.ensures.text;
      state = c.put_drawn.ensures.state ∙ ap (state_after_procedure i) before.state ∙ ap (state_before start) (sym (add-one i));
    }

pub returns : goal.returns
returns c =
    let all : c.loop-number.number ≡ c.args.n = omega arith in
    ap (λ v. v.items) c.into_bytes.ensures.value ∙ c.loop-number.invariant.written ∙ ap (sample_text c.args.start) all
