use Rattle.std.proofs.Common.{◌≡◌}
use Rattle.std.specs.String.{string_bytes}
use Rattle.px_gen.specs.Procedures.{state_before}
use Rattle.px_gen.specs.Samples.{sample_text}
use Rattle.px_gen.proofs.sampling.text_of.Given as goal

abbrev pub invariant-loop-number : goal.invariant-loop-number
invariant-loop-number l = record {
  written : string_bytes l.text ≡ sample_text l.start l.number;
  state : l.draws.state ≡ state_before l.start l.number;
}
