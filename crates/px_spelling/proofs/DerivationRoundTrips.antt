-- Derivations are read again as they were written.
use Rattle.std.proofs.Common.{refl}
use Rattle.px_entry.specs.Rules.{rule_number}
use Rattle.px_entry.proofs.RuleLemmas.{rule_of_number}
use Rattle.px_spelling.specs.Numbers.{u32_bytes, IsU32, u32_at}
use Rattle.px_spelling.specs.Lists.{any_number}
use Rattle.px_spelling.specs.Derivations.{rule_bytes, IsRule, rule_at, rule_with, step_bytes, IsStep, step_at, step_of, derivation_bytes, IsDerivation, derivation_at, derivation_of}
use Rattle.px_spelling.proofs.RoundTrip.{RoundTrip, done_reads, ◌⊛◌, tagged, u32_round_trip, list_round_trip}

pub rule_round_trip : RoundTrip rule_bytes IsRule rule_at
unfolding rule_at rule_with
rule_round_trip r fits = tagged (rule_number r) rule_with (record { reads = λ rest. rw (rule_of_number r) refl })

pub step_round_trip : RoundTrip step_bytes IsStep step_at
unfolding step_at
step_round_trip s fits = done_reads step_of ⊛ rule_round_trip s.rule fits.0 ⊛ list_round_trip u32_bytes IsU32 u32_at any_number u32_round_trip s.choices fits.1

pub derivation_round_trip : RoundTrip derivation_bytes IsDerivation derivation_at
unfolding derivation_at
derivation_round_trip s fits = done_reads derivation_of ⊛ list_round_trip step_bytes IsStep step_at any_number step_round_trip s.steps fits
