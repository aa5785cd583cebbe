-- Each rule is the one that has its number.
use Rattle.std.proofs.Common.{◌≡◌, Some, refl}
use Rattle.px_entry.specs.declared.derivations.Rule.{Rule}
use Rattle.px_entry.specs.declared.derivations.Rule.TheVariants as rule
use Rattle.px_entry.specs.Rules.{rule_number, all_rules, rule_of}

pub rule_of_number : (r : Rule) → rule_of (rule_number r) ≡ Some r
unfolding rule_of all_rules
rule_of_number rule.Assign = refl
rule_of_number rule.ReadWritten = refl
rule_of_number rule.ReadUnwritten = refl
rule_of_number rule.TestTrue = refl
rule_of_number rule.TestFalse = refl
rule_of_number rule.Unroll = refl
rule_of_number rule.LeaveLoop = refl
rule_of_number rule.Load = refl
rule_of_number rule.Store = refl
rule_of_number rule.NullAccess = refl
rule_of_number rule.FreedAccess = refl
rule_of_number rule.MissingLive = refl
rule_of_number rule.MissingFreed = refl
rule_of_number rule.Alloc = refl
rule_of_number rule.AllocNull = refl
rule_of_number rule.Free = refl
rule_of_number rule.FreeTwice = refl
rule_of_number rule.FreeNull = refl
rule_of_number rule.Input = refl
rule_of_number rule.Call = refl
rule_of_number rule.End = refl
rule_of_number rule.Divide = refl
rule_of_number rule.DivideZero = refl
