-- The numbers of rules.
use Rattle.std.specs.Prelude.{ℕ, Bool, nat_eq, List, [], ◌∷◌, Option, slice_get}
use Rattle.px_entry.specs.declared.derivations.Rule.{Rule}
use Rattle.px_entry.specs.declared.derivations.Rule.TheVariants as rule

-- the place of a rule among all rules, from 0
abbrev pub rule_number : Rule → ℕ
rule_number rule.Assign = 0
rule_number rule.ReadWritten = 1
rule_number rule.ReadUnwritten = 2
rule_number rule.TestTrue = 3
rule_number rule.TestFalse = 4
rule_number rule.Unroll = 5
rule_number rule.LeaveLoop = 6
rule_number rule.Load = 7
rule_number rule.Store = 8
rule_number rule.NullAccess = 9
rule_number rule.FreedAccess = 10
rule_number rule.MissingLive = 11
rule_number rule.MissingFreed = 12
rule_number rule.Alloc = 13
rule_number rule.AllocNull = 14
rule_number rule.Free = 15
rule_number rule.FreeTwice = 16
rule_number rule.FreeNull = 17
rule_number rule.Input = 18
rule_number rule.Call = 19
rule_number rule.End = 20
rule_number rule.Divide = 21
rule_number rule.DivideZero = 22

-- all rules, in the order of their numbers
unfoldable pub all_rules : List Rule
all_rules =
    rule.Assign ∷ rule.ReadWritten ∷ rule.ReadUnwritten ∷ rule.TestTrue ∷ rule.TestFalse ∷ rule.Unroll ∷ rule.LeaveLoop ∷ rule.Load ∷ rule.Store ∷ rule.NullAccess
    ∷ rule.FreedAccess ∷ rule.MissingLive ∷ rule.MissingFreed ∷ rule.Alloc ∷ rule.AllocNull ∷ rule.Free ∷ rule.FreeTwice ∷ rule.FreeNull ∷ rule.Input ∷ rule.Call ∷ rule.End ∷ rule.Divide ∷ rule.DivideZero ∷ []

-- the rule that has a number, if one has it
unfoldable pub rule_of : ℕ → Option Rule
rule_of n = slice_get all_rules n

-- both are the same rule
abbrev pub same_rule : Rule → Rule → Bool
same_rule r q = nat_eq (rule_number r) (rule_number q)
