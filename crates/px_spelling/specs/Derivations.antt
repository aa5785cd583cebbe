-- Derivations.
use Rattle.std.specs.Prelude.{ℕ, List, [], ◌∷◌, ◌++◌, option_map, ⊤}
use Rattle.px_entry.specs.declared.derivations.Rule.{Rule}
use Rattle.px_entry.specs.declared.derivations.Step.{Step}
use Rattle.px_entry.specs.declared.derivations.Derivation.{Derivation}
use Rattle.px_entry.specs.Rules.{rule_number, rule_of}
use Rattle.px_spelling.specs.Reading.{Reader, ◌>>=◌, ◌<*>◌, done}
use Rattle.px_spelling.specs.Numbers.{u8_at, u32_bytes, IsU32, u32_at}
use Rattle.px_spelling.specs.Lists.{list_bytes, IsList, list_at, any_number}

-- the rule of a step: its number
abbrev pub rule_bytes : Rule → List ℕ
rule_bytes r = rule_number r ∷ []

abbrev pub IsRule : Rule → Type 0
IsRule x = ⊤

unfoldable pub rule_with : ℕ → Reader Rule
rule_with number = λ bytes. option_map (λ r. (r, bytes)) (rule_of number)

unfoldable pub rule_at : Reader Rule
rule_at = u8_at >>= rule_with

-- a step and its choices
abbrev pub step_bytes : Step → List ℕ
step_bytes s = rule_bytes s.rule ++ list_bytes u32_bytes s.choices

abbrev pub IsStep : Step → Type 0
IsStep s = IsRule s.rule × IsList IsU32 any_number s.choices

abbrev pub step_of : Rule → List ℕ → Step
step_of rule choices = record { rule = rule; choices = choices }

unfoldable pub step_at : Reader Step
step_at = done step_of <*> rule_at <*> list_at u32_at any_number

-- a derivation
abbrev pub derivation_bytes : Derivation → List ℕ
derivation_bytes s = list_bytes step_bytes s.steps

abbrev pub IsDerivation : Derivation → Type 0
IsDerivation s = IsList IsStep any_number s.steps

abbrev pub derivation_of : List Step → Derivation
derivation_of steps = record { steps = steps }

unfoldable pub derivation_at : Reader Derivation
derivation_at = done derivation_of <*> list_at step_at any_number
