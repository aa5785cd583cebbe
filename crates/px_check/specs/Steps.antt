-- What a step names of what comes next.
use Rattle.std.specs.Prelude.{ℕ, ◌&&◌, Bool, true, false, nat_eq, List, [], ◌∷◌, Option, Some, None}
use Rattle.px_core.specs.CommandTree.{call}
use Rattle.px_core.specs.Control.{Item, Act, AfterHead, AfterBody, AfterStep}
use Rattle.px_entry.specs.declared.atoms.Atom.{Atom}
use Rattle.px_entry.specs.declared.derivations.Rule.{Rule}
use Rattle.px_entry.specs.declared.derivations.Rule.TheVariants as rule
use Rattle.px_entry.specs.declared.derivations.Step.{Step}
use Rattle.px_entry.specs.Rules.{same_rule}
use Rattle.px_callgraph.specs.declared.states.Way.{Way}
use Rattle.px_callgraph.specs.declared.states.Way.TheVariants as way
use Rattle.px_callgraph.specs.JobTree.{JobTree}
use Rattle.px_callgraph.specs.Alternatives.{Walk, Leads}
use Rattle.px_callgraph.specs.Derivations.{alone, command_way, take_listed}

-- whether a call comes next
abbrev pub is_call : List Item → Bool
is_call (Act (call to proc arguments site) ∷ k) = true
is_call _ = false

-- the way that a step takes there, where no call comes next
abbrev pub named_way : List Atom → List Item → Rule → List ℕ → Option Way
named_way atoms [] r cs = None
named_way atoms (Act c ∷ k) r cs = command_way atoms c r cs
named_way atoms (AfterHead l ∷ k) rule.Unroll cs = alone cs way.On
named_way atoms (AfterHead l ∷ k) _ cs = None
named_way atoms (AfterBody l ∷ k) r cs = None
named_way atoms (AfterStep l ∷ k) r cs = None

-- where a way leads that was named; nothing where none was
abbrev pub take_named : JobTree → Walk → Option Way → Option Leads
take_named j w None = None
take_named j w (Some name) = take_listed j w name

-- the choices are this number alone
abbrev pub is_only : List ℕ → ℕ → Bool
is_only choices n = elim choices [ [] ↦ false | c ∷ cs ↦ nat_eq c n && elim cs [ [] ↦ true | _ ∷ _ ↦ false ] ]

-- there is a next step, and it passes a test
abbrev pub is_step_that : (Step → Bool) → List Step → Bool
is_step_that test [] = false
is_step_that test (st ∷ steps) = test st

-- the rule is that of a call
abbrev pub is_call_rule : Rule → Bool
is_call_rule r = same_rule r rule.Call

-- the step is a valid `End`
abbrev pub is_end : Step → Bool
is_end st = same_rule st.rule rule.End && elim st.choices [ [] ↦ true | _ ∷ _ ↦ false ]
