-- Contents as they are found, and the outcomes of a test of contents.
use Rattle.std.specs.Prelude.{Bool, true, false, List, ◌++◌, Option, Some, None}
use Rattle.px_terms.specs.declared.variables.VarInfo.{VarInfo}
use Rattle.px_terms.specs.declared.conjuncts.Content.{Content}
use Rattle.px_terms.specs.declared.conjuncts.Content.TheVariants.{Unwritten, Word, Place, Cell}
use Rattle.px_core.specs.declared.command.Comparison.{Comparison}
use Rattle.px_core.specs.CommandTree.{CommandTree, assign, unset, read, test, choose, loop, leave, load, store, malloc, free, input, call, return, break, continue, stop, divide}
use Rattle.px_callgraph.specs.declared.states.Way.{Way}
use Rattle.px_callgraph.specs.declared.states.Way.TheVariants as way
use Rattle.px_callgraph.specs.Operations.{condition, contrary}
use Rattle.px_callgraph.specs.Commands.{open_if}

-- beyond the last slot nothing was written
abbrev pub or_unwritten : Option Content → Content
or_unwritten None = Unwritten
or_unwritten (Some c) = c

abbrev pub is_word : Content → Bool
is_word Unwritten = false
is_word (Word p) = true
is_word (Place a) = false
is_word (Cell x) = false

-- the outcomes that a test of two contents may have
abbrev pub test_listed : List VarInfo → Comparison → Content → Content → List Way
test_listed vars how a b = open_if vars (condition how a b) way.Then ++ open_if vars (contrary how a b) way.Else

-- it has the way `On` at most
abbrev pub only_goes_on : CommandTree → Bool
only_goes_on (assign to op a b) = true
only_goes_on (unset slot) = true
only_goes_on (read slot site) = false
only_goes_on (test to how a b site) = false
only_goes_on (choose slot then_do else_do) = true
only_goes_on (loop site head body step) = true
only_goes_on leave = true
only_goes_on (load to at field block site) = false
only_goes_on (store at field block from site) = false
only_goes_on (malloc to block site) = false
only_goes_on (free at block site) = false
only_goes_on (input to site) = true
only_goes_on (call to proc arguments site) = true
only_goes_on (return from) = true
only_goes_on break = true
only_goes_on continue = true
only_goes_on (stop word site) = false
only_goes_on (divide to a b site) = false
