use Rattle.std.proofs.Common.{◌≡◌, ap, map, subst, sym, ◌∙◌}
use Rattle.px_core.specs.CommandTree.{commands_of, command_tree}
use Rattle.px_core.proofs.CommandEquations.{tree-Assign, tree-Unset, tree-If, tree-Break, tree-Continue, tree-Read, tree-Test, tree-Leave, tree-Malloc, tree-Free, tree-Input, tree-Divide}
use Rattle.px_callgraph.specs.Derivations.{command_way}
use Rattle.px_check.proofs.named.command_way.Goals as goal

pub returns-in-Assign : goal.returns-in-Assign
returns-in-Assign c = subst (λ t. c.assign_way.result ≡ command_way c.args.atoms.now t c.args.rule c.args.choices.now) (sym (ap command_tree c.in-Assign.is ∙ tree-Assign c.in-Assign.to c.in-Assign.op c.in-Assign.a c.in-Assign.b)) (c.assign_way.ensures.assign c.args.atoms.now c.in-Assign.to c.in-Assign.op c.in-Assign.a c.in-Assign.b)

pub returns-in-Unset : goal.returns-in-Unset
returns-in-Unset c = subst (λ t. c.assign_way-in-Unset.result ≡ command_way c.args.atoms.now t c.args.rule c.args.choices.now) (sym (ap command_tree c.in-Unset.is ∙ tree-Unset c.in-Unset.to)) (c.assign_way-in-Unset.ensures.unset c.args.atoms.now c.in-Unset.to)

pub returns-in-If : goal.returns-in-If
returns-in-If c = subst (λ t. c.assign_way-in-If.result ≡ command_way c.args.atoms.now t c.args.rule c.args.choices.now) (sym (ap command_tree c.in-If.is ∙ tree-If c.in-If.slot c.in-If.then c.in-If.other)) (c.assign_way-in-If.ensures.choice c.args.atoms.now c.in-If.slot (commands_of (map command_tree c.in-If.then.items)) (commands_of (map command_tree c.in-If.other.items)))

pub returns-in-Break : goal.returns-in-Break
returns-in-Break c = subst (λ t. c.assign_way-in-Break.result ≡ command_way c.args.atoms.now t c.args.rule c.args.choices.now) (sym (ap command_tree c.in-Break.is ∙ tree-Break)) (c.assign_way-in-Break.ensures.broken c.args.atoms.now)

pub returns-in-Continue : goal.returns-in-Continue
returns-in-Continue c = subst (λ t. c.assign_way-in-Continue.result ≡ command_way c.args.atoms.now t c.args.rule c.args.choices.now) (sym (ap command_tree c.in-Continue.is ∙ tree-Continue)) (c.assign_way-in-Continue.ensures.continued c.args.atoms.now)

pub returns-in-Read : goal.returns-in-Read
returns-in-Read c = subst (λ t. c.read_way.result ≡ command_way c.args.atoms.now t c.args.rule c.args.choices.now) (sym (ap command_tree c.in-Read.is ∙ tree-Read c.in-Read.slot c.in-Read.site)) (c.read_way.ensures c.args.atoms.now c.in-Read.slot c.in-Read.site)

pub returns-in-Test : goal.returns-in-Test
returns-in-Test c = subst (λ t. c.test_way.result ≡ command_way c.args.atoms.now t c.args.rule c.args.choices.now) (sym (ap command_tree c.in-Test.is ∙ tree-Test c.in-Test.to c.in-Test.how c.in-Test.a c.in-Test.b c.in-Test.site)) (c.test_way.ensures c.args.atoms.now c.in-Test.to c.in-Test.how c.in-Test.a c.in-Test.b c.in-Test.site)

pub returns-in-Leave : goal.returns-in-Leave
returns-in-Leave c = subst (λ t. c.leave_way.result ≡ command_way c.args.atoms.now t c.args.rule c.args.choices.now) (sym (ap command_tree c.in-Leave.is ∙ tree-Leave)) (c.leave_way.ensures c.args.atoms.now)

pub returns-in-Malloc : goal.returns-in-Malloc
returns-in-Malloc c = subst (λ t. c.malloc_way.result ≡ command_way c.args.atoms.now t c.args.rule c.args.choices.now) (sym (ap command_tree c.in-Malloc.is ∙ tree-Malloc c.in-Malloc.to c.in-Malloc.block c.in-Malloc.site)) (c.malloc_way.ensures c.args.atoms.now c.in-Malloc.to c.in-Malloc.block c.in-Malloc.site)

pub returns-in-Free : goal.returns-in-Free
returns-in-Free c = subst (λ t. c.free_way.result ≡ command_way c.args.atoms.now t c.args.rule c.args.choices.now) (sym (ap command_tree c.in-Free.is ∙ tree-Free c.in-Free.at c.in-Free.block c.in-Free.site)) (c.free_way.ensures c.in-Free.at c.in-Free.block c.in-Free.site)

pub returns-in-Input : goal.returns-in-Input
returns-in-Input c = subst (λ t. c.input_way.result ≡ command_way c.args.atoms.now t c.args.rule c.args.choices.now) (sym (ap command_tree c.in-Input.is ∙ tree-Input c.in-Input.to c.in-Input.site)) (c.input_way.ensures c.args.atoms.now c.in-Input.to c.in-Input.site)

pub returns-in-Divide : goal.returns-in-Divide
returns-in-Divide c = subst (λ t. c.divide_way.result ≡ command_way c.args.atoms.now t c.args.rule c.args.choices.now) (sym (ap command_tree c.in-Divide.is ∙ tree-Divide c.in-Divide.to c.in-Divide.a c.in-Divide.b c.in-Divide.site)) (c.divide_way.ensures c.args.atoms.now c.in-Divide.to c.in-Divide.a c.in-Divide.b c.in-Divide.site)
