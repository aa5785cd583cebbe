use Rattle.std.proofs.Common.{option_map, Some, None, ap, ◌∙◌}
use Rattle.px_real_declaring.specs.Trees.{declarator_tree}
use Rattle.px_real_types.specs.Declarators.{signature_tree}
use Rattle.px_real_types.proofs.DeclaratorLemmas.{own_by}
use Rattle.px_real_types.proofs.declarators.signature_of.Goals as goal

pub returns-in_err-name : goal.returns-in_err-name
returns-in_err-name c = λ all.
    ap (option_map (signature_tree all)) c.from_residual.ensures
    ∙ own_by all (declarator_tree all c.args.core.now) c.args.first c.in-Function.site c.in-Function.held c.args.shape None c.in-Function.is (c.in_err-name.ensures all)

pub returns : goal.returns
returns c = λ all.
    own_by all (declarator_tree all c.args.core.now) c.args.first c.in-Function.site c.in-Function.held c.args.shape (Some (c.in_ok-name.name.now, c.in_ok-name.site)) c.in-Function.is (c.in_ok-name.ensures all)
