use Rattle.std.proofs.Common.{[], map, if◌then◌else◌, ap, ◌∙◌}
use Rattle.px_real_declaring.specs.Trees.{declaration_tree}
use Rattle.px_real_types.specs.Scopes.{texts}
use Rattle.px_real_scopes.specs.Functions.{all_types}
use Rattle.px_real_scopes.proofs.MemberLemmas.{if_ok}
use Rattle.px_real_scopes.proofs.functions.parameter_types.Goals as goal

pub returns-then-is_none : goal.returns-then-is_none
returns-then-is_none c =
    c.new.ensures.items ∙ ap (λ b. if b then [] else all_types c.args.scopes.now (map (declaration_tree (texts c.args.on)) c.args.parameters.now)) (c.if-is_none.ensures (texts c.args.on))

pub returns : goal.returns
returns c =
    if_ok c.all_types.result
    (λ ts e. e ∙ ap (λ b. if b then [] else all_types c.args.scopes.now (map (declaration_tree (texts c.args.on)) c.args.parameters.now)) (c.if-is_none.ensures (texts c.args.on))) c.all_types.ensures
