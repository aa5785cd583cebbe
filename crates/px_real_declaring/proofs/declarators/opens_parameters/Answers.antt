use Rattle.std.proofs.Common.{drop, ap, ◌∙◌}
use Rattle.px_real_symbols.specs.Symbols.{see, seen}
use Rattle.px_real_declarations.specs.Roles.{begins_keyword}
use Rattle.px_real_declaring.proofs.RoleFronts.{opens_first, none_opens}
use Rattle.px_real_declaring.proofs.declarators.opens_parameters.Goals as goal

pub returns-in_default : goal.returns-in_default
returns-in_default g c = none_opens _ (drop c.args.at (seen c.args.on)) c.in_default.ensures

pub returns : goal.returns
returns g c =
    opens_first (g.T.TypeNames.named c.args.types.now) (drop c.args.at (seen c.args.on)) (see c.args.on.source.now c.in-Some.symbol, drop c.in-Some.field-0-1 (seen c.args.on)) _ _ _ c.in-Some.ensures c.eq-opens.ensures
    (c.begins_keyword-opens.ensures ∙ ap begins_keyword c.role.ensures) c.is_type_name-opens.ensures
