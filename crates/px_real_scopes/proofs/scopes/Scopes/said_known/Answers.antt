use Rattle.std.proofs.Common.{map, ◌∙◌}
use Rattle.px_real_declaring.specs.Trees.{specifier_tree}
use Rattle.px_real_types.specs.Types.{unknown}
use Rattle.px_real_scopes.specs.Knowing.{type_specifier, specifier_known}
use Rattle.px_real_scopes.proofs.TurnLemmas.{or_some, or_none}
use Rattle.px_real_scopes.proofs.scopes.Scopes.said_known.Goals as goal

pub returns-in-Some : goal.returns-in-Some
returns-in-Some c = λ all.
    c.specifier_known.ensures all ∙ or_some (type_specifier (map (specifier_tree all) c.args.specifiers.now)) (specifier_tree all c.in-Some.specifier.now) (specifier_known c.args.self.now) unknown (c.in-Some.ensures all)

pub returns-in-None : goal.returns-in-None
returns-in-None c = λ all. c.unknown.ensures ∙ or_none (type_specifier (map (specifier_tree all) c.args.specifiers.now)) (specifier_known c.args.self.now) unknown (c.in-None.ensures all)
