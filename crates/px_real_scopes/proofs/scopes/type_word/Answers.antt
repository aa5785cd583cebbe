use Rattle.std.proofs.Common.{map, ◌∙◌}
use Rattle.std.specs.Prelude.{codes}
use Rattle.px_real_declaring.specs.Trees.{specifier_tree}
use Rattle.px_real_scopes.specs.Knowing.{type_specifier, specifier_word}
use Rattle.px_real_scopes.proofs.TurnLemmas.{or_some, or_none}
use Rattle.px_real_scopes.proofs.MemberLemmas.{if_ok}
use Rattle.px_real_scopes.proofs.scopes.type_word.Goals as goal

pub returns-in-Some : goal.returns-in-Some
returns-in-Some c =
    if_ok c.from_slice.result
    (λ n e all. e ∙ c.as_slice.ensures ∙ c.specifier_word.ensures all
    ∙ or_some (type_specifier (map (specifier_tree all) c.args.specifiers.now)) (specifier_tree all c.in-Some.specifier.now) specifier_word (codes "int") (c.in-Some.ensures all)) c.from_slice.ensures

pub returns-in-None : goal.returns-in-None
returns-in-None c =
    if_ok c.from_slice-in-None.result (λ n e all. e ∙ or_none (type_specifier (map (specifier_tree all) c.args.specifiers.now)) specifier_word (codes "int") (c.in-None.ensures all)) c.from_slice-in-None.ensures
