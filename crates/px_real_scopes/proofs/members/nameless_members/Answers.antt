use Rattle.std.proofs.Common.{List, None, map, option_map, ap, ◌∙◌}
use Rattle.std.specs.Borrow.{Bor}
use Rattle.px_expressions.specs.Reading.{or_else}
use Rattle.px_real_declaring.specs.Trees.{specifier_tree}
use Rattle.px_real_scopes.specs.declared.meaning.NamedMember.{NamedMember}
use Rattle.px_real_scopes.specs.Lookups.{members_of}
use Rattle.px_real_scopes.specs.Knowing.{type_specifier}
use Rattle.px_real_scopes.specs.Entering.{nameless_number}
use Rattle.px_real_scopes.specs.Views.{member_view}
use Rattle.px_real_scopes.proofs.TurnLemmas.{or_some, or_none}
use Rattle.px_real_scopes.proofs.members.nameless_members.Goals as goal

pub returns-in_err-specifier : goal.returns-in_err-specifier
returns-in_err-specifier c = λ all.
    ap (option_map (λ (ms : Bor (List NamedMember)). map member_view ms.now)) c.from_residual.ensures
    ∙ or_none (type_specifier (map (specifier_tree all) c.args.specifiers.now)) (λ s. or_else (nameless_number c.args.scopes.now.bindings s) (members_of c.args.scopes.now) None) None (c.in_err-specifier.ensures all)

pub returns-in_err-number : goal.returns-in_err-number
returns-in_err-number c = λ all.
    ap (option_map (λ (ms : Bor (List NamedMember)). map member_view ms.now)) c.from_residual-in_err-number.ensures
    ∙ or_none (nameless_number c.args.scopes.now.bindings (specifier_tree all c.in_ok-specifier.specifier.now)) (members_of c.args.scopes.now) None (c.in_err-number.ensures all)
    ∙ or_some (type_specifier (map (specifier_tree all) c.args.specifiers.now)) (specifier_tree all c.in_ok-specifier.specifier.now) (λ s. or_else (nameless_number c.args.scopes.now.bindings s) (members_of c.args.scopes.now) None) None
    (c.in_ok-specifier.ensures all)

pub returns : goal.returns
returns c = λ all.
    c.members.ensures ∙ or_some (nameless_number c.args.scopes.now.bindings (specifier_tree all c.in_ok-specifier.specifier.now)) c.in_ok-number.number (members_of c.args.scopes.now) None (c.in_ok-number.ensures all)
    ∙ or_some (type_specifier (map (specifier_tree all) c.args.specifiers.now)) (specifier_tree all c.in_ok-specifier.specifier.now) (λ s. or_else (nameless_number c.args.scopes.now.bindings s) (members_of c.args.scopes.now) None) None
    (c.in_ok-specifier.ensures all)
