use Rattle.std.proofs.Common.{sym, ap, ◌∙◌}
use Rattle.std.proofs.lemmas.Bool.{not-false, not-true}
use Rattle.px_real_declarations.specs.Roles.{same_role}
use Rattle.px_real_declaring.proofs.RoleFronts.{role_front_of, no_role_front}
use Rattle.px_real_declaring.proofs.groups.role_front.Goals as goal

pub returns-then-ne : goal.returns-then-ne
returns-then-ne c = no_role_front (same_role c.args.wanted) _ _ c.in_ok-symbol.ensures (ap (same_role c.args.wanted) (sym c.role.ensures) ∙ not-true _ (sym c.ne.ensures ∙ c.if-ne.true))

pub returns : goal.returns
returns c = role_front_of (same_role c.args.wanted) _ _ c.in_ok-symbol.ensures (ap (same_role c.args.wanted) (sym c.role.ensures) ∙ not-false _ (sym c.ne.ensures ∙ c.if-ne.false))
