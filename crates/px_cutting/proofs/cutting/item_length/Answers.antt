use Rattle.std.proofs.Common.{◌≡◌, ◌<◌, length, subst, refl, sym, ap, ◌∙◌, get_or, Err}
use Rattle.px_lexer.specs.declared.token.Token.{Token}
use Rattle.px_lexer.specs.Lent.{as_token, as_tokens}
use Rattle.px_cutting.specs.Cutting.{Cuts, role}
use Rattle.px_cutting.proofs.CuttingExact.{at_directive, at_item, at_stop, at_end_of_file, fault_site}
use Rattle.px_cutting.proofs.ShapeLemmas.{role_is}
use Rattle.px_cutting.proofs.cutting.item_length.Goals as goal

pub returns-then-is_directive-clause-found : goal.returns-then-is_directive-clause-found
returns-then-is_directive-clause-found c =
    let ts = as_tokens c.args.tokens in
    let first = role_is ts 0 (as_token c.at-first.result) c.kind.result c.role_of.result c.role_of.ensures c.kind.ensures c.at-first.ensures.token in
    at_directive ts _ _ _ c.requires first c.is_directive.ensures c.if-is_directive.true

pub returns-in-Ends-clause-found : goal.returns-in-Ends-clause-found
returns-in-Ends-clause-found c =
    let ts = as_tokens c.args.tokens in
    let first = role_is ts 0 (as_token c.at-first.result) c.kind.result c.role_of.result c.role_of.ensures c.kind.ensures c.at-first.ensures.token in
    at_item ts _ _ _ c.requires first c.is_directive.ensures c.if-is_directive.false _ _ c.in_ok-count.ensures c.in-Ends.is

pub returns-in-Stops-clause-unbalanced : goal.returns-in-Stops-clause-unbalanced
returns-in-Stops-clause-unbalanced c = λ place h at.
    let ts = as_tokens c.args.tokens in
    let first = role_is ts 0 (as_token c.at-first.result) c.kind.result c.role_of.result c.role_of.ensures c.kind.ensures c.at-first.ensures.token in
    subst (λ z. Cuts at ts (Err z)) (fault_site _ _ _ refl h) (at_stop ts _ _ _ c.requires first c.is_directive.ensures c.if-is_directive.false _ _ c.in_ok-count.ensures c.in-Stops.is at)

pub returns-in-RunsOut-clause-unbalanced : goal.returns-in-RunsOut-clause-unbalanced
returns-in-RunsOut-clause-unbalanced c = λ place h at.
    let ts = as_tokens c.args.tokens in
    let t = as_token c.at-first.result in
    let first = role_is ts 0 t c.kind.result c.role_of.result c.role_of.ensures c.kind.ensures c.at-first.ensures.token in
    let there = ap (λ (z : Token). z.site) (sym (c.at-first.ensures.token t)) ∙ sym c.site.ensures in
    subst (λ z. Cuts at ts (Err z)) (there ∙ fault_site _ _ _ refl h) (at_end_of_file ts _ _ _ c.requires first c.is_directive.ensures c.if-is_directive.false _ c.in_ok-count.ensures c.in-RunsOut.is at)
