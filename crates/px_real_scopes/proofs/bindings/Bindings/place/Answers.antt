use Rattle.std.proofs.Common.{sym, ap, subst, ◌∙◌, arith}
use Rattle.px_real_scopes.specs.declared.meaning.Binding.TheVariants as V
use Rattle.px_real_scopes.specs.declared.keys.Wanted.TheVariants as W
use Rattle.px_real_scopes.specs.Lookups.{says_place, placed}
use Rattle.px_real_scopes.specs.Views.{binding_view}
use Rattle.px_real_scopes.specs.Keys.{binds, binds_place, number_bound, IsLast}
use Rattle.px_real_scopes.proofs.NearestLemmas.{found, not_found, says_places}
use Rattle.px_real_scopes.proofs.bindings.Bindings.place.Goals as goal

pub returns-then-end-eq0 : goal.returns-then-end-eq0
returns-then-end-eq0 c =
    sym (not_found binding_view (binds_place c.args.site) (says_place c.args.site) number_bound (says_places c.args.site) c.self.inside.items.items V.Block c.last_bound-end.result
    (subst (λ ys. IsLast (λ b. binds (W.Place c.args.site) (binding_view b)) ys c.last_bound-end.result) c.deref.ensures.value c.last_bound-end.ensures) c.if-end-eq0.true)
    ∙ ap (λ bs. placed bs c.args.site) c.self.view_is

pub returns : goal.returns
returns c =
    c.number_in.ensures ∙ ap (λ z. number_bound (binding_view z)) c.index.ensures
    ∙ sym (found binding_view (binds_place c.args.site) (says_place c.args.site) number_bound (says_places c.args.site) c.self.inside.items.items c.index.result.now c.last_bound-end.result
    (subst (λ ys. IsLast (λ b. binds (W.Place c.args.site) (binding_view b)) ys c.last_bound-end.result) c.deref.ensures.value c.last_bound-end.ensures) (omega (arith, c.if-end-eq0.false)))
    ∙ ap (λ bs. placed bs c.args.site) c.self.view_is
