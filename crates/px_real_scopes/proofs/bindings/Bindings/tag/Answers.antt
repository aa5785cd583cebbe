use Rattle.std.proofs.Common.{sym, ap, subst, ◌∙◌, arith}
use Rattle.px_real_scopes.specs.declared.meaning.Binding.TheVariants as V
use Rattle.px_real_scopes.specs.declared.keys.Wanted.TheVariants as W
use Rattle.px_real_scopes.specs.Lookups.{says_tag, tag_of}
use Rattle.px_real_scopes.specs.Views.{binding_view}
use Rattle.px_real_scopes.specs.Keys.{binds, binds_tag, tag_bound, IsLast}
use Rattle.px_real_scopes.proofs.NearestLemmas.{found, not_found, says_tags}
use Rattle.px_real_scopes.proofs.bindings.Bindings.tag.Goals as goal

pub returns-then-end-eq0 : goal.returns-then-end-eq0
returns-then-end-eq0 c =
    sym (not_found binding_view (binds_tag c.args.word.now) (says_tag c.args.word.now) tag_bound (says_tags c.args.word.now) c.self.inside.items.items V.Block c.last_bound-end.result
    (subst (λ ys. IsLast (λ b. binds (W.Tag c.args.word) (binding_view b)) ys c.last_bound-end.result) c.deref.ensures.value c.last_bound-end.ensures) c.if-end-eq0.true)
    ∙ ap (λ bs. tag_of bs c.args.word.now) c.self.view_is

pub returns : goal.returns
returns c =
    c.tag_in.ensures ∙ ap (λ z. tag_bound (binding_view z)) c.index.ensures
    ∙ sym (found binding_view (binds_tag c.args.word.now) (says_tag c.args.word.now) tag_bound (says_tags c.args.word.now) c.self.inside.items.items c.index.result.now c.last_bound-end.result
    (subst (λ ys. IsLast (λ b. binds (W.Tag c.args.word) (binding_view b)) ys c.last_bound-end.result) c.deref.ensures.value c.last_bound-end.ensures) (omega (arith, c.if-end-eq0.false)))
    ∙ ap (λ bs. tag_of bs c.args.word.now) c.self.view_is
