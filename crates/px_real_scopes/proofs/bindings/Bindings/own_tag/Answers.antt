use Rattle.std.proofs.Common.{length, sym, ap, subst, ◌∙◌, arith}
use Rattle.px_chains.specs.Ends.{IsEndOfKey}
use Rattle.px_real_scopes.specs.declared.keys.Wanted.TheVariants as W
use Rattle.px_real_scopes.specs.Lookups.{says_tag, tag_of, own_block}
use Rattle.px_real_scopes.specs.Views.{binding_view}
use Rattle.px_real_scopes.specs.Keys.{binds, binds_tag, tag_bound, block_key, IsLast}
use Rattle.px_real_scopes.proofs.NearestLemmas.{says_tags}
use Rattle.px_real_scopes.proofs.BlockLemmas.{own, not_own}
use Rattle.px_real_scopes.proofs.bindings.Bindings.own_tag.Goals as goal

pub returns-then-end-end_of : goal.returns-then-end-end_of
returns-then-end-end_of c =
    let w = c.args.word.now in
    sym (not_own c.self.inside.items.items c.end_of.result (subst (λ ks. IsEndOfKey ks block_key (length ks) c.end_of.result) c.self.invariant c.end_of.ensures)
    (binds_tag w) (says_tag w) tag_bound (says_tags w) c.last_bound-end.result
    (subst (λ ys. IsLast (λ b. binds (W.Tag c.args.word) (binding_view b)) ys c.last_bound-end.result) c.deref.ensures.value c.last_bound-end.ensures) c.if-end-end_of.true)
    ∙ ap (λ bs. tag_of (own_block bs) w) c.self.view_is

pub returns : goal.returns
returns c =
    let w = c.args.word.now in
    c.tag_in.ensures ∙ ap (λ z. tag_bound (binding_view z)) c.index.ensures
    ∙ sym (own c.self.inside.items.items c.end_of.result (subst (λ ks. IsEndOfKey ks block_key (length ks) c.end_of.result) c.self.invariant c.end_of.ensures)
    (binds_tag w) (says_tag w) tag_bound (says_tags w) c.last_bound-end.result
    (subst (λ ys. IsLast (λ b. binds (W.Tag c.args.word) (binding_view b)) ys c.last_bound-end.result) c.deref.ensures.value c.last_bound-end.ensures) c.index.result.now (omega (arith, c.if-end-end_of.false)))
    ∙ ap (λ bs. tag_of (own_block bs) w) c.self.view_is
