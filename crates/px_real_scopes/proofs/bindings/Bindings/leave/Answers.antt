use Rattle.std.proofs.Common.{◌-◌, length, sym, ap, subst, ◌∙◌}
use Rattle.px_chains.specs.Ends.{IsEndOfKey}
use Rattle.px_real_scopes.specs.Lookups.{behind_block}
use Rattle.px_real_scopes.specs.Views.{binding_view}
use Rattle.px_real_scopes.specs.Keys.{block_key, last_of}
use Rattle.px_real_scopes.proofs.CutLemmas.{cut_short}
use Rattle.px_real_scopes.proofs.BlockLemmas.{behind_is}
use Rattle.px_real_scopes.proofs.bindings.Bindings.leave.Goals as goal

pub returns : goal.returns
returns c =
    let xs = c.self.inside.items.items in
    let e = c.end_of-block.result in
    c.truncate.ensures ∙ ap (λ n. last_of n c.args.self.now) c.saturating_sub.ensures ∙ ap (last_of (e - 1)) (sym c.self.view_is) ∙ sym (cut_short binding_view xs (e - 1))
    ∙ sym (behind_is xs e (subst (λ ks. IsEndOfKey ks block_key (length ks) e) c.self.invariant c.end_of-block.ensures)) ∙ ap behind_block c.self.view_is
