use Rattle.std.proofs.Common.{take, sym, ap, ◌∙◌}
use Rattle.std.proofs.lemmas.List.{take-map}
use Rattle.px_real_scopes.specs.declared.meaning.Binding.{Binding}
use Rattle.px_real_scopes.specs.Views.{binding_view, bindings_view}
use Rattle.px_real_scopes.specs.Keys.{binding_key, keys_of, last_of}
use Rattle.px_real_scopes.proofs.CutLemmas.{cut_short}
use Rattle.px_real_scopes.proofs.bindings.Bindings.truncate.Goals as goal

pub invariant_of-self : goal.invariant_of-self
invariant_of-self c =
    c.truncate-2.ensures ∙ ap (take c.args.count) c.self.invariant ∙ take-map (λ (b : Binding). binding_key (binding_view b)) c.args.count c.self.inside.items.items ∙ sym (ap keys_of c.truncate.ensures.items)

pub returns : goal.returns
returns c = ap bindings_view c.truncate.ensures.items ∙ cut_short binding_view c.self.inside.items.items c.args.count ∙ ap (last_of c.args.count) c.self.view_is
