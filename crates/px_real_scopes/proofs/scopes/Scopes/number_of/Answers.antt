use Rattle.std.proofs.Common.{sym, ap, ◌∙◌}
use Rattle.px_real_scopes.specs.Lookups.{tag_of, number_in, number_of}
use Rattle.px_real_scopes.proofs.scopes.Scopes.number_of.Goals as goal

pub returns-in-Some : goal.returns-in-Some
returns-in-Some c =
    c.record_in.ensures ∙ ap number_in (c.tag.ensures ∙ ap (tag_of c.self.inside.bindings) c.as_slice.ensures ∙ ap (λ st. tag_of st.bindings c.in-Some.tag) c.self.view_is)
    ∙ sym (ap (λ z. number_of c.args.self.now.bindings z c.args.site) c.in-Some.is)
