use Rattle.std.proofs.Common.{sym, ap, ◌∙◌}
use Rattle.px_real_declaring.specs.Trees.{specifier_tree}
use Rattle.px_real_scopes.specs.Lookups.{known_type}
use Rattle.px_real_scopes.specs.Knowing.{specifier_known}
use Rattle.px_real_scopes.proofs.scopes.Scopes.specifier_known.Goals as goal

pub returns-in-TypeName : goal.returns-in-TypeName
returns-in-TypeName c = λ all.
    c.known_type.ensures ∙ ap (known_type c.args.self.now.bindings) c.as_slice.ensures ∙ sym (ap (λ z. specifier_known c.args.self.now (specifier_tree all z)) c.in-TypeName.is)
