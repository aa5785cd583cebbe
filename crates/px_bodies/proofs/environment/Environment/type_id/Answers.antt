use Rattle.std.proofs.Common.{◌∙◌, ap, ℕ}
use Rattle.std.specs.Prelude.{unwrap_or}
use Rattle.px_terms.specs.declared.types.TypeId.{TypeId}
use Rattle.px_bodies.specs.Types.{same_type}
use Rattle.px_bodies.specs.Environment.{environment_of, type_id}
use Rattle.px_bodies.specs.Lent.{type_of}
use Rattle.px_bodies.proofs.TableLemmas.{lookup-keys, same_found}
use Rattle.px_bodies.proofs.environment.Environment.type_id.Goals as goal

pub returns : goal.returns
returns c =
    ap (λ (n : ℕ). let t : TypeId = record { 0 = n } in t)
    (c.unwrap_or.ensures ∙ ap (λ o. unwrap_or o 0) (c.copied.ensures ∙ c.get.ensures.value ∙ same_found c.args.of c.self.inside.types.entries ∙ lookup-keys type_of (same_type (type_of c.args.of)) c.self.inside.types.entries))
    ∙ ap (λ s. type_id (environment_of s) (type_of c.args.of)) c.self.view_is
