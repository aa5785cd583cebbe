use Rattle.std.proofs.Common.{◌∙◌, ap, map}
use Rattle.px_bodies.specs.Environment.{environment_of, with_type_number}
use Rattle.px_bodies.specs.Lent.{type_of, lent_struct, lent_signature, lent_type, lent_name}
use Rattle.px_bodies.proofs.TableLemmas.{type_put, type_added}
use Rattle.px_bodies.proofs.environment.Environment.number_type.Goals as goal

pub returns-clause-ok : goal.returns-clause-ok
returns-clause-ok c =
    type_added (record { structs = map lent_struct c.self.inside.structs.entries; signatures = map lent_signature c.self.inside.signatures.entries; types = map lent_type c.self.inside.types.entries; procs = map lent_name c.self.inside.procs.entries })
    _ (type_of c.args.of) c.args.number.0 (type_put c.args.of c.args.number.0 _ _ c.in_ok-insert.ensures.updates.0)
    ∙ ap (λ s. with_type_number (environment_of s) (type_of c.args.of) c.args.number.0) c.self.view_is
