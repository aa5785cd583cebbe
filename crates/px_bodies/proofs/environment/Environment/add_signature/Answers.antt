use Rattle.std.proofs.Common.{◌∙◌, ap₂, ℕ, List, map}
use Rattle.std.specs.Prelude.{bytes_eq}
use Rattle.std.specs.Borrow.{Bor}
use Rattle.px_bodies.specs.Environment.{environment_of, signature_of, with_signature}
use Rattle.px_bodies.specs.Lent.{lent_struct, lent_signature, lent_type, lent_name}
use Rattle.px_bodies.specs.declared.environment.Prototype.{Prototype}
use Rattle.px_bodies.proofs.TableLemmas.{put, name_key, signature_added}
use Rattle.px_bodies.proofs.environment.Environment.add_signature.Goals as goal

pub returns-clause-ok : goal.returns-clause-ok
returns-clause-ok c =
    signature_added (record { structs = map lent_struct c.self.inside.structs.entries; signatures = map lent_signature c.self.inside.signatures.entries; types = map lent_type c.self.inside.types.entries; procs = map lent_name c.self.inside.procs.entries }) _ c.as_slice.result.now (signature_of c.args.returns.now c.args.parameters.now)
    (λ other. put (λ (k : Bor (List ℕ)). k.now) (λ (p : Prototype). signature_of p.result.now p.parameters.now) (bytes_eq other) _ (record { result = c.args.returns; parameters = c.args.parameters }) _ _ (c.in_ok-insert.ensures.updates.0 (name_key other)))
    ∙ ap₂ (λ n s. with_signature (environment_of s) n (signature_of c.args.returns.now c.args.parameters.now)) c.as_slice.ensures c.self.view_is
