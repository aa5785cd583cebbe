use Rattle.std.proofs.Common.{◌∙◌, ap₂, ℕ, List, map}
use Rattle.std.specs.Prelude.{bytes_eq}
use Rattle.std.specs.Borrow.{Bor}
use Rattle.px_bodies.specs.Environment.{environment_of, with_proc_number}
use Rattle.px_bodies.specs.Lent.{lent_struct, lent_signature, lent_type, lent_name}
use Rattle.px_bodies.proofs.TableLemmas.{put, name_key, name_added}
use Rattle.px_bodies.proofs.environment.Environment.number_name.Goals as goal

pub returns-clause-ok : goal.returns-clause-ok
returns-clause-ok c =
    name_added (record { structs = map lent_struct c.self.inside.structs.entries; signatures = map lent_signature c.self.inside.signatures.entries; types = map lent_type c.self.inside.types.entries; procs = map lent_name c.self.inside.procs.entries }) _ c.as_slice.result.now c.args.number.0
    (λ other. put (λ (k : Bor (List ℕ)). k.now) (λ (n : ℕ). n) (bytes_eq other) _ c.args.number.0 _ _ (c.in_ok-insert.ensures.updates.0 (name_key other)))
    ∙ ap₂ (λ n s. with_proc_number (environment_of s) n c.args.number.0) c.as_slice.ensures c.self.view_is
