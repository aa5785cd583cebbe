use Rattle.std.proofs.Common.{◌∙◌, ap, ap₂, ℕ, List}
use Rattle.std.specs.Prelude.{bytes_eq, unwrap_or}
use Rattle.std.specs.Borrow.{Bor}
use Rattle.px_base.specs.declared.trace.ProcId.{ProcId}
use Rattle.px_bodies.specs.Environment.{environment_of, proc_id}
use Rattle.px_bodies.proofs.TableLemmas.{lookup-keys}
use Rattle.px_bodies.proofs.environment.Environment.proc_id.Goals as goal

pub returns : goal.returns
returns c =
    ap (λ (n : ℕ). let p : ProcId = record { 0 = n } in p)
    (c.unwrap_or.ensures ∙ ap (λ o. unwrap_or o 0) (c.copied.ensures ∙ c.get.ensures.value ∙ lookup-keys (λ (k : Bor (List ℕ)). k.now) (bytes_eq c.as_slice.result.now) c.self.inside.procs.entries))
    ∙ ap₂ (λ n s. proc_id (environment_of s) n) c.as_slice.ensures c.self.view_is
