-- The work that sources are, and their jobs.
use Rattle.std.proofs.Common.{◌≡◌, ℕ, ◌<◌, List, length, get_or, Bool, false, Option, Some, refl, sym, ap, ◌∙◌}
use Rattle.std.specs.Prelude.{option_map}
use Rattle.std.proofs.lemmas.Option.{slice_get_read, same_Some}
use Rattle.px_core.specs.declared.body.Body.{Body}
use Rattle.px_core.specs.BodyTree.{body_tree}
use Rattle.px_entry.specs.declared.tables.Table.{Table}
use Rattle.px_callgraph.specs.declared.jobs.Job.{Job}
use Rattle.px_callgraph.specs.JobTree.{job_tree}
use Rattle.px_callgraph.specs.CallGraphs.{bodies_in, IsGraphOf}
use Rattle.px_symexec.specs.One.{Work, IsJob}
use Rattle.px_jobs.specs.Plans.{is_among, IsPlan, AreCallees}
use Rattle.px_jobs.specs.Sources.{SourceParts, source_work}
use Rattle.px_jobs.proofs.OutLemmas.{flag_is}

pub plan_of : (s : SourceParts) (graph : List (List ℕ)) (flags : List Bool) → ((g : ℕ) → get_or flags g false ≡ is_among g s.out) → IsGraphOf (bodies_in s.bodies) graph → IsPlan (source_work s (length graph)) graph flags
plan_of s graph flags marks is = record { graph = is; kept = refl; out = λ f g calls. flag_is g s.out (get_or flags g false) (marks g) }

module _ (s : SourceParts) (kept : ℕ) (tables : ℕ → Option Table) (f : ℕ) (j : Job) (b : Body) (inside : f < length s.bodies) (at : b ≡ get_or s.bodies f b) where
  body_is : bodies_in s.bodies f ≡ Some (body_tree b)
  body_is = ap (option_map body_tree) (slice_get_read s.bodies (length s.bodies) f b refl inside at)

  pub job_from : j.proc.0 ≡ f → body_tree j.body ≡ body_tree b → j.types ≡ s.types → j.limits ≡ s.limits → j.kinds ≡ s.kinds → AreCallees (source_work s kept) tables f j.callees →
      IsJob (source_work s kept) tables f (job_tree j)
  job_from proc body types limits kinds callees = record {
    proc = proc;
    body = body_is ∙ ap Some (sym body);
    types = types;
    limits = limits;
    kinds = kinds;
    rising = callees.rising;
    all = callees.all;
    each = callees.each;
  }

  pub same_body : IsJob (source_work s kept) tables f (job_tree j) → body_tree j.body ≡ body_tree b
  same_body h = same_Some (body_tree j.body) (body_tree b) (sym h.body ∙ body_is)

pub callees_of_job : (w : Work) (tables : ℕ → Option Table) (f : ℕ) (j : Job) → IsJob w tables f (job_tree j) → AreCallees w tables f j.callees
callees_of_job w tables f j h = record { rising = h.rising; all = h.all; each = h.each }
