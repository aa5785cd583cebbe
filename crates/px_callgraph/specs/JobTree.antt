-- Jobs as plain data.
use Rattle.std.specs.Prelude.{ℕ, nat_eq, List, [], ◌∷◌, true, false}
use Rattle.px_base.specs.LimitNumbers.{LimitNumbers}
use Rattle.px_base.specs.declared.trace.ProcId.{ProcId}
use Rattle.px_terms.specs.declared.types.BlockType.{BlockType}
use Rattle.px_core.specs.BodyTree.{BodyTree, body_tree}
use Rattle.px_callgraph.specs.declared.jobs.Callee.{Callee}
use Rattle.px_callgraph.specs.declared.jobs.Callee.TheVariants.{Unknown}
use Rattle.px_callgraph.specs.declared.jobs.Job.{Job}

pub record JobTree : Type 0 where
  pub proc : ProcId
  pub body : BodyTree
  pub types : List BlockType
  pub callees : List (ProcId × Callee)
  pub limits : LimitNumbers
  pub kinds : List ℕ
  pub ticket : ℕ

-- a job as plain data
abbrev pub job_tree : Job → JobTree
job_tree j = record { proc = j.proc; body = body_tree j.body; types = j.types; callees = j.callees; limits = j.limits; kinds = j.kinds; ticket = j.ticket }

-- what is known of a procedure: nothing where the list doesn't name it
abbrev pub callee_in : List (ProcId × Callee) → ProcId → Callee
callee_in [] f = Unknown
callee_in (c ∷ rest) f = elim (nat_eq c.0.0 f.0) [ true ↦ c.1 | false ↦ callee_in rest f ]
