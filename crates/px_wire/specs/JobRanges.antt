-- Whether what a job names is there.
use Rattle.std.specs.Prelude.{ℕ, List, [], ◌∷◌, Option, Some, None, map, length, Bool, true, ◌&&◌, nat_lt}
use Rattle.std.specs.List.{list_all}
use Rattle.px_base.specs.declared.trace.ProcId.{ProcId}
use Rattle.px_callgraph.specs.declared.jobs.Callee.{Callee}
use Rattle.px_callgraph.specs.declared.jobs.Callee.TheVariants as C
use Rattle.px_callgraph.specs.JobTree.{JobTree}
use Rattle.px_wire.specs.TermRanges.{block_type_within}
use Rattle.px_wire.specs.TableRanges.{table_within}
use Rattle.px_wire.specs.BodyRanges.{body_within}

abbrev pub callee_within : ℕ → Callee → Bool
callee_within t (C.Table table) = table_within t table
callee_within t C.Cycle = true
callee_within t C.LeftOut = true
callee_within t C.Unknown = true

-- greater than the one before it, if there is one
abbrev pub is_after : Option ℕ → ℕ → Bool
is_after None x = true
is_after (Some before) x = nat_lt before x

abbrev pub rises_from : Option ℕ → List ℕ → Bool
rises_from before [] = true
rises_from before (x ∷ xs) = is_after before x && rises_from (Some x) xs

-- each number is greater than the one before it
abbrev pub rises : List ℕ → Bool
rises xs = rises_from None xs

-- the numbers of callees
abbrev pub numbers_of : List (ProcId × Callee) → List ℕ
numbers_of callees = map (λ c. c.0.0) callees

-- block types are those of the job, and the numbers of callees and the kinds rise
abbrev pub job_within : JobTree → Bool
job_within j =
    body_within (length j.types) j.body
    && (list_all (block_type_within (length j.types)) j.types
    && (list_all (λ c. callee_within (length j.types) c.1) j.callees
    && (rises (numbers_of j.callees)
    && rises j.kinds)))
