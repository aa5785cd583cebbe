use Rattle.std.proofs.Common.{◌≡◌, List, map, take}
use Rattle.std.specs.Prelude.{All}
use Rattle.px_plain.specs.Held.{HeldItem}
use Rattle.px_callgraph.specs.JobTree.{job_tree}
use Rattle.px_walks.specs.Walks.{walk_of}
use Rattle.px_explore.specs.Trails.{IsOn}
use Rattle.px_explore.specs.Thinned.{Thins, IsShut, MayBeThinned}
use Rattle.px_explore.proofs.thin.open_ways.Given as goal

-- those up to this number were asked of
abbrev pub invariant-loop-n : goal.invariant-loop-n
invariant-loop-n g l = record {
  on : (items : List HeldItem) → IsOn l.fn.trail (λ cs. All (λ b. (goal.Domain-dyn g (b.vtable, b.value)).holds b.value cs) l.fn.domains.items) items →
      IsOn l.trail (λ cs. All (λ b. (goal.Domain-dyn g (b.vtable, b.value)).holds b.value cs) l.domains.items) items;
  left : (job_tree l.job).kinds ≡ map (λ b. (goal.Domain-dyn g (b.vtable, b.value)).number b.value) l.fn.domains.items → MayBeThinned (job_tree l.job) l.walk.state →
      Thins (IsShut (job_tree l.job) (walk_of l.walk)) (take l.n l.ways) l.left.items;
  kinds : map (λ b. (goal.Domain-dyn g (b.vtable, b.value)).number b.value) l.domains.items ≡ map (λ b. (goal.Domain-dyn g (b.vtable, b.value)).number b.value) l.fn.domains.items;
}
