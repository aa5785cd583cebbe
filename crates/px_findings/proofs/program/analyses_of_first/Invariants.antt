use Rattle.std.proofs.Common.{◌≡◌, [], map, length}
use Rattle.std.specs.Prelude.{All}
use Rattle.px_syntax.specs.ProgramTree.{program_tree}
use Rattle.px_findings.specs.Found.{work_of}
use Rattle.px_findings.specs.Making.{AreUnderWay}
use Rattle.px_findings.proofs.program.analyses_of_first.Given as goal

abbrev pub invariant-loop-place : goal.invariant-loop-place
invariant-loop-place g l = record {
  under_way : AreUnderWay (work_of (program_tree l.program) l.fn.limits l.progress.shared.kinds) l.plan l.order.items l.progress l.place;
  now : map (λ b. (goal.Domain-dyn g (b.vtable, b.value)).number b.value) l.domains.items ≡ l.progress.shared.kinds;
  clear : All (λ b. (goal.Domain-dyn g (b.vtable, b.value)).holds b.value []) l.domains.items;
  places : length l.progress.explorations.items ≡ l.many;
  first : map (λ b. (goal.Domain-dyn g (b.vtable, b.value)).number b.value) l.fn.domains.items ≡ l.progress.shared.kinds;
}
