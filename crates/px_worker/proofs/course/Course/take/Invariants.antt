use Rattle.std.proofs.Common.{◌≡◌, ◌-◌, ◌≤◌, [], length, map, take}
use Rattle.std.specs.Prelude.{All}
use Rattle.px_worker.specs.Courses.{IsOpen, OnAfter}
use Rattle.px_worker.proofs.course.Course.take.Given as goal

abbrev pub invariant-loop-from : goal.invariant-loop-from
invariant-loop-from g l = record {
  within : l.from ≤ length l.piece;
  on : OnAfter l.known (map (λ b. (goal.Domain-dyn g (b.vtable, b.value)).number b.value) l.initial.domains.items) l.initial.self l.self (take l.from l.piece) (g.K.Sink.told l.initial.sink) (g.K.Sink.told l.sink);
  part : IsOpen l.self.feeder;
  count : g.K.Sink.count l.sink ≡ g.K.Sink.count l.initial.sink;
  clear : All (λ b. (goal.Domain-dyn g (b.vtable, b.value)).holds b.value []) l.domains.items;
  kinds : map (λ b. (goal.Domain-dyn g (b.vtable, b.value)).number b.value) l.domains.items ≡ map (λ b. (goal.Domain-dyn g (b.vtable, b.value)).number b.value) l.initial.domains.items;
}

abbrev pub decreases-loop-from : goal.decreases-loop-from
decreases-loop-from g l = length l.piece - l.from
