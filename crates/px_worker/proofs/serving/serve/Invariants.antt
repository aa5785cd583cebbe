use Rattle.std.proofs.Common.{◌≡◌, [], map}
use Rattle.std.specs.Prelude.{All}
use Rattle.px_worker.specs.Courses.{Stands}
use Rattle.px_worker.proofs.serving.serve.Given as goal

abbrev pub invariant-loop : goal.invariant-loop
invariant-loop g l = record {
  stands : Stands 2 (map (λ b. (goal.Domain-dyn g (b.vtable, b.value)).number b.value) l.initial.domains.items) (g.I.Source.told l.initial.source) (g.I.Source.told l.source) (g.K.Sink.told l.initial.sink) (g.K.Sink.told l.sink) l.course;
  read_count : g.I.Source.count l.source ≡ g.I.Source.count l.initial.source;
  write_count : g.K.Sink.count l.sink ≡ g.K.Sink.count l.initial.sink;
  clear : All (λ b. (goal.Domain-dyn g (b.vtable, b.value)).holds b.value []) l.domains.items;
  kinds : map (λ b. (goal.Domain-dyn g (b.vtable, b.value)).number b.value) l.domains.items ≡ map (λ b. (goal.Domain-dyn g (b.vtable, b.value)).number b.value) l.initial.domains.items;
}
