use Rattle.std.proofs.Common.{◌≡◌, [], map}
use Rattle.std.specs.Prelude.{All}
use Rattle.px_jobs.specs.Sources.{source_work}
use Rattle.px_keep.specs.Making.{AreMade}
use Rattle.px_keep.specs.Keeping.{IsOwn, KeepSoFar}
use Rattle.px_keep.proofs.keeping.keep.Given as goal

abbrev pub invariant-loop-place : goal.invariant-loop-place
invariant-loop-place g l = record {
  made : AreMade IsOwn (source_work (record { bodies = l.fn.bodies; types = l.fn.types; limits = l.fn.limits; kinds = l.fn.kinds; out = l.fn.out }) l.kept) l.order.items l.progress.parts.items l.progress.uses.items l.place;
  keeps : KeepSoFar (source_work (record { bodies = l.fn.bodies; types = l.fn.types; limits = l.fn.limits; kinds = l.fn.kinds; out = l.fn.out }) l.kept) l.order.items l.progress.parts.items l.bytes.items l.place;
  now : map (λ b. (goal.Domain-dyn g (b.vtable, b.value)).number b.value) l.domains.items ≡ l.fn.kinds;
  clear : All (λ b. (goal.Domain-dyn g (b.vtable, b.value)).holds b.value []) l.domains.items;
  first : map (λ b. (goal.Domain-dyn g (b.vtable, b.value)).number b.value) l.fn.domains.items ≡ l.fn.kinds;
}
