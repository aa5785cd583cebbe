use Rattle.std.proofs.Common.{◌≡◌, [], map}
use Rattle.std.specs.Prelude.{All}
use Rattle.px_jobs.specs.Sources.{source_work}
use Rattle.px_keep.specs.Lent.{item_of}
use Rattle.px_keep.specs.Making.{AreMade}
use Rattle.px_keep.specs.Reused.{IsAnswer}
use Rattle.px_keep.proofs.reusing.reuse.Given as goal

abbrev pub invariant-loop-place : goal.invariant-loop-place
invariant-loop-place g l = record {
  made : AreMade (IsAnswer (map item_of l.lent)) (source_work (record { bodies = l.fn.bodies; types = l.fn.types; limits = l.fn.limits; kinds = l.fn.kinds; out = l.fn.out }) l.kept) l.order.items l.progress.parts.items l.progress.uses.items l.place;
  now : map (λ b. (goal.Domain-dyn g (b.vtable, b.value)).number b.value) l.domains.items ≡ l.fn.kinds;
  clear : All (λ b. (goal.Domain-dyn g (b.vtable, b.value)).holds b.value []) l.domains.items;
  first : map (λ b. (goal.Domain-dyn g (b.vtable, b.value)).number b.value) l.fn.domains.items ≡ l.fn.kinds;
}
