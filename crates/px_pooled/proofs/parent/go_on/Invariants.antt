use Rattle.std.proofs.Common.{◌≡◌, ◌≤◌, [], map}
use Rattle.std.specs.Prelude.{All}
use Rattle.px_pieces.specs.Histories.{publications}
use Rattle.px_pooled.specs.Making.{AreOfParent, IsIdle}
use Rattle.px_pooled.proofs.parent.go_on.Given as goal

-- the book is a later one of the same parts, in which each turn has published something
abbrev pub invariant-loop-turn : goal.invariant-loop-turn
invariant-loop-turn g l = record {
  sources : l.book.sources ≡ l.fn.book.sources;
  graph : l.book.graph ≡ l.fn.book.graph;
  alone : AreOfParent l.fn.book.history → AreOfParent l.book.history;
  idle : IsIdle l.fn.book → IsIdle l.book;
  many : l._turn ≤ publications l.book.history;
  clear : All (λ b. (goal.Domain-dyn g (b.vtable, b.value)).holds b.value []) l.domains.items;
  kinds : map (λ b. (goal.Domain-dyn g (b.vtable, b.value)).number b.value) l.domains.items ≡ map (λ b. (goal.Domain-dyn g (b.vtable, b.value)).number b.value) l.fn.domains.items;
}
