-- Tables with the number of live prefixes.
use Rattle.std.specs.Prelude.{◌≡◌, ◌+◌, length}
use Rattle.px_callgraph.specs.JobTree.{JobTree}
use Rattle.px_symexec.specs.Tables.{IsTable}
use Rattle.px_explore.specs.declared.results.Counted.{Counted}
use Rattle.px_explore.specs.Derived.{AreDerived}
use Rattle.px_explore.specs.Own.{AreOwn}

-- The table of the job, each entry with the derivation by its own path; and so many live prefixes are numbered, the end among them, as `HasLivePrefixes` says.
pub record IsCounted (j : JobTree) (c : Counted) : Type 0 where
  pub table : IsTable j c.table
  pub own : AreOwn j c.table.entries c.derivations
  pub derived : AreDerived j c.table.entries c.derivations
  pub live : c.live ≡ length table.live + length table.last
