-- Which item is good for a job.
use Rattle.std.specs.Prelude.{◌⊎◌, List, [], ◌∷◌}
use Rattle.std.specs.List.{AllByRecursion}
use Rattle.px_entry.specs.declared.tables.Table.{Table}
use Rattle.px_callgraph.specs.JobTree.{JobTree}
use Rattle.px_wire.specs.Messages.{request, Spells}
use Rattle.px_pool.specs.Outcomes.{GivesTable}
use Rattle.px_keep.specs.Items.{KeptItem}

-- the same job under ticket 0
abbrev pub unticketed : JobTree → JobTree
unticketed j = record { proc = j.proc; body = j.body; types = j.types; callees = j.callees; limits = j.limits; kinds = j.kinds; ticket = 0 }

-- The item is good for the job, and this is its table: what was asked is the job but for the ticket, and what was given is a reply to
-- that, with its kinds, of which each entry derives from it by the derivation beside it.
pub record IsGood (j : JobTree) (x : KeptItem) (t : Table) : Type 0 where
  pub asked : Spells x.asked (request (unticketed j))
  pub given : GivesTable 1 (unticketed j) x.given t

-- it isn't good
abbrev pub IsNoGood : JobTree → KeptItem → Type 0
IsNoGood j x = (t : Table) → ¬ IsGood j x t

-- none of them is good
abbrev pub AreNoGood : JobTree → List KeptItem → Type 0
AreNoGood j xs = AllByRecursion (IsNoGood j) xs

-- this is the table of the first that is good
abbrev pub IsFirstGood : JobTree → List KeptItem → Table → Type 0
IsFirstGood j [] t = ⊥
IsFirstGood j (x ∷ xs) t = IsGood j x t ⊎ (IsNoGood j x × IsFirstGood j xs t)
