-- What the jobs of a program's procedures are made of, as plain data.
use Rattle.std.specs.Prelude.{◌≡◌, ℕ, List, map}
use Rattle.px_base.specs.LimitNumbers.{LimitNumbers}
use Rattle.px_base.specs.declared.trace.ProcId.{ProcId}
use Rattle.px_terms.specs.declared.types.BlockType.{BlockType}
use Rattle.px_core.specs.declared.body.Body.{Body}
use Rattle.px_core.specs.BodyTree.{body_tree}
use Rattle.px_callgraph.specs.CallGraphs.{bodies_in}
use Rattle.px_symexec.specs.One.{Work}

-- The bodies of the kept procedures, an empty one in the place of each that is too large; and what is left out.
pub record SourceParts : Type 0 where
  pub bodies : List Body
  pub types : List BlockType
  pub limits : LimitNumbers
  pub kinds : List ℕ
  pub out : List ProcId

-- the work that they are, where so many procedures are kept
abbrev pub source_work : SourceParts → ℕ → Work
source_work s kept = record { bodies = bodies_in s.bodies; kept = kept; out = s.out; types = s.types; limits = s.limits; kinds = s.kinds }

-- both are made of equal parts, bodies compared by what they say
pub record AreEqualSources (s t : SourceParts) : Type 0 where
  pub bodies : map body_tree s.bodies ≡ map body_tree t.bodies
  pub types : s.types ≡ t.types
  pub limits : s.limits ≡ t.limits
  pub kinds : s.kinds ≡ t.kinds
  pub out : s.out ≡ t.out
