-- The lowered bodies of all kept procedures, as a list.
use Rattle.std.specs.Prelude.{◌≡◌, ℕ, suc, ◌<◌, List, [], ◌∷◌, length, map, Bool, is_none, Option, Some, None, option_map, slice_get, if◌then◌else◌}
use Rattle.px_base.specs.declared.trace.ProcId.{ProcId}
use Rattle.px_core.specs.declared.body.Body.{Body}
use Rattle.px_core.specs.CommandTree.{no_commands}
use Rattle.px_core.specs.BodyTree.{BodyTree, body_tree}
use Rattle.px_callgraph.specs.Callees.{IsCallee}
use Rattle.px_syntax.specs.ProgramTree.{ProcedureTree, ProgramTree}
use Rattle.px_lower.specs.LoweredProgram.{lowered}
use Rattle.px_findings.specs.Found.{body_in}

-- a body that does nothing
abbrev pub empty_body : BodyTree
empty_body = record { slots = 0; parameters = []; result = None; commands = no_commands }

abbrev pub body_or_empty : Option BodyTree → BodyTree
body_or_empty None = empty_body
body_or_empty (Some b) = b

-- The bodies of the procedures, and which of them are too large. In the place of one that is stands the empty body.
pub record AreLowered (procedures : List ProcedureTree) (bodies : List Body) (large : List Bool) : Type 0 where
  pub bodies_are : map body_tree bodies ≡ map (λ p. body_or_empty (body_in (Some p))) procedures
  pub large_are : large ≡ map (λ p. is_none (body_in (Some p))) procedures

-- the numbers of those that are marked, the first of which has the number n
abbrev pub marked_from : ℕ → List Bool → List ProcId
marked_from n [] = []
marked_from n (b ∷ bs) = if b then record { 0 = n } ∷ marked_from (suc n) bs else marked_from (suc n) bs

-- each function that a lowered body calls has a name
abbrev pub CallsNamed : ProgramTree → Type 0
CallsNamed P = (f g : ℕ) → IsCallee (λ f. option_map lowered (slice_get P.procedures f)) f g → g < length P.names
