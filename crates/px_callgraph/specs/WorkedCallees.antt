-- Callees of small bodies, worked by hand.
use Rattle.std.specs.Prelude.{ℕ, zero, suc, List, [], ◌∷◌, Option, Some, None}
use Rattle.px_core.specs.CommandTree.{CommandTree, commands_of, choose, loop, call}
use Rattle.px_core.specs.BodyTree.{BodyTree}
use Rattle.px_callgraph.specs.WorkedStates.{here, proc}
use Rattle.px_callgraph.specs.Callees.{IsCallee, AreTogether}

abbrev pub body_of : List CommandTree → BodyTree
body_of commands = record { slots = 1; parameters = []; result = None; commands = commands_of commands }

abbrev pub calls : ℕ → CommandTree
calls n = call None (proc n) [] here

-- the first calls the second in a loop, the second the first, and the third the first
abbrev pub three : ℕ → Option BodyTree
three zero = Some (body_of (loop here (commands_of []) (commands_of (choose 0 (commands_of (calls 1 ∷ [])) (commands_of []) ∷ [])) (commands_of []) ∷ []))
three (suc zero) = Some (body_of (calls 0 ∷ []))
three (suc (suc zero)) = Some (body_of (calls 0 ∷ []))
three (suc (suc (suc n))) = None

pub record WorkedCallees : Type 0 where
  pub in_loop : IsCallee three 0 1
  pub other : ¬ IsCallee three 1 2
  pub together : AreTogether three 0 1
  pub with_itself : AreTogether three 0 0
  pub without_body : ¬ IsCallee three 3 0
