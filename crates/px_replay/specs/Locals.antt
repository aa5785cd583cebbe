-- The locals of an execution, as they are kept.
use Rattle.std.specs.Prelude.{List, [], ◌∷◌}
use Rattle.px_meaning.specs.Execution.{Locals as LocalsMap, with_local}
use Rattle.px_meaning.specs.TreeCalls.{first_locals}
use Rattle.px_replay.specs.declared.locals.Written.{Written}
use Rattle.px_replay.specs.declared.locals.Locals.{Locals}

-- what is written later holds
abbrev pub locals_over : LocalsMap → List Written → LocalsMap
locals_over locals [] = locals
locals_over locals (w ∷ written) = locals_over (with_local locals w.local w.value) written

abbrev pub locals_map : Locals → LocalsMap
locals_map l = locals_over (first_locals l.arguments.items) l.written.items
