use Rattle.std.proofs.Common.{◌≡◌, [], ◌∷◌, take}
use Rattle.std.specs.Prelude.{flat_map}
use Rattle.px_core.specs.CommandTree.{command_tree}
use Rattle.px_core.specs.Control.{Act}
use Rattle.px_callgraph.specs.JobTree.{job_tree}
use Rattle.px_callgraph.specs.Alternatives.{item_act}
use Rattle.px_symexec.specs.Ends.{ends}
use Rattle.px_symexec.proofs.calls.call_alternatives.Given as goal

abbrev pub invariant-loop-way : goal.invariant-loop-way
invariant-loop-way l = l.found.items ≡ flat_map (λ w. ends (job_tree l.job) (item_act (job_tree l.job) l.state (Act (command_tree l.command) ∷ []) w)) (take l.way-index l.way-items)
