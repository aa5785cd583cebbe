use Rattle.std.proofs.Common.{◌≡◌, map, take}
use Rattle.px_core.specs.CommandTree.{command_tree}
use Rattle.px_callgraph.specs.JobTree.{job_tree}
use Rattle.px_callgraph.specs.Commands.{command_done}
use Rattle.px_callgraph.specs.Alternatives.{alternative_of}
use Rattle.px_steps.specs.Led.{led_of}
use Rattle.px_symexec.proofs.steps.by_ways.Given as goal

abbrev pub invariant-loop-way : goal.invariant-loop-way
invariant-loop-way l = l.found.items ≡ map (λ w. alternative_of (led_of l.state (command_done (job_tree l.job) (command_tree l.command) w l.state))) (take l.way-index l.ways)
