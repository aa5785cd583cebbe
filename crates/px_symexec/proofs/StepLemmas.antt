-- The alternatives of a command, by where its step leads.
use Rattle.std.proofs.Common.{◌≡◌, List, map, true, false, refl, ap}
use Rattle.px_core.specs.CommandTree.{CommandTree, assign, unset, read, test, choose, loop, leave, load, store, malloc, free, input, call, return, break, continue, stop, divide}
use Rattle.px_callgraph.specs.declared.states.State.{State}
use Rattle.px_callgraph.specs.declared.states.Way.{Way}
use Rattle.px_callgraph.specs.JobTree.{JobTree}
use Rattle.px_callgraph.specs.Commands.{command_ways, command_done, last_loop}
use Rattle.px_callgraph.specs.Alternatives.{alternative_of, alternatives, loop_alternatives, command_alternatives}
use Rattle.px_steps.specs.Led.{led_of}
use Rattle.px_symexec.specs.Steps.{is_call, is_loop}

pub of_command : (j : JobTree) (s : State) (c : CommandTree) (ws : List Way) → ws ≡ command_ways j s c →
    map (λ w. alternative_of (led_of s (command_done j c w s))) ws ≡ command_alternatives j s c
unfolding led_of
of_command j s c ws e = ap (map (λ w. alternative_of (led_of s (command_done j c w s)))) e

pub of_loops : (j : JobTree) (s : State) (c : CommandTree) → is_loop c ≡ true → alternatives j s c ≡ loop_alternatives j s (last_loop s.loops)
unfolding alternatives
of_loops j s (loop site head body step) e = refl
of_loops j s _ e = cc

pub of_others : (j : JobTree) (s : State) (c : CommandTree) → is_loop c ≡ false → is_call c ≡ false → alternatives j s c ≡ command_alternatives j s c
unfolding alternatives
of_others j s (loop site head body step) e f = cc
of_others j s (call to proc arguments site) e f = cc
of_others j s (assign to op a b) e f = refl
of_others j s (unset to) e f = refl
of_others j s (read slot site) e f = refl
of_others j s (test to how a b site) e f = refl
of_others j s (choose slot first second) e f = refl
of_others j s leave e f = refl
of_others j s (load to at field block site) e f = refl
of_others j s (store at field block from site) e f = refl
of_others j s (malloc to block site) e f = refl
of_others j s (free at block site) e f = refl
of_others j s (input to site) e f = refl
of_others j s (return from) e f = refl
of_others j s break e f = refl
of_others j s continue e f = refl
of_others j s (stop word site) e f = refl
of_others j s (divide to a b site) e f = refl
