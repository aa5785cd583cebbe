use Rattle.std.proofs.Common.{◌≡◌, ◌∙◌, List, sym, ap}
use Rattle.std.proofs.lemmas.Result.{IfOk-weaker}
use Rattle.px_core.specs.CommandTree.{command_tree}
use Rattle.px_core.specs.Control.{Item}
use Rattle.px_callgraph.specs.declared.states.State.{State}
use Rattle.px_callgraph.specs.Alternatives.{after_command}
use Rattle.px_calls.specs.Calls.{with_call}
use Rattle.px_walks.specs.Walks.{call_in}
use Rattle.px_walks.proofs.walking.entered.Goals as goal

pub returns : goal.returns
returns c = IfOk-weaker c.boxed.result (λ kept. call_in kept ≡ c.in_ok-call.call)
    (λ call. (k : List Item) → (t : State) → after_command c.args.state.now (command_tree c.args.command.now) k t ≡ with_call (call_in call) k t)
    (λ kept e k t. c.in_ok-call.ensures k t ∙ ap (λ z. with_call z k t) (sym e)) c.boxed.ensures
