-- Commands as plain data.
use Rattle.std.specs.Prelude.{ℕ, List, [], ◌∷◌, Option}
use Rattle.px_base.specs.declared.trace.Site.{Site}
use Rattle.px_base.specs.declared.trace.ProcId.{ProcId}
use Rattle.px_base.specs.declared.trace.FieldId.{FieldId}
use Rattle.px_terms.specs.declared.types.TypeId.{TypeId}
use Rattle.px_core.specs.declared.command.Operand.{Operand}
use Rattle.px_core.specs.declared.command.Operator.{Operator}
use Rattle.px_core.specs.declared.command.Comparison.{Comparison}
use Rattle.px_core.specs.declared.command.Command.{Command}
use Rattle.px_core.specs.declared.command.Command.TheOpen.{Command-F}
use Rattle.px_core.specs.declared.command.Command.TheFolds.{fold-Command}

mutual
  pub data CommandTree : Type 0 where
    assign : ℕ → Operator → Operand → Operand → CommandTree
    unset : ℕ → CommandTree
    read : ℕ → Site → CommandTree
    test : ℕ → Comparison → Operand → Operand → Site → CommandTree
    choose : ℕ → CommandTrees → CommandTrees → CommandTree
    loop : Site → CommandTrees → CommandTrees → CommandTrees → CommandTree
    leave : CommandTree
    load : ℕ → Operand → FieldId → TypeId → Site → CommandTree
    store : Operand → FieldId → TypeId → Operand → Site → CommandTree
    malloc : ℕ → TypeId → Site → CommandTree
    free : Operand → TypeId → Site → CommandTree
    input : ℕ → Site → CommandTree
    call : Option ℕ → ProcId → List Operand → Site → CommandTree
    return : Option Operand → CommandTree
    break : CommandTree
    continue : CommandTree
    stop : ℕ → Site → CommandTree
    divide : ℕ → Operand → Operand → Site → CommandTree

  pub data CommandTrees : Type 0 where
    no_commands : CommandTrees
    a_command : CommandTree → CommandTrees → CommandTrees

abbrev pub commands_of : List CommandTree → CommandTrees
commands_of [] = no_commands
commands_of (c ∷ rest) = a_command c (commands_of rest)

abbrev pub command_node : Command-F CommandTree → CommandTree
command_node (Command-F.Assign to op a b) = assign to op a b
command_node (Command-F.Unset to) = unset to
command_node (Command-F.Read slot site) = read slot site
command_node (Command-F.Test to how a b site) = test to how a b site
command_node (Command-F.If slot then other) = choose slot (commands_of then.items) (commands_of other.items)
command_node (Command-F.Loop site head body step) = loop site (commands_of head.items) (commands_of body.items) (commands_of step.items)
command_node Command-F.Leave = leave
command_node (Command-F.Load to at field block site) = load to at field block site
command_node (Command-F.Store at field block from site) = store at field block from site
command_node (Command-F.Malloc to block site) = malloc to block site
command_node (Command-F.Free at block site) = free at block site
command_node (Command-F.Input to site) = input to site
command_node (Command-F.Call to proc arguments site) = call to proc arguments.items site
command_node (Command-F.Return from) = return from
command_node Command-F.Break = break
command_node Command-F.Continue = continue
command_node (Command-F.Stop word site) = stop word site
command_node (Command-F.Divide to a b site) = divide to a b site

-- a command as plain data
abbrev pub command_tree : Command → CommandTree
command_tree = fold-Command CommandTree command_node
