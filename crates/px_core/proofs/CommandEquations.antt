-- The equations of `command_tree`, one for each variant.
use Rattle.std.proofs.Common.{◌≡◌, ℕ, Option, map, Vec, Global, sym, ap, ◌∙◌}
use Rattle.px_base.specs.declared.trace.Site.{Site}
use Rattle.px_base.specs.declared.trace.ProcId.{ProcId}
use Rattle.px_base.specs.declared.trace.FieldId.{FieldId}
use Rattle.px_terms.specs.declared.types.TypeId.{TypeId}
use Rattle.px_core.specs.declared.command.Operand.{Operand}
use Rattle.px_core.specs.declared.command.Operator.{Operator}
use Rattle.px_core.specs.declared.command.Comparison.{Comparison}
use Rattle.px_core.specs.declared.command.Command.{Command, Command-F, fold-roll-Command}
use Rattle.px_core.specs.declared.command.Command.TheVariants as C
use Rattle.px_core.specs.CommandTree.{CommandTree, command_tree, command_node, commands_of, assign, unset, read, test, choose, loop, leave, load, store, malloc, free, input, call, return, break, continue, stop, divide}

pub tree-Assign : (to : ℕ) (op : Operator) (a b : Operand) → command_tree (C.Assign to op a b) ≡ assign to op a b
tree-Assign to op a b = ap command_tree (sym (C.rolls-Assign to op a b)) ∙ fold-roll-Command CommandTree command_node (Command-F.Assign to op a b)

pub tree-Unset : (to : ℕ) → command_tree (C.Unset to) ≡ unset to
tree-Unset to = ap command_tree (sym (C.rolls-Unset to)) ∙ fold-roll-Command CommandTree command_node (Command-F.Unset to)

pub tree-Read : (slot : ℕ) (s : Site) → command_tree (C.Read slot s) ≡ read slot s
tree-Read slot s = ap command_tree (sym (C.rolls-Read slot s)) ∙ fold-roll-Command CommandTree command_node (Command-F.Read slot s)

pub tree-Test : (to : ℕ) (how : Comparison) (a b : Operand) (s : Site) → command_tree (C.Test to how a b s) ≡ test to how a b s
tree-Test to how a b s = ap command_tree (sym (C.rolls-Test to how a b s)) ∙ fold-roll-Command CommandTree command_node (Command-F.Test to how a b s)

pub tree-If : (slot : ℕ) (xs ys : Vec Command Global) → command_tree (C.If slot xs ys) ≡ choose slot (commands_of (map command_tree xs.items)) (commands_of (map command_tree ys.items))
tree-If slot xs ys = ap command_tree (sym (C.rolls-If slot xs ys)) ∙ fold-roll-Command CommandTree command_node (Command-F.If slot xs ys)

pub tree-Loop : (s : Site) (xs ys zs : Vec Command Global) → command_tree (C.Loop s xs ys zs) ≡ loop s (commands_of (map command_tree xs.items)) (commands_of (map command_tree ys.items)) (commands_of (map command_tree zs.items))
tree-Loop s xs ys zs = ap command_tree (sym (C.rolls-Loop s xs ys zs)) ∙ fold-roll-Command CommandTree command_node (Command-F.Loop s xs ys zs)

pub tree-Leave : command_tree C.Leave ≡ leave
tree-Leave = ap command_tree (sym C.rolls-Leave) ∙ fold-roll-Command CommandTree command_node Command-F.Leave

pub tree-Load : (to : ℕ) (at : Operand) (f : FieldId) (b : TypeId) (s : Site) → command_tree (C.Load to at f b s) ≡ load to at f b s
tree-Load to at f b s = ap command_tree (sym (C.rolls-Load to at f b s)) ∙ fold-roll-Command CommandTree command_node (Command-F.Load to at f b s)

pub tree-Store : (at : Operand) (f : FieldId) (b : TypeId) (from : Operand) (s : Site) → command_tree (C.Store at f b from s) ≡ store at f b from s
tree-Store at f b from s = ap command_tree (sym (C.rolls-Store at f b from s)) ∙ fold-roll-Command CommandTree command_node (Command-F.Store at f b from s)

pub tree-Malloc : (to : ℕ) (b : TypeId) (s : Site) → command_tree (C.Malloc to b s) ≡ malloc to b s
tree-Malloc to b s = ap command_tree (sym (C.rolls-Malloc to b s)) ∙ fold-roll-Command CommandTree command_node (Command-F.Malloc to b s)

pub tree-Free : (at : Operand) (b : TypeId) (s : Site) → command_tree (C.Free at b s) ≡ free at b s
tree-Free at b s = ap command_tree (sym (C.rolls-Free at b s)) ∙ fold-roll-Command CommandTree command_node (Command-F.Free at b s)

pub tree-Input : (to : ℕ) (s : Site) → command_tree (C.Input to s) ≡ input to s
tree-Input to s = ap command_tree (sym (C.rolls-Input to s)) ∙ fold-roll-Command CommandTree command_node (Command-F.Input to s)

pub tree-Call : (to : Option ℕ) (p : ProcId) (xs : Vec Operand Global) (s : Site) → command_tree (C.Call to p xs s) ≡ call to p xs.items s
tree-Call to p xs s = ap command_tree (sym (C.rolls-Call to p xs s)) ∙ fold-roll-Command CommandTree command_node (Command-F.Call to p xs s)

pub tree-Return : (from : Option Operand) → command_tree (C.Return from) ≡ return from
tree-Return from = ap command_tree (sym (C.rolls-Return from)) ∙ fold-roll-Command CommandTree command_node (Command-F.Return from)

pub tree-Break : command_tree C.Break ≡ break
tree-Break = ap command_tree (sym C.rolls-Break) ∙ fold-roll-Command CommandTree command_node Command-F.Break

pub tree-Continue : command_tree C.Continue ≡ continue
tree-Continue = ap command_tree (sym C.rolls-Continue) ∙ fold-roll-Command CommandTree command_node Command-F.Continue

pub tree-Stop : (word : ℕ) (s : Site) → command_tree (C.Stop word s) ≡ stop word s
tree-Stop word s = ap command_tree (sym (C.rolls-Stop word s)) ∙ fold-roll-Command CommandTree command_node (Command-F.Stop word s)

pub tree-Divide : (to : ℕ) (a b : Operand) (s : Site) → command_tree (C.Divide to a b s) ≡ divide to a b s
tree-Divide to a b s = ap command_tree (sym (C.rolls-Divide to a b s)) ∙ fold-roll-Command CommandTree command_node (Command-F.Divide to a b s)

pub ruleset trees = (tree-Assign, tree-Unset, tree-Read, tree-Test, tree-If, tree-Loop, tree-Leave, tree-Load, tree-Store, tree-Malloc, tree-Free, tree-Input, tree-Call, tree-Return, tree-Break, tree-Continue, tree-Stop, tree-Divide)
