-- What is still to be done of a procedure's body: one list of items, with no items in items. The loops
-- that are open stand in it as items of their own, so that it says where `Leave`, `Break` and
-- `Continue` go.
use Rattle.std.specs.Prelude.{ℕ, suc, List, [], ◌∷◌, Option, Some, None}
use Rattle.px_base.specs.declared.trace.Site.{Site}
use Rattle.px_core.specs.CommandTree.{CommandTree, CommandTrees, no_commands, a_command}

-- an open loop, and how often its body was begun
pub record Turns : Type 0 where
  pub site : Site
  pub head : CommandTrees
  pub body : CommandTrees
  pub step : CommandTrees
  pub made : ℕ

-- a command, or the end of a loop's head, body or step
pub data Item : Type 0 where
  Act : CommandTree → Item
  AfterHead : Turns → Item
  AfterBody : Turns → Item
  AfterStep : Turns → Item

-- commands, and then what stands after them
abbrev pub acts : CommandTrees → List Item → List Item
acts no_commands k = k
acts (a_command c rest) k = Act c ∷ acts rest k

-- a loop that is entered
abbrev pub no_turns : Site → CommandTrees → CommandTrees → CommandTrees → Turns
no_turns site head body step = record { site = site; head = head; body = body; step = step; made = 0 }

abbrev pub one_turn_more : Turns → Turns
one_turn_more l = record l { made = suc l.made }

-- the innermost loop and what stands after it, where its head is being done
abbrev pub leave_to : List Item → Option (Turns × List Item)
leave_to [] = None
leave_to (Act c ∷ k) = leave_to k
leave_to (AfterHead l ∷ k) = Some (l, k)
leave_to (AfterBody l ∷ k) = None
leave_to (AfterStep l ∷ k) = None

-- what stands after the innermost loop, where its body or step is being done (C17 6.8.6.3)
abbrev pub break_to : List Item → Option (List Item)
break_to [] = None
break_to (Act c ∷ k) = break_to k
break_to (AfterHead l ∷ k) = None
break_to (AfterBody l ∷ k) = Some k
break_to (AfterStep l ∷ k) = Some k

-- the end of the innermost loop's body, where this is being done (C17 6.8.6.2)
abbrev pub continue_to : List Item → Option (List Item)
continue_to [] = None
continue_to (Act c ∷ k) = continue_to k
continue_to (AfterHead l ∷ k) = None
continue_to (AfterBody l ∷ k) = Some (AfterBody l ∷ k)
continue_to (AfterStep l ∷ k) = None
