-- Commands in front of what stands after them.
use Rattle.std.proofs.Common.{◌≡◌, List, [], ◌∷◌, ◌++◌, refl, ap}
use Rattle.px_core.specs.CommandTree.{CommandTree, CommandTrees, no_commands, a_command, commands_of}
use Rattle.px_core.specs.Control.{Item, Act, acts, leave_to, break_to, continue_to}

pub acts_append : (cs ds : List CommandTree) (k : List Item) → acts (commands_of (cs ++ ds)) k ≡ acts (commands_of cs) (acts (commands_of ds) k)
acts_append [] ds k = refl
acts_append (c ∷ cs) ds k = ap (λ (z : List Item). Act c ∷ z) (acts_append cs ds k)

pub leave_acts : (cs : CommandTrees) (k : List Item) → leave_to (acts cs k) ≡ leave_to k
leave_acts no_commands k = refl
leave_acts (a_command c cs) k = leave_acts cs k

pub break_acts : (cs : CommandTrees) (k : List Item) → break_to (acts cs k) ≡ break_to k
break_acts no_commands k = refl
break_acts (a_command c cs) k = break_acts cs k

pub continue_acts : (cs : CommandTrees) (k : List Item) → continue_to (acts cs k) ≡ continue_to k
continue_acts no_commands k = refl
continue_acts (a_command c cs) k = continue_acts cs k
