-- The reader of a command, at any depth and after its byte.
use Rattle.std.proofs.Common.{◌≡◌, ℕ, zero, suc, ◌-◌, ◌<◌, List, false, Some, refl, arith}
use Rattle.std.specs.Prelude.{◌==◌}
use Rattle.std.proofs.lemmas.Bool.Decides.{nat_tests}
use Rattle.px_core.specs.CommandTree.{CommandTrees}
use Rattle.px_spelling.specs.Reading.{Reader}
use Rattle.px_spelling.specs.Numbers.{u8_at}
use Rattle.px_body_spelling.specs.Commands.{list_by, choose_at, loop_at, command_with, command_by, command_at}

pub command_is : (depth room : ℕ) (bytes : List ℕ) → command_by depth room (list_by (command_at (depth - 1))) bytes ≡ command_at depth room bytes
unfolding command_by command_at
command_is zero room bytes = refl
command_is (suc d) room bytes = let e : suc d - 1 ≡ d = omega arith in rw e refl

-- where there is room, and a byte
with_is : (depth room tag : ℕ) (lists : ℕ → Reader CommandTrees) (bytes rest : List ℕ) → 0 < depth → 0 < room → u8_at bytes ≡ Some (tag, rest) →
    command_by depth room lists bytes ≡ command_with lists (room - 1) tag rest
unfolding command_by
with_is depth room tag lists bytes rest deep some h =
    let d : (depth == 0) ≡ false = grind (arith, nat_tests) in
    let r : (room == 0) ≡ false = grind (arith, nat_tests) in
    rw (d, r, h) refl

pub choose_is : (depth room tag : ℕ) (lists : ℕ → Reader CommandTrees) (bytes rest : List ℕ) → 0 < depth → 0 < room → u8_at bytes ≡ Some (tag, rest) → tag ≡ 4 →
    command_by depth room lists bytes ≡ choose_at lists (room - 1) rest
unfolding command_with
choose_is depth room tag lists bytes rest deep some h is = rw (with_is depth room tag lists bytes rest deep some h, is) refl

pub loop_is : (depth room tag : ℕ) (lists : ℕ → Reader CommandTrees) (bytes rest : List ℕ) → 0 < depth → 0 < room → u8_at bytes ≡ Some (tag, rest) → tag ≡ 5 →
    command_by depth room lists bytes ≡ loop_at lists (room - 1) rest
unfolding command_with
loop_is depth room tag lists bytes rest deep some h is = rw (with_is depth room tag lists bytes rest deep some h, is) refl
