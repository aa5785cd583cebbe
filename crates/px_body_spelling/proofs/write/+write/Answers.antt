use Rattle.std.proofs.Common.{◌≡◌, ℕ, List, ◌++◌, ◌∷◌, [], map, length, append_assoc, subst, ◌∙◌}
use Rattle.px_core.specs.CommandTree.{command_tree, commands_of}
use Rattle.px_core.proofs.CommandEquations.{tree-Assign, tree-Unset, tree-Read, tree-Test, tree-If, tree-Loop, tree-Load, tree-Store, tree-Malloc, tree-Free, tree-Input, tree-Call, tree-Return, tree-Stop, tree-Divide}
use Rattle.px_spelling.specs.Numbers.{u32_bytes}
use Rattle.px_spelling.specs.Lists.{list_bytes, option_bytes}
use Rattle.px_spelling.specs.Traces.{proc_id_bytes, field_id_bytes, site_bytes}
use Rattle.px_spelling.specs.Types.{type_id_bytes}
use Rattle.px_spelling.specs.Operands.{operand_bytes, operator_bytes, comparison_bytes}
use Rattle.px_body_spelling.specs.Commands.{commands_bytes, row_bytes}
use Rattle.px_spelling.proofs.Nine.{put_more}
use Rattle.px_body_spelling.proofs.CommandLoops.{how_many_are}
use Rattle.px_body_spelling.proofs.Smaller.{item_falls, then_falls, other_falls, head_falls, body_falls, step_falls}
use Rattle.px_body_spelling.proofs.write.+write.Goals as goal

pub write_commands-loop-command-init : goal.write_commands-loop-command-init
write_commands-loop-command-init g t c = record {
  written = rw (c.write_count.ensures.written, how_many_are c.args.commands.now)
      (append_assoc (g.O.Output.written c.args.out.now) (u32_bytes (length c.args.commands.now)) (row_bytes (commands_of (map command_tree c.args.commands.now))));
  reached = c.write_count.ensures.reached;
}

pub write_command-returns-in-Assign-clause-written : goal.write_command-returns-in-Assign-clause-written
write_command-returns-in-Assign-clause-written g t c =
    let w = g.O.Output.written in
    let old : List ℕ = w c.args.out.now in
    let b0 : List ℕ = 0 ∷ [] in
    let n0 : List ℕ = w c.write.new.out in
    let e0 : n0 ≡ old ++ b0 = c.write.ensures.written in
    let x0 : List ℕ = b0 in
    let s0 : n0 ≡ old ++ x0 = e0 in
    let b1 : List ℕ = u32_bytes c.in-Assign.to in
    let n1 : List ℕ = w c.write-in-Assign.new.out in
    let e1 : n1 ≡ n0 ++ b1 = c.write-in-Assign.ensures.written in
    let x1 : List ℕ = x0 ++ b1 in
    let s1 : n1 ≡ old ++ x1 = put_more old x0 n0 n1 b1 s0 e1 in
    let b2 : List ℕ = operator_bytes c.in-Assign.op in
    let n2 : List ℕ = w c.write-in-Assign-2.new.out in
    let e2 : n2 ≡ n1 ++ b2 = c.write-in-Assign-2.ensures.written in
    let x2 : List ℕ = x1 ++ b2 in
    let s2 : n2 ≡ old ++ x2 = put_more old x1 n1 n2 b2 s1 e2 in
    let b3 : List ℕ = operand_bytes c.in-Assign.a in
    let n3 : List ℕ = w c.write-in-Assign-3.new.out in
    let e3 : n3 ≡ n2 ++ b3 = c.write-in-Assign-3.ensures.written in
    let x3 : List ℕ = x2 ++ b3 in
    let s3 : n3 ≡ old ++ x3 = put_more old x2 n2 n3 b3 s2 e3 in
    let b4 : List ℕ = operand_bytes c.in-Assign.b in
    let n4 : List ℕ = w c.write-in-Assign-4.new.out in
    let last : n4 ≡ n3 ++ b4 = c.write-in-Assign-4.ensures.written in
    let all : n4 ≡ old ++ (x3 ++ b4) = put_more old x3 n3 n4 b4 s3 last in
    rw (c.in-Assign.is, tree-Assign c.in-Assign.to c.in-Assign.op c.in-Assign.a c.in-Assign.b) all

pub write_command-returns-in-Unset-clause-written : goal.write_command-returns-in-Unset-clause-written
write_command-returns-in-Unset-clause-written g t c =
    let w = g.O.Output.written in
    let old : List ℕ = w c.args.out.now in
    let b0 : List ℕ = 1 ∷ [] in
    let n0 : List ℕ = w c.write-in-Unset.new.out in
    let e0 : n0 ≡ old ++ b0 = c.write-in-Unset.ensures.written in
    let x0 : List ℕ = b0 in
    let s0 : n0 ≡ old ++ x0 = e0 in
    let b1 : List ℕ = u32_bytes c.in-Unset.to in
    let n1 : List ℕ = w c.write-in-Unset-2.new.out in
    let last : n1 ≡ n0 ++ b1 = c.write-in-Unset-2.ensures.written in
    let all : n1 ≡ old ++ (x0 ++ b1) = put_more old x0 n0 n1 b1 s0 last in
    rw (c.in-Unset.is, tree-Unset c.in-Unset.to) all

pub write_command-returns-in-Read-clause-written : goal.write_command-returns-in-Read-clause-written
write_command-returns-in-Read-clause-written g t c =
    let w = g.O.Output.written in
    let old : List ℕ = w c.args.out.now in
    let b0 : List ℕ = 2 ∷ [] in
    let n0 : List ℕ = w c.write-in-Read.new.out in
    let e0 : n0 ≡ old ++ b0 = c.write-in-Read.ensures.written in
    let x0 : List ℕ = b0 in
    let s0 : n0 ≡ old ++ x0 = e0 in
    let b1 : List ℕ = u32_bytes c.in-Read.slot in
    let n1 : List ℕ = w c.write-in-Read-2.new.out in
    let e1 : n1 ≡ n0 ++ b1 = c.write-in-Read-2.ensures.written in
    let x1 : List ℕ = x0 ++ b1 in
    let s1 : n1 ≡ old ++ x1 = put_more old x0 n0 n1 b1 s0 e1 in
    let b2 : List ℕ = site_bytes c.in-Read.site in
    let n2 : List ℕ = w c.write-in-Read-3.new.out in
    let last : n2 ≡ n1 ++ b2 = c.write-in-Read-3.ensures.written in
    let all : n2 ≡ old ++ (x1 ++ b2) = put_more old x1 n1 n2 b2 s1 last in
    rw (c.in-Read.is, tree-Read c.in-Read.slot c.in-Read.site) all

pub write_command-returns-in-Test-clause-written : goal.write_command-returns-in-Test-clause-written
write_command-returns-in-Test-clause-written g t c =
    let w = g.O.Output.written in
    let old : List ℕ = w c.args.out.now in
    let b0 : List ℕ = 3 ∷ [] in
    let n0 : List ℕ = w c.write-in-Test.new.out in
    let e0 : n0 ≡ old ++ b0 = c.write-in-Test.ensures.written in
    let x0 : List ℕ = b0 in
    let s0 : n0 ≡ old ++ x0 = e0 in
    let b1 : List ℕ = u32_bytes c.in-Test.to in
    let n1 : List ℕ = w c.write-in-Test-2.new.out in
    let e1 : n1 ≡ n0 ++ b1 = c.write-in-Test-2.ensures.written in
    let x1 : List ℕ = x0 ++ b1 in
    let s1 : n1 ≡ old ++ x1 = put_more old x0 n0 n1 b1 s0 e1 in
    let b2 : List ℕ = comparison_bytes c.in-Test.how in
    let n2 : List ℕ = w c.write-in-Test-3.new.out in
    let e2 : n2 ≡ n1 ++ b2 = c.write-in-Test-3.ensures.written in
    let x2 : List ℕ = x1 ++ b2 in
    let s2 : n2 ≡ old ++ x2 = put_more old x1 n1 n2 b2 s1 e2 in
    let b3 : List ℕ = operand_bytes c.in-Test.a in
    let n3 : List ℕ = w c.write-in-Test-4.new.out in
    let e3 : n3 ≡ n2 ++ b3 = c.write-in-Test-4.ensures.written in
    let x3 : List ℕ = x2 ++ b3 in
    let s3 : n3 ≡ old ++ x3 = put_more old x2 n2 n3 b3 s2 e3 in
    let b4 : List ℕ = operand_bytes c.in-Test.b in
    let n4 : List ℕ = w c.write-in-Test-5.new.out in
    let e4 : n4 ≡ n3 ++ b4 = c.write-in-Test-5.ensures.written in
    let x4 : List ℕ = x3 ++ b4 in
    let s4 : n4 ≡ old ++ x4 = put_more old x3 n3 n4 b4 s3 e4 in
    let b5 : List ℕ = site_bytes c.in-Test.site in
    let n5 : List ℕ = w c.write-in-Test-6.new.out in
    let last : n5 ≡ n4 ++ b5 = c.write-in-Test-6.ensures.written in
    let all : n5 ≡ old ++ (x4 ++ b5) = put_more old x4 n4 n5 b5 s4 last in
    rw (c.in-Test.is, tree-Test c.in-Test.to c.in-Test.how c.in-Test.a c.in-Test.b c.in-Test.site) all

pub write_command-returns-in-Load-clause-written : goal.write_command-returns-in-Load-clause-written
write_command-returns-in-Load-clause-written g t c =
    let w = g.O.Output.written in
    let old : List ℕ = w c.args.out.now in
    let b0 : List ℕ = 7 ∷ [] in
    let n0 : List ℕ = w c.write-in-Load.new.out in
    let e0 : n0 ≡ old ++ b0 = c.write-in-Load.ensures.written in
    let x0 : List ℕ = b0 in
    let s0 : n0 ≡ old ++ x0 = e0 in
    let b1 : List ℕ = u32_bytes c.in-Load.to in
    let n1 : List ℕ = w c.write-in-Load-2.new.out in
    let e1 : n1 ≡ n0 ++ b1 = c.write-in-Load-2.ensures.written in
    let x1 : List ℕ = x0 ++ b1 in
    let s1 : n1 ≡ old ++ x1 = put_more old x0 n0 n1 b1 s0 e1 in
    let b2 : List ℕ = operand_bytes c.in-Load.at in
    let n2 : List ℕ = w c.write-in-Load-3.new.out in
    let e2 : n2 ≡ n1 ++ b2 = c.write-in-Load-3.ensures.written in
    let x2 : List ℕ = x1 ++ b2 in
    let s2 : n2 ≡ old ++ x2 = put_more old x1 n1 n2 b2 s1 e2 in
    let b3 : List ℕ = field_id_bytes c.in-Load.field in
    let n3 : List ℕ = w c.write-in-Load-4.new.out in
    let e3 : n3 ≡ n2 ++ b3 = c.write-in-Load-4.ensures.written in
    let x3 : List ℕ = x2 ++ b3 in
    let s3 : n3 ≡ old ++ x3 = put_more old x2 n2 n3 b3 s2 e3 in
    let b4 : List ℕ = type_id_bytes c.in-Load.block in
    let n4 : List ℕ = w c.write-in-Load-5.new.out in
    let e4 : n4 ≡ n3 ++ b4 = c.write-in-Load-5.ensures.written in
    let x4 : List ℕ = x3 ++ b4 in
    let s4 : n4 ≡ old ++ x4 = put_more old x3 n3 n4 b4 s3 e4 in
    let b5 : List ℕ = site_bytes c.in-Load.site in
    let n5 : List ℕ = w c.write-in-Load-6.new.out in
    let last : n5 ≡ n4 ++ b5 = c.write-in-Load-6.ensures.written in
    let all : n5 ≡ old ++ (x4 ++ b5) = put_more old x4 n4 n5 b5 s4 last in
    rw (c.in-Load.is, tree-Load c.in-Load.to c.in-Load.at c.in-Load.field c.in-Load.block c.in-Load.site) all

pub write_command-returns-in-Store-clause-written : goal.write_command-returns-in-Store-clause-written
write_command-returns-in-Store-clause-written g t c =
    let w = g.O.Output.written in
    let old : List ℕ = w c.args.out.now in
    let b0 : List ℕ = 8 ∷ [] in
    let n0 : List ℕ = w c.write-in-Store.new.out in
    let e0 : n0 ≡ old ++ b0 = c.write-in-Store.ensures.written in
    let x0 : List ℕ = b0 in
    let s0 : n0 ≡ old ++ x0 = e0 in
    let b1 : List ℕ = operand_bytes c.in-Store.at in
    let n1 : List ℕ = w c.write-in-Store-2.new.out in
    let e1 : n1 ≡ n0 ++ b1 = c.write-in-Store-2.ensures.written in
    let x1 : List ℕ = x0 ++ b1 in
    let s1 : n1 ≡ old ++ x1 = put_more old x0 n0 n1 b1 s0 e1 in
    let b2 : List ℕ = field_id_bytes c.in-Store.field in
    let n2 : List ℕ = w c.write-in-Store-3.new.out in
    let e2 : n2 ≡ n1 ++ b2 = c.write-in-Store-3.ensures.written in
    let x2 : List ℕ = x1 ++ b2 in
    let s2 : n2 ≡ old ++ x2 = put_more old x1 n1 n2 b2 s1 e2 in
    let b3 : List ℕ = type_id_bytes c.in-Store.block in
    let n3 : List ℕ = w c.write-in-Store-4.new.out in
    let e3 : n3 ≡ n2 ++ b3 = c.write-in-Store-4.ensures.written in
    let x3 : List ℕ = x2 ++ b3 in
    let s3 : n3 ≡ old ++ x3 = put_more old x2 n2 n3 b3 s2 e3 in
    let b4 : List ℕ = operand_bytes c.in-Store.from in
    let n4 : List ℕ = w c.write-in-Store-5.new.out in
    let e4 : n4 ≡ n3 ++ b4 = c.write-in-Store-5.ensures.written in
    let x4 : List ℕ = x3 ++ b4 in
    let s4 : n4 ≡ old ++ x4 = put_more old x3 n3 n4 b4 s3 e4 in
    let b5 : List ℕ = site_bytes c.in-Store.site in
    let n5 : List ℕ = w c.write-in-Store-6.new.out in
    let last : n5 ≡ n4 ++ b5 = c.write-in-Store-6.ensures.written in
    let all : n5 ≡ old ++ (x4 ++ b5) = put_more old x4 n4 n5 b5 s4 last in
    rw (c.in-Store.is, tree-Store c.in-Store.at c.in-Store.field c.in-Store.block c.in-Store.from c.in-Store.site) all

pub write_command-returns-in-Malloc-clause-written : goal.write_command-returns-in-Malloc-clause-written
write_command-returns-in-Malloc-clause-written g t c =
    let w = g.O.Output.written in
    let old : List ℕ = w c.args.out.now in
    let b0 : List ℕ = 9 ∷ [] in
    let n0 : List ℕ = w c.write-in-Malloc.new.out in
    let e0 : n0 ≡ old ++ b0 = c.write-in-Malloc.ensures.written in
    let x0 : List ℕ = b0 in
    let s0 : n0 ≡ old ++ x0 = e0 in
    let b1 : List ℕ = u32_bytes c.in-Malloc.to in
    let n1 : List ℕ = w c.write-in-Malloc-2.new.out in
    let e1 : n1 ≡ n0 ++ b1 = c.write-in-Malloc-2.ensures.written in
    let x1 : List ℕ = x0 ++ b1 in
    let s1 : n1 ≡ old ++ x1 = put_more old x0 n0 n1 b1 s0 e1 in
    let b2 : List ℕ = type_id_bytes c.in-Malloc.block in
    let n2 : List ℕ = w c.write-in-Malloc-3.new.out in
    let e2 : n2 ≡ n1 ++ b2 = c.write-in-Malloc-3.ensures.written in
    let x2 : List ℕ = x1 ++ b2 in
    let s2 : n2 ≡ old ++ x2 = put_more old x1 n1 n2 b2 s1 e2 in
    let b3 : List ℕ = site_bytes c.in-Malloc.site in
    let n3 : List ℕ = w c.write-in-Malloc-4.new.out in
    let last : n3 ≡ n2 ++ b3 = c.write-in-Malloc-4.ensures.written in
    let all : n3 ≡ old ++ (x2 ++ b3) = put_more old x2 n2 n3 b3 s2 last in
    rw (c.in-Malloc.is, tree-Malloc c.in-Malloc.to c.in-Malloc.block c.in-Malloc.site) all

pub write_command-returns-in-Free-clause-written : goal.write_command-returns-in-Free-clause-written
write_command-returns-in-Free-clause-written g t c =
    let w = g.O.Output.written in
    let old : List ℕ = w c.args.out.now in
    let b0 : List ℕ = 10 ∷ [] in
    let n0 : List ℕ = w c.write-in-Free.new.out in
    let e0 : n0 ≡ old ++ b0 = c.write-in-Free.ensures.written in
    let x0 : List ℕ = b0 in
    let s0 : n0 ≡ old ++ x0 = e0 in
    let b1 : List ℕ = operand_bytes c.in-Free.at in
    let n1 : List ℕ = w c.write-in-Free-2.new.out in
    let e1 : n1 ≡ n0 ++ b1 = c.write-in-Free-2.ensures.written in
    let x1 : List ℕ = x0 ++ b1 in
    let s1 : n1 ≡ old ++ x1 = put_more old x0 n0 n1 b1 s0 e1 in
    let b2 : List ℕ = type_id_bytes c.in-Free.block in
    let n2 : List ℕ = w c.write-in-Free-3.new.out in
    let e2 : n2 ≡ n1 ++ b2 = c.write-in-Free-3.ensures.written in
    let x2 : List ℕ = x1 ++ b2 in
    let s2 : n2 ≡ old ++ x2 = put_more old x1 n1 n2 b2 s1 e2 in
    let b3 : List ℕ = site_bytes c.in-Free.site in
    let n3 : List ℕ = w c.write-in-Free-4.new.out in
    let last : n3 ≡ n2 ++ b3 = c.write-in-Free-4.ensures.written in
    let all : n3 ≡ old ++ (x2 ++ b3) = put_more old x2 n2 n3 b3 s2 last in
    rw (c.in-Free.is, tree-Free c.in-Free.at c.in-Free.block c.in-Free.site) all

pub write_command-returns-in-Input-clause-written : goal.write_command-returns-in-Input-clause-written
write_command-returns-in-Input-clause-written g t c =
    let w = g.O.Output.written in
    let old : List ℕ = w c.args.out.now in
    let b0 : List ℕ = 11 ∷ [] in
    let n0 : List ℕ = w c.write-in-Input.new.out in
    let e0 : n0 ≡ old ++ b0 = c.write-in-Input.ensures.written in
    let x0 : List ℕ = b0 in
    let s0 : n0 ≡ old ++ x0 = e0 in
    let b1 : List ℕ = u32_bytes c.in-Input.to in
    let n1 : List ℕ = w c.write-in-Input-2.new.out in
    let e1 : n1 ≡ n0 ++ b1 = c.write-in-Input-2.ensures.written in
    let x1 : List ℕ = x0 ++ b1 in
    let s1 : n1 ≡ old ++ x1 = put_more old x0 n0 n1 b1 s0 e1 in
    let b2 : List ℕ = site_bytes c.in-Input.site in
    let n2 : List ℕ = w c.write-in-Input-3.new.out in
    let last : n2 ≡ n1 ++ b2 = c.write-in-Input-3.ensures.written in
    let all : n2 ≡ old ++ (x1 ++ b2) = put_more old x1 n1 n2 b2 s1 last in
    rw (c.in-Input.is, tree-Input c.in-Input.to c.in-Input.site) all

pub write_command-returns-in-Return-clause-written : goal.write_command-returns-in-Return-clause-written
write_command-returns-in-Return-clause-written g t c =
    let w = g.O.Output.written in
    let old : List ℕ = w c.args.out.now in
    let b0 : List ℕ = 13 ∷ [] in
    let n0 : List ℕ = w c.write-in-Return.new.out in
    let e0 : n0 ≡ old ++ b0 = c.write-in-Return.ensures.written in
    let x0 : List ℕ = b0 in
    let s0 : n0 ≡ old ++ x0 = e0 in
    let b1 : List ℕ = option_bytes operand_bytes c.in-Return.from in
    let n1 : List ℕ = w c.write-in-Return-2.new.out in
    let last : n1 ≡ n0 ++ b1 = c.write-in-Return-2.ensures.written in
    let all : n1 ≡ old ++ (x0 ++ b1) = put_more old x0 n0 n1 b1 s0 last in
    rw (c.in-Return.is, tree-Return c.in-Return.from) all

pub write_command-returns-in-Stop-clause-written : goal.write_command-returns-in-Stop-clause-written
write_command-returns-in-Stop-clause-written g t c =
    let w = g.O.Output.written in
    let old : List ℕ = w c.args.out.now in
    let b0 : List ℕ = 16 ∷ [] in
    let n0 : List ℕ = w c.write-in-Stop.new.out in
    let e0 : n0 ≡ old ++ b0 = c.write-in-Stop.ensures.written in
    let x0 : List ℕ = b0 in
    let s0 : n0 ≡ old ++ x0 = e0 in
    let b1 : List ℕ = u32_bytes c.in-Stop.word in
    let n1 : List ℕ = w c.write-in-Stop-2.new.out in
    let e1 : n1 ≡ n0 ++ b1 = c.write-in-Stop-2.ensures.written in
    let x1 : List ℕ = x0 ++ b1 in
    let s1 : n1 ≡ old ++ x1 = put_more old x0 n0 n1 b1 s0 e1 in
    let b2 : List ℕ = site_bytes c.in-Stop.site in
    let n2 : List ℕ = w c.write-in-Stop-3.new.out in
    let last : n2 ≡ n1 ++ b2 = c.write-in-Stop-3.ensures.written in
    let all : n2 ≡ old ++ (x1 ++ b2) = put_more old x1 n1 n2 b2 s1 last in
    rw (c.in-Stop.is, tree-Stop c.in-Stop.word c.in-Stop.site) all

pub write_command-returns-in-Divide-clause-written : goal.write_command-returns-in-Divide-clause-written
write_command-returns-in-Divide-clause-written g t c =
    let w = g.O.Output.written in
    let old : List ℕ = w c.args.out.now in
    let b0 : List ℕ = 17 ∷ [] in
    let n0 : List ℕ = w c.write-in-Divide.new.out in
    let e0 : n0 ≡ old ++ b0 = c.write-in-Divide.ensures.written in
    let x0 : List ℕ = b0 in
    let s0 : n0 ≡ old ++ x0 = e0 in
    let b1 : List ℕ = u32_bytes c.in-Divide.to in
    let n1 : List ℕ = w c.write-in-Divide-2.new.out in
    let e1 : n1 ≡ n0 ++ b1 = c.write-in-Divide-2.ensures.written in
    let x1 : List ℕ = x0 ++ b1 in
    let s1 : n1 ≡ old ++ x1 = put_more old x0 n0 n1 b1 s0 e1 in
    let b2 : List ℕ = operand_bytes c.in-Divide.a in
    let n2 : List ℕ = w c.write-in-Divide-3.new.out in
    let e2 : n2 ≡ n1 ++ b2 = c.write-in-Divide-3.ensures.written in
    let x2 : List ℕ = x1 ++ b2 in
    let s2 : n2 ≡ old ++ x2 = put_more old x1 n1 n2 b2 s1 e2 in
    let b3 : List ℕ = operand_bytes c.in-Divide.b in
    let n3 : List ℕ = w c.write-in-Divide-4.new.out in
    let e3 : n3 ≡ n2 ++ b3 = c.write-in-Divide-4.ensures.written in
    let x3 : List ℕ = x2 ++ b3 in
    let s3 : n3 ≡ old ++ x3 = put_more old x2 n2 n3 b3 s2 e3 in
    let b4 : List ℕ = site_bytes c.in-Divide.site in
    let n4 : List ℕ = w c.write-in-Divide-5.new.out in
    let last : n4 ≡ n3 ++ b4 = c.write-in-Divide-5.ensures.written in
    let all : n4 ≡ old ++ (x3 ++ b4) = put_more old x3 n3 n4 b4 s3 last in
    rw (c.in-Divide.is, tree-Divide c.in-Divide.to c.in-Divide.a c.in-Divide.b c.in-Divide.site) all

pub write_command-returns-in-If-clause-written : goal.write_command-returns-in-If-clause-written
write_command-returns-in-If-clause-written g t c =
    let w = g.O.Output.written in
    let old : List ℕ = w c.args.out.now in
    let b0 : List ℕ = 4 ∷ [] in
    let n0 : List ℕ = w c.write-in-If.new.out in
    let e0 : n0 ≡ old ++ b0 = c.write-in-If.ensures.written in
    let x0 : List ℕ = b0 in
    let s0 : n0 ≡ old ++ x0 = e0 in
    let b1 : List ℕ = u32_bytes c.in-If.slot in
    let n1 : List ℕ = w c.write-in-If-2.new.out in
    let e1 : n1 ≡ n0 ++ b1 = c.write-in-If-2.ensures.written in
    let x1 : List ℕ = x0 ++ b1 in
    let s1 : n1 ≡ old ++ x1 = put_more old x0 n0 n1 b1 s0 e1 in
    let b2 : List ℕ = commands_bytes (commands_of (map command_tree c.in-If.then.items)) in
    let n2 : List ℕ = w c.write_commands.new.out in
    let e2 : n2 ≡ n1 ++ b2 = rw (← c.deref.ensures.value) c.write_commands.ensures.written in
    let x2 : List ℕ = x1 ++ b2 in
    let s2 : n2 ≡ old ++ x2 = put_more old x1 n1 n2 b2 s1 e2 in
    let b3 : List ℕ = commands_bytes (commands_of (map command_tree c.in-If.other.items)) in
    let n3 : List ℕ = w c.write_commands-in-If.new.out in
    let last : n3 ≡ n2 ++ b3 = rw (← c.deref-in-If.ensures.value) c.write_commands-in-If.ensures.written in
    let all : n3 ≡ old ++ (x2 ++ b3) = put_more old x2 n2 n3 b3 s2 last in
    rw (c.in-If.is, tree-If c.in-If.slot c.in-If.then c.in-If.other) (subst (λ (z : List ℕ). n3 ≡ old ++ z) (append_assoc x1 b2 b3) all)

pub write_command-returns-in-Loop-clause-written : goal.write_command-returns-in-Loop-clause-written
write_command-returns-in-Loop-clause-written g t c =
    let w = g.O.Output.written in
    let old : List ℕ = w c.args.out.now in
    let b0 : List ℕ = 5 ∷ [] in
    let n0 : List ℕ = w c.write-in-Loop.new.out in
    let e0 : n0 ≡ old ++ b0 = c.write-in-Loop.ensures.written in
    let x0 : List ℕ = b0 in
    let s0 : n0 ≡ old ++ x0 = e0 in
    let b1 : List ℕ = site_bytes c.in-Loop.site in
    let n1 : List ℕ = w c.write-in-Loop-2.new.out in
    let e1 : n1 ≡ n0 ++ b1 = c.write-in-Loop-2.ensures.written in
    let x1 : List ℕ = x0 ++ b1 in
    let s1 : n1 ≡ old ++ x1 = put_more old x0 n0 n1 b1 s0 e1 in
    let b2 : List ℕ = commands_bytes (commands_of (map command_tree c.in-Loop.head.items)) in
    let n2 : List ℕ = w c.write_commands-in-Loop.new.out in
    let e2 : n2 ≡ n1 ++ b2 = rw (← c.deref-in-Loop.ensures.value) c.write_commands-in-Loop.ensures.written in
    let x2 : List ℕ = x1 ++ b2 in
    let s2 : n2 ≡ old ++ x2 = put_more old x1 n1 n2 b2 s1 e2 in
    let b3 : List ℕ = commands_bytes (commands_of (map command_tree c.in-Loop.body.items)) in
    let n3 : List ℕ = w c.write_commands-in-Loop-2.new.out in
    let e3 : n3 ≡ n2 ++ b3 = rw (← c.deref-in-Loop-2.ensures.value) c.write_commands-in-Loop-2.ensures.written in
    let x3 : List ℕ = x2 ++ b3 in
    let s3 : n3 ≡ old ++ x3 = put_more old x2 n2 n3 b3 s2 e3 in
    let b4 : List ℕ = commands_bytes (commands_of (map command_tree c.in-Loop.step.items)) in
    let n4 : List ℕ = w c.write_commands-in-Loop-3.new.out in
    let last : n4 ≡ n3 ++ b4 = rw (← c.deref-in-Loop-3.ensures.value) c.write_commands-in-Loop-3.ensures.written in
    let all : n4 ≡ old ++ (x3 ++ b4) = put_more old x3 n3 n4 b4 s3 last in
    rw (c.in-Loop.is, tree-Loop c.in-Loop.site c.in-Loop.head c.in-Loop.body c.in-Loop.step) (subst (λ (z : List ℕ). n4 ≡ old ++ z) (append_assoc (x1 ++ b2) b3 b4 ∙ append_assoc x1 b2 (b3 ++ b4)) all)

pub write_command-returns-in-Call-clause-written : goal.write_command-returns-in-Call-clause-written
write_command-returns-in-Call-clause-written g t c =
    let w = g.O.Output.written in
    let old : List ℕ = w c.args.out.now in
    let b0 : List ℕ = 12 ∷ [] in
    let n0 : List ℕ = w c.write-in-Call.new.out in
    let e0 : n0 ≡ old ++ b0 = c.write-in-Call.ensures.written in
    let x0 : List ℕ = b0 in
    let s0 : n0 ≡ old ++ x0 = e0 in
    let b1 : List ℕ = option_bytes u32_bytes c.in-Call.to in
    let n1 : List ℕ = w c.write-in-Call-2.new.out in
    let e1 : n1 ≡ n0 ++ b1 = c.write-in-Call-2.ensures.written in
    let x1 : List ℕ = x0 ++ b1 in
    let s1 : n1 ≡ old ++ x1 = put_more old x0 n0 n1 b1 s0 e1 in
    let b2 : List ℕ = proc_id_bytes c.in-Call.proc in
    let n2 : List ℕ = w c.write-in-Call-3.new.out in
    let e2 : n2 ≡ n1 ++ b2 = c.write-in-Call-3.ensures.written in
    let x2 : List ℕ = x1 ++ b2 in
    let s2 : n2 ≡ old ++ x2 = put_more old x1 n1 n2 b2 s1 e2 in
    let b3 : List ℕ = list_bytes operand_bytes c.in-Call.arguments.items in
    let n3 : List ℕ = w c.write_items.new.out in
    let e3 : n3 ≡ n2 ++ b3 = rw (← c.deref-in-Call.ensures.value) c.write_items.ensures.written in
    let x3 : List ℕ = x2 ++ b3 in
    let s3 : n3 ≡ old ++ x3 = put_more old x2 n2 n3 b3 s2 e3 in
    let b4 : List ℕ = site_bytes c.in-Call.site in
    let n4 : List ℕ = w c.write-in-Call-4.new.out in
    let last : n4 ≡ n3 ++ b4 = c.write-in-Call-4.ensures.written in
    let all : n4 ≡ old ++ (x3 ++ b4) = put_more old x3 n3 n4 b4 s3 last in
    rw (c.in-Call.is, tree-Call c.in-Call.to c.in-Call.proc c.in-Call.arguments c.in-Call.site) all

-- ---- commands that stand in others are fewer

pub write_commands-write_command-requires : goal.write_commands-write_command-requires
write_commands-write_command-requires g t c κs within =
    (item_falls t c.loop-command.command-index c.args.commands.now c.command-item.result c.command-item.result c.decreases c.loop-command-test.true c.command-item.is, (within.0, within.1))

pub write_command-write_commands-requires : goal.write_command-write_commands-requires
write_command-write_commands-requires g t c κs within = (then_falls t c.in-If.slot c.args.command.now c.in-If.then c.in-If.other c.deref.result.now c.decreases c.in-If.is c.deref.ensures.value, (within.0, within.1))

pub write_command-write_commands-requires-in-If : goal.write_command-write_commands-requires-in-If
write_command-write_commands-requires-in-If g t c κs within = (other_falls t c.in-If.slot c.args.command.now c.in-If.then c.in-If.other c.deref-in-If.result.now c.decreases c.in-If.is c.deref-in-If.ensures.value, (within.0, within.1))

pub write_command-write_commands-requires-in-Loop : goal.write_command-write_commands-requires-in-Loop
write_command-write_commands-requires-in-Loop g t c κs within = (head_falls t c.in-Loop.site c.args.command.now c.in-Loop.head c.in-Loop.body c.in-Loop.step c.deref-in-Loop.result.now c.decreases c.in-Loop.is c.deref-in-Loop.ensures.value, (within.0, within.1))

pub write_command-write_commands-requires-in-Loop-2 : goal.write_command-write_commands-requires-in-Loop-2
write_command-write_commands-requires-in-Loop-2 g t c κs within = (body_falls t c.in-Loop.site c.args.command.now c.in-Loop.head c.in-Loop.body c.in-Loop.step c.deref-in-Loop-2.result.now c.decreases c.in-Loop.is c.deref-in-Loop-2.ensures.value, (within.0, within.1))

pub write_command-write_commands-requires-in-Loop-3 : goal.write_command-write_commands-requires-in-Loop-3
write_command-write_commands-requires-in-Loop-3 g t c κs within = (step_falls t c.in-Loop.site c.args.command.now c.in-Loop.head c.in-Loop.body c.in-Loop.step c.deref-in-Loop-3.result.now c.decreases c.in-Loop.is c.deref-in-Loop-3.ensures.value, (within.0, within.1))
