use Rattle.std.proofs.Common.{◌≡◌, ◌-◌, ◌++◌, ◌∷◌, [], map, arith}
use Rattle.std.proofs.lemmas.Result.{err_from_is_err_and}
use Rattle.px_core.specs.CommandTree.{command_tree}
use Rattle.px_core.specs.Sizes.{command_size}
use Rattle.px_body_spelling.specs.Commands.{command_at, commands_at, row_at}
use Rattle.px_body_spelling.proofs.CommandReading.{choose_is, loop_is}
use Rattle.px_body_spelling.proofs.CommandLoops.{row_next, row_err, row_end, size_more}
use Rattle.px_body_spelling.proofs.commands.+command.Goals as goal

pub read_row-returns-in_err-command-clause-reads : goal.read_row-returns-in_err-command-clause-reads
read_row-returns-in_err-command-clause-reads t c =
    let p = err_from_is_err_and c.from_residual.result c.from_residual.ensures.1 in
    rw (p.1, p.2) (row_err c.in_err-command.field-0.0 (command_at c.args.depth) (map command_tree c.loop.commands.items) c.args.count c.loop.counter c.loop.left c.loop.rest.now
    (row_at (command_at c.args.depth) c.args.count c.args.room c.args.bytes.now) c.loop-test.true c.in_err-command.ensures.reads c.loop.invariant.reads)

pub read_row-loop-preserved : goal.read_row-loop-preserved
read_row-loop-preserved t c =
    let before = map command_tree c.loop.commands.items in
    let command = command_tree c.in_ok-command.command in
    let is : map command_tree c.put.new.commands.items ≡ before ++ command ∷ [] = c.in_ok-put.ensures in
    let less : c.in_ok-command.behind ≡ c.loop.left - command_size command = c.in_ok-command.ensures.left in
    record {
      reads = rw (is, less) (row_next (command_at c.args.depth) before c.args.count c.loop.counter c.loop.left c.loop.rest.now command c.in_ok-command.after.now
          (row_at (command_at c.args.depth) c.args.count c.args.room c.args.bytes.now) c.loop-test.true c.in_ok-command.ensures.reads c.loop.invariant.reads);
      room = rw is (omega (arith, less, c.loop.invariant.room, size_more before command));
    }

pub read_row-returns-clause-reads : goal.read_row-returns-clause-reads
read_row-returns-clause-reads t c = row_end (command_at c.args.depth) (map command_tree c.loop.commands.items) c.args.count c.loop.counter c.loop.left c.loop.rest.now
    (row_at (command_at c.args.depth) c.args.count c.args.room c.args.bytes.now) c.loop-test.false c.loop.invariant.reads

pub read_one-returns-in-4-clause-reads : goal.read_one-returns-in-4-clause-reads
read_one-returns-in-4-clause-reads t c =
    rw (choose_is c.args.depth c.args.room c.in_ok-tag.tag (commands_at (c.args.depth - 1)) c.args.bytes.now c.in_ok-tag.rest.now
    (omega (arith, c.if-depth-eq0.false)) (omega (arith, c.if-room-eq0.false)) c.in_ok-tag.ensures.reads c.in-4.is) c.read_if.ensures.reads

pub read_one-returns-in-5-clause-reads : goal.read_one-returns-in-5-clause-reads
read_one-returns-in-5-clause-reads t c =
    rw (loop_is c.args.depth c.args.room c.in_ok-tag.tag (commands_at (c.args.depth - 1)) c.args.bytes.now c.in_ok-tag.rest.now
    (omega (arith, c.if-depth-eq0.false)) (omega (arith, c.if-room-eq0.false)) c.in_ok-tag.ensures.reads c.in-5.is) c.read_loop.ensures.reads
