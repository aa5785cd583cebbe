use Rattle.std.proofs.Common.{◌≡◌, ◌-◌, ◌++◌, map, length, drop, option_map, length-drop, arith}
use Rattle.std.proofs.lemmas.Result.{err_from_is_err_and}
use Rattle.std.proofs.lemmas.List.{length-map}
use Rattle.px_real_symbols.specs.Symbols.{see, seen}
use Rattle.px_real_symbols.proofs.FrontLemmas.{drop_past}
use Rattle.px_real_blocks.proofs.Loops.{after_none}
use Rattle.px_real_declarations.specs.Reading.{declaration_by}
use Rattle.px_real_declarations.specs.HeldReading.{as_list}
use Rattle.px_real_declaring.specs.Items.{item_at}
use Rattle.px_real_declaring.specs.Trees.{declaration_tree}
use Rattle.px_real_members.proofs.LineLoops.{lines_end, lines_next, lines_err, lines_full, map_line}
use Rattle.px_real_members.proofs.lines.lines.Goals as goal

pub loop-init : goal.loop-init
loop-init g c =
    let m : length (drop c.args.start (seen c.args.on)) - 0 ≡ length (drop c.args.start (seen c.args.on)) = omega arith in
    rw (c.new-all.ensures.items, c.left-end.ensures, m) (after_none _)

pub returns-then-at-on : goal.returns-then-at-on
returns-then-at-on g c =
    lines_end c.args.members (declaration_by (g.T.TypeNames.named c.args.types.now) (item_at (g.T.TypeNames.named c.args.types.now) c.args.members)) _ c.loop.counter (map (declaration_tree (seen c.args.on)) c.loop.all.items) (drop c.loop.at (seen c.args.on)) _ c.loop-test.true
    (drop_past (see c.args.on.source.now) c.args.on.symbols.now c.loop.at (omega (arith, c.if-at-on.true))) c.loop.invariant

pub returns-in_err-line : goal.returns-in_err-line
returns-in_err-line g c =
    let p = err_from_is_err_and c.from_residual.result c.from_residual.ensures.1 in
    rw (p.1, p.2)
    (lines_err c.args.members (declaration_by (g.T.TypeNames.named c.args.types.now) (item_at (g.T.TypeNames.named c.args.types.now) c.args.members)) _ (seen c.args.on) _ c.loop.counter (map (declaration_tree (seen c.args.on)) c.loop.all.items) (drop c.loop.at (seen c.args.on)) _ c.loop-test.true (omega (arith, c.if-at-on.false, length-drop c.loop.at (seen c.args.on), length-map c.args.on.symbols.now (see c.args.on.source.now))) c.in_err-line.ensures c.loop.invariant)

pub loop-preserved : goal.loop-preserved
loop-preserved g c =
    let e : map (declaration_tree (seen c.args.on)) c.put.new.all.items ≡ (map (declaration_tree (seen c.args.on)) c.loop.all.items) ++ as_list (option_map (declaration_tree (seen c.args.on)) c.in_ok-line.line) =
    map_line (declaration_tree (seen c.args.on)) c.loop.all.items c.put.new.all.items c.in_ok-line.line c.in_ok-put.ensures in
    rw e
    (lines_next c.args.members (declaration_by (g.T.TypeNames.named c.args.types.now) (item_at (g.T.TypeNames.named c.args.types.now) c.args.members)) _ c.loop.counter (map (declaration_tree (seen c.args.on)) c.loop.all.items) (drop c.loop.at (seen c.args.on)) (drop c.in_ok-line.after (seen c.args.on)) (option_map (declaration_tree (seen c.args.on)) c.in_ok-line.line) _
    c.loop-test.true (omega (arith, c.if-at-on.false, length-drop c.loop.at (seen c.args.on), length-map c.args.on.symbols.now (see c.args.on.source.now))) c.in_ok-line.ensures c.loop.invariant)

pub returns : goal.returns
returns g c = lines_full c.args.members (declaration_by (g.T.TypeNames.named c.args.types.now) (item_at (g.T.TypeNames.named c.args.types.now) c.args.members)) _ (map (declaration_tree (seen c.args.on)) c.loop.all.items) (drop c.loop.at (seen c.args.on)) _ (omega (arith, c.loop-test.false)) c.loop.invariant
