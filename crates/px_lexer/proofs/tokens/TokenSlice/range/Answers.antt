use Rattle.std.proofs.Common.{◌-◌, take, drop, sym, ap, ◌∙◌}
use Rattle.std.specs.List.{take-map, drop-map}
use Rattle.px_lexer.specs.Kept.{on_lines}
use Rattle.px_lexer.proofs.tokens.TokenSlice.range.Goals as goal

pub returns : goal.returns
returns c =
    let f = on_lines c.args.self.lines.now.file c.args.self.lines.now.starts.items in
    let kept = c.args.self.kept.now in
    let count = c.args.after - c.args.first in
    sym (ap (take count) (drop-map f c.args.first kept) ∙ take-map f count (drop c.args.first kept))
