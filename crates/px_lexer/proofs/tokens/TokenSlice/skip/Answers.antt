use Rattle.std.proofs.Common.{map, sym, ap, ◌∙◌}
use Rattle.std.specs.List.{drop-map}
use Rattle.std.proofs.lemmas.List.{take_rest}
use Rattle.px_lexer.specs.Kept.{on_lines}
use Rattle.px_lexer.proofs.tokens.TokenSlice.skip.Goals as goal

pub returns : goal.returns
returns c =
    let f = on_lines c.args.self.lines.now.file c.args.self.lines.now.starts.items in
    let kept = c.args.self.kept.now in
    ap (map f) (take_rest kept c.args.count) ∙ sym (drop-map f c.args.count kept)
