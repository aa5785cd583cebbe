use Rattle.std.proofs.Common.{◌≡◌, ◌∷◌, suc, ◌+◌, drop, drop-cons, ap₂, ◌∙◌, arith}
use Rattle.std.proofs.Math.ListN.{get_or-map}
use Rattle.px_lexer.specs.Kept.{on_lines}
use Rattle.px_lexer.specs.Lent.{as_tokens}
use Rattle.px_lexer.proofs.tokens.TokenSlice.at.Goals as goal

pub returns-clause-behind : goal.returns-clause-behind
returns-clause-behind c =
    let f = on_lines c.args.self.lines.now.file c.args.self.lines.now.starts.items in
    let tokens = as_tokens c.args.self in
    let next : suc c.args.index ≡ c.args.index + 1 = omega arith in
    drop-cons tokens c.args.index (f c.index-self-index.result) c.requires ∙ ap₂ (λ t n. t ∷ drop n tokens) (get_or-map f c.args.self.kept.now c.args.index c.index-self-index.result) next
