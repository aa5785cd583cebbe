use Rattle.std.proofs.Common.{◌≡◌, ◌∙◌, ◌+◌, ◌++◌, [], ◌∷◌, map, take, subst, sym, ap, slice_index_or}
use Rattle.std.proofs.lemmas.List.{take_more, map_push}
use Rattle.px_lexer.specs.Lent.{as_tokens}
use Rattle.px_syntax.specs.ParsedTree.{parsed_tree}
use Rattle.px_reading.specs.Sources.{AreParsed, IsParsed}
use Rattle.px_reading.proofs.Within.{within_at, parsed_push}
use Rattle.px_reading.proofs.reading.parsed_items.Goals as goal

pub tokens_in-requires-clause-some : goal.tokens_in-requires-clause-some
tokens_in-requires-clause-some c = (within_at _ c.args.spans.now c.loop-i.i _ c.requires c.loop-i-test.true).0

pub tokens_in-requires-clause-within : goal.tokens_in-requires-clause-within
tokens_in-requires-clause-within c = (within_at _ c.args.spans.now c.loop-i.i _ c.requires c.loop-i-test.true).1

pub loop-i-preserved : goal.loop-i-preserved
loop-i-preserved c =
    let source = c.args.source.now in
    let tokens = (as_tokens c.args.tokens) in
    let spans = c.args.spans.now in
    let i = c.loop-i.i in
    let s = slice_index_or spans i (record { first = 0; after = 0 }) in
    let x = parsed_tree c.in_ok-item.item in
    let here = subst (λ ts. IsParsed source ts x) c.tokens_in.ensures.tokens c.in_ok-item.ensures in
    let more = parsed_push source tokens (take i spans) (map parsed_tree c.loop-i.parsed.items) s x c.loop-i.invariant here in
    let taken : take (i + 1) spans ≡ take i spans ++ s ∷ [] = take_more spans i (record { first = 0; after = 0 }) c.loop-i-test.true in
    let items : map parsed_tree c.push.new.self.items ≡ map parsed_tree c.loop-i.parsed.items ++ x ∷ [] = ap (map parsed_tree) c.in_ok-push.ensures.items ∙ map_push parsed_tree _ _ in
    subst (λ ss. AreParsed source tokens ss (map parsed_tree c.push.new.self.items)) (sym taken)
    (subst (λ is. AreParsed source tokens (take i spans ++ s ∷ []) is) (sym items) more)
