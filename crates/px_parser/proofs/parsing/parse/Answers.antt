use Rattle.std.proofs.Common.{option_map, ap, refl, ◌∙◌}
use Rattle.px_lexer.specs.declared.token.Token.{Token}
use Rattle.px_lexer.specs.Lent.{as_tokens}
use Rattle.px_syntax.specs.ItemTree.{item_tree}
use Rattle.px_parser.proofs.ParseLemmas.{blank, tree_found, no_tree_found, refusal_is}
use Rattle.px_parser.proofs.parsing.parse.Goals as goal

pub returns-in-Some-clause-found : goal.returns-in-Some-clause-found
returns-in-Some-clause-found c =
    tree_found c.args.source.now (as_tokens c.args.tokens) _ _ (item_tree c.in-Some.item) _ c.requires c.new.ensures.reads (c.site.ensures ∙ ap (λ (t : Token). t.site) (c.at.ensures.token blank)) c.in_ok-item.ensures (ap (option_map item_tree) c.in-Some.is)

pub returns-in_ok-word-in-None-clause-outside : goal.returns-in_ok-word-in-None-clause-outside
returns-in_ok-word-in-None-clause-outside c = λ word place h. (
  no_tree_found c.args.source.now (as_tokens c.args.tokens) _ _ _ c.requires c.new.ensures.reads (c.site.ensures ∙ ap (λ (t : Token). t.site) (c.at.ensures.token blank)) c.in_ok-item.ensures (ap (option_map item_tree) c.in-None.is),
  refusal_is c.args.source.now (as_tokens c.args.tokens) c.in_ok-word-in-None.word word c.in_ok-word-in-None.site place _ refl h c.in_ok-word-in-None.ensures,
)
