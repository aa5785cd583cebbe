use Rattle.std.proofs.Common.{◌≡◌, ◌<◌, ◌≤◌, ap, subst, sym, ◌∙◌}
use Rattle.px_lexer.specs.declared.token.Token.{Token}
use Rattle.px_lexer.specs.Lent.{as_token, as_tokens}
use Rattle.px_parser.specs.Refusals.{outside_word, IsRefusal}
use Rattle.px_parser.proofs.ParseLemmas.{blank, none_at_first, none_so_far, refused_at, refused_as_form}
use Rattle.px_parser.proofs.parsing.refusal.Goals as goal

pub loop-i-init : goal.loop-i-init
loop-i-init c = none_at_first c.args.source.now (as_tokens c.args.tokens)

pub returns-in-Some : goal.returns-in-Some
returns-in-Some c =
    let source = c.args.source.now in
    let tokens = as_tokens c.args.tokens in
    let here = c.at-token.ensures.token blank in
    let within = subst (λ n. c.loop-i.i < n) c.len-i-end.ensures c.loop-i-test.true in
    let refused = refused_at source tokens blank c.loop-i.i c.in-Some.word within (sym c.in-Some.is ∙ c.in_ok-word.ensures ∙ ap (outside_word source) here) c.loop-i.invariant in
    subst (λ place. IsRefusal source tokens c.in-Some.word place) (ap (λ (t : Token). t.site) (sym here) ∙ sym c.site.ensures) refused

pub loop-i-preserved : goal.loop-i-preserved
loop-i-preserved c =
    let source = c.args.source.now in
    let here = c.at-token.ensures.token blank in
    let within = subst (λ n. c.loop-i.i < n) c.len-i-end.ensures c.loop-i-test.true in
    none_so_far source (as_tokens c.args.tokens) blank c.loop-i.i within (sym c.in_default.is ∙ c.in_ok-word.ensures ∙ ap (outside_word source) here) c.loop-i.invariant

pub returns : goal.returns
returns c =
    let source = c.args.source.now in
    let tokens = as_tokens c.args.tokens in
    let all = subst (λ n. n ≤ c.loop-i.i) c.len-i-end.ensures c.loop-i-test.false in
    let refused = refused_as_form source tokens blank c.loop-i.i c.in_ok-from_slice.field-0 c.requires all c.in_ok-from_slice.ensures c.loop-i.invariant in
    subst (λ place. IsRefusal source tokens c.in_ok-from_slice.field-0 place) (ap (λ (t : Token). t.site) (sym (c.at.ensures.token blank)) ∙ sym c.site-2.ensures) refused
