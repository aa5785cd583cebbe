use Rattle.std.proofs.Common.{get_or, Err, ap, ◌∙◌}
use Rattle.px_lexer.specs.Lent.{as_tokens}
use Rattle.px_cutting.proofs.ShapeLemmas.{no_token, some_left, not_cut, other_end, whole_or_not}
use Rattle.px_cutting.proofs.shapes.is_function_shaped.Goals as goal

pub returns-then-not-closes_brace : goal.returns-then-not-closes_brace
returns-then-not-closes_brace c =
    let ts = as_tokens c.args.tokens in
    (λ h. absurd cc, λ s. absurd (other_end ts no_token c.last_role.result c.closes_brace.result (some_left ts c.is_empty.result c.is_empty.ensures c.if-is_empty.false) (c.last_role.ensures no_token) c.closes_brace.ensures c.if-not-closes_brace.true s))

pub returns-in-Ok : goal.returns-in-Ok
returns-in-Ok c =
    let ts = as_tokens c.args.tokens in
    rw c.len.ensures (whole_or_not ts no_token c.last_role.result c.closes_brace.result c.in-Ok.count (some_left ts c.is_empty.result c.is_empty.ensures c.if-is_empty.false) (c.last_role.ensures no_token) c.closes_brace.ensures
    c.if-not-closes_brace.false c.in-Ok.ensures.found)

pub returns-in-Err-Unbalanced : goal.returns-in-Err-Unbalanced
returns-in-Err-Unbalanced c =
    let place = c.in-Err-Unbalanced.field-0-0 in
    let cut = c.item_length.ensures.unbalanced place (c.in-Err-Unbalanced.is ∙ ap (λ z. Err z) c.in-Err-Unbalanced.field-0-is) 0 in
    (λ h. absurd cc, λ s. absurd (not_cut (as_tokens c.args.tokens) place cut s))
