use Rattle.std.proofs.Common.{rules, ◌≡◌, ◌∙◌, sym}
use Rattle.px_core.proofs.EqualLemmas.{lists_as, same_body, same_commands}
use Rattle.px_core.proofs.equal.equal_bodies.Goals as goal

pub returns : goal.returns
returns c =
    let result : c.args.left.now.result ≡ c.args.right.now.result = search rules in
    let types = sym c.as_slice.ensures ∙ c.equal_types.ensures.0 c.if-not-equal_types.false ∙ c.as_slice-2.ensures in (
      λ e. same_body c.args.left.now c.args.right.now c.if-left-right.false types result (lists_as (sym c.deref.ensures.value) (sym c.deref-2.ensures.value) (c.equal_lists.ensures.0 e)),
      λ e. c.equal_lists.ensures.1 (lists_as c.deref.ensures.value c.deref-2.ensures.value (same_commands c.args.left.now c.args.right.now e)),
    )
