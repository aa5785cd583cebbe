use Rattle.std.proofs.Common.{List, [], ◌∷◌, ◌++◌, ap, ◌∙◌}
use Rattle.px_cnf.specs.declared.literal.Literal.{Literal}
use Rattle.px_cnf.proofs.Requires.{put_below, one_below, put_one}
use Rattle.px_cnf.proofs.requiring.put_unit.Goals as goal

pub returns-clause-inside : goal.returns-clause-inside
returns-clause-inside c n h k =
    put_below n c.args.asserted.now.items c.push.new.self.items (c.args.l ∷ [])
    (c.in_ok-push.ensures.items ∙ ap (λ (x : List Literal). c.args.asserted.now.items ++ x ∷ []) c.in_ok-clause.ensures) h (one_below n c.args.l k)

pub returns-clause-value : goal.returns-clause-value
returns-clause-value c a =
    put_one a c.args.asserted.now.items c.push.new.self.items c.args.l
    (c.in_ok-push.ensures.items ∙ ap (λ (x : List Literal). c.args.asserted.now.items ++ x ∷ []) c.in_ok-clause.ensures)
