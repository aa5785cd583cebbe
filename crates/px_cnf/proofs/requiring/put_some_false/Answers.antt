use Rattle.std.proofs.Common.{List, [], ◌∷◌, ◌++◌, ap, ◌∙◌}
use Rattle.px_cnf.specs.declared.literal.Literal.{Literal}
use Rattle.px_cnf.proofs.Requires.{put_some, put_turned_below}
use Rattle.px_cnf.proofs.requiring.put_some_false.Goals as goal

pub returns-clause-inside : goal.returns-clause-inside
returns-clause-inside c n h k =
    put_turned_below n c.args.asserted.now.items c.push.new.self.items c.args.literals.now
    (c.in_ok-push.ensures.items ∙ ap (λ (x : List Literal). c.args.asserted.now.items ++ x ∷ []) (c.from_vec.ensures ∙ c.in_ok-clause.ensures)) h k

pub returns-clause-value : goal.returns-clause-value
returns-clause-value c a =
    put_some a c.args.asserted.now.items c.push.new.self.items c.args.literals.now
    (c.in_ok-push.ensures.items ∙ ap (λ (x : List Literal). c.args.asserted.now.items ++ x ∷ []) (c.from_vec.ensures ∙ c.in_ok-clause.ensures))
