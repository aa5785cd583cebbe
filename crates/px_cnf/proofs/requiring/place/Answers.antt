use Rattle.std.proofs.Common.{[], ◌∷◌, ◌++◌, ap, sym, ◌∙◌, arith}
use Rattle.std.proofs.lemmas.List.{length-take-le}
use Rattle.std.specs.Prelude.{false}
use Rattle.px_cnf.specs.declared.literal.Literal.{Literal}
use Rattle.px_cnf.proofs.Requires.{place_below, place_length, place_value}
use Rattle.px_cnf.proofs.requiring.place.Goals as goal

pub returns-clause-inside : goal.returns-clause-inside
returns-clause-inside c n h =
    place_below n c.args.positive c.args.word.now c.in_ok-all.all.items c.push.new.self.items (record { variable = 0; positive = false }) c.requires c.in_ok-all.ensures
    (c.in_ok-push.ensures.items ∙ ap (λ (l : Literal). c.in_ok-all.all.items ++ l ∷ []) c.with_sign.ensures) h

pub returns-clause-size : goal.returns-clause-size
returns-clause-size c =
    place_length c.args.positive c.args.word.now c.in_ok-all.all.items c.push.new.self.items c.with_sign.result c.requires c.in_ok-all.ensures c.in_ok-push.ensures.items

pub returns-clause-value : goal.returns-clause-value
returns-clause-value c a =
    place_value a c.args.positive c.args.word.now c.in_ok-all.all.items c.push.new.self.items (record { variable = 0; positive = false }) c.requires c.in_ok-all.ensures
    (c.in_ok-push.ensures.items ∙ ap (λ (l : Literal). c.in_ok-all.all.items ++ l ∷ []) c.with_sign.ensures)

pub slice_bounds-signs-end : goal.slice_bounds-signs-end
slice_bounds-signs-end c = sym (length-take-le 31 c.args.word.now (let r = c.requires in omega arith))
