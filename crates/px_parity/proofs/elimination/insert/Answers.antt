use Rattle.std.proofs.Common.{refl, sym, subst, ◌∙◌}
use Rattle.px_parity.specs.Equations.{IsCleared}
use Rattle.px_parity.proofs.Eliminating.{reduced_parity, added, implied, contradicted}
use Rattle.px_parity.proofs.elimination.insert.Goals as goal

pub returns-in_ok-push-in-Some-clause-adds : goal.returns-in_ok-push-in-Some-clause-adds
returns-in_ok-push-in-Some-clause-adds c =
    let ps = c.args.pivots.now.items in
    let rest = c.reduce.new.row in
    let same = reduced_parity ps c.deref.result.now rest c.args.row c.deref.ensures.value c.in_ok-reduce.ensures.same in
    added ps rest c.args.row same c.in-Some.lead c.push.new.self.items c.in_ok-push-in-Some.ensures.items c.requires
    (record { variable = c.in-Some.ensures.0; is_set = c.in-Some.ensures.1 }) (subst (IsCleared rest) c.deref.ensures.value c.in_ok-reduce.ensures.cleared)

pub returns-then-has-clause-adds : goal.returns-then-has-clause-adds
returns-then-has-clause-adds c =
    let ps = c.args.pivots.now.items in
    let same = reduced_parity ps c.deref.result.now c.reduce.new.row c.args.row c.deref.ensures.value c.in_ok-reduce.ensures.same in
    contradicted ps c.reduce.new.row c.args.row same ps refl c.in-None.ensures (sym c.has.ensures ∙ c.if-has.true)

pub returns-else-has-clause-adds : goal.returns-else-has-clause-adds
returns-else-has-clause-adds c =
    let ps = c.args.pivots.now.items in
    let same = reduced_parity ps c.deref.result.now c.reduce.new.row c.args.row c.deref.ensures.value c.in_ok-reduce.ensures.same in
    implied ps c.reduce.new.row c.args.row same ps refl c.in-None.ensures (sym c.has.ensures ∙ c.if-has.false)
