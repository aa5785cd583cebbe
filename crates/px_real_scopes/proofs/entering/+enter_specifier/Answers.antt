use Rattle.std.proofs.Common.{false, map, drop, sym, ap, subst, ◌+◌, ◌∙◌, arith}
use Rattle.px_real_declarations.specs.Grammar.{Members}
use Rattle.px_real_declaring.specs.Items.{nesting_limit}
use Rattle.px_real_declaring.specs.Whole.{NoneIs}
use Rattle.px_real_declaring.specs.Trees.{specifier_tree, declaration_tree}
use Rattle.px_real_types.specs.Scopes.{texts}
use Rattle.px_real_scopes.specs.Lookups.{are_types}
use Rattle.px_real_scopes.specs.Entering.{in_turn, with_line, with_specifier, deeper_by}
use Rattle.px_real_scopes.specs.Steps.{Comes}
use Rattle.px_real_scopes.proofs.ComeLemmas.{turned}
use Rattle.px_real_scopes.proofs.GrowLemmas.{grows_on, grown, one_defined}
use Rattle.px_real_scopes.proofs.EnteringLemmas.{too_deep, not_members, defined_is}
use Rattle.px_real_scopes.proofs.entering.+enter_specifier.Goals as goal

pub define-returns-then-depth-eq0-clause-comes : goal.define-returns-then-depth-eq0-clause-comes
define-returns-then-depth-eq0-clause-comes t c = too_deep c.args.depth (texts c.args.on) c.args.number c.args.scopes.now c.if-depth-eq0.true

pub define_by-returns-clause-grows : goal.define_by-returns-clause-grows
define_by-returns-clause-grows t c = grows_on c.enter_lines.ensures.grows (grown c.enter_lines.new.scopes _ c.add_definition.new.scopes c.in_ok-add_definition.ensures.added (one_defined c.enter_lines.new.scopes _))

pub enter_lines-returns-in_err-enter_line-clause-grows : goal.enter_lines-returns-in_err-enter_line-clause-grows
enter_lines-returns-in_err-enter_line-clause-grows t c = grows_on c.loop-line.invariant.grows c.enter_line.ensures.grows

pub enter_lines-loop-line-preserved : goal.enter_lines-loop-line-preserved
enter_lines-loop-line-preserved t c = record {
  comes = ap (λ b. in_turn (with_line (with_specifier (deeper_by c.args.depth) false) b) (c.enter_line.new.scopes, c.enter_line.new.members.members) (map (declaration_tree (texts c.args.on)) (drop (c.loop-line.line-index + 1) c.args.lines.now)))
      c.in_ok-enter_line.ensures.same
      ∙ turned (with_line (with_specifier (deeper_by c.args.depth) false) c.loop-line.members.cells) (declaration_tree (texts c.args.on)) c.args.lines.now c.loop-line.line-index (c.loop-line.scopes, c.loop-line.members.members) _ c.loop-line.invariant.comes
      c.line-item.result c.loop-line-test.true c.line-item.is (c.enter_line.new.scopes, c.enter_line.new.members.members) c.in_ok-enter_line.ensures.comes;
  grows = grows_on c.loop-line.invariant.grows c.enter_line.ensures.grows;
}

pub enter_record-returns-in-Some-clause-grows : goal.enter_record-returns-in-Some-clause-grows
enter_record-returns-in-Some-clause-grows t c = grows_on c.meant_record.ensures.grows c.define.ensures.grows

pub enter_specifiers-returns-in_err-enter_specifier-clause-grows : goal.enter_specifiers-returns-in_err-enter_specifier-clause-grows
enter_specifiers-returns-in_err-enter_specifier-clause-grows t c = grows_on c.loop-specifier.invariant.grows c.enter_specifier.ensures.grows

pub enter_specifiers-loop-specifier-preserved : goal.enter_specifiers-loop-specifier-preserved
enter_specifiers-loop-specifier-preserved t c = record {
  comes = turned (with_specifier (deeper_by c.args.depth) c.args.alone) (specifier_tree (texts c.args.on)) c.args.specifiers.now c.loop-specifier.specifier-index c.loop-specifier.scopes _ c.loop-specifier.invariant.comes
      c.specifier-item.result c.loop-specifier-test.true c.specifier-item.is c.enter_specifier.new.scopes c.in_ok-enter_specifier.ensures.comes;
  grows = grows_on c.loop-specifier.invariant.grows c.enter_specifier.ensures.grows;
}

pub define-returns-in-Ok-clause-comes : goal.define-returns-in-Ok-clause-comes
define-returns-in-Ok-clause-comes t c =
    let all = texts c.args.on in
    let st = c.args.scopes.now in
    let read = subst (λ s. Members (are_types s.bindings) nesting_limit all (map (declaration_tree all) c.in-Ok.lines.items)) c.scopes.view_is c.in-Ok.ensures in
    let lent = subst (λ z. Members (are_types st.bindings) nesting_limit all (map (declaration_tree all) z)) (sym c.deref.ensures.value) read in
    subst (λ o. Comes o c.define_by.new.scopes c.define_by.result) (sym (defined_is c.args.depth all c.args.number st (map (declaration_tree all) c.deref.result.now) (omega (arith, c.if-depth-eq0.false)) lent)) c.define_by.ensures.comes

pub define-returns-in-Err-clause-comes : goal.define-returns-in-Err-clause-comes
define-returns-in-Err-clause-comes t c =
    let all = texts c.args.on in
    not_members (deeper_by c.args.depth) all c.args.number c.args.scopes.now c.args.scopes.now c.in-Err.fault
    (subst (λ s. NoneIs (Members (are_types s.bindings) nesting_limit all) c.in-Err.fault) c.scopes.view_is c.in-Err.ensures)
