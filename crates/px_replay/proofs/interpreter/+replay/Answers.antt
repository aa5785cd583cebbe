use Rattle.std.proofs.Common.{◌≡◌, ◌∙◌, List, [], ◌∷◌, ◌++◌, append-nil, refl, ap, map, drop, sym, subst, Ok, Err, Vec, Global, ap₂, true, false, Bool, ◌-◌, ◌<◌, arith, get_or, rules, ◌+◌, option_map}
use Rattle.std.proofs.lemmas.Result.{err_from_is_err_and}
use Rattle.px_meaning.specs.Values.{Value, Unwritten}
use Rattle.px_syntax.specs.TypedTree.{expressions_of, arguments_of, no_arguments, an_argument, no_expressions, an_expression, stop, evaluate, statements_of, run_call, free, access, choose, arithmetic, cell, call, compare, both, either, negated, truth, word, pointer, opposite, block, assign, update, loop}
use Rattle.px_syntax.specs.TypedViews.{typed_expression, typed_argument, typed_statement, typed_condition, typed_place, arithmetic_link, relation_link, calculated, compared, cells, all_of, any_of}
use Rattle.px_replay.specs.declared.flow.Flow.{Flow}
use Rattle.px_replay.specs.Script.{plain_script, UnlessMemory, and_then, answers}
use Rattle.px_replay.specs.Interpreted.{types_in, calls_of, given, given_these, ended}
use Rattle.px_replay.specs.Locals.{locals_map}
use Rattle.px_replay.specs.ChainReplay.{onto, chained, loads_link, calculates_link, compares_link, and_link, or_link}
use Rattle.px_replay.specs.TreeReplay.{ReplaysAll, PassesAll, reaches, ReplaysStatements, ReplaysStatement, Checks, assigns, updates, CallsReplay, returned, Replays, on_fall, loops, checks_if, on_turn, accesses}
use Rattle.px_replay.proofs.ActLemmas.{ended_by, ended_surely, surely, unless}
use Rattle.px_replay.proofs.ListLemmas.{passed_stops, passed_goes, erased_done, arguments_more, arguments_stop, arguments_end, onto_none, statements_more, statements_stop, statements_end, ends_list}
use Rattle.std.specs.Prelude.{⊤}
use Rattle.px_meaning.specs.Execution.{Locals}
use Rattle.px_replay.specs.declared.flow.Flow.TheVariants.{Falls}
use Rattle.std.specs.Option.{option_copied}
use Rattle.px_meaning.specs.TypedProgram.{typed_program}
use Rattle.px_syntax.specs.ProgramTree.{program_tree, procedure_tree}
use Rattle.px_replay.specs.declared.stop.Stop.TheVariants.{Departs}
use Rattle.px_replay.proofs.PassLemmas.{effects_more, effects_stop, effects_end, then_nothing, passes_plain}
use Rattle.px_replay.proofs.BodyLemmas.{body_at, got}
use Rattle.px_replay.proofs.ChainLemmas.{chain_more, chain_stops, chain_ends, calculated_goes, calculated_stops, cells_goes, cells_stops, compared_goes, compared_stops, all_goes, all_stops, all_false, any_goes, any_stops, any_true, cells_same, chosen, passed}
use Rattle.px_syntax.proofs.TypedEquations.{typed_trees, typed-Block}
use Rattle.px_meaning.proofs.TreesSeen.{compare_seen, both_seen, either_seen, arithmetic_seen, call_seen, cell_seen, stop_seen, erased_seen}
use Rattle.px_base.specs.declared.trace.MarkKind.TheVariants.{Iter, Done}
use Rattle.px_replay.proofs.LoopLemmas.{took_mark, no_mark, next_turn, turn_goes, turn_ends}
use Rattle.px_replay.specs.Operations.{used_value}
use Rattle.px_syntax.specs.TypedTree as tree
use Rattle.px_replay.proofs.Sizes.{size_of, argument_size, test_size, value_size, test_size_if, place_size, statement_size, body_falls, falls, calculated_first, calculated_link, compared_first, compared_link, all_of_first, all_of_link, any_of_first, any_of_link, cells_first, part_in, argument_in, statement_in}
use Rattle.px_replay.proofs.interpreter.+replay.Goals as goal

pub arguments-loop-e-preserved : goal.arguments-loop-e-preserved
arguments-loop-e-preserved t c = λ r s' k.
    let types = types_in c.args.callees.now in let calls = calls_of c.args.callees.now in let locals = locals_map c.args.locals.now in let (more, are, h) = c.in_ok-argument.ensures in subst (λ vs. ReplaysAll types calls (arguments_of (map typed_argument c.args.es.now)) locals (plain_script c.args.script.now) (onto vs r) s') (sym are) (arguments_more types calls c.args.es.now c.args.es.now c.loop-e.e-index c.e-item.result locals c.loop-e.values.items more (plain_script c.args.script.now) (plain_script c.loop-e.script) (plain_script c.argument.new.script) r s' c.loop-e-test.true c.e-item.is c.loop-e.invariant h k)

pub arguments-returns-in_err-argument : goal.arguments-returns-in_err-argument
arguments-returns-in_err-argument t c =
    let types = types_in c.args.callees.now in let calls = calls_of c.args.callees.now in let locals = locals_map c.args.locals.now in ended_by ⊤ (Vec Value Global) (λ s r s'. ReplaysAll types calls (arguments_of (map typed_argument c.args.es.now)) locals s (given r) s') (plain_script c.args.script.now) (plain_script c.argument.new.script) c.from_residual-in_err-argument.result c.in_err-argument.field-0.0 (err_from_is_err_and c.from_residual-in_err-argument.result c.from_residual-in_err-argument.ensures.1) (λ h. c.loop-e.invariant _ _ (arguments_stop types calls c.args.es.now c.loop-e.e-index c.e-item.result locals c.in_err-argument.field-0.0 (plain_script c.loop-e.script) (plain_script c.argument.new.script) c.loop-e-test.true c.e-item.is h.2)) c.in_err-argument.ensures

pub argument-returns-in_err-given-in-Passed : goal.argument-returns-in_err-given-in-Passed
argument-returns-in_err-given-in-Passed t c =
    let types = types_in c.args.callees.now in let calls = calls_of c.args.callees.now in let locals = locals_map c.args.locals.now in let s0 = plain_script c.args.script.now in let s1 = plain_script c.expression.new.script in let d = c.in_err-given-in-Passed.field-0.0 in let there = c.args.values.now.items in
    ended_by Value ⊤ (λ s r s'. (more : List Value) × (there ≡ there ++ more) × ReplaysAll types calls (an_argument (typed_argument c.args.e.now) no_arguments) locals s (given_these more r) s') s0 s1 c.from_residual.result d (err_from_is_err_and c.from_residual.result c.from_residual.ensures.1) (λ h. ([], sym (append-nil there), passed_stops types calls c.args.e.now c.in-Passed.value c.in-Passed.is locals d s0 s1 h)) c.in_err-given-in-Passed.ensures

pub argument-returns-in_ok-push-in-Passed : goal.argument-returns-in_ok-push-in-Passed
argument-returns-in_ok-push-in-Passed t c =
    let types = types_in c.args.callees.now in let calls = calls_of c.args.callees.now in let locals = locals_map c.args.locals.now in let s0 = plain_script c.args.script.now in let s1 = plain_script c.expression.new.script in (c.in_ok-given-in-Passed.given ∷ [], c.in_ok-push-in-Passed.ensures.items, passed_goes types calls c.args.e.now c.in-Passed.value c.in-Passed.is locals c.in_ok-given-in-Passed.given s0 s1 c.in_ok-given-in-Passed.ensures)

pub argument-returns-in-Erased : goal.argument-returns-in-Erased
argument-returns-in-Erased t c =
    let types = types_in c.args.callees.now in let calls = calls_of c.args.callees.now in let locals = locals_map c.args.locals.now in let s0 = plain_script c.args.script.now in let s1 = plain_script c.effects.new.script in let there = c.args.values.now.items in
    unless c.effects.result (λ h. ([], sym (append-nil there), erased_done types calls c.args.e.now c.deref.result.now c.in-Erased.parts c.in-Erased.is c.deref.ensures.value locals c.effects.result s0 s1 h)) c.effects.ensures

pub argument-expression-requires : goal.argument-expression-requires
argument-expression-requires t c = let h = ap argument_size (ap typed_argument c.in-Passed.is) in (falls c.args.callees.now _ _ t c.decreases (omega (arith, h)), tt)

pub argument-effects-requires : goal.argument-effects-requires
argument-effects-requires t c = let h = ap argument_size (erased_seen c.args.e.now c.deref.result.now c.in-Erased.parts c.in-Erased.is c.deref.ensures.value) in (falls c.args.callees.now _ _ t c.decreases (omega (arith, h)), tt)

pub arguments-returns : goal.arguments-returns
arguments-returns t c =
    let types = types_in c.args.callees.now in let calls = calls_of c.args.callees.now in let locals = locals_map c.args.locals.now in subst (λ r. ReplaysAll types calls (arguments_of (map typed_argument c.args.es.now)) locals (plain_script c.args.script.now) r (plain_script c.loop-e.script)) (onto_none types calls c.loop-e.values.items) (c.loop-e.invariant _ _ (arguments_end types calls c.args.es.now c.loop-e.e-index locals (plain_script c.loop-e.script) c.loop-e-test.false))

pub effects-loop-e-preserved : goal.effects-loop-e-preserved
effects-loop-e-preserved t c = λ r s' k.
    let types = types_in c.args.callees.now in let calls = calls_of c.args.callees.now in let locals = locals_map c.args.locals.now in c.loop-e.invariant r s' (effects_more types calls c.args.es.now c.loop-e.e-index c.e-item.result locals (plain_script c.loop-e.script) (plain_script c.effect.new.script) r s' c.loop-e-test.true c.e-item.is c.in_ok-effect.ensures k)

pub effects-returns-in_err-effect : goal.effects-returns-in_err-effect
effects-returns-in_err-effect t c =
    let types = types_in c.args.callees.now in let calls = calls_of c.args.callees.now in let locals = locals_map c.args.locals.now in ended_by ⊤ ⊤ (λ s r s'. PassesAll types calls (expressions_of (map typed_expression c.args.es.now)) locals s r s') (plain_script c.args.script.now) (plain_script c.effect.new.script) c.from_residual.result c.in_err-effect.field-0.0 (err_from_is_err_and c.from_residual.result c.from_residual.ensures.1) (λ h. c.loop-e.invariant _ _ (effects_stop types calls c.args.es.now c.loop-e.e-index c.e-item.result locals c.in_err-effect.field-0.0 (plain_script c.loop-e.script) (plain_script c.effect.new.script) c.loop-e-test.true c.e-item.is h)) c.in_err-effect.ensures

pub effects-returns : goal.effects-returns
effects-returns t c =
    let types = types_in c.args.callees.now in let calls = calls_of c.args.callees.now in let locals = locals_map c.args.locals.now in c.loop-e.invariant _ _ (effects_end types calls c.args.es.now c.loop-e.e-index locals (plain_script c.loop-e.script) c.loop-e-test.false)

pub effects-effect-requires : goal.effects-effect-requires
effects-effect-requires t c = let h = part_in c.args.es.now c.loop-e.e-index c.e-item.result c.loop-e-test.true c.e-item.is in (falls c.args.callees.now _ _ t c.decreases (omega (arith, h)), tt)

pub expression-returns-in_err-effects-in-Stop : goal.expression-returns-in_err-effects-in-Stop
expression-returns-in_err-effects-in-Stop t c =
    let types = types_in c.args.callees.now in let calls = calls_of c.args.callees.now in let locals = locals_map c.args.locals.now in let s0 = plain_script c.args.script.now in let s1 = plain_script c.effects.new.script in let d = c.in_err-effects-in-Stop.field-0.0 in let eq : typed_expression c.args.e.now ≡ stop c.in-Stop.word c.in-Stop.site (expressions_of (map typed_expression c.deref-in-Stop.result.now)) = stop_seen c.args.e.now c.deref-in-Stop.result.now c.in-Stop.word c.in-Stop.site c.in-Stop.parts c.in-Stop.is c.deref-in-Stop.ensures.value in
    ended_by ⊤ Value (λ s r s'. Replays types calls (typed_expression c.args.e.now) locals s r s') s0 s1 c.from_residual-in_err-effects-in-Stop.result d (err_from_is_err_and c.from_residual-in_err-effects-in-Stop.result c.from_residual-in_err-effects-in-Stop.ensures.1) (λ h. subst (λ e. Replays types calls e locals s0 (Err d) s1) (sym eq) (Err d, s1, h, (refl, refl))) c.in_err-effects-in-Stop.ensures

pub expression-returns-in_ok-effects-in-Stop : goal.expression-returns-in_ok-effects-in-Stop
expression-returns-in_ok-effects-in-Stop t c =
    let types = types_in c.args.callees.now in let calls = calls_of c.args.callees.now in let locals = locals_map c.args.locals.now in let s0 = plain_script c.args.script.now in let s1 = plain_script c.effects.new.script in let eq : typed_expression c.args.e.now ≡ stop c.in-Stop.word c.in-Stop.site (expressions_of (map typed_expression c.deref-in-Stop.result.now)) = stop_seen c.args.e.now c.deref-in-Stop.result.now c.in-Stop.word c.in-Stop.site c.in-Stop.parts c.in-Stop.is c.deref-in-Stop.ensures.value in
    subst (λ e. Replays types calls e locals s0 (Err Departs) s1) (sym eq) (Ok tt, s1, c.in_ok-effects-in-Stop.ensures, (refl, refl))

pub expression-effects-requires : goal.expression-effects-requires
expression-effects-requires t c = let h = ap size_of (stop_seen c.args.e.now c.deref-in-Stop.result.now c.in-Stop.word c.in-Stop.site c.in-Stop.parts c.in-Stop.is c.deref-in-Stop.ensures.value) in (falls c.args.callees.now _ _ t c.decreases (omega (arith, h)), tt)

pub effect-returns-in-Local : goal.effect-returns-in-Local
effect-returns-in-Local t c = subst (λ e. PassesAll (types_in c.args.callees.now) (calls_of c.args.callees.now) (an_expression e no_expressions) (locals_map c.args.locals.now) (plain_script c.args.script.now) (Ok tt) (plain_script c.args.script.now)) (sym (ap typed_expression c.in-Local.is)) (refl, refl)

pub effect-returns-in_err-at-in-Cell : goal.effect-returns-in_err-at-in-Cell
effect-returns-in_err-at-in-Cell t c =
    let types = types_in c.args.callees.now in let calls = calls_of c.args.callees.now in let locals = locals_map c.args.locals.now in let s0 = plain_script c.args.script.now in let s1 = plain_script c.cells.new.script in let d = c.in_err-at-in-Cell.field-0.0 in let eq : typed_expression c.args.e.now ≡ cell (cells (typed_expression c.deref.result.now) c.deref-in-Cell.result.now) c.in-Cell.field c.in-Cell.block c.in-Cell.site = cell_seen c.args.e.now c.deref.result.now c.deref-in-Cell.result.now c.in-Cell.pointer c.in-Cell.before c.in-Cell.field c.in-Cell.block c.in-Cell.site c.in-Cell.is c.deref.ensures c.deref-in-Cell.ensures.value in
    ended_by Value ⊤ (λ s r s'. PassesAll types calls (an_expression (typed_expression c.args.e.now) no_expressions) locals s r s') s0 s1 c.from_residual.result d (err_from_is_err_and c.from_residual.result c.from_residual.ensures.1) (λ h. subst (λ e. PassesAll types calls (an_expression e no_expressions) locals s0 (Err d) s1) (sym eq) (Err d, s1, h, (refl, refl))) c.in_err-at-in-Cell.ensures

pub effect-returns-in_ok-at-in-Cell : goal.effect-returns-in_ok-at-in-Cell
effect-returns-in_ok-at-in-Cell t c =
    let types = types_in c.args.callees.now in let calls = calls_of c.args.callees.now in let locals = locals_map c.args.locals.now in let s0 = plain_script c.args.script.now in let s1 = plain_script c.reach.new.script in let eq : typed_expression c.args.e.now ≡ cell (cells (typed_expression c.deref.result.now) c.deref-in-Cell.result.now) c.in-Cell.field c.in-Cell.block c.in-Cell.site = cell_seen c.args.e.now c.deref.result.now c.deref-in-Cell.result.now c.in-Cell.pointer c.in-Cell.before c.in-Cell.field c.in-Cell.block c.in-Cell.site c.in-Cell.is c.deref.ensures c.deref-in-Cell.ensures.value in
    surely c.reach.result (subst (λ e. PassesAll types calls (an_expression e no_expressions) locals s0 c.reach.result s1) (sym eq) (Ok c.in_ok-at-in-Cell.at, plain_script c.cells.new.script, c.in_ok-at-in-Cell.ensures, then_nothing (reaches c.in_ok-at-in-Cell.at c.in-Cell.block c.in-Cell.site) (plain_script c.cells.new.script) c.reach.result s1 c.reach.ensures))

pub effect-returns-in_err-values-in-Call : goal.effect-returns-in_err-values-in-Call
effect-returns-in_err-values-in-Call t c =
    let types = types_in c.args.callees.now in let calls = calls_of c.args.callees.now in let locals = locals_map c.args.locals.now in let s0 = plain_script c.args.script.now in let s1 = plain_script c.arguments.new.script in let d = c.in_err-values-in-Call.field-0.0 in let eq : typed_expression c.args.e.now ≡ call c.in-Call.proc (arguments_of (map typed_argument c.deref-in-Call.result.now)) c.in-Call.result c.in-Call.site = call_seen c.args.e.now c.deref-in-Call.result.now c.in-Call.proc c.in-Call.es c.in-Call.result c.in-Call.site c.in-Call.is c.deref-in-Call.ensures.value in
    ended_by (Vec Value Global) ⊤ (λ s r s'. PassesAll types calls (an_expression (typed_expression c.args.e.now) no_expressions) locals s r s') s0 s1 c.from_residual-in_err-values-in-Call.result d (err_from_is_err_and c.from_residual-in_err-values-in-Call.result c.from_residual-in_err-values-in-Call.ensures.1) (λ h. subst (λ e. PassesAll types calls (an_expression e no_expressions) locals s0 (Err d) s1) (sym eq) (Err d, s1, h, (refl, refl))) c.in_err-values-in-Call.ensures

pub effect-returns-in_err-call-in-Call : goal.effect-returns-in_err-call-in-Call
effect-returns-in_err-call-in-Call t c =
    let types = types_in c.args.callees.now in let calls = calls_of c.args.callees.now in let locals = locals_map c.args.locals.now in let s0 = plain_script c.args.script.now in let sx = plain_script c.arguments.new.script in let s1 = plain_script c.call.new.script in let d = c.in_err-call-in-Call.field-0.0 in let eq : typed_expression c.args.e.now ≡ call c.in-Call.proc (arguments_of (map typed_argument c.deref-in-Call.result.now)) c.in-Call.result c.in-Call.site = call_seen c.args.e.now c.deref-in-Call.result.now c.in-Call.proc c.in-Call.es c.in-Call.result c.in-Call.site c.in-Call.is c.deref-in-Call.ensures.value in
    ended_by Value ⊤ (λ s r s'. PassesAll types calls (an_expression (typed_expression c.args.e.now) no_expressions) locals s r s') s0 s1 c.from_residual-in_err-call-in-Call.result d (err_from_is_err_and c.from_residual-in_err-call-in-Call.result c.from_residual-in_err-call-in-Call.ensures.1) (λ h. subst (λ e. PassesAll types calls (an_expression e no_expressions) locals s0 (Err d) s1) (sym eq) (Ok c.in_ok-values-in-Call.values.items, sx, c.in_ok-values-in-Call.ensures, (Err d, s1, h, (refl, refl)))) c.in_err-call-in-Call.ensures

pub effect-returns-in_ok-call-in-Call : goal.effect-returns-in_ok-call-in-Call
effect-returns-in_ok-call-in-Call t c =
    let types = types_in c.args.callees.now in let calls = calls_of c.args.callees.now in let locals = locals_map c.args.locals.now in let s0 = plain_script c.args.script.now in let sx = plain_script c.arguments.new.script in let s1 = plain_script c.call.new.script in let eq : typed_expression c.args.e.now ≡ call c.in-Call.proc (arguments_of (map typed_argument c.deref-in-Call.result.now)) c.in-Call.result c.in-Call.site = call_seen c.args.e.now c.deref-in-Call.result.now c.in-Call.proc c.in-Call.es c.in-Call.result c.in-Call.site c.in-Call.is c.deref-in-Call.ensures.value in
    subst (λ e. PassesAll types calls (an_expression e no_expressions) locals s0 (Ok tt) s1) (sym eq) (Ok c.in_ok-values-in-Call.values.items, sx, c.in_ok-values-in-Call.ensures, (Ok c.in_ok-call-in-Call.field-0, s1, c.in_ok-call-in-Call.ensures, (refl, refl)))

pub effect-returns-in_err-expression-in_default : goal.effect-returns-in_err-expression-in_default
effect-returns-in_err-expression-in_default t c =
    let types = types_in c.args.callees.now in let calls = calls_of c.args.callees.now in let locals = locals_map c.args.locals.now in let s0 = plain_script c.args.script.now in let s1 = plain_script c.expression.new.script in let d = c.in_err-expression-in_default.field-0.0 in ended_by Value ⊤ (λ s r s'. PassesAll types calls (an_expression (typed_expression c.args.e.now) no_expressions) locals s r s') s0 s1 c.from_residual-in_err-expression-in_default.result d (err_from_is_err_and c.from_residual-in_err-expression-in_default.result c.from_residual-in_err-expression-in_default.ensures.1) (λ h. passes_plain types calls c.args.e.now c.in_default.not-Local c.in_default.not-Cell c.in_default.not-Call locals s0 (Err d) s1 (Err d, s1, h, (refl, refl))) c.in_err-expression-in_default.ensures

pub effect-returns-in_ok-expression-in_default : goal.effect-returns-in_ok-expression-in_default
effect-returns-in_ok-expression-in_default t c =
    let types = types_in c.args.callees.now in let calls = calls_of c.args.callees.now in let locals = locals_map c.args.locals.now in let s0 = plain_script c.args.script.now in let s1 = plain_script c.expression.new.script in passes_plain types calls c.args.e.now c.in_default.not-Local c.in_default.not-Cell c.in_default.not-Call locals s0 (Ok tt) s1 (Ok c.in_ok-expression-in_default.field-0, s1, c.in_ok-expression-in_default.ensures, (refl, refl))

pub effect-cells-requires : goal.effect-cells-requires
effect-cells-requires t c = let h = ap size_of (cell_seen c.args.e.now c.deref.result.now c.deref-in-Cell.result.now c.in-Cell.pointer c.in-Cell.before c.in-Cell.field c.in-Cell.block c.in-Cell.site c.in-Cell.is c.deref.ensures c.deref-in-Cell.ensures.value) in (falls c.args.callees.now _ _ t c.decreases (omega (arith, h)), tt)

pub effect-arguments-requires : goal.effect-arguments-requires
effect-arguments-requires t c = let h = ap size_of (call_seen c.args.e.now c.deref-in-Call.result.now c.in-Call.proc c.in-Call.es c.in-Call.result c.in-Call.site c.in-Call.is c.deref-in-Call.ensures.value) in (falls c.args.callees.now _ _ t c.decreases (omega (arith, h)), tt)

pub effect-call-requires : goal.effect-call-requires
effect-call-requires t c = let h = ap size_of (call_seen c.args.e.now c.deref-in-Call.result.now c.in-Call.proc c.in-Call.es c.in-Call.result c.in-Call.site c.in-Call.is c.deref-in-Call.ensures.value) in (falls c.args.callees.now _ _ t c.decreases (omega (arith, h)), tt)

pub effect-expression-requires : goal.effect-expression-requires
effect-expression-requires t c = (falls c.args.callees.now _ _ t c.decreases (omega arith), tt)

pub statement-returns-in_err-effect-in-Evaluate : goal.statement-returns-in_err-effect-in-Evaluate
statement-returns-in_err-effect-in-Evaluate t c =
    let types = types_in c.args.callees.now in let calls = calls_of c.args.callees.now in let n = c.args.callees.now.depth in let l0 = locals_map c.args.locals.now in let s0 = plain_script c.args.script.now in let s1 = plain_script c.effect.new.script in let d = c.in_err-effect-in-Evaluate.field-0.0 in
    let eq : typed_statement c.args.s.now ≡ evaluate (typed_expression c.deref-in-Evaluate.result.now) = ap typed_statement c.in-Evaluate.is ∙ sym (ap (λ e. evaluate (typed_expression e)) c.deref-in-Evaluate.ensures) in ended_by ⊤ Flow (λ s r s'. ReplaysStatement types calls n (typed_statement c.args.s.now) l0 s (ended r l0) s') s0 s1 c.from_residual-in_err-effect-in-Evaluate.result d (err_from_is_err_and c.from_residual-in_err-effect-in-Evaluate.result c.from_residual-in_err-effect-in-Evaluate.ensures.1) (λ h. subst (λ t. ReplaysStatement types calls n t l0 s0 (Err d) s1) (sym eq) (Err d, s1, h, (refl, refl))) c.in_err-effect-in-Evaluate.ensures

pub statement-returns-in_ok-effect-in-Evaluate : goal.statement-returns-in_ok-effect-in-Evaluate
statement-returns-in_ok-effect-in-Evaluate t c =
    let types = types_in c.args.callees.now in let calls = calls_of c.args.callees.now in let n = c.args.callees.now.depth in let l0 = locals_map c.args.locals.now in let s0 = plain_script c.args.script.now in let s1 = plain_script c.effect.new.script in let eq : typed_statement c.args.s.now ≡ evaluate (typed_expression c.deref-in-Evaluate.result.now) = ap typed_statement c.in-Evaluate.is ∙ sym (ap (λ e. evaluate (typed_expression e)) c.deref-in-Evaluate.ensures) in subst (λ t. ReplaysStatement types calls n t l0 s0 (Ok (Falls, l0)) s1) (sym eq) (Ok tt, s1, c.in_ok-effect-in-Evaluate.ensures, (refl, refl))

pub statement-effect-requires : goal.statement-effect-requires
statement-effect-requires t c = let h = ap statement_size (ap typed_statement c.in-Evaluate.is ∙ sym (ap (λ e. evaluate (typed_expression e)) c.deref-in-Evaluate.ensures)) in (falls c.args.callees.now _ _ t c.decreases (omega (arith, h)), tt)

pub assignment-returns-in_err-value-in-Cell : goal.assignment-returns-in_err-value-in-Cell
assignment-returns-in_err-value-in-Cell t c =
    let types = types_in c.args.callees.now in let calls = calls_of c.args.callees.now in let l0 = locals_map c.args.locals.now in let s0 = plain_script c.args.script.now in let d = c.in_err-value-in-Cell.field-0.0 in let t = typed_expression c.args.e.now in let eq : typed_place c.args.place.now ≡ tree.cell_place (typed_expression c.deref.result.now) c.in-Cell.field c.in-Cell.block c.in-Cell.site = ap typed_place c.in-Cell.is ∙ sym (ap (λ e. tree.cell_place (typed_expression e) c.in-Cell.field c.in-Cell.block c.in-Cell.site) c.deref.ensures) in
    let s1 = plain_script c.expression-in-Cell.new.script in let s2 = plain_script c.expression-in-Cell-2.new.script in ended_by Value Flow (λ s r s'. assigns types calls (typed_place c.args.place.now) t l0 s (ended r l0) s') s0 s2 c.from_residual-in_err-value-in-Cell.result d (err_from_is_err_and c.from_residual-in_err-value-in-Cell.result c.from_residual-in_err-value-in-Cell.ensures.1) (λ h. subst (λ p. assigns types calls p t l0 s0 (Err d) s2) (sym eq) (Ok c.in_ok-at-in-Cell.at, s1, c.in_ok-at-in-Cell.ensures, (Err d, s2, h, (refl, refl)))) c.in_err-value-in-Cell.ensures

pub assignment-returns-in_err-store-in-Cell : goal.assignment-returns-in_err-store-in-Cell
assignment-returns-in_err-store-in-Cell t c =
    let types = types_in c.args.callees.now in let calls = calls_of c.args.callees.now in let l0 = locals_map c.args.locals.now in let s0 = plain_script c.args.script.now in let d = c.in_err-store-in-Cell.field-0.0 in let s3 = plain_script c.store.new.script in let t = typed_expression c.args.e.now in let eq : typed_place c.args.place.now ≡ tree.cell_place (typed_expression c.deref.result.now) c.in-Cell.field c.in-Cell.block c.in-Cell.site = ap typed_place c.in-Cell.is ∙ sym (ap (λ e. tree.cell_place (typed_expression e) c.in-Cell.field c.in-Cell.block c.in-Cell.site) c.deref.ensures) in
    let s1 = plain_script c.expression-in-Cell.new.script in let s2 = plain_script c.expression-in-Cell-2.new.script in ended_by ⊤ Flow (λ s r s'. assigns types calls (typed_place c.args.place.now) t l0 s (ended r l0) s') s0 s3 c.from_residual-in_err-store-in-Cell.result d (err_from_is_err_and c.from_residual-in_err-store-in-Cell.result c.from_residual-in_err-store-in-Cell.ensures.1) (λ h. subst (λ p. assigns types calls p t l0 s0 (Err d) s3) (sym eq) (Ok c.in_ok-at-in-Cell.at, s1, c.in_ok-at-in-Cell.ensures, (Ok c.in_ok-value-in-Cell.value, s2, c.in_ok-value-in-Cell.ensures, h l0))) c.in_err-store-in-Cell.ensures

pub assignment-returns-in_ok-store-in-Cell : goal.assignment-returns-in_ok-store-in-Cell
assignment-returns-in_ok-store-in-Cell t c =
    let types = types_in c.args.callees.now in let calls = calls_of c.args.callees.now in let l0 = locals_map c.args.locals.now in let s0 = plain_script c.args.script.now in let s3 = plain_script c.store.new.script in let t = typed_expression c.args.e.now in let eq : typed_place c.args.place.now ≡ tree.cell_place (typed_expression c.deref.result.now) c.in-Cell.field c.in-Cell.block c.in-Cell.site = ap typed_place c.in-Cell.is ∙ sym (ap (λ e. tree.cell_place (typed_expression e) c.in-Cell.field c.in-Cell.block c.in-Cell.site) c.deref.ensures) in
    let s1 = plain_script c.expression-in-Cell.new.script in let s2 = plain_script c.expression-in-Cell-2.new.script in subst (λ p. assigns types calls p t l0 s0 (Ok (Falls, l0)) s3) (sym eq) (Ok c.in_ok-at-in-Cell.at, s1, c.in_ok-at-in-Cell.ensures, (Ok c.in_ok-value-in-Cell.value, s2, c.in_ok-value-in-Cell.ensures, c.in_ok-store-in-Cell.ensures l0))

pub body-returns-in_err-statement : goal.body-returns-in_err-statement
body-returns-in_err-statement t c =
    let callees = c.args.callees.now in let P = typed_program (program_tree callees.program.now) in let s0 = plain_script c.args.script.now in let s1 = plain_script c.statement.new.script in let d = c.in_err-statement.field-0.0 in let p = c.in-Some.procedure.now in let some : 0 < callees.depth = omega (arith, c.if-callees-eq0.false) in let is = got procedure_tree callees.program.now.procedures c.args.proc.0 p (sym c.get.ensures ∙ ap option_copied c.in-Some.is) in
    ended_by Flow Value (λ s r s'. calls_of callees c.args.proc.0 c.args.arguments.items s r s') s0 s1 c.from_residual.result d (err_from_is_err_and c.from_residual.result c.from_residual.ensures.1) (λ h. body_at P callees.depth c.args.proc.0 c.args.arguments.items s0 (Err d) s1 (procedure_tree p) some is
    (Err d, s1, subst (λ l. ReplaysStatement P.types (CallsReplay P (callees.depth - 1)) (callees.depth - 1) (typed_statement p.body.statement) l s0 (Err d) s1) c.new-locals.ensures h, (refl, refl))) c.in_err-statement.ensures

pub body-returns-in-Falls : goal.body-returns-in-Falls
body-returns-in-Falls t c =
    let callees = c.args.callees.now in let P = typed_program (program_tree callees.program.now) in let s0 = plain_script c.args.script.now in let s1 = plain_script c.statement.new.script in let l1 = locals_map c.statement.new.locals in let p = c.in-Some.procedure.now in let some : 0 < callees.depth = omega (arith, c.if-callees-eq0.false) in let is = got procedure_tree callees.program.now.procedures c.args.proc.0 p (sym c.get.ensures ∙ ap option_copied c.in-Some.is) in
    body_at P callees.depth c.args.proc.0 c.args.arguments.items s0 (Ok Unwritten) s1 (procedure_tree p) some is (Ok (c.in_ok-statement.field-0, l1), s1, subst (λ l. ReplaysStatement P.types (CallsReplay P (callees.depth - 1)) (callees.depth - 1) (typed_statement p.body.statement) l s0 (Ok (c.in_ok-statement.field-0, l1)) s1) c.new-locals.ensures c.in_ok-statement.ensures, subst (λ f. returned (f, l1) s1 (Ok Unwritten) s1) (sym c.in-Falls.is) (refl, refl))

pub body-returns-in-Returns : goal.body-returns-in-Returns
body-returns-in-Returns t c =
    let callees = c.args.callees.now in let P = typed_program (program_tree callees.program.now) in let s0 = plain_script c.args.script.now in let s1 = plain_script c.statement.new.script in let l1 = locals_map c.statement.new.locals in let p = c.in-Some.procedure.now in let some : 0 < callees.depth = omega (arith, c.if-callees-eq0.false) in let is = got procedure_tree callees.program.now.procedures c.args.proc.0 p (sym c.get.ensures ∙ ap option_copied c.in-Some.is) in
    body_at P callees.depth c.args.proc.0 c.args.arguments.items s0 (Ok c.in-Returns.value) s1 (procedure_tree p) some is (Ok (c.in_ok-statement.field-0, l1), s1, subst (λ l. ReplaysStatement P.types (CallsReplay P (callees.depth - 1)) (callees.depth - 1) (typed_statement p.body.statement) l s0 (Ok (c.in_ok-statement.field-0, l1)) s1) c.new-locals.ensures c.in_ok-statement.ensures, subst (λ f. returned (f, l1) s1 (Ok c.in-Returns.value) s1) (sym c.in-Returns.is) (refl, refl))

pub body-returns-in-Breaks : goal.body-returns-in-Breaks
body-returns-in-Breaks t c =
    let callees = c.args.callees.now in let P = typed_program (program_tree callees.program.now) in let s0 = plain_script c.args.script.now in let s1 = plain_script c.statement.new.script in let l1 = locals_map c.statement.new.locals in let p = c.in-Some.procedure.now in let some : 0 < callees.depth = omega (arith, c.if-callees-eq0.false) in let is = got procedure_tree callees.program.now.procedures c.args.proc.0 p (sym c.get.ensures ∙ ap option_copied c.in-Some.is) in
    body_at P callees.depth c.args.proc.0 c.args.arguments.items s0 (Err Departs) s1 (procedure_tree p) some is (Ok (c.in_ok-statement.field-0, l1), s1, subst (λ l. ReplaysStatement P.types (CallsReplay P (callees.depth - 1)) (callees.depth - 1) (typed_statement p.body.statement) l s0 (Ok (c.in_ok-statement.field-0, l1)) s1) c.new-locals.ensures c.in_ok-statement.ensures, subst (λ f. returned (f, l1) s1 (Err Departs) s1) (sym c.in-Breaks.is) (refl, refl))

pub body-returns : goal.body-returns
body-returns t c =
    let callees = c.args.callees.now in let P = typed_program (program_tree callees.program.now) in let s0 = plain_script c.args.script.now in let s1 = plain_script c.statement.new.script in let l1 = locals_map c.statement.new.locals in let p = c.in-Some.procedure.now in let some : 0 < callees.depth = omega (arith, c.if-callees-eq0.false) in let is = got procedure_tree callees.program.now.procedures c.args.proc.0 p (sym c.get.ensures ∙ ap option_copied c.in-Some.is) in
    body_at P callees.depth c.args.proc.0 c.args.arguments.items s0 (Err Departs) s1 (procedure_tree p) some is (Ok (c.in_ok-statement.field-0, l1), s1, subst (λ l. ReplaysStatement P.types (CallsReplay P (callees.depth - 1)) (callees.depth - 1) (typed_statement p.body.statement) l s0 (Ok (c.in_ok-statement.field-0, l1)) s1) c.new-locals.ensures c.in_ok-statement.ensures, subst (λ f. returned (f, l1) s1 (Err Departs) s1) (sym c.in-Continues.is) (refl, refl))

pub calculations-returns-in_err-x : goal.calculations-returns-in_err-x
calculations-returns-in_err-x t c =
    let types = types_in c.args.callees.now in let calls = calls_of c.args.callees.now in let locals = locals_map c.args.locals.now in ended_by Value Value (Replays types calls (calculated (typed_expression c.args.first.now) (map arithmetic_link c.args.links.now)) locals) (plain_script c.args.script.now) (plain_script c.expression.new.script) c.from_residual.result c.in_err-x.field-0.0
    (err_from_is_err_and c.from_residual.result c.from_residual.ensures.1)
    (calculated_stops types calls locals (map arithmetic_link c.args.links.now) (typed_expression c.args.first.now) c.in_err-x.field-0.0 (plain_script c.args.script.now) (plain_script c.expression.new.script)) c.in_err-x.ensures

pub calculations-loop-link-init : goal.calculations-loop-link-init
calculations-loop-link-init t c = λ r s' k.
    calculated_goes (types_in c.args.callees.now) (calls_of c.args.callees.now) (locals_map c.args.locals.now) (map arithmetic_link c.args.links.now) (typed_expression c.args.first.now) c.in_ok-x.x
    (plain_script c.args.script.now) (plain_script c.expression.new.script) r s' c.in_ok-x.ensures k

pub calculations-loop-link-preserved : goal.calculations-loop-link-preserved
calculations-loop-link-preserved t c = λ r s' k. c.loop-link.invariant r s'
    (chain_more (calculates_link (types_in c.args.callees.now) (calls_of c.args.callees.now) (locals_map c.args.locals.now)) arithmetic_link c.args.links.now c.loop-link.link-index c.link-item.result c.link-item.result
    c.loop-link-test.true c.link-item.is c.loop-link.x c.in_ok-x-2.x (plain_script c.loop-link.script) (plain_script c.expression-in-loop-link.new.script) r s'
    (Ok c.in_ok-y.y, plain_script c.expression-in-loop-link.new.script, c.in_ok-y.ensures, (c.in_ok-x-2.ensures, refl)) k)

pub calculations-returns : goal.calculations-returns
calculations-returns t c = c.loop-link.invariant _ _
    (chain_ends (calculates_link (types_in c.args.callees.now) (calls_of c.args.callees.now) (locals_map c.args.locals.now)) arithmetic_link c.args.links.now c.loop-link.link-index
    c.loop-link-test.false c.loop-link.x (plain_script c.loop-link.script))

pub calculations-returns-in_err-y : goal.calculations-returns-in_err-y
calculations-returns-in_err-y t c =
    let types = types_in c.args.callees.now in let calls = calls_of c.args.callees.now in let locals = locals_map c.args.locals.now in ended_by Value Value (Replays types calls (calculated (typed_expression c.args.first.now) (map arithmetic_link c.args.links.now)) locals) (plain_script c.args.script.now) (plain_script c.expression-in-loop-link.new.script)
    c.from_residual-in_err-y.result c.in_err-y.field-0.0 (err_from_is_err_and c.from_residual-in_err-y.result c.from_residual-in_err-y.ensures.1)
    (λ h. c.loop-link.invariant _ _ (chain_stops (calculates_link types calls locals) arithmetic_link c.args.links.now c.loop-link.link-index c.link-item.result c.link-item.result c.loop-link-test.true c.link-item.is
    c.loop-link.x c.in_err-y.field-0.0 (plain_script c.loop-link.script) (plain_script c.expression-in-loop-link.new.script) (Err c.in_err-y.field-0.0, plain_script c.expression-in-loop-link.new.script, h, (refl, refl)))) c.in_err-y.ensures

pub calculations-returns-in_err-x-2 : goal.calculations-returns-in_err-x-2
calculations-returns-in_err-x-2 t c =
    let types = types_in c.args.callees.now in let calls = calls_of c.args.callees.now in let locals = locals_map c.args.locals.now in ended_surely (Replays types calls (calculated (typed_expression c.args.first.now) (map arithmetic_link c.args.links.now)) locals) (plain_script c.args.script.now) (plain_script c.expression-in-loop-link.new.script)
    c.from_residual-in_err-x-2.result c.in_err-x-2.field-0.0 (err_from_is_err_and c.from_residual-in_err-x-2.result c.from_residual-in_err-x-2.ensures.1)
    (c.loop-link.invariant _ _ (chain_stops (calculates_link types calls locals) arithmetic_link c.args.links.now c.loop-link.link-index c.link-item.result c.link-item.result c.loop-link-test.true c.link-item.is
    c.loop-link.x c.in_err-x-2.field-0.0 (plain_script c.loop-link.script) (plain_script c.expression-in-loop-link.new.script) (Ok c.in_ok-y.y, plain_script c.expression-in-loop-link.new.script, c.in_ok-y.ensures, (c.in_err-x-2.ensures, refl))))

pub cells-returns-in_err-at : goal.cells-returns-in_err-at
cells-returns-in_err-at t c =
    let types = types_in c.args.callees.now in let calls = calls_of c.args.callees.now in let locals = locals_map c.args.locals.now in ended_by Value Value (Replays types calls (cells (typed_expression c.args.pointer.now) c.args.links.now) locals) (plain_script c.args.script.now) (plain_script c.expression.new.script) c.from_residual.result c.in_err-at.field-0.0
    (err_from_is_err_and c.from_residual.result c.from_residual.ensures.1)
    (cells_stops types calls locals c.args.links.now (typed_expression c.args.pointer.now) c.in_err-at.field-0.0 (plain_script c.args.script.now) (plain_script c.expression.new.script)) c.in_err-at.ensures

pub cells-loop-link-init : goal.cells-loop-link-init
cells-loop-link-init t c = λ r s' k.
    let types = types_in c.args.callees.now in let calls = calls_of c.args.callees.now in let locals = locals_map c.args.locals.now in cells_goes types calls locals c.args.links.now (typed_expression c.args.pointer.now) c.in_ok-at.at (plain_script c.args.script.now) (plain_script c.expression.new.script) r s' c.in_ok-at.ensures
    (subst (λ ls. chained loads_link ls c.in_ok-at.at (plain_script c.expression.new.script) r s') (cells_same c.args.links.now) k)

pub cells-loop-link-preserved : goal.cells-loop-link-preserved
cells-loop-link-preserved t c = λ r s' k. c.loop-link.invariant r s'
    (chain_more loads_link (λ l. l) c.args.links.now c.loop-link.link-index (get_or c.args.links.now c.loop-link.link-index _) _ c.loop-link-test.true refl c.loop-link.at c.in_ok-at-2.at
    (plain_script c.loop-link.script) (plain_script c.load.new.script) r s' c.in_ok-at-2.ensures k)

pub cells-returns : goal.cells-returns
cells-returns t c = c.loop-link.invariant _ _ (chain_ends loads_link (λ l. l) c.args.links.now c.loop-link.link-index c.loop-link-test.false c.loop-link.at (plain_script c.loop-link.script))

pub cells-returns-in_err-at-2 : goal.cells-returns-in_err-at-2
cells-returns-in_err-at-2 t c =
    let types = types_in c.args.callees.now in let calls = calls_of c.args.callees.now in let locals = locals_map c.args.locals.now in ended_surely (Replays types calls (cells (typed_expression c.args.pointer.now) c.args.links.now) locals) (plain_script c.args.script.now) (plain_script c.load.new.script)
    c.from_residual-in_err-at-2.result c.in_err-at-2.field-0.0 (err_from_is_err_and c.from_residual-in_err-at-2.result c.from_residual-in_err-at-2.ensures.1)
    (c.loop-link.invariant _ _ (chain_stops loads_link (λ l. l) c.args.links.now c.loop-link.link-index (get_or c.args.links.now c.loop-link.link-index _) _ c.loop-link-test.true refl
    c.loop-link.at c.in_err-at-2.field-0.0 (plain_script c.loop-link.script) (plain_script c.load.new.script) c.in_err-at-2.ensures))

pub comparisons-returns-in_err-x : goal.comparisons-returns-in_err-x
comparisons-returns-in_err-x t c =
    let types = types_in c.args.callees.now in let calls = calls_of c.args.callees.now in let locals = locals_map c.args.locals.now in ended_by Value Value (Replays types calls (compared (typed_expression c.args.first.now) (map relation_link c.args.links.now)) locals) (plain_script c.args.script.now) (plain_script c.expression.new.script) c.from_residual.result c.in_err-x.field-0.0
    (err_from_is_err_and c.from_residual.result c.from_residual.ensures.1)
    (compared_stops types calls locals (map relation_link c.args.links.now) (typed_expression c.args.first.now) c.in_err-x.field-0.0 (plain_script c.args.script.now) (plain_script c.expression.new.script)) c.in_err-x.ensures

pub comparisons-loop-link-init : goal.comparisons-loop-link-init
comparisons-loop-link-init t c = λ r s' k.
    let types = types_in c.args.callees.now in let calls = calls_of c.args.callees.now in let locals = locals_map c.args.locals.now in compared_goes types calls locals (map relation_link c.args.links.now) (typed_expression c.args.first.now) c.in_ok-x.x (plain_script c.args.script.now) (plain_script c.expression.new.script) r s' c.in_ok-x.ensures k

pub comparisons-loop-link-preserved : goal.comparisons-loop-link-preserved
comparisons-loop-link-preserved t c = λ r s' k. c.loop-link.invariant r s'
    (chain_more (compares_link (types_in c.args.callees.now) (calls_of c.args.callees.now) (locals_map c.args.locals.now)) relation_link c.args.links.now c.loop-link.link-index c.link-item.result c.link-item.result
    c.loop-link-test.true c.link-item.is c.loop-link.x c.truth-x.result (plain_script c.loop-link.script) (plain_script c.compare.new.script) r s' (Ok c.in_ok-y.y, plain_script c.expression-in-loop-link.new.script, c.in_ok-y.ensures, (Ok c.in_ok-compare.field-0, plain_script c.compare.new.script, c.in_ok-compare.ensures, (ap (λ v. Ok v) c.truth-x.ensures, refl))) k)

pub comparisons-returns : goal.comparisons-returns
comparisons-returns t c = c.loop-link.invariant _ _
    (chain_ends (compares_link (types_in c.args.callees.now) (calls_of c.args.callees.now) (locals_map c.args.locals.now)) relation_link c.args.links.now c.loop-link.link-index
    c.loop-link-test.false c.loop-link.x (plain_script c.loop-link.script))

pub comparisons-returns-in_err-y : goal.comparisons-returns-in_err-y
comparisons-returns-in_err-y t c =
    let types = types_in c.args.callees.now in let calls = calls_of c.args.callees.now in let locals = locals_map c.args.locals.now in ended_by Value Value (Replays types calls (compared (typed_expression c.args.first.now) (map relation_link c.args.links.now)) locals) (plain_script c.args.script.now) (plain_script c.expression-in-loop-link.new.script)
    c.from_residual-in_err-y.result c.in_err-y.field-0.0 (err_from_is_err_and c.from_residual-in_err-y.result c.from_residual-in_err-y.ensures.1)
    (λ h. c.loop-link.invariant _ _ (chain_stops (compares_link types calls locals) relation_link c.args.links.now c.loop-link.link-index c.link-item.result c.link-item.result c.loop-link-test.true c.link-item.is
    c.loop-link.x c.in_err-y.field-0.0 (plain_script c.loop-link.script) (plain_script c.expression-in-loop-link.new.script) (Err c.in_err-y.field-0.0, plain_script c.expression-in-loop-link.new.script, h, (refl, refl)))) c.in_err-y.ensures

pub comparisons-returns-in_err-compare : goal.comparisons-returns-in_err-compare
comparisons-returns-in_err-compare t c =
    let types = types_in c.args.callees.now in let calls = calls_of c.args.callees.now in let locals = locals_map c.args.locals.now in let d = c.in_err-compare.field-0.0 in ended_surely (Replays types calls (compared (typed_expression c.args.first.now) (map relation_link c.args.links.now)) locals) (plain_script c.args.script.now) (plain_script c.compare.new.script)
    c.from_residual-in_err-compare.result d (err_from_is_err_and c.from_residual-in_err-compare.result c.from_residual-in_err-compare.ensures.1)
    (c.loop-link.invariant _ _ (chain_stops (compares_link types calls locals) relation_link c.args.links.now c.loop-link.link-index c.link-item.result c.link-item.result c.loop-link-test.true c.link-item.is
    c.loop-link.x d (plain_script c.loop-link.script) (plain_script c.compare.new.script)
    (Ok c.in_ok-y.y, plain_script c.expression-in-loop-link.new.script, c.in_ok-y.ensures, (Err d, plain_script c.compare.new.script, c.in_err-compare.ensures, (refl, refl)))))

pub condition-returns-in_err-x-in-Compare : goal.condition-returns-in_err-x-in-Compare
condition-returns-in_err-x-in-Compare t c =
    let types = types_in c.args.callees.now in let calls = calls_of c.args.callees.now in let locals = locals_map c.args.locals.now in let s0 = plain_script c.args.script.now in let s1 = plain_script c.comparisons.new.script in let d = c.in_err-x-in-Compare.field-0.0 in let eq : typed_condition c.args.c.now ≡ compare c.in-Compare.relation (compared (typed_expression c.deref.result.now) (map relation_link c.deref-in-Compare.result.now)) (typed_expression c.in-Compare.right.value) c.in-Compare.site = compare_seen c.args.c.now c.deref.result.now (c.in-Compare.right.value) c.deref-in-Compare.result.now c.in-Compare.first c.in-Compare.before c.in-Compare.relation c.in-Compare.right c.in-Compare.site
    c.in-Compare.is c.deref.ensures c.deref-in-Compare.ensures.value refl in
    ended_by Value Bool (λ s r s'. Checks types calls (typed_condition c.args.c.now) locals s r s') s0 s1 c.from_residual.result d (err_from_is_err_and c.from_residual.result c.from_residual.ensures.1) (λ h. subst (λ e. Checks types calls e locals s0 (Err d) s1) (sym eq) (Err d, s1, h, (refl, refl))) c.in_err-x-in-Compare.ensures

pub condition-returns-in_err-y-in-Compare : goal.condition-returns-in_err-y-in-Compare
condition-returns-in_err-y-in-Compare t c =
    let types = types_in c.args.callees.now in let calls = calls_of c.args.callees.now in let locals = locals_map c.args.locals.now in let s0 = plain_script c.args.script.now in let s1 = plain_script c.expression.new.script in let d = c.in_err-y-in-Compare.field-0.0 in let sx = plain_script c.comparisons.new.script in let eq : typed_condition c.args.c.now ≡ compare c.in-Compare.relation (compared (typed_expression c.deref.result.now) (map relation_link c.deref-in-Compare.result.now)) (typed_expression c.deref-in-Compare-2.result.now) c.in-Compare.site = compare_seen c.args.c.now c.deref.result.now (c.deref-in-Compare-2.result.now) c.deref-in-Compare.result.now c.in-Compare.first c.in-Compare.before c.in-Compare.relation c.in-Compare.right c.in-Compare.site
    c.in-Compare.is c.deref.ensures c.deref-in-Compare.ensures.value c.deref-in-Compare-2.ensures in
    ended_by Value Bool (λ s r s'. Checks types calls (typed_condition c.args.c.now) locals s r s') s0 s1 c.from_residual-in_err-y-in-Compare.result d (err_from_is_err_and c.from_residual-in_err-y-in-Compare.result c.from_residual-in_err-y-in-Compare.ensures.1) (λ h. subst (λ e. Checks types calls e locals s0 (Err d) s1) (sym eq) (Ok c.in_ok-x-in-Compare.x, sx, c.in_ok-x-in-Compare.ensures, (Err d, s1, h, (refl, refl)))) c.in_err-y-in-Compare.ensures

pub condition-returns-in_ok-y-in-Compare : goal.condition-returns-in_ok-y-in-Compare
condition-returns-in_ok-y-in-Compare t c =
    let types = types_in c.args.callees.now in let calls = calls_of c.args.callees.now in let locals = locals_map c.args.locals.now in let s0 = plain_script c.args.script.now in let sx = plain_script c.comparisons.new.script in let s1 = plain_script c.compare.new.script in let eq : typed_condition c.args.c.now ≡ compare c.in-Compare.relation (compared (typed_expression c.deref.result.now) (map relation_link c.deref-in-Compare.result.now)) (typed_expression c.deref-in-Compare-2.result.now) c.in-Compare.site =
    compare_seen c.args.c.now c.deref.result.now (c.deref-in-Compare-2.result.now) c.deref-in-Compare.result.now c.in-Compare.first c.in-Compare.before c.in-Compare.relation c.in-Compare.right c.in-Compare.site
    c.in-Compare.is c.deref.ensures c.deref-in-Compare.ensures.value c.deref-in-Compare-2.ensures in
    surely c.compare.result (subst (λ e. Checks types calls e locals s0 c.compare.result s1) (sym eq)
    (Ok c.in_ok-x-in-Compare.x, sx, c.in_ok-x-in-Compare.ensures, (Ok c.in_ok-y-in-Compare.y, plain_script c.expression.new.script, c.in_ok-y-in-Compare.ensures, c.compare.ensures)))

pub condition-returns-in_err-conjunction-in-And : goal.condition-returns-in_err-conjunction-in-And
condition-returns-in_err-conjunction-in-And t c =
    let types = types_in c.args.callees.now in let calls = calls_of c.args.callees.now in let locals = locals_map c.args.locals.now in let s0 = plain_script c.args.script.now in let s1 = plain_script c.conjunction.new.script in let d = c.in_err-conjunction-in-And.field-0.0 in let eq : typed_condition c.args.c.now ≡ both (all_of (typed_condition c.deref-in-And.result.now) (map typed_condition c.deref-in-And-2.result.now)) (typed_condition c.in-And.right.value) =
    both_seen c.args.c.now c.deref-in-And.result.now (c.in-And.right.value) c.deref-in-And-2.result.now c.in-And.first c.in-And.before c.in-And.right c.in-And.is c.deref-in-And.ensures c.deref-in-And-2.ensures.value refl in
    ended_by Bool Bool (λ s r s'. Checks types calls (typed_condition c.args.c.now) locals s r s') s0 s1 c.from_residual-in_err-conjunction-in-And.result d (err_from_is_err_and c.from_residual-in_err-conjunction-in-And.result c.from_residual-in_err-conjunction-in-And.ensures.1) (λ h. subst (λ e. Checks types calls e locals s0 (Err d) s1) (sym eq) (Err d, s1, h, (refl, refl))) c.in_err-conjunction-in-And.ensures

pub condition-returns-in_err-disjunction-in-Or : goal.condition-returns-in_err-disjunction-in-Or
condition-returns-in_err-disjunction-in-Or t c =
    let types = types_in c.args.callees.now in let calls = calls_of c.args.callees.now in let locals = locals_map c.args.locals.now in let s0 = plain_script c.args.script.now in let s1 = plain_script c.disjunction.new.script in let d = c.in_err-disjunction-in-Or.field-0.0 in let eq : typed_condition c.args.c.now ≡ either (any_of (typed_condition c.deref-in-Or.result.now) (map typed_condition c.deref-in-Or-2.result.now)) (typed_condition c.in-Or.right.value) =
    either_seen c.args.c.now c.deref-in-Or.result.now (c.in-Or.right.value) c.deref-in-Or-2.result.now c.in-Or.first c.in-Or.before c.in-Or.right c.in-Or.is c.deref-in-Or.ensures c.deref-in-Or-2.ensures.value refl in
    ended_by Bool Bool (λ s r s'. Checks types calls (typed_condition c.args.c.now) locals s r s') s0 s1 c.from_residual-in_err-disjunction-in-Or.result d (err_from_is_err_and c.from_residual-in_err-disjunction-in-Or.result c.from_residual-in_err-disjunction-in-Or.ensures.1) (λ h. subst (λ e. Checks types calls e locals s0 (Err d) s1) (sym eq) (Err d, s1, h, (refl, refl))) c.in_err-disjunction-in-Or.ensures

pub condition-returns-then-branch : goal.condition-returns-then-branch
condition-returns-then-branch t c =
    let types = types_in c.args.callees.now in let calls = calls_of c.args.callees.now in let locals = locals_map c.args.locals.now in let s0 = plain_script c.args.script.now in let eq : typed_condition c.args.c.now ≡ both (all_of (typed_condition c.deref-in-And.result.now) (map typed_condition c.deref-in-And-2.result.now)) (typed_condition (c.deref-then-branch.result.now)) =
    both_seen c.args.c.now c.deref-in-And.result.now (c.deref-then-branch.result.now) c.deref-in-And-2.result.now c.in-And.first c.in-And.before c.in-And.right c.in-And.is c.deref-in-And.ensures c.deref-in-And-2.ensures.value c.deref-then-branch.ensures in
    let s1 = plain_script c.conjunction.new.script in let first = subst (λ b. Checks types calls (all_of (typed_condition c.deref-in-And.result.now) (map typed_condition c.deref-in-And-2.result.now)) locals s0 (Ok b) s1) c.if-branch.true c.in_ok-conjunction-in-And.ensures in subst (λ e. UnlessMemory c.condition.result (Checks types calls e locals s0 c.condition.result (plain_script c.condition.new.script))) (sym eq) (unless c.condition.result (λ h. (Ok true, s1, first, h)) c.condition.ensures)

pub condition-returns-else-branch : goal.condition-returns-else-branch
condition-returns-else-branch t c =
    let types = types_in c.args.callees.now in let calls = calls_of c.args.callees.now in let locals = locals_map c.args.locals.now in let s0 = plain_script c.args.script.now in let eq : typed_condition c.args.c.now ≡ both (all_of (typed_condition c.deref-in-And.result.now) (map typed_condition c.deref-in-And-2.result.now)) (typed_condition (c.in-And.right.value)) =
    both_seen c.args.c.now c.deref-in-And.result.now (c.in-And.right.value) c.deref-in-And-2.result.now c.in-And.first c.in-And.before c.in-And.right c.in-And.is c.deref-in-And.ensures c.deref-in-And-2.ensures.value refl in
    let s1 = plain_script c.conjunction.new.script in let first = subst (λ b. Checks types calls (all_of (typed_condition c.deref-in-And.result.now) (map typed_condition c.deref-in-And-2.result.now)) locals s0 (Ok b) s1) c.if-branch.false c.in_ok-conjunction-in-And.ensures in subst (λ e. Checks types calls e locals s0 (Ok false) s1) (sym eq) (Ok false, s1, first, (refl, refl))

pub condition-returns-then-branch-2 : goal.condition-returns-then-branch-2
condition-returns-then-branch-2 t c =
    let types = types_in c.args.callees.now in let calls = calls_of c.args.callees.now in let locals = locals_map c.args.locals.now in let s0 = plain_script c.args.script.now in let eq : typed_condition c.args.c.now ≡ either (any_of (typed_condition c.deref-in-Or.result.now) (map typed_condition c.deref-in-Or-2.result.now)) (typed_condition (c.in-Or.right.value)) =
    either_seen c.args.c.now c.deref-in-Or.result.now (c.in-Or.right.value) c.deref-in-Or-2.result.now c.in-Or.first c.in-Or.before c.in-Or.right c.in-Or.is c.deref-in-Or.ensures c.deref-in-Or-2.ensures.value refl in
    let s1 = plain_script c.disjunction.new.script in let first = subst (λ b. Checks types calls (any_of (typed_condition c.deref-in-Or.result.now) (map typed_condition c.deref-in-Or-2.result.now)) locals s0 (Ok b) s1) c.if-branch-2.true c.in_ok-disjunction-in-Or.ensures in subst (λ e. Checks types calls e locals s0 (Ok true) s1) (sym eq) (Ok true, s1, first, (refl, refl))

pub condition-returns-else-branch-2 : goal.condition-returns-else-branch-2
condition-returns-else-branch-2 t c =
    let types = types_in c.args.callees.now in let calls = calls_of c.args.callees.now in let locals = locals_map c.args.locals.now in let s0 = plain_script c.args.script.now in let eq : typed_condition c.args.c.now ≡ either (any_of (typed_condition c.deref-in-Or.result.now) (map typed_condition c.deref-in-Or-2.result.now)) (typed_condition (c.deref-else-branch-2.result.now)) =
    either_seen c.args.c.now c.deref-in-Or.result.now (c.deref-else-branch-2.result.now) c.deref-in-Or-2.result.now c.in-Or.first c.in-Or.before c.in-Or.right c.in-Or.is c.deref-in-Or.ensures c.deref-in-Or-2.ensures.value c.deref-else-branch-2.ensures in
    let s1 = plain_script c.disjunction.new.script in let first = subst (λ b. Checks types calls (any_of (typed_condition c.deref-in-Or.result.now) (map typed_condition c.deref-in-Or-2.result.now)) locals s0 (Ok b) s1) c.if-branch-2.false c.in_ok-disjunction-in-Or.ensures in subst (λ e. UnlessMemory c.condition-else-branch-2.result (Checks types calls e locals s0 c.condition-else-branch-2.result (plain_script c.condition-else-branch-2.new.script))) (sym eq)
    (unless c.condition-else-branch-2.result (λ h. (Ok false, s1, first, h)) c.condition-else-branch-2.ensures)

pub conjunction-returns-in_err-holds : goal.conjunction-returns-in_err-holds
conjunction-returns-in_err-holds t c =
    let types = types_in c.args.callees.now in let calls = calls_of c.args.callees.now in let locals = locals_map c.args.locals.now in ended_by Bool Bool (Checks types calls (all_of (typed_condition c.args.first.now) (map typed_condition c.args.links.now)) locals) (plain_script c.args.script.now) (plain_script c.condition.new.script) c.from_residual.result c.in_err-holds.field-0.0
    (err_from_is_err_and c.from_residual.result c.from_residual.ensures.1)
    (all_stops types calls locals (map typed_condition c.args.links.now) (typed_condition c.args.first.now) c.in_err-holds.field-0.0 (plain_script c.args.script.now) (plain_script c.condition.new.script)) c.in_err-holds.ensures

pub conjunction-loop-c-init : goal.conjunction-loop-c-init
conjunction-loop-c-init t c = λ r s' k.
    let types = types_in c.args.callees.now in let calls = calls_of c.args.callees.now in let locals = locals_map c.args.locals.now in all_goes types calls locals (map typed_condition c.args.links.now) (typed_condition c.args.first.now) c.in_ok-holds.holds (plain_script c.args.script.now) (plain_script c.condition.new.script) r s' c.in_ok-holds.ensures k

pub conjunction-returns-then-not-holds : goal.conjunction-returns-then-not-holds
conjunction-returns-then-not-holds t c =
    let types = types_in c.args.callees.now in let calls = calls_of c.args.callees.now in let locals = locals_map c.args.locals.now in c.loop-c.invariant (Ok false) (plain_script c.loop-c.script)
    (subst (λ b. chained (and_link types calls locals) (map typed_condition (drop c.loop-c.c-index c.args.links.now)) b (plain_script c.loop-c.script) (Ok false) (plain_script c.loop-c.script)) (sym c.if-not-holds.true)
    (all_false types calls locals (map typed_condition (drop c.loop-c.c-index c.args.links.now)) (plain_script c.loop-c.script)))

pub conjunction-loop-c-preserved : goal.conjunction-loop-c-preserved
conjunction-loop-c-preserved t c = λ r s' k. c.loop-c.invariant r s'
    (chain_more (and_link (types_in c.args.callees.now) (calls_of c.args.callees.now) (locals_map c.args.locals.now)) typed_condition c.args.links.now c.loop-c.c-index c.c-item.result c.c-item.result
    c.loop-c-test.true c.c-item.is c.loop-c.holds c.in_ok-holds-2.holds (plain_script c.loop-c.script) (plain_script c.condition-in-loop-c.new.script) r s' (chosen c.loop-c.holds _ _ _ _ _ c.if-not-holds.false c.in_ok-holds-2.ensures) k)

pub conjunction-returns : goal.conjunction-returns
conjunction-returns t c = c.loop-c.invariant _ _
    (chain_ends (and_link (types_in c.args.callees.now) (calls_of c.args.callees.now) (locals_map c.args.locals.now)) typed_condition c.args.links.now c.loop-c.c-index c.loop-c-test.false c.loop-c.holds (plain_script c.loop-c.script))

pub conjunction-returns-in_err-holds-2 : goal.conjunction-returns-in_err-holds-2
conjunction-returns-in_err-holds-2 t c =
    let types = types_in c.args.callees.now in let calls = calls_of c.args.callees.now in let locals = locals_map c.args.locals.now in let d = c.in_err-holds-2.field-0.0 in ended_by Bool Bool (Checks types calls (all_of (typed_condition c.args.first.now) (map typed_condition c.args.links.now)) locals) (plain_script c.args.script.now) (plain_script c.condition-in-loop-c.new.script)
    c.from_residual-in_err-holds-2.result d (err_from_is_err_and c.from_residual-in_err-holds-2.result c.from_residual-in_err-holds-2.ensures.1)
    (λ h. c.loop-c.invariant _ _ (chain_stops (and_link types calls locals) typed_condition c.args.links.now c.loop-c.c-index c.c-item.result c.c-item.result c.loop-c-test.true c.c-item.is
    c.loop-c.holds d (plain_script c.loop-c.script) (plain_script c.condition-in-loop-c.new.script) (chosen c.loop-c.holds _ _ _ _ _ c.if-not-holds.false h))) c.in_err-holds-2.ensures

pub disjunction-returns-in_err-holds : goal.disjunction-returns-in_err-holds
disjunction-returns-in_err-holds t c =
    let types = types_in c.args.callees.now in let calls = calls_of c.args.callees.now in let locals = locals_map c.args.locals.now in ended_by Bool Bool (Checks types calls (any_of (typed_condition c.args.first.now) (map typed_condition c.args.links.now)) locals) (plain_script c.args.script.now) (plain_script c.condition.new.script) c.from_residual.result c.in_err-holds.field-0.0
    (err_from_is_err_and c.from_residual.result c.from_residual.ensures.1)
    (any_stops types calls locals (map typed_condition c.args.links.now) (typed_condition c.args.first.now) c.in_err-holds.field-0.0 (plain_script c.args.script.now) (plain_script c.condition.new.script)) c.in_err-holds.ensures

pub disjunction-loop-c-init : goal.disjunction-loop-c-init
disjunction-loop-c-init t c = λ r s' k.
    let types = types_in c.args.callees.now in let calls = calls_of c.args.callees.now in let locals = locals_map c.args.locals.now in any_goes types calls locals (map typed_condition c.args.links.now) (typed_condition c.args.first.now) c.in_ok-holds.holds (plain_script c.args.script.now) (plain_script c.condition.new.script) r s' c.in_ok-holds.ensures k

pub disjunction-returns-then-holds : goal.disjunction-returns-then-holds
disjunction-returns-then-holds t c =
    let types = types_in c.args.callees.now in let calls = calls_of c.args.callees.now in let locals = locals_map c.args.locals.now in c.loop-c.invariant (Ok true) (plain_script c.loop-c.script)
    (subst (λ b. chained (or_link types calls locals) (map typed_condition (drop c.loop-c.c-index c.args.links.now)) b (plain_script c.loop-c.script) (Ok true) (plain_script c.loop-c.script)) (sym c.if-holds.true)
    (any_true types calls locals (map typed_condition (drop c.loop-c.c-index c.args.links.now)) (plain_script c.loop-c.script)))

pub disjunction-loop-c-preserved : goal.disjunction-loop-c-preserved
disjunction-loop-c-preserved t c = λ r s' k. c.loop-c.invariant r s'
    (chain_more (or_link (types_in c.args.callees.now) (calls_of c.args.callees.now) (locals_map c.args.locals.now)) typed_condition c.args.links.now c.loop-c.c-index c.c-item.result c.c-item.result
    c.loop-c-test.true c.c-item.is c.loop-c.holds c.in_ok-holds-2.holds (plain_script c.loop-c.script) (plain_script c.condition-in-loop-c.new.script) r s' (passed c.loop-c.holds _ _ _ _ _ c.if-holds.false c.in_ok-holds-2.ensures) k)

pub disjunction-returns : goal.disjunction-returns
disjunction-returns t c = c.loop-c.invariant _ _
    (chain_ends (or_link (types_in c.args.callees.now) (calls_of c.args.callees.now) (locals_map c.args.locals.now)) typed_condition c.args.links.now c.loop-c.c-index c.loop-c-test.false c.loop-c.holds (plain_script c.loop-c.script))

pub disjunction-returns-in_err-holds-2 : goal.disjunction-returns-in_err-holds-2
disjunction-returns-in_err-holds-2 t c =
    let types = types_in c.args.callees.now in let calls = calls_of c.args.callees.now in let locals = locals_map c.args.locals.now in let d = c.in_err-holds-2.field-0.0 in ended_by Bool Bool (Checks types calls (any_of (typed_condition c.args.first.now) (map typed_condition c.args.links.now)) locals) (plain_script c.args.script.now) (plain_script c.condition-in-loop-c.new.script)
    c.from_residual-in_err-holds-2.result d (err_from_is_err_and c.from_residual-in_err-holds-2.result c.from_residual-in_err-holds-2.ensures.1)
    (λ h. c.loop-c.invariant _ _ (chain_stops (or_link types calls locals) typed_condition c.args.links.now c.loop-c.c-index c.c-item.result c.c-item.result c.loop-c-test.true c.c-item.is
    c.loop-c.holds d (plain_script c.loop-c.script) (plain_script c.condition-in-loop-c.new.script) (passed c.loop-c.holds _ _ _ _ _ c.if-holds.false h))) c.in_err-holds-2.ensures

pub expression-returns-in_err-x-in-Arithmetic : goal.expression-returns-in_err-x-in-Arithmetic
expression-returns-in_err-x-in-Arithmetic t c =
    let types = types_in c.args.callees.now in let calls = calls_of c.args.callees.now in let locals = locals_map c.args.locals.now in let s0 = plain_script c.args.script.now in let s1 = plain_script c.calculations.new.script in let d = c.in_err-x-in-Arithmetic.field-0.0 in let eq : typed_expression c.args.e.now ≡ arithmetic c.in-Arithmetic.operator (calculated (typed_expression c.deref-in-Arithmetic.result.now) (map arithmetic_link c.deref-in-Arithmetic-2.result.now)) (typed_expression c.in-Arithmetic.right.value) =
    arithmetic_seen c.args.e.now c.deref-in-Arithmetic.result.now (c.in-Arithmetic.right.value) c.deref-in-Arithmetic-2.result.now c.in-Arithmetic.first c.in-Arithmetic.before c.in-Arithmetic.operator c.in-Arithmetic.right
    c.in-Arithmetic.is c.deref-in-Arithmetic.ensures c.deref-in-Arithmetic-2.ensures.value refl in
    ended_by Value Value (λ s r s'. Replays types calls (typed_expression c.args.e.now) locals s r s') s0 s1 c.from_residual-in_err-x-in-Arithmetic.result d (err_from_is_err_and c.from_residual-in_err-x-in-Arithmetic.result c.from_residual-in_err-x-in-Arithmetic.ensures.1) (λ h. subst (λ e. Replays types calls e locals s0 (Err d) s1) (sym eq) (Err d, s1, h, (refl, refl))) c.in_err-x-in-Arithmetic.ensures

pub expression-returns-in_err-y-in-Arithmetic : goal.expression-returns-in_err-y-in-Arithmetic
expression-returns-in_err-y-in-Arithmetic t c =
    let types = types_in c.args.callees.now in let calls = calls_of c.args.callees.now in let locals = locals_map c.args.locals.now in let s0 = plain_script c.args.script.now in let s1 = plain_script c.expression-in-Arithmetic.new.script in let d = c.in_err-y-in-Arithmetic.field-0.0 in let sx = plain_script c.calculations.new.script in let eq : typed_expression c.args.e.now ≡ arithmetic c.in-Arithmetic.operator (calculated (typed_expression c.deref-in-Arithmetic.result.now) (map arithmetic_link c.deref-in-Arithmetic-2.result.now)) (typed_expression c.deref-in-Arithmetic-3.result.now) =
    arithmetic_seen c.args.e.now c.deref-in-Arithmetic.result.now (c.deref-in-Arithmetic-3.result.now) c.deref-in-Arithmetic-2.result.now c.in-Arithmetic.first c.in-Arithmetic.before c.in-Arithmetic.operator c.in-Arithmetic.right
    c.in-Arithmetic.is c.deref-in-Arithmetic.ensures c.deref-in-Arithmetic-2.ensures.value c.deref-in-Arithmetic-3.ensures in
    ended_by Value Value (λ s r s'. Replays types calls (typed_expression c.args.e.now) locals s r s') s0 s1 c.from_residual-in_err-y-in-Arithmetic.result d (err_from_is_err_and c.from_residual-in_err-y-in-Arithmetic.result c.from_residual-in_err-y-in-Arithmetic.ensures.1) (λ h. subst (λ e. Replays types calls e locals s0 (Err d) s1) (sym eq) (Ok c.in_ok-x-in-Arithmetic.x, sx, c.in_ok-x-in-Arithmetic.ensures, (Err d, s1, h, (refl, refl)))) c.in_err-y-in-Arithmetic.ensures

pub expression-returns-in_ok-y-in-Arithmetic : goal.expression-returns-in_ok-y-in-Arithmetic
expression-returns-in_ok-y-in-Arithmetic t c =
    let types = types_in c.args.callees.now in let calls = calls_of c.args.callees.now in let locals = locals_map c.args.locals.now in let s0 = plain_script c.args.script.now in let sx = plain_script c.calculations.new.script in let s1 = plain_script c.expression-in-Arithmetic.new.script in let eq : typed_expression c.args.e.now ≡ arithmetic c.in-Arithmetic.operator (calculated (typed_expression c.deref-in-Arithmetic.result.now) (map arithmetic_link c.deref-in-Arithmetic-2.result.now)) (typed_expression c.deref-in-Arithmetic-3.result.now) =
    arithmetic_seen c.args.e.now c.deref-in-Arithmetic.result.now (c.deref-in-Arithmetic-3.result.now) c.deref-in-Arithmetic-2.result.now c.in-Arithmetic.first c.in-Arithmetic.before c.in-Arithmetic.operator c.in-Arithmetic.right
    c.in-Arithmetic.is c.deref-in-Arithmetic.ensures c.deref-in-Arithmetic-2.ensures.value c.deref-in-Arithmetic-3.ensures in
    surely c.calculated.result (subst (λ e. Replays types calls e locals s0 c.calculated.result s1) (sym eq)
    (Ok c.in_ok-x-in-Arithmetic.x, sx, c.in_ok-x-in-Arithmetic.ensures, (Ok c.in_ok-y-in-Arithmetic.y, s1, c.in_ok-y-in-Arithmetic.ensures, (c.calculated.ensures, refl))))

pub expression-returns-in_err-at-in-Cell : goal.expression-returns-in_err-at-in-Cell
expression-returns-in_err-at-in-Cell t c =
    let types = types_in c.args.callees.now in let calls = calls_of c.args.callees.now in let locals = locals_map c.args.locals.now in let s0 = plain_script c.args.script.now in let s1 = plain_script c.cells.new.script in let d = c.in_err-at-in-Cell.field-0.0 in let eq : typed_expression c.args.e.now ≡ cell (cells (typed_expression c.deref-in-Cell.result.now) c.deref-in-Cell-2.result.now) c.in-Cell.field c.in-Cell.block c.in-Cell.site = search (rules, typed_trees) in
    ended_by Value Value (λ s r s'. Replays types calls (typed_expression c.args.e.now) locals s r s') s0 s1 c.from_residual-in_err-at-in-Cell.result d (err_from_is_err_and c.from_residual-in_err-at-in-Cell.result c.from_residual-in_err-at-in-Cell.ensures.1) (λ h. subst (λ e. Replays types calls e locals s0 (Err d) s1) (sym eq) (Err d, s1, h, (refl, refl))) c.in_err-at-in-Cell.ensures

pub expression-returns-in_ok-at-in-Cell : goal.expression-returns-in_ok-at-in-Cell
expression-returns-in_ok-at-in-Cell t c =
    let types = types_in c.args.callees.now in let calls = calls_of c.args.callees.now in let locals = locals_map c.args.locals.now in let s0 = plain_script c.args.script.now in let s1 = plain_script c.load.new.script in let eq : typed_expression c.args.e.now ≡ cell (cells (typed_expression c.deref-in-Cell.result.now) c.deref-in-Cell-2.result.now) c.in-Cell.field c.in-Cell.block c.in-Cell.site = search (rules, typed_trees) in
    surely c.load.result (subst (λ e. Replays types calls e locals s0 c.load.result s1) (sym eq) (Ok c.in_ok-at-in-Cell.at, plain_script c.cells.new.script, c.in_ok-at-in-Cell.ensures, c.load.ensures))

pub expression-returns-in_err-values-in-Call : goal.expression-returns-in_err-values-in-Call
expression-returns-in_err-values-in-Call t c =
    let types = types_in c.args.callees.now in let calls = calls_of c.args.callees.now in let locals = locals_map c.args.locals.now in let s0 = plain_script c.args.script.now in let s1 = plain_script c.arguments.new.script in let d = c.in_err-values-in-Call.field-0.0 in let eq : typed_expression c.args.e.now ≡ call c.in-Call.proc (arguments_of (map typed_argument c.deref-in-Call.result.now)) c.in-Call.result c.in-Call.site =
    call_seen c.args.e.now c.deref-in-Call.result.now c.in-Call.proc c.in-Call.es c.in-Call.result c.in-Call.site c.in-Call.is c.deref-in-Call.ensures.value in
    ended_by (Vec Value Global) Value (λ s r s'. Replays types calls (typed_expression c.args.e.now) locals s r s') s0 s1 c.from_residual-in_err-values-in-Call.result d (err_from_is_err_and c.from_residual-in_err-values-in-Call.result c.from_residual-in_err-values-in-Call.ensures.1) (λ h. subst (λ e. Replays types calls e locals s0 (Err d) s1) (sym eq) (Err d, s1, h, (refl, refl))) c.in_err-values-in-Call.ensures

pub expression-returns-in_err-value-in-Call : goal.expression-returns-in_err-value-in-Call
expression-returns-in_err-value-in-Call t c =
    let types = types_in c.args.callees.now in let calls = calls_of c.args.callees.now in let locals = locals_map c.args.locals.now in let s0 = plain_script c.args.script.now in let s1 = plain_script c.call.new.script in let d = c.in_err-value-in-Call.field-0.0 in let sx = plain_script c.arguments.new.script in let eq : typed_expression c.args.e.now ≡ call c.in-Call.proc (arguments_of (map typed_argument c.deref-in-Call.result.now)) c.in-Call.result c.in-Call.site =
    call_seen c.args.e.now c.deref-in-Call.result.now c.in-Call.proc c.in-Call.es c.in-Call.result c.in-Call.site c.in-Call.is c.deref-in-Call.ensures.value in
    ended_by Value Value (λ s r s'. Replays types calls (typed_expression c.args.e.now) locals s r s') s0 s1 c.from_residual-in_err-value-in-Call.result d (err_from_is_err_and c.from_residual-in_err-value-in-Call.result c.from_residual-in_err-value-in-Call.ensures.1) (λ h. subst (λ e. Replays types calls e locals s0 (Err d) s1) (sym eq) (Ok c.in_ok-values-in-Call.values.items, sx, c.in_ok-values-in-Call.ensures, (Err d, s1, h, (refl, refl)))) c.in_err-value-in-Call.ensures

pub expression-returns-in_ok-value-in-Call : goal.expression-returns-in_ok-value-in-Call
expression-returns-in_ok-value-in-Call t c =
    let types = types_in c.args.callees.now in let calls = calls_of c.args.callees.now in let locals = locals_map c.args.locals.now in let s0 = plain_script c.args.script.now in let sx = plain_script c.arguments.new.script in let s1 = plain_script c.call.new.script in let eq : typed_expression c.args.e.now ≡ call c.in-Call.proc (arguments_of (map typed_argument c.deref-in-Call.result.now)) c.in-Call.result c.in-Call.site =
    call_seen c.args.e.now c.deref-in-Call.result.now c.in-Call.proc c.in-Call.es c.in-Call.result c.in-Call.site c.in-Call.is c.deref-in-Call.ensures.value in
    surely c.used-in-Call.result (subst (λ e. Replays types calls e locals s0 c.used-in-Call.result s1) (sym eq)
    (Ok c.in_ok-values-in-Call.values.items, sx, c.in_ok-values-in-Call.ensures, (Ok c.in_ok-value-in-Call.value, s1, c.in_ok-value-in-Call.ensures, (c.used-in-Call.ensures, refl))))

pub statement-returns-in_err-values-in-Call : goal.statement-returns-in_err-values-in-Call
statement-returns-in_err-values-in-Call t c =
    let types = types_in c.args.callees.now in let calls = calls_of c.args.callees.now in let n = c.args.callees.now.depth in let l0 = locals_map c.args.locals.now in let s0 = plain_script c.args.script.now in let s1 = plain_script c.arguments.new.script in let d = c.in_err-values-in-Call.field-0.0 in let eq : typed_statement c.args.s.now ≡ run_call c.in-Call.proc (arguments_of (map typed_argument c.deref-in-Call.result.now)) c.in-Call.site =
    ap typed_statement c.in-Call.is ∙ sym (ap (λ ls. run_call c.in-Call.proc (arguments_of (map typed_argument ls)) c.in-Call.site) c.deref-in-Call.ensures.value) in
    ended_by (Vec Value Global) Flow (λ s r s'. ReplaysStatement types calls n (typed_statement c.args.s.now) l0 s (ended r l0) s') s0 s1 c.from_residual.result d (err_from_is_err_and c.from_residual.result c.from_residual.ensures.1) (λ h. subst (λ t. ReplaysStatement types calls n t l0 s0 (Err d) s1) (sym eq) (Err d, s1, h, (refl, refl))) c.in_err-values-in-Call.ensures

pub statement-returns-in_err-call-in-Call : goal.statement-returns-in_err-call-in-Call
statement-returns-in_err-call-in-Call t c =
    let types = types_in c.args.callees.now in let calls = calls_of c.args.callees.now in let n = c.args.callees.now.depth in let l0 = locals_map c.args.locals.now in let s0 = plain_script c.args.script.now in let s1 = plain_script c.arguments.new.script in let s2 = plain_script c.call.new.script in let d = c.in_err-call-in-Call.field-0.0 in let eq : typed_statement c.args.s.now ≡ run_call c.in-Call.proc (arguments_of (map typed_argument c.deref-in-Call.result.now)) c.in-Call.site =
    ap typed_statement c.in-Call.is ∙ sym (ap (λ ls. run_call c.in-Call.proc (arguments_of (map typed_argument ls)) c.in-Call.site) c.deref-in-Call.ensures.value) in
    ended_by Value Flow (λ s r s'. ReplaysStatement types calls n (typed_statement c.args.s.now) l0 s (ended r l0) s') s0 s2 c.from_residual-in_err-call-in-Call.result d (err_from_is_err_and c.from_residual-in_err-call-in-Call.result c.from_residual-in_err-call-in-Call.ensures.1) (λ h. subst (λ t. ReplaysStatement types calls n t l0 s0 (Err d) s2) (sym eq) (Ok c.in_ok-values-in-Call.values.items, s1, c.in_ok-values-in-Call.ensures, (Err d, s2, h, (refl, refl)))) c.in_err-call-in-Call.ensures

pub statement-returns-in_ok-call-in-Call : goal.statement-returns-in_ok-call-in-Call
statement-returns-in_ok-call-in-Call t c =
    let types = types_in c.args.callees.now in let calls = calls_of c.args.callees.now in let n = c.args.callees.now.depth in let l0 = locals_map c.args.locals.now in let s0 = plain_script c.args.script.now in let s1 = plain_script c.arguments.new.script in let s2 = plain_script c.call.new.script in let eq : typed_statement c.args.s.now ≡ run_call c.in-Call.proc (arguments_of (map typed_argument c.deref-in-Call.result.now)) c.in-Call.site =
    ap typed_statement c.in-Call.is ∙ sym (ap (λ ls. run_call c.in-Call.proc (arguments_of (map typed_argument ls)) c.in-Call.site) c.deref-in-Call.ensures.value) in
    subst (λ t. ReplaysStatement types calls n t l0 s0 (Ok (Falls, l0)) s2) (sym eq)
    (Ok c.in_ok-values-in-Call.values.items, s1, c.in_ok-values-in-Call.ensures, (Ok c.in_ok-call-in-Call.field-0, s2, c.in_ok-call-in-Call.ensures, (refl, refl)))

pub statement-returns-in_err-free-in-Free : goal.statement-returns-in_err-free-in-Free
statement-returns-in_err-free-in-Free t c =
    let types = types_in c.args.callees.now in let calls = calls_of c.args.callees.now in let n = c.args.callees.now.depth in let l0 = locals_map c.args.locals.now in let s0 = plain_script c.args.script.now in let d = c.in_err-free-in-Free.field-0.0 in let eq : typed_statement c.args.s.now ≡ free (typed_expression c.deref-in-Free.result.now) c.in-Free.block c.in-Free.site =
    ap typed_statement c.in-Free.is ∙ sym (ap (λ e. free (typed_expression e) c.in-Free.block c.in-Free.site) c.deref-in-Free.ensures) in
    let s1 = plain_script c.expression.new.script in let s2 = plain_script c.free.new.script in ended_by ⊤ Flow (λ s r s'. ReplaysStatement types calls n (typed_statement c.args.s.now) l0 s (ended r l0) s') s0 s2 c.from_residual-in_err-free-in-Free.result d (err_from_is_err_and c.from_residual-in_err-free-in-Free.result c.from_residual-in_err-free-in-Free.ensures.1) (λ h. subst (λ t. ReplaysStatement types calls n t l0 s0 (Err d) s2) (sym eq) (Ok c.in_ok-at-in-Free.at, s1, c.in_ok-at-in-Free.ensures, h l0)) c.in_err-free-in-Free.ensures

pub statement-returns-in_ok-free-in-Free : goal.statement-returns-in_ok-free-in-Free
statement-returns-in_ok-free-in-Free t c =
    let types = types_in c.args.callees.now in let calls = calls_of c.args.callees.now in let n = c.args.callees.now.depth in let l0 = locals_map c.args.locals.now in let s0 = plain_script c.args.script.now in let eq : typed_statement c.args.s.now ≡ free (typed_expression c.deref-in-Free.result.now) c.in-Free.block c.in-Free.site =
    ap typed_statement c.in-Free.is ∙ sym (ap (λ e. free (typed_expression e) c.in-Free.block c.in-Free.site) c.deref-in-Free.ensures) in
    let s1 = plain_script c.expression.new.script in let s2 = plain_script c.free.new.script in subst (λ t. ReplaysStatement types calls n t l0 s0 (Ok (Falls, l0)) s2) (sym eq) (Ok c.in_ok-at-in-Free.at, s1, c.in_ok-at-in-Free.ensures, c.in_ok-free-in-Free.ensures l0)

pub statement-returns-then-branch : goal.statement-returns-then-branch
statement-returns-then-branch t c =
    let types = types_in c.args.callees.now in let calls = calls_of c.args.callees.now in let n = c.args.callees.now.depth in let l0 = locals_map c.args.locals.now in let s0 = plain_script c.args.script.now in let s1 = plain_script c.condition.new.script in let r = c.statement.result in let l1 = locals_map c.statement.new.locals in let s2 = plain_script c.statement.new.script in let eq : typed_statement c.args.s.now ≡ choose (typed_condition c.deref-in-If.result.now) (typed_statement c.deref-then-branch.result.now) (typed_statement c.in-If.other.value) =
    ap typed_statement c.in-If.is ∙ sym (ap₂ (λ a b. choose (typed_condition a) (typed_statement b) (typed_statement c.in-If.other.value)) c.deref-in-If.ensures c.deref-then-branch.ensures) in
    let first = subst (λ b. Checks types calls (typed_condition c.deref-in-If.result.now) l0 s0 (Ok b) s1) c.if-branch.true c.in_ok-condition-in-If.ensures in subst (λ t. UnlessMemory r (ReplaysStatement types calls n t l0 s0 (ended r l1) s2)) (sym eq) (unless r (λ h. (Ok true, s1, first, h)) c.statement.ensures)

pub statement-returns-else-branch : goal.statement-returns-else-branch
statement-returns-else-branch t c =
    let types = types_in c.args.callees.now in let calls = calls_of c.args.callees.now in let n = c.args.callees.now.depth in let l0 = locals_map c.args.locals.now in let s0 = plain_script c.args.script.now in let s1 = plain_script c.condition.new.script in let r = c.statement-else-branch.result in let l1 = locals_map c.statement-else-branch.new.locals in let s2 = plain_script c.statement-else-branch.new.script in let eq : typed_statement c.args.s.now ≡ choose (typed_condition c.deref-in-If.result.now) (typed_statement c.in-If.then.value) (typed_statement c.deref-else-branch.result.now) =
    ap typed_statement c.in-If.is ∙ sym (ap₂ (λ a b. choose (typed_condition a) (typed_statement c.in-If.then.value) (typed_statement b)) c.deref-in-If.ensures c.deref-else-branch.ensures) in
    let first = subst (λ b. Checks types calls (typed_condition c.deref-in-If.result.now) l0 s0 (Ok b) s1) c.if-branch.false c.in_ok-condition-in-If.ensures in subst (λ t. UnlessMemory r (ReplaysStatement types calls n t l0 s0 (ended r l1) s2)) (sym eq) (unless r (λ h. (Ok false, s1, first, h)) c.statement-else-branch.ensures)

pub statements-loop-s-preserved : goal.statements-loop-s-preserved
statements-loop-s-preserved t c = λ r s' k.
    let types = types_in c.args.callees.now in let calls = calls_of c.args.callees.now in c.loop-s.invariant r s' (statements_more types calls c.args.callees.now.depth c.args.all.now c.loop-s.s-index c.s-item.result (locals_map c.loop-s.locals) _ (plain_script c.loop-s.script) (plain_script c.statement.new.script) r s'
    c.loop-s-test.true c.s-item.is c.in_ok-other.ensures
    (subst (λ f. on_fall types calls (ReplaysStatements types calls c.args.callees.now.depth (statements_of (map typed_statement (drop (c.loop-s.s-index + 1) c.args.all.now)))) (f, locals_map c.statement.new.locals) (plain_script c.statement.new.script) r s') (sym c.in-Falls.is) k))

pub statements-returns-in_err-other : goal.statements-returns-in_err-other
statements-returns-in_err-other t c =
    let types = types_in c.args.callees.now in let calls = calls_of c.args.callees.now in ended_by Flow Flow (λ s r s'. ReplaysStatements types calls c.args.callees.now.depth (statements_of (map typed_statement c.args.all.now)) (locals_map c.args.locals.now) s (ended r (locals_map c.statement.new.locals)) s')
    (plain_script c.args.script.now) (plain_script c.statement.new.script) c.from_residual.result c.in_err-other.field-0.0 (err_from_is_err_and c.from_residual.result c.from_residual.ensures.1)
    (λ h. c.loop-s.invariant _ _ (statements_stop types calls c.args.callees.now.depth c.args.all.now c.loop-s.s-index c.s-item.result (locals_map c.loop-s.locals) c.in_err-other.field-0.0 (plain_script c.loop-s.script) (plain_script c.statement.new.script) c.loop-s-test.true c.s-item.is h))
    c.in_err-other.ensures

pub statements-returns : goal.statements-returns
statements-returns t c = c.loop-s.invariant _ _ (statements_end (types_in c.args.callees.now) (calls_of c.args.callees.now) c.args.callees.now.depth c.args.all.now c.loop-s.s-index (locals_map c.loop-s.locals) (plain_script c.loop-s.script) c.loop-s-test.false)

pub statements-returns-in_default : goal.statements-returns-in_default
statements-returns-in_default t c =
    let types = types_in c.args.callees.now in let calls = calls_of c.args.callees.now in c.loop-s.invariant _ _ (statements_more types calls c.args.callees.now.depth c.args.all.now c.loop-s.s-index c.s-item.result (locals_map c.loop-s.locals) (c.in_ok-other.other, locals_map c.statement.new.locals)
    (plain_script c.loop-s.script) (plain_script c.statement.new.script) _ _ c.loop-s-test.true c.s-item.is c.in_ok-other.ensures
    (ends_list types calls _ c.in_ok-other.other (locals_map c.statement.new.locals) (plain_script c.statement.new.script) c.in_default.not-Falls))

pub turns-returns-in_err-goes_on : goal.turns-returns-in_err-goes_on
turns-returns-in_err-goes_on t c =
    let types = types_in c.args.callees.now in let calls = calls_of c.args.callees.now in let n = c.args.callees.now.depth in let site = c.args.site in let test = option_map (λ b. typed_condition b.value) c.args.c.now in let inner = ReplaysStatement types calls n (typed_statement c.args.inner.now) in let step = ReplaysStatement types calls n (typed_statement c.args.step.now) in let k = c.loop.counter in let m = n - (k + 1) in
    let l0 = locals_map c.args.locals.now in let l = locals_map c.loop.locals in let s0 = plain_script c.args.script.now in let s = plain_script c.loop.script in let s1 = plain_script c.goes_on.new.script in let d = c.in_err-goes_on.field-0.0 in ended_by Bool Flow (λ s r s'. loops types calls n site test inner step l0 s (ended r l) s') s0 s1 c.from_residual.result d (err_from_is_err_and c.from_residual.result c.from_residual.ensures.1) (λ h. c.loop.invariant (Err d) s1 (next_turn types calls site test inner step n k l s (Err d) s1 c.loop-test.true (Err d, s1, h, (refl, refl)))) c.in_err-goes_on.ensures

pub turns-returns-then-not-branch : goal.turns-returns-then-not-branch
turns-returns-then-not-branch t c =
    let types = types_in c.args.callees.now in let calls = calls_of c.args.callees.now in let n = c.args.callees.now.depth in let site = c.args.site in let test = option_map (λ b. typed_condition b.value) c.args.c.now in let inner = ReplaysStatement types calls n (typed_statement c.args.inner.now) in let step = ReplaysStatement types calls n (typed_statement c.args.step.now) in let k = c.loop.counter in let m = n - (k + 1) in
    let l0 = locals_map c.args.locals.now in let l = locals_map c.loop.locals in let s0 = plain_script c.args.script.now in let s = plain_script c.loop.script in let s1 = plain_script c.goes_on.new.script in let s2 = plain_script c.mark.new.self in
    c.loop.invariant (Ok (Falls, l)) s2 (next_turn types calls site test inner step n k l s (Ok (Falls, l)) s2 c.loop-test.true (Ok false, s1, subst (λ b. checks_if types calls test l s (Ok b) s1) c.if-not-branch.true c.in_ok-goes_on.ensures, took_mark Done site (answers (Ok (Falls, l))) c.goes_on.new.script c.mark.new.self (Ok (Falls, l)) s2 c.in_ok-mark.ensures.marks c.in_ok-mark.ensures.inputs c.in_ok-mark.ensures.heap (refl, refl)))

pub turns-returns-in_err-mark : goal.turns-returns-in_err-mark
turns-returns-in_err-mark t c =
    let types = types_in c.args.callees.now in let calls = calls_of c.args.callees.now in let n = c.args.callees.now.depth in let site = c.args.site in let test = option_map (λ b. typed_condition b.value) c.args.c.now in let inner = ReplaysStatement types calls n (typed_statement c.args.inner.now) in let step = ReplaysStatement types calls n (typed_statement c.args.step.now) in let k = c.loop.counter in let m = n - (k + 1) in
    let l0 = locals_map c.args.locals.now in let l = locals_map c.loop.locals in let s0 = plain_script c.args.script.now in let s = plain_script c.loop.script in let s1 = plain_script c.goes_on.new.script in let d = c.in_err-mark.field-0.0 in let s2 = plain_script c.mark.new.self in ended_surely (λ s r s'. loops types calls n site test inner step l0 s (ended r l) s') s0 s2 c.from_residual-in_err-mark.result d (err_from_is_err_and c.from_residual-in_err-mark.result c.from_residual-in_err-mark.ensures.1)
    (c.loop.invariant (Err d) s2 (next_turn types calls site test inner step n k l s (Err d) s2 c.loop-test.true (Ok false, s1, subst (λ b. checks_if types calls test l s (Ok b) s1) c.if-not-branch.true c.in_ok-goes_on.ensures, no_mark Done site (answers (Ok (Falls, l))) c.goes_on.new.script c.mark.new.self d c.in_err-mark.ensures.departs c.in_err-mark.ensures.refused c.in_err-mark.ensures.other)))

pub turns-returns-in_err-mark-2 : goal.turns-returns-in_err-mark-2
turns-returns-in_err-mark-2 t c =
    let types = types_in c.args.callees.now in let calls = calls_of c.args.callees.now in let n = c.args.callees.now.depth in let site = c.args.site in let test = option_map (λ b. typed_condition b.value) c.args.c.now in let inner = ReplaysStatement types calls n (typed_statement c.args.inner.now) in let step = ReplaysStatement types calls n (typed_statement c.args.step.now) in let k = c.loop.counter in let m = n - (k + 1) in
    let l0 = locals_map c.args.locals.now in let l = locals_map c.loop.locals in let s0 = plain_script c.args.script.now in let s = plain_script c.loop.script in let s1 = plain_script c.goes_on.new.script in let d = c.in_err-mark-2.field-0.0 in let s2 = plain_script c.mark-in-loop.new.self in ended_surely (λ s r s'. loops types calls n site test inner step l0 s (ended r l) s') s0 s2 c.from_residual-in_err-mark-2.result d (err_from_is_err_and c.from_residual-in_err-mark-2.result c.from_residual-in_err-mark-2.ensures.1)
    (c.loop.invariant (Err d) s2 (next_turn types calls site test inner step n k l s (Err d) s2 c.loop-test.true (Ok true, s1, subst (λ b. checks_if types calls test l s (Ok b) s1) c.if-not-branch.false c.in_ok-goes_on.ensures, no_mark Iter site (and_then (inner l) (on_turn types calls (λ locals. and_then (step locals) (on_fall types calls (loops types calls m site test inner step))))) c.goes_on.new.script c.mark-in-loop.new.self d c.in_err-mark-2.ensures.departs c.in_err-mark-2.ensures.refused c.in_err-mark-2.ensures.other)))

pub turns-returns-in_err-statement : goal.turns-returns-in_err-statement
turns-returns-in_err-statement t c =
    let types = types_in c.args.callees.now in let calls = calls_of c.args.callees.now in let n = c.args.callees.now.depth in let site = c.args.site in let test = option_map (λ b. typed_condition b.value) c.args.c.now in let inner = ReplaysStatement types calls n (typed_statement c.args.inner.now) in let step = ReplaysStatement types calls n (typed_statement c.args.step.now) in let k = c.loop.counter in let m = n - (k + 1) in
    let l0 = locals_map c.args.locals.now in let l = locals_map c.loop.locals in let s0 = plain_script c.args.script.now in let s = plain_script c.loop.script in let s1 = plain_script c.goes_on.new.script in let d = c.in_err-statement.field-0.0 in let l1 = locals_map c.statement.new.locals in let s3 = plain_script c.statement.new.script in ended_by Flow Flow (λ s r s'. loops types calls n site test inner step l0 s (ended r l1) s') s0 s3 c.from_residual-in_err-statement.result d (err_from_is_err_and c.from_residual-in_err-statement.result c.from_residual-in_err-statement.ensures.1) (λ h. c.loop.invariant (Err d) s3 (next_turn types calls site test inner step n k l s (Err d) s3 c.loop-test.true (Ok true, s1, subst (λ b. checks_if types calls test l s (Ok b) s1) c.if-not-branch.false c.in_ok-goes_on.ensures, took_mark Iter site (and_then (inner l) (on_turn types calls (λ locals. and_then (step locals) (on_fall types calls (loops types calls m site test inner step))))) c.goes_on.new.script c.mark-in-loop.new.self (Err d) s3 c.in_ok-mark-2.ensures.marks c.in_ok-mark-2.ensures.inputs c.in_ok-mark-2.ensures.heap (Err d, s3, h, (refl, refl))))) c.in_err-statement.ensures

pub turns-returns-in-Some : goal.turns-returns-in-Some
turns-returns-in-Some t c =
    let types = types_in c.args.callees.now in let calls = calls_of c.args.callees.now in let n = c.args.callees.now.depth in let site = c.args.site in let test = option_map (λ b. typed_condition b.value) c.args.c.now in let inner = ReplaysStatement types calls n (typed_statement c.args.inner.now) in let step = ReplaysStatement types calls n (typed_statement c.args.step.now) in let k = c.loop.counter in let m = n - (k + 1) in
    let l0 = locals_map c.args.locals.now in let l = locals_map c.loop.locals in let s0 = plain_script c.args.script.now in let s = plain_script c.loop.script in let s1 = plain_script c.goes_on.new.script in let l1 = locals_map c.statement.new.locals in let s3 = plain_script c.statement.new.script in let flow = c.in_ok-statement.field-0 in let end = c.in-Some.end in let on = λ (locals : Locals). and_then (step locals) (on_fall types calls (loops types calls m site test inner step)) in
    c.loop.invariant (Ok (end, l1)) s3 (next_turn types calls site test inner step n k l s (Ok (end, l1)) s3 c.loop-test.true (Ok true, s1, subst (λ b. checks_if types calls test l s (Ok b) s1) c.if-not-branch.false c.in_ok-goes_on.ensures, took_mark Iter site (and_then (inner l) (on_turn types calls (λ locals. and_then (step locals) (on_fall types calls (loops types calls m site test inner step))))) c.goes_on.new.script c.mark-in-loop.new.self (Ok (end, l1)) s3 c.in_ok-mark-2.ensures.marks c.in_ok-mark-2.ensures.inputs c.in_ok-mark-2.ensures.heap (Ok (flow, l1), s3, c.in_ok-statement.ensures, turn_ends types calls on flow end l1 s3 (sym c.end_of_turn.ensures ∙ c.in-Some.is))))

pub turns-returns-in_err-other : goal.turns-returns-in_err-other
turns-returns-in_err-other t c =
    let types = types_in c.args.callees.now in let calls = calls_of c.args.callees.now in let n = c.args.callees.now.depth in let site = c.args.site in let test = option_map (λ b. typed_condition b.value) c.args.c.now in let inner = ReplaysStatement types calls n (typed_statement c.args.inner.now) in let step = ReplaysStatement types calls n (typed_statement c.args.step.now) in let k = c.loop.counter in let m = n - (k + 1) in
    let l0 = locals_map c.args.locals.now in let l = locals_map c.loop.locals in let s0 = plain_script c.args.script.now in let s = plain_script c.loop.script in let s1 = plain_script c.goes_on.new.script in let l1 = locals_map c.statement.new.locals in let s3 = plain_script c.statement.new.script in let flow = c.in_ok-statement.field-0 in let l2 = locals_map c.statement-in-loop.new.locals in let s4 = plain_script c.statement-in-loop.new.script in let on = λ (locals : Locals). and_then (step locals) (on_fall types calls (loops types calls m site test inner step)) in let d = c.in_err-other.field-0.0 in
    ended_by Flow Flow (λ s r s'. loops types calls n site test inner step l0 s (ended r l2) s') s0 s4 c.from_residual-in_err-other.result d (err_from_is_err_and c.from_residual-in_err-other.result c.from_residual-in_err-other.ensures.1) (λ h. c.loop.invariant (Err d) s4 (next_turn types calls site test inner step n k l s (Err d) s4 c.loop-test.true (Ok true, s1, subst (λ b. checks_if types calls test l s (Ok b) s1) c.if-not-branch.false c.in_ok-goes_on.ensures, took_mark Iter site (and_then (inner l) (on_turn types calls (λ locals. and_then (step locals) (on_fall types calls (loops types calls m site test inner step))))) c.goes_on.new.script c.mark-in-loop.new.self (Err d) s4 c.in_ok-mark-2.ensures.marks c.in_ok-mark-2.ensures.inputs c.in_ok-mark-2.ensures.heap (Ok (flow, l1), s3, c.in_ok-statement.ensures, turn_goes types calls on flow l1 s3 (Err d) s4 (sym c.end_of_turn.ensures ∙ c.in_default.is) (Err d, s4, h, (refl, refl)))))) c.in_err-other.ensures

pub turns-returns-in_default-2 : goal.turns-returns-in_default-2
turns-returns-in_default-2 t c =
    let types = types_in c.args.callees.now in let calls = calls_of c.args.callees.now in let n = c.args.callees.now.depth in let site = c.args.site in let test = option_map (λ b. typed_condition b.value) c.args.c.now in let inner = ReplaysStatement types calls n (typed_statement c.args.inner.now) in let step = ReplaysStatement types calls n (typed_statement c.args.step.now) in let k = c.loop.counter in let m = n - (k + 1) in
    let l0 = locals_map c.args.locals.now in let l = locals_map c.loop.locals in let s0 = plain_script c.args.script.now in let s = plain_script c.loop.script in let s1 = plain_script c.goes_on.new.script in let l1 = locals_map c.statement.new.locals in let s3 = plain_script c.statement.new.script in let flow = c.in_ok-statement.field-0 in let l2 = locals_map c.statement-in-loop.new.locals in let s4 = plain_script c.statement-in-loop.new.script in let on = λ (locals : Locals). and_then (step locals) (on_fall types calls (loops types calls m site test inner step)) in let other = c.in_ok-other.other in
    c.loop.invariant (Ok (other, l2)) s4 (next_turn types calls site test inner step n k l s (Ok (other, l2)) s4 c.loop-test.true (Ok true, s1, subst (λ b. checks_if types calls test l s (Ok b) s1) c.if-not-branch.false c.in_ok-goes_on.ensures, took_mark Iter site (and_then (inner l) (on_turn types calls (λ locals. and_then (step locals) (on_fall types calls (loops types calls m site test inner step))))) c.goes_on.new.script c.mark-in-loop.new.self (Ok (other, l2)) s4 c.in_ok-mark-2.ensures.marks c.in_ok-mark-2.ensures.inputs c.in_ok-mark-2.ensures.heap (Ok (flow, l1), s3, c.in_ok-statement.ensures, turn_goes types calls on flow l1 s3 (Ok (other, l2)) s4 (sym c.end_of_turn.ensures ∙ c.in_default.is) (Ok (other, l2), s4, c.in_ok-other.ensures, ends_list types calls (loops types calls m site test inner step) other l2 s4 c.in_default-2.not-Falls))))

pub turns-loop-preserved : goal.turns-loop-preserved
turns-loop-preserved t c = λ r s4' rest.
    let types = types_in c.args.callees.now in let calls = calls_of c.args.callees.now in let n = c.args.callees.now.depth in let site = c.args.site in let test = option_map (λ b. typed_condition b.value) c.args.c.now in let inner = ReplaysStatement types calls n (typed_statement c.args.inner.now) in let step = ReplaysStatement types calls n (typed_statement c.args.step.now) in let k = c.loop.counter in let m = n - (k + 1) in
    let l0 = locals_map c.args.locals.now in let l = locals_map c.loop.locals in let s0 = plain_script c.args.script.now in let s = plain_script c.loop.script in let s1 = plain_script c.goes_on.new.script in let l1 = locals_map c.statement.new.locals in let s3 = plain_script c.statement.new.script in let flow = c.in_ok-statement.field-0 in let l2 = locals_map c.statement-in-loop.new.locals in
    let s4 = plain_script c.statement-in-loop.new.script in let on = λ (locals : Locals). and_then (step locals) (on_fall types calls (loops types calls m site test inner step)) in let other = c.in_ok-other.other in let go = subst (λ f. on_fall types calls (loops types calls m site test inner step) (f, l2) s4 r s4') (sym c.in-Falls.is) rest in
    c.loop.invariant r s4' (next_turn types calls site test inner step n k l s r s4' c.loop-test.true (Ok true, s1, subst (λ b. checks_if types calls test l s (Ok b) s1) c.if-not-branch.false c.in_ok-goes_on.ensures, took_mark Iter site (and_then (inner l) (on_turn types calls (λ locals. and_then (step locals) (on_fall types calls (loops types calls m site test inner step))))) c.goes_on.new.script c.mark-in-loop.new.self r s4' c.in_ok-mark-2.ensures.marks c.in_ok-mark-2.ensures.inputs c.in_ok-mark-2.ensures.heap (Ok (flow, l1), s3, c.in_ok-statement.ensures, turn_goes types calls on flow l1 s3 r s4' (sym c.end_of_turn.ensures ∙ c.in_default.is) (Ok (other, l2), s4, c.in_ok-other.ensures, go))))

pub update-returns-in_err-calculated-in-Local : goal.update-returns-in_err-calculated-in-Local
update-returns-in_err-calculated-in-Local t c =
    let types = types_in c.args.callees.now in let calls = calls_of c.args.callees.now in let l0 = locals_map c.args.locals.now in let s0 = plain_script c.args.script.now in let t = typed_expression c.args.e.now in let op = c.args.operator in let d = c.in_err-calculated-in-Local.field-0.0 in let eq : typed_place c.args.place.now ≡ tree.local_place c.in-Local.local c.in-Local.site = ap typed_place c.in-Local.is in let s1 = plain_script c.expression.new.script in let first = c.in_ok-x-in-Local.ensures ∙ ap (λ v. used_value v c.in-Local.site) c.get.ensures in
    ended_surely (λ s r s'. updates types calls op (typed_place c.args.place.now) t l0 s (ended r l0) s') s0 s1 c.from_residual-in_err-calculated-in-Local.result d (err_from_is_err_and c.from_residual-in_err-calculated-in-Local.result c.from_residual-in_err-calculated-in-Local.ensures.1)
    (subst (λ p. updates types calls op p t l0 s0 (Err d) s1) (sym eq) (Ok c.in_ok-x-in-Local.x, s0, (first, refl), (Ok c.in_ok-y-in-Local.y, s1, c.in_ok-y-in-Local.ensures, (Err d, s1, (c.in_err-calculated-in-Local.ensures, refl), (refl, refl)))))

pub update-returns-in_ok-set-in-Local : goal.update-returns-in_ok-set-in-Local
update-returns-in_ok-set-in-Local t c =
    let types = types_in c.args.callees.now in let calls = calls_of c.args.callees.now in let l0 = locals_map c.args.locals.now in let s0 = plain_script c.args.script.now in let t = typed_expression c.args.e.now in let op = c.args.operator in let eq : typed_place c.args.place.now ≡ tree.local_place c.in-Local.local c.in-Local.site = ap typed_place c.in-Local.is in let s1 = plain_script c.expression.new.script in let first = c.in_ok-x-in-Local.ensures ∙ ap (λ v. used_value v c.in-Local.site) c.get.ensures in
    subst (λ p. updates types calls op p t l0 s0 (Ok (Falls, locals_map c.set.new.self)) s1) (sym eq) (Ok c.in_ok-x-in-Local.x, s0, (first, refl), (Ok c.in_ok-y-in-Local.y, s1, c.in_ok-y-in-Local.ensures, (Ok c.in_ok-calculated-in-Local.field-0, s1, (c.in_ok-calculated-in-Local.ensures, refl), (ap (λ l. Ok (Falls, l)) c.in_ok-set-in-Local.ensures, refl))))

pub update-returns-in_err-y-in-Cell : goal.update-returns-in_err-y-in-Cell
update-returns-in_err-y-in-Cell t c =
    let types = types_in c.args.callees.now in let calls = calls_of c.args.callees.now in let l0 = locals_map c.args.locals.now in let s0 = plain_script c.args.script.now in let t = typed_expression c.args.e.now in let op = c.args.operator in let d = c.in_err-y-in-Cell.field-0.0 in let eq : typed_place c.args.place.now ≡ tree.cell_place (typed_expression c.deref.result.now) c.in-Cell.field c.in-Cell.block c.in-Cell.site =
    ap typed_place c.in-Cell.is ∙ sym (ap (λ e. tree.cell_place (typed_expression e) c.in-Cell.field c.in-Cell.block c.in-Cell.site) c.deref.ensures) in
    let s1 = plain_script c.expression-in-Cell.new.script in let s2 = plain_script c.load.new.script in let s3 = plain_script c.expression-in-Cell-2.new.script in ended_by Value Flow (λ s r s'. updates types calls op (typed_place c.args.place.now) t l0 s (ended r l0) s') s0 s3 c.from_residual-in_err-y-in-Cell.result d (err_from_is_err_and c.from_residual-in_err-y-in-Cell.result c.from_residual-in_err-y-in-Cell.ensures.1) (λ h. subst (λ p. updates types calls op p t l0 s0 (Err d) s3) (sym eq) (Ok c.in_ok-at-in-Cell.at, s1, c.in_ok-at-in-Cell.ensures, (Ok c.in_ok-x-in-Cell.x, s2, c.in_ok-x-in-Cell.ensures, (Err d, s3, h, (refl, refl))))) c.in_err-y-in-Cell.ensures

pub update-returns-in_err-calculated-in-Cell : goal.update-returns-in_err-calculated-in-Cell
update-returns-in_err-calculated-in-Cell t c =
    let types = types_in c.args.callees.now in let calls = calls_of c.args.callees.now in let l0 = locals_map c.args.locals.now in let s0 = plain_script c.args.script.now in let t = typed_expression c.args.e.now in let op = c.args.operator in let d = c.in_err-calculated-in-Cell.field-0.0 in let eq : typed_place c.args.place.now ≡ tree.cell_place (typed_expression c.deref.result.now) c.in-Cell.field c.in-Cell.block c.in-Cell.site =
    ap typed_place c.in-Cell.is ∙ sym (ap (λ e. tree.cell_place (typed_expression e) c.in-Cell.field c.in-Cell.block c.in-Cell.site) c.deref.ensures) in
    let s1 = plain_script c.expression-in-Cell.new.script in let s2 = plain_script c.load.new.script in let s3 = plain_script c.expression-in-Cell-2.new.script in ended_surely (λ s r s'. updates types calls op (typed_place c.args.place.now) t l0 s (ended r l0) s') s0 s3 c.from_residual-in_err-calculated-in-Cell.result d (err_from_is_err_and c.from_residual-in_err-calculated-in-Cell.result c.from_residual-in_err-calculated-in-Cell.ensures.1)
    (subst (λ p. updates types calls op p t l0 s0 (Err d) s3) (sym eq) (Ok c.in_ok-at-in-Cell.at, s1, c.in_ok-at-in-Cell.ensures, (Ok c.in_ok-x-in-Cell.x, s2, c.in_ok-x-in-Cell.ensures, (Ok c.in_ok-y-in-Cell.y, s3, c.in_ok-y-in-Cell.ensures, (Err d, s3, (c.in_err-calculated-in-Cell.ensures, refl), (refl, refl))))))

pub update-returns-in_err-store-in-Cell : goal.update-returns-in_err-store-in-Cell
update-returns-in_err-store-in-Cell t c =
    let types = types_in c.args.callees.now in let calls = calls_of c.args.callees.now in let l0 = locals_map c.args.locals.now in let s0 = plain_script c.args.script.now in let t = typed_expression c.args.e.now in let op = c.args.operator in let d = c.in_err-store-in-Cell.field-0.0 in let s4 = plain_script c.store.new.script in let eq : typed_place c.args.place.now ≡ tree.cell_place (typed_expression c.deref.result.now) c.in-Cell.field c.in-Cell.block c.in-Cell.site =
    ap typed_place c.in-Cell.is ∙ sym (ap (λ e. tree.cell_place (typed_expression e) c.in-Cell.field c.in-Cell.block c.in-Cell.site) c.deref.ensures) in
    let s1 = plain_script c.expression-in-Cell.new.script in let s2 = plain_script c.load.new.script in let s3 = plain_script c.expression-in-Cell-2.new.script in ended_by ⊤ Flow (λ s r s'. updates types calls op (typed_place c.args.place.now) t l0 s (ended r l0) s') s0 s4 c.from_residual-in_err-store-in-Cell.result d (err_from_is_err_and c.from_residual-in_err-store-in-Cell.result c.from_residual-in_err-store-in-Cell.ensures.1) (λ h. subst (λ p. updates types calls op p t l0 s0 (Err d) s4) (sym eq) (Ok c.in_ok-at-in-Cell.at, s1, c.in_ok-at-in-Cell.ensures, (Ok c.in_ok-x-in-Cell.x, s2, c.in_ok-x-in-Cell.ensures, (Ok c.in_ok-y-in-Cell.y, s3, c.in_ok-y-in-Cell.ensures, (Ok c.in_ok-calculated-in-Cell.field-0, s3, (c.in_ok-calculated-in-Cell.ensures, refl), h l0))))) c.in_err-store-in-Cell.ensures

pub update-returns-in_ok-store-in-Cell : goal.update-returns-in_ok-store-in-Cell
update-returns-in_ok-store-in-Cell t c =
    let types = types_in c.args.callees.now in let calls = calls_of c.args.callees.now in let l0 = locals_map c.args.locals.now in let s0 = plain_script c.args.script.now in let t = typed_expression c.args.e.now in let op = c.args.operator in let s4 = plain_script c.store.new.script in let eq : typed_place c.args.place.now ≡ tree.cell_place (typed_expression c.deref.result.now) c.in-Cell.field c.in-Cell.block c.in-Cell.site =
    ap typed_place c.in-Cell.is ∙ sym (ap (λ e. tree.cell_place (typed_expression e) c.in-Cell.field c.in-Cell.block c.in-Cell.site) c.deref.ensures) in
    let s1 = plain_script c.expression-in-Cell.new.script in let s2 = plain_script c.load.new.script in let s3 = plain_script c.expression-in-Cell-2.new.script in subst (λ p. updates types calls op p t l0 s0 (Ok (Falls, l0)) s4) (sym eq) (Ok c.in_ok-at-in-Cell.at, s1, c.in_ok-at-in-Cell.ensures, (Ok c.in_ok-x-in-Cell.x, s2, c.in_ok-x-in-Cell.ensures, (Ok c.in_ok-y-in-Cell.y, s3, c.in_ok-y-in-Cell.ensures, (Ok c.in_ok-calculated-in-Cell.field-0, s3, (c.in_ok-calculated-in-Cell.ensures, refl), c.in_ok-store-in-Cell.ensures l0))))

pub call-body-requires : goal.call-body-requires
call-body-requires t c = (falls c.args.callees.now _ _ t c.decreases (omega (arith)), tt)

pub arguments-argument-requires : goal.arguments-argument-requires
arguments-argument-requires t c = let h = argument_in c.args.es.now c.loop-e.e-index c.e-item.result c.loop-e-test.true c.e-item.is in (falls c.args.callees.now _ _ t c.decreases (omega (arith, h)), tt)

pub statements-statement-requires : goal.statements-statement-requires
statements-statement-requires t c = let h = statement_in c.args.all.now c.loop-s.s-index c.s-item.result c.loop-s-test.true c.s-item.is in (falls c.args.callees.now _ _ t c.decreases (omega (arith, h)), tt)

pub calculations-expression-requires : goal.calculations-expression-requires
calculations-expression-requires t c = let h = calculated_first (map arithmetic_link c.args.links.now) (typed_expression c.args.first.now) in (falls c.args.callees.now _ _ t c.decreases (omega (arith, h)), tt)

pub calculations-expression-requires-in-loop-link : goal.calculations-expression-requires-in-loop-link
calculations-expression-requires-in-loop-link t c = let h = calculated_link c.args.links.now c.loop-link.link-index c.link-item.result (typed_expression c.args.first.now) c.loop-link-test.true c.link-item.is in (falls c.args.callees.now _ _ t c.decreases (omega (arith, h)), tt)

pub comparisons-expression-requires : goal.comparisons-expression-requires
comparisons-expression-requires t c = let h = compared_first (map relation_link c.args.links.now) (typed_expression c.args.first.now) in (falls c.args.callees.now _ _ t c.decreases (omega (arith, h)), tt)

pub comparisons-expression-requires-in-loop-link : goal.comparisons-expression-requires-in-loop-link
comparisons-expression-requires-in-loop-link t c = let h = compared_link c.args.links.now c.loop-link.link-index c.link-item.result (typed_expression c.args.first.now) c.loop-link-test.true c.link-item.is in (falls c.args.callees.now _ _ t c.decreases (omega (arith, h)), tt)

pub cells-expression-requires : goal.cells-expression-requires
cells-expression-requires t c = let h = cells_first c.args.links.now (typed_expression c.args.pointer.now) in (falls c.args.callees.now _ _ t c.decreases (omega (arith, h)), tt)

pub conjunction-condition-requires : goal.conjunction-condition-requires
conjunction-condition-requires t c = let h = all_of_first (map typed_condition c.args.links.now) (typed_condition c.args.first.now) in (falls c.args.callees.now _ _ t c.decreases (omega (arith, h)), tt)

pub conjunction-condition-requires-in-loop-c : goal.conjunction-condition-requires-in-loop-c
conjunction-condition-requires-in-loop-c t c = let h = all_of_link c.args.links.now c.loop-c.c-index c.c-item.result (typed_condition c.args.first.now) c.loop-c-test.true c.c-item.is in (falls c.args.callees.now _ _ t c.decreases (omega (arith, h)), tt)

pub disjunction-condition-requires : goal.disjunction-condition-requires
disjunction-condition-requires t c = let h = any_of_first (map typed_condition c.args.links.now) (typed_condition c.args.first.now) in (falls c.args.callees.now _ _ t c.decreases (omega (arith, h)), tt)

pub disjunction-condition-requires-in-loop-c : goal.disjunction-condition-requires-in-loop-c
disjunction-condition-requires-in-loop-c t c = let h = any_of_link c.args.links.now c.loop-c.c-index c.c-item.result (typed_condition c.args.first.now) c.loop-c-test.true c.c-item.is in (falls c.args.callees.now _ _ t c.decreases (omega (arith, h)), tt)

pub expression-expression-requires : goal.expression-expression-requires
expression-expression-requires t c = let h = ap size_of (ap typed_expression c.in-Negate.is ∙ sym (ap (λ e. negated (typed_expression e)) c.deref.ensures)) in (falls c.args.callees.now _ _ t c.decreases (omega (arith, h)), tt)

pub expression-calculations-requires : goal.expression-calculations-requires
expression-calculations-requires t c = let h = ap size_of (arithmetic_seen c.args.e.now c.deref-in-Arithmetic.result.now c.in-Arithmetic.right.value c.deref-in-Arithmetic-2.result.now c.in-Arithmetic.first c.in-Arithmetic.before c.in-Arithmetic.operator c.in-Arithmetic.right c.in-Arithmetic.is c.deref-in-Arithmetic.ensures c.deref-in-Arithmetic-2.ensures.value refl) in (falls c.args.callees.now _ _ t c.decreases (omega (arith, h)), tt)

pub expression-expression-requires-in-Arithmetic : goal.expression-expression-requires-in-Arithmetic
expression-expression-requires-in-Arithmetic t c = let h = ap size_of (arithmetic_seen c.args.e.now c.deref-in-Arithmetic.result.now c.deref-in-Arithmetic-3.result.now c.deref-in-Arithmetic-2.result.now c.in-Arithmetic.first c.in-Arithmetic.before c.in-Arithmetic.operator c.in-Arithmetic.right c.in-Arithmetic.is c.deref-in-Arithmetic.ensures c.deref-in-Arithmetic-2.ensures.value c.deref-in-Arithmetic-3.ensures) in (falls c.args.callees.now _ _ t c.decreases (omega (arith, h)), tt)

pub expression-condition-requires : goal.expression-condition-requires
expression-condition-requires t c = let h = ap size_of (ap typed_expression c.in-Truth.is ∙ sym (ap (λ e. truth (typed_condition e)) c.deref-in-Truth.ensures)) in (falls c.args.callees.now _ _ t c.decreases (omega (arith, h)), tt)

pub expression-cells-requires : goal.expression-cells-requires
expression-cells-requires t c =
    let eq : typed_expression c.args.e.now ≡ cell (cells (typed_expression c.deref-in-Cell.result.now) c.deref-in-Cell-2.result.now) c.in-Cell.field c.in-Cell.block c.in-Cell.site = search (rules, typed_trees) in let h = ap size_of eq in (falls c.args.callees.now _ _ t c.decreases (omega (arith, h)), tt)

pub expression-arguments-requires : goal.expression-arguments-requires
expression-arguments-requires t c = let h = ap size_of (call_seen c.args.e.now c.deref-in-Call.result.now c.in-Call.proc c.in-Call.es c.in-Call.result c.in-Call.site c.in-Call.is c.deref-in-Call.ensures.value) in (falls c.args.callees.now _ _ t c.decreases (omega (arith, h)), tt)

pub expression-call-requires : goal.expression-call-requires
expression-call-requires t c = let h = ap size_of (call_seen c.args.e.now c.deref-in-Call.result.now c.in-Call.proc c.in-Call.es c.in-Call.result c.in-Call.site c.in-Call.is c.deref-in-Call.ensures.value) in (falls c.args.callees.now _ _ t c.decreases (omega (arith, h)), tt)

pub condition-comparisons-requires : goal.condition-comparisons-requires
condition-comparisons-requires t c = let h = ap test_size (compare_seen c.args.c.now c.deref.result.now c.in-Compare.right.value c.deref-in-Compare.result.now c.in-Compare.first c.in-Compare.before c.in-Compare.relation c.in-Compare.right c.in-Compare.site c.in-Compare.is c.deref.ensures c.deref-in-Compare.ensures.value refl) in (falls c.args.callees.now _ _ t c.decreases (omega (arith, h)), tt)

pub condition-expression-requires : goal.condition-expression-requires
condition-expression-requires t c = let h = ap test_size (compare_seen c.args.c.now c.deref.result.now c.deref-in-Compare-2.result.now c.deref-in-Compare.result.now c.in-Compare.first c.in-Compare.before c.in-Compare.relation c.in-Compare.right c.in-Compare.site c.in-Compare.is c.deref.ensures c.deref-in-Compare.ensures.value c.deref-in-Compare-2.ensures) in (falls c.args.callees.now _ _ t c.decreases (omega (arith, h)), tt)

pub condition-expression-requires-in-Word : goal.condition-expression-requires-in-Word
condition-expression-requires-in-Word t c = let h = ap test_size (ap typed_condition c.in-Word.is ∙ sym (ap (λ e. word (typed_expression e) c.in-Word.site) c.deref-in-Word.ensures)) in (falls c.args.callees.now _ _ t c.decreases (omega (arith, h)), tt)

pub condition-expression-requires-in-Pointer : goal.condition-expression-requires-in-Pointer
condition-expression-requires-in-Pointer t c = let h = ap test_size (ap typed_condition c.in-Pointer.is ∙ sym (ap (λ e. pointer (typed_expression e) c.in-Pointer.site) c.deref-in-Pointer.ensures)) in (falls c.args.callees.now _ _ t c.decreases (omega (arith, h)), tt)

pub condition-conjunction-requires : goal.condition-conjunction-requires
condition-conjunction-requires t c = let h = ap test_size (both_seen c.args.c.now c.deref-in-And.result.now c.in-And.right.value c.deref-in-And-2.result.now c.in-And.first c.in-And.before c.in-And.right c.in-And.is c.deref-in-And.ensures c.deref-in-And-2.ensures.value refl) in (falls c.args.callees.now _ _ t c.decreases (omega (arith, h)), tt)

pub condition-condition-requires : goal.condition-condition-requires
condition-condition-requires t c = let h = ap test_size (both_seen c.args.c.now c.deref-in-And.result.now c.deref-then-branch.result.now c.deref-in-And-2.result.now c.in-And.first c.in-And.before c.in-And.right c.in-And.is c.deref-in-And.ensures c.deref-in-And-2.ensures.value c.deref-then-branch.ensures) in (falls c.args.callees.now _ _ t c.decreases (omega (arith, h)), tt)

pub condition-disjunction-requires : goal.condition-disjunction-requires
condition-disjunction-requires t c = let h = ap test_size (either_seen c.args.c.now c.deref-in-Or.result.now c.in-Or.right.value c.deref-in-Or-2.result.now c.in-Or.first c.in-Or.before c.in-Or.right c.in-Or.is c.deref-in-Or.ensures c.deref-in-Or-2.ensures.value refl) in (falls c.args.callees.now _ _ t c.decreases (omega (arith, h)), tt)

pub condition-condition-requires-else-branch-2 : goal.condition-condition-requires-else-branch-2
condition-condition-requires-else-branch-2 t c = let h = ap test_size (either_seen c.args.c.now c.deref-in-Or.result.now c.deref-else-branch-2.result.now c.deref-in-Or-2.result.now c.in-Or.first c.in-Or.before c.in-Or.right c.in-Or.is c.deref-in-Or.ensures c.deref-in-Or-2.ensures.value c.deref-else-branch-2.ensures) in (falls c.args.callees.now _ _ t c.decreases (omega (arith, h)), tt)

pub condition-condition-requires-in-Not : goal.condition-condition-requires-in-Not
condition-condition-requires-in-Not t c = let h = ap test_size (ap typed_condition c.in-Not.is ∙ sym (ap (λ e. opposite (typed_condition e)) c.deref-in-Not.ensures)) in (falls c.args.callees.now _ _ t c.decreases (omega (arith, h)), tt)

pub statement-statements-requires : goal.statement-statements-requires
statement-statements-requires t c = let h = ap statement_size (ap typed_statement c.in-Block.is ∙ (typed-Block c.in-Block.all ∙ sym (ap (λ ls. block (statements_of (map typed_statement ls))) c.deref.ensures.value))) in (falls c.args.callees.now _ _ t c.decreases (omega (arith, h)), tt)

pub statement-declaration-requires : goal.statement-declaration-requires
statement-declaration-requires t c = let h = ap statement_size (ap typed_statement c.in-Declare.is) in (falls c.args.callees.now _ _ t c.decreases (omega (arith, h)), tt)

pub statement-assignment-requires : goal.statement-assignment-requires
statement-assignment-requires t c = let h = ap statement_size (ap typed_statement c.in-Assign.is ∙ sym (ap (λ e. assign (typed_place c.in-Assign.place) (typed_expression e)) c.deref-in-Assign.ensures)) in (falls c.args.callees.now _ _ t c.decreases (omega (arith, h)), tt)

pub statement-update-requires : goal.statement-update-requires
statement-update-requires t c = let h = ap statement_size (ap typed_statement c.in-Update.is ∙ sym (ap (λ e. update c.in-Update.operator (typed_place c.in-Update.place) (typed_expression e)) c.deref-in-Update.ensures)) in (falls c.args.callees.now _ _ t c.decreases (omega (arith, h)), tt)

pub statement-arguments-requires : goal.statement-arguments-requires
statement-arguments-requires t c = let h = ap statement_size (ap typed_statement c.in-Call.is ∙ sym (ap (λ ls. run_call c.in-Call.proc (arguments_of (map typed_argument ls)) c.in-Call.site) c.deref-in-Call.ensures.value)) in (falls c.args.callees.now _ _ t c.decreases (omega (arith, h)), tt)

pub statement-call-requires : goal.statement-call-requires
statement-call-requires t c = let h = ap statement_size (ap typed_statement c.in-Call.is ∙ sym (ap (λ ls. run_call c.in-Call.proc (arguments_of (map typed_argument ls)) c.in-Call.site) c.deref-in-Call.ensures.value)) in (falls c.args.callees.now _ _ t c.decreases (omega (arith, h)), tt)

pub statement-expression-requires : goal.statement-expression-requires
statement-expression-requires t c = let h = ap statement_size (ap typed_statement c.in-Free.is ∙ sym (ap (λ e. free (typed_expression e) c.in-Free.block c.in-Free.site) c.deref-in-Free.ensures)) in (falls c.args.callees.now _ _ t c.decreases (omega (arith, h)), tt)

pub statement-condition-requires : goal.statement-condition-requires
statement-condition-requires t c = let h = ap statement_size (ap typed_statement c.in-If.is ∙ sym (ap (λ a. choose (typed_condition a) (typed_statement c.in-If.then.value) (typed_statement c.in-If.other.value)) c.deref-in-If.ensures)) in (falls c.args.callees.now _ _ t c.decreases (omega (arith, h)), tt)

pub statement-statement-requires : goal.statement-statement-requires
statement-statement-requires t c = let h = ap statement_size (ap typed_statement c.in-If.is ∙ sym (ap₂ (λ a b. choose (typed_condition a) (typed_statement b) (typed_statement c.in-If.other.value)) c.deref-in-If.ensures c.deref-then-branch.ensures)) in (falls c.args.callees.now _ _ t c.decreases (omega (arith, h)), tt)

pub statement-statement-requires-else-branch : goal.statement-statement-requires-else-branch
statement-statement-requires-else-branch t c = let h = ap statement_size (ap typed_statement c.in-If.is ∙ sym (ap₂ (λ a b. choose (typed_condition a) (typed_statement c.in-If.then.value) (typed_statement b)) c.deref-in-If.ensures c.deref-else-branch.ensures)) in (falls c.args.callees.now _ _ t c.decreases (omega (arith, h)), tt)

pub statement-turns-requires : goal.statement-turns-requires
statement-turns-requires t c = let h = ap statement_size (ap typed_statement c.in-Loop.is ∙ sym (ap₂ (λ a b. loop c.in-Loop.site (option_map (λ b. typed_condition b.value) c.in-Loop.c) (typed_statement a) (typed_statement b)) c.deref-in-Loop.ensures c.deref-in-Loop-2.ensures)) in (falls c.args.callees.now _ _ t c.decreases (omega (arith, h)), tt)

pub statement-give_back-requires : goal.statement-give_back-requires
statement-give_back-requires t c = let h = ap statement_size (ap typed_statement c.in-Return.is) in (falls c.args.callees.now _ _ t c.decreases (omega (arith, h)), tt)

pub declaration-expression-requires : goal.declaration-expression-requires
declaration-expression-requires t c = let h = ap (λ o. value_size (option_map (λ b. typed_expression b.value) o)) c.in-Some.is ∙ sym (ap (λ e. size_of (typed_expression e)) c.deref.ensures) in (falls c.args.callees.now _ _ t c.decreases (omega (arith, h)), tt)

pub access-returns-in_err-effects : goal.access-returns-in_err-effects
access-returns-in_err-effects t c =
    let types = types_in c.args.callees.now in let calls = calls_of c.args.callees.now in let l0 = locals_map c.args.locals.now in let s0 = plain_script c.args.script.now in let p = typed_expression c.args.pointer.now in let ps = expressions_of (map typed_expression c.args.parts.now) in let l = c.args.cell in let s1 = plain_script c.expression.new.script in let s2 = plain_script c.effects.new.script in let d = c.in_err-effects.field-0.0 in ended_by ⊤ Flow (λ s r s'. accesses types calls p ps l.block l.site l0 s (ended r l0) s') s0 s2 c.from_residual-in_err-effects.result d (err_from_is_err_and c.from_residual-in_err-effects.result c.from_residual-in_err-effects.ensures.1) (λ h. (Ok c.in_ok-at.at, s1, c.in_ok-at.ensures, (Err d, s2, h, (refl, refl)))) c.in_err-effects.ensures

pub access-returns-in_err-reach : goal.access-returns-in_err-reach
access-returns-in_err-reach t c =
    let types = types_in c.args.callees.now in let calls = calls_of c.args.callees.now in let l0 = locals_map c.args.locals.now in let s0 = plain_script c.args.script.now in let p = typed_expression c.args.pointer.now in let ps = expressions_of (map typed_expression c.args.parts.now) in let l = c.args.cell in let s1 = plain_script c.expression.new.script in let s2 = plain_script c.effects.new.script in let s3 = plain_script c.reach.new.script in let d = c.in_err-reach.field-0.0 in ended_surely (λ s r s'. accesses types calls p ps l.block l.site l0 s (ended r l0) s') s0 s3 c.from_residual-in_err-reach.result d (err_from_is_err_and c.from_residual-in_err-reach.result c.from_residual-in_err-reach.ensures.1) (Ok c.in_ok-at.at, s1, c.in_ok-at.ensures, (Ok tt, s2, c.in_ok-effects.ensures, (Err d, s3, c.in_err-reach.ensures, (refl, refl))))

pub access-returns : goal.access-returns
access-returns t c =
    let s1 = plain_script c.expression.new.script in let s2 = plain_script c.effects.new.script in let s3 = plain_script c.reach.new.script in (Ok c.in_ok-at.at, s1, c.in_ok-at.ensures, (Ok tt, s2, c.in_ok-effects.ensures, (Ok tt, s3, c.in_ok-reach.ensures, (refl, refl))))

pub access-expression-requires : goal.access-expression-requires
access-expression-requires t c = (falls c.args.callees.now _ _ t c.decreases (omega (arith)), tt)

pub access-effects-requires : goal.access-effects-requires
access-effects-requires t c = (falls c.args.callees.now _ _ t c.decreases (omega (arith)), tt)

pub statement-access-requires : goal.statement-access-requires
statement-access-requires t c =
    let l = c.in-Access.cell in let h = ap statement_size (ap typed_statement c.in-Access.is ∙ sym (ap₂ (λ e es. access (typed_expression e) (expressions_of (map typed_expression es)) l.field l.block l.site) c.deref-in-Access.ensures c.deref-in-Access-2.ensures.value)) in (falls c.args.callees.now _ _ t c.decreases (omega (arith, h)), tt)

pub give_back-expression-requires : goal.give_back-expression-requires
give_back-expression-requires t c = let h = ap (λ o. value_size (option_map (λ b. typed_expression b.value) o)) c.in-Some.is ∙ sym (ap (λ e. size_of (typed_expression e)) c.deref.ensures) in (falls c.args.callees.now _ _ t c.decreases (omega (arith, h)), tt)

pub goes_on-condition-requires : goal.goes_on-condition-requires
goes_on-condition-requires t c = let h = ap (λ o. test_size_if (option_map (λ b. typed_condition b.value) o)) c.in-Some.is ∙ sym (ap (λ e. test_size (typed_condition e)) c.deref.ensures) in (falls c.args.callees.now _ _ t c.decreases (omega (arith, h)), tt)

pub assignment-expression-requires : goal.assignment-expression-requires
assignment-expression-requires t c = (falls c.args.callees.now _ _ t c.decreases (omega (arith)), tt)

pub assignment-expression-requires-in-Cell : goal.assignment-expression-requires-in-Cell
assignment-expression-requires-in-Cell t c = let h = ap place_size (ap typed_place c.in-Cell.is ∙ sym (ap (λ e. tree.cell_place (typed_expression e) c.in-Cell.field c.in-Cell.block c.in-Cell.site) c.deref.ensures)) in (falls c.args.callees.now _ _ t c.decreases (omega (arith, h)), tt)

pub assignment-expression-requires-in-Cell-2 : goal.assignment-expression-requires-in-Cell-2
assignment-expression-requires-in-Cell-2 t c = (falls c.args.callees.now _ _ t c.decreases (omega (arith)), tt)

pub update-expression-requires : goal.update-expression-requires
update-expression-requires t c = (falls c.args.callees.now _ _ t c.decreases (omega (arith)), tt)

pub update-expression-requires-in-Cell : goal.update-expression-requires-in-Cell
update-expression-requires-in-Cell t c = let h = ap place_size (ap typed_place c.in-Cell.is ∙ sym (ap (λ e. tree.cell_place (typed_expression e) c.in-Cell.field c.in-Cell.block c.in-Cell.site) c.deref.ensures)) in (falls c.args.callees.now _ _ t c.decreases (omega (arith, h)), tt)

pub update-expression-requires-in-Cell-2 : goal.update-expression-requires-in-Cell-2
update-expression-requires-in-Cell-2 t c = (falls c.args.callees.now _ _ t c.decreases (omega (arith)), tt)

pub turns-goes_on-requires : goal.turns-goes_on-requires
turns-goes_on-requires t c = (falls c.args.callees.now _ _ t c.decreases (omega (arith)), tt)

pub turns-statement-requires : goal.turns-statement-requires
turns-statement-requires t c = (falls c.args.callees.now _ _ t c.decreases (omega (arith)), tt)

pub turns-statement-requires-in-loop : goal.turns-statement-requires-in-loop
turns-statement-requires-in-loop t c = (falls c.args.callees.now _ _ t c.decreases (omega (arith)), tt)

pub body-statement-requires : goal.body-statement-requires
body-statement-requires t c =
    let some : 0 < c.args.callees.now.depth = omega (arith, c.if-callees-eq0.false) in (body_falls c.args.callees.now _ c.args.proc.0 c.in-Some.procedure.now t refl refl some (sym c.get.ensures ∙ ap option_copied c.in-Some.is) c.decreases, tt)
