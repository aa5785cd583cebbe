use Rattle.std.proofs.Common.{◌+◌, ◌*◌, ◌-◌, map, drop, option_map, Result, Bool, List}
use Rattle.std.specs.Prelude.{⊤}
use Rattle.px_syntax.specs.TypedTree.{expressions_of, arguments_of, statements_of}
use Rattle.px_syntax.specs.TypedViews.{typed_expression, typed_argument, typed_condition, typed_statement, arithmetic_link, relation_link, calculated, compared, cells, all_of, any_of}
use Rattle.px_meaning.specs.Values.{Value}
use Rattle.px_replay.specs.declared.stop.Stop.{Stop}
use Rattle.px_replay.specs.Script.{PlainScript, plain_script}
use Rattle.px_replay.specs.Interpreted.{types_in, calls_of}
use Rattle.px_replay.specs.Locals.{locals_map}
use Rattle.px_replay.specs.TreeReplay.{Ended, ReplaysAll, PassesAll, loops, ReplaysStatement, ReplaysStatements, Replays, Checks}
use Rattle.px_replay.specs.ChainReplay.{onto, chained, loads_link, calculates_link, compares_link, and_link, or_link}
use Rattle.px_syntax.specs.TypedViews.{typed_place}
use Rattle.px_replay.proofs.Sizes.{size_of, sizes_of, arguments_size, argument_size, test_size, value_size, test_size_if, place_size, statement_size, statements_size, left_at}
use Rattle.px_replay.proofs.interpreter.+replay.Given as goal

-- what the rest gives, put after the values so far, is what all give
abbrev pub invariant-arguments-loop-e : goal.invariant-arguments-loop-e
invariant-arguments-loop-e l =
    (r : Result (List Value) Stop) (s' : PlainScript) →
    ReplaysAll (types_in l.callees) (calls_of l.callees) (arguments_of (map typed_argument (drop l.e-index l.es))) (locals_map l.locals) (plain_script l.script) r s' →
    ReplaysAll (types_in l.callees) (calls_of l.callees) (arguments_of (map typed_argument l.es)) (locals_map l.locals) (plain_script l.fn.script) (onto l.values.items r) s'

-- whatever comes of what is left, comes of all
abbrev pub invariant-effects-loop-e : goal.invariant-effects-loop-e
invariant-effects-loop-e l =
    (r : Result ⊤ Stop) (s' : PlainScript) →
    PassesAll (types_in l.callees) (calls_of l.callees) (expressions_of (map typed_expression (drop l.e-index l.es))) (locals_map l.locals) (plain_script l.script) r s' →
    PassesAll (types_in l.callees) (calls_of l.callees) (expressions_of (map typed_expression l.es)) (locals_map l.locals) (plain_script l.fn.script) r s'

abbrev pub invariant-calculations-loop-link : goal.invariant-calculations-loop-link
invariant-calculations-loop-link l =
    let types = types_in l.callees in
    let calls = calls_of l.callees in
    let locals = locals_map l.locals in
    (r : Result Value Stop) (s' : PlainScript) →
    chained (calculates_link types calls locals) (map arithmetic_link (drop l.link-index l.links)) l.x (plain_script l.script) r s' →
    Replays types calls (calculated (typed_expression l.fn.first) (map arithmetic_link l.links)) locals (plain_script l.fn.script) r s'

abbrev pub invariant-cells-loop-link : goal.invariant-cells-loop-link
invariant-cells-loop-link l =
    let types = types_in l.callees in
    let calls = calls_of l.callees in
    let locals = locals_map l.locals in
    (r : Result Value Stop) (s' : PlainScript) →
    chained (loads_link) (map (λ k. k) (drop l.link-index l.links)) l.at (plain_script l.script) r s' →
    Replays types calls (cells (typed_expression l.fn.pointer) (l.links)) locals (plain_script l.fn.script) r s'

abbrev pub invariant-comparisons-loop-link : goal.invariant-comparisons-loop-link
invariant-comparisons-loop-link l =
    let types = types_in l.callees in
    let calls = calls_of l.callees in
    let locals = locals_map l.locals in
    (r : Result Value Stop) (s' : PlainScript) →
    chained (compares_link types calls locals) (map relation_link (drop l.link-index l.links)) l.x (plain_script l.script) r s' →
    Replays types calls (compared (typed_expression l.fn.first) (map relation_link l.links)) locals (plain_script l.fn.script) r s'

abbrev pub invariant-conjunction-loop-c : goal.invariant-conjunction-loop-c
invariant-conjunction-loop-c l =
    let types = types_in l.callees in
    let calls = calls_of l.callees in
    let locals = locals_map l.locals in
    (r : Result Bool Stop) (s' : PlainScript) →
    chained (and_link types calls locals) (map typed_condition (drop l.c-index l.links)) l.holds (plain_script l.script) r s' →
    Checks types calls (all_of (typed_condition l.fn.first) (map typed_condition l.links)) locals (plain_script l.fn.script) r s'

abbrev pub invariant-disjunction-loop-c : goal.invariant-disjunction-loop-c
invariant-disjunction-loop-c l =
    let types = types_in l.callees in
    let calls = calls_of l.callees in
    let locals = locals_map l.locals in
    (r : Result Bool Stop) (s' : PlainScript) →
    chained (or_link types calls locals) (map typed_condition (drop l.c-index l.links)) l.holds (plain_script l.script) r s' →
    Checks types calls (any_of (typed_condition l.fn.first) (map typed_condition l.links)) locals (plain_script l.fn.script) r s'

abbrev pub invariant-statements-loop-s : goal.invariant-statements-loop-s
invariant-statements-loop-s l =
    (r : Result Ended Stop) (s' : PlainScript) →
    ReplaysStatements (types_in l.callees) (calls_of l.callees) l.callees.depth (statements_of (map typed_statement (drop l.s-index l.all))) (locals_map l.locals) (plain_script l.script) r s' →
    ReplaysStatements (types_in l.callees) (calls_of l.callees) l.callees.depth (statements_of (map typed_statement l.all)) (locals_map l.fn.locals) (plain_script l.fn.script) r s'

abbrev pub invariant-turns-loop : goal.invariant-turns-loop
invariant-turns-loop l =
    let types = types_in l.callees in
    let calls = calls_of l.callees in
    let n = l.callees.depth in
    let c = option_map (λ b. typed_condition b.value) l.c in
    let inner = ReplaysStatement types calls n (typed_statement l.inner) in
    let step = ReplaysStatement types calls n (typed_statement l.step) in
    (r : Result Ended Stop) (s' : PlainScript) →
    loops types calls (n - l.counter) l.site c inner step (locals_map l.locals) (plain_script l.script) r s' →
    loops types calls n l.site c inner step (locals_map l.fn.locals) (plain_script l.fn.script) r s'

abbrev pub decreases-expression : goal.decreases-expression
decreases-expression l = left_at l.callees.now (3 * size_of (typed_expression l.e.now))

abbrev pub decreases-condition : goal.decreases-condition
decreases-condition l = left_at l.callees.now (3 * test_size (typed_condition l.c.now))

abbrev pub decreases-arguments : goal.decreases-arguments
decreases-arguments l = left_at l.callees.now (3 * arguments_size (arguments_of (map typed_argument l.es.now)) + 2)

abbrev pub decreases-argument : goal.decreases-argument
decreases-argument l = left_at l.callees.now (3 * argument_size (typed_argument l.e.now) + 1)

abbrev pub decreases-effects : goal.decreases-effects
decreases-effects l = left_at l.callees.now (3 * sizes_of (expressions_of (map typed_expression l.es.now)) + 2)

abbrev pub decreases-effect : goal.decreases-effect
decreases-effect l = left_at l.callees.now (3 * size_of (typed_expression l.e.now) + 1)

abbrev pub decreases-calculations : goal.decreases-calculations
decreases-calculations l = left_at l.callees.now (3 * size_of (calculated (typed_expression l.first.now) (map arithmetic_link l.links.now)) + 1)

abbrev pub decreases-cells : goal.decreases-cells
decreases-cells l = left_at l.callees.now (3 * size_of (cells (typed_expression l.pointer.now) l.links.now) + 1)

abbrev pub decreases-comparisons : goal.decreases-comparisons
decreases-comparisons l = left_at l.callees.now (3 * size_of (compared (typed_expression l.first.now) (map relation_link l.links.now)) + 1)

abbrev pub decreases-conjunction : goal.decreases-conjunction
decreases-conjunction l = left_at l.callees.now (3 * test_size (all_of (typed_condition l.first.now) (map typed_condition l.links.now)) + 1)

abbrev pub decreases-disjunction : goal.decreases-disjunction
decreases-disjunction l = left_at l.callees.now (3 * test_size (any_of (typed_condition l.first.now) (map typed_condition l.links.now)) + 1)

abbrev pub decreases-call : goal.decreases-call
decreases-call l = left_at l.callees.now (1)

abbrev pub decreases-body : goal.decreases-body
decreases-body l = left_at l.callees.now (0)

abbrev pub decreases-assignment : goal.decreases-assignment
decreases-assignment l = left_at l.callees.now (3 * (place_size (typed_place l.place.now) + size_of (typed_expression l.e.now)) + 1)

abbrev pub decreases-update : goal.decreases-update
decreases-update l = left_at l.callees.now (3 * (place_size (typed_place l.place.now) + size_of (typed_expression l.e.now)) + 1)

abbrev pub decreases-declaration : goal.decreases-declaration
decreases-declaration l = left_at l.callees.now (3 * value_size (option_map (λ b. typed_expression b.value) l.value.now) + 1)

abbrev pub decreases-access : goal.decreases-access
decreases-access l = left_at l.callees.now (3 * (size_of (typed_expression l.pointer.now) + sizes_of (expressions_of (map typed_expression l.parts.now))) + 3)

abbrev pub decreases-give_back : goal.decreases-give_back
decreases-give_back l = left_at l.callees.now (3 * value_size (option_map (λ b. typed_expression b.value) l.value.now) + 1)

abbrev pub decreases-goes_on : goal.decreases-goes_on
decreases-goes_on l = left_at l.callees.now (3 * test_size_if (option_map (λ b. typed_condition b.value) l.c.now) + 1)

abbrev pub decreases-statement : goal.decreases-statement
decreases-statement l = left_at l.callees.now (3 * statement_size (typed_statement l.s.now))

abbrev pub decreases-statements : goal.decreases-statements
decreases-statements l = left_at l.callees.now (3 * statements_size (statements_of (map typed_statement l.all.now)) + 1)

abbrev pub decreases-turns : goal.decreases-turns
decreases-turns l = left_at l.callees.now (3 * (test_size_if (option_map (λ b. typed_condition b.value) l.c.now) + (statement_size (typed_statement l.inner.now) + statement_size (typed_statement l.step.now))) + 2)
