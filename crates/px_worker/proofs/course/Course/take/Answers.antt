use Rattle.std.proofs.Common.{refl, ap, subst, ◌∙◌, arith, ◌-◌, ◌≤◌, length, map, Err}
use Rattle.std.proofs.lemmas.Result.{err_from_is_err_and}
use Rattle.px_worker.specs.declared.faults.ServeFault.TheVariants.{Write}
use Rattle.px_worker.specs.Courses.{StopsAfter}
use Rattle.px_worker.proofs.CourseLemmas.{on_none, next_piece, stop_piece, last_piece, few_of, within_of, same_error, unrisen}
use Rattle.px_worker.proofs.course.Course.take.Goals as goal

pub loop-from-init : goal.loop-from-init
loop-from-init g c = record {
  within = omega arith;
  on = on_none c.args.known (map (λ b. (goal.Domain-dyn g (b.vtable, b.value)).number b.value) c.args.domains.now.items) c.args.self.now (g.K.Sink.told c.args.sink.now);
  part = c.requires.part;
  count = refl;
  clear = c.requires.clear;
  kinds = refl;
}

pub returns-in_err-count-clause-stops : goal.returns-in_err-count-clause-stops
returns-in_err-count-clause-stops g c = λ fault h.
    let p = err_from_is_err_and c.from_residual.result c.from_residual.ensures.1 in
    let kinds = map (λ b. (goal.Domain-dyn g (b.vtable, b.value)).number b.value) c.args.domains.now.items in
    let kinds' = map (λ b. (goal.Domain-dyn g (b.vtable, b.value)).number b.value) c.loop-from.domains.items in
    let old = g.K.Sink.told c.args.sink.now in
    let new = g.K.Sink.told c.answer_first.new.sink in
    let e = c.in_err-count.field-0.0 in
    subst (λ f. StopsAfter c.args.known kinds c.args.self.now c.args.piece.now old new f) (same_error c.from_residual.result e fault (p.1 ∙ ap (λ z. Err z) p.2) h)
    (stop_piece c.args.known kinds kinds' c.args.self.now c.loop-from.self c.args.piece.now c.loop-from.from old (g.K.Sink.told c.loop-from.sink) new e c.loop-from.invariant.kinds c.loop-from.invariant.on
    (c.in_err-count.ensures.stops e refl))

pub loop-from-preserved : goal.loop-from-preserved
loop-from-preserved g c =
    let kinds = map (λ b. (goal.Domain-dyn g (b.vtable, b.value)).number b.value) c.args.domains.now.items in
    let kinds' = map (λ b. (goal.Domain-dyn g (b.vtable, b.value)).number b.value) c.loop-from.domains.items in
    let few : c.in_ok-count.count ≤ length c.args.piece.now - c.loop-from.from = few_of c.args.piece.now c.loop-from.from c.in_ok-count.count c.in_ok-count.ensures.taken.1 in
    record {
      within = within_of c.args.piece.now c.loop-from.from c.in_ok-count.count c.loop-from.invariant.within few;
      on = next_piece c.args.known kinds kinds' c.args.self.now c.loop-from.self c.answer_first.new.course c.args.piece.now c.loop-from.from c.in_ok-count.count
          (g.K.Sink.told c.args.sink.now) (g.K.Sink.told c.loop-from.sink) (g.K.Sink.told c.answer_first.new.sink) c.loop-from.invariant.kinds few c.loop-from.invariant.on c.in_ok-count.ensures.on;
      part = c.in_ok-count.ensures.part;
      count = unrisen c.in_ok-count.count Write (g.K.Sink.count c.loop-from.sink) (g.K.Sink.count c.answer_first.new.sink) c.in_ok-count.ensures.cause ∙ c.loop-from.invariant.count;
      clear = c.answer_first.ensures.clear;
      kinds = c.answer_first.ensures.kinds ∙ c.loop-from.invariant.kinds;
    }

pub returns-clause-on : goal.returns-clause-on
returns-clause-on g c =
    let all : length c.args.piece.now ≤ c.loop-from.from = omega (arith, c.loop-from-test.false) in
    last_piece c.args.known (map (λ b. (goal.Domain-dyn g (b.vtable, b.value)).number b.value) c.args.domains.now.items) c.args.self.now c.loop-from.self c.args.piece.now c.loop-from.from
    (g.K.Sink.told c.args.sink.now) (g.K.Sink.told c.loop-from.sink) all c.loop-from.invariant.within c.loop-from.invariant.on
