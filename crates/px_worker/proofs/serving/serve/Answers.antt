use Rattle.std.proofs.Common.{refl, sym, ap, subst, ◌∙◌, true, map, Ok, Err}
use Rattle.std.proofs.lemmas.Result.{err_from_is_err_and}
use Rattle.px_worker.specs.Served.{Serves}
use Rattle.px_worker.specs.Courses.{IsTurn}
use Rattle.px_worker.proofs.ServeLemmas.{stand_start}
use Rattle.px_worker.proofs.serving.serve.Goals as goal

pub loop-init : goal.loop-init
loop-init g c = record {
  stands = stand_start 2 (map (λ b. (goal.Domain-dyn g (b.vtable, b.value)).number b.value) c.args.domains.now.items) (g.I.Source.told c.args.source.now) (g.K.Sink.told c.args.sink.now)
      c.new-course.result (c.new-course.ensures.on 2 (map (λ b. (goal.Domain-dyn g (b.vtable, b.value)).number b.value) c.args.domains.now.items)) c.new-course.ensures.part;
  read_count = refl;
  write_count = refl;
  clear = c.requires;
  kinds = refl;
}

pub returns-in_err-serve_piece-clause-serves : goal.returns-in_err-serve_piece-clause-serves
returns-in_err-serve_piece-clause-serves g c =
    let p = err_from_is_err_and c.from_residual.result c.from_residual.ensures.1 in
    let kinds = map (λ b. (goal.Domain-dyn g (b.vtable, b.value)).number b.value) c.args.domains.now.items in
    let s0 = g.I.Source.told c.args.source.now in
    let s1 = g.I.Source.told c.loop.source in
    let s2 = g.I.Source.told c.serve_piece.new.source in
    let k0 = g.K.Sink.told c.args.sink.now in
    let k1 = g.K.Sink.told c.loop.sink in
    let k2 = g.K.Sink.told c.serve_piece.new.sink in
    let turn = subst (λ k. IsTurn 2 k c.loop.course c.serve_piece.new.course s1 s2 k1 k2 (Err c.in_err-serve_piece.field-0.0)) c.loop.invariant.kinds c.in_err-serve_piece.ensures.turn in
    subst (λ r. Serves 2 kinds s0 s2 k0 k2 r) (sym (p.1 ∙ ap (λ z. Err z) p.2)) (turn s0 k0 c.loop.invariant.stands)

pub returns-then-branch-clause-serves : goal.returns-then-branch-clause-serves
returns-then-branch-clause-serves g c =
    let kinds = map (λ b. (goal.Domain-dyn g (b.vtable, b.value)).number b.value) c.args.domains.now.items in
    let kinds' = map (λ b. (goal.Domain-dyn g (b.vtable, b.value)).number b.value) c.loop.domains.items in
    let s0 = g.I.Source.told c.args.source.now in
    let s1 = g.I.Source.told c.loop.source in
    let s2 = g.I.Source.told c.serve_piece.new.source in
    let k0 = g.K.Sink.told c.args.sink.now in
    let k1 = g.K.Sink.told c.loop.sink in
    let k2 = g.K.Sink.told c.serve_piece.new.sink in
    let end : IsTurn 2 kinds' c.loop.course c.serve_piece.new.course s1 s2 k1 k2 (Ok true) =
    subst (λ r. IsTurn 2 kinds' c.loop.course c.serve_piece.new.course s1 s2 k1 k2 (Ok r)) c.if-branch.true c.in_ok-serve_piece.ensures.turn in
    let turn : IsTurn 2 kinds c.loop.course c.serve_piece.new.course s1 s2 k1 k2 (Ok true) =
    subst (λ k. IsTurn 2 k c.loop.course c.serve_piece.new.course s1 s2 k1 k2 (Ok true)) c.loop.invariant.kinds end in
    turn s0 k0 c.loop.invariant.stands
