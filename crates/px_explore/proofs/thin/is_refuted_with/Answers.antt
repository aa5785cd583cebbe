use Rattle.std.proofs.Common.{inl}
use Rattle.std.proofs.lemmas.Result.{IfOk-weaker}
use Rattle.px_explore.proofs.TrailLemmas.{on_stacked}
use Rattle.px_explore.proofs.thin.is_refuted_with.Goals as goal

pub refutes_plainly-requires : goal.refutes_plainly-requires
refutes_plainly-requires g c = let (items, on, v, s, n) = c.requires in (items, on.stacked, s, n)

pub returns-then-is_of_cells-clause-answer : goal.returns-then-is_of_cells-clause-answer
returns-then-is_of_cells-clause-answer g c = IfOk-weaker c.refutes_plainly.result _ _ (λ yes h items on e. inl ((h items on.stacked).0 e)) c.refutes_plainly.ensures.answer

pub returns-then-is_of_cells-clause-on : goal.returns-then-is_of_cells-clause-on
returns-then-is_of_cells-clause-on g c = λ items on. on_stacked c.args.trail.now c.refutes_plainly.new.self _ items on c.refutes_plainly.ensures.stacked

pub returns-clause-answer : goal.returns-clause-answer
returns-clause-answer g c = IfOk-weaker c.refutes.result _ _ (λ yes h items on e. (h items on).0 e) c.refutes.ensures.answer
