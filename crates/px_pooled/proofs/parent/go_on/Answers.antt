use Rattle.std.proofs.Common.{◌∙◌, ◌≤◌, ℕ, length, sym, ap, subst, arith}
use Rattle.px_pieces.specs.declared.desk.Who.TheVariants.{Parent}
use Rattle.px_pieces.specs.Desk.{IsClaimable}
use Rattle.px_pieces.specs.Histories.{publications}
use Rattle.px_jobs.specs.Sources.{SourceParts}
use Rattle.px_book.specs.Books.{BookParts, its_desk, statuses_in}
use Rattle.px_pooled.specs.Making.{AreFew, IsIdle, IsTurn}
use Rattle.px_pooled.proofs.TurnLemmas.{turn_sources, turn_graph, turn_alone, turn_counts, turn_idle, all_settled, few_publications}
use Rattle.px_pooled.proofs.parent.go_on.Goals as goal

pub take_turn-requires-clause-few : goal.take_turn-requires-clause-few
take_turn-requires-clause-few g c = subst (λ (s : SourceParts). AreFew s.bodies) (sym c.loop-turn.invariant.sources) c.requires.few

pub take_turn-requires-clause-kinds : goal.take_turn-requires-clause-kinds
take_turn-requires-clause-kinds g c = c.loop-turn.invariant.kinds ∙ c.requires.kinds ∙ ap (λ (s : SourceParts). s.kinds) (sym c.loop-turn.invariant.sources)

pub returns-then-not-branch-clause-settled : goal.returns-then-not-branch-clause-settled
returns-then-not-branch-clause-settled g c = λ idle.
    let none = c.in_ok-take_turn.ensures.none c.if-not-branch.true in
    all_settled c.desk_histories.ensures g.H.Honesty.says c.take_turn.new.book c.history.ensures.sound (subst IsIdle (sym none.0) (c.loop-turn.invariant.idle idle))
    (subst (λ (z : BookParts). (f : ℕ) → ¬ IsClaimable (its_desk z) (statuses_in z) Parent f) (sym none.0) none.1)

pub loop-turn-preserved : goal.loop-turn-preserved
loop-turn-preserved g c =
    let b = c.loop-turn.book in
    let d = c.take_turn.new.book in
    let was = c.loop-turn.invariant in
    let turn : IsTurn b d = c.in_ok-take_turn.ensures.one c.if-not-branch.false in
    record {
      sources = turn_sources b d turn ∙ was.sources;
      graph = turn_graph b d turn ∙ was.graph;
      alone = λ h. turn_alone b d turn (was.alone h);
      idle = λ h. turn_idle b d turn c.claimed_jobs_stay.ensures c.calls_move_one.ensures (was.idle h);
      many = let e = turn_counts b d turn in let m = was.many in omega (arith, e, m);
      clear = c.take_turn.ensures.clear;
      kinds = c.take_turn.ensures.kinds ∙ was.kinds;
    }

pub unreachable-requires : goal.unreachable-requires
unreachable-requires g c =
    let b = c.loop-turn.book in
    let few : publications b.history ≤ length b.graph = few_publications c.desk_histories.ensures g.H.Honesty.says b c.history-2.ensures.sound in
    let graph = ap length c.loop-turn.invariant.graph in
    let kept = c.requires.kept in
    let many = c.loop-turn.invariant.many in
    let end = c.from-turn-end.ensures in
    let last = c.loop-turn-test.false in
    omega (arith, few, graph, kept, many, end, last)
