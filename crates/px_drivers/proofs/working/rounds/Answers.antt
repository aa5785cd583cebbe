use Rattle.std.proofs.Common.{◌≡◌, subst, ap, ◌∙◌}
use Rattle.px_drivers.specs.Crews.{CrewParts, standing, IsAccount}
use Rattle.px_drivers.specs.Rounds.{IsEnd}
use Rattle.px_drivers.proofs.CrewLemmas.{account_begins, links_run}
use Rattle.px_drivers.proofs.working.rounds.Goals as goal
use Rattle.px_drivers.proofs.working.rounds.Goals.{in-None, in-Some+then-not-start_again}

pub loop-init : goal.loop-init
loop-init g c = (
  c.start_all.ensures.workers ∙ ap (λ (x : CrewParts). x.workers) c.in_ok-crew.ensures,
  c.start_all.ensures.account (standing (g.S.Spawner.told c.args.spawner.now) (g.S.Spawner.links c.args.spawner.now) (g.S.Spawner.count c.args.spawner.now))
      (account_begins (standing (g.S.Spawner.told c.args.spawner.now) (g.S.Spawner.links c.args.spawner.now) (g.S.Spawner.count c.args.spawner.now)) c.in_ok-crew.crew c.args.workers c.args.workers c.in_ok-crew.ensures),
)

pub start_again-requires-clause-links : goal.start_again-requires-clause-links
start_again-requires-clause-links g c κs bounds =
    let a = (standing (g.S.Spawner.told c.args.spawner.now) (g.S.Spawner.links c.args.spawner.now) (g.S.Spawner.count c.args.spawner.now)) in
    let b = (standing (g.S.Spawner.told c.loop.spawner) (g.S.Spawner.links c.loop.spawner) (g.S.Spawner.count c.loop.spawner)) in
    links_run a b c.round.new.self (c.round.ensures.account a b c.loop.invariant.1)

pub loop-preserved : goal.loop-preserved
loop-preserved g c =
    let a = (standing (g.S.Spawner.told c.args.spawner.now) (g.S.Spawner.links c.args.spawner.now) (g.S.Spawner.count c.args.spawner.now)) in
    let b = (standing (g.S.Spawner.told c.loop.spawner) (g.S.Spawner.links c.loop.spawner) (g.S.Spawner.count c.loop.spawner)) in
    (c.start_again.ensures.workers ∙ c.round.ensures.workers ∙ c.loop.invariant.0, c.start_again.ensures.account a (c.round.ensures.account a b c.loop.invariant.1))

pub returns-clause-end : goal.returns-clause-end
returns-clause-end g c =
    let a = (standing (g.S.Spawner.told c.args.spawner.now) (g.S.Spawner.links c.args.spawner.now) (g.S.Spawner.count c.args.spawner.now)) in
    let b = (standing (g.S.Spawner.told c.loop.spawner) (g.S.Spawner.links c.loop.spawner) (g.S.Spawner.count c.loop.spawner)) in
    let last : c.match-next.crew.workers ≡ c.args.workers × IsAccount a (standing (g.S.Spawner.told c.match-next.spawner) (g.S.Spawner.links c.match-next.spawner) (g.S.Spawner.count c.match-next.spawner)) c.match-next.crew =
    elim c.match-next.branch [
      | in-None w ↦ rw (w.spawner-is, w.crew-is) c.loop.invariant
      | in-Some+then-not-start_again w ↦ rw (w.spawner-is, w.crew-is)
          (w.start_again.ensures.workers ∙ w.round.ensures.workers ∙ c.loop.invariant.0, w.start_again.ensures.account a (w.round.ensures.account a b c.loop.invariant.1))
    ] in
    subst (λ n. IsEnd n a (standing (g.S.Spawner.told c.finish.new.spawner) (g.S.Spawner.links c.finish.new.spawner) (g.S.Spawner.count c.finish.new.spawner)) c.finish.result.receipts c.finish.result.left) last.0 (c.finish.ensures.end a last.1)
