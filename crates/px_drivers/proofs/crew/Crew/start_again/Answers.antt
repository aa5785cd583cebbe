use Rattle.std.proofs.Common.{◌≡◌, refl, ap, ◌∙◌, arith, ◌<◌, length}
use Rattle.px_drivers.specs.Crews.{CrewParts}
use Rattle.px_drivers.proofs.VersionLemmas.{turning_begins, one_turned, all_turned}
use Rattle.px_drivers.proofs.crew.Crew.start_again.Goals as goal

pub loop-done-init : goal.loop-done-init
loop-done-init g c = (refl, c.requires.links, turning_begins c.args.self.now.drivers, λ a h. h)

pub loop-done-preserved : goal.loop-done-preserved
loop-done-preserved g c =
    let many : length c.self.inside.drivers.items ≡ length c.args.self.now.drivers = ap (λ (x : CrewParts). length x.drivers) c.self.view_is in
    let end = c.len-done-end.ensures in
    let below = c.loop-done-test.true in
    let some : c.loop-done.done < length c.args.self.now.drivers = omega arith in (
      c.first_goes_on-some.ensures.workers ∙ c.loop-done.invariant.0,
      c.first_goes_on-some.ensures.links,
      one_turned c.args.self.now.drivers c.loop-done.self.drivers c.first_goes_on-some.new.self.drivers c.loop-done.done some c.loop-done.invariant.2 c.first_goes_on-some.ensures.versions,
      λ a h. c.first_goes_on-some.ensures.account a (c.loop-done.invariant.3 a h),
    )

pub returns-clause-versions : goal.returns-clause-versions
returns-clause-versions g c =
    let many : length c.self.inside.drivers.items ≡ length c.args.self.now.drivers = ap (λ (x : CrewParts). length x.drivers) c.self.view_is in
    let end = c.len-done-end.ensures in
    let past = c.loop-done-test.false in
    all_turned c.args.self.now.drivers c.loop-done.self.drivers c.loop-done.done (omega arith) c.loop-done.invariant.2
