use Rattle.std.proofs.Common.{◌≡◌, ap, subst, sym, take, List, ℕ}
use Rattle.px_worker.specs.Served.{IsBegun}
use Rattle.px_honest.specs.HonestLinks.{HonestParts}
use Rattle.px_honest.proofs.HonestLemmas.{begun_given}
use Rattle.px_honest.proofs.honest_link.HonestLink.given.Goals as goal

pub returns-clause-begun : goal.returns-clause-begun
returns-clause-begun g c =
    let f = c.self.inside in
    let all : take f.given c.deref.result.now ≡ take f.given f.written.bytes.items = ap (λ l. take f.given l) c.deref.ensures.value in
    let begun : IsBegun f.known f.kinds f.sent.items (take f.given c.deref.result.now) =
    subst (λ (l : List ℕ). IsBegun f.known f.kinds f.sent.items l) (sym all) (begun_given f.known f.kinds f.sent.items f.written.bytes.items f.given c.self.invariant.begun) in
    subst (λ (h : HonestParts). IsBegun h.known h.kinds h.talk.sent (take f.given c.deref.result.now)) c.self.view_is begun
