use Rattle.std.proofs.Common.{◌-◌, sym, ap, subst, ◌∙◌}
use Rattle.std.specs.Prelude.{reverse}
use Rattle.px_order.specs.Held.{HoldsBeyond}
use Rattle.px_order.proofs.Holding.{held_popped, held_without, last_first, not_last}
use Rattle.px_order.proofs.order.OrderDomain.pop.Goals as goal

pub returns-in-Some-clause-popped : goal.returns-in-Some-clause-popped
returns-in-Some-clause-popped c = λ d cs h.
    let s = c.args.self.now in
    let n = s.count - 1 in
    subst (λ ks. HoldsBeyond s.beyond n (reverse c.pop_start.new.starts.items) ks cs) (sym c.truncate.ensures)
    (held_popped s.beyond c.if-self-gt0.false s.count (reverse s.starts.items) s.kept d cs h c.in-Some.start (reverse c.pop_start.new.starts.items)
    (ap reverse c.in-Some.ensures.some ∙ last_first c.pop_start.new.starts.items (record { conjunct = n; comparison = c.in-Some.start })))

pub returns-in_default-clause-popped : goal.returns-in_default-clause-popped
returns-in_default-clause-popped c = λ d cs h.
    let s = c.args.self.now in
    subst (λ starts. HoldsBeyond s.beyond (s.count - 1) (reverse starts) s.kept cs) (sym c.in_default.ensures.none)
    (held_without s.beyond c.if-self-gt0.false s.count (reverse s.starts.items) s.kept d cs h (not_last (s.count - 1) s.starts.items c.in_default.ensures.other))
