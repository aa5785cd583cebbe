use Rattle.std.proofs.Common.{◌≡◌, ◌+◌, ◌∷◌, ◌++◌, sym, ap, subst, ◌∙◌, take, length, eqb-true, arith}
use Rattle.std.specs.Prelude.{reverse}
use Rattle.std.proofs.lemmas.List.{nil_from_length}
use Rattle.px_order.specs.Comparisons.{HaveNoSolution}
use Rattle.px_order.specs.Kept.{IsSaidBy}
use Rattle.px_order.specs.Held.{HoldsBeyond}
use Rattle.px_order.proofs.Adding.{said_alone}
use Rattle.px_order.proofs.Holding.{held_count, held_more, held_silent, held_out, held_pushed, last_first}
use Rattle.px_order.proofs.order.OrderDomain.push.Goals as goal

pub overflow_add-self : goal.overflow_add-self
overflow_add-self c =
    let s = c.args.self.now in
    let (cs, h, l) = c.requires.few in
    let k = held_count s.count (reverse s.starts.items) s.kept s.beyond cs h in
    omega arith

pub returns-then-self-gt0-clause-pushed : goal.returns-then-self-gt0-clause-pushed
returns-then-self-gt0-clause-pushed c = λ cs h.
    let s = c.args.self.now in
    held_more s.count (reverse s.starts.items) s.kept s.beyond c.args.conjunct.now cs c.if-self-gt0.true h

pub returns-then-is_empty-clause-pushed : goal.returns-then-is_empty-clause-pushed
returns-then-is_empty-clause-pushed c = λ cs h.
    let s = c.args.self.now in
    let added = c.add_conjunct.new.comparisons in
    let says : IsSaidBy c.args.conjunct.now added.items = said_alone c.args.conjunct.now c.clear.new.self.items added.items c.clear.ensures.items c.in_ok-add_conjunct.ensures in
    held_silent s.beyond c.if-self-gt0.false s.count (reverse s.starts.items) s.kept added.items c.args.conjunct.now cs says h
    (nil_from_length added.items (sym added.ok.0 ∙ eqb-true _ 0 (sym c.if-is_empty.ensures)))

pub returns-in-Ok-true-clause-pushed : goal.returns-in-Ok-true-clause-pushed
returns-in-Ok-true-clause-pushed c = λ cs h.
    let s = c.args.self.now in
    let d = c.args.conjunct.now in
    let added = c.add_conjunct.new.comparisons in
    let yes = c.in-Ok-true.field-0-test in
    let says : IsSaidBy d added.items = said_alone d c.clear.new.self.items added.items c.clear.ensures.items c.in_ok-add_conjunct.ensures in
    let kept : c.keep.new.kept ≡ s.kept ++ added.items = c.in-Ok-true.ensures.added yes ∙ ap (λ ks. s.kept ++ ks) c.deref.ensures.value in
    subst (λ starts. HoldsBeyond s.beyond (s.count + 1) starts c.keep.new.kept (d ∷ cs))
    (sym (ap reverse (c.in-Ok-true.ensures.started yes) ∙ last_first s.starts.items (record { conjunct = s.count; comparison = length s.kept })))
    (subst (λ ks. HoldsBeyond s.beyond (s.count + 1) (record { conjunct = s.count; comparison = length s.kept } ∷ reverse s.starts.items) ks (d ∷ cs)) (sym kept)
    (held_pushed s.beyond c.if-self-gt0.false s.count (reverse s.starts.items) s.kept added.items d cs says h
    (subst (λ ks. HaveNoSolution (s.kept ++ ks) → HaveNoSolution s.kept) c.deref.ensures.value (c.in-Ok-true.ensures.solvable yes))))

pub returns-in-Ok-false-clause-pushed : goal.returns-in-Ok-false-clause-pushed
returns-in-Ok-false-clause-pushed c = λ cs h.
    let s = c.args.self.now in
    let d = c.args.conjunct.now in
    let added = c.add_conjunct.new.comparisons in
    let no = c.in-Ok-false.field-0-test in
    let says : IsSaidBy d added.items = said_alone d c.clear.new.self.items added.items c.clear.ensures.items c.in_ok-add_conjunct.ensures in
    let kept : c.truncate.new.self ≡ s.kept = c.truncate.ensures ∙ ap (λ n. take n c.keep.new.kept) c.len-start.ensures ∙ c.in-Ok-false.ensures.front in
    subst (λ starts. HoldsBeyond 1 s.count starts c.truncate.new.self (d ∷ cs)) (sym (ap reverse (c.in-Ok-false.ensures.unstarted no)))
    (subst (λ ks. HoldsBeyond 1 s.count (reverse s.starts.items) ks (d ∷ cs)) (sym kept)
    (held_out s.beyond c.if-self-gt0.false s.count (reverse s.starts.items) s.kept added.items d cs says h
    (subst (λ ks. HaveNoSolution (s.kept ++ ks)) c.deref.ensures.value (c.in-Ok-false.ensures.closed no))))
