use Rattle.std.proofs.Common.{◌≡◌, [], sym, ◌∙◌, eqb-true, arith}
use Rattle.std.proofs.lemmas.List.{nil_from_length}
use Rattle.px_order.proofs.Holding.{held_clear}
use Rattle.px_order.proofs.order.OrderDomain.is_clear.Goals as goal

pub returns-then-is_empty : goal.returns-then-is_empty
returns-then-is_empty c =
    let s = c.args.self.now in
    let empty : s.starts.items ≡ [] = nil_from_length s.starts.items (sym s.starts.ok.0 ∙ eqb-true _ 0 (sym c.if-is_empty.ensures)) in
    let k = held_clear s.beyond c.if-self-gt0.false s.count s.starts.items s.kept (omega arith) empty in
    (λ e. k.0 (c.is_empty-then-is_empty.ensures.0 e), λ h. c.is_empty-then-is_empty.ensures.1 (k.1 h))
