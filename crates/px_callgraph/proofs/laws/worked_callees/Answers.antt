use Rattle.std.proofs.Common.{inl, inr, refl, arith}
use Rattle.px_callgraph.specs.Callees.{by_call, by_calls, IsCallee}
use Rattle.px_callgraph.specs.WorkedCallees.{three}
use Rattle.px_callgraph.proofs.laws.worked_callees.Goals as goal

first_calls : IsCallee three 0 1
first_calls = inl (inr (inl (inl (inl (inl refl)))))

second_calls : IsCallee three 1 0
second_calls = inl refl

other : IsCallee three 1 2 → ⊥
other (inl e) = let n : ⊥ = omega arith in n
other (inr b) = b

pub returns : goal.returns
returns c = record {
  in_loop = first_calls;
  other = other;
  together = (by_call first_calls, by_call second_calls);
  with_itself = (by_calls first_calls (by_call second_calls), by_calls first_calls (by_call second_calls));
  without_body = λ h. h;
}
