-- A conjunct is assumed where what it adds is added.
use Rattle.std.proofs.Common.{◌≡◌, ◌++◌, Option, sym, ap}
use Rattle.std.specs.Prelude.{option_to_list}
use Rattle.px_terms.specs.declared.conjuncts.Conj.{Conj}
use Rattle.px_entry.specs.Decided.{assume}
use Rattle.px_callgraph.specs.declared.states.State.{State}
use Rattle.px_callgraph.specs.States.{assumed}
use Rattle.px_ways.specs.Additions.{with_conjuncts}

pub assumed_by : (s : State) (c : Conj) (added : Option Conj) → assume s.vars s.pure c ≡ s.pure ++ option_to_list added → with_conjuncts (option_to_list added) s ≡ assumed c s
assumed_by s c added e = ap (λ z. record s { pure = z }) (sym e)
