-- The turns of a loop.
use Rattle.std.proofs.Common.{◌≡◌, ◌∙◌, ◌+◌, ◌<◌, ℕ, suc, nat_lt, true, false, [], ap, sym, arith, rules}
use Rattle.px_base.specs.declared.trace.Site.{Site}
use Rattle.px_base.specs.declared.trace.MarkKind.TheVariants as mark
use Rattle.px_callgraph.specs.declared.states.State.{State}
use Rattle.px_callgraph.specs.States.{Done, on, marked, past}
use Rattle.px_callgraph.specs.Commands.{repeat_loop, iteration}

-- one turn more, where the bound allows it
pub turn_is : (bound made : ℕ) (site : Site) (s : State) → made < bound → on (repeat_loop site (made + 1) (marked mark.Iter site s)) ≡ iteration bound site made s
turn_is bound made site s l =
    let e : made + 1 ≡ suc made = omega arith in
    let t : nat_lt made bound ≡ true = search (rules, l) in
    ap (λ n. on (repeat_loop site n (marked mark.Iter site s))) e
    ∙ sym (ap (λ b. elim b as (λ _. Done) [ true ↦ on (repeat_loop site (suc made) (marked mark.Iter site s)) | false ↦ record { state = s; terms = []; outcome = past } ]) t)
