use Rattle.std.proofs.Common.{◌≡◌, ℕ, ◌<◌, ◌≤◌, List, [], sym, ap, ◌∙◌, subst, length, get_or}
use Rattle.std.specs.List.{Contains}
use Rattle.std.proofs.lemmas.List.{get_or_default}
use Rattle.px_sat.specs.Uses.{code}
use Rattle.px_sat.proofs.UseLemmas.{has_no_list}
use Rattle.px_sat.proofs.clauses.Clauses.uses.Goals as goal

pub returns-in-None : goal.returns-in-None
returns-in-None c = λ at clause s h.
    let u = c.self.invariant at clause c.args.literal (rw c.self.view_is s) h in
    let l : length c.self.inside.uses.items ≤ code c.args.literal = subst (λ k. length c.self.inside.uses.items ≤ k) c.code.ensures (subst (λ (ls : List (List ℕ)). length ls ≤ c.code.result) c.deref.ensures.value c.in-None.ensures.lookup.3) in
    absurd (has_no_list c.self.inside.uses.items (code c.args.literal) at l u)

pub returns-in-Some : goal.returns-in-Some
returns-in-Some c = λ at clause s h.
    let u = c.self.invariant at clause c.args.literal (rw c.self.view_is s) h in
    let l = c.in-Some.ensures.lookup in
    let e : c.in-Some.uses.now ≡ get_or c.self.inside.uses.items (code c.args.literal) c.in-Some.uses.now =
    l.1 ∙ ap (λ (ls : List (List ℕ)). get_or ls c.code.result c.in-Some.uses.now) c.deref.ensures.value ∙ ap (λ k. get_or c.self.inside.uses.items k c.in-Some.uses.now) c.code.ensures in
    let b : code c.args.literal < length c.self.inside.uses.items = subst (λ k. k < length c.self.inside.uses.items) c.code.ensures (subst (λ (ls : List (List ℕ)). c.code.result < length ls) c.deref.ensures.value l.3.0) in
    subst (λ (us : List ℕ). Contains us at) (sym (c.as_slice.ensures ∙ e ∙ get_or_default c.self.inside.uses.items (code c.args.literal) c.in-Some.uses.now [] b)) u
