use Rattle.std.proofs.Common.{◌≡◌, ◌∷◌, ◌++◌, [], List, length, refl, sym, ◌∙◌, subst}
use Rattle.px_cnf.specs.declared.literal.Literal.{Literal}
use Rattle.px_sat.specs.Uses.{code, HasUse, AreListed}
use Rattle.px_sat.proofs.UseLemmas.{listed_kept, listed_more}
use Rattle.px_sat.proofs.clauses.Clauses.add.Goals as goal

pub invariant_of-self : goal.invariant_of-self
invariant_of-self c = listed_kept c.self.inside.all.items c.self.inside.uses.items c.put_uses.new.uses.items c.self.invariant c.put_uses.ensures.keeps

pub invariant_of-self-in_err-from_slice : goal.invariant_of-self-in_err-from_slice
invariant_of-self-in_err-from_slice c = listed_kept c.self.inside.all.items c.self.inside.uses.items c.put_uses.new.uses.items c.self.invariant c.put_uses.ensures.keeps

pub invariant_of-self-in_err-push : goal.invariant_of-self-in_err-push
invariant_of-self-in_err-push c =
    subst (λ (cs : List (List Literal)). AreListed cs c.put_uses.new.uses.items) (sym c.in_err-push.ensures.items)
    (listed_kept c.self.inside.all.items c.self.inside.uses.items c.put_uses.new.uses.items c.self.invariant c.put_uses.ensures.keeps)

pub invariant_of-self-2 : goal.invariant_of-self-2
invariant_of-self-2 c =
    let n : c.len.result ≡ length c.self.inside.all.items = c.len.ensures ∙ c.self.inside.all.ok.0 in
    let e : c.push.new.self.items ≡ c.self.inside.all.items ++ c.args.clause.now ∷ [] = rw (c.in_ok-push.ensures.items, c.in_ok-from_slice.ensures) refl in
    subst (λ (cs : List (List Literal)). AreListed cs c.put_uses.new.uses.items) (sym e)
    (listed_more c.self.inside.all.items c.self.inside.uses.items c.put_uses.new.uses.items c.args.clause.now c.self.invariant c.put_uses.ensures.keeps
    (λ l m. subst (λ k. HasUse c.put_uses.new.uses.items (code l) k) n (c.in_ok-put_uses.ensures.put l m)))
