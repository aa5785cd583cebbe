use Rattle.std.proofs.Common.{◌≡◌, refl, sym, subst, length, arith}
use Rattle.std.proofs.lemmas.List.{with_items_is}
use Rattle.px_plain.specs.Changes.{Changed, ApartChanged}
use Rattle.std.specs.Vec.{with_items}
use Rattle.px_plain.specs.Steps.{Content}
use Rattle.px_plain.specs.Stacks.{content}
use Rattle.px_plain.proofs.stack.Stack.change.Goals as goal

pub returns-in-Apart-clause-changed : goal.returns-in-Apart-clause-changed
returns-in-Apart-clause-changed c =
    let s = c.args.self.now in
    let n = c.change_apart.new.owners in
    let size : length n ≡ s.owners.len = let a = c.change_apart.auto.owners in let b = c.deref_mut-in-Apart.ensures.len in omega arith in
    let a = subst (λ z. ApartChanged z c.deref_mut-in-Apart.result.now c.in-Apart.node n c.change_apart.result) c.deref-in-Apart.ensures.value c.change_apart.ensures in
    let b = subst (λ z. ApartChanged s.places.items z c.in-Apart.node n c.change_apart.result) c.deref_mut-in-Apart.ensures.value a in
    let e : Content = record (content s) { owners = (with_items s.owners n).items } in
    subst (λ k. Changed (content s) k e c.change_apart.result) (sym c.in-Apart.is)
    (refl, subst (λ z. ApartChanged s.places.items s.owners.items c.in-Apart.node z c.change_apart.result) (sym (with_items_is s.owners n size)) b)
