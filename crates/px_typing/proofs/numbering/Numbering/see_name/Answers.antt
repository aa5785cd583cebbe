use Rattle.std.proofs.Common.{◌≡◌, ◌∙◌, refl, sym, ap, not, length, rules}
use Rattle.std.specs.List.{list_any}
use Rattle.std.specs.Str.{bytes_eq}
use Rattle.std.proofs.lemmas.Bool.{not-true}
use Rattle.px_typing.specs.Sights.{sighted}
use Rattle.px_typing.proofs.NumberingLemmas.{sees_new_name}
use Rattle.px_typing.proofs.numbering.Numbering.see_name.Goals as goal

pub returns-in_ok-number_name : goal.returns-in_ok-number_name
returns-in_ok-number_name c =
    let number : c.in-Ok.number ≡ length c.args.self.now.names = search rules in
    sees_new_name c.args.self.now _ c.args.name.now c.in-Ok.number number
    (c.in_ok-see.ensures.seen ∙ ap (λ n. sighted bytes_eq c.args.self.now.names n) c.as_slice.ensures) refl
    (ap (λ n. list_any (bytes_eq n) c.args.self.now.names) (sym c.as_slice.ensures) ∙ not-true _ (sym c.in_ok-see.ensures.first ∙ c.if-branch.true))
    c.in_ok-number_name.ensures.ok
