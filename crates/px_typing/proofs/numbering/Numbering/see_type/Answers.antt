use Rattle.std.proofs.Common.{◌≡◌, ◌∙◌, refl, sym, length, rules}
use Rattle.std.proofs.lemmas.Bool.{not-true}
use Rattle.px_bodies.specs.Lent.{type_of}
use Rattle.px_typing.proofs.NumberingLemmas.{sees_new_type}
use Rattle.px_typing.proofs.numbering.Numbering.see_type.Goals as goal

pub returns-in_ok-number_type : goal.returns-in_ok-number_type
returns-in_ok-number_type c =
    let number : c.in-Ok.number ≡ length c.args.self.now.types = search rules in
    sees_new_type c.args.self.now _ (type_of c.args.of) c.in-Ok.number number c.in_ok-see.ensures.seen refl
    (not-true _ (sym c.in_ok-see.ensures.first ∙ c.if-branch.true)) c.in_ok-number_type.ensures.ok
