-- What a stack is made of, part by part.
use Rattle.std.proofs.Common.{◌≡◌, List, ap, ◌∙◌}
use Rattle.std.specs.Prelude.{Bool}
use Rattle.px_terms.specs.declared.variables.VarInfo.{VarInfo}
use Rattle.px_plain.specs.declared.nodes.Difference.{Difference}
use Rattle.px_plain.specs.declared.trees.Tree.{Tree}
use Rattle.px_plain.specs.declared.claims.Mark.{Mark}
use Rattle.px_plain.specs.declared.claims.Step.{Step}
use Rattle.px_plain.specs.Steps.{Content}

-- equal parts make equal wholes
pub same_content : (c e : Content) → c.vars ≡ e.vars → c.words ≡ e.words → c.places ≡ e.places → c.marks ≡ e.marks → c.owners ≡ e.owners →
    c.unequal_words ≡ e.unequal_words → c.unequal_places ≡ e.unequal_places → c.steps ≡ e.steps → c ≡ e
same_content c e p q r s t u v w =
    ap (λ (z : List VarInfo). record c { vars = z }) p
    ∙ ap (λ (z : List Tree). record c { vars = e.vars; words = z }) q
    ∙ ap (λ (z : List Tree). record c { vars = e.vars; words = e.words; places = z }) r
    ∙ ap (λ (z : List Mark). record c { vars = e.vars; words = e.words; places = e.places; marks = z }) s
    ∙ ap (λ (z : List Bool). record c { vars = e.vars; words = e.words; places = e.places; marks = e.marks; owners = z }) t
    ∙ ap (λ (z : List Difference). record c { vars = e.vars; words = e.words; places = e.places; marks = e.marks; owners = e.owners; unequal_words = z }) u
    ∙ ap (λ (z : List Difference). record e { unequal_places = z; steps = c.steps }) v
    ∙ ap (λ (z : List Step). record e { steps = z }) w
