-- A refusal has one word and one place.
use Rattle.std.proofs.Common.{◌≡◌, ℕ, List, [], ◌∷◌, ◌++◌, Option, Some, None, codes, refl, ap, sym, ◌∙◌}
use Rattle.std.proofs.lemmas.Option.{same_Some}
use Rattle.px_base.specs.declared.trace.Site.{Site}
use Rattle.px_lexer.specs.declared.token.Token.{Token}
use Rattle.px_expressions.specs.Reading.{or_else}
use Rattle.px_parser.specs.Refusals.{outside_word, NoneOutside, none_left, none_here, IsRefusal, first_outside, form}

abbrev Refused : Type 0
Refused = List ℕ × Site

-- the word and the place of the first token that is outside, or what stands for them where there is none
abbrev first_word : List ℕ → Option Refused → List Token → Option Refused
first_word source without [] = without
first_word source without (t ∷ ts) = or_else (outside_word source t) (λ w. Some (w, t.site)) (first_word source without ts)

abbrev form_at : List Token → Option Refused
form_at [] = None
form_at (t ∷ ts) = Some (codes "form", t.site)

passed : (source : List ℕ) (without : Option Refused) {ts : List Token} (rest : List Token) → NoneOutside source ts → first_word source without (ts ++ rest) ≡ first_word source without rest
passed source without rest (none_left h) = rw h refl
passed source without rest (none_here {t = t} {ts1 = ts1} k m parts) = rw (parts, k) (passed source without rest m)

none_at_all : (source : List ℕ) (without : Option Refused) {ts : List Token} → NoneOutside source ts → first_word source without ts ≡ without
none_at_all source without (none_left h) = rw h refl
none_at_all source without (none_here {t = t} {ts1 = ts1} k m parts) = rw (parts, k) (none_at_all source without m)

abbrev refused : List ℕ → Site → Option Refused
refused word place = Some (word, place)

refusal_is : (source : List ℕ) (ts : List Token) (word : List ℕ) (place : Site) → IsRefusal source ts word place → first_word source (form_at ts) ts ≡ refused word place
refusal_is source ts word place (first_outside before t behind m k parts e) =
    let here : first_word source (form_at ts) (t ∷ behind) ≡ refused word t.site = rw k refl in
    ap (first_word source (form_at ts)) parts ∙ passed source (form_at ts) (t ∷ behind) m ∙ here ∙ ap (refused word) (sym e)
refusal_is source ts word place (form {t = t} {ts1 = ts1} m parts h e) =
    none_at_all source (form_at ts) m ∙ ap form_at parts ∙ ap (λ z. refused z t.site) (sym h) ∙ ap (refused word) (sym e)

pub one_refusal : (source : List ℕ) (ts : List Token) (word word2 : List ℕ) (place place2 : Site) → IsRefusal source ts word place → IsRefusal source ts word2 place2 → (word ≡ word2) × (place ≡ place2)
one_refusal source ts word word2 place place2 g h =
    let a : Refused = (word, place) in
    let b : Refused = (word2, place2) in
    let e : a ≡ b = same_Some a b (sym (refusal_is source ts word place g) ∙ refusal_is source ts word2 place2 h) in
    (ap (λ (z : Refused). z.0) e, ap (λ (z : Refused). z.1) e)
