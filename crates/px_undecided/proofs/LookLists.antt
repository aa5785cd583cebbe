-- Looks at one undecided drop after another.
use Rattle.std.proofs.Common.{◌≡◌, ℕ, ◌+◌, ◌<◌, List, [], ◌∷◌, ◌++◌, length, get_or, take, sym, ap, subst, subst₂, ◌∙◌, append-nil}
use Rattle.std.proofs.lemmas.List.{take_more}
use Rattle.std.proofs.lemmas.List.Concat.{flat_map-append}
use Rattle.px_terms.specs.declared.conjuncts.Conj.{Conj}
use Rattle.px_entry.specs.declared.tables.Gap.{Gap}
use Rattle.px_bits.specs.declared.looks.Look.{Look}
use Rattle.px_undecided.specs.Counting.{undecided_by, undecided_in, AreLooks}

looks_append : (conflicts : ℕ) (before after : List (List Conj)) (xs ys : List Look) → AreLooks conflicts before xs → AreLooks conflicts after ys → AreLooks conflicts (before ++ after) (xs ++ ys)
looks_append conflicts [] after xs ys e h = subst (λ zs. AreLooks conflicts after (zs ++ ys)) (sym e) h
looks_append conflicts (hard ∷ before) after xs ys (l, ls, e, one, rest) h = (l, ls ++ ys, ap (λ zs. zs ++ ys) e, one, looks_append conflicts before after ls ys rest h)

undecided_more : (drops : List Gap) (i : ℕ) (g : Gap) → i < length drops → g ≡ get_or drops i g → undecided_in (take (i + 1) drops) ≡ undecided_in (take i drops) ++ undecided_by g.cause
undecided_more drops i g l is =
    ap undecided_in (take_more drops i g l)
    ∙ flat_map-append (λ (g : Gap). undecided_by g.cause) (take i drops) (get_or drops i g ∷ [])
    ∙ ap (λ (h : Gap). undecided_in (take i drops) ++ (undecided_by h.cause ++ [])) (sym is)
    ∙ ap (λ zs. undecided_in (take i drops) ++ zs) (append-nil (undecided_by g.cause))

-- a look at one drop more
pub looks_next : (conflicts : ℕ) (drops : List Gap) (i : ℕ) (g : Gap) (looks more new : List Look) → i < length drops → g ≡ get_or drops i g
    → AreLooks conflicts (undecided_in (take i drops)) looks → new ≡ looks ++ more → AreLooks conflicts (undecided_by g.cause) more
    → AreLooks conflicts (undecided_in (take (i + 1) drops)) new
looks_next conflicts drops i g looks more new l is before e h =
    subst₂ (AreLooks conflicts) (sym (undecided_more drops i g l is)) (sym e) (looks_append conflicts (undecided_in (take i drops)) (undecided_by g.cause) looks more before h)
