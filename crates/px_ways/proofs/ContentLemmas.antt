-- What operators make of contents, by their kinds; loops and lists.
use Rattle.std.proofs.Common.{◌≡◌, ◌↔◌, ◌&&◌, not, ℕ, Bool, true, false, List, [], ◌∷◌, Option, Some, None, is_some, refl, ap, sym}
pub use Rattle.std.proofs.lemmas.List.Folds.{list_all-map as all_images}
use Rattle.px_base.specs.declared.trace.Site.{Site}
use Rattle.px_terms.specs.Polynomials.{Polynomial}
use Rattle.px_terms.specs.declared.conjuncts.Content.{Content}
use Rattle.px_terms.specs.declared.conjuncts.Content.TheVariants.{Unwritten, Word, Place, Cell}
use Rattle.px_terms.specs.declared.variables.VarInfo.{VarInfo}
use Rattle.px_terms.specs.declared.conjuncts.Conj.{Conj}
use Rattle.px_entry.specs.Sorts.{is_some_and}
use Rattle.px_entry.specs.Decided.{is_open}
use Rattle.px_callgraph.specs.declared.states.Way.{Way}
use Rattle.px_callgraph.specs.Accesses.{listed_if}
use Rattle.px_callgraph.specs.Operations.{of_words}
use Rattle.px_callgraph.specs.Commands.{last_loop, open_if}
use Rattle.px_ways.specs.Ways.{is_word}

pub words_make : (f : Polynomial → Polynomial → Content) (a b : Content) → is_some (of_words f a b) ≡ (is_word a && is_word b)
words_make f (Word p) (Word q) = refl
words_make f (Word p) Unwritten = refl
words_make f (Word p) (Place b) = refl
words_make f (Word p) (Cell y) = refl
words_make f Unwritten b = refl
words_make f (Place a) b = refl
words_make f (Cell x) b = refl

-- what a test assumes is listed where it may be assumed
pub listed_open : (vars : List VarInfo) (o : Option Conj) (w : Way) → listed_if (is_some_and o (is_open vars)) w ≡ open_if vars o w
listed_open vars None w = refl
listed_open vars (Some c) w = refl

-- whether there is a last loop is whether there is one
last_is_some : (l : Site × ℕ) (rest : List (Site × ℕ)) → is_some (last_loop (l ∷ rest)) ≡ true
last_is_some l [] = refl
last_is_some l (m ∷ rest) = last_is_some m rest

pub loop_or_none : (empty : Bool) (ls : List (Site × ℕ)) → empty ≡ true ↔ ls ≡ [] → not empty ≡ is_some (last_loop ls)
loop_or_none true ls h = ap (λ z. is_some (last_loop z)) (sym (h.0 refl))
loop_or_none false [] h = sym (h.1 refl)
loop_or_none false (l ∷ rest) h = sym (last_is_some l rest)
