-- Traces that close the calls that they enter, and the first call that a trace leaves open.
use Rattle.std.proofs.Common.{◌≡◌, Some, List, [], ◌∷◌, ◌++◌, refl, sym, ap, ◌∙◌, append_assoc}
use Rattle.px_base.specs.declared.trace.Site.{Site}
use Rattle.px_base.specs.declared.trace.ProcId.{ProcId}
use Rattle.px_base.specs.declared.trace.Mark.{Mark}
use Rattle.px_base.specs.declared.trace.MarkKind.TheVariants.{Enter, Leave}
use Rattle.px_text_report.specs.Calls.{open_after, open_calls, outermost, open_call}

-- the same calls are open after the marks as before them
abbrev pub IsClosed : List Mark → Type 0
IsClosed marks = (calls : List ProcId) → open_calls calls marks ≡ calls

-- these more are, and none is closed that was open before
abbrev pub Opens : List ProcId → List Mark → Type 0
Opens more marks = (calls : List ProcId) → open_calls calls marks ≡ more ++ calls

abbrev pub entering : ProcId → Site → List Mark
entering g site = record { kind = Enter g; site = site } ∷ []

abbrev pub leaving : Site → List Mark
leaving site = record { kind = Leave; site = site } ∷ []

open_append : (calls : List ProcId) (t u : List Mark) → open_calls calls (t ++ u) ≡ open_calls (open_calls calls t) u
open_append calls [] u = refl
open_append calls (m ∷ t) u = open_append (open_after calls m.kind) t u

pub nothing_closed : IsClosed []
nothing_closed calls = refl

pub closed_append : (t u : List Mark) → IsClosed t → IsClosed u → IsClosed (t ++ u)
closed_append t u c d calls = open_append calls t u ∙ ap (λ z. open_calls z u) (c calls) ∙ d calls

-- a call that is entered
enters : (calls : List ProcId) (t u : List Mark) (g : ProcId) (site : Site) → IsClosed t → open_calls calls ((t ++ entering g site) ++ u) ≡ open_calls (g ∷ calls) u
enters calls t u g site c =
    open_append calls (t ++ entering g site) u ∙ ap (λ z. open_calls z u) (open_append calls t (entering g site) ∙ ap (λ z. g ∷ z) (c calls))

-- and goes on
pub entered_opens : (more : List ProcId) (t u : List Mark) (g : ProcId) (site : Site) → IsClosed t → Opens more u → Opens (more ++ g ∷ []) ((t ++ entering g site) ++ u)
entered_opens more t u g site c o calls = enters calls t u g site c ∙ o (g ∷ calls) ∙ sym (append_assoc more (g ∷ []) calls)

-- or returns
pub left_closed : (t u : List Mark) (g : ProcId) (site back : Site) → IsClosed t → IsClosed u → IsClosed (((t ++ entering g site) ++ u) ++ leaving back)
left_closed t u g site back c d calls =
    open_append calls ((t ++ entering g site) ++ u) (leaving back) ∙ ap (λ z. open_calls z (leaving back)) (enters calls t u g site c ∙ d (g ∷ calls))

-- ---- the first that is left open

outermost_is : (more : List ProcId) (g : ProcId) → outermost (more ++ g ∷ []) ≡ Some g
outermost_is [] g = refl
outermost_is (h ∷ []) g = refl
outermost_is (h ∷ (k ∷ more)) g = outermost_is (k ∷ more) g

pub none_open : (t : List Mark) → IsClosed t → open_call t ≡ outermost []
none_open t c = ap outermost (c [])

pub first_open : (more : List ProcId) (t u : List Mark) (g : ProcId) (site : Site) → IsClosed t → Opens more u → open_call ((t ++ entering g site) ++ u) ≡ Some g
first_open more t u g site c o = ap outermost (enters [] t u g site c ∙ o (g ∷ [])) ∙ outermost_is more g
