-- Cutting token by token.
use Rattle.px_cutting.specs.declared.cutting.Step.{Step}
use Rattle.px_cutting.specs.declared.cutting.Step.TheVariants as St
use Rattle.px_cutting.specs.declared.cutting.Scanner.{Scanner}
use Rattle.px_cutting.specs.declared.cutting.Cut.{Cut}
use Rattle.px_cutting.specs.declared.cutting.Cut.TheVariants as C
use Rattle.std.specs.Prelude.{◌<◌, ◌≤◌, length, drop, List, [], ◌∷◌, Bool, true, false, if◌then◌else◌}
use denote.Enum.Bare.{sameb}
use Rattle.px_cutting.specs.contracts.roles.Pair.{the_type}
use Rattle.px_base.specs.declared.trace.Site.{Site}
use Rattle.px_lexer.specs.declared.token.Token.{Token}
use Rattle.px_cutting.specs.declared.roles.Pair.{Pair}
use Rattle.px_cutting.specs.declared.roles.Role.{Role}
use Rattle.px_cutting.specs.declared.roles.Role.TheVariants.{Opens, Closes, Semicolon, Directive, Other}
use Rattle.px_cutting.specs.Roles.{is_parentheses, opens_body}
use Rattle.px_cutting.specs.Cutting.{role, Outcome, ends, stops, runs_out}

-- a bracket that is open, with its site
abbrev pub Bracket : Type 0
Bracket = Pair × Site

abbrev pub same_pair : Pair → Pair → Bool
same_pair = sameb the_type

-- where the tokens end, by the brackets that are open, the last first
abbrev pub unclosed : List Bracket → Outcome
unclosed [] = runs_out
unclosed (o ∷ os) = stops o.1

-- after the bracket that closed the pair b, with these still open and these tokens left
abbrev pub closed : Pair → List Bracket → Bool → List Token → (List Bracket → Bool → Bool → Outcome) → Outcome
closed b [] true ts next = ends ts
closed b [] false ts next = next [] false (is_parentheses b)
closed b (o ∷ os) body ts next = next (o ∷ os) body false

-- a token of this role at this site, with the tokens after it and how these go on
abbrev pub turn : Role → Site → List Bracket → Bool → Bool → List Token → (List Bracket → Bool → Bool → Outcome) → Outcome
turn (Opens b) s [] body after ts next = next ((b, s) ∷ []) (opens_body b after) false
turn (Opens b) s (o ∷ os) body after ts next = next ((b, s) ∷ o ∷ os) body false
turn (Closes b) s [] body after ts next = stops s
turn (Closes b) s (o ∷ os) body after ts next = if same_pair o.0 b then closed b os body ts next else stops s
turn Semicolon s [] body after ts next = ends ts
turn Semicolon s (o ∷ os) body after ts next = next (o ∷ os) body false
turn Directive s os body after ts next = next os body false
turn Other s os body after ts next = next os body false

-- with these brackets open, where `body` says whether the first of them holds a function's body,
-- and `after` whether a `)` that closed the last stands directly before
abbrev pub scan : List Bracket → Bool → Bool → List Token → Outcome
scan os body after [] = unclosed os
scan os body after (t ∷ ts) = turn (role t) t.site os body after ts (λ os1 body1 after1. scan os1 body1 after1 ts)

-- what one token does: the scan goes on, or there is its outcome
abbrev pub after_step : Step → Scanner → List Token → Outcome
after_step St.GoesOn s ts = scan s.open s.body s.after ts
after_step St.Ends s ts = ends ts
after_step (St.Stops place) s ts = stops place

-- the outcome that a number of tokens of an item stands for
abbrev pub cut_outcome : List Token → Cut → Outcome
cut_outcome ts (C.Ends n) = ends (drop n ts)
cut_outcome ts (C.Stops place) = stops place
cut_outcome ts C.RunsOut = runs_out

-- the number is that of tokens
abbrev pub FitsIn : List Token → Cut → Type 0
FitsIn ts (C.Ends n) = (0 < n) × (n ≤ length ts)
FitsIn ts _ = Unit {0}
