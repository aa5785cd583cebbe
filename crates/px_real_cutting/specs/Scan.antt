-- Cutting token by token.
use Rattle.std.specs.Prelude.{ℕ, ◌<◌, ◌≤◌, length, map, drop, List, [], ◌∷◌, Bool, true, false, ◌||◌, ◌&&◌, Option, Some, None, if◌then◌else◌}
use denote.Enum.Bare.{sameb}
use Rattle.px_real_cutting.specs.contracts.roles.Pair.{the_type}
use Rattle.px_base.specs.declared.trace.Site.{Site}
use Rattle.px_real_tokens.specs.declared.token.Token.{Token}
use Rattle.px_real_cutting.specs.declared.roles.Pair.{Pair}
use Rattle.px_real_cutting.specs.declared.roles.Role.{Role}
use Rattle.px_real_cutting.specs.declared.roles.Role.TheVariants as R
use Rattle.px_real_cutting.specs.declared.roles.Mark.{Mark}
use Rattle.px_real_cutting.specs.declared.roles.Before.{Before}
use Rattle.px_real_cutting.specs.declared.roles.Ending.{Ending}
use Rattle.px_real_cutting.specs.declared.scanner.Step.{Step}
use Rattle.px_real_cutting.specs.declared.scanner.Step.TheVariants as St
use Rattle.px_real_cutting.specs.declared.scanner.Scanner.{Scanner}
use Rattle.px_real_cutting.specs.declared.scanner.Cut.{Cut}
use Rattle.px_real_cutting.specs.declared.scanner.Cut.TheVariants as C
use Rattle.px_real_cutting.specs.Roles.{as_mark, opens, before_group, before_token, is_parameters, is_name, before_semicolon}
use Rattle.px_real_cutting.specs.Pieces.{Outcome, ends, stops, runs_out}

-- a bracket that is open, with its site
abbrev pub Bracket : Type 0
Bracket = Pair × Site

abbrev pub same_pair : Pair → Pair → Bool
same_pair = sameb the_type

-- whether a list of brackets is empty
abbrev pub none_open : {A : Type 0} → List A → Bool
none_open [] = true
none_open (o ∷ os) = false

-- how the scan goes on with the tokens after this one
abbrev pub Next : Type 0
Next = List Bracket → Before → Bool → Outcome

-- where the tokens end, by the brackets that are open, the last first
abbrev pub unclosed : List Bracket → Outcome
unclosed [] = runs_out
unclosed (o ∷ os) = stops o.1

-- after the bracket that closed the last pair open, by how a piece would end there
abbrev pub closed_last : Option Ending → Pair → Before → Bool → List Mark → Next → Outcome
closed_last (Some e) b before head ts next = ends e ts
closed_last None b before head ts next = next [] (before_group b before) head

-- after the bracket that closed the pair b, with these still open and these tokens left
abbrev pub closed : Pair → List Bracket → Before → Bool → List Mark → Next → Outcome
closed b [] before head ts next = closed_last (opens b before) b before head ts next
closed b (o ∷ os) before head ts next = next (o ∷ os) before head

-- a token of this role at this site, with the tokens after it and how these go on
abbrev pub turn : Role → Site → List Bracket → Before → Bool → List Mark → Next → Outcome
turn (R.Opens b) s os before head ts next = next ((b, s) ∷ os) before head
turn (R.Closes b) s [] before head ts next = stops s
turn (R.Closes b) s (o ∷ os) before head ts next = if same_pair o.0 b then closed b os before head ts next else stops s
turn R.Semicolon s [] before head ts next = ends (before_semicolon head) ts
turn R.Semicolon s (o ∷ os) before head ts next = next (o ∷ os) before head
turn R.Name s [] before head ts next = next [] (before_token R.Name) (head || (is_parameters before && is_name R.Name))
turn R.Name s (o ∷ os) before head ts next = next (o ∷ os) before head
turn R.Other s [] before head ts next = next [] (before_token R.Other) (head || (is_parameters before && is_name R.Other))
turn R.Other s (o ∷ os) before head ts next = next (o ∷ os) before head

-- with these brackets open, after what stands directly before the first of them, where a name stood directly after parameters or didn't
abbrev pub scan : List Bracket → Before → Bool → List Mark → Outcome
scan os before head [] = unclosed os
scan os before head (t ∷ ts) = turn t.role t.site os before head ts (λ os1 before1 head1. scan os1 before1 head1 ts)

-- what one token does: the scan goes on, or there is its outcome
abbrev pub after_step : Step → Scanner → List Mark → Outcome
after_step St.GoesOn s ts = scan s.open s.before s.head ts
after_step (St.Ends e) s ts = ends e ts
after_step (St.Stops place) s ts = stops place

-- the outcome that a number of tokens of a piece stands for
abbrev pub cut_outcome : List ℕ → List Token → Cut → Outcome
cut_outcome source ts (C.Ends e n) = ends e (map (as_mark source) (drop n ts))
cut_outcome source ts (C.Stops place) = stops place
cut_outcome source ts C.RunsOut = runs_out

-- the number is that of tokens
abbrev pub FitsIn : List Token → Cut → Type 0
FitsIn ts (C.Ends e n) = (0 < n) × (n ≤ length ts)
FitsIn ts _ = Unit {0}
