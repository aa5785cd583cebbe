-- What a function answers, and what reading gives.
use Rattle.std.proofs.Common.{◌≡◌, List, drop, Result, Err, sym, ap, subst, ◌∙◌}
use Rattle.px_real_expressions.specs.Lexemes.{Lexeme}
use Rattle.px_real_expressions.specs.Stops.{Stop, wrong, deep}
use Rattle.px_real_symbols.specs.declared.fault.Fault.{Fault}
use Rattle.px_real_symbols.specs.declared.fault.Fault.TheVariants.{NoMemory, Wrong, Deep}
use Rattle.px_real_symbols.specs.Answers.{IsStop, IsFaultOf, Gives}

-- a fault is handed on where the same stop is
pub passes_on : {A B : Type 0} (e : Fault) (all : List Lexeme) (r : Result A Stop) (s : Result B Stop) → ((st : Stop) → r ≡ Err st → s ≡ Err st) → IsFaultOf all e r → IsFaultOf all e s
passes_on NoMemory all r s f h = tt
passes_on (Wrong at) all r s f h = f (wrong (drop at all)) h
passes_on (Deep at) all r s f h = f (deep (drop at all)) h

-- what reading gives is what equal reading gives
pub gives_same : {X Y : Type 0} (all : List Lexeme) (view : X → Y) (result : Result X Fault) (r s : Result Y Stop) → r ≡ s → Gives all view result s → Gives all view result r
gives_same all view result r s e h = subst (Gives all view result) (sym e) h

-- a fault is that of reading which stops so
pub stops_so : {Y : Type 0} (e : Fault) (all : List Lexeme) (s : Stop) (r : Result Y Stop) → r ≡ Err s → IsStop all e s → IsFaultOf all e r
stops_so NoMemory all s r h g = tt
stops_so (Wrong at) all s r h g = h ∙ ap (λ z. Err z) g
stops_so (Deep at) all s r h g = h ∙ ap (λ z. Err z) g
