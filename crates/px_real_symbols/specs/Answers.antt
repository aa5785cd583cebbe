-- What a function of the code answers is what reading gives, unless memory ran out.
use Rattle.std.specs.Prelude.{◌≡◌, List, drop, Result, Ok, Err}
use Rattle.px_real_expressions.specs.Lexemes.{Lexeme}
use Rattle.px_real_expressions.specs.Stops.{Stop, wrong, deep}
use Rattle.px_real_symbols.specs.declared.fault.Fault.{Fault}
use Rattle.px_real_symbols.specs.declared.fault.Fault.TheVariants.{NoMemory, Wrong, Deep}

-- a fault at a number of a lexeme is this stop
abbrev pub IsStop : List Lexeme → Fault → Stop → Type 0
IsStop all NoMemory s = Unit {0}
IsStop all (Wrong at) s = s ≡ wrong (drop at all)
IsStop all (Deep at) s = s ≡ deep (drop at all)

-- a fault at a number of a lexeme is a stop at the lexemes from there on
abbrev pub IsFaultOf : {Y : Type 0} → List Lexeme → Fault → Result Y Stop → Type 0
IsFaultOf all NoMemory read = Unit {0}
IsFaultOf all (Wrong at) read = read ≡ Err (wrong (drop at all))
IsFaultOf all (Deep at) read = read ≡ Err (deep (drop at all))

abbrev pub Gives : {X Y : Type 0} → List Lexeme → (X → Y) → Result X Fault → Result Y Stop → Type 0
Gives all view (Ok x) read = read ≡ Ok (view x)
Gives all view (Err e) read = IsFaultOf all e read
