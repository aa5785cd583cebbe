-- What is known of a call that may lack memory.
use Rattle.std.specs.Prelude.{Result, Ok, Err, OnOk}

-- what holds anyway holds where it succeeds
pub ok_any : {T E : Type 0} (r : Result T E) {A : Type 0} → A → OnOk r A
ok_any (Ok x) a = a
ok_any (Err e) a = tt
