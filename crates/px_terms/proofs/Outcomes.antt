-- What holds of an outcome whatever it is.
use Rattle.std.specs.Prelude.{Result, Ok, Err, OnErr}

pub err_any : {T E : Type 0} (r : Result T E) {A : Type 0} → A → OnErr r A
err_any (Ok x) a = tt
err_any (Err e) a = a
