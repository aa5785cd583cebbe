-- Facts of one result, put together.
use Rattle.std.proofs.Common.{Result, Ok, Err}
use Rattle.std.specs.Result.{OnOk}

pub all_ok : {T E P Q R W : Type 0} (r : Result T E) → (P → Q → R → W) → OnOk r P → OnOk r Q → OnOk r R → OnOk r W
all_ok (Ok x) f p q s = f p q s
all_ok (Err e) f p q s = tt
