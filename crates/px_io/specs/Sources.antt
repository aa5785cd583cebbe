-- What a source gives.
use Rattle.std.specs.Prelude.{ℕ, List, take, Result, Ok, Err}
use Rattle.px_io.specs.declared.sink.Failed.{Failed}

-- the bytes that a read put at the front of a slice
abbrev pub bytes_of : Result ℕ Failed → List ℕ → Result (List ℕ) Failed
bytes_of (Ok n) into = Ok (take n into)
bytes_of (Err fault) into = Err fault
