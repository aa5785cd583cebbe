-- The words of a program, and the arguments that a system gave.
use Rattle.std.specs.Prelude.{◌≡◌, drop, Result, Ok, Err, String, Vec}
use Rattle.std.specs.Vec.Iter.{into_iter_items}
use Rattle.std.specs.IoError.{error_kind}
use Rattle.std.specs.declared.alloc.Global.{Global}
use Rattle.std.specs.declared.vec.IntoIter.{IntoIter}
use Rattle.std.specs.declared.io.Error.{Error}
use Rattle.std.specs.declared.io.ErrorKind.{ErrorKind}
use Rattle.std.specs.declared.io.ErrorKind.TheVariants.{InvalidData}
use Rattle.px_io.specs.declared.system_words.WordsFault.{WordsFault}
use Rattle.px_io.specs.declared.system_words.WordsFault.TheVariants.{NotText, NoMemory}

-- an error of this kind says that a word is no text; every other, that memory was missing
abbrev pub fault_of : ErrorKind → WordsFault
fault_of InvalidData = NotText
fault_of _ = NoMemory

-- the arguments after the first, unless they weren't given, or no memory was left to list them
abbrev pub AreWords : Result (IntoIter (String Global) Global) Error → Result (Vec (String Global) Global) WordsFault → Type 0
AreWords (Ok given) (Ok words) = words.items ≡ drop 1 (into_iter_items given)
AreWords (Ok given) (Err fault) = fault ≡ NoMemory
AreWords (Err error) words = words ≡ Err (fault_of (error_kind error))
