-- Texts, as the bytes that spell them.
use Rattle.std.specs.Prelude.{ℕ, List, map, String}
use Rattle.std.specs.String.{string_bytes}
use Rattle.std.specs.declared.alloc.Global.{Global}

abbrev pub Text : Type 0
Text = List ℕ

-- the bytes of words
abbrev pub texts : List (String Global) → List Text
texts = map string_bytes
