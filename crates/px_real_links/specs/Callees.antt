-- Which function a call of a name goes to (C11 6.2.2).
use Rattle.std.specs.Prelude.{ℕ, ◌+◌, List, [], ◌∷◌, ◌++◌, drop, Bool, false, Option, Some, None, if◌then◌else◌}
use Rattle.px_real_links.specs.declared.fate.Fate.{Fate}
use Rattle.px_real_links.specs.declared.fate.Fate.TheVariants as F
use Rattle.px_real_links.specs.declared.callee.Callee.{Callee}
use Rattle.px_real_links.specs.declared.callee.Callee.TheVariants as C
use Rattle.px_real_links.specs.Files.{DefinitionTree, FileTree, first_named}
use Rattle.px_real_links.specs.Fates.{fate_of}

-- the function with this number in this file, by its fate: one that is left out is none
abbrev pub by_fate : ℕ → ℕ → Option Fate → Callee
by_fate file number (Some F.Kept) = C.Function file number
by_fate file number _ = C.LeftOut

-- whether the first of those from a number on is static
abbrev pub is_static_among : List DefinitionTree → Bool
is_static_among [] = false
is_static_among (d ∷ ds) = d.is_static

-- a file's own function of this name
abbrev pub own : ℕ → FileTree → Option ℕ → Option Callee
own file f (Some number) = Some (by_fate file number (fate_of f number))
own file f None = None

-- the same, where it isn't static
abbrev pub external_at : ℕ → FileTree → Option ℕ → List Callee
external_at file f (Some number) = if is_static_among (drop number f.definitions) then [] else by_fate file number (fate_of f number) ∷ []
external_at file f None = []

-- one or none, as a list
abbrev pub listed : Option Callee → List Callee
listed (Some c) = c ∷ []
listed None = []

-- the external functions of this name, the first file of these being the one with this number
abbrev pub externals : ℕ → List FileTree → List ℕ → List Callee
externals file [] name = []
externals file (f ∷ fs) name = external_at file f (first_named 0 f.definitions name) ++ externals (file + 1) fs name

-- the one of them; where two files define it, none is it
abbrev pub only_one : List Callee → Callee
only_one [] = C.Unknown
only_one (c ∷ []) = c
only_one (c ∷ d ∷ cs) = C.LeftOut

-- its own file's function, else the one external function
abbrev pub chosen : Option Callee → Callee → Callee
chosen (Some c) other = c
chosen None other = other

abbrev pub own_among : ℕ → List FileTree → List ℕ → Option Callee
own_among file [] name = None
own_among file (f ∷ fs) name = own file f (first_named 0 f.definitions name)

-- a call in the file with this number
abbrev pub callee_of : List FileTree → ℕ → List ℕ → Callee
callee_of files file name = chosen (own_among file (drop file files) name) (only_one (externals 0 files name))
