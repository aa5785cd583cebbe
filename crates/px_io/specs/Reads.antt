-- Files that are read one after another.
use Rattle.std.specs.Prelude.{◌≡◌, ℕ, List, [], ◌∷◌, Result, Ok, Err, Vec}
use Rattle.std.specs.declared.alloc.Global.{Global}
use Rattle.px_io.specs.declared.files.FileFault.{FileFault}

-- what a read gives: the contents, or why there are none
abbrev pub Given : Type 0
Given = Result (List ℕ) FileFault

abbrev pub given_of : Result (Vec ℕ Global) FileFault → Given
given_of (Ok bytes) = Ok bytes.items
given_of (Err fault) = Err fault

module _ {S : Type 0} (gives : S → List ℕ → Given → S → Type 0) where
  -- The record of reads: from this object to that one the first of these paths were read, in order, each once,
  -- and gave these; after a read without contents there was no other.
  abbrev pub Reads : S → List (List ℕ) → List Given → S → Type 0
  Reads s paths [] t = t ≡ s
  Reads s [] (g ∷ gs) t = ⊥
  Reads s (path ∷ paths) (Ok contents ∷ gs) t = (m : S) × gives s path (Ok contents) m × Reads m paths gs t
  Reads s (path ∷ paths) (Err fault ∷ gs) t = gives s path (Err fault) t × (gs ≡ [])
