-- The files say one program.
use Rattle.std.proofs.Common.{◌≡◌, ◌≤◌, ℕ, ◌+◌, List, [], ◌∷◌, refl, sym, ap, ap₂, ◌∙◌}
use Rattle.px_base.specs.Bounds.{most_procedures}
use Rattle.px_syntax.specs.ParsedTree.{FileTree}
use Rattle.px_syntax.specs.ProgramTree.{ProgramTree}
use Rattle.px_reading.proofs.OneReading.{determined}
use Rattle.px_typing.specs.Programs.{program_of}
use Rattle.px_loading.specs.Inputs.{AreFilesOf, SaysOnly}

pub files_same : (n : ℕ) (names sources : List (List ℕ)) (f g : List FileTree) → AreFilesOf n names sources f → AreFilesOf n names sources g → f ≡ g
files_same n [] [] [] [] h k = refl
files_same n [] [] [] (y ∷ g) h k = absurd k
files_same n [] [] (x ∷ f) g h k = absurd h
files_same n [] (s ∷ sources) f g h k = absurd h
files_same n (m ∷ names) [] f g h k = absurd h
files_same n (m ∷ names) (s ∷ sources) [] g h k = absurd h
files_same n (m ∷ names) (s ∷ sources) (x ∷ f) [] h k = absurd k
files_same n (m ∷ names) (s ∷ sources) (x ∷ f) (y ∷ g) h k = ap₂ (λ u v. u ∷ v) (determined.one_file n m s x y h.0 k.0) (files_same (n + 1) names sources f g h.1 k.1)

pub says_only : (names sources : List (List ℕ)) (files : List FileTree) (P : ProgramTree) → AreFilesOf 0 names sources files → P ≡ program_of files → P.kept ≤ most_procedures → SaysOnly names sources P
says_only names sources files P h e few = ((files, h, e, few), λ Q r. r.2 ∙ ap program_of (files_same 0 names sources r.0 files r.1 h) ∙ sym e)
