-- Arguments, beside the entry's variables for them.
use Rattle.std.specs.Prelude.{◌&&◌, Bool, true, false, List, [], ◌∷◌}
use Rattle.px_terms.specs.declared.variables.VarInfo.{VarInfo}
use Rattle.px_terms.specs.declared.conjuncts.Content.{Content}
use Rattle.px_entry.specs.Contents.{is_written_of}

-- each argument is a word or a place of the type of the variable at its place
abbrev pub fits_infos : List VarInfo → List VarInfo → List Content → Bool
fits_infos vars infos [] = true
fits_infos vars [] (c ∷ cs) = false
fits_infos vars (i ∷ infos) (c ∷ cs) = is_written_of vars i.value c && fits_infos vars infos cs
