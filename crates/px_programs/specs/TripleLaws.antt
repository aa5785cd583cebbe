-- Valid triples of the program that files say: over the calls of its lowered bodies, and of its trees.
use Rattle.std.specs.Prelude.{◌↔◌, ℕ, List}
use Rattle.px_syntax.specs.ParsedTree.{FileTree}
use Rattle.px_entry.specs.declared.entries.Entry.{Entry}
use Rattle.px_typing.specs.Programs.{program_of}
use Rattle.px_meaning.specs.CoreCalls.{CoreCalls}
use Rattle.px_meaning.specs.TreeCalls.{TreeCalls}
use Rattle.px_meaning.specs.TypedProgram.{typed_program}
use Rattle.px_meaning.specs.Triples.{IsValid}
use Rattle.px_programs.specs.BodyLaws.{bodies_of_files}

-- an entry is a valid triple over the one exactly where it is one over the other
abbrev pub TriplesAreOfTrees : Type 0
TriplesAreOfTrees =
    (files : List FileTree) (f parameters : ℕ) (x : Entry) →
    IsValid (TreeCalls (typed_program (program_of files)) f) parameters x ↔ IsValid (CoreCalls (bodies_of_files files) f) parameters x
