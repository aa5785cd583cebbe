-- How much there may be of what a program and a path are made of. Each of these bounds stands here alone. (Those of a
-- polynomial stand in px_terms, those of the numbers of a command line in px_words.)
use Rattle.std.specs.Prelude.{ℕ}

-- ---- a program

-- the files of one command
abbrev pub most_files : ℕ
most_files = 64

-- of a procedure
abbrev pub most_parameters : ℕ
most_parameters = 16

-- of a struct
abbrev pub most_fields : ℕ
most_fields = 64

-- of a program
abbrev pub most_procedures : ℕ
most_procedures = 1024

-- of a body, those that stand in others counted
abbrev pub most_commands : ℕ
most_commands = 2000

-- ---- a path

abbrev pub most_marks : ℕ
most_marks = 256

-- commands begun
abbrev pub most_steps : ℕ
most_steps = 4000

abbrev pub most_conjuncts : ℕ
most_conjuncts = 200

abbrev pub most_atoms : ℕ
most_atoms = 64

abbrev pub most_variables : ℕ
most_variables = 8192
