-- The text of a sample.
use Rattle.std.specs.Prelude.{ℕ, zero, suc, List, [], ◌∷◌, ◌++◌, codes}
use Rattle.std.specs.Fmt.{decimal}
use Rattle.px_gen.specs.declared.kind.Kind.{Kind}
use Rattle.px_gen.specs.declared.kind.Kind.TheVariants.{Unchecked, Checked, WritesFreed, WritesGiven, FreesGiven, Calls}
use Rattle.px_gen.specs.Procedures.{kind, constant, state_before}

-- ---- lines, each with the line feed that ends it

abbrev pub line : List ℕ → List ℕ
line text = text ++ 10 ∷ []

-- with a number in it
abbrev pub numbered : List ℕ → ℕ → List ℕ → List ℕ
numbered before n after = line (before ++ (decimal n ++ after))

abbrev pub lines : List (List ℕ) → List ℕ
lines [] = []
lines (l ∷ rest) = l ++ lines rest

-- a new block, which may be null
abbrev pub allocation : List ℕ
allocation = line (codes "  int *q = malloc(sizeof(int));")

-- null goes no further
abbrev pub check : List ℕ
check = line (codes "  if (q == NULL) return;")

abbrev pub store : ℕ → List ℕ
store c = numbered (codes "  *q = ") c (codes ";")

-- the block that was given is freed, and written to
abbrev pub release_given : List ℕ
release_given = line (codes "  free(p);")

abbrev pub store_given : ℕ → List ℕ
store_given c = numbered (codes "  *p = ") c (codes ";")

abbrev pub release : List ℕ
release = line (codes "  free(q);")

abbrev pub call : ℕ → ℕ → List ℕ
call callee c = numbered (codes "  f") callee (codes "(q, " ++ (decimal c ++ codes ");"))

-- ---- procedures

-- the lines of a body, with a constant
abbrev pub body_lines : Kind → ℕ → List (List ℕ)
body_lines Unchecked c = allocation ∷ store c ∷ release ∷ []
body_lines Checked c = allocation ∷ check ∷ store c ∷ release ∷ []
body_lines WritesFreed c = allocation ∷ check ∷ release ∷ store c ∷ []
body_lines WritesGiven c = release_given ∷ store_given c ∷ []
body_lines FreesGiven c = numbered (codes "  if (n == ") c (codes ") free(p);") ∷ []
body_lines (Calls callee) c = allocation ∷ check ∷ store c ∷ call callee c ∷ release ∷ []

-- procedure i of a kind and with a constant
abbrev pub procedure_text : ℕ → Kind → ℕ → List ℕ
procedure_text i k c = numbered (codes "void f") i (codes "(int *p, int n) {") ++ (lines (body_lines k c) ++ line (codes "}"))

-- procedure i, as it is drawn from a state
abbrev pub procedure : ℕ → ℕ → List ℕ
procedure i s = procedure_text i (kind i s) (constant s)

-- the first n procedures of the sample with a start
abbrev pub first_procedures : ℕ → ℕ → List ℕ
first_procedures start zero = []
first_procedures start (suc n) = first_procedures start n ++ procedure n (state_before start n)

-- ---- the whole

abbrev pub sample_text : ℕ → ℕ → List ℕ
sample_text start n = line (codes "#include <stdlib.h>") ++ first_procedures start n
