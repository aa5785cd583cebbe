-- A sample, worked by hand.
use Rattle.std.specs.Prelude.{◌≡◌, ℕ, List, [], ◌∷◌, codes}
use Rattle.px_gen.specs.Draws.{first_state, draw}
use Rattle.px_gen.specs.Samples.{line, lines, sample_text}

-- the first draws with the start 1
abbrev pub first_draws : List ℕ
first_draws = let s = first_state 1 in draw 1 s ∷ draw 2 s ∷ draw 3 s ∷ draw 4 s ∷ draw 5 s ∷ draw 6 s ∷ []

pub record WorkedSample : Type 0 where
  pub draws : first_draws ≡ 16838 ∷ 5758 ∷ 10113 ∷ 17515 ∷ 31051 ∷ 5627 ∷ []
  pub text : sample_text 1 3 ≡ lines (
      line (codes "#include <stdlib.h>")
      ∷ line (codes "void f0(int *p, int n) {")
      ∷ line (codes "  int *q = malloc(sizeof(int));")
      ∷ line (codes "  if (q == NULL) return;")
      ∷ line (codes "  free(q);")
      ∷ line (codes "  *q = 58;")
      ∷ line (codes "}")
      ∷ line (codes "void f1(int *p, int n) {")
      ∷ line (codes "  free(p);")
      ∷ line (codes "  *p = 15;")
      ∷ line (codes "}")
      ∷ line (codes "void f2(int *p, int n) {")
      ∷ line (codes "  int *q = malloc(sizeof(int));")
      ∷ line (codes "  if (q == NULL) return;")
      ∷ line (codes "  *q = 27;")
      ∷ line (codes "  free(q);")
      ∷ line (codes "}")
      ∷ [])
