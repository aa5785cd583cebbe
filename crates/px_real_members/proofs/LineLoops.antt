-- What the loop over declarations with semicolons keeps, turn by turn.
use Rattle.std.proofs.Common.{◌≡◌, ℕ, suc, ◌-◌, ◌+◌, ◌<◌, Bool, List, [], ◌∷◌, ◌++◌, length, map, option_map, Option, Some, None, Ok, Err, refl, sym, ap, ◌∙◌, append_assoc, arith}
use Rattle.std.proofs.lemmas.List.{append-nil, map_push}
use Rattle.px_real_expressions.specs.Lexemes.{Lexeme}
use Rattle.px_real_expressions.specs.Stops.{Read, ◌>>=◌}
use Rattle.px_real_expressions.specs.Reading.{Reader}
use Rattle.px_real_symbols.specs.declared.fault.Fault.{Fault}
use Rattle.px_real_symbols.specs.Answers.{IsFaultOf}
use Rattle.px_real_symbols.proofs.AnswerLemmas.{passes_on}
use Rattle.px_real_blocks.proofs.Loops.{after_all, after_last}
use Rattle.px_real_declarations.specs.DeclarationTree.{DeclarationTree}
use Rattle.px_real_declarations.specs.HeldReading.{line_at, as_list, lines_from}

after_some : {A : Type 0} (before more : List A) (r : Read (List A)) → after_all (before ++ more) r ≡ after_all before (r >>= λ y. Ok (more ++ y.0, y.1))
after_some before more (Ok x) = ap (λ z. Ok (z, x.1)) (append_assoc before more x.0)
after_some before more (Err s) = refl

module _ (alone : Bool) (r : Reader DeclarationTree) where
  pub lines_end : (limit i : ℕ) (before : List DeclarationTree) (rest : List Lexeme) (total : Read (List DeclarationTree)) → i < limit → rest ≡ [] → after_all before (lines_from (limit - i) alone r rest) ≡ total → total ≡ Ok (before, rest)
  unfolding lines_from
  lines_end limit i before rest total lt h so_far =
      let s : limit - i ≡ suc (limit - (i + 1)) = omega arith in
      sym so_far ∙ rw (s, h) (after_last before [])

  line_first : (n : ℕ) (rest : List Lexeme) → 0 < length rest → lines_from (suc n) alone r rest ≡ (line_at alone r rest >>= λ d. lines_from n alone r d.1 >>= λ y. Ok (as_list d.0 ++ y.0, y.1))
  unfolding lines_from
  line_first n [] lt = absurd (omega arith)
  line_first n (t ∷ ts) lt = refl

  pub lines_next : (limit i : ℕ) (before : List DeclarationTree) (rest us : List Lexeme) (o : Option DeclarationTree) (total : Read (List DeclarationTree)) → i < limit → 0 < length rest → line_at alone r rest ≡ Ok (o, us) →
      after_all before (lines_from (limit - i) alone r rest) ≡ total → after_all (before ++ as_list o) (lines_from (limit - (i + 1)) alone r us) ≡ total
  lines_next limit i before rest us o total lt some h so_far =
      let s : limit - i ≡ suc (limit - (i + 1)) = omega arith in
      let one : lines_from (limit - i) alone r rest ≡ (lines_from (limit - (i + 1)) alone r us >>= λ y. Ok (as_list o ++ y.0, y.1)) = ap (λ z. lines_from z alone r rest) s ∙ line_first (limit - (i + 1)) rest some ∙ rw h refl in
      after_some before (as_list o) (lines_from (limit - (i + 1)) alone r us) ∙ ap (after_all before) (sym one) ∙ so_far

  pub lines_err : (f : Fault) (all : List Lexeme) (limit i : ℕ) (before : List DeclarationTree) (rest : List Lexeme) (total : Read (List DeclarationTree)) → i < limit → 0 < length rest → IsFaultOf all f (line_at alone r rest) →
      after_all before (lines_from (limit - i) alone r rest) ≡ total → IsFaultOf all f total
  lines_err f all limit i before rest total lt some h so_far =
      let s : limit - i ≡ suc (limit - (i + 1)) = omega arith in
      let one : lines_from (limit - i) alone r rest ≡ (line_at alone r rest >>= λ d. lines_from (limit - (i + 1)) alone r d.1 >>= λ y. Ok (as_list d.0 ++ y.0, y.1)) = ap (λ z. lines_from z alone r rest) s ∙ line_first (limit - (i + 1)) rest some in
      passes_on f all (line_at alone r rest) total (λ st g. sym so_far ∙ rw (one, g) refl) h

  pub lines_full : (n : ℕ) (before : List DeclarationTree) (rest : List Lexeme) (total : Read (List DeclarationTree)) → n ≡ 0 → after_all before (lines_from n alone r rest) ≡ total → total ≡ Ok (before, rest)
  unfolding lines_from
  lines_full n before rest total h so_far = sym so_far ∙ rw h (after_last before rest)

-- one more, as the tree of one
pub map_line : {A B : Type 0} (f : A → B) (before after : List A) (o : Option A) → after ≡ before ++ as_list o → map f after ≡ map f before ++ as_list (option_map f o)
map_line f before after (Some x) h = ap (map f) h ∙ map_push f before x
map_line f before after None h = ap (map f) (h ∙ append-nil before) ∙ sym (append-nil (map f before))
