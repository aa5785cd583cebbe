-- What the loop over the pieces keeps.
use Rattle.std.proofs.Common.{◌≡◌, ◌==◌, ℕ, ◌+◌, ◌≤◌, Bool, true, false, List, [], ◌++◌, length, take, drop, Some, None, Result, Ok, Err, refl, sym, ap, subst, ◌∙◌, append_assoc, append-nil, arith}
use Rattle.std.proofs.Math.Seq.{take-add}
use Rattle.std.proofs.lemmas.Bool.{eqb-true, eqb-false}
use Rattle.std.proofs.lemmas.List.{drop-drop, length-take-le, length-drop, nil_from_length}
use Rattle.px_lexer.specs.Tokens.{site_of}
use Rattle.px_real_tokens.specs.declared.token.Token.{Token}
use Rattle.px_real_tokens.specs.declared.token.LexFault.{LexFault}
use Rattle.px_real_tokens.specs.declared.token.LexFault.TheVariants as F
use Rattle.px_real_tokens.specs.declared.piece.Piece.{Piece}
use Rattle.px_real_tokens.specs.declared.cursor.Cursor.{Cursor}
use Rattle.px_real_tokens.specs.Cursors.{cursor_after, cursor_site}
use Rattle.px_real_tokens.specs.Tokens.{tokens_of, fault_of, fresh_after, with_front, Reads, at_end, Lexes}
use Rattle.px_real_tokens.specs.Scanning.{piece_at}
use Rattle.px_real_tokens.proofs.CursorLemmas.{cursor_of, after_is, line_bound, column_bound}
use Rattle.px_real_tokens.proofs.Readings.{a_step, a_fault_step, no_step}

abbrev Reading : Type 0
Reading = Result (List Token) LexFault

-- Up to a place of the file the tokens are read: whatever the rest is read as completes them.
pub record HasRead (file : ℕ) (source : List ℕ) (tokens : List Token) (fresh : Bool) (start : ℕ) (cursor : Cursor) (rest : List ℕ) : Type 0 where
  pub left : start + length rest ≡ length source
  pub behind : rest ≡ drop start source
  pub at : cursor ≡ cursor_of (take start source)
  pub line : cursor.line ≤ start + 1
  pub column : cursor.column ≤ start + 1
  pub so_far : (r : Reading) → Reads file (take start source) fresh rest r → Reads file [] true source (with_front tokens r)

with_none : (r : Reading) → r ≡ with_front [] r
with_none (Ok ts) = refl
with_none (Err f) = refl

pub has_read_none : (file : ℕ) (source : List ℕ) → HasRead file source [] true 0 (record { line = 1; column = 1 }) source
has_read_none file source = record {
  left = omega arith;
  behind = refl;
  at = refl;
  line = omega arith;
  column = omega arith;
  so_far = λ r h. subst (λ z. Reads file [] true source z) (with_none r) h;
}

regroup : (a b : List Token) (r : Reading) → with_front a (with_front b r) ≡ with_front (a ++ b) r
regroup a b (Ok ts) = ap (λ z. Ok z) (sym (append_assoc a b ts))
regroup a b (Err f) = refl

module _ (file : ℕ) (source : List ℕ) (tokens : List Token) (fresh : Bool) (start : ℕ) (cursor : Cursor) (rest : List ℕ) (h : HasRead file source tokens fresh start cursor rest) where
  here : cursor_site file cursor ≡ site_of file (take start source)
  here = ap (cursor_site file) h.at

  pub ends : (length rest == 0) ≡ true → Lexes file source (Ok tokens)
  ends e =
      let none : rest ≡ [] = nil_from_length rest (eqb-true (length rest) 0 e) in
      subst (λ z. Reads file [] true source (Ok z)) (append-nil tokens) (h.so_far (Ok []) (at_end none refl))

  pub ends_nowhere : (length rest == 0) ≡ false → None ≡ piece_at fresh rest → Lexes file source (Err (F.Byte (cursor_site file cursor)))
  ends_nowhere e k =
      subst (λ z. Reads file [] true source (Err (F.Byte z))) (sym here)
      (h.so_far (Err (F.Byte (site_of file (take start source)))) (no_step file (take start source) rest fresh (sym k) (λ none. eqb-false (length rest) 0 e (ap length none))))

  pub ends_at_fault : (p : Piece) (n : ℕ) → Some (p, n) ≡ piece_at fresh rest → (fault : LexFault) → fault_of p (cursor_site file cursor) ≡ Some fault → Lexes file source (Err fault)
  ends_at_fault p n k fault e = h.so_far (Err fault) (a_fault_step file (take start source) rest fresh p n fault (sym k) (ap (fault_of p) (sym here) ∙ e))

  pub after_piece : (p : Piece) (n : ℕ) → Some (p, n) ≡ piece_at fresh rest → fault_of p (cursor_site file cursor) ≡ None → n ≤ length rest →
      HasRead file source (tokens ++ tokens_of p (cursor_site file cursor) start (start + n)) (fresh_after fresh p (take n rest)) (start + n) (cursor_after cursor (take n rest)) (drop n rest)
  after_piece p n k no_fault le =
      let before : List ℕ = take start source in
      let more : take (start + n) source ≡ before ++ take n rest = take-add start n source ∙ ap (λ z. before ++ take n z) (sym h.behind) in
      let at_start : length before ≡ start = length-take-le start source (omega (arith, h.left)) in
      let size : length (take (start + n) source) ≡ start + n = length-take-le (start + n) source (omega (arith, h.left)) in
      let moved_on : cursor_after cursor (take n rest) ≡ cursor_of (take (start + n) source) = ap (λ z. cursor_after z (take n rest)) h.at ∙ after_is before (take n rest) ∙ ap cursor_of (sym more) in
      record {
        left = omega (arith, length-drop n rest, h.left);
        behind = ap (drop n) h.behind ∙ drop-drop n start source;
        at = moved_on;
        line = omega (arith, ap (λ (z : Cursor). z.line) moved_on, line_bound (take (start + n) source), size);
        column = omega (arith, ap (λ (z : Cursor). z.column) moved_on, column_bound (take (start + n) source), size);
        so_far = λ r remaining.
            let moved = subst (λ z. Reads file z (fresh_after fresh p (take n rest)) (drop n rest) r) more remaining in
            let step = a_step file before rest fresh p n (sym k) (ap (fault_of p) (sym here) ∙ no_fault) r moved in
            let named : Reads file before fresh rest (with_front (tokens_of p (cursor_site file cursor) start (start + n)) r) =
            subst (λ z. Reads file before fresh rest (with_front (tokens_of p (cursor_site file cursor) z (z + n)) r)) at_start
            (subst (λ z. Reads file before fresh rest (with_front (tokens_of p z (length before) (length before + n)) r)) (sym here) step) in
            subst (λ z. Reads file [] true source z) (regroup tokens (tokens_of p (cursor_site file cursor) start (start + n)) r) (h.so_far _ named);
      }
