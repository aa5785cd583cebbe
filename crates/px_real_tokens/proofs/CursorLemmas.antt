-- The cursor after the bytes of a file is at the site that they give.
use Rattle.std.proofs.Common.{◌≡◌, ◌==◌, not, ℕ, ◌+◌, ◌≤◌, Bool, true, false, cond, List, [], ◌∷◌, ◌++◌, length, refl, sym, ap, ap₂, ◌∙◌, append_assoc, append-nil, arith}
use Rattle.std.specs.Prelude.{count_by}
use Rattle.std.specs.List.{suffix_len, prefix_len}
use Rattle.std.proofs.lemmas.List.{reverse-append}
use Rattle.std.proofs.lemmas.List.Sums.{sum_by_push, count_by-le-length, suffix_len-le-length}
use Rattle.px_lexer.specs.Bytes.{is_line_feed, is_line_byte}
use Rattle.px_real_tokens.specs.declared.cursor.Cursor.{Cursor}
use Rattle.px_real_tokens.specs.Cursors.{cursor_next, cursor_after}

-- the cursor after these bytes
abbrev pub cursor_of : List ℕ → Cursor
cursor_of before = record { line = count_by is_line_feed before + 1; column = suffix_len is_line_byte before + 1 }

-- one more byte
next_is : (before : List ℕ) (b : ℕ) → cursor_next (cursor_of before) b ≡ cursor_of (before ++ b ∷ [])
next_is before b = go (b == 10) refl (sum_by_push (λ x. cond (is_line_feed x) 1 0) before b) (ap (prefix_len is_line_byte) (reverse-append before (b ∷ [])))
  where
    go : (t : Bool) → (b == 10) ≡ t → count_by is_line_feed (before ++ b ∷ []) ≡ count_by is_line_feed before + cond t 1 0 → suffix_len is_line_byte (before ++ b ∷ []) ≡ cond (not t) (1 + suffix_len is_line_byte before) 0 →
        cond t (record { line = count_by is_line_feed before + 1 + 1; column = 1 }) (record { line = count_by is_line_feed before + 1; column = suffix_len is_line_byte before + 1 + 1 }) ≡ cursor_of (before ++ b ∷ [])
    go true h f c = ap₂ (λ l k. record { line = l; column = k }) (omega arith) (omega arith)
    go false h f c = ap₂ (λ l k. record { line = l; column = k }) (omega arith) (omega arith)

pub after_is : (before bs : List ℕ) → cursor_after (cursor_of before) bs ≡ cursor_of (before ++ bs)
after_is before [] = ap cursor_of (sym (append-nil before))
after_is before (b ∷ bs) = ap (λ z. cursor_after z bs) (next_is before b) ∙ after_is (before ++ b ∷ []) bs ∙ ap cursor_of (append_assoc before (b ∷ []) bs)

pub line_bound : (before : List ℕ) → (cursor_of before).line ≤ length before + 1
line_bound before = omega (arith, count_by-le-length is_line_feed before)

pub column_bound : (before : List ℕ) → (cursor_of before).column ≤ length before + 1
column_bound before = omega (arith, suffix_len-le-length is_line_byte before)
