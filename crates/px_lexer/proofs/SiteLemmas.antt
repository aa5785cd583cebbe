-- The lines of a source give the site of each of its bytes.
use Rattle.std.proofs.Common.{◌≡◌, ◌==◌, not, ℕ, zero, suc, ◌+◌, ◌-◌, ◌<◌, ◌≤◌, Bool, true, false, cond, List, [], ◌∷◌, ◌++◌, length, take, drop, refl, sym, ap, ap₂, subst, ◌∙◌, append_assoc, append-nil, get_or, leb, leb-true, arith}
use Rattle.std.specs.Prelude.{count_by, nat_le, slice_index}
use Rattle.std.specs.List.{prefix_len, suffix_len}
use Rattle.std.specs.List.Sorted.{IsStrictlyIncreasing, IsNonDecreasing, IsPartitionedBy, IsPartitionPoint}
use Rattle.std.proofs.Math.ListN.{drop_of_length-le}
use Rattle.std.proofs.lemmas.Bool.Decides.{nat_tests}
use Rattle.std.proofs.lemmas.List.{reverse-append, get_or_default}
use Rattle.std.proofs.lemmas.List.Sums.{sum_by_push, prefix_len_is}
use Rattle.std.proofs.lemmas.List.Sorted.{IsNonDecreasingBy-from_all_adjacent, IsPartitionedBy-leb}
use Rattle.px_lexer.specs.Bytes.{is_line_feed, is_line_byte}
use Rattle.px_lexer.specs.Tokens.{site_of}
use Rattle.px_lexer.specs.Places.{line_starts, lines_before, site_at}

-- ---- one more byte

feeds_push : (xs : List ℕ) (b : ℕ) → count_by is_line_feed (xs ++ b ∷ []) ≡ count_by is_line_feed xs + cond (is_line_feed b) 1 0
feeds_push xs b = sum_by_push (λ x. cond (is_line_feed x) 1 0) xs b

column_push : (xs : List ℕ) (b : ℕ) → suffix_len is_line_byte (xs ++ b ∷ []) ≡ cond (is_line_byte b) (1 + suffix_len is_line_byte xs) 0
column_push xs b = ap (prefix_len is_line_byte) (reverse-append xs (b ∷ []))

one_more : (before : List ℕ) (b : ℕ) (bs : List ℕ) → (before ++ b ∷ []) ++ bs ≡ before ++ b ∷ bs
one_more before b bs = append_assoc before (b ∷ []) bs

-- ---- the lines

rises : (x y : ℕ) (ys : List ℕ) → x < y → IsStrictlyIncreasing (y ∷ ys) → IsStrictlyIncreasing (x ∷ y ∷ ys)
rises x y ys lt h zero within = lt
rises x y ys lt h (suc k) within = let e : suc k + 1 ≡ suc (k + 1) = omega arith in rw e (h k (omega (arith, within)))

-- each line begins after the one before it
rising : (x at : ℕ) (bs : List ℕ) → x ≤ at → IsStrictlyIncreasing (x ∷ line_starts at bs)
unfolding line_starts
rising x at [] le = λ k lt. absurd (omega (arith, lt))
rising x at (b ∷ bs) le = by (b == 10) (rises x (at + 1) (line_starts (at + 1) bs) (omega arith) (rising (at + 1) (at + 1) bs (omega arith))) (rising x (at + 1) bs (omega arith))
  where
    by : (feed : Bool) → IsStrictlyIncreasing (x ∷ (at + 1) ∷ line_starts (at + 1) bs) → IsStrictlyIncreasing (x ∷ line_starts (at + 1) bs) →
        IsStrictlyIncreasing (x ∷ cond feed ((at + 1) ∷ line_starts (at + 1) bs) (line_starts (at + 1) bs))
    by true h g = h
    by false h g = g

-- no line begins before these bytes do
none_before : (at x : ℕ) (bs : List ℕ) → x ≤ at → lines_before (line_starts at bs) x ≡ 0
unfolding line_starts
none_before at x [] le = refl
none_before at x (b ∷ bs) le = by (b == 10) (none_before (at + 1) x bs (omega arith))
  where
    later : nat_le (at + 1) x ≡ false
    later = grind (arith, nat_tests)

    by : (feed : Bool) → lines_before (line_starts (at + 1) bs) x ≡ 0 → lines_before (cond feed ((at + 1) ∷ line_starts (at + 1) bs) (line_starts (at + 1) bs)) x ≡ 0
    by true h = rw later refl
    by false h = h

-- all lines are found
pub all_rising : (starts source : List ℕ) (i : ℕ) → length source ≤ i → starts ++ line_starts i (drop i source) ≡ line_starts 0 source → IsStrictlyIncreasing (0 ∷ starts)
unfolding line_starts
all_rising starts source i le e =
    let none : drop i source ≡ [] = drop_of_length-le source le in
    let same : starts ≡ line_starts 0 source = sym (append-nil starts) ∙ ap (λ z. starts ++ line_starts i z) (sym none) ∙ e in
    subst (λ z. IsStrictlyIncreasing (0 ∷ z)) (sym same) (rising 0 0 source (omega arith))

-- ---- the site of a byte

-- The line and the column of the byte at this place, where the first of these bytes stands after `before`, and its line begins at `begin`.
record IsPlaced (begin : ℕ) (before front starts : List ℕ) (at : ℕ) : Type 0 where
  line : count_by is_line_feed before + lines_before starts at ≡ count_by is_line_feed (before ++ front)
  column : slice_index (begin ∷ starts) (lines_before starts at) + suffix_len is_line_byte (before ++ front) ≡ at

after_first : (x : ℕ) (xs : List ℕ) (i : ℕ) → slice_index (x ∷ xs) (1 + i) ≡ slice_index xs i
after_first x xs i = let e : 1 + i ≡ suc i = omega arith in rw e refl

-- one byte less, after one more
next_placed : (begin n k b : ℕ) (before front starts : List ℕ) (feed : Bool) → is_line_feed b ≡ feed →
    IsPlaced (cond feed (n + 1) begin) (before ++ b ∷ []) front starts (n + suc k) → IsPlaced begin before (b ∷ front) (cond feed ((n + 1) ∷ starts) starts) (n + suc k)
next_placed begin n k b before front starts true h p =
    let passed : nat_le (n + 1) (n + suc k) ≡ true = grind (arith, nat_tests) in
    let whole : (before ++ b ∷ []) ++ front ≡ before ++ b ∷ front = one_more before b front in
    let feeds : count_by is_line_feed (before ++ b ∷ []) ≡ count_by is_line_feed before + 1 = feeds_push before b ∙ ap (λ z. count_by is_line_feed before + cond z 1 0) h in
    record {
      line = rw passed (omega (arith, p.line, feeds, ap (count_by is_line_feed) whole));
      column = rw passed (omega (arith, after_first begin ((n + 1) ∷ starts) (lines_before starts (n + suc k)), p.column, ap (suffix_len is_line_byte) whole));
    }
next_placed begin n k b before front starts false h p =
    let whole : (before ++ b ∷ []) ++ front ≡ before ++ b ∷ front = one_more before b front in
    let feeds : count_by is_line_feed (before ++ b ∷ []) ≡ count_by is_line_feed before + 0 = feeds_push before b ∙ ap (λ z. count_by is_line_feed before + cond z 1 0) h in
    record {
      line = omega (arith, p.line, feeds, ap (count_by is_line_feed) whole);
      column = omega (arith, p.column, ap (suffix_len is_line_byte) whole);
    }

-- where the line begins that goes on after one more byte
goes_on : (begin n b : ℕ) (before : List ℕ) → begin + suffix_len is_line_byte before ≡ n → cond (is_line_feed b) (n + 1) begin + suffix_len is_line_byte (before ++ b ∷ []) ≡ n + 1
goes_on begin n b before e = by (is_line_feed b) refl
  where
    by : (feed : Bool) → is_line_feed b ≡ feed → cond feed (n + 1) begin + suffix_len is_line_byte (before ++ b ∷ []) ≡ n + 1
    by true h = omega (arith, column_push before b ∙ ap (λ z. cond (not z) (1 + suffix_len is_line_byte before) 0) h)
    by false h = omega (arith, e, column_push before b ∙ ap (λ z. cond (not z) (1 + suffix_len is_line_byte before) 0) h)

placed : (begin n k : ℕ) (before source : List ℕ) → begin + suffix_len is_line_byte before ≡ n → k ≤ length source → IsPlaced begin before (take k source) (line_starts n source) (n + k)
unfolding line_starts
placed begin n zero before source e le =
    let none : lines_before (line_starts n source) (n + 0) ≡ 0 = none_before n (n + 0) source (omega arith) in
    record {
      line = rw (none, append-nil before) (omega arith);
      column = rw (none, append-nil before) (omega (arith, e));
    }
placed begin n (suc k) before [] e le = absurd (omega (arith, le))
placed begin n (suc k) before (b ∷ bs) e le =
    let same : n + 1 + k ≡ n + suc k = omega arith in
    let p = placed (cond (is_line_feed b) (n + 1) begin) (n + 1) k (before ++ b ∷ []) bs (goes_on begin n b before e) (omega (arith, le)) in
    next_placed begin n k b before (take k bs) (line_starts (n + 1) bs) (is_line_feed b) refl
    (subst (λ z. IsPlaced (cond (is_line_feed b) (n + 1) begin) (before ++ b ∷ []) (take k bs) (line_starts (n + 1) bs) z) same p)

pub site_is : (file : ℕ) (source : List ℕ) (at : ℕ) → at ≤ length source → site_at file (line_starts 0 source) at ≡ site_of file (take at source)
site_is file source at le =
    let from_zero : 0 + at ≡ at = omega arith in
    let p = subst (λ z. IsPlaced 0 [] (take at source) (line_starts 0 source) z) from_zero (placed 0 0 at [] source (omega arith) le) in
    ap₂ (λ line column. record { file = file; line = line + 1; column = column + 1 }) (omega (arith, p.line)) (omega (arith, p.column))

-- ---- the search for a line

-- as many lines begin up to there
begun : (starts : List ℕ) → IsStrictlyIncreasing (0 ∷ starts) → (i : ℕ) → i ≤ length starts → i ≤ slice_index (0 ∷ starts) i
begun starts h zero le = omega arith
begun starts h (suc i) le =
    let e : suc i ≡ i + 1 = omega arith in
    omega (arith, begun starts h i (omega (arith, le)), h i (omega (arith, le)), ap (slice_index (0 ∷ starts)) e)

sorted : (starts : List ℕ) → IsStrictlyIncreasing (0 ∷ starts) → IsNonDecreasing starts
sorted starts h = IsNonDecreasingBy-from_all_adjacent (λ x. x) starts (λ k d lt.
    let e : suc k ≡ k + 1 = omega arith in
    let two : suc (k + 1) ≡ k + 1 + 1 = omega arith in
    omega (arith, h (k + 1) (omega (arith, lt)), ap (slice_index (0 ∷ starts)) e, ap (slice_index (0 ∷ starts)) two, get_or_default starts k d 0 (omega (arith, lt)), get_or_default starts (k + 1) d 0 lt))

pub parted : (starts : List ℕ) (at : ℕ) → IsStrictlyIncreasing (0 ∷ starts) → IsPartitionedBy (λ start. leb start at) starts
parted starts at h = IsPartitionedBy-leb (λ x. x) starts at (sorted starts h)

pub record IsLine (starts : List ℕ) (at line : ℕ) : Type 0 where
  pub exact : line ≡ lines_before starts at
  pub begun : slice_index (0 ∷ starts) line ≤ at
  pub few : line ≤ at

pub line_is : (starts : List ℕ) (at line : ℕ) → IsStrictlyIncreasing (0 ∷ starts) → line ≤ length starts → IsPartitionPoint (λ y. leb y at ≡ true) (λ y. leb y at ≡ false) starts line → IsLine starts at line
line_is starts at line h le point =
    let there : slice_index (0 ∷ starts) line ≤ at = before line le (λ k lt. point.0 k 0 (omega arith) lt) in
    record {
      exact = sym (prefix_len_is (λ start. nat_le start at) starts line 0 le (λ k lt. point.0 k 0 (omega arith) lt) (λ lt. point.1 line 0 (omega arith) lt));
      begun = there;
      few = omega (arith, there, begun starts h line le);
    }
  where
    before : (i : ℕ) → i ≤ length starts → ((k : ℕ) → k < i → leb (get_or starts k 0) at ≡ true) → slice_index (0 ∷ starts) i ≤ at
    before zero le all = omega arith
    before (suc i) le all = leb-true (get_or starts i 0) at (all i (omega arith))

-- ---- a line that is looked at first

climbs : (starts : List ℕ) → IsStrictlyIncreasing (0 ∷ starts) → (i d : ℕ) → i + d ≤ length starts → slice_index (0 ∷ starts) i ≤ slice_index (0 ∷ starts) (i + d)
climbs starts h i zero le = let e : i + 0 ≡ i = omega arith in omega (arith, ap (slice_index (0 ∷ starts)) e)
climbs starts h i (suc d) le =
    let e : i + suc d ≡ i + d + 1 = omega arith in
    omega (arith, climbs starts h i d (omega (arith, le)), h (i + d) (omega (arith, le)), ap (slice_index (0 ∷ starts)) e)

-- a byte stands on the line that has begun where the next hasn't
pub on_line : (starts : List ℕ) (at line : ℕ) → IsStrictlyIncreasing (0 ∷ starts) → line ≤ length starts → slice_index (0 ∷ starts) line ≤ at → (line < length starts → at < slice_index starts line) →
    line ≡ lines_before starts at
on_line starts at line h le begun before = sym (prefix_len_is (λ start. nat_le start at) starts line 0 le (λ k lt. earlier k lt) (λ lt. later lt))
  where
    earlier : (k : ℕ) → k < line → nat_le (get_or starts k 0) at ≡ true
    earlier k lt =
        let e : suc k + (line - suc k) ≡ line = omega (arith, lt) in
        let up : slice_index (0 ∷ starts) (suc k) ≤ at = omega (arith, climbs starts h (suc k) (line - suc k) (omega (arith, lt, le)), ap (slice_index (0 ∷ starts)) e, begun) in
        grind (arith, nat_tests, up)

    later : line < length starts → nat_le (get_or starts line 0) at ≡ false
    later lt = let over : at < slice_index starts line = before lt in grind (arith, nat_tests, over)

pub on_few : (starts : List ℕ) (at line : ℕ) → IsStrictlyIncreasing (0 ∷ starts) → line ≤ length starts → slice_index (0 ∷ starts) line ≤ at → line ≤ at
on_few starts at line h le there = omega (arith, there, begun starts h line le)
