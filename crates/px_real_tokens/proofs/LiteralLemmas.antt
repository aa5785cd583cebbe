-- Words, and strings and characters, which may have a word before their quote.
use Rattle.std.proofs.Common.{◌≡◌, ◌⊎◌, ◌==◌, ℕ, suc, ◌+◌, ◌≤◌, Bool, true, false, cond, List, [], ◌∷◌, ◌++◌, length, take, drop, Option, Some, None, refl, sym, ap, ap₂, subst, ◌∙◌, append_assoc, length-append, arith, inl, inr}
use Rattle.std.specs.Prelude.{unwrap_or}
use Rattle.std.specs.List.{prefix_len, list_all}
use Rattle.std.proofs.lemmas.Bool.{eqb-true, and_parts}
use Rattle.std.proofs.lemmas.Bool.Decides.{nat_tests}
use Rattle.std.proofs.lemmas.List.{take_at, drop_at}
use Rattle.std.proofs.lemmas.Option.{same_Some}
use Rattle.px_real_tokens.specs.declared.token.TokenKind.TheVariants as K
use Rattle.px_real_tokens.specs.declared.piece.Piece.{Piece}
use Rattle.px_real_tokens.specs.declared.piece.Piece.TheVariants as P
use Rattle.px_real_tokens.specs.Bytes.{is_name_letter, is_name_byte}
use Rattle.px_real_tokens.specs.Spelling.{IsWord, word, IsQuotable, quoted, is_encoding, IsLiteral, bare, prefixed}
use Rattle.px_real_tokens.specs.Scanning.{quote_end, literal_kind, literal_as, literal_after, literal_at, word_of_length, word_at, piece_at}
use Rattle.px_lexer.proofs.RunLemmas.{chosen, run_all}
use Rattle.px_real_tokens.proofs.ClassLemmas.{class_letter, class_quote}
use Rattle.px_real_tokens.proofs.QuoteLemmas.{quote_found, quote_sound}
use Rattle.px_real_tokens.proofs.PunctuatorLemmas.{FoundIn}

abbrev Found : Bool → Piece → ℕ → List ℕ → Type 0
Found fresh q n bytes = FoundIn (piece_at fresh bytes) q n

abbrev pub IsQuote : ℕ → Type 0
IsQuote q = (q ≡ 34) ⊎ (q ≡ 39)

-- ---- what stands after a quote

double_found : (skip : ℕ) (bytes body r : List ℕ) → IsQuotable 34 body →
    literal_after skip bytes (34 ∷ body ++ 34 ∷ r) ≡ Some (P.Token (literal_kind 34 (take (skip + suc (suc (length body))) bytes)), skip + suc (suc (length body)))
double_found skip bytes body r k = rw (quote_found 34 body r (λ e. omega arith) (λ e. omega arith) k) refl

single_found : (skip : ℕ) (bytes body r : List ℕ) → IsQuotable 39 body →
    literal_after skip bytes (39 ∷ body ++ 39 ∷ r) ≡ Some (P.Token (literal_kind 39 (take (skip + suc (suc (length body))) bytes)), skip + suc (suc (length body)))
single_found skip bytes body r k = rw (quote_found 39 body r (λ e. omega arith) (λ e. omega arith) k) refl

after_found : (skip q : ℕ) (bytes body r : List ℕ) → IsQuote q → IsQuotable q body →
    literal_after skip bytes (q ∷ body ++ q ∷ r) ≡ Some (P.Token (literal_kind q (take (skip + suc (suc (length body))) bytes)), skip + suc (suc (length body)))
after_found skip q bytes body r (inl e) k = rw e (double_found skip bytes body r (subst (λ z. IsQuotable z body) e k))
after_found skip q bytes body r (inr e) k = rw e (single_found skip bytes body r (subst (λ z. IsQuotable z body) e k))

-- what was found after so many bytes
pub record Literal (skip : ℕ) (bytes rest : List ℕ) (y : Piece × ℕ) : Type 0 where
  pub quote : ℕ
  pub is_quote : IsQuote quote
  pub body : List ℕ
  pub after : List ℕ
  pub quotable : IsQuotable quote body
  pub parts : rest ≡ quote ∷ body ++ quote ∷ after
  pub count : y.1 ≡ skip + suc (suc (length body))
  pub piece : y.0 ≡ P.Token (literal_kind quote (take y.1 bytes))

of_quote : (skip q : ℕ) (bytes bs : List ℕ) (y : Piece × ℕ) → IsQuote q → (o : Option ℕ) → quote_end q false bs ≡ o → literal_as skip q bytes o ≡ Some y → Literal skip bytes (q ∷ bs) y
of_quote skip q bytes bs y is None h e = absurd cc
of_quote skip q bytes bs y is (Some n) h e =
    let c = quote_sound q bs n h in
    let x : Piece × ℕ = (P.Token (literal_kind q (take (skip + suc n) bytes)), skip + suc n) in
    let g : x ≡ y = same_Some x y e in
    let size : x.1 ≡ y.1 = ap (λ (z : Piece × ℕ). z.1) g in
    record {
      quote = q;
      is_quote = is;
      body = c.body;
      after = c.rest;
      quotable = c.quotable;
      parts = ap (λ z. q ∷ z) c.parts;
      count = sym size ∙ ap (λ z. skip + suc z) c.count;
      piece = subst (λ (z : Piece × ℕ). z.0 ≡ P.Token (literal_kind q (take z.1 bytes))) g refl;
    }

pub after_sound : (skip : ℕ) (bytes rest : List ℕ) (y : Piece × ℕ) → literal_after skip bytes rest ≡ Some y → Literal skip bytes rest y
after_sound skip bytes [] y e = absurd cc
after_sound skip bytes (b ∷ bs) y e =
    elim (chosen (b == 34) (literal_as skip 34 bytes (quote_end 34 false bs)) _ (Some y) e) [
      | inl w ↦ subst (λ z. Literal skip bytes (z ∷ bs) y) (sym (eqb-true b 34 w.0)) (of_quote skip 34 bytes bs y (inl refl) (quote_end 34 false bs) refl w.1)
      | inr w ↦ elim (chosen (b == 39) (literal_as skip 39 bytes (quote_end 39 false bs)) None (Some y) w.1) [
        | inl v ↦ subst (λ z. Literal skip bytes (z ∷ bs) y) (sym (eqb-true b 39 v.0)) (of_quote skip 39 bytes bs y (inr refl) (quote_end 39 false bs) refl v.1)
        | inr v ↦ absurd (let z = v.1 in cc)
      ]
    ]

-- ---- a word, or what it is the prefix of

at_letter : (fresh : Bool) (b : ℕ) (bs : List ℕ) → is_name_letter b ≡ true → piece_at fresh (b ∷ bs) ≡ Some (word_at (b ∷ bs))
unfolding piece_at
at_letter fresh b bs h = rw (class_letter b h) refl

-- a word of n bytes, or something longer
word_least : (n m : ℕ) (bytes : List ℕ) → m ≤ n → FoundIn (Some (word_of_length n bytes)) (P.Token K.Word) m
word_least n m bytes le = by_prefix (is_encoding (take n bytes))
  where
    by_literal : (o : Option (Piece × ℕ)) → literal_at n bytes ≡ o → FoundIn (Some (unwrap_or o (P.Token K.Word, n))) (P.Token K.Word) m
    by_literal None e = record { piece = P.Token K.Word; count = n; is = refl; least = le; same = λ _. refl }
    by_literal (Some y) e =
        let l = after_sound n bytes (drop n bytes) y e in
        record { piece = y.0; count = y.1; is = refl; least = omega (arith, l.count); same = λ i. absurd (omega (arith, l.count)) }

    by_prefix : (t : Bool) → FoundIn (Some (cond t (unwrap_or (literal_at n bytes) (P.Token K.Word, n)) (P.Token K.Word, n))) (P.Token K.Word) m
    by_prefix true = by_literal (literal_at n bytes) refl
    by_prefix false = record { piece = P.Token K.Word; count = n; is = refl; least = le; same = λ _. refl }

pub word_found : (fresh : Bool) (q : Piece) (f r : List ℕ) → q ≡ P.Token K.Word → IsWord f → Found fresh q (length f) (f ++ r)
unfolding word_at
word_found fresh q f r g (word {b = b} {bs = bs} h k parts) =
    let le : length (b ∷ bs) ≤ suc (prefix_len is_name_byte (bs ++ r)) = omega (arith, run_all is_name_byte bs r k) in
    let w = word_least (suc (prefix_len is_name_byte (bs ++ r))) (length (b ∷ bs)) (b ∷ bs ++ r) le in
    let v : Found fresh (P.Token K.Word) (length (b ∷ bs)) (b ∷ bs ++ r) = subst (λ o. FoundIn o (P.Token K.Word) (length (b ∷ bs))) (sym (at_letter fresh b (bs ++ r) h)) w in
    subst (λ z. Found fresh q (length z) (z ++ r)) (sym parts) (subst (λ p. Found fresh p (length (b ∷ bs)) (b ∷ bs ++ r)) (sym g) v)

-- ---- a string or a character is found

-- a run ends at a byte that doesn't pass
run_ends : (p : ℕ → Bool) (f : List ℕ) (b : ℕ) (r : List ℕ) → list_all p f ≡ true → p b ≡ false → prefix_len p (f ++ b ∷ r) ≡ length f
run_ends p [] b r h k = rw k refl
run_ends p (a ∷ more) b r h k = let w = and_parts (p a) (list_all p more) h in rw w.0 (omega (arith, run_ends p more b r w.1 k))

quote_no_name : (q : ℕ) → IsQuote q → is_name_byte q ≡ false
quote_no_name q (inl e) = rw e refl
quote_no_name q (inr e) = rw e refl

-- what a prefix is made of
record Letters (p : List ℕ) : Type 0 where
  first : ℕ
  others : List ℕ
  parts : p ≡ first ∷ others
  letter : is_name_letter first ≡ true
  all : list_all is_name_byte others ≡ true

one_letter : (a : ℕ) → is_encoding (a ∷ []) ≡ true → is_name_letter a ≡ true
one_letter a h = grind (arith, nat_tests)

letters : (p : List ℕ) → is_encoding p ≡ true → Letters p
letters [] h = absurd cc
letters (a ∷ []) h = record { first = a; others = []; parts = refl; letter = one_letter a h; all = refl }
letters (a ∷ b ∷ []) h =
    let w = and_parts (a == 117) (b == 56) h in
    record { first = a; others = b ∷ []; parts = refl; letter = rw (eqb-true a 117 w.0) refl; all = rw (eqb-true b 56 w.1) refl }
letters (a ∷ b ∷ c ∷ f) h = absurd cc

at_quote : (fresh : Bool) (q : ℕ) (bs : List ℕ) → IsQuote q → piece_at fresh (q ∷ bs) ≡ literal_after 0 (q ∷ bs) (q ∷ bs)
unfolding piece_at
at_quote fresh q bs h = rw (class_quote q h) refl

-- after a prefix the word is that string or character
at_prefix : (q a : ℕ) (others body r : List ℕ) → is_encoding (a ∷ others) ≡ true → list_all is_name_byte others ≡ true → IsQuote q → IsQuotable q body →
    word_at (a ∷ others ++ (q ∷ body ++ q ∷ r)) ≡ (P.Token (literal_kind q (take (suc (length others) + suc (suc (length body))) (a ∷ others ++ (q ∷ body ++ q ∷ r)))), suc (length others) + suc (suc (length body)))
unfolding word_at
at_prefix q a others body r h all is k =
    let bytes : List ℕ = a ∷ others ++ (q ∷ body ++ q ∷ r) in
    let m : ℕ = suc (length others) in
    let n : suc (prefix_len is_name_byte (others ++ (q ∷ body ++ q ∷ r))) ≡ m = ap suc (run_ends is_name_byte others q (body ++ q ∷ r) all (quote_no_name q is)) in
    let text : take m bytes ≡ a ∷ others = take_at (a ∷ others) (q ∷ body ++ q ∷ r) m refl in
    let back : drop m bytes ≡ q ∷ body ++ q ∷ r = drop_at (a ∷ others) (q ∷ body ++ q ∷ r) m refl in
    let there : literal_at m bytes ≡ Some (P.Token (literal_kind q (take (m + suc (suc (length body))) bytes)), m + suc (suc (length body))) =
    ap (literal_after m bytes) back ∙ after_found m q bytes body r is k in
    let passes : is_encoding (take m bytes) ≡ true = ap is_encoding text ∙ h in
    ap (λ z. word_of_length z bytes) n
    ∙ ap (λ t. cond {A = Piece × ℕ} t (unwrap_or (literal_at m bytes) (P.Token K.Word, m)) (P.Token K.Word, m)) passes
    ∙ ap (λ o. unwrap_or {T = Piece × ℕ} o (P.Token K.Word, m)) there

prefixed_found : (fresh : Bool) (q a : ℕ) (others body r : List ℕ) → is_encoding (a ∷ others) ≡ true → is_name_letter a ≡ true → list_all is_name_byte others ≡ true → IsQuote q → IsQuotable q body →
    Found fresh (P.Token (literal_kind q (a ∷ others ++ (q ∷ body ++ q ∷ [])))) (length (a ∷ others ++ (q ∷ body ++ q ∷ []))) ((a ∷ others ++ (q ∷ body ++ q ∷ [])) ++ r)
prefixed_found fresh q a others body r h first all is k =
    let f : List ℕ = a ∷ others ++ (q ∷ body ++ q ∷ []) in
    let n : ℕ = suc (length others) + suc (suc (length body)) in
    let size : length f ≡ n = omega (arith, length-append others (q ∷ body ++ q ∷ []), length-append body (q ∷ [])) in
    let whole : f ++ r ≡ a ∷ others ++ (q ∷ body ++ q ∷ r) = ap (λ z. a ∷ z) (append_assoc others (q ∷ body ++ q ∷ []) r) ∙ ap (λ z. a ∷ others ++ (q ∷ z)) (append_assoc body (q ∷ []) r) in
    record {
      piece = P.Token (literal_kind q (take n (a ∷ others ++ (q ∷ body ++ q ∷ r))));
      count = n;
      is = ap (piece_at fresh) whole ∙ at_letter fresh a (others ++ (q ∷ body ++ q ∷ r)) first ∙ ap (λ z. Some z) (at_prefix q a others body r h all is k);
      least = omega arith;
      same = λ e. ap (λ z. P.Token (literal_kind q z)) (ap (take n) (sym whole) ∙ take_at f r n size);
    }

pub literal_found : (fresh : Bool) (q : ℕ) (f r : List ℕ) → IsQuote q → IsLiteral q f → Found fresh (P.Token (literal_kind q f)) (length f) (f ++ r)
literal_found fresh q f r is (bare (quoted body k parts)) =
    let whole : f ++ r ≡ q ∷ body ++ q ∷ r = ap (λ z. z ++ r) parts ∙ ap (λ z. q ∷ z) (append_assoc body (q ∷ []) r) in
    let size : suc (suc (length body)) ≡ length f = omega (arith, ap length parts, length-append body (q ∷ [])) in
    let zero_more : 0 + suc (suc (length body)) ≡ suc (suc (length body)) = omega arith in
    let is_there : piece_at fresh (f ++ r) ≡ Some (P.Token (literal_kind q (take (0 + suc (suc (length body))) (q ∷ body ++ q ∷ r))), 0 + suc (suc (length body))) =
    ap (piece_at fresh) whole ∙ at_quote fresh q (body ++ q ∷ r) is ∙ after_found 0 q (q ∷ body ++ q ∷ r) body r is k in
    record {
      piece = P.Token (literal_kind q (take (0 + suc (suc (length body))) (q ∷ body ++ q ∷ r)));
      count = 0 + suc (suc (length body));
      is = is_there;
      least = omega (arith, size);
      same = λ e. ap (λ z. P.Token (literal_kind q z)) (ap (take (0 + suc (suc (length body)))) (sym whole) ∙ take_at f r (0 + suc (suc (length body))) (sym e));
    }
literal_found fresh q f r is (prefixed prefix h (quoted body k inner) parts) =
    let l = letters prefix h in
    let w = prefixed_found fresh q l.first l.others body r (ap is_encoding (sym l.parts) ∙ h) l.letter l.all is k in
    let same : l.first ∷ l.others ++ (q ∷ body ++ q ∷ []) ≡ f = sym (parts ∙ ap₂ (λ y z. y ++ z) l.parts inner) in
    subst (λ z. Found fresh (P.Token (literal_kind q z)) (length z) (z ++ r)) same w
