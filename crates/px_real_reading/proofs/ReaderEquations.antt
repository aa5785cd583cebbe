-- The readers of what is opened, at any depth.
use Rattle.std.proofs.Common.{◌≡◌, ℕ, zero, suc, ◌-◌, ◌+◌, ◌<◌, nat_lt, Bool, true, false, if◌then◌else◌, List, [], ◌∷◌, Option, Some, None, Ok, Err, refl, sym, ap, ◌∙◌, arith}
use Rattle.std.proofs.lemmas.Bool.Decides.{nat_tests}
use Rattle.px_expressions.specs.Reading.{or_else}
use Rattle.px_base.specs.declared.trace.Site.{Site}
use Rattle.px_real_expressions.specs.declared.terminal.Terminal.{Terminal}
use Rattle.px_real_expressions.specs.declared.terminal.Terminal.TheVariants as T
use Rattle.px_real_expressions.specs.Lexemes.{Lexeme, front_if}
use Rattle.px_real_expressions.specs.Operators.{is_identifier}
use Rattle.px_real_expressions.specs.ExpressionTree.{ExpressionTree, index, call, expressions_of}
use Rattle.px_real_expressions.specs.Stops.{wrong, deep, Read, ◌>>=◌}
use Rattle.px_real_expressions.specs.Reading.{Readers, shut, closed_at, arguments_at, index_at, suffixes_at, operand_of, conditional_by, assignment_by, expression_by, readers_around, readers}
use Rattle.px_real_symbols.specs.declared.fault.Fault.{Fault}
use Rattle.px_real_symbols.specs.Answers.{IsFaultOf}
use Rattle.px_real_symbols.specs.Symbols.{first}
use Rattle.px_real_reading.specs.declared.expressions.Part.{Part}
use Rattle.px_real_reading.specs.declared.expressions.Part.TheVariants as P
use Rattle.px_real_reading.specs.Trees.{SuffixTree, an_index, a_call, a_member, a_pointer_member, suffixed}
use Rattle.px_real_reading.specs.Parts.{part_reader, suffix_by, suffix_at}
use Rattle.px_real_symbols.proofs.AnswerLemmas.{passes_on}

pub readers_is : (d : ℕ) → 0 < d → readers d ≡ readers_around (readers (d - 1))
unfolding readers
readers_is zero h = absurd (omega arith)
readers_is (suc d) h = let e : suc d - 1 ≡ d = omega arith in rw e refl

pub may_open : (d : ℕ) → 0 < d → (readers d).may_open ≡ true
may_open d h = ap (λ z. z.may_open) (readers_is d h)

pub may_not_open : (d : ℕ) → d ≡ 0 → (readers d).may_open ≡ false
unfolding readers
may_not_open d h = rw h refl

pub may_open_is : (d : ℕ) → (readers d).may_open ≡ nat_lt 0 d
unfolding readers
may_open_is zero = refl
may_open_is (suc d) = let e : nat_lt 0 (suc d) ≡ true = grind (arith, nat_tests) in sym e

pub part_shut : (p : Part) (d : ℕ) (ts : List Lexeme) → d ≡ 0 → part_reader p (readers d) ts ≡ Err (shut ts)
unfolding readers
part_shut (P.Operand only) d ts h = rw h refl
part_shut P.Conditional d ts h = rw h refl
part_shut P.Assignment d ts h = rw h refl
part_shut P.Expression d ts h = rw h refl

pub operand_is : (only : Bool) (d : ℕ) (ts : List Lexeme) → 0 < d → (readers d).operand_reader only ts ≡ operand_of only (readers (d - 1)) ts
operand_is only d ts h = ap (λ z. z.operand_reader only ts) (readers_is d h)

pub conditional_is : (d : ℕ) (ts : List Lexeme) → 0 < d → (readers d).conditional_reader ts ≡ conditional_by (readers (d - 1)) ts
conditional_is d ts h = ap (λ z. z.conditional_reader ts) (readers_is d h)

pub assignment_is : (d : ℕ) (ts : List Lexeme) → 0 < d → (readers d).assignment_reader ts ≡ assignment_by (readers (d - 1)) ts
assignment_is d ts h = ap (λ z. z.assignment_reader ts) (readers_is d h)

pub expression_is : (d : ℕ) (ts : List Lexeme) → 0 < d → (readers d).expression_reader ts ≡ expression_by (readers (d - 1)) ts
expression_is d ts h = ap (λ z. z.expression_reader ts) (readers_is d h)

-- ---- suffixes

-- the suffixes from one on, by what it is
abbrev after_suffix : Readers → ℕ → ExpressionTree → List Lexeme → Option SuffixTree × List Lexeme → Read ExpressionTree
after_suffix r n left ts x = or_else x.0 (λ s. suffixes_at r n (suffixed left s) x.1) (Ok (left, ts))

abbrev next_suffixes : Readers → ℕ → ExpressionTree × List Lexeme → Read ExpressionTree
next_suffixes r n x = suffixes_at r n x.0 x.1

abbrev as_index : ExpressionTree → Site → ExpressionTree × List Lexeme → Read ExpressionTree
as_index left s x = Ok (index s left x.0, x.1)

abbrev as_suffix : Site → ExpressionTree × List Lexeme → Read (Option SuffixTree)
as_suffix s x = Ok (Some (an_index s x.0), x.1)

index_step : (b : Bool) (c : Read ExpressionTree) (r : Readers) (n : ℕ) (left : ExpressionTree) (s : Site) (ts : List Lexeme) →
    ((if b then (c >>= as_index left s) else Err (deep ts)) >>= next_suffixes r n) ≡ ((if b then (c >>= as_suffix s) else Err (deep ts)) >>= after_suffix r n left ts)
index_step true (Ok x) r n left s ts = refl
index_step true (Err e) r n left s ts = refl
index_step false c r n left s ts = refl

abbrev as_call : Site → List ExpressionTree × List Lexeme → Read (Option SuffixTree)
as_call s x = Ok (Some (a_call s (expressions_of x.0)), x.1)

call_step : (c : Read (List ExpressionTree)) (r : Readers) (n : ℕ) (left : ExpressionTree) (s : Site) (ts : List Lexeme) →
    (c >>= λ x. suffixes_at r n (call s left (expressions_of x.0)) x.1) ≡ (c >>= as_call s >>= after_suffix r n left ts)
call_step (Ok x) r n left s ts = refl
call_step (Err e) r n left s ts = refl

abbrev as_named : (List ℕ → SuffixTree) → Lexeme × List Lexeme → Read (Option SuffixTree)
as_named made f = Ok (Some (made f.0.text), f.1)

member_step : (c : Option (Lexeme × List Lexeme)) (r : Readers) (n : ℕ) (left : ExpressionTree) (ts us : List Lexeme) (made : List ℕ → SuffixTree) →
    or_else c (λ f. suffixes_at r n (suffixed left (made f.0.text)) f.1) (Err (wrong ts)) ≡ (or_else c (as_named made) (Err (wrong ts)) >>= after_suffix r n left us)
member_step (Some f) r n left ts us made = refl
member_step None r n left ts us made = refl

abbrev lexeme_of : Terminal → Site → List ℕ → Option ℕ → Lexeme
lexeme_of k s x v = record { terminal = k; site = s; text = x; value = v }

suffix_step : (k : Terminal) (r : Readers) (n : ℕ) (left : ExpressionTree) (s : Site) (x : List ℕ) (v : Option ℕ) (ts : List Lexeme) →
    suffixes_at r (suc n) left (lexeme_of k s x v ∷ ts) ≡ (suffix_by k r (lexeme_of k s x v ∷ ts) (lexeme_of k s x v) ts >>= after_suffix r n left (lexeme_of k s x v ∷ ts))
unfolding suffixes_at index_at
suffix_step T.OpenBracket r n left s x v ts = index_step r.may_open (closed_at T.CloseBracket r.expression_reader ts) r n left s (lexeme_of T.OpenBracket s x v ∷ ts)
suffix_step T.OpenParenthesis r n left s x v ts = call_step (arguments_at r.assignment_reader ts) r n left s (lexeme_of T.OpenParenthesis s x v ∷ ts)
suffix_step T.Dot r n left s x v ts = member_step (front_if is_identifier ts) r n left ts (lexeme_of T.Dot s x v ∷ ts) (a_member s)
suffix_step T.Arrow r n left s x v ts = member_step (front_if is_identifier ts) r n left ts (lexeme_of T.Arrow s x v ∷ ts) (a_pointer_member s)
suffix_step _ r n left s x v ts = refl

suffix_is : (r : Readers) (n : ℕ) (left : ExpressionTree) (ts : List Lexeme) → suffixes_at r (suc n) left ts ≡ (suffix_at r ts >>= after_suffix r n left ts)
unfolding suffixes_at suffix_at
suffix_is r n left [] = refl
suffix_is r n left (t ∷ ts) = suffix_step t.terminal r n left t.site t.text t.value ts

one_suffix : (limit i : ℕ) (r : Readers) (left : ExpressionTree) (rest : List Lexeme) → i < limit → suffixes_at r (limit - i) left rest ≡ (suffix_at r rest >>= after_suffix r (limit - (i + 1)) left rest)
one_suffix limit i r left rest lt = let s : limit - i ≡ suc (limit - (i + 1)) = omega arith in rw s (suffix_is r (limit - (i + 1)) left rest)

pub suffixes_next : (limit i : ℕ) (r : Readers) (left : ExpressionTree) (rest : List Lexeme) (o : Option SuffixTree) (s : SuffixTree) (y : List Lexeme) (total : Read ExpressionTree) → i < limit → o ≡ Some s → suffix_at r rest ≡ Ok (o, y) →
    suffixes_at r (limit - i) left rest ≡ total → suffixes_at r (limit - (i + 1)) (suffixed left s) y ≡ total
suffixes_next limit i r left rest o s y total lt is h so_far =
    let one : (suffix_at r rest >>= after_suffix r (limit - (i + 1)) left rest) ≡ suffixes_at r (limit - (i + 1)) (suffixed left s) y = rw (h, is) refl in
    sym one ∙ sym (one_suffix limit i r left rest lt) ∙ so_far

pub suffixes_left : (limit i : ℕ) (r : Readers) (left : ExpressionTree) (rest : List Lexeme) (o : Option SuffixTree) (y : List Lexeme) → i < limit → o ≡ None → suffix_at r rest ≡ Ok (o, y) →
    suffixes_at r (limit - i) left rest ≡ Ok (left, rest)
suffixes_left limit i r left rest o y lt is h = one_suffix limit i r left rest lt ∙ rw (h, is) refl

pub suffixes_full : (n : ℕ) (r : Readers) (left : ExpressionTree) (rest : List Lexeme) → n ≡ 0 → suffixes_at r n left rest ≡ Ok (left, rest)
unfolding suffixes_at
suffixes_full n r left rest h = rw h refl

pub suffixes_err : (e : Fault) (all : List Lexeme) (limit i : ℕ) (r : Readers) (left : ExpressionTree) (rest : List Lexeme) (total : Read ExpressionTree) → i < limit → IsFaultOf all e (suffix_at r rest) →
    suffixes_at r (limit - i) left rest ≡ total → IsFaultOf all e total
suffixes_err e all limit i r left rest total lt f so_far =
    passes_on e all (suffix_at r rest) total (λ st g. sym so_far ∙ one_suffix limit i r left rest lt ∙ rw g refl) f

-- a call, by its arguments
pub call_suffix : (r : Readers) (ts us vs : List Lexeme) (t : Lexeme) (es : List ExpressionTree) → Some (t, us) ≡ first ts → t.terminal ≡ T.OpenParenthesis → arguments_at r.assignment_reader us ≡ Ok (es, vs) →
    suffix_at r ts ≡ Ok (Some (a_call t.site (expressions_of es)), vs)
unfolding suffix_at
call_suffix r ts us vs t es h k a = rw (← h, k, a) refl
