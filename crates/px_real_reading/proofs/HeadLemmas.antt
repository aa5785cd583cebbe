-- An operand is how it begins and how it goes on.
use Rattle.std.proofs.Common.{◌≡◌, Bool, true, false, if◌then◌else◌, List, [], ◌∷◌, length, Option, Some, None, Result, Ok, Err, refl, sym, ap, ◌∙◌}
use Rattle.px_expressions.specs.Reading.{or_else}
use Rattle.px_real_expressions.specs.declared.terminal.Terminal.{Terminal}
use Rattle.px_real_expressions.specs.declared.terminal.Terminal.TheVariants as T
use Rattle.px_real_expressions.specs.declared.operators.Prefix.{Prefix}
use Rattle.px_real_expressions.specs.declared.operators.Measure.{Measure}
use Rattle.px_real_expressions.specs.Lexemes.{Lexeme, front}
use Rattle.px_real_expressions.specs.Operators.{prefix_of, measure_of, front_by}
use Rattle.px_real_expressions.specs.ExpressionTree.{ExpressionTree, parenthesised, statement}
use Rattle.px_real_expressions.specs.Stops.{Stop, wrong, deep, Read, ◌>>=◌, expect}
use Rattle.px_real_expressions.specs.Reading.{Readers, closed_at, type_at, braces_at, typed_front, opened_at, form_at, primary_by, primary_of, suffixes_at, postfix_of, cast_at, typed_at, prefixed_at, shut_measure, measured_at, measure_at, label_at, operand_of}
use Rattle.px_real_expressions.proofs.Tools.{by_is}
use Rattle.px_real_reading.specs.Heads.{HeadTree, before, measures, casts, alone, first_of, group, measure_head, typed_head, group_head, primary_head_by, primary_head, head_at, after_head}

abbrev goes_on : Readers → HeadTree × List Lexeme → Read ExpressionTree
goes_on r h = after_head h.0 r h.1

-- a step more behind a choice
else_bind : {A B C : Type 0} (o : Option A) (f : A → Result B Stop) (d : Result B Stop) (k : B → Result C Stop) (g : A → Result C Stop) (e : Result C Stop) →
    ((a : A) → g a ≡ (f a >>= k)) → e ≡ (d >>= k) → or_else o g e ≡ (or_else o f d >>= k)
else_bind (Some a) f d k g e h q = h a
else_bind None f d k g e h q = q

bind_bind : {A B C : Type 0} (x : Result A Stop) (f : A → Result B Stop) (k : B → Result C Stop) (g : A → Result C Stop) → ((a : A) → g a ≡ (f a >>= k)) → (x >>= g) ≡ (x >>= f >>= k)
bind_bind (Ok a) f k g h = h a
bind_bind (Err s) f k g h = refl

may_bind : {B C : Type 0} (b : Bool) (x : B) (s : Stop) (k : B → Result C Stop) → (if b then k x else Err s) ≡ ((if b then Ok x else Err s) >>= k)
may_bind true x s k = refl
may_bind false x s k = refl

only_bind : {B C : Type 0} (b : Bool) (x : B) (s : Stop) (k : B → Result C Stop) → (if b then Err s else k x) ≡ ((if b then Err s else Ok x) >>= k)
only_bind true x s k = refl
only_bind false x s k = refl

measure_parts : (r : Readers) (m : Measure) (t : Lexeme) (ts : List Lexeme) → measure_at r m t ts ≡ (measure_head r.may_open m t ts >>= goes_on r)
unfolding measure_at measured_at measure_head
measure_parts r m t ts =
    else_bind (typed_front ts) _ _ (goes_on r) _ _
    (λ o. bind_bind (closed_at T.CloseParenthesis type_at o.1) _ (goes_on r) _
    (λ x. else_bind (front T.OpenBrace x.1) _ _ (goes_on r) _ _ (λ b. may_bind r.may_open (measures m t.site, ts) (deep x.1) (goes_on r)) refl))
    (may_bind r.may_open (measures m t.site, ts) (shut_measure ts) (goes_on r))

typed_parts : (only : Bool) (r : Readers) (o : Lexeme) (ts : List Lexeme) → typed_at only r o ts ≡ (typed_head only o ts >>= goes_on r)
unfolding typed_at cast_at typed_head
typed_parts only r o ts =
    bind_bind (closed_at T.CloseParenthesis type_at ts) _ (goes_on r) _
    (λ x. else_bind (front T.OpenBrace x.1) _ _ (goes_on r) _ _ (λ b. bind_bind (braces_at b.1) _ (goes_on r) _ (λ y. refl)) (only_bind only (casts o.site x.0, x.1) (wrong x.1) (goes_on r)))

-- a primary, and the suffixes after it
abbrev with_suffixes : Readers → ExpressionTree × List Lexeme → Read ExpressionTree
with_suffixes r x = suffixes_at r (length x.1) x.0 x.1

group_parts : (r : Readers) (o : Lexeme) (ts : List Lexeme) → (opened_at r o ts >>= with_suffixes r) ≡ (group_head o ts >>= goes_on r)
unfolding opened_at group_head
group_parts r o ts = by (front T.OpenBrace ts)
  where
    grouped : (c : Read ExpressionTree) → (c >>= (λ x. Ok (parenthesised o.site x.0, x.1)) >>= with_suffixes r) ≡ (c >>= λ x. suffixes_at r (length x.1) (parenthesised o.site x.0) x.1)
    grouped (Ok x) = refl
    grouped (Err s) = refl

    closed : (x : List Lexeme) (c : Result (Lexeme × List Lexeme) Stop) →
        ((c >>= λ y. Ok (statement o.site x, y.1)) >>= with_suffixes r) ≡ ((c >>= λ y. Ok (first_of (statement o.site x), y.1)) >>= goes_on r)
    closed x (Ok y) = refl
    closed x (Err s) = refl

    held : (c : Read (List Lexeme)) →
        ((c >>= λ x. expect T.CloseParenthesis x.1 >>= λ y. Ok (statement o.site x.0, y.1)) >>= with_suffixes r)
        ≡ ((c >>= λ x. expect T.CloseParenthesis x.1 >>= λ y. Ok (first_of (statement o.site x.0), y.1)) >>= goes_on r)
    held (Ok x) = closed x.0 (expect T.CloseParenthesis x.1)
    held (Err s) = refl

    by : (b : Option (Lexeme × List Lexeme)) →
        (or_else b (λ b. braces_at b.1 >>= λ x. expect T.CloseParenthesis x.1 >>= λ c. Ok (statement o.site x.0, c.1)) (closed_at T.CloseParenthesis r.expression_reader ts >>= λ x. Ok (parenthesised o.site x.0, x.1)) >>= with_suffixes r)
        ≡ (or_else b (λ b. braces_at b.1 >>= λ x. expect T.CloseParenthesis x.1 >>= λ c. Ok (first_of (statement o.site x.0), c.1)) (Ok (group o.site, ts)) >>= goes_on r)
    by (Some b) = held (braces_at b.1)
    by None = grouped (closed_at T.CloseParenthesis r.expression_reader ts)

form_parts : (r : Readers) (c : Read ExpressionTree) → (c >>= with_suffixes r) ≡ (c >>= (λ x. Ok (first_of x.0, x.1)) >>= goes_on r)
form_parts r (Ok x) = refl
form_parts r (Err s) = refl

primary_by_parts : (k : Terminal) (r : Readers) (t : Lexeme) (ts : List Lexeme) → (primary_by k r t ts >>= with_suffixes r) ≡ (primary_head_by k t ts >>= goes_on r)
primary_by_parts T.Form r t ts = form_parts r (form_at t ts)
primary_by_parts T.OpenParenthesis r t ts = group_parts r t ts
primary_by_parts _ r t ts = refl

postfix_parts : (r : Readers) (ts : List Lexeme) → postfix_of r ts ≡ (primary_head ts >>= goes_on r)
unfolding postfix_of primary_of primary_head
postfix_parts r [] = refl
postfix_parts r (t ∷ ts) = primary_by_parts t.terminal r t ts

label_parts : (r : Readers) (c : Read ExpressionTree) → c ≡ (c >>= (λ y. Ok (alone y.0, y.1)) >>= goes_on r)
label_parts r (Ok y) = refl
label_parts r (Err s) = refl

pub operand_parts : (only : Bool) (r : Readers) (ts : List Lexeme) → operand_of only r ts ≡ (head_at only r.may_open ts >>= goes_on r)
unfolding operand_of prefixed_at head_at
operand_parts only r ts =
    else_bind (front_by prefix_of ts) _ _ (goes_on r) _ _ (λ x. may_bind r.may_open (before x.0 x.1.site, x.2) (deep (x.1 ∷ x.2)) (goes_on r))
    (else_bind (front T.AndAnd ts) _ _ (goes_on r) _ _ (λ x. label_parts r (label_at x.0 x.1))
    (else_bind (front_by measure_of ts) _ _ (goes_on r) _ _ (λ x. measure_parts r x.0 x.1 x.2)
    (else_bind (typed_front ts) _ _ (goes_on r) _ _ (λ o. typed_parts only r o.0 o.1)
    (postfix_parts r ts))))

-- what is read of a whole operand, by what was read of its head
pub operand_read : (only : Bool) (r : Readers) (may : Bool) (ts us : List Lexeme) (h : HeadTree) → r.may_open ≡ may → head_at only may ts ≡ Ok (h, us) → operand_of only r ts ≡ after_head h r us
operand_read only r may ts us h m e = operand_parts only r ts ∙ rw (m, e) refl

pub operand_stops : (only : Bool) (r : Readers) (may : Bool) (ts : List Lexeme) (s : Stop) → r.may_open ≡ may → head_at only may ts ≡ Err s → operand_of only r ts ≡ Err s
operand_stops only r may ts s m e = operand_parts only r ts ∙ rw (m, e) refl

-- an operator before an operand, where nothing may be opened
pub prefix_shut : (only may : Bool) (ts : List Lexeme) (x : Prefix × Lexeme × List Lexeme) → Some x ≡ front_by prefix_of ts → may ≡ false → head_at only may ts ≡ Err (deep ts)
unfolding head_at
prefix_shut only may ts x h m = rw (← h, m) (ap (λ z. Err (deep z)) (sym (by_is prefix_of ts x (sym h)).1))
