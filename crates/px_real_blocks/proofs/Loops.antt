-- What the loops of the reader keep, turn by turn.
use Rattle.std.proofs.Common.{◌≡◌, ℕ, suc, ◌-◌, ◌+◌, ◌<◌, List, [], ◌∷◌, ◌++◌, Option, Some, None, Result, Ok, Err, refl, sym, ap, subst, ◌∙◌, append_assoc, arith}
use Rattle.std.proofs.lemmas.List.{append-nil}
use Rattle.std.proofs.lemmas.Option.{same_Some}
use Rattle.px_real_expressions.specs.declared.terminal.Terminal.TheVariants as T
use Rattle.px_real_expressions.specs.Lexemes.{Lexeme, front}
use Rattle.px_real_expressions.specs.Stops.{Stop, Read, ◌>>=◌, expect}
use Rattle.px_real_expressions.specs.Reading.{Reader, held_up_to}
use Rattle.px_real_symbols.specs.declared.fault.Fault.{Fault}
use Rattle.px_real_symbols.specs.Answers.{IsFaultOf}
use Rattle.px_real_symbols.proofs.AnswerLemmas.{passes_on}
use Rattle.px_real_expressions.proofs.Tools.{done}
use Rattle.px_real_statements.specs.StatementTree.{LabelTree, StatementTree, unread}
use Rattle.px_real_statements.specs.Reading.{label_at, labels_at, items_at}
use Rattle.px_real_statements.proofs.LabelExact.{ReadLabel, label_sound}
use Rattle.px_real_blocks.specs.Parts.{read_of, unread_at}

-- these, and then what is read
abbrev pub after_all : {A : Type 0} → List A → Read (List A) → Read (List A)
after_all before read = read >>= λ y. Ok (before ++ y.0, y.1)

pub after_none : {A : Type 0} (r : Read (List A)) → after_all [] r ≡ r
after_none (Ok x) = refl
after_none (Err s) = refl

pub after_one : {A : Type 0} (before : List A) (a : A) (r : Read (List A)) → after_all (before ++ a ∷ []) r ≡ after_all before (r >>= λ y. Ok (a ∷ y.0, y.1))
after_one before a (Ok x) = ap (λ z. Ok (z, x.1)) (append_assoc before (a ∷ []) x.0)
after_one before a (Err s) = refl

pub after_last : {A : Type 0} (before : List A) (ts : List Lexeme) → after_all before (Ok ([], ts)) ≡ Ok (before, ts)
after_last before ts = ap (λ z. Ok (z, ts)) (append-nil before)

-- ---- labels

-- where no label was read, nothing was
none_read : (ts us : List Lexeme) (o : Option LabelTree) → o ≡ None → label_at ts ≡ Ok (o, us) → ts ≡ us
none_read ts us o n h = subst (λ z. ReadLabel ts z us) n (label_sound ts o us h)

pub labels_left : (limit i : ℕ) (before : List LabelTree) (rest us : List Lexeme) (o : Option LabelTree) (total : Read (List LabelTree)) → i < limit → o ≡ None → label_at rest ≡ Ok (o, us) →
    after_all before (labels_at (limit - i) rest) ≡ total → total ≡ Ok (before, rest)
unfolding labels_at
labels_left limit i before rest us o total lt n h so_far =
    let s : limit - i ≡ suc (limit - (i + 1)) = omega arith in
    let e : us ≡ rest = sym (none_read rest us o n h) in
    sym so_far ∙ rw (s, h, n, e) (after_last before rest)

pub labels_next : (limit i : ℕ) (before : List LabelTree) (rest us : List Lexeme) (o : Option LabelTree) (l : LabelTree) (total : Read (List LabelTree)) → i < limit → o ≡ Some l → label_at rest ≡ Ok (o, us) →
    after_all before (labels_at (limit - i) rest) ≡ total → after_all (before ++ l ∷ []) (labels_at (limit - (i + 1)) us) ≡ total
unfolding labels_at
labels_next limit i before rest us o l total lt n h so_far =
    let s : limit - i ≡ suc (limit - (i + 1)) = omega arith in
    let one : labels_at (limit - i) rest ≡ (labels_at (limit - (i + 1)) us >>= λ y. Ok (l ∷ y.0, y.1)) = rw (s, h, n) refl in
    after_one before l (labels_at (limit - (i + 1)) us) ∙ ap (after_all before) (sym one) ∙ so_far

pub labels_err : (e : Fault) (all : List Lexeme) (limit i : ℕ) (before : List LabelTree) (rest : List Lexeme) (total : Read (List LabelTree)) → i < limit → IsFaultOf all e (label_at rest) →
    after_all before (labels_at (limit - i) rest) ≡ total → IsFaultOf all e total
unfolding labels_at
labels_err e all limit i before rest total lt f so_far =
    let s : limit - i ≡ suc (limit - (i + 1)) = omega arith in
    passes_on e all (label_at rest) total (λ st g. sym so_far ∙ rw (s, g) refl) f

pub labels_full : (n : ℕ) (before : List LabelTree) (rest : List Lexeme) (total : Read (List LabelTree)) → n ≡ 0 → after_all before (labels_at n rest) ≡ total → total ≡ Ok (before, rest)
unfolding labels_at
labels_full n before rest total h so_far = sym so_far ∙ rw h (after_last before rest)

-- ---- items

was_read : {A : Type 0} (r : Result A Stop) (x : A) → Some x ≡ read_of r → r ≡ Ok x
was_read (Ok y) x h = ap (λ z. Ok z) (same_Some y x (sym h))
was_read (Err s) x h = absurd cc

was_none : {A : Type 0} (r : Result A Stop) → None ≡ read_of r → (s : Stop) × (r ≡ Err s)
was_none (Ok y) h = absurd cc
was_none (Err s) h = (s, refl)

pub items_end : (limit i : ℕ) (inside : Reader StatementTree) (before : List StatementTree) (rest : List Lexeme) (x : Lexeme × List Lexeme) (total : Read (List StatementTree)) → i < limit → Some x ≡ front T.CloseBrace rest →
    after_all before (items_at (limit - i) inside rest) ≡ total → total ≡ Ok (before, rest)
unfolding items_at
items_end limit i inside before rest x total lt h so_far =
    let s : limit - i ≡ suc (limit - (i + 1)) = omega arith in
    sym so_far ∙ rw (s, ← h) (after_last before rest)

pub items_next : (limit i : ℕ) (inside : Reader StatementTree) (before : List StatementTree) (rest : List Lexeme) (x : StatementTree × List Lexeme) (total : Read (List StatementTree)) → i < limit → None ≡ front T.CloseBrace rest →
    Some x ≡ read_of (inside rest) → after_all before (items_at (limit - i) inside rest) ≡ total → after_all (before ++ x.0 ∷ []) (items_at (limit - (i + 1)) inside x.1) ≡ total
unfolding items_at
items_next limit i inside before rest x total lt n g so_far =
    let h : inside rest ≡ Ok x = was_read (inside rest) x g in
    let s : limit - i ≡ suc (limit - (i + 1)) = omega arith in
    let one : items_at (limit - i) inside rest ≡ (items_at (limit - (i + 1)) inside x.1 >>= λ y. Ok (x.0 ∷ y.0, y.1)) = rw (s, ← n, h) refl in
    after_one before x.0 (items_at (limit - (i + 1)) inside x.1) ∙ ap (after_all before) (sym one) ∙ so_far

-- where a statement isn't read, all up to the brace is the last
unread_last : (ts : List Lexeme) → (held_up_to T.CloseBrace ts >>= λ x. expect T.CloseBrace x.1 >>= λ c. done (unread x.0 ∷ []) x.1) ≡ (unread_at ts >>= λ x. done (x.0 ∷ []) x.1)
unfolding unread_at
unread_last ts = by (held_up_to T.CloseBrace ts)
  where
    more : (a us : List Lexeme) (r : Result (Lexeme × List Lexeme) Stop) → (r >>= λ c. done (unread a ∷ []) us) ≡ (r >>= (λ c. done (unread a) us) >>= λ x. done (x.0 ∷ []) x.1)
    more a us (Ok c) = refl
    more a us (Err s) = refl

    by : (r : Read (List Lexeme)) → (r >>= λ x. expect T.CloseBrace x.1 >>= λ c. done (unread x.0 ∷ []) x.1) ≡ (r >>= (λ x. expect T.CloseBrace x.1 >>= λ c. done (unread x.0) x.1) >>= λ x. done (x.0 ∷ []) x.1)
    by (Ok x) = more x.0 x.1 (expect T.CloseBrace x.1)
    by (Err s) = refl

items_stop : (limit i : ℕ) (inside : Reader StatementTree) (before : List StatementTree) (rest : List Lexeme) (s : Stop) (total : Read (List StatementTree)) → i < limit → None ≡ front T.CloseBrace rest → inside rest ≡ Err s →
    after_all before (items_at (limit - i) inside rest) ≡ total → total ≡ after_all before (unread_at rest >>= λ x. done (x.0 ∷ []) x.1)
unfolding items_at
items_stop limit i inside before rest s total lt n h so_far =
    let l : limit - i ≡ suc (limit - (i + 1)) = omega arith in
    let one : items_at (limit - i) inside rest ≡ (held_up_to T.CloseBrace rest >>= λ x. expect T.CloseBrace x.1 >>= λ c. done (unread x.0 ∷ []) x.1) = rw (l, ← n, h) refl in
    sym so_far ∙ ap (after_all before) (one ∙ unread_last rest)

pub items_unread : (limit i : ℕ) (inside : Reader StatementTree) (before : List StatementTree) (rest : List Lexeme) (x : StatementTree × List Lexeme) (total : Read (List StatementTree)) → i < limit →
    None ≡ front T.CloseBrace rest → None ≡ read_of (inside rest) → unread_at rest ≡ Ok x → after_all before (items_at (limit - i) inside rest) ≡ total → total ≡ Ok (before ++ x.0 ∷ [], x.1)
items_unread limit i inside before rest x total lt n h g so_far = let w = was_none (inside rest) h in items_stop limit i inside before rest w.0 total lt n w.1 so_far ∙ rw g refl

pub items_err : (e : Fault) (all : List Lexeme) (limit i : ℕ) (inside : Reader StatementTree) (before : List StatementTree) (rest : List Lexeme) (total : Read (List StatementTree)) → i < limit →
    None ≡ front T.CloseBrace rest → None ≡ read_of (inside rest) → IsFaultOf all e (unread_at rest) → after_all before (items_at (limit - i) inside rest) ≡ total → IsFaultOf all e total
items_err e all limit i inside before rest total lt n h f so_far =
    let w = was_none (inside rest) h in
    passes_on e all (unread_at rest) total (λ st g. items_stop limit i inside before rest w.0 total lt n w.1 so_far ∙ rw g refl) f

pub items_full : (n : ℕ) (inside : Reader StatementTree) (before : List StatementTree) (rest : List Lexeme) (total : Read (List StatementTree)) → n ≡ 0 → after_all before (items_at n inside rest) ≡ total → total ≡ Ok (before, rest)
unfolding items_at
items_full n inside before rest total h so_far = sym so_far ∙ rw h (after_last before rest)
