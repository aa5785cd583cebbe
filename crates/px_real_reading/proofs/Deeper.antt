-- Where more may be opened, the same is read, but for what nests too deep.
use Rattle.std.proofs.Common.{◌≡◌, ℕ, zero, suc, ◌+◌, Bool, true, false, if◌then◌else◌, List, [], ◌∷◌, ◌++◌, length, Option, Some, None, Result, Ok, Err, refl, sym, ap, subst, ◌∙◌, arith, inl, inr}
use Rattle.std.proofs.lemmas.List.{append-nil}
use Rattle.px_expressions.specs.Reading.{or_else}
use Rattle.px_expressions.proofs.ExactTools.{chosen, bool_is}
use Rattle.px_real_expressions.specs.declared.terminal.Terminal.{Terminal}
use Rattle.px_real_expressions.specs.declared.terminal.Terminal.TheVariants as T
use Rattle.px_real_expressions.specs.declared.operators.Prefix.{Prefix}
use Rattle.px_real_expressions.specs.declared.operators.Operator.{Operator}
use Rattle.px_real_expressions.specs.declared.operators.Measure.{Measure}
use Rattle.px_real_expressions.specs.Lexemes.{Lexeme, same, front, front_if}
use Rattle.px_real_expressions.specs.Operators.{is_identifier, begins_expression, opens_group, wants_unary, operator_at, prefix_of, step_of, measure_of, assignment_of, front_by}
use Rattle.px_real_expressions.specs.ExpressionTree.{ExpressionTree, expressions_of, is_unary, call, member, pointer_member, step, binary, literal}
use Rattle.px_real_expressions.specs.Stops.{Stop, wrong, deep, Read, ◌>>=◌, expect}
use Rattle.px_real_expressions.specs.Reading.{Reader, Readers, closed_at, type_at, braces_at, typed_front, more_items, arguments_at, opened_at, primary_by, primary_of, index_at, suffixes_at, postfix_of, cast_at, typed_at, prefixed_at, shut, shut_group, shut_measure, measured_at, measure_at, operand_of, more_at, chain_at, levels_at, choice_at, conditional_of, assigned_at, assignment_with, conditional_by, assignment_by, expression_by, readers_around, no_readers, readers, expression_at}
use Rattle.px_real_expressions.specs.Grammar.{IsExpression}
use Rattle.px_real_reading.specs.Faults.{all_read, whole_at}
use Rattle.px_real_expressions.proofs.Tools.{bind_ok, same_is}
use Rattle.px_real_expressions.proofs.CastExact.{operand_shut}
use Rattle.px_real_expressions.proofs.OperandExact.{Shut}
use Rattle.px_real_expressions.proofs.ExpressionExact.{conditional_shut, assignment_shut, chain_shut, levels_shut, is_read, expression_exact}

-- the same, or the first nests too deep
pub data Below {A : Type 0} : Result A Stop → Result A Stop → Type 0 where
  alike : {x y : Result A Stop} → x ≡ y → Below x y
  too_deep : {x y : Result A Stop} (us : List Lexeme) → x ≡ Err (deep us) → Below x y

bind_alike : {A B : Type 0} (x : Result A Stop) (f g : A → Result B Stop) → ((a : A) → Below (f a) (g a)) → Below (x >>= f) (x >>= g)
bind_alike (Ok a) f g h = h a
bind_alike (Err s) f g h = alike refl

bind_below : {A B : Type 0} (x y : Result A Stop) (f g : A → Result B Stop) → Below x y → ((a : A) → Below (f a) (g a)) → Below (x >>= f) (y >>= g)
bind_below x y f g (alike e) h = subst (λ z. Below (x >>= f) (z >>= g)) e (bind_alike x f g h)
bind_below x y f g (too_deep us e) h = too_deep us (rw e refl)

else_below : {A B : Type 0} (o : Option A) (f g : A → Result B Stop) (d e : Result B Stop) → ((a : A) → Below (f a) (g a)) → Below d e → Below (or_else o f d) (or_else o g e)
else_below (Some a) f g d e h k = h a
else_below None f g d e h k = k

-- what one reader of what is opened gives, another does, or it nests too deep
abbrev ReadsBelow : Reader ExpressionTree → Reader ExpressionTree → Type 0
ReadsBelow r q = (ts : List Lexeme) → Below (r ts) (q ts)

record AllBelow (r q : Readers) : Type 0 where
  pub opens : r.may_open ≡ true → q.may_open ≡ true
  pub operands : (only : Bool) → ReadsBelow (r.operand_reader only) (q.operand_reader only)
  pub conditionals : ReadsBelow (r.conditional_reader) (q.conditional_reader)
  pub assignments : ReadsBelow (r.assignment_reader) (q.assignment_reader)
  pub expressions : ReadsBelow (r.expression_reader) (q.expression_reader)

-- nothing is read of no lexemes, nor where no expression begins
record Wary (q : Readers) : Type 0 where
  pub operands_shut : (only : Bool) → Shut (q.operand_reader only)
  pub conditionals_shut : Shut (q.conditional_reader)
  pub assignments_shut : Shut (q.assignment_reader)
  pub expressions_shut : Shut (q.expression_reader)
  pub operands_end : (only : Bool) → q.operand_reader only [] ≡ Err (wrong [])
  pub conditionals_end : q.conditional_reader [] ≡ Err (wrong [])
  pub assignments_end : q.assignment_reader [] ≡ Err (wrong [])
  pub expressions_end : q.expression_reader [] ≡ Err (wrong [])
  -- nor behind a parenthesis
  pub groups : (o : Lexeme) (us : List Lexeme) → q.may_open ≡ true → o.terminal ≡ T.OpenParenthesis → typed_front (o ∷ us) ≡ None → shut_group us ≡ wrong us → q.operand_reader true (o ∷ us) ≡ Err (wrong us)

-- ---- what may be opened once more

may_below : {A : Type 0} (b c : Bool) (x y : Result A Stop) (us : List Lexeme) (s : Stop) → (b ≡ true → c ≡ true) → Below x y → Below (if b then x else Err (deep us)) (if c then y else Err s)
may_below true true x y us s h k = k
may_below true false x y us s h k = absurd (let e = h refl in cc)
may_below false c x y us s h k = too_deep us refl

-- where nothing may be opened, an operand nests too deep, or none begins
shut_below : (q : Reader ExpressionTree) → Shut q → q [] ≡ Err (wrong []) → ReadsBelow (λ ts. Err (shut ts)) q
shut_below q s e [] = alike (sym e)
shut_below q s e (t ∷ ts) = by (begins_expression t.terminal) refl
  where
    by : (b : Bool) → begins_expression t.terminal ≡ b → Below (Err (shut (t ∷ ts))) (q (t ∷ ts))
    by true h = too_deep (t ∷ ts) (rw h refl)
    by false h = alike (sym (s t ts h))

nothing_below : (q : Readers) → Wary q → AllBelow no_readers q
nothing_below q w = record {
  opens = λ h. absurd cc;
  operands = λ only. shut_below (q.operand_reader only) (w.operands_shut only) (w.operands_end only);
  conditionals = shut_below (q.conditional_reader) w.conditionals_shut w.conditionals_end;
  assignments = shut_below (q.assignment_reader) w.assignments_shut w.assignments_end;
  expressions = shut_below (q.expression_reader) w.expressions_shut w.expressions_end;
}

module _ (r q : Readers) (p : AllBelow r q) where
  closed_below : (k : Terminal) (a b : Reader ExpressionTree) → ReadsBelow a b → ReadsBelow (closed_at k a) (closed_at k b)
  unfolding closed_at
  closed_below k a b h ts = bind_below (a ts) (b ts) _ _ (h ts) (λ x. alike refl)

  items_below : (n : ℕ) (a b : Reader ExpressionTree) → ReadsBelow a b → (ts : List Lexeme) → Below (more_items n a ts) (more_items n b ts)
  unfolding more_items
  items_below zero a b h ts = alike refl
  items_below (suc n) a b h ts =
      else_below (front T.Comma ts) _ _ _ _
      (λ x. bind_below (a x.1) (b x.1) _ _ (h x.1) (λ y. bind_below (more_items n a y.1) (more_items n b y.1) _ _ (items_below n a b h y.1) (λ z. alike refl)))
      (alike refl)

  arguments_below : (a b : Reader ExpressionTree) → ReadsBelow a b → (ts : List Lexeme) → Below (arguments_at a ts) (arguments_at b ts)
  unfolding arguments_at
  arguments_below a b h ts =
      else_below (front T.CloseParenthesis ts) _ _ _ _ (λ x. alike refl)
      (bind_below (a ts) (b ts) _ _ (h ts) (λ x. bind_below (more_items (length x.1) a x.1) (more_items (length x.1) b x.1) _ _ (items_below (length x.1) a b h x.1) (λ y. alike refl)))

  opened_below : (o : Lexeme) → ReadsBelow (opened_at r o) (opened_at q o)
  unfolding opened_at
  opened_below o ts =
      else_below (front T.OpenBrace ts) _ _ _ _ (λ b. alike refl)
      (bind_below (closed_at T.CloseParenthesis r.expression_reader ts) (closed_at T.CloseParenthesis q.expression_reader ts) _ _ (closed_below T.CloseParenthesis (r.expression_reader) (q.expression_reader) p.expressions ts) (λ x. alike refl))

  primary_by_below : (k : Terminal) (t : Lexeme) → ReadsBelow (primary_by k r t) (primary_by k q t)
  primary_by_below T.OpenParenthesis t ts = opened_below t ts
  primary_by_below _ t ts = alike refl

  primary_below : ReadsBelow (primary_of r) (primary_of q)
  unfolding primary_of
  primary_below [] = alike refl
  primary_below (t ∷ ts) = primary_by_below t.terminal t ts

  index_below : (left : ExpressionTree) (o : Lexeme) → ReadsBelow (index_at r left o) (index_at q left o)
  unfolding index_at
  index_below left o ts =
      may_below r.may_open q.may_open _ _ (o ∷ ts) (deep (o ∷ ts)) p.opens
      (bind_below (closed_at T.CloseBracket r.expression_reader ts) (closed_at T.CloseBracket q.expression_reader ts) _ _ (closed_below T.CloseBracket (r.expression_reader) (q.expression_reader) p.expressions ts) (λ x. alike refl))

  suffixes_below : (n : ℕ) (left : ExpressionTree) → ReadsBelow (suffixes_at r n left) (suffixes_at q n left)
  unfolding suffixes_at
  suffixes_below zero left ts = alike refl
  suffixes_below (suc n) left ts =
      else_below (front T.OpenBracket ts) _ _ _ _
      (λ o. bind_below (index_at r left o.0 o.1) (index_at q left o.0 o.1) _ _ (index_below left o.0 o.1) (λ x. suffixes_below n x.0 x.1))
      (else_below (front T.OpenParenthesis ts) _ _ _ _
      (λ o. bind_below (arguments_at r.assignment_reader o.1) (arguments_at q.assignment_reader o.1) _ _ (arguments_below (r.assignment_reader) (q.assignment_reader) p.assignments o.1) (λ x. suffixes_below n (call o.0.site left (expressions_of x.0)) x.1))
      (else_below (front T.Dot ts) _ _ _ _
      (λ o. else_below (front_if is_identifier o.1) _ _ _ _ (λ f. suffixes_below n (member o.0.site left f.0.text) f.1) (alike refl))
      (else_below (front T.Arrow ts) _ _ _ _
      (λ o. else_below (front_if is_identifier o.1) _ _ _ _ (λ f. suffixes_below n (pointer_member o.0.site left f.0.text) f.1) (alike refl))
      (else_below (front_by step_of ts) _ _ _ _ (λ s. suffixes_below n (step s.0 s.1.site left) s.2) (alike refl)))))

  postfix_below : ReadsBelow (postfix_of r) (postfix_of q)
  unfolding postfix_of
  postfix_below ts = bind_below (primary_of r ts) (primary_of q ts) _ _ (primary_below ts) (λ x. suffixes_below (length x.1) x.0 x.1)

  cast_below : (only : Bool) (o : Lexeme) (held : List Lexeme) → ReadsBelow (cast_at only r o held) (cast_at only q o held)
  unfolding cast_at
  cast_below true o held ts = alike refl
  cast_below false o held ts = bind_below (r.operand_reader false ts) (q.operand_reader false ts) _ _ (p.operands false ts) (λ y. alike refl)

  typed_below : (only : Bool) (o : Lexeme) → ReadsBelow (typed_at only r o) (typed_at only q o)
  unfolding typed_at
  typed_below only o ts =
      bind_alike (closed_at T.CloseParenthesis type_at ts) _ _
      (λ x. else_below (front T.OpenBrace x.1) _ _ _ _ (λ b. bind_alike (braces_at b.1) _ _ (λ y. suffixes_below (length y.1) (literal o.site x.0 y.0) y.1)) (cast_below only o x.0 x.1))

  prefixed_below : (x : Prefix) (t : Lexeme) → ReadsBelow (prefixed_at r x t) (prefixed_at q x t)
  unfolding prefixed_at
  prefixed_below x t ts =
      may_below r.may_open q.may_open _ _ (t ∷ ts) (deep (t ∷ ts)) p.opens
      (bind_below (r.operand_reader (wants_unary x) ts) (q.operand_reader (wants_unary x) ts) _ _ (p.operands (wants_unary x) ts) (λ y. alike refl))

  more_below : (n k : ℕ) (a b : Reader ExpressionTree) → ReadsBelow a b → (left : ExpressionTree) → ReadsBelow (more_at n k a left) (more_at n k b left)
  unfolding more_at
  more_below zero k a b h left ts = alike refl
  more_below (suc n) k a b h left ts =
      else_below (front_by (operator_at k) ts) _ _ _ _ (λ x. bind_below (a x.2) (b x.2) _ _ (h x.2) (λ y. more_below n k a b h (binary x.0 x.1.site left y.0) y.1)) (alike refl)

  chain_below : (k : ℕ) (a b : Reader ExpressionTree) → ReadsBelow a b → ReadsBelow (chain_at k a) (chain_at k b)
  unfolding chain_at
  chain_below k a b h ts = bind_below (a ts) (b ts) _ _ (h ts) (λ x. more_below (length x.1) k a b h x.0 x.1)

  levels_below : (k : ℕ) (a b : Reader ExpressionTree) → ReadsBelow a b → ReadsBelow (levels_at k a) (levels_at k b)
  unfolding levels_at
  levels_below zero a b h ts = h ts
  levels_below (suc k) a b h ts = chain_below (suc k) (levels_at k a) (levels_at k b) (levels_below k a b h) ts

  choice_below : (e : ExpressionTree) (t : Lexeme) → ReadsBelow (choice_at r e t) (choice_at q e t)
  unfolding choice_at
  choice_below e t ts =
      may_below r.may_open q.may_open _ _ (t ∷ ts) (deep (t ∷ ts)) p.opens
      (else_below (front T.Colon ts) _ _ _ _
      (λ c. bind_below (r.conditional_reader c.1) (q.conditional_reader c.1) _ _ (p.conditionals c.1) (λ b. alike refl))
      (bind_below (r.expression_reader ts) (q.expression_reader ts) _ _ (p.expressions ts)
      (λ a. bind_alike (expect T.Colon a.1) _ _ (λ c. bind_below (r.conditional_reader c.1) (q.conditional_reader c.1) _ _ (p.conditionals c.1) (λ b. alike refl)))))

  conditional_below : (a b : Reader ExpressionTree) → ReadsBelow a b → ReadsBelow (conditional_of r a) (conditional_of q b)
  unfolding conditional_of
  conditional_below a b h ts =
      bind_below (a ts) (b ts) _ _ (h ts) (λ x. else_below (front T.Question x.1) _ _ _ _ (λ o. choice_below x.0 o.0 o.1) (alike refl))

  unary_below : (u : Bool) (x y : Read ExpressionTree) (s : Stop) → Below x y → Below (if u then x else Err s) (if u then y else Err s)
  unary_below true x y s h = h
  unary_below false x y s h = alike refl

  assigned_below : (e : ExpressionTree) (o : Option Operator) (t : Lexeme) → ReadsBelow (assigned_at r e o t) (assigned_at q e o t)
  unfolding assigned_at
  assigned_below e o t ts =
      unary_below (is_unary e) _ _ (wrong (t ∷ ts))
      (may_below r.may_open q.may_open _ _ (t ∷ ts) (deep (t ∷ ts)) p.opens
      (bind_below (r.assignment_reader ts) (q.assignment_reader ts) _ _ (p.assignments ts) (λ y. alike refl)))

  assignment_below : (a b : Reader ExpressionTree) → ReadsBelow a b → ReadsBelow (assignment_with r a) (assignment_with q b)
  unfolding assignment_with
  assignment_below a b h ts =
      bind_below (a ts) (b ts) _ _ (h ts) (λ x. else_below (front_by assignment_of x.1) _ _ _ _ (λ o. assigned_below x.0 o.0 o.1 o.2) (alike refl))

module _ (r q : Readers) (p : AllBelow r q) (w : Wary q) where
  measured_below : (m : Measure) (t : Lexeme) (s : Stop) (ts : List Lexeme) → (r.may_open ≡ false → Below (Err s) (measured_at q m t s ts)) → Below (measured_at r m t s ts) (measured_at q m t s ts)
  unfolding measured_at
  measured_below m t s ts k = by (r.may_open) refl
    where
      by : (b : Bool) → r.may_open ≡ b → Below (measured_at r m t s ts) (measured_at q m t s ts)
      by true h = rw (h, p.opens h) (bind_below (r.operand_reader true ts) (q.operand_reader true ts) _ _ (p.operands true ts) (λ y. alike refl))
      by false h = rw h (k h)

  -- where nothing may be opened, what `sizeof` measures nests too deep, or none begins
  shut_measured : (m : Measure) (t : Lexeme) (ts : List Lexeme) → typed_front ts ≡ None → Below (Err (shut_measure ts)) (measured_at q m t (shut_measure ts) ts)
  unfolding measured_at
  shut_measured m t ts none = by (q.may_open) refl
    where
      same_stop : (us : List Lexeme) → q.operand_reader true ts ≡ Err (wrong us) → shut_measure ts ≡ wrong us → q.may_open ≡ true → Below (Err (shut_measure ts)) (measured_at q m t (shut_measure ts) ts)
      same_stop us h e m1 = alike (rw (m1, h, e) refl)

      grouped : (o : Lexeme) (us : List Lexeme) → ts ≡ o ∷ us → o.terminal ≡ T.OpenParenthesis → q.may_open ≡ true → (b : Stop) → shut_group us ≡ b → Below (Err (shut_measure ts)) (measured_at q m t (shut_measure ts) ts)
      grouped o us e ko m1 (deep vs) h = too_deep vs (rw (e, ko, h) refl)
      grouped o us e ko m1 (wrong vs) h =
          let here : shut_group us ≡ wrong us = group_here us vs h in
          same_stop us (ap (q.operand_reader true) e ∙ w.groups o us m1 ko (sym (ap typed_front e) ∙ none) here) (rw (e, ko, here) refl) m1
        where
          group_here : (us vs : List Lexeme) → shut_group us ≡ wrong vs → shut_group us ≡ wrong us
          group_here [] vs h = refl
          group_here (u ∷ us) vs h =
              elim (chosen (opens_group u.terminal) (deep (u ∷ us)) (wrong (u ∷ us)) (wrong vs) h) [
                | inl v ↦ absurd (let z = v.1 in cc)
                | inr v ↦ rw v.0 refl
              ]

      first_is : (us : List Lexeme) → ts ≡ us → q.may_open ≡ true → Below (Err (shut_measure ts)) (measured_at q m t (shut_measure ts) ts)
      first_is [] e m1 = same_stop [] (ap (q.operand_reader true) e ∙ w.operands_end true) (ap shut_measure e) m1
      first_is (u ∷ us) e m1 =
          elim (chosen (same u.terminal T.OpenParenthesis) true false (same u.terminal T.OpenParenthesis) (bool_is _)) [
            | inl v ↦ grouped u us e (same_is u.terminal T.OpenParenthesis v.0) m1 (shut_group us) refl
            | inr v ↦
                let plain : shut_measure ts ≡ shut (u ∷ us) = rw (e, v.0) refl in
                elim (chosen (begins_expression u.terminal) true false (begins_expression u.terminal) (bool_is _)) [
                  | inl b ↦ too_deep (u ∷ us) (rw (plain, b.0) refl)
                  | inr b ↦
                      let stop : shut (u ∷ us) ≡ wrong (u ∷ us) = rw b.0 refl in
                      same_stop (u ∷ us) (ap (q.operand_reader true) e ∙ w.operands_shut true u us b.0 ∙ ap (λ z. Err z) stop) (plain ∙ stop) m1
                ]
          ]

      by : (b : Bool) → q.may_open ≡ b → Below (Err (shut_measure ts)) (measured_at q m t (shut_measure ts) ts)
      by false h = alike (rw h refl)
      by true h = first_is ts refl h

  measure_below : (m : Measure) (t : Lexeme) → ReadsBelow (measure_at r m t) (measure_at q m t)
  unfolding measure_at
  measure_below m t ts = by (typed_front ts) refl
    where
      by : (o : Option (Lexeme × List Lexeme)) → typed_front ts ≡ o → Below (measure_at r m t ts) (measure_at q m t ts)
      by None h = rw h (measured_below m t (shut_measure ts) ts (λ no. shut_measured m t ts h))
      by (Some o) h =
          rw h
          (bind_alike (closed_at T.CloseParenthesis type_at o.1) _ _
          (λ x. else_below (front T.OpenBrace x.1) _ _ _ _ (λ b. measured_below m t (deep x.1) ts (λ no. too_deep x.1 refl)) (alike refl)))

  operand_below : (only : Bool) → ReadsBelow (operand_of only r) (operand_of only q)
  unfolding operand_of
  operand_below only ts =
      else_below (front_by prefix_of ts) _ _ _ _ (λ x. prefixed_below r q p x.0 x.1 x.2)
      (else_below (front T.AndAnd ts) _ _ _ _ (λ x. alike refl)
      (else_below (front_by measure_of ts) _ _ _ _ (λ x. measure_below x.0 x.1 x.2)
      (else_below (typed_front ts) _ _ _ _ (λ o. typed_below r q p only o.0 o.1) (postfix_below r q p ts))))

  one_more_below : AllBelow (readers_around r) (readers_around q)
  one_more_below =
      let levels : ReadsBelow (levels_at 10 (operand_of false r)) (levels_at 10 (operand_of false q)) = levels_below r q p 10 (operand_of false r) (operand_of false q) (operand_below false) in
      let conditionals : ReadsBelow (conditional_by r) (conditional_by q) = conditional_below r q p (levels_at 10 (operand_of false r)) (levels_at 10 (operand_of false q)) levels in
      let assignments : ReadsBelow (assignment_by r) (assignment_by q) = assignment_below r q p (conditional_by r) (conditional_by q) conditionals in
      record {
        opens = λ h. refl;
        operands = operand_below;
        conditionals = conditionals;
        assignments = assignments;
        expressions = chain_below r q p 13 (assignment_by r) (assignment_by q) assignments;
      }

-- ---- every depth

levels_end : (k : ℕ) (u : Reader ExpressionTree) → u [] ≡ Err (wrong []) → levels_at k u [] ≡ Err (wrong [])
unfolding levels_at chain_at
levels_end zero u h = h
levels_end (suc k) u h = rw (levels_end k u h) refl

operand_end : (only : Bool) (r : Readers) → operand_of only r [] ≡ Err (wrong [])
unfolding operand_of typed_front postfix_of primary_of
operand_end only r = refl

conditional_end : (r : Readers) → conditional_by r [] ≡ Err (wrong [])
unfolding conditional_of
conditional_end r = rw (levels_end 10 (operand_of false r) (operand_end false r)) refl

assignment_end : (r : Readers) → assignment_by r [] ≡ Err (wrong [])
unfolding assignment_with
assignment_end r = rw (conditional_end r) refl

expression_end : (r : Readers) → expression_by r [] ≡ Err (wrong [])
unfolding chain_at
expression_end r = rw (assignment_end r) refl

not_begun : (k : Terminal) → opens_group k ≡ false → begins_expression k ≡ false
not_begun T.OpenBrace h = refl
not_begun _ h = h

not_brace : (k : Terminal) → opens_group k ≡ false → same k T.OpenBrace ≡ false
not_brace T.OpenBrace h = absurd cc
not_brace _ h = refl

group_stops : (r : Readers) → Wary r → (o : Lexeme) (us : List Lexeme) → o.terminal ≡ T.OpenParenthesis → typed_front (o ∷ us) ≡ None → shut_group us ≡ wrong us → operand_of true r (o ∷ us) ≡ Err (wrong us)
unfolding operand_of postfix_of primary_of opened_at closed_at
group_stops r w o [] ko none h = rw (none, ko, w.expressions_end) refl
group_stops r w o (u ∷ us) ko none h =
    elim (chosen (opens_group u.terminal) (deep (u ∷ us)) (wrong (u ∷ us)) (wrong (u ∷ us)) h) [
      | inl v ↦ absurd (let z = v.1 in cc)
      | inr v ↦
          let shut_here : shut (u ∷ us) ≡ wrong (u ∷ us) = rw (not_begun u.terminal v.0) refl in
          let stop : r.expression_reader (u ∷ us) ≡ Err (wrong (u ∷ us)) = w.expressions_shut u us (not_begun u.terminal v.0) ∙ ap (λ z. Err z) shut_here in
          rw (none, ko, not_brace u.terminal v.0, stop) refl
    ]

wary : (d : ℕ) → Wary (readers d)
unfolding readers
wary zero = record {
  operands_shut = λ only t ts h. refl;
  conditionals_shut = λ t ts h. refl;
  assignments_shut = λ t ts h. refl;
  expressions_shut = λ t ts h. refl;
  operands_end = λ only. refl;
  conditionals_end = refl;
  assignments_end = refl;
  expressions_end = refl;
  groups = λ o us m ko none h. absurd cc;
}
wary (suc d) =
    let r : Readers = readers d in
    let conditionals : Shut (conditional_by r) = conditional_shut r (levels_at 10 (operand_of false r)) (levels_shut (operand_of false r) (operand_shut false r) 10) in
    let assignments : Shut (assignment_by r) = assignment_shut r (conditional_by r) conditionals in
    record {
      operands_shut = λ only. operand_shut only r;
      conditionals_shut = conditionals;
      assignments_shut = assignments;
      expressions_shut = chain_shut 13 (assignment_by r) assignments;
      operands_end = λ only. operand_end only r;
      conditionals_end = conditional_end r;
      assignments_end = assignment_end r;
      expressions_end = expression_end r;
      groups = λ o us m ko none h. group_stops r (wary d) o us ko none h;
    }

next_below : (d : ℕ) → AllBelow (readers d) (readers (suc d))
unfolding readers
next_below zero = nothing_below (readers 1) (wary 1)
next_below (suc d) = one_more_below (readers d) (readers (suc d)) (next_below d) (wary (suc d))

below_both : {A : Type 0} (x y z : Result A Stop) → Below x y → Below y z → Below x z
below_both x y z (alike e) h = subst (λ v. Below v z) (sym e) h
below_both x y z (too_deep us e) h = too_deep us e

-- where k more may be opened
expression_below : (k d : ℕ) (ts : List Lexeme) → Below (expression_at d ts) (expression_at (k + d) ts)
unfolding expression_at
expression_below zero d ts = let e : zero + d ≡ d = omega arith in subst (λ z. Below (expression_at d ts) (expression_at z ts)) (sym e) (alike refl)
expression_below (suc k) d ts =
    let e : suc k + d ≡ suc (k + d) = omega arith in
    let last : Below ((readers (suc (k + d))).expression_reader ts) ((readers (suc (suc (k + d)))).expression_reader ts) = (next_below (suc (k + d))).expressions ts in
    below_both _ _ _ (expression_below k d ts) (subst (λ z. Below ((readers (suc (k + d))).expression_reader ts) ((readers (suc z)).expression_reader ts)) (sym e) last)

whole_below : (k d : ℕ) (ts : List Lexeme) → Below (whole_at d ts) (whole_at (k + d) ts)
whole_below k d ts = bind_below (expression_at d ts) (expression_at (k + d) ts) _ _ (expression_below k d ts) (λ x. alike refl)

-- lexemes that are an expression are read whole
pub whole_is_read : (d : ℕ) (ts : List Lexeme) (e : ExpressionTree) → IsExpression d ts e → whole_at d ts ≡ Ok e
whole_is_read d ts e g = rw (is_read d ts e g) refl

-- where a lexeme is wrong at some depth, there is no expression at any
pub never : (d at : ℕ) (ts us : List Lexeme) (e : ExpressionTree) → whole_at d ts ≡ Err (wrong us) → IsExpression at ts e → ⊥
never d at ts us e h g =
    let one : whole_at (at + d) ts ≡ Err (wrong us) = wrong_stays (whole_below at d ts) h in
    let two : whole_at (d + at) ts ≡ Ok e = read_stays (whole_below d at ts) (whole_is_read at ts e g) in
    let same : d + at ≡ at + d = omega arith in
    let three : whole_at (at + d) ts ≡ Ok e = subst (λ z. whole_at z ts ≡ Ok e) same two in
    differ _ one three
  where
    wrong_stays : {x y : Result ExpressionTree Stop} → Below x y → x ≡ Err (wrong us) → y ≡ Err (wrong us)
    wrong_stays (alike f) k = sym f ∙ k
    wrong_stays (too_deep vs f) k = absurd cc

    read_stays : {x y : Result ExpressionTree Stop} → Below x y → x ≡ Ok e → y ≡ Ok e
    read_stays (alike f) k = sym f ∙ k
    read_stays (too_deep vs f) k = absurd cc

    differ : (x : Result ExpressionTree Stop) → x ≡ Err (wrong us) → x ≡ Ok e → ⊥
    differ x h g = absurd cc

-- what is read whole is an expression
pub whole_is : (d : ℕ) (ts : List Lexeme) (e : ExpressionTree) → whole_at d ts ≡ Ok e → IsExpression d ts e
whole_is d ts e h =
    let b = bind_ok (expression_at d ts) (λ x. all_read x.0 x.1) e h in
    let none = left_nothing b.0.0 b.0.1 e b.2 in
    let read = (expression_exact d).sound ts b.0.0 b.0.1 b.1 in
    let parts : ts ≡ read.front = read.parts ∙ ap (λ z. read.front ++ z) none.0 ∙ append-nil read.front in
    subst (λ z. IsExpression d z e) (sym parts) (subst (λ z. IsExpression d read.front z) none.1 read.is)
  where
    left_nothing : (a : ExpressionTree) (us : List Lexeme) (e : ExpressionTree) → all_read a us ≡ Ok e → (us ≡ []) × (a ≡ e)
    left_nothing a [] e h = (refl, cc)
    left_nothing a (u ∷ us) e h = absurd cc

-- the reader of the code is the grammar's
pub expression_is_at : (d : ℕ) (ts : List Lexeme) → expression_at d ts ≡ expression_by (readers d) ts
unfolding expression_at readers
expression_is_at d ts = refl

pub whole_is_by : (d : ℕ) (ts : List Lexeme) → whole_at d ts ≡ (expression_by (readers d) ts >>= λ x. all_read x.0 x.1)
whole_is_by d ts = ap (λ z. z >>= λ x. all_read x.0 x.1) (expression_is_at d ts)
