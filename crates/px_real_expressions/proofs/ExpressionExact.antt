-- Expressions at every depth: what is read is in the grammar, and what is in the grammar is read; so tokens are one expression at most.
use Rattle.std.proofs.Common.{◌≡◌, ℕ, zero, suc, false, List, [], ◌∷◌, ◌++◌, Option, Some, None, Ok, Err, refl, sym, ap, subst, ◌∙◌, append_assoc, append-nil, arith, inl, inr}
use Rattle.px_expressions.proofs.ExactTools.{chosen, either}
use Rattle.px_real_expressions.specs.declared.terminal.Terminal.{Terminal}
use Rattle.px_real_expressions.specs.declared.terminal.Terminal.TheVariants as T
use Rattle.px_real_expressions.specs.declared.operators.Operator.{Operator}
use Rattle.px_real_expressions.specs.Lexemes.{Lexeme, front}
use Rattle.px_real_expressions.specs.Operators.{level_of, assignment_of, front_by}
use Rattle.px_real_expressions.specs.ExpressionTree.{ExpressionTree, is_unary, choice, choice_or, assign}
use Rattle.px_real_expressions.specs.Grammar.{Gram, Inside, CastOf, Levels, ConditionalOf, is_condition, is_choice, is_choice_or, AssignmentOf, is_conditional, is_assignment, conditional_in, assignment_in, expression_in, around, nothing_inside, inside, IsExpression}
use Rattle.px_real_expressions.specs.Stops.{wrong, deep}
use Rattle.px_real_expressions.specs.Reading.{Reader, Readers, shut, operand_of, chain_at, levels_at, choice_at, conditional_of, assigned_at, assignment_with, conditional_by, assignment_by, expression_by, readers_around, no_readers, readers, expression_at}
use Rattle.px_real_expressions.proofs.Tools.{done, both_are, front_is, front_bind, front_here, by_is, Reads, Exact, part_bind, Stops, stops_less, stops_at, not_at, not_by}
use Rattle.px_real_expressions.proofs.ChainExact.{chain_exact, levels_exact}
use Rattle.px_real_expressions.proofs.OperandExact.{Shut, not_front, AllExact, suffix_parts}
use Rattle.px_real_expressions.proofs.CastExact.{operand_shut, operand_exact, operand_literals}

assignment_level : (k : Terminal) (o : Option Operator) → assignment_of k ≡ Some o → level_of k ≡ 12
assignment_level T.Equal o h = refl
assignment_level T.StarEqual o h = refl
assignment_level T.SlashEqual o h = refl
assignment_level T.PercentEqual o h = refl
assignment_level T.PlusEqual o h = refl
assignment_level T.MinusEqual o h = refl
assignment_level T.ShiftLeftEqual o h = refl
assignment_level T.ShiftRightEqual o h = refl
assignment_level T.AmpersandEqual o h = refl
assignment_level T.CaretEqual o h = refl
assignment_level T.BarEqual o h = refl
assignment_level _ o h = absurd cc

no_assignment : (rest : List Lexeme) → Stops 12 rest → front_by assignment_of rest ≡ None
no_assignment rest s = not_by assignment_of 12 rest (λ k o e. let l = assignment_level k o e in omega arith) s

pub levels_shut : (u : Reader ExpressionTree) → Shut u → (k : ℕ) → Shut (levels_at k u)
unfolding levels_at chain_at
levels_shut u s zero = s
levels_shut u s (suc k) = λ t ts h. rw (levels_shut u s k t ts h) refl

assoc_one : (us : List Lexeme) (t : Lexeme) (vs rest : List Lexeme) → (us ++ t ∷ vs) ++ rest ≡ us ++ t ∷ (vs ++ rest)
assoc_one us t vs rest = append_assoc us (t ∷ vs) rest

assoc_two : (us : List Lexeme) (t d : Lexeme) (vs rest : List Lexeme) → (us ++ t ∷ d ∷ vs) ++ rest ≡ us ++ t ∷ d ∷ (vs ++ rest)
assoc_two us t d vs rest = append_assoc us (t ∷ d ∷ vs) rest

choice_parts : (us ws ts vs rest : List Lexeme) (t d : Lexeme) (ts1 : List Lexeme) → ts ≡ us ++ t ∷ ts1 → ts1 ≡ ws ++ d ∷ (vs ++ rest) → ts ≡ (us ++ t ∷ (ws ++ d ∷ vs)) ++ rest
choice_parts us ws ts vs rest t d ts1 h g =
    h ∙ ap (λ z. us ++ t ∷ z) (g ∙ sym (assoc_one ws d vs rest)) ∙ sym (assoc_one us t (ws ++ d ∷ vs) rest)

choice_or_parts : (us ts vs rest : List Lexeme) (t d : Lexeme) (ts1 : List Lexeme) → ts ≡ us ++ t ∷ ts1 → ts1 ≡ d ∷ (vs ++ rest) → ts ≡ (us ++ t ∷ d ∷ vs) ++ rest
choice_or_parts us ts vs rest t d ts1 h g = h ∙ ap (λ z. us ++ t ∷ z) g ∙ sym (assoc_two us t d vs rest)

module _ (i : Inside) (r : Readers) (p : AllExact i r) (G : Gram ExpressionTree) (c : Reader ExpressionTree) (q : Exact G c (Stops 10)) where
  conditional_sound : (ts : List Lexeme) (e : ExpressionTree) (rest : List Lexeme) → conditional_of r c ts ≡ Ok (e, rest) → Reads (ConditionalOf i G) ts e rest
  unfolding conditional_of choice_at
  conditional_sound ts e rest h =
      let one = part_bind q ts _ (e, rest) h in
      elim (either (front T.Question one.0.1) _ (done one.0.0 one.0.1) (done e rest) one.2) [
        | inl w ↦
            let f = front_is T.Question one.0.1 w.0 w.1 in
            elim (chosen r.may_open _ (Err (deep (w.0.0 ∷ w.0.1))) (done e rest) w.2) [
              | inr u ↦ absurd (let z = u.1 in cc)
              | inl u ↦
                  elim (either (front T.Colon w.0.1) _ _ (done e rest) u.1) [
                    | inl v ↦
                        let g = front_is T.Colon w.0.1 v.0 v.1 in
                        let b = part_bind p.conditionals v.0.1 _ (e, rest) v.2 in
                        let z = both_are (choice_or w.0.0.site one.0.0 b.0.0) e b.0.1 rest b.2 in
                        let tail : w.0.1 ≡ v.0.0 ∷ (b.1.front ++ rest) = g.1 ∙ ap (λ y. v.0.0 ∷ y) (b.1.parts ∙ ap (λ y. b.1.front ++ y) z.1) in
                        record {
                          front = one.1.front ++ w.0.0 ∷ v.0.0 ∷ b.1.front;
                          is = is_choice_or w.0.0 v.0.0 one.1.is f.0 g.0 b.1.is refl (sym z.0);
                          parts = choice_or_parts one.1.front ts b.1.front rest w.0.0 v.0.0 w.0.1 (one.1.parts ∙ ap (λ y. one.1.front ++ y) f.1) tail;
                        }
                    | inr v ↦
                        let a = part_bind p.expressions w.0.1 _ (e, rest) v.1 in
                        let d = front_bind T.Colon a.0.1 _ (e, rest) a.2 in
                        let b = part_bind p.conditionals d.0.1 _ (e, rest) d.3 in
                        let z = both_are (choice w.0.0.site one.0.0 a.0.0 b.0.0) e b.0.1 rest b.2 in
                        let tail : w.0.1 ≡ a.1.front ++ d.0.0 ∷ (b.1.front ++ rest) = a.1.parts ∙ ap (λ y. a.1.front ++ y) (d.2 ∙ ap (λ y. d.0.0 ∷ y) (b.1.parts ∙ ap (λ y. b.1.front ++ y) z.1)) in
                        record {
                          front = one.1.front ++ w.0.0 ∷ (a.1.front ++ d.0.0 ∷ b.1.front);
                          is = is_choice w.0.0 d.0.0 one.1.is f.0 a.1.is d.1 b.1.is refl (sym z.0);
                          parts = choice_parts one.1.front a.1.front ts b.1.front rest w.0.0 d.0.0 w.0.1 (one.1.parts ∙ ap (λ y. one.1.front ++ y) f.1) tail;
                        }
                  ]
            ]
        | inr w ↦
            let z = both_are one.0.0 e one.0.1 rest w.1 in
            record { front = one.1.front; is = is_condition (subst (λ y. G one.1.front y) z.0 one.1.is); parts = one.1.parts ∙ ap (λ y. one.1.front ++ y) z.1 }
      ]

  question_stops : (t : Lexeme) (ts : List Lexeme) → t.terminal ≡ T.Question → Stops 10 (t ∷ ts)
  question_stops t ts h = let l : level_of t.terminal ≡ 11 = ap level_of h in omega arith

  conditional_complete : (ts : List Lexeme) (e : ExpressionTree) (rest : List Lexeme) → ConditionalOf i G ts e → Stops 11 rest → conditional_of r c (ts ++ rest) ≡ Ok (e, rest)
  unfolding conditional_of choice_at
  conditional_complete ts e rest (is_condition g) s =
      let one : c (ts ++ rest) ≡ Ok (e, rest) = q.complete ts e rest g (stops_less 11 10 rest (omega arith) s) in
      rw (one, not_at T.Question 11 rest (omega arith) s) refl
  conditional_complete ts e rest (is_choice t d {ts1 = ts1} {ts2 = ts2} {ts3 = ts3} {e1 = e1} {e2 = e2} {e3 = e3} g k a kc b parts h) s =
      let shape : ts ++ rest ≡ ts1 ++ (t ∷ ts2 ++ (d ∷ ts3 ++ rest)) = ap (λ z. z ++ rest) parts ∙ assoc_one ts1 t (ts2 ++ d ∷ ts3) rest ∙ ap (λ z. ts1 ++ t ∷ z) (assoc_one ts2 d ts3 rest) in
      let one : c (ts1 ++ (t ∷ ts2 ++ (d ∷ ts3 ++ rest))) ≡ Ok (e1, t ∷ ts2 ++ (d ∷ ts3 ++ rest)) = q.complete ts1 e1 (t ∷ ts2 ++ (d ∷ ts3 ++ rest)) g (question_stops t (ts2 ++ (d ∷ ts3 ++ rest)) k) in
      let two : r.expression_reader (ts2 ++ (d ∷ ts3 ++ rest)) ≡ Ok (e2, d ∷ ts3 ++ rest) = p.expressions.complete ts2 e2 (d ∷ ts3 ++ rest) a (stops_at T.Colon refl d (ts3 ++ rest) kc) in
      let no_colon : front T.Colon (ts2 ++ (d ∷ ts3 ++ rest)) ≡ None = not_front r.expression_reader p.expressions_shut T.Colon refl (ts2 ++ (d ∷ ts3 ++ rest)) (e2, d ∷ ts3 ++ rest) two in
      let three : r.conditional_reader (ts3 ++ rest) ≡ Ok (e3, rest) = p.conditionals.complete ts3 e3 rest b s in
      rw (shape, one, front_here T.Question t (ts2 ++ (d ∷ ts3 ++ rest)) k, p.conditionals_open ts3 e3 b, no_colon, two, front_here T.Colon d (ts3 ++ rest) kc, three, h) refl
  conditional_complete ts e rest (is_choice_or t d {ts1 = ts1} {ts2 = ts2} {e1 = e1} {e2 = e2} g k kc b parts h) s =
      let shape : ts ++ rest ≡ ts1 ++ (t ∷ d ∷ ts2 ++ rest) = ap (λ z. z ++ rest) parts ∙ assoc_two ts1 t d ts2 rest in
      let one : c (ts1 ++ (t ∷ d ∷ ts2 ++ rest)) ≡ Ok (e1, t ∷ d ∷ ts2 ++ rest) = q.complete ts1 e1 (t ∷ d ∷ ts2 ++ rest) g (question_stops t (d ∷ ts2 ++ rest) k) in
      let three : r.conditional_reader (ts2 ++ rest) ≡ Ok (e2, rest) = p.conditionals.complete ts2 e2 rest b s in
      rw (shape, one, front_here T.Question t (d ∷ ts2 ++ rest) k, p.conditionals_open ts2 e2 b, front_here T.Colon d (ts2 ++ rest) kc, three, h) refl

  pub conditional_exact : Exact (ConditionalOf i G) (conditional_of r c) (Stops 11)
  conditional_exact = record { sound = conditional_sound; complete = conditional_complete }

module _ (i : Inside) (r : Readers) (p : AllExact i r) (G : Gram ExpressionTree) (c : Reader ExpressionTree) (q : Exact G c (Stops 11)) where
  assignment_sound : (ts : List Lexeme) (e : ExpressionTree) (rest : List Lexeme) → assignment_with r c ts ≡ Ok (e, rest) → Reads (AssignmentOf i G) ts e rest
  unfolding assignment_with assigned_at
  assignment_sound ts e rest h =
      let one = part_bind q ts _ (e, rest) h in
      elim (either (front_by assignment_of one.0.1) _ (done one.0.0 one.0.1) (done e rest) one.2) [
        | inl w ↦
            let f = by_is assignment_of one.0.1 w.0 w.1 in
            elim (chosen (is_unary one.0.0) _ (Err (wrong (w.0.1 ∷ w.0.2))) (done e rest) w.2) [
              | inl v ↦
                  elim (chosen r.may_open _ (Err (deep (w.0.1 ∷ w.0.2))) (done e rest) v.1) [
                    | inr u ↦ absurd (let z = u.1 in cc)
                    | inl u ↦
                        let b = part_bind p.assignments w.0.2 _ (e, rest) u.1 in
                        let z = both_are (assign w.0.0 w.0.1.site one.0.0 b.0.0) e b.0.1 rest b.2 in
                        record {
                          front = one.1.front ++ w.0.1 ∷ b.1.front;
                          is = is_assignment w.0.1 w.0.0 one.1.is v.0 f.0 b.1.is refl (sym z.0);
                          parts = suffix_parts one.1.front (w.0.1 ∷ b.1.front) ts one.0.1 rest one.1.parts (f.1 ∙ ap (λ y. w.0.1 ∷ y) (b.1.parts ∙ ap (λ y. b.1.front ++ y) z.1));
                        }
                  ]
              | inr v ↦ absurd (let z = v.1 in cc)
            ]
        | inr w ↦
            let z = both_are one.0.0 e one.0.1 rest w.1 in
            record { front = one.1.front; is = is_conditional (subst (λ y. G one.1.front y) z.0 one.1.is); parts = one.1.parts ∙ ap (λ y. one.1.front ++ y) z.1 }
      ]

  assignment_complete : (ts : List Lexeme) (e : ExpressionTree) (rest : List Lexeme) → AssignmentOf i G ts e → Stops 12 rest → assignment_with r c (ts ++ rest) ≡ Ok (e, rest)
  unfolding assignment_with assigned_at
  assignment_complete ts e rest (is_conditional g) s =
      let one : c (ts ++ rest) ≡ Ok (e, rest) = q.complete ts e rest g (stops_less 12 11 rest (omega arith) s) in
      rw (one, no_assignment rest s) refl
  assignment_complete ts e rest (is_assignment t {ts1 = ts1} {ts2 = ts2} {e1 = e1} {e2 = e2} o g u k b parts h) s =
      let l : level_of t.terminal ≡ 12 = assignment_level t.terminal o k in
      let stop : Stops 11 (t ∷ ts2 ++ rest) = omega arith in
      let shape : ts ++ rest ≡ ts1 ++ (t ∷ ts2 ++ rest) = ap (λ z. z ++ rest) parts ∙ assoc_one ts1 t ts2 rest in
      let one : c (ts1 ++ (t ∷ ts2 ++ rest)) ≡ Ok (e1, t ∷ ts2 ++ rest) = q.complete ts1 e1 (t ∷ ts2 ++ rest) g stop in
      let two : r.assignment_reader (ts2 ++ rest) ≡ Ok (e2, rest) = p.assignments.complete ts2 e2 rest b s in
      rw (shape, one, k, u, p.assignments_open ts2 e2 b, two, h) refl

  pub assignment_exact : Exact (AssignmentOf i G) (assignment_with r c) (Stops 12)
  assignment_exact = record { sound = assignment_sound; complete = assignment_complete }

-- ---- every depth

pub conditional_shut : (r : Readers) (c : Reader ExpressionTree) → Shut c → Shut (conditional_of r c)
unfolding conditional_of
conditional_shut r c s t ts h = rw (s t ts h) refl

pub assignment_shut : (r : Readers) (c : Reader ExpressionTree) → Shut c → Shut (assignment_with r c)
unfolding assignment_with
assignment_shut r c s t ts h = rw (s t ts h) refl

pub chain_shut : (k : ℕ) (c : Reader ExpressionTree) → Shut c → Shut (chain_at k c)
unfolding chain_at
chain_shut k c s t ts h = rw (s t ts h) refl

module _ (i : Inside) (r : Readers) (p : AllExact i r) where
  casts_by : Exact (CastOf i) (operand_of false r) (Stops 0)
  casts_by =
      let q = operand_exact i r p false in
      record {
        sound = λ ts e rest h. let x = q.sound ts e rest h in record { front = x.front; is = x.is.0; parts = x.parts };
        complete = λ ts e rest g s. q.complete ts e rest (g, refl) s;
      }

  levels_by : Exact (Levels 10 (CastOf i)) (levels_at 10 (operand_of false r)) (Stops 10)
  levels_by = levels_exact (CastOf i) (operand_of false r) casts_by 10

  conditionals_by : Exact (conditional_in i) (conditional_by r) (Stops 11)
  conditionals_by = conditional_exact i r p (Levels 10 (CastOf i)) (levels_at 10 (operand_of false r)) levels_by

  assignments_by : Exact (assignment_in i) (assignment_by r) (Stops 12)
  assignments_by = assignment_exact i r p (conditional_in i) (conditional_by r) conditionals_by

  expressions_by : Exact (expression_in i) (expression_by r) (Stops 13)
  expressions_by = chain_exact 12 assignments_by

  assignments_are_shut : Shut (assignment_by r)
  assignments_are_shut = assignment_shut r (conditional_by r) (conditional_shut r (levels_at 10 (operand_of false r)) (levels_shut (operand_of false r) (operand_shut false r) 10))

  one_deeper : AllExact (around i) (readers_around r)
  one_deeper = record {
    operands = operand_exact i r p;
    conditionals = conditionals_by;
    assignments = assignments_by;
    expressions = expressions_by;
    operands_shut = λ only. operand_shut only r;
    assignments_shut = assignments_are_shut;
    expressions_shut = chain_shut 13 (assignment_by r) assignments_are_shut;
    literals = operand_literals i r p;
    casts_open = λ ts e g. refl;
    conditionals_open = λ ts e g. refl;
    assignments_open = λ ts e g. refl;
    expressions_open = λ ts e g. refl;
  }

nothing_exact : (Follows : List Lexeme → Type 0) → Exact {A = ExpressionTree} (λ ts e. ⊥) (λ ts. Err (shut ts)) Follows
nothing_exact Follows = record { sound = λ ts e rest h. absurd cc; complete = λ ts e rest g s. absurd g }

all_nothing : AllExact nothing_inside no_readers
all_nothing = record {
  operands = λ only. record { sound = λ ts e rest h. absurd cc; complete = λ ts e rest g s. absurd g.0 };
  conditionals = nothing_exact (Stops 11);
  assignments = nothing_exact (Stops 12);
  expressions = nothing_exact (Stops 13);
  operands_shut = λ only t ts h. refl;
  assignments_shut = λ t ts h. refl;
  expressions_shut = λ t ts h. refl;
  literals = λ ts o x h g. absurd cc;
  casts_open = λ ts e g. absurd g;
  conditionals_open = λ ts e g. absurd g;
  assignments_open = λ ts e g. absurd g;
  expressions_open = λ ts e g. absurd g;
}

pub all_exact : (d : ℕ) → AllExact (inside d) (readers d)
unfolding inside readers
all_exact zero = all_nothing
all_exact (suc d) = one_deeper (inside d) (readers d) (all_exact d)

pub expression_exact : (d : ℕ) → Exact (IsExpression d) (expression_at d) (Stops 13)
unfolding expression_at
expression_exact d = let p = all_exact (suc d) in record { sound = p.expressions.sound; complete = p.expressions.complete }

-- tokens that are an expression are read as it
pub is_read : (d : ℕ) (ts : List Lexeme) (a : ExpressionTree) → IsExpression d ts a → expression_at d ts ≡ Ok (a, [])
is_read d ts a g = let e = (expression_exact d).complete ts a [] g tt in ap (expression_at d) (sym (append-nil ts)) ∙ e

pub one_expression : (d : ℕ) (ts : List Lexeme) (a b : ExpressionTree) → IsExpression d ts a → IsExpression d ts b → a ≡ b
one_expression d ts a b g h = (both_are a b [] [] (sym (is_read d ts a g) ∙ is_read d ts b h)).0
