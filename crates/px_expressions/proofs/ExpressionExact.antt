-- The readers of expressions read exactly what the grammar says.
use Rattle.std.proofs.Common.{◌≡◌, ◌≢◌, ◌==◌, ℕ, zero, suc, ◌<◌, ◌≤◌, Bool, true, false, eqb, ltb, List, [], ◌∷◌, ◌++◌, Option, Some, None, refl, sym, ap, subst, ◌∙◌, append_assoc, arith, inl, inr}
use Rattle.std.proofs.lemmas.Bool.{eqb-true}
use Rattle.std.proofs.lemmas.Option.{same_Some}
use Rattle.px_expressions.specs.declared.terminal.Terminal.{Terminal}
use Rattle.px_expressions.specs.declared.terminal.Terminal.TheVariants as T
use Rattle.px_expressions.specs.Lexemes.{Lexeme, same, front}
use Rattle.px_expressions.specs.Reading.{◌>>=◌, or_else, Reader, constant_value, type_at, begins_type, level_of, binary_of, operator_at, prefix_of, operator_front, prefix_front, more_at, levels_at, chain_limit, name_at, members_at, separated_at, arguments_at, named_at, closed_at, free_at, get_char_at, malloc_at, cast_at, parenthesised_at, primary_by, primary_of, postfix_of, unary_of, unary_at, expression_at}
use Rattle.px_expressions.specs.Grammar.{Gram, IsType, is_type, is_int, is_struct, More, no_more, one_more, Chain, chain, Levels, Members, no_member, a_member, Separated, Arguments, no_arguments, some_arguments, Parenthesised, parenthesised, Allocation, allocation, Primary, is_constant, is_null, is_variable, is_call, is_free, is_get_char, is_parenthesised, is_malloc, is_cast_malloc, UnaryOf, is_prefixed, is_postfix, IsUnary, IsExpression}
use Rattle.px_expressions.proofs.ExactTools.{chosen, bool_is, bind_some, either, done, both_are, positive, is_positive, front_is, front_bind, same_is, Reads, Exact, part_bind}
use Rattle.px_expressions.proofs.ListExact.{Separates, separated_exact}
use Rattle.px_expressions.proofs.TypeExact.{type_exact}
use Rattle.px_syntax.specs.declared.type_name.TypeName.{TypeName}
use Rattle.px_syntax.specs.declared.expression.UnaryOperator.{UnaryOperator}
use Rattle.px_syntax.specs.declared.expression.BinaryOperator.{BinaryOperator}
use Rattle.px_syntax.specs.ExpressionTree.{ExpressionTree, expressions_of, constant, null, variable, unary, binary, member, call, free, get_char, malloc}

-- what may follow a tree of level k: nothing that ties as strongly
abbrev pub Stops : ℕ → List Lexeme → Type 0
Stops k [] = Unit {0}
Stops k (t ∷ ts) = k < level_of t.terminal

pub stops_less : (k j : ℕ) (ts : List Lexeme) → j ≤ k → Stops k ts → Stops j ts
stops_less k j [] le h = tt
stops_less k j (t ∷ ts) le h = omega arith

-- where a terminal of level 7 stands, all stops
pub stops_at : (k : Terminal) → level_of k ≡ 7 → (c : Lexeme) (rest : List Lexeme) → c.terminal ≡ k → Stops 6 (c ∷ rest)
stops_at k l c rest h = rw (h, l) (omega arith)

-- ---- operators

operator_is : (k : ℕ) (ts : List Lexeme) (x : BinaryOperator × Lexeme × List Lexeme) → operator_front k ts ≡ Some x →
    (operator_at k x.1.terminal ≡ Some x.0) × (ts ≡ x.1 ∷ x.2)
operator_is k [] x e = absurd cc
operator_is k (t ∷ ts) x e =
    let b = bind_some (operator_at k t.terminal) (λ o. Some (o, t, ts)) x e in
    let p = same_Some _ _ b.2 in (
      ap (λ (z : BinaryOperator × Lexeme × List Lexeme). operator_at k z.1.terminal) (sym p) ∙ b.1 ∙ ap (λ (z : BinaryOperator × Lexeme × List Lexeme). Some z.0) p,
      ap (λ (z : BinaryOperator × Lexeme × List Lexeme). z.1 ∷ z.2) p,
    )

prefix_is : (ts : List Lexeme) (x : UnaryOperator × Lexeme × List Lexeme) → prefix_front ts ≡ Some x → (prefix_of x.1.terminal ≡ Some x.0) × (ts ≡ x.1 ∷ x.2)
prefix_is [] x e = absurd cc
prefix_is (t ∷ ts) x e =
    let b = bind_some (prefix_of t.terminal) (λ o. Some (o, t, ts)) x e in
    let p = same_Some _ _ b.2 in (
      ap (λ (z : UnaryOperator × Lexeme × List Lexeme). prefix_of z.1.terminal) (sym p) ∙ b.1 ∙ ap (λ (z : UnaryOperator × Lexeme × List Lexeme). Some z.0) p,
      ap (λ (z : UnaryOperator × Lexeme × List Lexeme). z.1 ∷ z.2) p,
    )

level_is : (k : ℕ) (t : Terminal) (o : BinaryOperator) → operator_at k t ≡ Some o → level_of t ≡ k
level_is k t o e =
    elim (chosen (eqb (level_of t) k) (binary_of t) None (Some o) e) [
      | inl h ↦ eqb-true _ _ h.0
      | inr h ↦ absurd (let z = h.1 in cc)
    ]

no_operator : (k : ℕ) (rest : List Lexeme) → Stops k rest → operator_front k rest ≡ None
no_operator k [] h = refl
no_operator k (t ∷ ts) h =
    let n : eqb (level_of t.terminal) k ≡ false = grind arith in
    rw n refl

module _ {G : Gram ExpressionTree} {part : Reader ExpressionTree} (k : ℕ) (p : Exact G part (Stops k)) where
  more_sound : (n : ℕ) (left : ExpressionTree) (ts : List Lexeme) (e : ExpressionTree) (rest : List Lexeme) → more_at n (suc k) part left ts ≡ Some (e, rest) → Reads (More G (suc k) n left) ts e rest
  unfolding more_at
  more_sound zero left ts e rest h =
      let q = both_are left e ts rest h in
      record { front = []; is = no_more refl (sym q.0); parts = q.1 }
  more_sound (suc n) left ts e rest h =
      elim (either (operator_front (suc k) ts) _ (done left ts) (done e rest) h) [
        | inl w ↦
            let x = w.0 in
            let one = part_bind p x.2 (λ y. more_at n (suc k) part (binary x.0 x.1.site left y.0) y.1) (e, rest) w.2 in
            let y = one.0 in
            let f = operator_is (suc k) ts x w.1 in
            let two = more_sound n (binary x.0 x.1.site left y.0) y.1 e rest one.2 in
            record {
              front = x.1 ∷ one.1.front ++ two.front;
              is = one_more x.0 f.0 one.1.is two.is refl;
              parts = f.1 ∙ ap (λ z. x.1 ∷ z) (one.1.parts ∙ ap (λ z. one.1.front ++ z) two.parts ∙ sym (append_assoc one.1.front two.front rest));
            }
        | inr w ↦
            let q = both_are left e ts rest w.1 in
            record { front = []; is = no_more refl (sym q.0); parts = q.1 }
      ]

  -- what follows a part is an operator of the next level, or what follows the chain
  more_stops : {n : ℕ} {left e : ExpressionTree} {ts : List Lexeme} (rest : List Lexeme) → More G (suc k) n left ts e → Stops (suc k) rest → Stops k (ts ++ rest)
  more_stops rest (no_more h _) s = subst (λ z. Stops k (z ++ rest)) (sym h) (stops_less (suc k) k rest (omega arith) s)
  more_stops rest (one_more {t = t} {ts1 = ts1} {ts2 = ts2} o h a m parts) s =
      let l : level_of t.terminal ≡ suc k = level_is (suc k) t.terminal o h in
      let lt : k < level_of t.terminal = omega arith in
      subst (λ z. Stops k (z ++ rest)) (sym parts) lt

  more_complete : {n : ℕ} {left e : ExpressionTree} {ts : List Lexeme} (rest : List Lexeme) → More G (suc k) n left ts e → Stops (suc k) rest → more_at n (suc k) part left (ts ++ rest) ≡ Some (e, rest)
  unfolding more_at
  more_complete {n = zero} rest (no_more h g) s = rw (h, g) refl
  more_complete {n = suc n} rest (no_more h g) s = rw (h, g, no_operator (suc k) rest s) refl
  more_complete {e = e} rest (one_more {n = n} {left = left} {right = right} {t = t} {ts1 = ts1} {ts2 = ts2} o h a m parts) s =
      let one : part ((ts1 ++ ts2) ++ rest) ≡ Some (right, ts2 ++ rest) = rw (append_assoc ts1 ts2 rest) (p.complete ts1 right (ts2 ++ rest) a (more_stops rest m s)) in
      let two : more_at n (suc k) part (binary o t.site left right) (ts2 ++ rest) ≡ Some (e, rest) = more_complete rest m s in
      rw (parts, h, one) two

-- ---- levels

module _ (U : Gram ExpressionTree) (u : Reader ExpressionTree) (k : ℕ) (p : Exact (Levels k U) (levels_at k u) (Stops k)) where
  chain_sound : (ts : List Lexeme) (e : ExpressionTree) (rest : List Lexeme) → levels_at (suc k) u ts ≡ Some (e, rest) → Reads (Chain (Levels k U) (suc k)) ts e rest
  unfolding levels_at
  chain_sound ts e rest h =
      let one = part_bind p ts (λ x. more_at chain_limit (suc k) (levels_at k u) x.0 x.1) (e, rest) h in
      let two = more_sound k p chain_limit one.0.0 one.0.1 e rest one.2 in
      record {
        front = one.1.front ++ two.front;
        is = chain one.1.is two.is refl;
        parts = one.1.parts ∙ ap (λ z. one.1.front ++ z) two.parts ∙ sym (append_assoc one.1.front two.front rest);
      }

  chain_complete : (ts : List Lexeme) (e : ExpressionTree) (rest : List Lexeme) → Chain (Levels k U) (suc k) ts e → Stops (suc k) rest → levels_at (suc k) u (ts ++ rest) ≡ Some (e, rest)
  unfolding levels_at
  chain_complete ts e rest (chain {first = first} {ts1 = ts1} {ts2 = ts2} a m parts) s =
      let one : levels_at k u ((ts1 ++ ts2) ++ rest) ≡ Some (first, ts2 ++ rest) = rw (append_assoc ts1 ts2 rest) (p.complete ts1 first (ts2 ++ rest) a (more_stops k p rest m s)) in
      rw (parts, one) (more_complete k p rest m s)

pub levels_exact : (U : Gram ExpressionTree) (u : Reader ExpressionTree) → Exact U u (Stops 0) → (k : ℕ) → Exact (Levels k U) (levels_at k u) (Stops k)
unfolding levels_at
levels_exact U u p zero = p
levels_exact U u p (suc k) = let q = levels_exact U u p k in record { sound = chain_sound U u k q; complete = chain_complete U u k q }

-- ---- members

pub members_sound : (n : ℕ) (left : ExpressionTree) (ts : List Lexeme) (e : ExpressionTree) (rest : List Lexeme) → members_at n left ts ≡ Some (e, rest) → Reads (Members n left) ts e rest
unfolding members_at
members_sound zero left ts e rest h =
    let q = both_are left e ts rest h in
    record { front = []; is = no_member refl (sym q.0); parts = q.1 }
members_sound (suc n) left ts e rest h =
    elim (either (front T.Arrow ts) _ (done left ts) (done e rest) h) [
      | inl w ↦
          let f = front_is T.Arrow ts w.0 w.1 in
          let b = bind_some (name_at w.0.1) (λ y. members_at n (member left y.0 w.0.0.site) y.1) (e, rest) w.2 in
          let g = front_bind T.Name w.0.1 _ b.0 b.1 in
          let q = both_are g.0.0.text b.0.0 g.0.1 b.0.1 g.3 in
          let two = members_sound n (member left b.0.0 w.0.0.site) b.0.1 e rest b.2 in
          record {
            front = w.0.0 ∷ g.0.0 ∷ two.front;
            is = a_member f.0 g.1 (subst (λ z. Members n (member left z w.0.0.site) two.front e) (sym q.0) two.is) refl;
            parts = f.1 ∙ ap (λ z. w.0.0 ∷ z) (g.2 ∙ ap (λ z. g.0.0 ∷ z) (q.1 ∙ two.parts));
          }
      | inr w ↦
          let q = both_are left e ts rest w.1 in
          record { front = []; is = no_member refl (sym q.0); parts = q.1 }
    ]

-- where an arrow stands, a member is read
pub a_member_sound : (n : ℕ) (left : ExpressionTree) (ts : List Lexeme) (e : ExpressionTree) (rest : List Lexeme) (x : Lexeme × List Lexeme) → front T.Arrow ts ≡ Some x →
    members_at (suc n) left ts ≡ Some (e, rest) → (r : Reads (Members (suc n) left) ts e rest) × (r.front ≢ [])
unfolding members_at
a_member_sound n left ts e rest x k h =
    let f = front_is T.Arrow ts x k in
    let step : (name_at x.1 >>= λ y. members_at n (member left y.0 x.0.site) y.1) ≡ Some (e, rest) =
    sym (ap (λ o. or_else o (λ x. name_at x.1 >>= λ y. members_at n (member left y.0 x.0.site) y.1) (done left ts)) k) ∙ h in
    let b = bind_some (name_at x.1) (λ y. members_at n (member left y.0 x.0.site) y.1) (e, rest) step in
    let g = front_bind T.Name x.1 _ b.0 b.1 in
    let q = both_are g.0.0.text b.0.0 g.0.1 b.0.1 g.3 in
    let two = members_sound n (member left b.0.0 x.0.site) b.0.1 e rest b.2 in (
      record {
        front = x.0 ∷ g.0.0 ∷ two.front;
        is = a_member f.0 g.1 (subst (λ z. Members n (member left z x.0.site) two.front e) (sym q.0) two.is) refl;
        parts = f.1 ∙ ap (λ z. x.0 ∷ z) (g.2 ∙ ap (λ z. g.0.0 ∷ z) (q.1 ∙ two.parts));
      },
      λ z. absurd cc,
    )

-- what may follow a unary is no terminal of a lower level
pub not_at : (k : Terminal) (rest : List Lexeme) → level_of k ≡ 0 → Stops 0 rest → front k rest ≡ None
not_at k [] l h = refl
not_at k (t ∷ ts) l h =
    elim (chosen (same t.terminal k) (Some (t, ts)) None (front k (t ∷ ts)) refl) [
      | inl w ↦ absurd (let e = ap level_of (same_is t.terminal k w.0) in omega arith)
      | inr w ↦ sym w.1
    ]

pub no_arrow : (rest : List Lexeme) → Stops 0 rest → front T.Arrow rest ≡ None
no_arrow rest h = not_at T.Arrow rest refl h

pub members_complete : {n : ℕ} {left e : ExpressionTree} {ts : List Lexeme} (rest : List Lexeme) → Members n left ts e → Stops 0 rest → members_at n left (ts ++ rest) ≡ Some (e, rest)
unfolding members_at
members_complete {n = zero} rest (no_member h g) s = rw (h, g) refl
members_complete {n = suc n} rest (no_member h g) s = rw (h, g, no_arrow rest s) refl
members_complete {e = e} rest (a_member {n = n} {left = left} {t = t} {f = f} {ts1 = ts1} h g m parts) s =
    let two : members_at n (member left f.text t.site) (ts1 ++ rest) ≡ Some (e, rest) = members_complete rest m s in
    rw (parts, h, g) two

-- ---- what begins an expression

abbrev pub begins : Terminal → Bool
begins T.Constant = true
begins T.Null = true
begins T.Name = true
begins T.Free = true
begins T.GetChar = true
begins T.Malloc = true
begins T.OpenParenthesis = true
begins T.Minus = true
begins T.Not = true
begins T.Star = true
begins _ = false

-- nothing is read where no expression begins
abbrev pub Shut : Reader ExpressionTree → Type 0
Shut r = (t : Lexeme) (ts : List Lexeme) → begins t.terminal ≡ false → r (t ∷ ts) ≡ None

pub shut_by : (k : Terminal) → begins k ≡ false → (prefix_of k ≡ None) × ((d : ℕ) (i : Reader ExpressionTree) (t : Lexeme) (ts : List Lexeme) → primary_by k d i t ts ≡ None)
shut_by T.Constant h = absurd cc
shut_by T.Null h = absurd cc
shut_by T.Name h = absurd cc
shut_by T.Free h = absurd cc
shut_by T.GetChar h = absurd cc
shut_by T.Malloc h = absurd cc
shut_by T.OpenParenthesis h = absurd cc
shut_by T.Minus h = absurd cc
shut_by T.Not h = absurd cc
shut_by T.Star h = absurd cc
shut_by _ h = (refl, λ d i t ts. refl)

pub levels_shut : (u : Reader ExpressionTree) → Shut u → (k : ℕ) → Shut (levels_at k u)
unfolding levels_at
levels_shut u s zero = s
levels_shut u s (suc k) = λ t ts h. rw (levels_shut u s k t ts h) refl

-- where something was read, no terminal stands at the front that begins no expression
pub not_front : (r : Reader ExpressionTree) → Shut r → (k : Terminal) → begins k ≡ false → (ts : List Lexeme) (x : ExpressionTree × List Lexeme) → r ts ≡ Some x → front k ts ≡ None
not_front r s k b [] x h = refl
not_front r s k b (t ∷ ts) x h =
    elim (chosen (same t.terminal k) (Some (t, ts)) None (front k (t ∷ ts)) refl) [
      | inl w ↦ absurd (let z = s t ts (ap begins (same_is t.terminal k w.0) ∙ b) in cc)
      | inr w ↦ sym w.1
    ]

pub not_type : (r : Reader ExpressionTree) → Shut r → (ts : List Lexeme) (x : ExpressionTree × List Lexeme) → r ts ≡ Some x → begins_type ts ≡ false
not_type r s [] x h = refl
not_type r s (t ∷ ts) x h =
    elim (chosen (same t.terminal T.Int) true (same t.terminal T.Struct) (begins_type (t ∷ ts)) refl) [
      | inl w ↦ absurd (let z = s t ts (ap begins (same_is t.terminal T.Int w.0)) in cc)
      | inr w ↦
          elim (chosen (same t.terminal T.Struct) true false (same t.terminal T.Struct) (bool_is (same t.terminal T.Struct))) [
            | inl v ↦ absurd (let z = s t ts (ap begins (same_is t.terminal T.Struct v.0)) in cc)
            | inr v ↦ sym w.1 ∙ v.0
          ]
    ]

-- the lexeme at the front is the one that stands there
pub front_here : (k : Terminal) (t : Lexeme) (ts : List Lexeme) → t.terminal ≡ k → front k (t ∷ ts) ≡ Some (t, ts)
front_here k t ts h =
    let is : same t.terminal k ≡ true = rw h (same_self k) in
    rw is refl
  where
    same_self : (k : Terminal) → same k k ≡ true
    same_self k = grind arith

-- ---- what stands in parentheses

pub close_level : (c : Lexeme) (rest : List Lexeme) → c.terminal ≡ T.CloseParenthesis → Stops 6 (c ∷ rest)
close_level c rest h = stops_at T.CloseParenthesis refl c rest h

pub separates : Separates (Stops 6)
separates = record { comma = λ c rest h. stops_at T.Comma refl c rest h }

-- what is read up to the closing parenthesis is in the grammar, with the parenthesis that opened
pub closed_parts : (o c : Lexeme) (a ts us rest vs : List Lexeme) → ts ≡ a ++ us → us ≡ c ∷ rest → rest ≡ vs → o ∷ ts ≡ (o ∷ a ++ c ∷ []) ++ vs
closed_parts o c a ts us rest vs h g f = ap (λ z. o ∷ z) (h ∙ ap (λ z. a ++ z) (g ∙ ap (λ z. c ∷ z) f) ∙ sym (append_assoc a (c ∷ []) vs))

module _ {G : Gram ExpressionTree} {part : Reader ExpressionTree} (p : Exact G part (Stops 6)) (shut : Shut part) where
  closed_sound : (o : Lexeme) (ts : List Lexeme) (e : ExpressionTree) (rest : List Lexeme) → o.terminal ≡ T.OpenParenthesis → closed_at part ts ≡ Some (e, rest) → Reads (Parenthesised G) (o ∷ ts) e rest
  unfolding closed_at
  closed_sound o ts e rest k h =
      let one = part_bind p ts _ (e, rest) h in
      let c = front_bind T.CloseParenthesis one.0.1 _ (e, rest) one.2 in
      let q = both_are one.0.0 e c.0.1 rest c.3 in
      record {
        front = o ∷ one.1.front ++ c.0.0 ∷ [];
        is = parenthesised c.0.0 k c.1 (subst (λ z. G one.1.front z) q.0 one.1.is) refl;
        parts = closed_parts o c.0.0 one.1.front ts one.0.1 c.0.1 rest one.1.parts c.2 q.1;
      }

  closed_complete : (c : Lexeme) (ts1 : List Lexeme) (e : ExpressionTree) (rest : List Lexeme) → c.terminal ≡ T.CloseParenthesis → G ts1 e → closed_at part ((ts1 ++ c ∷ []) ++ rest) ≡ Some (e, rest)
  unfolding closed_at
  closed_complete c ts1 e rest k g =
      let one : part (ts1 ++ c ∷ rest) ≡ Some (e, c ∷ rest) = p.complete ts1 e (c ∷ rest) g (close_level c rest k) in
      rw (append_assoc ts1 (c ∷ []) rest, one, k) refl

  arguments_sound : (o : Lexeme) (ts : List Lexeme) (es : List ExpressionTree) (rest : List Lexeme) → o.terminal ≡ T.OpenParenthesis → arguments_at part ts ≡ Some (es, rest) →
      Reads (Parenthesised (Arguments G)) (o ∷ ts) es rest
  unfolding arguments_at
  arguments_sound o ts es rest k h =
      elim (either (front T.CloseParenthesis ts) (λ x. done [] x.1) _ (done es rest) h) [
        | inl w ↦
            let f = front_is T.CloseParenthesis ts w.0 w.1 in
            let q = both_are [] es w.0.1 rest w.2 in
            record {
              front = o ∷ w.0.0 ∷ [];
              is = parenthesised w.0.0 k f.0 (no_arguments refl (sym q.0)) refl;
              parts = ap (λ z. o ∷ z) (f.1 ∙ ap (λ z. w.0.0 ∷ z) q.1);
            }
        | inr w ↦
            let one = part_bind (separated_exact p separates) ts _ (es, rest) w.1 in
            let c = front_bind T.CloseParenthesis one.0.1 _ (es, rest) one.2 in
            let q = both_are one.0.0 es c.0.1 rest c.3 in
            record {
              front = o ∷ one.1.front ++ c.0.0 ∷ [];
              is = parenthesised c.0.0 k c.1 (some_arguments (subst (λ z. Separated G one.1.front z) q.0 one.1.is)) refl;
              parts = closed_parts o c.0.0 one.1.front ts one.0.1 c.0.1 rest one.1.parts c.2 q.1;
            }
      ]

  -- an argument begins no closing parenthesis
  not_closed : (ts : List Lexeme) (es : List ExpressionTree) (rest : List Lexeme) → separated_at part ts ≡ Some (es, rest) → front T.CloseParenthesis ts ≡ None
  unfolding separated_at
  not_closed ts es rest h =
      let b = bind_some (part ts) _ (es, rest) h in
      not_front part shut T.CloseParenthesis refl ts b.0 b.1

  arguments_complete : (c : Lexeme) (ts1 : List Lexeme) (es : List ExpressionTree) (rest : List Lexeme) → c.terminal ≡ T.CloseParenthesis → Arguments G ts1 es →
      arguments_at part ((ts1 ++ c ∷ []) ++ rest) ≡ Some (es, rest)
  unfolding arguments_at
  arguments_complete c ts1 es rest k (no_arguments h g) = rw (h, g, k) refl
  arguments_complete c ts1 es rest k (some_arguments a) =
      let none : front T.Comma (c ∷ rest) ≡ None = rw k refl in
      let one : separated_at part (ts1 ++ c ∷ rest) ≡ Some (es, c ∷ rest) = (separated_exact p separates).complete ts1 es (c ∷ rest) a (close_level c rest k, none) in
      rw (append_assoc ts1 (c ∷ []) rest, not_closed (ts1 ++ c ∷ rest) es (c ∷ rest) one, one, k) refl

-- ---- malloc

above : (d : ℕ) → ltb d 2 ≡ false → 1 < d
above d h = grind arith

enough : (d : ℕ) → 1 < d → ltb d 2 ≡ false
enough d h = grind arith

pub more_than_none : (d : ℕ) → 1 < d → (d == 0) ≡ false
more_than_none d h = grind arith

malloc_parts : (m o z p q c : Lexeme) (a ts t1 t2 t3 t4 t5 t6 rest : List Lexeme) →
    ts ≡ o ∷ t1 → t1 ≡ z ∷ t2 → t2 ≡ p ∷ t3 → t3 ≡ a ++ t4 → t4 ≡ q ∷ t5 → t5 ≡ c ∷ t6 → t6 ≡ rest →
    m ∷ ts ≡ (m ∷ o ∷ z ∷ p ∷ a ++ q ∷ c ∷ []) ++ rest
malloc_parts m o z p q c a ts t1 t2 t3 t4 t5 t6 rest h1 h2 h3 h4 h5 h6 h7 =
    let inner : t3 ≡ (a ++ q ∷ c ∷ []) ++ rest = h4 ∙ ap (λ s. a ++ s) (h5 ∙ ap (λ s. q ∷ s) (h6 ∙ ap (λ s. c ∷ s) h7)) ∙ sym (append_assoc a (q ∷ c ∷ []) rest) in
    ap (λ s. m ∷ s) (h1 ∙ ap (λ s. o ∷ s) (h2 ∙ ap (λ s. z ∷ s) (h3 ∙ ap (λ s. p ∷ s) inner)))

malloc_sound : (d : ℕ) (cast : Option TypeName) (m : Lexeme) (ts : List Lexeme) (e : ExpressionTree) (rest : List Lexeme) → m.terminal ≡ T.Malloc → malloc_at d cast m ts ≡ Some (e, rest) →
    (1 < d) × Reads (Allocation cast) (m ∷ ts) e rest
unfolding malloc_at
malloc_sound d cast m ts e rest k h =
    elim (chosen (ltb d 2) None _ (done e rest) h) [
      | inl w ↦ absurd (let z = w.1 in cc)
      | inr w ↦
          let o = front_bind T.OpenParenthesis ts _ (e, rest) w.1 in
          let z = front_bind T.Sizeof o.0.1 _ (e, rest) o.3 in
          let p = front_bind T.OpenParenthesis z.0.1 _ (e, rest) z.3 in
          let a = part_bind type_exact p.0.1 _ (e, rest) p.3 in
          let q = front_bind T.CloseParenthesis a.0.1 _ (e, rest) a.2 in
          let c = front_bind T.CloseParenthesis q.0.1 _ (e, rest) q.3 in
          let r = both_are (malloc cast m.site a.0.0) e c.0.1 rest c.3 in (
            above d w.0,
            record {
              front = m ∷ o.0.0 ∷ z.0.0 ∷ p.0.0 ∷ a.1.front ++ q.0.0 ∷ c.0.0 ∷ [];
              is = allocation q.0.0 c.0.0 k o.1 z.1 p.1 a.1.is q.1 c.1 refl (sym r.0);
              parts = malloc_parts m o.0.0 z.0.0 p.0.0 q.0.0 c.0.0 a.1.front ts o.0.1 z.0.1 p.0.1 a.0.1 q.0.1 c.0.1 rest o.2 z.2 p.2 a.1.parts q.2 c.2 r.1;
            },
          )
    ]

no_star : (c : Lexeme) (rest : List Lexeme) → c.terminal ≡ T.CloseParenthesis → front T.Star (c ∷ rest) ≡ None
no_star c rest k = rw k refl

malloc_complete : (d : ℕ) (cast : Option TypeName) (m : Lexeme) (ts ts1 : List Lexeme) (e : ExpressionTree) (rest : List Lexeme) → 1 < d → ts ≡ m ∷ ts1 → Allocation cast ts e →
    (m.terminal ≡ T.Malloc) × (malloc_at d cast m (ts1 ++ rest) ≡ Some (e, rest))
unfolding malloc_at
malloc_complete d cast m ts ts1 e rest lt here (allocation {m = m1} {o = o} {z = z} {p = p} q c {ts1 = us} {a = a} k ko kz kp g kq kc parts r) =
    let one : type_at (us ++ q ∷ c ∷ rest) ≡ Some (a, q ∷ c ∷ rest) = type_exact.complete us a (q ∷ c ∷ rest) g (no_star q (c ∷ rest) kq) in
    let all : m ∷ ts1 ≡ m1 ∷ o ∷ z ∷ p ∷ us ++ q ∷ c ∷ [] = sym here ∙ parts in
    let head : m ≡ m1 = cc in
    let tail : ts1 ≡ o ∷ z ∷ p ∷ us ++ q ∷ c ∷ [] = cc in (
      ap (λ s. s.terminal) head ∙ k,
      rw (tail, r, head, enough d lt, ko, kz, kp, append_assoc us (q ∷ c ∷ []) rest, one, kq, kc) refl,
    )

-- ---- primaries

-- a parenthesis after a name opens a call
abbrev pub NotOpen : List Lexeme → Type 0
NotOpen ts = front T.OpenParenthesis ts ≡ None

stops_open : (rest : List Lexeme) → Stops 0 rest → NotOpen rest
stops_open rest h = not_at T.OpenParenthesis rest refl h

pub members_open : {n : ℕ} {left e : ExpressionTree} {ts : List Lexeme} (rest : List Lexeme) → Members n left ts e → Stops 0 rest → NotOpen (ts ++ rest)
members_open rest (no_member h g) s = subst (λ z. NotOpen (z ++ rest)) (sym h) (stops_open rest s)
members_open rest (a_member {t = t} h g m parts) s = subst (λ z. NotOpen (z ++ rest)) (sym parts) (rw h refl)

-- the front, and what it makes of one lexeme more before it
behind : {G : Gram ExpressionTree} {H : Gram ExpressionTree} (t : Lexeme) (ts : List Lexeme) (a e : ExpressionTree) (rest us : List Lexeme) → Reads G ts a rest →
    ((front : List Lexeme) → G front a → H (t ∷ front) e) → rest ≡ us → Reads H (t ∷ ts) e us
behind t ts a e rest us r f h = record { front = t ∷ r.front; is = f r.front r.is; parts = ap (λ z. t ∷ z) (r.parts ∙ ap (λ z. r.front ++ z) h) }

module _ (d : ℕ) (I : Gram ExpressionTree) (i : Reader ExpressionTree) (p : Exact I i (Stops 0)) (shut : Shut i) where
  inside_exact : Exact (Levels 6 I) (levels_at 6 i) (Stops 6)
  inside_exact = levels_exact I i p 6

  inside_shut : Shut (levels_at 6 i)
  inside_shut = levels_shut i shut 6

  named_sound : (t : Lexeme) (ts : List Lexeme) (e : ExpressionTree) (rest : List Lexeme) → t.terminal ≡ T.Name → named_at d i t ts ≡ Some (e, rest) → Reads (Primary d I) (t ∷ ts) e rest
  unfolding named_at
  named_sound t ts e rest k h =
      elim (either (front T.OpenParenthesis ts) _ (done (variable t.text t.site) ts) (done e rest) h) [
        | inl w ↦
            elim (chosen (d == 0) None _ (done e rest) w.2) [
              | inl v ↦ absurd (let z = v.1 in cc)
              | inr v ↦
                  let b = bind_some (arguments_at (levels_at 6 i) w.0.1) _ (e, rest) v.1 in
                  let q = both_are (call t.text t.site (expressions_of b.0.0)) e b.0.1 rest b.2 in
                  let f = front_is T.OpenParenthesis ts w.0 w.1 in
                  let one = arguments_sound inside_exact inside_shut w.0.0 w.0.1 b.0.0 b.0.1 f.0 b.1 in
                  record {
                    front = t ∷ one.front;
                    is = is_call k (is_positive d v.0) one.is refl (sym q.0);
                    parts = ap (λ z. t ∷ z) (f.1 ∙ one.parts ∙ ap (λ z. one.front ++ z) q.1);
                  }
            ]
        | inr w ↦
            let q = both_are (variable t.text t.site) e ts rest w.1 in
            record { front = t ∷ []; is = is_variable k refl (sym q.0); parts = ap (λ z. t ∷ z) q.1 }
      ]

  free_sound : (t : Lexeme) (ts : List Lexeme) (e : ExpressionTree) (rest : List Lexeme) → t.terminal ≡ T.Free → free_at d i t ts ≡ Some (e, rest) → Reads (Primary d I) (t ∷ ts) e rest
  unfolding free_at
  free_sound t ts e rest k h =
      elim (chosen (d == 0) None _ (done e rest) h) [
        | inl v ↦ absurd (let z = v.1 in cc)
        | inr v ↦
            let o = front_bind T.OpenParenthesis ts _ (e, rest) v.1 in
            let b = bind_some (closed_at (levels_at 6 i) o.0.1) _ (e, rest) o.3 in
            let q = both_are (free t.site b.0.0) e b.0.1 rest b.2 in
            let one = closed_sound inside_exact inside_shut o.0.0 o.0.1 b.0.0 b.0.1 o.1 b.1 in
            record {
              front = t ∷ one.front;
              is = is_free k (is_positive d v.0) one.is refl (sym q.0);
              parts = ap (λ z. t ∷ z) (o.2 ∙ one.parts ∙ ap (λ z. one.front ++ z) q.1);
            }
      ]

  get_char_sound : (t : Lexeme) (ts : List Lexeme) (e : ExpressionTree) (rest : List Lexeme) → t.terminal ≡ T.GetChar → get_char_at d t ts ≡ Some (e, rest) → Reads (Primary d I) (t ∷ ts) e rest
  unfolding get_char_at
  get_char_sound t ts e rest k h =
      elim (chosen (d == 0) None _ (done e rest) h) [
        | inl v ↦ absurd (let z = v.1 in cc)
        | inr v ↦
            let o = front_bind T.OpenParenthesis ts _ (e, rest) v.1 in
            let c = front_bind T.CloseParenthesis o.0.1 _ (e, rest) o.3 in
            let q = both_are (get_char t.site) e c.0.1 rest c.3 in
            record {
              front = t ∷ o.0.0 ∷ c.0.0 ∷ [];
              is = is_get_char k o.1 c.1 (is_positive d v.0) refl (sym q.0);
              parts = ap (λ z. t ∷ z) (o.2 ∙ ap (λ z. o.0.0 ∷ z) (c.2 ∙ ap (λ z. c.0.0 ∷ z) q.1));
            }
      ]

  cast_sound : (o : Lexeme) (ts : List Lexeme) (e : ExpressionTree) (rest : List Lexeme) → o.terminal ≡ T.OpenParenthesis → cast_at d ts ≡ Some (e, rest) → Reads (Primary d I) (o ∷ ts) e rest
  unfolding cast_at
  cast_sound o ts e rest k h =
      let a = part_bind type_exact ts _ (e, rest) h in
      let c = front_bind T.CloseParenthesis a.0.1 _ (e, rest) a.2 in
      let m = front_bind T.Malloc c.0.1 _ (e, rest) c.3 in
      let r = malloc_sound d (Some a.0.0) m.0.0 m.0.1 e rest m.1 m.3 in
      let two = r.1 in
      let parts : o ∷ ts ≡ (o ∷ a.1.front ++ c.0.0 ∷ []) ++ (two.front ++ rest) =
      closed_parts o c.0.0 a.1.front ts a.0.1 c.0.1 (two.front ++ rest) a.1.parts c.2 (m.2 ∙ two.parts) in
      record {
        front = (o ∷ a.1.front ++ c.0.0 ∷ []) ++ two.front;
        is = is_cast_malloc r.0 (parenthesised c.0.0 k c.1 a.1.is refl) two.is refl;
        parts = parts ∙ sym (append_assoc (o ∷ a.1.front ++ c.0.0 ∷ []) two.front rest);
      }

  parenthesised_sound : (o : Lexeme) (ts : List Lexeme) (e : ExpressionTree) (rest : List Lexeme) → o.terminal ≡ T.OpenParenthesis → parenthesised_at d i ts ≡ Some (e, rest) →
      Reads (Primary d I) (o ∷ ts) e rest
  unfolding parenthesised_at
  parenthesised_sound o ts e rest k h =
      elim (chosen (d == 0) None _ (done e rest) h) [
        | inl v ↦ absurd (let z = v.1 in cc)
        | inr v ↦
            elim (chosen (begins_type ts) (cast_at d ts) (closed_at (levels_at 6 i) ts) (done e rest) v.1) [
              | inl w ↦ cast_sound o ts e rest k w.1
              | inr w ↦
                  let one = closed_sound inside_exact inside_shut o ts e rest k w.1 in
                  record { front = one.front; is = is_parenthesised (is_positive d v.0) one.is; parts = one.parts }
            ]
      ]

  primary_by_sound : (k : Terminal) (t : Lexeme) (ts : List Lexeme) (e : ExpressionTree) (rest : List Lexeme) → t.terminal ≡ k → primary_by k d i t ts ≡ Some (e, rest) →
      Reads (Primary d I) (t ∷ ts) e rest
  primary_by_sound T.Constant t ts e rest k h =
      let b = bind_some (constant_value t.text) (λ v. done (constant v t.site) ts) (e, rest) h in
      let q = both_are (constant b.0 t.site) e ts rest b.2 in
      record { front = t ∷ []; is = is_constant b.0 k b.1 refl (sym q.0); parts = ap (λ z. t ∷ z) q.1 }
  primary_by_sound T.Null t ts e rest k h =
      let q = both_are (null t.site) e ts rest h in
      record { front = t ∷ []; is = is_null k refl (sym q.0); parts = ap (λ z. t ∷ z) q.1 }
  primary_by_sound T.Name t ts e rest k h = named_sound t ts e rest k h
  primary_by_sound T.Free t ts e rest k h = free_sound t ts e rest k h
  primary_by_sound T.GetChar t ts e rest k h = get_char_sound t ts e rest k h
  primary_by_sound T.Malloc t ts e rest k h =
      let r = malloc_sound d None t ts e rest k h in
      let one = r.1 in
      record { front = one.front; is = is_malloc r.0 one.is; parts = one.parts }
  primary_by_sound T.OpenParenthesis t ts e rest k h = parenthesised_sound t ts e rest k h
  primary_by_sound _ t ts e rest k h = absurd cc

  pub primary_sound : (ts : List Lexeme) (e : ExpressionTree) (rest : List Lexeme) → primary_of d i ts ≡ Some (e, rest) → Reads (Primary d I) ts e rest
  unfolding primary_of
  primary_sound [] e rest h = absurd cc
  primary_sound (t ∷ ts) e rest h = primary_by_sound t.terminal t ts e rest refl h

  -- ---- what is in the grammar is read

  -- a primary goes by its first terminal
  by_first : (k : Terminal) (t : Lexeme) (ts : List Lexeme) → t.terminal ≡ k → primary_of d i (t ∷ ts) ≡ primary_by k d i t ts
  unfolding primary_of
  by_first k t ts h = ap (λ z. primary_by z d i t ts) h

  -- arguments and what stands in parentheses, after the parenthesis that opens
  call_complete : (t : Lexeme) (ts : List Lexeme) (es : List ExpressionTree) (rest : List Lexeme) → 0 < d → Parenthesised (Arguments (Levels 6 I)) ts es →
      named_at d i t (ts ++ rest) ≡ Some (call t.text t.site (expressions_of es), rest)
  unfolding named_at
  call_complete t ts es rest lt (parenthesised {o = o} c {ts1 = ts1} ko kc a parts) =
      rw (parts, ko, positive d lt, arguments_complete inside_exact inside_shut c ts1 es rest kc a) refl

  variable_complete : (t : Lexeme) (rest : List Lexeme) → NotOpen rest → named_at d i t rest ≡ Some (variable t.text t.site, rest)
  unfolding named_at
  variable_complete t rest f = rw f refl

  free_complete : (t : Lexeme) (ts : List Lexeme) (e : ExpressionTree) (rest : List Lexeme) → 0 < d → Parenthesised (Levels 6 I) ts e → free_at d i t (ts ++ rest) ≡ Some (free t.site e, rest)
  unfolding free_at
  free_complete t ts e rest lt (parenthesised {o = o} c {ts1 = ts1} ko kc a parts) =
      rw (parts, ko, positive d lt, closed_complete inside_exact inside_shut c ts1 e rest kc a) refl

  inner_complete : (ts : List Lexeme) (e : ExpressionTree) (rest : List Lexeme) → 0 < d → Parenthesised (Levels 6 I) ts e → primary_of d i (ts ++ rest) ≡ Some (e, rest)
  unfolding primary_of parenthesised_at
  inner_complete ts e rest lt (parenthesised {o = o} c {ts1 = ts1} ko kc a parts) =
      let one : levels_at 6 i (ts1 ++ c ∷ rest) ≡ Some (e, c ∷ rest) = inside_exact.complete ts1 e (c ∷ rest) a (close_level c rest kc) in
      let plain : begins_type ((ts1 ++ c ∷ []) ++ rest) ≡ false = rw (append_assoc ts1 (c ∷ []) rest) (not_type (levels_at 6 i) inside_shut (ts1 ++ c ∷ rest) (e, c ∷ rest) one) in
      rw (parts, ko, positive d lt, plain) (closed_complete inside_exact inside_shut c ts1 e rest kc a)

  -- a type begins with a word that begins no expression
  type_begins : (ts : List Lexeme) (a : TypeName) (rest : List Lexeme) → IsType ts a → begins_type (ts ++ rest) ≡ true
  type_begins ts a rest (is_type (is_int k h g) s parts r) = rw (parts, h, k) refl
  type_begins ts a rest (is_type (is_struct k kn h g) s parts r) = rw (parts, h, k) refl

  cast_complete : (ts1 ts2 : List Lexeme) (a : TypeName) (e : ExpressionTree) (rest : List Lexeme) → 1 < d → Parenthesised IsType ts1 a → Allocation (Some a) ts2 e →
      primary_of d i (ts1 ++ (ts2 ++ rest)) ≡ Some (e, rest)
  unfolding primary_of parenthesised_at cast_at
  cast_complete ts1 ts2 a e rest lt (parenthesised {o = o} c {ts1 = us} ko kc g parts) (allocation {m = m} {o = o1} {z = z} {p = p1} q c1 {ts1 = vs} k k1 k2 k3 g1 k4 k5 parts1 r) =
      let all : Allocation (Some a) ts2 e = allocation q c1 k k1 k2 k3 g1 k4 k5 parts1 r in
      let size : malloc_at d (Some a) m ((o1 ∷ z ∷ p1 ∷ vs ++ q ∷ c1 ∷ []) ++ rest) ≡ Some (e, rest) =
      (malloc_complete d (Some a) m ts2 (o1 ∷ z ∷ p1 ∷ vs ++ q ∷ c1 ∷ []) e rest lt parts1 all).1 in
      let after_it : List Lexeme = c ∷ m ∷ (o1 ∷ z ∷ p1 ∷ vs ++ q ∷ c1 ∷ []) ++ rest in
      let one : type_at (us ++ after_it) ≡ Some (a, after_it) = type_exact.complete us a after_it g (rw kc refl) in
      let begun : begins_type (us ++ after_it) ≡ true = type_begins us a after_it g in
      rw (parts, parts1, ko, more_than_none d lt, append_assoc us (c ∷ []) ((m ∷ o1 ∷ z ∷ p1 ∷ vs ++ q ∷ c1 ∷ []) ++ rest), begun, one, kc, front_here T.Malloc m ((o1 ∷ z ∷ p1 ∷ vs ++ q ∷ c1 ∷ []) ++ rest) k) size

  plain_malloc_complete : (ts : List Lexeme) (e : ExpressionTree) (rest : List Lexeme) → 1 < d → Allocation None ts e → primary_of d i (ts ++ rest) ≡ Some (e, rest)
  plain_malloc_complete ts e rest lt (allocation {m = m} {o = o1} {z = z} {p = p1} q c1 {ts1 = vs} k k1 k2 k3 g1 k4 k5 parts1 r) =
      let all : Allocation None ts e = allocation q c1 k k1 k2 k3 g1 k4 k5 parts1 r in
      let size : malloc_at d None m ((o1 ∷ z ∷ p1 ∷ vs ++ q ∷ c1 ∷ []) ++ rest) ≡ Some (e, rest) =
      (malloc_complete d None m ts (o1 ∷ z ∷ p1 ∷ vs ++ q ∷ c1 ∷ []) e rest lt parts1 all).1 in
      rw parts1 (by_first T.Malloc m _ k ∙ size)

  pub primary_complete : (ts : List Lexeme) (e : ExpressionTree) (rest : List Lexeme) → Primary d I ts e → NotOpen rest → primary_of d i (ts ++ rest) ≡ Some (e, rest)
  unfolding primary_of get_char_at
  primary_complete ts e rest (is_constant v k c parts g) f = rw (parts, g, k, c) refl
  primary_complete ts e rest (is_null k parts g) f = rw (parts, g, k) refl
  primary_complete ts e rest (is_variable {t = t} k parts g) f = rw (parts, g) (by_first T.Name t _ k ∙ variable_complete t rest f)
  primary_complete ts e rest (is_call {t = t} {ts1 = ts1} {es = es} k lt a parts g) f = rw (parts, g) (by_first T.Name t _ k ∙ call_complete t ts1 es rest lt a)
  primary_complete ts e rest (is_free {t = t} {ts1 = ts1} {e1 = e1} k lt a parts g) f = rw (parts, g) (by_first T.Free t _ k ∙ free_complete t ts1 e1 rest lt a)
  primary_complete ts e rest (is_get_char k ko kc lt parts g) f = rw (parts, g, k, positive d lt, ko, kc) refl
  primary_complete ts e rest (is_parenthesised lt a) f = inner_complete ts e rest lt a
  primary_complete ts e rest (is_malloc lt a) f = plain_malloc_complete ts e rest lt a
  primary_complete ts e rest (is_cast_malloc {ts1 = ts1} {ts2 = ts2} {a = a} lt b m parts) f =
      rw (parts, append_assoc ts1 ts2 rest) (cast_complete ts1 ts2 a e rest lt b m)

  -- ---- unaries

  postfix_sound : (ts : List Lexeme) (e : ExpressionTree) (rest : List Lexeme) → postfix_of d i ts ≡ Some (e, rest) → Reads (UnaryOf d I) ts e rest
  unfolding postfix_of
  postfix_sound ts e rest h =
      let b = bind_some (primary_of d i ts) (λ x. members_at chain_limit x.0 x.1) (e, rest) h in
      let one = primary_sound ts b.0.0 b.0.1 b.1 in
      let two = members_sound chain_limit b.0.0 b.0.1 e rest b.2 in
      record {
        front = one.front ++ two.front;
        is = is_postfix one.is two.is refl;
        parts = one.parts ∙ ap (λ z. one.front ++ z) two.parts ∙ sym (append_assoc one.front two.front rest);
      }

  unary_sound : (ts : List Lexeme) (e : ExpressionTree) (rest : List Lexeme) → unary_of d i ts ≡ Some (e, rest) → Reads (UnaryOf d I) ts e rest
  unfolding unary_of
  unary_sound ts e rest h =
      elim (either (prefix_front ts) _ (postfix_of d i ts) (done e rest) h) [
        | inl w ↦
            let x = w.0 in
            elim (chosen (d == 0) None (i x.2 >>= λ y. done (unary x.0 x.1.site y.0) y.1) (done e rest) w.2) [
              | inl z ↦ absurd (let y = z.1 in cc)
              | inr z ↦
                  let one = part_bind p x.2 (λ y. done (unary x.0 x.1.site y.0) y.1) (e, rest) z.1 in
                  let y = one.0 in
                  let q = both_are (unary x.0 x.1.site y.0) e y.1 rest one.2 in
                  let f = prefix_is ts x w.1 in
                  record {
                    front = x.1 ∷ one.1.front;
                    is = is_prefixed x.0 f.0 (is_positive d z.0) one.1.is refl (sym q.0);
                    parts = f.1 ∙ ap (λ z. x.1 ∷ z) (one.1.parts ∙ ap (λ z. one.1.front ++ z) q.1);
                  }
            ]
        | inr w ↦ postfix_sound ts e rest w.1
      ]

  pub no_prefix : (ts : List Lexeme) (e : ExpressionTree) (rest : List Lexeme) → Primary d I ts e → prefix_front (ts ++ rest) ≡ None
  no_prefix ts e rest (is_constant v k c parts g) = rw (parts, k) refl
  no_prefix ts e rest (is_null k parts g) = rw (parts, k) refl
  no_prefix ts e rest (is_variable k parts g) = rw (parts, k) refl
  no_prefix ts e rest (is_call k lt a parts g) = rw (parts, k) refl
  no_prefix ts e rest (is_free k lt a parts g) = rw (parts, k) refl
  no_prefix ts e rest (is_get_char k ko kc lt parts g) = rw (parts, k) refl
  no_prefix ts e rest (is_parenthesised lt (parenthesised c k kc a parts)) = rw (parts, k) refl
  no_prefix ts e rest (is_malloc lt (allocation q c k k1 k2 k3 g1 k4 k5 parts r)) = rw (parts, k) refl
  no_prefix ts e rest (is_cast_malloc lt (parenthesised c k kc a parts) m parts2) = rw (parts2, parts, k) refl

  unary_complete : (ts : List Lexeme) (e : ExpressionTree) (rest : List Lexeme) → UnaryOf d I ts e → Stops 0 rest → unary_of d i (ts ++ rest) ≡ Some (e, rest)
  unfolding unary_of postfix_of
  unary_complete ts e rest (is_prefixed {ts1 = ts1} {e1 = e1} o k lt a parts g) s =
      let one : i (ts1 ++ rest) ≡ Some (e1, rest) = p.complete ts1 e1 rest a s in
      rw (parts, g, k, positive d lt, one) refl
  unary_complete ts e rest (is_postfix {ts1 = ts1} {ts2 = ts2} {e1 = e1} a m parts) s =
      let one : primary_of d i (ts1 ++ (ts2 ++ rest)) ≡ Some (e1, ts2 ++ rest) = primary_complete ts1 e1 (ts2 ++ rest) a (members_open rest m s) in
      let two : members_at chain_limit e1 (ts2 ++ rest) ≡ Some (e, rest) = members_complete rest m s in
      rw (parts, append_assoc ts1 ts2 rest, no_prefix ts1 e1 (ts2 ++ rest) a, one) two

  unary_exact : Exact (UnaryOf d I) (unary_of d i) (Stops 0)
  unary_exact = record { sound = unary_sound; complete = unary_complete }

-- ---- every depth

unary_shut : (d : ℕ) (i : Reader ExpressionTree) → Shut (unary_of d i)
unfolding unary_of postfix_of primary_of
unary_shut d i t ts h = let s = shut_by t.terminal h in rw (s.0, s.1 d i t ts) refl

abbrev pub none_read : Reader ExpressionTree
none_read ts = None

abbrev pub no_tree : Gram ExpressionTree
no_tree ts e = ⊥

pub nothing_exact : Exact no_tree none_read (Stops 0)
nothing_exact = record { sound = λ ts e rest h. absurd cc; complete = λ ts e rest g s. absurd g }

pub nothing_shut : Shut none_read
nothing_shut = λ t ts h. refl

pub at_shut : (d : ℕ) → Shut (unary_at d)
unfolding unary_at
at_shut zero = unary_shut zero (λ ts. None)
at_shut (suc d) = unary_shut (suc d) (unary_at d)

pub at_exact : (d : ℕ) → Exact (IsUnary d) (unary_at d) (Stops 0)
unfolding unary_at IsUnary
at_exact zero = unary_exact zero no_tree none_read nothing_exact nothing_shut
at_exact (suc d) = unary_exact (suc d) (IsUnary d) (unary_at d) (at_exact d) (at_shut d)

pub expression_exact : (d : ℕ) → Exact (IsExpression d) (expression_at d) (Stops 6)
unfolding expression_at IsExpression
expression_exact d = levels_exact (IsUnary d) (unary_at d) (at_exact d) 6

pub expression_shut : (d : ℕ) → Shut (expression_at d)
unfolding expression_at
expression_shut d = levels_shut (unary_at d) (at_shut d) 6
