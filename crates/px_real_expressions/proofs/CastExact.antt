-- Primaries, unaries and casts: what is read is in the grammar, and what is in the grammar is read.
use Rattle.std.proofs.Common.{◌≡◌, ◌≤◌, Bool, true, false, ◌||◌, not, List, [], ◌∷◌, ◌++◌, length, Option, Some, None, Ok, Err, refl, sym, ap, subst, ◌∙◌, append_assoc, length-append, arith, inl, inr}
use Rattle.std.proofs.lemmas.Option.{same_Some}
use Rattle.px_expressions.proofs.ExactTools.{chosen, either}
use Rattle.px_real_expressions.specs.declared.terminal.Terminal.{Terminal}
use Rattle.px_real_expressions.specs.declared.terminal.Terminal.TheVariants as T
use Rattle.px_real_expressions.specs.declared.operators.Measure.{Measure}
use Rattle.px_real_expressions.specs.declared.operators.Prefix.{Prefix}
use Rattle.px_real_expressions.specs.Lexemes.{Lexeme, same, front, front_if}
use Rattle.px_real_expressions.specs.Operators.{begins_type, is_identifier, begins_expression, prefix_of, wants_unary, measure_of, front_by}
use Rattle.px_real_expressions.specs.ExpressionTree.{ExpressionTree, is_unary, name, constant, string, parenthesised, statement, literal, form, prefixed, label, measure, measure_type, cast}
use Rattle.px_real_expressions.specs.Grammar.{Between, between, IsHeld, IsTypeName, is_type_name, Inside, Primary, is_name, is_constant, is_string, is_form, is_parenthesised, is_statement, is_literal, Suffixes, no_suffix, an_index, a_call, a_member, a_pointer_member, a_step, CastOf, is_postfix, is_prefixed, is_label, is_measure, is_measure_type, is_cast}
use Rattle.px_real_expressions.specs.Stops.{Stop, wrong, deep}
use Rattle.px_real_expressions.specs.Reading.{Reader, Readers, closed_at, held_up_to, type_at, braces_at, after_strings, typed_front, opened_at, form_at, primary_by, primary_of, suffixes_at, postfix_of, cast_at, typed_at, prefixed_at, shut_measure, measured_at, measure_at, label_at, operand_of}
use Rattle.px_real_expressions.proofs.Tools.{done, both_are, bind_ok, front_is, front_bind, if_bind, by_is, Reads, Exact, part_bind, Stops, stops_at, not_at, closed_parts}
use Rattle.px_real_expressions.proofs.HeldExact.{held_exact, type_exact}
use Rattle.px_real_expressions.proofs.OperandExact.{Shut, not_front, closed_sound, closed_complete, held_closes, strings_sound, strings_complete, LiteralFirst, AllExact, Fitting, fits, step_alone, suffix_parts, bracket_shape, suffixes_sound, suffixes_complete}

abbrev Front : Type 0
Front = Lexeme × List Lexeme

-- the parenthesis before a type's name
typed_is : (ts : List Lexeme) (o : Front) → typed_front ts ≡ Some o → (o.0.terminal ≡ T.OpenParenthesis) × (ts ≡ o.0 ∷ o.1)
unfolding typed_front
typed_is ts o h =
    elim (either (front T.OpenParenthesis ts) _ None (Some o) h) [
      | inl w ↦
          let f = front_is T.OpenParenthesis ts w.0 w.1 in
          elim (either (front_if begins_type w.0.1) _ None (Some o) w.2) [
            | inl v ↦
                let x : Front = (w.0.0, w.0.1) in
                let q : x ≡ o = same_Some x o v.2 in
                (ap (λ (z : Front). z.0.terminal) (sym q) ∙ f.0, f.1 ∙ ap (λ (z : Front). z.0 ∷ z.1) q)
            | inr v ↦ absurd (let z = v.1 in cc)
          ]
      | inr w ↦ absurd (let z = w.1 in cc)
    ]

typed_there : (o : Lexeme) (hs us a : List Lexeme) → o.terminal ≡ T.OpenParenthesis → IsTypeName hs a → typed_front (o ∷ (hs ++ us)) ≡ Some (o, hs ++ us)
unfolding typed_front
typed_there o hs us a ko (is_type_name {t = t} {ts1 = ts1} k m parts e) =
    let begun : front_if begins_type (hs ++ us) ≡ Some (t, ts1 ++ us) = rw (parts, k) refl in
    rw (ko, begun) refl

-- nothing but a primary begins here
abbrev NoOther : List Lexeme → Type 0
NoOther ts = (front_by prefix_of ts ≡ None) × (front T.AndAnd ts ≡ None) × (front_by measure_of ts ≡ None) × (typed_front ts ≡ None)

no_other : (k : Terminal) → prefix_of k ≡ None → same k T.AndAnd ≡ false → measure_of k ≡ None → same k T.OpenParenthesis ≡ false → (t : Lexeme) (us : List Lexeme) → t.terminal ≡ k → NoOther (t ∷ us)
unfolding typed_front
no_other k a b c d t us h = (rw (h, a) refl, rw (h, b) refl, rw (h, c) refl, rw (h, d) refl)

no_other_open : (o : Lexeme) (us : List Lexeme) → o.terminal ≡ T.OpenParenthesis → front_if begins_type us ≡ None → NoOther (o ∷ us)
unfolding typed_front
no_other_open o us h f = (rw h refl, rw h refl, rw h refl, rw (h, f) refl)

measure_alone : (k : Terminal) (m : Measure) → measure_of k ≡ Some m → (prefix_of k ≡ None) × (same k T.AndAnd ≡ false)
measure_alone T.Sizeof m h = (refl, refl)
measure_alone T.Alignof m h = (refl, refl)
measure_alone _ m h = absurd cc

-- where no expression begins, no operand does
shut_by : (k : Terminal) → begins_expression k ≡ false → (prefix_of k ≡ None) × (same k T.AndAnd ≡ false) × (measure_of k ≡ None) × (same k T.OpenParenthesis ≡ false) × ((r : Readers) (t : Lexeme) (ts : List Lexeme) → primary_by k r t ts ≡ Err (wrong (t ∷ ts)))
shut_by T.Name h = absurd cc
shut_by T.Constant h = absurd cc
shut_by T.String h = absurd cc
shut_by T.Form h = absurd cc
shut_by T.Sizeof h = absurd cc
shut_by T.Alignof h = absurd cc
shut_by T.Extension h = absurd cc
shut_by T.Real h = absurd cc
shut_by T.Imaginary h = absurd cc
shut_by T.OpenParenthesis h = absurd cc
shut_by T.PlusPlus h = absurd cc
shut_by T.MinusMinus h = absurd cc
shut_by T.Ampersand h = absurd cc
shut_by T.Star h = absurd cc
shut_by T.Plus h = absurd cc
shut_by T.Minus h = absurd cc
shut_by T.Tilde h = absurd cc
shut_by T.Not h = absurd cc
shut_by T.AndAnd h = absurd cc
shut_by _ h = (refl, refl, refl, refl, λ r t ts. refl)

pub operand_shut : (only : Bool) (r : Readers) → Shut (operand_of only r)
unfolding operand_of typed_front postfix_of primary_of
operand_shut only r t ts h = let s = shut_by t.terminal h in rw (s.0, s.1, s.2, s.3, s.4 r t ts, h) refl

-- no cast fits where a unary expression only may stand
not_only : (only : Bool) → (not only || false) ≡ true → only ≡ false
not_only false h = refl
not_only true h = absurd cc

-- where something was read, no type's name begins
type_alone : (k : Terminal) → begins_type k ≡ true → begins_expression k ≡ false
type_alone T.Type h = refl
type_alone T.TypeName h = refl
type_alone _ h = absurd cc

not_type : (r : Reader ExpressionTree) → Shut r → (ts : List Lexeme) (x : ExpressionTree × List Lexeme) → r ts ≡ Ok x → front_if begins_type ts ≡ None
not_type r s [] x h = refl
not_type r s (t ∷ ts) x h =
    elim (chosen (begins_type t.terminal) (Some (t, ts)) None (front_if begins_type (t ∷ ts)) refl) [
      | inl w ↦ absurd (let z = s t ts (type_alone t.terminal w.0) in cc)
      | inr w ↦ sym w.1
    ]

-- ---- unary expressions

unary_fits : (only : Bool) (e : ExpressionTree) → is_unary e ≡ true → fits only e ≡ true
unary_fits true e h = h
unary_fits false e h = refl

primary_unary : {i : Inside} {ts : List Lexeme} {e : ExpressionTree} → Primary i ts e → is_unary e ≡ true
primary_unary (is_name k parts g) = ap is_unary g
primary_unary (is_constant k parts g) = ap is_unary g
primary_unary (is_string k ss parts g) = ap is_unary g
primary_unary (is_form k b parts g) = ap is_unary g
primary_unary (is_parenthesised b g) = ap is_unary g
primary_unary (is_statement b g) = ap is_unary g
primary_unary (is_literal b c parts g) = ap is_unary g

suffixes_unary : {i : Inside} {left e : ExpressionTree} {ts : List Lexeme} → Suffixes i left ts e → is_unary left ≡ true → is_unary e ≡ true
suffixes_unary (no_suffix h g) u = ap is_unary g ∙ u
suffixes_unary (an_index b m parts) u = suffixes_unary m refl
suffixes_unary (a_call b m parts) u = suffixes_unary m refl
suffixes_unary (a_member k kn m parts) u = suffixes_unary m refl
suffixes_unary (a_pointer_member k kn m parts) u = suffixes_unary m refl
suffixes_unary (a_step s k m parts) u = suffixes_unary m refl

module _ (i : Inside) (r : Readers) (p : AllExact i r) where
  -- ---- what is read is in the grammar

  form_sound : (t : Lexeme) (ts : List Lexeme) (e : ExpressionTree) (rest : List Lexeme) → t.terminal ≡ T.Form → form_at t ts ≡ Ok (e, rest) → Reads (Primary i) (t ∷ ts) e rest
  unfolding form_at
  form_sound t ts e rest k h =
      let o = front_bind T.OpenParenthesis ts _ (e, rest) h in
      let b = bind_ok (closed_at T.CloseParenthesis (held_up_to T.CloseParenthesis) o.0.1) _ (e, rest) o.3 in
      let one = closed_sound (held_exact T.CloseParenthesis refl refl) T.OpenParenthesis T.CloseParenthesis o.0.0 o.0.1 b.0.0 b.0.1 o.1 b.1 in
      let q = both_are (form t.text t.site b.0.0) e b.0.1 rest b.2 in
      record { front = t ∷ one.front; is = is_form k one.is refl (sym q.0); parts = ap (λ z. t ∷ z) (o.2 ∙ one.parts ∙ ap (λ z. one.front ++ z) q.1) }

  opened_sound : (o : Lexeme) (ts : List Lexeme) (e : ExpressionTree) (rest : List Lexeme) → o.terminal ≡ T.OpenParenthesis → opened_at r o ts ≡ Ok (e, rest) → Reads (Primary i) (o ∷ ts) e rest
  unfolding opened_at braces_at
  opened_sound o ts e rest k h =
      elim (either (front T.OpenBrace ts) _ _ (done e rest) h) [
        | inl w ↦
            let f = front_is T.OpenBrace ts w.0 w.1 in
            let b = bind_ok (closed_at T.CloseBrace (held_up_to T.CloseBrace) w.0.1) _ (e, rest) w.2 in
            let one = closed_sound (held_exact T.CloseBrace refl refl) T.OpenBrace T.CloseBrace w.0.0 w.0.1 b.0.0 b.0.1 f.0 b.1 in
            let c = front_bind T.CloseParenthesis b.0.1 _ (e, rest) b.2 in
            let q = both_are (statement o.site b.0.0) e c.0.1 rest c.3 in
            record {
              front = o ∷ one.front ++ c.0.0 ∷ [];
              is = is_statement {b = w.0.0} (between c.0.0 k c.1 one.is refl) (sym q.0);
              parts = closed_parts o c.0.0 one.front ts b.0.1 c.0.1 rest (f.1 ∙ one.parts) c.2 q.1;
            }
        | inr w ↦
            let b = bind_ok (closed_at T.CloseParenthesis r.expression_reader ts) _ (e, rest) w.1 in
            let one = closed_sound p.expressions T.OpenParenthesis T.CloseParenthesis o ts b.0.0 b.0.1 k b.1 in
            let q = both_are (parenthesised o.site b.0.0) e b.0.1 rest b.2 in
            record { front = one.front; is = is_parenthesised one.is (sym q.0); parts = one.parts ∙ ap (λ z. one.front ++ z) q.1 }
      ]

  primary_by_sound : (k : Terminal) (t : Lexeme) (ts : List Lexeme) (e : ExpressionTree) (rest : List Lexeme) → t.terminal ≡ k → primary_by k r t ts ≡ Ok (e, rest) → Reads (Primary i) (t ∷ ts) e rest
  primary_by_sound T.Name t ts e rest k h =
      let q = both_are (name t.text t.site) e ts rest h in
      record { front = t ∷ []; is = is_name k refl (sym q.0); parts = ap (λ z. t ∷ z) q.1 }
  primary_by_sound T.Constant t ts e rest k h =
      let q = both_are (constant t.value t.site) e ts rest h in
      record { front = t ∷ []; is = is_constant k refl (sym q.0); parts = ap (λ z. t ∷ z) q.1 }
  primary_by_sound T.String t ts e rest k h =
      let s = strings_sound ts in
      let q = both_are (string t.site) e (after_strings ts) rest h in
      record { front = t ∷ s.0; is = is_string k s.1 refl (sym q.0); parts = ap (λ z. t ∷ z) (s.2 ∙ ap (λ z. s.0 ++ z) q.1) }
  primary_by_sound T.Form t ts e rest k h = form_sound t ts e rest k h
  primary_by_sound T.OpenParenthesis t ts e rest k h = opened_sound t ts e rest k h
  primary_by_sound _ t ts e rest k h = absurd cc

  primary_sound : (ts : List Lexeme) (e : ExpressionTree) (rest : List Lexeme) → primary_of r ts ≡ Ok (e, rest) → Reads (Primary i) ts e rest
  unfolding primary_of
  primary_sound [] e rest h = absurd cc
  primary_sound (t ∷ ts) e rest h = primary_by_sound t.terminal t ts e rest refl h

  postfix_sound : (only : Bool) (ts : List Lexeme) (e : ExpressionTree) (rest : List Lexeme) → postfix_of r ts ≡ Ok (e, rest) → Reads (Fitting only (CastOf i)) ts e rest
  unfolding postfix_of
  postfix_sound only ts e rest h =
      let b = bind_ok (primary_of r ts) (λ x. suffixes_at r (length x.1) x.0 x.1) (e, rest) h in
      let one = primary_sound ts b.0.0 b.0.1 b.1 in
      let two = suffixes_sound i r p (length b.0.1) b.0.0 b.0.1 e rest b.2 in
      record {
        front = one.front ++ two.front;
        is = (is_postfix one.is two.is refl, unary_fits only e (suffixes_unary two.is (primary_unary one.is)));
        parts = suffix_parts one.front two.front ts b.0.1 rest one.parts two.parts;
      }

  cast_at_sound : (only : Bool) (o : Lexeme) (held ts : List Lexeme) (e : ExpressionTree) (rest : List Lexeme) → cast_at only r o held ts ≡ Ok (e, rest) →
      (e1 : ExpressionTree) × Reads (i.cast_part) ts e1 rest × (e ≡ cast o.site held e1) × (only ≡ false)
  unfolding cast_at
  cast_at_sound only o held ts e rest h =
      elim (chosen only (Err (wrong ts)) _ (done e rest) h) [
        | inl v ↦ absurd (let z = v.1 in cc)
        | inr v ↦
            let y = part_bind (p.operands false) ts _ (e, rest) v.1 in
            let q = both_are (cast o.site held y.0.0) e y.0.1 rest y.2 in
            (y.0.0, record { front = y.1.front; is = y.1.is.0; parts = y.1.parts ∙ ap (λ z. y.1.front ++ z) q.1 }, sym q.0, v.0)
      ]

  typed_sound : (only : Bool) (o : Lexeme) (ts : List Lexeme) (e : ExpressionTree) (rest : List Lexeme) → o.terminal ≡ T.OpenParenthesis → typed_at only r o ts ≡ Ok (e, rest) → Reads (Fitting only (CastOf i)) (o ∷ ts) e rest
  unfolding typed_at braces_at
  typed_sound only o ts e rest k h =
      let b = bind_ok (closed_at T.CloseParenthesis type_at ts) _ (e, rest) h in
      let one = closed_sound type_exact T.OpenParenthesis T.CloseParenthesis o ts b.0.0 b.0.1 k b.1 in
      elim (either (front T.OpenBrace b.0.1) _ _ (done e rest) b.2) [
        | inl w ↦
            let f = front_is T.OpenBrace b.0.1 w.0 w.1 in
            let c = bind_ok (closed_at T.CloseBrace (held_up_to T.CloseBrace) w.0.1) _ (e, rest) w.2 in
            let two = closed_sound (held_exact T.CloseBrace refl refl) T.OpenBrace T.CloseBrace w.0.0 w.0.1 c.0.0 c.0.1 f.0 c.1 in
            let three = suffixes_sound i r p (length c.0.1) (literal o.site b.0.0 c.0.0) c.0.1 e rest c.2 in
            record {
              front = (one.front ++ two.front) ++ three.front;
              is = (is_postfix (is_literal one.is two.is refl refl) three.is refl, unary_fits only e (suffixes_unary three.is refl));
              parts = suffix_parts (one.front ++ two.front) three.front (o ∷ ts) c.0.1 rest (suffix_parts one.front two.front (o ∷ ts) b.0.1 c.0.1 one.parts (f.1 ∙ two.parts)) three.parts;
            }
        | inr w ↦
            let y = cast_at_sound only o b.0.0 b.0.1 e rest w.1 in
            record {
              front = one.front ++ y.1.front;
              is = (is_cast one.is y.1.is refl y.2, ap (λ z. fits z e) y.3);
              parts = suffix_parts one.front y.1.front (o ∷ ts) b.0.1 rest one.parts y.1.parts;
            }
      ]

  prefixed_sound : (only : Bool) (x : Prefix) (t : Lexeme) (ts : List Lexeme) (e : ExpressionTree) (rest : List Lexeme) → prefix_of t.terminal ≡ Some x → prefixed_at r x t ts ≡ Ok (e, rest) →
      Reads (Fitting only (CastOf i)) (t ∷ ts) e rest
  unfolding prefixed_at
  prefixed_sound only x t ts e rest k h =
      elim (chosen r.may_open _ (Err (deep (t ∷ ts))) (done e rest) h) [
        | inl v ↦
            let y = part_bind (p.operands (wants_unary x)) ts _ (e, rest) v.1 in
            let q = both_are (prefixed x t.site y.0.0) e y.0.1 rest y.2 in
            record {
              front = t ∷ y.1.front;
              is = (is_prefixed x k y.1.is.0 y.1.is.1 refl (sym q.0), unary_fits only e (ap is_unary (sym q.0)));
              parts = ap (λ z. t ∷ z) (y.1.parts ∙ ap (λ z. y.1.front ++ z) q.1);
            }
        | inr v ↦ absurd (let z = v.1 in cc)
      ]

  measured_sound : (only : Bool) (m : Measure) (t : Lexeme) (stop : Stop) (ts : List Lexeme) (e : ExpressionTree) (rest : List Lexeme) → measure_of t.terminal ≡ Some m → measured_at r m t stop ts ≡ Ok (e, rest) →
      Reads (Fitting only (CastOf i)) (t ∷ ts) e rest
  unfolding measured_at
  measured_sound only m t stop ts e rest k h =
      elim (chosen r.may_open _ (Err stop) (done e rest) h) [
        | inl v ↦
            let y = part_bind (p.operands true) ts _ (e, rest) v.1 in
            let q = both_are (measure m t.site y.0.0) e y.0.1 rest y.2 in
            record {
              front = t ∷ y.1.front;
              is = (is_measure m k y.1.is.0 y.1.is.1 refl (sym q.0), unary_fits only e (ap is_unary (sym q.0)));
              parts = ap (λ z. t ∷ z) (y.1.parts ∙ ap (λ z. y.1.front ++ z) q.1);
            }
        | inr v ↦ absurd (let z = v.1 in cc)
      ]

  measure_sound : (only : Bool) (m : Measure) (t : Lexeme) (ts : List Lexeme) (e : ExpressionTree) (rest : List Lexeme) → measure_of t.terminal ≡ Some m → measure_at r m t ts ≡ Ok (e, rest) →
      Reads (Fitting only (CastOf i)) (t ∷ ts) e rest
  unfolding measure_at
  measure_sound only m t ts e rest k h =
      elim (either (typed_front ts) _ _ (done e rest) h) [
        | inl w ↦
            let o = typed_is ts w.0 w.1 in
            let b = bind_ok (closed_at T.CloseParenthesis type_at w.0.1) _ (e, rest) w.2 in
            elim (either (front T.OpenBrace b.0.1) _ (done (measure_type m t.site b.0.0) b.0.1) (done e rest) b.2) [
              | inl v ↦ measured_sound only m t (deep b.0.1) ts e rest k v.2
              | inr v ↦
                  let one = closed_sound type_exact T.OpenParenthesis T.CloseParenthesis w.0.0 w.0.1 b.0.0 b.0.1 o.0 b.1 in
                  let q = both_are (measure_type m t.site b.0.0) e b.0.1 rest v.1 in
                  record {
                    front = t ∷ one.front;
                    is = (is_measure_type m k one.is refl (sym q.0), unary_fits only e (ap is_unary (sym q.0)));
                    parts = ap (λ z. t ∷ z) (o.1 ∙ one.parts ∙ ap (λ z. one.front ++ z) q.1);
                  }
            ]
        | inr w ↦ measured_sound only m t (shut_measure ts) ts e rest k w.1
      ]

  operand_sound : (only : Bool) (ts : List Lexeme) (e : ExpressionTree) (rest : List Lexeme) → operand_of only r ts ≡ Ok (e, rest) → Reads (Fitting only (CastOf i)) ts e rest
  unfolding operand_of label_at
  operand_sound only ts e rest h =
      elim (either (front_by prefix_of ts) _ _ (done e rest) h) [
        | inl w ↦
            let f = by_is prefix_of ts w.0 w.1 in
            subst (λ z. Reads (Fitting only (CastOf i)) z e rest) (sym f.1) (prefixed_sound only w.0.0 w.0.1 w.0.2 e rest f.0 w.2)
        | inr w1 ↦
            elim (either (front T.AndAnd ts) _ _ (done e rest) w1.1) [
              | inl w ↦
                  let f = front_is T.AndAnd ts w.0 w.1 in
                  let g = if_bind is_identifier w.0.1 _ (e, rest) w.2 in
                  let q = both_are (label g.0.0.text w.0.0.site) e g.0.1 rest g.3 in
                  record {
                    front = w.0.0 ∷ g.0.0 ∷ [];
                    is = (is_label f.0 g.1 refl (sym q.0), unary_fits only e (ap is_unary (sym q.0)));
                    parts = f.1 ∙ ap (λ z. w.0.0 ∷ z) (g.2 ∙ ap (λ z. g.0.0 ∷ z) q.1);
                  }
              | inr w2 ↦
                  elim (either (front_by measure_of ts) _ _ (done e rest) w2.1) [
                    | inl w ↦
                        let f = by_is measure_of ts w.0 w.1 in
                        subst (λ z. Reads (Fitting only (CastOf i)) z e rest) (sym f.1) (measure_sound only w.0.0 w.0.1 w.0.2 e rest f.0 w.2)
                    | inr w3 ↦
                        elim (either (typed_front ts) _ (postfix_of r ts) (done e rest) w3.1) [
                          | inl w ↦
                              let f = typed_is ts w.0 w.1 in
                              subst (λ z. Reads (Fitting only (CastOf i)) z e rest) (sym f.1) (typed_sound only w.0.0 w.0.1 e rest f.0 w.2)
                          | inr w ↦ postfix_sound only ts e rest w.1
                        ]
                  ]
            ]
      ]

  -- ---- what is in the grammar is read

  no_string_after : {left e : ExpressionTree} {ts : List Lexeme} (rest : List Lexeme) → Suffixes i left ts e → Stops 0 rest → front T.String (ts ++ rest) ≡ None
  no_string_after rest (no_suffix h g) s = rw h (not_at T.String 0 rest (omega arith) s)
  no_string_after rest (an_index {o = o} {ts2 = ts2} (between c {ts1 = us} ko kc g parts1) m parts) s = rw (bracket_shape o c us ts2 rest parts1 parts, ko) refl
  no_string_after rest (a_call {o = o} {ts2 = ts2} (between c {ts1 = us} ko kc g parts1) m parts) s = rw (bracket_shape o c us ts2 rest parts1 parts, ko) refl
  no_string_after rest (a_member k kn m parts) s = rw (parts, k) refl
  no_string_after rest (a_pointer_member k kn m parts) s = rw (parts, k) refl
  no_string_after rest (a_step {t = t} d k m parts) s = let alone = step_alone t.terminal d k in rw (parts, alone.4) refl

  -- a primary that nothing else could be, and what follows it
  plain_complete : (only : Bool) (ts1 ts2 ts : List Lexeme) (e1 e : ExpressionTree) (rest : List Lexeme) → NoOther (ts1 ++ (ts2 ++ rest)) → primary_of r (ts1 ++ (ts2 ++ rest)) ≡ Ok (e1, ts2 ++ rest) →
      Suffixes i e1 ts2 e → ts ≡ ts1 ++ ts2 → Stops 0 rest → operand_of only r (ts ++ rest) ≡ Ok (e, rest)
  unfolding operand_of postfix_of
  plain_complete only ts1 ts2 ts e1 e rest n one m parts s =
      let fits : length ts2 ≤ length (ts2 ++ rest) = omega (arith, length-append ts2 rest) in
      rw (parts, append_assoc ts1 ts2 rest, n.0, n.1, n.2, n.3, one) (suffixes_complete i r p (length (ts2 ++ rest)) rest m s fits)

  by_first : (k : Terminal) (t : Lexeme) (ts : List Lexeme) → t.terminal ≡ k → primary_of r (t ∷ ts) ≡ primary_by k r t ts
  unfolding primary_of
  by_first k t ts h = ap (λ z. primary_by z r t ts) h

  form_complete : (t o : Lexeme) (ts a us : List Lexeme) → Between T.OpenParenthesis T.CloseParenthesis IsHeld ts o a → form_at t (ts ++ us) ≡ Ok (form t.text t.site a, us)
  unfolding form_at
  form_complete t o ts a us (between c {ts1 = hs} ko kc g parts) =
      let one = closed_complete (held_exact T.CloseParenthesis refl refl) T.OpenParenthesis T.CloseParenthesis (held_closes T.CloseParenthesis) c hs a us kc g in
      rw (parts, ko, one) refl

  -- an expression in parentheses begins with no type's name and no brace
  inner_complete : (o c : Lexeme) (vs us : List Lexeme) (e1 : ExpressionTree) → c.terminal ≡ T.CloseParenthesis → i.expression_part vs e1 →
      (front_if begins_type ((vs ++ c ∷ []) ++ us) ≡ None) × (opened_at r o ((vs ++ c ∷ []) ++ us) ≡ Ok (parenthesised o.site e1, us))
  unfolding opened_at
  inner_complete o c vs us e1 kc g =
      let one : r.expression_reader (vs ++ c ∷ us) ≡ Ok (e1, c ∷ us) = p.expressions.complete vs e1 (c ∷ us) g (stops_at T.CloseParenthesis refl c us kc) in
      let closed = closed_complete p.expressions T.OpenParenthesis T.CloseParenthesis (stops_at T.CloseParenthesis refl) c vs e1 us kc g in
      let shape : (vs ++ c ∷ []) ++ us ≡ vs ++ c ∷ us = append_assoc vs (c ∷ []) us in
      let no_type : front_if begins_type ((vs ++ c ∷ []) ++ us) ≡ None = ap (front_if begins_type) shape ∙ not_type r.expression_reader p.expressions_shut (vs ++ c ∷ us) (e1, c ∷ us) one in
      let no_brace : front T.OpenBrace ((vs ++ c ∷ []) ++ us) ≡ None = ap (front T.OpenBrace) shape ∙ not_front r.expression_reader p.expressions_shut T.OpenBrace refl (vs ++ c ∷ us) (e1, c ∷ us) one in
      (no_type, rw (no_brace, closed) refl)

  statement_complete : (o b c : Lexeme) (vs a us : List Lexeme) → c.terminal ≡ T.CloseParenthesis → Between T.OpenBrace T.CloseBrace IsHeld vs b a →
      (front_if begins_type ((vs ++ c ∷ []) ++ us) ≡ None) × (opened_at r o ((vs ++ c ∷ []) ++ us) ≡ Ok (statement o.site a, us))
  unfolding opened_at braces_at
  statement_complete o b c vs a us kc (between d {ts1 = hs} kb kd g parts) =
      let shape : (vs ++ c ∷ []) ++ us ≡ b ∷ (hs ++ d ∷ []) ++ (c ∷ us) = ap (λ z. (z ++ c ∷ []) ++ us) parts ∙ append_assoc (b ∷ hs ++ d ∷ []) (c ∷ []) us in
      let one = closed_complete (held_exact T.CloseBrace refl refl) T.OpenBrace T.CloseBrace (held_closes T.CloseBrace) d hs a (c ∷ us) kd g in
      (rw (shape, kb) refl, rw (shape, kb, one, kc) refl)

  -- what begins with a type's name in parentheses
  typed_first : (only : Bool) (o : Lexeme) (us : List Lexeme) → o.terminal ≡ T.OpenParenthesis → typed_front (o ∷ us) ≡ Some (o, us) → operand_of only r (o ∷ us) ≡ typed_at only r o us
  unfolding operand_of
  typed_first only o us k h = rw (h, k) refl

  literal_complete : (only : Bool) (o b c d : Lexeme) (hs gs a1 a2 ts2 rest : List Lexeme) (e : ExpressionTree) → o.terminal ≡ T.OpenParenthesis → c.terminal ≡ T.CloseParenthesis → IsTypeName hs a1 →
      b.terminal ≡ T.OpenBrace → d.terminal ≡ T.CloseBrace → IsHeld gs a2 → Suffixes i (literal o.site a1 a2) ts2 e → Stops 0 rest →
      typed_at only r o ((hs ++ c ∷ []) ++ (b ∷ (gs ++ d ∷ []) ++ (ts2 ++ rest))) ≡ Ok (e, rest)
  unfolding typed_at braces_at
  literal_complete only o b c d hs gs a1 a2 ts2 rest e ko kc g kb kd g2 m s =
      let one = closed_complete type_exact T.OpenParenthesis T.CloseParenthesis (held_closes T.CloseParenthesis) c hs a1 (b ∷ (gs ++ d ∷ []) ++ (ts2 ++ rest)) kc g in
      let two = closed_complete (held_exact T.CloseBrace refl refl) T.OpenBrace T.CloseBrace (held_closes T.CloseBrace) d gs a2 (ts2 ++ rest) kd g2 in
      let fits : length ts2 ≤ length (ts2 ++ rest) = omega (arith, length-append ts2 rest) in
      rw (one, kb, two) (suffixes_complete i r p (length (ts2 ++ rest)) rest m s fits)

  cast_there : (o c : Lexeme) (hs a ts2 rest : List Lexeme) (e1 : ExpressionTree) → c.terminal ≡ T.CloseParenthesis → IsTypeName hs a → i.cast_part ts2 e1 → Stops 0 rest →
      typed_at false r o ((hs ++ c ∷ []) ++ (ts2 ++ rest)) ≡ Ok (cast o.site a e1, rest)
  unfolding typed_at cast_at
  cast_there o c hs a ts2 rest e1 kc g g2 s =
      let one = closed_complete type_exact T.OpenParenthesis T.CloseParenthesis (held_closes T.CloseParenthesis) c hs a (ts2 ++ rest) kc g in
      let two : r.operand_reader false (ts2 ++ rest) ≡ Ok (e1, rest) = (p.operands false).complete ts2 e1 rest (g2, refl) s in
      let no_brace : front T.OpenBrace (ts2 ++ rest) ≡ None = not_front (r.operand_reader false) (p.operands_shut false) T.OpenBrace refl (ts2 ++ rest) (e1, rest) two in
      rw (one, no_brace, two) refl

  -- brackets, and what stands behind what follows them
  two_shapes : (o c b d : Lexeme) (hs gs ts2 rest : List Lexeme) {ts1 us ts3 ts : List Lexeme} → ts1 ≡ o ∷ hs ++ c ∷ [] → us ≡ b ∷ gs ++ d ∷ [] → ts3 ≡ ts1 ++ us → ts ≡ ts3 ++ ts2 →
      ts ++ rest ≡ o ∷ (hs ++ c ∷ []) ++ (b ∷ (gs ++ d ∷ []) ++ (ts2 ++ rest))
  two_shapes o c b d hs gs ts2 rest {ts1 = ts1} {us = us} {ts3 = ts3} h g f e =
      ap (λ z. z ++ rest) e ∙ append_assoc ts3 ts2 rest ∙ ap (λ z. z ++ (ts2 ++ rest)) f ∙ append_assoc ts1 us (ts2 ++ rest)
      ∙ ap (λ z. z ++ (us ++ (ts2 ++ rest))) h ∙ ap (λ z. (o ∷ hs ++ c ∷ []) ++ (z ++ (ts2 ++ rest))) g

  measured_there : (m : Measure) (t : Lexeme) (stop : Stop) (ts rest : List Lexeme) (e1 : ExpressionTree) → r.may_open ≡ true → r.operand_reader true (ts ++ rest) ≡ Ok (e1, rest) →
      measured_at r m t stop (ts ++ rest) ≡ Ok (measure m t.site e1, rest)
  unfolding measured_at
  measured_there m t stop ts rest e1 may one = rw (may, one) refl

  measure_there : (m : Measure) (t : Lexeme) (ts rest : List Lexeme) (e1 : ExpressionTree) → r.may_open ≡ true → r.operand_reader true (ts ++ rest) ≡ Ok (e1, rest) →
      measure_at r m t (ts ++ rest) ≡ Ok (measure m t.site e1, rest)
  unfolding measure_at
  measure_there m t ts rest e1 may one = by (typed_front (ts ++ rest)) refl
    where
      by : (x : Option Front) → typed_front (ts ++ rest) ≡ x → measure_at r m t (ts ++ rest) ≡ Ok (measure m t.site e1, rest)
      by None h = rw h (measured_there m t (shut_measure (ts ++ rest)) ts rest e1 may one)
      by (Some o) h =
          let l = p.literals (ts ++ rest) o (e1, rest) h one in
          rw (h, l.2, l.3) (measured_there m t (deep l.0.1) ts rest e1 may one)

  measure_type_there : (m : Measure) (t o : Lexeme) (ts a rest : List Lexeme) → Between T.OpenParenthesis T.CloseParenthesis IsTypeName ts o a → Stops 0 rest → measure_at r m t (ts ++ rest) ≡ Ok (measure_type m t.site a, rest)
  unfolding measure_at
  measure_type_there m t o ts a rest (between c {ts1 = hs} ko kc g parts) s =
      let shape : ts ++ rest ≡ o ∷ (hs ++ c ∷ []) ++ rest = ap (λ z. z ++ rest) parts in
      let assoc : (hs ++ c ∷ []) ++ rest ≡ hs ++ (c ∷ rest) = append_assoc hs (c ∷ []) rest in
      let begun : typed_front (o ∷ (hs ++ c ∷ []) ++ rest) ≡ Some (o, (hs ++ c ∷ []) ++ rest) = rw assoc (typed_there o hs (c ∷ rest) a ko g) in
      let one = closed_complete type_exact T.OpenParenthesis T.CloseParenthesis (held_closes T.CloseParenthesis) c hs a rest kc g in
      rw (shape, begun, one, not_at T.OpenBrace 0 rest (omega arith) s) refl

  prefixed_there : (x : Prefix) (t : Lexeme) (ts rest : List Lexeme) (e1 : ExpressionTree) → r.may_open ≡ true → r.operand_reader (wants_unary x) (ts ++ rest) ≡ Ok (e1, rest) →
      prefixed_at r x t (ts ++ rest) ≡ Ok (prefixed x t.site e1, rest)
  unfolding prefixed_at
  prefixed_there x t ts rest e1 may one = rw (may, one) refl

  operand_complete : (only : Bool) (ts : List Lexeme) (e : ExpressionTree) (rest : List Lexeme) → CastOf i ts e → fits only e ≡ true → Stops 0 rest → operand_of only r (ts ++ rest) ≡ Ok (e, rest)
  unfolding operand_of label_at
  operand_complete only ts e rest (is_postfix {ts1 = ts1} {ts2 = ts2} {e1 = e1} (is_name {t = t} k parts1 g) m parts) u s =
      plain_complete only ts1 ts2 ts e1 e rest (rw parts1 (no_other T.Name refl refl refl refl t (ts2 ++ rest) k)) (rw (parts1, g) (by_first T.Name t (ts2 ++ rest) k)) m parts s
  operand_complete only ts e rest (is_postfix {ts1 = ts1} {ts2 = ts2} {e1 = e1} (is_constant {t = t} k parts1 g) m parts) u s =
      plain_complete only ts1 ts2 ts e1 e rest (rw parts1 (no_other T.Constant refl refl refl refl t (ts2 ++ rest) k)) (rw (parts1, g) (by_first T.Constant t (ts2 ++ rest) k)) m parts s
  operand_complete only ts e rest (is_postfix {ts1 = ts1} {ts2 = ts2} {e1 = e1} (is_string {t = t} {ts1 = us} k ss parts1 g) m parts) u s =
      let after_them : after_strings (us ++ (ts2 ++ rest)) ≡ ts2 ++ rest = strings_complete (ts2 ++ rest) ss (no_string_after rest m s) in
      plain_complete only ts1 ts2 ts e1 e rest (rw parts1 (no_other T.String refl refl refl refl t (us ++ (ts2 ++ rest)) k))
      (rw (parts1, g) (by_first T.String t (us ++ (ts2 ++ rest)) k ∙ ap (λ z. done (string t.site) z) after_them)) m parts s
  operand_complete only ts e rest (is_postfix {ts1 = ts1} {ts2 = ts2} {e1 = e1} (is_form {t = t} {o = o} {ts1 = us} {a = a} k b parts1 g) m parts) u s =
      plain_complete only ts1 ts2 ts e1 e rest (rw parts1 (no_other T.Form refl refl refl refl t (us ++ (ts2 ++ rest)) k))
      (rw (parts1, g) (by_first T.Form t (us ++ (ts2 ++ rest)) k ∙ form_complete t o us a (ts2 ++ rest) b)) m parts s
  operand_complete only ts e rest (is_postfix {ts1 = ts1} {ts2 = ts2} {e1 = e1} (is_parenthesised {o = o} {e1 = e2} (between c {ts1 = vs} ko kc b parts1) g) m parts) u s =
      let q = inner_complete o c vs (ts2 ++ rest) e2 kc b in
      plain_complete only ts1 ts2 ts e1 e rest (rw parts1 (no_other_open o ((vs ++ c ∷ []) ++ (ts2 ++ rest)) ko q.0))
      (rw (parts1, g) (by_first T.OpenParenthesis o ((vs ++ c ∷ []) ++ (ts2 ++ rest)) ko ∙ q.1)) m parts s
  operand_complete only ts e rest (is_postfix {ts1 = ts1} {ts2 = ts2} {e1 = e1} (is_statement {o = o} {b = b} {a = a} (between c {ts1 = vs} ko kc h parts1) g) m parts) u s =
      let q = statement_complete o b c vs a (ts2 ++ rest) kc h in
      plain_complete only ts1 ts2 ts e1 e rest (rw parts1 (no_other_open o ((vs ++ c ∷ []) ++ (ts2 ++ rest)) ko q.0))
      (rw (parts1, g) (by_first T.OpenParenthesis o ((vs ++ c ∷ []) ++ (ts2 ++ rest)) ko ∙ q.1)) m parts s
  operand_complete only ts e rest (is_postfix {ts2 = ts2} {e1 = e1} (is_literal {o = o} {b = b} {a1 = a1} {a2 = a2} (between c {ts1 = hs} ko kc h1 parts1) (between d {ts1 = gs} kb kd h2 parts2) parts3 g) m parts) u s =
      let shape = two_shapes o c b d hs gs ts2 rest parts1 parts2 parts3 parts in
      let us : List Lexeme = b ∷ (gs ++ d ∷ []) ++ (ts2 ++ rest) in
      let begun : typed_front (o ∷ (hs ++ c ∷ []) ++ us) ≡ Some (o, (hs ++ c ∷ []) ++ us) = rw (append_assoc hs (c ∷ []) us) (typed_there o hs (c ∷ us) a1 ko h1) in
      ap (operand_of only r) shape ∙ typed_first only o ((hs ++ c ∷ []) ++ us) ko begun ∙ literal_complete only o b c d hs gs a1 a2 ts2 rest e ko kc h1 kb kd h2 (subst (λ z. Suffixes i z ts2 e) g m) s
  operand_complete only ts e rest (is_prefixed {t = t} {ts1 = ts1} {e1 = e1} x k a w parts g) u s =
      rw (parts, g, k) (prefixed_there x t ts1 rest e1 (p.casts_open ts1 e1 a) ((p.operands (wants_unary x)).complete ts1 e1 rest (a, w) s))
  operand_complete only ts e rest (is_label k kn parts g) u s = rw (parts, g, k, kn) refl
  operand_complete only ts e rest (is_measure {t = t} {ts1 = ts1} {e1 = e1} m k a w parts g) u s =
      let alone = measure_alone t.terminal m k in
      rw (parts, g, alone.0, alone.1, k) (measure_there m t ts1 rest e1 (p.casts_open ts1 e1 a) ((p.operands true).complete ts1 e1 rest (a, w) s))
  operand_complete only ts e rest (is_measure_type {t = t} {o = o} {ts1 = ts1} {a = a} m k b parts g) u s =
      let alone = measure_alone t.terminal m k in
      rw (parts, g, alone.0, alone.1, k) (measure_type_there m t o ts1 a rest b s)
  operand_complete only ts e rest (is_cast {o = o} {ts2 = ts2} {a = a} {e1 = e1} (between c {ts1 = hs} ko kc h parts1) b parts g) u s =
      let shape = bracket_shape o c hs ts2 rest parts1 parts in
      let us : List Lexeme = ts2 ++ rest in
      let begun : typed_front (o ∷ (hs ++ c ∷ []) ++ us) ≡ Some (o, (hs ++ c ∷ []) ++ us) = rw (append_assoc hs (c ∷ []) us) (typed_there o hs (c ∷ us) a ko h) in
      let both : only ≡ false = not_only only (sym (ap (fits only) g) ∙ u) in
      ap (operand_of only r) shape ∙ typed_first only o ((hs ++ c ∷ []) ++ us) ko begun ∙ ap (λ z. typed_at z r o ((hs ++ c ∷ []) ++ us)) both ∙ cast_there o c hs a ts2 rest e1 kc h b s ∙ ap (λ z. done z rest) (sym g)

  pub operand_exact : (only : Bool) → Exact (Fitting only (CastOf i)) (operand_of only r) (Stops 0)
  operand_exact only = record { sound = operand_sound only; complete = λ ts e rest g s. operand_complete only ts e rest g.0 g.1 s }

  literals_first : (o : Front) (x : ExpressionTree × List Lexeme) → typed_at true r o.0 o.1 ≡ Ok x →
      (y : List Lexeme × List Lexeme) × (b : Front) × (closed_at T.CloseParenthesis type_at o.1 ≡ Ok y) × (front T.OpenBrace y.1 ≡ Some b)
  unfolding typed_at cast_at
  literals_first o x h =
      let b = bind_ok (closed_at T.CloseParenthesis type_at o.1) _ x h in
      elim (either (front T.OpenBrace b.0.1) _ _ (Ok x) b.2) [
        | inl w ↦ (b.0, w.0, b.1, w.1)
        | inr w ↦ absurd (let z = w.1 in cc)
      ]

  pub operand_literals : LiteralFirst (operand_of true r)
  operand_literals ts o x h g =
      let t = typed_is ts o h in
      let here : typed_front (o.0 ∷ o.1) ≡ Some (o.0, o.1) = ap typed_front (sym t.1) ∙ h in
      literals_first o x (sym (typed_first true o.0 o.1 t.0 here) ∙ ap (operand_of true r) (sym t.1) ∙ g)
