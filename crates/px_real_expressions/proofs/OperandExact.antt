-- Operands: what is read is an operand of the grammar, where what is opened in it is read so.
use Rattle.std.proofs.Common.{◌≡◌, ℕ, zero, suc, ◌<◌, ◌≤◌, Bool, true, false, ◌||◌, not, List, [], ◌∷◌, ◌++◌, length, Some, None, Ok, Err, refl, sym, ap, subst, ◌∙◌, append_assoc, length-append, arith, inl, inr}
use Rattle.px_expressions.proofs.ExactTools.{chosen, either}
use Rattle.px_real_expressions.specs.declared.terminal.Terminal.{Terminal}
use Rattle.px_real_expressions.specs.declared.terminal.Terminal.TheVariants as T
use Rattle.px_real_expressions.specs.declared.operators.Step.{Step}
use Rattle.px_real_expressions.specs.Lexemes.{Lexeme, same, front}
use Rattle.px_real_expressions.specs.Operators.{begins_expression, is_identifier, level_of, step_of, front_by}
use Rattle.px_real_expressions.specs.ExpressionTree.{ExpressionTree, expressions_of, is_unary, index, call, member, pointer_member, step}
use Rattle.px_real_expressions.specs.Grammar.{Gram, Between, between, Strings, no_string, a_string, MoreItems, no_item, an_item, Arguments, no_arguments, some_arguments, Inside, Suffixes, no_suffix, an_index, a_call, a_member, a_pointer_member, a_step}
use Rattle.px_real_expressions.specs.Reading.{Reader, Readers, shut, closed_at, type_at, after_strings, typed_front, more_items, arguments_at, index_at, suffixes_at}
use Rattle.px_real_expressions.proofs.Tools.{done, both_are, bind_ok, same_is, front_is, front_bind, if_bind, front_here, by_is, Reads, Exact, part_bind, Stops, stops_less, stops_at, not_at, not_by, closed_parts}
use Rattle.px_real_expressions.proofs.HeldExact.{ClosedBy}

-- ---- what begins an expression

-- nothing is read where no expression begins
abbrev pub Shut : Reader ExpressionTree → Type 0
Shut r = (t : Lexeme) (ts : List Lexeme) → begins_expression t.terminal ≡ false → r (t ∷ ts) ≡ Err (shut (t ∷ ts))

-- where something was read, no terminal stands at the front that begins no expression
pub not_front : (r : Reader ExpressionTree) → Shut r → (k : Terminal) → begins_expression k ≡ false → (ts : List Lexeme) (x : ExpressionTree × List Lexeme) → r ts ≡ Ok x → front k ts ≡ None
not_front r s k b [] x h = refl
not_front r s k b (t ∷ ts) x h =
    elim (chosen (same t.terminal k) (Some (t, ts)) None (front k (t ∷ ts)) refl) [
      | inl w ↦ absurd (let z = s t ts (ap begins_expression (same_is t.terminal k w.0) ∙ b) in cc)
      | inr w ↦ sym w.1
    ]

-- ---- what stands between brackets

abbrev pub Bracketed : {A : Type 0} → Terminal → Terminal → Gram A → Lexeme → Gram A
Bracketed opening ending G o ts a = Between opening ending G ts o a

module _ {A : Type 0} {G : Gram A} {part : Reader A} {Follows : List Lexeme → Type 0} (p : Exact G part Follows) (opening ending : Terminal) where
  pub closed_sound : (o : Lexeme) (ts : List Lexeme) (a : A) (rest : List Lexeme) → o.terminal ≡ opening → closed_at ending part ts ≡ Ok (a, rest) → Reads (Bracketed opening ending G o) (o ∷ ts) a rest
  unfolding closed_at
  closed_sound o ts a rest k h =
      let one = part_bind p ts _ (a, rest) h in
      let c = front_bind ending one.0.1 _ (a, rest) one.2 in
      let q = both_are one.0.0 a c.0.1 rest c.3 in
      record {
        front = o ∷ one.1.front ++ c.0.0 ∷ [];
        is = between c.0.0 k c.1 (subst (λ z. G one.1.front z) q.0 one.1.is) refl;
        parts = closed_parts o c.0.0 one.1.front ts one.0.1 c.0.1 rest one.1.parts c.2 q.1;
      }

  pub closed_complete : ((c : Lexeme) (us : List Lexeme) → c.terminal ≡ ending → Follows (c ∷ us)) → (c : Lexeme) (ts1 : List Lexeme) (a : A) (rest : List Lexeme) → c.terminal ≡ ending → G ts1 a →
      closed_at ending part ((ts1 ++ c ∷ []) ++ rest) ≡ Ok (a, rest)
  unfolding closed_at
  closed_complete follows c ts1 a rest k g =
      let one : part (ts1 ++ c ∷ rest) ≡ Ok (a, c ∷ rest) = p.complete ts1 a (c ∷ rest) g (follows c rest k) in
      rw (append_assoc ts1 (c ∷ []) rest, one, front_here ending c rest k) refl

pub held_closes : (k : Terminal) (c : Lexeme) (us : List Lexeme) → c.terminal ≡ k → ClosedBy k (c ∷ us)
held_closes k c us h = (c, us, refl, h)

-- ---- strings

pub strings_sound : (ts : List Lexeme) → (us : List Lexeme) × Strings us × (ts ≡ us ++ after_strings ts)
unfolding after_strings
strings_sound [] = ([], no_string refl, refl)
strings_sound (t ∷ ts) =
    elim (chosen (same t.terminal T.String) (after_strings ts) (t ∷ ts) (after_strings (t ∷ ts)) refl) [
      | inl w ↦
          let r = strings_sound ts in
          (t ∷ r.0, a_string (same_is t.terminal T.String w.0) r.1 refl, ap (λ z. t ∷ z) (r.2 ∙ ap (λ z. r.0 ++ z) w.1))
      | inr w ↦ ([], no_string refl, w.1)
    ]

no_more_strings : (rest : List Lexeme) → front T.String rest ≡ None → after_strings rest ≡ rest
unfolding after_strings
no_more_strings [] h = refl
no_more_strings (t ∷ ts) h =
    elim (chosen (same t.terminal T.String) (Some (t, ts)) None None h) [
      | inl w ↦ absurd (let z = w.1 in cc)
      | inr w ↦ rw w.0 refl
    ]

pub strings_complete : {us : List Lexeme} (rest : List Lexeme) → Strings us → front T.String rest ≡ None → after_strings (us ++ rest) ≡ rest
unfolding after_strings
strings_complete rest (no_string h) f = rw h (no_more_strings rest f)
strings_complete rest (a_string k s parts) f = rw (parts, k) (strings_complete rest s f)

-- ---- arguments

abbrev NoComma : List Lexeme → Type 0
NoComma ts = front T.Comma ts ≡ None

module _ {G : Gram ExpressionTree} {part : Reader ExpressionTree} (p : Exact G part (Stops 12)) where
  items_sound : (n : ℕ) (ts : List Lexeme) (es : List ExpressionTree) (rest : List Lexeme) → more_items n part ts ≡ Ok (es, rest) → Reads (MoreItems G) ts es rest
  unfolding more_items
  items_sound zero ts es rest h =
      let q = both_are [] es ts rest h in
      record { front = []; is = no_item refl (sym q.0); parts = q.1 }
  items_sound (suc n) ts es rest h =
      elim (either (front T.Comma ts) _ (done [] ts) (done es rest) h) [
        | inl v ↦
            let f = front_is T.Comma ts v.0 v.1 in
            let one = part_bind p v.0.1 _ (es, rest) v.2 in
            let b = bind_ok (more_items n part one.0.1) _ (es, rest) one.2 in
            let two = items_sound n one.0.1 b.0.0 b.0.1 b.1 in
            let q = both_are (one.0.0 ∷ b.0.0) es b.0.1 rest b.2 in
            record {
              front = v.0.0 ∷ one.1.front ++ two.front;
              is = an_item f.0 one.1.is two.is refl (sym q.0);
              parts = f.1 ∙ ap (λ z. v.0.0 ∷ z) (one.1.parts ∙ ap (λ z. one.1.front ++ z) (two.parts ∙ ap (λ z. two.front ++ z) q.1) ∙ sym (append_assoc one.1.front two.front rest));
            }
        | inr v ↦
            let q = both_are [] es ts rest v.1 in
            record { front = []; is = no_item refl (sym q.0); parts = q.1 }
      ]

  items_stop : {ts : List Lexeme} {es : List ExpressionTree} (rest : List Lexeme) → MoreItems G ts es → Stops 12 rest → Stops 12 (ts ++ rest)
  items_stop rest (no_item h g) s = subst (λ z. Stops 12 (z ++ rest)) (sym h) s
  items_stop rest (an_item {t = t} {ts1 = ts1} {ts2 = ts2} k a m parts g) s =
      let l : level_of t.terminal ≡ 13 = ap level_of k in
      let lt : 12 < level_of t.terminal = omega arith in
      subst (λ z. Stops 12 (z ++ rest)) (sym parts) lt

  items_complete : (n : ℕ) {ts : List Lexeme} {es : List ExpressionTree} (rest : List Lexeme) → MoreItems G ts es → Stops 12 rest → NoComma rest → length ts ≤ n → more_items n part (ts ++ rest) ≡ Ok (es, rest)
  unfolding more_items
  items_complete zero rest (no_item h g) s c le = rw (h, g) refl
  items_complete (suc n) rest (no_item h g) s c le = rw (h, g, c) refl
  items_complete zero rest (an_item k a m parts g) s c le = absurd (let e = ap length parts in omega arith)
  items_complete (suc n) {ts = ts} rest (an_item {t = t} {ts1 = ts1} {ts2 = ts2} {e = e} {es1 = es1} k a m parts g) s c le =
      let one : part ((ts1 ++ ts2) ++ rest) ≡ Ok (e, ts2 ++ rest) = rw (append_assoc ts1 ts2 rest) (p.complete ts1 e (ts2 ++ rest) a (items_stop rest m s)) in
      let len : length ts ≡ suc (length (ts1 ++ ts2)) = ap length parts in
      let fits : length ts2 ≤ n = omega (arith, length-append ts1 ts2) in
      let two : more_items n part (ts2 ++ rest) ≡ Ok (es1, rest) = items_complete n rest m s c fits in
      rw (parts, g, k, one, two) refl

  pub arguments_sound : (o : Lexeme) (ts : List Lexeme) (es : List ExpressionTree) (rest : List Lexeme) → o.terminal ≡ T.OpenParenthesis → arguments_at part ts ≡ Ok (es, rest) →
      Reads (Bracketed T.OpenParenthesis T.CloseParenthesis (Arguments G) o) (o ∷ ts) es rest
  unfolding arguments_at
  arguments_sound o ts es rest k h =
      elim (either (front T.CloseParenthesis ts) _ _ (done es rest) h) [
        | inl w ↦
            let f = front_is T.CloseParenthesis ts w.0 w.1 in
            let q = both_are [] es w.0.1 rest w.2 in
            record {
              front = o ∷ w.0.0 ∷ [];
              is = between w.0.0 {ts1 = []} k f.0 (no_arguments refl (sym q.0)) refl;
              parts = ap (λ z. o ∷ z) (f.1 ∙ ap (λ z. w.0.0 ∷ z) q.1);
            }
        | inr w ↦
            let one = part_bind p ts _ (es, rest) w.1 in
            let b = bind_ok (more_items (length one.0.1) part one.0.1) _ (es, rest) one.2 in
            let two = items_sound (length one.0.1) one.0.1 b.0.0 b.0.1 b.1 in
            let c = front_bind T.CloseParenthesis b.0.1 _ (es, rest) b.2 in
            let q = both_are (one.0.0 ∷ b.0.0) es c.0.1 rest c.3 in
            record {
              front = o ∷ (one.1.front ++ two.front) ++ c.0.0 ∷ [];
              is = between c.0.0 {ts1 = one.1.front ++ two.front} k c.1 (some_arguments one.1.is two.is refl (sym q.0)) refl;
              parts = closed_parts o c.0.0 (one.1.front ++ two.front) ts b.0.1 c.0.1 rest (one.1.parts ∙ ap (λ z. one.1.front ++ z) two.parts ∙ sym (append_assoc one.1.front two.front b.0.1)) c.2 q.1;
            }
      ]

  pub arguments_complete : Shut part → (c : Lexeme) (ts1 : List Lexeme) (es : List ExpressionTree) (rest : List Lexeme) → c.terminal ≡ T.CloseParenthesis → Arguments G ts1 es →
      arguments_at part ((ts1 ++ c ∷ []) ++ rest) ≡ Ok (es, rest)
  unfolding arguments_at
  arguments_complete shut c ts1 es rest k (no_arguments h g) = rw (h, g, front_here T.CloseParenthesis c rest k) refl
  arguments_complete shut c ts1 es rest k (some_arguments {ts1 = us1} {ts2 = us2} {e = e} {es1 = es1} a m parts g) =
      let stop : Stops 12 (c ∷ rest) = stops_less 13 12 (c ∷ rest) (omega arith) (stops_at T.CloseParenthesis refl c rest k) in
      let none : front T.Comma (c ∷ rest) ≡ None = rw k refl in
      let one : part (us1 ++ (us2 ++ c ∷ rest)) ≡ Ok (e, us2 ++ c ∷ rest) = p.complete us1 e (us2 ++ c ∷ rest) a (items_stop (c ∷ rest) m stop) in
      let fits : length us2 ≤ length (us2 ++ c ∷ rest) = omega (arith, length-append us2 (c ∷ rest)) in
      let two : more_items (length (us2 ++ c ∷ rest)) part (us2 ++ c ∷ rest) ≡ Ok (es1, c ∷ rest) = items_complete (length (us2 ++ c ∷ rest)) (c ∷ rest) m stop none fits in
      let shape : (ts1 ++ c ∷ []) ++ rest ≡ us1 ++ (us2 ++ c ∷ rest) = append_assoc ts1 (c ∷ []) rest ∙ ap (λ z. z ++ c ∷ rest) parts ∙ append_assoc us1 us2 (c ∷ rest) in
      let begun : front T.CloseParenthesis (us1 ++ (us2 ++ c ∷ rest)) ≡ None = not_front part shut T.CloseParenthesis refl (us1 ++ (us2 ++ c ∷ rest)) (e, us2 ++ c ∷ rest) one in
      rw (shape, g, begun, one, two, front_here T.CloseParenthesis c rest k) refl

-- ---- what is opened

-- a unary expression that begins with a type's name in parentheses is a compound literal
abbrev pub LiteralFirst : Reader ExpressionTree → Type 0
LiteralFirst r = (ts : List Lexeme) (o : Lexeme × List Lexeme) (x : ExpressionTree × List Lexeme) → typed_front ts ≡ Some o → r ts ≡ Ok x →
    (y : List Lexeme × List Lexeme) × (b : Lexeme × List Lexeme) × (closed_at T.CloseParenthesis type_at o.1 ≡ Ok y) × (front T.OpenBrace y.1 ≡ Some b)

-- whether a tree may stand where a unary expression only may, or a cast too
abbrev pub fits : Bool → ExpressionTree → Bool
fits only e = not only || is_unary e

-- operands that fit
abbrev pub Fitting : Bool → Gram ExpressionTree → Gram ExpressionTree
Fitting only part ts e = part ts e × (fits only e ≡ true)

-- where something is in a grammar, one more may be opened
abbrev pub Opens : Gram ExpressionTree → Readers → Type 0
Opens part r = (ts : List Lexeme) (e : ExpressionTree) → part ts e → r.may_open ≡ true

pub record AllExact (i : Inside) (r : Readers) : Type 0 where
  pub operands : (only : Bool) → Exact (Fitting only (i.cast_part)) (r.operand_reader only) (Stops 0)
  pub conditionals : Exact (i.conditional_part) (r.conditional_reader) (Stops 11)
  pub assignments : Exact (i.assignment_part) (r.assignment_reader) (Stops 12)
  pub expressions : Exact (i.expression_part) (r.expression_reader) (Stops 13)
  pub operands_shut : (only : Bool) → Shut (r.operand_reader only)
  pub assignments_shut : Shut (r.assignment_reader)
  pub expressions_shut : Shut (r.expression_reader)
  pub literals : LiteralFirst (r.operand_reader true)
  pub casts_open : Opens (i.cast_part) r
  pub conditionals_open : Opens (i.conditional_part) r
  pub assignments_open : Opens (i.assignment_part) r
  pub expressions_open : Opens (i.expression_part) r

-- ---- suffixes

step_low : (k : Terminal) (s : Step) → step_of k ≡ Some s → level_of k ≤ 0
step_low T.PlusPlus s h = omega arith
step_low T.MinusMinus s h = omega arith
step_low _ s h = absurd cc

-- the terminal of a step begins no other suffix
pub step_alone : (k : Terminal) (s : Step) → step_of k ≡ Some s → (same k T.OpenBracket ≡ false) × (same k T.OpenParenthesis ≡ false) × (same k T.Dot ≡ false) × (same k T.Arrow ≡ false) × (same k T.String ≡ false)
step_alone T.PlusPlus s h = (refl, refl, refl, refl, refl)
step_alone T.MinusMinus s h = (refl, refl, refl, refl, refl)
step_alone _ s h = absurd cc

-- one suffix, and those after it
pub suffix_parts : (us vs ts ws rest : List Lexeme) → ts ≡ us ++ ws → ws ≡ vs ++ rest → ts ≡ (us ++ vs) ++ rest
suffix_parts us vs ts ws rest h g = h ∙ ap (λ z. us ++ z) g ∙ sym (append_assoc us vs rest)

some_left : (o c : Lexeme) (us ts2 : List Lexeme) {ts1 ts : List Lexeme} → ts1 ≡ o ∷ us ++ c ∷ [] → ts ≡ ts1 ++ ts2 → length ts ≤ 0 → ⊥
some_left o c us ts2 {ts1 = ts1} h g le = omega (arith, ap length h, ap length g, length-append ts1 ts2)

pub bracket_shape : (o c : Lexeme) (us ts2 rest : List Lexeme) {ts1 ts : List Lexeme} → ts1 ≡ o ∷ us ++ c ∷ [] → ts ≡ ts1 ++ ts2 → ts ++ rest ≡ o ∷ (us ++ c ∷ []) ++ (ts2 ++ rest)
bracket_shape o c us ts2 rest {ts1 = ts1} h g = ap (λ z. z ++ rest) g ∙ append_assoc ts1 ts2 rest ∙ ap (λ z. z ++ (ts2 ++ rest)) h

bracket_fits : (o c : Lexeme) (us ts2 : List Lexeme) (n : ℕ) {ts1 ts : List Lexeme} → ts1 ≡ o ∷ us ++ c ∷ [] → ts ≡ ts1 ++ ts2 → length ts ≤ suc n → length ts2 ≤ n
bracket_fits o c us ts2 n {ts1 = ts1} h g le = omega (arith, ap length h, ap length g, length-append ts1 ts2)

module _ (i : Inside) (r : Readers) (p : AllExact i r) where
  index_sound : (left : ExpressionTree) (o : Lexeme) (ts : List Lexeme) (e : ExpressionTree) (rest : List Lexeme) → o.terminal ≡ T.OpenBracket → index_at r left o ts ≡ Ok (e, rest) →
      (a : ExpressionTree) × (e ≡ index o.site left a) × Reads (Bracketed T.OpenBracket T.CloseBracket (i.expression_part) o) (o ∷ ts) a rest
  unfolding index_at
  index_sound left o ts e rest k h =
      elim (chosen r.may_open _ _ (done e rest) h) [
        | inl v ↦
            let b = bind_ok (closed_at T.CloseBracket r.expression_reader ts) _ (e, rest) v.1 in
            let one = closed_sound p.expressions T.OpenBracket T.CloseBracket o ts b.0.0 b.0.1 k b.1 in
            let q = both_are (index o.site left b.0.0) e b.0.1 rest b.2 in
            (b.0.0, sym q.0, record { front = one.front; is = one.is; parts = one.parts ∙ ap (λ z. one.front ++ z) q.1 })
        | inr v ↦ absurd (let z = v.1 in cc)
      ]

  pub suffixes_sound : (n : ℕ) (left : ExpressionTree) (ts : List Lexeme) (e : ExpressionTree) (rest : List Lexeme) → suffixes_at r n left ts ≡ Ok (e, rest) → Reads (Suffixes i left) ts e rest
  unfolding suffixes_at
  suffixes_sound zero left ts e rest h =
      let q = both_are left e ts rest h in
      record { front = []; is = no_suffix refl (sym q.0); parts = q.1 }
  suffixes_sound (suc n) left ts e rest h =
      elim (either (front T.OpenBracket ts) _ _ (done e rest) h) [
        | inl w ↦
            let f = front_is T.OpenBracket ts w.0 w.1 in
            let b = bind_ok (index_at r left w.0.0 w.0.1) _ (e, rest) w.2 in
            let one = index_sound left w.0.0 w.0.1 b.0.0 b.0.1 f.0 b.1 in
            let two = suffixes_sound n b.0.0 b.0.1 e rest b.2 in
            record {
              front = one.2.front ++ two.front;
              is = an_index one.2.is (subst (λ z. Suffixes i z two.front e) one.1 two.is) refl;
              parts = suffix_parts one.2.front two.front ts b.0.1 rest (f.1 ∙ one.2.parts) two.parts;
            }
        | inr w1 ↦
            elim (either (front T.OpenParenthesis ts) _ _ (done e rest) w1.1) [
              | inl w ↦
                  let f = front_is T.OpenParenthesis ts w.0 w.1 in
                  let b = bind_ok (arguments_at r.assignment_reader w.0.1) _ (e, rest) w.2 in
                  let one = arguments_sound p.assignments w.0.0 w.0.1 b.0.0 b.0.1 f.0 b.1 in
                  let two = suffixes_sound n (call w.0.0.site left (expressions_of b.0.0)) b.0.1 e rest b.2 in
                  record { front = one.front ++ two.front; is = a_call one.is two.is refl; parts = suffix_parts one.front two.front ts b.0.1 rest (f.1 ∙ one.parts) two.parts }
              | inr w2 ↦
                  elim (either (front T.Dot ts) _ _ (done e rest) w2.1) [
                    | inl w ↦
                        let f = front_is T.Dot ts w.0 w.1 in
                        let g = if_bind is_identifier w.0.1 _ (e, rest) w.2 in
                        let two = suffixes_sound n (member w.0.0.site left g.0.0.text) g.0.1 e rest g.3 in
                        record { front = w.0.0 ∷ g.0.0 ∷ two.front; is = a_member f.0 g.1 two.is refl; parts = f.1 ∙ ap (λ z. w.0.0 ∷ z) (g.2 ∙ ap (λ z. g.0.0 ∷ z) two.parts) }
                    | inr w3 ↦
                        elim (either (front T.Arrow ts) _ _ (done e rest) w3.1) [
                          | inl w ↦
                              let f = front_is T.Arrow ts w.0 w.1 in
                              let g = if_bind is_identifier w.0.1 _ (e, rest) w.2 in
                              let two = suffixes_sound n (pointer_member w.0.0.site left g.0.0.text) g.0.1 e rest g.3 in
                              record { front = w.0.0 ∷ g.0.0 ∷ two.front; is = a_pointer_member f.0 g.1 two.is refl; parts = f.1 ∙ ap (λ z. w.0.0 ∷ z) (g.2 ∙ ap (λ z. g.0.0 ∷ z) two.parts) }
                          | inr w4 ↦
                              elim (either (front_by step_of ts) _ (done left ts) (done e rest) w4.1) [
                                | inl w ↦
                                    let f = by_is step_of ts w.0 w.1 in
                                    let two = suffixes_sound n (step w.0.0 w.0.1.site left) w.0.2 e rest w.2 in
                                    record { front = w.0.1 ∷ two.front; is = a_step w.0.0 f.0 two.is refl; parts = f.1 ∙ ap (λ z. w.0.1 ∷ z) two.parts }
                                | inr w ↦
                                    let q = both_are left e ts rest w.1 in
                                    record { front = []; is = no_suffix refl (sym q.0); parts = q.1 }
                              ]
                        ]
                  ]
            ]
      ]

  close_stops : (k : Terminal) → level_of k ≡ 14 → (c : Lexeme) (us : List Lexeme) → c.terminal ≡ k → Stops 13 (c ∷ us)
  close_stops k l c us h = stops_at k l c us h

  pub suffixes_complete : (n : ℕ) {left e : ExpressionTree} {ts : List Lexeme} (rest : List Lexeme) → Suffixes i left ts e → Stops 0 rest → length ts ≤ n → suffixes_at r n left (ts ++ rest) ≡ Ok (e, rest)
  unfolding suffixes_at index_at
  suffixes_complete zero rest (no_suffix h g) s le = rw (h, g) refl
  suffixes_complete (suc n) rest (no_suffix h g) s le =
      rw (h, g, not_at T.OpenBracket 0 rest (omega arith) s, not_at T.OpenParenthesis 0 rest (omega arith) s, not_at T.Dot 0 rest (omega arith) s, not_at T.Arrow 0 rest (omega arith) s, not_by step_of 0 rest step_low s) refl
  suffixes_complete zero rest (an_index {o = o} {ts2 = ts2} (between c {ts1 = us} ko kc a parts1) m parts) s le = absurd (some_left o c us ts2 parts1 parts le)
  suffixes_complete zero rest (a_call {o = o} {ts2 = ts2} (between c {ts1 = us} ko kc a parts1) m parts) s le = absurd (some_left o c us ts2 parts1 parts le)
  suffixes_complete zero rest (a_member k kn m parts) s le = absurd (let e1 = ap length parts in omega arith)
  suffixes_complete zero rest (a_pointer_member k kn m parts) s le = absurd (let e1 = ap length parts in omega arith)
  suffixes_complete zero rest (a_step d k m parts) s le = absurd (let e1 = ap length parts in omega arith)
  suffixes_complete (suc n) {e = e} rest (an_index {left = left} {a = a} {o = o} {ts2 = ts2} (between c {ts1 = us} ko kc g parts1) m parts) s le =
      let shape = bracket_shape o c us ts2 rest parts1 parts in
      let fits = bracket_fits o c us ts2 n parts1 parts le in
      let one : closed_at T.CloseBracket r.expression_reader ((us ++ c ∷ []) ++ (ts2 ++ rest)) ≡ Ok (a, ts2 ++ rest) =
      closed_complete p.expressions T.OpenBracket T.CloseBracket (close_stops T.CloseBracket refl) c us a (ts2 ++ rest) kc g in
      let two : suffixes_at r n (index o.site left a) (ts2 ++ rest) ≡ Ok (e, rest) = suffixes_complete n rest m s fits in
      let may = p.expressions_open us a g in
      rw (shape, ko, may, one) two
  suffixes_complete (suc n) {e = e} rest (a_call {left = left} {es = es} {o = o} {ts2 = ts2} (between c {ts1 = us} ko kc g parts1) m parts) s le =
      let shape = bracket_shape o c us ts2 rest parts1 parts in
      let fits = bracket_fits o c us ts2 n parts1 parts le in
      let one : arguments_at r.assignment_reader ((us ++ c ∷ []) ++ (ts2 ++ rest)) ≡ Ok (es, ts2 ++ rest) =
      arguments_complete p.assignments p.assignments_shut c us es (ts2 ++ rest) kc g in
      let two : suffixes_at r n (call o.site left (expressions_of es)) (ts2 ++ rest) ≡ Ok (e, rest) = suffixes_complete n rest m s fits in
      rw (shape, ko, one) two
  suffixes_complete (suc n) {e = e} rest (a_member {left = left} {t = t} {f = f} {ts1 = ts1} k kn m parts) s le =
      let fits : length ts1 ≤ n = omega (arith, ap length parts) in
      let two : suffixes_at r n (member t.site left f.text) (ts1 ++ rest) ≡ Ok (e, rest) = suffixes_complete n rest m s fits in
      rw (parts, k, kn) two
  suffixes_complete (suc n) {e = e} rest (a_pointer_member {left = left} {t = t} {f = f} {ts1 = ts1} k kn m parts) s le =
      let fits : length ts1 ≤ n = omega (arith, ap length parts) in
      let two : suffixes_at r n (pointer_member t.site left f.text) (ts1 ++ rest) ≡ Ok (e, rest) = suffixes_complete n rest m s fits in
      rw (parts, k, kn) two
  suffixes_complete (suc n) {e = e} rest (a_step {left = left} {t = t} {ts1 = ts1} d k m parts) s le =
      let fits : length ts1 ≤ n = omega (arith, ap length parts) in
      let two : suffixes_at r n (step d t.site left) (ts1 ++ rest) ≡ Ok (e, rest) = suffixes_complete n rest m s fits in
      let alone = step_alone t.terminal d k in
      rw (parts, alone.0, alone.1, alone.2, alone.3, k) two
