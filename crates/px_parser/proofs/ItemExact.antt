-- The readers of items read exactly what the grammar says.
use Rattle.std.proofs.Common.{◌≡◌, ℕ, zero, suc, ◌<◌, true, false, List, [], ◌∷◌, ◌++◌, length, Option, Some, None, refl, sym, ap, subst, ◌∙◌, append_assoc, length-append, arith, inl, inr}
use Rattle.std.proofs.lemmas.List.{append-nil}
use Rattle.px_base.specs.declared.trace.Site.{Site}
use Rattle.px_expressions.specs.declared.terminal.Terminal.{Terminal}
use Rattle.px_expressions.specs.declared.terminal.Terminal.TheVariants as T
use Rattle.px_expressions.specs.Lexemes.{Lexeme, same, front}
use Rattle.px_expressions.specs.Reading.{base_at, type_at, separated_at}
use Rattle.px_statements.specs.SimpleReading.{declarator_at}
use Rattle.px_statements.specs.StatementReading.{statements_at, statement_at}
use Rattle.px_parser.specs.ItemReading.{field_at, more_fields, struct_at, result_at, parameter_at, parameters_at, all_named, depth_limit, ending_at, function_at, ends_struct, struct_front, item_at}
use Rattle.px_expressions.specs.Grammar.{is_int, is_struct, IsStars, no_star, one_star, two_stars, is_type, Separated, Parenthesised, parenthesised}
use Rattle.px_statements.specs.StatementGrammar.{IsBraced, is_braced, IsStatement}
use Rattle.px_parser.specs.ItemGrammar.{IsField, is_field, AreFields, no_field, one_field, IsResult, is_void, is_value, IsParameter, is_named, is_unnamed, AreParameters, no_parameters, void_parameters, some_parameters, IsFunction, is_prototype, is_function, IsItemAt, is_declared, is_struct_item, is_plain_function, is_static_function, IsItem, is_item}
use Rattle.px_expressions.proofs.ExactTools.{chosen, bind_some, either, done, both_are, front_is, front_bind, Reads, Exact, part_bind, Anything}
use Rattle.px_expressions.proofs.ListExact.{Separates, NoComma, separated_exact}
use Rattle.px_expressions.proofs.TypeExact.{base_exact, type_exact, NoStar}
use Rattle.px_expressions.proofs.ExpressionExact.{front_here, closed_parts}
use Rattle.px_statements.proofs.SimpleExact.{declarator_exact}
use Rattle.px_statements.proofs.StatementExact.{braced_sound, braced_complete, statement_at_exact}
use Rattle.px_statements.proofs.ClauseExact.{AwayFrom, away_front}
use Rattle.px_syntax.specs.declared.item.FieldDeclaration.{FieldDeclaration}
use Rattle.px_syntax.specs.declared.item.ResultType.{ResultType}
use Rattle.px_syntax.specs.declared.item.ResultType.TheVariants as R
use Rattle.px_syntax.specs.declared.item.Parameter.{Parameter}
use Rattle.px_syntax.specs.StatementTree.{StatementTree}
use Rattle.px_syntax.specs.ItemTree.{ItemTree, struct, declared, prototype, function}

-- ---- fields

anything_separates : Separates Anything
anything_separates = record { comma = λ c rest h. tt }

field_sound : (ts : List Lexeme) (a : FieldDeclaration) (rest : List Lexeme) → field_at ts ≡ Some (a, rest) → Reads IsField ts a rest
unfolding field_at
field_sound ts a rest h =
    let b = part_bind base_exact ts _ (a, rest) h in
    let s = part_bind (separated_exact declarator_exact anything_separates) b.0.1 _ (a, rest) b.2 in
    let f = front_bind T.Semicolon s.0.1 _ (a, rest) s.2 in
    let q = both_are (record { base = b.0.0; declarators = s.0.0 }) a f.0.1 rest f.3 in
    record {
      front = b.1.front ++ (s.1.front ++ f.0.0 ∷ []);
      is = is_field f.0.0 b.1.is s.1.is f.1 refl (sym q.0);
      parts = field_parts f.0.0 b.1.front s.1.front ts b.0.1 s.0.1 f.0.1 rest b.1.parts s.1.parts f.2 q.1;
    }
  where
    field_parts : (t : Lexeme) (a b ts us vs ws rest : List Lexeme) → ts ≡ a ++ us → us ≡ b ++ vs → vs ≡ t ∷ ws → ws ≡ rest → ts ≡ (a ++ (b ++ t ∷ [])) ++ rest
    field_parts t a b ts us vs ws rest h1 h2 h3 h4 =
        h1 ∙ ap (λ z. a ++ z) (h2 ∙ ap (λ z. b ++ z) (h3 ∙ ap (λ z. t ∷ z) h4) ∙ sym (append_assoc b (t ∷ []) rest)) ∙ sym (append_assoc a (b ++ t ∷ []) rest)

field_complete : (ts : List Lexeme) (a : FieldDeclaration) (rest : List Lexeme) → IsField ts a → Anything rest → field_at (ts ++ rest) ≡ Some (a, rest)
unfolding field_at
field_complete ts a rest (is_field {ts1 = ts1} {ts2 = ts2} {b = b} {ds = ds} t p s k parts g) f =
    let none : NoComma (t ∷ rest) = rw k refl in
    let one : base_at (ts1 ++ (ts2 ++ t ∷ rest)) ≡ Some (b, ts2 ++ t ∷ rest) = base_exact.complete ts1 b (ts2 ++ t ∷ rest) p tt in
    let two : separated_at declarator_at (ts2 ++ t ∷ rest) ≡ Some (ds, t ∷ rest) = (separated_exact declarator_exact anything_separates).complete ts2 ds (t ∷ rest) s (tt, none) in
    rw (parts, append_assoc ts1 (ts2 ++ t ∷ []) rest, append_assoc ts2 (t ∷ []) rest, g, one, two, front_here T.Semicolon t rest k) refl

field_exact : Exact IsField field_at Anything
field_exact = record { sound = field_sound; complete = field_complete }

field_away : AwayFrom T.CloseBrace field_at
unfolding field_at base_at
field_away t ts h =
    let a : front T.Int (t ∷ ts) ≡ None = rw h refl in
    let b : front T.Struct (t ∷ ts) ≡ None = rw h refl in
    rw (a, b) refl

field_some : (ts : List Lexeme) (a : FieldDeclaration) → IsField ts a → 0 < length ts
field_some ts a (is_field {ts1 = ts1} {ts2 = ts2} t p s k parts g) = rw parts (omega (arith, length-append ts1 (ts2 ++ t ∷ []), length-append ts2 (t ∷ [])))

-- fields, and the brace after them
record Closed (ts : List Lexeme) (fs : List FieldDeclaration) (rest : List Lexeme) : Type 0 where
  pub front : List Lexeme
  pub last : Lexeme
  pub is : AreFields front fs
  pub closes : last.terminal ≡ T.CloseBrace
  pub parts : ts ≡ front ++ last ∷ rest

fields_sound : (n : ℕ) (before : List FieldDeclaration) (ts : List Lexeme) (fs : List FieldDeclaration) (rest : List Lexeme) → more_fields n before ts ≡ Some (fs, rest) →
    (fs1 : List FieldDeclaration) × (fs ≡ before ++ fs1) × Closed ts fs1 rest
unfolding more_fields
fields_sound zero before ts fs rest h = absurd cc
fields_sound (suc n) before ts fs rest h =
    elim (either (front T.CloseBrace ts) (λ x. done before x.1) _ (done fs rest) h) [
      | inl w ↦
          let q = both_are before fs w.0.1 rest w.2 in
          let f = front_is T.CloseBrace ts w.0 w.1 in
          ([], sym q.0 ∙ sym (append-nil before), record { front = []; last = w.0.0; is = no_field refl refl; closes = f.0; parts = f.1 ∙ ap (λ z. w.0.0 ∷ z) q.1 })
      | inr v ↦
          let one = part_bind field_exact ts (λ x. more_fields n (before ++ x.0 ∷ []) x.1) (fs, rest) v.1 in
          let x = one.0 in
          let two = fields_sound n (before ++ x.0 ∷ []) x.1 fs rest one.2 in
          let c = two.2 in (
            x.0 ∷ two.0,
            two.1 ∙ append_assoc before (x.0 ∷ []) two.0,
            record {
              front = one.1.front ++ c.front;
              last = c.last;
              is = one_field one.1.is c.is refl refl;
              closes = c.closes;
              parts = one.1.parts ∙ ap (λ z. one.1.front ++ z) c.parts ∙ sym (append_assoc one.1.front c.front (c.last ∷ rest));
            },
          )
    ]

fields_complete : (n : ℕ) (before : List FieldDeclaration) {ts : List Lexeme} {fs : List FieldDeclaration} (c : Lexeme) (rest : List Lexeme) → AreFields ts fs → c.terminal ≡ T.CloseBrace → length ts < n →
    more_fields n before (ts ++ c ∷ rest) ≡ Some (before ++ fs, rest)
unfolding more_fields
fields_complete zero before c rest m k lt = absurd (omega arith)
fields_complete (suc n) before c rest (no_field h g) k lt = rw (h, g, front_here T.CloseBrace c rest k, append-nil before) refl
fields_complete (suc n) before c rest (one_field {ts1 = ts1} {ts2 = ts2} {ts = ts} {f = f} {fs1 = fs1} a m parts g) k lt =
    let one : field_at (ts1 ++ (ts2 ++ c ∷ rest)) ≡ Some (f, ts2 ++ c ∷ rest) = field_complete ts1 f (ts2 ++ c ∷ rest) a tt in
    let open_still : front T.CloseBrace (ts1 ++ (ts2 ++ c ∷ rest)) ≡ None = away_front field_at T.CloseBrace field_away (ts1 ++ (ts2 ++ c ∷ rest)) (f, ts2 ++ c ∷ rest) one in
    let some : 0 < length ts1 = field_some ts1 f a in
    let fits : length ts2 < n = omega (arith, ap length parts, length-append ts1 ts2) in
    let two : more_fields n (before ++ f ∷ []) (ts2 ++ c ∷ rest) ≡ Some ((before ++ f ∷ []) ++ fs1, rest) = fields_complete n (before ++ f ∷ []) c rest m k fits in
    rw (parts, append_assoc ts1 ts2 (c ∷ rest), g, open_still, one) (two ∙ ap (λ z. done z rest) (append_assoc before (f ∷ []) fs1))

-- ---- results and parameters

result_sound : (ts : List Lexeme) (r : ResultType) (rest : List Lexeme) → result_at ts ≡ Some (r, rest) → Reads IsResult ts r rest
unfolding result_at
result_sound ts r rest h =
    elim (either (front T.Void ts) (λ x. done R.Void x.1) _ (done r rest) h) [
      | inl w ↦
          let f = front_is T.Void ts w.0 w.1 in
          let q = both_are R.Void r w.0.1 rest w.2 in
          record { front = w.0.0 ∷ []; is = is_void f.0 refl (sym q.0); parts = f.1 ∙ ap (λ z. w.0.0 ∷ z) q.1 }
      | inr w ↦
          let x = part_bind type_exact ts _ (r, rest) w.1 in
          let q = both_are (R.Value x.0.0) r x.0.1 rest x.2 in
          record { front = x.1.front; is = is_value x.1.is (sym q.0); parts = x.1.parts ∙ ap (λ z. x.1.front ++ z) q.1 }
    ]

type_away : (k : Terminal) → same k T.Int ≡ false → same k T.Struct ≡ false → AwayFrom k type_at
unfolding type_at base_at
type_away k i s t ts h =
    let a : front T.Int (t ∷ ts) ≡ None = rw (h, i) refl in
    let b : front T.Struct (t ∷ ts) ≡ None = rw (h, s) refl in
    rw (a, b) refl

result_complete : (ts : List Lexeme) (r : ResultType) (rest : List Lexeme) → IsResult ts r → NoStar rest → result_at (ts ++ rest) ≡ Some (r, rest)
unfolding result_at
result_complete ts r rest (is_void k parts g) f = rw (parts, g, k) refl
result_complete ts r rest (is_value {a = a} x g) f =
    let one : type_at (ts ++ rest) ≡ Some (a, rest) = type_exact.complete ts a rest x f in
    rw (g, away_front type_at T.Void (type_away T.Void refl refl) (ts ++ rest) (a, rest) one, one) refl

result_exact : Exact IsResult result_at NoStar
result_exact = record { sound = result_sound; complete = result_complete }

-- what may follow a parameter
abbrev AfterParameter : List Lexeme → Type 0
AfterParameter rest = NoStar rest × (front T.Name rest ≡ None)

parameter_separates : Separates AfterParameter
parameter_separates = record { comma = λ c rest h. (rw h refl, rw h refl) }

parameter_sound : (ts : List Lexeme) (p : Parameter) (rest : List Lexeme) → parameter_at ts ≡ Some (p, rest) → Reads IsParameter ts p rest
unfolding parameter_at
parameter_sound ts p rest h =
    let x = part_bind type_exact ts _ (p, rest) h in
    elim (either (front T.Name x.0.1) (λ y. done (record { value = x.0.0; name = Some y.0.text }) y.1) (done (record { value = x.0.0; name = None }) x.0.1) (done p rest) x.2) [
      | inl w ↦
          let f = front_is T.Name x.0.1 w.0 w.1 in
          let q = both_are (record { value = x.0.0; name = Some w.0.0.text }) p w.0.1 rest w.2 in
          record {
            front = x.1.front ++ w.0.0 ∷ [];
            is = is_named w.0.0 x.1.is f.0 refl (sym q.0);
            parts = x.1.parts ∙ ap (λ z. x.1.front ++ z) (f.1 ∙ ap (λ z. w.0.0 ∷ z) q.1) ∙ sym (append_assoc x.1.front (w.0.0 ∷ []) rest);
          }
      | inr w ↦
          let q = both_are (record { value = x.0.0; name = None }) p x.0.1 rest w.1 in
          record { front = x.1.front; is = is_unnamed x.1.is (sym q.0); parts = x.1.parts ∙ ap (λ z. x.1.front ++ z) q.1 }
    ]

parameter_complete : (ts : List Lexeme) (p : Parameter) (rest : List Lexeme) → IsParameter ts p → AfterParameter rest → parameter_at (ts ++ rest) ≡ Some (p, rest)
unfolding parameter_at
parameter_complete ts p rest (is_named {ts1 = ts1} {a = a} t x k parts g) f =
    let star : NoStar (t ∷ rest) = rw k refl in
    let one : type_at (ts1 ++ t ∷ rest) ≡ Some (a, t ∷ rest) = type_exact.complete ts1 a (t ∷ rest) x star in
    rw (parts, append_assoc ts1 (t ∷ []) rest, g, one, front_here T.Name t rest k) refl
parameter_complete ts p rest (is_unnamed {a = a} x g) f =
    let one : type_at (ts ++ rest) ≡ Some (a, rest) = type_exact.complete ts a rest x f.0 in
    rw (g, one, f.1) refl

parameter_exact : Exact IsParameter parameter_at AfterParameter
parameter_exact = record { sound = parameter_sound; complete = parameter_complete }

parameters_sound : (o : Lexeme) (ts : List Lexeme) (ps : List Parameter) (rest : List Lexeme) → o.terminal ≡ T.OpenParenthesis → parameters_at ts ≡ Some (ps, rest) → Reads (Parenthesised AreParameters) (o ∷ ts) ps rest
unfolding parameters_at
parameters_sound o ts ps rest k h =
    elim (either (front T.CloseParenthesis ts) (λ x. done [] x.1) _ (done ps rest) h) [
      | inl w ↦
          let f = front_is T.CloseParenthesis ts w.0 w.1 in
          let q = both_are [] ps w.0.1 rest w.2 in
          record { front = o ∷ w.0.0 ∷ []; is = parenthesised w.0.0 k f.0 (no_parameters refl (sym q.0)) refl; parts = ap (λ z. o ∷ z) (f.1 ∙ ap (λ z. w.0.0 ∷ z) q.1) }
      | inr u ↦
          elim (either (front T.Void ts) _ _ (done ps rest) u.1) [
            | inl w ↦
                let f = front_is T.Void ts w.0 w.1 in
                let c = front_bind T.CloseParenthesis w.0.1 _ (ps, rest) w.2 in
                let q = both_are [] ps c.0.1 rest c.3 in
                record {
                  front = o ∷ w.0.0 ∷ c.0.0 ∷ [];
                  is = parenthesised c.0.0 {ts1 = w.0.0 ∷ []} k c.1 (void_parameters f.0 refl (sym q.0)) refl;
                  parts = ap (λ z. o ∷ z) (f.1 ∙ ap (λ z. w.0.0 ∷ z) (c.2 ∙ ap (λ z. c.0.0 ∷ z) q.1));
                }
            | inr w ↦
                let x = part_bind (separated_exact parameter_exact parameter_separates) ts _ (ps, rest) w.1 in
                let c = front_bind T.CloseParenthesis x.0.1 _ (ps, rest) x.2 in
                let q = both_are x.0.0 ps c.0.1 rest c.3 in
                record {
                  front = o ∷ x.1.front ++ c.0.0 ∷ [];
                  is = parenthesised c.0.0 k c.1 (some_parameters (subst (λ z. Separated IsParameter x.1.front z) q.0 x.1.is)) refl;
                  parts = closed_parts o c.0.0 x.1.front ts x.0.1 c.0.1 rest x.1.parts c.2 q.1;
                }
          ]
    ]

parameters_front : (k : Terminal) → same k T.Int ≡ false → same k T.Struct ≡ false → (ts : List Lexeme) (x : List Parameter × List Lexeme) → separated_at parameter_at ts ≡ Some x → front k ts ≡ None
unfolding separated_at parameter_at
parameters_front k i s ts x h =
    let b = bind_some (parameter_at ts) _ x h in
    let c = bind_some (type_at ts) _ b.0 b.1 in
    away_front type_at k (type_away k i s) ts c.0 c.1

parameters_complete : (c : Lexeme) (ts1 : List Lexeme) (ps : List Parameter) (rest : List Lexeme) → c.terminal ≡ T.CloseParenthesis → AreParameters ts1 ps → parameters_at ((ts1 ++ c ∷ []) ++ rest) ≡ Some (ps, rest)
unfolding parameters_at
parameters_complete c ts1 ps rest k (no_parameters h g) = rw (h, g, k) refl
parameters_complete c ts1 ps rest k (void_parameters kt h g) = rw (h, g, kt, k) refl
parameters_complete c ts1 ps rest k (some_parameters a) =
    let none : (AfterParameter (c ∷ rest)) × NoComma (c ∷ rest) = ((rw k refl, rw k refl), rw k refl) in
    let one : separated_at parameter_at (ts1 ++ c ∷ rest) ≡ Some (ps, c ∷ rest) = (separated_exact parameter_exact parameter_separates).complete ts1 ps (c ∷ rest) a none in
    rw (append_assoc ts1 (c ∷ []) rest, parameters_front T.CloseParenthesis refl refl (ts1 ++ c ∷ rest) (ps, c ∷ rest) one, parameters_front T.Void refl refl (ts1 ++ c ∷ rest) (ps, c ∷ rest) one, one, front_here T.CloseParenthesis c rest k) refl

-- ---- functions

function_parts : (n o t : Lexeme) (a b ts us vs ws xs tail rest : List Lexeme) → ts ≡ a ++ us → us ≡ n ∷ vs → vs ≡ o ∷ ws → o ∷ ws ≡ b ++ xs → xs ≡ tail ++ rest →
    ts ≡ (a ++ (n ∷ b ++ tail)) ++ rest
function_parts n o t a b ts us vs ws xs tail rest h1 h2 h3 h4 h5 =
    let inner : vs ≡ (b ++ tail) ++ rest = h3 ∙ h4 ∙ ap (λ z. b ++ z) h5 ∙ sym (append_assoc b tail rest) in
    h1 ∙ ap (λ z. a ++ z) (h2 ∙ ap (λ z. n ∷ z) inner) ∙ sym (append_assoc a (n ∷ b ++ tail) rest)

braced_front : (x : Lexeme × List Lexeme) (ts : List Lexeme) (ss : List StatementTree) (rest : List Lexeme) → x.0.terminal ≡ T.OpenBrace →
    statements_at (length x.1) (statement_at depth_limit) [] x.1 ≡ Some (ss, rest) → Reads (IsBraced (IsStatement depth_limit)) (x.0 ∷ x.1) ss rest
braced_front x ts ss rest k h = braced_sound (statement_at_exact depth_limit) x.0 x.1 ss rest k h

module _ (site : Site) where
  function_sound : (ts : List Lexeme) (a : ItemTree) (rest : List Lexeme) → function_at site ts ≡ Some (a, rest) → Reads (IsFunction site) ts a rest
  unfolding function_at ending_at
  function_sound ts a rest h =
      let r = part_bind result_exact ts _ (a, rest) h in
      let n = front_bind T.Name r.0.1 _ (a, rest) r.2 in
      let o = front_bind T.OpenParenthesis n.0.1 _ (a, rest) n.3 in
      let b = bind_some (parameters_at o.0.1) _ (a, rest) o.3 in
      let p = parameters_sound o.0.0 o.0.1 b.0.0 b.0.1 o.1 b.1 in
      elim (either (front T.Semicolon b.0.1) (λ x. done (prototype site r.0.0 n.0.0.text b.0.0) x.1) _ (done a rest) b.2) [
        | inl w ↦
            let f = front_is T.Semicolon b.0.1 w.0 w.1 in
            let q = both_are (prototype site r.0.0 n.0.0.text b.0.0) a w.0.1 rest w.2 in
            record {
              front = r.1.front ++ (n.0.0 ∷ p.front ++ w.0.0 ∷ []);
              is = is_prototype n.0.0 w.0.0 r.1.is n.1 p.is f.0 refl (sym q.0);
              parts = function_parts n.0.0 o.0.0 w.0.0 r.1.front p.front ts r.0.1 n.0.1 o.0.1 b.0.1 (w.0.0 ∷ []) rest r.1.parts n.2 o.2 p.parts (f.1 ∙ ap (λ z. w.0.0 ∷ z) q.1);
            }
        | inr w ↦
            elim (chosen (all_named b.0.0) _ None (done a rest) w.1) [
              | inl v ↦
                  let x = front_bind T.OpenBrace b.0.1 _ (a, rest) v.1 in
                  let s = bind_some (statements_at (length x.0.1) (statement_at depth_limit) [] x.0.1) _ (a, rest) x.3 in
                  let q = both_are (function site r.0.0 n.0.0.text b.0.0 s.0.0) a s.0.1 rest s.2 in
                  let body = braced_front x.0 ts s.0.0 s.0.1 x.1 s.1 in
                  record {
                    front = r.1.front ++ (n.0.0 ∷ p.front ++ body.front);
                    is = is_function n.0.0 r.1.is n.1 p.is v.0 body.is refl (sym q.0);
                    parts = function_parts n.0.0 o.0.0 x.0.0 r.1.front p.front ts r.0.1 n.0.1 o.0.1 b.0.1 body.front rest r.1.parts n.2 o.2 p.parts (x.2 ∙ body.parts ∙ ap (λ z. body.front ++ z) q.1);
                  }
              | inr v ↦ absurd (let z = v.1 in cc)
            ]
      ]

  -- up to the parameters
  head_complete : (ts1 ts2 : List Lexeme) (n : Lexeme) (r : ResultType) (ps : List Parameter) (rest : List Lexeme) (x : Option (ItemTree × List Lexeme)) →
      IsResult ts1 r → n.terminal ≡ T.Name → Parenthesised AreParameters ts2 ps → ending_at site r n.text ps rest ≡ x → function_at site (ts1 ++ n ∷ (ts2 ++ rest)) ≡ x
  unfolding function_at
  head_complete ts1 ts2 n r ps rest x g k (parenthesised {o = o} c {ts1 = us} ko kc a parts) e =
      let star : NoStar (n ∷ (ts2 ++ rest)) = rw k refl in
      let one : result_at (ts1 ++ n ∷ (ts2 ++ rest)) ≡ Some (r, n ∷ (ts2 ++ rest)) = result_exact.complete ts1 r (n ∷ (ts2 ++ rest)) g star in
      rw (one, front_here T.Name n (ts2 ++ rest) k, parts, front_here T.OpenParenthesis o ((us ++ c ∷ []) ++ rest) ko, parameters_complete c us ps rest kc a) e

  function_complete : (ts : List Lexeme) (a : ItemTree) (rest : List Lexeme) → IsFunction site ts a → Anything rest → function_at site (ts ++ rest) ≡ Some (a, rest)
  unfolding ending_at
  function_complete ts a rest (is_prototype {ts1 = ts1} {ts2 = ts2} {r = r} {ps = ps} n t g k p kt parts e) f =
      let regroup : ts ++ rest ≡ ts1 ++ n ∷ (ts2 ++ t ∷ rest) = rw (parts, append_assoc ts1 (n ∷ ts2 ++ t ∷ []) rest, append_assoc ts2 (t ∷ []) rest) refl in
      let ending : ending_at site r n.text ps (t ∷ rest) ≡ Some (a, rest) = rw (front_here T.Semicolon t rest kt, e) refl in
      rw regroup (head_complete ts1 ts2 n r ps (t ∷ rest) (Some (a, rest)) g k p ending)
  function_complete ts a rest (is_function {ts1 = ts1} {ts2 = ts2} {ts3 = ts3} {r = r} {ps = ps} {ss = ss} n g k p named (is_braced {o = o} c {ts1 = us} ko kc m parts3) parts e) f =
      let regroup : ts ++ rest ≡ ts1 ++ n ∷ (ts2 ++ (ts3 ++ rest)) = rw (parts, append_assoc ts1 (n ∷ ts2 ++ ts3) rest, append_assoc ts2 ts3 rest) refl in
      let none : front T.Semicolon (ts3 ++ rest) ≡ None = rw (parts3, ko) refl in
      let brace : front T.OpenBrace (ts3 ++ rest) ≡ Some (o, (us ++ c ∷ []) ++ rest) = rw parts3 (front_here T.OpenBrace o ((us ++ c ∷ []) ++ rest) ko) in
      let body : statements_at (length ((us ++ c ∷ []) ++ rest)) (statement_at depth_limit) [] ((us ++ c ∷ []) ++ rest) ≡ Some (ss, rest) = braced_complete (statement_at_exact depth_limit) us ss c rest m kc in
      let ending : ending_at site r n.text ps (ts3 ++ rest) ≡ Some (a, rest) = rw (none, named, brace, body, e) refl in
      rw regroup (head_complete ts1 ts2 n r ps (ts3 ++ rest) (Some (a, rest)) g k p ending)

  -- ---- structs

  struct_parts : (s n o c t : Lexeme) (a b ts t1 t2 t3 t4 t5 t6 rest : List Lexeme) → ts ≡ s ∷ t1 → t1 ≡ n ∷ t2 → t2 ≡ o ∷ t3 → t3 ≡ a ++ t4 → t4 ≡ b ++ c ∷ t5 → t5 ≡ t ∷ t6 → t6 ≡ rest →
      ts ≡ (s ∷ n ∷ o ∷ a ++ (b ++ c ∷ t ∷ [])) ++ rest
  struct_parts s n o c t a b ts t1 t2 t3 t4 t5 t6 rest h1 h2 h3 h4 h5 h6 h7 =
      let four : t4 ≡ (b ++ c ∷ t ∷ []) ++ rest = h5 ∙ ap (λ z. b ++ c ∷ z) (h6 ∙ ap (λ z. t ∷ z) h7) ∙ sym (append_assoc b (c ∷ t ∷ []) rest) in
      let three : t3 ≡ (a ++ (b ++ c ∷ t ∷ [])) ++ rest = h4 ∙ ap (λ z. a ++ z) four ∙ sym (append_assoc a (b ++ c ∷ t ∷ []) rest) in
      h1 ∙ ap (λ z. s ∷ z) (h2 ∙ ap (λ z. n ∷ z) (h3 ∙ ap (λ z. o ∷ z) three))

  struct_sound : (s n : Lexeme) (ts t1 t2 : List Lexeme) (a : ItemTree) (rest : List Lexeme) → s.terminal ≡ T.Struct → n.terminal ≡ T.Name → ts ≡ s ∷ t1 → t1 ≡ n ∷ t2 →
      struct_at site n.text t2 ≡ Some (a, rest) → Reads (IsItemAt site) ts a rest
  unfolding struct_at
  struct_sound s n ts t1 t2 a rest ks kn h1 h2 h =
      elim (either (front T.Semicolon t2) (λ x. done (declared site n.text) x.1) _ (done a rest) h) [
        | inl w ↦
            let f = front_is T.Semicolon t2 w.0 w.1 in
            let q = both_are (declared site n.text) a w.0.1 rest w.2 in
            record {
              front = s ∷ n ∷ w.0.0 ∷ [];
              is = is_declared ks kn f.0 refl (sym q.0);
              parts = h1 ∙ ap (λ z. s ∷ z) (h2 ∙ ap (λ z. n ∷ z) (f.1 ∙ ap (λ z. w.0.0 ∷ z) q.1));
            }
        | inr w ↦
            let o = front_bind T.OpenBrace t2 _ (a, rest) w.1 in
            let y = part_bind field_exact o.0.1 _ (a, rest) o.3 in
            let z = bind_some (more_fields (length y.0.1) (y.0.0 ∷ []) y.0.1) _ (a, rest) y.2 in
            let t = front_bind T.Semicolon z.0.1 _ (a, rest) z.2 in
            let q = both_are (struct site n.text z.0.0) a t.0.1 rest t.3 in
            let m = fields_sound (length y.0.1) (y.0.0 ∷ []) y.0.1 z.0.0 z.0.1 z.1 in
            let c = m.2 in
            record {
              front = s ∷ n ∷ o.0.0 ∷ y.1.front ++ (c.front ++ c.last ∷ t.0.0 ∷ []);
              is = is_struct_item c.last t.0.0 ks kn o.1 y.1.is c.is c.closes t.1 refl (sym q.0 ∙ ap (λ l. struct site n.text l) m.1);
              parts = struct_parts s n o.0.0 c.last t.0.0 y.1.front c.front ts t1 t2 o.0.1 y.0.1 z.0.1 t.0.1 rest h1 h2 o.2 y.1.parts c.parts t.2 q.1;
            }
      ]

  -- ---- items

  front_none : (k : Terminal) (t : Lexeme) (ts : List Lexeme) → same t.terminal k ≡ false → front k (t ∷ ts) ≡ None
  front_none k t ts h = rw h refl

  -- a function begins with no struct item, and not with `static`
  result_no_struct : (ts : List Lexeme) (r : ResultType) (n : Lexeme) (rest : List Lexeme) → IsResult ts r → n.terminal ≡ T.Name → struct_front (ts ++ n ∷ rest) ≡ None
  result_no_struct ts r n rest (is_void k parts g) kn = rw (parts, k) refl
  result_no_struct ts r n rest (is_value (is_type (is_int k h g) s parts e) e2) kn = rw (parts, h, k) refl
  result_no_struct ts r n rest (is_value (is_type {ts2 = ts2} (is_struct {s = u} {n = m} k km h g) s parts e) e2) kn =
      let plain : ends_struct (ts2 ++ n ∷ rest) ≡ false = after_stars ts2 _ n rest s kn in
      rw (parts, h, front_here T.Struct u (m ∷ ts2 ++ n ∷ rest) k, front_here T.Name m (ts2 ++ n ∷ rest) km, plain) refl
    where
      after_stars : (ts : List Lexeme) (i : ℕ) (n : Lexeme) (rest : List Lexeme) → IsStars ts i → n.terminal ≡ T.Name → ends_struct (ts ++ n ∷ rest) ≡ false
      after_stars ts i n rest (no_star h g) k = rw (h, k) refl
      after_stars ts i n rest (one_star kt h g) k = rw (h, kt) refl
      after_stars ts i n rest (two_stars kt ku h g) k = rw (h, kt) refl

  result_no_static : (ts : List Lexeme) (r : ResultType) (rest : List Lexeme) → IsResult ts r → front T.Static (ts ++ rest) ≡ None
  result_no_static ts r rest (is_void k parts g) = rw (parts, k) refl
  result_no_static ts r rest (is_value (is_type (is_int k h g) s parts e) e2) = rw (parts, h, k) refl
  result_no_static ts r rest (is_value (is_type (is_struct k km h g) s parts e) e2) = rw (parts, h, k) refl

  item_sound : (ts : List Lexeme) (a : ItemTree) (rest : List Lexeme) → item_at site ts ≡ Some (a, rest) → Reads (IsItemAt site) ts a rest
  unfolding item_at
  item_sound ts a rest h =
      elim (either (struct_front ts) (λ x. struct_at site x.0 x.1) _ (done a rest) h) [
        | inl w ↦
            let s = front_bind T.Struct ts _ w.0 w.1 in
            let n = front_bind T.Name s.0.1 _ w.0 s.3 in
            elim (chosen (ends_struct n.0.1) (done n.0.0.text n.0.1) None (Some w.0) n.3) [
              | inl v ↦
                  let q = both_are n.0.0.text w.0.0 n.0.1 w.0.1 v.1 in
                  struct_sound s.0.0 n.0.0 ts s.0.1 n.0.1 a rest s.1 n.1 s.2 n.2
                  (ap (λ l. struct_at site l n.0.1) q.0 ∙ ap (λ l. struct_at site w.0.0 l) q.1 ∙ w.2)
              | inr v ↦ absurd (let z = v.1 in cc)
            ]
        | inr u ↦
            elim (either (front T.Static ts) (λ x. function_at site x.1) (function_at site ts) (done a rest) u.1) [
              | inl w ↦
                  let f = front_is T.Static ts w.0 w.1 in
                  let one = function_sound w.0.1 a rest w.2 in
                  record { front = w.0.0 ∷ one.front; is = is_static_function f.0 one.is refl; parts = f.1 ∙ ap (λ z. w.0.0 ∷ z) one.parts }
              | inr w ↦
                  let one = function_sound ts a rest w.1 in
                  record { front = one.front; is = is_plain_function one.is; parts = one.parts }
            ]
      ]

  function_no_struct : (ts : List Lexeme) (a : ItemTree) (rest : List Lexeme) → IsFunction site ts a → struct_front (ts ++ rest) ≡ None
  function_no_struct ts a rest (is_prototype {ts1 = ts1} {ts2 = ts2} {r = r} n t g k p kt parts e) =
      rw (parts, append_assoc ts1 (n ∷ ts2 ++ t ∷ []) rest) (result_no_struct ts1 r n ((ts2 ++ t ∷ []) ++ rest) g k)
  function_no_struct ts a rest (is_function {ts1 = ts1} {ts2 = ts2} {ts3 = ts3} {r = r} n g k p named b parts e) =
      rw (parts, append_assoc ts1 (n ∷ ts2 ++ ts3) rest) (result_no_struct ts1 r n ((ts2 ++ ts3) ++ rest) g k)

  function_no_static : (ts : List Lexeme) (a : ItemTree) (rest : List Lexeme) → IsFunction site ts a → front T.Static (ts ++ rest) ≡ None
  function_no_static ts a rest (is_prototype {ts1 = ts1} {ts2 = ts2} {r = r} n t g k p kt parts e) =
      rw (parts, append_assoc ts1 (n ∷ ts2 ++ t ∷ []) rest) (result_no_static ts1 r (n ∷ (ts2 ++ t ∷ []) ++ rest) g)
  function_no_static ts a rest (is_function {ts1 = ts1} {ts2 = ts2} {ts3 = ts3} {r = r} n g k p named b parts e) =
      rw (parts, append_assoc ts1 (n ∷ ts2 ++ ts3) rest) (result_no_static ts1 r (n ∷ (ts2 ++ ts3) ++ rest) g)

  item_complete : (ts : List Lexeme) (a : ItemTree) (rest : List Lexeme) → IsItemAt site ts a → Anything rest → item_at site (ts ++ rest) ≡ Some (a, rest)
  unfolding item_at struct_at
  item_complete ts a rest (is_declared {s = s} {n = n} {t = t} ks kn kt parts g) f =
      let ends : ends_struct (t ∷ rest) ≡ true = rw kt refl in
      let first : struct_front (s ∷ n ∷ t ∷ rest) ≡ Some (n.text, t ∷ rest) = rw (front_here T.Struct s (n ∷ t ∷ rest) ks, front_here T.Name n (t ∷ rest) kn, ends) refl in
      rw (parts, first, front_here T.Semicolon t rest kt, g) refl
  item_complete ts a rest (is_struct_item {s = s} {n = n} {o = o} {ts1 = ts1} {ts2 = ts2} {f = x} {fs = fs} c t ks kn ko y m kc kt parts g) f =
      let tail : List Lexeme = c ∷ t ∷ rest in
      let ends : ends_struct (o ∷ ts1 ++ (ts2 ++ tail)) ≡ true = rw ko refl in
      let first : struct_front (s ∷ n ∷ o ∷ ts1 ++ (ts2 ++ tail)) ≡ Some (n.text, o ∷ ts1 ++ (ts2 ++ tail)) =
      rw (front_here T.Struct s (n ∷ o ∷ ts1 ++ (ts2 ++ tail)) ks, front_here T.Name n (o ∷ ts1 ++ (ts2 ++ tail)) kn, ends) refl in
      let none : front T.Semicolon (o ∷ ts1 ++ (ts2 ++ tail)) ≡ None = rw ko refl in
      let one : field_at (ts1 ++ (ts2 ++ tail)) ≡ Some (x, ts2 ++ tail) = field_complete ts1 x (ts2 ++ tail) y tt in
      let fits : length ts2 < length (ts2 ++ tail) = omega (arith, length-append ts2 tail) in
      let two : more_fields (length (ts2 ++ tail)) (x ∷ []) (ts2 ++ tail) ≡ Some ((x ∷ []) ++ fs, t ∷ rest) = fields_complete (length (ts2 ++ tail)) (x ∷ []) c (t ∷ rest) m kc fits in
      let regroup : ts ++ rest ≡ s ∷ n ∷ o ∷ ts1 ++ (ts2 ++ tail) = rw (parts, append_assoc ts1 (ts2 ++ c ∷ t ∷ []) rest, append_assoc ts2 (c ∷ t ∷ []) rest) refl in
      rw (regroup, first, none, front_here T.OpenBrace o (ts1 ++ (ts2 ++ tail)) ko, one, two, front_here T.Semicolon t rest kt, g) refl
  item_complete ts a rest (is_plain_function g) f = rw (function_no_struct ts a rest g, function_no_static ts a rest g) (function_complete ts a rest g f)
  item_complete ts a rest (is_static_function {s = s} {ts1 = ts1} k g parts) f =
      let none : struct_front (s ∷ ts1 ++ rest) ≡ None = rw k refl in
      rw (parts, none, front_here T.Static s (ts1 ++ rest) k) (function_complete ts1 a rest g f)

  pub item_exact : Exact (IsItemAt site) (item_at site) Anything
  item_exact = record { sound = item_sound; complete = item_complete }

-- ---- all of the lexemes

pub item_is : (t : Lexeme) (ts : List Lexeme) (a : ItemTree) → item_at t.site (t ∷ ts) ≡ Some (a, []) → IsItem (t ∷ ts) a
item_is t ts a h =
    let r = (item_exact t.site).sound (t ∷ ts) a [] h in
    is_item refl (subst (λ z. IsItemAt t.site z a) (sym (r.parts ∙ append-nil r.front)) r.is)

pub is_item_read : (t : Lexeme) (ts : List Lexeme) (a : ItemTree) → IsItem (t ∷ ts) a → item_at t.site (t ∷ ts) ≡ Some (a, [])
is_item_read t ts a (is_item {t = u} {ts1 = us} parts g) =
    let same_site : u.site ≡ t.site = cc in
    ap (item_at t.site) (sym (append-nil (t ∷ ts))) ∙ (item_exact t.site).complete (t ∷ ts) a [] (subst (λ z. IsItemAt z (t ∷ ts) a) same_site g) tt

-- lexemes have at most one item
pub one_item : (ts : List Lexeme) (a b : ItemTree) → IsItem ts a → IsItem ts b → a ≡ b
one_item [] a b (is_item parts g) h = absurd cc
one_item (t ∷ ts) a b g h = (both_are a b [] [] (sym (is_item_read t ts a g) ∙ is_item_read t ts b h)).0
