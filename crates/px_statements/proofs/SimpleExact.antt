-- The readers of declarations and simple statements read exactly what the grammar says.
use Rattle.std.proofs.Common.{◌≡◌, ◌≢◌, ◌==◌, ℕ, ◌-◌, Bool, true, false, List, [], ◌∷◌, ◌++◌, Some, None, refl, sym, ap, subst, ◌∙◌, append_assoc, arith, inl, inr}
use Rattle.std.proofs.lemmas.Option.{same_Some}
use Rattle.px_expressions.specs.declared.terminal.Terminal.{Terminal}
use Rattle.px_expressions.specs.declared.terminal.Terminal.TheVariants as T
use Rattle.px_expressions.specs.Lexemes.{Lexeme, same, front}
use Rattle.px_expressions.specs.Reading.{◌>>=◌, chain_limit, base_at, stars_at, separated_at, members_at, primary_of, unary_at, prefix_front, prefix_of, level_of, expression_at}
use Rattle.px_statements.specs.SimpleReading.{declarator_at, init_at, declaration_at, is_variable_tree, is_call_tree, opens, lvalue_at, update_of, update_front, assigned_at, call_at, simple_at}
use Rattle.px_expressions.specs.Grammar.{Members, no_member, a_member, parenthesised, allocation, is_constant, is_null, is_variable, is_call, is_free, is_get_char, is_parenthesised, is_malloc, is_cast_malloc, IsUnary}
use Rattle.px_statements.specs.SimpleGrammar.{IsDeclarator, is_declarator, IsInit, plain_init, valued_init, IsDeclaration, is_declaration, PrimaryAt, IsLvalue, is_name, is_pointed, is_member, IsSimple, is_assign, is_update, is_increment, is_decrement, is_increment_of, is_decrement_of, is_a_call}
use Rattle.px_expressions.proofs.ExactTools.{chosen, bool_is, bind_some, either, done, both_are, positive, is_positive, front_is, front_bind, same_is, Reads, Exact, part_bind, Anything}
use Rattle.px_expressions.proofs.ListExact.{Separates, NoComma, separated_exact}
use Rattle.px_expressions.proofs.TypeExact.{base_exact, stars_exact}
use Rattle.px_expressions.proofs.ExpressionExact.{Stops, stops_less, stops_at, not_at, no_arrow, begins, front_here, Shut, shut_by, not_front, NotOpen, a_member_sound, members_complete, members_open, primary_sound, primary_complete, no_prefix, at_exact, at_shut, expression_exact}
use Rattle.px_syntax.specs.declared.type_name.Declarator.{Declarator}
use Rattle.px_syntax.specs.declared.expression.UnaryOperator.TheVariants as U
use Rattle.px_syntax.specs.declared.expression.BinaryOperator.{BinaryOperator}
use Rattle.px_syntax.specs.ExpressionTree.{ExpressionTree, unary, variable}
use Rattle.px_syntax.specs.StatementTree.{InitTree, DeclarationTree, SimpleTree, assign, update, increment, decrement, a_call}

-- ---- declarators

declarator_sound : (ts : List Lexeme) (a : Declarator) (rest : List Lexeme) → declarator_at ts ≡ Some (a, rest) → Reads IsDeclarator ts a rest
unfolding declarator_at
declarator_sound ts a rest h =
    let s = part_bind stars_exact ts _ (a, rest) h in
    let n = front_bind T.Name s.0.1 _ (a, rest) s.2 in
    let q = both_are (record { stars = s.0.0; name = n.0.0.text }) a n.0.1 rest n.3 in
    record {
      front = s.1.front ++ n.0.0 ∷ [];
      is = is_declarator n.0.0 s.1.is n.1 refl (sym q.0);
      parts = s.1.parts ∙ ap (λ z. s.1.front ++ z) (n.2 ∙ ap (λ z. n.0.0 ∷ z) q.1) ∙ sym (append_assoc s.1.front (n.0.0 ∷ []) rest);
    }

declarator_complete : (ts : List Lexeme) (a : Declarator) (rest : List Lexeme) → IsDeclarator ts a → Anything rest → declarator_at (ts ++ rest) ≡ Some (a, rest)
unfolding declarator_at
declarator_complete ts a rest (is_declarator {ts1 = ts1} {n = n} t s k parts g) f =
    let none : front T.Star (t ∷ rest) ≡ None = rw k refl in
    let one : stars_at (ts1 ++ t ∷ rest) ≡ Some (n, t ∷ rest) = stars_exact.complete ts1 n (t ∷ rest) s none in
    rw (parts, append_assoc ts1 (t ∷ []) rest, g, one, k) refl

pub declarator_exact : Exact IsDeclarator declarator_at Anything
declarator_exact = record { sound = declarator_sound; complete = declarator_complete }

-- ---- initial values

-- what may follow a declarator with its value
abbrev pub AfterInit : List Lexeme → Type 0
AfterInit rest = Stops 6 rest × (front T.Equal rest ≡ None)

pub init_separates : Separates AfterInit
init_separates = record { comma = λ c rest h. (stops_at T.Comma refl c rest h, rw h refl) }

init_sound : (d : ℕ) (ts : List Lexeme) (a : InitTree) (rest : List Lexeme) → init_at d ts ≡ Some (a, rest) → Reads (IsInit d) ts a rest
unfolding init_at
init_sound d ts a rest h =
    let x = part_bind declarator_exact ts _ (a, rest) h in
    elim (either (front T.Equal x.0.1) _ (done (record { declarator = x.0.0; value = None }) x.0.1) (done a rest) x.2) [
      | inl w ↦
          let f = front_is T.Equal x.0.1 w.0 w.1 in
          let e = part_bind (expression_exact d) w.0.1 _ (a, rest) w.2 in
          let q = both_are (record { declarator = x.0.0; value = Some e.0.0 }) a e.0.1 rest e.2 in
          record {
            front = x.1.front ++ w.0.0 ∷ e.1.front;
            is = valued_init w.0.0 e.1.front x.1.is f.0 e.1.is refl (sym q.0);
            parts = x.1.parts ∙ ap (λ z. x.1.front ++ z) (f.1 ∙ ap (λ z. w.0.0 ∷ z) (e.1.parts ∙ ap (λ z. e.1.front ++ z) q.1)) ∙ sym (append_assoc x.1.front (w.0.0 ∷ e.1.front) rest);
          }
      | inr w ↦
          let q = both_are (record { declarator = x.0.0; value = None }) a x.0.1 rest w.1 in
          record { front = x.1.front; is = plain_init x.1.is (sym q.0); parts = x.1.parts ∙ ap (λ z. x.1.front ++ z) q.1 }
    ]

init_complete : (d : ℕ) (ts : List Lexeme) (a : InitTree) (rest : List Lexeme) → IsInit d ts a → AfterInit rest → init_at d (ts ++ rest) ≡ Some (a, rest)
unfolding init_at
init_complete d ts a rest (plain_init {a = x} p g) f =
    let one : declarator_at (ts ++ rest) ≡ Some (x, rest) = declarator_exact.complete ts x rest p tt in
    rw (g, one, f.1) refl
init_complete d ts a rest (valued_init {ts1 = ts1} {a = x} {e = e} t ts2 p k v parts g) f =
    let one : declarator_at (ts1 ++ (t ∷ ts2 ++ rest)) ≡ Some (x, t ∷ ts2 ++ rest) = declarator_exact.complete ts1 x (t ∷ ts2 ++ rest) p tt in
    let two : expression_at d (ts2 ++ rest) ≡ Some (e, rest) = (expression_exact d).complete ts2 e rest v f.0 in
    rw (parts, append_assoc ts1 (t ∷ ts2) rest, g, one, k, two) refl

pub init_exact : (d : ℕ) → Exact (IsInit d) (init_at d) AfterInit
init_exact d = record { sound = init_sound d; complete = init_complete d }

-- ---- declarations

declaration_sound : (d : ℕ) (ts : List Lexeme) (a : DeclarationTree) (rest : List Lexeme) → declaration_at d ts ≡ Some (a, rest) → Reads (IsDeclaration d) ts a rest
unfolding declaration_at
declaration_sound d ts a rest h =
    let b = part_bind base_exact ts _ (a, rest) h in
    let s = part_bind (separated_exact (init_exact d) init_separates) b.0.1 _ (a, rest) b.2 in
    let q = both_are (record { base = b.0.0; declarators = s.0.0 }) a s.0.1 rest s.2 in
    record {
      front = b.1.front ++ s.1.front;
      is = is_declaration b.1.is s.1.is refl (sym q.0);
      parts = b.1.parts ∙ ap (λ z. b.1.front ++ z) (s.1.parts ∙ ap (λ z. s.1.front ++ z) q.1) ∙ sym (append_assoc b.1.front s.1.front rest);
    }

declaration_complete : (d : ℕ) (ts : List Lexeme) (a : DeclarationTree) (rest : List Lexeme) → IsDeclaration d ts a → AfterInit rest × NoComma rest → declaration_at d (ts ++ rest) ≡ Some (a, rest)
unfolding declaration_at
declaration_complete d ts a rest (is_declaration {ts1 = ts1} {ts2 = ts2} {b = b} {is = is} p s parts g) f =
    let one : base_at (ts1 ++ (ts2 ++ rest)) ≡ Some (b, ts2 ++ rest) = base_exact.complete ts1 b (ts2 ++ rest) p tt in
    let two : separated_at (init_at d) (ts2 ++ rest) ≡ Some (is, rest) = (separated_exact (init_exact d) init_separates).complete ts2 is rest s f in
    rw (parts, append_assoc ts1 ts2 rest, g, one, two) refl

pub declaration_exact : (d : ℕ) → Exact (IsDeclaration d) (declaration_at d) (λ rest. AfterInit rest × NoComma rest)
declaration_exact d = record { sound = declaration_sound d; complete = declaration_complete d }

-- ---- lvalues

module _ (d : ℕ) where
  -- the grammar inside one more that is open, or none where nothing may be opened
  primary_here_sound : (ts : List Lexeme) (e : ExpressionTree) (rest : List Lexeme) → primary_of d (unary_at (d - 1)) ts ≡ Some (e, rest) → Reads (PrimaryAt d) ts e rest
  primary_here_sound ts e rest h = primary_sound d (IsUnary (d - 1)) (unary_at (d - 1)) (at_exact (d - 1)) (at_shut (d - 1)) ts e rest h

  primary_here_complete : (ts : List Lexeme) (e : ExpressionTree) (rest : List Lexeme) → PrimaryAt d ts e → NotOpen rest → primary_of d (unary_at (d - 1)) (ts ++ rest) ≡ Some (e, rest)
  primary_here_complete ts e rest g f = primary_complete d (IsUnary (d - 1)) (unary_at (d - 1)) (at_exact (d - 1)) (at_shut (d - 1)) ts e rest g f

  no_prefix_here : (ts : List Lexeme) (e : ExpressionTree) (rest : List Lexeme) → PrimaryAt d ts e → prefix_front (ts ++ rest) ≡ None
  no_prefix_here ts e rest g = no_prefix d (IsUnary (d - 1)) (unary_at (d - 1)) (at_exact (d - 1)) (at_shut (d - 1)) ts e rest g

  -- a primary has a first lexeme
  primary_opens : (ts : List Lexeme) (e : ExpressionTree) (rest : List Lexeme) → PrimaryAt d ts e → opens (ts ++ rest) ≡ opens ts
  primary_opens ts e rest (is_constant v k c parts g) = rw parts refl
  primary_opens ts e rest (is_null k parts g) = rw parts refl
  primary_opens ts e rest (is_variable k parts g) = rw parts refl
  primary_opens ts e rest (is_call k lt a parts g) = rw parts refl
  primary_opens ts e rest (is_free k lt a parts g) = rw parts refl
  primary_opens ts e rest (is_get_char k ko kc lt parts g) = rw parts refl
  primary_opens ts e rest (is_parenthesised lt (parenthesised c k kc a parts)) = rw parts refl
  primary_opens ts e rest (is_malloc lt (allocation q c k k1 k2 k3 g1 k4 k5 parts r)) = rw parts refl
  primary_opens ts e rest (is_cast_malloc lt (parenthesised c k kc a parts) m parts2) = rw (parts2, parts) refl

  -- a primary that is a variable and doesn't begin with a parenthesis is a name
  bare_name : (ts : List Lexeme) (e : ExpressionTree) → PrimaryAt d ts e → opens ts ≡ false → is_variable_tree e ≡ true → IsLvalue d ts e
  bare_name ts e (is_constant v k c parts g) o h = absurd (let z = sym h ∙ ap is_variable_tree g in cc)
  bare_name ts e (is_null k parts g) o h = absurd (let z = sym h ∙ ap is_variable_tree g in cc)
  bare_name ts e (is_variable k parts g) o h = is_name k parts g
  bare_name ts e (is_call k lt a parts g) o h = absurd (let z = sym h ∙ ap is_variable_tree g in cc)
  bare_name ts e (is_free k lt a parts g) o h = absurd (let z = sym h ∙ ap is_variable_tree g in cc)
  bare_name ts e (is_get_char k ko kc lt parts g) o h = absurd (let z = sym h ∙ ap is_variable_tree g in cc)
  bare_name ts e (is_parenthesised lt (parenthesised {o = p} c {ts1 = us} k kc a parts)) o h =
      let opened : opens (p ∷ us ++ c ∷ []) ≡ true = rw k refl in
      absurd (let z = sym o ∙ ap opens parts ∙ opened in cc)
  bare_name ts e (is_malloc lt (allocation q c k k1 k2 k3 g1 k4 k5 parts r)) o h = absurd (let z = sym h ∙ ap is_variable_tree r in cc)
  bare_name ts e (is_cast_malloc lt b (allocation q c k k1 k2 k3 g1 k4 k5 parts r) parts2) o h = absurd (let z = sym h ∙ ap is_variable_tree r in cc)

  opens_front : (a b : List Lexeme) → opens (a ++ b) ≡ false → opens a ≡ false
  opens_front [] b h = refl
  opens_front (t ∷ a) b h = h

  no_star : (ts : List Lexeme) → prefix_front ts ≡ None → front T.Star ts ≡ None
  no_star [] h = refl
  no_star (t ∷ ts) h =
      elim (chosen (same t.terminal T.Star) (Some (t, ts)) None (front T.Star (t ∷ ts)) refl) [
        | inl w ↦ absurd (let e = ap prefix_of (same_is t.terminal T.Star w.0) in let z = sym h ∙ ap (λ o. o >>= λ x. Some (x, t, ts)) e in cc)
        | inr w ↦ sym w.1
      ]

  lvalue_sound : (ts : List Lexeme) (e : ExpressionTree) (rest : List Lexeme) → lvalue_at d ts ≡ Some (e, rest) → Reads (IsLvalue d) ts e rest
  unfolding lvalue_at
  lvalue_sound ts e rest h =
      elim (either (front T.Star ts) _ _ (done e rest) h) [
        | inl w ↦
            elim (chosen (d == 0) None _ (done e rest) w.2) [
              | inl z ↦ absurd (let y = z.1 in cc)
              | inr z ↦
                  let y = part_bind (at_exact (d - 1)) w.0.1 _ (e, rest) z.1 in
                  let q = both_are (unary U.Indirection w.0.0.site y.0.0) e y.0.1 rest y.2 in
                  let f = front_is T.Star ts w.0 w.1 in
                  record {
                    front = w.0.0 ∷ y.1.front;
                    is = is_pointed f.0 (is_positive d z.0) y.1.is refl (sym q.0);
                    parts = f.1 ∙ ap (λ s. w.0.0 ∷ s) (y.1.parts ∙ ap (λ s. y.1.front ++ s) q.1);
                  }
            ]
        | inr u ↦
            let b = bind_some (primary_of d (unary_at (d - 1)) ts) _ (e, rest) u.1 in
            let one = primary_here_sound ts b.0.0 b.0.1 b.1 in
            elim (either (front T.Arrow b.0.1) (λ a. members_at chain_limit b.0.0 b.0.1) _ (done e rest) b.2) [
              | inl w ↦
                  let some = a_member_sound 199 b.0.0 b.0.1 e rest w.0 w.1 w.2 in
                  let two = some.0 in
                  record {
                    front = one.front ++ two.front;
                    is = is_member one.is two.is some.1 refl;
                    parts = one.parts ∙ ap (λ z. one.front ++ z) two.parts ∙ sym (append_assoc one.front two.front rest);
                  }
              | inr w ↦
                  elim (chosen (opens ts) None _ (done e rest) w.1) [
                    | inl v ↦ absurd (let y = v.1 in cc)
                    | inr v ↦
                        elim (chosen (is_variable_tree b.0.0) (done b.0.0 b.0.1) None (done e rest) v.1) [
                          | inl z ↦
                              let q = both_are b.0.0 e b.0.1 rest z.1 in
                              let bare : opens one.front ≡ false = opens_front one.front b.0.1 (ap opens (sym one.parts) ∙ v.0) in
                              record {
                                front = one.front;
                                is = subst (λ s. IsLvalue d one.front s) q.0 (bare_name one.front b.0.0 one.is bare z.0);
                                parts = one.parts ∙ ap (λ s. one.front ++ s) q.1;
                              }
                          | inr z ↦ absurd (let y = z.1 in cc)
                        ]
                  ]
            ]
      ]

  arrow_first : {n : ℕ} {left e : ExpressionTree} {ts : List Lexeme} (rest : List Lexeme) → Members n left ts e → ts ≢ [] → (x : Lexeme × List Lexeme) × (front T.Arrow (ts ++ rest) ≡ Some x)
  arrow_first rest (no_member h g) some = absurd (some h)
  arrow_first rest (a_member {t = t} {f = f} {ts1 = ts1} k kf m parts) some =
      ((t, f ∷ ts1 ++ rest), rw parts (front_here T.Arrow t (f ∷ ts1 ++ rest) k))

  lvalue_complete : (ts : List Lexeme) (e : ExpressionTree) (rest : List Lexeme) → IsLvalue d ts e → Stops 0 rest → lvalue_at d (ts ++ rest) ≡ Some (e, rest)
  unfolding lvalue_at
  lvalue_complete ts e rest (is_name {t = t} k parts g) s =
      let here : PrimaryAt d ts e = is_variable k parts g in
      let star : front T.Star (ts ++ rest) ≡ None = no_star (ts ++ rest) (no_prefix_here ts e rest here) in
      let one : primary_of d (unary_at (d - 1)) (ts ++ rest) ≡ Some (e, rest) = primary_here_complete ts e rest here (not_at T.OpenParenthesis rest refl s) in
      let bare : opens (ts ++ rest) ≡ false = rw (parts, k) refl in
      let tree : is_variable_tree e ≡ true = rw g refl in
      rw (star, one, no_arrow rest s, bare, tree) refl
  lvalue_complete ts e rest (is_pointed {ts1 = ts1} {e1 = e1} k lt u parts g) s =
      let one : unary_at (d - 1) (ts1 ++ rest) ≡ Some (e1, rest) = (at_exact (d - 1)).complete ts1 e1 rest u s in
      rw (parts, g, k, positive d lt, one) refl
  lvalue_complete ts e rest (is_member {ts1 = ts1} {ts2 = ts2} {e1 = e1} p m some parts) s =
      let star : front T.Star (ts1 ++ (ts2 ++ rest)) ≡ None = no_star (ts1 ++ (ts2 ++ rest)) (no_prefix_here ts1 e1 (ts2 ++ rest) p) in
      let one : primary_of d (unary_at (d - 1)) (ts1 ++ (ts2 ++ rest)) ≡ Some (e1, ts2 ++ rest) = primary_here_complete ts1 e1 (ts2 ++ rest) p (members_open rest m s) in
      let arrow = arrow_first rest m some in
      rw (parts, append_assoc ts1 ts2 rest, star, one, arrow.1) (members_complete rest m s)

  pub lvalue_exact : Exact (IsLvalue d) (lvalue_at d) (Stops 0)
  lvalue_exact = record { sound = lvalue_sound; complete = lvalue_complete }

  -- ---- simple statements

  -- what was read after an lvalue
  record Behind (front1 ts : List Lexeme) (a : SimpleTree) (rest : List Lexeme) : Type 0 where
    pub front : List Lexeme
    pub is : IsSimple d (front1 ++ front) a
    pub parts : ts ≡ front ++ rest

  update_is : (ts : List Lexeme) (x : BinaryOperator × List Lexeme) → update_front ts ≡ Some x → (t : Lexeme) × (update_of t.terminal ≡ Some x.0) × (ts ≡ t ∷ x.1)
  update_is [] x e = absurd cc
  update_is (t ∷ ts) x e =
      let b = bind_some (update_of t.terminal) (λ o. Some (o, ts)) x e in
      let p = same_Some _ _ b.2 in
      (t, b.1 ∙ ap (λ (z : BinaryOperator × List Lexeme). Some z.0) p, ap (λ (z : BinaryOperator × List Lexeme). t ∷ z.1) p)

  assigned_sound : (front1 : List Lexeme) (left : ExpressionTree) (ts : List Lexeme) (a : SimpleTree) (rest : List Lexeme) → IsLvalue d front1 left → assigned_at d left ts ≡ Some (a, rest) →
      Behind front1 ts a rest
  unfolding assigned_at
  assigned_sound front1 left ts a rest l h =
      elim (either (front T.Equal ts) _ _ (done a rest) h) [
        | inl w ↦
            let f = front_is T.Equal ts w.0 w.1 in
            let y = part_bind (expression_exact d) w.0.1 _ (a, rest) w.2 in
            let q = both_are (assign left y.0.0) a y.0.1 rest y.2 in
            record { front = w.0.0 ∷ y.1.front; is = is_assign w.0.0 y.1.front l f.0 y.1.is refl (sym q.0); parts = f.1 ∙ ap (λ z. w.0.0 ∷ z) (y.1.parts ∙ ap (λ z. y.1.front ++ z) q.1) }
        | inr h1 ↦
            elim (either (update_front ts) _ _ (done a rest) h1.1) [
              | inl w ↦
                  let f = update_is ts w.0 w.1 in
                  let y = part_bind (expression_exact d) w.0.1 _ (a, rest) w.2 in
                  let q = both_are (update w.0.0 left y.0.0) a y.0.1 rest y.2 in
                  record { front = f.0 ∷ y.1.front; is = is_update f.0 y.1.front w.0.0 l f.1 y.1.is refl (sym q.0); parts = f.2 ∙ ap (λ z. f.0 ∷ z) (y.1.parts ∙ ap (λ z. y.1.front ++ z) q.1) }
              | inr h2 ↦
                  elim (either (front T.PlusPlus ts) (λ x. done (increment left) x.1) _ (done a rest) h2.1) [
                    | inl w ↦
                        let f = front_is T.PlusPlus ts w.0 w.1 in
                        let q = both_are (increment left) a w.0.1 rest w.2 in
                        record { front = w.0.0 ∷ []; is = is_increment w.0.0 l f.0 refl (sym q.0); parts = f.1 ∙ ap (λ z. w.0.0 ∷ z) q.1 }
                    | inr h3 ↦
                        let f = front_bind T.MinusMinus ts _ (a, rest) h3.1 in
                        let q = both_are (decrement left) a f.0.1 rest f.3 in
                        record { front = f.0.0 ∷ []; is = is_decrement f.0.0 l f.1 refl (sym q.0); parts = f.2 ∙ ap (λ z. f.0.0 ∷ z) q.1 }
                  ]
            ]
      ]

  call_sound : (ts : List Lexeme) (a : SimpleTree) (rest : List Lexeme) → call_at d ts ≡ Some (a, rest) → Reads (IsSimple d) ts a rest
  unfolding call_at
  call_sound ts a rest h =
      elim (chosen (opens ts) None _ (done a rest) h) [
        | inl v ↦ absurd (let y = v.1 in cc)
        | inr v ↦
            let b = bind_some (primary_of d (unary_at (d - 1)) ts) _ (a, rest) v.1 in
            let one = primary_here_sound ts b.0.0 b.0.1 b.1 in
            elim (chosen (is_call_tree b.0.0) (done (a_call b.0.0) b.0.1) None (done a rest) b.2) [
              | inl z ↦
                  let q = both_are (a_call b.0.0) a b.0.1 rest z.1 in
                  let bare : opens one.front ≡ false = opens_front one.front b.0.1 (ap opens (sym one.parts) ∙ v.0) in
                  record { front = one.front; is = is_a_call one.is bare z.0 (sym q.0); parts = one.parts ∙ ap (λ s. one.front ++ s) q.1 }
              | inr z ↦ absurd (let y = z.1 in cc)
            ]
      ]

  simple_sound : (ts : List Lexeme) (a : SimpleTree) (rest : List Lexeme) → simple_at d ts ≡ Some (a, rest) → Reads (IsSimple d) ts a rest
  unfolding simple_at
  simple_sound ts a rest h =
      elim (either (front T.PlusPlus ts) _ _ (done a rest) h) [
        | inl w ↦
            let f = front_is T.PlusPlus ts w.0 w.1 in
            let y = part_bind lvalue_exact w.0.1 _ (a, rest) w.2 in
            let q = both_are (increment y.0.0) a y.0.1 rest y.2 in
            record { front = w.0.0 ∷ y.1.front; is = is_increment_of f.0 y.1.is refl (sym q.0); parts = f.1 ∙ ap (λ z. w.0.0 ∷ z) (y.1.parts ∙ ap (λ z. y.1.front ++ z) q.1) }
        | inr h1 ↦
            elim (either (front T.MinusMinus ts) _ _ (done a rest) h1.1) [
              | inl w ↦
                  let f = front_is T.MinusMinus ts w.0 w.1 in
                  let y = part_bind lvalue_exact w.0.1 _ (a, rest) w.2 in
                  let q = both_are (decrement y.0.0) a y.0.1 rest y.2 in
                  record { front = w.0.0 ∷ y.1.front; is = is_decrement_of f.0 y.1.is refl (sym q.0); parts = f.1 ∙ ap (λ z. w.0.0 ∷ z) (y.1.parts ∙ ap (λ z. y.1.front ++ z) q.1) }
              | inr h2 ↦
                  elim (either (lvalue_at d ts) (λ x. assigned_at d x.0 x.1) (call_at d ts) (done a rest) h2.1) [
                    | inl w ↦
                        let l = lvalue_sound ts w.0.0 w.0.1 w.1 in
                        let y = assigned_sound l.front w.0.0 w.0.1 a rest l.is w.2 in
                        record { front = l.front ++ y.front; is = y.is; parts = l.parts ∙ ap (λ z. l.front ++ z) y.parts ∙ sym (append_assoc l.front y.front rest) }
                    | inr w ↦ call_sound ts a rest w.1
                  ]
            ]
      ]

  lvalue_shut : Shut (lvalue_at d)
  unfolding lvalue_at primary_of
  lvalue_shut t ts h =
      let s = shut_by t.terminal h in
      let star : front T.Star (t ∷ ts) ≡ None = no_star (t ∷ ts) (ap (λ o. o >>= λ x. Some (x, t, ts)) s.0) in
      rw (star, s.1 d (unary_at (d - 1)) t ts) refl

  not_in_lvalue : (k : Terminal) → begins k ≡ false → (ts : List Lexeme) (x : ExpressionTree × List Lexeme) → lvalue_at d ts ≡ Some x → front k ts ≡ None
  not_in_lvalue k b ts x h = not_front (lvalue_at d) lvalue_shut k b ts x h

  primary_shut : Shut (primary_of d (unary_at (d - 1)))
  unfolding primary_of
  primary_shut t ts h = (shut_by t.terminal h).1 d (unary_at (d - 1)) t ts

  -- an lvalue and what follows it
  assigned_complete : (ts1 us : List Lexeme) (e : ExpressionTree) (x : SimpleTree × List Lexeme) → IsLvalue d ts1 e → Stops 0 us → assigned_at d e us ≡ Some x → simple_at d (ts1 ++ us) ≡ Some x
  unfolding simple_at
  assigned_complete ts1 us e x l s h =
      let one : lvalue_at d (ts1 ++ us) ≡ Some (e, us) = lvalue_complete ts1 e us l s in
      rw (not_in_lvalue T.PlusPlus refl (ts1 ++ us) (e, us) one, not_in_lvalue T.MinusMinus refl (ts1 ++ us) (e, us) one, one) h

  stops_zero : (rest : List Lexeme) → Stops 6 rest → Stops 0 rest
  stops_zero rest s = stops_less 6 0 rest (omega arith) s

  at_seven : (k : Terminal) → level_of k ≡ 7 → (t : Lexeme) (us : List Lexeme) → t.terminal ≡ k → Stops 0 (t ∷ us)
  at_seven k l t us h = stops_zero (t ∷ us) (stops_at k l t us h)

  update_level : (k : Terminal) (o : BinaryOperator) → update_of k ≡ Some o → (level_of k ≡ 7) × (same k T.Equal ≡ false)
  update_level T.PlusEqual o h = (refl, refl)
  update_level T.MinusEqual o h = (refl, refl)
  update_level T.StarEqual o h = (refl, refl)
  update_level _ o h = absurd cc

  call_no_variable : (e : ExpressionTree) → is_call_tree e ≡ true → is_variable_tree e ≡ false
  call_no_variable (variable n s) h = absurd cc
  call_no_variable _ h = refl

  simple_complete : (ts : List Lexeme) (a : SimpleTree) (rest : List Lexeme) → IsSimple d ts a → Stops 6 rest → simple_at d (ts ++ rest) ≡ Some (a, rest)
  unfolding simple_at assigned_at call_at lvalue_at
  simple_complete ts a rest (is_assign {ts1 = ts1} {e1 = e1} {e2 = e2} t ts2 l k e parts g) s =
      let two : expression_at d (ts2 ++ rest) ≡ Some (e2, rest) = (expression_exact d).complete ts2 e2 rest e s in
      let behind : assigned_at d e1 (t ∷ ts2 ++ rest) ≡ Some (assign e1 e2, rest) = rw (k, two) refl in
      rw (parts, append_assoc ts1 (t ∷ ts2) rest, g) (assigned_complete ts1 (t ∷ ts2 ++ rest) e1 (assign e1 e2, rest) l (at_seven T.Equal refl t (ts2 ++ rest) k) behind)
  simple_complete ts a rest (is_update {ts1 = ts1} {e1 = e1} {e2 = e2} t ts2 o l k e parts g) s =
      let two : expression_at d (ts2 ++ rest) ≡ Some (e2, rest) = (expression_exact d).complete ts2 e2 rest e s in
      let u = update_level t.terminal o k in
      let behind : assigned_at d e1 (t ∷ ts2 ++ rest) ≡ Some (update o e1 e2, rest) = rw (u.1, k, two) refl in
      rw (parts, append_assoc ts1 (t ∷ ts2) rest, g) (assigned_complete ts1 (t ∷ ts2 ++ rest) e1 (update o e1 e2, rest) l (stops_zero (t ∷ ts2 ++ rest) (rw u.0 (omega arith))) behind)
  simple_complete ts a rest (is_increment {ts1 = ts1} {e = e} t l k parts g) s =
      let behind : assigned_at d e (t ∷ rest) ≡ Some (increment e, rest) = rw k refl in
      rw (parts, append_assoc ts1 (t ∷ []) rest, g) (assigned_complete ts1 (t ∷ rest) e (increment e, rest) l (at_seven T.PlusPlus refl t rest k) behind)
  simple_complete ts a rest (is_decrement {ts1 = ts1} {e = e} t l k parts g) s =
      let behind : assigned_at d e (t ∷ rest) ≡ Some (decrement e, rest) = rw k refl in
      rw (parts, append_assoc ts1 (t ∷ []) rest, g) (assigned_complete ts1 (t ∷ rest) e (decrement e, rest) l (at_seven T.MinusMinus refl t rest k) behind)
  simple_complete ts a rest (is_increment_of {ts1 = ts1} {e = e} k l parts g) s =
      let one : lvalue_at d (ts1 ++ rest) ≡ Some (e, rest) = lvalue_complete ts1 e rest l (stops_zero rest s) in
      rw (parts, g, k, one) refl
  simple_complete ts a rest (is_decrement_of {ts1 = ts1} {e = e} k l parts g) s =
      let one : lvalue_at d (ts1 ++ rest) ≡ Some (e, rest) = lvalue_complete ts1 e rest l (stops_zero rest s) in
      rw (parts, g, k, one) refl
  simple_complete ts a rest (is_a_call {e = e} p bare c g) s =
      let one : primary_of d (unary_at (d - 1)) (ts ++ rest) ≡ Some (e, rest) = primary_here_complete ts e rest p (not_at T.OpenParenthesis rest refl (stops_zero rest s)) in
      let here : opens (ts ++ rest) ≡ false = primary_opens ts e rest p ∙ bare in
      let star : front T.Star (ts ++ rest) ≡ None = no_star (ts ++ rest) (no_prefix_here ts e rest p) in
      let none : lvalue_at d (ts ++ rest) ≡ None = rw (star, one, no_arrow rest (stops_zero rest s), here, call_no_variable e c) refl in
      let plus : front T.PlusPlus (ts ++ rest) ≡ None = not_front (primary_of d (unary_at (d - 1))) primary_shut T.PlusPlus refl (ts ++ rest) (e, rest) one in
      let minus : front T.MinusMinus (ts ++ rest) ≡ None = not_front (primary_of d (unary_at (d - 1))) primary_shut T.MinusMinus refl (ts ++ rest) (e, rest) one in
      rw (plus, minus, none, here, one, c, g) refl

  pub simple_exact : Exact (IsSimple d) (simple_at d) (Stops 6)
  simple_exact = record { sound = simple_sound; complete = simple_complete }

-- what begins a simple statement
abbrev pub starts : Terminal → Bool
starts T.PlusPlus = true
starts T.MinusMinus = true
starts k = begins k

not_same : (a b : Terminal) (f : Terminal → Bool) → f a ≡ false → f b ≡ true → same a b ≡ false
not_same a b f h g =
    elim (chosen (same a b) true false (same a b) (bool_is (same a b))) [
      | inl w ↦ absurd (let z = sym h ∙ ap f (same_is a b w.0) ∙ g in cc)
      | inr w ↦ w.0
    ]

begins_less : (k : Terminal) → starts k ≡ false → begins k ≡ false
begins_less T.PlusPlus h = absurd cc
begins_less T.MinusMinus h = absurd cc
begins_less _ h = h

pub simple_shut : (d : ℕ) (t : Lexeme) (ts : List Lexeme) → starts t.terminal ≡ false → simple_at d (t ∷ ts) ≡ None
unfolding simple_at call_at primary_of
simple_shut d t ts h =
    let b = begins_less t.terminal h in
    let s = shut_by t.terminal b in
    rw (not_same t.terminal T.PlusPlus starts h refl, not_same t.terminal T.MinusMinus starts h refl, lvalue_shut d t ts b, not_same t.terminal T.OpenParenthesis begins b refl, s.1 d (unary_at (d - 1)) t ts) refl

pub nothing_simple : (d : ℕ) → simple_at d [] ≡ None
unfolding simple_at call_at primary_of lvalue_at
nothing_simple d = refl
