-- The readers of statements read exactly what the grammar says.
use Rattle.std.proofs.Common.{◌≡◌, ◌==◌, ℕ, zero, suc, ◌-◌, ◌<◌, Bool, true, false, cond, List, [], ◌∷◌, ◌++◌, length, Option, Some, None, refl, sym, ap, subst, ◌∙◌, append_assoc, length-append, arith, inl, inr}
use Rattle.std.proofs.lemmas.List.{append-nil}
use Rattle.px_expressions.specs.declared.terminal.Terminal.{Terminal}
use Rattle.px_expressions.specs.declared.terminal.Terminal.TheVariants as T
use Rattle.px_expressions.specs.Lexemes.{Lexeme, same, front}
use Rattle.px_expressions.specs.Reading.{Reader, begins_type, expression_at}
use Rattle.px_statements.specs.SimpleReading.{declaration_at, simple_at, condition_at, optional_at, first_at}
use Rattle.px_statements.specs.StatementReading.{statements_at, sub_at, branches_at, if_at, while_at, for_at, block_at, empty_block_at, word_at, return_at, declare_at, act_at, statement_by, statement_of, statement_at}
use Rattle.px_expressions.specs.Grammar.{Gram}
use Rattle.px_statements.specs.SimpleGrammar.{IsDeclaration}
use Rattle.px_statements.specs.StatementGrammar.{hangs, is_declaration_tree, IsSub, is_sub, AreStatements, no_statement, one_statement, IsBraced, is_braced, StatementOf, is_empty, is_empty_block, is_block, is_declare, is_simple, is_if, is_if_else, is_while, is_for, is_break, is_continue, is_return, IsStatement}
use Rattle.px_expressions.proofs.ExactTools.{chosen, bind_some, either, done, both_are, positive, is_positive, front_is, front_bind, same_is, Reads, part_bind}
use Rattle.px_expressions.proofs.ExpressionExact.{stops_at, front_here}
use Rattle.px_statements.proofs.SimpleExact.{declaration_exact, simple_exact, simple_shut, nothing_simple, starts}
use Rattle.px_syntax.specs.StatementTree.{DeclarationTree, SimpleTree, StatementTree, statements_of, empty, block, declare, simple_statement, choose, choose_else, while_loop, for_loop, break, continue, return}
use Rattle.px_statements.proofs.ClauseExact.{AwayFrom, away_front, simple_away, semicolon_follows, declaration_begins, simple_begins, first_clause, middle_clause, last_clause, condition_complete, condition_exact}

-- ---- statements

-- an `else` doesn't follow
abbrev pub NoElse : List Lexeme → Type 0
NoElse ts = front T.Else ts ≡ None

-- what may follow a statement
abbrev pub Follows : StatementTree → List Lexeme → Type 0
Follows s rest = hangs s ≡ true → NoElse rest

-- what is read is in the grammar, and followed by what may follow
pub record Sound (G : Gram StatementTree) (ts : List Lexeme) (s : StatementTree) (rest : List Lexeme) : Type 0 where
  pub front : List Lexeme
  pub is : G front s
  pub parts : ts ≡ front ++ rest
  pub follows : Follows s rest

pub record ExactStatement (G : Gram StatementTree) (r : Reader StatementTree) : Type 0 where
  pub sound : (ts : List Lexeme) (s : StatementTree) (rest : List Lexeme) → r ts ≡ Some (s, rest) → Sound G ts s rest
  pub complete : (front : List Lexeme) (s : StatementTree) (rest : List Lexeme) → G front s → Follows s rest → r (front ++ rest) ≡ Some (s, rest)
  -- a statement that begins with a type is a declaration, and no other is one
  pub typed : (front : List Lexeme) (s : StatementTree) (rest : List Lexeme) → G front s → begins_type (front ++ rest) ≡ is_declaration_tree s
  -- no statement begins with an `else` or a closing brace, or is empty
  pub no_else : AwayFrom T.Else r
  pub no_brace : AwayFrom T.CloseBrace r
  pub some : r [] ≡ None

-- a statement has a first lexeme, which is not this one
module _ {G : Gram StatementTree} {r : Reader StatementTree} (p : ExactStatement G r) where
  begins_not : (k : Terminal) → AwayFrom k r → (front1 : List Lexeme) (s : StatementTree) (rest : List Lexeme) → G front1 s → front k (front1 ++ rest) ≡ None
  begins_not k away front1 s rest g = go front1 (p.complete front1 s [] g (λ h. refl))
    where
      go : (us : List Lexeme) → r (us ++ []) ≡ Some (s, []) → front k (us ++ rest) ≡ None
      go [] h = absurd (let z = p.some in cc)
      go (t ∷ us) h = one_lexeme t us (us ++ rest) (away_front r k away (t ∷ us ++ []) (s, []) h)
        where
          one_lexeme : (t : Lexeme) (us vs : List Lexeme) → front k (t ∷ us ++ []) ≡ None → front k (t ∷ vs) ≡ None
          one_lexeme t us vs h =
              elim (chosen (same t.terminal k) (Some (t, us ++ [])) None None h) [
                | inl w ↦ absurd (let z = w.1 in cc)
                | inr w ↦ rw w.0 refl
              ]

  not_else : (front1 : List Lexeme) (s : StatementTree) (rest : List Lexeme) → G front1 s → NoElse (front1 ++ rest)
  not_else = begins_not T.Else p.no_else

  not_brace : (front1 : List Lexeme) (s : StatementTree) (rest : List Lexeme) → G front1 s → front T.CloseBrace (front1 ++ rest) ≡ None
  not_brace = begins_not T.CloseBrace p.no_brace

  statement_some : (front1 : List Lexeme) (s : StatementTree) → G front1 s → 0 < length front1
  statement_some [] s g = absurd (let a = p.complete [] s [] g (λ h. refl) in let z = p.some in cc)
  statement_some (t ∷ us) s g = omega arith

  -- ---- a statement inside another

  sub_sound : (ts : List Lexeme) (s : StatementTree) (rest : List Lexeme) → sub_at r ts ≡ Some (s, rest) → Sound (IsSub G) ts s rest
  unfolding sub_at
  sub_sound ts s rest h =
      elim (chosen (begins_type ts) None (r ts) (done s rest) h) [
        | inl w ↦ absurd (let z = w.1 in cc)
        | inr w ↦
            let one = p.sound ts s rest w.1 in
            record {
              front = one.front;
              is = is_sub one.is (sym (p.typed one.front s rest one.is) ∙ ap begins_type (sym one.parts) ∙ w.0);
              parts = one.parts;
              follows = one.follows;
            }
      ]

  sub_complete : (ts : List Lexeme) (s : StatementTree) (rest : List Lexeme) → IsSub G ts s → Follows s rest → sub_at r (ts ++ rest) ≡ Some (s, rest)
  unfolding sub_at
  sub_complete ts s rest (is_sub g n) f = rw (p.typed ts s rest g ∙ n) (p.complete ts s rest g f)

  -- ---- statements up to a closing brace

  -- statements, and the brace after them
  record Closed (ts : List Lexeme) (ss : List StatementTree) (rest : List Lexeme) : Type 0 where
    pub front : List Lexeme
    pub last : Lexeme
    pub is : AreStatements G front ss
    pub closes : last.terminal ≡ T.CloseBrace
    pub parts : ts ≡ front ++ last ∷ rest

  statements_sound : (n : ℕ) (before : List StatementTree) (ts : List Lexeme) (ss : List StatementTree) (rest : List Lexeme) → statements_at n r before ts ≡ Some (ss, rest) →
      (ss1 : List StatementTree) × (ss ≡ before ++ ss1) × Closed ts ss1 rest
  unfolding statements_at
  statements_sound zero before ts ss rest h = absurd cc
  statements_sound (suc n) before ts ss rest h =
      elim (either (front T.CloseBrace ts) (λ x. done before x.1) _ (done ss rest) h) [
        | inl w ↦
            let q = both_are before ss w.0.1 rest w.2 in
            let f = front_is T.CloseBrace ts w.0 w.1 in
            ([], sym q.0 ∙ sym (append-nil before), record { front = []; last = w.0.0; is = no_statement refl refl; closes = f.0; parts = f.1 ∙ ap (λ z. w.0.0 ∷ z) q.1 })
        | inr v ↦
            let b = bind_some (r ts) (λ x. statements_at n r (before ++ x.0 ∷ []) x.1) (ss, rest) v.1 in
            let x = b.0 in
            let one = p.sound ts x.0 x.1 b.1 in
            let two = statements_sound n (before ++ x.0 ∷ []) x.1 ss rest b.2 in
            let c = two.2 in (
              x.0 ∷ two.0,
              two.1 ∙ append_assoc before (x.0 ∷ []) two.0,
              record {
                front = one.front ++ c.front;
                last = c.last;
                is = one_statement one.is c.is refl refl;
                closes = c.closes;
                parts = one.parts ∙ ap (λ z. one.front ++ z) c.parts ∙ sym (append_assoc one.front c.front (c.last ∷ rest));
              },
            )
      ]

  statements_no_else : {ts : List Lexeme} {ss : List StatementTree} (c : Lexeme) (rest : List Lexeme) → AreStatements G ts ss → c.terminal ≡ T.CloseBrace → NoElse (ts ++ c ∷ rest)
  statements_no_else c rest (no_statement h g) k = rw (h, k) refl
  statements_no_else c rest (one_statement {ts1 = ts1} {ts2 = ts2} {s = s} a m parts g) k = rw (parts, append_assoc ts1 ts2 (c ∷ rest)) (not_else ts1 s (ts2 ++ c ∷ rest) a)

  statements_complete : (n : ℕ) (before : List StatementTree) {ts : List Lexeme} {ss : List StatementTree} (c : Lexeme) (rest : List Lexeme) → AreStatements G ts ss → c.terminal ≡ T.CloseBrace → length ts < n →
      statements_at n r before (ts ++ c ∷ rest) ≡ Some (before ++ ss, rest)
  unfolding statements_at
  statements_complete zero before c rest m k lt = absurd (omega arith)
  statements_complete (suc n) before c rest (no_statement h g) k lt = rw (h, g, front_here T.CloseBrace c rest k, append-nil before) refl
  statements_complete (suc n) before c rest (one_statement {ts1 = ts1} {ts2 = ts2} {ts = ts} {s = s} {ss1 = ss1} a m parts g) k lt =
      let one : r ((ts1 ++ ts2) ++ c ∷ rest) ≡ Some (s, ts2 ++ c ∷ rest) = rw (append_assoc ts1 ts2 (c ∷ rest)) (p.complete ts1 s (ts2 ++ c ∷ rest) a (λ e. statements_no_else c rest m k)) in
      let open_still : front T.CloseBrace ((ts1 ++ ts2) ++ c ∷ rest) ≡ None = rw (append_assoc ts1 ts2 (c ∷ rest)) (not_brace ts1 s (ts2 ++ c ∷ rest) a) in
      let some : 0 < length ts1 = statement_some ts1 s a in
      let fits : length ts2 < n = omega (arith, ap length parts, length-append ts1 ts2) in
      let two : statements_at n r (before ++ s ∷ []) (ts2 ++ c ∷ rest) ≡ Some ((before ++ s ∷ []) ++ ss1, rest) = statements_complete n (before ++ s ∷ []) c rest m k fits in
      rw (parts, g, open_still, one) (two ∙ ap (λ z. done z rest) (append_assoc before (s ∷ []) ss1))

  -- what is read after an opening brace
  pub braced_sound : (o : Lexeme) (ts : List Lexeme) (ss : List StatementTree) (rest : List Lexeme) → o.terminal ≡ T.OpenBrace → statements_at (length ts) r [] ts ≡ Some (ss, rest) →
      Reads (IsBraced G) (o ∷ ts) ss rest
  braced_sound o ts ss rest k h =
      let m = statements_sound (length ts) [] ts ss rest h in
      let c = m.2 in
      record {
        front = o ∷ c.front ++ c.last ∷ [];
        is = is_braced c.last k c.closes (subst (λ z. AreStatements G c.front z) (sym m.1) c.is) refl;
        parts = ap (λ z. o ∷ z) (c.parts ∙ sym (append_assoc c.front (c.last ∷ []) rest));
      }

  pub braced_complete : (ts1 : List Lexeme) (ss : List StatementTree) (c : Lexeme) (rest : List Lexeme) → AreStatements G ts1 ss → c.terminal ≡ T.CloseBrace →
      statements_at (length ((ts1 ++ c ∷ []) ++ rest)) r [] ((ts1 ++ c ∷ []) ++ rest) ≡ Some (ss, rest)
  braced_complete ts1 ss c rest m k =
      let e : (ts1 ++ c ∷ []) ++ rest ≡ ts1 ++ c ∷ rest = append_assoc ts1 (c ∷ []) rest in
      let fits : length ts1 < length (ts1 ++ c ∷ rest) = omega (arith, length-append ts1 (c ∷ rest)) in
      rw e (statements_complete (length (ts1 ++ c ∷ rest)) [] c rest m k fits)

not_hangs : (s : StatementTree) (ts : List Lexeme) (x : Lexeme × List Lexeme) → Follows s ts → front T.Else ts ≡ Some x → hangs s ≡ false
not_hangs s ts x f h = go (hangs s) refl
  where
    go : (b : Bool) → hangs s ≡ b → hangs s ≡ false
    go true e = absurd (let z = f e in cc)
    go false e = e

-- a statement that can't hang may be followed by anything
free_of : (s : StatementTree) (rest : List Lexeme) → hangs s ≡ false → Follows s rest
free_of s rest h e = absurd cc

two_parts : (t : Lexeme) (a b ts us rest : List Lexeme) → ts ≡ a ++ us → us ≡ b ++ rest → t ∷ ts ≡ (t ∷ a ++ b) ++ rest
two_parts t a b ts us rest h g = ap (λ z. t ∷ z) (h ∙ ap (λ z. a ++ z) g ∙ sym (append_assoc a b rest))

else_parts : (t l : Lexeme) (a b c ts us vs ws rest : List Lexeme) → ts ≡ a ++ us → us ≡ b ++ vs → vs ≡ l ∷ ws → ws ≡ c ++ rest → t ∷ ts ≡ (t ∷ a ++ (b ++ l ∷ c)) ++ rest
else_parts t l a b c ts us vs ws rest h1 h2 h3 h4 =
    two_parts t a (b ++ l ∷ c) ts us rest h1 (h2 ∙ ap (λ z. b ++ z) (h3 ∙ ap (λ z. l ∷ z) h4) ∙ sym (append_assoc b (l ∷ c) rest))

-- what is read where one more may be opened
abbrev if_open : {A : Type 0} → ℕ → Option A → Option A
if_open d x = cond (d == 0) None x

module _ (d : ℕ) (I : Gram StatementTree) (i : Reader StatementTree) (p : ExactStatement I i) where
  if_sound : (t : Lexeme) (ts : List Lexeme) (s : StatementTree) (rest : List Lexeme) → t.terminal ≡ T.If → 0 < d → if_at (d - 1) i ts ≡ Some (s, rest) → Sound (StatementOf d I) (t ∷ ts) s rest
  unfolding if_at branches_at
  if_sound t ts s rest k lt h =
      let e = part_bind (condition_exact (d - 1)) ts _ (s, rest) h in
      let b = bind_some (sub_at i e.0.1) _ (s, rest) e.2 in
      let y = b.0 in
      let one = sub_sound p e.0.1 y.0 y.1 b.1 in
      elim (either (front T.Else y.1) _ (done (choose e.0.0 y.0) y.1) (done s rest) b.2) [
        | inl v ↦
            let c = bind_some (sub_at i v.0.1) (λ z. done (choose_else e.0.0 y.0 z.0) z.1) (s, rest) v.2 in
            let z = c.0 in
            let q = both_are (choose_else e.0.0 y.0 z.0) s z.1 rest c.2 in
            let f = front_is T.Else y.1 v.0 v.1 in
            let two = sub_sound p v.0.1 z.0 z.1 c.1 in
            record {
              front = t ∷ e.1.front ++ (one.front ++ v.0.0 ∷ two.front);
              is = is_if_else v.0.0 k f.0 lt e.1.is one.is (not_hangs y.0 y.1 v.0 one.follows v.1) two.is refl (sym q.0);
              parts = else_parts t v.0.0 e.1.front one.front two.front ts e.0.1 y.1 v.0.1 rest e.1.parts one.parts f.1 (two.parts ∙ ap (λ r. two.front ++ r) q.1);
              follows = subst (λ x. Follows x rest) q.0 (subst (λ r. Follows z.0 r) q.1 two.follows);
            }
        | inr v ↦
            let q = both_are (choose e.0.0 y.0) s y.1 rest v.1 in
            record {
              front = t ∷ e.1.front ++ one.front;
              is = is_if k lt e.1.is one.is refl (sym q.0);
              parts = two_parts t e.1.front one.front ts e.0.1 rest e.1.parts (one.parts ∙ ap (λ r. one.front ++ r) q.1);
              follows = λ a. ap (front T.Else) (sym q.1) ∙ v.0;
            }
      ]

  while_sound : (t : Lexeme) (ts : List Lexeme) (s : StatementTree) (rest : List Lexeme) → t.terminal ≡ T.While → 0 < d → while_at (d - 1) i t.site ts ≡ Some (s, rest) → Sound (StatementOf d I) (t ∷ ts) s rest
  unfolding while_at
  while_sound t ts s rest k lt h =
      let e = part_bind (condition_exact (d - 1)) ts _ (s, rest) h in
      let b = bind_some (sub_at i e.0.1) _ (s, rest) e.2 in
      let y = b.0 in
      let one = sub_sound p e.0.1 y.0 y.1 b.1 in
      let q = both_are (while_loop t.site e.0.0 y.0) s y.1 rest b.2 in
      record {
        front = t ∷ e.1.front ++ one.front;
        is = is_while k lt e.1.is one.is refl (sym q.0);
        parts = two_parts t e.1.front one.front ts e.0.1 rest e.1.parts (one.parts ∙ ap (λ r. one.front ++ r) q.1);
        follows = subst (λ z. Follows z rest) q.0 (subst (λ r. Follows y.0 r) q.1 one.follows);
      }

  for_parts : (t o : Lexeme) (a b c e ts t1 t2 t3 t4 rest : List Lexeme) → ts ≡ o ∷ t1 → t1 ≡ a ++ t2 → t2 ≡ b ++ t3 → t3 ≡ c ++ t4 → t4 ≡ e ++ rest →
      t ∷ ts ≡ (t ∷ o ∷ a ++ (b ++ (c ++ e))) ++ rest
  for_parts t o a b c e ts t1 t2 t3 t4 rest h0 h1 h2 h3 h4 =
      let three : t3 ≡ (c ++ e) ++ rest = h3 ∙ ap (λ z. c ++ z) h4 ∙ sym (append_assoc c e rest) in
      let two : t2 ≡ (b ++ (c ++ e)) ++ rest = h2 ∙ ap (λ z. b ++ z) three ∙ sym (append_assoc b (c ++ e) rest) in
      let one : t1 ≡ (a ++ (b ++ (c ++ e))) ++ rest = h1 ∙ ap (λ z. a ++ z) two ∙ sym (append_assoc a (b ++ (c ++ e)) rest) in
      ap (λ z. t ∷ z) (h0 ∙ ap (λ z. o ∷ z) one)

  for_sound : (t : Lexeme) (ts : List Lexeme) (s : StatementTree) (rest : List Lexeme) → t.terminal ≡ T.For → 0 < d → for_at (d - 1) i t.site ts ≡ Some (s, rest) → Sound (StatementOf d I) (t ∷ ts) s rest
  unfolding for_at
  for_sound t ts s rest k lt h =
      let o = front_bind T.OpenParenthesis ts _ (s, rest) h in
      let a = part_bind (first_clause (d - 1)) o.0.1 _ (s, rest) o.3 in
      let b = part_bind (middle_clause (d - 1)) a.0.1 _ (s, rest) a.2 in
      let c = part_bind (last_clause (d - 1)) b.0.1 _ (s, rest) b.2 in
      let m = bind_some (sub_at i c.0.1) _ (s, rest) c.2 in
      let y = m.0 in
      let one = sub_sound p c.0.1 y.0 y.1 m.1 in
      let q = both_are (for_loop t.site a.0.0 b.0.0 c.0.0 y.0) s y.1 rest m.2 in
      record {
        front = t ∷ o.0.0 ∷ a.1.front ++ (b.1.front ++ (c.1.front ++ one.front));
        is = is_for k lt o.1 a.1.is b.1.is c.1.is one.is refl (sym q.0);
        parts = for_parts t o.0.0 a.1.front b.1.front c.1.front one.front ts o.0.1 a.0.1 b.0.1 c.0.1 rest o.2 a.1.parts b.1.parts c.1.parts (one.parts ∙ ap (λ r. one.front ++ r) q.1);
        follows = subst (λ z. Follows z rest) q.0 (subst (λ r. Follows y.0 r) q.1 one.follows);
      }

  block_sound : (t : Lexeme) (ts : List Lexeme) (s : StatementTree) (rest : List Lexeme) → t.terminal ≡ T.OpenBrace → 0 < d → block_at i ts ≡ Some (s, rest) → Sound (StatementOf d I) (t ∷ ts) s rest
  unfolding block_at
  block_sound t ts s rest k lt h =
      let b = bind_some (statements_at (length ts) i [] ts) _ (s, rest) h in
      let q = both_are (block (statements_of b.0.0)) s b.0.1 rest b.2 in
      let one = braced_sound p t ts b.0.0 b.0.1 k b.1 in
      record {
        front = one.front;
        is = is_block lt one.is (sym q.0);
        parts = one.parts ∙ ap (λ z. one.front ++ z) q.1;
        follows = subst (λ z. Follows z rest) q.0 (λ a. absurd cc);
      }

  empty_block_sound : (t : Lexeme) (ts : List Lexeme) (s : StatementTree) (rest : List Lexeme) → t.terminal ≡ T.OpenBrace → empty_block_at ts ≡ Some (s, rest) → Sound (StatementOf d I) (t ∷ ts) s rest
  unfolding empty_block_at
  empty_block_sound t ts s rest k h =
      let f = front_bind T.CloseBrace ts _ (s, rest) h in
      let q = both_are (block (statements_of [])) s f.0.1 rest f.3 in
      record { front = t ∷ f.0.0 ∷ []; is = is_empty_block k f.1 refl (sym q.0); parts = ap (λ z. t ∷ z) (f.2 ∙ ap (λ z. f.0.0 ∷ z) q.1); follows = subst (λ z. Follows z rest) q.0 (λ a. absurd cc) }

  declare_sound : (ts : List Lexeme) (s : StatementTree) (rest : List Lexeme) → declare_at d ts ≡ Some (s, rest) → Sound (StatementOf d I) ts s rest
  unfolding declare_at
  declare_sound ts s rest h =
      let x = part_bind (declaration_exact d) ts _ (s, rest) h in
      let f = front_bind T.Semicolon x.0.1 _ (s, rest) x.2 in
      let q = both_are (declare x.0.0) s f.0.1 rest f.3 in
      record {
        front = x.1.front ++ f.0.0 ∷ [];
        is = is_declare f.0.0 x.1.is f.1 refl (sym q.0);
        parts = x.1.parts ∙ ap (λ z. x.1.front ++ z) (f.2 ∙ ap (λ z. f.0.0 ∷ z) q.1) ∙ sym (append_assoc x.1.front (f.0.0 ∷ []) rest);
        follows = subst (λ z. Follows z rest) q.0 (λ a. absurd cc);
      }

  act_sound : (ts : List Lexeme) (s : StatementTree) (rest : List Lexeme) → act_at d ts ≡ Some (s, rest) → Sound (StatementOf d I) ts s rest
  unfolding act_at
  act_sound ts s rest h =
      let x = part_bind (simple_exact d) ts _ (s, rest) h in
      let f = front_bind T.Semicolon x.0.1 _ (s, rest) x.2 in
      let q = both_are (simple_statement x.0.0) s f.0.1 rest f.3 in
      record {
        front = x.1.front ++ f.0.0 ∷ [];
        is = is_simple f.0.0 x.1.is f.1 refl (sym q.0);
        parts = x.1.parts ∙ ap (λ z. x.1.front ++ z) (f.2 ∙ ap (λ z. f.0.0 ∷ z) q.1) ∙ sym (append_assoc x.1.front (f.0.0 ∷ []) rest);
        follows = subst (λ z. Follows z rest) q.0 (λ a. absurd cc);
      }

  break_sound : (t : Lexeme) (ts : List Lexeme) (s : StatementTree) (rest : List Lexeme) → t.terminal ≡ T.Break → word_at break ts ≡ Some (s, rest) → Sound (StatementOf d I) (t ∷ ts) s rest
  unfolding word_at
  break_sound t ts s rest k h =
      let f = front_bind T.Semicolon ts _ (s, rest) h in
      let q = both_are break s f.0.1 rest f.3 in
      record { front = t ∷ f.0.0 ∷ []; is = is_break k f.1 refl (sym q.0); parts = ap (λ z. t ∷ z) (f.2 ∙ ap (λ z. f.0.0 ∷ z) q.1); follows = subst (λ z. Follows z rest) q.0 (λ a. absurd cc) }

  continue_sound : (t : Lexeme) (ts : List Lexeme) (s : StatementTree) (rest : List Lexeme) → t.terminal ≡ T.Continue → word_at continue ts ≡ Some (s, rest) → Sound (StatementOf d I) (t ∷ ts) s rest
  unfolding word_at
  continue_sound t ts s rest k h =
      let f = front_bind T.Semicolon ts _ (s, rest) h in
      let q = both_are continue s f.0.1 rest f.3 in
      record { front = t ∷ f.0.0 ∷ []; is = is_continue k f.1 refl (sym q.0); parts = ap (λ z. t ∷ z) (f.2 ∙ ap (λ z. f.0.0 ∷ z) q.1); follows = subst (λ z. Follows z rest) q.0 (λ a. absurd cc) }

  return_sound : (t : Lexeme) (ts : List Lexeme) (s : StatementTree) (rest : List Lexeme) → t.terminal ≡ T.Return → return_at d ts ≡ Some (s, rest) → Sound (StatementOf d I) (t ∷ ts) s rest
  unfolding return_at
  return_sound t ts s rest k h =
      let x = part_bind (middle_clause d) ts _ (s, rest) h in
      let q = both_are (return x.0.0) s x.0.1 rest x.2 in
      record { front = t ∷ x.1.front; is = is_return k x.1.is refl (sym q.0); parts = ap (λ z. t ∷ z) (x.1.parts ∙ ap (λ z. x.1.front ++ z) q.1); follows = subst (λ z. Follows z rest) q.0 (λ a. absurd cc) }

  by_sound : (k : Terminal) (t : Lexeme) (ts : List Lexeme) (s : StatementTree) (rest : List Lexeme) → t.terminal ≡ k → statement_by k d i t (t ∷ ts) ts ≡ Some (s, rest) → Sound (StatementOf d I) (t ∷ ts) s rest
  by_sound T.Semicolon t ts s rest k h =
      let q = both_are empty s ts rest h in
      record { front = t ∷ []; is = is_empty k refl (sym q.0); parts = ap (λ z. t ∷ z) q.1; follows = subst (λ z. Follows z rest) q.0 (λ a. absurd cc) }
  by_sound T.OpenBrace t ts s rest k h =
      elim (chosen (d == 0) (empty_block_at ts) _ (done s rest) h) [
        | inl v ↦ empty_block_sound t ts s rest k v.1
        | inr v ↦ block_sound t ts s rest k (is_positive d v.0) v.1
      ]
  by_sound T.If t ts s rest k h =
      elim (chosen (d == 0) None _ (done s rest) h) [
        | inl v ↦ absurd (let z = v.1 in cc)
        | inr v ↦ if_sound t ts s rest k (is_positive d v.0) v.1
      ]
  by_sound T.While t ts s rest k h =
      elim (chosen (d == 0) None _ (done s rest) h) [
        | inl v ↦ absurd (let z = v.1 in cc)
        | inr v ↦ while_sound t ts s rest k (is_positive d v.0) v.1
      ]
  by_sound T.For t ts s rest k h =
      elim (chosen (d == 0) None _ (done s rest) h) [
        | inl v ↦ absurd (let z = v.1 in cc)
        | inr v ↦ for_sound t ts s rest k (is_positive d v.0) v.1
      ]
  by_sound T.Break t ts s rest k h = break_sound t ts s rest k h
  by_sound T.Continue t ts s rest k h = continue_sound t ts s rest k h
  by_sound T.Return t ts s rest k h = return_sound t ts s rest k h
  by_sound T.Int t ts s rest k h = declare_sound (t ∷ ts) s rest h
  by_sound T.Struct t ts s rest k h = declare_sound (t ∷ ts) s rest h
  by_sound _ t ts s rest k h = act_sound (t ∷ ts) s rest h

  statement_sound : (ts : List Lexeme) (s : StatementTree) (rest : List Lexeme) → statement_of d i ts ≡ Some (s, rest) → Sound (StatementOf d I) ts s rest
  unfolding statement_of
  statement_sound [] s rest h = absurd cc
  statement_sound (t ∷ ts) s rest h = by_sound t.terminal t ts s rest refl h

  -- ---- what is in the grammar is read

  by_first : (k : Terminal) (t : Lexeme) (ts : List Lexeme) → t.terminal ≡ k → statement_of d i (t ∷ ts) ≡ statement_by k d i t (t ∷ ts) ts
  unfolding statement_of
  by_first k t ts h = ap (λ z. statement_by z d i t (t ∷ ts) ts) h

  acts_by : (k : Terminal) (t : Lexeme) (all ts : List Lexeme) → starts k ≡ true → statement_by k d i t all ts ≡ act_at d all
  acts_by T.Semicolon t all ts h = absurd cc
  acts_by T.OpenBrace t all ts h = absurd cc
  acts_by T.If t all ts h = absurd cc
  acts_by T.While t all ts h = absurd cc
  acts_by T.For t all ts h = absurd cc
  acts_by T.Break t all ts h = absurd cc
  acts_by T.Continue t all ts h = absurd cc
  acts_by T.Return t all ts h = absurd cc
  acts_by T.Int t all ts h = absurd cc
  acts_by T.Struct t all ts h = absurd cc
  acts_by _ t all ts h = refl

  declares_at : (ts : List Lexeme) → begins_type ts ≡ true → statement_of d i ts ≡ declare_at d ts
  declares_at [] h = absurd cc
  declares_at (t ∷ ts) h =
      elim (chosen (same t.terminal T.Int) true (same t.terminal T.Struct) true h) [
        | inl w ↦ by_first T.Int t ts (same_is t.terminal T.Int w.0)
        | inr w ↦ by_first T.Struct t ts (same_is t.terminal T.Struct w.1)
      ]

  -- where a simple statement was read, it is one
  acts : (ts : List Lexeme) (x : SimpleTree × List Lexeme) → simple_at d ts ≡ Some x → statement_of d i ts ≡ act_at d ts
  unfolding statement_of
  acts [] x h = absurd (let z = nothing_simple d in cc)
  acts (t ∷ ts) x h = acts_by t.terminal t (t ∷ ts) ts (started (starts t.terminal) refl)
    where
      started : (b : Bool) → starts t.terminal ≡ b → starts t.terminal ≡ true
      started true e = e
      started false e = absurd (let z = simple_shut d t ts e in cc)

  declares : (ts : List Lexeme) (a : DeclarationTree) (rest : List Lexeme) → IsDeclaration d ts a → statement_of d i (ts ++ rest) ≡ declare_at d (ts ++ rest)
  declares ts a rest g = declares_at (ts ++ rest) (declaration_begins d ts a rest g)

  -- a closing brace at once, whatever may be opened
  nothing_inside : (c : Lexeme) (rest : List Lexeme) → c.terminal ≡ T.CloseBrace →
      (cond (d == 0) (empty_block_at (c ∷ rest)) (block_at i (c ∷ rest))) ≡ Some (block (statements_of []), rest)
  unfolding block_at empty_block_at
  nothing_inside c rest kc = by (d == 0)
    where
      by : (b : Bool) → (cond b (empty_block_at (c ∷ rest)) (block_at i (c ∷ rest))) ≡ Some (block (statements_of []), rest)
      by true = rw (front_here T.CloseBrace c rest kc) refl
      by false = rw (braced_complete p [] [] c rest (no_statement refl refl) kc) refl

  statement_complete : (ts : List Lexeme) (s : StatementTree) (rest : List Lexeme) → StatementOf d I ts s → Follows s rest → statement_of d i (ts ++ rest) ≡ Some (s, rest)
  unfolding block_at empty_block_at if_at branches_at while_at for_at word_at return_at declare_at act_at
  statement_complete ts s rest (is_empty {t = t} k parts g) f = rw (parts, g) (by_first T.Semicolon t rest k)
  statement_complete ts s rest (is_empty_block {o = o} {c = c} k kc parts g) f = rw (parts, g) (by_first T.OpenBrace o (c ∷ rest) k ∙ nothing_inside c rest kc)
  statement_complete ts s rest (is_block {ss = ss} lt (is_braced {o = o} c {ts1 = ts1} k kc m parts) g) f =
      let inner : (cond (d == 0) (empty_block_at ((ts1 ++ c ∷ []) ++ rest)) (block_at i ((ts1 ++ c ∷ []) ++ rest))) ≡ Some (block (statements_of ss), rest) =
      rw (positive d lt, braced_complete p ts1 ss c rest m kc) refl in
      rw (parts, g) (by_first T.OpenBrace o ((ts1 ++ c ∷ []) ++ rest) k ∙ inner)
  statement_complete ts s rest (is_declare {ts1 = ts1} {a = a} t x k parts g) f =
      let one : declaration_at d (ts1 ++ t ∷ rest) ≡ Some (a, t ∷ rest) = (declaration_exact d).complete ts1 a (t ∷ rest) x (semicolon_follows t rest k) in
      let inner : declare_at d (ts1 ++ t ∷ rest) ≡ Some (declare a, rest) = rw (one, front_here T.Semicolon t rest k) refl in
      rw (parts, append_assoc ts1 (t ∷ []) rest, g) (declares ts1 a (t ∷ rest) x ∙ inner)
  statement_complete ts s rest (is_simple {ts1 = ts1} {a = a} t x k parts g) f =
      let one : simple_at d (ts1 ++ t ∷ rest) ≡ Some (a, t ∷ rest) = (simple_exact d).complete ts1 a (t ∷ rest) x (stops_at T.Semicolon refl t rest k) in
      let inner : act_at d (ts1 ++ t ∷ rest) ≡ Some (simple_statement a, rest) = rw (one, front_here T.Semicolon t rest k) refl in
      rw (parts, append_assoc ts1 (t ∷ []) rest, g) (acts (ts1 ++ t ∷ rest) (a, t ∷ rest) one ∙ inner)
  statement_complete ts s rest (is_if {t = t} {ts1 = ts1} {ts2 = ts2} {e = e} {s1 = s1} k lt x a parts g) f =
      let one : condition_at (d - 1) (ts1 ++ (ts2 ++ rest)) ≡ Some (e, ts2 ++ rest) = condition_complete (d - 1) ts1 e (ts2 ++ rest) x tt in
      let none : NoElse rest = subst (λ z. Follows z rest) g f refl in
      let two : sub_at i (ts2 ++ rest) ≡ Some (s1, rest) = sub_complete p ts2 s1 rest a (λ h. none) in
      let inner : (if_open d (if_at (d - 1) i (ts1 ++ (ts2 ++ rest)))) ≡ Some (choose e s1, rest) = rw (positive d lt, one, two, none) refl in
      rw (parts, append_assoc ts1 ts2 rest, g) (by_first T.If t (ts1 ++ (ts2 ++ rest)) k ∙ inner)
  statement_complete ts s rest (is_if_else {t = t} {ts1 = ts1} {ts2 = ts2} {ts3 = ts3} {e = e} {s1 = s1} {s2 = s2} l k kl lt x a nh b parts g) f =
      let one : condition_at (d - 1) (ts1 ++ (ts2 ++ l ∷ (ts3 ++ rest))) ≡ Some (e, ts2 ++ l ∷ (ts3 ++ rest)) = condition_complete (d - 1) ts1 e (ts2 ++ l ∷ (ts3 ++ rest)) x tt in
      let two : sub_at i (ts2 ++ l ∷ (ts3 ++ rest)) ≡ Some (s1, l ∷ (ts3 ++ rest)) = sub_complete p ts2 s1 (l ∷ (ts3 ++ rest)) a (free_of s1 (l ∷ (ts3 ++ rest)) nh) in
      let three : sub_at i (ts3 ++ rest) ≡ Some (s2, rest) = sub_complete p ts3 s2 rest b (subst (λ z. Follows z rest) g f) in
      let inner : (if_open d (if_at (d - 1) i (ts1 ++ (ts2 ++ l ∷ (ts3 ++ rest))))) ≡ Some (choose_else e s1 s2, rest) =
      rw (positive d lt, one, two, front_here T.Else l (ts3 ++ rest) kl, three) refl in
      let regroup : ts ++ rest ≡ t ∷ ts1 ++ (ts2 ++ l ∷ (ts3 ++ rest)) = rw (parts, append_assoc ts1 (ts2 ++ l ∷ ts3) rest, append_assoc ts2 (l ∷ ts3) rest) refl in
      rw (regroup, g) (by_first T.If t (ts1 ++ (ts2 ++ l ∷ (ts3 ++ rest))) k ∙ inner)
  statement_complete ts s rest (is_while {t = t} {ts1 = ts1} {ts2 = ts2} {e = e} {s1 = s1} k lt x a parts g) f =
      let one : condition_at (d - 1) (ts1 ++ (ts2 ++ rest)) ≡ Some (e, ts2 ++ rest) = condition_complete (d - 1) ts1 e (ts2 ++ rest) x tt in
      let two : sub_at i (ts2 ++ rest) ≡ Some (s1, rest) = sub_complete p ts2 s1 rest a (subst (λ z. Follows z rest) g f) in
      let inner : (if_open d (while_at (d - 1) i t.site (ts1 ++ (ts2 ++ rest)))) ≡ Some (while_loop t.site e s1, rest) = rw (positive d lt, one, two) refl in
      rw (parts, append_assoc ts1 ts2 rest, g) (by_first T.While t (ts1 ++ (ts2 ++ rest)) k ∙ inner)
  statement_complete ts s rest (is_for {t = t} {o = o} {ts1 = ts1} {ts2 = ts2} {ts3 = ts3} {ts4 = ts4} {a = a} {b = b} {c = c} {s1 = s1} k lt ko x y z w parts g) f =
      let last : List Lexeme = ts4 ++ rest in
      let one : optional_at T.Semicolon (first_at (d - 1)) (ts1 ++ (ts2 ++ (ts3 ++ last))) ≡ Some (a, ts2 ++ (ts3 ++ last)) = (first_clause (d - 1)).complete ts1 a (ts2 ++ (ts3 ++ last)) x tt in
      let two : optional_at T.Semicolon (expression_at (d - 1)) (ts2 ++ (ts3 ++ last)) ≡ Some (b, ts3 ++ last) = (middle_clause (d - 1)).complete ts2 b (ts3 ++ last) y tt in
      let three : optional_at T.CloseParenthesis (simple_at (d - 1)) (ts3 ++ last) ≡ Some (c, last) = (last_clause (d - 1)).complete ts3 c last z tt in
      let four : sub_at i last ≡ Some (s1, rest) = sub_complete p ts4 s1 rest w (subst (λ z. Follows z rest) g f) in
      let inner : (if_open d (for_at (d - 1) i t.site (o ∷ ts1 ++ (ts2 ++ (ts3 ++ last))))) ≡ Some (for_loop t.site a b c s1, rest) =
      rw (positive d lt, front_here T.OpenParenthesis o (ts1 ++ (ts2 ++ (ts3 ++ last))) ko, one, two, three, four) refl in
      let regroup : ts ++ rest ≡ t ∷ o ∷ ts1 ++ (ts2 ++ (ts3 ++ last)) =
      rw (parts, append_assoc ts1 (ts2 ++ (ts3 ++ ts4)) rest, append_assoc ts2 (ts3 ++ ts4) rest, append_assoc ts3 ts4 rest) refl in
      rw (regroup, g) (by_first T.For t (o ∷ ts1 ++ (ts2 ++ (ts3 ++ last))) k ∙ inner)
  statement_complete ts s rest (is_break {t = t} {u = u} k ku parts g) f =
      let inner : word_at break (u ∷ rest) ≡ Some (break, rest) = rw (front_here T.Semicolon u rest ku) refl in
      rw (parts, g) (by_first T.Break t (u ∷ rest) k ∙ inner)
  statement_complete ts s rest (is_continue {t = t} {u = u} k ku parts g) f =
      let inner : word_at continue (u ∷ rest) ≡ Some (continue, rest) = rw (front_here T.Semicolon u rest ku) refl in
      rw (parts, g) (by_first T.Continue t (u ∷ rest) k ∙ inner)
  statement_complete ts s rest (is_return {t = t} {ts1 = ts1} {a = a} k x parts g) f =
      let one : optional_at T.Semicolon (expression_at d) (ts1 ++ rest) ≡ Some (a, rest) = (middle_clause d).complete ts1 a rest x tt in
      let inner : return_at d (ts1 ++ rest) ≡ Some (return a, rest) = rw one refl in
      rw (parts, g) (by_first T.Return t (ts1 ++ rest) k ∙ inner)

  statement_typed : (ts : List Lexeme) (s : StatementTree) (rest : List Lexeme) → StatementOf d I ts s → begins_type (ts ++ rest) ≡ is_declaration_tree s
  statement_typed ts s rest (is_empty k parts g) = rw (parts, g, k) refl
  statement_typed ts s rest (is_empty_block k kc parts g) = rw (parts, g, k) refl
  statement_typed ts s rest (is_block lt (is_braced c k kc m parts) g) = rw (parts, g, k) refl
  statement_typed ts s rest (is_declare {ts1 = ts1} {a = a} t x k parts g) = rw (parts, append_assoc ts1 (t ∷ []) rest, g) (declaration_begins d ts1 a (t ∷ rest) x)
  statement_typed ts s rest (is_simple {ts1 = ts1} {a = a} t x k parts g) =
      let one : simple_at d (ts1 ++ t ∷ rest) ≡ Some (a, t ∷ rest) = (simple_exact d).complete ts1 a (t ∷ rest) x (stops_at T.Semicolon refl t rest k) in
      rw (parts, append_assoc ts1 (t ∷ []) rest, g) (simple_begins d (ts1 ++ t ∷ rest) (a, t ∷ rest) one)
  statement_typed ts s rest (is_if k lt x a parts g) = rw (parts, g, k) refl
  statement_typed ts s rest (is_if_else l k kl lt x a nh b parts g) = rw (parts, g, k) refl
  statement_typed ts s rest (is_while k lt x a parts g) = rw (parts, g, k) refl
  statement_typed ts s rest (is_for k lt ko x y z w parts g) = rw (parts, g, k) refl
  statement_typed ts s rest (is_break k ku parts g) = rw (parts, g, k) refl
  statement_typed ts s rest (is_continue k ku parts g) = rw (parts, g, k) refl
  statement_typed ts s rest (is_return k x parts g) = rw (parts, g, k) refl

  act_away : (k : Terminal) → starts k ≡ false → (t : Lexeme) (ts : List Lexeme) → t.terminal ≡ k → act_at d (t ∷ ts) ≡ None
  unfolding act_at
  act_away k b t ts h = rw (simple_away d k b t ts h) refl

  statement_nil : statement_of d i [] ≡ None
  unfolding statement_of
  statement_nil = refl

  statement_exact : ExactStatement (StatementOf d I) (statement_of d i)
  statement_exact = record {
    sound = statement_sound;
    complete = statement_complete;
    typed = statement_typed;
    no_else = λ t ts h. by_first T.Else t ts h ∙ act_away T.Else refl t ts h;
    no_brace = λ t ts h. by_first T.CloseBrace t ts h ∙ act_away T.CloseBrace refl t ts h;
    some = statement_nil;
  }

-- ---- every depth

abbrev no_statement_read : Reader StatementTree
no_statement_read ts = None

abbrev no_statement_tree : Gram StatementTree
no_statement_tree ts s = ⊥

nothing_exact : ExactStatement no_statement_tree no_statement_read
nothing_exact = record {
  sound = λ ts s rest h. absurd cc;
  complete = λ ts s rest g f. absurd g;
  typed = λ ts s rest g. absurd g;
  no_else = λ t ts h. refl;
  no_brace = λ t ts h. refl;
  some = refl;
}

pub statement_at_exact : (d : ℕ) → ExactStatement (IsStatement d) (statement_at d)
unfolding statement_at IsStatement
statement_at_exact zero = statement_exact zero no_statement_tree no_statement_read nothing_exact
statement_at_exact (suc d) = statement_exact (suc d) (IsStatement d) (statement_at d) (statement_at_exact d)
