-- The readers of members and of functions' heads read what the grammar says.
use Rattle.std.proofs.Common.{◌≡◌, ℕ, zero, suc, ◌≤◌, Bool, true, false, List, [], ◌∷◌, ◌++◌, length, Option, Some, None, Ok, Err, refl, ap, sym, ◌∙◌, length-append, arith, inl, inr}
use Rattle.std.proofs.lemmas.Bool.{or_right}
use Rattle.px_expressions.proofs.ExactTools.{either}
use Rattle.px_real_expressions.specs.declared.terminal.Terminal.{Terminal}
use Rattle.px_real_expressions.specs.declared.terminal.Terminal.TheVariants as T
use Rattle.px_real_expressions.specs.Lexemes.{Lexeme, front}
use Rattle.px_real_expressions.specs.Stops.{wrong, ◌>>=◌, expect}
use Rattle.px_real_expressions.specs.Reading.{Reader}
use Rattle.px_real_expressions.specs.Grammar.{Gram}
use Rattle.px_real_expressions.proofs.Tools.{done, both_are, bind_ok, front_is, front_here}
use Rattle.px_real_declarations.specs.Roles.{has_role}
use Rattle.px_real_declarations.specs.DeclarationTree.{SpecifierTree, any_says, DeclaratorTree, DeclaredTree, DeclarationTree, HeadTree}
use Rattle.px_real_declarations.specs.Grammar.{Types, begins_specifier, begins_with, DeclarationOf, IsDeclaration, Lines, no_line, an_empty_line, a_line, Members, IsHead, is_head}
use Rattle.px_real_declarations.specs.Reading.{specifiers_at, some_specifiers, declarator_at, declaration_by, declaration_at}
use Rattle.px_real_declarations.specs.HeldReading.{ended_at, line_at, as_list, lines_from, lines_at, members_at, head_at}
use Rattle.px_real_declarations.proofs.PartExact.{at_semicolon}
use Rattle.px_real_declarations.proofs.SpecifierExact.{ReadSpecifiers, specifiers_sound, specifiers_complete}
use Rattle.px_real_declarations.proofs.DeclaratorExact.{begins_declarator, First, nothing, begun, After, after_token, after_nothing, declarator_exact}
use Rattle.px_real_declarations.proofs.DeclarationExact.{ExactItem, declared_exact, member_exact, declaration_exact, declaration_first, is_word, word_is_not}
use Rattle.px_real_declarations.proofs.ParameterExact.{role_no_brace}

abbrev head_of : List SpecifierTree → DeclaratorTree → List DeclarationTree → HeadTree
head_of ss d ds = record { specifiers = ss; declarator = d; declarations = ds }

-- the terminal that is expected
expected : (k : Terminal) (ts : List Lexeme) (x : Lexeme × List Lexeme) → expect k ts ≡ Ok x → (x.0.terminal ≡ k) × (ts ≡ x.0 ∷ x.1)
expected k ts x h =
    elim (either (front k ts) Ok (Err (wrong ts)) (Ok x) h) [
      | inl w ↦ let e : w.0 ≡ x = cc in front_is k ts x (rw (← e) w.1)
      | inr w ↦ absurd cc
    ]

module _ (types : Types) (alone : Bool) {G : Gram DeclaredTree} {r : Reader DeclaredTree} (p : ExactItem G r) where
  -- a declaration and its semicolon, in front of others
  ended_sound : (ts : List Lexeme) (o : Option DeclarationTree) (rest : List Lexeme) {ds : List DeclarationTree} → ended_at (declaration_by types r) ts ≡ Ok (o, rest) → Lines alone (DeclarationOf types G) rest ds → Lines alone (DeclarationOf types G) ts (as_list o ++ ds)
  ended_sound ts o rest h more =
      let d = bind_ok (declaration_by types r ts) _ (o, rest) h in
      let e = bind_ok (expect T.Semicolon d.0.1) _ (o, rest) d.2 in
      let q = both_are (Some d.0.0) o e.0.1 rest e.2 in
      let one = (declaration_exact types p).sound ts d.0.0 d.0.1 d.1 in
      let mark = expected T.Semicolon d.0.1 e.0 e.1 in
      rw (← q.0) (a_line e.0.0 one.is mark.0 more (one.parts ∙ ap (λ z. one.front ++ z) (mark.1 ∙ ap (λ z. e.0.0 ∷ z) q.1)) refl)

  -- or a semicolon alone
  line_sound : (b : Bool) → b ≡ alone → (ts : List Lexeme) (o : Option DeclarationTree) (rest : List Lexeme) {ds : List DeclarationTree} → line_at b (declaration_by types r) ts ≡ Ok (o, rest) →
      Lines alone (DeclarationOf types G) rest ds → Lines alone (DeclarationOf types G) ts (as_list o ++ ds)
  unfolding line_at
  line_sound true is ts o rest h more =
      elim (either (front T.Semicolon ts) _ _ (Ok (o, rest)) h) [
        | inl w ↦
            let k = front_is T.Semicolon ts w.0 w.1 in
            let q = both_are None o w.0.1 rest w.2 in
            rw (← q.0) (an_empty_line (sym is) k.0 more (k.1 ∙ ap (λ z. w.0.0 ∷ z) q.1))
        | inr w ↦ ended_sound ts o rest w.1 more
      ]
  line_sound false is ts o rest h more = ended_sound ts o rest h more

  lines_sound : (m : ℕ) (ts : List Lexeme) (ds : List DeclarationTree) → lines_from m alone (declaration_by types r) ts ≡ Ok (ds, []) → Lines alone (DeclarationOf types G) ts ds
  unfolding lines_from
  lines_sound zero ts ds h = let q = both_are [] ds ts [] h in no_line q.1 (sym q.0)
  lines_sound (suc m) [] ds h = let q = both_are [] ds [] [] h in no_line refl (sym q.0)
  lines_sound (suc m) (t ∷ ts) ds h =
      let d = bind_ok (line_at alone (declaration_by types r) (t ∷ ts)) _ (ds, []) h in
      let y = bind_ok (lines_from m alone (declaration_by types r) d.0.1) _ (ds, []) d.2 in
      let q = both_are (as_list d.0.0 ++ y.0.0) ds y.0.1 [] y.2 in
      let rest : lines_from m alone (declaration_by types r) d.0.1 ≡ Ok (y.0.0, []) = y.1 ∙ ap (λ z. done y.0.0 z) q.1 in
      rw (← q.0) (line_sound alone refl (t ∷ ts) d.0.0 d.0.1 d.1 (lines_sound m d.0.1 y.0.0 rest))

  empty_line : (b : Bool) (t : Lexeme) (ts : List Lexeme) → b ≡ true → t.terminal ≡ T.Semicolon → line_at b (declaration_by types r) (t ∷ ts) ≡ Ok (None, ts)
  unfolding line_at
  empty_line true t ts is k = rw (front_here T.Semicolon t ts k) refl
  empty_line false t ts is k = absurd cc

  ended_there : (ts1 : List Lexeme) (e : Lexeme) (ts2 : List Lexeme) (d : DeclarationTree) → DeclarationOf types G ts1 d → e.terminal ≡ T.Semicolon → ended_at (declaration_by types r) (ts1 ++ e ∷ ts2) ≡ Ok (Some d, ts2)
  ended_there ts1 e ts2 d i k =
      let one : declaration_by types r (ts1 ++ e ∷ ts2) ≡ Ok (d, e ∷ ts2) = (declaration_exact types p).complete ts1 d (e ∷ ts2) i (at_semicolon k refl) in
      rw (one, front_here T.Semicolon e ts2 k) refl

  line_there : (b : Bool) (ts1 : List Lexeme) (e : Lexeme) (ts2 : List Lexeme) (d : DeclarationTree) → DeclarationOf types G ts1 d → e.terminal ≡ T.Semicolon → line_at b (declaration_by types r) (ts1 ++ e ∷ ts2) ≡ Ok (Some d, ts2)
  unfolding line_at
  line_there true ts1 e ts2 d i k =
      let f = declaration_first types p i in
      let none : front T.Semicolon (ts1 ++ e ∷ ts2) ≡ None = rw (f.3, word_is_not T.Semicolon f.0 refl f.2) refl in
      rw none (ended_there ts1 e ts2 d i k)
  line_there false ts1 e ts2 d i k = ended_there ts1 e ts2 d i k

  lines_complete : (m : ℕ) {ts : List Lexeme} {ds : List DeclarationTree} → Lines alone (DeclarationOf types G) ts ds → length ts ≤ m → lines_from m alone (declaration_by types r) ts ≡ Ok (ds, [])
  unfolding lines_from
  lines_complete zero (no_line h e) le = rw (h, e) refl
  lines_complete (suc m) (no_line h e) le = rw (h, e) refl
  lines_complete zero (an_empty_line is k s parts) le = absurd (omega (arith, ap length parts))
  lines_complete (suc m) (an_empty_line {t = t} {ts1 = ts1} {ds = ds} is k s parts) le =
      let fits : length ts1 ≤ m = omega (arith, ap length parts) in
      let more : lines_from m alone (declaration_by types r) ts1 ≡ Ok (ds, []) = lines_complete m s fits in
      rw (parts, empty_line alone t ts1 is k, more) refl
  lines_complete zero (a_line e {ts1 = ts1} {ts2 = ts2} i k s parts g) le = absurd (omega (arith, ap length parts, length-append ts1 (e ∷ ts2)))
  lines_complete (suc m) (a_line e {ts1 = ts1} {ts2 = ts2} {d = d} {ds1 = ds1} i k s parts g) le =
      let f = declaration_first types p i in
      let whole : ts1 ++ e ∷ ts2 ≡ f.0 ∷ (f.1 ++ e ∷ ts2) = ap (λ z. z ++ e ∷ ts2) f.3 in
      let one : line_at alone (declaration_by types r) (f.0 ∷ (f.1 ++ e ∷ ts2)) ≡ Ok (Some d, ts2) = ap (line_at alone (declaration_by types r)) (sym whole) ∙ line_there alone ts1 e ts2 d i k in
      let fits : length ts2 ≤ m = omega (arith, ap length parts, length-append ts1 (e ∷ ts2)) in
      let more : lines_from m alone (declaration_by types r) ts2 ≡ Ok (ds1, []) = lines_complete m s fits in
      rw (parts, whole, g, one, more) refl

pub members_whole_sound : (types : Types) (n : ℕ) (ts : List Lexeme) (ds : List DeclarationTree) → members_at types n ts ≡ Ok (ds, []) → Members types n ts ds
members_whole_sound types n ts ds h = lines_sound types true (member_exact types n) (length ts) ts ds h

pub members_whole_complete : (types : Types) (n : ℕ) {ts : List Lexeme} {ds : List DeclarationTree} → Members types n ts ds → members_at types n ts ≡ Ok (ds, [])
members_whole_complete types n {ts = ts} m = lines_complete types true (member_exact types n) (length ts) m (omega arith)

-- ---- heads of functions

module _ (types : Types) (n : ℕ) where
  pub head_sound : (ts : List Lexeme) (h : HeadTree) → head_at types n ts ≡ Ok (h, []) → IsHead types n ts h
  unfolding head_at
  head_sound ts h g =
      let a = bind_ok (specifiers_at types (length ts) false ts) _ (h, []) g in
      by a.0.0 a.0.1 (specifiers_sound types (length ts) false ts a.0.0 a.0.1 (omega arith) a.1) a.2
    where
      by : (xs : List SpecifierTree) (us : List Lexeme) → ReadSpecifiers types false ts xs us →
          (some_specifiers xs us >>= λ ss. declarator_at types false n ss.1 >>= λ d. lines_at false (declaration_at types n) d.1 >>= λ y. done (head_of ss.0 d.0 y.0) y.1) ≡ Ok (h, []) → IsHead types n ts h
      by [] us m e = absurd cc
      by (s ∷ ss) us m e =
          let d = bind_ok (declarator_at types false n us) _ (h, []) e in
          let y = bind_ok (lines_at false (declaration_at types n) d.0.1) _ (h, []) d.2 in
          let q = both_are (head_of (s ∷ ss) d.0.0 y.0.0) h y.0.1 [] y.2 in
          let i = (declarator_exact types false n).sound us d.0.0 d.0.1 d.1 in
          let last : lines_at false (declaration_at types n) d.0.1 ≡ Ok (y.0.0, []) = y.1 ∙ ap (λ z. done y.0.0 z) q.1 in
          let l = lines_sound types false (declared_exact types n) (length d.0.1) d.0.1 y.0.0 last in
          is_head i.front m.reads.is (record { none_begins = ap (begins_with (begins_specifier types (any_says false (s ∷ ss)))) (sym i.parts) ∙ m.none_begins; no_group = λ a. ap (front T.OpenParenthesis) (sym i.parts) ∙ m.no_group a })
          i.is l (m.reads.parts ∙ ap (λ z. m.reads.front ++ z) i.parts) (sym q.0)

  -- a word that follows ends the declarator
  after_word : (d : DeclaratorTree) (t : Lexeme) (us : List Lexeme) → is_word t.terminal ≡ true → After false d (t ∷ us)
  after_word d t us h = record {
    no_identifier = λ mm. absurd cc;
    no_star = λ mm. absurd cc;
    no_bracket = rw (word_is_not T.OpenBracket t refl h) refl;
    no_parenthesis = rw (word_is_not T.OpenParenthesis t refl h) refl;
    no_qualifier = λ mm. absurd cc;
  }

  after_lines : (d : DeclaratorTree) {ts : List Lexeme} {ds : List DeclarationTree} → Lines false (IsDeclaration types n) ts ds → After false d ts
  after_lines d (no_line h e) = rw h (after_nothing false d)
  after_lines d (an_empty_line {t = t} {ts1 = ts1} is k l parts) = rw parts (after_token false d T.Semicolon t ts1 k refl refl)
  after_lines d (a_line e {ts2 = ts2} i k l parts g) =
      let f = declaration_first types (declared_exact types n) i in
      rw (parts, f.3) (after_word d f.0 (f.1 ++ e ∷ ts2) f.2)

  begun_no_brace : {ts : List Lexeme} {d : DeclaratorTree} (us : List Lexeme) → First false ts d → front T.OpenBrace (ts ++ us) ≡ None
  begun_no_brace us (nothing mm h e) = absurd cc
  begun_no_brace us (begun t vs b h) = rw h (role_no_brace t (vs ++ us) (or_right (has_role t.terminal) (begins_declarator t.terminal) b))

  pub head_complete : {ts : List Lexeme} {h : HeadTree} → IsHead types n ts h → head_at types n ts ≡ Ok (h, [])
  unfolding head_at
  head_complete {ts = ts} (is_head {ts1 = ts1} ts2 {ts3 = ts3} {s = s} {ss = ss} {d = d} {ds = ds} m f i l parts e) =
      let q = declarator_exact types false n in
      let fits : length ts1 ≤ length ts = omega (arith, ap length parts, length-append ts1 (ts2 ++ ts3)) in
      let one : specifiers_at types (length ts) false ts ≡ Ok (s ∷ ss, ts2 ++ ts3) =
      ap (specifiers_at types (length ts) false) parts ∙ specifiers_complete types (length ts) false (ts2 ++ ts3) m f.none_begins f.no_group (begun_no_brace ts3 (q.first i)) fits in
      let two : declarator_at types false n (ts2 ++ ts3) ≡ Ok (d, ts3) = q.complete ts2 d ts3 i (after_lines d l) in
      let three : lines_at false (declaration_at types n) ts3 ≡ Ok (ds, []) = lines_complete types false (declared_exact types n) (length ts3) l (omega arith) in
      rw (e, one, two, three) refl
