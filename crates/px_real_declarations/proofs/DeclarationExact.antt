-- The readers of declarations read exactly what the grammar says.
use Rattle.std.proofs.Common.{◌≡◌, ℕ, zero, suc, ◌≤◌, Bool, true, false, not, ◌&&◌, ◌||◌, if◌then◌else◌, List, [], ◌∷◌, ◌++◌, length, Option, Some, None, Ok, refl, ap, sym, ◌∙◌, append_assoc, length-append, arith, inl, inr}
use Rattle.std.proofs.lemmas.Bool.{or_right}
use Rattle.px_expressions.specs.Reading.{or_else}
use Rattle.px_expressions.proofs.ExactTools.{either}
use Rattle.px_real_expressions.specs.declared.terminal.Terminal.{Terminal}
use Rattle.px_real_expressions.specs.declared.terminal.Terminal.TheVariants as T
use Rattle.px_real_expressions.specs.Lexemes.{Lexeme, same, front}
use Rattle.px_real_expressions.specs.Operators.{is_identifier}
use Rattle.px_real_expressions.specs.Stops.{◌>>=◌}
use Rattle.px_real_expressions.specs.Reading.{Reader}
use Rattle.px_real_expressions.specs.Grammar.{Gram, MoreItems, no_item, an_item}
use Rattle.px_real_expressions.proofs.Tools.{done, both_are, bind_ok, same_is, front_is, front_here, part_bind, Reads, Exact}
use Rattle.px_real_declarations.specs.declared.role.Role.{Role}
use Rattle.px_real_declarations.specs.declared.role.Role.TheVariants as R
use Rattle.px_real_declarations.specs.Roles.{has_role, role, same_role, begins_keyword}
use Rattle.px_real_declarations.specs.DeclarationTree.{GroupTree, SpecifierTree, any_says, DeclaratorTree, no_name, DeclaredTree, DeclarationTree, declaration, assertion}
use Rattle.px_real_declarations.specs.Parts.{Part}
use Rattle.px_real_declarations.specs.Grammar.{Types, IsGroup, is_group, Attributes, no_more, one_more, Specifiers, no_specifier, one_specifier, begins_specifier, begins_with, Label, no_label, a_label, Value, no_value, a_value, IsDeclared, is_declared, IsMember, is_member, is_width, Listed, none_listed, some_listed, DeclarationOf, is_declaration, is_assertion_of}
use Rattle.px_real_statements.specs.PhraseReading.{part_at}
use Rattle.px_real_declarations.specs.Reading.{role_front, group_at, attributes_at, specifiers_at, declarator_at, value_at, declared_at, member_at, more_declared, is_over, listed_at, some_specifiers, declaration_by}
use Rattle.px_real_declarations.proofs.PartExact.{IsPart, is_part_of, Over, at_end, at_semicolon, Ended, at_over, at_comma, part_exact}
use Rattle.px_real_declarations.proofs.GroupExact.{ReadOne, plain_role, no_role, group_sound, group_complete, group_none, attributes_sound, attributes_complete}
use Rattle.px_real_declarations.proofs.SpecifierExact.{identifier_plain, begins_nothing, Begins, specifier_first, ReadSpecifiers, specifiers_sound, specifiers_complete}
use Rattle.px_real_declarations.proofs.DeclaratorExact.{role_same, attribute_has_role, begins_declarator, declarator_plain, First, nothing, begun, After, after_first, after_nothing, declarator_exact}

-- ---- what belongs to a declarator

label_read : (ts : List Lexeme) (o : Option GroupTree) (rest : List Lexeme) → ReadOne (IsGroup (same_role R.Assembler)) ts o rest → Reads Label ts o rest
label_read ts (Some g) rest r = record { front = r.front; is = a_label r.is refl; parts = r.parts }
label_read ts None rest e = record { front = []; is = no_label refl refl; parts = e }

label_complete : {ts : List Lexeme} {o : Option GroupTree} (rest : List Lexeme) → Label ts o → role_front (same_role R.Assembler) rest ≡ None → group_at (same_role R.Assembler) (ts ++ rest) ≡ Ok (o, rest)
label_complete rest (no_label h e) none = rw (h, e) (group_none (same_role R.Assembler) rest none)
label_complete rest (a_label {g = g} m e) none = rw e (group_complete (same_role R.Assembler) rest m)

part_same : {ts a : List Lexeme} → IsPart ts a → ts ≡ a
part_same (is_part_of p e) = sym e

part_is : {ts a : List Lexeme} → IsPart ts a → Part a
part_is (is_part_of p e) = rw e p

pub value_sound : (mark : Terminal) (ts : List Lexeme) (o : Option (List Lexeme)) (rest : List Lexeme) → value_at mark ts ≡ Ok (o, rest) → Reads (Value mark) ts o rest
unfolding value_at
value_sound mark ts o rest h =
    elim (either (front mark ts) _ _ (Ok (o, rest)) h) [
      | inl w ↦
          let k = front_is mark ts w.0 w.1 in
          let x = part_bind part_exact w.0.1 _ (o, rest) w.2 in
          let q = both_are (Some x.0.0) o x.0.1 rest x.2 in
          record {
            front = w.0.0 ∷ x.0.0;
            is = a_value k.0 (part_is x.1.is) refl (sym q.0);
            parts = k.1 ∙ ap (λ z. w.0.0 ∷ z) (x.1.parts ∙ ap (λ z. z ++ x.0.1) (part_same x.1.is) ∙ ap (λ z. x.0.0 ++ z) q.1);
          }
      | inr w ↦ let q = both_are None o ts rest w.1 in record { front = []; is = no_value refl (sym q.0); parts = q.1 }
    ]

-- a terminal that begins a value: neither a comma nor a semicolon, nor a keyword, nor what begins a declarator
pub record IsMark (mark : Terminal) : Type 0 where
  pub no_comma : same T.Comma mark ≡ false
  pub no_semicolon : same T.Semicolon mark ≡ false
  pub no_keyword : has_role mark ≡ false
  pub no_declarator : begins_declarator mark ≡ false

pub equal_mark : IsMark T.Equal
equal_mark = record { no_comma = refl; no_semicolon = refl; no_keyword = refl; no_declarator = refl }

pub colon_mark : IsMark T.Colon
colon_mark = record { no_comma = refl; no_semicolon = refl; no_keyword = refl; no_declarator = refl }

no_mark : (mark : Terminal) {rest : List Lexeme} → IsMark mark → Ended rest → front mark rest ≡ None
no_mark mark m (at_over (at_end e)) = rw e refl
no_mark mark m (at_over (at_semicolon kc e)) = rw (e, kc, m.no_semicolon) refl
no_mark mark m (at_comma kc e) = rw (e, kc, m.no_comma) refl

pub value_complete : (mark : Terminal) {ts : List Lexeme} {o : Option (List Lexeme)} (rest : List Lexeme) → IsMark mark → Value mark ts o → Ended rest → value_at mark (ts ++ rest) ≡ Ok (o, rest)
unfolding value_at
value_complete mark rest m (no_value h e) f = rw (h, e, no_mark mark m f) refl
value_complete mark rest m (a_value {t = t} {ts1 = ts1} k p parts e) f =
    let one : part_at (ts1 ++ rest) ≡ Ok (ts1, rest) = part_exact.complete ts1 ts1 rest (is_part_of p refl) f in
    rw (parts, e, front_here mark t (ts1 ++ rest) k, one) refl

-- ---- what follows

-- nothing, or a token with which no declarator begins
data Head : List Lexeme → Type 0 where
  no_head : {ts : List Lexeme} → ts ≡ [] → Head ts
  a_head : (c : Lexeme) (us : List Lexeme) {ts : List Lexeme} → begins_declarator c.terminal ≡ false → ts ≡ c ∷ us → Head ts

pub role_no_declarator : (k : Terminal) → has_role k ≡ true → begins_declarator k ≡ false
role_no_declarator T.Name h = absurd cc
role_no_declarator T.TypeName h = absurd cc
role_no_declarator T.Star h = absurd cc
role_no_declarator T.OpenParenthesis h = absurd cc
role_no_declarator T.OpenBracket h = absurd cc
role_no_declarator _ h = refl

ended_head : {rest : List Lexeme} → Ended rest → Head rest
ended_head (at_over (at_end e)) = no_head e
ended_head (at_over (at_semicolon {c = c} {us = us} kc e)) = a_head c us (ap begins_declarator kc) e
ended_head (at_comma {c = c} {us = us} kc e) = a_head c us (ap begins_declarator kc) e

value_head : (mark : Terminal) {ts : List Lexeme} {o : Option (List Lexeme)} {rest : List Lexeme} → IsMark mark → Value mark ts o → Ended rest → Head (ts ++ rest)
value_head mark m (no_value h e) f = rw h (ended_head f)
value_head mark {rest = rest} m (a_value {t = t} {ts1 = ts1} k p parts e) f = a_head t (ts1 ++ rest) (ap begins_declarator k ∙ m.no_declarator) (ap (λ z. z ++ rest) parts)

group_head : (r : Role) {ts : List Lexeme} {g : GroupTree} (rest : List Lexeme) → (begins_keyword r || same_role r R.Assembler) ≡ true → IsGroup (same_role r) ts g → Head (ts ++ rest)
group_head r rest b (is_group {t = t} {ts1 = ts1} k m parts e) = a_head t (ts1 ++ rest) (role_no_declarator t.terminal (by (has_role t.terminal) refl)) (ap (λ z. z ++ rest) parts)
  where
    by : (x : Bool) → has_role t.terminal ≡ x → x ≡ true
    by true h = refl
    by false h =
        let other : r ≡ R.Other = role_same r R.Other (sym (ap (same_role r) (plain_role t h)) ∙ k) in
        absurd (let z : (begins_keyword R.Other || same_role R.Other R.Assembler) ≡ true = sym (ap (λ y. begins_keyword y || same_role y R.Assembler) other) ∙ b in cc)

attributes_head : {ts : List Lexeme} {gs : List GroupTree} (rest : List Lexeme) → Attributes ts gs → Head rest → Head (ts ++ rest)
attributes_head rest (no_more h e) f = rw h f
attributes_head rest (one_more {ts1 = ts1} {ts2 = ts2} m ms parts e) f = rw (parts, append_assoc ts1 ts2 rest) (group_head R.Attribute (ts2 ++ rest) refl m)

label_head : {ts : List Lexeme} {o : Option GroupTree} (rest : List Lexeme) → Label ts o → Head rest → Head (ts ++ rest)
label_head rest (no_label h e) f = rw h f
label_head rest (a_label m e) f = group_head R.Assembler rest refl m

head_after : (d : DeclaratorTree) {rest : List Lexeme} → Head rest → After false d rest
head_after d (no_head e) = rw e (after_nothing false d)
head_after d (a_head c us b e) = rw e (after_first false d c us b (λ mm s. absurd cc))

-- no keyword follows
pub ended_role : (kind : Role → Bool) {rest : List Lexeme} → kind R.Other ≡ false → Ended rest → role_front kind rest ≡ None
ended_role kind n (at_over (at_end e)) = rw e refl
ended_role kind n (at_over (at_semicolon {c = c} {us = us} kc e)) = rw e (no_role kind c us n (ap has_role kc))
ended_role kind n (at_comma {c = c} {us = us} kc e) = rw e (no_role kind c us n (ap has_role kc))

pub value_role : (kind : Role → Bool) (mark : Terminal) {ts : List Lexeme} {o : Option (List Lexeme)} (rest : List Lexeme) → kind R.Other ≡ false → IsMark mark → Value mark ts o → Ended rest → role_front kind (ts ++ rest) ≡ None
value_role kind mark rest n m (no_value h e) f = rw h (ended_role kind n f)
value_role kind mark rest n m (a_value {t = t} {ts1 = ts1} k p parts e) f = rw parts (no_role kind t (ts1 ++ rest) n (ap has_role k ∙ m.no_keyword))

attributes_role : {ts : List Lexeme} {gs : List GroupTree} (rest : List Lexeme) → Attributes ts gs → role_front (same_role R.Assembler) rest ≡ None → role_front (same_role R.Assembler) (ts ++ rest) ≡ None
attributes_role rest (no_more h e) f = rw h f
attributes_role rest (one_more {ts2 = ts2} (is_group {t = t} {ts1 = us1} k m h1 tree) ms parts e) f =
    let no_label_word : same_role R.Assembler (role t) ≡ false = ap (same_role R.Assembler) (sym (role_same R.Attribute (role t) k)) in
    rw (parts, h1, no_label_word) refl

-- ---- a declarator and what belongs to it

declared_sound : (types : Types) (n : ℕ) (mark : Terminal) (ts : List Lexeme) (x : DeclaredTree) (rest : List Lexeme) → declared_at types n mark ts ≡ Ok (x, rest) → Reads (IsDeclared types n mark) ts x rest
unfolding declared_at
declared_sound types n mark ts x rest h =
    let gs = bind_ok (attributes_at ts) _ (x, rest) h in
    let d = bind_ok (declarator_at types false n gs.0.1) _ (x, rest) gs.2 in
    let l = bind_ok (group_at (same_role R.Assembler) d.0.1) _ (x, rest) d.2 in
    let hs = bind_ok (attributes_at l.0.1) _ (x, rest) l.2 in
    let v = bind_ok (value_at mark hs.0.1) _ (x, rest) hs.2 in
    let tree : DeclaredTree = record { before = gs.0.0; declarator = d.0.0; label = l.0.0; after = hs.0.0; value = v.0.0 } in
    let q = both_are tree x v.0.1 rest v.2 in
    let a = attributes_sound ts gs.0.0 gs.0.1 gs.1 in
    let b = (declarator_exact types false n).sound gs.0.1 d.0.0 d.0.1 d.1 in
    let c = label_read d.0.1 l.0.0 l.0.1 (group_sound (same_role R.Assembler) d.0.1 l.0.0 l.0.1 l.1) in
    let e = attributes_sound l.0.1 hs.0.0 hs.0.1 hs.1 in
    let f = value_sound mark hs.0.1 v.0.0 v.0.1 v.1 in
    record {
      front = a.front ++ (b.front ++ (c.front ++ (e.front ++ f.front)));
      is = is_declared b.front a.is b.is c.is e.is f.is refl (sym q.0);
      parts = joined a.front (b.front ++ (c.front ++ (e.front ++ f.front))) a.parts (joined b.front (c.front ++ (e.front ++ f.front)) b.parts (joined c.front (e.front ++ f.front) c.parts (joined e.front f.front e.parts (f.parts ∙ ap (λ z. f.front ++ z) q.1))));
    }
  where
    joined : {us ws : List Lexeme} (a b : List Lexeme) → us ≡ a ++ ws → ws ≡ b ++ rest → us ≡ (a ++ b) ++ rest
    joined a b h1 h2 = h1 ∙ ap (λ z. a ++ z) h2 ∙ sym (append_assoc a b rest)

named_first : {may_miss : Bool} {ts : List Lexeme} {d : DeclaratorTree} → may_miss ≡ false → First may_miss ts d → (t : Lexeme) × (us : List Lexeme) × (begins_declarator t.terminal ≡ true) × (ts ≡ t ∷ us)
named_first m (nothing mm h n) = absurd (let z : true ≡ false = sym mm ∙ m in cc)
named_first m (begun t us b h) = (t, us, b, h)

declared_complete : (types : Types) (n : ℕ) (mark : Terminal) {ts : List Lexeme} {x : DeclaredTree} (rest : List Lexeme) → IsMark mark → IsDeclared types n mark ts x → Ended rest → declared_at types n mark (ts ++ rest) ≡ Ok (x, rest)
unfolding declared_at
declared_complete types n mark rest m (is_declared {ts1 = ts1} ts2 {ts3 = ts3} {ts4 = ts4} {ts5 = ts5} {gs = gs} {hs = hs} {d = d} {l = l} {v = v} a b c e f parts tree) g =
    let p = declarator_exact types false n in
    let first = named_first refl (p.first b) in
    let us4 : List Lexeme = ts5 ++ rest in
    let us3 : List Lexeme = ts4 ++ us4 in
    let us2 : List Lexeme = ts3 ++ us3 in
    let no_attribute : role_front (same_role R.Attribute) (ts2 ++ us2) ≡ None = rw (first.3) (no_role (same_role R.Attribute) first.0 (first.1 ++ us2) refl (declarator_plain first.0.terminal first.2)) in
    let one : attributes_at (ts1 ++ (ts2 ++ us2)) ≡ Ok (gs, ts2 ++ us2) = attributes_complete (ts2 ++ us2) a no_attribute in
    let follows : After false d us2 = head_after d (label_head us3 c (attributes_head us4 e (value_head mark m f g))) in
    let two : declarator_at types false n (ts2 ++ us2) ≡ Ok (d, us2) = p.complete ts2 d us2 b follows in
    let three : group_at (same_role R.Assembler) (ts3 ++ us3) ≡ Ok (l, us3) = label_complete us3 c (attributes_role us4 e (value_role (same_role R.Assembler) mark rest refl m f g)) in
    let four : attributes_at (ts4 ++ us4) ≡ Ok (hs, us4) = attributes_complete us4 e (value_role (same_role R.Attribute) mark rest refl m f g) in
    let five : value_at mark (ts5 ++ rest) ≡ Ok (v, rest) = value_complete mark rest m f g in
    rw (parts, tree, append_assoc ts1 (ts2 ++ (ts3 ++ (ts4 ++ ts5))) rest, append_assoc ts2 (ts3 ++ (ts4 ++ ts5)) rest, append_assoc ts3 (ts4 ++ ts5) rest, append_assoc ts4 ts5 rest, one, two, three, four, five) refl

-- the first token of it: a keyword, or what begins a declarator
pub record FirstDeclared (ts : List Lexeme) : Type 0 where
  pub head : Lexeme
  pub tail : List Lexeme
  pub is : (has_role head.terminal || begins_declarator head.terminal) ≡ true
  pub parts : ts ≡ head ∷ tail

declared_first : {types : Types} {n : ℕ} {mark : Terminal} {ts : List Lexeme} {x : DeclaredTree} → IsDeclared types n mark ts x → FirstDeclared ts
declared_first {types = types} {n = n} (is_declared {ts1 = ts1} ts2 {ts3 = ts3} {ts4 = ts4} {ts5 = ts5} (no_more h1 e1) b c e f parts tree) =
    let first = named_first refl ((declarator_exact types false n).first b) in
    record {
      head = first.0;
      tail = first.1 ++ (ts3 ++ (ts4 ++ ts5));
      is = or_right (has_role first.0.terminal) (begins_declarator first.0.terminal) first.2;
      parts = parts ∙ ap (λ z. z ++ (ts2 ++ (ts3 ++ (ts4 ++ ts5)))) h1 ∙ ap (λ z. z ++ (ts3 ++ (ts4 ++ ts5))) first.3;
    }
declared_first (is_declared ts2 {ts3 = ts3} {ts4 = ts4} {ts5 = ts5} (one_more {ts2 = us2} (is_group {t = t} {ts1 = us1} k m h1 tree1) ms h2 e1) b c e f parts tree) =
    record {
      head = t;
      tail = (us1 ++ us2) ++ (ts2 ++ (ts3 ++ (ts4 ++ ts5)));
      is = rw (attribute_has_role t k) refl;
      parts = parts ∙ ap (λ z. z ++ (ts2 ++ (ts3 ++ (ts4 ++ ts5)))) (h2 ∙ ap (λ z. z ++ us2) h1);
    }

-- such a terminal isn't its first
first_is_not : (k : Terminal) {ts : List Lexeme} → (has_role k || begins_declarator k) ≡ false → (f : FirstDeclared ts) → same f.head.terminal k ≡ false
first_is_not k n f = by (same f.head.terminal k) refl
  where
    by : (b : Bool) → same f.head.terminal k ≡ b → b ≡ false
    by true e = absurd (let z : true ≡ false = sym f.is ∙ ap (λ x. has_role x || begins_declarator x) (same_is f.head.terminal k e) ∙ n in cc)
    by false e = refl

not_over : {ts : List Lexeme} (rest : List Lexeme) → FirstDeclared ts → is_over (ts ++ rest) ≡ false
not_over rest f = rw f.parts (first_is_not T.Semicolon refl f)

-- such a terminal isn't at its front
not_declared : (k : Terminal) {ts : List Lexeme} (rest : List Lexeme) → (has_role k || begins_declarator k) ≡ false → FirstDeclared ts → front k (ts ++ rest) ≡ None
not_declared k rest n f = rw (f.parts, first_is_not k n f) refl

-- ---- members

member_sound : (types : Types) (n : ℕ) (ts : List Lexeme) (x : DeclaredTree) (rest : List Lexeme) → member_at types n ts ≡ Ok (x, rest) → Reads (IsMember types n) ts x rest
unfolding member_at
member_sound types n ts x rest h =
    elim (either (front T.Colon ts) _ _ (Ok (x, rest)) h) [
      | inl w ↦
          let k = front_is T.Colon ts w.0 w.1 in
          let y = part_bind part_exact w.0.1 _ (x, rest) w.2 in
          let tree : DeclaredTree = record { before = []; declarator = no_name; label = None; after = []; value = Some y.0.0 } in
          let q = both_are tree x y.0.1 rest y.2 in
          record {
            front = w.0.0 ∷ y.0.0;
            is = is_width k.0 (part_is y.1.is) refl (sym q.0);
            parts = k.1 ∙ ap (λ z. w.0.0 ∷ z) (y.1.parts ∙ ap (λ z. z ++ y.0.1) (part_same y.1.is) ∙ ap (λ z. y.0.0 ++ z) q.1);
          }
      | inr w ↦ let r = declared_sound types n T.Colon ts x rest w.1 in record { front = r.front; is = is_member r.is; parts = r.parts }
    ]

member_complete : (types : Types) (n : ℕ) {ts : List Lexeme} {x : DeclaredTree} (rest : List Lexeme) → IsMember types n ts x → Ended rest → member_at types n (ts ++ rest) ≡ Ok (x, rest)
unfolding member_at
member_complete types n rest (is_member m) f = let none = not_declared T.Colon rest refl (declared_first m) in rw none (declared_complete types n T.Colon rest colon_mark m f)
member_complete types n rest (is_width {t = t} {ts1 = ts1} k p parts e) f =
    let one : part_at (ts1 ++ rest) ≡ Ok (ts1, rest) = part_exact.complete ts1 ts1 rest (is_part_of p refl) f in
    rw (parts, e, front_here T.Colon t (ts1 ++ rest) k, one) refl

-- ---- what is declared, one after the other

pub record ExactItem (G : Gram DeclaredTree) (r : Reader DeclaredTree) : Type 0 where
  pub sound : (ts : List Lexeme) (x : DeclaredTree) (rest : List Lexeme) → r ts ≡ Ok (x, rest) → Reads G ts x rest
  pub complete : (front : List Lexeme) (x : DeclaredTree) (rest : List Lexeme) → G front x → Ended rest → r (front ++ rest) ≡ Ok (x, rest)
  pub not_over : (ts : List Lexeme) (x : DeclaredTree) → G ts x → (rest : List Lexeme) → is_over (ts ++ rest) ≡ false
  pub no_brace : (ts : List Lexeme) (x : DeclaredTree) → G ts x → (rest : List Lexeme) → front T.OpenBrace (ts ++ rest) ≡ None

pub declared_exact : (types : Types) (n : ℕ) → ExactItem (IsDeclared types n T.Equal) (declared_at types n T.Equal)
declared_exact types n = record {
  sound = declared_sound types n T.Equal;
  complete = λ us x rest m f. declared_complete types n T.Equal rest equal_mark m f;
  not_over = λ ts x m rest. not_over rest (declared_first m);
  no_brace = λ ts x m rest. not_declared T.OpenBrace rest refl (declared_first m);
}

member_not_over : (types : Types) (n : ℕ) (ts : List Lexeme) (x : DeclaredTree) → IsMember types n ts x → (rest : List Lexeme) → is_over (ts ++ rest) ≡ false
member_not_over types n ts x (is_member m) rest = not_over rest (declared_first m)
member_not_over types n ts x (is_width k p parts e) rest = rw (parts, k) refl

member_no_brace : (types : Types) (n : ℕ) (ts : List Lexeme) (x : DeclaredTree) → IsMember types n ts x → (rest : List Lexeme) → front T.OpenBrace (ts ++ rest) ≡ None
member_no_brace types n ts x (is_member m) rest = not_declared T.OpenBrace rest refl (declared_first m)
member_no_brace types n ts x (is_width k p parts e) rest = rw (parts, k) refl

pub member_exact : (types : Types) (n : ℕ) → ExactItem (IsMember types n) (member_at types n)
member_exact types n = record { sound = member_sound types n; complete = λ us x rest m f. member_complete types n rest m f; not_over = member_not_over types n; no_brace = member_no_brace types n }

-- ---- what follows all that is declared

over_is : {rest : List Lexeme} → Over rest → is_over rest ≡ true
over_is (at_end e) = rw e refl
over_is (at_semicolon kc e) = rw (e, kc) refl

over_front : (k : Terminal) {rest : List Lexeme} → same T.Semicolon k ≡ false → Over rest → front k rest ≡ None
over_front k n (at_end e) = rw e refl
over_front k n (at_semicolon kc e) = rw (e, kc, n) refl

module _ {G : Gram DeclaredTree} {r : Reader DeclaredTree} (p : ExactItem G r) where
  more_sound : (n : ℕ) (ts : List Lexeme) (xs : List DeclaredTree) (rest : List Lexeme) → more_declared n r ts ≡ Ok (xs, rest) → Reads (MoreItems G) ts xs rest
  unfolding more_declared
  more_sound zero ts xs rest h = let q = both_are [] xs ts rest h in record { front = []; is = no_item refl (sym q.0); parts = q.1 }
  more_sound (suc n) ts xs rest h =
      elim (either (front T.Comma ts) _ _ (Ok (xs, rest)) h) [
        | inl w ↦
            let k = front_is T.Comma ts w.0 w.1 in
            let b = bind_ok (r w.0.1) _ (xs, rest) w.2 in
            let c = bind_ok (more_declared n r b.0.1) _ (xs, rest) b.2 in
            let q = both_are (b.0.0 ∷ c.0.0) xs c.0.1 rest c.2 in
            let one = p.sound w.0.1 b.0.0 b.0.1 b.1 in
            let more = more_sound n b.0.1 c.0.0 c.0.1 c.1 in
            record {
              front = w.0.0 ∷ one.front ++ more.front;
              is = an_item k.0 one.is more.is refl (sym q.0);
              parts = k.1 ∙ ap (λ z. w.0.0 ∷ z) (one.parts ∙ ap (λ z. one.front ++ z) (more.parts ∙ ap (λ z. more.front ++ z) q.1) ∙ sym (append_assoc one.front more.front rest));
            }
        | inr w ↦ let q = both_are [] xs ts rest w.1 in record { front = []; is = no_item refl (sym q.0); parts = q.1 }
      ]

  -- a comma stands before each
  more_ended : {ts : List Lexeme} {xs : List DeclaredTree} {rest : List Lexeme} → MoreItems G ts xs → Over rest → Ended (ts ++ rest)
  more_ended (no_item h e) f = rw h (at_over f)
  more_ended {rest = rest} (an_item k m ms parts e) f = at_comma k (ap (λ z. z ++ rest) parts)

  more_complete : (n : ℕ) {ts : List Lexeme} {xs : List DeclaredTree} (rest : List Lexeme) → MoreItems G ts xs → Over rest → length ts ≤ n → more_declared n r (ts ++ rest) ≡ Ok (xs, rest)
  unfolding more_declared
  more_complete zero rest (no_item h e) f le = rw (h, e) refl
  more_complete (suc n) rest (no_item h e) f le = rw (h, e, over_front T.Comma refl f) refl
  more_complete zero rest (an_item k m ms parts e) f le = absurd (omega (arith, ap length parts))
  more_complete (suc n) rest (an_item {t = t} {ts1 = ts1} {ts2 = ts2} {e = x} {es1 = xs1} k m ms parts e) f le =
      let one : r (ts1 ++ (ts2 ++ rest)) ≡ Ok (x, ts2 ++ rest) = p.complete ts1 x (ts2 ++ rest) m (more_ended ms f) in
      let fits : length ts2 ≤ n = omega (arith, ap length parts, length-append ts1 ts2) in
      let more : more_declared n r (ts2 ++ rest) ≡ Ok (xs1, rest) = more_complete n rest ms f fits in
      rw (parts, e, append_assoc ts1 ts2 rest, front_here T.Comma t (ts1 ++ (ts2 ++ rest)) k, one, more) refl

  listed_sound : (ts : List Lexeme) (xs : List DeclaredTree) (rest : List Lexeme) → listed_at r ts ≡ Ok (xs, rest) → Reads (Listed G) ts xs rest
  listed_sound ts xs rest h = by (is_over ts) h
    where
      by : (b : Bool) → (if b then Ok ([], ts) else (r ts >>= λ x. more_declared (length x.1) r x.1 >>= λ y. done (x.0 ∷ y.0) y.1)) ≡ Ok (xs, rest) → Reads (Listed G) ts xs rest
      by true g = let q = both_are [] xs ts rest g in record { front = []; is = none_listed refl (sym q.0); parts = q.1 }
      by false g =
          let b = bind_ok (r ts) _ (xs, rest) g in
          let c = bind_ok (more_declared (length b.0.1) r b.0.1) _ (xs, rest) b.2 in
          let q = both_are (b.0.0 ∷ c.0.0) xs c.0.1 rest c.2 in
          let one = p.sound ts b.0.0 b.0.1 b.1 in
          let more = more_sound (length b.0.1) b.0.1 c.0.0 c.0.1 c.1 in
          record {
            front = one.front ++ more.front;
            is = some_listed one.is more.is refl (sym q.0);
            parts = one.parts ∙ ap (λ z. one.front ++ z) (more.parts ∙ ap (λ z. more.front ++ z) q.1) ∙ sym (append_assoc one.front more.front rest);
          }

  listed_complete : {ts : List Lexeme} {xs : List DeclaredTree} (rest : List Lexeme) → Listed G ts xs → Over rest → listed_at r (ts ++ rest) ≡ Ok (xs, rest)
  listed_complete rest (none_listed h e) f = rw (h, e, over_is f) refl
  listed_complete rest (some_listed {ts1 = ts1} {ts2 = ts2} {x = x} {xs1 = xs1} m ms parts e) f =
      let one : r (ts1 ++ (ts2 ++ rest)) ≡ Ok (x, ts2 ++ rest) = p.complete ts1 x (ts2 ++ rest) m (more_ended ms f) in
      let some : is_over (ts1 ++ (ts2 ++ rest)) ≡ false = p.not_over ts1 x m (ts2 ++ rest) in
      let fits : length ts2 ≤ length (ts2 ++ rest) = omega (arith, length-append ts2 rest) in
      let more : more_declared (length (ts2 ++ rest)) r (ts2 ++ rest) ≡ Ok (xs1, rest) = more_complete (length (ts2 ++ rest)) rest ms f fits in
      rw (parts, e, append_assoc ts1 ts2 rest, some, one, more) refl

  listed_no_brace : {ts : List Lexeme} {xs : List DeclaredTree} (rest : List Lexeme) → Listed G ts xs → Over rest → front T.OpenBrace (ts ++ rest) ≡ None
  listed_no_brace rest (none_listed h e) f = rw h (over_front T.OpenBrace refl f)
  listed_no_brace rest (some_listed {ts1 = ts1} {ts2 = ts2} {x = x} m ms parts e) f = rw (parts, append_assoc ts1 ts2 rest) (p.no_brace ts1 x m (ts2 ++ rest))

-- ---- declarations

-- what begins a specifier is no assertion
no_assertion : (types : Types) (t : Lexeme) (ts : List Lexeme) → begins_specifier types false t ≡ true → role_front (same_role R.Assertion) (t ∷ ts) ≡ None
no_assertion types t ts h = by (same_role R.Assertion (role t)) refl
  where
    word : (b : Bool) → has_role t.terminal ≡ b → is_identifier t.terminal ≡ true → role t ≡ R.Assertion → ⊥
    word true e i a = absurd (let z : true ≡ false = sym e ∙ identifier_plain t.terminal i in cc)
    word false e i a = absurd (let z : R.Other ≡ R.Assertion = sym (plain_role t e) ∙ a in cc)

    name : (b : Bool) → is_identifier t.terminal ≡ b → role t ≡ R.Assertion → (begins_keyword R.Assertion || (not false && (b && types t.text))) ≡ true → ⊥
    name true i a g = word (has_role t.terminal) refl i a
    name false i a g = absurd cc

    by : (b : Bool) → same_role R.Assertion (role t) ≡ b → role_front (same_role R.Assertion) (t ∷ ts) ≡ None
    by true e =
        let a : role t ≡ R.Assertion = sym (role_same R.Assertion (role t) e) in
        absurd (name (is_identifier t.terminal) refl a (sym (ap (λ z. begins_keyword z || (not false && (is_identifier t.terminal && types t.text))) a) ∙ h))
    by false e = rw e refl

pub specifiers_first : {types : Types} {ts : List Lexeme} {s : SpecifierTree} {ss xs : List SpecifierTree} → Specifiers types false ts xs → xs ≡ s ∷ ss → Begins types false ts
specifiers_first (no_specifier h g) e = absurd (let z = sym g ∙ e in cc)
specifiers_first {types = types} (one_specifier {ts2 = ts2} m ms parts g) e =
    let b = specifier_first types false m in
    record { head = b.head; tail = b.tail ++ ts2; begins = b.begins; parts = parts ∙ ap (λ z. z ++ ts2) b.parts }

-- what begins nothing in front of these tokens and others begins nothing in front of these alone
pub begins_less : (is : Lexeme → Bool) (ts rest : List Lexeme) → begins_with is (ts ++ rest) ≡ false → begins_with is ts ≡ false
begins_less is [] rest h = refl
begins_less is (t ∷ ts) rest h = h

pub front_less : (k : Terminal) (ts rest : List Lexeme) → front k (ts ++ rest) ≡ None → front k ts ≡ None
front_less k [] rest h = refl
front_less k (t ∷ ts) rest h = by (same t.terminal k) h
  where
    all : Lexeme × List Lexeme
    all = (t, ts ++ rest)

    some : Lexeme × List Lexeme
    some = (t, ts)

    by : (b : Bool) → (if b then Some all else None) ≡ None → (if b then Some some else None) ≡ None
    by true g = absurd cc
    by false g = refl

-- nor does a specifier where a part has ended
pub ended_begins : (types : Types) (said : Bool) (ts : List Lexeme) {rest : List Lexeme} → begins_with (begins_specifier types said) ts ≡ false → Ended rest → begins_with (begins_specifier types said) (ts ++ rest) ≡ false
ended_begins types said [] h (at_over (at_end e)) = rw e refl
ended_begins types said [] h (at_over (at_semicolon {c = c} kc e)) = rw e (begins_nothing types said c (ap has_role kc) (ap is_identifier kc))
ended_begins types said [] h (at_comma {c = c} kc e) = rw e (begins_nothing types said c (ap has_role kc) (ap is_identifier kc))
ended_begins types said (t ∷ ts) h f = h

-- and no other terminal stands there
pub ended_front : (k : Terminal) (ts : List Lexeme) {rest : List Lexeme} → same T.Semicolon k ≡ false → same T.Comma k ≡ false → front k ts ≡ None → Ended rest → front k (ts ++ rest) ≡ None
ended_front k [] n c h (at_over f) = over_front k n f
ended_front k [] n c h (at_comma kc e) = rw (e, kc, c) refl
ended_front k (t ∷ ts) {rest = rest} n c h f = by (same t.terminal k) h
  where
    all : Lexeme × List Lexeme
    all = (t, ts ++ rest)

    some : Lexeme × List Lexeme
    some = (t, ts)

    by : (b : Bool) → (if b then Some some else None) ≡ None → (if b then Some all else None) ≡ None
    by true g = absurd cc
    by false g = refl

-- what a declaration begins with: a keyword or a name
abbrev pub is_word : Terminal → Bool
is_word k = has_role k || is_identifier k

pub word_is_not : (k : Terminal) (t : Lexeme) → is_word k ≡ false → is_word t.terminal ≡ true → same t.terminal k ≡ false
word_is_not k t n h = by (same t.terminal k) refl
  where
    by : (b : Bool) → same t.terminal k ≡ b → b ≡ false
    by true e = absurd (let z : true ≡ false = sym h ∙ ap is_word (same_is t.terminal k e) ∙ n in cc)
    by false e = refl

keyword_word : (r : Role) (t : Lexeme) → same_role r R.Other ≡ false → same_role r (role t) ≡ true → is_word t.terminal ≡ true
keyword_word r t n h = by (has_role t.terminal) refl
  where
    by : (b : Bool) → has_role t.terminal ≡ b → (b || is_identifier t.terminal) ≡ true
    by true e = refl
    by false e = absurd (let z : true ≡ false = sym h ∙ ap (same_role r) (plain_role t e) ∙ n in cc)

specifier_word : (types : Types) (t : Lexeme) → begins_specifier types false t ≡ true → is_word t.terminal ≡ true
specifier_word types t h = by (has_role t.terminal) (is_identifier t.terminal) refl refl
  where
    by : (a b : Bool) → has_role t.terminal ≡ a → is_identifier t.terminal ≡ b → (a || b) ≡ true
    by true b e f = refl
    by false true e f = refl
    by false false e f = absurd (let z : false ≡ true = sym (begins_nothing types false t e f) ∙ h in cc)

module _ (types : Types) {G : Gram DeclaredTree} {r : Reader DeclaredTree} (p : ExactItem G r) where
  specified_sound : (ts us : List Lexeme) (ss : List SpecifierTree) (d : DeclarationTree) (rest : List Lexeme) → ReadSpecifiers types false ts ss us →
      (some_specifiers ss us >>= λ x. listed_at r x.1 >>= λ y. done (declaration x.0 y.0) y.1) ≡ Ok (d, rest) → Reads (DeclarationOf types G) ts d rest
  specified_sound ts us [] d rest m h = absurd cc
  specified_sound ts us (s ∷ ss) d rest m h =
      let b = bind_ok (listed_at r us) (λ y. done (declaration (s ∷ ss) y.0) y.1) (d, rest) h in
      let q = both_are (declaration (s ∷ ss) b.0.0) d b.0.1 rest b.2 in
      let l = listed_sound p us b.0.0 b.0.1 b.1 in
      let none = begins_less (begins_specifier types (any_says false (s ∷ ss))) l.front b.0.1 (ap (begins_with (begins_specifier types (any_says false (s ∷ ss)))) (sym l.parts) ∙ m.none_begins) in
      record {
        front = m.reads.front ++ l.front;
        is = is_declaration m.reads.is (record { none_begins = none; no_group = λ e. front_less T.OpenParenthesis l.front b.0.1 (ap (front T.OpenParenthesis) (sym l.parts) ∙ m.no_group e) }) l.is refl (sym q.0);
        parts = m.reads.parts ∙ ap (λ z. m.reads.front ++ z) (l.parts ∙ ap (λ z. l.front ++ z) q.1) ∙ sym (append_assoc m.reads.front l.front rest);
      }

  declaration_sound : (ts : List Lexeme) (d : DeclarationTree) (rest : List Lexeme) → declaration_by types r ts ≡ Ok (d, rest) → Reads (DeclarationOf types G) ts d rest
  unfolding declaration_by
  declaration_sound ts d rest h =
      let b = bind_ok (group_at (same_role R.Assertion) ts) _ (d, rest) h in
      by b.0.0 b.0.1 (group_sound (same_role R.Assertion) ts b.0.0 b.0.1 b.1) b.2
    where
      by : (o : Option GroupTree) (us : List Lexeme) → ReadOne (IsGroup (same_role R.Assertion)) ts o us →
          or_else o (λ a. done (assertion a) us) (specifiers_at types (length ts) false ts >>= λ x. some_specifiers x.0 x.1 >>= λ y. listed_at r y.1 >>= λ z. done (declaration y.0 z.0) z.1) ≡ Ok (d, rest) → Reads (DeclarationOf types G) ts d rest
      by (Some a) us m g =
          let q = both_are (assertion a) d us rest g in
          record { front = m.front; is = is_assertion_of m.is (sym q.0); parts = m.parts ∙ ap (λ z. m.front ++ z) q.1 }
      by None us m g =
          let c = bind_ok (specifiers_at types (length ts) false ts) _ (d, rest) g in
          specified_sound ts c.0.1 c.0.0 d rest (specifiers_sound types (length ts) false ts c.0.0 c.0.1 (omega arith) c.1) c.2

  declaration_complete : (ts : List Lexeme) (d : DeclarationTree) (rest : List Lexeme) → DeclarationOf types G ts d → Over rest → declaration_by types r (ts ++ rest) ≡ Ok (d, rest)
  unfolding declaration_by
  declaration_complete ts d rest (is_assertion_of {g = g} m e) f =
      let one : group_at (same_role R.Assertion) (ts ++ rest) ≡ Ok (Some g, rest) = group_complete (same_role R.Assertion) rest m in
      rw (e, one) refl
  declaration_complete ts d rest (is_declaration {ts1 = ts1} {ts2 = ts2} {s = s} {ss = ss} {xs = xs} m g l parts e) f =
      let b = specifiers_first m refl in
      let whole : ts ++ rest ≡ ts1 ++ (ts2 ++ rest) = ap (λ z. z ++ rest) parts ∙ append_assoc ts1 ts2 rest in
      let none : role_front (same_role R.Assertion) (ts ++ rest) ≡ None = rw (whole, b.parts) (no_assertion types b.head (b.tail ++ (ts2 ++ rest)) b.begins) in
      let one : group_at (same_role R.Assertion) (ts ++ rest) ≡ Ok (None, ts ++ rest) = group_none (same_role R.Assertion) (ts ++ rest) none in
      let fits : length ts1 ≤ length (ts ++ rest) = omega (arith, ap length whole, length-append ts1 (ts2 ++ rest)) in
      let begins_none = ended_begins types (any_says false (s ∷ ss)) ts2 g.none_begins (at_over f) in
      let two : specifiers_at types (length (ts ++ rest)) false (ts ++ rest) ≡ Ok (s ∷ ss, ts2 ++ rest) =
      ap (specifiers_at types (length (ts ++ rest)) false) whole
      ∙ specifiers_complete types (length (ts ++ rest)) false (ts2 ++ rest) m begins_none (λ a. ended_front T.OpenParenthesis ts2 refl refl (g.no_group a) (at_over f)) (listed_no_brace p rest l f) fits in
      let three : listed_at r (ts2 ++ rest) ≡ Ok (xs, rest) = listed_complete p rest l f in
      rw (e, one, two, three) refl

  -- the first token of a declaration
  pub declaration_first : {ts : List Lexeme} {d : DeclarationTree} → DeclarationOf types G ts d → (t : Lexeme) × (us : List Lexeme) × (is_word t.terminal ≡ true) × (ts ≡ t ∷ us)
  declaration_first (is_declaration {ts2 = ts2} m f l parts e) =
      let b = specifiers_first m refl in
      (b.head, b.tail ++ ts2, specifier_word types b.head b.begins, parts ∙ ap (λ z. z ++ ts2) b.parts)
  declaration_first (is_assertion_of (is_group {t = t} {ts1 = ts1} k b parts g) e) = (t, ts1, keyword_word R.Assertion t refl k, parts)

  -- declarations are read exactly, up to a semicolon
  pub declaration_exact : Exact (DeclarationOf types G) (declaration_by types r) Over
  declaration_exact = record { sound = declaration_sound; complete = declaration_complete }
