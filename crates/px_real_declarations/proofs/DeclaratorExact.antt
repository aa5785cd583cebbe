-- The readers of declarators read exactly what the grammar says.
use Rattle.std.proofs.Common.{◌≡◌, ℕ, zero, suc, ◌<◌, ◌≤◌, Bool, true, false, ◌&&◌, ◌||◌, if◌then◌else◌, List, [], ◌∷◌, ◌++◌, length, Option, Some, None, Ok, refl, ap, sym, subst, ◌∙◌, append_assoc, length-append, arith, rules, inl, inr}
use Rattle.std.proofs.lemmas.Option.{same_Some}
use Rattle.std.proofs.lemmas.Bool.{and_parts}
use denote.Enum.Bare.{same_true}
use Rattle.px_base.specs.declared.trace.Site.{Site}
use Rattle.px_expressions.specs.Reading.{or_else}
use Rattle.px_expressions.proofs.ExactTools.{chosen, either}
use Rattle.px_real_expressions.specs.declared.terminal.Terminal.{Terminal}
use Rattle.px_real_expressions.specs.declared.terminal.Terminal.TheVariants as T
use Rattle.px_real_expressions.specs.Lexemes.{Lexeme, same, front, front_if}
use Rattle.px_real_expressions.specs.Operators.{is_identifier}
use Rattle.px_real_expressions.specs.Held.{closes_something, Balanced}
use Rattle.px_real_expressions.specs.Reading.{Reader, closed_at, held_up_to}
use Rattle.px_real_expressions.specs.Grammar.{Gram, Between, between, IsHeld, is_held}
use Rattle.px_real_expressions.proofs.Tools.{done, both_are, bind_ok, same_is, same_self, front_is, front_here, front_bind, if_is, Reads}
use Rattle.px_real_expressions.proofs.HeldExact.{held_exact}
use Rattle.px_real_expressions.proofs.OperandExact.{closed_sound, closed_complete, held_closes}
use Rattle.px_real_statements.proofs.Balance.{balanced_first}
use Rattle.px_real_statements.proofs.LabelExact.{front_other}
use Rattle.px_real_declarations.specs.contracts.role.Role.{the_type}
use Rattle.px_real_declarations.specs.declared.role.Role.{Role}
use Rattle.px_real_declarations.specs.declared.role.Role.TheVariants as R
use Rattle.px_real_declarations.specs.Roles.{has_role, role, same_role, is_qualifier}
use Rattle.px_real_declarations.specs.DeclarationTree.{GroupTree, SpecifierTree, keyword, group, DeclaratorTree, no_name, a_name, inner, pointer, array, function}
use Rattle.px_real_declarations.specs.Grammar.{Types, IsGroup, is_group, no_more, one_more, IsQualifier, is_word, is_attribute_of, Qualifiers, begins_specifier, begins_parameters, Inner, is_inside, Core, is_name, is_inner, is_nothing, Behind, nothing_behind, an_array, a_function, DeclaratorOf, is_pointer, is_direct, IsDeclarator, ends_in_star}
use Rattle.px_real_declarations.specs.Reading.{role_front, group_behind, group_at, attributes_at, many_at, qualifier_at, inner_at, missing, opens_parameters, core_at, behind_at, direct_at, pointer_at, declarator_of, declarator_at}
use Rattle.px_real_declarations.proofs.GroupExact.{ReadOne, one_is, none_is, some_read, none_read, ExactOne, Stopped, nothing_left, none_there, many_sound, many_complete, many_stops, role_is, no_role, plain_role, group_sound, group_complete, group_none, attributes_sound, attributes_complete}

-- ---- qualifiers

pub role_same : (a b : Role) → same_role a b ≡ true → a ≡ b
role_same a b e = sym (same_true the_type (search rules) b a e)

qualifier_sound : (ts : List Lexeme) (o : Option SpecifierTree) (rest : List Lexeme) → qualifier_at ts ≡ Ok (o, rest) → ReadOne IsQualifier ts o rest
unfolding qualifier_at
qualifier_sound ts o rest h =
    elim (either (role_front is_qualifier ts) _ _ (Ok (o, rest)) h) [
      | inl w ↦
          let p = role_is is_qualifier ts w.0 w.1 in
          let q = one_is (keyword w.0.0.text w.0.0.site) w.0.1 o rest w.2 in
          some_read (keyword w.0.0.text w.0.0.site) o q.0 (record { front = w.0.0 ∷ []; is = is_word p.0 refl refl; parts = p.1 ∙ ap (λ z. w.0.0 ∷ z) q.1 })
      | inr w ↦
          let b = bind_ok (group_at (same_role R.Attribute) ts) _ (o, rest) w.1 in
          by b.0.0 b.0.1 (group_sound (same_role R.Attribute) ts b.0.0 b.0.1 b.1) b.2
    ]
  where
    by : (x : Option GroupTree) (us : List Lexeme) → ReadOne (IsGroup (same_role R.Attribute)) ts x us → or_else x (λ g. done (Some (group g)) us) (done None us) ≡ Ok (o, rest) → ReadOne IsQualifier ts o rest
    by (Some g) us r e = let q = one_is (group g) us o rest e in some_read (group g) o q.0 (record { front = r.front; is = is_attribute_of r.is refl; parts = r.parts ∙ ap (λ z. r.front ++ z) q.1 })
    by None us r e = let q = none_is us o rest e in none_read IsQualifier o q.0 (r ∙ q.1)

qualifier_complete : (ts : List Lexeme) (s : SpecifierTree) (rest : List Lexeme) → IsQualifier ts s → qualifier_at (ts ++ rest) ≡ Ok (Some s, rest)
unfolding qualifier_at
qualifier_complete ts s rest (is_word {t = t} k parts e) = rw (parts, e, k) refl
qualifier_complete ts s rest (is_attribute_of {g = g} (is_group {t = t} {ts1 = ts1} k b parts tree) e) =
    let one : group_at (same_role R.Attribute) (ts ++ rest) ≡ Ok (Some g, rest) = group_complete (same_role R.Attribute) rest (is_group k b parts tree) in
    let no_word : is_qualifier (role t) ≡ false = ap is_qualifier (sym (role_same R.Attribute (role t) k)) in
    let none : role_front is_qualifier (ts ++ rest) ≡ None = rw (parts, no_word) refl in
    rw (none, one, e) refl

qualifier_some : (ts : List Lexeme) (s : SpecifierTree) → IsQualifier ts s → 0 < length ts
qualifier_some ts s (is_word k parts e) = rw parts (omega arith)
qualifier_some ts s (is_attribute_of (is_group k b parts tree) e) = rw parts (omega arith)

pub qualifier_exact : ExactOne IsQualifier qualifier_at
qualifier_exact = record { sound = qualifier_sound; complete = qualifier_complete; some = qualifier_some }

qualifier_none : (rest : List Lexeme) → role_front is_qualifier rest ≡ None → role_front (same_role R.Attribute) rest ≡ None → qualifier_at rest ≡ Ok (None, rest)
unfolding qualifier_at
qualifier_none rest h g = let none = group_none (same_role R.Attribute) rest g in rw (h, none) refl

pub no_qualifier_end : qualifier_at [] ≡ Ok (None, [])
no_qualifier_end = qualifier_none [] refl refl

pub no_qualifier_here : (t : Lexeme) (ts : List Lexeme) → has_role t.terminal ≡ false → qualifier_at (t ∷ ts) ≡ Ok (None, t ∷ ts)
no_qualifier_here t ts h = qualifier_none (t ∷ ts) (no_role is_qualifier t ts refl h) (no_role (same_role R.Attribute) t ts refl h)

-- ---- what a declarator begins with

no_name_front : (k : Terminal) (t : Lexeme) (ts : List Lexeme) → t.terminal ≡ k → is_identifier k ≡ false → front_if is_identifier (t ∷ ts) ≡ None
no_name_front k t ts h n = rw (h, n) refl

abbrev pub begins_declarator : Terminal → Bool
begins_declarator T.Name = true
begins_declarator T.TypeName = true
begins_declarator T.Star = true
begins_declarator T.OpenParenthesis = true
begins_declarator T.OpenBracket = true
begins_declarator _ = false

pub declarator_plain : (k : Terminal) → begins_declarator k ≡ true → has_role k ≡ false
declarator_plain T.Name h = refl
declarator_plain T.TypeName h = refl
declarator_plain T.Star h = refl
declarator_plain T.OpenParenthesis h = refl
declarator_plain T.OpenBracket h = refl
declarator_plain _ h = absurd cc

identifier_begins : (k : Terminal) → is_identifier k ≡ true → begins_declarator k ≡ true
identifier_begins T.Name h = refl
identifier_begins T.TypeName h = refl
identifier_begins _ h = absurd cc

-- a declarator has a first token, unless its name may be missing and is all
pub data First (may_miss : Bool) (ts : List Lexeme) (d : DeclaratorTree) : Type 0 where
  nothing : may_miss ≡ true → ts ≡ [] → d ≡ no_name → First may_miss ts d
  begun : (t : Lexeme) (us : List Lexeme) → begins_declarator t.terminal ≡ true → ts ≡ t ∷ us → First may_miss ts d

between_first : {opening ending : Terminal} {ts a : List Lexeme} {o : Lexeme} → Between opening ending IsHeld ts o a → (us : List Lexeme) × (o.terminal ≡ opening) × (ts ≡ o ∷ us)
between_first (between {o = o} c {ts1 = ts1} ko kc m parts) = (ts1 ++ c ∷ [], ko, parts)

behind_first : {types : Types} {left : DeclaratorTree} {ts : List Lexeme} {d : DeclaratorTree} (may_miss : Bool) → Behind types left ts d → may_miss ≡ true → left ≡ no_name → First may_miss ts d
behind_first may_miss (nothing_behind h e) mm l = nothing mm h (e ∙ l)
behind_first may_miss (an_array {o = o} {ts2 = ts2} b m parts) mm l =
    let f = between_first b in begun o (f.0 ++ ts2) (ap begins_declarator f.1) (parts ∙ ap (λ z. z ++ ts2) f.2)
behind_first may_miss (a_function {o = o} {ts2 = ts2} b c m parts) mm l =
    let f = between_first b in begun o (f.0 ++ ts2) (ap begins_declarator f.1) (parts ∙ ap (λ z. z ++ ts2) f.2)

first_here : {may_miss : Bool} {ts us : List Lexeme} {d : DeclaratorTree} → ts ≡ us → First may_miss us d → First may_miss ts d
first_here e (nothing mm h n) = nothing mm (e ∙ h) n
first_here e (begun t vs b h) = begun t vs b (e ∙ h)

pub declarator_first : {types : Types} {may_miss : Bool} {inside : Gram DeclaratorTree} {ts : List Lexeme} {d : DeclaratorTree} → DeclaratorOf types may_miss inside ts d → First may_miss ts d
declarator_first (is_pointer {t = t} {ts1 = ts1} {ts2 = ts2} k q i parts e) = begun t (ts1 ++ ts2) (ap begins_declarator k) parts
declarator_first (is_direct {ts2 = ts2} (is_name {t = t} k h e) b parts) = begun t ts2 (identifier_begins t.terminal k) (parts ∙ ap (λ z. z ++ ts2) h)
declarator_first (is_direct {ts2 = ts2} (is_inner {o = o} c {ts1 = us} ko f i kc h e) b parts) = begun o ((us ++ c ∷ []) ++ ts2) (ap begins_declarator ko) (parts ∙ ap (λ z. z ++ ts2) h)
declarator_first {may_miss = may_miss} (is_direct {ts2 = ts2} (is_nothing mm h e) b parts) = first_here (parts ∙ ap (λ z. z ++ ts2) h) (behind_first may_miss b mm e)

-- ---- what follows a declarator

pub record After (may_miss : Bool) (d : DeclaratorTree) (rest : List Lexeme) : Type 0 where
  pub no_identifier : may_miss ≡ true → front_if is_identifier rest ≡ None
  pub no_star : may_miss ≡ true → front T.Star rest ≡ None
  pub no_bracket : front T.OpenBracket rest ≡ None
  pub no_parenthesis : front T.OpenParenthesis rest ≡ None
  pub no_qualifier : may_miss ≡ true → ends_in_star d ≡ true → qualifier_at rest ≡ Ok (None, rest)

-- a token with which nothing of a declarator begins
pub after_first : (may_miss : Bool) (d : DeclaratorTree) (c : Lexeme) (rest : List Lexeme) → begins_declarator c.terminal ≡ false → (may_miss ≡ true → ends_in_star d ≡ true → qualifier_at (c ∷ rest) ≡ Ok (None, c ∷ rest)) →
    After may_miss d (c ∷ rest)
after_first may_miss d c rest b f = record {
  no_identifier = λ mm. other (is_identifier c.terminal) refl;
  no_star = λ mm. not_front T.Star refl (same c.terminal T.Star) refl;
  no_bracket = not_front T.OpenBracket refl (same c.terminal T.OpenBracket) refl;
  no_parenthesis = not_front T.OpenParenthesis refl (same c.terminal T.OpenParenthesis) refl;
  no_qualifier = f;
}
  where
    other : (x : Bool) → is_identifier c.terminal ≡ x → front_if is_identifier (c ∷ rest) ≡ None
    other true e = absurd (let z : true ≡ false = sym (identifier_begins c.terminal e) ∙ b in cc)
    other false e = rw e refl

    not_front : (j : Terminal) → begins_declarator j ≡ true → (x : Bool) → same c.terminal j ≡ x → front j (c ∷ rest) ≡ None
    not_front j bj true e = absurd (let z : true ≡ false = sym bj ∙ sym (ap begins_declarator (same_is c.terminal j e)) ∙ b in cc)
    not_front j bj false e = rw e refl

-- a terminal that has no role either
pub after_token : (may_miss : Bool) (d : DeclaratorTree) (k : Terminal) (c : Lexeme) (rest : List Lexeme) → c.terminal ≡ k → begins_declarator k ≡ false → has_role k ≡ false → After may_miss d (c ∷ rest)
after_token may_miss d k c rest kc b h = after_first may_miss d c rest (ap begins_declarator kc ∙ b) (λ mm e. no_qualifier_here c rest (ap has_role kc ∙ h))

pub after_nothing : (may_miss : Bool) (d : DeclaratorTree) → After may_miss d []
after_nothing may_miss d = record { no_identifier = λ mm. refl; no_star = λ mm. refl; no_bracket = refl; no_parenthesis = refl; no_qualifier = λ mm e. no_qualifier_end }

-- ---- lists of parameters

no_closing : (t : Lexeme) → closes_something t.terminal ≡ false → same t.terminal T.CloseParenthesis ≡ false
no_closing t h = by (same t.terminal T.CloseParenthesis) refl
  where
    by : (b : Bool) → same t.terminal T.CloseParenthesis ≡ b → b ≡ false
    by true e = absurd (let z : true ≡ false = sym (ap closes_something (same_is t.terminal T.CloseParenthesis e)) ∙ h in cc)
    by false e = refl

-- what opens parameters holds them
opened_parameters : (types : Types) {ts a : List Lexeme} {o : Lexeme} (us vs : List Lexeme) → Between T.OpenParenthesis T.CloseParenthesis IsHeld ts o a → o ∷ us ≡ ts ++ vs → opens_parameters types us ≡ true → begins_parameters types a ≡ true
opened_parameters types us vs (between {o = o} c {ts1 = ts1} ko kc (is_held m e) parts) all h =
    rw e (by ts1 m (let z : o ∷ us ≡ o ∷ (ts1 ++ c ∷ []) ++ vs = all ∙ ap (λ y. y ++ vs) parts in cc))
  where
    by : (ws : List Lexeme) → Balanced ws → us ≡ (ws ++ c ∷ []) ++ vs → begins_parameters types ws ≡ true
    by [] n rest = refl
    by (t ∷ ws) n rest =
        let s : same t.terminal T.CloseParenthesis ≡ false = no_closing t (balanced_first n refl) in
        let opens : (same t.terminal T.CloseParenthesis || begins_specifier types false t) ≡ true = sym (ap (opens_parameters types) rest) ∙ h in
        sym (rw s refl) ∙ opens

-- and the other way round
parameters_open : (types : Types) {ts a : List Lexeme} {o : Lexeme} (vs : List Lexeme) → Between T.OpenParenthesis T.CloseParenthesis IsHeld ts o a → begins_parameters types a ≡ true →
    (us : List Lexeme) × (ts ++ vs ≡ o ∷ us) × (opens_parameters types us ≡ true)
parameters_open types vs (between {o = o} c {ts1 = ts1} ko kc (is_held m e) parts) h = ((ts1 ++ c ∷ []) ++ vs, ap (λ z. z ++ vs) parts, by ts1 (ap (begins_parameters types) (sym e) ∙ h))
  where
    either_way : (b : Bool) (x : Bool) → x ≡ true → (b || x) ≡ true
    either_way true x h = refl
    either_way false x h = h

    by : (us : List Lexeme) → begins_parameters types us ≡ true → opens_parameters types ((us ++ c ∷ []) ++ vs) ≡ true
    by [] g = let s : same c.terminal T.CloseParenthesis ≡ true = rw kc (same_self T.CloseParenthesis) in rw s refl
    by (t ∷ us) g = either_way (same t.terminal T.CloseParenthesis) (begins_specifier types false t) g

-- ---- what stands behind

module _ (types : Types) where
  behind_sound : (n : ℕ) (left : DeclaratorTree) (ts : List Lexeme) (d : DeclaratorTree) (rest : List Lexeme) →
      (left ≡ no_name → (x : Lexeme × List Lexeme) → front T.OpenParenthesis ts ≡ Some x → opens_parameters types x.1 ≡ true) → behind_at n left ts ≡ Ok (d, rest) → Reads (Behind types left) ts d rest
  unfolding behind_at
  behind_sound zero left ts d rest f h = let q = both_are left d ts rest h in record { front = []; is = nothing_behind refl (sym q.0); parts = q.1 }
  behind_sound (suc n) left ts d rest f h =
      elim (either (front T.OpenBracket ts) _ _ (Ok (d, rest)) h) [
        | inl w ↦
            let k = front_is T.OpenBracket ts w.0 w.1 in
            let b = bind_ok (closed_at T.CloseBracket (held_up_to T.CloseBracket) w.0.1) _ (d, rest) w.2 in
            let r = closed_sound (held_exact T.CloseBracket refl refl) T.OpenBracket T.CloseBracket w.0.0 w.0.1 b.0.0 b.0.1 k.0 b.1 in
            let more = behind_sound n (array w.0.0.site left b.0.0) b.0.1 d rest (λ e x g. absurd cc) b.2 in
            record { front = r.front ++ more.front; is = an_array r.is more.is refl; parts = k.1 ∙ r.parts ∙ ap (λ z. r.front ++ z) more.parts ∙ sym (append_assoc r.front more.front rest) }
        | inr v ↦
            elim (either (front T.OpenParenthesis ts) _ _ (Ok (d, rest)) v.1) [
              | inl w ↦
                  let k = front_is T.OpenParenthesis ts w.0 w.1 in
                  let b = bind_ok (closed_at T.CloseParenthesis (held_up_to T.CloseParenthesis) w.0.1) _ (d, rest) w.2 in
                  let r = closed_sound (held_exact T.CloseParenthesis refl refl) T.OpenParenthesis T.CloseParenthesis w.0.0 w.0.1 b.0.0 b.0.1 k.0 b.1 in
                  let more = behind_sound n (function w.0.0.site left b.0.0) b.0.1 d rest (λ e x g. absurd cc) b.2 in
                  record {
                    front = r.front ++ more.front;
                    is = a_function r.is (λ e. opened_parameters types w.0.1 b.0.1 r.is r.parts (f e w.0 w.1)) more.is refl;
                    parts = k.1 ∙ r.parts ∙ ap (λ z. r.front ++ z) more.parts ∙ sym (append_assoc r.front more.front rest);
                  }
              | inr w ↦ let q = both_are left d ts rest w.1 in record { front = []; is = nothing_behind refl (sym q.0); parts = q.1 }
            ]
      ]

  behind_complete : (n : ℕ) {left : DeclaratorTree} {ts : List Lexeme} {d : DeclaratorTree} (rest : List Lexeme) → Behind types left ts d → front T.OpenBracket rest ≡ None → front T.OpenParenthesis rest ≡ None → length ts ≤ n →
      behind_at n left (ts ++ rest) ≡ Ok (d, rest)
  unfolding behind_at
  behind_complete zero rest (nothing_behind h e) nb np le = rw (h, e) refl
  behind_complete (suc n) rest (nothing_behind h e) nb np le = rw (h, e, nb, np) refl
  behind_complete zero rest (an_array {ts1 = ts1} {ts2 = ts2} b m parts) nb np le =
      let f = between_first b in absurd (omega (arith, ap length parts, length-append ts1 ts2, ap length f.2))
  behind_complete zero rest (a_function {ts1 = ts1} {ts2 = ts2} b c m parts) nb np le =
      let f = between_first b in absurd (omega (arith, ap length parts, length-append ts1 ts2, ap length f.2))
  behind_complete (suc n) {left = left} {d = d} rest (an_array {ts1 = vs} {ts2 = ts2} {a = a} (between {o = o} c {ts1 = us} ko kc g e) m parts) nb np le =
      let one : closed_at T.CloseBracket (held_up_to T.CloseBracket) ((us ++ c ∷ []) ++ (ts2 ++ rest)) ≡ Ok (a, ts2 ++ rest) =
      closed_complete (held_exact T.CloseBracket refl refl) T.OpenBracket T.CloseBracket (held_closes T.CloseBracket) c us a (ts2 ++ rest) kc g in
      let fits : length ts2 ≤ n = omega (arith, ap length parts, ap length e, length-append vs ts2) in
      let more : behind_at n (array o.site left a) (ts2 ++ rest) ≡ Ok (d, rest) = behind_complete n rest m nb np fits in
      rw (parts, e, append_assoc (us ++ c ∷ []) ts2 rest, front_here T.OpenBracket o ((us ++ c ∷ []) ++ (ts2 ++ rest)) ko, one) more
  behind_complete (suc n) {left = left} {d = d} rest (a_function {ts1 = vs} {ts2 = ts2} {a = a} (between {o = o} c {ts1 = us} ko kc g e) f m parts) nb np le =
      let all : List Lexeme = (us ++ c ∷ []) ++ (ts2 ++ rest) in
      let one : closed_at T.CloseParenthesis (held_up_to T.CloseParenthesis) all ≡ Ok (a, ts2 ++ rest) =
      closed_complete (held_exact T.CloseParenthesis refl refl) T.OpenParenthesis T.CloseParenthesis (held_closes T.CloseParenthesis) c us a (ts2 ++ rest) kc g in
      let no_array : front T.OpenBracket (o ∷ all) ≡ None = front_other T.OpenParenthesis T.OpenBracket o all ko refl in
      let fits : length ts2 ≤ n = omega (arith, ap length parts, ap length e, length-append vs ts2) in
      let more : behind_at n (function o.site left a) (ts2 ++ rest) ≡ Ok (d, rest) = behind_complete n rest m nb np fits in
      rw (parts, e, append_assoc (us ++ c ∷ []) ts2 rest, no_array, front_here T.OpenParenthesis o all ko, one) more

-- ---- a declarator, where another may stand within it

pub record ExactDeclarator (may_miss : Bool) (I : Gram DeclaratorTree) (i : Reader DeclaratorTree) : Type 0 where
  pub sound : (ts : List Lexeme) (d : DeclaratorTree) (rest : List Lexeme) → i ts ≡ Ok (d, rest) → Reads I ts d rest
  pub complete : (front : List Lexeme) (d : DeclaratorTree) (rest : List Lexeme) → I front d → After may_miss d rest → i (front ++ rest) ≡ Ok (d, rest)
  pub first : {ts : List Lexeme} {d : DeclaratorTree} → I ts d → First may_miss ts d

-- what was read before what stands behind: where there is no name, a parenthesis opens parameters
record ReadCore (types : Types) (may_miss : Bool) (I : Gram DeclaratorTree) (ts : List Lexeme) (d : DeclaratorTree) (rest : List Lexeme) : Type 0 where
  pub reads : Reads (Core types may_miss I) ts d rest
  pub opens : d ≡ no_name → (x : Lexeme × List Lexeme) → front T.OpenParenthesis rest ≡ Some x → opens_parameters types x.1 ≡ true

second_is_false : (a b : Bool) → (a && b) ≡ false → a ≡ true → b ≡ false
second_is_false true b h e = h
second_is_false false b h e = absurd cc

-- no parameters are opened, and so none are held
none_begun : (types : Types) (us : List Lexeme) (c : Lexeme) (rest : List Lexeme) → c.terminal ≡ T.CloseParenthesis → opens_parameters types (us ++ c ∷ rest) ≡ false → begins_parameters types us ≡ false
none_begun types [] c rest kc h =
    let s : same c.terminal T.CloseParenthesis ≡ true = rw kc (same_self T.CloseParenthesis) in
    let opens : opens_parameters types (c ∷ rest) ≡ true = rw s refl in
    absurd (let z : true ≡ false = sym opens ∙ h in cc)
none_begun types (t ∷ us) c rest kc h = by (same t.terminal T.CloseParenthesis) (begins_specifier types false t) h
  where
    by : (a b : Bool) → (a || b) ≡ false → b ≡ false
    by true b g = absurd cc
    by false b g = g

star_further : (s : Site) (ss : List SpecifierTree) (d : DeclaratorTree) → ends_in_star d ≡ true → ends_in_star (pointer s ss d) ≡ true
star_further s ss no_name h = refl
star_further s ss (a_name w x) h = h
star_further s ss (inner x gs d) h = h
star_further s ss (pointer x qs d) h = h
star_further s ss (array x d a) h = h
star_further s ss (function x d a) h = h

role_no_closing : (t : Lexeme) → has_role t.terminal ≡ true → same t.terminal T.CloseParenthesis ≡ false
role_no_closing t h = by (same t.terminal T.CloseParenthesis) refl
  where
    by : (b : Bool) → same t.terminal T.CloseParenthesis ≡ b → b ≡ false
    by true e = absurd (let z : false ≡ true = sym (ap has_role (same_is t.terminal T.CloseParenthesis e)) ∙ h in cc)
    by false e = refl

begun_no_closing : (t : Lexeme) → begins_declarator t.terminal ≡ true → same t.terminal T.CloseParenthesis ≡ false
begun_no_closing t h = by (same t.terminal T.CloseParenthesis) refl
  where
    by : (b : Bool) → same t.terminal T.CloseParenthesis ≡ b → b ≡ false
    by true e = absurd (let z : false ≡ true = sym (ap begins_declarator (same_is t.terminal T.CloseParenthesis e)) ∙ h in cc)
    by false e = refl

pub attribute_has_role : (t : Lexeme) → same_role R.Attribute (role t) ≡ true → has_role t.terminal ≡ true
attribute_has_role t h = by (has_role t.terminal) refl
  where
    by : (b : Bool) → has_role t.terminal ≡ b → b ≡ true
    by true e = refl
    by false e = absurd (let z : false ≡ true = sym (ap (same_role R.Attribute) (plain_role t e)) ∙ h in cc)

module _ (types : Types) (may_miss : Bool) {I : Gram DeclaratorTree} {i : Reader DeclaratorTree} (p : ExactDeclarator may_miss I i) where
  inner_sound : (o : Lexeme) (ts : List Lexeme) (d : DeclaratorTree) (rest : List Lexeme) → o.terminal ≡ T.OpenParenthesis → (may_miss && opens_parameters types ts) ≡ false → inner_at i o ts ≡ Ok (d, rest) →
      ReadCore types may_miss I (o ∷ ts) d rest
  unfolding inner_at
  inner_sound o ts d rest ko f h =
      let gs = bind_ok (attributes_at ts) _ (d, rest) h in
      let b = bind_ok (i gs.0.1) _ (d, rest) gs.2 in
      let c = front_bind T.CloseParenthesis b.0.1 _ (d, rest) b.2 in
      let a = attributes_sound ts gs.0.0 gs.0.1 gs.1 in
      let one = p.sound gs.0.1 b.0.0 b.0.1 b.1 in
      let q = both_are (inner o.site gs.0.0 b.0.0) d c.0.1 rest c.3 in
      let us : List Lexeme = a.front ++ one.front in
      let whole : ts ≡ us ++ c.0.0 ∷ c.0.1 = a.parts ∙ ap (λ z. a.front ++ z) (one.parts ∙ ap (λ z. one.front ++ z) c.2) ∙ sym (append_assoc a.front one.front (c.0.0 ∷ c.0.1)) in
      record {
        reads = record {
          front = o ∷ us ++ c.0.0 ∷ [];
          is = is_inner c.0.0 ko (λ mm. none_begun types us c.0.0 c.0.1 c.1 (ap (opens_parameters types) (sym whole) ∙ second_is_false may_miss (opens_parameters types ts) f mm)) (is_inside a.is one.is refl) c.1 refl (sym q.0);
          parts = ap (λ z. o ∷ z) (whole ∙ ap (λ z. us ++ c.0.0 ∷ z) q.1 ∙ sym (append_assoc us (c.0.0 ∷ []) rest));
        };
        opens = λ e x g. absurd (let z : inner o.site gs.0.0 b.0.0 ≡ no_name = q.0 ∙ e in cc);
      }

  missing_read : (b : Bool) (ts : List Lexeme) (d : DeclaratorTree) (rest : List Lexeme) → may_miss ≡ b → front T.OpenParenthesis ts ≡ None → missing b ts ≡ Ok (d, rest) → ReadCore types may_miss I ts d rest
  missing_read true ts d rest mm n h =
      let q = both_are no_name d ts rest h in
      record {
        reads = record { front = []; is = is_nothing mm refl (sym q.0); parts = q.1 };
        opens = λ e x g. absurd (let z : Some x ≡ None = sym g ∙ ap (front T.OpenParenthesis) (sym q.1) ∙ n in cc);
      }
  missing_read false ts d rest mm n h = absurd cc

  core_sound : (ts : List Lexeme) (d : DeclaratorTree) (rest : List Lexeme) → core_at types may_miss i ts ≡ Ok (d, rest) → ReadCore types may_miss I ts d rest
  unfolding core_at
  core_sound ts d rest h =
      elim (either (front_if is_identifier ts) _ _ (Ok (d, rest)) h) [
        | inl w ↦
            let k = if_is is_identifier ts w.0 w.1 in
            let q = both_are (a_name w.0.0.text w.0.0.site) d w.0.1 rest w.2 in
            record {
              reads = record { front = w.0.0 ∷ []; is = is_name k.0 refl (sym q.0); parts = k.1 ∙ ap (λ z. w.0.0 ∷ z) q.1 };
              opens = λ e x g. absurd (let z : a_name w.0.0.text w.0.0.site ≡ no_name = q.0 ∙ e in cc);
            }
        | inr v ↦
            elim (either (front T.OpenParenthesis ts) _ _ (Ok (d, rest)) v.1) [
              | inl w ↦
                  let k = front_is T.OpenParenthesis ts w.0 w.1 in
                  elim (chosen (may_miss && opens_parameters types w.0.1) (done no_name ts) (inner_at i w.0.0 w.0.1) (Ok (d, rest)) w.2) [
                    | inl c ↦
                        let b = and_parts may_miss (opens_parameters types w.0.1) c.0 in
                        let q = both_are no_name d ts rest c.1 in
                        record {
                          reads = record { front = []; is = is_nothing b.0 refl (sym q.0); parts = q.1 };
                          opens = λ e x g.
                              let here : w.0 ≡ x = same_Some w.0 x (sym w.1 ∙ ap (front T.OpenParenthesis) q.1 ∙ g) in
                              ap (λ (z : Lexeme × List Lexeme). opens_parameters types z.1) (sym here) ∙ b.1;
                        }
                    | inr c ↦
                        let r = inner_sound w.0.0 w.0.1 d rest k.0 c.0 c.1 in
                        record { reads = record { front = r.reads.front; is = r.reads.is; parts = k.1 ∙ r.reads.parts }; opens = r.opens }
                  ]
              | inr w ↦ missing_read may_miss ts d rest refl w.0 w.1
            ]
      ]

  direct_sound : (ts : List Lexeme) (d : DeclaratorTree) (rest : List Lexeme) → direct_at types may_miss i ts ≡ Ok (d, rest) → Reads (DeclaratorOf types may_miss I) ts d rest
  unfolding direct_at
  direct_sound ts d rest h =
      let b = bind_ok (core_at types may_miss i ts) _ (d, rest) h in
      let c = core_sound ts b.0.0 b.0.1 b.1 in
      let r = behind_sound types (length b.0.1) b.0.0 b.0.1 d rest c.opens b.2 in
      record { front = c.reads.front ++ r.front; is = is_direct c.reads.is r.is refl; parts = c.reads.parts ∙ ap (λ z. c.reads.front ++ z) r.parts ∙ sym (append_assoc c.reads.front r.front rest) }

  pointer_sound : (t : Lexeme) (ts : List Lexeme) (d : DeclaratorTree) (rest : List Lexeme) → t.terminal ≡ T.Star → pointer_at i t ts ≡ Ok (d, rest) → Reads (DeclaratorOf types may_miss I) (t ∷ ts) d rest
  unfolding pointer_at
  pointer_sound t ts d rest k h =
      let a = bind_ok (many_at (length ts) qualifier_at ts) _ (d, rest) h in
      let b = bind_ok (i a.0.1) _ (d, rest) a.2 in
      let r = many_sound qualifier_exact (length ts) ts a.0.0 a.0.1 a.1 in
      let one = p.sound a.0.1 b.0.0 b.0.1 b.1 in
      let q = both_are (pointer t.site a.0.0 b.0.0) d b.0.1 rest b.2 in
      record {
        front = t ∷ r.front ++ one.front;
        is = is_pointer k r.is one.is refl (sym q.0);
        parts = ap (λ z. t ∷ z) (r.parts ∙ ap (λ z. r.front ++ z) (one.parts ∙ ap (λ z. one.front ++ z) q.1) ∙ sym (append_assoc r.front one.front rest));
      }

  of_sound : (ts : List Lexeme) (d : DeclaratorTree) (rest : List Lexeme) → declarator_of types may_miss i ts ≡ Ok (d, rest) → Reads (DeclaratorOf types may_miss I) ts d rest
  unfolding declarator_of
  of_sound ts d rest h =
      elim (either (front T.Star ts) _ _ (Ok (d, rest)) h) [
        | inl w ↦
            let k = front_is T.Star ts w.0 w.1 in
            let r = pointer_sound w.0.0 w.0.1 d rest k.0 w.2 in
            record { front = r.front; is = r.is; parts = k.1 ∙ r.parts }
        | inr w ↦ direct_sound ts d rest w.1
      ]

  -- ---- what is a declarator is read

  -- no attribute stands where a declarator begins, nor where what follows it does
  no_attribute : {ts : List Lexeme} {d : DeclaratorTree} (c : Lexeme) (rest : List Lexeme) → c.terminal ≡ T.CloseParenthesis → First may_miss ts d → role_front (same_role R.Attribute) (ts ++ c ∷ rest) ≡ None
  no_attribute c rest kc (nothing mm h n) = rw h (no_role (same_role R.Attribute) c rest refl (ap has_role kc))
  no_attribute c rest kc (begun t us b h) = rw h (no_role (same_role R.Attribute) t (us ++ c ∷ rest) refl (declarator_plain t.terminal b))

  inner_there : (o c : Lexeme) {ts : List Lexeme} {gs : List GroupTree} {d : DeclaratorTree} (rest : List Lexeme) → Inner I ts gs d → c.terminal ≡ T.CloseParenthesis → inner_at i o (ts ++ c ∷ rest) ≡ Ok (inner o.site gs d, rest)
  unfolding inner_at
  inner_there o c {gs = gs} {d = d} rest (is_inside {ts1 = ts1} {ts2 = ts2} a g parts) kc =
      let one : attributes_at (ts1 ++ (ts2 ++ c ∷ rest)) ≡ Ok (gs, ts2 ++ c ∷ rest) = attributes_complete (ts2 ++ c ∷ rest) a (no_attribute c rest kc (p.first g)) in
      let two : i (ts2 ++ c ∷ rest) ≡ Ok (d, c ∷ rest) = p.complete ts2 d (c ∷ rest) g (after_token may_miss d T.CloseParenthesis c rest kc refl refl) in
      rw (parts, append_assoc ts1 ts2 (c ∷ rest), one, two, front_here T.CloseParenthesis c rest kc) refl

  -- what stands in the parentheses of a declarator doesn't begin with the one that closes
  inner_no_closing : {us : List Lexeme} {gs : List GroupTree} {d : DeclaratorTree} (t : Lexeme) (vs : List Lexeme) → Inner I us gs d → us ≡ t ∷ vs → same t.terminal T.CloseParenthesis ≡ false
  inner_no_closing t vs (is_inside {ts2 = ts2} (no_more h e) g parts) all = by (p.first g)
    where
      same_parts : ts2 ≡ t ∷ vs
      same_parts = sym (parts ∙ ap (λ z. z ++ ts2) h) ∙ all

      by : {d1 : DeclaratorTree} → First may_miss ts2 d1 → same t.terminal T.CloseParenthesis ≡ false
      by (nothing mm n e1) = absurd (let z = sym n ∙ same_parts in cc)
      by (begun u ws b n) = let z : u ≡ t = (let y = sym n ∙ same_parts in cc) in ap (λ (x : Lexeme). same x.terminal T.CloseParenthesis) (sym z) ∙ begun_no_closing u b
  inner_no_closing t vs (is_inside {ts2 = ts2} (one_more {ts2 = us2} (is_group {t = u} {ts1 = us1} k b h1 tree) ms h e) g parts) all =
      let z : u ≡ t = (let y : u ∷ (us1 ++ us2) ++ ts2 ≡ t ∷ vs = sym (parts ∙ ap (λ x. x ++ ts2) (h ∙ ap (λ x. x ++ us2) h1)) ∙ all in cc) in
      ap (λ (x : Lexeme). same x.terminal T.CloseParenthesis) (sym z) ∙ role_no_closing u (attribute_has_role u k)

  no_parameters_open : (b : Bool) {us : List Lexeme} {gs : List GroupTree} {d : DeclaratorTree} (c : Lexeme) (rest : List Lexeme) → may_miss ≡ b → (may_miss ≡ true → begins_parameters types us ≡ false) → Inner I us gs d →
      (b && opens_parameters types (us ++ c ∷ rest)) ≡ false
  no_parameters_open false c rest mm f m = refl
  no_parameters_open true {us = us} c rest mm f m = by us (f mm) m
    where
      by : (vs : List Lexeme) {gs1 : List GroupTree} {d1 : DeclaratorTree} → begins_parameters types vs ≡ false → Inner I vs gs1 d1 → opens_parameters types (vs ++ c ∷ rest) ≡ false
      by [] g m1 = absurd cc
      by (t ∷ vs) g m1 = let s = inner_no_closing t vs m1 refl in rw (s, g) refl

  core_there : {ts us : List Lexeme} {d d1 : DeclaratorTree} (rest : List Lexeme) → Core types may_miss I ts d1 → Behind types d1 us d → After may_miss d rest → core_at types may_miss i (ts ++ (us ++ rest)) ≡ Ok (d1, us ++ rest)
  unfolding core_at
  core_there rest (is_name {t = t} k h e) m f = rw (h, e, k) refl
  core_there {us = us} rest (is_inner {o = o} c {ts1 = ts1} {gs = gs} {d1 = d2} ko g n kc h e) m f =
      let all : List Lexeme = ts1 ++ c ∷ (us ++ rest) in
      let no_word : front_if is_identifier (o ∷ all) ≡ None = no_name_front T.OpenParenthesis o all ko refl in
      let none : (may_miss && opens_parameters types all) ≡ false = no_parameters_open may_miss c (us ++ rest) refl g n in
      let one : inner_at i o all ≡ Ok (inner o.site gs d2, us ++ rest) = inner_there o c (us ++ rest) n kc in
      rw (h, e, append_assoc ts1 (c ∷ []) (us ++ rest), no_word, front_here T.OpenParenthesis o all ko, none) one
  core_there {us = us} {d1 = d1} rest (is_nothing mm h e) m f = rw (h, e) (by m)
    where
      by : {d : DeclaratorTree} → Behind types d1 us d → or_else (front_if is_identifier (us ++ rest)) (λ t. done (a_name t.0.text t.0.site) t.1)
          (or_else (front T.OpenParenthesis (us ++ rest)) (λ o. if may_miss && opens_parameters types o.1 then done no_name (us ++ rest) else inner_at i o.0 o.1) (missing may_miss (us ++ rest))) ≡ Ok (no_name, us ++ rest)
      by (nothing_behind g e1) = rw (g, f.no_identifier mm, f.no_parenthesis, mm) refl
      by (an_array {o = o} {ts2 = ts2} b m1 g) =
          let x = between_first b in
          let all : List Lexeme = (x.0 ++ ts2) ++ rest in
          let no_word : front_if is_identifier (o ∷ all) ≡ None = no_name_front T.OpenBracket o all x.1 refl in
          let no_open : front T.OpenParenthesis (o ∷ all) ≡ None = front_other T.OpenBracket T.OpenParenthesis o all x.1 refl in
          rw (g, x.2, no_word, no_open, mm) refl
      by (a_function {o = o} {ts1 = ts1} {ts2 = ts2} b c m1 g) =
          let x = between_first b in
          let y = parameters_open types (ts2 ++ rest) b (c e) in
          let here : us ++ rest ≡ o ∷ y.0 = ap (λ z. z ++ rest) g ∙ append_assoc ts1 ts2 rest ∙ y.1 in
          let no_word : front_if is_identifier (o ∷ y.0) ≡ None = no_name_front T.OpenParenthesis o y.0 x.1 refl in
          rw (here, no_word, front_here T.OpenParenthesis o y.0 x.1, mm, y.2) refl

  direct_there : {ts us : List Lexeme} {d d1 : DeclaratorTree} (rest : List Lexeme) → Core types may_miss I ts d1 → Behind types d1 us d → After may_miss d rest → direct_at types may_miss i (ts ++ (us ++ rest)) ≡ Ok (d, rest)
  unfolding direct_at
  direct_there {ts = ts} {us = us} {d = d} {d1 = d1} rest c b f =
      let one : core_at types may_miss i (ts ++ (us ++ rest)) ≡ Ok (d1, us ++ rest) = core_there rest c b f in
      let two : behind_at (length (us ++ rest)) d1 (us ++ rest) ≡ Ok (d, rest) = behind_complete types (length (us ++ rest)) rest b f.no_bracket f.no_parenthesis (omega (arith, length-append us rest)) in
      rw one two

  -- no qualifier stands behind those of a star
  no_more_qualifiers : {ts : List Lexeme} {d : DeclaratorTree} (t : Lexeme) (ss : List SpecifierTree) (rest : List Lexeme) → First may_miss ts d → After may_miss (pointer t.site ss d) rest → qualifier_at (ts ++ rest) ≡ Ok (None, ts ++ rest)
  no_more_qualifiers t ss rest (nothing mm h n) f = rw h (f.no_qualifier mm (ap (λ z. ends_in_star (pointer t.site ss z)) n))
  no_more_qualifiers t ss rest (begun u us b h) f = rw h (no_qualifier_here u (us ++ rest) (declarator_plain u.terminal b))

  pointer_there : (t : Lexeme) {ts us : List Lexeme} {ss : List SpecifierTree} {d : DeclaratorTree} (rest : List Lexeme) → Qualifiers ts ss → I us d → After may_miss (pointer t.site ss d) rest →
      pointer_at i t (ts ++ (us ++ rest)) ≡ Ok (pointer t.site ss d, rest)
  unfolding pointer_at
  pointer_there t {ts = ts} {us = us} {ss = ss} {d = d} rest q g f =
      let inside_follows : After may_miss d rest = record {
        no_identifier = f.no_identifier;
        no_star = f.no_star;
        no_bracket = f.no_bracket;
        no_parenthesis = f.no_parenthesis;
        no_qualifier = λ mm e. f.no_qualifier mm (star_further t.site ss d e);
      } in
      let one : many_at (length (ts ++ (us ++ rest))) qualifier_at (ts ++ (us ++ rest)) ≡ Ok (ss, us ++ rest) =
      many_complete qualifier_exact (length (ts ++ (us ++ rest))) (us ++ rest) q (no_more_qualifiers t ss rest (p.first g) f) (omega (arith, length-append ts (us ++ rest))) in
      let two : i (us ++ rest) ≡ Ok (d, rest) = p.complete us d rest g inside_follows in
      rw (one, two) refl

  identifier_no_star : (t : Lexeme) (ts : List Lexeme) → is_identifier t.terminal ≡ true → front T.Star (t ∷ ts) ≡ None
  identifier_no_star t ts k = by (same t.terminal T.Star) refl
    where
      by : (b : Bool) → same t.terminal T.Star ≡ b → front T.Star (t ∷ ts) ≡ None
      by true g = absurd (let z : false ≡ true = sym (ap is_identifier (same_is t.terminal T.Star g)) ∙ k in cc)
      by false g = rw g refl

  -- a star stands first in pointers alone
  no_star_first : {ts us : List Lexeme} {d d1 : DeclaratorTree} (rest : List Lexeme) → Core types may_miss I ts d1 → Behind types d1 us d → After may_miss d rest → front T.Star (ts ++ (us ++ rest)) ≡ None
  no_star_first {us = us} rest (is_name {t = t} k h e) m f = rw h (identifier_no_star t (us ++ rest) k)
  no_star_first rest (is_inner c ko g n kc h e) m f = rw (h, ko) refl
  no_star_first rest (is_nothing mm h e) (nothing_behind g e1) f = rw (h, g) (f.no_star mm)
  no_star_first rest (is_nothing mm h e) (an_array {o = o} {ts2 = ts2} b m1 g) f = let x = between_first b in rw (h, g, x.2) (front_other T.OpenBracket T.Star o ((x.0 ++ ts2) ++ rest) x.1 refl)
  no_star_first rest (is_nothing mm h e) (a_function {o = o} {ts2 = ts2} b c m1 g) f = let x = between_first b in rw (h, g, x.2) (front_other T.OpenParenthesis T.Star o ((x.0 ++ ts2) ++ rest) x.1 refl)

  of_complete : (front1 : List Lexeme) (d : DeclaratorTree) (rest : List Lexeme) → DeclaratorOf types may_miss I front1 d → After may_miss d rest → declarator_of types may_miss i (front1 ++ rest) ≡ Ok (d, rest)
  unfolding declarator_of
  of_complete front1 d rest (is_pointer {t = t} {ts1 = ts1} {ts2 = ts2} {ss = ss} {d1 = d1} k q g parts e) f =
      let all : List Lexeme = ts1 ++ (ts2 ++ rest) in
      rw (parts, e, append_assoc ts1 ts2 rest, front_here T.Star t all k) (pointer_there t rest q g (subst (λ z. After may_miss z rest) e f))
  of_complete front1 d rest (is_direct {ts1 = ts1} {ts2 = ts2} c b parts) f =
      let none : front T.Star (ts1 ++ (ts2 ++ rest)) ≡ None = no_star_first rest c b f in
      rw (parts, append_assoc ts1 ts2 rest, none) (direct_there rest c b f)

  pub of_exact : ExactDeclarator may_miss (DeclaratorOf types may_miss I) (declarator_of types may_miss i)
  of_exact = record { sound = of_sound; complete = of_complete; first = λ g. declarator_first g }

pub declarator_exact : (types : Types) (may_miss : Bool) (n : ℕ) → ExactDeclarator may_miss (IsDeclarator types may_miss n) (declarator_at types may_miss n)
unfolding IsDeclarator declarator_at
declarator_exact types may_miss zero = record { sound = λ ts d rest h. absurd cc; complete = λ us d rest g f. absurd g; first = λ g. absurd g }
declarator_exact types may_miss (suc n) =
    let p = of_exact types may_miss (declarator_exact types may_miss n) in
    record { sound = p.sound; complete = p.complete; first = λ g. p.first g }

-- ---- an attribute that a star takes

-- where no qualifier is read, no attribute stands
no_attribute_left : (ts : List Lexeme) → Stopped qualifier_at ts → role_front (same_role R.Attribute) ts ≡ None
unfolding qualifier_at group_at
no_attribute_left ts (nothing_left e) = rw e refl
no_attribute_left ts (none_there h) =
    elim (either (role_front is_qualifier ts) _ _ (Ok (None, ts)) h) [
      | inl w ↦ absurd (let q = one_is (keyword w.0.0.text w.0.0.site) w.0.1 None ts w.2 in let z = q.0 in cc)
      | inr w ↦
          let b = bind_ok (group_at (same_role R.Attribute) ts) _ (None, ts) w.1 in
          by b.0.0 b.0.1 b.1 b.2
    ]
  where
    by : (x : Option GroupTree) (us : List Lexeme) → group_at (same_role R.Attribute) ts ≡ Ok (x, us) → or_else x (λ g. done (Some (group g)) us) (done None us) ≡ Ok (None, ts) → role_front (same_role R.Attribute) ts ≡ None
    by (Some g) us e f = absurd (let q = one_is (group g) us None ts f in let z = q.0 in cc)
    by None us e f =
        elim (either (role_front (same_role R.Attribute) ts) _ _ (Ok (None, us)) e) [
          | inl w ↦
              let b = bind_ok (group_behind w.0.0 w.0.1) _ (None, us) w.2 in
              absurd (let q = one_is b.0.0 b.0.1 None us b.2 in let z = q.0 in cc)
          | inr w ↦ w.0
        ]

-- what has no name is nothing
behind_no_name : {types : Types} {left : DeclaratorTree} {ts : List Lexeme} {d : DeclaratorTree} → Behind types left ts d → d ≡ no_name → (left ≡ no_name) × (ts ≡ [])
behind_no_name (nothing_behind h e) n = (sym e ∙ n, h)
behind_no_name (an_array b m parts) n = absurd (let z = (behind_no_name m n).0 in cc)
behind_no_name (a_function b c m parts) n = absurd (let z = (behind_no_name m n).0 in cc)

core_no_name : {types : Types} {may_miss : Bool} {I : Gram DeclaratorTree} {ts : List Lexeme} {d : DeclaratorTree} → Core types may_miss I ts d → d ≡ no_name → ts ≡ []
core_no_name (is_name k h e) n = absurd (let z = sym e ∙ n in cc)
core_no_name (is_inner c ko g m kc h e) n = absurd (let z = sym e ∙ n in cc)
core_no_name (is_nothing mm h e) n = h

of_no_name : {types : Types} {may_miss : Bool} {I : Gram DeclaratorTree} {ts : List Lexeme} {d : DeclaratorTree} → DeclaratorOf types may_miss I ts d → d ≡ no_name → ts ≡ []
of_no_name (is_pointer k q g parts e) n = absurd (let z = sym e ∙ n in cc)
of_no_name (is_direct {ts2 = ts2} c b parts) n = let f = behind_no_name b n in parts ∙ ap (λ z. z ++ ts2) (core_no_name c f.0) ∙ f.1

declarator_no_name : (types : Types) (may_miss : Bool) (n : ℕ) {ts : List Lexeme} {d : DeclaratorTree} → IsDeclarator types may_miss n ts d → d ≡ no_name → ts ≡ []
unfolding IsDeclarator
declarator_no_name types may_miss zero g e = absurd g
declarator_no_name types may_miss (suc n) g e = of_no_name g e

-- a star ends nothing but pointers
behind_no_star : {types : Types} {left : DeclaratorTree} {ts : List Lexeme} {d : DeclaratorTree} → Behind types left ts d → ends_in_star left ≡ false → ends_in_star d ≡ false
behind_no_star (nothing_behind h e) n = ap ends_in_star e ∙ n
behind_no_star (an_array b m parts) n = behind_no_star m refl
behind_no_star (a_function b c m parts) n = behind_no_star m refl

core_no_star : {types : Types} {may_miss : Bool} {I : Gram DeclaratorTree} {ts : List Lexeme} {d : DeclaratorTree} → Core types may_miss I ts d → ends_in_star d ≡ false
core_no_star (is_name k h e) = ap ends_in_star e
core_no_star (is_inner c ko g m kc h e) = ap ends_in_star e
core_no_star (is_nothing mm h e) = ap ends_in_star e

-- no attribute follows what ends in a star
pub star_takes_all : (types : Types) (may_miss : Bool) (n : ℕ) (ts : List Lexeme) (d : DeclaratorTree) (rest : List Lexeme) → declarator_at types may_miss n ts ≡ Ok (d, rest) → ends_in_star d ≡ true → role_front (same_role R.Attribute) rest ≡ None
unfolding declarator_at declarator_of pointer_at direct_at
star_takes_all types may_miss zero ts d rest h s = absurd cc
star_takes_all types may_miss (suc n) ts d rest h s =
    elim (either (front T.Star ts) _ _ (Ok (d, rest)) h) [
      | inl w ↦ pointed w.0.0 w.0.1 (λ us d1 rest1 g e. star_takes_all types may_miss n us d1 rest1 g e) w.2
      | inr w ↦ directly w.1
    ]
  where
    kept : (t : Lexeme) (ss : List SpecifierTree) (d1 : DeclaratorTree) (vs ws xs : List Lexeme) → role_front (same_role R.Attribute) ws ≡ None → ws ≡ vs ++ xs → (d1 ≡ no_name → vs ≡ []) →
        (ends_in_star d1 ≡ true → role_front (same_role R.Attribute) xs ≡ None) → ends_in_star (pointer t.site ss d1) ≡ true → role_front (same_role R.Attribute) xs ≡ None
    kept t ss no_name vs ws xs none e f next k = subst (λ z. role_front (same_role R.Attribute) z ≡ None) (e ∙ ap (λ z. z ++ xs) (f refl)) none
    kept t ss (a_name w x) vs ws xs none e f next k = next k
    kept t ss (inner x gs d1) vs ws xs none e f next k = next k
    kept t ss (pointer x qs d1) vs ws xs none e f next k = next k
    kept t ss (array x d1 a) vs ws xs none e f next k = next k
    kept t ss (function x d1 a) vs ws xs none e f next k = next k

    pointed : (t : Lexeme) (us : List Lexeme) →
        ((vs : List Lexeme) (d1 : DeclaratorTree) (rest1 : List Lexeme) → declarator_at types may_miss n vs ≡ Ok (d1, rest1) → ends_in_star d1 ≡ true → role_front (same_role R.Attribute) rest1 ≡ None) →
        pointer_at (declarator_at types may_miss n) t us ≡ Ok (d, rest) → role_front (same_role R.Attribute) rest ≡ None
    pointed t us next g =
        let a = bind_ok (many_at (length us) qualifier_at us) _ (d, rest) g in
        let b = bind_ok (declarator_at types may_miss n a.0.1) _ (d, rest) a.2 in
        let q = both_are (pointer t.site a.0.0 b.0.0) d b.0.1 rest b.2 in
        let stopped = many_stops qualifier_exact (length us) us a.0.0 a.0.1 (omega arith) a.1 in
        let one = (declarator_exact types may_miss n).sound a.0.1 b.0.0 b.0.1 b.1 in
        subst (λ z. role_front (same_role R.Attribute) z ≡ None) q.1
        (kept t a.0.0 b.0.0 one.front a.0.1 b.0.1 (no_attribute_left a.0.1 stopped) one.parts (λ e. declarator_no_name types may_miss n one.is e) (λ e. next a.0.1 b.0.0 b.0.1 b.1 e) (ap ends_in_star q.0 ∙ s))

    directly : direct_at types may_miss (declarator_at types may_miss n) ts ≡ Ok (d, rest) → role_front (same_role R.Attribute) rest ≡ None
    directly g =
        let b = bind_ok (core_at types may_miss (declarator_at types may_miss n) ts) _ (d, rest) g in
        let c = core_sound types may_miss (declarator_exact types may_miss n) ts b.0.0 b.0.1 b.1 in
        let r = behind_sound types (length b.0.1) b.0.0 b.0.1 d rest c.opens b.2 in
        absurd (let z : false ≡ true = sym (behind_no_star r.is (core_no_star c.reads.is)) ∙ s in cc)
