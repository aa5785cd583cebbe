-- The readers of specifiers read exactly what the grammar says.
use Rattle.std.proofs.Common.{◌≡◌, ℕ, zero, suc, ◌<◌, ◌≤◌, Bool, true, false, is_some, not, ◌&&◌, ◌||◌, if◌then◌else◌, List, [], ◌∷◌, ◌++◌, length, Option, Some, None, Ok, Err, refl, ap, sym, subst, ◌∙◌, append_assoc, length-append, arith, inl, inr}
use Rattle.px_expressions.specs.Reading.{or_else}
use Rattle.px_expressions.proofs.ExactTools.{chosen, either}
use Rattle.px_real_expressions.specs.declared.terminal.Terminal.{Terminal}
use Rattle.px_real_expressions.specs.declared.terminal.Terminal.TheVariants as T
use Rattle.px_real_expressions.specs.Lexemes.{Lexeme, same, front, front_if}
use Rattle.px_real_expressions.specs.Operators.{is_identifier}
use Rattle.px_real_expressions.specs.Stops.{wrong, ◌>>=◌}
use Rattle.px_real_expressions.specs.Reading.{closed_at, held_up_to}
use Rattle.px_real_expressions.specs.Grammar.{Between, between, IsHeld}
use Rattle.px_real_expressions.proofs.Tools.{done, both_are, bind_ok, same_is, front_is, front_here, if_is, Reads}
use Rattle.px_real_expressions.proofs.HeldExact.{held_exact}
use Rattle.px_real_expressions.proofs.OperandExact.{closed_sound, closed_complete, held_closes}
use Rattle.px_real_declarations.specs.declared.role.Role.{Role}
use Rattle.px_real_declarations.specs.declared.role.Role.TheVariants as R
use Rattle.px_real_declarations.specs.Roles.{has_role, role_of, role, same_role, takes_group, takes_tag, begins_keyword}
use Rattle.px_real_declarations.specs.DeclarationTree.{GroupTree, SpecifierTree, keyword, type_name, group, tagged, says_type, any_says}
use Rattle.px_real_declarations.specs.Grammar.{Types, is_alone, is_group, Attributes, Tag, no_tag, a_tag, Braces, no_braces, some_braces, IsSpecifier, is_keyword, is_type_name, is_grouped, is_tagged, Specifiers, no_specifier, one_specifier, begins_specifier, begins_with, is_atomic, ends_in_atomic}
use Rattle.px_real_declarations.specs.Reading.{role_front, grouped, group_behind, tag_at, braces_at, attributes_at, tagged_at, atomic_at, name_at, specifier_by, specifier_at, specifiers_at}
use Rattle.px_real_declarations.proofs.GroupExact.{one_is, none_is, plain_role, no_role, behind_sound, behind_complete, attributes_sound, attributes_complete}

-- ---- terminals and roles

pub identifier_plain : (k : Terminal) → is_identifier k ≡ true → has_role k ≡ false
identifier_plain T.Name h = refl
identifier_plain T.TypeName h = refl
identifier_plain _ h = absurd cc

-- a keyword of declarations has the role of its text
role_text : (t : Lexeme) → has_role t.terminal ≡ true → role_of t.text ≡ role t
unfolding role
role_text t h = rw h refl

has_some_role : (t : Lexeme) → begins_keyword (role t) ≡ true → has_role t.terminal ≡ true
has_some_role t h = by (has_role t.terminal) refl
  where
    by : (b : Bool) → has_role t.terminal ≡ b → has_role t.terminal ≡ true
    by true e = e
    by false e = absurd (let z : begins_keyword R.Other ≡ true = sym (ap begins_keyword (plain_role t e)) ∙ h in cc)

pub text_role : (t : Lexeme) (r : Role) → role t ≡ r → begins_keyword r ≡ true → role_of t.text ≡ r
text_role t r e h = role_text t (has_some_role t (ap begins_keyword e ∙ h)) ∙ e

-- no specifier begins with what is neither a keyword nor a name
pub begins_nothing : (types : Types) (said : Bool) (t : Lexeme) → has_role t.terminal ≡ false → is_identifier t.terminal ≡ false → begins_specifier types said t ≡ false
begins_nothing types true t h n = rw (plain_role t h) refl
begins_nothing types false t h n = rw (plain_role t h, n) refl

-- such a terminal isn't at the front where a specifier begins
pub not_this : (types : Types) (said : Bool) (k : Terminal) (t : Lexeme) (ts : List Lexeme) → has_role k ≡ false → is_identifier k ≡ false → begins_specifier types said t ≡ true → front k (t ∷ ts) ≡ None
not_this types said k t ts h n b = by (same t.terminal k) refl
  where
    by : (x : Bool) → same t.terminal k ≡ x → front k (t ∷ ts) ≡ None
    by true e =
        let is : t.terminal ≡ k = same_is t.terminal k e in
        absurd (let z : false ≡ true = sym (begins_nothing types said t (ap has_role is ∙ h) (ap is_identifier is ∙ n)) ∙ b in cc)
    by false e = rw e refl

-- ---- what follows a specifier

-- no braces, and no parenthesis behind `_Atomic`
pub record Follows (s : SpecifierTree) (rest : List Lexeme) : Type 0 where
  pub no_brace : front T.OpenBrace rest ≡ None
  pub no_group : is_atomic s ≡ true → front T.OpenParenthesis rest ≡ None

-- what was read of a specifier: behind it, or where none begins
abbrev pub ReadSpecifier : Types → Bool → List Lexeme → Option SpecifierTree → List Lexeme → Type 0
ReadSpecifier types said ts (Some s) rest = Reads (IsSpecifier types said) ts s rest × (is_atomic s ≡ true → front T.OpenParenthesis rest ≡ None)
ReadSpecifier types said ts None rest = (ts ≡ rest) × (begins_with (begins_specifier types said) ts ≡ false)

specifier_read : (types : Types) (said : Bool) {ts rest : List Lexeme} (s : SpecifierTree) (o : Option SpecifierTree) → o ≡ Some s → Reads (IsSpecifier types said) ts s rest →
    (is_atomic s ≡ true → front T.OpenParenthesis rest ≡ None) → ReadSpecifier types said ts o rest
specifier_read types said {ts = ts} {rest = rest} s o e r f = subst (λ z. ReadSpecifier types said ts z rest) (sym e) (r, f)

-- ---- braces and tags

tag_sound : (ts : List Lexeme) (o : Option (List ℕ)) (rest : List Lexeme) → tag_at ts ≡ Ok (o, rest) → Reads Tag ts o rest
unfolding tag_at
tag_sound ts o rest h =
    elim (either (front_if is_identifier ts) _ _ (Ok (o, rest)) h) [
      | inl w ↦
          let p = if_is is_identifier ts w.0 w.1 in
          let q = one_is w.0.0.text w.0.1 o rest w.2 in
          record { front = w.0.0 ∷ []; is = a_tag p.0 refl q.0; parts = p.1 ∙ ap (λ z. w.0.0 ∷ z) q.1 }
      | inr w ↦ let q = none_is ts o rest w.1 in record { front = []; is = no_tag refl q.0; parts = q.1 }
    ]

braces_sound : (ts : List Lexeme) (o : Option (List Lexeme)) (rest : List Lexeme) → braces_at ts ≡ Ok (o, rest) → Reads Braces ts o rest
unfolding braces_at
braces_sound ts o rest h =
    elim (either (front T.OpenBrace ts) _ _ (Ok (o, rest)) h) [
      | inl w ↦
          let p = front_is T.OpenBrace ts w.0 w.1 in
          let b = bind_ok (closed_at T.CloseBrace (held_up_to T.CloseBrace) w.0.1) _ (o, rest) w.2 in
          let r = closed_sound (held_exact T.CloseBrace refl refl) T.OpenBrace T.CloseBrace w.0.0 w.0.1 b.0.0 b.0.1 p.0 b.1 in
          let q = one_is b.0.0 b.0.1 o rest b.2 in
          record { front = r.front; is = some_braces r.is q.0; parts = p.1 ∙ r.parts ∙ ap (λ z. r.front ++ z) q.1 }
      | inr w ↦ let q = none_is ts o rest w.1 in record { front = []; is = no_braces refl q.0; parts = q.1 }
    ]

braces_complete : {ts : List Lexeme} {o : Option (List Lexeme)} (rest : List Lexeme) → Braces ts o → (o ≡ None → front T.OpenBrace rest ≡ None) → braces_at (ts ++ rest) ≡ Ok (o, rest)
unfolding braces_at
braces_complete rest (no_braces h g) f = rw (h, g, f g) refl
braces_complete rest (some_braces {a = a} (between {o = o} c {ts1 = ts1} ko kc m parts) g) f =
    let one : closed_at T.CloseBrace (held_up_to T.CloseBrace) ((ts1 ++ c ∷ []) ++ rest) ≡ Ok (a, rest) =
    closed_complete (held_exact T.CloseBrace refl refl) T.OpenBrace T.CloseBrace (held_closes T.CloseBrace) c ts1 a rest kc m in
    rw (parts, g, front_here T.OpenBrace o ((ts1 ++ c ∷ []) ++ rest) ko, one) refl

-- braces begin with no name, and with no keyword
brace_first : {ts : List Lexeme} {o : Option (List Lexeme)} (rest : List Lexeme) → Braces ts o → is_some o ≡ true → (front_if is_identifier (ts ++ rest) ≡ None) × (role_front (same_role R.Attribute) (ts ++ rest) ≡ None)
brace_first rest (no_braces h g) s = absurd (let z : false ≡ true = sym (ap is_some g) ∙ s in cc)
brace_first rest (some_braces (between {o = o} c {ts1 = ts1} ko kc m parts) g) s =
    rw parts (rw ko refl, no_role (same_role R.Attribute) o ((ts1 ++ c ∷ []) ++ rest) refl (ap has_role ko))

-- a tag or braces, and no attribute before them
tag_complete : {ts us : List Lexeme} {o : Option (List ℕ)} {held : Option (List Lexeme)} (rest : List Lexeme) → Tag ts o → Braces us held → (is_some o || is_some held) ≡ true →
    (tag_at (ts ++ (us ++ rest)) ≡ Ok (o, us ++ rest)) × (role_front (same_role R.Attribute) (ts ++ (us ++ rest)) ≡ None)
unfolding tag_at
tag_complete {us = us} {held = held} rest (no_tag h g) b s =
    let p = brace_first rest b (sym (ap (λ z. is_some z || is_some held) g) ∙ s) in
    rw (h, g) (rw p.0 refl, p.1)
tag_complete {us = us} rest (a_tag {t = t} k h g) b s =
    rw (h, g) (rw k refl, no_role (same_role R.Attribute) t (us ++ rest) refl (identifier_plain t.terminal k))

-- ---- a struct, union or enum

tagged_sound : (types : Types) (said : Bool) (t : Lexeme) (ts : List Lexeme) (s : SpecifierTree) (rest : List Lexeme) → takes_tag (role t) ≡ true → tagged_at t ts ≡ Ok (s, rest) →
    Reads (IsSpecifier types said) (t ∷ ts) s rest × (is_atomic s ≡ false)
unfolding tagged_at
tagged_sound types said t ts s rest k h =
    let gs = bind_ok (attributes_at ts) _ (s, rest) h in
    let tag = bind_ok (tag_at gs.0.1) _ (s, rest) gs.2 in
    let held = bind_ok (braces_at tag.0.1) _ (s, rest) tag.2 in
    let a = attributes_sound ts gs.0.0 gs.0.1 gs.1 in
    let b = tag_sound gs.0.1 tag.0.0 tag.0.1 tag.1 in
    let c = braces_sound tag.0.1 held.0.0 held.0.1 held.1 in
    let tree : SpecifierTree = tagged t.text t.site gs.0.0 tag.0.0 held.0.0 in
    elim (chosen (is_some tag.0.0 || is_some held.0.0) (done tree held.0.1) (Err (wrong held.0.1)) (Ok (s, rest)) held.2) [
      | inl w ↦
          let q = both_are tree s held.0.1 rest w.1 in (
            record {
              front = t ∷ a.front ++ (b.front ++ c.front);
              is = is_tagged k a.is b.is c.is w.0 refl (sym q.0);
              parts = ap (λ z. t ∷ z) (a.parts ∙ ap (λ z. a.front ++ z) (b.parts ∙ ap (λ z. b.front ++ z) (c.parts ∙ ap (λ z. c.front ++ z) q.1) ∙ sym (append_assoc b.front c.front rest)) ∙ sym (append_assoc a.front (b.front ++ c.front) rest));
            },
            sym (ap is_atomic q.0),
          )
      | inr w ↦ absurd (let z = w.1 in cc)
    ]

tagged_complete : (t : Lexeme) {ts1 ts2 ts3 : List Lexeme} {gs : List GroupTree} {tag : Option (List ℕ)} {held : Option (List Lexeme)} (rest : List Lexeme) →
    Attributes ts1 gs → Tag ts2 tag → Braces ts3 held → (is_some tag || is_some held) ≡ true → front T.OpenBrace rest ≡ None →
    tagged_at t (ts1 ++ (ts2 ++ (ts3 ++ rest))) ≡ Ok (tagged t.text t.site gs tag held, rest)
unfolding tagged_at
tagged_complete t {ts1 = ts1} {ts2 = ts2} {ts3 = ts3} {gs = gs} {tag = tag} {held = held} rest a b c s f =
    let p = tag_complete rest b c s in
    let one : attributes_at (ts1 ++ (ts2 ++ (ts3 ++ rest))) ≡ Ok (gs, ts2 ++ (ts3 ++ rest)) = attributes_complete (ts2 ++ (ts3 ++ rest)) a p.1 in
    let two : tag_at (ts2 ++ (ts3 ++ rest)) ≡ Ok (tag, ts3 ++ rest) = p.0 in
    let three : braces_at (ts3 ++ rest) ≡ Ok (held, rest) = braces_complete rest c (λ e. f) in
    rw (one, two, three, s) refl

-- ---- `_Atomic`

atomic_sound : (types : Types) (said : Bool) (t : Lexeme) (ts : List Lexeme) (s : SpecifierTree) (rest : List Lexeme) → role t ≡ R.Atomic → atomic_at t ts ≡ Ok (s, rest) →
    Reads (IsSpecifier types said) (t ∷ ts) s rest × (is_atomic s ≡ true → front T.OpenParenthesis rest ≡ None)
unfolding atomic_at
atomic_sound types said t ts s rest k h =
    elim (either (front T.OpenParenthesis ts) _ _ (Ok (s, rest)) h) [
      | inl w ↦
          let b = bind_ok (group_behind t ts) _ (s, rest) w.2 in
          let r = behind_sound t ts b.0.0 b.0.1 b.1 in
          let q = both_are (group b.0.0) s b.0.1 rest b.2 in (
            record { front = t ∷ r.front; is = is_grouped (is_group (ap takes_group k) r.is refl r.tree) (sym q.0); parts = ap (λ z. t ∷ z) (r.parts ∙ ap (λ z. r.front ++ z) q.1) },
            λ e. absurd (let z : false ≡ true = ap is_atomic q.0 ∙ e in cc),
          )
      | inr w ↦
          let q = both_are (keyword t.text t.site) s ts rest w.1 in (
            record { front = t ∷ []; is = is_keyword (ap is_alone k) refl (sym q.0); parts = ap (λ z. t ∷ z) q.1 },
            λ e. ap (front T.OpenParenthesis) (sym q.1) ∙ w.0,
          )
    ]

-- ---- a specifier by its role

module _ (types : Types) (said : Bool) (t : Lexeme) (ts : List Lexeme) (o : Option SpecifierTree) (rest : List Lexeme) where
  alone_read : (r : Role) → role t ≡ r → is_alone r ≡ true → begins_keyword r ≡ true → same_role R.Atomic r ≡ false → done (Some (keyword t.text t.site)) ts ≡ done o rest → ReadSpecifier types said (t ∷ ts) o rest
  alone_read r e k b n h =
      let q = one_is (keyword t.text t.site) ts o rest h in
      specifier_read types said (keyword t.text t.site) o q.0 (record { front = t ∷ []; is = is_keyword (ap is_alone e ∙ k) refl refl; parts = ap (λ z. t ∷ z) q.1 })
      (λ a. absurd (let z : false ≡ true = sym n ∙ sym (ap (same_role R.Atomic) (text_role t r e b)) ∙ a in cc))

  group_read : (r : Role) → role t ≡ r → takes_group r ≡ true → (group_behind t ts >>= λ x. done (Some (group x.0)) x.1) ≡ done o rest → ReadSpecifier types said (t ∷ ts) o rest
  group_read r e k h =
      let b = bind_ok (group_behind t ts) (λ x. done (Some (group x.0)) x.1) (o, rest) h in
      let g = behind_sound t ts b.0.0 b.0.1 b.1 in
      let q = one_is (group b.0.0) b.0.1 o rest b.2 in
      specifier_read types said (group b.0.0) o q.0 (record { front = t ∷ g.front; is = is_grouped (is_group (ap takes_group e ∙ k) g.is refl g.tree) refl; parts = ap (λ z. t ∷ z) (g.parts ∙ ap (λ z. g.front ++ z) q.1) })
      (λ a. absurd cc)

  tagged_read : takes_tag (role t) ≡ true → (tagged_at t ts >>= λ x. done (Some x.0) x.1) ≡ done o rest → ReadSpecifier types said (t ∷ ts) o rest
  tagged_read k h =
      let b = bind_ok (tagged_at t ts) (λ x. done (Some x.0) x.1) (o, rest) h in
      let r = tagged_sound types said t ts b.0.0 b.0.1 k b.1 in
      let q = one_is b.0.0 b.0.1 o rest b.2 in
      specifier_read types said b.0.0 o q.0 (record { front = r.0.front; is = r.0.is; parts = r.0.parts ∙ ap (λ z. r.0.front ++ z) q.1 }) (λ a. absurd (let z : false ≡ true = sym r.1 ∙ a in cc))

  atomic_read : role t ≡ R.Atomic → (atomic_at t ts >>= λ x. done (Some x.0) x.1) ≡ done o rest → ReadSpecifier types said (t ∷ ts) o rest
  atomic_read k h =
      let b = bind_ok (atomic_at t ts) (λ x. done (Some x.0) x.1) (o, rest) h in
      let r = atomic_sound types said t ts b.0.0 b.0.1 k b.1 in
      let q = one_is b.0.0 b.0.1 o rest b.2 in
      specifier_read types said b.0.0 o q.0 (record { front = r.0.front; is = r.0.is; parts = r.0.parts ∙ ap (λ z. r.0.front ++ z) q.1 }) (λ a. ap (front T.OpenParenthesis) (sym q.1) ∙ r.1 a)

  name_read : (r : Role) → role t ≡ r → begins_keyword r ≡ false → name_at types said (t ∷ ts) t ts ≡ done o rest → ReadSpecifier types said (t ∷ ts) o rest
  name_read r e n h = by said (is_identifier t.terminal) (types t.text) refl refl refl h
    where
      no_keyword : begins_keyword (role t) ≡ false
      no_keyword = ap begins_keyword e ∙ n

      none : (begins_specifier types said t ≡ false) → done None (t ∷ ts) ≡ done o rest → ReadSpecifier types said (t ∷ ts) o rest
      none f g = let q = none_is (t ∷ ts) o rest g in subst (λ z. ReadSpecifier types said (t ∷ ts) z rest) (sym q.0) (q.1, f)

      by : (b i y : Bool) → said ≡ b → is_identifier t.terminal ≡ i → types t.text ≡ y →
          (if not b && (i && y) then done (Some (type_name t.text t.site)) ts else done None (t ∷ ts)) ≡ done o rest → ReadSpecifier types said (t ∷ ts) o rest
      by true i y sd id ty g = none (rw (no_keyword, sd) refl) g
      by false false y sd id ty g = none (rw (no_keyword, sd, id) refl) g
      by false true false sd id ty g = none (rw (no_keyword, sd, id, ty) refl) g
      by false true true sd id ty g =
          let q = one_is (type_name t.text t.site) ts o rest g in
          specifier_read types said (type_name t.text t.site) o q.0 (record { front = t ∷ []; is = is_type_name sd id ty refl refl; parts = ap (λ z. t ∷ z) q.1 }) (λ a. absurd cc)

  by_role : (r : Role) → role t ≡ r → specifier_by r types said (t ∷ ts) t ts ≡ done o rest → ReadSpecifier types said (t ∷ ts) o rest
  by_role R.Storage e h = alone_read R.Storage e refl refl refl h
  by_role R.Qualifier e h = alone_read R.Qualifier e refl refl refl h
  by_role R.Basic e h = alone_read R.Basic e refl refl refl h
  by_role R.Atomic e h = atomic_read e h
  by_role R.Record e h = tagged_read (ap takes_tag e) h
  by_role R.Enumeration e h = tagged_read (ap takes_tag e) h
  by_role R.Typeof e h = group_read R.Typeof e refl h
  by_role R.Alignment e h = group_read R.Alignment e refl h
  by_role R.Attribute e h = group_read R.Attribute e refl h
  by_role R.Assembler e h = name_read R.Assembler e refl h
  by_role R.Assertion e h = name_read R.Assertion e refl h
  by_role R.Ellipsis e h = name_read R.Ellipsis e refl h
  by_role R.Other e h = name_read R.Other e refl h

pub specifier_sound : (types : Types) (said : Bool) (ts : List Lexeme) (o : Option SpecifierTree) (rest : List Lexeme) → specifier_at types said ts ≡ Ok (o, rest) → ReadSpecifier types said ts o rest
unfolding specifier_at
specifier_sound types said [] o rest h = let q = none_is [] o rest h in subst (λ z. ReadSpecifier types said [] z rest) (sym q.0) (q.1, refl)
specifier_sound types said (t ∷ ts) o rest h = by_role types said t ts o rest (role t) refl h

-- ---- what is a specifier is read

module _ (types : Types) (said : Bool) (rest : List Lexeme) where
  alone_there : (t : Lexeme) (r : Role) → role t ≡ r → is_alone r ≡ true → (is_atomic (keyword t.text t.site) ≡ true → front T.OpenParenthesis rest ≡ None) →
      specifier_by r types said (t ∷ rest) t rest ≡ done (Some (keyword t.text t.site)) rest
  unfolding atomic_at
  alone_there t R.Storage e k f = refl
  alone_there t R.Qualifier e k f = refl
  alone_there t R.Basic e k f = refl
  alone_there t R.Atomic e k f = let none : front T.OpenParenthesis rest ≡ None = f (ap (same_role R.Atomic) (text_role t R.Atomic e refl)) in rw none refl
  alone_there t R.Record e k f = absurd cc
  alone_there t R.Enumeration e k f = absurd cc
  alone_there t R.Typeof e k f = absurd cc
  alone_there t R.Alignment e k f = absurd cc
  alone_there t R.Attribute e k f = absurd cc
  alone_there t R.Assembler e k f = absurd cc
  alone_there t R.Assertion e k f = absurd cc
  alone_there t R.Ellipsis e k f = absurd cc
  alone_there t R.Other e k f = absurd cc

  group_there : (t : Lexeme) (us : List Lexeme) (x : Lexeme × List Lexeme) (g : GroupTree) (r : Role) → takes_group r ≡ true → front T.OpenParenthesis us ≡ Some x → group_behind t us ≡ done g rest →
      specifier_by r types said (t ∷ us) t us ≡ done (Some (group g)) rest
  unfolding atomic_at
  group_there t us x g R.Atomic k f h = rw (f, h) refl
  group_there t us x g R.Typeof k f h = rw h refl
  group_there t us x g R.Alignment k f h = rw h refl
  group_there t us x g R.Attribute k f h = rw h refl
  group_there t us x g R.Storage k f h = absurd cc
  group_there t us x g R.Qualifier k f h = absurd cc
  group_there t us x g R.Basic k f h = absurd cc
  group_there t us x g R.Record k f h = absurd cc
  group_there t us x g R.Enumeration k f h = absurd cc
  group_there t us x g R.Assembler k f h = absurd cc
  group_there t us x g R.Assertion k f h = absurd cc
  group_there t us x g R.Ellipsis k f h = absurd cc
  group_there t us x g R.Other k f h = absurd cc

  tagged_there : (t : Lexeme) (us : List Lexeme) (s : SpecifierTree) (r : Role) → takes_tag r ≡ true → tagged_at t us ≡ done s rest → specifier_by r types said (t ∷ us) t us ≡ done (Some s) rest
  tagged_there t us s R.Record k h = rw h refl
  tagged_there t us s R.Enumeration k h = rw h refl
  tagged_there t us s R.Storage k h = absurd cc
  tagged_there t us s R.Qualifier k h = absurd cc
  tagged_there t us s R.Atomic k h = absurd cc
  tagged_there t us s R.Basic k h = absurd cc
  tagged_there t us s R.Typeof k h = absurd cc
  tagged_there t us s R.Alignment k h = absurd cc
  tagged_there t us s R.Attribute k h = absurd cc
  tagged_there t us s R.Assembler k h = absurd cc
  tagged_there t us s R.Assertion k h = absurd cc
  tagged_there t us s R.Ellipsis k h = absurd cc
  tagged_there t us s R.Other k h = absurd cc

-- the parenthesis of a group
pub opened : {ts a : List Lexeme} {o : Lexeme} (rest : List Lexeme) → Between T.OpenParenthesis T.CloseParenthesis IsHeld ts o a → (x : Lexeme × List Lexeme) × (front T.OpenParenthesis (ts ++ rest) ≡ Some x)
opened rest (between {o = o} c {ts1 = ts1} ko kc m parts) = ((o, (ts1 ++ c ∷ []) ++ rest), rw parts (front_here T.OpenParenthesis o ((ts1 ++ c ∷ []) ++ rest) ko))

specifier_complete : (types : Types) (said : Bool) {ts : List Lexeme} {s : SpecifierTree} (rest : List Lexeme) → IsSpecifier types said ts s → Follows s rest → specifier_at types said (ts ++ rest) ≡ Ok (Some s, rest)
unfolding specifier_at
specifier_complete types said rest (is_keyword {t = t} k parts g) f =
    rw (parts, g) (alone_there types said rest t (role t) refl k (λ a. f.no_group (ap is_atomic g ∙ a)))
specifier_complete types said rest (is_type_name {t = t} sd id ty parts g) f = rw (parts, g, plain_role t (identifier_plain t.terminal id), sd, id, ty) refl
specifier_complete types said rest (is_grouped (is_group {t = t} {ts1 = ts1} {a = a} k b parts e) g) f =
    let x = opened rest b in
    rw (parts, g, e) (group_there types said rest t (ts1 ++ rest) x.0 (grouped t a) (role t) k x.1 (behind_complete t rest b))
specifier_complete types said rest (is_tagged {t = t} {ts1 = ts1} {ts2 = ts2} {ts3 = ts3} {gs = gs} {tag = tag} {held = held} k a b c some parts g) f =
    rw (parts, g, append_assoc ts1 (ts2 ++ ts3) rest, append_assoc ts2 ts3 rest)
    (tagged_there types said rest t (ts1 ++ (ts2 ++ (ts3 ++ rest))) (tagged t.text t.site gs tag held) (role t) k (tagged_complete t rest a b c some f.no_brace))

alone_begins : (r : Role) → is_alone r ≡ true → begins_keyword r ≡ true
alone_begins R.Storage k = refl
alone_begins R.Qualifier k = refl
alone_begins R.Atomic k = refl
alone_begins R.Basic k = refl
alone_begins _ k = absurd cc

group_begins : (r : Role) → takes_group r ≡ true → begins_keyword r ≡ true
group_begins R.Atomic k = refl
group_begins R.Typeof k = refl
group_begins R.Alignment k = refl
group_begins R.Attribute k = refl
group_begins _ k = absurd cc

tag_begins : (r : Role) → takes_tag r ≡ true → begins_keyword r ≡ true
tag_begins R.Record k = refl
tag_begins R.Enumeration k = refl
tag_begins _ k = absurd cc

-- the first token of a specifier
pub record Begins (types : Types) (said : Bool) (ts : List Lexeme) : Type 0 where
  pub head : Lexeme
  pub tail : List Lexeme
  pub begins : begins_specifier types said head ≡ true
  pub parts : ts ≡ head ∷ tail

keyword_begins : (types : Types) (said : Bool) (t : Lexeme) → begins_keyword (role t) ≡ true → begins_specifier types said t ≡ true
keyword_begins types said t h = rw h refl

pub specifier_first : (types : Types) (said : Bool) {ts : List Lexeme} {s : SpecifierTree} → IsSpecifier types said ts s → Begins types said ts
specifier_first types said (is_keyword {t = t} k parts g) = record { head = t; tail = []; begins = keyword_begins types said t (alone_begins (role t) k); parts = parts }
specifier_first types said (is_type_name {t = t} sd id ty parts g) = record { head = t; tail = []; begins = rw (plain_role t (identifier_plain t.terminal id), sd, id, ty) refl; parts = parts }
specifier_first types said (is_grouped (is_group {t = t} {ts1 = ts1} k b parts e) g) = record { head = t; tail = ts1; begins = keyword_begins types said t (group_begins (role t) k); parts = parts }
specifier_first types said (is_tagged {t = t} {ts1 = ts1} {ts2 = ts2} {ts3 = ts3} k a b c some parts g) = record { head = t; tail = ts1 ++ (ts2 ++ ts3); begins = keyword_begins types said t (tag_begins (role t) k); parts = parts }

specifier_some : (types : Types) (said : Bool) {ts : List Lexeme} {s : SpecifierTree} → IsSpecifier types said ts s → 0 < length ts
specifier_some types said m = let b = specifier_first types said m in rw b.parts (omega arith)

-- ---- specifiers

-- specifiers that were read, as many as there are
pub record ReadSpecifiers (types : Types) (said : Bool) (ts : List Lexeme) (ss : List SpecifierTree) (rest : List Lexeme) : Type 0 where
  pub reads : Reads (Specifiers types said) ts ss rest
  pub none_begins : begins_with (begins_specifier types (any_says said ss)) rest ≡ false
  pub no_group : ends_in_atomic ss ≡ true → front T.OpenParenthesis rest ≡ None

none_there : {types : Types} {said : Bool} {ts : List Lexeme} {ss : List SpecifierTree} → Specifiers types said ts ss → ss ≡ [] → ts ≡ []
none_there (no_specifier h g) e = h
none_there (one_specifier m ms parts g) e = absurd (let z = sym g ∙ e in cc)

pub specifiers_sound : (types : Types) (n : ℕ) (said : Bool) (ts : List Lexeme) (ss : List SpecifierTree) (rest : List Lexeme) → length ts ≤ n → specifiers_at types n said ts ≡ Ok (ss, rest) → ReadSpecifiers types said ts ss rest
unfolding specifiers_at
specifiers_sound types zero said [] ss rest le h =
    let q = both_are [] ss [] rest h in
    rw (← q.0, ← q.1) (record { reads = record { front = []; is = no_specifier refl refl; parts = refl }; none_begins = refl; no_group = λ a. absurd cc })
specifiers_sound types zero said (t ∷ ts) ss rest le h = absurd (omega arith)
specifiers_sound types (suc n) said ts ss rest le h =
    let b = bind_ok (specifier_at types said ts) _ (ss, rest) h in
    by b.0.0 b.0.1 (λ said1 us ss1 rest1 le1 g. specifiers_sound types n said1 us ss1 rest1 le1 g) (specifier_sound types said ts b.0.0 b.0.1 b.1) b.2
  where
    by : (o : Option SpecifierTree) (us : List Lexeme) →
        ((said1 : Bool) (vs : List Lexeme) (ss1 : List SpecifierTree) (rest1 : List Lexeme) → length vs ≤ n → specifiers_at types n said1 vs ≡ Ok (ss1, rest1) → ReadSpecifiers types said1 vs ss1 rest1) →
        ReadSpecifier types said ts o us → or_else o (λ s. specifiers_at types n (said || says_type s) us >>= λ y. done (s ∷ y.0) y.1) (done [] us) ≡ Ok (ss, rest) → ReadSpecifiers types said ts ss rest
    by (Some s) us next one g =
        let c = bind_ok (specifiers_at types n (said || says_type s) us) (λ y. done (s ∷ y.0) y.1) (ss, rest) g in
        let q = both_are (s ∷ c.0.0) ss c.0.1 rest c.2 in
        let some : 0 < length one.0.front = specifier_some types said one.0.is in
        let fits : length us ≤ n = omega (arith, ap length one.0.parts, length-append one.0.front us) in
        let more = next (said || says_type s) us c.0.0 c.0.1 fits c.1 in
        let all : ReadSpecifiers types said ts (s ∷ c.0.0) c.0.1 = record {
          reads = record {
            front = one.0.front ++ more.reads.front;
            is = one_specifier one.0.is more.reads.is refl refl;
            parts = one.0.parts ∙ ap (λ z. one.0.front ++ z) more.reads.parts ∙ sym (append_assoc one.0.front more.reads.front c.0.1);
          };
          none_begins = more.none_begins;
          no_group = last c.0.0 more.reads.front us c.0.1 more.reads.is more.reads.parts one.1 more.no_group;
        } in
        subst (λ z. ReadSpecifiers types said ts z rest) q.0 (subst (λ z. ReadSpecifiers types said ts (s ∷ c.0.0) z) q.1 all)
      where
        last : (ss1 : List SpecifierTree) (vs ws rest1 : List Lexeme) → Specifiers types (said || says_type s) vs ss1 → ws ≡ vs ++ rest1 → (is_atomic s ≡ true → front T.OpenParenthesis ws ≡ None) →
            (ends_in_atomic ss1 ≡ true → front T.OpenParenthesis rest1 ≡ None) → ends_in_atomic (s ∷ ss1) ≡ true → front T.OpenParenthesis rest1 ≡ None
        last [] vs ws rest1 m e f next1 a = let z : ws ≡ rest1 = e ∙ ap (λ y. y ++ rest1) (none_there m refl) in ap (front T.OpenParenthesis) (sym z) ∙ f a
        last (s1 ∷ ss2) vs ws rest1 m e f next1 a = next1 a
    by None us next e g =
        let q = both_are [] ss us rest g in
        let none : begins_with (begins_specifier types said) us ≡ false = ap (begins_with (begins_specifier types said)) (sym e.0) ∙ e.1 in
        let all : ReadSpecifiers types said ts [] us = record { reads = record { front = []; is = no_specifier refl refl; parts = e.0 ∙ refl }; none_begins = none; no_group = λ a. absurd cc } in
        subst (λ z. ReadSpecifiers types said ts z rest) q.0 (subst (λ z. ReadSpecifiers types said ts [] z) q.1 all)

specifier_none : (types : Types) (said : Bool) (rest : List Lexeme) → begins_with (begins_specifier types said) rest ≡ false → specifier_at types said rest ≡ Ok (None, rest)
unfolding specifier_at
specifier_none types said [] h = refl
specifier_none types said (t ∷ ts) h = by (role t) h
  where
    by : (r : Role) → (begins_keyword r || (not said && (is_identifier t.terminal && types t.text))) ≡ false → specifier_by r types said (t ∷ ts) t ts ≡ Ok (None, t ∷ ts)
    by R.Storage g = absurd cc
    by R.Qualifier g = absurd cc
    by R.Atomic g = absurd cc
    by R.Basic g = absurd cc
    by R.Record g = absurd cc
    by R.Enumeration g = absurd cc
    by R.Typeof g = absurd cc
    by R.Alignment g = absurd cc
    by R.Attribute g = absurd cc
    by R.Assembler g = rw g refl
    by R.Assertion g = rw g refl
    by R.Ellipsis g = rw g refl
    by R.Other g = rw g refl

-- what follows a specifier, and those behind it
next_follows : (types : Types) (said : Bool) (s : SpecifierTree) {ts : List Lexeme} {ss : List SpecifierTree} (rest : List Lexeme) → Specifiers types said ts ss → front T.OpenBrace rest ≡ None →
    (ends_in_atomic (s ∷ ss) ≡ true → front T.OpenParenthesis rest ≡ None) → Follows s (ts ++ rest)
next_follows types said s rest (no_specifier h g) brace alone = rw h (record { no_brace = brace; no_group = λ a. alone (ap (λ z. ends_in_atomic (s ∷ z)) g ∙ a) })
next_follows types said s rest (one_specifier {ts1 = ts1} {ts2 = ts2} m ms parts g) brace alone =
    let b = specifier_first types said m in
    rw (parts, b.parts) (record {
      no_brace = not_this types said T.OpenBrace b.head ((b.tail ++ ts2) ++ rest) refl refl b.begins;
      no_group = λ a. not_this types said T.OpenParenthesis b.head ((b.tail ++ ts2) ++ rest) refl refl b.begins;
    })

pub specifiers_complete : (types : Types) (n : ℕ) (said : Bool) {ts : List Lexeme} {ss : List SpecifierTree} (rest : List Lexeme) → Specifiers types said ts ss → begins_with (begins_specifier types (any_says said ss)) rest ≡ false →
    (ends_in_atomic ss ≡ true → front T.OpenParenthesis rest ≡ None) → front T.OpenBrace rest ≡ None → length ts ≤ n → specifiers_at types n said (ts ++ rest) ≡ Ok (ss, rest)
unfolding specifiers_at
specifiers_complete types zero said rest (no_specifier h g) none alone brace le = rw (h, g) refl
specifiers_complete types (suc n) said rest (no_specifier h g) none alone brace le =
    let here : specifier_at types said rest ≡ Ok (None, rest) = specifier_none types said rest (ap (λ z. begins_with (begins_specifier types (any_says said z)) rest) (sym g) ∙ none) in
    rw (h, g, here) refl
specifiers_complete types zero said rest (one_specifier {ts1 = ts1} {ts2 = ts2} m ms parts g) none alone brace le =
    let some : 0 < length ts1 = specifier_some types said m in
    absurd (omega (arith, ap length parts, length-append ts1 ts2))
specifiers_complete types (suc n) said rest (one_specifier {ts1 = ts1} {ts2 = ts2} {s = s} {ss1 = ss1} m ms parts g) none alone brace le =
    let some : 0 < length ts1 = specifier_some types said m in
    let fits : length ts2 ≤ n = omega (arith, ap length parts, length-append ts1 ts2) in
    let none1 : begins_with (begins_specifier types (any_says said (s ∷ ss1))) rest ≡ false = ap (λ z. begins_with (begins_specifier types (any_says said z)) rest) (sym g) ∙ none in
    let group1 : ends_in_atomic (s ∷ ss1) ≡ true → front T.OpenParenthesis rest ≡ None = λ a. alone (ap ends_in_atomic g ∙ a) in
    let one : specifier_at types said (ts1 ++ (ts2 ++ rest)) ≡ Ok (Some s, ts2 ++ rest) = specifier_complete types said (ts2 ++ rest) m (next_follows types (said || says_type s) s rest ms brace group1) in
    let more : specifiers_at types n (said || says_type s) (ts2 ++ rest) ≡ Ok (ss1, rest) = specifiers_complete types n (said || says_type s) rest ms none1 (λ a. group1 (further ss1 a)) brace fits in
    rw (parts, g, append_assoc ts1 ts2 rest, one, more) refl
  where
    further : (us : List SpecifierTree) → ends_in_atomic us ≡ true → ends_in_atomic (s ∷ us) ≡ true
    further [] a = absurd cc
    further (s1 ∷ us) a = a
