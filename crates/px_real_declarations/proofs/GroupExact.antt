-- Keywords with their parentheses, and what stands many times.
use Rattle.std.proofs.Common.{◌≡◌, ℕ, zero, suc, ◌<◌, ◌≤◌, Bool, true, false, List, [], ◌∷◌, ◌++◌, length, Option, Some, None, Ok, refl, ap, sym, subst, ◌∙◌, append_assoc, length-append, arith, inl, inr}
use Rattle.std.proofs.lemmas.Option.{same_Some}
use Rattle.px_expressions.specs.Reading.{or_else}
use Rattle.px_expressions.proofs.ExactTools.{chosen, either}
use Rattle.px_real_expressions.specs.declared.terminal.Terminal.TheVariants as T
use Rattle.px_real_expressions.specs.Lexemes.{Lexeme}
use Rattle.px_real_expressions.specs.Stops.{◌>>=◌}
use Rattle.px_real_expressions.specs.Reading.{Reader, closed_at, held_up_to}
use Rattle.px_real_expressions.specs.Grammar.{Gram, Between, between, IsHeld}
use Rattle.px_real_expressions.proofs.Tools.{done, both_are, bind_ok, front_bind, front_here, Reads}
use Rattle.px_real_expressions.proofs.HeldExact.{held_exact}
use Rattle.px_real_expressions.proofs.OperandExact.{closed_sound, closed_complete, held_closes}
use Rattle.px_real_declarations.specs.declared.role.Role.{Role}
use Rattle.px_real_declarations.specs.declared.role.Role.TheVariants as R
use Rattle.px_real_declarations.specs.Roles.{has_role, role, same_role}
use Rattle.px_real_declarations.specs.DeclarationTree.{GroupTree}
use Rattle.px_real_declarations.specs.Grammar.{IsGroup, is_group, Many, no_more, one_more, Attributes}
use Rattle.px_real_declarations.specs.Reading.{role_front, grouped, group_behind, group_at, many_at, attributes_at}

-- ---- what was read, or that there is none

abbrev pub ReadOne : {A : Type 0} → Gram A → List Lexeme → Option A → List Lexeme → Type 0
ReadOne G ts (Some a) rest = Reads G ts a rest
ReadOne G ts None rest = ts ≡ rest

-- what was read of one
pub one_is : {A : Type 0} (a : A) (us : List Lexeme) (o : Option A) (rest : List Lexeme) → done (Some a) us ≡ done o rest → (o ≡ Some a) × (us ≡ rest)
one_is a us o rest h = let q = both_are (Some a) o us rest h in (sym q.0, q.1)

pub none_is : {A : Type 0} (us : List Lexeme) (o : Option A) (rest : List Lexeme) → done None us ≡ done o rest → (o ≡ None) × (us ≡ rest)
none_is us o rest h = let q = both_are None o us rest h in (sym q.0, q.1)

pub some_read : {A : Type 0} {G : Gram A} {ts rest : List Lexeme} (a : A) (o : Option A) → o ≡ Some a → Reads G ts a rest → ReadOne G ts o rest
some_read {G = G} {ts = ts} {rest = rest} a o e r = subst (λ z. ReadOne G ts z rest) (sym e) r

pub none_read : {A : Type 0} (G : Gram A) {ts rest : List Lexeme} (o : Option A) → o ≡ None → ts ≡ rest → ReadOne G ts o rest
none_read G {ts = ts} {rest = rest} o e r = subst (λ z. ReadOne G ts z rest) (sym e) r

-- a reader of one at most
pub record ExactOne {A : Type 0} (G : Gram A) (r : Reader (Option A)) : Type 0 where
  pub sound : (ts : List Lexeme) (o : Option A) (rest : List Lexeme) → r ts ≡ Ok (o, rest) → ReadOne G ts o rest
  pub complete : (front : List Lexeme) (a : A) (rest : List Lexeme) → G front a → r (front ++ rest) ≡ Ok (Some a, rest)
  pub some : (ts : List Lexeme) (a : A) → G ts a → 0 < length ts

-- nothing is left, or nothing is read there
pub data Stopped {A : Type 0} (r : Reader (Option A)) (rest : List Lexeme) : Type 0 where
  nothing_left : rest ≡ [] → Stopped r rest
  none_there : r rest ≡ Ok (None, rest) → Stopped r rest

module _ {A : Type 0} {G : Gram A} {r : Reader (Option A)} (p : ExactOne G r) where
  pub many_sound : (n : ℕ) (ts : List Lexeme) (xs : List A) (rest : List Lexeme) → many_at n r ts ≡ Ok (xs, rest) → Reads (Many G) ts xs rest
  unfolding many_at
  many_sound zero ts xs rest h = let q = both_are [] xs ts rest h in record { front = []; is = no_more refl (sym q.0); parts = q.1 }
  many_sound (suc n) ts xs rest h =
      let b = bind_ok (r ts) _ (xs, rest) h in
      by b.0.0 b.0.1 (λ us xs1 rest1 g. many_sound n us xs1 rest1 g) (p.sound ts b.0.0 b.0.1 b.1) b.2
    where
      by : (o : Option A) (us : List Lexeme) → ((vs : List Lexeme) (xs1 : List A) (rest1 : List Lexeme) → many_at n r vs ≡ Ok (xs1, rest1) → Reads (Many G) vs xs1 rest1) → ReadOne G ts o us →
          or_else o (λ a. many_at n r us >>= λ y. done (a ∷ y.0) y.1) (done [] us) ≡ Ok (xs, rest) → Reads (Many G) ts xs rest
      by (Some a) us next one g =
          let c = bind_ok (many_at n r us) (λ y. done (a ∷ y.0) y.1) (xs, rest) g in
          let q = both_are (a ∷ c.0.0) xs c.0.1 rest c.2 in
          let more = next us c.0.0 c.0.1 c.1 in
          record {
            front = one.front ++ more.front;
            is = one_more one.is more.is refl (sym q.0);
            parts = one.parts ∙ ap (λ z. one.front ++ z) (more.parts ∙ ap (λ z. more.front ++ z) q.1) ∙ sym (append_assoc one.front more.front rest);
          }
      by None us next e g = let q = both_are [] xs us rest g in record { front = []; is = no_more refl (sym q.0); parts = e ∙ q.1 }

  pub many_complete : (n : ℕ) {ts : List Lexeme} {xs : List A} (rest : List Lexeme) → Many G ts xs → r rest ≡ Ok (None, rest) → length ts ≤ n → many_at n r (ts ++ rest) ≡ Ok (xs, rest)
  unfolding many_at
  many_complete zero rest (no_more h g) none le = rw (h, g) refl
  many_complete (suc n) rest (no_more h g) none le = rw (h, g, none) refl
  many_complete zero rest (one_more {ts1 = ts1} {ts2 = ts2} {x = x} m ms parts g) none le =
      let some : 0 < length ts1 = p.some ts1 x m in
      absurd (omega (arith, ap length parts, length-append ts1 ts2))
  many_complete (suc n) rest (one_more {ts1 = ts1} {ts2 = ts2} {x = x} {xs1 = xs1} m ms parts g) none le =
      let some : 0 < length ts1 = p.some ts1 x m in
      let fits : length ts2 ≤ n = omega (arith, ap length parts, length-append ts1 ts2) in
      let one : r (ts1 ++ (ts2 ++ rest)) ≡ Ok (Some x, ts2 ++ rest) = p.complete ts1 x (ts2 ++ rest) m in
      let more : many_at n r (ts2 ++ rest) ≡ Ok (xs1, rest) = many_complete n rest ms none fits in
      rw (parts, g, append_assoc ts1 ts2 rest, one, more) refl

  -- where no more of them were read, there was none
  pub many_stops : (n : ℕ) (ts : List Lexeme) (xs : List A) (rest : List Lexeme) → length ts ≤ n → many_at n r ts ≡ Ok (xs, rest) → Stopped r rest
  unfolding many_at
  many_stops zero [] xs rest le h = let q = both_are [] xs [] rest h in nothing_left (sym q.1)
  many_stops zero (t ∷ ts) xs rest le h = absurd (omega arith)
  many_stops (suc n) ts xs rest le h =
      let b = bind_ok (r ts) _ (xs, rest) h in
      by b.0.0 b.0.1 (λ us xs1 rest1 le1 g. many_stops n us xs1 rest1 le1 g) b.1 (p.sound ts b.0.0 b.0.1 b.1) b.2
    where
      by : (o : Option A) (us : List Lexeme) → ((vs : List Lexeme) (xs1 : List A) (rest1 : List Lexeme) → length vs ≤ n → many_at n r vs ≡ Ok (xs1, rest1) → Stopped r rest1) → r ts ≡ Ok (o, us) → ReadOne G ts o us →
          or_else o (λ a. many_at n r us >>= λ y. done (a ∷ y.0) y.1) (done [] us) ≡ Ok (xs, rest) → Stopped r rest
      by (Some a) us next e one g =
          let c = bind_ok (many_at n r us) (λ y. done (a ∷ y.0) y.1) (xs, rest) g in
          let q = both_are (a ∷ c.0.0) xs c.0.1 rest c.2 in
          let some : 0 < length one.front = p.some one.front a one.is in
          let fits : length us ≤ n = omega (arith, ap length one.parts, length-append one.front us) in
          subst (Stopped r) q.1 (next us c.0.0 c.0.1 fits c.1)
      by None us next e one g =
          let q = both_are [] xs us rest g in
          let here : r us ≡ Ok (None, us) = ap r (sym one) ∙ e in
          subst (Stopped r) q.1 (none_there here)

-- ---- the keyword at the front

-- what no keyword of declarations is has no role
pub plain_role : (t : Lexeme) → has_role t.terminal ≡ false → role t ≡ R.Other
unfolding role
plain_role t h = rw h refl

pub role_is : (kind : Role → Bool) (ts : List Lexeme) (x : Lexeme × List Lexeme) → role_front kind ts ≡ Some x → (kind (role x.0) ≡ true) × (ts ≡ x.0 ∷ x.1)
role_is kind [] x e = absurd cc
role_is kind (t ∷ ts) x e =
    let here : Lexeme × List Lexeme = (t, ts) in
    elim (chosen (kind (role t)) (Some here) None (Some x) e) [
      | inl h ↦
          let p = same_Some here x h.1 in
          (ap (λ (z : Lexeme × List Lexeme). kind (role z.0)) (sym p) ∙ h.0, ap (λ (z : Lexeme × List Lexeme). z.0 ∷ z.1) p)
      | inr h ↦ absurd (let z = h.1 in cc)
    ]

-- what has no role begins nothing that a keyword begins
pub no_role : (kind : Role → Bool) (t : Lexeme) (ts : List Lexeme) → kind R.Other ≡ false → has_role t.terminal ≡ false → role_front kind (t ∷ ts) ≡ None
no_role kind t ts n h = rw (plain_role t h, n) refl

-- ---- a keyword with its parentheses

pub record Behind (t : Lexeme) (ts : List Lexeme) (g : GroupTree) (rest : List Lexeme) : Type 0 where
  pub front : List Lexeme
  pub opening : Lexeme
  pub held : List Lexeme
  pub is : Between T.OpenParenthesis T.CloseParenthesis IsHeld front opening held
  pub tree : g ≡ grouped t held
  pub parts : ts ≡ front ++ rest

pub behind_sound : (t : Lexeme) (ts : List Lexeme) (g : GroupTree) (rest : List Lexeme) → group_behind t ts ≡ Ok (g, rest) → Behind t ts g rest
unfolding group_behind
behind_sound t ts g rest h =
    let o = front_bind T.OpenParenthesis ts _ (g, rest) h in
    let b = bind_ok (closed_at T.CloseParenthesis (held_up_to T.CloseParenthesis) o.0.1) _ (g, rest) o.3 in
    let r = closed_sound (held_exact T.CloseParenthesis refl refl) T.OpenParenthesis T.CloseParenthesis o.0.0 o.0.1 b.0.0 b.0.1 o.1 b.1 in
    let q = both_are (grouped t b.0.0) g b.0.1 rest b.2 in
    record { front = r.front; opening = o.0.0; held = b.0.0; is = r.is; tree = sym q.0; parts = o.2 ∙ r.parts ∙ ap (λ z. r.front ++ z) q.1 }

pub behind_complete : (t : Lexeme) {ts a : List Lexeme} {o : Lexeme} (rest : List Lexeme) → Between T.OpenParenthesis T.CloseParenthesis IsHeld ts o a → group_behind t (ts ++ rest) ≡ Ok (grouped t a, rest)
unfolding group_behind
behind_complete t {a = a} rest (between {o = o} c {ts1 = ts1} ko kc g parts) =
    let one : closed_at T.CloseParenthesis (held_up_to T.CloseParenthesis) ((ts1 ++ c ∷ []) ++ rest) ≡ Ok (a, rest) =
    closed_complete (held_exact T.CloseParenthesis refl refl) T.OpenParenthesis T.CloseParenthesis (held_closes T.CloseParenthesis) c ts1 a rest kc g in
    rw (parts, front_here T.OpenParenthesis o ((ts1 ++ c ∷ []) ++ rest) ko, one) refl

pub group_sound : (kind : Role → Bool) (ts : List Lexeme) (o : Option GroupTree) (rest : List Lexeme) → group_at kind ts ≡ Ok (o, rest) → ReadOne (IsGroup kind) ts o rest
unfolding group_at
group_sound kind ts o rest h =
    elim (either (role_front kind ts) _ _ (Ok (o, rest)) h) [
      | inl w ↦
          let p = role_is kind ts w.0 w.1 in
          let b = bind_ok (group_behind w.0.0 w.0.1) _ (o, rest) w.2 in
          let r = behind_sound w.0.0 w.0.1 b.0.0 b.0.1 b.1 in
          let q = one_is b.0.0 b.0.1 o rest b.2 in
          some_read b.0.0 o q.0 (record { front = w.0.0 ∷ r.front; is = is_group p.0 r.is refl r.tree; parts = p.1 ∙ ap (λ z. w.0.0 ∷ z) (r.parts ∙ ap (λ z. r.front ++ z) q.1) })
      | inr w ↦ let q = none_is ts o rest w.1 in none_read (IsGroup kind) o q.0 q.1
    ]

pub group_complete : (kind : Role → Bool) {ts : List Lexeme} {g : GroupTree} (rest : List Lexeme) → IsGroup kind ts g → group_at kind (ts ++ rest) ≡ Ok (Some g, rest)
unfolding group_at
group_complete kind rest (is_group {t = t} {ts1 = ts1} {a = a} k b parts e) =
    let one : group_behind t (ts1 ++ rest) ≡ Ok (grouped t a, rest) = behind_complete t rest b in
    rw (parts, e, k, one) refl

pub group_none : (kind : Role → Bool) (rest : List Lexeme) → role_front kind rest ≡ None → group_at kind rest ≡ Ok (None, rest)
unfolding group_at
group_none kind rest h = rw h refl

group_some : (kind : Role → Bool) (ts : List Lexeme) (g : GroupTree) → IsGroup kind ts g → 0 < length ts
group_some kind ts g (is_group k b parts e) = rw parts (omega arith)

pub group_exact : (kind : Role → Bool) → ExactOne (IsGroup kind) (group_at kind)
group_exact kind = record { sound = group_sound kind; complete = λ us g rest m. group_complete kind rest m; some = group_some kind }

-- ---- attributes

pub attributes_sound : (ts : List Lexeme) (gs : List GroupTree) (rest : List Lexeme) → attributes_at ts ≡ Ok (gs, rest) → Reads Attributes ts gs rest
unfolding attributes_at
attributes_sound ts gs rest h = many_sound (group_exact (same_role R.Attribute)) (length ts) ts gs rest h

pub attributes_complete : {ts : List Lexeme} {gs : List GroupTree} (rest : List Lexeme) → Attributes ts gs → role_front (same_role R.Attribute) rest ≡ None → attributes_at (ts ++ rest) ≡ Ok (gs, rest)
unfolding attributes_at
attributes_complete {ts = ts} rest m none =
    many_complete (group_exact (same_role R.Attribute)) (length (ts ++ rest)) rest m (group_none (same_role R.Attribute) rest none) (omega (arith, length-append ts rest))
