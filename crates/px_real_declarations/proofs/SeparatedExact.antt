-- What stands between commas is read exactly, with what may follow the last.
use Rattle.std.proofs.Common.{◌≡◌, ℕ, zero, suc, ◌≤◌, Bool, true, false, if◌then◌else◌, List, [], ◌∷◌, ◌++◌, length, Ok, Err, refl, ap, sym, ◌∙◌, append_assoc, length-append, arith}
use Rattle.std.proofs.lemmas.List.{append-nil}
use Rattle.px_real_expressions.specs.declared.terminal.Terminal.TheVariants as T
use Rattle.px_real_expressions.specs.Lexemes.{Lexeme, same}
use Rattle.px_real_expressions.specs.Stops.{wrong, ◌>>=◌}
use Rattle.px_real_expressions.specs.Reading.{Reader}
use Rattle.px_real_expressions.specs.Grammar.{Gram, MoreItems, no_item, an_item}
use Rattle.px_real_expressions.proofs.Tools.{done, both_are, bind_ok, same_is, Reads}
use Rattle.px_real_declarations.specs.declared.trailing.Trailing.{Trailing}
use Rattle.px_real_declarations.specs.declared.trailing.Trailing.TheVariants as E
use Rattle.px_real_declarations.specs.declared.role.Role.TheVariants as R
use Rattle.px_real_declarations.specs.Roles.{role, same_role}
use Rattle.px_real_declarations.specs.Grammar.{Listed, none_listed, some_listed}
use Rattle.px_real_declarations.specs.HeldReading.{next_of, behind_comma, on_next, dots, another, separated_from}
use Rattle.px_real_declarations.proofs.PartExact.{at_end, Ended, at_over, at_comma}

-- what follows the last
pub data Tail (e : Trailing) : List Lexeme → Bool → Type 0 where
  no_tail : {ts : List Lexeme} {b : Bool} → ts ≡ [] → b ≡ false → Tail e ts b
  dots_tail : {c t : Lexeme} {ts : List Lexeme} {b : Bool} → e ≡ E.Dots → c.terminal ≡ T.Comma → same_role R.Ellipsis (role t) ≡ true → ts ≡ c ∷ t ∷ [] → b ≡ true → Tail e ts b
  comma_tail : {c : Lexeme} {ts : List Lexeme} {b : Bool} → e ≡ E.Comma → c.terminal ≡ T.Comma → ts ≡ c ∷ [] → b ≡ false → Tail e ts b

-- one by one
pub data Separated {A : Type 0} (e : Trailing) (G : Gram A) : List Lexeme → List A → Bool → Type 0 where
  the_last : {ts1 ts2 ts : List Lexeme} {x : A} {xs : List A} {b : Bool} → G ts1 x → Tail e ts2 b → ts ≡ ts1 ++ ts2 → xs ≡ x ∷ [] → Separated e G ts xs b
  one_before : (c : Lexeme) {ts1 ts2 ts : List Lexeme} {x : A} {xs1 xs : List A} {b : Bool} → G ts1 x → c.terminal ≡ T.Comma → Separated e G ts2 xs1 b → ts ≡ ts1 ++ c ∷ ts2 → xs ≡ x ∷ xs1 → Separated e G ts xs b

-- a reader of one of them, which begins with a token that isn't `...`
pub record ExactOf {A : Type 0} (G : Gram A) (r : Reader A) : Type 0 where
  pub sound : (ts : List Lexeme) (x : A) (rest : List Lexeme) → r ts ≡ Ok (x, rest) → Reads G ts x rest
  pub complete : (front : List Lexeme) (x : A) (rest : List Lexeme) → G front x → Ended rest → r (front ++ rest) ≡ Ok (x, rest)
  pub first : {ts : List Lexeme} {x : A} → G ts x → (t : Lexeme) × (us : List Lexeme) × (same_role R.Ellipsis (role t) ≡ false) × (ts ≡ t ∷ us)

-- ---- what was read

abbrev pub pair : {A : Type 0} → List A → Bool → List A × Bool
pair a x = (a, x)

both_of : {A : Type 0} (a b : List A) (x y : Bool) (us vs : List Lexeme) → done (pair a x) us ≡ done (pair b y) vs → (a ≡ b) × (x ≡ y) × (us ≡ vs)
both_of {A = A} a b x y us vs h =
    let l : List A × Bool = (a, x) in
    let r : List A × Bool = (b, y) in
    let p = both_are l r us vs h in
    let one : l ≡ r = p.0 in
    (ap (λ z. z.0) one, ap (λ z. z.1) one, p.1)

module _ {A : Type 0} (e : Trailing) {G : Gram A} {r : Reader A} (p : ExactOf G r) where
  pub separated_sound : (n : ℕ) (ts : List Lexeme) (xs : List A) (b : Bool) → separated_from e n r ts ≡ Ok ((xs, b), []) → Separated e G ts xs b
  unfolding separated_from
  separated_sound zero ts xs b h = absurd cc
  separated_sound (suc n) ts xs b h =
      let x = bind_ok (r ts) _ ((xs, b), []) h in
      let one = p.sound ts x.0.0 x.0.1 x.1 in
      let y = bind_ok (next_of e x.0.1) _ ((xs, b), []) x.2 in
      follow x.0.0 one.front one.is x.0.1 one.parts (λ us ys g. separated_sound n us ys b g) x.2
    where
      follow : (x : A) (front : List Lexeme) → G front x → (rest : List Lexeme) → ts ≡ front ++ rest → ((us : List Lexeme) (ys : List A) → separated_from e n r us ≡ Ok ((ys, b), []) → Separated e G us ys b) →
          (next_of e rest >>= λ y. on_next x y (separated_from e n r)) ≡ Ok ((xs, b), []) → Separated e G ts xs b
      follow x front m [] parts next g = let q = both_of (x ∷ []) xs false b [] [] g in the_last m (no_tail refl (sym q.1)) parts (sym q.0)
      follow x front m (c ∷ us) parts next g = by (same c.terminal T.Comma) refl g
        where
          more : c.terminal ≡ T.Comma → (separated_from e n r us >>= λ y. done (pair (x ∷ y.0.0) y.0.1) y.1) ≡ Ok ((xs, b), []) → Separated e G ts xs b
          more k g1 =
              let y = bind_ok (separated_from e n r us) _ ((xs, b), []) g1 in
              let q = both_of (x ∷ y.0.0.0) xs y.0.0.1 b y.0.1 [] y.2 in
              let here : separated_from e n r us ≡ Ok ((y.0.0.0, b), []) = y.1 ∙ ap (λ z. done (pair y.0.0.0 z) y.0.1) q.1 ∙ ap (λ z. done (pair y.0.0.0 b) z) q.2 in
              one_before c m k (next us y.0.0.0 here) parts (sym q.0)

          dotted : (t : Lexeme) (vs : List Lexeme) (d : Bool) → e ≡ E.Dots → c.terminal ≡ T.Comma → us ≡ t ∷ vs → same_role R.Ellipsis (role t) ≡ d →
              (on_next x (if d then dots vs else another (t ∷ vs)) (separated_from e n r)) ≡ Ok ((xs, b), []) → Separated e G ts xs b
          dotted t vs true is k same d g1 =
              let q = both_of (x ∷ []) xs true b vs [] g1 in
              the_last m (dots_tail is k d (ap (λ z. c ∷ z) (same ∙ ap (λ z. t ∷ z) q.2)) (sym q.1)) parts (sym q.0)
          dotted t vs false is k same d g1 = more k (rw same g1)

          comma : (f : Trailing) (vs : List Lexeme) → e ≡ f → us ≡ vs → c.terminal ≡ T.Comma → on_next x (behind_comma f vs) (separated_from e n r) ≡ Ok ((xs, b), []) → Separated e G ts xs b
          comma E.Nothing vs is same k g1 = more k (rw same g1)
          comma E.Dots [] is same k g1 = more k (rw same g1)
          comma E.Dots (t ∷ vs) is same k g1 = dotted t vs (same_role R.Ellipsis (role t)) is k same refl g1
          comma E.Comma [] is same k g1 = let q = both_of (x ∷ []) xs false b [] [] g1 in the_last m (comma_tail is k (ap (λ z. c ∷ z) same) (sym q.1)) parts (sym q.0)
          comma E.Comma (t ∷ vs) is same k g1 = more k (rw same g1)

          by : (d : Bool) → same c.terminal T.Comma ≡ d → ((if d then Ok (behind_comma e us) else Err (wrong (c ∷ us))) >>= λ y. on_next x y (separated_from e n r)) ≡ Ok ((xs, b), []) → Separated e G ts xs b
          by true k g1 = comma e us refl refl (same_is c.terminal T.Comma k) g1
          by false k g1 = absurd cc

  -- ---- what is there is read

  tail_ended : {ts : List Lexeme} {b : Bool} → Tail e ts b → Ended ts
  tail_ended (no_tail h g) = at_over (at_end h)
  tail_ended (dots_tail is k d h g) = at_comma k h
  tail_ended (comma_tail is k h g) = at_comma k h

  tail_read : (x : A) (more : Reader (List A × Bool)) {ts : List Lexeme} {b : Bool} → Tail e ts b → (next_of e ts >>= λ y. on_next x y more) ≡ Ok ((x ∷ [], b), [])
  tail_read x more (no_tail h g) = rw (h, g) refl
  tail_read x more (dots_tail is k d h g) = rw (h, g, is, k, d) refl
  tail_read x more (comma_tail is k h g) = rw (h, g, is, k) refl

  pub separated_first : {ts : List Lexeme} {xs : List A} {b : Bool} → Separated e G ts xs b → (t : Lexeme) × (us : List Lexeme) × (same_role R.Ellipsis (role t) ≡ false) × (ts ≡ t ∷ us)
  separated_first (the_last {ts2 = ts2} m t parts g) = let f = p.first m in (f.0, f.1 ++ ts2, f.2, parts ∙ ap (λ z. z ++ ts2) f.3)
  separated_first (one_before c {ts2 = ts2} m k s parts g) = let f = p.first m in (f.0, f.1 ++ c ∷ ts2, f.2, parts ∙ ap (λ z. z ++ c ∷ ts2) f.3)

  another_there : (f : Trailing) (t : Lexeme) (us : List Lexeme) → same_role R.Ellipsis (role t) ≡ false → behind_comma f (t ∷ us) ≡ another (t ∷ us)
  another_there E.Nothing t us d = refl
  another_there E.Dots t us d = rw d refl
  another_there E.Comma t us d = refl

  pub separated_complete : (n : ℕ) {ts : List Lexeme} {xs : List A} {b : Bool} → Separated e G ts xs b → length ts ≤ n → separated_from e n r ts ≡ Ok ((xs, b), [])
  unfolding separated_from
  separated_complete zero s le = let f = separated_first s in absurd (omega (arith, ap length f.3))
  separated_complete (suc n) (the_last {ts1 = ts1} {ts2 = ts2} {x = x} m t parts g) le =
      let one : r (ts1 ++ ts2) ≡ Ok (x, ts2) = p.complete ts1 x ts2 m (tail_ended t) in
      rw (parts, g, one) (tail_read x (separated_from e n r) t)
  separated_complete (suc n) (one_before c {ts1 = ts1} {ts2 = ts2} {x = x} {xs1 = xs1} {b = b} m k s parts g) le =
      let one : r (ts1 ++ c ∷ ts2) ≡ Ok (x, c ∷ ts2) = p.complete ts1 x (c ∷ ts2) m (at_comma k refl) in
      let f = separated_first s in
      let fits : length ts2 ≤ n = omega (arith, ap length parts, length-append ts1 (c ∷ ts2)) in
      let next : behind_comma e ts2 ≡ another ts2 = ap (behind_comma e) f.3 ∙ another_there e f.0 f.1 f.2 ∙ ap another (sym f.3) in
      let more : separated_from e n r ts2 ≡ Ok ((xs1, b), []) = separated_complete n s fits in
      rw (parts, g, one, k, next, more) refl

-- ---- as a list and what follows it

pub record InParts {A : Type 0} (e : Trailing) (G : Gram A) (ts : List Lexeme) (xs : List A) (b : Bool) : Type 0 where
  pub listed : List Lexeme
  pub behind : List Lexeme
  pub x : A
  pub rest : List A
  pub is : Listed G listed (x ∷ rest)
  pub tail : Tail e behind b
  pub parts : ts ≡ listed ++ behind
  pub same : xs ≡ x ∷ rest

module _ {A : Type 0} {G : Gram A} where
  more_of : {ts : List Lexeme} {x : A} {xs : List A} → Listed G ts (x ∷ xs) → (ts1 : List Lexeme) × (ts2 : List Lexeme) × G ts1 x × MoreItems G ts2 xs × (ts ≡ ts1 ++ ts2)
  more_of (none_listed h g) = absurd cc
  more_of {x = x} {xs = xs} (some_listed {ts1 = ts1} {ts2 = ts2} {x = y} {xs1 = ys} m ms parts g) =
      let q : (y ≡ x) × (ys ≡ xs) = (cc, cc) in
      (ts1, ts2, rw (← q.0) m, rw (← q.1) ms, parts)

module _ {A : Type 0} {e : Trailing} {G : Gram A} where
  pub in_parts : {ts : List Lexeme} {xs : List A} {b : Bool} → Separated e G ts xs b → InParts e G ts xs b
  in_parts (the_last {ts1 = ts1} {ts2 = ts2} {x = x} m t parts g) =
      record { listed = ts1; behind = ts2; x = x; rest = []; is = some_listed m (no_item refl refl) (sym (append-nil ts1)) refl; tail = t; parts = parts; same = g }
  in_parts (one_before c {ts1 = ts1} {ts2 = ts2} {x = x} {xs1 = xs1} m k s parts g) =
      let w = in_parts s in
      let l = more_of w.is in
      record {
        listed = ts1 ++ c ∷ w.listed;
        behind = w.behind;
        x = x;
        rest = w.x ∷ w.rest;
        is = some_listed m (an_item k l.2 l.3 (ap (λ z. c ∷ z) l.4) refl) refl refl;
        tail = w.tail;
        parts = parts ∙ ap (λ z. ts1 ++ c ∷ z) w.parts ∙ sym (append_assoc ts1 (c ∷ w.listed) w.behind);
        same = g ∙ ap (λ z. x ∷ z) w.same;
      }

  joined_more : {us : List Lexeme} {xs : List A} {b : Bool} (behind ts1 ts : List Lexeme) (x : A) → G ts1 x → MoreItems G us xs → Tail e behind b → ts ≡ ts1 ++ (us ++ behind) → Separated e G ts (x ∷ xs) b
  joined_more behind ts1 ts x m (no_item h g) t parts = the_last m t (parts ∙ ap (λ z. ts1 ++ (z ++ behind)) h) (ap (λ z. x ∷ z) g)
  joined_more behind ts1 ts x m (an_item {t = c} {ts1 = us1} {ts2 = us2} {e = y} k m1 ms h g) t parts =
      one_before c m k (joined_more behind us1 (us1 ++ (us2 ++ behind)) y m1 ms t refl) (parts ∙ ap (λ z. ts1 ++ (z ++ behind)) h ∙ ap (λ z. ts1 ++ c ∷ z) (append_assoc us1 us2 behind)) (ap (λ z. x ∷ z) g)

  pub joined : {listed behind ts : List Lexeme} {x : A} {xs : List A} {b : Bool} → Listed G listed (x ∷ xs) → Tail e behind b → ts ≡ listed ++ behind → Separated e G ts (x ∷ xs) b
  joined {behind = behind} {ts = ts} {x = x} l t parts =
      let m = more_of l in
      joined_more behind m.0 ts x m.2 m.3 t (parts ∙ ap (λ z. z ++ behind) m.4 ∙ append_assoc m.0 m.1 behind)
