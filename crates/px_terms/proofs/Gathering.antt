-- Gathered terms are rising, keep coefficients and values, and are known by their coefficients.
use Rattle.std.proofs.Common.{◌≡◌, ℕ, ◌<◌, ◌+◌, ◌*◌, ◌%◌, ◌^◌, ◌++◌, List, [], ◌∷◌, refl, ap, ap₂, sym, subst, ◌∙◌, arith}
use Rattle.std.specs.Prelude.{cond, nat_eq, true, false, Bool}
use Rattle.std.specs.declared.cmp.Ordering.{Ordering}
use Rattle.std.specs.declared.cmp.Ordering.TheVariants.{Less, Equal, Greater}
use Rattle.std.specs.Ordering.{is_eq}
use Rattle.std.proofs.lemmas.Nat.{mul-mod_first}
use Rattle.std.proofs.lemmas.Bool.{eqb-true, eqb-false, ne_eqb}
use Rattle.px_terms.specs.Terms.{Term, key_cmp, product_at, value_at, coefficient_at, Before, IsRising, put_term, place_term, add_term, gathered}
use Rattle.px_terms.proofs.KeyOrder.{key_equal, key_itself, key_turned, before_later}

-- ---- sums modulo 2^32

pub sum_left : (a b s : ℕ) → a % 2 ^ 32 ≡ b % 2 ^ 32 → (a + s) % 2 ^ 32 ≡ (b + s) % 2 ^ 32
sum_left a b s h = omega arith

pub sum_right : (a b s : ℕ) → a % 2 ^ 32 ≡ b % 2 ^ 32 → (s + a) % 2 ^ 32 ≡ (s + b) % 2 ^ 32
sum_right a b s h = omega arith

pub sum_both : (a b c d : ℕ) → a % 2 ^ 32 ≡ b % 2 ^ 32 → c % 2 ^ 32 ≡ d % 2 ^ 32 → (a + c) % 2 ^ 32 ≡ (b + d) % 2 ^ 32
sum_both a b c d h k = omega arith

pub sum_cancelled : (a x y : ℕ) → (a + x) % 2 ^ 32 ≡ (a + y) % 2 ^ 32 → x % 2 ^ 32 ≡ y % 2 ^ 32
sum_cancelled a x y h = omega arith

pub same_word : (a b : ℕ) → a < 2 ^ 32 → b < 2 ^ 32 → a % 2 ^ 32 ≡ b % 2 ^ 32 → a ≡ b
same_word a b h k e = omega arith

pub wrapped_twice : (c : ℕ) → c % 2 ^ 32 % 2 ^ 32 ≡ c % 2 ^ 32
wrapped_twice c = omega arith

pub wrapped_below : (c : ℕ) → c % 2 ^ 32 < 2 ^ 32
wrapped_below c = omega arith

-- ---- coefficients

-- nothing stands with what stands before all
pub none_before : (k : List ℕ) (ts : List Term) → Before k ts → coefficient_at k ts ≡ 0
none_before k [] h = refl
none_before k (t ∷ ts) h = let e = none_before k ts h.1 in rw h.0 (omega arith)

first_coefficient : (t : Term) (ts : List Term) → Before t.vars ts → coefficient_at t.vars (t ∷ ts) ≡ t.coefficient
first_coefficient t ts h = rw (key_itself t.vars, none_before t.vars ts h) (omega arith)

pub coefficient_append : (k : List ℕ) (a b : List Term) → coefficient_at k (a ++ b) ≡ coefficient_at k a + coefficient_at k b
coefficient_append k [] b = omega arith
coefficient_append k (t ∷ a) b = let e = coefficient_append k a b in omega arith

pub value_append : (v : ℕ → ℕ) (a b : List Term) → value_at v (a ++ b) ≡ value_at v a + value_at v b
value_append v [] b = omega arith
value_append v (t ∷ a) b = let e = value_append v a b in omega arith

-- ---- a term in front

is_zero : (c : ℕ) → nat_eq (c % 2 ^ 32) 0 ≡ true → c % 2 ^ 32 ≡ 0
is_zero c h = eqb-true (c % 2 ^ 32) 0 h

not_zero : (c : ℕ) → nat_eq (c % 2 ^ 32) 0 ≡ false → 0 < c % 2 ^ 32
not_zero c h = let n = eqb-false (c % 2 ^ 32) 0 h in omega arith

-- a fact of `put_term`, by whether the coefficient is 0
pub by_zero : (P : List Term → Type 0) (c : ℕ) (m : List ℕ) (ts : List Term) → (c % 2 ^ 32 ≡ 0 → P ts)
    → (0 < c % 2 ^ 32 → P (record { coefficient = c % 2 ^ 32; vars = m } ∷ ts)) → P (put_term c m ts)
by_zero P c m ts z n =
    elim (nat_eq (c % 2 ^ 32) 0) as (λ b. nat_eq (c % 2 ^ 32) 0 ≡ b → P (cond b ts (record { coefficient = c % 2 ^ 32; vars = m } ∷ ts))) [
      | true ↦ λ e. z (is_zero c e)
      | false ↦ λ e. n (not_zero c e)
    ] refl

chosen_zero : (b : Bool) (c s : ℕ) → c % 2 ^ 32 ≡ 0 → s % 2 ^ 32 ≡ (cond b c 0 + s) % 2 ^ 32
chosen_zero true c s h = omega arith
chosen_zero false c s h = omega arith

pub chosen_wrapped : (b : Bool) (c s : ℕ) → (cond b (c % 2 ^ 32) 0 + s) % 2 ^ 32 ≡ (cond b c 0 + s) % 2 ^ 32
chosen_wrapped true c s = omega arith
chosen_wrapped false c s = refl

pub put_coefficient : (c : ℕ) (k m : List ℕ) (ts : List Term)
    → coefficient_at k (put_term c m ts) % 2 ^ 32 ≡ coefficient_at k (record { coefficient = c; vars = m } ∷ ts) % 2 ^ 32
put_coefficient c k m ts = by_zero (λ us. coefficient_at k us % 2 ^ 32 ≡ coefficient_at k (record { coefficient = c; vars = m } ∷ ts) % 2 ^ 32) c m ts
    (λ z. chosen_zero (is_eq (key_cmp k m)) c (coefficient_at k ts) z)
    (λ n. chosen_wrapped (is_eq (key_cmp k m)) c (coefficient_at k ts))

product_zero : (c p s : ℕ) → c % 2 ^ 32 ≡ 0 → s % 2 ^ 32 ≡ (c * p + s) % 2 ^ 32
product_zero c p s h =
    let e : (c * p) % 2 ^ 32 ≡ 0 = sym (mul-mod_first c p (2 ^ 32)) ∙ ap (λ x. (x * p) % 2 ^ 32) h ∙ nothing p in
    omega arith
  where
    nothing : (p : ℕ) → (0 * p) % 2 ^ 32 ≡ 0
    nothing p = grind arith

put_value : (v : ℕ → ℕ) (c : ℕ) (m : List ℕ) (ts : List Term)
    → value_at v (put_term c m ts) % 2 ^ 32 ≡ (c * product_at v m + value_at v ts) % 2 ^ 32
put_value v c m ts = by_zero (λ us. value_at v us % 2 ^ 32 ≡ (c * product_at v m + value_at v ts) % 2 ^ 32) c m ts
    (λ z. product_zero c (product_at v m) (value_at v ts) z)
    (λ n. sum_left (c % 2 ^ 32 * product_at v m) (c * product_at v m) (value_at v ts) (mul-mod_first c (product_at v m) (2 ^ 32)))

pub put_rising : (c : ℕ) (m : List ℕ) (ts : List Term) → Before m ts → IsRising ts → IsRising (put_term c m ts)
put_rising c m ts b r = by_zero IsRising c m ts (λ z. r) (λ n. (n, wrapped_below c, b, r))

put_before : (k : List ℕ) (c : ℕ) (m : List ℕ) (ts : List Term) → key_cmp k m ≡ Less → Before k ts → Before k (put_term c m ts)
put_before k c m ts h b = by_zero (Before k) c m ts (λ z. b) (λ n. (h, b))

pub put_append : (c : ℕ) (m : List ℕ) (ts us : List Term) → put_term c m ts ++ us ≡ put_term c m (ts ++ us)
put_append c m ts us = elim (nat_eq (c % 2 ^ 32) 0) as (λ b. cond b ts (record { coefficient = c % 2 ^ 32; vars = m } ∷ ts) ++ us ≡ cond b (ts ++ us) (record { coefficient = c % 2 ^ 32; vars = m } ∷ (ts ++ us))) [
  | true ↦ refl
  | false ↦ refl
]

-- a coefficient that is wrapped already
pub put_wrapped : (c : ℕ) (m : List ℕ) (ts : List Term) → put_term (c % 2 ^ 32) m ts ≡ put_term c m ts
put_wrapped c m ts = ap (λ (x : ℕ). cond (nat_eq x 0) ts (record { coefficient = x; vars = m } ∷ ts)) (wrapped_twice c)

put_whole : (c : ℕ) (m : List ℕ) (ts : List Term) → 0 < c → c < 2 ^ 32 → put_term c m ts ≡ record { coefficient = c; vars = m } ∷ ts
put_whole c m ts h k =
    let e : c % 2 ^ 32 ≡ c = omega arith in
    let f : nat_eq (c % 2 ^ 32) 0 ≡ false = ne_eqb (c % 2 ^ 32) 0 (λ x. absurd (omega arith)) in
    rw f (ap (λ (x : ℕ). record { coefficient = x; vars = m } ∷ ts) e)

-- ---- a term added

chosen_sum : (b : Bool) (a c r : ℕ) → cond b (a + c) 0 + r ≡ cond b a 0 + (cond b c 0 + r)
chosen_sum true a c r = omega arith
chosen_sum false a c r = omega arith

moved : (a l t r : ℕ) → l % 2 ^ 32 ≡ (t + r) % 2 ^ 32 → (a + l) % 2 ^ 32 ≡ (t + (a + r)) % 2 ^ 32
moved a l t r h = omega arith

place_coefficient : (k : List ℕ) (o : Ordering) (t s : Term) (ss later : List Term) → key_cmp t.vars s.vars ≡ o
    → coefficient_at k later % 2 ^ 32 ≡ coefficient_at k (t ∷ ss) % 2 ^ 32
    → coefficient_at k (place_term o t s ss later) % 2 ^ 32 ≡ coefficient_at k (t ∷ s ∷ ss) % 2 ^ 32
place_coefficient k Less t s ss later e h = put_coefficient t.coefficient k t.vars (s ∷ ss)
place_coefficient k Equal t s ss later e h =
    put_coefficient (t.coefficient + s.coefficient) k s.vars ss
    ∙ ap (λ x. x % 2 ^ 32) (chosen_sum (is_eq (key_cmp k s.vars)) t.coefficient s.coefficient (coefficient_at k ss)
    ∙ ap (λ m. cond (is_eq (key_cmp k m)) t.coefficient 0 + coefficient_at k (s ∷ ss)) (sym (key_equal t.vars s.vars e)))
place_coefficient k Greater t s ss later e h =
    moved (cond (is_eq (key_cmp k s.vars)) s.coefficient 0) (coefficient_at k later) (cond (is_eq (key_cmp k t.vars)) t.coefficient 0) (coefficient_at k ss) h

add_coefficient : (k : List ℕ) (t : Term) (ts : List Term) → coefficient_at k (add_term t ts) % 2 ^ 32 ≡ coefficient_at k (t ∷ ts) % 2 ^ 32
add_coefficient k t [] = put_coefficient t.coefficient k t.vars []
add_coefficient k t (s ∷ ss) = place_coefficient k (key_cmp t.vars s.vars) t s ss (add_term t ss) refl (add_coefficient k t ss)

place_value : (v : ℕ → ℕ) (o : Ordering) (t s : Term) (ss later : List Term) → key_cmp t.vars s.vars ≡ o
    → value_at v later % 2 ^ 32 ≡ value_at v (t ∷ ss) % 2 ^ 32
    → value_at v (place_term o t s ss later) % 2 ^ 32 ≡ value_at v (t ∷ s ∷ ss) % 2 ^ 32
place_value v Less t s ss later e h = put_value v t.coefficient t.vars (s ∷ ss)
place_value v Equal t s ss later e h =
    put_value v (t.coefficient + s.coefficient) s.vars ss
    ∙ ap (λ x. x % 2 ^ 32) (shared t.coefficient s.coefficient (product_at v s.vars) (value_at v ss)
    ∙ ap (λ m. t.coefficient * product_at v m + value_at v (s ∷ ss)) (sym (key_equal t.vars s.vars e)))
  where
    shared : (a b p r : ℕ) → (a + b) * p + r ≡ a * p + (b * p + r)
    shared a b p r = grind arith
place_value v Greater t s ss later e h =
    moved (s.coefficient * product_at v s.vars) (value_at v later) (t.coefficient * product_at v t.vars) (value_at v ss) h

add_value : (v : ℕ → ℕ) (t : Term) (ts : List Term) → value_at v (add_term t ts) % 2 ^ 32 ≡ value_at v (t ∷ ts) % 2 ^ 32
add_value v t [] = put_value v t.coefficient t.vars []
add_value v t (s ∷ ss) = place_value v (key_cmp t.vars s.vars) t s ss (add_term t ss) refl (add_value v t ss)

place_before : (k : List ℕ) (o : Ordering) (t s : Term) (ss later : List Term)
    → key_cmp k t.vars ≡ Less → Before k (s ∷ ss) → Before k later → Before k (place_term o t s ss later)
place_before k Less t s ss later e h g = put_before k t.coefficient t.vars (s ∷ ss) e h
place_before k Equal t s ss later e h g = put_before k (t.coefficient + s.coefficient) s.vars ss h.0 h.1
place_before k Greater t s ss later e h g = (h.0, g)

add_before : (k : List ℕ) (t : Term) (ts : List Term) → key_cmp k t.vars ≡ Less → Before k ts → Before k (add_term t ts)
add_before k t [] e h = put_before k t.coefficient t.vars [] e tt
add_before k t (s ∷ ss) e h = place_before k (key_cmp t.vars s.vars) t s ss (add_term t ss) e h (add_before k t ss e h.1)

place_rising : (o : Ordering) (t s : Term) (ss later : List Term) → key_cmp t.vars s.vars ≡ o
    → IsRising (s ∷ ss) → IsRising later → (key_cmp s.vars t.vars ≡ Less → Before s.vars later) → IsRising (place_term o t s ss later)
place_rising Less t s ss later e h g b = put_rising t.coefficient t.vars (s ∷ ss) (e, before_later t.vars s.vars ss e h.2) h
place_rising Equal t s ss later e h g b = put_rising (t.coefficient + s.coefficient) s.vars ss h.2 h.3
place_rising Greater t s ss later e h g b = (h.0, h.1, b (key_turned t.vars s.vars e), g)

add_rising : (t : Term) (ts : List Term) → IsRising ts → IsRising (add_term t ts)
add_rising t [] h = put_rising t.coefficient t.vars [] tt tt
add_rising t (s ∷ ss) h = place_rising (key_cmp t.vars s.vars) t s ss (add_term t ss) refl h (add_rising t ss h.3) (λ e. add_before s.vars t ss e h.2)

-- ---- gathered terms

pub gathered_rising : (ts : List Term) → IsRising (gathered ts)
gathered_rising [] = tt
gathered_rising (t ∷ ts) = add_rising t (gathered ts) (gathered_rising ts)

pub gathered_coefficient : (ts : List Term) (k : List ℕ) → coefficient_at k (gathered ts) % 2 ^ 32 ≡ coefficient_at k ts % 2 ^ 32
gathered_coefficient [] k = refl
gathered_coefficient (t ∷ ts) k = add_coefficient k t (gathered ts)
    ∙ sum_right (coefficient_at k (gathered ts)) (coefficient_at k ts) (cond (is_eq (key_cmp k t.vars)) t.coefficient 0) (gathered_coefficient ts k)

pub gathered_value : (ts : List Term) (v : ℕ → ℕ) → value_at v (gathered ts) % 2 ^ 32 ≡ value_at v ts % 2 ^ 32
gathered_value [] v = refl
gathered_value (t ∷ ts) v = add_value v t (gathered ts)
    ∙ sum_right (value_at v (gathered ts)) (value_at v ts) (t.coefficient * product_at v t.vars) (gathered_value ts v)

gathered_before : (k : List ℕ) (ts : List Term) → Before k ts → Before k (gathered ts)
gathered_before k [] h = tt
gathered_before k (t ∷ ts) h = add_before k t (gathered ts) h.0 (gathered_before k ts h.1)

-- ---- rising terms are known by their coefficients

-- the same coefficient stands with each variables
abbrev pub Alike : List Term → List Term → Type 0
Alike a b = (k : List ℕ) → coefficient_at k a % 2 ^ 32 ≡ coefficient_at k b % 2 ^ 32

absurd_first : (t : Term) (ts ss : List Term) → IsRising (t ∷ ts) → Before t.vars ss → coefficient_at t.vars (t ∷ ts) % 2 ^ 32 ≡ coefficient_at t.vars ss % 2 ^ 32 → ⊥
absurd_first t ts ss n b h =
    let e = first_coefficient t ts n.2 in
    let f = none_before t.vars ss b in
    let x = n.0 in
    let y = n.1 in
    let g : t.coefficient % 2 ^ 32 ≡ 0 % 2 ^ 32 = ap (λ z. z % 2 ^ 32) (sym e) ∙ h ∙ ap (λ z. z % 2 ^ 32) f in
    absurd (omega arith)

alike_first : (o : Ordering) (t s : Term) (ts ss : List Term) → key_cmp t.vars s.vars ≡ o → IsRising (t ∷ ts) → IsRising (s ∷ ss)
    → Alike (t ∷ ts) (s ∷ ss) → (Alike ts ss → ts ≡ ss) → t ∷ ts ≡ s ∷ ss
alike_first Less t s ts ss e na nb h g =
    absurd (absurd_first t ts (s ∷ ss) na (e, before_later t.vars s.vars ss e nb.2) (h t.vars))
alike_first Greater t s ts ss e na nb h g =
    let f = key_turned t.vars s.vars e in
    absurd (absurd_first s ss (t ∷ ts) nb (f, before_later s.vars t.vars ts f na.2) (sym (h s.vars)))
alike_first Equal t s ts ss e na nb h g =
    let k = key_equal t.vars s.vars e in
    let c : t.coefficient ≡ s.coefficient =
    same_word t.coefficient s.coefficient na.1 nb.1
    (ap (λ z. z % 2 ^ 32) (sym (first_coefficient t ts na.2)) ∙ h t.vars
    ∙ ap (λ m. coefficient_at m (s ∷ ss) % 2 ^ 32) k
    ∙ ap (λ z. z % 2 ^ 32) (first_coefficient s ss nb.2)) in
    let w : t ≡ s = ap₂ (λ (x : ℕ) (y : List ℕ). record { coefficient = x; vars = y }) c k in
    ap₂ ◌∷◌ w (g (λ m. sum_cancelled (cond (is_eq (key_cmp m t.vars)) t.coefficient 0) (coefficient_at m ts) (coefficient_at m ss)
    (h m ∙ ap (λ (x : Term). (cond (is_eq (key_cmp m x.vars)) x.coefficient 0 + coefficient_at m ss) % 2 ^ 32) (sym w))))

pub rising_unique : (a b : List Term) → IsRising a → IsRising b → Alike a b → a ≡ b
rising_unique [] [] na nb h = refl
rising_unique [] (s ∷ ss) na nb h = absurd (absurd_first s ss [] nb tt (sym (h s.vars)))
rising_unique (t ∷ ts) [] na nb h = absurd (absurd_first t ts [] na tt (h t.vars))
rising_unique (t ∷ ts) (s ∷ ss) na nb h = alike_first (key_cmp t.vars s.vars) t s ts ss refl na nb h (rising_unique ts ss na.3 nb.3)

-- rising terms are gathered already
pub gathered_same : (ts : List Term) → IsRising ts → gathered ts ≡ ts
gathered_same ts n = rising_unique (gathered ts) ts (gathered_rising ts) n (gathered_coefficient ts)

-- what has the same coefficients is gathered to the same
pub gathered_alike : (a b : List Term) → Alike a b → gathered a ≡ gathered b
gathered_alike a b h = rising_unique (gathered a) (gathered b) (gathered_rising a) (gathered_rising b)
    (λ k. gathered_coefficient a k ∙ h k ∙ sym (gathered_coefficient b k))

-- what has the coefficients of a term before others begins with it, unless it is 0
pub first_gathered : (c : ℕ) (m : List ℕ) (ts us : List Term) → Before m us
    → ((k : List ℕ) → coefficient_at k ts % 2 ^ 32 ≡ coefficient_at k (record { coefficient = c; vars = m } ∷ us) % 2 ^ 32)
    → gathered ts ≡ put_term c m [] ++ gathered us
first_gathered c m ts us b h =
    rising_unique (gathered ts) (put_term c m (gathered us)) (gathered_rising ts) (put_rising c m (gathered us) (gathered_before m us b) (gathered_rising us))
    (λ k. gathered_coefficient ts k ∙ h k
    ∙ sum_right (coefficient_at k us) (coefficient_at k (gathered us)) (cond (is_eq (key_cmp k m)) c 0) (sym (gathered_coefficient us k))
    ∙ sym (put_coefficient c k m (gathered us)))
    ∙ sym (put_append c m [] (gathered us))

pub before_append : (k : List ℕ) (a b : List Term) → Before k a → Before k b → Before k (a ++ b)
before_append k [] b h g = g
before_append k (t ∷ a) b h g = (h.0, before_append k a b h.1 g)

-- the first of rising terms, before all others
pub first_less : (t : Term) (ts us : List Term) → IsRising (t ∷ ts) → Before t.vars us → gathered ((t ∷ ts) ++ us) ≡ (t ∷ []) ++ gathered (ts ++ us)
first_less t ts us n b =
    first_gathered t.coefficient t.vars ((t ∷ ts) ++ us) (ts ++ us) (before_append t.vars ts us n.2 b) (λ k. refl)
    ∙ ap (λ x. x ++ gathered (ts ++ us)) (put_whole t.coefficient t.vars [] n.0 n.1)

-- the first of other terms, before all of the rising ones
pub first_greater : (s : Term) (ts ss : List Term) → Before s.vars ss → Before s.vars ts
    → gathered (ts ++ s ∷ ss) ≡ put_term s.coefficient s.vars [] ++ gathered (ts ++ ss)
first_greater s ts ss n b =
    first_gathered s.coefficient s.vars (ts ++ s ∷ ss) (ts ++ ss) (before_append s.vars ts ss b n)
    (λ k. ap (λ x. x % 2 ^ 32) (coefficient_append k ts (s ∷ ss)
    ∙ around (coefficient_at k ts) (cond (is_eq (key_cmp k s.vars)) s.coefficient 0) (coefficient_at k ss)
    ∙ ap (λ x. cond (is_eq (key_cmp k s.vars)) s.coefficient 0 + x) (sym (coefficient_append k ts ss))))
  where
    around : (a c r : ℕ) → a + (c + r) ≡ c + (a + r)
    around a c r = omega arith

-- the first of both, where they have the same variables
pub first_equal : (t s : Term) (ts ss : List Term) → IsRising (t ∷ ts) → Before s.vars ss → key_cmp t.vars s.vars ≡ Equal
    → gathered ((t ∷ ts) ++ s ∷ ss) ≡ put_term (t.coefficient + s.coefficient) s.vars [] ++ gathered (ts ++ ss)
first_equal t s ts ss n m e =
    let q = key_equal t.vars s.vars e in
    first_gathered (t.coefficient + s.coefficient) s.vars ((t ∷ ts) ++ s ∷ ss) (ts ++ ss)
    (before_append s.vars ts ss (subst (λ x. Before x ts) q n.2) m)
    (λ k. ap (λ x. x % 2 ^ 32) (ap (λ x. cond (is_eq (key_cmp k x)) t.coefficient 0 + coefficient_at k (ts ++ s ∷ ss)) q
    ∙ ap (λ x. cond (is_eq (key_cmp k s.vars)) t.coefficient 0 + x) (coefficient_append k ts (s ∷ ss))
    ∙ joined (is_eq (key_cmp k s.vars)) t.coefficient s.coefficient (coefficient_at k ts) (coefficient_at k ss)
    ∙ ap (λ x. cond (is_eq (key_cmp k s.vars)) (t.coefficient + s.coefficient) 0 + x) (sym (coefficient_append k ts ss))))
  where
    joined : (b : Bool) (t s x y : ℕ) → cond b t 0 + (x + (cond b s 0 + y)) ≡ cond b (t + s) 0 + (x + y)
    joined true t s x y = omega arith
    joined false t s x y = omega arith
