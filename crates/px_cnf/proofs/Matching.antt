-- Words that are a number, and words of variables.
use Rattle.std.proofs.Common.{◌≡◌, ◌↔◌, ℕ, zero, suc, ◌+◌, ◌*◌, ◌/◌, ◌%◌, ◌^◌, ◌<◌, ◌≤◌, List, [], ◌∷◌, ◌++◌, length, drop, get_or, refl, sym, ap, ap₂, ◌∙◌, arith, append_assoc, drop-cons, inl, inr}
use Rattle.std.specs.Prelude.{Bool, true, false, not, cond, nat_eq, All}
use Rattle.std.specs.List.{list_all}
use Rattle.std.proofs.lemmas.Bool.{and_parts, and_from, eq-eqb, ne_eqb, cases_eq, false≢true}
use Rattle.std.proofs.lemmas.List.{append-nil, drop_all}
use Rattle.std.proofs.lemmas.List.Elements.{All-head, All-tail, All-cons, All-nil}
use Rattle.std.proofs.lemmas.Nat.{mod-pow-add}
use Rattle.px_cnf.specs.declared.literal.Literal.{Literal}
use Rattle.px_cnf.specs.Clauses.{Assignment, holds, negated, AreBelow}
use Rattle.px_cnf.specs.Words.{bit, number, bits_from, matching}
use Rattle.px_cnf.proofs.Meeting.{holds-negated}
use Rattle.px_cnf.proofs.Numbers.{bit_small}

-- ---- the literals of a number

-- one literal more
pub matching_next : (word : List Literal) (i t : ℕ) (d : Literal) (all : List Literal) → i < length word
    → (all ++ cond (nat_eq (t % 2) 1) (get_or word i d) (negated (get_or word i d)) ∷ []) ++ matching (drop (i + 1) word) (t / 2) ≡ all ++ matching (drop i word) t
matching_next word i t d all h =
    let e : i + 1 ≡ suc i = omega arith in
    append_assoc all (cond (nat_eq (t % 2) 1) (get_or word i d) (negated (get_or word i d)) ∷ []) (matching (drop (i + 1) word) (t / 2))
    ∙ ap (λ (ls : List Literal). all ++ ls)
    (ap (λ (j : ℕ). cond (nat_eq (t % 2) 1) (get_or word i d) (negated (get_or word i d)) ∷ matching (drop j word) (t / 2)) e
    ∙ sym (ap (λ (ls : List Literal). matching ls t) (drop-cons word i d h)))

pub length-matching : (ls : List Literal) (t : ℕ) → length (matching ls t) ≡ length ls
length-matching [] t = refl
length-matching (l ∷ ls) t = ap suc (length-matching ls (t / 2))

chosen_below : (n : ℕ) (l : Literal) (b : Bool) → l.variable < n → (cond b l (negated l)).variable < n
chosen_below n l true h = h
chosen_below n l false h = h

pub below_matching : (n : ℕ) (ls : List Literal) (t : ℕ) → AreBelow n ls → AreBelow n (matching ls t)
below_matching n [] t h = h
below_matching n (l ∷ ls) t h =
    All-cons (λ (m : Literal). m.variable < n) (cond (nat_eq (t % 2) 1) l (negated l)) (matching ls (t / 2))
    (chosen_below n l (nat_eq (t % 2) 1) (All-head (λ (m : Literal). m.variable < n) l ls h))
    (below_matching n ls (t / 2) (All-tail (λ (m : Literal). m.variable < n) l ls h))

-- the last bit of a number
pub odd_bit : (t : ℕ) → bit (nat_eq (t % 2) 1) ≡ t % 2
odd_bit t = elim (cases_eq (t % 2) 1) [
  | inl e ↦ rw (eq-eqb (t % 2) 1 e) (sym e)
  | inr n ↦ rw (ne_eqb (t % 2) 1 n) (omega arith)
]

holds_chosen : (a : Assignment) (l : Literal) (b : Bool) → (holds a (cond b l (negated l)) ≡ true) ↔ (bit (holds a l) ≡ bit b)
holds_chosen a l true = same (holds a l)
  where
    same : (v : Bool) → (v ≡ true) ↔ (bit v ≡ 1)
    same true = (λ h. refl, λ h. refl)
    same false = (λ h. absurd (false≢true h), λ h. absurd (omega arith))
holds_chosen a l false = rw holds-negated (other (holds a l))
  where
    other : (v : Bool) → (not v ≡ true) ↔ (bit v ≡ 0)
    other true = (λ h. absurd (false≢true h), λ h. absurd (omega arith))
    other false = (λ h. refl, λ h. refl)

-- a number by its last bit
pub last_bit : (t n : ℕ) → t % 2 ^ (n + 1) ≡ t % 2 + 2 * (t / 2 % 2 ^ n)
last_bit t n = mod-pow-add t n 1 ∙ omega arith

pub matched : (a : Assignment) (ls : List Literal) (t : ℕ) → (list_all (holds a) (matching ls t) ≡ true) ↔ (number a ls ≡ t % 2 ^ length ls)
matched a [] t = (λ h. omega arith, λ h. refl)
matched a (l ∷ ls) t =
    let first = holds_chosen a l (nat_eq (t % 2) 1) in
    let rest = matched a ls (t / 2) in
    let sum : t % 2 ^ suc (length ls) ≡ t % 2 + 2 * (t / 2 % 2 ^ length ls) = ap (λ n. t % 2 ^ n) (omega arith) ∙ last_bit t (length ls) in (
      λ h.
          let (p, q) = and_parts (holds a (cond (nat_eq (t % 2) 1) l (negated l))) (list_all (holds a) (matching ls (t / 2))) h in
          ap₂ (λ (m n : ℕ). m + 2 * n) (first.0 p ∙ odd_bit t) (rest.0 q) ∙ sym sum,
      λ h.
          let (p, q) = parts (bit (holds a l)) (number a ls) (t % 2) (t / 2 % 2 ^ length ls) (bit_small (holds a l)) (omega arith) (h ∙ sum) in
          and_from (holds a (cond (nat_eq (t % 2) 1) l (negated l))) (list_all (holds a) (matching ls (t / 2))) (first.1 (p ∙ sym (odd_bit t))) (rest.1 q),
    )
  where
    parts : (b m c n : ℕ) → b < 2 → c < 2 → b + 2 * m ≡ c + 2 * n → (b ≡ c) × (m ≡ n)
    parts b m c n h k e = (omega arith, omega arith)

-- ---- a constant

constant_bit : (a : Assignment) (l : Literal) (b : Bool) → holds a l ≡ true → bit (holds a (cond b l (negated l))) ≡ bit b
constant_bit a l true h = ap bit h
constant_bit a l false h = ap bit (holds-negated a l ∙ ap not h)

pub constant_number : (a : Assignment) (ls : List Literal) (t : ℕ) → All (λ l. holds a l ≡ true) ls → number a (matching ls t) ≡ t % 2 ^ length ls
constant_number a [] t h = omega arith
constant_number a (l ∷ ls) t h =
    ap₂ (λ (m n : ℕ). m + 2 * n) (constant_bit a l (nat_eq (t % 2) 1) (All-head (λ (m : Literal). holds a m ≡ true) l ls h) ∙ odd_bit t)
    (constant_number a ls (t / 2) (All-tail (λ (m : Literal). holds a m ≡ true) l ls h))
    ∙ sym (ap (λ n. t % 2 ^ n) (omega arith) ∙ last_bit t (length ls))

-- ---- words of variables

pub bits_from-push : (n first : ℕ) → bits_from (n + 1) first ≡ bits_from n first ++ record { variable = first + n; positive = true } ∷ []
unfolding bits_from
bits_from-push n first =
    let e : n + 1 ≡ suc n = omega arith in
    ap (λ k. bits_from k first) e ∙ go n first
  where
    go : (n first : ℕ) → bits_from (suc n) first ≡ bits_from n first ++ record { variable = first + n; positive = true } ∷ []
    go zero first = let e : first ≡ first + 0 = omega arith in ap (λ v. record { variable = v; positive = true } ∷ []) e
    go (suc n) first =
        let e : first + 1 + n ≡ first + suc n = omega arith in
        ap (λ (ls : List Literal). record { variable = first; positive = true } ∷ ls)
        (go n (first + 1) ∙ ap (λ v. bits_from n (first + 1) ++ record { variable = v; positive = true } ∷ []) e)

pub length-bits_from : (n first : ℕ) → length (bits_from n first) ≡ n
unfolding bits_from
length-bits_from zero first = refl
length-bits_from (suc n) first = ap suc (length-bits_from n (first + 1))

pub below_bits_from : (m n first : ℕ) → first + n ≤ m → AreBelow m (bits_from n first)
unfolding bits_from
below_bits_from m zero first h = All-nil (λ (l : Literal). l.variable < m)
below_bits_from m (suc n) first h =
    All-cons (λ (l : Literal). l.variable < m) (record { variable = first; positive = true }) (bits_from n (first + 1)) (omega arith) (below_bits_from m n (first + 1) (omega arith))

pub bits_from-none : (first : ℕ) → bits_from 0 first ≡ []
unfolding bits_from
bits_from-none first = refl

pub matching_at_end : (word : List Literal) (i t : ℕ) (all : List Literal) → length word ≤ i → all ≡ all ++ matching (drop i word) t
matching_at_end word i t all h = sym (ap (λ (ls : List Literal). all ++ matching ls t) (drop_all i word h) ∙ append-nil all)
