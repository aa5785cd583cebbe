-- Words over the words of variables.
use Rattle.std.proofs.Common.{◌≡◌, ◌↔◌, ◌-◌, ℕ, ◌+◌, ◌*◌, ◌%◌, ◌^◌, ◌<◌, ◌≤◌, List, [], ◌∷◌, length, get_or, take, map, sym, ap, ap₂, subst, ◌∙◌, arith}
use Rattle.std.specs.Prelude.{true, false, not, All, Any, Option, Some, None}
use Rattle.std.specs.Global.{Vec}
use Rattle.std.specs.List.{list_all}
use Rattle.std.proofs.lemmas.List.{take_more, take_all}
use Rattle.std.proofs.lemmas.Nat.{mul-mod_first}
use Rattle.px_terms.specs.Terms.{product_at, value_at}
use Rattle.px_terms.specs.Monomials.{term_of}
use Rattle.px_terms.specs.declared.monomial.Monomial.{Monomial}
use Rattle.px_terms.proofs.Gathering.{value_append}
use Rattle.px_terms.proofs.PolyProducts.{product-append}
use Rattle.px_terms.proofs.Evaluation.{taken_more}
use Rattle.px_terms.specs.declared.variables.Var.{Var}
use Rattle.px_cnf.specs.declared.literal.Literal.{Literal}
use Rattle.px_cnf.specs.declared.terms.Base.{Base}
use Rattle.px_cnf.specs.Clauses.{Assignment, holds, negated, AreBelow}
use Rattle.px_cnf.specs.Circuits.{Gates, Grows, Always}
use Rattle.px_cnf.specs.Words.{number, word_at, matching}
use Rattle.px_cnf.specs.Bases.{IsBase, AreKnown, IsWord, IsWordOr, number_or, Stands}
use Rattle.px_cnf.proofs.Meeting.{holds-negated, below_more}
use Rattle.px_cnf.proofs.Numbers.{number-below}
use Rattle.px_cnf.proofs.Matching.{length-matching, below_matching, matched, constant_number, length-bits_from, below_bits_from}

-- ---- later circuits

pub base_later : (g h : Gates) (base : Base) → Grows g h → IsBase g base → IsBase h base
base_later g h base s b = record {
  circuit = s.circuit;
  few = subst (λ n. n < 2 ^ 32) (sym s.inputs) b.few;
  inside = let i = b.inside in let v = s.variables in omega arith;
  always = λ a m. b.always a (s.clauses a m);
  words = subst (λ n. All (λ (x : Var × ℕ). x.1 + 32 ≤ n) base.bits.now) (sym s.inputs) b.words;
}

pub word_later : (g h : Gates) (z : List Literal) → Grows g h → IsWord g z → IsWord h z
word_later g h z s w = record { below = below_more g.variables h.variables z s.variables w.below; size = w.size }

pub word_or_later : (g h : Gates) (z : Option (Vec Literal)) → Grows g h → IsWordOr g z → IsWordOr h z
word_or_later g h None s w = tt
word_or_later g h (Some z) s w = word_later g h z.items s w

pub word_small : (g : Gates) (z : List Literal) (a : Assignment) → IsWord g z → number a z < 2 ^ 32
word_small g z a w = subst (λ n. number a z < 2 ^ n) w.size (number-below a z)

-- ---- constants

pub never_holds : (g : Gates) (base : Base) → IsBase g base → Always g (λ a. holds a (negated base.always) ≡ false)
never_holds g base b a m = holds-negated a base.always ∙ ap not (b.always a m)

pub constant_word : (g : Gates) (ls z : List Literal) (n : ℕ) → AreBelow g.variables ls → length ls ≡ 32 → z ≡ matching ls n → IsWord g z
constant_word g ls z n b l e =
    subst (IsWord g) (sym e) (record { below = below_matching g.variables ls n b; size = length-matching ls n ∙ l })

pub constant_is : (a : Assignment) (ls z : List Literal) (n : ℕ) → All (λ l. holds a l ≡ true) ls → length ls ≡ 32 → n < 2 ^ 32 → z ≡ matching ls n → number a z ≡ n
constant_is a ls z n h l k e =
    ap (number a) e ∙ constant_number a ls n h ∙ ap (λ m. n % 2 ^ m) l ∙ omega arith

-- ---- variables

pub first_inside : (bits : List (Var × ℕ)) (x first n : ℕ) → All (λ b. b.1 + 32 ≤ n) bits → Any (λ b. (b.0.0 ≡ x) × (b.1 ≡ first)) bits → first + 32 ≤ n
first_inside bits x first n all (k, b, l, e, h) =
    let at : (get_or bits k b).1 + 32 ≤ n = all k b l in
    let same : (get_or bits k b).1 ≡ first = ap (λ (y : Var × ℕ). y.1) e ∙ h.1 in
    subst (λ m. m + 32 ≤ n) same at

pub variable_word : (g : Gates) (base : Base) (z : List Literal) (x first : ℕ) → IsBase g base → Any (λ b. (b.0.0 ≡ x) × (b.1 ≡ first)) base.bits.now → z ≡ word_at first → IsWord g z
variable_word g base z x first b h e =
    let i = first_inside base.bits.now x first g.inputs b.words h in
    let j = b.circuit.inside in
    subst (IsWord g) (sym e) (record { below = below_bits_from g.variables 32 first (omega arith); size = length-bits_from 32 first })

pub variable_stands : (g : Gates) (base : Base) (z : List Literal) (x first : ℕ) → Any (λ b. (b.0.0 ≡ x) × (b.1 ≡ first)) base.bits.now → z ≡ word_at first → Stands g base z (λ w. w x)
variable_stands g base z x first (k, b, l, e, h) q a w m gives =
    ap (number a) (q ∙ ap word_at (sym (ap (λ (y : Var × ℕ). y.1) e ∙ h.1))) ∙ gives k b l ∙ ap w (ap (λ (y : Var × ℕ). y.0.0) e ∙ h.0)

pub known_at : (bits : List (Var × ℕ)) (xs : List ℕ) (i d : ℕ) → i < length xs → AreKnown bits xs → Any (λ b. b.0.0 ≡ get_or xs i d) bits
known_at bits xs i d h k = k i d h

-- ---- factors and summands

pub number_or_small : (g : Gates) (nothing : ℕ) (z : Option (Vec Literal)) (a : Assignment) → nothing < 2 ^ 32 → IsWordOr g z → number_or nothing a z < 2 ^ 32
number_or_small g nothing None a h w = h
number_or_small g nothing (Some z) a h w = word_small g z.items a w

pub one_factor : (g : Gates) (word : Option (Vec Literal)) (z : List Literal) (a : Assignment) → word ≡ None → IsWord g z → number a z ≡ (number_or 1 a word * number a z) % 2 ^ 32
one_factor g word z a e w = let s = word_small g z a w in rw e (omega arith)

pub one_summand : (g : Gates) (word : Option (Vec Literal)) (z : List Literal) (a : Assignment) → word ≡ None → IsWord g z → number a z ≡ (number_or 0 a word + number a z) % 2 ^ 32
one_summand g word z a e w = let s = word_small g z a w in rw e (omega arith)

-- no factor yet
pub no_factors : (n k : ℕ) → n < 2 ^ 32 → n ≡ k → n ≡ (k * 1) % 2 ^ 32
no_factors n k h e = omega arith

product_more : (w : ℕ → ℕ) (xs : List ℕ) (i : ℕ) → i < length xs → product_at w (take (i + 1) xs) ≡ product_at w (take i xs) * w (get_or xs i 0)
product_more w xs i h =
    ap (product_at w) (take_more xs i 0 h) ∙ product-append w (take i xs) (get_or xs i 0 ∷ []) ∙ ap (λ n. product_at w (take i xs) * n) (single (w (get_or xs i 0)))
  where
    single : (n : ℕ) → n * 1 ≡ n
    single n = grind arith

-- one factor more
pub factors_next : (w : ℕ → ℕ) (xs : List ℕ) (i k n b z : ℕ) → i < length xs → z ≡ (n * b) % 2 ^ 32 → n ≡ (k * product_at w (take i xs)) % 2 ^ 32 → b ≡ w (get_or xs i 0)
    → z ≡ (k * product_at w (take (i + 1) xs)) % 2 ^ 32
factors_next w xs i k n b z h e f g =
    e ∙ ap₂ (λ (x y : ℕ). (x * y) % 2 ^ 32) f g ∙ mul-mod_first (k * product_at w (take i xs)) (w (get_or xs i 0)) (2 ^ 32)
    ∙ ap (λ m. m % 2 ^ 32) (grouped k (product_at w (take i xs)) (w (get_or xs i 0)) ∙ ap (λ m. k * m) (sym (product_more w xs i h)))
  where
    grouped : (a b c : ℕ) → (a * b) * c ≡ a * (b * c)
    grouped a b c = grind arith

pub factors_end : (w : ℕ → ℕ) (xs ys : List ℕ) (i k n z : ℕ) → length xs ≤ i → xs ≡ ys → z ≡ n → n ≡ (k * product_at w (take i xs)) % 2 ^ 32 → z ≡ (k * product_at w ys) % 2 ^ 32
factors_end w xs ys i k n z h e f g = f ∙ g ∙ ap (λ (ls : List ℕ). (k * product_at w ls) % 2 ^ 32) (take_all i xs h ∙ e)

-- one summand more
pub summands_next : (w : ℕ → ℕ) (ms : List (Monomial 4)) (i : ℕ) (m : Monomial 4) (c n b z : ℕ) → i < length ms → m ≡ get_or ms i m
    → z ≡ (n + b) % 2 ^ 32 → n ≡ (c + value_at w (map term_of (take i ms))) % 2 ^ 32 → b ≡ ((term_of m).coefficient * product_at w (term_of m).vars) % 2 ^ 32
    → z ≡ (c + value_at w (map term_of (take (i + 1) ms))) % 2 ^ 32
summands_next w ms i m c n b z h e f g k =
    let v = value_at w (map term_of (take i ms)) in
    let t = (term_of m).coefficient * product_at w (term_of m).vars in
    f ∙ ap₂ (λ (x y : ℕ). (x + y) % 2 ^ 32) g k ∙ joined c v t
    ∙ ap (λ y. (c + y) % 2 ^ 32) (sym (ap (value_at w) (taken_more ms i m h e) ∙ value_append w (map term_of (take i ms)) (term_of m ∷ [])))
  where
    joined : (c v t : ℕ) → ((c + v) % 2 ^ 32 + t % 2 ^ 32) % 2 ^ 32 ≡ (c + (v + (t + 0))) % 2 ^ 32
    joined c v t = omega arith

pub summands_end : (w : ℕ → ℕ) (ms : List (Monomial 4)) (i c n : ℕ) → length ms ≤ i → n ≡ (c + value_at w (map term_of (take i ms))) % 2 ^ 32 → n ≡ (c + value_at w (map term_of ms)) % 2 ^ 32
summands_end w ms i c n h e = e ∙ ap (λ (ls : List (Monomial 4)). (c + value_at w (map term_of ls)) % 2 ^ 32) (take_all i ms h)

-- ---- polynomials that are 0

pub zero_exactly : (c v s t : ℕ) → c < 2 ^ 32 → s ≡ v % 2 ^ 32 → t ≡ (2 ^ 32 - c) % 2 ^ 32 → (s ≡ t % 2 ^ 32) ↔ ((c + v) % 2 ^ 32 ≡ 0)
zero_exactly c v s t h e f = (λ k. omega arith, λ k. omega arith)

pub zero_matched : (a : Assignment) (word z : List Literal) (c v t : ℕ) → length word ≡ 32 → z ≡ matching word t → c < 2 ^ 32 → number a word ≡ (0 + v) % 2 ^ 32 → t ≡ (2 ^ 32 - c) % 2 ^ 32
    → (list_all (holds a) z ≡ true) ↔ ((c + v) % 2 ^ 32 ≡ 0)
zero_matched a word z c v t l e h f g =
    let m = matched a word t in
    let s : number a word ≡ v % 2 ^ 32 = omega arith in
    let x = zero_exactly c v (number a word) t h s g in
    let p : t % 2 ^ length word ≡ t % 2 ^ 32 = ap (λ n. t % 2 ^ n) l in (
      λ k. x.0 (m.0 (subst (λ (ls : List Literal). list_all (holds a) ls ≡ true) e k) ∙ p),
      λ k. subst (λ (ls : List Literal). list_all (holds a) ls ≡ true) (sym e) (m.1 (x.1 k ∙ sym p)),
    )
