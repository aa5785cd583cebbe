-- The words that an assignment gives variables.
use Rattle.std.proofs.Common.{◌≡◌, ℕ, zero, suc, ◌^◌, ◌<◌, List, [], ◌∷◌, length, get_or, refl, sym, ap, subst, ◌∙◌, arith}
use Rattle.std.specs.Prelude.{Bool, true, false, cond, nat_eq}
use Rattle.std.proofs.lemmas.Bool.{eq-eqb, eqb-true}
use Rattle.px_terms.specs.declared.variables.Var.{Var}
use Rattle.px_cnf.specs.Clauses.{Assignment}
use Rattle.px_cnf.specs.Words.{number, word_at, Gives, AreWords}
use Rattle.px_cnf.proofs.Numbers.{number-below}
use Rattle.px_cnf.proofs.Matching.{length-bits_from}

-- the word of the first that is this variable
pub word_of : Assignment → List (Var × ℕ) → ℕ → ℕ
word_of a [] x = 0
word_of a (b ∷ bits) x = cond (nat_eq b.0.0 x) (number a (word_at b.1)) (word_of a bits x)

abbrev AreRising : List (Var × ℕ) → Type 0
AreRising bits = (i j : ℕ) (d : Var × ℕ) → i < j → j < length bits → (get_or bits i d).0.0 < (get_or bits j d).0.0

word_small : (a : Assignment) (first : ℕ) → number a (word_at first) < 2 ^ 32
word_small a first = subst (λ (n : ℕ). number a (word_at first) < 2 ^ n) (length-bits_from 32 first) (number-below a (word_at first))

choose_small : (b : Bool) (x y : ℕ) → x < 2 ^ 32 → y < 2 ^ 32 → cond b x y < 2 ^ 32
choose_small true x y h k = h
choose_small false x y h k = k

-- a later variable is another
passed : (x y : ℕ) → x < y → (m n : ℕ) → cond (nat_eq x y) m n ≡ n
passed x y l m n = by (nat_eq x y) refl
  where
    by : (b : Bool) → nat_eq x y ≡ b → cond b m n ≡ n
    by true e = let f = eqb-true x y e in absurd (omega arith)
    by false e = refl

pub words_small : (a : Assignment) (bits : List (Var × ℕ)) → AreWords (word_of a bits)
unfolding word_of
words_small a [] x = omega arith
words_small a (b ∷ bits) x = choose_small (nat_eq b.0.0 x) _ _ (word_small a b.1) (words_small a bits x)

pub words_given : (a : Assignment) (bits : List (Var × ℕ)) → AreRising bits → Gives a bits (word_of a bits)
unfolding word_of
words_given a [] rising k d l = absurd (omega arith)
words_given a (b ∷ bits) rising zero d l = ap (λ c. cond c (number a (word_at b.1)) (word_of a bits b.0.0)) (sym (eq-eqb b.0.0 b.0.0 refl))
words_given a (b ∷ bits) rising (suc k) d l =
    let x = (get_or bits k d).0.0 in
    let later : b.0.0 < x = rising 0 (suc k) d (omega arith) l in
    words_given a bits (λ i j e h m. rising (suc i) (suc j) e (omega arith) (omega arith)) k d (omega arith)
    ∙ sym (passed b.0.0 x later (number a (word_at b.1)) (word_of a bits x))
