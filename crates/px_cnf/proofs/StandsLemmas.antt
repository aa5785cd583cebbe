-- A circuit with its assertions stands for conjuncts.
use Rattle.std.proofs.Common.{◌≡◌, inl, inr, ℕ, zero, suc, ◌+◌, ◌*◌, ◌/◌, ◌%◌, ◌^◌, ◌<◌, ◌≤◌, List, [], ◌∷◌, length, get_or, map, refl, sym, ap, ap₂, subst, ◌∙◌, arith}
use Rattle.std.specs.Prelude.{Bool, true, false, not, nat_eq}
use Rattle.std.proofs.lemmas.Bool.{cases_Bool}
use Rattle.std.proofs.lemmas.List.{get_or-map}
use Rattle.std.proofs.lemmas.List.Elements.{All-head, All-tail}
use Rattle.std.proofs.lemmas.Nat.{shr-shr}
use Rattle.px_terms.specs.declared.variables.Var.{Var}
use Rattle.px_terms.specs.declared.conjuncts.Conj.{Conj}
use Rattle.px_cnf.specs.declared.literal.Literal.{Literal}
use Rattle.px_cnf.specs.Clauses.{Assignment, AreBelow, Forced, is_given}
use Rattle.px_cnf.specs.Circuits.{Gates, TrueBelow, literal}
use Rattle.px_cnf.specs.Words.{bit, number, bits_from, word_at, Gives, AreWords}
use Rattle.px_cnf.specs.Standing.{AreBits, IsSettled, StandsFor, IsTranslation, AreJoined}
use Rattle.px_cnf.proofs.Meeting.{holds_same, forced_more}
use Rattle.px_cnf.proofs.Matching.{odd_bit, last_bit, below_bits_from}

-- ---- the bits of words

pub bits_of_number : (a : Assignment) (n first t : ℕ) → ((k : ℕ) → k < n → a (first + k) ≡ nat_eq (t / 2 ^ k % 2) 1) → number a (bits_from n first) ≡ t % 2 ^ n
unfolding bits_from
bits_of_number a zero first t h = omega arith
bits_of_number a (suc n) first t h =
    let here : first + 0 ≡ first = omega arith in
    let whole : t / 2 ^ 0 ≡ t = omega arith in
    let b : a first ≡ nat_eq (t % 2) 1 = ap a (sym here) ∙ h 0 (omega arith) ∙ ap (λ m. nat_eq (m % 2) 1) whole in
    let size : suc n ≡ n + 1 = omega arith in
    ap₂ (λ (x y : ℕ). x + 2 * y) (ap bit b ∙ odd_bit t) (bits_of_number a n (first + 1) (t / 2) (rest h))
    ∙ sym (ap (λ m. t % 2 ^ m) size ∙ last_bit t n)
  where
    rest : ((k : ℕ) → k < suc n → a (first + k) ≡ nat_eq (t / 2 ^ k % 2) 1) → (k : ℕ) → k < n → a (first + 1 + k) ≡ nat_eq (t / 2 / 2 ^ k % 2) 1
    rest g k l =
        let e : first + 1 + k ≡ first + suc k = omega arith in
        let f : suc k ≡ 1 + k = omega arith in
        let p : t / 2 ^ 1 ≡ t / 2 = omega arith in
        ap a e ∙ g (suc k) (omega arith)
        ∙ ap (λ m. nat_eq (m % 2) 1) (ap (λ j. t / 2 ^ j) f ∙ sym (shr-shr t 1 k) ∙ ap (λ m. m / 2 ^ k) p)

-- the assignment that gives words
name_at : List (Var × ℕ) → ℕ → ℕ
name_at bits i = get_or (map (λ (b : Var × ℕ). b.0.0) bits) i 0

name_is : (bits : List (Var × ℕ)) (i : ℕ) (d : Var × ℕ) → i < length bits → name_at bits i ≡ (get_or bits i d).0.0
unfolding name_at
name_is bits i d l = get_or-map (λ (b : Var × ℕ). b.0.0) bits i d 0 l

abbrev given_by : List (Var × ℕ) → (ℕ → ℕ) → Assignment
given_by bits w v = nat_eq (w (name_at bits (v / 32)) / 2 ^ (v % 32) % 2) 1

given_word : (bits : List (Var × ℕ)) (w : ℕ → ℕ) (i : ℕ) → AreWords w → number (given_by bits w) (word_at (32 * i)) ≡ w (name_at bits i)
given_word bits w i words =
    bits_of_number (given_by bits w) 32 (32 * i) (w (name_at bits i)) (λ k l.
    let d : (32 * i + k) / 32 ≡ i = omega arith in
    let m : (32 * i + k) % 32 ≡ k = omega arith in
    ap₂ (λ (x y : ℕ). nat_eq (w (name_at bits x) / 2 ^ y % 2) 1) d m)
    ∙ (let s = words (name_at bits i) in omega arith)

number_same : (n : ℕ) (a b : Assignment) (ls : List Literal) → ((x : ℕ) → x < n → b x ≡ a x) → AreBelow n ls → number b ls ≡ number a ls
number_same n a b [] s h = refl
number_same n a b (l ∷ ls) s h =
    ap₂ (λ (x : Bool) (y : ℕ). bit x + 2 * y) (holds_same n a b l s (All-head (λ (m : Literal). m.variable < n) l ls h))
    (number_same n a b ls s (All-tail (λ (m : Literal). m.variable < n) l ls h))

-- ---- the whole

module _ (g : Gates) (asserted clauses : List (List Literal)) (bits : List (Var × ℕ)) (conjuncts : List Conj)
    (t : IsTranslation g asserted bits conjuncts) (b : AreBits conjuncts bits) (j : AreJoined g.clauses asserted clauses) where
  -- what the circuit makes of words gives them
  gives_words : (w : ℕ → ℕ) → AreWords w → Gives (t.circuit.settles (given_by bits w)).result bits w
  gives_words w words i d l =
      let s = t.circuit.settles (given_by bits w) in
      let f : (get_or bits i d).1 ≡ 32 * i = b.firsts i d l in
      let inside : 32 * i + 32 ≤ g.inputs = let e = t.inputs in omega arith in
      ap (λ m. number s.result (word_at m)) f
      ∙ number_same g.inputs (given_by bits w) s.result (word_at (32 * i)) s.same (below_bits_from g.inputs 32 (32 * i) inside)
      ∙ given_word bits w i words ∙ ap w (name_is bits i d l)

  all_settled : (a : Assignment) → IsSettled g.variables clauses (TrueBelow (32 * length bits) a)
  all_settled a =
      let s = t.circuit.settles a in
      let more = λ (l : Literal) (h : Forced g.clauses (TrueBelow g.inputs a) l).
      forced_more g.clauses clauses (TrueBelow g.inputs a) (TrueBelow (32 * length bits) a) l j.kept
      (λ m k. is_given (subst (λ n. m.variable < n) t.inputs k.0, k.1)) h in
      inl (λ x l. elim (cases_Bool (s.result x)) [
        | inl e ↦ inl (more (literal x true) (s.forced (literal x true) l e))
        | inr e ↦ inr (more (literal x false) (s.forced (literal x false) l (ap not e)))
      ])

  pub stands_for : StandsFor (record { variables = g.variables; clauses = clauses; bits = bits }) conjuncts
  stands_for = record {
    below = j.below g.variables t.circuit.below t.below;
    inside = let e = t.inputs in let i = t.circuit.inside in omega arith;
    bits = b;
    sound = λ a w m gives. let (p, q) = (j.met a).0 m in (t.value a w p gives).0 q;
    complete = λ w words true_of.
        let s = t.circuit.settles (given_by bits w) in
        let gives = gives_words w words in
        (s.result, (j.met s.result).1 (s.met, (t.value s.result w s.met gives).1 true_of), gives);
    settled = all_settled;
  }
