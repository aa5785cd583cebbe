-- Operators between operands: what is read is a chain of the grammar, at each level.
use Rattle.std.proofs.Common.{◌≡◌, ℕ, zero, suc, ◌<◌, ◌≤◌, eqb, List, [], ◌∷◌, ◌++◌, length, Some, None, Ok, refl, sym, ap, subst, ◌∙◌, append_assoc, length-append, arith, inl, inr}
use Rattle.std.proofs.lemmas.Bool.{eqb-true}
use Rattle.px_expressions.proofs.ExactTools.{chosen, either}
use Rattle.px_real_expressions.specs.declared.terminal.Terminal.{Terminal}
use Rattle.px_real_expressions.specs.declared.operators.Operator.{Operator}
use Rattle.px_real_expressions.specs.Lexemes.{Lexeme}
use Rattle.px_real_expressions.specs.Operators.{level_of, binary_of, operator_at, front_by}
use Rattle.px_real_expressions.specs.ExpressionTree.{ExpressionTree, binary}
use Rattle.px_real_expressions.specs.Grammar.{Gram, More, no_more, one_more, Chain, chain, Levels}
use Rattle.px_real_expressions.specs.Reading.{Reader, more_at, chain_at, levels_at}
use Rattle.px_real_expressions.proofs.Tools.{done, both_are, by_is, Reads, Exact, part_bind, Stops, stops_less, not_by}

level_is : (k : ℕ) (t : Terminal) (o : Operator) → operator_at k t ≡ Some o → level_of t ≡ k
level_is k t o e =
    elim (chosen (eqb (level_of t) k) (binary_of t) None (Some o) e) [
      | inl h ↦ eqb-true _ _ h.0
      | inr h ↦ absurd (let z = h.1 in cc)
    ]

no_operator : (k : ℕ) (rest : List Lexeme) → Stops k rest → front_by (operator_at k) rest ≡ None
no_operator k rest h = not_by (operator_at k) k rest (λ t o e. let l = level_is k t o e in omega arith) h

module _ {G : Gram ExpressionTree} {part : Reader ExpressionTree} (k : ℕ) (p : Exact G part (Stops k)) where
  more_sound : (n : ℕ) (left : ExpressionTree) (ts : List Lexeme) (e : ExpressionTree) (rest : List Lexeme) → more_at n (suc k) part left ts ≡ Ok (e, rest) → Reads (More G (suc k) left) ts e rest
  unfolding more_at
  more_sound zero left ts e rest h =
      let q = both_are left e ts rest h in
      record { front = []; is = no_more refl (sym q.0); parts = q.1 }
  more_sound (suc n) left ts e rest h =
      elim (either (front_by (operator_at (suc k)) ts) _ (done left ts) (done e rest) h) [
        | inl w ↦
            let x = w.0 in
            let one = part_bind p x.2 (λ y. more_at n (suc k) part (binary x.0 x.1.site left y.0) y.1) (e, rest) w.2 in
            let y = one.0 in
            let f = by_is (operator_at (suc k)) ts x w.1 in
            let two = more_sound n (binary x.0 x.1.site left y.0) y.1 e rest one.2 in
            record {
              front = x.1 ∷ one.1.front ++ two.front;
              is = one_more x.0 f.0 one.1.is two.is refl;
              parts = f.1 ∙ ap (λ z. x.1 ∷ z) (one.1.parts ∙ ap (λ z. one.1.front ++ z) two.parts ∙ sym (append_assoc one.1.front two.front rest));
            }
        | inr w ↦
            let q = both_are left e ts rest w.1 in
            record { front = []; is = no_more refl (sym q.0); parts = q.1 }
      ]

  -- what follows a part is an operator of the next level, or what follows the chain
  more_stops : {left e : ExpressionTree} {ts : List Lexeme} (rest : List Lexeme) → More G (suc k) left ts e → Stops (suc k) rest → Stops k (ts ++ rest)
  more_stops rest (no_more h g) s = subst (λ z. Stops k (z ++ rest)) (sym h) (stops_less (suc k) k rest (omega arith) s)
  more_stops rest (one_more {t = t} {ts1 = ts1} {ts2 = ts2} o h a m parts) s =
      let l : level_of t.terminal ≡ suc k = level_is (suc k) t.terminal o h in
      let lt : k < level_of t.terminal = omega arith in
      subst (λ z. Stops k (z ++ rest)) (sym parts) lt

  more_complete : (n : ℕ) {left e : ExpressionTree} {ts : List Lexeme} (rest : List Lexeme) → More G (suc k) left ts e → Stops (suc k) rest → length ts ≤ n → more_at n (suc k) part left (ts ++ rest) ≡ Ok (e, rest)
  unfolding more_at
  more_complete zero rest (no_more h g) s le = rw (h, g) refl
  more_complete (suc n) rest (no_more h g) s le = rw (h, g, no_operator (suc k) rest s) refl
  more_complete zero rest (one_more o h a m parts) s le = absurd (let e = ap length parts in omega arith)
  more_complete (suc n) {e = e} {ts = ts} rest (one_more {left = left} {right = right} {t = t} {ts1 = ts1} {ts2 = ts2} o h a m parts) s le =
      let one : part ((ts1 ++ ts2) ++ rest) ≡ Ok (right, ts2 ++ rest) = rw (append_assoc ts1 ts2 rest) (p.complete ts1 right (ts2 ++ rest) a (more_stops rest m s)) in
      let len : length ts ≡ suc (length (ts1 ++ ts2)) = ap length parts in
      let fits : length ts2 ≤ n = omega (arith, length-append ts1 ts2) in
      let two : more_at n (suc k) part (binary o t.site left right) (ts2 ++ rest) ≡ Ok (e, rest) = more_complete n rest m s fits in
      rw (parts, h, one) two

  chain_sound : (ts : List Lexeme) (e : ExpressionTree) (rest : List Lexeme) → chain_at (suc k) part ts ≡ Ok (e, rest) → Reads (Chain G (suc k)) ts e rest
  unfolding chain_at
  chain_sound ts e rest h =
      let one = part_bind p ts (λ x. more_at (length x.1) (suc k) part x.0 x.1) (e, rest) h in
      let two = more_sound (length one.0.1) one.0.0 one.0.1 e rest one.2 in
      record {
        front = one.1.front ++ two.front;
        is = chain one.1.is two.is refl;
        parts = one.1.parts ∙ ap (λ z. one.1.front ++ z) two.parts ∙ sym (append_assoc one.1.front two.front rest);
      }

  chain_complete : (ts : List Lexeme) (e : ExpressionTree) (rest : List Lexeme) → Chain G (suc k) ts e → Stops (suc k) rest → chain_at (suc k) part (ts ++ rest) ≡ Ok (e, rest)
  unfolding chain_at
  chain_complete ts e rest (chain {first = first} {ts1 = ts1} {ts2 = ts2} a m parts) s =
      let one : part (ts1 ++ (ts2 ++ rest)) ≡ Ok (first, ts2 ++ rest) = p.complete ts1 first (ts2 ++ rest) a (more_stops rest m s) in
      let fits : length ts2 ≤ length (ts2 ++ rest) = omega (arith, length-append ts2 rest) in
      rw (parts, append_assoc ts1 ts2 rest, one) (more_complete (length (ts2 ++ rest)) rest m s fits)

  pub chain_exact : Exact (Chain G (suc k)) (chain_at (suc k) part) (Stops (suc k))
  chain_exact = record { sound = chain_sound; complete = chain_complete }

pub levels_exact : (U : Gram ExpressionTree) (u : Reader ExpressionTree) → Exact U u (Stops 0) → (k : ℕ) → Exact (Levels k U) (levels_at k u) (Stops k)
unfolding levels_at
levels_exact U u p zero = record { sound = p.sound; complete = p.complete }
levels_exact U u p (suc k) = let q = chain_exact k (levels_exact U u p k) in record { sound = q.sound; complete = q.complete }
