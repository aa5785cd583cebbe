-- What a read of a source in memory takes.
use Rattle.std.proofs.Common.{◌≡◌, inl, inr, ℕ, ◌+◌, ◌<◌, ◌≤◌, Bool, true, false, List, [], ◌++◌, take, drop, length, sym, ap, ◌∙◌, arith, length-take, length-append, length-drop, take-append-drop}
use Rattle.std.specs.Prelude.{◌||◌, ◌&&◌, ◌==◌, nat_lt}
use Rattle.std.proofs.lemmas.Bool.{cases_lt, lt-ltb}
use Rattle.std.proofs.lemmas.List.{take_at, nil_from_length, drop-drop}

-- a read that doesn't fail, and has room, gives nothing at the end alone
nothing_left : (b : Bool) (given room left : ℕ) → (b || (given == 0 && (nat_lt 0 room && nat_lt 0 left))) ≡ false → given ≡ 0 → 0 < room → left ≡ 0
nothing_left b given room left h e l = elim (cases_lt 0 left) [
  | inl m ↦ absurd (clash b (given == 0) (nat_lt 0 room) (nat_lt 0 left) (ap (λ n. n == 0) e) (lt-ltb 0 room l) (lt-ltb 0 left m) h)
  | inr m ↦ omega arith
]
  where
    clash : (b p q r : Bool) → p ≡ true → q ≡ true → r ≡ true → (b || (p && (q && r))) ≡ false → ⊥
    clash true p q r e f g h = absurd cc
    clash false false q r e f g h = absurd cc
    clash false true false r e f g h = absurd cc
    clash false true true false e f g h = absurd cc
    clash false true true true e f g h = absurd cc

pub read_consumes : (bytes into front : List ℕ) (at count : ℕ) (b : Bool) → front ≡ take count (drop at bytes) → count ≤ length (drop at bytes) → count ≤ length into →
    (b || (count == 0 && (nat_lt 0 (length into) && nat_lt 0 (length (drop at bytes))))) ≡ false →
    (drop at bytes ≡ take count (front ++ drop count into) ++ drop (at + count) bytes) × (count ≡ 0 → 0 < length (front ++ drop count into) → drop (at + count) bytes ≡ [])
read_consumes bytes into front at count b is few room spared =
    let size : length front ≡ count = (let s = ap length is in grind (arith, length-take)) in
    let rest : drop (at + count) bytes ≡ drop count (drop at bytes) = sym (drop-drop count at bytes) in
    let first : take count (front ++ drop count into) ≡ take count (drop at bytes) = take_at front (drop count into) count size ∙ is in (
      sym (take-append-drop count (drop at bytes)) ∙ ap (λ (z : List ℕ). z ++ drop count (drop at bytes)) (sym first) ∙ ap (λ (z : List ℕ). take count (front ++ drop count into) ++ z) (sym rest),
      λ e l.
          let whole : 0 < length into = grind (arith, length-append, length-drop) in
          let none : length (drop at bytes) ≡ 0 = nothing_left b count (length into) (length (drop at bytes)) spared e whole in
          ap (λ n. drop (at + n) bytes) e ∙ ap (λ n. drop n bytes) (omega arith) ∙ nil_from_length (drop at bytes) none,
    )
