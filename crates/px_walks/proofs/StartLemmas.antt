-- The slots of a body at the start, one by one.
use Rattle.std.proofs.Common.{◌≡◌, ◌<◌, ◌+◌, ℕ, zero, suc, List, [], ◌∷◌, ◌++◌, length, take, replicate, get_or, refl, sym, ◌∙◌, ap, arith, length-append}
use Rattle.std.specs.Prelude.{slice_get}
use Rattle.std.proofs.Math.Seq.{take-suc}
use Rattle.px_terms.specs.declared.types.ValueType.{ValueType}
use Rattle.px_terms.specs.declared.conjuncts.Content.{Content}
use Rattle.px_terms.specs.declared.conjuncts.Content.TheVariants.{Unwritten}
use Rattle.px_entry.specs.Contents.{variable_content}
use Rattle.px_callgraph.specs.States.{given_slots}
use Rattle.px_walks.specs.Starts.{given_content, first_content}

unwritten_at : (n i : ℕ) → get_or (replicate n Unwritten) i Unwritten ≡ Unwritten
unwritten_at zero i = refl
unwritten_at (suc n) zero = refl
unwritten_at (suc n) (suc i) = unwritten_at n i

slot_at : (x n : ℕ) (ts : List ValueType) (i y : ℕ) → y ≡ x + i → get_or (given_slots x ts ++ replicate n Unwritten) i Unwritten ≡ given_content y (slice_get ts i)
slot_at x n [] i y e = unwritten_at n i
slot_at x n (t ∷ ts) zero y e = ap (variable_content t) (omega (arith, e))
slot_at x n (t ∷ ts) (suc i) y e = slot_at (suc x) n ts i y (omega (arith, e))

replicate_length : (n : ℕ) → length (replicate n Unwritten) ≡ n
replicate_length zero = refl
replicate_length (suc n) = ap suc (replicate_length n)

-- one slot more
pub next_slot : (ts : List ValueType) (n i j : ℕ) (slots : List Content) (c : Content) → i < n → j ≡ suc i → slots ≡ take i (given_slots 0 ts ++ replicate n Unwritten) → c ≡ first_content ts i →
    slots ++ c ∷ [] ≡ take j (given_slots 0 ts ++ replicate n Unwritten)
next_slot ts n i j slots c below e is is_first =
    let all : List Content = given_slots 0 ts ++ replicate n Unwritten in
    let inside : i < length all = omega (arith, length-append (given_slots 0 ts) (replicate n Unwritten), replicate_length n, below) in
    ap (λ z. z ++ c ∷ []) is
    ∙ ap (λ z. take i all ++ z ∷ []) (is_first ∙ sym (slot_at 0 n ts i i (omega arith)))
    ∙ sym (take-suc all i Unwritten inside)
    ∙ sym (ap (λ z. take z all) e)
