-- Exclusions in another order.
use Rattle.std.proofs.Common.{◌≡◌, sym, ℕ, ◌+◌, ◌%◌, ◌^◌, ◌<◌, ◌≤◌, List, length, get_or, ap, subst, ◌∙◌, arith, IsPermutation}
use Rattle.std.proofs.lemmas.List.{get_or_default}
use Rattle.std.proofs.lemmas.List.Sorted.{All-permutation, IsPermutation-sym, length_permutation}
use Rattle.px_plain.specs.declared.nodes.Node.{Node}
use Rattle.px_plain.specs.declared.nodes.Exclusion.{Exclusion}
use Rattle.px_plain.specs.declared.nodes.Difference.{Difference}
use Rattle.px_plain.specs.Forest.{IsAbove, Keeps, parent_at}
use Rattle.px_plain.specs.Differences.{difference_at, AllEqual, AllHold}
use Rattle.px_plain.specs.Exclusions.{exclusion_at, IsApart, InOrder, IsOfRoot, Separates, HasEnds, IsRestated, AreLeast, IsBlocked}

moved : (P : Exclusion → Type 0) (es fs : List Exclusion) → IsPermutation es fs → ((j : ℕ) → j < length es → P (exclusion_at es j)) → (j : ℕ) → j < length fs → P (exclusion_at fs j)
moved P es fs p h j l = All-permutation P es fs p (λ k d b. subst P (get_or_default es k (record { high = 0; low = 0; above = 0 }) d b) (h k b)) j (record { high = 0; low = 0; above = 0 }) l

pub in_order : (t : List Node) (es fs : List Exclusion) → IsPermutation es fs → ((j : ℕ) → j < length es → IsOfRoot t (exclusion_at es j)) →
    ((i j : ℕ) → i ≤ j → j < length fs → (exclusion_at fs i).high ≤ (exclusion_at fs j).high) → InOrder t fs
in_order t es fs p h r = record { rising = r; roots = moved (IsOfRoot t) es fs p h }

-- values below 2^32 that are other values differ by another number
words_apart : (vs : List ℕ) (e : Exclusion) → get_or vs e.high 0 < 2 ^ 32 → IsApart vs e → ¬ IsAbove (λ k. get_or vs k 0) e.high e.low e.above
words_apart vs e w a h = let s : get_or vs e.high 0 ≡ (get_or vs e.low 0 + e.above) % 2 ^ 32 = omega arith in a s

pub all_hold : (t : List Node) (ds : List Difference) (es fs : List Exclusion) (vs : List ℕ) → IsPermutation es fs → Separates t ds (length ds) es →
    ((j : ℕ) → j < length fs → IsApart vs (exclusion_at fs j)) → ((k d : ℕ) → k < length vs → get_or vs k d < 2 ^ 32) → length vs ≡ length t →
    Keeps (λ k. get_or vs k 0) t → AllEqual (λ k. get_or vs k 0) ds → AllHold (λ k. get_or vs k 0) ds
all_hold t ds es fs vs p c a w n h e =
    let back = moved (IsApart vs) fs es (IsPermutation-sym es fs p) a in
    record {
      equal = e;
      unequal = c.unequal (λ k. get_or vs k 0) h (λ j l. words_apart vs (exclusion_at es j) (w (exclusion_at es j).high 0 (let i = (c.roots j l).inside in omega arith)) (back j l));
    }

pub same_count : (es fs gs : List Exclusion) → IsPermutation es fs → gs ≡ fs → length gs ≡ length es
same_count es fs gs p e = ap length e ∙ length_permutation es fs p

-- a smaller number of a root is blocked by a disequality
pub blocked_by : (t : List Node) (ds : List Difference) (es fs : List Exclusion) (vs : List ℕ) → IsPermutation es fs → Separates t ds (length ds) es → AreLeast t fs vs → length vs ≡ length t →
    (v k : ℕ) → v < length t → parent_at t v ≡ v → k < get_or vs v 0 → IsBlocked t ds vs v k
blocked_by t ds es fs vs p c a n v k l r b =
    let h = a.each v k (omega arith) r b in
    let e = exclusion_at fs h.at in
    let s = moved (IsRestated t ds (length ds)) es fs p c.each h.at h.inside in
    let root = moved (IsOfRoot t) es fs p c.roots h.at h.inside in
    let high = h.high in
    let lower = root.lower in
    let taken = h.taken in
    record {
      at = s.at;
      inside = s.before;
      unequal = s.restates.unequal;
      low = e.low;
      lower = omega arith;
      ends = subst (λ z. HasEnds t (difference_at ds s.at) z e.low) high s.restates.ends;
      breaks = λ val q f g. s.restates.breaks val q (above val e.high v e.low k (get_or vs e.low 0) e.above high taken f g);
    }
  where
    above : (val : ℕ → ℕ) (high v low k x c : ℕ) → high ≡ v → (x + c) % 2 ^ 32 ≡ k → val v % 2 ^ 32 ≡ k % 2 ^ 32 → val low % 2 ^ 32 ≡ x % 2 ^ 32 → IsAbove val high low c
    above val high v low k x c e t f g = subst (λ z. IsAbove val z low c) (sym e) (plain (val v) (val low) k x c t f g)
      where
        plain : (a b k x c : ℕ) → (x + c) % 2 ^ 32 ≡ k → a % 2 ^ 32 ≡ k % 2 ^ 32 → b % 2 ^ 32 ≡ x % 2 ^ 32 → a % 2 ^ 32 ≡ (b + c) % 2 ^ 32
        plain a b k x c t f g = omega arith
