-- The first 24 different words, put one after the other.
use Rattle.std.proofs.Common.{◌≡◌, ℕ, ◌+◌, ◌<◌, ◌≤◌, ◌++◌, List, [], ◌∷◌, length, length-append, get_or, take, refl, sym, ap, ◌∙◌, arith, inl, inr}
use Rattle.std.specs.Prelude.{Option, Some, cond, nat_eq, fold, flat_map, option_to_list, slice_get, true, false, Bool}
use Rattle.std.specs.List.{list_any}
use Rattle.std.proofs.lemmas.Bool.{cases_lt}
use Rattle.std.proofs.lemmas.List.{take_more, take_all, take-append-le}
use Rattle.std.proofs.lemmas.Grind.{flat_map-append}
use Rattle.std.proofs.lemmas.List.Sums.{fold-append}
use Rattle.std.proofs.lemmas.Option.{slice_get-get_or}
use Rattle.px_terms.specs.declared.conjuncts.Conj.{Conj}
use Rattle.px_solver.specs.Candidates.{put_new, distinct, end_words, around, constants_of, quotients_of, constant_words, words_of, candidates}
use Rattle.px_solver.specs.Tables.{put_few, picked}
use Rattle.px_terms.proofs.Tests.{lt_true, lt_false}

-- ---- at most 24 of the different ones

length_take_full : (n : ℕ) (xs : List ℕ) → n ≤ length xs → length (take n xs) ≡ n
length_take_full n xs l = let e = Rattle.std.proofs.Common.length-take n xs in omega arith

put_few_take : (seen : List ℕ) (x : ℕ) → put_few (take 24 seen) x ≡ take 24 (put_new seen x)
put_few_take seen x = elim (cases_lt (length seen) 24) [
  | inl l ↦
      let all : take 24 seen ≡ seen = take_all 24 seen (omega arith) in
      ap (λ z. put_few z x) all ∙ ap (λ b. cond b (put_new seen x) seen) (lt_true (length seen) 24 l) ∙ sym (take_all 24 (put_new seen x) (short (list_any (nat_eq x) seen) l))
  | inr l ↦
      ap (λ b. cond b (put_new (take 24 seen) x) (take 24 seen)) (lt_false (length (take 24 seen)) 24 (let e = length_take_full 24 seen l in omega arith))
      ∙ full (list_any (nat_eq x) seen) l
]
  where
    short : (b : Bool) → length seen < 24 → length (cond b seen (seen ++ x ∷ [])) ≤ 24
    short true l = omega arith
    short false l = let e = length-append seen (x ∷ []) in omega arith

    full : (b : Bool) → 24 ≤ length seen → take 24 seen ≡ take 24 (cond b seen (seen ++ x ∷ []))
    full true l = refl
    full false l = sym (take-append-le 24 seen (x ∷ []) l)

fold_few_take : (seen xs : List ℕ) → fold put_few (take 24 seen) xs ≡ take 24 (fold put_new seen xs)
fold_few_take seen [] = refl
fold_few_take seen (x ∷ xs) = ap (λ z. fold put_few z xs) (put_few_take seen x) ∙ fold_few_take (put_new seen x) xs

pub few_distinct : (xs : List ℕ) → fold put_few [] xs ≡ take 24 (distinct xs)
few_distinct xs = fold_few_take [] xs

pub few_candidates : (fixed : ℕ → Option ℕ) (cs : List Conj) → length (candidates fixed cs) ≤ 24
few_candidates fixed cs = let e = Rattle.std.proofs.Common.length-take 24 (distinct (words_of fixed cs)) in omega arith

-- ---- conjunct by conjunct

pub picked_more : (cs : List Conj) (is : List ℕ) (i : ℕ) (c : Conj) → i < length is → get_or is i 0 < length cs → c ≡ get_or cs (get_or is i 0) c → picked cs (take (i + 1) is) ≡ picked cs (take i is) ++ c ∷ []
picked_more cs is i c l b e =
    ap (picked cs) (take_more is i 0 l)
    ∙ flat_map-append (λ (j : ℕ). option_to_list (slice_get cs j)) (take i is) (get_or is i 0 ∷ [])
    ∙ ap (λ z. picked cs (take i is) ++ (option_to_list z ++ [])) (slice_get-get_or cs (get_or is i 0) c b ∙ ap Some (sym e))

pub put_more : (cs : List Conj) (is : List ℕ) (i : ℕ) (c : Conj) (vs : List ℕ) → i < length is → get_or is i 0 < length cs → c ≡ get_or cs (get_or is i 0) c →
    vs ≡ fold put_few [] (end_words ++ flat_map around (flat_map constants_of (picked cs (take i is)))) →
    fold put_few vs (flat_map around (constants_of c)) ≡ fold put_few [] (end_words ++ flat_map around (flat_map constants_of (picked cs (take (i + 1) is))))
put_more cs is i c vs l b e q =
    let before = picked cs (take i is) in
    ap (λ z. fold put_few z (flat_map around (constants_of c))) q
    ∙ sym (fold-append put_few [] (end_words ++ flat_map around (flat_map constants_of before)) (flat_map around (constants_of c)))
    ∙ ap (fold put_few []) (Rattle.std.proofs.Common.append_assoc end_words (flat_map around (flat_map constants_of before)) (flat_map around (constants_of c)))
    ∙ ap (λ z. fold put_few [] (end_words ++ z)) (sym (flat_map-append around (flat_map constants_of before) (constants_of c)))
    ∙ ap (λ z. fold put_few [] (end_words ++ flat_map around z)) (ap (λ z. flat_map constants_of before ++ z) (sym (one (constants_of c))) ∙ sym (flat_map-append constants_of before (c ∷ [])))
    ∙ ap (λ z. fold put_few [] (end_words ++ flat_map around (flat_map constants_of z))) (sym (picked_more cs is i c l b e))
  where
    one : (xs : List ℕ) → xs ++ [] ≡ xs
    one xs = Rattle.std.proofs.Common.append-nil xs

-- ---- quotients, conjunct by conjunct

pub put_quotients_more : (fixed : ℕ → Option ℕ) (cs : List Conj) (is : List ℕ) (i : ℕ) (c : Conj) (old vs : List ℕ) → i < length is → get_or is i 0 < length cs → c ≡ get_or cs (get_or is i 0) c →
    vs ≡ fold put_few old (flat_map (quotients_of fixed) (picked cs (take i is))) →
    fold put_few vs (quotients_of fixed c) ≡ fold put_few old (flat_map (quotients_of fixed) (picked cs (take (i + 1) is)))
put_quotients_more fixed cs is i c old vs l b e q =
    let before = picked cs (take i is) in
    ap (λ z. fold put_few z (quotients_of fixed c)) q
    ∙ sym (fold-append put_few old (flat_map (quotients_of fixed) before) (quotients_of fixed c))
    ∙ ap (fold put_few old) (ap (λ z. flat_map (quotients_of fixed) before ++ z) (sym (Rattle.std.proofs.Common.append-nil (quotients_of fixed c))) ∙ sym (flat_map-append (quotients_of fixed) before (c ∷ [])))
    ∙ ap (λ z. fold put_few old (flat_map (quotients_of fixed) z)) (sym (picked_more cs is i c l b e))

pub words_put : (fixed : ℕ → Option ℕ) (cs : List Conj) (old new : List ℕ) → old ≡ fold put_few [] (constant_words cs) → new ≡ fold put_few old (flat_map (quotients_of fixed) cs) → new ≡ candidates fixed cs
words_put fixed cs old new e q =
    q ∙ ap (λ z. fold put_few z (flat_map (quotients_of fixed) cs)) e
    ∙ sym (fold-append put_few [] (constant_words cs) (flat_map (quotients_of fixed) cs))
    ∙ few_distinct (words_of fixed cs)
