-- Conjuncts that are selected, one by one, and by other words.
use Rattle.std.proofs.Common.{◌≡◌, inl, inr, ℕ, zero, suc, ◌+◌, ◌<◌, ◌++◌, List, [], ◌∷◌, length, get_or, take, drop, refl, sym, ap, subst, ◌∙◌, arith}
use Rattle.std.specs.Prelude.{Bool, true, false, Some, cond, All, slice_get, option_to_list}
use Rattle.std.specs.List.{AllZip}
use Rattle.std.proofs.lemmas.Bool.{cases_eq, eq-eqb, ne_eqb}
use Rattle.std.proofs.lemmas.List.{take_more}
use Rattle.std.proofs.lemmas.List.Elements.{All-nil, All-cons, All-head, All-tail}
use Rattle.px_terms.specs.declared.conjuncts.Conj.{Conj}
use Rattle.px_solver.specs.Components.{Selects}
use Rattle.px_solver.specs.Tables.{SelectsByHome, places_from, picked}

-- ---- one conjunct more

select_more : (P : ℕ → Conj → Type 0) (cs : List Conj) (hs : List ℕ) (us : List Conj) (c : Conj) (h : ℕ) (b : Bool) → (b ≡ true → P h c) → (b ≡ false → ¬ P h c) → SelectsByHome P cs hs us →
    SelectsByHome P (cs ++ c ∷ []) (hs ++ h ∷ []) (cond b (us ++ c ∷ []) us)
select_more P [] [] us c h true holds fails s = inl (holds refl, ([], ap (λ z. z ++ c ∷ []) s.1, (refl, refl)))
select_more P [] [] us c h false holds fails s = inr (fails refl, (refl, s.1))
select_more P [] (k ∷ hs) us c h b holds fails s = absurd (let e = s.0 in cc)
select_more P (d ∷ cs) [] us c h b holds fails s = absurd s
select_more P (d ∷ cs) (k ∷ hs) us c h b holds fails (inl (p, (vs, e, r))) =
    inl (p, (cond b (vs ++ c ∷ []) vs, both b, select_more P cs hs vs c h b holds fails r))
  where
    both : (b : Bool) → cond b (us ++ c ∷ []) us ≡ d ∷ cond b (vs ++ c ∷ []) vs
    both true = ap (λ z. z ++ c ∷ []) e
    both false = e
select_more P (d ∷ cs) (k ∷ hs) us c h b holds fails (inr (n, r)) = inr (n, select_more P cs hs us c h b holds fails r)

pub select_next : (P : ℕ → Conj → Type 0) (cs : List Conj) (hs : List ℕ) (i : ℕ) (c : Conj) (us vs : List Conj) (b : Bool) → i < length cs → length hs ≡ length cs → c ≡ get_or cs i c →
    (b ≡ true → P (get_or hs i 0) c) → (b ≡ false → ¬ P (get_or hs i 0) c) → vs ≡ cond b (us ++ c ∷ []) us → SelectsByHome P (take i cs) (take i hs) us → SelectsByHome P (take (i + 1) cs) (take (i + 1) hs) vs
select_next P cs hs i c us vs b l n e holds fails q s =
    let x : take (i + 1) cs ≡ take i cs ++ c ∷ [] = take_more cs i c l ∙ ap (λ z. take i cs ++ z ∷ []) (sym e) in
    let y : take (i + 1) hs ≡ take i hs ++ get_or hs i 0 ∷ [] = take_more hs i 0 (omega arith) in
    subst (λ z. SelectsByHome P z (take (i + 1) hs) vs) (sym x) (subst (λ z. SelectsByHome P (take i cs ++ c ∷ []) z vs) (sym y)
    (subst (SelectsByHome P (take i cs ++ c ∷ []) (take i hs ++ get_or hs i 0 ∷ [])) (sym q) (select_more P (take i cs) (take i hs) us c (get_or hs i 0) b holds fails s)))

-- ---- by another word

pub select_by : (P : ℕ → Conj → Type 0) (Q : Conj → Type 0) (cs : List Conj) (hs : List ℕ) (us : List Conj) → AllZip (λ c h. (P h c → Q c) × (Q c → P h c)) cs hs → SelectsByHome P cs hs us → Selects Q cs us
select_by P Q [] [] us z s = s.1
select_by P Q [] (h ∷ hs) us z s = absurd z
select_by P Q (c ∷ cs) [] us z s = absurd z
select_by P Q (c ∷ cs) (h ∷ hs) us z (inl (p, (vs, e, r))) = inl (z.0.0 p, (vs, e, select_by P Q cs hs vs z.1 r))
select_by P Q (c ∷ cs) (h ∷ hs) us z (inr (n, r)) = inr ((λ q. n (z.0.1 q)), select_by P Q cs hs us z.1 r)

-- ---- by places

module _ (all : List Conj) (P : Conj → Type 0) (home : ℕ) where
  read_at : (k : ℕ) (c : Conj) (cs : List Conj) → drop k all ≡ c ∷ cs → (slice_get all k ≡ Some c) × (drop (suc k) all ≡ cs)
  read_at k c cs e = go k all e
    where
      go : (k : ℕ) (xs : List Conj) → drop k xs ≡ c ∷ cs → (slice_get xs k ≡ Some c) × (drop (suc k) xs ≡ cs)
      go zero [] e = absurd (cc)
      go zero (x ∷ xs) e = (let f : x ≡ c = cc in ap Some f, (cc))
      go (suc k) [] e = absurd (cc)
      go (suc k) (x ∷ xs) e = go k xs e

  pub picked_from : (k : ℕ) (cs : List Conj) (hs : List ℕ) → drop k all ≡ cs → AllZip (λ c h. (h ≡ home → P c) × (P c → h ≡ home)) cs hs → Selects P cs (picked all (places_from home k hs))
  picked_from k [] [] e z = refl
  picked_from k [] (h ∷ hs) e z = absurd z
  picked_from k (c ∷ cs) [] e z = absurd z
  picked_from k (c ∷ cs) (h ∷ hs) e z =
      let r = read_at k c cs e in
      let rest = picked_from (suc k) cs hs r.1 z.1 in
      elim (cases_eq h home) [
        | inl q ↦ subst (λ b. Selects P (c ∷ cs) (picked all (cond b (k ∷ places_from home (suc k) hs) (places_from home (suc k) hs)))) (sym (eq-eqb h home q))
            (inl (z.0.0 q, (picked all (places_from home (suc k) hs), ap (λ o. option_to_list o ++ picked all (places_from home (suc k) hs)) r.0, rest)))
        | inr n ↦ subst (λ b. Selects P (c ∷ cs) (picked all (cond b (k ∷ places_from home (suc k) hs) (places_from home (suc k) hs)))) (sym (ne_eqb h home n))
            (inr ((λ p. n (z.0.1 p)), rest))
      ]

-- what is selected holds
pub selected_all : (P Q : Conj → Type 0) (cs us : List Conj) → Selects P cs us → All (λ c. P c → Q c) cs → All Q us
selected_all P Q [] us s h = subst (All Q) (sym s) (All-nil Q)
selected_all P Q (c ∷ cs) us (inl (p, (vs, e, r))) h =
    subst (All Q) (sym e) (All-cons Q c vs (All-head (λ c. P c → Q c) c cs h p) (selected_all P Q cs vs r (All-tail (λ c. P c → Q c) c cs h)))
selected_all P Q (c ∷ cs) us (inr (n, r)) h = selected_all P Q cs us r (All-tail (λ c. P c → Q c) c cs h)

-- what holds of the selected conjuncts holds where P does
pub all_selected : (P Q : Conj → Type 0) (cs us : List Conj) → Selects P cs us → All Q us → All (λ c. P c → Q c) cs
all_selected P Q [] us s h = All-nil (λ c. P c → Q c)
all_selected P Q (c ∷ cs) us (inl (p, (vs, e, r))) h =
    let k = subst (All Q) e h in
    All-cons (λ c. P c → Q c) c cs (λ q. All-head Q c vs k) (all_selected P Q cs vs r (All-tail Q c vs k))
all_selected P Q (c ∷ cs) us (inr (n, r)) h = All-cons (λ c. P c → Q c) c cs (λ q. absurd (n q)) (all_selected P Q cs us r h)
