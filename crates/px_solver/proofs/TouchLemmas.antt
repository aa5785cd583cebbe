-- What a conjunct touches, conjunct by conjunct.
use Rattle.std.proofs.Common.{◌≡◌, ℕ, ◌+◌, ◌<◌, ◌++◌, List, [], ◌∷◌, length, get_or, take, map, sym, ap, subst, ◌∙◌, arith}
use Rattle.std.specs.Prelude.{Bool, true, false, cond, All, not, nat_eq}
use Rattle.std.specs.List.{AllZip}
use Rattle.std.proofs.lemmas.List.{take_more, get_or_default}
use Rattle.std.proofs.lemmas.List.Elements.{All-nil, All-cons, All-head, All-tail, All-append, All-filter, All-map, All-weaker}
use Rattle.std.proofs.lemmas.Slice.Zip.{all_zipped_more}
use Rattle.px_terms.specs.Variables.{mentioned}
use Rattle.px_terms.specs.declared.conjuncts.Conj.{Conj}
use Rattle.px_terms.specs.declared.conjuncts.Conj.TheVariants.{Equal, Unequal, Less, AtMost, SamePlace, OtherPlace, Written, Unwritten, Quotient}
use Rattle.px_terms.proofs.Evaluation.{All-left, All-right}
use Rattle.px_plain.specs.declared.nodes.Node.{Node}
use Rattle.px_plain.specs.Forest.{parent_at, IsForest, Keeps}
use Rattle.px_solver.specs.Tables.{roots_of, word_variables, touched, AreOne, Joins, first_of, HasFirst, HasHome, AreNodeHomes}

pub all_word_variables : (P : ℕ → Type 0) (c : Conj) → All P (mentioned c) → All P (word_variables c)
all_word_variables P (Equal p) h = h
all_word_variables P (Unequal p) h = h
all_word_variables P (Less p q) h = h
all_word_variables P (AtMost p q) h = h
all_word_variables P (SamePlace a b) h = All-nil P
all_word_variables P (OtherPlace a b) h = All-nil P
all_word_variables P (Written x) h = All-nil P
all_word_variables P (Unwritten x) h = All-nil P
all_word_variables P (Quotient x p q) h = h

pub roots_inside : (t : List Node) (xs : List ℕ) → IsForest t → All (λ x. x + 1 < length t) xs → All (λ u. u < length t) (roots_of t xs)
roots_inside t xs f h =
    let P = λ (u : ℕ). u < length t in
    All-filter (λ u. not (nat_eq u 0)) P (map (λ x. parent_at t (x + 1)) xs)
    (All-map P (λ (x : ℕ). parent_at t (x + 1)) xs (All-weaker (λ x. x + 1 < length t) (λ x. parent_at t (x + 1) < length t) (λ x l. let low = f.lower (x + 1) l in omega arith) xs h))

pub touched_inside : (t : List Node) (c : Conj) → IsForest t → All (λ x. x + 1 < length t) (mentioned c) → All (λ u. u < length t) (touched t c)
touched_inside t c f h = roots_inside t (word_variables c) f (all_word_variables (λ x. x + 1 < length t) c h)

-- one conjunct more is joined
pub joins_more : (t : List Node) (cs : List Conj) (i : ℕ) (c : Conj) (old new : List Node) → i < length cs → c ≡ get_or cs i c → Joins t (take i cs) old →
    IsForest new → Keeps (λ v. 0) new → length new ≡ length old → ((val : ℕ → ℕ) → Keeps val new → Keeps val old) →
    ((val : ℕ → ℕ) → Keeps val new → AreOne val (touched t c)) → ((val : ℕ → ℕ) → Keeps val old → AreOne val (touched t c) → Keeps val new) → Joins t (take (i + 1) cs) new
joins_more t cs i c old new l e j f b n back one more =
    let cut : take (i + 1) cs ≡ take i cs ++ c ∷ [] = take_more cs i c l ∙ ap (λ z. take i cs ++ z ∷ []) (sym e) in
    subst (λ z. Joins t z new) (sym cut) (record {
      forest = f;
      bare = b;
      size = n ∙ j.size;
      there = λ val all.
          let P = λ (d : Conj). AreOne val (touched t d) in
          more val (j.there val (All-left P (take i cs) (c ∷ []) all)) (All-head P c [] (All-right P (take i cs) (c ∷ []) all));
      back = λ val k.
          let P = λ (d : Conj). AreOne val (touched t d) in
          All-append P (take i cs) (c ∷ []) (j.back val (back val k)) (All-cons P c [] (one val k) (All-nil P));
    })

pub zip_more : (R : Conj → ℕ → Type 0) (cs : List Conj) (hs : List ℕ) (i : ℕ) (c : Conj) (h : ℕ) → i < length cs → c ≡ get_or cs i c → AllZip R (take i cs) hs → R c h → AllZip R (take (i + 1) cs) (hs ++ h ∷ [])
zip_more R cs hs i c h l e a r =
    subst (λ z. AllZip R z (hs ++ h ∷ [])) (sym (take_more cs i c l ∙ ap (λ z. take i cs ++ z ∷ []) (sym e))) (all_zipped_more R (take i cs) hs c h a r)

-- ---- first roots and homes

first_inside : (t : List Node) (us : List ℕ) → 0 < length t → All (λ u. u < length t) us → first_of us < length t
first_inside t [] some h = some
first_inside t (u ∷ us) some h = All-head (λ u. u < length t) u us h

pub firsts_inside : (t : List Node) (cs : List Conj) (hs : List ℕ) → 0 < length t → IsForest t → All (λ c. All (λ x. x + 1 < length t) (mentioned c)) cs → AllZip (HasFirst t) cs hs → All (λ u. u < length t) hs
firsts_inside t [] [] some f h z = All-nil (λ u. u < length t)
firsts_inside t [] (u ∷ us) some f h z = absurd z
firsts_inside t (c ∷ cs) [] some f h z = absurd z
firsts_inside t (c ∷ cs) (u ∷ us) some f h z =
    let P = λ (d : Conj). All (λ x. x + 1 < length t) (mentioned d) in
    All-cons (λ u. u < length t) u us (subst (λ k. k < length t) (sym z.0) (first_inside t (touched t c) some (touched_inside t c f (All-head P c cs h))))
    (firsts_inside t cs us some f (All-tail P c cs h) z.1)

pub homes_from : (t ct : List Node) (cs : List Conj) (hs : List ℕ) → AllZip (HasFirst t) cs hs → AllZip (HasHome t ct) cs (map (parent_at ct) hs)
homes_from t ct [] [] z = tt
homes_from t ct [] (u ∷ us) z = absurd z
homes_from t ct (c ∷ cs) [] z = absurd z
homes_from t ct (c ∷ cs) (u ∷ us) z = (ap (parent_at ct) z.0, homes_from t ct cs us z.1)

-- ---- homes are nodes, one for each conjunct

pub homes_inside : (t ct : List Node) (cs : List Conj) (hs : List ℕ) → 0 < length t → IsForest t → IsForest ct → length ct ≡ length t → All (λ c. All (λ x. x + 1 < length t) (mentioned c)) cs → AllZip (HasHome t ct) cs hs → All (λ h. h < length t) hs
homes_inside t ct [] [] some f g n h z = All-nil (λ u. u < length t)
homes_inside t ct [] (u ∷ us) some f g n h z = absurd z
homes_inside t ct (c ∷ cs) [] some f g n h z = absurd z
homes_inside t ct (c ∷ cs) (u ∷ us) some f g n h z =
    let P = λ (d : Conj). All (λ x. x + 1 < length t) (mentioned d) in
    let first = first_inside t (touched t c) some (touched_inside t c f (All-head P c cs h)) in
    let low = g.lower (first_of (touched t c)) (omega arith) in
    let e = z.0 in
    All-cons (λ u. u < length t) u us (omega arith) (homes_inside t ct cs us some f g n (All-tail P c cs h) z.1)

pub node_homes_inside : (t ct : List Node) (hs : List ℕ) → 0 < length t → IsForest ct → length ct ≡ length t → AreNodeHomes t ct hs → All (λ h. h < length t) hs
node_homes_inside t ct hs some g n a = λ k d l.
    let size = a.size in
    let same = get_or_default hs k d 0 l in
    let here = a.each k (omega arith) in
    let low = g.lower k (omega arith) in
    let e = choice (nat_eq (parent_at t k) k) (parent_at ct k) (length t) (omega arith) some in
    omega arith
  where
    choice : (b : Bool) (p n : ℕ) → p < n → 0 < n → cond b p 0 < n
    choice true p n l m = l
    choice false p n l m = m
