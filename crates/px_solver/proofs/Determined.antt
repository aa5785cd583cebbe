-- What is decided of a list of conjuncts is one decision.
--
-- Whether a variable is fixed and whether a component is hard is known of a forest alone. Here there is
-- none: but equal words are equal where they can't be unequal, so that it needn't be known.
use Rattle.std.proofs.Common.{◌≡◌, ◌⊎◌, inl, inr, ℕ, zero, suc, ◌+◌, ◌%◌, ◌^◌, ◌<◌, List, [], ◌∷◌, length, get_or, refl, sym, ap, ap₂, subst, ◌∙◌, arith}
use Rattle.std.specs.Prelude.{All, Contains, Option, Some, None, IsSomeAnd, slice_get, FitsSigned, ℤ}
use Rattle.std.specs.Int.{w32}
use Rattle.std.proofs.lemmas.List.Elements.{length_all_zip}
use Rattle.px_terms.specs.Words.{word, signed}
use Rattle.px_terms.specs.Valuations.{Valuation, valuation_of, number_of, numbers_of, IsWord, IsUnwritten, FitsSort, Fits}
use Rattle.px_terms.specs.Conjuncts.{IsTrueUnder, IsIntVariable, IsPointerVariable}
use Rattle.px_terms.specs.declared.types.TypeId.{TypeId}
use Rattle.px_terms.specs.declared.types.ValueType.{ValueType}
use Rattle.px_terms.specs.declared.types.ValueType.TheVariants.{Int, Pointer}
use Rattle.px_terms.specs.declared.types.Value.{Value}
use Rattle.px_terms.specs.declared.types.Value.TheVariants as value
use Rattle.px_terms.specs.declared.variables.Sort.{Sort}
use Rattle.px_terms.specs.declared.variables.Sort.TheVariants.{Given, Cell, Input, Made}
use Rattle.px_terms.specs.declared.variables.VarInfo.{VarInfo}
use Rattle.px_terms.specs.declared.conjuncts.Conj.{Conj}
use Rattle.px_terms.specs.declared.conjuncts.Conj.TheVariants.{Equal, Unequal, Less, AtMost, SamePlace, OtherPlace, Written, Unwritten, Quotient}
use Rattle.px_terms.proofs.WordLaws.{words_are_signed}
use Rattle.px_plain.specs.Ties.{IsTrueOf, KeepsTies, IsTied, IsFixed, HasRepresentative, IsRepresentative, SaysUnwritten, IsSaidUnwritten}
use Rattle.px_solver.specs.Components.{AreMembers, IsOfComponent, ShareComponent, IsHard, IsHardComponent}
use Rattle.px_solver.specs.Assignments.{GivesCandidates, Makes, IsFirst, AreCandidates, IsSolvedBy, IsUnsolved}
use Rattle.px_solver.specs.Models.{IsModel, Counts, IsLeastSame, IsNumbered, HasPlace}
use Rattle.px_solver.proofs.FixedWords.{candidates_once}
use Rattle.px_solver.proofs.Once.{stable, equal_or_not, Compared, less, same, more, compared, some_least, select_once, count_once, rises_once, Ordered, earlier, equal, later, ordered}

-- ---- representatives

module _ (cs : List Conj) where
  rep_itself : (x r : ℕ) → HasRepresentative cs x r → IsRepresentative cs r
  rep_itself x r h = record {
    above = 0;
    tied = λ w k. omega arith;
    least = λ y c l t. h.least y (h.above + c) l (λ w k. let a = h.tied w k in let b = t w k in omega arith);
    free = λ (c, f). h.free (c + h.above, λ w k. let a = h.tied w k in let b = f w k in omega arith);
  }

  -- a variable that isn't fixed can't be without a representative
  some_rep : (x : ℕ) → ¬ IsFixed cs x → ¬ ¬ ((r : ℕ) × HasRepresentative cs x r)
  some_rep x free none = some_least (λ y. (c : ℕ) × IsTied cs x y c) x (0, λ w k. omega arith)
      (λ m. none (m.number, record { above = m.holds.0; tied = m.holds.1; least = λ y c l t. m.lower y l (c, t); free = free }))

  -- ---- components

  share_itself : (r : ℕ) → ShareComponent cs r r
  share_itself r set closed = refl

  members_once : (r : ℕ) (xs ys : List ℕ) → AreMembers cs r xs → AreMembers cs r ys → xs ≡ ys
  members_once r xs ys a b = rises_once xs ys a.rising b.rising
      (λ z (k, l, e). let h = a.each k z l in b.all z (subst (λ s. IsRepresentative cs s) e h.0) (subst (λ s. ShareComponent cs r s) e h.1))
      (λ z (k, l, e). let h = b.each k z l in a.all z (subst (λ s. IsRepresentative cs s) e h.0) (subst (λ s. ShareComponent cs r s) e h.1))

  -- the words of a member are those of its candidate
  given_at : (w u : ℕ → ℕ) (values members places : List ℕ) → GivesCandidates w values members places → GivesCandidates u values members places
      → (r : ℕ) → Contains members r → w r % 2 ^ 32 ≡ u r % 2 ^ 32
  given_at w u values [] [] g h r (k, l, e) = absurd (omega arith)
  given_at w u values [] (p ∷ ps) g h r c = absurd g
  given_at w u values (m ∷ ms) [] g h r c = absurd g
  given_at w u values (m ∷ ms) (p ∷ ps) g h r (zero, l, e) = subst (λ z. w z % 2 ^ 32 ≡ u z % 2 ^ 32) e (g.0.1 ∙ sym h.0.1)
  given_at w u values (m ∷ ms) (p ∷ ps) g h r (suc k, l, e) = given_at w u values ms ps g.1 h.1 r (k, (let n : k < length ms = omega arith in n), e)

  -- the first assignment is one
  first_once : (values members : List ℕ) (us : List Conj) (ks js : List ℕ) → IsFirst cs values members us ks → IsFirst cs values members us js → ks ≡ js
  first_once values members us ks js a b = by (ordered ks js (sym (length_all_zip _ members ks a.makes.given) ∙ length_all_zip _ members js b.makes.given))
    where
      by : Ordered ks js → ks ≡ js
      by (earlier h) = absurd (b.first ks h a.makes)
      by (equal e) = e
      by (later h) = absurd (a.first js h b.makes)

  -- words that solve a component are the same at its representatives
  solved_once : (w u : ℕ → ℕ) (r : ℕ) → IsSolvedBy cs w r → IsSolvedBy cs u r → (s : ℕ) → IsRepresentative cs s → ShareComponent cs r s → w s % 2 ^ 32 ≡ u s % 2 ^ 32
  solved_once w u r a b s rep share =
      let m = members_once r b.members a.members b.are_members a.are_members in
      let c = select_once (IsOfComponent cs r) cs b.conjuncts a.conjuncts b.selects a.selects in
      let makes = a.is_first.makes in
      let v = candidates_once cs a.conjuncts b.values a.values (subst (λ z. AreCandidates cs z b.values) c b.are_candidates) a.are_candidates makes.words makes.keep in
      let g = subst (λ z. GivesCandidates u z a.members b.places) v (subst (λ z. GivesCandidates u b.values z b.places) m b.given) in
      let f = subst (λ z. IsFirst cs z a.members a.conjuncts b.places) v (subst (λ z. IsFirst cs b.values a.members z b.places) c (subst (λ z. IsFirst cs b.values z b.conjuncts b.places) m b.is_first)) in
      let p = first_once a.values a.members a.conjuncts b.places a.places f a.is_first in
      given_at w u a.values a.members a.places a.given (subst (λ z. GivesCandidates u a.values a.members z) p g) s (a.are_members.all s rep share)

  -- what is solved doesn't fail
  pub solved_not_failed : (w : ℕ → ℕ) (r : ℕ) → IsSolvedBy cs w r → IsUnsolved cs r → ⊥
  solved_not_failed w r a b = by b.fails
    where
      m : a.members ≡ b.members
      m = members_once r a.members b.members a.are_members b.are_members

      c : a.conjuncts ≡ b.conjuncts
      c = select_once (IsOfComponent cs r) cs a.conjuncts b.conjuncts a.selects b.selects

      v : a.values ≡ b.values
      v =
          let makes = a.is_first.makes in
          candidates_once cs b.conjuncts a.values b.values (subst (λ z. AreCandidates cs z a.values) c a.are_candidates) b.are_candidates makes.words makes.keep

      by : (3 < length b.members) ⊎ ((places : List ℕ) → ¬ Makes cs b.values b.members b.conjuncts places) → ⊥
      by (inl l) = let few = a.few in let e : length a.members ≡ length b.members = ap length m in absurd (omega arith)
      by (inr none) = none a.places
          (subst (λ z. Makes cs z b.members b.conjuncts a.places) v
          (subst (λ z. Makes cs a.values b.members z a.places) c
          (subst (λ z. Makes cs a.values z a.conjuncts a.places) m a.is_first.makes)))

-- ---- values

pub true_of : (v : Valuation) (c : Conj) → IsTrueUnder v c → IsTrueOf (numbers_of v) c
true_of v (Equal p) h = h.1
true_of v (Unequal p) h = h.1
true_of v (Less p q) h = h.2
true_of v (AtMost p q) h = h.2
true_of v (SamePlace a b) h = tt
true_of v (OtherPlace a b) h = tt
true_of v (Written x) h = tt
true_of v (Unwritten x) h = tt
true_of v (Quotient x p q) h = h.3

-- a pointer has no word
no_word : (s : Sort) (t : TypeId) (a : Value) → FitsSort s (Pointer t) a → number_of a ≡ 0
no_word s t (value.Word z) h = absurd (not_place s h)
  where
    not_place : (s : Sort) → FitsSort s (Pointer t) (value.Word z) → ⊥
    not_place Given h = h
    not_place Cell h = h
    not_place Input h = h
    not_place Made h = h.0
no_word s t value.Null h = refl
no_word s t (value.Block b) h = refl
no_word s t value.Unwritten h = refl

pub fits_word : (s : Sort) (z : ℤ) → FitsSort s Int (value.Word z) → FitsSigned w32 z
fits_word Given z h = h
fits_word Cell z h = h
fits_word Input z h = h
fits_word Made z h = h.0

-- words of 32 bits are one where their numbers are
same_word : (s t : Sort) (a b : Value) → FitsSort s Int a → FitsSort t Int b → IsWord a → IsWord b → number_of a % 2 ^ 32 ≡ number_of b % 2 ^ 32 → a ≡ b
same_word s t (value.Word z) (value.Word y) f g h k e =
    let p = fits_word s z f in
    let q = fits_word t y g in
    let a = words_are_signed.word_fits z p in
    let b = words_are_signed.word_fits y q in
    let n : word z ≡ word y = omega arith in
    ap value.Word (sym (words_are_signed.signed_word z p) ∙ ap signed n ∙ words_are_signed.signed_word y q)
same_word s t (value.Word z) value.Null f g h k e = absurd k
same_word s t (value.Word z) (value.Block c) f g h k e = absurd k
same_word s t (value.Word z) value.Unwritten f g h k e = absurd k
same_word s t value.Null b f g h k e = absurd h
same_word s t (value.Block c) b f g h k e = absurd h
same_word s t value.Unwritten b f g h k e = absurd h

beyond : (vars : List VarInfo) (vs : List Value) (x : ℕ) → length vs ≡ length vars → slice_get vars x ≡ None → number_of (valuation_of vs x) ≡ 0
beyond [] [] x e n = refl
beyond [] (a ∷ vs) x e n = absurd (omega arith)
beyond (i ∷ vars) [] x e n = refl
beyond (i ∷ vars) (a ∷ vs) zero e n = cc
beyond (i ∷ vars) (a ∷ vs) (suc x) e n = beyond vars vs x (omega arith) n

is_some : (P : VarInfo → Type 0) (o : Option VarInfo) (i : VarInfo) → o ≡ Some i → P i → IsSomeAnd o P
is_some P o i e p = subst (λ z. IsSomeAnd z P) (sym e) p

-- ---- what is said to be unwritten

says_or_not : (x : ℕ) (c : Conj) → SaysUnwritten x c ⊎ (¬ SaysUnwritten x c)
says_or_not x (Equal p) = inr (λ h. h)
says_or_not x (Unequal p) = inr (λ h. h)
says_or_not x (Less p q) = inr (λ h. h)
says_or_not x (AtMost p q) = inr (λ h. h)
says_or_not x (SamePlace a b) = inr (λ h. h)
says_or_not x (OtherPlace a b) = inr (λ h. h)
says_or_not x (Written y) = inr (λ h. h)
says_or_not x (Unwritten y) = equal_or_not y.0 x
says_or_not x (Quotient y p q) = inr (λ h. h)

pub said_or_not : (cs : List Conj) (x : ℕ) → IsSaidUnwritten cs x ⊎ (¬ IsSaidUnwritten cs x)
said_or_not [] x = inr (λ (k, c, l, e, s). absurd (omega arith))
said_or_not (c ∷ cs) x = by (says_or_not x c) (said_or_not cs x)
  where
    neither : ¬ SaysUnwritten x c → ¬ IsSaidUnwritten cs x → (k : ℕ) (d : Conj) → k < suc (length cs) → get_or (c ∷ cs) k d ≡ d → SaysUnwritten x d → ⊥
    neither p q zero d l e s = p (subst (SaysUnwritten x) (sym e) s)
    neither p q (suc k) d l e s = q (k, d, (let b : k < length cs = omega arith in b), e, s)

    by : SaysUnwritten x c ⊎ (¬ SaysUnwritten x c) → IsSaidUnwritten cs x ⊎ (¬ IsSaidUnwritten cs x) → IsSaidUnwritten (c ∷ cs) x ⊎ (¬ IsSaidUnwritten (c ∷ cs) x)
    by (inl s) q = inl (0, c, (let b : 0 < suc (length cs) = omega arith in b), refl, s)
    by (inr p) (inl (k, d, l, e, s)) = inl (suc k, d, (let b : suc k < suc (length cs) = omega arith in b), e, s)
    by (inr p) (inr q) = inr (λ (k, d, l, e, s). neither p q k d l e s)

lists_once : (vs us : List Value) → length vs ≡ length us → ((x : ℕ) → x < length vs → valuation_of vs x ≡ valuation_of us x) → vs ≡ us
lists_once [] [] e h = refl
lists_once [] (b ∷ us) e h = absurd (omega arith)
lists_once (a ∷ vs) [] e h = absurd (omega arith)
lists_once (a ∷ vs) (b ∷ us) e h = ap₂ ◌∷◌ (h 0 (omega arith)) (lists_once vs us (omega arith) (λ x l. h (suc x) (omega arith)))

pub got : (vars : List VarInfo) (x : ℕ) → x < length vars → (i : VarInfo) × (slice_get vars x ≡ Some i)
got [] x l = absurd (omega arith)
got (i ∷ vars) zero l = (i, refl)
got (i ∷ vars) (suc x) l = got vars x (omega arith)

-- ---- two lists of values

-- the words of both are the same at x
abbrev pub AreSame : List Value → List Value → ℕ → Type 0
AreSame vs us x = numbers_of (valuation_of vs) x % 2 ^ 32 ≡ numbers_of (valuation_of us) x % 2 ^ 32

-- lists of values of which is known what makes them one: a representative has the same word in both
-- where those below it have, and pointers have the same places
pub record AreAlike (vars : List VarInfo) (cs : List Conj) (vs us : List Value) : Type 0 where
  pub first_size : length vs ≡ length vars
  pub second_size : length us ≡ length vars
  pub first_fits : Fits vars (valuation_of vs)
  pub second_fits : Fits vars (valuation_of us)
  pub first_keeps : KeepsTies (numbers_of (valuation_of vs)) cs
  pub second_keeps : KeepsTies (numbers_of (valuation_of us)) cs
  pub representatives : (r : ℕ) → IsIntVariable vars r → IsRepresentative cs r → ((s : ℕ) → s < r → IsRepresentative cs s → AreSame vs us s) → ¬ ¬ AreSame vs us r
  pub first_unwritten : (x : ℕ) → x < length vars → IsSaidUnwritten cs x → IsUnwritten (valuation_of vs x)
  pub second_unwritten : (x : ℕ) → x < length vars → IsSaidUnwritten cs x → IsUnwritten (valuation_of us x)
  pub first_words : (x : ℕ) → IsIntVariable vars x → ¬ IsSaidUnwritten cs x → IsWord (valuation_of vs x)
  pub second_words : (x : ℕ) → IsIntVariable vars x → ¬ IsSaidUnwritten cs x → IsWord (valuation_of us x)
  pub places : (x : ℕ) → x < length vars → IsPointerVariable vars x → ¬ IsSaidUnwritten cs x → valuation_of vs x ≡ valuation_of us x

module _ (vars : List VarInfo) (cs : List Conj) (vs us : List Value) (h : AreAlike vars cs vs us) where
  at_rep : (r : ℕ) → IsRepresentative cs r → ((s : ℕ) → s < r → IsRepresentative cs s → AreSame vs us s) → AreSame vs us r
  at_rep r rep ih = by (slice_get vars r) refl
    where
      typed : (i : VarInfo) (k : ValueType) → i.value ≡ k → slice_get vars r ≡ Some i → AreSame vs us r
      typed i Int e q = stable _ _ (h.representatives r (is_some (λ i. i.value ≡ Int) (slice_get vars r) i q e) rep ih)
      typed i (Pointer p) e q =
          let a = no_word i.sort p (valuation_of vs r) (subst (λ k. FitsSort i.sort k (valuation_of vs r)) e (h.first_fits.sorts r i q)) in
          let b = no_word i.sort p (valuation_of us r) (subst (λ k. FitsSort i.sort k (valuation_of us r)) e (h.second_fits.sorts r i q)) in
          ap (λ z. z % 2 ^ 32) (a ∙ sym b)

      by : (z : Option VarInfo) → slice_get vars r ≡ z → AreSame vs us r
      by None e = ap (λ z. z % 2 ^ 32) (beyond vars vs r h.first_size e ∙ sym (beyond vars us r h.second_size e))
      by (Some i) e = typed i i.value refl e

  below : (k r : ℕ) → r < k → IsRepresentative cs r → AreSame vs us r
  below zero r l rep = absurd (omega arith)
  below (suc k) r l rep = at_rep r rep (λ s b p. below k s (omega arith) p)

  at_any : (x : ℕ) → AreSame vs us x
  at_any x = stable _ _ (λ deny. some_rep cs x (λ (c, z). deny (z (numbers_of (valuation_of vs)) h.first_keeps ∙ sym (z (numbers_of (valuation_of us)) h.second_keeps))) (λ (r, z).
      deny (by_tie (numbers_of (valuation_of vs) x) (numbers_of (valuation_of us) x) (numbers_of (valuation_of vs) r) (numbers_of (valuation_of us) r) z.above
      (z.tied (numbers_of (valuation_of vs)) h.first_keeps) (z.tied (numbers_of (valuation_of us)) h.second_keeps) (below (suc r) r (omega arith) (rep_itself cs x r z)))))
    where
      by_tie : (a b c d k : ℕ) → a % 2 ^ 32 ≡ (c + k) % 2 ^ 32 → b % 2 ^ 32 ≡ (d + k) % 2 ^ 32 → c % 2 ^ 32 ≡ d % 2 ^ 32 → a % 2 ^ 32 ≡ b % 2 ^ 32
      by_tie a b c d k p q e = omega arith

  unwritten_one : (a : Value) → IsUnwritten a → a ≡ value.Unwritten
  unwritten_one (value.Word z) z' = absurd z'
  unwritten_one value.Null z' = absurd z'
  unwritten_one (value.Block b) z' = absurd z'
  unwritten_one value.Unwritten z' = refl

  value_once : (x : ℕ) (i : VarInfo) → slice_get vars x ≡ Some i → x < length vars → valuation_of vs x ≡ valuation_of us x
  value_once x i e l = by (said_or_not cs x)
    where
      written : (k : ValueType) → i.value ≡ k → ¬ IsSaidUnwritten cs x → valuation_of vs x ≡ valuation_of us x
      written Int q not =
          let int = is_some (λ i. i.value ≡ Int) (slice_get vars x) i e q in
          same_word i.sort i.sort _ _ (subst (λ k. FitsSort i.sort k (valuation_of vs x)) q (h.first_fits.sorts x i e)) (subst (λ k. FitsSort i.sort k (valuation_of us x)) q (h.second_fits.sorts x i e))
          (h.first_words x int not) (h.second_words x int not) (at_any x)
      written (Pointer p) q not = h.places x l (is_some (λ i. (t : TypeId) × (i.value ≡ Pointer t)) (slice_get vars x) i e (p, q)) not

      by : IsSaidUnwritten cs x ⊎ (¬ IsSaidUnwritten cs x) → valuation_of vs x ≡ valuation_of us x
      by (inl s) = unwritten_one _ (h.first_unwritten x l s) ∙ sym (unwritten_one _ (h.second_unwritten x l s))
      by (inr not) = written i.value refl not

  pub alike_once : vs ≡ us
  alike_once = lists_once vs us (h.first_size ∙ sym h.second_size)
      (λ x l. let k : x < length vars = subst (λ z. x < z) h.first_size l in let i = got vars x k in value_once x i.0 i.1 k)

pub least_once : (cs : List Conj) (x y z : ℕ) → IsLeastSame cs x y → IsLeastSame cs x z → y ≡ z
least_once cs x y z a b = by (compared y z)
  where
    by : Compared y z → y ≡ z
    by (less l) = absurd (b.least y l a.same)
    by (same e) = e
    by (more l) = absurd (a.least z l b.same)

-- ---- two models

module _ (vars : List VarInfo) (cs : List Conj) (vs us : List Value) (m : IsModel vars cs vs) (n : IsModel vars cs us)
    (f : Fits vars (valuation_of vs)) (g : Fits vars (valuation_of us)) (t : All (IsTrueUnder (valuation_of vs)) cs) (o : All (IsTrueUnder (valuation_of us)) cs) where
  abbrev w : ℕ → ℕ
  w = numbers_of (valuation_of vs)

  abbrev u : ℕ → ℕ
  u = numbers_of (valuation_of us)

  w_true : All (IsTrueOf w) cs
  w_true k d l = true_of (valuation_of vs) (get_or cs k d) (t k d l)

  u_true : All (IsTrueOf u) cs
  u_true k d l = true_of (valuation_of us) (get_or cs k d) (o k d l)

  -- with a hard component both have its first assignment
  hard_same : (r : ℕ) → IsRepresentative cs r → IsHard cs r → ¬ ¬ AreSame vs us r
  hard_same r rep h deny = some_least (λ s. IsRepresentative cs s × ShareComponent cs r s) r (rep, share_itself cs r) (λ l.
      let s = l.number in
      let share = l.holds.1 in
      let turned : ShareComponent cs s r = λ set closed. sym (share set closed) in
      let component : IsHardComponent cs s = record {
        represents = l.holds.0;
        least = λ k b p q. l.lower k b (p, λ set closed. share set closed ∙ q set closed);
        hard = (h.0, h.1, h.2, h.3, (h.4.0, (h.4.1.0, h.4.1.1, λ set closed. sym (share set closed) ∙ h.4.1.2 set closed)));
      } in
      deny (solved_once cs w u s (m.searched s component) (n.searched s component) r rep turned))

  -- without one, both have the least word that is left
  easy_same : (r : ℕ) → IsIntVariable vars r → IsRepresentative cs r → ¬ IsHard cs r → ((s : ℕ) → s < r → IsRepresentative cs s → AreSame vs us s) → AreSame vs us r
  easy_same r int rep easy ih =
      let a = (m.least r int rep easy).least u n.keep (λ s l p b. sym (ih s l p)) (λ k d l p q. u_true k d l) in
      let b = (n.least r int rep easy).least w m.keep (λ s l p b. ih s l p) (λ k d l p q. w_true k d l) in
      omega arith

  place_once : (x : ℕ) (a b : Value) → HasPlace vars cs x a → HasPlace vars cs x b → a ≡ b
  place_once x a b (inl h) (inl k) = h.1 ∙ sym k.1
  place_once x a b (inl h) (inr k) = absurd (k.block h.0)
  place_once x a b (inr h) (inl k) = absurd (h.block k.0)
  place_once x a b (inr h) (inr k) =
      let e = least_once cs x k.first h.first k.is_first h.is_first in
      let c = count_once (IsNumbered vars cs) h.first h.earlier k.earlier h.are_earlier (subst (λ z. Counts (IsNumbered vars cs) z k.earlier) e k.are_earlier) in
      h.value ∙ ap (λ z. value.Block (z + 1)) c ∙ sym k.value

  pub model_once : vs ≡ us
  model_once = alike_once vars cs vs us (record {
    first_size = m.size;
    second_size = n.size;
    first_fits = f;
    second_fits = g;
    first_keeps = m.keep;
    second_keeps = n.keep;
    representatives = λ r int rep ih deny. deny (easy_same r int rep (λ h. hard_same r rep h deny) ih);
    first_unwritten = m.unwritten;
    second_unwritten = n.unwritten;
    first_words = m.words;
    second_words = n.words;
    places = λ x l pointer not. place_once x _ _ (m.places x pointer not) (n.places x pointer not);
  })
