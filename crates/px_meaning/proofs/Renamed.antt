-- States that are the same but for the numbers of blocks.
use Rattle.std.proofs.Common.{◌≡◌, ◌⊎◌, ℕ, zero, suc, Bool, true, false, cond, nat_eq, Option, Some, None, List, [], ◌∷◌, map, slice_set, refl, sym, ap, ap₂, ◌∙◌, subst, inl, inr, ℤ, pos, IsSomeAnd}
use Rattle.std.specs.Prelude.{⊤}
use Rattle.std.proofs.lemmas.Bool.{eqb-true, eq-eqb}
use Rattle.std.proofs.lemmas.Option.{same_Some}
use Rattle.px_core.specs.declared.command.Operand.{Operand}
use Rattle.px_core.specs.declared.command.Operand.TheVariants as operand
use Rattle.px_core.specs.declared.command.Operator.{Operator}
use Rattle.px_core.specs.declared.command.Operator.TheVariants.{Copy, Neg, Add, Sub, Mul}
use Rattle.px_meaning.specs.Values.{ValueType, Value, Word, Null, Block, Unwritten}
use Rattle.px_meaning.specs.Heaps.{HeapMap, HeapBlock, HeapBlockState, Live, Freed, with_block}
use Rattle.px_meaning.specs.Operations.{value_at, operand_value, result_of, of_word, of_words, wrapped, on_words}
use Rattle.px_meaning.specs.Steps.{keep_result, returned_value}
use Rattle.px_meaning.specs.CoreCalls.{first_slots}

-- which number stands for which
abbrev pub Renaming : Type 1
Renaming = ℕ → ℕ → Type 0

abbrev pub SameValue : Renaming → Value → Value → Type 0
SameValue R (Word y) (Word z) = y ≡ z
SameValue R Null Null = ⊤
SameValue R (Block m) (Block n) = R m n
SameValue R Unwritten Unwritten = ⊤
SameValue R _ _ = ⊥

abbrev pub SameValues : Renaming → List Value → List Value → Type 0
SameValues R [] [] = ⊤
SameValues R (v ∷ vs) (w ∷ ws) = SameValue R v w × SameValues R vs ws
SameValues R _ _ = ⊥

abbrev pub SameState : Renaming → HeapBlockState → HeapBlockState → Type 0
SameState R (Live vs) (Live ws) = SameValues R vs ws
SameState R Freed Freed = ⊤
SameState R _ _ = ⊥

abbrev pub SameBlock : Renaming → HeapBlock → HeapBlock → Type 0
SameBlock R b c = (b.block_type ≡ c.block_type) × SameState R b.state c.state

abbrev pub SamePlaces : Renaming → Option HeapBlock → Option HeapBlock → Type 0
SamePlaces R (Some b) (Some c) = SameBlock R b c
SamePlaces R _ _ = ⊥

-- a renaming of the blocks of one heap to those of another
pub record Tied (R : Renaming) (h i : HeapMap) : Type 0 where
  pub left : (m n n' : ℕ) → R m n → R m n' → n ≡ n'
  pub right : (m m' n : ℕ) → R m n → R m' n → m ≡ m'
  pub blocks : (m n : ℕ) → R m n → SamePlaces R (h m) (i n)

abbrev pub Within : Renaming → Renaming → Type 0
Within R S = (m n : ℕ) → R m n → S m n

pub value_wider : (R S : Renaming) → Within R S → (v w : Value) → SameValue R v w → SameValue S v w
value_wider R S f (Word y) (Word z) p = p
value_wider R S f Null Null p = p
value_wider R S f (Block m) (Block n) p = f m n p
value_wider R S f Unwritten Unwritten p = p
value_wider R S f Null (Word z) p = absurd p
value_wider R S f (Block m) Null p = absurd p
value_wider R S f Unwritten Null p = absurd p
value_wider R S f _ _ p = absurd p

pub values_wider : (R S : Renaming) → Within R S → (vs ws : List Value) → SameValues R vs ws → SameValues S vs ws
values_wider R S f [] [] p = p
values_wider R S f (v ∷ vs) (w ∷ ws) p = (value_wider R S f v w p.0, values_wider R S f vs ws p.1)
values_wider R S f [] (w ∷ ws) p = absurd p
values_wider R S f (v ∷ vs) [] p = absurd p

state_wider : (R S : Renaming) → Within R S → (s t : HeapBlockState) → SameState R s t → SameState S s t
state_wider R S f (Live vs) (Live ws) p = values_wider R S f vs ws p
state_wider R S f Freed Freed p = p
state_wider R S f (Live vs) Freed p = absurd p
state_wider R S f Freed (Live ws) p = absurd p

places_wider : (R S : Renaming) → Within R S → (o q : Option HeapBlock) → SamePlaces R o q → SamePlaces S o q
places_wider R S f (Some b) (Some c) p = (p.0, state_wider R S f b.state c.state p.1)
places_wider R S f None None p = absurd p
places_wider R S f None (Some c) p = absurd p
places_wider R S f (Some b) None p = absurd p

-- ---- lists of values

pub same_at : (R : Renaming) (vs ws : List Value) (i : ℕ) → SameValues R vs ws → SameValue R (value_at vs i) (value_at ws i)
same_at R [] [] i p = tt
same_at R (v ∷ vs) (w ∷ ws) zero p = p.0
same_at R (v ∷ vs) (w ∷ ws) (suc i) p = same_at R vs ws i p.1
same_at R [] (w ∷ ws) i p = absurd p
same_at R (v ∷ vs) [] i p = absurd p

pub same_put : (R : Renaming) (vs ws : List Value) (i : ℕ) (a b : Value) → SameValues R vs ws → SameValue R a b → SameValues R (slice_set vs i a) (slice_set ws i b)
same_put R [] [] i a b p q = p
same_put R (v ∷ vs) (w ∷ ws) zero a b p q = (q, p.1)
same_put R (v ∷ vs) (w ∷ ws) (suc i) a b p q = (p.0, same_put R vs ws i a b p.1 q)
same_put R [] (w ∷ ws) i a b p q = absurd p
same_put R (v ∷ vs) [] i a b p q = absurd p

pub same_first : (R : Renaming) (n : ℕ) (vs ws : List Value) → SameValues R vs ws → SameValues R (first_slots n vs) (first_slots n ws)
same_first R zero vs ws p = tt
same_first R (suc n) [] [] p = (tt, same_first R n [] [] tt)
same_first R (suc n) (v ∷ vs) (w ∷ ws) p = (p.0, same_first R n vs ws p.1)
same_first R (suc n) [] (w ∷ ws) p = absurd p
same_first R (suc n) (v ∷ vs) [] p = absurd p

pub same_operand : (R : Renaming) (vs ws : List Value) (a : Operand) → SameValues R vs ws → SameValue R (operand_value vs a) (operand_value ws a)
same_operand R vs ws (operand.Slot n) p = same_at R vs ws n p
same_operand R vs ws (operand.Word z) p = refl
same_operand R vs ws operand.Null p = tt

pub same_operands : (R : Renaming) (vs ws : List Value) (as' : List Operand) → SameValues R vs ws → SameValues R (map (operand_value vs) as') (map (operand_value ws) as')
same_operands R vs ws [] p = tt
same_operands R vs ws (a ∷ rest) p = (same_operand R vs ws a p, same_operands R vs ws rest p)

pub same_unwritten : (R : Renaming) (ts : List ValueType) → SameValues R (map (λ _. Unwritten) ts) (map (λ _. Unwritten) ts)
same_unwritten R [] = tt
same_unwritten R (t ∷ ts) = (tt, same_unwritten R ts)

pub same_kept : (R : Renaming) (to : Option ℕ) (vs ws : List Value) (a b : Value) → SameValues R vs ws → SameValue R a b → SameValues R (keep_result to vs a) (keep_result to ws b)
same_kept R None vs ws a b p q = p
same_kept R (Some i) vs ws a b p q = same_put R vs ws i a b p q

pub same_returned : (R : Renaming) (vs ws : List Value) (from : Option Operand) → SameValues R vs ws → SameValue R (returned_value vs from) (returned_value ws from)
same_returned R vs ws None p = tt
same_returned R vs ws (Some a) p = same_operand R vs ws a p

-- ---- heaps

abbrev put_places : (R : Renaming) (b c : HeapBlock) (o q : Option HeapBlock) (x y : Bool) → Type 0
put_places R b c o q x y = SamePlaces R (cond x (Some b) o) (cond y (Some c) q)

-- a block written in both
pub tied_put : (R : Renaming) (h i : HeapMap) (m n : ℕ) (b c : HeapBlock) → Tied R h i → R m n → SameBlock R b c → Tied R (with_block h m b) (with_block i n c)
tied_put R h i m n b c t r s = record { left = t.left; right = t.right; blocks = λ k l q. at k l q (nat_eq k m) (nat_eq l n) refl refl }
  where
    at : (k l : ℕ) → R k l → (x y : Bool) → nat_eq k m ≡ x → nat_eq l n ≡ y → SamePlaces R (cond x (Some b) (h k)) (cond y (Some c) (i l))
    at k l q true true e f = s
    at k l q false false e f = t.blocks k l q
    at k l q true false e f =
        let same : l ≡ n = t.left m l n (subst (λ u. R u l) (eqb-true k m e) q) r in
        let d : false ≡ true = sym f ∙ eq-eqb l n same in cc
    at k l q false true e f =
        let same : k ≡ m = t.right k m n (subst (λ u. R k u) (eqb-true l n f) q) r in
        let d : false ≡ true = sym e ∙ eq-eqb k m same in cc

-- a new number in each stands for the other
abbrev pub with_new : Renaming → ℕ → ℕ → Renaming
with_new R m n k l = R k l ⊎ ((k ≡ m) × (l ≡ n))

pub tied_new : (R : Renaming) (h i : HeapMap) (m n : ℕ) (b c : HeapBlock) → Tied R h i → h m ≡ None → i n ≡ None → SameBlock (with_new R m n) b c →
    Tied (with_new R m n) (with_block h m b) (with_block i n c)
tied_new R h i m n b c t out out' s = record { left = left; right = right; blocks = λ k l q. at k l q (nat_eq k m) (nat_eq l n) refl refl }
  where
    not_left : (l : ℕ) → R m l → ⊥
    not_left l q = none (i l) (subst (λ o. SamePlaces R o (i l)) out (t.blocks m l q))
      where
        none : (o : Option HeapBlock) → SamePlaces R None o → ⊥
        none None p = p
        none (Some b) p = p

    not_right : (k : ℕ) → R k n → ⊥
    not_right k q = none (h k) (subst (λ o. SamePlaces R (h k) o) out' (t.blocks k n q))
      where
        none : (o : Option HeapBlock) → SamePlaces R o None → ⊥
        none None p = p
        none (Some b) p = p

    left : (k l l' : ℕ) → with_new R m n k l → with_new R m n k l' → l ≡ l'
    left k l l' (inl p) (inl q) = t.left k l l' p q
    left k l l' (inr p) (inr q) = p.1 ∙ sym q.1
    left k l l' (inl p) (inr q) = absurd (not_left l (subst (λ u. R u l) q.0 p))
    left k l l' (inr p) (inl q) = absurd (not_left l' (subst (λ u. R u l') p.0 q))

    right : (k k' l : ℕ) → with_new R m n k l → with_new R m n k' l → k ≡ k'
    right k k' l (inl p) (inl q) = t.right k k' l p q
    right k k' l (inr p) (inr q) = p.0 ∙ sym q.0
    right k k' l (inl p) (inr q) = absurd (not_right k (subst (λ u. R k u) q.1 p))
    right k k' l (inr p) (inl q) = absurd (not_right k' (subst (λ u. R k' u) p.1 q))

    at : (k l : ℕ) → with_new R m n k l → (x y : Bool) → nat_eq k m ≡ x → nat_eq l n ≡ y → SamePlaces (with_new R m n) (cond x (Some b) (h k)) (cond y (Some c) (i l))
    at k l q true true e f = s
    at k l (inl q) false false e f = places_wider R (with_new R m n) (λ k l p. inl p) (h k) (i l) (t.blocks k l q)
    at k l (inr q) false y e f = let d : false ≡ true = sym e ∙ eq-eqb k m q.0 in cc
    at k l (inr q) true false e f = let d : false ≡ true = sym f ∙ eq-eqb l n q.1 in cc
    at k l (inl q) true false e f = absurd (not_left l (subst (λ u. R u l) (eqb-true k m e) q))
    at k l (inl q) false true e f = absurd (not_right k (subst (λ u. R k u) (eqb-true l n f) q))

-- ---- operators

of_word_same : (R : Renaming) (f : ℤ → ℤ) (v w a b : Value) → SameValue R v w → of_word f v ≡ Some a → of_word f w ≡ Some b → SameValue R a b
of_word_same R f (Word y) (Word z) a b p e g =
    subst (λ o. IsSomeAnd o (λ u. SameValue R u b)) e (subst (λ o. IsSomeAnd o (λ u. SameValue R (wrapped (f y)) u)) g (ap (λ x. word_in (wrapped (f x))) p))
  where
    word_in : Value → ℤ
    word_in (Word z) = z
    word_in _ = pos 0
of_word_same R f Null w a b p e g = let d : None ≡ Some a = e in cc
of_word_same R f (Block n) w a b p e g = let d : None ≡ Some a = e in cc
of_word_same R f Unwritten w a b p e g = let d : None ≡ Some a = e in cc
of_word_same R f (Word y) Null a b p e g = absurd p
of_word_same R f (Word y) (Block n) a b p e g = absurd p
of_word_same R f (Word y) Unwritten a b p e g = absurd p

same_word : (R : Renaming) (y : ℤ) (w : Value) → SameValue R (Word y) w → w ≡ Word y
same_word R y (Word z) p = ap (λ x. Word x) (sym p)
same_word R y Null p = absurd p
same_word R y (Block n) p = absurd p
same_word R y Unwritten p = absurd p

of_words_same : (R : Renaming) (f : ℤ → ℤ → ℤ) (u v u' v' a b : Value) → SameValue R u u' → SameValue R v v' → of_words f u v ≡ Some a → of_words f u' v' ≡ Some b → SameValue R a b
of_words_same R f (Word x) (Word y) u' v' a b p q e g =
    let g' : Some (wrapped (f x y)) ≡ Some b = ap₂ (λ s t. of_words f s t) (sym (same_word R x u' p)) (sym (same_word R y v' q)) ∙ g in
    subst (λ o. IsSomeAnd o (λ u. SameValue R u b)) e (subst (λ o. IsSomeAnd o (λ u. SameValue R (wrapped (f x y)) u)) g' refl)
of_words_same R f (Word x) Null u' v' a b p q e g = let d : None ≡ Some a = e in cc
of_words_same R f (Word x) (Block n) u' v' a b p q e g = let d : None ≡ Some a = e in cc
of_words_same R f (Word x) Unwritten u' v' a b p q e g = let d : None ≡ Some a = e in cc
of_words_same R f Null v u' v' a b p q e g = let d : None ≡ Some a = e in cc
of_words_same R f (Block n) v u' v' a b p q e g = let d : None ≡ Some a = e in cc
of_words_same R f Unwritten v u' v' a b p q e g = let d : None ≡ Some a = e in cc

-- two words are the same words
pub words_alike : {A : Type 0} (R : Renaming) (f : ℤ → ℤ → A) (u v u' v' : Value) (a b : A) → SameValue R u u' → SameValue R v v' → on_words f u v ≡ Some a → on_words f u' v' ≡ Some b → (x : ℤ) × (y : ℤ) × (a ≡ f x y) × (b ≡ f x y)
words_alike R f (Word x) (Word y) u' v' a b p q e g =
    let g' : Some (f x y) ≡ Some b = ap₂ (λ s t. on_words f s t) (sym (same_word R x u' p)) (sym (same_word R y v' q)) ∙ g in
    (x, y, sym (same_Some (f x y) a e), sym (same_Some (f x y) b g'))
words_alike R f (Word x) Null u' v' a b p q e g = let d : None ≡ Some a = e in cc
words_alike R f (Word x) (Block n) u' v' a b p q e g = let d : None ≡ Some a = e in cc
words_alike R f (Word x) Unwritten u' v' a b p q e g = let d : None ≡ Some a = e in cc
words_alike R f Null v u' v' a b p q e g = let d : None ≡ Some a = e in cc
words_alike R f (Block n) v u' v' a b p q e g = let d : None ≡ Some a = e in cc
words_alike R f Unwritten v u' v' a b p q e g = let d : None ≡ Some a = e in cc

pub result_same : (R : Renaming) (op : Operator) (u v u' v' a b : Value) → SameValue R u u' → SameValue R v v' → result_of op u v ≡ Some a → result_of op u' v' ≡ Some b → SameValue R a b
result_same R Copy u v u' v' a b p q e g = subst (λ o. IsSomeAnd o (λ x. SameValue R x b)) e (subst (λ o. IsSomeAnd o (λ x. SameValue R u x)) g p)
result_same R Neg u v u' v' a b p q e g = of_word_same R _ u u' a b p e g
result_same R Add u v u' v' a b p q e g = of_words_same R _ u v u' v' a b p q e g
result_same R Sub u v u' v' a b p q e g = of_words_same R _ u v u' v' a b p q e g
result_same R Mul u v u' v' a b p q e g = of_words_same R _ u v u' v' a b p q e g
