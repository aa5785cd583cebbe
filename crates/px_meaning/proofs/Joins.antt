-- Heaps put together.
use Rattle.std.proofs.Common.{◌≡◌, ◌≢◌, ◌⊎◌, ◌∙◌, ℕ, ◌+◌, ◌≤◌, Bool, true, false, cond, nat_eq, Option, None, Some, refl, sym, ap, inl, inr, arith}
use Rattle.std.proofs.lemmas.Bool.Decides.{nat_tests}
use mathlib.Core.Path.{fun_ext}
use Rattle.px_meaning.specs.Heaps.{HeapMap, HeapBlock, with_block, IsFinite, no_blocks, only_block, without_block, or_else, join, AreApart}
use Rattle.px_entry.proofs.TestLemmas.{number_itself}

pub same_or_other : (m n : ℕ) → ((m ≡ n) × (nat_eq m n ≡ true)) ⊎ ((m ≢ n) × (nat_eq m n ≡ false))
same_or_other m n = grind (arith, nat_tests)

pub other_number : (m n : ℕ) → m ≢ n → nat_eq m n ≡ false
other_number m n h = grind (arith, nat_tests)

-- ---- one number

pub with_same : (h : HeapMap) (n : ℕ) (b : HeapBlock) → with_block h n b n ≡ Some b
with_same h n b = rw (number_itself n) refl

pub with_other : (h : HeapMap) (n : ℕ) (b : HeapBlock) (m : ℕ) → m ≢ n → with_block h n b m ≡ h m
with_other h n b m d = rw (other_number m n d) refl

pub without_same : (h : HeapMap) (n : ℕ) → without_block h n n ≡ None
without_same h n = rw (number_itself n) refl

pub without_other : (h : HeapMap) (n m : ℕ) → m ≢ n → without_block h n m ≡ h m
without_other h n m d = rw (other_number m n d) refl

pub join_has : (h f : HeapMap) (n : ℕ) (b : HeapBlock) → h n ≡ Some b → join h f n ≡ Some b
join_has h f n b e = rw e refl

pub join_lacks : (h f : HeapMap) (n : ℕ) → h n ≡ None → join h f n ≡ f n
join_lacks h f n e = rw e refl

-- ---- joins

or_else_or_else : (a b c : Option HeapBlock) → or_else (or_else a b) c ≡ or_else a (or_else b c)
or_else_or_else None b c = refl
or_else_or_else (Some x) b c = refl

or_else_none : (a : Option HeapBlock) → or_else a None ≡ a
or_else_none None = refl
or_else_none (Some x) = refl

pub join_join : (h g f : HeapMap) → join (join h g) f ≡ join h (join g f)
join_join h g f = fun_ext (λ n. or_else_or_else (h n) (g n) (f n))

pub join_none : (h : HeapMap) → join h no_blocks ≡ h
join_none h = fun_ext (λ n. or_else_none (h n))

with_if : (q : Bool) (b : HeapBlock) (x y : Option HeapBlock) → cond q (Some b) (or_else x y) ≡ or_else (cond q (Some b) x) y
with_if true b x y = refl
with_if false b x y = refl

-- a write goes to the first part
pub with_join : (h f : HeapMap) (n : ℕ) (b : HeapBlock) → with_block (join h f) n b ≡ join (with_block h n b) f
with_join h f n b = fun_ext (λ m. with_if (nat_eq m n) b (h m) (f m))

only_if : (q : Bool) (b : HeapBlock) (x : Option HeapBlock) → or_else (cond q (Some b) None) x ≡ cond q (Some b) x
only_if true b x = refl
only_if false b x = refl

-- one block before a heap
pub only_join : (n : ℕ) (b : HeapBlock) (h : HeapMap) → join (only_block n b) h ≡ with_block h n b
only_join n b h = fun_ext (λ m. only_if (nat_eq m n) b (h m))

after_if : (q : Bool) (b : HeapBlock) (x : Option HeapBlock) → (q ≡ true → x ≡ None) → or_else x (cond q (Some b) None) ≡ cond q (Some b) x
after_if true b x h = rw (h refl) refl
after_if false b x h = or_else_none x

-- one block after a heap that has none with its number
pub join_only : (h : HeapMap) (n : ℕ) (b : HeapBlock) → h n ≡ None → join h (only_block n b) ≡ with_block h n b
join_only h n b e = fun_ext (λ m. after_if (nat_eq m n) b (h m) (λ t. elim (same_or_other m n) [
  | inl f ↦ ap h f.0 ∙ e
  | inr f ↦ absurd (let x : false ≡ true = sym f.1 ∙ t in cc)
]))

-- a heap is one of its blocks and the others
pub split_off : (h : HeapMap) (n : ℕ) (b : HeapBlock) → h n ≡ Some b → join (only_block n b) (without_block h n) ≡ h
split_off h n b e = fun_ext (λ m. elim (same_or_other m n) [
  | inl f ↦ rw f.1 (sym e ∙ ap h (sym f.0))
  | inr f ↦ rw f.1 refl
])

-- ---- two writes

twice_if : (q : Bool) (b c : HeapBlock) (x : Option HeapBlock) → cond q (Some c) (cond q (Some b) x) ≡ cond q (Some c) x
twice_if true b c x = refl
twice_if false b c x = refl

pub with_twice : (h : HeapMap) (n : ℕ) (b c : HeapBlock) → with_block (with_block h n b) n c ≡ with_block h n c
with_twice h n b c = fun_ext (λ m. twice_if (nat_eq m n) b c (h m))

pub with_swapped : (h : HeapMap) (n m : ℕ) (b c : HeapBlock) → n ≢ m → with_block (with_block h n b) m c ≡ with_block (with_block h m c) n b
with_swapped h n m b c ne = fun_ext (λ x. elim (same_or_other x m) [
  | inl e ↦ (let f : x ≢ n = λ g. ne (sym g ∙ e.0) in rw (e.1, other_number x n f) refl)
  | inr e ↦ rw e.1 (elim (nat_eq x n) as (λ q. cond q (Some b) (h x) ≡ cond q (Some b) (cond false (Some c) (h x))) [ true ↦ refl | false ↦ refl ])
])

-- ---- apart

pub apart_back : (h f : HeapMap) → AreApart h f → AreApart f h
apart_back h f a n = elim (a n) [ inl e ↦ inr e | inr e ↦ inl e ]

swap_if : (x y : Option HeapBlock) → (x ≡ None) ⊎ (y ≡ None) → or_else x y ≡ or_else y x
swap_if None y a = sym (or_else_none y)
swap_if (Some b) None a = refl
swap_if (Some b) (Some c) (inl e) = let d : Some b ≡ None = e in cc
swap_if (Some b) (Some c) (inr e) = let d : Some c ≡ None = e in cc

pub join_swapped : (h f : HeapMap) → AreApart h f → join h f ≡ join f h
join_swapped h f a = fun_ext (λ n. swap_if (h n) (f n) (a n))

pub apart_parts : (h g f : HeapMap) → AreApart (join h g) f → AreApart h f × AreApart g f
apart_parts h g f a = (λ n. first (h n) (g n) (f n) (a n), λ n. second (h n) (g n) (f n) (a n))
  where
    first : (x y z : Option HeapBlock) → (or_else x y ≡ None) ⊎ (z ≡ None) → (x ≡ None) ⊎ (z ≡ None)
    first None y z a = inl refl
    first (Some b) y z (inl e) = let d : Some b ≡ None = e in cc
    first (Some b) y z (inr e) = inr e

    second : (x y z : Option HeapBlock) → (or_else x y ≡ None) ⊎ (z ≡ None) → (y ≡ None) ⊎ (z ≡ None)
    second None y z a = a
    second (Some b) y z (inl e) = let d : Some b ≡ None = e in cc
    second (Some b) y z (inr e) = inr e

pub apart_joined : (h g f : HeapMap) → AreApart h f → AreApart g f → AreApart (join h g) f
apart_joined h g f a b n = at (h n) (g n) (f n) (a n) (b n)
  where
    at : (x y z : Option HeapBlock) → (x ≡ None) ⊎ (z ≡ None) → (y ≡ None) ⊎ (z ≡ None) → (or_else x y ≡ None) ⊎ (z ≡ None)
    at None y z a b = b
    at (Some c) y z (inl e) b = let d : Some c ≡ None = e in cc
    at (Some c) y z (inr e) b = inr e

pub apart_only : (n : ℕ) (b : HeapBlock) (f : HeapMap) → f n ≡ None → AreApart (only_block n b) f
apart_only n b f e m = elim (same_or_other m n) [ inl h ↦ inr (ap f h.0 ∙ e) | inr h ↦ inl (rw h.1 refl) ]

-- one block and the others
pub apart_split : (h : HeapMap) (n : ℕ) (b : HeapBlock) → AreApart (only_block n b) (without_block h n)
apart_split h n b = apart_only n b (without_block h n) (without_same h n)

-- a block that is there may change, and nothing more comes to be together with what is apart
pub apart_with : (h f : HeapMap) (n : ℕ) (b : HeapBlock) → f n ≡ None → AreApart h f → AreApart (with_block h n b) f
apart_with h f n b e a m = elim (same_or_other m n) [ inl g ↦ inr (ap f g.0 ∙ e) | inr g ↦ elim (a m) [ inl x ↦ inl (rw g.1 x) | inr x ↦ inr x ] ]

pub apart_there : (h f : HeapMap) (n : ℕ) (b : HeapBlock) → h n ≡ Some b → AreApart h f → f n ≡ None
apart_there h f n b e a = elim (a n) [ inl x ↦ absurd (let d : Some b ≡ None = sym e ∙ x in cc) | inr x ↦ x ]

pub join_finite : (h f : HeapMap) → IsFinite h → IsFinite f → IsFinite (join h f)
join_finite h f (m, p) (n, q) = (m + n, λ i l. join_lacks h f i (p i (let a : m ≤ i = omega arith in a)) ∙ q i (let a : n ≤ i = omega arith in a))
