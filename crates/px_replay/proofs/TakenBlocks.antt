-- Which numbers are taken: the same ones as before, or one more.
use Rattle.std.proofs.Common.{◌≡◌, ◌⊎◌, ℕ, Bool, true, false, nat_eq, cond, Some, refl, sym, ap, subst, inl, inr, arith}
use Rattle.px_meaning.specs.Heaps.{HeapMap, HeapBlock, with_block}
use Rattle.px_replay.specs.Following.{IsLeast, IsTaken}

-- the same numbers are taken
abbrev pub SameTaken : (ℕ → Type 0) → (ℕ → Type 0) → Type 0
SameTaken taken taken' = (k : ℕ) → (taken k → taken' k) × (taken' k → taken k)

pub least_alike : (taken taken' : ℕ → Type 0) (n : ℕ) → SameTaken taken taken' → IsLeast taken n → IsLeast taken' n
least_alike taken taken' n a l = (λ h. l.0 ((a n).1 h), λ m b. (a m).0 (l.1 m b))

pub also_alike : (taken taken' : ℕ → Type 0) (n : ℕ) → SameTaken taken taken' → SameTaken (λ k. taken k ⊎ (k ≡ n)) (λ k. taken' k ⊎ (k ≡ n))
also_alike taken taken' n a k = (λ h. elim h [ inl t ↦ inl ((a k).0 t) | inr e ↦ inr e ], λ h. elim h [ inl t ↦ inl ((a k).1 t) | inr e ↦ inr e ])

-- the numbers of a heap with one block more
pub block_taken : (heap : HeapMap) (n : ℕ) (b : HeapBlock) → SameTaken (λ k. IsTaken heap k ⊎ (k ≡ n)) (IsTaken (with_block heap n b))
block_taken heap n b k = (λ h. elim h [ inl t ↦ kept (nat_eq k n) t | inr e ↦ made e ], λ h. back (nat_eq k n) (λ e. grind arith) h)
  where
    kept : (c : Bool) → IsTaken heap k → (x : HeapBlock) × (cond c (Some b) (heap k) ≡ Some x)
    kept true t = (b, refl)
    kept false t = t

    made : k ≡ n → IsTaken (with_block heap n b) k
    made e = let c : nat_eq k n ≡ true = grind arith in (b, ap (λ c. cond c (Some b) (heap k)) c)

    back : (c : Bool) → (c ≡ true → k ≡ n) → (x : HeapBlock) × (cond c (Some b) (heap k) ≡ Some x) → IsTaken heap k ⊎ (k ≡ n)
    back true f t = inr (f refl)
    back false f t = inl t

-- those of a heap with another block in the place of one
pub same_taken : (heap : HeapMap) (n : ℕ) (b : HeapBlock) → IsTaken heap n → SameTaken (IsTaken heap) (IsTaken (with_block heap n b))
same_taken heap n b t k = (λ h. (block_taken heap n b k).0 (inl h), λ h. elim ((block_taken heap n b k).1 h) [ inl h ↦ h | inr e ↦ subst (IsTaken heap) (sym e) t ])
