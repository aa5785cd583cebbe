-- The further heap of a call: all blocks of the caller's whole heap but those that the callee's entry requires.
use Rattle.std.proofs.Common.{◌≡◌, ◌⊎◌, ℕ, Option, Some, None, inl, inr, refl, sym, ap, ◌∙◌}
use mathlib.Core.Path.{fun_ext}
use Rattle.px_meaning.specs.Heaps.{HeapMap, HeapBlock, or_else, join, AreApart}
use Rattle.px_soundness.proofs.AtomHeaps.{absent}

abbrev unless : Option HeapBlock → Option HeapBlock → Option HeapBlock
unless None o = o
unless (Some b) o = None

-- the blocks of the one where the other has none
abbrev pub minus : HeapMap → HeapMap → HeapMap
minus heap taken n = unless (taken n) (heap n)

-- the same numbers have blocks
abbrev pub AreAlike : HeapMap → HeapMap → Type 0
AreAlike one other = (n : ℕ) → (one n ≡ None → other n ≡ None) × (other n ≡ None → one n ≡ None)

-- what is required stands in the heap
before_at : (p a f : Option HeapBlock) → ((b : HeapBlock) → p ≡ Some b → a ≡ Some b) → or_else p (unless p (or_else a f)) ≡ or_else a f
before_at None a f h = refl
before_at (Some b) a f h = ap (λ o. or_else o f) (sym (h b refl))

pub before_call : (required heap further : HeapMap) → ((n : ℕ) (b : HeapBlock) → required n ≡ Some b → heap n ≡ Some b) →
    join required (minus (join heap further) required) ≡ join heap further
before_call required heap further h = fun_ext (λ n. before_at (required n) (heap n) (further n) (h n))

-- what is left of the required blocks, and what is made
apart_at : (p k m a f : Option HeapBlock) → (p ≡ None → k ≡ None) → (m ≡ None) ⊎ (or_else a f ≡ None) → (or_else k m ≡ None) ⊎ (unless p (or_else a f) ≡ None)
apart_at (Some b) k m a f h g = inr refl
apart_at None k m a f h (inl e) = inl (ap (λ o. or_else o m) (h refl) ∙ e)
apart_at None k m a f h (inr e) = inr e

pub apart_call : (required kept made heap further : HeapMap) → AreAlike required kept → AreApart made (join heap further) → AreApart (join kept made) (minus (join heap further) required)
apart_call required kept made heap further alike apart n = apart_at (required n) (kept n) (made n) (heap n) (further n) (alike n).0 (apart n)

some_none : {b : HeapBlock} {P : Type 0} → Some b ≡ None → P
some_none e = absent (sym e)

after_at : (p k m a f : Option HeapBlock) → (p ≡ None → k ≡ None) → (k ≡ None → p ≡ None) → (m ≡ None) ⊎ (or_else a f ≡ None) →
    or_else (or_else k m) (unless p (or_else a f)) ≡ or_else (or_else (or_else k a) m) f
after_at p (Some b) m a f h g d = refl
after_at (Some b) None m a f h g d = some_none (g refl)
after_at None None None None f h g d = refl
after_at None None None (Some b) f h g d = refl
after_at None None (Some b) None f h g d = refl
after_at None None (Some b) (Some c) f h g (inl e) = some_none e
after_at None None (Some b) (Some c) f h g (inr e) = some_none e

pub after_call : (required kept made heap further : HeapMap) → AreAlike required kept → AreApart made (join heap further) →
    join (join kept made) (minus (join heap further) required) ≡ join (join (join kept heap) made) further
after_call required kept made heap further alike apart =
    fun_ext (λ n. after_at (required n) (kept n) (made n) (heap n) (further n) (alike n).0 (alike n).1 (apart n))
