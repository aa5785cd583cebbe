-- How a load, a store or a free goes through a pointer: to null, to a freed block, or to a live one.
use Rattle.std.proofs.Common.{◌≡◌, ◌⊎◌, ◌∙◌, ℕ, List, IsSomeAnd, Some, refl, sym, ap₂, subst, inl, inr}
use Rattle.px_meaning.specs.Values.{Value, Word, Null, Block, Unwritten}
use Rattle.px_meaning.specs.Heaps.{HeapMap, HeapBlockState, Live, Freed}
use Rattle.px_meaning.specs.Steps.{by_state, by_pointer, live_block, freed_block}
use Rattle.px_meaning.proofs.Taken.{some_to}

module _ (heap : HeapMap) (t : ℕ) (v : Value) (N F : Type 0) (G : ℕ → List Value → Type 0) where
  -- ---- it goes on there

  pub through_null : v ≡ Null → N → by_pointer heap t v N F G
  through_null is h = subst (λ v. by_pointer heap t v N F G) (sym is) h

  pub through_freed : (n : ℕ) → v ≡ Block n → heap n ≡ Some (freed_block t) → F → by_pointer heap t v N F G
  through_freed n is e h = subst (λ v. by_pointer heap t v N F G) (sym is) (subst (λ o. IsSomeAnd o (λ b. (b.block_type ≡ t) × by_state b.state F (G n))) (sym e) (refl, h))

  pub through_live : (n : ℕ) (cells : List Value) → v ≡ Block n → heap n ≡ Some (live_block t cells) → G n cells → by_pointer heap t v N F G
  through_live n cells is e h = subst (λ v. by_pointer heap t v N F G) (sym is) (subst (λ o. IsSomeAnd o (λ b. (b.block_type ≡ t) × by_state b.state F (G n))) (sym e) (refl, h))

  -- ---- and nowhere else

  abbrev pub ToFreed : Type 0
  ToFreed = (n : ℕ) × (v ≡ Block n) × (heap n ≡ Some (freed_block t)) × F

  abbrev pub ToLive : Type 0
  ToLive = (n : ℕ) × (cells : List Value) × (v ≡ Block n) × (heap n ≡ Some (live_block t cells)) × G n cells

pub pointer_cases : (heap : HeapMap) (t : ℕ) (v : Value) (N F : Type 0) (G : ℕ → List Value → Type 0) → by_pointer heap t v N F G →
    ((v ≡ Null) × N) ⊎ (ToFreed heap t v N F G ⊎ ToLive heap t v N F G)
pointer_cases heap t (Word z) N F G h = absurd h
pointer_cases heap t Null N F G h = inl (refl, h)
pointer_cases heap t (Block n) N F G h =
    some_to (heap n) (λ b. (b.block_type ≡ t) × by_state b.state F (G n)) _ (λ b e p. at b.block_type b.state e p.0 p.1) h
  where
    at : (u : ℕ) (s : HeapBlockState) → heap n ≡ Some (record { block_type = u; state = s }) → u ≡ t → by_state s F (G n) →
        ((Block n ≡ Null) × N) ⊎ (ToFreed heap t (Block n) N F G ⊎ ToLive heap t (Block n) N F G)
    at u (Live cells) e is h = inr (inr (n, cells, refl, e ∙ ap₂ (λ u s. Some (record { block_type = u; state = s })) is refl, h))
    at u Freed e is h = inr (inl (n, refl, e ∙ ap₂ (λ u s. Some (record { block_type = u; state = s })) is refl, h))
pointer_cases heap t Unwritten N F G h = absurd h
