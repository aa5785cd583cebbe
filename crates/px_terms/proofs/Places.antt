-- Values that are places, and their types.
use Rattle.std.proofs.Common.{◌≡◌, ℕ, refl}
use Rattle.px_terms.specs.Valuations.{IsBlock}
use Rattle.px_terms.specs.declared.types.TypeId.{TypeId}
use Rattle.px_terms.specs.declared.types.ValueType.TheVariants.{Pointer}
use Rattle.px_terms.specs.declared.types.Value.{Value}
use Rattle.px_terms.specs.declared.types.Value.TheVariants.{Word, Null, Block, Unwritten}

pub block_is : (u : Value) → IsBlock u → (n : ℕ) × (u ≡ Block n)
block_is (Word z) h = absurd h
block_is Null h = absurd h
block_is (Block n) h = (n, refl)
block_is Unwritten h = absurd h

pub pointer_is : {s t : TypeId} → Pointer s ≡ Pointer t → s ≡ t
pointer_is e = cc
