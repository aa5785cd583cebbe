-- Values and their types (C17 6.2.5), as the terms of symbolic execution have them: a word of 32 bits
-- as a signed number, null, the base of the block with a number, or what stands in a cell or a local
-- before it is written. Block numbers have no bound.
pub use Rattle.px_terms.specs.declared.types.TypeId.{TypeId}
pub use Rattle.px_terms.specs.declared.types.ValueType.{ValueType}
pub use Rattle.px_terms.specs.declared.types.ValueType.TheVariants.{Int, Pointer}
pub use Rattle.px_terms.specs.declared.types.BlockType.{BlockType}
pub use Rattle.px_terms.specs.declared.types.BlockType.TheVariants.{One, Fields, Opaque}
pub use Rattle.px_terms.specs.declared.types.Value.{Value}
pub use Rattle.px_terms.specs.declared.types.Value.TheVariants.{Word, Null, Block, Unwritten}
