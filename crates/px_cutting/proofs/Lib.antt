pub mod CuttingExact
pub mod ShapeLemmas
pub mod StandAlone
