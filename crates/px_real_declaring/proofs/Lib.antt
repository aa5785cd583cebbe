pub mod RoleFronts
pub mod DeclaratorEquations
pub mod DepthEquations
pub mod ManyLoops
pub mod SuffixLoops
pub mod SpecifierLoops
pub mod ListLoops
pub mod WholeLemmas
