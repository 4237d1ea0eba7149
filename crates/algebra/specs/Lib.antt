-- Definitions, in the order to read them.
pub mod Ring
pub mod Sums
pub mod Matrix
pub mod Generators
pub mod Kinds
-- Rings, sums, modules.
pub mod RingLaws
pub mod RingSolver
pub mod SolverTrials
pub mod Linear
pub mod Totals
pub mod Coord
pub mod SumLaws
pub mod MatrixLaws
-- Sweeps, over maps between modules.
pub mod Run
pub mod Entry
pub mod Chain
pub mod Carry
pub mod Product
pub mod Pivot
pub mod Singular
pub mod Solve
