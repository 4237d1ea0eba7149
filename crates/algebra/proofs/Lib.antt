-- Sweeps, over generators.
pub mod Rows
pub mod Join
pub mod Agree
pub mod ApplyTable
pub mod ProductTable
pub mod SumTable
pub mod TransposeTable
pub mod InverseTable
pub mod SolveTable
pub mod KernelTable
pub mod SingularCorner
-- The theory in statements.
pub mod SweepTheory
