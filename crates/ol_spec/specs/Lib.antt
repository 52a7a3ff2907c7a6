-- the public calls: the lengths, the ordering, the start, the cycle; each answer's number and place; demand 3
pub mod Cycle
pub mod Answers
pub mod Faults
pub mod Demand3
-- arrays, map and fold
pub mod ArrayClaims
-- the 1991 paper's `pre` and `->`
pub mod Lustre
-- the Rust source, as a definition
pub mod RustLeaves
pub mod RustOrder
pub mod RustSim
pub mod RustState
pub mod AsRust
pub mod Instances
pub mod Sequences
pub mod Instants
pub mod RustRuns
pub mod LustreRuns
pub mod Departures
-- admission (6 to 14, 22), the state's bytes and the inputs (15, 16)
pub mod Admission
pub mod State
-- nodes, records and calls; expressions and their shapes; the order of equations
pub mod Step
pub mod Eval
pub mod Shapes
pub mod Order
-- values: operators, what is out of range, types, cells, reals
pub mod Operators
pub mod Causes
pub mod Types
pub mod Cell
pub mod Real
-- the file: reading (1 to 5), the trees that it can hold, writing, places, the tree, the limits
pub mod Read
pub mod Within
pub mod Encode
pub mod Places
pub mod Syntax
pub mod Limits
-- numbers as bytes, lists
pub mod Numbers
pub mod Lists
-- executed: document 01's examples, its bench cases, the readings of docs/DECISIONS.md, arrays
pub mod Build
pub mod Examples
pub mod Bench
pub mod Readings
pub mod Arrays
