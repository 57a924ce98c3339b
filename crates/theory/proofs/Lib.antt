-- Theorems that rest on the statements of specs/Demand.antt and specs/ProgramCost.antt, which wrong versions must make false.
-- demand 3: on trees, on tables of bytes
pub mod DemandOnTrees
pub mod Accepted
pub mod DemandProof
pub mod Back
-- calls and lists
pub mod Calls
pub mod Lists
-- whole runs, on trees and on states
pub mod Follow
pub mod Turns
pub mod OnStates
