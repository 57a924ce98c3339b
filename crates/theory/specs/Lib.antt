-- Theorems over the rules; docs/PROOF-MAP.md says how to read them.
pub mod Logic
pub mod Memory
-- the rules as relations: determinism
pub mod Relation
pub mod Steps
pub mod RunKeeps
-- what a tree can still cost
pub mod Program
pub mod Measure
pub mod StepLowers
pub mod EventAdds
pub mod ProgramCost
pub mod Budget
-- what is left of a program while it runs, and where a run stops
pub mod Blocked
pub mod Progress
pub mod Residue
pub mod Invariant
-- marks and trees at rest
pub mod Again
pub mod Marks
pub mod WrittenMarks
pub mod Ready
-- demand 3, as statements; on tables of bytes
pub mod Stages
pub mod Decode
pub mod Ranges
pub mod Walk
pub mod Demand
-- whole runs, on trees
pub mod Big
-- the engine's state, one number for each record: what the walks over it do, whatever the memory
pub mod State
pub mod Round
pub mod AnyMemory
-- the walks on states are the whole runs on trees, and the round is the reaction
pub mod Sound
pub mod Frame
pub mod Shows
pub mod Sweep
pub mod View
pub mod Exec
pub mod Resume
pub mod Kept
pub mod Still
pub mod Part
pub mod Wake
pub mod Rests
