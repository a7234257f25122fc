-- The tasks of the program, and its answers.
pub mod Task
pub mod Program
-- The answers to the lines of a played script, and how they are shown.
pub mod Questions
pub mod Display
pub mod Played
pub mod Cut
pub mod Progress
-- A race, its workload, and its faults.
pub mod Race
