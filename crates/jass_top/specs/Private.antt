-- Words that no clause of a public call cites: those of this crate's own functions.
pub mod OnceTexts
pub mod RunFiles
pub mod Serving
pub mod Sides
pub mod Audits
pub mod Causes
pub mod Engines
pub mod ServeRuns
pub mod HeldIndexes
pub mod Inputs
pub mod SearchRuns
pub mod Stops
pub mod SmallSums
pub mod Worlds
