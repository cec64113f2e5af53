pub mod Decided
pub mod LawsBelow
pub mod Firsts
pub mod Ranges
pub mod Exists
pub mod Drawn
