pub mod Potential
pub mod Rounding
pub mod Layouts
