pub mod Decimal
pub mod Numeral
