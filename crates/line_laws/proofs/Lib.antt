pub mod Streams
pub mod Records
pub mod Printed
pub mod Gap
pub mod Decimal
