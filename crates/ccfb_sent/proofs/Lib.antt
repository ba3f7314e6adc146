pub mod KindNumber
