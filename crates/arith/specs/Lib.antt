pub mod Arith
