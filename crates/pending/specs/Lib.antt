pub mod OnBytes
