pub mod OneBit
