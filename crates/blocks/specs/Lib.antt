-- A buffer after a change, and what that says of the blocks of bytes in it.
pub mod Buffers
pub mod Blocks
pub mod Lent
