-- A lent buffer: what it holds (`held`), and that after a change it still has the bytes that were lent to it (`Kept`). Assumes nothing.
use Rattle.std.specs.Prelude.{◌≡◌, length}
use Rattle.blocks.specs.Buffers.{Filled, buffer}
use Rattle.blocks.specs.declared.Buffer.{Buffer}

-- its bytes, up to the end in use
abbrev pub held : Buffer → Filled
held b = buffer b.bytes.now b.len

-- it has the very bytes that were lent to it, as many as before
pub record Kept (b b' : Buffer) : Type 0 where
  pub same : b'.bytes.ghost_name ≡ b.bytes.ghost_name
  pub whole : length b'.bytes.now ≡ length b.bytes.now
