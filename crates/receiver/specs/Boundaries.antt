-- docs/SCOPE.md, "Boundaries": the lines of its first table, under one statement.
use Rattle.std.specs.Prelude.{◌-◌, ◌^◌, ◌≡◌, [], ◌∷◌}
use Rattle.octets.specs.Outcome.{refused, given}
use Rattle.octets.specs.Octets.{bytes}
use Rattle.octets.specs.Text.{ascii}
use Rattle.hkdf.specs.Hkdf.{info}
use Rattle.integers.specs.Integer.{integer}
use Rattle.numbers_shortening.specs.Shortening.{up_to, smallest_length, shortened}
use Rattle.numbers_recovery.specs.Recovery.{recovered}
use Rattle.receivers.specs.Spaces as Spaces
use Rattle.versions.specs.Levels.{initial, zero_rtt, handshake}
use Rattle.header_forms.specs.Forms.{long_form}
use Rattle.protection.specs.Protection.{masked}
use Rattle.receiver.specs.Levels.{space_of}

pub record Table : Type 0 where
  -- 7bbd reads 15,293; 4025 reads 37, in two bytes
  pub two_bytes : integer (0x7b ∷ 0xbd ∷ []) ≡ given (record { value = 15293; taken = 2 })
  pub two-where-one-would-do : integer (0x40 ∷ 0x25 ∷ []) ≡ given (record { value = 37; taken = 2 })
  -- the info for "client in" and for "quicv2 key"
  pub info-client-in : info (ascii "client in") 32 ≡ bytes 19 0x00200f746c73313320636c69656e7420696e00
  pub info-quicv2-key : info (ascii "quicv2 key") 16 ≡ bytes 20 0x001010746c73313320717569637632206b657900
  -- gap 127 takes one byte, 128 two; 2^31 − 1 takes four, 2^31 is 14
  pub gap-127 : smallest_length 127 (up_to 0) ≡ given 1
  pub gap-128 : smallest_length 128 (up_to 0) ≡ given 2
  pub gap-largest : smallest_length (2 ^ 31 - 1) (up_to 0) ≡ given 4
  pub gap-uncovered : smallest_length (2 ^ 31) (up_to 0) ≡ refused 14
  pub gap-127-in-one : shortened 127 (up_to 0) 1 ≡ given 127
  pub gap-128-not-in-one : shortened 128 (up_to 0) 1 ≡ refused 12
  -- expected 0xa82f30eb, two bytes 9b32
  pub appendix-a3 : recovered 0xa82f30eb 0x9b32 2 ≡ given 0xa82f9b32
  -- expected 1,000, bytes 104 and 105: upwards, and downwards
  pub upwards : recovered 1000 104 1 ≡ given 1128
  pub downwards : recovered 1000 105 1 ≡ given 873
  -- the guards at 0 and at 2^62; the third line is ours, since no other pins the guard above
  pub at-0 : recovered 0 255 1 ≡ given 255
  pub at-2^62 : recovered (2 ^ 62) 0 1 ≡ refused 10
  pub below-2^62 : recovered (2 ^ 62 - 1) 0 1 ≡ given (2 ^ 62 - 256)
  -- document 003's server header, whose number stands in two bytes at 18, under its mask
  pub server-header : masked long_form (bytes 5 0x41103f438e) 18 2 (bytes 20 0xd1709a50c40008f067a5502a4262b50040750001)
      ≡ bytes 20 0xd0709a50c40008f067a5502a4262b5004075103e
  -- three levels, three number spaces
  pub initial-space : space_of initial ≡ Spaces.initial
  pub zero-rtt-space : space_of zero_rtt ≡ Spaces.application
  pub handshake-space : space_of handshake ≡ Spaces.handshake
