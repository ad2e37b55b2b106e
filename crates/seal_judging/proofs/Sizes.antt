-- A packet's size, judged: what it comes to by the tests, and that sealing has nothing else to judge at its end.
use Prim.Native.Nat.{ℕ, ◌+◌, ◌≤◌, ◌<◌}
use mathlib.Core.Path.{◌≡◌, refl, sym, ap, ◌∙◌}
use mathlib.Core.List.{List}
use mathlib.Core.Bool.{Bool, true, false}
use native.Mathlib.Omega.{arith}
use lib.Dec.{leb}
use lib.ListN.{length, length-append}
use borrow.Author.Tests.{le-leb, lt-leb, leb-true, leb-false}
use Rattle.std.specs.Prelude.{Option, Some, None}
use Rattle.std.specs.Borrow.{Bor}
use Rattle.octets.specs.Outcome.{refused, given}
use Rattle.octets.specs.Octets.{length_given}
use Rattle.integers_writing.specs.Written.{smallest}
use Rattle.integers_writing.proofs.Forms.{smallest-few}
use Rattle.numbers_shortening.specs.Shortening.{Acknowledged, shortened}
use Rattle.versions.specs.Versions.{known}
use Rattle.header_fields.specs.Fields.{longest_id}
use Rattle.header_forms.specs.Rules.{in_force}
use Rattle.header_writing.specs.Written.{writes, token_bytes, Plain}
use Rattle.protection.specs.Protection.{Keys}
use Rattle.packets.specs.Packet.{packet_of, sealed}
use Rattle.packets.specs.Sealable.{size_of}
use Rattle.protection.specs.AesGcm.{aes_gcm}
use Rattle.protection.proofs.AesGcmLaws.{aes-gcm-laws}
use Rattle.packets.proofs.Sealing.{seal-size, seal-room, seal-given, packet-size}
use Rattle.header_writing.specs.Answers.{token_of}
use Rattle.seal_judging.specs.Judging.{held_of, sized}

module _ (size room : ℕ) where
  pub over-limit : in_force.limit < size → refused 1 ≡ sized size room
  unfolding sized
  over-limit h = rw (lt-leb size in_force.limit h)

  pub over-room : size ≤ in_force.limit → room < size → refused 8 ≡ sized size room
  unfolding sized
  over-room fits h = rw (le-leb size in_force.limit fits, lt-leb size room h)

  pub within : size ≤ in_force.limit → size ≤ room → given size ≡ sized size room
  unfolding sized
  within fits h = rw (le-leb size in_force.limit fits, le-leb size room h)

-- what counts of a token is nearly what it takes
pub held_below : (token : Option (Bor (List ℕ))) → held_of token ≤ length (token_bytes (token_of token))
held_below (Some token) = omega (arith, length-append (smallest (length token.now)) token.now)
held_below None = omega arith

pub held-nearly : (token : Option (Bor (List ℕ))) → length (token_bytes (token_of token)) ≤ 4 + held_of token
held-nearly (Some token) = omega (arith, smallest-few (length token.now), length-append (smallest (length token.now)) token.now)
held-nearly None = omega arith

-- all is judged but size and room
module _ (k : Keys) (a : Acknowledged) (p : Plain) (room : ℕ) (ours : known k.version ≡ true) (suits : writes p.token k.level ≡ true) {t : ℕ} (short : given t ≡ shortened p.packet_number a p.number_length)
    (d : length p.destination ≤ longest_id) (s : length p.source ≤ longest_id) (enough : 4 ≤ p.number_length + length p.payload) where
  size : length (packet_of aes_gcm in_force k p) ≡ size_of in_force p
  size = packet-size aes_gcm in_force k p aes-gcm-laws

  pub size-left : sized (size_of in_force p) room ≡ length_given (sealed aes_gcm in_force k a p room)
  size-left = by (leb (size_of in_force p) in_force.limit) refl (leb (size_of in_force p) room) refl
    where
      by : (b : Bool) → leb (size_of in_force p) in_force.limit ≡ b → (c : Bool) → leb (size_of in_force p) room ≡ c → sized (size_of in_force p) room ≡ length_given (sealed aes_gcm in_force k a p room)
      by false large c e =
          let h = leb-false _ _ large in
          sym (over-limit (size_of in_force p) room h) ∙ ap length_given (sym (seal-size aes_gcm in_force k a p room ours suits short d s enough (rw size h)))
      by true fits false full =
          let f = leb-true _ _ fits in
          let h = leb-false _ _ full in
          sym (over-room (size_of in_force p) room f h) ∙ ap length_given (sym (seal-room aes_gcm in_force k a p room ours suits short d s enough (rw size f) (rw size h)))
      by true fits true enters =
          let f = leb-true _ _ fits in
          let h = leb-true _ _ enters in
          sym (within (size_of in_force p) room f h) ∙ ap given (sym size)
          ∙ ap length_given (sym (seal-given aes_gcm in_force k a p room ours suits short d s enough (rw size f) (rw size h)))
