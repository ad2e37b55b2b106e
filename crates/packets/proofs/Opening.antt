-- Opening: what it comes to by what the tests show, in their order, as far as what is left is what lies under the protection.
use Prim.Native.Nat.{ℕ, ◌+◌, ◌-◌, ◌≤◌, ◌<◌}
use mathlib.Core.Path.{◌≡◌}
use mathlib.Core.List.{List}
use mathlib.Core.Bool.{true, false}
use lib.Dec.{leb}
use lib.ListN.{length, take}
use lib.Seq.{length-take-le}
use borrow.Author.Tests.{le-leb, lt-leb}
use Rattle.octets.specs.Outcome.{refused, given}
use Rattle.numbers.specs.Numbers.{numbers}
use Rattle.versions.specs.Versions.{known}
use Rattle.header_forms.specs.Rules.{Rules}
use Rattle.header_forms.specs.Forms.{long_form, formed}
use Rattle.header_fields.specs.Fields.{tag_length}
use Rattle.header_reading.specs.PacketHeader.{Header, header}
use Rattle.header_reading.proofs.PacketHeaders.{header-there}
use Rattle.protection.specs.Suite.{Suite}
use Rattle.protection.specs.Protection.{Keys}
use Rattle.protection.specs.Clear.{unprotected}
use Rattle.packets.specs.Packet.{of_keys, opened}

module _ (suite : Suite) (rules : Rules) (k : Keys) (e : ℕ) (d : List ℕ) (room : ℕ) where
  pub open-expected : numbers < e → opened suite rules k e d room ≡ refused 10
  unfolding opened
  open-expected h = rw (lt-leb e numbers h)

  module _ (fair : e ≤ numbers) where
    expects : leb e numbers ≡ true
    expects = le-leb e numbers fair

    pub open-version : known k.version ≡ false → opened suite rules k e d room ≡ refused 4
    unfolding opened
    open-version h = rw (expects, h)

    module _ (ours : known k.version ≡ true) where
      pub open-form : {n : ℕ} → refused n ≡ formed rules long_form d → opened suite rules k e d room ≡ refused n
      unfolding opened
      open-form h = rw (expects, ours, ← h)

      module _ (long : given tt ≡ formed rules long_form d) where
        -- whatever the header's reading refuses
        pub open-header : {n : ℕ} → refused n ≡ header (of_keys k) d → opened suite rules k e d room ≡ refused n
        unfolding opened
        open-header h = rw (expects, ours, ← long, ← h)

        module _ {h : Header} (read : given h ≡ header (of_keys k) d) where
          whole : length (take (h.number_at + h.length') d) ≡ h.number_at + h.length'
          whole = length-take-le (h.number_at + h.length') d (header-there (of_keys k) d read).all

          pub open-room : room < h.number_at + h.length' - tag_length → opened suite rules k e d room ≡ refused 8
          unfolding opened
          open-room l = rw (expects, ours, ← long, ← read, whole, lt-leb (h.number_at + h.length' - tag_length) room l)

          pub open-protected : h.number_at + h.length' - tag_length ≤ room
              → opened suite rules k e d room ≡ unprotected suite long_form k e (take (h.number_at + h.length') d) h.number_at
          unfolding opened
          open-protected l = rw (expects, ours, ← long, ← read, whole, le-leb (h.number_at + h.length' - tag_length) room l)
