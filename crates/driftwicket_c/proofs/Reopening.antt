-- What C sealed, C opens again.
use Prim.Native.Nat.{ℕ, ◌≤◌}
use mathlib.Core.Path.{◌≡◌, sym, ap, subst, ◌∙◌}
use mathlib.Core.List.{List, [], ◌∷◌, ◌++◌}
use native.Mathlib.Omega.{arith}
use lib.ListN.{length, take, drop, get_or}
use lib.Seq.{take_at}
use Rattle.octets.specs.Outcome.{Outcome, given}
use Rattle.octets.specs.Octets.{placed}
use Rattle.header_forms.specs.Rules.{in_force}
use Rattle.header_forms.proofs.Rules.{in-force-readable}
use Rattle.header_writing.specs.Written.{Plain}
use Rattle.protection.specs.Protection.{Keys}
use Rattle.protection.specs.Clear.{Opened, plain_header}
use Rattle.packets.specs.Packet.{clear_of, sealed, opened}
use Rattle.packets.specs.Effects.{output, after}
use Rattle.protection.specs.AesGcm.{aes_gcm}
use Rattle.packets.proofs.Sealing.{sealing}
use Rattle.packets.proofs.OpenedBack.{opened-back}
use Rattle.protection.proofs.AesGcmLaws.{aes-gcm-laws}
use Rattle.c_forms.specs.Arguments.{acknowledged_by}
use Rattle.c_forms.specs.Promises.{answered, told}
use Rattle.c_forms.proofs.Numbered.{zero-given}
use Rattle.c_key_record.specs.Layout.{keys_in}
use Rattle.c_open.specs.Promises.{opened_numbers}
use Rattle.driftwicket_c.specs.Reopened.{Sealed, Reopens}
use Rattle.driftwicket_c.proofs.Numbered.{sealed-numbered}

module _ (keys : List ℕ) (p : Plain) (size : ℕ) (then : List ℕ) (s : Sealed keys p size then) where
  abbrev meant : Keys
  meant = keys_in keys

  -- the rules' own packet stands at the buffer's start, and its size was reported
  made : (packet : List ℕ) × (sealed aes_gcm in_force meant (acknowledged_by s.any s.acknowledged) p (length s.buffer) ≡ given packet) × (size ≡ length packet) × (take size then ≡ packet)
  made =
      let o = sealed aes_gcm in_force meant (acknowledged_by s.any s.acknowledged) p (length s.buffer) in
      let g = zero-given o (sealed-numbered aes_gcm in_force meant (acknowledged_by s.any s.acknowledged) p (length s.buffer)) s.promised.answers in
      let packet = g.0 in
      let long : size ≡ length packet = ap (λ (ns : List ℕ). get_or ns 0 0) g.2 in
      let holds = s.promised.written ∙ ap (λ x. placed x s.buffer) g.1 in
      (packet, g.1, long, ap (take size) holds ∙ take_at packet (drop (length packet) s.buffer) size (sym long))

pub reopening : Reopens
reopening keys p size then behind s expected next r before report room after' comes promised =
    let k : Keys = keys_in keys in
    let m = made keys p size then s in
    let packet = m.0 in
    let whole = sealing aes_gcm in_force k (acknowledged_by s.any s.acknowledged) p (length s.buffer) packet m.1 in
    let fits = subst (λ (x : List ℕ). length (x ++ behind) ≤ in_force.limit) m.3 comes.fits in
    let back = opened-back aes_gcm aes-gcm-laws in_force in-force-readable k p packet whole behind fits expected (length room) comes.expects comes.near (omega (arith, m.2, comes.enough)) in
    let is = ap (λ (x : List ℕ). opened aes_gcm in_force k expected (x ++ behind) (length room)) m.3 ∙ back in
    record {
      answer = promised.answers.answer ∙ ap answered is;
      reported =
          promised.answers.reported
          ∙ ap (λ (x : Outcome Opened). told opened_numbers x before) is
          ∙ ap (λ (n : ℕ). p.packet_number ∷ p.number_length ∷ length (plain_header (clear_of in_force k.version k.level p)) ∷ length p.payload ∷ n ∷ []) (sym m.2);
      moved = promised.moved ∙ ap (after expected) is;
      written = promised.written ∙ ap (λ (x : Outcome Opened). placed (output x) room) is;
    }
