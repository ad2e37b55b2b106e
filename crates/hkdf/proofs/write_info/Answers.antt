-- The five parts of the info, one behind the other.
use mathlib.Core.Path.{refl}
use Rattle.octets.specs.Text.{ascii}
use Rattle.hkdf.specs.Hkdf.{tls13}
use Rattle.hkdf.proofs.Info.{info-written}
use Rattle.hkdf.proofs.write_info.Goals as goal

pub returns : goal.returns
unfolding tls13 ascii
returns c =
    let a = c.args in
    info-written a.buffer.now _ _ _ _ _ _ a.label.now a.size _ _ _
    c.store.ensures
    c.store-2.ensures
    c.copy.ensures
    c.copy-2.ensures
    c.store-3.ensures
    refl
    refl
    refl
    refl
