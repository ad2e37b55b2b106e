-- The keys of the level and of the bytes that were decoded.
use mathlib.Core.Path.{sym}
use Rattle.wicket_words.proofs.Named.{secret-decoded}
use Rattle.wicket_words.proofs.install.Goals as goal

pub returns : goal.returns
returns c =
    let secret = secret-decoded c.decode.ensures.decoded in
    rw (sym c.version.ensures, sym c.level.ensures, sym c.side.ensures, sym secret) c.install_keys.ensures
