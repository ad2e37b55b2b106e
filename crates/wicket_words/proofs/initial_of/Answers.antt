-- The Initial keys of what the three words name.
use Rattle.std.proofs.Common.{ℕ, sym}
use Rattle.std.proofs.lemmas.List.{length-replicate}
use Rattle.digits_reading.proofs.Pairs.{decoded-front}
use Rattle.wicket_words.proofs.initial_of.Goals as goal

pub returns : goal.returns
returns c =
    let id = decoded-front (sym (length-replicate {A = ℕ} 4096 0)) c.bytes-length.ensures.decoded in
    rw (sym c.version.ensures, sym id, sym c.side.ensures) c.initial_keys.ensures
