-- The token stands behind the source ID and the rest behind the token, each of them within the datagram.
use mathlib.Core.Path.{sym, ◌∙◌}
use native.Mathlib.Omega.{arith}
use Rattle.octets.proofs.Refusals.{passed-on}
use Rattle.header_long.proofs.LongHeaders.{long-there}
use Rattle.header_reading.proofs.PacketHeaders.{token-there, header-no-long, header-no-token, header-no-rest, header-found}
use Rattle.header_reading.proofs.read_fields.Goals as goal

pub returns-in_err-long : goal.returns-in_err-long
returns-in_err-long c = passed-on _ _ _ c.from_residual.ensures.1 ∙ sym (header-no-long _ _ c.in_err-long.ensures)

pub overflow_add-long : goal.overflow_add-long
overflow_add-long c =
    let there = long-there _ _ c.in_ok-long.ensures in
    omega arith

pub token_at-requires : goal.token_at-requires
token_at-requires c = (long-there _ _ c.in_ok-long.ensures).source.inside

pub returns-in_err-token : goal.returns-in_err-token
returns-in_err-token c =
    passed-on _ _ _ c.from_residual-in_err-token.ensures.1 ∙ sym (header-no-token _ _ c.in_ok-long.ensures c.in_err-token.ensures)

pub rest_at-requires : goal.rest_at-requires
rest_at-requires c = (token-there _ _ _ (long-there _ _ c.in_ok-long.ensures).source.inside c.in_ok-token.ensures).on

pub returns-in_err-rest : goal.returns-in_err-rest
returns-in_err-rest c =
    passed-on _ _ _ c.from_residual-in_err-rest.ensures.1 ∙ sym (header-no-rest _ _ c.in_ok-long.ensures c.in_ok-token.ensures c.in_err-rest.ensures)

pub returns : goal.returns
returns c = sym (header-found _ _ c.in_ok-long.ensures c.in_ok-token.ensures c.in_ok-rest.ensures)
