-- The fields before the number, and the number's low bytes behind them.
use native.Mathlib.Omega.{arith}
use Rattle.header_writing.specs.Written.{first_byte}
use Rattle.seal_header.proofs.Headers.{type-narrow, fields-end, header-written}
use Rattle.seal_header.proofs.write_header.Goals as goal

pub overflow_mul-first : goal.overflow_mul-first
overflow_mul-first c = omega (arith, type-narrow _ _ _ c.type_for.ensures)

pub overflow_add-first : goal.overflow_add-first
overflow_add-first c = omega (arith, type-narrow _ _ _ c.type_for.ensures)

pub overflow_add-first-2 : goal.overflow_add-first-2
overflow_add-first-2 c = omega (arith, type-narrow _ _ _ c.type_for.ensures)

pub store-requires : goal.store-requires
store-requires c =
    let written = c.write_fields-place in
    (omega arith, omega (arith, fields-end _ _ _ _ _ _ written.ensures.ends, written.auto))

pub returns : goal.returns
unfolding first_byte
returns c =
    let type = c.type_for.ensures in
    header-written _ _ _ _ _ _ _ _ _ c.write_fields-place.ensures c.store.ensures
    (omega (arith, type)) (omega arith)
