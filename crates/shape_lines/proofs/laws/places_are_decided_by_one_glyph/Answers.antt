use Rattle.std.proofs.Common.{◌<◌, length, arith}
use Rattle.shape_lines.specs.TextOrder.{text_order}
use Rattle.shape_lines.proofs.PlaceLemmas.{place_from_begin, begin_from_place}
use Rattle.shape_lines.proofs.TextOrderLemmas.{length-text, rises-text, one_flag-text}
use Rattle.shape_lines.proofs.laws.places_are_decided_by_one_glyph.Goals as goal

pub returns : goal.returns
returns c = λ b text_end place can some lt.
    let gs = text_order b in
    let rise = rises-text b can.monotone in
    let one = one_flag-text b can.one_set in
    let within : place < length gs = omega (arith, length-text b, lt) in
    (λ is. begin_from_place gs rise one place is, λ begins. place_from_begin gs rise one place some within begins)
