use Rattle.std.proofs.Common.{length, ap, arith}
use Rattle.std.proofs.lemmas.List.{length-map}
use Rattle.std.proofs.lemmas.Slice.Zip.{length-zip}
use Rattle.std.specs.List.{zip}
use Rattle.c_runs.specs.Glyphs.{glyph_of}
use Rattle.c_runs.proofs.written.count.Goals as goal

pub returns-clause-glyphs : goal.returns-clause-glyphs
returns-clause-glyphs c =
    let glyphs = c.args.glyphs.now in
    let mapped = length-map (zip glyphs.items glyphs.positions) glyph_of in
    let pairs = length-zip glyphs.items glyphs.positions in
    let same = ap length c.glyph_positions-positions.ensures.value in
    omega arith
