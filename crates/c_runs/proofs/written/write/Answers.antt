use Rattle.std.proofs.Common.{◌≡◌, ◌∙◌, List, ◌+◌, ◌++◌, length, map, take, drop, set, get_or, ap, sym, arith}
use Rattle.std.proofs.lemmas.Slice.Zip.{get_or-zip, length-zip}
use Rattle.std.specs.List.{zip}
use Rattle.shape_common.specs.Positions.{zero_position}
use Rattle.shape_common.specs.declared.positions.GlyphPosition.{GlyphPosition}
use Rattle.shape_items.specs.Items.{Item}
use Rattle.c_runs.specs.Glyphs.{glyph_of}
use Rattle.c_runs.specs.declared.plain.luthgarn_glyph.{luthgarn_glyph}
use Rattle.c_runs.proofs.ListLemmas.{written_more, written_all}
use Rattle.c_runs.proofs.written.write.Goals as goal

pub loop-k-preserved : goal.loop-k-preserved
loop-k-preserved c =
    let infos = c.glyph_infos-infos.result.now in
    let positions = c.glyph_positions-positions.result.now in
    let k = c.loop-k.k in
    let d : Item × GlyphPosition = (c.index-infos-k.result, zero_position) in
    let p : Item × GlyphPosition = (c.index-infos-k.result, get_or positions k zero_position) in
    let items : length infos ≡ length c.args.glyphs.now.items = ap length c.glyph_infos-infos.ensures in
    let pairs = length-zip infos positions in
    let found = get_or-zip infos positions k d (omega arith) (omega arith) in
    let at : p ≡ get_or (zip infos positions) k d =
    ap (λ (item : Item). (item, get_or positions k zero_position)) c.index-infos-k.is ∙ sym found in
    ap (λ (g : luthgarn_glyph). set c.loop-k.room (c.args.start + k) g) c.of.ensures
    ∙ written_more glyph_of c.args.room.now (zip infos positions) c.args.start k c.loop-k.room p d c.loop-k.invariant
    (omega arith) (omega arith) at

pub returns : goal.returns
returns c =
    let infos = c.glyph_infos-infos.result.now in
    let positions = c.glyph_positions-positions.result.now in
    let items : length infos ≡ length c.args.glyphs.now.items = ap length c.glyph_infos-infos.ensures in
    let pairs = length-zip infos positions in
    let n = length c.args.glyphs.now.items in
    written_all glyph_of c.args.room.now (zip infos positions) c.args.start c.loop-k.k n c.loop-k.room c.loop-k.invariant
    (omega arith) (omega arith)
    ∙ ap (λ (is : List Item). take c.args.start c.args.room.now ++ (map glyph_of (zip is positions) ++ drop (c.args.start + n) c.args.room.now))
    c.glyph_infos-infos.ensures
    ∙ ap (λ (ps : List GlyphPosition). take c.args.start c.args.room.now
    ++ (map glyph_of (zip c.args.glyphs.now.items ps) ++ drop (c.args.start + n) c.args.room.now)) c.glyph_positions-positions.ensures.value
