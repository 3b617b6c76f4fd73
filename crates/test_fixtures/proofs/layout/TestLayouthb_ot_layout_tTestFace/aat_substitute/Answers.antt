use Rattle.std.proofs.Common.{ℕ, rules, subst}
use Rattle.shape_buffer.specs.Outcome.{Made}
use Rattle.shape_buffer.specs.Walks.{items_mapped}
use Rattle.shape_buffer.proofs.Steps.Runs.{Ran-made}
use Rattle.test_fixtures.specs.Layouts.{struck}
use Rattle.test_fixtures.proofs.layout.TestLayouthb_ot_layout_tTestFace.aat_substitute.Goals as goal

pub returns : goal.returns
returns c =
    let made = c.update_items.ensures (struck c.struck_glyph-glyph.result) (λ x y said. search rules) in
    let P : ℕ → Type 0 = λ glyph. Made (items_mapped (struck glyph)) c.args.buffer.now c.update_items.new.buffer in
    Ran-made (search rules) (subst P c.struck_glyph-glyph.ensures made)
