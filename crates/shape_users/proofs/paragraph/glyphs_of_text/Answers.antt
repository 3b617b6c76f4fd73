use Rattle.std.proofs.Common.{List, length, subst}
use Rattle.shape_common.specs.Direction.{is_backward}
use Rattle.shape_items.specs.Items.{Item}
use Rattle.shape_users.specs.Paragraph.{FirstToLast}
use Rattle.shape_users.proofs.ParagraphLemmas.{glyphs_exact}
use Rattle.shape_users.proofs.paragraph.glyphs_of_text.Goals as goal

pub returns-clause-exact : goal.returns-clause-exact
returns-clause-exact c =
    let span = c.first_to_last.result in
    let found = subst (λ (xs : List Item). FirstToLast xs c.args.text.start c.args.text.end
    (length xs) span.start span.end) c.glyph_infos.ensures c.first_to_last.ensures in
    glyphs_exact (is_backward c.args.glyphs.now.direction) c.args.glyphs.now.items c.args.text.start c.args.text.end span.start span.end found
