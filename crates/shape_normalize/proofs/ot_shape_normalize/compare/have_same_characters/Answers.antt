use Rattle.std.proofs.Common.{◌∙◌, sym, ne_eqb}
use Rattle.std.proofs.lemmas.Bool.{both_ways}
use Rattle.shape_normalize.proofs.Form.CompareLemmas.{same_where_alike, alike_where_same, as_long_where_same}
use Rattle.shape_normalize.proofs.ot_shape_normalize.compare.have_same_characters.Goals as goal

pub returns-then-a-b : goal.returns-then-a-b
returns-then-a-b c = (
  λ equal. same_where_alike c.args.a.now c.args.b.now c.if-a-b.true (sym c.begin_alike.ensures ∙ equal),
  λ same. c.begin_alike.ensures ∙ alike_where_same c.args.a.now c.args.b.now same,
)

pub returns-else-a-b : goal.returns-else-a-b
returns-else-a-b c = (
  λ equal. absurd (both_ways _ (ne_eqb _ _ c.if-a-b.false) equal),
  λ same. absurd (c.if-a-b.false (as_long_where_same c.args.a.now c.args.b.now same)),
)
