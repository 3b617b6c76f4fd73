-- the rows left make of what is found so far what all of them make of nothing
use Rattle.std.specs.Prelude.{◌≡◌, None, drop, fold}
use Rattle.opentype_tags.specs.Language.{with_row}
use Rattle.opentype_tags.proofs.language.row_tags.Given as goal

abbrev pub invariant-loop-row : goal.invariant-loop-row
invariant-loop-row l = fold (with_row l.key) l.found (drop l.row-index l.row-items) ≡ fold (with_row l.key) None l.row-items
