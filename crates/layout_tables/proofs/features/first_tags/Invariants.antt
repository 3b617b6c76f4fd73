use Rattle.layout_tables.specs.Features.{HoldsFirst, HasOnlyFirst}
use Rattle.layout_tables.proofs.features.first_tags.Given as goal

-- the digest holds the tags so far, and has no bit but theirs
abbrev pub invariant-loop-i : goal.invariant-loop-i
invariant-loop-i l = HoldsFirst l.table l.lang_sys l.i l.digest × HasOnlyFirst l.table l.lang_sys l.i l.digest
