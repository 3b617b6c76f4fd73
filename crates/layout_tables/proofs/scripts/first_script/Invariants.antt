use Rattle.std.proofs.Common.{◌≡◌, drop}
use Rattle.layout_tables.specs.Scripts.{first_script}
use Rattle.layout_tables.proofs.scripts.first_script.Given as goal

abbrev pub invariant-loop-tag : goal.invariant-loop-tag
invariant-loop-tag l = first_script l.table (drop l.tag-index l.tags) ≡ first_script l.table l.fn.tags
