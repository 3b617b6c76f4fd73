use Rattle.std.proofs.Common.{◌≡◌, drop}
use Rattle.layout_tables.specs.Scripts.{first_lang_sys}
use Rattle.layout_tables.proofs.scripts.first_lang_sys.Given as goal

abbrev pub invariant-loop-tag : goal.invariant-loop-tag
invariant-loop-tag l = first_lang_sys l.table l.script (drop l.tag-index l.tags) ≡ first_lang_sys l.table l.script l.fn.tags
