use Rattle.std.proofs.Common.{◌∙◌, ap}
use Rattle.std.specs.Prelude.{IfOk}
use Rattle.std.specs.Str.{chars}
use Rattle.utf16_text.proofs.UnitLemmas.{chars-utf16, spelled-chars}
use Rattle.utf16_text.proofs.spelled.Goals as goal

pub returns : goal.returns
returns c = spelled-chars c.args.text.now c.type_inv.text c.from_utf16_lossy.result c.from_utf16_lossy.ensures
