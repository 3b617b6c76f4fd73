-- The script in which a variation selector has the form of its letter.
use Rattle.std.specs.Prelude.{◌==◌, Bool, false, Option, None, Some}
use Rattle.shape_common.specs.declared.text_types.Script.{Script}

abbrev pub is_mongolian : Option Script → Bool
is_mongolian None = false
is_mongolian (Some script) = script.0.0 == 0x4D6F6E67
