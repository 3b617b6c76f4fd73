-- The scripts that characters of several are used with: the property Script_Extensions (UAX 24, section 2.9).
use Rattle.std.specs.Prelude.{ℕ, Bool}
use Rattle.std.specs.List.{list_any}
use Rattle.ucd_script.specs.Script.{script_eq}
use Rattle.ucd_script.specs.ScriptExtensions.{listed_scripts}
use Rattle.ucd_script.specs.declared.Script.{Script}

-- the database lists the script for the character
abbrev pub is_listed : Script → ℕ → Bool
is_listed s c = list_any (λ x. script_eq x s) (listed_scripts c)
