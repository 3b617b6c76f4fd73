-- The scripts that a shaper of their own may serve.
use Rattle.std.specs.Prelude.{ℕ, ◌==◌, Option}
use Rattle.std.specs.List.{find}
use Rattle.std.specs.Option.{option_map}
use Rattle.shape_common.specs.declared.text_types.Script.{Script}
use Rattle.shaper_choice.specs.declared.scripts.Group.{Group}
use Rattle.shaper_choice.specs.declared.scripts.TheConstants.{SCRIPTS}

-- the group that the table has for the tag of a script
abbrev pub group_of_tag : ℕ → Option Group
group_of_tag tag = option_map (λ row. row.1) (find (λ row. row.0 == tag) SCRIPTS)

abbrev pub group_of : Script → Option Group
group_of script = group_of_tag script.0.0
