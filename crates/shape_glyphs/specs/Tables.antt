-- Positions by the tables that a plan has chosen.
use Rattle.std.specs.Prelude.{◌&&◌, not, if◌then◌else◌}
use Rattle.shape_items.specs.Buffer.{Buffer}
use Rattle.shape_buffer.specs.Layout.{LookupMeaning}
use Rattle.shape_plan.specs.Run.{step_if}
use Rattle.shape_plan.specs.declared.decisions.Decisions.{Decisions}

-- by GPOS if the plan says so, else by kerx if it says that
abbrev pub table_positioned : LookupMeaning → Decisions → Buffer → Buffer
table_positioned lookups decisions =
    if decisions.apply_gpos then lookups.position else step_if decisions.apply_kerx (lookups.aat_position decisions.kern_mask)

-- after that by kern; without any of the three nothing is done
abbrev pub kerned : LookupMeaning → Decisions → Buffer → Buffer
kerned lookups decisions = step_if decisions.apply_kern (lookups.kern decisions.kern_mask)

-- and after that glyphs are tracked by trak
abbrev pub tracked : LookupMeaning → Decisions → Buffer → Buffer
tracked lookups decisions = step_if decisions.apply_trak (lookups.aat_track decisions.trak_mask)

-- glyphs that morx has deleted lose their width
abbrev pub deleted_narrowed : LookupMeaning → Decisions → Buffer → Buffer
deleted_narrowed lookups decisions = step_if decisions.apply_morx lookups.aat_zero_width_deleted

-- and they go, if GPOS hasn't positioned
abbrev pub deleted_removed : LookupMeaning → Decisions → Buffer → Buffer
deleted_removed lookups decisions = step_if (decisions.apply_morx && not decisions.apply_gpos) lookups.aat_remove_deleted
