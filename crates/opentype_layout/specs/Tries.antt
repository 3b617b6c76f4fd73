-- What the calls of the engine try, and what they try one after the other: counts over the definitions of the stages.
use Rattle.std.specs.Prelude.{ℕ, List, [], ◌∷◌, ◌+◌, ◌≤◌}
use Rattle.shape_items.specs.Buffer.{Buffer}
use Rattle.layout_context.specs.Tries.{substitute_tries}
use Rattle.layout_map.specs.Map.{OtMap}
use Rattle.layout_map.specs.Stages as stages
use Rattle.layout_positions.specs.Tries as positions
use Rattle.opentype_layout.specs.Engine.{gsub_tables, gpos_tables, opentype_lookups}
use Rattle.opentype_layout.specs.Lookups.{lookups_of}
use Rattle.opentype_layout.specs.declared.face.OpenTypeFace.{OpenTypeFace}

-- something that is done to a buffer, and how many subtables, rules and ligatures are tried for it
pub record Call : Type 0 where
  pub makes : Buffer → Buffer
  pub tries : Buffer → ℕ

abbrev pub stage_call : OtMap → OpenTypeFace → ℕ → Call
stage_call m f i = record {
  makes = (opentype_lookups m f).stage i;
  tries = substitute_tries (lookups_of (gsub_tables f) (stages.lookups_of m.gsub i));
}

abbrev pub position_call : OtMap → OpenTypeFace → Call
position_call m f = record { makes = (opentype_lookups m f).position; tries = positions.position_tries (lookups_of (gpos_tables f) m.gpos) }

-- what tries no lookup
abbrev pub other_call : (Buffer → Buffer) → Call
other_call f = record { makes = f; tries = λ b. 0 }

-- one call after the other: what they make of a buffer, and what they try in all
abbrev pub made_by : List Call → Buffer → Buffer
made_by [] b = b
made_by (call ∷ calls) b = made_by calls (call.makes b)

abbrev pub tries_by : List Call → Buffer → ℕ
tries_by [] b = 0
tries_by (call ∷ calls) b = call.tries b + tries_by calls (call.makes b)

-- a call pays for what it tries: it tries no more than what was left before it less what is left after it
abbrev pub Pays : Call → Type 0
Pays call = (b : Buffer) → call.tries b + (call.makes b).max_ops ≤ b.max_ops

abbrev pub EachPays : List Call → Type 0
EachPays [] = Unit {0}
EachPays (call ∷ calls) = Pays call × EachPays calls

-- what is left never rises
abbrev pub NeverRaises : (Buffer → Buffer) → Type 0
NeverRaises f = (b : Buffer) → (f b).max_ops ≤ b.max_ops
