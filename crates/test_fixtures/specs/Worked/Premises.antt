-- What a run asks of its lookups, worked by hand over an engine that loses every text in the calls that a run doesn't
-- make.
use Rattle.std.specs.Prelude.{◌≡◌, ℕ, ◌==◌, nat_lt, Bool, true, false, if◌then◌else◌, [], ◌∷◌}
use Rattle.shape_items.specs.Buffer.{Buffer, new_buffer}
use Rattle.shape_buffer.specs.Layout.{LookupMeaning}
use Rattle.shape_plan.specs.Preservation.{EachCalledLookup}
use Rattle.shape_plan.specs.Run.{Run}

-- what becomes of a text: it stays, or it is lost
abbrev pub kept_if : Bool → Buffer → Buffer
kept_if kept b = if kept then b else new_buffer

-- lookups that every run calls, and none of the others
abbrev pub always_called : LookupMeaning
always_called = record {
  would_substitute = λ tag glyphs zero_context. zero_context;
  substitute_start = λ b. b;
  stage = λ i. kept_if false;
  aat_substitute = λ features. kept_if false;
  aat_remove_deleted = kept_if false;
  aat_zero_width_deleted = kept_if false;
  position_start = λ b. b;
  position = kept_if false;
  position_finish_advances = λ b. b;
  position_finish_offsets = λ b. b;
  aat_position = λ mask. kept_if false;
  kern = λ mask. kept_if false;
  aat_track = λ mask. kept_if false;
}

-- two stages besides, what `morx` does without features, or what `kerx` and `kern` do by mask 4, or `trak` by mask 5
abbrev pub of_two_stages : LookupMeaning
of_two_stages = record always_called { stage = λ i. kept_if (nat_lt i 2) }

abbrev pub of_morx : LookupMeaning
of_morx = record always_called {
  aat_substitute = λ features. elim features [ [] ↦ kept_if true | _ ∷ _ ↦ kept_if false ];
  aat_remove_deleted = λ b. b;
  aat_zero_width_deleted = λ b. b;
}

abbrev pub of_gpos : LookupMeaning
of_gpos = record always_called { position = λ b. b }

abbrev pub of_kerx : LookupMeaning
of_kerx = record always_called { aat_position = λ mask. kept_if (mask == 4) }

abbrev pub of_kern : LookupMeaning
of_kern = record always_called { kern = λ mask. kept_if (mask == 4) }

abbrev pub of_trak : LookupMeaning
of_trak = record always_called { aat_track = λ mask. kept_if (mask == 5) }

-- which tables a plan applies
pub record Applied : Type 0 where
  pub morx : Bool
  pub gpos : Bool
  pub kerx : Bool
  pub kern : Bool
  pub trak : Bool

abbrev pub no_table : Applied
no_table = record { morx = false; gpos = false; kerx = false; kern = false; trak = false }

-- the run over such lookups, by a plan that applies these tables and has so many stages, no feature of the user's,
-- kerning's mask 4 and tracking's 5
abbrev pub over : Run → LookupMeaning → Applied → ℕ → Run
over run lookups applied stages = record run {
  lookups = lookups;
  map = record run.map { stages = stages };
  user_features = [];
  decisions = record run.decisions {
    apply_morx = applied.morx;
    apply_gpos = applied.gpos;
    apply_kerx = applied.kerx;
    apply_kern = applied.kern;
    apply_trak = applied.trak;
    kern_mask = 4;
    trak_mask = 5;
  };
}

-- every text stays as it is
abbrev pub LeavesTexts : (Buffer → Buffer) → Type 0
LeavesTexts f = (b : Buffer) → f b ≡ b

-- all that the run asks of lookups is met, or it isn't
abbrev pub Met : LookupMeaning → Applied → ℕ → Type 0
Met lookups applied stages = (run : Run) → EachCalledLookup LeavesTexts (over run lookups applied stages)

abbrev pub Missed : LookupMeaning → Applied → ℕ → Type 0
Missed lookups applied stages = (run : Run) → EachCalledLookup LeavesTexts (over run lookups applied stages) → ⊥

pub record PremisesMet : Type 0 where
  pub bare : Met always_called no_table 0
  pub two_stages : Met of_two_stages no_table 2
  -- `morx` stands in the place of stages
  pub morx : Met of_morx (record no_table { morx = true }) 3
  -- and GPOS in that of `kerx`
  pub gpos : Met of_gpos (record no_table { gpos = true; kerx = true }) 0
  pub kerx : Met of_kerx (record no_table { kerx = true }) 0
  pub kern : Met of_kern (record no_table { kern = true }) 0
  pub trak : Met of_trak (record no_table { trak = true }) 0

pub record PremisesMissed : Type 0 where
  pub third_stage : Missed of_two_stages no_table 3
  pub stages_for_morx : Missed of_two_stages (record no_table { morx = true }) 2
  pub morx_for_stages : Missed of_morx no_table 1
  pub gpos_unmet : Missed of_kerx (record no_table { gpos = true; kerx = true }) 0
  pub kerx_unmet : Missed of_gpos (record no_table { kerx = true }) 0
  pub kern_unmet : Missed of_gpos (record no_table { gpos = true; kern = true }) 0
  pub trak_unmet : Missed of_kern (record no_table { kern = true; trak = true }) 0

pub record WorkedPremises : Type 0 where
  pub met : PremisesMet
  pub missed : PremisesMissed
