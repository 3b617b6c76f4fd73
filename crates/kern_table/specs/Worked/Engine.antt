-- What the engine returns of a face, by the table that the face has.
use Rattle.std.specs.Prelude.{◌≡◌, ℕ, pos, negsuc, List, [], ◌∷◌, None, true, false, refl}
use Rattle.std.specs.Int.{int_wrap}
use Rattle.shape_buffer.specs.MapBuilder.{Builder}
use Rattle.shape_buffer.specs.declared.interfaces.map_request.TableIndex.{TableIndex}
use Rattle.shape_common.specs.Wrapping.{◌+ʷ◌, ◌-ʷ◌}
use Rattle.shape_common.specs.declared.text_types.Feature.{Feature}
use Rattle.shape_items.specs.Buffer.{Buffer}
use Rattle.shape_common.specs.declared.text_types.Direction.TheVariants.{LeftToRight}
use Rattle.shape_font.specs.Bytes.{i16_of}
use Rattle.shape_font.specs.declared.face.FontFace.{FontFace}
use Rattle.kern_table.specs.Headers.{first_start, length_of, format_of, coverage_of, header_size}
use Rattle.kern_table.specs.Engine.{kern_layout, kern_lookups}
use Rattle.kern_table.specs.Pairs.{value_of}
use Rattle.kern_table.specs.Worked.Kern.{table, on, line, along, whole}

pub record WorkedEngine : Type 0 where
  pub kerns : (f : FontFace) → f.kern.now ≡ table 1 1 → (kern_layout f).has_kerning ≡ true
  pub no_subtables : (f : FontFace) → f.kern.now ≡ table 0 1 → (kern_layout f).has_kerning ≡ false
  pub of_apple : (f : FontFace) → f.kern.now ≡ 0 ∷ 1 ∷ 0 ∷ 0 ∷ 0 ∷ 0 ∷ 0 ∷ 1 ∷ [] → (kern_layout f).has_kerning ≡ true
  pub other_version : (f : FontFace) → f.kern.now ≡ 0 ∷ 2 ∷ 0 ∷ 0 ∷ 0 ∷ 0 ∷ 0 ∷ 1 ∷ [] → (kern_layout f).has_kerning ≡ false
  pub compiled : (f : FontFace) (b : Builder) → b.requests ≡ whole 1 ∷ []
      → (kern_layout f).compiled b ≡ record { is_on = true; everywhere = 1 }
  pub kerned : (f : FontFace) → f.scale ≡ None → f.kern.now ≡ table 1 1
      → along ((kern_lookups f).kern 16 (line LeftToRight (on 2 0 ∷ on 3 1 ∷ []))) ≡ (pos 575, pos 0) ∷ (pos 575, negsuc 24) ∷ []
  pub no_machine : (f : FontFace) → f.kern.now ≡ table 1 1 → (kern_layout f).has_machine_kerning ≡ false
  pub no_script : (f : FontFace) (table : TableIndex) → (kern_layout f).chosen_script None None table ≡ None
  pub no_classes : (f : FontFace) → (kern_layout f).has_glyph_classes ≡ false
  pub no_cross_kerning : (f : FontFace) → (kern_layout f).has_cross_kerning ≡ false
  -- no other call of the engine changes a buffer
  pub no_stage : (f : FontFace) (i : ℕ) (b : Buffer) → (kern_lookups f).stage i b ≡ b
  pub no_start : (f : FontFace) (b : Buffer) → (kern_lookups f).substitute_start b ≡ b
  pub no_other_table : (f : FontFace) (features : List Feature) (b : Buffer) → (kern_lookups f).aat_substitute features b ≡ b
  pub no_other_positions : (f : FontFace) (mask : ℕ) (b : Buffer) → (kern_lookups f).aat_position mask b ≡ b
  pub no_tracking : (f : FontFace) (mask : ℕ) (b : Buffer) → (kern_lookups f).aat_track mask b ≡ b
  pub no_positions : (f : FontFace) (b : Buffer) → (kern_lookups f).position b ≡ b

pub worked_engine : WorkedEngine
unfolding i16_of ◌+ʷ◌ ◌-ʷ◌ int_wrap first_start length_of value_of format_of coverage_of header_size
worked_engine = record {
  kerns = λ f e. rw e refl;
  no_subtables = λ f e. rw e refl;
  of_apple = λ f e. rw e refl;
  other_version = λ f e. rw e refl;
  compiled = λ f b e. rw e refl;
  kerned = λ f s e. rw (s, e) refl;
  no_machine = λ f e. refl;
  no_script = λ f table. refl;
  no_classes = λ f. refl;
  no_cross_kerning = λ f. refl;
  no_stage = λ f i b. refl;
  no_start = λ f b. refl;
  no_other_table = λ f features b. refl;
  no_other_positions = λ f mask b. refl;
  no_tracking = λ f mask b. refl;
  no_positions = λ f b. refl;
}
