-- The decisions of plans, computed on small cases whose answers are worked out by hand.
use Rattle.std.specs.Prelude.{◌≡◌, Bool, true, false, List, [], ◌∷◌, refl}
use Rattle.shape_common.specs.declared.face.hb_tables_t.{hb_tables_t}
use Rattle.shape_plan.specs.Decisions.{decided}
use Rattle.shape_plan.specs.declared.decisions.Decisions.{Decisions}
use Rattle.shape_plan.specs.declared.decisions.PlanFacts.{PlanFacts}

-- a face without tables
abbrev pub no_tables : hb_tables_t
no_tables = record { gsub = false; gpos = false; morx = false; kerx = false; trak = false }

-- no masks, no tables and no results; the shaper prefers both for marks
abbrev pub nothing_known : PlanFacts
nothing_known = record {
  frac_mask = 0;
  numr_mask = 0;
  dnom_mask = 0;
  rtlm_mask = 0;
  vert_mask = 0;
  mark_mask = 0;
  kern_mask = 0;
  trak_mask = 0;
  has_gpos_kern = false;
  disable_gpos = false;
  apply_morx = false;
  script_zero_marks = true;
  script_fallback_mark_positioning = true;
  tables = no_tables;
  has_glyph_classes = false;
  has_kerning = false;
  has_machine_kerning = false;
  has_cross_kerning = false;
}

-- a plan that does nothing, for rows to begin with
abbrev pub no_decisions : Decisions
no_decisions = record {
  apply_morx = false;
  frac_mask = 0;
  numr_mask = 0;
  dnom_mask = 0;
  rtlm_mask = 0;
  kern_mask = 0;
  trak_mask = 0;
  has_frac = false;
  has_vert = false;
  has_gpos_mark = false;
  requested_kerning = false;
  apply_trak = false;
  fallback_glyph_classes = false;
  apply_gpos = false;
  apply_kern = false;
  apply_fallback_kern = false;
  apply_kerx = false;
  zero_marks = false;
  fallback_mark_positioning = false;
  adjust_mark_positioning_when_zeroing = false;
}

-- who positions: GPOS, kerx, kern, none of the three; and for marks: zeroed, placed by extents, moved back
abbrev pub choices : PlanFacts → List Bool
choices f =
    let d = decided f in
    d.apply_gpos ∷ d.apply_kerx ∷ d.apply_kern ∷ d.apply_fallback_kern
    ∷ d.zero_marks ∷ d.fallback_mark_positioning ∷ d.adjust_mark_positioning_when_zeroing ∷ []

-- faces
abbrev pub with_kerx : PlanFacts
with_kerx = record nothing_known { tables = record no_tables { kerx = true } }

abbrev pub with_gpos : PlanFacts
with_gpos = record nothing_known { tables = record no_tables { gsub = true; gpos = true } }

abbrev pub with_both : PlanFacts
with_both = record nothing_known { tables = record no_tables { gsub = true; gpos = true; kerx = true } }

abbrev pub with_kern : PlanFacts
with_kern = record nothing_known { has_kerning = true }

pub record ChoicesOfFaces : Type 0 where
  pub nothing : choices nothing_known ≡ false ∷ false ∷ false ∷ true ∷ true ∷ true ∷ true ∷ []
  pub kerx : choices with_kerx ≡ false ∷ true ∷ false ∷ false ∷ false ∷ false ∷ false ∷ []
  pub gpos : choices with_gpos ≡ true ∷ false ∷ false ∷ false ∷ true ∷ false ∷ false ∷ []
  pub kern : choices with_kern ≡ false ∷ false ∷ true ∷ false ∷ true ∷ true ∷ true ∷ []
  pub gpos_then_kerx : choices with_both ≡ true ∷ true ∷ false ∷ false ∷ false ∷ false ∷ false ∷ []
  pub gpos_kerns : choices (record with_both { has_gpos_kern = true }) ≡ true ∷ false ∷ false ∷ false ∷ true ∷ false ∷ false ∷ []
  pub kerx_without_gsub : choices (record with_kerx { tables = record no_tables { gpos = true; kerx = true } })
      ≡ false ∷ true ∷ false ∷ false ∷ false ∷ false ∷ false ∷ []
  pub kerx_under_morx : choices (record with_both { apply_morx = true }) ≡ false ∷ true ∷ false ∷ false ∷ false ∷ false ∷ false ∷ []
  pub kerx_before_kern : choices (record with_kerx { has_kerning = true }) ≡ false ∷ true ∷ false ∷ false ∷ false ∷ false ∷ false ∷ []
  pub gpos_and_kern : choices (record with_gpos { has_kerning = true }) ≡ true ∷ false ∷ true ∷ false ∷ true ∷ false ∷ false ∷ []
  pub gpos_kerns_itself : choices (record with_gpos { has_kerning = true; has_gpos_kern = true })
      ≡ true ∷ false ∷ false ∷ false ∷ true ∷ false ∷ false ∷ []
  pub another_script : choices (record with_gpos { disable_gpos = true }) ≡ false ∷ false ∷ false ∷ true ∷ true ∷ true ∷ true ∷ []
  pub another_script_kern : choices (record with_gpos { disable_gpos = true; has_gpos_kern = true; has_kerning = true })
      ≡ false ∷ false ∷ true ∷ false ∷ true ∷ true ∷ true ∷ []

pub choices_of_faces : ChoicesOfFaces
unfolding decided
choices_of_faces = record {
  nothing = refl;
  kerx = refl;
  gpos = refl;
  kern = refl;
  gpos_then_kerx = refl;
  gpos_kerns = refl;
  kerx_without_gsub = refl;
  kerx_under_morx = refl;
  kerx_before_kern = refl;
  gpos_and_kern = refl;
  gpos_kerns_itself = refl;
  another_script = refl;
  another_script_kern = refl;
}

pub record ChoicesForMarks : Type 0 where
  pub machine : choices (record with_kern { has_machine_kerning = true }) ≡ false ∷ false ∷ true ∷ false ∷ false ∷ true ∷ true ∷ []
  pub cross : choices (record with_kern { has_cross_kerning = true }) ≡ false ∷ false ∷ true ∷ false ∷ true ∷ false ∷ false ∷ []
  pub machine_unused : choices (record nothing_known { has_machine_kerning = true; has_cross_kerning = true })
      ≡ false ∷ false ∷ false ∷ true ∷ true ∷ true ∷ true ∷ []
  pub morx : choices (record nothing_known { apply_morx = true }) ≡ false ∷ false ∷ false ∷ true ∷ true ∷ true ∷ false ∷ []
  pub not_zeroed : choices (record nothing_known { script_zero_marks = false }) ≡ false ∷ false ∷ false ∷ true ∷ false ∷ true ∷ true ∷ []
  pub not_placed : choices (record nothing_known { script_fallback_mark_positioning = false })
      ≡ false ∷ false ∷ false ∷ true ∷ true ∷ false ∷ true ∷ []

pub choices_for_marks : ChoicesForMarks
unfolding decided
choices_for_marks = record { machine = refl; cross = refl; machine_unused = refl; morx = refl; not_zeroed = refl; not_placed = refl }

pub record DecisionsOfMasks : Type 0 where
  pub frac : (decided (record nothing_known { frac_mask = 8 })).has_frac ≡ true
  pub numr : (decided (record nothing_known { numr_mask = 8 })).has_frac ≡ false
  pub dnom : (decided (record nothing_known { dnom_mask = 8 })).has_frac ≡ false
  pub both_sides : (decided (record nothing_known { numr_mask = 8; dnom_mask = 16 })).has_frac ≡ true
  pub vert : (decided (record nothing_known { vert_mask = 8 })).has_vert ≡ true
  pub no_vert : (decided nothing_known).has_vert ≡ false
  pub mark : (decided (record nothing_known { mark_mask = 8 })).has_gpos_mark ≡ true
  pub no_mark : (decided nothing_known).has_gpos_mark ≡ false
  pub kern : (decided (record nothing_known { kern_mask = 8 })).requested_kerning ≡ true
  pub no_kern : (decided with_kern).requested_kerning ≡ false
  pub trak : (decided (record nothing_known { trak_mask = 8; tables = record no_tables { trak = true } })).apply_trak ≡ true
  pub trak_unasked : (decided (record nothing_known { tables = record no_tables { trak = true } })).apply_trak ≡ false
  pub trak_missing : (decided (record nothing_known { trak_mask = 8 })).apply_trak ≡ false
  pub classes : (decided (record nothing_known { has_glyph_classes = true })).fallback_glyph_classes ≡ false
  pub no_classes : (decided nothing_known).fallback_glyph_classes ≡ true

pub decisions_of_masks : DecisionsOfMasks
unfolding decided
decisions_of_masks = record {
  frac = refl;
  numr = refl;
  dnom = refl;
  both_sides = refl;
  vert = refl;
  no_vert = refl;
  mark = refl;
  no_mark = refl;
  kern = refl;
  no_kern = refl;
  trak = refl;
  trak_unasked = refl;
  trak_missing = refl;
  classes = refl;
  no_classes = refl;
}
