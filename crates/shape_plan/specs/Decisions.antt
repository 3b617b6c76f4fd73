-- What a plan decides before it sees a text, each decision by itself.
use Rattle.std.specs.Prelude.{◌≡◌, ◌==◌, ◌↔◌, ℕ, Bool, false, ◌&&◌, ◌||◌, not, IsTrue}
use Rattle.shape_buffer.specs.Layout.{HasNoDefinedFlag}
use Rattle.shape_plan.specs.declared.decisions.Decisions.{Decisions}
use Rattle.shape_plan.specs.declared.decisions.PlanFacts.{PlanFacts}

-- a feature has lookups if its mask isn't 0
abbrev pub is_on : ℕ → Bool
is_on mask = not (mask == 0)

-- fractions have their own feature, or one for each side
abbrev pub has_frac : PlanFacts → Bool
has_frac f = is_on f.frac_mask || (is_on f.numr_mask && is_on f.dnom_mask)

-- tracking is asked for, and the face has its table
abbrev pub apply_trak : PlanFacts → Bool
apply_trak f = is_on f.trak_mask && f.tables.trak

-- GSUB substitutes if morx doesn't
abbrev pub has_gsub : PlanFacts → Bool
has_gsub f = not f.apply_morx && f.tables.gsub

abbrev pub has_gpos : PlanFacts → Bool
has_gpos f = not f.disable_gpos && f.tables.gpos

-- kerx goes before GPOS, unless GSUB and GPOS go together
abbrev pub prefers_kerx : PlanFacts → Bool
prefers_kerx f = f.tables.kerx && not (has_gsub f && has_gpos f)

abbrev pub apply_gpos : PlanFacts → Bool
apply_gpos f = not (prefers_kerx f) && has_gpos f

-- neither kerx nor a feature of GPOS kerns yet
abbrev pub lacks_kerning : PlanFacts → Bool
lacks_kerning f = not (prefers_kerx f) && (not f.has_gpos_kern || not (apply_gpos f))

-- kerx if it is preferred, or if kerning is lacking
abbrev pub apply_kerx : PlanFacts → Bool
apply_kerx f = prefers_kerx f || (lacks_kerning f && f.tables.kerx)

-- the table kern if kerning is lacking and there is no kerx
abbrev pub apply_kern : PlanFacts → Bool
apply_kern f = lacks_kerning f && (not f.tables.kerx && f.has_kerning)

-- none of the three
abbrev pub apply_fallback_kern : PlanFacts → Bool
apply_fallback_kern f = not (apply_gpos f || (apply_kerx f || apply_kern f))

-- as the given shaper prefers; but marks keep their advances under kerx, and under kern with a state machine
abbrev pub zero_marks : PlanFacts → Bool
zero_marks f = f.script_zero_marks && (not (apply_kerx f) && (not (apply_kern f) || not f.has_machine_kerning))

-- nothing places marks: neither GPOS nor kerx nor a kern that moves glyphs across the line
abbrev pub adjusts : PlanFacts → Bool
adjusts f = not (apply_gpos f) && (not (apply_kerx f) && (not (apply_kern f) || not f.has_cross_kerning))

-- if nothing places them and the given shaper asks for it
abbrev pub fallback_mark_positioning : PlanFacts → Bool
fallback_mark_positioning f = adjusts f && f.script_fallback_mark_positioning

-- if nothing places them, except for faces with morx, which count on it
abbrev pub adjust_when_zeroing : PlanFacts → Bool
adjust_when_zeroing f = adjusts f && not f.apply_morx

-- all of them
unfoldable pub decided : PlanFacts → Decisions
decided f = record {
  apply_morx = f.apply_morx;
  frac_mask = f.frac_mask;
  numr_mask = f.numr_mask;
  dnom_mask = f.dnom_mask;
  rtlm_mask = f.rtlm_mask;
  kern_mask = f.kern_mask;
  trak_mask = f.trak_mask;
  has_frac = has_frac f;
  has_vert = is_on f.vert_mask;
  has_gpos_mark = is_on f.mark_mask;
  requested_kerning = is_on f.kern_mask;
  apply_trak = apply_trak f;
  fallback_glyph_classes = not f.has_glyph_classes;
  apply_gpos = apply_gpos f;
  apply_kern = apply_kern f;
  apply_kerx = apply_kerx f;
  apply_fallback_kern = apply_fallback_kern f;
  zero_marks = zero_marks f;
  fallback_mark_positioning = fallback_mark_positioning f;
  adjust_mark_positioning_when_zeroing = adjust_when_zeroing f;
}

-- ---- what holds of every plan's decisions

-- no mask of a plan has a defined flag bit
pub record MasksAreFeatures (d : Decisions) : Type 0 where
  pub frac : HasNoDefinedFlag d.frac_mask
  pub numr : HasNoDefinedFlag d.numr_mask
  pub dnom : HasNoDefinedFlag d.dnom_mask
  pub rtlm : HasNoDefinedFlag d.rtlm_mask
  pub kern : HasNoDefinedFlag d.kern_mask
  pub trak : HasNoDefinedFlag d.trak_mask

-- which of GPOS and kerx is to run, the rule of the steps that position: GPOS alone if both are applied
abbrev pub runs_gpos : Decisions → Bool
runs_gpos d = d.apply_gpos

abbrev pub runs_kerx : Decisions → Bool
runs_kerx d = not d.apply_gpos && d.apply_kerx

-- kerning falls back exactly when no table positions; kern and kerx are never both applied. `one_table` holds of any
-- decisions, by the two definitions above; that the steps call at most one of GPOS and kerx is the law `one_table_runs`
-- of shape_glyphs
pub record PositionsByOneTable (d : Decisions) : Type 0 where
  pub fallback : IsTrue d.apply_fallback_kern ↔ ((d.apply_gpos ≡ false) × (d.apply_kerx ≡ false) × (d.apply_kern ≡ false))
  pub one_kerning : (d.apply_kern && d.apply_kerx) ≡ false
  pub one_table : (runs_gpos d && runs_kerx d) ≡ false

-- both
pub record AreLawful (d : Decisions) : Type 0 where
  pub masks : MasksAreFeatures d
  pub tables : PositionsByOneTable d
