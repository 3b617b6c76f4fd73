-- What holds of each plan's decisions, and which texts a plan fits, worked by hand.
use Rattle.std.specs.Prelude.{ℕ, Bool, true, false, [], Option, Some, None}
use Rattle.shape_items.specs.Buffer.{Buffer, new_buffer}
use Rattle.shape_common.specs.declared.text_types.Direction.{Direction}
use Rattle.shape_common.specs.declared.text_types.Direction.TheVariants.{Invalid, LeftToRight, RightToLeft}
use Rattle.shape_common.specs.declared.text_types.Script.{Script}
use Rattle.shape_plan.specs.Decisions.{decided, MasksAreFeatures, PositionsByOneTable, AreLawful}
use Rattle.shape_plan.specs.Plan.{Plan, Fits}
use Rattle.shape_plan.specs.Worked.Decisions.{nothing_known}
use Rattle.shape_plan.specs.declared.decisions.Decisions.{Decisions}
use Rattle.shape_prepare.specs.Worked.Unicode.{worked_unicode, latin, hebrew}

-- ---- masks

abbrev pub with_masks : ℕ → ℕ → ℕ → ℕ → ℕ → ℕ → Decisions
with_masks frac numr dnom rtlm kern trak = record (decided nothing_known) {
  frac_mask = frac;
  numr_mask = numr;
  dnom_mask = dnom;
  rtlm_mask = rtlm;
  kern_mask = kern;
  trak_mask = trak;
}

abbrev pub AreFeatures : ℕ → ℕ → ℕ → ℕ → ℕ → ℕ → Type 0
AreFeatures frac numr dnom rtlm kern trak = MasksAreFeatures (with_masks frac numr dnom rtlm kern trak)

pub record MasksOfPlans : Type 0 where
  pub free : AreFeatures 8 16 32 0 248 4294967288
  pub frac : AreFeatures 1 0 0 0 0 0 → ⊥
  pub numr : AreFeatures 0 2 0 0 0 0 → ⊥
  pub dnom : AreFeatures 0 0 4 0 0 0 → ⊥
  pub rtlm : AreFeatures 0 0 0 9 0 0 → ⊥
  pub kern : AreFeatures 0 0 0 0 10 0 → ⊥
  pub trak : AreFeatures 0 0 0 0 0 12 → ⊥

-- ---- tables

-- whether GPOS, kerx and kern are applied, and kerning falls back
abbrev pub with_tables : Bool → Bool → Bool → Bool → Decisions
with_tables gpos kerx kern fallback = record (decided nothing_known) {
  apply_gpos = gpos;
  apply_kerx = kerx;
  apply_kern = kern;
  apply_fallback_kern = fallback;
}

abbrev pub IsByOne : Bool → Bool → Bool → Bool → Type 0
IsByOne gpos kerx kern fallback = PositionsByOneTable (with_tables gpos kerx kern fallback)

pub record TablesOfPlans : Type 0 where
  pub gpos : IsByOne true false false false
  pub kerx : IsByOne false true false false
  pub kern : IsByOne false false true false
  pub none : IsByOne false false false true
  pub gpos_with_kern : IsByOne true false true false
  pub gpos_with_kerx : IsByOne true true false false
  pub nothing_at_all : IsByOne false false false false → ⊥
  pub beside_gpos : IsByOne true false false true → ⊥
  pub beside_kerx : IsByOne false true false true → ⊥
  pub beside_kern : IsByOne false false true true → ⊥
  pub two_kernings : IsByOne false true true false → ⊥

-- ---- texts

abbrev pub unknown : Option Script
unknown = Some (record { 0 = record { 0 = 0x5A7A7A7A } })

abbrev pub plan_for : Direction → Option Script → Plan ℕ ℕ ℕ
plan_for direction script = record {
  direction = direction;
  script = script;
  shaper = None;
  ot_map = 0;
  decisions = decided nothing_known;
  user_features = [];
  shaper_data = None;
}

abbrev pub text_with : Direction → Option Script → Buffer
text_with direction script = record new_buffer { direction = direction; script = script }

abbrev pub FitsText : Direction → Option Script → Direction → Option Script → Type 0
FitsText direction script text_direction text_script =
    Fits worked_unicode (plan_for direction script) (text_with text_direction text_script)

pub record TextsOfPlans : Type 0 where
  pub same : FitsText LeftToRight latin LeftToRight latin
  -- Hebrew runs to the left if nothing is set, and a text without a script to the right
  pub guessed : FitsText RightToLeft hebrew Invalid hebrew
  pub guessed_without_script : FitsText LeftToRight None Invalid None
  pub unknown_is_none : FitsText LeftToRight None LeftToRight unknown
  pub none_is_unknown : FitsText LeftToRight unknown LeftToRight None
  pub other_direction : FitsText LeftToRight latin RightToLeft latin → ⊥
  pub not_the_guessed_one : FitsText LeftToRight hebrew Invalid hebrew → ⊥
  pub other_script : FitsText LeftToRight latin LeftToRight hebrew → ⊥
  pub without_script : FitsText LeftToRight latin LeftToRight None → ⊥

pub record WorkedFits : Type 0 where
  pub masks : MasksOfPlans
  pub tables : TablesOfPlans
  pub both : (d : Decisions) → MasksAreFeatures d → PositionsByOneTable d → AreLawful d
  pub has_masks : (d : Decisions) → AreLawful d → MasksAreFeatures d
  pub has_tables : (d : Decisions) → AreLawful d → PositionsByOneTable d
  pub texts : TextsOfPlans
