-- The categories of the grammars are numbered as those of the code: without gaps, from 0 on.
use Rattle.std.specs.Prelude.{◌≡◌, ℕ, zero, suc, ◌+◌, List, [], ◌∷◌}
use Rattle.syllables.specs.IndicCategories as indic
use Rattle.syllables.specs.UniversalCategories as universal
use Rattle.syllables.specs.declared.categories.indic.TheConstants as indic_code
use Rattle.syllables.specs.declared.categories.universal.TheConstants as universal_code

-- so many numbers from one on
abbrev pub numbers_from : (first count : ℕ) → List ℕ
numbers_from first zero = []
numbers_from first (suc n) = first ∷ numbers_from (first + 1) n

abbrev pub universal_categories : List ℕ
universal_categories =
    (universal.O ∷ universal.B ∷ universal.N ∷ universal.GB ∷ universal.CGJ ∷ universal.SUB ∷ universal.H ∷
    universal.HN ∷ universal.ZWNJ ∷ universal.WJ ∷ universal.R ∷ universal.VPre ∷ universal.VMPre ∷ universal.FAbv ∷
    universal.FBlw ∷ universal.FPst ∷ universal.MAbv ∷ universal.MBlw ∷ universal.MPst ∷ universal.MPre ∷
    universal.CMAbv ∷ universal.CMBlw ∷ universal.VAbv ∷ universal.VBlw ∷ universal.VPst ∷ universal.VMAbv ∷
    universal.VMBlw ∷ universal.VMPst ∷ universal.SMAbv ∷ universal.SMBlw ∷ universal.CS ∷ universal.IS ∷
    universal.FMAbv ∷ universal.FMBlw ∷ universal.FMPst ∷ universal.Sk ∷ universal.G ∷ universal.J ∷ universal.SB ∷
    universal.SE ∷ universal.HVM ∷ universal.HM ∷ universal.HR ∷ universal.RK ∷ [])

abbrev pub universal_constants : List ℕ
universal_constants =
    (universal_code.O ∷ universal_code.B ∷ universal_code.N ∷ universal_code.GB ∷ universal_code.CGJ ∷
    universal_code.SUB ∷ universal_code.H ∷ universal_code.HN ∷ universal_code.ZWNJ ∷ universal_code.WJ ∷
    universal_code.R ∷ universal_code.VPRE ∷ universal_code.VMPRE ∷ universal_code.FABV ∷ universal_code.FBLW ∷
    universal_code.FPST ∷ universal_code.MABV ∷ universal_code.MBLW ∷ universal_code.MPST ∷ universal_code.MPRE ∷
    universal_code.CMABV ∷ universal_code.CMBLW ∷ universal_code.VABV ∷ universal_code.VBLW ∷ universal_code.VPST ∷
    universal_code.VMABV ∷ universal_code.VMBLW ∷ universal_code.VMPST ∷ universal_code.SMABV ∷ universal_code.SMBLW
    ∷ universal_code.CS ∷ universal_code.IS ∷ universal_code.FMABV ∷ universal_code.FMBLW ∷ universal_code.FMPST ∷
    universal_code.SK ∷ universal_code.G ∷ universal_code.J ∷ universal_code.SB ∷ universal_code.SE ∷
    universal_code.HVM ∷ universal_code.HM ∷ universal_code.HR ∷ universal_code.RK ∷ [])

abbrev pub indic_categories : List ℕ
indic_categories =
    (indic.X ∷ indic.C ∷ indic.V ∷ indic.N ∷ indic.H ∷ indic.ZWNJ ∷ indic.ZWJ ∷ indic.M ∷ indic.SM ∷ indic.A ∷
    indic.PLACEHOLDER ∷ indic.DOTTED_CIRCLE ∷ indic.RS ∷ indic.MPst ∷ indic.Repha ∷ indic.Ra ∷ indic.CM ∷
    indic.Symbol ∷ indic.CS ∷ indic.SMPst ∷ indic.VAbv ∷ indic.VBlw ∷ indic.VPre ∷ indic.VPst ∷ indic.Robatic ∷
    indic.Xgroup ∷ indic.Ygroup ∷ indic.Asat ∷ indic.MH ∷ indic.MR ∷ indic.MW ∷ indic.MY ∷ indic.PT ∷ indic.VS ∷
    indic.ML ∷ [])

abbrev pub indic_constants : List ℕ
indic_constants =
    (indic_code.X ∷ indic_code.C ∷ indic_code.V ∷ indic_code.N ∷ indic_code.H ∷ indic_code.ZWNJ ∷ indic_code.ZWJ ∷
    indic_code.M ∷ indic_code.SM ∷ indic_code.A ∷ indic_code.PLACEHOLDER ∷ indic_code.DOTTED_CIRCLE ∷ indic_code.RS
    ∷ indic_code.MPST ∷ indic_code.REPHA ∷ indic_code.RA ∷ indic_code.CM ∷ indic_code.SYMBOL ∷ indic_code.CS ∷
    indic_code.SMPST ∷ indic_code.VABV ∷ indic_code.VBLW ∷ indic_code.VPRE ∷ indic_code.VPST ∷ indic_code.ROBATIC ∷
    indic_code.XGROUP ∷ indic_code.YGROUP ∷ indic_code.ASAT ∷ indic_code.MH ∷ indic_code.MR ∷ indic_code.MW ∷
    indic_code.MY ∷ indic_code.PT ∷ indic_code.VS ∷ indic_code.ML ∷ [])

pub record CategoriesAreNumbered : Type 0 where
  pub universal : universal_categories ≡ numbers_from 0 44
  pub universal_code : universal_constants ≡ universal_categories
  pub indic : indic_categories ≡ numbers_from 0 35
  pub indic_code : indic_constants ≡ indic_categories
