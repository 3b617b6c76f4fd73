use Rattle.std.proofs.Common.{refl}
use Rattle.font_shaping.proofs.PlanLemmas.{of_plan-has}
use Rattle.font_shaping.specs.RunTries.{NeverRaisesBy}
use Rattle.font_shaping.proofs.each_hook.plans_never_raise.Goals as goal

pub returns : goal.returns
returns g c = λ plan face.
    of_plan-has (NeverRaisesBy g.M.hb_ot_layout_t.lookups face) _ plan (record {
      default = λ p. record { map = p.ot_map; lookups = refl; hooks = c.default_runs_never_raise.ensures p face };
      arabic = λ p. record { map = p.ot_map; lookups = refl; hooks = c.arabic_runs_never_raise.ensures p face };
      hangul = λ p. record { map = p.ot_map; lookups = refl; hooks = c.hangul_runs_never_raise.ensures p face };
      hebrew = λ p. record { map = p.ot_map; lookups = refl; hooks = c.hebrew_runs_never_raise.ensures p face };
      thai = λ p. record { map = p.ot_map; lookups = refl; hooks = c.thai_runs_never_raise.ensures p face };
      universal = λ p. record { map = p.ot_map; lookups = refl; hooks = c.universal_runs_never_raise.ensures p face };
      khmer = λ p. record { map = p.ot_map; lookups = refl; hooks = c.khmer_runs_never_raise.ensures p face };
      myanmar = λ p. record { map = p.ot_map; lookups = refl; hooks = c.myanmar_runs_never_raise.ensures p face };
      zawgyi = λ p. record { map = p.ot_map; lookups = refl; hooks = c.zawgyi_runs_never_raise.ensures p face };
      indic = λ p. record { map = p.ot_map; lookups = refl; hooks = c.indic_runs_never_raise.ensures p face };
    })
