use Rattle.std.proofs.Common.{◌≡◌, inl, refl}
use Rattle.shape_pipeline.specs.Order.{RunOrdersClusters}
use Rattle.shape_plan.specs.Preservation.{RunPreservesFlags}
use Rattle.shape_plan.specs.Run.{Run}
use Rattle.font_shaping.proofs.PlanLemmas.{of_plan-has}
use Rattle.font_shaping.proofs.each_shaper.plans_preserve.Goals as goal

pub returns-clause-unicode : goal.returns-clause-unicode
returns-clause-unicode g c = λ plan face.
    of_plan-has (λ (run : Run). run.unicode ≡ g.U.hb_unicode_funcs_t.unicode) _ plan (record {
      default = λ p. refl;
      arabic = λ p. refl;
      hangul = λ p. refl;
      hebrew = λ p. refl;
      thai = λ p. refl;
      universal = λ p. refl;
      khmer = λ p. refl;
      myanmar = λ p. refl;
      zawgyi = λ p. refl;
      indic = λ p. refl;
    })

pub returns-clause-clusters : goal.returns-clause-clusters
returns-clause-clusters g c = λ engine plan face.
    of_plan-has RunOrdersClusters _ plan (record {
      default = λ p. inl (c.runs_without_hooks_have_no_obligations.ensures p face refl (λ shaper. refl) (engine.clusters p.ot_map face)
          (engine.flags p.ot_map face)).clusters;
      arabic = λ p. inl (c.arabic_runs_preserve.ensures.clusters p face (engine.clusters p.ot_map face));
      hangul = λ p. inl (c.hangul_runs_preserve.ensures.clusters p face (engine.clusters p.ot_map face));
      hebrew = λ p. inl (c.hebrew_runs_preserve.ensures.clusters p face (engine.clusters p.ot_map face));
      thai = λ p. inl (c.thai_runs_preserve.ensures.clusters p face (engine.clusters p.ot_map face));
      universal = λ p. inl (c.universal_runs_preserve.ensures.clusters p face (engine.clusters p.ot_map face));
      khmer = λ p. inl (c.khmer_runs_preserve.ensures.clusters p face (engine.clusters p.ot_map face));
      myanmar = λ p. inl (c.myanmar_runs_preserve.ensures.clusters p face (engine.clusters p.ot_map face));
      zawgyi = λ p. inl (c.zawgyi_runs_preserve.ensures.clusters p face (engine.clusters p.ot_map face));
      indic = λ p. c.indic_runs_preserve.ensures.clusters p face (engine.clusters p.ot_map face);
    })

pub returns-clause-flags : goal.returns-clause-flags
returns-clause-flags g c = λ engine plan face.
    of_plan-has RunPreservesFlags _ plan (record {
      default = λ p. (c.runs_without_hooks_have_no_obligations.ensures p face refl (λ shaper. refl) (engine.clusters p.ot_map face)
          (engine.flags p.ot_map face)).flags;
      arabic = λ p. c.arabic_runs_preserve.ensures.flags p face (engine.flags p.ot_map face);
      hangul = λ p. c.hangul_runs_preserve.ensures.flags p face (engine.flags p.ot_map face);
      hebrew = λ p. c.hebrew_runs_preserve.ensures.flags p face (engine.flags p.ot_map face);
      thai = λ p. c.thai_runs_preserve.ensures.flags p face (engine.flags p.ot_map face);
      universal = λ p. c.universal_runs_preserve.ensures.flags p face (engine.flags p.ot_map face);
      khmer = λ p. c.khmer_runs_preserve.ensures.flags p face (engine.flags p.ot_map face);
      myanmar = λ p. c.myanmar_runs_preserve.ensures.flags p face (engine.flags p.ot_map face);
      zawgyi = λ p. c.zawgyi_runs_preserve.ensures.flags p face (engine.flags p.ot_map face);
      indic = λ p. c.indic_runs_preserve.ensures.flags p face (engine.flags p.ot_map face);
    })
