use Rattle.std.proofs.Common.{rules, ◌≡◌, ℕ, List, map, ap, sym, ◌∙◌}
use Rattle.shape_common.specs.declared.text_types.Feature.{Feature}
use Rattle.shape_items.specs.Buffer.{Buffer}
use Rattle.shape_buffer.proofs.Steps.ReplaceLemmas.{Outcome-refused}
use Rattle.apple_substitution.specs.ChainRuns.{Source}
use Rattle.apple_substitution.specs.FeatureMap.{requests_of}
use Rattle.apple_substitution.specs.FeatureRanges.{Request, request_of}
use Rattle.apple_substitution.specs.Metamorphosis.{metamorphosed}
use Rattle.apple_substitution.specs.Substitution.{Font, font_of, language_of, substituted}
use Rattle.apple_substitution.proofs.OutcomeLemmas.{outcome_alike}
use Rattle.apple_substitution.proofs.substitution.substitute.Goals as goal

pub returns-in_err-ranges : goal.returns-in_err-ranges
returns-in_err-ranges c = Outcome-refused (substituted (font_of c.args.font.now) c.args.features.now) c.args.buffer.now c.args.buffer.now
    c.from_residual.result (search rules)

pub returns-in_err-language : goal.returns-in_err-language
returns-in_err-language c = Outcome-refused (substituted (font_of c.args.font.now) c.args.features.now) c.args.buffer.now c.args.buffer.now
    c.from_residual-in_err-language.result (search rules)

pub returns : goal.returns
unfolding substituted
returns c =
    let f : Font = font_of c.args.font.now in
    let fs : List Feature = c.args.features.now in
    let b : Buffer = c.args.buffer.now in
    let s : List Request → List ℕ → Source = λ requests language. record {
      morx = f.morx;
      gdef = f.gdef;
      glyphs = f.glyphs;
      requests = requests;
      languages = record { ltag = f.ltag; text = language };
    } in
    let made : map request_of c.as_slice.result.now ≡ requests_of f.feat fs = ap (map request_of) c.as_slice.ensures.value ∙ c.in_ok-ranges.ensures.ok in
    let named : c.as_slice-2.result.now ≡ language_of b = c.as_slice-2.ensures.value ∙ c.in_ok-language.ensures in
    let same : substituted f fs b ≡ metamorphosed (s (map request_of c.as_slice.result.now) c.as_slice-2.result.now) b =
    sym (ap (λ requests. metamorphosed (s requests c.as_slice-2.result.now) b) made
    ∙ ap (λ language. metamorphosed (s (requests_of f.feat fs) language) b) named) in
    outcome_alike (substituted f fs) (metamorphosed (s (map request_of c.as_slice.result.now) c.as_slice-2.result.now)) b c.run_table.new.buffer
    c.run_table.result same c.run_table.ensures.outcome
