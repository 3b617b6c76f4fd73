use Rattle.std.proofs.Common.{◌≡◌, ◌≤◌, ◌+◌, ◌∷◌, [], ◌++◌, length, ap, sym, ◌∙◌, true, arith}
use Rattle.std.proofs.lemmas.Bool.Decides.{nat_tests}
use Rattle.font_bytes.specs.Bytes.{u16_of}
use Rattle.glyf_points.specs.Flags.{has}
use Rattle.glyf_points.specs.Composite.{component_of, component_size}
use Rattle.glyf_points.proofs.ComponentLemmas.{components_step}
use Rattle.glyf_points.proofs.bounded.components_within.Goals as goal

pub loop-i-preserved : goal.loop-i-preserved
loop-i-preserved c =
    let t = c.args.glyph.now in
    let at = c.loop-i.at in
    let flags : c.u16_at-flags.result ≡ u16_of t at = c.u16_at-flags.ensures in
    let size : c.component_size-size.result ≡ component_size (u16_of t at) = c.component_size-size.ensures.value ∙ ap component_size flags in
    let there : c.component_at.result ≡ component_of t at (u16_of t at) = c.component_at.ensures ∙ ap (component_of t at) flags in
    let more : has c.u16_at-flags.result 0x20 ≡ true = grind (arith, nat_tests, c.if-flags-eq0.false) in
    let goes_on : has (u16_of t at) 0x20 ≡ true = ap (λ f. has f 0x20) (sym flags) ∙ more in
    let fits : at + component_size (u16_of t at) ≤ length t = omega (arith, size, c.if-glyph-at.false) in
    let step = components_step t c.loop-i.components.items c.args.most c.loop-i._i at c.loop-i-test.true fits goes_on in
    let pushed : c.push.new.self.items ≡ c.loop-i.components.items ++ component_of t at (u16_of t at) ∷ [] =
    c.push.ensures.items ∙ ap (λ x. c.loop-i.components.items ++ x ∷ []) there in
    record {
      each = c.push.ensures.len ∙ ap (λ n. n + 1) c.loop-i.invariant.each;
      near = omega arith;
      whole = rw pushed (rw size (sym step ∙ c.loop-i.invariant.whole));
    }
