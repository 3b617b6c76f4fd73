use Rattle.std.proofs.Common.{◌≡◌, ◌∙◌, map, refl, ap, sym, subst, arith}
use Rattle.opentype_layout.specs.Fonts.{IsFaceOf, units_of}
use Rattle.c_runs.specs.Numbers.{code_of, feature_of_c}
use Rattle.c_runs.proofs.OutcomeLemmas.{not-zero, serves-code, serves-none}
use Rattle.luthgarn_c.proofs.shape_bytes.Goals as goal

pub returns-in-Ok : goal.returns-in-Ok
returns-in-Ok c =
    let some = not-zero (units_of c.args.font.now c.args.index) c.in-Some.ensures.found in
    let s = c.in-Ok.ensures.ok in
    let codes = serves-code _ _ _ _ _ _ c.in-Ok.outcome s.serves in
    record {
      font = (λ is. absurd (codes.0 is), λ is. absurd (some is));
      untouched = λ is. absurd (some is);
      serves = λ _. record {
        face = s.face;
        is_face = subst (IsFaceOf c.args.font.now c.args.index) (sym s.is_face) c.in-Some.ensures.face;
        features = s.features;
        features_are = s.features_are;
        serves = s.serves;
      };
      within = s.serves.within;
      done = codes.1;
    }

pub returns-in-Err : goal.returns-in-Err
returns-in-Err c =
    let some = not-zero (units_of c.args.font.now c.args.index) c.in-Some.ensures.found in
    let code : c.refused-in-Err.result.code ≡ 1 = c.refused-in-Err.ensures.code ∙ ap code_of c.in-Err.ensures.memory in
    let none = c.refused-in-Err.ensures.runs in
    let zero = c.refused-in-Err.ensures.glyphs in
    let same = c.in-Err.ensures.same in
    record {
      font = (λ is. absurd (omega (arith, is, code)), λ is. absurd (some is));
      untouched = λ is. absurd (some is);
      serves = λ _. record {
        face = c.in-Some.face;
        is_face = c.in-Some.ensures.face;
        features = map feature_of_c c.args.features.now;
        features_are = refl;
        serves = serves-none _ _ _ _ _ _ _ same.0 same.1 code none zero;
      };
      within = (omega (arith, none), omega (arith, zero));
      done = λ is. absurd (omega (arith, is, code));
    }
