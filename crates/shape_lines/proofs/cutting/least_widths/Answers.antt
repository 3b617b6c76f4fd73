use Rattle.std.proofs.Common.{◌≡◌, ◌-◌, ◌<◌, ◌≤◌, ◌^◌, length, pos, [], ◌∷◌, ◌++◌, drop, reverse, sym, ap, ap₂, false, subst, ◌∙◌, arith, rules, FitsSigned, to_z, of_z}
use Rattle.std.proofs.lemmas.Int.{to_z-of_z}
use Rattle.shape_lines.specs.Pieces.{pieces_of, AreNarrow}
use Rattle.shape_lines.specs.Walked.{least, leasts, IsSmall}
use Rattle.shape_lines.proofs.PieceLemmas.{length-pieces_of}
use Rattle.shape_lines.proofs.LeastLemmas.{IsSmall-rest, least-more, leasts-more, narrow-more, drop_all}
use Rattle.shape_lines.proofs.cutting.least_widths.Goals as goal
use mir.Syntax.{w128}

pub loop-place-init : goal.loop-place-init
loop-place-init c =
    let ps = pieces_of c.args.glyphs.now in
    let none = drop_all ps c.len-place.result (c.len-place.ensures ∙ sym (length-pieces_of c.args.glyphs.now)) in
    record {
      on_is = sym (ap least none);
      widths_are = c.in_ok-widths.ensures.items ∙ sym (ap (λ l. reverse (leasts l)) none);
      narrow = subst AreNarrow (sym none) tt;
    }

pub least_on-on-requires-clause-small : goal.least_on-on-requires-clause-small
least_on-on-requires-clause-small c =
    let long = length-pieces_of c.args.glyphs.now in
    let few : length (pieces_of c.args.glyphs.now) < 2 ^ 64 = omega (arith, long, c.len-place.ensures, c.len-place.type_inv) in
    subst IsSmall (sym c.loop-place.invariant.on_is) (IsSmall-rest (pieces_of c.args.glyphs.now) c.loop-place.place few c.loop-place.invariant.narrow)

pub loop-place-preserved : goal.loop-place-preserved
loop-place-preserved c =
    let ps = pieces_of c.args.glyphs.now in
    let n = c.loop-place.place in
    let long = length-pieces_of c.args.glyphs.now in
    let p = c.piece_at.result in
    let fits : FitsSigned w128 c.least_on-on.result = search rules in
    let le : n ≤ length ps = omega (arith, long, c.loop-place.auto.place, c.len-place.ensures) in
    let on : to_z w128 (of_z w128 c.least_on-on.result) ≡ least (drop (n - 1) ps) = to_z-of_z w128 c.least_on-on.result fits
    ∙ c.least_on-on.ensures
    ∙ least-more ps n p _ c.loop-place-test.true le c.piece_at.ensures.value c.loop-place.invariant.on_is in
    record {
      on_is = on;
      widths_are = c.in_ok-push.ensures.items ∙ ap₂ (λ l x. l ++ x ∷ []) c.loop-place.invariant.widths_are on
          ∙ sym (leasts-more ps n p c.loop-place-test.true le);
      narrow = narrow-more ps n p c.loop-place-test.true le c.piece_at.ensures.value c.piece_at.ensures.narrow c.loop-place.invariant.narrow;
    }
