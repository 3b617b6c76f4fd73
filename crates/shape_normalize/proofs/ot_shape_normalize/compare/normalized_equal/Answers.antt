use Rattle.std.proofs.Common.{◌≡◌, ◌↔◌, OnOk, is_err, false, map, subst, sym, ap, ◌∙◌}
use Rattle.std.specs.Prelude.{IsTrue}
use Rattle.std.proofs.lemmas.Bool.{both_ways}
use Rattle.shape_items.specs.Buffer.{Buffer}
use Rattle.shape_items.specs.Items.{char_of}
use Rattle.shape_normalize.specs.CanonicalForm.{text_of}
use Rattle.shape_normalize.specs.NormalForm.{Normalizes}
use Rattle.shape_plan.specs.Rules.{rules_of}
use Rattle.shape_normalize.proofs.Form.CanonicalFormLemmas.{normalized_decides}
use Rattle.shape_normalize.proofs.ot_shape_normalize.compare.normalized_equal.Goals as goal
use Rattle.shape_normalize.proofs.ot_shape_normalize.compare.normalized_equal.Goals.{then-is_err, else-is_err}

pub returns-clause-ok : goal.returns-clause-ok
returns-clause-ok g c =
    let shaper = g.S.hb_ot_shaper_t in
    let planned = rules_of g.U.hb_unicode_funcs_t.unicode shaper.constants shaper.hooks g.F.hb_font_t.face c.args.plan.now c.args.face.now in
    let both = c.normalize_both-outcome in
    let new_a = c.if-is_err.a in
    let new_b = c.if-is_err.b in
    let is_ok : c.is_err.result ≡ false = c.is_err.ensures.value ∙ ap is_err c.in_ok-outcome.was in
    let kept_a : new_a ≡ both.new.a =
    elim c.if-is_err.branch [ then-is_err w ↦ absurd (both_ways _ is_ok w.if-is_err.true) | else-is_err w ↦ w.a-is ] in
    let kept_b : new_b ≡ both.new.b =
    elim c.if-is_err.branch [ then-is_err w ↦ absurd (both_ways _ is_ok w.if-is_err.true) | else-is_err w ↦ w.b-is ] in
    let first_ok : Normalizes planned c.args.a.now both.new.a = subst (λ r. OnOk r (Normalizes planned c.args.a.now both.new.a)) c.in_ok-outcome.was both.ensures.first in
    let second_ok : Normalizes planned c.args.b.now both.new.b = subst (λ r. OnOk r (Normalizes planned c.args.b.now both.new.b)) c.in_ok-outcome.was both.ensures.second in
    let first : Normalizes planned c.args.a.now new_a = subst (λ (b : Buffer). Normalizes planned c.args.a.now b) (sym kept_a) first_ok in
    let second : Normalizes planned c.args.b.now new_b = subst (λ (b : Buffer). Normalizes planned c.args.b.now b) (sym kept_b) second_ok in
    let text_a : map char_of c.infos.result.now ≡ text_of new_a = ap (map char_of) c.infos.ensures in
    let text_b : map char_of c.infos-2.result.now ≡ text_of new_b = ap (map char_of) c.infos-2.ensures in
    let alike = c.have_same_characters.ensures in
    let equal : IsTrue c.have_same_characters.result ↔ (text_of new_a ≡ text_of new_b) =
    (λ same. sym text_a ∙ alike.0 same ∙ text_b, λ is. alike.1 (text_a ∙ is ∙ sym text_b)) in
    record {
      first = first;
      second = second;
      equal = equal;
      equivalent = λ of_a of_b.
          let made_a = ap text_of first.made in
          let made_b = ap text_of second.made in
          let decides = normalized_decides planned g.met.U.hb_unicode_funcs_t.lawful c.args.a.now c.args.b.now of_a of_b in (
            λ same. decides.0 (sym made_a ∙ equal.0 same ∙ made_b),
            λ equivalent. equal.1 (made_a ∙ decides.1 equivalent ∙ sym made_b),
          );
    }
