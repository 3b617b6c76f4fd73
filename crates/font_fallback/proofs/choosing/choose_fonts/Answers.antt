use Rattle.std.proofs.Common.{◌≡◌, ◌+◌, [], ◌∷◌, ◌++◌, length, get_or, map, None, false, true, sym, ap, subst, ◌∙◌, arith, of_calls, rules, inl, inr}
use Rattle.std.proofs.lemmas.Grind.{common_steps}
use Rattle.std.proofs.lemmas.List.{with_items_is, get_or-replicate, get_or-map, length-map, length_push, map_push}
use Rattle.std.specs.List.{list_any}
use Rattle.std.specs.Prelude.{is_none}
use Rattle.font_fallback.specs.Choice.{AreSpans, no_tries, first_with, font_in, font_of, found_in, has_by, has_of, rows_of}
use Rattle.font_fallback.proofs.ChoiceLemmas.{AreTries-push, HaveAll-none, first_with-push, one_more_needed}
use Rattle.font_fallback.proofs.SpanLemmas.{AreSpans-along}
use Rattle.font_fallback.proofs.choosing.choose_fonts.Goals as goal
use Rattle.font_fallback.proofs.choosing.choose_fonts.Goals.{then-loop-found-test+else-is_missed, else-loop-found-test}

pub loop-found-init : goal.loop-found-init
loop-found-init g c = record {
  each = grind (arith, common_steps);
  found_first = λ k lt. grind (arith, common_steps, get_or-replicate);
  within = search rules;
  callable = search rules;
  tries = rw c.new-tried.ensures.items no_tries;
  no_more = λ fewer last e all.
      let empty : length (rows_of c.new-tried.result.items) ≡ 0 =
      length-map c.new-tried.result.items has_of ∙ ap length c.new-tried.ensures.items in
      absurd (omega (arith, empty, length_push fewer last, ap length e));
}

pub loop-found-preserved : goal.loop-found-preserved
loop-found-preserved g c =
    let v = c.loop-found.found in
    let before = c.loop-found.invariant in
    let fonts = c.give.new.fonts in
    let tried = c.loop-found.tried.items in
    let rows = rows_of tried in
    let row = has_of c.in-Ok.one in
    let font = c.len-font.result in
    let has = c.deref-in-loop-found.result.now in
    let each : length fonts ≡ length v.items = c.give.ensures.length ∙ ap length c.deref_mut.ensures.value in
    let same = with_items_is v fonts (each ∙ sym v.ok.0) in
    let pushed : rows_of c.push.new.self.items ≡ rows ++ row ∷ [] =
    ap rows_of c.in_ok-push.ensures.items ∙ map_push has_of tried c.in-Ok.one in
    let count : font ≡ length tried = omega (arith, c.len-font.ensures, c.loop-found.tried.ok.0) in
    let number : font ≡ 0 + length rows = omega (arith, count, length-map tried has_of) in
    let missed : list_any is_none v.items ≡ true =
    sym (ap (list_any is_none) c.deref.ensures.value) ∙ sym c.is_missed.ensures ∙ c.if-is_missed.true in
    record {
      each = ap length same ∙ each ∙ before.each;
      found_first = λ k lt.
          ap (λ l. get_or l k None) same
          ∙ c.give.ensures.given k (omega (arith, each, before.each))
          ∙ ap (λ l. found_in (get_or l k None) font (has_by has k)) c.deref_mut.ensures.value
          ∙ ap (λ f. found_in f font (has_by has k)) (before.found_first k lt)
          ∙ ap (λ n. found_in (first_with 0 rows k) n (has_by has k)) number
          ∙ ap (λ r. found_in (first_with 0 rows k) (0 + length rows) (has_by r k)) c.deref-in-loop-found.ensures.value
          ∙ sym (first_with-push 0 rows row k)
          ∙ ap (λ r. first_with 0 r k) (sym pushed);
      within = omega (arith, c.in_ok-push.ensures.len, c.len.ensures, c.loop-found-test.true);
      callable = search of_calls;
      tries = rw c.in_ok-push.ensures.items (AreTries-push font before.tries (omega (arith, count)) c.in-Ok.ensures);
      no_more = λ fewer last e all.
          one_more_needed v.items rows c.args.clusters before.each before.found_first missed row fewer last (sym pushed ∙ e) all;
    }

pub returns-clause-enough : goal.returns-clause-enough
returns-clause-enough g c =
    let end = c.loop-found.invariant in
    let found = c.loop-found.found.items in
    let tried = c.loop-found.tried.items in
    let rows = rows_of tried in
    let shown = c.in_ok-shown.shown.items in
    let count : length rows ≡ c.loop-found.tried.len = length-map tried has_of ∙ sym c.loop-found.tried.ok.0 in
    let fonts : shown ≡ map font_in found = c.in_ok-shown.ensures ∙ ap (map font_in) c.deref-2.ensures.value in
    let each : length shown ≡ c.args.clusters = ap length fonts ∙ length-map found font_in ∙ end.each in
    record {
      spans_of =
          AreSpans-along (λ k. get_or shown k 0) (font_of rows) c.args.clusters 0 c.in_ok-spans.spans.items
          (λ k lt. ap (λ l. get_or l k 0) fonts ∙ get_or-map font_in found k None 0 (omega (arith, end.each)) ∙ ap font_in (end.found_first k lt))
          (subst (λ n. AreSpans (λ k. get_or shown k 0) 0 n c.in_ok-spans.spans.items) each
          (subst (λ l. AreSpans (λ k. get_or l k 0) 0 (length l) c.in_ok-spans.spans.items) c.deref-3.ensures.value c.in_ok-spans.ensures));
      within = omega (arith, end.within, count);
      enough = elim c.loop-found-test.branch [
        | then-loop-found-test+else-is_missed w ↦
            let none : list_any is_none found ≡ false =
            sym (ap (list_any is_none) w.deref.ensures.value) ∙ sym w.is_missed.ensures ∙ w.if-is_missed.false in
            inr (HaveAll-none found rows c.args.clusters end.each end.found_first none)
        | else-loop-found-test w ↦ inl (omega (arith, count, end.within, c.len.ensures, w.loop-found-test.false))
      ];
      no_more = end.no_more;
    }
