use Rattle.std.proofs.Common.{◌≡◌, ◌∙◌, ℕ, rules, ◌+◌, ◌++◌, [], ◌∷◌, length, ap, sym, subst, arith}
use Rattle.std.proofs.lemmas.Grind.{common_steps}
use Rattle.std.proofs.lemmas.List.{nil_from_length}
use Rattle.std.proofs.lemmas.Str.{IsUtf8-past_char, IsUtf8-string_bytes, chars-nil}
use Rattle.std.specs.Str.{chars, IsUtf8}
use Rattle.std.specs.Str.Iter.{chars_rest}
use Rattle.std.specs.String.{string_bytes}
use Rattle.shape_items.specs.Buffer.{Buffer}
use Rattle.shape_items.specs.Items.{new_item}
use Rattle.utf16_text.specs.Utf16.{utf16_items_from}
use Rattle.utf16_text.proofs.UnitLemmas.{chars-utf16, len_units, settings_step, units_in-lossy, units_step, utf16_items-first, utf16_step, with_more, with_more-none}
use Rattle.utf16_text.proofs.push_utf16.Goals as goal

pub returns-in_err-text-clause-first : goal.returns-in_err-text-clause-first
returns-in_err-text-clause-first c = utf16_items-first c.args.text.now c.type_inv.text

pub returns-in_err-add-clause-first : goal.returns-in_err-add-clause-first
returns-in_err-add-clause-first c = utf16_items-first c.args.text.now c.type_inv.text

pub returns-clause-first : goal.returns-clause-first
returns-clause-first c = utf16_items-first c.args.text.now c.type_inv.text

pub loop-c-init : goal.loop-c-init
loop-c-init c =
    let units = c.args.text.now in
    let rest = chars_rest c.into_iter-c-iterator.result in
    let bytes : rest ≡ string_bytes c.in_ok-text.text =
    ap chars_rest c.into_iter-c-iterator.ensures.into_iter_gives ∙ c.chars-c-items.ensures.rest ∙ c.as_str.ensures.value in
    let spelled = ap chars (bytes ∙ c.in_ok-text.ensures) ∙ chars-utf16 units c.type_inv.text in
    record {
      utf8 = subst IsUtf8 (sym bytes) (IsUtf8-string_bytes c.in_ok-text.text);
      units = rw spelled (omega (arith, units_in-lossy units c.type_inv.text));
      items = ap (λ cs. with_more c.args.buffer.now (utf16_items_from 0 cs)) spelled;
      settings = search rules;
      before = grind (arith, common_steps);
    }

pub overflow_add-cluster : goal.overflow_add-cluster
overflow_add-cluster c =
    let here = c.loop-c.invariant in
    let is = c.in-Some.ensures.steps.0 in
    let one = units_step c.loop-c.buffer c.add.new.self (chars_rest c.loop-c.c-iterator) (chars_rest c.next.new.self) c.in-Some.c c.loop-c.cluster
    c.in_ok-add.ensures.ok here.utf8 is in
    let long = len_units c.in-Some.c c.len_utf16.result c.len_utf16.ensures.bmp c.len_utf16.ensures.surrogate_pair in
    omega (arith, one, long, here.units, c.requires)

pub loop-c-preserved : goal.loop-c-preserved
loop-c-preserved c =
    let here = c.loop-c.invariant in
    let is = c.in-Some.ensures.steps.0 in
    let at = c.loop-c.buffer in
    let next = c.add.new.self in
    let text = chars_rest c.loop-c.c-iterator in
    let rest = chars_rest c.next.new.self in
    let pushed : next ≡ with_more at (new_item c.in-Some.c c.loop-c.cluster ∷ []) = c.in_ok-add.ensures.ok in
    let items = ap (λ (b : Buffer). b.items) pushed in
    let long = len_units c.in-Some.c c.len_utf16.result c.len_utf16.ensures.bmp c.len_utf16.ensures.surrogate_pair in
    record {
      utf8 = IsUtf8-past_char text rest c.in-Some.c here.utf8 is;
      units = omega (arith, units_step at next text rest c.in-Some.c c.loop-c.cluster pushed here.utf8 is, long, here.units);
      items = utf16_step at next text rest c.in-Some.c c.loop-c.cluster pushed here.utf8 is c.len_utf16.result long ∙ here.items;
      settings = settings_step at next text rest c.in-Some.c c.loop-c.cluster pushed c.args.buffer.now here.settings;
      before = grind (arith, common_steps);
    }

pub returns-clause-ok : goal.returns-clause-ok
returns-clause-ok c =
    let none = nil_from_length (chars_rest c.loop-c.c-iterator) c.in-None.ensures.steps.0.0 in
    let over = ap chars none ∙ chars-nil in
    sym (with_more-none c.loop-c.buffer)
    ∙ ap (λ cs. with_more c.loop-c.buffer (utf16_items_from c.loop-c.cluster cs)) (sym over) ∙ c.loop-c.invariant.items
