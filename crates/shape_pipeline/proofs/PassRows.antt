-- The rows of texts that are prepared, normalised and shaped.
use Rattle.std.proofs.Common.{◌≡◌, length, inl, inr, refl, ap, arith}
use Rattle.shape_items.specs.Buffer.{new_buffer}
use Rattle.shape_common.specs.declared.text_types.Direction.{Direction}
use Rattle.shape_plan.specs.Run.{Run}
use Rattle.shape_pipeline.specs.Shaped.{HasItems}
use Rattle.shape_pipeline.specs.Worked.Passes.{one_item, TextsPrepared, TextsShaped, ListsOfGlyphs, LimitsPassed, data_of_texts, WorkedPasses}

some_items : HasItems one_item
some_items e = let no : 1 ≡ 0 = ap length e in omega (arith, no)

no_items : HasItems new_buffer → ⊥
no_items has = has refl

module _ (run : Run) (target : Direction) where
  texts_prepared : TextsPrepared run target
  texts_prepared = record {
    made = λ new is. is.made;
    within = λ new is. is.within;
    limit = λ new is. is.limit some_items;
    each_step = λ new is. is.counted some_items;
    none = record {
      made = refl;
      within = omega arith;
      limit = λ has. absurd (no_items has);
      counted = λ has. absurd (no_items has);
    };
    none_stays = λ new is. is.made;
  }

  texts_shaped : TextsShaped run target
  texts_shaped = record {
    made = λ new is. is.made;
    within = λ new is. is.within;
    each_step = λ new is. is.counted some_items;
    none = record { made = refl; within = omega arith; counted = λ has. absurd (no_items has) };
    none_stays = λ new is. is.made;
  }

  limits_passed : LimitsPassed run target
  limits_passed = record {
    preparing = λ past. inl (some_items, record { past = past });
    expanding = λ past. inr past;
    by_no_other = λ passes. elim passes [ inl both ↦ inl both.1.past | inr past ↦ inr past ];
    of_nothing = λ passes. elim passes [ inl both ↦ absurd (no_items both.0) | inr past ↦ past ];
    shaping = λ passes. passes.past;
    in_shaping = λ past. record { past = past };
  }

lists_of_glyphs : (run : Run) → ListsOfGlyphs run
lists_of_glyphs run = record { of_the_list = λ glyphs is. is some_items; of_nothing = λ glyphs has. absurd (no_items has) }

pub worked_passes : WorkedPasses
worked_passes = record {
  some_items = some_items;
  no_items = no_items;
  prepared = texts_prepared;
  shaped = texts_shaped;
  glyphs = lists_of_glyphs;
  limits = limits_passed;
  data_made = data_of_texts;
}
