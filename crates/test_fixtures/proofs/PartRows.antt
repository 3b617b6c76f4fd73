-- The rows of parts of buffers.
use Rattle.std.proofs.Common.{◌≡◌, ℕ, ◌<◌, ◌≤◌, true, false, List, get_or, inl, inr, refl, sym, ap, subst, arith}
use Rattle.std.specs.Str.{chars}
use Rattle.shape_common.specs.CategoryNumber.{category_of, category_number}
use Rattle.shape_items.specs.PreservesFlags.{IsDefinedFlag, some_has}
use Rattle.test_fixtures.specs.Worked.Parts.{FirstBytes, SpansInOrder, WordsOfItems, with_flags, HonestBuffers, requests, ranges, merges, runs_of_clusters, forms_of_characters, buffers_without_positions, WorkedParts}

first_bytes : FirstBytes
unfolding chars
first_bytes = record {
  first = record { within = omega arith; boundary = (omega arith, λ _ lead. omega (arith, lead)); character = refl };
  of_three_bytes = record { within = omega arith; boundary = (omega arith, λ _ _. omega arith); character = refl };
  last = record { within = omega arith; boundary = (omega arith, λ _ lead. omega (arith, lead)); character = refl };
  another_character = λ is. let e : 0x20AC ≡ 0x62 = ap (λ (cs : List ℕ). get_or cs 0 0) is.character in omega (arith, e);
  second_byte = λ c is. let lead : 192 ≤ 0x82 = is.boundary.1 (omega arith) (omega arith) in omega (arith, lead);
  at_the_end = λ c is. let below : 5 < 5 = is.within in omega (arith, below);
}

spans_in_order : SpansInOrder
spans_in_order = record {
  none = tt;
  all_kinds = (
    omega arith,
    omega arith,
    omega arith,
    (
      omega arith,
      omega arith,
      omega arith,
      (omega arith, omega arith, omega arith, (omega arith, omega arith, omega arith, (omega arith, omega arith, omega arith, tt))),
    ),
  );
  back = λ are. let le : 2 ≤ 1 = are.3.0 in omega (arith, le);
  before_the_place = λ are. let le : 1 ≤ 0 = are.0 in omega (arith, le);
  reversed = λ are. let le : 2 ≤ 1 = are.1 in omega (arith, le);
  past_the_items = λ are. let le : 6 ≤ 5 = are.3.2 in omega (arith, le);
}

words_of_items : WordsOfItems
words_of_items = record {
  last_category = record { category = refl; unused = refl };
  no_category = λ are. let e : category_number (category_of 30) ≡ 30 = are.category in absurd cc;
  bits_without_use = λ are. let e : 1 ≡ 0 = are.unused in omega (arith, e);
  of_a_new_item = record {
    first_fits = omega arith;
    lower_fits = omega arith;
    upper_fits = omega arith;
    first_fields = record { category = refl; unused = refl };
    lower_unused = refl;
  };
  greatest = record {
    first_fits = omega arith;
    lower_fits = omega arith;
    upper_fits = omega arith;
    first_fields = record { category = refl; unused = refl };
    lower_unused = refl;
  };
  unused_in_the_first = λ are. let e : 1 ≡ 0 = are.first_fields.unused in omega (arith, e);
  unused_in_the_second = λ are. let e : 1 ≡ 0 = are.lower_unused in omega (arith, e);
  too_great = λ are. let lt : 4294967296 < 4294967296 = are.upper_fits in omega (arith, lt);
}

-- no defined flag stands in 248
none_of_three : (flag : ℕ) → IsDefinedFlag flag → some_has flag (with_flags 0 248).items ≡ false
none_of_three flag (inl e) = subst (λ f. some_has f (with_flags 0 248).items ≡ false) (sym e) refl
none_of_three flag (inr (inl e)) = subst (λ f. some_has f (with_flags 0 248).items ≡ false) (sym e) refl
none_of_three flag (inr (inr e)) = subst (λ f. some_has f (with_flags 0 248).items ≡ false) (sym e) refl

honest_buffers : HonestBuffers
honest_buffers = record {
  no_flags = record { honest = λ off. none_of_three };
  seen = record { honest = λ off. absurd (let e : true ≡ false = off in cc) };
  break_unseen = λ is. absurd (let e : true ≡ false = is.honest refl 1 (inl refl) in cc);
  concat_unseen = λ is. absurd (let e : true ≡ false = is.honest refl 2 (inr (inl refl)) in cc);
  tatweel_unseen = λ is. absurd (let e : true ≡ false = is.honest refl 4 (inr (inr refl)) in cc);
}

pub worked_parts : WorkedParts
worked_parts = record {
  first_bytes = first_bytes;
  requests = requests;
  ranges = ranges;
  merges = merges;
  spans = spans_in_order;
  runs = runs_of_clusters;
  words = words_of_items;
  honest = honest_buffers;
  forms = forms_of_characters;
  without_positions = buffers_without_positions;
}
