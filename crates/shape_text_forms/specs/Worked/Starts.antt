-- Where the strings of `post` begin, on a table that was read by hand.
use Rattle.std.specs.Prelude.{◌≡◌, ◌<◌, ◌≤◌, ℕ, List, length, slice_index}
use Rattle.std.proofs.Common.{lit<, inl, inr, arith}
use Rattle.std.proofs.lemmas.Bool.{cases_lt}
use Rattle.shape_font.specs.Names.{string_start, strings_at}
use Rattle.shape_font.specs.Worked.Names.{four_names}
use Rattle.shape_text_forms.specs.OpenedNames.{AreStarts}

pub record WorkedStarts : Type 0 where
  -- A begins at 42 and bc at 44, the empty string at 47, where the last of 48 bytes is
  pub second : (starts : List ℕ) → AreStarts four_names starts → 1 < length starts → slice_index starts 1 ≡ 44
  pub all_three : (starts : List ℕ) → AreStarts four_names starts → 2 < length starts
  -- number 65,535 is that of string 65,277
  pub last_number : (post starts : List ℕ) → AreStarts post starts → length starts ≤ 65277
      → length post ≤ string_start post 65277 (strings_at post)
  pub most_starts : (post starts : List ℕ) → AreStarts post starts → length starts ≤ 65278
  pub a_byte_each : (post starts : List ℕ) → AreStarts post starts → length starts ≤ length post

within : {A : Type 0} → 48 ≤ 47 → A
within h = absurd (omega (arith, h))

pub worked_starts : WorkedStarts
worked_starts = record {
  second = λ starts are inside. are.stored 1 inside;
  all_three = λ starts are. elim (cases_lt 2 (length starts)) [ inl more ↦ more | inr few ↦ within (are.past 2 few (lit< tt)) ];
  last_number = λ post starts are few. are.past 65277 few (lit< tt);
  most_starts = λ post starts are. are.few;
  a_byte_each = λ post starts are. are.short;
}
