-- what opened names store
use Rattle.std.specs.Prelude.{◌≡◌, ◌<◌, ◌≤◌, ℕ, List, length, slice_index}
use Rattle.shape_font.specs.Names.{string_start, strings_at}

-- where the strings of a `post` begin, one after the other, as far as they begin within the table
pub record AreStarts (post starts : List ℕ) : Type 0 where
  pub stored : (k : ℕ) → k < length starts → slice_index starts k ≡ string_start post k (strings_at post)
  pub past : (k : ℕ) → length starts ≤ k → k < 65278 → length post ≤ string_start post k (strings_at post)
  -- each has a byte, and 65,278 of the 65,536 numbers of names are those of strings
  pub short : length starts ≤ length post
  pub few : length starts ≤ 65278
