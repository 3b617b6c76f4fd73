-- The definitions, computed on small cases whose answers are worked out by hand.
use Rattle.std.specs.Prelude.{◌≡◌, ℕ, ◌==◌, ◌||◌, Bool, true, false, if◌then◌else◌, [], ◌∷◌, Some, None, refl}
use Rattle.shape_items.specs.Buffer.{run_limit, run_ops}
use Rattle.canonical_form.specs.Chain.{chain_point, second_part, full}
use Rattle.canonical_form.specs.Decompositions.{Decompositions}
use Rattle.canonical_form.specs.Expansion.{expansion, choice}
use Rattle.canonical_form.specs.Order.{in_order}
use Rattle.shape_normalize.specs.RoundTwo.{runs, spans}
use Rattle.test_fixtures.specs.Splitting.{stacked_split}

-- how often a character, and then its first parts, split
abbrev pub stacked_height : ℕ → ℕ
stacked_height c = if c == 0x1EA4 then 2 else (if c == 0xC2 then 1 else 0)

-- the two marks have the combining class of those above
abbrev pub stacked : Decompositions
stacked = record { split = stacked_split; height = stacked_height; ccc = λ c. if c == 0x301 || c == 0x302 then 230 else 0 }

-- U+1EA4 splits into U+00C2 U+0301, and U+00C2 into U+0041 U+0302
pub record ChainOfTwo : Type 0 where
  pub point_0 : chain_point stacked_split 0 0x1EA4 ≡ Some 0x1EA4
  pub point_1 : chain_point stacked_split 1 0x1EA4 ≡ Some 0xC2
  pub point_2 : chain_point stacked_split 2 0x1EA4 ≡ Some 0x41
  pub point_3 : chain_point stacked_split 3 0x1EA4 ≡ None
  pub second_1 : second_part stacked_split 1 0x1EA4 ≡ Some 0x301
  pub second_2 : second_part stacked_split 2 0x1EA4 ≡ Some 0x302
  pub full_of : full stacked 0x1EA4 ≡ 0x41 ∷ 0x302 ∷ 0x301 ∷ []
  pub length_1 : expansion stacked_split 1 0x1EA4 ≡ Some (0xC2 ∷ 0x301 ∷ [])
  pub length_2 : expansion stacked_split 2 0x1EA4 ≡ Some (0x41 ∷ 0x302 ∷ 0x301 ∷ [])
  pub length_3 : expansion stacked_split 3 0x1EA4 ≡ None

chain_of_two : ChainOfTwo
unfolding full
chain_of_two = record {
  point_0 = refl;
  point_1 = refl;
  point_2 = refl;
  point_3 = refl;
  second_1 = refl;
  second_2 = refl;
  full_of = refl;
  length_1 = refl;
  length_2 = refl;
  length_3 = refl;
}

-- faces by the characters that they have, U+0041 and U+0302 always
abbrev with_glyphs : (ℕ → Bool) → ℕ → Bool
with_glyphs more c = c == 0x41 || c == 0x302 || more c

pub record ChoicesOfU1EA4 : Type 0 where
  pub shortest : choice stacked (with_glyphs (λ c. c == 0x301 || c == 0xC2)) true 0x1EA4 ≡ 0xC2 ∷ 0x301 ∷ []
  pub greatest : choice stacked (with_glyphs (λ c. c == 0x301 || c == 0xC2)) false 0x1EA4 ≡ 0x41 ∷ 0x302 ∷ 0x301 ∷ []
  pub half_supported : choice stacked (with_glyphs (λ c. c == 0xC2)) true 0x1EA4 ≡ 0x1EA4 ∷ []
  pub none_supported : choice stacked (with_glyphs (λ c. c == 0xC2)) false 0x1EA4 ≡ 0x1EA4 ∷ []
  pub has_its_own : choice stacked (λ _. true) true 0x1EA4 ≡ 0x1EA4 ∷ []

choices_of_U1EA4 : ChoicesOfU1EA4
choices_of_U1EA4 = record { shortest = refl; greatest = refl; half_supported = refl; none_supported = refl; has_its_own = refl }

-- the limit of a run is 64 for each item, and at least 16384
pub record LimitsOfRuns : Type 0 where
  pub of_one : run_limit 1 ≡ 16384
  pub of_256 : run_limit 256 ≡ 16384
  pub of_many : run_limit 257 ≡ 16448
  -- the greatest product that can be counted, the one past it, and the greatest of all
  pub of_most : run_limit 288230376151711743 ≡ 18446744073709551552
  pub of_one_more : run_limit 288230376151711744 ≡ 18446744073709551615
  pub of_too_many : run_limit 18446744073709551615 ≡ 18446744073709551615

limits_of_runs : LimitsOfRuns
limits_of_runs = record { of_one = refl; of_256 = refl; of_many = refl; of_most = refl; of_one_more = refl; of_too_many = refl }

-- the work of a run is 40,960 for each item, and at least that of 64
pub record WorkOfRuns : Type 0 where
  pub of_one : run_ops 1 ≡ 2621440
  pub of_64 : run_ops 64 ≡ 2621440
  pub of_many : run_ops 65 ≡ 2662400
  -- the greatest product that can be counted, the one past it, and the greatest of all
  pub of_most : run_ops 450359962737049 ≡ 18446744073709527040
  pub of_one_more : run_ops 450359962737050 ≡ 18446744073709551615
  pub of_too_many : run_ops 18446744073709551615 ≡ 18446744073709551615

work_of_runs : WorkOfRuns
work_of_runs = record { of_one = refl; of_64 = refl; of_many = refl; of_most = refl; of_one_more = refl; of_too_many = refl }

-- the ccc of a mark, which is written beside it
abbrev pub ccc_of_mark : ℕ × ℕ → ℕ
ccc_of_mark mark = mark.1

-- runs of marks by their ccc, the spans that their order moves, and that order
pub record OrderOfMarks : Type 0 where
  pub two_runs : runs (0 ∷ 230 ∷ 220 ∷ 0 ∷ 230 ∷ []) ≡ (0, 0) ∷ (1, 3) ∷ (4, 5) ∷ []
  pub two_spans : spans (12 ∷ 10 ∷ 230 ∷ 220 ∷ []) ≡ (0, 2) ∷ (2, 4) ∷ []
  pub one_span : spans (230 ∷ 10 ∷ 220 ∷ []) ≡ (0, 3) ∷ []
  pub nothing_moves : spans (10 ∷ 230 ∷ 230 ∷ []) ≡ (0, 1) ∷ (1, 2) ∷ (2, 3) ∷ []
  pub in_their_order : in_order (λ ccc. ccc) (12 ∷ 10 ∷ 230 ∷ 220 ∷ []) ≡ 10 ∷ 12 ∷ 220 ∷ 230 ∷ []
  -- two of one ccc keep their order, around one of a smaller ccc, before it and after it
  pub around : in_order ccc_of_mark ((0x301, 230) ∷ (0x323, 220) ∷ (0x300, 230) ∷ []) ≡ (0x323, 220) ∷ (0x301, 230) ∷ (0x300, 230) ∷ []
  pub before : in_order ccc_of_mark ((0x301, 230) ∷ (0x300, 230) ∷ (0x323, 220) ∷ []) ≡ (0x323, 220) ∷ (0x301, 230) ∷ (0x300, 230) ∷ []
  pub behind : in_order ccc_of_mark ((0x323, 220) ∷ (0x300, 230) ∷ (0x301, 230) ∷ []) ≡ (0x323, 220) ∷ (0x300, 230) ∷ (0x301, 230) ∷ []
  -- nothing moves over one of ccc 0, and that one stays too
  pub past_none : in_order ccc_of_mark ((0x301, 230) ∷ (0x61, 0) ∷ (0x323, 220) ∷ []) ≡ (0x301, 230) ∷ (0x61, 0) ∷ (0x323, 220) ∷ []

order_of_marks : OrderOfMarks
order_of_marks = record {
  two_runs = refl;
  two_spans = refl;
  one_span = refl;
  nothing_moves = refl;
  in_their_order = refl;
  around = refl;
  before = refl;
  behind = refl;
  past_none = refl;
}

pub record WorkedCases : Type 0 where
  pub chain : ChainOfTwo
  pub choices : ChoicesOfU1EA4
  pub limits : LimitsOfRuns
  pub work : WorkOfRuns
  pub order : OrderOfMarks

pub worked_cases : WorkedCases
worked_cases = record { chain = chain_of_two; choices = choices_of_U1EA4; limits = limits_of_runs; work = work_of_runs; order = order_of_marks }
