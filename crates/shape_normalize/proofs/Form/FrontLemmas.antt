-- What the walk from the end of a text knows of how a list begins: how many marks it begins with, and whether it is in
-- order.
use Rattle.std.proofs.Common.{◌≡◌, ◌↔◌, ◌⊎◌, ℕ, ◌+◌, ◌<◌, ◌≤◌, ◌==◌, ◌&&◌, ◌||◌, nat_le, nat_lt, Bool, lit≤, true, false, List, [], ◌∷◌, ◌++◌, length, Option, None, Some, refl, sym, ◌∙◌, ap, arith, inl, inr, eqb-true, suc, add-one}
use Rattle.std.proofs.lemmas.Bool.{cases_Bool, both_ways, and_parts, and_from}
use Rattle.std.proofs.lemmas.Bool.Decides.{nat_tests}
use Rattle.std.proofs.lemmas.List.Elements.{All-from_recursion, recursion_from_All}
use Rattle.std.specs.List.{AllByRecursion, list_all}
use Rattle.std.specs.Option.{option_map_or}
use Rattle.canonical_form.specs.Order.{IsOrdered}
use Rattle.canonical_form.specs.Runs.{HasNoLongerRun}
use Rattle.shape_normalize.specs.PremiseTest.{front_with, front_before, no_front}
use Rattle.shape_normalize.specs.RoundTwo.{max_run}
use Rattle.shape_normalize.specs.declared.ot_shape_normalize.premises.Front.{Front}

-- two neighbours do not fall if the second has ccc 0, or the first no greater one
order_of_test : (a b : ℕ) → (b == 0 || nat_le a b) ≡ true → 0 < b → a ≤ b
order_of_test a b test mark = grind (arith, nat_tests)

test_of_order : (a b : ℕ) → (0 < b → a ≤ b) → (b == 0 || nat_le a b) ≡ true
test_of_order a b order =
    elim (cases_Bool (b == 0)) [
      | inl none ↦ rw none refl
      | inr some ↦
          let above : 0 < b = grind (arith, nat_tests) in
          let le = order above in
          grind (arith, nat_tests)
    ]

either : (a b : Bool) → (a || b) ≡ true → (a ≡ true) ⊎ (b ≡ true)
either true b e = inl refl
either false b e = inr e

module _ (ccc : ℕ → ℕ) (glyph : ℕ → Bool) where
  abbrev AreMarks : List ℕ → Type 0
  AreMarks xs = AllByRecursion (λ c. 0 < ccc c) xs

  -- each character has a glyph, no run of marks is too long, and the list begins with this many marks
  pub record BeginsWith (xs : List ℕ) (row : ℕ) : Type 0 where
    glyphs : list_all glyph xs ≡ true
    run : List ℕ
    after : List ℕ
    is : xs ≡ run ++ after
    marks : AreMarks run
    long : length run ≡ row
    longest : (run after : List ℕ) → xs ≡ run ++ after → AreMarks run → length run ≤ row
    within : row ≤ max_run
    fits : HasNoLongerRun ccc max_run xs

  -- the ccc of a list's first character, 0 if there is none
  abbrev first_ccc : List ℕ → ℕ
  first_ccc [] = 0
  first_ccc (x ∷ xs) = ccc x

  -- the list's first character has this ccc, and it is known whether the list is in order
  pub record TellsOrder (xs : List ℕ) (first : ℕ) (ordered : Bool) : Type 0 where
    is : first_ccc xs ≡ first
    tells : (ordered ≡ true) ↔ IsOrdered ccc xs

  abbrev pub FrontDecides : List ℕ → Option Front → Type 0
  FrontDecides xs (Some front) = BeginsWith xs front.row × TellsOrder xs front.ccc front.ordered
  FrontDecides xs None = list_all glyph xs ≡ true → HasNoLongerRun ccc max_run xs → ⊥

  -- a run that is found in a list with one more character begins with it, or lies after it
  fits-more : (x : ℕ) (xs : List ℕ) (row : ℕ)
      → ((run after : List ℕ) → x ∷ xs ≡ run ++ after → AreMarks run → length run ≤ row) → row ≤ max_run
      → HasNoLongerRun ccc max_run xs → HasNoLongerRun ccc max_run (x ∷ xs)
  fits-more x xs row longest within fits [] run after is marks =
      let short = longest run after is (recursion_from_All (λ c. 0 < ccc c) run marks) in omega (arith, short, within)
  fits-more x xs row longest within fits (y ∷ before) run after is marks =
      fits before run after (let e : xs ≡ before ++ (run ++ after) = cc in e) marks

  fits-rest : (x : ℕ) (xs : List ℕ) → HasNoLongerRun ccc max_run (x ∷ xs) → HasNoLongerRun ccc max_run xs
  fits-rest x xs fits before run after is marks = fits (x ∷ before) run after (ap (λ l. x ∷ l) is) marks

  at_starter : (x : ℕ) (xs : List ℕ) (row : ℕ) → BeginsWith xs row → glyph x ≡ true → (ccc x == 0) ≡ true → BeginsWith (x ∷ xs) 0
  at_starter x xs row found has starter =
      let none : ccc x ≡ 0 = eqb-true (ccc x) 0 starter in
      let longest : (run after : List ℕ) → x ∷ xs ≡ run ++ after → AreMarks run → length run ≤ 0 =
      λ run after is marks. starts run after is marks none in
      record {
        glyphs = and_from (glyph x) (list_all glyph xs) has found.glyphs;
        run = [];
        after = x ∷ xs;
        is = refl;
        marks = tt;
        long = refl;
        longest = longest;
        within = lit≤ tt;
        fits = fits-more x xs 0 longest (lit≤ tt) found.fits;
      }
    where
      starts : (run after : List ℕ) → x ∷ xs ≡ run ++ after → AreMarks run → ccc x ≡ 0 → length run ≤ 0
      starts [] after is marks none = lit≤ tt
      starts (y ∷ run) after is marks none =
          let same : x ≡ y = cc in
          let first : ccc x ≡ ccc y = ap ccc same in
          absurd (omega (arith, none, first, marks.0))

  at_mark : (x : ℕ) (xs : List ℕ) (row : ℕ) → BeginsWith xs row → glyph x ≡ true → (ccc x == 0) ≡ false → row < max_run
      → BeginsWith (x ∷ xs) (row + 1)
  at_mark x xs row found has mark below =
      let some : 0 < ccc x = grind (arith, nat_tests) in
      record {
        glyphs = and_from (glyph x) (list_all glyph xs) has found.glyphs;
        run = x ∷ found.run;
        after = found.after;
        is = ap (λ l. x ∷ l) found.is;
        marks = (some, found.marks);
        long = ap suc found.long ∙ sym (add-one row);
        longest = one_more;
        within = omega (arith, below);
        fits = fits-more x xs (row + 1) one_more (omega (arith, below)) found.fits;
      }
    where
      one_more : (run after : List ℕ) → x ∷ xs ≡ run ++ after → AreMarks run → length run ≤ row + 1
      one_more [] after is marks = omega arith
      one_more (y ∷ run) after is marks =
          let e : xs ≡ run ++ after = cc in
          let short = found.longest run after e marks.1 in
          omega (arith, short)

  past_limit : (x : ℕ) (xs : List ℕ) (row : ℕ) → BeginsWith xs row → (ccc x == 0) ≡ false → nat_lt row max_run ≡ false
      → HasNoLongerRun ccc max_run (x ∷ xs) → ⊥
  past_limit x xs row found mark full fits =
      let some : 0 < ccc x = grind (arith, nat_tests) in
      let long : max_run ≤ row = grind (arith, nat_tests) in
      let marks = All-from_recursion (λ c. 0 < ccc c) (x ∷ found.run) (some, found.marks) in
      let short = fits [] (x ∷ found.run) found.after (ap (λ l. x ∷ l) found.is) marks in
      omega (arith, short, long, found.long)

  order_more : (x : ℕ) (xs : List ℕ) (first : ℕ) (ordered : Bool) → TellsOrder xs first ordered
      → TellsOrder (x ∷ xs) (ccc x) (ordered && (first == 0 || nat_le (ccc x) first))
  order_more x xs first ordered known = record { is = refl; tells = tells xs known.is known.tells }
    where
      tells : (xs : List ℕ) → first_ccc xs ≡ first → (ordered ≡ true) ↔ IsOrdered ccc xs
          → ((ordered && (first == 0 || nat_le (ccc x) first)) ≡ true) ↔ IsOrdered ccc (x ∷ xs)
      tells [] is known = (
        λ _. tt,
        λ _. and_from ordered (first == 0 || nat_le (ccc x) first) (known.1 tt)
            (test_of_order (ccc x) first (λ mark. absurd (omega (arith, is, mark)))),
      )
      tells (y ∷ ys) is known = (
        λ test.
            let both = and_parts ordered (first == 0 || nat_le (ccc x) first) test in
            (λ mark. rw is (order_of_test (ccc x) first both.1 (rw (sym is) mark)), known.0 both.0),
        λ order. and_from ordered (first == 0 || nat_le (ccc x) first) (known.1 order.1)
            (test_of_order (ccc x) first (rw (sym is) order.0)),
      )

  one_more_decides : (x : ℕ) (xs : List ℕ) (front : Option Front) → FrontDecides xs front
      → FrontDecides (x ∷ xs) (front_with ccc glyph x front)
  one_more_decides x xs None none = λ glyphs fits. none (and_parts (glyph x) (list_all glyph xs) glyphs).1 (fits-rest x xs fits)
  one_more_decides x xs (Some front) found =
      let order = order_more x xs front.ccc front.ordered found.1 in
      elim (cases_Bool (glyph x)) [
        | inr lacks ↦ rw lacks (λ glyphs fits. both_ways _ lacks (and_parts (glyph x) (list_all glyph xs) glyphs).0)
        | inl has ↦
            elim (cases_Bool (ccc x == 0)) [
              | inl starter ↦ rw (has, starter) (at_starter x xs front.row found.0 has starter, order)
              | inr mark ↦
                  elim (cases_Bool (nat_lt front.row max_run)) [
                    | inl below ↦ rw (has, mark, below) (at_mark x xs front.row found.0 has mark (grind (arith, nat_tests)), order)
                    | inr full ↦ rw (has, mark, full) (λ glyphs fits. past_limit x xs front.row found.0 mark full fits)
                  ]
            ]
      ]

  pub front_decides : (xs : List ℕ) → FrontDecides xs (front_before ccc glyph xs (Some no_front))
  front_decides [] = (
    record {
      glyphs = refl;
      run = [];
      after = [];
      is = refl;
      marks = tt;
      long = refl;
      longest = none;
      within = lit≤ tt;
      fits = λ before run after is marks. empty before run after is;
    },
    record { is = refl; tells = (λ _. tt, λ _. refl) },
  )
    where
      none : (run after : List ℕ) → [] ≡ run ++ after → AreMarks run → length run ≤ 0
      none [] after is marks = lit≤ tt
      none (y ∷ run) after is marks = cc

      empty : (before run after : List ℕ) → [] ≡ before ++ (run ++ after) → length run ≤ max_run
      empty [] [] after is = lit≤ tt
      empty [] (y ∷ run) after is = cc
      empty (y ∷ before) run after is = cc
  front_decides (x ∷ xs) = one_more_decides x xs (front_before ccc glyph xs (Some no_front)) (front_decides xs)

  -- what the test of a list says, by what is known of how it begins
  pub test_of_front : (xs : List ℕ) (front : Option Front) → FrontDecides xs front → (marked leaves : Bool)
      → option_map_or (λ (known : Front). marked || leaves && known.ordered) front false ≡ true
      → ((list_all glyph xs ≡ true) × HasNoLongerRun ccc max_run xs) × ((marked ≡ true) ⊎ ((leaves ≡ true) × IsOrdered ccc xs))
  test_of_front xs None none marked leaves test = cc
  test_of_front xs (Some front) found marked leaves test = (
    (found.0.glyphs, found.0.fits),
    elim (either marked (leaves && front.ordered) test) [
      | inl is ↦ inl is
      | inr both ↦ let parts = and_parts leaves front.ordered both in inr (parts.0, found.1.tells.0 parts.1)
    ],
  )

  pub front_of_test : (xs : List ℕ) (front : Option Front) → FrontDecides xs front → (marked leaves : Bool)
      → list_all glyph xs ≡ true → HasNoLongerRun ccc max_run xs → (marked ≡ true) ⊎ ((leaves ≡ true) × IsOrdered ccc xs)
      → option_map_or (λ (known : Front). marked || leaves && known.ordered) front false ≡ true
  front_of_test xs None none marked leaves glyphs fits order = absurd (none glyphs fits)
  front_of_test xs (Some front) found marked leaves glyphs fits order =
      elim order [
        | inl is ↦ rw is refl
        | inr both ↦ or_from marked (leaves && front.ordered) (and_from leaves front.ordered both.0 (found.1.tells.1 both.1))
      ]
    where
      or_from : (a b : Bool) → b ≡ true → (a || b) ≡ true
      or_from true b e = refl
      or_from false b e = e
