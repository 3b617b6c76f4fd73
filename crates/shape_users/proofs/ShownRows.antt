-- The rows of glyphs and the text that they show.
use Rattle.std.proofs.Common.{◌≡◌, ◌⊎◌, ℕ, zero, suc, ◌-◌, ◌<◌, ◌≤◌, List, [], length, inl, inr, refl, arith}
use Rattle.shape_items.specs.Items.{Item}
use Rattle.shape_users.specs.Paragraph.{cluster_at, EndsIn, ShowsExactly}
use Rattle.shape_users.specs.Worked.Shown.{rising, falling, WorkedEnds, WorkedTextOfGlyphs, WorkedGlyphsOfText, WorkedShown}

-- what holds of the first four places holds of each below four
each_of_four : (P : ℕ → Type 0) → P 0 → P 1 → P 2 → P 3 → (k : ℕ) → k < 4 → P k
each_of_four P first second third fourth zero lt = first
each_of_four P first second third fourth (suc zero) lt = second
each_of_four P first second third fourth (suc (suc zero)) lt = third
each_of_four P first second third fourth (suc (suc (suc zero))) lt = fourth
each_of_four P first second third fourth (suc (suc (suc (suc k)))) lt = absurd (omega arith)

-- ---- ends

no_cluster : (end : ℕ) → ((end ≡ 0) ⊎ (end ≡ 2) ⊎ (end ≡ 5) → ⊥) → (k : ℕ) → k < 4 → cluster_at rising k ≡ end → ⊥
no_cluster end none zero lt is = none (inl (omega (arith, is)))
no_cluster end none (suc zero) lt is = none (inr (inl (omega (arith, is))))
no_cluster end none (suc (suc zero)) lt is = none (inr (inl (omega (arith, is))))
no_cluster end none (suc (suc (suc zero))) lt is = none (inr (inr (omega (arith, is))))
no_cluster end none (suc (suc (suc (suc k)))) lt is = absurd (omega arith)

worked_ends : WorkedEnds
worked_ends = record {
  clusters = refl;
  with_the_text = inl refl;
  before_a_cluster = inr (3, omega arith, refl);
  of_no_glyphs = inl refl;
  inside_a_cluster = inside;
  past_the_text = past;
  at_no_glyph = no_glyph;
}
  where
    inside : EndsIn rising 7 4 → ⊥
    inside (inl is) = omega (arith, is)
    inside (inr (k, lt, is)) = no_cluster 4 (λ one. omega (arith, one)) k lt is

    past : EndsIn rising 7 8 → ⊥
    past (inl is) = omega (arith, is)
    past (inr (k, lt, is)) = no_cluster 8 (λ one. omega (arith, one)) k lt is

    no_glyph : EndsIn [] 7 0 → ⊥
    no_glyph (inl is) = omega (arith, is)
    no_glyph (inr (k, lt, is)) = absurd (omega arith)

-- ---- text of glyphs

-- a cluster lies in a span of text
abbrev LiesIn : List Item → ℕ → ℕ → ℕ → Type 0
LiesIn glyphs from to k = (from ≤ cluster_at glyphs k) × (cluster_at glyphs k < to)

-- the place is one of a range, and its cluster lies in the span
abbrev IsTheirs : List Item → ℕ → ℕ → ℕ → ℕ → ℕ → Type 0
IsTheirs glyphs start end from to k = start ≤ k → k < end → LiesIn glyphs from to k

-- a glyph of the range has its cluster, if that lies in the span
abbrev IsShown : List Item → ℕ → ℕ → ℕ → ℕ → ℕ → Type 0
IsShown glyphs start end from to k =
    from ≤ cluster_at glyphs k → cluster_at glyphs k < to
    → (j : ℕ) × (start ≤ j) × (j < end) × (cluster_at glyphs j ≡ cluster_at glyphs k)

-- the facts at each of four places
shows : (glyphs : List Item) (start end from to : ℕ) → length glyphs ≡ 4 → end ≤ 4
    → ((k : ℕ) → k < 4 → IsTheirs glyphs start end from to k) → ((k : ℕ) → k < 4 → IsShown glyphs start end from to k)
    → ShowsExactly glyphs start end from to
shows glyphs start end from to four within theirs shown = record {
  theirs = λ k after before. theirs k (omega (arith, within, before)) after before;
  no_other = λ k lt. shown k (omega (arith, four, lt));
}

two_glyphs : ShowsExactly rising 1 3 2 5
two_glyphs =
    shows rising 1 3 2 5 refl (omega arith)
    (each_of_four (IsTheirs rising 1 3 2 5) (λ a b. absurd (omega arith)) (λ a b. (omega arith, omega arith))
    (λ a b. (omega arith, omega arith)) (λ a b. absurd (omega arith)))
    (each_of_four (IsShown rising 1 3 2 5) (λ a b. absurd (omega arith)) (λ a b. (1, omega arith, omega arith, refl))
    (λ a b. (1, omega arith, omega arith, refl)) (λ a b. absurd (omega arith)))

one_of_two : ShowsExactly rising 1 2 2 5
one_of_two =
    shows rising 1 2 2 5 refl (omega arith)
    (each_of_four (IsTheirs rising 1 2 2 5) (λ a b. absurd (omega arith)) (λ a b. (omega arith, omega arith)) (λ a b. absurd (omega arith))
    (λ a b. absurd (omega arith)))
    (each_of_four (IsShown rising 1 2 2 5) (λ a b. absurd (omega arith)) (λ a b. (1, omega arith, omega arith, refl))
    (λ a b. (1, omega arith, omega arith, refl)) (λ a b. absurd (omega arith)))

falling_glyphs : ShowsExactly falling 0 2 2 7
falling_glyphs =
    shows falling 0 2 2 7 refl (omega arith)
    (each_of_four (IsTheirs falling 0 2 2 7) (λ a b. (omega arith, omega arith)) (λ a b. (omega arith, omega arith))
    (λ a b. absurd (omega arith)) (λ a b. absurd (omega arith)))
    (each_of_four (IsShown falling 0 2 2 7) (λ a b. (0, omega arith, omega arith, refl)) (λ a b. (1, omega arith, omega arith, refl))
    (λ a b. (1, omega arith, omega arith, refl)) (λ a b. absurd (omega arith)))

all_glyphs : ShowsExactly rising 0 4 0 7
all_glyphs =
    shows rising 0 4 0 7 refl (omega arith)
    (each_of_four (IsTheirs rising 0 4 0 7) (λ a b. (omega arith, omega arith)) (λ a b. (omega arith, omega arith))
    (λ a b. (omega arith, omega arith)) (λ a b. (omega arith, omega arith)))
    (each_of_four (IsShown rising 0 4 0 7) (λ a b. (0, omega arith, omega arith, refl)) (λ a b. (1, omega arith, omega arith, refl))
    (λ a b. (2, omega arith, omega arith, refl)) (λ a b. (3, omega arith, omega arith, refl)))

-- none of two glyphs in cluster 2 has another one
no_glyph_of_two : (other : ℕ) → (other ≡ 2 → ⊥) → (k : ℕ) → 1 ≤ k → k < 3 → cluster_at rising k ≡ other → ⊥
no_glyph_of_two other apart zero after before is = absurd (omega arith)
no_glyph_of_two other apart (suc zero) after before is = apart (omega (arith, is))
no_glyph_of_two other apart (suc (suc zero)) after before is = apart (omega (arith, is))
no_glyph_of_two other apart (suc (suc (suc k))) after before is = absurd (omega arith)

worked_text_of_glyphs : WorkedTextOfGlyphs
worked_text_of_glyphs = record {
  two_glyphs = two_glyphs;
  one_of_two = one_of_two;
  falling_glyphs = falling_glyphs;
  all = all_glyphs;
  too_much_before = λ is.
      let some = is.no_other 0 (omega arith) (omega arith) (omega arith) in
      no_glyph_of_two 0 (λ e. omega (arith, e)) some.0 some.1 some.2 some.3;
  too_much_after = λ is.
      let some = is.no_other 3 (omega arith) (omega arith) (omega arith) in
      no_glyph_of_two 5 (λ e. omega (arith, e)) some.0 some.1 some.2 some.3;
  too_little_before = λ is. let first = is.theirs 0 (omega arith) (omega arith) in let le : 2 ≤ 0 = first.0 in omega (arith, le);
  too_little_after = λ is. let last = is.theirs 3 (omega arith) (omega arith) in let lt : 5 < 5 = last.1 in omega (arith, lt);
}

-- ---- glyphs of a text

-- the place is in a range, if its cluster lies in the span
abbrev IsInside : List Item → ℕ → ℕ → ℕ → ℕ → ℕ → Type 0
IsInside glyphs from to start end k = from ≤ cluster_at glyphs k → cluster_at glyphs k < to → (start ≤ k) × (k < end)

inside_two : (k : ℕ) → k < 2 → IsInside rising 2 5 1 2 k
inside_two zero lt a b = absurd (omega arith)
inside_two (suc zero) lt a b = (omega arith, omega arith)
inside_two (suc (suc k)) lt a b = absurd (omega arith)

worked_glyphs_of_text : WorkedGlyphsOfText
worked_glyphs_of_text = record {
  two_glyphs = record {
    ordered = omega arith;
    within = omega arith;
    inside = each_of_four (IsInside rising 2 5 1 3) (λ a b. absurd (omega arith)) (λ a b. (omega arith, omega arith))
        (λ a b. (omega arith, omega arith)) (λ a b. absurd (omega arith));
    first = λ _. (omega arith, omega arith);
    last = λ _. (omega arith, omega arith);
  };
  falling_glyphs = record {
    ordered = omega arith;
    within = omega arith;
    inside = each_of_four (IsInside falling 2 6 0 3) (λ a b. (omega arith, omega arith)) (λ a b. (omega arith, omega arith))
        (λ a b. (omega arith, omega arith)) (λ a b. absurd (omega arith));
    first = λ _. (omega arith, omega arith);
    last = λ _. (omega arith, omega arith);
  };
  no_glyphs = record {
    ordered = omega arith;
    within = omega arith;
    inside = each_of_four (IsInside rising 3 5 0 0) (λ a b. absurd (omega arith)) (λ a b. absurd (omega arith))
        (λ a b. absurd (omega arith)) (λ a b. absurd (omega arith));
    first = λ some. absurd (omega arith);
    last = λ some. absurd (omega arith);
  };
  of_the_first_two = record {
    ordered = omega arith;
    within = omega arith;
    inside = inside_two;
    first = λ _. (omega arith, omega arith);
    last = λ _. (omega arith, omega arith);
  };
  first_too_early = λ is. let first = is.first (omega arith) in let le : 2 ≤ 0 = first.0 in omega (arith, le);
  first_too_late = λ is. let place = is.inside 1 (omega arith) (omega arith) (omega arith) in let le : 2 ≤ 1 = place.0 in omega (arith, le);
  last_too_early = λ is. let place = is.inside 2 (omega arith) (omega arith) (omega arith) in let lt : 2 < 2 = place.1 in omega (arith, lt);
  last_too_late = λ is. let last = is.last (omega arith) in let lt : 5 < 5 = last.1 in omega (arith, lt);
  past_the_count = λ is. let le : 3 ≤ 2 = is.within in omega (arith, le);
  reversed = λ is. let le : 2 ≤ 1 = is.ordered in omega (arith, le);
}

pub worked_shown : WorkedShown
worked_shown = record { ends = worked_ends; text_of_glyphs = worked_text_of_glyphs; glyphs_of_text = worked_glyphs_of_text }
