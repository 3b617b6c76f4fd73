-- The table of `myanmar_grammar` passes the tests. `parents` names for each state from 2 on a state before it and the category between.
-- Written by tests/grammars.py from specs/MyanmarGrammar.antt. Do not edit.
use Rattle.std.proofs.Common.{◌≡◌, ℕ, ◌<◌, true, List, [], ◌∷◌, length, refl, arith}
use Rattle.syllables.specs.Grammar.{Grammar}
use Rattle.syllables.specs.MyanmarGrammar.{myanmar_grammar}
use Rattle.syllables.specs.Tables.{grown, state_in, rows_hold, kinds_hold, all_in_columns}
use Rattle.syllables.specs.declared.myanmar.table.TheConstants.{COLUMNS, ROWS, KINDS}

abbrev parents : List (ℕ × ℕ)
parents =
    (1, 1) ∷ (1, 3) ∷ (1, 4) ∷ (1, 5) ∷ (1, 8) ∷ (1, 9) ∷ (1, 15) ∷ (1, 18) ∷ (1, 19) ∷ (1, 20)
    ∷ (1, 21) ∷ (1, 22) ∷ (1, 23) ∷ (1, 27) ∷ (1, 28) ∷ (1, 29) ∷ (1, 30) ∷ (1, 31) ∷ (1, 32) ∷ (1, 33)
    ∷ (1, 34) ∷ (2, 3) ∷ (2, 4) ∷ (2, 5) ∷ (2, 8) ∷ (2, 9) ∷ (2, 20) ∷ (2, 21) ∷ (2, 22) ∷ (2, 23)
    ∷ (2, 27) ∷ (2, 28) ∷ (2, 29) ∷ (2, 30) ∷ (2, 31) ∷ (2, 32) ∷ (2, 33) ∷ (2, 34) ∷ (3, 5) ∷ (3, 27)
    ∷ (4, 1) ∷ (8, 27) ∷ (13, 33) ∷ (14, 20) ∷ (14, 27) ∷ (14, 28) ∷ (16, 27) ∷ (19, 27) ∷ (20, 3) ∷ (23, 27)
    ∷ (24, 1) ∷ (30, 33) ∷ (31, 20) ∷ (31, 27) ∷ (31, 28) ∷ (33, 27) ∷ (36, 27) ∷ (37, 3) ∷ (43, 4)
    ∷ []

-- what the grammar leaves to match in each state
abbrev pub rests : List Grammar
rests = grown ([] ∷ myanmar_grammar ∷ []) parents

pub some : 1 < length rests
some = omega arith

pub start : state_in rests 1 ≡ myanmar_grammar
start = refl

pub dead : state_in rests 0 ≡ []
dead = refl

pub rows : rows_hold rests COLUMNS rests ROWS ≡ true
rows = refl

pub columns : all_in_columns COLUMNS rests ≡ true
columns = refl

pub kinds : kinds_hold rests KINDS ≡ true
kinds = refl
