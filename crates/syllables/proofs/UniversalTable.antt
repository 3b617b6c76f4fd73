-- The table of `universal_grammar` passes the tests. `parents` names for each state from 2 on a state before it and the category between.
-- Written by tests/grammars.py from specs/UniversalGrammar.antt. Do not edit.
use Rattle.std.proofs.Common.{◌≡◌, ℕ, ◌<◌, true, List, [], ◌∷◌, length, refl, arith}
use Rattle.syllables.specs.Grammar.{Grammar}
use Rattle.syllables.specs.UniversalGrammar.{universal_grammar}
use Rattle.syllables.specs.Tables.{grown, state_in, rows_hold, kinds_hold, all_in_columns}
use Rattle.syllables.specs.declared.universal.table.TheConstants.{COLUMNS, ROWS, KINDS}

abbrev parents : List (ℕ × ℕ)
parents =
    (1, 0) ∷ (1, 1) ∷ (1, 2) ∷ (1, 3) ∷ (1, 5) ∷ (1, 6) ∷ (1, 7) ∷ (1, 8) ∷ (1, 9) ∷ (1, 10)
    ∷ (1, 11) ∷ (1, 12) ∷ (1, 13) ∷ (1, 14) ∷ (1, 15) ∷ (1, 16) ∷ (1, 17) ∷ (1, 18) ∷ (1, 19) ∷ (1, 21)
    ∷ (1, 22) ∷ (1, 23) ∷ (1, 24) ∷ (1, 25) ∷ (1, 26) ∷ (1, 27) ∷ (1, 28) ∷ (1, 29) ∷ (1, 30) ∷ (1, 31)
    ∷ (1, 32) ∷ (1, 33) ∷ (1, 34) ∷ (1, 35) ∷ (1, 36) ∷ (1, 38) ∷ (1, 40) ∷ (1, 43) ∷ (2, 5) ∷ (2, 6)
    ∷ (2, 8) ∷ (2, 11) ∷ (2, 12) ∷ (2, 13) ∷ (2, 14) ∷ (2, 15) ∷ (2, 16) ∷ (2, 17) ∷ (2, 18) ∷ (2, 19)
    ∷ (2, 21) ∷ (2, 22) ∷ (2, 23) ∷ (2, 24) ∷ (2, 25) ∷ (2, 26) ∷ (2, 27) ∷ (2, 28) ∷ (2, 29) ∷ (2, 31)
    ∷ (2, 32) ∷ (2, 33) ∷ (2, 34) ∷ (2, 35) ∷ (2, 40) ∷ (3, 5) ∷ (3, 6) ∷ (3, 8) ∷ (3, 11) ∷ (3, 12)
    ∷ (3, 13) ∷ (3, 14) ∷ (3, 15) ∷ (3, 16) ∷ (3, 17) ∷ (3, 18) ∷ (3, 19) ∷ (3, 21) ∷ (3, 22) ∷ (3, 23)
    ∷ (3, 24) ∷ (3, 25) ∷ (3, 26) ∷ (3, 27) ∷ (3, 31) ∷ (3, 32) ∷ (3, 33) ∷ (3, 34) ∷ (3, 35) ∷ (3, 40)
    ∷ (3, 43) ∷ (4, 7) ∷ (4, 8) ∷ (5, 5) ∷ (5, 6) ∷ (5, 8) ∷ (5, 11) ∷ (5, 12) ∷ (5, 13) ∷ (5, 14)
    ∷ (5, 15) ∷ (5, 16) ∷ (5, 17) ∷ (5, 18) ∷ (5, 19) ∷ (5, 21) ∷ (5, 22) ∷ (5, 23) ∷ (5, 24) ∷ (5, 25)
    ∷ (5, 26) ∷ (5, 27) ∷ (5, 31) ∷ (5, 32) ∷ (5, 33) ∷ (5, 34) ∷ (5, 35) ∷ (5, 40) ∷ (5, 43) ∷ (6, 5)
    ∷ (6, 6) ∷ (6, 8) ∷ (6, 11) ∷ (6, 12) ∷ (6, 13) ∷ (6, 14) ∷ (6, 15) ∷ (6, 16) ∷ (6, 17) ∷ (6, 18)
    ∷ (6, 19) ∷ (6, 21) ∷ (6, 22) ∷ (6, 23) ∷ (6, 24) ∷ (6, 25) ∷ (6, 26) ∷ (6, 27) ∷ (6, 31) ∷ (6, 32)
    ∷ (6, 33) ∷ (6, 34) ∷ (6, 35) ∷ (6, 40) ∷ (7, 35) ∷ (8, 2) ∷ (11, 1) ∷ (11, 7) ∷ (11, 28) ∷ (11, 29)
    ∷ (17, 6) ∷ (35, 1) ∷ (36, 8) ∷ (36, 37) ∷ (36, 39) ∷ (36, 42) ∷ (37, 36) ∷ (37, 38) ∷ (41, 35) ∷ (48, 6)
    ∷ (65, 1) ∷ (68, 35) ∷ (75, 6) ∷ (86, 8) ∷ (90, 1) ∷ (90, 8) ∷ (93, 2) ∷ (93, 8) ∷ (96, 35) ∷ (103, 6)
    ∷ (114, 8) ∷ (118, 1) ∷ (118, 8) ∷ (146, 1) ∷ (160, 1) ∷ (163, 1) ∷ (170, 1)
    ∷ []

-- what the grammar leaves to match in each state
abbrev pub rests : List Grammar
rests = grown ([] ∷ universal_grammar ∷ []) parents

pub some : 1 < length rests
some = omega arith

pub start : state_in rests 1 ≡ universal_grammar
start = refl

pub dead : state_in rests 0 ≡ []
dead = refl

pub rows : rows_hold rests COLUMNS rests ROWS ≡ true
rows = refl

pub columns : all_in_columns COLUMNS rests ≡ true
columns = refl

pub kinds : kinds_hold rests KINDS ≡ true
kinds = refl
