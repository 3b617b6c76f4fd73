-- The table of `indic_grammar` passes the tests. `parents` names for each state from 2 on a state before it and the category between.
-- Written by tests/grammars.py from specs/IndicGrammar.antt. Do not edit.
use Rattle.std.proofs.Common.{◌≡◌, ℕ, ◌<◌, true, List, [], ◌∷◌, length, refl, arith}
use Rattle.syllables.specs.Grammar.{Grammar}
use Rattle.syllables.specs.IndicGrammar.{indic_grammar}
use Rattle.syllables.specs.Tables.{grown, state_in, rows_hold, kinds_hold, all_in_columns}
use Rattle.syllables.specs.declared.indic.table.TheConstants.{COLUMNS, ROWS, KINDS}

abbrev parents : List (ℕ × ℕ)
parents =
    (1, 1) ∷ (1, 2) ∷ (1, 3) ∷ (1, 4) ∷ (1, 5) ∷ (1, 6) ∷ (1, 7) ∷ (1, 8) ∷ (1, 9) ∷ (1, 10)
    ∷ (1, 12) ∷ (1, 14) ∷ (1, 15) ∷ (1, 16) ∷ (1, 17) ∷ (1, 18) ∷ (1, 19) ∷ (2, 3) ∷ (2, 4) ∷ (2, 5)
    ∷ (2, 6) ∷ (2, 7) ∷ (2, 8) ∷ (2, 9) ∷ (2, 12) ∷ (2, 16) ∷ (3, 3) ∷ (3, 4) ∷ (3, 5) ∷ (3, 6)
    ∷ (3, 7) ∷ (3, 8) ∷ (3, 9) ∷ (3, 12) ∷ (3, 16) ∷ (4, 3) ∷ (5, 1) ∷ (5, 5) ∷ (5, 6) ∷ (5, 8)
    ∷ (6, 4) ∷ (6, 5) ∷ (8, 3) ∷ (8, 4) ∷ (8, 5) ∷ (9, 8) ∷ (11, 3) ∷ (11, 4) ∷ (11, 5) ∷ (11, 6)
    ∷ (11, 7) ∷ (11, 8) ∷ (11, 9) ∷ (11, 12) ∷ (11, 16) ∷ (14, 4) ∷ (15, 4) ∷ (15, 5) ∷ (16, 3) ∷ (16, 5)
    ∷ (16, 8) ∷ (16, 9) ∷ (19, 3) ∷ (19, 5) ∷ (20, 5) ∷ (20, 6) ∷ (20, 8) ∷ (21, 4) ∷ (21, 5) ∷ (22, 4)
    ∷ (22, 5) ∷ (22, 6) ∷ (23, 3) ∷ (23, 4) ∷ (23, 5) ∷ (24, 8) ∷ (27, 4) ∷ (27, 5) ∷ (28, 3) ∷ (28, 5)
    ∷ (29, 1) ∷ (29, 5) ∷ (29, 6) ∷ (29, 8) ∷ (30, 4) ∷ (30, 5) ∷ (32, 3) ∷ (32, 4) ∷ (32, 5) ∷ (33, 8)
    ∷ (36, 4) ∷ (36, 5) ∷ (38, 6) ∷ (39, 5) ∷ (40, 3) ∷ (43, 8) ∷ (48, 3) ∷ (49, 1) ∷ (49, 5) ∷ (49, 6)
    ∷ (49, 8) ∷ (50, 4) ∷ (50, 5) ∷ (52, 3) ∷ (52, 4) ∷ (52, 5) ∷ (53, 8) ∷ (56, 4) ∷ (56, 5) ∷ (57, 5)
    ∷ (57, 6) ∷ (57, 8) ∷ (57, 9) ∷ (58, 6) ∷ (59, 4) ∷ (62, 8) ∷ (66, 5) ∷ (67, 3) ∷ (70, 8) ∷ (71, 5)
    ∷ (72, 8) ∷ (78, 6) ∷ (79, 4) ∷ (82, 3) ∷ (82, 5) ∷ (82, 6) ∷ (82, 12) ∷ (83, 5) ∷ (84, 3) ∷ (87, 8)
    ∷ (92, 6) ∷ (93, 4) ∷ (94, 4) ∷ (94, 5) ∷ (94, 6) ∷ (99, 6) ∷ (100, 5) ∷ (101, 3) ∷ (104, 8) ∷ (109, 6)
    ∷ (110, 4) ∷ (111, 5) ∷ (113, 8) ∷ (115, 3) ∷ (123, 3) ∷ (125, 3) ∷ (127, 4) ∷ (127, 5) ∷ (127, 6) ∷ (132, 3)
    ∷ (134, 5) ∷ (135, 8) ∷ (137, 4) ∷ (137, 5) ∷ (137, 6) ∷ (141, 3) ∷ (143, 8) ∷ (148, 5) ∷ (149, 8) ∷ (154, 5)
    ∷ (155, 8)
    ∷ []

-- what the grammar leaves to match in each state
abbrev pub rests : List Grammar
rests = grown ([] ∷ indic_grammar ∷ []) parents

pub some : 1 < length rests
some = omega arith

pub start : state_in rests 1 ≡ indic_grammar
start = refl

pub dead : state_in rests 0 ≡ []
dead = refl

pub rows : rows_hold rests COLUMNS rests ROWS ≡ true
rows = refl

pub columns : all_in_columns COLUMNS rests ≡ true
columns = refl

pub kinds : kinds_hold rests KINDS ≡ true
kinds = refl
