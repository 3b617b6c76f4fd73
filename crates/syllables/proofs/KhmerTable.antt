-- The table of `khmer_grammar` passes the tests. `parents` names for each state from 2 on a state before it and the category between.
-- Written by tests/grammars.py from specs/KhmerGrammar.antt. Do not edit.
use Rattle.std.proofs.Common.{◌≡◌, ℕ, ◌<◌, true, List, [], ◌∷◌, length, refl, arith}
use Rattle.syllables.specs.Grammar.{Grammar}
use Rattle.syllables.specs.KhmerGrammar.{khmer_grammar}
use Rattle.syllables.specs.Tables.{grown, state_in, rows_hold, kinds_hold, all_in_columns}
use Rattle.syllables.specs.declared.khmer.table.TheConstants.{COLUMNS, ROWS, KINDS}

abbrev parents : List (ℕ × ℕ)
parents =
    (1, 1) ∷ (1, 4) ∷ (1, 5) ∷ (1, 10) ∷ (1, 20) ∷ (1, 21) ∷ (1, 22) ∷ (1, 23) ∷ (1, 24) ∷ (1, 25)
    ∷ (1, 26) ∷ (2, 4) ∷ (2, 5) ∷ (2, 20) ∷ (2, 21) ∷ (2, 22) ∷ (2, 23) ∷ (2, 24) ∷ (2, 25) ∷ (2, 26)
    ∷ (3, 1) ∷ (4, 5) ∷ (5, 5) ∷ (5, 24) ∷ (6, 4) ∷ (6, 5) ∷ (6, 25) ∷ (7, 5) ∷ (7, 25) ∷ (8, 5)
    ∷ (8, 25) ∷ (9, 5) ∷ (13, 1) ∷ (14, 5) ∷ (15, 4) ∷ (15, 5) ∷ (15, 25) ∷ (16, 5) ∷ (16, 25) ∷ (17, 5)
    ∷ (17, 25) ∷ (18, 5) ∷ (22, 5) ∷ (29, 5) ∷ (31, 5) ∷ (34, 5) ∷ (39, 5) ∷ (41, 5)
    ∷ []

-- what the grammar leaves to match in each state
abbrev pub rests : List Grammar
rests = grown ([] ∷ khmer_grammar ∷ []) parents

pub some : 1 < length rests
some = omega arith

pub start : state_in rests 1 ≡ khmer_grammar
start = refl

pub dead : state_in rests 0 ≡ []
dead = refl

pub rows : rows_hold rests COLUMNS rests ROWS ≡ true
rows = refl

pub columns : all_in_columns COLUMNS rests ≡ true
columns = refl

pub kinds : kinds_hold rests KINDS ≡ true
kinds = refl
