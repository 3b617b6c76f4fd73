-- The table of Script_Extensions has what the database lists.
use Rattle.std.proofs.Common.{◌≡◌, ℕ, ◌<◌, ◌≤◌, ◌==◌, ◌||◌, List, [], ◌∷◌, map, refl, sym, ap, subst, ◌∙◌, arith}
use Rattle.std.specs.List.{list_any}
use Rattle.ucd_table.specs.Groups.{group_at, HasGroup, IsGroupsOf}
use Rattle.ucd_table.specs.Steps.{run_value, IsPartition, IsRunsOf}
use Rattle.ucd_table.proofs.Computing.{tables}
use Rattle.ucd_table.proofs.GroupsCheck.{number_of, number_stepped, IsGroupsOf-Stepped}
use Rattle.ucd_table.proofs.RunsLemmas.{IsRunsOf-Stepped}
use Rattle.ucd_table.proofs.StepsLemmas.{step_value-here}
use Rattle.ucd_table.proofs.Stepped.{Stepped, map_stepped}
use Rattle.ucd_script.specs.Script.{script_number}
use Rattle.ucd_script.specs.ScriptExtensions.{listed_scripts}
use Rattle.ucd_script.specs.declared.Script.{Script}
use Rattle.ucd_script.proofs.ScriptExtensionsLemmas.{listed_scripts_stepped}
use Rattle.text_items.specs.declared.extension_table.TheConstants.{OFFSETS, RUNS, SCRIPTS}

abbrev listed_numbers : ℕ → List ℕ
listed_numbers c = map script_number (listed_scripts c)

unfoldable numbers_stepped : Stepped listed_numbers
unfolding listed_scripts_stepped
numbers_stepped = map_stepped (map script_number) listed_scripts listed_scripts_stepped

unfoldable number : ℕ → ℕ
number = number_of listed_numbers numbers_stepped

runs : IsRunsOf RUNS number
unfolding tables listed_scripts_stepped numbers_stepped number
runs = IsRunsOf-Stepped RUNS number (number_stepped listed_numbers numbers_stepped) refl

groups : IsGroupsOf OFFSETS SCRIPTS number listed_numbers
unfolding tables listed_scripts_stepped numbers_stepped number
groups = IsGroupsOf-Stepped OFFSETS SCRIPTS number listed_numbers numbers_stepped (λ c lt. refl) refl

pub runs_part : IsPartition RUNS
runs_part = runs.partition

pub has_list : (c : ℕ) → c ≤ 0x10_FFFF → HasGroup OFFSETS SCRIPTS (run_value RUNS c)
has_list c le = subst (HasGroup OFFSETS SCRIPTS) (sym (runs.values c le)) (groups.has c le)

pub list_is : (c : ℕ) → c ≤ 0x10_FFFF → group_at OFFSETS SCRIPTS (run_value RUNS c) ≡ listed_numbers c
list_is c le = ap (group_at OFFSETS SCRIPTS) (runs.values c le) ∙ groups.gives c le

no_run : (c : ℕ) → c < 0xB7 → run_value RUNS c ≡ 0
no_run c lt = step_value-here 0 (0xB7, 0) _ c lt

-- no character below the first of the table has a list
pub none_listed : (c : ℕ) → c < 0xB7 → [] ≡ listed_numbers c
none_listed c lt = sym (ap (group_at OFFSETS SCRIPTS) (no_run c lt)) ∙ list_is c (omega arith)

pub list_any-numbers : (number : ℕ) (scripts : List Script) → list_any (λ n. n == number) (map script_number scripts) ≡ list_any (λ s. script_number s == number) scripts
list_any-numbers number [] = refl
list_any-numbers number (s ∷ scripts) = ap (λ b. (script_number s == number) || b) (list_any-numbers number scripts)
