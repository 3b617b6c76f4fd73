-- rules of a set that begin with none of the values that the glyphs around a place tell
use Rattle.std.specs.Prelude.{◌≡◌, ℕ, Bool, true, List, Some, ◌<◌, ◌≤◌}
use Rattle.layout_matching.specs.Glance.{Tells, is_refused}
use Rattle.layout_matching.specs.Rules.{rule_place}
use Rattle.layout_matching.specs.declared.glance.Glances.{Glances}
use Rattle.layout_matching.specs.declared.scanning.Values.{Values}

-- those of a chained rule, or of another one
pub record TellsAll (is_chain : Bool) (v : Values) (g : Glances) : Type 0 where
  pub before : is_chain ≡ true → Tells v.before g.before
  pub input : Tells v.input g.input
  pub after : is_chain ≡ true → Tells v.after g.after

-- rule `k` of a set is refused
abbrev pub IsRefused : List ℕ → ℕ → Glances → Bool → ℕ → Type 0
IsRefused t set g is_chain k = (place : ℕ) → rule_place t set k ≡ Some place → is_refused t g is_chain place ≡ true

-- those from number `i` on, up to number `j`
abbrev pub AreRefused : List ℕ → ℕ → Glances → Bool → ℕ → ℕ → Type 0
AreRefused t set g is_chain i j = (k : ℕ) → i ≤ k → k < j → IsRefused t set g is_chain k
